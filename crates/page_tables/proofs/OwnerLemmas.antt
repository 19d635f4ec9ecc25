-- What claims make of the owners of pages, and of the pages that tell of them.
use Rattle.std.proofs.Common.{◌&&◌, ◌==◌, eq-eqb, refl, ◌≡◌, ◌≢◌, ℕ, zero, suc, ◌+◌, ◌-◌, ◌*◌, ◌/◌, ◌%◌, ◌^◌, ◌<◌, ◌≤◌, ◌||◌, List, length, ap, sym, ◌∙◌, subst, arith, Bool, true, false, cond, inl, inr, nat_lt, max}
use Rattle.std.specs.Prelude.{◌⊎◌, slice_index_or}
use Rattle.std.proofs.lemmas.Bool.{cases_eq, cases_Bool, ltb-true}
use Rattle.page_base.specs.declared.numbers.PageId.{PageId}
use Rattle.page_base.specs.Pages.{is_page, set_at}
use Rattle.page_base.proofs.PagesLemmas.{is_page-same, is_page-true}
use Rattle.page_fmt.specs.Bridge.{slots_in}
use Rattle.page_fmt.specs.Edits.{edited, slot_at, set_slot}
use Rattle.page_fmt.specs.Seen.{SlotsAt}
use Rattle.page_fmt.proofs.BridgeLemmas.{slots_in-edited}
use Rattle.page_fmt.proofs.CallerLemmas.{slot_at-edited_same, slot_at-edited_other}
use Rattle.page_fmt.proofs.SlotLemmas.{length-set_slot}
use Rattle.alloc_pages.specs.Owners.{owner_in, owner_at, owner_bytes, page_owner}
use Rattle.alloc_pages.specs.Spots.{spot_of}
use Rattle.alloc_pages.proofs.OwnerLemmas.{page_owner-same, page_owner-other, owner_in-owner_bytes, owner_in-four}
use Rattle.table_walk.specs.Plans.{also, is_claimed}
use Rattle.table_walk.proofs.FillSlots.{edited_some}
use Rattle.page_tables.specs.Owners.{is_there, owner, owns, span, IsAllocPage, IsSpread}
use Rattle.page_tables.specs.Writes.{with_claims, AreClaimable}

-- owners are those of the slots
pub owner_is : (at : SlotsAt) (q : PageId) → owner at q ≡ page_owner (slots_in at) q
owner_is at q = refl

pub page_cases : (q p : PageId) → (q ≡ p) ⊎ (is_page q p ≡ false)
page_cases q p = elim (cases_Bool (is_page q p)) [
  | inl t ↦ inl (is_page-true q p t)
  | inr f ↦ inr f
]

-- the slot of a page on its allocation page gets an owner
module _ (at : SlotsAt) (p : PageId) (o : ℕ) (small : o < 2 ^ 32) where
  abbrev pub given : SlotsAt
  given = set_at at (spot_of p).page (edited (at (spot_of p).page) (spot_of p).slot (owner_bytes o))

  pub owner_given : owner given p ≡ o
  owner_given = (λ i. page_owner (slots_in-edited at (spot_of p).page (spot_of p).slot (owner_bytes o) i) p) ∙ page_owner-same (slots_in at) p o small

  pub owner_kept : (q : PageId) → q ≢ p → owner given q ≡ owner at q
  owner_kept q ne = (λ i. page_owner (slots_in-edited at (spot_of p).page (spot_of p).slot (owner_bytes o) i) q) ∙ page_owner-other (slots_in at) p q (owner_bytes o) ne

  pub page_kept : (q : PageId) → q.page % 1280 ≢ 0 → given q ≡ at q
  page_kept q ne =
      let other : is_page (spot_of p).page q ≡ false = elim (page_cases (spot_of p).page q) [
        | inl e ↦ absurd (ne (ap (λ (r : PageId). r.page % 1280) (sym e) ∙ every p))
        | inr f ↦ f
      ] in
      ap (λ b. cond b (edited (at (spot_of p).page) (spot_of p).slot (owner_bytes o)) (at q)) other
    where
      every : (p : PageId) → (spot_of p).page.page % 1280 ≡ 0
      every p = omega arith

-- an allocation page that is there is no table's and not free
pub not_alloc : (counts : List ℕ) (at : SlotsAt) (p : PageId) → ((a : PageId) → IsAllocPage counts a → IsSpread counts at a) → is_there counts p ≡ true → owner at p ≢ 4294967295 → p.page % 1280 ≢ 0
not_alloc counts at p spread there ne every =
    let self : (spot_of p).page ≡ p = self_spot p every in
    let own : owner_at (at p) 0 ≡ 4294967295 = (spread p (record { there = there; every = every })).own in
    ne ((λ i. owner_at (at (self i)) (every i)) ∙ own)
  where
    self_spot : (p : PageId) → p.page % 1280 ≡ 0 → (spot_of p).page ≡ p
    self_spot p every = (let same : p.page / 1280 * 1280 ≡ p.page = omega (arith, every) in λ i. record { file = p.file; page = same i })

-- AN ALLOCATION PAGE

pub spread_same : (counts : List ℕ) (at other : SlotsAt) (a : PageId) → at a ≡ other a → IsSpread counts at a → IsSpread counts other a
spread_same counts at other a e s = record {
  long = subst (λ x. length x ≤ span counts a) e s.long;
  four = λ j h. subst (λ x. length (slot_at x j) ≡ 4) e (s.four j h);
  own = subst (λ x. owner_at x 0 ≡ 4294967295) e s.own;
  only = λ j h l. subst (λ x. owner_at x j ≢ 4294967295) e (s.only j h l);
}

module _ (counts : List ℕ) (o : ℕ) (small : o < 4294967295) where
  owner_read : owner_in (owner_bytes o) ≡ o
  owner_read = owner_in-owner_bytes o (omega (arith, small))

  no_alloc : owner_in (owner_bytes o) ≢ 4294967295
  no_alloc e = absurd (omega (arith, small, owner_read, e))

  -- the slot of a page that is there lies within the span of its allocation page
  within_span : (p : PageId) → is_there counts p ≡ true → p.page % 1280 < span counts (spot_of p).page
  within_span p there = by (nat_lt 1280 (slice_index_or counts p.file 0 - p.page / 1280 * 1280)) refl
    where
      below : p.page < slice_index_or counts p.file 0
      below = ltb-true p.page (slice_index_or counts p.file 0) there

      by : (b : Bool) → nat_lt 1280 (slice_index_or counts p.file 0 - p.page / 1280 * 1280) ≡ b → p.page % 1280 < cond b 1280 (slice_index_or counts p.file 0 - p.page / 1280 * 1280)
      by true e = omega arith
      by false e = omega (arith, below)

  told : (at other : SlotsAt) (p a : PageId) → (spot_of p).page ≡ a → is_there counts p ≡ true → p.page % 1280 ≢ 0 → other a ≡ edited (at a) (spot_of p).slot (owner_bytes o) → IsSpread counts at a → IsSpread counts other a
  told at other p a same there ne is s =
      let bytes : List ℕ = owner_bytes o in
      let four : length (owner_bytes o) ≡ 4 = owner_in-four (owner_bytes o) no_alloc in
      let within : p.page % 1280 < span counts a = subst (λ r. p.page % 1280 < span counts r) same (within_span p there) in
      let made : edited (at a) (p.page % 1280) bytes ≡ set_slot (at a) (p.page % 1280) bytes = edited_some (at a) (p.page % 1280) bytes (omega (arith, four)) in
      let size : length (other a) ≡ max (length (at a)) (p.page % 1280 + 1) = ap length is ∙ ap length made ∙ length-set_slot (at a) (p.page % 1280) bytes in
      record {
        long = omega (arith, size, s.long, within);
        four = λ k h. elim (cases_eq k (p.page % 1280)) [
          | inl e ↦ ap (λ x. length (slot_at x k)) is ∙ ap (λ i. length (slot_at (edited (at a) (p.page % 1280) bytes) i)) e ∙ ap length (slot_at-edited_same (at a) (p.page % 1280) bytes) ∙ four
          | inr d ↦ ap (λ x. length (slot_at x k)) is ∙ ap length (slot_at-edited_other (at a) (p.page % 1280) k bytes d) ∙ s.four k h
        ];
        own = ap (λ x. owner_at x 0) is ∙ ap owner_in (slot_at-edited_other (at a) (p.page % 1280) 0 bytes (λ e. ne (sym e))) ∙ s.own;
        only = λ k h l. elim (cases_eq k (p.page % 1280)) [
          | inl e ↦ λ f. no_alloc (sym (ap owner_in (slot_at-edited_same (at a) (p.page % 1280) bytes)) ∙ sym (ap (λ i. owner_at (edited (at a) (p.page % 1280) bytes) i) e) ∙ sym (ap (λ x. owner_at x k) is) ∙ f)
          | inr d ↦ λ f. s.only k h l (sym (ap owner_in (slot_at-edited_other (at a) (p.page % 1280) k bytes d)) ∙ sym (ap (λ x. owner_at x k) is) ∙ f)
        ];
      }

  -- the pages that tell of others go on doing so
  pub spread_given : (at : SlotsAt) (p a : PageId) → is_there counts p ≡ true → p.page % 1280 ≢ 0 → IsSpread counts at a → IsSpread counts (given at p o (omega (arith, small))) a
  spread_given at p a there ne s = elim (page_cases (spot_of p).page a) [
    | inr other ↦ spread_same counts at (given at p o (omega (arith, small))) a (sym (ap (λ b. cond b (edited (at (spot_of p).page) (spot_of p).slot (owner_bytes o)) (at a)) other)) s
    | inl same ↦ told at (given at p o (omega (arith, small))) p a same there ne
        (ap (λ b. cond b (edited (at (spot_of p).page) (spot_of p).slot (owner_bytes o)) (at a)) (ap (is_page (spot_of p).page) (sym same) ∙ is_page-same (spot_of p).page) ∙ ap (λ r. edited (at r) (spot_of p).slot (owner_bytes o)) same) s
  ]

-- ALL CLAIMS

module _ (counts : List ℕ) (number : ℕ) (claimed : ℕ → PageId) (small : number + 1 < 4294967295) where
  pub pages_kept : (n : ℕ) (at : SlotsAt) (q : PageId) → q.page % 1280 ≢ 0 → with_claims number claimed n at q ≡ at q
  pages_kept zero at q ne = refl
  pages_kept (suc n) at q ne = page_kept (with_claims number claimed n at) (claimed n) (number + 1) (omega (arith, small)) q ne ∙ pages_kept n at q ne

  pub owners_given : (n : ℕ) (at : SlotsAt) (q : PageId) → ((i j : ℕ) → i < j → j < n → claimed i ≢ claimed j) → owner (with_claims number claimed n at) q ≡ cond (is_claimed claimed n q) (number + 1) (owner at q)
  owners_given zero at q differ = refl
  owners_given (suc n) at q differ = elim (page_cases (claimed n) q) [
    | inl same ↦
        subst (λ r. owner (with_claims number claimed (suc n) at) r ≡ cond (is_page (claimed n) r || is_claimed claimed n r) (number + 1) (owner at r)) same
        (owner_given (with_claims number claimed n at) (claimed n) (number + 1) (omega (arith, small)) ∙ sym (ap (λ b. cond (b || is_claimed claimed n (claimed n)) (number + 1) (owner at (claimed n))) (is_page-same (claimed n))))
    | inr other ↦
        owner_kept (with_claims number claimed n at) (claimed n) (number + 1) (omega (arith, small)) q (λ e. let w : true ≡ false = sym (is_page-same (claimed n)) ∙ ap (is_page (claimed n)) (sym e) ∙ other in cc)
        ∙ owners_given n at q (λ i j h l. differ i j h (omega arith)) ∙ sym (ap (λ b. cond (b || is_claimed claimed n q) (number + 1) (owner at q)) other)
  ]

  -- a claimed page is one of them
  pub claim_of : (n : ℕ) (q : PageId) → is_claimed claimed n q ≡ true → (i : ℕ) × (i < n) × (claimed i ≡ q)
  claim_of zero q e = cc
  claim_of (suc n) q e = elim (page_cases (claimed n) q) [
    | inl same ↦ (n, omega arith, same)
    | inr other ↦
        let r = claim_of n q (sym (ap (λ b. b || is_claimed claimed n q) other) ∙ e) in
        (r.0, omega (arith, r.1), r.2)
  ]

  pub spread_kept : (n : ℕ) (at : SlotsAt) (a : PageId) → ((i : ℕ) → i < n → is_there counts (claimed i) ≡ true) → ((i : ℕ) → i < n → (claimed i).page % 1280 ≢ 0) → IsSpread counts at a → IsSpread counts (with_claims number claimed n at) a
  spread_kept zero at a there ne s = s
  spread_kept (suc n) at a there ne s = spread_given counts (number + 1) small (with_claims number claimed n at) (claimed n) a (there n (omega arith)) (ne n (omega arith)) (spread_kept n at a (λ i h. there i (omega arith)) (λ i h. ne i (omega arith)) s)

-- ONE EDIT

-- a page that doesn't tell of others may have any slots: whose each page is stays
pub owners_off : (at : SlotsAt) (p q : PageId) (slots : List (List ℕ)) → p.page % 1280 ≢ 0 → owner (set_at at p slots) q ≡ owner at q
owners_off at p q slots ne =
    let other : is_page p (spot_of q).page ≡ false = elim (page_cases p (spot_of q).page) [
      | inl e ↦ absurd (ne (ap (λ (r : PageId). r.page % 1280) e ∙ every q))
      | inr f ↦ f
    ] in
    ap (λ b. owner_at (cond b slots (at (spot_of q).page)) (spot_of q).slot) other
  where
    every : (q : PageId) → (spot_of q).page.page % 1280 ≡ 0
    every q = omega arith

-- WHAT A TABLE OWNS

-- once its claims are done a table owns the claimed pages too
pub owned_claims : (counts : List ℕ) (number : ℕ) (claimed : ℕ → PageId) → number + 1 < 4294967295 → (n : ℕ) (at : SlotsAt) → AreClaimable counts at claimed n → owns counts (with_claims number claimed n at) number ≡ also (owns counts at number) claimed n
owned_claims counts number claimed small n at c = λ i q. page q i
  where
    page : (q : PageId) → owns counts (with_claims number claimed n at) number q ≡ also (owns counts at number) claimed n q
    page q = elim (cases_Bool (is_claimed claimed n q)) [
      | inl t ↦
          let i = claim_of counts number claimed small n q t in
          let there : is_there counts q ≡ true = ap (is_there counts) (sym i.2) ∙ c.there i.0 i.1 in
          (λ k. there k && (owners_given counts number claimed small n at q c.differ ∙ ap (λ x. cond x (number + 1) (owner at q)) t) k == number + 1) ∙ eq-eqb (number + 1) (number + 1) refl ∙ sym (ap (λ x. owns counts at number q || x) t ∙ or_true (owns counts at number q))
      | inr f ↦
          ap (λ o. is_there counts q && o == number + 1) (owners_given counts number claimed small n at q c.differ ∙ ap (λ x. cond x (number + 1) (owner at q)) f) ∙ sym (ap (λ x. owns counts at number q || x) f ∙ or_false (owns counts at number q))
    ]
      where
        or_true : (x : Bool) → (x || true) ≡ true
        or_true true = refl
        or_true false = refl

        or_false : (x : Bool) → (x || false) ≡ x
        or_false true = refl
        or_false false = refl

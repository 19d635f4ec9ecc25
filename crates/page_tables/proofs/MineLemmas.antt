-- A writer's writes leave whose all other pages are, and what stands on these.
use Rattle.std.proofs.Common.{eq-eqb, eqb-true, refl, ◌≡◌, ◌≢◌, ℕ, ◌+◌, ◌*◌, ◌/◌, ◌%◌, ◌<◌, ◌==◌, ◌&&◌, List, [], ◌∷◌, ap, sym, ◌∙◌, subst, arith, Bool, true, false, cond, inl, inr}
use Rattle.std.specs.Prelude.{slice_index_or}
use Rattle.std.proofs.lemmas.Bool.{and_parts, ne_eqb, cases_Bool, ltb-true, lt-ltb}
use Rattle.page_base.specs.declared.numbers.PageId.{PageId}
use Rattle.page_base.specs.Pages.{is_page}
use Rattle.page_base.specs.Slots.{Slots}
use Rattle.page_base.proofs.PagesLemmas.{is_page-same}
use Rattle.page_fmt.specs.Seen.{SlotsAt}
use Rattle.alloc_pages.specs.Owners.{owner_in, owner_bytes, page_owner}
use Rattle.alloc_pages.specs.Spots.{spot_of}
use Rattle.alloc_pages.proofs.OwnerLemmas.{page_owner-same, page_owner-other, page_owner-page}
use Rattle.page_tables.specs.Owners.{is_there, owner, owns, IsSpread}
use Rattle.page_tables.specs.Sheets.{sheets}
use Rattle.page_tables.specs.Writes.{Write, done, claim, with_claims}
use Rattle.page_tables.specs.Mine.{written, IsMine, AreMine, AreSpread, Moves}
use Rattle.page_tables.proofs.OwnerLemmas.{page_cases, not_alloc, spread_kept, spread_same}
use Rattle.page_tables.proofs.SheetLemmas.{sheets_edited, sheet_same}
use Rattle.page_tables.proofs.WriteLemmas.{owner_in_sheets, few_slots}

pub every_spot : (q : PageId) → (spot_of q).page.page % 1280 ≡ 0
every_spot q = omega arith

-- the page that tells of a page that is there is there
pub spot_there : (counts : List ℕ) (q : PageId) → is_there counts q ≡ true → is_there counts (spot_of q).page ≡ true
spot_there counts q there = lt-ltb _ _ (omega (arith, ltb-true q.page (slice_index_or counts q.file 0) there))

differ : {P : Type 0} (b : Bool) → b ≡ true → b ≡ false → P
differ b t f = absurd (let wrong : true ≡ false = sym t ∙ f in cc)

-- a page that doesn't tell of others, by its owner
pub off_alloc : (counts : List ℕ) (s : Slots) (p : PageId) → AreSpread counts (sheets s) → is_there counts p ≡ true → page_owner s p ≢ 4294967295 → p.page % 1280 ≢ 0
off_alloc counts s p spread there ne = not_alloc counts (sheets s) p spread there (λ e. ne (sym (owner_in_sheets s p) ∙ e))

-- a page that tells of others is an allocation page's
pub alloc_owner : (counts : List ℕ) (s : Slots) (a : PageId) → AreSpread counts (sheets s) → is_there counts a ≡ true → a.page % 1280 ≡ 0 → page_owner s a ≡ 4294967295
alloc_owner counts s a spread there every =
    let self : (spot_of a).page ≡ a = (let same : a.page / 1280 * 1280 ≡ a.page = omega (arith, every) in λ i. record { file = a.file; page = same i }) in
    sym (owner_in_sheets s a) ∙ (λ i. owner_at_page (self i) (every i)) ∙ (spread a (record { there = there; every = every })).own
  where
    owner_at_page : PageId → ℕ → ℕ
    owner_at_page p j = owner_in (slice_index_or (sheets s p) j [])

module _ (counts : List ℕ) (writes : ℕ → Bool) (none : writes 0 ≡ false) (no_alloc : writes 4294967295 ≡ false) where
  real : (o : ℕ) → writes o ≡ true → o ≢ 4294967295
  real o t e = differ (writes 4294967295) (ap writes (sym e) ∙ t) no_alloc

  some : (o : ℕ) → writes o ≡ true → o ≢ 0
  some o t e = differ (writes 0) (ap writes (sym e) ∙ t) none

  module _ (s : Slots) (spread : AreSpread counts (sheets s)) where
    -- on a page of the writer's
    edit_moves : (w : Write) → is_there counts w.page ≡ true → writes (page_owner s w.page) ≡ true → Moves counts writes s (written w s)
    edit_moves w there mine =
        let off : w.page.page % 1280 ≢ 0 = off_alloc counts s w.page spread there (real (page_owner s w.page) mine) in
        let same : (q : PageId) → page_owner (written w s) q ≡ page_owner s q =
        λ q. page_owner-page s w.page q w.slot w.bytes (λ e. off (ap (λ (r : PageId). r.page % 1280) (sym e) ∙ every_spot q)) in
        record {
          spread = λ a alloc.
              let other : is_page w.page a ≡ false = elim (page_cases w.page a) [
                | inl e ↦ absurd (off (ap (λ (r : PageId). r.page % 1280) e ∙ alloc.every))
                | inr f ↦ f
              ] in
              let stays : written w s a ≡ s a = λ i j. cond (other i && w.slot == j) w.bytes (s a j) in
              spread_same counts (sheets s) (sheets (written w s)) a (sym (sheet_same (written w s) s a stays)) (spread a alloc);
          owners = λ q. inl (same q);
          slots = λ p out real. elim (page_cases w.page p) [
            | inl e ↦ differ (writes (page_owner s p)) (ap (λ (r : PageId). writes (page_owner s r)) (sym e) ∙ mine) (ap writes (sym (same p)) ∙ out)
            | inr f ↦ λ i j. cond (f i && w.slot == j) w.bytes (s p j)
          ];
        }

    -- a claim
    claim_moves : (page : PageId) (number : ℕ) → is_there counts page ≡ true → page_owner s page ≡ 0 → number + 1 < 4294967295 → writes (number + 1) ≡ true → Moves counts writes s (written (claim number page) s)
    claim_moves page number there free small given =
        let off : page.page % 1280 ≢ 0 = off_alloc counts s page spread there (λ e. absurd (omega (arith, e, free))) in
        let x : Slots = written (claim number page) s in
        let at : sheets x ≡ with_claims number (λ i. page) 1 (sheets s) = sheets_edited s (spot_of page).page (spot_of page).slot (owner_bytes (number + 1)) (few_slots page) in
        let now : page_owner x page ≡ number + 1 = page_owner-same s page (number + 1) (omega (arith, small)) in
        let same : (q : PageId) → q ≢ page → page_owner x q ≡ page_owner s q = λ q ne. page_owner-other s page q (owner_bytes (number + 1)) ne in
        record {
          spread = λ a alloc. subst (λ (t : SlotsAt). IsSpread counts t a) (sym at) (spread_kept counts number (λ i. page) small 1 (sheets s) a (λ i lt. there) (λ i lt. off) (spread a alloc));
          owners = λ q. elim (page_cases q page) [
            | inl e ↦ inr (ap (is_there counts) e ∙ there, ap (page_owner s) e ∙ free, ap (λ (r : PageId). writes (page_owner x r)) e ∙ ap writes now ∙ given)
            | inr f ↦ inl (same q (λ e. differ (is_page q page) (ap (λ (r : PageId). is_page r page) e ∙ is_page-same page) f))
          ];
          slots = λ p out not. elim (page_cases (spot_of page).page p) [
            | inl e ↦
                let all : page_owner s p ≡ 4294967295 = alloc_owner counts s p spread (ap (is_there counts) (sym e) ∙ spot_there counts page there) (ap (λ (r : PageId). r.page % 1280) (sym e) ∙ every_spot page) in
                absurd (not (same p (λ q. absurd (omega (arith, all, ap (page_owner s) q, free))) ∙ all))
            | inr f ↦ λ i j. cond (f i && (spot_of page).slot == j) (owner_bytes (number + 1)) (s p j)
          ];
        }

    pub one_moves : (w : Write) → IsMine counts writes s w → Moves counts writes s (written w s)
    one_moves w mine = elim mine [
      | inl e ↦ edit_moves w e.0 e.1
      | inr c ↦ subst (λ (v : Write). Moves counts writes s (written v s)) (sym c.is) (claim_moves c.page c.number c.there c.free c.small c.given)
    ]

  pub moves_joined : (s x y : Slots) → Moves counts writes s x → Moves counts writes x y → Moves counts writes s y
  moves_joined s x y a b = record {
    spread = b.spread;
    owners = λ p. elim (b.owners p) [
      | inl e ↦ elim (a.owners p) [
        | inl f ↦ inl (e ∙ f)
        | inr g ↦ inr (g.0, g.1, ap writes e ∙ g.2)
      ]
      | inr h ↦ elim (a.owners p) [
        | inl f ↦ inr (h.0, sym f ∙ h.1, h.2)
        | inr g ↦ differ (writes 0) (ap writes (sym h.1) ∙ g.2) none
      ]
    ];
    slots = λ p out real. elim (b.owners p) [
      | inl e ↦ b.slots p out real ∙ a.slots p (ap writes (sym e) ∙ out) (λ f. real (e ∙ f))
      | inr h ↦ differ (writes (page_owner y p)) h.2 out
    ];
  }

  pub nothing_moves : (s : Slots) → AreSpread counts (sheets s) → Moves counts writes s s
  nothing_moves s spread = record { spread = spread; owners = λ p. inl refl; slots = λ p out real. refl }

  pub all_move : (s : Slots) (ws : List Write) → AreSpread counts (sheets s) → AreMine counts writes s ws → Moves counts writes s (done ws s)
  all_move s [] spread mine = nothing_moves s spread
  all_move s (w ∷ ws) spread mine =
      let first = one_moves s spread w mine.0 in
      moves_joined s (written w s) (done ws (written w s)) first (all_move (written w s) ws first.spread mine.1)

-- a table of another owner has the pages that it had, with the slots that they had
module _ (counts : List ℕ) (writes : ℕ → Bool) (s x : Slots) (m : Moves counts writes s x) (number : ℕ) (out : writes (number + 1) ≡ false) (small : number + 1 < 4294967295) where
  -- its owner is the same before and after
  its_before : (p : PageId) → page_owner x p ≡ number + 1 → page_owner s p ≡ number + 1
  its_before p is = elim (m.owners p) [
    | inl e ↦ sym e ∙ is
    | inr g ↦ differ (writes (number + 1)) (ap writes (sym is) ∙ g.2) out
  ]

  its_after : (p : PageId) → page_owner s p ≡ number + 1 → page_owner x p ≡ number + 1
  its_after p is = elim (m.owners p) [
    | inl e ↦ e ∙ is
    | inr g ↦ absurd (omega (arith, g.1, is))
  ]

  same_test : (p : PageId) → (owner (sheets x) p == number + 1) ≡ (owner (sheets s) p == number + 1)
  same_test p = elim (cases_Bool (owner (sheets s) p == number + 1)) [
    | inl t ↦ eq-eqb (owner (sheets x) p) (number + 1) (owner_in_sheets x p ∙ its_after p (sym (owner_in_sheets s p) ∙ eqb-true (owner (sheets s) p) (number + 1) t)) ∙ sym t
    | inr f ↦ ne_eqb (owner (sheets x) p) (number + 1) (λ is. differ (owner (sheets s) p == number + 1) (eq-eqb (owner (sheets s) p) (number + 1) (owner_in_sheets s p ∙ its_before p (sym (owner_in_sheets x p) ∙ is))) f) ∙ sym f
  ]

  pub same_pages : owns counts (sheets x) number ≡ owns counts (sheets s) number
  same_pages = λ i p. is_there counts p && same_test p i

  pub same_slots_on : (p : PageId) → owns counts (sheets s) number p ≡ true → sheets s p ≡ sheets x p
  same_slots_on p own =
      let is : page_owner s p ≡ number + 1 = sym (owner_in_sheets s p) ∙ eqb-true (owner (sheets s) p) (number + 1) (and_parts (is_there counts p) (owner (sheets s) p == number + 1) own).1 in
      let now : page_owner x p ≡ number + 1 = its_after p is in
      sym (sheet_same x s p (m.slots p (ap writes now ∙ out) (λ e. absurd (omega (arith, e, now, small)))))

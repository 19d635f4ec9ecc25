-- A session's writes to come, once another's changes were committed.
use Rattle.std.proofs.Common.{◌≡◌, ◌≢◌, ℕ, zero, suc, ◌+◌, ◌%◌, ◌<◌, Bool, true, false, cond, ◌==◌, ◌&&◌, ◌||◌, List, [], ◌∷◌, ◌++◌, refl, ap, sym, subst, ◌∙◌, eqb-true, eq-eqb, inl, inr, arith}
use Rattle.std.specs.Prelude.{◌⊎◌}
use Rattle.std.proofs.lemmas.Bool.{cases_Bool, and_parts}
use Rattle.page_base.specs.declared.numbers.PageId.{PageId}
use Rattle.page_base.specs.Pages.{is_page}
use Rattle.page_base.specs.Slots.{Slots, with_slot}
use Rattle.page_base.proofs.PagesLemmas.{is_page-true, is_page-same, cases_page}
use Rattle.alloc_pages.specs.Owners.{owner_in, owner_bytes, page_owner}
use Rattle.alloc_pages.specs.Spots.{spot_of}
use Rattle.alloc_pages.proofs.OwnerLemmas.{page_owner-same, page_owner-other, page_owner-page, spots_apart}
use Rattle.plain_model.specs.Tables.{Tables}
use Rattle.rec_log.specs.Records.{Record}
use Rattle.rec_log.specs.Undone.{undone, LacksSlot}
use Rattle.rec_log.proofs.UndoneLemmas.{undone-push, undone-with_slot}
use Rattle.sys_cat.specs.declared.desc.TableDesc.{TableDesc}
use Rattle.page_tables.specs.Bases.{IsBase}
use Rattle.page_tables.specs.Mine.{written, IsMine, AreMine, IsClaim}
use Rattle.page_tables.specs.Owners.{is_there}
use Rattle.page_tables.specs.Sheets.{sheets}
use Rattle.page_tables.specs.Writes.{Write, done, claim}
use Rattle.page_tables.proofs.MineLemmas.{every_spot}
use Rattle.open_tables.specs.Names.{names, AreClaims}
use Rattle.open_commits.specs.Joins.{Joins}
use Rattle.open_commits.specs.Within.{LieWithin, AreApart, TellOwners}
use Rattle.open_commits.proofs.WithinLemmas.{differ, unnamed, spread_tells, tells_over}
use Rattle.open_commits.proofs.JoinLemmas.{joined}

or_cases : (b c : Bool) → (b || c) ≡ true → (b ≡ true) ⊎ (c ≡ true)
or_cases true c e = inl refl
or_cases false c e = inr e

-- a slot that one record more names
named_more : (xs : List Record) (r : Record) (p : PageId) (i : ℕ) → names (xs ++ r ∷ []) p i ≡ true → (names xs p i ≡ true) ⊎ ((r.page ≡ p) × (r.slot ≡ i))
named_more [] r p i e = elim (or_cases (is_page r.page p && r.slot == i) false e) [
  | inl t ↦ let f = and_parts (is_page r.page p) (r.slot == i) t in inr (is_page-true r.page p f.0, eqb-true r.slot i f.1)
  | inr t ↦ differ false t refl
]
named_more (x ∷ xs) r p i e = elim (or_cases (is_page x.page p && x.slot == i) (names (xs ++ r ∷ []) p i) e) [
  | inl t ↦ inl (ap (λ b. b || names xs p i) t)
  | inr t ↦ elim (named_more xs r p i t) [
    | inl u ↦ inl (last (is_page x.page p && x.slot == i) (names xs p i) u)
    | inr u ↦ inr u
  ]
]
  where
    last : (b c : Bool) → c ≡ true → (b || c) ≡ true
    last true c e = refl
    last false c e = e

claims_more : (xs : List Record) (r : Record) → AreClaims xs → ((q : PageId) → r.page ≡ (spot_of q).page → r.slot ≡ (spot_of q).slot → owner_in r.before ≡ 0) → AreClaims (xs ++ r ∷ [])
claims_more [] r c h = (h, tt)
claims_more (x ∷ xs) r c h = (c.0, claims_more xs r c.1 h)

-- records that don't name a slot lack it
pub lacking : (xs : List Record) (p : PageId) (i : ℕ) → names xs p i ≡ false → LacksSlot xs p i
lacking [] p i e = tt
lacking (r ∷ rs) p i e = let k = parts (is_page r.page p && r.slot == i) (names rs p i) e in
    ((λ a b. differ (is_page r.page p && r.slot == i) (both a b) k.0), lacking rs p i k.1)
  where
    parts : (b c : Bool) → (b || c) ≡ false → (b ≡ false) × (c ≡ false)
    parts true c e = differ true refl e
    parts false c e = (refl, e)

    both : p ≡ r.page → i ≡ r.slot → (is_page r.page p && r.slot == i) ≡ true
    both a b = ap (λ t. t && r.slot == i) (ap (λ (q : PageId). is_page q p) (sym a) ∙ is_page-same p) ∙ eq-eqb r.slot i (sym b)

same_spot : (p q : PageId) → (spot_of p).page ≡ (spot_of q).page → (spot_of p).slot ≡ (spot_of q).slot → p ≡ q
same_spot p q a b = elim (cases_page p q) [ inl e ↦ e | inr ne ↦ absurd (spots_apart p q ne a b) ]

-- the record of a write
abbrev pub record_of : Slots → Write → Record
record_of s w = record { page = w.page; slot = w.slot; before = s w.page w.slot; after = w.bytes }

module _ (counts : List ℕ) (x : Slots) (mine theirs : ℕ → Bool) (own others : List Record) (is_apart : AreApart mine theirs) (tell : TellOwners counts x) (lie_own : LieWithin mine x own) (lie_others : LieWithin theirs x others) (w : Write) where
  abbrev z : Slots
  z = written w x

  -- ON A PAGE OF ONE'S OWN

  module _ (there : is_there counts w.page ≡ true) (is_own : mine (page_owner x w.page) ≡ true) where
    off : w.page.page % 1280 ≢ 0
    off every = differ (mine (page_owner x w.page)) is_own (ap mine (tell w.page there every) ∙ is_apart.allocation.0)

    no_spot : (q : PageId) → (spot_of q).page ≢ w.page
    no_spot q e = off (ap (λ (r : PageId). r.page % 1280) (sym e) ∙ every_spot q)

    owner_same : (q : PageId) → page_owner (written w x) q ≡ page_owner x q
    owner_same q = page_owner-page x w.page q w.slot w.bytes (no_spot q)

    edit_own : LieWithin mine (written w x) (own ++ record_of x w ∷ [])
    edit_own = record {
      claims = claims_more own (record_of x w) lie_own.claims (λ q a b. absurd (no_spot q (sym a)));
      claimed = λ q t. elim (named_more own (record_of x w) (spot_of q).page (spot_of q).slot t) [
        | inl u ↦ ap mine (owner_same q) ∙ lie_own.claimed q u
        | inr u ↦ absurd (no_spot q (sym u.0))
      ];
      edits = λ p i t. elim (named_more own (record_of x w) p i t) [
        | inl u ↦ elim (lie_own.edits p i u) [
          | inl v ↦ inl (v.0, ap mine (owner_same p) ∙ v.1)
          | inr v ↦ inr v
        ]
        | inr u ↦ inl ((λ e. off (ap (λ (r : PageId). r.page % 1280) u.0 ∙ e)), ap mine (owner_same p) ∙ ap (λ (r : PageId). mine (page_owner x r)) (sym u.0) ∙ is_own)
      ];
    }

    edit_others : LieWithin theirs (written w x) others
    edit_others = record {
      claims = lie_others.claims;
      claimed = λ q t. ap theirs (owner_same q) ∙ lie_others.claimed q t;
      edits = λ p i t. elim (lie_others.edits p i t) [
        | inl v ↦ inl (v.0, ap theirs (owner_same p) ∙ v.1)
        | inr v ↦ inr v
      ];
    }

    edit_lacks : names others w.page w.slot ≡ false
    edit_lacks = elim (cases_Bool (names others w.page w.slot)) [
      | inr f ↦ f
      | inl t ↦ elim (lie_others.edits w.page w.slot t) [
        | inl v ↦ differ (theirs (page_owner x w.page)) v.1 (is_apart.apart (page_owner x w.page) is_own)
        | inr q ↦ absurd (no_spot q.0 q.1)
      ]
    ]

    edit_tells : TellOwners counts (written w x)
    edit_tells p in_file every = owner_same p ∙ tell p in_file every

  -- A CLAIM

  module _ (c : IsClaim counts mine x w) where
    at_page : w.page ≡ (spot_of c.page).page
    at_page = ap (λ (v : Write). v.page) c.is

    at_slot : w.slot ≡ (spot_of c.page).slot
    at_slot = ap (λ (v : Write). v.slot) c.is

    now : page_owner (written w x) c.page ≡ c.number + 1
    now = ap (λ (v : Write). page_owner (written v x) c.page) c.is ∙ page_owner-same x c.page (c.number + 1) (omega (arith, c.small))

    else_same : (q : PageId) → q ≢ c.page → page_owner (written w x) q ≡ page_owner x q
    else_same q ne = ap (λ (v : Write). page_owner (written v x) q) c.is ∙ page_owner-other x c.page q (owner_bytes (c.number + 1)) ne

    -- an owner that someone writes stays
    kept : (writes : ℕ → Bool) (q : PageId) → writes 0 ≡ false → writes (page_owner x q) ≡ true → writes (page_owner (written w x) q) ≡ true
    kept writes q none t = ap writes (else_same q (λ e. differ (writes 0) (ap writes (sym c.free ∙ ap (page_owner x) (sym e)) ∙ t) none)) ∙ t

    claim_own : LieWithin mine (written w x) (own ++ record_of x w ∷ [])
    claim_own = record {
      claims = claims_more own (record_of x w) lie_own.claims (λ q a b.
          let is : q ≡ c.page = same_spot q c.page (sym a ∙ at_page) (sym b ∙ at_slot) in
          ap owner_in ((λ t. x (a t) (b t))) ∙ ap (page_owner x) is ∙ c.free);
      claimed = λ q t. elim (named_more own (record_of x w) (spot_of q).page (spot_of q).slot t) [
        | inl u ↦ kept mine q is_apart.free.0 (lie_own.claimed q u)
        | inr u ↦
            let is : q ≡ c.page = same_spot q c.page (sym u.0 ∙ at_page) (sym u.1 ∙ at_slot) in
            ap (λ (r : PageId). mine (page_owner (written w x) r)) is ∙ ap mine now ∙ c.given
      ];
      edits = λ p i t. elim (named_more own (record_of x w) p i t) [
        | inl u ↦ elim (lie_own.edits p i u) [
          | inl v ↦ inl (v.0, kept mine p is_apart.free.0 v.1)
          | inr v ↦ inr v
        ]
        | inr u ↦ inr (c.page, sym at_page ∙ u.0, sym at_slot ∙ u.1)
      ];
    }

    claim_others : LieWithin theirs (written w x) others
    claim_others = record {
      claims = lie_others.claims;
      claimed = λ q t. kept theirs q is_apart.free.1 (lie_others.claimed q t);
      edits = λ p i t. elim (lie_others.edits p i t) [
        | inl v ↦ inl (v.0, kept theirs p is_apart.free.1 v.1)
        | inr v ↦ inr v
      ];
    }

    claim_lacks : names others w.page w.slot ≡ false
    claim_lacks = elim (cases_Bool (names others w.page w.slot)) [
      | inr f ↦ f
      | inl t ↦
          let u : names others (spot_of c.page).page (spot_of c.page).slot ≡ true = sym (ap (λ (r : PageId). names others r w.slot) at_page ∙ ap (names others (spot_of c.page).page) at_slot) ∙ t in
          differ (theirs 0) (ap theirs (sym c.free) ∙ lie_others.claimed c.page u) is_apart.free.1
    ]

    claim_tells : TellOwners counts (written w x)
    claim_tells p in_file every = else_same p (λ e. absurd (omega (arith, c.free, ap (page_owner x) (sym e) ∙ tell p in_file every))) ∙ tell p in_file every

  -- A WRITE OF ONE'S OWN

  pub write_own : IsMine counts mine x w → LieWithin mine (written w x) (own ++ record_of x w ∷ [])
  write_own m = elim m [ inl e ↦ edit_own e.0 e.1 | inr c ↦ claim_own c ]

  pub write_others : IsMine counts mine x w → LieWithin theirs (written w x) others
  write_others m = elim m [ inl e ↦ edit_others e.0 e.1 | inr c ↦ claim_others c ]

  pub write_lacks : IsMine counts mine x w → names others w.page w.slot ≡ false
  write_lacks m = elim m [ inl e ↦ edit_lacks e.0 e.1 | inr c ↦ claim_lacks c ]

  pub write_tells : IsMine counts mine x w → TellOwners counts (written w x)
  write_tells m = elim m [ inl e ↦ edit_tells e.0 e.1 | inr c ↦ claim_tells c ]

-- ALL WRITES TO COME

pub plans_joined : (ws : List Write) (counts : List ℕ) (ds : List TableDesc) (x : Slots) (mine theirs : ℕ → Bool) (own others : List Record) (a b c : Tables)
    → AreApart mine theirs → LieWithin mine x own → LieWithin theirs x others → AreMine counts mine x ws
    → IsBase counts (sheets (undone own x)) ds a → IsBase counts (sheets (done ws (undone others x))) ds b → Joins ds theirs a b c
    → IsBase counts (sheets (done ws x)) ds c
plans_joined [] counts ds x mine theirs own others a b c is_apart lie_own lie_others go at_a at_b join =
    joined counts ds x mine theirs own [] others a b c is_apart lie_own nothing lie_others at_a at_b join
  where
    nothing : LieWithin mine x []
    nothing = record { claims = tt; claimed = λ q t. differ false t refl; edits = λ p i t. differ false t refl }
plans_joined (w ∷ ws) counts ds x mine theirs own others a b c is_apart lie_own lie_others go at_a at_b join =
    let tell : TellOwners counts x = tells_over counts x own lie_own.claims (spread_tells counts (undone own x) at_a.spread) in
    plans_joined ws counts ds (written w x) mine theirs (own ++ record_of x w ∷ []) others a b c is_apart
    (write_own counts x mine theirs own others is_apart tell lie_own lie_others w go.0) (write_others counts x mine theirs own others is_apart tell lie_own lie_others w go.0) go.1
    (subst (λ (s : Slots). IsBase counts (sheets s) ds a) (sym (undone-push own x w.page w.slot w.bytes)) at_a)
    (subst (λ (s : Slots). IsBase counts (sheets (done ws s)) ds b) (sym (undone-with_slot others x w.page w.slot w.bytes (lacking others w.page w.slot (write_lacks counts x mine theirs own others is_apart tell lie_own lie_others w go.0)))) at_b) join

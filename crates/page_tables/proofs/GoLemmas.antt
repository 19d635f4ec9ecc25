-- The claims and edits of a plan go in turn, and are the table's own.
use Rattle.std.proofs.Common.{refl, ◌≡◌, ◌≢◌, ℕ, zero, suc, ◌+◌, ◌-◌, ◌*◌, ◌<◌, ◌≤◌, List, [], ◌∷◌, ◌++◌, length, map, get_or, ap, sym, ◌∙◌, subst, arith, Bool, true, false, cond, inl, inr}
use Rattle.std.specs.Prelude.{nat_lt, slice_index_or}
use Rattle.std.proofs.lemmas.List.{length-append}
use Rattle.std.proofs.lemmas.Bool.{cases_eq, ltb-false, cases_Bool}
use Rattle.page_base.specs.declared.numbers.PageId.{PageId}
use Rattle.page_base.specs.Slots.{Slots, with_slot}
use Rattle.page_base.proofs.PagesLemmas.{is_page-same}
use Rattle.page_fmt.specs.Edits.{slot_at}
use Rattle.page_fmt.specs.Seen.{SlotsAt}
use Rattle.page_fmt.specs.Spelling.{used, row_bytes}
use Rattle.alloc_pages.specs.Owners.{owner_in, owner_bytes, page_owner}
use Rattle.alloc_pages.specs.Spots.{spot_of}
use Rattle.alloc_pages.proofs.OwnerLemmas.{owner_in-owner_bytes, owner_in-four, page_owner-same, page_owner-other}
use Rattle.table_walk.specs.declared.plan.Edit.{Edit}
use Rattle.table_walk.specs.Plans.{place, bytes_of, slots_after, changed, also, Go, AreWithin, is_claimed}
use Rattle.page_tables.specs.Owners.{is_there, owner, span, IsSpread}
use Rattle.page_tables.specs.Sheets.{sheets}
use Rattle.page_tables.specs.Writes.{Write, done, claim, claims, write_of, AreClaimable}
use Rattle.page_tables.specs.Claims.{claims_from, Claimable}
use Rattle.page_tables.specs.Mine.{written, MayWrite, MayWriteAll, IsMine, AreMine, AreSpread, Moves}
use Rattle.page_tables.proofs.OwnerLemmas.{owners_given, claim_of}
use Rattle.page_tables.proofs.SheetLemmas.{slot_of_sheet, sheets_edited}
use Rattle.page_tables.proofs.WriteLemmas.{few_slots, claims_done, owner_in_sheets}
use Rattle.page_tables.proofs.MineLemmas.{every_spot, spot_there, one_moves, all_move}

-- ---- one list of writes behind another

pub mine_both : (counts : List ℕ) (writes : ℕ → Bool) (xs ys : List Write) (s : Slots) → AreMine counts writes s xs → AreMine counts writes (done xs s) ys → AreMine counts writes s (xs ++ ys)
mine_both counts writes [] ys s a b = b
mine_both counts writes (x ∷ xs) ys s a b = (a.0, mine_both counts writes xs ys (written x s) a.1 b)

pub go_both : (counts : List ℕ) (xs ys : List Write) (s : Slots) → MayWriteAll counts s xs → MayWriteAll counts (done xs s) ys → MayWriteAll counts s (xs ++ ys)
go_both counts [] ys s a b = b
go_both counts (x ∷ xs) ys s a b = (a.0, go_both counts xs ys (written x s) a.1 b)

-- ---- one claim

-- so many slots of four bytes
four_each : (xs : List (List ℕ)) → ((j : ℕ) → j < length xs → length (get_or xs j []) ≡ 4) → row_bytes xs ≡ 4 * length xs
four_each [] h = refl
four_each (x ∷ xs) h =
    let later = four_each xs (λ j lt. h (suc j) (omega arith)) in
    let here : length x ≡ 4 = h 0 (omega arith) in
    omega (arith, here, later)

few_span : (counts : List ℕ) (a : PageId) → span counts a ≤ 1280
few_span counts a = by (nat_lt 1280 (slice_index_or counts a.file 0 - a.page)) refl
  where
    by : (b : Bool) → nat_lt 1280 (slice_index_or counts a.file 0 - a.page) ≡ b → cond b 1280 (slice_index_or counts a.file 0 - a.page) ≤ 1280
    by true e = omega arith
    by false e = ltb-false 1280 (slice_index_or counts a.file 0 - a.page) e

-- an allocation page has room
alloc_room : (counts : List ℕ) (at : SlotsAt) (a : PageId) → IsSpread counts at a → used (at a) ≤ 8192
alloc_room counts at a s =
    let few = few_span counts a in
    let long = s.long in
    omega (arith, four_each (at a) (λ j lt. s.four j (omega arith)))

-- a page that is there may get another owner
pub owner_may : (counts : List ℕ) (s : Slots) (page : PageId) (o : ℕ) → AreSpread counts (sheets (with_slot s (spot_of page).page (spot_of page).slot (owner_bytes o))) → is_there counts page ≡ true → page_owner s page ≢ o → o < 4294967295 → MayWrite counts s (record { page = (spot_of page).page; slot = (spot_of page).slot; bytes = owner_bytes o })
owner_may counts s page o spread there differs small =
    let told : owner_in (owner_bytes o) ≡ o = owner_in-owner_bytes o (omega (arith, small)) in
    let four : length (owner_bytes o) ≡ 4 = owner_in-four (owner_bytes o) (λ e. absurd (omega (arith, e, told, small))) in
    record {
      there = spot_there counts page there;
      index = few_slots page;
      short = omega (arith, four);
      room = alloc_room counts (sheets (with_slot s (spot_of page).page (spot_of page).slot (owner_bytes o))) (spot_of page).page (spread (spot_of page).page (record { there = spot_there counts page there; every = every_spot page }));
      changes = λ e. differs (ap owner_in e ∙ told);
    }

pub claim_may : (counts : List ℕ) (s : Slots) (page : PageId) (number : ℕ) → AreSpread counts (sheets (written (claim number page) s)) → is_there counts page ≡ true → page_owner s page ≡ 0 → number + 1 < 4294967295 → MayWrite counts s (claim number page)
claim_may counts s page number spread there free small = owner_may counts s page (number + 1) spread there (λ e. absurd (omega (arith, e, free))) small

-- ---- all claims

module _ (counts : List ℕ) (writes : ℕ → Bool) (none : writes 0 ≡ false) (no_alloc : writes 4294967295 ≡ false) (number : ℕ) (small : number + 1 < 4294967295) (given : writes (number + 1) ≡ true) (claimed : ℕ → PageId) (s : Slots) (spread : AreSpread counts (sheets s)) where
  -- the next page is still free
  pub not_before : (n : ℕ) → AreClaimable counts (sheets s) claimed (suc n) → is_claimed claimed n (claimed n) ≡ false
  not_before n c = elim (cases_Bool (is_claimed claimed n (claimed n))) [
    | inl t ↦ let i = claim_of counts number claimed small n (claimed n) t in absurd (c.differ i.0 n i.1 (omega arith) i.2)
    | inr f ↦ f
  ]

  pub next_free : (n : ℕ) → AreClaimable counts (sheets s) claimed (suc n) → page_owner (done (claims number claimed n) s) (claimed n) ≡ 0
  next_free n c =
      sym (owner_in_sheets (done (claims number claimed n) s) (claimed n))
      ∙ (λ i. owner (claims_done number claimed n s i) (claimed n))
      ∙ owners_given counts number claimed small n (sheets s) (claimed n) (λ i j h l. c.differ i j h (omega arith))
      ∙ ap (λ b. cond b (number + 1) (owner (sheets s) (claimed n))) (not_before n c)
      ∙ c.free n (omega arith)

  pub fewer : (n : ℕ) → AreClaimable counts (sheets s) claimed (suc n) → AreClaimable counts (sheets s) claimed n
  fewer n c = record { there = λ i h. c.there i (omega arith); free = λ i h. c.free i (omega arith); differ = λ i j h l. c.differ i j h (omega arith); targets = λ i h. c.targets i (omega arith) }

  pub claims_mine : (n : ℕ) → AreClaimable counts (sheets s) claimed n → AreMine counts writes s (claims number claimed n)
  claims_mine zero c = tt
  claims_mine (suc n) c =
      mine_both counts writes (claims number claimed n) (claim number (claimed n) ∷ []) s (claims_mine n (fewer n c))
      (inr (record { page = claimed n; number = number; is = refl; there = c.there n (omega arith); free = next_free n c; small = small; given = given }), tt)

  pub claims_go : (n : ℕ) → AreClaimable counts (sheets s) claimed n → MayWriteAll counts s (claims number claimed n)
  claims_go zero c = tt
  claims_go (suc n) c =
      let here : Slots = done (claims number claimed n) s in
      let moves = all_move counts writes none no_alloc s (claims number claimed n) spread (claims_mine n (fewer n c)) in
      let mine : IsMine counts writes here (claim number (claimed n)) = inr (record { page = claimed n; number = number; is = refl; there = c.there n (omega arith); free = next_free n c; small = small; given = given }) in
      go_both counts (claims number claimed n) (claim number (claimed n) ∷ []) s (claims_go n (fewer n c))
      (claim_may counts here (claimed n) number (one_moves counts writes none no_alloc here moves.spread (claim number (claimed n)) mine).spread (c.there n (omega arith)) (next_free n c) small, tt)

-- ---- edits

module _ (counts : List ℕ) (writes : ℕ → Bool) (none : writes 0 ≡ false) (no_alloc : writes 4294967295 ≡ false) (claimed : ℕ → PageId) (n : ℕ) (mine : PageId → Bool) where
  -- each page on which the edits may be is there, and the writer's
  abbrev pub AreOwn : Slots → Type 0
  AreOwn y = (q : PageId) → also mine claimed n q ≡ true → (is_there counts q ≡ true) × (writes (page_owner y q) ≡ true)

  own_on : (y : Slots) (w : Write) → AreOwn y → Moves counts writes y (written w y) → AreOwn (written w y)
  own_on y w own m q t = (
    (own q t).0,
    elim (m.owners q) [
      | inl e ↦ ap writes e ∙ (own q t).1
      | inr g ↦ g.2
    ],
  )

  pub edits_mine : (es : List Edit) (y : Slots) → AreSpread counts (sheets y) → AreOwn y → AreWithin claimed n mine es → AreMine counts writes y (map (write_of claimed) es)
  edits_mine [] y spread own within = tt
  edits_mine (e ∷ es) y spread own within =
      let w : Write = write_of claimed e in
      let its : IsMine counts writes y w = inl (own (place claimed e.spot) within.0) in
      let m = one_moves counts writes none no_alloc y spread w its in
      (its, edits_mine es (written w y) m.spread (own_on y w own m) within.1)

  pub edits_go : (es : List Edit) (y : Slots) (at : SlotsAt) → sheets y ≡ at → Go claimed at es → AreOwn y → AreSpread counts (sheets y) → AreWithin claimed n mine es → MayWriteAll counts y (map (write_of claimed) es)
  edits_go [] y at is go own spread within = tt
  edits_go (e ∷ es) y at is go own spread within =
      let p : PageId = place claimed e.spot in
      let w : Write = write_of claimed e in
      let its : IsMine counts writes y w = inl (own p within.0) in
      let m = one_moves counts writes none no_alloc y spread w its in
      let next : sheets (written w y) ≡ changed claimed at e = sheets_edited y p e.slot (bytes_of claimed e) go.0.index ∙ ap (λ (x : SlotsAt). changed claimed x e) is in
      let here : sheets (written w y) p ≡ slots_after claimed at e = (λ i. next i p) ∙ ap (λ b. cond b (slots_after claimed at e) (at p)) (is_page-same p) in (
        record {
          there = (own p within.0).0;
          index = go.0.index;
          short = go.0.short;
          room = subst (λ slots. used slots ≤ 8192) (sym here) go.0.room;
          changes = λ same. go.0.changes ((λ i. slot_at (sym is i p) e.slot) ∙ slot_of_sheet y p e.slot go.0.index ∙ same);
        },
        edits_go es (written w y) (changed claimed at e) next go.1 (own_on y w own m) m.spread within.1,
      )

-- ---- claims to come

one_first : (number : ℕ) (claimed : ℕ → PageId) (i k : ℕ) → claims_from number claimed i (suc k) ≡ claims_from number claimed i k ++ claim number (claimed (i + k)) ∷ []
one_first number claimed i zero = (let same : i ≡ i + 0 = omega arith in ap (λ m. claim number (claimed m) ∷ []) same)
one_first number claimed i (suc k) =
    (let same : (i + 1) + k ≡ i + suc k = omega arith in
    ap (λ ws. claim number (claimed i) ∷ ws) (one_first number claimed (i + 1) k ∙ ap (λ m. claims_from number claimed (i + 1) k ++ claim number (claimed m) ∷ []) same))

pub claims_are : (number : ℕ) (claimed : ℕ → PageId) (n : ℕ) → claims_from number claimed 0 n ≡ claims number claimed n
claims_are number claimed zero = refl
claims_are number claimed (suc n) = one_first number claimed 0 n ∙ (let same : 0 + n ≡ n = omega arith in λ i. claims_are number claimed n i ++ claim number (claimed (same i)) ∷ [])

pub claimable_first : (counts : List ℕ) (s : Slots) (n : ℕ) (claimed : ℕ → PageId) → Claimable counts s [] n claimed → AreClaimable counts (sheets s) claimed n
claimable_first counts s n claimed c = record { there = λ i h. c.there i (omega arith) h; free = λ i h. owner_in_sheets s (claimed i) ∙ c.free i (omega arith) h; differ = c.differ; targets = c.targets }

module _ (counts : List ℕ) (s : Slots) (taken : List PageId) (n number : ℕ) (p : PageId) (claimed : ℕ → PageId) (there : is_there counts p ≡ true) (free : page_owner s p ≡ 0) (small : number + 1 < 4294967295) (room : length taken < n)
    (c : Claimable counts (written (claim number p) s) (taken ++ p ∷ []) n claimed) where
  longer : length (taken ++ p ∷ []) ≡ length taken + 1
  longer = length-append taken (p ∷ [])

  -- the page that was claimed is the next one
  newest : p ≡ claimed (length taken)
  newest = sym (last taken p) ∙ c.were (length taken) (omega (arith, longer)) p
    where
      last : (xs : List PageId) (d : PageId) → get_or (xs ++ p ∷ []) (length xs) d ≡ p
      last [] d = refl
      last (x ∷ xs) d = last xs d

  front : (xs : List PageId) (i : ℕ) (d : PageId) → i < length xs → get_or (xs ++ p ∷ []) i d ≡ get_or xs i d
  front [] i d lt = absurd (omega arith)
  front (x ∷ xs) zero d lt = refl
  front (x ∷ xs) (suc i) d lt = front xs i d (omega arith)

  was_free : (i : ℕ) → length taken ≤ i → i < n → page_owner s (claimed i) ≡ 0
  was_free i le lt = elim (cases_eq i (length taken)) [
    | inl e ↦ ap (λ m. page_owner s (claimed m)) e ∙ ap (page_owner s) (sym newest) ∙ free
    | inr ne ↦
        let now : page_owner (written (claim number p) s) (claimed i) ≡ 0 = c.free i (omega (arith, longer, le, ne)) lt in
        sym (page_owner-other s p (claimed i) (owner_bytes (number + 1)) (λ e. absurd (omega (arith, now, ap (page_owner (written (claim number p) s)) e, page_owner-same s p (number + 1) (omega (arith, small)))))) ∙ now
  ]

  pub claimable_before : Claimable counts s taken n claimed
  claimable_before = record {
    were = λ i lt d. sym (front taken i d lt) ∙ c.were i (omega (arith, longer, lt)) d;
    there = λ i le lt. elim (cases_eq i (length taken)) [
      | inl e ↦ ap (λ m. is_there counts (claimed m)) e ∙ ap (is_there counts) (sym newest) ∙ there
      | inr ne ↦ c.there i (omega (arith, longer, le, ne)) lt
    ];
    free = was_free;
    differ = c.differ;
    targets = c.targets;
  }

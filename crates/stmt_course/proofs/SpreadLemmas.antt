-- Writes that leave the allocation pages such: those on other pages, and those that give a page an owner.
use Rattle.std.proofs.Common.{refl, ◌≡◌, ◌≢◌, ◌⊎◌, inl, inr, ℕ, ◌+◌, ◌%◌, ◌<◌, ◌≤◌, ◌==◌, ◌&&◌, ◌||◌, Bool, true, false, cond, List, [], ◌∷◌, ◌++◌, length, map, ap, sym, ◌∙◌, subst, arith}
use Rattle.std.specs.List.{AllByRecursion}
use Rattle.page_base.specs.declared.numbers.PageId.{PageId}
use Rattle.page_base.specs.Pages.{is_page}
use Rattle.page_base.specs.Slots.{Slots}
use Rattle.page_base.proofs.PagesLemmas.{is_page-same}
use Rattle.page_fmt.specs.Seen.{SlotsAt}
use Rattle.alloc_pages.specs.Owners.{owner_bytes}
use Rattle.alloc_pages.specs.Spots.{spot_of}
use Rattle.table_walk.specs.declared.plan.Edit.{Edit}
use Rattle.table_walk.specs.Plans.{place, also, AreWithin}
use Rattle.page_tables.specs.Dropping.{release}
use Rattle.page_tables.specs.Mine.{written, AreSpread}
use Rattle.page_tables.specs.Owners.{is_there, IsSpread}
use Rattle.page_tables.specs.Sheets.{sheets}
use Rattle.page_tables.specs.Writes.{Write, write_of}
use Rattle.page_tables.proofs.FreeLemmas.{is_among}
use Rattle.page_tables.proofs.OwnerLemmas.{page_cases, spread_same, spread_given}
use Rattle.page_tables.proofs.SheetLemmas.{sheets_edited, sheet_same}
use Rattle.page_tables.proofs.WriteLemmas.{few_slots}
use Rattle.step_words.specs.Coming.{claims_of}
use Rattle.stmt_course.specs.Bringing.{SpreadAll}

-- the page is there, and tells of no others
abbrev pub IsOff : List ℕ → PageId → Type 0
IsOff files p = (is_there files p ≡ true) × (p.page % 1280 ≢ 0)

abbrev pub Gives : List ℕ → Write → Type 0
Gives files w = (p : PageId) × (o : ℕ) × (o < 4294967295) × IsOff files p × (w ≡ record { page = (spot_of p).page; slot = (spot_of p).slot; bytes = owner_bytes o })

abbrev pub Keeps : List ℕ → Write → Type 0
Keeps files w = (w.page.page % 1280 ≢ 0) ⊎ Gives files w

module _ (files : List ℕ) where
  off_keeps : (s : Slots) (w : Write) → w.page.page % 1280 ≢ 0 → AreSpread files (sheets s) → AreSpread files (sheets (written w s))
  off_keeps s w off spread a alloc =
      let other : is_page w.page a ≡ false = elim (page_cases w.page a) [
        | inl e ↦ absurd (off (ap (λ (r : PageId). r.page % 1280) e ∙ alloc.every))
        | inr f ↦ f
      ] in
      let stays : written w s a ≡ s a = λ i j. cond (other i && w.slot == j) w.bytes (s a j) in
      spread_same files (sheets s) (sheets (written w s)) a (sym (sheet_same (written w s) s a stays)) (spread a alloc)

  given_keeps : (s : Slots) (p : PageId) (o : ℕ) → o < 4294967295 → IsOff files p → AreSpread files (sheets s) → AreSpread files (sheets (written (record { page = (spot_of p).page; slot = (spot_of p).slot; bytes = owner_bytes o }) s))
  given_keeps s p o small off spread a alloc =
      subst (λ (t : SlotsAt). IsSpread files t a) (sym (sheets_edited s (spot_of p).page (spot_of p).slot (owner_bytes o) (few_slots p))) (spread_given files o small (sheets s) p a off.0 off.1 (spread a alloc))

  pub keeps_spread : (s : Slots) (w : Write) → Keeps files w → AreSpread files (sheets s) → AreSpread files (sheets (written w s))
  keeps_spread s w k spread = elim k [
    | inl off ↦ off_keeps s w off spread
    | inr g ↦ subst (λ (v : Write). AreSpread files (sheets (written v s))) (sym g.4) (given_keeps s g.0 g.1 g.2 g.3 spread)
  ]

  pub all_keep : (ws : List Write) (s : Slots) → AllByRecursion (Keeps files) ws → AreSpread files (sheets s) → SpreadAll files s ws
  all_keep [] s k spread = spread
  all_keep (w ∷ ws) s k spread = (spread, all_keep ws (written w s) k.1 (keeps_spread s w k.0 spread))

  pub both_keep : (xs ys : List Write) → AllByRecursion (Keeps files) xs → AllByRecursion (Keeps files) ys → AllByRecursion (Keeps files) (xs ++ ys)
  both_keep [] ys a b = b
  both_keep (x ∷ xs) ys a b = (a.0, both_keep xs ys a.1 b)

  -- claims
  pub claims_keep : (numbers : List ℕ) (i : ℕ) (claimed : ℕ → PageId) → ((k : ℕ) → i ≤ k → k < i + length numbers → IsOff files (claimed k)) → AllByRecursion (λ (number : ℕ). number + 1 < 4294967295) numbers → AllByRecursion (Keeps files) (claims_of numbers i claimed)
  claims_keep [] i claimed off small = tt
  claims_keep (number ∷ numbers) i claimed off small = (
    inr (claimed i, number + 1, small.0, off i (omega arith) (omega arith), refl),
    claims_keep numbers (i + 1) claimed (λ k h l. off k (omega arith) (omega arith)) small.1,
  )

  -- edits of pages that tell of no others
  pub edits_keep : (claimed : ℕ → PageId) (n : ℕ) (mine : PageId → Bool) (edits : List Edit) → ((q : PageId) → also mine claimed n q ≡ true → q.page % 1280 ≢ 0) → AreWithin claimed n mine edits → AllByRecursion (Keeps files) (map (write_of claimed) edits)
  edits_keep claimed n mine [] off within = tt
  edits_keep claimed n mine (e ∷ es) off within = (inl (off (place claimed e.spot) within.0), edits_keep claimed n mine es off within.1)

  -- pages given back
  pub releases_keep : (pages : List PageId) → ((q : PageId) → is_among pages q ≡ true → IsOff files q) → AllByRecursion (Keeps files) (map release pages)
  releases_keep [] off = tt
  releases_keep (p ∷ ps) off = (inr (p, 0, omega arith, off p (or_left (is_page p p) (is_among ps p) (is_page-same p)), refl), releases_keep ps (λ q t. off q (or_right (is_page p q) (is_among ps q) t)))
    where
      or_left : (a b : Bool) → a ≡ true → (a || b) ≡ true
      or_left true b t = refl
      or_left false b t = absurd (let wrong : false ≡ true = t in cc)

      or_right : (a b : Bool) → b ≡ true → (a || b) ≡ true
      or_right true b t = refl
      or_right false b t = t

-- A table is created: its root may be claimed before the edits of table 0, which leave it as it is.
use Rattle.std.proofs.Common.{refl, ◌≡◌, ◌≢◌, ℕ, suc, ◌+◌, ◌%◌, ◌<◌, ◌≤◌, ◌==◌, ◌&&◌, List, [], ◌∷◌, ◌++◌, map, ap, sym, ◌∙◌, subst, arith, Bool, true, false, cond, inl, inr}
use Rattle.std.specs.FinMap as finite
use Rattle.page_base.specs.declared.numbers.PageId.{PageId}
use Rattle.page_base.specs.Pages.{is_page}
use Rattle.page_base.specs.Slots.{Slots, with_slot}
use Rattle.page_base.proofs.PagesLemmas.{is_page-same, is_page-true}
use Rattle.page_fmt.specs.Spelling.{used}
use Rattle.plain_model.specs.Tables.{Rows, Tables}
use Rattle.alloc_pages.specs.Owners.{owner_bytes, page_owner}
use Rattle.alloc_pages.specs.Spots.{spot_of}
use Rattle.alloc_pages.proofs.OwnerLemmas.{page_owner-other}
use Rattle.sys_cat.specs.declared.desc.TableDesc.{TableDesc}
use Rattle.sys_cat.specs.Changing.{with_desc}
use Rattle.sys_cat.specs.Lists.{AreTables}
use Rattle.sys_cat.specs.Rows.{table_0, zero_root, rows_of}
use Rattle.sys_cat.proofs.ChangeLemmas.{tables_put}
use Rattle.sys_cat.proofs.OrderLemmas.{gathered_keyed}
use Rattle.table_walk.specs.declared.plan.Edit.{Edit}
use Rattle.table_walk.specs.Plans.{place, put_all, after, also, AreWithin, Carries}
use Rattle.table_walk.proofs.PlanLemmas.{carries_same}
use Rattle.page_tables.specs.Bases.{AreStanding, IsBase}
use Rattle.page_tables.specs.Creating.{creating, Creates}
use Rattle.page_tables.specs.Layout.{shape, first}
use Rattle.page_tables.specs.Mine.{written, MayWrite, MayWriteAll, AreSpread, is_of}
use Rattle.page_tables.specs.Owners.{is_there, owner, owns}
use Rattle.page_tables.specs.Sheets.{sheets}
use Rattle.page_tables.specs.Writes.{Write, done, claim, claims, write_of, with_claims, AreClaimable}
use Rattle.page_tables.proofs.CarriedLemmas.{zero_desc, mine_off, owner_after}
use Rattle.page_tables.proofs.CreateLemmas.{not_none, not_alloc_page, its_own, base_with, root_was, root_room}
use Rattle.page_tables.proofs.GoLemmas.{go_both, claims_go, claim_may, edits_go, not_before, next_free, AreOwn}
use Rattle.page_tables.proofs.MineLemmas.{every_spot, one_moves}
use Rattle.page_tables.proofs.OwnerLemmas.{page_cases, pages_kept}
use Rattle.page_tables.proofs.OwnLemmas.{zero_small, own, spread_y, plan_sheets, zero_base}
use Rattle.page_tables.proofs.SheetLemmas.{sheet_same}
use Rattle.page_tables.proofs.WriteLemmas.{done_both, claims_done, owner_in_sheets}

-- ---- writes that change places

swap_slots : (s : Slots) (p q : PageId) (i j : ℕ) (x y : List ℕ) → is_page p q ≡ false → with_slot (with_slot s p i x) q j y ≡ with_slot (with_slot s q j y) p i x
swap_slots s p q i j x y ne = λ k r m. at r m (is_page p r) (is_page q r) refl refl k
  where
    at : (r : PageId) (m : ℕ) (a b : Bool) → is_page p r ≡ a → is_page q r ≡ b → cond (is_page q r && j == m) y (cond (is_page p r && i == m) x (s r m)) ≡ cond (is_page p r && i == m) x (cond (is_page q r && j == m) y (s r m))
    at r m true true e f = absurd (let w : true ≡ false = sym (is_page-same p) ∙ ap (is_page p) (is_page-true p r e ∙ sym (is_page-true q r f)) ∙ ne in cc)
    at r m false b e f = (λ k. cond (is_page q r && j == m) y (cond (e k && i == m) x (s r m))) ∙ sym (λ k. cond (e k && i == m) x (cond (is_page q r && j == m) y (s r m)))
    at r m true false e f = (λ k. cond (f k && j == m) y (cond (is_page p r && i == m) x (s r m))) ∙ sym (λ k. cond (is_page p r && i == m) x (cond (f k && j == m) y (s r m)))

-- each of these is on another page
abbrev pub AreOff : PageId → List Write → Type 0
AreOff a [] = Unit {0}
AreOff a (w ∷ ws) = (is_page a w.page ≡ false) × AreOff a ws

pub done_swap : (w : Write) (ws : List Write) (s : Slots) → AreOff w.page ws → done ws (written w s) ≡ written w (done ws s)
done_swap w [] s off = refl
done_swap w (v ∷ ws) s off = ap (done ws) (swap_slots s w.page v.page w.slot v.slot w.bytes v.bytes off.0) ∙ done_swap w ws (written v s) off.1

-- edits on pages that tell of no others
pub edits_off : (claimed : ℕ → PageId) (n : ℕ) (mine : PageId → Bool) (a : PageId) (es : List Edit) → a.page % 1280 ≡ 0 → ((q : PageId) → also mine claimed n q ≡ true → q.page % 1280 ≢ 0) → AreWithin claimed n mine es → AreOff a (map (write_of claimed) es)
edits_off claimed n mine a [] every off within = tt
edits_off claimed n mine a (e ∷ es) every off within = (
  elim (page_cases a (place claimed e.spot)) [
    | inl same ↦ absurd (off (place claimed e.spot) within.0 (ap (λ (p : PageId). p.page % 1280) (sym same) ∙ every))
    | inr f ↦ f
  ],
  edits_off claimed n mine a es every off within.1,
)

-- ---- the table

module _ (counts : List ℕ) (s : Slots) (ds : List TableDesc) (tables : Tables) (d : TableDesc) (bytes : List ℕ) (claimed : ℕ → PageId) (n : ℕ) (edits : List Edit) (c : Creates counts s ds tables d bytes claimed n edits) where
  abbrev rows : Rows
  rows = put_all table_0 (rows_of d) c.base.zero_rows

  abbrev spread : AreSpread counts (sheets s)
  spread = c.base.spread

  all : AreClaimable counts (sheets s) claimed (suc n)
  all = record { there = λ i h. c.free.there i (omega arith); free = λ i h. c.free.free i (omega arith); differ = λ i j h l. c.free.differ i j h (omega arith); targets = λ i h. c.free.targets i (omega arith) }

  first_n : AreClaimable counts (sheets s) claimed n
  first_n = record { there = λ i h. c.free.there i (omega arith); free = λ i h. c.free.free i (omega arith); differ = λ i j h l. c.free.differ i j h (omega arith); targets = λ i h. c.free.targets i (omega arith) }

  abbrev es : List Write
  es = map (write_of claimed) edits

  abbrev root : PageId
  root = claimed n

  abbrev its : Write
  its = claim d.number.0 (claimed n)

  abbrev last : Write
  last = record { page = claimed n; slot = 0; bytes = bytes }

  abbrev y : Slots
  y = done (claims 0 claimed n) s

  abbrev x : Slots
  x = done (claims 0 claimed n ++ map (write_of claimed) edits) s

  there : is_there counts (claimed n) ≡ true
  there = all.there n (omega arith)

  free_y : page_owner (done (claims 0 claimed n) s) (claimed n) ≡ 0
  free_y = next_free counts (is_of 0) (not_none 0) (not_alloc_page 0 zero_small) 0 zero_small (its_own 0) claimed s c.base.spread n all

  sheets_x : sheets x ≡ after claimed (with_claims 0 claimed n (sheets s)) edits
  sheets_x = plan_sheets counts s c.base.spread zero_desc zero_small claimed n first_n edits rows c.plan

  free_x : page_owner x (claimed n) ≡ 0
  free_x =
      sym (owner_in_sheets x (claimed n))
      ∙ (λ i. owner (sheets_x i) (claimed n))
      ∙ owner_after counts (sheets s) c.base.spread zero_desc zero_small claimed n first_n edits rows c.plan (claimed n)
      ∙ ap (λ b. cond b 1 (owner (sheets s) (claimed n))) (not_before counts (is_of 0) (not_none 0) (not_alloc_page 0 zero_small) 0 zero_small (its_own 0) claimed s c.base.spread n all)
      ∙ all.free n (omega arith)

  stand : AreStanding counts (sheets x) rows ds tables
  stand = zero_base counts s ds tables c.base claimed n first_n edits rows c.plan

  small : d.number.0 + 1 < 4294967295
  small = omega (arith, c.new.desc.head.number)

  off : (q : PageId) → also (owns counts (sheets s) 0) claimed n q ≡ true → q.page % 1280 ≢ 0
  off = mine_off counts (sheets s) c.base.spread zero_desc zero_small claimed n first_n edits rows c.plan

  turned : done es (written its y) ≡ written its x
  turned = done_swap its es y (edits_off claimed n (owns counts (sheets s) 0) (spot_of (claimed n)).page edits (every_spot (claimed n)) off c.plan.within) ∙ ap (written its) (sym (done_both (claims 0 claimed n) es s))

  all_done : done (creating d bytes claimed n edits) s ≡ written last (written its x)
  all_done = done_both (claims 0 claimed n) (its ∷ (es ++ last ∷ [])) s ∙ done_both es (last ∷ []) (written its y) ∙ ap (written last) turned

  told : AreTables (finite.values rows) (with_desc ds d)
  told = tables_put c.base.zero_rows ds d c.base.descs (gathered_keyed _ c.base.zero_rows c.base.zero_pages.1.gathers) c.new.desc c.new.name c.new.number

  pub created : IsBase counts (sheets (done (creating d bytes claimed n edits) s)) (with_desc ds d) (finite.insert tables d.name (record { cols = d.cols; rows = finite.empty }))
  created = subst (λ (t : Slots). IsBase counts (sheets t) (with_desc ds d) (finite.insert tables d.name (record { cols = d.cols; rows = finite.empty }))) (sym all_done)
      (base_with counts x rows ds tables stand d c.new (claimed n) c.root there free_x bytes c.blank told c.base.descs.descs)

  -- ---- the writes go

  spread_its : AreSpread counts (sheets (written its y))
  spread_its = (one_moves counts (is_of d.number.0) (not_none d.number.0) (not_alloc_page d.number.0 small) y (spread_y counts s c.base.spread zero_desc zero_small claimed n first_n edits rows c.plan) its
      (inr (record { page = claimed n; number = d.number.0; is = refl; there = there; free = free_y; small = small; given = its_own d.number.0 }))).spread

  same : (q : PageId) → also (owns counts (sheets s) 0) claimed n q ≡ true → sheets s q ≡ sheets (written its y) q
  same q m =
      let other : is_page (spot_of (claimed n)).page q ≡ false = elim (page_cases (spot_of (claimed n)).page q) [
        | inl e ↦ absurd (off q m (ap (λ (p : PageId). p.page % 1280) (sym e) ∙ every_spot (claimed n)))
        | inr f ↦ f
      ] in
      sym (sheet_same (written its y) y q (λ i j. cond (other i && (spot_of (claimed n)).slot == j) (owner_bytes (d.number.0 + 1)) (y q j)) ∙ (λ i. claims_done 0 claimed n s i q) ∙ pages_kept counts 0 claimed zero_small n (sheets s) q (off q m))

  mine : AreOwn counts (is_of 0) (not_none 0) (not_alloc_page 0 zero_small) claimed n (owns counts (sheets s) 0) (written its y)
  mine q t =
      let was = own counts s c.base.spread zero_desc zero_small claimed n first_n edits rows c.plan q t in
      let ne : q ≢ claimed n = λ e. absurd (let w : true ≡ false = sym was.1 ∙ ap (λ (p : PageId). is_of 0 (page_owner y p)) e ∙ ap (is_of 0) free_y ∙ not_none 0 in cc) in
      (was.0, ap (is_of 0) (page_owner-other y (claimed n) q (owner_bytes (d.number.0 + 1)) ne) ∙ was.1)

  moved : Carries shape table_0 (first zero_root) claimed n (sheets (written its y)) (owns counts (sheets s) 0) edits rows
  moved = carries_same shape table_0 (first zero_root) claimed n (sheets s) (sheets (written its y)) (owns counts (sheets s) 0) edits rows same c.plan

  last_may : MayWrite counts (done es (written its y)) last
  last_may = record {
    there = there;
    index = omega arith;
    short = c.blank.short;
    room = subst (λ (t : Slots). used (sheets (written last t) (claimed n)) ≤ 8192) (sym turned) (root_room counts x rows ds tables stand d c.new (claimed n) c.root there free_x bytes c.blank);
    changes = λ e. c.blank.some (sym e ∙ (λ i. turned i (claimed n) 0) ∙ root_was counts x rows ds tables stand d c.new (claimed n) c.root there free_x bytes c.blank);
  }

  pub created_go : MayWriteAll counts s (creating d bytes claimed n edits)
  created_go = go_both counts (claims 0 claimed n) (its ∷ (es ++ last ∷ [])) s (claims_go counts (is_of 0) (not_none 0) (not_alloc_page 0 zero_small) 0 zero_small (its_own 0) claimed s c.base.spread n first_n) (
    claim_may counts y (claimed n) d.number.0 spread_its there free_y small,
    go_both counts es (last ∷ []) (written its y) (edits_go counts (is_of 0) (not_none 0) (not_alloc_page 0 zero_small) claimed n (owns counts (sheets s) 0) edits (written its y) (sheets (written its y)) refl moved.go mine spread_its c.plan.within) (last_may, tt),
  )

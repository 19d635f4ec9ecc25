-- A plan of one table as writes: they go in turn, are the table's own, and lead to the database with its new rows.
use Rattle.std.proofs.Common.{refl, ◌≡◌, ℕ, ◌+◌, ◌<◌, ◌==◌, List, ◌++◌, map, get_or, ap, sym, ◌∙◌, subst, arith, true, false, eq-eqb}
use Rattle.std.specs.FinMap as finite
use Rattle.std.specs.List.{Any}
use Rattle.std.proofs.lemmas.Bool.{and_parts, ne_eqb}
use Rattle.std.proofs.lemmas.List.{get_or_default}
use Rattle.page_base.specs.declared.numbers.PageId.{PageId}
use Rattle.page_base.specs.Slots.{Slots}
use Rattle.page_fmt.specs.Seen.{SlotsAt}
use Rattle.plain_model.specs.Tables.{Rows, Tables}
use Rattle.sys_cat.specs.declared.desc.TableDesc.{TableDesc}
use Rattle.sys_cat.specs.Lists.{IsDesc}
use Rattle.sys_cat.specs.Rows.{table_0, zero_root}
use Rattle.table_walk.specs.declared.plan.Edit.{Edit}
use Rattle.table_walk.specs.Plans.{after, Carries}
use Rattle.table_walk.proofs.PlanLemmas.{carries_same}
use Rattle.page_tables.specs.Bases.{IsBase, AreStanding}
use Rattle.page_tables.specs.Layout.{shape, first}
use Rattle.page_tables.specs.Owners.{is_there, owner, owns}
use Rattle.page_tables.specs.Sheets.{sheets}
use Rattle.page_tables.specs.Writes.{done, claims, write_of, with_claims, AreClaimable}
use Rattle.page_tables.specs.Mine.{MayWriteAll, AreMine, AreSpread, is_of}
use Rattle.page_tables.proofs.OwnerLemmas.{pages_kept, owned_claims}
use Rattle.page_tables.proofs.CarriedLemmas.{carried, carried_zero, zero_desc, each_desc, mine_off}
use Rattle.page_tables.proofs.WriteLemmas.{done_both, claims_done, edits_done, owner_in_sheets}
use Rattle.page_tables.proofs.MineLemmas.{all_move}
use Rattle.page_tables.proofs.GoLemmas.{mine_both, go_both, claims_mine, claims_go, edits_mine, edits_go, AreOwn}

at_place : (ds : List TableDesc) (d : TableDesc) (some : Any (λ e. e ≡ d) ds) → get_or ds some.0 d ≡ d
at_place ds d some = get_or_default ds some.0 d some.1 some.2 ∙ some.3 ∙ some.4

pub zero_small : 0 + 1 < 4294967295
zero_small = omega arith

-- table 0's plan, or that of another table
module _ (counts : List ℕ) (s : Slots) (spread : AreSpread counts (sheets s)) (d : TableDesc) (few : d.number.0 + 1 < 4294967295) (claimed : ℕ → PageId) (n : ℕ) (c : AreClaimable counts (sheets s) claimed n) (edits : List Edit) (rows : Rows)
    (plan : Carries shape d.cols (first d.root) claimed n (sheets s) (owns counts (sheets s) d.number.0) edits rows) where
  pub none : is_of d.number.0 0 ≡ false
  none = ne_eqb 0 (d.number.0 + 1) (λ e. absurd (omega (arith, e)))

  pub no_alloc : is_of d.number.0 4294967295 ≡ false
  no_alloc = ne_eqb 4294967295 (d.number.0 + 1) (λ e. absurd (omega (arith, e, few)))

  given : is_of d.number.0 (d.number.0 + 1) ≡ true
  given = eq-eqb (d.number.0 + 1) (d.number.0 + 1) refl

  abbrev y : Slots
  y = done (claims d.number.0 claimed n) s

  sheets_y : sheets (done (claims d.number.0 claimed n) s) ≡ with_claims d.number.0 claimed n (sheets s)
  sheets_y = claims_done d.number.0 claimed n s

  -- the plan goes on behind the claims
  pub moved : Carries shape d.cols (first d.root) claimed n (with_claims d.number.0 claimed n (sheets s)) (owns counts (sheets s) d.number.0) edits rows
  moved = carries_same shape d.cols (first d.root) claimed n (sheets s) (with_claims d.number.0 claimed n (sheets s)) (owns counts (sheets s) d.number.0) edits rows
      (λ q m. sym (pages_kept counts d.number.0 claimed few n (sheets s) q (mine_off counts (sheets s) spread d few claimed n c edits rows plan q m))) plan

  -- and its edits are on the table's pages
  pub own : AreOwn counts (is_of d.number.0) none no_alloc claimed n (owns counts (sheets s) d.number.0) (done (claims d.number.0 claimed n) s)
  own q t =
      let owned : owns counts (sheets (done (claims d.number.0 claimed n) s)) d.number.0 q ≡ true = (λ i. owns counts (sheets_y i) d.number.0 q) ∙ (λ i. owned_claims counts d.number.0 claimed few n (sheets s) c i q) ∙ t in
      let parts = and_parts (is_there counts q) (owner (sheets (done (claims d.number.0 claimed n) s)) q == d.number.0 + 1) owned in
      (parts.0, ap (is_of d.number.0) (sym (owner_in_sheets (done (claims d.number.0 claimed n) s) q)) ∙ parts.1)

  pub spread_y : AreSpread counts (sheets (done (claims d.number.0 claimed n) s))
  spread_y = (all_move counts (is_of d.number.0) none no_alloc s (claims d.number.0 claimed n) spread (claims_mine counts (is_of d.number.0) none no_alloc d.number.0 few given claimed s spread n c)).spread

  pub plan_go : MayWriteAll counts s (claims d.number.0 claimed n ++ map (write_of claimed) edits)
  plan_go = go_both counts (claims d.number.0 claimed n) (map (write_of claimed) edits) s (claims_go counts (is_of d.number.0) none no_alloc d.number.0 few given claimed s spread n c)
      (edits_go counts (is_of d.number.0) none no_alloc claimed n (owns counts (sheets s) d.number.0) edits (done (claims d.number.0 claimed n) s) (with_claims d.number.0 claimed n (sheets s)) sheets_y moved.go own spread_y plan.within)

  pub plan_mine : AreMine counts (is_of d.number.0) s (claims d.number.0 claimed n ++ map (write_of claimed) edits)
  plan_mine = mine_both counts (is_of d.number.0) (claims d.number.0 claimed n) (map (write_of claimed) edits) s (claims_mine counts (is_of d.number.0) none no_alloc d.number.0 few given claimed s spread n c)
      (edits_mine counts (is_of d.number.0) none no_alloc claimed n (owns counts (sheets s) d.number.0) edits (done (claims d.number.0 claimed n) s) spread_y own plan.within)

  pub plan_sheets : sheets (done (claims d.number.0 claimed n ++ map (write_of claimed) edits) s) ≡ after claimed (with_claims d.number.0 claimed n (sheets s)) edits
  plan_sheets = ap sheets (done_both (claims d.number.0 claimed n) (map (write_of claimed) edits) s) ∙ edits_done claimed edits (done (claims d.number.0 claimed n) s) (with_claims d.number.0 claimed n (sheets s)) sheets_y moved.go

-- the number of a table that is described
pub few_number : (counts : List ℕ) (at : SlotsAt) (ds : List TableDesc) (tables : Tables) → IsBase counts at ds tables → (d : TableDesc) → Any (λ e. e ≡ d) ds → d.number.0 + 1 < 4294967295
few_number counts at ds tables b d some =
    let desc : IsDesc d = subst IsDesc (at_place ds d some) (each_desc ds b.descs.descs.each some.0 d some.2) in
    omega (arith, desc.head.number)

pub plan_base : (counts : List ℕ) (s : Slots) (ds : List TableDesc) (tables : Tables) (b : IsBase counts (sheets s) ds tables) (d : TableDesc) (some : Any (λ e. e ≡ d) ds) (claimed : ℕ → PageId) (n : ℕ) (c : AreClaimable counts (sheets s) claimed n) (edits : List Edit) (rows : Rows)
    (plan : Carries shape d.cols (first d.root) claimed n (sheets s) (owns counts (sheets s) d.number.0) edits rows) → IsBase counts (sheets (done (claims d.number.0 claimed n ++ map (write_of claimed) edits) s)) ds (finite.insert tables d.name (record { cols = d.cols; rows = rows }))
plan_base counts s ds tables b d some claimed n c edits rows plan =
    subst (λ (at : SlotsAt). IsBase counts at ds (finite.insert tables d.name (record { cols = d.cols; rows = rows }))) (sym (plan_sheets counts s b.spread d (few_number counts (sheets s) ds tables b d some) claimed n c edits rows plan))
    (carried counts (sheets s) ds tables b some.0 d some.2 (at_place ds d some) claimed n c edits rows plan)

pub zero_base : (counts : List ℕ) (s : Slots) (ds : List TableDesc) (tables : Tables) (b : IsBase counts (sheets s) ds tables) (claimed : ℕ → PageId) (n : ℕ) (c : AreClaimable counts (sheets s) claimed n) (edits : List Edit) (rows : Rows)
    (plan : Carries shape table_0 (first zero_root) claimed n (sheets s) (owns counts (sheets s) 0) edits rows) → AreStanding counts (sheets (done (claims 0 claimed n ++ map (write_of claimed) edits) s)) rows ds tables
zero_base counts s ds tables b claimed n c edits rows plan =
    subst (λ (at : SlotsAt). AreStanding counts at rows ds tables) (sym (plan_sheets counts s b.spread zero_desc zero_small claimed n c edits rows plan)) (carried_zero counts (sheets s) ds tables b claimed n c edits rows plan)

-- A table in pages is a tree of typed pages, and such a tree is a table.
use Rattle.std.proofs.Common.{◌≡◌, ◌≢◌, ◌<◌, ◌≤◌, ◌&&◌, ℕ, zero, suc, Bool, true, false, cond, List, [], ◌∷◌, ◌++◌, length, get_or, map, refl, ap, sym, ◌∙◌, subst, arith, append-nil, None, ◌⊎◌, inl, inr}
use Rattle.std.specs.List.{AllPairs}
use Rattle.page_base.specs.declared.column.Column.{Column}
use Rattle.page_base.specs.declared.numbers.PageId.{PageId}
use Rattle.page_base.specs.declared.value.Value.{Value}
use Rattle.page_base.specs.Pages.{is_page}
use Rattle.page_fmt.specs.Seen.{SlotsAt, look}
use Rattle.page_fmt.proofs.SeenLemmas.{is_page-true, is_page-same, is_page-other}
use Rattle.plain_model.specs.Tables.{Rows as Map}
use Rattle.table_walk.specs.declared.visit.Visit.{Visit}
use Rattle.table_walk.specs.Leaves.{rows_in, ByKeys}
use Rattle.table_walk.specs.Tables.{Gathers, is_leaf, full, cells, cells_of, shown, IsTable}
use Rattle.table_walk.specs.Walk.{Walks, Reaches}
use Rattle.table_walk.proofs.TableLemmas.{cells-same}
use Rattle.table_walk.proofs.WalkLemmas.{walks-same}
use Rattle.tree_laws.specs.Kids.{level_of, may_be, tree_kids, first}
use Rattle.tree_laws.specs.Order.{ascend, are_parted, inside as child_inside, in_order, RowsAt}
use Rattle.tree_laws.specs.Reads.{Reads, AreRead, IsTree}
use Rattle.tree_laws.specs.Sheets.{Sheet, entries_in}
use Rattle.tree_laws.specs.Sheets.Sheet.{Inner}
use Rattle.tree_laws.specs.Trees.{entries_at, inside, rows_of, pages_of, times}
use Rattle.tree_laws.proofs.FindLemmas.{IsBegun, begun, shown_are}
use Rattle.tree_laws.proofs.Lists.{Each, and_both, and_is, each-append}
use Rattle.tree_laws.proofs.NodeLemmas.{IsLeaf as NodeLeaf, IsNode, page_is}
use Rattle.tree_laws.proofs.Times.{times_here, Below}
use Rattle.tree_laws.proofs.TableTyped.{sheets, IsTyped, types}
use Rattle.tree_laws.proofs.TreeWalked.{IsWalked, walked}
use Rattle.tree_laws.proofs.TypedPages.{typed_row, AreCells, gathered, full_some, gathers_rows}

abbrev Rs : Type 0
Rs = List (List Value)

abbrev pages_in : List Visit → List PageId
pages_in vs = map (λ (w : Visit). w.page) vs

-- EACH BY ITS PLACE

each_at : {X : Type 0} (P : X → Type 0) (xs : List X) → ((k : ℕ) (d : X) → k < length xs → P (get_or xs k d)) → Each P xs
each_at P [] f = tt
each_at P (x ∷ xs) f = (f 0 x (omega arith), each_at P xs (λ k d lt. f (suc k) d (omega (arith, lt))))

at_each : {X : Type 0} (P : X → Type 0) (xs : List X) (k : ℕ) (d : X) → Each P xs → k < length xs → P (get_or xs k d)
at_each P [] k d e lt = absurd (omega (arith, lt))
at_each P (x ∷ xs) zero d e lt = e.0
at_each P (x ∷ xs) (suc k) d e lt = at_each P xs k d e.1 (omega (arith, lt))

-- NO PAGE TWICE

abbrev Apart : List Visit → Type 0
Apart [] = Unit {0}
Apart (v ∷ vs) = Each (λ w. v.page ≢ w.page) vs × Apart vs

apart_of : (vs : List Visit) → AllPairs (λ v w. v.page ≢ w.page) vs → Apart vs
apart_of [] a = tt
apart_of (v ∷ vs) a = (each_at (λ w. v.page ≢ w.page) vs (λ k d lt. a 0 (suc k) d (omega arith) (omega (arith, lt))), apart_of vs (λ i j d lt h. a (suc i) (suc j) d (omega (arith, lt)) (omega (arith, h))))

pairs_of : (vs : List Visit) → Apart vs → AllPairs (λ v w. v.page ≢ w.page) vs
pairs_of [] a i j d lt h = absurd (omega (arith, h))
pairs_of (v ∷ vs) a zero zero d lt h = absurd (omega (arith, lt))
pairs_of (v ∷ vs) a zero (suc j) d lt h = at_each (λ w. v.page ≢ w.page) vs j d a.0 (omega (arith, h))
pairs_of (v ∷ vs) a (suc i) zero d lt h = absurd (omega (arith, lt))
pairs_of (v ∷ vs) a (suc i) (suc j) d lt h = pairs_of vs a.1 i j d (omega (arith, lt)) (omega (arith, h))

none_of : (p : PageId) (vs : List Visit) → Each (λ w. p ≢ w.page) vs → times p (pages_in vs) ≡ 0
none_of p [] e = refl
none_of p (v ∷ vs) e =
    let z : cond {A = ℕ} (is_page v.page p) 1 0 ≡ 0 = ap (λ (b : Bool). cond {A = ℕ} b 1 0) (is_page-other v.page p (λ s. e.0 (sym s))) in
    omega (arith, z, none_of p vs e.1)

other_of : (p : PageId) (vs : List Visit) → times p (pages_in vs) ≡ 0 → Each (λ w. p ≢ w.page) vs
other_of p [] e = tt
other_of p (v ∷ vs) e = ((λ s. let one : 1 ≤ times p (v.page ∷ pages_in vs) = subst (λ (q : PageId). 1 ≤ times p (q ∷ pages_in vs)) s (times_here p (pages_in vs)) in absurd (omega (arith, one, e))), other_of p vs (omega (arith, e)))

once_of : (vs : List Visit) → Apart vs → (p : PageId) → times p (pages_in vs) ≤ 1
once_of [] a p = omega arith
once_of (v ∷ vs) a p = by (is_page v.page p) refl (once_of vs a.1 p)
  where
    by : (b : Bool) → is_page v.page p ≡ b → times p (pages_in vs) ≤ 1 → times p (pages_in (v ∷ vs)) ≤ 1
    by true e rec =
        let one : cond {A = ℕ} (is_page v.page p) 1 0 ≡ 1 = ap (λ (b : Bool). cond {A = ℕ} b 1 0) e in
        let none : times p (pages_in vs) ≡ 0 = ap (λ (q : PageId). times q (pages_in vs)) (sym (is_page-true v.page p e)) ∙ none_of v.page vs a.0 in
        omega (arith, one, none)
    by false e rec =
        let z : cond {A = ℕ} (is_page v.page p) 1 0 ≡ 0 = ap (λ (b : Bool). cond {A = ℕ} b 1 0) e in
        omega (arith, z, rec)

of_once : (vs : List Visit) → ((p : PageId) → times p (pages_in vs) ≤ 1) → Apart vs
of_once [] o = tt
of_once (v ∷ vs) o = (other_of v.page vs (omega (arith, o v.page, first)), of_once vs (λ p. omega (arith, o p)))
  where
    first : cond {A = ℕ} (is_page v.page v.page) 1 0 ≡ 1
    first = ap (λ (b : Bool). cond {A = ℕ} b 1 0) (is_page-same v.page)

-- a page is come to where it is among those of the visits
reach_times : (vs : List Visit) (p : PageId) → Reaches vs p → 1 ≤ times p (pages_in vs)
reach_times [] p r = absurd (omega (arith, r.2))
reach_times (v ∷ vs) p r = by r.0 r.2 r.3 r.4 (λ s. reach_times vs p s)
  where
    by : (k : ℕ) → k < length (v ∷ vs) → get_or (v ∷ vs) k r.1 ≡ r.1 → r.1.page ≡ p → (Reaches vs p → 1 ≤ times p (pages_in vs)) → 1 ≤ times p (pages_in (v ∷ vs))
    by zero lt e is rec = subst (λ (q : PageId). 1 ≤ times p (q ∷ pages_in vs)) (sym (ap (λ (w : Visit). w.page) e ∙ is)) (times_here p (pages_in vs))
    by (suc k) lt e is rec = omega (arith, rec (k, r.1, omega (arith, lt), e, is))

times_reach : (vs : List Visit) (p : PageId) → 1 ≤ times p (pages_in vs) → Reaches vs p
times_reach [] p h = absurd (omega (arith, h))
times_reach (v ∷ vs) p h = by (is_page v.page p) refl (λ g. times_reach vs p g)
  where
    by : (b : Bool) → is_page v.page p ≡ b → (1 ≤ times p (pages_in vs) → Reaches vs p) → Reaches (v ∷ vs) p
    by true e rec = (0, v, omega arith, refl, is_page-true v.page p e)
    by false e rec =
        let z : cond {A = ℕ} (is_page v.page p) 1 0 ≡ 0 = ap (λ (b : Bool). cond {A = ℕ} b 1 0) e in
        let r = rec (omega (arith, h, z)) in
        (suc r.0, r.1, omega (arith, r.2), r.3, r.4)

-- THE KIND OF EACH PAGE

-- whether the first visit to a page is to a leaf
abbrev pub kind_in : List Visit → PageId → Bool
kind_in [] p = false
kind_in (v ∷ vs) p = cond (is_page v.page p) (is_leaf v) (kind_in vs p)

kinds_are : (vs : List Visit) → Apart vs → Each (λ v. kind_in vs v.page ≡ is_leaf v) vs
kinds_are [] a = tt
kinds_are (v ∷ vs) a = (ap (λ (b : Bool). cond b (is_leaf v) (kind_in vs v.page)) (is_page-same v.page), lift vs a.0 (kinds_are vs a.1))
  where
    lift : (ws : List Visit) → Each (λ w. v.page ≢ w.page) ws → Each (λ w. kind_in vs w.page ≡ is_leaf w) ws → Each (λ w. kind_in (v ∷ vs) w.page ≡ is_leaf w) ws
    lift [] ne k = tt
    lift (w ∷ ws) ne k = (ap (λ (b : Bool). cond b (is_leaf v) (kind_in vs w.page)) (is_page-other v.page w.page ne.0) ∙ k.0, lift ws ne.1 k.1)

some_cells : (at : SlotsAt) (vs : List Visit) → Each (λ x. x ≢ []) (cells at vs)
some_cells at [] = tt
some_cells at (v ∷ vs) = each-append (λ x. x ≢ []) (cells_of at v) (cells at vs) (by (is_leaf v)) (some_cells at vs)
  where
    by : (b : Bool) → Each (λ x. x ≢ []) (cond b (full (at v.page)) [])
    by true = full_some (at v.page)
    by false = tt

-- A TABLE IS A TREE

module _ (cols : List Column) (at : SlotsAt) (owns : PageId → Bool) (root : PageId) (rows : Map) where
  -- the typed pages of a table
  pub record IsTypedTable : Type 0 where
    pub pages : PageId → Sheet
    pub read : AreRead cols at owns pages
    pub tree : IsTree cols (λ p. false) pages root owns rows

  suc_of : (l : ℕ) → may_be None l ≡ true → (k : ℕ) × (l ≡ suc k)
  suc_of zero e = absurd (let w : false ≡ true = e in cc)
  suc_of (suc k) e = (k, refl)

  pub table_typed : RowsAt cols at owns root rows → IsTypedTable
  table_typed t =
      let done : List Visit = t.0 in
      let seen : SlotsAt = look (shown at t.0) in
      let here : (k : ℕ) (d : Visit) → k < length t.0 → at (get_or t.0 k d).page ≡ look (shown at t.0) (get_or t.0 k d).page = λ k d lt. sym (shown_are at t.0 k d lt) in
      let w : Walks (tree_kids cols None) (look (shown at t.0)) (first root ∷ []) t.0 [] = walks-same (tree_kids cols None) at (look (shown at t.0)) (first root ∷ []) t.0 [] here t.1.walk.walks in
      let b : IsBegun (tree_kids cols None) (look (shown at t.0)) (first root) t.0 = begun (tree_kids cols None) (look (shown at t.0)) (first root) t.0 w in
      let level : (k : ℕ) × (level_of (look (shown at t.0) root) ≡ suc k) = level_is (look (shown at t.0)) b.next (page_is cols (first root) (look (shown at t.0) root) b.next b.is) in
      let apart : Apart t.0 = apart_of t.0 t.1.walk.once in
      let order = and_both (ascend (child_inside cols (look (shown at t.0)) (level_of (look (shown at t.0) root)) root)) (are_parted cols (look (shown at t.0)) (level_of (look (shown at t.0) root)) None root) t.2 in
      let g : AreCells cols (cells (look (shown at t.0)) t.0) rows = gathered cols (cells (look (shown at t.0)) t.0) rows (some_cells (look (shown at t.0)) t.0) (subst (λ (l : List (List ℕ)). Gathers cols l rows) (cells-same at (look (shown at t.0)) t.0 here) t.1.gathers) in
      let u : PageId → Sheet = sheets cols (look (shown at t.0)) (kind_in t.0) in
      let y : IsTyped cols (look (shown at t.0)) (kind_in t.0) (suc level.0) None root t.0 =
      types cols (look (shown at t.0)) (kind_in t.0) (suc level.0) None (first root) t.0 level.1 w (kinds_are t.0 apart) (subst (λ (l : ℕ). are_parted cols (look (shown at t.0)) l None root ≡ true) level.1 order.1) g.each in
      let marks : child_inside cols (look (shown at t.0)) (level_of (look (shown at t.0) root)) root ≡ inside cols u (suc level.0) root = ap (λ (l : ℕ). child_inside cols (look (shown at t.0)) l root) level.1 ∙ y.marks in
      record {
        pages = u;
        read = λ p own.
            let r : Reaches t.0 p = (t.1.owned p).0 own in
            let v : Visit = get_or t.0 r.0 r.1 in
            let is : (get_or t.0 r.0 r.1).page ≡ p = ap (λ (x : Visit). x.page) r.3 ∙ r.4 in
            let got : Reads cols (look (shown at t.0) (get_or t.0 r.0 r.1).page) (u (get_or t.0 r.0 r.1).page) = at_each (λ (x : Visit). Reads cols (look (shown at t.0) x.page) (u x.page)) t.0 r.0 r.1 y.reads r.2 in
            subst (λ (q : PageId). Reads cols (at q) (u q)) is (subst (λ (x : List (List ℕ)). Reads cols x (u (get_or t.0 r.0 r.1).page)) (sym (here r.0 r.1 r.2)) got);
        tree = record {
          level = level.0;
          sound = y.sound;
          order = ap ascend (sym marks) ∙ order.0;
          by_keys = subst (λ (l : Rs). ByKeys cols l rows) (append-nil (rows_of cols u (suc level.0) root)) (y.rows [] [] rows (subst (λ (l : Rs). ByKeys cols l rows) (sym (append-nil (rows_in (map (typed_row cols) (cells (look (shown at t.0)) t.0))))) g.by_keys));
          owned = λ p. ap (times p) y.pages ∙ by p (owns p) refl;
        };
      }
    where
      level_is : (seen : SlotsAt) (next : List Visit) → NodeLeaf cols (first root) (seen root) next ⊎ IsNode cols (first root) (seen root) next → (k : ℕ) × (level_of (seen root) ≡ suc k)
      level_is seen next (inl leaf) = absurd (let w : false ≡ true = leaf.leaf in cc)
      level_is seen next (inr m) = suc_of (level_of (seen root)) m.level

      by : (p : PageId) (b : Bool) → owns p ≡ b → times p (pages_in t.0) ≡ cond b 1 0
      by p true e = omega (arith, reach_times t.0 p ((t.1.owned p).0 e), once_of t.0 (apart_of t.0 t.1.walk.once) p)
      by p false e = none (times p (pages_in t.0)) refl
        where
          none : (k : ℕ) → times p (pages_in t.0) ≡ k → times p (pages_in t.0) ≡ 0
          none zero h = h
          none (suc k) h = absurd (let w : false ≡ true = sym e ∙ (t.1.owned p).1 (times_reach t.0 p (omega (arith, h))) in cc)

  -- A TREE IS A TABLE

  pub typed_table : (R : PageId → Bool) (u : PageId → Sheet) → IsTree cols R u root owns rows → AreRead cols at owns u → RowsAt cols at owns root rows
  typed_table R u t read =
      let own : (p : PageId) → 1 ≤ times p (pages_of u (suc t.level) root) → owns p ≡ true = λ p h. by p (owns p) refl h in
      let a : IsWalked cols at R u (suc t.level) None (first root) = walked cols at R u (suc t.level) None (first root) (inr refl) t.sound (λ q h. read q (own q h)) in
      let apart : Apart a.all = of_once a.all (λ p. omega (arith, ap (times p) a.pages, t.owned p, small p (owns p))) in
      let here : (k : ℕ) (d : Visit) → k < length a.all → look (shown at a.all) (get_or a.all k d).page ≡ at (get_or a.all k d).page = λ k d lt. shown_are at a.all k d lt in
      let seen_at : (q : PageId) → 1 ≤ times q (pages_of u (suc t.level) root) → look (shown at a.all) q ≡ at q = λ q h.
      let r : Reaches a.all q = times_reach a.all q (omega (arith, h, ap (times q) a.pages)) in
      let is : (get_or a.all r.0 r.1).page ≡ q = ap (λ (x : Visit). x.page) r.3 ∙ r.4 in
      subst (λ (p : PageId). look (shown at a.all) p ≡ at p) is (here r.0 r.1 r.2) in
      let s : IsWalked cols (look (shown at a.all)) R u (suc t.level) None (first root) =
      walked cols (look (shown at a.all)) R u (suc t.level) None (first root) (inr refl) t.sound (λ q h. subst (λ (x : List (List ℕ)). Reads cols x (u q)) (sym (seen_at q h)) (read q (own q h))) in
      let level : level_of (look (shown at a.all) root) ≡ suc t.level = root_level (look (shown at a.all) root) (u root) t.sound.0 (subst (λ (x : List (List ℕ)). Reads cols x (u root)) (sym (seen_at root (times_here root (Below u t.level (entries_at u root))))) (read root (own root (times_here root (Below u t.level (entries_at u root)))))) in
      let order : ascend (child_inside cols (look (shown at a.all)) (suc t.level) root) ≡ true = ap ascend s.marks ∙ t.order in
      let keeps : in_order cols (look (shown at a.all)) root ≡ true =
      subst (λ (l : ℕ). (ascend (child_inside cols (look (shown at a.all)) l root) && are_parted cols (look (shown at a.all)) l None root) ≡ true) (sym level)
      (and_is (ascend (child_inside cols (look (shown at a.all)) (suc t.level) root)) (are_parted cols (look (shown at a.all)) (suc t.level) None root) order s.parted) in
      let in_slots : ByKeys cols (a.slot_rows ++ []) rows = a.rows [] [] rows (subst (λ (l : Rs). ByKeys cols l rows) (sym (append-nil (rows_of cols u (suc t.level) root))) t.by_keys) in
      let gathers : Gathers cols (cells at a.all) rows = subst (λ (x : List (List ℕ)). Gathers cols x rows) (sym a.cells_are) (gathers_rows cols a.slot_rows rows a.may (subst (λ (l : Rs). ByKeys cols l rows) (append-nil a.slot_rows) in_slots)) in
      let table : IsTable (tree_kids cols None) cols at owns (first root) rows a.all = record {
        walk = record { walks = a.walks; once = pairs_of a.all apart };
        owned = λ p. ((λ e. times_reach a.all p (omega (arith, ap (times p) a.pages, t.owned p, ap (λ (b : Bool). cond {A = ℕ} b 1 0) e))), (λ r. own p (omega (arith, reach_times a.all p r, ap (times p) a.pages))));
        gathers = gathers;
      } in
      (a.all, table, keeps)
    where
      by : (p : PageId) (b : Bool) → owns p ≡ b → 1 ≤ times p (pages_of u (suc t.level) root) → owns p ≡ true
      by p true e h = e
      by p false e h = absurd (omega (arith, h, t.owned p, ap (λ (b : Bool). cond {A = ℕ} b 1 0) e))

      small : (p : PageId) (b : Bool) → cond {A = ℕ} b 1 0 ≤ 1
      small p true = omega arith
      small p false = omega arith

      root_level : (slots : List (List ℕ)) (x : Sheet) → x ≡ Inner (suc t.level) (entries_in x) → Reads cols slots x → level_of slots ≡ suc t.level
      root_level slots x is r = (subst (Reads cols slots) is r).0

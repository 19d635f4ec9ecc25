-- The pages of a tree of typed pages are walked, level by level: each page names those below it, in key order.
use Rattle.std.proofs.Common.{◌≡◌, ◌-◌, ◌≤◌, ℕ, zero, suc, Bool, true, false, cond, List, [], ◌∷◌, ◌++◌, map, drop, refl, ap, sym, ◌∙◌, subst, arith, append_assoc, append-nil, Result, Ok, Err, IsOkAnd, ◌⊎◌, inl, inr, eq-eqb}
use Rattle.std.specs.Prelude.{Option, None, Some}
use Rattle.std.specs.List.{flat_map, list_all}
use Rattle.page_base.specs.declared.column.Column.{Column}
use Rattle.page_base.specs.declared.numbers.PageId.{PageId}
use Rattle.page_base.specs.declared.value.Value.{Value}
use Rattle.page_fmt.specs.Seen.{SlotsAt}
use Rattle.plain_model.specs.Tables.{Rows as Map}
use Rattle.row_fmt.specs.Rows.{row_bytes}
use Rattle.table_walk.specs.declared.visit.Visit.{Visit}
use Rattle.table_walk.specs.Leaves.{cell, rows_in, ByKeys}
use Rattle.table_walk.specs.Tables.{MayPut, is_leaf, is_zero, full, cells, cells_of}
use Rattle.table_walk.specs.Walk.{Kids, Walks}
use Rattle.table_walk.proofs.VisitLemmas.{cells-append, other_cells}
use Rattle.table_walk.proofs.WalkLemmas.{ok_is}
use Rattle.tree_laws.specs.declared.child.Child.{Child}
use Rattle.tree_laws.specs.Keys.{Key, key_columns}
use Rattle.tree_laws.specs.Kids.{sorted, all_sorted, children, level_of, may_be, some_below, node, visits, visit_of, tree_kids}
use Rattle.tree_laws.specs.Order.{read, children_at, are_part, are_parted, marks_of as child_marks, headless as child_headless, inside as child_inside}
use Rattle.tree_laws.specs.Order.Mark.{Row}
use Rattle.tree_laws.specs.Reads.{Reads, IsKey}
use Rattle.tree_laws.specs.Sheets.{Entry, Sheet, leaf_in, entries_in}
use Rattle.tree_laws.specs.Sheets.Sheet.{Inner}
use Rattle.tree_laws.specs.Trees.{entries_at, headless, marks_of, inside, rows_of, pages_of}
use Rattle.tree_laws.proofs.LeafOrder.{keys_of, marks_are}
use Rattle.tree_laws.proofs.LeafRows.{from_sorted}
use Rattle.tree_laws.proofs.Lists.{Each, and_is, of_each, each-append}
use Rattle.tree_laws.proofs.Sound.{ArePart, HasSome, IsSound}
use Rattle.tree_laws.proofs.Times.{times, times-append, times_here, Below}
use Rattle.tree_laws.proofs.TypedPages.{typed_row, entry_of, keys_full, full_cells, typed_cells, AreNamed, are_named, marks_headless, of_part}

abbrev Rs : Type 0
Rs = List (List Value)

-- two walks, one after the other
joined_walk : (kids : Kids) (at : SlotsAt) (a b first later : List Visit) → Walks kids at a first [] → Walks kids at b later [] → Walks kids at (a ++ b) (first ++ later) []
joined_walk kids at a b [] later w x = subst (λ (l : List Visit). Walks kids at (l ++ b) later []) (sym w) x
joined_walk kids at [] b (v ∷ first) later w x = absurd w
joined_walk kids at (t ∷ a) b (v ∷ first) later w x = (w.0, by (kids t (at t.page)) w.1 (λ next h. joined_walk kids at (next ++ a) b first later h x))
  where
    by : (r : Result (List Visit) ℕ) → IsOkAnd r (λ next. Walks kids at (next ++ a) first []) → ((next : List Visit) → Walks kids at (next ++ a) first [] → Walks kids at ((next ++ a) ++ b) (first ++ later) [])
        → IsOkAnd r (λ next. Walks kids at (next ++ (a ++ b)) (first ++ later) [])
    by (Ok next) h f = subst (λ (l : List Visit). Walks kids at l (first ++ later) []) (append_assoc next a b) (f next h)
    by (Err e) h f = absurd h

map-bytes : (xs ys : Rs) → map row_bytes (xs ++ ys) ≡ map row_bytes xs ++ map row_bytes ys
map-bytes [] ys = refl
map-bytes (x ∷ xs) ys = ap (λ (l : List (List ℕ)). row_bytes x ∷ l) (map-bytes xs ys)

map-pages : (xs ys : List Visit) → map (λ (w : Visit). w.page) (xs ++ ys) ≡ map (λ (w : Visit). w.page) xs ++ map (λ (w : Visit). w.page) ys
map-pages [] ys = refl
map-pages (x ∷ xs) ys = ap (λ (l : List PageId). x.page ∷ l) (map-pages xs ys)

-- the level of a visit: that of its page, or none where it is the root's
abbrev pub IsOf : ℕ → Option ℕ → Type 0
IsOf zero level = level ≡ Some 0
IsOf (suc n) level = (level ≡ Some (suc n)) ⊎ (level ≡ None)

module _ (cols : List Column) (at : SlotsAt) (R : PageId → Bool) (sheets : PageId → Sheet) where
  abbrev Whole : Kids
  Whole = tree_kids cols None

  abbrev pub Sound : ℕ → Option Key → PageId → Type 0
  Sound n least p = IsSound (MayPut cols) (IsKey cols) R sheets n least p

  -- each of these pages is read as it is typed
  abbrev pub ReadsAll : List PageId → Type 0
  ReadsAll ps = (q : PageId) → 1 ≤ times q ps → Reads cols (at q) (sheets q)

  -- the walk from a page of this level, and its rows in the order of their slots
  pub record IsWalked (n : ℕ) (least : Option Key) (v : Visit) : Type 0 where
    pub all : List Visit
    pub walks : Walks Whole at (v ∷ []) all []
    pub pages : map (λ (w : Visit). w.page) all ≡ pages_of sheets n v.page
    pub marks : child_inside cols at n v.page ≡ inside cols sheets n v.page
    pub parted : are_parted cols at n least v.page ≡ true
    pub slot_rows : Rs
    pub cells_are : cells at all ≡ map row_bytes slot_rows
    pub may : Each (MayPut cols) slot_rows
    pub rows : (cs ds : Rs) (m : Map) → ByKeys cols (cs ++ (rows_of cols sheets n v.page ++ ds)) m → ByKeys cols (cs ++ (slot_rows ++ ds)) m

  abbrev pub IsWalkedAll : ℕ → Type 0
  IsWalkedAll n = (least : Option Key) (v : Visit) → IsOf n v.level → Sound n least v.page → ReadsAll (pages_of sheets n v.page) → IsWalked n least v

  -- LEAVES

  leaf_walked : IsWalkedAll 0
  leaf_walked least v level sound reads =
      let leaf : is_leaf v ≡ true = ap is_zero level in
      let slots : at v.page ≡ map cell (leaf_in (sheets v.page)) = subst (Reads cols (at v.page)) sound.0 (reads v.page (times_here v.page [])) in
      let kids : Whole v (at v.page) ≡ Ok [] = ap (λ (b : Bool). cond b (Ok []) (visits None v.page (level_of (at v.page)) (node (key_columns cols) v.level (at v.page)))) leaf in
      let keys : keys_of cols (map (typed_row cols) (at v.page)) ≡ keys_of cols (leaf_in (sheets v.page)) =
      ap (λ (x : List (List ℕ)). keys_of cols (map (typed_row cols) x)) slots ∙ ap (keys_of cols) (typed_cells cols (leaf_in (sheets v.page)) sound.2) in
      record {
        all = v ∷ [];
        walks = (refl, ok_is (λ (next : List Visit). Walks Whole at (next ++ []) [] []) (Whole v (at v.page)) [] kids refl);
        pages = refl;
        marks = ap (map Row) (keys_full cols (at v.page) ∙ keys) ∙ sym (marks_are cols (leaf_in (sheets v.page)));
        parted = refl;
        slot_rows = rows_in (leaf_in (sheets v.page));
        cells_are = append-nil (cells_of at v) ∙ ap (λ (b : Bool). cond b (full (at v.page)) []) leaf ∙ ap full slots ∙ full_cells cols (leaf_in (sheets v.page)) sound.2;
        may = sound.2;
        rows = λ cs ds m a. from_sorted cols (leaf_in (sheets v.page)) cs ds m a;
      }

  -- CHILDREN, ONE AFTER THE OTHER

  record AreWalked (n : ℕ) (from : PageId) (cs : List Child) : Type 0 where
    all : List Visit
    walks : Walks Whole at (map (visit_of from n) cs) all []
    pages : map (λ (w : Visit). w.page) all ≡ Below sheets n (map entry_of cs)
    marks : Each (λ c. child_inside cols at n c.page ≡ inside cols sheets n c.page) cs
    parted : Each (λ c. are_parted cols at n c.least c.page ≡ true) cs
    slot_rows : Rs
    cells_are : cells at all ≡ map row_bytes slot_rows
    may : Each (MayPut cols) slot_rows
    rows : (cs2 ds : Rs) (m : Map) → ByKeys cols (cs2 ++ (flat_map (λ e. rows_of cols sheets n e.page) (map entry_of cs) ++ ds)) m → ByKeys cols (cs2 ++ (slot_rows ++ ds)) m

  of_level : (n : ℕ) → IsOf n (Some n)
  of_level zero = refl
  of_level (suc n) = inl refl

  many_walked : (n : ℕ) → IsWalkedAll n → (from : PageId) (cs : List Child) → Each (λ e. Sound n e.least e.page) (map entry_of cs) → ReadsAll (Below sheets n (map entry_of cs)) → AreWalked n from cs
  many_walked n rec from [] sound reads = record { all = []; walks = refl; pages = refl; marks = tt; parted = tt; slot_rows = []; cells_are = refl; may = tt; rows = λ cs ds m a. a }
  many_walked n rec from (c ∷ cs) sound reads =
      let one : IsWalked n c.least (visit_of from n c) = rec c.least (visit_of from n c) (of_level n) sound.0 (λ q h. reads q (omega (arith, h, times-append q (pages_of sheets n c.page) (Below sheets n (map entry_of cs))))) in
      let rest : AreWalked n from cs = many_walked n rec from cs sound.1 (λ q h. reads q (omega (arith, h, times-append q (pages_of sheets n c.page) (Below sheets n (map entry_of cs))))) in
      record {
        all = one.all ++ rest.all;
        walks = joined_walk Whole at (visit_of from n c ∷ []) (map (visit_of from n) cs) one.all rest.all one.walks rest.walks;
        pages = map-pages one.all rest.all ∙ (λ i. one.pages i ++ rest.pages i);
        marks = (one.marks, rest.marks);
        parted = (one.parted, rest.parted);
        slot_rows = one.slot_rows ++ rest.slot_rows;
        cells_are = cells-append at one.all rest.all ∙ (λ i. one.cells_are i ++ rest.cells_are i) ∙ sym (map-bytes one.slot_rows rest.slot_rows);
        may = each-append (MayPut cols) one.slot_rows rest.slot_rows one.may rest.may;
        rows = λ xs ys m a.
            let a1 = subst (λ (l : Rs). ByKeys cols l m) (ap (λ (l : Rs). xs ++ l) (append_assoc (rows_of cols sheets n c.page) (flat_map (λ e. rows_of cols sheets n e.page) (map entry_of cs)) ys)) a in
            let a2 = one.rows xs (flat_map (λ e. rows_of cols sheets n e.page) (map entry_of cs) ++ ys) m a1 in
            let a3 = subst (λ (l : Rs). ByKeys cols l m) (sym (append_assoc xs one.slot_rows (flat_map (λ e. rows_of cols sheets n e.page) (map entry_of cs) ++ ys))) a2 in
            let a4 = rest.rows (xs ++ one.slot_rows) ys m a3 in
            subst (λ (l : Rs). ByKeys cols l m) (append_assoc xs one.slot_rows (rest.slot_rows ++ ys) ∙ ap (λ (l : Rs). xs ++ l) (sym (append_assoc one.slot_rows rest.slot_rows ys))) a4;
      }

  -- PAGES OF ENTRIES

  level_may : (n : ℕ) (level : Option ℕ) → IsOf (suc n) level → (may_be level (suc n) ≡ true) × (is_zero level ≡ false)
  level_may n (Some k) (inl e) = (ap (λ (o : Option ℕ). may_be o (suc n)) e ∙ eq-eqb (suc n) (suc n) refl, ap is_zero e)
  level_may n None (inl e) = (refl, refl)
  level_may n (Some k) (inr e) = absurd (cc)
  level_may n None (inr e) = (refl, refl)

  -- a page has children, but perhaps one of level 1
  some_are : (n : ℕ) (cs : List Child) → HasSome n (map entry_of cs) → some_below (suc n) (Ok cs) ≡ Ok cs
  some_are n (c ∷ cs) h = refl
  some_are zero [] h = refl
  some_are (suc n) [] h = absurd h

  node_walked : (n : ℕ) → IsWalkedAll n → IsWalkedAll (suc n)
  node_walked n rec least v of sound reads =
      let p : PageId = v.page in
      let es : List (Option Entry) = entries_in (sheets v.page) in
      let r : Reads cols (at v.page) (Inner (suc n) (entries_in (sheets v.page))) = subst (Reads cols (at v.page)) sound.0 (reads v.page (times_here v.page (Below sheets n (entries_at sheets v.page)))) in
      let c : AreNamed (key_columns cols) 1 (drop 1 (at v.page)) (entries_in (sheets v.page)) = are_named (key_columns cols) 1 (drop 1 (at v.page)) (entries_in (sheets v.page)) r.1 in
      let cs : List Child = sorted c.cs in
      let kids_read : children (key_columns cols) (at v.page) ≡ Ok (sorted c.cs) = ap all_sorted c.are in
      let at_read : children_at cols (at v.page) ≡ sorted c.cs = ap read kids_read in
      let l = level_may n v.level of in
      let below : (level_of (at v.page)) - 1 ≡ n = omega (arith, r.0) in
      let some : HasSome n (map entry_of (sorted c.cs)) = subst (HasSome n) (sym c.order) sound.2 in
      let node_is : node (key_columns cols) v.level (at v.page) ≡ Ok (sorted c.cs) =
      ap (λ (b : Bool). cond b (some_below (level_of (at v.page)) (children (key_columns cols) (at v.page))) (Err 0)) (ap (may_be v.level) r.0 ∙ l.0)
      ∙ (λ i. some_below (r.0 i) (kids_read i)) ∙ some_are n (sorted c.cs) some in
      let kids : Whole v (at v.page) ≡ Ok (map (visit_of v.page n) (sorted c.cs)) =
      ap (λ (b : Bool). cond b (Ok []) (visits None v.page (level_of (at v.page)) (node (key_columns cols) v.level (at v.page)))) l.1
      ∙ ap (visits None v.page (level_of (at v.page))) node_is ∙ ap (λ (k : ℕ). Ok (map (visit_of v.page k) (sorted c.cs))) below in
      let sounds : Each (λ e. Sound n e.least e.page) (map entry_of (sorted c.cs)) = subst (Each (λ e. Sound n e.least e.page)) (sym c.order) sound.5 in
      let under : Below sheets n (map entry_of (sorted c.cs)) ≡ Below sheets n (entries_at sheets v.page) = ap (Below sheets n) c.order in
      let many : AreWalked n v.page (sorted c.cs) = many_walked n rec v.page (sorted c.cs) sounds (λ q h. reads q (omega (arith, h, ap (times q) under))) in
      let part : are_part least (children_at cols (at v.page)) ≡ true = ap (are_part least) at_read ∙ of_part least (sorted c.cs) (subst (ArePart least) (sym c.order) sound.3) in
      let parts : list_all (λ d. are_parted cols at n d.least d.page) (children_at cols (at v.page)) ≡ true = ap (list_all (λ d. are_parted cols at n d.least d.page)) at_read ∙ of_each (λ d. are_parted cols at n d.least d.page) (sorted c.cs) many.parted in
      record {
        all = v ∷ many.all;
        walks = (
          refl,
          ok_is (λ (next : List Visit). Walks Whole at (next ++ []) many.all []) (Whole v (at v.page)) (map (visit_of v.page n) (sorted c.cs)) kids
              (subst (λ (l : List Visit). Walks Whole at l many.all []) (sym (append-nil (map (visit_of v.page n) (sorted c.cs)))) many.walks),
        );
        pages = ap (λ (l : List PageId). v.page ∷ l) (many.pages ∙ under);
        marks = ap (λ (ds : List Child). flat_map (child_marks (child_inside cols at n)) (child_headless ds)) at_read ∙ marks_headless (child_inside cols at n) (inside cols sheets n) (sorted c.cs) many.marks
            ∙ ap (λ (l : List Entry). flat_map (marks_of (inside cols sheets n)) (headless l)) c.order;
        parted = and_is (are_part least (children_at cols (at v.page))) (list_all (λ d. are_parted cols at n d.least d.page) (children_at cols (at v.page))) part parts;
        slot_rows = many.slot_rows;
        cells_are = ap (λ (l : List (List ℕ)). l ++ cells at many.all) (other_cells at v l.1) ∙ many.cells_are;
        may = many.may;
        rows = λ xs ys m a. many.rows xs ys m (subst (λ (l : List Entry). ByKeys cols (xs ++ (flat_map (λ e. rows_of cols sheets n e.page) l ++ ys)) m) (sym c.order) a);
      }

  pub walked : (n : ℕ) → IsWalkedAll n
  walked zero = leaf_walked
  walked (suc n) = node_walked n (walked n)

-- The pages of a table are a tree of typed pages: by the level, along the walk.
use Rattle.std.proofs.Common.{◌≡◌, ◌-◌, ◌==◌, ℕ, zero, suc, Bool, true, false, cond, List, [], ◌∷◌, ◌++◌, map, drop, refl, ap, sym, ◌∙◌, subst, arith, append_assoc, append-nil, Result, Ok, Err, ◌⊎◌, inl, inr, eqb-true}
use Rattle.std.specs.Prelude.{Option, None}
use Rattle.std.specs.List.{flat_map, list_all}
use Rattle.page_base.specs.declared.column.Column.{Column}
use Rattle.page_base.specs.declared.numbers.PageId.{PageId}
use Rattle.page_base.specs.declared.value.Value.{Value}
use Rattle.page_fmt.specs.Seen.{SlotsAt}
use Rattle.plain_model.specs.Tables.{Rows as Map}
use Rattle.table_walk.specs.declared.visit.Visit.{Visit}
use Rattle.table_walk.specs.Leaves.{rows_in, ByKeys}
use Rattle.table_walk.specs.Tables.{MayPut, is_leaf, full, cells, cells_of}
use Rattle.table_walk.specs.Walk.{Walks}
use Rattle.table_walk.proofs.VisitLemmas.{cells-append, other_cells}
use Rattle.tree_laws.specs.declared.child.Child.{Child}
use Rattle.tree_laws.specs.Keys.{Key, key_columns}
use Rattle.tree_laws.specs.Kids.{sorted, named, all_sorted, children, level_of, some_below, node, visits, visit_of, tree_kids}
use Rattle.tree_laws.specs.LookUps.{level_in}
use Rattle.tree_laws.specs.Order.{read, children_at, are_part, are_parted, marks_of as child_marks, headless as child_headless, inside as child_inside}
use Rattle.tree_laws.specs.Order.Mark.{Row}
use Rattle.tree_laws.specs.Puts.{rows_in_order, in_key_order}
use Rattle.tree_laws.specs.Reads.{AreIn, Reads, IsKey}
use Rattle.tree_laws.specs.Sheets.{Entry, Sheet, leaf_in, entries_in}
use Rattle.tree_laws.specs.Sheets.Sheet.{Rows, Inner}
use Rattle.tree_laws.specs.Trees.{entries_at, headless, row_mark, marks_of, inside, rows_of, pages_of}
use Rattle.tree_laws.proofs.FindLemmas.{IsBegun, begun, level_same, leaf_zero, leaf_at, no_walk}
use Rattle.tree_laws.proofs.LeafOrder.{marks_are}
use Rattle.tree_laws.proofs.LeafRows.{to_sorted}
use Rattle.tree_laws.proofs.Lists.{Each, and_both, each_of, each-left, each-right, each-append}
use Rattle.tree_laws.proofs.NodeLemmas.{IsLeaf, IsNode as NamesSome, page_is, IsParted, parted}
use Rattle.tree_laws.proofs.Sound.{ArePart, HasSome, IsLeaf as IsLeafPage, IsNode, IsSound}
use Rattle.tree_laws.proofs.Times.{Below}
use Rattle.tree_laws.proofs.TypedPages.{typed_row, entry_of, typed_entry, typed, keys_full, rows_full, typed-append, IsCell, leaf_slots, leaf_may, AreNamed, are_named, read_entries, marks_headless, part_of}

abbrev Rs : Type 0
Rs = List (List Value)

-- WHAT A PAGE OF ENTRIES NAMES

-- children that were read, before they were sorted
record AreSorted (keys : List Column) (xs : List (List ℕ)) (cs : List Child) : Type 0 where
  raw : List Child
  are : named keys 1 xs ≡ Ok raw
  sort : cs ≡ sorted raw

sorted_of : (keys : List Column) (xs : List (List ℕ)) (r : Result (List Child) ℕ) (cs : List Child) → named keys 1 xs ≡ r → all_sorted r ≡ Ok cs → AreSorted keys xs cs
sorted_of keys xs (Ok raw) cs is e = record { raw = raw; are = is; sort = same e }
  where
    same : ◌≡◌ {A = Result (List Child) ℕ} (Ok (sorted raw)) (Ok cs) → cs ≡ sorted raw
    same e = cc
sorted_of keys xs (Err k) cs is e = absurd (let w : ◌≡◌ {A = Result (List Child) ℕ} (Err k) (Ok cs) = e in cc)

-- a page without children is of level 1
only_one : (cols : List Column) (v : Visit) (slots : List (List ℕ)) (ns : List Visit) (n : NamesSome cols v slots ns) → tree_kids cols None v slots ≡ Ok ns → n.cs ≡ [] → level_of slots ≡ 1
only_one cols v slots ns n is none = by (level_of slots == 1) refl (sym whole ∙ is)
  where
    whole : tree_kids cols None v slots ≡ visits None v.page (level_of slots) (cond (level_of slots == 1) (Ok []) (Err 0))
    whole =
        ap (λ (b : Bool). cond b (Ok []) (visits None v.page (level_of slots) (node (key_columns cols) v.level slots))) n.inner
        ∙ ap (λ (b : Bool). visits None v.page (level_of slots) (cond b (some_below (level_of slots) (children (key_columns cols) slots)) (Err 0))) n.level
        ∙ ap (λ (r : Result (List Child) ℕ). visits None v.page (level_of slots) (some_below (level_of slots) r)) (n.read ∙ ap Ok none)

    by : (b : Bool) → (level_of slots == 1) ≡ b → visits None v.page (level_of slots) (cond b (Ok []) (Err 0)) ≡ Ok ns → level_of slots ≡ 1
    by true e h = eqb-true (level_of slots) 1 e
    by false e h = absurd (let w : ◌≡◌ {A = Result (List Visit) ℕ} (Err 0) (Ok ns) = h in cc)

module _ (cols : List Column) (at : SlotsAt) (kind : PageId → Bool) where
  abbrev Whole : Visit → List (List ℕ) → Result (List Visit) ℕ
  Whole = tree_kids cols None

  abbrev pub sheets : PageId → Sheet
  sheets p = typed cols (kind p) (at p)

  abbrev pub Sound : ℕ → Option Key → PageId → Type 0
  Sound n least p = IsSound (MayPut cols) (IsKey cols) (λ q. false) sheets n least p

  -- each visit's page is typed as what it is
  abbrev pub Kinds : List Visit → Type 0
  Kinds vs = Each (λ v. kind v.page ≡ is_leaf v) vs

  -- the rows that cells spell, by their keys, are those of typed pages
  abbrev pub SameRows : List Visit → Rs → Type 0
  SameRows all rs = (cs ds : Rs) (m : Map) → ByKeys cols (cs ++ (rows_in (map (typed_row cols) (cells at all)) ++ ds)) m → ByKeys cols (cs ++ (rs ++ ds)) m

  -- a page of this level, and the pages that a walk from it comes to
  pub record IsTyped (n : ℕ) (least : Option Key) (p : PageId) (all : List Visit) : Type 0 where
    pub sound : Sound n least p
    pub pages : pages_of sheets n p ≡ map (λ (w : Visit). w.page) all
    pub marks : child_inside cols at n p ≡ inside cols sheets n p
    pub rows : SameRows all (rows_of cols sheets n p)
    pub reads : Each (λ w. Reads cols (at w.page) (sheets w.page)) all

  abbrev pub Types : ℕ → Type 0
  Types n = (least : Option Key) (v : Visit) (all : List Visit) → level_in at v ≡ n → Walks Whole at (v ∷ []) all [] → Kinds all → are_parted cols at n least v.page ≡ true → Each (IsCell cols) (cells at all) → IsTyped n least v.page all

  -- LEAVES

  leaf_typed : Types 0
  leaf_typed least v all l w kinds p cs =
      let b : IsBegun Whole at v all = begun Whole at v all w in
      let leaf : IsLeaf cols v (at v.page) b.next = leaf_at cols at v b.next l b.is in
      let alone : all ≡ v ∷ [] = b.are ∙ ap (λ (l : List Visit). v ∷ l) (no_walk Whole at b.next b.more leaf.none b.walks) in
      let kind_is : kind v.page ≡ true = (subst Kinds alone kinds).0 ∙ leaf.leaf in
      let sheet_is : sheets v.page ≡ Rows (map (typed_row cols) (at v.page)) = ap (λ (b : Bool). typed cols b (at v.page)) kind_is in
      let are : cells at all ≡ full (at v.page) = ap (cells at) alone ∙ append-nil (cells_of at v) ∙ ap (λ (b : Bool). cond b (full (at v.page)) []) leaf.leaf in
      let each : Each (IsCell cols) (full (at v.page)) = subst (Each (IsCell cols)) are cs in
      let page : IsLeafPage (MayPut cols) false (Rows (map (typed_row cols) (at v.page))) = (refl, (λ e. absurd (no e)), leaf_may cols (at v.page) each) in
      let reads : Reads cols (at v.page) (Rows (map (typed_row cols) (at v.page))) = leaf_slots cols (at v.page) each in
      record {
        sound = subst (IsLeafPage (MayPut cols) false) (sym sheet_is) page;
        pages = sym (ap (map (λ (w : Visit). w.page)) alone);
        marks = ap (map Row) (keys_full cols (at v.page)) ∙ sym (marks_are cols (map (typed_row cols) (at v.page))) ∙ sym (ap (λ (x : Sheet). map (row_mark cols) (rows_in_order cols (leaf_in x))) sheet_is);
        rows = λ cs ds m a.
            let plain : ByKeys cols (cs ++ (rows_in (map (typed_row cols) (at v.page)) ++ ds)) m = subst (λ (l : Rs). ByKeys cols (cs ++ (l ++ ds)) m) (ap (λ (x : List (List ℕ)). rows_in (map (typed_row cols) x)) are ∙ rows_full cols (at v.page)) a in
            subst (λ (x : Sheet). ByKeys cols (cs ++ (rows_in_order cols (leaf_in x) ++ ds)) m) (sym sheet_is) (to_sorted cols (map (typed_row cols) (at v.page)) cs ds m plain);
        reads = subst (Each (λ w. Reads cols (at w.page) (sheets w.page))) (sym alone) (subst (Reads cols (at v.page)) (sym sheet_is) reads, tt);
      }
    where
      no : false ≡ true → ⊥
      no e = cc

  -- CHILDREN, ONE AFTER THE OTHER

  record AreTyped (n : ℕ) (cs : List Child) (all : List Visit) : Type 0 where
    sound : Each (λ e. Sound n e.least e.page) (map entry_of cs)
    pages : Below sheets n (map entry_of cs) ≡ map (λ (w : Visit). w.page) all
    marks : Each (λ c. child_inside cols at n c.page ≡ inside cols sheets n c.page) cs
    rows : SameRows all (flat_map (λ e. rows_of cols sheets n e.page) (map entry_of cs))
    reads : Each (λ w. Reads cols (at w.page) (sheets w.page)) all

  map-pages : (xs ys : List Visit) → map (λ (w : Visit). w.page) (xs ++ ys) ≡ map (λ (w : Visit). w.page) xs ++ map (λ (w : Visit). w.page) ys
  map-pages [] ys = refl
  map-pages (x ∷ xs) ys = ap (λ (l : List PageId). x.page ∷ l) (map-pages xs ys)

  many_typed : (n : ℕ) → Types n → (from : PageId) (cs : List Child) (all : List Visit) → Walks Whole at (map (visit_of from n) cs) all [] → Kinds all → Each (λ c. are_parted cols at n c.least c.page ≡ true) cs → Each (IsCell cols) (cells at all) → AreTyped n cs all
  many_typed n types from [] all w kinds p each =
      let none : all ≡ [] = no_walk Whole at [] all refl w in
      record {
        sound = tt;
        pages = sym (ap (map (λ (w : Visit). w.page)) none);
        marks = tt;
        rows = λ cs ds m a. subst (λ (l : List Visit). ByKeys cols (cs ++ (rows_in (map (typed_row cols) (cells at l)) ++ ds)) m) none a;
        reads = subst (Each (λ w. Reads cols (at w.page) (sheets w.page))) (sym none) tt;
      }
  many_typed n types from (c ∷ cs) all w kinds p each =
      let s : IsParted Whole at (visit_of from n c ∷ []) (map (visit_of from n) cs) all = parted Whole at (visit_of from n c ∷ []) (map (visit_of from n) cs) all w in
      let kinds2 : Kinds (s.first ++ s.later) = subst Kinds s.are kinds in
      let cells2 : cells at all ≡ cells at s.first ++ cells at s.later = ap (cells at) s.are ∙ cells-append at s.first s.later in
      let each2 : Each (IsCell cols) (cells at s.first ++ cells at s.later) = subst (Each (IsCell cols)) cells2 each in
      let one : IsTyped n c.least c.page s.first =
      types c.least (visit_of from n c) s.first refl s.walks (each-left (λ v. kind v.page ≡ is_leaf v) s.first s.later kinds2) p.0 (each-left (IsCell cols) (cells at s.first) (cells at s.later) each2) in
      let rest : AreTyped n cs s.later = many_typed n types from cs s.later s.rest (each-right (λ v. kind v.page ≡ is_leaf v) s.first s.later kinds2) p.1 (each-right (IsCell cols) (cells at s.first) (cells at s.later) each2) in
      let split : rows_in (map (typed_row cols) (cells at all)) ≡ rows_in (map (typed_row cols) (cells at s.first)) ++ rows_in (map (typed_row cols) (cells at s.later)) =
      ap (λ (x : List (List ℕ)). rows_in (map (typed_row cols) x)) cells2 ∙ typed-append cols (cells at s.first) (cells at s.later) in
      record {
        sound = (one.sound, rest.sound);
        pages = (λ i. one.pages i ++ rest.pages i) ∙ sym (map-pages s.first s.later) ∙ sym (ap (map (λ (w : Visit). w.page)) s.are);
        marks = (one.marks, rest.marks);
        rows = λ xs ys m a.
            let F : Rs = rows_in (map (typed_row cols) (cells at s.first)) in
            let L : Rs = rows_in (map (typed_row cols) (cells at s.later)) in
            let T : Rs = rows_of cols sheets n c.page in
            let M : Rs = flat_map (λ e. rows_of cols sheets n e.page) (map entry_of cs) in
            let a1 = subst (λ (l : Rs). ByKeys cols l m) (ap (λ (l : Rs). xs ++ (l ++ ys)) split
            ∙ ap (λ (l : Rs). xs ++ l) (append_assoc (rows_in (map (typed_row cols) (cells at s.first))) (rows_in (map (typed_row cols) (cells at s.later))) ys)) a in
            let a2 = one.rows xs (rows_in (map (typed_row cols) (cells at s.later)) ++ ys) m a1 in
            let a3 = subst (λ (l : Rs). ByKeys cols l m) (sym (append_assoc xs (rows_of cols sheets n c.page) (rows_in (map (typed_row cols) (cells at s.later)) ++ ys))) a2 in
            let a4 = rest.rows (xs ++ rows_of cols sheets n c.page) ys m a3 in
            subst (λ (l : Rs). ByKeys cols l m) (append_assoc xs (rows_of cols sheets n c.page) (flat_map (λ e. rows_of cols sheets n e.page) (map entry_of cs) ++ ys)
            ∙ ap (λ (l : Rs). xs ++ l) (sym (append_assoc (rows_of cols sheets n c.page) (flat_map (λ e. rows_of cols sheets n e.page) (map entry_of cs)) ys))) a4;
        reads = subst (Each (λ w. Reads cols (at w.page) (sheets w.page))) (sym s.are) (each-append (λ w. Reads cols (at w.page) (sheets w.page)) s.first s.later one.reads rest.reads);
      }

  -- PAGES OF ENTRIES

  node_typed : (n : ℕ) → Types n → Types (suc n)
  node_typed n types least v all l w kinds p each =
      let b : IsBegun Whole at v all = begun Whole at v all w in
      by b (page_is cols v (at v.page) b.next b.is)
    where
      some_entries : (n : ℕ) (cs : List Child) → (cs ≡ [] → suc n ≡ 1) → HasSome n (map entry_of cs)
      some_entries zero cs f = tt
      some_entries (suc m) [] f = absurd (let e : suc (suc m) ≡ 1 = f refl in cc)
      some_entries (suc m) (c ∷ cs) f = tt

      no : false ≡ true → ⊥
      no e = cc

      node : (b : IsBegun Whole at v all) → NamesSome cols v (at v.page) b.next → IsTyped (suc n) least v.page all
      node b m =
          let slots : List (List ℕ) = at v.page in
          let level : level_of (at v.page) ≡ suc n = level_same v.level (level_of (at v.page)) (suc n) m.level l in
          let under : level_of (at v.page) - 1 ≡ n = omega (arith, level) in
          let s : AreSorted (key_columns cols) (drop 1 (at v.page)) m.cs = sorted_of (key_columns cols) (drop 1 (at v.page)) (named (key_columns cols) 1 (drop 1 (at v.page))) m.cs refl m.read in
          let entries : AreIn (key_columns cols) (drop 1 (at v.page)) (map (typed_entry (key_columns cols)) (drop 1 (at v.page))) = read_entries (key_columns cols) 1 (drop 1 (at v.page)) s.raw s.are in
          let again : AreNamed (key_columns cols) 1 (drop 1 (at v.page)) (map (typed_entry (key_columns cols)) (drop 1 (at v.page))) = are_named (key_columns cols) 1 (drop 1 (at v.page)) (map (typed_entry (key_columns cols)) (drop 1 (at v.page))) entries in
          let raw_same : again.cs ≡ s.raw = same_ok again.cs s.raw (sym again.are ∙ s.are) in
          let order : in_key_order (map (typed_entry (key_columns cols)) (drop 1 (at v.page))) ≡ map entry_of m.cs = sym again.order ∙ ap (λ (cs : List Child). map entry_of (sorted cs)) raw_same ∙ sym (ap (map entry_of) s.sort) in
          let kind_is : kind v.page ≡ false = (subst Kinds b.are kinds).0 ∙ m.inner in
          let sheet_is : sheets v.page ≡ Inner (level_of (at v.page)) (map (typed_entry (key_columns cols)) (drop 1 (at v.page))) = ap (λ (b : Bool). typed cols b (at v.page)) kind_is in
          let sheet_at : sheets v.page ≡ Inner (suc n) (map (typed_entry (key_columns cols)) (drop 1 (at v.page))) = sheet_is ∙ ap (λ (k : ℕ). Inner k (map (typed_entry (key_columns cols)) (drop 1 (at v.page)))) level in
          let here : entries_at sheets v.page ≡ map entry_of m.cs = ap (λ (x : Sheet). in_key_order (entries_in x)) sheet_at ∙ order in
          let next : b.next ≡ map (visit_of v.page n) m.cs = m.are ∙ ap (λ (k : ℕ). map (visit_of v.page k) m.cs) under in
          let parts = and_both (are_part least (children_at cols (at v.page))) (list_all (λ c. are_parted cols at n c.least c.page) (children_at cols (at v.page))) p in
          let read_cs : children_at cols (at v.page) ≡ m.cs = ap read m.read in
          let part : ArePart least (map entry_of m.cs) = part_of least m.cs (subst (λ (cs : List Child). are_part least cs ≡ true) read_cs parts.0) in
          let below : Each (λ c. are_parted cols at n c.least c.page ≡ true) m.cs = each_of (λ c. are_parted cols at n c.least c.page) m.cs (subst (λ (cs : List Child). list_all (λ c. are_parted cols at n c.least c.page) cs ≡ true) read_cs parts.1) in
          let cells_more : cells at all ≡ cells at b.more = ap (cells at) b.are ∙ ap (λ (l : List (List ℕ)). l ++ cells at b.more) (other_cells at v m.inner) in
          let kinds_more : Kinds b.more = (subst Kinds b.are kinds).1 in
          let many : AreTyped n m.cs b.more =
          many_typed n types v.page m.cs b.more (subst (λ (l : List Visit). Walks Whole at l b.more []) next b.walks) kinds_more below (subst (Each (IsCell cols)) cells_more each) in
          let some : HasSome n (map entry_of m.cs) = some_entries n m.cs (λ none. sym level ∙ only_one cols v (at v.page) b.next m b.is none) in
          let page : IsNode (IsKey cols) false n least (Inner (suc n) (map (typed_entry (key_columns cols)) (drop 1 (at v.page)))) (λ e. Sound n e.least e.page) = (
            refl,
            (λ e. absurd (no e)),
            subst (HasSome n) (sym order) some,
            subst (ArePart least) (sym order) part,
            (λ e. absurd (no e)),
            subst (Each (λ e. Sound n e.least e.page)) (sym order) many.sound,
          ) in
          record {
            sound = subst (λ (x : Sheet). IsNode (IsKey cols) false n least x (λ e. Sound n e.least e.page)) (sym sheet_at) page;
            pages = ap (λ (l : List Entry). v.page ∷ Below sheets n l) here ∙ ap (λ (l : List PageId). v.page ∷ l) many.pages ∙ sym (ap (map (λ (w : Visit). w.page)) b.are);
            marks = ap (λ (cs : List Child). flat_map (child_marks (child_inside cols at n)) (child_headless cs)) read_cs ∙ marks_headless (child_inside cols at n) (inside cols sheets n) m.cs many.marks
                ∙ sym (ap (λ (l : List Entry). flat_map (marks_of (inside cols sheets n)) (headless l)) here);
            rows = λ cs ds mm a.
                let old : ByKeys cols (cs ++ (rows_in (map (typed_row cols) (cells at b.more)) ++ ds)) mm = subst (λ (x : List (List ℕ)). ByKeys cols (cs ++ (rows_in (map (typed_row cols) x) ++ ds)) mm) cells_more a in
                subst (λ (l : List Entry). ByKeys cols (cs ++ (flat_map (λ e. rows_of cols sheets n e.page) l ++ ds)) mm) (sym here) (many.rows cs ds mm old);
            reads = subst (Each (λ w. Reads cols (at w.page) (sheets w.page))) (sym b.are) (subst (Reads cols (at v.page)) (sym sheet_at) (level, entries), many.reads);
          }
        where
          same_ok : (x y : List Child) → ◌≡◌ {A = Result (List Child) ℕ} (Ok x) (Ok y) → x ≡ y
          same_ok x y e = cc

      by : (b : IsBegun Whole at v all) → IsLeaf cols v (at v.page) b.next ⊎ NamesSome cols v (at v.page) b.next → IsTyped (suc n) least v.page all
      by b (inl leaf) = absurd (let e : suc n ≡ 0 = sym l ∙ leaf_zero v.level (level_of (at v.page)) leaf.leaf in cc)
      by b (inr m) = node b m

  pub types : (n : ℕ) → Types n
  types zero = leaf_typed
  types (suc n) = node_typed n (types n)

-- The row of a key stands on the pages of its look-up: what stands before them is below the key, what stands behind is above.
use Rattle.std.proofs.Common.{◌≡◌, ◌≢◌, ◌-◌, ◌<◌, ℕ, zero, suc, Bool, true, false, cond, List, [], ◌∷◌, ◌++◌, length, get_or, refl, ap, sym, ◌∙◌, subst, arith, map, append_assoc, append-nil, Result, Ok, Err, IsOkAnd, Option, None, Some, ◌⊎◌, inl, inr, eqb-true}
use Rattle.std.specs.FinMap as finite
use Rattle.std.specs.List.{flat_map, list_all}
use Rattle.std.specs.Option.{is_some}
use Rattle.std.specs.Ordering.{is_le}
use Rattle.page_base.specs.declared.column.Column.{Column}
use Rattle.page_base.specs.declared.numbers.PageId.{PageId}
use Rattle.page_base.specs.declared.value.Value.{Value}
use Rattle.page_base.specs.Order.{key_cmp}
use Rattle.page_base.specs.Pages.{is_page}
use Rattle.page_fmt.specs.Seen.{SlotsAt, look}
use Rattle.page_fmt.proofs.SeenLemmas.{is_page-true, is_page-same}
use Rattle.plain_model.specs.Tables.{Rows, key_of}
use Rattle.row_fmt.specs.Rows.{IsRow}
use Rattle.row_fmt.specs.Reading.{row_at}
use Rattle.row_fmt.proofs.RowLemmas.{row_again}
use Rattle.table_walk.specs.declared.visit.Visit.{Visit}
use Rattle.table_walk.specs.Tables.{Gathers, is_leaf, is_zero, full, cells, cells_of, shown}
use Rattle.table_walk.specs.Walk.{Kids, Walks}
use Rattle.table_walk.proofs.GatherLemmas.{OneOf, gathers_out}
use Rattle.table_walk.proofs.RowsLemmas.{get_put}
use Rattle.table_walk.proofs.TableLemmas.{cells-same}
use Rattle.table_walk.proofs.VisitLemmas.{cells-append, other_cells}
use Rattle.table_walk.proofs.WalkLemmas.{walks-same}
use Rattle.tree_laws.specs.declared.child.Child.{Child}
use Rattle.tree_laws.specs.Keys.{Key, whole}
use Rattle.tree_laws.specs.Kids.{is_upto, level_of, may_be, may_hold, chosen_from, wanted, visit_of, tree_kids, first}
use Rattle.tree_laws.specs.LookUps.{named_or, level_in}
use Rattle.tree_laws.specs.Order.{Mark, ascend, placed_key, with_row_key, keys_in, own, read, children_at, headless, marks_of, inside, has_least, is_none_or, are_part, are_parted, RowsAt}
use Rattle.tree_laws.specs.Order.Mark.{Least, Row}
use Rattle.tree_laws.proofs.Lists.{Each, Precedes, Ascend, and_both, each_of, ascend_of, each-left, each-right, each-map, ascend-left, ascend-right, ascend-before, flat-append}
use Rattle.tree_laws.proofs.KeyOrder.{Below, Upto, below_upto, below_not, below_not_same, above_of, apart}
use Rattle.tree_laws.proofs.NodeLemmas.{IsLeaf, page_is, IsBehind, IsChosen, chosen_is, IsParted, parted, visits-append, no_cons}
use Rattle.tree_laws.proofs.WithinLemmas.{AreAmong, among-each, within}

-- a row's key is one of these
abbrev pub OfRow : (Key → Type 0) → Mark → Type 0
OfRow P (Least k) = Unit {0}
OfRow P (Row k) = P k

-- the rows that cells spell have such keys
abbrev pub HaveKeys : List Column → (Key → Type 0) → List (List ℕ) → Type 0
HaveKeys cols P [] = Unit {0}
HaveKeys cols P (x ∷ xs) = ((row : List Value) → IsRow cols x row → P (key_of cols row)) × HaveKeys cols P xs

have-append : (cols : List Column) (P : Key → Type 0) (xs ys : List (List ℕ)) → HaveKeys cols P xs → HaveKeys cols P ys → HaveKeys cols P (xs ++ ys)
have-append cols P [] ys h k = k
have-append cols P (x ∷ xs) ys h k = (h.0, have-append cols P xs ys h.1 k)

placed_each : (P : Key → Type 0) (k : Key) (ls : List Key) → Each (OfRow P) (map Row (placed_key k ls)) → P k × Each (OfRow P) (map Row ls)
placed_each P k [] e = (e.0, tt)
placed_each P k (l ∷ ls) e = by (is_le (key_cmp k l)) e (placed_each P k ls)
  where
    by : (b : Bool) → Each (OfRow P) (map Row (cond b (k ∷ l ∷ ls) (l ∷ placed_key k ls))) → (Each (OfRow P) (map Row (placed_key k ls)) → P k × Each (OfRow P) (map Row ls)) → P k × Each (OfRow P) (map Row (l ∷ ls))
    by true e rec = (e.0, e.1)
    by false e rec = let r = rec e.1 in (r.0, (e.0, r.1))

pub keys_have : (cols : List Column) (P : Key → Type 0) (xs : List (List ℕ)) → Each (OfRow P) (map Row (keys_in cols xs)) → HaveKeys cols P xs
keys_have cols P [] e = tt
keys_have cols P (x ∷ xs) e = by (whole (row_at cols x)) refl e (keys_have cols P xs)
  where
    is_row : (row : List Value) → IsRow cols x row → whole (row_at cols x) ≡ Some row
    is_row row r = ap whole (row_again cols x row r)

    by : (o : Option (List Value)) → whole (row_at cols x) ≡ o → Each (OfRow P) (map Row (with_row_key cols o (keys_in cols xs))) → (Each (OfRow P) (map Row (keys_in cols xs)) → HaveKeys cols P xs) → HaveKeys cols P (x ∷ xs)
    by None is e rec = ((λ row r. let e : None ≡ Some row = sym is ∙ is_row row r in absurd (cc)), rec e)
    by (Some q) is e rec =
        let p = placed_each P (key_of cols q) (keys_in cols xs) e in
        ((λ row r. let e : ◌≡◌ {A = Option (List Value)} (Some q) (Some row) = sym is ∙ is_row row r in let same : q ≡ row = cc in subst (λ (z : List Value). P (key_of cols z)) same p.0), rec p.1)

-- LEVELS

pub level_same : (level : Option ℕ) (l n : ℕ) → may_be level l ≡ true → named_or l level ≡ n → l ≡ n
level_same None zero n m e = e
level_same None (suc l) n m e = e
level_same (Some k) zero n m e = absurd (let wrong : false ≡ true = m in cc)
level_same (Some k) (suc l) n m e = sym (eqb-true k (suc l) m) ∙ e

pub leaf_zero : (level : Option ℕ) (l : ℕ) → is_zero level ≡ true → named_or l level ≡ 0
leaf_zero None l e = absurd (let wrong : false ≡ true = e in cc)
leaf_zero (Some zero) l e = refl
leaf_zero (Some (suc n)) l e = absurd (let wrong : false ≡ true = e in cc)

not_zero : (level : Option ℕ) (l : ℕ) → may_be level l ≡ true → l ≡ 0 → ⊥
not_zero level zero m e = let wrong : false ≡ true = m in cc
not_zero level (suc l) m e = absurd (cc)

-- a walk from one page on: the page, and what it names
pub record IsBegun (kids : Kids) (at : SlotsAt) (v : Visit) (all : List Visit) : Type 0 where
  pub more : List Visit
  pub next : List Visit
  pub are : all ≡ v ∷ more
  pub is : kids v (at v.page) ≡ Ok next
  pub walks : Walks kids at next more []

pub begun : (kids : Kids) (at : SlotsAt) (v : Visit) (all : List Visit) → Walks kids at (v ∷ []) all [] → IsBegun kids at v all
begun kids at v [] w = absurd (no_cons v [] w)
begun kids at v (x ∷ more) w = by (kids v (at v.page)) refl w.1
  where
    by : (r : Result (List Visit) ℕ) → kids v (at v.page) ≡ r → IsOkAnd r (λ next. Walks kids at (next ++ []) more []) → IsBegun kids at v (x ∷ more)
    by (Err e) is h = absurd h
    by (Ok next) is h = record { more = more; next = next; are = ap (λ (z : Visit). z ∷ more) (sym w.0); is = is; walks = subst (λ (l : List Visit). Walks kids at l more []) (append-nil next) h }

pub no_walk : (kids : Kids) (at : SlotsAt) (next more : List Visit) → next ≡ [] → Walks kids at next more [] → more ≡ []
no_walk kids at next [] e w = refl
no_walk kids at next (x ∷ more) e w = absurd (subst (λ (l : List Visit). Walks kids at l (x ∷ more) []) e w)

headed : (from : PageId) (n : ℕ) (cs : List Child) → map (visit_of from n) (headless cs) ≡ map (visit_of from n) cs
headed from n [] = refl
headed from n (c ∷ cs) = refl

module _ (cols : List Column) (at : SlotsAt) where
  abbrev pub Whole : Kids
  Whole = tree_kids cols None

  -- the children that a page of this level names
  pub record Names (n : ℕ) (v : Visit) (next : List Visit) : Type 0 where
    pub cs : List Child
    pub inner : is_leaf v ≡ false
    pub read : children_at cols (at v.page) ≡ cs
    pub are : next ≡ map (visit_of v.page n) cs
    pub other : (key : Option Key) → tree_kids cols key v (at v.page) ≡ Ok (map (visit_of v.page n) (wanted key cs))

  pub leaf_at : (v : Visit) (next : List Visit) → level_in at v ≡ 0 → Whole v (at v.page) ≡ Ok next → IsLeaf cols v (at v.page) next
  leaf_at v next l is = elim (page_is cols v (at v.page) next is) [
    | inl leaf ↦ leaf
    | inr n ↦ absurd (not_zero v.level (level_of (at v.page)) n.level (level_same v.level (level_of (at v.page)) 0 n.level l))
  ]

  pub node_at : (n : ℕ) (v : Visit) (next : List Visit) → level_in at v ≡ suc n → Whole v (at v.page) ≡ Ok next → Names n v next
  node_at n v next l is = elim (page_is cols v (at v.page) next is) [
    | inl leaf ↦ absurd (let e : suc n ≡ 0 = sym l ∙ leaf_zero v.level (level_of (at v.page)) leaf.leaf in cc)
    | inr m ↦
        let level : level_of (at v.page) ≡ suc n = level_same v.level (level_of (at v.page)) (suc n) m.level l in
        let below : level_of (at v.page) - 1 ≡ n = omega arith in
        record {
          cs = m.cs;
          inner = m.inner;
          read = ap read m.read;
          are = m.are ∙ ap (λ (k : ℕ). map (visit_of v.page k) m.cs) below;
          other = λ key. m.other key ∙ ap (λ (k : ℕ). Ok (map (visit_of v.page k) (wanted key m.cs))) below;
        }
  ]

  module _ (P : Key → Type 0) where
    -- the rows on the pages of a walk from a page of this level are those inside it
    abbrev Told : ℕ → Type 0
    Told n = (v : Visit) (all : List Visit) → level_in at v ≡ n → Walks Whole at (v ∷ []) all [] → Each (OfRow P) (inside cols at n v.page) → HaveKeys cols P (cells at all)

    told_many : (n : ℕ) → Told n → (from : PageId) (cs : List Child) (all : List Visit) → Walks Whole at (map (visit_of from n) cs) all [] → Each (OfRow P) (flat_map (marks_of (inside cols at n)) cs) → HaveKeys cols P (cells at all)
    told_many n told from [] all w e = subst (λ (l : List Visit). HaveKeys cols P (cells at l)) (sym (no_walk Whole at [] all refl w)) tt
    told_many n told from (c ∷ cs) all w e =
        let p : IsParted Whole at (visit_of from n c ∷ []) (map (visit_of from n) cs) all = parted Whole at (visit_of from n c ∷ []) (map (visit_of from n) cs) all w in
        let here : Each (OfRow P) (own c.least ++ inside cols at n c.page) = each-left (OfRow P) (own c.least ++ inside cols at n c.page) (flat_map (marks_of (inside cols at n)) cs) e in
        let one : HaveKeys cols P (cells at p.first) = told (visit_of from n c) p.first refl p.walks (each-right (OfRow P) (own c.least) (inside cols at n c.page) here) in
        let others : HaveKeys cols P (cells at p.later) = told_many n told from cs p.later p.rest (each-right (OfRow P) (own c.least ++ inside cols at n c.page) (flat_map (marks_of (inside cols at n)) cs) e) in
        subst (HaveKeys cols P) (sym (ap (cells at) p.are ∙ cells-append at p.first p.later)) (have-append cols P (cells at p.first) (cells at p.later) one others)

    pub told : (n : ℕ) → Told n
    told zero v all l w e =
        let b : IsBegun Whole at v all = begun Whole at v all w in
        let leaf : IsLeaf cols v (at v.page) b.next = leaf_at v b.next l b.is in
        let alone : all ≡ v ∷ [] = b.are ∙ ap (λ (l : List Visit). v ∷ l) (no_walk Whole at b.next b.more leaf.none b.walks) in
        let are : cells at all ≡ full (at v.page) = ap (cells at) alone ∙ append-nil (cells_of at v) ∙ ap (λ (b : Bool). cond b (full (at v.page)) []) leaf.leaf in
        subst (HaveKeys cols P) (sym are) (keys_have cols P (full (at v.page)) e)
    told (suc n) v all l w e =
        let b : IsBegun Whole at v all = begun Whole at v all w in
        let m : Names n v b.next = node_at n v b.next l b.is in
        let each : Each (OfRow P) (flat_map (marks_of (inside cols at n)) (headless m.cs)) = subst (λ (cs : List Child). Each (OfRow P) (flat_map (marks_of (inside cols at n)) (headless cs))) m.read e in
        let walk : Walks Whole at (map (visit_of v.page n) (headless m.cs)) b.more [] = subst (λ (l : List Visit). Walks Whole at l b.more []) (m.are ∙ sym (headed v.page n m.cs)) b.walks in
        let are : cells at all ≡ cells at b.more = ap (cells at) b.are ∙ ap (λ (l : List (List ℕ)). l ++ cells at b.more) (other_cells at v m.inner) in
        subst (HaveKeys cols P) (sym are) (told_many n (told n) v.page (headless m.cs) b.more walk each)

  module _ (key : Key) where
    abbrev pub Other : Key → Type 0
    Other k = k ≢ key

    -- what stands on both sides of the page that is chosen
    record Sides (n : ℕ) (before : List Child) (ch : Child) (after : List Child) : Type 0 where
      low : Each (OfRow Other) (flat_map (marks_of (inside cols at n)) (headless before))
      mid : Ascend (inside cols at n ch.page)
      high : Each (OfRow Other) (flat_map (marks_of (inside cols at n)) after)

    low_marks : (l : Key) (ms : List Mark) → Upto l key → Each (λ m. Precedes m (Least l)) ms → Each (OfRow Other) ms
    low_marks l ms up e = each-map (λ m. Precedes m (Least l)) (OfRow Other) ms one e
      where
        one : (m : Mark) → Precedes m (Least l) → OfRow Other m
        one (Least r) p = tt
        one (Row r) p = below_not r key (below_upto r l key p up)

    high_marks : (l : Key) (ms : List Mark) → Below key l → Each (Precedes (Least l)) ms → Each (OfRow Other) ms
    high_marks l ms up e = each-map (Precedes (Least l)) (OfRow Other) ms one e
      where
        one : (m : Mark) → Precedes (Least l) m → OfRow Other m
        one (Least r) p = tt
        one (Row r) p = below_not_same key r (below_upto key l r up p)

    module _ (n : ℕ) where
      abbrev F : Child → List Mark
      F = marks_of (inside cols at n)

      high_side : (after : List Child) → IsBehind key after → Each (λ c. has_least c ≡ true) after → Ascend (flat_map F after) → Each (OfRow Other) (flat_map F after)
      high_side [] behind has a = tt
      high_side (d ∷ ds) behind has a = by d.least refl a
        where
          by : (o : Option Key) → d.least ≡ o → Ascend ((own o ++ inside cols at n d.page) ++ flat_map F ds) → Each (OfRow Other) ((own d.least ++ inside cols at n d.page) ++ flat_map F ds)
          by None is a = absurd (let wrong : false ≡ true = sym (ap is_some is) ∙ has.0 in cc)
          by (Some l) is a =
              let over : Below key l = above_of l key (ap (λ (o : Option Key). is_upto o (Some key)) (sym is) ∙ behind) in
              subst (λ (o : Option Key). Each (OfRow Other) ((own o ++ inside cols at n d.page) ++ flat_map F ds)) (sym is) (tt, high_marks l (inside cols at n d.page ++ flat_map F ds) over a.0)

      sides : (before : List Child) (ch : Child) (after : List Child) → (before ≡ []) ⊎ (may_hold key ch ≡ true) → IsBehind key after → Each (λ c. has_least c ≡ true) after → (before ≢ [] → has_least ch ≡ true)
          → Ascend (flat_map F (headless (before ++ ch ∷ after))) → Sides n before ch after
      sides [] ch after low behind has one a = record {
        low = tt;
        mid = ascend-left (inside cols at n ch.page) (flat_map F after) a;
        high = high_side after behind has (ascend-right (inside cols at n ch.page) (flat_map F after) a);
      }
      sides (b ∷ bs) ch after (inl none) behind has one a = absurd (no_cons b bs none)
      sides (b ∷ bs) ch after (inr held) behind has one a =
          by ch.least refl (subst Ascend (flat-append F (record b { least = None } ∷ bs) (ch ∷ after)) a)
        where
          front : List Mark
          front = flat_map (marks_of (inside cols at n)) (record b { least = None } ∷ bs)

          by : (o : Option Key) → ch.least ≡ o → Ascend (flat_map (marks_of (inside cols at n)) (record b { least = None } ∷ bs) ++ ((own ch.least ++ inside cols at n ch.page) ++ flat_map F after)) → Sides n (b ∷ bs) ch after
          by None is a = absurd (let wrong : false ≡ true = sym (ap is_some is) ∙ one (no_cons b bs) in cc)
          by (Some l) is a =
              let fs : List Mark = flat_map (marks_of (inside cols at n)) (record b { least = None } ∷ bs) in
              let up : Upto l key = ap (λ (o : Option Key). is_upto o (Some key)) (sym is) ∙ held in
              let a2 : Ascend (fs ++ Least l ∷ (inside cols at n ch.page ++ flat_map F after)) = subst (λ (o : Option Key). Ascend (fs ++ ((own o ++ inside cols at n ch.page) ++ flat_map F after))) is a in
              let a3 : Ascend (inside cols at n ch.page ++ flat_map F after) = (ascend-right fs (Least l ∷ (inside cols at n ch.page ++ flat_map F after)) a2).1 in
              record {
                low = low_marks l fs up (ascend-before fs (Least l) (inside cols at n ch.page ++ flat_map F after) a2);
                mid = ascend-left (inside cols at n ch.page) (flat_map F after) a3;
                high = high_side after behind has (ascend-right (inside cols at n ch.page) (flat_map F after) a3);
              }

    -- the cells of a walk: those of the look-up, and on both sides rows of other keys
    pub record IsFound (all path : List Visit) : Type 0 where
      pub before : List (List ℕ)
      pub after : List (List ℕ)
      pub are : cells at all ≡ before ++ (cells at path ++ after)
      pub low : HaveKeys cols Other before
      pub high : HaveKeys cols Other after

    found_same : (all path : List Visit) → all ≡ path → IsFound all path
    found_same all path e = record { before = []; after = []; are = ap (cells at) e ∙ sym (append-nil (cells at path)); low = tt; high = tt }

    abbrev Finds : ℕ → Type 0
    Finds n = (least : Option Key) (v : Visit) (all path : List Visit) → level_in at v ≡ n → Ascend (inside cols at n v.page) → are_parted cols at n least v.page ≡ true
        → Walks Whole at (v ∷ []) all [] → Walks (tree_kids cols (Some key)) at (v ∷ []) path [] → IsFound all path

    same_Ok : (x y : List Visit) → ◌≡◌ {A = Result (List Visit) ℕ} (Ok x) (Ok y) → x ≡ y
    same_Ok x y e = cc

    regroup : (a b c d e : List (List ℕ)) → a ++ ((b ++ (c ++ d)) ++ e) ≡ (a ++ b) ++ (c ++ (d ++ e))
    regroup a b c d e = simp append_assoc

    -- children behind the first have a least key
    behind_has : (c : Child) (cs before : List Child) (ch : Child) (after : List Child) → c ∷ cs ≡ before ++ ch ∷ after → Each (λ d. has_least d ≡ true) cs → Each (λ d. has_least d ≡ true) after × (before ≢ [] → has_least ch ≡ true)
    behind_has c cs [] ch after are h = let same : cs ≡ after = cc in (subst (Each (λ d. has_least d ≡ true)) same h, λ ne. absurd (ne refl))
    behind_has c cs (b ∷ bs) ch after are h =
        let same : cs ≡ bs ++ ch ∷ after = cc in
        let e : Each (λ d. has_least d ≡ true) (ch ∷ after) = each-right (λ d. has_least d ≡ true) bs (ch ∷ after) (subst (Each (λ d. has_least d ≡ true)) same h) in
        (e.1, λ ne. e.0)

    module _ (n : ℕ) (least : Option Key) (v : Visit) (all path : List Visit) (b : IsBegun Whole at v all) (c : IsBegun (tree_kids cols (Some key)) at v path) (m : Names n v b.next)
        (a : Ascend (inside cols at (suc n) v.page)) (p : are_parted cols at (suc n) least v.page ≡ true) (rec : Finds n) where
      only_all : cells at all ≡ cells at b.more
      only_all = ap (cells at) b.are ∙ ap (λ (l : List (List ℕ)). l ++ cells at b.more) (other_cells at v m.inner)

      only_path : cells at path ≡ cells at c.more
      only_path = ap (cells at) c.are ∙ ap (λ (l : List (List ℕ)). l ++ cells at c.more) (other_cells at v m.inner)

      under : (c0 : Child) (cs0 : List Child) → m.cs ≡ c0 ∷ cs0 → IsChosen key (c0 ∷ cs0) (chosen_from key c0 cs0) → IsFound all path
      under c0 cs0 e o =
          let ch : Child = chosen_from key c0 cs0 in
          let read : children_at cols (at v.page) ≡ c0 ∷ cs0 = m.read ∙ e in
          let parts = and_both (are_part least (children_at cols (at v.page))) (list_all (λ c. are_parted cols at n c.least c.page) (children_at cols (at v.page))) p in
          let part : are_part least (c0 ∷ cs0) ≡ true = ap (are_part least) (sym read) ∙ parts.0 in
          let has = behind_has c0 cs0 o.before ch o.after o.are (each_of has_least cs0 (and_both (is_none_or least c0.least) (list_all has_least cs0) part).1) in
          let below : Each (λ c. are_parted cols at n c.least c.page ≡ true) (children_at cols (at v.page)) = each_of (λ c. are_parted cols at n c.least c.page) (children_at cols (at v.page)) parts.1 in
          let chosen = each-right (λ c. are_parted cols at n c.least c.page ≡ true) o.before (ch ∷ o.after) (subst (Each (λ c. are_parted cols at n c.least c.page ≡ true)) (read ∙ o.are) below) in
          let asc : Ascend (flat_map (marks_of (inside cols at n)) (headless (o.before ++ ch ∷ o.after))) = subst (λ (cs : List Child). Ascend (flat_map (marks_of (inside cols at n)) (headless cs))) (read ∙ o.are) a in
          let s : Sides n o.before ch o.after = sides n o.before ch o.after o.low o.high has.0 has.1 asc in
          let next : b.next ≡ map (visit_of v.page n) o.before ++ (visit_of v.page n ch ∷ map (visit_of v.page n) o.after) = m.are ∙ ap (map (visit_of v.page n)) (e ∙ o.are) ∙ visits-append v.page n o.before (ch ∷ o.after) in
          let p1 : IsParted Whole at (map (visit_of v.page n) o.before) (visit_of v.page n ch ∷ map (visit_of v.page n) o.after) b.more =
          parted Whole at (map (visit_of v.page n) o.before) (visit_of v.page n ch ∷ map (visit_of v.page n) o.after) b.more (subst (λ (l : List Visit). Walks Whole at l b.more []) next b.walks) in
          let p2 : IsParted Whole at (visit_of v.page n ch ∷ []) (map (visit_of v.page n) o.after) p1.later = parted Whole at (visit_of v.page n ch ∷ []) (map (visit_of v.page n) o.after) p1.later p1.rest in
          let one : c.next ≡ visit_of v.page n ch ∷ [] = same_Ok c.next (visit_of v.page n ch ∷ []) (sym c.is ∙ m.other (Some key) ∙ ap (λ (cs : List Child). Ok (map (visit_of v.page n) (wanted (Some key) cs))) e) in
          let f : IsFound p2.first c.more = rec ch.least (visit_of v.page n ch) p2.first c.more refl s.mid chosen.0 p2.walks (subst (λ (l : List Visit). Walks (tree_kids cols (Some key)) at l c.more []) one c.walks) in
          let low : HaveKeys cols Other (cells at p1.first) = told_many Other n (told Other n) v.page (headless o.before) p1.first (subst (λ (l : List Visit). Walks Whole at l p1.first []) (sym (headed v.page n o.before)) p1.walks) s.low in
          let high : HaveKeys cols Other (cells at p2.later) = told_many Other n (told Other n) v.page o.after p2.later p2.rest s.high in
          record {
            before = cells at p1.first ++ f.before;
            after = f.after ++ cells at p2.later;
            are = only_all ∙ ap (cells at) (p1.are ∙ ap (λ (l : List Visit). p1.first ++ l) p2.are) ∙ cells-append at p1.first (p2.first ++ p2.later)
                ∙ ap (λ (l : List (List ℕ)). cells at p1.first ++ l) (cells-append at p2.first p2.later ∙ ap (λ (l : List (List ℕ)). l ++ cells at p2.later) f.are)
                ∙ regroup (cells at p1.first) f.before (cells at c.more) f.after (cells at p2.later)
                ∙ ap (λ (l : List (List ℕ)). (cells at p1.first ++ f.before) ++ (l ++ (f.after ++ cells at p2.later))) (sym only_path);
            low = have-append cols Other (cells at p1.first) f.before low f.low;
            high = have-append cols Other f.after (cells at p2.later) f.high high;
          }

      below_node : (cs : List Child) → m.cs ≡ cs → IsFound all path
      below_node [] e =
          let none : c.next ≡ [] = same_Ok c.next [] (sym c.is ∙ m.other (Some key) ∙ ap (λ (cs : List Child). Ok (map (visit_of v.page n) (wanted (Some key) cs))) e) in
          found_same all path (b.are ∙ ap (λ (l : List Visit). v ∷ l) (no_walk Whole at b.next b.more (m.are ∙ ap (map (visit_of v.page n)) e) b.walks ∙ sym (no_walk (tree_kids cols (Some key)) at c.next c.more none c.walks)) ∙ sym c.are)
      below_node (c0 ∷ cs0) e = under c0 cs0 e (chosen_is key c0 cs0)

    pub finds : (n : ℕ) → Finds n
    finds zero least v all path l a p w x =
        let b : IsBegun Whole at v all = begun Whole at v all w in
        let c : IsBegun (tree_kids cols (Some key)) at v path = begun (tree_kids cols (Some key)) at v path x in
        let leaf : IsLeaf cols v (at v.page) b.next = leaf_at v b.next l b.is in
        let none : c.next ≡ [] = same_Ok c.next [] (sym c.is ∙ leaf.other (Some key)) in
        found_same all path (b.are ∙ ap (λ (l : List Visit). v ∷ l) (no_walk Whole at b.next b.more leaf.none b.walks ∙ sym (no_walk (tree_kids cols (Some key)) at c.next c.more none c.walks)) ∙ sym c.are)
    finds (suc n) least v all path l a p w x =
        let b : IsBegun Whole at v all = begun Whole at v all w in
        let c : IsBegun (tree_kids cols (Some key)) at v path = begun (tree_kids cols (Some key)) at v path x in
        let m : Names n v b.next = node_at n v b.next l b.is in
        below_node n least v all path b c m a p (finds n) m.cs refl

    -- ROWS

    -- a row of another key
    get_other : (m : Rows) (k v : Key) → k ≢ key → finite.get (finite.insert m k v) key ≡ finite.get m key
    get_other m k v ne = get_put m k v key ∙ ap (λ (b : Bool). cond b (Some v) (finite.get m key)) (apart key k (λ e. ne (sym e)))

    -- the rows of some cells, of which the key's row is that of all
    pub record HasRowOf (cells : List (List ℕ)) (rows : Rows) : Type 0 where
      pub found : Rows
      pub gathers : Gathers cols cells found
      pub same : finite.get found key ≡ finite.get rows key

    without_front : (xs ys : List (List ℕ)) (rows : Rows) → HaveKeys cols Other xs → Gathers cols (xs ++ ys) rows → HasRowOf ys rows
    without_front [] ys rows h g = record { found = rows; gathers = g; same = refl }
    without_front (x ∷ xs) ys rows h g =
        let r : HasRowOf ys g.1 = without_front xs ys g.1 h.1 g.4 in
        record { found = r.found; gathers = r.gathers; same = r.same ∙ sym (ap (λ (m : Rows). finite.get m key) g.6 ∙ get_other g.1 (key_of cols g.0) g.0 (h.0 g.0 g.2)) }

    without_back : (xs ys : List (List ℕ)) (rows : Rows) → HaveKeys cols Other ys → Gathers cols (xs ++ ys) rows → HasRowOf xs rows
    without_back xs [] rows h g = record { found = rows; gathers = subst (λ (l : List (List ℕ)). Gathers cols l rows) (append-nil xs) g; same = refl }
    without_back xs (y ∷ ys) rows h g =
        let o : OneOf cols xs y ys rows = gathers_out cols xs y ys rows g in
        let r : HasRowOf xs o.rest = without_back xs ys o.rest h.1 o.others in
        record { found = r.found; gathers = r.gathers; same = r.same ∙ sym (ap (λ (m : Rows). finite.get m key) o.all ∙ get_other o.rest (key_of cols o.row) o.row (h.0 o.row o.is)) }

    pub found_rows : (all path : List Visit) (rows : Rows) → IsFound all path → Gathers cols (cells at all) rows → HasRowOf (cells at path) rows
    found_rows all path rows f g =
        let r : HasRowOf (cells at path ++ f.after) rows = without_front f.before (cells at path ++ f.after) rows f.low (subst (λ (l : List (List ℕ)). Gathers cols l rows) f.are g) in
        let s : HasRowOf (cells at path) r.found = without_back (cells at path) f.after r.found f.high r.gathers in
        record { found = s.found; gathers = s.gathers; same = s.same ∙ r.same }

-- the pages of a walk stand in it as they are
pub shown_are : (at : SlotsAt) (done : List Visit) (k : ℕ) (d : Visit) → k < length done → look (shown at done) (get_or done k d).page ≡ at (get_or done k d).page
shown_are at [] k d lt = absurd (omega (arith, lt))
shown_are at (v ∷ vs) zero d lt = ap (λ (b : Bool). cond b (at v.page) (look (shown at vs) v.page)) (is_page-same v.page)
shown_are at (v ∷ vs) (suc k) d lt = by (is_page v.page (get_or vs k d).page) refl (shown_are at vs k d (omega (arith, lt)))
  where
    by : (b : Bool) → is_page v.page (get_or vs k d).page ≡ b → look (shown at vs) (get_or vs k d).page ≡ at (get_or vs k d).page → cond b (at v.page) (look (shown at vs) (get_or vs k d).page) ≡ at (get_or vs k d).page
    by true e rest = ap at (is_page-true v.page (get_or vs k d).page e)
    by false e rest = rest

module _ (cols : List Column) (at : SlotsAt) (owns : PageId → Bool) (root : PageId) (rows : Rows) (key : Key) where
  pub row_on_path : (path : List Visit) → RowsAt cols at owns root rows → Walks (tree_kids cols (Some key)) at (first root ∷ []) path [] → HasRowOf cols at key (cells at path) rows
  row_on_path path t x =
      let seen : SlotsAt = look (shown at t.0) in
      let here : (k : ℕ) (d : Visit) → k < length t.0 → at (get_or t.0 k d).page ≡ look (shown at t.0) (get_or t.0 k d).page = λ k d lt. sym (shown_are at t.0 k d lt) in
      let among : AreAmong (path ++ []) t.0 = within cols at key (first root) [] t.0 path [] t.1.walk.walks x in
      let there : (k : ℕ) (d : Visit) → k < length path → at (get_or path k d).page ≡ look (shown at t.0) (get_or path k d).page =
      among-each (λ (v : Visit). at v.page ≡ look (shown at t.0) v.page) path t.0 (subst (λ (l : List Visit). AreAmong l t.0) (append-nil path) among) here in
      let w : Walks (tree_kids cols None) seen (first root ∷ []) t.0 [] = walks-same (tree_kids cols None) at seen (first root ∷ []) t.0 [] here t.1.walk.walks in
      let y : Walks (tree_kids cols (Some key)) seen (first root ∷ []) path [] = walks-same (tree_kids cols (Some key)) at seen (first root ∷ []) path [] there x in
      let order = and_both (ascend (inside cols seen (level_of (seen root)) root)) (are_parted cols seen (level_of (seen root)) None root) t.2 in
      let f : IsFound cols seen key t.0 path = finds cols seen key (level_of (seen root)) None (first root) t.0 path refl (ascend_of (inside cols seen (level_of (seen root)) root) order.0) order.1 w y in
      let r : HasRowOf cols seen key (cells seen path) rows = found_rows cols seen key t.0 path rows f (subst (λ (l : List (List ℕ)). Gathers cols l rows) (cells-same at seen t.0 here) t.1.gathers) in
      record { found = r.found; gathers = subst (λ (l : List (List ℕ)). Gathers cols l r.found) (sym (cells-same at seen path there)) r.gathers; same = r.same }

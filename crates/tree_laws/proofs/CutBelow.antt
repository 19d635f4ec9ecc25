-- The row of a key is cut below a page of any level: what is there then is sound and in order, without the row.
use Rattle.std.proofs.Common.{Bool, ◌≡◌, ◌≢◌, ◌≤◌, ◌+◌, ℕ, zero, suc, true, false, List, [], ◌∷◌, ◌++◌, map, refl, ap, sym, ◌∙◌, subst, arith, append_assoc, ◌⊎◌}
use Rattle.std.specs.Prelude.{Option, None, Some}
use Rattle.std.specs.List.{flat_map}
use Rattle.std.specs.FinMap as finite
use Rattle.page_base.specs.declared.column.Column.{Column}
use Rattle.page_base.specs.declared.numbers.PageId.{PageId}
use Rattle.page_base.specs.declared.value.Value.{Value}
use Rattle.page_fmt.specs.Spelling.{used, FitsPage}
use Rattle.plain_model.specs.Tables.{Rows as Map}
use Rattle.row_fmt.specs.Rows.{row_bytes}
use Rattle.table_walk.specs.Leaves.{Leaf, rows_in, ByKeys, changed}
use Rattle.table_walk.proofs.LeafLemmas.{is_there, lacks, remove_none, rows_in-trimmed}
use Rattle.tree_laws.specs.Keys.{Key}
use Rattle.tree_laws.specs.Kids.{is_upto}
use Rattle.tree_laws.specs.Order.{Mark, own}
use Rattle.tree_laws.specs.Order.Mark.{Row}
use Rattle.tree_laws.specs.Puts.{rows_in_order, in_key_order, chosen_entry, entry_for, cut_at, cut_below, level_in, cut}
use Rattle.tree_laws.specs.Sheets.{Entry, Sheet, Stand, slots_in, leaf_in, entries_in}
use Rattle.tree_laws.specs.Sheets.Sheet.{Rows}
use Rattle.tree_laws.specs.Trees.{entries_at, headless, row_mark, marks_of, inside, rows_of, pages_of}
use Rattle.tree_laws.proofs.CutLeaf.{without, cut_order, cut_rows, cut_each, cut_room, last_trimmed}
use Rattle.tree_laws.proofs.InnerStep.{IsBehind, IsChosen, chosen_is, front, split_marks, OtherMark, OtherRow, other_rows, other_many, none_there, low_other, high_other, no_more}
use Rattle.tree_laws.proofs.Lists.{Each, Precedes, Ascend, each-left, each-right, each-map, flat-append}
use Rattle.tree_laws.proofs.PutBelow.{AreSides, sides, each_more, times_around, below-same, many-rows-same}
use Rattle.tree_laws.proofs.Sound.{AreRules, ArePart, IsNode, IsLeaf, IsSound, Via, OnPath, sounds-same}
use Rattle.tree_laws.proofs.Times.{times, times_here, times_first, set_same, set_other, AgreeOn, Below, marks-same, inside-same}

abbrev Es : Type 0
Es = List Entry

abbrev Rs : Type 0
Rs = List (List Value)

module _ (cols : List Column) (P : List Value → Type 0) (K : Key → Type 0) (R : PageId → Bool) (rules : AreRules cols P K) (k : Key) where
  -- a page of this level once the key's row was cut below it
  pub record IsCut (n : ℕ) (s : Stand) (least : Option Key) (p : PageId) (t : Stand) : Type 0 where
    pub claims : t.claims ≡ s.claims
    pub sound : IsSound P K R t.sheets n least p
    pub order : (xs ys : List Mark) → Ascend (xs ++ (inside cols s.sheets n p ++ ys)) → Ascend (xs ++ (inside cols t.sheets n p ++ ys))
    pub rows : (cs ds : Rs) (m : Map) → ByKeys cols (cs ++ (rows_of cols s.sheets n p ++ ds)) m → is_there cols k cs ≡ false → is_there cols k ds ≡ false → ByKeys cols (cs ++ (rows_of cols t.sheets n p ++ ds)) (finite.remove m k)
    pub pages : pages_of t.sheets n p ≡ pages_of s.sheets n p
    pub others : (q : PageId) → times q (pages_of s.sheets n p) ≡ 0 → t.sheets q ≡ s.sheets q

  abbrev pub Cuts : ℕ → Type 0
  Cuts n = (s : Stand) (least : Option Key) (p : PageId) → IsSound P K R s.sheets n least p → Ascend (own least ++ inside cols s.sheets n p) → Each (λ m. Precedes m (Row k)) (own least) → ((q : PageId) → times q (pages_of s.sheets n p) ≤ 1)
      → OnPath R s.sheets k n p → IsCut n s least p (cut_below cols k n p s)

  leaf_cut : (s : Stand) (least : Option Key) (p : PageId) → IsSound P K R s.sheets 0 least p → R p ≡ true → IsCut 0 s least p (cut_below cols k 0 p s)
  leaf_cut s least p sound looked =
      let new : Leaf = without cols k (leaf_in (s.sheets p)) in
      let at : (cut_below cols k 0 p s).sheets p ≡ Rows new = set_same s.sheets p (Rows new) in
      let small : used (slots_in (Rows new)) ≤ 8192 = omega (arith, subst (λ (x : Sheet). used (slots_in x) ≤ 8192) sound.0 (sound.1 looked).small, cut_room cols k (leaf_in (s.sheets p))) in
      let each : Each P (rows_in new) = cut_each P cols k (leaf_in (s.sheets p)) sound.2 in
      let fits : FitsPage (slots_in (Rows new)) = record { small = small; last = last_trimmed (changed cols k None (leaf_in (s.sheets p))) (still (leaf_in (s.sheets p)) sound.2) } in
      let leaf_is : IsLeaf P (R p) (Rows new) = (refl, λ seen. fits, each) in
      record {
        claims = refl;
        sound = subst (IsLeaf P (R p)) (sym at) leaf_is;
        order = λ xs ys a. subst (λ (x : Sheet). Ascend (xs ++ (map (row_mark cols) (rows_in_order cols (leaf_in x)) ++ ys))) (sym at) (cut_order cols k (leaf_in (s.sheets p)) xs ys a);
        rows = λ cs ds m a no_cs no_ds. subst (λ (x : Sheet). ByKeys cols (cs ++ (rows_in_order cols (leaf_in x) ++ ds)) (finite.remove m k)) (sym at) (cut_rows cols k (leaf_in (s.sheets p)) cs ds m a no_cs no_ds);
        pages = refl;
        others = λ q none. set_other s.sheets p q (Rows new) (differ q none);
      }
    where
      differ : (q : PageId) → times q (p ∷ []) ≡ 0 → p ≢ q
      differ q none e = let there : 1 ≤ times q (p ∷ []) = subst (λ (x : PageId). 1 ≤ times q (x ∷ [])) (sym e) (times_here q []) in absurd (omega (arith, none, there))

      still : (leaf : Leaf) → Each P (rows_in leaf) → Each (λ r. row_bytes r ≢ []) (rows_in (changed cols k None leaf))
      still leaf h = each-map P (λ r. row_bytes r ≢ []) (rows_in (changed cols k None leaf)) (λ r p. rules.some r p) (subst (Each P) (rows_in-trimmed (changed cols k None leaf)) (cut_each P cols k leaf h))

  -- A PAGE OF ENTRIES

  module _ (n : ℕ) (s : Stand) (least : Option Key) (p : PageId) (sound : IsSound P K R s.sheets (suc n) least p) (asc : Ascend (own least ++ inside cols s.sheets (suc n) p)) (upto : Each (λ m. Precedes m (Row k)) (own least))
      (once : (q : PageId) → times q (pages_of s.sheets (suc n) p) ≤ 1) (looked : R p ≡ true) where
    none_cut : entries_at s.sheets p ≡ [] → IsCut (suc n) s least p s
    none_cut none =
        let empty : rows_of cols s.sheets (suc n) p ≡ [] = ap (λ (l : Es). flat_map (λ e. rows_of cols s.sheets n e.page) l) none in
        record {
          claims = refl;
          sound = sound;
          order = λ xs ys a. a;
          rows = λ cs ds m a no_cs no_ds.
              let alone : ByKeys cols (cs ++ ds) m = subst (λ (l : Rs). ByKeys cols (cs ++ (l ++ ds)) m) empty a in
              subst (ByKeys cols (cs ++ (rows_of cols s.sheets (suc n) p ++ ds))) (sym (remove_none m k (lacks cols (cs ++ ds) m k alone (no_more cols k cs ds no_cs no_ds)))) a;
          pages = refl;
          others = λ q gone. refl;
        }

    module _ (before : Es) (ch : Entry) (after : Es) (are : entries_at s.sheets p ≡ before ++ ch ∷ after) (low : (before ≡ []) ⊎ (is_upto ch.least (Some k) ≡ true)) (high : IsBehind k after) where
      old_part : ArePart least (before ++ ch ∷ after)
      old_part = subst (ArePart least) are sound.3

      old_marks : inside cols s.sheets (suc n) p ≡ flat_map (marks_of (inside cols s.sheets n)) (headless (before ++ ch ∷ after))
      old_marks = ap (λ (l : Es). flat_map (marks_of (inside cols s.sheets n)) (headless l)) are

      side : AreSides k (inside cols s.sheets n) least before ch after
      side = sides k (inside cols s.sheets n) least before ch after low high old_part (subst (λ (l : List Mark). Ascend (own least ++ l)) old_marks asc) upto

      around_p : (q : PageId) → times q (Below s.sheets n (entries_at s.sheets p)) ≡ times q (Below s.sheets n before) + (times q (pages_of s.sheets n ch.page) + times q (Below s.sheets n after))
      around_p q = ap (λ (l : Es). times q (Below s.sheets n l)) are ∙ times_around q s.sheets n before ch after

      old_sound : Each (λ e. IsSound P K R s.sheets n e.least e.page) (before ++ ch ∷ after)
      old_sound = subst (Each (λ e. IsSound P K R s.sheets n e.least e.page)) are sound.5

      ch_sound : IsSound P K R s.sheets n ch.least ch.page
      ch_sound = (each-right (λ e. IsSound P K R s.sheets n e.least e.page) before (ch ∷ after) old_sound).0

      ch_once : (q : PageId) → times q (pages_of s.sheets n ch.page) ≤ 1
      ch_once q = omega (arith, once q, around_p q)

      module _ (t : Stand) (C : IsCut n s ch.least ch.page t) where
        agree_before : AgreeOn s.sheets t.sheets (Below s.sheets n before)
        agree_before q there = sym (C.others q (omega (arith, there, once q, around_p q)))

        agree_after : AgreeOn s.sheets t.sheets (Below s.sheets n after)
        agree_after q there = sym (C.others q (omega (arith, there, once q, around_p q)))

        here : t.sheets p ≡ s.sheets p
        here = C.others p (omega (arith, once p, around_p p, times_first p (Below s.sheets n (entries_at s.sheets p))))

        entries : entries_at t.sheets p ≡ before ++ ch ∷ after
        entries = ap (λ (x : Sheet). in_key_order (entries_in x)) here ∙ are

        new_marks : inside cols t.sheets (suc n) p ≡ flat_map (marks_of (inside cols t.sheets n)) (headless (before ++ ch ∷ after))
        new_marks = ap (λ (l : Es). flat_map (marks_of (inside cols t.sheets n)) (headless l)) entries

        marks_after : flat_map (marks_of (inside cols s.sheets n)) after ≡ flat_map (marks_of (inside cols t.sheets n)) after
        marks_after = marks-same cols s.sheets t.sheets n after agree_after (inside-same cols s.sheets t.sheets n)

        front_same : front (inside cols s.sheets n) before ch ≡ front (inside cols t.sheets n) before ch
        front_same = by before agree_before
          where
            by : (xs : Es) → AgreeOn s.sheets t.sheets (Below s.sheets n xs) → front (inside cols s.sheets n) xs ch ≡ front (inside cols t.sheets n) xs ch
            by [] a = refl
            by (b ∷ bs) a = ap (λ (l : List Mark). l ++ own ch.least) (marks-same cols s.sheets t.sheets n (record b { least = None } ∷ bs) a (inside-same cols s.sheets t.sheets n))

        node_order : (xs ys : List Mark) → Ascend (xs ++ (inside cols s.sheets (suc n) p ++ ys)) → Ascend (xs ++ (inside cols t.sheets (suc n) p ++ ys))
        node_order xs ys a =
            let regroup : (f c b : List Mark) → xs ++ ((f ++ (c ++ b)) ++ ys) ≡ (xs ++ f) ++ (c ++ (b ++ ys)) =
            λ f c b. ap (λ (l : List Mark). xs ++ l) (append_assoc f (c ++ b) ys ∙ ap (λ (l : List Mark). f ++ l) (append_assoc c b ys)) ∙ sym (append_assoc xs f (c ++ (b ++ ys))) in
            let there : Ascend ((xs ++ front (inside cols s.sheets n) before ch) ++ (inside cols s.sheets n ch.page ++ (flat_map (marks_of (inside cols s.sheets n)) after ++ ys))) =
            subst Ascend (ap (λ (l : List Mark). xs ++ (l ++ ys)) (old_marks ∙ split_marks (inside cols s.sheets n) before ch after) ∙ regroup (front (inside cols s.sheets n) before ch) (inside cols s.sheets n ch.page) (flat_map (marks_of (inside cols s.sheets n)) after)) a in
            let made = C.order (xs ++ front (inside cols s.sheets n) before ch) (flat_map (marks_of (inside cols s.sheets n)) after ++ ys) there in
            let moved : (xs ++ front (inside cols s.sheets n) before ch) ++ (inside cols t.sheets n ch.page ++ (flat_map (marks_of (inside cols s.sheets n)) after ++ ys))
            ≡ (xs ++ front (inside cols t.sheets n) before ch) ++ (inside cols t.sheets n ch.page ++ (flat_map (marks_of (inside cols t.sheets n)) after ++ ys)) =
            λ i. (xs ++ front_same i) ++ (inside cols t.sheets n ch.page ++ (marks_after i ++ ys)) in
            subst Ascend (moved ∙ sym (ap (λ (l : List Mark). xs ++ (l ++ ys)) (new_marks ∙ split_marks (inside cols t.sheets n) before ch after) ∙ regroup (front (inside cols t.sheets n) before ch) (inside cols t.sheets n ch.page) (flat_map (marks_of (inside cols t.sheets n)) after))) made

        before_none : is_there cols k (flat_map (λ e. rows_of cols s.sheets n e.page) before) ≡ false
        before_none = none_there cols k (flat_map (λ e. rows_of cols s.sheets n e.page) before) (by before (low_other k (front (inside cols s.sheets n) before ch) side.low))
          where
            by : (xs : Es) → Each (OtherMark k) (front (inside cols s.sheets n) xs ch) → Each (OtherRow cols k) (flat_map (λ e. rows_of cols s.sheets n e.page) xs)
            by [] h = tt
            by (b ∷ bs) h = other_many cols k s.sheets n (other_rows cols k s.sheets n) (record b { least = None } ∷ bs) (each-left (OtherMark k) (flat_map (marks_of (inside cols s.sheets n)) (record b { least = None } ∷ bs)) (own ch.least) h)

        after_none : is_there cols k (flat_map (λ e. rows_of cols s.sheets n e.page) after) ≡ false
        after_none = none_there cols k (flat_map (λ e. rows_of cols s.sheets n e.page) after)
            (other_many cols k s.sheets n (other_rows cols k s.sheets n) after (high_other k (flat_map (marks_of (inside cols s.sheets n)) after) side.high))

        split_rows : (u : PageId → Sheet) → flat_map (λ e. rows_of cols u n e.page) (before ++ ch ∷ after) ≡ flat_map (λ e. rows_of cols u n e.page) before ++ (rows_of cols u n ch.page ++ flat_map (λ e. rows_of cols u n e.page) after)
        split_rows u = flat-append (λ e. rows_of cols u n e.page) before (ch ∷ after)

        node_rows : (cs ds : Rs) (m : Map) → ByKeys cols (cs ++ (rows_of cols s.sheets (suc n) p ++ ds)) m → is_there cols k cs ≡ false → is_there cols k ds ≡ false → ByKeys cols (cs ++ (rows_of cols t.sheets (suc n) p ++ ds)) (finite.remove m k)
        node_rows cs ds m a no_cs no_ds =
            let regroup : (f c b : Rs) → cs ++ ((f ++ (c ++ b)) ++ ds) ≡ (cs ++ f) ++ (c ++ (b ++ ds)) =
            λ f c b. ap (λ (l : Rs). cs ++ l) (append_assoc f (c ++ b) ds ∙ ap (λ (l : Rs). f ++ l) (append_assoc c b ds)) ∙ sym (append_assoc cs f (c ++ (b ++ ds))) in
            let there = subst (λ (l : Rs). ByKeys cols l m) (ap (λ (l : Rs). cs ++ (l ++ ds)) (ap (λ (l : Es). flat_map (λ e. rows_of cols s.sheets n e.page) l) are ∙ split_rows s.sheets)
            ∙ regroup (flat_map (λ e. rows_of cols s.sheets n e.page) before) (rows_of cols s.sheets n ch.page) (flat_map (λ e. rows_of cols s.sheets n e.page) after)) a in
            let made = C.rows (cs ++ flat_map (λ e. rows_of cols s.sheets n e.page) before) (flat_map (λ e. rows_of cols s.sheets n e.page) after ++ ds) m there
            (no_more cols k cs (flat_map (λ e. rows_of cols s.sheets n e.page) before) no_cs before_none)
            (no_more cols k (flat_map (λ e. rows_of cols s.sheets n e.page) after) ds after_none no_ds) in
            let same_b = many-rows-same cols s.sheets t.sheets n before agree_before in
            let same_a = many-rows-same cols s.sheets t.sheets n after agree_after in
            let moved : (cs ++ flat_map (λ e. rows_of cols s.sheets n e.page) before) ++ (rows_of cols t.sheets n ch.page ++ (flat_map (λ e. rows_of cols s.sheets n e.page) after ++ ds))
            ≡ (cs ++ flat_map (λ e. rows_of cols t.sheets n e.page) before) ++ (rows_of cols t.sheets n ch.page ++ (flat_map (λ e. rows_of cols t.sheets n e.page) after ++ ds)) =
            λ i. (cs ++ same_b i) ++ (rows_of cols t.sheets n ch.page ++ (same_a i ++ ds)) in
            subst (λ (l : Rs). ByKeys cols l (finite.remove m k))
            (moved ∙ sym (ap (λ (l : Rs). cs ++ (l ++ ds)) (ap (λ (l : Es). flat_map (λ e. rows_of cols t.sheets n e.page) l) entries ∙ split_rows t.sheets)
            ∙ regroup (flat_map (λ e. rows_of cols t.sheets n e.page) before) (rows_of cols t.sheets n ch.page) (flat_map (λ e. rows_of cols t.sheets n e.page) after))) made

        below_all : Below t.sheets n (before ++ ch ∷ after) ≡ Below s.sheets n (before ++ ch ∷ after)
        below_all =
            let b : Below s.sheets n before ≡ Below t.sheets n before = below-same s.sheets t.sheets n before agree_before in
            let a : Below s.sheets n after ≡ Below t.sheets n after = below-same s.sheets t.sheets n after agree_after in
            flat-append (λ e. pages_of t.sheets n e.page) before (ch ∷ after) ∙ (λ i. sym b i ++ (C.pages i ++ sym a i)) ∙ sym (flat-append (λ e. pages_of s.sheets n e.page) before (ch ∷ after))

        node_cut : IsCut (suc n) s least p t
        node_cut =
            let sounds : Each (λ e. IsSound P K R t.sheets n e.least e.page) (before ++ ch ∷ ([] ++ after)) =
            each_more (λ e. IsSound P K R t.sheets n e.least e.page) before ch [] after
            (sounds-same P K R s.sheets t.sheets n before agree_before (each-left (λ e. IsSound P K R s.sheets n e.least e.page) before (ch ∷ after) old_sound)) C.sound tt
            (sounds-same P K R s.sheets t.sheets n after agree_after (each-right (λ e. IsSound P K R s.sheets n e.least e.page) before (ch ∷ after) old_sound).1) in
            let node : IsNode K (R p) n least (s.sheets p) (λ e. IsSound P K R t.sheets n e.least e.page) = (sound.0, sound.1, sound.2, sound.3, sound.4, subst (Each (λ e. IsSound P K R t.sheets n e.least e.page)) (sym are) sounds) in
            record {
              claims = C.claims;
              sound = subst (λ (x : Sheet). IsNode K (R p) n least x (λ e. IsSound P K R t.sheets n e.least e.page)) (sym here) node;
              order = node_order;
              rows = node_rows;
              pages = ap (λ (l : Es). p ∷ Below t.sheets n l) entries ∙ ap (λ (l : List PageId). p ∷ l) below_all ∙ sym (ap (λ (l : Es). p ∷ Below s.sheets n l) are);
              others = λ q none. C.others q (omega (arith, none, around_p q));
            }

  pub cuts : (n : ℕ) → Cuts n
  cuts zero s least p sound asc upto once path = leaf_cut s least p sound path
  cuts (suc n) s least p sound asc upto once path = by (in_key_order (entries_in (s.sheets p))) refl path.1 (cuts n)
    where
      by : (l : Es) → in_key_order (entries_in (s.sheets p)) ≡ l → Via (OnPath R s.sheets k n) (entry_for k l) → Cuts n → IsCut (suc n) s least p (cut_at (cut_below cols k n) (entry_for k l) s)
      by [] none via rec = none_cut n s least p sound asc upto once path.0 none
      by (e ∷ es) is via rec =
          let ch : Entry = chosen_entry k e es in
          let o : IsChosen k (e ∷ es) (chosen_entry k e es) = chosen_is k e es in
          let are : entries_at s.sheets p ≡ o.before ++ chosen_entry k e es ∷ o.after = is ∙ o.are in
          let sd : AreSides k (inside cols s.sheets n) least o.before (chosen_entry k e es) o.after = side n s least p sound asc upto once path.0 o.before (chosen_entry k e es) o.after are o.low o.high in
          let C : IsCut n s ch.least ch.page (cut_below cols k n ch.page s) =
          rec s ch.least ch.page (ch_sound n s least p sound asc upto once path.0 o.before (chosen_entry k e es) o.after are o.low o.high) sd.mid sd.upto
          (ch_once n s least p sound asc upto once path.0 o.before (chosen_entry k e es) o.after are o.low o.high) via in
          node_cut n s least p sound asc upto once path.0 o.before (chosen_entry k e es) o.after are o.low o.high (cut_below cols k n ch.page s) C

  -- THE ROOT

  pub root_cut : (n : ℕ) (root : PageId) (s : Stand) → IsSound P K R s.sheets (suc n) None root → Ascend (inside cols s.sheets (suc n) root) → ((q : PageId) → times q (pages_of s.sheets (suc n) root) ≤ 1) → OnPath R s.sheets k (suc n) root
      → IsCut (suc n) s None root (cut cols root k s)
  root_cut n root s sound asc once path =
      let level : level_in (s.sheets root) ≡ suc n = ap level_in sound.0 in
      subst (λ (l : ℕ). IsCut (suc n) s None root (cut_below cols k l root s)) (sym level) (cuts (suc n) s None root sound asc tt once path)

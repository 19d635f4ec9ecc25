-- A row is put below a page of any level: what is there then is sound and in order, with the row and no other change.
use Rattle.std.proofs.Common.{Bool, ◌≡◌, ◌≢◌, ◌≤◌, ◌+◌, ◌-◌, ◌*◌, ℕ, zero, suc, true, false, List, [], ◌∷◌, ◌++◌, length, map, refl, ap, sym, ◌∙◌, subst, arith, append_assoc, append-nil, ◌⊎◌, inl, inr}
use Rattle.std.specs.Prelude.{Option, None, Some, is_some}
use Rattle.std.specs.List.{flat_map}
use Rattle.std.specs.FinMap as finite
use Rattle.page_base.specs.declared.column.Column.{Column}
use Rattle.page_base.specs.declared.numbers.PageId.{PageId}
use Rattle.page_base.specs.declared.value.Value.{Value}
use Rattle.page_fmt.specs.Spelling.{used, row_bytes as bytes_in, LastIsFull}
use Rattle.byte_fields.proofs.Numbers.{length-number}
use Rattle.plain_model.specs.Tables.{Rows as Map, key_of}
use Rattle.table_walk.specs.Leaves.{ByKeys}
use Rattle.table_walk.proofs.LeafLemmas.{is_there, inn, lacks}
use Rattle.tree_laws.specs.Keys.{Key}
use Rattle.tree_laws.specs.Kids.{is_upto}
use Rattle.tree_laws.specs.Order.{Mark, own}
use Rattle.tree_laws.specs.Order.Mark.{Least, Row}
use Rattle.tree_laws.specs.Parts.{total}
use Rattle.tree_laws.specs.Puts.{entry_size, rows_in_order, row_size, in_key_order, put_entries, chosen_entry, entry_for, through, rise, rise_with, to_inner, put_below, hand_out, leaf_of_rows}
use Rattle.tree_laws.specs.Sheets.{Entry, Sheet, Stand, Grown, entry_bytes, slots_in, leaf_in, entries_in}
use Rattle.tree_laws.specs.Trees.{entries_at, headless, row_mark, marks_of, inside, rows_of, pages_of}
use Rattle.tree_laws.proofs.EntryOrder.{Rises, put_between}
use Rattle.tree_laws.proofs.HandOut.{claimed_from, times_claimed, claimed_fewer}
use Rattle.tree_laws.proofs.InnerLay.{AreEntries, IsLaid, inner_laid, inner_claims, last_inner, size_of}
use Rattle.tree_laws.proofs.Totals.{total_slots, total_puts}
use Rattle.tree_laws.proofs.InnerStep.{IsBehind, IsChosen, chosen_is, before_row, after_row, front, split_marks, rises_of, OtherMark, OtherRow, other_rows, other_many, none_there, low_other, high_other, no_more}
use Rattle.tree_laws.proofs.KeyOrder.{Below as KeyBelow, Upto, above_of}
use Rattle.tree_laws.proofs.LeafStep.{leaf_of, leaf_grown}
use Rattle.tree_laws.proofs.Lists.{Each, Precedes, Ascend, each-left, each-right, each-append, each-map, ascend-left, ascend-right, ascend-before, flat-append}
use Rattle.tree_laws.proofs.MarkLemmas.{ascend-put}
use Rattle.tree_laws.proofs.Sound.{AreRules, HasLeast, ArePart, HasSome, IsEntry, IsNode, IsLeaf, IsSound, Via, OnPath, sounds-same, IsFree, IsGrown}
use Rattle.tree_laws.proofs.Times.{times, times-append, times_here, times_first, set_same, set_other, AgreeOn, agree-left, agree-right, Below, marks-same, inside-same, pages-same, rows-same}

abbrev Es : Type 0
Es = List Entry

abbrev Rs : Type 0
Rs = List (List Value)

-- WHAT STANDS ON BOTH SIDES OF THE CHILD

pub record AreSides (k : Key) (w : PageId → List Mark) (least : Option Key) (before : Es) (ch : Entry) (after : Es) : Type 0 where
  pub low : Each (λ m. Precedes m (Row k)) (front w before ch)
  pub high : Each (Precedes (Row k)) (flat_map (marks_of w) after)
  pub mid : Ascend (own ch.least ++ w ch.page)
  pub upto : Each (λ m. Precedes m (Row k)) (own ch.least)

high_side : (k : Key) (w : PageId → List Mark) (after : Es) → IsBehind k after → Each HasLeast after → Ascend (flat_map (marks_of w) after) → Each (Precedes (Row k)) (flat_map (marks_of w) after)
high_side k w [] behind has a = tt
high_side k w (d ∷ ds) behind has a = by d.least refl
  where
    by : (o : Option Key) → d.least ≡ o → Each (Precedes (Row k)) ((own d.least ++ w d.page) ++ flat_map (marks_of w) ds)
    by None is = absurd (let wrong : false ≡ true = sym (ap is_some is) ∙ has.0 in cc)
    by (Some l) is =
        let over : KeyBelow k l = above_of l k (ap (λ (o : Option Key). is_upto o (Some k)) (sym is) ∙ behind) in
        let whole : Ascend (Least l ∷ (w d.page ++ flat_map (marks_of w) ds)) = subst (λ (o : Option Key). Ascend ((own o ++ w d.page) ++ flat_map (marks_of w) ds)) is a in
        subst (λ (o : Option Key). Each (Precedes (Row k)) ((own o ++ w d.page) ++ flat_map (marks_of w) ds)) (sym is)
        (over, each-map (Precedes (Least l)) (Precedes (Row k)) (w d.page ++ flat_map (marks_of w) ds) (λ m p. after_row m l k over p) whole.0)

pub sides : (k : Key) (w : PageId → List Mark) (least : Option Key) (before : Es) (ch : Entry) (after : Es) → (before ≡ []) ⊎ (is_upto ch.least (Some k) ≡ true) → IsBehind k after → ArePart least (before ++ ch ∷ after)
    → Ascend (own least ++ flat_map (marks_of w) (headless (before ++ ch ∷ after))) → Each (λ m. Precedes m (Row k)) (own least) → AreSides k w least before ch after
sides k w least [] ch after low behind part a upto = by part.0
  where
    rest : Ascend (w ch.page ++ flat_map (marks_of w) after)
    rest = ascend-right (own least) (w ch.page ++ flat_map (marks_of w) after) a

    with_own : Ascend (own least ++ w ch.page)
    with_own = ascend-left (own least ++ w ch.page) (flat_map (marks_of w) after) (subst Ascend (sym (append_assoc (own least) (w ch.page) (flat_map (marks_of w) after))) a)

    by : (ch.least ≡ None) ⊎ (ch.least ≡ least) → AreSides k w least [] ch after
    by (inl none) = record {
      low = tt;
      high = high_side k w after behind part.1 (ascend-right (w ch.page) (flat_map (marks_of w) after) rest);
      mid = subst (λ (o : Option Key). Ascend (own o ++ w ch.page)) (sym none) (ascend-left (w ch.page) (flat_map (marks_of w) after) rest);
      upto = subst (λ (o : Option Key). Each (λ m. Precedes m (Row k)) (own o)) (sym none) tt;
    }
    by (inr same) = record {
      low = tt;
      high = high_side k w after behind part.1 (ascend-right (w ch.page) (flat_map (marks_of w) after) rest);
      mid = subst (λ (o : Option Key). Ascend (own o ++ w ch.page)) (sym same) with_own;
      upto = subst (λ (o : Option Key). Each (λ m. Precedes m (Row k)) (own o)) (sym same) upto;
    }
sides k w least (b ∷ bs) ch after (inl none) behind part a upto = absurd (let wrong : b ∷ bs ≡ [] = none in cc)
sides k w least (b ∷ bs) ch after (inr held) behind part a upto = by ch.least refl
  where
    fs : List Mark
    fs = flat_map (marks_of w) (record b { least = None } ∷ bs)

    has : Each HasLeast (ch ∷ after)
    has = each-right HasLeast bs (ch ∷ after) part.1

    rest : Ascend (flat_map (marks_of w) (record b { least = None } ∷ bs) ++ ((own ch.least ++ w ch.page) ++ flat_map (marks_of w) after))
    rest = subst Ascend (flat-append (marks_of w) (record b { least = None } ∷ bs) (ch ∷ after)) (ascend-right (own least) (flat_map (marks_of w) (record b { least = None } ∷ (bs ++ ch ∷ after))) a)

    tail : Ascend ((own ch.least ++ w ch.page) ++ flat_map (marks_of w) after)
    tail = ascend-right (flat_map (marks_of w) (record b { least = None } ∷ bs)) ((own ch.least ++ w ch.page) ++ flat_map (marks_of w) after) rest

    by : (o : Option Key) → ch.least ≡ o → AreSides k w least (b ∷ bs) ch after
    by None is = absurd (let wrong : false ≡ true = sym (ap is_some is) ∙ has.0 in cc)
    by (Some l) is =
        let up : Upto l k = ap (λ (o : Option Key). is_upto o (Some k)) (sym is) ∙ held in
        let rest2 : Ascend (flat_map (marks_of w) (record b { least = None } ∷ bs) ++ Least l ∷ (w ch.page ++ flat_map (marks_of w) after)) =
        subst (λ (o : Option Key). Ascend (flat_map (marks_of w) (record b { least = None } ∷ bs) ++ ((own o ++ w ch.page) ++ flat_map (marks_of w) after))) is rest in
        let under : Each (λ m. Precedes m (Row k)) (flat_map (marks_of w) (record b { least = None } ∷ bs)) =
        each-map (λ m. Precedes m (Least l)) (λ m. Precedes m (Row k)) (flat_map (marks_of w) (record b { least = None } ∷ bs)) (λ m p. before_row m l k p up)
        (ascend-before (flat_map (marks_of w) (record b { least = None } ∷ bs)) (Least l) (w ch.page ++ flat_map (marks_of w) after) rest2) in
        let one : Each (λ m. Precedes m (Row k)) (own ch.least) = subst (λ (o : Option Key). Each (λ m. Precedes m (Row k)) (own o)) (sym is) (up, tt) in
        record {
          low = each-append (λ m. Precedes m (Row k)) (flat_map (marks_of w) (record b { least = None } ∷ bs)) (own ch.least) under one;
          high = high_side k w after behind has.1 (ascend-right (own ch.least ++ w ch.page) (flat_map (marks_of w) after) tail);
          mid = ascend-left (own ch.least ++ w ch.page) (flat_map (marks_of w) after) tail;
          upto = one;
        }

part_more : (least : Option Key) (before : Es) (ch : Entry) (more after : Es) → Each HasLeast more → ArePart least (before ++ ch ∷ after) → ArePart least (before ++ ch ∷ (more ++ after))
part_more least [] ch more after has part = (part.0, each-append HasLeast more after has part.1)
part_more least (b ∷ bs) ch more after has part = (
  part.0,
  each-append HasLeast bs (ch ∷ (more ++ after)) (each-left HasLeast bs (ch ∷ after) part.1)
      ((each-right HasLeast bs (ch ∷ after) part.1).0, each-append HasLeast more after has (each-right HasLeast bs (ch ∷ after) part.1).1),
)

pub each_more : (P : Entry → Type 0) (before : Es) (ch : Entry) (more after : Es) → Each P before → P ch → Each P more → Each P after → Each P (before ++ ch ∷ (more ++ after))
each_more P before ch more after b c m a = each-append P before (ch ∷ (more ++ after)) b (c, each-append P more after m a)

some_more : (n : ℕ) (before : Es) (ch : Entry) (after : Es) → HasSome n (before ++ ch ∷ after)
some_more zero before ch after = tt
some_more (suc n) [] ch after = tt
some_more (suc n) (b ∷ bs) ch after = tt

pub times_around : (q : PageId) (s : PageId → Sheet) (n : ℕ) (before : Es) (ch : Entry) (after : Es) → times q (Below s n (before ++ ch ∷ after)) ≡ times q (Below s n before) + (times q (pages_of s n ch.page) + times q (Below s n after))
times_around q s n before ch after =
    ap (times q) (flat-append (λ e. pages_of s n e.page) before (ch ∷ after)) ∙ times-append q (Below s n before) (Below s n (ch ∷ after))
    ∙ ap (λ (m : ℕ). times q (Below s n before) + m) (times-append q (pages_of s n ch.page) (Below s n after))

pub below-same : (s t : PageId → Sheet) (n : ℕ) (xs : Es) → AgreeOn s t (Below s n xs) → Below s n xs ≡ Below t n xs
below-same s t n [] a = refl
below-same s t n (x ∷ xs) a =
    let one : pages_of s n x.page ≡ pages_of t n x.page = pages-same s t n x.page (agree-left s t (pages_of s n x.page) (Below s n xs) a) in
    let rest = below-same s t n xs (agree-right s t (pages_of s n x.page) (Below s n xs) a) in
    λ i. one i ++ rest i

pub many-rows-same : (cols : List Column) (s t : PageId → Sheet) (n : ℕ) (xs : Es) → AgreeOn s t (Below s n xs) → flat_map (λ e. rows_of cols s n e.page) xs ≡ flat_map (λ e. rows_of cols t n e.page) xs
many-rows-same cols s t n [] a = refl
many-rows-same cols s t n (x ∷ xs) a =
    let one : rows_of cols s n x.page ≡ rows_of cols t n x.page = rows-same cols s t n x.page (agree-left s t (pages_of s n x.page) (Below s n xs) a) in
    let rest = many-rows-same cols s t n xs (agree-right s t (pages_of s n x.page) (Below s n xs) a) in
    λ i. one i ++ rest i

module _ (cols : List Column) (P : List Value → Type 0) (K : Key → Type 0) (R : PageId → Bool) (rules : AreRules cols P K) (claimed : ℕ → PageId) (row : List Value) (good : P row) where
  -- the entries of a page once a row was put below one of them
  pub record IsMid (n : ℕ) (s : Stand) (least : Option Key) (p : PageId) (t : Stand) (all : Es) : Type 0 where
    pub used : ℕ
    pub claims : t.claims ≡ s.claims + used
    pub each : Each (IsEntry K) all
    pub part : ArePart least all
    pub some : HasSome n all
    pub sound : Each (λ e. IsSound P K R t.sheets n e.least e.page) all
    pub order : (xs ys : List Mark) → Ascend (xs ++ (inside cols s.sheets (suc n) p ++ ys)) → Each (λ m. Precedes m (Row (key_of cols row))) xs → Each (Precedes (Row (key_of cols row))) ys
        → Ascend (xs ++ (flat_map (marks_of (inside cols t.sheets n)) (headless all) ++ ys))
    pub rows : (cs ds : Rs) (m : Map) → ByKeys cols (cs ++ (rows_of cols s.sheets (suc n) p ++ ds)) m → is_there cols (key_of cols row) cs ≡ false → is_there cols (key_of cols row) ds ≡ false
        → ByKeys cols (cs ++ (flat_map (λ e. rows_of cols t.sheets n e.page) all ++ ds)) (finite.insert m (key_of cols row) row)
    pub pages : (q : PageId) → times q (Below t.sheets n all) ≡ times q (Below s.sheets n (entries_at s.sheets p)) + times q (claimed_from claimed s.claims used)
    pub others : (q : PageId) → times q (Below s.sheets n (entries_at s.sheets p)) ≡ 0 → times q (claimed_from claimed s.claims used) ≡ 0 → t.sheets q ≡ s.sheets q

  -- the page gets the entries of new pages, and has its own among them
  pub record IsRisen (n : ℕ) (s : Stand) (least : Option Key) (p : PageId) (g : Grown) : Type 0 where
    pub all : Es
    pub mid : IsMid n s least p g.stand all
    pub are : in_key_order (put_entries g.more (entries_in (s.sheets p))) ≡ all
    pub rises : Rises all
    pub fresh : Each (IsEntry K) g.more
    pub few : length g.more ≤ 2

  abbrev pub Grows : ℕ → Type 0
  Grows n = (s : Stand) (least : Option Key) (p : PageId) (r : ℕ) → IsSound P K R s.sheets n least p → Ascend (own least ++ inside cols s.sheets n p) → Each (λ m. Precedes m (Row (key_of cols row))) (own least)
      → IsFree P K R claimed s.claims r (pages_of s.sheets n p) → OnPath R s.sheets (key_of cols row) n p → (put_below cols claimed row n p s).stand.claims ≤ s.claims + r → IsGrown P K R cols claimed row n s least p (put_below cols claimed row n p s)

  module _ (n : ℕ) (s : Stand) (least : Option Key) (p : PageId) (r : ℕ) (sound : IsSound P K R s.sheets (suc n) least p) (asc : Ascend (own least ++ inside cols s.sheets (suc n) p)) (upto : Each (λ m. Precedes m (Row (key_of cols row))) (own least))
      (free : IsFree P K R claimed s.claims r (pages_of s.sheets (suc n) p)) (looked : R p ≡ true) where
    k : Key
    k = key_of cols row

    -- THE PAGE GETS THE ENTRIES

    room_of : (more : Es) → Each (IsEntry K) more → length more ≤ 2 → total entry_size more ≤ 1814
    room_of [] h f = omega arith
    room_of (a ∷ []) h f = omega (arith, size_of cols P K rules a h.0)
    room_of (a ∷ b ∷ []) h f = omega (arith, size_of cols P K rules a h.0, size_of cols P K rules b h.1.0)
    room_of (a ∷ b ∷ c ∷ more) h f = absurd (omega (arith, f))

    none_p : times p (Below s.sheets n (entries_at s.sheets p)) ≡ 0
    none_p = omega (arith, free.once p, times_first p (Below s.sheets n (entries_at s.sheets p)))

    -- nothing new: the page stays as it was
    pub stays_as_it_was : (g : Grown) (x : IsRisen n s least p g) → g.more ≡ [] → g.stand.claims ≤ s.claims + r → IsGrown P K R cols claimed row (suc n) s least p (record { stand = g.stand; more = [] })
    stays_as_it_was g x nothing budget =
        let m : IsMid n s least p g.stand x.all = x.mid in
        let are : in_key_order (entries_in (s.sheets p)) ≡ x.all = ap (λ (l : Es). in_key_order (put_entries l (entries_in (s.sheets p)))) (sym nothing) ∙ x.are in
        let few : m.used ≤ r = omega (arith, budget, m.claims) in
        let at : g.stand.sheets p ≡ s.sheets p = m.others p none_p (omega (arith, free.once p, times_first p (Below s.sheets n (entries_at s.sheets p)), claimed_fewer claimed s.claims m.used r p few)) in
        let entries : entries_at g.stand.sheets p ≡ x.all = ap (λ (y : Sheet). in_key_order (entries_in y)) at ∙ are in
        let node : IsNode K (R p) n least (s.sheets p) (λ e. IsSound P K R g.stand.sheets n e.least e.page) =
        (sound.0, sound.1, sound.2, sound.3, sound.4, subst (Each (λ e. IsSound P K R g.stand.sheets n e.least e.page)) (sym are) m.sound) in
        record {
          used = m.used;
          claims = m.claims;
          few = omega arith;
          sound = subst (λ (y : Sheet). IsNode K (R p) n least y (λ e. IsSound P K R g.stand.sheets n e.least e.page)) (sym at) node;
          new = tt;
          order = λ xs ys a low high. subst (λ (l : List Mark). Ascend (xs ++ (l ++ ys))) (sym (append-nil (inside cols g.stand.sheets (suc n) p) ∙ ap (λ (l : Es). flat_map (marks_of (inside cols g.stand.sheets n)) (headless l)) entries)) (m.order xs ys a low high);
          rows = λ cs ds mm a no_cs no_ds. subst (λ (l : Rs). ByKeys cols (cs ++ (l ++ ds)) (finite.insert mm (key_of cols row) row)) (sym (append-nil (rows_of cols g.stand.sheets (suc n) p) ∙ ap (λ (l : Es). flat_map (λ e. rows_of cols g.stand.sheets n e.page) l) entries)) (m.rows cs ds mm a no_cs no_ds);
          pages = λ q. omega (arith, m.pages q, ap (λ (l : Es). times q (Below g.stand.sheets n l)) entries);
          others = λ q none claims. m.others q (omega (arith, none)) claims;
        }

    -- the entries that are to stand on the page and on new ones
    pub entries_to_lay : (g : Grown) (x : IsRisen n s least p g) → g.stand.claims ≤ s.claims + r → AreEntries cols P K R rules claimed n least p g.stand x.all (put_entries g.more (entries_in (s.sheets p))) (r - x.mid.used)
    entries_to_lay g x budget =
        let m : IsMid n s least p g.stand x.all = x.mid in
        let few : m.used ≤ r = omega (arith, budget, m.claims) in
        let all_of : m.used + (r - m.used) ≡ r = omega arith in
        let old_room : bytes_in (map entry_bytes (entries_in (s.sheets p))) + 2 * length (map entry_bytes (entries_in (s.sheets p))) ≤ 8090 =
        omega (arith, subst (λ (y : Sheet). used (slots_in y) ≤ 8192) sound.0 (sound.1 looked).small, length-number 4 (suc n)) in
        let count : (q : PageId) → times q (claimed_from claimed s.claims r) ≡ times q (claimed_from claimed s.claims m.used) + times q (claimed_from claimed g.stand.claims (r - m.used)) =
        λ q. ap (λ (c : ℕ). times q (claimed_from claimed s.claims c)) (sym all_of) ∙ times_claimed claimed s.claims m.used (r - m.used) q ∙ ap (λ (c : ℕ). times q (claimed_from claimed s.claims m.used) + times q (claimed_from claimed c (r - m.used))) (sym m.claims) in
        record {
          are = x.are;
          rises = x.rises;
          each = m.each;
          part = m.part;
          some = m.some;
          sound = m.sound;
          last = last_inner (suc n) g.more (entries_in (s.sheets p)) (subst (λ (y : Sheet). LastIsFull (slots_in y)) sound.0 (sound.1 looked).last);
          total = omega (arith, ap (total entry_size) x.are, total_puts g.more (entries_in (s.sheets p)), total_slots (entries_in (s.sheets p)), old_room, room_of g.more x.fresh x.few);
          once = λ q. omega (arith, m.pages q, free.once q, count q);
          targets = λ i low high. free.targets i (omega (arith, low, m.claims)) (omega (arith, high, m.claims, few));
        }

    -- what laying them makes of the page
    pub grown_of : (g : Grown) (x : IsRisen n s least p g) (h : Grown) → IsLaid cols P K R rules claimed n least p g.stand x.all (put_entries g.more (entries_in (s.sheets p))) h → IsGrown P K R cols claimed row (suc n) s least p h
    grown_of g x h d =
        let m : IsMid n s least p g.stand x.all = x.mid in
        let sum : (q : PageId) → times q (claimed_from claimed s.claims (m.used + d.used)) ≡ times q (claimed_from claimed s.claims m.used) + times q (claimed_from claimed g.stand.claims d.used) =
        λ q. times_claimed claimed s.claims m.used d.used q ∙ ap (λ (c : ℕ). times q (claimed_from claimed s.claims m.used) + times q (claimed_from claimed c d.used)) (sym m.claims) in
        record {
          used = m.used + d.used;
          claims = omega (arith, d.claims, m.claims);
          few = d.few;
          sound = d.sound;
          new = d.new;
          order = λ xs ys a low high. subst (λ (l : List Mark). Ascend (xs ++ (l ++ ys))) (sym d.marks) (m.order xs ys a low high);
          rows = λ cs ds mm a no_cs no_ds. subst (λ (l : Rs). ByKeys cols (cs ++ (l ++ ds)) (finite.insert mm (key_of cols row) row)) (sym d.rows) (m.rows cs ds mm a no_cs no_ds);
          pages = λ q. omega (arith, d.pages q, m.pages q, sum q);
          others = λ q none claims. d.others q (omega (arith, none)) (omega (arith, claims, sum q)) ∙ m.others q (omega (arith, none)) (omega (arith, claims, sum q));
        }

    finish : (g : Grown) (x : IsRisen n s least p g) → g.stand.claims ≤ s.claims + r → (rise claimed p (suc n) (entries_in (s.sheets p)) g).stand.claims ≤ s.claims + r → IsGrown P K R cols claimed row (suc n) s least p (rise claimed p (suc n) (entries_in (s.sheets p)) g)
    finish g x room budget = by g.more refl budget
      where
        -- the same with the entries written out
        laid : (e : Entry) (more : Es) → e ∷ more ≡ g.more → (to_inner claimed p (suc n) (put_entries (e ∷ more) (entries_in (s.sheets p))) g.stand).stand.claims ≤ s.claims + r
            → IsGrown P K R cols claimed row (suc n) s least p (to_inner claimed p (suc n) (put_entries (e ∷ more) (entries_in (s.sheets p))) g.stand)
        laid e more are b =
            subst (λ (l : Es). (to_inner claimed p (suc n) (put_entries l (entries_in (s.sheets p))) g.stand).stand.claims ≤ s.claims + r → IsGrown P K R cols claimed row (suc n) s least p (to_inner claimed p (suc n) (put_entries l (entries_in (s.sheets p))) g.stand)) (sym are)
            (λ c. grown_of g x (to_inner claimed p (suc n) (put_entries g.more (entries_in (s.sheets p))) g.stand)
            (inner_laid cols P K R rules claimed n least p g.stand x.all (put_entries g.more (entries_in (s.sheets p))) (r - x.mid.used) (entries_to_lay g x room) (omega (arith, c, x.mid.claims, room)))) b

        by : (more : Es) → more ≡ g.more → (rise_with claimed p (suc n) (entries_in (s.sheets p)) more (record { stand = g.stand; more = more })).stand.claims ≤ s.claims + r
            → IsGrown P K R cols claimed row (suc n) s least p (rise_with claimed p (suc n) (entries_in (s.sheets p)) more (record { stand = g.stand; more = more }))
        by [] are b = stays_as_it_was g x (sym are) room
        by (e ∷ more) are b = laid e more are b

    -- THE CHILD FOR THE KEY

    -- laying gives no claimed page back
    pub rise_claims : (g : Grown) → g.stand.claims ≤ (rise claimed p (suc n) (entries_in (s.sheets p)) g).stand.claims
    rise_claims g = by g.more
      where
        by : (more : Es) → g.stand.claims ≤ (rise_with claimed p (suc n) (entries_in (s.sheets p)) more (record { stand = g.stand; more = more })).stand.claims
        by [] = omega arith
        by (e ∷ more) = inner_claims cols P K R rules claimed n least p g.stand [] (put_entries (e ∷ more) (entries_in (s.sheets p)))

    module _ (before : Es) (ch : Entry) (after : Es) (are : entries_at s.sheets p ≡ before ++ ch ∷ after) (low : (before ≡ []) ⊎ (is_upto ch.least (Some (key_of cols row)) ≡ true)) (high : IsBehind (key_of cols row) after) where
      old_part : ArePart least (before ++ ch ∷ after)
      old_part = subst (ArePart least) are sound.3

      old_marks : inside cols s.sheets (suc n) p ≡ flat_map (marks_of (inside cols s.sheets n)) (headless (before ++ ch ∷ after))
      old_marks = ap (λ (l : Es). flat_map (marks_of (inside cols s.sheets n)) (headless l)) are

      side : AreSides (key_of cols row) (inside cols s.sheets n) least before ch after
      side = sides (key_of cols row) (inside cols s.sheets n) least before ch after low high old_part (subst (λ (l : List Mark). Ascend (own least ++ l)) old_marks asc) upto

      around_p : (q : PageId) → times q (Below s.sheets n (entries_at s.sheets p)) ≡ times q (Below s.sheets n before) + (times q (pages_of s.sheets n ch.page) + times q (Below s.sheets n after))
      around_p q = ap (λ (l : Es). times q (Below s.sheets n l)) are ∙ times_around q s.sheets n before ch after

      ch_free : IsFree P K R claimed s.claims r (pages_of s.sheets n ch.page)
      ch_free = record { once = λ q. omega (arith, free.once q, around_p q); targets = free.targets }

      ch_sound : IsSound P K R s.sheets n ch.least ch.page
      ch_sound = (each-right (λ e. IsSound P K R s.sheets n e.least e.page) before (ch ∷ after) (subst (Each (λ e. IsSound P K R s.sheets n e.least e.page)) are sound.5)).0

      module _ (g : Grown) (G : IsGrown P K R cols claimed row n s ch.least ch.page g) (budget : g.stand.claims ≤ s.claims + r) where
        few : G.used ≤ r
        few = omega (arith, budget, G.claims)

        agree_before : AgreeOn s.sheets g.stand.sheets (Below s.sheets n before)
        agree_before q there = sym (G.others q (omega (arith, there, free.once q, around_p q)) (omega (arith, there, free.once q, around_p q, claimed_fewer claimed s.claims G.used r q few)))

        agree_after : AgreeOn s.sheets g.stand.sheets (Below s.sheets n after)
        agree_after q there = sym (G.others q (omega (arith, there, free.once q, around_p q)) (omega (arith, there, free.once q, around_p q, claimed_fewer claimed s.claims G.used r q few)))

        old_each : Each (IsEntry K) (before ++ ch ∷ after)
        old_each = subst (Each (IsEntry K)) are (sound.4 looked)

        old_sound : Each (λ e. IsSound P K R s.sheets n e.least e.page) (before ++ ch ∷ after)
        old_sound = subst (Each (λ e. IsSound P K R s.sheets n e.least e.page)) are sound.5

        new_least : Each HasLeast g.more
        new_least = each-map (λ e. IsEntry K e × HasLeast e × IsSound P K R g.stand.sheets n e.least e.page) HasLeast g.more (λ e h. h.1) G.new

        marks_after : flat_map (marks_of (inside cols s.sheets n)) after ≡ flat_map (marks_of (inside cols g.stand.sheets n)) after
        marks_after = marks-same cols s.sheets g.stand.sheets n after agree_after (inside-same cols s.sheets g.stand.sheets n)

        front_same : front (inside cols s.sheets n) before ch ≡ front (inside cols g.stand.sheets n) before ch
        front_same = by before agree_before
          where
            by : (xs : Es) → AgreeOn s.sheets g.stand.sheets (Below s.sheets n xs) → front (inside cols s.sheets n) xs ch ≡ front (inside cols g.stand.sheets n) xs ch
            by [] a = refl
            by (b ∷ bs) a = ap (λ (l : List Mark). l ++ own ch.least) (marks-same cols s.sheets g.stand.sheets n (record b { least = None } ∷ bs) a (inside-same cols s.sheets g.stand.sheets n))

        mid_order : (xs ys : List Mark) → Ascend (xs ++ (inside cols s.sheets (suc n) p ++ ys)) → Each (λ m. Precedes m (Row (key_of cols row))) xs → Each (Precedes (Row (key_of cols row))) ys
            → Ascend (xs ++ (flat_map (marks_of (inside cols g.stand.sheets n)) (headless (before ++ ch ∷ (g.more ++ after))) ++ ys))
        mid_order xs ys a lo hi =
            let ws : PageId → List Mark = inside cols s.sheets n in
            let wt : PageId → List Mark = inside cols g.stand.sheets n in
            let regroup : (f c b : List Mark) → xs ++ ((f ++ (c ++ b)) ++ ys) ≡ (xs ++ f) ++ (c ++ (b ++ ys)) =
            λ f c b. ap (λ (l : List Mark). xs ++ l) (append_assoc f (c ++ b) ys ∙ ap (λ (l : List Mark). f ++ l) (append_assoc c b ys)) ∙ sym (append_assoc xs f (c ++ (b ++ ys))) in
            let there : Ascend ((xs ++ front (inside cols s.sheets n) before ch) ++ (inside cols s.sheets n ch.page ++ (flat_map (marks_of (inside cols s.sheets n)) after ++ ys))) =
            subst Ascend (ap (λ (l : List Mark). xs ++ (l ++ ys)) (old_marks ∙ split_marks (inside cols s.sheets n) before ch after) ∙ regroup (front (inside cols s.sheets n) before ch) (inside cols s.sheets n ch.page) (flat_map (marks_of (inside cols s.sheets n)) after)) a in
            let made = G.order (xs ++ front (inside cols s.sheets n) before ch) (flat_map (marks_of (inside cols s.sheets n)) after ++ ys) there
            (each-append (λ m. Precedes m (Row (key_of cols row))) xs (front (inside cols s.sheets n) before ch) lo side.low)
            (each-append (Precedes (Row (key_of cols row))) (flat_map (marks_of (inside cols s.sheets n)) after) ys side.high hi) in
            let moved : (xs ++ front (inside cols s.sheets n) before ch) ++ ((inside cols g.stand.sheets n ch.page ++ flat_map (marks_of (inside cols g.stand.sheets n)) g.more) ++ (flat_map (marks_of (inside cols s.sheets n)) after ++ ys))
            ≡ (xs ++ front (inside cols g.stand.sheets n) before ch) ++ (inside cols g.stand.sheets n ch.page ++ (flat_map (marks_of (inside cols g.stand.sheets n)) (g.more ++ after) ++ ys)) =
            (λ i. (xs ++ front_same i) ++ ((inside cols g.stand.sheets n ch.page ++ flat_map (marks_of (inside cols g.stand.sheets n)) g.more) ++ (marks_after i ++ ys)))
            ∙ ap (λ (l : List Mark). (xs ++ front (inside cols g.stand.sheets n) before ch) ++ l)
            (append_assoc (inside cols g.stand.sheets n ch.page) (flat_map (marks_of (inside cols g.stand.sheets n)) g.more) (flat_map (marks_of (inside cols g.stand.sheets n)) after ++ ys)
            ∙ ap (λ (l : List Mark). inside cols g.stand.sheets n ch.page ++ l) (sym (append_assoc (flat_map (marks_of (inside cols g.stand.sheets n)) g.more) (flat_map (marks_of (inside cols g.stand.sheets n)) after) ys)
            ∙ ap (λ (l : List Mark). l ++ ys) (sym (flat-append (marks_of (inside cols g.stand.sheets n)) g.more after)))) in
            subst Ascend (moved ∙ sym (ap (λ (l : List Mark). xs ++ (l ++ ys)) (split_marks (inside cols g.stand.sheets n) before ch (g.more ++ after)) ∙ regroup (front (inside cols g.stand.sheets n) before ch) (inside cols g.stand.sheets n ch.page) (flat_map (marks_of (inside cols g.stand.sheets n)) (g.more ++ after)))) made

        -- rows before and behind have other keys
        before_none : is_there cols (key_of cols row) (flat_map (λ e. rows_of cols s.sheets n e.page) before) ≡ false
        before_none = none_there cols (key_of cols row) (flat_map (λ e. rows_of cols s.sheets n e.page) before) (by before (low_other (key_of cols row) (front (inside cols s.sheets n) before ch) side.low))
          where
            by : (xs : Es) → Each (OtherMark (key_of cols row)) (front (inside cols s.sheets n) xs ch) → Each (OtherRow cols (key_of cols row)) (flat_map (λ e. rows_of cols s.sheets n e.page) xs)
            by [] h = tt
            by (b ∷ bs) h = other_many cols (key_of cols row) s.sheets n (other_rows cols (key_of cols row) s.sheets n) (record b { least = None } ∷ bs) (each-left (OtherMark (key_of cols row)) (flat_map (marks_of (inside cols s.sheets n)) (record b { least = None } ∷ bs)) (own ch.least) h)

        after_none : is_there cols (key_of cols row) (flat_map (λ e. rows_of cols s.sheets n e.page) after) ≡ false
        after_none = none_there cols (key_of cols row) (flat_map (λ e. rows_of cols s.sheets n e.page) after)
            (other_many cols (key_of cols row) s.sheets n (other_rows cols (key_of cols row) s.sheets n) after (high_other (key_of cols row) (flat_map (marks_of (inside cols s.sheets n)) after) side.high))

        split_rows : (u : PageId → Sheet) (xs ys : Es) → flat_map (λ e. rows_of cols u n e.page) (xs ++ ch ∷ ys) ≡ flat_map (λ e. rows_of cols u n e.page) xs ++ (rows_of cols u n ch.page ++ flat_map (λ e. rows_of cols u n e.page) ys)
        split_rows u xs ys = flat-append (λ e. rows_of cols u n e.page) xs (ch ∷ ys)

        mid_rows : (cs ds : Rs) (m : Map) → ByKeys cols (cs ++ (rows_of cols s.sheets (suc n) p ++ ds)) m → is_there cols (key_of cols row) cs ≡ false → is_there cols (key_of cols row) ds ≡ false
            → ByKeys cols (cs ++ (flat_map (λ e. rows_of cols g.stand.sheets n e.page) (before ++ ch ∷ (g.more ++ after)) ++ ds)) (finite.insert m (key_of cols row) row)
        mid_rows cs ds m a no_cs no_ds =
            let Bs : Rs = flat_map (λ e. rows_of cols s.sheets n e.page) before in
            let As : Rs = flat_map (λ e. rows_of cols s.sheets n e.page) after in
            let regroup : (f c b : Rs) → cs ++ ((f ++ (c ++ b)) ++ ds) ≡ (cs ++ f) ++ (c ++ (b ++ ds)) =
            λ f c b. ap (λ (l : Rs). cs ++ l) (append_assoc f (c ++ b) ds ∙ ap (λ (l : Rs). f ++ l) (append_assoc c b ds)) ∙ sym (append_assoc cs f (c ++ (b ++ ds))) in
            let there = subst (λ (l : Rs). ByKeys cols l m) (ap (λ (l : Rs). cs ++ (l ++ ds)) (ap (λ (l : Es). flat_map (λ e. rows_of cols s.sheets n e.page) l) are ∙ split_rows s.sheets before after)
            ∙ regroup (flat_map (λ e. rows_of cols s.sheets n e.page) before) (rows_of cols s.sheets n ch.page) (flat_map (λ e. rows_of cols s.sheets n e.page) after)) a in
            let made = G.rows (cs ++ flat_map (λ e. rows_of cols s.sheets n e.page) before) (flat_map (λ e. rows_of cols s.sheets n e.page) after ++ ds) m there
            (no_more cols (key_of cols row) cs (flat_map (λ e. rows_of cols s.sheets n e.page) before) no_cs before_none)
            (no_more cols (key_of cols row) (flat_map (λ e. rows_of cols s.sheets n e.page) after) ds after_none no_ds) in
            let same_b = many-rows-same cols s.sheets g.stand.sheets n before agree_before in
            let same_a = many-rows-same cols s.sheets g.stand.sheets n after agree_after in
            let moved : (cs ++ flat_map (λ e. rows_of cols s.sheets n e.page) before) ++ ((rows_of cols g.stand.sheets n ch.page ++ flat_map (λ e. rows_of cols g.stand.sheets n e.page) g.more) ++ (flat_map (λ e. rows_of cols s.sheets n e.page) after ++ ds))
            ≡ (cs ++ flat_map (λ e. rows_of cols g.stand.sheets n e.page) before) ++ (rows_of cols g.stand.sheets n ch.page ++ (flat_map (λ e. rows_of cols g.stand.sheets n e.page) (g.more ++ after) ++ ds)) =
            (λ i. (cs ++ same_b i) ++ ((rows_of cols g.stand.sheets n ch.page ++ flat_map (λ e. rows_of cols g.stand.sheets n e.page) g.more) ++ (same_a i ++ ds)))
            ∙ ap (λ (l : Rs). (cs ++ flat_map (λ e. rows_of cols g.stand.sheets n e.page) before) ++ l)
            (append_assoc (rows_of cols g.stand.sheets n ch.page) (flat_map (λ e. rows_of cols g.stand.sheets n e.page) g.more) (flat_map (λ e. rows_of cols g.stand.sheets n e.page) after ++ ds)
            ∙ ap (λ (l : Rs). rows_of cols g.stand.sheets n ch.page ++ l) (sym (append_assoc (flat_map (λ e. rows_of cols g.stand.sheets n e.page) g.more) (flat_map (λ e. rows_of cols g.stand.sheets n e.page) after) ds)
            ∙ ap (λ (l : Rs). l ++ ds) (sym (flat-append (λ e. rows_of cols g.stand.sheets n e.page) g.more after)))) in
            subst (λ (l : Rs). ByKeys cols l (finite.insert m (key_of cols row) row))
            (moved ∙ sym (ap (λ (l : Rs). cs ++ (l ++ ds)) (split_rows g.stand.sheets before (g.more ++ after)) ∙ regroup (flat_map (λ e. rows_of cols g.stand.sheets n e.page) before) (rows_of cols g.stand.sheets n ch.page) (flat_map (λ e. rows_of cols g.stand.sheets n e.page) (g.more ++ after)))) made

        mid_of : IsMid n s least p g.stand (before ++ ch ∷ (g.more ++ after))
        mid_of = record {
          used = G.used;
          claims = G.claims;
          each = each_more (IsEntry K) before ch g.more after (each-left (IsEntry K) before (ch ∷ after) old_each) (each-right (IsEntry K) before (ch ∷ after) old_each).0
              (each-map (λ e. IsEntry K e × HasLeast e × IsSound P K R g.stand.sheets n e.least e.page) (IsEntry K) g.more (λ e h. h.0) G.new) (each-right (IsEntry K) before (ch ∷ after) old_each).1;
          part = part_more least before ch g.more after new_least old_part;
          some = some_more n before ch (g.more ++ after);
          sound = each_more (λ e. IsSound P K R g.stand.sheets n e.least e.page) before ch g.more after
              (sounds-same P K R s.sheets g.stand.sheets n before agree_before (each-left (λ e. IsSound P K R s.sheets n e.least e.page) before (ch ∷ after) old_sound))
              G.sound
              (each-map (λ e. IsEntry K e × HasLeast e × IsSound P K R g.stand.sheets n e.least e.page) (λ e. IsSound P K R g.stand.sheets n e.least e.page) g.more (λ e h. h.2) G.new)
              (sounds-same P K R s.sheets g.stand.sheets n after agree_after (each-right (λ e. IsSound P K R s.sheets n e.least e.page) before (ch ∷ after) old_sound).1);
          order = mid_order;
          rows = mid_rows;
          pages = λ q.
              let new = times_around q g.stand.sheets n before ch (g.more ++ after) in
              let both = ap (times q) (flat-append (λ e. pages_of g.stand.sheets n e.page) g.more after) ∙ times-append q (Below g.stand.sheets n g.more) (Below g.stand.sheets n after) in
              let b = ap (times q) (below-same s.sheets g.stand.sheets n before agree_before) in
              let a = ap (times q) (below-same s.sheets g.stand.sheets n after agree_after) in
              omega (arith, new, both, b, a, around_p q, G.pages q);
          others = λ q none claims. G.others q (omega (arith, none, around_p q)) claims;
        }

        risen_child : IsRisen n s least p g
        risen_child =
            let whole : Ascend (own least ++ (inside cols s.sheets (suc n) p ++ [])) = subst (λ (l : List Mark). Ascend (own least ++ l)) (sym (append-nil (inside cols s.sheets (suc n) p))) asc in
            let after_all : Ascend (own least ++ flat_map (marks_of (inside cols g.stand.sheets n)) (headless (before ++ ch ∷ (g.more ++ after)))) =
            subst (λ (l : List Mark). Ascend (own least ++ l)) (append-nil (flat_map (marks_of (inside cols g.stand.sheets n)) (headless (before ++ ch ∷ (g.more ++ after))))) (mid_order (own least) [] whole upto tt) in
            let rises : Rises (before ++ ch ∷ (g.more ++ after)) = rises_of (inside cols g.stand.sheets n) least (before ++ ch ∷ (g.more ++ after)) mid_of.part after_all in
            let assoc : (zs : Es) → (before ++ ch ∷ []) ++ zs ≡ before ++ ch ∷ zs = λ zs. append_assoc before (ch ∷ []) zs in
            let put : in_key_order (put_entries g.more (entries_in (s.sheets p))) ≡ (before ++ ch ∷ []) ++ (g.more ++ after) =
            put_between (entries_in (s.sheets p)) (before ++ ch ∷ []) g.more after (are ∙ sym (assoc after)) (subst Rises (sym (assoc (g.more ++ after))) rises) in
            record {
              all = before ++ ch ∷ (g.more ++ after);
              mid = mid_of;
              are = put ∙ assoc (g.more ++ after);
              rises = rises;
              fresh = each-map (λ e. IsEntry K e × HasLeast e × IsSound P K R g.stand.sheets n e.least e.page) (IsEntry K) g.more (λ e h. h.0) G.new;
              few = G.few;
            }

  -- THE FIRST LEAF

  module _ (s : Stand) (least : Option Key) (p : PageId) (r : ℕ) (sound : IsSound P K R s.sheets 1 least p) (asc : Ascend (own least ++ inside cols s.sheets 1 p)) (upto : Each (λ m. Precedes m (Row (key_of cols row))) (own least))
      (free : IsFree P K R claimed s.claims r (pages_of s.sheets 1 p)) (looked : R p ≡ true) (none : entries_at s.sheets p ≡ []) where
    abbrev one : Entry
    one = record { least = None; page = claimed s.claims }

    abbrev leafed : Grown
    leafed = hand_out leaf_of_rows (λ rows. None) claimed ((row ∷ []) ∷ []) s

    at_leaf : leafed.stand.sheets (claimed s.claims) ≡ leaf_of_rows (row ∷ [])
    at_leaf = set_same s.sheets (claimed s.claims) (leaf_of_rows (row ∷ []))

    mid_first : leafed.stand.claims ≤ s.claims + r → IsMid 0 s least p leafed.stand (one ∷ [])
    mid_first budget =
        let fit : row_size row + 0 ≤ 8096 = omega (arith, rules.small row good) in
        let rows_at : rows_of cols leafed.stand.sheets 0 (claimed s.claims) ≡ row ∷ [] = ap (λ (x : Sheet). rows_in_order cols (leaf_in x)) at_leaf in
        let marks_at : inside cols leafed.stand.sheets 0 (claimed s.claims) ≡ Row (key_of cols row) ∷ [] = ap (map (row_mark cols)) rows_at in
        let empty_marks : inside cols s.sheets 1 p ≡ [] = ap (λ (l : Es). flat_map (marks_of (inside cols s.sheets 0)) (headless l)) none in
        let empty_rows : rows_of cols s.sheets 1 p ≡ [] = ap (λ (l : Es). flat_map (λ e. rows_of cols s.sheets 0 e.page) l) none in
        let empty_pages : Below s.sheets 0 (entries_at s.sheets p) ≡ [] = ap (Below s.sheets 0) none in
        record {
          used = 1;
          claims = refl;
          each = (record { target = free.targets s.claims (omega arith) (omega (arith, budget)); least = tt }, tt);
          part = (inl refl, tt);
          some = tt;
          sound = (subst (IsLeaf P (R (claimed s.claims))) (sym at_leaf) (leaf_of cols P K R rules claimed row good (R (claimed s.claims)) (row ∷ []) (good, tt) fit), tt);
          order = λ xs ys a low high. subst (λ (l : List Mark). Ascend (xs ++ ((l ++ []) ++ ys))) (sym marks_at) (ascend-put (key_of cols row) xs ys (subst (λ (l : List Mark). Ascend (xs ++ (l ++ ys))) empty_marks a) low high);
          rows = λ cs ds m a no_cs no_ds.
              let old : ByKeys cols (cs ++ ds) m = subst (λ (l : Rs). ByKeys cols (cs ++ (l ++ ds)) m) empty_rows a in
              subst (λ (l : Rs). ByKeys cols (cs ++ ((l ++ []) ++ ds)) (finite.insert m (key_of cols row) row)) (sym rows_at) (inn cols cs row ds m old (lacks cols (cs ++ ds) m (key_of cols row) old (no_more cols (key_of cols row) cs ds no_cs no_ds)));
          pages = λ q. omega (arith, ap (times q) empty_pages);
          others = λ q gone claims. set_other s.sheets (claimed s.claims) q (leaf_of_rows (row ∷ [])) (differ q claims);
        }
      where
        differ : (q : PageId) → times q (claimed s.claims ∷ []) ≡ 0 → claimed s.claims ≢ q
        differ q none e = let there : 1 ≤ times q (claimed s.claims ∷ []) = subst (λ (x : PageId). 1 ≤ times q (x ∷ [])) (sym e) (times_here q []) in absurd (omega (arith, none, there))

    risen_first : leafed.stand.claims ≤ s.claims + r → IsRisen 0 s least p leafed
    risen_first b = record {
      all = one ∷ [];
      mid = mid_first b;
      are = put_between (entries_in (s.sheets p)) [] (one ∷ []) [] none (tt, tt);
      rises = (tt, tt);
      fresh = (mid_first b).each;
      few = omega arith;
    }

  -- BELOW THE CHILD, OR INTO A FIRST LEAF

  no_child : (m : ℕ) (s : Stand) (least : Option Key) (p : PageId) → IsSound P K R s.sheets (suc (suc m)) least p → entries_at s.sheets p ≡ [] → ⊥
  no_child m s least p sound none = subst (HasSome (suc m)) none sound.2

  abbrev pub Throughed : ℕ → Stand → PageId → Es → Grown
  Throughed n s p l = through claimed row (put_below cols claimed row n) (entry_for (key_of cols row) l) s

  pub risen : (n : ℕ) → Grows n → (s : Stand) (least : Option Key) (p : PageId) (r : ℕ) → IsSound P K R s.sheets (suc n) least p → Ascend (own least ++ inside cols s.sheets (suc n) p) → Each (λ m. Precedes m (Row (key_of cols row))) (own least)
      → IsFree P K R claimed s.claims r (pages_of s.sheets (suc n) p) → OnPath R s.sheets (key_of cols row) (suc n) p → (Throughed n s p (in_key_order (entries_in (s.sheets p)))).stand.claims ≤ s.claims + r
      → IsRisen n s least p (Throughed n s p (in_key_order (entries_in (s.sheets p))))
  risen n rec s least p r sound asc upto free path budget = by (in_key_order (entries_in (s.sheets p))) refl path.1 budget
    where
      empty : (m : ℕ) → m ≡ n → entries_at s.sheets p ≡ [] → (hand_out leaf_of_rows (λ rows. None) claimed ((row ∷ []) ∷ []) s).stand.claims ≤ s.claims + r → IsRisen n s least p (hand_out leaf_of_rows (λ rows. None) claimed ((row ∷ []) ∷ []) s)
      empty zero e none b =
          subst (λ (j : ℕ). IsSound P K R s.sheets (suc j) least p → Ascend (own least ++ inside cols s.sheets (suc j) p) → IsFree P K R claimed s.claims r (pages_of s.sheets (suc j) p)
          → IsRisen j s least p (hand_out leaf_of_rows (λ rows. None) claimed ((row ∷ []) ∷ []) s)) e
          (λ so ac fr. risen_first s least p r so ac upto fr path.0 none b) sound asc free
      empty (suc m) e none b = absurd (no_child m s least p (subst (λ (j : ℕ). IsSound P K R s.sheets (suc j) least p) (sym e) sound) none)

      by : (l : Es) → in_key_order (entries_in (s.sheets p)) ≡ l → Via (OnPath R s.sheets (key_of cols row) n) (entry_for (key_of cols row) l) → (Throughed n s p l).stand.claims ≤ s.claims + r → IsRisen n s least p (Throughed n s p l)
      by [] none via b = empty n refl none b
      by (e ∷ es) is via b =
          let ch : Entry = chosen_entry (key_of cols row) e es in
          let o : IsChosen (key_of cols row) (e ∷ es) (chosen_entry (key_of cols row) e es) = chosen_is (key_of cols row) e es in
          let are : entries_at s.sheets p ≡ o.before ++ chosen_entry (key_of cols row) e es ∷ o.after = is ∙ o.are in
          let g : Grown = put_below cols claimed row n (chosen_entry (key_of cols row) e es).page s in
          let sd : AreSides (key_of cols row) (inside cols s.sheets n) least o.before (chosen_entry (key_of cols row) e es) o.after = side n s least p r sound asc upto free path.0 o.before (chosen_entry (key_of cols row) e es) o.after are o.low o.high in
          let G : IsGrown P K R cols claimed row n s ch.least ch.page (put_below cols claimed row n ch.page s) =
          rec s ch.least ch.page r (ch_sound n s least p r sound asc upto free path.0 o.before (chosen_entry (key_of cols row) e es) o.after are o.low o.high) sd.mid sd.upto
          (ch_free n s least p r sound asc upto free path.0 o.before (chosen_entry (key_of cols row) e es) o.after are o.low o.high) via b in
          risen_child n s least p r sound asc upto free path.0 o.before (chosen_entry (key_of cols row) e es) o.after are o.low o.high g G b

  -- THE INDUCTION ON THE LEVEL

  pub grows : (n : ℕ) → Grows n
  grows zero s least p r sound asc upto free path budget = leaf_grown cols P K R rules claimed row good s least p r sound (ascend-right (own least) (inside cols s.sheets 0 p) asc) path free budget
  grows (suc n) s least p r sound asc upto free path budget =
      let g : Grown = Throughed n s p (in_key_order (entries_in (s.sheets p))) in
      let room : g.stand.claims ≤ s.claims + r = omega (arith, budget, rise_claims n s least p r sound asc upto free path.0 g) in
      finish n s least p r sound asc upto free path.0 g (risen n (grows n) s least p r sound asc upto free path room) room budget

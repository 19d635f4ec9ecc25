-- A row is put below a page of entries: the child for its key becomes what placing makes of it, and the others stay.
use Rattle.std.proofs.Common.{◌≡◌, ◌≢◌, ◌||◌, ℕ, zero, suc, Bool, true, false, cond, List, [], ◌∷◌, ◌++◌, map, refl, ap, sym, ◌∙◌, subst, append_assoc, ◌⊎◌, inl, inr}
use Rattle.std.specs.Prelude.{Option, None, Some, is_some}
use Rattle.std.specs.List.{flat_map}
use Rattle.std.specs.Ordering.{is_le}
use Rattle.page_base.specs.declared.column.Column.{Column}
use Rattle.page_base.specs.declared.numbers.PageId.{PageId}
use Rattle.page_base.specs.declared.value.Value.{Value}
use Rattle.page_base.specs.Order.{key_cmp}
use Rattle.plain_model.specs.Tables.{key_of}
use Rattle.table_walk.proofs.LeafLemmas.{is_there, is_there-append}
use Rattle.tree_laws.specs.Keys.{Key}
use Rattle.tree_laws.specs.Kids.{is_upto}
use Rattle.tree_laws.specs.Order.{Mark, own}
use Rattle.tree_laws.specs.Order.Mark.{Least, Row}
use Rattle.tree_laws.specs.Puts.{rows_in_order, chosen_entry}
use Rattle.tree_laws.specs.Sheets.{Entry, Sheet, leaf_in}
use Rattle.tree_laws.specs.Trees.{entries_at, headless, row_mark, marks_of, inside, rows_of}
use Rattle.tree_laws.proofs.EntryOrder.{Before, Rises}
use Rattle.tree_laws.proofs.KeyOrder.{Below as KeyBelow, Upto, below_upto, below_trans, upto_of, never_below, below_not, below_not_same, apart}
use Rattle.tree_laws.proofs.Lists.{Each, Precedes, Ascend, each-left, each-right, each-append, each-map, ascend-right, flat-append}
use Rattle.tree_laws.proofs.Sound.{HasLeast, ArePart}

abbrev Es : Type 0
Es = List Entry

-- THE ENTRY FOR A KEY

abbrev pub IsBehind : Key → List Entry → Type 0
IsBehind key [] = Unit {0}
IsBehind key (d ∷ ds) = is_upto d.least (Some key) ≡ false

pub record IsChosen (key : Key) (es : List Entry) (ch : Entry) : Type 0 where
  pub before : List Entry
  pub after : List Entry
  pub are : es ≡ before ++ ch ∷ after
  pub low : (before ≡ []) ⊎ (is_upto ch.least (Some key) ≡ true)
  pub high : IsBehind key after

pub chosen_is : (key : Key) (e : Entry) (es : List Entry) → IsChosen key (e ∷ es) (chosen_entry key e es)
chosen_is key e [] = record { before = []; after = []; are = refl; low = inl refl; high = tt }
chosen_is key e (d ∷ ds) = by (is_upto d.least (Some key)) refl (chosen_is key d ds)
  where
    held : (ch : Entry) (before after : List Entry) → d ∷ ds ≡ before ++ ch ∷ after → (before ≡ []) ⊎ (is_upto ch.least (Some key) ≡ true) → is_upto d.least (Some key) ≡ true → is_upto ch.least (Some key) ≡ true
    held ch before after are (inr h) t = h
    held ch [] after are (inl h) t = let same : d ≡ ch = cc in subst (λ (x : Entry). is_upto x.least (Some key) ≡ true) same t
    held ch (b ∷ before) after are (inl h) t = absurd (cc)

    by : (b : Bool) → is_upto d.least (Some key) ≡ b → IsChosen key (d ∷ ds) (chosen_entry key d ds) → IsChosen key (e ∷ d ∷ ds) (cond b (chosen_entry key d ds) e)
    by true t o = record {
      before = e ∷ o.before;
      after = o.after;
      are = ap (λ (l : Es). e ∷ l) o.are;
      low = inr (held (chosen_entry key d ds) o.before o.after o.are o.low t);
      high = o.high;
    }
    by false t o = record { before = []; after = d ∷ ds; are = refl; low = inl refl; high = t }

-- MARKS AROUND IT

pub before_row : (m : Mark) (l k : Key) → Precedes m (Least l) → Upto l k → Precedes m (Row k)
before_row (Least r) l k p u = upto_of r k (below_upto r l k p u)
before_row (Row r) l k p u = below_upto r l k p u

pub after_row : (m : Mark) (l k : Key) → KeyBelow k l → Precedes (Least l) m → Precedes (Row k) m
after_row (Least r) l k b p = below_trans k l r b p
after_row (Row r) l k b p = below_upto k l r b p

-- what stands in front of what is inside a child: the marks of those before it, and its own least key, where it isn't the first
abbrev pub front : (PageId → List Mark) → List Entry → Entry → List Mark
front w [] ch = []
front w (b ∷ bs) ch = flat_map (marks_of w) (record b { least = None } ∷ bs) ++ own ch.least

pub split_marks : (w : PageId → List Mark) (before : List Entry) (ch : Entry) (after : List Entry) → flat_map (marks_of w) (headless (before ++ ch ∷ after)) ≡ front w before ch ++ (w ch.page ++ flat_map (marks_of w) after)
split_marks w [] ch after = refl
split_marks w (b ∷ bs) ch after =
    flat-append (marks_of w) (record b { least = None } ∷ bs) (ch ∷ after)
    ∙ ap (λ (l : List Mark). flat_map (marks_of w) (record b { least = None } ∷ bs) ++ l) (append_assoc (own ch.least) (w ch.page) (flat_map (marks_of w) after))
    ∙ sym (append_assoc (flat_map (marks_of w) (record b { least = None } ∷ bs)) (own ch.least) (w ch.page ++ flat_map (marks_of w) after))

-- THE ORDER OF ENTRIES

not_upto : (a b : Key) → KeyBelow a b → is_le (key_cmp b a) ≡ false
not_upto a b below = by (is_le (key_cmp b a)) refl
  where
    by : (t : Bool) → is_le (key_cmp b a) ≡ t → t ≡ false
    by true e = absurd (never_below a (below_upto a b a below e))
    by false e = refl

above_key : (l : Key) (e d : Entry) → e.least ≡ Some l → (m : Option Key) → d.least ≡ m → HasLeast d → ((k : Key) → m ≡ Some k → KeyBelow l k) → Before e d
above_key l e d is None m has b = absurd (let wrong : false ≡ true = sym (ap is_some m) ∙ has in cc)
above_key l e d is (Some k) m has b =
    let below : KeyBelow l k = b k refl in (
      subst (λ (o : Option Key). is_upto o d.least ≡ true) (sym is) (subst (λ (o : Option Key). is_upto (Some l) o ≡ true) (sym m) (upto_of l k below)),
      subst (λ (o : Option Key). is_upto d.least o ≡ false) (sym is) (subst (λ (o : Option Key). is_upto o (Some l) ≡ false) (sym m) (not_upto l k below)),
    )

least_above : (w : PageId → List Mark) (l : Key) (o : Option Key) (rest : List Mark) (p : PageId) → Each (Precedes (Least l)) ((own o ++ w p) ++ rest) → (k : Key) → o ≡ Some k → KeyBelow l k
least_above w l None rest p e k is = absurd (cc)
least_above w l (Some j) rest p e k is = let same : j ≡ k = cc in subst (KeyBelow l) same e.0

all_above : (w : PageId → List Mark) (l : Key) (e : Entry) (ds : List Entry) → e.least ≡ Some l → Each HasLeast ds → Each (Precedes (Least l)) (flat_map (marks_of w) ds) → Each (Before e) ds
all_above w l e [] is has a = tt
all_above w l e (d ∷ ds) is has a =
    (above_key l e d is d.least refl has.0 (least_above w l d.least (flat_map (marks_of w) ds) d.page a), all_above w l e ds is has.1 (each-right (Precedes (Least l)) (own d.least ++ w d.page) (flat_map (marks_of w) ds) a))

rises_tail : (w : PageId → List Mark) (ds : List Entry) → Each HasLeast ds → Ascend (flat_map (marks_of w) ds) → Rises ds
rises_tail w [] has a = tt
rises_tail w (d ∷ ds) has a = by d.least refl (rises_tail w ds has.1 (ascend-right (own d.least ++ w d.page) (flat_map (marks_of w) ds) a))
  where
    by : (o : Option Key) → d.least ≡ o → Rises ds → Rises (d ∷ ds)
    by None is rest = absurd (let wrong : false ≡ true = sym (ap is_some is) ∙ has.0 in cc)
    by (Some l) is rest =
        let whole : Ascend (Least l ∷ (w d.page ++ flat_map (marks_of w) ds)) = subst (λ (o : Option Key). Ascend ((own o ++ w d.page) ++ flat_map (marks_of w) ds)) is a in
        (all_above w l d ds is has.1 (each-right (Precedes (Least l)) (w d.page) (flat_map (marks_of w) ds) whole.0), rest)

none_before : (e : Entry) (ds : List Entry) → e.least ≡ None → Each HasLeast ds → Each (Before e) ds
none_before e [] is has = tt
none_before e (d ∷ ds) is has = (by d.least refl, none_before e ds is has.1)
  where
    by : (o : Option Key) → d.least ≡ o → Before e d
    by None m = absurd (let wrong : false ≡ true = sym (ap is_some m) ∙ has.0 in cc)
    by (Some k) m =
        (subst (λ (o : Option Key). is_upto o d.least ≡ true) (sym is) refl, subst (λ (o : Option Key). is_upto d.least o ≡ false) (sym is) (subst (λ (o : Option Key). is_upto o None ≡ false) (sym m) refl))

pub rises_of : (w : PageId → List Mark) (least : Option Key) (all : List Entry) → ArePart least all → Ascend (own least ++ flat_map (marks_of w) (headless all)) → Rises all
rises_of w least [] part a = tt
rises_of w least (e ∷ es) part a = (by part.0, rises_tail w es part.1 (ascend-right (w e.page) (flat_map (marks_of w) es) (ascend-right (own least) (w e.page ++ flat_map (marks_of w) es) a)))
  where
    at : (o : Option Key) → least ≡ o → e.least ≡ least → Each (Before e) es
    at None is same = none_before e es (same ∙ is) part.1
    at (Some l) is same =
        let whole : Ascend (Least l ∷ (w e.page ++ flat_map (marks_of w) es)) = subst (λ (o : Option Key). Ascend (own o ++ (w e.page ++ flat_map (marks_of w) es))) is a in
        all_above w l e es (same ∙ is) part.1 (each-right (Precedes (Least l)) (w e.page) (flat_map (marks_of w) es) whole.0)

    by : (e.least ≡ None) ⊎ (e.least ≡ least) → Each (Before e) es
    by (inl none) = none_before e es none part.1
    by (inr same) = at least refl same

-- ROWS OF OTHER KEYS

abbrev Rs : Type 0
Rs = List (List Value)

abbrev pub OtherMark : Key → Mark → Type 0
OtherMark k (Least l) = Unit {0}
OtherMark k (Row l) = l ≢ k

abbrev pub OtherRow : List Column → Key → List Value → Type 0
OtherRow cols k row = key_of cols row ≢ k

pub other_many : (cols : List Column) (k : Key) (s : PageId → Sheet) (n : ℕ) → ((p : PageId) → Each (OtherMark k) (inside cols s n p) → Each (OtherRow cols k) (rows_of cols s n p)) → (es : List Entry) → Each (OtherMark k) (flat_map (marks_of (inside cols s n)) es)
    → Each (OtherRow cols k) (flat_map (λ e. rows_of cols s n e.page) es)
other_many cols k s n f [] h = tt
other_many cols k s n f (e ∷ es) h =
    each-append (OtherRow cols k) (rows_of cols s n e.page) (flat_map (λ e. rows_of cols s n e.page) es)
    (f e.page (each-right (OtherMark k) (own e.least) (inside cols s n e.page) (each-left (OtherMark k) (own e.least ++ inside cols s n e.page) (flat_map (marks_of (inside cols s n)) es) h)))
    (other_many cols k s n f es (each-right (OtherMark k) (own e.least ++ inside cols s n e.page) (flat_map (marks_of (inside cols s n)) es) h))

pub other_rows : (cols : List Column) (k : Key) (s : PageId → Sheet) (n : ℕ) (p : PageId) → Each (OtherMark k) (inside cols s n p) → Each (OtherRow cols k) (rows_of cols s n p)
other_rows cols k s zero p h = leaf (rows_in_order cols (leaf_in (s p))) h
  where
    leaf : (rs : Rs) → Each (OtherMark k) (map (row_mark cols) rs) → Each (OtherRow cols k) rs
    leaf [] h = tt
    leaf (r ∷ rs) h = (h.0, leaf rs h.1)
other_rows cols k s (suc n) p h = headed (entries_at s p) (other_many cols k s n (other_rows cols k s n) (headless (entries_at s p)) h)
  where
    headed : (es : List Entry) → Each (OtherRow cols k) (flat_map (λ e. rows_of cols s n e.page) (headless es)) → Each (OtherRow cols k) (flat_map (λ e. rows_of cols s n e.page) es)
    headed [] h = h
    headed (e ∷ es) h = h

pub none_there : (cols : List Column) (k : Key) (rs : Rs) → Each (OtherRow cols k) rs → is_there cols k rs ≡ false
none_there cols k [] h = refl
none_there cols k (r ∷ rs) h = λ i. apart (key_of cols r) k h.0 i || none_there cols k rs h.1 i

pub low_other : (k : Key) (ms : List Mark) → Each (λ m. Precedes m (Row k)) ms → Each (OtherMark k) ms
low_other k ms e = each-map (λ m. Precedes m (Row k)) (OtherMark k) ms one e
  where
    one : (m : Mark) → Precedes m (Row k) → OtherMark k m
    one (Least l) p = tt
    one (Row l) p = below_not l k p

pub high_other : (k : Key) (ms : List Mark) → Each (Precedes (Row k)) ms → Each (OtherMark k) ms
high_other k ms e = each-map (Precedes (Row k)) (OtherMark k) ms one e
  where
    one : (m : Mark) → Precedes (Row k) m → OtherMark k m
    one (Least l) p = tt
    one (Row l) p = below_not_same k l p

pub no_more : (cols : List Column) (k : Key) (xs ys : Rs) → is_there cols k xs ≡ false → is_there cols k ys ≡ false → is_there cols k (xs ++ ys) ≡ false
no_more cols k xs ys e f = is_there-append cols k xs ys ∙ (λ i. e i || f i)

-- Tables read one after the other, and the first row that is wrong.
use Rattle.std.proofs.Common.{◌≡◌, ◌≢◌, ℕ, zero, suc, ◌+◌, ◌-◌, ◌*◌, ◌<◌, ◌≤◌, Bool, true, false, cond, ◌==◌, ◌&&◌, not, List, [], ◌∷◌, ◌++◌, length, take, drop, map, get_or, refl, ap, sym, ◌∙◌, subst, arith, append_assoc, length-append, nat_eq}
use Rattle.std.specs.Prelude.{Option, None, MatchOption}
use Rattle.std.specs.List.{flat_map, list_all, AllByRecursion, IsDistinct}
use Rattle.std.specs.List.Sorted.{IsStrictlySortedBy}
use Rattle.std.specs.Ordering.{nat_cmp, is_lt}
use Rattle.std.specs.Cmp.Lexicographic.{slice_cmp}
use Rattle.std.specs.declared.cmp.Ordering.{Ordering}
use Rattle.std.specs.declared.cmp.Ordering.TheVariants.{Less, Equal, Greater}
use Rattle.std.proofs.lemmas.Bool.{and_parts}
use Rattle.std.proofs.lemmas.List.{append-nil, take_more, take_all, take-append-drop, drop_more, length-map, length-take-le, length-drop}
use Rattle.std.proofs.lemmas.Grind.{flat_map-append}
use Rattle.std.proofs.lemmas.List.Folds.{list_all-append}
use Rattle.page_base.specs.declared.column.Column.{Column}
use Rattle.page_base.specs.declared.column.ColType.{ColType}
use Rattle.page_base.specs.declared.column.ColType.TheVariants as types
use Rattle.page_base.specs.declared.value.Value.{Value}
use Rattle.page_base.specs.Name.{IsLowName}
use Rattle.plain_model.specs.Sound.{is_type, is_column, is_definition}
use Rattle.sys_cat.specs.declared.desc.TableDesc.{TableDesc}
use Rattle.sys_cat.specs.Rows.{type_length, table_row, column_row, column_rows, rows_of}
use Rattle.sys_cat.specs.Lines.{IsLine, table_line, column_line}
use Rattle.sys_cat.specs.Lists.{IsHead, AreNamed, IsDesc, AreDescs, AreTables, Begin, IsFirstWrong}
use Rattle.sys_cat.specs.Growing.{span, key_size, can_grow, is_whole}
use Rattle.sys_cat.specs.Reading.{may_follow, Stops, AreLongest}
use Rattle.sys_cat.proofs.CountLemmas.{top-append, le_is, total_within}
use Rattle.sys_cat.proofs.GrowLemmas.{both, defined, grows, whole_is, is_whole_definition, front_grows, rest_of, Rest, named_append, size_within}
use Rattle.sys_cat.proofs.LineLemmas.{column_rows-append}
use Rattle.sys_cat.proofs.ParseLemmas.{Rows, head_is, no_cons, column_same, front, LastGoesOn, Extends, parse}

-- LINES

pub column_line_is : (name : List ℕ) (ord : ℕ) (c : Column) → IsLowName name → ord < 2147483648 → IsLowName c.name → is_type c.kind ≡ true → c.key < 256 → IsLine (column_line name ord c)
column_line_is name ord c n o text kind key = record { name = n; text = text; ord = o; a = number c.kind; b = long c.kind kind; c = keyed c.nullable }
  where
    number : (k : ColType) → (column_line name ord (record { name = c.name; kind = k; nullable = c.nullable; key = c.key })).a < 2147483648
    number types.Int = omega arith
    number types.Big = omega arith
    number (types.Text m) = omega arith

    long : (k : ColType) → is_type k ≡ true → type_length k < 2147483648
    long types.Int h = omega arith
    long types.Big h = omega arith
    long (types.Text m) h = let p = and_parts _ _ h in let q = le_is m 8000 p.1 in omega arith

    keyed : (b : Bool) → 2 * c.key + cond b 1 0 < 2147483648
    keyed true = omega arith
    keyed false = omega arith

pub table_line_is : (d : TableDesc) → IsHead d → IsLine (table_line d)
table_line_is d h = record { name = h.name; text = tt; ord = omega arith; a = h.number; b = let f = h.file in omega arith; c = h.page }

-- COLUMNS

pub few_columns : (cols : List Column) → can_grow cols ≡ true → length cols ≤ 64
few_columns cols h =
    let g = grows cols h in
    let t = size_within cols g in
    let r = g.room in
    let k : key_size cols ≤ span cols = omega (arith, total_within cols (span cols) g.once) in
    omega arith

-- the columns read so far
pub record Reads (name : List ℕ) (rows : Rows) (i : ℕ) (cols : List Column) : Type 0 where
  pub long : length cols ≡ i
  pub stand : rows ≡ column_rows name 1 cols ++ drop i rows
  pub named : AreNamed cols
  pub grow : can_grow cols ≡ true

pub reads_none : (name : List ℕ) (rows : Rows) (cols : List Column) → cols ≡ [] → Reads name rows 0 cols
reads_none name rows cols e = subst (Reads name rows 0) (sym e) (record { long = refl; stand = refl; named = tt; grow = refl })

pub reads_more : (name : List ℕ) (rows : Rows) (i : ℕ) (cols more : List Column) (c : Column) (row : List Value) → Reads name rows i cols → i < length rows → row ≡ get_or rows i row → IsLowName c.name → row ≡ column_row name (length cols + 1) c
    → more ≡ cols ++ c ∷ [] → can_grow more ≡ true → Reads name rows (i + 1) more
reads_more name rows i cols more c row r lt at low is e g =
    let z : 1 + length cols ≡ length cols + 1 = omega arith in
    subst (Reads name rows (i + 1)) (sym e) (record {
      long = length-append cols (c ∷ []) ∙ (let l = r.long in omega arith);
      stand = r.stand ∙ ap (λ rs. column_rows name 1 cols ++ rs) (drop_more rows i row lt ∙ ap (λ x. x ∷ drop (i + 1) rows) (sym at ∙ is))
          ∙ sym (append_assoc (column_rows name 1 cols) (column_row name (length cols + 1) c ∷ []) (drop (i + 1) rows))
          ∙ ap (λ rs. rs ++ drop (i + 1) rows) (sym (column_rows-append name 1 cols (c ∷ []) ∙ ap (λ n. column_rows name 1 cols ++ column_row name n c ∷ []) z));
      named = named_append cols (c ∷ []) r.named (low, tt);
      grow = ap can_grow (sym e) ∙ g;
    })

small_key : (cols : List Column) (c : Column) → can_grow (cols ++ c ∷ []) ≡ true → c.key < 256
small_key cols c h = let g = grows (cols ++ c ∷ []) h in let t = top-append cols (c ∷ []) in let m = g.most in omega arith

longest : (name : List ℕ) (rows : Rows) (i : ℕ) (cols : List Column) (row : List Value) → Reads name rows i cols → i < length rows → row ≡ get_or rows i row
    → ((c : Column) → IsLowName c.name → is_type c.kind ≡ true → row ≡ column_row name (length cols + 1) c → can_grow (cols ++ c ∷ []) ≡ false) → AreLongest name rows cols
longest name rows i cols row r lt at stops = record {
  rest = row ∷ drop (i + 1) rows;
  stand = r.stand ∙ ap (λ rs. column_rows name 1 cols ++ rs) (drop_more rows i row lt ∙ ap (λ x. x ∷ drop (i + 1) rows) (sym at));
  named = r.named;
  grow = r.grow;
  stops = stops;
}

-- the next row is none of a column
pub longest_none : (name : List ℕ) (rows : Rows) (i : ℕ) (cols : List Column) (row : List Value) (ord : ℕ) → Reads name rows i cols → i < length rows → row ≡ get_or rows i row → ord ≡ length cols + 1
    → ((c : Column) → IsLowName c.name → is_type c.kind ≡ true → c.key < 256 → ord < 2147483648 → row ≢ column_row name ord c) → AreLongest name rows cols
longest_none name rows i cols row ord r lt at o none = longest name rows i cols row r lt at (λ c low kind is. by c low kind is (can_grow (cols ++ c ∷ [])) refl)
  where
    by : (c : Column) → IsLowName c.name → is_type c.kind ≡ true → row ≡ column_row name (length cols + 1) c → (b : Bool) → can_grow (cols ++ c ∷ []) ≡ b → b ≡ false
    by c low kind is true e = let few = few_columns cols r.grow in absurd (none c low kind (small_key cols c e) (omega arith) (is ∙ ap (λ n. column_row name n c) (sym o)))
    by c low kind is false e = refl

-- the next row is one of a column that is too many
pub longest_bad : (name : List ℕ) (rows : Rows) (i : ℕ) (cols : List Column) (row : List Value) (c : Column) → Reads name rows i cols → i < length rows → row ≡ get_or rows i row → row ≡ column_row name (length cols + 1) c → can_grow (cols ++ c ∷ []) ≡ false → AreLongest name rows cols
longest_bad name rows i cols row c r lt at is bad =
    longest name rows i cols row r lt at (λ d low kind e. ap (λ x. can_grow (cols ++ x ∷ [])) (column_same name (length cols + 1) d c (sym e ∙ is)) ∙ bad)

pub longest_all : (name : List ℕ) (rows : Rows) (i : ℕ) (cols : List Column) → Reads name rows i cols → length rows ≤ i → AreLongest name rows cols
longest_all name rows i cols r past = record {
  rest = [];
  stand = r.stand ∙ ap (λ rs. column_rows name 1 cols ++ rs) (nothing i rows past);
  named = r.named;
  grow = r.grow;
  stops = tt;
}
  where
    nothing : (i : ℕ) (xs : Rows) → length xs ≤ i → drop i xs ≡ []
    nothing zero [] h = refl
    nothing (suc i) [] h = refl
    nothing zero (x ∷ xs) h = absurd (omega arith)
    nothing (suc i) (x ∷ xs) h = nothing i xs (omega arith)

-- LISTS OF TABLES

-- the last of the tables doesn't go on with the first of these rows
abbrev pub StopsAt : List TableDesc → Rows → Type 0
StopsAt [] rows = Unit {0}
StopsAt (d ∷ []) rows = Stops d.name d.cols rows
StopsAt (d ∷ e ∷ ds) rows = StopsAt (e ∷ ds) rows

stops_on_first : (ds : List TableDesc) (row : List Value) (a b : Rows) → StopsAt ds (row ∷ a) → StopsAt ds (row ∷ b)
stops_on_first [] row a b s = s
stops_on_first (d ∷ []) row a b s = s
stops_on_first (d ∷ e ∷ ds) row a b s = stops_on_first (e ∷ ds) row a b s

pub stops_snoc : (ds : List TableDesc) (d : TableDesc) (rows : Rows) → Stops d.name d.cols rows → StopsAt (ds ++ d ∷ []) rows
stops_snoc [] d rows s = s
stops_snoc (x ∷ []) d rows s = s
stops_snoc (x ∷ y ∷ ds) d rows s = stops_snoc (y ∷ ds) d rows s

all_at : {X : Type 0} (P : X → Type 0) (xs : List X) (k : ℕ) (d : X) → AllByRecursion P xs → k < length xs → P (get_or xs k d)
all_at P [] k d a h = absurd (omega arith)
all_at P (x ∷ xs) zero d a h = a.0
all_at P (x ∷ xs) (suc k) d a h = all_at P xs k d a.1 (omega arith)

map_at : {X Y : Type 0} (f : X → Y) (xs : List X) (k : ℕ) (d : X) → k < length xs → get_or (map f xs) k (f d) ≡ f (get_or xs k d)
map_at f [] k d h = absurd (omega arith)
map_at f (x ∷ xs) zero d h = refl
map_at f (x ∷ xs) (suc k) d h = map_at f xs k d (omega arith)

abbrev name_cmp : List ℕ → List ℕ → Ordering
name_cmp = slice_cmp nat_cmp

abbrev name_of : TableDesc → List ℕ
name_of d = d.name

abbrev number_of : TableDesc → ℕ
number_of d = d.number.0

-- the parts of a list of tables
pub tail_descs : (d : TableDesc) (ds : List TableDesc) → AreDescs (d ∷ ds) → AreDescs ds
unfolding IsStrictlySortedBy IsDistinct
tail_descs d ds a = record { each = a.each.1; names = a.names.1; numbers = a.numbers.1 }

-- the first table against a later one
first_against : (d : TableDesc) (ds : List TableDesc) (k : ℕ) (e : TableDesc) → AreDescs (d ∷ ds) → k < length ds → get_or ds k e ≡ e → (is_lt (name_cmp d.name e.name) && not (d.number.0 == e.number.0)) ≡ true
unfolding IsStrictlySortedBy IsDistinct
first_against d ds k e a h at =
    let long : k < length (map name_of ds) = omega (arith, length-map ds name_of) in
    let long2 : k < length (map number_of ds) = omega (arith, length-map ds number_of) in
    let n : name_cmp d.name e.name ≡ Less = ap (λ x. name_cmp d.name x) (sym (map_at name_of ds k e h ∙ ap name_of at)) ∙ all_at (λ y. name_cmp d.name y ≡ Less) (map name_of ds) k e.name a.names.0 long in
    let m : nat_eq d.number.0 e.number.0 ≡ false = ap (λ x. nat_eq d.number.0 x) (sym (map_at number_of ds k e h ∙ ap number_of at)) ∙ all_at (λ y. nat_eq d.number.0 y ≡ false) (map number_of ds) k e.number.0 a.numbers.0 long2 in
    λ i. is_lt (n i) && not (m i)

-- the table whose row comes next
record Next (ds es : List TableDesc) (row : List Value) : Type 0 where
  desc : TableDesc
  place : ℕ
  within : place < length es
  at : get_or es place desc ≡ desc
  head : IsHead desc
  is : row ≡ table_row desc
  follows : may_follow ds desc ≡ true

named_part : (xs ys : List Column) → AreNamed (xs ++ ys) → AreNamed ys
named_part [] ys a = a
named_part (x ∷ xs) ys a = named_part xs ys a.1

-- columns go on with no row that stops them
no_more : {P : Type 0} (d e : TableDesc) (c : Column) (more : List Column) (row : List Value) (rest : Rows) (es : List TableDesc) → IsDesc e → e.cols ≡ d.cols ++ c ∷ more → row ∷ rest ≡ column_rows d.name (1 + length d.cols) (c ∷ more) ++ flat_map rows_of es
    → Stops d.name d.cols (row ∷ rest) → P
no_more d e c more row rest es desc cols r stops =
    let sound : is_definition (d.cols ++ c ∷ more) ≡ true = ap is_definition (sym cols) ∙ desc.sound in
    let named : AreNamed (d.cols ++ c ∷ more) = subst AreNamed cols desc.named in
    let low = (named_part d.cols (c ∷ more) named).0 in
    let columns = (defined (d.cols ++ c ∷ more) sound).columns in
    let part = and_parts (list_all is_column d.cols) (list_all is_column (c ∷ more)) (sym (list_all-append is_column d.cols (c ∷ more)) ∙ columns) in
    let this = and_parts (is_column c) (list_all is_column more) part.1 in
    let kind = and_parts (is_type c.kind) _ this.0 in
    let grow : can_grow (d.cols ++ c ∷ []) ≡ true = front_grows (d.cols ++ c ∷ []) more (ap is_definition (append_assoc d.cols (c ∷ []) more) ∙ sound) in
    let z : 1 + length d.cols ≡ length d.cols + 1 = omega arith in
    let f : false ≡ true = sym (stops c low kind.0 (head_is r ∙ ap (λ n. column_row d.name n c) z)) ∙ grow in
    absurd (let wrong : false ≡ true = f in cc)

next_of : (ds : List TableDesc) (row : List Value) (rest : Rows) (es : List TableDesc) → Extends ds (row ∷ rest) es → StopsAt ds (row ∷ rest) → AreDescs es → Next ds es row
next_of [] row rest es x stops a =
    let f = front row rest es x in
    let b : AreDescs (f.desc ∷ f.later) = subst AreDescs f.is a in
    record { desc = f.desc; place = 0; within = subst (λ (l : List TableDesc). 0 < length l) (sym f.is) (omega arith); at = ap (λ l. get_or l 0 f.desc) f.is; head = b.each.0.head; is = f.row_is; follows = refl }
next_of (d ∷ []) row rest [] x stops a = absurd x
next_of (d ∷ []) row rest (e ∷ es) x stops a = by x.more x.cols x.rest
  where
    by : (more : List Column) → e.cols ≡ d.cols ++ more → row ∷ rest ≡ column_rows d.name (1 + length d.cols) more ++ flat_map rows_of es → Next (d ∷ []) (e ∷ es) row
    by (c ∷ more) cols r = no_more d e c more row rest es a.each.0 cols r stops
    by [] cols r =
        let f = front row rest es r in
        let b : AreDescs (f.desc ∷ f.later) = subst AreDescs f.is (tail_descs e es a) in
        let long : 0 < length es = subst (λ (l : List TableDesc). 0 < length l) (sym f.is) (omega arith) in
        let here : get_or es 0 f.desc ≡ f.desc = ap (λ l. get_or l 0 f.desc) f.is in
        let t = first_against e es 0 f.desc a long here in
        record {
          desc = f.desc;
          place = 1;
          within = omega arith;
          at = here;
          head = b.each.0.head;
          is = f.row_is;
          follows = (λ i. (is_lt (name_cmp (x.head.name i) f.desc.name) && not (x.head.number i == f.desc.number.0)) && true) ∙ ap (λ b. b && true) t;
        }
next_of (d ∷ f ∷ ds) row rest [] x stops a = absurd x
next_of (d ∷ f ∷ ds) row rest (e ∷ es) x stops a =
    let n = next_of (f ∷ ds) row rest es x.1 stops (tail_descs e es a) in
    let t = first_against e es n.place n.desc a n.within n.at in
    let w = n.within in
    record {
      desc = n.desc;
      place = suc n.place;
      within = omega arith;
      at = n.at;
      head = n.head;
      is = n.is;
      follows = both (is_lt (name_cmp d.name n.desc.name) && not (d.number.0 == n.desc.number.0)) (may_follow (f ∷ ds) n.desc) ((λ i. is_lt (name_cmp (x.0 i).name n.desc.name) && not ((x.0 i).number.0 == n.desc.number.0)) ∙ t) n.follows;
    }

-- WHERE A READING STANDS

pub record State (rows : Rows) (ds : List TableDesc) (i : ℕ) : Type 0 where
  pub within : i ≤ length rows
  pub so_far : take i rows ≡ flat_map rows_of ds
  pub are : AreDescs ds
  pub stops : StopsAt ds (drop i rows)

pub state_begin : (rows : Rows) (ds : List TableDesc) → ds ≡ [] → State rows ds 0
unfolding IsStrictlySortedBy IsDistinct
state_begin rows ds e = subst (λ l. State rows l 0) (sym e) (record { within = omega arith; so_far = refl; are = record { each = tt; names = tt; numbers = tt }; stops = tt })

no_head : (rows : Rows) (ds : List TableDesc) (i : ℕ) (row : List Value) → State rows ds i → i < length rows → row ≡ get_or rows i row → ((d : TableDesc) → IsHead d → may_follow ds d ≡ true → row ≢ table_row d) → ¬ Begin (take (i + 1) rows)
no_head rows ds i row s lt at none b =
    let more : Rows = b.0 in
    let es : List TableDesc = b.1 in
    let eq : flat_map rows_of ds ++ row ∷ more ≡ flat_map rows_of es =
    ap (λ rs. rs ++ row ∷ more) (sym s.so_far) ∙ sym (append_assoc (take i rows) (row ∷ []) more)
    ∙ ap (λ rs. rs ++ more) (ap (λ x. take i rows ++ x ∷ []) at ∙ sym (take_more rows i row lt)) ∙ b.2.spelled in
    let stops : StopsAt ds (row ∷ drop (i + 1) rows) = subst (StopsAt ds) (drop_more rows i row lt ∙ ap (λ x. x ∷ drop (i + 1) rows) (sym at)) s.stops in
    let n = next_of ds row more es (parse ds (row ∷ more) es eq) (stops_on_first ds row (drop (i + 1) rows) more stops) b.2.descs in
    none n.desc n.head n.follows n.is

-- a whole list begins at each of its rows
begins_whole : (rows : Rows) (es : List TableDesc) (n : ℕ) → AreTables rows es → Begin (take n rows)
begins_whole rows es n t = (drop n rows, es, record { spelled = take-append-drop n rows ∙ t.spelled; descs = t.descs })

pub wrong_head : (rows : Rows) (ds : List TableDesc) (i : ℕ) (row : List Value) → State rows ds i → i < length rows → row ≡ get_or rows i row → ((d : TableDesc) → IsHead d → may_follow ds d ≡ true → row ≢ table_row d) → IsFirstWrong rows i
wrong_head rows ds i row s lt at none = record {
  within = s.within;
  begins = ([], ds, record { spelled = append-nil (take i rows) ∙ s.so_far; descs = s.are });
  ends = λ l. no_head rows ds i row s lt at none;
  none = λ es t. no_head rows ds i row s lt at none (begins_whole rows es (i + 1) t);
}

-- ONE TABLE MORE

abbrev pub with_cols : TableDesc → List Column → TableDesc
with_cols d cols = record d { cols = cols }

all_snoc : {X : Type 0} (P : X → Type 0) (xs : List X) (y : X) → AllByRecursion P xs → P y → AllByRecursion P (xs ++ y ∷ [])
all_snoc P [] y a p = (p, tt)
all_snoc P (x ∷ xs) y a p = (a.0, all_snoc P xs y a.1 p)

less : (r : Ordering) → is_lt r ≡ true → r ≡ Less
less Less e = refl
less Equal e = cc
less Greater e = cc

not_false : (b : Bool) → not b ≡ true → b ≡ false
not_false true e = sym e
not_false false e = refl

names_snoc : (ds : List TableDesc) (d : TableDesc) → may_follow ds d ≡ true → IsStrictlySortedBy name_cmp (map name_of ds) → IsStrictlySortedBy name_cmp (map name_of (ds ++ d ∷ []))
unfolding IsStrictlySortedBy
names_snoc [] d m s = (tt, tt)
names_snoc (e ∷ ds) d m s =
    let p = and_parts (is_lt (name_cmp e.name d.name) && not (e.number.0 == d.number.0)) (may_follow ds d) m in
    let q = and_parts (is_lt (name_cmp e.name d.name)) (not (e.number.0 == d.number.0)) p.0 in
    (above ds s.0 (less (name_cmp e.name d.name) q.0), names_snoc ds d p.1 s.1)
  where
    above : (ds : List TableDesc) → AllByRecursion (λ y. name_cmp e.name y ≡ Less) (map name_of ds) → name_cmp e.name d.name ≡ Less → AllByRecursion (λ y. name_cmp e.name y ≡ Less) (map name_of (ds ++ d ∷ []))
    above [] a l = (l, tt)
    above (x ∷ xs) a l = (a.0, above xs a.1 l)

numbers_snoc : (ds : List TableDesc) (d : TableDesc) → may_follow ds d ≡ true → IsDistinct nat_eq (map number_of ds) → IsDistinct nat_eq (map number_of (ds ++ d ∷ []))
unfolding IsDistinct
numbers_snoc [] d m s = (tt, tt)
numbers_snoc (e ∷ ds) d m s =
    let p = and_parts (is_lt (name_cmp e.name d.name) && not (e.number.0 == d.number.0)) (may_follow ds d) m in
    let q = and_parts (is_lt (name_cmp e.name d.name)) (not (e.number.0 == d.number.0)) p.0 in
    (apart ds s.0 (not_false (e.number.0 == d.number.0) q.1), numbers_snoc ds d p.1 s.1)
  where
    apart : (ds : List TableDesc) → AllByRecursion (λ y. nat_eq e.number.0 y ≡ false) (map number_of ds) → nat_eq e.number.0 d.number.0 ≡ false → AllByRecursion (λ y. nat_eq e.number.0 y ≡ false) (map number_of (ds ++ d ∷ []))
    apart [] a l = (l, tt)
    apart (x ∷ xs) a l = (a.0, apart xs a.1 l)

descs_snoc : (ds : List TableDesc) (d : TableDesc) → AreDescs ds → may_follow ds d ≡ true → IsDesc d → AreDescs (ds ++ d ∷ [])
descs_snoc ds d a m desc = record { each = all_snoc IsDesc ds d a.each desc; names = names_snoc ds d m a.names; numbers = numbers_snoc ds d m a.numbers }

-- a table's row, and then its columns, the longest ones
pub record Took (rows : Rows) (ds : List TableDesc) (i : ℕ) (d : TableDesc) (cols : List Column) : Type 0 where
  pub head : IsHead d
  pub follows : may_follow ds d ≡ true
  pub columns : AreLongest d.name (drop (i + 1) rows) cols
  pub within : i + 1 + length cols ≤ length rows
  pub so_far : take (i + 1 + length cols) rows ≡ flat_map rows_of (ds ++ with_cols d cols ∷ [])
  pub rest : drop (i + 1 + length cols) rows ≡ columns.rest

length-column_rows : (name : List ℕ) (ord : ℕ) (cols : List Column) → length (column_rows name ord cols) ≡ length cols
length-column_rows name ord [] = refl
length-column_rows name ord (c ∷ cs) = ap suc (length-column_rows name (ord + 1) cs)

take_front : (xs ys : Rows) → take (length xs) (xs ++ ys) ≡ xs
take_front [] ys = refl
take_front (x ∷ xs) ys = ap (λ zs. x ∷ zs) (take_front xs ys)

drop_front : (xs ys : Rows) → drop (length xs) (xs ++ ys) ≡ ys
drop_front [] ys = refl
drop_front (x ∷ xs) ys = drop_front xs ys

pub took : (rows : Rows) (ds : List TableDesc) (i : ℕ) (row : List Value) (d : TableDesc) (cols : List Column) → State rows ds i → i < length rows → row ≡ get_or rows i row → IsHead d → may_follow ds d ≡ true → row ≡ table_row d
    → AreLongest d.name (drop (i + 1) rows) cols → Took rows ds i d cols
took rows ds i row d cols s lt at head follows is long =
    let cs : Rows = column_rows d.name 1 cols in
    let before : Rows = flat_map rows_of ds ++ table_row d ∷ cs in
    let whole : rows ≡ before ++ long.rest =
    sym (take-append-drop i rows) ∙ (λ j. s.so_far j ++ drop_more rows i row lt j) ∙ ap (λ x. flat_map rows_of ds ++ x ∷ drop (i + 1) rows) (sym at ∙ is)
    ∙ ap (λ rs. flat_map rows_of ds ++ table_row d ∷ rs) long.stand ∙ sym (append_assoc (flat_map rows_of ds) (table_row d ∷ cs) long.rest) in
    let size : length before ≡ i + 1 + length cols =
    (let a = length-append (flat_map rows_of ds) (table_row d ∷ cs) in let b = length-column_rows d.name 1 cols in let c = ap length (sym s.so_far) in let e = length-take-le i rows s.within in omega arith) in
    record {
      head = head;
      follows = follows;
      columns = long;
      within = let a = ap length whole in let b = length-append before long.rest in omega arith;
      so_far = ap (λ n. take n rows) (sym size) ∙ ap (take (length before)) whole ∙ take_front before long.rest ∙ sym (flat_map-append rows_of ds (with_cols d cols ∷ []) ∙ ap (λ rs. flat_map rows_of ds ++ table_row d ∷ rs) (append-nil cs));
      rest = ap (λ n. drop n rows) (sym size) ∙ ap (drop (length before)) whole ∙ drop_front before long.rest;
    }

pub state_more : (rows : Rows) (ds all : List TableDesc) (i : ℕ) (d e : TableDesc) (cols : List Column) → State rows ds i → Took rows ds i d cols → is_whole cols ≡ true → e ≡ with_cols d cols → all ≡ ds ++ e ∷ [] → State rows all (i + (1 + length cols))
state_more rows ds all i d e cols s t whole is more =
    let n : i + (1 + length cols) ≡ i + 1 + length cols = omega arith in
    let desc : IsDesc (with_cols d cols) = record { head = record { name = t.head.name; some = t.head.some; number = t.head.number; file = t.head.file; page = t.head.page }; named = t.columns.named; sound = whole_is cols t.columns.grow whole } in
    let made : State rows (ds ++ with_cols d cols ∷ []) (i + 1 + length cols) = record {
      within = t.within;
      so_far = t.so_far;
      are = descs_snoc ds (with_cols d cols) s.are t.follows desc;
      stops = stops_snoc ds (with_cols d cols) (drop (i + 1 + length cols) rows) (subst (Stops d.name cols) (sym t.rest) t.columns.stops);
    } in
    subst (λ m. State rows all m) (sym n) (subst (λ l. State rows l (i + 1 + length cols)) (sym (more ∙ ap (λ x. ds ++ x ∷ []) is)) made)

-- the last of some tables in a list that goes on from them
record Last (d : TableDesc) (tail : Rows) : Type 0 where
  desc : TableDesc
  later : List TableDesc
  sound : IsDesc desc
  goes : LastGoesOn d tail desc later

last_of : (ds : List TableDesc) (d : TableDesc) (tail : Rows) (es : List TableDesc) → Extends (ds ++ d ∷ []) tail es → AllByRecursion IsDesc es → Last d tail
last_of [] d tail [] x a = absurd x
last_of [] d tail (e ∷ es) x a = record { desc = e; later = es; sound = a.0; goes = x }
last_of (y ∷ []) d tail [] x a = absurd x
last_of (y ∷ []) d tail (e ∷ es) x a = last_of [] d tail es x.1 a.1
last_of (y ∷ z ∷ ds) d tail [] x a = absurd x
last_of (y ∷ z ∷ ds) d tail (e ∷ es) x a = last_of (z ∷ ds) d tail es x.1 a.1

-- tables whose last one isn't whole are no list, and no row goes on with them
not_whole : (ds : List TableDesc) (d : TableDesc) (tail : Rows) (es : List TableDesc) → flat_map rows_of (ds ++ d ∷ []) ++ tail ≡ flat_map rows_of es → AreDescs es → is_whole d.cols ≡ false → Stops d.name d.cols tail → ⊥
not_whole ds d tail es eq a part stops =
    let l = last_of ds d tail es (parse (ds ++ d ∷ []) tail es eq) a.each in
    by l.desc l.later l.sound l.goes.more l.goes.cols tail l.goes.rest stops
  where
    by : (e : TableDesc) (later : List TableDesc) → IsDesc e → (more : List Column) → e.cols ≡ d.cols ++ more → (tail : Rows) → tail ≡ column_rows d.name (1 + length d.cols) more ++ flat_map rows_of later → Stops d.name d.cols tail → ⊥
    by e later sound [] cols tail r stops =
        let f : true ≡ false = sym (is_whole_definition d.cols (ap is_definition (sym (cols ∙ append-nil d.cols)) ∙ sound.sound)) ∙ part in
        absurd (let wrong : true ≡ false = f in cc)
    by e later sound (c ∷ more) cols [] r stops = no_cons (sym r)
    by e later sound (c ∷ more) cols (row ∷ rest) r stops = no_more d e c more row rest later sound cols r stops

pub wrong_end : (rows : Rows) (ds : List TableDesc) (i : ℕ) (d : TableDesc) (cols : List Column) (at : ℕ) → State rows ds i → Took rows ds i d cols → is_whole cols ≡ false → at ≡ i + (1 + length cols) → IsFirstWrong rows at
wrong_end rows ds i d cols at s t part is =
    let j : ℕ = i + 1 + length cols in
    let n : at ≡ j = omega (arith, is) in
    let e : TableDesc = with_cols d cols in
    let r : Rest cols = rest_of cols t.columns.grow in
    let full : TableDesc = with_cols d (cols ++ r.more) in
    let stops : Stops d.name cols (drop j rows) = subst (Stops d.name cols) (sym t.rest) t.columns.stops in
    subst (IsFirstWrong rows) (sym n) (record {
      within = t.within;
      begins = (
        column_rows d.name (1 + length cols) r.more,
        ds ++ full ∷ [],
        record {
          spelled = ap (λ rs. rs ++ column_rows d.name (1 + length cols) r.more) (t.so_far ∙ flat_map-append rows_of ds (e ∷ [])) ∙ append_assoc (flat_map rows_of ds) (flat_map rows_of (e ∷ [])) (column_rows d.name (1 + length cols) r.more)
              ∙ ap (λ rs. flat_map rows_of ds ++ table_row d ∷ rs) (ap (λ rs. rs ++ column_rows d.name (1 + length cols) r.more) (append-nil (column_rows d.name 1 cols)) ∙ sym (column_rows-append d.name 1 cols r.more) ∙ sym (append-nil (column_rows d.name 1 (cols ++ r.more))))
              ∙ sym (flat_map-append rows_of ds (full ∷ []));
          descs = descs_snoc ds full s.are t.follows (record { head = record { name = t.head.name; some = t.head.some; number = t.head.number; file = t.head.file; page = t.head.page }; named = named_append cols r.more t.columns.named r.named; sound = r.sound });
        },
      );
      ends = λ lt b.
          let row : List Value = get_or rows j [] in
          let split : take (j + 1) rows ≡ take j rows ++ row ∷ [] = take_more rows j [] lt in
          let eq : flat_map rows_of (ds ++ e ∷ []) ++ row ∷ b.0 ≡ flat_map rows_of b.1 =
          ap (λ rs. rs ++ row ∷ b.0) (sym t.so_far) ∙ sym (append_assoc (take j rows) (row ∷ []) b.0) ∙ ap (λ rs. rs ++ b.0) (sym split) ∙ b.2.spelled in
          not_whole ds e (row ∷ b.0) b.1 eq b.2.descs part (first_only row (drop (j + 1) rows) b.0 (subst (Stops d.name cols) (drop_more rows j [] lt) stops));
      none = λ es a. not_whole ds e (drop j rows) es (ap (λ rs. rs ++ drop j rows) (sym t.so_far) ∙ take-append-drop j rows ∙ a.spelled) a.descs part stops;
    })
  where
    first_only : (row : List Value) (a b : Rows) → Stops d.name cols (row ∷ a) → Stops d.name cols (row ∷ b)
    first_only row a b s = s

pub state_end : (rows : Rows) (ds : List TableDesc) (i : ℕ) → State rows ds i → length rows ≤ i → AreTables rows ds
state_end rows ds i s past = record { spelled = sym (take_all i rows past) ∙ s.so_far; descs = s.are }

-- EXITS

pub at_none : {T : Type 0} (o : Option T) (P : Type 0) (Q : T → Type 0) → o ≡ None → P → MatchOption o P Q
at_none o P Q e p = subst (λ x. MatchOption x P Q) (sym e) p

-- what was pushed last comes out
pub popped : (cols more left : List Column) (c : Column) (n : ℕ) → more ≡ cols ++ c ∷ [] → left ≡ take (n - 1) more → n ≡ length more → left ≡ cols
popped cols more left c n e f long =
    let size : n - 1 ≡ length cols = omega (arith, ap length e, length-append cols (c ∷ [])) in
    f ∙ (λ i. take (size i) (e i)) ∙ front_of cols (c ∷ [])
  where
    front_of : (xs ys : List Column) → take (length xs) (xs ++ ys) ≡ xs
    front_of [] ys = refl
    front_of (x ∷ xs) ys = ap (λ zs. x ∷ zs) (front_of xs ys)

all_from : (rows : Rows) (n : ℕ) → take (length rows - n) (drop n rows) ≡ drop n rows
all_from rows n = take_all (length rows - n) (drop n rows) (omega (arith, length-drop n rows))

-- a table's row and its columns, as they were found
pub took_from : (rows rs : Rows) (ds found : List TableDesc) (i : ℕ) (row : List Value) (d : TableDesc) (cols : List Column) → State rows ds i → i < length rows → row ≡ get_or rows i row → found ≡ ds
    → IsHead d × (may_follow found d ≡ true) × (row ≡ table_row d) → rs ≡ rows → AreLongest d.name (take (length rs - (i + 1)) (drop (i + 1) rs)) cols → Took rows ds i d cols
took_from rows rs ds found i row d cols s lt at f t r long =
    took rows ds i row d cols s lt at t.0 (ap (λ (l : List TableDesc). may_follow l d) (sym f) ∙ t.1) t.2
    (subst (λ x. AreLongest d.name x cols) (all_from rows (i + 1)) (subst (λ (x : Rows). AreLongest d.name (take (length x - (i + 1)) (drop (i + 1) x)) cols) r long))

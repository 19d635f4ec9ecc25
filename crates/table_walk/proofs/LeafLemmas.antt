-- One row of some, wherever it stands, and the rows of a leaf in which one was changed, cut or added.
use Rattle.std.proofs.Common.{◌≡◌, Bool, true, false, cond, ◌||◌, List, [], ◌∷◌, ◌++◌, refl, ap, sym, ◌∙◌}
use Rattle.std.specs.Prelude.{Option, Some, None}
use Rattle.std.specs.FinMap as finite
use Rattle.page_base.specs.declared.column.Column.{Column}
use Rattle.plain_model.specs.Tables.{Rows, key_of}
use Rattle.table_walk.specs.Leaves.{ByKeys, Leaf, rows_in, holds, before, trimmed, changed, added}
use Rattle.table_walk.proofs.RowsLemmas.{Key, same_key, rows_same, get_put, get_cut, get_none, turned, ties, insert_swap, none_apart, none_other}

-- whether one of some rows has a key
abbrev pub is_there : List Column → Key → List Key → Bool
is_there cols k [] = false
is_there cols k (r ∷ rs) = same_key (key_of cols r) k || is_there cols k rs

pub is_there-append : (cols : List Column) (k : Key) (xs ys : List Key) → is_there cols k (xs ++ ys) ≡ (is_there cols k xs || is_there cols k ys)
is_there-append cols k [] ys = refl
is_there-append cols k (x ∷ xs) ys = ap (λ b. same_key (key_of cols x) k || b) (is_there-append cols k xs ys) ∙ assoc (same_key (key_of cols x) k) (is_there cols k xs) (is_there cols k ys)
  where
    assoc : (a b c : Bool) → (a || (b || c)) ≡ ((a || b) || c)
    assoc true b c = refl
    assoc false b c = refl

-- ONE ROW ANYWHERE

pub record OneOf (cols : List Column) (xs : List Key) (r : Key) (ys : List Key) (m : Rows) : Type 0 where
  pub rest : Rows
  pub others : ByKeys cols (xs ++ ys) rest
  pub new : finite.get rest (key_of cols r) ≡ None
  pub all : m ≡ finite.insert rest (key_of cols r) r

pub out : (cols : List Column) (xs : List Key) (r : Key) (ys : List Key) (m : Rows) → ByKeys cols (xs ++ r ∷ ys) m → OneOf cols xs r ys m
out cols [] r ys m a = record { rest = a.0; others = a.1; new = a.2; all = a.3 }
out cols (x ∷ xs) r ys m a =
    let o : OneOf cols xs r ys a.0 = out cols xs r ys a.0 a.1 in
    let kx : Key = key_of cols x in
    let kr : Key = key_of cols r in
    let apart = none_apart o.rest kr kx r (ap (λ (t : Rows). finite.get t kx) (sym o.all) ∙ a.2) in
    record {
      rest = finite.insert o.rest kx x;
      others = (o.rest, o.others, apart.1, refl);
      new = none_other o.rest kx kr x (turned kr kx ∙ apart.0) o.new;
      all = a.3 ∙ ap (λ (t : Rows). finite.insert t kx x) o.all ∙ insert_swap o.rest kr kx r x (turned kr kx ∙ apart.0);
    }

pub inn : (cols : List Column) (xs : List Key) (r : Key) (ys : List Key) (rest : Rows) → ByKeys cols (xs ++ ys) rest → finite.get rest (key_of cols r) ≡ None → ByKeys cols (xs ++ r ∷ ys) (finite.insert rest (key_of cols r) r)
inn cols [] r ys rest a new = (rest, a, new, refl)
inn cols (x ∷ xs) r ys rest a new =
    let kx : Key = key_of cols x in
    let kr : Key = key_of cols r in
    let apart = none_apart a.0 kx kr x (ap (λ (t : Rows). finite.get t kr) (sym a.3) ∙ new) in
    (finite.insert a.0 kr r, inn cols xs r ys a.0 a.1 apart.1, none_other a.0 kr kx r (turned kx kr ∙ apart.0) a.2, ap (λ (t : Rows). finite.insert t kr r) a.3 ∙ insert_swap a.0 kx kr x r (turned kx kr ∙ apart.0))

-- where no row has a key, it isn't among them
pub lacks : (cols : List Column) (rs : List Key) (m : Rows) (k : Key) → ByKeys cols rs m → is_there cols k rs ≡ false → finite.get m k ≡ None
lacks cols [] m k a h = ap (λ (t : Rows). finite.get t k) a ∙ get_none k
lacks cols (r ∷ rs) m k a h =
    let kr : Key = key_of cols r in
    let p = parts (same_key kr k) (is_there cols k rs) h in
    ap (λ (t : Rows). finite.get t k) a.3 ∙ none_other a.0 kr k r (turned k kr ∙ p.0) (lacks cols rs a.0 k a.1 p.1)
  where
    parts : (a b : Bool) → (a || b) ≡ false → (a ≡ false) × (b ≡ false)
    parts true b e = let wrong : true ≡ false = e in absurd (let w : true ≡ false = wrong in cc)
    parts false b e = (refl, e)

-- and the other way round
pub not_there : (cols : List Column) (rs : List Key) (m : Rows) (k : Key) → ByKeys cols rs m → finite.get m k ≡ None → is_there cols k rs ≡ false
not_there cols [] m k a h = refl
not_there cols (r ∷ rs) m k a h =
    let kr : Key = key_of cols r in
    let p = none_apart a.0 kr k r (ap (λ (t : Rows). finite.get t k) (sym a.3) ∙ h) in
    (λ i. (turned kr k ∙ p.0) i || not_there cols rs a.0 k a.1 p.1 i)

pub remove_none : (m : Rows) (k : Key) → finite.get m k ≡ None → finite.remove m k ≡ m
remove_none m k none = rows_same _ _ (λ q. get_cut m k q ∙ by q (same_key q k) refl)
  where
    by : (q : Key) (b : Bool) → same_key q k ≡ b → cond b None (finite.get m q) ≡ finite.get m q
    by q true e = sym (ap (finite.get m) (ties q k e) ∙ none)
    by q false e = refl

pub remove_put : (m : Rows) (k r : Key) → finite.get m k ≡ None → finite.remove (finite.insert m k r) k ≡ m
remove_put m k r none = rows_same _ _ (λ q. get_cut (finite.insert m k r) k q ∙ ap (cond (same_key q k) None) (get_put m k r q) ∙ by q (same_key q k) refl)
  where
    by : (q : Key) (b : Bool) → same_key q k ≡ b → cond b None (cond b (Some r) (finite.get m q)) ≡ finite.get m q
    by q true e = sym (ap (finite.get m) (ties q k e) ∙ none)
    by q false e = refl

pub put_put : (m : Rows) (k r s : Key) → finite.insert (finite.insert m k r) k s ≡ finite.insert m k s
put_put m k r s = rows_same _ _ (λ q. get_put (finite.insert m k r) k s q ∙ ap (cond (same_key q k) (Some s)) (get_put m k r q) ∙ by (same_key q k) (finite.get m q) ∙ sym (get_put m k s q))
  where
    by : (b : Bool) (o : Option Key) → cond b (Some s) (cond b (Some r) o) ≡ cond b (Some s) o
    by true o = refl
    by false o = refl

pub put_cut : (m : Rows) (k s : Key) → finite.insert (finite.remove m k) k s ≡ finite.insert m k s
put_cut m k s = rows_same _ _ (λ q. get_put (finite.remove m k) k s q ∙ ap (cond (same_key q k) (Some s)) (get_cut m k q) ∙ by (same_key q k) (finite.get m q) ∙ sym (get_put m k s q))
  where
    by : (b : Bool) (o : Option Key) → cond b (Some s) (cond b None o) ≡ cond b (Some s) o
    by true o = refl
    by false o = refl

-- LEAVES

pub rows_in-append : (xs ys : Leaf) → rows_in (xs ++ ys) ≡ rows_in xs ++ rows_in ys
rows_in-append [] ys = refl
rows_in-append (None ∷ xs) ys = rows_in-append xs ys
rows_in-append (Some r ∷ xs) ys = ap (λ rs. r ∷ rs) (rows_in-append xs ys)

pub rows_in-before : (c : Option Key) (cs : Leaf) → rows_in (before c cs) ≡ rows_in (c ∷ cs)
rows_in-before None [] = refl
rows_in-before None (c ∷ cs) = refl
rows_in-before (Some r) cs = refl

pub rows_in-cons : (c : Option Key) (xs ys : Leaf) → rows_in xs ≡ rows_in ys → rows_in (c ∷ xs) ≡ rows_in (c ∷ ys)
rows_in-cons None xs ys e = e
rows_in-cons (Some r) xs ys e = ap (λ rs. r ∷ rs) e

pub rows_in-trimmed : (xs : Leaf) → rows_in (trimmed xs) ≡ rows_in xs
rows_in-trimmed [] = refl
rows_in-trimmed (c ∷ cs) = rows_in-before c (trimmed cs) ∙ rows_in-cons c (trimmed cs) cs (rows_in-trimmed cs)

pub holds_is : (cols : List Column) (k : Key) (leaf : Leaf) → holds cols k leaf ≡ is_there cols k (rows_in leaf)
holds_is cols k [] = refl
holds_is cols k (None ∷ cs) = holds_is cols k cs
holds_is cols k (Some r ∷ cs) = ap (λ b. same_key (key_of cols r) k || b) (holds_is cols k cs)

pub changed_none : (cols : List Column) (k : Key) (to : Option Key) (leaf : Leaf) → is_there cols k (rows_in leaf) ≡ false → changed cols k to leaf ≡ leaf
changed_none cols k to [] h = refl
changed_none cols k to (None ∷ cs) h = ap (λ xs. None ∷ xs) (changed_none cols k to cs h)
changed_none cols k to (Some r ∷ cs) h = by (same_key (key_of cols r) k) h (λ g. changed_none cols k to cs g)
  where
    by : (b : Bool) → (b || is_there cols k (rows_in cs)) ≡ false → (is_there cols k (rows_in cs) ≡ false → changed cols k to cs ≡ cs) → cond b to (Some r) ∷ changed cols k to cs ≡ Some r ∷ cs
    by true e later = let wrong : true ≡ false = e in absurd (let w : true ≡ false = wrong in cc)
    by false e later = ap (λ xs. Some r ∷ xs) (later e)

-- the row of a key in a leaf, in front of other rows
pub record Found (cols : List Column) (k : Key) (leaf : Leaf) : Type 0 where
  pub front : List Key
  pub row : Key
  pub back : List Key
  pub is : rows_in leaf ≡ front ++ row ∷ back
  pub key : key_of cols row ≡ k
  pub cut : rows_in (changed cols k None leaf) ≡ front ++ back
  pub swap : (s : Key) → rows_in (changed cols k (Some s) leaf) ≡ front ++ s ∷ back

pub found : (cols : List Column) (k : Key) (leaf : Leaf) (more : List Key) (m : Rows) → ByKeys cols (rows_in leaf ++ more) m → is_there cols k (rows_in leaf) ≡ true → Found cols k leaf
found cols k [] more m a h = absurd (let wrong : false ≡ true = h in cc)
found cols k (None ∷ cs) more m a h =
    let f : Found cols k cs = found cols k cs more m a h in
    record { front = f.front; row = f.row; back = f.back; is = f.is; key = f.key; cut = f.cut; swap = f.swap }
found cols k (Some r ∷ cs) more m a h = by (same_key (key_of cols r) k) refl h (λ g. found cols k cs more a.0 a.1 g)
  where
    later_none : same_key (key_of cols r) k ≡ true → is_there cols k (rows_in cs) ≡ false
    later_none e =
        let same : key_of cols r ≡ k = ties (key_of cols r) k e in
        let none : is_there cols k (rows_in cs ++ more) ≡ false = not_there cols (rows_in cs ++ more) a.0 k a.1 (ap (finite.get a.0) (sym same) ∙ a.2) in
        first (is_there cols k (rows_in cs)) (is_there cols k more) (sym (is_there-append cols k (rows_in cs) more) ∙ none)
      where
        first : (x y : Bool) → (x || y) ≡ false → x ≡ false
        first true y e = e
        first false y e = refl

    by : (b : Bool) → same_key (key_of cols r) k ≡ b → (b || is_there cols k (rows_in cs)) ≡ true → (is_there cols k (rows_in cs) ≡ true → Found cols k cs) → Found cols k (Some r ∷ cs)
    by true e g later =
        let none = later_none e in
        record {
          front = [];
          row = r;
          back = rows_in cs;
          is = refl;
          key = ties (key_of cols r) k e;
          cut = ap (λ b. rows_in (cond b None (Some r) ∷ changed cols k None cs)) e ∙ ap rows_in (changed_none cols k None cs none);
          swap = λ s. ap (λ b. rows_in (cond b (Some s) (Some r) ∷ changed cols k (Some s) cs)) e ∙ ap (λ xs. s ∷ rows_in xs) (changed_none cols k (Some s) cs none);
        }
    by false e g later =
        let f : Found cols k cs = later g in
        record {
          front = r ∷ f.front;
          row = f.row;
          back = f.back;
          is = ap (λ rs. r ∷ rs) f.is;
          key = f.key;
          cut = ap (λ b. rows_in (cond b None (Some r) ∷ changed cols k None cs)) e ∙ ap (λ rs. r ∷ rs) f.cut;
          swap = λ s. ap (λ b. rows_in (cond b (Some s) (Some r) ∷ changed cols k (Some s) cs)) e ∙ ap (λ rs. r ∷ rs) (f.swap s);
        }

-- A row that was added to a leaf, in front of other rows
pub record Added (row : Key) (leaf : Leaf) : Type 0 where
  pub front : List Key
  pub back : List Key
  pub is : rows_in leaf ≡ front ++ back
  pub made : rows_in (added row leaf) ≡ front ++ row ∷ back

pub added_is : (row : Key) (leaf : Leaf) → Added row leaf
added_is row [] = record { front = []; back = []; is = refl; made = refl }
added_is row (None ∷ cs) = record { front = []; back = rows_in cs; is = refl; made = refl }
added_is row (Some r ∷ cs) = let a = added_is row cs in record { front = r ∷ a.front; back = a.back; is = ap (λ rs. r ∷ rs) a.is; made = ap (λ rs. r ∷ rs) a.made }

-- The value of an expression is one of its type.
use Rattle.std.proofs.Common.{◌≡◌, ℕ, suc, ◌+◌, ◌≤◌, ℤ, Bool, true, false, cond, not, List, [], ◌∷◌, length, neg_ℤ, refl, sym, ap, subst, arith, All}
use Rattle.std.specs.Prelude.{⊤, Option, Some, None, option_map, option_and_then, find, nat_lt, slice_index_or, is_some, FitsSigned, pos, negsuc}
use Rattle.std.specs.List.{position_or_len}
use Rattle.std.specs.Str.{bytes_eq}
use Rattle.std.specs.Int.{w32, w64}
use Rattle.std.proofs.lemmas.List.Sums.{AllPass-from_list_all}
use Rattle.std.proofs.Math.ListN.{get_or-eq_default}
use Rattle.std.proofs.lemmas.Bool.Decides.{nat_tests}
use Rattle.page_base.specs.declared.column.Column.{Column}
use Rattle.page_base.specs.declared.column.ColType.{ColType}
use Rattle.page_base.specs.declared.column.ColType.TheVariants as kinds
use Rattle.page_base.specs.declared.value.Value.{Value}
use Rattle.page_base.specs.declared.value.Value.TheVariants.{Null, Int, Big, Text}
use Rattle.plain_model.specs.declared.expr.MathOp.{MathOp}
use Rattle.plain_model.specs.declared.expr_type.ExprType.{ExprType}
use Rattle.plain_model.specs.declared.expr_type.ExprType.TheVariants as types
use Rattle.plain_model.specs.Cells.{cell, cell_at}
use Rattle.plain_model.specs.Numbers.{fits_int, fits_big, stored, literal, math, math_on, opposite, exact}
use Rattle.plain_model.specs.Shape.{each_leaf, has_printable_text}
use Rattle.plain_model.specs.Storing.{kept_as}
use Rattle.plain_model.specs.Tree.{Tree}
use Rattle.plain_model.specs.Tree as tree
use Rattle.plain_model.specs.Types.{from_column, literal_type, math_type, comparison_type, tree_type}
use Rattle.plain_model.specs.Values.{value_of, both}
use Rattle.row_fmt.specs.Rows.{is_text_byte, IsOfKind, MayStand, FitsColumns}

-- a text that a column may hold if it is long enough
abbrev pub IsPrintable : List ℕ → Type 0
IsPrintable bytes = All (λ b. is_text_byte b ≡ true) bytes

-- what may stand in a column of this type, whatever the length of a text; NULL is one
abbrev pub IsKept : ColType → Value → Type 0
IsKept kind Null = ⊤
IsKept kind (Int n) = IsOfKind kind (Int n)
IsKept kind (Big n) = IsOfKind kind (Big n)
IsKept kinds.Int (Text bytes) = ⊥
IsKept kinds.Big (Text bytes) = ⊥
IsKept (kinds.Text max) (Text bytes) = IsPrintable bytes

-- a number that its type holds
abbrev pub IsHeld : Value → Type 0
IsHeld Null = ⊤
IsHeld (Int n) = FitsSigned w32 n
IsHeld (Big n) = FitsSigned w64 n
IsHeld (Text bytes) = ⊤

-- both: what may stand in a column of this type, and R holds of it
abbrev pub Keeps : (Value → Type 0) → ColType → Value → Type 0
Keeps R kind v = IsKept kind v × R v

-- INT or BIGINT
abbrev IsNumeric : ExprType → Type 0
IsNumeric types.Int = ⊤
IsNumeric types.Big = ⊤
IsNumeric _ = ⊥

abbrev IsTextual : ExprType → Type 0
IsTextual types.Text = ⊤
IsTextual _ = ⊥

-- what an expression of this type may come to; NULL is of each type
abbrev HasType : ExprType → Value → Type 0
HasType type Null = ⊤
HasType type (Int n) = IsNumeric type
HasType type (Big n) = IsNumeric type
HasType type (Text bytes) = IsTextual type × IsPrintable bytes

-- a number or NULL
abbrev IsNumber : Value → Type 0
IsNumber Null = ⊤
IsNumber (Int n) = ⊤
IsNumber (Big n) = ⊤
IsNumber (Text bytes) = ⊥

number_typed : (type : ExprType) (v : Value) → IsNumeric type → IsNumber v → HasType type v
number_typed type Null t h = tt
number_typed type (Int n) t h = t
number_typed type (Big n) t h = t
number_typed type (Text bytes) t h = absurd h

-- what holds of a value holds of the one that is it
pub of_some : {X : Type 0} (P : X → Type 0) (x y : X) → Some x ≡ Some y → P x → P y
of_some P x y e h = let same : x ≡ y = cc in subst P same h

-- of the two, the first where the test holds
of_test : {X : Type 0} (P : X → Type 0) (b : Bool) (x y : X) → cond b (Some x) None ≡ Some y → P x → P y
of_test P true x y e h = of_some P x y e h
of_test P false x y e h = absurd (cc)

-- the same, where the test says more
of_passed : {X : Type 0} (P : X → Type 0) (b : Bool) (x y : X) → cond b (Some x) None ≡ Some y → (b ≡ true → P x) → P y
of_passed P true x y e h = of_some P x y e (h refl)
of_passed P false x y e h = absurd (cc)

-- ---- numbers

stored_number : (big : Bool) (n : ℤ) (v : Value) → stored big n ≡ Some v → IsNumber v
stored_number true n v e = of_test IsNumber (fits_big n) (Big n) v e tt
stored_number false n v e = of_test IsNumber (fits_int n) (Int n) v e tt

opposite_number : (w v : Value) → opposite w ≡ Some v → IsNumber v
opposite_number Null v e = of_some IsNumber Null v e tt
opposite_number (Int n) v e = stored_number false (neg_ℤ n) v e
opposite_number (Big n) v e = stored_number true (neg_ℤ n) v e
opposite_number (Text bytes) v e = of_some IsNumber Null v e tt

math_on_number : (op : MathOp) (big : Bool) (a b : Option ℤ) (v : Value) → math_on op big a b ≡ Some v → IsNumber v
math_on_number op big (Some a) (Some b) v e = stored_number big (exact op a b) v e
math_on_number op big (Some a) None v e = of_some IsNumber Null v e tt
math_on_number op big None b v e = of_some IsNumber Null v e tt

literal_number : (n : ℤ) → IsNumber (literal n)
literal_number n = chosen (fits_int n)
  where
    chosen : (b : Bool) → IsNumber (cond b (Int n) (Big n))
    chosen true = tt
    chosen false = tt

literal_numeric : (n : ℤ) → IsNumeric (literal_type n)
literal_numeric n = chosen (fits_int n)
  where
    chosen : (b : Bool) → IsNumeric (cond b types.Int types.Big)
    chosen true = tt
    chosen false = tt

math_numeric : (a b type : ExprType) → math_type a b ≡ Some type → IsNumeric type
math_numeric a b type e = of_test IsNumeric _ _ type e (chosen _)
  where
    chosen : (big : Bool) → IsNumeric (cond big types.Big types.Int)
    chosen true = tt
    chosen false = tt

-- what two parts give where neither is none
both_gives : {A B C : Type 0} (P : C → Type 0) (f : A → B → Option C) → ((x : A) (y : B) (z : C) → f x y ≡ Some z → P z) → (a : Option A) (b : Option B) (z : C) → both f a b ≡ Some z → P z
both_gives P f each (Some x) (Some y) z e = each x y z e
both_gives P f each (Some x) None z e = absurd (cc)
both_gives P f each None b z e = absurd (cc)

-- the same of one part
then_gives : {A C : Type 0} (P : C → Type 0) (f : A → Option C) → ((x : A) (z : C) → f x ≡ Some z → P z) → (a : Option A) (z : C) → option_and_then f a ≡ Some z → P z
then_gives P f each (Some x) z e = each x z e
then_gives P f each None z e = absurd (cc)

-- ---- columns

pub stands_kept : (c : Column) (v : Value) → MayStand c v → IsKept c.kind v
stands_kept c Null h = tt
stands_kept c (Int n) h = h
stands_kept c (Big n) h = h
stands_kept c (Text bytes) h = text c.kind h
  where
    text : (kind : ColType) → IsOfKind kind (Text bytes) → IsKept kind (Text bytes)
    text kinds.Int h = absurd h
    text kinds.Big h = absurd h
    text (kinds.Text max) h = h.each

kept_typed : (kind : ColType) (v : Value) → IsKept kind v → HasType (from_column kind) v
kept_typed kind Null h = tt
kept_typed kinds.Int (Int n) h = tt
kept_typed kinds.Big (Int n) h = tt
kept_typed (kinds.Text max) (Int n) h = absurd h
kept_typed kinds.Int (Big n) h = tt
kept_typed kinds.Big (Big n) h = tt
kept_typed (kinds.Text max) (Big n) h = absurd h
kept_typed kinds.Int (Text bytes) h = absurd h
kept_typed kinds.Big (Text bytes) h = absurd h
kept_typed (kinds.Text max) (Text bytes) h = (tt, h)

-- the value under the first column that passes
first_stands : (p : Column → Bool) (cols : List Column) (row : List Value) (c : Column) → FitsColumns cols row → find p cols ≡ Some c → MayStand c (slice_index_or row (position_or_len p cols) Null)
first_stands p [] row c fits e = absurd (cc)
first_stands p (x ∷ cols) [] c fits e = absurd fits
first_stands p (x ∷ cols) (v ∷ row) c fits e = chosen (first_stands p cols row c fits.1) (p x) e
  where
    chosen : (find p cols ≡ Some c → MayStand c (slice_index_or row (position_or_len p cols) Null)) → (b : Bool) → cond b (Some x) (find p cols) ≡ Some c → MayStand c (slice_index_or (v ∷ row) (cond (not b) (1 + position_or_len p cols) 0) Null)
    chosen later true e = of_some (λ (d : Column). MayStand d v) x c e fits.0
    chosen later false e =
        let next : suc (position_or_len p cols) ≡ 1 + position_or_len p cols = omega arith in
        subst (λ (m : ℕ). MayStand c (slice_index_or (v ∷ row) m Null)) next (later e)

pub fitting_length : (cols : List Column) (row : List Value) → FitsColumns cols row → length row ≡ length cols
fitting_length [] [] h = refl
fitting_length [] (v ∷ row) h = absurd h
fitting_length (c ∷ cols) [] h = absurd h
fitting_length (c ∷ cols) (v ∷ row) h = ap suc (fitting_length cols row h.1)

-- there is none past the last
pub cell_at_place : (row : List Value) (m n : ℕ) → length row ≡ n → cell_at row (cond (nat_lt m n) (Some m) None) ≡ slice_index_or row m Null
cell_at_place row m n long = chosen (nat_lt m n) refl
  where
    chosen : (b : Bool) → nat_lt m n ≡ b → cell_at row (cond b (Some m) None) ≡ slice_index_or row m Null
    chosen true e = refl
    chosen false e = sym (get_or-eq_default row Null (let past : length row ≤ m = grind (arith, nat_tests) in past))

-- the cell under a column's name may stand in the first column of the name
pub cell_stands : (cols : List Column) (row : List Value) (name : List ℕ) (c : Column) → FitsColumns cols row → find (λ d. bytes_eq d.name name) cols ≡ Some c → MayStand c (cell cols row name)
cell_stands cols row name c fits e =
    subst (MayStand c) (sym (cell_at_place row (position_or_len (λ (d : Column). bytes_eq d.name name) cols) (length cols) (fitting_length cols row fits))) (first_stands (λ d. bytes_eq d.name name) cols row c fits e)

-- ---- expressions

-- a column's cell has the column's type
cell_typed : (cols : List Column) (row : List Value) (name : List ℕ) → FitsColumns cols row → (o : Option Column) → find (λ d. bytes_eq d.name name) cols ≡ o → (type : ExprType) → option_map (λ c. from_column c.kind) o ≡ Some type → HasType type (cell cols row name)
cell_typed cols row name fits None found type e = absurd (cc)
cell_typed cols row name fits (Some c) found type e =
    of_some (λ (t : ExprType). HasType t (cell cols row name)) (from_column c.kind) type e (kept_typed c.kind _ (stands_kept c _ (cell_stands cols row name c fits found)))

-- NULL is of each type
null_typed : (type : ExprType) (v : Value) → Some Null ≡ Some v → HasType type v
null_typed type v e = of_some (HasType type) Null v e tt

-- an expression over a row that fits comes to a value of its type
pub typed : (cols : List Column) (row : List Value) (e : Tree) (type : ExprType) (v : Value) → FitsColumns cols row → each_leaf has_printable_text e ≡ true → tree_type cols e ≡ Some type → value_of cols row e ≡ Some v → HasType type v
typed cols row tree.Null type v fits prints t e = null_typed type v e
typed cols row (tree.Number n) type v fits prints t e =
    number_typed type v (of_some IsNumeric (literal_type n) type t (literal_numeric n)) (of_some IsNumber (literal n) v e (literal_number n))
typed cols row (tree.Text bytes) type v fits prints t e =
    of_some (HasType type) (Text bytes) v e (of_some IsTextual types.Text type t tt, AllPass-from_list_all _ bytes prints)
typed cols row (tree.Col name) type v fits prints t e =
    of_some (HasType type) (cell cols row name) v e (cell_typed cols row name fits _ refl type t)
typed cols row (tree.Neg a) type v fits prints t e =
    number_typed type v (then_gives IsNumeric (λ k. math_type k k) (λ k z g. math_numeric k k z g) (tree_type cols a) type t)
    (then_gives IsNumber opposite opposite_number (value_of cols row a) v e)
typed cols row (tree.Math op a b) type v fits prints t e =
    number_typed type v (both_gives IsNumeric math_type math_numeric (tree_type cols a) (tree_type cols b) type t)
    (both_gives IsNumber (math op) (λ x y z g. math_on_number op _ _ _ z g) (value_of cols row a) (value_of cols row b) v e)
typed cols row (tree.Compare op a b) type v fits prints t e = null_typed type v e
typed cols row (tree.IsNull a) type v fits prints t e = null_typed type v e
typed cols row (tree.Between x a b) type v fits prints t e = null_typed type v e
typed cols row (tree.In x es) type v fits prints t e = null_typed type v e
typed cols row (tree.Not a) type v fits prints t e = null_typed type v e
typed cols row (tree.And a b) type v fits prints t e = null_typed type v e
typed cols row (tree.Or a b) type v fits prints t e = null_typed type v e

-- ---- what a column keeps

number_kind : (kind : ColType) (type t : ExprType) → comparison_type (from_column kind) type ≡ Some t → IsNumeric type → IsNumeric (from_column kind)
number_kind kinds.Int type t e h = tt
number_kind kinds.Big type t e h = tt
number_kind (kinds.Text max) types.Int t e h = absurd (cc)
number_kind (kinds.Text max) types.Big t e h = absurd (cc)
number_kind (kinds.Text max) types.Text t e h = absurd h
number_kind (kinds.Text max) types.Any t e h = absurd h
number_kind (kinds.Text max) types.Truth t e h = absurd h

text_kind : (kind : ColType) (type t : ExprType) → comparison_type (from_column kind) type ≡ Some t → IsTextual type → IsTextual (from_column kind)
text_kind (kinds.Text max) type t e h = tt
text_kind kinds.Int types.Text t e h = absurd (cc)
text_kind kinds.Big types.Text t e h = absurd (cc)
text_kind kinds.Int types.Int t e h = absurd h
text_kind kinds.Int types.Big t e h = absurd h
text_kind kinds.Int types.Any t e h = absurd h
text_kind kinds.Int types.Truth t e h = absurd h
text_kind kinds.Big types.Int t e h = absurd h
text_kind kinds.Big types.Big t e h = absurd h
text_kind kinds.Big types.Any t e h = absurd h
text_kind kinds.Big types.Truth t e h = absurd h

-- NULL is kept as NULL
pub null_kept : (kind : ColType) (w : Value) → kept_as kind Null ≡ Some w → Keeps IsHeld kind w
null_kept kinds.Int w e = of_some (Keeps IsHeld kinds.Int) Null w e (tt, tt)
null_kept kinds.Big w e = of_some (Keeps IsHeld kinds.Big) Null w e (tt, tt)
null_kept (kinds.Text max) w e = of_some (Keeps IsHeld (kinds.Text max)) Null w e (tt, tt)

int_held : (n : ℤ) → fits_int n ≡ true → FitsSigned w32 n
int_held (pos n) h = record { sfits = grind (arith, nat_tests) }
int_held (negsuc n) h = record { sfits = grind (arith, nat_tests) }

big_held : (n : ℤ) → fits_big n ≡ true → FitsSigned w64 n
big_held (pos n) h = record { sfits = grind (arith, nat_tests) }
big_held (negsuc n) h = record { sfits = grind (arith, nat_tests) }

int_kept : (n : ℤ) (w : Value) → stored false n ≡ Some w → Keeps IsHeld kinds.Int w
int_kept n w e = of_passed (Keeps IsHeld kinds.Int) (fits_int n) (Int n) w e (λ fits. (tt, int_held n fits))

big_kept : (n : ℤ) (w : Value) → stored true n ≡ Some w → Keeps IsHeld kinds.Big w
big_kept n w e = of_passed (Keeps IsHeld kinds.Big) (fits_big n) (Big n) w e (λ fits. (tt, big_held n fits))

-- a value of a type that may be compared with the column is kept as one of the column's type
value_kept : (kind : ColType) (type t : ExprType) (v w : Value) → comparison_type (from_column kind) type ≡ Some t → HasType type v → kept_as kind v ≡ Some w → Keeps IsHeld kind w
value_kept kind type t Null w may h e = null_kept kind w e
value_kept kinds.Int type t (Int n) w may h e = int_kept n w e
value_kept kinds.Int type t (Big n) w may h e = int_kept n w e
value_kept kinds.Int type t (Text bytes) w may h e = absurd (text_kind kinds.Int type t may h.0)
value_kept kinds.Big type t (Int n) w may h e = big_kept n w e
value_kept kinds.Big type t (Big n) w may h e = big_kept n w e
value_kept kinds.Big type t (Text bytes) w may h e = absurd (text_kind kinds.Big type t may h.0)
value_kept (kinds.Text max) type t (Int n) w may h e = absurd (number_kind (kinds.Text max) type t may h)
value_kept (kinds.Text max) type t (Big n) w may h e = absurd (number_kind (kinds.Text max) type t may h)
value_kept (kinds.Text max) type t (Text bytes) w may h e = of_some (Keeps IsHeld (kinds.Text max)) (Text bytes) w e (h.1, tt)

-- so it is of an expression that may stand in a column of this type
pub expr_kept : (cols : List Column) (row : List Value) (kind : ColType) (e : Tree) (w : Value) → FitsColumns cols row → each_leaf has_printable_text e ≡ true → is_some (both comparison_type (Some (from_column kind)) (tree_type cols e)) ≡ true → option_and_then (kept_as kind) (value_of cols row e) ≡ Some w → Keeps IsHeld kind w
expr_kept cols row kind e w fits prints may given = by_type (tree_type cols e) refl may
  where
    by_value : (type t : ExprType) → tree_type cols e ≡ Some type → comparison_type (from_column kind) type ≡ Some t → (v : Option Value) → value_of cols row e ≡ v → option_and_then (kept_as kind) v ≡ Some w → Keeps IsHeld kind w
    by_value type t has may None is given = absurd (cc)
    by_value type t has may (Some v) is given = value_kept kind type t v w may (typed cols row e type v fits prints has is) given

    by_comparison : (type : ExprType) → tree_type cols e ≡ Some type → (t : Option ExprType) → comparison_type (from_column kind) type ≡ t → is_some t ≡ true → Keeps IsHeld kind w
    by_comparison type has None is may = absurd (cc)
    by_comparison type has (Some t) is may = by_value type t has is (value_of cols row e) refl given

    by_type : (type : Option ExprType) → tree_type cols e ≡ type → is_some (both comparison_type (Some (from_column kind)) type) ≡ true → Keeps IsHeld kind w
    by_type None has may = absurd (cc)
    by_type (Some type) has may = by_comparison type has _ refl may

-- A header that was written is read again, and what is read is a name and a good definition of columns.
use Rattle.std.proofs.Common.{◌≡◌, ℕ, ◌+◌, ◌-◌, ◌*◌, ◌/◌, ◌%◌, ◌^◌, ◌<◌, ◌≤◌, Bool, true, false, cond, ◌&&◌, ◌==◌, List, [], ◌∷◌, ◌++◌, length, take, drop, refl, ap, sym, ◌∙◌, subst, arith, length-append, append_assoc, lit<}
use Rattle.std.specs.Prelude.{Option, Some, None, Ok, Err, nat_lt, nat_le, map, filter}
use Rattle.std.specs.List.{list_all, flat_map, range_with_len}
use Rattle.std.proofs.lemmas.Bool.{and_parts, le-ltb}
use Rattle.std.proofs.lemmas.Bool.Decides.{nat_tests}
use Rattle.std.proofs.lemmas.List.{append-nil, take_at, drop_at}
use Rattle.std.proofs.lemmas.Option.{same_Some, none-some}
use Rattle.page_base.specs.declared.column.Column.{Column}
use Rattle.page_base.specs.declared.column.ColType.{ColType}
use Rattle.page_base.specs.declared.column.ColType.TheVariants as types
use Rattle.page_base.specs.Name.{IsLowName}
use Rattle.page_base.specs.Reading.{Read, ◌>>=◌, times_at}
use Rattle.page_base.proofs.FormatLemmas.{bind_ok, read_is}
use Rattle.page_base.proofs.TimesLoop.{with_front}
use Rattle.plain_model.specs.Sound.{is_type, is_column, is_definition, are_distinct, has_place}
use Rattle.table_pages.specs.Numbers.{number, number_in}
use Rattle.table_pages.specs.Headers.{sized, type_number, type_length, key_number, column_bytes, header, low_name, given, byte_at, name_at, number_at, type_of, type_at, key_of_number, key_at, column_at, columns_at, header_at, whole, defined, header_of}
use Rattle.table_pages.specs.Names.{IsKeptColumn, AreKept}
use Rattle.table_pages.specs.Reading.{Stops}
use Rattle.table_pages.proofs.NameLemmas.{IsLowName-back}
use Rattle.table_pages.proofs.NumberLemmas.{number_in-number, drop-number, length-number}

-- WHAT IS READ

-- the bytes are this name and these columns, and nothing else
pub record IsHeader (bytes name : List ℕ) (cols : List Column) : Type 0 where
  pub rest : List ℕ
  pub named : name_at bytes ≡ Ok (name, rest)
  pub columns : columns_at rest ≡ Ok (cols, [])
  pub definition : is_definition cols ≡ true

abbrev head : Type 0
head = List ℕ × List Column

defined_is : (o : Option head) (h : head) → defined o ≡ Some h → (o ≡ Some h) × (is_definition h.1 ≡ true)
defined_is None h e = absurd (none-some h e)
defined_is (Some g) h e = by (is_definition g.1) refl e
  where
    by : (b : Bool) → is_definition g.1 ≡ b → cond b (Some g) None ≡ Some h → (Some g ≡ Some h) × (is_definition h.1 ≡ true)
    by true is e = (e, ap (λ (x : head). is_definition x.1) (sym (same_Some g h e)) ∙ is)
    by false is e = absurd (none-some h e)

whole_is : (r : Read head) (h : head) → whole r ≡ Some h → r ≡ Ok (h, [])
whole_is (Ok (x, [])) h e = ap (λ (y : head). Ok (y, [])) (same_Some x h e)
whole_is (Ok (x, b ∷ bs)) h e = absurd (none-some h e)
whole_is (Err rest) h e = absurd (none-some h e)

-- what a header says was read from it
pub header_is : (bytes name : List ℕ) (cols : List Column) → header_of bytes ≡ Some (name, cols) → IsHeader bytes name cols
unfolding header_of header_at
header_is bytes name cols e =
    let d = defined_is (whole (header_at bytes)) (name, cols) e in
    let w = whole_is (header_at bytes) (name, cols) d.0 in
    let n = bind_ok (name_at bytes) (λ name. columns_at name.1 >>= λ cols. Ok ((name.0, cols.0), cols.1)) ((name, cols), []) w in
    let c = bind_ok (columns_at n.0.1) (λ cols. Ok ((n.0.0, cols.0), cols.1)) ((name, cols), []) n.2 in
    let parts = same_parts n.0.0 c.0.0 c.0.1 c.2 in
    record {
      rest = n.0.1;
      named = n.1 ∙ ap (λ (s : List ℕ). Ok (s, n.0.1)) parts.0;
      columns = c.1 ∙ (λ t. Ok (parts.1 t, parts.2 t));
      definition = d.1;
    }
  where
    same_parts : (n : List ℕ) (cs : List Column) (rest : List ℕ) → ◌≡◌ {A = Read head} (Ok ((n, cs), rest)) (Ok ((name, cols), [])) → (n ≡ name) × (cs ≡ cols) × (rest ≡ [])
    same_parts n cs rest e =
        let both = read_is (n, cs) (name, cols) rest [] e in
        (ap (λ (h : head). h.0) both.0, ap (λ (h : head). h.1) both.0, both.1)

-- READING STOPS

-- reading that stops
pub stopped : {X : Type 0} (r : Read X) → Stops r → (rest : List ℕ) × (r ≡ Err rest)
stopped (Ok x) h = absurd h
stopped (Err rest) h = (rest, refl)

-- the columns begin with their number
pub columns_begin : (bytes : List ℕ) (count : ℕ) (rest : List ℕ) → byte_at bytes ≡ Ok (count, rest) → with_front [] (times_at column_at (count - 0) rest) ≡ columns_at bytes
unfolding columns_at
columns_begin bytes count rest e =
    let k : count - 0 ≡ count = omega arith in
    no_front (times_at column_at (count - 0) rest) ∙ ap (λ (n : ℕ). times_at column_at n rest) k ∙ ap (λ (r : Read ℕ). r >>= λ count. times_at column_at count.0 count.1) (sym e)
  where
    no_front : (r : Read (List Column)) → with_front [] r ≡ r
    no_front (Ok xs) = refl
    no_front (Err rest) = refl

-- without a number there are no columns
pub no_columns : (bytes : List ℕ) → Stops (byte_at bytes) → Stops (columns_at bytes)
unfolding columns_at
no_columns bytes h = let s = stopped (byte_at bytes) h in subst (λ (r : Read ℕ). Stops (r >>= λ count. times_at column_at count.0 count.1)) (sym s.1) tt

-- what stops gives nothing
pub stops_not : {X Y : Type 0} (r : Read X) (x : X) (rest : List ℕ) (y : Y) → Stops r → r ≡ Ok (x, rest) → ⊥
stops_not r x rest y h e = subst Stops e h

-- WHAT IS WRITTEN

name_again : (name rest : List ℕ) → IsLowName name → name_at (sized name ++ rest) ≡ Ok (name, rest)
unfolding name_at
name_again name rest low =
    let long : nat_lt (length (name ++ rest)) (length name) ≡ false = le-ltb _ _ (omega (arith, length-append name rest)) in
    let front : take (length name) (name ++ rest) ≡ name = take_at name rest (length name) refl in
    let back : drop (length name) (name ++ rest) ≡ rest = drop_at name rest (length name) refl in
    let kept : low_name name ≡ Some name = ap (λ (b : Bool). cond b (Some name) None) (IsLowName-back name low) in
    let bytes : List ℕ = length name ∷ (name ++ rest) in
    ap (λ (b : Bool). cond b (Err bytes) (given bytes (low_name (take (length name) (name ++ rest))) (drop (length name) (name ++ rest)))) long
    ∙ (λ t. given bytes (low_name (front t)) (back t)) ∙ ap (λ (o : Option (List ℕ)). given bytes o rest) kept

number_again : (x : ℕ) (rest : List ℕ) → x < 2 ^ 32 → number_at (number x ++ rest) ≡ Ok (x, rest)
unfolding number_at
number_again x rest lt =
    let long : nat_lt (length (number x ++ rest)) 4 ≡ false = le-ltb _ 4 (omega (arith, length-append (number x) rest, length-number x)) in
    ap (λ (b : Bool). cond b (Err (number x ++ rest)) (Ok (number_in (number x ++ rest), drop 4 (number x ++ rest)))) long
    ∙ (λ t. Ok (number_in-number x rest lt t, drop-number x rest t))

-- a type that is read again
pub record IsKnownType (kind : ColType) : Type 0 where
  pub again : type_of (type_number kind) (type_length kind) ≡ Some kind
  pub number : type_number kind < 2 ^ 32
  pub length : type_length kind < 2 ^ 32

known_type : (kind : ColType) → is_type kind ≡ true → IsKnownType kind
known_type types.Int h = record { again = refl; number = lit< tt; length = lit< tt }
known_type types.Big h = record { again = refl; number = lit< tt; length = lit< tt }
known_type (types.Text max) h =
    let parts = and_parts (nat_le 1 max) (nat_le max 8000) h in
    let small : max ≤ 8000 = grind (arith, nat_tests, parts.1) in
    record { again = rw (parts.0, parts.1) refl; number = lit< tt; length = omega arith }

type_again : (kind : ColType) (rest : List ℕ) → is_type kind ≡ true → type_at (number (type_number kind) ++ (number (type_length kind) ++ rest)) ≡ Ok (kind, rest)
unfolding type_at
type_again kind rest h =
    let k = known_type kind h in
    let bytes : List ℕ = number (type_number kind) ++ (number (type_length kind) ++ rest) in
    ap (λ (r : Read ℕ). r >>= λ kind. number_at kind.1 >>= λ max. given bytes (type_of kind.0 max.0) max.1) (number_again (type_number kind) (number (type_length kind) ++ rest) k.number)
    ∙ ap (λ (r : Read ℕ). r >>= λ max. given bytes (type_of (type_number kind) max.0) max.1) (number_again (type_length kind) rest k.length)
    ∙ ap (λ (o : Option ColType). given bytes o rest) k.again

key_number_again : (key : ℕ) (nullable : Bool) → key < 256 → (key_number key nullable < 512) × (key_of_number (key_number key nullable) ≡ Some (key, nullable))
key_number_again key true lt =
    let small : nat_lt (2 * key + 1) 512 ≡ true = grind (arith, nat_tests) in
    let half : (2 * key + 1) / 2 ≡ key = omega arith in
    let odd : (2 * key + 1) % 2 ≡ 1 = omega arith in
    (omega arith, ap (λ (b : Bool). cond b (Some ((2 * key + 1) / 2, (2 * key + 1) % 2 == 1)) None) small ∙ (λ t. Some (half t, odd t == 1)))
key_number_again key false lt =
    let small : nat_lt (2 * key + 0) 512 ≡ true = grind (arith, nat_tests) in
    let half : (2 * key + 0) / 2 ≡ key = omega arith in
    let even : (2 * key + 0) % 2 ≡ 0 = omega arith in
    (omega arith, ap (λ (b : Bool). cond b (Some ((2 * key + 0) / 2, (2 * key + 0) % 2 == 1)) None) small ∙ (λ t. Some (half t, even t == 1)))

key_again : (key : ℕ) (nullable : Bool) (rest : List ℕ) → key < 256 → key_at (number (key_number key nullable) ++ rest) ≡ Ok ((key, nullable), rest)
unfolding key_at
key_again key nullable rest lt =
    let k = key_number_again key nullable lt in
    let bytes : List ℕ = number (key_number key nullable) ++ rest in
    ap (λ (r : Read ℕ). r >>= λ n. given bytes (key_of_number n.0) n.1) (number_again (key_number key nullable) rest (let small = k.0 in omega arith))
    ∙ ap (λ (o : Option (ℕ × Bool)). given bytes o rest) k.1

-- the parts of a column one after the other
column_parts : (c : Column) (rest : List ℕ) → column_bytes c ++ rest ≡ sized c.name ++ (number (type_number c.kind) ++ (number (type_length c.kind) ++ (number (key_number c.key c.nullable) ++ rest)))
column_parts c rest =
    let a : List ℕ = number (type_number c.kind) in
    let b : List ℕ = number (type_length c.kind) in
    let k : List ℕ = number (key_number c.key c.nullable) in
    append_assoc (sized c.name) (a ++ (b ++ k)) rest
    ∙ ap (λ (bs : List ℕ). sized c.name ++ bs) (append_assoc a (b ++ k) rest ∙ ap (λ (bs : List ℕ). a ++ bs) (append_assoc b k rest))

column_again : (c : Column) (rest : List ℕ) → IsKeptColumn c → is_type c.kind ≡ true → column_at (column_bytes c ++ rest) ≡ Ok (c, rest)
unfolding column_at
column_again c rest kept known =
    let keys : List ℕ = number (key_number c.key c.nullable) ++ rest in
    let kinds : List ℕ = number (type_number c.kind) ++ (number (type_length c.kind) ++ keys) in
    ap column_at (column_parts c rest)
    ∙ ap (λ (r : Read (List ℕ)). r >>= λ name. type_at name.1 >>= λ kind. key_at kind.1 >>= λ key. Ok (column name.0 kind.0 key.0, key.1)) (name_again c.name kinds kept.name)
    ∙ ap (λ (r : Read ColType). r >>= λ kind. key_at kind.1 >>= λ key. Ok (column c.name kind.0 key.0, key.1)) (type_again c.kind keys known)
    ∙ ap (λ (r : Read (ℕ × Bool)). r >>= λ key. Ok (column c.name c.kind key.0, key.1)) (key_again c.key c.nullable rest kept.key)
  where
    column : List ℕ → ColType → ℕ × Bool → Column
    column name kind key = record { name = name; kind = kind; nullable = key.1; key = key.0 }

columns_again : (cols : List Column) (rest : List ℕ) → AreKept cols → list_all is_column cols ≡ true → times_at column_at (length cols) (flat_map column_bytes cols ++ rest) ≡ Ok (cols, rest)
unfolding times_at
columns_again [] rest kept known = refl
columns_again (c ∷ cols) rest kept known =
    let parts = and_parts (is_column c) (list_all is_column cols) known in
    let kind = and_parts (is_type c.kind) _ parts.0 in
    let later : List ℕ = flat_map column_bytes cols ++ rest in
    ap (λ (bs : List ℕ). column_at bs >>= λ x. times_at column_at (length cols) x.1 >>= λ xs. Ok (x.0 ∷ xs.0, xs.1)) (append_assoc (column_bytes c) (flat_map column_bytes cols) rest)
    ∙ ap (λ (r : Read Column). r >>= λ x. times_at column_at (length cols) x.1 >>= λ xs. Ok (x.0 ∷ xs.0, xs.1)) (column_again c later kept.0 kind.0)
    ∙ ap (λ (r : Read (List Column)). r >>= λ xs. Ok (c ∷ xs.0, xs.1)) (columns_again cols rest kept.1 parts.1)

-- the columns of a good definition
pub known_columns : (cols : List Column) → is_definition cols ≡ true → (length cols ≤ 64) × (list_all is_column cols ≡ true)
known_columns cols h =
    let size : ℕ = length (filter (λ (c : Column). nat_le 1 c.key) cols) in
    let keys : Bool = nat_le 1 size && (nat_le size 16 && list_all (has_place cols) (range_with_len 1 size)) in
    let few = and_parts (nat_le (length cols) 64) (are_distinct (map (λ (c : Column). c.name) cols) && (list_all is_column cols && keys)) h in
    let apart = and_parts (are_distinct (map (λ (c : Column). c.name) cols)) (list_all is_column cols && keys) few.1 in
    let known = and_parts (list_all is_column cols) keys apart.1 in
    let small : nat_le (length cols) 64 ≡ true = few.0 in
    (grind (arith, nat_tests), known.0)

-- a name and columns that are written
pub header_again : (name : List ℕ) (cols : List Column) → IsLowName name → AreKept cols → is_definition cols ≡ true → header_of (header name cols) ≡ Some (name, cols)
unfolding header_of header_at columns_at byte_at header
header_again name cols low kept h =
    let all : List ℕ = flat_map column_bytes cols in
    let known = known_columns cols h in
    let read : columns_at (length cols ∷ all) ≡ Ok (cols, []) = ap (times_at column_at (length cols)) (sym (append-nil all)) ∙ columns_again cols [] kept known.1 in
    ap (λ (r : Read (List ℕ)). defined (whole (r >>= λ name. columns_at name.1 >>= λ cols. Ok ((name.0, cols.0), cols.1)))) (name_again name (length cols ∷ all) low)
    ∙ ap (λ (r : Read (List Column)). defined (whole (r >>= λ cols. Ok ((name, cols.0), cols.1)))) read
    ∙ ap (λ (b : Bool). cond b (Some (name, cols)) None) h

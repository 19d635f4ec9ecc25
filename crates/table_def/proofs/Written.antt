-- The columns among parts, taken part by part.
use Rattle.std.proofs.Common.{◌≡◌, ℕ, ◌+◌, ◌<◌, ◌≤◌, arith, Bool, false, true, List, [], ◌∷◌, ◌++◌, length, get_or, take, map, refl, sym, ap, ◌∙◌}
use Rattle.std.specs.List.{list_any}
use Rattle.std.specs.Prelude.{◌||◌}
use Rattle.std.proofs.lemmas.List.{take_more, map-append, append-nil}
use Rattle.std.proofs.lemmas.List.Elements.{filter_map-append}
use Rattle.std.proofs.lemmas.List.Folds.{list_any_at}
use Rattle.std.proofs.lemmas.Bool.{not-false, false_from_ne_true, both_ways}
use Rattle.table_def.specs.declared.parts.ColumnPart.{ColumnPart}
use Rattle.table_def.specs.declared.parts.TablePart.{TablePart}
use Rattle.table_def.specs.declared.parts.TablePart.TheVariants.{Column, Key}
use Rattle.table_def.specs.Parts.{written, column_in, in_column}
use Rattle.table_def.specs.Kinds.{has_length}
use Rattle.table_def.specs.Faults.{is_bad_length, has_bad_length}

-- one of the columns passes where one of the parts does
pub any_written : (p : ColumnPart → Bool) (parts : List TablePart) → list_any p (written parts) ≡ list_any (in_column p) parts
any_written p [] = refl
any_written p (Column c ∷ parts) = ap (λ (any : Bool). p c || any) (any_written p parts)
any_written p (Key names ∷ parts) = any_written p parts

-- there are no more columns than parts
pub written_are_parts : (parts : List TablePart) → length (written parts) ≤ length parts
written_are_parts [] = omega arith
written_are_parts (Column c ∷ parts) = omega (arith, written_are_parts parts)
written_are_parts (Key names ∷ parts) = omega (arith, written_are_parts parts)

-- one more part
written_more : (parts : List TablePart) (i : ℕ) (d part : TablePart) → i < length parts → d ≡ get_or parts i d → d ≡ part
    → written (take (i + 1) parts) ≡ written (take i parts) ++ written (part ∷ [])
written_more parts i d part within at is =
    ap written (take_more parts i d within) ∙ filter_map-append column_in (take i parts) (get_or parts i d ∷ [])
    ∙ ap (λ (last : TablePart). written (take i parts) ++ written (last ∷ [])) (sym at ∙ is)

-- one more part that is a column
pub column_more : {X : Type 0} (f : ColumnPart → X) (parts : List TablePart) (i : ℕ) (d : TablePart) (c : ColumnPart) → i < length parts → d ≡ get_or parts i d → d ≡ Column c
    → map f (written (take (i + 1) parts)) ≡ map f (written (take i parts)) ++ f c ∷ []
column_more f parts i d c within at is = ap (map f) (written_more parts i d (Column c) within at is) ∙ map-append f (written (take i parts)) (c ∷ [])

-- one more part that is a PRIMARY KEY
pub key_more : {X : Type 0} (f : ColumnPart → X) (parts : List TablePart) (i : ℕ) (d : TablePart) (names : List (List ℕ)) → i < length parts → d ≡ get_or parts i d → d ≡ Key names
    → map f (written (take (i + 1) parts)) ≡ map f (written (take i parts))
key_more f parts i d names within at is = ap (map f) (written_more parts i d (Key names) within at is ∙ append-nil (written (take i parts)))

-- each column has a length that it may have, where none has a bad one
pub length_at : (parts : List TablePart) (i : ℕ) (d : TablePart) (c : ColumnPart) → has_bad_length (written parts) ≡ false → i < length parts → d ≡ get_or parts i d → d ≡ Column c → has_length c.kind ≡ true
length_at parts i d c none within at is =
    let fine : list_any (in_column is_bad_length) parts ≡ false = sym (any_written is_bad_length parts) ∙ none in
    let good : in_column is_bad_length (get_or parts i d) ≡ false = false_from_ne_true _ (λ bad. both_ways _ fine (list_any_at (in_column is_bad_length) parts i d within bad)) in
    not-false _ (sym (ap (in_column is_bad_length) (sym at ∙ is)) ∙ good)

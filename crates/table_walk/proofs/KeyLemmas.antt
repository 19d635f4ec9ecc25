-- The cells of a key: the first column of each place, and rows of the same key.
use Rattle.std.proofs.Common.{◌≡◌, ◌≢◌, ◌<◌, ◌+◌, ℕ, false, List, [], ◌∷◌, length, get_or, drop, refl, ap, sym, ◌∙◌, nat_eq}
use Rattle.std.proofs.lemmas.Bool.{ne_eqb}
use Rattle.std.proofs.lemmas.List.{drop_more, drop-drop}
use Rattle.page_base.specs.declared.column.Column.{Column}
use Rattle.page_base.specs.declared.value.Value.{Value}
use Rattle.page_base.specs.declared.value.Value.TheVariants.{Null}
use Rattle.plain_model.specs.Tables.{key_cell}

no_cells : (cols : List Column) (place : ℕ) → key_cell cols [] place ≡ Null
no_cells [] place = refl
no_cells (c ∷ cols) place = refl

-- a column of another place is passed
pass : (c : Column) (cols : List Column) (row : List Value) (place : ℕ) → c.key ≢ place → key_cell (c ∷ cols) row place ≡ key_cell cols (drop 1 row) place
pass c cols [] place ne = sym (no_cells cols place)
pass c cols (v ∷ row) place ne = let e : nat_eq c.key place ≡ false = ne_eqb c.key place ne in rw e refl

-- the columns before it are passed
pub key_cell-past : (cols : List Column) (row : List Value) (i place : ℕ) (c : Column) → i < length cols → c ≡ get_or cols i c → c.key ≢ place →
    key_cell (drop i cols) (drop i row) place ≡ key_cell (drop (i + 1) cols) (drop (i + 1) row) place
key_cell-past cols row i place c in' is ne =
    ap (λ (cs : List Column). key_cell cs (drop i row) place) (drop_more cols i c in' ∙ ap (λ (d : Column). d ∷ drop (i + 1) cols) (sym is))
    ∙ pass c (drop (i + 1) cols) (drop i row) place ne
    ∙ ap (λ (r : List Value). key_cell (drop (i + 1) cols) r place) (drop-drop 1 i row)

-- Rows read table by table: what may follow, and the columns up to the first that can't.
use Rattle.std.specs.Prelude.{ℕ, ◌≡◌, ◌+◌, ◌==◌, ◌&&◌, not, Bool, true, false, List, [], ◌∷◌, ◌++◌, length}
use Rattle.std.specs.List.{list_all}
use Rattle.std.specs.Ordering.{nat_cmp, is_lt}
use Rattle.std.specs.Cmp.Lexicographic.{slice_cmp}
use Rattle.page_base.specs.declared.column.Column.{Column}
use Rattle.page_base.specs.declared.value.Value.{Value}
use Rattle.page_base.specs.Name.{IsLowName}
use Rattle.plain_model.specs.Sound.{is_type}
use Rattle.sys_cat.specs.declared.desc.TableDesc.{TableDesc}
use Rattle.sys_cat.specs.Rows.{column_row, column_rows}
use Rattle.sys_cat.specs.Lists.{AreNamed}
use Rattle.sys_cat.specs.Growing.{can_grow}

-- whether a table may stand behind others: its name is behind theirs, and its number is another
abbrev pub may_follow : List TableDesc → TableDesc → Bool
may_follow ds d = list_all (λ e. is_lt (slice_cmp nat_cmp e.name d.name) && not (e.number.0 == d.number.0)) ds

-- the first of these rows, if there is one, isn't that of one more column of a table that can grow by it
abbrev pub Stops : List ℕ → List Column → List (List Value) → Type 0
Stops name cols [] = Unit {0}
Stops name cols (row ∷ rows) = (c : Column) → IsLowName c.name → is_type c.kind ≡ true → row ≡ column_row name (length cols + 1) c → can_grow (cols ++ c ∷ []) ≡ false

-- these columns stand in front of the rows, can grow, and are as many as can
pub record AreLongest (name : List ℕ) (rows : List (List Value)) (cols : List Column) : Type 0 where
  pub rest : List (List Value)
  pub stand : rows ≡ column_rows name 1 cols ++ rest
  pub named : AreNamed cols
  pub grow : can_grow cols ≡ true
  pub stops : Stops name cols rest

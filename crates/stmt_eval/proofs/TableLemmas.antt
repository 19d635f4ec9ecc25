-- What is said of columns and rows is said of their table.
use Rattle.std.proofs.Common.{List, map, subst, sym}
use Rattle.std.specs.FinMap as finite
use Rattle.page_base.specs.declared.column.Column.{Column}
use Rattle.page_base.specs.declared.value.Value.{Value}
use Rattle.plain_model.specs.Tables.{Table, IsTable, rows_of, key_of}

pub of_table : (P : List Column → List (List Value) → Type 0) (cols : List Column) (rows : List (List Value)) (t : Table) → IsTable cols rows t → P cols rows → P t.cols (rows_of t)
of_table P cols rows t h p = subst (λ (cs : List Column). P cs (rows_of t)) (sym h.columns) (subst (λ (rs : List (List Value)). P cols rs) (sym h.values) p)

-- the same of its keys
pub of_keys : (P : List Column → List (List Value) → Type 0) (cols : List Column) (rows : List (List Value)) (t : Table) → IsTable cols rows t → P cols (map (key_of cols) rows) → P t.cols (finite.keys t.rows)
of_keys P cols rows t h p = subst (λ (cs : List Column). P cs (finite.keys t.rows)) (sym h.columns) (subst (λ (keys : List (List Value)). P cols keys) (sym h.keys) p)

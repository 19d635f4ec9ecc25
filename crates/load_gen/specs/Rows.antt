-- The rows that are inserted, a hundred a line.
use Rattle.std.specs.Prelude.{ℕ, ◌+◌, ◌-◌, ◌*◌, ◌%◌, List, [], ◌∷◌, ◌++◌, codes}
use Rattle.std.specs.Fmt.{decimal}
use Rattle.std.specs.List.{flat_map, range_with_len}
use Rattle.load_gen.specs.declared.table.Table.{Table}
use Rattle.load_gen.specs.declared.table.Table.TheVariants.{Item, Sale}
use Rattle.load_gen.specs.Draws.{draw_at}

-- `(ID,'itemID',STOCK)`: item ID takes draw ID
abbrev pub item_text : ℕ → ℕ → List ℕ
item_text seed id = codes "(" ++ decimal id ++ codes ",'item" ++ decimal id ++ codes "'," ++ decimal (100 + draw_at seed id % 900) ++ codes ")"

-- `(ID,2001-ID,QTY)`, the difference as a number: sale ID takes draw 2000 + ID
abbrev pub sale_text : ℕ → ℕ → List ℕ
sale_text seed id = codes "(" ++ decimal id ++ codes "," ++ decimal (2001 - id) ++ codes "," ++ decimal (1 + draw_at seed (2000 + id) % 9) ++ codes ")"

-- how many draws the rows of other tables take before a table's rows
abbrev pub draws_before : Table → ℕ
draws_before Item = 0
draws_before Sale = 2000

abbrev pub row_text : Table → ℕ → ℕ → List ℕ
row_text Item seed id = item_text seed id
row_text Sale seed id = sale_text seed id

abbrev pub front_text : Table → List ℕ
front_text Item = codes "INSERT item VALUES "
front_text Sale = codes "INSERT sale VALUES "

-- a comma and a row
abbrev pub next_row_text : Table → ℕ → ℕ → List ℕ
next_row_text table seed id = 44 ∷ row_text table seed id

-- the rows behind the first of a line
unfoldable pub more_rows : Table → ℕ → ℕ → ℕ → List ℕ
more_rows table seed first count = flat_map (next_row_text table seed) (range_with_len first count)

-- the line of this number, from 0: a hundred rows
unfoldable pub line_text : Table → ℕ → ℕ → List ℕ
line_text table seed line = front_text table ++ row_text table seed (100 * line + 1) ++ more_rows table seed (100 * line + 2) 99 ++ codes "\n"

-- the first of a table's lines
unfoldable pub lines_text : Table → ℕ → ℕ → List ℕ
lines_text table seed count = flat_map (line_text table seed) (range_with_len 0 count)

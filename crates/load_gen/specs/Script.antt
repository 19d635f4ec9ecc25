-- The script of a number: a load for a source `shop` whose one data file is `shop_data`.
use Rattle.std.specs.Prelude.{ℕ, ◌+◌, ◌%◌, List, ◌++◌, codes}
use Rattle.std.specs.Fmt.{decimal}
use Rattle.std.specs.List.{flat_map, range_with_len}
use Rattle.load_gen.specs.declared.table.Table.TheVariants.{Item, Sale}
use Rattle.load_gen.specs.Draws.{draw_at}
use Rattle.load_gen.specs.Rows.{lines_text}

-- session 1 makes the tables
unfoldable pub tables_text : List ℕ
tables_text =
    codes ":session 1\nUSE shop\nCREATE TABLE item (id INT PRIMARY KEY, name VARCHAR(40) NOT NULL, stock INT NOT NULL)\nCREATE TABLE sale (id INT PRIMARY KEY, item INT NOT NULL, qty BIGINT)\n"

-- and fills them
abbrev pub fill_text : ℕ → List ℕ
fill_text seed = lines_text Item seed 20 ++ lines_text Sale seed 20

-- session 2 makes a snapshot
unfoldable pub snapshot_text : List ℕ
snapshot_text = codes ":session 2\nCREATE DATABASE shop_h1 ON (NAME = shop_data, FILENAME = 'shop_h1.ss') AS SNAPSHOT OF shop\n"

-- how an update begins
unfoldable pub update_front : List ℕ
update_front = codes "UPDATE item SET stock = stock - 1 WHERE id = "

-- update K of an item takes draw 4000 + K
abbrev pub update_text : ℕ → ℕ → List ℕ
update_text seed k = update_front ++ decimal (1 + draw_at seed (4000 + k) % 2000) ++ codes "\n"

-- the first of the updates
unfoldable pub updates_text : ℕ → ℕ → List ℕ
updates_text seed count = flat_map (update_text seed) (range_with_len 1 count)

-- how session 3 begins
unfoldable pub sales_front : List ℕ
sales_front = codes ":session 3\nUSE shop\n"

-- session 3 sells
abbrev pub sales_text : ℕ → List ℕ
sales_text seed = sales_front ++ updates_text seed 50

-- session 4 loses all sales
unfoldable pub loss_text : List ℕ
loss_text = codes ":session 4\nUSE shop\nDELETE FROM sale\nSELECT COUNT(*) FROM sale\n"

-- session 5 reads them in the snapshot
unfoldable pub reading_text : List ℕ
reading_text = codes ":session 5\nUSE shop_h1\nSELECT COUNT(*), SUM(stock) FROM item\nSELECT COUNT(*) FROM sale\n"

-- session 6 goes back to it
unfoldable pub revert_text : List ℕ
revert_text = codes ":session 6\nRESTORE DATABASE shop FROM DATABASE_SNAPSHOT = 'shop_h1'\nUSE shop\nSELECT COUNT(*) FROM sale\n"

abbrev pub end_text : List ℕ
end_text = loss_text ++ reading_text ++ revert_text

abbrev pub gen_text : ℕ → List ℕ
gen_text seed = tables_text ++ fill_text seed ++ snapshot_text ++ sales_text seed ++ end_text

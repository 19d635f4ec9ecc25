-- What words, names, lists and the parts of many statements say.
use Rattle.std.specs.Prelude.{◌≡◌, ℕ, ℤ, List, [], ◌∷◌, Option, Some, None}
use Rattle.plain_model.specs.declared.expr.Expr.{Expr}
use Rattle.plain_model.specs.declared.stmt.DeleteStmt.{DeleteStmt}
use Rattle.plain_model.specs.declared.stmt.InsertStmt.{InsertStmt}
use Rattle.plain_model.specs.declared.stmt.SetItem.{SetItem}
use Rattle.plain_model.specs.declared.stmt.SnapFile.{SnapFile}
use Rattle.plain_model.specs.declared.stmt.UpdateStmt.{UpdateStmt}
use Rattle.plain_model.specs.Tree.{Tree, tree_of}
use Rattle.sql_form.specs.Form.{Value, Either, Left, Right}
use Rattle.sql_stmt.specs.ChangeForms.{setting, update, delete, row, insert}
use Rattle.sql_stmt.specs.DatabaseForms.{logical_part, path_part, snap_file, snapshot_of, snapshot_text}
use Rattle.sql_stmt.specs.Pieces.{where_truth, column_list}

-- a word or a mark says nothing
abbrev pub SaysNothing : {R V : Type 0} → R → V → Type 0
SaysNothing r v = Unit {0}

abbrev pub SaysName : List ℕ → List ℕ → Type 0
SaysName name v = name ≡ v

abbrev pub SaysNumber : ℤ → ℤ → Type 0
SaysNumber n v = n ≡ v

abbrev pub SaysExpr : Expr → Tree → Type 0
SaysExpr e tree = tree_of e ≡ tree

-- each element says one of the values, in order
abbrev pub SayEach : {R V : Type 0} → (R → V → Type 0) → List R → List V → Type 0
SayEach says [] [] = Unit {0}
SayEach says [] (v ∷ vs) = ⊥
SayEach says (r ∷ rs) [] = ⊥
SayEach says (r ∷ rs) (v ∷ vs) = says r v × SayEach says rs vs

-- it, or nothing
abbrev pub SaysOption : {R V : Type 0} → (R → V → Type 0) → Option R → Option V → Type 0
SaysOption says None None = Unit {0}
SaysOption says None (Some v) = ⊥
SaysOption says (Some r) None = ⊥
SaysOption says (Some r) (Some v) = says r v

-- no list where none is written
abbrev pub SaysList : {R V : Type 0} → (List R → V → Type 0) → List R → Option V → Type 0
SaysList says rs None = rs ≡ []
SaysList says rs (Some v) = says rs v

-- one or the other
abbrev pub SaysEither : {R V W : Type 0} → (R → V → Type 0) → (R → W → Type 0) → R → Either V W → Type 0
SaysEither says also r (Left v) = says r v
SaysEither says also r (Right w) = also r w

-- ( f )
abbrev pub SaysInside : {R V : Type 0} → (R → V → Type 0) → R → Unit {0} × (V × Unit {0}) → Type 0
SaysInside says r (left, (v, right)) = says r v

-- WHERE e
abbrev pub SaysFilter : Expr → Value where_truth → Type 0
SaysFilter e (where_word, v) = SaysExpr e v

-- ( name { , name } )
abbrev pub SaysColumns : List (List ℕ) → Value column_list → Type 0
SaysColumns names v = SaysInside (SayEach SaysName) names v

-- ( e { , e } )
abbrev pub SaysRow : List Expr → Value row → Type 0
SaysRow es v = SaysInside (SayEach SaysExpr) es v

-- INSERT [INTO] table [ ( name { , name } ) ] VALUES ( e { , e } ) { , ( e { , e } ) }
abbrev pub SaysInsert : InsertStmt → Value insert → Type 0
SaysInsert i (word, (into, (table, (cols, (values, rows))))) = (i.table ≡ table) × SaysList SaysColumns i.cols cols × SayEach SaysRow i.rows rows

-- name = e
abbrev pub SaysSetting : SetItem → Value setting → Type 0
SaysSetting item (name, (equal, e)) = (item.col ≡ name) × SaysExpr item.to e

-- UPDATE table SET name = e { , name = e } [WHERE e]
abbrev pub SaysUpdate : UpdateStmt → Value update → Type 0
SaysUpdate u (word, (table, (set, (sets, filter)))) = (u.table ≡ table) × SayEach SaysSetting u.sets sets × SaysOption SaysFilter u.filter filter

-- DELETE [FROM] table [WHERE e]
abbrev pub SaysDelete : DeleteStmt → Value delete → Type 0
SaysDelete d (word, (from, (table, filter))) = (d.table ≡ table) × SaysOption SaysFilter d.filter filter

-- NAME = name
abbrev pub SaysLogical : List ℕ → Value logical_part → Type 0
SaysLogical logical (word, (equal, name)) = SaysName logical name

-- FILENAME = text
abbrev pub SaysPath : List ℕ → Value path_part → Type 0
SaysPath path (word, (equal, text)) = SaysName path text

-- ( NAME = name , FILENAME = text )
abbrev pub SaysFile : SnapFile → Value snap_file → Type 0
SaysFile file (left, (logical, (comma, (path, right)))) = SaysLogical file.logical logical × SaysPath file.path path

-- AS SNAPSHOT OF name
abbrev pub SaysSource : List ℕ → Value snapshot_of → Type 0
SaysSource of (as_word, (snapshot, (of_word, name))) = SaysName of name

-- FROM DATABASE_SNAPSHOT = text
abbrev pub SaysSnapshot : List ℕ → Value snapshot_text → Type 0
SaysSnapshot snap (from, (word, (equal, text))) = SaysName snap text

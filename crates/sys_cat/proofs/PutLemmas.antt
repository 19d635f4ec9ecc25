-- Each row of a table fits into table 0, and is within its limits.
use Rattle.std.proofs.Common.{◌≡◌, ◌<◌, ◌≤◌, ◌+◌, ◌==◌, ◌||◌, not, ◌∙◌, ℕ, true, List, [], ◌∷◌, length, get_or, ap, arith}
use Rattle.std.specs.Prelude.{pos, Option, None, Some, All, FitsSigned}
use Rattle.std.specs.Int.{w32}
use Rattle.std.specs.List.{list_all, AllByRecursion}
use Rattle.std.proofs.lemmas.Bool.{and_parts}
use Rattle.std.proofs.lemmas.Bool.Decides.{nat_tests}
use Rattle.std.proofs.lemmas.List.{append-nil}
use Rattle.std.proofs.lemmas.List.Elements.{All-from_recursion}
use Rattle.page_base.specs.declared.column.Column.{Column}
use Rattle.page_base.specs.declared.value.Value.TheVariants.{Int, Text}
use Rattle.page_base.specs.Name.{IsLowName, is_name_byte}
use Rattle.plain_model.specs.Sound.{is_type, is_column, is_definition}
use Rattle.row_fmt.specs.Rows.{is_text_byte, IsText, FitsColumns, InRange, row_bytes}
use Rattle.row_fmt.specs.Keys.{key_bytes}
use Rattle.row_fmt.proofs.SizeLemmas.{int_size, text_size, values_size-cons, row_size, key_size_is}
use Rattle.table_walk.specs.Tables.{MayPut}
use Rattle.sys_cat.specs.declared.desc.TableDesc.{TableDesc}
use Rattle.sys_cat.specs.declared.line.Line.{Line}
use Rattle.sys_cat.specs.Rows.{table_0, column_rows, rows_of}
use Rattle.sys_cat.specs.Lines.{IsLine, IsText as IsLineText, line_row, text_bytes, table_line, column_line}
use Rattle.sys_cat.specs.Lists.{IsHead, AreNamed}
use Rattle.sys_cat.specs.Growing.{top, span}
use Rattle.sys_cat.proofs.GrowLemmas.{defined, grows, front_grows}
use Rattle.sys_cat.proofs.ReadLemmas.{column_line_is, table_line_is}

-- a byte of a name is one of a text
printable : (b : ℕ) → is_name_byte b ≡ true → is_text_byte b ≡ true
printable b h = grind (arith, nat_tests)

name_text : (s : List ℕ) → IsLowName s → IsText 128 s
name_text s h = record { short = h.name.short; each = λ i d lt. printable (get_or s i d) (h.name.each i d lt) }

line_text : (t : Option (List ℕ)) → IsLineText t → IsText 128 (text_bytes t)
line_text None h = record { short = omega arith; each = λ i d lt. absurd (omega arith) }
line_text (Some s) h = name_text s h

number_fits : (n : ℕ) → n < 2147483648 → FitsSigned w32 (pos n)
number_fits n lt = grind (arith)

line_fits : (l : Line) → IsLine l → FitsColumns table_0 (line_row l)
unfolding table_0
line_fits l h = (name_text l.name h.name, (tt, (line_text l.text h.text, (tt, (tt, (tt, tt))))))

line_range : (l : Line) → IsLine l → AllByRecursion InRange (line_row l)
line_range l h =
    let name = name_text l.name h.name in
    let text = line_text l.text h.text in
    (omega (arith, name.short), (number_fits l.ord h.ord, (omega (arith, text.short), (number_fits l.a h.a, (number_fits l.b h.b, (number_fits l.c h.c, tt))))))

line_size : (l : Line) → IsLine l → length (row_bytes (line_row l)) ≤ 8060
line_size l h =
    let name = name_text l.name h.name in
    let text = line_text l.text h.text in
    omega (
      arith,
      row_size (line_row l),
      values_size-cons (Text l.name) (Int (pos l.ord) ∷ Text (text_bytes l.text) ∷ Int (pos l.a) ∷ Int (pos l.b) ∷ Int (pos l.c) ∷ []),
      values_size-cons (Int (pos l.ord)) (Text (text_bytes l.text) ∷ Int (pos l.a) ∷ Int (pos l.b) ∷ Int (pos l.c) ∷ []),
      values_size-cons (Text (text_bytes l.text)) (Int (pos l.a) ∷ Int (pos l.b) ∷ Int (pos l.c) ∷ []),
      values_size-cons (Int (pos l.a)) (Int (pos l.b) ∷ Int (pos l.c) ∷ []),
      values_size-cons (Int (pos l.b)) (Int (pos l.c) ∷ []),
      values_size-cons (Int (pos l.c)) [],
      text_size l.name,
      int_size (pos l.ord),
      text_size (text_bytes l.text),
      int_size (pos l.a),
      int_size (pos l.b),
      int_size (pos l.c),
      name.short,
      text.short,
    )

line_key : (l : Line) → IsLine l → length (key_bytes table_0 (line_row l)) ≤ 900
unfolding table_0
line_key l h = let name = name_text l.name h.name in omega (arith, key_size_is table_0 (line_row l), text_size l.name, int_size (pos l.ord), name.short)

pub line_put : (l : Line) → IsLine l → MayPut table_0 (line_row l)
line_put l h = record {
  of = record { fits = line_fits l h; range = line_range l h };
  small = record { bytes = line_size l h; key = line_key l h };
  some = λ e. let n : length (line_row l) ≡ 0 = ap length e in absurd (omega arith);
}

-- what a definition's columns are
pub record AreGood (cols : List Column) : Type 0 where
  pub few : length cols ≤ 64
  pub each : AllByRecursion (λ c. (is_type c.kind ≡ true) × (c.key < 256)) cols

each_good : (cols : List Column) → list_all is_column cols ≡ true → top cols ≤ 16 → AllByRecursion (λ c. (is_type c.kind ≡ true) × (c.key < 256)) cols
each_good [] columns few = tt
each_good (c ∷ cs) columns few =
    let parts = and_parts (is_column c) (list_all is_column cs) columns in
    let kind = and_parts (is_type c.kind) (not c.nullable || c.key == 0) parts.0 in
    ((kind.0, omega arith), each_good cs parts.1 (omega arith))

pub good : (cols : List Column) → is_definition cols ≡ true → AreGood cols
good cols h =
    let d = defined cols h in
    let g = grows cols (front_grows cols [] (ap is_definition (append-nil cols) ∙ h)) in
    let most : span cols ≤ 16 = g.most in
    record { few = d.few; each = each_good cols d.columns (omega arith) }

columns_put : (name : List ℕ) (ord : ℕ) (cols : List Column) → IsLowName name → ord + length cols < 2147483648 → AreNamed cols → AllByRecursion (λ c. (is_type c.kind ≡ true) × (c.key < 256)) cols → AllByRecursion (MayPut table_0) (column_rows name ord cols)
columns_put name ord [] low few named good = tt
columns_put name ord (c ∷ cs) low few named good =
    (line_put (column_line name ord c) (column_line_is name ord c low (omega arith) named.0 good.0.0 good.0.1), columns_put name (ord + 1) cs low (omega arith) named.1 good.1)

pub rows_put : (d : TableDesc) → IsHead d → AreNamed d.cols → AreGood d.cols → All (MayPut table_0) (rows_of d)
rows_put d head named good =
    All-from_recursion (MayPut table_0) (rows_of d) (line_put (table_line d) (table_line_is d head), columns_put d.name 1 d.cols head.name (let few = good.few in omega arith) named good.each)

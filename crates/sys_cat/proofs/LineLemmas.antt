-- Rows of six values, and rows of columns one after the other.
use Rattle.std.proofs.Common.{◌≡◌, ℕ, suc, ◌+◌, ◌<◌, List, [], ◌∷◌, ◌++◌, length, take, get_or, refl, ap, sym, ◌∙◌, arith}
use Rattle.std.specs.Prelude.{pos}
use Rattle.std.proofs.lemmas.List.{take_more}
use Rattle.page_base.specs.declared.column.Column.{Column}
use Rattle.page_base.specs.declared.value.Value.{Value}
use Rattle.page_base.specs.declared.value.Value.TheVariants.{Null, Int, Text}
use Rattle.sys_cat.specs.Rows.{row_of, column_row, column_rows}

pub six : (row : List Value) → length row ≡ 6 → row ≡ get_or row 0 Null ∷ get_or row 1 Null ∷ get_or row 2 Null ∷ get_or row 3 Null ∷ get_or row 4 Null ∷ get_or row 5 Null ∷ []
six [] h = absurd (omega arith)
six (a ∷ []) h = absurd (omega arith)
six (a ∷ b ∷ []) h = absurd (omega arith)
six (a ∷ b ∷ c ∷ []) h = absurd (omega arith)
six (a ∷ b ∷ c ∷ d ∷ []) h = absurd (omega arith)
six (a ∷ b ∷ c ∷ d ∷ e ∷ []) h = absurd (omega arith)
six (a ∷ b ∷ c ∷ d ∷ e ∷ f ∷ []) h = refl
six (a ∷ b ∷ c ∷ d ∷ e ∷ f ∷ g ∷ rest) h = absurd (omega arith)

pub row_is : (row : List Value) (name text : List ℕ) (ord a b c : ℕ) → length row ≡ 6 → get_or row 0 Null ≡ Text name → get_or row 1 Null ≡ Int (pos ord) → get_or row 2 Null ≡ Text text → get_or row 3 Null ≡ Int (pos a) → get_or row 4 Null ≡ Int (pos b)
    → get_or row 5 Null ≡ Int (pos c) → row ≡ row_of name ord text a b c
row_is row name text ord a b c h p0 p1 p2 p3 p4 p5 = six row h ∙ (λ i. p0 i ∷ p1 i ∷ p2 i ∷ p3 i ∷ p4 i ∷ p5 i ∷ [])

pub column_rows-append : (name : List ℕ) (ord : ℕ) (xs ys : List Column) → column_rows name ord (xs ++ ys) ≡ column_rows name ord xs ++ column_rows name (ord + length xs) ys
column_rows-append name ord [] ys = let e : ord ≡ ord + 0 = omega arith in ap (λ n. column_rows name n ys) e
column_rows-append name ord (x ∷ xs) ys =
    let e : ord + 1 + length xs ≡ ord + suc (length xs) = omega arith in
    ap (λ rows. column_row name ord x ∷ rows) (column_rows-append name (ord + 1) xs ys ∙ ap (λ n. column_rows name (ord + 1) xs ++ column_rows name n ys) e)

pub rows_more : (name : List ℕ) (cols : List Column) (i : ℕ) (c : Column) (first : List Value) (rows more : List (List Value)) (row : List Value) → i < length cols → c ≡ get_or cols i c → rows ≡ first ∷ column_rows name 1 (take i cols)
    → row ≡ column_row name (i + 1) c → more ≡ rows ++ row ∷ [] → length (take i cols) ≡ i → more ≡ first ∷ column_rows name 1 (take (i + 1) cols)
rows_more name cols i c first rows more row lt is e r m long =
    let at : 1 + length (take i cols) ≡ i + 1 = omega arith in
    m ∙ (λ j. e j ++ r j ∷ [])
    ∙ ap (λ rs. first ∷ rs) (ap (λ n. column_rows name 1 (take i cols) ++ column_row name n c ∷ []) (sym at) ∙ sym (column_rows-append name 1 (take i cols) (c ∷ []))
    ∙ ap (column_rows name 1) (ap (λ d. take i cols ++ d ∷ []) is ∙ sym (take_more cols i c lt)))

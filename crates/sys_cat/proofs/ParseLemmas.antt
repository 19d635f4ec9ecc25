-- The rows of tables can be cut in one way only.
use Rattle.std.proofs.Common.{◌≡◌, ℕ, suc, ◌+◌, ◌*◌, ◌≤◌, Bool, true, false, cond, List, [], ◌∷◌, ◌++◌, length, drop, get_or, refl, ap, sym, ◌∙◌, arith, append_assoc}
use Rattle.std.specs.List.{flat_map}
use Rattle.std.proofs.lemmas.List.{append-nil}
use Rattle.page_base.specs.declared.column.Column.{Column}
use Rattle.page_base.specs.declared.column.ColType.{ColType}
use Rattle.page_base.specs.declared.column.ColType.TheVariants as types
use Rattle.page_base.specs.declared.value.Value.{Value}
use Rattle.sys_cat.specs.declared.desc.TableDesc.{TableDesc}
use Rattle.sys_cat.specs.Rows.{row_of, type_number, type_length, key_number, table_row, column_row, column_rows, rows_of}

abbrev pub Rows : Type 0
Rows = List (List Value)

pub head_is : {A : Type 0} {x y : A} {xs ys : List A} → x ∷ xs ≡ y ∷ ys → x ≡ y
head_is {x} e = ap (λ l. get_or l 0 x) e

pub tail_is : {A : Type 0} {x y : A} {xs ys : List A} → x ∷ xs ≡ y ∷ ys → xs ≡ ys
tail_is e = ap (drop 1) e

pub no_cons : {A P : Type 0} {x : A} {xs : List A} → x ∷ xs ≡ [] → P
no_cons {x = x} {xs = xs} e = let n : suc (length xs) ≡ 0 = ap length e in absurd (omega arith)

-- the parts of a row
pub record Parts (n o' : List ℕ) (o p : ℕ) (t u : List ℕ) (a a' b b' c c' : ℕ) : Type 0 where
  pub name : n ≡ o'
  pub ord : o ≡ p
  pub text : t ≡ u
  pub first : a ≡ a'
  pub second : b ≡ b'
  pub third : c ≡ c'

pub parts : (n n' : List ℕ) (o o' : ℕ) (t t' : List ℕ) (a a' b b' c c' : ℕ) → row_of n o t a b c ≡ row_of n' o' t' a' b' c' → Parts n n' o o' t t' a a' b b' c c'
parts n n' o o' t t' a a' b b' c c' e = record { name = cc; ord = cc; text = cc; first = cc; second = cc; third = cc }

same_key : (k k' : ℕ) (b b' : Bool) → 2 * k + cond b 1 0 ≡ 2 * k' + cond b' 1 0 → (k ≡ k') × (b ≡ b')
same_key k k' true true e = (omega arith, refl)
same_key k k' true false e = absurd (omega arith)
same_key k k' false true e = absurd (omega arith)
same_key k k' false false e = (omega arith, refl)

same_type : (k k' : ColType) → type_number k ≡ type_number k' → type_length k ≡ type_length k' → k ≡ k'
same_type types.Int types.Int e f = refl
same_type types.Int types.Big e f = absurd (omega arith)
same_type types.Int (types.Text m) e f = absurd (omega arith)
same_type types.Big types.Int e f = absurd (omega arith)
same_type types.Big types.Big e f = refl
same_type types.Big (types.Text m) e f = absurd (omega arith)
same_type (types.Text m) types.Int e f = absurd (omega arith)
same_type (types.Text m) types.Big e f = absurd (omega arith)
same_type (types.Text m) (types.Text n) e f = ap types.Text f

pub column_same : (name : List ℕ) (ord : ℕ) (c d : Column) → column_row name ord c ≡ column_row name ord d → c ≡ d
column_same name ord c d e =
    let p = parts name name ord ord c.name d.name (type_number c.kind) (type_number d.kind) (type_length c.kind) (type_length d.kind) (key_number c) (key_number d) e in
    let k = same_key c.key d.key c.nullable d.nullable p.third in
    let t = same_type c.kind d.kind p.first p.second in
    λ i. record { name = p.text i; kind = t i; nullable = k.1 i; key = k.0 i }

pub no_column : {P : Type 0} (d : TableDesc) (name : List ℕ) (ord : ℕ) (c : Column) → 1 ≤ ord → table_row d ≡ column_row name ord c → P
no_column d name ord c some e =
    let p = parts d.name name 0 ord [] c.name d.number.0 (type_number c.kind) d.root.file (type_length c.kind) d.root.page (key_number c) e in
    let z = p.ord in
    absurd (omega arith)

-- the table at the front of rows
pub record Front (row : List Value) (rest : Rows) (ds : List TableDesc) : Type 0 where
  pub desc : TableDesc
  pub later : List TableDesc
  pub is : ds ≡ desc ∷ later
  pub row_is : row ≡ table_row desc
  pub rest_is : rest ≡ column_rows desc.name 1 desc.cols ++ flat_map rows_of later

pub front : (row : List Value) (rest : Rows) (ds : List TableDesc) → row ∷ rest ≡ flat_map rows_of ds → Front row rest ds
front row rest [] e = no_cons e
front row rest (d ∷ ds) e = record { desc = d; later = ds; is = refl; row_is = head_is e; rest_is = tail_is e }

-- columns that stand in front of others
pub record More (name : List ℕ) (ord : ℕ) (cs cs' : List Column) (t : Rows) (ds : List TableDesc) : Type 0 where
  pub cols : List Column
  pub are : cs' ≡ cs ++ cols
  pub rest : t ≡ column_rows name (ord + length cs) cols ++ flat_map rows_of ds

pub cols_match : (name : List ℕ) (ord : ℕ) (cs cs' : List Column) (t : Rows) (ds : List TableDesc) → 1 ≤ ord → column_rows name ord cs ++ t ≡ column_rows name ord cs' ++ flat_map rows_of ds → More name ord cs cs' t ds
cols_match name ord [] cs' t ds some e = let z : ord ≡ ord + 0 = omega arith in record { cols = cs'; are = refl; rest = e ∙ ap (λ n. column_rows name n cs' ++ flat_map rows_of ds) z }
cols_match name ord (c ∷ cs) [] t ds some e =
    let f = front (column_row name ord c) (column_rows name (ord + 1) cs ++ t) ds e in
    no_column f.desc name ord c some (sym f.row_is)
cols_match name ord (c ∷ cs) (d ∷ cs') t ds some e =
    let r = cols_match name (ord + 1) cs cs' t ds (omega arith) (tail_is e) in
    let same : c ≡ d = column_same name ord c d (head_is e) in
    let z : ord + 1 + length cs ≡ ord + suc (length cs) = omega arith in
    record { cols = r.cols; are = λ i. sym same i ∷ r.are i; rest = r.rest ∙ ap (λ n. column_rows name n r.cols ++ flat_map rows_of ds) z }

pub record SameHead (d e : TableDesc) : Type 0 where
  pub name : d.name ≡ e.name
  pub number : d.number.0 ≡ e.number.0
  pub file : d.root.file ≡ e.root.file
  pub page : d.root.page ≡ e.root.page

pub same_head : (d e : TableDesc) → table_row d ≡ table_row e → SameHead d e
same_head d e h =
    let p = parts d.name e.name 0 0 [] [] d.number.0 e.number.0 d.root.file e.root.file d.root.page e.root.page h in
    record { name = p.name; number = p.first; file = p.second; page = p.third }

pub same_desc : (d e : TableDesc) → SameHead d e → d.cols ≡ e.cols → d ≡ e
same_desc d e h c = λ i. record { name = h.name i; number = record { 0 = h.number i }; root = record { file = h.file i; page = h.page i }; cols = c i }

-- the last of some tables goes on with these rows in others
pub record LastGoesOn (d : TableDesc) (tail : Rows) (e : TableDesc) (es : List TableDesc) : Type 0 where
  pub head : SameHead d e
  pub more : List Column
  pub cols : e.cols ≡ d.cols ++ more
  pub rest : tail ≡ column_rows d.name (1 + length d.cols) more ++ flat_map rows_of es

-- tables, of which the last one goes on with these rows, in front of others
abbrev pub Extends : List TableDesc → Rows → List TableDesc → Type 0
Extends [] tail es = tail ≡ flat_map rows_of es
Extends (d ∷ []) tail [] = ⊥
Extends (d ∷ []) tail (e ∷ es) = LastGoesOn d tail e es
Extends (d ∷ f ∷ ds) tail [] = ⊥
Extends (d ∷ f ∷ ds) tail (e ∷ es) = (d ≡ e) × Extends (f ∷ ds) tail es

matched : (d e : TableDesc) (t : Rows) (es : List TableDesc) → table_row d ∷ column_rows d.name 1 d.cols ++ t ≡ table_row e ∷ column_rows e.name 1 e.cols ++ flat_map rows_of es → LastGoesOn d t e es
matched d e t es eq =
    let h = same_head d e (head_is eq) in
    let m = cols_match d.name 1 d.cols e.cols t es (omega arith) (tail_is eq ∙ ap (λ n. column_rows n 1 e.cols ++ flat_map rows_of es) (sym h.name)) in
    record { head = h; more = m.cols; cols = m.are; rest = m.rest }

pub parse : (ds : List TableDesc) (tail : Rows) (es : List TableDesc) → flat_map rows_of ds ++ tail ≡ flat_map rows_of es → Extends ds tail es
parse [] tail es e = e
parse (d ∷ []) tail [] e = no_cons e
parse (d ∷ []) tail (e ∷ es) eq = matched d e tail es (ap (λ rows. table_row d ∷ rows ++ tail) (sym (append-nil (column_rows d.name 1 d.cols))) ∙ eq)
parse (d ∷ f ∷ ds) tail [] e = no_cons e
parse (d ∷ f ∷ ds) tail (e ∷ es) eq =
    let m = matched d e (flat_map rows_of (f ∷ ds) ++ tail) es (ap (λ rows. table_row d ∷ rows) (sym (append_assoc (column_rows d.name 1 d.cols) (flat_map rows_of (f ∷ ds)) tail)) ∙ eq) in
    let stop : m.more ≡ [] = none m.more m.rest in
    (same_desc d e m.head (sym (m.cols ∙ ap (λ cs. d.cols ++ cs) stop ∙ append-nil d.cols)), parse (f ∷ ds) tail es (m.rest ∙ ap (λ cs. column_rows d.name (1 + length d.cols) cs ++ flat_map rows_of es) stop))
  where
    none : (more : List Column) → flat_map rows_of (f ∷ ds) ++ tail ≡ column_rows d.name (1 + length d.cols) more ++ flat_map rows_of es → more ≡ []
    none [] e = refl
    none (c ∷ cs) e = no_column f d.name (1 + length d.cols) c (omega arith) (head_is e)

-- nothing is left where no row is
pub none_left : (name : List ℕ) (ord : ℕ) (more : List Column) (es : List TableDesc) → [] ≡ column_rows name ord more ++ flat_map rows_of es → (more ≡ []) × (es ≡ [])
none_left name ord [] [] e = (refl, refl)
none_left name ord [] (d ∷ es) e = no_cons (sym e)
none_left name ord (c ∷ cs) es e = no_cons (sym e)

-- the same rows are the same tables
pub one_list : (ds es : List TableDesc) → Extends ds [] es → ds ≡ es
one_list [] [] e = refl
one_list [] (d ∷ es) e = no_cons (sym e)
one_list (d ∷ []) [] e = absurd e
one_list (d ∷ []) (e ∷ es) x =
    let n = none_left d.name (1 + length d.cols) x.more es x.rest in
    let same = same_desc d e x.head (sym (x.cols ∙ ap (λ cs. d.cols ++ cs) n.0 ∙ append-nil d.cols)) in
    λ i. same i ∷ sym n.1 i
one_list (d ∷ f ∷ ds) [] e = absurd e
one_list (d ∷ f ∷ ds) (e ∷ es) x = λ i. x.0 i ∷ one_list (f ∷ ds) es x.1 i

pub rows_determine : (rows : Rows) (ds es : List TableDesc) → rows ≡ flat_map rows_of ds → rows ≡ flat_map rows_of es → ds ≡ es
rows_determine rows ds es a b = one_list ds es (parse ds [] es (append-nil (flat_map rows_of ds) ∙ sym a ∙ b))

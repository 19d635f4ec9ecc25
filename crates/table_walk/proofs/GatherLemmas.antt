-- Cells and the rows that they are, with one cell taken out or put in anywhere.
use Rattle.std.proofs.Common.{◌≡◌, ◌≢◌, ℕ, ◌+◌, ◌<◌, ◌≤◌, List, [], ◌∷◌, ◌++◌, length, take, get_or, refl, ap, sym, ◌∙◌, subst, append_assoc}
use Rattle.std.specs.Prelude.{Option, None}
use Rattle.std.specs.FinMap as finite
use Rattle.std.proofs.lemmas.List.{append-nil, take_more, take_all}
use Rattle.page_base.specs.declared.column.Column.{Column}
use Rattle.page_base.specs.declared.value.Value.{Value}
use Rattle.plain_model.specs.Tables.{Rows, key_of}
use Rattle.row_fmt.specs.Rows.{IsRow}
use Rattle.row_fmt.proofs.RowLemmas.{one_row}
use Rattle.table_walk.specs.Tables.{Gathers, IsSmall, AreRows, full}
use Rattle.table_walk.specs.Sought.{kept, with_asked, IsSought}
use Rattle.table_walk.proofs.RowsLemmas.{Key, turned, insert_swap, none_apart, none_other, kept-insert}

abbrev Cells : Type 0
Cells = List (List ℕ)

-- one cell among others: its row, and the rows of the others
pub record OneOf (cols : List Column) (before : Cells) (x : List ℕ) (after : Cells) (rows : Rows) : Type 0 where
  pub row : List Value
  pub rest : Rows
  pub is : IsRow cols x row
  pub small : IsSmall cols row
  pub others : Gathers cols (before ++ after) rest
  pub new : finite.get rest (key_of cols row) ≡ None
  pub all : rows ≡ finite.insert rest (key_of cols row) row

pub gathers_out : (cols : List Column) (before : Cells) (x : List ℕ) (after : Cells) (rows : Rows) → Gathers cols (before ++ x ∷ after) rows → OneOf cols before x after rows
gathers_out cols [] x after rows g = record { row = g.0; rest = g.1; is = g.2; small = g.3; others = g.4; new = g.5; all = g.6 }
gathers_out cols (y ∷ ys) x after rows g =
    let o : OneOf cols ys x after g.1 = gathers_out cols ys x after g.1 g.4 in
    let ky : Key = key_of cols g.0 in
    let kx : Key = key_of cols o.row in
    let apart = none_apart o.rest kx ky o.row (ap (λ m. finite.get m ky) (sym o.all) ∙ g.5) in
    record {
      row = o.row;
      rest = finite.insert o.rest ky g.0;
      is = o.is;
      small = o.small;
      others = (g.0, o.rest, g.2, g.3, o.others, apart.1, refl);
      new = none_other o.rest ky kx g.0 (turned kx ky ∙ apart.0) o.new;
      all = g.6 ∙ ap (λ (m : Rows). finite.insert m ky g.0) o.all ∙ insert_swap o.rest kx ky o.row g.0 (turned kx ky ∙ apart.0);
    }

pub gathers_in : (cols : List Column) (before : Cells) (x : List ℕ) (after : Cells) (rest : Rows) (row : List Value) → IsRow cols x row → IsSmall cols row → Gathers cols (before ++ after) rest
    → finite.get rest (key_of cols row) ≡ None → Gathers cols (before ++ x ∷ after) (finite.insert rest (key_of cols row) row)
gathers_in cols [] x after rest row is small g new = (row, rest, is, small, g, new, refl)
gathers_in cols (y ∷ ys) x after rest row is small g new =
    let ky : Key = key_of cols g.0 in
    let kx : Key = key_of cols row in
    let apart = none_apart g.1 ky kx g.0 (ap (λ m. finite.get m kx) (sym g.6) ∙ new) in (
      g.0,
      finite.insert g.1 kx row,
      g.2,
      g.3,
      gathers_in cols ys x after g.1 row is small g.4 apart.1,
      none_other g.1 kx ky row (turned ky kx ∙ apart.0) g.5,
      ap (λ (m : Rows). finite.insert m kx row) g.6 ∙ insert_swap g.1 ky kx g.0 row (turned ky kx ∙ apart.0),
    )

-- each cell is a row
pub gathered_are : (cols : List Column) (cells : Cells) (rows : Rows) → Gathers cols cells rows → AreRows cols cells
gathered_are cols [] rows g = tt
gathered_are cols (x ∷ xs) rows g = ((g.0, g.2), gathered_are cols xs g.1 g.4)

-- the rows are one map
pub gathers_one : (cols : List Column) (cells : Cells) (rows other : Rows) → Gathers cols cells rows → Gathers cols cells other → rows ≡ other
gathers_one cols [] rows other g h = g ∙ sym h
gathers_one cols (x ∷ xs) rows other g h =
    let same : g.0 ≡ h.0 = one_row cols x g.0 h.0 g.2 h.2 in
    let rest : g.1 ≡ h.1 = gathers_one cols xs g.1 h.1 g.4 h.4 in
    g.6 ∙ (λ i. finite.insert (rest i) (key_of cols (same i)) (same i)) ∙ sym h.6

pub AreRows-append : (cols : List Column) (xs ys : Cells) → AreRows cols xs → AreRows cols ys → AreRows cols (xs ++ ys)
AreRows-append cols [] ys a b = b
AreRows-append cols (x ∷ xs) ys a b = (a.0, AreRows-append cols xs ys a.1 b)

pub AreRows-parts : (cols : List Column) (xs ys : Cells) → AreRows cols (xs ++ ys) → AreRows cols xs × AreRows cols ys
AreRows-parts cols [] ys a = (tt, a)
AreRows-parts cols (x ∷ xs) ys a = let r = AreRows-parts cols xs ys a.1 in ((a.0, r.0), r.1)

-- SO FAR

-- one row more, of the next cell
pub sought_more : (cols : List Column) (keys : Option Rows) (cells : Cells) (old new : Rows) (x : List ℕ) (row : List Value) → IsSought cols keys cells old → IsRow cols x row → new ≡ with_asked keys (key_of cols row) row old
    → IsSought cols keys (cells ++ x ∷ []) new
sought_more cols keys cells old new x row sought is more all g =
    let o : OneOf cols cells x [] all = gathers_out cols cells x [] all g in
    let same : row ≡ o.row = one_row cols x row o.row is o.is in
    let before : old ≡ kept keys o.rest = sought o.rest (subst (λ cs. Gathers cols cs o.rest) (append-nil cells) o.others) in
    more ∙ (λ i. with_asked keys (key_of cols (same i)) (same i) (before i)) ∙ kept-insert keys o.rest (key_of cols o.row) o.row ∙ ap (kept keys) (sym o.all)

pub full-append : (xs ys : Cells) → full (xs ++ ys) ≡ full xs ++ full ys
full-append [] ys = refl
full-append ([] ∷ xs) ys = full-append xs ys
full-append ((b ∷ bs) ∷ xs) ys = ap (λ zs. (b ∷ bs) ∷ zs) (full-append xs ys)

full_one : (x : List ℕ) → x ≢ [] → full (x ∷ []) ≡ x ∷ []
full_one [] h = absurd (h refl)
full_one (b ∷ bs) h = refl

pub full-more : (xs : Cells) (j : ℕ) → j < length xs → get_or xs j [] ≢ [] → full (take (j + 1) xs) ≡ full (take j xs) ++ get_or xs j [] ∷ []
full-more xs j h some = ap full (take_more xs j [] h) ∙ full-append (take j xs) (get_or xs j [] ∷ []) ∙ ap (λ zs. full (take j xs) ++ zs) (full_one (get_or xs j []) some)

pub full-none : (xs : Cells) (j : ℕ) → j < length xs → get_or xs j [] ≡ [] → full (take (j + 1) xs) ≡ full (take j xs)
full-none xs j h none = ap full (take_more xs j [] h) ∙ full-append (take j xs) (get_or xs j [] ∷ []) ∙ ap (λ x. full (take j xs) ++ full (x ∷ [])) none ∙ append-nil (full (take j xs))

-- the rows of the slots so far
pub record SoFar (cols : List Column) (keys : Option Rows) (slots : Cells) (j : ℕ) (old rows : Rows) : Type 0 where
  pub sought : (before : Cells) → IsSought cols keys before old → IsSought cols keys (before ++ full (take j slots)) rows
  pub are : AreRows cols (full (take j slots))

pub so_far_begin : (cols : List Column) (keys : Option Rows) (slots : Cells) (old : Rows) → SoFar cols keys slots 0 old old
so_far_begin cols keys slots old = record { sought = λ before s. subst (λ cs. IsSought cols keys cs old) (sym (append-nil before)) s; are = tt }

pub so_far_none : (cols : List Column) (keys : Option Rows) (slots : Cells) (j : ℕ) (old rows : Rows) → SoFar cols keys slots j old rows → j < length slots → get_or slots j [] ≡ [] → SoFar cols keys slots (j + 1) old rows
so_far_none cols keys slots j old rows s h none =
    let same = sym (full-none slots j h none) in
    record { sought = λ before t. subst (λ xs. IsSought cols keys (before ++ xs) rows) same (s.sought before t); are = subst (AreRows cols) same s.are }

pub so_far_more : (cols : List Column) (keys : Option Rows) (slots : Cells) (j : ℕ) (old rows more : Rows) (x : List ℕ) (row : List Value) → SoFar cols keys slots j old rows → j < length slots → x ≡ get_or slots j [] → x ≢ []
    → IsRow cols x row → more ≡ with_asked keys (key_of cols row) row rows → SoFar cols keys slots (j + 1) old more
so_far_more cols keys slots j old rows more x row s h is_x some is e =
    let same : full (take j slots) ++ x ∷ [] ≡ full (take (j + 1) slots) = ap (λ y. full (take j slots) ++ y ∷ []) is_x ∙ sym (full-more slots j h (λ none. some (is_x ∙ none))) in
    record {
      sought = λ before t. subst (λ xs. IsSought cols keys xs more) (append_assoc before (full (take j slots)) (x ∷ []) ∙ ap (λ xs. before ++ xs) same)
          (sought_more cols keys (before ++ full (take j slots)) rows more x row (s.sought before t) is e);
      are = subst (AreRows cols) same (AreRows-append cols (full (take j slots)) (x ∷ []) s.are ((row, is), tt));
    }

pub so_far_end : (cols : List Column) (keys : Option Rows) (slots : Cells) (j : ℕ) (old rows : Rows) → SoFar cols keys slots j old rows → length slots ≤ j
    → ((before : Cells) → IsSought cols keys before old → IsSought cols keys (before ++ full slots) rows) × AreRows cols (full slots)
so_far_end cols keys slots j old rows s h =
    let all : take j slots ≡ slots = take_all j slots h in
    ((λ before t. subst (λ xs. IsSought cols keys (before ++ full xs) rows) all (s.sought before t)), subst (λ xs. AreRows cols (full xs)) all s.are)

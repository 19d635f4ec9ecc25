-- What is drafted has room on its page, and its edits are those that make the page.
use Rattle.std.proofs.Common.{refl, ◌≡◌, ◌≢◌, ℕ, zero, suc, ◌+◌, ◌-◌, ◌*◌, ◌≤◌, List, [], ◌∷◌, ◌++◌, length, get_or, ap, sym, ◌∙◌, subst, arith, Bool, true, false, not, cond, nat_lt, nat_le, ◌&&◌, length-append}
use Rattle.std.specs.Prelude.{Option, None, Some}
use Rattle.std.specs.Str.{bytes_eq}
use Rattle.std.proofs.lemmas.Slice.Eq.{bytes_eq-Decides}
use Rattle.std.proofs.lemmas.Bool.{leb-true}
use Rattle.page_base.specs.declared.numbers.PageId.{PageId}
use Rattle.page_fmt.specs.Spelling.{row_bytes, LastIsFull, FitsPage}
use Rattle.table_walk.specs.declared.plan.Edit.{Edit}
use Rattle.table_walk.specs.Addresses.{address}
use Rattle.table_walk.specs.Differences.{is_wanted, changes_at, page_changes}
use Rattle.table_walk.specs.Plans.{place, named, bytes_of}
use Rattle.table_walk.proofs.AddressLemmas.{address_length}
use Rattle.page_draft.specs.declared.page.Cell.{Cell}
use Rattle.page_draft.specs.Drafts.{Drafted, extra, is_within, fits_in, is_full, ends_full, cell_of, slots_of, cell_at, is_due, edit_of, dues, page_edits}

both : (a b : Bool) → (a && b) ≡ true → (a ≡ true) × (b ≡ true)
both true b e = (refl, e)
both false b e = cc

-- ROOM

module _ (claimed : ℕ → PageId) where
  pub cell_long : (names : Option ℕ) (bytes : List ℕ) → length (named claimed names ++ bytes) + 2 ≡ extra names + length bytes
  cell_long None bytes = omega arith
  cell_long (Some i) bytes = omega (arith, length-append (address (claimed i)) bytes, address_length (claimed i))

  fits : (left : ℕ) (cs : List Cell) → fits_in left cs ≡ true → row_bytes (slots_of claimed cs) + 2 * length (slots_of claimed cs) ≤ left
  fits left [] e = omega arith
  fits left (c ∷ cs) e = by (is_within c left) refl e (fits (left - extra c.names - length c.bytes) cs)
    where
      by : (b : Bool) → is_within c left ≡ b → cond b (fits_in (left - extra c.names - length c.bytes) cs) false ≡ true
          → (fits_in (left - extra c.names - length c.bytes) cs ≡ true → row_bytes (slots_of claimed cs) + 2 * length (slots_of claimed cs) ≤ left - extra c.names - length c.bytes)
          → row_bytes (slots_of claimed (c ∷ cs)) + 2 * length (slots_of claimed (c ∷ cs)) ≤ left
      by true w f later =
          let parts = both (nat_le (extra c.names) left) (nat_le (length c.bytes) (left - extra c.names)) w in
          let a : extra c.names ≤ left = leb-true (extra c.names) left parts.0 in
          let b : length c.bytes ≤ left - extra c.names = leb-true (length c.bytes) (left - extra c.names) parts.1 in
          omega (arith, a, b, later f, cell_long c.names c.bytes)
      by false w f later = absurd (let t : false ≡ true = f in cc)

  some : (names : Option ℕ) (bytes : List ℕ) → is_full (record { names = names; bytes = bytes }) ≡ true → named claimed names ++ bytes ≢ []
  some None [] e f = absurd (let t : false ≡ true = e in cc)
  some None (b ∷ bs) e f = absurd (let t : b ∷ bs ≡ [] = f in cc)
  some (Some i) bytes e f = absurd (omega (arith, ap length f, length-append (address (claimed i)) bytes, address_length (claimed i)))

  ends : (cs : List Cell) → ends_full cs ≡ true → LastIsFull (slots_of claimed cs)
  ends [] e = tt
  ends (c ∷ []) e = some c.names c.bytes e
  ends (c ∷ d ∷ cs) e = ends (d ∷ cs) e

  pub has_room : (cs : List Cell) → fits_in 8096 cs ≡ true → ends_full cs ≡ true → FitsPage (slots_of claimed cs)
  has_room cs a b = record { small = omega (arith, fits 8096 cs a); last = ends cs b }

  pub cell_read : (cs : List Cell) (i : ℕ) → get_or (slots_of claimed cs) i [] ≡ cell_of claimed (cell_at cs i)
  cell_read [] i = refl
  cell_read (c ∷ cs) zero = refl
  cell_read (c ∷ cs) (suc i) = cell_read cs i

  pub many : (cs : List Cell) → length (slots_of claimed cs) ≡ length cs
  many [] = refl
  many (c ∷ cs) = ap suc (many cs)

  -- EDITS AND CHANGES

  -- these edits are of this page, and write what these changes do
  abbrev pub Write : PageId → List Edit → List (ℕ × List ℕ) → Type 0
  Write p [] [] = Unit {0}
  Write p [] (c ∷ cs) = ⊥
  Write p (e ∷ es) [] = ⊥
  Write p (e ∷ es) (c ∷ cs) = ((place claimed e.spot ≡ p) × (e.slot ≡ c.0) × (bytes_of claimed e ≡ c.1)) × Write p es cs

  pub write_append : (p : PageId) (es fs : List Edit) (cs ds : List (ℕ × List ℕ)) → Write p es cs → Write p fs ds → Write p (es ++ fs) (cs ++ ds)
  write_append p [] fs [] ds a b = b
  write_append p [] fs (c ∷ cs) ds a b = absurd a
  write_append p (e ∷ es) fs [] ds a b = absurd a
  write_append p (e ∷ es) fs (c ∷ cs) ds a b = (a.0, write_append p es fs cs ds a.1 b)

  not_same : (x y : List ℕ) → x ≢ y → bytes_eq x y ≡ false
  not_same x y ne = by (bytes_eq x y) refl
    where
      by : (b : Bool) → bytes_eq x y ≡ b → b ≡ false
      by true e = absurd (ne ((bytes_eq-Decides x y).0 e))
      by false e = refl

  due_same : (g : Bool) (x : List ℕ) (names : Option ℕ) (bytes : List ℕ) → ((j : ℕ) → names ≡ Some j → x ≢ named claimed names ++ bytes) → is_due g x names bytes ≡ is_wanted g x (named claimed names ++ bytes)
  due_same g x None bytes ne = refl
  due_same g x (Some j) bytes ne =
      let long : 5 + length bytes ≡ length (address (claimed j) ++ bytes) = omega (arith, length-append (address (claimed j)) bytes, address_length (claimed j)) in
      ap (λ (n : ℕ). cond (nat_lt (length x) n) g (not g)) long
      ∙ sym (ap (λ (b : Bool). cond b false (cond (nat_lt (length x) (length (address (claimed j) ++ bytes))) g (not g))) (not_same x (address (claimed j) ++ bytes) (ne j refl)))

  module _ (d : Drafted) (old : List (List ℕ)) (names : (i j : ℕ) → (cell_at d.cells i).names ≡ Some j → get_or old i [] ≢ cell_of claimed (cell_at d.cells i)) where
    due_at : (g : Bool) (i : ℕ) → is_due g (get_or old i []) (cell_at d.cells i).names (cell_at d.cells i).bytes ≡ is_wanted g (get_or old i []) (get_or (slots_of claimed d.cells) i [])
    due_at g i = due_same g (get_or old i []) (cell_at d.cells i).names (cell_at d.cells i).bytes (names i) ∙ ap (is_wanted g (get_or old i [])) (sym (cell_read d.cells i))

    round : (g : Bool) (i n : ℕ) → Write (place claimed d.spot) (dues g d old i n) (changes_at g old (slots_of claimed d.cells) i n)
    round g i zero = tt
    round g i (suc n) =
        by (is_due g (get_or old i []) (cell_at d.cells i).names (cell_at d.cells i).bytes) (is_wanted g (get_or old i []) (get_or (slots_of claimed d.cells) i [])) (due_at g i) (round g (i + 1) n)
      where
        by : (b c : Bool) → b ≡ c → Write (place claimed d.spot) (dues g d old (i + 1) n) (changes_at g old (slots_of claimed d.cells) (i + 1) n)
            → Write (place claimed d.spot) (cond b (edit_of d i ∷ dues g d old (i + 1) n) (dues g d old (i + 1) n))
            (cond c ((i, get_or (slots_of claimed d.cells) i []) ∷ changes_at g old (slots_of claimed d.cells) (i + 1) n) (changes_at g old (slots_of claimed d.cells) (i + 1) n))
        by true true e w = ((refl, refl, sym (cell_read d.cells i)), w)
        by true false e w = absurd (let t : true ≡ false = e in cc)
        by false true e w = absurd (let t : false ≡ true = e in cc)
        by false false e w = w

    pub page_writes : Write (place claimed d.spot) (page_edits d old) (page_changes old (slots_of claimed d.cells))
    page_writes =
        subst (λ (n : ℕ). Write (place claimed d.spot) (page_edits d old) (changes_at false old (slots_of claimed d.cells) 0 (length old + n) ++ changes_at true old (slots_of claimed d.cells) 0 (length old + n))) (sym (many d.cells))
        (write_append (place claimed d.spot) (dues false d old 0 (length old + length d.cells)) (dues true d old 0 (length old + length d.cells)) (changes_at false old (slots_of claimed d.cells) 0 (length old + length d.cells))
        (changes_at true old (slots_of claimed d.cells) 0 (length old + length d.cells)) (round false 0 (length old + length d.cells)) (round true 0 (length old + length d.cells)))

-- EACH EDIT IS OF A SLOT OF ITS PAGE

abbrev pub AreOf : Drafted → List Edit → Type 0
AreOf d [] = Unit {0}
AreOf d (e ∷ es) = ((i : ℕ) × (e ≡ edit_of d i)) × AreOf d es

of_append : (d : Drafted) (es fs : List Edit) → AreOf d es → AreOf d fs → AreOf d (es ++ fs)
of_append d [] fs a b = b
of_append d (e ∷ es) fs a b = (a.0, of_append d es fs a.1 b)

dues_of : (g : Bool) (d : Drafted) (old : List (List ℕ)) (i n : ℕ) → AreOf d (dues g d old i n)
dues_of g d old i zero = tt
dues_of g d old i (suc n) = by (is_due g (get_or old i []) (cell_at d.cells i).names (cell_at d.cells i).bytes) (dues_of g d old (i + 1) n)
  where
    by : (b : Bool) → AreOf d (dues g d old (i + 1) n) → AreOf d (cond b (edit_of d i ∷ dues g d old (i + 1) n) (dues g d old (i + 1) n))
    by true a = ((i, refl), a)
    by false a = a

pub page_of : (d : Drafted) (old : List (List ℕ)) → AreOf d (page_edits d old)
page_of d old = of_append d (dues false d old 0 (length old + length d.cells)) (dues true d old 0 (length old + length d.cells)) (dues_of false d old 0 (length old + length d.cells)) (dues_of true d old 0 (length old + length d.cells))

-- Values and rows are read as they are written.
use Rattle.std.proofs.Common.{◌≡◌, ◌≢◌, ◌⊎◌, ℕ, ◌+◌, ◌≤◌, ◌<◌, Bool, true, false, cond, not, ◌&&◌, ◌||◌, ◌==◌, List, [], ◌∷◌, ◌++◌, length, map, refl, sym, ap, subst, ◌∙◌, arith, append_assoc, append-nil, eqb-true, eq-eqb, inl, inr}
use Rattle.std.specs.Prelude.{Option, Some, None, option_and_then, nat_le, codes, ℤ, pos, negsuc}
use Rattle.std.specs.Option.{option_map}
use Rattle.std.specs.List.{list_all, flat_map}
use Rattle.std.specs.Char.{is_ascii_digit}
use Rattle.std.specs.Str.{bytes_eq}
use Rattle.std.specs.Fmt.{decimal, signed_decimal}
use Rattle.std.proofs.lemmas.Bool.{and_parts, cases_Bool}
use Rattle.std.proofs.lemmas.Bool.Decides.{nat_tests}
use Rattle.page_base.specs.declared.value.Value.{Value}
use Rattle.page_base.specs.declared.value.Value.TheVariants.{Null, Int, Big, Text}
use Rattle.plain_model.specs.Printed.{quoted, value_text, next_value_text, values_text, row_text}
use Rattle.plain_model.specs.Numbers.{fits_big}
use Rattle.reply_text.specs.Told.{is_printable, is_told_value, is_told_row}
use Rattle.reply_text.specs.Numbers.{signed_on}
use Rattle.reply_text.specs.Pieces.{pieces, parted, behind_separator, behind, before, parts_at, quoted_behind}
use Rattle.reply_text.specs.Values.{in_front, text_on, shown_on, value_on, values_on, row_on}
use Rattle.reply_text.proofs.Options.{bound, mapped, chosen, guarded, both}
use Rattle.reply_text.proofs.NumberLaws.{signed_back, signed_sound}
use Rattle.reply_text.proofs.PieceLemmas.{pieces_some}
use Rattle.reply_text.proofs.PlainLaws.{signed_plain}
use Rattle.reply_text.proofs.PieceLaws.{eq_of, plain_other, closes, is_plain, is_plain_byte, plain_closes, pieces-parted, parted-pieces, behind_is, behind_front, before_is, before_end}

-- a text is read as it is written
text_back_by : (v : Bool) (b : ℕ) (bs : List ℕ) → (b == 39) ≡ v → is_printable b ≡ true → text_on (flat_map quoted bs ++ 39 ∷ []) ≡ Some bs → text_on (flat_map quoted (b ∷ bs) ++ 39 ∷ []) ≡ Some (b ∷ bs)
text_back_by true b bs e p h = let same : b ≡ 39 = eqb-true b 39 e in rw same (rw h refl)
text_back_by false b bs e p h = rw e (step b (flat_map quoted bs) e p h)
  where
    step : (b : ℕ) (more : List ℕ) {bs : List ℕ} → (b == 39) ≡ false → is_printable b ≡ true → text_on (more ++ 39 ∷ []) ≡ Some bs → text_on (b ∷ more ++ 39 ∷ []) ≡ Some (b ∷ bs)
    step b [] e p h = rw (e, p) (ap (in_front b) h)
    step b (c ∷ cs) e p h = rw (e, p) (ap (in_front b) h)

pub text_back : (bs : List ℕ) → list_all is_printable bs ≡ true → text_on (flat_map quoted bs ++ 39 ∷ []) ≡ Some bs
text_back [] h = refl
text_back (b ∷ bs) h = let here = and_parts (is_printable b) (list_all is_printable bs) h in text_back_by (b == 39) b bs refl here.0 (text_back bs here.1)

-- what was read as a text is written so
abbrev SaysText : List ℕ → List ℕ → Type 0
SaysText bytes text = (bytes ≡ flat_map quoted text ++ 39 ∷ []) × (list_all is_printable text ≡ true)

doubled : (b : ℕ) (c : ℕ) (bytes text : List ℕ) → b ≡ 39 → c ≡ 39 → SaysText bytes text → SaysText (b ∷ c ∷ bytes) (39 ∷ text)
doubled b c bytes text e f h = (rw (e, f, h.0) refl, h.1)

plain_byte : (b : ℕ) (bytes text : List ℕ) → (b == 39) ≡ false → is_printable b ≡ true → SaysText bytes text → SaysText (b ∷ bytes) (b ∷ text)
plain_byte b bytes text e p h = (rw (e, h.0) refl, both (is_printable b) (list_all is_printable text) p h.1)

pub text_sound : (bytes text : List ℕ) → text_on bytes ≡ Some text → SaysText bytes text
text_sound [] text h = cc
text_sound (b ∷ []) text h =
    let known = guarded (b == 39) [] text h in
    let quote : b ≡ 39 = eqb-true b 39 known.0 in
    subst (λ (t : List ℕ). SaysText (b ∷ []) t) known.1 (rw quote refl, refl)
text_sound (b ∷ c ∷ bytes) text h = elim (chosen (b == 39) (cond (c == 39) (in_front 39 (text_on bytes)) None) (cond (is_printable b) (in_front b (text_on (c ∷ bytes))) None) text h) [
  | inl quote ↦ elim (chosen (c == 39) (in_front 39 (text_on bytes)) None text quote.1) [
    | inl two ↦ (let more = mapped (text_on bytes) (λ (xs : List ℕ). 39 ∷ xs) text two.1 in subst (λ (t : List ℕ). SaysText (b ∷ c ∷ bytes) t) more.2 (doubled b c bytes more.0 (eqb-true b 39 quote.0) (eqb-true c 39 two.0) (text_sound bytes more.0 more.1)))
    | inr one ↦ cc (one.1)
  ]
  | inr plain ↦ elim (chosen (is_printable b) (in_front b (text_on (c ∷ bytes))) None text plain.1) [
    | inl shown ↦ (let more = mapped (text_on (c ∷ bytes)) (λ (xs : List ℕ). b ∷ xs) text shown.1 in subst (λ (t : List ℕ). SaysText (b ∷ c ∷ bytes) t) more.2 (plain_byte b (c ∷ bytes) more.0 plain.0 shown.0 (text_sound (c ∷ bytes) more.0 more.1)))
    | inr wrong ↦ cc (wrong.1)
  ]
]

-- the number that a word spells is its value
number_value : (word : List ℕ) (z : ℤ) → signed_on word ≡ Some z → value_on word ≡ Some (Big z)
number_value [] z h = cc
number_value (b ∷ bs) z h = elim (cases_Bool (bytes_eq (b ∷ bs) (codes "NULL"))) [
  | inl null ↦ (let same : signed_on (codes "NULL") ≡ Some z = subst (λ (w : List ℕ). signed_on w ≡ Some z) (eq_of (b ∷ bs) (codes "NULL") null) h in cc)
  | inr other ↦ elim (cases_Bool (b == 39)) [
    | inl quote ↦ (let same : signed_on (39 ∷ bs) ≡ Some z = subst (λ (c : ℕ). signed_on (c ∷ bs) ≡ Some z) (eqb-true b 39 quote) h in cc)
    | inr plain ↦ rw (other, plain, h) refl
  ]
]

-- a value is read as it is written
pub value_back : (v : Value) → is_told_value v ≡ true → value_on (value_text v) ≡ Some v
value_back Null h = refl
value_back (Int n) h = cc
value_back (Big n) h = number_value (signed_decimal n) n (signed_back n h)
value_back (Text bytes) h = rw (text_back bytes h) refl

abbrev SaysValue : List ℕ → Value → Type 0
SaysValue word v = (word ≡ value_text v) × (is_told_value v ≡ true)

text_says : (b : ℕ) (bs text : List ℕ) → b ≡ 39 → SaysText bs text → SaysValue (b ∷ bs) (Text text)
text_says b bs text e h = (rw (e, h.0) refl, h.1)

pub value_sound : (word : List ℕ) (v : Value) → value_on word ≡ Some v → (word ≡ value_text v) × (is_told_value v ≡ true)
value_sound [] v h = cc
value_sound (b ∷ bs) v h = elim (chosen (bytes_eq (b ∷ bs) (codes "NULL")) (Some Null) (shown_on b bs) v h) [
  | inl null ↦ (let is : Null ≡ v = cc (null.1) in subst (λ (y : Value). SaysValue (b ∷ bs) y) is (eq_of (b ∷ bs) (codes "NULL") null.0, refl))
  | inr other ↦ elim (chosen (b == 39) (option_map Text (text_on bs)) (option_map Big (signed_on (b ∷ bs))) v other.1) [
    | inl quote ↦ (let text = mapped (text_on bs) Text v quote.1 in let known = text_sound bs text.0 text.1 in subst (λ (y : Value). SaysValue (b ∷ bs) y) text.2 (text_says b bs text.0 (eqb-true b 39 quote.0) known))
    | inr plain ↦ (let number = mapped (signed_on (b ∷ bs)) Big v plain.1 in subst (λ (y : Value). SaysValue (b ∷ bs) y) number.2 (signed_sound (b ∷ bs) number.0 number.1))
  ]
]

-- values are read as they are written
values_back : (vs : List Value) → list_all is_told_value vs ≡ true → values_on (map value_text vs) ≡ Some vs
values_back [] h = refl
values_back (v ∷ vs) h = let here = and_parts (is_told_value v) (list_all is_told_value vs) h in rw (value_back v here.0, values_back vs here.1) refl

abbrev SayValues : List (List ℕ) → List Value → Type 0
SayValues words vs = (words ≡ map value_text vs) × (list_all is_told_value vs ≡ true)

values_step : (word : List ℕ) (words : List (List ℕ)) (v : Value) (vs : List Value) → SaysValue word v → SayValues words vs → SayValues (word ∷ words) (v ∷ vs)
values_step word words v vs h more = (rw (h.0, more.0) refl, both (is_told_value v) (list_all is_told_value vs) h.1 more.1)

values_sound : (words : List (List ℕ)) (vs : List Value) → values_on words ≡ Some vs → SayValues words vs
values_sound [] vs h = let is : [] ≡ vs = cc in subst (λ (ys : List Value). SayValues [] ys) is (refl, refl)
values_sound (word ∷ words) vs h =
    let first = bound (value_on word) (λ (v : Value). in_front v (values_on words)) vs h in
    let more = mapped (values_on words) (λ (xs : List Value). first.0 ∷ xs) vs first.2 in
    subst (λ (ys : List Value). SayValues (word ∷ words) ys) more.2 (values_step word words first.0 more.0 (value_sound word first.0 first.1) (values_sound words more.0 more.1))

next_values : (vs : List Value) → flat_map next_value_text vs ≡ flat_map (behind_separator 44) (map value_text vs)
next_values [] = refl
next_values (v ∷ vs) = ap (λ (xs : List ℕ). (44 ∷ value_text v) ++ xs) (next_values vs)

-- the values of a row are pieces with commas between them
values_parted : (vs : List Value) → values_text vs ≡ parted 44 (map value_text vs)
values_parted [] = refl
values_parted (v ∷ vs) = ap (λ (xs : List ℕ). value_text v ++ xs) (next_values vs)

and_no : (b : Bool) → (b && false) ≡ false
and_no true = refl
and_no false = refl

-- quotes in a text come in twos, so that what stands in it parts nothing
closes_by : (v : Bool) (b : ℕ) (bs : List ℕ) → (b == 39) ≡ v → closes 44 true (flat_map quoted bs ++ 39 ∷ []) ≡ true → closes 44 true (flat_map quoted (b ∷ bs) ++ 39 ∷ []) ≡ true
closes_by true b bs e h = let same : b ≡ 39 = eqb-true b 39 e in rw same h
closes_by false b bs e h = rw (e, and_no (b == 44), e) h

text_closes : (bs : List ℕ) → closes 44 true (flat_map quoted bs ++ 39 ∷ []) ≡ true
text_closes [] = refl
text_closes (b ∷ bs) = closes_by (b == 39) b bs refl (text_closes bs)

pub value_closes : (v : Value) → is_told_value v ≡ true → closes 44 false (value_text v) ≡ true
value_closes Null h = refl
value_closes (Int n) h = cc
value_closes (Big n) h = plain_closes 44 (λ b p. plain_other b 44 p refl) (λ b p. plain_other b 39 p refl) (signed_decimal n) (signed_plain n h)
value_closes (Text bytes) h = text_closes bytes

values_close : (vs : List Value) → list_all is_told_value vs ≡ true → list_all (closes 44 false) (map value_text vs) ≡ true
values_close [] h = refl
values_close (v ∷ vs) h =
    let here = and_parts (is_told_value v) (list_all is_told_value vs) h in
    both (closes 44 false (value_text v)) (list_all (closes 44 false) (map value_text vs)) (value_closes v here.0) (values_close vs here.1)

-- a row is read as it is written
pub row_back : (row : List Value) → is_told_row row ≡ true → row_on (row_text row) ≡ Some row
row_back [] h = cc
row_back (v ∷ vs) h =
    let inner : List ℕ = values_text (v ∷ vs) in
    let cut : pieces 44 false inner ≡ map value_text (v ∷ vs) = ap (pieces 44 false) (values_parted (v ∷ vs)) ∙ pieces-parted 44 (value_text v) (map value_text vs) (values_close (v ∷ vs) h) in
    let first : behind (codes " (") (row_text (v ∷ vs)) ≡ Some (inner ++ codes ")\n") = ap (behind (codes " (")) (append_assoc (codes " (") inner (codes ")\n")) ∙ behind_front (codes " (") (inner ++ codes ")\n") in
    ap (λ (o : Option (List ℕ)). option_and_then (λ (bytes : List ℕ). values_on (pieces 44 false bytes)) (option_and_then (before (codes ")\n")) o)) first
    ∙ ap (option_and_then (λ (bytes : List ℕ). values_on (pieces 44 false bytes))) (before_end (codes ")\n") inner)
    ∙ ap values_on cut ∙ values_back (v ∷ vs) h

row_told : (words : List (List ℕ)) (row : List Value) → words ≢ [] → SayValues words row → is_told_row row ≡ true
row_told words [] some h = absurd (some h.0)
row_told words (v ∷ vs) some h = h.1

pub row_sound : (line : List ℕ) (row : List Value) → row_on line ≡ Some row → (line ≡ row_text row) × (is_told_row row ≡ true)
row_sound line row h =
    let inner = bound (option_and_then (before (codes ")\n")) (behind (codes " (") line)) (λ (bytes : List ℕ). values_on (pieces 44 false bytes)) row h in
    let first = bound (behind (codes " (") line) (before (codes ")\n")) inner.0 inner.1 in
    let line_is : line ≡ codes " (" ++ first.0 = behind_is (codes " (") line first.0 first.1 in
    let rest_is : first.0 ≡ inner.0 ++ codes ")\n" = before_is (codes ")\n") first.0 inner.0 first.2 in
    let said = values_sound (pieces 44 false inner.0) row inner.2 in
    let inner_is : inner.0 ≡ values_text row = sym (parted-pieces 44 false inner.0) ∙ ap (parted 44) said.0 ∙ sym (values_parted row) in
    (line_is ∙ ap (λ (xs : List ℕ). codes " (" ++ xs) (rest_is ∙ ap (λ (xs : List ℕ). xs ++ codes ")\n") inner_is) ∙ sym (append_assoc (codes " (") (values_text row) (codes ")\n")), row_told (pieces 44 false inner.0) row (pieces_some 44 false inner.0) said)

-- Texts that end with the name of a file.
use Rattle.std.proofs.Common.{◌≡◌, ℕ, Bool, true, false, cond, List, [], ◌∷◌, length, arith, ap, ◌∙◌, refl, subst, get_or, map}
use Rattle.std.specs.Prelude.{not, nat_le, ◌==◌, ◌&&◌, ◌||◌, codes, Result, Ok, Err}
use Rattle.std.specs.Option.{SomeIff}
use Rattle.std.specs.Result.{OkIff, result_ok}
use Rattle.std.specs.List.{list_all, list_any}
use Rattle.std.proofs.lemmas.Bool.{eqb-true, le-leb, leb-true}
use Rattle.std.proofs.lemmas.Bool.Decides.{nat_tests}
use Rattle.page_base.specs.FileName.{IsFileName, is_file_name_byte, is_separator, last_part}
use Rattle.page_base.specs.Name.{IsName, is_name_byte}
use Rattle.std.specs.Char.{to_ascii_lowercase}
use Rattle.sql_lex.proofs.BoolLemmas.{is_false, both_hold, not_byte, clash}
use Rattle.sql_lex.specs.Texts.{is_quote, is_printable, doubled, is_file_name}
use Rattle.sql_lex.proofs.RunLemmas.{each_passes, all_pass}

-- the test of the table is the form of a name of a file
pub is_file_name_is : (bs : List ℕ) → is_file_name bs ≡ true → IsFileName bs
is_file_name_is bs h =
    let sides = both_hold (nat_le 1 (length bs) && nat_le (length bs) 128) _ h in
    let ends = both_hold (nat_le 1 (length bs)) (nat_le (length bs) 128) sides.0 in
    let rest = both_hold (not (get_or bs 0 0 == 46)) (list_all is_file_name_byte bs) sides.1 in
    record {
      some = omega (arith, leb-true 1 (length bs) ends.0);
      short = leb-true (length bs) 128 ends.1;
      starts = is_false (get_or bs 0 0 == 46) (λ dot. let stops : not (get_or bs 0 0 == 46) ≡ false = rw dot refl in clash _ rest.0 stops);
      each = each_passes is_file_name_byte bs rest.1;
    }

pub file_name_passes : (bs : List ℕ) → IsFileName bs → is_file_name bs ≡ true
file_name_passes bs h =
    let some : nat_le 1 (length bs) ≡ true = le-leb 1 (length bs) (omega (arith, h.some)) in
    let short : nat_le (length bs) 128 ≡ true = le-leb (length bs) 128 h.short in
    let each : list_all is_file_name_byte bs ≡ true = all_pass is_file_name_byte bs (λ i d within. h.each i d within) in
    rw (some, short, h.starts, each) refl

pub file_name_fails : (bs : List ℕ) → (IsFileName bs → ⊥) → is_file_name bs ≡ false
file_name_fails bs unnamed = is_false (is_file_name bs) (λ h. unnamed (is_file_name_is bs h))

pub short_file_name : IsFileName (codes "a")
short_file_name = is_file_name_is (codes "a") refl

no_separator : (b : ℕ) → is_file_name_byte b ≡ true → is_separator b ≡ false
no_separator b h = rw (not_byte is_file_name_byte b 92 h refl, not_byte is_file_name_byte b 47 h refl) refl

any_none : (test good : ℕ → Bool) (bs : List ℕ) → ((b : ℕ) → good b ≡ true → test b ≡ false) → list_all good bs ≡ true → list_any test bs ≡ false
any_none test good [] other h = refl
any_none test good (b ∷ bs) other h = let both = both_hold (good b) (list_all good bs) h in rw (other b both.0) (any_none test good bs other both.1)

last_one : (b : ℕ) (bs : List ℕ) → list_any is_separator (b ∷ bs) ≡ false → last_part (b ∷ bs) ≡ b ∷ bs
last_one b bs h = rw h refl

-- a name of a file is the last part of itself
pub last_part-name : (bs : List ℕ) → IsFileName bs → last_part bs ≡ bs
last_part-name [] h = refl
last_part-name (b ∷ bs) h =
    last_one b bs (any_none is_separator is_file_name_byte (b ∷ bs) no_separator (all_pass is_file_name_byte (b ∷ bs) (λ i d within. h.each i d within)))

-- and it can stand in a text
all_also : (p q : ℕ → Bool) (bs : List ℕ) → ((b : ℕ) → p b ≡ true → q b ≡ true) → list_all p bs ≡ true → list_all q bs ≡ true
all_also p q [] also h = refl
all_also p q (b ∷ bs) also h = let both = both_hold (p b) (list_all p bs) h in rw (also b both.0) (all_also p q bs also both.1)

file_byte_printable : (b : ℕ) → is_file_name_byte b ≡ true → is_printable b ≡ true
file_byte_printable b h = grind (arith, nat_tests)

pub file_name_printable : (bs : List ℕ) → IsFileName bs → list_all is_printable bs ≡ true
file_name_printable bs h = all_also is_file_name_byte is_printable bs file_byte_printable (all_pass is_file_name_byte bs (λ i d within. h.each i d within))

plain_one : (b : ℕ) (bs : List ℕ) (v : Bool) → is_quote b ≡ v → is_file_name_byte b ≡ true → doubled bs ≡ bs → cond v (b ∷ b ∷ doubled bs) (b ∷ doubled bs) ≡ b ∷ bs
plain_one b bs true quote h ih = absurd (clash (is_quote b) quote (not_byte is_file_name_byte b 39 h refl))
plain_one b bs false other h ih = rw ih refl

-- where no quote stands none is doubled
doubled-plain : (bs : List ℕ) → list_all is_file_name_byte bs ≡ true → doubled bs ≡ bs
doubled-plain [] h = refl
doubled-plain (b ∷ bs) h = let both = both_hold (is_file_name_byte b) (list_all is_file_name_byte bs) h in plain_one b bs (is_quote b) refl both.0 (doubled-plain bs both.1)

undoubled_one : (b : ℕ) (bs : List ℕ) (v : Bool) → list_all is_file_name_byte (cond v (b ∷ b ∷ doubled bs) (b ∷ doubled bs)) ≡ true → (is_file_name_byte b ≡ true) × (list_all is_file_name_byte (doubled bs) ≡ true)
undoubled_one b bs true h = let both = both_hold (is_file_name_byte b) (list_all is_file_name_byte (b ∷ doubled bs)) h in both_hold (is_file_name_byte b) (list_all is_file_name_byte (doubled bs)) both.1
undoubled_one b bs false h = both_hold (is_file_name_byte b) (list_all is_file_name_byte (doubled bs)) h

-- where no quote is doubled none stands
doubled-name : (bs : List ℕ) → list_all is_file_name_byte (doubled bs) ≡ true → doubled bs ≡ bs
doubled-name [] h = refl
doubled-name (b ∷ bs) h = let both = undoubled_one b bs (is_quote b) h in plain_one b bs (is_quote b) refl both.0 (doubled-name bs both.1)

any_one : (b : ℕ) (bs : List ℕ) (v : Bool) → is_quote b ≡ v → list_any is_separator (doubled bs) ≡ list_any is_separator bs → list_any is_separator (cond v (b ∷ b ∷ doubled bs) (b ∷ doubled bs)) ≡ list_any is_separator (b ∷ bs)
any_one b bs true quote h = rw (eqb-true b 39 quote, h) refl
any_one b bs false other h = rw h refl

any-doubled : (bs : List ℕ) → list_any is_separator (doubled bs) ≡ list_any is_separator bs
any-doubled [] = refl
any-doubled (b ∷ bs) = any_one b bs (is_quote b) refl (any-doubled bs)

last_two : (any : Bool) (bs : List ℕ) → list_any is_separator bs ≡ any → list_any is_separator (doubled bs) ≡ any → last_part (doubled bs) ≡ doubled (last_part bs)
    → last_part (39 ∷ 39 ∷ doubled bs) ≡ doubled (cond any (last_part bs) (39 ∷ bs))
last_two true bs h i ih = rw i ih
last_two false bs h i ih = rw i refl

last_byte : (any : Bool) (b : ℕ) (bs : List ℕ) → is_quote b ≡ false → (is_separator b || list_any is_separator (doubled bs)) ≡ any → last_part (doubled bs) ≡ doubled (last_part bs)
    → last_part (b ∷ doubled bs) ≡ doubled (cond any (last_part bs) (b ∷ bs))
last_byte true b bs other i ih = rw i ih
last_byte false b bs other i ih = rw (i, other) refl

last_quote : (v : Bool) (b : ℕ) (bs : List ℕ) → is_quote b ≡ v → last_part (doubled bs) ≡ doubled (last_part bs) → last_part (cond v (b ∷ b ∷ doubled bs) (b ∷ doubled bs)) ≡ doubled (last_part (b ∷ bs))
last_quote true b bs quote ih = rw (eqb-true b 39 quote) (last_two (list_any is_separator bs) bs refl (any-doubled bs) ih)
last_quote false b bs other ih = last_byte (is_separator b || list_any is_separator bs) b bs other (ap (λ (any : Bool). is_separator b || any) (any-doubled bs)) ih

-- the last part of a path with its quotes doubled
last_part-doubled : (bs : List ℕ) → last_part (doubled bs) ≡ doubled (last_part bs)
last_part-doubled [] = refl
last_part-doubled (b ∷ bs) = last_quote (is_quote b) b bs refl (last_part-doubled bs)

abbrev each_of : (bs : List ℕ) → IsFileName bs → list_all is_file_name_byte bs ≡ true
each_of bs h = all_pass is_file_name_byte bs (λ i d within. h.each i d within)

-- a text ends with the name of a file, whether its quotes are doubled or not
pub doubled_named : (text : List ℕ) → IsFileName (last_part (doubled text)) → last_part (doubled text) ≡ last_part text
doubled_named text h = last_part-doubled text ∙ doubled-name (last_part text) (each_of (doubled (last_part text)) (subst IsFileName (last_part-doubled text) h))

pub named_doubled : (text : List ℕ) → IsFileName (last_part text) → last_part (doubled text) ≡ last_part text
named_doubled text h = last_part-doubled text ∙ doubled-plain (last_part text) (each_of (last_part text) h)

-- the name of a file that is read where quotes are doubled is that of the text
pub path_of : {E : Type 0} (text bytes : List ℕ) (r : Result (List ℕ) E) → bytes ≡ doubled text → OkIff r (IsFileName (last_part bytes)) (last_part bytes) → SomeIff (result_ok r) (IsFileName (last_part text)) (last_part text)
path_of text bytes (Ok name) e h =
    let named : IsFileName (last_part (doubled text)) = subst (λ (bs : List ℕ). IsFileName (last_part bs)) e h.0 in
    let same : last_part (doubled text) ≡ last_part text = doubled_named text named in
    (subst IsFileName same named, h.1 ∙ ap last_part e ∙ same)
path_of text bytes (Err why) e h = λ named. h (rw (e, named_doubled text named) named)

all_name_bytes : (bs : List ℕ) → IsName bs → list_all is_file_name_byte bs ≡ true
all_name_bytes bs h = all_also is_name_byte is_file_name_byte bs (λ b letter. rw letter refl) (all_pass is_name_byte bs (λ i d within. h.each i d within))

-- the name that is read where quotes are doubled is that of the text
pub name_of : {E : Type 0} (text bytes : List ℕ) (r : Result (List ℕ) E) → bytes ≡ doubled text → OkIff r (IsName bytes) (map to_ascii_lowercase bytes) → SomeIff (result_ok r) (IsName text) (map to_ascii_lowercase text)
name_of text bytes (Ok name) e h =
    let named : IsName (doubled text) = subst IsName e h.0 in
    let same : doubled text ≡ text = doubled-name text (all_name_bytes (doubled text) named) in
    (subst IsName same named, h.1 ∙ ap (map to_ascii_lowercase) (e ∙ same))
name_of text bytes (Err why) e h = λ named. h (rw (e, doubled-plain text (all_name_bytes text named)) named)

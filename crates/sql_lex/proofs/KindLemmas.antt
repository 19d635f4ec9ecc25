-- What kind of token a run is.
use Rattle.std.proofs.Common.{◌≡◌, ℕ, ◌≤◌, Bool, true, false, cond, List, [], ◌∷◌, length, arith, ap, sym, ◌∙◌, refl, inl, inr, ◌⊎◌, subst, map, Option}
use Rattle.std.specs.Prelude.{Some, None, nat_le, pos}
use Rattle.std.specs.Char.{is_ascii_digit, to_ascii_lowercase}
use Rattle.std.proofs.lemmas.Bool.{leb-true, le-leb}
use Rattle.std.proofs.lemmas.Bool.Decides.{nat_tests}
use Rattle.page_base.specs.Name.{IsName, is_name_byte}
use Rattle.sql_lex.specs.declared.keyword.Keyword.{Keyword}
use Rattle.sql_lex.specs.declared.token.Mark.{Mark}
use Rattle.sql_lex.specs.declared.token.TokenKind.{TokenKind}
use Rattle.sql_lex.specs.declared.token.TokenKind.TheVariants as kind
use Rattle.sql_lex.specs.declared.token.TokenKind.TheVariants.{Key, Named, Bracketed, Number, Text, Bad, End}
use Rattle.sql_lex.specs.Words.{text_of, keyword_of}
use Rattle.sql_lex.specs.Tokens.{number_of, IsMark, AreDigits, Spells, IsToken}
use Rattle.sql_lex.specs.Cut.{IsRun, IsWord, number_kind, name_kind, word_kind, run_kind}
use Rattle.sql_lex.proofs.BoolLemmas.{clash}
use Rattle.sql_lex.proofs.RunLemmas.{run_of_digits, run_is_word, word_is_name}
use Rattle.sql_lex.proofs.SignLemmas.{mark_signs}
use Rattle.sql_lex.proofs.WordLemmas.{keyword_found, keyword_has, no_keyword}

-- a digit is among the letters, digits and `_`
pub digit_is_name : (b : ℕ) → is_ascii_digit b ≡ true → is_name_byte b ≡ true
digit_is_name b h = grind (arith, nat_tests)

word_kind_of : (b : ℕ) (bs : List ℕ) → IsName (b ∷ bs) → run_kind (b ∷ bs) ≡ name_kind (map to_ascii_lowercase (b ∷ bs)) (keyword_of (map to_ascii_lowercase (b ∷ bs)))
word_kind_of b bs name =
    let short : nat_le (length (b ∷ bs)) 128 ≡ true = le-leb _ _ name.short in
    rw (name.starts, short) refl

-- a mark doesn't begin as a run does
mark_is_none : (b : ℕ) (bs : List ℕ) (m : Mark) → is_name_byte b ≡ true → IsMark m (b ∷ bs) → ⊥
mark_is_none b bs m letter h = elim (mark_signs m (b ∷ bs) h) [
  | inl one ↦ (let same : b ≡ one.byte = cc (one.is) in clash (is_name_byte b) letter (rw same one.sign.other))
  | inr two ↦ (let same : b ≡ two.first = cc (two.is) in clash (is_name_byte b) letter (rw same two.sign.other))
]

-- what a run spells is the kind that is found
pub only_kind : (b : ℕ) (bs : List ℕ) (k : TokenKind) → is_name_byte b ≡ true → Spells (b ∷ bs) k → run_kind (b ∷ bs) ≡ k
only_kind b bs (Key word) letter h = word_kind_of b bs h.0 ∙ ap (λ (letters : List ℕ). name_kind letters (keyword_of letters)) h.1 ∙ ap (name_kind (text_of word)) (keyword_found word)
only_kind b bs (Named name) letter h = word_kind_of b bs h.0 ∙ ap (λ (letters : List ℕ). name_kind letters (keyword_of letters)) h.1 ∙ ap (name_kind name) (no_keyword name h.2)
only_kind b bs (Number n) letter h = let small : nat_le (number_of (b ∷ bs)) 9223372036854775807 ≡ true = le-leb _ _ h.1 in rw (h.0.0, small, ← h.2) refl
only_kind b bs (Bracketed name) letter (letters, split, is, low) = let same : b ≡ 91 = cc in absurd (clash (is_name_byte b) letter (rw same refl))
only_kind b bs (Text content) letter h = let same : b ≡ 39 = cc (h.0) in absurd (clash (is_name_byte b) letter (rw same refl))
only_kind b bs (kind.Mark m) letter h = absurd (mark_is_none b bs m letter h)
only_kind b bs Bad letter h = absurd h
only_kind b bs End letter h = absurd h

-- the kind is spelled, or bad
abbrev pub Found : List ℕ → TokenKind → Type 0
Found bytes k = Spells bytes k ⊎ (k ≡ Bad)

either_found : (bytes : List ℕ) (v : Bool) (j k : TokenKind) → (v ≡ true → Found bytes j) → (v ≡ false → Found bytes k) → Found bytes (cond v j k)
either_found bytes true j k h i = h refl
either_found bytes false j k h i = i refl

number_found : (bytes : List ℕ) → AreDigits bytes → Found bytes (number_kind (number_of bytes))
number_found bytes digits = either_found bytes (nat_le (number_of bytes) 9223372036854775807) _ _ (λ small. inl (digits, leb-true _ _ small, refl)) (λ large. inr refl)

name_spelled : (bytes : List ℕ) (o : Option Keyword) → IsName bytes → keyword_of (map to_ascii_lowercase bytes) ≡ o → Spells bytes (name_kind (map to_ascii_lowercase bytes) o)
name_spelled bytes None name e = (name, refl, (λ word same. let found : keyword_of (map to_ascii_lowercase bytes) ≡ Some word = ap keyword_of same ∙ keyword_found word in cc))
name_spelled bytes (Some word) name e = (name, keyword_has (map to_ascii_lowercase bytes) word e)

word_found : (bytes : List ℕ) → IsWord bytes → Found bytes (word_kind bytes)
word_found bytes word = either_found bytes (nat_le (length bytes) 128) _ _
    (λ short. inl (name_spelled bytes (keyword_of (map to_ascii_lowercase bytes)) (word_is_name bytes word (leb-true _ _ short)) refl)) (λ long. inr refl)

-- the kind of a run is spelled, or bad
pub found_kind : (b : ℕ) (bs : List ℕ) → IsRun (b ∷ bs) → Found (b ∷ bs) (run_kind (b ∷ bs))
found_kind b bs run = either_found (b ∷ bs) (is_ascii_digit b) _ _
    (λ digit. number_found (b ∷ bs) (digit, run_of_digits (b ∷ bs) digit run)) (λ other. word_found (b ∷ bs) (run_is_word (b ∷ bs) other run))

pub good_token : (bytes : List ℕ) (k : TokenKind) → Spells bytes k → IsToken bytes k
good_token bytes (Key word) h = h
good_token bytes (Named name) h = h
good_token bytes (Bracketed name) h = h
good_token bytes (Number n) h = h
good_token bytes (Text content) h = h
good_token bytes (kind.Mark m) h = h
good_token bytes Bad h = absurd h
good_token bytes End h = absurd h

bad_token : (b : ℕ) (bs : List ℕ) → IsRun (b ∷ bs) → run_kind (b ∷ bs) ≡ Bad → IsToken (b ∷ bs) Bad
bad_token b bs run bad = λ other h. let same : other ≡ Bad = sym (only_kind b bs other run.0 h) ∙ bad in subst (Spells (b ∷ bs)) same h

is_token : (b : ℕ) (bs : List ℕ) (k : TokenKind) → IsRun (b ∷ bs) → run_kind (b ∷ bs) ≡ k → Found (b ∷ bs) k → IsToken (b ∷ bs) k
is_token b bs k run same (inl h) = good_token (b ∷ bs) k h
is_token b bs k run same (inr bad) = subst (IsToken (b ∷ bs)) (sym bad) (bad_token b bs run (same ∙ bad))

-- a run is a token of the kind that is found
pub run_token : (b : ℕ) (bs : List ℕ) → IsRun (b ∷ bs) → IsToken (b ∷ bs) (run_kind (b ∷ bs))
run_token b bs run = is_token b bs _ run refl (found_kind b bs run)

bad_run : (b : ℕ) (bs : List ℕ) → IsToken (b ∷ bs) Bad → Found (b ∷ bs) (run_kind (b ∷ bs)) → run_kind (b ∷ bs) ≡ Bad
bad_run b bs bad (inl h) = absurd (bad _ h)
bad_run b bs bad (inr h) = h

-- and of no other
pub token_run : (b : ℕ) (bs : List ℕ) (k : TokenKind) → IsRun (b ∷ bs) → IsToken (b ∷ bs) k → run_kind (b ∷ bs) ≡ k
token_run b bs (Key word) run h = only_kind b bs (Key word) run.0 h
token_run b bs (Named name) run h = only_kind b bs (Named name) run.0 h
token_run b bs (Bracketed name) run h = only_kind b bs (Bracketed name) run.0 h
token_run b bs (Number n) run h = only_kind b bs (Number n) run.0 h
token_run b bs (Text content) run h = only_kind b bs (Text content) run.0 h
token_run b bs (kind.Mark m) run h = only_kind b bs (kind.Mark m) run.0 h
token_run b bs Bad run h = bad_run b bs h (found_kind b bs run)
token_run b bs End run h = absurd h

single_number : (b : ℕ) → is_ascii_digit b ≡ true → number_of (b ∷ []) ≤ 9223372036854775807
single_number b digit = grind (arith, nat_tests)

single_one : (v : Bool) (b : ℕ) → is_ascii_digit b ≡ v → is_name_byte b ≡ true → (k : TokenKind) × Spells (b ∷ []) k
single_one true b digit letter = (Number (pos (number_of (b ∷ []))), ((digit, rw digit refl), single_number b digit, refl))
single_one false b other letter = (name_kind (map to_ascii_lowercase (b ∷ [])) (keyword_of (map to_ascii_lowercase (b ∷ []))), name_spelled (b ∷ []) _ (word_is_name (b ∷ []) (other, letter, refl) (omega arith)) refl)

-- a letter, digit or `_` alone spells a token
pub single_spelled : (b : ℕ) → is_name_byte b ≡ true → (k : TokenKind) × Spells (b ∷ []) k
single_spelled b letter = single_one (is_ascii_digit b) b refl letter

-- Bytes for tokens.
use Rattle.std.proofs.Common.{◌≡◌, ℕ, suc, ◌+◌, Bool, true, false, List, [], ◌∷◌, ◌++◌, length, arith, ap, ◌∙◌, refl, subst, inl, inr, ◌⊎◌, map}
use Rattle.std.specs.Prelude.{not, Some, Option}
use Rattle.std.specs.List.{list_all}
use Rattle.std.specs.Char.{is_ascii_digit, to_ascii_lowercase}
use Rattle.page_base.specs.Name.{IsName, is_name_byte}
use Rattle.sql_lex.specs.declared.token.Mark.{Mark}
use Rattle.sql_lex.specs.declared.token.Token.{Token}
use Rattle.sql_lex.specs.declared.token.TokenKind.{TokenKind}
use Rattle.sql_lex.specs.declared.token.TokenKind.TheVariants as kind
use Rattle.sql_lex.specs.declared.token.TokenKind.TheVariants.{Key, Named, Bracketed, Number, Text, Bad, End}
use Rattle.sql_lex.specs.Texts.{quoted}
use Rattle.sql_lex.specs.Tokens.{goes_on, IsMark, in_brackets, AreDigits, Spells, IsToken, token, IsPiece, white, line, comment, word, text, bracketed, pair, mark, open_text, open_comment, stray, Lexes, end, blank, next, kinds, is_end}
use Rattle.sql_lex.proofs.BoolLemmas.{both_hold}
use Rattle.sql_lex.proofs.RunLemmas.{all_same, all_pass}
use Rattle.sql_lex.proofs.SignLemmas.{mark_signs, one_mark, two_mark, alone_sign}
use Rattle.sql_lex.proofs.KindLemmas.{good_token, digit_is_name}

-- there are bytes for each of the tokens
abbrev pub AreSpelled : List TokenKind → Type 0
AreSpelled [] = Unit {0}
AreSpelled (k ∷ ks) = ((k ≡ End) ⊎ ((bytes : List ℕ) × Spells bytes k)) × AreSpelled ks

pub spelled_front : (front rest : List TokenKind) → AreSpelled (front ++ rest) → AreSpelled front
spelled_front [] rest h = tt
spelled_front (k ∷ front) rest h = (h.0, spelled_front front rest h.1)

pub spelled_rest : (front rest : List TokenKind) → AreSpelled (front ++ rest) → AreSpelled rest
spelled_rest [] rest h = h
spelled_rest (k ∷ front) rest h = spelled_rest front rest h.1

pub spelled_both : (front rest : List TokenKind) → AreSpelled front → AreSpelled rest → AreSpelled (front ++ rest)
spelled_both [] rest h i = i
spelled_both (k ∷ front) rest h i = (h.0, spelled_both front rest h.1 i)

-- bytes of which the tokens from a place on are these
abbrev pub AreWritten : ℕ → List TokenKind → Type 0
AreWritten at ks = (bytes : List ℕ) × (ts : List Token) × Lexes at bytes ts × (kinds ts ≡ ks)

name_stands : (bytes rest : List ℕ) (k : TokenKind) → IsName bytes → Spells bytes k → IsPiece bytes (32 ∷ rest) (Some k)
name_stands [] rest k name h = absurd (omega (arith, name.some))
name_stands (b ∷ bs) rest k name h =
    let letter : is_name_byte b ≡ true = name.each 0 0 (omega arith) in
    let all : list_all (goes_on b) bs ≡ true = all_same (goes_on b) is_name_byte bs (λ c. rw (letter, name.starts) refl) ∙ all_pass is_name_byte bs (λ i d within. name.each (suc i) d (omega (arith, within))) in
    word b bs (32 ∷ rest) k letter all (rw (letter, name.starts) refl) (good_token (b ∷ bs) k h)

digits_stand : (bytes rest : List ℕ) (k : TokenKind) → AreDigits bytes → Spells bytes k → IsPiece bytes (32 ∷ rest) (Some k)
digits_stand [] rest k digits h = cc (digits.0)
digits_stand (b ∷ bs) rest k digits h =
    let all : list_all (goes_on b) bs ≡ true = all_same (goes_on b) is_ascii_digit bs (λ c. rw digits.0 refl) ∙ (rw digits.0 at digits.1) in
    word b bs (32 ∷ rest) k (digit_is_name b digits.0) all (rw digits.0 refl) (good_token (b ∷ bs) k h)

mark_stands : (m : Mark) (bytes rest : List ℕ) → IsMark m bytes → IsPiece bytes (32 ∷ rest) (Some (kind.Mark m))
mark_stands m bytes rest h = elim (mark_signs m bytes h) [
  | inl one ↦ rw one.is (mark one.byte (32 ∷ rest) m (one_mark one.byte m one.found) (alone_sign one.byte))
  | inr two ↦ rw two.is (pair two.first two.second (32 ∷ rest) m (two_mark two.first two.second m two.found))
]

-- bytes that spell a token are one before a space
pub spelled_stands : (bytes rest : List ℕ) (k : TokenKind) → Spells bytes k → IsPiece bytes (32 ∷ rest) (Some k)
spelled_stands bytes rest (Key w) h = name_stands bytes rest (Key w) h.0 h
spelled_stands bytes rest (Named name) h = name_stands bytes rest (Named name) h.0 h
spelled_stands bytes rest (Number n) h = digits_stand bytes rest (Number n) h.0 h
spelled_stands bytes rest (Text content) h = rw h.0 (text content (32 ∷ rest) h.1 refl)
spelled_stands bytes rest (Bracketed name) (letters, split, is, low) = rw (split, ← low) (bracketed letters (32 ∷ rest) is)
spelled_stands bytes rest (kind.Mark m) h = mark_stands m bytes rest h
spelled_stands bytes rest Bad h = absurd h
spelled_stands bytes rest End h = absurd h

-- a token and a space before other bytes
write_token : (at : ℕ) (bytes : List ℕ) (k : TokenKind) (ks : List TokenKind) → Spells bytes k → ((from : ℕ) → AreWritten from ks) → AreWritten at (k ∷ ks)
write_token at bytes k ks h more =
    let place : ℕ = at + length bytes in
    let (others, ts, lexes, same) = more (place + 1) in
    (bytes ++ 32 ∷ others, token at k ∷ ts, next at bytes (32 ∷ others) k ts (spelled_stands bytes others k h) (blank place (32 ∷ []) others ts (white 32 others refl) lexes), ap (λ (js : List TokenKind). k ∷ js) same)

-- no end is among them
abbrev pub no_end : List TokenKind → Bool
no_end ks = list_all (λ k. not (is_end k)) ks

-- bytes for tokens before others
pub write_front : (front rest : List TokenKind) → no_end front ≡ true → AreSpelled front → ((from : ℕ) → AreWritten from rest) → (at : ℕ) → AreWritten at (front ++ rest)
write_front [] rest ends h more at = more at
write_front (k ∷ front) rest ends h more at =
    let both = both_hold (not (is_end k)) (no_end front) ends in
    elim h.0 [
      | inl e ↦ (let last : not (is_end k) ≡ false = rw e refl in cc)
      | inr found ↦ write_token at found.0 k (front ++ rest) found.1 (λ from. write_front front rest both.1 h.1 more from)
    ]

-- bytes for the end alone
pub write_end : (at : ℕ) → AreWritten at (End ∷ [])
write_end at = ([], token at End ∷ [], end at, refl)

-- a token of a batch is spelled, or it is bad or the end
abbrev pub IsCut : TokenKind → Type 0
IsCut k = (k ≡ Bad) ⊎ ((k ≡ End) ⊎ ((bytes : List ℕ) × Spells bytes k))

abbrev pub AreCut : List TokenKind → Type 0
AreCut [] = Unit {0}
AreCut (k ∷ ks) = IsCut k × AreCut ks

cut_token : (bytes : List ℕ) (k : TokenKind) → IsToken bytes k → IsCut k
cut_token bytes Bad h = inl refl
cut_token bytes End h = absurd h
cut_token bytes (Key w) h = inr (inr (bytes, h))
cut_token bytes (Named name) h = inr (inr (bytes, h))
cut_token bytes (Bracketed name) h = inr (inr (bytes, h))
cut_token bytes (Number n) h = inr (inr (bytes, h))
cut_token bytes (Text content) h = inr (inr (bytes, h))
cut_token bytes (kind.Mark m) h = inr (inr (bytes, h))

same_cut : (j k : TokenKind) → Some j ≡ Some k → IsCut j → IsCut k
same_cut j k e h = let same : j ≡ k = cc in subst IsCut same h

cut_piece : (front rest : List ℕ) (what : Option TokenKind) (k : TokenKind) → IsPiece front rest what → what ≡ Some k → IsCut k
cut_piece front rest what k (white b _ h) e = cc
cut_piece front rest what k (line more _ all stop) e = cc
cut_piece front rest what k (comment inside _ h) e = cc
cut_piece front rest what k (word first more _ other letter all stop is) e = same_cut other k e (cut_token (first ∷ more) other is)
cut_piece front rest what k (text content _ all stop) e = same_cut (Text content) k e (inr (inr (quoted content, (refl, all))))
cut_piece front rest what k (bracketed letters _ name) e = same_cut (Bracketed (map to_ascii_lowercase letters)) k e (inr (inr (in_brackets letters, (letters, refl, name, refl))))
cut_piece front rest what k (pair b c _ m is) e = same_cut (kind.Mark m) k e (inr (inr (b ∷ c ∷ [], is)))
cut_piece front rest what k (mark b _ m is alone) e = same_cut (kind.Mark m) k e (inr (inr (b ∷ [], is)))
cut_piece front rest what k (open_text more h) e = same_cut Bad k e (inl refl)
cut_piece front rest what k (open_comment more h) e = same_cut Bad k e (inl refl)
cut_piece front rest what k (stray b _ dark plain alone lost) e = same_cut Bad k e (inl refl)

-- tokens of a batch are spelled, but for bad ones
pub cut_kinds : (at : ℕ) (bytes : List ℕ) (ts : List Token) → Lexes at bytes ts → AreCut (kinds ts)
cut_kinds at bytes ts (end from) = (inr (inl refl), tt)
cut_kinds at bytes ts (blank from front rest us is h) = cut_kinds (from + length front) rest us h
cut_kinds at bytes ts (next from front rest k us is h) = (cut_piece front rest (Some k) k is refl, cut_kinds (from + length front) rest us h)

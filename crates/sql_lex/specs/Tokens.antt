-- The tokens of a batch, and where they stand.
use Rattle.std.specs.Prelude.{ℕ, ◌+◌, ◌*◌, ◌-◌, ◌≤◌, ◌≡◌, ◌≢◌, Bool, true, false, ◌==◌, ◌||◌, ◌&&◌, if◌then◌else◌, List, [], ◌∷◌, ◌++◌, length, map, pos, codes, ◌⊎◌, Option, Some, None}
use Rattle.std.specs.List.{list_all}
use Rattle.std.specs.Char.{to_ascii_lowercase, is_ascii_digit}
use Rattle.page_base.specs.Name.{IsName, is_name_byte}
use Rattle.sql_lex.specs.declared.keyword.Keyword.{Keyword}
use Rattle.sql_lex.specs.declared.token.Mark.{Mark}
use Rattle.sql_lex.specs.declared.token.Mark.TheVariants.{NotEqual}
use Rattle.sql_lex.specs.declared.token.Token.{Token}
use Rattle.sql_lex.specs.declared.token.TokenKind.{TokenKind}
use Rattle.sql_lex.specs.declared.token.TokenKind.TheVariants as kind
use Rattle.sql_lex.specs.Words.{text_of, sign_of}
use Rattle.sql_lex.specs.Texts.{is_quote, is_printable, quoted}
use Rattle.sql_lex.specs.Comments.{is_in_line, Closes, IsOpen}

-- space, tab and line feed
abbrev pub is_white : ℕ → Bool
is_white b = (b == 32 || b == 9) || b == 10

-- whether a byte goes on with the token that began with another: a digit with digits, a letter or `_` with those and digits
abbrev pub goes_on : ℕ → ℕ → Bool
goes_on first b = if is_ascii_digit first then is_ascii_digit b else (is_name_byte first && is_name_byte b)

-- whether the bytes begin with one that passes the test
abbrev pub starts : (ℕ → Bool) → List ℕ → Bool
starts test [] = false
starts test (b ∷ bs) = test b

-- the number that digits spell behind those of another number
abbrev pub number_behind : ℕ → List ℕ → ℕ
number_behind n [] = n
number_behind n (d ∷ ds) = number_behind (n * 10 + (d - 48)) ds

-- the number that digits spell
abbrev pub number_of : List ℕ → ℕ
number_of digits = number_behind 0 digits

-- two signs that are one: a mark of two bytes, or the opening of a comment
abbrev pub is_pair : ℕ → ℕ → Bool
is_pair b c = if b == 60 then (c == 61 || c == 62) else (if b == 62 || b == 33 then c == 61 else (if b == 45 then c == 45 else (b == 47 && c == 42)))

-- the bytes are the mark
abbrev pub IsMark : Mark → List ℕ → Type 0
IsMark NotEqual bytes = (bytes ≡ codes "<>") ⊎ (bytes ≡ codes "!=")
IsMark mark bytes = bytes ≡ sign_of mark

-- a name in brackets
abbrev pub in_brackets : List ℕ → List ℕ
in_brackets letters = 91 ∷ (letters ++ 93 ∷ [])

-- one or more digits
abbrev pub AreDigits : List ℕ → Type 0
AreDigits bytes = (starts is_ascii_digit bytes ≡ true) × (list_all is_ascii_digit bytes ≡ true)

-- The bytes spell a token that has a place in the grammar: a reserved word in any case, another name or any name in brackets,
-- which is kept in lower case, a number of at most 9223372036854775807, a text in quotes, or a mark.
abbrev pub Spells : List ℕ → TokenKind → Type 0
Spells bytes (kind.Key word) = IsName bytes × (map to_ascii_lowercase bytes ≡ text_of word)
Spells bytes (kind.Named name) = IsName bytes × (map to_ascii_lowercase bytes ≡ name) × ((word : Keyword) → name ≢ text_of word)
Spells bytes (kind.Bracketed name) = (letters : List ℕ) × (bytes ≡ in_brackets letters) × IsName letters × (map to_ascii_lowercase letters ≡ name)
Spells bytes (kind.Number n) = AreDigits bytes × (number_of bytes ≤ 9223372036854775807) × (n ≡ pos (number_of bytes))
Spells bytes (kind.Text text) = (bytes ≡ quoted text) × (list_all is_printable text ≡ true)
Spells bytes (kind.Mark mark) = IsMark mark bytes
Spells bytes kind.Bad = ⊥
Spells bytes kind.End = ⊥

-- the bytes are a token of this kind, a bad one where they spell no other
abbrev pub IsToken : List ℕ → TokenKind → Type 0
IsToken bytes kind.Bad = (other : TokenKind) → Spells bytes other → ⊥
IsToken bytes what = Spells bytes what

-- no token is spelled by bytes in front
abbrev pub IsStray : List ℕ → Type 0
IsStray bytes = (front rest : List ℕ) (what : TokenKind) → Spells front what → bytes ≡ front ++ rest → ⊥

-- a text that isn't closed begins here: no text in quotes stands in front, behind which no quote follows
abbrev pub IsUnclosed : List ℕ → Type 0
IsUnclosed bytes = (text rest : List ℕ) → list_all is_printable text ≡ true → starts is_quote rest ≡ false → bytes ≡ quoted text ++ rest → ⊥

-- What stands in front of other bytes: white space or a comment, which are no token, or a token. Each is as long as it can be.
-- A text or a comment that isn't closed is a bad token with all bytes that are left.
pub data IsPiece : List ℕ → List ℕ → Option TokenKind → Type 0 where
  white : (b : ℕ) (rest : List ℕ) → is_white b ≡ true → IsPiece (b ∷ []) rest None
  line : (more rest : List ℕ) → list_all is_in_line more ≡ true → starts is_in_line rest ≡ false → IsPiece (45 ∷ 45 ∷ more) rest None
  comment : (inside rest : List ℕ) → Closes 1 inside → IsPiece (47 ∷ 42 ∷ inside) rest None
  word : (first : ℕ) (more rest : List ℕ) (what : TokenKind) → is_name_byte first ≡ true → list_all (goes_on first) more ≡ true → starts (goes_on first) rest ≡ false
      → IsToken (first ∷ more) what → IsPiece (first ∷ more) rest (Some what)
  text : (content rest : List ℕ) → list_all is_printable content ≡ true → starts is_quote rest ≡ false → IsPiece (quoted content) rest (Some (kind.Text content))
  bracketed : (letters rest : List ℕ) → IsName letters → IsPiece (in_brackets letters) rest (Some (kind.Bracketed (map to_ascii_lowercase letters)))
  pair : (b c : ℕ) (rest : List ℕ) (mark : Mark) → IsMark mark (b ∷ c ∷ []) → IsPiece (b ∷ c ∷ []) rest (Some (kind.Mark mark))
  mark : (b : ℕ) (rest : List ℕ) (mark : Mark) → IsMark mark (b ∷ []) → starts (is_pair b) rest ≡ false → IsPiece (b ∷ []) rest (Some (kind.Mark mark))
  open_text : (more : List ℕ) → IsUnclosed (39 ∷ more) → IsPiece (39 ∷ more) [] (Some kind.Bad)
  open_comment : (more : List ℕ) → IsOpen more → IsPiece (47 ∷ 42 ∷ more) [] (Some kind.Bad)
  stray : (b : ℕ) (rest : List ℕ) → is_white b ≡ false → is_quote b ≡ false → starts (is_pair b) rest ≡ false → IsStray (b ∷ rest) → IsPiece (b ∷ []) rest (Some kind.Bad)

-- a token of this kind at a place
abbrev pub token : ℕ → TokenKind → Token
token at what = record { at = at; kind = what }

-- the bytes from this place on are these tokens, and the end
pub data Lexes : ℕ → List ℕ → List Token → Type 0 where
  end : (at : ℕ) → Lexes at [] (token at kind.End ∷ [])
  blank : (at : ℕ) (front rest : List ℕ) (ts : List Token) → IsPiece front rest None → Lexes (at + length front) rest ts → Lexes at (front ++ rest) ts
  next : (at : ℕ) (front rest : List ℕ) (what : TokenKind) (ts : List Token) → IsPiece front rest (Some what) → Lexes (at + length front) rest ts
      → Lexes at (front ++ rest) (token at what ∷ ts)

-- what each token is
abbrev pub kinds : List Token → List TokenKind
kinds ts = map (λ t. t.kind) ts

-- whether it is the end
abbrev pub is_end : TokenKind → Bool
is_end kind.End = true
is_end _ = false

-- How the piece in front of some bytes is found, and the tokens behind it.
use Rattle.std.specs.List.{list_all, prefix_len}
use Rattle.std.specs.Prelude.{◌≡◌, ◌≤◌, ◌<◌, true, false, ℕ, zero, suc, ◌+◌, ◌-◌, Bool, ◌==◌, ◌&&◌, nat_le, if◌then◌else◌, List, [], ◌∷◌, length, map, take, drop, pos, Option, Some, None}
use Rattle.std.specs.Char.{to_ascii_lowercase, is_ascii_digit}
use Rattle.page_base.specs.Name.{is_name_byte}
use Rattle.sql_lex.specs.declared.keyword.Keyword.{Keyword}
use Rattle.sql_lex.specs.declared.token.Mark.{Mark}
use Rattle.sql_lex.specs.declared.token.Mark.TheVariants as sign
use Rattle.sql_lex.specs.declared.token.Token.{Token}
use Rattle.sql_lex.specs.declared.token.TokenKind.{TokenKind}
use Rattle.sql_lex.specs.declared.token.TokenKind.TheVariants as kind
use Rattle.sql_lex.specs.declared.token.TokenKind.TheVariants.{Key, Named, Bracketed, Number, Text, Bad, End}
use Rattle.sql_lex.specs.Words.{keyword_of}
use Rattle.sql_lex.specs.Texts.{is_quote, undoubled, text_end, is_name}
use Rattle.sql_lex.specs.Comments.{is_in_line, comment_end}
use Rattle.sql_lex.specs.Tokens.{is_white, goes_on, starts, number_of, token}

-- a token of some kind, or none, and how many bytes it has
abbrev pub Piece : Type 0
Piece = Option TokenKind × ℕ

-- a number token, bad where the number is too large
abbrev pub number_kind : ℕ → TokenKind
number_kind n = if nat_le n 9223372036854775807 then Number (pos n) else Bad

-- a reserved word or another name
abbrev pub name_kind : List ℕ → Option Keyword → TokenKind
name_kind name None = Named name
name_kind name (Some word) = Key word

-- the kind of letters, digits and `_`, bad where there are too many
abbrev pub word_kind : List ℕ → TokenKind
word_kind bytes = if nat_le (length bytes) 128 then name_kind (map to_ascii_lowercase bytes) (keyword_of (map to_ascii_lowercase bytes)) else Bad

-- digits, or letters, digits and `_`
abbrev pub IsRun : List ℕ → Type 0
IsRun [] = ⊥
IsRun (b ∷ bs) = (is_name_byte b ≡ true) × (list_all (goes_on b) bs ≡ true)

-- a letter or `_`, and the letters, digits and `_` behind it
abbrev pub IsWord : List ℕ → Type 0
IsWord [] = ⊥
IsWord (b ∷ bs) = (is_ascii_digit b ≡ false) × (is_name_byte b ≡ true) × (list_all is_name_byte bs ≡ true)

-- the kind of a run
abbrev pub run_kind : List ℕ → TokenKind
run_kind [] = Bad
run_kind (b ∷ bs) = if is_ascii_digit b then number_kind (number_of (b ∷ bs)) else word_kind (b ∷ bs)

-- so many bytes are a run
abbrev pub run_piece : List ℕ → ℕ → Piece
run_piece bytes len = (Some (run_kind (take len bytes)), len)

-- a text that ends so many bytes behind its opening quote, a bad token where it isn't closed
abbrev pub text_piece : List ℕ → Option ℕ → Piece
text_piece bs None = (Some Bad, length bs + 1)
text_piece bs (Some n) = (Some (Text (undoubled (take (n - 1) bs))), n + 1)

-- a closing bracket
abbrev pub is_bracket : ℕ → Bool
is_bracket b = b == 93

-- an opening bracket and a name of so many bytes behind it, a bad token where no closing one follows
abbrev pub closed_name : List ℕ → ℕ → Bool → Piece
closed_name name len closed = if closed then (Some (Bracketed name), len + 2) else (Some Bad, 1)

-- an opening bracket with these letters and then these bytes behind it
abbrev pub bracket_piece : List ℕ → List ℕ → Piece
bracket_piece letters rest = if is_name letters then closed_name (map to_ascii_lowercase letters) (length letters) (starts is_bracket rest) else (Some Bad, 1)

-- the mark of one byte
abbrev pub mark_of_one : ℕ → Option Mark
mark_of_one b = if b == 40 then Some sign.Open else (if b == 41 then Some sign.Close else (if b == 44 then Some sign.Comma else (if b == 59 then Some sign.Semicolon else (if b == 46 then Some sign.Dot else (if b == 42 then Some sign.Star else (if b == 43 then Some sign.Plus else (if b == 45 then Some sign.Minus else (if b == 61 then Some sign.Equal else (if b == 60 then Some sign.Less else (if b == 62 then Some sign.Greater else None))))))))))

-- the mark of two bytes
abbrev pub mark_of_two : ℕ → ℕ → Option Mark
mark_of_two b c =
    if b == 60 then (if c == 61 then Some sign.AtMost else (if c == 62 then Some sign.NotEqual else None))
    else (if b == 62 then (if c == 61 then Some sign.AtLeast else None) else (if b == 33 then (if c == 61 then Some sign.NotEqual else None) else None))

-- a mark of one byte, a bad token where it is none
abbrev pub mark_piece : Option Mark → Piece
mark_piece None = (Some Bad, 1)
mark_piece (Some mark) = (Some (kind.Mark mark), 1)

-- a mark of two bytes, or else of the first
abbrev pub pair_piece : ℕ → Option Mark → Piece
pair_piece b None = mark_piece (mark_of_one b)
pair_piece b (Some mark) = (Some (kind.Mark mark), 2)

-- a comment that ends so many bytes behind its opening, a bad token where it isn't closed
abbrev pub comment_piece : List ℕ → Option ℕ → Piece
comment_piece bs None = (Some Bad, length bs + 2)
comment_piece bs (Some n) = (None, n + 2)

-- a comment or a mark
abbrev pub sign_piece : ℕ → List ℕ → Piece
sign_piece b [] = mark_piece (mark_of_one b)
sign_piece b (c ∷ cs) =
    if b == 45 && c == 45 then (None, prefix_len is_in_line cs + 2)
    else (if b == 47 && c == 42 then comment_piece cs (comment_end 0 0 0 cs) else pair_piece b (mark_of_two b c))

-- how many letters, digits and `_` stand in front
abbrev pub name_len : List ℕ → ℕ
name_len bytes = prefix_len is_name_byte bytes

-- the piece in front, the end where there are no bytes
abbrev pub piece_of : List ℕ → Piece
piece_of [] = (Some End, 0)
piece_of (b ∷ bs) =
    if is_white b then (None, 1)
    else (if is_name_byte b then run_piece (b ∷ bs) (prefix_len (goes_on b) bs + 1)
    else (if is_quote b then text_piece bs (text_end false 0 bs)
    else (if b == 91 then bracket_piece (take (name_len bs) bs) (drop (name_len bs) bs) else sign_piece b bs)))

-- white space and comments add no token
abbrev pub put : ℕ → Option TokenKind → List Token → List Token
put at None ts = ts
put at (Some kind) ts = token at kind ∷ ts

-- the tokens of bytes that stand at a place, of which the first ones belong to a piece before
unfoldable pub cut : ℕ → ℕ → List ℕ → List Token
cut before at [] = token at End ∷ []
cut (suc before) at (b ∷ bs) = cut before (at + 1) bs
cut zero at (b ∷ bs) = put at (piece_of (b ∷ bs)).0 (cut ((piece_of (b ∷ bs)).1 - 1) (at + 1) bs)

-- nothing stands behind the end
abbrev pub behind : TokenKind → List Token → List Token
behind End ts = []
behind kind ts = ts

-- the tokens of a batch from a place on
unfoldable pub tokens_from : List ℕ → ℕ → List Token
tokens_from batch at = cut 0 at (drop at batch)

-- a place is within a batch, whose places fit 32 bits
pub record IsWithin (at : ℕ) (batch : List ℕ) : Type 0 where
  pub within : at ≤ length batch
  pub short : length batch < 4294967295

-- The tokens that a batch is cut into have printable texts, and an end.
use Rattle.std.specs.Prelude.{Option, Some, None}
use Rattle.std.proofs.Common.{◌≡◌, ℕ, ◌+◌, true, List, [], ◌∷◌, length, ap, refl}
use Rattle.sql_lex.specs.declared.token.Token.{Token}
use Rattle.sql_lex.specs.declared.token.TokenKind.{TokenKind}
use Rattle.sql_lex.specs.declared.token.TokenKind.TheVariants as kind
use Rattle.sql_lex.specs.Tokens.{IsToken, IsPiece, white, line, comment, word, text, bracketed, pair, mark, open_text, open_comment, stray, Lexes, end, blank, next}
use Rattle.sql_expr.specs.Laws.{HasEnd, is_printed, are_printed}

token_printed : (bytes : List ℕ) (what : TokenKind) → IsToken bytes what → is_printed what ≡ true
token_printed bytes (kind.Text content) h = h.1
token_printed bytes (kind.Key w) h = refl
token_printed bytes (kind.Named name) h = refl
token_printed bytes (kind.Bracketed name) h = refl
token_printed bytes (kind.Number n) h = refl
token_printed bytes (kind.Mark m) h = refl
token_printed bytes kind.Bad h = refl
token_printed bytes kind.End h = refl

abbrev IsPrintedOption : Option TokenKind → Type 0
IsPrintedOption None = Unit {0}
IsPrintedOption (Some what) = is_printed what ≡ true

piece_printed : (front rest : List ℕ) (o : Option TokenKind) → IsPiece front rest o → IsPrintedOption o
piece_printed _ _ _ (white b rest w) = tt
piece_printed _ _ _ (line more rest a s) = tt
piece_printed _ _ _ (comment inside rest c) = tt
piece_printed _ _ _ (word first more rest what n a s t) = token_printed (first ∷ more) what t
piece_printed _ _ _ (text content rest p q) = p
piece_printed _ _ _ (bracketed letters rest n) = refl
piece_printed _ _ _ (pair b c rest m i) = refl
piece_printed _ _ _ (mark b rest m i s) = refl
piece_printed _ _ _ (open_text more u) = refl
piece_printed _ _ _ (open_comment more o) = refl
piece_printed _ _ _ (stray b rest w q p s) = refl

pub batch_printed : (at : ℕ) (batch : List ℕ) (ts : List Token) → Lexes at batch ts → are_printed ts ≡ true
batch_printed _ _ _ (end at) = refl
batch_printed _ _ _ (blank at front rest ts p h) = batch_printed (at + length front) rest ts h
batch_printed _ _ _ (next at front rest what ts p h) = rw (piece_printed front rest (Some what) p) (batch_printed (at + length front) rest ts h)

ends_later : (t : Token) (ts : List Token) → HasEnd ts → HasEnd (t ∷ ts)
ends_later t ts h = record { front = t ∷ h.front; token = h.token; others = h.others; split = ap (λ (zs : List Token). t ∷ zs) h.split; other = h.other }

pub batch_ends : (at : ℕ) (batch : List ℕ) (ts : List Token) → Lexes at batch ts → HasEnd ts
batch_ends _ _ _ (end at) = record { front = []; token = record { at = at; kind = kind.End }; others = []; split = refl; other = refl }
batch_ends _ _ _ (blank at front rest ts p h) = batch_ends (at + length front) rest ts h
batch_ends _ _ _ (next at front rest what ts p h) = ends_later (record { at = at; kind = what }) ts (batch_ends (at + length front) rest ts h)

-- The tokens of a batch end once.
use Rattle.std.proofs.Common.{◌≡◌, ℕ, ◌+◌, false, List, [], ◌∷◌, ◌++◌, length, arith, ap, refl, subst, length-append, add-zero}
use Rattle.std.specs.Prelude.{Some, Option}
use Rattle.sql_lex.specs.declared.token.Token.{Token}
use Rattle.sql_lex.specs.declared.token.TokenKind.{TokenKind}
use Rattle.sql_lex.specs.declared.token.TokenKind.TheVariants as kind
use Rattle.sql_lex.specs.declared.token.TokenKind.TheVariants.{End}
use Rattle.sql_lex.specs.Tokens.{token, IsToken, IsPiece, white, line, comment, word, text, bracketed, pair, mark, open_text, open_comment, stray, Lexes, end, blank, next, is_end}
use Rattle.sql_lex.specs.Laws.{EndsOnce}

token_no_end : (bytes : List ℕ) (k : TokenKind) → IsToken bytes k → is_end k ≡ false
token_no_end bytes kind.Bad h = refl
token_no_end bytes End h = absurd h
token_no_end bytes (kind.Key w) h = refl
token_no_end bytes (kind.Named name) h = refl
token_no_end bytes (kind.Bracketed name) h = refl
token_no_end bytes (kind.Number n) h = refl
token_no_end bytes (kind.Text content) h = refl
token_no_end bytes (kind.Mark m) h = refl

same_end : (j k : TokenKind) → Some j ≡ Some k → is_end j ≡ false → is_end k ≡ false
same_end j k e h = let same : j ≡ k = cc in subst (λ (i : TokenKind). is_end i ≡ false) same h

piece_no_end : (front rest : List ℕ) (what : Option TokenKind) (k : TokenKind) → IsPiece front rest what → what ≡ Some k → is_end k ≡ false
piece_no_end front rest what k (white b _ h) e = cc
piece_no_end front rest what k (line more _ all stop) e = cc
piece_no_end front rest what k (comment inside _ h) e = cc
piece_no_end front rest what k (word first more _ other letter all stop is) e = same_end other k e (token_no_end (first ∷ more) other is)
piece_no_end front rest what k (text content _ all stop) e = same_end _ k e refl
piece_no_end front rest what k (bracketed letters _ name) e = same_end _ k e refl
piece_no_end front rest what k (pair b c _ m is) e = same_end _ k e refl
piece_no_end front rest what k (mark b _ m is alone) e = same_end _ k e refl
piece_no_end front rest what k (open_text more h) e = same_end _ k e refl
piece_no_end front rest what k (open_comment more h) e = same_end _ k e refl
piece_no_end front rest what k (stray b _ dark plain alone lost) e = same_end _ k e refl

-- the end stands behind all bytes, and no other token is one
pub ends_once : (at : ℕ) (bytes : List ℕ) (ts : List Token) → Lexes at bytes ts → EndsOnce (at + length bytes) ts
ends_once at bytes ts (end from) = record { front = []; split = rw add-zero refl; others = refl }
ends_once at bytes ts (blank from front rest us is h) =
    let e : from + length (front ++ rest) ≡ from + length front + length rest = simp length-append (omega arith) in
    rw e (ends_once (from + length front) rest us h)
ends_once at bytes ts (next from front rest k us is h) =
    let e : from + length (front ++ rest) ≡ from + length front + length rest = simp length-append (omega arith) in
    let later = ends_once (from + length front) rest us h in
    rw e (record { front = token from k ∷ later.front; split = ap (λ (vs : List Token). token from k ∷ vs) later.split; others = rw (piece_no_end front rest (Some k) k is refl) later.others })

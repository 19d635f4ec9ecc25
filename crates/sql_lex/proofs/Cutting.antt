-- The tokens of a batch, from its pieces.
use Rattle.std.proofs.Common.{◌≡◌, ℕ, zero, suc, ◌+◌, ◌-◌, ◌≤◌, List, [], ◌∷◌, ◌++◌, length, take, drop, arith, ap, sym, ◌∙◌, refl, subst, Option, add-zero, length-append, map}
use Rattle.std.proofs.lemmas.List.{drop-drop, take_rest, length-drop}
use Rattle.std.proofs.Math.Seq.{drop-append_seam}
use Rattle.std.specs.Prelude.{Some, None}
use Rattle.sql_lex.specs.declared.token.Token.{Token}
use Rattle.sql_lex.specs.declared.token.TokenKind.{TokenKind}
use Rattle.sql_lex.specs.declared.token.TokenKind.TheVariants as kind
use Rattle.sql_lex.specs.declared.token.TokenKind.TheVariants.{Key, Named, Bracketed, Number, Text, Bad, End}
use Rattle.std.specs.Char.{to_ascii_lowercase}
use Rattle.sql_lex.specs.Laws.{HasOneCutting}
use Rattle.sql_lex.specs.Tokens.{token, IsToken, IsPiece, white, line, comment, word, text, bracketed, pair, mark, open_text, open_comment, stray, Lexes, end, blank, next}
use Rattle.sql_lex.specs.Cut.{Piece, piece_of, put, cut, behind, tokens_from}
use Rattle.sql_lex.proofs.Finding.{found, some_bytes}
use Rattle.sql_lex.proofs.Standing.{stands}

-- bytes that belong to the piece before are passed over
cut_skip : (n at : ℕ) (bs : List ℕ) → n ≤ length bs → cut n at bs ≡ cut 0 (at + n) (drop n bs)
unfolding cut
cut_skip zero at bs within = rw add-zero refl
cut_skip (suc n) at [] within = absurd (omega (arith, within))
cut_skip (suc n) at (b ∷ bs) within = let e : at + suc n ≡ at + 1 + n = omega arith in rw e (cut_skip n (at + 1) bs (omega (arith, within)))

cut_one : (at n : ℕ) (b : ℕ) (bs : List ℕ) (what : Option TokenKind) → piece_of (b ∷ bs) ≡ (what, suc n) → n ≤ length bs → cut 0 at (b ∷ bs) ≡ put at what (cut 0 (at + suc n) (drop (suc n) (b ∷ bs)))
unfolding cut
cut_one at n b bs what piece within =
    let less : suc n - 1 ≡ n = omega arith in
    let e : at + 1 + n ≡ at + suc n = omega arith in
    rw (piece, less, cut_skip n (at + 1) bs within, e) refl

-- the piece in front, and the tokens behind it
pub cut_piece : (at n : ℕ) (bytes : List ℕ) (what : Option TokenKind) → piece_of bytes ≡ (what, n) → 1 ≤ n → n ≤ length bytes → cut 0 at bytes ≡ put at what (cut 0 (at + n) (drop n bytes))
cut_piece at zero bytes what piece some within = absurd (omega (arith, some))
cut_piece at (suc n) [] what piece some within = absurd (omega (arith, within))
cut_piece at (suc n) (b ∷ bs) what piece some within = cut_one at n b bs what piece (omega (arith, within))

-- a piece has bytes, and no more than there are
pub piece_within : (b : ℕ) (bs : List ℕ) → (1 ≤ (piece_of (b ∷ bs)).1) × ((piece_of (b ∷ bs)).1 ≤ length (b ∷ bs))
piece_within b bs =
    let h = stands b bs in
    let all : length (b ∷ bs) ≡ length h.front + length h.rest = ap length h.split ∙ length-append h.front h.rest in
    (omega (arith, h.long, some_bytes h.front h.rest _ h.is), omega (arith, h.long, all))

put_lexes : (at : ℕ) (front rest bytes : List ℕ) (ts : List Token) (what : Option TokenKind) → bytes ≡ front ++ rest → IsPiece front rest what → Lexes (at + length front) rest ts → Lexes at bytes (put at what ts)
put_lexes at front rest bytes ts None split is h = rw split (blank at front rest ts is h)
put_lexes at front rest bytes ts (Some k) split is h = rw split (next at front rest k ts is h)

front_lexes : (at n b : ℕ) (bs : List ℕ) → (piece_of (b ∷ bs)).1 ≡ suc n → ((n ≤ length bs) → Lexes (at + 1 + n) (drop n bs) (cut n (at + 1) bs)) → Lexes at (b ∷ bs) (put at (piece_of (b ∷ bs)).0 (cut n (at + 1) bs))
front_lexes at n b bs len later =
    let h = stands b bs in
    let within : n ≤ length bs = omega (arith, len, (piece_within b bs).1) in
    let long : length h.front ≡ suc n = sym h.long ∙ len in
    let e : at + length h.front ≡ at + 1 + n = omega (arith, long) in
    let rest : drop n bs ≡ h.rest = ap (drop (suc n)) h.split ∙ rw (← long) (drop-append_seam h.front h.rest) in
    put_lexes at h.front h.rest (b ∷ bs) _ _ h.split h.is (rw (e, ← rest) (later within))

-- what is cut off is what the bytes are
cut_lexes : (n at : ℕ) (bs : List ℕ) → n ≤ length bs → Lexes (at + n) (drop n bs) (cut n at bs)
unfolding cut
cut_lexes zero at [] within = rw add-zero (end at)
cut_lexes (suc n) at [] within = absurd (omega (arith, within))
cut_lexes (suc n) at (b ∷ bs) within = let e : at + suc n ≡ at + 1 + n = omega arith in rw e (cut_lexes n (at + 1) bs (omega (arith, within)))
cut_lexes zero at (b ∷ bs) within =
    let n : ℕ = (piece_of (b ∷ bs)).1 - 1 in
    let len : (piece_of (b ∷ bs)).1 ≡ suc n = omega (arith, (piece_within b bs).0) in
    rw add-zero (front_lexes at n b bs len (λ inside. cut_lexes n (at + 1) bs inside))

-- the tokens of a batch
pub batch_lexes : (batch : List ℕ) → Lexes 0 batch (tokens_from batch 0)
unfolding tokens_from
batch_lexes batch = cut_lexes 0 0 batch (omega arith)

piece_cut : (at : ℕ) (front rest : List ℕ) (what : Option TokenKind) (ts : List Token) → IsPiece front rest what → ts ≡ cut 0 (at + length front) rest → put at what ts ≡ cut 0 at (front ++ rest)
piece_cut at front rest what ts is same =
    let within : length front ≤ length (front ++ rest) = simp length-append (omega arith) in
    rw same (sym (cut_piece at (length front) (front ++ rest) what (found front rest what is) (some_bytes front rest what is) within ∙ rw (drop-append_seam front rest) refl))

-- the bytes are cut in one way
lexes_cut : (at : ℕ) (bs : List ℕ) (ts : List Token) → Lexes at bs ts → ts ≡ cut 0 at bs
unfolding cut
lexes_cut at bs ts (end _) = refl
lexes_cut at bs ts (blank from front rest us is h) = piece_cut from front rest None us is (lexes_cut (from + length front) rest us h)
lexes_cut at bs ts (next from front rest k us is h) = piece_cut from front rest (Some k) us is (lexes_cut (from + length front) rest us h)

-- the tokens of a batch are one list
pub one_list : (batch : List ℕ) (ts us : List Token) → Lexes 0 batch ts → Lexes 0 batch us → ts ≡ us
one_list batch ts us h i = lexes_cut 0 batch ts h ∙ sym (lexes_cut 0 batch us i)

pub one_cutting : (batch : List ℕ) → HasOneCutting batch
one_cutting batch = (tokens_from batch 0, batch_lexes batch, (λ us h. one_list batch us (tokens_from batch 0) h (batch_lexes batch)))

-- white space and comments are passed over
pub blank_cut : (batch : List ℕ) (at len : ℕ) → piece_of (drop at batch) ≡ (None, len) → 1 ≤ len → len ≤ length (drop at batch) → tokens_from batch (at + len) ≡ tokens_from batch at
unfolding tokens_from
blank_cut batch at len piece some within = sym (cut_piece at len (drop at batch) None piece some within ∙ rw (drop-drop len at batch) refl)

token_behind : (bytes : List ℕ) (k : TokenKind) (ts : List Token) → IsToken bytes k → behind k ts ≡ ts
token_behind bytes (Key w) ts h = refl
token_behind bytes (Named name) ts h = refl
token_behind bytes (Bracketed name) ts h = refl
token_behind bytes (Number n) ts h = refl
token_behind bytes (Text content) ts h = refl
token_behind bytes (kind.Mark m) ts h = refl
token_behind bytes Bad ts h = refl
token_behind bytes End ts h = absurd h

-- a piece isn't the end
piece_behind : (front rest : List ℕ) (what : Option TokenKind) (k : TokenKind) (ts : List Token) → IsPiece front rest what → what ≡ Some k → behind k ts ≡ ts
piece_behind front rest what k ts (white b _ h) e = cc
piece_behind front rest what k ts (line more _ all stop) e = cc
piece_behind front rest what k ts (comment inside _ h) e = cc
piece_behind front rest what k ts (word first more _ other letter all stop is) e = let same : other ≡ k = cc in token_behind (first ∷ more) k ts (subst (IsToken (first ∷ more)) same is)
piece_behind front rest what k ts (text content _ all stop) e = let same : Text content ≡ k = cc in rw (← same) refl
piece_behind front rest what k ts (bracketed letters _ name) e = let same : Bracketed (map to_ascii_lowercase letters) ≡ k = cc in rw (← same) refl
piece_behind front rest what k ts (pair b c _ m is) e = let same : kind.Mark m ≡ k = cc in rw (← same) refl
piece_behind front rest what k ts (mark b _ m is alone) e = let same : kind.Mark m ≡ k = cc in rw (← same) refl
piece_behind front rest what k ts (open_text more h) e = let same : Bad ≡ k = cc in rw (← same) refl
piece_behind front rest what k ts (open_comment more h) e = let same : Bad ≡ k = cc in rw (← same) refl
piece_behind front rest what k ts (stray b _ dark plain alone lost) e = let same : Bad ≡ k = cc in rw (← same) refl

token_one : (at len : ℕ) (bytes : List ℕ) (k : TokenKind) → piece_of bytes ≡ (Some k, len) → token at k ∷ behind k (cut 0 (at + len) (drop len bytes)) ≡ cut 0 at bytes
unfolding cut
token_one at len [] k piece = let what : Some End ≡ Some k = ap (λ (p : Piece). p.0) piece in let last : End ≡ k = cc in rw (← last) refl
token_one at len (b ∷ bs) k piece =
    let h = stands b bs in
    let what : (piece_of (b ∷ bs)).0 ≡ Some k = ap (λ (p : Piece). p.0) piece in
    let long : (piece_of (b ∷ bs)).1 ≡ len = ap (λ (p : Piece). p.1) piece in
    let within = piece_within b bs in
    let rest : behind k (cut 0 (at + len) (drop len (b ∷ bs))) ≡ cut 0 (at + len) (drop len (b ∷ bs)) = piece_behind h.front h.rest _ k _ h.is what in
    ap (λ (ts : List Token). token at k ∷ ts) rest ∙ sym (cut_piece at len (b ∷ bs) (Some k) piece (omega (arith, long, within.0)) (omega (arith, long, within.1)))

-- the next token of a batch, and those behind it
pub token_cut : (batch : List ℕ) (from at len : ℕ) (k : TokenKind) → tokens_from batch at ≡ tokens_from batch from → piece_of (drop at batch) ≡ (Some k, len)
    → token at k ∷ behind k (tokens_from batch (at + len)) ≡ tokens_from batch from
unfolding tokens_from
token_cut batch from at len k same piece = rw (← drop-drop len at batch) (token_one at len (drop at batch) k piece) ∙ same

-- how many bytes a piece has at most, and at the least where it is no token
pub len_within : (bytes : List ℕ) → (piece_of bytes).1 ≤ length bytes
len_within [] = omega arith
len_within (b ∷ bs) = (piece_within b bs).1

pub len_some : (bytes : List ℕ) → (piece_of bytes).0 ≡ None → 1 ≤ (piece_of bytes).1
len_some [] h = cc
len_some (b ∷ bs) h = (piece_within b bs).0

-- a piece that was read where a batch goes on
pub left_piece : (batch : List ℕ) (at : ℕ) (p : Piece) (what : Option TokenKind) → p ≡ piece_of (take (length batch - at) (drop at batch)) → p.0 ≡ what → piece_of (drop at batch) ≡ (what, p.1)
left_piece batch at p what h e = sym (h ∙ ap piece_of (take_rest batch at)) ∙ ap (λ (w : Option TokenKind). (w, p.1)) e

-- behind white space or a comment the same tokens are left
pub record Passes (batch : List ℕ) (from at : ℕ) : Type 0 where
  pub within : at ≤ length batch
  pub same : tokens_from batch at ≡ tokens_from batch from

pub passes_on : (batch : List ℕ) (from at len : ℕ) → Passes batch from at → piece_of (drop at batch) ≡ (None, len) → Passes batch from (at + len)
passes_on batch from at len h piece =
    let what : (piece_of (drop at batch)).0 ≡ None = ap (λ (p : Piece). p.0) piece in
    let long : (piece_of (drop at batch)).1 ≡ len = ap (λ (p : Piece). p.1) piece in
    let left : length (drop at batch) ≡ length batch - at = length-drop at batch in
    let within : len ≤ length (drop at batch) = rw long at (len_within (drop at batch)) in
    let some : 1 ≤ len = rw long at (len_some (drop at batch) what) in
    record { within = omega (arith, left, within, h.within); same = blank_cut batch at len piece some within ∙ h.same }

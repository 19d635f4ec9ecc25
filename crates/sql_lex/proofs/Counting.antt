-- How many tokens there are, and those behind a token.
use Rattle.std.proofs.Common.{◌≡◌, ℕ, zero, suc, ◌+◌, ◌-◌, ◌≤◌, ◌<◌, List, [], ◌∷◌, length, drop, arith, ap, sym, ◌∙◌, refl}
use Rattle.std.specs.Prelude.{Option, Some, None}
use Rattle.std.proofs.lemmas.List.{length-drop, drop-drop}
use Rattle.sql_lex.specs.declared.token.Token.{Token}
use Rattle.sql_lex.specs.declared.token.TokenKind.{TokenKind}
use Rattle.sql_lex.specs.declared.token.TokenKind.TheVariants.{Key, Named, Bracketed, Number, Text, Mark, Bad, End}
use Rattle.sql_lex.specs.Cut.{piece_of, put, behind, cut, tokens_from}

put_few : (at most : ℕ) (o : Option TokenKind) (ts : List Token) → length ts ≤ most → length (put at o ts) ≤ most + 1
put_few at most None ts h = omega arith
put_few at most (Some k) ts h = omega arith

cut_few : (n at : ℕ) (bs : List ℕ) → length (cut n at bs) ≤ length bs + 1
unfolding cut
cut_few zero at [] = omega arith
cut_few (suc n) at [] = omega arith
cut_few (suc n) at (b ∷ bs) = omega (arith, cut_few n (at + 1) bs)
cut_few zero at (b ∷ bs) =
    let rest : length (cut ((piece_of (b ∷ bs)).1 - 1) (at + 1) bs) ≤ length bs + 1 = cut_few ((piece_of (b ∷ bs)).1 - 1) (at + 1) bs in
    let all : length (put at (piece_of (b ∷ bs)).0 (cut ((piece_of (b ∷ bs)).1 - 1) (at + 1) bs)) ≤ length bs + 1 + 1 = put_few at (length bs + 1) (piece_of (b ∷ bs)).0 (cut ((piece_of (b ∷ bs)).1 - 1) (at + 1) bs) rest in
    omega (arith, all)

-- no more tokens than bytes, and the end
pub tokens_few : (batch : List ℕ) (at : ℕ) → length (tokens_from batch at) ≤ length batch + 1
unfolding tokens_from
tokens_few batch at = omega (arith, cut_few 0 at (drop at batch), length-drop at batch)

-- where a token isn't the last, those behind it are those that are found there
pub behind_found : (k : TokenKind) (ts : List Token) → 0 < length (behind k ts) → behind k ts ≡ ts
behind_found (Key word) ts h = refl
behind_found (Named name) ts h = refl
behind_found (Bracketed name) ts h = refl
behind_found (Number n) ts h = refl
behind_found (Text text) ts h = refl
behind_found (Mark mark) ts h = refl
behind_found Bad ts h = refl
behind_found End ts h = absurd (omega (arith, h))

-- the next token is found behind one that others follow
pub found_next : (ts rest : List Token) (t : Token) (i : ℕ) → drop i ts ≡ t ∷ behind t.kind rest → i + 1 < length ts → drop (i + 1) ts ≡ rest
found_next ts rest t i e more =
    let same : drop (i + 1) ts ≡ behind t.kind rest = sym (drop-drop 1 i ts) ∙ ap (drop 1) e in
    same ∙ behind_found t.kind rest (omega (arith, ap length same, length-drop (i + 1) ts))

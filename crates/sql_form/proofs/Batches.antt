-- The tokens of a batch have an end.
use Rattle.std.proofs.Common.{◌≡◌, ℕ, ◌+◌, Bool, true, false, ◌||◌, List, length, refl}
use Rattle.sql_lex.specs.declared.token.Token.{Token}
use Rattle.sql_lex.specs.Tokens.{Lexes, end, blank, next}
use Rattle.sql_form.specs.Laws.{has_end}

later : (a b : Bool) → b ≡ true → (a || b) ≡ true
later true b h = refl
later false b h = h

pub batch_ends : (at : ℕ) (batch : List ℕ) (ts : List Token) → Lexes at batch ts → has_end ts ≡ true
batch_ends _ _ _ (end at) = refl
batch_ends _ _ _ (blank at front rest ts p h) = batch_ends (at + length front) rest ts h
batch_ends _ _ _ (next at front rest what ts p h) = later _ (has_end ts) (batch_ends (at + length front) rest ts h)

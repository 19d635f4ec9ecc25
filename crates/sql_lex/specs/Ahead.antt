-- The tokens that are left of a batch, of which the last one alone is the end.
use Rattle.std.specs.Prelude.{Bool, List, [], ◌∷◌}
use Rattle.sql_lex.specs.declared.token.Token.{Token}
use Rattle.sql_lex.specs.declared.token.TokenKind.TheVariants.{End}
use Rattle.sql_lex.specs.Tokens.{token, is_end}

-- the token in front
abbrev pub first_of : List Token → Token
first_of [] = token 0 End
first_of (t ∷ ts) = t

-- the tokens behind it
abbrev pub behind_first : List Token → List Token
behind_first [] = []
behind_first (t ∷ ts) = ts

-- whether the end alone is left
abbrev pub is_over : List Token → Bool
is_over ts = is_end (first_of ts).kind

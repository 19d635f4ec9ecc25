-- What is read of a form from the front of tokens.
use Rattle.std.specs.Prelude.{ℕ, zero, suc, Bool, true, false, ◌&&◌, List, [], ◌∷◌, length, Option, Some, None}
use Rattle.std.specs.Str.{bytes_eq}
use Rattle.sql_lex.specs.declared.context_word.ContextWord.TheVariants as place
use Rattle.sql_lex.specs.declared.token.Mark.TheVariants as mark
use Rattle.sql_lex.specs.declared.token.Token.{Token}
use Rattle.sql_lex.specs.declared.token.TokenKind.{TokenKind}
use Rattle.sql_lex.specs.Ahead.{first_of, behind_first}
use Rattle.sql_lex.specs.Words.{letters_of}
use Rattle.sql_expr.specs.Got.{Got, Done, Refused, and_then}
use Rattle.sql_expr.specs.Read.{got, reading}
use Rattle.sql_lex.specs.Tokens.{is_end}
use Rattle.sql_form.specs.Rules.{Rules, strict}
use Rattle.sql_form.specs.Form.{said, is_sign, name_of, Form, One, Table, Expr, Then, Or, May, Many, Parts, Left, Right, Value}
use Rattle.sql_form.specs.Grammar.{counts, first, is_full, spared}

-- the first token is taken for what it says, or refused
abbrev pub taken : {A : Type 0} → Option A → List Token → Got A
taken None ts = Refused (first_of ts).at
taken (Some x) ts = Done x (behind_first ts)

-- the one or the other
abbrev pub chosen : {A : Type 0} → Bool → Got A → Got A → Got A
chosen true a b = a
chosen false a b = b

-- what is made of a value that is read
abbrev pub made : {A B : Type 0} → (A → B) → Got A → Got B
made make (Done x rest) = Done (make x) rest
made make (Refused at) = Refused at

-- one and then the other, and what is made of both
abbrev pub joined : {A B C : Type 0} → (A → B → C) → Got A → (List Token → Got B) → Got C
joined make a b = and_then a (λ x us. made (make x) (b us))

-- the name in front
abbrev pub named : List Token → Got (List ℕ)
named ts = taken (name_of (first_of ts).kind) ts

-- behind a name: a dot, if the name is dbo, and the name of the table
abbrev pub tabled : List ℕ → List Token → Got (List ℕ)
tabled name ts = chosen (bytes_eq name (letters_of place.Dbo) && is_sign mark.Dot (first_of ts).kind) (named (behind_first ts)) (Done name ts)

-- as long as the next token passes a test, at most so often
abbrev pub many : {A : Type 0} → (TokenKind → Bool) → (List Token → Got A) → ℕ → List Token → Got (List A)
many test step zero ts = Done [] ts
many test step (suc n) ts = chosen (test (first_of ts).kind) (joined (λ x xs. x ∷ xs) (step ts) (many test step n)) (Done [] ts)

-- a part that the limit forbids is refused at its first token
abbrev pub limited : {A : Type 0} → Bool → ℕ → Got A → Got A
limited true at g = Refused at
limited false at g = g

-- further parts come behind a comma
abbrev pub followed : {A : Type 0} → A → (List Token → Got (List A)) → List Token → Got (List A)
followed x more ts = chosen (is_sign mark.Comma (first_of ts).kind) (made (λ xs. x ∷ xs) (more (behind_first ts))) (Done (x ∷ []) ts)

-- part { , part }, at most so often, of which so many may be counted
abbrev pub listed : {A : Type 0} → Bool → (TokenKind → Bool) → (List Token → Got A) → ℕ → ℕ → List Token → Got (List A)
listed must counts step zero n ts = Refused (first_of ts).at
listed must counts step (suc often) n ts =
    limited (is_full must (counts (first_of ts).kind) n) (first_of ts).at (and_then (step ts) (λ x us. followed x (listed must counts step often (spared (counts (first_of ts).kind) n)) us))

-- The form in front of some tokens, one token telling how to go on, and the tokens behind it; or the place at which they are refused.
abbrev pub read : Rules → (f : Form) → List Token → Got (Value f)
read r (One leaf) ts = taken (said r leaf (first_of ts).kind) ts
read r Table ts = and_then (named ts) tabled
read r (Expr names truth) ts = got (reading names r.exprs truth ts)
read r (Then f g) ts = joined (λ x y. (x, y)) (read r f ts) (read r g)
read r (Or f g) ts = chosen (first f (first_of ts).kind) (made Left (read r f ts)) (made Right (read r g ts))
read r (May f) ts = chosen (first f (first_of ts).kind) (made Some (read r f ts)) (Done None ts)
read r (Many f) ts = many (first f) (read r f) (length ts) ts
read r (Parts most every part) ts = listed r.parts (counts every part) (read r part) (suc (length ts)) most ts

-- nothing but the end may stand behind what was read
abbrev pub closed : {A : Type 0} → Got A → Got A
closed (Done x rest) = chosen (is_end (first_of rest).kind) (Done x rest) (Refused (first_of rest).at)
closed (Refused at) = Refused at

-- all that stands before the end, which must be of the form
abbrev pub read_whole : (f : Form) → List Token → Got (Value f)
read_whole f ts = closed (read strict f ts)

-- Which tokens are of a form, and the value that they say.
use Rattle.std.specs.Prelude.{◌≡◌, ℕ, zero, ◌-◌, Bool, true, false, ◌&&◌, ◌||◌, List, [], ◌∷◌, ◌++◌, Option, Some, None, is_some}
use Rattle.sql_lex.specs.declared.context_word.ContextWord.TheVariants as place
use Rattle.sql_lex.specs.declared.token.Mark.TheVariants as mark
use Rattle.sql_lex.specs.declared.token.Token.{Token}
use Rattle.sql_lex.specs.declared.token.TokenKind.{TokenKind}
use Rattle.sql_lex.specs.declared.token.TokenKind.TheVariants as kind
use Rattle.sql_lex.specs.Ahead.{first_of}
use Rattle.sql_lex.specs.Words.{letters_of}
use Rattle.sql_expr.specs.declared.role.Role.{Role}
use Rattle.sql_expr.specs.declared.role.Role.TheVariants as role
use Rattle.plain_model.specs.declared.expr.MathOp.TheVariants.{Sub}
use Rattle.sql_expr.specs.Grammar.{IsWhole}
use Rattle.sql_expr.specs.Roles.{word_role, mark_role, kind_role}
use Rattle.sql_expr.specs.Laws.{goes_on}
use Rattle.sql_form.specs.Rules.{Rules, loose}
use Rattle.sql_form.specs.Form.{said, is_sign, name_of, Form, One, Table, Expr, Then, Or, May, Many, Parts, Either, Left, Right, Value}

-- a word with which an expression begins
abbrev pub word_starts : Role → Bool
word_starts role.Not = true
word_starts role.Null = true
word_starts _ = false

-- a mark with which an expression begins
abbrev pub mark_starts : Role → Bool
mark_starts role.Open = true
mark_starts (role.Math Sub) = true
mark_starts _ = false

-- a token with which an expression begins, names of columns where they may stand
abbrev pub starts : Bool → TokenKind → Bool
starts names (kind.Key word) = word_starts (word_role word)
starts names (kind.Mark mark) = mark_starts (mark_role mark)
starts names (kind.Named name) = names
starts names (kind.Bracketed name) = names
starts names (kind.Number n) = true
starts names (kind.Text text) = true
starts names _ = false

-- the first if there is one, else either
abbrev pub or_if : Bool → Bool → Bool → Bool
or_if true a b = a
or_if false a b = a || b

-- it has a token at least
abbrev pub is_solid : Form → Bool
is_solid (One leaf) = true
is_solid Table = true
is_solid (Expr names truth) = true
is_solid (Then f g) = is_solid f || is_solid g
is_solid (Or f g) = true
is_solid (May f) = false
is_solid (Many f) = false
is_solid (Parts most every part) = true

-- a token with which it begins
abbrev pub first : Form → TokenKind → Bool
first (One leaf) k = is_some (said loose leaf k)
first Table k = is_some (name_of k)
first (Expr names truth) k = starts names k
first (Then f g) k = or_if (is_solid f) (first f k) (first g k)
first (Or f g) k = first f k || first g k
first (May f) k = first f k
first (Many f) k = first f k
first (Parts most every part) k = first part k

-- a token with which a part begins that is counted
abbrev pub counts : Bool → Form → TokenKind → Bool
counts every part k = first part k && (every || is_some (name_of k))

-- a token with which it may go on where it could be over
abbrev pub continues : Form → TokenKind → Bool
continues (One leaf) k = false
continues Table k = is_sign mark.Dot k
continues (Expr names truth) k = goes_on (kind_role k)
continues (Then f g) k = or_if (is_solid g) (continues g k) (continues f k)
continues (Or f g) k = continues f k || continues g k
continues (May f) k = first f k || continues f k
continues (Many f) k = first f k || continues f k
continues (Parts most every part) k = is_sign mark.Comma k || continues part k

-- one token tells how to go on
abbrev pub IsPlain : Form → Type 0
IsPlain (One leaf) = Unit {0}
IsPlain Table = Unit {0}
IsPlain (Expr names truth) = Unit {0}
IsPlain (Then f g) = IsPlain f × IsPlain g × ((k : TokenKind) → continues f k ≡ true → first g k ≡ true → ⊥)
IsPlain (Or f g) = IsPlain f × IsPlain g × (is_solid f ≡ true) × (is_solid g ≡ true) × ((k : TokenKind) → first f k ≡ true → first g k ≡ true → ⊥)
IsPlain (May f) = IsPlain f × (is_solid f ≡ true)
IsPlain (Many f) = IsPlain f × (is_solid f ≡ true) × ((k : TokenKind) → continues f k ≡ true → first f k ≡ true → ⊥)
IsPlain (Parts most every part) = IsPlain part × (is_solid part ≡ true) × ((k : TokenKind) → continues part k ≡ true → is_sign mark.Comma k ≡ true → ⊥)

-- a token is a name
abbrev pub IsNamed : Token → List ℕ → Type 0
IsNamed t name = name_of t.kind ≡ Some name

-- [ dbo . ] name
pub data IsTable (name : List ℕ) : List Token → Type 0 where
  alone : (t : Token) → IsNamed t name → IsTable name (t ∷ [])
  within : (o d t : Token) → IsNamed o (letters_of place.Dbo) → is_sign mark.Dot d.kind ≡ true → IsNamed t name → IsTable name (o ∷ d ∷ t ∷ [])

-- one, or the other
abbrev pub IsEither : {A B : Type 0} → (A → List Token → Type 0) → (B → List Token → Type 0) → Either A B → List Token → Type 0
IsEither is or (Left x) ts = is x ts
IsEither is or (Right y) ts = or y ts

-- it, or nothing
abbrev pub IsOption : {A : Type 0} → (A → List Token → Type 0) → Option A → List Token → Type 0
IsOption is None ts = ts ≡ []
IsOption is (Some x) ts = is x ts

-- one behind the other
abbrev pub AreMany : {A : Type 0} → (A → List Token → Type 0) → List A → List Token → Type 0
AreMany is [] ts = ts ≡ []
AreMany is (x ∷ xs) ts = (us : List Token) × (vs : List Token) × (ts ≡ us ++ vs) × is x us × AreMany is xs vs

-- no further part that is counted may come, where this is limited
abbrev pub is_full : (limited counted : Bool) → ℕ → Bool
is_full true true zero = true
is_full limited counted n = false

-- how many may come behind a part
abbrev pub spared : Bool → ℕ → ℕ
spared true n = n - 1
spared false n = n

-- part { , part }, of which so many may be counted
abbrev pub AreParts : {A : Type 0} → (A → List Token → Type 0) → Bool → (TokenKind → Bool) → ℕ → A → List A → List Token → Type 0
AreParts is limited counts n x [] ts = is x ts × (is_full limited (counts (first_of ts).kind) n ≡ false)
AreParts is limited counts n x (y ∷ ys) ts =
    (us : List Token) × (comma : Token) × (vs : List Token) × (ts ≡ us ++ comma ∷ vs) × is x us × (is_full limited (counts (first_of us).kind) n ≡ false) × (is_sign mark.Comma comma.kind ≡ true)
    × AreParts is limited counts (spared (counts (first_of us).kind) n) y ys vs

-- a list has a part
abbrev pub IsList : {A : Type 0} → (A → List Token → Type 0) → Bool → (TokenKind → Bool) → ℕ → List A → List Token → Type 0
IsList is limited counts n [] ts = ⊥
IsList is limited counts n (x ∷ xs) ts = AreParts is limited counts n x xs ts

-- the tokens are of the form, and say this
abbrev pub IsForm : Rules → (f : Form) → Value f → List Token → Type 0
IsForm r (One leaf) x ts = (t : Token) × (ts ≡ t ∷ []) × (said r leaf t.kind ≡ Some x)
IsForm r Table x ts = IsTable x ts
IsForm r (Expr names truth) x ts = IsWhole names r.exprs truth x ts
IsForm r (Then f g) x ts = (us : List Token) × (vs : List Token) × (ts ≡ us ++ vs) × IsForm r f x.0 us × IsForm r g x.1 vs
IsForm r (Or f g) x ts = IsEither (IsForm r f) (IsForm r g) x ts
IsForm r (May f) x ts = IsOption (IsForm r f) x ts
IsForm r (Many f) x ts = AreMany (IsForm r f) x ts
IsForm r (Parts most every part) x ts = IsList (IsForm r part) r.parts (counts every part) most x ts

-- A test of whether one token tells how to go on, from the classes of tokens with which forms begin and go on.
use Rattle.std.specs.Prelude.{Bool, true, false, ◌&&◌, not, List, [], ◌∷◌, ◌++◌}
use Rattle.std.specs.List.{list_all}
use Rattle.std.specs.Str.{bytes_eq}
use Rattle.sql_lex.specs.declared.context_word.ContextWord.{ContextWord}
use Rattle.sql_lex.specs.declared.keyword.Keyword.{Keyword}
use Rattle.sql_lex.specs.declared.keyword.Keyword.TheVariants as word
use Rattle.sql_lex.specs.declared.token.Mark.{Mark}
use Rattle.sql_lex.specs.declared.token.Mark.TheVariants as mark
use Rattle.sql_lex.specs.declared.token.TokenKind.{TokenKind}
use Rattle.sql_lex.specs.declared.token.TokenKind.TheVariants as kind
use Rattle.sql_lex.specs.Words.{is_same, is_same_mark, letters_of}
use Rattle.sql_form.specs.Form.{Leaf, Key, Word, Sign, Nought, AnyName, AnyNumber, FileText, NameText, is_key, is_word, is_sign, Form, One, Table, Expr, Then, Or, May, Many, Parts}
use Rattle.sql_form.specs.Grammar.{is_solid}

-- a class of tokens
pub data Class : Type 0 where
  OfKey : (word : Keyword) → Class
  -- one word that has a meaning in its place alone, without brackets
  OfWord : (word : ContextWord) → Class
  OfSign : (mark : Mark) → Class
  -- all names, those words among them
  OfNames : Class
  OfNumbers : Class
  OfTexts : Class

-- whether two classes have a token in common
abbrev pub meet : Class → Class → Bool
meet (OfKey a) (OfKey b) = is_same a b
meet (OfWord a) (OfWord b) = bytes_eq (letters_of a) (letters_of b)
meet (OfWord a) OfNames = true
meet (OfSign a) (OfSign b) = is_same_mark a b
meet OfNames (OfWord b) = true
meet OfNames OfNames = true
meet OfNumbers OfNumbers = true
meet OfTexts OfTexts = true
meet _ _ = false

-- whether a token is of the class
abbrev pub is_of : TokenKind → Class → Bool
is_of k (OfKey word) = is_key word k
is_of k (OfWord word) = is_word word k
is_of k (OfSign mark) = is_sign mark k
is_of (kind.Named name) OfNames = true
is_of (kind.Bracketed name) OfNames = true
is_of (kind.Number n) OfNumbers = true
is_of (kind.Text text) OfTexts = true
is_of _ _ = false

-- no class of one list has a token in common with one of the other
abbrev pub are_apart : List Class → List Class → Bool
are_apart cs ds = list_all (λ c. list_all (λ d. not (meet c d)) ds) cs

-- the class of one token
abbrev pub class_of : Leaf → Class
class_of (Key word) = OfKey word
class_of (Word wanted) = OfWord wanted
class_of (Sign mark) = OfSign mark
class_of Nought = OfNumbers
class_of AnyName = OfNames
class_of AnyNumber = OfNumbers
class_of FileText = OfTexts
class_of NameText = OfTexts

-- with what an expression may begin
abbrev pub expr_starts : List Class
expr_starts = OfKey word.Not ∷ OfKey word.Null ∷ OfSign mark.Open ∷ OfSign mark.Minus ∷ OfNames ∷ OfNumbers ∷ OfTexts ∷ []

-- with what it may go on
abbrev pub expr_goes_on : List Class
expr_goes_on =
    OfKey word.Or ∷ OfKey word.And ∷ OfKey word.Not ∷ OfKey word.Is ∷ OfKey word.Between ∷ OfKey word.In ∷ OfSign mark.Star ∷ OfSign mark.Plus ∷ OfSign mark.Minus
    ∷ OfSign mark.Equal ∷ OfSign mark.NotEqual ∷ OfSign mark.Less ∷ OfSign mark.AtMost ∷ OfSign mark.Greater ∷ OfSign mark.AtLeast ∷ []

-- those of both, or of the first alone
abbrev pub with_more : Bool → List Class → List Class → List Class
with_more true cs ds = cs
with_more false cs ds = cs ++ ds

-- with what a form may begin
abbrev pub firsts : Form → List Class
firsts (One leaf) = class_of leaf ∷ []
firsts Table = OfNames ∷ []
firsts (Expr names truth) = expr_starts
firsts (Then f g) = with_more (is_solid f) (firsts f) (firsts g)
firsts (Or f g) = firsts f ++ firsts g
firsts (May f) = firsts f
firsts (Many f) = firsts f
firsts (Parts most every part) = firsts part

-- with what it may go on where it could be over
abbrev pub nexts : Form → List Class
nexts (One leaf) = []
nexts Table = OfSign mark.Dot ∷ []
nexts (Expr names truth) = expr_goes_on
nexts (Then f g) = with_more (is_solid g) (nexts g) (nexts f)
nexts (Or f g) = nexts f ++ nexts g
nexts (May f) = firsts f ++ nexts f
nexts (Many f) = firsts f ++ nexts f
nexts (Parts most every part) = OfSign mark.Comma ∷ nexts part

-- whether one token tells how to go on
abbrev pub is_plain : Form → Bool
is_plain (One leaf) = true
is_plain Table = true
is_plain (Expr names truth) = true
is_plain (Then f g) = is_plain f && (is_plain g && are_apart (nexts f) (firsts g))
is_plain (Or f g) = is_plain f && (is_plain g && (is_solid f && (is_solid g && are_apart (firsts f) (firsts g))))
is_plain (May f) = is_plain f && is_solid f
is_plain (Many f) = is_plain f && (is_solid f && are_apart (nexts f) (firsts f))
is_plain (Parts most every part) = is_plain part && (is_solid part && are_apart (nexts part) (OfSign mark.Comma ∷ []))

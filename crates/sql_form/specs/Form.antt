-- Forms of statements: what stands one behind the other, which parts may come, and which may come again.
use Rattle.std.specs.Prelude.{ℕ, ◌==◌, Bool, true, false, List, map, ℤ, pos, negsuc, Option, Some, None}
use Rattle.std.specs.Str.{bytes_eq}
use Rattle.std.specs.Char.{to_ascii_lowercase}
use Rattle.page_base.specs.FileName.{last_part}
use Rattle.plain_model.specs.Tree.{Tree}
use Rattle.sql_lex.specs.declared.context_word.ContextWord.{ContextWord}
use Rattle.sql_lex.specs.declared.keyword.Keyword.{Keyword}
use Rattle.sql_lex.specs.declared.token.Mark.{Mark}
use Rattle.sql_lex.specs.declared.token.TokenKind.{TokenKind}
use Rattle.sql_lex.specs.declared.token.TokenKind.TheVariants as kind
use Rattle.sql_lex.specs.Texts.{is_file_name, is_name}
use Rattle.sql_lex.specs.Words.{is_same, is_same_mark, letters_of}
use Rattle.sql_form.specs.Rules.{Rules}

-- what one token is
pub data Leaf : Type 0 where
  -- a reserved word
  Key : (word : Keyword) → Leaf
  -- a word that has a meaning in its place alone, without brackets
  Word : (word : ContextWord) → Leaf
  Sign : (mark : Mark) → Leaf
  -- the number 0
  Nought : Leaf
  -- a name, plain or in brackets
  AnyName : Leaf
  AnyNumber : Leaf
  -- a text that ends with a name of a file
  FileText : Leaf
  -- a text that is a name
  NameText : Leaf

-- what it says
abbrev pub LeafValue : Leaf → Type 0
LeafValue AnyName = List ℕ
LeafValue AnyNumber = ℤ
LeafValue FileText = List ℕ
LeafValue NameText = List ℕ
LeafValue _ = Unit {0}

-- nothing is said but that it stands here
abbrev pub if_so : Bool → Option (Unit {0})
if_so true = Some tt
if_so false = None

-- the name that a text has to be, where it must be one
abbrev pub if_name : (must is : Bool) → List ℕ → Option (List ℕ)
if_name true false name = None
if_name must is name = Some name

-- the number is 0
abbrev pub is_nought : ℤ → Bool
is_nought (pos n) = n == 0
is_nought (negsuc n) = false

-- the reserved word
abbrev pub is_key : Keyword → TokenKind → Bool
is_key wanted (kind.Key found) = is_same found wanted
is_key wanted _ = false

-- the word, without brackets
abbrev pub is_word : ContextWord → TokenKind → Bool
is_word wanted (kind.Named name) = bytes_eq name (letters_of wanted)
is_word wanted _ = false

-- the mark
abbrev pub is_sign : Mark → TokenKind → Bool
is_sign wanted (kind.Mark found) = is_same_mark found wanted
is_sign wanted _ = false

-- a number that is 0
abbrev pub is_zero : TokenKind → Bool
is_zero (kind.Number n) = is_nought n
is_zero _ = false

-- the name that a token is
abbrev pub name_of : TokenKind → Option (List ℕ)
name_of (kind.Named name) = Some name
name_of (kind.Bracketed name) = Some name
name_of _ = None

-- the number that it is
abbrev pub number_of : TokenKind → Option ℤ
number_of (kind.Number n) = Some n
number_of _ = None

-- the name of a file with which it ends, where it is a text
abbrev pub file_of : Bool → TokenKind → Option (List ℕ)
file_of must (kind.Text text) = if_name must (is_file_name (last_part text)) (last_part text)
file_of must _ = None

-- the name in lower case that it is, where it is a text
abbrev pub text_name_of : Bool → TokenKind → Option (List ℕ)
text_name_of must (kind.Text text) = if_name must (is_name text) (map to_ascii_lowercase text)
text_name_of must _ = None

-- what a token says, where it is such a one
abbrev pub said : Rules → (l : Leaf) → TokenKind → Option (LeafValue l)
said r (Key wanted) k = if_so (is_key wanted k)
said r (Word wanted) k = if_so (is_word wanted k)
said r (Sign wanted) k = if_so (is_sign wanted k)
said r Nought k = if_so (is_zero k)
said r AnyName k = name_of k
said r AnyNumber k = number_of k
said r FileText k = file_of r.texts k
said r NameText k = text_name_of r.texts k

-- how a statement, or a part of one, is made
pub data Form : Type 0 where
  One : (leaf : Leaf) → Form
  -- [ dbo . ] name
  Table : Form
  -- a truth or a value, in which names of columns may stand or not
  Expr : (names truth : Bool) → Form
  -- one and then the other
  Then : (f g : Form) → Form
  -- one or the other
  Or : (f g : Form) → Form
  -- once or not
  May : (f : Form) → Form
  -- any number of times
  Many : (f : Form) → Form
  -- part { , part }; there are so many at most of every part, or of those that begin with a name
  Parts : (most : ℕ) (every : Bool) (part : Form) → Form

-- one or the other
pub data Either (A B : Type 0) : Type 0 where
  Left : (value : A) → Either A B
  Right : (value : B) → Either A B

-- what it says
abbrev pub Value : Form → Type 0
Value (One leaf) = LeafValue leaf
Value Table = List ℕ
Value (Expr names truth) = Tree
Value (Then f g) = Value f × Value g
Value (Or f g) = Either (Value f) (Value g)
Value (May f) = Option (Value f)
Value (Many f) = List (Value f)
Value (Parts most every part) = List (Value part)

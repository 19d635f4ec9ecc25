-- The reserved word that some letters are.
use Rattle.std.proofs.Common.{◌≡◌, ◌≢◌, ℕ, Bool, true, false, cond, List, [], ◌∷◌, refl, ap, sym, ◌∙◌, Option, length, map, inl}
use Rattle.std.specs.Prelude.{Some, None, find, nat_le, codes}
use Rattle.std.specs.Char.{to_ascii_lowercase}
use Rattle.std.proofs.lemmas.Bool.{leb-true}
use Rattle.std.specs.Str.{bytes_eq}
use Rattle.std.proofs.lemmas.Slice.Eq.{bytes_eq-Decides}
use Rattle.sql_lex.specs.declared.keyword.Keyword.{Keyword}
use Rattle.sql_lex.specs.declared.keyword.Keyword.TheVariants.{And, As, Asc, Begin, Between, Bigint, By, Clustered, Commit, Constraint, Count, Create, Database, Delete, Desc, Drop, From, In, Insert, Int, Into, Is, Key, Not, Null, Of, On, Or, Order, Primary, Restore, Rollback, Select, Set, Sum, Table, Tran, Transaction, Update, Use, Values, Varchar, Where}
use Rattle.sql_lex.specs.declared.token.TokenKind.TheVariants as kind
use Rattle.sql_lex.specs.declared.context_word.ContextWord.{ContextWord}
use Rattle.sql_lex.specs.declared.context_word.ContextWord.TheVariants as place
use Rattle.sql_lex.specs.declared.token.Mark.{Mark}
use Rattle.sql_lex.specs.declared.token.Mark.TheVariants as mark
use Rattle.sql_lex.specs.Words.{text_of, keywords, keyword_of, letters_of, is_same_mark, sign_of}
use Rattle.sql_lex.specs.Tokens.{Spells}
use Rattle.sql_lex.specs.Cut.{IsWord}
use Rattle.sql_lex.proofs.RunLemmas.{word_is_name}

-- each reserved word is found by its letters
pub keyword_found : (word : Keyword) → keyword_of (text_of word) ≡ Some word
keyword_found And = refl
keyword_found As = refl
keyword_found Asc = refl
keyword_found Begin = refl
keyword_found Between = refl
keyword_found Bigint = refl
keyword_found By = refl
keyword_found Clustered = refl
keyword_found Commit = refl
keyword_found Constraint = refl
keyword_found Count = refl
keyword_found Create = refl
keyword_found Database = refl
keyword_found Delete = refl
keyword_found Desc = refl
keyword_found Drop = refl
keyword_found From = refl
keyword_found In = refl
keyword_found Insert = refl
keyword_found Int = refl
keyword_found Into = refl
keyword_found Is = refl
keyword_found Key = refl
keyword_found Not = refl
keyword_found Null = refl
keyword_found Of = refl
keyword_found On = refl
keyword_found Or = refl
keyword_found Order = refl
keyword_found Primary = refl
keyword_found Restore = refl
keyword_found Rollback = refl
keyword_found Select = refl
keyword_found Set = refl
keyword_found Sum = refl
keyword_found Table = refl
keyword_found Tran = refl
keyword_found Transaction = refl
keyword_found Update = refl
keyword_found Use = refl
keyword_found Values = refl
keyword_found Varchar = refl
keyword_found Where = refl

found_here : {X : Type 0} (test : X → Bool) (x y : X) (v : Bool) (o : Option X) → test y ≡ v → cond v (Some y) o ≡ Some x → (o ≡ Some x → test x ≡ true) → test x ≡ true
found_here test x y true o h e later = let same : y ≡ x = cc in ap test (sym same) ∙ h
found_here test x y false o h e later = later e

found_passes : {X : Type 0} (test : X → Bool) (x : X) (xs : List X) → find test xs ≡ Some x → test x ≡ true
found_passes test x [] e = cc
found_passes test x (y ∷ ys) e = found_here test x y (test y) (find test ys) refl e (found_passes test x ys)

-- what is found has the letters
pub keyword_has : (letters : List ℕ) (word : Keyword) → keyword_of letters ≡ Some word → letters ≡ text_of word
keyword_has letters word e = (bytes_eq-Decides letters (text_of word)).0 (found_passes (λ w. bytes_eq letters (text_of w)) word keywords e)

none_of : {X : Type 0} (o : Option X) → ((x : X) → o ≡ Some x → ⊥) → o ≡ None
none_of None h = refl
none_of (Some x) h = absurd (h x refl)

-- letters of no reserved word
pub no_keyword : (letters : List ℕ) → ((word : Keyword) → letters ≢ text_of word) → keyword_of letters ≡ None
no_keyword letters other = none_of (keyword_of letters) (λ word e. other word (keyword_has letters word e))

-- each reserved word has the form of a name in lower case
abbrev pub HasNameForm : List ℕ → Type 0
HasNameForm letters = IsWord letters × (nat_le (length letters) 128 ≡ true) × (map to_ascii_lowercase letters ≡ letters)

pub keyword_form : (word : Keyword) → HasNameForm (text_of word)
keyword_form And = ((refl, refl, refl), refl, refl)
keyword_form As = ((refl, refl, refl), refl, refl)
keyword_form Asc = ((refl, refl, refl), refl, refl)
keyword_form Begin = ((refl, refl, refl), refl, refl)
keyword_form Between = ((refl, refl, refl), refl, refl)
keyword_form Bigint = ((refl, refl, refl), refl, refl)
keyword_form By = ((refl, refl, refl), refl, refl)
keyword_form Clustered = ((refl, refl, refl), refl, refl)
keyword_form Commit = ((refl, refl, refl), refl, refl)
keyword_form Constraint = ((refl, refl, refl), refl, refl)
keyword_form Count = ((refl, refl, refl), refl, refl)
keyword_form Create = ((refl, refl, refl), refl, refl)
keyword_form Database = ((refl, refl, refl), refl, refl)
keyword_form Delete = ((refl, refl, refl), refl, refl)
keyword_form Desc = ((refl, refl, refl), refl, refl)
keyword_form Drop = ((refl, refl, refl), refl, refl)
keyword_form From = ((refl, refl, refl), refl, refl)
keyword_form In = ((refl, refl, refl), refl, refl)
keyword_form Insert = ((refl, refl, refl), refl, refl)
keyword_form Int = ((refl, refl, refl), refl, refl)
keyword_form Into = ((refl, refl, refl), refl, refl)
keyword_form Is = ((refl, refl, refl), refl, refl)
keyword_form Key = ((refl, refl, refl), refl, refl)
keyword_form Not = ((refl, refl, refl), refl, refl)
keyword_form Null = ((refl, refl, refl), refl, refl)
keyword_form Of = ((refl, refl, refl), refl, refl)
keyword_form On = ((refl, refl, refl), refl, refl)
keyword_form Or = ((refl, refl, refl), refl, refl)
keyword_form Order = ((refl, refl, refl), refl, refl)
keyword_form Primary = ((refl, refl, refl), refl, refl)
keyword_form Restore = ((refl, refl, refl), refl, refl)
keyword_form Rollback = ((refl, refl, refl), refl, refl)
keyword_form Select = ((refl, refl, refl), refl, refl)
keyword_form Set = ((refl, refl, refl), refl, refl)
keyword_form Sum = ((refl, refl, refl), refl, refl)
keyword_form Table = ((refl, refl, refl), refl, refl)
keyword_form Tran = ((refl, refl, refl), refl, refl)
keyword_form Transaction = ((refl, refl, refl), refl, refl)
keyword_form Update = ((refl, refl, refl), refl, refl)
keyword_form Use = ((refl, refl, refl), refl, refl)
keyword_form Values = ((refl, refl, refl), refl, refl)
keyword_form Varchar = ((refl, refl, refl), refl, refl)
keyword_form Where = ((refl, refl, refl), refl, refl)

-- its own letters spell a reserved word
pub keyword_spelled : (word : Keyword) → Spells (text_of word) (kind.Key word)
keyword_spelled word = let form = keyword_form word in (word_is_name (text_of word) form.0 (leb-true _ _ form.1), form.2)

-- other letters in lower case spell a name
pub name_spelled : (letters : List ℕ) → HasNameForm letters → keyword_of letters ≡ None → Spells letters (kind.Named letters)
name_spelled letters form other = (word_is_name letters form.0 (leb-true _ _ form.1), form.2, (λ word same. let found : keyword_of letters ≡ Some word = ap keyword_of same ∙ keyword_found word in cc))

-- a word with a meaning in its place alone is spelled as a name
pub word_spelled : (word : ContextWord) → Spells (letters_of word) (kind.Named (letters_of word))
word_spelled place.Committed = name_spelled (codes "committed") ((refl, refl, refl), refl, refl) refl
word_spelled place.DatabaseSnapshot = name_spelled (codes "database_snapshot") ((refl, refl, refl), refl, refl) refl
word_spelled place.Dbo = name_spelled (codes "dbo") ((refl, refl, refl), refl, refl) refl
word_spelled place.Filename = name_spelled (codes "filename") ((refl, refl, refl), refl, refl) refl
word_spelled place.Isolation = name_spelled (codes "isolation") ((refl, refl, refl), refl, refl) refl
word_spelled place.Level = name_spelled (codes "level") ((refl, refl, refl), refl, refl) refl
word_spelled place.LockTimeout = name_spelled (codes "lock_timeout") ((refl, refl, refl), refl, refl) refl
word_spelled place.Name = name_spelled (codes "name") ((refl, refl, refl), refl, refl) refl
word_spelled place.Read = name_spelled (codes "read") ((refl, refl, refl), refl, refl) refl
word_spelled place.Serializable = name_spelled (codes "serializable") ((refl, refl, refl), refl, refl) refl
word_spelled place.Snapshot = name_spelled (codes "snapshot") ((refl, refl, refl), refl, refl) refl
word_spelled place.Work = name_spelled (codes "work") ((refl, refl, refl), refl, refl) refl

-- marks of the same signs are one
pub same_mark : (a b : Mark) → is_same_mark a b ≡ true → a ≡ b
same_mark mark.Open mark.Open h = refl
same_mark mark.Close mark.Close h = refl
same_mark mark.Comma mark.Comma h = refl
same_mark mark.Semicolon mark.Semicolon h = refl
same_mark mark.Dot mark.Dot h = refl
same_mark mark.Star mark.Star h = refl
same_mark mark.Plus mark.Plus h = refl
same_mark mark.Minus mark.Minus h = refl
same_mark mark.Equal mark.Equal h = refl
same_mark mark.NotEqual mark.NotEqual h = refl
same_mark mark.Less mark.Less h = refl
same_mark mark.AtMost mark.AtMost h = refl
same_mark mark.Greater mark.Greater h = refl
same_mark mark.AtLeast mark.AtLeast h = refl
same_mark _ _ h = cc

-- the signs of a mark spell it
pub mark_spelled : (m : Mark) → Spells (sign_of m) (kind.Mark m)
mark_spelled mark.Open = refl
mark_spelled mark.Close = refl
mark_spelled mark.Comma = refl
mark_spelled mark.Semicolon = refl
mark_spelled mark.Dot = refl
mark_spelled mark.Star = refl
mark_spelled mark.Plus = refl
mark_spelled mark.Minus = refl
mark_spelled mark.Equal = refl
mark_spelled mark.NotEqual = inl refl
mark_spelled mark.Less = refl
mark_spelled mark.AtMost = refl
mark_spelled mark.Greater = refl
mark_spelled mark.AtLeast = refl

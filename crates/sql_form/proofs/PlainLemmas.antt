-- The test of whether one token tells how to go on.
use Rattle.std.specs.Prelude.{is_some, ◌&&◌, ◌||◌, not}
use Rattle.std.specs.List.{list_all, list_any}
use Rattle.std.specs.Str.{bytes_eq}
use Rattle.std.proofs.Common.{◌≡◌, ℕ, Bool, true, false, List, [], ◌∷◌, ◌++◌, ℤ, sym, ◌∙◌, refl}
use Rattle.std.proofs.lemmas.Slice.Eq.{bytes_eq-Decides}
use Rattle.sql_lex.specs.declared.keyword.Keyword.{Keyword}
use Rattle.sql_lex.specs.declared.keyword.Keyword.TheVariants as word
use Rattle.sql_lex.specs.declared.token.Mark.{Mark}
use Rattle.sql_lex.specs.declared.token.Mark.TheVariants as mark
use Rattle.sql_lex.specs.declared.token.TokenKind.{TokenKind}
use Rattle.sql_lex.specs.declared.token.TokenKind.TheVariants as kind
use Rattle.sql_lex.specs.Words.{is_same, is_same_mark, text_of, letters_of, sign_of}
use Rattle.sql_expr.specs.Roles.{word_role, mark_role, kind_role}
use Rattle.sql_expr.specs.Laws.{goes_on}
use Rattle.sql_form.specs.Rules.{loose}
use Rattle.sql_form.specs.Form.{Leaf, Key, Word, Sign, Nought, AnyName, AnyNumber, FileText, NameText, if_so, is_key, is_word, is_sign, name_of, said, Form, One, Table, Expr, Then, Or, May, Many, Parts}
use Rattle.sql_form.specs.Grammar.{word_starts, mark_starts, starts, or_if, is_solid, first, continues, IsPlain}
use Rattle.sql_form.specs.Plain.{Class, OfKey, OfWord, OfSign, OfNames, OfNumbers, OfTexts, meet, is_of, are_apart, class_of, expr_starts, expr_goes_on, with_more, firsts, nexts, is_plain}

-- a token of some class of the list
abbrev IsOne : TokenKind → List Class → Type 0
IsOne k cs = list_any (is_of k) cs ≡ true

same_bytes : (a b c : List ℕ) → bytes_eq c a ≡ true → bytes_eq c b ≡ true → bytes_eq a b ≡ true
same_bytes a b c h k = (bytes_eq-Decides a b).1 (sym ((bytes_eq-Decides c a).0 h) ∙ (bytes_eq-Decides c b).0 k)

same_keys : (a b : Keyword) (k : TokenKind) → is_key a k ≡ true → is_key b k ≡ true → is_same a b ≡ true
same_keys a b (kind.Key found) h m = same_bytes (text_of a) (text_of b) (text_of found) h m
same_keys a b _ h m = cc

same_signs : (a b : Mark) (k : TokenKind) → is_sign a k ≡ true → is_sign b k ≡ true → is_same_mark a b ≡ true
same_signs a b (kind.Mark found) h m = same_bytes (sign_of a) (sign_of b) (sign_of found) h m
same_signs a b _ h m = cc

meet_of_key : (w : Keyword) (c d : Class) → is_of (kind.Key w) c ≡ true → is_of (kind.Key w) d ≡ true → meet c d ≡ true
meet_of_key w (OfKey a) (OfKey b) h m = same_keys a b (kind.Key w) h m
meet_of_key w (OfKey a) _ h m = cc
meet_of_key w _ d h m = cc

meet_of_sign : (w : Mark) (c d : Class) → is_of (kind.Mark w) c ≡ true → is_of (kind.Mark w) d ≡ true → meet c d ≡ true
meet_of_sign w (OfSign a) (OfSign b) h m = same_signs a b (kind.Mark w) h m
meet_of_sign w (OfSign a) _ h m = cc
meet_of_sign w _ d h m = cc

meet_of_name : (name : List ℕ) (c d : Class) → is_of (kind.Named name) c ≡ true → is_of (kind.Named name) d ≡ true → meet c d ≡ true
meet_of_name name (OfWord a) (OfWord b) h m = same_bytes (letters_of a) (letters_of b) name h m
meet_of_name name (OfWord a) OfNames h m = refl
meet_of_name name (OfWord a) _ h m = cc
meet_of_name name OfNames (OfWord b) h m = refl
meet_of_name name OfNames OfNames h m = refl
meet_of_name name OfNames _ h m = cc
meet_of_name name _ d h m = cc

meet_of_bracketed : (name : List ℕ) (c d : Class) → is_of (kind.Bracketed name) c ≡ true → is_of (kind.Bracketed name) d ≡ true → meet c d ≡ true
meet_of_bracketed name OfNames OfNames h m = refl
meet_of_bracketed name OfNames _ h m = cc
meet_of_bracketed name _ d h m = cc

meet_of_number : (n : ℤ) (c d : Class) → is_of (kind.Number n) c ≡ true → is_of (kind.Number n) d ≡ true → meet c d ≡ true
meet_of_number n OfNumbers OfNumbers h m = refl
meet_of_number n OfNumbers _ h m = cc
meet_of_number n _ d h m = cc

meet_of_text : (text : List ℕ) (c d : Class) → is_of (kind.Text text) c ≡ true → is_of (kind.Text text) d ≡ true → meet c d ≡ true
meet_of_text text OfTexts OfTexts h m = refl
meet_of_text text OfTexts _ h m = cc
meet_of_text text _ d h m = cc

none_bad : (c : Class) → is_of kind.Bad c ≡ true → ⊥
none_bad (OfKey a) h = cc
none_bad (OfWord a) h = cc
none_bad (OfSign a) h = cc
none_bad OfNames h = cc
none_bad OfNumbers h = cc
none_bad OfTexts h = cc

none_end : (c : Class) → is_of kind.End c ≡ true → ⊥
none_end (OfKey a) h = cc
none_end (OfWord a) h = cc
none_end (OfSign a) h = cc
none_end OfNames h = cc
none_end OfNumbers h = cc
none_end OfTexts h = cc

-- classes of which one token is have a token in common
meet_at : (k : TokenKind) (c d : Class) → is_of k c ≡ true → is_of k d ≡ true → meet c d ≡ true
meet_at (kind.Key w) c d h m = meet_of_key w c d h m
meet_at (kind.Mark w) c d h m = meet_of_sign w c d h m
meet_at (kind.Named name) c d h m = meet_of_name name c d h m
meet_at (kind.Bracketed name) c d h m = meet_of_bracketed name c d h m
meet_at (kind.Number n) c d h m = meet_of_number n c d h m
meet_at (kind.Text text) c d h m = meet_of_text text c d h m
meet_at kind.Bad c d h m = absurd (none_bad c h)
meet_at kind.End c d h m = absurd (none_end c h)

not_and : (b : Bool) → b ≡ true → not b ≡ true → ⊥
not_and true h k = cc
not_and false h k = cc

both_true : (a b : Bool) → (a && b) ≡ true → (a ≡ true) × (b ≡ true)
both_true true b h = (refl, h)
both_true false b h = cc

apart_case : (c d : Class) (ds : List Class) (k : TokenKind) → is_of k c ≡ true → (b : Bool) → is_of k d ≡ b → (b || list_any (is_of k) ds) ≡ true → not (meet c d) ≡ true → (IsOne k ds → ⊥) → ⊥
apart_case c d ds k h true is any free more = not_and (meet c d) (meet_at k c d h is) free
apart_case c d ds k h false is any free more = more any

apart_one : (c : Class) (ds : List Class) (k : TokenKind) → is_of k c ≡ true → IsOne k ds → list_all (λ d. not (meet c d)) ds ≡ true → ⊥
apart_one c [] k h m free = cc
apart_one c (d ∷ ds) k h m free =
    let both = both_true (not (meet c d)) (list_all (λ e. not (meet c e)) ds) free in
    apart_case c d ds k h (is_of k d) refl m both.0 (λ n. apart_one c ds k h n both.1)

apart_more : (c : Class) (cs ds : List Class) (k : TokenKind) (b : Bool) → is_of k c ≡ b → (b || list_any (is_of k) cs) ≡ true → IsOne k ds → list_all (λ d. not (meet c d)) ds ≡ true → (IsOne k cs → ⊥) → ⊥
apart_more c cs ds k true is any m free more = apart_one c ds k is m free
apart_more c cs ds k false is any m free more = more any

-- no token is of two lists of classes that are apart
apart : (cs ds : List Class) (k : TokenKind) → IsOne k cs → IsOne k ds → are_apart cs ds ≡ true → ⊥
apart [] ds k h m free = cc
apart (c ∷ cs) ds k h m free =
    let both = both_true (list_all (λ d. not (meet c d)) ds) (are_apart cs ds) free in
    apart_more c cs ds k (is_of k c) refl h m both.0 (λ n. apart cs ds k n m both.1)

or_or : (a b c : Bool) → (b ≡ true → c ≡ true) → (a || b) ≡ true → (a || c) ≡ true
or_or true b c k h = refl
or_or false b c k h = k h

-- a longer list has what its parts have
one_left : (cs ds : List Class) (k : TokenKind) → IsOne k cs → IsOne k (cs ++ ds)
one_left [] ds k h = cc
one_left (c ∷ cs) ds k h = or_or (is_of k c) (list_any (is_of k) cs) (list_any (is_of k) (cs ++ ds)) (one_left cs ds k) h

or_later : (a b : Bool) → b ≡ true → (a || b) ≡ true
or_later true b h = refl
or_later false b h = h

one_right : (cs ds : List Class) (k : TokenKind) → IsOne k ds → IsOne k (cs ++ ds)
one_right [] ds k h = h
one_right (c ∷ cs) ds k h = or_later (is_of k c) (list_any (is_of k) (cs ++ ds)) (one_right cs ds k h)

single : (c : Class) (k : TokenKind) → is_of k c ≡ true → IsOne k (c ∷ [])
single c k h = rw h refl

so_some : (b : Bool) → is_some (if_so b) ≡ true → b ≡ true
so_some true h = refl
so_some false h = cc

leaf_class : (l : Leaf) (k : TokenKind) → is_some (said loose l k) ≡ true → is_of k (class_of l) ≡ true
leaf_class (Key wanted) k h = so_some (is_key wanted k) h
leaf_class (Sign wanted) k h = so_some (is_sign wanted k) h
leaf_class (Word wanted) k h = so_some (is_word wanted k) h
leaf_class Nought (kind.Number n) h = refl
leaf_class Nought _ h = cc
leaf_class AnyName (kind.Named name) h = refl
leaf_class AnyName (kind.Bracketed name) h = refl
leaf_class AnyName _ h = cc
leaf_class AnyNumber (kind.Number n) h = refl
leaf_class AnyNumber _ h = cc
leaf_class FileText (kind.Text text) h = refl
leaf_class FileText _ h = cc
leaf_class NameText (kind.Text text) h = refl
leaf_class NameText _ h = cc

word_class : (w : Keyword) → word_starts (word_role w) ≡ true → IsOne (kind.Key w) expr_starts
word_class word.Not h = refl
word_class word.Null h = refl
word_class word.And h = cc
word_class word.Or h = cc
word_class word.Is h = cc
word_class word.Between h = cc
word_class word.In h = cc
word_class _ h = cc

mark_class : (m : Mark) → mark_starts (mark_role m) ≡ true → IsOne (kind.Mark m) expr_starts
mark_class mark.Open h = refl
mark_class mark.Minus h = refl
mark_class _ h = cc

start_class : (names : Bool) (k : TokenKind) → starts names k ≡ true → IsOne k expr_starts
start_class names (kind.Key w) h = word_class w h
start_class names (kind.Mark m) h = mark_class m h
start_class names (kind.Named name) h = refl
start_class names (kind.Bracketed name) h = refl
start_class names (kind.Number n) h = refl
start_class names (kind.Text text) h = refl
start_class names kind.Bad h = cc
start_class names kind.End h = cc

word_on : (w : Keyword) → goes_on (word_role w) ≡ true → IsOne (kind.Key w) expr_goes_on
word_on word.Or h = refl
word_on word.And h = refl
word_on word.Not h = refl
word_on word.Is h = refl
word_on word.Between h = refl
word_on word.In h = refl
word_on _ h = cc

mark_on : (m : Mark) → goes_on (mark_role m) ≡ true → IsOne (kind.Mark m) expr_goes_on
mark_on mark.Star h = refl
mark_on mark.Plus h = refl
mark_on mark.Minus h = refl
mark_on mark.Equal h = refl
mark_on mark.NotEqual h = refl
mark_on mark.Less h = refl
mark_on mark.AtMost h = refl
mark_on mark.Greater h = refl
mark_on mark.AtLeast h = refl
mark_on _ h = cc

on_class : (k : TokenKind) → goes_on (kind_role k) ≡ true → IsOne k expr_goes_on
on_class (kind.Key w) h = word_on w h
on_class (kind.Mark m) h = mark_on m h
on_class _ h = cc

table_class : (k : TokenKind) → is_some (name_of k) ≡ true → IsOne k (OfNames ∷ [])
table_class (kind.Named name) h = refl
table_class (kind.Bracketed name) h = refl
table_class _ h = cc

with_class : (s a b : Bool) (cs ds : List Class) (k : TokenKind) → (a ≡ true → IsOne k cs) → (b ≡ true → IsOne k ds) → or_if s a b ≡ true → IsOne k (with_more s cs ds)
with_class true a b cs ds k f g h = f h
with_class false true b cs ds k f g h = one_left cs ds k (f refl)
with_class false false b cs ds k f g h = one_right cs ds k (g h)

either_class : (a b : Bool) (cs ds : List Class) (k : TokenKind) → (a ≡ true → IsOne k cs) → (b ≡ true → IsOne k ds) → (a || b) ≡ true → IsOne k (cs ++ ds)
either_class true b cs ds k f g h = one_left cs ds k (f refl)
either_class false b cs ds k f g h = one_right cs ds k (g h)

-- a form begins with tokens of its classes alone
first_class : (f : Form) (k : TokenKind) → first f k ≡ true → IsOne k (firsts f)
first_class (One leaf) k h = single (class_of leaf) k (leaf_class leaf k h)
first_class Table k h = table_class k h
first_class (Expr names truth) k h = start_class names k h
first_class (Then f g) k h = with_class (is_solid f) (first f k) (first g k) (firsts f) (firsts g) k (first_class f k) (first_class g k) h
first_class (Or f g) k h = either_class (first f k) (first g k) (firsts f) (firsts g) k (first_class f k) (first_class g k) h
first_class (May f) k h = first_class f k h
first_class (Many f) k h = first_class f k h
first_class (Parts most every part) k h = first_class part k h

comma_class : (b : Bool) (k : TokenKind) (cs : List Class) → (b ≡ true → IsOne k cs) → (is_sign mark.Comma k || b) ≡ true → (is_sign mark.Comma k || list_any (is_of k) cs) ≡ true
comma_class b k cs f h = or_or (is_sign mark.Comma k) b (list_any (is_of k) cs) f h

-- and goes on with such tokens
next_class : (f : Form) (k : TokenKind) → continues f k ≡ true → IsOne k (nexts f)
next_class (One leaf) k h = cc
next_class Table k h = single (OfSign mark.Dot) k h
next_class (Expr names truth) k h = on_class k h
next_class (Then f g) k h = with_class (is_solid g) (continues g k) (continues f k) (nexts g) (nexts f) k (next_class g k) (next_class f k) h
next_class (Or f g) k h = either_class (continues f k) (continues g k) (nexts f) (nexts g) k (next_class f k) (next_class g k) h
next_class (May f) k h = either_class (first f k) (continues f k) (firsts f) (nexts f) k (first_class f k) (next_class f k) h
next_class (Many f) k h = either_class (first f k) (continues f k) (firsts f) (nexts f) k (first_class f k) (next_class f k) h
next_class (Parts most every part) k h = comma_class (continues part k) k (nexts part) (next_class part k) h

-- where the test holds, one token tells how to go on
pub plain_is : (f : Form) → is_plain f ≡ true → IsPlain f
plain_is (One leaf) h = tt
plain_is Table h = tt
plain_is (Expr names truth) h = tt
plain_is (Then f g) h =
    let a = both_true (is_plain f) (is_plain g && are_apart (nexts f) (firsts g)) h in
    let b = both_true (is_plain g) (are_apart (nexts f) (firsts g)) a.1 in
    (plain_is f a.0, plain_is g b.0, λ k m n. apart (nexts f) (firsts g) k (next_class f k m) (first_class g k n) b.1)
plain_is (Or f g) h =
    let a = both_true (is_plain f) (is_plain g && (is_solid f && (is_solid g && are_apart (firsts f) (firsts g)))) h in
    let b = both_true (is_plain g) (is_solid f && (is_solid g && are_apart (firsts f) (firsts g))) a.1 in
    let c = both_true (is_solid f) (is_solid g && are_apart (firsts f) (firsts g)) b.1 in
    let d = both_true (is_solid g) (are_apart (firsts f) (firsts g)) c.1 in
    (plain_is f a.0, plain_is g b.0, c.0, d.0, λ k m n. apart (firsts f) (firsts g) k (first_class f k m) (first_class g k n) d.1)
plain_is (May f) h = let a = both_true (is_plain f) (is_solid f) h in (plain_is f a.0, a.1)
plain_is (Many f) h =
    let a = both_true (is_plain f) (is_solid f && are_apart (nexts f) (firsts f)) h in
    let b = both_true (is_solid f) (are_apart (nexts f) (firsts f)) a.1 in
    (plain_is f a.0, b.0, λ k m n. apart (nexts f) (firsts f) k (next_class f k m) (first_class f k n) b.1)
plain_is (Parts most every part) h =
    let a = both_true (is_plain part) (is_solid part && are_apart (nexts part) (OfSign mark.Comma ∷ [])) h in
    let b = both_true (is_solid part) (are_apart (nexts part) (OfSign mark.Comma ∷ [])) a.1 in
    (plain_is part a.0, b.0, λ k m n. apart (nexts part) (OfSign mark.Comma ∷ []) k (next_class part k m) (single (OfSign mark.Comma) k n) b.1)

-- What is of the grammar, and printed, is within the rules that statements keep.
use Rattle.std.specs.Prelude.{◌&&◌, ◌||◌, nat_le, Option, Some, None}
use Rattle.std.specs.List.{list_all}
use Rattle.std.proofs.Common.{◌≡◌, ℕ, ◌≤◌, Bool, true, false, List, [], ◌∷◌, ◌++◌, length, ap, sym, ◌∙◌, refl, arith}
use Rattle.std.proofs.lemmas.Bool.{le-leb}
use Rattle.std.proofs.lemmas.List.Folds.{list_all-append}
use Rattle.plain_model.specs.Tree.{Tree}
use Rattle.plain_model.specs.Shape.{is_value, is_truth, is_small, operators, levels, each_leaf, has_printable_text, is_no_column}
use Rattle.sql_lex.specs.Ahead.{first_of}
use Rattle.sql_lex.specs.declared.token.Token.{Token}
use Rattle.sql_lex.specs.declared.token.TokenKind.{TokenKind}
use Rattle.sql_expr.specs.Grammar.{IsWhole}
use Rattle.sql_expr.specs.Laws.{is_printed, are_printed}
use Rattle.sql_expr.specs.Rules as expr
use Rattle.sql_expr.proofs.Promises.{both, kinds_of, levels_of, leaves_of, printed_pass, no_column_pass}
use Rattle.sql_form.specs.Form.{Form, One, Table, Expr, Then, Or, May, Many, Parts, Either, Left, Right, Value}
use Rattle.sql_form.specs.Grammar.{IsForm, AreMany, AreParts, IsList, counts, spared}
use Rattle.sql_form.specs.Rules.{strict}

-- an expression is of its kind, within the limits, and has columns only where it may
abbrev pub is_good : (names truth : Bool) → Tree → Bool
is_good true true e = is_truth e && is_small e
is_good true false e = is_value e && is_small e
is_good false true e = is_truth e && is_small e
is_good false false e = (is_value e && is_small e) && each_leaf is_no_column e

-- so is each expression in a value
abbrev pub are_good : (f : Form) → Value f → Bool
are_good (One leaf) x = true
are_good Table x = true
are_good (Expr names truth) e = is_good names truth e
are_good (Then f g) (x, y) = are_good f x && are_good g y
are_good (Or f g) (Left x) = are_good f x
are_good (Or f g) (Right y) = are_good g y
are_good (May f) None = true
are_good (May f) (Some x) = are_good f x
are_good (Many f) xs = list_all (are_good f) xs
are_good (Parts most every part) xs = list_all (are_good part) xs

pub and_left : (a b : Bool) → (a && b) ≡ true → a ≡ true
and_left true b h = refl
and_left false b h = cc

pub and_right : (a b : Bool) → (a && b) ≡ true → b ≡ true
and_right true b h = h
and_right false b h = cc

pub printed_parts : (ts us vs : List Token) → ts ≡ us ++ vs → are_printed ts ≡ true → (are_printed us && are_printed vs) ≡ true
printed_parts ts us vs split h = sym (list_all-append (λ t. is_printed t.kind) us vs) ∙ ap are_printed (sym split) ∙ h

small_whole : (names truth : Bool) (e : Tree) (ts : List Token) → IsWhole names expr.strict truth e ts → are_printed ts ≡ true → is_small e ≡ true
small_whole names truth e ts w printed =
    both (nat_le (operators e) 1000) (nat_le (levels e) 100 && each_leaf has_printable_text e) (le-leb (operators e) 1000 (w.few refl))
    (both (nat_le (levels e) 100) (each_leaf has_printable_text e) (le-leb (levels e) 100 (levels_of w.spelled refl)) (leaves_of has_printable_text w.spelled (printed_pass names ts printed)))

-- an expression of the grammar is a good one
good_expr : (names truth : Bool) (e : Tree) (ts : List Token) → IsWhole names expr.strict truth e ts → are_printed ts ≡ true → is_good names truth e ≡ true
good_expr true true e ts w printed = both (is_truth e) (is_small e) ((kinds_of w.spelled refl).truth (w.kind refl)) (small_whole true true e ts w printed)
good_expr true false e ts w printed = both (is_value e) (is_small e) ((kinds_of w.spelled refl).value (w.kind refl)) (small_whole true false e ts w printed)
good_expr false true e ts w printed = both (is_truth e) (is_small e) ((kinds_of w.spelled refl).truth (w.kind refl)) (small_whole false true e ts w printed)
good_expr false false e ts w printed =
    both (is_value e && is_small e) (each_leaf is_no_column e) (both (is_value e) (is_small e) ((kinds_of w.spelled refl).value (w.kind refl)) (small_whole false false e ts w printed))
    (leaves_of is_no_column w.spelled (no_column_pass ts))

good_many : {A : Type 0} (is : A → List Token → Type 0) (good : A → Bool) → ((x : A) (us : List Token) → is x us → are_printed us ≡ true → good x ≡ true)
    → (xs : List A) (ts : List Token) → AreMany is xs ts → are_printed ts ≡ true → list_all good xs ≡ true
good_many is good each [] ts h printed = refl
good_many is good each (x ∷ xs) ts (us, vs, split, a, more) printed =
    let p = printed_parts ts us vs split printed in
    both (good x) (list_all good xs) (each x us a (and_left (are_printed us) (are_printed vs) p)) (good_many is good each xs vs more (and_right (are_printed us) (are_printed vs) p))

good_parts : {A : Type 0} (is : A → List Token → Type 0) (good : A → Bool) (limited : Bool) (counted : TokenKind → Bool) → ((x : A) (us : List Token) → is x us → are_printed us ≡ true → good x ≡ true)
    → (n : ℕ) (x : A) (xs : List A) (ts : List Token) → AreParts is limited counted n x xs ts → are_printed ts ≡ true → list_all good (x ∷ xs) ≡ true
good_parts is good limited counted each n x [] ts h printed = both (good x) true (each x ts h.0 printed) refl
good_parts is good limited counted each n x (y ∷ ys) ts (us, comma, vs, split, a, full, sign, more) printed =
    let p = printed_parts ts us (comma ∷ vs) split printed in
    both (good x) (list_all good (y ∷ ys)) (each x us a (and_left (are_printed us) (are_printed (comma ∷ vs)) p))
    (good_parts is good limited counted each (spared (counted (first_of us).kind) n) y ys vs more (and_right (is_printed comma.kind) (are_printed vs) (and_right (are_printed us) (are_printed (comma ∷ vs)) p)))

good_list : {A : Type 0} (is : A → List Token → Type 0) (good : A → Bool) (limited : Bool) (counted : TokenKind → Bool) → ((x : A) (us : List Token) → is x us → are_printed us ≡ true → good x ≡ true)
    → (n : ℕ) (xs : List A) (ts : List Token) → IsList is limited counted n xs ts → are_printed ts ≡ true → list_all good xs ≡ true
good_list is good limited counted each n [] ts h printed = absurd h
good_list is good limited counted each n (x ∷ xs) ts h printed = good_parts is good limited counted each n x xs ts h printed

-- the expressions in what is of a form are good ones
pub good_form : (f : Form) (x : Value f) (ts : List Token) → IsForm strict f x ts → are_printed ts ≡ true → are_good f x ≡ true
good_form (One leaf) x ts h printed = refl
good_form Table x ts h printed = refl
good_form (Expr names truth) e ts h printed = good_expr names truth e ts h printed
good_form (Then f g) (x, y) ts (us, vs, split, a, b) printed =
    let p = printed_parts ts us vs split printed in
    both (are_good f x) (are_good g y) (good_form f x us a (and_left (are_printed us) (are_printed vs) p)) (good_form g y vs b (and_right (are_printed us) (are_printed vs) p))
good_form (Or f g) (Left x) ts h printed = good_form f x ts h printed
good_form (Or f g) (Right y) ts h printed = good_form g y ts h printed
good_form (May f) None ts h printed = refl
good_form (May f) (Some x) ts h printed = good_form f x ts h printed
good_form (Many f) xs ts h printed = good_many (IsForm strict f) (are_good f) (good_form f) xs ts h printed
good_form (Parts most every part) xs ts h printed = good_list (IsForm strict part) (are_good part) true (counts every part) (good_form part) most xs ts h printed

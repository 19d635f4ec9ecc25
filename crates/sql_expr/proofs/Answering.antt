-- From what the machine leads to, to the laws and to what callers are told.
use Rattle.std.specs.Prelude.{Option, Some, None, not, ◌&&◌, Result, Ok, Err, IfOk, nat_le}
use Rattle.std.proofs.Common.{◌≡◌, ℕ, suc, zero, sym, ◌∙◌, ◌+◌, ◌≤◌, ◌<◌, Bool, true, false, List, [], ◌∷◌, ◌++◌, length, ap, refl, arith}
use Rattle.std.proofs.lemmas.List.{length-append}
use Rattle.std.proofs.lemmas.List.Folds.{list_all-append}
use Rattle.std.proofs.lemmas.Bool.{le-leb}
use Rattle.plain_model.specs.declared.expr.Expr.{Expr}
use Rattle.plain_model.specs.Tree.{Tree, tree_of}
use Rattle.plain_model.specs.Shape.{is_value, is_truth, is_small, operators, levels, each_leaf, has_printable_text, is_no_column}
use Rattle.plain_model.specs.Sound.{is_value_expr, is_entry, is_filter}
use Rattle.sql_lex.specs.declared.refusal.ParseRefusal.{ParseRefusal}
use Rattle.sql_lex.specs.declared.token.Token.{Token}
use Rattle.sql_expr.specs.declared.role.Role.TheVariants as role
use Rattle.sql_expr.specs.declared.role.Level.{Level}
use Rattle.sql_expr.specs.declared.role.Level.TheVariants.{Ors, Ands, Nots, Comps, Sums, Prods, Unaries}
use Rattle.sql_expr.specs.Rules.{Rules, strict, has_truth}
use Rattle.sql_expr.specs.Grammar.{joins, IsWhole}
use Rattle.sql_expr.specs.Roles.{role_of, leaf}
use Rattle.sql_expr.specs.Got.{Got, Done, Refused}
use Rattle.sql_expr.specs.Symbols.{Part, Symbol, Want, May, Judge, Shut, Nullness, NullAfterNot, AfterNot, Low, Opens, Entry}
use Rattle.sql_expr.specs.Machine.{Fault, Next, Go, Over, Refuse, only_if, same, judged, opened, counted, stepped, feed, WrongKind, TooDeep, TooMany}
use Rattle.sql_expr.specs.Table.{Step, Stuck, Take, Leave, act, start, follow}
use Rattle.sql_expr.specs.Read.{Outcome, Open, Ended, Stopped, go_on, run, no_part, whole, reading, got, read_front, Answers}
use Rattle.sql_expr.specs.Laws.{IsBehind, HasEnd, IsFront, IsRefused, is_printed, are_printed}
use Rattle.sql_expr.proofs.Lists.{has, has_some}
use Rattle.sql_expr.proofs.Complete.{is_leaf, leaf_role}
use Rattle.sql_expr.proofs.Promises.{kinds_of, levels_of, leaves_of, PassLeaves, pass_front, printed_pass, no_column_pass, and_right, both}
use Rattle.sql_expr.proofs.LawLemmas.{completely, front_is, refused_is}

-- what is read was led to
done_is : (o : Outcome) (e : Tree) (rest : List Token) → got o ≡ Done e rest → (out : Part) × (left : ℕ) × (o ≡ Ended out left rest) × (out.tree ≡ e)
done_is (Open s p m) e rest h = cc
done_is (Ended out left us) e rest h = let a : us ≡ rest = cc in let b : out.tree ≡ e = cc in (out, left, rw a refl, b)
done_is (Stopped why at) e rest h = cc

pub in_grammar : (names truth : Bool) (ts rest : List Token) (e : Tree) → read_front names truth ts ≡ Done e rest → IsFront names truth ts e rest
unfolding read_front
in_grammar names truth ts rest e h = let d = done_is (reading names strict truth ts) e rest h in rw d.3 at (front_is names truth ts d.0 d.1 rest d.2)

pub is_read : (names truth : Bool) (e : Tree) (front rest : List Token) → IsWhole names strict truth e front → IsBehind rest → read_front names truth (front ++ rest) ≡ Done e rest
unfolding read_front
is_read names truth e front rest w h = ap got (completely names strict truth e front rest w h)

has_length : (ts : List Token) → has ts ≡ true → 0 < length ts
has_length [] h = cc
has_length (t ∷ ts) h = omega arith

pub front_shorter : {names truth : Bool} {ts rest : List Token} {e : Tree} → IsFront names truth ts e rest → length rest < length ts
front_shorter {rest = rest} f = omega (arith, ap length f.split, length-append f.front rest, has_length f.front (has_some f.whole.spelled))

pub is_taken : (names truth : Bool) (ts rest : List Token) (e : Tree) → read_front names truth ts ≡ Done e rest → length rest < length ts
is_taken names truth ts rest e h = front_shorter (in_grammar names truth ts rest e h)

-- a token that is of no expression is never taken
abbrev NotTaken : Step → Type 0
NotTaken Stuck = Unit {0}
NotTaken (Take symbols now) = ⊥
NotTaken (Leave now) = Unit {0}

leaf_other : (names : Bool) (t : Token) (o : Option Tree) → leaf names t.kind ≡ o → role_of t ≡ role.Other → o ≡ None
leaf_other names t None is k = refl
leaf_other names t (Some e) is k = let e2 : is_leaf (role_of t) ≡ true = leaf_role names t.kind e is in let e3 : is_leaf role.Other ≡ true = rw k at e2 in cc

start_other : (l : Level) (n at : ℕ) (now : Part) → NotTaken (start l role.Other n None at now).step
start_other Ors n at now = tt
start_other Ands n at now = tt
start_other Nots n at now = tt
start_other Comps n at now = tt
start_other Sums n at now = tt
start_other Prods n at now = tt
start_other Unaries n at now = tt

follow_other : (l : Level) (n : ℕ) (now : Part) → NotTaken (follow (joins l role.Other) l role.Other n now).step
follow_other Ors n now = tt
follow_other Ands n now = tt
follow_other Nots n now = tt
follow_other Comps n now = tt
follow_other Sums n now = tt
follow_other Prods n now = tt
follow_other Unaries n now = tt

act_other : (names : Bool) (s : Symbol) (now : Part) (t : Token) → role_of t ≡ role.Other → NotTaken (act names s now t).step
act_other names (Want n l) now t k = rw (k, leaf_other names t (leaf names t.kind) refl k) (start_other l n t.at now)
act_other names (May n l) now t k = rw k (follow_other l n now)
act_other names (Judge truth frame) now t k = tt
act_other names (Shut at) now t k = rw k tt
act_other names (Nullness left) now t k = rw k tt
act_other names (NullAfterNot left) now t k = rw k tt
act_other names (AfterNot n left) now t k = rw k tt
act_other names (Low n negative left) now t k = rw k tt
act_other names (Opens n negative left) now t k = rw k tt
act_other names (Entry n negative left before) now t k = rw k tt

abbrev NotGone : Next → Type 0
NotGone (Go s p m) = ⊥
NotGone (Over p m) = Unit {0}
NotGone (Refuse why at) = Unit {0}

gone_if : (b : Bool) (why : Fault) (at : ℕ) (next : Next) → NotGone next → NotGone (only_if b why at next)
gone_if true why at next h = h
gone_if false why at next h = tt

gone_judged : (r : Rules) (o : Option Bool) (now : Part) (next : Next) → NotGone next → NotGone (judged r o now next)
gone_judged r None now next h = h
gone_judged r (Some truth) now next h = gone_if (same r.kinds (has_truth now.tree) truth) WrongKind now.at next h

gone_opened : (r : Rules) (o : Option ℕ) (at : ℕ) (next : Next) → NotGone next → NotGone (opened r o at next)
gone_opened r None at next h = h
gone_opened r (Some zero) at next h = gone_if (not r.levels) TooDeep at next h
gone_opened r (Some (suc n)) at next h = h

gone_counted : (r : Rules) (b : Bool) (spare at : ℕ) (f : ℕ → Next) → ((m : ℕ) → NotGone (f m)) → NotGone (counted r b spare at f)
gone_counted r false spare at f h = h spare
gone_counted r true zero at f h = gone_if (not r.operators) TooMany at (f 0) (h 0)
gone_counted r true (suc m) at f h = h m

gone_stepped : (step : Step) (stack : List Symbol) (at : ℕ) (behind : Part → Next) → NotTaken step → ((p : Part) → NotGone (behind p)) → (m : ℕ) → NotGone (stepped step stack at behind m)
gone_stepped Stuck stack at behind n h m = tt
gone_stepped (Take symbols now) stack at behind n h m = n
gone_stepped (Leave now) stack at behind n h m = h now

gone_feed : (names : Bool) (r : Rules) (stack : List Symbol) (now : Part) (spare : ℕ) (t : Token) → role_of t ≡ role.Other → NotGone (feed names r stack now spare t)
gone_feed names r [] now spare t k = tt
gone_feed names r (s ∷ stack) now spare t k =
    let a = act names s now t in
    let f : Part → Next = λ p. feed names r stack p spare t in
    gone_judged r a.judged now (opened r a.opens t.at (counted r a.counts spare t.at (stepped a.step stack t.at f)))
    (gone_opened r a.opens t.at (counted r a.counts spare t.at (stepped a.step stack t.at f))
    (gone_counted r a.counts spare t.at (stepped a.step stack t.at f) (gone_stepped a.step stack t.at f (act_other names s now t k) (λ p. gone_feed names r stack p spare t k))))

abbrev pub NotOpen : Outcome → Type 0
NotOpen (Open s p m) = ⊥
NotOpen (Ended p m rest) = Unit {0}
NotOpen (Stopped why at) = Unit {0}

gone_next : (next : Next) (t : Token) (ts : List Token) (f : List Symbol → Part → ℕ → Outcome) → NotGone next → NotOpen (go_on t ts f next)
gone_next (Go s p m) t ts f h = absurd h
gone_next (Over p m) t ts f h = tt
gone_next (Refuse why at) t ts f h = tt

open_next : (next : Next) (t : Token) (ts : List Token) (f : List Symbol → Part → ℕ → Outcome) → ((s : List Symbol) (p : Part) (m : ℕ) → NotOpen (f s p m)) → NotOpen (go_on t ts f next)
open_next (Go s p m) t ts f h = h s p m
open_next (Over p m) t ts f h = tt
open_next (Refuse why at) t ts f h = tt

-- tokens of which one is of no expression don't all begin one
pub not_open : (names : Bool) (r : Rules) (front : List Token) (t : Token) (others : List Token) → role_of t ≡ role.Other → (s : List Symbol) (p : Part) (m : ℕ) → NotOpen (run names r s p m (front ++ t ∷ others))
not_open names r [] t others k s p m = gone_next (feed names r s p m t) t others (λ s2 p2 m2. run names r s2 p2 m2 others) (gone_feed names r s p m t k)
not_open names r (f ∷ front) t others k s p m = open_next (feed names r s p m f) f (front ++ t ∷ others) (λ s2 p2 m2. run names r s2 p2 m2 (front ++ t ∷ others)) (not_open names r front t others k)

pub refusal_is : (o : Outcome) (at : ℕ) → NotOpen o → got o ≡ Refused at → (why : Fault) × (o ≡ Stopped why at)
refusal_is (Open s p m) at n h = absurd n
refusal_is (Ended p m rest) at n h = cc
refusal_is (Stopped why at2) at n h = let a : at2 ≡ at = cc in (why, rw a refl)

pub is_refused : (names truth : Bool) (ts : List Token) (at : ℕ) → HasEnd ts → read_front names truth ts ≡ Refused at → (why : Fault) × IsRefused names truth ts why at
unfolding read_front
is_refused names truth ts at e h =
    let n : NotOpen (reading names strict truth ts) = rw e.split (not_open names strict e.front e.token e.others e.other (whole truth) no_part 1000) in
    let s = refusal_is (reading names strict truth ts) at n h in
    (s.0, refused_is names truth ts s.0 at s.1)

-- an answer of a tree is a front's
done_front : (names truth : Bool) (ts left : List Token) (e : Expr) (g : Got Tree) → read_front names truth ts ≡ g → Answers (Ok e) g left → IsFront names truth ts (tree_of e) left
done_front names truth ts left e (Done tree rest) is h = rw (h.0, h.1) (in_grammar names truth ts rest tree is)
done_front names truth ts left e (Refused at) is h = absurd h

pub ok_front : (names truth : Bool) (ts left : List Token) (e : Expr) → Answers (Ok e) (read_front names truth ts) left → IsFront names truth ts (tree_of e) left
ok_front names truth ts left e h = done_front names truth ts left e (read_front names truth ts) refl h

pub answers_shorter : (names truth : Bool) (ts left : List Token) (r : Result Expr ParseRefusal) → Answers r (read_front names truth ts) left → IfOk r (λ e. length left + 1 ≤ length ts)
answers_shorter names truth ts left (Ok e) h = omega (arith, front_shorter (ok_front names truth ts left e h))
answers_shorter names truth ts left (Err e) h = tt

small_front : {names truth : Bool} {ts rest : List Token} {e : Tree} → IsFront names truth ts e rest → are_printed ts ≡ true → is_small e ≡ true
small_front {names} {truth} {ts} {rest} {e} f printed =
    let pass : PassLeaves has_printable_text names (f.front ++ rest) = rw f.split at (printed_pass names ts printed) in
    both (nat_le (operators e) 1000) (nat_le (levels e) 100 && each_leaf has_printable_text e) (le-leb (operators e) 1000 (f.whole.few refl))
    (both (nat_le (levels e) 100) (each_leaf has_printable_text e) (le-leb (levels e) 100 (levels_of f.whole.spelled refl)) (leaves_of has_printable_text f.whole.spelled (pass_front has_printable_text names f.front rest pass)))

pub value_sound : (names : Bool) (ts left : List Token) (r : Result Expr ParseRefusal) → Answers r (read_front names false ts) left → are_printed ts ≡ true → IfOk r (λ e. is_value_expr e ≡ true)
value_sound names ts left (Ok e) h printed =
    let f = ok_front names false ts left e h in both (is_value (tree_of e)) (is_small (tree_of e)) ((kinds_of f.whole.spelled refl).value (f.whole.kind refl)) (small_front f printed)
value_sound names ts left (Err e) h printed = tt

pub entry_sound : (names : Bool) (ts left : List Token) (r : Result Expr ParseRefusal) → Answers r (read_front names false ts) left → names ≡ false → are_printed ts ≡ true → IfOk r (λ e. is_entry e ≡ true)
entry_sound true ts left r h none printed = cc
entry_sound false ts left (Ok e) h none printed =
    let f = ok_front false false ts left e h in
    both (is_value_expr e) (each_leaf is_no_column (tree_of e)) (value_sound false ts left (Ok e) h printed) (leaves_of is_no_column f.whole.spelled (no_column_pass f.front))
entry_sound false ts left (Err e) h none printed = tt

pub truth_sound : (ts left : List Token) (r : Result Expr ParseRefusal) → Answers r (read_front true true ts) left → are_printed ts ≡ true → IfOk r (λ e. is_filter (Some e) ≡ true)
truth_sound ts left (Ok e) h printed = let f = ok_front true true ts left e h in both (is_truth (tree_of e)) (is_small (tree_of e)) ((kinds_of f.whole.spelled refl).truth (f.whole.kind refl)) (small_front f printed)
truth_sound ts left (Err e) h printed = tt

pub as_read : (names truth : Bool) (ts left : List Token) (r : Result Expr ParseRefusal) → Answers r (got (reading names strict truth ts)) left → Answers r (read_front names truth ts) left
unfolding read_front
as_read names truth ts left r h = h

-- the tokens behind what was read have printable texts too
pub printed_rest : {names truth : Bool} {ts rest : List Token} {e : Tree} → IsFront names truth ts e rest → are_printed ts ≡ true → are_printed rest ≡ true
printed_rest {rest = rest} f h = and_right (are_printed f.front) (are_printed rest) (sym (list_all-append (λ (t : Token). is_printed t.kind) f.front rest) ∙ (rw f.split at h))

-- What the machine reads is in the grammar.
use Rattle.std.specs.Prelude.{Option, Some, None, not}
use Rattle.std.proofs.Common.{◌≡◌, ℕ, suc, zero, ◌-◌, Bool, true, false, List, [], ◌∷◌, ◌++◌, ap, sym, ◌∙◌, refl, append_assoc, append-nil, arith}
use Rattle.plain_model.specs.Tree.{Tree, Neg, Not, IsNull, Between, In, Compare, Entries, Last, More}
use Rattle.plain_model.specs.declared.expr.MathOp.TheVariants.{Sub}
use Rattle.plain_model.specs.declared.expr.CompareOp.{CompareOp}
use Rattle.sql_lex.specs.declared.token.Token.{Token}
use Rattle.sql_expr.specs.declared.role.Role.{Role}
use Rattle.sql_expr.specs.declared.role.Role.TheVariants as role
use Rattle.sql_expr.specs.declared.role.Level.{Level}
use Rattle.sql_expr.specs.declared.role.Level.TheVariants.{Ors, Ands, Nots, Comps, Sums, Prods, Unaries}
use Rattle.sql_expr.specs.Rules.{Rules, has_truth, Fits, HasRoom}
use Rattle.sql_expr.specs.Grammar.{joins, joins_truths, inner, negated, IsNotOption, IsExpr, Follows, AreEntries, one, brackets, minus, negation, onward, nothing, chain, compare, is_null, between, within, last, more}
use Rattle.sql_expr.specs.Roles.{role_of, leaf}
use Rattle.sql_expr.specs.Symbols.{Part, part, Joining, Negating, Denying, framed, Symbol, Want, May, Judge, Shut, Nullness, NullAfterNot, AfterNot, Low, Opens, Entry, onto, null_test, membership}
use Rattle.sql_expr.specs.Machine.{Fault, WrongKind, TooDeep, TooMany, Next, Go, Over, Refuse, only_if, same, judged, opened, counted, stepped, carried_out, feed}
use Rattle.sql_expr.specs.Table.{Step, Stuck, Take, Leave, Action, at_leaf, start_unary, start_comp, start_not, start, comparing, follow, shut, nullness, null_after_not, after_not, low, opens, entry, act}
use Rattle.sql_expr.specs.Read.{Outcome, Open, Ended, Stopped, go_on, run}
use Rattle.sql_expr.specs.Laws.{place}
use Rattle.sql_expr.proofs.Lists.{place_append, has_some, onto_push}

-- ( e { , e } )
pub data IsList (names : Bool) (r : Rules) : ℕ → Entries → List Token → Type 0 where
  list : (n : ℕ) (es : Entries) (left right : Token) (ts : List Token) → role_of left ≡ role.Open → role_of right ≡ role.Close → HasRoom r n → AreEntries names r (n - 1) es ts → IsList names r n es (left ∷ (ts ++ right ∷ []))

-- { , e } behind an entry
pub data MoreEntries (names : Bool) (r : Rules) : ℕ → Tree → Entries → List Token → Type 0 where
  no_more_entries : (n : ℕ) (e : Tree) → MoreEntries names r n e (Last e) []
  more_entries : (n : ℕ) (e : Tree) (es : Entries) (t : Token) (us : List Token) → role_of t ≡ role.Comma → AreEntries names r n es us → MoreEntries names r n e (More e es) (t ∷ us)

entries_are : {names : Bool} {r : Rules} {n : ℕ} {e : Tree} {es : Entries} {us : List Token} (ts : List Token) → IsExpr names r n Ors e ts → Fits r e false → MoreEntries names r n e es us → AreEntries names r n es (ts ++ us)
entries_are ts h k (no_more_entries n e) = rw (append-nil ts) (last n e ts h k)
entries_are ts h k (more_entries n e es t us m hes) = more n e es t ts us h k m hes

-- what BETWEEN or IN and the tokens behind it make of a value
pub data Compared (names : Bool) (r : Rules) : ℕ → Bool → Tree → Tree → Token → List Token → Type 0 where
  bounded : (n : ℕ) (negative : Bool) (a b c : Tree) (t u : Token) (ts us : List Token) → role_of t ≡ role.Between → role_of u ≡ role.And
      → IsExpr names r n Sums b ts → Fits r b false → IsExpr names r n Sums c us → Fits r c false → Compared names r n negative a (negated negative (Between a b c)) t (ts ++ u ∷ us)
  inside : (n : ℕ) (negative : Bool) (a : Tree) (es : Entries) (t : Token) (us : List Token) → role_of t ≡ role.In → IsList names r n es us → Compared names r n negative a (negated negative (In a es)) t us

-- the tokens are what these symbols stand for, the part at their end is out, and the rest stands behind them
abbrev pub Ends : Bool → Rules → List Symbol → Part → List Token → Part → List Token → Type 0
Ends names r [] now ts out rest = (now ≡ out) × (ts ≡ rest)
Ends names r (Want n l ∷ stack) now ts out rest = (e : Tree) × (us : List Token) × (vs : List Token) × IsExpr names r n l e us × (ts ≡ us ++ vs) × Ends names r stack (part e (place us)) vs out rest
Ends names r (May n l ∷ stack) now ts out rest = (e : Tree) × (us : List Token) × (vs : List Token) × Follows names r n l now.tree e us × (ts ≡ us ++ vs) × Ends names r stack (part e now.at) vs out rest
Ends names r (Judge truth frame ∷ stack) now ts out rest = Fits r now.tree truth × Ends names r stack (framed frame now) ts out rest
Ends names r (Shut at ∷ stack) now ts out rest = (t : Token) × (us : List Token) × (ts ≡ t ∷ us) × (role_of t ≡ role.Close) × Ends names r stack (part now.tree at) us out rest
Ends names r (Nullness left ∷ stack) now ts out rest = (negative : Bool) × (nots : List Token) × (u : Token) × (us : List Token) × IsNotOption negative nots × (role_of u ≡ role.Null) × (ts ≡ nots ++ u ∷ us) × Ends names r stack (null_test negative left) us out rest
Ends names r (NullAfterNot left ∷ stack) now ts out rest = (u : Token) × (us : List Token) × (role_of u ≡ role.Null) × (ts ≡ u ∷ us) × Ends names r stack (null_test true left) us out rest
Ends names r (AfterNot n left ∷ stack) now ts out rest = (e : Tree) × (t : Token) × (us : List Token) × (vs : List Token) × Compared names r n true left.tree e t us × (ts ≡ t ∷ (us ++ vs)) × Ends names r stack (part e left.at) vs out rest
Ends names r (Low n negative left ∷ stack) now ts out rest = Fits r now.tree false × ((u : Token) × (us : List Token) × (vs : List Token) × (c : Tree) × (role_of u ≡ role.And) × IsExpr names r n Sums c us × Fits r c false × (ts ≡ u ∷ (us ++ vs)) × Ends names r stack (part (negated negative (Between left.tree now.tree c)) left.at) vs out rest)
Ends names r (Opens n negative left ∷ stack) now ts out rest = (es : Entries) × (us : List Token) × (vs : List Token) × IsList names r n es us × (ts ≡ us ++ vs) × Ends names r stack (membership negative left es) vs out rest
Ends names r (Entry n negative left before ∷ stack) now ts out rest = Fits r now.tree false × ((es : Entries) × (us : List Token) × (u : Token) × (vs : List Token) × MoreEntries names r n now.tree es us × (role_of u ≡ role.Close) × (ts ≡ us ++ u ∷ vs) × Ends names r stack (membership negative left (onto before es)) vs out rest)

-- what a token stands in: the grammar, the tokens behind it, and what they lead to
pub record Scene : Type 0 where
  pub names : Bool
  pub rules : Rules
  pub token : Token
  pub behind : List Token
  pub out : Part
  pub rest : List Token

abbrev pub EndsNext : Scene → Next → Type 0
EndsNext z (Go stack now spare) = Ends z.names z.rules stack now z.behind z.out z.rest
EndsNext z (Over now spare) = (now ≡ z.out) × (z.token ∷ z.behind ≡ z.rest)
EndsNext z (Refuse why at) = ⊥

-- the same of symbols that the token hasn't passed
abbrev pub EndsHere : Scene → List Symbol → Part → Type 0
EndsHere z stack now = Ends z.names z.rules stack now (z.token ∷ z.behind) z.out z.rest

-- the same of a step, and of an action with what has to hold before it
abbrev pub EndsStep : Scene → Step → List Symbol → Type 0
EndsStep z Stuck stack = ⊥
EndsStep z (Take symbols now) stack = Ends z.names z.rules (symbols ++ stack) now z.behind z.out z.rest
EndsStep z (Leave now) stack = EndsHere z stack now

abbrev pub FitsOption : Rules → Part → Option Bool → Type 0
FitsOption r now None = Unit {0}
FitsOption r now (Some truth) = Fits r now.tree truth

abbrev pub HasRoomOption : Rules → Option ℕ → Type 0
HasRoomOption r None = Unit {0}
HasRoomOption r (Some n) = HasRoom r n

pub record EndsAction (z : Scene) (a : Action) (stack : List Symbol) (now : Part) : Type 0 where
  pub fits : FitsOption z.rules now a.judged
  pub room : HasRoomOption z.rules a.opens
  pub step : EndsStep z a.step stack

-- rules that hold no more than others do
pub record IsLooser (r q : Rules) : Type 0 where
  pub kinds : r.kinds ≡ true → q.kinds ≡ true
  pub levels : r.levels ≡ true → q.levels ≡ true

fits_back : (kinds b truth : Bool) → same kinds b truth ≡ true → kinds ≡ true → b ≡ truth
fits_back false b truth h k = cc
fits_back true true true h k = refl
fits_back true false false h k = refl
fits_back true true false h k = cc
fits_back true false true h k = cc

if_back : (z : Scene) (b : Bool) (why : Fault) (at : ℕ) (next : Next) → EndsNext z (only_if b why at next) → (b ≡ true) × EndsNext z next
if_back z true why at next h = (refl, h)
if_back z false why at next h = absurd h

judged_back : (z : Scene) (q : Rules) → IsLooser z.rules q → (o : Option Bool) (now : Part) (next : Next) → EndsNext z (judged q o now next) → FitsOption z.rules now o × EndsNext z next
judged_back z q w None now next h = (tt, h)
judged_back z q w (Some truth) now next h =
    let both = if_back z (same q.kinds (has_truth now.tree) truth) WrongKind now.at next h in
    (λ k. fits_back q.kinds (has_truth now.tree) truth both.0 (w.kinds k), both.1)

not_both : (b : Bool) → not b ≡ true → b ≡ true → ⊥
not_both true h k = cc
not_both false h k = cc

opened_back : (z : Scene) (q : Rules) → IsLooser z.rules q → (o : Option ℕ) (at : ℕ) (next : Next) → EndsNext z (opened q o at next) → HasRoomOption z.rules o × EndsNext z next
opened_back z q w None at next h = (tt, h)
opened_back z q w (Some zero) at next h = let both = if_back z (not q.levels) TooDeep at next h in (λ k. absurd (not_both q.levels both.0 (w.levels k)), both.1)
opened_back z q w (Some (suc n)) at next h = (λ k. omega arith, h)

-- some number of further operators with which the step is done
counted_back : (z : Scene) (q : Rules) (b : Bool) (spare at : ℕ) (next : ℕ → Next) → EndsNext z (counted q b spare at next) → (m : ℕ) × EndsNext z (next m)
counted_back z q false spare at next h = (spare, h)
counted_back z q true zero at next h = (0, (if_back z (not q.operators) TooMany at (next 0) h).1)
counted_back z q true (suc m) at next h = (m, h)

stepped_back : (z : Scene) (step : Step) (stack : List Symbol) (at : ℕ) (behind : Part → Next) (spare : ℕ) → ((p : Part) → EndsNext z (behind p) → EndsHere z stack p) → EndsNext z (stepped step stack at behind spare) → EndsStep z step stack
stepped_back z Stuck stack at behind spare ih h = h
stepped_back z (Take symbols now) stack at behind spare ih h = h
stepped_back z (Leave now) stack at behind spare ih h = ih now h

carried_back : (z : Scene) (q : Rules) → IsLooser z.rules q → (a : Action) (stack : List Symbol) (now : Part) (spare at : ℕ) (behind : Part → Next) → ((p : Part) → EndsNext z (behind p) → EndsHere z stack p)
    → EndsNext z (carried_out q a stack now spare at behind) → EndsAction z a stack now
carried_back z q w a stack now spare at behind ih h =
    let j = judged_back z q w a.judged now (opened q a.opens at (counted q a.counts spare at (stepped a.step stack at behind))) h in
    let o = opened_back z q w a.opens at (counted q a.counts spare at (stepped a.step stack at behind)) j.1 in
    let c = counted_back z q a.counts spare at (stepped a.step stack at behind) o.1 in
    record { fits = j.0; room = o.0; step = stepped_back z a.step stack at behind c.0 ih c.1 }

shut_back : (z : Scene) (k : Role) (at : ℕ) (now : Part) (stack : List Symbol) → role_of z.token ≡ k → EndsAction z (shut k at now) stack now → EndsHere z (Shut at ∷ stack) now
shut_back z role.Close at now stack is h = (z.token, z.behind, refl, is, h.step)
shut_back z _ at now stack is h = absurd h.step

leaf_back : (z : Scene) (o : Option Tree) (n : ℕ) (now : Part) (symbols stack : List Symbol) → leaf z.names z.token.kind ≡ o → EndsAction z (at_leaf o z.token.at symbols) stack now → EndsHere z (Want n Unaries ∷ (symbols ++ stack)) now
leaf_back z (Some e) n now symbols stack is h = (e, z.token ∷ [], z.behind, one n z.token e is, refl, h.step)
leaf_back z None n now symbols stack is h = absurd h.step

open_back : (z : Scene) (n : ℕ) (now : Part) (stack : List Symbol) → role_of z.token ≡ role.Open → HasRoom z.rules n → Ends z.names z.rules (Want (n - 1) Ors ∷ Shut z.token.at ∷ stack) now z.behind z.out z.rest
    → EndsHere z (Want n Unaries ∷ stack) now
open_back z n now stack is room (e, us, vs, x, split, (u, ws, first, close, ends)) = (
  e,
  z.token ∷ (us ++ u ∷ []),
  ws,
  brackets n e z.token u us is close room x,
  ap (λ (zs : List Token). z.token ∷ zs) (split ∙ ap (λ (zs : List Token). us ++ zs) first ∙ sym (append_assoc us (u ∷ []) ws)),
  ends,
)

minus_back : (z : Scene) (n : ℕ) (now : Part) (stack : List Symbol) → role_of z.token ≡ role.Math Sub → HasRoom z.rules n → Ends z.names z.rules (Want (n - 1) Unaries ∷ Judge false (Negating z.token.at) ∷ stack) now z.behind z.out z.rest
    → EndsHere z (Want n Unaries ∷ stack) now
minus_back z n now stack is room (e, us, vs, x, split, (v, ends)) = (Neg e, z.token ∷ us, vs, minus n e z.token us is room x v, ap (λ (zs : List Token). z.token ∷ zs) split, ends)

not_back : (z : Scene) (n : ℕ) (now : Part) (stack : List Symbol) → role_of z.token ≡ role.Not → HasRoom z.rules n → Ends z.names z.rules (Want (n - 1) Nots ∷ Judge true (Denying z.token.at) ∷ stack) now z.behind z.out z.rest
    → EndsHere z (Want n Nots ∷ stack) now
not_back z n now stack is room (e, us, vs, x, split, (v, ends)) = (Not e, z.token ∷ us, vs, negation n e z.token us is room x v, ap (λ (zs : List Token). z.token ∷ zs) split, ends)

unary_back : (z : Scene) (k : Role) (n : ℕ) (now : Part) (symbols stack : List Symbol) → role_of z.token ≡ k → EndsAction z (start_unary k n (leaf z.names z.token.kind) z.token.at now symbols) stack now
    → EndsHere z (Want n Unaries ∷ (symbols ++ stack)) now
unary_back z role.Open n now symbols stack is h = open_back z n now (symbols ++ stack) is h.room h.step
unary_back z (role.Math Sub) n now symbols stack is h = minus_back z n now (symbols ++ stack) is h.room h.step
unary_back z k n now symbols stack is h = leaf_back z (leaf z.names z.token.kind) n now symbols stack refl h

-- an expression of the inner level and what may follow it
wrap : (z : Scene) (n : ℕ) (l : Level) (now : Part) (stack : List Symbol) → EndsHere z (Want n (inner l) ∷ May n l ∷ stack) now → EndsHere z (Want n l ∷ stack) now
wrap z n l now stack (a, us, vs, x, split, (e, us2, vs2, f, split2, ends)) =
    (e, us ++ us2, vs2, onward n l a e us us2 x f, split ∙ ap (λ (zs : List Token). us ++ zs) split2 ∙ sym (append_assoc us us2 vs2), rw (place_append us us2 (has_some x)) ends)

comp_back : (z : Scene) (k : Role) (n : ℕ) (now : Part) (symbols stack : List Symbol) → role_of z.token ≡ k → EndsAction z (start_comp k n (leaf z.names z.token.kind) z.token.at now symbols) stack now
    → EndsHere z (Want n Comps ∷ (symbols ++ stack)) now
comp_back z k n now symbols stack is h =
    wrap z n Comps now (symbols ++ stack) (wrap z n Sums now (May n Comps ∷ (symbols ++ stack)) (wrap z n Prods now (May n Sums ∷ May n Comps ∷ (symbols ++ stack))
    (unary_back z k n now (May n Prods ∷ May n Sums ∷ May n Comps ∷ symbols) stack is h)))

nots_back : (z : Scene) (k : Role) (n : ℕ) (now : Part) (symbols stack : List Symbol) → role_of z.token ≡ k → EndsAction z (start_not k n (leaf z.names z.token.kind) z.token.at now symbols) stack now
    → EndsHere z (Want n Nots ∷ (symbols ++ stack)) now
nots_back z role.Not n now symbols stack is h = not_back z n now (symbols ++ stack) is h.room h.step
nots_back z k n now symbols stack is h = wrap z n Nots now (symbols ++ stack) (comp_back z k n now (May n Nots ∷ symbols) stack is h)

start_back : (z : Scene) (l : Level) (k : Role) (n : ℕ) (now : Part) (stack : List Symbol) → role_of z.token ≡ k → EndsAction z (start l k n (leaf z.names z.token.kind) z.token.at now) stack now → EndsHere z (Want n l ∷ stack) now
start_back z Unaries k n now stack is h = unary_back z k n now [] stack is h
start_back z Prods k n now stack is h = wrap z n Prods now stack (unary_back z k n now (May n Prods ∷ []) stack is h)
start_back z Sums k n now stack is h = wrap z n Sums now stack (wrap z n Prods now (May n Sums ∷ stack) (unary_back z k n now (May n Prods ∷ May n Sums ∷ []) stack is h))
start_back z Comps k n now stack is h = comp_back z k n now [] stack is h
start_back z Nots k n now stack is h = nots_back z k n now [] stack is h
start_back z Ands k n now stack is h = wrap z n Ands now stack (nots_back z k n now (May n Ands ∷ []) stack is h)
start_back z Ors k n now stack is h = wrap z n Ors now stack (wrap z n Ands now (May n Ors ∷ stack) (nots_back z k n now (May n Ands ∷ May n Ors ∷ []) stack is h))

join_back : (z : Scene) (l : Level) (n : ℕ) (now : Part) (stack : List Symbol) → joins l (role_of z.token) ≡ true → Fits z.rules now.tree (joins_truths (role_of z.token))
    → Ends z.names z.rules (Want n (inner l) ∷ Judge (joins_truths (role_of z.token)) (Joining (role_of z.token) now) ∷ May n l ∷ stack) now z.behind z.out z.rest → EndsHere z (May n l ∷ stack) now
join_back z l n now stack j ka (b, us, vs, x, split, (kb, (e, us2, vs2, f, split2, ends))) =
    (e, z.token ∷ (us ++ us2), vs2, chain n l now.tree b e z.token us us2 j ka x kb f, ap (λ (zs : List Token). z.token ∷ zs) (split ∙ ap (λ (zs : List Token). us ++ zs) split2 ∙ sym (append_assoc us us2 vs2)), ends)

nullness_back : (z : Scene) (k : Role) (left now : Part) (stack : List Symbol) → role_of z.token ≡ k → EndsAction z (nullness k left now) stack now → EndsHere z (Nullness left ∷ stack) now
nullness_back z role.Null left now stack is h = (false, [], z.token, z.behind, tt, is, refl, h.step)
nullness_back z role.Not left now stack is h = let (u, us, v, split, ends) = h.step in (true, z.token ∷ [], u, us, is, v, ap (λ (zs : List Token). z.token ∷ zs) split, ends)
nullness_back z _ left now stack is h = absurd h.step

null_back : (z : Scene) (k : Role) (left now : Part) (stack : List Symbol) → role_of z.token ≡ k → EndsAction z (null_after_not k left) stack now → EndsHere z (NullAfterNot left ∷ stack) now
null_back z role.Null left now stack is h = (z.token, z.behind, is, refl, h.step)
null_back z _ left now stack is h = absurd h.step

low_back : (z : Scene) (k : Role) (n : ℕ) (negative : Bool) (left now : Part) (stack : List Symbol) → role_of z.token ≡ k → EndsAction z (low k n negative left now) stack now → EndsHere z (Low n negative left ∷ stack) now
low_back z role.And n negative left now stack is h = let (c, us, vs, x, split, (kc, ends)) = h.step in (h.fits, (z.token, us, vs, c, is, x, kc, ap (λ (zs : List Token). z.token ∷ zs) split, ends))
low_back z _ n negative left now stack is h = absurd h.step

comma_back : (z : Scene) (n : ℕ) (negative : Bool) (left : Part) (before : List Tree) (now : Part) (stack : List Symbol) → role_of z.token ≡ role.Comma → Fits z.rules now.tree false
    → Ends z.names z.rules (Want n Ors ∷ Entry n negative left (before ++ now.tree ∷ []) ∷ stack) now z.behind z.out z.rest → EndsHere z (Entry n negative left before ∷ stack) now
comma_back z n negative left before now stack is fits (e, us, vs, x, split, (k, (es, us2, u, vs2, m, c, split2, ends))) = (
  fits,
  (
    More now.tree es,
    z.token ∷ (us ++ us2),
    u,
    vs2,
    more_entries n now.tree es z.token (us ++ us2) is (entries_are us x k m),
    c,
    ap (λ (zs : List Token). z.token ∷ zs) (split ∙ ap (λ (zs : List Token). us ++ zs) split2 ∙ sym (append_assoc us us2 (u ∷ vs2))),
    rw (← onto_push before now.tree es) ends,
  ),
)

entry_back : (z : Scene) (k : Role) (n : ℕ) (negative : Bool) (left : Part) (before : List Tree) (now : Part) (stack : List Symbol) → role_of z.token ≡ k → EndsAction z (entry k n negative left before now) stack now
    → EndsHere z (Entry n negative left before ∷ stack) now
entry_back z role.Close n negative left before now stack is h = (h.fits, (Last now.tree, [], z.token, z.behind, no_more_entries n now.tree, is, refl, h.step))
entry_back z role.Comma n negative left before now stack is h = comma_back z n negative left before now stack is h.fits h.step
entry_back z _ n negative left before now stack is h = absurd h.step

list_back : (z : Scene) (n : ℕ) (negative : Bool) (left now : Part) (stack : List Symbol) → role_of z.token ≡ role.Open → HasRoom z.rules n
    → Ends z.names z.rules (Want (n - 1) Ors ∷ Entry (n - 1) negative left [] ∷ stack) now z.behind z.out z.rest → EndsHere z (Opens n negative left ∷ stack) now
list_back z n negative left now stack is room (e, us, vs, x, split, (k, (es, us2, u, vs2, m, c, split2, ends))) = (
  es,
  z.token ∷ ((us ++ us2) ++ u ∷ []),
  vs2,
  list n es z.token u (us ++ us2) is c room (entries_are us x k m),
  ap (λ (zs : List Token). z.token ∷ zs) (split ∙ ap (λ (zs : List Token). us ++ zs) split2 ∙ sym (append_assoc us us2 (u ∷ vs2)) ∙ sym (append_assoc (us ++ us2) (u ∷ []) vs2)),
  ends,
)

opens_back : (z : Scene) (k : Role) (n : ℕ) (negative : Bool) (left now : Part) (stack : List Symbol) → role_of z.token ≡ k → EndsAction z (opens k n negative left now) stack now → EndsHere z (Opens n negative left ∷ stack) now
opens_back z role.Open n negative left now stack is h = list_back z n negative left now stack is h.room h.step
opens_back z _ n negative left now stack is h = absurd h.step

after_back : (z : Scene) (k : Role) (n : ℕ) (left now : Part) (stack : List Symbol) → role_of z.token ≡ k → EndsAction z (after_not k n left now) stack now → EndsHere z (AfterNot n left ∷ stack) now
after_back z role.Between n left now stack is h = let (b, us, vs, x, split, (kb, (u, us2, vs2, c, v, y, kc, split2, ends))) = h.step in (
  Not (Between left.tree b c),
  z.token,
  us ++ u ∷ us2,
  vs2,
  bounded n true left.tree b c z.token u us us2 is v x kb y kc,
  ap (λ (zs : List Token). z.token ∷ zs) (split ∙ ap (λ (zs : List Token). us ++ zs) split2 ∙ sym (append_assoc us (u ∷ us2) vs2)),
  ends,
)
after_back z role.In n left now stack is h = let (es, us, vs, x, split, ends) = h.step in (Not (In left.tree es), z.token, us, vs, inside n true left.tree es z.token us is x, ap (λ (zs : List Token). z.token ∷ zs) split, ends)
after_back z _ n left now stack is h = absurd h.step

-- BETWEEN or IN behind a value
compared : {names : Bool} {r : Rules} {n : ℕ} {negative : Bool} {a e : Tree} {t : Token} {us : List Token} (nots : List Token) → IsNotOption negative nots → Fits r a false → Compared names r n negative a e t us → Follows names r n Comps a e (nots ++ t ∷ us)
compared nots m ka (bounded n negative a b c t u ts us k v hb kb hc kc) = between n negative a b c t u nots ts us m k v ka hb kb hc kc
compared nots m ka (inside n negative a es t us k (list i es2 left right ts o c room hes)) = within i negative a es2 t left right nots ts m k o c ka room hes

relation_back : (z : Scene) (op : CompareOp) (n : ℕ) (now : Part) (stack : List Symbol) → role_of z.token ≡ role.Compare op → Fits z.rules now.tree false
    → Ends z.names z.rules (Want n Sums ∷ Judge false (Joining (role.Compare op) now) ∷ stack) now z.behind z.out z.rest → EndsHere z (May n Comps ∷ stack) now
relation_back z op n now stack is ka (b, us, vs, x, split, (kb, ends)) =
    (Compare op now.tree b, z.token ∷ us, vs, compare n op now.tree b z.token us is ka x kb, ap (λ (zs : List Token). z.token ∷ zs) split, ends)

is_back : (z : Scene) (n : ℕ) (now : Part) (stack : List Symbol) → role_of z.token ≡ role.Is → Fits z.rules now.tree false → Ends z.names z.rules (Nullness now ∷ stack) now z.behind z.out z.rest → EndsHere z (May n Comps ∷ stack) now
is_back z n now stack is ka (negative, nots, u, us, m, v, split, ends) = (
  negated negative (IsNull now.tree),
  z.token ∷ (nots ++ u ∷ []),
  us,
  is_null n negative now.tree z.token u nots is m v ka,
  ap (λ (zs : List Token). z.token ∷ zs) (split ∙ sym (append_assoc nots (u ∷ []) us)),
  ends,
)

neither_back : (z : Scene) (n : ℕ) (now : Part) (stack : List Symbol) → role_of z.token ≡ role.Not → Fits z.rules now.tree false → Ends z.names z.rules (AfterNot n now ∷ stack) now z.behind z.out z.rest → EndsHere z (May n Comps ∷ stack) now
neither_back z n now stack is ka (e, t, us, vs, x, split, ends) = (e, z.token ∷ t ∷ us, vs, compared (z.token ∷ []) is ka x, ap (λ (zs : List Token). z.token ∷ zs) split, ends)

bounds_back : (z : Scene) (n : ℕ) (now : Part) (stack : List Symbol) → role_of z.token ≡ role.Between → Fits z.rules now.tree false → Ends z.names z.rules (Want n Sums ∷ Low n false now ∷ stack) now z.behind z.out z.rest
    → EndsHere z (May n Comps ∷ stack) now
bounds_back z n now stack is ka (b, us, vs, x, split, (kb, (u, us2, vs2, c, v, y, kc, split2, ends))) = (
  Between now.tree b c,
  z.token ∷ (us ++ u ∷ us2),
  vs2,
  compared [] tt ka (bounded n false now.tree b c z.token u us us2 is v x kb y kc),
  ap (λ (zs : List Token). z.token ∷ zs) (split ∙ ap (λ (zs : List Token). us ++ zs) split2 ∙ sym (append_assoc us (u ∷ us2) vs2)),
  ends,
)

in_back : (z : Scene) (n : ℕ) (now : Part) (stack : List Symbol) → role_of z.token ≡ role.In → Fits z.rules now.tree false → Ends z.names z.rules (Opens n false now ∷ stack) now z.behind z.out z.rest → EndsHere z (May n Comps ∷ stack) now
in_back z n now stack is ka (es, us, vs, x, split, ends) = (In now.tree es, z.token ∷ us, vs, compared [] tt ka (inside n false now.tree es z.token us is x), ap (λ (zs : List Token). z.token ∷ zs) split, ends)

comparing_back : (z : Scene) (k : Role) (n : ℕ) (now : Part) (stack : List Symbol) → role_of z.token ≡ k → EndsAction z (comparing k n now) stack now → EndsHere z (May n Comps ∷ stack) now
comparing_back z (role.Compare op) n now stack is h = relation_back z op n now stack is h.fits h.step
comparing_back z role.Is n now stack is h = is_back z n now stack is h.fits h.step
comparing_back z role.Not n now stack is h = neither_back z n now stack is h.fits h.step
comparing_back z role.Between n now stack is h = bounds_back z n now stack is h.fits h.step
comparing_back z role.In n now stack is h = in_back z n now stack is h.fits h.step
comparing_back z k n now stack is h = (now.tree, [], z.token ∷ z.behind, nothing n Comps now.tree, refl, h.step)

beyond_back : (z : Scene) (l : Level) (n : ℕ) (now : Part) (stack : List Symbol) → EndsAction z (follow false l (role_of z.token) n now) stack now → EndsHere z (May n l ∷ stack) now
beyond_back z Comps n now stack h = comparing_back z (role_of z.token) n now stack refl h
beyond_back z l n now stack h = (now.tree, [], z.token ∷ z.behind, nothing n l now.tree, refl, h.step)

follow_back : (z : Scene) (j : Bool) (l : Level) (n : ℕ) (now : Part) (stack : List Symbol) → joins l (role_of z.token) ≡ j → EndsAction z (follow j l (role_of z.token) n now) stack now → EndsHere z (May n l ∷ stack) now
follow_back z true l n now stack is h = join_back z l n now stack is h.fits h.step
follow_back z false l n now stack is h = beyond_back z l n now stack h

acted_back : (z : Scene) (s : Symbol) (now : Part) (stack : List Symbol) → EndsAction z (act z.names s now z.token) stack now → EndsHere z (s ∷ stack) now
acted_back z (Want n l) now stack h = start_back z l (role_of z.token) n now stack refl h
acted_back z (May n l) now stack h = follow_back z (joins l (role_of z.token)) l n now stack refl h
acted_back z (Judge truth frame) now stack h = (h.fits, h.step)
acted_back z (Shut at) now stack h = shut_back z (role_of z.token) at now stack refl h
acted_back z (Nullness left) now stack h = nullness_back z (role_of z.token) left now stack refl h
acted_back z (NullAfterNot left) now stack h = null_back z (role_of z.token) left now stack refl h
acted_back z (AfterNot n left) now stack h = after_back z (role_of z.token) n left now stack refl h
acted_back z (Low n negative left) now stack h = low_back z (role_of z.token) n negative left now stack refl h
acted_back z (Opens n negative left) now stack h = opens_back z (role_of z.token) n negative left now stack refl h
acted_back z (Entry n negative left before) now stack h = entry_back z (role_of z.token) n negative left before now stack refl h

-- what holds behind a token holds before it, of the same rules or of looser ones
pub back : (z : Scene) (q : Rules) → IsLooser z.rules q → (stack : List Symbol) (now : Part) (spare : ℕ) → EndsNext z (feed z.names q stack now spare z.token) → EndsHere z stack now
back z q w [] now spare h = h
back z q w (s ∷ stack) now spare h =
    acted_back z s now stack (carried_back z q w (act z.names s now z.token) stack now spare z.token.at (λ p. feed z.names q stack p spare z.token) (λ p k. back z q w stack p spare k) h)

-- the same of tokens that lead to some outcome
abbrev pub EndsOutcome : Bool → Rules → Outcome → List Token → Part → List Token → Type 0
EndsOutcome names r (Open stack now spare) ts out rest = Ends names r stack now ts out rest
EndsOutcome names r (Ended now spare us) ts out rest = (now ≡ out) × (us ++ ts ≡ rest)
EndsOutcome names r (Stopped why at) ts out rest = ⊥

next_back : (names : Bool) (r : Rules) (next : Next) (t : Token) (onward_to : List Symbol → Part → ℕ → Outcome) (front ts : List Token) (out : Part) (rest : List Token)
    → ((s : List Symbol) (p : Part) (m : ℕ) → EndsOutcome names r (onward_to s p m) ts out rest → Ends names r s p (front ++ ts) out rest) → EndsOutcome names r (go_on t front onward_to next) ts out rest
    → EndsNext (record { names = names; rules = r; token = t; behind = front ++ ts; out = out; rest = rest }) next
next_back names r (Go s p m) t onward_to front ts out rest ih h = ih s p m h
next_back names r (Over p m) t onward_to front ts out rest ih h = h
next_back names r (Refuse why at) t onward_to front ts out rest ih h = h

-- tokens are what the symbols stand for that they lead past
pub run_back : (names : Bool) (r q : Rules) → IsLooser r q → (front ts : List Token) (out : Part) (rest : List Token) (s : List Symbol) (p : Part) (m : ℕ)
    → EndsOutcome names r (run names q s p m front) ts out rest → Ends names r s p (front ++ ts) out rest
run_back names r q w [] ts out rest s p m h = h
run_back names r q w (t ∷ front) ts out rest s p m h =
    back (record { names = names; rules = r; token = t; behind = front ++ ts; out = out; rest = rest }) q w s p m
    (next_back names r (feed names q s p m t) t (λ s2 p2 m2. run names q s2 p2 m2 front) front ts out rest (run_back names r q w front ts out rest) h)

-- Which tokens a part was read from that is refused for its kind.
use Rattle.std.specs.Prelude.{Option, Some, None}
use Rattle.std.proofs.Common.{◌≡◌, ℕ, suc, zero, Bool, true, false, List, [], ◌∷◌, ◌++◌, ap, sym, ◌∙◌, refl, append_assoc, append-nil, subst}
use Rattle.plain_model.specs.Tree.{Tree, Neg, Not, IsNull, Between, In, Compare, Entries, Last}
use Rattle.plain_model.specs.declared.expr.MathOp.TheVariants.{Add, Sub, Mul}
use Rattle.sql_lex.specs.declared.token.Token.{Token}
use Rattle.sql_expr.specs.declared.role.Role.{Role}
use Rattle.sql_expr.specs.declared.role.Role.TheVariants as role
use Rattle.sql_expr.specs.declared.role.Level.{Level}
use Rattle.sql_expr.specs.declared.role.Level.TheVariants.{Ors, Ands, Nots, Comps, Sums, Prods, Unaries}
use Rattle.sql_expr.specs.Rules.{strict, loose, has_truth}
use Rattle.sql_expr.specs.Grammar.{joins, joins_truths, joined, inner, negated, IsNotOption, IsExpr, Follows, AreEntries, one, brackets, minus, negation, onward, nothing, chain, compare, is_null, between, within, last, more}
use Rattle.sql_expr.specs.Roles.{role_of, leaf}
use Rattle.sql_expr.specs.Symbols.{Part, part, Frame, Whole, Joining, Negating, Denying, Bounding, framed, Symbol, Want, May, Judge, Shut, Nullness, NullAfterNot, AfterNot, Low, Opens, Entry, onto}
use Rattle.sql_expr.specs.Machine.{WrongKind, Next, Go, Over, Refuse, only_if, same, judged, opened, counted, stepped, feed}
use Rattle.sql_expr.specs.Table.{Step, Stuck, Take, Leave, Action, act, at_leaf, start, start_unary, start_not, follow, comparing, shut, nullness, null_after_not, after_not, low, opens, entry}
use Rattle.sql_expr.specs.Read.{Open, go_on, run, no_part, whole, reading}
use Rattle.sql_expr.specs.Laws.{place, IsPart}
use Rattle.sql_expr.proofs.Lists.{place_append, has, has_some, onto_push}
use Rattle.sql_expr.proofs.Viable.{no_kinds, no_levels}

-- an expression of a level, and what follows an operand, kinds and limits left aside
abbrev Is : Bool → Level → Tree → List Token → Type 0
Is names l e ts = IsExpr names loose 0 l e ts

abbrev On : Bool → Level → Tree → Tree → List Token → Type 0
On names l a e ts = Follows names loose 0 l a e ts

-- one operand more
snoc : {names : Bool} {l : Level} {a e : Tree} {vs : List Token} (b : Tree) (t : Token) (ts : List Token) → On names l a e vs → joins l (role_of t) ≡ true → Is names (inner l) b ts → On names l a (joined (role_of t) e b) (vs ++ t ∷ ts)
snoc {names} {l} b t ts (nothing _ _ a) j h = rw (← append-nil ts) (chain 0 l a b (joined (role_of t) a b) t ts [] j (no_kinds a (joins_truths (role_of t))) h (no_kinds b (joins_truths (role_of t))) (nothing 0 l (joined (role_of t) a b)))
snoc {names} {l} b t ts (chain _ _ a c e u us vs k fa hc fc hf) j h =
    rw (append_assoc us vs (t ∷ ts)) (chain 0 l a c (joined (role_of t) e b) u us (vs ++ t ∷ ts) k fa hc fc (snoc b t ts hf j h))
snoc b t ts (compare _ op a c u us k fa hc fc) j h = cc
snoc b t ts (is_null _ negative a u v nots k m w fa) j h = cc
snoc b t ts (between _ negative a c d u v nots us vs m k w fa hc fc hd fd) j h = cc
snoc b t ts (within _ negative a es u left right nots us m k o c fa room hes) j h = cc

snoc_as : {names : Bool} {l : Level} {a e : Tree} {vs : List Token} {k : Role} (b : Tree) (t : Token) (ts : List Token) → On names l a e vs → role_of t ≡ k → joins l k ≡ true → Is names (inner l) b ts → On names l a (joined k e b) (vs ++ t ∷ ts)
snoc_as {names} {l} {a} {e} {vs} b t ts f is j y = subst (λ (x : Role). On names l a (joined x e b) (vs ++ t ∷ ts)) is (snoc b t ts f (ap (joins l) is ∙ j) y)

-- a left side that was read: its tokens, and where they begin
record LeftIs (names : Bool) (left : Part) (ts : List Token) : Type 0 where
  is : Is names Sums left.tree ts
  at : place ts ≡ left.at
  some : has ts ≡ true

-- entries of a list that stand before another, with their commas
data AreBefore (names : Bool) : List Tree → List Token → Type 0 where
  none_before : AreBefore names [] []
  one_before : (before : List Tree) (e : Tree) (front ts : List Token) (t : Token) → AreBefore names before front → Is names Ors e ts → role_of t ≡ role.Comma → AreBefore names (before ++ e ∷ []) (front ++ (ts ++ t ∷ []))

-- the front was read for these symbols, of which the first takes an expression of the level next
abbrev Owed : Bool → List Symbol → Level → List Token → Type 0
Owed names [] l front = ⊥
Owed names (Want n k ∷ stack) l front = ⊥
Owed names (May n k ∷ stack) l front = (l ≡ inner k) × Owed names stack k front
Owed names (Judge truth Whole ∷ stack) l front = (l ≡ Ors) × (front ≡ []) × (stack ≡ [])
Owed names (Judge truth (Negating at) ∷ stack) l front = (below : List Token) × (t : Token) × (front ≡ below ++ t ∷ []) × (t.at ≡ at) × (role_of t ≡ role.Math Sub) × (l ≡ Unaries) × Owed names stack Unaries below
Owed names (Judge truth (Denying at) ∷ stack) l front = (below : List Token) × (t : Token) × (front ≡ below ++ t ∷ []) × (t.at ≡ at) × (role_of t ≡ role.Not) × (l ≡ Nots) × Owed names stack Nots below
Owed names (Judge truth (Bounding negative left lower) ∷ stack) l front = (below : List Token) × (ts : List Token) × (nots : List Token) × (t : Token) × (us : List Token) × (u : Token) × (front ≡ below ++ (ts ++ (nots ++ t ∷ (us ++ u ∷ []))))
    × LeftIs names left ts × IsNotOption negative nots × (role_of t ≡ role.Between) × Is names Sums lower us × (role_of u ≡ role.And) × (l ≡ Sums) × Owed names stack Comps below
Owed names (Judge truth (Joining (role.Compare op) left) ∷ stack) l front = (below : List Token) × (ts : List Token) × (t : Token) × (front ≡ below ++ (ts ++ t ∷ [])) × LeftIs names left ts × (role_of t ≡ role.Compare op) × (l ≡ Sums) × Owed names stack Comps below
Owed names (Judge truth (Joining k left) ∷ May n m ∷ stack) l front = (below : List Token) × (us : List Token) × (vs : List Token) × (t : Token) × (a : Tree) × (front ≡ below ++ ((us ++ vs) ++ t ∷ [])) × Is names (inner m) a us × On names m a left.tree vs × (place us ≡ left.at)
    × (role_of t ≡ k) × (joins m k ≡ true) × (l ≡ inner m) × Owed names stack m below
Owed names (Judge truth (Joining k left) ∷ stack) l front = ⊥
Owed names (Shut at ∷ stack) l front = (below : List Token) × (t : Token) × (front ≡ below ++ t ∷ []) × (t.at ≡ at) × (role_of t ≡ role.Open) × (l ≡ Ors) × Owed names stack Unaries below
Owed names (Nullness left ∷ stack) l front = ⊥
Owed names (NullAfterNot left ∷ stack) l front = ⊥
Owed names (AfterNot n left ∷ stack) l front = ⊥
Owed names (Low n negative left ∷ stack) l front = (below : List Token) × (ts : List Token) × (nots : List Token) × (t : Token) × (front ≡ below ++ (ts ++ (nots ++ t ∷ []))) × LeftIs names left ts × IsNotOption negative nots × (role_of t ≡ role.Between) × (l ≡ Sums) × Owed names stack Comps below
Owed names (Opens n negative left ∷ stack) l front = ⊥
Owed names (Entry n negative left before ∷ stack) l front = (below : List Token) × (ts : List Token) × (nots : List Token) × (t : Token) × (o : Token) × (es : List Token) × (front ≡ below ++ (ts ++ (nots ++ t ∷ o ∷ es)))
    × LeftIs names left ts × IsNotOption negative nots × (role_of t ≡ role.In) × (role_of o ≡ role.Open) × AreBefore names before es × (l ≡ Ors) × Owed names stack Comps below

-- the part now ends the front, which was read for these symbols
record Live (names : Bool) (stack : List Symbol) (now : Part) (front : List Token) : Type 0 where
  below : List Token
  level : Level
  tokens : List Token
  split : front ≡ below ++ tokens
  is : Is names level now.tree tokens
  at : place tokens ≡ now.at
  owed : Owed names stack level below

-- how a front stands to the symbols that may still come behind it
abbrev State : Bool → List Symbol → Part → List Token → Type 0
State names [] now front = Unit {0}
State names (Want n l ∷ stack) now front = Owed names stack l front
State names (May n Comps ∷ stack) now front = (below : List Token) × (ts : List Token) × (front ≡ below ++ ts) × LeftIs names now ts × Owed names stack Comps below
State names (May n k ∷ stack) now front = (below : List Token) × (us : List Token) × (vs : List Token) × (a : Tree) × (front ≡ below ++ (us ++ vs)) × Is names (inner k) a us × On names k a now.tree vs × (place us ≡ now.at) × Owed names stack k below
State names (Nullness left ∷ stack) now front = (below : List Token) × (ts : List Token) × (t : Token) × (front ≡ below ++ (ts ++ t ∷ [])) × LeftIs names left ts × (role_of t ≡ role.Is) × Owed names stack Comps below
State names (NullAfterNot left ∷ stack) now front = (below : List Token) × (ts : List Token) × (t : Token) × (u : Token) × (front ≡ below ++ (ts ++ t ∷ u ∷ [])) × LeftIs names left ts × (role_of t ≡ role.Is) × (role_of u ≡ role.Not) × Owed names stack Comps below
State names (AfterNot n left ∷ stack) now front = (below : List Token) × (ts : List Token) × (t : Token) × (front ≡ below ++ (ts ++ t ∷ [])) × LeftIs names left ts × (role_of t ≡ role.Not) × Owed names stack Comps below
State names (Opens n negative left ∷ stack) now front = (below : List Token) × (ts : List Token) × (nots : List Token) × (t : Token) × (front ≡ below ++ (ts ++ (nots ++ t ∷ []))) × LeftIs names left ts × IsNotOption negative nots × (role_of t ≡ role.In) × Owed names stack Comps below
State names stack now front = Live names stack now front

left_is : {names : Bool} {e : Tree} {ts : List Token} (at : ℕ) → Is names Sums e ts → place ts ≡ at → LeftIs names (part e at) ts
left_is at x p = record { is = x; at = p; some = has_some x }

-- a part that is complete settles behind the front
settle : (names : Bool) (stack : List Symbol) (l : Level) (below ts : List Token) (e : Tree) (at : ℕ) → Is names l e ts → place ts ≡ at → Owed names stack l below → State names stack (part e at) (below ++ ts)
settle names [] l below ts e at x p o = tt
settle names (Want n k ∷ stack) l below ts e at x p o = absurd o
settle names (May n Comps ∷ stack) l below ts e at x p o = (below, ts, refl, left_is at (rw o.0 at x) p, o.1)
settle names (May n Ors ∷ stack) l below ts e at x p o = (below, ts, [], e, ap (λ (zs : List Token). below ++ zs) (sym (append-nil ts)), rw o.0 at x, nothing 0 Ors e, p, o.1)
settle names (May n Ands ∷ stack) l below ts e at x p o = (below, ts, [], e, ap (λ (zs : List Token). below ++ zs) (sym (append-nil ts)), rw o.0 at x, nothing 0 Ands e, p, o.1)
settle names (May n Nots ∷ stack) l below ts e at x p o = (below, ts, [], e, ap (λ (zs : List Token). below ++ zs) (sym (append-nil ts)), rw o.0 at x, nothing 0 Nots e, p, o.1)
settle names (May n Sums ∷ stack) l below ts e at x p o = (below, ts, [], e, ap (λ (zs : List Token). below ++ zs) (sym (append-nil ts)), rw o.0 at x, nothing 0 Sums e, p, o.1)
settle names (May n Prods ∷ stack) l below ts e at x p o = (below, ts, [], e, ap (λ (zs : List Token). below ++ zs) (sym (append-nil ts)), rw o.0 at x, nothing 0 Prods e, p, o.1)
settle names (May n Unaries ∷ stack) l below ts e at x p o = (below, ts, [], e, ap (λ (zs : List Token). below ++ zs) (sym (append-nil ts)), rw o.0 at x, nothing 0 Unaries e, p, o.1)
settle names (Judge truth frame ∷ stack) l below ts e at x p o = record { below = below; level = l; tokens = ts; split = refl; is = x; at = p; owed = o }
settle names (Shut place_of ∷ stack) l below ts e at x p o = record { below = below; level = l; tokens = ts; split = refl; is = x; at = p; owed = o }
settle names (Nullness left ∷ stack) l below ts e at x p o = absurd o
settle names (NullAfterNot left ∷ stack) l below ts e at x p o = absurd o
settle names (AfterNot n left ∷ stack) l below ts e at x p o = absurd o
settle names (Low n negative left ∷ stack) l below ts e at x p o = record { below = below; level = l; tokens = ts; split = refl; is = x; at = p; owed = o }
settle names (Opens n negative left ∷ stack) l below ts e at x p o = absurd o
settle names (Entry n negative left before ∷ stack) l below ts e at x p o = record { below = below; level = l; tokens = ts; split = refl; is = x; at = p; owed = o }

-- the same where the front is known another way
settled : (names : Bool) (stack : List Symbol) (l : Level) (front below ts : List Token) (e : Tree) (at : ℕ) → front ≡ below ++ ts → Is names l e ts → place ts ≡ at → Owed names stack l below → State names stack (part e at) front
settled names stack l front below ts e at split x p o = rw split (settle names stack l below ts e at x p o)

-- a truth made of a value, which settles at the level of comparisons
truth_settled : (names : Bool) (stack : List Symbol) (front below ts us : List Token) (left : Part) (e : Tree) → front ≡ below ++ (ts ++ us) → LeftIs names left ts → On names Comps left.tree e us → Owed names stack Comps below → State names stack (part e left.at) front
truth_settled names stack front below ts us left e split h f o = settled names stack Comps front below (ts ++ us) e left.at split (onward 0 Comps left.tree e ts us h.is f) (place_append ts us h.some ∙ h.at) o

-- an operator that may come doesn't
passed_by : (names : Bool) (n : ℕ) (k : Level) (stack : List Symbol) (now : Part) (front : List Token) → State names (May n k ∷ stack) now front → State names stack now front
passed_by names n Comps stack now front (below, ts, split, h, o) = settled names stack Comps front below ts now.tree now.at split (rw (← append-nil ts) (onward 0 Comps now.tree now.tree ts [] h.is (nothing 0 Comps now.tree))) h.at o
passed_by names n Ors stack now front (below, us, vs, a, split, x, f, p, o) = settled names stack Ors front below (us ++ vs) now.tree now.at split (onward 0 Ors a now.tree us vs x f) (place_append us vs (has_some x) ∙ p) o
passed_by names n Ands stack now front (below, us, vs, a, split, x, f, p, o) = settled names stack Ands front below (us ++ vs) now.tree now.at split (onward 0 Ands a now.tree us vs x f) (place_append us vs (has_some x) ∙ p) o
passed_by names n Nots stack now front (below, us, vs, a, split, x, f, p, o) = settled names stack Nots front below (us ++ vs) now.tree now.at split (onward 0 Nots a now.tree us vs x f) (place_append us vs (has_some x) ∙ p) o
passed_by names n Sums stack now front (below, us, vs, a, split, x, f, p, o) = settled names stack Sums front below (us ++ vs) now.tree now.at split (onward 0 Sums a now.tree us vs x f) (place_append us vs (has_some x) ∙ p) o
passed_by names n Prods stack now front (below, us, vs, a, split, x, f, p, o) = settled names stack Prods front below (us ++ vs) now.tree now.at split (onward 0 Prods a now.tree us vs x f) (place_append us vs (has_some x) ∙ p) o
passed_by names n Unaries stack now front (below, us, vs, a, split, x, f, p, o) = settled names stack Unaries front below (us ++ vs) now.tree now.at split (onward 0 Unaries a now.tree us vs x f) (place_append us vs (has_some x) ∙ p) o

live_part : {names : Bool} {stack : List Symbol} {now : Part} {front : List Token} → Live names stack now front → IsPart names front now.at
live_part {now = now} h = record { before = h.below; tokens = h.tokens; level = h.level; tree = now.tree; split = h.split; place_is = h.at; is = h.is }

may_part : (names : Bool) (n : ℕ) (k : Level) (stack : List Symbol) (now : Part) (front : List Token) → State names (May n k ∷ stack) now front → IsPart names front now.at
may_part names n Comps stack now front (below, ts, split, h, o) = record { before = below; tokens = ts; level = Sums; tree = now.tree; split = split; place_is = h.at; is = h.is }
may_part names n Ors stack now front (below, us, vs, a, split, x, f, p, o) = record { before = below; tokens = us ++ vs; level = Ors; tree = now.tree; split = split; place_is = place_append us vs (has_some x) ∙ p; is = onward 0 Ors a now.tree us vs x f }
may_part names n Ands stack now front (below, us, vs, a, split, x, f, p, o) = record { before = below; tokens = us ++ vs; level = Ands; tree = now.tree; split = split; place_is = place_append us vs (has_some x) ∙ p; is = onward 0 Ands a now.tree us vs x f }
may_part names n Nots stack now front (below, us, vs, a, split, x, f, p, o) = record { before = below; tokens = us ++ vs; level = Nots; tree = now.tree; split = split; place_is = place_append us vs (has_some x) ∙ p; is = onward 0 Nots a now.tree us vs x f }
may_part names n Sums stack now front (below, us, vs, a, split, x, f, p, o) = record { before = below; tokens = us ++ vs; level = Sums; tree = now.tree; split = split; place_is = place_append us vs (has_some x) ∙ p; is = onward 0 Sums a now.tree us vs x f }
may_part names n Prods stack now front (below, us, vs, a, split, x, f, p, o) = record { before = below; tokens = us ++ vs; level = Prods; tree = now.tree; split = split; place_is = place_append us vs (has_some x) ∙ p; is = onward 0 Prods a now.tree us vs x f }
may_part names n Unaries stack now front (below, us, vs, a, split, x, f, p, o) = record { before = below; tokens = us ++ vs; level = Unaries; tree = now.tree; split = split; place_is = place_append us vs (has_some x) ∙ p; is = onward 0 Unaries a now.tree us vs x f }

-- the token behind a front
abbrev push : List Token → Token → List Token
push front t = front ++ t ∷ []

-- what was read with an operator becomes its operand
chain_on : (names : Bool) (n : ℕ) (m : Level) (k : Role) (stack : List Symbol) (left now : Part) (front below us vs ts : List Token) (t : Token) (a : Tree) → front ≡ below ++ ((us ++ vs) ++ t ∷ ts) → Is names (inner m) a us → On names m a left.tree vs → place us ≡ left.at
    → role_of t ≡ k → joins m k ≡ true → Is names (inner m) now.tree ts → Owed names stack m below → State names (May n m ∷ stack) (part (joined k left.tree now.tree) left.at) front
chain_on names n Ors role.Or stack left now front below us vs ts t a split x f p is j y o = (below, us, vs ++ t ∷ ts, a, split ∙ ap (λ (zs : List Token). below ++ zs) (append_assoc us vs (t ∷ ts)), x, snoc_as now.tree t ts f is j y, p, o)
chain_on names n Ands role.And stack left now front below us vs ts t a split x f p is j y o = (below, us, vs ++ t ∷ ts, a, split ∙ ap (λ (zs : List Token). below ++ zs) (append_assoc us vs (t ∷ ts)), x, snoc_as now.tree t ts f is j y, p, o)
chain_on names n Sums (role.Math Add) stack left now front below us vs ts t a split x f p is j y o = (below, us, vs ++ t ∷ ts, a, split ∙ ap (λ (zs : List Token). below ++ zs) (append_assoc us vs (t ∷ ts)), x, snoc_as now.tree t ts f is j y, p, o)
chain_on names n Sums (role.Math Sub) stack left now front below us vs ts t a split x f p is j y o = (below, us, vs ++ t ∷ ts, a, split ∙ ap (λ (zs : List Token). below ++ zs) (append_assoc us vs (t ∷ ts)), x, snoc_as now.tree t ts f is j y, p, o)
chain_on names n Prods (role.Math Mul) stack left now front below us vs ts t a split x f p is j y o = (below, us, vs ++ t ∷ ts, a, split ∙ ap (λ (zs : List Token). below ++ zs) (append_assoc us vs (t ∷ ts)), x, snoc_as now.tree t ts f is j y, p, o)
chain_on names n _ _ stack left now front below us vs ts t a split x f p is j y o = cc

joining_on : (names truth : Bool) (k : Role) (left : Part) (stack : List Symbol) (now : Part) (front : List Token) → Live names (Judge truth (Joining k left) ∷ stack) now front → State names stack (framed (Joining k left) now) front
joining_on names truth (role.Compare op) left stack now front h =
    let (below, ts, t, split, l, is, level, o) = h.owed in
    truth_settled names stack front below ts (t ∷ h.tokens) left (Compare op left.tree now.tree) (rw split at h.split ∙ simp append_assoc) l (compare 0 op left.tree now.tree t h.tokens is (no_kinds left.tree false) (rw level at h.is) (no_kinds now.tree false)) o
joining_on names truth k left (May n m ∷ stack) now front h =
    let (below, us, vs, t, a, split, x, f, p, is, j, level, o) = h.owed in
    chain_on names n m k stack left now front below us vs h.tokens t a (rw split at h.split ∙ simp append_assoc) x f p is j (rw level at h.is) o
joining_on names truth k left stack now front h = absurd h.owed

framed_on : (names truth : Bool) (frame : Frame) (stack : List Symbol) (now : Part) (front : List Token) → Live names (Judge truth frame ∷ stack) now front → State names stack (framed frame now) front
framed_on names truth Whole stack now front h = rw h.owed.2 tt
framed_on names truth (Joining k left) stack now front h = joining_on names truth k left stack now front h
framed_on names truth (Negating at) stack now front h =
    let (below, t, split, place_is, is, level, o) = h.owed in
    settled names stack Unaries front below (t ∷ h.tokens) (Neg now.tree) at (rw split at h.split ∙ simp append_assoc) (minus 0 now.tree t h.tokens is (no_levels 0) (rw level at h.is) (no_kinds now.tree false)) place_is o
framed_on names truth (Denying at) stack now front h =
    let (below, t, split, place_is, is, level, o) = h.owed in
    settled names stack Nots front below (t ∷ h.tokens) (Not now.tree) at (rw split at h.split ∙ simp append_assoc) (negation 0 now.tree t h.tokens is (no_levels 0) (rw level at h.is) (no_kinds now.tree true)) place_is o
framed_on names truth (Bounding negative left lower) stack now front h =
    let (below, ts, nots, t, us, u, split, l, m, is, x, and, level, o) = h.owed in
    truth_settled names stack front below ts (nots ++ t ∷ (us ++ u ∷ h.tokens)) left (negated negative (Between left.tree lower now.tree)) (rw split at h.split ∙ simp append_assoc) l
    (between 0 negative left.tree lower now.tree t u nots us h.tokens m is and (no_kinds left.tree false) x (no_kinds lower false) (rw level at h.is) (no_kinds now.tree false)) o

before_entries : {names : Bool} {before : List Tree} {front us : List Token} {rest : Entries} → AreBefore names before front → AreEntries names loose 0 rest us → AreEntries names loose 0 (onto before rest) (front ++ us)
before_entries none_before h = h
before_entries {us = us} {rest = rest} (one_before before e front ts t b x comma) h =
    rw (onto_push before e rest, append_assoc front (ts ++ t ∷ []) us, append_assoc ts (t ∷ []) us) (before_entries b (more 0 e rest t ts us x (no_kinds e false) comma h))

-- what a step leaves
abbrev StateStep : Bool → Step → List Symbol → List Token → Token → Type 0
StateStep names Stuck stack front t = Unit {0}
StateStep names (Take symbols p) stack front t = State names (symbols ++ stack) p (push front t)
StateStep names (Leave p) stack front t = State names stack p front

abbrev PartOption : Bool → Option Bool → Part → List Token → Type 0
PartOption names None now front = Unit {0}
PartOption names (Some truth) now front = IsPart names front now.at

record Acted (names : Bool) (a : Action) (stack : List Symbol) (now : Part) (front : List Token) (t : Token) : Type 0 where
  part_is : PartOption names a.judged now front
  step_is : StateStep names a.step stack front t

leaf_acted : (names : Bool) (o : Option Tree) (t : Token) (symbols stack : List Symbol) (now : Part) (front : List Token) → leaf names t.kind ≡ o → Owed names (symbols ++ stack) Unaries front → Acted names (at_leaf o t.at symbols) stack now front t
leaf_acted names (Some e) t symbols stack now front is w = record { part_is = tt; step_is = settle names (symbols ++ stack) Unaries front (t ∷ []) e t.at (one 0 t e is) refl w }
leaf_acted names None t symbols stack now front is w = record { part_is = tt; step_is = tt }

unary_acted : (names : Bool) (k : Role) (n : ℕ) (t : Token) (symbols stack : List Symbol) (now : Part) (front : List Token) → role_of t ≡ k → Owed names (symbols ++ stack) Unaries front → Acted names (start_unary k n (leaf names t.kind) t.at now symbols) stack now front t
unary_acted names role.Open n t symbols stack now front is w = record { part_is = tt; step_is = (front, t, refl, refl, is, refl, w) }
unary_acted names (role.Math Sub) n t symbols stack now front is w = record { part_is = tt; step_is = (front, t, refl, refl, is, refl, w) }
unary_acted names k n t symbols stack now front is w = leaf_acted names (leaf names t.kind) t symbols stack now front refl w

not_acted : (names : Bool) (k : Role) (n : ℕ) (t : Token) (symbols stack : List Symbol) (now : Part) (front : List Token) → role_of t ≡ k → Owed names (symbols ++ stack) Nots front → Acted names (start_not k n (leaf names t.kind) t.at now symbols) stack now front t
not_acted names role.Not n t symbols stack now front is w = record { part_is = tt; step_is = (front, t, refl, refl, is, refl, w) }
not_acted names k n t symbols stack now front is w = unary_acted names k n t (May n Prods ∷ May n Sums ∷ May n Comps ∷ May n Nots ∷ symbols) stack now front is (refl, (refl, (refl, (refl, w))))

start_acted : (names : Bool) (l : Level) (k : Role) (n : ℕ) (t : Token) (stack : List Symbol) (now : Part) (front : List Token) → role_of t ≡ k → Owed names stack l front → Acted names (start l k n (leaf names t.kind) t.at now) stack now front t
start_acted names Unaries k n t stack now front is w = unary_acted names k n t [] stack now front is w
start_acted names Prods k n t stack now front is w = unary_acted names k n t (May n Prods ∷ []) stack now front is (refl, w)
start_acted names Sums k n t stack now front is w = unary_acted names k n t (May n Prods ∷ May n Sums ∷ []) stack now front is (refl, (refl, w))
start_acted names Comps k n t stack now front is w = unary_acted names k n t (May n Prods ∷ May n Sums ∷ May n Comps ∷ []) stack now front is (refl, (refl, (refl, w)))
start_acted names Nots k n t stack now front is w = not_acted names k n t [] stack now front is w
start_acted names Ands k n t stack now front is w = not_acted names k n t (May n Ands ∷ []) stack now front is (refl, w)
start_acted names Ors k n t stack now front is w = not_acted names k n t (May n Ands ∷ May n Ors ∷ []) stack now front is (refl, (refl, w))

-- the tuple of a level at which operators join
abbrev Chained : Bool → Level → List Symbol → Part → List Token → Type 0
Chained names k stack now front = (below : List Token) × (us : List Token) × (vs : List Token) × (a : Tree) × (front ≡ below ++ (us ++ vs)) × Is names (inner k) a us × On names k a now.tree vs × (place us ≡ now.at) × Owed names stack k below

joined_acted : (names : Bool) (l : Level) (k : Role) (n : ℕ) (t : Token) (stack : List Symbol) (now : Part) (front : List Token) → role_of t ≡ k → joins l k ≡ true → State names (May n l ∷ stack) now front
    → State names (Want n (inner l) ∷ Judge (joins_truths k) (Joining k now) ∷ May n l ∷ stack) now (push front t)
joined_acted names Ors role.Or n t stack now front is j (below, us, vs, a, split, x, f, p, o) = (below, us, vs, t, a, rw split (simp append_assoc), x, f, p, is, refl, refl, o)
joined_acted names Ands role.And n t stack now front is j (below, us, vs, a, split, x, f, p, o) = (below, us, vs, t, a, rw split (simp append_assoc), x, f, p, is, refl, refl, o)
joined_acted names Sums (role.Math Add) n t stack now front is j (below, us, vs, a, split, x, f, p, o) = (below, us, vs, t, a, rw split (simp append_assoc), x, f, p, is, refl, refl, o)
joined_acted names Sums (role.Math Sub) n t stack now front is j (below, us, vs, a, split, x, f, p, o) = (below, us, vs, t, a, rw split (simp append_assoc), x, f, p, is, refl, refl, o)
joined_acted names Prods (role.Math Mul) n t stack now front is j (below, us, vs, a, split, x, f, p, o) = (below, us, vs, t, a, rw split (simp append_assoc), x, f, p, is, refl, refl, o)
joined_acted names _ _ n t stack now front is j h = cc

comparing_acted : (names : Bool) (k : Role) (n : ℕ) (t : Token) (stack : List Symbol) (now : Part) (front : List Token) → role_of t ≡ k → State names (May n Comps ∷ stack) now front → Acted names (comparing k n now) stack now front t
comparing_acted names (role.Compare op) n t stack now front is (below, ts, split, h, o) = record { part_is = may_part names n Comps stack now front (below, ts, split, h, o); step_is = (below, ts, t, rw split (simp append_assoc), h, is, refl, o) }
comparing_acted names role.Is n t stack now front is (below, ts, split, h, o) = record { part_is = may_part names n Comps stack now front (below, ts, split, h, o); step_is = (below, ts, t, rw split (simp append_assoc), h, is, o) }
comparing_acted names role.Not n t stack now front is (below, ts, split, h, o) = record { part_is = may_part names n Comps stack now front (below, ts, split, h, o); step_is = (below, ts, t, rw split (simp append_assoc), h, is, o) }
comparing_acted names role.Between n t stack now front is (below, ts, split, h, o) = record { part_is = may_part names n Comps stack now front (below, ts, split, h, o); step_is = (below, ts, [], t, rw split (simp append_assoc), h, tt, is, refl, o) }
comparing_acted names role.In n t stack now front is (below, ts, split, h, o) = record { part_is = may_part names n Comps stack now front (below, ts, split, h, o); step_is = (below, ts, [], t, rw split (simp append_assoc), h, tt, is, o) }
comparing_acted names k n t stack now front is h = record { part_is = tt; step_is = passed_by names n Comps stack now front h }

beyond_acted : (names : Bool) (l : Level) (n : ℕ) (t : Token) (stack : List Symbol) (now : Part) (front : List Token) → State names (May n l ∷ stack) now front → Acted names (follow false l (role_of t) n now) stack now front t
beyond_acted names Comps n t stack now front h = comparing_acted names (role_of t) n t stack now front refl h
beyond_acted names Ors n t stack now front h = record { part_is = tt; step_is = passed_by names n Ors stack now front h }
beyond_acted names Ands n t stack now front h = record { part_is = tt; step_is = passed_by names n Ands stack now front h }
beyond_acted names Nots n t stack now front h = record { part_is = tt; step_is = passed_by names n Nots stack now front h }
beyond_acted names Sums n t stack now front h = record { part_is = tt; step_is = passed_by names n Sums stack now front h }
beyond_acted names Prods n t stack now front h = record { part_is = tt; step_is = passed_by names n Prods stack now front h }
beyond_acted names Unaries n t stack now front h = record { part_is = tt; step_is = passed_by names n Unaries stack now front h }

follow_acted : (names : Bool) (j : Bool) (l : Level) (n : ℕ) (t : Token) (stack : List Symbol) (now : Part) (front : List Token) → joins l (role_of t) ≡ j → State names (May n l ∷ stack) now front → Acted names (follow j l (role_of t) n now) stack now front t
follow_acted names true l n t stack now front is h = record { part_is = may_part names n l stack now front h; step_is = joined_acted names l (role_of t) n t stack now front refl is h }
follow_acted names false l n t stack now front is h = beyond_acted names l n t stack now front h

shut_acted : (names : Bool) (k : Role) (at : ℕ) (t : Token) (stack : List Symbol) (now : Part) (front : List Token) → role_of t ≡ k → Live names (Shut at ∷ stack) now front → Acted names (shut k at now) stack now front t
shut_acted names role.Close at t stack now front is h =
    let (below, u, split, place_is, opened_one, level, o) = h.owed in
    record {
      part_is = tt;
      step_is = settled names stack Unaries (push front t) below (u ∷ (h.tokens ++ t ∷ [])) now.tree at (rw (h.split, split) (simp append_assoc)) (brackets 0 now.tree u t h.tokens opened_one is (no_levels 0) (rw level at h.is)) place_is o;
    }
shut_acted names _ at t stack now front is h = record { part_is = tt; step_is = tt }

nullness_acted : (names : Bool) (k : Role) (left : Part) (t : Token) (stack : List Symbol) (now : Part) (front : List Token) → role_of t ≡ k → State names (Nullness left ∷ stack) now front → Acted names (nullness k left now) stack now front t
nullness_acted names role.Null left t stack now front is (below, ts, u, split, h, v, o) = record {
  part_is = tt;
  step_is = truth_settled names stack (push front t) below ts (u ∷ t ∷ []) left (IsNull left.tree) (rw split (simp append_assoc)) h (is_null 0 false left.tree u t [] v tt is (no_kinds left.tree false)) o;
}
nullness_acted names role.Not left t stack now front is (below, ts, u, split, h, v, o) = record { part_is = tt; step_is = (below, ts, u, t, rw split (simp append_assoc), h, v, is, o) }
nullness_acted names _ left t stack now front is h = record { part_is = tt; step_is = tt }

null_acted : (names : Bool) (k : Role) (left : Part) (t : Token) (stack : List Symbol) (now : Part) (front : List Token) → role_of t ≡ k → State names (NullAfterNot left ∷ stack) now front → Acted names (null_after_not k left) stack now front t
null_acted names role.Null left t stack now front is (below, ts, u, w, split, h, v, x, o) = record {
  part_is = tt;
  step_is = truth_settled names stack (push front t) below ts (u ∷ w ∷ t ∷ []) left (Not (IsNull left.tree)) (rw split (simp append_assoc)) h (is_null 0 true left.tree u t (w ∷ []) v x is (no_kinds left.tree false)) o;
}
null_acted names _ left t stack now front is h = record { part_is = tt; step_is = tt }

after_acted : (names : Bool) (k : Role) (n : ℕ) (left : Part) (t : Token) (stack : List Symbol) (now : Part) (front : List Token) → role_of t ≡ k → State names (AfterNot n left ∷ stack) now front → Acted names (after_not k n left now) stack now front t
after_acted names role.Between n left t stack now front is (below, ts, u, split, h, v, o) = record { part_is = tt; step_is = (below, ts, u ∷ [], t, rw split (simp append_assoc), h, v, is, refl, o) }
after_acted names role.In n left t stack now front is (below, ts, u, split, h, v, o) = record { part_is = tt; step_is = (below, ts, u ∷ [], t, rw split (simp append_assoc), h, v, is, o) }
after_acted names _ n left t stack now front is h = record { part_is = tt; step_is = tt }

low_acted : (names : Bool) (k : Role) (n : ℕ) (negative : Bool) (left : Part) (t : Token) (stack : List Symbol) (now : Part) (front : List Token) → role_of t ≡ k → Live names (Low n negative left ∷ stack) now front → Acted names (low k n negative left now) stack now front t
low_acted names role.And n negative left t stack now front is h =
    let (below, ts, nots, u, split, l, m, v, level, o) = h.owed in
    record { part_is = live_part h; step_is = (below, ts, nots, u, h.tokens, t, rw (h.split, split) (simp append_assoc), l, m, v, rw level at h.is, is, refl, o) }
low_acted names _ n negative left t stack now front is h = record { part_is = live_part h; step_is = tt }

opens_acted : (names : Bool) (k : Role) (n : ℕ) (negative : Bool) (left : Part) (t : Token) (stack : List Symbol) (now : Part) (front : List Token) → role_of t ≡ k → State names (Opens n negative left ∷ stack) now front → Acted names (opens k n negative left now) stack now front t
opens_acted names role.Open n negative left t stack now front is (below, ts, nots, u, split, h, m, v, o) = record { part_is = tt; step_is = (below, ts, nots, u, t, [], rw split (simp append_assoc), h, m, v, is, none_before, refl, o) }
opens_acted names _ n negative left t stack now front is h = record { part_is = tt; step_is = tt }

entry_acted : (names : Bool) (k : Role) (n : ℕ) (negative : Bool) (left : Part) (before : List Tree) (t : Token) (stack : List Symbol) (now : Part) (front : List Token) → role_of t ≡ k → Live names (Entry n negative left before ∷ stack) now front
    → Acted names (entry k n negative left before now) stack now front t
entry_acted names role.Comma n negative left before t stack now front is h =
    let (below, ts, nots, u, w, es, split, l, m, v, x, b, level, o) = h.owed in
    record {
      part_is = live_part h;
      step_is = (below, ts, nots, u, w, es ++ (h.tokens ++ t ∷ []), rw (h.split, split) (simp append_assoc), l, m, v, x, one_before before now.tree es h.tokens t b (rw level at h.is) is, refl, o);
    }
entry_acted names role.Close n negative left before t stack now front is h =
    let (below, ts, nots, u, w, es, split, l, m, v, x, b, level, o) = h.owed in
    record {
      part_is = live_part h;
      step_is = truth_settled names stack (push front t) below ts (nots ++ u ∷ w ∷ ((es ++ h.tokens) ++ t ∷ [])) left (negated negative (In left.tree (onto before (Last now.tree)))) (rw (h.split, split) (simp append_assoc)) l
          (within 0 negative left.tree (onto before (Last now.tree)) u w t nots (es ++ h.tokens) m v x is (no_kinds left.tree false) (no_levels 0) (before_entries b (last 0 now.tree h.tokens (rw level at h.is) (no_kinds now.tree false)))) o;
    }
entry_acted names _ n negative left before t stack now front is h = record { part_is = live_part h; step_is = tt }

acted : (names : Bool) (s : Symbol) (stack : List Symbol) (now : Part) (front : List Token) (t : Token) → State names (s ∷ stack) now front → Acted names (act names s now t) stack now front t
acted names (Want n l) stack now front t h = start_acted names l (role_of t) n t stack now front refl h
acted names (May n l) stack now front t h = follow_acted names (joins l (role_of t)) l n t stack now front refl h
acted names (Judge truth frame) stack now front t h = record { part_is = live_part h; step_is = framed_on names truth frame stack now front h }
acted names (Shut at) stack now front t h = shut_acted names (role_of t) at t stack now front refl h
acted names (Nullness left) stack now front t h = nullness_acted names (role_of t) left t stack now front refl h
acted names (NullAfterNot left) stack now front t h = null_acted names (role_of t) left t stack now front refl h
acted names (AfterNot n left) stack now front t h = after_acted names (role_of t) n left t stack now front refl h
acted names (Low n negative left) stack now front t h = low_acted names (role_of t) n negative left t stack now front refl h
acted names (Opens n negative left) stack now front t h = opens_acted names (role_of t) n negative left t stack now front refl h
acted names (Entry n negative left before) stack now front t h = entry_acted names (role_of t) n negative left before t stack now front refl h

abbrev StateNext : Bool → List Token → Token → Next → Type 0
StateNext names front t (Go s p m) = State names s p (push front t)
StateNext names front t (Over p m) = Unit {0}
StateNext names front t (Refuse WrongKind at) = IsPart names front at
StateNext names front t (Refuse why at) = Unit {0}

part_if : (names : Bool) (front : List Token) (t : Token) (b : Bool) (at : ℕ) (next : Next) → IsPart names front at → StateNext names front t next → StateNext names front t (only_if b WrongKind at next)
part_if names front t true at next w h = h
part_if names front t false at next w h = w

part_judged : (names : Bool) (front : List Token) (t : Token) (o : Option Bool) (now : Part) (next : Next) → PartOption names o now front → StateNext names front t next → StateNext names front t (judged strict o now next)
part_judged names front t None now next w h = h
part_judged names front t (Some truth) now next w h = part_if names front t (same true (has_truth now.tree) truth) now.at next w h

part_opened : (names : Bool) (front : List Token) (t : Token) (o : Option ℕ) (at : ℕ) (next : Next) → StateNext names front t next → StateNext names front t (opened strict o at next)
part_opened names front t None at next h = h
part_opened names front t (Some zero) at next h = tt
part_opened names front t (Some (suc n)) at next h = h

part_counted : (names : Bool) (front : List Token) (t : Token) (b : Bool) (spare at : ℕ) (f : ℕ → Next) → ((m : ℕ) → StateNext names front t (f m)) → StateNext names front t (counted strict b spare at f)
part_counted names front t false spare at f h = h spare
part_counted names front t true zero at f h = tt
part_counted names front t true (suc m) at f h = h m

part_stepped : (names : Bool) (front : List Token) (t : Token) (step : Step) (stack : List Symbol) (at : ℕ) (behind : Part → Next) → StateStep names step stack front t → ((p : Part) → State names stack p front → StateNext names front t (behind p)) → (m : ℕ) → StateNext names front t (stepped step stack at behind m)
part_stepped names front t Stuck stack at behind w h m = tt
part_stepped names front t (Take symbols p) stack at behind w h m = w
part_stepped names front t (Leave p) stack at behind w h m = h p w

state_feed : (names : Bool) (front : List Token) (stack : List Symbol) (now : Part) (spare : ℕ) (t : Token) → State names stack now front → StateNext names front t (feed names strict stack now spare t)
state_feed names front [] now spare t w = tt
state_feed names front (s ∷ stack) now spare t w =
    let a = act names s now t in
    let f : Part → Next = λ p. feed names strict stack p spare t in
    let k = acted names s stack now front t w in
    part_judged names front t a.judged now (opened strict a.opens t.at (counted strict a.counts spare t.at (stepped a.step stack t.at f))) k.part_is
    (part_opened names front t a.opens t.at (counted strict a.counts spare t.at (stepped a.step stack t.at f))
    (part_counted names front t a.counts spare t.at (stepped a.step stack t.at f) (part_stepped names front t a.step stack t.at f k.step_is (λ p v. state_feed names front stack p spare t v))))

state_next : (names : Bool) (next : Next) (t : Token) (front ts : List Token) (s2 : List Symbol) (p2 : Part) (m2 : ℕ) → StateNext names front t next
    → ((s : List Symbol) (p : Part) (m : ℕ) → State names s p (push front t) → run names strict s p m ts ≡ Open s2 p2 m2 → State names s2 p2 (push front t ++ ts))
    → go_on t ts (λ s p m. run names strict s p m ts) next ≡ Open s2 p2 m2 → State names s2 p2 (front ++ t ∷ ts)
state_next names (Go s p m) t front ts s2 p2 m2 w ih h = rw (append_assoc front (t ∷ []) ts) at (ih s p m w h)
state_next names (Over p m) t front ts s2 p2 m2 w ih h = cc
state_next names (Refuse why at) t front ts s2 p2 m2 w ih h = cc

state_run : (names : Bool) (ts front : List Token) (s s2 : List Symbol) (p p2 : Part) (m m2 : ℕ) → State names s p front → run names strict s p m ts ≡ Open s2 p2 m2 → State names s2 p2 (front ++ ts)
state_run names [] front s s2 p p2 m m2 w h = let a : s ≡ s2 = cc in let b : p ≡ p2 = cc in rw (append-nil front, ← a, ← b) w
state_run names (t ∷ ts) front s s2 p p2 m m2 w h =
    state_next names (feed names strict s p m t) t front ts s2 p2 m2 (state_feed names front s p m t w) (λ s3 p3 m3 v k. state_run names ts (push front t) s3 s2 p3 p2 m3 m2 v k) h

wrong_is : (names : Bool) (front : List Token) (t : Token) (at : ℕ) (next : Next) → next ≡ Refuse WrongKind at → StateNext names front t next → IsPart names front at
wrong_is names front t at next is h = rw is at h

-- a part that is refused for its kind was read from tokens that end the front
pub wrong_part : (names truth : Bool) (front : List Token) (t : Token) (s : List Symbol) (p : Part) (m at : ℕ) → reading names strict truth front ≡ Open s p m → feed names strict s p m t ≡ Refuse WrongKind at → IsPart names front at
wrong_part names truth front t s p m at leads stops =
    wrong_is names front t at (feed names strict s p m t) stops (state_feed names front s p m t (state_run names front [] (whole truth) s no_part p 1000 m (refl, refl, refl) leads))

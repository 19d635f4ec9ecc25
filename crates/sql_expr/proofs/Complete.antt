-- What is in the grammar the machine reads.
use Rattle.std.specs.Prelude.{Option, Some, None, ◌||◌}
use Rattle.std.proofs.Common.{◌≡◌, ℕ, ◌+◌, ◌-◌, ◌≤◌, ◌<◌, Bool, true, false, List, [], ◌∷◌, ◌++◌, ap, sym, ◌∙◌, refl, append_assoc, append-nil, arith}
use Rattle.plain_model.specs.Tree.{Tree, Null, Number, Text, Col, Neg, Not, IsNull, Between, In, Compare, Entries, Last, More}
use Rattle.plain_model.specs.Shape.{operators, entry_operators}
use Rattle.plain_model.specs.declared.expr.MathOp.TheVariants.{Add, Sub, Mul}
use Rattle.plain_model.specs.declared.expr.CompareOp.{CompareOp}
use Rattle.sql_lex.specs.declared.token.Token.{Token}
use Rattle.sql_lex.specs.declared.token.TokenKind.{TokenKind}
use Rattle.sql_lex.specs.declared.token.TokenKind.TheVariants as kind
use Rattle.sql_expr.specs.declared.role.Role.{Role}
use Rattle.sql_expr.specs.declared.role.Role.TheVariants as role
use Rattle.sql_expr.specs.declared.role.Level.{Level}
use Rattle.sql_expr.specs.declared.role.Level.TheVariants.{Ors, Ands, Nots, Comps, Sums, Prods, Unaries}
use Rattle.sql_expr.specs.Rules.{Rules, Fits, HasRoom, IsWithin}
use Rattle.sql_expr.specs.Grammar.{joins, joins_truths, compares, joined, inner, negated, IsNotOption, IsExpr, Follows, AreEntries, one, brackets, minus, negation, onward, nothing, chain, compare, is_null, between, within, last, more}
use Rattle.sql_expr.specs.Roles.{word_role, kind_role, role_of, null_of, column_of, leaf}
use Rattle.sql_expr.specs.Symbols.{Part, part, Frame, Joining, Negating, Denying, Bounding, framed, Symbol, Want, May, Judge, Shut, Nullness, NullAfterNot, AfterNot, Low, Opens, Entry, onto, null_test, membership}
use Rattle.sql_expr.specs.Table.{Take, Leave, plainly, opening, counting, judging, joining, at_leaf, start_unary, comparing, follow, act}
use Rattle.sql_expr.specs.Read.{run}
use Rattle.sql_expr.specs.Laws.{place}
use Rattle.sql_expr.proofs.Lists.{place_append, has, has_append, has_some, onto_push}
use Rattle.sql_expr.proofs.Taking.{NotUnaries, is_nots, taken, left, is_not, starts_not, enter}

-- the token goes on with an operand at the level
abbrev pub takes : Level → Role → Bool
takes Comps k = compares k
takes l k = joins l k

-- the token goes on with an expression of the level
abbrev pub binds : Level → Role → Bool
binds Unaries k = false
binds Prods k = joins Prods k
binds Sums k = joins Sums k || joins Prods k
binds Comps k = compares k || (joins Sums k || joins Prods k)
binds Nots k = joins Nots k || (compares k || (joins Sums k || joins Prods k))
binds Ands k = joins Ands k || (joins Nots k || (compares k || (joins Sums k || joins Prods k)))
binds Ors k = joins Ors k || (joins Ands k || (joins Nots k || (compares k || (joins Sums k || joins Prods k))))

abbrev pub bound : Level → List Token → Bool
bound l [] = true
bound l (t ∷ ts) = binds l (role_of t)

has_behind : (ts us : List Token) → has us ≡ true → has (ts ++ us) ≡ true
has_behind [] us h = h
has_behind (t ∷ ts) us h = refl

has_bound : (l : Level) (rest : List Token) → bound l rest ≡ false → has rest ≡ true
has_bound l [] h = cc
has_bound l (t ∷ ts) h = refl

starts_append : (ts us : List Token) → starts_not ts ≡ false → starts_not (ts ++ us) ≡ false
starts_append [] us h = cc
starts_append (t ∷ ts) us h = h

abbrev tight : Level → Bool
tight Comps = true
tight Sums = true
tight Prods = true
tight Unaries = true
tight _ = false

tight_inner : (l : Level) → tight l ≡ true → tight (inner l) ≡ true
tight_inner Comps h = refl
tight_inner Sums h = refl
tight_inner Prods h = refl
tight_inner Unaries h = refl
tight_inner Ors h = cc
tight_inner Ands h = cc
tight_inner Nots h = cc

-- a token that is an expression is a leaf or NULL
abbrev pub is_leaf : Role → Bool
is_leaf role.Leaf = true
is_leaf role.Null = true
is_leaf _ = false

null_leaf : (k : Role) (e : Tree) → null_of k ≡ Some e → is_leaf k ≡ true
null_leaf role.Null e h = refl
null_leaf _ e h = cc

pub leaf_role : (names : Bool) (k : TokenKind) (e : Tree) → leaf names k ≡ Some e → is_leaf (kind_role k) ≡ true
leaf_role names (kind.Key word) e h = null_leaf (word_role word) e h
leaf_role names (kind.Named name) e h = refl
leaf_role names (kind.Bracketed name) e h = refl
leaf_role names (kind.Number n) e h = refl
leaf_role names (kind.Text text) e h = refl
leaf_role names (kind.Mark mark) e h = cc
leaf_role names kind.Bad e h = cc
leaf_role names kind.End e h = cc

null_operators : (k : Role) (e : Tree) → null_of k ≡ Some e → operators e ≡ 0
null_operators role.Null e h = let same : e ≡ Null = cc in rw same refl
null_operators _ e h = cc

column_operators : (names : Bool) (name : List ℕ) (e : Tree) → column_of names name ≡ Some e → operators e ≡ 0
column_operators true name e h = let same : e ≡ Col name = cc in rw same refl
column_operators false name e h = cc

leaf_operators : (names : Bool) (k : TokenKind) (e : Tree) → leaf names k ≡ Some e → operators e ≡ 0
leaf_operators names (kind.Key word) e h = null_operators (word_role word) e h
leaf_operators names (kind.Named name) e h = column_operators names name e h
leaf_operators names (kind.Bracketed name) e h = column_operators names name e h
leaf_operators names (kind.Number n) e h = let same : e ≡ Number n = cc in rw same refl
leaf_operators names (kind.Text text) e h = let same : e ≡ Text text = cc in rw same refl
leaf_operators names (kind.Mark mark) e h = cc
leaf_operators names kind.Bad e h = cc
leaf_operators names kind.End e h = cc

leaf_not : (k : Role) → is_leaf k ≡ true → is_not k ≡ false
leaf_not role.Not h = cc
leaf_not _ h = refl

starts_leaf : (k : Role) (n : ℕ) (tree : Option Tree) (at : ℕ) (now : Part) (symbols : List Symbol) → is_leaf k ≡ true → start_unary k n tree at now symbols ≡ at_leaf tree at symbols
starts_leaf role.Open n tree at now symbols h = cc
starts_leaf (role.Math Sub) n tree at now symbols h = cc
starts_leaf _ n tree at now symbols h = refl

no_not : {names : Bool} {r : Rules} {n : ℕ} {l : Level} {e : Tree} {ts : List Token} → IsExpr names r n l e ts → tight l ≡ true → starts_not ts ≡ false
no_not {names} (one n t e h) k = leaf_not (role_of t) (leaf_role names t.kind e h)
no_not (brackets n e left right ts o c room h) k = rw o refl
no_not (minus n e t ts s room h v) k = rw s refl
no_not (negation n e t ts s room h v) k = cc
no_not (onward n l a e ts us ha hf) k = starts_append ts us (no_not ha (tight_inner l k))

-- what a level's operator begins no tighter level goes on with
apart : (l : Level) (k : Role) → joins l k ≡ true → binds (inner l) k ≡ false
apart Ors role.Or h = refl
apart Ands role.And h = refl
apart Sums (role.Math Add) h = refl
apart Sums (role.Math Sub) h = refl
apart Prods (role.Math Mul) h = refl
apart _ _ h = cc

or_left : (a b : Bool) → (a || b) ≡ false → a ≡ false
or_left true b h = cc
or_left false b h = refl

or_right : (a b : Bool) → (a || b) ≡ false → b ≡ false
or_right true b h = cc
or_right false b h = h

inner_binds : (l : Level) (k : Role) → binds l k ≡ false → binds (inner l) k ≡ false
inner_binds Unaries k h = refl
inner_binds Prods k h = refl
inner_binds l k h = or_right (takes l k) (binds (inner l) k) h

not_takes : (l : Level) (k : Role) → binds l k ≡ false → takes l k ≡ false
not_takes Unaries k h = refl
not_takes Prods k h = h
not_takes l k h = or_left (takes l k) (binds (inner l) k) h

not_comparing : (k : Role) (n : ℕ) (now : Part) → compares k ≡ false → comparing k n now ≡ plainly (Leave now)
not_comparing (role.Compare op) n now h = cc
not_comparing role.Is n now h = cc
not_comparing role.Not n now h = cc
not_comparing role.Between n now h = cc
not_comparing role.In n now h = cc
not_comparing _ n now h = refl

not_follow : (l : Level) (k : Role) (n : ℕ) (now : Part) → takes l k ≡ false → follow (joins l k) l k n now ≡ plainly (Leave now)
not_follow Comps k n now h = not_comparing k n now h
not_follow Nots k n now h = refl
not_follow Unaries k n now h = refl
not_follow l k n now h = rw h refl

inner_bound : {names : Bool} {r : Rules} {n : ℕ} {l : Level} {a e : Tree} {us : List Token} → Follows names r n l a e us → (rest : List Token) → bound l rest ≡ false → bound (inner l) (us ++ rest) ≡ false
inner_bound (nothing n l a) [] h = cc
inner_bound (nothing n l a) (t ∷ ts) h = inner_binds l (role_of t) h
inner_bound (chain n l a b e t ts us j ka hb kb hf) rest h = apart l (role_of t) j
inner_bound (compare n op a b t ts k ka hb kb) rest h = rw k refl
inner_bound (is_null n negative a t u nots k m w ka) rest h = rw k refl
inner_bound (between n true a b c t u (w ∷ []) ts us m k v ka hb kb hc kc) rest h = rw m refl
inner_bound (between n false a b c t u [] ts us m k v ka hb kb hc kc) rest h = rw k refl
inner_bound (between n true a b c t u (w ∷ x ∷ xs) ts us m k v ka hb kb hc kc) rest h = absurd m
inner_bound (between n true a b c t u [] ts us m k v ka hb kb hc kc) rest h = absurd m
inner_bound (between n false a b c t u (w ∷ xs) ts us m k v ka hb kb hc kc) rest h = absurd m
inner_bound (within n true a es t left right (w ∷ []) ts m k o c ka room hes) rest h = rw m refl
inner_bound (within n false a es t left right [] ts m k o c ka room hes) rest h = rw k refl
inner_bound (within n true a es t left right (w ∷ x ∷ xs) ts m k o c ka room hes) rest h = absurd m
inner_bound (within n true a es t left right [] ts m k o c ka room hes) rest h = absurd m
inner_bound (within n false a es t left right (w ∷ xs) ts m k o c ka room hes) rest h = absurd m

joined_operators : (l : Level) (k : Role) (a b : Tree) → joins l k ≡ true → operators (joined k a b) ≡ operators a + operators b + 1
joined_operators Ors role.Or a b h = refl
joined_operators Ands role.And a b h = refl
joined_operators Sums (role.Math Add) a b h = refl
joined_operators Sums (role.Math Sub) a b h = refl
joined_operators Prods (role.Math Mul) a b h = refl
joined_operators _ _ a b h = cc

negated_operators : (negative : Bool) (e : Tree) → operators e ≤ operators (negated negative e)
negated_operators true e = omega arith
negated_operators false e = omega arith

-- what follows an operand takes no operator away
grows : {names : Bool} {r : Rules} {n : ℕ} {l : Level} {a e : Tree} {us : List Token} → Follows names r n l a e us → operators a ≤ operators e
grows (nothing n l a) = omega arith
grows (chain n l a b e t ts us j ka hb kb hf) = omega (arith, joined_operators l (role_of t) a b j, grows hf)
grows (compare n op a b t ts k ka hb kb) = omega arith
grows (is_null n negative a t u nots k m v ka) = omega (arith, negated_operators negative (IsNull a))
grows (between n negative a b c t u nots ts us m k v ka hb kb hc kc) = omega (arith, negated_operators negative (Between a b c))
grows (within n negative a es t left right nots ts m k o c ka room hes) = omega (arith, negated_operators negative (In a es))

-- whatever stands behind, if it doesn't go on with them, the tokens are read as this tree
pub record Reads (names : Bool) (r : Rules) (n : ℕ) (l : Level) (e : Tree) (ts : List Token) : Type 0 where
  pub by : (stack : List Symbol) (now : Part) (spare : ℕ) (rest : List Token) → IsWithin r e spare → bound l rest ≡ false
      → run names r (Want n l ∷ stack) now spare (ts ++ rest) ≡ run names r stack (part e (place ts)) (spare - operators e) rest

pub record ReadsOn (names : Bool) (r : Rules) (n : ℕ) (l : Level) (a e : Tree) (us : List Token) : Type 0 where
  pub by : (at : ℕ) (stack : List Symbol) (spare : ℕ) (rest : List Token) → IsWithin r e (spare + operators a) → bound l rest ≡ false
      → run names r (May n l ∷ stack) (part a at) spare (us ++ rest) ≡ run names r stack (part e at) (spare - (operators e - operators a)) rest

-- the machine at another number of spare operators that is the same
spares : (names : Bool) (r : Rules) (stack : List Symbol) (now : Part) (m spare : ℕ) (rest : List Token) → m ≡ spare → run names r stack now m rest ≡ run names r stack now spare rest
spares names r stack now m spare rest h = ap (λ (x : ℕ). run names r stack now x rest) h

skip : (names : Bool) (r : Rules) (n : ℕ) (l : Level) (stack : List Symbol) (now : Part) (spare : ℕ) (rest : List Token) → bound l rest ≡ false → run names r (May n l ∷ stack) now spare rest ≡ run names r stack now spare rest
skip names r n l stack now spare [] h = cc
skip names r n l stack now spare (t ∷ ts) h = left names r (May n l) stack now spare t ts None now (not_follow l (role_of t) n now (not_takes l (role_of t) h)) tt

pub judge : (names : Bool) (r : Rules) (truth : Bool) (frame : Frame) (now : Part) (stack : List Symbol) (spare : ℕ) (rest : List Token) → has rest ≡ true → Fits r now.tree truth
    → run names r (Judge truth frame ∷ stack) now spare rest ≡ run names r stack (framed frame now) spare rest
judge names r truth frame now stack spare [] some h = cc
judge names r truth frame now stack spare (t ∷ ts) some h = left names r (Judge truth frame) stack now spare t ts (Some truth) (framed frame now) refl h

join : (names : Bool) (r : Rules) (n : ℕ) (l : Level) (stack : List Symbol) (now : Part) (spare : ℕ) (t : Token) (rest : List Token) → joins l (role_of t) ≡ true → Fits r now.tree (joins_truths (role_of t)) → (r.operators ≡ true → 0 < spare)
    → run names r (May n l ∷ stack) now spare (t ∷ rest) ≡ run names r (Want n (inner l) ∷ Judge (joins_truths (role_of t)) (Joining (role_of t) now) ∷ May n l ∷ stack) now (spare - 1) rest
join names r n l stack now spare t rest j fits may =
    taken names r (May n l) stack now spare t rest
    (joining (joins_truths (role_of t)) (Want n (inner l) ∷ Judge (joins_truths (role_of t)) (Joining (role_of t) now) ∷ May n l ∷ []) now)
    (Want n (inner l) ∷ Judge (joins_truths (role_of t)) (Joining (role_of t) now) ∷ May n l ∷ []) now (rw j refl) refl fits tt may

chain_case : {names : Bool} {r : Rules} {n : ℕ} (l : Level) {a b e : Tree} (t : Token) {ts us : List Token} → joins l (role_of t) ≡ true → Fits r a (joins_truths (role_of t)) → Fits r b (joins_truths (role_of t))
    → Follows names r n l (joined (role_of t) a b) e us → Reads names r n (inner l) b ts → ReadsOn names r n l (joined (role_of t) a b) e us → ReadsOn names r n l a e (t ∷ (ts ++ us))
chain_case {names} {r} {n} l {a} {b} {e} t {ts} {us} j ka kb hf rb rf = record {
  by = λ at stack spare rest few h.
      let size = joined_operators l (role_of t) a b j in
      let more_in = grows hf in
      join names r n l stack (part a at) spare t ((ts ++ us) ++ rest) j ka (λ x. omega (arith, few x, size, more_in))
      ∙ ap (run names r (Want n (inner l) ∷ Judge (joins_truths (role_of t)) (Joining (role_of t) (part a at)) ∷ May n l ∷ stack) (part a at) (spare - 1)) (append_assoc ts us rest)
      ∙ rb.by (Judge (joins_truths (role_of t)) (Joining (role_of t) (part a at)) ∷ May n l ∷ stack) (part a at) (spare - 1) (us ++ rest) (λ x. omega (arith, few x, size, more_in)) (inner_bound hf rest h)
      ∙ judge names r (joins_truths (role_of t)) (Joining (role_of t) (part a at)) (part b (place ts)) (May n l ∷ stack) (spare - 1 - operators b) (us ++ rest) (has_behind us rest (has_bound l rest h)) kb
      ∙ rf.by at stack (spare - 1 - operators b) rest (λ x. omega (arith, few x, size, more_in)) h
      ∙ spares names r stack (part e at) (spare - 1 - operators b - (operators e - operators (joined (role_of t) a b))) (spare - (operators e - operators a)) rest (omega (arith, size, more_in));
}

bound_unary : (rest : List Token) → has rest ≡ true → bound Unaries rest ≡ false
bound_unary [] h = cc
bound_unary (t ∷ ts) h = refl

one_case : {names : Bool} {r : Rules} {n : ℕ} (t : Token) (e : Tree) → leaf names t.kind ≡ Some e → Reads names r n Unaries e (t ∷ [])
one_case {names} {r} {n} t e h = record {
  by = λ stack now spare rest few g.
      taken names r (Want n Unaries) stack now spare t rest (at_leaf (Some e) t.at []) [] (part e t.at) (starts_leaf (role_of t) n (leaf names t.kind) t.at now [] (leaf_role names t.kind e h) ∙ ap (λ (o : Option Tree). at_leaf o t.at []) h) refl tt tt tt
      ∙ spares names r stack (part e t.at) spare (spare - operators e) rest (omega (arith, leaf_operators names t.kind e h));
}

tight_nots : (l : Level) → is_nots l ≡ true → tight (inner l) ≡ true
tight_nots Nots h = refl
tight_nots _ h = cc

onward_case : {names : Bool} {r : Rules} {n : ℕ} (l : Level) {a e : Tree} {ts us : List Token} → IsExpr names r n (inner l) a ts → Follows names r n l a e us → Reads names r n (inner l) a ts → ReadsOn names r n l a e us → NotUnaries l
    → Reads names r n l e (ts ++ us)
onward_case {names} {r} {n} l {a} {e} {ts} {us} ha hf ra rf u = record {
  by = λ stack now spare rest few h.
      let more_in = grows hf in
      let first : run names r (Want n l ∷ stack) now spare ((ts ++ us) ++ rest) ≡ run names r (Want n (inner l) ∷ May n l ∷ stack) now spare ((ts ++ us) ++ rest) =
      enter names r n l stack now spare ((ts ++ us) ++ rest) u (has_append (ts ++ us) rest (has_append ts us (has_some ha))) (λ k. starts_append (ts ++ us) rest (starts_append ts us (no_not ha (tight_nots l k)))) in
      first ∙ ap (run names r (Want n (inner l) ∷ May n l ∷ stack) now spare) (append_assoc ts us rest)
      ∙ ra.by (May n l ∷ stack) now spare (us ++ rest) (λ x. omega (arith, few x, more_in)) (inner_bound hf rest h)
      ∙ rf.by (place ts) stack (spare - operators a) rest (λ x. omega (arith, few x, more_in)) h
      ∙ spares names r stack (part e (place ts)) (spare - operators a - (operators e - operators a)) (spare - operators e) rest (omega (arith, more_in))
      ∙ ap (λ (at : ℕ). run names r stack (part e at) (spare - operators e) rest) (sym (place_append ts us (has_some ha)));
}

shut_step : (names : Bool) (r : Rules) (at : ℕ) (now : Part) (stack : List Symbol) (spare : ℕ) (t : Token) (rest : List Token) → role_of t ≡ role.Close
    → run names r (Shut at ∷ stack) now spare (t ∷ rest) ≡ run names r stack (part now.tree at) spare rest
shut_step names r at now stack spare t rest c = taken names r (Shut at) stack now spare t rest (plainly (Take [] (part now.tree at))) [] (part now.tree at) (rw c refl) refl tt tt tt

brackets_case : {names : Bool} {r : Rules} {n : ℕ} {e : Tree} (left_one close : Token) {ts : List Token} → role_of left_one ≡ role.Open → role_of close ≡ role.Close → HasRoom r n → Reads names r (n - 1) Ors e ts
    → Reads names r n Unaries e (left_one ∷ (ts ++ close ∷ []))
brackets_case {names} {r} {n} {e} left_one close {ts} o c room re = record {
  by = λ stack now spare rest few h.
      taken names r (Want n Unaries) stack now spare left_one ((ts ++ close ∷ []) ++ rest) (opening n (Want (n - 1) Ors ∷ Shut left_one.at ∷ []) now) (Want (n - 1) Ors ∷ Shut left_one.at ∷ []) now (rw o refl) refl tt room tt
      ∙ ap (run names r (Want (n - 1) Ors ∷ Shut left_one.at ∷ stack) now spare) (append_assoc ts (close ∷ []) rest)
      ∙ re.by (Shut left_one.at ∷ stack) now spare (close ∷ rest) few (rw c refl)
      ∙ shut_step names r left_one.at (part e (place ts)) stack (spare - operators e) close rest c;
}

minus_case : {names : Bool} {r : Rules} {n : ℕ} {e : Tree} (t : Token) {ts : List Token} → role_of t ≡ role.Math Sub → HasRoom r n → Fits r e false → Reads names r (n - 1) Unaries e ts → Reads names r n Unaries (Neg e) (t ∷ ts)
minus_case {names} {r} {n} {e} t {ts} s room v re = record {
  by = λ stack now spare rest few h.
      taken names r (Want n Unaries) stack now spare t (ts ++ rest) (opening n (Want (n - 1) Unaries ∷ Judge false (Negating t.at) ∷ []) now) (Want (n - 1) Unaries ∷ Judge false (Negating t.at) ∷ []) now (rw s refl) refl tt room tt
      ∙ re.by (Judge false (Negating t.at) ∷ stack) now spare rest few (bound_unary rest (has_bound Unaries rest h))
      ∙ judge names r false (Negating t.at) (part e (place ts)) stack (spare - operators e) rest (has_bound Unaries rest h) v;
}

negation_case : {names : Bool} {r : Rules} {n : ℕ} {e : Tree} (t : Token) {ts : List Token} → role_of t ≡ role.Not → HasRoom r n → Fits r e true → Reads names r (n - 1) Nots e ts → Reads names r n Nots (Not e) (t ∷ ts)
negation_case {names} {r} {n} {e} t {ts} s room v re = record {
  by = λ stack now spare rest few h.
      taken names r (Want n Nots) stack now spare t (ts ++ rest) (record { judged = None; opens = Some n; counts = true; step = Take (Want (n - 1) Nots ∷ Judge true (Denying t.at) ∷ []) now }) (Want (n - 1) Nots ∷ Judge true (Denying t.at) ∷ []) now
      (rw s refl) refl tt room (λ x. omega (arith, few x))
      ∙ re.by (Judge true (Denying t.at) ∷ stack) now (spare - 1) rest (λ x. omega (arith, few x)) h
      ∙ judge names r true (Denying t.at) (part e (place ts)) stack (spare - 1 - operators e) rest (has_bound Nots rest h) v
      ∙ spares names r stack (part (Not e) t.at) (spare - 1 - operators e) (spare - operators (Not e)) rest (omega arith);
}

unaries_end : {names : Bool} {r : Rules} {n : ℕ} {a e : Tree} {ts us : List Token} → Follows names r n Unaries a e us → Reads names r n Unaries a ts → Reads names r n Unaries e (ts ++ us)
unaries_end {ts = ts} (nothing n Unaries a) re = rw (append-nil ts) re
unaries_end (chain n Unaries a b e t ts us j ka hb kb hf) re = cc

onward_cases : {names : Bool} {r : Rules} {n : ℕ} (l : Level) {a e : Tree} {ts us : List Token} → IsExpr names r n (inner l) a ts → Follows names r n l a e us → Reads names r n (inner l) a ts → ReadsOn names r n l a e us → Reads names r n l e (ts ++ us)
onward_cases Unaries ha hf ra rf = unaries_end hf ra
onward_cases Prods ha hf ra rf = onward_case Prods ha hf ra rf tt
onward_cases Sums ha hf ra rf = onward_case Sums ha hf ra rf tt
onward_cases Comps ha hf ra rf = onward_case Comps ha hf ra rf tt
onward_cases Nots ha hf ra rf = onward_case Nots ha hf ra rf tt
onward_cases Ands ha hf ra rf = onward_case Ands ha hf ra rf tt
onward_cases Ors ha hf ra rf = onward_case Ors ha hf ra rf tt

sums_bound : (rest : List Token) → bound Comps rest ≡ false → bound Sums rest ≡ false
sums_bound [] h = cc
sums_bound (t ∷ ts) h = inner_binds Comps (role_of t) h

-- a word that makes a truth of a value is taken
comparing_step : (names : Bool) (r : Rules) (n : ℕ) (stack : List Symbol) (now : Part) (spare : ℕ) (t : Token) (rest : List Token) (k : Role) (symbols : List Symbol) → role_of t ≡ k → follow (joins Comps k) Comps k n now ≡ joining false symbols now
    → Fits r now.tree false → (r.operators ≡ true → 0 < spare) → run names r (May n Comps ∷ stack) now spare (t ∷ rest) ≡ run names r (symbols ++ stack) now (spare - 1) rest
comparing_step names r n stack now spare t rest k symbols is step fits may = taken names r (May n Comps) stack now spare t rest (joining false symbols now) symbols now (rw is step) refl fits tt may

compare_case : {names : Bool} {r : Rules} {n : ℕ} {op : CompareOp} {a b : Tree} (t : Token) {ts : List Token} → role_of t ≡ role.Compare op → Fits r a false → Fits r b false → Reads names r n Sums b ts
    → ReadsOn names r n Comps a (Compare op a b) (t ∷ ts)
compare_case {names} {r} {n} {op} {a} {b} t {ts} k ka kb rb = record {
  by = λ at stack spare rest few h.
      comparing_step names r n stack (part a at) spare t (ts ++ rest) (role.Compare op) (Want n Sums ∷ Judge false (Joining (role.Compare op) (part a at)) ∷ []) k refl ka (λ x. omega (arith, few x))
      ∙ rb.by (Judge false (Joining (role.Compare op) (part a at)) ∷ stack) (part a at) (spare - 1) rest (λ x. omega (arith, few x)) (sums_bound rest h)
      ∙ judge names r false (Joining (role.Compare op) (part a at)) (part b (place ts)) stack (spare - 1 - operators b) rest (has_bound Comps rest h) kb
      ∙ spares names r stack (part (Compare op a b) at) (spare - 1 - operators b) (spare - (operators (Compare op a b) - operators a)) rest (omega arith);
}

null_case : {names : Bool} {r : Rules} {n : ℕ} (negative : Bool) {a : Tree} (t u : Token) (nots : List Token) → role_of t ≡ role.Is → IsNotOption negative nots → role_of u ≡ role.Null → Fits r a false
    → ReadsOn names r n Comps a (negated negative (IsNull a)) (t ∷ (nots ++ u ∷ []))
null_case {names} {r} {n} true {a} t u (w ∷ []) k m v ka = record {
  by = λ at stack spare rest few h.
      comparing_step names r n stack (part a at) spare t (w ∷ u ∷ rest) role.Is (Nullness (part a at) ∷ []) k refl ka (λ x. omega (arith, few x))
      ∙ taken names r (Nullness (part a at)) stack (part a at) (spare - 1) w (u ∷ rest) (counting (NullAfterNot (part a at) ∷ []) (part a at)) (NullAfterNot (part a at) ∷ []) (part a at) (rw m refl) refl tt tt (λ x. omega (arith, few x))
      ∙ taken names r (NullAfterNot (part a at)) stack (part a at) (spare - 1 - 1) u rest (plainly (Take [] (null_test true (part a at)))) [] (null_test true (part a at)) (rw v refl) refl tt tt tt
      ∙ spares names r stack (null_test true (part a at)) (spare - 1 - 1) (spare - (operators (Not (IsNull a)) - operators a)) rest (omega arith);
}
null_case {names} {r} {n} false {a} t u [] k m v ka = record {
  by = λ at stack spare rest few h.
      comparing_step names r n stack (part a at) spare t (u ∷ rest) role.Is (Nullness (part a at) ∷ []) k refl ka (λ x. omega (arith, few x))
      ∙ taken names r (Nullness (part a at)) stack (part a at) (spare - 1) u rest (plainly (Take [] (null_test false (part a at)))) [] (null_test false (part a at)) (rw v refl) refl tt tt tt
      ∙ spares names r stack (null_test false (part a at)) (spare - 1) (spare - (operators (IsNull a) - operators a)) rest (omega arith);
}
null_case true t u [] k m v ka = absurd m
null_case true t u (w ∷ x ∷ xs) k m v ka = absurd m
null_case false t u (w ∷ xs) k m v ka = absurd m

bounds : {names : Bool} {r : Rules} {n : ℕ} (negative : Bool) {b c : Tree} (u : Token) (ts us : List Token) → role_of u ≡ role.And → Fits r b false → Fits r c false → Reads names r n Sums b ts → Reads names r n Sums c us
    → (of now : Part) (stack : List Symbol) (spare : ℕ) (rest : List Token) → (r.operators ≡ true → operators b + operators c ≤ spare) → bound Comps rest ≡ false
    → run names r (Want n Sums ∷ Low n negative of ∷ stack) now spare ((ts ++ u ∷ us) ++ rest) ≡ run names r stack (part (negated negative (Between of.tree b c)) of.at) (spare - operators b - operators c) rest
bounds {names} {r} {n} negative {b} {c} u ts us v kb kc rb rc of now stack spare rest few h =
    ap (run names r (Want n Sums ∷ Low n negative of ∷ stack) now spare) (append_assoc ts (u ∷ us) rest)
    ∙ rb.by (Low n negative of ∷ stack) now spare (u ∷ (us ++ rest)) (λ x. omega (arith, few x)) (rw v refl)
    ∙ taken names r (Low n negative of) stack (part b (place ts)) (spare - operators b) u (us ++ rest) (judging false (Take (Want n Sums ∷ Judge false (Bounding negative of b) ∷ []) (part b (place ts)))) (Want n Sums ∷ Judge false (Bounding negative of b) ∷ []) (part b (place ts)) (rw v refl) refl kb tt tt
    ∙ rc.by (Judge false (Bounding negative of b) ∷ stack) (part b (place ts)) (spare - operators b) rest (λ x. omega (arith, few x)) (sums_bound rest h)
    ∙ judge names r false (Bounding negative of b) (part c (place us)) stack (spare - operators b - operators c) rest (has_bound Comps rest h) kc

-- behind NOT: BETWEEN, or IN
after_step : (names : Bool) (r : Rules) (n : ℕ) (of now : Part) (stack : List Symbol) (spare : ℕ) (t : Token) (rest : List Token) (symbols : List Symbol) → act names (AfterNot n of) now t ≡ counting symbols now → (r.operators ≡ true → 0 < spare)
    → run names r (AfterNot n of ∷ stack) now spare (t ∷ rest) ≡ run names r (symbols ++ stack) now (spare - 1) rest
after_step names r n of now stack spare t rest symbols is may = taken names r (AfterNot n of) stack now spare t rest (counting symbols now) symbols now is refl tt tt may

between_case : {names : Bool} {r : Rules} {n : ℕ} (negative : Bool) {a b c : Tree} (t u : Token) (nots ts us : List Token) → IsNotOption negative nots → role_of t ≡ role.Between → role_of u ≡ role.And → Fits r a false
    → Fits r b false → Fits r c false → Reads names r n Sums b ts → Reads names r n Sums c us → ReadsOn names r n Comps a (negated negative (Between a b c)) (nots ++ t ∷ (ts ++ u ∷ us))
between_case {names} {r} {n} true {a} {b} {c} t u (w ∷ []) ts us m k v ka kb kc rb rc = record {
  by = λ at stack spare rest few h.
      comparing_step names r n stack (part a at) spare w (t ∷ ((ts ++ u ∷ us) ++ rest)) role.Not (AfterNot n (part a at) ∷ []) m refl ka (λ x. omega (arith, few x))
      ∙ after_step names r n (part a at) (part a at) stack (spare - 1) t ((ts ++ u ∷ us) ++ rest) (Want n Sums ∷ Low n true (part a at) ∷ []) (rw k refl) (λ x. omega (arith, few x))
      ∙ bounds true u ts us v kb kc rb rc (part a at) (part a at) stack (spare - 1 - 1) rest (λ x. omega (arith, few x)) h
      ∙ spares names r stack (part (Not (Between a b c)) at) (spare - 1 - 1 - operators b - operators c) (spare - (operators (Not (Between a b c)) - operators a)) rest (omega arith);
}
between_case {names} {r} {n} false {a} {b} {c} t u [] ts us m k v ka kb kc rb rc = record {
  by = λ at stack spare rest few h.
      comparing_step names r n stack (part a at) spare t ((ts ++ u ∷ us) ++ rest) role.Between (Want n Sums ∷ Low n false (part a at) ∷ []) k refl ka (λ x. omega (arith, few x))
      ∙ bounds false u ts us v kb kc rb rc (part a at) (part a at) stack (spare - 1) rest (λ x. omega (arith, few x)) h
      ∙ spares names r stack (part (Between a b c) at) (spare - 1 - operators b - operators c) (spare - (operators (Between a b c) - operators a)) rest (omega arith);
}
between_case true t u [] ts us m k v ka kb kc rb rc = absurd m
between_case true t u (w ∷ x ∷ xs) ts us m k v ka kb kc rb rc = absurd m
between_case false t u (w ∷ xs) ts us m k v ka kb kc rb rc = absurd m

pub record ReadsEntries (names : Bool) (r : Rules) (n : ℕ) (es : Entries) (ts : List Token) : Type 0 where
  pub by : (negative : Bool) (of : Part) (before : List Tree) (stack : List Symbol) (now : Part) (spare : ℕ) (u : Token) (rest : List Token) → (r.operators ≡ true → entry_operators es ≤ spare) → role_of u ≡ role.Close
      → run names r (Want n Ors ∷ Entry n negative of before ∷ stack) now spare (ts ++ u ∷ rest) ≡ run names r stack (membership negative of (onto before es)) (spare - entry_operators es) rest

last_case : {names : Bool} {r : Rules} {n : ℕ} {e : Tree} (ts : List Token) → Fits r e false → Reads names r n Ors e ts → ReadsEntries names r n (Last e) ts
last_case {names} {r} {n} {e} ts k re = record {
  by = λ negative of before stack now spare u rest few c.
      re.by (Entry n negative of before ∷ stack) now spare (u ∷ rest) few (rw c refl)
      ∙ taken names r (Entry n negative of before) stack (part e (place ts)) (spare - operators e) u rest (judging false (Take [] (membership negative of (onto before (Last e))))) [] (membership negative of (onto before (Last e))) (rw c refl) refl k tt tt;
}

more_case : {names : Bool} {r : Rules} {n : ℕ} {e : Tree} {es : Entries} (t : Token) (ts us : List Token) → Fits r e false → role_of t ≡ role.Comma → Reads names r n Ors e ts → ReadsEntries names r n es us → ReadsEntries names r n (More e es) (ts ++ t ∷ us)
more_case {names} {r} {n} {e} {es} t ts us k m re res = record {
  by = λ negative of before stack now spare u rest few c.
      ap (run names r (Want n Ors ∷ Entry n negative of before ∷ stack) now spare) (append_assoc ts (t ∷ us) (u ∷ rest))
      ∙ re.by (Entry n negative of before ∷ stack) now spare (t ∷ (us ++ u ∷ rest)) (λ x. omega (arith, few x)) (rw m refl)
      ∙ taken names r (Entry n negative of before) stack (part e (place ts)) (spare - operators e) t (us ++ u ∷ rest) (joining false (Want n Ors ∷ Entry n negative of (before ++ e ∷ []) ∷ []) (part e (place ts))) (Want n Ors ∷ Entry n negative of (before ++ e ∷ []) ∷ []) (part e (place ts))
      (rw m refl) refl k tt (λ x. omega (arith, few x))
      ∙ res.by negative of (before ++ e ∷ []) stack (part e (place ts)) (spare - operators e - 1) u rest (λ x. omega (arith, few x)) c
      ∙ ap (λ (x : Entries). run names r stack (membership negative of x) (spare - operators e - 1 - entry_operators es) rest) (onto_push before e es)
      ∙ spares names r stack (membership negative of (onto before (More e es))) (spare - operators e - 1 - entry_operators es) (spare - entry_operators (More e es)) rest (omega arith);
}

listed : {names : Bool} {r : Rules} {n : ℕ} (negative : Bool) {es : Entries} (open_one close : Token) (ts : List Token) → role_of open_one ≡ role.Open → role_of close ≡ role.Close → HasRoom r n → ReadsEntries names r (n - 1) es ts
    → (of now : Part) (stack : List Symbol) (spare : ℕ) (rest : List Token) → (r.operators ≡ true → entry_operators es ≤ spare)
    → run names r (Opens n negative of ∷ stack) now spare (open_one ∷ ((ts ++ close ∷ []) ++ rest)) ≡ run names r stack (membership negative of es) (spare - entry_operators es) rest
listed {names} {r} {n} negative open_one close ts o c room res of now stack spare rest few =
    taken names r (Opens n negative of) stack now spare open_one ((ts ++ close ∷ []) ++ rest) (opening n (Want (n - 1) Ors ∷ Entry (n - 1) negative of [] ∷ []) now) (Want (n - 1) Ors ∷ Entry (n - 1) negative of [] ∷ []) now (rw o refl) refl tt room tt
    ∙ ap (run names r (Want (n - 1) Ors ∷ Entry (n - 1) negative of [] ∷ stack) now spare) (append_assoc ts (close ∷ []) rest)
    ∙ res.by negative of [] stack now spare close rest few c

within_case : {names : Bool} {r : Rules} {n : ℕ} (negative : Bool) {a : Tree} {es : Entries} (t open_one close : Token) (nots ts : List Token) → IsNotOption negative nots → role_of t ≡ role.In → role_of open_one ≡ role.Open → role_of close ≡ role.Close
    → Fits r a false → HasRoom r n → ReadsEntries names r (n - 1) es ts → ReadsOn names r n Comps a (negated negative (In a es)) (nots ++ t ∷ open_one ∷ (ts ++ close ∷ []))
within_case {names} {r} {n} true {a} {es} t open_one close (w ∷ []) ts m k o c ka room res = record {
  by = λ at stack spare rest few h.
      comparing_step names r n stack (part a at) spare w (t ∷ open_one ∷ ((ts ++ close ∷ []) ++ rest)) role.Not (AfterNot n (part a at) ∷ []) m refl ka (λ x. omega (arith, few x))
      ∙ after_step names r n (part a at) (part a at) stack (spare - 1) t (open_one ∷ ((ts ++ close ∷ []) ++ rest)) (Opens n true (part a at) ∷ []) (rw k refl) (λ x. omega (arith, few x))
      ∙ listed true open_one close ts o c room res (part a at) (part a at) stack (spare - 1 - 1) rest (λ x. omega (arith, few x))
      ∙ spares names r stack (membership true (part a at) es) (spare - 1 - 1 - entry_operators es) (spare - (operators (Not (In a es)) - operators a)) rest (omega arith);
}
within_case {names} {r} {n} false {a} {es} t open_one close [] ts m k o c ka room res = record {
  by = λ at stack spare rest few h.
      comparing_step names r n stack (part a at) spare t (open_one ∷ ((ts ++ close ∷ []) ++ rest)) role.In (Opens n false (part a at) ∷ []) k refl ka (λ x. omega (arith, few x))
      ∙ listed false open_one close ts o c room res (part a at) (part a at) stack (spare - 1) rest (λ x. omega (arith, few x))
      ∙ spares names r stack (membership false (part a at) es) (spare - 1 - entry_operators es) (spare - (operators (In a es) - operators a)) rest (omega arith);
}
within_case true t open_one close [] ts m k o c ka room res = absurd m
within_case true t open_one close (w ∷ x ∷ xs) ts m k o c ka room res = absurd m
within_case false t open_one close (w ∷ xs) ts m k o c ka room res = absurd m

mutual
  pub reads : {names : Bool} {r : Rules} {n : ℕ} {l : Level} {e : Tree} {ts : List Token} → IsExpr names r n l e ts → Reads names r n l e ts
  reads (one n t e h) = one_case t e h
  reads (brackets n e open_one close ts o c room h) = brackets_case open_one close o c room (reads h)
  reads (minus n e t ts s room h v) = minus_case t s room v (reads h)
  reads (negation n e t ts s room h v) = negation_case t s room v (reads h)
  reads (onward n l a e ts us ha hf) = onward_cases l ha hf (reads ha) (reads_on hf)

  pub reads_on : {names : Bool} {r : Rules} {n : ℕ} {l : Level} {a e : Tree} {us : List Token} → Follows names r n l a e us → ReadsOn names r n l a e us
  reads_on {names} {r} (nothing n l a) = record { by = λ at stack spare rest few h. skip names r n l stack (part a at) spare rest h ∙ spares names r stack (part a at) spare (spare - (operators a - operators a)) rest (omega arith) }
  reads_on (chain n l a b e t ts us j ka hb kb hf) = chain_case l t j ka kb hf (reads hb) (reads_on hf)
  reads_on (compare n op a b t ts k ka hb kb) = compare_case t k ka kb (reads hb)
  reads_on (is_null n negative a t u nots k m v ka) = null_case negative t u nots k m v ka
  reads_on (between n negative a b c t u nots ts us m k v ka hb kb hc kc) = between_case negative t u nots ts us m k v ka kb kc (reads hb) (reads hc)
  reads_on (within n negative a es t open_one close nots ts m k o c ka room hes) = within_case negative t open_one close nots ts m k o c ka room (reads_entries hes)

  pub reads_entries : {names : Bool} {r : Rules} {n : ℕ} {es : Entries} {ts : List Token} → AreEntries names r n es ts → ReadsEntries names r n es ts
  reads_entries (last n e ts h k) = last_case ts k (reads h)
  reads_entries (more n e es t ts us h k m hes) = more_case t ts us k m (reads h) (reads_entries hes)

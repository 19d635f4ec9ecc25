-- Single steps of the machine.
use Rattle.std.specs.Prelude.{Option, Some, None, not}
use Rattle.std.proofs.Common.{◌≡◌, ℕ, suc, zero, ◌-◌, ◌<◌, Bool, true, false, List, [], ◌∷◌, ◌++◌, ap, refl, append_assoc, arith}
use Rattle.plain_model.specs.Tree.{Tree}
use Rattle.plain_model.specs.declared.expr.MathOp.TheVariants.{Sub}
use Rattle.sql_lex.specs.declared.token.Token.{Token}
use Rattle.sql_expr.specs.declared.role.Role.{Role}
use Rattle.sql_expr.specs.declared.role.Role.TheVariants as role
use Rattle.sql_expr.specs.declared.role.Level.{Level}
use Rattle.sql_expr.specs.declared.role.Level.TheVariants.{Ors, Ands, Nots, Comps, Sums, Prods, Unaries}
use Rattle.sql_expr.specs.Rules.{Rules, has_truth}
use Rattle.sql_expr.specs.Grammar.{inner}
use Rattle.sql_expr.specs.Roles.{role_of, leaf}
use Rattle.sql_expr.specs.Symbols.{Part, Symbol, Want, May, Judge, Denying}
use Rattle.sql_expr.specs.Machine.{Next, Go, same, judged, opened, counted, carried_out, feed}
use Rattle.sql_expr.specs.Table.{Take, Leave, Action, start_unary, start_comp, start_not, act}
use Rattle.sql_expr.specs.Read.{go_on, run}
use Rattle.sql_expr.specs.Steps.{IsJoined}
use Rattle.sql_expr.proofs.Lists.{has}
use Rattle.sql_expr.proofs.Sound.{FitsOption, HasRoomOption}

-- a further operator may come where so many are spare
abbrev pub MayCount : Rules → Bool → ℕ → Type 0
MayCount r false spare = Unit {0}
MayCount r true spare = r.operators ≡ true → 0 < spare

-- how many are spare behind it
abbrev pub less : Bool → ℕ → ℕ
less false spare = spare
less true spare = spare - 1

same_fits : (kinds b truth : Bool) → (kinds ≡ true → b ≡ truth) → same kinds b truth ≡ true
same_fits false b truth h = refl
same_fits true true true h = refl
same_fits true false true h = let e : false ≡ true = h refl in cc
same_fits true true false h = let e : true ≡ false = h refl in cc
same_fits true false false h = refl

pub judged_on : (r : Rules) (o : Option Bool) (now : Part) (next : Next) → FitsOption r now o → judged r o now next ≡ next
judged_on r None now next h = refl
judged_on r (Some truth) now next h = rw (same_fits r.kinds (has_truth now.tree) truth h) refl

no_room : (levels : Bool) → (levels ≡ true → 0 < 0) → not levels ≡ true
no_room true h = absurd (omega (arith, h refl))
no_room false h = refl

pub opened_on : (r : Rules) (o : Option ℕ) (at : ℕ) (next : Next) → HasRoomOption r o → opened r o at next ≡ next
opened_on r None at next h = refl
opened_on r (Some zero) at next h = rw (no_room r.levels h) refl
opened_on r (Some (suc n)) at next h = refl

pub counted_on : (r : Rules) (b : Bool) (spare at : ℕ) (next : ℕ → Next) → MayCount r b spare → counted r b spare at next ≡ next (less b spare)
counted_on r false spare at next h = refl
counted_on r true zero at next h = rw (no_room r.operators h) refl
counted_on r true (suc m) at next h = let e : suc m - 1 ≡ m = omega arith in rw e refl

-- a token that is taken
pub taken : (names : Bool) (r : Rules) (s : Symbol) (stack : List Symbol) (now : Part) (spare : ℕ) (t : Token) (rest : List Token) (a : Action) (symbols : List Symbol) (p : Part)
    → act names s now t ≡ a → a.step ≡ Take symbols p → FitsOption r now a.judged → HasRoomOption r a.opens → MayCount r a.counts spare
    → run names r (s ∷ stack) now spare (t ∷ rest) ≡ run names r (symbols ++ stack) p (less a.counts spare) rest
taken names r s stack now spare t rest a symbols p is step fits room may = rw (is, judged_on r a.judged now _ fits, opened_on r a.opens t.at _ room, counted_on r a.counts spare t.at _ may, step) refl

-- a token that is left to the symbols behind
pub left : (names : Bool) (r : Rules) (s : Symbol) (stack : List Symbol) (now : Part) (spare : ℕ) (t : Token) (rest : List Token) (j : Option Bool) (p : Part)
    → act names s now t ≡ record { judged = j; opens = None; counts = false; step = Leave p } → FitsOption r now j → run names r (s ∷ stack) now spare (t ∷ rest) ≡ run names r stack p spare (t ∷ rest)
left names r s stack now spare t rest j p is fits = rw (is, judged_on r j now _ fits) refl

-- the symbols behind the first of an expression may stand on the stack already
shifted : (r : Rules) (k : Role) (n : ℕ) (tree : Option Tree) (at : ℕ) (now : Part) (xs ys stack : List Symbol) (spare : ℕ) (f g : Part → Next)
    → carried_out r (start_unary k n tree at now (xs ++ ys)) stack now spare at f ≡ carried_out r (start_unary k n tree at now xs) (ys ++ stack) now spare at g
shifted r role.Open n tree at now xs ys stack spare f g = rw (append_assoc xs ys stack) refl
shifted r (role.Math Sub) n tree at now xs ys stack spare f g = rw (append_assoc xs ys stack) refl
shifted r k n (Some e) at now xs ys stack spare f g = rw (append_assoc xs ys stack) refl
shifted r k n None at now xs ys stack spare f g = refl

shifted_not : (r : Rules) (k : Role) (n : ℕ) (tree : Option Tree) (at : ℕ) (now : Part) (xs ys stack : List Symbol) (spare : ℕ) (f g : Part → Next)
    → carried_out r (start_not k n tree at now (xs ++ ys)) stack now spare at f ≡ carried_out r (start_not k n tree at now xs) (ys ++ stack) now spare at g
shifted_not r role.Not n tree at now xs ys stack spare f g = ap (λ (zs : List Symbol). opened r (Some n) at (counted r true spare at (λ m. Go (Want (n - 1) Nots ∷ Judge true (Denying at) ∷ zs) now m))) (append_assoc xs ys stack)
shifted_not r k n tree at now xs ys stack spare f g = shifted r k n tree at now (May n Prods ∷ May n Sums ∷ May n Comps ∷ May n Nots ∷ xs) ys stack spare f g

abbrev pub is_not : Role → Bool
is_not role.Not = true
is_not _ = false

abbrev pub starts_not : List Token → Bool
starts_not [] = true
starts_not (t ∷ ts) = is_not (role_of t)

-- without NOT in front a comparison begins
skipped_not : (r : Rules) (k : Role) (n : ℕ) (tree : Option Tree) (at : ℕ) (now : Part) (stack : List Symbol) (spare : ℕ) (f g : Part → Next) → is_not k ≡ false
    → carried_out r (start_not k n tree at now []) stack now spare at f ≡ carried_out r (start_comp k n tree at now []) (May n Nots ∷ stack) now spare at g
skipped_not r role.Not n tree at now stack spare f g h = cc
skipped_not r k n tree at now stack spare f g h = shifted r k n tree at now (May n Prods ∷ May n Sums ∷ May n Comps ∷ []) (May n Nots ∷ []) stack spare f g

enter_not : (names : Bool) (r : Rules) (n : ℕ) (stack : List Symbol) (now : Part) (spare : ℕ) (ts : List Token) → has ts ≡ true → starts_not ts ≡ false
    → run names r (Want n Nots ∷ stack) now spare ts ≡ run names r (Want n Comps ∷ May n Nots ∷ stack) now spare ts
enter_not names r n stack now spare [] some h = cc
enter_not names r n stack now spare (t ∷ ts) some h =
    ap (go_on t ts (λ s p m. run names r s p m ts))
    (skipped_not r (role_of t) n (leaf names t.kind) t.at now stack spare (λ p. feed names r stack p spare t) (λ p. feed names r (May n Nots ∷ stack) p spare t) h)

abbrev pub NotUnaries : Level → Type 0
NotUnaries Unaries = ⊥
NotUnaries _ = Unit {0}

abbrev pub is_nots : Level → Bool
is_nots Nots = true
is_nots _ = false

-- an expression of a level begins with one of the next, but for NOT
pub enter : (names : Bool) (r : Rules) (n : ℕ) (l : Level) (stack : List Symbol) (now : Part) (spare : ℕ) (ts : List Token) → NotUnaries l → has ts ≡ true → (is_nots l ≡ true → starts_not ts ≡ false)
    → run names r (Want n l ∷ stack) now spare ts ≡ run names r (Want n (inner l) ∷ May n l ∷ stack) now spare ts
enter names r n Unaries stack now spare ts u some h = absurd u
enter names r n Nots stack now spare ts u some h = enter_not names r n stack now spare ts some (h refl)
enter names r n l stack now spare [] u some h = cc
enter names r n Prods stack now spare (t ∷ ts) u some h =
    ap (go_on t ts (λ s p m. run names r s p m ts)) (shifted r (role_of t) n (leaf names t.kind) t.at now [] (May n Prods ∷ []) stack spare (λ p. feed names r stack p spare t) (λ p. feed names r (May n Prods ∷ stack) p spare t))
enter names r n Sums stack now spare (t ∷ ts) u some h =
    ap (go_on t ts (λ s p m. run names r s p m ts)) (shifted r (role_of t) n (leaf names t.kind) t.at now (May n Prods ∷ []) (May n Sums ∷ []) stack spare (λ p. feed names r stack p spare t) (λ p. feed names r (May n Sums ∷ stack) p spare t))
enter names r n Comps stack now spare (t ∷ ts) u some h =
    ap (go_on t ts (λ s p m. run names r s p m ts)) (shifted r (role_of t) n (leaf names t.kind) t.at now (May n Prods ∷ May n Sums ∷ []) (May n Comps ∷ []) stack spare (λ p. feed names r stack p spare t) (λ p. feed names r (May n Comps ∷ stack) p spare t))
enter names r n Ands stack now spare (t ∷ ts) u some h =
    ap (go_on t ts (λ s p m. run names r s p m ts)) (shifted_not r (role_of t) n (leaf names t.kind) t.at now [] (May n Ands ∷ []) stack spare (λ p. feed names r stack p spare t) (λ p. feed names r (May n Ands ∷ stack) p spare t))
enter names r n Ors stack now spare (t ∷ ts) u some h =
    ap (go_on t ts (λ s p m. run names r s p m ts)) (shifted_not r (role_of t) n (leaf names t.kind) t.at now (May n Ands ∷ []) (May n Ors ∷ []) stack spare (λ p. feed names r stack p spare t) (λ p. feed names r (May n Ors ∷ stack) p spare t))

not_nots : (l : Level) → IsJoined l → is_nots l ≡ true → ⊥
not_nots Nots j h = j
not_nots Ors j h = cc
not_nots Ands j h = cc
not_nots Comps j h = cc
not_nots Sums j h = cc
not_nots Prods j h = cc
not_nots Unaries j h = cc

not_unaries : (l : Level) → IsJoined l → NotUnaries l
not_unaries Unaries j = j
not_unaries _ j = tt

pub enter_joined : (names : Bool) (r : Rules) (n : ℕ) (l : Level) (stack : List Symbol) (now : Part) (spare : ℕ) (ts : List Token) → IsJoined l → has ts ≡ true
    → run names r (Want n l ∷ stack) now spare ts ≡ run names r (Want n (inner l) ∷ May n l ∷ stack) now spare ts
enter_joined names r n l stack now spare ts j some = enter names r n l stack now spare ts (not_unaries l j) some (λ h. absurd (not_nots l j h))

-- The order of the three numbers.
use Rattle.std.proofs.Common.{ℕ, zero, suc, ◌+◌, ◌<◌, ◌≤◌, arith}
use Rattle.step_trail.specs.Left.{Left, IsBelow, BySaying, ByPlanning, ByStepping}

pub below_itself : (a : Left) → IsBelow a a → ⊥
below_itself a (BySaying lt) = omega (arith, lt)
below_itself a (ByPlanning same lt) = omega (arith, lt)
below_itself a (ByStepping same alike lt) = omega (arith, lt)

pub below_through : (a b c : Left) → IsBelow a b → IsBelow b c → IsBelow a c
below_through a b c (BySaying l) (BySaying m) = BySaying (omega (arith, l, m))
below_through a b c (BySaying l) (ByPlanning s m) = BySaying (omega (arith, l, s))
below_through a b c (BySaying l) (ByStepping s t m) = BySaying (omega (arith, l, s))
below_through a b c (ByPlanning p l) (BySaying m) = BySaying (omega (arith, p, m))
below_through a b c (ByPlanning p l) (ByPlanning s m) = ByPlanning (omega (arith, p, s)) (omega (arith, l, m))
below_through a b c (ByPlanning p l) (ByStepping s t m) = ByPlanning (omega (arith, p, s)) (omega (arith, l, t))
below_through a b c (ByStepping p q l) (BySaying m) = BySaying (omega (arith, p, m))
below_through a b c (ByStepping p q l) (ByPlanning s m) = ByPlanning (omega (arith, p, s)) (omega (arith, q, m))
below_through a b c (ByStepping p q l) (ByStepping s t m) = ByStepping (omega (arith, p, s)) (omega (arith, q, t)) (omega (arith, l, m))

-- each is below the one before it
abbrev Falls : (ℕ → Left) → Type 0
Falls f = (n : ℕ) → IsBelow (f (n + 1)) (f n)

abbrev rest_of : (ℕ → Left) → ℕ → Left
rest_of f n = f (n + 1)

-- no sequence that begins below these falls for ever
NeverSaid : ℕ → Type 0
NeverSaid a = (f : ℕ → Left) → (f 0).said < a → Falls f → ⊥

NeverPlanned : ℕ → ℕ → Type 0
NeverPlanned a b = (f : ℕ → Left) → (f 0).said ≤ a → (f 0).planned < b → Falls f → ⊥

NeverStepped : ℕ → ℕ → ℕ → Type 0
NeverStepped a b c = (f : ℕ → Left) → (f 0).said ≤ a → (f 0).planned ≤ b → (f 0).steps < c → Falls f → ⊥

never_stepped : (a b c : ℕ) → NeverSaid a → NeverPlanned a b → NeverStepped a b c
unfolding NeverSaid NeverPlanned NeverStepped
never_stepped a b zero said planned f x y z falls = omega (arith, z)
never_stepped a b (suc c) said planned f x y z falls = go (λ g. never_stepped a b c said planned g) (falls 0)
  where
    tail : Falls (rest_of f)
    tail n = falls (n + 1)

    go : ((g : ℕ → Left) → (g 0).said ≤ a → (g 0).planned ≤ b → (g 0).steps < c → Falls g → ⊥) → IsBelow (f 1) (f 0) → ⊥
    go fewer (BySaying lt) = said (rest_of f) (omega (arith, lt, x)) tail
    go fewer (ByPlanning same lt) = planned (rest_of f) (omega (arith, same, x)) (omega (arith, lt, y)) tail
    go fewer (ByStepping same alike lt) = fewer (rest_of f) (omega (arith, same, x)) (omega (arith, alike, y)) (omega (arith, lt, z)) tail

never_planned : (a b : ℕ) → NeverSaid a → NeverPlanned a b
unfolding NeverPlanned NeverStepped
never_planned a zero said f x y falls = omega (arith, y)
never_planned a (suc b) said f x y falls = never_stepped a b ((f 0).steps + 1) said (never_planned a b said) f x (omega (arith, y)) (omega arith) falls

never_said : (a : ℕ) → NeverSaid a
unfolding NeverSaid NeverPlanned
never_said zero f x falls = omega (arith, x)
never_said (suc a) f x falls = never_planned a ((f 0).planned + 1) (never_said a) f (omega (arith, x)) (omega arith) falls

pub falls_not_for_ever : (f : ℕ → Left) → ((n : ℕ) → IsBelow (f (n + 1)) (f n)) → ⊥
unfolding NeverSaid
falls_not_for_ever f falls = never_said ((f 0).said + 1) f (omega arith) falls

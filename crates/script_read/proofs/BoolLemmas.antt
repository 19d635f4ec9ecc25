-- Tests that hold or don't.
use Rattle.std.proofs.Common.{◌≡◌, Bool, true, false, refl}
use Rattle.std.specs.Prelude.{◌&&◌, ◌||◌, not}

-- no test both holds and fails
pub clash : (v : Bool) → v ≡ true → v ≡ false → ⊥
clash v h i = cc

-- both of two tests that hold together hold
pub both_hold : (v w : Bool) → (v && w) ≡ true → (v ≡ true) × (w ≡ true)
both_hold true w h = (refl, h)
both_hold false w h = cc

-- two tests that hold hold together
pub both : (v w : Bool) → v ≡ true → w ≡ true → (v && w) ≡ true
both v w h i = rw (h, i) refl

-- two tests of which none holds fail
pub neither : (v w : Bool) → not (v || w) ≡ true → (v ≡ false) × (w ≡ false)
neither true w h = cc
neither false true h = cc
neither false false h = (refl, refl)

-- a test of which the opposite holds fails
pub not_true : (v : Bool) → not v ≡ true → v ≡ false
not_true true h = cc
not_true false h = refl

-- a test of which the opposite fails holds
pub not_false : (v : Bool) → not v ≡ false → v ≡ true
not_false true h = refl
not_false false h = cc

-- a test that cannot hold fails
pub is_false : (v : Bool) → (v ≡ true → ⊥) → v ≡ false
is_false false h = refl
is_false true h = absurd (h refl)

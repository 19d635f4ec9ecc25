-- Tests that hold or don't.
use Rattle.std.proofs.Common.{◌≡◌, ℕ, Bool, true, false, refl, ap}
use Rattle.std.specs.Prelude.{◌&&◌, ◌||◌, ◌==◌}
use Rattle.std.proofs.lemmas.Bool.{eqb-true}

pub is_false : (v : Bool) → (v ≡ true → ⊥) → v ≡ false
is_false false h = refl
is_false true h = absurd (h refl)

pub is_true : (v : Bool) → (v ≡ false → ⊥) → v ≡ true
is_true true h = refl
is_true false h = absurd (h refl)

pub clash : (v : Bool) → v ≡ true → v ≡ false → ⊥
clash v h i = cc

pub both_hold : (v w : Bool) → (v && w) ≡ true → (v ≡ true) × (w ≡ true)
both_hold true w h = (refl, h)
both_hold false w h = cc

-- a byte that passes a test isn't one that doesn't
pub not_byte : (test : ℕ → Bool) (b n : ℕ) → test b ≡ true → test n ≡ false → (b == n) ≡ false
not_byte test b n h i = is_false (b == n) (λ e. let same : test b ≡ test n = ap test (eqb-true b n e) in cc)

-- where one of two tests doesn't hold neither does
pub none_holds : (v w : Bool) → (v || w) ≡ false → (v ≡ false) × (w ≡ false)
none_holds true w h = cc
none_holds false w h = (refl, h)

pub and_false : (v : Bool) → (v && false) ≡ false
and_false true = refl
and_false false = refl

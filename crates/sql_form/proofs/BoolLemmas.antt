-- Truth values of tests.
use Rattle.std.proofs.Common.{◌≡◌, Bool, true, false, ◌||◌, refl}
use Rattle.sql_form.specs.Grammar.{or_if}

pub or_if_left : (s a b : Bool) → a ≡ true → or_if s a b ≡ true
or_if_left true a b h = h
or_if_left false a b h = rw h refl

pub or_if_right : (s a b : Bool) → s ≡ false → b ≡ true → or_if s a b ≡ true
or_if_right s true b h k = rw h refl
or_if_right s false b h k = rw (h, k) refl

pub or_if_not : (s a b : Bool) → or_if s a b ≡ false → a ≡ false
or_if_not true a b h = h
or_if_not false true b h = cc
or_if_not false false b h = refl

pub or_if_other : (s a b : Bool) → or_if s a b ≡ false → s ≡ false → b ≡ false
or_if_other true a b h k = cc
or_if_other false true b h k = cc
or_if_other false false b h k = h

pub either_left : (a b : Bool) → (a || b) ≡ false → a ≡ false
either_left true b h = cc
either_left false b h = refl

pub either_right : (a b : Bool) → (a || b) ≡ false → b ≡ false
either_right true b h = cc
either_right false b h = h

pub either_is : (a b : Bool) → a ≡ true → (a || b) ≡ true
either_is a b h = rw h refl

pub or_is : (a b : Bool) → b ≡ true → (a || b) ≡ true
or_is true b h = refl
or_is false b h = h

pub not_true : (b : Bool) → (b ≡ true → ⊥) → b ≡ false
not_true true h = absurd (h refl)
not_true false h = refl

pub true_not : (b : Bool) → b ≡ true → b ≡ false → ⊥
true_not b h k = cc

pub not_false : (b : Bool) → (b ≡ false → ⊥) → b ≡ true
not_false true h = refl
not_false false h = absurd (h refl)

pub or_if_no : (s : Bool) → or_if s false false ≡ false
or_if_no true = refl
or_if_no false = refl

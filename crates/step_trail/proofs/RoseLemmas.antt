-- Which objects a step names.
use Rattle.std.proofs.Common.{◌≡◌, inl, inr, ℕ, ◌+◌, ◌-◌, ◌^◌, min, Bool, true, ◌&&◌, List, [], ◌∷◌, map, refl, sym, subst, ◌∙◌, arith}
use Rattle.std.specs.Prelude.{filter}
use Rattle.std.specs.Str.{bytes_eq}
use Rattle.std.specs.List.{Any, list_any}
use Rattle.std.proofs.lemmas.Bool.{cases_Bool, and_parts, leb-true}
use Rattle.std.proofs.lemmas.Bool.Decides.{leb_tells}
use Rattle.std.proofs.lemmas.List.Folds.{Any-from_list_any, list_any-from_Any}
use Rattle.plain_steps.proofs.LockLemmas.{bytes_same, same_bytes}
use Rattle.page_dev.specs.Faults.{Rose}
use Rattle.step_trail.specs.Rose.{SnapCount, Counts, IsRisen, has_risen, rises_in, risen, names_snap}

pub risen_is : (before now : ℕ) → has_risen before now ≡ true → Rose before now
risen_is before now e = leb-true (min (before + 1) (2 ^ 64 - 1)) now e

pub is_risen : (before now : ℕ) → Rose before now → has_risen before now ≡ true
is_risen before now rose = elim (leb_tells (min (before + 1) (2 ^ 64 - 1)) now) [
  | inl is ↦ is.0
  | inr not ↦ absurd (let gt = not.1 in omega (arith, gt, rose))
]

any_filtered : {X Y : Type 0} (q : X → Bool) (h : X → Y) (p : Y → Bool) (xs : List X) → list_any p (map h (filter q xs)) ≡ list_any (λ x. q x && p (h x)) xs
any_filtered q h p [] = refl
any_filtered q h p (x ∷ xs) = elim (cases_Bool (q x)) [
  | inl is ↦ rw (is, any_filtered q h p xs)
  | inr not ↦ rw (not, any_filtered q h p xs)
]

any_each : {X : Type 0} (P Q : X → Type 0) (xs : List X) → ((x : X) → P x → Q x) → Any P xs → Any Q xs
any_each P Q xs f a = (a.0, a.1, a.2, a.3, f a.1 a.4)

module _ (before now : Counts) (name : List ℕ) where
  abbrev Found : SnapCount → Type 0
  Found s = (s.name ≡ name) × Any (λ (t : SnapCount). (t.name ≡ name) × Rose s.faults t.faults) now.snaps

  abbrev test : SnapCount → Bool
  test s = rises_in now.snaps s && bytes_eq name s.name

  found : (s : SnapCount) → test s ≡ true → Found s
  found s e =
      let h = and_parts (rises_in now.snaps s) (bytes_eq name s.name) e in
      let same : s.name ≡ name = sym (same_bytes name s.name h.1) in (
        same,
        any_each (λ (t : SnapCount). (bytes_eq t.name s.name && has_risen s.faults t.faults) ≡ true) (λ (t : SnapCount). (t.name ≡ name) × Rose s.faults t.faults) now.snaps
            (λ t both. (let two = and_parts (bytes_eq t.name s.name) (has_risen s.faults t.faults) both in (same_bytes t.name s.name two.0 ∙ same, risen_is s.faults t.faults two.1)))
            (Any-from_list_any (λ (t : SnapCount). bytes_eq t.name s.name && has_risen s.faults t.faults) now.snaps h.0),
      )

  both_true : (a b : Bool) → a ≡ true → b ≡ true → (a && b) ≡ true
  both_true a b e f = rw (e, f)

  passes : (s : SnapCount) → Found s → test s ≡ true
  passes s f = both_true (rises_in now.snaps s) (bytes_eq name s.name)
      (list_any-from_Any (λ (t : SnapCount). bytes_eq t.name s.name && has_risen s.faults t.faults) now.snaps
      (any_each (λ (t : SnapCount). (t.name ≡ name) × Rose s.faults t.faults) (λ (t : SnapCount). (bytes_eq t.name s.name && has_risen s.faults t.faults) ≡ true) now.snaps
      (λ t both. both_true (bytes_eq t.name s.name) (has_risen s.faults t.faults) (subst (λ (n : List ℕ). bytes_eq n s.name ≡ true) (f.0 ∙ sym both.0) (bytes_same s.name)) (is_risen s.faults t.faults both.1))
      f.1))
      (subst (λ (n : List ℕ). bytes_eq n s.name ≡ true) f.0 (bytes_same s.name))

  all_tests : names_snap (risen before now) name ≡ list_any test before.snaps
  all_tests = any_filtered (rises_in now.snaps) (λ (s : SnapCount). s.name) (bytes_eq name) before.snaps

  pub named_rose : names_snap (risen before now) name ≡ true → IsRisen before now name
  named_rose e = any_each (λ (s : SnapCount). test s ≡ true) Found before.snaps found (Any-from_list_any test before.snaps (sym all_tests ∙ e))

  pub rose_named : IsRisen before now name → names_snap (risen before now) name ≡ true
  rose_named is = all_tests ∙ list_any-from_Any test before.snaps (any_each Found (λ (s : SnapCount). test s ≡ true) before.snaps passes is)

-- The first place that passes a test.
use Rattle.std.proofs.Common.{◌≡◌, ℕ, zero, suc, ◌+◌, ◌<◌, ◌≤◌, inl, inr, Bool, true, false, cond, Option, Some, None, refl, ap, sym, ◌∙◌, arith}
use Rattle.std.proofs.lemmas.Bool.{cases_eq}
use Rattle.page_base.specs.declared.numbers.SnapNo.{SnapNo}
use Rattle.snap_pages.specs.Places.{first_from}

-- what is found passes, stands among the places, and those before it fail
pub record IsFirst (test : SnapNo → Bool) (from n : ℕ) (s : SnapNo) : Type 0 where
  pub above : from ≤ s.0
  pub below : s.0 < from + n
  pub passes : test s ≡ true
  pub before : (k : SnapNo) → from ≤ k.0 → k.0 < s.0 → test k ≡ false

-- it is the first
pub first_from_is : (test : SnapNo → Bool) (from n : ℕ) (s : SnapNo) → IsFirst test from n s → first_from test from n ≡ Some s
first_from_is test from zero s first = let above : from ≤ s.0 = first.above in let below : s.0 < from + 0 = first.below in absurd (omega arith)
first_from_is test from (suc n) s first = elim (cases_eq s.0 from) [
  | inl e ↦
      let same : record { 0 = from } ≡ s = λ i. record { 0 = sym e i } in
      ap (λ b. cond b (Some (record { 0 = from })) (first_from test (from + 1) n)) (ap test same ∙ first.passes) ∙ ap Some same
  | inr ne ↦
      let above : from ≤ s.0 = first.above in
      let below : s.0 < from + suc n = first.below in
      ap (λ b. cond b (Some (record { 0 = from })) (first_from test (from + 1) n)) (first.before (record { 0 = from }) (omega arith) (omega arith))
      ∙ first_from_is test (from + 1) n s (record { above = omega arith; below = omega arith; passes = first.passes; before = λ k ge lt. first.before k (omega arith) lt })
]

-- there is none
pub first_from_none : (test : SnapNo → Bool) (from n : ℕ) → ((k : SnapNo) → from ≤ k.0 → k.0 < from + n → test k ≡ false) → first_from test from n ≡ None
first_from_none test from zero fails = refl
first_from_none test from (suc n) fails =
    ap (λ b. cond b (Some (record { 0 = from })) (first_from test (from + 1) n)) (fails (record { 0 = from }) (omega arith) (omega arith))
    ∙ first_from_none test (from + 1) n (λ k ge lt. fails k (omega arith) (omega arith))

-- what is answered is so
abbrev pub Answers : (SnapNo → Bool) → ℕ → ℕ → Option SnapNo → Type 0
Answers test from n None = (k : SnapNo) → from ≤ k.0 → k.0 < from + n → test k ≡ false
Answers test from n (Some s) = IsFirst test from n s

later : (test : SnapNo → Bool) (from n : ℕ) → test (record { 0 = from }) ≡ false → (o : Option SnapNo) → Answers test (from + 1) n o → Answers test from (suc n) o
later test from n fails None none = λ k ge lt. elim (cases_eq k.0 from) [
  | inl e ↦ ap test (λ i. record { 0 = e i }) ∙ fails
  | inr ne ↦ none k (omega arith) (omega arith)
]
later test from n fails (Some s) first =
    let above : from + 1 ≤ s.0 = first.above in
    let below : s.0 < from + 1 + n = first.below in
    record {
      above = omega arith;
      below = omega arith;
      passes = first.passes;
      before = λ k ge lt. elim (cases_eq k.0 from) [
        | inl e ↦ ap test (λ i. record { 0 = e i }) ∙ fails
        | inr ne ↦ first.before k (omega arith) lt
      ];
    }

pub first_from_answers : (test : SnapNo → Bool) (from n : ℕ) → Answers test from n (first_from test from n)
first_from_answers test from zero = λ k ge lt. absurd (omega arith)
first_from_answers test from (suc n) = by_test (test (record { 0 = from })) refl (first_from_answers test (from + 1) n)
  where
    by_test : (b : Bool) → test (record { 0 = from }) ≡ b → Answers test (from + 1) n (first_from test (from + 1) n) → Answers test from (suc n) (cond b (Some (record { 0 = from })) (first_from test (from + 1) n))
    by_test true e rest = record { above = omega arith; below = omega arith; passes = e; before = λ k ge lt. absurd (omega arith) }
    by_test false e rest = later test from n e (first_from test (from + 1) n) rest

-- Numbers that get their turn one after the other.
use Rattle.std.proofs.Common.{refl, ◌≡◌, ◌≢◌, ℕ, zero, suc, ◌+◌, ◌<◌, Bool, true, false, cond, ◌==◌, List, [], ◌∷◌, ◌++◌, length, get_or, set, replicate, ap, sym, ◌∙◌, arith, inl, inr, eq-eqb}
use Rattle.std.proofs.lemmas.Bool.{cases_eq, ne_eqb}
use Rattle.std.proofs.lemmas.List.{length-set, get_or_past}
use Rattle.table_heap.specs.Growth.{count_of, IsNumbering}
use Rattle.table_heap.specs.Turns.{Marks, MarksToo}
use Rattle.table_heap.proofs.GrowLemmas.{count_append}

mark_same : (marked : List Bool) (i : ℕ) → i < length marked → get_or (set marked i true) i false ≡ true
mark_same [] i h = absurd (omega arith)
mark_same (b ∷ bs) zero h = refl
mark_same (b ∷ bs) (suc i) h = mark_same bs i (omega arith)

mark_other : (marked : List Bool) (i j : ℕ) → j ≢ i → get_or (set marked i true) j false ≡ get_or marked j false
mark_other [] i j ne = refl
mark_other (b ∷ bs) zero zero ne = absurd (ne refl)
mark_other (b ∷ bs) zero (suc j) ne = refl
mark_other (b ∷ bs) (suc i) zero ne = refl
mark_other (b ∷ bs) (suc i) (suc j) ne = mark_other bs i j (λ e. ne (ap suc e))

pub marks_none : (n : ℕ) → Marks (replicate n false) []
marks_none zero i = refl
marks_none (suc n) zero = refl
marks_none (suc n) (suc i) = marks_none n i

pub marks_more : (marked : List Bool) (order : List ℕ) (i : ℕ) → Marks marked order → i < length marked → get_or marked i false ≡ false → Marks (set marked i true) (order ++ i ∷ [])
marks_more marked order i m h new j =
    elim (cases_eq j i) [
      | inl e ↦
          let none : count_of j order ≡ 0 = m j ∙ ap (λ b. cond {A = ℕ} b 1 0) (ap (λ k. get_or marked k false) e ∙ new) in
          let one : cond {A = ℕ} (i == j) 1 0 ≡ 1 = ap (λ b. cond {A = ℕ} b 1 0) (eq-eqb i j (sym e)) in
          let sum = count_append j order (i ∷ []) in
          let left : count_of j (order ++ i ∷ []) ≡ 1 = omega arith in
          left ∙ sym (ap (λ b. cond {A = ℕ} b 1 0) (ap (λ k. get_or (set marked i true) k false) e ∙ mark_same marked i h))
      | inr ne ↦
          let zero_one : cond {A = ℕ} (i == j) 1 0 ≡ 0 = ap (λ b. cond {A = ℕ} b 1 0) (ne_eqb i j (λ e. ne (sym e))) in
          let sum = count_append j order (i ∷ []) in
          let left : count_of j (order ++ i ∷ []) ≡ count_of j order = omega arith in
          left ∙ m j ∙ ap (λ b. cond {A = ℕ} b 1 0) (sym (mark_other marked i j ne))
    ]

pub marks_too : (marked : List Bool) (i : ℕ) → MarksToo i marked (set marked i true)
marks_too marked i = record {
  size = length-set marked i true;
  too = λ h. mark_same marked i h;
  stay = λ j e. by j e;
}
  where
    by : (j : ℕ) → get_or marked j false ≡ true → get_or (set marked i true) j false ≡ true
    by j e = elim (cases_eq j i) [
      | inl f ↦ ap (λ k. get_or (set marked i true) k false) f ∙ mark_same marked i (within marked i (ap (λ k. get_or marked k false) (sym f) ∙ e))
      | inr ne ↦ mark_other marked i j ne ∙ e
    ]
      where
        within : (xs : List Bool) (k : ℕ) → get_or xs k false ≡ true → k < length xs
        within [] k g = let w : false ≡ true = g in absurd (let u : false ≡ true = w in cc)
        within (b ∷ bs) zero g = omega arith
        within (b ∷ bs) (suc k) g = let h = within bs k g in omega arith

pub marks_stay : (marked : List Bool) (i : ℕ) → (i < length marked → get_or marked i false ≡ true) → MarksToo i marked marked
marks_stay marked i h = record { size = refl; too = h; stay = λ j e. e }

-- the first so many are marked
abbrev pub AreMarked : List Bool → ℕ → Type 0
AreMarked marked n = (j : ℕ) → j < n → get_or marked j false ≡ true

pub marked_more : (old new : List Bool) (i : ℕ) → AreMarked old i → i < length old → MarksToo i old new → AreMarked new (i + 1)
marked_more old new i a h m j lt = elim (cases_eq j i) [
  | inl e ↦ ap (λ k. get_or new k false) e ∙ m.too h
  | inr ne ↦ m.stay j (a j (omega arith))
]

pub all_marked : (marked : List Bool) (order : List ℕ) (n : ℕ) → Marks marked order → length marked ≡ n → AreMarked marked n → IsNumbering n order
all_marked marked order n m size a = record {
  each = λ i h. m i ∙ ap (λ b. cond {A = ℕ} b 1 0) (a i h);
  below = λ i h. m i ∙ ap (λ b. cond {A = ℕ} b 1 0) (get_or_past marked i false (omega arith));
}

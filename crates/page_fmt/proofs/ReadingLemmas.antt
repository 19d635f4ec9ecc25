-- A slot between its offset and the next one.
use Rattle.std.proofs.Common.{◌≡◌, ◌≢◌, ℕ, zero, suc, ◌+◌, ◌-◌, ◌*◌, ◌<◌, List, [], ◌∷◌, length, get_or, take, drop, refl, ap, sym, ◌∙◌, arith, length-drop, min, inl, inr}
use Rattle.std.proofs.lemmas.List.{take_all}
use Rattle.std.proofs.lemmas.Bool.{cases_lt}
use Rattle.page_fmt.specs.Content.{le16_at, offsets_at, next_start, slots_at, row_end, content}

pub length-offsets_at : (image : List ℕ) (at n : ℕ) → length (offsets_at image at n) ≡ n
length-offsets_at image at zero = refl
length-offsets_at image at (suc n) = omega (arith, length-offsets_at image (at - 2) n)

pub length-slots_at : (image : List ℕ) (end : ℕ) (os : List ℕ) → length (slots_at image end os) ≡ length os
length-slots_at image end [] = refl
length-slots_at image end (zero ∷ os) = omega (arith, length-slots_at image end os)
length-slots_at image end (suc o ∷ os) = omega (arith, length-slots_at image end os)

pub length-content : (image : List ℕ) → length (content image) ≡ le16_at image 0
unfolding content
length-content image = length-slots_at image (row_end image) (offsets_at image 8190 (le16_at image 0)) ∙ length-offsets_at image 8190 (le16_at image 0)

-- a slot between its offset and the next
abbrev pub slot_between : List ℕ → ℕ → ℕ → List ℕ
slot_between image zero end = []
slot_between image (suc o) end = take (end - suc o) (drop (suc o) image)

first_slot : (image : List ℕ) (end o : ℕ) (os : List ℕ) → get_or (slots_at image end (o ∷ os)) 0 [] ≡ slot_between image o (next_start end os)
first_slot image end zero os = refl
first_slot image end (suc o) os = refl

other_slot : (image : List ℕ) (end o i : ℕ) (os : List ℕ) → get_or (slots_at image end (o ∷ os)) (suc i) [] ≡ get_or (slots_at image end os) i []
other_slot image end zero i os = refl
other_slot image end (suc o) i os = refl

pub slots_at-slot : (image : List ℕ) (end n at i : ℕ) → i < n → get_or (slots_at image end (offsets_at image at n)) i [] ≡ slot_between image (le16_at image (at - 2 * i)) (next_start end (offsets_at image (at - 2 * suc i) (n - suc i)))
slots_at-slot image end zero at i h = absurd (omega arith)
slots_at-slot image end (suc n) at zero h =
    let a : at ≡ at - 2 * 0 = omega arith in
    let b : at - 2 ≡ at - 2 * 1 = omega arith in
    let m : n ≡ suc n - 1 = omega arith in
    first_slot image end (le16_at image at) (offsets_at image (at - 2) n) ∙ (λ k. slot_between image (le16_at image (a k)) (next_start end (offsets_at image (b k) (m k))))
slots_at-slot image end (suc n) at (suc i) h =
    let a : at - 2 - 2 * i ≡ at - 2 * suc i = omega arith in
    let b : at - 2 - 2 * suc i ≡ at - 2 * suc (suc i) = omega arith in
    let m : n - suc i ≡ suc n - suc (suc i) = omega arith in
    other_slot image end (le16_at image at) i (offsets_at image (at - 2) n) ∙ slots_at-slot image end n (at - 2) i (omega arith) ∙ (λ k. slot_between image (le16_at image (a k)) (next_start end (offsets_at image (b k) (m k))))

pub slot-content : (image : List ℕ) (i : ℕ) → i < le16_at image 0 → get_or (content image) i [] ≡ slot_between image (le16_at image (8190 - 2 * i)) (next_start (row_end image) (offsets_at image (8190 - 2 * (i + 1)) (le16_at image 0 - (i + 1))))
unfolding content
slot-content image i h =
    let e : suc i ≡ i + 1 = omega arith in
    slots_at-slot image (row_end image) (le16_at image 0) 8190 i h
    ∙ (λ j. slot_between image (le16_at image (8190 - 2 * i)) (next_start (row_end image) (offsets_at image (8190 - 2 * e j) (le16_at image 0 - e j))))

pub next_start-step : (image : List ℕ) (end i count : ℕ) → i < count → le16_at image (8190 - 2 * i) ≡ 0
    → next_start end (offsets_at image (8190 - 2 * (i + 1)) (count - (i + 1))) ≡ next_start end (offsets_at image (8190 - 2 * i) (count - i))
next_start-step image end i count h zero_here =
    let m : count - i ≡ suc (count - (i + 1)) = omega arith in
    let at : 8190 - 2 * (i + 1) ≡ 8190 - 2 * i - 2 = omega arith in
    ap (λ k. next_start end (offsets_at image k (count - (i + 1)))) at
    ∙ ap (λ o. next_start end (o ∷ offsets_at image (8190 - 2 * i - 2) (count - (i + 1)))) (sym zero_here)
    ∙ ap (λ n. next_start end (offsets_at image (8190 - 2 * i) n)) (sym m)

pub clamped : (image : List ℕ) (s e m k : ℕ) → m ≡ min e (length image) → k ≡ min s m → s ≢ 0 → take (m - k) (drop k image) ≡ slot_between image s e
clamped image zero e m k f g h = absurd (h refl)
clamped image (suc o) e m k f g h =
    elim (cases_lt m (suc o)) [
      | inl past ↦
          let none : m - k ≡ 0 = omega arith in
          elim (cases_lt e (suc o)) [
            | inl less ↦ let zero_len : e - suc o ≡ 0 = omega arith in ap (λ n. take n (drop k image)) none ∙ sym (ap (λ n. take n (drop (suc o) image)) zero_len)
            | inr more ↦
                let gone : drop (suc o) image ≡ [] = no_length (drop (suc o) image) (omega (arith, length-drop (suc o) image)) in
                ap (λ n. take n (drop k image)) none ∙ sym (ap (take (e - suc o)) gone ∙ take_nil (e - suc o))
          ]
      | inr within ↦
          let at : k ≡ suc o = omega arith in
          elim (cases_lt (length image) e) [
            | inl long ↦ (λ i. take (m - at i) (drop (at i) image)) ∙ take_all (m - suc o) (drop (suc o) image) (omega (arith, length-drop (suc o) image)) ∙ sym (take_all (e - suc o) (drop (suc o) image) (omega (arith, length-drop (suc o) image)))
            | inr fits ↦ let same : m ≡ e = omega arith in λ i. take (same i - at i) (drop (at i) image)
          ]
    ]
  where
    no_length : (xs : List ℕ) → length xs ≡ 0 → xs ≡ []
    no_length [] e = refl
    no_length (x ∷ xs) e = absurd (omega arith)

    take_nil : (n : ℕ) → take {A = ℕ} n [] ≡ []
    take_nil zero = refl
    take_nil (suc n) = refl

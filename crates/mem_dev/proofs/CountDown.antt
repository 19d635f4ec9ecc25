-- Counting numbers down one after the other.
use Rattle.std.proofs.Common.{◌≡◌, ℕ, ◌+◌, ◌-◌, ◌<◌, ◌≤◌, List, length, get_or, take, drop, set, map, refl, ap, sym, ◌∙◌, length-set, arith, add-zero}
use Rattle.std.proofs.lemmas.List.{take_more_set, map_more, drop-set-lt, drop-drop, get_or-drop, take_all}

-- the numbers in front are one less, the others as they were
pub record Lowered (before now : List ℕ) (i : ℕ) : Type 0 where
  pub long : length now ≡ length before
  pub front : take i now ≡ map (λ n. n - 1) (take i before)
  pub rest : drop i now ≡ drop i before

pub lowered_more : (before now : List ℕ) (i y : ℕ) → i < length before → y ≡ get_or now i 0 - 1 → Lowered before now i → Lowered before (set now i y) (i + 1)
lowered_more before now i y in' is h =
    let here : i < length now = omega (arith, h.long) in
    let same : get_or now i 0 ≡ get_or before i 0 = simp (get_or-drop, add-zero) at (ap (λ l. get_or l 0 0) h.rest) in
    record {
      long = length-set now i y ∙ h.long;
      front = rw (take_more_set now i y here, map_more (λ n. n - 1) before i 0 in', is, h.front, same) refl;
      rest = drop-set-lt (i + 1) now i y (omega arith) ∙ sym (drop-drop 1 i now) ∙ ap (drop 1) h.rest ∙ drop-drop 1 i before;
    }

pub lowered_all : (before now : List ℕ) (i : ℕ) → length before ≤ i → Lowered before now i → now ≡ map (λ n. n - 1) before
lowered_all before now i past h =
    sym (take_all i now (omega (arith, h.long))) ∙ h.front ∙ ap (map (λ n. n - 1)) (take_all i before past)

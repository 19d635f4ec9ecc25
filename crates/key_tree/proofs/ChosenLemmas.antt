-- The child that is chosen, going on from one to the next.
use Rattle.std.proofs.Common.{◌≡◌, ℕ, zero, suc, ◌+◌, ◌-◌, ◌<◌, ◌≤◌, List, [], ◌∷◌, length, get_or, drop, take, refl, ap, sym, ◌∙◌, arith, Bool, true, false, cond, Some}
use Rattle.tree_laws.specs.declared.child.Child.{Child}
use Rattle.tree_laws.specs.Keys.{Key}
use Rattle.tree_laws.specs.Kids.{may_hold, chosen_from, wanted}

drop_at : (xs : List Child) (i : ℕ) (d : Child) → i < length xs → drop i xs ≡ get_or xs i d ∷ drop (i + 1) xs
drop_at [] i d h = absurd (omega (arith, h))
drop_at (x ∷ xs) zero d h = refl
drop_at (x ∷ xs) (suc i) d h =
    let e : suc (i + 1) ≡ suc i + 1 = omega arith in
    drop_at xs i d (omega (arith, h)) ∙ ap (λ (n : ℕ). get_or xs i d ∷ drop n (x ∷ xs)) e

-- the child at this place is the one, unless a later one is
abbrev pub ChosenSoFar : Key → List Child → ℕ → Type 0
ChosenSoFar key cs at = (at < length cs) × (wanted (Some key) (drop at cs) ≡ wanted (Some key) cs)

two : (cs : List Child) (at : ℕ) (d : Child) → at + 1 < length cs → drop at cs ≡ get_or cs at d ∷ get_or cs (at + 1) d ∷ drop (at + 1 + 1) cs
two cs at d h = drop_at cs at d (omega (arith, h)) ∙ ap (λ (l : List Child). get_or cs at d ∷ l) (drop_at cs (at + 1) d h)

pub chosen_more : (key : Key) (cs : List Child) (at : ℕ) (d : Child) → ChosenSoFar key cs at → at + 1 < length cs → may_hold key (get_or cs (at + 1) d) ≡ true → ChosenSoFar key cs (at + 1)
chosen_more key cs at d s h held =
    let c : Child = get_or cs at d in
    let e : Child = get_or cs (at + 1) d in (
      h,
      ap (wanted (Some key)) (drop_at cs (at + 1) d h)
          ∙ sym (ap (λ (b : Bool). cond b (chosen_from key (get_or cs (at + 1) d) (drop (at + 1 + 1) cs)) (get_or cs at d) ∷ []) held)
          ∙ sym (ap (wanted (Some key)) (two cs at d h)) ∙ s.1,
    )

pub chosen_last : (key : Key) (cs : List Child) (at : ℕ) (d : Child) → ChosenSoFar key cs at → length cs ≤ at + 1 → get_or cs at d ∷ [] ≡ wanted (Some key) cs
chosen_last key cs at d s h =
    let one : drop (at + 1) cs ≡ [] = past cs (at + 1) h in
    sym (ap (wanted (Some key)) (drop_at cs at d s.0 ∙ ap (λ (l : List Child). get_or cs at d ∷ l) one)) ∙ s.1
  where
    past : (xs : List Child) (j : ℕ) → length xs ≤ j → drop j xs ≡ []
    past [] zero h = refl
    past [] (suc j) h = refl
    past (x ∷ xs) zero h = absurd (omega (arith, h))
    past (x ∷ xs) (suc j) h = past xs j (omega (arith, h))

pub chosen_here : (key : Key) (cs : List Child) (at : ℕ) (d : Child) → ChosenSoFar key cs at → at + 1 < length cs → may_hold key (get_or cs (at + 1) d) ≡ false → get_or cs at d ∷ [] ≡ wanted (Some key) cs
chosen_here key cs at d s h held =
    sym (ap (λ (b : Bool). cond b (chosen_from key (get_or cs (at + 1) d) (drop (at + 1 + 1) cs)) (get_or cs at d) ∷ []) held)
    ∙ sym (ap (wanted (Some key)) (two cs at d h)) ∙ s.1

pub one_at : (cs : List Child) (at : ℕ) (d : Child) → at < length cs → take ((at + 1) - at) (drop at cs) ≡ get_or cs at d ∷ []
one_at cs at d h =
    let one : (at + 1) - at ≡ 1 = omega arith in
    ap (λ (n : ℕ). take n (drop at cs)) one ∙ ap (take 1) (drop_at cs at d h)

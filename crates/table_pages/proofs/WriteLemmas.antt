-- A list that is written element by element.
use Rattle.std.proofs.Common.{◌≡◌, ℕ, ◌+◌, ◌<◌, ◌≤◌, List, [], ◌∷◌, ◌++◌, length, get_or, take, ap, sym, ◌∙◌, subst, append_assoc}
use Rattle.std.specs.List.{flat_map, AllByRecursion}
use Rattle.std.proofs.lemmas.List.{append-nil, take_more, take_all}
use Rattle.std.proofs.lemmas.List.Concat.{flat_map-append}

module _ {X : Type 0} (f : X → List ℕ) (P : X → Type 0) (xs : List X) where
  -- the first i elements are written, and P holds of each
  pub record Written (old now : List ℕ) (i : ℕ) : Type 0 where
    pub is : now ≡ old ++ flat_map f (take i xs)
    pub each : AllByRecursion P (take i xs)

  each_more : (ys : List X) (y : X) → AllByRecursion P ys → P y → AllByRecursion P (ys ++ y ∷ [])
  each_more [] y each here = (here, tt)
  each_more (x ∷ ys) y each here = (each.0, each_more ys y each.1 here)

  -- one more element is written
  pub write_more : (i : ℕ) (x : X) (old now new : List ℕ) → i < length xs → x ≡ get_or xs i x → Written old now i → new ≡ now ++ f x → P x → Written old new (i + 1)
  write_more i x old now new lt is so_far wrote here =
      let longer : take (i + 1) xs ≡ take i xs ++ x ∷ [] = take_more xs i x lt ∙ ap (λ (y : X). take i xs ++ y ∷ []) (sym is) in
      let bytes : flat_map f (take (i + 1) xs) ≡ flat_map f (take i xs) ++ f x =
      ap (flat_map f) longer ∙ flat_map-append f (take i xs) (x ∷ []) ∙ ap (λ (bs : List ℕ). flat_map f (take i xs) ++ bs) (append-nil (f x)) in
      record {
        is = wrote ∙ ap (λ (bs : List ℕ). bs ++ f x) so_far.is ∙ append_assoc old (flat_map f (take i xs)) (f x) ∙ ap (λ (bs : List ℕ). old ++ bs) (sym bytes);
        each = subst (AllByRecursion P) (sym longer) (each_more (take i xs) x so_far.each here);
      }

  -- all elements are written
  pub write_all : (i : ℕ) (old now : List ℕ) → length xs ≤ i → Written old now i → (now ≡ old ++ flat_map f xs) × AllByRecursion P xs
  write_all i old now le so_far =
      let all = take_all i xs le in
      (so_far.is ∙ ap (λ (ys : List X). old ++ flat_map f ys) all, subst (AllByRecursion P) all so_far.each)

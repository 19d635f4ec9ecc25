-- Values gathered one after the other: those so far, and what comes of the rest.
use Rattle.std.proofs.Common.{◌≡◌, ℕ, ◌+◌, ◌<◌, List, [], ◌∷◌, ◌++◌, length, get_or, drop, map, refl, ap, sym, ◌∙◌, append_assoc, arith}
use Rattle.std.specs.Prelude.{Option, Some, None, option_map}
use Rattle.std.proofs.lemmas.List.{drop_more, append-nil, drop_all}
use Rattle.plain_model.specs.Outcomes.{all_of}

-- values before others, where those are there
abbrev pub behind : {X : Type 0} → List X → Option (List X) → Option (List X)
behind xs (Some ys) = Some (xs ++ ys)
behind xs None = None

module _ {X : Type 0} where
  pub behind_none : (o : Option (List X)) → o ≡ behind [] o
  behind_none (Some ys) = refl
  behind_none None = refl

  pub behind_more : (xs : List X) (x : X) (o : Option (List X)) → behind xs (option_map (λ more. x ∷ more) o) ≡ behind (xs ++ x ∷ []) o
  behind_more xs x (Some ys) = ap Some (sym (append_assoc xs (x ∷ []) ys))
  behind_more xs x None = refl

module _ {A X : Type 0} (f : A → Option X) (as' : List A) where
  -- these are the values of the first i elements
  pub record IsGathered (i : ℕ) (xs : List X) : Type 0 where
    pub is : all_of (map f as') ≡ behind xs (all_of (map f (drop i as')))

  pub gathered_none : IsGathered 0 []
  gathered_none = record { is = behind_none (all_of (map f as')) }

  next_value : (i : ℕ) (a : A) (xs : List X) → i < length as' → a ≡ get_or as' i a → IsGathered i xs →
      all_of (map f as') ≡ behind xs (all_of (f a ∷ map f (drop (i + 1) as')))
  next_value i a xs within at h =
      h.is ∙ ap (λ (rest : List A). behind xs (all_of (map f rest))) (drop_more as' i a within ∙ ap (λ (b : A). b ∷ drop (i + 1) as') (sym at))

  pub gathered_more : (i : ℕ) (a : A) (xs : List X) (x : X) → i < length as' → a ≡ get_or as' i a → f a ≡ Some x → IsGathered i xs → IsGathered (i + 1) (xs ++ x ∷ [])
  gathered_more i a xs x within at given h =
      let later = map f (drop (i + 1) as') in
      record { is = next_value i a xs within at h ∙ ap (λ (o : Option X). behind xs (all_of (o ∷ later))) given ∙ behind_more xs x (all_of later) }

  pub gathered_lost : (i : ℕ) (a : A) (xs : List X) → i < length as' → a ≡ get_or as' i a → f a ≡ None → IsGathered i xs → all_of (map f as') ≡ None
  gathered_lost i a xs within at given h =
      let later = map f (drop (i + 1) as') in
      next_value i a xs within at h ∙ ap (λ (o : Option X). behind xs (all_of (o ∷ later))) given

  pub gathered_all : (xs : List X) → IsGathered (length as') xs → all_of (map f as') ≡ Some xs
  gathered_all xs h = h.is ∙ ap (λ (rest : List A). behind xs (all_of (map f rest))) (drop_all (length as') as' (omega arith)) ∙ ap Some (append-nil xs)

-- Things laid in parts, one after the other.
use Rattle.std.proofs.Common.{refl, ◌≡◌, ℕ, ◌-◌, ◌<◌, ◌≤◌, List, [], ◌∷◌, ◌++◌, ap, sym, ◌∙◌, arith, Bool, true, false, cond, nat_le, append_assoc, append-nil, length}
use Rattle.std.proofs.lemmas.Bool.{le-leb, lt-leb}
use Rattle.tree_laws.specs.Parts.{fill, onto}

-- finished parts, and one that goes on with the first of others
abbrev pub glued : {X : Type 0} → List (List X) → List X → List (List X) → List (List X)
glued done part [] = done ++ part ∷ []
glued done part (q ∷ qs) = done ++ (part ++ q) ∷ qs

abbrev pub FilledSoFar : {X : Type 0} → (X → ℕ) → ℕ → List X → List (List X) → List X → ℕ → Type 0
FilledSoFar {X = X} size all xs done part left = (rest : List X) → fill size all all (xs ++ rest) ≡ glued done part (fill size all left rest)

fill_front : {X : Type 0} (size : X → ℕ) (all left : ℕ) (xs : List X) → glued {X = X} [] [] (fill size all left xs) ≡ fill size all left xs
fill_front {X = X} size all left [] = refl
fill_front {X = X} size all left (x ∷ xs) = by (nat_le (size x) left)
  where
    by : (b : Bool) → glued [] [] (cond b (onto x (fill size all (left - size x) xs)) ([] ∷ onto x (fill size all (all - size x) xs))) ≡ cond b (onto x (fill size all (left - size x) xs)) ([] ∷ onto x (fill size all (all - size x) xs))
    by true = front (fill size all (left - size x) xs)
      where
        front : (F : List (List X)) → glued [] [] (onto x F) ≡ onto x F
        front [] = refl
        front (f ∷ fs) = refl
    by false = refl

pub filled_begin : {X : Type 0} (size : X → ℕ) (all : ℕ) → FilledSoFar {X = X} size all [] [] [] all
filled_begin size all rest = sym (fill_front size all all rest)

glued_onto : {X : Type 0} (done : List (List X)) (part : List X) (x : X) (F : List (List X)) → glued done part (onto x F) ≡ glued done (part ++ x ∷ []) F
glued_onto done part x [] = refl
glued_onto done part x (f ∷ fs) = ap (λ p. done ++ p ∷ fs) (sym (append_assoc part (x ∷ []) f))

glued_next : {X : Type 0} (done : List (List X)) (part : List X) (x : X) (F : List (List X)) → glued done part ([] ∷ onto x F) ≡ glued (done ++ part ∷ []) (x ∷ []) F
glued_next done part x [] = ap (λ p. done ++ p ∷ (x ∷ []) ∷ []) (append-nil part) ∙ sym (append_assoc done (part ∷ []) ((x ∷ []) ∷ []))
glued_next done part x (f ∷ fs) = ap (λ p. done ++ p ∷ (x ∷ f) ∷ fs) (append-nil part) ∙ sym (append_assoc done (part ∷ []) ((x ∷ f) ∷ fs))

pub filled_more : {X : Type 0} (size : X → ℕ) (all : ℕ) (xs : List X) (done : List (List X)) (part more : List X) (left less : ℕ) (x : X) → FilledSoFar size all xs done part left → size x ≤ left → less ≡ left - size x → more ≡ part ++ x ∷ [] → FilledSoFar size all (xs ++ x ∷ []) done more less
filled_more size all xs done part more left less x s le is are rest =
    ap (fill size all all) (append_assoc xs (x ∷ []) rest) ∙ s (x ∷ rest)
    ∙ ap (λ b. glued done part (cond b (onto x (fill size all (left - size x) rest)) ([] ∷ onto x (fill size all (all - size x) rest)))) (le-leb (size x) left le)
    ∙ glued_onto done part x (fill size all (left - size x) rest) ∙ (λ i. glued done (sym are i) (fill size all (sym is i) rest))

pub filled_next : {X : Type 0} (size : X → ℕ) (all : ℕ) (xs : List X) (done more : List (List X)) (part new : List X) (left less : ℕ) (x : X) → FilledSoFar size all xs done part left → left < size x → less ≡ all - size x → more ≡ done ++ part ∷ [] → new ≡ x ∷ [] → FilledSoFar size all (xs ++ x ∷ []) more new less
filled_next size all xs done more part new left less x s lt is are one rest =
    ap (fill size all all) (append_assoc xs (x ∷ []) rest) ∙ s (x ∷ rest)
    ∙ ap (λ b. glued done part (cond b (onto x (fill size all (left - size x) rest)) ([] ∷ onto x (fill size all (all - size x) rest)))) (lt-leb (size x) left lt)
    ∙ glued_next done part x (fill size all (all - size x) rest) ∙ (λ i. glued (sym are i) (sym one i) (fill size all (sym is i) rest))

pub filled_end : {X : Type 0} (size : X → ℕ) (all : ℕ) (xs : List X) (done : List (List X)) (part : List X) (left : ℕ) → FilledSoFar size all xs done part left → done ++ part ∷ [] ≡ fill size all all xs
filled_end size all xs done part left s = ap (λ p. done ++ p ∷ []) (sym (append-nil part)) ∙ sym (s []) ∙ ap (fill size all all) (append-nil xs)

pub none_left : {X : Type 0} (xs : List X) → length xs ≡ 0 → xs ≡ []
none_left [] e = refl
none_left (x ∷ xs) e = absurd (omega (arith, e))

-- Parts with something in each.
use Rattle.std.proofs.Common.{◌≡◌, ◌≢◌, ◌≤◌, ◌-◌, ℕ, Bool, true, false, cond, List, [], ◌∷◌, sym, subst}
use Rattle.std.specs.Prelude.{nat_le}
use Rattle.std.proofs.lemmas.Bool.{le-leb}
use Rattle.tree_laws.specs.Parts.{fill, onto}
use Rattle.tree_laws.proofs.Lists.{Each}

-- parts behind the first have something in them
abbrev pub RestFull : {X : Type 0} → List (List X) → Type 0
RestFull [] = Unit {0}
RestFull (p ∷ ps) = Each (λ q. q ≢ []) ps

onto_rest : {X : Type 0} (x : X) (ps : List (List X)) → RestFull ps → RestFull (onto x ps)
onto_rest x [] h = tt
onto_rest x (p ∷ ps) h = h

onto_all : {X : Type 0} (x : X) (ps : List (List X)) → RestFull ps → Each (λ q. q ≢ []) (onto x ps)
onto_all x [] h = ((λ e. cc), tt)
onto_all x (p ∷ ps) h = ((λ e. cc), h)

pub rest_full : {X : Type 0} (size : X → ℕ) (all left : ℕ) (xs : List X) → RestFull (fill size all left xs)
rest_full size all left [] = tt
rest_full size all left (x ∷ xs) = by (nat_le (size x) left) (λ l. rest_full size all l xs)
  where
    by : (b : Bool) → ((l : ℕ) → RestFull (fill size all l xs)) → RestFull (cond b (onto x (fill size all (left - size x) xs)) ([] ∷ onto x (fill size all (all - size x) xs)))
    by true rec = onto_rest x (fill size all (left - size x) xs) (rec (left - size x))
    by false rec = onto_all x (fill size all (all - size x) xs) (rec (all - size x))

-- so has the first, where the first thing has room
pub all_full : {X : Type 0} (size : X → ℕ) (all left : ℕ) (x : X) (xs : List X) → size x ≤ left → Each (λ q. q ≢ []) (fill size all left (x ∷ xs))
all_full size all left x xs h =
    subst (λ (b : Bool). Each (λ q. q ≢ []) (cond b (onto x (fill size all (left - size x) xs)) ([] ∷ onto x (fill size all (all - size x) xs)))) (sym (le-leb (size x) left h))
    (onto_all x (fill size all (left - size x) xs) (rest_full size all (left - size x) xs))

pub some_part : {X : Type 0} (size : X → ℕ) (all left : ℕ) (xs : List X) → fill size all left xs ≢ []
some_part size all left [] e = cc
some_part {X = X} size all left (x ∷ xs) e = by (nat_le (size x) left) e
  where
    none : (ps : List (List X)) → onto x ps ≡ [] → ⊥
    none [] e = cc
    none (p ∷ ps) e = cc

    by : (b : Bool) → cond b (onto x (fill size all (left - size x) xs)) ([] ∷ onto x (fill size all (all - size x) xs)) ≡ [] → ⊥
    by true e = none (fill size all (left - size x) xs) e
    by false e = cc

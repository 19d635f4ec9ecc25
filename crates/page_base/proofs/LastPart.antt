-- The part behind the last separator, as the path grows at its end.
use Rattle.std.proofs.Common.{◌≡◌, ℕ, ◌+◌, ◌<◌, ◌≤◌, Bool, true, false, ◌||◌, cond, List, [], ◌∷◌, ◌++◌, length, take, drop, get_or, refl, ap, sym, ◌∙◌, arith}
use Rattle.std.specs.List.{list_any}
use Rattle.std.proofs.lemmas.List.{take_more, take_all, drop_all, drop-append-le, length-take}
use Rattle.std.proofs.lemmas.List.Folds.{list_any-append}
use Rattle.page_base.specs.FileName.{is_separator, last_part}

-- after so many bytes the last part begins at this place
pub record Behind (path : List ℕ) (i start : ℕ) : Type 0 where
  pub within : start ≤ i
  pub part : drop start (take i path) ≡ last_part (take i path)

or-true : (a : Bool) → (a || (true || false)) ≡ true
or-true true = refl
or-true false = refl

or-false : (a : Bool) → (a || (false || false)) ≡ a
or-false true = refl
or-false false = refl

-- a separator ends the part before it
last_part-separator : (xs : List ℕ) (b : ℕ) → is_separator b ≡ true → last_part (xs ++ b ∷ []) ≡ []
last_part-separator [] b h = ap (λ c. cond (c || false) [] (b ∷ [])) h
last_part-separator (x ∷ xs) b h =
    let any : list_any is_separator (x ∷ xs ++ b ∷ []) ≡ true = list_any-append is_separator (x ∷ xs) (b ∷ []) ∙ ap (λ c. list_any is_separator (x ∷ xs) || (c || false)) h ∙ or-true (list_any is_separator (x ∷ xs)) in
    ap (λ c. cond c (last_part (xs ++ b ∷ [])) (x ∷ xs ++ b ∷ [])) any ∙ last_part-separator xs b h

pushed : (c : Bool) (xs ys : List ℕ) (b : ℕ) → cond c (xs ++ b ∷ []) (ys ++ b ∷ []) ≡ cond c xs ys ++ b ∷ []
pushed true xs ys b = refl
pushed false xs ys b = refl

-- any other byte goes on with it
last_part-other : (xs : List ℕ) (b : ℕ) → is_separator b ≡ false → last_part (xs ++ b ∷ []) ≡ last_part xs ++ b ∷ []
last_part-other [] b h = ap (λ c. cond (c || false) [] (b ∷ [])) h
last_part-other (x ∷ xs) b h =
    let any : list_any is_separator (x ∷ xs ++ b ∷ []) ≡ list_any is_separator (x ∷ xs) = list_any-append is_separator (x ∷ xs) (b ∷ []) ∙ ap (λ c. list_any is_separator (x ∷ xs) || (c || false)) h ∙ or-false (list_any is_separator (x ∷ xs)) in
    ap (λ c. cond c (last_part (xs ++ b ∷ [])) (x ∷ xs ++ b ∷ [])) any
    ∙ ap (λ part. cond (list_any is_separator (x ∷ xs)) part (x ∷ xs ++ b ∷ [])) (last_part-other xs b h)
    ∙ pushed (list_any is_separator (x ∷ xs)) (last_part xs) (x ∷ xs) b

pub behind_separator : (path : List ℕ) (i start : ℕ) → i < length path → is_separator (get_or path i 0) ≡ true → Behind path i start → Behind path (i + 1) (i + 1)
behind_separator path i start lt is h =
    let more : take (i + 1) path ≡ take i path ++ get_or path i 0 ∷ [] = take_more path i 0 lt in
    record {
      within = omega arith;
      part = drop_all (i + 1) (take (i + 1) path) (omega (arith, length-take (i + 1) path)) ∙ sym (ap last_part more ∙ last_part-separator (take i path) (get_or path i 0) is);
    }

pub behind_other : (path : List ℕ) (i start : ℕ) → i < length path → is_separator (get_or path i 0) ≡ false → Behind path i start → Behind path (i + 1) start
behind_other path i start lt is h =
    let more : take (i + 1) path ≡ take i path ++ get_or path i 0 ∷ [] = take_more path i 0 lt in
    record {
      within = omega (arith, h.within);
      part = ap (drop start) more
          ∙ drop-append-le start (take i path) (get_or path i 0 ∷ []) (omega (arith, length-take i path, h.within))
          ∙ ap (λ part. part ++ get_or path i 0 ∷ []) h.part
          ∙ sym (ap last_part more ∙ last_part-other (take i path) (get_or path i 0) is);
    }

pub behind_all : (path : List ℕ) (i start : ℕ) → length path ≤ i → Behind path i start → drop start path ≡ last_part path
behind_all path i start past h = ap (drop start) (sym (take_all i path past)) ∙ h.part ∙ ap last_part (take_all i path past)

-- Rows gone through in turn: what was taken so far, and what comes of the rest.
use Rattle.std.proofs.Common.{◌≡◌, ℕ, ◌+◌, ◌<◌, List, [], ◌∷◌, ◌++◌, length, get_or, drop, map, refl, ap, sym, ◌∙◌, append_assoc, arith}
use Rattle.std.proofs.lemmas.List.{drop_more, append-nil, drop_all}
use Rattle.std.specs.declared.result.Result.{Result}
use Rattle.std.specs.declared.result.Result.TheVariants.{Ok, Err}
use Rattle.plain_model.specs.declared.reply.Message.{Message}
use Rattle.plain_model.specs.Messages.{at_place}
use Rattle.plain_model.specs.Outcomes.{Outcome, Refused, Passed, Taken, after_row, taken_from}

-- what was taken before others
abbrev pub joined : {X : Type 0} → List X → Result (List X) Message → Result (List X) Message
joined xs (Ok ys) = Ok (xs ++ ys)
joined xs (Err m) = Err m

module _ {X : Type 0} where
  pub joined_none : (r : Result (List X) Message) → r ≡ joined [] r
  joined_none (Ok ys) = refl
  joined_none (Err m) = refl

  pub joined_more : (xs : List X) (x : X) (place : ℕ) (r : Result (List X) Message) → joined xs (after_row place (Taken x) r) ≡ joined (xs ++ x ∷ []) r
  joined_more xs x place (Ok ys) = ap Ok (sym (append_assoc xs (x ∷ []) ys))
  joined_more xs x place (Err m) = refl

module _ {A X : Type 0} (f : A → Outcome X) (rows : List A) where
  -- the first i rows are gone through, and these were taken
  pub record IsThrough (i : ℕ) (xs : List X) : Type 0 where
    pub is : taken_from 1 (map f rows) ≡ joined xs (taken_from (i + 1) (map f (drop i rows)))

  pub through_none : IsThrough 0 []
  through_none = record { is = joined_none (taken_from 1 (map f rows)) }

  -- the next row in front
  next_row : (i : ℕ) (row : A) (xs : List X) → i < length rows → row ≡ get_or rows i row → IsThrough i xs →
      taken_from 1 (map f rows) ≡ joined xs (after_row (i + 1) (f row) (taken_from (i + 1 + 1) (map f (drop (i + 1) rows))))
  next_row i row xs within at h =
      h.is ∙ ap (λ (rest : List A). joined xs (taken_from (i + 1) (map f rest))) (drop_more rows i row within ∙ ap (λ (r : A). r ∷ drop (i + 1) rows) (sym at))

  pub through_taken : (i : ℕ) (row : A) (xs : List X) (x : X) → i < length rows → row ≡ get_or rows i row → f row ≡ Taken x → IsThrough i xs → IsThrough (i + 1) (xs ++ x ∷ [])
  through_taken i row xs x within at becomes h =
      let later = taken_from (i + 1 + 1) (map f (drop (i + 1) rows)) in
      record { is = next_row i row xs within at h ∙ ap (λ (o : Outcome X). joined xs (after_row (i + 1) o later)) becomes ∙ joined_more xs x (i + 1) later }

  pub through_passed : (i : ℕ) (row : A) (xs : List X) → i < length rows → row ≡ get_or rows i row → f row ≡ Passed → IsThrough i xs → IsThrough (i + 1) xs
  through_passed i row xs within at becomes h =
      let later = taken_from (i + 1 + 1) (map f (drop (i + 1) rows)) in
      record { is = next_row i row xs within at h ∙ ap (λ (o : Outcome X). joined xs (after_row (i + 1) o later)) becomes }

  pub through_refused : (i : ℕ) (row : A) (xs : List X) (number : ℕ) → i < length rows → row ≡ get_or rows i row → f row ≡ Refused number → IsThrough i xs →
      taken_from 1 (map f rows) ≡ Err (at_place number (i + 1))
  through_refused i row xs number within at becomes h =
      let later = taken_from (i + 1 + 1) (map f (drop (i + 1) rows)) in
      next_row i row xs within at h ∙ ap (λ (o : Outcome X). joined xs (after_row (i + 1) o later)) becomes

  pub through_all : (xs : List X) → IsThrough (length rows) xs → taken_from 1 (map f rows) ≡ Ok xs
  through_all xs h =
      h.is ∙ ap (λ (rest : List A). joined xs (taken_from (length rows + 1) (map f rest))) (drop_all (length rows) rows (omega arith)) ∙ ap Ok (append-nil xs)

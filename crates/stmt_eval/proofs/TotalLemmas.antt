-- Exact sums and aggregates, one element after the other.
use Rattle.std.proofs.Common.{◌≡◌, ℕ, ◌+◌, ◌*◌, ◌^◌, ◌<◌, ◌≤◌, ℤ, pos, ◌+ℤ◌, ◌≤ℤ◌, List, [], ◌∷◌, ◌++◌, length, get_or, drop, refl, ap, sym, ◌∙◌, arith}
use Rattle.std.specs.Prelude.{Option, Some, None, option_map, unwrap_or, is_some, Bool, true, false, ◌||◌}
use Rattle.std.specs.List.{list_any, cons_option}
use Rattle.std.proofs.lemmas.Int.{ints}
use Rattle.std.proofs.lemmas.List.{drop_more, append-nil, drop_all}
use Rattle.page_base.specs.declared.column.Column.{Column}
use Rattle.page_base.specs.declared.value.Value.{Value}
use Rattle.page_base.specs.declared.value.Value.TheVariants.{Null}
use Rattle.plain_model.specs.declared.expr_type.ExprType.{ExprType}
use Rattle.plain_model.specs.declared.stmt.Sum.{Sum}
use Rattle.plain_model.specs.Numbers.{number_in, stored}
use Rattle.plain_model.specs.Outcomes.{all_of}
use Rattle.plain_model.specs.Totals.{total, numbers_at, is_wide, sum_of, aggregate, aggregates_from}
use Rattle.stmt_eval.proofs.GatheringLemmas.{behind, behind_more, behind_none}

-- the numbers at a place of the first i rows come to this sum
pub record IsSummed (place : ℕ) (taken : List (List Value)) (i : ℕ) (sum : ℤ) : Type 0 where
  pub is : total (numbers_at place taken) ≡ sum +ℤ total (numbers_at place (drop i taken))
  pub low : pos 0 ≤ℤ (sum +ℤ pos (9223372036854775808 * i))
  pub high : sum ≤ℤ pos (9223372036854775808 * i)

zero_plus : (n : ℤ) → n ≡ pos 0 +ℤ n
zero_plus n = omega (arith, ints)

-- a row's number, or 0, stands in front of the rest
number_first : (place : ℕ) (row : List Value) (rest : List (List Value)) →
    total (numbers_at place (row ∷ rest)) ≡ unwrap_or (number_in (get_or row place Null)) (pos 0) +ℤ total (numbers_at place rest)
number_first place row rest = by_cases (number_in (get_or row place Null))
  where
    by_cases : (o : Option ℤ) → total (cons_option o (numbers_at place rest)) ≡ unwrap_or o (pos 0) +ℤ total (numbers_at place rest)
    by_cases (Some n) = refl
    by_cases None = zero_plus (total (numbers_at place rest))

regrouped : (a b c d e : ℤ) → a ≡ b +ℤ (c +ℤ d) → e ≡ b +ℤ c → a ≡ e +ℤ d
regrouped a b c d e p q = omega (arith, ints)

pub summed_more : (place : ℕ) (taken : List (List Value)) (i : ℕ) (row : List Value) (sum next : ℤ) → i < length taken → row ≡ get_or taken i row →
    next ≡ sum +ℤ unwrap_or (number_in (get_or row place Null)) (pos 0) → sum ≤ℤ (next +ℤ pos 9223372036854775808) → next ≤ℤ (sum +ℤ pos 9223372036854775808) → IsSummed place taken i sum → IsSummed place taken (i + 1) next
summed_more place taken i row sum next within at e low high h =
    let front : total (numbers_at place (drop i taken)) ≡ unwrap_or (number_in (get_or row place Null)) (pos 0) +ℤ total (numbers_at place (drop (i + 1) taken)) =
    ap (λ (rest : List (List Value)). total (numbers_at place rest)) (drop_more taken i row within ∙ ap (λ (r : List Value). r ∷ drop (i + 1) taken) (sym at)) ∙ number_first place row (drop (i + 1) taken) in
    record {
      is = regrouped (total (numbers_at place taken)) sum _ (total (numbers_at place (drop (i + 1) taken))) next (h.is ∙ ap (λ (n : ℤ). sum +ℤ n) front) e;
      low = let l = h.low in omega (arith, ints);
      high = let l = h.high in omega (arith, ints);
    }

-- whether a row has a number at a place
abbrev pub has_number : ℕ → List Value → Bool
has_number place row = is_some (number_in (get_or row place Null))

-- where no row has one there are none
pub no_numbers : (place : ℕ) (taken : List (List Value)) → list_any (has_number place) taken ≡ false → numbers_at place taken ≡ []
no_numbers place [] h = refl
no_numbers place (row ∷ taken) h = by_cases (number_in (get_or row place Null)) h (no_numbers place taken)
  where
    by_cases : (o : Option ℤ) → (is_some o || list_any (has_number place) taken) ≡ false → (list_any (has_number place) taken ≡ false → numbers_at place taken ≡ []) → cons_option o (numbers_at place taken) ≡ []
    by_cases (Some n) h rest = cc
    by_cases None h rest = rest h

-- where one has one there is a sum
pub some_numbers : (type : Option ExprType) (place : ℕ) (taken : List (List Value)) → list_any (has_number place) taken ≡ true → sum_of type (numbers_at place taken) ≡ stored (is_wide type) (total (numbers_at place taken))
some_numbers type place [] h = cc
some_numbers type place (row ∷ taken) h = by_cases (number_in (get_or row place Null)) h (some_numbers type place taken)
  where
    by_cases : (o : Option ℤ) → (is_some o || list_any (has_number place) taken) ≡ true →
        (list_any (has_number place) taken ≡ true → sum_of type (numbers_at place taken) ≡ stored (is_wide type) (total (numbers_at place taken))) →
        sum_of type (cons_option o (numbers_at place taken)) ≡ stored (is_wide type) (total (cons_option o (numbers_at place taken)))
    by_cases (Some n) h rest = refl
    by_cases None h rest = rest h

module _ (cols : List Column) (taken : List (List Value)) (sums : List Sum) where
  -- these are the first i aggregates
  pub record IsAggregated (i : ℕ) (values : List Value) : Type 0 where
    pub is : all_of (aggregates_from cols taken 0 sums) ≡ behind values (all_of (aggregates_from cols taken i (drop i sums)))

  pub aggregated_none : IsAggregated 0 []
  aggregated_none = record { is = behind_none (all_of (aggregates_from cols taken 0 sums)) }

  next_aggregate : (i : ℕ) (sum : Sum) (values : List Value) → i < length sums → sum ≡ get_or sums i sum → IsAggregated i values →
      all_of (aggregates_from cols taken 0 sums) ≡ behind values (all_of (aggregate cols taken i sum ∷ aggregates_from cols taken (i + 1) (drop (i + 1) sums)))
  next_aggregate i sum values within at h =
      h.is ∙ ap (λ (rest : List Sum). behind values (all_of (aggregates_from cols taken i rest))) (drop_more sums i sum within ∙ ap (λ (s : Sum). s ∷ drop (i + 1) sums) (sym at))

  pub aggregated_more : (i : ℕ) (sum : Sum) (values : List Value) (value : Value) → i < length sums → sum ≡ get_or sums i sum → aggregate cols taken i sum ≡ Some value → IsAggregated i values → IsAggregated (i + 1) (values ++ value ∷ [])
  aggregated_more i sum values value within at given h =
      let later = aggregates_from cols taken (i + 1) (drop (i + 1) sums) in
      record { is = next_aggregate i sum values within at h ∙ ap (λ (o : Option Value). behind values (all_of (o ∷ later))) given ∙ behind_more values value (all_of later) }

  pub aggregated_lost : (i : ℕ) (sum : Sum) (values : List Value) → i < length sums → sum ≡ get_or sums i sum → aggregate cols taken i sum ≡ None → IsAggregated i values → all_of (aggregates_from cols taken 0 sums) ≡ None
  aggregated_lost i sum values within at given h =
      let later = aggregates_from cols taken (i + 1) (drop (i + 1) sums) in
      next_aggregate i sum values within at h ∙ ap (λ (o : Option Value). behind values (all_of (o ∷ later))) given

  pub aggregated_all : (values : List Value) → IsAggregated (length sums) values → all_of (aggregates_from cols taken 0 sums) ≡ Some values
  aggregated_all values h =
      h.is ∙ ap (λ (rest : List Sum). behind values (all_of (aggregates_from cols taken (length sums) rest))) (drop_all (length sums) sums (omega arith)) ∙ ap Some (append-nil values)

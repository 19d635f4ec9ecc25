-- New rows gone through in turn, with the keys that are there.
use Rattle.std.proofs.Common.{◌≡◌, ℕ, ◌+◌, ◌<◌, List, [], ◌∷◌, ◌++◌, length, get_or, drop, map, refl, ap, sym, ◌∙◌, subst, arith}
use Rattle.std.specs.Prelude.{Option}
use Rattle.std.specs.declared.result.Result.{Result}
use Rattle.std.specs.declared.result.Result.TheVariants.{Ok, Err}
use Rattle.std.proofs.lemmas.List.{drop_more, append-nil, drop_all}
use Rattle.std.specs.BTreeSet.{BTreeSet}
use Rattle.page_base.specs.declared.column.Column.{Column}
use Rattle.page_base.specs.declared.value.Value.{Value}
use Rattle.plain_model.specs.declared.reply.Message.{Message}
use Rattle.plain_model.specs.Messages.{at_place}
use Rattle.plain_model.specs.Inserting.{inserted_row, inserted_from, with_taken}
use Rattle.plain_model.specs.Outcomes.{Outcome, Refused, Taken, after_row}
use Rattle.plain_model.specs.Tables.{key_of}
use Rattle.stmt_eval.specs.Keys.{HasKeys}
use Rattle.stmt_eval.proofs.TakingLemmas.{joined, joined_none, joined_more}

-- the keys with those of new rows
abbrev pub added : List Column → List (List Value) → List (List Value) → List (List Value)
added cols [] keys = keys
added cols (row ∷ rows) keys = added cols rows (key_of cols row ∷ keys)

added_more : (cols : List Column) (rows : List (List Value)) (row : List Value) (keys : List (List Value)) → added cols (rows ++ row ∷ []) keys ≡ key_of cols row ∷ added cols rows keys
added_more cols [] row keys = refl
added_more cols (first ∷ rows) row keys = added_more cols rows row (key_of cols first ∷ keys)

module _ {A : Type 0} (cols : List Column) (start : List (List Value)) (new : A → Option (List Value)) (lists : List A) where
  -- the first i lists gave these rows, and the set holds the keys that are there then
  pub record IsInserted (i : ℕ) (rows : List (List Value)) (set : BTreeSet (List Value)) : Type 0 where
    pub is : inserted_from cols start 1 (map new lists) ≡ joined rows (inserted_from cols (added cols rows start) (i + 1) (map new (drop i lists)))
    pub keys : HasKeys set (added cols rows start)

  pub inserted_none : (set : BTreeSet (List Value)) → HasKeys set start → IsInserted 0 [] set
  inserted_none set h = record { is = joined_none (inserted_from cols start 1 (map new lists)); keys = h }

  -- what comes of the lists from this one on, by what becomes of it
  abbrev rest : ℕ → List (List Value) → Outcome (List Value) → List A → Result (List (List Value)) Message
  rest i rows o later = joined rows (after_row (i + 1) o (inserted_from cols (with_taken cols (added cols rows start) o) (i + 1 + 1) (map new later)))

  next_list : (i : ℕ) (a : A) (rows : List (List Value)) (set : BTreeSet (List Value)) → i < length lists → a ≡ get_or lists i a → IsInserted i rows set →
      inserted_from cols start 1 (map new lists) ≡ rest i rows (inserted_row cols (added cols rows start) (new a)) (drop (i + 1) lists)
  next_list i a rows set within at h =
      h.is ∙ ap (λ (later : List A). joined rows (inserted_from cols (added cols rows start) (i + 1) (map new later))) (drop_more lists i a within ∙ ap (λ (b : A). b ∷ drop (i + 1) lists) (sym at))

  pub inserted_more : (i : ℕ) (a : A) (rows : List (List Value)) (row : List Value) (old set : BTreeSet (List Value)) → i < length lists → a ≡ get_or lists i a → IsInserted i rows old →
      (inserted_row cols (added cols rows start) (new a) ≡ Taken row) × HasKeys set (key_of cols row ∷ added cols rows start) → IsInserted (i + 1) (rows ++ row ∷ []) set
  inserted_more i a rows row old set within at h taken =
      let more = added_more cols rows row start in
      record {
        is = next_list i a rows old within at h
            ∙ ap (λ (o : Outcome (List Value)). rest i rows o (drop (i + 1) lists)) taken.0
            ∙ joined_more rows row (i + 1) (inserted_from cols (key_of cols row ∷ added cols rows start) (i + 1 + 1) (map new (drop (i + 1) lists)))
            ∙ ap (λ (keys : List (List Value)). joined (rows ++ row ∷ []) (inserted_from cols keys (i + 1 + 1) (map new (drop (i + 1) lists)))) (sym more);
        keys = subst (λ (keys : List (List Value)). HasKeys set keys) (sym more) taken.1;
      }

  pub inserted_refused : (i : ℕ) (a : A) (rows : List (List Value)) (set : BTreeSet (List Value)) (number : ℕ) → i < length lists → a ≡ get_or lists i a → IsInserted i rows set →
      inserted_row cols (added cols rows start) (new a) ≡ Refused number → inserted_from cols start 1 (map new lists) ≡ Err (at_place number (i + 1))
  inserted_refused i a rows set number within at h refused =
      next_list i a rows set within at h ∙ ap (λ (o : Outcome (List Value)). rest i rows o (drop (i + 1) lists)) refused

  pub inserted_all : (rows : List (List Value)) (set : BTreeSet (List Value)) → IsInserted (length lists) rows set → inserted_from cols start 1 (map new lists) ≡ Ok rows
  inserted_all rows set h =
      h.is ∙ ap (λ (later : List A). joined rows (inserted_from cols (added cols rows start) (length lists + 1) (map new later))) (drop_all (length lists) lists (omega arith)) ∙ ap Ok (append-nil rows)

-- The index that tells the slots of keys, as slots are emptied and filled.
use Rattle.std.proofs.Common.{◌≡◌, ◌≢◌, ◌⊎◌, ℕ, ◌+◌, ◌<◌, ◌≤◌, Bool, true, false, cond, inl, inr, List, [], ◌∷◌, refl, ap, sym, ◌∙◌, subst, arith}
use Rattle.std.specs.Prelude.{Option, Some, None}
use Rattle.std.specs.Ordering.{eq_by_cmp}
use Rattle.std.specs.FinMap as finite
use Rattle.std.specs.FinMap.{FinMap, get-insert, get-remove, get-empty}
use Rattle.std.proofs.lemmas.Bool.{cases_lt, cases_eq}
use Rattle.std.proofs.lemmas.Option.{same_Some, none-some}
use Rattle.page_base.specs.declared.column.Column.{Column}
use Rattle.page_base.specs.declared.value.Value.{Value}
use Rattle.page_base.specs.Order.{key_cmp}
use Rattle.page_base.proofs.Ordered.{key_cmp_total}
use Rattle.page_fmt.specs.Edits.{slot_at}
use Rattle.plain_model.specs.Tables.{key_of}
use Rattle.table_pages.specs.Rows.{row_of}
use Rattle.table_pages.specs.Drafts.{IsKeyAt, LacksKey}
use Rattle.table_pages.specs.Drafting.{Index, IsIndex}
use Rattle.table_pages.proofs.CollectLemmas.{ties, itself}
use Rattle.table_pages.proofs.OrderLemmas.{keys_exact}

-- AT A KEY, AND AT ANOTHER

pub different : (q k : List Value) → eq_by_cmp key_cmp q k ≡ false → q ≢ k
different q k e same = let wrong : true ≡ false = sym (itself key_cmp_total k) ∙ ap (λ (r : List Value). eq_by_cmp key_cmp r k) (sym same) ∙ e in cc

pub inserted_at : {X : Type 0} (m : FinMap key_cmp X) (k q : List Value) (v : X) → ((q ≡ k) × (finite.get (finite.insert m k v) q ≡ Some v)) ⊎ ((q ≢ k) × (finite.get (finite.insert m k v) q ≡ finite.get m q))
inserted_at {X = X} m k q v = by (eq_by_cmp key_cmp q k) refl
  where
    by : (b : Bool) → eq_by_cmp key_cmp q k ≡ b → ((q ≡ k) × (finite.get (finite.insert m k v) q ≡ Some v)) ⊎ ((q ≢ k) × (finite.get (finite.insert m k v) q ≡ finite.get m q))
    by true e = inl (ties keys_exact q k e, get-insert key_cmp_total m k v q ∙ ap (λ (b : Bool). cond b (Some v) (finite.get m q)) e)
    by false e = inr (different q k e, get-insert key_cmp_total m k v q ∙ ap (λ (b : Bool). cond b (Some v) (finite.get m q)) e)

pub removed_at : {X : Type 0} (m : FinMap key_cmp X) (k q : List Value) → ((q ≡ k) × (finite.get (finite.remove m k) q ≡ None)) ⊎ ((q ≢ k) × (finite.get (finite.remove m k) q ≡ finite.get m q))
removed_at {X = X} m k q = by (eq_by_cmp key_cmp q k) refl
  where
    by : (b : Bool) → eq_by_cmp key_cmp q k ≡ b → ((q ≡ k) × (finite.get (finite.remove m k) q ≡ None)) ⊎ ((q ≢ k) × (finite.get (finite.remove m k) q ≡ finite.get m q))
    by true e = inl (ties keys_exact q k e, get-remove key_cmp_total m k q ∙ ap (λ (b : Bool). cond b None (finite.get m q)) e)
    by false e = inr (different q k e, get-remove key_cmp_total m k q ∙ ap (λ (b : Bool). cond b None (finite.get m q)) e)

-- THE ROW OF A SLOT

module _ (cols : List Column) where
  -- one slot has one key
  pub same_key : (slots : List (List ℕ)) (q k : List Value) (i : ℕ) → IsKeyAt cols slots q i → IsKeyAt cols slots k i → q ≡ k
  same_key slots q k i a b = sym a.keyed ∙ ap (key_of cols) (same_Some a.row b.row (sym a.is ∙ b.is)) ∙ b.keyed

  -- a slot that stays
  pub key_moved : (slots left : List (List ℕ)) (q : List Value) (i : ℕ) → slot_at left i ≡ slot_at slots i → IsKeyAt cols slots q i → IsKeyAt cols left q i
  key_moved slots left q i same a = record { row = a.row; low = a.low; full = λ f. a.full (sym same ∙ f); is = ap (row_of cols) same ∙ a.is; keyed = a.keyed }

  -- a slot's row, and what its key is
  pub key_here : (slots : List (List ℕ)) (i : ℕ) (row : List Value) → 0 < i → slot_at slots i ≢ [] → row_of cols (slot_at slots i) ≡ Some row → IsKeyAt cols slots (key_of cols row) i
  key_here slots i row low full is = record { row = row; low = low; full = full; is = is; keyed = refl }

  -- AN INDEX IS GATHERED

  -- the slots before slot i are in the index
  pub record Indexed (slots : List (List ℕ)) (index : Index) (i : ℕ) : Type 0 where
    pub found : (key : List Value) (j : ℕ) → finite.get index key ≡ Some j → IsKeyAt cols slots key j
    pub lacks : (key : List Value) (j : ℕ) → finite.get index key ≡ None → j < i → ¬ IsKeyAt cols slots key j

  pub indexed_none : (slots : List (List ℕ)) → Indexed slots finite.empty 1
  indexed_none slots = record {
    found = λ key j e. absurd (none-some j (sym (get-empty key_cmp key) ∙ e));
    lacks = λ key j e lt a. let low = a.low in omega arith;
  }

  pub indexed_empty : (slots : List (List ℕ)) (index : Index) (i : ℕ) → slot_at slots i ≡ [] → Indexed slots index i → Indexed slots index (i + 1)
  indexed_empty slots index i empty so_far = record {
    found = so_far.found;
    lacks = λ key j e lt a. elim (cases_lt j i) [
      | inl low ↦ so_far.lacks key j e low a
      | inr high ↦ let at : j ≡ i = omega arith in a.full (ap (slot_at slots) at ∙ empty)
    ];
  }

  pub indexed_row : (slots : List (List ℕ)) (index : Index) (i : ℕ) (row : List Value) → 0 < i → slot_at slots i ≢ [] → row_of cols (slot_at slots i) ≡ Some row → Indexed slots index i → Indexed slots (finite.insert index (key_of cols row) i) (i + 1)
  indexed_row slots index i row low full is so_far = record {
    found = λ key j e. elim (inserted_at index (key_of cols row) key i) [
      | inl here ↦ let at : i ≡ j = same_Some i j (sym here.1 ∙ e) in subst (IsKeyAt cols slots key) at (subst (λ (k : List Value). IsKeyAt cols slots k i) (sym here.0) (key_here slots i row low full is))
      | inr other ↦ so_far.found key j (sym other.1 ∙ e)
    ];
    lacks = λ key j e lt a. elim (inserted_at index (key_of cols row) key i) [
      | inl here ↦ absurd (none-some i (sym e ∙ here.1))
      | inr other ↦ elim (cases_lt j i) [
        | inl below ↦ so_far.lacks key j (sym other.1 ∙ e) below a
        | inr high ↦
            let at : j ≡ i = omega arith in
            other.0 (same_key slots key (key_of cols row) i (subst (IsKeyAt cols slots key) at a) (key_here slots i row low full is))
      ]
    ];
  }

  pub indexed_all : (slots : List (List ℕ)) (index : Index) (i : ℕ) → ((j : ℕ) → i ≤ j → slot_at slots j ≡ []) → Indexed slots index i → IsIndex cols slots index
  indexed_all slots index i past so_far = record {
    found = so_far.found;
    lacks = λ key e j a. elim (cases_lt j i) [
      | inl low ↦ so_far.lacks key j e low a
      | inr high ↦ a.full (past j high)
    ];
  }

  -- A SLOT IS EMPTIED OR FILLED

  module _ (slots left : List (List ℕ)) (index : Index) (i : ℕ) (others : (j : ℕ) → j ≢ i → slot_at left j ≡ slot_at slots j) (h : IsIndex cols slots index) where
    -- the slot of a key is emptied
    pub index_cut : (key : List Value) → IsKeyAt cols slots key i → ((j : ℕ) → IsKeyAt cols slots key j → j ≡ i) → slot_at left i ≡ [] → IsIndex cols left (finite.remove index key)
    index_cut key here once empty = record {
      found = λ q j e. elim (removed_at index key q) [
        | inl same ↦ absurd (none-some j (sym same.1 ∙ e))
        | inr other ↦
            let a = h.found q j (sym other.1 ∙ e) in
            key_moved slots left q j (others j (λ at. other.0 (same_key slots q key i (subst (IsKeyAt cols slots q) at a) here))) a
      ];
      lacks = λ q e j a. elim (cases_eq j i) [
        | inl at ↦ a.full (ap (slot_at left) at ∙ empty)
        | inr ne ↦
            let b = key_moved left slots q j (sym (others j ne)) a in
            elim (removed_at index key q) [
              | inl same ↦ ne (once j (subst (λ (k : List Value). IsKeyAt cols slots k j) same.0 b))
              | inr other ↦ h.lacks q (sym other.1 ∙ e) j b
            ]
      ];
    }

    -- a slot is filled with a row, whose key no other slot has
    pub index_put : (row : List Value) → 0 < i → slot_at left i ≢ [] → row_of cols (slot_at left i) ≡ Some row → ((q : List Value) → q ≢ key_of cols row → ¬ IsKeyAt cols slots q i) → IsIndex cols left (finite.insert index (key_of cols row) i)
    index_put row low full is free = record {
      found = λ q j e. elim (inserted_at index (key_of cols row) q i) [
        | inl same ↦ let at : i ≡ j = same_Some i j (sym same.1 ∙ e) in subst (IsKeyAt cols left q) at (subst (λ (k : List Value). IsKeyAt cols left k i) (sym same.0) (key_here left i row low full is))
        | inr other ↦
            let a = h.found q j (sym other.1 ∙ e) in
            key_moved slots left q j (others j (λ at. free q other.0 (subst (IsKeyAt cols slots q) at a))) a
      ];
      lacks = λ q e j a. elim (inserted_at index (key_of cols row) q i) [
        | inl same ↦ absurd (none-some i (sym e ∙ same.1))
        | inr other ↦ elim (cases_eq j i) [
          | inl at ↦ other.0 (same_key left q (key_of cols row) i (subst (IsKeyAt cols left q) at a) (key_here left i row low full is))
          | inr ne ↦ h.lacks q (sym other.1 ∙ e) j (key_moved left slots q j (sym (others j ne)) a)
        ]
      ];
    }

-- Where in the list a session's lock on a table stands.
use Rattle.std.proofs.Common.{◌≡◌, ℕ, zero, suc, inl, inr, [], ◌∷◌, ◌++◌, Bool, true, false, cond, get_or, set, refl, ap, sym, subst, ◌∙◌, arith}
use Rattle.std.specs.Prelude.{Option, None, Some, option_map, find}
use Rattle.std.proofs.lemmas.List.{set-get_or}
use Rattle.std.proofs.lemmas.Bool.{cases_Bool}
use Rattle.page_base.specs.declared.numbers.SessNo.{SessNo}
use Rattle.page_base.specs.declared.numbers.TableNo.{TableNo}
use Rattle.page_base.specs.declared.numbers.Mode.{Mode}
use Rattle.lock_book.specs.declared.lock.Lock.{Lock}
use Rattle.lock_book.specs.Locks.{Locks, is_lock, lock_of, with_lock}
use Rattle.lock_book.specs.Modes.{gains}
use Rattle.lock_book.specs.Taking.{after_taking}
use Rattle.lock_book.specs.Inside.{HasNone, IsFirst}

-- what is found is the lock whose mode is asked for
pub lock_of-find : (locks : Locks) (who : SessNo) (table : TableNo) → option_map (λ (lock : Lock). lock.mode) (find (is_lock who table) locks) ≡ lock_of locks who table
lock_of-find [] who table = refl
lock_of-find (lock ∷ locks) who table =
    elim (cases_Bool (is_lock who table lock)) [
      | inl mine ↦ ap (λ (b : Bool). option_map (λ (l : Lock). l.mode) (cond b (Some lock) (find (is_lock who table) locks))) mine ∙ sym (ap (λ (b : Bool). cond b (Some lock.mode) (lock_of locks who table)) mine)
      | inr other ↦ ap (λ (b : Bool). option_map (λ (l : Lock). l.mode) (cond b (Some lock) (find (is_lock who table) locks))) other ∙ lock_of-find locks who table ∙ sym (ap (λ (b : Bool). cond b (Some lock.mode) (lock_of locks who table)) other)
    ]

-- what the first lock at a place says of the book, and what a new mode makes of the list
record IsPlace (locks : Locks) (who : SessNo) (table : TableNo) (i : ℕ) : Type 0 where
  mode : (d : Lock) → lock_of locks who table ≡ Some (get_or locks i d).mode
  set : (d : Lock) (mode : Mode) → with_lock locks who table mode ≡ set locks i (record (get_or locks i d) { mode = mode })

IsPlace-first : (locks : Locks) (who : SessNo) (table : TableNo) (i : ℕ) → IsFirst locks who table i → IsPlace locks who table i
IsPlace-first [] who table i first = absurd (omega (arith, first.within))
IsPlace-first (lock ∷ locks) who table zero first =
    record {
      mode = λ d. ap (λ (b : Bool). cond b (Some lock.mode) (lock_of locks who table)) (first.here lock);
      set = λ d mode. ap (λ (b : Bool). cond b (record lock { mode = mode } ∷ locks) (lock ∷ with_lock locks who table mode)) (first.here lock);
    }
IsPlace-first (lock ∷ locks) who table (suc i) first =
    let other = first.before lock 0 (omega arith) in
    let later = IsPlace-first locks who table i (record { within = omega (arith, first.within); here = first.here; before = λ d k lt. first.before d (suc k) (omega arith) }) in
    record {
      mode = λ d. ap (λ (b : Bool). cond b (Some lock.mode) (lock_of locks who table)) other ∙ later.mode d;
      set = λ d mode. ap (λ (b : Bool). cond b (record lock { mode = mode } ∷ locks) (lock ∷ with_lock locks who table mode)) other ∙ ap (λ (ls : Locks). lock ∷ ls) (later.set d mode);
    }

-- where there is no such lock, and what a new one makes of the list
record IsPlaceless (locks : Locks) (who : SessNo) (table : TableNo) : Type 0 where
  mode : lock_of locks who table ≡ None
  push : (mode : Mode) → with_lock locks who table mode ≡ locks ++ record { who = who; table = table; mode = mode } ∷ []

IsPlaceless-none : (locks : Locks) (who : SessNo) (table : TableNo) → HasNone locks who table → IsPlaceless locks who table
IsPlaceless-none [] who table none = record { mode = refl; push = λ mode. refl }
IsPlaceless-none (lock ∷ locks) who table none =
    let other = none lock 0 (omega arith) in
    let later = IsPlaceless-none locks who table (λ d k lt. none d (suc k) (omega arith)) in
    record {
      mode = ap (λ (b : Bool). cond b (Some lock.mode) (lock_of locks who table)) other ∙ later.mode;
      push = λ mode. ap (λ (b : Bool). cond b (record lock { mode = mode } ∷ locks) (lock ∷ with_lock locks who table mode)) other ∙ ap (λ (ls : Locks). lock ∷ ls) (later.push mode);
    }

-- a session without a lock on the table gains any mode
module _ (seen locks : Locks) (who : SessNo) (table : TableNo) (mode : Mode) (same : seen ≡ locks) (none : HasNone seen who table) where
  placeless : IsPlaceless locks who table
  placeless = IsPlaceless-none locks who table (subst (λ (v : Locks). HasNone v who table) same none)

  pub gained_new : true ≡ gains (lock_of locks who table) mode
  gained_new = sym (ap (λ (o : Option Mode). gains o mode) placeless.mode)

  pub given_new : locks ++ record { who = who; table = table; mode = mode } ∷ [] ≡ after_taking locks who table mode
  given_new = sym (placeless.push mode) ∙ ap (λ (b : Bool). cond b (with_lock locks who table mode) locks) gained_new

-- a session whose lock on the table stands at a place
module _ (seen locks : Locks) (who : SessNo) (table : TableNo) (mode : Mode) (i : ℕ) (same : seen ≡ locks) (first : IsFirst seen who table i) (lock : Lock) (at : lock ≡ get_or locks i lock) where
  place : IsPlace locks who table i
  place = IsPlace-first locks who table i (subst (λ (v : Locks). IsFirst v who table i) same first)

  pub gained_at : gains (Some lock.mode) mode ≡ gains (lock_of locks who table) mode
  gained_at = sym (ap (λ (o : Option Mode). gains o mode) (place.mode lock ∙ ap (λ (l : Lock). Some l.mode) (sym at)))

  pub raised_at : gains (Some lock.mode) mode ≡ true → set locks i (record lock { mode = mode }) ≡ after_taking locks who table mode
  raised_at gained =
      ap (λ (l : Lock). set locks i (record l { mode = mode })) at ∙ sym (place.set lock mode)
      ∙ sym (ap (λ (b : Bool). cond b (with_lock locks who table mode) locks) (sym gained_at ∙ gained))

  pub kept_at : gains (Some lock.mode) mode ≡ false → set locks i lock ≡ after_taking locks who table mode
  kept_at kept =
      ap (set locks i) at ∙ set-get_or locks i lock ∙ sym (ap (λ (b : Bool). cond b (with_lock locks who table mode) locks) (sym gained_at ∙ kept))

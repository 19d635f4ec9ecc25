-- What a taking answers, from what the search for a conflict found.
use Rattle.std.proofs.Common.{◌≡◌, ◌≢◌, ℕ, Bool, min, sym, ap, subst, ◌∙◌}
use Rattle.std.specs.Prelude.{None, Some, Result, Ok, Err, OnOk, OnErr, IfErr}
use Rattle.std.specs.List.{reduce}
use Rattle.page_base.specs.declared.numbers.SessNo.{SessNo}
use Rattle.page_base.specs.declared.numbers.TableNo.{TableNo}
use Rattle.page_base.specs.declared.numbers.Mode.{Mode}
use Rattle.lock_book.specs.declared.lock.LockRefusal.{LockRefusal}
use Rattle.lock_book.specs.declared.lock.LockRefusal.TheVariants.{Memory}
use Rattle.lock_book.specs.Locks.{Locks, Holds, IsLockBook, IsOnce, lock_of}
use Rattle.lock_book.specs.Taking.{after_taking, stronger, IsFree, IsLowestInTheWay, Refuses}
use Rattle.lock_book.specs.Inside.{blockers}
use Rattle.lock_book.proofs.LockLemmas.{Holds-after_taking, IsLockBook-after_taking, lock_of-after_taking}
use Rattle.lock_book.proofs.Blockers.{nobody, lowest}

module _ (seen locks : Locks) (who : SessNo) (table : TableNo) (mode : Mode) (same : seen ≡ locks) where
  -- no lock blocks
  pub free_found : None ≡ reduce min (blockers who table mode seen) → IsFree locks who table mode
  free_found none = subst (λ (v : Locks). IsFree v who table mode) same (nobody who table mode seen (sym none))

  -- the least number of a lock that blocks
  pub lowest_found : (k : ℕ) → IsOnce seen → Some k ≡ reduce min (blockers who table mode seen) → IsLowestInTheWay locks who table mode (record { 0 = k })
  lowest_found k once some = subst (λ (v : Locks). IsLowestInTheWay v who table mode (record { 0 = k })) same (lowest who table mode seen (record { 0 = k }) once (sym some))

module _ (locks : Locks) (who : SessNo) (table : TableNo) (mode : Mode) (free : IsFree locks who table mode) where
  pub free_on_ok : (result : Result Bool LockRefusal) → OnOk result (IsFree locks who table mode)
  free_on_ok (Ok gained) = free
  free_on_ok (Err refusal) = tt

  pub refused_for_memory : (result : Result Bool LockRefusal) → IfErr result (λ refusal. refusal ≡ Memory) → IfErr result (Refuses locks who table mode)
  refused_for_memory (Ok gained) h = tt
  refused_for_memory (Err refusal) h = subst (Refuses locks who table mode) (sym h) free

-- the list is a book still, whatever the answer
pub book_left : (locks new : Locks) (who : SessNo) (table : TableNo) (mode : Mode) (result : Result Bool LockRefusal) → IsFree locks who table mode → IsLockBook locks → OnOk result (new ≡ after_taking locks who table mode) → OnErr result (new ≡ locks) → IsLockBook new
book_left locks new who table mode (Ok gained) free book given kept = subst IsLockBook (sym given) (IsLockBook-after_taking locks who table mode book free)
book_left locks new who table mode (Err refusal) free book given kept = subst IsLockBook (sym kept) book

-- what the others hold is as before, whatever the answer
pub others_left : (locks new : Locks) (who : SessNo) (table : TableNo) (mode : Mode) (result : Result Bool LockRefusal) → OnOk result (new ≡ after_taking locks who table mode) → OnErr result (new ≡ locks) → (k : SessNo) (at : TableNo) → k ≢ who → lock_of new k at ≡ lock_of locks k at
others_left locks new who table mode (Ok gained) given kept k at ne = ap (λ (v : Locks). lock_of v k at) given ∙ lock_of-after_taking locks who k table at mode (λ e same. ne (sym e))
others_left locks new who table mode (Err refusal) given kept k at ne = ap (λ (v : Locks). lock_of v k at) kept

-- all other locks are as before, the session's own too
pub rest_left : (locks new : Locks) (who : SessNo) (table : TableNo) (mode : Mode) (result : Result Bool LockRefusal) → OnOk result (new ≡ after_taking locks who table mode) → OnErr result (new ≡ locks) → (k : SessNo) (at : TableNo) → (k ≡ who → at ≡ table → ⊥) → lock_of new k at ≡ lock_of locks k at
rest_left locks new who table mode (Ok gained) given kept k at ne = ap (λ (v : Locks). lock_of v k at) given ∙ lock_of-after_taking locks who k table at mode (λ e same. ne (sym e) (sym same))
rest_left locks new who table mode (Err refusal) given kept k at ne = ap (λ (v : Locks). lock_of v k at) kept

-- what the session holds once it was given the lock
pub holds_on_ok : (locks new : Locks) (who : SessNo) (table : TableNo) (mode : Mode) (result : Result Bool LockRefusal) → OnOk result (new ≡ after_taking locks who table mode) → OnOk result (Holds new who table (stronger (lock_of locks who table) mode))
holds_on_ok locks new who table mode (Ok gained) given = ap (λ (v : Locks). lock_of v who table) given ∙ Holds-after_taking locks who table mode
holds_on_ok locks new who table mode (Err refusal) given = tt

-- The least number among the locks that block is that of the lowest session in the way.
use Rattle.std.proofs.Common.{◌≡◌, ◌≢◌, ℕ, ◌≤◌, ◌⊎◌, inl, inr, List, [], ◌∷◌, Bool, true, cond, not, ◌&&◌, ◌==◌, min, map, fold, refl, ap, sym, subst, ◌∙◌, arith, eq-eqb, eqb-true}
use Rattle.std.specs.Prelude.{None, Some, filter}
use Rattle.std.specs.List.{reduce}
use Rattle.std.proofs.lemmas.Bool.{ne_eqb, and_parts, cases_lt, cases_Bool}
use Rattle.std.proofs.lemmas.Option.{none-some, same_Some}
use Rattle.page_base.specs.declared.numbers.SessNo.{SessNo}
use Rattle.page_base.specs.declared.numbers.TableNo.{TableNo}
use Rattle.page_base.specs.declared.numbers.Mode.{Mode}
use Rattle.lock_book.specs.declared.lock.Lock.{Lock}
use Rattle.lock_book.specs.Modes.{conflicts}
use Rattle.lock_book.specs.Locks.{Locks, IsOnce, Holds, is_lock, lock_of}
use Rattle.lock_book.specs.Taking.{IsFree, IsInTheWay, IsLowestInTheWay}
use Rattle.lock_book.specs.Inside.{blocks, blockers}
use Rattle.lock_book.proofs.LockLemmas.{apart_by, is_lock-same, is_lock-true}

-- n is one of the numbers
abbrev Among : ℕ → List ℕ → Type 0
Among n [] = ⊥
Among n (m ∷ ms) = (m ≡ n) ⊎ Among n ms

record IsLeast (n : ℕ) (ms : List ℕ) : Type 0 where
  there : Among n ms
  least : (m : ℕ) → Among m ms → n ≤ m

-- the least of a number and those after it
fold_least : (m : ℕ) (ms : List ℕ) → IsLeast (fold min m ms) (m ∷ ms)
fold_least m [] = record { there = inl refl; least = λ k h. elim h [ inl e ↦ omega arith | inr none ↦ absurd none ] }
fold_least m (k ∷ ms) =
    let rest = fold_least (min m k) ms in
    record {
      there = elim rest.there [
        | inl e ↦ which m k (fold min (min m k) ms) e
        | inr later ↦ inr (inr later)
      ];
      least = λ j h. elim h [
        | inl e ↦ let le = rest.least (min m k) (inl refl) in omega arith
        | inr more ↦ elim more [
          | inl e ↦ let le = rest.least (min m k) (inl refl) in omega arith
          | inr later ↦ rest.least j (inr later)
        ]
      ];
    }
  where
    which : (m k n : ℕ) → min m k ≡ n → Among n (m ∷ k ∷ ms)
    which m k n e = elim (cases_lt m k) [
      | inl lt ↦ inl (omega arith)
      | inr ge ↦ inr (inl (omega arith))
    ]

reduce_least : (ms : List ℕ) (n : ℕ) → reduce min ms ≡ Some n → IsLeast n ms
reduce_least [] n h = absurd (none-some n h)
reduce_least (m ∷ ms) n h = subst (λ (k : ℕ). IsLeast k (m ∷ ms)) (same_Some (fold min m ms) n h) (fold_least m ms)

reduce_none : (ms : List ℕ) → reduce min ms ≡ None → (n : ℕ) → Among n ms → ⊥
reduce_none [] h n among = among
reduce_none (m ∷ ms) h n among = none-some (fold min m ms) (sym h)

module _ (who : SessNo) (table : TableNo) (mode : Mode) where
  abbrev among_blockers : Bool → SessNo → Lock → Locks → Type 0
  among_blockers b k lock locks = Among k.0 (map (λ (l : Lock). l.who.0) (cond b (lock ∷ filter (blocks who table mode) locks) (filter (blocks who table mode) locks)))

  -- what a lock that blocks is
  parts : (lock : Lock) → blocks who table mode lock ≡ true → (lock.who ≢ who) × (lock.table ≡ table) × (conflicts lock.mode mode ≡ true)
  parts lock h =
      let all = and_parts (not (lock.who.0 == who.0) && lock.table.0 == table.0) (conflicts lock.mode mode) h in
      let first = and_parts (not (lock.who.0 == who.0)) (lock.table.0 == table.0) all.0 in
      let t = eqb-true lock.table.0 table.0 first.1 in
      ((λ e. apart_by (not (lock.who.0 == who.0)) first.0 (ap not (eq-eqb lock.who.0 who.0 (ap (λ (s : SessNo). s.0) e)))), (λ i. record { 0 = t i }), all.1)

  -- a lock of another session on this table that conflicts blocks
  blocking : (lock : Lock) → lock.who ≢ who → lock.table ≡ table → conflicts lock.mode mode ≡ true → blocks who table mode lock ≡ true
  blocking lock ne t clash =
      ap (λ (b : Bool). not b && lock.table.0 == table.0 && conflicts lock.mode mode) (ne_eqb lock.who.0 who.0 (λ e. ne (λ i. record { 0 = e i })))
      ∙ ap (λ (b : Bool). b && conflicts lock.mode mode) (eq-eqb lock.table.0 table.0 (ap (λ (s : TableNo). s.0) t))
      ∙ clash

  -- what is in the way among the later locks is so among all: a session has one lock at most on a table
  more : (lock : Lock) (locks : Locks) (k : SessNo) → IsOnce (lock ∷ locks) → IsInTheWay locks who table mode k → IsInTheWay (lock ∷ locks) who table mode k
  more lock locks k once h =
      record {
        other = h.other;
        held = h.held;
        holds = elim (cases_Bool (is_lock k table lock)) [
          | inl mine ↦
              let of = is_lock-true k table lock mine in
              absurd (none-some h.held (sym once.0 ∙ ap (λ (s : SessNo). lock_of locks s lock.table) of.0 ∙ ap (lock_of locks k) of.1 ∙ h.holds))
          | inr other ↦ ap (λ (b : Bool). cond b (Some lock.mode) (lock_of locks k table)) other ∙ h.holds
        ];
        conflict = h.conflict;
      }

  -- a number among the blockers is that of a session in the way
  from_blocker : (locks : Locks) (k : SessNo) → IsOnce locks → Among k.0 (blockers who table mode locks) → IsInTheWay locks who table mode k
  from_blocker [] k once among = absurd among
  from_blocker (lock ∷ locks) k once among =
      elim (cases_Bool (blocks who table mode lock)) [
        | inl blocks_it ↦ elim (subst (λ (b : Bool). among_blockers b k lock locks) blocks_it among) [
          | inl e ↦
              let of = parts lock blocks_it in
              let is : lock.who ≡ k = λ i. record { 0 = e i } in
              record {
                other = λ same. of.0 (is ∙ same);
                held = lock.mode;
                holds = ap (λ (b : Bool). cond b (Some lock.mode) (lock_of locks k table)) (is_lock-same k table lock is of.1);
                conflict = of.2;
              }
          | inr later ↦ more lock locks k once (from_blocker locks k once.1 later)
        ]
        | inr passes ↦ more lock locks k once (from_blocker locks k once.1 (subst (λ (b : Bool). among_blockers b k lock locks) passes among))
      ]

  -- a session in the way is among the blockers
  to_blocker : (locks : Locks) (k : SessNo) (held : Mode) → k ≢ who → Holds locks k table held → conflicts held mode ≡ true → Among k.0 (blockers who table mode locks)
  to_blocker [] k held ne holds clash = absurd (none-some held holds)
  to_blocker (lock ∷ locks) k held ne holds clash =
      elim (cases_Bool (is_lock k table lock)) [
        | inl mine ↦
            let of = is_lock-true k table lock mine in
            let is : lock.mode ≡ held = same_Some lock.mode held (sym (ap (λ (b : Bool). cond b (Some lock.mode) (lock_of locks k table)) mine) ∙ holds) in
            let stops = blocking lock (λ e. ne (sym of.0 ∙ e)) of.1 (ap (λ (m : Mode). conflicts m mode) is ∙ clash) in
            subst (λ (b : Bool). among_blockers b k lock locks) (sym stops) (inl (ap (λ (s : SessNo). s.0) of.0))
        | inr other ↦
            let later = to_blocker locks k held ne (sym (ap (λ (b : Bool). cond b (Some lock.mode) (lock_of locks k table)) other) ∙ holds) clash in
            elim (cases_Bool (blocks who table mode lock)) [
              | inl stops ↦ subst (λ (b : Bool). among_blockers b k lock locks) (sym stops) (inr later)
              | inr passes ↦ subst (λ (b : Bool). among_blockers b k lock locks) (sym passes) later
            ]
      ]

  pub nobody : (locks : Locks) → reduce min (blockers who table mode locks) ≡ None → IsFree locks who table mode
  nobody locks none k h = reduce_none (blockers who table mode locks) none k.0 (to_blocker locks k h.held h.other h.holds h.conflict)

  pub lowest : (locks : Locks) (k : SessNo) → IsOnce locks → reduce min (blockers who table mode locks) ≡ Some k.0 → IsLowestInTheWay locks who table mode k
  lowest locks k once some =
      let least = reduce_least (blockers who table mode locks) k.0 some in
      record {
        there = from_blocker locks k once least.there;
        lowest = λ j below h. let le = least.least j.0 (to_blocker locks j h.held h.other h.holds h.conflict) in absurd (omega arith);
      }

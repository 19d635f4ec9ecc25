-- Who holds what after a lock is taken or freed, and that the book stays one.
use Rattle.std.proofs.Common.{◌≡◌, ◌≢◌, ◌⊎◌, inl, inr, [], ◌∷◌, Bool, true, false, cond, not, ◌&&◌, ◌==◌, refl, ap, sym, subst, ◌∙◌, arith, eq-eqb, eqb-true}
use Rattle.std.specs.Prelude.{Option, None, Some}
use Rattle.std.proofs.lemmas.Bool.{cases_eq, cases_lt, ne_eqb, and_parts, cases_Bool}
use Rattle.std.proofs.lemmas.Option.{none-some, same_Some}
use Rattle.page_base.specs.declared.numbers.SessNo.{SessNo}
use Rattle.page_base.specs.declared.numbers.TableNo.{TableNo}
use Rattle.page_base.specs.declared.numbers.Mode.{Mode}
use Rattle.page_base.specs.declared.numbers.Mode.TheVariants.{S, X}
use Rattle.lock_book.specs.declared.lock.Lock.{Lock}
use Rattle.lock_book.specs.Modes.{conflicts, gains}
use Rattle.lock_book.specs.Locks.{Locks, IsLockBook, IsOnce, Holds, is_lock, lock_of, with_lock, without_locks, without_lock}
use Rattle.lock_book.specs.Taking.{IsFree, IsLowestInTheWay, after_taking, stronger}

-- two sessions are one or two
pub cases_session : (j k : SessNo) → (j ≡ k) ⊎ (j ≢ k)
cases_session j k =
    elim (cases_eq j.0 k.0) [
      | inl e ↦ inl (λ i. record { 0 = e i })
      | inr ne ↦ inr (λ same. ne (ap (λ (s : SessNo). s.0) same))
    ]

pub cases_table : (a b : TableNo) → (a ≡ b) ⊎ (a ≢ b)
cases_table a b =
    elim (cases_eq a.0 b.0) [
      | inl e ↦ inl (λ i. record { 0 = e i })
      | inr ne ↦ inr (λ same. ne (ap (λ (s : TableNo). s.0) same))
    ]

pub apart_by : (b : Bool) → b ≡ true → b ≡ false → ⊥
apart_by b t f = let e : true ≡ false = sym t ∙ f in cc

pub is_lock-same : (who : SessNo) (table : TableNo) (lock : Lock) → lock.who ≡ who → lock.table ≡ table → is_lock who table lock ≡ true
is_lock-same who table lock a b =
    ap (λ (t : Bool). t && lock.table.0 == table.0) (eq-eqb lock.who.0 who.0 (ap (λ (s : SessNo). s.0) a)) ∙ eq-eqb lock.table.0 table.0 (ap (λ (s : TableNo). s.0) b)

-- whose lock it is
pub is_lock-true : (who : SessNo) (table : TableNo) (lock : Lock) → is_lock who table lock ≡ true → (lock.who ≡ who) × (lock.table ≡ table)
is_lock-true who table lock h =
    let parts = and_parts (lock.who.0 == who.0) (lock.table.0 == table.0) h in
    let w = eqb-true lock.who.0 who.0 parts.0 in
    let t = eqb-true lock.table.0 table.0 parts.1 in
    ((λ i. record { 0 = w i }), (λ i. record { 0 = t i }))

-- a lock is of one session and one table
pub is_lock-other : (j k : SessNo) (a b : TableNo) (lock : Lock) → is_lock j a lock ≡ true → ((j ≡ k) → (a ≡ b) → ⊥) → is_lock k b lock ≡ false
is_lock-other j k a b lock h ne =
    elim (cases_Bool (is_lock k b lock)) [
      | inl yes_it_is ↦ let mine = is_lock-true j a lock h in let other = is_lock-true k b lock yes_it_is in absurd (ne (sym mine.0 ∙ other.0) (sym mine.1 ∙ other.1))
      | inr isnt ↦ isnt
    ]

-- who was given a lock holds it
pub Holds-with_lock : (locks : Locks) (who : SessNo) (table : TableNo) (mode : Mode) → Holds (with_lock locks who table mode) who table mode
Holds-with_lock [] who table mode = ap (λ (b : Bool). cond b (Some mode) None) (is_lock-same who table (record { who = who; table = table; mode = mode }) refl refl)
Holds-with_lock (lock ∷ locks) who table mode =
    elim (cases_Bool (is_lock who table lock)) [
      | inl mine ↦
          ap (λ (b : Bool). lock_of (cond b (record lock { mode = mode } ∷ locks) (lock ∷ with_lock locks who table mode)) who table) mine
          ∙ ap (λ (b : Bool). cond b (Some mode) (lock_of locks who table)) mine
      | inr other ↦
          ap (λ (b : Bool). lock_of (cond b (record lock { mode = mode } ∷ locks) (lock ∷ with_lock locks who table mode)) who table) other
          ∙ ap (λ (b : Bool). cond b (Some lock.mode) (lock_of (with_lock locks who table mode) who table)) other
          ∙ Holds-with_lock locks who table mode
    ]

-- all other locks are as before
pub lock_of-with_lock : (locks : Locks) (who k : SessNo) (table at : TableNo) (mode : Mode) → (who ≡ k → table ≡ at → ⊥) → lock_of (with_lock locks who table mode) k at ≡ lock_of locks k at
lock_of-with_lock [] who k table at mode ne = ap (λ (b : Bool). cond b (Some mode) None) (is_lock-other who k table at (record { who = who; table = table; mode = mode }) (is_lock-same who table (record { who = who; table = table; mode = mode }) refl refl) ne)
lock_of-with_lock (lock ∷ locks) who k table at mode ne =
    elim (cases_Bool (is_lock who table lock)) [
      | inl mine ↦
          let isnt = is_lock-other who k table at lock mine ne in
          ap (λ (b : Bool). lock_of (cond b (record lock { mode = mode } ∷ locks) (lock ∷ with_lock locks who table mode)) k at) mine
          ∙ ap (λ (b : Bool). cond b (Some mode) (lock_of locks k at)) isnt
          ∙ sym (ap (λ (b : Bool). cond b (Some lock.mode) (lock_of locks k at)) isnt)
      | inr other ↦
          ap (λ (b : Bool). lock_of (cond b (record lock { mode = mode } ∷ locks) (lock ∷ with_lock locks who table mode)) k at) other
          ∙ ap (cond (is_lock k at lock) (Some lock.mode)) (lock_of-with_lock locks who k table at mode ne)
    ]

-- a session that was freed holds nothing
pub lock_of-without_locks_same : (locks : Locks) (who : SessNo) (at : TableNo) → lock_of (without_locks locks who) who at ≡ None
lock_of-without_locks_same [] who at = refl
lock_of-without_locks_same (lock ∷ locks) who at =
    elim (cases_Bool (lock.who.0 == who.0)) [
      | inl mine ↦
          ap (λ (b : Bool). lock_of (cond (not b) (lock ∷ without_locks locks who) (without_locks locks who)) who at) mine
          ∙ lock_of-without_locks_same locks who at
      | inr other ↦
          ap (λ (b : Bool). lock_of (cond (not b) (lock ∷ without_locks locks who) (without_locks locks who)) who at) other
          ∙ ap (λ (b : Bool). cond (b && lock.table.0 == at.0) (Some lock.mode) (lock_of (without_locks locks who) who at)) other
          ∙ lock_of-without_locks_same locks who at
    ]

-- what the others hold is as before
pub lock_of-without_locks : (locks : Locks) (who k : SessNo) (at : TableNo) → k ≢ who → lock_of (without_locks locks who) k at ≡ lock_of locks k at
lock_of-without_locks [] who k at ne = refl
lock_of-without_locks (lock ∷ locks) who k at ne =
    elim (cases_Bool (lock.who.0 == who.0)) [
      | inl mine ↦
          let w = eqb-true lock.who.0 who.0 mine in
          let isnt : lock.who.0 ≢ k.0 = λ e. ne (λ i. record { 0 = (sym e ∙ w) i }) in
          ap (λ (b : Bool). lock_of (cond (not b) (lock ∷ without_locks locks who) (without_locks locks who)) k at) mine
          ∙ lock_of-without_locks locks who k at ne
          ∙ sym (ap (λ (b : Bool). cond (b && lock.table.0 == at.0) (Some lock.mode) (lock_of locks k at)) (ne_eqb lock.who.0 k.0 isnt))
      | inr other ↦
          ap (λ (b : Bool). lock_of (cond (not b) (lock ∷ without_locks locks who) (without_locks locks who)) k at) other
          ∙ ap (cond (is_lock k at lock) (Some lock.mode)) (lock_of-without_locks locks who k at ne)
    ]

-- a table that a session let go of it doesn't hold
pub lock_of-without_lock_same : (locks : Locks) (who : SessNo) (table : TableNo) → lock_of (without_lock locks who table) who table ≡ None
lock_of-without_lock_same [] who table = refl
lock_of-without_lock_same (lock ∷ locks) who table =
    elim (cases_Bool (is_lock who table lock)) [
      | inl mine ↦
          ap (λ (b : Bool). lock_of (cond (not b) (lock ∷ without_lock locks who table) (without_lock locks who table)) who table) mine
          ∙ lock_of-without_lock_same locks who table
      | inr other ↦
          ap (λ (b : Bool). lock_of (cond (not b) (lock ∷ without_lock locks who table) (without_lock locks who table)) who table) other
          ∙ ap (λ (b : Bool). cond b (Some lock.mode) (lock_of (without_lock locks who table) who table)) other
          ∙ lock_of-without_lock_same locks who table
    ]

-- all other locks are as before
pub lock_of-without_lock : (locks : Locks) (who k : SessNo) (table at : TableNo) → (k ≡ who → at ≡ table → ⊥) → lock_of (without_lock locks who table) k at ≡ lock_of locks k at
lock_of-without_lock [] who k table at ne = refl
lock_of-without_lock (lock ∷ locks) who k table at ne =
    elim (cases_Bool (is_lock who table lock)) [
      | inl mine ↦
          let isnt = is_lock-other who k table at lock mine (λ e same. ne (sym e) (sym same)) in
          ap (λ (b : Bool). lock_of (cond (not b) (lock ∷ without_lock locks who table) (without_lock locks who table)) k at) mine
          ∙ lock_of-without_lock locks who k table at ne
          ∙ sym (ap (λ (b : Bool). cond b (Some lock.mode) (lock_of locks k at)) isnt)
      | inr other ↦
          ap (λ (b : Bool). lock_of (cond (not b) (lock ∷ without_lock locks who table) (without_lock locks who table)) k at) other
          ∙ ap (cond (is_lock k at lock) (Some lock.mode)) (lock_of-without_lock locks who k table at ne)
    ]

-- a session that was given a lock holds the stronger of its modes
pub Holds-after_taking : (locks : Locks) (who : SessNo) (table : TableNo) (mode : Mode) → Holds (after_taking locks who table mode) who table (stronger (lock_of locks who table) mode)
Holds-after_taking locks who table mode = by_mode (lock_of locks who table) mode refl
  where
    kept : (o : Option Mode) → lock_of locks who table ≡ o → lock_of (cond false (with_lock locks who table mode) locks) who table ≡ o
    kept o is = is

    by_mode : (o : Option Mode) (wanted : Mode) → lock_of locks who table ≡ o → lock_of (cond (gains o wanted) (with_lock locks who table wanted) locks) who table ≡ Some (stronger o wanted)
    by_mode None wanted is = Holds-with_lock locks who table wanted
    by_mode (Some S) S is = kept (Some S) is
    by_mode (Some S) X is = Holds-with_lock locks who table X
    by_mode (Some X) wanted is = kept (Some X) is

-- all other locks are as before
pub lock_of-after_taking : (locks : Locks) (who k : SessNo) (table at : TableNo) (mode : Mode) → (who ≡ k → table ≡ at → ⊥) → lock_of (after_taking locks who table mode) k at ≡ lock_of locks k at
lock_of-after_taking locks who k table at mode ne =
    elim (cases_Bool (gains (lock_of locks who table) mode)) [
      | inl gained ↦ ap (λ (b : Bool). lock_of (cond b (with_lock locks who table mode) locks) k at) gained ∙ lock_of-with_lock locks who k table at mode ne
      | inr same ↦ ap (λ (b : Bool). lock_of (cond b (with_lock locks who table mode) locks) k at) same
    ]

once-with_lock : (locks : Locks) (who : SessNo) (table : TableNo) (mode : Mode) → IsOnce locks → IsOnce (with_lock locks who table mode)
once-with_lock [] who table mode h = (refl, tt)
once-with_lock (lock ∷ locks) who table mode h =
    elim (cases_Bool (is_lock who table lock)) [
      | inl mine ↦ subst (λ (b : Bool). IsOnce (cond b (record lock { mode = mode } ∷ locks) (lock ∷ with_lock locks who table mode))) (sym mine) h
      | inr other ↦ subst (λ (b : Bool). IsOnce (cond b (record lock { mode = mode } ∷ locks) (lock ∷ with_lock locks who table mode))) (sym other)
          (lock_of-with_lock locks who lock.who table lock.table mode (λ a b. apart_by (is_lock who table lock) (is_lock-same who table lock (sym a) (sym b)) other) ∙ h.0, once-with_lock locks who table mode h.1)
    ]

once-without_locks : (locks : Locks) (who : SessNo) → IsOnce locks → IsOnce (without_locks locks who)
once-without_locks [] who h = tt
once-without_locks (lock ∷ locks) who h =
    elim (cases_Bool (lock.who.0 == who.0)) [
      | inl mine ↦ subst (λ (b : Bool). IsOnce (cond (not b) (lock ∷ without_locks locks who) (without_locks locks who))) (sym mine) (once-without_locks locks who h.1)
      | inr other ↦
          let isnt : lock.who ≢ who = λ e. apart_by (lock.who.0 == who.0) (eq-eqb lock.who.0 who.0 (ap (λ (s : SessNo). s.0) e)) other in
          subst (λ (b : Bool). IsOnce (cond (not b) (lock ∷ without_locks locks who) (without_locks locks who))) (sym other)
          (lock_of-without_locks locks who lock.who lock.table isnt ∙ h.0, once-without_locks locks who h.1)
    ]

once-without_lock : (locks : Locks) (who : SessNo) (table : TableNo) → IsOnce locks → IsOnce (without_lock locks who table)
once-without_lock [] who table h = tt
once-without_lock (lock ∷ locks) who table h =
    elim (cases_Bool (is_lock who table lock)) [
      | inl mine ↦ subst (λ (b : Bool). IsOnce (cond (not b) (lock ∷ without_lock locks who table) (without_lock locks who table))) (sym mine) (once-without_lock locks who table h.1)
      | inr other ↦
          let isnt : lock.who ≡ who → lock.table ≡ table → ⊥ = λ e same. apart_by (is_lock who table lock) (is_lock-same who table lock e same) other in
          subst (λ (b : Bool). IsOnce (cond (not b) (lock ∷ without_lock locks who table) (without_lock locks who table))) (sym other)
          (lock_of-without_lock locks who lock.who table lock.table isnt ∙ h.0, once-without_lock locks who table h.1)
    ]

x_conflicts : (held : Mode) → conflicts X held ≡ true
x_conflicts S = refl
x_conflicts X = refl

conflicts_x : (held : Mode) → conflicts held X ≡ true
conflicts_x S = refl
conflicts_x X = refl

-- who holds a table in X afterwards is alone, since nobody was in the way
module _ (locks : Locks) (who : SessNo) (table : TableNo) (mode : Mode) (book : IsLockBook locks) (free : IsFree locks who table mode) where
  -- what another session holds it held before
  before : (k : SessNo) (at : TableNo) (held : Mode) → k ≢ who → Holds (with_lock locks who table mode) k at held → Holds locks k at held
  before k at held ne h = sym (lock_of-with_lock locks who k table at mode (λ e same. ne (sym e))) ∙ h

  -- what the session holds of another table it held before
  elsewhere : (at : TableNo) (held : Mode) → at ≢ table → Holds (with_lock locks who table mode) who at held → Holds locks who at held
  elsewhere at held ne h = sym (lock_of-with_lock locks who who table at mode (λ e same. ne (sym same))) ∙ h

  given : (held : Mode) → Holds (with_lock locks who table mode) who table held → mode ≡ held
  given held h = same_Some mode held (sym (Holds-with_lock locks who table mode) ∙ h)

  -- another session on a table that the session holds in X, or that it would hold beside X
  one_x : (k : SessNo) (at : TableNo) (a b : Mode) → k ≢ who → Holds (with_lock locks who table mode) who at a → Holds (with_lock locks who table mode) k at b → ((a ≡ X) ⊎ (b ≡ X)) → ⊥
  one_x k at a b ne own theirs x =
      elim (cases_table at table) [
        | inl same ↦
            let is_mode = given a (subst (λ (t : TableNo). Holds (with_lock locks who table mode) who t a) same own) in
            free k (record { other = ne; held = b; holds = subst (λ (t : TableNo). Holds locks k t b) same (before k at b ne theirs); conflict = clash a b is_mode x })
        | inr other ↦ ne (together (elsewhere at a other own) (before k at b ne theirs) x)
      ]
    where
      clash : (a b : Mode) → mode ≡ a → ((a ≡ X) ⊎ (b ≡ X)) → conflicts b mode ≡ true
      clash a b is_mode (inl x) = ap (conflicts b) (is_mode ∙ x) ∙ conflicts_x b
      clash a b is_mode (inr x) = ap (λ (m : Mode). conflicts m mode) x ∙ x_conflicts mode

      together : Holds locks who at a → Holds locks k at b → ((a ≡ X) ⊎ (b ≡ X)) → k ≡ who
      together own theirs (inl x) = sym (book.alone who k at b (own ∙ ap Some x) theirs)
      together own theirs (inr x) = book.alone k who at a (theirs ∙ ap Some x) own

  pub IsLockBook-with_lock : IsLockBook (with_lock locks who table mode)
  IsLockBook-with_lock = record {
    once = once-with_lock locks who table mode book.once;
    alone = λ j k at held a b. elim (cases_session j who) [
      | inl is_j ↦ elim (cases_session k who) [
        | inl is_k ↦ is_j ∙ sym is_k
        | inr not_k ↦ absurd (one_x k at X held not_k (subst (λ (s : SessNo). Holds (with_lock locks who table mode) s at X) is_j a) b (inl refl))
      ]
      | inr not_j ↦ elim (cases_session k who) [
        | inl is_k ↦ absurd (one_x j at held X not_j (subst (λ (s : SessNo). Holds (with_lock locks who table mode) s at held) is_k b) a (inr refl))
        | inr not_k ↦ book.alone j k at held (before j at X not_j a) (before k at held not_k b)
      ]
    ];
  }

  pub IsLockBook-after_taking : IsLockBook (after_taking locks who table mode)
  IsLockBook-after_taking =
      elim (cases_Bool (gains (lock_of locks who table) mode)) [
        | inl gained ↦ subst (λ (b : Bool). IsLockBook (cond b (with_lock locks who table mode) locks)) (sym gained) IsLockBook-with_lock
        | inr same ↦ subst (λ (b : Bool). IsLockBook (cond b (with_lock locks who table mode) locks)) (sym same) book
      ]

pub IsLockBook-none : IsLockBook []
IsLockBook-none = record { once = tt; alone = λ j k at held a b. absurd (none-some X a) }

pub IsLockBook-without_locks : (locks : Locks) (who : SessNo) → IsLockBook locks → IsLockBook (without_locks locks who)
IsLockBook-without_locks locks who book =
    record {
      once = once-without_locks locks who book.once;
      alone = λ j k at held a b. book.alone j k at held (before j at X a) (before k at held b);
    }
  where
    before : (k : SessNo) (at : TableNo) (held : Mode) → Holds (without_locks locks who) k at held → Holds locks k at held
    before k at held h = elim (cases_session k who) [
      | inl is ↦ absurd (none-some held (sym (lock_of-without_locks_same locks who at) ∙ sym (ap (λ (s : SessNo). lock_of (without_locks locks who) s at) is) ∙ h))
      | inr ne ↦ sym (lock_of-without_locks locks who k at ne) ∙ h
    ]

pub IsLockBook-without_lock : (locks : Locks) (who : SessNo) (table : TableNo) → IsLockBook locks → IsLockBook (without_lock locks who table)
IsLockBook-without_lock locks who table book =
    record {
      once = once-without_lock locks who table book.once;
      alone = λ j k at held a b. book.alone j k at held (before j at X a) (before k at held b);
    }
  where
    before : (k : SessNo) (at : TableNo) (held : Mode) → Holds (without_lock locks who table) k at held → Holds locks k at held
    before k at held h = elim (cases_session k who) [
      | inl is ↦ elim (cases_table at table) [
        | inl same ↦ absurd (none-some held (sym (lock_of-without_lock_same locks who table) ∙ sym (λ i. lock_of (without_lock locks who table) (is i) (same i)) ∙ h))
        | inr other ↦ sym (lock_of-without_lock locks who k table at (λ e f. other f)) ∙ h
      ]
      | inr ne ↦ sym (lock_of-without_lock locks who k table at (λ e f. ne e)) ∙ h
    ]

-- there is one lowest session in the way
pub one_lowest : (locks : Locks) (who : SessNo) (table : TableNo) (mode : Mode) (j k : SessNo) → IsLowestInTheWay locks who table mode j → IsLowestInTheWay locks who table mode k → j ≡ k
one_lowest locks who table mode j k a b =
    elim (cases_lt j.0 k.0) [
      | inl lt ↦ absurd (b.lowest j lt a.there)
      | inr le ↦ elim (cases_lt k.0 j.0) [
        | inl lt ↦ absurd (a.lowest k lt b.there)
        | inr ge ↦ let e : j.0 ≡ k.0 = omega arith in λ i. record { 0 = e i }
      ]
    ]

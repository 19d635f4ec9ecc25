-- Which locks a session holds, before and behind a reply, and who is in whose way.
use Rattle.std.proofs.Common.{◌≡◌, ◌≢◌, ◌+◌, ◌-◌, ◌<◌, ◌≤◌, ◌⊎◌, inl, inr, ℕ, suc, zero, Bool, true, false, ◌&&◌, ◌||◌, not, nat_eq, cond, List, [], ◌∷◌, length, get_or, refl, ap, sym, ◌∙◌, arith}
use Rattle.std.specs.Prelude.{Some, None, filter}
use Rattle.std.specs.List.{list_any}
use Rattle.std.specs.Str.{bytes_eq}
use Rattle.std.proofs.lemmas.Bool.{cases_Bool, cases_lt, and_parts, and_from, and_right, or_cases, or_left, or_right, ne_eqb}
use Rattle.std.proofs.lemmas.List.{get_or_past}
use Rattle.std.proofs.lemmas.Slice.Eq.{bytes_eq-Decides}
use Rattle.page_base.specs.declared.numbers.Mode.{Mode}
use Rattle.page_base.specs.declared.numbers.Mode.TheVariants.{S, X}
use Rattle.plain_model.specs.declared.event.LockName.{LockName}
use Rattle.plain_model.specs.declared.event.LockName.TheVariants.{All, Table}
use Rattle.plain_model.specs.declared.stmt.Level.{Level}
use Rattle.plain_model.specs.declared.stmt.Level.TheVariants as levels
use Rattle.plain_model.specs.State.{Plain, Session, fresh_session}
use Rattle.plain_model.specs.Holding.{same_lock, covers, conflicts, holds, is_in_the_way, holder_from, held}
use Rattle.plain_model.specs.Keeping.{is_shared, is_on_table, was_gained, without_tables, kept_at}

abbrev pub Locks : Type 0
Locks = List (LockName × Mode)

-- NAMES

-- names compared
pub bytes_same : (a : List ℕ) → bytes_eq a a ≡ true
bytes_same a = (bytes_eq-Decides a a).1 refl

-- compared as the same, they are
pub same_bytes : (a b : List ℕ) → bytes_eq a b ≡ true → a ≡ b
same_bytes a b e = (bytes_eq-Decides a b).0 e

-- and as others they differ
pub other_bytes : (a b : List ℕ) → (a ≡ b → ⊥) → bytes_eq a b ≡ false
other_bytes a b ne = elim (cases_Bool (bytes_eq a b)) [ inl t ↦ absurd (ne (same_bytes a b t)) | inr f ↦ f ]

-- locks of one name
pub lock_is : (a b : LockName) → same_lock a b ≡ true → a ≡ b
lock_is All All e = refl
lock_is All (Table b) e = absurd (let x : false ≡ true = e in cc)
lock_is (Table a) All e = absurd (let x : false ≡ true = e in cc)
lock_is (Table a) (Table b) e = ap Table (same_bytes a b e)

-- a lock has the name of itself
pub lock_same : (a : LockName) → same_lock a a ≡ true
lock_same All = refl
lock_same (Table a) = bytes_same a

-- SOME LOCK AMONG MANY

module _ {A : Type 0} (p q : A → Bool) where
  -- what passes one test passes another
  pub any_weaker : ((x : A) → p x ≡ true → q x ≡ true) → (xs : List A) → list_any p xs ≡ true → list_any q xs ≡ true
  any_weaker f [] h = h
  any_weaker f (x ∷ xs) h = elim (or_cases (p x) (list_any p xs) h) [
    | inl e ↦ or_left (q x) (list_any q xs) (f x e)
    | inr e ↦ or_right (q x) (list_any q xs) (any_weaker f xs e)
  ]

  -- a filter adds nothing
  pub any_filtered : (xs : List A) → list_any p (filter q xs) ≡ true → list_any p xs ≡ true
  any_filtered [] h = h
  any_filtered (x ∷ xs) h = by (q x) (any_filtered xs) h
    where
      by : (b : Bool) → (list_any p (filter q xs) ≡ true → list_any p xs ≡ true) → list_any p (cond b (x ∷ filter q xs) (filter q xs)) ≡ true → (p x || list_any p xs) ≡ true
      by true rest h = elim (or_cases (p x) (list_any p (filter q xs)) h) [ inl e ↦ or_left (p x) (list_any p xs) e | inr e ↦ or_right (p x) (list_any p xs) (rest e) ]
      by false rest h = or_right (p x) (list_any p xs) (rest h)

  -- and keeps what passes it
  pub any_kept : ((x : A) → p x ≡ true → q x ≡ true) → (xs : List A) → list_any p xs ≡ true → list_any p (filter q xs) ≡ true
  any_kept f [] h = h
  any_kept f (x ∷ xs) h = by (q x) refl (any_kept f xs)
    where
      by : (b : Bool) → q x ≡ b → (list_any p xs ≡ true → list_any p (filter q xs) ≡ true) → list_any p (cond b (x ∷ filter q xs) (filter q xs)) ≡ true
      by true e rest = elim (or_cases (p x) (list_any p xs) h) [ inl t ↦ or_left (p x) (list_any p (filter q xs)) t | inr t ↦ or_right (p x) (list_any p (filter q xs)) (rest t) ]
      by false e rest = elim (or_cases (p x) (list_any p xs) h) [ inl t ↦ absurd (let g : q x ≡ true = f x t in let y : true ≡ false = sym g ∙ e in cc) | inr t ↦ rest t ]

-- STRONGER AND WEAKER

covers_shared : (m n : Mode) → covers m n ≡ true → covers m S ≡ true
covers_shared S n e = refl
covers_shared X n e = refl

conflicts_write : (m n : Mode) → covers m X ≡ true → conflicts m n ≡ true
conflicts_write S n e = absurd (let x : false ≡ true = e in cc)
conflicts_write X n e = refl

conflicts_any : (m : Mode) → covers m S ≡ true → conflicts m X ≡ true
conflicts_any S e = refl
conflicts_any X e = refl

-- a lock in any mode is one in S
pub holds_shared : (ls : Locks) (name : LockName) (mode : Mode) → holds ls name mode ≡ true → holds ls name S ≡ true
holds_shared ls name mode h = any_weaker (λ (l : LockName × Mode). same_lock l.0 name && covers l.1 mode) (λ (l : LockName × Mode). same_lock l.0 name && covers l.1 S)
    (λ l e. let p = and_parts (same_lock l.0 name) (covers l.1 mode) e in and_from (same_lock l.0 name) (covers l.1 S) p.0 (covers_shared l.1 mode p.1)) ls h

-- who holds a table in X is in everybody's way
pub writes_in_the_way : (ls : Locks) (name : LockName) (mode : Mode) → holds ls name X ≡ true → is_in_the_way ls name mode ≡ true
writes_in_the_way ls name mode h = any_weaker (λ (l : LockName × Mode). same_lock l.0 name && covers l.1 X) (λ (l : LockName × Mode). same_lock l.0 name && conflicts l.1 mode)
    (λ l e. let p = and_parts (same_lock l.0 name) (covers l.1 X) e in and_from (same_lock l.0 name) (conflicts l.1 mode) p.0 (conflicts_write l.1 mode p.1)) ls h

-- who holds it at all is in a writer's way
pub reads_in_the_way : (ls : Locks) (name : LockName) → holds ls name S ≡ true → is_in_the_way ls name X ≡ true
reads_in_the_way ls name h = any_weaker (λ (l : LockName × Mode). same_lock l.0 name && covers l.1 S) (λ (l : LockName × Mode). same_lock l.0 name && conflicts l.1 X)
    (λ l e. let p = and_parts (same_lock l.0 name) (covers l.1 S) e in and_from (same_lock l.0 name) (conflicts l.1 X) p.0 (conflicts_any l.1 p.1)) ls h

-- one more lock
pub holds_more : (l : LockName × Mode) (ls : Locks) (name : LockName) (mode : Mode) → holds ls name mode ≡ true → holds (l ∷ ls) name mode ≡ true
holds_more l ls name mode h = or_right (same_lock l.0 name && covers l.1 mode) (holds ls name mode) h

-- is held: the new one, or one of the others
pub holds_cases : (a : LockName) (m : Mode) (ls : Locks) (name : LockName) (mode : Mode) → holds ((a, m) ∷ ls) name mode ≡ true → ((a ≡ name) × (covers m mode ≡ true)) ⊎ (holds ls name mode ≡ true)
holds_cases a m ls name mode h = elim (or_cases (same_lock a name && covers m mode) (holds ls name mode) h) [
  | inl e ↦ let p = and_parts (same_lock a name) (covers m mode) e in inl (lock_is a name p.0, p.1)
  | inr e ↦ inr e
]

-- WHAT A REPLY LEAVES

not_true : (b : Bool) → b ≡ false → not b ≡ true
not_true true e = absurd (let x : true ≡ false = e in cc)
not_true false e = refl

-- a reply adds no lock
pub kept_fewer : (level : Level) (gained : List LockName) (ls : Locks) (name : LockName) (mode : Mode) → holds (kept_at level gained ls) name mode ≡ true → holds ls name mode ≡ true
kept_fewer levels.Serial gained ls name mode h = h
kept_fewer levels.Committed gained ls name mode h =
    any_filtered (λ (l : LockName × Mode). same_lock l.0 name && covers l.1 mode) (λ (l : LockName × Mode). not (is_on_table l && was_gained gained l)) ls (by (list_any is_on_table (without_tables gained ls)) h)
  where
    by : (b : Bool) → holds (cond b (without_tables gained ls) (filter (λ l. not (was_gained gained l)) (without_tables gained ls))) name mode ≡ true → holds (without_tables gained ls) name mode ≡ true
    by true h = h
    by false h = any_filtered (λ (l : LockName × Mode). same_lock l.0 name && covers l.1 mode) (λ (l : LockName × Mode). not (was_gained gained l)) (without_tables gained ls) h

-- a lock stays that isn't one in S which the statement gained
kept : (level : Level) (gained : List LockName) (ls : Locks) (name : LockName) (mode : Mode) → ((l : LockName × Mode) → (same_lock l.0 name && covers l.1 mode) ≡ true → was_gained gained l ≡ false) → holds ls name mode ≡ true → holds (kept_at level gained ls) name mode ≡ true
kept levels.Serial gained ls name mode stays h = h
kept levels.Committed gained ls name mode stays h = by (list_any is_on_table (without_tables gained ls))
  where
    first : holds (without_tables gained ls) name mode ≡ true
    first = any_kept (λ (l : LockName × Mode). same_lock l.0 name && covers l.1 mode) (λ (l : LockName × Mode). not (is_on_table l && was_gained gained l))
        (λ l e. not_true (is_on_table l && was_gained gained l) (and_right (is_on_table l) (was_gained gained l) (stays l e))) ls h

    by : (b : Bool) → holds (cond b (without_tables gained ls) (filter (λ l. not (was_gained gained l)) (without_tables gained ls))) name mode ≡ true
    by true = first
    by false = any_kept (λ (l : LockName × Mode). same_lock l.0 name && covers l.1 mode) (λ (l : LockName × Mode). not (was_gained gained l)) (λ l e. not_true (was_gained gained l) (stays l e)) (without_tables gained ls) first

-- a lock in X stays
pub kept_writes : (level : Level) (gained : List LockName) (ls : Locks) (name : LockName) → holds ls name X ≡ true → holds (kept_at level gained ls) name X ≡ true
kept_writes level gained ls name h = kept level gained ls name X (λ l e. let p = and_parts (same_lock l.0 name) (covers l.1 X) e in unshared l.1 (list_any (same_lock l.0) gained) p.1) h
  where
    unshared : (m : Mode) (b : Bool) → covers m X ≡ true → (is_shared m && b) ≡ false
    unshared S b e = absurd (let x : false ≡ true = e in cc)
    unshared X b e = refl

-- a lock stays whose name the statement didn't gain
pub kept_old : (level : Level) (gained : List LockName) (ls : Locks) (name : LockName) → list_any (same_lock name) gained ≡ false → holds ls name S ≡ true → holds (kept_at level gained ls) name S ≡ true
kept_old level gained ls name out h = kept level gained ls name S (λ l e.
    let p = and_parts (same_lock l.0 name) (covers l.1 S) e in
    and_right (is_shared l.1) (list_any (same_lock l.0) gained) (ap (λ (n : LockName). list_any (same_lock n) gained) (lock_is l.0 name p.0) ∙ out)) h

-- the lock on the table of tables stays as long as there is one on a table
pub kept_all : (level : Level) (gained : List LockName) (ls : Locks) (table : List ℕ) → holds (kept_at level gained ls) (Table table) S ≡ true → holds ls All S ≡ true → holds (kept_at level gained ls) All S ≡ true
kept_all levels.Serial gained ls table on all = all
kept_all levels.Committed gained ls table on all = by (list_any is_on_table (without_tables gained ls)) refl on
  where
    first : holds (without_tables gained ls) All S ≡ true
    first = any_kept (λ (l : LockName × Mode). same_lock l.0 All && covers l.1 S) (λ (l : LockName × Mode). not (is_on_table l && was_gained gained l))
        (λ l e. let p = and_parts (same_lock l.0 All) (covers l.1 S) e in off l.0 (was_gained gained l) p.0) ls all
      where
        off : (name : LockName) (b : Bool) → same_lock name All ≡ true → not (not (same_lock name All) && b) ≡ true
        off name b e = rw e refl

    on_table : (l : LockName × Mode) → (same_lock l.0 (Table table) && covers l.1 S) ≡ true → is_on_table l ≡ true
    on_table l e = let p = and_parts (same_lock l.0 (Table table)) (covers l.1 S) e in let is : l.0 ≡ Table table = lock_is l.0 (Table table) p.0 in rw is refl

    by : (b : Bool) → list_any is_on_table (without_tables gained ls) ≡ b → holds (cond b (without_tables gained ls) (filter (λ l. not (was_gained gained l)) (without_tables gained ls))) (Table table) S ≡ true →
        holds (cond b (without_tables gained ls) (filter (λ l. not (was_gained gained l)) (without_tables gained ls))) All S ≡ true
    by true e h = first
    by false e h =
        let there : list_any is_on_table (without_tables gained ls) ≡ true = any_weaker (λ (l : LockName × Mode). same_lock l.0 (Table table) && covers l.1 S) is_on_table on_table (without_tables gained ls)
        (any_filtered (λ (l : LockName × Mode). same_lock l.0 (Table table) && covers l.1 S) (λ (l : LockName × Mode). not (was_gained gained l)) (without_tables gained ls) h) in
        absurd (let x : false ≡ true = sym e ∙ there in cc)

-- of no locks none are left
pub kept_none : (level : Level) (gained : List LockName) → kept_at level gained [] ≡ []
kept_none levels.Serial gained = refl
kept_none levels.Committed gained = refl

-- NOBODY IS IN THE WAY

pub from_free : (j : ℕ) (ss : List Session) (k : ℕ) (name : LockName) (mode : Mode) → holder_from j ss k name mode ≡ None → (i : ℕ) → i < length ss → j + i ≢ k → is_in_the_way (get_or ss i fresh_session).locks name mode ≡ false
from_free j [] k name mode e i lt ne = absurd (omega (arith, lt))
from_free j (s ∷ ss) k name mode e i lt ne = by (not (nat_eq j k) && is_in_the_way s.locks name mode) refl (from_free (j + 1) ss k name mode) e i lt ne
  where
    first : (x : Bool) → (not (nat_eq j k) && x) ≡ false → j ≢ k → x ≡ false
    first x h d = let other : nat_eq j k ≡ false = ne_eqb j k d in sym (ap (λ b. not b && x) other) ∙ h

    by : (b : Bool) → (not (nat_eq j k) && is_in_the_way s.locks name mode) ≡ b → (holder_from (j + 1) ss k name mode ≡ None → (i : ℕ) → i < length ss → j + 1 + i ≢ k → is_in_the_way (get_or ss i fresh_session).locks name mode ≡ false) → cond b (Some j) (holder_from (j + 1) ss k name mode) ≡ None → (i : ℕ) → i < length (s ∷ ss) → j + i ≢ k → is_in_the_way (get_or (s ∷ ss) i fresh_session).locks name mode ≡ false
    by true h rest e i lt ne = absurd (cc)
    by false h rest e zero lt ne = first (is_in_the_way s.locks name mode) h (λ is. ne (omega (arith, is)))
    by false h rest e (suc i) lt ne = rest e i (omega (arith, lt)) (λ is. ne (omega (arith, is)))

-- where no other session is in the way, none is
pub free_of : (st : Plain) (k : ℕ) (name : LockName) (mode : Mode) → 1 ≤ k → held st k name mode ≡ None → (i : ℕ) → i ≢ k - 1 → is_in_the_way (get_or st.sessions i fresh_session).locks name mode ≡ false
free_of st k name mode low e i ne = elim (cases_lt i (length st.sessions)) [
  | inl lt ↦ from_free 1 st.sessions k name mode e i lt (λ is. ne (omega (arith, is, low)))
  | inr ge ↦ ap (λ (t : Session). is_in_the_way t.locks name mode) (get_or_past st.sessions i fresh_session ge)
]

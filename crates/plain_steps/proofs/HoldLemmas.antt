-- What an event leaves of its own session: its locks, and the changes that wait.
use Rattle.std.proofs.Common.{◌≡◌, ◌≢◌, ◌-◌, ◌≤◌, ◌⊎◌, inl, inr, ℕ, true, false, List, [], ◌∷◌, ◌++◌, length, ap, sym, ◌∙◌, subst, arith}
use Rattle.std.specs.Prelude.{None}
use Rattle.std.specs.List.{AllByRecursion}
use Rattle.page_base.specs.declared.numbers.Mode.{Mode}
use Rattle.page_base.specs.declared.numbers.Mode.TheVariants.{S, X}
use Rattle.plain_model.specs.declared.stmt.Stmt.{Stmt}
use Rattle.plain_model.specs.declared.event.LockName.{LockName}
use Rattle.plain_model.specs.declared.event.LockName.TheVariants.{All, Table}
use Rattle.plain_model.specs.Tables.{Change}
use Rattle.plain_model.specs.Journal.{Entry}
use Rattle.plain_model.specs.Meaning.{change_and_reply, table_in}
use Rattle.plain_model.specs.Statements.{table_named}
use Rattle.plain_model.specs.State.{Plain, Session, session, stmt_of, see, is_source}
use Rattle.plain_model.specs.Holding.{holds, is_in_the_way, covers}
use Rattle.plain_model.specs.Keeping.{kept_at}
use Rattle.plain_steps.proofs.LockLemmas.{Locks, holds_more, holds_cases, kept_fewer, kept_writes, kept_all, kept_none, reads_in_the_way}
use Rattle.plain_steps.proofs.ApplyLemmas.{IsOfRow, IsIn, named_by, data_in}
use Rattle.plain_steps.proofs.ComingLemmas.{Writes}
use Rattle.plain_steps.proofs.StepLemmas.{at, History, Waits, Ends, Adds, Puts, Commits, CutsOff, Drops, Reverts}
use Rattle.plain_steps.proofs.EventLemmas.{Locking, Gained, Stayed, Answered}

-- a change of a row, whose table is held in X
abbrev pub IsUnder : Locks → Change → Type 0
IsUnder locks c = IsOfRow c × (holds locks (Table (named_by c)) X ≡ true)

-- A LOCK THAT IS HELD NOW

-- who holds a table at all is in a writer's way, whichever lock that one is to gain
pub way_of_write : (ls : Locks) (name : LockName) (m : Mode) → covers m X ≡ true → holds ls name S ≡ true → is_in_the_way ls name m ≡ true
way_of_write ls name S c h = absurd (let x : false ≡ true = c in cc)
way_of_write ls name X c h = reads_in_the_way ls name h

-- it was held before, or it has been gained, and nobody else was in the way
pub held_now : (st : Plain) (k : ℕ) (s : Session) → Locking st k s → (name : LockName) (mode : Mode) → holds s.locks name mode ≡ true →
    (holds (session st k).locks name mode ≡ true) ⊎ ((m : Mode) × (covers m mode ≡ true) × ((i : ℕ) → i ≢ k - 1 → is_in_the_way (at st i).locks name m ≡ false))
held_now st k s (Gained n m g numbers says free locks gained) name mode h =
    elim (holds_cases n m (session st k).locks name mode (subst (λ (l : Locks). holds l name mode ≡ true) locks h)) [
      | inl p ↦ inr (m, p.1, λ i ne. subst (λ (z : LockName). is_in_the_way (at st i).locks z m ≡ false) p.0 (free i ne))
      | inr old ↦ inl old
    ]
held_now st k s (Stayed locks gained) name mode h = inl (subst (λ (l : Locks). holds l name mode ≡ true) locks h)
held_now st k s (Answered r) name mode h = elim r.kept [
  | inl q ↦ inl (kept_fewer q.0 (session st k).gained (session st k).locks name mode (subst (λ (l : Locks). holds l name mode ≡ true) q.1 h))
  | inr q ↦ absurd (let x : false ≡ true = subst (λ (l : Locks). holds l name mode ≡ true) q.0 h in cc)
]

-- a lock in X stays, but at the end of a transaction
pub writes_stay : (st : Plain) (k : ℕ) (s : Session) → Locking st k s → (s.depth ≡ 0) ⊎ ((name : LockName) → holds (session st k).locks name X ≡ true → holds s.locks name X ≡ true)
writes_stay st k s (Gained n m g numbers says free locks gained) = inr (λ name h. subst (λ (l : Locks). holds l name X ≡ true) (sym locks) (holds_more (n, m) (session st k).locks name X h))
writes_stay st k s (Stayed locks gained) = inr (λ name h. subst (λ (l : Locks). holds l name X ≡ true) (sym locks) h)
writes_stay st k s (Answered r) = elim r.kept [
  | inl q ↦ inr (λ name h. subst (λ (l : Locks). holds l name X ≡ true) (sym q.1) (kept_writes q.0 (session st k).gained (session st k).locks name h))
  | inr q ↦ inl q.1
]

-- the table of tables stays as long as a table does
pub tabled_now : (st : Plain) (k : ℕ) (s : Session) → Locking st k s → ((table : List ℕ) → holds (session st k).locks (Table table) S ≡ true → holds (session st k).locks All S ≡ true) → (table : List ℕ) → holds s.locks (Table table) S ≡ true → holds s.locks All S ≡ true
tabled_now st k s (Gained n m g numbers says free locks gained) old table h =
    subst (λ (l : Locks). holds l All S ≡ true) (sym locks) (holds_more (n, m) (session st k).locks All S
    (elim (holds_cases n m (session st k).locks (Table table) S (subst (λ (l : Locks). holds l (Table table) S ≡ true) locks h)) [
      | inl p ↦ elim g.tabled [ inl e ↦ absurd (let x : All ≡ Table table = sym e ∙ p.0 in cc) | inr all ↦ all ]
      | inr o ↦ old table o
    ]))
tabled_now st k s (Stayed locks gained) old table h = subst (λ (l : Locks). holds l All S ≡ true) (sym locks) (old table (subst (λ (l : Locks). holds l (Table table) S ≡ true) locks h))
tabled_now st k s (Answered r) old table h = elim r.kept [
  | inl q ↦
      let on = subst (λ (l : Locks). holds l (Table table) S ≡ true) q.1 h in
      subst (λ (l : Locks). holds l All S ≡ true) (sym q.1) (kept_all q.0 (session st k).gained (session st k).locks table on (old table (kept_fewer q.0 (session st k).gained (session st k).locks (Table table) S on)))
  | inr q ↦ absurd (let x : false ≡ true = subst (λ (l : Locks). holds l (Table table) S ≡ true) q.0 h in cc)
]

-- of no locks none are left, where none is gained
pub nothing_held : (st : Plain) (k : ℕ) (s : Session) → Locking st k s → (session st k).locks ≡ [] → (is_source st (session st k).current ≡ false) ⊎ ((stmt_of st k ≡ None) ⊎ (length st.sessions ≤ k - 1)) → s.locks ≡ []
nothing_held st k s (Gained n m g numbers says free locks gained) none idles = elim idles [
  | inl away ↦ absurd (let x : true ≡ false = sym g.here ∙ away in cc)
  | inr (inl mute) ↦ absurd (says mute)
  | inr (inr past) ↦ absurd (let a = numbers.0 in let b = numbers.1 in omega (arith, a, b, past))
]
nothing_held st k s (Stayed locks gained) none idles = locks ∙ none
nothing_held st k s (Answered r) none idles = elim r.kept [
  | inl q ↦ q.1 ∙ ap (kept_at q.0 (session st k).gained) none ∙ kept_none q.0 (session st k).gained
  | inr q ↦ q.0
]

-- WHAT WAITS

-- outside a transaction nothing waits
pub idle_now : (st : Plain) (k : ℕ) (work : List Change) (depth : ℕ) (j : List Entry) → History st k work depth j → ((session st k).depth ≡ 0 → (session st k).work ≡ []) → depth ≡ 0 → work ≡ []
idle_now st k work depth j (Waits a b c) old z = b ∙ old (c z)
idle_now st k work depth j (Ends a b) old z = b
idle_now st k work depth j (Adds stmt a b c d e f g) old z = absurd (d (sym e ∙ z))
idle_now st k work depth j (Puts stmt a b c d e f) old z = e ∙ old d
idle_now st k work depth j (Commits a b c) old z = b
idle_now st k work depth j (CutsOff snap a b c) old z = b ∙ old (sym c ∙ z)
idle_now st k work depth j (Drops snap a b c) old z = b ∙ old (sym c ∙ z)
idle_now st k work depth j (Reverts snap begun r a b c) old z = b ∙ old (sym c ∙ z)

under_kept : (old new : Locks) → ((name : LockName) → holds old name X ≡ true → holds new name X ≡ true) → (cs : List Change) → AllByRecursion (IsUnder old) cs → AllByRecursion (IsUnder new) cs
under_kept old new keep [] h = tt
under_kept old new keep (c ∷ cs) h = ((h.0.0, keep (Table (named_by c)) h.0.1), under_kept old new keep cs h.1)

-- what holds of each change of two lists holds of both together
pub all_appended : (P : Change → Type 0) (cs ds : List Change) → AllByRecursion P cs → AllByRecursion P ds → AllByRecursion P (cs ++ ds)
all_appended P [] ds h g = g
all_appended P (c ∷ cs) ds h g = (h.0, all_appended P cs ds h.1 g)

in_under : (locks : Locks) (table : List ℕ) → holds locks (Table table) X ≡ true → (cs : List Change) → AllByRecursion (IsIn table) cs → AllByRecursion (IsUnder locks) cs
in_under locks table h [] g = tt
in_under locks table h (c ∷ cs) g = ((g.0.0, subst (λ n. holds locks (Table n) X ≡ true) (sym g.0.1) h), in_under locks table h cs g.1)

-- what a statement on rows adds is under the lock of its table
pub adds_under : (st : Plain) (k : ℕ) (stmt : Stmt) → Writes st k stmt → AllByRecursion (IsUnder (session st k).locks) (change_and_reply stmt (see st k)).0
adds_under st k stmt w = in_under (session st k).locks (table_named stmt) w.table (change_and_reply stmt (see st k)).0 (data_in stmt (table_in (see st k) (table_named stmt)) w.of)

-- what waits is under locks in X that stay
pub covered_now : (st : Plain) (k : ℕ) (work : List Change) (depth : ℕ) (j : List Entry) (locks : Locks) → History st k work depth j → ((name : LockName) → holds (session st k).locks name X ≡ true → holds locks name X ≡ true) → AllByRecursion (IsUnder (session st k).locks) (session st k).work → AllByRecursion (IsUnder locks) work
covered_now st k work depth j locks h keep old = by h
  where
    same : work ≡ (session st k).work → AllByRecursion (IsUnder locks) work
    same e = subst (λ (cs : List Change). AllByRecursion (IsUnder locks) cs) (sym e) (under_kept (session st k).locks locks keep (session st k).work old)

    none : work ≡ [] → AllByRecursion (IsUnder locks) work
    none e = subst (λ (cs : List Change). AllByRecursion (IsUnder locks) cs) (sym e) tt

    by : History st k work depth j → AllByRecursion (IsUnder locks) work
    by (Waits a b c) = same b
    by (Ends a b) = none b
    by (Adds stmt a b c d e f g) = subst (λ (cs : List Change). AllByRecursion (IsUnder locks) cs) (sym g)
        (under_kept (session st k).locks locks keep ((session st k).work ++ (change_and_reply stmt (see st k)).0) (all_appended (IsUnder (session st k).locks) (session st k).work (change_and_reply stmt (see st k)).0 old (adds_under st k stmt b)))
    by (Puts stmt a b c d e f) = same e
    by (Commits a b c) = none b
    by (CutsOff snap a b c) = same b
    by (Drops snap a b c) = same b
    by (Reverts snap begun r a b c) = same b

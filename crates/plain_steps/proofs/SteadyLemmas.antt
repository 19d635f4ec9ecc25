-- While a session stays in its transaction and holds the table of tables, the source keeps its columns, and the tables
-- that it holds.
use Rattle.std.proofs.Common.{◌≡◌, ◌≢◌, ◌-◌, ◌≤◌, inl, inr, ℕ, true, false, List, [], ◌∷◌, refl, ap, sym, ◌∙◌, subst, arith}
use Rattle.std.specs.FinMap as finite
use Rattle.std.specs.Str.{bytes_eq}
use Rattle.std.specs.List.{AllByRecursion, list_any}
use Rattle.std.proofs.lemmas.Bool.{cases_Bool, cases_eq, or_from}
use Rattle.page_base.specs.declared.numbers.Mode.{Mode}
use Rattle.page_base.specs.declared.numbers.Mode.TheVariants.{S, X}
use Rattle.plain_model.specs.declared.event.Event.{Event}
use Rattle.plain_model.specs.declared.event.LockName.{LockName}
use Rattle.plain_model.specs.declared.event.LockName.TheVariants.{All, Table}
use Rattle.plain_model.specs.Tables.{Tables, Change, apply}
use Rattle.plain_model.specs.Journal.{Opening, Entry, source}
use Rattle.plain_model.specs.Meaning.{change_and_reply}
use Rattle.plain_model.specs.State.{Plain, Session, session, see, committed}
use Rattle.plain_model.specs.Holding.{holds, same_lock}
use Rattle.plain_model.specs.Keeping.{with_gain}
use Rattle.plain_model.specs.Legal.{LegalFrom, after, end_from}
use Rattle.plain_model.specs.Alone.{StaysIn}
use Rattle.plain_steps.proofs.LockLemmas.{Locks, lock_is, same_bytes, holds_more, kept_old}
use Rattle.plain_steps.proofs.ApplyLemmas.{IsOfRow, named_by, cols_at, cols_stay, rows_stay}
use Rattle.plain_steps.proofs.StepLemmas.{at, History, Waits, Ends, Adds, Puts, Commits, CutsOff, Drops, Reverts}
use Rattle.plain_steps.proofs.EventLemmas.{Locking, Gained, Stayed, Answered, Step, who_of, step}
use Rattle.plain_steps.proofs.HoldLemmas.{IsUnder, adds_under}
use Rattle.plain_steps.proofs.SaneLemmas.{Sane, restored_by, sane_after}

-- a lock that the present statement hasn't gained
pub record Tracked (st : Plain) (i : ℕ) (name : LockName) : Type 0 where
  pub held : holds (at st i).locks name S ≡ true
  pub old : list_any (same_lock name) (at st i).gained ≡ false

-- what a session that holds the table of tables finds again
pub record Steady (st st' : Plain) (i : ℕ) : Type 0 where
  pub cols : (q : List ℕ) → cols_at (committed st') q ≡ cols_at (committed st) q
  pub rows : (q : List ℕ) → holds (at st i).locks (Table q) S ≡ true → finite.get (committed st') q ≡ finite.get (committed st) q

-- the session is in a transaction before and after the event, if it is its own
abbrev pub Remains : Plain → Plain → ℕ → ℕ → Type 0
Remains st st' k i = i ≡ k - 1 → (1 ≤ (at st i).depth) × (1 ≤ (at st' i).depth)

steady_same : (st st' : Plain) (i : ℕ) → committed st' ≡ committed st → Steady st st' i
steady_same st st' i e = record { cols = λ q. ap (λ (t : Tables). cols_at t q) e; rows = λ q h. ap (λ (t : Tables). finite.get t q) e }

-- what waits are changes of rows
pub of_rows : (locks : Locks) (cs : List Change) → AllByRecursion (IsUnder locks) cs → AllByRecursion IsOfRow cs
of_rows locks [] h = tt
of_rows locks (c ∷ cs) h = (h.0.0, of_rows locks cs h.1)

-- the rows of a table that another session holds aren't changed
elsewhere : (st : Plain) (j i : ℕ) (q : List ℕ) → Sane st → j ≢ i → holds (at st i).locks (Table q) S ≡ true → (cs : List Change) → AllByRecursion (IsUnder (at st j).locks) cs → AllByRecursion (λ c. bytes_eq q (named_by c) ≡ false) cs
elsewhere st j i q sane ne h [] g = tt
elsewhere st j i q sane ne h (c ∷ cs) g = (
  elim (cases_Bool (bytes_eq q (named_by c))) [
    | inl t ↦ absurd (sane.exclusive j i (Table (named_by c)) ne g.0.1 (subst (λ n. holds (at st i).locks (Table n) S ≡ true) (same_bytes q (named_by c) t) h))
    | inr f ↦ f
  ],
  elsewhere st j i q sane ne h cs g.1,
)

steady_changes : (st st' : Plain) (j i : ℕ) → Sane st → j ≢ i → (cs : List Change) → AllByRecursion (IsUnder (at st j).locks) cs → committed st' ≡ apply cs (committed st) → Steady st st' i
steady_changes st st' j i sane ne cs under e = record {
  cols = λ q. ap (λ (t : Tables). cols_at t q) e ∙ cols_stay cs (committed st) q (of_rows (at st j).locks cs under);
  rows = λ q h. ap (λ (t : Tables). finite.get t q) e ∙ rows_stay cs (committed st) q (elsewhere st j i q sane ne h cs under);
}

positive : (n : ℕ) → 1 ≤ n → n ≡ 0 → ⊥
positive n h z = omega arith

module _ (st st' : Plain) (k : ℕ) (x : Step st st' k) (sane : Sane st) (i : ℕ) (remains : Remains st st' k i) where
  committed_is : (j : List Entry) → st'.journal ≡ j → committed st' ≡ source st.opening j
  committed_is j e = ap (λ (o : Opening). source o st'.journal) x.opening ∙ ap (source st.opening) e

  -- one event
  pub steady : holds (at st i).locks All S ≡ true → Steady st st' i
  steady all = by x.history
    where
      by : History st k x.s.work x.s.depth st'.journal → Steady st st' i
      by (Waits a b c) = steady_same st st' i (committed_is st.journal a)
      by (Ends a b) = steady_same st st' i (committed_is st.journal a)
      by (Adds stmt a b c d e f g) = steady_same st st' i (committed_is st.journal f)
      by (Puts stmt a (inl w) c d e f) =
          steady_changes st st' (k - 1) i sane (λ same. positive (session st k).depth (subst (λ n. 1 ≤ (at st n).depth) (sym same) (remains (sym same)).0) d)
          (change_and_reply stmt (see st k)).0 (adds_under st k stmt w) (committed_is _ f)
      by (Puts stmt a (inr w) c d e f) =
          absurd (sane.exclusive (k - 1) i All (λ same. positive (session st k).depth (subst (λ n. 1 ≤ (at st n).depth) (sym same) (remains (sym same)).0) d) w.all all)
      by (Commits a b c) =
          steady_changes st st' (k - 1) i sane (λ same. positive x.s.depth (subst (λ (t : Session). 1 ≤ t.depth) (ap (at st') (sym same) ∙ x.here) (remains (sym same)).1) c)
          (session st k).work (sane.covered (k - 1)) (committed_is _ a)
      by (CutsOff snap a b c) = steady_same st st' i (committed_is _ a)
      by (Drops snap a b c) = steady_same st st' i (committed_is _ a)
      by (Reverts snap begun r a b c) =
          let h = restored_by st k begun r in
          let rests = sane.rests h.0 h.1 in
          absurd (elim (cases_eq i (h.0.0 - 1)) [
            | inl same ↦
                let mine : i ≡ k - 1 = same ∙ ap (λ n. n - 1) h.2 in
                positive (at st i).depth (remains mine).0 (ap (λ n. (at st n).depth) same ∙ rests.outside)
            | inr ne ↦ let y : false ≡ true = subst (λ (l : Locks). holds l All S ≡ true) (rests.others i ne).locks all in absurd (cc)
          ])

  gain_apart : (name n : LockName) (m : Mode) (old : Locks) (gained : List LockName) → holds old n m ≡ false → holds old name S ≡ true → list_any (same_lock name) gained ≡ false → list_any (same_lock name) (with_gain n m gained) ≡ false
  gain_apart name n X old gained lacks has out = out
  gain_apart name n S old gained lacks has out = or_from (same_lock name n) (list_any (same_lock name) gained) (elim (cases_Bool (same_lock name n)) [
    | inl t ↦ absurd (let y : true ≡ false = sym (subst (λ (z : LockName). holds old z S ≡ true) (lock_is name n t) has) ∙ lacks in cc)
    | inr f ↦ f
  ]) out

  tracked_mine : (name : LockName) → i ≡ k - 1 → holds (session st k).locks name S ≡ true → list_any (same_lock name) (session st k).gained ≡ false → (holds x.s.locks name S ≡ true) × (list_any (same_lock name) x.s.gained ≡ false)
  tracked_mine name mine held old = by x.locks
    where
      by : Locking st k x.s → (holds x.s.locks name S ≡ true) × (list_any (same_lock name) x.s.gained ≡ false)
      by (Gained n m g numbers says free locks gained) = (
        subst (λ (l : Locks). holds l name S ≡ true) (sym locks) (holds_more (n, m) (session st k).locks name S held),
        subst (λ (l : List LockName). list_any (same_lock name) l ≡ false) (sym gained) (gain_apart name n m (session st k).locks (session st k).gained g.wanted.lacks held old),
      )
      by (Stayed locks gained) = (subst (λ (l : Locks). holds l name S ≡ true) (sym locks) held, subst (λ (l : List LockName). list_any (same_lock name) l ≡ false) (sym gained) old)
      by (Answered r) = elim r.kept [
        | inl q ↦ (
          subst (λ (l : Locks). holds l name S ≡ true) (sym q.1) (kept_old q.0 (session st k).gained (session st k).locks name old held),
          subst (λ (l : List LockName). list_any (same_lock name) l ≡ false) (sym r.gained) refl,
        )
        | inr q ↦ absurd (positive x.s.depth (subst (λ (t : Session). 1 ≤ t.depth) (ap (at st') mine ∙ x.here) (remains mine).1) q.1)
      ]

  -- a lock that isn't the present statement's stays
  pub tracked_next : (name : LockName) → Tracked st i name → Tracked st' i name
  tracked_next name t = elim (cases_eq i (k - 1)) [
    | inl mine ↦
        let h = tracked_mine name mine (subst (λ n. holds (at st n).locks name S ≡ true) mine t.held) (subst (λ n. list_any (same_lock name) (at st n).gained ≡ false) mine t.old) in
        let is : at st' i ≡ x.s = ap (at st') mine ∙ x.here in
        record {
          held = subst (λ (u : Session). holds u.locks name S ≡ true) (sym is) h.0;
          old = subst (λ (u : Session). list_any (same_lock name) u.gained ≡ false) (sym is) h.1;
        }
    | inr ne ↦ record {
      held = subst (λ (u : Session). holds u.locks name S ≡ true) (sym (x.others i ne)) t.held;
      old = subst (λ (u : Session). list_any (same_lock name) u.gained ≡ false) (sym (x.others i ne)) t.old;
    }
  ]

-- EVENTS IN THE MIDST OF A TRANSACTION

-- it is in its transaction at first
pub stays_first : (st : Plain) (k : ℕ) (es : List Event) → StaysIn st k es → 1 ≤ (session st k).depth
stays_first st k [] h = h
stays_first st k (e ∷ es) h = h.0

-- what the session finds again behind them
pub record Amid (st st' : Plain) (i : ℕ) : Type 0 where
  pub cols : (q : List ℕ) → cols_at (committed st') q ≡ cols_at (committed st) q
  pub rows : (q : List ℕ) → Tracked st i (Table q) → finite.get (committed st') q ≡ finite.get (committed st) q

-- events that leave its transaction open leave it these
pub amid : (st : Plain) (k : ℕ) (es : List Event) → Sane st → LegalFrom st es → StaysIn st k es → Tracked st (k - 1) All → Amid st (end_from st es) (k - 1)
amid st k [] sane legal stays all = record { cols = λ q. refl; rows = λ q t. refl }
amid st k (e ∷ es) sane legal stays all =
    let x = step st e legal.0 in
    let remains : Remains st (after st e) (who_of e) (k - 1) = λ same. (stays.0, stays_first (after st e) k es stays.1) in
    let one = steady st (after st e) (who_of e) x sane (k - 1) remains all.held in
    let rest = amid (after st e) k es (sane_after st e sane legal.0) legal.1 stays.1 (tracked_next st (after st e) (who_of e) x sane (k - 1) remains All all) in
    record {
      cols = λ q. rest.cols q ∙ one.cols q;
      rows = λ q t. rest.rows q (tracked_next st (after st e) (who_of e) x sane (k - 1) remains (Table q) t) ∙ one.rows q t.held;
    }

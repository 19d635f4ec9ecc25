-- The source's tables and those of each copy stay tables all along a legal history.
use Rattle.std.proofs.Common.{◌≡◌, ◌≢◌, ◌-◌, inl, inr, ℕ, suc, zero, Bool, true, false, cond, List, [], ◌∷◌, ◌++◌, map, get_or, refl, ap, sym, ◌∙◌, subst}
use Rattle.std.specs.Prelude.{Option, Some, None, unwrap_or, slice_get}
use Rattle.std.specs.List.{AllByRecursion, list_all}
use Rattle.std.specs.FinMap as finite
use Rattle.std.specs.FinMap.{find, get-insert, get-remove, get-from_entries}
use Rattle.std.specs.Cmp.Lexicographic.{slice_cmp, nat_list_cmp_total}
use Rattle.std.specs.Ordering.{nat_cmp, eq_by_cmp}
use Rattle.std.proofs.lemmas.Bool.{cases_eq, and_parts}
use Rattle.std.proofs.lemmas.List.Elements.{recursion_from_All}
use Rattle.page_base.specs.declared.numbers.Mode.TheVariants.{X}
use Rattle.plain_model.specs.declared.stmt.Stmt.{Stmt}
use Rattle.plain_model.specs.declared.event.Event.{Event}
use Rattle.plain_model.specs.declared.event.LockName.TheVariants.{Table as OneTable}
use Rattle.plain_model.specs.Sound.{is_sound, are_sound}
use Rattle.plain_model.specs.Tables.{Tables, Change, apply}
use Rattle.plain_model.specs.Journal.{Opening, OpenedSnap, Entry, copy_in}
use Rattle.plain_model.specs.Journal as journal
use Rattle.plain_model.specs.Meaning.{shape, change_and_reply}
use Rattle.plain_model.specs.State.{Plain, Session, session, stmt_of, start, see, committed, copy}
use Rattle.plain_model.specs.Legal.{MayCome, after, end}
use Rattle.plain_steps.specs.Good.{AreGood, BeginsGood, AreKeptGood}
use Rattle.plain_steps.proofs.SplitLemmas.{along}
use Rattle.plain_steps.proofs.LockLemmas.{holds_shared}
use Rattle.plain_steps.proofs.ApplyLemmas.{IsOfRow, named_by, cols_at, cols_stay}
use Rattle.plain_steps.proofs.StepLemmas.{at, History, Waits, Ends, Adds, Puts, Commits, CutsOff, Drops, Reverts}
use Rattle.plain_steps.proofs.EventLemmas.{Step, who_of, step}
use Rattle.plain_steps.proofs.HoldLemmas.{IsUnder, all_appended}
use Rattle.plain_steps.proofs.SaneLemmas.{Sane, restored_by, sane_start, sane_after, fresh_at}
use Rattle.plain_steps.proofs.SteadyLemmas.{Remains, of_rows, steady}
use Rattle.plain_steps.proofs.GoodLemmas.{AreSound, all_sound, all_good, none_sound, Fits, all_fit_over, apply_sound, data_fits, rows_sound, tables_sound}

-- the tables are sound, and so will they be with what waits
pub record Keeps (st : Plain) : Type 0 where
  pub sane : Sane st
  pub scripts : list_all are_sound st.scripts ≡ true
  pub source : AreSound (committed st)
  pub copies : (snap : List ℕ) → AreSound (copy st snap)
  pub waits : (i : ℕ) → AllByRecursion (Fits (committed st)) (at st i).work

-- A STATEMENT IS SOUND

sound_script : (ss : List (List Stmt)) (i : ℕ) → list_all are_sound ss ≡ true → are_sound (get_or ss i []) ≡ true
sound_script [] i h = refl
sound_script (s ∷ ss) zero h = (and_parts (are_sound s) (list_all are_sound ss) h).0
sound_script (s ∷ ss) (suc i) h = sound_script ss i (and_parts (are_sound s) (list_all are_sound ss) h).1

sound_stmt : (script : List Stmt) (n : ℕ) (stmt : Stmt) → are_sound script ≡ true → slice_get script n ≡ Some stmt → is_sound stmt ≡ true
sound_stmt [] n stmt h e = absurd (cc)
sound_stmt (s ∷ ss) zero stmt h e = let same : s ≡ stmt = cc in subst (λ (x : Stmt). is_sound x ≡ true) same (and_parts (is_sound s) (are_sound ss) h).0
sound_stmt (s ∷ ss) (suc n) stmt h e = sound_stmt ss n stmt (and_parts (is_sound s) (are_sound ss) h).1 e

-- COPIES

kept_copy : (o : Option Tables) (b : Bool) (t : Tables) → AreSound t → AreSound (unwrap_or o finite.empty) → AreSound (unwrap_or (cond b (Some t) o) finite.empty)
kept_copy o true t h g = h
kept_copy o false t h g = g

lost_copy : (o : Option Tables) (b : Bool) → AreSound (unwrap_or o finite.empty) → AreSound (unwrap_or (cond b None o) finite.empty)
lost_copy o true g = none_sound
lost_copy o false g = g

-- ONE EVENT

module _ (st st' : Plain) (k : ℕ) (x : Step st st' k) (h : Keeps st) where
  committed_is : (j : List Entry) → st'.journal ≡ j → committed st' ≡ journal.source st.opening j
  committed_is j e = ap (λ (o : Opening). journal.source o st'.journal) x.opening ∙ ap (journal.source st.opening) e

  copy_is : (j : List Entry) (snap : List ℕ) → st'.journal ≡ j → copy st' snap ≡ journal.copy st.opening j snap
  copy_is j snap e = ap (λ (o : Opening). journal.copy o st'.journal snap) x.opening ∙ ap (λ (l : List Entry). journal.copy st.opening l snap) e

  is_sound_stmt : (stmt : Stmt) → stmt_of st k ≡ Some stmt → is_sound stmt ≡ true
  is_sound_stmt stmt e = sound_stmt (get_or st.scripts (k - 1) []) (session st k).said stmt (sound_script st.scripts (k - 1) h.scripts) e

  covered_rows : (i : ℕ) → AllByRecursion IsOfRow (at st i).work
  covered_rows i = of_rows (at st i).locks (at st i).work (h.sane.covered i)

  -- outside a transaction a session sees what is committed
  sees : (session st k).depth ≡ 0 → see st k ≡ committed st
  sees z = ap (λ (w : List Change). apply w (committed st)) (h.sane.idle (k - 1) z)

  source_same : committed st' ≡ committed st → AreSound (committed st')
  source_same e = subst AreSound (sym e) h.source

  puts_sound : (stmt : Stmt) → AreSound (apply (change_and_reply stmt (committed st)).0 (committed st)) → (session st k).depth ≡ 0 → AreSound (apply (change_and_reply stmt (see st k)).0 (committed st))
  puts_sound stmt s z = subst (λ (t : Tables). AreSound (apply (change_and_reply stmt t).0 (committed st))) (sym (sees z)) s

  source_next : AreSound (committed st')
  source_next = by x.history
    where
      by : History st k x.s.work x.s.depth st'.journal → AreSound (committed st')
      by (Waits a b c) = source_same (committed_is st.journal a)
      by (Ends a b) = source_same (committed_is st.journal a)
      by (Adds stmt a b c d e f g) = source_same (committed_is st.journal f)
      by (Puts stmt a (inl w) c d e f) = subst AreSound (sym (committed_is _ f))
          (puts_sound stmt (rows_sound stmt (committed st) w.of (is_sound_stmt stmt a) h.source (subst (λ (t : Tables). shape stmt t ≡ None) (sees d) c)) d)
      by (Puts stmt a (inr w) c d e f) = subst AreSound (sym (committed_is _ f))
          (puts_sound stmt (tables_sound stmt (committed st) w.good (is_sound_stmt stmt a) h.source (subst (λ (t : Tables). shape stmt t ≡ None) (sees d) c)) d)
      by (Commits a b c) = subst AreSound (sym (committed_is _ a)) (apply_sound (session st k).work (committed st) h.source (covered_rows (k - 1)) (h.waits (k - 1)))
      by (CutsOff snap a b c) = source_same (committed_is _ a)
      by (Drops snap a b c) = source_same (committed_is _ a)
      by (Reverts snap begun r a b c) = subst AreSound (sym (committed_is _ a)) (h.copies snap)

  copies_next : (q : List ℕ) → AreSound (copy st' q)
  copies_next q = by x.history
    where
      old : AreSound (journal.copy st.opening st.journal q)
      old = h.copies q

      by : History st k x.s.work x.s.depth st'.journal → AreSound (copy st' q)
      by (Waits a b c) = subst AreSound (sym (copy_is _ q a)) old
      by (Ends a b) = subst AreSound (sym (copy_is _ q a)) old
      by (Adds stmt a b c d e f g) = subst AreSound (sym (copy_is _ q f)) old
      by (Puts stmt a u c d e f) = subst AreSound (sym (copy_is _ q f)) old
      by (Commits a b c) = subst AreSound (sym (copy_is _ q a)) old
      by (CutsOff snap a b c) =
          let copies = (journal.held st.opening st.journal).copies in
          subst AreSound (sym (copy_is _ q a ∙ ap (λ (o : Option Tables). unwrap_or o finite.empty) (get-insert nat_list_cmp_total copies snap (committed st) q)))
          (kept_copy (finite.get copies q) (eq_by_cmp (slice_cmp nat_cmp) q snap) (committed st) h.source old)
      by (Drops snap a b c) =
          let copies = (journal.held st.opening st.journal).copies in
          subst AreSound (sym (copy_is _ q a ∙ ap (λ (o : Option Tables). unwrap_or o finite.empty) (get-remove nat_list_cmp_total copies snap q)))
          (lost_copy (finite.get copies q) (eq_by_cmp (slice_cmp nat_cmp) q snap) old)
      by (Reverts snap begun r a b c) = subst AreSound (sym (copy_is _ q a)) old

  -- what waits over the old tables waits over the new ones, which have the same columns
  waits_on : (cs : List Change) → ((q : List ℕ) → cols_at (committed st') q ≡ cols_at (committed st) q) → AllByRecursion (Fits (committed st)) cs → AllByRecursion (Fits (committed st')) cs
  waits_on cs same f = all_fit_over (committed st) (committed st') cs same f

  other_waits : (i : ℕ) → i ≢ k - 1 → AllByRecursion (Fits (committed st')) (at st i).work
  other_waits i ne = by (at st i).work (h.sane.covered i) (h.waits i)
    where
      by : (cs : List Change) → AllByRecursion (IsUnder (at st i).locks) cs → AllByRecursion (Fits (committed st)) cs → AllByRecursion (Fits (committed st')) cs
      by [] under f = tt
      by (c ∷ cs) under f =
          let remains : Remains st st' k i = λ same. absurd (ne same) in
          let all = h.sane.tabled i (named_by c) (holds_shared (at st i).locks (OneTable (named_by c)) X under.0.1) in
          waits_on (c ∷ cs) (steady st st' k x h.sane i remains all).cols f

  own_waits : AllByRecursion (Fits (committed st')) x.s.work
  own_waits = by x.history
    where
      none : x.s.work ≡ [] → AllByRecursion (Fits (committed st')) x.s.work
      none e = subst (λ (cs : List Change). AllByRecursion (Fits (committed st')) cs) (sym e) tt

      same : committed st' ≡ committed st → x.s.work ≡ (session st k).work → AllByRecursion (Fits (committed st')) x.s.work
      same c e = subst (λ (cs : List Change). AllByRecursion (Fits (committed st')) cs) (sym e) (waits_on (session st k).work (λ q. ap (λ (t : Tables). cols_at t q) c) (h.waits (k - 1)))

      by : History st k x.s.work x.s.depth st'.journal → AllByRecursion (Fits (committed st')) x.s.work
      by (Waits a b c) = same (committed_is st.journal a) b
      by (Ends a b) = none b
      by (Adds stmt a b c d e f g) =
          let sees_cols : (q : List ℕ) → cols_at (committed st) q ≡ cols_at (see st k) q = λ q. sym (cols_stay (session st k).work (committed st) q (covered_rows (k - 1))) in
          let seen : AreSound (see st k) = apply_sound (session st k).work (committed st) h.source (covered_rows (k - 1)) (h.waits (k - 1)) in
          let new = all_fit_over (see st k) (committed st) (change_and_reply stmt (see st k)).0 sees_cols (data_fits stmt (see st k) b.of (is_sound_stmt stmt a) seen c) in
          let both = all_appended (Fits (committed st)) (session st k).work (change_and_reply stmt (see st k)).0 (h.waits (k - 1)) new in
          subst (λ (cs : List Change). AllByRecursion (Fits (committed st')) cs) (sym g)
          (waits_on ((session st k).work ++ (change_and_reply stmt (see st k)).0) (λ q. ap (λ (t : Tables). cols_at t q) (committed_is st.journal f)) both)
      by (Puts stmt a u c d e f) = none (e ∙ h.sane.idle (k - 1) d)
      by (Commits a b c) = none b
      by (CutsOff snap a b c) = same (committed_is _ a) b
      by (Drops snap a b c) = same (committed_is _ a) b
      by (Reverts snap begun r a b c) =
          let g = restored_by st k begun r in
          let outside = (h.sane.rests g.0 g.1).outside in
          none (b ∙ h.sane.idle (k - 1) (sym (ap (λ n. (at st (n - 1)).depth) g.2) ∙ outside))

  waits_next : (i : ℕ) → AllByRecursion (Fits (committed st')) (at st' i).work
  waits_next i = elim (cases_eq i (k - 1)) [
    | inl e ↦ subst (λ (t : Session). AllByRecursion (Fits (committed st')) t.work) (sym (ap (at st') e ∙ x.here)) own_waits
    | inr ne ↦ subst (λ (t : Session). AllByRecursion (Fits (committed st')) t.work) (sym (x.others i ne)) (other_waits i ne)
  ]

keeps_after : (st : Plain) (e : Event) → Keeps st → MayCome st e → Keeps (after st e)
keeps_after st e h may =
    let x = step st e may in
    record {
      sane = sane_after st e h.sane may;
      scripts = ap (λ (ss : List (List Stmt)). list_all are_sound ss) x.scripts ∙ h.scripts;
      source = source_next st (after st e) (who_of e) x h;
      copies = copies_next st (after st e) (who_of e) x h;
      waits = waits_next st (after st e) (who_of e) x h;
    }

-- A WHOLE HISTORY

opened_copies : (snaps : List OpenedSnap) → AllByRecursion (λ s. AreGood s.tables) snaps → (q : List ℕ) → AreSound (unwrap_or (find (slice_cmp nat_cmp) q (map (λ s. (s.name, s.tables)) snaps)) finite.empty)
opened_copies [] h q = none_sound
opened_copies (s ∷ ss) h q = kept_copy (find (slice_cmp nat_cmp) q (map (λ s. (s.name, s.tables)) ss)) (eq_by_cmp (slice_cmp nat_cmp) q s.name) s.tables (all_sound s.tables h.0) (opened_copies ss h.1 q)

keeps_start : (opening : Opening) (scripts : List (List Stmt)) → BeginsGood opening → list_all are_sound scripts ≡ true → Keeps (start opening scripts)
keeps_start opening scripts h sound = record {
  sane = sane_start opening scripts;
  scripts = sound;
  source = all_sound opening.tables h.tables;
  copies = λ q. subst AreSound (sym (ap (λ (o : Option Tables). unwrap_or o finite.empty) (get-from_entries nat_list_cmp_total (map (λ s. (s.name, s.tables)) opening.snaps) q)))
      (opened_copies opening.snaps (recursion_from_All (λ s. AreGood s.tables) opening.snaps h.copies) q);
  waits = λ i. subst (λ (t : Session). AllByRecursion (Fits opening.tables) t.work) (sym (fresh_at scripts i)) tt;
}

-- a legal history of sound statements keeps tables
pub are_kept_good : AreKeptGood
are_kept_good opening scripts book begins sound legal =
    let h = along Keeps keeps_after (start opening scripts) book (keeps_start opening scripts begins sound) legal in
    (all_good (committed (end opening scripts book)) h.source, λ snap. all_good (copy (end opening scripts book) snap) (h.copies snap))

-- What holds in every state of a legal history: whoever writes a table holds it alone, changes wait under locks, and a
-- revert has the source for itself.
use Rattle.std.proofs.Common.{◌≡◌, ◌≢◌, ◌-◌, ◌≤◌, ◌⊎◌, inl, inr, ℕ, suc, zero, Bool, true, false, cond, List, [], ◌∷◌, length, map, get_or, refl, ap, sym, ◌∙◌, subst, arith}
use Rattle.std.specs.Prelude.{Option, Some, None, ◌==◌, slice_get}
use Rattle.std.specs.Str.{bytes_eq}
use Rattle.std.specs.List.{AllByRecursion}
use Rattle.std.proofs.lemmas.Bool.{cases_eq, eqb-true, eqb-false, or_parts}
use Rattle.page_base.specs.declared.numbers.Mode.TheVariants.{S, X}
use Rattle.plain_model.specs.declared.stmt.Stmt.{Stmt}
use Rattle.plain_model.specs.declared.event.Event.{Event}
use Rattle.plain_model.specs.declared.event.LockName.{LockName}
use Rattle.plain_model.specs.declared.event.LockName.TheVariants.{All, Table}
use Rattle.plain_model.specs.Tables.{Change}
use Rattle.plain_model.specs.Journal.{Opening}
use Rattle.plain_model.specs.State.{Plain, Session, fresh_session, session, stmt_of, start, is_source, is_restoring, restored}
use Rattle.plain_model.specs.Holding.{holds}
use Rattle.plain_model.specs.Legal.{MayCome, Legal, after, end, without_restoring}
use Rattle.plain_steps.proofs.SplitLemmas.{along}
use Rattle.plain_steps.proofs.LockLemmas.{writes_in_the_way}
use Rattle.plain_steps.proofs.StepLemmas.{at, Current, Same, Enters, Leaves}
use Rattle.plain_steps.proofs.EventLemmas.{Reverting, Goes, Over, Begun, Step, who_of, step}
use Rattle.plain_steps.proofs.HoldLemmas.{IsUnder, held_now, writes_stay, way_of_write, tabled_now, nothing_held, idle_now, covered_now}

-- the statement that comes next at a place
abbrev pub stmt_at : Plain → ℕ → Option Stmt
stmt_at st i = slice_get (get_or st.scripts i []) (at st i).said

-- nobody is there that could change the source
pub record IsOut (st : Plain) (i : ℕ) : Type 0 where
  pub locks : (at st i).locks ≡ []
  pub idles : (is_source st (at st i).current ≡ false) ⊎ ((stmt_at st i ≡ None) ⊎ (length st.sessions ≤ i))

-- while a session reverts the source it is outside a transaction, and all others are out
pub record Rests (st : Plain) (r : ℕ × List ℕ) : Type 0 where
  pub low : 1 ≤ r.0
  pub outside : (at st (r.0 - 1)).depth ≡ 0
  pub others : (i : ℕ) → i ≢ r.0 - 1 → IsOut st i

-- What holds in each state.
pub record Sane (st : Plain) : Type 0 where
  -- a table that one session holds in X no other holds
  pub exclusive : (i j : ℕ) (name : LockName) → i ≢ j → holds (at st i).locks name X ≡ true → holds (at st j).locks name S ≡ true → ⊥
  -- outside a transaction nothing waits
  pub idle : (i : ℕ) → (at st i).depth ≡ 0 → (at st i).work ≡ []
  -- what waits is rows of tables that its session holds in X
  pub covered : (i : ℕ) → AllByRecursion (IsUnder (at st i).locks) (at st i).work
  -- who holds a table holds the table of tables
  pub tabled : (i : ℕ) (table : List ℕ) → holds (at st i).locks (Table table) S ≡ true → holds (at st i).locks All S ≡ true
  -- a revert has the source for itself
  pub rests : (r : ℕ × List ℕ) → st.restoring ≡ Some r → Rests st r

-- A REVERT

-- while a revert goes on, a database that isn't restoring isn't the source
not_source : (st : Plain) (d : List ℕ) (r : ℕ × List ℕ) → st.restoring ≡ Some r → is_restoring st d ≡ false → is_source st d ≡ false
not_source st d r e h =
    let there : is_restoring (record st { restoring = Some r }) d ≡ false = subst (λ (o : Option (ℕ × List ℕ)). is_restoring (record st { restoring = o }) d ≡ false) e h in
    (or_parts (is_source st d) (bytes_eq r.1 d) there).0

-- who reverts is the session that has begun to
pub restored_by : (st : Plain) (k : ℕ) (begun : List ℕ) → restored st k ≡ Some begun → (r : ℕ × List ℕ) × (st.restoring ≡ Some r) × (r.0 ≡ k)
restored_by st k begun h = by st.restoring refl h
  where
    by : (o : Option (ℕ × List ℕ)) → st.restoring ≡ o → restored (record st { restoring = o }) k ≡ Some begun → (r : ℕ × List ℕ) × (st.restoring ≡ Some r) × (r.0 ≡ k)
    by None e h = absurd (cc)
    by (Some r) e h = (r, e, at_last (r.0 == k) refl h)
      where
        at_last : (b : Bool) → (r.0 == k) ≡ b → cond {A = Option (List ℕ)} b (Some r.1) None ≡ Some begun → r.0 ≡ k
        at_last true t h = eqb-true r.0 k t
        at_last false t h = absurd (cc)

still_some : (k : ℕ) (o : Option (ℕ × List ℕ)) (r : ℕ × List ℕ) → without_restoring k o ≡ Some r → (o ≡ Some r) × (r.0 ≢ k)
still_some k None r e = absurd (cc)
still_some k (Some q) r e = by (q.0 == k) refl e
  where
    by : (b : Bool) → (q.0 == k) ≡ b → cond {A = Option (ℕ × List ℕ)} b None (Some q) ≡ Some r → (Some q ≡ Some r) × (r.0 ≢ k)
    by true t e = absurd (cc)
    by false t e = let same : q ≡ r = cc in (e, λ is. eqb-false q.0 k t (ap (λ (x : ℕ × List ℕ). x.0) same ∙ is))

-- ONE EVENT

module _ (st st' : Plain) (k : ℕ) (x : Step st st' k) (sane : Sane st) where
  mine : (i : ℕ) → i ≡ k - 1 → at st' i ≡ x.s
  mine i e = ap (at st') e ∙ x.here

  exclusive_step : (i j : ℕ) (name : LockName) → i ≢ j → holds (at st' i).locks name X ≡ true → holds (at st' j).locks name S ≡ true → ⊥
  exclusive_step i j name ne hi hj = elim (cases_eq i (k - 1)) [
    | inl ei ↦ elim (cases_eq j (k - 1)) [
      | inl ej ↦ ne (ei ∙ sym ej)
      | inr nj ↦
          let gi = subst (λ (t : Session). holds t.locks name X ≡ true) (mine i ei) hi in
          let gj = subst (λ (t : Session). holds t.locks name S ≡ true) (x.others j nj) hj in
          elim (held_now st k x.s x.locks name X gi) [
            | inl old ↦ sane.exclusive (k - 1) j name (λ e. nj (sym e)) old gj
            | inr g ↦ let y : true ≡ false = sym (way_of_write (at st j).locks name g.0 g.1 gj) ∙ g.2 j nj in absurd (cc)
          ]
    ]
    | inr ni ↦
        let gi = subst (λ (t : Session). holds t.locks name X ≡ true) (x.others i ni) hi in
        elim (cases_eq j (k - 1)) [
          | inl ej ↦
              let gj = subst (λ (t : Session). holds t.locks name S ≡ true) (mine j ej) hj in
              elim (held_now st k x.s x.locks name S gj) [
                | inl old ↦ sane.exclusive i (k - 1) name ni gi old
                | inr g ↦ let y : true ≡ false = sym (writes_in_the_way (at st i).locks name g.0 gi) ∙ g.2 i ni in absurd (cc)
              ]
          | inr nj ↦ sane.exclusive i j name ne gi (subst (λ (t : Session). holds t.locks name S ≡ true) (x.others j nj) hj)
        ]
  ]

  idle_step : (i : ℕ) → (at st' i).depth ≡ 0 → (at st' i).work ≡ []
  idle_step i z = elim (cases_eq i (k - 1)) [
    | inl e ↦ ap (λ (t : Session). t.work) (mine i e) ∙ idle_now st k x.s.work x.s.depth st'.journal x.history (sane.idle (k - 1)) (sym (ap (λ (t : Session). t.depth) (mine i e)) ∙ z)
    | inr ne ↦ ap (λ (t : Session). t.work) (x.others i ne) ∙ sane.idle i (sym (ap (λ (t : Session). t.depth) (x.others i ne)) ∙ z)
  ]

  covered_step : (i : ℕ) → AllByRecursion (IsUnder (at st' i).locks) (at st' i).work
  covered_step i = elim (cases_eq i (k - 1)) [
    | inl e ↦ subst (λ (t : Session). AllByRecursion (IsUnder t.locks) t.work) (sym (mine i e)) (elim (writes_stay st k x.s x.locks) [
      | inl z ↦ subst (λ (cs : List Change). AllByRecursion (IsUnder x.s.locks) cs) (sym (idle_now st k x.s.work x.s.depth st'.journal x.history (sane.idle (k - 1)) z)) tt
      | inr keep ↦ covered_now st k x.s.work x.s.depth st'.journal x.s.locks x.history keep (sane.covered (k - 1))
    ])
    | inr ne ↦ subst (λ (t : Session). AllByRecursion (IsUnder t.locks) t.work) (sym (x.others i ne)) (sane.covered i)
  ]

  tabled_step : (i : ℕ) (table : List ℕ) → holds (at st' i).locks (Table table) S ≡ true → holds (at st' i).locks All S ≡ true
  tabled_step i table h = elim (cases_eq i (k - 1)) [
    | inl e ↦ subst (λ (t : Session). holds t.locks All S ≡ true) (sym (mine i e)) (tabled_now st k x.s x.locks (sane.tabled (k - 1)) table (subst (λ (t : Session). holds t.locks (Table table) S ≡ true) (mine i e) h))
    | inr ne ↦ subst (λ (t : Session). holds t.locks All S ≡ true) (sym (x.others i ne)) (sane.tabled i table (subst (λ (t : Session). holds t.locks (Table table) S ≡ true) (x.others i ne) h))
  ]

  away : (d : List ℕ) → is_source st d ≡ false → is_source st' d ≡ false
  away d h = ap (λ (o : Opening). bytes_eq d o.source) x.opening ∙ h

  past : (i : ℕ) → length st.sessions ≤ i → length st'.sessions ≤ i
  past i h = let n = x.size in omega (arith, n, h)

  mute : (i n : ℕ) → slice_get (get_or st.scripts i []) n ≡ None → slice_get (get_or st'.scripts i []) n ≡ None
  mute i n h = ap (λ (ss : List (List Stmt)). slice_get (get_or ss i []) n) x.scripts ∙ h

  -- who was out stays out, while the revert goes on
  module _ (r : ℕ × List ℕ) (on : st.restoring ≡ Some r) where
    out_mine : IsOut st (k - 1) → IsOut st' (k - 1)
    out_mine out = record {
      locks = ap (λ (t : Session). t.locks) x.here ∙ nothing_held st k x.s x.locks out.locks out.idles;
      idles = by x.current out.idles;
    }
      where
        quiet : stmt_of st k ≡ None → (is_source st' (at st' (k - 1)).current ≡ false) ⊎ ((stmt_at st' (k - 1) ≡ None) ⊎ (length st'.sessions ≤ k - 1))
        quiet none = inr (inl (ap (λ (t : Session). slice_get (get_or st'.scripts (k - 1) []) t.said) x.here ∙ ap (slice_get (get_or st'.scripts (k - 1) [])) (x.said none) ∙ mute (k - 1) (session st k).said none))

        by : Current st k x.s.current → (is_source st (at st (k - 1)).current ≡ false) ⊎ ((stmt_at st (k - 1) ≡ None) ⊎ (length st.sessions ≤ k - 1)) → (is_source st' (at st' (k - 1)).current ≡ false) ⊎ ((stmt_at st' (k - 1) ≡ None) ⊎ (length st'.sessions ≤ k - 1))
        by (Same e) (inl h) = inl (ap (λ (t : Session). is_source st' t.current) x.here ∙ ap (is_source st') e ∙ away (session st k).current h)
        by (Same e) (inr (inl h)) = quiet h
        by (Same e) (inr (inr h)) = inr (inr (past (k - 1) h))
        by (Enters h) idles = inl (ap (λ (t : Session). is_source st' t.current) x.here ∙ away x.s.current (not_source st x.s.current r on h))
        by (Leaves none) idles = quiet none

    out_other : (i : ℕ) → i ≢ k - 1 → IsOut st i → IsOut st' i
    out_other i ne out = record {
      locks = ap (λ (t : Session). t.locks) (x.others i ne) ∙ out.locks;
      idles = elim out.idles [
        | inl h ↦ inl (ap (λ (t : Session). is_source st' t.current) (x.others i ne) ∙ away (at st i).current h)
        | inr (inl h) ↦ inr (inl (ap (λ (t : Session). slice_get (get_or st'.scripts i []) t.said) (x.others i ne) ∙ mute i (at st i).said h))
        | inr (inr h) ↦ inr (inr (past i h))
      ];
    }

    out_step : (i : ℕ) → IsOut st i → IsOut st' i
    out_step i out = elim (cases_eq i (k - 1)) [
      | inl e ↦ subst (λ n. IsOut st' n) (sym e) (out_mine (subst (λ n. IsOut st n) e out))
      | inr ne ↦ out_other i ne out
    ]

  rests_step : (r : ℕ × List ℕ) → st'.restoring ≡ Some r → Rests st' r
  rests_step r on = by x.restoring
    where
      by : Reverting st k x.s.depth st'.restoring → Rests st' r
      by (Goes e d) =
          let was : st.restoring ≡ Some r = sym e ∙ on in
          let old = sane.rests r was in
          record {
            low = old.low;
            outside = elim (cases_eq (r.0 - 1) (k - 1)) [
              | inl same ↦ ap (λ (t : Session). t.depth) (mine (r.0 - 1) same) ∙ elim d [ inl s ↦ s ∙ sym (ap (λ n. (at st n).depth) same) ∙ old.outside | inr z ↦ z ]
              | inr ne ↦ ap (λ (t : Session). t.depth) (x.others (r.0 - 1) ne) ∙ old.outside
            ];
            others = λ i ne. out_step r was i (old.others i ne);
          }
      by (Over low e) =
          let was = still_some k st.restoring r (sym e ∙ on) in
          let old = sane.rests r was.0 in
          record {
            low = old.low;
            outside = ap (λ (t : Session). t.depth) (x.others (r.0 - 1) (λ same. let a = old.low in was.1 (omega (arith, same, low, a)))) ∙ old.outside;
            others = λ i ne. out_step r was.0 i (old.others i ne);
          }
      by (Begun snap low e b d) =
          let is : (k, snap) ≡ r = cc in
          subst (λ (q : ℕ × List ℕ). Rests st' q) is (record {
            low = low;
            outside = ap (λ (t : Session). t.depth) x.here ∙ d ∙ b.outside;
            others = λ i ne. record {
              locks = ap (λ (t : Session). t.locks) (x.others i ne) ∙ (b.others i ne).0;
              idles = elim (b.others i ne).1 [
                | inl h ↦ inl (ap (λ (t : Session). is_source st' t.current) (x.others i ne) ∙ away (at st i).current h)
                | inr h ↦ inr (inr (past i h))
              ];
            };
          })

  -- what holds before an event holds behind it
  pub sane_next : Sane st'
  sane_next = record {
    exclusive = exclusive_step;
    idle = idle_step;
    covered = covered_step;
    tabled = tabled_step;
    rests = rests_step;
  }

-- A WHOLE HISTORY

-- so it is of each event that may come
pub sane_after : (st : Plain) (e : Event) → Sane st → MayCome st e → Sane (after st e)
sane_after st e sane may = sane_next st (after st e) (who_of e) (step st e may) sane

-- at first each session is a fresh one
pub fresh_at : (scripts : List (List Stmt)) (i : ℕ) → get_or (map (λ (_ : List Stmt). fresh_session) scripts) i fresh_session ≡ fresh_session
fresh_at [] i = refl
fresh_at (s ∷ ss) zero = refl
fresh_at (s ∷ ss) (suc i) = fresh_at ss i

-- then all of it holds
pub sane_start : (opening : Opening) (scripts : List (List Stmt)) → Sane (start opening scripts)
sane_start opening scripts = record {
  exclusive = λ i j name ne h g. absurd (let x : false ≡ true = subst (λ (t : Session). holds t.locks name X ≡ true) (fresh_at scripts i) h in cc);
  idle = λ i z. ap (λ (t : Session). t.work) (fresh_at scripts i);
  covered = λ i. subst (λ (t : Session). AllByRecursion (IsUnder t.locks) t.work) (sym (fresh_at scripts i)) tt;
  tabled = λ i table h. absurd (let x : false ≡ true = subst (λ (t : Session). holds t.locks (Table table) S ≡ true) (fresh_at scripts i) h in cc);
  rests = λ r e. absurd (cc);
}

-- every state of a legal history is sane
pub sane_end : (opening : Opening) (scripts : List (List Stmt)) (book : List Event) → Legal opening scripts book → Sane (end opening scripts book)
sane_end opening scripts book legal = along Sane sane_after (start opening scripts) book (sane_start opening scripts) legal

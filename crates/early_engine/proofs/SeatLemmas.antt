-- The sessions of an engine, and the machine around one of them.
use Rattle.std.proofs.Common.{◌≡◌, ◌≢◌, ◌+◌, ◌-◌, ◌*◌, ◌<◌, ◌≤◌, inl, inr, ℕ, suc, zero, true, false, nat_eq, cond, List, [], ◌∷◌, ◌++◌, length, get_or, refl, ap, sym, ◌∙◌, subst, arith, length-set, length-append, append-nil, eq-eqb}
use Rattle.std.proofs.Math.ListN.{set}
use Rattle.std.proofs.lemmas.Bool.{cases_eq, cases_lt, le-leb, ne_eqb}
use Rattle.std.proofs.lemmas.List.{get_or_past, get_or-set_same, get_or-set_other}
use Rattle.std.proofs.lemmas.List.Elements.{filter_map-append}
use Rattle.std.specs.Prelude.{None}
use Rattle.std.specs.List.{filter_map, AllByRecursion}
use Rattle.plain_model.specs.declared.stmt.Stmt.{Stmt}
use Rattle.plain_model.specs.declared.event.Event.{Event}
use Rattle.plain_model.specs.declared.event.Event.TheVariants.{Said}
use Rattle.plain_model.specs.State.{Session, fresh_session, session}
use Rattle.plain_model.specs.Sound.{AreScripts}
use Rattle.plain_model.specs.Complete.{Mark, Answered, mark_of}
use Rattle.early_pages.specs.Shown.{Shown}
use Rattle.early_engine.specs.declared.seat.Seat.{Seat}
use Rattle.early_engine.specs.declared.answer.Answer.{Answer}
use Rattle.early_engine.specs.declared.answer.Answer.TheVariants.{AtOnce, UnderAll, UnderTable}
use Rattle.early_engine.specs.Ready.{reply_of}
use Rattle.early_engine.specs.Pushing.{IsTurn}
use Rattle.early_engine.specs.Stepping.{number, idle, Around, lock_events, statement_events}
use Rattle.early_engine.specs.Safe.{Run, state, seat_at, no_seat, script_at, InStep, IsSeated, AreSeated, marks_of, dues}

-- THE MACHINE AROUND A SESSION

module _ (e : Run) (step : InStep e) (seated : AreSeated e) (i : ℕ) (lt : i < length e.scripts) where
  no_locks : (j : ℕ) → ((get_or (state e).sessions j fresh_session).locks ≡ []) × ((get_or (state e).sessions j fresh_session).making ≡ None)
  no_locks j = elim (cases_lt j (length e.scripts)) [
    | inl l ↦ let s = seated.each j l in (ap (λ (t : Session). t.locks) s.is, ap (λ (t : Session). t.making) s.is)
    | inr ge ↦ let past = get_or_past (state e).sessions j fresh_session (let n = seated.sessions in omega (arith, ge, n)) in (ap (λ (t : Session). t.locks) past, ap (λ (t : Session). t.making) past)
  ]

  pub around : Around e.opening (state e) (i + 1)
  around = record {
    there = let n = seated.sessions in rw (le-leb 1 (i + 1) (omega arith), le-leb (i + 1) (length (state e).sessions) (omega (arith, n, lt))) refl;
    opened = step.opened;
    settled = step.settled;
    others = λ j ne. no_locks j;
  }

  pub session_is : session (state e) (i + 1) ≡ get_or (state e).sessions i fresh_session
  session_is = ap (λ n. get_or (state e).sessions n fresh_session) (omega arith)

-- WHAT THE EVENTS TELL OF EACH SESSION

locks_unmarked : (k m : ℕ) (a : Answer) → filter_map (mark_of m) (lock_events k a) ≡ []
locks_unmarked k m (AtOnce r) = refl
locks_unmarked k m (UnderAll md r) = refl
locks_unmarked k m (UnderTable n md r) = refl

pub turns_unmarked : (old new : Shown) (m : ℕ) (es : List Event) → AllByRecursion (IsTurn old new) es → filter_map (mark_of m) es ≡ []
turns_unmarked old new m [] h = refl
turns_unmarked old new m (e ∷ es) h = let is = h.0.is in rw is (turns_unmarked old new m es h.1)

pub statement_marks : (old new : Shown) (k n b : ℕ) (a : Answer) (es : List Event) → AllByRecursion (IsTurn old new) es → filter_map (mark_of k) (statement_events k n b a es) ≡ Answered n ∷ []
statement_marks old new k n b a es h =
    filter_map-append (mark_of k) (lock_events k a) (es ++ Said (number k) n b (reply_of a) ∷ [])
    ∙ ap (λ (ms : List Mark). ms ++ filter_map (mark_of k) (es ++ Said (number k) n b (reply_of a) ∷ [])) (locks_unmarked k k a)
    ∙ filter_map-append (mark_of k) es (Said (number k) n b (reply_of a) ∷ [])
    ∙ ap (λ (ms : List Mark). ms ++ filter_map (mark_of k) (Said (number k) n b (reply_of a) ∷ [])) (turns_unmarked old new k es h)
    ∙ (let same : nat_eq k k ≡ true = eq-eqb k k refl in rw same refl)

pub statement_unmarked : (old new : Shown) (k m n b : ℕ) (a : Answer) (es : List Event) → k ≢ m → AllByRecursion (IsTurn old new) es → filter_map (mark_of m) (statement_events k n b a es) ≡ []
statement_unmarked old new k m n b a es ne h =
    filter_map-append (mark_of m) (lock_events k a) (es ++ Said (number k) n b (reply_of a) ∷ [])
    ∙ ap (λ (ms : List Mark). ms ++ filter_map (mark_of m) (es ++ Said (number k) n b (reply_of a) ∷ [])) (locks_unmarked k m a)
    ∙ filter_map-append (mark_of m) es (Said (number k) n b (reply_of a) ∷ [])
    ∙ ap (λ (ms : List Mark). ms ++ filter_map (mark_of m) (Said (number k) n b (reply_of a) ∷ [])) (turns_unmarked old new m es h)
    ∙ (let other : nat_eq k m ≡ false = ne_eqb k m ne in rw other refl)

-- ONE SESSION GOES ON

-- what a step of session i does to its seat, the machine's session and the history
pub record Seats (e e' : Run) (i : ℕ) (seat : Seat) (events : List Event) : Type 0 where
  pub scripts : e'.scripts ≡ e.scripts
  pub seats : e'.seats ≡ set e.seats i seat
  pub more : e'.kept.events ≡ e.kept.events ++ events
  pub moment : ℕ
  pub now : moment ≤ length e'.kept.events
  pub sessions : (state e').sessions ≡ set (state e).sessions (i + 1 - 1) (idle seat.said seat.current seat.gone moment)
  pub said : seat.said ≤ length (script_at e i)
  pub gone : seat.gone ≡ true → seat.said ≡ length (script_at e i)
  pub marks : marks_of (seat_at e i) ++ filter_map (mark_of (i + 1)) events ≡ marks_of seat
  pub others : (j : ℕ) → i ≢ j → filter_map (mark_of (j + 1)) events ≡ []

module _ (e e' : Run) (seated : AreSeated e) (i : ℕ) (lt : i < length e.scripts) (seat : Seat) (events : List Event) (goes : Seats e e' i seat events) where
  same_script : (j : ℕ) → script_at e' j ≡ script_at e j
  same_script j = ap (λ (ss : List (List Stmt)). get_or ss j []) goes.scripts

  in_seats : i < length e.seats
  in_seats = let n = seated.seats in omega (arith, n, lt)

  seat_here : seat_at e' i ≡ seat
  seat_here = ap (λ (ss : List Seat). get_or ss i no_seat) goes.seats ∙ get_or-set_same e.seats i seat no_seat in_seats

  seat_there : (j : ℕ) → i ≢ j → seat_at e' j ≡ seat_at e j
  seat_there j ne = ap (λ (ss : List Seat). get_or ss j no_seat) goes.seats ∙ get_or-set_other e.seats i j seat no_seat (λ same. ne (sym same))

  back : i + 1 - 1 ≡ i
  back = omega arith

  longer : length e.kept.events ≤ length e'.kept.events
  longer = let m = goes.more in rw m (simp length-append (omega arith))

  seated_one : (j : ℕ) → j < length e.scripts → IsSeated (seat_at e' j) (get_or (state e').sessions j fresh_session) (length e'.kept.events)
  seated_one j l = elim (cases_eq i j) [
    | inl same ↦ record {
      since = goes.moment;
      is = ap (λ (ss : List Session). get_or ss j fresh_session) goes.sessions ∙ ap (λ n. get_or (set (state e).sessions (i + 1 - 1) (idle seat.said seat.current seat.gone goes.moment)) n fresh_session) (sym same ∙ sym back)
          ∙ get_or-set_same (state e).sessions (i + 1 - 1) (idle seat.said seat.current seat.gone goes.moment) fresh_session (let n = seated.sessions in omega (arith, n, lt))
          ∙ ap (λ (t : Seat). idle t.said t.current t.gone goes.moment) (sym seat_here ∙ ap (seat_at e') same);
      old = goes.now;
    }
    | inr ne ↦ let s = seated.each j l in record {
      since = s.since;
      is = ap (λ (ss : List Session). get_or ss j fresh_session) goes.sessions ∙ get_or-set_other (state e).sessions (i + 1 - 1) j (idle seat.said seat.current seat.gone goes.moment) fresh_session (λ is. ne (sym back ∙ sym is))
          ∙ s.is ∙ ap (λ (t : Seat). idle t.said t.current t.gone s.since) (sym (seat_there j ne));
      old = let o = s.old in let g = longer in omega (arith, o, g);
    }
  ]

  marks_one : (j : ℕ) → j < length e.scripts → filter_map (mark_of (j + 1)) e'.kept.events ≡ marks_of (seat_at e' j)
  marks_one j l =
      let split : filter_map (mark_of (j + 1)) e'.kept.events ≡ filter_map (mark_of (j + 1)) e.kept.events ++ filter_map (mark_of (j + 1)) events =
      ap (filter_map (mark_of (j + 1))) goes.more ∙ filter_map-append (mark_of (j + 1)) e.kept.events events in
      let old : filter_map (mark_of (j + 1)) e.kept.events ++ filter_map (mark_of (j + 1)) events ≡ marks_of (seat_at e j) ++ filter_map (mark_of (j + 1)) events =
      ap (λ (ms : List Mark). ms ++ filter_map (mark_of (j + 1)) events) (seated.marks j l) in
      split ∙ old ∙ elim (cases_eq i j) [
        | inl same ↦ ap (λ n. marks_of (seat_at e n) ++ filter_map (mark_of (n + 1)) events) (sym same) ∙ goes.marks ∙ ap marks_of (sym seat_here ∙ ap (seat_at e') same)
        | inr ne ↦ ap (λ (ms : List Mark). marks_of (seat_at e j) ++ ms) (goes.others j ne) ∙ append-nil (marks_of (seat_at e j)) ∙ ap marks_of (sym (seat_there j ne))
      ]

  pub seated_next : AreSeated e'
  seated_next = record {
    scripts = subst AreScripts (sym goes.scripts) seated.scripts;
    seats = ap length goes.seats ∙ length-set e.seats i seat ∙ seated.seats ∙ ap length (sym goes.scripts);
    sessions = ap length goes.sessions ∙ length-set (state e).sessions (i + 1 - 1) (idle seat.said seat.current seat.gone goes.moment) ∙ seated.sessions ∙ ap length (sym goes.scripts);
    each = λ j l. seated_one j (old_lt j l);
    said = λ j l. elim (cases_eq i j) [
      | inl same ↦ subst (λ n. (seat_at e' n).said ≤ length (script_at e' n)) same (rw (seat_here, same_script i) goes.said)
      | inr ne ↦ rw (seat_there j ne, same_script j) (seated.said j (old_lt j l))
    ];
    gone = λ j l. elim (cases_eq i j) [
      | inl same ↦ subst (λ n. (seat_at e' n).gone ≡ true → (seat_at e' n).said ≡ length (script_at e' n)) same (rw (seat_here, same_script i) goes.gone)
      | inr ne ↦ rw (seat_there j ne, same_script j) (seated.gone j (old_lt j l))
    ];
    marks = λ j l. marks_one j (old_lt j l);
  }
    where
      old_lt : (j : ℕ) → j < length e'.scripts → j < length e.scripts
      old_lt j l = subst (λ (ss : List (List Stmt)). j < length ss) goes.scripts l

-- ROOM

-- what is due of the one session changes, and nothing else
pub dues_set : (scripts : List (List Stmt)) (seats : List Seat) (i : ℕ) (seat : Seat) → i < length scripts → i < length seats →
    dues scripts (set seats i seat) + (3 * (length (get_or scripts i []) - (get_or seats i no_seat).said) + cond (get_or seats i no_seat).gone 0 1)
    ≡ dues scripts seats + (3 * (length (get_or scripts i []) - seat.said) + cond seat.gone 0 1)
dues_set [] seats i seat l m = absurd (omega (arith, l))
dues_set (s ∷ ss) [] i seat l m = absurd (omega (arith, m))
dues_set (s ∷ ss) (t ∷ ts) zero seat l m = omega arith
dues_set (s ∷ ss) (t ∷ ts) (suc i) seat l m = let h = dues_set ss ts i seat (omega (arith, l)) (omega (arith, m)) in omega (arith, h)

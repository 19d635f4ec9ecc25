-- A session that leaves.
use Rattle.std.proofs.Common.{◌≡◌, ◌+◌, ◌-◌, ◌<◌, ◌⊎◌, inl, inr, ℕ, Bool, true, false, cond, List, [], ◌∷◌, ◌++◌, length, map, get_or, refl, ap, sym, ◌∙◌, subst, arith, length-append, append-nil, eq-eqb, nat_eq}
use Rattle.std.proofs.Math.ListN.{set}
use Rattle.std.proofs.lemmas.Bool.{ne_eqb}
use Rattle.std.proofs.lemmas.Option.{slice_get_past}
use Rattle.std.proofs.lemmas.List.Folds.{list_any-append}
use Rattle.std.specs.Prelude.{None, slice_get}
use Rattle.std.specs.List.{filter_map, range_with_len, list_any}
use Rattle.std.specs.Str.{bytes_eq}
use Rattle.std.specs.FinMap as finite
use Rattle.plain_model.specs.declared.stmt.Stmt.{Stmt}
use Rattle.plain_model.specs.declared.event.Event.{Event}
use Rattle.plain_model.specs.declared.event.Event.TheVariants.{Left}
use Rattle.plain_model.specs.Tables.{Tables}
use Rattle.plain_model.specs.State as plain
use Rattle.plain_model.specs.State.{Plain, Session, fresh_session, session, stmt_of, is_session, committed, copy, master}
use Rattle.plain_model.specs.Legal.{MayCome, after}
use Rattle.plain_model.specs.Complete.{Mark, Answered, Gone, mark_of}
use Rattle.early_pages.specs.Shown.{img}
use Rattle.early_pages.specs.Views.{view}
use Rattle.table_pages.specs.Carried.{data_pages}
use Rattle.early_engine.specs.declared.seat.Seat.{Seat}
use Rattle.early_engine.specs.Entering.{entered}
use Rattle.early_engine.specs.Pushing.{name_of}
use Rattle.early_engine.specs.Stepping.{number, idle, Around}
use Rattle.early_engine.specs.Safe.{Run, state, seat_at, script_at, InStep, AreSeated, IsSeated, marks_of, AreTables, AreCopies, AreOut, is_turn, AreBlamed, HasRoom, Safe}
use Rattle.early_engine.proofs.Stepping.{legal_append, end_append}
use Rattle.early_engine.proofs.SafeLemmas.{either}
use Rattle.early_engine.proofs.SeatLemmas.{around, session_is, seated_next, dues_set}

module _ (e : Run) (safe : Safe e) (i : ℕ) (lt : i < length e.scripts) (here : (seat_at e i).gone ≡ false) (all : (seat_at e i).said ≡ length (script_at e i)) where
  abbrev said : ℕ
  said = (seat_at e i).said

  abbrev seat : Seat
  seat = record { current = master; said = said; gone = true }

  abbrev event : Event
  event = Left (number (i + 1))

  abbrev next : Run
  next = record e { seats = set e.seats i seat; kept = entered e.kept event }

  round : Around e.opening (state e) (i + 1)
  round = around e safe.machine safe.sessions i lt

  seated_here : IsSeated (seat_at e i) (get_or (state e).sessions i fresh_session) (length e.kept.events)
  seated_here = safe.sessions.each i lt

  here_is : session (state e) (i + 1) ≡ idle said (seat_at e i).current false seated_here.since
  here_is = session_is e safe.machine safe.sessions i lt ∙ seated_here.is ∙ ap (λ (g : Bool). idle said (seat_at e i).current g seated_here.since) here

  script_is : get_or (state e).scripts (i + 1 - 1) [] ≡ script_at e i
  script_is = ap (λ (ss : List (List Stmt)). get_or ss (i + 1 - 1) []) safe.machine.scripts ∙ ap (λ n. get_or e.scripts n []) (omega arith)

  no_more : stmt_of (state e) (i + 1) ≡ None
  no_more = ap (λ (s : Session). slice_get (get_or (state e).scripts (i + 1 - 1) []) s.said) here_is ∙ ap (λ (ss : List Stmt). slice_get ss said) script_is ∙ slice_get_past (script_at e i) said (omega (arith, all))

  may : MayCome (state e) event
  may = (round.there, no_more, ap (λ (s : Session). s.gone) here_is)

  leads : state next ≡ after (state e) event
  leads = end_append (plain.start e.opening e.scripts) e.kept.events (event ∷ [])

  machine_next : InStep next
  machine_next = record {
    legal = λ told. legal_append (plain.start e.opening e.scripts) e.kept.events (event ∷ []) (safe.machine.legal told) (may, tt);
    moment = ap (λ (st : Plain). st.moment) leads ∙ (let m = safe.machine.moment in let l = length-append e.kept.events (event ∷ []) in omega (arith, m, l));
    opened = ap (λ (st : Plain). st.opening) leads ∙ safe.machine.opened;
    scripts = ap (λ (st : Plain). st.scripts) leads ∙ safe.machine.scripts;
    settled = ap (λ (st : Plain). st.restoring) leads ∙ safe.machine.settled;
    snaps = ap (λ (st : Plain). st.snaps) leads ∙ safe.machine.snaps;
    next_cut = ap (λ (st : Plain). st.next_cut) leads ∙ safe.machine.next_cut;
    apart = safe.machine.apart;
  }

  longer : length (e.kept.events ++ event ∷ []) ≡ length e.kept.events + 1
  longer = length-append e.kept.events (event ∷ [])

  marks_more : marks_of (seat_at e i) ++ filter_map (mark_of (i + 1)) (event ∷ []) ≡ marks_of seat
  marks_more =
      ap (λ (g : Bool). (map Answered (range_with_len 1 said) ++ cond g (Gone ∷ []) []) ++ filter_map (mark_of (i + 1)) (event ∷ [])) here
      ∙ ap (λ (ms : List Mark). ms ++ filter_map (mark_of (i + 1)) (event ∷ [])) (append-nil (map Answered (range_with_len 1 said)))
      ∙ (let same : nat_eq (i + 1) (i + 1) ≡ true = eq-eqb (i + 1) (i + 1) refl in rw same refl)

  sessions_next : AreSeated next
  sessions_next = seated_next e next safe.sessions i lt seat (event ∷ []) (record {
    scripts = refl;
    seats = refl;
    more = refl;
    moment = seated_here.since;
    now = let o = seated_here.old in let l = longer in omega (arith, o, l);
    sessions = ap (λ (st : Plain). st.sessions) leads ∙ ap (λ (s : Session). set (state e).sessions (i + 1 - 1) (record s { current = master; depth = 0; work = []; locks = []; gained = []; gone = true })) here_is;
    said = omega (arith, all);
    gone = λ h. all;
    marks = marks_more;
    others = λ j ne. let other : nat_eq (i + 1) (j + 1) ≡ false = ne_eqb (i + 1) (j + 1) (λ same. ne (omega (arith, same))) in rw other refl;
  })

  committed_is : committed (state next) ≡ committed (state e)
  committed_is = ap committed leads

  pages_next : AreCopies next
  pages_next = record {
    file = safe.pages.file;
    few = safe.pages.few;
    source = subst (λ (t : Tables). AreTables (data_pages e.shown) (img e.shown) t) (sym committed_is) safe.pages.source;
    copies = λ s kept. subst (λ (st : Plain). AreTables (data_pages e.shown) (view e.shown s) (copy st (name_of e.shown s))) (sym leads) (safe.pages.copies s kept);
  }

  files_next : AreOut next
  files_next = record {
    tells = safe.files.tells;
    names = λ told name. subst (λ (st : Plain). (list_any (bytes_eq name) st.in_doubt ≡ true) ⊎ (finite.contains_key e.disk.folder name ≡ list_any (bytes_eq name) st.on_volume)) (sym leads) (safe.files.names told name);
    out = safe.files.out;
    distinct = safe.files.distinct;
    single = safe.files.single;
  }

  blame_next : AreBlamed next
  blame_next = record {
    faults = safe.blame.faults;
    turned = λ h. elim (either (list_any is_turn e.kept.events) false (sym (list_any-append is_turn e.kept.events (event ∷ [])) ∙ h)) [ inl old ↦ safe.blame.turned old | inr new ↦ absurd (let x : false ≡ true = new in cc) ];
  }

  room_next : HasRoom next
  room_next =
      let s = safe.sessions.seats in
      let d = dues_set e.scripts e.seats i seat lt (omega (arith, s, lt)) in
      let one : ℕ = 1 in
      let g : cond (seat_at e i).gone 0 one ≡ one = ap (λ (b : Bool). cond b 0 one) here in
      let r = safe.room.room in
      let f = safe.room.few in
      let l = longer in
      record { room = omega (arith, d, g, r); few = omega (arith, d, g, r, f, l) }

  pub room_left : 0 < e.kept.room
  room_left =
      let s = safe.sessions.seats in
      let d = dues_set e.scripts e.seats i seat lt (omega (arith, s, lt)) in
      let one : ℕ = 1 in
      let g : cond (seat_at e i).gone 0 one ≡ one = ap (λ (b : Bool). cond b 0 one) here in
      let r = safe.room.room in
      omega (arith, d, g, r)

  pub safe_leave : Safe next
  safe_leave = record { machine = machine_next; sessions = sessions_next; pages = pages_next; files = files_next; blame = blame_next; room = room_next }

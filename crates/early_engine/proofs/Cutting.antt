-- CREATE DATABASE keeps what always holds of the engine.
use Rattle.std.proofs.Common.{◌≡◌, ◌≢◌, ◌+◌, ◌-◌, ◌<◌, ◌≤◌, ◌⊎◌, inl, inr, ℕ, Bool, true, false, ◌||◌, nat_eq, cond, IsTrue, List, [], ◌∷◌, ◌++◌, length, map, get_or, refl, ap, sym, ◌∙◌, subst, arith, length-append, append-nil, eq-eqb}
use Rattle.std.proofs.Math.ListN.{set}
use Rattle.std.specs.Prelude.{Option, Some, None, slice_get, unwrap_or, ◌==◌}
use Rattle.std.specs.List.{filter_map, range_with_len, list_any}
use Rattle.std.specs.Str.{bytes_eq}
use Rattle.std.specs.FinMap as finite
use Rattle.std.specs.FinSet as finset
use Rattle.std.proofs.lemmas.Bool.{cases_Bool, ne_eqb, eqb-false}
use Rattle.std.proofs.lemmas.List.Folds.{list_any-append}
use Rattle.std.proofs.lemmas.List.FromFn.{map-range_with_len_more}
use Rattle.std.proofs.lemmas.Option.{slice_get_within}
use Rattle.page_base.specs.declared.numbers.SessNo.{SessNo}
use Rattle.plain_model.specs.declared.stmt.Stmt.{Stmt}
use Rattle.plain_model.specs.declared.stmt.Stmt.TheVariants.{CreateSnap}
use Rattle.plain_model.specs.declared.stmt.SnapFile.{SnapFile}
use Rattle.plain_model.specs.declared.event.Event.{Event}
use Rattle.plain_model.specs.declared.event.Event.TheVariants.{Said}
use Rattle.plain_model.specs.declared.reply.Reply.{Reply}
use Rattle.plain_model.specs.declared.reply.Reply.TheVariants.{Msg}
use Rattle.plain_model.specs.declared.reply.TheConstants.Message.{FILE_FAILED, NO_ROOM}
use Rattle.plain_model.specs.Tables.{Tables}
use Rattle.plain_model.specs.Journal.{Opening}
use Rattle.plain_model.specs.Messages.{plain}
use Rattle.plain_model.specs.Next.{Cuts, next_of}
use Rattle.plain_model.specs.Next as next_words
use Rattle.plain_model.specs.Free.{IsFree}
use Rattle.plain_model.specs.State as plain_state
use Rattle.plain_model.specs.State.{Plain, Session, fresh_session, session, stmt_of, committed, copy, master}
use Rattle.plain_model.specs.Legal.{LegalFrom, MayCome, Legal, end, end_from, after, effect, with_doubt, without_made}
use Rattle.plain_model.specs.Complete.{Mark, Answered, Gone, mark_of}
use Rattle.early_pages.specs.Views.{view}
use Rattle.early_pages.specs.Shown.{Shown, img}
use Rattle.table_pages.specs.Carried.{data_pages}
use Rattle.early_engine.specs.declared.seat.Seat.{Seat}
use Rattle.early_engine.specs.Entering.{Kept, entered}
use Rattle.early_engine.specs.Pushing.{sound, name_of}
use Rattle.early_engine.specs.Ready.{Allowed}
use Rattle.early_engine.specs.Stepping.{number, idle, busy, mid, Around}
use Rattle.early_engine.specs.Safe.{Run, Disk, state, seat_at, script_at, InStep, AreSeated, marks_of, AreTables, is_turn, HasRoom, Safe}
use Rattle.early_engine.specs.Causes.{IsNoShortage, IsVolumeReply}
use Rattle.early_engine.specs.Creating.{IsAsked, Refuses}
use Rattle.early_engine.proofs.Stepping.{start_mid, session_mid, after_said, legal_append, end_append}
use Rattle.early_engine.proofs.SeatLemmas.{seated_next, dues_set}
use Rattle.early_engine.proofs.SafeLemmas.{either}
use Rattle.early_engine.proofs.Doubts.{has_without}
use Rattle.early_engine.proofs.CutLemmas.{round, here_is, seated_here}

-- WHAT A STATEMENT'S EVENTS LEAVE OF THE SESSIONS AND THE ROOM

module _ (source file : List ℕ) (disk0 : Disk) (v0 : Shown) (snap : List ℕ) (files : List SnapFile) (of : List ℕ) (e : Run) (i : ℕ) (asked : IsAsked source file disk0 v0 (CreateSnap snap files of) e i) where
  abbrev pub said : ℕ
  said = (seat_at e i).said

  abbrev pub current : List ℕ
  current = (seat_at e i).current

  abbrev pub since : ℕ
  since = (seated_here source file disk0 v0 snap files of e i asked).since

  abbrev pub stmt : Stmt
  stmt = CreateSnap snap files of

  abbrev pub next_seat : Seat
  next_seat = record { current = current; said = said + 1; gone = false }

  abbrev pub st : Plain
  st = state e

  pub around_here : Around e.opening st (i + 1)
  around_here = round source file disk0 v0 snap files of e i asked

  pub is_here : session st (i + 1) ≡ idle said current false since
  is_here = here_is source file disk0 v0 snap files of e i asked

  pub at_moment : st.moment ≡ length e.kept.events
  at_moment = asked.safe.machine.moment

  pub says_stmt : stmt_of st (i + 1) ≡ Some stmt
  says_stmt =
      ap (λ (ss : List (List Stmt)). slice_get (get_or ss (i + 1 - 1) []) (session st (i + 1)).said) asked.safe.machine.scripts
      ∙ ap (λ n. slice_get (get_or e.scripts n []) (session st (i + 1)).said) (omega arith)
      ∙ ap (λ (s : Session). slice_get (script_at e i) s.said) is_here ∙ asked.says

  pub says_at : slice_get (get_or st.scripts (i + 1 - 1) []) said ≡ Some stmt
  says_at =
      ap (λ (ss : List (List Stmt)). slice_get (get_or ss (i + 1 - 1) []) said) asked.safe.machine.scripts
      ∙ ap (λ n. slice_get (get_or e.scripts n []) said) (omega arith) ∙ asked.says

  pub begin : st ≡ mid st (i + 1) (busy said current false since [] None None) st.journal st.snaps st.moment
  begin = start_mid st (i + 1) around_here.there ∙ ap (λ (s : Session). mid st (i + 1) s st.journal st.snaps st.moment) is_here

  within_script : said < length (script_at e i)
  within_script = slice_get_within (script_at e i) said stmt asked.says

  -- the reply is one that may come
  pub reply_comes : (m : Plain) (making : Option (List ℕ)) (first : Option ℕ) (reply : Reply) → IsTrue (plain_state.is_session m (i + 1)) → session m (i + 1) ≡ busy said current false since [] first making → stmt_of m (i + 1) ≡ Some stmt →
      st.moment ≤ unwrap_or first m.moment → (next_of m (i + 1) (Some stmt) ≡ next_words.Replies reply) ⊎ IsFree m (i + 1) (Some stmt) reply → MayCome m (Said (number (i + 1)) (said + 1) (length e.kept.events) reply)
  reply_comes m making first reply there is says le allowed =
      let o = (seated_here source file disk0 v0 snap files of e i asked).old in
      let a = at_moment in (
        there,
        ap (λ (u : Session). u.said + 1) (sym is),
        (subst (λ (u : Session). u.since ≤ length e.kept.events) (sym is) o, subst (λ (u : Session). length e.kept.events ≤ unwrap_or u.first m.moment) (sym is) (subst (λ n. n ≤ unwrap_or first m.moment) a le)),
        elim allowed [
          | inl x ↦ inl (ap (next_of m (i + 1)) says ∙ x)
          | inr f ↦ inr (subst (λ (o : Option Stmt). IsFree m (i + 1) o reply) (sym says) f)
        ],
      )

  module _ (disk : Disk) (v : Shown) (kept : Kept) (events : List Event) (more : kept.events ≡ e.kept.events ++ events) (room : kept.room + length events ≡ e.kept.room) (few : length events + sound v ≤ 3 + sound e.shown)
      (marked : filter_map (mark_of (i + 1)) events ≡ Answered (said + 1) ∷ []) (others : (j : ℕ) → i ≢ j → filter_map (mark_of (j + 1)) events ≡ [])
      (to : Plain) (leads : end_from st events ≡ to) (sessions : to.sessions ≡ set st.sessions (i + 1 - 1) (idle (said + 1) current false (st.moment + length events))) where
    abbrev pub next : Run
    next = record e { disk = disk; shown = v; seats = set e.seats i next_seat; kept = kept }

    pub leads_here : state next ≡ to
    leads_here = ap (λ (es : List Event). end e.opening e.scripts es) more ∙ end_append (plain_state.start e.opening e.scripts) e.kept.events events ∙ leads

    pub legal_here : LegalFrom st events → IsTrue e.disk.told → Legal e.opening e.scripts kept.events
    legal_here may told = subst (λ (es : List Event). Legal e.opening e.scripts es) (sym more) (legal_append (plain_state.start e.opening e.scripts) e.kept.events events (asked.safe.machine.legal told) may)

    pub later_is : st.moment + length events ≡ length kept.events
    later_is = let m = at_moment in let l : length kept.events ≡ length (e.kept.events ++ events) = ap length more in let k : length (e.kept.events ++ events) ≡ length e.kept.events + length events = length-append e.kept.events events in omega (arith, m, l, k)

    marks_more : marks_of (seat_at e i) ++ filter_map (mark_of (i + 1)) events ≡ marks_of next_seat
    marks_more =
        ap (λ (g : Bool). (map Answered (range_with_len 1 said) ++ cond g (Gone ∷ []) []) ++ filter_map (mark_of (i + 1)) events) asked.here
        ∙ ap (λ (ms : List Mark). (map Answered (range_with_len 1 said) ++ []) ++ ms) marked
        ∙ ap (λ (ms : List Mark). ms ++ Answered (said + 1) ∷ []) (append-nil (map Answered (range_with_len 1 said)))
        ∙ sym (map-range_with_len_more Answered 1 said (said + 1) (omega arith)) ∙ sym (append-nil (map Answered (range_with_len 1 (said + 1))))

    pub sessions_next : AreSeated next
    sessions_next = seated_next e next asked.safe.sessions i asked.there next_seat events (record {
      scripts = refl;
      seats = refl;
      more = more;
      moment = st.moment + length events;
      now = let l = later_is in omega (arith, l);
      sessions = ap (λ (x : Plain). x.sessions) leads_here ∙ sessions;
      said = let w = within_script in omega (arith, w);
      gone = λ h. absurd (let x : false ≡ true = h in cc);
      marks = marks_more;
      others = others;
    })

    pub room_next : HasRoom next
    room_next =
        let w = within_script in
        let s = asked.safe.sessions.seats in
        let t = asked.there in
        let d = dues_set e.scripts e.seats i next_seat t (omega (arith, s, t)) in
        let one : ℕ = 1 in
        let g : cond (seat_at e i).gone 0 one ≡ one = ap (λ (b : Bool). cond b 0 one) asked.here in
        let h = asked.safe.room.room in
        let l : length kept.events ≡ length e.kept.events + length events = ap length more ∙ length-append e.kept.events events in
        let k = asked.safe.room.few in
        record {
          room = omega (arith, w, d, g, room, h, few);
          few = omega (arith, room, l, k);
        }

    pub turned_before : list_any is_turn events ≡ false → list_any is_turn kept.events ≡ true → list_any is_turn e.kept.events ≡ true
    turned_before quiet h =
        let split : (list_any is_turn e.kept.events || list_any is_turn events) ≡ true = sym (list_any-append is_turn e.kept.events events) ∙ sym (ap (list_any is_turn) more) ∙ h in
        elim (either (list_any is_turn e.kept.events) (list_any is_turn events) split) [
          | inl old ↦ old
          | inr new ↦ absurd (let x : false ≡ true = sym quiet ∙ new in cc)
        ]

-- A REFUSAL

module _ (source file : List ℕ) (disk0 : Disk) (v0 : Shown) (snap : List ℕ) (files : List SnapFile) (of : List ℕ) (e : Run) (i : ℕ) (asked : IsAsked source file disk0 v0 (CreateSnap snap files of) e i)
    (disk : Disk) (kept : Kept) (code : ℕ) (made : kept ≡ entered e.kept (Said (number (i + 1)) ((seat_at e i).said + 1) (length e.kept.events) (Msg (plain code)))) (room : 0 < e.kept.room)
    (same_told : disk.told ≡ e.disk.told) (same_out : disk.out ≡ e.disk.out)
    (may : IsTrue e.disk.told → Allowed (state e) (i + 1) (CreateSnap snap files of) (Msg (plain code))) where
  abbrev event : Event
  event = Said (number (i + 1)) ((seat_at e i).said + 1) (length e.kept.events) (Msg (plain code))

  abbrev here : Session
  here = busy ((seat_at e i).said) (seat_at e i).current false (since source file disk0 v0 snap files of e i asked) [] None None

  abbrev at_start : Plain
  at_start = mid (state e) (i + 1) here (state e).journal (state e).snaps (state e).moment

  -- the machine but for its session, after the refusal
  record IsBase (base : Plain) : Type 0 where
    sessions : base.sessions ≡ (state e).sessions
    opened : base.opening ≡ (state e).opening
    scripts : base.scripts ≡ (state e).scripts
    settled : base.restoring ≡ None
    next_cut : base.next_cut ≡ (state e).next_cut
    does : effect at_start (i + 1) (Some (CreateSnap snap files of)) (Msg (plain code)) ≡ mid base (i + 1) here (state e).journal (state e).snaps (state e).moment
    places : IsTrue e.disk.told → (name : List ℕ) → (list_any (bytes_eq name) base.in_doubt ≡ true) ⊎ (finite.contains_key disk.folder name ≡ list_any (bytes_eq name) base.on_volume)

  more_here : kept.events ≡ e.kept.events ++ event ∷ []
  more_here = ap (λ (k : Kept). k.events) made

  room_here : kept.room + 1 ≡ e.kept.room
  room_here = let r : kept.room ≡ e.kept.room - 1 = ap (λ (k : Kept). k.room) made in omega (arith, r, room)

  marked_here : filter_map (mark_of (i + 1)) (event ∷ []) ≡ Answered ((seat_at e i).said + 1) ∷ []
  marked_here = let same : nat_eq (i + 1) (i + 1) ≡ true = eq-eqb (i + 1) (i + 1) refl in rw same refl

  others_here : (j : ℕ) → i ≢ j → filter_map (mark_of (j + 1)) (event ∷ []) ≡ []
  others_here j ne = let other : nat_eq (i + 1) (j + 1) ≡ false = ne_eqb (i + 1) (j + 1) (λ same. ne (omega (arith, same))) in rw other refl

  module _ (base : Plain) (b : IsBase base) where
    abbrev reached : Plain
    reached = mid base (i + 1) (idle ((seat_at e i).said + 1) (seat_at e i).current false ((state e).moment + 1)) (state e).journal (state e).snaps ((state e).moment + 1)

    reaches : end_from (state e) (event ∷ []) ≡ reached
    reaches =
        ap (λ (x : Plain). after x event) (begin source file disk0 v0 snap files of e i asked)
        ∙ after_said (state e) (i + 1) (around_here source file disk0 v0 snap files of e i asked).there (seat_at e i).said (seat_at e i).current (seat_at e i).current false (since source file disk0 v0 snap files of e i asked) [] None None
        (state e).journal (state e).journal (state e).snaps (state e).snaps (state e).moment base (CreateSnap snap files of) ((seat_at e i).said + 1) (length e.kept.events) (Msg (plain code))
        b.sessions b.settled
        (ap (λ (u : Session). slice_get (get_or (state e).scripts (i + 1 - 1) []) u.said) (session_mid (state e) (i + 1) (around_here source file disk0 v0 snap files of e i asked).there here (state e).journal (state e).snaps (state e).moment) ∙ says_at source file disk0 v0 snap files of e i asked)
        b.does

    sessions_are : reached.sessions ≡ set (state e).sessions (i + 1 - 1) (idle ((seat_at e i).said + 1) (seat_at e i).current false ((state e).moment + 1))
    sessions_are = ap (λ (ss : List Session). set ss (i + 1 - 1) (idle ((seat_at e i).said + 1) (seat_at e i).current false ((state e).moment + 1))) b.sessions

    abbrev after_it : Run
    after_it = record e { disk = disk; shown = e.shown; seats = set e.seats i (next_seat source file disk0 v0 snap files of e i asked); kept = kept }

    leads : state after_it ≡ reached
    leads = leads_here source file disk0 v0 snap files of e i asked disk e.shown kept (event ∷ []) more_here room_here (omega arith) marked_here others_here reached reaches sessions_are

    may_come : IsTrue e.disk.told → LegalFrom (state e) (event ∷ [])
    may_come told = (reply_comes source file disk0 v0 snap files of e i asked (state e) None None (Msg (plain code)) (around_here source file disk0 v0 snap files of e i asked).there (is_here source file disk0 v0 snap files of e i asked) (says_stmt source file disk0 v0 snap files of e i asked) (omega arith) (may told), tt)

    told_before : IsTrue disk.told → IsTrue e.disk.told
    told_before t = subst (λ (b : Bool). IsTrue b) same_told t

    machine_next : InStep after_it
    machine_next = record {
      legal = λ told. legal_here source file disk0 v0 snap files of e i asked disk e.shown kept (event ∷ []) more_here room_here (omega arith) marked_here others_here reached reaches sessions_are (may_come (told_before told)) (told_before told);
      moment = ap (λ (x : Plain). x.moment) leads ∙ later_is source file disk0 v0 snap files of e i asked disk e.shown kept (event ∷ []) more_here room_here (omega arith) marked_here others_here reached reaches sessions_are;
      opened = ap (λ (x : Plain). x.opening) leads ∙ b.opened ∙ asked.safe.machine.opened;
      scripts = ap (λ (x : Plain). x.scripts) leads ∙ b.scripts ∙ asked.safe.machine.scripts;
      settled = ap (λ (x : Plain). x.restoring) leads ∙ b.settled;
      snaps = ap (λ (x : Plain). x.snaps) leads ∙ asked.safe.machine.snaps;
      next_cut = ap (λ (x : Plain). x.next_cut) leads ∙ b.next_cut ∙ asked.safe.machine.next_cut;
      apart = asked.safe.machine.apart;
    }

    committed_is : committed (state after_it) ≡ committed (state e)
    committed_is = ap committed leads ∙ ap (λ (o : Opening). committed (record (state e) { opening = o })) b.opened

    copy_is : (name : List ℕ) → copy (state after_it) name ≡ copy (state e) name
    copy_is name = ap (λ (x : Plain). copy x name) leads ∙ ap (λ (o : Opening). copy (record (state e) { opening = o }) name) b.opened

    safe_by : Safe after_it
    safe_by = record {
      machine = machine_next;
      sessions = sessions_next source file disk0 v0 snap files of e i asked disk e.shown kept (event ∷ []) more_here room_here (omega arith) marked_here others_here reached reaches sessions_are;
      pages = record {
        file = asked.safe.pages.file;
        few = asked.safe.pages.few;
        source = subst (λ (t : Tables). AreTables (data_pages e.shown) (img e.shown) t) (sym committed_is) asked.safe.pages.source;
        copies = λ s is_kept. subst (λ (t : Tables). AreTables (data_pages e.shown) (view e.shown s) t) (sym (copy_is (name_of e.shown s))) (asked.safe.pages.copies s is_kept);
      };
      files = record {
        tells = λ told. asked.safe.files.tells (told_before told);
        names = λ told name. subst (λ (x : Plain). (list_any (bytes_eq name) x.in_doubt ≡ true) ⊎ (finite.contains_key disk.folder name ≡ list_any (bytes_eq name) x.on_volume)) (sym leads) (b.places (told_before told) name);
        out = λ name. ap (λ o. finset.contains o name) same_out ∙ asked.safe.files.out name;
        distinct = asked.safe.files.distinct;
        single = asked.safe.files.single;
      };
      blame = record {
        faults = asked.safe.blame.faults;
        turned = λ h. asked.safe.blame.turned (turned_before source file disk0 v0 snap files of e i asked disk e.shown kept (event ∷ []) more_here room_here (omega arith) marked_here others_here reached reaches sessions_are refl h);
      };
      room = room_next source file disk0 v0 snap files of e i asked disk e.shown kept (event ∷ []) more_here room_here (omega arith) marked_here others_here reached reaches sessions_are;
    }

  module _ (places : IsTrue e.disk.told → (name : List ℕ) → (((code == FILE_FAILED) ≡ true) × (list_any (bytes_eq name) (next_words.sparse_names files) ≡ true)) ⊎ (finite.contains_key disk.folder name ≡ finite.contains_key e.disk.folder name)) where
    abbrev names : List (List ℕ)
    names = next_words.sparse_names files

    -- no name comes in doubt
    plain_base : (code == FILE_FAILED) ≡ false → IsBase (state e)
    plain_base n = record {
      sessions = refl;
      opened = refl;
      scripts = refl;
      settled = asked.safe.machine.settled;
      next_cut = refl;
      does = rw n refl;
      places = λ told name. elim (places told name) [
        | inl p ↦ absurd (let x : true ≡ false = sym p.0 ∙ n in cc)
        | inr same ↦ elim (asked.safe.files.names told name) [ inl d ↦ inl d | inr on ↦ inr (same ∙ on) ]
      ];
    }

    doubted : (name : List ℕ) → list_any (bytes_eq name) names ≡ true → list_any (bytes_eq name) (names ++ (state e).in_doubt) ≡ true
    doubted name t = list_any-append (bytes_eq name) names (state e).in_doubt ∙ (rw t refl)

    still_doubted : (name : List ℕ) → list_any (bytes_eq name) (state e).in_doubt ≡ true → list_any (bytes_eq name) (names ++ (state e).in_doubt) ≡ true
    still_doubted name t = list_any-append (bytes_eq name) names (state e).in_doubt ∙ ap (λ b. list_any (bytes_eq name) names || b) t ∙ or_true (list_any (bytes_eq name) names)
      where
        or_true : (b : Bool) → (b || true) ≡ true
        or_true true = refl
        or_true false = refl

    -- the new names come in doubt
    doubt_base : (code == FILE_FAILED) ≡ true → IsBase (with_doubt (state e) names)
    doubt_base y = record {
      sessions = refl;
      opened = refl;
      scripts = refl;
      settled = asked.safe.machine.settled;
      next_cut = refl;
      does =
          let is : session at_start (i + 1) ≡ here = session_mid (state e) (i + 1) (around_here source file disk0 v0 snap files of e i asked).there here (state e).journal (state e).snaps (state e).moment in
          ap (λ c. cond c (with_doubt (without_made at_start (session at_start (i + 1)).making) names) at_start) y
          ∙ ap (λ (s : Session). with_doubt (without_made at_start s.making) names) is;
      places = λ told name. elim (cases_Bool (list_any (bytes_eq name) names)) [
        | inl t ↦ inl (doubted name t)
        | inr f ↦ elim (places told name) [
          | inl p ↦ inl (doubted name p.1)
          | inr same ↦ elim (asked.safe.files.names told name) [
            | inl d ↦ inl (still_doubted name d)
            | inr on ↦ inr (same ∙ on ∙ sym (has_without name names (state e).on_volume ∙ (rw f refl)))
          ]
        ]
      ];
    }

    pub safe_refused : Safe (record e { disk = disk; shown = e.shown; seats = set e.seats i (record { current = (seat_at e i).current; said = (seat_at e i).said + 1; gone = false }); kept = kept })
    safe_refused = elim (cases_Bool (code == FILE_FAILED)) [
      | inl y ↦ safe_by (with_doubt (state e) names) (doubt_base y)
      | inr n ↦ safe_by (state e) (plain_base n)
    ]

-- the same, by the call's own volume and history
pub refused_safe : (source file : List ℕ) (disk0 : Disk) (v0 : Shown) (snap : List ℕ) (files : List SnapFile) (of : List ℕ) (e : Run) (i : ℕ) → IsAsked source file disk0 v0 (CreateSnap snap files of) e i →
    (disk : Disk) (kept0 kept : Kept) (who : SessNo) (n : ℕ) (reply : Reply) → e.kept ≡ kept0 → who.0 ≡ i + 1 → n ≡ (seat_at e i).said + 1 → Refuses (next_words.sparse_names files) disk0 disk reply →
    kept ≡ entered kept0 (Said who n (length kept0.events) reply) → 0 < kept0.room → (IsTrue disk0.told → Allowed (state e) (i + 1) (CreateSnap snap files of) reply) →
    Safe (record e { disk = disk; shown = v0; seats = set e.seats i (record { current = (seat_at e i).current; said = (seat_at e i).said + 1; gone = false }); kept = kept })
refused_safe source file disk0 v0 snap files of e i asked disk kept0 kept who n reply kept_is who_is n_is refuses made room may =
    let told_is : e.disk.told ≡ disk0.told = ap (λ (d : Disk). d.told) asked.disk_is in
    subst (λ (w : Shown). Safe (record e { disk = disk; shown = w; seats = set e.seats i (record { current = (seat_at e i).current; said = (seat_at e i).said + 1; gone = false }); kept = kept })) asked.shown_is
    (safe_refused source file disk0 v0 snap files of e i asked disk kept refuses.code
    (made ∙ ap (λ (q : Kept). entered q (Said who n (length q.events) reply)) (sym kept_is) ∙ ap (λ m. entered e.kept (Said (number m) n (length e.kept.events) reply)) who_is
    ∙ ap (λ m. entered e.kept (Said (number (i + 1)) m (length e.kept.events) reply)) n_is ∙ ap (λ r. entered e.kept (Said (number (i + 1)) ((seat_at e i).said + 1) (length e.kept.events) r)) refuses.is)
    (subst (λ (q : Kept). 0 < q.room) (sym kept_is) room)
    (refuses.told ∙ sym told_is)
    (refuses.out ∙ ap (λ (d : Disk). d.out) (sym asked.disk_is))
    (λ told. subst (λ (r : Reply). Allowed (state e) (i + 1) (CreateSnap snap files of) r) refuses.is (may (sym told_is ∙ told)))
    (λ told name. subst (λ (d : Disk). (((refuses.code == FILE_FAILED) ≡ true) × (list_any (bytes_eq name) (next_words.sparse_names files) ≡ true)) ⊎ (finite.contains_key disk.folder name ≡ finite.contains_key d.folder name)) (sym asked.disk_is) (refuses.places (sym told_is ∙ told) name)))

-- a refusal says nothing of room on pages
pub refused_room : (names : List (List ℕ)) (old new : Disk) (reply : Reply) → Refuses names old new reply → IsNoShortage reply
refused_room ns old new reply r = subst IsNoShortage (sym r.is) (λ e. eqb-false r.code NO_ROOM r.roomy e)

-- and says only where it is so that the volume failed
pub refused_volume : (names : List (List ℕ)) (old new : Disk) (reply : Reply) → Refuses names old new reply → IsVolumeReply old.failures new.failures reply
refused_volume ns old new reply r = subst (IsVolumeReply old.failures new.failures) (sym r.is) (r.early, λ e. r.cause (ap (λ n. n == FILE_FAILED) e))

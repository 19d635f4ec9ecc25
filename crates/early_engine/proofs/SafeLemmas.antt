-- A statement keeps what always holds of the engine.
use Rattle.std.proofs.Common.{◌≡◌, ◌≢◌, ◌+◌, ◌-◌, ◌<◌, ◌≤◌, ◌⊎◌, inl, inr, ℕ, suc, Bool, true, false, ◌&&◌, ◌||◌, cond, IsTrue, List, [], ◌∷◌, ◌++◌, length, map, get_or, refl, ap, sym, ◌∙◌, subst, arith, length-append, append-nil}
use Rattle.std.proofs.Math.ListN.{set}
use Rattle.std.proofs.lemmas.List.{get_or-map, length-map}
use Rattle.std.proofs.lemmas.List.Folds.{list_any_none, list_any-append}
use Rattle.std.specs.Prelude.{Some, slice_get}
use Rattle.std.specs.FinMap as finite
use Rattle.std.proofs.lemmas.Option.{slice_get_within}
use Rattle.std.proofs.lemmas.List.FromFn.{map-range_with_len_more}
use Rattle.page_base.specs.declared.numbers.SessNo.{SessNo}
use Rattle.std.specs.List.{filter_map, range_with_len, AllByRecursion, list_any, flat_map}
use Rattle.std.specs.Str.{bytes_eq}
use Rattle.page_base.specs.declared.numbers.PageId.{PageId}
use Rattle.page_base.specs.declared.numbers.SnapNo.{SnapNo}
use Rattle.plain_model.specs.declared.stmt.Stmt.{Stmt}
use Rattle.plain_model.specs.declared.event.Event.{Event}
use Rattle.plain_model.specs.declared.event.Event.TheVariants.{Said}
use Rattle.plain_model.specs.declared.reply.Reply.{Reply}
use Rattle.plain_model.specs.Tables.{Tables}
use Rattle.plain_model.specs.Journal.{Opening, Entry, source}
use Rattle.plain_model.specs.Journal as journal
use Rattle.plain_model.specs.State as plain
use Rattle.plain_model.specs.State.{Plain, Session, fresh_session, session, committed, copy, master}
use Rattle.plain_model.specs.Legal.{Legal, end}
use Rattle.plain_model.specs.Complete.{Mark, Answered, Gone, mark_of}
use Rattle.plain_model.specs.Sound.{are_distinct}
use Rattle.early_pages.specs.declared.state.SnapState.TheVariants.{Suspect}
use Rattle.early_pages.specs.Catalog.{Snap, snap_at, no_snap}
use Rattle.early_pages.specs.Shown.{Shown, img, counts, count, catalog, IsOpen, state_of}
use Rattle.early_pages.specs.Views.{view}
use Rattle.table_pages.specs.Carried.{data_pages}
use Rattle.early_engine.specs.declared.seat.Seat.{Seat}
use Rattle.early_engine.specs.declared.answer.Answer.{Answer}
use Rattle.early_engine.specs.declared.answer.Answer.TheVariants.{AtOnce, UnderAll, UnderTable}
use Rattle.early_engine.specs.Entering.{Kept}
use Rattle.early_engine.specs.Pushing.{plainly, snaps_of, name_of, faults_of, Leaves, IsTurn}
use Rattle.early_engine.specs.Ready.{Comes, reply_of, locks_of}
use Rattle.early_engine.specs.Stepping.{number, idle, mid, first_of, lock_events, statement_events, tables_after, current_after, IsPlain, Around, is_lost, Moves}
use Rattle.early_engine.specs.Safe.{Run, state, seen_by, seat_at, script_at, InStep, AreSeated, IsSeated, marks_of, AreTables, AreCopies, sparse_names, AreOut, is_turn, AreBlamed, HasRoom, Safe}
use Rattle.early_engine.specs.Doing.{Does}
use Rattle.early_engine.proofs.PushLemmas.{bytes_ne, still_lost}
use Rattle.early_engine.proofs.Stepping.{Effects, effects_of, leads_all, legal_all, legal_append, end_append}
use Rattle.early_engine.proofs.SeatLemmas.{around, session_is, seated_next, statement_marks, statement_unmarked, dues_set}

-- NO SUSPECT SNAPSHOT HAS THE SOURCE'S NAME

pub apart_names : (v : Shown) (source : List ℕ) → ((s : SnapNo) → IsOpen v s → name_of v s ≢ source) → is_lost (snaps_of v) source ≡ false
apart_names v source apart = list_any_none (λ s. bytes_eq s.name source && s.suspect) (snaps_of v) (λ j d l.
    let lt : j < length (catalog v).snaps = simp length-map at l in
    rw (get_or-map plainly (catalog v).snaps j no_snap d lt, bytes_ne (get_or (catalog v).snaps j no_snap).name source (apart (record { 0 = j }) lt)) refl)

-- THE PAGES OF SNAPSHOTS THAT STAY

pub same_tables : (n m : ℕ) (a b : PageId → List ℕ) (t u : Tables) → m ≡ n → b ≡ a → u ≡ t → AreTables n a t → AreTables m b u
same_tables n m a b t u e f g h = subst (λ (k : ℕ). AreTables k b u) (sym e) (subst (λ (c : PageId → List ℕ). AreTables n c u) (sym f) (subst (λ (x : Tables). AreTables n a x) (sym g) h))

pub same_pages : (old new : Shown) → counts new ≡ counts old → data_pages new ≡ data_pages old
same_pages old new e = ap (λ (cs : List ℕ). get_or cs 0 0 - 1) e

files_same : (xs ys : List Snap) → length ys ≡ length xs → ((j : ℕ) → (get_or ys j no_snap).files ≡ (get_or xs j no_snap).files) → flat_map (λ s. s.files) ys ≡ flat_map (λ s. s.files) xs
files_same [] [] l h = refl
files_same [] (y ∷ ys) l h = absurd (omega (arith, l))
files_same (x ∷ xs) [] l h = absurd (omega (arith, l))
files_same (x ∷ xs) (y ∷ ys) l h = ap (λ (fs : List (List ℕ)). fs ++ flat_map (λ s. s.files) ys) (h 0) ∙ ap (λ (fs : List (List ℕ)). x.files ++ fs) (files_same xs ys (omega (arith, l)) (λ j. h (suc j)))

pub sparse_same : (old new : Shown) → Leaves old new → sparse_names new ≡ sparse_names old
sparse_same old new l = files_same (catalog old).snaps (catalog new).snaps l.count (λ j. (l.each (record { 0 = j })).files)

-- TURNS AMONG EVENTS

pub either : (a b : Bool) → (a || b) ≡ true → (a ≡ true) ⊎ (b ≡ true)
either true b e = inl refl
either false b e = inr e

-- the turns among a statement's events are those of snapshots
last : (k : SessNo) (n b : ℕ) (r : Reply) (es : List Event) → list_any is_turn (es ++ Said k n b r ∷ []) ≡ true → list_any is_turn es ≡ true
last k n b r es h = elim (either (list_any is_turn es) false (sym (list_any-append is_turn es (Said k n b r ∷ [])) ∙ h)) [ inl e ↦ e | inr e ↦ absurd (let x : false ≡ true = e in cc) ]

turns_only : (k n b : ℕ) (a : Answer) (es : List Event) → list_any is_turn (statement_events k n b a es) ≡ true → list_any is_turn es ≡ true
turns_only k n b (AtOnce r) es h = last (number k) n b r es h
turns_only k n b (UnderAll mode r) es h = last (number k) n b r es h
turns_only k n b (UnderTable name mode r) es h = last (number k) n b r es h

pub turn_among : (old new : Shown) (es : List Event) → AllByRecursion (IsTurn old new) es → count new ≡ count old → list_any is_turn es ≡ true → (s : SnapNo) × IsOpen new s × (state_of new s ≡ Suspect)
turn_among old new [] h c t = absurd (let x : false ≡ true = t in cc)
turn_among old new (e ∷ es) h c t = (h.0.snap, (let o = h.0.there in omega (arith, c, o)), h.0.lost)

pub events_few : (k n b : ℕ) (a : Answer) (es : List Event) → length (statement_events k n b a es) ≤ 3 + length es
events_few k n b (AtOnce r) es = simp length-append (omega arith)
events_few k n b (UnderAll mode r) es = simp length-append (omega arith)
events_few k n b (UnderTable name mode r) es = simp length-append (omega arith)

-- A STATEMENT

module _ (e : Run) (safe : Safe e) (i : ℕ) (lt : i < length e.scripts) (here : (seat_at e i).gone ≡ false) (stmt : Stmt) (says : slice_get (script_at e i) (seat_at e i).said ≡ Some stmt)
    (answer : Answer) (simple : IsPlain stmt (reply_of answer)) (v : Shown) (kept : Kept) (does : Does (i + 1) ((seat_at e i).said + 1) answer e.kept kept e.shown v)
    (comes : IsTrue e.disk.told → Comes e.opening (seat_at e i).current (seen_by (state e)) (snaps_of v) stmt answer)
    (tables : AreTables (data_pages v) (img v) (tables_after stmt (reply_of answer) (committed (state e)))) where
  abbrev said : ℕ
  said = (seat_at e i).said

  abbrev current : List ℕ
  current = (seat_at e i).current

  abbrev next_seat : Seat
  next_seat = record { current = current_after stmt (reply_of answer) current; said = said + 1; gone = false }

  abbrev next : Run
  next = record e { shown = v; seats = set e.seats i next_seat; kept = kept }

  abbrev events : List Event
  events = statement_events (i + 1) (said + 1) (length e.kept.events) answer does.turned

  at_moment : (state e).moment ≡ length e.kept.events
  at_moment = safe.machine.moment

  round : Around e.opening (state e) (i + 1)
  round = around e safe.machine safe.sessions i lt

  seated_here : IsSeated (seat_at e i) (get_or (state e).sessions i fresh_session) (length e.kept.events)
  seated_here = safe.sessions.each i lt

  here_is : session (state e) (i + 1) ≡ idle said current false seated_here.since
  here_is = session_is e safe.machine safe.sessions i lt ∙ seated_here.is ∙ ap (λ (g : Bool). idle said current g seated_here.since) here

  script_is : get_or (state e).scripts (i + 1 - 1) [] ≡ script_at e i
  script_is = ap (λ (ss : List (List Stmt)). get_or ss (i + 1 - 1) []) safe.machine.scripts ∙ ap (λ n. get_or e.scripts n []) (omega arith)

  says_here : slice_get (get_or (state e).scripts (i + 1 - 1) []) said ≡ Some stmt
  says_here = ap (λ (ss : List Stmt). slice_get ss said) script_is ∙ says

  moves_here : Moves does.turned (state e).snaps (snaps_of v)
  moves_here = subst (λ (ss : List _). Moves does.turned ss (snaps_of v)) (sym safe.machine.snaps) does.moves

  abbrev moved : List Event
  moved = statement_events (i + 1) (said + 1) (state e).moment answer does.turned

  same_events : kept.events ≡ e.kept.events ++ moved
  same_events = does.events ∙ ap (λ n. e.kept.events ++ statement_events (i + 1) (said + 1) n answer does.turned) (sym at_moment)

  abbrev later : ℕ
  later = (state e).moment + length moved

  later_is : later ≡ length kept.events
  later_is = let m = at_moment in let l : length kept.events ≡ length (e.kept.events ++ moved) = ap length same_events in let k : length (e.kept.events ++ moved) ≡ length e.kept.events + length moved = length-append e.kept.events moved in omega (arith, m, l, k)

  abbrev effect_here : Effects (state e) (i + 1) round.there said current false seated_here.since (locks_of answer) (first_of answer (state e).moment) (state e).journal (snaps_of v) ((state e).moment + length (lock_events (i + 1) answer) + length does.turned) stmt (reply_of answer)
  effect_here = effects_of e.opening (state e) (i + 1) round said current false seated_here.since stmt here_is says_here (snaps_of v) answer ((state e).moment + length (lock_events (i + 1) answer) + length does.turned) simple

  abbrev reached : Plain
  reached = mid (state e) (i + 1) (idle (said + 1) (current_after stmt (reply_of answer) current) false later) effect_here.journal (snaps_of v) later

  leads_here : state next ≡ reached
  leads_here =
      ap (λ (es : List Event). end e.opening e.scripts es) same_events ∙ end_append (plain.start e.opening e.scripts) e.kept.events moved
      ∙ leads_all e.opening (state e) (i + 1) round said current false seated_here.since stmt here_is says_here (snaps_of v) does.turned moves_here answer simple

  over : source e.opening (state e).journal ≡ committed (state e)
  over = ap (λ (o : Opening). source o (state e).journal) (sym safe.machine.opened)

  copied : (snap : List ℕ) → journal.copy e.opening (state e).journal snap ≡ copy (state e) snap
  copied snap = ap (λ (o : Opening). journal.copy o (state e).journal snap) (sym safe.machine.opened)

  names_old : (s : SnapNo) → IsOpen e.shown s → name_of e.shown s ≢ e.opening.source
  names_old s has = (safe.machine.apart s has).0

  open_before : (s : SnapNo) → IsOpen v s → IsOpen e.shown s
  open_before s has = let c = does.leaves.count in omega (arith, c, has)

  name_same : (s : SnapNo) → name_of v s ≡ name_of e.shown s
  name_same s = (does.leaves.each s).name

  names_new : (s : SnapNo) → IsOpen v s → name_of v s ≢ e.opening.source
  names_new s has is = names_old s (open_before s has) (sym (name_same s) ∙ is)

  lost_old : is_lost (state e).snaps e.opening.source ≡ false
  lost_old = ap (λ (ss : List _). is_lost ss e.opening.source) safe.machine.snaps ∙ apart_names e.shown e.opening.source names_old

  legal_here : IsTrue e.disk.told → Legal e.opening e.scripts kept.events
  legal_here told = subst (λ (es : List Event). Legal e.opening e.scripts es) (sym same_events)
      (legal_append (plain.start e.opening e.scripts) e.kept.events moved (safe.machine.legal told)
      (legal_all e.opening (state e) (i + 1) round said current false seated_here.since stmt here_is says_here (snaps_of v) does.turned moves_here answer (seen_by (state e)) lost_old (apart_names v e.opening.source names_new) over copied
      (let o = seated_here.old in let m = at_moment in omega (arith, o, m)) (comes told)))

  committed_is : committed (state next) ≡ tables_after stmt (reply_of answer) (committed (state e))
  committed_is = ap committed leads_here ∙ effect_here.tables

  copy_is : (name : List ℕ) → copy (state next) name ≡ copy (state e) name
  copy_is name = ap (λ (st : Plain). copy st name) leads_here ∙ effect_here.copies name

  machine_next : InStep next
  machine_next = record {
    legal = legal_here;
    moment = ap (λ (st : Plain). st.moment) leads_here ∙ later_is;
    opened = ap (λ (st : Plain). st.opening) leads_here ∙ safe.machine.opened;
    scripts = ap (λ (st : Plain). st.scripts) leads_here ∙ safe.machine.scripts;
    settled = ap (λ (st : Plain). st.restoring) leads_here ∙ safe.machine.settled;
    snaps = ap (λ (st : Plain). st.snaps) leads_here;
    next_cut = ap (λ (st : Plain). st.next_cut) leads_here ∙ safe.machine.next_cut ∙ sym does.leaves.next_cut;
    apart = λ s has. (names_new s has, λ is. (safe.machine.apart s (open_before s has)).1 (sym (name_same s) ∙ is));
  }

  within_script : said < length (script_at e i)
  within_script = slice_get_within (script_at e i) said stmt says

  marks_more : marks_of (seat_at e i) ++ filter_map (mark_of (i + 1)) events ≡ marks_of next_seat
  marks_more =
      ap (λ (g : Bool). (map Answered (range_with_len 1 said) ++ cond g (Gone ∷ []) []) ++ filter_map (mark_of (i + 1)) events) here
      ∙ ap (λ (ms : List Mark). (map Answered (range_with_len 1 said) ++ []) ++ ms) (statement_marks e.shown v (i + 1) (said + 1) (length e.kept.events) answer does.turned does.each)
      ∙ ap (λ (ms : List Mark). ms ++ Answered (said + 1) ∷ []) (append-nil (map Answered (range_with_len 1 said)))
      ∙ sym (map-range_with_len_more Answered 1 said (said + 1) (omega arith)) ∙ sym (append-nil (map Answered (range_with_len 1 (said + 1))))

  sessions_next : AreSeated next
  sessions_next = seated_next e next safe.sessions i lt next_seat events (record {
    scripts = refl;
    seats = refl;
    more = does.events;
    moment = later;
    now = let l = later_is in omega (arith, l);
    sessions = ap (λ (st : Plain). st.sessions) leads_here;
    said = let w = within_script in omega (arith, w);
    gone = λ h. absurd (let x : false ≡ true = h in cc);
    marks = marks_more;
    others = λ j ne. statement_unmarked e.shown v (i + 1) (j + 1) (said + 1) (length e.kept.events) answer does.turned (λ same. ne (omega (arith, same))) does.each;
  })

  pages_next : AreCopies next
  pages_next = record {
    file = does.leaves.counts ∙ safe.pages.file ∙ ap (λ (cs : List ℕ). get_or cs 0 0 ∷ []) (sym does.leaves.counts);
    few = let f = safe.pages.few in let c : get_or (counts v) 0 0 ≡ get_or (counts e.shown) 0 0 = ap (λ (cs : List ℕ). get_or cs 0 0) does.leaves.counts in omega (arith, f, c);
    source = subst (λ (t : Tables). AreTables (data_pages v) (img v) t) (sym committed_is) tables;
    copies = λ s kept. let k = does.leaves.views.each s kept in
        same_tables (data_pages e.shown) (data_pages v) (view e.shown s) (view v s) (copy (state e) (name_of e.shown s)) (copy (state next) (name_of v s)) (same_pages e.shown v does.leaves.counts) k.1
        (copy_is (name_of v s) ∙ ap (copy (state e)) (name_same s)) (safe.pages.copies s k.0);
  }

  files_next : AreOut next
  files_next = record {
    tells = λ told s has. (does.leaves.each s).tells ∙ safe.files.tells told s (open_before s has);
    names = λ told name. subst (λ (st : Plain). (list_any (bytes_eq name) st.in_doubt ≡ true) ⊎ (finite.contains_key e.disk.folder name ≡ list_any (bytes_eq name) st.on_volume)) (sym leads_here) (safe.files.names told name);
    out = λ name. safe.files.out name ∙ ap (λ (ns : List (List ℕ)). list_any (bytes_eq name) ns) (sym (sparse_same e.shown v does.leaves));
    distinct = ap are_distinct (sparse_same e.shown v does.leaves) ∙ safe.files.distinct;
    single = λ s has. ap length (does.leaves.each s).files ∙ safe.files.single s (open_before s has);
  }

  blamed : (s : SnapNo) → IsOpen v s → state_of v s ≡ Suspect → 1 ≤ faults_of v s
  blamed s has lost =
      let a = does.leaves.each s in
      let l = a.later in
      elim a.state as (λ x. 1 ≤ faults_of v s) [
        | inl same ↦ let f = safe.blame.faults s (open_before s has) (sym same ∙ lost) in omega (arith, f, l)
        | inr t ↦ let r = t.2 in omega (arith, r)
      ]

  turn_in : list_any is_turn kept.events ≡ true → (s : SnapNo) × IsOpen v s × (state_of v s ≡ Suspect)
  turn_in h =
      let split : (list_any is_turn e.kept.events || list_any is_turn events) ≡ true = sym (list_any-append is_turn e.kept.events events) ∙ sym (ap (list_any is_turn) does.events) ∙ h in
      elim (either (list_any is_turn e.kept.events) (list_any is_turn events) split) [
        | inl old ↦ let t = safe.blame.turned old in (t.0, (let c = does.leaves.count in let o = t.1 in omega (arith, c, o)), still_lost (snap_at (catalog e.shown) t.0) (snap_at (catalog v) t.0) (does.leaves.each t.0) t.2)
        | inr new ↦ turn_among e.shown v does.turned does.each (let c = does.leaves.count in c) (turns_only (i + 1) (said + 1) (length e.kept.events) answer does.turned new)
      ]

  blame_next : AreBlamed next
  blame_next = record { faults = blamed; turned = turn_in }

  room_next : HasRoom next
  room_next =
      let old : (seat_at e i).gone ≡ false = here in
      let w = within_script in
      let s = safe.sessions.seats in
      let d = dues_set e.scripts e.seats i next_seat lt (omega (arith, s, lt)) in
      let one : ℕ = 1 in
      let g : cond (seat_at e i).gone 0 one ≡ one = ap (λ (b : Bool). cond b 0 one) here in
      let r = does.room in
      let f = does.fewer in
      let h = safe.room.room in
      let n = events_few (i + 1) (said + 1) (length e.kept.events) answer does.turned in
      let l : length kept.events ≡ length e.kept.events + length events = ap length does.events ∙ length-append e.kept.events events in
      let k = safe.room.few in
      record {
        room = omega (arith, w, d, g, r, f, h, n);
        few = omega (arith, r, l, k);
      }

  pub safe_statement : Safe next
  safe_statement = record { machine = machine_next; sessions = sessions_next; pages = pages_next; files = files_next; blame = blame_next; room = room_next }

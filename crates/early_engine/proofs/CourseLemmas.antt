-- A session's step keeps what always holds of the engine, whichever course its statement takes.
use Rattle.std.proofs.Common.{◌≡◌, ◌≢◌, ◌+◌, ◌<◌, ◌≤◌, ◌⊎◌, inl, inr, ℕ, Bool, true, false, cond, IsTrue, List, [], length, get_or, refl, ap, sym, ◌∙◌, subst, arith}
use Rattle.std.proofs.Math.ListN.{set}
use Rattle.std.specs.Prelude.{Option, Some, None, slice_get}
use Rattle.std.proofs.lemmas.Option.{slice_get-get_or, get_or_from_slice_get}
use Rattle.page_base.specs.declared.numbers.SnapNo.{SnapNo}
use Rattle.plain_model.specs.declared.stmt.Stmt.{Stmt}
use Rattle.plain_model.specs.declared.stmt.Stmt.TheVariants.{Select, CreateSnap, Broken}
use Rattle.plain_model.specs.declared.stmt.SelectStmt.{SelectStmt}
use Rattle.plain_model.specs.declared.stmt.SnapFile.{SnapFile}
use Rattle.plain_model.specs.declared.reply.Message.{Message}
use Rattle.plain_model.specs.declared.reply.Reply.{Reply}
use Rattle.plain_model.specs.declared.reply.Reply.TheVariants.{Msg, Rows, Count}
use Rattle.plain_model.specs.declared.reply.Reply.TheVariants.{Ok as Fine}
use Rattle.plain_model.specs.declared.reply.TheConstants.Message.{NO_MEMORY, SUSPECT}
use Rattle.plain_model.specs.Tables.{Tables}
use Rattle.plain_model.specs.State.{committed, copy}
use Rattle.plain_model.specs.Messages.{plain}
use Rattle.plain_model.specs.Meaning.{shape, change_and_reply}
use Rattle.plain_model.specs.Next.{Replies, unless_shape, answers, is_built}
use Rattle.early_pages.specs.declared.state.SnapState.{SnapState}
use Rattle.early_pages.specs.declared.state.SnapState.TheVariants.{Making, Online, Suspect}
use Rattle.early_pages.specs.Catalog.{IsCatalog}
use Rattle.early_pages.specs.Shown.{Shown, img, catalog, IsOpen, state_of}
use Rattle.early_pages.specs.Views.{view, IsKept}
use Rattle.table_pages.specs.declared.edit.Edit.{Edit}
use Rattle.table_pages.specs.Carried.{data_pages}
use Rattle.early_engine.specs.declared.seat.Seat.{Seat}
use Rattle.early_engine.specs.declared.answer.Answer.{Answer}
use Rattle.early_engine.specs.declared.answer.Answer.TheVariants.{AtOnce, UnderAll, UnderTable}
use Rattle.early_engine.specs.declared.course.Course.{Course}
use Rattle.early_engine.specs.declared.decision.Decision.{Decision}
use Rattle.early_engine.specs.declared.database.Database.TheVariants.{Snap}
use Rattle.early_engine.specs.Databases.{Means}
use Rattle.early_engine.specs.Entering.{Kept}
use Rattle.early_engine.specs.Pushing.{is_suspect, snaps_of, sound, name_of, Pushes}
use Rattle.early_engine.specs.Ready.{Seen, Comes, reply_of}
use Rattle.early_engine.specs.Stepping.{tables_after, current_after, IsPlain}
use Rattle.early_engine.specs.Seeing.{selected, unless_refused}
use Rattle.early_engine.specs.Deciding.{AreApart, Setting, IsDecision, IsStill, IsSeeing, IsCut, IsCourse}
use Rattle.early_engine.specs.Safe.{Run, state, seen_by, seat_at, no_seat, script_at, AreTables, Safe}
use Rattle.early_engine.specs.Doing.{Does}
use Rattle.early_engine.specs.Steps.{next_stmt, HasNext}
use Rattle.early_engine.proofs.AtOnce.{memory_comes, select_lost, select_comes}
use Rattle.early_engine.proofs.SeatLemmas.{dues_set}
use Rattle.early_engine.proofs.SelectLemmas.{select_stays}
use Rattle.early_engine.proofs.SafeLemmas.{safe_statement, same_tables, same_pages}

-- WHAT COMES WHERE SNAPSHOTS TURNED MEANWHILE

-- an answer under locks comes whatever snapshots there are
under_locks : (e : Run) (current : List ℕ) (seen : Seen) (old new : Shown) (stmt : Stmt) (answer : Answer) (edits : List Edit) → IsStill answer edits → (edits ≡ [] → new ≡ old) → Comes e.opening current seen (snaps_of old) stmt answer → Comes e.opening current seen (snaps_of new) stmt answer
under_locks e current seen old new stmt (AtOnce reply) edits none same comes = subst (λ (v : Shown). Comes e.opening current seen (snaps_of v) stmt (AtOnce reply)) (sym (same none)) comes
under_locks e current seen old new stmt (UnderAll mode reply) edits none same comes = comes
under_locks e current seen old new stmt (UnderTable name mode reply) edits none same comes = comes

-- what a SELECT answers is its meaning
pub select_means : (s : SelectStmt) (tables : Tables) → unless_shape (shape (Select s) tables) (answers (Select s) tables) ≡ Replies (selected (Select s) s.table tables)
select_means s tables = go (shape (Select s) tables) (change_and_reply (Select s) tables).1
  where
    go : (refusal : Option Message) (reply : Reply) → unless_shape refusal (Replies reply) ≡ Replies (unless_refused refusal reply)
    go None reply = refl
    go (Some m) reply = refl

select_keeps : (s : SelectStmt) (r : Reply) (c : List ℕ) → current_after (Select s) r c ≡ c
select_keeps s (Msg m) c = refl
select_keeps s Fine c = refl
select_keeps s (Count n) c = refl
select_keeps s (Rows rs) c = refl

pub lost_or_not : (s : SnapState) → (s ≡ Suspect) ⊎ ((s ≢ Suspect) × (is_suspect s ≡ false))
lost_or_not Making = inr ((λ e. cc), refl)
lost_or_not Online = inr ((λ e. cc), refl)
lost_or_not Suspect = inl refl

-- the seat that was read is the session's
pub seat_read : (e : Run) → Safe e → (i : ℕ) → i < length e.scripts → (seat : Seat) → seat ≡ get_or e.seats i seat → seat ≡ seat_at e i
seat_read e safe i lt seat is = is ∙ sym (get_or_from_slice_get e.seats i (get_or e.seats i seat) no_seat (slice_get-get_or e.seats i seat (let s = safe.sessions.seats in omega (arith, s, lt))))

-- only CREATE DATABASE makes a snapshot
pub cut_only : (stmt : Stmt) → IsCut stmt → ((snap : List ℕ) (files : List SnapFile) (of : List ℕ) → stmt ≡ CreateSnap snap files of → ⊥) → ⊥
cut_only (CreateSnap snap files of) h not = not snap files of refl
cut_only stmt h not = h

module _ (e : Run) (safe : Safe e) (i : ℕ) (next : HasNext e i) where
  -- the session hasn't left
  pub here : (seat_at e i).gone ≡ false
  here = go (seat_at e i).gone refl
    where
      go : (b : Bool) → (seat_at e i).gone ≡ b → (seat_at e i).gone ≡ false
      go true is = let s = safe.sessions.gone i next.there is in let m = next.more in absurd (omega (arith, s, m))
      go false is = is

  pub says : slice_get (script_at e i) (seat_at e i).said ≡ Some (next_stmt e i)
  says = slice_get-get_or (script_at e i) (seat_at e i).said (Broken 0) next.more

  pub within : i < length e.seats
  within = let s = safe.sessions.seats in let t = next.there in omega (arith, s, t)

  -- there is room for a statement's own three events, and a turn of each snapshot
  pub enough : 3 + sound e.shown ≤ e.kept.room
  enough =
      let d = dues_set e.scripts e.seats i (record { current = []; said = (seat_at e i).said + 1; gone = false }) next.there within in
      let one : ℕ = 1 in
      let g : cond (seat_at e i).gone 0 one ≡ one = ap (λ (b : Bool). cond b 0 one) here in
      let m = next.more in
      let r = safe.room.room in
      omega (arith, d, g, m, r)

  pub few_events : length e.kept.events < 4294967296
  few_events = let f = safe.room.few in omega (arith, f)

  -- what is decided over these pages is over these tables
  pub setting : IsCatalog (catalog e.shown) → Setting e.opening e.opening.source e.shown (seen_by (state e))
  setting ordered = record {
    named = refl;
    ordered = ordered;
    apart = safe.machine.apart;
    none = record { there = λ k d lt. absurd (omega (arith, lt)); fits = tt; changes = tt; says = safe.pages.source.says; packed = safe.pages.source.packed };
  }

  pub few_pages : data_pages e.shown < 4294967295
  few_pages = let f = safe.pages.few in omega (arith, f)

  -- the seat that was read is the session's
  pub own_seat : (seat : Seat) → seat ≡ get_or e.seats i seat → seat ≡ seat_at e i
  own_seat seat is = seat_read e safe i next.there seat is

  -- the statement that was read is the session's next
  pub own_stmt : (seat : Seat) (stmt : Stmt) → seat ≡ seat_at e i → slice_get (script_at e i) seat.said ≡ Some stmt → next_stmt e i ≡ stmt
  own_stmt seat stmt is there = ap (λ (s : Seat). get_or (script_at e i) s.said (Broken 0)) (sym is) ∙ get_or_from_slice_get (script_at e i) seat.said stmt (Broken 0) there

  -- the seat behind a statement that leaves the current database
  pub seat_next : (seat : Seat) → seat ≡ seat_at e i → ◌≡◌ {A = Seat} (record { current = (seat_at e i).current; said = (seat_at e i).said + 1; gone = false }) (record { current = seat.current; said = seat.said + 1; gone = seat.gone })
  seat_next seat is = ap (λ (b : Bool). record { current = (seat_at e i).current; said = (seat_at e i).said + 1; gone = b }) (sym here) ∙ ap (λ (s : Seat). record { current = s.current; said = s.said + 1; gone = s.gone }) (sym is)

  -- the course that was chosen is the next statement's
  pub course_is : (seat : Seat) (stmt : Stmt) (course : Course) → seat ≡ seat_at e i → next_stmt e i ≡ stmt → IsCourse e.opening seat.current e.shown (seen_by (state e)) stmt course → IsCourse e.opening (seat_at e i).current e.shown (seen_by (state e)) (next_stmt e i) course
  course_is seat stmt course seat_is stmt_is h =
      subst (λ (x : Stmt). IsCourse e.opening (seat_at e i).current e.shown (seen_by (state e)) x course) (sym stmt_is) (subst (λ (s : Seat). IsCourse e.opening s.current e.shown (seen_by (state e)) stmt course) seat_is h)

  -- AN ANSWER

  module _ (d : Decision) (decided : IsDecision e.opening (seat_at e i).current e.shown (seen_by (state e)) (next_stmt e i) d) (v : Shown) (kept : Kept)
      (does : Does (i + 1) ((seat_at e i).said + 1) d.answer e.kept kept e.shown v)
      (still : d.edits ≡ [] → v ≡ e.shown)
      (tables : AreTables (data_pages v) (img v) (tables_after (next_stmt e i) (reply_of d.answer) (committed (state e)))) where
    safe_answer' : Safe (record e { shown = v; seats = set e.seats i (record { current = current_after (next_stmt e i) (reply_of d.answer) (seat_at e i).current; said = (seat_at e i).said + 1; gone = false }); kept = kept })
    safe_answer' = safe_statement e safe i next.there here (next_stmt e i) says d.answer decided.simple v kept does
        (λ told. under_locks e (seat_at e i).current (seen_by (state e)) e.shown v (next_stmt e i) d.answer d.edits decided.still still decided.comes) tables

    pub safe_answer : (seat : Seat) (stmt : Stmt) (after : List ℕ) → seat ≡ seat_at e i → next_stmt e i ≡ stmt → after ≡ current_after stmt (reply_of d.answer) seat.current →
        Safe (record e { shown = v; seats = set e.seats i (record { current = after; said = seat.said + 1; gone = false }); kept = kept })
    safe_answer seat stmt after seat_is stmt_is is =
        let cur : current_after (next_stmt e i) (reply_of d.answer) (seat_at e i).current ≡ after =
        ap (λ (x : Stmt). current_after x (reply_of d.answer) (seat_at e i).current) stmt_is ∙ ap (λ (s : Seat). current_after stmt (reply_of d.answer) s.current) (sym seat_is) ∙ sym is in
        subst (λ (k : Seat). Safe (record e { shown = v; seats = set e.seats i k; kept = kept }))
        (ap (λ (c : List ℕ). record { current = c; said = (seat_at e i).said + 1; gone = false }) cur ∙ ap (λ (s : Seat). record { current = after; said = s.said + 1; gone = false }) (sym seat_is))
        safe_answer'

  -- A SELECT IN A SNAPSHOT

  module _ (s : SnapNo) (name : List ℕ) (seeing : IsSeeing e.opening (seat_at e i).current e.shown (next_stmt e i) s name) (v : Shown) (kept : Kept) (pushes : Pushes e.shown v) (ordered : IsCatalog (catalog v)) (reply : Reply)
      (does : Does (i + 1) ((seat_at e i).said + 1) (AtOnce reply) e.kept kept e.shown v) (lost : state_of v s ≡ Suspect → reply ≡ Msg (plain SUSPECT))
      (replies : IsKept v s → (tables : Tables) → AreTables (data_pages v) (view v s) tables → (reply ≡ Msg (plain NO_MEMORY)) ⊎ (reply ≡ selected (next_stmt e i) name tables)) where
    abbrev current : List ℕ
    current = (seat_at e i).current

    open_now : (k : SnapNo) → IsOpen e.shown k → IsOpen v k
    open_now k has = let c = pushes.count in omega (arith, c, has)

    open_before : (k : SnapNo) → IsOpen v k → IsOpen e.shown k
    open_before k has = let c = pushes.count in omega (arith, c, has)

    apart_now : AreApart e.opening.source (catalog v)
    apart_now k has = let a = safe.machine.apart k (open_before k has) in ((λ is. a.0 (sym (pushes.each k).name ∙ is)), (λ is. a.1 (sym (pushes.each k).name ∙ is)))

    means_now : Means e.opening.source (catalog v) current (Snap s)
    means_now = (seeing.means.0, seeing.means.1, record { there = open_now s seeing.means.2.there; named = (pushes.each s).name ∙ seeing.means.2.named })

    abbrev seen : Seen
    seen = seen_by (state e)

    abbrev Answer_comes : Reply → Type 0
    Answer_comes r = Comes e.opening current seen (snaps_of v) (Select seeing.select) (AtOnce r)

    kept_now : IsTrue e.disk.told → state_of v s ≢ Suspect → IsKept v s
    kept_now told ne = record { sound = ne; tells = subst IsTrue (sym (pushes.each s).tells) (safe.files.tells told s seeing.means.2.there) }

    tables_now : IsKept v s → AreTables (data_pages v) (view v s) (copy (state e) current)
    tables_now k =
        let w = pushes.views.each s k in
        same_tables (data_pages e.shown) (data_pages v) (view e.shown s) (view v s) (copy (state e) (name_of e.shown s)) (copy (state e) current) (same_pages e.shown v pushes.counts) w.1 (ap (copy (state e)) (sym seeing.means.2.named)) (safe.pages.copies s w.0)

    comes_now : IsTrue e.disk.told → Answer_comes reply
    comes_now told = elim (lost_or_not (state_of v s)) [
      | inl is ↦ subst Answer_comes (sym (lost is)) (select_lost e.opening current seen (catalog v) ordered apart_now (Snap s) means_now seeing.select (subst (λ (x : Stmt). is_built x ≡ true) seeing.is seeing.built) refl refl (ap is_suspect is))
      | inr ne ↦ elim (replies (kept_now told ne.0) (copy (state e) current) (tables_now (kept_now told ne.0))) [
        | inl none ↦ subst Answer_comes (sym none) (memory_comes e.opening current seen (catalog v) ordered apart_now (Snap s) means_now (Select seeing.select) refl ne.1)
        | inr rows ↦ select_comes e.opening current seen (catalog v) ordered apart_now (Snap s) means_now seeing.select reply (subst (λ (x : Stmt). is_built x ≡ true) seeing.is seeing.built) refl refl ne.1
            (select_means seeing.select (copy (state e) current)
            ∙ ap Replies (ap (λ (n : List ℕ). selected (Select seeing.select) n (copy (state e) current)) seeing.table ∙ ap (λ (x : Stmt). selected x name (copy (state e) current)) (sym seeing.is) ∙ sym rows))
      ]
    ]

    stays : tables_after (next_stmt e i) reply (committed (state e)) ≡ committed (state e)
    stays = ap (λ (x : Stmt). tables_after x reply (committed (state e))) seeing.is ∙ select_stays seeing.select reply (committed (state e))

    keeps : current_after (next_stmt e i) reply current ≡ current
    keeps = ap (λ (x : Stmt). current_after x reply current) seeing.is ∙ select_keeps seeing.select reply current

    simple : IsPlain (next_stmt e i) reply
    simple = subst (λ (x : Stmt). IsPlain x reply) (sym seeing.is) tt

    safe_see' : Safe (record e { shown = v; seats = set e.seats i (record { current = current_after (next_stmt e i) reply current; said = (seat_at e i).said + 1; gone = false }); kept = kept })
    safe_see' = safe_statement e safe i next.there here (next_stmt e i) says (AtOnce reply) simple v kept does
        (λ told. subst (λ (x : Stmt). Comes e.opening current seen (snaps_of v) x (AtOnce reply)) (sym seeing.is) (comes_now told))
        (same_tables (data_pages e.shown) (data_pages v) (img e.shown) (img v) (committed (state e)) (tables_after (next_stmt e i) reply (committed (state e))) (same_pages e.shown v pushes.counts) pushes.img stays safe.pages.source)

    safe_see_here : Safe (record e { shown = v; seats = set e.seats i (record { current = current; said = (seat_at e i).said + 1; gone = (seat_at e i).gone }); kept = kept })
    safe_see_here = subst (λ (c : List ℕ). Safe (record e { shown = v; seats = set e.seats i (record { current = c; said = (seat_at e i).said + 1; gone = (seat_at e i).gone }); kept = kept })) keeps
        (subst (λ (b : Bool). Safe (record e { shown = v; seats = set e.seats i (record { current = current_after (next_stmt e i) reply current; said = (seat_at e i).said + 1; gone = b }); kept = kept })) (sym here) safe_see')

    pub safe_see : (seat : Seat) → seat ≡ seat_at e i → Safe (record e { shown = v; seats = set e.seats i (record { current = seat.current; said = seat.said + 1; gone = seat.gone }); kept = kept })
    safe_see seat seat_is = subst (λ (k : Seat). Safe (record e { shown = v; seats = set e.seats i (record { current = k.current; said = k.said + 1; gone = k.gone }); kept = kept })) (sym seat_is) safe_see_here

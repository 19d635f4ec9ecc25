-- A commit leaves to others what it owes them, and shows the rest.
use Rattle.std.proofs.Common.{◌≡◌, ◌≢◌, ℕ, true, false, List, [], drop, refl, ap, sym, subst, ◌∙◌, inl, inr}
use Rattle.std.specs.Prelude.{Option, Some, None, IsTrue}
use Rattle.std.proofs.lemmas.Bool.{cases_Bool}
use Rattle.page_base.specs.declared.numbers.Mode.{Mode}
use Rattle.page_base.specs.declared.numbers.Mode.TheVariants.{X}
use Rattle.page_base.specs.declared.numbers.SnapNo.{SnapNo}
use Rattle.page_base.specs.Slots.{Slots}
use Rattle.page_dev.specs.Files.{Files}
use Rattle.page_fmt.specs.Content.{IsPage}
use Rattle.plain_model.specs.declared.event.Event.TheVariants.{Said}
use Rattle.plain_model.specs.declared.stmt.Stmt.{Stmt}
use Rattle.plain_model.specs.Legal.{Legal}
use Rattle.plain_model.specs.State.{Session, session, committed, see, copy}
use Rattle.plain_model.specs.Tables.{Tables, apply}
use Rattle.plain_steps.specs.Modes.{mode_in}
use Rattle.plain_steps.specs.Phases.{first_mode}
use Rattle.rec_log.specs.Records.{Record}
use Rattle.rec_log.specs.Undone.{undone}
use Rattle.snap_pages.specs.Cuts.{place_of}
use Rattle.snap_pages.specs.Shown.{counts}
use Rattle.snap_pages.specs.Views.{IsKept, view}
use Rattle.sys_cat.specs.declared.desc.TableDesc.{TableDesc}
use Rattle.page_tables.specs.Bases.{IsBase}
use Rattle.page_tables.specs.Owners.{is_there}
use Rattle.page_tables.specs.Sheets.{sheets}
use Rattle.open_work.specs.Open.{all, with_part}
use Rattle.open_tables.specs.Back.{Back}
use Rattle.step_words.specs.declared.stage.DbKind.TheVariants.{Source}
use Rattle.step_words.specs.Courses.{Course, is_past_all, is_past_table}
use Rattle.step_words.specs.Seats.{Seated}
use Rattle.step_state.specs.State.{State, Fixed, IsSession, sess, seat, works, many, machine, slots_at, settled_of, alone_of, before_of}
use Rattle.step_state.specs.Holding.{is_x, holds_all, writes, lock_at}
use Rattle.step_state.specs.Own.{IsSafeSession}
use Rattle.step_state.specs.Told.{AreSeen, SeesSource, GoBack, SpreadBack, IsSuccess, IsToldSource, IsToldReading, IsTold, IsToldWhole}
use Rattle.step_state.specs.Safe.{Safe, IsContent}
use Rattle.step_state.specs.Steps.{Steps, LeavesQuiet, LeavesContent, Quietly, Each}
use Rattle.step_state.proofs.KeptLemmas.{source_same, reading_kept}
use Rattle.step_state.proofs.MachineLemmas.{history_more}
use Rattle.step_state.proofs.SameLemmas.{mapped_same, copies_same, owing_same, gathered_same}
use Rattle.step_state.proofs.StandingLemmas.{none_beside, nothing_beside}
use Rattle.safe_say.specs.Committing.{seat_after, DoesCommit}
use Rattle.safe_say.proofs.CommitOthers.{table_past_all, planned_past_table, other_told}
use Rattle.safe_say.proofs.CommitPages.{alone_then, before_then, settled_then, alone_was, before_was, alone_only, before_only, saw_own}
use Rattle.safe_say.proofs.CommitShown.{IsShown, is_shown, is_orderly, suffices_some}
use Rattle.safe_say.proofs.CommitTables.{no_lock_named, no_work}
use Rattle.safe_say.proofs.CommitWhole.{its, now, else, guards, whole_kept, own_kept, restores_same, held_else, held_none}

module _ (e s : State) (k : ℕ) (safe : Safe e) (d : DoesCommit e s k) (ds : List TableDesc) (content : IsContent e ds) where
  abbrev y : Seated
  y = seat_after (seat e k)

  shown : IsShown e s k ds
  shown = is_shown e s k safe d ds content

  copied : (name : List ℕ) → copy (machine s) name ≡ copy (machine e) name
  copied name = (its e s k safe d).copies name

  views : (c : ℕ) (n : SnapNo) → place_of s.pages c ≡ Some n → IsKept s.pages n → (o : SnapNo) × (place_of e.pages c ≡ Some o) × IsKept e.pages o × (view s.pages n ≡ view e.pages o)
  views c n place kept = (n, (λ i. sym d.places.places i c) ∙ place, (d.views.each n kept).0, (d.views.each n kept).1)

  -- ITS SESSION

  own_source : IsToldSource (counts e.pages) shown.after y (lock_at s k) (session (machine s) k) (alone_of e k) (alone_of e k) (committed (machine s))
  own_source = record {
    agree = λ name. ap (λ (m : Session). mode_in m.locks name) (its e s k safe d).here ∙ sym (no_lock_named shown.after (lock_at s k) (held_none e s k safe d) name);
    sees = λ f. shown.base;
    spread = shown.base.spread;
    seen = λ c at source. cc;
    planned = λ c at source stage. cc;
    apart = λ c is. cc;
    waits = λ stmt m at waiting number write. cc;
    goes = tt;
    sized = tt;
    unwound = shown.base.spread;
    back = λ f. tt;
  }

  reading_now : IsToldReading s.pages (machine s) y
  reading_now = record {
    seen = λ cut n c within place kept at snap. cc;
    image = λ cut n p rows within place kept point found. cc;
    reply = λ cut n c within place kept at snap ended. cc;
  }

  own_told : IsTold s shown.after k
  own_told = record {
    source = subst (λ x. IsToldSource (counts s.pages) shown.after x (lock_at s k) (session (machine s) k) (alone_of s k) (before_of s k) (see (machine s) k)) (sym (now e s k safe d))
        (source_same (counts e.pages) (counts s.pages) shown.after y (lock_at s k) (lock_at s k) (session (machine s) k) (session (machine s) k) (alone_of e k) (alone_of s k) (alone_of e k) (before_of s k) (committed (machine s)) (see (machine s) k)
        d.places.counts refl refl (saw_own e s k safe d).0 (saw_own e s k safe d).1 (ap (λ (m : Session). apply m.work (committed (machine s))) (its e s k safe d).here) own_source);
    reading = subst (λ x. IsToldReading s.pages (machine s) x) (sym (now e s k safe d)) reading_now;
  }

  -- THE WHOLE

  legal_now : Legal s.fixed.opening s.fixed.scripts s.events
  legal_now = subst (λ (f : Fixed). Legal f.opening f.scripts s.events) (sym d.fixed) (subst (λ es. Legal e.fixed.opening e.fixed.scripts es) (sym d.events) (history_more e.fixed.opening e.fixed.scripts e.events (Said (sess k) d.number (seat e k).began d.reply) content.0.legal d.comes))

  whole_told : IsToldWhole s shown.after
  whole_told = record {
    tells = subst (λ (f : Files). IsTrue f.tells) (sym d.shown.files) content.0.tells;
    legal = legal_now;
    images = λ p there. subst IsPage (sym (λ i. d.shown.images i p)) (content.0.images p (sym (ap (λ f. is_there f p) d.places.counts) ∙ there));
    mapped = mapped_same e s k safe.sessions d.snaps d.places d.views d.places.counts copied ds content.0;
    copies = copies_same e s k safe.sessions d.snaps d.places d.views d.places.counts copied ds content.0;
    owing = owing_same e s k safe.sessions d.snaps d.places d.views d.places.counts copied ds content.0;
    source = subst (λ f. IsBase f (sheets (settled_of s)) shown.after (committed (machine s))) (sym d.places.counts) (subst (λ (t : Slots). IsBase (counts e.pages) (sheets t) shown.after (committed (machine s))) (sym (settled_then e s k safe d)) shown.base);
    gathered = gathered_same e s k d.is y safe.whole d.snaps d.places d.fixed (restores_same e s k safe d) d.seats ds content.0 d.views refl;
  }

  -- THE OTHERS

  see_else : (j : ℕ) → IsSession e j → j ≢ k → see (machine s) j ≡ apply (session (machine e) j).work (committed (machine s))
  see_else j is ne = ap (λ (m : Session). apply m.work (committed (machine s))) ((guards e s k safe d).sessions j is ne)

  told_over : (es : List TableDesc) (j : ℕ) (is : IsSession e j) (ne : j ≢ k) (own before : Slots) (tables : Tables) → alone_of s j ≡ own → before_of s j ≡ before → see (machine s) j ≡ tables
      → IsToldSource (counts e.pages) es (seat e j) (lock_at e j) (session (machine e) j) own before tables → IsTold s es j
  told_over es j is ne own before tables a b t told = record {
    source = subst (λ x. IsToldSource (counts s.pages) es x (lock_at s j) (session (machine s) j) (alone_of s j) (before_of s j) (see (machine s) j)) (sym (else e s k safe d j ne))
        (source_same (counts e.pages) (counts s.pages) es (seat e j) (lock_at e j) (lock_at s j) (session (machine e) j) (session (machine s) j) own (alone_of s j) before (before_of s j) tables (see (machine s) j)
        d.places.counts (held_else e s k safe d j ne) ((guards e s k safe d).sessions j is ne) a b t told);
    reading = reading_kept e s k (guards e s k safe d) j is ne (λ c n within place kept. views c n place kept) (λ c within. copied (seat e j).sitting.current) (content.1 j is).reading;
  }

  -- where the session held nothing
  quiet : lock_at e k 0 ≡ None → LeavesQuiet e s k
  quiet none =
      let nothing : works e k ≡ [] = (safe.sessions k d.is).seated.nowhere none in
      record {
        alone = λ j is ne. alone_was e s k safe d nothing j;
        before = λ j is ne. before_was e s k safe d nothing j ne;
        see = λ j is ne. see_else j is ne ∙ ap (apply (session (machine e) j).work) (shown.quiet none);
        views = λ j c n is ne within place kept. views c n place kept;
        copies = λ j c is ne within. copied (seat e j).sitting.current;
      }

  -- where nobody held all tables
  amid : lock_at e k 0 ≢ None → holds_all (lock_at e k) ≡ false → (j : ℕ) → IsSession e j → j ≢ k → IsTold s shown.after j
  amid some not_all j is ne = subst (λ es. IsTold s es j) (sym (shown.same not_all))
      (told_over ds j is ne (undone (all (many e) (with_part (works s) j [])) (slots_at e)) (undone (all (many e) (with_part (works s) j (drop (seat e j).base (works e j)))) (slots_at e)) (apply (session (machine e) j).work (committed (machine s)))
      (alone_then e s k safe d j) (before_then e s k safe d j ne) (see_else j is ne) (other_told e s k safe d ds content some not_all j is ne))

  -- where it held all of them
  module _ (held : holds_all (lock_at e k) ≡ true) (j : ℕ) (is : IsSession e j) (ne : j ≢ k) where
    old : IsToldSource (counts e.pages) ds (seat e j) (lock_at e j) (session (machine e) j) (alone_of e j) (before_of e j) (see (machine e) j)
    old = (content.1 j is).source

    me : IsSafeSession e j
    me = safe.sessions j is

    no_all : lock_at e j 0 ≡ None
    no_all = none_beside e safe.whole.locks j k 0 ne held

    no_locks : (n : ℕ) → lock_at e j n ≡ None
    no_locks n = me.seated.rooted n no_all

    nothing : works e j ≡ []
    nothing = me.seated.nowhere no_all

    no_changes : (session (machine e) j).work ≡ []
    no_changes = no_work ds (lock_at e j) (session (machine e) j).locks no_locks old.agree (session (machine e) j).work ((is_orderly e s k safe d ds content).covered j)

    not_past : (c : Course) → (seat e j).sitting.course ≡ Some c → c.at ≡ Source → is_past_all c.stage ≡ true → ⊥
    not_past c has source past = suffices_some (lock_at e j 0) (first_mode c.stmt) ((me.seated.holding c has source).all past) no_all

    not_past_table : (c : Course) → (seat e j).sitting.course ≡ Some c → c.at ≡ Source → is_past_table c.stage ≡ false
    not_past_table c has source = elim (cases_Bool (is_past_table c.stage)) [
      | inr f ↦ f
      | inl t ↦ absurd (not_past c has source (table_past_all c.stage t))
    ]

    asks : (c : Course) → (seat e j).sitting.course ≡ Some c → c.at ≡ Source → is_past_all c.stage ≡ false
    asks c has source = elim (cases_Bool (is_past_all c.stage)) [
      | inr f ↦ f
      | inl t ↦ absurd (not_past c has source t)
    ]

    seen_none : (c : Course) → (seat e j).sitting.course ≡ Some c → c.at ≡ Source → SeesSource (counts e.pages) shown.after (alone_of e k) c
    seen_none c has source =
        let on = me.seated.posed.course c has in
        let none = on.unasked (asks c has source) in
        let unread = on.unread (not_past_table c has source) in
        record {
          base = subst (AreSeen (counts e.pages) (alone_of e k) 1) (sym none.0) tt;
          table = λ t desc. (let wrong : None ≡ Some t = sym none.1 ∙ desc in cc);
          none = λ n. unread;
        }

    success_none : (stmt : Stmt) → IsSuccess ds (lock_at e j) (see (machine e) j) stmt → ⊥
    success_none stmt a = elim a.kept [
      | inl t ↦ (let wrong : false ≡ true = ap is_x (sym no_all) ∙ t in cc)
      | inr i ↦ (let wrong : None ≡ Some X = sym (no_locks i.1.number.0) ∙ i.4.1 in cc)
    ]

    under_source : IsToldSource (counts e.pages) shown.after (seat e j) (lock_at e j) (session (machine e) j) (alone_of e k) (alone_of e k) (committed (machine s))
    under_source = record {
      agree = λ name. old.agree name ∙ no_lock_named ds (lock_at e j) no_locks name ∙ sym (no_lock_named shown.after (lock_at e j) no_locks name);
      sees = λ f. shown.base;
      spread = shown.base.spread;
      seen = seen_none;
      planned = λ c has source stage. absurd (not_past c has source (table_past_all c.stage (planned_past_table c.stage stage)));
      waits = λ stmt m at waiting number write. absurd (success_none stmt (old.waits stmt m at waiting number write));
      goes = subst (λ (xs : List Record). GoBack xs (alone_of e k)) (sym nothing) tt;
      apart = old.apart;
      sized = old.sized;
      unwound = subst (λ (xs : List Record). SpreadBack (counts e.pages) xs (alone_of e k)) (sym nothing) shown.base.spread;
      back = λ f. subst (λ (xs : List Record). Back (writes (lock_at e j)) xs (alone_of e k)) (sym nothing) tt;
    }

    under_all : IsTold s shown.after j
    under_all = told_over shown.after j is ne (alone_of e k) (alone_of e k) (committed (machine s)) (alone_only e s k safe d (λ m far. nothing_beside e safe.sessions safe.whole k m far held) j ne) (before_only e s k safe d (λ m far. nothing_beside e safe.sessions safe.whole k m far held) j ne)
        (see_else j is ne ∙ ap (λ w. apply w (committed (machine s))) no_changes) under_source

  leaves : LeavesContent e s k ds shown.after
  leaves = by (lock_at e k 0) refl
    where
      by : (o : Option Mode) → lock_at e k 0 ≡ o → LeavesContent e s k ds shown.after
      by None none = Quietly (shown.same (ap is_x none)) (quiet none)
      by (Some mode) some = elim (cases_Bool (holds_all (lock_at e k))) [
        | inl t ↦ Each (λ j is ne. under_all t j is ne)
        | inr f ↦ Each (λ j is ne. amid (λ none. (let wrong : None ≡ Some mode = sym none ∙ some in cc)) f j is ne)
      ]

  pub content_kept : (es : List TableDesc) × IsToldWhole s es × (IsSession s k → IsTold s es k) × LeavesContent e s k ds es
  content_kept = (shown.after, whole_told, (λ is. own_told), leaves)

pub commit_keeps : (e s : State) (k : ℕ) → Safe e → DoesCommit e s k → Steps e s k
commit_keeps e s k safe d = record {
  guards = guards e s k safe d;
  own = λ is. own_kept e s k safe d;
  whole = whole_kept e s k safe d;
  content = λ told ds content. content_kept e s k safe d ds content;
}

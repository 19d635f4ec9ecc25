-- What a change leaves where the files tell.
use Rattle.std.proofs.Common.{◌≡◌, ◌≢◌, ℕ, ◌+◌, Bool, false, List, [], refl, ap, sym, subst, ◌∙◌, inr, arith}
use Rattle.std.specs.Prelude.{Some}
use Rattle.page_base.specs.declared.numbers.PageId.{PageId}
use Rattle.page_base.specs.Slots.{with_slot}
use Rattle.plain_model.specs.Meaning.{change_and_reply}
use Rattle.plain_model.specs.State.{session, see}
use Rattle.plain_model.specs.Tables.{apply}
use Rattle.snap_pages.specs.Shown.{counts}
use Rattle.sys_cat.specs.declared.desc.TableDesc.{TableDesc}
use Rattle.page_tables.specs.Bases.{IsBase}
use Rattle.page_tables.specs.Mine.{written}
use Rattle.page_tables.specs.Sheets.{sheets}
use Rattle.page_tables.specs.Writes.{done}
use Rattle.open_work.specs.Moves.{Changes}
use Rattle.open_work.proofs.OpenLemmas.{settled_same, alone_other, alone_own, before_same}
use Rattle.open_tables.proofs.BackLemmas.{pushed}
use Rattle.open_commits.proofs.AheadLemmas.{lacking}
use Rattle.step_words.specs.declared.point.Point.TheVariants.{Take}
use Rattle.step_words.specs.declared.stage.DbKind.TheVariants.{Source, Snap}
use Rattle.step_words.specs.Courses.{Course}
use Rattle.step_words.specs.Coming.{claims_left, edits_left}
use Rattle.step_words.specs.Sittings.{stmt_at, undoes_all}
use Rattle.step_words.specs.Seats.{Seated}
use Rattle.step_words.proofs.TakenLemmas.{none_left}
use Rattle.step_state.specs.State.{State, IsSession, seat, works, many, machine, slots_at, settled_of, alone_of, before_of}
use Rattle.step_state.specs.Holding.{writes, lock_at}
use Rattle.step_state.specs.Own.{IsSafeSession}
use Rattle.stmt_course.specs.Bringing.{AreOnOwn, SpreadAll}
use Rattle.step_state.specs.Plans.{IsPlanned}
use Rattle.step_state.specs.Told.{AreSeen, SeesSource, DifferAll, IsToldSource, IsToldReading, IsTold}
use Rattle.step_state.specs.Safe.{Safe, IsContent}
use Rattle.step_state.specs.Steps.{LeavesQuiet}
use Rattle.step_state.proofs.StandingLemmas.{is_many}
use Rattle.safe_write.specs.Setting.{record_of}
use Rattle.safe_write.specs.Changing.{next_write, course_after, point_after, seat_after, DoesChange}
use Rattle.safe_write.proofs.ChangeSeat.{by_point, some_same}
use Rattle.safe_write.proofs.SetWhole.{now, else}
use Rattle.safe_write.proofs.SetTold.{settled_over, alone_over, before_over, source_over, quiet}
use Rattle.safe_write.proofs.Writing.{at_source, at_edit, taken_all, on_course, planned, is_claimable, coming_is, goes_now, own_now, lies_now, lacks, as_it_stands, has_room, spread_now, go_pushed, spread_pushed, sized_more, size_kept}

module _ (e s : State) (k : ℕ) (safe : Safe e) (d : DoesChange e s k) (ds : List TableDesc) (content : IsContent e ds) where
  abbrev y : Seated
  y = seat_after (seat e k) d.course d.drafts (record_of (slots_at e) (next_write d.course d.draft))

  me : IsSafeSession e k
  me = safe.sessions k d.sets.is

  -- THE CHANGE AS ONE OF OPEN WORK

  rec_page : PageId
  rec_page = (next_write d.course d.draft).page

  moves : Changes (many e) k (works e) (works s) (record_of (slots_at e) (next_write d.course d.draft)) (slots_at e) (slots_at s)
  moves = record {
    has = record {
      there = is_many e k d.sets.is;
      own = ap (λ (x : Seated). x.work.recs) (now e s k d.page y safe d.sets);
      others = λ j ne. ap (λ (x : Seated). x.work.recs) (else e s k d.page y safe d.sets j ne);
      apart = λ j ne. lacking (works e j) (next_write d.course d.draft).page (next_write d.course d.draft).slot (lacks e s k safe d ds content j (next_write d.course d.draft).slot ne);
    };
    was = refl;
    is = d.slot ∙ ap (λ p. with_slot (slots_at e) p (next_write d.course d.draft).slot (next_write d.course d.draft).bytes) (sym d.on);
  }

  pub settled_now : settled_of s ≡ settled_of e
  settled_now = settled_over e s k d.page y safe d.sets ds content (settled_same (many e) k (works e) (works s) (record_of (slots_at e) (next_write d.course d.draft)) (slots_at e) (slots_at s) moves)

  pub alone_else : (j : ℕ) → j ≢ k → alone_of s j ≡ alone_of e j
  alone_else j ne = alone_over e s k d.page y safe d.sets ds content j (alone_of e j) (alone_other (many e) k (works e) (works s) (record_of (slots_at e) (next_write d.course d.draft)) (slots_at e) (slots_at s) moves j ne)

  pub alone_now : alone_of s k ≡ written (next_write d.course d.draft) (alone_of e k)
  alone_now = alone_over e s k d.page y safe d.sets ds content k (written (next_write d.course d.draft) (alone_of e k)) (alone_own (many e) k (works e) (works s) (record_of (slots_at e) (next_write d.course d.draft)) (slots_at e) (slots_at s) moves)

  before_at : (j : ℕ) → IsSession e j → (seat s j).base ≡ (seat e j).base → before_of s j ≡ before_of e j
  before_at j is at = before_over e s k d.page y safe d.sets ds content j (seat s j).base at
      (before_same (many e) k (works e) (works s) (record_of (slots_at e) (next_write d.course d.draft)) (slots_at e) (slots_at s) moves j (seat e j).base (safe.sessions j is).seated.posed.based)

  -- THE PLAN GOES ON

  abbrev c' : Course
  c' = course_after d.course d.drafts

  none_claims : (claimed : ℕ → PageId) → claims_left (course_after d.course d.drafts) claimed ≡ []
  none_claims claimed = none_left (course_after d.course d.drafts) claimed (omega (arith, taken_all e s k safe d ds content))

  plan_now : IsPlanned (counts e.pages) ds (lock_at e k) (written (next_write d.course d.draft) (alone_of e k)) (see (machine e) k) (course_after d.course d.drafts)
  plan_now =
      let p = planned e s k safe d ds content in
      record {
        shaped = p.shaped;
        reply = p.reply;
        after = p.after;
        brings = record {
          go = λ claimed ok. (goes_now e s k safe d ds content claimed ok.were).1;
          given = p.brings.given;
          own = λ f claimed ok. subst (λ ws. AreOnOwn (counts e.pages) (writes (lock_at e k)) (done ws (written (next_write d.course d.draft) (alone_of e k))) (edits_left (course_after d.course d.drafts) claimed)) (sym (none_claims claimed)) (own_now e s k safe d ds content f claimed ok.were).1;
          spread = λ t claimed ok. (subst (SpreadAll (counts e.pages) (alone_of e k)) (coming_is e s k safe d ds content claimed ok.were) (p.brings.spread t claimed (is_claimable e s k safe d ds content (alone_of e k) claimed ok.were))).1;
          base = λ claimed ok. subst (λ ws. IsBase (counts e.pages) (sheets (done ws (alone_of e k))) (p.after claimed) (apply (change_and_reply d.course.stmt (see (machine e) k)).0 (see (machine e) k))) (coming_is e s k safe d ds content claimed ok.were) (p.brings.base claimed (is_claimable e s k safe d ds content (alone_of e k) claimed ok.were));
        };
        same = p.same;
      }

  -- ITS SESSION

  told : IsToldSource (counts e.pages) ds (seat e k) (lock_at e k) (session (machine e) k) (alone_of e k) (before_of e k) (see (machine e) k)
  told = (content.1 k d.sets.is).source

  quiet_point : undoes_all (seat e k).sitting.point (stmt_at (seat e k).sitting) ≡ false
  quiet_point = ap (λ t. undoes_all t (stmt_at (seat e k).sitting)) d.at

  was_there : alone_of e k (next_write d.course d.draft).page (next_write d.course d.draft).slot ≡ slots_at e (next_write d.course d.draft).page (next_write d.course d.draft).slot
  was_there = as_it_stands e s k safe d ds content (next_write d.course d.draft).slot

  seen_now : (c : Course) → Some (course_after d.course d.drafts) ≡ Some c → c.at ≡ Source → SeesSource (counts e.pages) ds (written (next_write d.course d.draft) (alone_of e k)) c
  seen_now c at source = subst (SeesSource (counts e.pages) ds (written (next_write d.course d.draft) (alone_of e k))) (some_same (course_after d.course d.drafts) c at) (
      let old = told.seen d.course d.has (at_source e s k safe d ds content) in
      let empty = (on_course e s k safe d ds content).emptied (at_edit e s k safe d ds content) in
      record {
        base = subst (λ ls. AreSeen (counts e.pages) (written (next_write d.course d.draft) (alone_of e k)) 1 ls) (sym empty.0) tt;
        table = λ t desc. let its = old.table t desc in (its.0, its.1, subst (λ ls. AreSeen (counts e.pages) (written (next_write d.course d.draft) (alone_of e k)) (t.number.0 + 1) ls) (sym empty.1) tt);
        none = old.none;
      })

  told_now : IsToldSource (counts e.pages) ds y (lock_at e k) (session (machine e) k) (written (next_write d.course d.draft) (alone_of e k)) (before_of e k) (see (machine e) k)
  told_now = record {
    agree = told.agree;
    sees = λ f. told.sees quiet_point;
    spread = spread_now e s k safe d ds content;
    seen = seen_now;
    planned = λ c at source stage. subst (IsPlanned (counts e.pages) ds (lock_at e k) (written (next_write d.course d.draft) (alone_of e k)) (see (machine e) k)) (some_same (course_after d.course d.drafts) c at) plan_now;
    apart = λ c at. subst (λ (g : Course). DifferAll g.taken) (some_same (course_after d.course d.drafts) c at) (told.apart d.course d.has);
    waits = told.waits;
    goes = go_pushed (works e k) (alone_of e k) (record_of (slots_at e) (next_write d.course d.draft)) was_there (inr (has_room e s k safe d ds content)) told.goes;
    sized = sized_more (works e k) (record_of (slots_at e) (next_write d.course d.draft)) told.sized (size_kept e s k safe d ds content);
    unwound = spread_pushed (counts e.pages) (works e k) (alone_of e k) (record_of (slots_at e) (next_write d.course d.draft)) was_there (spread_now e s k safe d ds content) told.unwound;
    back = λ f. pushed (writes (lock_at e k)) (works e k) (alone_of e k) (record_of (slots_at e) (next_write d.course d.draft)) was_there (inr (has_room e s k safe d ds content)) (lies_now e s k safe d ds content f (record_of (slots_at e) (next_write d.course d.draft)) refl) (told.back f);
  }

  no_snap : (c : Course) → Some (course_after d.course d.drafts) ≡ Some c → c.at ≡ Snap → ⊥
  no_snap c at snap = (let wrong : Source ≡ Snap = sym (at_source e s k safe d ds content) ∙ ap (λ (g : Course). g.at) (some_same (course_after d.course d.drafts) c at) ∙ snap in cc)

  no_take : (p : PageId) (rows : Bool) → point_after (seat e k).sitting d.course d.drafts ≡ Take p rows → ⊥
  no_take p rows = by_point (λ t. t ≡ Take p rows → ⊥) (seat e k).sitting d.course d.drafts (λ q. cc) (λ q. cc) (λ f later is q. cc)

  reading_now : IsToldReading s.pages (machine s) y
  reading_now = record {
    seen = λ cut n c within place kept at snap. absurd (no_snap c at snap);
    image = λ cut n p rows within place kept point found. absurd (no_take p rows point);
    reply = λ cut n c within place kept at snap ended. absurd (no_snap c at snap);
  }

  pub own_told : IsTold s ds k
  own_told = source_over e s k d.page y safe d.sets ds content y (written (next_write d.course d.draft) (alone_of e k)) (before_of e k) alone_now (before_at k d.sets.is (ap (λ (x : Seated). x.base) (now e s k d.page y safe d.sets))) (now e s k d.page y safe d.sets) told_now reading_now

  pub others : LeavesQuiet e s k
  others = quiet e s k d.page y safe d.sets ds content alone_else (λ j is ne. before_at j is (ap (λ (x : Seated). x.base) (else e s k d.page y safe d.sets j ne)))

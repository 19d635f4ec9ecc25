-- What taking a record back leaves where the files tell.
use Rattle.std.proofs.Common.{eq-eqb, ◌==◌, ◌&&◌, ◌||◌, ◌≡◌, ◌≢◌, ℕ, ◌%◌, ◌≤◌, Bool, true, false, cond, List, [], ◌∷◌, ◌++◌, length, refl, ap, sym, subst, ◌∙◌, inl, inr, arith}
use Rattle.std.specs.Prelude.{Some, None}
use Rattle.std.proofs.lemmas.Bool.{cases_Bool, cases_eq}
use Rattle.page_base.specs.declared.numbers.PageId.{PageId}
use Rattle.page_base.specs.Pages.{is_page}
use Rattle.page_base.specs.Slots.{with_slot}
use Rattle.page_base.proofs.PagesLemmas.{is_page-same}
use Rattle.page_fmt.specs.Content.{content}
use Rattle.page_fmt.specs.Edits.{edited}
use Rattle.page_fmt.specs.Spelling.{used}
use Rattle.plain_model.specs.State.{session, see}
use Rattle.rec_log.specs.Records.{Record}
use Rattle.snap_pages.specs.Shown.{counts, img}
use Rattle.sys_cat.specs.declared.desc.TableDesc.{TableDesc}
use Rattle.alloc_pages.specs.Owners.{page_owner}
use Rattle.page_tables.specs.Sheets.{sheets}
use Rattle.page_tables.proofs.MineLemmas.{every_spot}
use Rattle.page_tables.proofs.SheetLemmas.{sheet_same, sheets_edited}
use Rattle.open_work.specs.Moves.{TakesBack}
use Rattle.open_work.specs.Open.{all, with_part}
use Rattle.open_work.proofs.OpenLemmas.{back_settled, back_other, back_own, back_before}
use Rattle.open_tables.specs.Back.{Back, FitsBack, IsLast}
use Rattle.open_tables.specs.Names.{names}
use Rattle.open_tables.proofs.BackLemmas.{popped}
use Rattle.open_commits.proofs.AheadLemmas.{lacking}
use Rattle.open_commits.proofs.ApartLemmas.{own_part, other_part, untouched, claims_all}
use Rattle.open_commits.proofs.StandLemmas.{written_now}
use Rattle.step_words.specs.declared.point.Point.TheVariants.{Take}
use Rattle.step_words.specs.Courses.{Course}
use Rattle.step_words.specs.Seats.{Seated}
use Rattle.step_state.specs.State.{State, IsSession, seat, works, many, machine, slots_at, settled_of, alone_of, before_of}
use Rattle.step_state.specs.Holding.{holds_all, writes, lock_at}
use Rattle.step_state.specs.Own.{IsSafeSession}
use Rattle.step_state.specs.Told.{GoBack, AreSized, SpreadBack, IsToldSource, IsToldReading, IsTold}
use Rattle.step_state.specs.Safe.{Safe, IsContent}
use Rattle.step_state.specs.Steps.{LeavesQuiet}
use Rattle.step_state.proofs.PageLemmas.{sheet_of_page}
use Rattle.step_state.proofs.StandingLemmas.{is_many, nothing_beside, nobody_all, claims_beside, named_apart, page_apart}
use Rattle.safe_write.specs.Backing.{seat_back, DoesBack}
use Rattle.safe_write.proofs.BackLemmas.{go_popped, spread_popped, spread_at, sized_less, same_room}
use Rattle.safe_write.proofs.BackSeat.{by_back, no_course, enough, still_all}
use Rattle.safe_write.proofs.SetWhole.{now, else}
use Rattle.safe_write.proofs.SetTold.{settled_over, alone_over, before_over, source_over, quiet}

module _ (e s : State) (k : ℕ) (safe : Safe e) (d : DoesBack e s k) where
  abbrev y : Seated
  y = seat_back d.all (seat e k) d.records

  me : IsSafeSession e k
  me = safe.sessions k d.sets.is

  pub lock_there : lock_at e k 0 ≢ None
  lock_there none = some d.records (sym d.were ∙ me.seated.nowhere none)
    where
      some : (rs : List Record) → rs ++ d.last ∷ [] ≡ [] → ⊥
      some [] e = cc
      some (r ∷ rs) e = cc

  -- the session's records name the slot
  names_last : (rs : List Record) (r : Record) → names (rs ++ r ∷ []) r.page r.slot ≡ true
  names_last [] r = ap (λ b. (b && r.slot == r.slot) || false) (is_page-same r.page) ∙ ap (λ b. b || false) (eq-eqb r.slot r.slot refl)
  names_last (x ∷ rs) r = or_right (is_page x.page r.page && x.slot == r.slot) (names (rs ++ r ∷ []) r.page r.slot) (names_last rs r)
    where
      or_right : (a b : Bool) → b ≡ true → (a || b) ≡ true
      or_right true b t = refl
      or_right false b t = t

  named : names (works e k) d.last.page d.last.slot ≡ true
  named = ap (λ (xs : List Record). names xs d.last.page d.last.slot) d.were ∙ names_last d.records d.last

  module _ (ds : List TableDesc) (content_is : IsContent e ds) where
    told : IsToldSource (counts e.pages) ds (seat e k) (lock_at e k) (session (machine e) k) (alone_of e k) (before_of e k) (see (machine e) k)
    told = (content_is.1 k d.sets.is).source

    nobody : holds_all (lock_at e k) ≡ false → (j : ℕ) → IsSession e j → holds_all (lock_at e j) ≡ false
    nobody f j is = nobody_all e safe.sessions safe.whole k j lock_there f

    goes : GoBack d.records (with_slot (alone_of e k) d.last.page d.last.slot d.last.before) × (alone_of e k d.last.page d.last.slot ≡ d.last.after) × FitsBack (alone_of e k) d.last
    goes = go_popped d.records (alone_of e k) d.last (subst (λ rs. GoBack rs (alone_of e k)) d.were told.goes)

    back_parts : holds_all (lock_at e k) ≡ false → Back (writes (lock_at e k)) d.records (with_slot (alone_of e k) d.last.page d.last.slot d.last.before) × IsLast (writes (lock_at e k)) (alone_of e k) d.last
    back_parts f = popped (writes (lock_at e k)) d.records (alone_of e k) d.last (subst (λ rs. Back (writes (lock_at e k)) rs (alone_of e k)) d.were (told.back f))

    -- OTHERS' RECORDS

    lacks : (j : ℕ) → j ≢ k → names (works e j) d.last.page d.last.slot ≡ false
    lacks j ne = elim (cases_Bool (holds_all (lock_at e k))) [
      | inl t ↦ ap (λ (xs : List Record). names xs d.last.page d.last.slot) (nothing_beside e safe.sessions safe.whole k j ne t)
      | inr f ↦ named_apart e safe.sessions safe.whole ds content_is (nobody f) k j d.last.page d.last.slot ne named
    ]

    lacks_beside : (m i : ℕ) → ((j : ℕ) → j ≢ k → names (works e j) d.last.page i ≡ false) → names (with_part (works e) k [] m) d.last.page i ≡ false
    lacks_beside m i none = elim (cases_eq m k) [
      | inl here ↦ ap (λ (xs : List Record). names xs d.last.page i) (ap (λ o. with_part (works e) k [] o) here ∙ own_part (works e) k [])
      | inr far ↦ ap (λ (xs : List Record). names xs d.last.page i) (other_part (works e) k m [] far) ∙ none m far
    ]

    as_it_stands : alone_of e k d.last.page d.last.slot ≡ slots_at e d.last.page d.last.slot
    as_it_stands = untouched (many e) (with_part (works e) k []) (slots_at e) d.last.page d.last.slot (λ m lt. lacks_beside m d.last.slot lacks)

    -- on a page that tells of no others, none of theirs stands at all
    lacks_page : d.last.page.page % 1280 ≢ 0 → (j i : ℕ) → j ≢ k → names (works e j) d.last.page i ≡ false
    lacks_page off j i ne = elim (cases_Bool (holds_all (lock_at e k))) [
      | inl t ↦ ap (λ (xs : List Record). names xs d.last.page i) (nothing_beside e safe.sessions safe.whole k j ne t)
      | inr f ↦ page_apart e safe.sessions safe.whole ds content_is (nobody f) k j d.last.page i ne off (mine f)
    ]
      where
        mine : (f : holds_all (lock_at e k) ≡ false) → writes (lock_at e k) (page_owner (slots_at e) d.last.page) ≡ true
        mine f = elim (back_parts f).1.lies [
          | inl w ↦ written_now (writes (lock_at e k)) (slots_at e) (all (many e) (with_part (works e) k [])) d.last.page refl (claims_all (many e) (with_part (works e) k []) (λ m lt. claims_beside e safe.sessions safe.whole ds content_is (nobody f) k m)) w.1
          | inr q ↦ absurd (off (ap (λ (p : PageId). p.page % 1280) (sym q.1) ∙ every_spot q.0))
        ]

    -- WHAT STOOD BEFORE FITS

    stood : slots_at e d.last.page d.last.slot ≡ d.last.after
    stood = sym as_it_stands ∙ goes.1

    sized : d.last.page.page % 1280 ≡ 0 → length d.last.before ≡ length d.last.after
    sized = (sized_less d.records d.last (subst (λ rs. AreSized rs) d.were told.sized)).1

    fits_same : length d.last.before ≡ length d.last.after → used (edited (content (img e.pages d.last.page)) d.last.slot d.last.before) ≤ 8192
    fits_same same = (let small = d.page.fits.small in let less = same_room (content (img e.pages d.last.page)) d.last.slot d.last.before d.page.fits.last (same ∙ sym (ap length stood)) in omega (arith, small, less))

    fits_now : used (edited (content (img e.pages d.last.page)) d.last.slot d.last.before) ≤ 8192
    fits_now = elim (cases_eq (d.last.page.page % 1280) 0) [
      | inl every ↦ fits_same (sized every)
      | inr off ↦ elim goes.2 [
        | inl same ↦ fits_same same
        | inr room ↦
            let stays : alone_of e k d.last.page ≡ slots_at e d.last.page = λ t i. untouched (many e) (with_part (works e) k []) (slots_at e) d.last.page i (λ m lt. lacks_beside m i (λ j ne. lacks_page off j i ne)) t in
            let made : sheets (with_slot (alone_of e k) d.last.page d.last.slot d.last.before) d.last.page ≡ edited (sheets (alone_of e k) d.last.page) d.last.slot d.last.before = (λ t. sheets_edited (alone_of e k) d.last.page d.last.slot d.last.before d.limits.slot t d.last.page) ∙ ap (λ b. cond b (edited (sheets (alone_of e k) d.last.page) d.last.slot d.last.before) (sheets (alone_of e k) d.last.page)) (is_page-same d.last.page) in
            let its : sheets (alone_of e k) d.last.page ≡ content (img e.pages d.last.page) = sheet_same (alone_of e k) (slots_at e) d.last.page stays ∙ sheet_of_page (img e.pages) d.last.page d.page in
            subst (λ xs. used xs ≤ 8192) (made ∙ ap (λ xs. edited xs d.last.slot d.last.before) its) room
      ]
    ]

    -- THE RECORD TAKEN BACK AS A MOVE OF OPEN WORK

    moves : TakesBack (many e) k (works e) (works s) d.last (slots_at e) (slots_at s)
    moves = record {
      has = record {
        there = is_many e k d.sets.is;
        own = d.were ∙ ap (λ (x : Seated). x.work.recs ++ d.last ∷ []) (sym (now e s k d.last.page y safe d.sets));
        others = λ j ne. sym (ap (λ (x : Seated). x.work.recs) (else e s k d.last.page y safe d.sets j ne));
        apart = λ j ne. lacking (works s j) d.last.page d.last.slot (ap (λ (xs : List Record). names xs d.last.page d.last.slot) (ap (λ (x : Seated). x.work.recs) (else e s k d.last.page y safe d.sets j ne)) ∙ lacks j ne);
      };
      stood = stood;
      is = d.back.fits fits_now;
    }

    pub settled_now : settled_of s ≡ settled_of e
    settled_now = settled_over e s k d.last.page y safe d.sets ds content_is (back_settled (many e) k (works e) (works s) d.last (slots_at e) (slots_at s) moves)

    alone_else : (j : ℕ) → j ≢ k → alone_of s j ≡ alone_of e j
    alone_else j ne = alone_over e s k d.last.page y safe d.sets ds content_is j (alone_of e j) (back_other (many e) k (works e) (works s) d.last (slots_at e) (slots_at s) moves j ne)

    alone_now : alone_of s k ≡ with_slot (alone_of e k) d.last.page d.last.slot d.last.before
    alone_now = alone_over e s k d.last.page y safe d.sets ds content_is k (with_slot (alone_of e k) d.last.page d.last.slot d.last.before) (back_own (many e) k (works e) (works s) d.last (slots_at e) (slots_at s) moves)

    before_at : (j : ℕ) → (seat s j).base ≡ (seat e j).base → (seat e j).base ≤ length (works s j) → before_of s j ≡ before_of e j
    before_at j at few = before_over e s k d.last.page y safe d.sets ds content_is j (seat s j).base at
        (back_before (many e) k (works e) (works s) d.last (slots_at e) (slots_at s) moves j (seat e j).base few)

    its_base : (seat e k).base ≤ length (works s k)
    its_base = subst (λ (xs : List Record). (seat e k).base ≤ length xs) (sym (ap (λ (x : Seated). x.work.recs) (now e s k d.last.page y safe d.sets))) (enough (counts e.pages) (seat e k) _ (lock_at e k) me.seated d.all d.at d.last d.records d.were d.sets.unmarked)

    before_else : (j : ℕ) → IsSession e j → j ≢ k → before_of s j ≡ before_of e j
    before_else j is ne = before_at j (ap (λ (x : Seated). x.base) (else e s k d.last.page y safe d.sets j ne))
        (subst (λ (xs : List Record). (seat e j).base ≤ length xs) (sym (ap (λ (x : Seated). x.work.recs) (else e s k d.last.page y safe d.sets j ne))) (safe.sessions j is).seated.posed.based)

    -- ITS SESSION

    none_course : (c : Course) → (seat e k).sitting.course ≡ Some c → ⊥
    none_course = no_course (counts e.pages) (seat e k) _ (lock_at e k) me.seated d.all d.at d.last d.records d.were d.sets.unmarked

    told_now : IsToldSource (counts e.pages) ds y (lock_at e k) (session (machine e) k) (with_slot (alone_of e k) d.last.page d.last.slot d.last.before) (before_of e k) (see (machine e) k)
    told_now =
        let unwound = spread_popped (counts e.pages) d.records (alone_of e k) d.last (subst (λ rs. SpreadBack (counts e.pages) rs (alone_of e k)) d.were told.unwound) in
        record {
          agree = told.agree;
          sees = λ f. told.sees (still_all (counts e.pages) (seat e k) _ (lock_at e k) me.seated d.all d.at d.last d.records d.were d.sets.unmarked f);
          spread = spread_at (counts e.pages) d.records (with_slot (alone_of e k) d.last.page d.last.slot d.last.before) unwound;
          seen = λ c at source. absurd (none_course c at);
          planned = λ c at source stage. absurd (none_course c at);
          apart = λ c at. absurd (none_course c at);
          waits = told.waits;
          goes = goes.0;
          sized = (sized_less d.records d.last (subst (λ rs. AreSized rs) d.were told.sized)).0;
          unwound = unwound;
          back = λ f. (back_parts f).0;
        }

    reading_now : IsToldReading s.pages (machine s) y
    reading_now = record {
      seen = λ cut n c within place kept at snap. absurd (none_course c at);
      image = λ cut n p rows within place kept point found. absurd (by_back (counts e.pages) (seat e k) _ (lock_at e k) me.seated d.all d.at d.last d.records d.were d.sets.unmarked (λ t. t ≡ Take p rows → ⊥) (λ ne q. cc) (λ same none q. cc) (λ stmt same is q. cc) point);
      reply = λ cut n c within place kept at snap ended. absurd (none_course c at);
    }

    pub own_told : IsTold s ds k
    own_told = source_over e s k d.last.page y safe d.sets ds content_is y (with_slot (alone_of e k) d.last.page d.last.slot d.last.before) (before_of e k) alone_now (before_at k (ap (λ (x : Seated). x.base) (now e s k d.last.page y safe d.sets)) its_base) (now e s k d.last.page y safe d.sets) told_now reading_now

    pub others : LeavesQuiet e s k
    others = quiet e s k d.last.page y safe d.sets ds content_is alone_else before_else

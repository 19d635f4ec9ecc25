-- The next edit as a write on pages: that it goes, is on a page of the session's own, and which others' records stand beside it.
use Rattle.std.proofs.Common.{◌≡◌, ◌≢◌, ℕ, ◌%◌, ◌<◌, ◌≤◌, true, false, List, [], ◌∷◌, ◌++◌, length, map, refl, ap, sym, subst, ◌∙◌, inl, inr, arith}
use Rattle.std.specs.Prelude.{◌⊎◌, Option, Some, None, slice_index_or}
use Rattle.std.specs.List.{AllByRecursion}
use Rattle.std.proofs.lemmas.Bool.{cases_Bool, cases_eq, cases_lt}
use Rattle.std.proofs.lemmas.List.{get_or_default, get_or_past}
use Rattle.page_base.specs.declared.numbers.Mode.{Mode}
use Rattle.page_base.specs.declared.limits.TheConstants.{MAX_SLOTS}
use Rattle.page_base.specs.declared.numbers.PageId.{PageId}
use Rattle.page_base.specs.Slots.{Slots, with_slot}
use Rattle.page_base.proofs.SlotsLemmas.{with_slot-same}
use Rattle.page_fmt.specs.Spelling.{used}
use Rattle.alloc_pages.specs.Owners.{page_owner}
use Rattle.alloc_pages.proofs.OwnerLemmas.{page_owner-page}
use Rattle.plain_model.specs.State.{see}
use Rattle.plain_steps.specs.Modes.{suffices}
use Rattle.plain_steps.specs.Phases.{first_mode}
use Rattle.rec_log.specs.Records.{Record}
use Rattle.rec_log.specs.Undone.{undone}
use Rattle.rec_log.proofs.UndoneLemmas.{undone-push}
use Rattle.snap_pages.specs.Shown.{counts, img}
use Rattle.sys_cat.specs.declared.desc.TableDesc.{TableDesc}
use Rattle.table_walk.specs.declared.plan.Spot.{Spot}
use Rattle.table_walk.specs.declared.plan.Spot.TheVariants.{Old, New}
use Rattle.table_walk.specs.Addresses.{IsTarget}
use Rattle.table_walk.specs.Plans.{place, named}
use Rattle.page_tables.specs.Claims.{Claimable}
use Rattle.page_tables.specs.Mine.{written, MayWrite, MayWriteAll, AreSpread}
use Rattle.page_tables.specs.Owners.{is_there, span, IsAllocPage, IsSpread}
use Rattle.page_tables.specs.Sheets.{sheets}
use Rattle.page_tables.specs.Writes.{Write, done}
use Rattle.page_tables.proofs.MineLemmas.{every_spot, one_moves}
use Rattle.page_tables.proofs.SheetLemmas.{sheet_same, slot_of_sheet}
use Rattle.open_work.specs.Open.{all, with_part}
use Rattle.open_tables.specs.Back.{FitsBack, LiesIn}
use Rattle.open_tables.specs.Names.{names}
use Rattle.open_commits.proofs.WithinLemmas.{differ}
use Rattle.open_commits.proofs.StandLemmas.{written_now}
use Rattle.open_commits.proofs.ApartLemmas.{own_part, other_part, untouched, claims_all}
use Rattle.step_words.specs.declared.stage.DbKind.TheVariants.{Source}
use Rattle.step_words.specs.Courses.{Course, Draft, Plain, Root, is_planned, is_past_all}
use Rattle.step_words.specs.Coming.{coming, draft_write, edits_left, taken_at}
use Rattle.step_words.proofs.TakenLemmas.{edit_moves, none_left}
use Rattle.step_state.specs.State.{State, IsSession, seat, works, many, machine, slots_at, alone_of}
use Rattle.step_state.specs.Holding.{holds_all, writes, lock_at}
use Rattle.step_state.specs.Posed.{IsOnCourse, IsDraftOn, IsEditOn, NamesBelow}
use Rattle.step_state.specs.Own.{IsSafeSession}
use Rattle.stmt_course.specs.Bringing.{AreOnOwn, SpreadAll}
use Rattle.step_state.specs.Plans.{IsPlanned}
use Rattle.step_state.specs.Told.{AreSized, SpreadBack, GoBack}
use Rattle.step_state.specs.Safe.{Safe, IsContent}
use Rattle.step_state.proofs.PageLemmas.{page_is_small}
use Rattle.step_state.proofs.StandingLemmas.{nothing_beside, nobody_all, page_apart, claims_beside, tells_all}
use Rattle.safe_write.specs.Setting.{record_of}
use Rattle.safe_write.specs.Changing.{next_write, course_after, DoesChange}
use Rattle.safe_write.proofs.ChangeSeat.{editing, all_taken}

-- EDITS, WHERE THE SAME PAGES ARE CLAIMED

pub draft_same : (files : List ℕ) (n : ℕ) (d : Draft) (claimed other : ℕ → PageId) → IsDraftOn files n d → ((i : ℕ) → i < n → claimed i ≡ other i) → draft_write claimed d ≡ draft_write other d
draft_same files n (Plain e) claimed other on same = λ t. record { page = place_same e.spot on.0 t; slot = e.slot; bytes = name_same e.names on.1 t ++ e.bytes }
  where
    place_same : (spot : Spot) → IsEditOn files n spot → place claimed spot ≡ place other spot
    place_same (Old p) t = refl
    place_same (New i) lt = same i lt

    name_same : (o : Option ℕ) → NamesBelow n o → named claimed o ≡ named other o
    name_same None t = refl
    name_same (Some i) lt = ap (λ p. named (λ (m : ℕ). p) (Some i)) (same i lt)
draft_same files n (Root e d new) claimed other on same = λ t. draft_at (place_same e.spot on.0 t) (same new on.1 t)
  where
    draft_at : PageId → PageId → Write
    draft_at p root = draft_write (λ (m : ℕ). root) (Root (record e { spot = Old p }) d new)

    place_same : (spot : Spot) → IsEditOn files n spot → place claimed spot ≡ place other spot
    place_same (Old p) t = refl
    place_same (New i) lt = same i lt

-- WHAT COMES BACK

pub pushed_undone : (rs : List Record) (s : Slots) (r : Record) → s r.page r.slot ≡ r.before → undone (rs ++ r ∷ []) (with_slot s r.page r.slot r.after) ≡ undone rs s
pushed_undone rs s r was = ap (λ x. undone (rs ++ record { page = r.page; slot = r.slot; before = x; after = r.after } ∷ []) (with_slot s r.page r.slot r.after)) (sym was) ∙ undone-push rs s r.page r.slot r.after

pub go_pushed : (rs : List Record) (s : Slots) (r : Record) → s r.page r.slot ≡ r.before → (length r.before ≡ length r.after) ⊎ (used (sheets s r.page) ≤ 8192) → GoBack rs s → GoBack (rs ++ r ∷ []) (with_slot s r.page r.slot r.after)
go_pushed [] s r was fits b = (tt, with_slot-same s r.page r.slot r.after, again fits)
  where
    restored : with_slot (with_slot s r.page r.slot r.after) r.page r.slot r.before ≡ s
    restored = pushed_undone [] s r was

    again : (length r.before ≡ length r.after) ⊎ (used (sheets s r.page) ≤ 8192) → FitsBack (with_slot s r.page r.slot r.after) r
    again (inl size) = inl size
    again (inr room) = inr (subst (λ (t : Slots). used (sheets t r.page) ≤ 8192) (sym restored) room)
go_pushed (x ∷ rs) s r was fits b =
    let same : undone (rs ++ r ∷ []) (with_slot s r.page r.slot r.after) ≡ undone rs s = pushed_undone rs s r was in
    let back = subst (λ (t : Slots). (t x.page x.slot ≡ x.after) × FitsBack t x) (sym same) (b.1, b.2) in
    (go_pushed rs s r was fits b.0, back.0, back.1)

pub spread_pushed : (files : List ℕ) (rs : List Record) (s : Slots) (r : Record) → s r.page r.slot ≡ r.before → AreSpread files (sheets (with_slot s r.page r.slot r.after)) → SpreadBack files rs s → SpreadBack files (rs ++ r ∷ []) (with_slot s r.page r.slot r.after)
spread_pushed files [] s r was now b = (now, subst (λ (t : Slots). AreSpread files (sheets t)) (sym (pushed_undone [] s r was)) b)
spread_pushed files (x ∷ rs) s r was now b = (spread_pushed files rs s r was now b.0, subst (λ (t : Slots). AreSpread files (sheets t)) (sym (pushed_undone (x ∷ rs) s r was)) b.1)

-- writes that leave allocation pages such leave their slots as long as they were
slot_size : (files : List ℕ) (s : Slots) (p : PageId) (i : ℕ) → IsSpread files (sheets s) p → i < MAX_SLOTS → ((i < span files p) × (length (s p i) ≡ 4)) ⊎ ((span files p ≤ i) × (length (s p i) ≡ 0))
slot_size files s p i spread lt = elim (cases_lt i (span files p)) [
  | inl within ↦ inl (within, ap length (sym (slot_of_sheet s p i lt)) ∙ spread.four i within)
  | inr past ↦ inr (past, ap length (sym (slot_of_sheet s p i lt) ∙ get_or_past (sheets s p) i [] (omega (arith, spread.long, past))))
]

pub same_size : (files : List ℕ) (s : Slots) (w : Write) → AreSpread files (sheets s) → AreSpread files (sheets (written w s)) → is_there files w.page ≡ true → w.slot < MAX_SLOTS → w.page.page % 1280 ≡ 0 → length (s w.page w.slot) ≡ length w.bytes
same_size files s w before after there lt every =
    let alloc : IsAllocPage files w.page = record { there = there; every = every } in
    let now : length (written w s w.page w.slot) ≡ length w.bytes = ap length (with_slot-same s w.page w.slot w.bytes) in
    elim (slot_size files s w.page w.slot (before w.page alloc) lt) [
      | inl a ↦ elim (slot_size files (written w s) w.page w.slot (after w.page alloc) lt) [
        | inl b ↦ a.1 ∙ sym b.1 ∙ now
        | inr b ↦ absurd (omega (arith, a.0, b.0))
      ]
      | inr a ↦ elim (slot_size files (written w s) w.page w.slot (after w.page alloc) lt) [
        | inl b ↦ absurd (omega (arith, a.0, b.0))
        | inr b ↦ a.1 ∙ sym b.1 ∙ now
      ]
    ]

pub sized_more : (rs : List Record) (r : Record) → AreSized rs → (r.page.page % 1280 ≡ 0 → length r.before ≡ length r.after) → AreSized (rs ++ r ∷ [])
sized_more [] r a h = (h, tt)
sized_more (x ∷ rs) r a h = (a.0, sized_more rs r a.1 h)

pub spread_head : (files : List ℕ) (s : Slots) (ws : List Write) → SpreadAll files s ws → AreSpread files (sheets s)
spread_head files s [] a = a
spread_head files s (w ∷ ws) a = a.0

-- the first of these pages were claimed
abbrev pub AsTaken : Course → (ℕ → PageId) → Type 0
AsTaken c claimed = (i : ℕ) → i < length c.taken → (q : PageId) → slice_index_or c.taken i q ≡ claimed i

module _ (e s : State) (k : ℕ) (safe : Safe e) (d : DoesChange e s k) (ds : List TableDesc) (content : IsContent e ds) where
  abbrev held : ℕ → Option Mode
  held = lock_at e k

  abbrev w : Write
  w = next_write d.course d.draft

  abbrev r : Record
  r = record_of (slots_at e) (next_write d.course d.draft)

  me : IsSafeSession e k
  me = safe.sessions k d.sets.is

  pub at_source : d.course.at ≡ Source
  at_source = me.seated.writing d.course d.has (inr (editing (counts e.pages) (seat e k) _ (lock_at e k) me.seated d.page d.at d.course d.has d.draft d.drafts d.next r d.sets.unmarked))

  pub at_edit : is_planned d.course.stage ≡ true
  at_edit = ap is_planned (editing (counts e.pages) (seat e k) _ (lock_at e k) me.seated d.page d.at d.course d.has d.draft d.drafts d.next r d.sets.unmarked)

  pub taken_all : length d.course.taken ≡ length d.course.owners
  taken_all = all_taken (counts e.pages) (seat e k) _ (lock_at e k) me.seated d.page d.at d.course d.has d.draft d.drafts d.next r d.sets.unmarked

  pub on_course : IsOnCourse (counts e.pages) (seat e k) d.course
  on_course = me.seated.posed.course d.course d.has

  pub has_lock : lock_at e k 0 ≢ None
  has_lock none =
      let past : is_past_all d.course.stage ≡ true = ap is_past_all (editing (counts e.pages) (seat e k) _ (lock_at e k) me.seated d.page d.at d.course d.has d.draft d.drafts d.next r d.sets.unmarked) in
      let enough = (me.seated.holding d.course d.has at_source).all past in
      (let wrong : false ≡ true = ap (λ o. suffices o (first_mode d.course.stmt)) (sym none) ∙ enough in cc)

  pub planned : IsPlanned (counts e.pages) ds (lock_at e k) (alone_of e k) (see (machine e) k) d.course
  planned = (content.1 k d.sets.is).source.planned d.course d.has at_source at_edit

  pub first_edit : IsDraftOn (counts e.pages) (length d.course.owners) d.draft
  first_edit = (subst (λ es. AllByRecursion (IsDraftOn (counts e.pages) (length d.course.owners)) es) d.next on_course.within).0

  -- THE PAGES ARE CLAIMED

  pub is_claimable : (own : Slots) (claimed : ℕ → PageId) → AsTaken d.course claimed → Claimable (counts e.pages) own d.course.taken (length d.course.owners) claimed
  is_claimable own claimed were = record {
    were = were;
    there = λ i le lt. absurd (omega (arith, le, lt, taken_all));
    free = λ i le lt. absurd (omega (arith, le, lt, taken_all));
    differ = λ i j lt l same. (content.1 k d.sets.is).source.apart d.course d.has i j (record { file = 0; page = 0 }) lt (omega (arith, l, taken_all)) (were i (omega (arith, lt, l, taken_all)) (record { file = 0; page = 0 }) ∙ same ∙ sym (were j (omega (arith, l, taken_all)) (record { file = 0; page = 0 })));
    targets = λ i lt. subst IsTarget (were i (omega (arith, lt, taken_all)) (record { file = 0; page = 0 })) (on_course.targets i (record { file = 0; page = 0 }) (omega (arith, lt, taken_all)));
  }

  pub were_taken : AsTaken d.course (taken_at d.course)
  were_taken i lt q = get_or_default d.course.taken i q (record { file = 0; page = 0 }) lt

  none_to_claim : length d.course.owners ≤ length d.course.taken
  none_to_claim = omega (arith, taken_all)

  pub coming_is : (claimed : ℕ → PageId) → AsTaken d.course claimed → coming d.course claimed ≡ next_write d.course d.draft ∷ coming (course_after d.course d.drafts) claimed
  coming_is claimed were =
      edit_moves d.course d.draft d.drafts claimed none_to_claim d.next
      ∙ ap (λ v. v ∷ coming (course_after d.course d.drafts) claimed) (draft_same (counts e.pages) (length d.course.owners) d.draft claimed (taken_at d.course) first_edit (λ i lt. sym (were i (omega (arith, lt, taken_all)) (record { file = 0; page = 0 }))))

  pub edits_are : (claimed : ℕ → PageId) → AsTaken d.course claimed → edits_left d.course claimed ≡ next_write d.course d.draft ∷ edits_left (course_after d.course d.drafts) claimed
  edits_are claimed were =
      ap (map (draft_write claimed)) d.next
      ∙ ap (λ v. v ∷ edits_left (course_after d.course d.drafts) claimed) (draft_same (counts e.pages) (length d.course.owners) d.draft claimed (taken_at d.course) first_edit (λ i lt. sym (were i (omega (arith, lt, taken_all)) (record { file = 0; page = 0 }))))

  pub goes_now : (claimed : ℕ → PageId) → AsTaken d.course claimed → MayWrite (counts e.pages) (alone_of e k) (next_write d.course d.draft) × MayWriteAll (counts e.pages) (written (next_write d.course d.draft) (alone_of e k)) (coming (course_after d.course d.drafts) claimed)
  goes_now claimed were = subst (MayWriteAll (counts e.pages) (alone_of e k)) (coming_is claimed were) (planned.brings.go claimed (is_claimable (alone_of e k) claimed were))

  pub own_now : holds_all (lock_at e k) ≡ false → (claimed : ℕ → PageId) → AsTaken d.course claimed → AreOnOwn (counts e.pages) (writes (lock_at e k)) (alone_of e k) (next_write d.course d.draft ∷ edits_left (course_after d.course d.drafts) claimed)
  own_now f claimed were = subst (AreOnOwn (counts e.pages) (writes (lock_at e k)) (alone_of e k)) (edits_are claimed were)
      (subst (λ ws. AreOnOwn (counts e.pages) (writes (lock_at e k)) (done ws (alone_of e k)) (edits_left d.course claimed)) (none_left d.course claimed none_to_claim) (planned.brings.own f claimed (is_claimable (alone_of e k) claimed were)))

  -- OTHERS' RECORDS

  module _ (f : holds_all (lock_at e k) ≡ false) where
    nobody : (j : ℕ) → IsSession e j → holds_all (lock_at e j) ≡ false
    nobody j is = nobody_all e safe.sessions safe.whole k j has_lock f

    mine : (is_there (counts e.pages) (next_write d.course d.draft).page ≡ true) × (writes (lock_at e k) (page_owner (alone_of e k) (next_write d.course d.draft).page) ≡ true)
    mine = (own_now f (taken_at d.course) were_taken).0

    mine_now : writes (lock_at e k) (page_owner (slots_at e) (next_write d.course d.draft).page) ≡ true
    mine_now = written_now (writes (lock_at e k)) (slots_at e) (all (many e) (with_part (works e) k [])) (next_write d.course d.draft).page refl (claims_all (many e) (with_part (works e) k []) (λ m lt. claims_beside e safe.sessions safe.whole ds content nobody k m)) mine.1

    pub off_alloc_now : (next_write d.course d.draft).page.page % 1280 ≢ 0
    off_alloc_now every = differ (writes (lock_at e k) (page_owner (slots_at e) (next_write d.course d.draft).page)) mine_now (ap (writes (lock_at e k)) (tells_all e safe.sessions safe.whole ds content nobody (next_write d.course d.draft).page mine.0 every))

    lacks_apart : (j i : ℕ) → j ≢ k → names (works e j) (next_write d.course d.draft).page i ≡ false
    lacks_apart j i ne = page_apart e safe.sessions safe.whole ds content nobody k j (next_write d.course d.draft).page i ne off_alloc_now mine_now

    pub spread_apart : AreSpread (counts e.pages) (sheets (written (next_write d.course d.draft) (alone_of e k)))
    spread_apart = (one_moves (counts e.pages) (writes (lock_at e k)) refl refl (alone_of e k) (content.1 k d.sets.is).source.spread (next_write d.course d.draft) (inl mine)).spread

    pub lies_now : (r : Record) → r.page ≡ (next_write d.course d.draft).page → LiesIn (writes (lock_at e k)) (with_slot (alone_of e k) r.page r.slot r.after) r
    lies_now r at = inl (
      (λ every. off_alloc_now (ap (λ (p : PageId). p.page % 1280) (sym at) ∙ every)),
      ap (writes (lock_at e k)) (page_owner-page (alone_of e k) r.page r.page r.slot r.after (λ g. off_alloc_now (ap (λ (p : PageId). p.page % 1280) (sym at ∙ sym g) ∙ every_spot r.page)) ∙ ap (page_owner (alone_of e k)) at) ∙ mine.1,
    )

  -- no other session's records name a slot of the page
  pub lacks : (j i : ℕ) → j ≢ k → names (works e j) (next_write d.course d.draft).page i ≡ false
  lacks j i ne = elim (cases_Bool (holds_all (lock_at e k))) [
    | inl t ↦ ap (λ (xs : List Record). names xs (next_write d.course d.draft).page i) (nothing_beside e safe.sessions safe.whole k j ne t)
    | inr f ↦ lacks_apart f j i ne
  ]

  lacks_beside : (m i : ℕ) → names (with_part (works e) k [] m) (next_write d.course d.draft).page i ≡ false
  lacks_beside m i = elim (cases_eq m k) [
    | inl here ↦ ap (λ (xs : List Record). names xs (next_write d.course d.draft).page i) (ap (λ o. with_part (works e) k [] o) here ∙ own_part (works e) k [])
    | inr far ↦ ap (λ (xs : List Record). names xs (next_write d.course d.draft).page i) (other_part (works e) k m [] far) ∙ lacks m i far
  ]

  -- so the page stands as the session sees it
  pub as_it_stands : (i : ℕ) → alone_of e k (next_write d.course d.draft).page i ≡ slots_at e (next_write d.course d.draft).page i
  as_it_stands i = untouched (many e) (with_part (works e) k []) (slots_at e) (next_write d.course d.draft).page i (λ m lt. lacks_beside m i)

  pub has_room : used (sheets (alone_of e k) (next_write d.course d.draft).page) ≤ 8192
  has_room =
      let there : is_there (counts e.pages) (next_write d.course d.draft).page ≡ true = (goes_now (taken_at d.course) were_taken).0.there in
      subst (λ slots. used slots ≤ 8192) (sym (sheet_same (alone_of e k) (slots_at e) (next_write d.course d.draft).page (λ t i. as_it_stands i t)))
      (page_is_small (img e.pages) (next_write d.course d.draft).page (content.0.images (next_write d.course d.draft).page there))

  pub spread_now : AreSpread (counts e.pages) (sheets (written (next_write d.course d.draft) (alone_of e k)))
  spread_now = elim (cases_Bool (holds_all (lock_at e k))) [
    | inl t ↦ spread_head (counts e.pages) (written (next_write d.course d.draft) (alone_of e k)) (coming (course_after d.course d.drafts) (taken_at d.course))
        (subst (SpreadAll (counts e.pages) (alone_of e k)) (coming_is (taken_at d.course) were_taken) (planned.brings.spread t (taken_at d.course) (is_claimable (alone_of e k) (taken_at d.course) were_taken))).1
    | inr f ↦ spread_apart f
  ]

  pub size_kept : (next_write d.course d.draft).page.page % 1280 ≡ 0 → length (slots_at e (next_write d.course d.draft).page (next_write d.course d.draft).slot) ≡ length (next_write d.course d.draft).bytes
  size_kept every =
      let goes = (goes_now (taken_at d.course) were_taken).0 in
      ap length (sym (as_it_stands (next_write d.course d.draft).slot)) ∙ same_size (counts e.pages) (alone_of e k) (next_write d.course d.draft) (content.1 k d.sets.is).source.spread spread_now goes.there goes.index every

-- What a claim leaves where the files tell.
use Rattle.std.proofs.Common.{◌≡◌, ◌≢◌, ℕ, zero, suc, ◌+◌, ◌-◌, ◌%◌, ◌<◌, Bool, true, false, List, [], ◌∷◌, ◌++◌, length, drop, refl, ap, sym, subst, ◌∙◌, inl, inr, arith}
use Rattle.std.specs.Prelude.{Some, None, slice_index_or}
use Rattle.std.specs.List.{AllByRecursion}
use Rattle.std.proofs.lemmas.Bool.{cases_Bool, cases_eq, eq-eqb, ne_eqb}
use Rattle.std.proofs.lemmas.List.{length-append, get_or_append_left}
use Rattle.std.proofs.Math.Seq.{get_or-append_seam}
use Rattle.page_base.specs.declared.limits.TheConstants.{MAX_SLOTS}
use Rattle.page_base.specs.declared.numbers.PageId.{PageId}
use Rattle.page_base.specs.Slots.{Slots, with_slot}
use Rattle.page_fmt.specs.Content.{content}
use Rattle.plain_model.specs.Meaning.{change_and_reply}
use Rattle.plain_model.specs.State.{session, see}
use Rattle.plain_model.specs.Tables.{apply}
use Rattle.rec_log.specs.Records.{Record}
use Rattle.snap_pages.specs.Shown.{counts, img}
use Rattle.sys_cat.specs.declared.desc.TableDesc.{TableDesc}
use Rattle.alloc_pages.specs.Owners.{owner_in, page_owner, owner_bytes}
use Rattle.alloc_pages.specs.Spots.{spot_of}
use Rattle.alloc_pages.proofs.OwnerLemmas.{page_owner-same, page_owner-other}
use Rattle.page_tables.specs.Bases.{IsBase}
use Rattle.page_tables.specs.Claims.{Claimable}
use Rattle.page_tables.specs.Mine.{written, is_of, IsClaim, MayWriteAll, AreSpread}
use Rattle.page_tables.specs.Owners.{is_there}
use Rattle.page_tables.specs.Sheets.{sheets}
use Rattle.page_tables.specs.Writes.{claim, done}
use Rattle.page_tables.proofs.MineLemmas.{every_spot, spot_there, one_moves}
use Rattle.open_work.specs.Moves.{Changes}
use Rattle.open_work.specs.Open.{all, with_part}
use Rattle.open_work.proofs.OpenLemmas.{settled_same, alone_other, alone_own, before_same}
use Rattle.open_tables.specs.Names.{names, AreClaims}
use Rattle.open_tables.proofs.BackLemmas.{pushed, back_one}
use Rattle.open_commits.proofs.AheadLemmas.{lacking}
use Rattle.open_commits.proofs.ApartLemmas.{own_part, other_part, untouched, claims_all}
use Rattle.open_commits.proofs.WithinLemmas.{differ}
use Rattle.step_words.specs.declared.point.Point.TheVariants.{Take}
use Rattle.step_words.specs.declared.stage.DbKind.TheVariants.{Source, Snap}
use Rattle.step_words.specs.declared.stage.Stage.TheVariants.{Claim as Claiming}
use Rattle.step_words.specs.Courses.{Course, is_planned, is_past_all}
use Rattle.step_words.specs.Coming.{coming, claims_of, claims_left, edits_left}
use Rattle.step_words.specs.Sittings.{stmt_at, undoes_all}
use Rattle.step_words.specs.Seats.{Seated}
use Rattle.step_words.proofs.TakenLemmas.{claim_moves, drop_next}
use Rattle.plain_steps.specs.Modes.{suffices}
use Rattle.plain_steps.specs.Phases.{first_mode}
use Rattle.step_state.specs.State.{State, IsSession, seat, works, many, machine, slots_at, settled_of, alone_of, before_of}
use Rattle.step_state.specs.Holding.{holds_all, writes, lock_at}
use Rattle.step_state.specs.Own.{IsSafeSession}
use Rattle.stmt_course.specs.Bringing.{AreOnOwn, SpreadAll, IsGiven}
use Rattle.step_state.specs.Plans.{IsPlanned}
use Rattle.step_state.specs.Posed.{IsOnCourse, IsRecordOf}
use Rattle.step_state.specs.Told.{AreSeen, SeesSource, DifferAll, IsToldSource, IsToldReading, IsTold}
use Rattle.step_state.specs.Safe.{Safe, IsContent}
use Rattle.step_state.specs.Steps.{LeavesQuiet}
use Rattle.step_state.proofs.StandingLemmas.{is_many, nothing_beside, nobody_all, claims_beside, lie}
use Rattle.safe_write.specs.Setting.{record_of}
use Rattle.safe_write.specs.Claiming.{course_then, point_then, seat_then, DoesClaim}
use Rattle.safe_write.proofs.ChangeSeat.{some_same}
use Rattle.safe_write.proofs.ClaimLemmas.{claimed_is_owned, go_drop}
use Rattle.safe_write.proofs.ClaimSeat.{claiming, owners_left, at_then}
use Rattle.safe_write.proofs.SetWhole.{now, else}
use Rattle.safe_write.proofs.SetTold.{settled_over, alone_over, before_over, source_over, quiet}
use Rattle.safe_write.proofs.Writing.{go_pushed, spread_pushed, sized_more, same_size}

module _ (e s : State) (k : ℕ) (safe : Safe e) (d : DoesClaim e s k) where
  abbrev its_record : Record
  its_record = record_of (slots_at e) (claim d.number d.target)

  abbrev y : Seated
  y = seat_then (seat e k) d.course d.numbers d.target its_record

  me : IsSafeSession e k
  me = safe.sessions k d.sets.is

  record_is : IsRecordOf its_record (claim d.number d.target)
  record_is = record { page = refl; slot = refl; after = refl }

  pub at_claim : d.course.stage ≡ Claiming
  at_claim = claiming (counts e.pages) (seat e k) _ (lock_at e k) me.seated d.number d.at d.course d.has d.numbers d.next d.target d.may_be_named d.there its_record record_is d.sets.unmarked

  pub at_source : d.course.at ≡ Source
  at_source = me.seated.writing d.course d.has (inl at_claim)

  pub lock_there : lock_at e k 0 ≢ None
  lock_there none =
      let enough = (me.seated.holding d.course d.has at_source).all (ap is_past_all at_claim) in
      (let wrong : false ≡ true = ap (λ o. suffices o (first_mode d.course.stmt)) (sym none) ∙ enough in cc)

  on : IsOnCourse (counts e.pages) (seat e k) d.course
  on = me.seated.posed.course d.course d.has

  long : length (d.course.taken ++ d.target ∷ []) ≡ length d.course.taken + 1
  long = length-append d.course.taken (d.target ∷ [])

  left : length d.course.owners - length d.course.taken ≡ suc (length d.numbers)
  left = owners_left (counts e.pages) (seat e k) _ (lock_at e k) me.seated d.number d.at d.course d.has d.numbers d.next d.target d.may_be_named d.there its_record record_is d.sets.unmarked

  -- the page is free as it stands
  free_now : page_owner (slots_at e) d.target ≡ 0
  free_now = ap (λ (p : PageId). owner_in (slice_index_or (content (img e.pages p)) (spot_of d.target).slot [])) d.on ∙ d.first.free

  small_drop : (n : ℕ) (ns : List ℕ) → AllByRecursion (λ (number : ℕ). number + 1 < 4294967295) ns → (m : ℕ) (ms : List ℕ) → drop n ns ≡ m ∷ ms → m + 1 < 4294967295
  small_drop zero ns all m ms e = (subst (λ xs. AllByRecursion (λ (number : ℕ). number + 1 < 4294967295) xs) e all).0
  small_drop (suc n) [] all m ms e = cc
  small_drop (suc n) (x ∷ xs) all m ms e = small_drop n xs all.1 m ms e

  small : d.number + 1 < 4294967295
  small = small_drop (length d.course.taken) d.course.owners on.numbers d.number d.numbers d.next

  module _ (ds : List TableDesc) (content : IsContent e ds) where
    told : IsToldSource (counts e.pages) ds (seat e k) (lock_at e k) (session (machine e) k) (alone_of e k) (before_of e k) (see (machine e) k)
    told = (content.1 k d.sets.is).source

    nobody : holds_all (lock_at e k) ≡ false → (j : ℕ) → IsSession e j → holds_all (lock_at e j) ≡ false
    nobody f j is = nobody_all e safe.sessions safe.whole k j lock_there f

    -- OTHERS' RECORDS

    claims_others : (m : ℕ) → AreClaims (with_part (works e) k [] m)
    claims_others m = elim (cases_Bool (holds_all (lock_at e k))) [
      | inr f ↦ claims_beside e safe.sessions safe.whole ds content (nobody f) k m
      | inl t ↦ elim (cases_eq m k) [
        | inl here ↦ subst AreClaims (sym (ap (λ o. with_part (works e) k [] o) here ∙ own_part (works e) k [])) tt
        | inr far ↦ subst AreClaims (sym (other_part (works e) k m [] far ∙ nothing_beside e safe.sessions safe.whole k m far t)) tt
      ]
    ]

    free_alone : page_owner (alone_of e k) d.target ≡ 0
    free_alone = elim (back_one (writes (lock_at e k)) (all (many e) (with_part (works e) k [])) (slots_at e) d.target (claims_all (many e) (with_part (works e) k []) (λ m lt. claims_others m))) [
      | inl same ↦ same ∙ free_now
      | inr free ↦ free
    ]

    lacks : (j : ℕ) → j ≢ k → names (works e j) (spot_of d.target).page (spot_of d.target).slot ≡ false
    lacks j ne = elim (cases_Bool (holds_all (lock_at e k))) [
      | inl t ↦ ap (λ (xs : List Record). names xs (spot_of d.target).page (spot_of d.target).slot) (nothing_beside e safe.sessions safe.whole k j ne t)
      | inr f ↦ elim (cases_Bool (names (works e j) (spot_of d.target).page (spot_of d.target).slot)) [
        | inr none ↦ none
        | inl named ↦ differ (writes (lock_at e j) 0) (ap (writes (lock_at e j)) (sym free_now) ∙ (lie e safe.sessions safe.whole ds content (nobody f) j).claimed d.target named) refl
      ]
    ]

    lacks_beside : (m : ℕ) → names (with_part (works e) k [] m) (spot_of d.target).page (spot_of d.target).slot ≡ false
    lacks_beside m = elim (cases_eq m k) [
      | inl here ↦ ap (λ (xs : List Record). names xs (spot_of d.target).page (spot_of d.target).slot) (ap (λ o. with_part (works e) k [] o) here ∙ own_part (works e) k [])
      | inr far ↦ ap (λ (xs : List Record). names xs (spot_of d.target).page (spot_of d.target).slot) (other_part (works e) k m [] far) ∙ lacks m far
    ]

    as_it_stands : alone_of e k (spot_of d.target).page (spot_of d.target).slot ≡ slots_at e (spot_of d.target).page (spot_of d.target).slot
    as_it_stands = untouched (many e) (with_part (works e) k []) (slots_at e) (spot_of d.target).page (spot_of d.target).slot (λ m lt. lacks_beside m)

    -- THE CLAIM AS A CHANGE OF OPEN WORK

    moves : Changes (many e) k (works e) (works s) its_record (slots_at e) (slots_at s)
    moves = record {
      has = record {
        there = is_many e k d.sets.is;
        own = ap (λ (x : Seated). x.work.recs) (now e s k d.page y safe d.sets);
        others = λ j ne. ap (λ (x : Seated). x.work.recs) (else e s k d.page y safe d.sets j ne);
        apart = λ j ne. lacking (works e j) (spot_of d.target).page (spot_of d.target).slot (lacks j ne);
      };
      was = refl;
      is = d.slot ∙ ap (λ p. with_slot (slots_at e) p (spot_of d.target).slot (owner_bytes (d.number + 1))) (sym d.on);
    }

    pub settled_now : settled_of s ≡ settled_of e
    settled_now = settled_over e s k d.page y safe d.sets ds content (settled_same (many e) k (works e) (works s) its_record (slots_at e) (slots_at s) moves)

    alone_else : (j : ℕ) → j ≢ k → alone_of s j ≡ alone_of e j
    alone_else j ne = alone_over e s k d.page y safe d.sets ds content j (alone_of e j) (alone_other (many e) k (works e) (works s) its_record (slots_at e) (slots_at s) moves j ne)

    alone_now : alone_of s k ≡ written (claim d.number d.target) (alone_of e k)
    alone_now = alone_over e s k d.page y safe d.sets ds content k (written (claim d.number d.target) (alone_of e k)) (alone_own (many e) k (works e) (works s) its_record (slots_at e) (slots_at s) moves)

    before_at : (j : ℕ) → IsSession e j → (seat s j).base ≡ (seat e j).base → before_of s j ≡ before_of e j
    before_at j is at = before_over e s k d.page y safe d.sets ds content j (seat s j).base at
        (before_same (many e) k (works e) (works s) its_record (slots_at e) (slots_at s) moves j (seat e j).base (safe.sessions j is).seated.posed.based)

    -- THE PAGE IS NOT ONE OF THOSE THAT WERE CLAIMED

    new_page : (i : ℕ) (q : PageId) → i < length d.course.taken → slice_index_or d.course.taken i q ≢ d.target
    new_page i q lt same = claimed_is_owned (drop (seat e k).base (works e k)) d.course.owners d.course.taken (alone_of e k) (me.seated.posed.claims d.course d.has at_claim) on.numbers (told.apart d.course d.has) (go_drop (seat e k).base (works e k) (alone_of e k) told.goes) i q lt (ap (page_owner (alone_of e k)) same ∙ free_alone)

    old_at : (i : ℕ) (q : PageId) → i < length d.course.taken → slice_index_or (d.course.taken ++ d.target ∷ []) i q ≡ slice_index_or d.course.taken i q
    old_at i q lt = get_or_append_left d.course.taken (d.target ∷ []) q i lt

    new_at : (i : ℕ) (q : PageId) → i ≡ length d.course.taken → slice_index_or (d.course.taken ++ d.target ∷ []) i q ≡ d.target
    new_at i q here = ap (λ m. slice_index_or (d.course.taken ++ d.target ∷ []) m q) here ∙ get_or-append_seam d.course.taken d.target [] q

    apart_now : DifferAll (d.course.taken ++ d.target ∷ [])
    apart_now i j q lt l same = elim (cases_eq j (length d.course.taken)) [
      | inl here ↦ (let less : i < length d.course.taken = omega (arith, lt, here) in new_page i q less (sym (old_at i q less) ∙ same ∙ new_at j q here))
      | inr ne ↦ (let less : j < length d.course.taken = omega (arith, l, long, ne) in told.apart d.course d.has i j q lt less (sym (old_at i q (omega (arith, lt, less))) ∙ same ∙ old_at j q less))
    ]

    -- THE PLAN GOES ON

    is_claim : IsClaim (counts e.pages) (is_of d.number) (alone_of e k) (claim d.number d.target)
    is_claim = record { page = d.target; number = d.number; is = refl; there = d.there; free = free_alone; small = small; given = same_of }
      where
        same_of : is_of d.number (d.number + 1) ≡ true
        same_of = eq-eqb (d.number + 1) (d.number + 1) refl

    spread_now : AreSpread (counts e.pages) (sheets (written (claim d.number d.target) (alone_of e k)))
    spread_now = (one_moves (counts e.pages) (is_of d.number) (ne_eqb 0 (d.number + 1) (λ z. omega (arith, z))) (ne_eqb 4294967295 (d.number + 1) (λ z. omega (arith, z, small))) (alone_of e k) told.spread (claim d.number d.target) (inr is_claim)).spread

    abbrev IsOk : Course → Slots → (ℕ → PageId) → Type 0
    IsOk c own claimed = Claimable (counts e.pages) own c.taken (length c.owners) claimed

    next_is : (claimed : ℕ → PageId) → IsOk (course_then d.course d.numbers d.target) (written (claim d.number d.target) (alone_of e k)) claimed → claimed (length d.course.taken) ≡ d.target
    next_is claimed ok = sym (ok.were (length d.course.taken) (omega (arith, long)) d.target) ∙ new_at (length d.course.taken) d.target refl

    ok_before : (claimed : ℕ → PageId) → IsOk (course_then d.course d.numbers d.target) (written (claim d.number d.target) (alone_of e k)) claimed → IsOk d.course (alone_of e k) claimed
    ok_before claimed ok = record {
      were = λ i lt q. sym (old_at i q lt) ∙ ok.were i (omega (arith, lt, long)) q;
      there = λ i le lt. elim (cases_eq i (length d.course.taken)) [
        | inl here ↦ ap (is_there (counts e.pages)) (ap claimed here ∙ next_is claimed ok) ∙ d.there
        | inr ne ↦ ok.there i (omega (arith, le, ne, long)) lt
      ];
      free = λ i le lt. elim (cases_eq i (length d.course.taken)) [
        | inl here ↦ ap (page_owner (alone_of e k)) (ap claimed here ∙ next_is claimed ok) ∙ free_alone
        | inr ne ↦
            let other : claimed i ≢ d.target = λ same. ok.differ (length d.course.taken) i (omega (arith, le, ne)) lt (next_is claimed ok ∙ sym same) in
            sym (page_owner-other (alone_of e k) d.target (claimed i) (owner_bytes (d.number + 1)) other) ∙ ok.free i (omega (arith, le, ne, long)) lt
      ];
      differ = ok.differ;
      targets = ok.targets;
    }

    plan : IsPlanned (counts e.pages) ds (lock_at e k) (alone_of e k) (see (machine e) k) d.course
    plan = told.planned d.course d.has at_source (ap is_planned at_claim)

    comes : (claimed : ℕ → PageId) → IsOk (course_then d.course d.numbers d.target) (written (claim d.number d.target) (alone_of e k)) claimed → coming d.course claimed ≡ claim d.number d.target ∷ coming (course_then d.course d.numbers d.target) claimed
    comes claimed ok = claim_moves d.course d.number d.numbers d.target claimed d.next (next_is claimed ok)

    claims_come : (claimed : ℕ → PageId) → IsOk (course_then d.course d.numbers d.target) (written (claim d.number d.target) (alone_of e k)) claimed → claims_left d.course claimed ≡ claim d.number d.target ∷ claims_left (course_then d.course d.numbers d.target) claimed
    claims_come claimed ok =
        let later : drop (length (d.course.taken ++ d.target ∷ [])) d.course.owners ≡ d.numbers = ap (λ n. drop n d.course.owners) long ∙ drop_next d.course.owners (length d.course.taken) d.number d.numbers d.next in
        ap (λ ns. claims_of ns (length d.course.taken) claimed) d.next
        ∙ ap (λ q. claim d.number q ∷ claims_of d.numbers (length d.course.taken + 1) claimed) (next_is claimed ok)
        ∙ ap (λ n. claim d.number d.target ∷ claims_of d.numbers n claimed) (sym long)
        ∙ ap (λ ns. claim d.number d.target ∷ claims_of ns (length (d.course.taken ++ d.target ∷ [])) claimed) (sym later)

    given_left : holds_all (lock_at e k) ≡ false → IsGiven (writes (lock_at e k)) d.number × AllByRecursion (IsGiven (writes (lock_at e k))) d.numbers
    given_left f = subst (λ ns. AllByRecursion (IsGiven (writes (lock_at e k))) ns) d.next (plan.brings.given f)

    plan_now : IsPlanned (counts e.pages) ds (lock_at e k) (written (claim d.number d.target) (alone_of e k)) (see (machine e) k) (course_then d.course d.numbers d.target)
    plan_now = record {
      shaped = plan.shaped;
      reply = plan.reply;
      after = plan.after;
      brings = record {
        go = λ claimed ok. (subst (MayWriteAll (counts e.pages) (alone_of e k)) (comes claimed ok) (plan.brings.go claimed (ok_before claimed ok))).1;
        given = λ f. subst (λ ns. AllByRecursion (IsGiven (writes (lock_at e k))) ns) (sym (ap (λ n. drop n d.course.owners) long ∙ drop_next d.course.owners (length d.course.taken) d.number d.numbers d.next)) (given_left f).1;
        own = λ f claimed ok. subst (λ ws. AreOnOwn (counts e.pages) (writes (lock_at e k)) (done ws (alone_of e k)) (edits_left d.course claimed)) (claims_come claimed ok) (plan.brings.own f claimed (ok_before claimed ok));
        spread = λ t claimed ok. (subst (SpreadAll (counts e.pages) (alone_of e k)) (comes claimed ok) (plan.brings.spread t claimed (ok_before claimed ok))).1;
        base = λ claimed ok. subst (λ ws. IsBase (counts e.pages) (sheets (done ws (alone_of e k))) (plan.after claimed) (apply (change_and_reply d.course.stmt (see (machine e) k)).0 (see (machine e) k))) (comes claimed ok) (plan.brings.base claimed (ok_before claimed ok));
      };
      same = plan.same;
    }

    -- ITS SESSION

    size : length its_record.before ≡ length its_record.after
    size = ap length (sym as_it_stands) ∙ same_size (counts e.pages) (alone_of e k) (claim d.number d.target) told.spread spread_now (spot_there (counts e.pages) d.target d.there) (slot_few d.target) (every_spot d.target)
      where
        slot_few : (p : PageId) → p.page % 1280 < MAX_SLOTS
        slot_few p = omega arith

    owned : page_owner (written (claim d.number d.target) (alone_of e k)) d.target ≡ d.number + 1
    owned = page_owner-same (alone_of e k) d.target (d.number + 1) (omega (arith, small))

    seen_now : (c : Course) → Some (course_then d.course d.numbers d.target) ≡ Some c → c.at ≡ Source → SeesSource (counts e.pages) ds (written (claim d.number d.target) (alone_of e k)) c
    seen_now c at source = subst (SeesSource (counts e.pages) ds (written (claim d.number d.target) (alone_of e k))) (some_same (course_then d.course d.numbers d.target) c at) (
        let old = told.seen d.course d.has at_source in
        let empty = on.emptied (ap is_planned at_claim) in
        record {
          base = subst (λ ls. AreSeen (counts e.pages) (written (claim d.number d.target) (alone_of e k)) 1 ls) (sym empty.0) tt;
          table = λ t desc. let its = old.table t desc in (its.0, its.1, subst (λ ls. AreSeen (counts e.pages) (written (claim d.number d.target) (alone_of e k)) (t.number.0 + 1) ls) (sym empty.1) tt);
          none = old.none;
        })

    told_now : IsToldSource (counts e.pages) ds y (lock_at e k) (session (machine e) k) (written (claim d.number d.target) (alone_of e k)) (before_of e k) (see (machine e) k)
    told_now = record {
      agree = told.agree;
      sees = λ f. told.sees (ap (λ t. undoes_all t (stmt_at (seat e k).sitting)) d.at);
      spread = spread_now;
      seen = seen_now;
      planned = λ c at source stage. subst (IsPlanned (counts e.pages) ds (lock_at e k) (written (claim d.number d.target) (alone_of e k)) (see (machine e) k)) (some_same (course_then d.course d.numbers d.target) c at) plan_now;
      apart = λ c at. subst (λ (g : Course). DifferAll g.taken) (some_same (course_then d.course d.numbers d.target) c at) apart_now;
      waits = told.waits;
      goes = go_pushed (works e k) (alone_of e k) its_record as_it_stands (inl size) told.goes;
      sized = sized_more (works e k) its_record told.sized (λ every. size);
      unwound = spread_pushed (counts e.pages) (works e k) (alone_of e k) its_record as_it_stands spread_now told.unwound;
      back = λ f. pushed (writes (lock_at e k)) (works e k) (alone_of e k) its_record as_it_stands (inl size)
          (inr (d.target, refl, refl, ap (writes (lock_at e k)) owned ∙ (given_left f).0.1, free_now)) (told.back f);
    }

    no_snap : (c : Course) → Some (course_then d.course d.numbers d.target) ≡ Some c → c.at ≡ Snap → ⊥
    no_snap c at snap = (let wrong : Source ≡ Snap = sym at_source ∙ ap (λ (g : Course). g.at) (some_same (course_then d.course d.numbers d.target) c at) ∙ snap in cc)

    no_take : (p : PageId) (rows : Bool) → point_then (seat e k).sitting (course_then d.course d.numbers d.target) d.numbers ≡ Take p rows → ⊥
    no_take p rows = at_then (counts e.pages) (seat e k) _ (lock_at e k) me.seated d.number d.at d.course d.has d.numbers d.next d.target d.may_be_named d.there its_record record_is d.sets.unmarked (λ t. t ≡ Take p rows → ⊥) (λ q. cc) (λ q. cc) (λ f later none is q. cc) (λ n ns is q. cc)

    reading_now : IsToldReading s.pages (machine s) y
    reading_now = record {
      seen = λ cut n c within place kept at snap. absurd (no_snap c at snap);
      image = λ cut n p rows within place kept point found. absurd (no_take p rows point);
      reply = λ cut n c within place kept at snap ended. absurd (no_snap c at snap);
    }

    pub own_told : IsTold s ds k
    own_told = source_over e s k d.page y safe d.sets ds content y (written (claim d.number d.target) (alone_of e k)) (before_of e k) alone_now (before_at k d.sets.is (ap (λ (x : Seated). x.base) (now e s k d.page y safe d.sets))) (now e s k d.page y safe d.sets) told_now reading_now

    pub others : LeavesQuiet e s k
    others = quiet e s k d.page y safe d.sets ds content alone_else (λ j is ne. before_at j is (ap (λ (x : Seated). x.base) (else e s k d.page y safe d.sets j ne)))

-- What others see and plan once a session has committed, where nobody holds all tables.
use Rattle.std.proofs.Common.{◌≡◌, ◌≢◌, ℕ, zero, suc, ◌+◌, ◌%◌, ◌<◌, ◌≤◌, Bool, true, false, ◌==◌, ◌&&◌, ◌||◌, List, [], ◌∷◌, length, drop, get_or, refl, ap, sym, subst, ◌∙◌, inl, inr, arith}
use Rattle.std.specs.Prelude.{Option, Some, None, option_map}
use Rattle.std.specs.FinMap as finite
use Rattle.std.specs.List.{Any}
use Rattle.std.proofs.lemmas.Bool.{cases_Bool}
use Rattle.std.proofs.lemmas.List.{get_or_default}
use Rattle.page_base.specs.declared.numbers.Mode.{Mode}
use Rattle.page_base.specs.declared.numbers.Mode.TheVariants.{X}
use Rattle.page_base.specs.declared.numbers.PageId.{PageId}
use Rattle.page_base.specs.Pages.{is_page}
use Rattle.page_base.specs.Slots.{Slots}
use Rattle.page_fmt.specs.Seen.{Looked}
use Rattle.alloc_pages.specs.Owners.{page_owner}
use Rattle.plain_model.specs.declared.stmt.Stmt.{Stmt}
use Rattle.plain_model.specs.Free.{is_success}
use Rattle.plain_model.specs.Meaning.{change_and_reply}
use Rattle.plain_model.specs.State.{session, committed, see}
use Rattle.plain_model.specs.Statements.{table_named}
use Rattle.plain_model.specs.Tables.{Tables, Table as PlainTable, apply}
use Rattle.plain_steps.specs.Changes.{AreOf}
use Rattle.plain_steps.proofs.ApplyLemmas.{outcome_reads, shape_reads}
use Rattle.rec_log.specs.Records.{Record}
use Rattle.rec_log.specs.Undone.{undone}
use Rattle.snap_pages.specs.Shown.{counts}
use Rattle.sys_cat.specs.declared.desc.TableDesc.{TableDesc}
use Rattle.sys_cat.specs.Lists.{IsDesc}
use Rattle.page_tables.specs.Bases.{IsBase}
use Rattle.page_tables.specs.Claims.{Claimable}
use Rattle.page_tables.specs.Mine.{AreMine, AreSpread, MayWriteAll}
use Rattle.page_tables.specs.Sheets.{sheets}
use Rattle.page_tables.specs.Writes.{done}
use Rattle.page_tables.proofs.CarriedLemmas.{each_desc}
use Rattle.page_tables.proofs.GoLemmas.{mine_both}
use Rattle.page_tables.proofs.MineLemmas.{every_spot}
use Rattle.page_tables.proofs.SheetLemmas.{sheet_same}
use Rattle.open_work.specs.Open.{all, with_part}
use Rattle.open_tables.specs.Back.{LiesIn, Back}
use Rattle.open_tables.specs.Names.{names, AreClaims}
use Rattle.open_tables.proofs.BackLemmas.{back_one}
use Rattle.open_commits.specs.Joins.{Joins}
use Rattle.open_commits.specs.Within.{LieWithin, AreApart, TellOwners}
use Rattle.open_commits.proofs.AheadLemmas.{plans_joined}
use Rattle.open_commits.proofs.ApartLemmas.{AreNamedApart, names_drop, lie_drop, same_from}
use Rattle.open_commits.proofs.JoinLemmas.{joined, spread_y}
use Rattle.open_commits.proofs.StandLemmas.{stand_beside, names_part, written_now}
use Rattle.open_commits.proofs.WithinLemmas.{differ, unnamed, lie_back, spread_tells, tells_over, slot_stays}
use Rattle.step_words.specs.declared.stage.DbKind.TheVariants.{Source}
use Rattle.step_words.specs.declared.stage.Stage.{Stage}
use Rattle.step_words.specs.declared.stage.Stage.TheVariants.{AskAll, ScanZero, AskTable, Scan, Plan, Claim, Edit as Editing, End}
use Rattle.step_words.specs.Courses.{Course, is_planned, is_past_all, is_past_table}
use Rattle.step_words.specs.Coming.{coming, claims_left, edits_left}
use Rattle.step_words.specs.Sittings.{stmt_at, undoes_all}
use Rattle.step_state.specs.State.{State, IsSession, seat, works, many, machine, slots_at, alone_of, before_of}
use Rattle.step_state.specs.Holding.{is_x, holds_all, writes, lock_at}
use Rattle.step_state.specs.Own.{IsSafeSession}
use Rattle.stmt_course.specs.Bringing.{AreOnOwn}
use Rattle.step_state.specs.Plans.{IsPlanned}
use Rattle.step_state.specs.Told.{AreSeen, SeesSource, GoBack, SpreadBack, IsSuccess, IsToldSource}
use Rattle.step_state.specs.Safe.{Safe, IsContent}
use Rattle.step_state.proofs.AlongLemmas.{AreAlike, go_along as go_back_along}
use Rattle.step_state.proofs.StandingLemmas.{nobody_all, none_beside, claims_of, owners_apart, named_apart}
use Rattle.safe_say.specs.Committing.{DoesCommit}
use Rattle.safe_say.proofs.CommitAhead.{Stands, claims_mine_from, edits_mine_all, go_along, own_along, done_along}
use Rattle.safe_say.proofs.CommitPages.{k_behind, j_alone, j_behind, k_saw}
use Rattle.safe_say.proofs.CommitShown.{IsShown, is_shown, is_orderly, HoldsTable, holds_table, changes_own}
use Rattle.safe_say.proofs.CommitTables.{writes_is, seen_joined, plan_joined}

-- STAGES

pub planned_past_table : (st : Stage) → is_planned st ≡ true → is_past_table st ≡ true
planned_past_table AskAll t = cc
planned_past_table (ScanZero p) t = cc
planned_past_table AskTable t = cc
planned_past_table (Scan p rows) t = refl
planned_past_table Plan t = refl
planned_past_table Claim t = refl
planned_past_table Editing t = refl
planned_past_table End t = refl

pub table_past_all : (st : Stage) → is_past_table st ≡ true → is_past_all st ≡ true
table_past_all AskAll t = cc
table_past_all (ScanZero p) t = refl
table_past_all AskTable t = refl
table_past_all (Scan p rows) t = refl
table_past_all Plan t = refl
table_past_all Claim t = refl
table_past_all Editing t = refl
table_past_all End t = refl

drop_long : (n : ℕ) (xs : List ℕ) → n ≤ length xs → n + length (drop n xs) ≡ length xs
drop_long zero xs le = (let e : 0 + length xs ≡ length xs = omega arith in e)
drop_long (suc n) [] le = absurd (omega (arith, le))
drop_long (suc n) (x ∷ xs) le = (let later = drop_long n xs (omega (arith, le)) in omega (arith, later))

-- a table that is held isn't another's in X
out_of : (mine theirs : Option Mode) → (is_x theirs ≡ true → mine ≡ None) → mine ≢ None → is_x theirs ≡ false
out_of mine theirs beside some = elim (cases_Bool (is_x theirs)) [ inl t ↦ absurd (some (beside t)) | inr f ↦ f ]

module _ (e s : State) (k : ℕ) (safe : Safe e) (d : DoesCommit e s k) (ds : List TableDesc) (content : IsContent e ds) (some : lock_at e k 0 ≢ None) (not_all : holds_all (lock_at e k) ≡ false) (j : ℕ) (is : IsSession e j) (ne : j ≢ k) where
  abbrev files : List ℕ
  files = counts e.pages

  abbrev mine : ℕ → Bool
  mine = writes (lock_at e j)

  abbrev theirs : ℕ → Bool
  theirs = writes (lock_at e k)

  abbrev x : Slots
  x = undone (all (many e) (with_part (works s) j [])) (slots_at e)

  abbrev D : List Record
  D = drop (seat e j).base (works e j)

  abbrev then : Tables
  then = apply (session (machine e) j).work (committed (machine s))

  nobody : (i : ℕ) → IsSession e i → holds_all (lock_at e i) ≡ false
  nobody i there = nobody_all e safe.sessions safe.whole k i some not_all

  me : IsSafeSession e j
  me = safe.sessions j is

  told : IsToldSource files ds (seat e j) (lock_at e j) (session (machine e) j) (alone_of e j) (before_of e j) (see (machine e) j)
  told = (content.1 j is).source

  named : (i : ℕ) → AreNamedApart (works e) i
  named i = named_apart e safe.sessions safe.whole ds content nobody i

  shown : IsShown e s k ds
  shown = is_shown e s k safe d ds content

  -- THE PAGES

  alone_is : alone_of e j ≡ undone (works e k) x
  alone_is = k_behind e s k safe d named j is ne [] (λ p i t. differ false t refl)

  before_is : before_of e j ≡ undone (works e k) (undone D x)
  before_is =
      k_behind e s k safe d named j is ne D (λ p i t. names_drop (seat e j).base (works e j) p i t)
      ∙ ap (undone (works e k)) (j_behind e s k safe d named j is ne D (λ p i t. names_drop (seat e j).base (works e j) p i t))

  before_now : undone (all (many e) (with_part (works s) j D)) (slots_at e) ≡ undone D x
  before_now = j_behind e s k safe d named j is ne D (λ p i t. names_drop (seat e j).base (works e j) p i t)

  saw_is : alone_of e k ≡ undone (works e j) x
  saw_is = k_saw e s k safe d named j is ne

  apart_jk : AreApart mine theirs
  apart_jk = owners_apart e safe.sessions safe.whole ds content nobody j k d.is ne

  claims_k : AreClaims (works e k)
  claims_k = claims_of e safe.sessions safe.whole ds content nobody k

  claims_j : AreClaims (works e j)
  claims_j = claims_of e safe.sessions safe.whole ds content nobody j

  lie_j : LieWithin mine x (works e j)
  lie_j = stand_beside mine x (works e k) (works e j) refl claims_k (lie_back mine (works e j) (undone (works e k) x) refl (subst (Back mine (works e j)) alone_is (told.back (nobody j is))))

  lie_k : LieWithin theirs x (works e k)
  lie_k = stand_beside theirs x (works e j) (works e k) refl claims_j (lie_back theirs (works e k) (undone (works e j) x) refl (subst (Back theirs (works e k)) saw_is ((content.1 k d.is).source.back not_all)))

  base_k : IsBase files (sheets (undone (works e j) x)) ds (committed (machine s))
  base_k = subst (λ (t : Slots). IsBase files (sheets t) ds (committed (machine s))) saw_is (subst (λ es. IsBase files (sheets (alone_of e k)) es (committed (machine s))) (shown.same not_all) shown.base)

  tell_x : TellOwners files x
  tell_x = tells_over files x (works e j) lie_j.claims (spread_tells files (undone (works e j) x) base_k.spread)

  nothing : LieWithin mine x []
  nothing = record { claims = tt; claimed = λ q t. differ false t refl; edits = λ p i t. differ false t refl }

  spread_x : AreSpread files (sheets x)
  spread_x = spread_y files x mine theirs (works e j) [] (works e k) apart_jk lie_j nothing lie_k base_k.spread (subst (λ (t : Slots). AreSpread files (sheets t)) alone_is told.spread)

  spread_on : (xs : List Record) → ((p : PageId) (i : ℕ) → names xs p i ≡ true → names (works e j) p i ≡ true) → LieWithin mine x xs → SpreadBack files xs (alone_of e j) → SpreadBack files xs x
  spread_on [] some within b = spread_x
  spread_on (r ∷ rs) some within b = (
    spread_on rs (λ p i t. some p i (names_drop 1 (r ∷ rs) p i t)) (lie_drop 1 mine x (r ∷ rs) within) b.0,
    spread_y files x mine theirs (works e j) (r ∷ rs) (works e k) apart_jk lie_j within lie_k base_k.spread
        (subst (λ (t : Slots). AreSpread files (sheets t)) (sym (j_alone e s k safe d named j is ne (r ∷ rs) some) ∙ k_behind e s k safe d named j is ne (r ∷ rs) some ∙ ap (undone (works e k)) (j_behind e s k safe d named j is ne (r ∷ rs) some)) b.1),
  )

  stands : Stands files mine theirs (works e k) x
  stands = record { own = works e j; lie_own = lie_j; lie_others = lie_k; tell = tell_x; spread = spread_x }

  -- THE TABLES

  beside : (n : ℕ) → is_x (lock_at e k n) ≡ true → lock_at e j n ≡ None
  beside n t = none_beside e safe.whole.locks j k n ne t

  joins : Joins ds theirs (committed (machine s)) (see (machine e) j) then
  joins = seen_joined ds content.0.source.descs.descs (lock_at e j) (lock_at e k) (session (machine e) j).locks told.agree beside (session (machine e) j).work ((is_orderly e s k safe d ds content).covered j) (committed (machine e)) (committed (machine s)) (shown.kept not_all) base_k.only

  small_of : (t : TableDesc) → Any (λ f. f ≡ t) ds → t.number.0 + 1 < 4294967295
  small_of t i =
      let desc : IsDesc (get_or ds i.0 t) = each_desc ds content.0.source.descs.descs.each i.0 t i.2 in
      let number = (subst IsDesc (get_or_default ds i.0 t i.1 i.2 ∙ i.3 ∙ i.4) desc).head.number in
      omega (arith, number)

  -- a table that k doesn't hold in X is as it was
  same_table : (t : TableDesc) → Any (λ f. f ≡ t) ds → is_x (lock_at e k t.number.0) ≡ false → finite.get then t.name ≡ finite.get (see (machine e) j) t.name
  same_table t one out = joins.kept t one (writes_is (lock_at e k) t.number.0 (small_of t one) ∙ out)

  sees_now : undoes_all (seat e j).sitting.point (stmt_at (seat e j).sitting) ≡ false → IsBase files (sheets (undone (all (many e) (with_part (works s) j D)) (slots_at e))) ds then
  sees_now f = subst (λ (t : Slots). IsBase files (sheets t) ds then) (sym before_now)
      (joined files ds x mine theirs (works e j) D (works e k) (committed (machine s)) (see (machine e) j) then apart_jk lie_j (lie_drop (seat e j).base mine x (works e j) lie_j) lie_k base_k (subst (λ (t : Slots). IsBase files (sheets t) ds (see (machine e) j)) before_is (told.sees f)) joins)

  -- WHAT WAS READ

  seen_on : (o : ℕ) → theirs o ≡ false → o ≢ 0 → o ≢ 4294967295 → (looked : List Looked) → AreSeen files (undone (works e k) x) o looked → AreSeen files x o looked
  seen_on o out free real [] a = tt
  seen_on o out free real (l ∷ ls) a =
      let owner : page_owner x l.page ≡ o = elim (back_one theirs (works e k) x l.page claims_k) [
        | inl same ↦ sym same ∙ a.0.1
        | inr none ↦ absurd (free (sym a.0.1 ∙ none))
      ] in
      let same : (i : ℕ) → undone (works e k) x l.page i ≡ x l.page i = λ i. slot_stays files theirs x (works e k) lie_k tell_x l.page i a.0.0 (ap theirs owner ∙ out) (λ f. real (sym owner ∙ f)) in
      ((a.0.0, owner, sym (sheet_same (undone (works e k) x) x l.page (λ t i. same i t)) ∙ a.0.2), seen_on o out free real ls a.1)

  table_of : (c : Course) → (seat e j).sitting.course ≡ Some c → c.at ≡ Source → is_past_table c.stage ≡ true → HoldsTable (lock_at e j) c
  table_of c has source past = holds_table (lock_at e j) c (me.seated.holding c has source) (me.seated.posed.course c has).tables past (table_past_all c.stage past) (nobody j is)

  table_out : (c : Course) (h : HoldsTable (lock_at e j) c) → is_x (lock_at e k h.desc.number.0) ≡ false
  table_out c h = out_of (lock_at e j h.desc.number.0) (lock_at e k h.desc.number.0) (beside h.desc.number.0) h.some

  seen_now : (c : Course) → (seat e j).sitting.course ≡ Some c → c.at ≡ Source → SeesSource files ds x c
  seen_now c has source =
      let old = told.seen c has source in
      record {
        base = seen_on 1 not_all (λ z. absurd (omega (arith, z))) (λ z. absurd (omega (arith, z))) c.base (subst (λ (t : Slots). AreSeen files t 1 c.base) alone_is old.base);
        table = λ t desc.
            let its = old.table t desc in (
              its.0,
              its.1,
              elim (cases_Bool (is_past_table c.stage)) [
                | inr f ↦ subst (AreSeen files x (t.number.0 + 1)) (sym ((me.seated.posed.course c has).unread f)) tt
                | inl past ↦
                    let h = table_of c has source past in
                    let one : h.desc ≡ t = some_desc h.desc t (sym h.has ∙ desc) in
                    let out : is_x (lock_at e k t.number.0) ≡ false = ap (λ (u : TableDesc). is_x (lock_at e k u.number.0)) (sym one) ∙ table_out c h in
                    let small = small_of t its.0 in
                    seen_on (t.number.0 + 1) (writes_is (lock_at e k) t.number.0 small ∙ out) (λ z. absurd (omega (arith, z))) (λ z. absurd (omega (arith, z, small))) c.seen (subst (λ (u : Slots). AreSeen files u (t.number.0 + 1) c.seen) alone_is its.2)
              ],
            );
        none = old.none;
      }
    where
      some_desc : (a b : TableDesc) → Some a ≡ Some b → a ≡ b
      some_desc a b e = ap pick e
        where
          pick : Option TableDesc → TableDesc
          pick None = a
          pick (Some c) = c

  -- THE PLAN

  module _ (c : Course) (has : (seat e j).sitting.course ≡ Some c) (source : c.at ≡ Source) (planned : is_planned c.stage ≡ true) where
    old : IsPlanned files ds (lock_at e j) (alone_of e j) (see (machine e) j) c
    old = told.planned c has source planned

    h : HoldsTable (lock_at e j) c
    h = table_of c has source (planned_past_table c.stage planned)

    one : Any (λ f. f ≡ h.desc) ds
    one = ((told.seen c has source).table h.desc h.has).0

    called : h.desc.name ≡ table_named c.stmt
    called = ((told.seen c has source).table h.desc h.has).1

    its_table : finite.get then (table_named c.stmt) ≡ finite.get (see (machine e) j) (table_named c.stmt)
    its_table = subst (λ n. finite.get then n ≡ finite.get (see (machine e) j) n) called (same_table h.desc one (table_out c h))

    outcome : change_and_reply c.stmt then ≡ change_and_reply c.stmt (see (machine e) j)
    outcome = outcome_reads c.stmt then (see (machine e) j) its_table

    joins_after : Joins ds theirs (committed (machine s)) (apply (change_and_reply c.stmt (see (machine e) j)).0 (see (machine e) j)) (apply (change_and_reply c.stmt then).0 then)
    joins_after = subst (λ cs. Joins ds theirs (committed (machine s)) (apply (change_and_reply c.stmt (see (machine e) j)).0 (see (machine e) j)) (apply cs then)) (ap (λ r. r.0) (sym outcome))
        (plan_joined ds content.0.source.descs.descs (lock_at e j) (lock_at e k) (session (machine e) j).locks told.agree beside (session (machine e) j).work ((is_orderly e s k safe d ds content).covered j) (committed (machine e)) (committed (machine s)) (shown.kept not_all) base_k.only
        h.desc one (table_out c h) (change_and_reply c.stmt (see (machine e) j)).0 (subst (λ n. AreOf n (change_and_reply c.stmt (see (machine e) j)).0) (sym called) (changes_own c.stmt (see (machine e) j))))

    module _ (claimed : ℕ → PageId) (ok : Claimable files x c.taken (length c.owners) claimed) where
      ok_before : Claimable files (alone_of e j) c.taken (length c.owners) claimed
      ok_before = subst (λ (t : Slots). Claimable files t c.taken (length c.owners) claimed) (sym alone_is) (record {
        were = ok.were;
        there = ok.there;
        free = λ i le lt. elim (back_one theirs (works e k) x (claimed i) claims_k) [ inl same ↦ same ∙ ok.free i le lt | inr none ↦ none ];
        differ = ok.differ;
        targets = ok.targets;
      })

      many_left : length c.taken + length (drop (length c.taken) c.owners) ≡ length c.owners
      many_left = drop_long (length c.taken) c.owners (me.seated.posed.course c has).taken

      claims_now : AreMine files mine x (claims_left c claimed)
      claims_now = claims_mine_from files mine claimed (drop (length c.taken) c.owners) (length c.taken) x (old.brings.given (nobody j is)) (λ m le lt. (ok.there m le (omega (arith, lt, many_left)), ok.free m le (omega (arith, lt, many_left)))) (λ m n lt l. ok.differ m n lt (omega (arith, l, many_left)))

      own_before : AreOnOwn files mine (done (claims_left c claimed) (undone (works e k) x)) (edits_left c claimed)
      own_before = subst (λ (t : Slots). AreOnOwn files mine (done (claims_left c claimed) t) (edits_left c claimed)) alone_is (old.brings.own (nobody j is) claimed ok_before)

      own_now : AreOnOwn files mine (done (claims_left c claimed) x) (edits_left c claimed)
      own_now =
          let then_ = done_along files mine theirs (works e k) apart_jk (claims_left c claimed) x stands claims_now in
          own_along files mine theirs (works e k) apart_jk (edits_left c claimed) (done (claims_left c claimed) x) then_.0 (subst (λ (t : Slots). AreOnOwn files mine t (edits_left c claimed)) (sym then_.1) own_before)

      mine_now : AreMine files mine x (coming c claimed)
      mine_now = mine_both files mine (claims_left c claimed) (edits_left c claimed) x claims_now (edits_mine_all files mine (edits_left c claimed) (done (claims_left c claimed) x) own_now)

      go_now : MayWriteAll files x (coming c claimed)
      go_now = go_along files mine theirs (works e k) apart_jk (coming c claimed) x stands mine_now (subst (λ (t : Slots). MayWriteAll files t (coming c claimed)) alone_is (old.brings.go claimed ok_before))

      leads : IsBase files (sheets (done (coming c claimed) x)) ds (apply (change_and_reply c.stmt then).0 then)
      leads = plans_joined (coming c claimed) files ds x mine theirs (works e j) (works e k) (committed (machine s)) (apply (change_and_reply c.stmt (see (machine e) j)).0 (see (machine e) j)) (apply (change_and_reply c.stmt then).0 then) apart_jk lie_j lie_k mine_now base_k
          (subst (λ (t : Slots). IsBase files (sheets (done (coming c claimed) t)) ds (apply (change_and_reply c.stmt (see (machine e) j)).0 (see (machine e) j))) alone_is
          (subst (λ es. IsBase files (sheets (done (coming c claimed) (alone_of e j))) es (apply (change_and_reply c.stmt (see (machine e) j)).0 (see (machine e) j))) (old.same (nobody j is) claimed) (old.brings.base claimed ok_before))) joins_after

    plan_now : IsPlanned files ds (lock_at e j) x then c
    plan_now = record {
      shaped = shape_reads c.stmt then (see (machine e) j) (ap (λ o. option_map (λ (t : PlainTable). t.cols) o) its_table) ∙ old.shaped;
      reply = old.reply ∙ ap (λ r. Some r.1) (sym outcome);
      after = λ claimed. ds;
      brings = record {
        go = go_now;
        given = old.brings.given;
        own = λ f. own_now;
        spread = λ t. absurd (let wrong : true ≡ false = sym t ∙ nobody j is in cc);
        base = leads;
      };
      same = λ f claimed. refl;
    }

  -- A REPLY THAT WAITS

  success_now : (stmt : Stmt) → IsSuccess ds (lock_at e j) (see (machine e) j) stmt → IsSuccess ds (lock_at e j) then stmt
  success_now stmt a =
      let same : finite.get then (table_named stmt) ≡ finite.get (see (machine e) j) (table_named stmt) = elim a.kept [
        | inl t ↦ absurd (let wrong : true ≡ false = sym t ∙ nobody j is in cc)
        | inr i ↦
            let its : Any (λ f. f ≡ i.1) ds = (i.0, i.1, i.2, i.3, refl) in
            subst (λ n. finite.get then n ≡ finite.get (see (machine e) j) n) i.4.0 (same_table i.1 its (out_of (lock_at e j i.1.number.0) (lock_at e k i.1.number.0) (beside i.1.number.0) (λ none. (let wrong : None ≡ Some X = sym none ∙ i.4.1 in cc))))
      ] in
      record {
        shaped = shape_reads stmt then (see (machine e) j) (ap (λ o. option_map (λ (t : PlainTable). t.cols) o) same) ∙ a.shaped;
        success = ap (λ r. is_success r.1) (outcome_reads stmt then (see (machine e) j) same) ∙ a.success;
        kept = a.kept;
      }

  -- RECORDS

  no_k : (p : PageId) (i : ℕ) → names (works e j) p i ≡ true → names (works e k) p i ≡ false
  no_k p i t = names_part theirs mine x (owners_apart e safe.sessions safe.whole ds content nobody k j is (λ same. ne (sym same))) (works e k) (works e j) lie_k lie_j p i t

  alike : AreAlike (works e j) (undone (works e k) x) x
  alike p i t = (
    unnamed (works e k) x p i (no_k p i t),
    (λ off o. unnamed (works e k) x p o (elim (cases_Bool (names (works e k) p o)) [
      | inr f ↦ f
      | inl u ↦ elim (lie_k.edits p o u) [
        | inr q ↦ absurd (off (ap (λ (r : PageId). r.page % 1280) (sym q.1) ∙ every_spot q.0))
        | inl v ↦ elim (lie_j.edits p i t) [
          | inr q ↦ absurd (off (ap (λ (r : PageId). r.page % 1280) (sym q.1) ∙ every_spot q.0))
          | inl w ↦ differ (theirs (page_owner x p)) v.1 (apart_jk.apart (page_owner x p) w.1)
        ]
      ]
    ])),
  )

  goes_now : GoBack (works e j) x
  goes_now = go_back_along (works e j) (undone (works e k) x) x told.sized alike (subst (GoBack (works e j)) alone_is told.goes)

  late : (b c : Bool) → c ≡ true → (b || c) ≡ true
  late true c e = refl
  late false c e = e

  -- j's records and k's may be taken back in any order
  either_way : (rs : List Record) → ((p : PageId) (i : ℕ) → names rs p i ≡ true → names (works e j) p i ≡ true) → undone rs (undone (works e k) x) ≡ undone (works e k) (undone rs x)
  either_way rs among = λ u p i. at p i u
    where
      at : (p : PageId) (i : ℕ) → undone rs (undone (works e k) x) p i ≡ undone (works e k) (undone rs x) p i
      at p i = elim (cases_Bool (names rs p i)) [
        | inl t ↦
            let none : names (works e k) p i ≡ false = no_k p i (among p i t) in
            same_from rs (undone (works e k) x) x p i (unnamed (works e k) x p i none) ∙ sym (unnamed (works e k) (undone rs x) p i none)
        | inr f ↦ unnamed rs (undone (works e k) x) p i f ∙ same_from (works e k) x (undone rs x) p i (sym (unnamed rs x p i f))
      ]

  back_on : (rs : List Record) → ((p : PageId) (i : ℕ) → names rs p i ≡ true → names (works e j) p i ≡ true) → GoBack rs x → Back mine rs (undone (works e k) x) → Back mine rs x
  back_on [] among go b = tt
  back_on (r ∷ rs) among go b =
      let less : (p : PageId) (i : ℕ) → names rs p i ≡ true → names (works e j) p i ≡ true = λ p i t. among p i (late (is_page r.page p && r.slot == i) (names rs p i) t) in
      (back_on rs less go.0 b.0, record { stands = go.1; fits = go.2; lies = lies less b.1.lies })
    where
      written : ((p : PageId) (i : ℕ) → names rs p i ≡ true → names (works e j) p i ≡ true) → (q : PageId) → mine (page_owner (undone rs (undone (works e k) x)) q) ≡ true → mine (page_owner (undone rs x) q) ≡ true
      written less q w = written_now mine (undone rs x) (works e k) q refl claims_k (ap (λ (t : Slots). mine (page_owner t q)) (sym (either_way rs less)) ∙ w)

      lies : ((p : PageId) (i : ℕ) → names rs p i ≡ true → names (works e j) p i ≡ true) → LiesIn mine (undone rs (undone (works e k) x)) r → LiesIn mine (undone rs x) r
      lies less (inl a) = inl (a.0, written less r.page a.1)
      lies less (inr a) = inr (a.0, a.1, a.2, written less a.0 a.3, a.4)

  -- ALL OF IT

  pub other_told : IsToldSource files ds (seat e j) (lock_at e j) (session (machine e) j) x (undone (all (many e) (with_part (works s) j D)) (slots_at e)) then
  other_told = record {
    agree = told.agree;
    sees = sees_now;
    spread = spread_x;
    seen = seen_now;
    planned = plan_now;
    waits = λ stmt m at waiting number write. success_now stmt (told.waits stmt m at waiting number write);
    goes = goes_now;
    apart = told.apart;
    sized = told.sized;
    unwound = spread_on (works e j) (λ p i t. t) lie_j told.unwound;
    back = λ f. back_on (works e j) (λ p i t. t) goes_now (subst (Back mine (works e j)) alone_is (told.back f));
  }

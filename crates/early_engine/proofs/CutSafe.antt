-- A cut keeps what always holds of the engine.
use Rattle.std.proofs.Common.{◌≡◌, ◌≢◌, ◌+◌, ◌-◌, ◌≤◌, ◌⊎◌, inl, inr, ℕ, Bool, true, false, ◌&&◌, ◌||◌, not, nat_eq, cond, IsTrue, List, [], ◌∷◌, ◌++◌, length, get_or, refl, ap, sym, ◌∙◌, subst, arith, length-append, eq-eqb}
use Rattle.std.proofs.Math.ListN.{set}
use Rattle.std.specs.Prelude.{Option, Some, slice_get, unwrap_or, sum_by}
use Rattle.std.specs.List.{filter_map, list_any}
use Rattle.std.specs.Str.{bytes_eq}
use Rattle.std.specs.FinMap as finite
use Rattle.std.specs.Ordering.{nat_cmp, eq_by_cmp, is_eq}
use Rattle.std.specs.Cmp.{Equal-is, tied_itself}
use Rattle.std.specs.Cmp.Lexicographic.{slice_cmp, nat_list_cmp_total}
use Rattle.std.proofs.lemmas.Bool.{cases_lt, cases_Bool, ne_eqb}
use Rattle.std.proofs.lemmas.List.{map-append, get_or_append_left, get_or_past}
use Rattle.std.proofs.Math.Seq.{get_or-append_seam}
use Rattle.std.proofs.lemmas.List.Folds.{list_any-append}
use Rattle.std.proofs.lemmas.List.Sums.{sum_by-append}
use Rattle.std.proofs.lemmas.Grind.{flat_map-append}
use Rattle.std.proofs.lemmas.Slice.Eq.{bytes_eq-Decides}
use Rattle.page_base.specs.declared.numbers.SnapNo.{SnapNo}
use Rattle.plain_model.specs.declared.stmt.Stmt.{Stmt}
use Rattle.plain_model.specs.declared.stmt.Stmt.TheVariants.{CreateSnap}
use Rattle.plain_model.specs.declared.stmt.SnapFile.{SnapFile}
use Rattle.plain_model.specs.declared.event.Event.{Event}
use Rattle.plain_model.specs.declared.event.Event.TheVariants.{CutAt, Said}
use Rattle.plain_model.specs.declared.reply.Reply.TheVariants.{Ok}
use Rattle.plain_model.specs.Tables.{Tables}
use Rattle.plain_model.specs.Journal.{Opening, Entry, Cut}
use Rattle.plain_model.specs.Journal as journal
use Rattle.plain_model.specs.Next.{Cuts, next_of}
use Rattle.plain_model.specs.Next as next_words
use Rattle.plain_model.specs.State as plain_state
use Rattle.plain_model.specs.State.{Plain, Session, session, stmt_of, committed, copy, master, is_suspect}
use Rattle.plain_model.specs.Legal.{LegalFrom, MayCome, end_from, after, with_first, with_session, without_names, new_names, counted}
use Rattle.plain_model.specs.Complete.{Answered, mark_of}
use Rattle.plain_model.specs.Sound.{are_distinct}
use Rattle.early_pages.specs.declared.state.SnapState.TheVariants.{Online, Suspect}
use Rattle.early_pages.specs.Sparse.{Sparse, faults}
use Rattle.early_pages.specs.Catalog.{Snap, LacksName, no_snap, snap_at}
use Rattle.early_pages.specs.Shown.{Shown, img, counts, count, catalog, IsOpen, with_catalog}
use Rattle.early_pages.specs.Views.{view, IsKept, CutsView}
use Rattle.table_pages.specs.Carried.{data_pages}
use Rattle.early_engine.specs.Entering.{Kept}
use Rattle.early_engine.specs.Databases.{Means}
use Rattle.early_engine.specs.declared.database.Database.TheVariants.{Absent}
use Rattle.early_engine.specs.Pushing.{plainly, weight, snaps_of, sound, name_of}
use Rattle.early_engine.specs.Stepping.{number, idle, busy, mid}
use Rattle.early_engine.specs.Safe.{Run, Disk, state, seat_at, InStep, AreTables, AreCopies, sparse_names, AreOut, AreBlamed, Safe}
use Rattle.early_engine.specs.Creating.{IsAsked, IsNew, new_snap, with_snap, cut_events}
use Rattle.early_engine.proofs.PushLemmas.{bytes_same, bytes_ne}
use Rattle.early_engine.proofs.Stepping.{both, session_mid, session_there, after_said}
use Rattle.early_engine.proofs.Placed.{lacks_lost}
use Rattle.early_engine.proofs.SafeLemmas.{same_tables}
use Rattle.early_engine.proofs.Doubts.{has, has_without}
use Rattle.early_engine.proofs.Cutting.{since, next_seat, around_here, is_here, says_stmt, says_at, reply_comes, leads_here, legal_here, later_is, sessions_next, room_next, turned_before}

-- NAMES

pub eq_same : (a b : List ℕ) → eq_by_cmp (slice_cmp nat_cmp) a b ≡ true → a ≡ b
eq_same a b t = finite.slice_cmp-IsAntisymmetric finite.nat_cmp-IsAntisymmetric a b ((Equal-is (slice_cmp nat_cmp a b)).0 t)

eq_other : (a b : List ℕ) → a ≢ b → eq_by_cmp (slice_cmp nat_cmp) a b ≡ false
eq_other a b ne = elim (cases_Bool (eq_by_cmp (slice_cmp nat_cmp) a b)) [
  | inl t ↦ absurd (ne (eq_same a b t))
  | inr f ↦ f
]

bytes_turn : (a b : List ℕ) → bytes_eq a b ≡ false → bytes_eq b a ≡ false
bytes_turn a b f = bytes_ne b a (λ is. let x : false ≡ true = sym f ∙ (bytes_eq-Decides a b).1 (sym is) in absurd cc)

or_or_false : (a b : Bool) → (a || (b || false)) ≡ (b || a)
or_or_false true true = refl
or_or_false true false = refl
or_or_false false true = refl
or_or_false false false = refl

one_more : (names : List (List ℕ)) (path : List ℕ) → are_distinct names ≡ true → has path names ≡ false → are_distinct (names ++ path ∷ []) ≡ true
one_more [] path d f = refl
one_more (n ∷ ns) path d f =
    let heads : ((not (has n ns)) ≡ true) × (are_distinct ns ≡ true) = both (not (has n ns)) (are_distinct ns) d in
    let parts : (bytes_eq path n ≡ false) × (has path ns ≡ false) = neither (bytes_eq path n) (has path ns) f in
    let away : bytes_eq n path ≡ false = bytes_turn path n parts.0 in
    let tail : are_distinct (ns ++ path ∷ []) ≡ true = one_more ns path heads.1 parts.1 in
    let joined : has n (ns ++ path ∷ []) ≡ (has n ns || (bytes_eq n path || false)) = list_any-append (bytes_eq n) ns (path ∷ []) in
    ap (λ b. not b && are_distinct (ns ++ path ∷ [])) (joined ∙ ap (λ b. has n ns || (b || false)) away ∙ or_false (has n ns)) ∙ ap (λ b. not (has n ns) && b) tail ∙ and_true (not (has n ns)) ∙ heads.0
  where
    neither : (a b : Bool) → (a || b) ≡ false → (a ≡ false) × (b ≡ false)
    neither true b e = cc
    neither false b e = (refl, e)

    or_false : (b : Bool) → (b || false) ≡ b
    or_false true = refl
    or_false false = refl

    and_true : (b : Bool) → (b && true) ≡ b
    and_true true = refl
    and_true false = refl

-- A CUT

-- the snapshot was added, over these pages and this volume
pub record AddsSnap (source : List ℕ) (snap : List ℕ) (files : List SnapFile) (old new : Shown) (disk0 disk : Disk) (names : List (List ℕ)) (added : Sparse) : Type 0 where
  pub free : Means source (catalog old) snap Absent
  pub only : new ≡ with_catalog old (with_snap old snap names added)
  pub views : CutsView old new
  pub is : IsNew (next_words.sparse_names files) (sparse_names old) disk0 disk names added

module _ (source file : List ℕ) (disk0 : Disk) (v0 : Shown) (snap : List ℕ) (files : List SnapFile) (of : List ℕ) (e : Run) (i : ℕ) (asked : IsAsked source file disk0 v0 (CreateSnap snap files of) e i)
    (disk : Disk) (v : Shown) (kept : Kept) (names : List (List ℕ)) (added : Sparse) (adds : AddsSnap source snap files e.shown v e.disk disk names added)
    (more : kept.events ≡ e.kept.events ++ cut_events (i + 1) ((seat_at e i).said + 1) (length e.kept.events) snap) (left : kept.room + 2 ≡ e.kept.room)
    (cuts : IsTrue e.disk.told → next_of (state e) (i + 1) (Some (CreateSnap snap files of)) ≡ Cuts snap) where
  abbrev stmt : Stmt
  stmt = CreateSnap snap files of

  abbrev st : Plain
  st = state e

  abbrev said : ℕ
  said = (seat_at e i).said

  abbrev current : List ℕ
  current = (seat_at e i).current

  abbrev since_here : ℕ
  since_here = since source file disk0 v0 snap files of e i asked

  abbrev path : List ℕ
  path = adds.is.path

  abbrev paths : List (List ℕ)
  paths = next_words.sparse_names files

  abbrev events : List Event
  events = cut_events (i + 1) (said + 1) (length e.kept.events) snap

  -- the machine but for its session, journal and snapshots
  abbrev base : Plain
  base = record st { next_cut = st.next_cut + 1; on_volume = paths ++ st.on_volume; in_doubt = without_names paths st.in_doubt }

  abbrev cut_snap : plain_state.Snap
  cut_snap = record { name = snap; files = paths; cut = st.next_cut; suspect = false }

  abbrev making : Session
  making = busy said current false since_here [] (Some st.moment) (Some snap)

  abbrev cut_from : Option Stmt → Session → Plain
  cut_from o s = counted (record (with_session st (i + 1) (with_first st (record s { making = Some snap }))) {
    journal = Cut snap ∷ st.journal;
    next_cut = st.next_cut + 1;
    snaps = st.snaps ++ (record { name = snap; files = new_names o; cut = st.next_cut; suspect = false }) ∷ [];
    on_volume = new_names o ++ st.on_volume;
    in_doubt = without_names (new_names o) st.in_doubt;
  })

  abbrev is_cut : Plain
  is_cut = mid base (i + 1) making (Cut snap ∷ st.journal) (st.snaps ++ cut_snap ∷ []) (st.moment + 1)

  cut_leads : after st (CutAt (number (i + 1)) snap) ≡ is_cut
  cut_leads = ap (λ (o : Option Stmt). cut_from o (session st (i + 1))) (says_stmt source file disk0 v0 snap files of e i asked) ∙ ap (cut_from (Some stmt)) (is_here source file disk0 v0 snap files of e i asked)

  there : IsTrue (plain_state.is_session st (i + 1))
  there = (around_here source file disk0 v0 snap files of e i asked).there

  in_making : session is_cut (i + 1) ≡ making
  in_making = session_mid base (i + 1) there making (Cut snap ∷ st.journal) (st.snaps ++ cut_snap ∷ []) (st.moment + 1)

  says_cut : stmt_of is_cut (i + 1) ≡ Some stmt
  says_cut = ap (λ (u : Session). slice_get (get_or st.scripts (i + 1 - 1) []) u.said) in_making ∙ says_at source file disk0 v0 snap files of e i asked

  abbrev reached : Plain
  reached = mid base (i + 1) (idle (said + 1) current false (st.moment + 2)) (Cut snap ∷ st.journal) (st.snaps ++ cut_snap ∷ []) (st.moment + 2)

  reaches : end_from st events ≡ reached
  reaches =
      ap (λ (x : Plain). after x (Said (number (i + 1)) (said + 1) (length e.kept.events) Ok)) cut_leads
      ∙ after_said base (i + 1) there said current current false since_here [] (Some st.moment) (Some snap) (Cut snap ∷ st.journal) (Cut snap ∷ st.journal) (st.snaps ++ cut_snap ∷ []) (st.snaps ++ cut_snap ∷ []) (st.moment + 1) base stmt (said + 1) (length e.kept.events) Ok
      refl asked.safe.machine.settled says_cut refl
      ∙ ap (λ n. mid base (i + 1) (idle (said + 1) current false n) (Cut snap ∷ st.journal) (st.snaps ++ cut_snap ∷ []) n) (omega arith)

  lacks : LacksName (catalog e.shown) snap
  lacks = adds.free.2

  sound_before : is_suspect st snap ≡ false
  sound_before = lacks_lost (catalog e.shown) snap lacks st asked.safe.machine.snaps

  sound_after : is_suspect is_cut snap ≡ false
  sound_after =
      list_any-append (λ s. bytes_eq s.name snap && s.suspect) st.snaps (cut_snap ∷ [])
      ∙ ap (λ b. b || ((bytes_eq snap snap && false) || false)) sound_before ∙ ap (λ b. (b && false) || false) (bytes_same snap)

  replies_ok : next_of is_cut (i + 1) (Some stmt) ≡ next_words.Replies Ok
  replies_ok = ap (λ (s : Session). next_words.next_snap is_cut (i + 1) s.making snap files of) in_making ∙ (let s = sound_after in rw s refl)

  may_come : IsTrue e.disk.told → LegalFrom st events
  may_come told = (
    (there, ap (next_of st (i + 1)) (says_stmt source file disk0 v0 snap files of e i asked) ∙ cuts told),
    (
      subst (λ (x : Plain). MayCome x (Said (number (i + 1)) (said + 1) (length e.kept.events) Ok)) (sym cut_leads)
          (reply_comes source file disk0 v0 snap files of e i asked is_cut (Some snap) (Some st.moment) Ok (session_there base (i + 1) there making (Cut snap ∷ st.journal) (st.snaps ++ cut_snap ∷ []) (st.moment + 1)) in_making says_cut (omega arith) (inl replies_ok)),
      tt,
    ),
  )

  marked : filter_map (mark_of (i + 1)) events ≡ Answered (said + 1) ∷ []
  marked = let same : nat_eq (i + 1) (i + 1) ≡ true = eq-eqb (i + 1) (i + 1) refl in rw same refl

  others : (j : ℕ) → i ≢ j → filter_map (mark_of (j + 1)) events ≡ []
  others j ne = let other : nat_eq (i + 1) (j + 1) ≡ false = ne_eqb (i + 1) (j + 1) (λ same. ne (omega (arith, same))) in rw other refl

  abbrev x : Snap
  x = new_snap e.shown snap names added

  one_sounder : sound v ≡ sound e.shown + 1
  unfolding sound
  one_sounder = ap (λ (w : Shown). sum_by weight (catalog w).snaps) adds.only ∙ sum_by-append weight (catalog e.shown).snaps (x ∷ [])

  enough : length events + sound v ≤ 3 + sound e.shown
  enough = let s = one_sounder in omega (arith, s)

  abbrev next : Run
  next = record e { disk = disk; shown = v; seats = set e.seats i (next_seat source file disk0 v0 snap files of e i asked); kept = kept }

  leads : state next ≡ reached
  leads = leads_here source file disk0 v0 snap files of e i asked disk v kept events more left enough marked others reached reaches refl

  told_before : IsTrue disk.told → IsTrue e.disk.told
  told_before t = subst (λ (b : Bool). IsTrue b) adds.is.makes.told t

  -- the snapshots now

  new_at : (s : SnapNo) → s.0 ≡ count e.shown → snap_at (catalog v) s ≡ x
  new_at s at = ap (λ (w : Shown). snap_at (catalog w) s) adds.only ∙ ap (λ n. get_or ((catalog e.shown).snaps ++ x ∷ []) n no_snap) at ∙ get_or-append_seam (catalog e.shown).snaps x [] no_snap

  old_at : (s : SnapNo) → IsOpen e.shown s → snap_at (catalog v) s ≡ snap_at (catalog e.shown) s
  old_at s open_before = ap (λ (w : Shown). snap_at (catalog w) s) adds.only ∙ get_or_append_left (catalog e.shown).snaps (x ∷ []) no_snap s.0 open_before

  counted_more : count v ≡ count e.shown + 1
  counted_more = ap count adds.only ∙ length-append (catalog e.shown).snaps (x ∷ [])

  which : (s : SnapNo) → IsOpen v s → IsOpen e.shown s ⊎ (s.0 ≡ count e.shown)
  which s has_it = elim (cases_lt s.0 (count e.shown)) [
    | inl lt ↦ inl lt
    | inr ge ↦ inr (let c = counted_more in omega (arith, ge, c, has_it))
  ]

  listed : names ≡ paths
  listed = adds.is.listed ∙ sym adds.is.named

  snaps_now : st.snaps ++ cut_snap ∷ [] ≡ snaps_of v
  snaps_now =
      ap (λ (ss : List plain_state.Snap). ss ++ cut_snap ∷ []) asked.safe.machine.snaps
      ∙ ap (λ (n : ℕ). snaps_of e.shown ++ record { name = snap; files = paths; cut = n; suspect = false } ∷ []) asked.safe.machine.next_cut
      ∙ ap (λ (fs : List (List ℕ)). snaps_of e.shown ++ record { name = snap; files = fs; cut = (catalog e.shown).next_cut; suspect = false } ∷ []) (sym listed)
      ∙ sym (map-append plainly (catalog e.shown).snaps (x ∷ [])) ∙ ap snaps_of (sym adds.only)

  not_source : snap ≢ e.opening.source
  not_source is = let y : false ≡ true = sym adds.free.0 ∙ (bytes_eq-Decides snap source).1 (is ∙ asked.source_is) in absurd cc

  not_master : snap ≢ master
  not_master is = let y : false ≡ true = sym adds.free.1 ∙ (bytes_eq-Decides snap master).1 is in absurd cc

  apart_now : (s : SnapNo) → IsOpen v s → (name_of v s ≢ e.opening.source) × (name_of v s ≢ master)
  apart_now s has_it = elim (which s has_it) [
    | inl old ↦ subst (λ (y : Snap). (y.name ≢ e.opening.source) × (y.name ≢ master)) (sym (old_at s old)) (asked.safe.machine.apart s old)
    | inr at ↦ subst (λ (y : Snap). (y.name ≢ e.opening.source) × (y.name ≢ master)) (sym (new_at s at)) (not_source, not_master)
  ]

  machine_next : InStep next
  machine_next = record {
    legal = λ told. legal_here source file disk0 v0 snap files of e i asked disk v kept events more left enough marked others reached reaches refl (may_come (told_before told)) (told_before told);
    moment = ap (λ (y : Plain). y.moment) leads ∙ later_is source file disk0 v0 snap files of e i asked disk v kept events more left enough marked others reached reaches refl;
    opened = ap (λ (y : Plain). y.opening) leads ∙ asked.safe.machine.opened;
    scripts = ap (λ (y : Plain). y.scripts) leads ∙ asked.safe.machine.scripts;
    settled = ap (λ (y : Plain). y.restoring) leads ∙ asked.safe.machine.settled;
    snaps = ap (λ (y : Plain). y.snaps) leads ∙ snaps_now;
    next_cut = ap (λ (y : Plain). y.next_cut) leads ∙ ap (λ n. n + 1) asked.safe.machine.next_cut ∙ ap (λ (w : Shown). (catalog w).next_cut) (sym adds.only);
    apart = apart_now;
  }

  -- the pages

  images_same : img v ≡ img e.shown
  images_same = ap img adds.only

  counts_same : counts v ≡ counts e.shown
  counts_same = ap counts adds.only

  pages_same : data_pages v ≡ data_pages e.shown
  pages_same = ap data_pages adds.only

  committed_is : committed (state next) ≡ committed st
  committed_is = ap committed leads

  abbrev held_copies : finite.FinMap (slice_cmp nat_cmp) Tables
  held_copies = (journal.held st.opening st.journal).copies

  copy_new : copy (state next) snap ≡ committed st
  copy_new =
      ap (λ (y : Plain). copy y snap) leads
      ∙ ap (λ (o : Option Tables). unwrap_or o finite.empty) (finite.get-insert nat_list_cmp_total held_copies snap (committed st) snap ∙ ap (λ b. cond b (Some (committed st)) (finite.get held_copies snap)) (itself snap))
    where
      itself : (n : List ℕ) → eq_by_cmp (slice_cmp nat_cmp) n n ≡ true
      itself n = ap is_eq (tied_itself nat_list_cmp_total n)

  copy_old : (name : List ℕ) → name ≢ snap → copy (state next) name ≡ copy st name
  copy_old name ne =
      ap (λ (y : Plain). copy y name) leads
      ∙ ap (λ (o : Option Tables). unwrap_or o finite.empty) (finite.get-insert nat_list_cmp_total held_copies snap (committed st) name ∙ ap (λ b. cond b (Some (committed st)) (finite.get held_copies name)) (eq_other name snap ne))

  -- a snapshot that isn't suspect is there
  kept_open : (s : SnapNo) → IsKept e.shown s → IsOpen e.shown s
  kept_open s is_kept = elim (cases_lt s.0 (count e.shown)) [
    | inl lt ↦ lt
    | inr ge ↦ absurd (is_kept.sound (ap (λ (y : Snap). y.state) (get_or_past (catalog e.shown).snaps s.0 no_snap ge)))
  ]

  copies_now : (s : SnapNo) → IsKept v s → AreTables (data_pages v) (view v s) (copy (state next) (name_of v s))
  copies_now s is_kept = elim (adds.views s is_kept) [
    | inl old ↦
        let open_before = kept_open s old.0 in
        let name_same : name_of v s ≡ name_of e.shown s = ap (λ (y : Snap). y.name) (old_at s open_before) in
        same_tables (data_pages e.shown) (data_pages v) (view e.shown s) (view v s) (copy st (name_of e.shown s)) (copy (state next) (name_of v s)) pages_same old.1
        (ap (copy (state next)) name_same ∙ copy_old (name_of e.shown s) (lacks s open_before)) (asked.safe.pages.copies s old.0)
    | inr new ↦
        let name_is : name_of v s ≡ snap = ap (λ (y : Snap). y.name) (new_at s new.0) in
        same_tables (data_pages e.shown) (data_pages v) (img e.shown) (view v s) (committed st) (copy (state next) (name_of v s)) pages_same new.1
        (ap (copy (state next)) name_is ∙ copy_new) asked.safe.pages.source
  ]

  pages_next : AreCopies next
  pages_next = record {
    file = subst (λ (cs : List ℕ). cs ≡ get_or cs 0 0 ∷ []) (sym counts_same) asked.safe.pages.file;
    few = subst (λ (cs : List ℕ). get_or cs 0 0 ≤ 32768) (sym counts_same) asked.safe.pages.few;
    source = same_tables (data_pages e.shown) (data_pages v) (img e.shown) (img v) (committed st) (committed (state next)) pages_same images_same committed_is asked.safe.pages.source;
    copies = copies_now;
  }

  -- the names

  in_paths : (name : List ℕ) → has name paths ≡ bytes_eq name path
  in_paths name = ap (has name) adds.is.named ∙ or_false (bytes_eq name path)
    where
      or_false : (b : Bool) → (b || false) ≡ b
      or_false true = refl
      or_false false = refl

  on_now : (name : List ℕ) → has name (paths ++ st.on_volume) ≡ (bytes_eq name path || has name st.on_volume)
  on_now name = list_any-append (bytes_eq name) paths st.on_volume ∙ ap (λ b. b || has name st.on_volume) (in_paths name)

  names_now : IsTrue e.disk.told → (name : List ℕ) → (has name (without_names paths st.in_doubt) ≡ true) ⊎ (finite.contains_key disk.folder name ≡ has name (paths ++ st.on_volume))
  names_now told name =
      let p = adds.is.makes.places told name in
      elim (cases_Bool (bytes_eq name path)) [
        | inl t ↦ inr (p ∙ ap (λ b. b || finite.contains_key e.disk.folder name) t ∙ ap (λ b. b || has name st.on_volume) (sym t) ∙ sym (on_now name))
        | inr f ↦ elim (asked.safe.files.names told name) [
          | inl d ↦ inl (has_without name paths st.in_doubt ∙ (let q = in_paths name ∙ f in rw (q, d) refl))
          | inr same ↦ inr (p ∙ ap (λ b. bytes_eq name path || b) same ∙ sym (on_now name))
        ]
      ]

  sparse_now : sparse_names v ≡ sparse_names e.shown ++ path ∷ []
  sparse_now =
      ap sparse_names adds.only ∙ flat_map-append (λ s. s.files) (catalog e.shown).snaps (x ∷ [])
      ∙ ap (λ (fs : List (List ℕ)). sparse_names e.shown ++ (fs ++ [])) adds.is.listed

  files_next : AreOut next
  files_next = record {
    tells = λ told s has_it. elim (which s has_it) [
      | inl old ↦ subst (λ (y : Snap). IsTrue y.set.files.tells) (sym (old_at s old)) (asked.safe.files.tells (told_before told) s old)
      | inr at ↦ subst (λ (y : Snap). IsTrue y.set.files.tells) (sym (new_at s at)) (adds.is.tells (told_before told))
    ];
    names = λ told name. subst (λ (y : Plain). (list_any (bytes_eq name) y.in_doubt ≡ true) ⊎ (finite.contains_key disk.folder name ≡ list_any (bytes_eq name) y.on_volume)) (sym leads) (names_now (told_before told) name);
    out = λ name. adds.is.makes.out name ∙ ap (λ b. bytes_eq name path || b) (asked.safe.files.out name)
        ∙ sym (ap (has name) sparse_now ∙ list_any-append (bytes_eq name) (sparse_names e.shown) (path ∷ []) ∙ or_or_false (has name (sparse_names e.shown)) (bytes_eq name path));
    distinct = ap are_distinct sparse_now ∙ one_more (sparse_names e.shown) path asked.safe.files.distinct adds.is.unused;
    single = λ s has_it. elim (which s has_it) [
      | inl old ↦ ap (λ (y : Snap). length y.files) (old_at s old) ∙ asked.safe.files.single s old
      | inr at ↦ ap (λ (y : Snap). length y.files) (new_at s at) ∙ ap length adds.is.listed
    ];
  }

  -- turns

  blame_next : AreBlamed next
  blame_next = record {
    faults = λ s has_it lost. elim (which s has_it) [
      | inl old ↦ subst (λ (y : Snap). 1 ≤ faults y.set) (sym (old_at s old)) (asked.safe.blame.faults s old (ap (λ (y : Snap). y.state) (sym (old_at s old)) ∙ lost))
      | inr at ↦ absurd (let y : Online ≡ Suspect = ap (λ (y : Snap). y.state) (sym (new_at s at)) ∙ lost in cc)
    ];
    turned = λ h.
        let t = asked.safe.blame.turned (turned_before source file disk0 v0 snap files of e i asked disk v kept events more left enough marked others reached reaches refl refl h) in
        (t.0, (let c = counted_more in let o = t.1 in omega (arith, c, o)), ap (λ (y : Snap). y.state) (old_at t.0 t.1) ∙ t.2);
  }

  pub safe_cut : Safe (record e { disk = disk; shown = v; seats = set e.seats i (record { current = (seat_at e i).current; said = (seat_at e i).said + 1; gone = false }); kept = kept })
  safe_cut = record {
    machine = machine_next;
    sessions = sessions_next source file disk0 v0 snap files of e i asked disk v kept events more left enough marked others reached reaches refl;
    pages = pages_next;
    files = files_next;
    blame = blame_next;
    room = room_next source file disk0 v0 snap files of e i asked disk v kept events more left enough marked others reached reaches refl;
  }

-- the same, by the call's own pages, volume and history
pub cut_safe : (source file : List ℕ) (disk0 : Disk) (v0 : Shown) (snap : List ℕ) (files : List SnapFile) (of : List ℕ) (e : Run) (i : ℕ) → IsAsked source file disk0 v0 (CreateSnap snap files of) e i →
    (disk : Disk) (v : Shown) (kept0 kept : Kept) (k n : ℕ) (names : List (List ℕ)) (added : Sparse) → e.kept ≡ kept0 → k ≡ i + 1 → n ≡ (seat_at e i).said + 1 → AddsSnap source snap files v0 v disk0 disk names added →
    kept.events ≡ kept0.events ++ cut_events k n (length kept0.events) snap → kept.room + 2 ≡ kept0.room → (IsTrue disk0.told → next_of (state e) (i + 1) (Some (CreateSnap snap files of)) ≡ Cuts snap) →
    Safe (record e { disk = disk; shown = v; seats = set e.seats i (record { current = (seat_at e i).current; said = (seat_at e i).said + 1; gone = false }); kept = kept })
cut_safe source file disk0 v0 snap files of e i asked disk v kept0 kept k n names added kept_is k_is n_is adds more left cuts =
    safe_cut source file disk0 v0 snap files of e i asked disk v kept names added
    (subst (λ (d : Disk). AddsSnap source snap files e.shown v d disk names added) (sym asked.disk_is) (subst (λ (w : Shown). AddsSnap source snap files w v disk0 disk names added) (sym asked.shown_is) adds))
    (more ∙ ap (λ (q : Kept). q.events ++ cut_events k n (length q.events) snap) (sym kept_is) ∙ ap (λ m. e.kept.events ++ cut_events m n (length e.kept.events) snap) k_is ∙ ap (λ m. e.kept.events ++ cut_events (i + 1) m (length e.kept.events) snap) n_is)
    (left ∙ ap (λ (q : Kept). q.room) (sym kept_is))
    (λ told. cuts (subst (λ (d : Disk). IsTrue d.told) asked.disk_is told))

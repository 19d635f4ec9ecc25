-- What comes of a CREATE DATABASE, by the plain machine.
use Rattle.std.proofs.Common.{◌≡◌, ◌+◌, ◌-◌, ◌⊎◌, inl, inr, ℕ, Bool, true, false, ◌||◌, not, nat_le, cond, IsTrue, List, [], ◌∷◌, length, map, get_or, refl, ap, sym, ◌∙◌, subst, ◌^◌}
use Rattle.std.specs.Prelude.{Some, None}
use Rattle.std.specs.List.{list_any}
use Rattle.std.specs.Str.{bytes_eq}
use Rattle.std.specs.FinMap as finite
use Rattle.std.proofs.lemmas.Bool.{cases_Bool}
use Rattle.std.proofs.lemmas.List.{length-map}
use Rattle.plain_model.specs.declared.stmt.Stmt.{Stmt}
use Rattle.plain_model.specs.declared.stmt.Stmt.TheVariants.{CreateSnap}
use Rattle.plain_model.specs.declared.stmt.SnapFile.{SnapFile}
use Rattle.plain_model.specs.declared.reply.Message.{Message}
use Rattle.plain_model.specs.declared.reply.Reply.{Reply}
use Rattle.plain_model.specs.declared.reply.Reply.TheVariants.{Msg}
use Rattle.plain_model.specs.declared.reply.TheConstants.Message.{DATABASE_IS_THERE, FILE_LIST, NOT_THE_SOURCE, NO_DATABASE}
use Rattle.plain_model.specs.Journal.{Opening}
use Rattle.plain_model.specs.State.{Session, session, is_source, is_restoring, fresh_session}
use Rattle.plain_model.specs.Messages.{plain, first_that}
use Rattle.plain_model.specs.Next.{Next, Replies, Cuts, unless, is_database, is_each_once, is_taken, is_full, logical_names, no_snap, no_room, next_snap, next_of}
use Rattle.plain_model.specs.Next as next
use Rattle.plain_model.specs.Free.{IsMaking, NoMemoryToCut, FileFailed, NameTaken, is_doubtful}
use Rattle.early_pages.specs.Catalog.{IsCatalog}
use Rattle.early_pages.specs.Shown.{Shown, catalog}
use Rattle.early_engine.specs.declared.database.Database.{Database}
use Rattle.early_engine.specs.Databases.{Means, is_there, is_home}
use Rattle.early_engine.specs.Deciding.{AreApart}
use Rattle.early_engine.specs.Pushing.{plainly, snaps_of}
use Rattle.early_engine.specs.Ready.{Allowed}
use Rattle.early_engine.specs.Stepping.{idle, Around}
use Rattle.early_engine.specs.Safe.{Run, Disk, state, seat_at, IsSeated}
use Rattle.early_engine.specs.Creating.{IsAsked, has_no_place, Reason, VolumeFailed, HasFile, HasNoPlace, HasNoMemory}
use Rattle.early_engine.proofs.AtOnce.{there_is, home_is}
use Rattle.early_engine.proofs.SeatLemmas.{around, session_is}
use Rattle.early_engine.proofs.Doubts.{end_known}

or_false : (b : Bool) → (b || false) ≡ b
or_false true = refl
or_false false = refl

-- where no refusal applies the rest comes
pub all_pass : (rs : List (Bool × Message)) (n : Next) → first_that rs ≡ None → unless rs n ≡ n
all_pass [] n h = refl
all_pass (r ∷ rs) n h = elim (cases_Bool r.0) [
  | inl t ↦ absurd (let x : Some r.1 ≡ None = ap (λ b. cond b (Some r.1) (first_that rs)) (sym t) ∙ h in cc)
  | inr f ↦
      let rest : first_that rs ≡ None = ap (λ b. cond b (Some r.1) (first_that rs)) (sym f) ∙ h in
      ap (λ b. cond b (Replies (Msg r.1)) (unless rs n)) f ∙ all_pass rs n rest
]

module _ (source file : List ℕ) (disk : Disk) (v : Shown) (snap : List ℕ) (files : List SnapFile) (of : List ℕ) (e : Run) (i : ℕ) (asked : IsAsked source file disk v (CreateSnap snap files of) e i) where
  abbrev stmt : Stmt
  stmt = CreateSnap snap files of

  pub seated_here : IsSeated (seat_at e i) (get_or (state e).sessions i fresh_session) (length e.kept.events)
  seated_here = asked.safe.sessions.each i asked.there

  pub round : Around e.opening (state e) (i + 1)
  round = around e asked.safe.machine asked.safe.sessions i asked.there

  pub here_is : session (state e) (i + 1) ≡ idle (seat_at e i).said (seat_at e i).current false seated_here.since
  here_is = session_is e asked.safe.machine asked.safe.sessions i asked.there ∙ seated_here.is ∙ ap (λ (g : Bool). idle (seat_at e i).said (seat_at e i).current g seated_here.since) asked.here

  pub unmade : (session (state e) (i + 1)).making ≡ None
  unmade = ap (λ (s : Session). s.making) here_is

  outside : (session (state e) (i + 1)).depth ≡ 0
  outside = ap (λ (s : Session). s.depth) here_is

  pub snaps_are : (state e).snaps ≡ map plainly (catalog v).snaps
  snaps_are = asked.safe.machine.snaps ∙ ap snaps_of asked.shown_is

  pub apart_here : AreApart e.opening.source (catalog v)
  apart_here = subst (λ (w : Shown). AreApart e.opening.source (catalog w)) asked.shown_is asked.safe.machine.apart

  -- it is asked for the first time
  start : next_of (state e) (i + 1) (Some stmt) ≡ unless (no_snap (state e) (i + 1) snap files of) (unless (no_room (state e) files) (Cuts snap))
  start = ap (λ m. next_snap (state e) (i + 1) m snap files of) unmade

  module _ (ordered : IsCatalog (catalog v)) (new : Database) (means : Means source (catalog v) snap new) where
    there_new : is_database (state e) snap ≡ is_there new
    there_new = there_is e.opening (catalog v) ordered apart_here (state e) asked.safe.machine.opened snaps_are snap new (subst (λ (s : List ℕ). Means s (catalog v) snap new) (sym asked.source_is) means)

    pub refused_taken : is_there new ≡ true → Allowed (state e) (i + 1) stmt (Msg (plain DATABASE_IS_THERE))
    refused_taken holds = let t = there_new ∙ holds in let d = outside in inl (start ∙ (rw (d, t) refl))

    module _ (from : Database) (home : Means source (catalog v) of from) (free : is_there new ≡ false) where
      home_means : Means e.opening.source (catalog v) of from
      home_means = subst (λ (s : List ℕ). Means s (catalog v) of from) (sym asked.source_is) home

      there_from : is_database (state e) of ≡ is_there from
      there_from = there_is e.opening (catalog v) ordered apart_here (state e) asked.safe.machine.opened snaps_are of from home_means

      home_from : is_source (state e) of ≡ is_home from
      home_from = home_is e.opening (catalog v) ordered apart_here (state e) asked.safe.machine.opened snaps_are of from home_means

      settled : is_restoring (state e) of ≡ false
      settled = let r = asked.safe.machine.settled in rw r refl

      listed : is_each_once (logical_names files) (state e).opening.files ≡ is_each_once (logical_names files) (file ∷ [])
      listed = ap (λ (o : Opening). is_each_once (logical_names files) o.files) asked.safe.machine.opened ∙ ap (is_each_once (logical_names files)) asked.files_are

      -- the refusals of names
      pub names_say : (n : Next) → unless (no_snap (state e) (i + 1) snap files of) n ≡ cond (not (is_there from)) (Replies (Msg (plain NO_DATABASE))) (cond (not (is_home from)) (Replies (Msg (plain NOT_THE_SOURCE))) (cond (not (is_each_once (logical_names files) (file ∷ []))) (Replies (Msg (plain FILE_LIST))) n))
      names_say n =
          let d = outside in
          let t = there_new ∙ free in
          let s = settled in
          let f = there_from in
          let h = home_from in
          let l = listed in
          rw (d, t, s, f, h, l) refl

      pub refused_absent : is_there from ≡ false → Allowed (state e) (i + 1) stmt (Msg (plain NO_DATABASE))
      refused_absent lacks = inl (start ∙ names_say _ ∙ (rw lacks refl))

      pub refused_elsewhere : is_there from ≡ true → is_home from ≡ false → Allowed (state e) (i + 1) stmt (Msg (plain NOT_THE_SOURCE))
      refused_elsewhere holds lacks = inl (start ∙ names_say _ ∙ (rw (holds, lacks) refl))

      pub refused_list : is_there from ≡ true → is_home from ≡ true → is_each_once (logical_names files) (file ∷ []) ≡ false → Allowed (state e) (i + 1) stmt (Msg (plain FILE_LIST))
      refused_list holds there lacks = inl (start ∙ names_say _ ∙ (rw (holds, there, lacks) refl))

      pub passing : is_there from ≡ true → is_home from ≡ true → is_each_once (logical_names files) (file ∷ []) ≡ true → IsMaking (state e) (i + 1) snap files of
      passing holds there once = record {
        before = unmade;
        passes =
            let d = outside in
            let t = there_new ∙ free in
            let s = settled in
            let f = there_from ∙ holds in
            let h = home_from ∙ there in
            let l = listed ∙ once in
            rw (d, t, s, f, h, l) refl;
      }

  module _ (making : IsMaking (state e) (i + 1) snap files of) (path : List ℕ) (one : next.sparse_names files ≡ path ∷ []) where
    past : next_of (state e) (i + 1) (Some stmt) ≡ unless (no_room (state e) files) (Cuts snap)
    past = start ∙ all_pass (no_snap (state e) (i + 1) snap files of) (unless (no_room (state e) files) (Cuts snap)) making.passes

    taken_is : is_taken (state e) (next.sparse_names files) ≡ list_any (bytes_eq path) (state e).on_volume
    taken_is = ap (is_taken (state e)) one ∙ or_false (list_any (bytes_eq path) (state e).on_volume || false) ∙ or_false (list_any (bytes_eq path) (state e).on_volume)

    full_is : is_full (state e) ≡ has_no_place v
    full_is =
        ap (λ ss. nat_le 8 (length ss) || nat_le (2 ^ 64 - 1) (state e).next_cut) snaps_are
        ∙ ap (λ n. nat_le 8 n || nat_le (2 ^ 64 - 1) (state e).next_cut) (length-map (catalog v).snaps plainly)
        ∙ ap (λ n. nat_le 8 (length (catalog v).snaps) || nat_le (2 ^ 64 - 1) n) (asked.safe.machine.next_cut ∙ ap (λ (w : Shown). (catalog w).next_cut) asked.shown_is)

    module _ (told : IsTrue disk.told) where
      known : (list_any (bytes_eq path) (state e).in_doubt ≡ true) ⊎ (finite.contains_key disk.folder path ≡ list_any (bytes_eq path) (state e).on_volume)
      known = subst (λ (d : Disk). (list_any (bytes_eq path) (state e).in_doubt ≡ true) ⊎ (finite.contains_key d.folder path ≡ list_any (bytes_eq path) (state e).on_volume)) asked.disk_is
          (asked.safe.files.names (subst (λ (d : Disk). IsTrue d.told) (sym asked.disk_is) told) path)

      -- a name that has no file isn't on the machine's volume
      off : finite.contains_key disk.folder path ≡ false → is_taken (state e) (next.sparse_names files) ≡ false
      off lacks = taken_is ∙ elim known [
        | inl doubt ↦ end_known e.opening e.scripts e.kept.events path doubt
        | inr same ↦ sym same ∙ lacks
      ]

      pub cuts_here : finite.contains_key disk.folder path ≡ false → has_no_place v ≡ false → next_of (state e) (i + 1) (Some stmt) ≡ Cuts snap
      cuts_here lacks place = let t = off lacks in let f = full_is ∙ place in past ∙ (rw (t, f) refl)

      pub reason_allowed : (disk' : Disk) (reply : Reply) → Reason disk disk' v path reply → Allowed (state e) (i + 1) stmt reply
      reason_allowed disk' reply (VolumeFailed is rose) = subst (λ (r : Reply). Allowed (state e) (i + 1) stmt r) (sym is) (inr (FileFailed snap files of making))
      reason_allowed disk' reply (HasFile is there) = subst (λ (r : Reply). Allowed (state e) (i + 1) stmt r) (sym is) (elim known [
        | inl doubt ↦ inr (NameTaken snap files of making (ap (λ ns. is_doubtful (state e) ns) one ∙ or_false (list_any (bytes_eq path) (state e).in_doubt) ∙ doubt))
        | inr same ↦ inl (let t = taken_is ∙ sym same ∙ there told in past ∙ (rw t refl))
      ])
      reason_allowed disk' reply (HasNoPlace is lacks full) = subst (λ (r : Reply). Allowed (state e) (i + 1) stmt r) (sym is) (inl (let t = off (lacks told) in let f = full_is ∙ full in past ∙ (rw (t, f) refl)))
      reason_allowed disk' reply (HasNoMemory is) = subst (λ (r : Reply). Allowed (state e) (i + 1) stmt r) (sym is) (inr (NoMemoryToCut snap files of unmade))

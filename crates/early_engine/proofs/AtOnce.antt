-- What comes at once, without a lock.
use Rattle.std.proofs.Common.{◌≡◌, inl, inr, ℕ, Bool, true, false, ◌||◌, not, cond, List, [], refl, ap, ◌∙◌}
use Rattle.std.specs.Prelude.{Some}
use Rattle.std.specs.Str.{bytes_eq}
use Rattle.std.proofs.lemmas.Slice.Eq.{bytes_eq-Decides}
use Rattle.page_base.specs.declared.column.Column.{Column}
use Rattle.plain_model.specs.declared.stmt.Stmt.{Stmt}
use Rattle.plain_model.specs.declared.stmt.Stmt.TheVariants.{UseDb, CreateTable, Select, Broken}
use Rattle.plain_model.specs.declared.stmt.SelectStmt.{SelectStmt}
use Rattle.plain_model.specs.declared.reply.Reply.{Reply}
use Rattle.plain_model.specs.declared.reply.Reply.TheVariants.{Ok, Msg}
use Rattle.plain_model.specs.declared.reply.TheConstants.Message.{NOT_BUILT, NO_DATABASE, NO_MEMORY, NO_TABLE, READ_ONLY, SUSPECT, SYNTAX}
use Rattle.plain_model.specs.Journal.{Opening}
use Rattle.plain_model.specs.State.{Plain, session, is_suspect, is_source, is_snap, copy, master}
use Rattle.plain_model.specs.Messages.{plain, at_place}
use Rattle.plain_model.specs.Meaning.{shape}
use Rattle.plain_model.specs.Next.{Next, Replies, unless, unless_shape, answers, no_write, is_database, next_of, is_built}
use Rattle.plain_model.specs.Free.{NoMemory, is_of_tables, reads_suspect}
use Rattle.early_pages.specs.Catalog.{Catalog, IsCatalog, LacksName}
use Rattle.early_engine.specs.declared.answer.Answer.TheVariants.{AtOnce}
use Rattle.early_engine.specs.declared.database.Database.{Database}
use Rattle.early_engine.specs.declared.database.Database.TheVariants.{Source, Master, Snap, Absent}
use Rattle.early_engine.specs.Databases.{Means, is_lost, is_there, is_home, is_shot}
use Rattle.early_engine.specs.Deciding.{AreApart}
use Rattle.early_engine.specs.Ready.{Seen, Ready, Comes}
use Rattle.early_engine.proofs.Coming.{not_built, built, change_next}
use Rattle.early_engine.specs.Changing.{is_change}
use Rattle.early_engine.proofs.Placed.{snaps, lacks_snap, lacks_lost, has_snap, has_state}

or_true : (b : Bool) → (b || true) ≡ true
or_true true = refl
or_true false = refl

pub eq_is : (a b : List ℕ) → bytes_eq a b ≡ true → a ≡ b
eq_is a b e = (bytes_eq-Decides a b).0 e

module _ (opening : Opening) (cat : Catalog) (wf : IsCatalog cat) (apart : AreApart opening.source cat) (st : Plain) (opened : st.opening ≡ opening) (is : st.snaps ≡ snaps cat master) where
  lacks_source : LacksName cat opening.source
  lacks_source k has = (apart k has).0

  lacks_master : LacksName cat master
  lacks_master k has = (apart k has).1

  -- what the machine says of a name, by the database that it means
  pub lost_is : (name : List ℕ) (db : Database) → Means opening.source cat name db → is_suspect st name ≡ is_lost cat db
  lost_is name Source m = ap (is_suspect st) (eq_is name opening.source m) ∙ lacks_lost cat opening.source lacks_source st is
  lost_is name Master m = ap (is_suspect st) (eq_is name master m.1) ∙ lacks_lost cat master lacks_master st is
  lost_is name (Snap s) m = has_state cat name wf s m.2 st is
  lost_is name Absent m = lacks_lost cat name m.2 st is

  pub home_is : (name : List ℕ) (db : Database) → Means opening.source cat name db → is_source st name ≡ is_home db
  home_is name Source m = ap (λ (o : Opening). bytes_eq name o.source) opened ∙ m
  home_is name Master m = ap (λ (o : Opening). bytes_eq name o.source) opened ∙ m.0
  home_is name (Snap s) m = ap (λ (o : Opening). bytes_eq name o.source) opened ∙ m.0
  home_is name Absent m = ap (λ (o : Opening). bytes_eq name o.source) opened ∙ m.0

  pub shot_is : (name : List ℕ) (db : Database) → Means opening.source cat name db → is_snap st name ≡ is_shot db
  shot_is name Source m = ap (is_snap st) (eq_is name opening.source m) ∙ lacks_snap cat opening.source lacks_source st is
  shot_is name Master m = ap (is_snap st) (eq_is name master m.1) ∙ lacks_snap cat master lacks_master st is
  shot_is name (Snap s) m = has_snap cat name wf s m.2 st is
  shot_is name Absent m = lacks_snap cat name m.2 st is

  pub there_is : (name : List ℕ) (db : Database) → Means opening.source cat name db → is_database st name ≡ is_there db
  there_is name Source m = let h = home_is name Source m in rw h (or_true (bytes_eq name master))
  there_is name Master m = let e = m.1 in rw e refl
  there_is name (Snap s) m = let e = m.1 in let h = home_is name (Snap s) m in let i = shot_is name (Snap s) m in rw (e, h, i) refl
  there_is name Absent m = let e = m.1 in let h = home_is name Absent m in let i = shot_is name Absent m in rw (e, h, i) refl

module _ (opening : Opening) (current : List ℕ) (seen : Seen) (cat : Catalog) (wf : IsCatalog cat) (apart : AreApart opening.source cat) (db : Database) (means : Means opening.source cat current db) where
  -- a statement that isn't built
  pub unbuilt_comes : (stmt : Stmt) → is_built stmt ≡ false → Comes opening current seen (snaps cat master) stmt (AtOnce (Msg (plain NOT_BUILT)))
  unbuilt_comes stmt b st k ready is = inl (not_built st k stmt b)

  pub broken_comes : (at : ℕ) → Comes opening current seen (snaps cat master) (Broken at) (AtOnce (Msg (at_place SYNTAX at)))
  broken_comes at st k ready is = inl refl

  -- no memory was found for a statement about tables
  pub memory_comes : (stmt : Stmt) → is_of_tables stmt ≡ true → is_lost cat db ≡ false → Comes opening current seen (snaps cat master) stmt (AtOnce (Msg (plain NO_MEMORY)))
  memory_comes stmt of sound st k ready is = inr (NoMemory stmt of (unread stmt (ap (is_suspect st) ready.current_is ∙ lost_is opening cat wf apart st ready.opened is current db means ∙ sound)))
    where
      unread : (stmt : Stmt) → is_suspect st (session st k).current ≡ false → reads_suspect st k stmt ≡ false
      unread (Select s) e = e
      unread stmt e = refl

  current_lost : (st : Plain) (k : ℕ) → Ready opening current seen st k [] → st.snaps ≡ snaps cat master → is_suspect st (session st k).current ≡ is_lost cat db
  current_lost st k ready is = ap (is_suspect st) ready.current_is ∙ lost_is opening cat wf apart st ready.opened is current db means

  current_home : (st : Plain) (k : ℕ) → Ready opening current seen st k [] → st.snaps ≡ snaps cat master → is_source st (session st k).current ≡ is_home db
  current_home st k ready is = ap (is_source st) ready.current_is ∙ home_is opening cat wf apart st ready.opened is current db means

  current_shot : (st : Plain) (k : ℕ) → Ready opening current seen st k [] → st.snaps ≡ snaps cat master → is_snap st (session st k).current ≡ is_shot db
  current_shot st k ready is = ap (is_snap st) ready.current_is ∙ shot_is opening cat wf apart st ready.opened is current db means

  -- a write outside the source
  write_refused : (st : Plain) (k : ℕ) (next : Next) → Ready opening current seen st k [] → st.snaps ≡ snaps cat master → is_home db ≡ false → unless (no_write st k) next ≡ Replies (Msg (cond (is_lost cat db) (plain SUSPECT) (plain READ_ONLY)))
  write_refused st k next ready is out =
      let l = current_lost st k ready is in
      let h = current_home st k ready is ∙ out in
      rw (l, h) (elim (is_lost cat db) as (λ b. cond b (Replies (Msg (plain SUSPECT))) (Replies (Msg (plain READ_ONLY))) ≡ Replies (Msg (cond b (plain SUSPECT) (plain READ_ONLY)))) [ true ↦ refl | false ↦ refl ])

  pub create_refused : (name : List ℕ) (cols : List Column) → is_home db ≡ false → Comes opening current seen (snaps cat master) (CreateTable name cols) (AtOnce (Msg (cond (is_lost cat db) (plain SUSPECT) (plain READ_ONLY))))
  create_refused name cols out st k ready is = inl (built st k (CreateTable name cols) refl ∙ write_refused st k _ ready is out)

  pub change_refused : (stmt : Stmt) → is_change stmt ≡ true → is_home db ≡ false → Comes opening current seen (snaps cat master) stmt (AtOnce (Msg (cond (is_lost cat db) (plain SUSPECT) (plain READ_ONLY))))
  change_refused stmt h out st k ready is = inl (change_next st k stmt h ∙ write_refused st k _ ready is out)

  -- SELECT outside the source and all snapshots
  pub select_refused : (s : SelectStmt) → is_built (Select s) ≡ true → is_home db ≡ false → is_shot db ≡ false → Comes opening current seen (snaps cat master) (Select s) (AtOnce (Msg (plain NO_TABLE)))
  select_refused s b out none st k ready is =
      let h = current_home st k ready is ∙ out in
      let n = current_shot st k ready is ∙ none in
      inl (built st k (Select s) b ∙ (rw (h, n) refl))

  -- SELECT in a snapshot
  pub select_lost : (s : SelectStmt) → is_built (Select s) ≡ true → is_home db ≡ false → is_shot db ≡ true → is_lost cat db ≡ true → Comes opening current seen (snaps cat master) (Select s) (AtOnce (Msg (plain SUSPECT)))
  select_lost s b out shot lost st k ready is =
      let h = current_home st k ready is ∙ out in
      let n = current_shot st k ready is ∙ shot in
      let l = current_lost st k ready is ∙ lost in
      inl (built st k (Select s) b ∙ (rw (h, n, l) refl))

  pub select_comes : (s : SelectStmt) (reply : Reply) → is_built (Select s) ≡ true → is_home db ≡ false → is_shot db ≡ true → is_lost cat db ≡ false →
      unless_shape (shape (Select s) (seen.copies current)) (answers (Select s) (seen.copies current)) ≡ Replies reply → Comes opening current seen (snaps cat master) (Select s) (AtOnce reply)
  select_comes s reply b out shot sound r st k ready is =
      let h = current_home st k ready is ∙ out in
      let n = current_shot st k ready is ∙ shot in
      let l = current_lost st k ready is ∙ sound in
      let c : copy st (session st k).current ≡ seen.copies current = ap (copy st) ready.current_is ∙ ready.copies_are current in
      inl (built st k (Select s) b ∙ (rw (h, n, l) (ap (λ t. unless_shape (shape (Select s) t) (answers (Select s) t)) c ∙ r)))

-- USE
module _ (opening : Opening) (current : List ℕ) (seen : Seen) (cat : Catalog) (wf : IsCatalog cat) (apart : AreApart opening.source cat) (name : List ℕ) (db : Database) (means : Means opening.source cat name db) where
  use_next : (st : Plain) (k : ℕ) → Ready opening current seen st k [] → st.snaps ≡ snaps cat master → next_of st k (Some (UseDb name)) ≡ cond (is_there db) (cond (is_lost cat db) (Replies (Msg (plain SUSPECT))) (Replies Ok)) (Replies (Msg (plain NO_DATABASE)))
  use_next st k ready is =
      let t = there_is opening cat wf apart st ready.opened is name db means in
      let l = lost_is opening cat wf apart st ready.opened is name db means in
      let r = ready.settled in
      let u = ready.unmade name in
      rw (t, r, u, l) (elim (is_there db) as (λ b. cond (not b) (Replies (Msg (plain NO_DATABASE))) (cond (is_lost cat db) (Replies (Msg (plain SUSPECT))) (Replies Ok)) ≡ cond b (cond (is_lost cat db) (Replies (Msg (plain SUSPECT))) (Replies Ok)) (Replies (Msg (plain NO_DATABASE)))) [ true ↦ refl | false ↦ refl ])

  pub use_absent : is_there db ≡ false → Comes opening current seen (snaps cat master) (UseDb name) (AtOnce (Msg (plain NO_DATABASE)))
  use_absent e st k ready is = inl (use_next st k ready is ∙ (rw e refl))

  pub use_lost : is_there db ≡ true → is_lost cat db ≡ true → Comes opening current seen (snaps cat master) (UseDb name) (AtOnce (Msg (plain SUSPECT)))
  use_lost e l st k ready is = inl (use_next st k ready is ∙ (rw (e, l) refl))

  pub use_comes : is_there db ≡ true → is_lost cat db ≡ false → Comes opening current seen (snaps cat master) (UseDb name) (AtOnce Ok)
  use_comes e l st k ready is = inl (use_next st k ready is ∙ (rw (e, l) refl))

-- Decisions by a session's current database.
use Rattle.std.proofs.Common.{◌≡◌, ℕ, Bool, true, false, cond, List, [], length, refl, sym, subst, Result, Ok, Err}
use Rattle.std.specs.Prelude.{◌==◌, IfOk, MatchResult}
use Rattle.page_base.specs.declared.column.Column.{Column}
use Rattle.page_base.specs.declared.failure.NoMemory.{NoMemory}
use Rattle.plain_model.specs.declared.stmt.Stmt.{Stmt}
use Rattle.plain_model.specs.declared.stmt.Stmt.TheVariants.{UseDb, CreateTable, Insert, Select, Update, Delete, CreateSnap, Broken}
use Rattle.plain_model.specs.declared.stmt.SnapFile.{SnapFile}
use Rattle.plain_model.specs.declared.stmt.InsertStmt.{InsertStmt}
use Rattle.plain_model.specs.declared.stmt.SelectStmt.{SelectStmt}
use Rattle.plain_model.specs.declared.stmt.UpdateStmt.{UpdateStmt}
use Rattle.plain_model.specs.declared.stmt.DeleteStmt.{DeleteStmt}
use Rattle.plain_model.specs.declared.reply.Message.{Message}
use Rattle.plain_model.specs.declared.reply.Reply.TheVariants.{Ok as Fine, Msg}
use Rattle.plain_model.specs.Journal.{Opening}
use Rattle.plain_model.specs.Messages.{plain, at_place}
use Rattle.plain_model.specs.Next.{is_built}
use Rattle.plain_model.specs.Free.{is_of_tables}
use Rattle.early_pages.specs.Shown.{Shown, catalog}
use Rattle.early_engine.specs.declared.decision.Decision.{Decision}
use Rattle.early_engine.specs.declared.database.Database.{Database}
use Rattle.early_engine.specs.declared.database.Database.TheVariants.{Source, Master, Snap, Absent}
use Rattle.early_engine.specs.declared.answer.Answer.TheVariants.{AtOnce}
use Rattle.early_engine.specs.Databases.{Means, is_lost, is_there, is_home, is_shot}
use Rattle.early_engine.specs.Ready.{Seen}
use Rattle.early_engine.specs.Stepping.{IsPlain}
use Rattle.early_engine.specs.Deciding.{Setting, IsDecision, Decides}
use Rattle.early_engine.proofs.PushLemmas.{bytes_same}
use Rattle.early_engine.proofs.AtOnce.{eq_is, unbuilt_comes, broken_comes, memory_comes, create_refused, change_refused, select_refused, select_lost, use_absent, use_lost, use_comes}
use Rattle.early_engine.proofs.Coming.{bad_comes}
use Rattle.early_engine.proofs.Decisions.{decides_only, refuses_only, other_number, no_failure}
use Rattle.early_engine.specs.Causes.{IsRoomReply, IsNoFailure}
use Rattle.early_engine.specs.Seeing.{IsSelect}
use Rattle.early_engine.proofs.SelectLemmas.{as_select}
use Rattle.early_engine.specs.Changing.{is_change}
use Rattle.early_engine.proofs.ChangeLemmas.{change_plain}
use Rattle.plain_model.specs.declared.reply.Carried.TheVariants.{Nothing, Number}
use Rattle.plain_model.specs.declared.reply.TheConstants.Message.{BAD_DEFINITION, NOT_BUILT, NO_DATABASE, NO_MEMORY, NO_TABLE, READ_ONLY, SUSPECT, SYNTAX}

abbrev pub now : Message → Decision
now m = record { answer = AtOnce (Msg m); edits = [] }

-- what is refused outside the source says nothing of room or of the volume
outside_room : (v : Shown) (stmt : Stmt) (lost : Bool) → IsRoomReply v stmt (Msg (cond lost (plain SUSPECT) (plain READ_ONLY)))
outside_room v stmt true = other_number v stmt SUSPECT Nothing refl
outside_room v stmt false = other_number v stmt READ_ONLY Nothing refl

outside_fine : (lost : Bool) → IsNoFailure (Msg (cond lost (plain SUSPECT) (plain READ_ONLY)))
outside_fine true = no_failure SUSPECT Nothing refl refl
outside_fine false = no_failure READ_ONLY Nothing refl refl

module _ (v : Shown) (db : Database) where
  pub unbuilt : (stmt : Stmt) → is_built stmt ≡ false → IsPlain stmt (Msg (plain NOT_BUILT)) → Decides v db stmt (now (plain NOT_BUILT))
  unbuilt stmt b simple opening current seen setting means =
      refuses_only opening opening.source current v seen stmt (AtOnce (Msg (plain NOT_BUILT))) NOT_BUILT Nothing refl refl refl refl setting simple (unbuilt_comes opening current seen (catalog v) setting.ordered setting.apart db means stmt b)

  pub create_outside : (name : List ℕ) (cols : List Column) → is_home db ≡ false → Decides v db (CreateTable name cols) (now (cond (is_lost (catalog v) db) (plain SUSPECT) (plain READ_ONLY)))
  create_outside name cols out opening current seen setting means =
      decides_only opening opening.source current v seen (CreateTable name cols) (AtOnce (Msg (cond (is_lost (catalog v) db) (plain SUSPECT) (plain READ_ONLY)))) setting refl tt (outside_room v (CreateTable name cols) (is_lost (catalog v) db)) (outside_fine (is_lost (catalog v) db)) (create_refused opening current seen (catalog v) setting.ordered setting.apart db means name cols out)

  pub change_outside : (stmt : Stmt) → is_change stmt ≡ true → is_home db ≡ false → Decides v db stmt (now (cond (is_lost (catalog v) db) (plain SUSPECT) (plain READ_ONLY)))
  change_outside stmt h out opening current seen setting means =
      decides_only opening opening.source current v seen stmt (AtOnce (Msg (cond (is_lost (catalog v) db) (plain SUSPECT) (plain READ_ONLY)))) setting refl (change_plain stmt (Msg (cond (is_lost (catalog v) db) (plain SUSPECT) (plain READ_ONLY))) h) (outside_room v stmt (is_lost (catalog v) db)) (outside_fine (is_lost (catalog v) db)) (change_refused opening current seen (catalog v) setting.ordered setting.apart db means stmt h out)

  -- in the source
  module _ (home : is_home db ≡ true) where
    home_means : (source current : List ℕ) → Means source (catalog v) current db → current ≡ source
    home_means source current means = go db home means
      where
        go : (d : Database) → is_home d ≡ true → Means source (catalog v) current d → current ≡ source
        go Source e m = eq_is current source m
        go Master e m = absurd (let x : false ≡ true = e in cc)
        go (Snap s) e m = absurd (let x : false ≡ true = e in cc)
        go Absent e m = absurd (let x : false ≡ true = e in cc)

    pub at_home : (stmt : Stmt) (d : Decision) → ((opening : Opening) (seen : Seen) → Setting opening opening.source v seen → IsDecision opening opening.source v seen stmt d) → Decides v db stmt d
    at_home stmt d h opening current seen setting means = subst (λ (c : List ℕ). IsDecision opening c v seen stmt d) (sym (home_means opening.source current means)) (h opening seen setting)

    pub bad_definition : (name : List ℕ) (cols : List Column) → (length cols == 0) ≡ true → Decides v db (CreateTable name cols) (now (plain BAD_DEFINITION))
    bad_definition name cols e = at_home (CreateTable name cols) (now (plain BAD_DEFINITION)) (λ opening seen setting.
        refuses_only opening opening.source opening.source v seen (CreateTable name cols) (AtOnce (Msg (plain BAD_DEFINITION))) BAD_DEFINITION Nothing refl refl refl refl setting tt (bad_comes opening opening.source seen _ refl name cols e))

  no_memory : (stmt : Stmt) → is_of_tables stmt ≡ true → IsPlain stmt (Msg (plain NO_MEMORY)) → (opening : Opening) (seen : Seen) → Setting opening opening.source v seen → IsDecision opening opening.source v seen stmt (now (plain NO_MEMORY))
  no_memory stmt of simple opening seen setting =
      refuses_only opening opening.source opening.source v seen stmt (AtOnce (Msg (plain NO_MEMORY))) NO_MEMORY Nothing refl refl refl refl setting simple (memory_comes opening opening.source seen (catalog v) setting.ordered setting.apart Source (bytes_same opening.source) stmt of refl)

  -- a decision in the source, or NO_MEMORY
  pub or_memory : (stmt : Stmt) → is_of_tables stmt ≡ true → IsPlain stmt (Msg (plain NO_MEMORY)) → is_home db ≡ true → (r : Result Decision NoMemory) (x : Decision) →
      IfOk r (λ d. (opening : Opening) (seen : Seen) → Setting opening opening.source v seen → IsDecision opening opening.source v seen stmt d) →
      MatchResult r (λ d. x ≡ d) (λ _. x ≡ now (plain NO_MEMORY)) → Decides v db stmt x
  or_memory stmt of simple home (Ok d) x h is = at_home home stmt x (λ opening seen setting. subst (λ (y : Decision). IsDecision opening opening.source v seen stmt y) (sym is) (h opening seen setting))
  or_memory stmt of simple home (Err e) x h is = at_home home stmt x (λ opening seen setting. subst (λ (y : Decision). IsDecision opening opening.source v seen stmt y) (sym is) (no_memory stmt of simple opening seen setting))

  pub same_decides : (stmt : Stmt) (d e : Decision) → d ≡ e → Decides v db stmt e → Decides v db stmt d
  same_decides stmt d e is h = subst (λ (x : Decision). Decides v db stmt x) (sym is) h

pub same_decision : (opening : Opening) (current : List ℕ) (v : Shown) (seen : Seen) (stmt : Stmt) (d e : Decision) → d ≡ e → IsDecision opening current v seen stmt e → IsDecision opening current v seen stmt d
same_decision opening current v seen stmt d e is h = subst (λ (x : Decision). IsDecision opening current v seen stmt x) (sym is) h

-- USE
module _ (v : Shown) (opening : Opening) (current : List ℕ) (seen : Seen) (setting : Setting opening opening.source v seen) (name : List ℕ) (db : Database) (means : Means opening.source (catalog v) name db) where
  pub enter_absent : is_there db ≡ false → IsDecision opening current v seen (UseDb name) (now (plain NO_DATABASE))
  enter_absent e = refuses_only opening opening.source current v seen (UseDb name) (AtOnce (Msg (plain NO_DATABASE))) NO_DATABASE Nothing refl refl refl refl setting tt (use_absent opening current seen (catalog v) setting.ordered setting.apart name db means e)

  pub enter_lost : is_there db ≡ true → is_lost (catalog v) db ≡ true → IsDecision opening current v seen (UseDb name) (now (plain SUSPECT))
  enter_lost e l = refuses_only opening opening.source current v seen (UseDb name) (AtOnce (Msg (plain SUSPECT))) SUSPECT Nothing refl refl refl refl setting tt (use_lost opening current seen (catalog v) setting.ordered setting.apart name db means e l)

  pub enters : is_there db ≡ true → is_lost (catalog v) db ≡ false → IsDecision opening current v seen (UseDb name) (record { answer = AtOnce Fine; edits = [] })
  enters e l = decides_only opening opening.source current v seen (UseDb name) (AtOnce Fine) setting refl tt tt tt (use_comes opening current seen (catalog v) setting.ordered setting.apart name db means e l)

-- SELECT
pub simple_select : (stmt : Stmt) (name : List ℕ) → IsSelect stmt name → IsPlain stmt (Msg (plain NO_MEMORY))
simple_select stmt name h = as_select (λ stmt name. IsPlain stmt (Msg (plain NO_MEMORY))) stmt name h tt

module _ (v : Shown) (db : Database) (s : SelectStmt) where
  pub see_lost : is_lost (catalog v) db ≡ true → Decides v db (Select s) (now (plain SUSPECT))
  see_lost l opening current seen setting means =
      refuses_only opening opening.source current v seen (Select s) (AtOnce (Msg (plain SUSPECT))) SUSPECT Nothing refl refl refl refl setting tt
      (select_lost opening current seen (catalog v) setting.ordered setting.apart db means s refl (out db l) (shot db l) l)
    where
      out : (d : Database) → is_lost (catalog v) d ≡ true → is_home d ≡ false
      out Source e = absurd (let x : false ≡ true = e in cc)
      out Master e = refl
      out (Snap s) e = refl
      out Absent e = refl

      shot : (d : Database) → is_lost (catalog v) d ≡ true → is_shot d ≡ true
      shot Source e = absurd (let x : false ≡ true = e in cc)
      shot Master e = absurd (let x : false ≡ true = e in cc)
      shot (Snap s) e = refl
      shot Absent e = absurd (let x : false ≡ true = e in cc)

  pub see_nowhere : is_home db ≡ false → is_shot db ≡ false → Decides v db (Select s) (now (plain NO_TABLE))
  see_nowhere h n opening current seen setting means =
      refuses_only opening opening.source current v seen (Select s) (AtOnce (Msg (plain NO_TABLE))) NO_TABLE Nothing refl refl refl refl setting tt
      (select_refused opening current seen (catalog v) setting.ordered setting.apart db means s refl h n)

pub broken : (v : Shown) (db : Database) (at : ℕ) → Decides v db (Broken at) (record { answer = AtOnce (Msg (at_place SYNTAX at)); edits = [] })
broken v db at opening current seen setting means =
    refuses_only opening opening.source current v seen (Broken at) (AtOnce (Msg (at_place SYNTAX at))) SYNTAX (Number at) refl refl refl refl setting tt (broken_comes opening current seen (catalog v) setting.ordered setting.apart db means at)

-- a statement of no kind that is built
pub other : (stmt : Stmt) → ((d : List ℕ) → stmt ≡ UseDb d → ⊥) → ((n : List ℕ) (cols : List Column) → stmt ≡ CreateTable n cols → ⊥) → ((i : InsertStmt) → stmt ≡ Insert i → ⊥) → ((s : SelectStmt) → stmt ≡ Select s → ⊥) → ((u : UpdateStmt) → stmt ≡ Update u → ⊥) → ((d : DeleteStmt) → stmt ≡ Delete d → ⊥)
    → ((snap : List ℕ) (files : List SnapFile) (of : List ℕ) → stmt ≡ CreateSnap snap files of → ⊥) → ((at : ℕ) → stmt ≡ Broken at → ⊥) → (is_built stmt ≡ false) × IsPlain stmt (Msg (plain NOT_BUILT))
other (UseDb d) a b c e f x g h = absurd (a d refl)
other (CreateTable n cols) a b c e f x g h = absurd (b n cols refl)
other (Insert i) a b c e f x g h = absurd (c i refl)
other (Select s) a b c e f x g h = absurd (e s refl)
other (Update u) a b c e f x g h = absurd (f u refl)
other (Delete d) a b c e f x g h = absurd (x d refl)
other (CreateSnap snap files of) a b c e f x g h = absurd (g snap files of refl)
other (Broken at) a b c e f x g h = absurd (h at refl)
other stmt a b c e f x g h = (refl, refl)

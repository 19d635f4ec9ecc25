-- What is decided of a statement before anything changes.
use Rattle.std.specs.Prelude.{ℕ, ◌≡◌, ◌≢◌, true, false, List, []}
use Rattle.page_base.specs.declared.numbers.SnapNo.{SnapNo}
use Rattle.plain_model.specs.declared.stmt.Stmt.{Stmt}
use Rattle.plain_model.specs.declared.stmt.Stmt.TheVariants.{Select, CreateSnap}
use Rattle.plain_model.specs.declared.stmt.SelectStmt.{SelectStmt}
use Rattle.plain_model.specs.declared.reply.Reply.{Reply}
use Rattle.plain_model.specs.declared.reply.Reply.TheVariants.{Msg}
use Rattle.plain_model.specs.declared.reply.TheConstants.Message.{NO_ROOM}
use Rattle.plain_model.specs.Journal.{Opening}
use Rattle.plain_model.specs.State.{master}
use Rattle.plain_model.specs.Next.{is_built}
use Rattle.early_pages.specs.Catalog.{Catalog, HasSnap, IsCatalog, snap_at}
use Rattle.early_pages.specs.Shown.{Shown, catalog}
use Rattle.table_pages.specs.declared.edit.Edit.{Edit}
use Rattle.table_pages.specs.Carried.{Carries}
use Rattle.early_engine.specs.declared.answer.Answer.{Answer}
use Rattle.early_engine.specs.declared.answer.Answer.TheVariants.{AtOnce}
use Rattle.early_engine.specs.declared.decision.Decision.{Decision}
use Rattle.early_engine.specs.declared.database.Database.{Database}
use Rattle.early_engine.specs.declared.database.Database.TheVariants.{Snap}
use Rattle.early_engine.specs.declared.course.Course.{Course}
use Rattle.early_engine.specs.declared.course.Course.TheVariants.{Answers, See, Cut}
use Rattle.early_engine.specs.Databases.{Means}
use Rattle.early_engine.specs.Pushing.{is_suspect, snaps_of}
use Rattle.early_engine.specs.Ready.{Seen, Comes, reply_of}
use Rattle.early_engine.specs.Stepping.{tables_after, IsPlain}
use Rattle.early_engine.specs.Causes.{IsRoomReply, IsNoFailure}

-- no snapshot has the name of the source or of `master`
abbrev pub AreApart : List ℕ → Catalog → Type 0
AreApart source cat = (s : SnapNo) → HasSnap cat s → ((snap_at cat s).name ≢ source) × ((snap_at cat s).name ≢ master)

-- the source of this name in these pages, which are these tables
pub record Setting (opening : Opening) (source : List ℕ) (v : Shown) (seen : Seen) : Type 0 where
  pub named : opening.source ≡ source
  pub ordered : IsCatalog (catalog v)
  pub apart : AreApart opening.source (catalog v)
  pub none : Carries v [] seen.source

-- what is answered at once edits nothing
abbrev pub IsStill : Answer → List Edit → Type 0
IsStill (AtOnce reply) edits = edits ≡ []
IsStill answer edits = Unit {0}

-- where there is no room nothing is edited
abbrev pub IsShort : Reply → List Edit → Type 0
IsShort (Msg m) edits = m.number ≡ NO_ROOM → edits ≡ []
IsShort reply edits = Unit {0}

-- the answer is what comes of the statement, with its cause, and the edits carry the tables to what the answer makes of them
pub record IsDecision (opening : Opening) (current : List ℕ) (v : Shown) (seen : Seen) (stmt : Stmt) (d : Decision) : Type 0 where
  pub comes : Comes opening current seen (snaps_of v) stmt d.answer
  pub simple : IsPlain stmt (reply_of d.answer)
  pub still : IsStill d.answer d.edits
  pub short : IsShort (reply_of d.answer) d.edits
  pub carries : Carries v d.edits (tables_after stmt (reply_of d.answer) seen.source)
  pub room : IsRoomReply v stmt (reply_of d.answer)
  pub fine : IsNoFailure (reply_of d.answer)

-- so it is for every session whose current database this is
abbrev pub Decides : Shown → Database → Stmt → Decision → Type 0
Decides v db stmt d = (opening : Opening) (current : List ℕ) (seen : Seen) → Setting opening opening.source v seen → Means opening.source (catalog v) current db → IsDecision opening current v seen stmt d

-- a SELECT from this table, in a snapshot that isn't suspect
pub record IsSeeing (opening : Opening) (current : List ℕ) (v : Shown) (stmt : Stmt) (s : SnapNo) (name : List ℕ) : Type 0 where
  pub select : SelectStmt
  pub is : stmt ≡ Select select
  pub table : select.table ≡ name
  pub built : is_built stmt ≡ true
  pub means : Means opening.source (catalog v) current (Snap s)
  pub sound : is_suspect (snap_at (catalog v) s).state ≡ false

abbrev pub IsCut : Stmt → Type 0
IsCut (CreateSnap snap files of) = Unit {0}
IsCut stmt = ⊥

-- what the engine does of the statement: it gives an answer, reads a snapshot, or cuts one
abbrev pub IsCourse : Opening → List ℕ → Shown → Seen → Stmt → Course → Type 0
IsCourse opening current v seen stmt (Answers d) = IsDecision opening current v seen stmt d
IsCourse opening current v seen stmt (See s name) = IsSeeing opening current v stmt s name
IsCourse opening current v seen stmt Cut = IsCut stmt

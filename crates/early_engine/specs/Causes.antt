-- Why a statement is answered that there is no room, or that the volume failed.
use Rattle.std.specs.Prelude.{ℕ, ◌≡◌, ◌≢◌, ◌<◌, Bool, false, ◌==◌, List, [], ◌∷◌, map}
use Rattle.std.specs.List.{list_any}
use Rattle.page_base.specs.declared.value.Value.{Value}
use Rattle.page_dev.specs.Faults.{Rose}
use Rattle.page_fmt.specs.Content.{content}
use Rattle.plain_model.specs.declared.stmt.Stmt.{Stmt}
use Rattle.plain_model.specs.declared.stmt.Stmt.TheVariants.{CreateTable, Insert, Update}
use Rattle.plain_model.specs.declared.reply.Reply.{Reply}
use Rattle.plain_model.specs.declared.reply.Reply.TheVariants.{Msg}
use Rattle.plain_model.specs.declared.event.Event.{Event}
use Rattle.plain_model.specs.declared.event.Event.TheVariants.{Said}
use Rattle.plain_model.specs.declared.reply.TheConstants.Message.{DATA_FAILED, FILE_FAILED, FILE_NOT_REMOVED, LOG_FAILED, NO_FRAME, NO_ROOM}
use Rattle.plain_model.specs.Statements.{data_over, table_named}
use Rattle.plain_model.specs.Tables.{Table, Put}
use Rattle.early_pages.specs.Shown.{Shown, img}
use Rattle.table_pages.specs.Layout.{place}
use Rattle.table_pages.specs.Carried.{data_pages, Holds, LacksPage}
use Rattle.table_pages.specs.Drafts as drafts

-- a page holds the table into which the statement puts these rows
pub record IsForRows (v : Shown) (stmt : Stmt) (at : ℕ) (rows : List (List Value)) : Type 0 where
  pub table : Table
  pub within : at < data_pages v
  pub holds : Holds (img v (place at)) (table_named stmt) table
  pub puts : (data_over stmt table).0 ≡ map (Put (table_named stmt)) rows

-- the page that holds the table has no room for the rows
abbrev pub LacksSpace : Shown → Stmt → Type 0
LacksSpace v stmt = (at : ℕ) × (rows : List (List Value)) × (h : IsForRows v stmt at rows) × drafts.LacksRoom h.table.cols [] rows (content (img v (place at)))

-- the page that holds the table has room for the rows
abbrev pub HasSpace : Shown → Stmt → Type 0
HasSpace v stmt = (at : ℕ) × (rows : List (List Value)) × (h : IsForRows v stmt at rows) × (drafts.LacksRoom h.table.cols [] rows (content (img v (place at))) → ⊥)

-- these pages have no room for what the statement makes
abbrev pub LacksRoom : Shown → Stmt → Type 0
LacksRoom v (CreateTable name cols) = LacksPage v name cols
LacksRoom v (Insert i) = LacksSpace v (Insert i)
LacksRoom v (Update u) = LacksSpace v (Update u)
LacksRoom v stmt = ⊥

-- these pages have room for what the statement makes
abbrev pub HasPlace : Shown → Stmt → Type 0
HasPlace v (CreateTable name cols) = LacksPage v name cols → ⊥
HasPlace v (Insert i) = HasSpace v (Insert i)
HasPlace v (Update u) = HasSpace v (Update u)
HasPlace v stmt = Unit {0}

-- over these pages NO_ROOM comes only where they have no room, and success only where they have it
abbrev pub IsRoomReply : Shown → Stmt → Reply → Type 0
IsRoomReply v stmt (Msg m) = m.number ≡ NO_ROOM → LacksRoom v stmt
IsRoomReply v stmt reply = HasPlace v stmt

-- where the reply says that there is no room, pages and snapshots are as they were
abbrev pub StaysShort : Shown → Shown → Reply → Type 0
StaysShort old new (Msg m) = m.number ≡ NO_ROOM → new ≡ old
StaysShort old new reply = Unit {0}

-- a message of devices that aren't there yet: a frame of the pool, the log, data files in files, the removal of a snapshot
abbrev pub is_early : ℕ → Bool
is_early number = list_any (λ n. n == number) (NO_FRAME ∷ LOG_FAILED ∷ DATA_FAILED ∷ FILE_NOT_REMOVED ∷ [])

-- FILE_FAILED comes only where the volume's count of faults rose, and messages of devices that aren't there yet never
abbrev pub IsVolumeReply : ℕ → ℕ → Reply → Type 0
IsVolumeReply before now (Msg m) = (is_early m.number ≡ false) × (m.number ≡ FILE_FAILED → Rose before now)
IsVolumeReply before now reply = Unit {0}

-- the event is a reply that the volume, or a file, failed
abbrev pub is_failure : Event → Bool
is_failure (Said who n began (Msg m)) = m.number == FILE_FAILED
is_failure event = false

-- the reply doesn't say that there is no room
abbrev pub IsNoShortage : Reply → Type 0
IsNoShortage (Msg m) = m.number ≢ NO_ROOM
IsNoShortage reply = Unit {0}

-- the reply doesn't say that the volume, or a device that isn't there yet, failed
abbrev pub IsNoFailure : Reply → Type 0
IsNoFailure (Msg m) = (is_early m.number ≡ false) × (m.number ≢ FILE_FAILED)
IsNoFailure reply = Unit {0}

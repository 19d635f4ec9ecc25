-- The trail of one session that reads a row, and trails that are no run's.
use Rattle.std.specs.Prelude.{true, false, List, [], ◌∷◌, codes}
use Rattle.page_base.specs.declared.numbers.Mode.TheVariants.{S}
use Rattle.page_base.specs.declared.numbers.SessNo.{SessNo}
use Rattle.plain_model.specs.declared.event.Event.{Event}
use Rattle.plain_model.specs.declared.event.Event.TheVariants.{Locked, Said, Left}
use Rattle.plain_model.specs.declared.event.LockName.TheVariants.{All, Table}
use Rattle.plain_model.specs.declared.kind.Kind.{Kind}
use Rattle.plain_model.specs.declared.kind.Kind.TheVariants.{Start, Lock, Latch, Fetch, Seek, Read, Commit, Say, Leave}
use Rattle.plain_model.specs.declared.reply.Reply.{Reply}
use Rattle.plain_model.specs.declared.reply.Reply.TheVariants.{Count, Msg}
use Rattle.plain_model.specs.declared.reply.TheConstants.Message.{LOCKED, LOG_FAILED}
use Rattle.plain_model.specs.Messages.{at_place}
use Rattle.step_trail.specs.Rose.{Risen}
use Rattle.step_trail.specs.Entries.{Entry, Step, Sizes}

-- one session over 8 pages, with 16 frames
abbrev pub small : Sizes
small = record { sessions = 1; pages = 8; frames = 16 }

abbrev pub none_rose : Risen
none_rose = record { log = false; files = false; volume = false; snaps = [] }

abbrev pub one : SessNo
one = record { 0 = 1 }

-- a step of session 1 that went, with these events
abbrev pub went : Kind → List Event → Entry
went kind events = Step (record { who = 1; kind = kind; went = true; events = events; rose = none_rose })

-- its one statement is answered so
abbrev pub said : Reply → Event
said reply = Said one 1 0 reply

-- the table of tables is locked and read, then the table; the reply is said, and the session leaves
abbrev pub reading : List Entry
reading =
    went Start [] ∷ went Lock (Locked one All S ∷ []) ∷ went Latch [] ∷ went Fetch [] ∷ went Seek [] ∷
    went Lock (Locked one (Table (codes "t")) S ∷ []) ∷ went Latch [] ∷ went Fetch [] ∷ went Read [] ∷
    went Say (said (Count 1) ∷ []) ∷ went Leave (Left one ∷ []) ∷ []

-- a page is brought in without its latch
abbrev pub unlatched : List Entry
unlatched = went Start [] ∷ went Lock (Locked one All S ∷ []) ∷ went Fetch [] ∷ []

-- a lock is refused, and the statement goes on
abbrev pub unended : List Entry
unended = went Start [] ∷ went Lock (said (Msg (at_place LOCKED 2)) ∷ []) ∷ went Latch [] ∷ went Fetch [] ∷ went Read [] ∷ []

-- the log is told to have failed, and no step names it
abbrev pub unfailed : List Entry
unfailed = went Start [] ∷ went Commit (said (Msg (at_place LOG_FAILED 1)) ∷ []) ∷ []

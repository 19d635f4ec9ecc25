-- Which trails a run may leave: each entry, beside those before it, is one that may come.
use Rattle.std.specs.Prelude.{ℕ, ◌≡◌, ◌≤◌, ◌<◌, Bool, true, false, ◌==◌, ◌&&◌, ◌||◌, not, if◌then◌else◌, List, [], ◌∷◌, ◌++◌, Option, Some, is_some}
use Rattle.std.specs.List.{AllByRecursion, list_any}
use Rattle.plain_model.specs.declared.event.Event.{Event}
use Rattle.plain_model.specs.declared.event.Event.TheVariants.{Locked, CutAt, RestoreAt, Turned, Said, Left}
use Rattle.plain_model.specs.declared.kind.Kind.{Kind}
use Rattle.plain_model.specs.declared.kind.Kind.TheVariants.{Start, Lock, Latch, Fetch, Pass, Copy, Mark, Back, Heal, Cut, Gather, Leave, Flush}
use Rattle.plain_model.specs.declared.reply.Reply.{Reply}
use Rattle.plain_model.specs.declared.reply.Reply.TheVariants.{Msg}
use Rattle.plain_model.specs.declared.reply.TheConstants.Message.{LOG_FAILED, DATA_FAILED, FILE_NOT_REMOVED, FILE_FAILED, NO_ROOM, NO_FRAME}
use Rattle.plain_model.specs.Complete.{closer}
use Rattle.plain_steps.specs.Events.{who_of}
use Rattle.step_trail.specs.Rose.{names_snap}
use Rattle.step_trail.specs.Kinds.{at_next, is_kind, follows_last, may_say}
use Rattle.step_trail.specs.Entries.{Did, Entry, Step, End, Sizes, book_of, last_kind, Phase, Between, Amid, Ending, phase_of, present, is_over, EachBehind}

-- whether a step of this kind may enter the event
abbrev pub enters : Kind → Event → Bool
enters kind (Locked who table mode) = is_kind Lock kind
enters kind (CutAt who snap) = is_kind Cut kind
enters kind (RestoreAt who snap) = is_kind Start kind
enters kind (Turned snap) = is_kind Fetch kind || (is_kind Copy kind || (is_kind Heal kind || is_kind Gather kind))
enters kind (Said who number began reply) = may_say kind
enters kind (Left who) = is_kind Leave kind

-- whether it is of the step's own session, or of a snapshot that the step names
abbrev pub is_own : Did → Event → Bool
is_own d (Turned snap) = names_snap d.rose snap
is_own d event = who_of event == d.who

-- a step that went may enter the event
pub record IsEntered (d : Did) (event : Event) : Type 0 where
  pub went : d.went ≡ true
  pub kind : enters d.kind event ≡ true
  pub own : is_own d event ≡ true

-- a reply or a leaving is the last event of its step
abbrev pub ends_well : List Event → Bool
ends_well [] = true
ends_well (e ∷ []) = true
ends_well (e ∷ f ∷ es) = not (is_some (closer e)) && ends_well (f ∷ es)

-- whether one of these steps cut a snapshot
abbrev pub is_cut : Event → Bool
is_cut (CutAt who snap) = true
is_cut event = false

abbrev pub has_cut : List Did → Bool
has_cut dids = list_any (λ (d : Did). list_any is_cut d.events) dids

-- What stands among the steps of a statement that is refused by this number: one that names the log, the data files, or the
-- volume, which stands for new files too; one that found an allocation page full. That no frame was free comes only where
-- there are more pages than frames.
pub record IsExplained (z : Sizes) (dids : List Did) (number : ℕ) : Type 0 where
  pub log : number ≡ LOG_FAILED → list_any (λ (d : Did). d.rose.log) dids ≡ true
  pub files : number ≡ DATA_FAILED → list_any (λ (d : Did). d.rose.files) dids ≡ true
  pub removed : number ≡ FILE_NOT_REMOVED → list_any (λ (d : Did). d.rose.volume) dids ≡ true
  pub made : number ≡ FILE_FAILED → has_cut dids ≡ false → list_any (λ (d : Did). d.rose.volume) dids ≡ true
  pub full : number ≡ NO_ROOM → list_any (λ (d : Did). is_kind Pass d.kind) dids ≡ true
  pub frames : number ≡ NO_FRAME → z.frames < z.pages

-- a reply has its cause among these steps
abbrev pub IsCausedBy : Sizes → List Did → Reply → Type 0
IsCausedBy z dids (Msg m) = IsExplained z dids m.number
IsCausedBy z dids reply = Unit {0}

abbrev pub IsCaused : Sizes → List Did → Event → Type 0
IsCaused z dids (Said who number began reply) = IsCausedBy z dids reply
IsCaused z dids event = Unit {0}

-- whether a kind fits a session's phase: a statement begins, and a session ends, between statements
abbrev pub fits_phase : Phase → Kind → Bool
fits_phase Between kind = list_any (is_kind kind) at_next
fits_phase Amid kind = not (is_kind Start kind) && not (is_kind Leave kind)
fits_phase Ending kind = list_any (is_kind kind) (Latch ∷ Copy ∷ Mark ∷ Back ∷ Leave ∷ [])

-- whether a step of this kind may come next: for the flusher, 0, its own; for a session one that may stand behind its last one
abbrev pub may_come : List Entry → ℕ → Kind → Bool
may_come before who kind = if who == 0 then is_kind Flush kind else follows_last (last_kind who before) kind && fits_phase (phase_of who before) kind

-- a step that may stand behind these entries
pub record IsStep (z : Sizes) (before : List Entry) (d : Did) : Type 0 where
  pub known : d.who ≤ z.sessions
  pub kind : may_come before d.who d.kind ≡ true
  -- a latch alone may be tried in vain
  pub busy : d.went ≡ false → d.kind ≡ Latch
  pub entered : AllByRecursion (IsEntered d) d.events
  pub last : ends_well d.events ≡ true
  -- with the steps of its statement, this one included, its reply has its cause
  pub causes : AllByRecursion (IsCaused z (present d.who before ++ d ∷ [])) d.events

-- an end of an entry of the schedule that may stand behind these entries: no step is left exactly where the session has left, or
-- for the flusher all have
pub record IsEnd (z : Sizes) (before : List Entry) (who : ℕ) (next : Option Kind) : Type 0 where
  pub known : who ≤ z.sessions
  pub left : is_some next ≡ not (is_over z.sessions who before)
  pub kind : (kind : Kind) → next ≡ Some kind → may_come before who kind ≡ true

abbrev pub IsEntry : Sizes → List Entry → Entry → Type 0
IsEntry z before (Step d) = IsStep z before d
IsEntry z before (End who next) = IsEnd z before who next

-- the entries may stand one behind the other, and their events are the history
pub record Walked (z : Sizes) (entries : List Entry) (book : List Event) : Type 0 where
  pub joined : book_of entries ≡ book
  pub each : EachBehind (IsEntry z) [] entries

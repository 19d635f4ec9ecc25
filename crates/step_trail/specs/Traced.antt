-- What a trail and the state of its engine have in common, and what one step has to show so that this goes on.
use Rattle.std.specs.Prelude.{ℕ, ◌≡◌, ◌≢◌, ◌⊎◌, true, false, List, [], ◌∷◌, ◌++◌, length, Option, Some, None, is_some}
use Rattle.std.specs.List.{AllByRecursion, list_any}
use Rattle.plain_model.specs.declared.event.Event.{Event}
use Rattle.plain_model.specs.declared.event.Event.TheVariants.{Said}
use Rattle.plain_model.specs.declared.kind.Kind.TheVariants as step
use Rattle.plain_model.specs.declared.reply.Message.{Message}
use Rattle.plain_model.specs.declared.reply.Reply.{Reply}
use Rattle.plain_model.specs.declared.reply.Reply.TheVariants.{Msg}
use Rattle.snap_pages.specs.Shown.{counts}
use Rattle.step_words.specs.declared.point.Point.TheVariants.{Start}
use Rattle.step_words.specs.Sittings.{stmt_at}
use Rattle.step_state.specs.Own.{is_gone}
use Rattle.step_state.specs.State.{State, IsSession, seat}
use Rattle.step_trail.specs.Counting.{all_pages}
use Rattle.step_trail.specs.Entries.{Did, Entry, Sizes, Phase, has_left, is_leaving, last_kind, next_phase, phase_of, present, says}
use Rattle.step_trail.specs.Next.{kind_of}
use Rattle.step_trail.specs.Reached.{IsReached, LeavesHeld, stands_in}
use Rattle.step_trail.specs.Walked.{IsEntered, IsExplained, Walked, ends_well}

-- the sizes of an engine's run, which no step changes
abbrev pub sizes_of : State → Sizes
sizes_of e = record { sessions = length e.seats; pages = all_pages (counts e.pages); frames = e.pages.pool.frames }

pub record IsTraced (z : Sizes) (e : State) (entries : List Entry) (k : ℕ) : Type 0 where
  pub left : has_left k entries ≡ is_gone (seat e k).sitting.point
  pub reached : IsReached e.pages (last_kind k entries) (phase_of k entries) (seat e k)
  -- a refusal that waits to be said has its cause among the steps of its statement
  pub met : (m : Message) → (seat e k).sitting.waiting ≡ Some (Msg m) → IsExplained z (present k entries) m.number

-- the trail is one of this engine's history, and tells of each session where it stands
pub record Traced (z : Sizes) (e : State) (entries : List Entry) : Type 0 where
  pub sized : z ≡ sizes_of e
  pub walked : Walked z entries e.events
  pub each : (k : ℕ) → IsSession e k → IsTraced z e entries k

-- a refusal that a step says has its cause in that step, or waited
abbrev pub IsSaidBy : Sizes → Did → Option Reply → Reply → Type 0
IsSaidBy z d waiting (Msg m) = IsExplained z (d ∷ []) m.number ⊎ (waiting ≡ Some (Msg m))
IsSaidBy z d waiting reply = Unit {0}

abbrev pub IsSaid : Sizes → Did → Option Reply → Event → Type 0
IsSaid z d waiting (Said who number began reply) = IsSaidBy z d waiting reply
IsSaid z d waiting event = Unit {0}

-- what a step of session k from e to s shows of its entry
pub record Traces (z : Sizes) (e s : State) (k : ℕ) (d : Did) : Type 0 where
  pub is : IsSession e k
  pub who : d.who ≡ k
  pub kind : kind_of e k ≡ Some d.kind
  pub entered : AllByRecursion (IsEntered d) d.events
  pub last : ends_well d.events ≡ true
  pub events : s.events ≡ e.events ++ d.events
  pub sized : sizes_of s ≡ sizes_of e
  -- where it found its page latched nothing changed
  pub vain : d.went ≡ false → (d.kind ≡ step.Latch) × (s.seats ≡ e.seats) × (s.pages ≡ e.pages)
  -- others stand as they stood, and what they hold is as it was
  pub others : (j : ℕ) → j ≢ k → (seat s j ≡ seat e j) × LeavesHeld e.pages s.pages (seat e j)
  -- it is gone exactly where it left
  pub left : is_gone (seat s k).sitting.point ≡ list_any (is_leaving k) d.events
  -- it has reached its new point, in whichever phase it was before
  pub reached : d.went ≡ true → (phase : Phase) → stands_in (seat e k).sitting.point (is_some (stmt_at (seat e k).sitting)) (seat e k).hold phase ≡ true → IsReached s.pages (Some d.kind) (next_phase phase d) (seat s k)
  -- a refusal that it says, or that it leaves to be said, has its cause in this step, or waited before
  pub said : AllByRecursion (IsSaid z d (seat e k).sitting.waiting) d.events
  pub waits : (m : Message) → (seat s k).sitting.waiting ≡ Some (Msg m) → (says d ≡ false) × (IsExplained z (d ∷ []) m.number ⊎ ((seat e k).sitting.waiting ≡ Some (Msg m)))

-- what a step of the flusher from e to s shows of its entry
pub record Flushes (e s : State) (d : Did) : Type 0 where
  pub who : d.who ≡ 0
  pub kind : d.kind ≡ step.Flush
  pub went : d.went ≡ true
  pub quiet : d.events ≡ []
  pub events : s.events ≡ e.events
  pub sized : sizes_of s ≡ sizes_of e
  pub seats : s.seats ≡ e.seats
  pub held : (j : ℕ) → LeavesHeld e.pages s.pages (seat e j)

-- before their first steps all sessions stand at their starts
pub record AreFresh (e : State) : Type 0 where
  pub events : e.events ≡ []
  pub starts : (k : ℕ) → IsSession e k → (seat e k).sitting.point ≡ Start
  pub empty : (k : ℕ) → IsSession e k → (seat e k).work.recs ≡ []
  pub calm : (k : ℕ) → IsSession e k → (seat e k).sitting.waiting ≡ None

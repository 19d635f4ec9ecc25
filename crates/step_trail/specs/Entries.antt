-- A trail: what each step of a run was, and what came next where an entry of the schedule was done.
use Rattle.std.specs.Prelude.{ℕ, Bool, true, false, ◌==◌, ◌&&◌, not, if◌then◌else◌, List, [], ◌∷◌, ◌++◌, Option, Some, None, fold, filter}
use Rattle.std.specs.List.{list_any, list_all, range_with_len}
use Rattle.plain_model.specs.declared.event.Event.{Event}
use Rattle.plain_model.specs.declared.event.Event.TheVariants.{Said, Left}
use Rattle.plain_model.specs.declared.kind.Kind.{Kind}
use Rattle.plain_model.specs.declared.kind.Kind.TheVariants.{Latch}
use Rattle.step_trail.specs.Rose.{Risen}
use Rattle.step_trail.specs.Kinds.{is_kind}

-- a step that was tried: whose, of which kind, whether it went or found its page latched, which events it entered in the
-- history, and which objects it names
pub record Did : Type 0 where
  pub who : ℕ
  pub kind : Kind
  pub went : Bool
  pub events : List Event
  pub rose : Risen

-- a step, or the end of an entry of the schedule: whose it was, and the kind of its next step, if it has one
pub data Entry : Type 0 where
  Step : (did : Did) → Entry
  End : (who : ℕ) (next : Option Kind) → Entry

-- how many sessions a run has, how many pages its data files have, and how many frames
pub record Sizes : Type 0 where
  pub sessions : ℕ
  pub pages : ℕ
  pub frames : ℕ

abbrev pub events_in : Entry → List Event
events_in (Step d) = d.events
events_in (End who next) = []

-- the events of the entries, joined in order
abbrev pub book_of : List Entry → List Event
book_of [] = []
book_of (e ∷ es) = events_in e ++ book_of es

abbrev pub is_reply : Event → Bool
is_reply (Said who number began reply) = true
is_reply event = false

abbrev pub is_leaving : ℕ → Event → Bool
is_leaving k (Left who) = who.0 == k
is_leaving k event = false

-- whether a step answered a statement
abbrev pub says : Did → Bool
says d = list_any is_reply d.events

-- whether the entries hold the session's leaving
abbrev pub has_left : ℕ → List Entry → Bool
has_left k entries = list_any (is_leaving k) (book_of entries)

-- the sessions that haven't left, in ascending order
abbrev pub staying : ℕ → List Entry → List ℕ
staying sessions entries = filter (λ k. not (has_left k entries)) (range_with_len 1 sessions)

-- whether a session has left; for 0, the flusher, whether all have
abbrev pub is_over : ℕ → ℕ → List Entry → Bool
is_over sessions who entries = if who == 0 then list_all (λ k. has_left k entries) (range_with_len 1 sessions) else has_left who entries

-- the kind of a session's last step that went
abbrev pub kind_after : ℕ → Option Kind → Entry → Option Kind
kind_after k last (Step d) = if d.went && d.who == k then Some d.kind else last
kind_after k last (End who next) = last

abbrev pub last_kind : ℕ → List Entry → Option Kind
last_kind k entries = fold (kind_after k) None entries

-- whether a session is between statements, amid one, or takes its transaction back at its end
pub data Phase : Type 0 where
  Between : Phase
  Amid : Phase
  Ending : Phase

-- an answer ends a statement; behind it any step but a latch begins the next one
abbrev pub next_phase : Phase → Did → Phase
next_phase Between d = if says d then Between else if is_kind Latch d.kind then Ending else Amid
next_phase Amid d = if says d then Between else Amid
next_phase Ending d = if says d then Between else Ending

abbrev pub phase_after : ℕ → Phase → Entry → Phase
phase_after k phase (Step d) = if d.went && d.who == k then next_phase phase d else phase
phase_after k phase (End who next) = phase

abbrev pub phase_of : ℕ → List Entry → Phase
phase_of k entries = fold (phase_after k) Between entries

-- the steps of a session's present statement: those behind the one that answered the statement before
abbrev pub present_after : ℕ → List Did → Entry → List Did
present_after k dids (Step d) = if d.who == k then (if says d then [] else dids ++ d ∷ []) else dids
present_after k dids (End who next) = dids

abbrev pub present : ℕ → List Entry → List Did
present k entries = fold (present_after k) [] entries

-- each entry of these has the property, beside those before it
abbrev pub EachBehind : (List Entry → Entry → Type 0) → List Entry → List Entry → Type 0
EachBehind P before [] = Unit {0}
EachBehind P before (e ∷ es) = P before e × EachBehind P (before ++ e ∷ []) es

-- Which history tells each session's statements out.
use Rattle.std.specs.Prelude.{ℕ, ◌+◌, ◌≡◌, ◌<◌, ◌≤◌, ◌==◌, All, if◌then◌else◌, List, [], ◌∷◌, ◌++◌, length, map, slice_index_or, Option, Some, None}
use Rattle.std.specs.List.{filter_map, range_with_len}
use Rattle.plain_model.specs.declared.stmt.Stmt.{Stmt}
use Rattle.plain_model.specs.declared.event.Event.{Event}
use Rattle.plain_model.specs.declared.event.Event.TheVariants.{Said, Left}

-- what an event tells of how far session k is: a statement of it was answered, by its number, or it left
pub data Mark : Type 0 where
  Answered : (number : ℕ) → Mark
  Gone : Mark

abbrev pub mark_of : ℕ → Event → Option Mark
mark_of k (Said who number began reply) = if who.0 == k then Some (Answered number) else None
mark_of k (Left who) = if who.0 == k then Some Gone else None
mark_of k _ = None

-- session k's statements were answered once each, in order, and then it left
abbrev pub IsToldOut : ℕ → List Stmt → List Event → Type 0
IsToldOut k script book = filter_map (mark_of k) book ≡ map Answered (range_with_len 1 (length script)) ++ Gone ∷ []

-- so it is of every session
abbrev pub Complete : List (List Stmt) → List Event → Type 0
Complete scripts book = (i : ℕ) → i < length scripts → IsToldOut (i + 1) (slice_index_or scripts i []) book

-- the session whose step an event ends: a statement of it was answered, or it left
abbrev pub closer : Event → Option ℕ
closer (Said who number began reply) = Some who.0
closer (Left who) = Some who.0
closer _ = None

-- the sessions in the order of the steps that they ended
abbrev pub closers : List Event → List ℕ
closers book = filter_map closer book

-- every session that was answered, or left, has a script
abbrev pub AreKnown : List (List Stmt) → List Event → Type 0
AreKnown scripts book = All (λ k. (1 ≤ k) × (k ≤ length scripts)) (closers book)

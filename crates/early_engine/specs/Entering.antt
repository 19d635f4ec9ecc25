-- The history with the room that is left for it.
use Rattle.std.specs.Prelude.{ℕ, ◌-◌, ◌++◌, ◌∷◌, [], List}
use Rattle.plain_model.specs.declared.event.Event.{Event}

-- the events so far, and for how many more there is room
pub record Kept : Type 0 where
  pub events : List Event
  pub room : ℕ

-- one event more
abbrev pub entered : Kept → Event → Kept
entered kept event = record { events = kept.events ++ event ∷ []; room = kept.room - 1 }

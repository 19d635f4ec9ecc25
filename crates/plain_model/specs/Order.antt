-- Whose statement is answered when: the order that a schedule gives.
use Rattle.std.specs.Prelude.{ℕ, ◌≡◌, ◌+◌, ◌-◌, nat_le, ◌&&◌, if◌then◌else◌, List, [], ◌∷◌, ◌++◌, length, map, replicate, slice_index_or, slice_set}
use Rattle.plain_model.specs.declared.stmt.Stmt.{Stmt}
use Rattle.plain_model.specs.declared.pick.Pick.{Pick}
use Rattle.plain_model.specs.declared.event.Event.{Event}
pub use Rattle.plain_model.specs.Complete.{closer, closers}

-- how many steps each session has: its statements and its leaving
abbrev pub steps : List (List Stmt) → List ℕ
steps scripts = map (λ script. length script + 1) scripts

-- the sessions from number k on, each as often as it has steps left
abbrev pub in_turn : ℕ → List ℕ → List ℕ
in_turn k [] = []
in_turn k (n ∷ ns) = replicate n k ++ in_turn (k + 1) ns

-- The order of steps by a schedule, where each session has so many left. An entry takes one step of its session, and
-- none where that has none left or the entry is the flusher's. Behind the schedule the lowest session that has steps
-- left takes them, then the next one.
abbrev pub order : List ℕ → List Pick → List ℕ
order left [] = in_turn 1 left
order left (pick ∷ picks) =
    let mine = slice_index_or left (pick.who - 1) 0 in
    if nat_le 1 pick.who && nat_le 1 mine then pick.who ∷ order (slice_set left (pick.who - 1) (mine - 1)) picks
    else order left picks

-- the history goes in the order that the schedule gives
abbrev pub IsInOrder : List (List Stmt) → List Pick → List Event → Type 0
IsInOrder scripts picks book = closers book ≡ order (steps scripts) picks

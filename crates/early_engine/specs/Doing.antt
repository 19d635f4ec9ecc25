-- What a statement that isn't a CREATE DATABASE leaves of the pages, the snapshots and the history.
use Rattle.std.specs.Prelude.{ℕ, ◌≡◌, ◌+◌, List, ◌++◌, length}
use Rattle.std.specs.List.{AllByRecursion}
use Rattle.page_base.specs.declared.numbers.PageId.{PageId}
use Rattle.page_fmt.specs.Content.{IsPage}
use Rattle.plain_model.specs.declared.event.Event.{Event}
use Rattle.early_pages.specs.Shown.{Shown, img}
use Rattle.early_engine.specs.declared.answer.Answer.{Answer}
use Rattle.early_engine.specs.Entering.{Kept}
use Rattle.early_engine.specs.Pushing.{snaps_of, sound, Leaves, IsTurn, Turns}
use Rattle.early_engine.specs.Stepping.{statement_events, Moves}

-- the statement's events have come, with the turns of snapshots among them
pub record Does (k n : ℕ) (answer : Answer) (kept kept' : Kept) (old new : Shown) : Type 0 where
  pub leaves : Leaves old new
  pub turned : List Event
  pub moves : Moves turned (snaps_of old) (snaps_of new)
  pub each : AllByRecursion (IsTurn old new) turned
  pub events : kept'.events ≡ kept.events ++ statement_events k n (length kept.events) answer turned
  pub room : kept'.room + length (statement_events k n (length kept.events) answer turned) ≡ kept.room
  pub fewer : length turned + sound new ≡ sound old

-- source pages changed, with the turns that this entered in the history; all snapshots show what they showed
pub record Edits (old new : Shown) (kept kept' : Kept) : Type 0 where
  pub leaves : Leaves old new
  pub turns : Turns kept kept' old new
  pub pages : (p : PageId) → IsPage (img new p)

use Rattle.std.proofs.Common.{◌≢◌, ◌≤◌}
use Rattle.early_pages.specs.declared.state.SnapState.TheVariants.{Suspect}
use Rattle.early_pages.specs.Shown.{state_of}
use Rattle.early_pages.specs.Slots.{slots_of}
use Rattle.early_pages.specs.Views.{view, IsKept}
use Rattle.table_pages.specs.Layout.{Passed}
use Rattle.early_engine.specs.Pushing.{Pushes, Turns, sound}
use Rattle.early_engine.proofs.seeing.search.Given as goal

abbrev pub invariant-loop-i : goal.invariant-loop-i
invariant-loop-i g l = record {
  pushes : Pushes l.fn.pages l.pages;
  turns : Turns l.fn.ledger l.ledger l.fn.pages l.pages;
  room : sound l.pages ≤ l.ledger.room;
  sound : state_of l.pages l.s ≢ Suspect;
  passed : IsKept l.pages l.s → Passed (slots_of (view l.pages l.s)) l.i l.name;
}

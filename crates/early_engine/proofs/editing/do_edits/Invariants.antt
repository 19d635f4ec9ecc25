use Rattle.std.proofs.Common.{◌≡◌, ◌≤◌, drop, []}
use Rattle.table_pages.specs.Carried.{Carries}
use Rattle.early_engine.specs.Pushing.{sound}
use Rattle.early_engine.specs.Doing.{Edits}
use Rattle.early_engine.proofs.editing.do_edits.Given as goal

abbrev pub invariant-loop-edit : goal.invariant-loop-edit
invariant-loop-edit g l = record {
  edits : Edits l.fn.pages l.pages l.fn.ledger l.ledger;
  plan : Carries l.pages (drop l.edit-index l.edit-items) g.tables;
  still : l.edits ≡ [] → l.pages ≡ l.fn.pages;
  room : sound l.pages ≤ l.ledger.room;
}

use Rattle.std.proofs.Common.{◌≡◌, length}
use Rattle.table_heap.specs.Turns.{Marks}
use Rattle.table_heap.proofs.TurnLemmas.{AreMarked}
use Rattle.table_heap.proofs.turns.in_turn.Given as goal

abbrev pub invariant-loop-i : goal.invariant-loop-i
invariant-loop-i l = record {
  marks : Marks l.marked.items l.order.items;
  size : length l.marked.items ≡ l.count;
}

abbrev pub invariant-loop-i-2 : goal.invariant-loop-i-2
invariant-loop-i-2 l = record {
  marks : Marks l.marked.items l.order.items;
  size : length l.marked.items ≡ l.count;
  all : AreMarked l.marked.items l.i;
}

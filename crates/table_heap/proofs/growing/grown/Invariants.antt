use Rattle.std.proofs.Common.{[]}
use Rattle.table_walk.specs.declared.plan.Spot.TheVariants.{Old}
use Rattle.table_heap.specs.Growth.{IsGrowing}
use Rattle.table_heap.proofs.growing.grown.Given as goal

abbrev pub invariant-loop : goal.invariant-loop
invariant-loop l = IsGrowing (Old l.fn.last) l.slots l.counter [] l.growth

-- In the empty book nobody holds a page.
use Rattle.std.proofs.Common.{refl}
use Rattle.latch_book.specs.Latches.{no_latches}
use Rattle.latch_book.proofs.LatchLemmas.{IsLatchBook-no_latches, latch_of-no_latches}
use Rattle.latch_book.proofs.book.LatchBook.new.Goals as goal

pub invariant_of-result : goal.invariant_of-result
unfolding no_latches
invariant_of-result c = IsLatchBook-no_latches

pub returns-clause-is : goal.returns-clause-is
unfolding no_latches
returns-clause-is c = refl

pub returns-clause-book : goal.returns-clause-book
unfolding no_latches
returns-clause-book c = IsLatchBook-no_latches

pub returns-clause-none : goal.returns-clause-none
unfolding no_latches
returns-clause-none c = latch_of-no_latches

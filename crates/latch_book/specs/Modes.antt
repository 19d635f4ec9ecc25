-- Which two latches conflict.
use Rattle.std.specs.Prelude.{Bool, true, false}
use Rattle.latch_book.specs.declared.latch.LatchMode.{LatchMode}
use Rattle.latch_book.specs.declared.latch.LatchMode.TheVariants.{Sh, Ex}

-- two sessions can't hold one page in these modes: only readers stand beside each other
abbrev pub conflicts : LatchMode → LatchMode → Bool
conflicts Sh Sh = false
conflicts Sh Ex = true
conflicts Ex Sh = true
conflicts Ex Ex = true

-- What the search for a conflict asks of each place.
use Rattle.std.specs.Prelude.{Bool, false, ◌&&◌, Option, None, Some}
use Rattle.page_base.specs.declared.numbers.PageId.{PageId}
use Rattle.page_base.specs.Pages.{is_page}
use Rattle.latch_book.specs.declared.latch.Latch.{Latch}
use Rattle.latch_book.specs.declared.latch.LatchMode.{LatchMode}
use Rattle.latch_book.specs.Modes.{conflicts}

-- a latch on this page that conflicts with the mode
abbrev pub blocks : Option Latch → PageId → LatchMode → Bool
blocks None p mode = false
blocks (Some latch) p mode = is_page latch.page p && conflicts latch.mode mode

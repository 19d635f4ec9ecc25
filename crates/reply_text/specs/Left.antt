-- The lines that are left to read.
use Rattle.std.specs.Prelude.{ℕ, List}
use Rattle.reply_text.specs.declared.lines.Lines.{Lines}
use Rattle.reply_text.specs.Lines.{lines_of}

unfoldable pub left : Lines → List (List ℕ)
left lines = lines_of lines.rest.now

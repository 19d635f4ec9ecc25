-- The lines that are left to read.
use Rattle.std.specs.Prelude.{ℕ, List}
use Rattle.script_read.specs.declared.reader.Reader.{Reader}
use Rattle.script_read.specs.Lines.{lines_in}

unfoldable pub left : Reader → List (List ℕ)
left r = lines_in r.rest.now

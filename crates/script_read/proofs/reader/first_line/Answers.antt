use Rattle.std.proofs.Common.{◌≡◌, ◌∷◌, ◌+◌, List, ℕ, take, drop, sym, ap, ◌∙◌}
use Rattle.script_read.specs.Lines.{lines_in}
use Rattle.script_read.proofs.LineLemmas.{line_len, parts}
use Rattle.script_read.proofs.reader.first_line.Goals as goal

pub returns : goal.returns
returns c =
    let text : List ℕ = c.args.text.now in
    let whole : lines_in text ≡ take (line_len text) text ∷ lines_in (drop (line_len text + 1) text) = parts text c.requires in
    rw c.line_len.ensures.value (whole ∙ ap (λ (ls : List (List ℕ)). take (line_len text) text ∷ ls) (sym (ap (drop 1) whole)))

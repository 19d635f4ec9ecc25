use Rattle.std.proofs.Common.{◌≡◌, ◌∙◌, ◌+◌, ◌-◌, List, ℕ, take, drop, length, ap, refl}
use Rattle.std.proofs.lemmas.List.{take_rest}
use Rattle.script_read.specs.Lines.{lines_in}
use Rattle.script_read.proofs.LineLemmas.{line_len, behind}
use Rattle.script_read.proofs.reader.behind_line.Goals as goal

pub returns-clause-lines : goal.returns-clause-lines
returns-clause-lines c =
    let n : ℕ = c.second_place.result in
    let text : List ℕ = c.args.text.now in
    ap lines_in (take_rest text n ∙ ap (λ k. drop k text) c.second_place.ensures.value) ∙ (behind text (line_len text) refl c.requires.whole c.requires.some).lines

pub returns-clause-whole : goal.returns-clause-whole
returns-clause-whole c =
    let n : ℕ = c.second_place.result in
    let text : List ℕ = c.args.text.now in
    let same : take (length text - n) (drop n text) ≡ drop (line_len text + 1) text = take_rest text n ∙ ap (λ k. drop k text) c.second_place.ensures.value in
    rw same (behind text (line_len text) refl c.requires.whole c.requires.some).whole

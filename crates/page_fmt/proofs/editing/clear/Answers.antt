use Rattle.std.proofs.Common.{◌≤◌, length, set, [], ap, ◌∙◌, arith}
use Rattle.page_fmt.specs.Spelling.{used}
use Rattle.page_fmt.specs.Content.{content}
use Rattle.page_fmt.specs.Edits.{trimmed}
use Rattle.page_fmt.proofs.SpellingLemmas.{length-spell}
use Rattle.page_fmt.proofs.SetLemmas.{used-set, spelled_of, content_of, cut_page}
use Rattle.page_fmt.proofs.editing.clear.Goals as goal

pub replace-requires-clause-room : goal.replace-requires-clause-room
replace-requires-clause-room c = omega (arith, used-set (content c.args.page.now) c.args.i [] c.requires.index, c.requires.page.small)

pub full_count-left-requires : goal.full_count-left-requires
full_count-left-requires c =
    spelled_of c.replace.new.page (set (content c.args.page.now) c.args.i []) c.replace.ensures (omega (arith, used-set (content c.args.page.now) c.args.i [] c.requires.index, c.requires.page.small))

pub write_number-requires : goal.write_number-requires
write_number-requires c =
    omega (arith, ap length c.replace.ensures, length-spell (set (content c.args.page.now) c.args.i []) (omega (arith, used-set (content c.args.page.now) c.args.i [] c.requires.index, c.requires.page.small)))

pub returns : goal.returns
returns c =
    let small : used (set (content c.args.page.now) c.args.i []) ≤ 8192 = omega (arith, used-set (content c.args.page.now) c.args.i [] c.requires.index, c.requires.page.small) in
    cut_page c.replace.new.page _ (set (content c.args.page.now) c.args.i []) c.full_count-left.result c.replace.ensures small
    (c.full_count-left.ensures ∙ ap (λ s. length (trimmed s)) (content_of c.replace.new.page (set (content c.args.page.now) c.args.i []) c.replace.ensures small)) c.write_number.ensures

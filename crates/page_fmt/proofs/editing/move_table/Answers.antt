use Rattle.std.proofs.Common.{◌≡◌, ◌-◌, ◌++◌, length, ap, ◌∙◌}
use Rattle.page_fmt.specs.Spelling.{table}
use Rattle.page_fmt.proofs.SpellingLemmas.{length-table}
use Rattle.page_fmt.proofs.PutLemmas.{mid_read, mid_written}
use Rattle.page_fmt.proofs.editing.move_table.Goals as goal

pub returns : goal.returns
returns c = λ front os back e f g.
    let k : length (table os) ≡ c.args.to - c.args.from = length-table os ∙ g in
    mid_written c.args.page.now front (table os) back c.move_offsets.new.bytes c.args.from (c.args.to - c.args.from) e f k
    ∙ ap (λ t. front ++ (t ++ back)) (c.move_offsets.ensures os (mid_read c.args.page.now front (table os) back c.args.from (c.args.to - c.args.from) e f k))

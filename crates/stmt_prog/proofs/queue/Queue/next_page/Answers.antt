use Rattle.std.proofs.Common.{◌≡◌, ◌<◌, length, ap, ◌∙◌, arith}
use Rattle.stmt_prog.proofs.WriteLemmas.{here_below, spot_below}
use Rattle.stmt_prog.proofs.queue.Queue.next_page.Goals as goal

pub place-requires : goal.place-requires
place-requires c =
    let q = c.args.self.now in
    let n = length c.as_slice.result.now in
    let many : n ≡ length q.owners.items = ap length c.as_slice.ensures.value ∙ c.requires.taken in
    let lt : q.done < length q.edits.items = omega (arith, c.if-len-self.false, c.len.ensures, q.edits.ok.0) in
    spot_below n q.told q.done c.index.result.now (here_below q n c.index.result.now c.requires.queue.below many lt c.index.ensures)

use Rattle.std.proofs.Common.{◌≡◌, length, ap, ◌∙◌, rules}
use Rattle.stmt_prog.proofs.WriteLemmas.{here_plain, here_told, here_other}
use Rattle.stmt_prog.proofs.queue.Queue.next.Goals as goal

pub spelled-requires : goal.spelled-requires
spelled-requires c =
    let q = c.args.self.now in
    let many : length c.as_slice-taken.result.now ≡ length q.owners.items = ap length c.as_slice-taken.ensures.value ∙ c.requires.taken in
    here_plain q (length c.as_slice-taken.result.now) c.index-edit.result.now c.requires.queue.below many c.requires.some c.index-edit.ensures c.in-None.is

pub told-requires-clause-below : goal.told-requires-clause-below
told-requires-clause-below c =
    let q = c.args.self.now in
    let many : length c.as_slice-taken.result.now ≡ length q.owners.items = ap length c.as_slice-taken.ensures.value ∙ c.requires.taken in
    let at : q.done ≡ c.in-Some.telling.at = search rules in
    here_told q (length c.as_slice-taken.result.now) c.index-edit.result.now c.requires.queue.below many c.requires.some c.index-edit.ensures c.in-Some.telling c.in-Some.is at

pub spelled-requires-in-Some : goal.spelled-requires-in-Some
spelled-requires-in-Some c =
    let q = c.args.self.now in
    let many : length c.as_slice-taken.result.now ≡ length q.owners.items = ap length c.as_slice-taken.ensures.value ∙ c.requires.taken in
    here_other q (length c.as_slice-taken.result.now) c.index-edit.result.now c.requires.queue.below many c.requires.some c.index-edit.ensures c.in-Some.telling c.in-Some.is (search rules)

use Rattle.std.proofs.Common.{◌≤◌, length, length-append, arith}
use Rattle.script_read.proofs.LineLemmas.{length-without_returns}
use Rattle.script_read.proofs.reader.text_of.Goals as goal
use Rattle.script_read.proofs.reader.text_of.Goals.{then-lacks_end+in_ok-push, else-lacks_end}

pub returns-clause-short : goal.returns-clause-short
returns-clause-short c =
    let few : length c.in_ok-text.text.items ≤ length c.args.bytes.now = rw c.in_ok-text.ensures (length-without_returns c.args.bytes.now) in
    elim c.if-lacks_end.branch [
      | then-lacks_end+in_ok-push w ↦ (rw (w.text-is, w.in_ok-push.ensures.items) (simp length-append (omega arith)))
      | else-lacks_end w ↦ (rw w.text-is (omega arith))
    ]

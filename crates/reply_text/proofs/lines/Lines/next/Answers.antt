use Rattle.std.proofs.Common.{◌≡◌, ◌<◌, ◌≤◌, length, false, ◌==◌, sym, ◌∙◌, arith}
use Rattle.std.proofs.lemmas.Bool.Decides.{nat_tests}
use Rattle.reply_text.specs.Left.{left}
use Rattle.reply_text.specs.Lines.{line_len}
use Rattle.reply_text.proofs.LineLemmas.{parts, line_some, some_of}
use Rattle.reply_text.proofs.lines.Lines.next.Goals as goal

pub invariant_of-self : goal.invariant_of-self
invariant_of-self c =
    let rest = c.args.self.now.rest.now in
    let some : 1 ≤ line_len rest = line_some rest (some_of rest (sym c.is_empty.ensures ∙ c.if-is_empty.false)) in
    record { counted = omega (arith, some, c.line_len.ensures.value, c.split_at.ensures.back_len, c.args.self.now.counted) }

pub returns-clause-lines : goal.returns-clause-lines
unfolding left
returns-clause-lines c =
    let rest = c.args.self.now.rest.now in
    rw (c.split_at.ensures.front, c.split_at.ensures.back, c.line_len.ensures.value) (parts rest (some_of rest (sym c.is_empty.ensures ∙ c.if-is_empty.false)))

use Rattle.std.proofs.Common.{arith, rules, ◌≤◌, length}
use Rattle.stmt_prog.proofs.WriteLemmas.{need_is, need_none}
use Rattle.stmt_prog.proofs.queue.Queue.need.Goals as goal

pub returns-in-Some : goal.returns-in-Some
returns-in-Some c = need_is c.args.self.now c.in-Some.page (omega (arith, c.if-len.false, c.len.ensures, c.len-2.ensures, c.args.self.now.owners.ok.0, c.args.self.now.taken.ok.0)) c.in-Some.ensures.there c.in-Some.ensures.some

pub returns-in-None : goal.returns-in-None
returns-in-None c =
    let none : length c.args.self.now.edits.items ≤ c.args.self.now.done = search rules in
    need_none c.args.self.now (omega (arith, c.if-len.false, c.len.ensures, c.len-2.ensures, c.args.self.now.owners.ok.0, c.args.self.now.taken.ok.0)) none

use Rattle.std.proofs.Common.{◌≡◌, ap, sym, ◌∙◌, length, arith}
use Rattle.step_words.specs.Courses.{Course}
use Rattle.stmt_prog.specs.States.{course_of}
use Rattle.stmt_prog.specs.declared.state.State.TheVariants.{Writing}
use Rattle.stmt_prog.proofs.WriteLemmas.{many_left}
use Rattle.stmt_prog.proofs.prog.Prog.to_come.Goals as goal

pub returns-in-Writing : goal.returns-in-Writing
returns-in-Writing c =
    let w = c.in-Writing in
    let is : course_of c.self.inside.head (Writing w.desc w.queue w.reply) ≡ c.args.self.now = ap (course_of c.self.inside.head) (sym w.is) ∙ c.self.view_is in
    omega (arith, ap (λ (x : Course). length x.owners) is, ap (λ (x : Course). length x.taken) is, ap (λ (x : Course). length x.edits) is, many_left w.queue)

use Rattle.std.proofs.Common.{◌≡◌, ap, sym, ◌∙◌}
use Rattle.table_walk.proofs.Exits.{if_ok}
use Rattle.step_words.specs.Courses.{Course}
use Rattle.stmt_prog.specs.States.{course_of}
use Rattle.stmt_prog.specs.declared.state.State.TheVariants.{Writing}
use Rattle.stmt_prog.proofs.WriteLemmas.{next_is, some_left}
use Rattle.stmt_prog.proofs.prog.Prog.edit.Goals as goal

pub next-requires-clause-some : goal.next-requires-clause-some
next-requires-clause-some c =
    let w = c.in-Writing in
    let is : course_of c.self.inside.head (Writing w.desc w.queue w.reply) ≡ c.args.self.now = ap (course_of c.self.inside.head) (sym w.is) ∙ c.self.view_is in
    some_left w.queue (ap (λ (x : Course). x.stage) is ∙ c.requires)

pub returns : goal.returns
returns c =
    let w = c.in-Writing in
    let is : course_of c.self.inside.head (Writing w.desc w.queue w.reply) ≡ c.args.self.now = ap (course_of c.self.inside.head) (sym w.is) ∙ c.self.view_is in
    if_ok c.next.result (λ e spells. next_is w.queue c.args.self.now e (sym (ap (λ (x : Course). x.edits) is)) (sym (ap (λ (x : Course). x.taken) is)) spells) c.next.ensures

use Rattle.std.proofs.Common.{subst, arith, ◌≡◌, ap, sym, ◌∙◌, refl}
use Rattle.step_words.specs.Courses.{Course}
use Rattle.stmt_prog.specs.Feeding.{edited}
use Rattle.stmt_prog.specs.States.{course_of, IsState}
use Rattle.stmt_prog.specs.declared.state.State.TheVariants.{Writing}
use Rattle.stmt_prog.proofs.WriteLemmas.{edited_is, some_left}
use Rattle.stmt_prog.proofs.prog.Prog.edited.Goals as goal

pub returns : goal.returns
returns c =
    let w = c.in-Writing in
    let is : course_of c.self.inside.head (Writing w.desc w.queue w.reply) ≡ c.args.self = ap (course_of c.self.inside.head) (sym w.is) ∙ c.self.view_is in
    edited_is c.self.inside.head w.desc w.queue (record { owners = w.queue.owners; taken = w.queue.taken; edits = w.queue.edits; done = _; told = w.queue.told }) w.reply (ap (λ (x : Course). x.stage) is ∙ c.requires) refl refl refl refl refl ∙ ap edited is

pub invariant_of-result : goal.invariant_of-result
invariant_of-result c =
    let w = c.in-Writing in
    let h = c.self.inside.head in
    let s : IsState h (Writing w.desc w.queue w.reply) = subst (IsState h) w.is c.self.invariant in
    let is : course_of h (Writing w.desc w.queue w.reply) ≡ c.args.self = ap (course_of h) (sym w.is) ∙ c.self.view_is in
    (s.0, record { taken = s.1.taken; done = omega (arith, some_left w.queue (ap (λ (x : Course). x.stage) is ∙ c.requires)); below = s.1.below; small = s.1.small; told = s.1.told })

use Rattle.std.proofs.Common.{◌≡◌, ap, sym, ◌∙◌, subst}
use Rattle.std.specs.Prelude.{IfErr}
use Rattle.step_words.specs.Courses.{Course}
use Rattle.stmt_prog.specs.Feeding.{OverEach}
use Rattle.stmt_prog.specs.Refusing.{IfSaid}
use Rattle.stmt_prog.specs.States.{course_of}
use Rattle.stmt_prog.specs.declared.state.State.TheVariants.{Planning, Defining}
use Rattle.stmt_prog.proofs.prog.Prog.plan.Goals as goal

pub returns-then-drops-clause-refused : goal.returns-then-drops-clause-refused
returns-then-drops-clause-refused c =
    let w = c.in-Planning in
    let is : course_of c.self.inside.head (Planning w.zero w.desc w.own) ≡ c.args.self = ap (course_of c.self.inside.head) (sym w.is) ∙ c.self.view_is in
    subst (λ (x : Course). IfErr c.gone.result (IfSaid (λ m. OverEach x (λ tables. ⊥)))) is c.gone.ensures.damaged

pub returns-else-drops-clause-refused : goal.returns-else-drops-clause-refused
returns-else-drops-clause-refused c =
    let w = c.in-Planning in
    let is : course_of c.self.inside.head (Planning w.zero w.desc w.own) ≡ c.args.self = ap (course_of c.self.inside.head) (sym w.is) ∙ c.self.view_is in
    subst (λ (x : Course). IfErr c.planned.result (IfSaid (λ m. OverEach x (λ tables. ⊥)))) is c.planned.ensures.damaged

pub returns-in-Defining-clause-refused : goal.returns-in-Defining-clause-refused
returns-in-Defining-clause-refused c =
    let w = c.in-Defining in
    let is : course_of c.self.inside.head (Defining w.zero w.number) ≡ c.args.self = ap (course_of c.self.inside.head) (sym w.is) ∙ c.self.view_is in
    subst (λ (x : Course). IfErr c.made.result (IfSaid (λ m. OverEach x (λ tables. ⊥)))) is c.made.ensures.damaged

use Rattle.std.proofs.Common.{◌≡◌, ap, sym, ◌∙◌, subst}
use Rattle.std.specs.Prelude.{Some, IfErr}
use Rattle.page_fmt.specs.Content.{content}
use Rattle.plain_model.specs.Meaning.{shape}
use Rattle.step_words.specs.Courses.{Course}
use Rattle.stmt_prog.specs.Feeding.{read, OverEach}
use Rattle.stmt_prog.specs.Refusing.{IfSaid}
use Rattle.stmt_prog.specs.States.{course_of}
use Rattle.stmt_prog.specs.declared.state.State.TheVariants.{ScanZero, ScanOwn}
use Rattle.table_walk.proofs.Exits.{if_ok}
use Rattle.stmt_prog.proofs.FeedLemmas.{takes_stmt}
use Rattle.stmt_prog.proofs.prog.Prog.take.Goals as goal

pub returns-in-ScanZero-clause-refused : goal.returns-in-ScanZero-clause-refused
returns-in-ScanZero-clause-refused c =
    let is : course_of c.self.inside.head (ScanZero c.in-ScanZero.zero) ≡ c.args.self = ap (course_of c.self.inside.head) (sym c.in-ScanZero.is) ∙ c.self.view_is in
    subst (λ (x : Course). IfErr c.read_zero.result (IfSaid (λ m. OverEach (read (content c.args.image.now) x) (λ tables. shape x.stmt tables ≡ Some m)))) is c.read_zero.ensures.refused

pub returns-in-ScanOwn-clause-refused : goal.returns-in-ScanOwn-clause-refused
returns-in-ScanOwn-clause-refused c =
    let w = c.in-ScanOwn in
    let is : course_of c.self.inside.head (ScanOwn w.zero w.desc w.own) ≡ c.args.self = ap (course_of c.self.inside.head) (sym w.is) ∙ c.self.view_is in
    subst (λ (x : Course). IfErr c.read_own.result (IfSaid (λ m. OverEach (read (content c.args.image.now) x) (λ tables. shape x.stmt tables ≡ Some m)))) is c.read_own.ensures.refused

pub returns-in-ScanZero-clause-lent : goal.returns-in-ScanZero-clause-lent
returns-in-ScanZero-clause-lent c =
    let old : Course = course_of c.self.inside.head (ScanZero c.in-ScanZero.zero) in
    let is : old ≡ c.args.self = ap (course_of c.self.inside.head) (sym c.in-ScanZero.is) ∙ c.self.view_is in
    if_ok c.read_zero.result (λ p takes. takes_stmt old p (content c.args.image.now) takes ∙ ap (λ (x : Course). x.stmt) is) c.read_zero.ensures.takes

pub returns-in-ScanOwn-clause-lent : goal.returns-in-ScanOwn-clause-lent
returns-in-ScanOwn-clause-lent c =
    let w = c.in-ScanOwn in
    let old : Course = course_of c.self.inside.head (ScanOwn w.zero w.desc w.own) in
    let is : old ≡ c.args.self = ap (course_of c.self.inside.head) (sym w.is) ∙ c.self.view_is in
    if_ok c.read_own.result (λ p takes. takes_stmt old p (content c.args.image.now) takes ∙ ap (λ (x : Course). x.stmt) is) c.read_own.ensures.takes

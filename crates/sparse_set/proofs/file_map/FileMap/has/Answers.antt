use Rattle.std.proofs.Common.{ap, sym, ◌∙◌}
use Rattle.sparse_set.specs.Words.{has}
use Rattle.sparse_set.specs.Groups.{marked_in}
use Rattle.sparse_set.proofs.WordLemmas.{marks_at}
use Rattle.sparse_set.proofs.file_map.FileMap.has.Goals as goal

pub returns-then-page-self : goal.returns-then-page-self
unfolding marked_in
returns-then-page-self c =
    sym (c.self.invariant.clear c.args.page c.if-page-self.true) ∙ sym (marks_at c.self.inside.pages c.self.inside.words.items c.args.page c.self.invariant)
    ∙ ap (λ marks. marked_in marks c.args.page) c.self.view_is

pub returns : goal.returns
unfolding marked_in
returns c =
    c.has.ensures ∙ ap (λ words. has words c.args.page) c.as_slice.ensures.value ∙ sym (marks_at c.self.inside.pages c.self.inside.words.items c.args.page c.self.invariant)
    ∙ ap (λ marks. marked_in marks c.args.page) c.self.view_is

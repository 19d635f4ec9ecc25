-- The page that comes wasn't there, and its image is a page.
use Rattle.std.proofs.Common.{◌≡◌, ◌∷◌, ◌++◌, [], ap, sym, ◌∙◌, subst}
use Rattle.revert_pass.specs.Got.{Got, IsGot, has}
use Rattle.revert_pass.proofs.GotLemmas.{got_push}
use Rattle.revert_pass.proofs.gathering.gather.Goals as goal

pub invariant_of-got-2 : goal.invariant_of-got-2
invariant_of-got-2 g c =
    let is : c.got.inside.kept.items ≡ c.args.got.now = c.got.view_is in
    subst (λ (x : Got). IsGot x) (sym (c.push_reserved.ensures.items ∙ ap (λ (x : Got). x ++ (c.args.p, c.pin_and_read.new.into) ∷ []) c.reserve.ensures.items))
    (got_push c.got.inside.kept.items c.args.p c.pin_and_read.new.into (ap (λ (x : Got). has x c.args.p) is ∙ c.requires.lacks) c.in_ok-pin_and_read.ensures.page c.got.invariant)

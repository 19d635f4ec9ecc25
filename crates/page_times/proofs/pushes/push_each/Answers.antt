use Rattle.std.proofs.Common.{◌<◌, ℕ, subst, sym}
use Rattle.page_base.specs.declared.numbers.PageId.{PageId}
use Rattle.page_times.proofs.pushes.push_each.Goals as goal

pub push-requires : goal.push-requires
push-requires c = subst (λ (f : PageId → ℕ). 0 < f c.args.p) (sym c.loop.invariant.same) c.requires

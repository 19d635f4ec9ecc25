use Rattle.std.proofs.Common.{[], arith}
use Rattle.page_fmt.specs.Seen.{Looked}
use Rattle.key_tree.proofs.layout.Tree.visits.Goals as goal

pub overflow_sub-level : goal.overflow_sub-level
overflow_sub-level c =
    let d : Looked = record { page = c.args.visit.page; slots = [] } in
    omega (arith, c.in_ok-children.ensures.level d, c.level_of-level.ensures d)

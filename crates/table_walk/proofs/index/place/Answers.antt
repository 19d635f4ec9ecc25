use Rattle.std.proofs.Common.{◌∙◌}
use Rattle.table_walk.proofs.IndexLemmas.{place_some, if_some}
use Rattle.table_walk.proofs.index.place.Goals as goal

pub returns-clause-some : goal.returns-clause-some
returns-clause-some c = if_some c.copied.result (λ i h. h.0) (place_some c.args.seen.now c.args.page c.copied.result (c.copied.ensures ∙ c.get.ensures.value ∙ c.requires c.args.page)).0

pub returns-clause-there : goal.returns-clause-there
returns-clause-there c = if_some c.copied.result (λ i h. h.1) (place_some c.args.seen.now c.args.page c.copied.result (c.copied.ensures ∙ c.get.ensures.value ∙ c.requires c.args.page)).0

pub returns-clause-none : goal.returns-clause-none
returns-clause-none c = (place_some c.args.seen.now c.args.page c.copied.result (c.copied.ensures ∙ c.get.ensures.value ∙ c.requires c.args.page)).1

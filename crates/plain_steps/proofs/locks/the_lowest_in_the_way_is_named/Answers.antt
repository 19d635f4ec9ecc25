use Rattle.plain_steps.proofs.ModeLemmas.{nobody, free_where_nobody, lowest_holds, lowest_is}
use Rattle.plain_steps.proofs.locks.the_lowest_in_the_way_is_named.Goals as goal

pub returns-clause-free : goal.returns-clause-free
returns-clause-free c = λ st k name mode. (nobody st k name mode, free_where_nobody st k name mode)

pub returns-clause-lowest : goal.returns-clause-lowest
returns-clause-lowest c = λ st k name mode j. (lowest_holds st k name mode j, lowest_is st k name mode j)

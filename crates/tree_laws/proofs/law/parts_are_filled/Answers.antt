use Rattle.std.proofs.Common.{arith}
use Rattle.tree_laws.specs.Parts.{fill}
use Rattle.tree_laws.proofs.PartLemmas.{joined-fill, fit-fill, fit-whole, fill-three, fill-small}
use Rattle.tree_laws.proofs.law.parts_are_filled.Goals as goal

pub returns-clause-joined : goal.returns-clause-joined
returns-clause-joined c = λ size all xs. joined-fill size all all xs

pub returns-clause-fit : goal.returns-clause-fit
returns-clause-fit c = λ size all xs s. fit-whole size all (fill size all all xs) (fit-fill size all all xs s)

pub returns-clause-three : goal.returns-clause-three
returns-clause-three c = λ size all xs s h. fill-three size all all xs (omega (arith, h))

pub returns-clause-two : goal.returns-clause-two
returns-clause-two c = λ size all most xs m s h. fill-small size all most all xs m s (omega (arith, h))

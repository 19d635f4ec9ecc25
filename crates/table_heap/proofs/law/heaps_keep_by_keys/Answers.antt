use Rattle.std.proofs.Common.{refl, ℕ, List, [], cond, ap, Result, Ok}
use Rattle.table_walk.specs.declared.visit.Visit.{Visit}
use Rattle.table_heap.specs.Heap.{root_kids}
use Rattle.table_heap.proofs.law.heaps_keep_by_keys.Goals as goal

pub returns : goal.returns
returns c = record {
  leaves = λ v slots leaf. ap (λ b. cond {A = Result (List Visit) ℕ} b (Ok []) (root_kids v.page slots)) leaf;
  keeps = λ cols start at done p i row other walk leaf was like kept. refl;
}

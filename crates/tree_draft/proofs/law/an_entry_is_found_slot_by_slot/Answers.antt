use Rattle.tree_draft.proofs.ScanLemmas.{scan_is}
use Rattle.tree_draft.proofs.law.an_entry_is_found_slot_by_slot.Goals as goal

pub returns : goal.returns
returns c = λ key es. scan_is key es

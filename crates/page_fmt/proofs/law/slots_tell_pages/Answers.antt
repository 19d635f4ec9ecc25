use Rattle.page_fmt.proofs.BridgeLemmas.{same_lists, slots_in-edited, AreFull-edited}
use Rattle.page_fmt.proofs.law.slots_tell_pages.Goals as goal

pub returns : goal.returns
returns c = record { same = same_lists; edit = slots_in-edited; full = AreFull-edited }

-- Records taken back from pages, as lists of slots or as functions to their bytes.
use Rattle.std.proofs.Common.{◌≡◌, List, [], ◌∷◌, refl, ap, ◌∙◌}
use Rattle.page_base.specs.Slots.{Slots, with_slot}
use Rattle.page_fmt.specs.Bridge.{slots_in, AreFull}
use Rattle.page_fmt.specs.Seen.{SlotsAt}
use Rattle.page_fmt.proofs.BridgeLemmas.{slots_in-edited, AreFull-edited}
use Rattle.rec_log.specs.Records.{Record}
use Rattle.rec_log.specs.Undone.{undone}
use Rattle.rec_log.specs.UndonePages.{undone_at}

pub slots_in-undone_at : (records : List Record) (at : SlotsAt) → slots_in (undone_at records at) ≡ undone records (slots_in at)
slots_in-undone_at [] at = refl
slots_in-undone_at (r ∷ records) at =
    slots_in-edited (undone_at records at) r.page r.slot r.before ∙ ap (λ (s : Slots). with_slot s r.page r.slot r.before) (slots_in-undone_at records at)

pub AreFull-undone_at : (records : List Record) (at : SlotsAt) → AreFull at → AreFull (undone_at records at)
AreFull-undone_at [] at full = full
AreFull-undone_at (r ∷ records) at full = AreFull-edited (undone_at records at) r.page r.slot r.before (AreFull-undone_at records at full)

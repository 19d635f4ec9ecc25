-- What pages held before some records, as lists of slots.
use Rattle.std.specs.Prelude.{List, [], ◌∷◌}
use Rattle.page_base.specs.Pages.{set_at}
use Rattle.page_fmt.specs.Edits.{edited}
use Rattle.page_fmt.specs.Seen.{SlotsAt}
use Rattle.rec_log.specs.Records.{Record}

-- each record's slot set to its `before`, the last record first
abbrev pub undone_at : List Record → SlotsAt → SlotsAt
undone_at [] at = at
undone_at (r ∷ records) at = set_at (undone_at records at) r.page (edited (undone_at records at r.page) r.slot r.before)

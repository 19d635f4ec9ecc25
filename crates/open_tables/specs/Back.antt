-- Records that can be taken back one after the other, the last first, each where its session may change pages.
use Rattle.std.specs.Prelude.{ℕ, ◌≡◌, ◌≢◌, ◌⊎◌, ◌%◌, ◌≤◌, Bool, true, List, [], ◌∷◌, length}
use Rattle.page_base.specs.declared.numbers.PageId.{PageId}
use Rattle.page_base.specs.Slots.{Slots, with_slot}
use Rattle.page_fmt.specs.Spelling.{used}
use Rattle.alloc_pages.specs.Owners.{owner_in, page_owner}
use Rattle.alloc_pages.specs.Spots.{spot_of}
use Rattle.rec_log.specs.Records.{Record}
use Rattle.rec_log.specs.Undone.{undone}
use Rattle.page_tables.specs.Sheets.{sheets}

-- on a page of an owner that the session writes, or the claim of a free page for one
abbrev pub LiesIn : (ℕ → Bool) → Slots → Record → Type 0
LiesIn writes slots r =
    ((r.page.page % 1280 ≢ 0) × (writes (page_owner slots r.page) ≡ true))
    ⊎ ((q : PageId) × ((spot_of q).page ≡ r.page) × ((spot_of q).slot ≡ r.slot) × (writes (page_owner slots q) ≡ true) × (owner_in r.before ≡ 0))

-- what stood before fits again: it has as many bytes, or the page has room for it
abbrev pub FitsBack : Slots → Record → Type 0
FitsBack slots r = (length r.before ≡ length r.after) ⊎ (used (sheets (with_slot slots r.page r.slot r.before) r.page) ≤ 8192)

-- what holds of the record that is taken back next
pub record IsLast (writes : ℕ → Bool) (slots : Slots) (r : Record) : Type 0 where
  pub stands : slots r.page r.slot ≡ r.after
  pub fits : FitsBack slots r
  pub lies : LiesIn writes slots r

-- each record, once those behind it are taken back
abbrev pub Back : (ℕ → Bool) → List Record → Slots → Type 0
Back writes [] slots = Unit {0}
Back writes (r ∷ rs) slots = Back writes rs slots × IsLast writes (undone rs slots) r

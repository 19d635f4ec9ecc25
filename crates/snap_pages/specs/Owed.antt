-- The records that snapshots owe, and the pins that they hold: one on each record's page.
use Rattle.std.specs.Prelude.{◌≡◌, ℕ, ◌+◌, ◌-◌, ◌≤◌, List, [], ◌∷◌, ◌++◌, count_by}
use Rattle.page_base.specs.declared.numbers.PageId.{PageId}
use Rattle.page_base.specs.declared.numbers.SnapNo.{SnapNo}
use Rattle.page_base.specs.Pages.{is_page}
use Rattle.buf_pool.specs.Pool.{without_pin}
use Rattle.rec_log.specs.Records.{Record}
use Rattle.snap_cat.specs.Catalog.{snap_at, with_owed}
use Rattle.snap_pages.specs.Shown.{Shown, pins, catalog, owes_of}

-- how many of some records are of a page
abbrev pub count_on : List Record → PageId → ℕ
count_on records p = count_by (λ (r : Record). is_page r.page p) records

-- each record's page is pinned once more
abbrev pub with_pins_of : List Record → (PageId → ℕ) → PageId → ℕ
with_pins_of records pins p = pins p + count_on records p

-- or once less
abbrev pub without_pins_of : List Record → (PageId → ℕ) → PageId → ℕ
without_pins_of records pins p = pins p - count_on records p

-- each page has at least as many pins as the snapshot owes records on it
abbrev pub AreOwed : Shown → SnapNo → Type 0
AreOwed v s = (p : PageId) → count_on (owes_of v s) p ≤ pins v p

-- the last record that the snapshot owes was dropped, with its pin; nothing else in the catalog changed
pub record DropsOwed (s : SnapNo) (old new : Shown) : Type 0 where
  pub front : List Record
  pub last : Record
  pub was : owes_of old s ≡ front ++ last ∷ []
  pub cat : catalog new ≡ with_owed (catalog old) s (record { recs = front; spare = (snap_at (catalog old) s).owed.spare + 1 })
  pub now : owes_of new s ≡ front
  pub pinned : pins new ≡ without_pin (pins old) last.page

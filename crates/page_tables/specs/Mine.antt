-- Writes that go, whose they are, and what they leave of all that isn't the writer's.
use Rattle.std.specs.Prelude.{Bool, true, false, ◌==◌, ◌≡◌, ◌≢◌, ◌⊎◌, ℕ, ◌+◌, ◌<◌, ◌≤◌, List, [], ◌∷◌, length}
use Rattle.page_base.specs.declared.limits.TheConstants.{MAX_SLOTS, MAX_SLOT_BYTES}
use Rattle.page_base.specs.declared.numbers.PageId.{PageId}
use Rattle.page_base.specs.Slots.{Slots, with_slot}
use Rattle.page_fmt.specs.Seen.{SlotsAt}
use Rattle.page_fmt.specs.Spelling.{used}
use Rattle.alloc_pages.specs.Owners.{page_owner}
use Rattle.page_tables.specs.Owners.{is_there, IsAllocPage, IsSpread}
use Rattle.page_tables.specs.Sheets.{sheets}
use Rattle.page_tables.specs.Writes.{Write, claim}

-- the slots after a write
abbrev pub written : Write → Slots → Slots
written w s = with_slot s w.page w.slot w.bytes

-- the page is there, the write fits on it, and it changes its slot
pub record MayWrite (counts : List ℕ) (s : Slots) (w : Write) : Type 0 where
  pub there : is_there counts w.page ≡ true
  pub index : w.slot < MAX_SLOTS
  pub short : length w.bytes ≤ MAX_SLOT_BYTES
  pub room : used (sheets (written w s) w.page) ≤ 8192
  pub changes : s w.page w.slot ≢ w.bytes

-- so does each, after those before it
abbrev pub MayWriteAll : List ℕ → Slots → List Write → Type 0
MayWriteAll counts s [] = Unit {0}
MayWriteAll counts s (w ∷ ws) = MayWrite counts s w × MayWriteAll counts (written w s) ws

-- whether an owner is that of the table of this number
abbrev pub is_of : ℕ → ℕ → Bool
is_of number owner = owner == number + 1

-- the write claims a free page for one of these owners
pub record IsClaim (counts : List ℕ) (writes : ℕ → Bool) (s : Slots) (w : Write) : Type 0 where
  pub page : PageId
  pub number : ℕ
  pub is : w ≡ claim number page
  pub there : is_there counts page ≡ true
  pub free : page_owner s page ≡ 0
  pub small : number + 1 < 4294967295
  pub given : writes (number + 1) ≡ true

-- who may change the pages of these owners may write so: on one of these pages, or to claim one
abbrev pub IsMine : List ℕ → (ℕ → Bool) → Slots → Write → Type 0
IsMine counts writes s w = ((is_there counts w.page ≡ true) × (writes (page_owner s w.page) ≡ true)) ⊎ IsClaim counts writes s w

-- so it is of each write, after those before it
abbrev pub AreMine : List ℕ → (ℕ → Bool) → Slots → List Write → Type 0
AreMine counts writes s [] = Unit {0}
AreMine counts writes s (w ∷ ws) = IsMine counts writes s w × AreMine counts writes (written w s) ws

-- each allocation page tells of its pages
abbrev pub AreSpread : List ℕ → SlotsAt → Type 0
AreSpread counts at = (a : PageId) → IsAllocPage counts a → IsSpread counts at a

-- From these slots to those, free pages were given to owners of the writer, and slots were written on pages of such owners:
-- each page that isn't the writer's then, and doesn't tell of others, has the owner and the slots that it had.
pub record Moves (counts : List ℕ) (writes : ℕ → Bool) (s x : Slots) : Type 0 where
  pub spread : AreSpread counts (sheets x)
  pub owners : (p : PageId) → (page_owner x p ≡ page_owner s p) ⊎ ((is_there counts p ≡ true) × (page_owner s p ≡ 0) × (writes (page_owner x p) ≡ true))
  pub slots : (p : PageId) → writes (page_owner x p) ≡ false → page_owner x p ≢ 4294967295 → x p ≡ s p

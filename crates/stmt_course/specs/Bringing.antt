-- What a planned statement still does: whatever pages it is given, its writes go, stay on pages of its own, and lead to the
-- tables that its meaning gives.
use Rattle.std.specs.Prelude.{ℕ, ◌≡◌, ◌+◌, ◌<◌, Bool, true, false, List, [], ◌∷◌, length, drop}
use Rattle.std.specs.List.{AllByRecursion}
use Rattle.page_base.specs.declared.numbers.PageId.{PageId}
use Rattle.page_base.specs.Slots.{Slots}
use Rattle.alloc_pages.specs.Owners.{page_owner}
use Rattle.plain_model.specs.Tables.{Tables}
use Rattle.sys_cat.specs.declared.desc.TableDesc.{TableDesc}
use Rattle.page_tables.specs.Bases.{IsBase}
use Rattle.page_tables.specs.Claims.{Claimable}
use Rattle.page_tables.specs.Mine.{written, MayWriteAll, AreSpread}
use Rattle.page_tables.specs.Owners.{is_there}
use Rattle.page_tables.specs.Sheets.{sheets}
use Rattle.page_tables.specs.Writes.{Write, done}
use Rattle.step_words.specs.Courses.{Course}
use Rattle.step_words.specs.Coming.{coming, claims_left, edits_left}

-- each write is on a page that then has an owner of one's own
abbrev pub AreOnOwn : List ℕ → (ℕ → Bool) → Slots → List Write → Type 0
AreOnOwn files mine s [] = Unit {0}
AreOnOwn files mine s (w ∷ ws) = ((is_there files w.page ≡ true) × (mine (page_owner s w.page) ≡ true)) × AreOnOwn files mine (written w s) ws

-- the allocation pages tell of their pages, before and after each write
abbrev pub SpreadAll : List ℕ → Slots → List Write → Type 0
SpreadAll files s [] = AreSpread files (sheets s)
SpreadAll files s (w ∷ ws) = AreSpread files (sheets s) × SpreadAll files (written w s) ws

-- a table of this number may be given pages
abbrev pub IsGiven : (ℕ → Bool) → ℕ → Type 0
IsGiven mine number = (number + 1 < 4294967295) × (mine (number + 1) ≡ true)

-- With any pages that may be claimed: what comes goes in turn, and leads to these tables, whose descriptions tell claimed
-- roots. For who hasn't `all` tables the claims are for tables of one's own, and the edits on their pages; for who has, the
-- allocation pages stay such.
pub record Brings (files : List ℕ) (all : Bool) (mine : ℕ → Bool) (s : Slots) (c : Course) (after : (ℕ → PageId) → List TableDesc) (tables : Tables) : Type 0 where
  pub go : (claimed : ℕ → PageId) → Claimable files s c.taken (length c.owners) claimed → MayWriteAll files s (coming c claimed)
  pub given : all ≡ false → AllByRecursion (IsGiven mine) (drop (length c.taken) c.owners)
  pub own : all ≡ false → (claimed : ℕ → PageId) → Claimable files s c.taken (length c.owners) claimed → AreOnOwn files mine (done (claims_left c claimed) s) (edits_left c claimed)
  pub spread : all ≡ true → (claimed : ℕ → PageId) → Claimable files s c.taken (length c.owners) claimed → SpreadAll files s (coming c claimed)
  pub base : (claimed : ℕ → PageId) → Claimable files s c.taken (length c.owners) claimed → IsBase files (sheets (done (coming c claimed) s)) (after claimed) tables

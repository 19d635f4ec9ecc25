-- Which slot of which allocation page holds a page's owner.
use Rattle.std.specs.Prelude.{◌≡◌, ◌+◌, ◌*◌, ◌/◌, ◌%◌, ◌<◌}
use Rattle.page_base.specs.declared.numbers.PageId.{PageId}
use Rattle.alloc_pages.specs.declared.spots.AllocSpot.{AllocSpot}

-- the slot of a page
abbrev pub spot_of : PageId → AllocSpot
spot_of p = record { page = record { file = p.file; page = p.page / 1280 * 1280 }; slot = p.page % 1280 }

-- every 1280th page of a file tells of itself and the next 1279: slot j of the page at its own number plus j
pub record IsSpotOf (p : PageId) (spot : AllocSpot) : Type 0 where
  pub file : spot.page.file ≡ p.file
  pub every : spot.page.page % 1280 ≡ 0
  pub within : spot.slot < 1280
  pub sum : spot.page.page + spot.slot ≡ p.page

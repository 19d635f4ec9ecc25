use Rattle.std.proofs.Common.{◌≡◌, map, take}
use Rattle.page_base.specs.Pages.{filled, blank}
use Rattle.early_pages.proofs.images.blank_images.Given as goal

abbrev pub invariant-loop-count : goal.invariant-loop-count
invariant-loop-count l = map (λ file. file.items) l.files.items ≡ filled (take l.count-index l.counts) blank

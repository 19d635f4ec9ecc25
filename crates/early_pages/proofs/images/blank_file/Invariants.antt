use Rattle.std.proofs.Common.{◌≡◌, replicate}
use Rattle.page_base.specs.Pages.{blank}
use Rattle.early_pages.proofs.images.blank_file.Given as goal

abbrev pub invariant-loop : goal.invariant-loop
invariant-loop l = l.file.items ≡ replicate l.counter blank

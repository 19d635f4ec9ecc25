use Rattle.std.proofs.Common.{◌≡◌, ◌≤◌, length, take}
use Rattle.page_fmt.specs.Content.{content}
use Rattle.page_fmt.specs.Edits.{trimmed}
use Rattle.page_fmt.proofs.editing.full_count.Given as goal

abbrev pub invariant-loop-count : goal.invariant-loop-count
invariant-loop-count l = record {
  within : l.count ≤ length (content l.page);
  same : length (trimmed (take l.count (content l.page))) ≡ length (trimmed (content l.page));
}

abbrev pub decreases-loop-count : goal.decreases-loop-count
decreases-loop-count l = l.count

use Rattle.std.proofs.Common.{◌≡◌, false, take}
use Rattle.std.specs.List.{list_any, flat_map}
use Rattle.std.specs.Str.{bytes_eq}
use Rattle.early_pages.specs.Shown.{catalog}
use Rattle.early_engine.proofs.creating.has_sparse_file.Given as goal

abbrev pub invariant-loop-s : goal.invariant-loop-s
invariant-loop-s g l = list_any (bytes_eq l.path) (flat_map (λ s. s.files) (take l.s (catalog l.pages).snaps)) ≡ false

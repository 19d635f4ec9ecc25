-- Where no snapshot changes: their words by cut, their states and their files.
use Rattle.std.proofs.Common.{◌≡◌, ℕ, List, ap, ◌∙◌}
use Rattle.std.specs.Prelude.{Option, option_map, slice_index_or}
use Rattle.page_base.specs.declared.numbers.SnapNo.{SnapNo}
use Rattle.sparse_set.specs.Sparse.{Sparse, no_set}
use Rattle.snap_cat.specs.Catalog.{Snap, Catalog, snap_at}
use Rattle.snap_pages.specs.Cuts.{place_in, snap_by}
use Rattle.snap_pages.specs.Shown.{Shown, set_of}
use Rattle.snap_pages.specs.Steps.{SameSnaps}

abbrev found_in : Catalog → List Sparse → ℕ → Option (Snap × Sparse)
found_in cat sets c = option_map (λ (s : SnapNo). (snap_at cat s, slice_index_or sets s.0 no_set)) (place_in cat c)

pub snaps_stay : (old new : Shown) → SameSnaps old new → (c : ℕ) → snap_by new c ≡ snap_by old c
snaps_stay old new same c = ap (λ cat. found_in cat new.sets c) same.cat ∙ ap (λ sets. found_in old.cat sets c) same.sets

pub sets_stay : (old new : Shown) → SameSnaps old new → (s : SnapNo) → set_of new s ≡ set_of old s
sets_stay old new same s = ap (λ sets. slice_index_or sets s.0 no_set) same.sets

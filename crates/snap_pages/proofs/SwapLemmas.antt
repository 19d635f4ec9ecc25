-- One snapshot's entry in the catalog changes, and the snapshots of other cuts stay.
use Rattle.std.proofs.Common.{get_or-set_other, ◌≡◌, ◌≢◌, ℕ, List, Some, option_map, ap, sym, ◌∙◌}
use Rattle.page_base.specs.declared.numbers.SnapNo.{SnapNo}
use Rattle.sparse_set.specs.Sparse.{Sparse, no_set}
use Rattle.std.specs.Prelude.{slice_index_or}
use Rattle.snap_cat.specs.Catalog.{Snap, Catalog, IsCatalog, no_snap, snap_at}
use Rattle.snap_pages.specs.Shown.{Shown, catalog, cut_of, IsOpen, set_of}
use Rattle.snap_pages.specs.Cuts.{place_in, place_of, snap_by}
use Rattle.snap_pages.specs.Steps.{SameSnaps}
use Rattle.snap_pages.proofs.CutLemmas.{place_of_cut, place_some, by_place}
use Rattle.snap_pages.proofs.OwedLemmas.{swapped, snap_here, swap_place}

-- a snapshot with its sparse files
abbrev entry : Catalog → List Sparse → SnapNo → Snap × Sparse
entry cat sets k = (snap_at cat k, slice_index_or sets k.0 no_set)

pub snap_by_stays : (old new : Shown) → SameSnaps old new → snap_by new ≡ snap_by old
snap_by_stays old new same = λ i c. option_map (entry (same.cat i) (same.sets i)) (place_in (same.cat i) c)

module _ (old new : Shown) (s : SnapNo) (x : Snap) (has : IsOpen old s) (is : catalog new ≡ swapped (catalog old) s x) (sets : new.sets ≡ old.sets) (same : x.cut ≡ cut_of old s) where
  entries : (c : ℕ) → snap_by new c ≡ option_map (entry (swapped (catalog old) s x) old.sets) (place_of old c)
  entries c =
      (λ i. option_map (entry (is i) (sets i)) (place_in (is i) c))
      ∙ (λ i. option_map (entry (swapped (catalog old) s x) old.sets) (swap_place old s x has same i c))

  pub swap_by_other : (c : ℕ) → c ≢ cut_of old s → snap_by new c ≡ snap_by old c
  swap_by_other c ne = by_place old c
      (λ k e.
      let apart : k.0 ≢ s.0 = λ is. ne (sym (place_some old c k e).is ∙ ap (cut_of old) (λ i. record { 0 = is i })) in
      entries c ∙ ap (option_map (entry (swapped (catalog old) s x) old.sets)) e
      ∙ (λ i. Some (get_or-set_other (catalog old).snaps s.0 k.0 x no_snap apart i, set_of old k))
      ∙ sym (ap (option_map (entry (catalog old) old.sets)) e))
      (λ e. entries c ∙ ap (option_map (entry (swapped (catalog old) s x) old.sets)) e ∙ sym (ap (option_map (entry (catalog old) old.sets)) e))

  pub swap_by_here : IsCatalog (catalog old) → snap_by new (cut_of old s) ≡ Some (x, set_of old s)
  swap_by_here all =
      entries (cut_of old s) ∙ ap (option_map (entry (swapped (catalog old) s x) old.sets)) (place_of_cut old s all has)
      ∙ (λ i. Some (snap_here (catalog old) s x has i, set_of old s))

-- The snapshots after a cut: those that were there, and the new one behind them.
use Rattle.std.proofs.Common.{◌≡◌, ℕ, ◌+◌, ◌<◌, [], ◌∷◌, ◌++◌, length, get_or, ap, sym, subst, ◌∙◌, inl, inr, arith}
use Rattle.std.specs.Prelude.{◌⊎◌, Some}
use Rattle.std.proofs.lemmas.Bool.{cases_lt}
use Rattle.std.proofs.lemmas.List.{length-append, get_or_append_left}
use Rattle.std.proofs.Math.Seq.{get_or-append_seam}
use Rattle.page_base.specs.declared.numbers.SnapNo.{SnapNo}
use Rattle.page_dev.specs.Files.{Files}
use Rattle.plain_model.specs.Legal.{new_names}
use Rattle.plain_model.specs.State.{stmt_of}
use Rattle.sparse_set.specs.Sparse.{Sparse, no_set}
use Rattle.snap_cat.specs.declared.snapshot.SnapState.TheVariants.{Making}
use Rattle.snap_cat.specs.Catalog.{Snap, Catalog, IsCatalog, snap_at, no_snap}
use Rattle.snap_cat.proofs.CatalogLemmas.{catalog_new}
use Rattle.snap_pages.specs.Cuts.{place_of, snap_by}
use Rattle.snap_pages.specs.Shown.{catalog, count, counts, cut_of, set_of, IsOpen, IsWhole}
use Rattle.snap_pages.proofs.CutLemmas.{place_some, place_of_cut}
use Rattle.step_state.specs.State.{State, machine}
use Rattle.step_state.specs.Safe.{Safe}
use Rattle.safe_snap.specs.Cutting.{DoesCut}

module _ (e s : State) (k : ℕ) (safe : Safe e) (d : DoesCut e s k) where
  abbrev new : Snap
  new = record { name = d.snap; files = new_names (stmt_of (machine e) k); cut = (catalog e.pages).next_cut; state = Making; owed = d.owed }

  more : (catalog s.pages).snaps ≡ (catalog e.pages).snaps ++ new ∷ []
  more = ap (λ (c : Catalog). c.snaps) d.added

  pub next_more : (catalog s.pages).next_cut ≡ (catalog e.pages).next_cut + 1
  next_more = ap (λ (c : Catalog). c.next_cut) d.added

  pub snaps_more : (catalog s.pages).snaps ≡ (catalog e.pages).snaps ++ record { name = d.snap; files = new_names (stmt_of (machine e) k); cut = (catalog e.pages).next_cut; state = Making; owed = d.owed } ∷ []
  snaps_more = more

  pub many_more : count s.pages ≡ count e.pages + 1
  many_more = ap length more ∙ length-append (catalog e.pages).snaps (new ∷ [])

  pub old_snap : (n : SnapNo) → IsOpen e.pages n → snap_at (catalog s.pages) n ≡ snap_at (catalog e.pages) n
  old_snap n lt = ap (λ l. get_or l n.0 no_snap) more ∙ get_or_append_left (catalog e.pages).snaps (new ∷ []) no_snap n.0 lt

  pub old_set : (n : SnapNo) → IsOpen e.pages n → set_of s.pages n ≡ set_of e.pages n
  old_set n lt = (let same = safe.whole.pages.many in ap (λ l. get_or l n.0 no_set) d.sets ∙ get_or_append_left e.pages.sets (d.set ∷ []) no_set n.0 (omega (arith, same, lt)))

  pub new_snap : (n : SnapNo) → n.0 ≡ count e.pages → snap_at (catalog s.pages) n ≡ record { name = d.snap; files = new_names (stmt_of (machine e) k); cut = (catalog e.pages).next_cut; state = Making; owed = d.owed }
  new_snap n at = ap (λ l. get_or l n.0 no_snap) more ∙ ap (λ i. get_or ((catalog e.pages).snaps ++ new ∷ []) i no_snap) at ∙ get_or-append_seam (catalog e.pages).snaps new [] no_snap

  pub new_set : (n : SnapNo) → n.0 ≡ count e.pages → set_of s.pages n ≡ d.set
  new_set n at = ap (λ l. get_or l n.0 no_set) d.sets ∙ ap (λ i. get_or (e.pages.sets ++ d.set ∷ []) i no_set) (at ∙ sym safe.whole.pages.many) ∙ get_or-append_seam e.pages.sets d.set [] no_set

  pub old_or_new : (n : SnapNo) → IsOpen s.pages n → IsOpen e.pages n ⊎ (n.0 ≡ count e.pages)
  old_or_new n there = elim (cases_lt n.0 (count e.pages)) [
    | inl lt ↦ inl lt
    | inr ge ↦ inr (omega (arith, there, many_more, ge))
  ]

  pub files_same : counts s.pages ≡ counts e.pages
  files_same = ap (λ (f : Files). f.counts) d.shown.files

  -- by its cut an old snapshot is the same, at the place that it had
  pub by_cut : (c : ℕ) → c < (catalog e.pages).next_cut → snap_by s.pages c ≡ snap_by e.pages c
  by_cut c lt = d.cuts.others c (λ same. absurd (omega (arith, lt, same)))

  pub place_back : (c : ℕ) (n : SnapNo) → c < (catalog e.pages).next_cut → place_of s.pages c ≡ Some n → (place_of e.pages c ≡ Some n) × IsOpen e.pages n
  place_back c n lt at =
      let p = place_some s.pages c n at in
      elim (old_or_new n p.there) [
        | inr here ↦ absurd (let cut : cut_of s.pages n ≡ (catalog e.pages).next_cut = ap (λ (x : Snap). x.cut) (new_snap n here) in omega (arith, lt, cut, p.is))
        | inl old ↦
            let cut : cut_of e.pages n ≡ c = sym (ap (λ (x : Snap). x.cut) (old_snap n old)) ∙ p.is in
            (ap (λ i. place_of e.pages i) (sym cut) ∙ place_of_cut e.pages n safe.whole.ordered old, old)
      ]

  pub ordered_more : IsCatalog (catalog s.pages)
  ordered_more = subst IsCatalog (sym d.added) (catalog_new (catalog e.pages) d.snap (new_names (stmt_of (machine e) k)) d.owed safe.whole.ordered d.few d.lacks)

  pub whole_more : IsWhole s.pages
  whole_more = record {
    many = ap length d.sets ∙ length-append e.pages.sets (d.set ∷ []) ∙ ap (λ n. n + 1) safe.whole.pages.many ∙ sym many_more;
    alike = λ n there. elim (old_or_new n there) [
      | inl old ↦ ap (λ (t : Sparse). t.files.counts) (old_set n old) ∙ safe.whole.pages.alike n old ∙ sym files_same
      | inr here ↦ ap (λ (t : Sparse). t.files.counts) (new_set n here) ∙ d.alike ∙ sym files_same
    ];
  }

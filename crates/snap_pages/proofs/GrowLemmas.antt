-- One snapshot more, behind all others.
use Rattle.std.proofs.Common.{◌≡◌, ◌≢◌, ◌⊎◌, ℕ, ◌+◌, ◌<◌, ◌≤◌, inl, inr, IsTrue, List, [], ◌∷◌, ◌++◌, length, get_or, Option, Some, is_some, option_map, refl, ap, sym, ◌∙◌, arith, subst}
use Rattle.std.proofs.Math.ListN.{length-append}
use Rattle.std.proofs.Math.Seq.{get_or-append_seam}
use Rattle.std.proofs.lemmas.Bool.{cases_lt}
use Rattle.std.proofs.lemmas.List.{get_or_append_left}
use Rattle.page_base.specs.declared.numbers.SnapNo.{SnapNo}
use Rattle.page_base.specs.declared.numbers.PageId.{PageId}
use Rattle.page_dev.specs.Files.{Files}
use Rattle.buf_pool.specs.Pool.{Pooled}
use Rattle.buf_pool.specs.Steps.{SameShown}
use Rattle.sparse_set.specs.Sparse.{Sparse, no_set, IsEmptyMap}
use Rattle.snap_cat.specs.Catalog.{Snap, Catalog, no_snap, snap_at}
use Rattle.snap_cat.specs.declared.snapshot.SnapState.TheVariants.{Suspect}
use Rattle.snap_pages.specs.Shown.{Shown, img, pins, counts, catalog, count, IsOpen, set_of, cut_of, IsWhole}
use Rattle.snap_pages.specs.Views.{seen, OpensView, CutsView}
use Rattle.snap_pages.specs.Owed.{count_on, with_pins_of, AreOwed}
use Rattle.snap_pages.specs.Cuts.{place_of, ComesBy}
use Rattle.snap_pages.proofs.SeenLemmas.{see_empty}
use Rattle.snap_pages.proofs.DueLemmas.{suspect_past}
use Rattle.snap_pages.proofs.CutLemmas.{place_is, place_none, place_some, place_lacks, by_place}

-- a snapshot more with its sparse files, over pages that show the same
pub record Grows (x : Snap) (set : Sparse) (old new : Shown) : Type 0 where
  pub snaps : (catalog new).snaps ≡ (catalog old).snaps ++ x ∷ []
  pub sets : new.sets ≡ old.sets ++ set ∷ []
  pub images : img new ≡ img old
  pub tells : new.pool.files.tells ≡ old.pool.files.tells
  pub counts : counts new ≡ counts old

pub grown : (v : Shown) (pool : Pooled) (cat : Catalog) (sets : List Sparse) (x : Snap) (set : Sparse) → SameShown v.pool pool → cat.snaps ≡ v.cat.snaps ++ x ∷ [] → sets ≡ v.sets ++ set ∷ [] → Grows x set v (record { pool = pool; cat = cat; sets = sets })
grown v pool cat sets x set shown snaps grew = record {
  snaps = snaps;
  sets = grew;
  images = shown.images;
  tells = ap (λ (f : Files). f.tells) shown.files;
  counts = ap (λ (f : Files). f.counts) shown.files;
}

module _ (x : Snap) (set : Sparse) (old new : Shown) (whole : IsWhole old) (grows : Grows x set old new) where
  many : count new ≡ count old + 1
  many = ap length grows.snaps ∙ length-append (catalog old).snaps (x ∷ [])

  old_snap : (k : SnapNo) → IsOpen old k → snap_at (catalog new) k ≡ snap_at (catalog old) k
  old_snap k lt = ap (λ l. get_or l k.0 no_snap) grows.snaps ∙ get_or_append_left (catalog old).snaps (x ∷ []) no_snap k.0 lt

  old_set : (k : SnapNo) → IsOpen old k → set_of new k ≡ set_of old k
  old_set k lt = let same = whole.many in ap (λ l. get_or l k.0 no_set) grows.sets ∙ get_or_append_left old.sets (set ∷ []) no_set k.0 (omega arith)

  new_snap : (k : SnapNo) → k.0 ≡ count old → snap_at (catalog new) k ≡ x
  new_snap k e = ap (λ l. get_or l k.0 no_snap) grows.snaps ∙ ap (λ n. get_or ((catalog old).snaps ++ x ∷ []) n no_snap) e ∙ get_or-append_seam (catalog old).snaps x [] no_snap

  pub new_set : (k : SnapNo) → k.0 ≡ count old → set_of new k ≡ set
  new_set k e = ap (λ l. get_or l k.0 no_set) grows.sets ∙ ap (λ n. get_or (old.sets ++ set ∷ []) n no_set) (e ∙ sym whole.many) ∙ get_or-append_seam old.sets set [] no_set

  -- a place is an old one or the new one
  old_or_new : (k : SnapNo) → IsOpen new k → IsOpen old k ⊎ (k.0 ≡ count old)
  old_or_new k there = let more = many in elim (cases_lt k.0 (count old)) [
    | inl lt ↦ inl lt
    | inr ge ↦ inr (omega arith)
  ]

  pub whole_more : set.files.counts ≡ counts old → IsWhole new
  whole_more alike = record {
    many = let more = many in let was = whole.many in let sets : length new.sets ≡ length old.sets + 1 = ap length grows.sets ∙ length-append old.sets (set ∷ []) in omega arith;
    alike = λ k there. elim (old_or_new k there) [
      | inl lt ↦ ap (λ (y : Sparse). y.files.counts) (old_set k lt) ∙ whole.alike k lt ∙ sym grows.counts
      | inr e ↦ ap (λ (y : Sparse). y.files.counts) (new_set k e) ∙ alike ∙ sym grows.counts
    ];
  }

  -- its records have their pins
  pub new_owed : (k : SnapNo) → k.0 ≡ count old → pins new ≡ with_pins_of x.owed.recs (pins old) → AreOwed new k
  new_owed k e pinned p =
      subst (λ (y : Snap). count_on y.owed.recs p ≤ pins new p) (sym (new_snap k e))
      (subst (λ (f : PageId → ℕ). count_on x.owed.recs p ≤ f p) (sym pinned) (omega arith))

  pub opens_view : OpensView set old new
  opens_view s kept = elim (cases_lt s.0 (count new)) [
    | inl there ↦ elim (old_or_new s there) [
      | inl lt ↦ inl (
        record {
          sound = subst (λ (y : Snap). y.state ≢ Suspect) (old_snap s lt) kept.sound;
          tells = subst (λ (y : Sparse). IsTrue y.files.tells) (old_set s lt) kept.tells;
          source = sym grows.tells ∙ kept.source;
        },
        λ i. seen (grows.images i) (old_set s lt i),
      )
      | inr e ↦ inr (e, λ i. seen (grows.images i) (new_set s e i))
    ]
    | inr past ↦ absurd (kept.sound (suspect_past new s past))
  ]

  pub cut_views : IsEmptyMap set → CutsView old new
  cut_views empty s kept = elim (opens_view s kept) [
    | inl was ↦ inl was
    | inr new_one ↦ inr (new_one.0, new_one.1 ∙ see_empty (img old) set empty)
  ]

  -- by cuts: all old ones have another
  module _ (behind : (k : SnapNo) → IsOpen old k → cut_of old k < x.cut) where
    old_cut : (k : SnapNo) → IsOpen old k → cut_of new k ≡ cut_of old k
    old_cut k lt = ap (λ (y : Snap). y.cut) (old_snap k lt)

    place_stays : (d : ℕ) → d ≢ x.cut → place_of new d ≡ place_of old d
    place_stays d ne = let more = many in by_place old d
        (λ s e.
        let is = place_some old d s e in
        place_is new d s (let there : IsOpen old s = is.there in omega arith) (old_cut s is.there ∙ is.is)
        (λ k lt same. is.before k lt (sym (old_cut k (let there : IsOpen old s = is.there in omega arith)) ∙ same))
        ∙ sym e)
        (λ e.
        place_none new d (λ k there same. elim (old_or_new k there) [
          | inl lt ↦ place_lacks old d e k lt (sym (old_cut k lt) ∙ same)
          | inr new_one ↦ ne (sym same ∙ ap (λ (y : Snap). y.cut) (new_snap k new_one))
        ])
        ∙ sym e)

    pub comes : ComesBy x.cut old new
    comes = record {
      others = λ d ne. by_place old d
          (λ s e.
          let is = place_some old d s e in
          ap (option_map (λ (k : SnapNo). (snap_at (catalog new) k, set_of new k))) (place_stays d ne ∙ e)
          ∙ (λ i. Some (old_snap s is.there i, old_set s is.there i))
          ∙ sym (ap (option_map (λ (k : SnapNo). (snap_at (catalog old) k, set_of old k))) e))
          (λ e.
          ap (option_map (λ (k : SnapNo). (snap_at (catalog new) k, set_of new k))) (place_stays d ne ∙ e)
          ∙ sym (ap (option_map (λ (k : SnapNo). (snap_at (catalog old) k, set_of old k))) e));
      absent = ap (λ (o : Option SnapNo). is_some {T = Snap × Sparse} (option_map (λ (k : SnapNo). (snap_at (catalog old) k, set_of old k)) o))
          (place_none old x.cut (λ k lt same. let less = behind k lt in absurd (omega (arith, less, same))));
      place = let more = many in
          place_is new x.cut (record { 0 = count old }) (omega arith) (ap (λ (y : Snap). y.cut) (new_snap (record { 0 = count old }) refl))
          (λ k lt same. let less = behind k lt in let cut = old_cut k lt in absurd (omega (arith, less, same, cut)));
    }

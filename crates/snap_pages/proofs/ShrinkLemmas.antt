-- One snapshot less; the later ones close up.
use Rattle.std.proofs.Common.{◌≡◌, ◌≢◌, ℕ, ◌+◌, ◌-◌, ◌<◌, inl, inr, IsTrue, List, length, get_or, Option, Some, is_some, option_map, remove, ap, sym, ◌∙◌, arith, subst}
use Rattle.std.proofs.lemmas.Bool.{cases_lt}
use Rattle.std.proofs.lemmas.List.Edits.{length-remove, get_or-remove_below, get_or-remove_above}
use Rattle.page_base.specs.declared.numbers.SnapNo.{SnapNo}
use Rattle.page_dev.specs.Files.{Files}
use Rattle.buf_pool.specs.Pool.{Pooled}
use Rattle.buf_pool.specs.Steps.{SameShown}
use Rattle.sparse_set.specs.Sparse.{Sparse, no_set}
use Rattle.snap_cat.specs.Catalog.{Snap, Catalog, IsCatalog, snap_at, former, without}
use Rattle.snap_cat.specs.declared.snapshot.SnapState.TheVariants.{Suspect}
use Rattle.snap_cat.proofs.CatalogLemmas.{Before, Behind, former_of, snap_at-without, HasSnap-former}
use Rattle.snap_pages.specs.Shown.{Shown, img, counts, catalog, count, IsOpen, set_of, cut_of, IsWhole}
use Rattle.snap_pages.specs.Views.{seen, ClosesUp}
use Rattle.snap_pages.specs.Cuts.{place_of, GoesBy}
use Rattle.snap_pages.proofs.CutLemmas.{place_is, place_none, place_some, place_lacks, by_place}

-- a snapshot goes with its sparse files, over pages that show the same
pub record Shrinks (gone : SnapNo) (old new : Shown) : Type 0 where
  pub cat : catalog new ≡ without (catalog old) gone
  pub sets : new.sets ≡ remove old.sets gone.0
  pub images : img new ≡ img old
  pub tells : new.pool.files.tells ≡ old.pool.files.tells
  pub counts : counts new ≡ counts old

pub shrunk : (gone : SnapNo) (v : Shown) (pool : Pooled) (cat : Catalog) (sets : List Sparse) → SameShown v.pool pool → cat ≡ without v.cat gone → sets ≡ remove v.sets gone.0 → Shrinks gone v (record { pool = pool; cat = cat; sets = sets })
shrunk gone v pool cat sets shown is fewer = record {
  cat = is;
  sets = fewer;
  images = shown.images;
  tells = ap (λ (f : Files). f.tells) shown.files;
  counts = ap (λ (f : Files). f.counts) shown.files;
}

module _ (gone : SnapNo) (old new : Shown) (whole : IsWhole old) (there : IsOpen old gone) (shrinks : Shrinks gone old new) where
  its_snap : (k : SnapNo) → snap_at (catalog new) k ≡ snap_at (catalog old) (former gone k)
  its_snap k = ap (λ (c : Catalog). snap_at c k) shrinks.cat ∙ snap_at-without (catalog old) gone there k

  its_set : (k : SnapNo) → set_of new k ≡ set_of old (former gone k)
  its_set k =
      let many = whole.many in
      ap (λ l. get_or l k.0 no_set) shrinks.sets ∙ elim (former_of gone k) [
        | Before lt is ↦ get_or-remove_below old.sets gone.0 no_set k.0 lt (omega arith) ∙ ap (λ n. get_or old.sets n no_set) (sym is)
        | Behind ge is ↦ get_or-remove_above old.sets gone.0 no_set k.0 ge (omega arith) ∙ ap (λ n. get_or old.sets n no_set) (sym is)
      ]

  was_open : (k : SnapNo) → IsOpen new k → IsOpen old (former gone k)
  was_open k h = HasSnap-former (catalog old) gone there k (subst (λ (c : Catalog). k.0 < length c.snaps) shrinks.cat h)

  fewer : count new + 1 ≡ count old
  fewer = let less = length-remove (catalog old).snaps gone.0 there in let now : count new ≡ length (remove (catalog old).snaps gone.0) = ap (λ (c : Catalog). length c.snaps) shrinks.cat in omega arith

  pub whole_less : IsWhole new
  whole_less = record {
    many =
        let now = fewer in
        let was = whole.many in
        let less = length-remove old.sets gone.0 (omega arith) in
        let sets : length new.sets ≡ length (remove old.sets gone.0) = ap length shrinks.sets in
        omega arith;
    alike = λ k h. ap (λ (y : Sparse). y.files.counts) (its_set k) ∙ whole.alike (former gone k) (was_open k h) ∙ sym shrinks.counts;
  }

  pub closes_up : ClosesUp gone old new
  closes_up s kept = (
    record {
      sound = subst (λ (y : Snap). y.state ≢ Suspect) (its_snap s) kept.sound;
      tells = subst (λ (y : Sparse). IsTrue y.files.tells) (its_set s) kept.tells;
      source = sym shrinks.tells ∙ kept.source;
    },
    (λ i. seen (shrinks.images i) (its_set s i)),
    ap (λ (y : Snap). y.cut) (its_snap s),
  )

  -- BY CUTS

  cut_was : (k : SnapNo) → cut_of new k ≡ cut_of old (former gone k)
  cut_was k = ap (λ (y : Snap). y.cut) (its_snap k)

  -- where a snapshot that stays now stands
  pub record Stands (s : SnapNo) : Type 0 where
    pub place : SnapNo
    pub was : former gone place ≡ s
    pub here : IsOpen new place
    pub lower : (k : SnapNo) → k.0 < place.0 → (former gone k).0 < s.0

  same_no : (a b : SnapNo) → a.0 ≡ b.0 → a ≡ b
  same_no a b e = λ i. record { 0 = e i }

  stands : (s : SnapNo) → IsOpen old s → s.0 ≢ gone.0 → Stands s
  stands s h ne =
      let now = fewer in
      elim (cases_lt s.0 gone.0) [
        | inl lt ↦ record {
          place = s;
          was = elim (former_of gone s) [ Before _ is ↦ same_no (former gone s) s is | Behind ge _ ↦ absurd (omega arith) ];
          here = omega arith;
          lower = λ k less. elim (former_of gone k) [ Before _ is ↦ omega arith | Behind ge is ↦ absurd (omega arith) ];
        }
        | inr ge ↦
            let place : SnapNo = record { 0 = s.0 - 1 } in
            record {
              place = place;
              was = elim (former_of gone place) [ Before lt is ↦ absurd (omega arith) | Behind _ is ↦ same_no (former gone place) s (omega arith) ];
              here = omega arith;
              lower = λ k less. elim (former_of gone k) [ Before lt is ↦ omega arith | Behind _ is ↦ omega arith ];
            }
      ]

  module _ (is_catalog : IsCatalog (catalog old)) where
    -- a snapshot of another cut
    kept_place : (d : ℕ) (s : SnapNo) → d ≢ cut_of old gone → place_of old d ≡ Some s → (k : SnapNo) × (place_of new d ≡ Some k) × (former gone k ≡ s)
    kept_place d s ne e =
        let is = place_some old d s e in
        let at = stands s is.there (λ same. ne (sym is.is ∙ ap (cut_of old) (same_no s gone same))) in (
          at.place,
          place_is new d at.place at.here (cut_was at.place ∙ ap (cut_of old) at.was ∙ is.is) (λ k less same. is.before (former gone k) (at.lower k less) (sym (cut_was k) ∙ same)),
          at.was,
        )

    pub goes : GoesBy (cut_of old gone) old new
    goes = record {
      others = λ d ne. by_place old d
          (λ s e.
          let at = kept_place d s ne e in
          ap (option_map (λ (k : SnapNo). (snap_at (catalog new) k, set_of new k))) at.1
          ∙ (λ i. Some (its_snap at.0 i, its_set at.0 i))
          ∙ (λ i. Some (snap_at (catalog old) (at.2 i), set_of old (at.2 i)))
          ∙ sym (ap (option_map (λ (k : SnapNo). (snap_at (catalog old) k, set_of old k))) e))
          (λ e.
          ap (option_map (λ (k : SnapNo). (snap_at (catalog new) k, set_of new k))) (place_none new d (λ k h same. place_lacks old d e (former gone k) (was_open k h) (sym (cut_was k) ∙ same)))
          ∙ sym (ap (option_map (λ (k : SnapNo). (snap_at (catalog old) k, set_of old k))) e));
      gone = ap (λ (o : Option SnapNo). is_some {T = Snap × Sparse} (option_map (λ (k : SnapNo). (snap_at (catalog new) k, set_of new k)) o))
          (place_none new (cut_of old gone) (λ k h same. apart k h (sym (cut_was k) ∙ same)));
    }
      where
        -- no other snapshot has its cut
        apart : (k : SnapNo) → IsOpen new k → cut_of old (former gone k) ≡ cut_of old gone → ⊥
        apart k h same = elim (former_of gone k) [
          | Before lt is ↦ let less : cut_of old (former gone k) < cut_of old gone = is_catalog.ordered (former gone k) gone (omega arith) there in absurd (omega (arith, less, same))
          | Behind ge is ↦ let less : cut_of old gone < cut_of old (former gone k) = is_catalog.ordered gone (former gone k) (omega arith) (was_open k h) in absurd (omega (arith, less, same))
        ]

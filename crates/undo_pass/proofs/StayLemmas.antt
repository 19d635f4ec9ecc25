-- What of the other snapshots stays, call by call.
use Rattle.std.proofs.Common.{◌≡◌, List, ap, ◌∙◌, Result}
use Rattle.page_base.specs.declared.numbers.PageId.{PageId}
use Rattle.page_base.specs.declared.numbers.SnapNo.{SnapNo}
use Rattle.sparse_set.specs.Sparse.{Sparse}
use Rattle.std.specs.Prelude.{ℕ}
use Rattle.snap_pages.specs.Shown.{Shown, set_of}
use Rattle.snap_pages.specs.Views.{KeepsViews, WritesView}
use Rattle.snap_pages.specs.Dues.{NoneNewDue}
use Rattle.snap_pages.specs.Steps.{ChangesSet, SamePlaces}
use Rattle.snap_pages.proofs.CallerLemmas.{dues_on}
use Rattle.undo_pass.specs.Heals.{OthersStay}

pub stay_on : (s : SnapNo) (a b c : Shown) → OthersStay s a b → OthersStay s b c → OthersStay s a c
stay_on s a b c one two = record {
  sets = λ k ne. two.sets k ne ∙ one.sets k ne;
  views = λ k ne kept. let h = two.views k ne kept in let g = one.views k ne h.0 in (g.0, h.1 ∙ g.1);
  its = λ kept. one.its (two.its kept);
  map = two.map ∙ one.map;
  places = record { counts = two.places.counts ∙ one.places.counts; count = two.places.count ∙ one.places.count; places = two.places.places ∙ one.places.places };
  dues = λ q. dues_on a b c q (one.dues q) (two.dues q);
}

module _ (s : SnapNo) (old new : Shown) (places : SamePlaces old new) (dues : (q : PageId) → NoneNewDue old new q) where
  -- a read
  pub stay_read : ChangesSet s old new → KeepsViews old new → (set_of new s).map ≡ (set_of old s).map → OthersStay s old new
  stay_read only views map = record { sets = only.others; views = λ k ne kept. views.each k kept; its = λ kept. (views.each s kept).0; map = map; places = places; dues = dues }

  -- a write
  pub stay_write : {T E : Type 0} (p : PageId) (bytes : List ℕ) (result : Result T E) → ChangesSet s old new → WritesView s p bytes old new result → (set_of new s).map ≡ (set_of old s).map → OthersStay s old new
  stay_write p bytes result only writes map = record { sets = only.others; views = writes.others; its = writes.its; map = map; places = places; dues = dues }

  -- no sparse file was called
  pub stay_kept : new.sets ≡ old.sets → KeepsViews old new → OthersStay s old new
  stay_kept sets views = record {
    sets = λ k ne. ap (λ (x : List Sparse). set_of (record old { sets = x }) k) sets;
    views = λ k ne kept. views.each k kept;
    its = λ kept. (views.each s kept).0;
    map = ap (λ (x : List Sparse). (set_of (record old { sets = x }) s).map) sets;
    places = places;
    dues = dues;
  }

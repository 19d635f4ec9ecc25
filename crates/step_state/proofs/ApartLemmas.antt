-- What one session's latch keeps from the others, its pins among all, and one snapshot's files by its cut.
use Rattle.std.proofs.Common.{◌≡◌, ◌≢◌, ℕ, ◌≤◌, Bool, true, false, [], length, refl, ap, sym, subst, ◌∙◌, inl, inr, arith}
use Rattle.std.specs.Prelude.{Option, Some, None, option_map}
use Rattle.std.specs.Option.{option_map_or}
use Rattle.std.proofs.lemmas.Bool.{cases_eq}
use Rattle.std.proofs.lemmas.List.{length-set}
use Rattle.page_base.specs.declared.numbers.PageId.{PageId}
use Rattle.page_base.specs.declared.numbers.SessNo.{SessNo}
use Rattle.page_base.specs.declared.numbers.SnapNo.{SnapNo}
use Rattle.page_base.specs.Pages.{blank}
use Rattle.buf_pool.specs.Pool.{Pooled, img as pool_img}
use Rattle.latch_book.specs.declared.latch.LatchMode.{LatchMode}
use Rattle.latch_book.specs.declared.latch.LatchMode.TheVariants.{Sh, Ex}
use Rattle.latch_book.specs.Latches.{latch_of}
use Rattle.page_tables.specs.Owners.{is_there}
use Rattle.sparse_set.specs.Sparse.{Sparse, is_copied, sparse_page}
use Rattle.snap_cat.specs.Catalog.{Snap, Catalog, IsCatalog, snap_at}
use Rattle.snap_pages.specs.Cuts.{place_of, snap_by, marked_by, sparse_by, is_sound_by, owed_by}
use Rattle.snap_pages.specs.Dues.{is_sound}
use Rattle.snap_pages.specs.Shown.{Shown, catalog, counts, pins, set_of, state_of, owes_of}
use Rattle.snap_pages.specs.Steps.{SamePlaces, ChangesSet}
use Rattle.snap_pages.specs.Views.{KeepsViews}
use Rattle.step_words.specs.declared.point.Point.{Point}
use Rattle.step_words.specs.declared.point.Point.TheVariants.{Start, Lock, Latch, Look, Fetch, Take, Plan, Claim, Change, Undo, Cut, Heal, Gather, Swap, Commit, Say, Leave, Gone}
use Rattle.step_words.specs.Seats.{Grip, no_seat, latch_at}
use Rattle.step_state.specs.State.{State, IsSession, sess, seat}
use Rattle.step_state.specs.Posed.{FitsGrip}
use Rattle.step_state.specs.Snapshots.{HoldsEx, page_read}
use Rattle.step_state.specs.Whole.{IsWholeSafe, seat_pins, snaps_pins}
use Rattle.step_state.specs.Safe.{Safe}
use Rattle.step_state.specs.Moving.{StaysShown}
use Rattle.step_state.proofs.SeatLemmas.{seat_pins_moved}

-- A LATCH IN EX

-- who reads a page holds its latch
pub read_latch : (point : Point) (found : Bool) (hold : Grip) (p : PageId) → FitsGrip point found hold → page_read point ≡ Some p → (m : LatchMode) × (latch_at hold ≡ Some (record { page = p; mode = m }))
read_latch Start found hold p fits at = cc
read_latch (Lock t n mode) found hold p fits at = cc
read_latch (Latch q ex) found hold p fits at = cc
read_latch (Look q) found hold p fits at = cc
read_latch (Fetch q) found hold p fits at = elim fits [
  | inl sh ↦ (Sh, ap latch_at sh ∙ ap (λ (o : Option PageId). option_map (λ r. record { page = r; mode = Sh }) o) at)
  | inr ex ↦ (Ex, ap latch_at ex ∙ ap (λ (o : Option PageId). option_map (λ r. record { page = r; mode = Ex }) o) at)
]
read_latch (Take q rows) true hold p fits at = elim fits [
  | inl latched ↦ (Sh, ap latch_at latched ∙ ap (λ (o : Option PageId). option_map (λ r. record { page = r; mode = Sh }) o) at)
  | inr fetched ↦ (Sh, ap latch_at fetched ∙ ap (λ (o : Option PageId). option_map (λ r. record { page = r; mode = Sh }) o) at)
]
read_latch (Take q rows) false hold p fits at = (Sh, ap latch_at fits ∙ ap (λ (o : Option PageId). option_map (λ r. record { page = r; mode = Sh }) o) at)
read_latch Plan found hold p fits at = cc
read_latch (Claim owner) found hold p fits at = cc
read_latch (Change q) found hold p fits at = cc
read_latch (Undo all) found hold p fits at = cc
read_latch Cut found hold p fits at = cc
read_latch Heal found hold p fits at = cc
read_latch Gather found hold p fits at = cc
read_latch Swap found hold p fits at = cc
read_latch Commit found hold p fits at = cc
read_latch Say found hold p fits at = cc
read_latch Leave found hold p fits at = cc
read_latch Gone found hold p fits at = cc

module _ (e : State) (k : ℕ) (page : PageId) (safe : Safe e) (is_k : IsSession e k) (held : HoldsEx (seat e k) page) where
  latched : latch_of e.latches (sess k) ≡ Some (record { page = page; mode = Ex })
  latched = (safe.sessions k is_k).seated.latched ∙ held

  -- no other session holds a latch on the page
  pub latch_apart : (j : ℕ) (p : PageId) (m : LatchMode) → IsSession e j → j ≢ k → latch_at (seat e j).hold ≡ Some (record { page = p; mode = m }) → p ≢ page
  latch_apart j p m is ne hold same =
      ne (ap (λ (w : SessNo). w.0) (sym (safe.whole.latches.alone (sess k) (sess j) page m latched ((safe.sessions j is).seated.latched ∙ hold ∙ ap (λ q. Some (record { page = q; mode = m })) same))))

  -- or reads it
  pub read_apart : (j : ℕ) (p : PageId) → IsSession e j → j ≢ k → page_read (seat e j).sitting.point ≡ Some p → p ≢ page
  read_apart j p is ne at =
      let l = read_latch (seat e j).sitting.point (seat e j).sitting.found (seat e j).hold p (safe.sessions j is).seated.posed.grip at in
      latch_apart j p l.0 is ne l.1

-- A SESSION'S PINS

pub seat_pins_in : (e : State) (k : ℕ) → IsWholeSafe e → IsSession e k → (p : PageId) → seat_pins (seat e k) p ≤ pins e.pages p
seat_pins_in e k whole is p =
    let moved = seat_pins_moved e.seats k no_seat p is.first is.last in
    let due = whole.pinned p in
    (let none : seat_pins no_seat p ≡ 0 = refl in omega (arith, moved, due, none))

-- A SNAPSHOT BY ITS CUT

module _ (v : Shown) (c : ℕ) (n : SnapNo) (at : place_of v c ≡ Some n) where
  its : snap_by v c ≡ Some (snap_at (catalog v) n, set_of v n)
  its = ap (λ o. option_map (λ (m : SnapNo). (snap_at (catalog v) m, set_of v m)) o) at

  pub marked_at : (p : PageId) → marked_by v c p ≡ is_copied (set_of v n) p
  marked_at p = ap (λ o. option_map_or (λ (f : Snap × Sparse). is_copied f.1 p) o false) its

  pub sparse_at : (p : PageId) → sparse_by v c p ≡ sparse_page (set_of v n) p
  sparse_at p = ap (λ o. option_map_or (λ (f : Snap × Sparse). sparse_page f.1 p) o blank) its

  pub sound_at : is_sound_by v c ≡ is_sound (state_of v n)
  sound_at = ap (λ o. option_map_or (λ (f : Snap × Sparse). is_sound f.0.state) o false) its

  pub owed_at : owed_by v c ≡ owes_of v n
  owed_at = ap (λ o. option_map_or (λ (f : Snap × Sparse). f.0.owed.recs) o []) its

-- ONE SNAPSHOT'S SPARSE FILES

pub by_place_no : (P : SnapNo → Type 0) (n m : SnapNo) → P n → (m ≢ n → P m) → P m
by_place_no P n m here other = elim (cases_eq n.0 m.0) [
  | inl e ↦ (let same : n ≡ m = λ i. record { 0 = e i } in subst P same here)
  | inr ne ↦ other (λ same. ne (ap (λ (j : SnapNo). j.0) (sym same)))
]

module _ (old new : Shown) (places : SamePlaces old new) where
  set_by : {T : Type 0} (f : Sparse → T) (d : T) (v : Shown) (o : Option SnapNo) → option_map_or (λ (e : Snap × Sparse). f e.1) (option_map (λ (n : SnapNo). (snap_at (catalog v) n, set_of v n)) o) d ≡ option_map_or (λ n. f (set_of v n)) o d
  set_by f d v None = refl
  set_by f d v (Some n) = refl

  on_each : {T : Type 0} (f : Sparse → T) (d : T) (o : Option SnapNo) → ((n : SnapNo) → f (set_of new n) ≡ f (set_of old n)) → option_map_or (λ n. f (set_of new n)) o d ≡ option_map_or (λ n. f (set_of old n)) o d
  on_each f d None same = refl
  on_each f d (Some n) same = same n

  -- where each map has the page as before, it is so by cuts
  pub marked_on : (c : ℕ) (p : PageId) → ((n : SnapNo) → is_copied (set_of new n) p ≡ is_copied (set_of old n) p) → marked_by new c p ≡ marked_by old c p
  marked_on c p same = set_by (λ (t : Sparse). is_copied t p) false new (place_of new c) ∙ on_each (λ (t : Sparse). is_copied t p) false (place_of new c) same
      ∙ ap (λ o. option_map_or (λ (n : SnapNo). is_copied (set_of old n) p) o false) (λ i. places.places i c) ∙ sym (set_by (λ (t : Sparse). is_copied t p) false old (place_of old c))

pub stays_set : (old new : Shown) (n : SnapNo) → ChangesSet n old new → SamePlaces old new → KeepsViews old new → (set_of new n).files.counts ≡ (set_of old n).files.counts
    → ((p : PageId) → is_copied (set_of old n) p ≡ true → is_copied (set_of new n) p ≡ true)
    → ((p : PageId) → is_copied (set_of new n) p ≡ true → is_copied (set_of old n) p ≡ false → is_there (counts old) p ≡ true) → StaysShown old new
stays_set old new n only places views here grows comes = record {
  tells = ap (λ (x : Pooled). x.files.tells) only.pool;
  images = λ told. ap (λ (x : Pooled). pool_img x) only.pool;
  places = places;
  views = views;
  names = λ m. ap (λ (c : Catalog). (snap_at c m).name) only.cat;
  cuts = λ m. ap (λ (c : Catalog). (snap_at c m).cut) only.cat;
  owed = λ m. ap (λ (c : Catalog). (snap_at c m).owed.recs) only.cat;
  states = λ m. inl (ap (λ (c : Catalog). (snap_at c m).state) only.cat);
  next = ap (λ (c : Catalog). c.next_cut) only.cat;
  ordered = λ is. subst IsCatalog (sym only.cat) is;
  due = λ p. ap (λ (c : Catalog). snaps_pins c.snaps p) only.cat;
  many = ap (λ (v : Shown). length v.sets) only.is ∙ length-set old.sets n.0 (set_of new n);
  alike = λ m. by_place_no (λ j. (set_of new j).files.counts ≡ (set_of old j).files.counts) n m here (λ ne. ap (λ (t : Sparse). t.files.counts) (only.others m ne));
  grows = λ m p. by_place_no (λ j. is_copied (set_of old j) p ≡ true → is_copied (set_of new j) p ≡ true) n m (grows p) (λ ne t. ap (λ (x : Sparse). is_copied x p) (only.others m ne) ∙ t);
  comes = λ m p. by_place_no (λ j. is_copied (set_of new j) p ≡ true → is_copied (set_of old j) p ≡ false → is_there (counts old) p ≡ true) n m (comes p)
      (λ ne t f. absurd (let wrong : true ≡ false = sym t ∙ ap (λ (x : Sparse). is_copied x p) (only.others m ne) ∙ f in cc));
}

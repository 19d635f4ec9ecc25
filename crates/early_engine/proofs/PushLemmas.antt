-- Pushes, one after the other, and the turns that they enter.
use Rattle.std.proofs.Common.{◌≡◌, ◌≢◌, ◌≤◌, ◌<◌, ℕ, suc, zero, ◌+◌, ◌-◌, ◌⊎◌, inl, inr, Bool, true, false, cond, IsTrue, ◌&&◌, not, List, [], ◌∷◌, ◌++◌, length, map, get_or, refl, ap, sym, ◌∙◌, subst, arith, append_assoc, append-nil, length-append, length-set}
use Rattle.std.proofs.Math.ListN.{set}
use Rattle.std.proofs.Math.Seq.{map-set_same}
use Rattle.std.specs.List.{AllByRecursion, find, list_any}
use Rattle.std.specs.Str.{bytes_eq}
use Rattle.std.proofs.lemmas.List.{length-map, get_or-map, get_or-set_same, get_or-set_other, set-set}
use Rattle.std.proofs.lemmas.Bool.{cases_eq, cases_lt, cases_Bool}
use Rattle.std.proofs.lemmas.Slice.Eq.{bytes_eq-Decides}
use Rattle.std.proofs.lemmas.List.Folds.{list_any_none}
use Rattle.std.proofs.lemmas.List.Sums.{sum_by-set}
use Rattle.std.specs.Prelude.{Some, is_some, sum_by, Result}
use Rattle.plain_model.specs.State.{is_snap}
use Rattle.plain_model.specs.State as plain_state
use Rattle.plain_model.specs.Legal.{turned}
use Rattle.page_base.specs.declared.numbers.SnapNo.{SnapNo}
use Rattle.page_dev.specs.Faults.{Rose}
use Rattle.plain_model.specs.declared.event.Event.{Event}
use Rattle.plain_model.specs.declared.event.Event.TheVariants.{Turned}
use Rattle.plain_model.specs.State.{Plain}
use Rattle.plain_model.specs.Legal.{LegalFrom, end_from, after}
use Rattle.early_pages.specs.declared.state.SnapState.{SnapState}
use Rattle.early_pages.specs.declared.state.SnapState.TheVariants.{Making, Online, Suspect}
use Rattle.early_pages.specs.Catalog.{Snap, Catalog, IsCatalog, snap_at, HasSnap, no_snap, with_set, with_state}
use Rattle.early_pages.specs.Shown.{Shown, img, counts, IsOpen, set_of, state_of, with_catalog}
use Rattle.early_pages.specs.Shown as shown
use Rattle.page_base.specs.declared.numbers.PageId.{PageId}
use Rattle.early_pages.specs.Sparse.{faults, marked, UsesFiles}
use Rattle.early_pages.specs.Views.{KeepsViews}
use Rattle.early_engine.specs.Entering.{Kept, entered}
use Rattle.early_engine.specs.Pushing.{is_suspect, plainly, weight, snaps_of, sound, name_of, faults_of, StaysOrTurns, Alike, Leaves, Pushes, IsTurn, Turns}

-- ONE EVENT LIST AFTER THE OTHER

pub legal_append : (st : Plain) (es fs : List Event) → LegalFrom st es → LegalFrom (end_from st es) fs → LegalFrom st (es ++ fs)
legal_append st [] fs h k = k
legal_append st (e ∷ es) fs h k = (h.0, legal_append (after st e) es fs h.1 k)

pub end_append : (st : Plain) (es fs : List Event) → end_from st (es ++ fs) ≡ end_from (end_from st es) fs
end_append st [] fs = refl
end_append st (e ∷ es) fs = end_append (after st e) es fs

-- WHAT STAYS

pub keeps_trans : (u v w : Shown) → KeepsViews u v → KeepsViews v w → KeepsViews u w
keeps_trans u v w a b = record { each = λ s kept. let k = b.each s kept in let j = a.each s k.0 in (j.0, k.1 ∙ j.1) }

rose_then : (a b c : ℕ) → Rose a b → b ≤ c → Rose a c
rose_then a b c r le = omega (arith, r, le)

then_rose : (a b c : ℕ) → a ≤ b → Rose b c → Rose a c
then_rose a b c le r = omega (arith, r, le)

state_trans : (x y z : SnapState) (a b c : ℕ) → a ≤ b → b ≤ c → StaysOrTurns x y a b → StaysOrTurns y z b c → StaysOrTurns x z a c
state_trans x y z a b c le le' (inl e) (inl f) = inl (f ∙ e)
state_trans x y z a b c le le' (inl e) (inr f) = inr (subst (λ (s : SnapState). s ≢ Suspect) e f.0, f.1, then_rose a b c le f.2)
state_trans x y z a b c le le' (inr e) (inl f) = inr (e.0, f ∙ e.1, rose_then a b c e.2 le')
state_trans x y z a b c le le' (inr e) (inr f) = absurd (f.0 e.1)

pub alike_trans : (x y z : Snap) → Alike x y → Alike y z → Alike x z
alike_trans x y z a b = record {
  name = b.name ∙ a.name;
  files = b.files ∙ a.files;
  cut = b.cut ∙ a.cut;
  tells = b.tells ∙ a.tells;
  later = let p = a.later in let q = b.later in omega (arith, p, q);
  state = state_trans x.state y.state z.state (faults x.set) (faults y.set) (faults z.set) a.later b.later a.state b.state;
}

pub alike_refl : (x : Snap) → Alike x x
alike_refl x = record { name = refl; files = refl; cut = refl; tells = refl; later = omega arith; state = inl refl }

pub pushes_trans : (u v w : Shown) → Pushes u v → Pushes v w → Pushes u w
pushes_trans u v w a b = record {
  img = b.img ∙ a.img;
  counts = b.counts ∙ a.counts;
  count = b.count ∙ a.count;
  next_cut = b.next_cut ∙ a.next_cut;
  each = λ s. alike_trans (snap_at (shown.catalog u) s) (snap_at (shown.catalog v) s) (snap_at (shown.catalog w) s) (a.each s) (b.each s);
  views = keeps_trans u v w a.views b.views;
}

pub leaves_of : (u v : Shown) → Pushes u v → Leaves u v
leaves_of u v a = record { counts = a.counts; count = a.count; next_cut = a.next_cut; each = a.each; views = a.views }

pub leaves_trans : (u v w : Shown) → Leaves u v → Leaves v w → Leaves u w
leaves_trans u v w a b = record {
  counts = b.counts ∙ a.counts;
  count = b.count ∙ a.count;
  next_cut = b.next_cut ∙ a.next_cut;
  each = λ s. alike_trans (snap_at (shown.catalog u) s) (snap_at (shown.catalog v) s) (snap_at (shown.catalog w) s) (a.each s) (b.each s);
  views = keeps_trans u v w a.views b.views;
}

-- a source page changed
pub leaves_changed : (v w : Shown) → counts w ≡ counts v → shown.catalog w ≡ shown.catalog v → KeepsViews v w → Leaves v w
leaves_changed v w same cat views = record {
  counts = same;
  count = ap (λ (c : Catalog). length c.snaps) cat;
  next_cut = ap (λ (c : Catalog). c.next_cut) cat;
  each = λ s. subst (λ (c : Catalog). Alike (snap_at (shown.catalog v) s) (snap_at c s)) (sym cat) (alike_refl (snap_at (shown.catalog v) s));
  views = views;
}

pub leaves_refl : (v : Shown) → Leaves v v
leaves_refl v = leaves_changed v v refl refl (record { each = λ s kept. (kept, refl) })

pub pushes_refl : (v : Shown) → Pushes v v
pushes_refl v = record { img = refl; counts = refl; count = refl; next_cut = refl; each = λ s. alike_refl (snap_at (shown.catalog v) s); views = record { each = λ s kept. (kept, refl) } }

-- TURNS, ONE LIST AFTER THE OTHER

-- a suspect snapshot stays suspect
pub still_lost : (x y : Snap) → Alike x y → x.state ≡ Suspect → y.state ≡ Suspect
still_lost x y a lost = elim a.state as (λ s. y.state ≡ Suspect) [ inl e ↦ e ∙ lost | inr t ↦ absurd (t.0 lost) ]

is_turn_before : (u v w : Shown) → Leaves v w → (e : Event) → IsTurn u v e → IsTurn u w e
is_turn_before u v w b e t = record { snap = t.snap; there = t.there; is = t.is; lost = still_lost (snap_at (shown.catalog v) t.snap) (snap_at (shown.catalog w) t.snap) (b.each t.snap) t.lost; rose = rose_then (faults_of u t.snap) (faults_of v t.snap) (faults_of w t.snap) t.rose (b.each t.snap).later }

is_turn_behind : (u v w : Shown) → Leaves u v → (e : Event) → IsTurn v w e → IsTurn u w e
is_turn_behind u v w a e t = record {
  snap = t.snap;
  there = let c = a.count in let h = t.there in omega (arith, c, h);
  is = t.is ∙ ap Turned (a.each t.snap).name;
  lost = t.lost;
  rose = then_rose (faults_of u t.snap) (faults_of v t.snap) (faults_of w t.snap) (a.each t.snap).later t.rose;
}

all_of : (P Q : Event → Type 0) → ((e : Event) → P e → Q e) → (es : List Event) → AllByRecursion P es → AllByRecursion Q es
all_of P Q f [] h = tt
all_of P Q f (e ∷ es) h = (f e h.0, all_of P Q f es h.1)

all_append : (P : Event → Type 0) → (es fs : List Event) → AllByRecursion P es → AllByRecursion P fs → AllByRecursion P (es ++ fs)
all_append P [] fs h k = k
all_append P (e ∷ es) fs h k = (h.0, all_append P es fs h.1 k)

pub turns_trans : (a b c : Kept) (u v w : Shown) → Leaves u v → Leaves v w → Turns a b u v → Turns b c v w → Turns a c u w
turns_trans a b c u v w p q x y = record {
  events = x.events ++ y.events;
  more = y.more ∙ ap (λ (es : List Event). es ++ y.events) x.more ∙ append_assoc a.events x.events y.events;
  each = all_append (IsTurn u w) x.events y.events (all_of (IsTurn u v) (IsTurn u w) (is_turn_before u v w q) x.events x.each) (all_of (IsTurn v w) (IsTurn u w) (is_turn_behind u v w p) y.events y.each);
  legal = λ st is. legal_append st x.events y.events (x.legal st is) (subst (λ (m : Plain). LegalFrom m y.events) (sym (x.leads st is)) (y.legal (record st { snaps = snaps_of v; moment = st.moment + length x.events }) refl));
  leads = λ st is. end_append st x.events y.events ∙ ap (λ (m : Plain). end_from m y.events) (x.leads st is) ∙ y.leads (record st { snaps = snaps_of v; moment = st.moment + length x.events }) refl
      ∙ ap (λ (n : ℕ). record st { snaps = snaps_of w; moment = n }) (simp length-append (omega arith));
  room = let r = x.room in let s = y.room in let l = length-append x.events y.events in omega (arith, r, s, l);
  fewer = let r = x.fewer in let s = y.fewer in let l = length-append x.events y.events in omega (arith, r, s, l);
}

pub turns_none : (a : Kept) (v w : Shown) → snaps_of w ≡ snaps_of v → sound w ≡ sound v → Turns a a v w
turns_none a v w e s = record {
  events = [];
  more = sym (append-nil a.events);
  each = tt;
  legal = λ st is. tt;
  leads = λ st is. ap (λ (ss : List _). record st { snaps = ss }) (is ∙ sym e) ∙ ap (λ (n : ℕ). record st { snaps = snaps_of w; moment = n }) (omega arith);
  room = omega arith;
  fewer = omega (arith, s);
}

-- ONE SNAPSHOT CHANGES

module _ (cat : Catalog) (s : SnapNo) (x : Snap) (has : HasSnap cat s) where
  here : (k : SnapNo) → k.0 ≡ s.0 → snap_at (record cat { snaps = set cat.snaps s.0 x }) k ≡ x
  here k e = ap (λ n. get_or (set cat.snaps s.0 x) n no_snap) e ∙ get_or-set_same cat.snaps s.0 x no_snap has

  elsewhere : (k : SnapNo) → k.0 ≢ s.0 → snap_at (record cat { snaps = set cat.snaps s.0 x }) k ≡ snap_at cat k
  elsewhere k ne = get_or-set_other cat.snaps s.0 k.0 x no_snap ne

  at_place : (k : SnapNo) → k.0 ≡ s.0 → snap_at cat k ≡ snap_at cat s
  at_place k e = ap (λ n. get_or cat.snaps n no_snap) e

  -- the one snapshot is like it was, and so is each
  pub alike_each : Alike (snap_at cat s) x → (k : SnapNo) → Alike (snap_at cat k) (snap_at (record cat { snaps = set cat.snaps s.0 x }) k)
  alike_each a k = elim (cases_eq k.0 s.0) [
    | inl e ↦ subst (λ (y : Snap). Alike (snap_at cat k) y) (sym (here k e)) (subst (λ (y : Snap). Alike y x) (sym (at_place k e)) a)
    | inr ne ↦ subst (λ (y : Snap). Alike (snap_at cat k) y) (sym (elsewhere k ne)) (alike_refl (snap_at cat k))
  ]

-- the source is as it was, and so are all snapshots but one, which is like it was
pub pushes_one : (v w : Shown) (s : SnapNo) (x : Snap) → IsOpen v s → w ≡ with_catalog v (record (shown.catalog v) { snaps = set (shown.catalog v).snaps s.0 x }) → Alike (snap_at (shown.catalog v) s) x → KeepsViews v w → Pushes v w
pushes_one v w s x has is a views = record {
  img = ap img is;
  counts = ap counts is;
  count = ap shown.count is ∙ simp length-set refl;
  next_cut = ap (λ (u : Shown). (shown.catalog u).next_cut) is;
  each = λ k. subst (λ (u : Shown). Alike (snap_at (shown.catalog v) k) (snap_at (shown.catalog u) k)) (sym is) (alike_each (shown.catalog v) s x has a k);
  views = views;
}

-- A SNAPSHOT TURNS SUSPECT

pub bytes_same : (a : List ℕ) → bytes_eq a a ≡ true
bytes_same a = (bytes_eq-Decides a a).1 refl

pub bytes_ne : (a b : List ℕ) → a ≢ b → bytes_eq a b ≡ false
bytes_ne a b ne = elim (cases_Bool (bytes_eq a b)) [
  | inl e ↦ absurd (ne ((bytes_eq-Decides a b).0 e))
  | inr e ↦ e
]

module _ {A B : Type 0} (f g : A → B) (d : A) where
  map_all : (xs : List A) → ((j : ℕ) → j < length xs → f (get_or xs j d) ≡ g (get_or xs j d)) → map f xs ≡ map g xs
  map_all [] h = refl
  map_all (x ∷ xs) h = ap (λ y. y ∷ map f xs) (h 0 (omega arith)) ∙ ap (λ ys. g x ∷ ys) (map_all xs (λ j lt. h (suc j) (omega (arith, lt))))

  -- one element differs, and the others are mapped alike
  pub map_but : (xs : List A) (i : ℕ) (x : A) → ((j : ℕ) → j < length xs → j ≢ i → f (get_or xs j d) ≡ g (get_or xs j d)) → i < length xs → f (get_or xs i d) ≡ g x → map f xs ≡ map g (set xs i x)
  map_but [] i x h lt e = absurd (omega (arith, lt))
  map_but (y ∷ ys) zero x h lt e = ap (λ z. z ∷ map f ys) e ∙ ap (λ zs. g x ∷ zs) (map_all ys (λ j l. h (suc j) (omega (arith, l)) (λ is. omega (arith, is))))
  map_but (y ∷ ys) (suc i) x h lt e = ap (λ z. z ∷ map f ys) (h 0 (omega arith) (λ is. omega (arith, is))) ∙ ap (λ zs. g y ∷ zs) (map_but ys i x (λ j l ne. h (suc j) (omega (arith, l)) (λ is. ne (omega (arith, is)))) (omega (arith, lt)) e)

pub map_map : {A B C : Type 0} (f : A → B) (g : B → C) (xs : List A) → map g (map f xs) ≡ map (λ x. g (f x)) xs
map_map f g [] = refl
map_map f g (x ∷ xs) = ap (λ ys. g (f x) ∷ ys) (map_map f g xs)

pub is_some_found : {A : Type 0} → (p : A → Bool) (xs : List A) (i : ℕ) (d : A) → i < length xs → p (get_or xs i d) ≡ true → is_some (find p xs) ≡ true
is_some_found p [] i d lt e = absurd (omega (arith, lt))
is_some_found p (x ∷ xs) zero d lt e = rw e refl
is_some_found p (x ∷ xs) (suc i) d lt e = let ih = is_some_found p xs i d (omega (arith, lt)) e in elim (p x) as (λ b. is_some (cond b (Some x) (find p xs)) ≡ true) [ true ↦ refl | false ↦ ih ]

sound_state : (state : SnapState) → state ≢ Suspect → is_suspect state ≡ false
sound_state Making ne = refl
sound_state Online ne = refl
sound_state Suspect ne = absurd (ne refl)

module _ (v w : Shown) (s : SnapNo) (x : Snap) (has : IsOpen v s) (catalog : IsCatalog (shown.catalog v)) (sound_is : state_of v s ≢ Suspect)
    (is : w ≡ with_catalog v (record (shown.catalog v) { snaps = set (shown.catalog v).snaps s.0 x })) (like : Alike (snap_at (shown.catalog v) s) x) (lost : x.state ≡ Suspect) where
  xs : List Snap
  xs = (shown.catalog v).snaps

  other_name : (j : ℕ) → j < length xs → j ≢ s.0 → bytes_eq (get_or xs j no_snap).name (name_of v s) ≡ false
  unfolding xs
  other_name j lt ne = bytes_ne (get_or xs j no_snap).name (name_of v s) (λ same. elim (cases_lt j s.0) [
    | inl less ↦ catalog.apart (record { 0 = j }) s less has same
    | inr more ↦ catalog.apart s (record { 0 = j }) (omega (arith, more, ne)) lt (sym same)
  ])

  turned_snaps : map (turned (name_of v s)) (snaps_of v) ≡ snaps_of w
  unfolding xs
  turned_snaps =
      map_map plainly (turned (name_of v s)) xs
      ∙ map_but (λ y. turned (name_of v s) (plainly y)) plainly no_snap xs s.0 x
      (λ j lt ne. rw (other_name j lt ne) refl) has
      (rw (bytes_same (name_of v s)) (let n = sym like.name in let f = sym like.files in let k = sym like.cut in let l : true ≡ is_suspect x.state = sym (ap is_suspect lost) in λ i. record { name = n i; files = f i; cut = k i; suspect = l i }))
      ∙ ap snaps_of (sym is)

  one_place : (j : ℕ) → j ≡ s.0 → get_or xs j no_snap ≡ snap_at (shown.catalog v) s
  unfolding xs
  one_place j e = ap (λ n. get_or (shown.catalog v).snaps n no_snap) e

  -- no snapshot of this name is suspect
  not_lost : (y : Snap) → (y ≡ snap_at (shown.catalog v) s) ⊎ (bytes_eq y.name (name_of v s) ≡ false) → (bytes_eq y.name (name_of v s) && is_suspect y.state) ≡ false
  not_lost y (inl e) = rw (e, sound_state (state_of v s) sound_is) (elim (bytes_eq (name_of v s) (name_of v s)) as (λ b. (b && false) ≡ false) [ true ↦ refl | false ↦ refl ])
  not_lost y (inr e) = rw e refl

  may_turn : (st : Plain) → st.snaps ≡ snaps_of v → IsTrue (is_snap st (name_of v s) && not (plain_state.is_suspect st (name_of v s)))
  unfolding xs
  may_turn st e =
      let lt : s.0 < length (snaps_of v) = simp length-map has in
      let at : (j : ℕ) (d : _) → j < length xs → get_or (snaps_of v) j d ≡ plainly (get_or xs j no_snap) = λ j d lt. get_or-map plainly xs j no_snap d lt in
      let there : is_some (find (λ y. bytes_eq y.name (name_of v s)) (snaps_of v)) ≡ true =
      is_some_found (λ y. bytes_eq y.name (name_of v s)) (snaps_of v) s.0 (plainly no_snap) lt (rw (at s.0 (plainly no_snap) has) (bytes_same (name_of v s))) in
      let sound : list_any (λ y. bytes_eq y.name (name_of v s) && y.suspect) (snaps_of v) ≡ false =
      list_any_none (λ y. bytes_eq y.name (name_of v s) && y.suspect) (snaps_of v) (λ j d lt.
      let l : j < length xs = simp length-map at lt in
      rw (at j d l) (not_lost (get_or xs j no_snap) (elim (cases_eq j s.0) [ inl same ↦ inl (one_place j same) | inr ne ↦ inr (other_name j l ne) ]))) in
      rw (e, there, sound) refl

  lost_now : state_of w s ≡ Suspect
  lost_now = ap (λ (u : Shown). state_of u s) is ∙ ap (λ (y : Snap). y.state) (get_or-set_same (shown.catalog v).snaps s.0 x no_snap has) ∙ lost

  one_less : sound w + 1 ≡ sound v
  unfolding xs sound
  one_less =
      let f = sum_by-set weight xs s.0 x no_snap has in
      let old : weight (get_or xs s.0 no_snap) ≡ 1 = rw (sound_state (state_of v s) sound_is) refl in
      let new : weight x ≡ 0 = rw lost refl in
      let whole : sum_by weight (shown.catalog w).snaps ≡ sum_by weight (set xs s.0 x) = ap (λ (u : Shown). sum_by weight (shown.catalog u).snaps) is in
      omega (arith, f, old, new, whole)

  -- the turn is one that may come, and leads to the new snapshots
  pub turns_one : (a b : Kept) → b ≡ entered a (Turned (name_of v s)) → 0 < a.room → Rose (faults_of v s) (faults_of w s) → Turns a b v w
  turns_one a b made room rose = record {
    events = Turned (name_of v s) ∷ [];
    more = ap (λ (k : Kept). k.events) made;
    each = (record { snap = s; there = has; is = refl; lost = lost_now; rose = rose }, tt);
    legal = λ st e. (may_turn st e, tt);
    leads = λ st e. ap (λ ss. record st { snaps = ss; moment = st.moment + 1 }) (ap (map (turned (name_of v s))) e ∙ turned_snaps);
    room = let r : b.room ≡ a.room - 1 = ap (λ (k : Kept). k.room) made in omega (arith, r, room);
    fewer = let l = one_less in omega (arith, l);
  }

-- no snapshot turned
pub turns_set : (a : Kept) (v w : Shown) (s : SnapNo) (x : Snap) → IsOpen v s → w ≡ with_catalog v (record (shown.catalog v) { snaps = set (shown.catalog v).snaps s.0 x }) → plainly x ≡ plainly (snap_at (shown.catalog v) s) → x.state ≡ state_of v s → Turns a a v w
unfolding sound
turns_set a v w s x has is same state =
    let f = sum_by-set weight (shown.catalog v).snaps s.0 x no_snap has in
    let alike : weight x ≡ weight (snap_at (shown.catalog v) s) = ap (λ (t : SnapState). cond (is_suspect t) 0 1) state in
    let whole : sum_by weight (shown.catalog w).snaps ≡ sum_by weight (set (shown.catalog v).snaps s.0 x) = ap (λ (u : Shown). sum_by weight (shown.catalog u).snaps) is in
    turns_none a v w (ap snaps_of is ∙ map-set_same plainly (shown.catalog v).snaps s.0 x no_snap same) (omega (arith, f, alike, whole))

-- ONE PUSH

pub some_sound : (v : Shown) (s : SnapNo) → IsOpen v s → state_of v s ≢ Suspect → 0 < sound v
unfolding sound
some_sound v s has sound_is =
    let f = sum_by-set weight (shown.catalog v).snaps s.0 no_snap no_snap has in
    let old : weight (get_or (shown.catalog v).snaps s.0 no_snap) ≡ 1 = rw (sound_state (state_of v s) sound_is) refl in
    omega (arith, f, old)

module _ {T E : Type 0} (v mid : Shown) (s : SnapNo) (p : PageId) (result : Result T E) (has : IsOpen v s) (uses : UsesFiles p (set_of v s) (set_of mid s) result)
    (only : mid ≡ with_catalog v (with_set (shown.catalog v) s (set_of mid s))) (views : KeepsViews v mid) where
  used : Snap
  used = record (snap_at (shown.catalog v) s) { set = set_of mid s }

  -- a snapshot whose files were used
  pub pushes_used : Pushes v mid
  unfolding used
  pushes_used = pushes_one v mid s used has only (record { name = refl; files = refl; cut = refl; tells = uses.tells; later = uses.cause.later; state = inl refl }) views

  pub turns_used : (a : Kept) → Turns a a v mid
  unfolding used
  turns_used a = turns_set a v mid s used has only refl refl

  module _ (w : Shown) (marks : w ≡ with_catalog mid (with_set (shown.catalog mid) s (marked (set_of mid s) p))) (views' : KeepsViews mid w) where
    open_still : IsOpen mid s
    open_still = let c = pushes_used.count in omega (arith, c, has)

    pub pushes_marked : Pushes v w
    pushes_marked = pushes_trans v mid w pushes_used (pushes_one mid w s (record (snap_at (shown.catalog mid) s) { set = marked (set_of mid s) p }) open_still marks (record { name = refl; files = refl; cut = refl; tells = refl; later = omega arith; state = inl refl }) views')

    pub turns_marked : (a : Kept) → Turns a a v w
    turns_marked a =
        turns_trans a a a v mid w (leaves_of v mid pushes_used) (leaves_of mid w (pushes_one mid w s (record (snap_at (shown.catalog mid) s) { set = marked (set_of mid s) p }) open_still marks (record { name = refl; files = refl; cut = refl; tells = refl; later = omega arith; state = inl refl }) views'))
        (turns_used a) (turns_set a mid w s (record (snap_at (shown.catalog mid) s) { set = marked (set_of mid s) p }) open_still marks refl refl)

  module _ (w : Shown) (turn : w ≡ with_catalog mid (with_state (shown.catalog mid) s Suspect)) (views' : KeepsViews mid w) (catalog : IsCatalog (shown.catalog v)) (sound_is : state_of v s ≢ Suspect)
      (rose : Rose (faults_of v s) (faults_of mid s)) where
    lost : Snap
    lost = record (snap_at (shown.catalog v) s) { set = set_of mid s; state = Suspect }

    name_same : name_of mid s ≡ name_of v s
    name_same = (pushes_used.each s).name

    mid_snap : snap_at (shown.catalog mid) s ≡ used
    unfolding used
    mid_snap = ap (λ (u : Shown). snap_at (shown.catalog u) s) only ∙ get_or-set_same (shown.catalog v).snaps s.0 used no_snap has

    twice : w ≡ with_catalog v (record (shown.catalog v) { snaps = set (shown.catalog v).snaps s.0 lost })
    unfolding lost used
    twice =
        turn ∙ ap (λ (x : Snap). with_catalog mid (record (shown.catalog mid) { snaps = set (shown.catalog mid).snaps s.0 (record x { state = Suspect }) })) mid_snap
        ∙ ap (λ (u : Shown). with_catalog u (record (shown.catalog u) { snaps = set (shown.catalog u).snaps s.0 lost })) only
        ∙ ap (λ (xs : List Snap). with_catalog v (record (shown.catalog v) { snaps = xs })) (set-set (shown.catalog v).snaps s.0 used lost)

    set_same : set_of w s ≡ set_of mid s
    unfolding lost
    set_same = ap (λ (u : Shown). set_of u s) twice ∙ ap (λ (x : Snap). x.set) (get_or-set_same (shown.catalog v).snaps s.0 lost no_snap has)

    lost_alike : Alike (snap_at (shown.catalog v) s) lost
    unfolding lost
    lost_alike = record { name = refl; files = refl; cut = refl; tells = uses.tells; later = uses.cause.later; state = inr (sound_is, refl, rose) }

    pub pushes_turned : Pushes v w
    pushes_turned = pushes_one v w s lost has twice lost_alike (keeps_trans v mid w views views')

    pub turns_turned : (a b : Kept) → b ≡ entered a (Turned (name_of mid s)) → 0 < a.room → Turns a b v w
    unfolding lost
    turns_turned a b made room = turns_one v w s lost has catalog sound_is twice lost_alike refl a b (made ∙ ap (λ (n : List ℕ). entered a (Turned n)) name_same) room (subst (λ x. Rose (faults_of v s) (faults x)) (sym set_same) rose)

-- a source page changed, and no snapshot turned
pub turns_changed : (a : Kept) (v w : Shown) → shown.catalog w ≡ shown.catalog v → Turns a a v w
unfolding sound
turns_changed a v w cat = turns_none a v w (ap (λ (c : Catalog). map plainly c.snaps) cat) (ap (λ (c : Catalog). sum_by weight c.snaps) cat)

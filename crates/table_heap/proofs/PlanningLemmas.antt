-- What a plan reads of a heap: its leaves and its last root page.
use Rattle.std.proofs.Common.{refl, ◌≡◌, ℕ, zero, suc, ◌+◌, ◌<◌, ◌≤◌, List, [], ◌∷◌, ◌++◌, length, get_or, map, take, ap, sym, ◌∙◌, subst, arith, Bool, true, false, cond, inl, inr}
use Rattle.std.specs.Prelude.{◌⊎◌}
use Rattle.std.specs.List.{All, Any}
use Rattle.std.proofs.lemmas.List.Elements.{All-nil, All-cons, All-head, All-tail}
use Rattle.page_base.specs.declared.column.Column.{Column}
use Rattle.page_fmt.proofs.SeenLemmas.{look-place}
use Rattle.std.proofs.lemmas.List.{append-nil, take_more}
use Rattle.page_base.specs.declared.numbers.PageId.{PageId}
use Rattle.page_base.specs.Pages.{is_page}
use Rattle.page_fmt.specs.Seen.{Looked, place_of, look, Saw}
use Rattle.table_walk.specs.declared.refusal.SeenRefusal.{SeenRefusal}
use Rattle.table_walk.specs.declared.refusal.SeenRefusal.TheVariants.{Damaged, Memory}
use Rattle.table_walk.specs.declared.visit.Visit.{Visit}
use Rattle.table_walk.specs.Answers.{IsAt, IsMemory}
use Rattle.table_walk.specs.Tables.{is_leaf, IsNoRow, IsNoRowOf, IsBadRow}
use Rattle.table_walk.proofs.WalkLemmas.{page_at-place}
use Rattle.table_walk.specs.Walk.{IsSeenWalk}
use Rattle.table_heap.specs.Emission.{last_or, read_pages, read_slots}
use Rattle.table_heap.specs.Heap.{heap_kids, first}
use Rattle.table_heap.specs.Shape.{leaves_in, roots_in}
use Rattle.table_heap.proofs.GrowTable.{LastRoot, last_root}
use Rattle.table_heap.proofs.ShapeLemmas.{leaves_in-append, roots_in-append}

pub only_memory : (e : SeenRefusal) → IsAt (λ p s. ⊥) e → IsMemory e
only_memory (Damaged p s) bad = bad
only_memory Memory bad = tt

-- a page that wasn't read
pub look_none : (seen : List Looked) (p : PageId) → length seen ≤ place_of seen p → look seen p ≡ []
look_none [] p h = refl
look_none (l ∷ ls) p h =
    let by : (b : Bool) → is_page l.page p ≡ b → length (l ∷ ls) ≤ cond {A = ℕ} b 0 (place_of ls p + 1) → cond b l.slots (look ls p) ≡ [] =
    elim [
      | true ↦ λ e k. absurd (omega arith)
      | false ↦ λ e k. look_none ls p (omega arith)
    ] in
    by (is_page l.page p) refl h

-- one visit more
module _ (done : List Visit) (i : ℕ) (v : Visit) (h : i < length done) (is : v ≡ get_or done i v) where
  one_more : take (i + 1) done ≡ take i done ++ v ∷ []
  one_more = take_more done i v h ∙ ap (λ x. take i done ++ x ∷ []) (sym is)

  pub leaves_skip : is_leaf v ≡ false → leaves_in (take i done) ≡ leaves_in (take (i + 1) done)
  leaves_skip e = sym (ap leaves_in one_more ∙ leaves_in-append (take i done) (v ∷ []) ∙ ap (λ b. leaves_in (take i done) ++ cond b (v.page ∷ []) []) e ∙ append-nil (leaves_in (take i done)))

  pub leaves_take : is_leaf v ≡ true → leaves_in (take (i + 1) done) ≡ leaves_in (take i done) ++ v.page ∷ []
  leaves_take e = ap leaves_in one_more ∙ leaves_in-append (take i done) (v ∷ []) ∙ ap (λ b. leaves_in (take i done) ++ cond b (v.page ∷ []) []) e

  pub roots_skip : is_leaf v ≡ true → roots_in (take i done) ≡ roots_in (take (i + 1) done)
  roots_skip e = sym (ap roots_in one_more ∙ roots_in-append (take i done) (v ∷ []) ∙ ap (λ b. roots_in (take i done) ++ cond b [] (v.page ∷ [])) e ∙ append-nil (roots_in (take i done)))

  pub roots_take : is_leaf v ≡ false → roots_in (take (i + 1) done) ≡ roots_in (take i done) ++ v.page ∷ []
  roots_take e = ap roots_in one_more ∙ roots_in-append (take i done) (v ∷ []) ∙ ap (λ b. roots_in (take i done) ++ cond b [] (v.page ∷ [])) e

pub last_or_end : (d p : PageId) (ps : List PageId) → last_or d (ps ++ p ∷ []) ≡ p
last_or_end d p [] = refl
last_or_end d p (q ∷ qs) = last_or_end q p qs

pub map_end : {X Y : Type 0} (f : X → Y) (xs : List X) (x : X) → map f (xs ++ x ∷ []) ≡ map f xs ++ f x ∷ []
map_end f [] x = refl
map_end f (y ∷ ys) x = ap (λ zs. f y ∷ zs) (map_end f ys x)

-- THE LAST ROOT PAGE

pub record Counted (seen : List Looked) (last : PageId) : Type 0 where
  pub some : 0 < length (look seen last)
  pub short : length (look seen last) ≤ 1001

pub last_counted : (seen : List Looked) (root : PageId) (done : List Visit) → IsSeenWalk heap_kids seen (first root) done [] → Counted seen (last_or root (roots_in done))
last_counted seen root done w =
    let l : LastRoot (look seen) done = last_root (look seen) root done w.walk in
    let is : l.last ≡ last_or root (roots_in done) = sym (ap (last_or root) l.roots ∙ last_or_end root l.last l.front) in
    subst (Counted seen) is (record { some = omega (arith, ap length l.slots); short = l.short })

-- WHERE LEAVES WERE READ

any_cons : {X : Type 0} (P : X → Type 0) (x : X) (xs : List X) → Any P (x ∷ xs) → P x ⊎ Any P xs
any_cons {X} P x xs a = by a.0 a.1 a.2 a.3 a.4
  where
    by : (k : ℕ) (y : X) → k < length (x ∷ xs) → get_or (x ∷ xs) k y ≡ y → P y → P x ⊎ Any P xs
    by zero y lt e p = inl (subst P (sym e) p)
    by (suc k) y lt e p = inr (k, y, omega arith, e, p)

any_here : {X : Type 0} (P : X → Type 0) (x : X) (xs : List X) → P x → Any P (x ∷ xs)
any_here P x xs p = (0, x, omega arith, refl, p)

any_later : {X : Type 0} (P : X → Type 0) (x : X) (xs : List X) → Any P xs → Any P (x ∷ xs)
any_later P x xs a = (suc a.0, a.1, omega (arith, a.2), a.3, a.4)

module _ (seen : List Looked) where
  pub places_within : (vs : List Visit) → All (λ v. Saw seen v.page) vs → All (λ i. i < length seen) (map (place_of seen) (leaves_in vs))
  places_within [] a = All-nil (λ (i : ℕ). i < length seen)
  places_within (v ∷ vs) a =
      let rest : All (λ i. i < length seen) (map (place_of seen) (leaves_in vs)) = places_within vs (All-tail (λ (w : Visit). Saw seen w.page) v vs a) in
      let by : (b : Bool) → All (λ i. i < length seen) (map (place_of seen) (cond b (v.page ∷ leaves_in vs) (leaves_in vs))) =
      elim [
        | true ↦ All-cons (λ (i : ℕ). i < length seen) (place_of seen v.page) (map (place_of seen) (leaves_in vs)) (All-head (λ (w : Visit). Saw seen w.page) v vs a) rest
        | false ↦ rest
      ] in
      by (is_leaf v)

  pub pages_read : (d : Looked) (vs : List Visit) → All (λ v. Saw seen v.page) vs → read_pages seen d (map (place_of seen) (leaves_in vs)) ≡ leaves_in vs
  pages_read d [] a = refl
  pages_read d (v ∷ vs) a =
      let rest : read_pages seen d (map (place_of seen) (leaves_in vs)) ≡ leaves_in vs = pages_read d vs (All-tail (λ (w : Visit). Saw seen w.page) v vs a) in
      let here : (get_or seen (place_of seen v.page) d).page ≡ v.page = page_at-place seen v.page d (All-head (λ (w : Visit). Saw seen w.page) v vs a) in
      let by : (b : Bool) → read_pages seen d (map (place_of seen) (cond b (v.page ∷ leaves_in vs) (leaves_in vs))) ≡ cond b (v.page ∷ leaves_in vs) (leaves_in vs) =
      elim [
        | true ↦ λ i. here i ∷ rest i
        | false ↦ rest
      ] in
      by (is_leaf v)

  pub slots_are_read : (d : Looked) (vs : List Visit) → All (λ v. Saw seen v.page) vs → read_slots seen d (map (place_of seen) (leaves_in vs)) ≡ map (look seen) (leaves_in vs)
  slots_are_read d [] a = refl
  slots_are_read d (v ∷ vs) a =
      let rest : read_slots seen d (map (place_of seen) (leaves_in vs)) ≡ map (look seen) (leaves_in vs) = slots_are_read d vs (All-tail (λ (w : Visit). Saw seen w.page) v vs a) in
      let here : (get_or seen (place_of seen v.page) d).slots ≡ look seen v.page = sym (look-place seen v.page d (All-head (λ (w : Visit). Saw seen w.page) v vs a)) in
      let by : (b : Bool) → read_slots seen d (map (place_of seen) (cond b (v.page ∷ leaves_in vs) (leaves_in vs))) ≡ map (look seen) (cond b (v.page ∷ leaves_in vs) (leaves_in vs)) =
      elim [
        | true ↦ λ i. here i ∷ rest i
        | false ↦ rest
      ] in
      by (is_leaf v)

  -- a slot of a leaf that is no row
  no_row_read : (cols : List Column) (d : Looked) (p : PageId) (slot : ℕ) (vs : List Visit) → All (λ v. Saw seen v.page) vs
      → Any (λ i. ((get_or seen i d).page ≡ p) × IsNoRow cols (get_or seen i d).slots slot) (map (place_of seen) (leaves_in vs)) → Any (IsNoRowOf cols seen p slot) vs
  no_row_read cols d p slot [] a bad = absurd (omega (arith, bad.2))
  no_row_read cols d p slot (v ∷ vs) a bad =
      let later : Any (λ i. ((get_or seen i d).page ≡ p) × IsNoRow cols (get_or seen i d).slots slot) (map (place_of seen) (leaves_in vs)) → Any (IsNoRowOf cols seen p slot) (v ∷ vs) =
      λ b. any_later (IsNoRowOf cols seen p slot) v vs (no_row_read cols d p slot vs (All-tail (λ (w : Visit). Saw seen w.page) v vs a) b) in
      let by : (b : Bool) → is_leaf v ≡ b → Any (λ i. ((get_or seen i d).page ≡ p) × IsNoRow cols (get_or seen i d).slots slot) (map (place_of seen) (cond b (v.page ∷ leaves_in vs) (leaves_in vs))) → Any (IsNoRowOf cols seen p slot) (v ∷ vs) =
      elim [
        | true ↦ λ leaf x.
            elim (any_cons (λ (i : ℕ). ((get_or seen i d).page ≡ p) × IsNoRow cols (get_or seen i d).slots slot) (place_of seen v.page) (map (place_of seen) (leaves_in vs)) x) [
              | inl here ↦
                  let saw : Saw seen v.page = All-head (λ (w : Visit). Saw seen w.page) v vs a in
                  let same : v.page ≡ p = sym (page_at-place seen v.page d saw) ∙ here.0 in
                  let read : (get_or seen (place_of seen v.page) d).slots ≡ look seen p = sym (look-place seen v.page d saw) ∙ ap (look seen) same in
                  any_here (IsNoRowOf cols seen p slot) v vs (record { at = same; leaf = leaf; no = subst (λ s. IsNoRow cols s slot) read here.1 })
              | inr rest ↦ later rest
            ]
        | false ↦ λ leaf x. later x
      ] in
      by (is_leaf v) refl bad

  pub bad_read : (cols : List Column) (root : PageId) (done : List Visit) (places : List ℕ) (e : SeenRefusal) → IsSeenWalk heap_kids seen (first root) done [] → places ≡ map (place_of seen) (leaves_in done)
      → ((d : Looked) → IsAt (λ page slot. Any (λ i. ((get_or seen i d).page ≡ page) × IsNoRow cols (get_or seen i d).slots slot) places) e) → IsAt (IsBadRow heap_kids cols seen (first root)) e
  bad_read cols root done places (Damaged p slot) w is bad =
      let d : Looked = record { page = root; slots = [] } in
      (done, w, no_row_read cols (record { page = root; slots = [] }) p slot done w.were (subst (Any (λ i. ((get_or seen i (record { page = root; slots = [] })).page ≡ p) × IsNoRow cols (get_or seen i (record { page = root; slots = [] })).slots slot)) is (bad (record { page = root; slots = [] }))))
  bad_read cols root done places Memory w is bad = tt

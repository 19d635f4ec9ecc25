-- The edits of pages in an order, and what they make of the pages.
use Rattle.std.proofs.Common.{refl, ◌≡◌, ℕ, zero, suc, ◌+◌, ◌-◌, ◌<◌, ◌≤◌, List, [], ◌∷◌, ◌++◌, length, get_or, map, take, ap, sym, ◌∙◌, subst, arith, append_assoc, length-append}
use Rattle.std.proofs.lemmas.List.{append-nil, get_or_append_left, get_or_default, take_more}
use Rattle.page_fmt.specs.Seen.{Looked}
use Rattle.table_walk.specs.declared.plan.Edit.{Edit}
use Rattle.table_walk.specs.declared.plan.Spot.{Spot}
use Rattle.table_walk.specs.declared.plan.Spot.TheVariants.{Old, New}
use Rattle.table_walk.specs.Differences.{AddsPage, MakesPage}
use Rattle.table_heap.specs.declared.growing.RootPage.{RootPage}
use Rattle.table_heap.specs.Emission.{read_pages, read_slots, leaf_spots, Makes, Adds, MakesAll}
use Rattle.table_heap.specs.Growth.{root_edits}

pub map_length : {X Y : Type 0} (f : X → Y) (xs : List X) → length (map f xs) ≡ length xs
map_length f [] = refl
map_length f (x ∷ xs) = ap (λ n. suc n) (map_length f xs)

pub map_at : {X Y : Type 0} (f : X → Y) (xs : List X) (k : ℕ) (d : X) (e : Y) → k < length xs → get_or (map f xs) k e ≡ f (get_or xs k d)
map_at f [] k d e h = absurd (omega arith)
map_at f (x ∷ xs) zero d e h = refl
map_at f (x ∷ xs) (suc k) d e h = map_at f xs k d e (omega arith)

-- THE LEAVES

module _ (seen : List Looked) (d : Looked) (places claims : List ℕ) (leaf : ℕ) where
  spot_old : (s : Spot) → leaf < length places → get_or (leaf_spots (read_pages seen d places) claims) leaf s ≡ Old (get_or seen (get_or places leaf 0) d).page
  spot_old s h =
      let n : length (read_pages seen d places) ≡ length places = map_length (λ i. (get_or seen i d).page) places in
      get_or_append_left (map Old (read_pages seen d places)) (map New claims) s leaf (omega (arith, map_length Old (read_pages seen d places), n))
      ∙ map_at Old (read_pages seen d places) leaf (get_or seen 0 d).page s (omega (arith, n)) ∙ ap Old (map_at (λ i. (get_or seen i d).page) places leaf 0 (get_or seen 0 d).page h)

  slots_old : leaf < length places → get_or (read_slots seen d places) leaf [] ≡ (get_or seen (get_or places leaf 0) d).slots
  slots_old h = map_at (λ i. (get_or seen i d).slots) places leaf 0 [] h

  pub adds_old : (s : Spot) (new : List (List ℕ)) (before after : List Edit) → leaf < length places → AddsPage (Old (get_or seen (get_or places leaf 0) d).page) (get_or seen (get_or places leaf 0) d).slots new before after
      → AddsPage (get_or (leaf_spots (read_pages seen d places) claims) leaf s) (get_or (read_slots seen d places) leaf []) new before after
  adds_old s new before after h a = subst (λ x. AddsPage x (get_or (read_slots seen d places) leaf []) new before after) (sym (spot_old s h)) (subst (λ x. AddsPage (Old (get_or seen (get_or places leaf 0) d).page) x new before after) (sym (slots_old h)) a)

-- EACH PAGE, AND ALL

module _ (spots : List Spot) (olds news : List (List (List ℕ))) (roots : List RootPage) where
  pub adds_leaf : (page : ℕ) (before after : List Edit) → page < length news → page < length spots → ((s : Spot) → AddsPage (get_or spots page s) (get_or olds page []) (get_or news page []) before after) → Adds spots olds news roots page before after
  adds_leaf page before after h l a =
      let one = a (Old (record { file = 0; page = 0 })) in
      record {
        edits = one.edits;
        are = one.are;
        make = record {
          leaf = λ lt s. subst (λ x. MakesPage x (get_or olds page []) (get_or news page []) one.edits) (get_or_default spots page (Old (record { file = 0; page = 0 })) s l) one.make;
          root = λ ge r. absurd (omega arith);
        };
      }

  pub adds_root : (page : ℕ) (before after : List Edit) (r : RootPage) → length news ≤ page → ((d : RootPage) → get_or roots (page - length news) d ≡ r) → after ≡ before ++ root_edits r → Adds spots olds news roots page before after
  adds_root page before after r h is e = record {
    edits = root_edits r;
    are = e;
    make = record { leaf = λ lt s. absurd (omega arith); root = λ ge d. ap root_edits (sym (is d)) };
  }

  makes_snoc : (is : List ℕ) (i : ℕ) (edits more : List Edit) → MakesAll spots olds news roots is edits → Makes spots olds news roots i more → MakesAll spots olds news roots (is ++ i ∷ []) (edits ++ more)
  makes_snoc [] i edits more a m = (more, [], m, refl, ap (λ es. es ++ more) a ∙ sym (append-nil more))
  makes_snoc (j ∷ js) i edits more a m = (a.0, a.1 ++ more, a.2, makes_snoc js i a.1 more a.3 m, ap (λ es. es ++ more) a.4 ∙ append_assoc a.0 a.1 more)

  pub makes_more : (order : List ℕ) (k : ℕ) (edits after : List Edit) → MakesAll spots olds news roots (take k order) edits → k < length order → Adds spots olds news roots (get_or order k 0) edits after → MakesAll spots olds news roots (take (k + 1) order) after
  makes_more order k edits after a h m =
      subst (MakesAll spots olds news roots (take (k + 1) order)) (sym m.are) (subst (λ is. MakesAll spots olds news roots is (edits ++ m.edits)) (sym (take_more order k 0 h)) (makes_snoc (take k order) (get_or order k 0) edits m.edits a m.make))

pub spots_length : (seen : List Looked) (d : Looked) (places claims : List ℕ) → length (leaf_spots (read_pages seen d places) claims) ≡ length places + length claims
spots_length seen d places claims =
    length-append (map Old (read_pages seen d places)) (map New claims) ∙ (λ k. (map_length Old (read_pages seen d places) ∙ map_length (λ i. (get_or seen i d).page) places) k + map_length New claims k)

-- An entry that goes into the map goes where its child goes among the children in order.
use Rattle.std.proofs.Common.{◌≡◌, ℕ, ◌+◌, ◌<◌, ◌≤◌, List, [], ◌∷◌, ◌++◌, length, refl, ap, sym, ◌∙◌, subst, arith, map, Bool, true, false, cond, Option, None, Some, append_assoc, append-nil, length-append, ◌⊎◌, inl, inr, ◌==◌}
use Rattle.std.specs.Option.{option_cmp}
use Rattle.std.specs.Ordering.{is_le, nat_cmp, ordering_then, match_ordering}
use Rattle.std.specs.declared.cmp.Ordering.{Ordering}
use Rattle.std.specs.declared.cmp.Ordering.TheVariants.{Less, Equal, Greater}
use Rattle.std.specs.BTreeMap.{insert_entry}
use Rattle.std.proofs.lemmas.Bool.{lt-ltb}
use Rattle.page_base.specs.declared.numbers.PageId.{PageId}
use Rattle.page_base.specs.declared.value.Value.{Value}
use Rattle.page_base.specs.Order.{key_cmp}
use Rattle.tree_laws.specs.declared.child.Child.{Child}
use Rattle.tree_laws.specs.Kids.{is_upto, placed, sorted}
use Rattle.key_tree.specs.Sorting.{child_in}

abbrev pub Place : Type 0
Place = Option (List Value) × ℕ

abbrev pub Entry : Type 0
Entry = Place × (PageId × ℕ)

-- the order of the map: by least keys, and then by places
abbrev pub place_cmp : Place → Place → Ordering
place_cmp a b = ordering_then (option_cmp key_cmp a.0 b.0) (nat_cmp a.1 b.1)

-- all places are from this one on
abbrev pub AreFrom : ℕ → List Entry → Type 0
AreFrom n [] = Unit {0}
AreFrom n (e ∷ es) = (n ≤ e.0.1) × AreFrom n es

before : (a b : Place) → a.1 < b.1 → (place_cmp a b ≡ Less) × (is_upto a.0 b.0 ≡ true) ⊎ (place_cmp a b ≡ Greater) × (is_upto a.0 b.0 ≡ false)
before a b lt = by a.0 b.0
  where
    small : nat_cmp a.1 b.1 ≡ Less
    small = ap (λ (t : Bool). cond t Less (cond (a.1 == b.1) Equal Greater)) (lt-ltb a.1 b.1 lt)

    one : (k l : List Value) (r : Ordering) → key_cmp k l ≡ r → (ordering_then (key_cmp k l) (nat_cmp a.1 b.1) ≡ Less) × (is_le (key_cmp k l) ≡ true) ⊎ (ordering_then (key_cmp k l) (nat_cmp a.1 b.1) ≡ Greater) × (is_le (key_cmp k l) ≡ false)
    one k l Less e = inl (ap (λ (r : Ordering). ordering_then r (nat_cmp a.1 b.1)) e, ap is_le e)
    one k l Equal e = inl (ap (λ (r : Ordering). ordering_then r (nat_cmp a.1 b.1)) e ∙ small, ap is_le e)
    one k l Greater e = inr (ap (λ (r : Ordering). ordering_then r (nat_cmp a.1 b.1)) e, ap is_le e)

    by : (x y : Option (List Value)) → (ordering_then (option_cmp key_cmp x y) (nat_cmp a.1 b.1) ≡ Less) × (is_upto x y ≡ true) ⊎ (ordering_then (option_cmp key_cmp x y) (nat_cmp a.1 b.1) ≡ Greater) × (is_upto x y ≡ false)
    by None None = inl (small, refl)
    by None (Some l) = inl (refl, refl)
    by (Some k) None = inr (refl, refl)
    by (Some k) (Some l) = one k l (key_cmp k l) refl

insert_placed : (n : ℕ) (es : List Entry) (least : Option (List Value)) (p : PageId) (slot : ℕ) → AreFrom (n + 1) es → map child_in (insert_entry place_cmp es (least, n) (p, slot)) ≡ placed (record { least = least; page = p; slot = slot }) (map child_in es)
insert_placed n [] least p slot from = refl
insert_placed n (e ∷ es) least p slot from = by (before (least, n) e.0 (omega (arith, from.0))) (insert_placed n es least p slot from.1)
  where
    c : Child
    c = record { least = least; page = p; slot = slot }

    by : (place_cmp (least, n) e.0 ≡ Less) × (is_upto least e.0.0 ≡ true) ⊎ (place_cmp (least, n) e.0 ≡ Greater) × (is_upto least e.0.0 ≡ false)
        → map child_in (insert_entry place_cmp es (least, n) (p, slot)) ≡ placed (record { least = least; page = p; slot = slot }) (map child_in es)
        → map child_in (insert_entry place_cmp (e ∷ es) (least, n) (p, slot)) ≡ placed (record { least = least; page = p; slot = slot }) (map child_in (e ∷ es))
    by (inl h) rec =
        ap (λ (r : Ordering). map child_in (match_ordering r (((least, n), (p, slot)) ∷ e ∷ es) ((e.0, (p, slot)) ∷ es) (e ∷ insert_entry place_cmp es (least, n) (p, slot)))) h.0
        ∙ sym (ap (λ (b : Bool). cond b (record { least = least; page = p; slot = slot } ∷ child_in e ∷ map child_in es) (child_in e ∷ placed (record { least = least; page = p; slot = slot }) (map child_in es))) h.1)
    by (inr h) rec =
        ap (λ (r : Ordering). map child_in (match_ordering r (((least, n), (p, slot)) ∷ e ∷ es) ((e.0, (p, slot)) ∷ es) (e ∷ insert_entry place_cmp es (least, n) (p, slot)))) h.0
        ∙ ap (λ (cs : List Child). child_in e ∷ cs) rec
        ∙ sym (ap (λ (b : Bool). cond b (record { least = least; page = p; slot = slot } ∷ child_in e ∷ map child_in es) (child_in e ∷ placed (record { least = least; page = p; slot = slot }) (map child_in es))) h.1)

insert_from : (n : ℕ) (es : List Entry) (least : Option (List Value)) (p : PageId) (slot : ℕ) → AreFrom n es → AreFrom n (insert_entry place_cmp es (least, n) (p, slot))
insert_from n [] least p slot from = (omega arith, tt)
insert_from n (e ∷ es) least p slot from = by (place_cmp (least, n) e.0) (insert_from n es least p slot from.1)
  where
    by : (r : Ordering) → AreFrom n (insert_entry place_cmp es (least, n) (p, slot)) → AreFrom n (match_ordering r (((least, n), (p, slot)) ∷ e ∷ es) ((e.0, (p, slot)) ∷ es) (e ∷ insert_entry place_cmp es (least, n) (p, slot)))
    by Less rec = (omega arith, from)
    by Equal rec = from
    by Greater rec = (from.0, rec)

from_less : (n : ℕ) (es : List Entry) → AreFrom (n + 1) es → AreFrom n es
from_less n [] from = tt
from_less n (e ∷ es) from = (omega (arith, from.0), from_less n es from.1)

-- the children that are still to come, and those in the map
pub record SortedSoFar (all left : List Child) (es : List Entry) : Type 0 where
  pub rest : List Child
  pub are : all ≡ left ++ rest
  pub ordered : map child_in es ≡ sorted rest
  pub from : AreFrom (length left) es

pub sorted_begin : (all : List Child) → SortedSoFar all all []
sorted_begin all = record { rest = []; are = sym (append-nil all); ordered = refl; from = tt }

pub sorted_more : (all left less : List Child) (es fs : List Entry) (c : Child) → SortedSoFar all left es → left ≡ less ++ c ∷ [] → fs ≡ insert_entry place_cmp es (c.least, length less) (c.page, c.slot) → SortedSoFar all less fs
sorted_more all left less es fs c s e is =
    let long : length left ≡ length less + 1 = ap length e ∙ length-append less (c ∷ []) in
    let from : AreFrom (length less + 1) es = subst (λ (n : ℕ). AreFrom n es) long s.from in
    record {
      rest = c ∷ s.rest;
      are = s.are ∙ ap (λ (l : List Child). l ++ s.rest) e ∙ append_assoc less (c ∷ []) s.rest;
      ordered = ap (map child_in) is ∙ insert_placed (length less) es c.least c.page c.slot from ∙ ap (placed c) s.ordered;
      from = subst (AreFrom (length less)) (sym is) (insert_from (length less) es c.least c.page c.slot (from_less (length less) es from));
    }

pub sorted_end : (all left : List Child) (es : List Entry) → SortedSoFar all left es → left ≡ [] → map child_in es ≡ sorted all
sorted_end all left es s e = s.ordered ∙ ap sorted (sym (s.are ∙ ap (λ (l : List Child). l ++ s.rest) e))

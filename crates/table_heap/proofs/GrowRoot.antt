-- The edits of a root page that gets leaves go in turn, and make its new slots.
use Rattle.std.proofs.Common.{refl, ◌≡◌, ◌≢◌, ℕ, zero, suc, ◌+◌, ◌*◌, ◌/◌, ◌%◌, ◌≤◌, List, [], ◌∷◌, ◌++◌, length, map, drop, max, ap, sym, ◌∙◌, subst, arith, Bool, true, false, cond, ◌==◌, ◌&&◌, append_assoc, length-append, eqb-true}
use Rattle.std.specs.Prelude.{Option, None, Some, slice_index}
use Rattle.std.proofs.lemmas.List.{append-nil, get_or_past}
use Rattle.page_base.specs.declared.numbers.PageId.{PageId}
use Rattle.page_fmt.specs.Edits.{edited, set_slot, slot_at}
use Rattle.page_fmt.specs.Spelling.{used, row_bytes}
use Rattle.table_walk.specs.declared.plan.Edit.{Edit}
use Rattle.table_walk.specs.declared.plan.Spot.{Spot}
use Rattle.table_walk.specs.Addresses.{address, page_at, page_number, target, names_none, IsTarget}
use Rattle.table_walk.specs.Plans.{place, bytes_of}
use Rattle.table_walk.proofs.AddressLemmas.{address_length, address_some, page_at-address}
use Rattle.table_heap.specs.Growth.{slot_0, root_made, slots_made, front_edits, name_edits, root_edits}
use Rattle.table_heap.specs.declared.growing.RootPage.{RootPage}
use Rattle.table_heap.specs.Shape.{Name}
use Rattle.table_heap.proofs.GrowChain.{NamedBefore}
use Rattle.table_heap.proofs.GrowEdits.{Turns, turns_append}
use Rattle.table_heap.proofs.ShapeLemmas.{Name-length, named_not_none}

-- ADDRESSES

none_length : (x : List ℕ) → names_none x ≡ true → length x ≡ 5
none_length x e = eqb-true (length x) 5 (by (length x == 5) (slice_index x 0 == 0) (page_number x == 0) e)
  where
    by : (a b c : Bool) → (a && b && c) ≡ true → a ≡ true
    by true b c e = refl
    by false true true e = e
    by false true false e = e
    by false false c e = e

page_length : (x : List ℕ) (p : PageId) → page_at x ≡ Some p → length x ≡ 5
page_length x p e = eqb-true (length x) 5 (by (length x == 5) e)
  where
    by : (a : Bool) → cond a (target (slice_index x 0) (page_number x)) None ≡ Some p → a ≡ true
    by true e = refl
    by false e = absurd (let w : None ≡ Some p = e in cc)

-- SLOTS OF FIVE BYTES

abbrev pub AreFive : List (List ℕ) → Type 0
AreFive slots = row_bytes slots ≡ 5 * length slots

five_names : (xs : List (List ℕ)) (ps : List PageId) → Name xs ps → AreFive xs
five_names [] [] n = refl
five_names [] (p ∷ ps) n = absurd n
five_names (x ∷ xs) [] n = absurd n
five_names (x ∷ xs) (p ∷ ps) n = omega (arith, page_length x p n.0, five_names xs ps n.1)

five_cons : (x : List ℕ) (xs : List (List ℕ)) → length x ≡ 5 → AreFive xs → AreFive (x ∷ xs)
five_cons x xs e f = omega arith

five_behind : (xs : List (List ℕ)) (y : List ℕ) → length y ≡ 5 → AreFive xs → AreFive (xs ++ y ∷ [])
five_behind xs y e f = omega (arith, behind xs, length-append xs (y ∷ []))
  where
    behind : (xs : List (List ℕ)) → row_bytes (xs ++ y ∷ []) ≡ row_bytes xs + length y
    behind [] = omega arith
    behind (x ∷ xs) = omega (arith, behind xs)

five_room : (xs : List (List ℕ)) → AreFive xs → length xs ≤ 1001 → used xs ≤ 8192
five_room xs f h = omega arith

-- ONE EDIT

edited_some : (slots : List (List ℕ)) (i : ℕ) (x : List ℕ) → x ≢ [] → edited slots i x ≡ set_slot slots i x
edited_some slots i [] some = absurd (some refl)
edited_some slots i (b ∷ bs) some = refl

set_behind : (xs : List (List ℕ)) (i : ℕ) (y : List ℕ) → i ≡ length xs → set_slot xs i y ≡ xs ++ y ∷ []
set_behind [] zero y e = refl
set_behind [] (suc i) y e = absurd (omega arith)
set_behind (x ∷ xs) zero y e = absurd (omega arith)
set_behind (x ∷ xs) (suc i) y e = ap (λ zs. x ∷ zs) (set_behind xs i y (omega arith))

abbrev zeros : List ℕ
zeros = 0 ∷ 0 ∷ 0 ∷ 0 ∷ 0 ∷ []

zeros_some : zeros ≢ []
zeros_some e = let w : length zeros ≡ 0 = ap length e in absurd (omega arith)

module _ (claimed : ℕ → PageId) (page : PageId) where
  -- an edit that writes five bytes
  one_turn : (old new : List (List ℕ)) (e : Edit) (x : List ℕ) → place claimed e.spot ≡ page → bytes_of claimed e ≡ x → x ≢ [] → length x ≡ 5 → set_slot old e.slot x ≡ new → AreFive new → length new ≤ 1001 → e.slot ≤ 1001 → slot_at old e.slot ≢ x
      → Turns claimed page old new (e ∷ [])
  one_turn old new e x on bytes some five made fives short index changes =
      let is : edited old e.slot (bytes_of claimed e) ≡ new = ap (edited old e.slot) bytes ∙ edited_some old e.slot x some ∙ made in
      record {
        on = (on, tt);
        go = (
          record {
            index = omega arith;
            short = omega (arith, ap length bytes);
            room = subst (λ s. used s ≤ 8192) (sym is) (five_room new fives short);
            changes = λ f. changes (f ∙ bytes);
          },
          tt,
        );
        made = is;
      }

  names_bytes : (spot : Spot) (slot i : ℕ) → bytes_of claimed (record { spot = spot; slot = slot; names = Some i; bytes = []; of_row = false }) ≡ address (claimed i)
  names_bytes spot slot i = append-nil (address (claimed i))

  -- leaves named behind what there is
  names_turn : (spot : Spot) (slots : List (List ℕ)) (slot : ℕ) (is : List ℕ) → place claimed spot ≡ page → slot ≡ length slots → AreFive slots → length slots + length is ≤ 1001 → Turns claimed page slots (slots ++ map (λ i. address (claimed i)) is) (name_edits spot slot is)
  names_turn spot slots slot [] on at five short = record { on = tt; go = tt; made = sym (append-nil slots) }
  names_turn spot slots slot (i ∷ is) on at five short =
      let x : List ℕ = address (claimed i) in
      let next : List (List ℕ) = slots ++ address (claimed i) ∷ [] in
      let long : length (slots ++ address (claimed i) ∷ []) ≡ length slots + 1 = length-append slots (address (claimed i) ∷ []) in
      let fives : AreFive (slots ++ address (claimed i) ∷ []) = five_behind slots (address (claimed i)) (address_length (claimed i)) five in
      let one : Turns claimed page slots (slots ++ address (claimed i) ∷ []) (record { spot = spot; slot = slot; names = Some i; bytes = []; of_row = false } ∷ []) =
      one_turn slots (slots ++ address (claimed i) ∷ []) (record { spot = spot; slot = slot; names = Some i; bytes = []; of_row = false }) (address (claimed i)) on (names_bytes spot slot i) (address_some (claimed i)) (address_length (claimed i)) (set_behind slots slot (address (claimed i)) at) fives (omega arith) (omega arith)
      (λ e. address_some (claimed i) (sym e ∙ get_or_past slots slot [] (omega arith))) in
      let rest : Turns claimed page (slots ++ address (claimed i) ∷ []) ((slots ++ address (claimed i) ∷ []) ++ map (λ j. address (claimed j)) is) (name_edits spot (slot + 1) is) =
      names_turn spot (slots ++ address (claimed i) ∷ []) (slot + 1) is on (omega arith) fives (omega arith) in
      subst (λ s. Turns claimed page slots s (name_edits spot slot (i ∷ is))) (append_assoc slots (address (claimed i) ∷ []) (map (λ j. address (claimed j)) is))
      (turns_append claimed page slots (slots ++ address (claimed i) ∷ []) ((slots ++ address (claimed i) ∷ []) ++ map (λ j. address (claimed j)) is) (record { spot = spot; slot = slot; names = Some i; bytes = []; of_row = false } ∷ []) (name_edits spot (slot + 1) is) one rest)

  nothing : (slots : List (List ℕ)) → Turns claimed page slots slots []
  nothing slots = record { on = tt; go = tt; made = refl }

  -- slot 0
  front_turn : (spot : Spot) (old : List (List ℕ)) (olds : List PageId) (next : Option ℕ) → place claimed spot ≡ page → NamedBefore old olds → length olds ≤ 1000 → ((j : ℕ) → next ≡ Some j → IsTarget (claimed j))
      → Turns claimed page old (slot_0 claimed next old ∷ drop 1 old) (front_edits spot (length old) next)
  front_turn spot [] olds None on n short t =
      one_turn [] (zeros ∷ []) (record { spot = spot; slot = 0; names = None; bytes = zeros; of_row = false }) zeros on refl zeros_some refl refl refl (omega arith) (omega arith) (λ e. zeros_some (sym e))
  front_turn spot (x ∷ xs) olds None on n short t = nothing (x ∷ xs)
  front_turn spot [] olds (Some j) on n short t =
      one_turn [] (address (claimed j) ∷ []) (record { spot = spot; slot = 0; names = Some j; bytes = []; of_row = false }) (address (claimed j)) on (names_bytes spot 0 j) (address_some (claimed j)) (address_length (claimed j)) refl (omega (arith, address_length (claimed j))) (omega arith) (omega arith) (λ e. address_some (claimed j) (sym e))
  front_turn spot (x ∷ xs) olds (Some j) on n short t =
      one_turn (x ∷ xs) (address (claimed j) ∷ xs) (record { spot = spot; slot = 0; names = Some j; bytes = []; of_row = false }) (address (claimed j)) on (names_bytes spot 0 j) (address_some (claimed j)) (address_length (claimed j)) refl
      (five_cons (address (claimed j)) xs (address_length (claimed j)) (five_names xs olds n.1)) (omega (arith, Name-length xs olds n.1)) (omega arith) differs
    where
      differs : x ≢ address (claimed j)
      differs e = let w : false ≡ true = sym (named_not_none x (claimed j) (ap page_at e ∙ page_at-address (claimed j) (t j refl))) ∙ n.0 in absurd (cc_false w)
        where
          cc_false : false ≡ true → ⊥
          cc_false w = cc

-- the edits of a root page
pub root_turns : (claimed : ℕ → PageId) (old : List (List ℕ)) (olds : List PageId) (r : RootPage) → NamedBefore old olds → r.slots ≡ length old → slots_made r ≤ 1001 → ((j : ℕ) → r.next ≡ Some j → IsTarget (claimed j))
    → Turns claimed (place claimed r.spot) old (root_made claimed old r) (root_edits r)
root_turns claimed old olds r n has short t =
    turns_append claimed (place claimed r.spot) old (slot_0 claimed r.next old ∷ drop 1 old) (root_made claimed old r) (front_edits r.spot r.slots r.next) (name_edits r.spot (max r.slots 1) r.names)
    (subst (λ k. Turns claimed (place claimed r.spot) old (slot_0 claimed r.next old ∷ drop 1 old) (front_edits r.spot k r.next)) (sym has)
    (front_turn claimed (place claimed r.spot) r.spot old olds r.next refl n (omega (arith, size old n, long old has)) t))
    (names_turn claimed (place claimed r.spot) r.spot (slot_0 claimed r.next old ∷ drop 1 old) (max r.slots 1) r.names refl (long old has) (five old n) (omega (arith, long old has)))
  where
    long : (old : List (List ℕ)) → r.slots ≡ length old → max r.slots 1 ≡ length (slot_0 claimed r.next old ∷ drop 1 old)
    long [] e = omega arith
    long (x ∷ xs) e = omega arith

    size : (old : List (List ℕ)) → NamedBefore old olds → length (drop 1 old) ≡ length olds
    size [] n = sym (ap length n)
    size (x ∷ xs) n = Name-length xs olds n.1

    front : (old : List (List ℕ)) → NamedBefore old olds → (next : Option ℕ) → length (slot_0 claimed next old) ≡ 5
    front old n (Some j) = address_length (claimed j)
    front [] n None = refl
    front (x ∷ xs) n None = none_length x n.0

    rest : (old : List (List ℕ)) → NamedBefore old olds → AreFive (drop 1 old)
    rest [] n = refl
    rest (x ∷ xs) n = five_names xs olds n.1

    five : (old : List (List ℕ)) → NamedBefore old olds → AreFive (slot_0 claimed r.next old ∷ drop 1 old)
    five old n = five_cons (slot_0 claimed r.next old) (drop 1 old) (front old n r.next) (rest old n)

-- After the edits of a plan each page of the heap has the slots that it is to have.
use Rattle.std.proofs.Common.{refl, ◌≡◌, ◌≢◌, ℕ, zero, suc, ◌+◌, ◌-◌, ◌<◌, ◌≤◌, List, [], ◌∷◌, ◌++◌, length, get_or, map, take, ap, sym, ◌∙◌, subst, arith, max, Bool, true, length-append, inl, inr}
use Rattle.std.specs.Prelude.{Option, None, Some, ◌↔◌}
use Rattle.std.specs.List.{All, AllPairs}
use Rattle.std.specs.Option.{option_to_list}
use Rattle.std.proofs.lemmas.Bool.{cases_lt, cases_eq}
use Rattle.std.proofs.lemmas.List.{get_or_append_left, get_or-append_right, get_or_past}
use Rattle.std.proofs.lemmas.List.Elements.{All-nil, All-cons}
use Rattle.page_base.specs.declared.numbers.PageId.{PageId}
use Rattle.page_fmt.specs.Seen.{SlotsAt}
use Rattle.table_walk.specs.declared.plan.Edit.{Edit}
use Rattle.table_walk.specs.declared.plan.Spot.{Spot}
use Rattle.table_walk.specs.declared.plan.Spot.TheVariants.{Old, New}
use Rattle.table_walk.specs.Addresses.{IsTarget}
use Rattle.table_walk.specs.Plans.{place, after, Go, AreFree, IsOtherSlot, AreWithin}
use Rattle.table_walk.specs.Walk.{Reaches}
use Rattle.table_heap.specs.declared.growing.RootPage.{RootPage}
use Rattle.table_heap.specs.Emission.{leaf_spots, Makes, MakesAll}
use Rattle.table_heap.specs.Growth.{count_of, IsNumbering, root_made, front_edits, name_edits, root_edits, IsChain, root_claims}
use Rattle.table_heap.specs.Shape.{Chain, visits_of, times, IsHeapOf}
use Rattle.table_heap.proofs.GrowLemmas.{count_append, count_here, differ_grown, there_owned, count_at, numbered_below}
use Rattle.table_heap.proofs.EmissionLemmas.{map_length, map_at}
use Rattle.table_heap.proofs.GrowChain.{NamedBefore, named_before, AreTargets}
use Rattle.table_heap.proofs.GrowEdits.{Turns, turns_plain}
use Rattle.table_heap.proofs.GrowRoot.{root_turns}
use Rattle.table_heap.proofs.GrowTable.{last_page}
use Rattle.table_heap.proofs.InTurn.{InTurn, go_in_turn, pairs_append}
use Rattle.table_heap.proofs.ShapeLemmas.{times_append, one_here, none_here}

-- LISTS OF PAGES

times_get : (xs : List PageId) (q : PageId) (k : ℕ) (d : PageId) → k < length xs → get_or xs k d ≡ q → 1 ≤ times q xs
times_get [] q k d h e = absurd (omega arith)
times_get (x ∷ xs) q zero d h e = omega (arith, one_here x q (times q xs) e)
times_get (x ∷ xs) q (suc k) d h e = omega (arith, times_get xs q k d (omega arith) e)

times_both : (xs : List PageId) (q : PageId) (i j : ℕ) (d : PageId) → i < j → j < length xs → get_or xs i d ≡ q → get_or xs j d ≡ q → 2 ≤ times q xs
times_both [] q i j d h l e f = absurd (omega arith)
times_both (x ∷ xs) q i zero d h l e f = absurd (omega arith)
times_both (x ∷ xs) q zero (suc j) d h l e f = omega (arith, one_here x q (times q xs) e, times_get xs q j d (omega arith) f)
times_both (x ∷ xs) q (suc i) (suc j) d h l e f = omega (arith, times_both xs q i j d (omega arith) (omega arith) e f)

one_place : (xs : List PageId) (i j : ℕ) (d : PageId) → ((q : PageId) → times q xs ≤ 1) → i < length xs → j < length xs → get_or xs i d ≡ get_or xs j d → i ≡ j
one_place xs i j d once h l e =
    elim (cases_eq i j) [
      | inl same ↦ same
      | inr ne ↦ elim (cases_lt i j) [
        | inl lt ↦ absurd (omega (arith, once (get_or xs j d), times_both xs (get_or xs j d) i j d lt l e refl))
        | inr ge ↦ absurd (omega (arith, once (get_or xs j d), times_both xs (get_or xs j d) j i d (omega arith) h refl e))
      ]
    ]

same_list : {X : Type 0} (xs ys : List X) (d : X) → length xs ≡ length ys → ((k : ℕ) → k < length xs → get_or xs k d ≡ get_or ys k d) → xs ≡ ys
same_list [] [] d n h = refl
same_list [] (y ∷ ys) d n h = absurd (omega arith)
same_list (x ∷ xs) [] d n h = absurd (omega arith)
same_list (x ∷ xs) (y ∷ ys) d n h =
    let rest : xs ≡ ys = same_list xs ys d (omega arith) (λ k lt. h (suc k) (omega arith)) in
    let here : x ≡ y = h 0 (omega arith) in
    λ i. here i ∷ rest i

-- ROOT PAGES THAT CHANGE

module _ (claimed : ℕ → PageId) where
  chain_pages : (r : RootPage) (rest : List RootPage) → IsChain (r ∷ rest) → map (λ q. place claimed q.spot) (r ∷ rest) ≡ place claimed r.spot ∷ map claimed (root_claims (r ∷ rest))
  chain_pages r [] c = ap (λ o. place claimed r.spot ∷ map claimed (option_to_list o ++ [])) (sym c.0)
  chain_pages r (s ∷ rest) c =
      ap (λ ps. place claimed r.spot ∷ ps) (chain_pages s rest c.5) ∙ ap (λ p. place claimed r.spot ∷ (p ∷ map claimed (root_claims (s ∷ rest)))) (ap (place claimed) c.2)
      ∙ ap (λ o. place claimed r.spot ∷ map claimed (option_to_list o ++ root_claims (s ∷ rest))) (sym c.1)

  abbrev pub TurnsRoot : SlotsAt → RootPage → Type 0
  TurnsRoot at q = Turns claimed (place claimed q.spot) (at (place claimed q.spot)) (root_made claimed (at (place claimed q.spot)) q) (root_edits q)

  next_target : (r : RootPage) (rest : List RootPage) (j : ℕ) → AreTargets claimed (root_claims (r ∷ rest)) → r.next ≡ Some j → IsTarget (claimed j)
  next_target r rest j t e = t j (subst (λ o. 1 ≤ count_of j (option_to_list o ++ root_claims rest)) (sym e) (omega (arith, count_here j j (count_of j (root_claims rest)) refl)))

  chain_turns : (at : SlotsAt) (r : RootPage) (rest : List RootPage) (olds : List PageId) → NamedBefore (at (place claimed r.spot)) olds → r.slots ≡ length (at (place claimed r.spot)) → IsChain (r ∷ rest) → AreTargets claimed (root_claims (r ∷ rest))
      → ((j : ℕ) → 1 ≤ count_of j (root_claims (r ∷ rest)) → at (claimed j) ≡ []) → All (TurnsRoot at) (r ∷ rest)
  chain_turns at r [] olds n has c t blank =
      All-cons (TurnsRoot at) r [] (root_turns claimed (at (place claimed r.spot)) olds r n has c.1 (λ j e. next_target r [] j t e)) (All-nil (TurnsRoot at))
  chain_turns at r (s ∷ rest) olds n has c t blank =
      let more : (j : ℕ) → 1 ≤ count_of j (root_claims (s ∷ rest)) → 1 ≤ count_of j (root_claims (r ∷ s ∷ rest)) = λ j h. omega (arith, count_append j (option_to_list r.next) (root_claims (s ∷ rest))) in
      let mine : 1 ≤ count_of c.0 (root_claims (r ∷ s ∷ rest)) = subst (λ o. 1 ≤ count_of c.0 (option_to_list o ++ root_claims (s ∷ rest))) (sym c.1) (omega (arith, count_here c.0 c.0 (count_of c.0 (root_claims (s ∷ rest))) refl)) in
      let empty : at (place claimed s.spot) ≡ [] = ap at (ap (place claimed) c.2) ∙ blank c.0 mine in
      All-cons (TurnsRoot at) r (s ∷ rest) (root_turns claimed (at (place claimed r.spot)) olds r n has (omega (arith, c.4)) (λ j e. next_target r (s ∷ rest) j t e))
      (chain_turns at s rest [] (subst (λ x. NamedBefore x []) (sym empty) refl) (c.3 ∙ ap length (sym empty)) c.5 (λ j h. t j (more j h)) (λ j h. blank j (more j h)))

  spots_pages : (xs : List PageId) (lc : List ℕ) → map (place claimed) (leaf_spots xs lc) ≡ xs ++ map claimed lc
  spots_pages [] lc = news lc
    where
      news : (lc : List ℕ) → map (place claimed) (map New lc) ≡ map claimed lc
      news [] = refl
      news (j ∷ js) = ap (λ ps. claimed j ∷ ps) (news js)
  spots_pages (x ∷ xs) lc = ap (λ ps. x ∷ ps) (spots_pages xs lc)

-- the page of a leaf is one of the leaves afterwards
pub spot_there : (claimed : ℕ → PageId) (xs : List PageId) (lc : List ℕ) (k : ℕ) (s : Spot) → k < length xs + length lc → 1 ≤ times (place claimed (get_or (leaf_spots xs lc) k s)) (xs ++ map claimed lc)
spot_there claimed xs lc k s h =
    let long : length (leaf_spots xs lc) ≡ length xs + length lc = length-append (map Old xs) (map New lc) ∙ (λ i. map_length Old xs i + map_length New lc i) in
    let all : length (xs ++ map claimed lc) ≡ length xs + length lc = length-append xs (map claimed lc) ∙ (λ i. length xs + map_length claimed lc i) in
    times_get (xs ++ map claimed lc) (place claimed (get_or (leaf_spots xs lc) k s)) k (place claimed s) (omega (arith, all, h))
    (ap (λ ps. get_or ps k (place claimed s)) (sym (spots_pages claimed xs lc)) ∙ map_at (place claimed) (leaf_spots xs lc) k s (place claimed s) (omega (arith, long, h)))

-- each edit of a root page is of another slot
names_length : (spot : Spot) (slot : ℕ) (is : List ℕ) → length (name_edits spot slot is) ≡ length is
names_length spot slot [] = refl
names_length spot slot (i ∷ is) = ap (λ n. suc n) (names_length spot (slot + 1) is)

names_slot : (spot : Spot) (slot : ℕ) (is : List ℕ) (k : ℕ) (d : Edit) → k < length is → (get_or (name_edits spot slot is) k d).slot ≡ slot + k
names_slot spot slot [] k d h = absurd (omega arith)
names_slot spot slot (i ∷ is) zero d h = omega arith
names_slot spot slot (i ∷ is) (suc k) d h = omega (arith, names_slot spot (slot + 1) is k d (omega arith))

front_one : (spot : Spot) (count : ℕ) (next : Option ℕ) → length (front_edits spot count next) ≤ 1
front_one spot count (Some j) = omega arith
front_one spot zero None = omega arith
front_one spot (suc n) None = omega arith

front_slot : (spot : Spot) (count : ℕ) (next : Option ℕ) (k : ℕ) (d : Edit) → k < length (front_edits spot count next) → (get_or (front_edits spot count next) k d).slot ≡ 0
front_slot spot count (Some j) zero d h = refl
front_slot spot count (Some j) (suc k) d h = absurd (omega arith)
front_slot spot zero None zero d h = refl
front_slot spot zero None (suc k) d h = absurd (omega arith)
front_slot spot (suc n) None k d h = absurd (omega arith)

root_once : (r : RootPage) → AllPairs (λ e f. e.slot ≢ f.slot) (root_edits r)
root_once r =
    pairs_append (λ e f. e.slot ≢ f.slot) (front_edits r.spot r.slots r.next) (name_edits r.spot (max r.slots 1) r.names) (λ i j d h l. absurd (omega (arith, front_one r.spot r.slots r.next)))
    (λ i j d h l e. absurd (omega (arith, e, names_slot r.spot (max r.slots 1) r.names i d (omega (arith, names_length r.spot (max r.slots 1) r.names)), names_slot r.spot (max r.slots 1) r.names j d (omega (arith, names_length r.spot (max r.slots 1) r.names)))))
    (λ i j d h l e. absurd (omega (arith, e, front_slot r.spot r.slots r.next i d h, names_slot r.spot (max r.slots 1) r.names j d (omega (arith, names_length r.spot (max r.slots 1) r.names)))))

-- the last root page names what it names, and no other
pub last_named : (at : SlotsAt) (front : List PageId) (last : PageId) (leaves : List PageId) → Chain at (front ++ last ∷ []) leaves → (olds : List PageId) × NamedBefore (at last) olds
last_named at front last leaves c = let p = last_page at front last leaves c in (take 1000 p.0, named_before (at last) (take 1000 p.0) p.1)

-- what the edits make of the heap
pub record Emitted (at : SlotsAt) (owns : PageId → Bool) (claimed : ℕ → PageId) (n : ℕ) (roots leaves : List PageId) (last : PageId) (chain : List RootPage) (lc : List ℕ) (news : List (List (List ℕ))) (edits : List Edit) : Type 0 where
  pub go : Go claimed at edits
  pub within : AreWithin claimed n owns edits
  pub changed : All (λ q. after claimed at edits (place claimed q.spot) ≡ root_made claimed (at (place claimed q.spot)) q) chain
  pub kept : (p : PageId) → 1 ≤ times p roots → p ≢ last → at p ≡ after claimed at edits p
  pub slots : map (after claimed at edits) (leaves ++ map claimed lc) ≡ news
  pub once : AllPairs (IsOtherSlot claimed) edits

module _ (at : SlotsAt) (owns : PageId → Bool) (root : PageId) (claimed : ℕ → PageId) (n : ℕ) (roots leaves front : List PageId) (last : PageId) (head : RootPage) (more : List RootPage) (lc : List ℕ) (news : List (List (List ℕ))) (order : List ℕ) (edits : List Edit)
    (h : IsHeapOf at root roots leaves) (owned : (p : PageId) → (owns p ≡ true) ↔ Reaches (visits_of root roots leaves) p) (free : AreFree claimed n at owns) (split : roots ≡ front ++ last ∷ []) (begins : head.spot ≡ Old last) (counted : head.slots ≡ length (at last))
    (chain : IsChain (head ∷ more)) (numbered : IsNumbering n (lc ++ root_claims (head ∷ more))) (many : length news ≡ length leaves + length lc) (ordered : IsNumbering (length news + length (head ∷ more)) order)
    (makes : MakesAll (leaf_spots leaves lc) (map at leaves) news (head ∷ more) order edits) where
  abbrev rc : List ℕ
  rc = root_claims (head ∷ more)

  abbrev leaf_pages : List PageId
  leaf_pages = leaves ++ map claimed lc

  abbrev root_page : RootPage → PageId
  root_page q = place claimed q.spot

  abbrev made : RootPage → List (List ℕ)
  made q = root_made claimed (at (place claimed q.spot)) q

  abbrev page : ℕ → PageId
  page i = get_or (leaf_pages ++ map root_page (head ∷ more)) i root

  abbrev new : ℕ → List (List ℕ)
  new i = get_or (news ++ map made (head ∷ more)) i []

  leaf_count : length leaf_pages ≡ length news
  leaf_count = length-append leaves (map claimed lc) ∙ ap (λ k. length leaves + k) (map_length claimed lc) ∙ sym many

  all_count : length (leaf_pages ++ map root_page (head ∷ more)) ≡ length news + length (head ∷ more)
  all_count = length-append leaf_pages (map root_page (head ∷ more)) ∙ (λ k. leaf_count k + map_length root_page (head ∷ more) k)

  page_leaf : (i : ℕ) → i < length news → page i ≡ get_or leaf_pages i root
  page_leaf i lt = get_or_append_left leaf_pages (map root_page (head ∷ more)) root i (omega (arith, leaf_count))

  new_leaf : (i : ℕ) → i < length news → new i ≡ get_or news i []
  new_leaf i lt = get_or_append_left news (map made (head ∷ more)) [] i lt

  page_root : (i : ℕ) (d : RootPage) → length news ≤ i → i < length news + length (head ∷ more) → page i ≡ root_page (get_or (head ∷ more) (i - length news) d)
  page_root i d ge lt = get_or-append_right leaf_pages (map root_page (head ∷ more)) (length news) i root leaf_count ge ∙ map_at root_page (head ∷ more) (i - length news) d root (omega arith)

  new_root : (i : ℕ) (d : RootPage) → length news ≤ i → i < length news + length (head ∷ more) → new i ≡ made (get_or (head ∷ more) (i - length news) d)
  new_root i d ge lt = get_or-append_right news (map made (head ∷ more)) (length news) i [] refl ge ∙ map_at made (head ∷ more) (i - length news) d [] (omega arith)

  below : (i : ℕ) → 1 ≤ count_of i lc + count_of i rc → i < n
  below i some = numbered_below n i (lc ++ rc) numbered (omega (arith, count_append i lc rc))

  spot_at : (i : ℕ) (s : Spot) → i < length news → place claimed (get_or (leaf_spots leaves lc) i s) ≡ get_or leaf_pages i root
  spot_at i s lt =
      let long : length (leaf_spots leaves lc) ≡ length news = length-append (map Old leaves) (map New lc) ∙ (λ k. map_length Old leaves k + map_length New lc k) ∙ sym many in
      sym (map_at (place claimed) (leaf_spots leaves lc) i s root (omega (arith, long))) ∙ ap (λ ps. get_or ps i root) (spots_pages claimed leaves lc)

  old_at : (i : ℕ) → i < length news → get_or (map at leaves) i [] ≡ at (get_or leaf_pages i root)
  old_at i lt = elim (cases_lt i (length leaves)) [
    | inl old ↦ map_at at leaves i root [] old ∙ ap at (sym (get_or_append_left leaves (map claimed lc) root i old))
    | inr ge ↦
        let within : i - length leaves < length lc = omega (arith, many) in
        let is : get_or leaf_pages i root ≡ claimed (get_or lc (i - length leaves) 0) = get_or-append_right leaves (map claimed lc) (length leaves) i root refl ge ∙ map_at claimed lc (i - length leaves) 0 root within in
        get_or_past (map at leaves) i [] (omega (arith, map_length at leaves)) ∙ sym (ap at is ∙ free.blank (get_or lc (i - length leaves) 0) (below (get_or lc (i - length leaves) 0) (omega (arith, count_at lc (i - length leaves) 0 within))))
  ]

  is_last : place claimed head.spot ≡ last
  is_last = ap (place claimed) begins

  roots_turn : All (TurnsRoot claimed at) (head ∷ more)
  roots_turn =
      let l = last_named at front last leaves (subst (λ qs. Chain at qs leaves) split h.chain) in
      chain_turns claimed at head more l.0 (subst (λ p. NamedBefore (at p) l.0) (sym is_last) l.1) (counted ∙ ap (λ p. length (at p)) (sym is_last)) chain (λ j some. free.targets j (below j (omega arith))) (λ j some. free.blank j (below j (omega arith)))

  placed : (i : ℕ) → 1 ≤ count_of i order → i < length news + length (head ∷ more)
  placed i some = numbered_below (length news + length (head ∷ more)) i order ordered some

  turns : (i : ℕ) (es : List Edit) → 1 ≤ count_of i order → Makes (leaf_spots leaves lc) (map at leaves) news (head ∷ more) i es → Turns claimed (page i) (at (page i)) (new i) es
  turns i es some m =
      elim (cases_lt i (length news)) as (λ _. Turns claimed (page i) (at (page i)) (new i) es) [
        | inl lt ↦
            let s : Spot = Old root in
            let p : place claimed (get_or (leaf_spots leaves lc) i (Old root)) ≡ page i = spot_at i (Old root) lt ∙ sym (page_leaf i lt) in
            let o : get_or (map at leaves) i [] ≡ at (page i) = old_at i lt ∙ ap at (sym (page_leaf i lt)) in
            subst (λ x. Turns claimed (page i) (at (page i)) x es) (sym (new_leaf i lt))
            (subst (λ x. Turns claimed (page i) x (get_or news i []) es) o
            (subst (λ x. Turns claimed x (get_or (map at leaves) i []) (get_or news i []) es) p (turns_plain claimed (get_or (leaf_spots leaves lc) i (Old root)) (get_or (map at leaves) i []) (get_or news i []) es (m.leaf lt (Old root)))))
        | inr ge ↦
            let lt : i < length news + length (head ∷ more) = placed i some in
            let q : RootPage = get_or (head ∷ more) (i - length news) head in
            let t : TurnsRoot claimed at (get_or (head ∷ more) (i - length news) head) = roots_turn (i - length news) head (omega arith) in
            let p : root_page (get_or (head ∷ more) (i - length news) head) ≡ page i = sym (page_root i head ge lt) in
            subst (λ fs. Turns claimed (page i) (at (page i)) (new i) fs) (sym (m.root ge head))
            (subst (λ x. Turns claimed (page i) (at (page i)) x (root_edits (get_or (head ∷ more) (i - length news) head))) (sym (new_root i head ge lt))
            (subst (λ x. Turns claimed x (at x) (made (get_or (head ∷ more) (i - length news) head)) (root_edits (get_or (head ∷ more) (i - length news) head))) p t))
      ]

  singles : (i : ℕ) (es : List Edit) → 1 ≤ count_of i order → Makes (leaf_spots leaves lc) (map at leaves) news (head ∷ more) i es → AllPairs (λ e f. e.slot ≢ f.slot) es
  singles i es some m =
      elim (cases_lt i (length news)) as (λ _. AllPairs (λ e f. e.slot ≢ f.slot) es) [
        | inl lt ↦ (m.leaf lt (Old root)).once
        | inr ge ↦ subst (AllPairs (λ e f. e.slot ≢ f.slot)) (sym (m.root ge head)) (root_once (get_or (head ∷ more) (i - length news) head))
      ]

  -- all pages differ
  root_times : (q : PageId) → times q (map root_page (head ∷ more)) + times q front ≡ times q (roots ++ map claimed rc)
  root_times q =
      let are : times q (map root_page (head ∷ more)) ≡ times q (last ∷ map claimed rc) = ap (times q) (chain_pages claimed head more chain ∙ ap (λ p. p ∷ map claimed rc) is_last) in
      let all : times q (roots ++ map claimed rc) ≡ times q (front ++ last ∷ []) + times q (map claimed rc) = times_append q roots (map claimed rc) ∙ ap (λ qs. times q qs + times q (map claimed rc)) split in
      omega (arith, are, all, times_append q front (last ∷ []))

  differ : (q : PageId) → times q (roots ++ map claimed rc) + times q leaf_pages ≤ 1
  differ = differ_grown at owns root claimed n roots leaves rc lc h owned free numbered

  once : (q : PageId) → times q (leaf_pages ++ map root_page (head ∷ more)) ≤ 1
  once q = omega (arith, times_append q leaf_pages (map root_page (head ∷ more)), root_times q, differ q)

  count_once : (i : ℕ) → count_of i order ≤ 1
  count_once i = elim (cases_lt i (length news + length (head ∷ more))) [
    | inl lt ↦ omega (arith, ordered.each i lt)
    | inr ge ↦ omega (arith, ordered.below i ge)
  ]

  done : InTurn claimed (leaf_spots leaves lc) (map at leaves) news (head ∷ more) page (λ i. at (page i)) new at order edits
  done =
      go_in_turn claimed (leaf_spots leaves lc) (map at leaves) news (head ∷ more) page (λ i. at (page i)) new order at edits makes turns singles (λ i some. refl)
      (λ i j a b e. one_place (leaf_pages ++ map root_page (head ∷ more)) i j root once (omega (arith, placed i a, all_count)) (omega (arith, placed j b, all_count)) e) count_once

  in_order : (i : ℕ) → i < length news + length (head ∷ more) → 1 ≤ count_of i order
  in_order i lt = omega (arith, ordered.each i lt)

  reached : (i : ℕ) → 1 ≤ count_of i order → 1 ≤ times (page i) leaf_pages + times (page i) (map root_page (head ∷ more))
  reached i some =
      omega (arith, times_append (page i) leaf_pages (map root_page (head ∷ more)), times_get (leaf_pages ++ map root_page (head ∷ more)) (page i) i root (omega (arith, placed i some, all_count)) refl)

  pub emitted : Emitted at owns claimed n roots leaves last (head ∷ more) lc news edits
  emitted = record {
    go = done.go;
    once = done.once;
    within = done.within n owns (λ i some. there_owned at owns root claimed n roots leaves rc lc h owned free numbered (page i) (omega (arith, reached i some, root_times (page i))));
    changed = λ k d lt.
        let i : ℕ = length news + k in
        let at_k : length news + k - length news ≡ k = omega arith in
        let within : length news + k < length news + length (head ∷ more) = omega arith in
        let p : page (length news + k) ≡ root_page (get_or (head ∷ more) k d) = page_root (length news + k) d (omega arith) within ∙ ap (λ j. root_page (get_or (head ∷ more) j d)) at_k in
        let w : new (length news + k) ≡ made (get_or (head ∷ more) k d) = new_root (length news + k) d (omega arith) within ∙ ap (λ j. made (get_or (head ∷ more) j d)) at_k in
        ap (after claimed at edits) (sym p) ∙ done.here (length news + k) (in_order (length news + k) within) ∙ w;
    kept = λ p some ne. sym (done.others p (λ i there e. absurd (not_there p some ne i there e)));
    slots = same_list (map (after claimed at edits) leaf_pages) news [] (map_length (after claimed at edits) leaf_pages ∙ leaf_count)
        (λ k lt.
        let within : k < length news = omega (arith, map_length (after claimed at edits) leaf_pages, leaf_count) in
        map_at (after claimed at edits) leaf_pages k root [] (omega (arith, leaf_count)) ∙ ap (after claimed at edits) (sym (page_leaf k within)) ∙ done.here k (in_order k (omega arith)) ∙ new_leaf k within);
  }
    where
      not_there : (p : PageId) → 1 ≤ times p roots → p ≢ last → (i : ℕ) → 1 ≤ count_of i order → page i ≡ p → ⊥
      not_there p some ne i there e =
          let r : 1 ≤ times p leaf_pages + times p (map root_page (head ∷ more)) = subst (λ q. 1 ≤ times q leaf_pages + times q (map root_page (head ∷ more))) e (reached i there) in
          let parts : times p roots ≡ times p front + times p (last ∷ []) = ap (times p) split ∙ times_append p front (last ∷ []) in
          absurd (omega (arith, r, parts, root_times p, differ p, times_append p roots (map claimed rc), none_here last p 0 (λ f. ne (sym f))))

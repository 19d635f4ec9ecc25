-- Edits of pages by their numbers go in turn, in an order that has each number at most once.
use Rattle.std.proofs.Common.{◌++◌, refl, ◌≡◌, ◌≢◌, ℕ, ◌≤◌, List, [], ◌∷◌, ap, sym, ◌∙◌, subst, arith, suc, zero, length, ◌+◌, ◌<◌, length-append, ◌-◌, get_or, Bool, true, inl, inr}
use Rattle.std.specs.List.{AllPairs}
use Rattle.std.proofs.lemmas.Bool.{cases_eq, cases_lt}
use Rattle.std.proofs.lemmas.List.{get_or_append_left, get_or-append_right}
use Rattle.page_base.specs.declared.numbers.PageId.{PageId}
use Rattle.page_base.specs.Pages.{set_at}
use Rattle.page_fmt.specs.Seen.{SlotsAt}
use Rattle.table_walk.specs.declared.plan.Edit.{Edit}
use Rattle.table_walk.specs.declared.plan.Spot.{Spot}
use Rattle.table_walk.specs.Plans.{place, after, Go, also, IsOtherSlot, AreWithin}
use Rattle.table_heap.specs.declared.growing.RootPage.{RootPage}
use Rattle.table_heap.specs.Emission.{Makes, MakesAll}
use Rattle.table_heap.specs.Growth.{count_of}
use Rattle.table_heap.proofs.GrowEdits.{AreOn, Turns, go_page, after_page, go_join, after_join, within_page, within_join, set_here, set_other}
use Rattle.table_heap.proofs.GrowLemmas.{count_here, count_other}

-- edits of one page lie on it
on_at : (claimed : ℕ → PageId) (p : PageId) (es : List Edit) (k : ℕ) (d : Edit) → AreOn claimed p es → k < length es → place claimed (get_or es k d).spot ≡ p
on_at claimed p [] k d on h = absurd (omega arith)
on_at claimed p (e ∷ es) zero d on h = on.0
on_at claimed p (e ∷ es) (suc k) d on h = on_at claimed p es k d on.1 (omega arith)

-- pairs of two lists
pub pairs_append : (R : Edit → Edit → Type 0) (xs ys : List Edit) → AllPairs R xs → AllPairs R ys → ((i j : ℕ) (d : Edit) → i < length xs → j < length ys → R (get_or xs i d) (get_or ys j d)) → AllPairs R (xs ++ ys)
pairs_append R xs ys a b c i j d h l =
    let long : length (xs ++ ys) ≡ length xs + length ys = length-append xs ys in
    elim (cases_lt i (length xs)) as (λ _. R (get_or (xs ++ ys) i d) (get_or (xs ++ ys) j d)) [
      | inl left ↦ elim (cases_lt j (length xs)) as (λ _. R (get_or (xs ++ ys) i d) (get_or (xs ++ ys) j d)) [
        | inl both ↦ subst (λ y. R (get_or (xs ++ ys) i d) y) (sym (get_or_append_left xs ys d j both)) (subst (λ x. R x (get_or xs j d)) (sym (get_or_append_left xs ys d i left)) (a i j d h both))
        | inr ge ↦ subst (λ y. R (get_or (xs ++ ys) i d) y) (sym (get_or-append_right xs ys (length xs) j d refl ge))
            (subst (λ x. R x (get_or ys (j - length xs) d)) (sym (get_or_append_left xs ys d i left)) (c i (j - length xs) d left (omega arith)))
      ]
      | inr right ↦ subst (λ y. R (get_or (xs ++ ys) i d) y) (sym (get_or-append_right xs ys (length xs) j d refl (omega arith)))
          (subst (λ x. R x (get_or ys (j - length xs) d)) (sym (get_or-append_right xs ys (length xs) i d refl right)) (b (i - length xs) (j - length xs) d (omega arith) (omega arith)))
    ]

module _ (claimed : ℕ → PageId) (spots : List Spot) (olds news : List (List (List ℕ))) (roots : List RootPage) (page : ℕ → PageId) (old new : ℕ → List (List ℕ)) where
  -- what they do
  pub record InTurn (at : SlotsAt) (order : List ℕ) (edits : List Edit) : Type 0 where
    pub go : Go claimed at edits
    pub here : (i : ℕ) → 1 ≤ count_of i order → after claimed at edits (page i) ≡ new i
    pub others : (q : PageId) → ((i : ℕ) → 1 ≤ count_of i order → page i ≢ q) → after claimed at edits q ≡ at q
    pub within : (n : ℕ) (owns : PageId → Bool) → ((i : ℕ) → 1 ≤ count_of i order → also owns claimed n (page i) ≡ true) → AreWithin claimed n owns edits
    pub on : (k : ℕ) (d : Edit) → k < length edits → (j : ℕ) × (1 ≤ count_of j order) × (place claimed (get_or edits k d).spot ≡ page j)
    pub once : AllPairs (IsOtherSlot claimed) edits

  pub go_in_turn : (order : List ℕ) (at : SlotsAt) (edits : List Edit) → MakesAll spots olds news roots order edits
      → ((i : ℕ) (es : List Edit) → 1 ≤ count_of i order → Makes spots olds news roots i es → Turns claimed (page i) (old i) (new i) es)
      → ((i : ℕ) (es : List Edit) → 1 ≤ count_of i order → Makes spots olds news roots i es → AllPairs (λ e f. e.slot ≢ f.slot) es)
      → ((i : ℕ) → 1 ≤ count_of i order → at (page i) ≡ old i) → ((i j : ℕ) → 1 ≤ count_of i order → 1 ≤ count_of j order → page i ≡ page j → i ≡ j) → ((i : ℕ) → count_of i order ≤ 1) → InTurn at order edits
  go_in_turn [] at edits m turns singles olds_are apart once = record {
    go = subst (Go claimed at) (sym m) tt;
    here = λ i h. absurd (omega arith);
    others = λ q h. ap (λ es. after claimed at es q) m;
    within = λ n owns h. subst (AreWithin claimed n owns) (sym m) tt;
    on = λ k d h. absurd (omega (arith, ap length m));
    once = λ i j d h l. absurd (omega (arith, ap length m));
  }
  go_in_turn (i ∷ is) at edits m turns singles olds_are apart once =
      let first : List Edit = m.0 in
      let rest : List Edit = m.1 in
      let mine : 1 ≤ count_of i (i ∷ is) = omega (arith, count_here i i (count_of i is) refl) in
      let t : Turns claimed (page i) (old i) (new i) m.0 = turns i m.0 mine m.2 in
      let more : (j : ℕ) → 1 ≤ count_of j is → 1 ≤ count_of j (i ∷ is) = λ j h. omega arith in
      let differ : (j : ℕ) → 1 ≤ count_of j is → page i ≢ page j =
      λ j h e.
      let same : i ≡ j = apart i j mine (more j h) e in
      absurd (omega (arith, once j, count_here i j (count_of j is) same)) in
      let next : SlotsAt = set_at at (page i) (new i) in
      let r : InTurn (set_at at (page i) (new i)) is m.1 =
      go_in_turn is (set_at at (page i) (new i)) m.1 m.3 (λ j es h. turns j es (more j h)) (λ j es h. singles j es (more j h)) (λ j h. set_other claimed at (page i) (page j) (new i) (differ j h) ∙ olds_are j (more j h)) (λ j k h l. apart j k (more j h) (more k l)) (λ j. omega (arith, once j)) in
      let done : after claimed at m.0 ≡ set_at at (page i) (new i) = after_page claimed at (page i) (old i) (new i) m.0 t (olds_are i mine) in
      let whole : after claimed at edits ≡ after claimed (set_at at (page i) (new i)) m.1 = ap (after claimed at) m.4 ∙ after_join claimed at m.0 m.1 ∙ ap (λ s. after claimed s m.1) done in
      record {
        go = subst (Go claimed at) (sym m.4) (go_join claimed at m.0 m.1 (go_page claimed at (page i) (old i) (new i) m.0 t (olds_are i mine)) (subst (λ s. Go claimed s m.1) (sym done) r.go));
        here = λ j h. elim (cases_eq i j) [
          | inl same ↦
              ap (λ (s : SlotsAt). s (page j)) whole ∙ ap (λ k. after claimed (set_at at (page i) (new i)) m.1 (page k)) (sym same)
              ∙ r.others (page i) (λ k l e. differ k l (sym e)) ∙ set_here claimed at (page i) (page i) (new i) refl ∙ ap new same
          | inr ne ↦ ap (λ (s : SlotsAt). s (page j)) whole ∙ r.here j (omega (arith, count_other i j (count_of j is) ne))
        ];
        others = λ q h. ap (λ (s : SlotsAt). s q) whole ∙ r.others q (λ j l. h j (more j l)) ∙ set_other claimed at (page i) q (new i) (h i mine);
        within = λ n owns h.
            subst (AreWithin claimed n owns) (sym m.4) (within_join claimed n owns m.0 m.1 (within_page claimed n owns (page i) m.0 t.on (h i mine)) (r.within n owns (λ j l. h j (more j l))));
        on = λ k d lt.
            subst (λ es. (j : ℕ) × (1 ≤ count_of j (i ∷ is)) × (place claimed (get_or es k d).spot ≡ page j)) (sym m.4)
            (elim (cases_lt k (length m.0)) as (λ _. (j : ℕ) × (1 ≤ count_of j (i ∷ is)) × (place claimed (get_or (m.0 ++ m.1) k d).spot ≡ page j)) [
              | inl left ↦ (i, mine, ap (λ (e : Edit). place claimed e.spot) (get_or_append_left m.0 m.1 d k left) ∙ on_at claimed (page i) m.0 k d t.on left)
              | inr right ↦
                  let x = r.on (k - length m.0) d (omega (arith, ap length m.4, length-append m.0 m.1)) in
                  (x.0, more x.0 x.1, ap (λ (e : Edit). place claimed e.spot) (get_or-append_right m.0 m.1 (length m.0) k d refl right) ∙ x.2)
            ]);
        once = subst (AllPairs (IsOtherSlot claimed)) (sym m.4)
            (pairs_append (IsOtherSlot claimed) m.0 m.1 (λ j k d lt l both. singles i m.0 mine m.2 j k d lt l both.1) r.once
            (λ j k d lt l both.
            let x = r.on k d l in
            differ x.0 x.1 (sym (on_at claimed (page i) m.0 j d t.on lt) ∙ both.0 ∙ x.2)));
      }

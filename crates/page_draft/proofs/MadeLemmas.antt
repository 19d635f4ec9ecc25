-- The edits of drafted pages go in turn and make them.
use Rattle.std.proofs.Common.{refl, ◌≡◌, ◌≢◌, ℕ, zero, suc, ◌+◌, ◌-◌, ◌<◌, ◌≤◌, List, [], ◌∷◌, ◌++◌, length, get_or, map, ap, sym, ◌∙◌, subst, arith, Bool, true, false, cond, inl, inr, length-append}
use Rattle.std.specs.List.{All, Any, AllPairs}
use Rattle.std.proofs.lemmas.Bool.{cases_lt}
use Rattle.std.proofs.lemmas.List.{get_or_append_left, get_or-append_right}
use Rattle.std.proofs.lemmas.List.Elements.{All-nil, All-cons, All-head, All-tail, All-append}
use Rattle.page_base.specs.declared.numbers.PageId.{PageId}
use Rattle.page_base.specs.Pages.{set_at, is_page}
use Rattle.page_fmt.specs.Edits.{edited}
use Rattle.page_fmt.specs.Seen.{SlotsAt, Looked}
use Rattle.page_fmt.specs.Spelling.{used, FitsPage}
use Rattle.page_fmt.proofs.SeenLemmas.{is_page-same, is_page-true, is_page-other}
use Rattle.table_walk.specs.declared.plan.Edit.{Edit}
use Rattle.table_walk.specs.declared.plan.Spot.{Spot}
use Rattle.table_walk.specs.Differences.{page_changes, page_after, PageGoes, edit_at}
use Rattle.table_walk.specs.Plans.{place, bytes_of, slots_after, changed, after, Go, also, AreWithin, IsOtherSlot, IsBelow}
use Rattle.table_walk.proofs.EditLemmas.{page_goes, page_made, edit_fits, planned}
use Rattle.page_draft.specs.Drafts.{Drafted, slots_of, old_of, page_edits, edits_in}
use Rattle.page_draft.specs.Made.{HaveRoom, AreOthers, Stand, Make, SpeaksBelow}
use Rattle.page_draft.proofs.DraftLemmas.{has_room, Write, page_writes, AreOf, page_of}

abbrev Slots : Type 0
Slots = List (List ℕ)

module _ (claimed : ℕ → PageId) where
  -- A PAGE THAT IS SET

  set_same : (at : SlotsAt) (page : PageId) (s : Slots) → at page ≡ s → at ≡ set_at at page s
  set_same at page s e = λ i q. point q i
    where
      point : (q : PageId) → at q ≡ cond (is_page page q) s (at q)
      point q =
          let by : (b : Bool) → is_page page q ≡ b → at q ≡ cond b s (at q) =
          elim [
            | true ↦ λ f. ap at (sym (is_page-true page q f)) ∙ e
            | false ↦ λ f. refl
          ] in
          by (is_page page q) refl

  set_twice : (at : SlotsAt) (page other : PageId) (x y : Slots) → other ≡ page → set_at (set_at at other x) page y ≡ set_at at page y
  set_twice at page other x y e = λ i q. point q i
    where
      point : (q : PageId) → cond (is_page page q) y (cond (is_page other q) x (at q)) ≡ cond (is_page page q) y (at q)
      point q =
          let by : (b : Bool) → is_page page q ≡ b → cond b y (cond (is_page other q) x (at q)) ≡ cond b y (at q) =
          elim [
            | true ↦ λ f. refl
            | false ↦ λ f. ap (λ c. cond c x (at q)) (ap (λ p. is_page p q) e ∙ f)
          ] in
          by (is_page page q) refl

  set_here : (at : SlotsAt) (page other : PageId) (x : Slots) → other ≡ page → set_at at other x page ≡ x
  set_here at page other x e = ap (λ b. cond b x (at page)) (ap (λ p. is_page p page) e ∙ is_page-same page)

  set_other : (at : SlotsAt) (page q : PageId) (x : Slots) → page ≢ q → set_at at page x q ≡ at q
  set_other at page q x ne = ap (λ b. cond b x (at q)) (is_page-other page q ne)

  -- ONE PAGE

  next_is : (at : SlotsAt) (page : PageId) (s : Slots) (e : Edit) (c : ℕ × List ℕ) → at page ≡ s → (place claimed e.spot ≡ page) × (e.slot ≡ c.0) × (bytes_of claimed e ≡ c.1) → slots_after claimed at e ≡ edited s c.0 c.1
  next_is at page s e c is w = λ i. edited ((ap at w.0 ∙ is) i) (w.1 i) (w.2 i)

  go_page : (at : SlotsAt) (page : PageId) (s : Slots) (es : List Edit) (cs : List (ℕ × List ℕ)) → at page ≡ s → used s ≤ 8192 → Write claimed page es cs → PageGoes s cs → Go claimed at es
  go_page at page s [] [] is small w g = tt
  go_page at page s [] (c ∷ cs) is small w g = absurd w
  go_page at page s (e ∷ es) [] is small w g = absurd w
  go_page at page s (e ∷ es) (c ∷ cs) is small w g =
      let f = edit_fits s c.0 c.1 small g.0 g.1 in
      let made : slots_after claimed at e ≡ edited s c.0 c.1 = next_is at page s e c is w.0 in (
        record {
          index = subst (λ (n : ℕ). n < 4048) (sym w.0.1) f.0;
          short = subst (λ (bs : List ℕ). length bs ≤ 8094) (sym w.0.2) f.1;
          room = subst (λ (t : Slots). used t ≤ 8192) (sym made) g.0;
          changes = λ same. g.1 ((λ i. get_or (sym (ap at w.0.0 ∙ is) i) (sym w.0.1 i) []) ∙ same ∙ w.0.2);
        },
        go_page (changed claimed at e) page (edited s c.0 c.1) es cs (set_here at page (place claimed e.spot) (slots_after claimed at e) w.0.0 ∙ made) g.0 w.1 g.2,
      )

  after_page : (at : SlotsAt) (page : PageId) (s : Slots) (es : List Edit) (cs : List (ℕ × List ℕ)) → at page ≡ s → Write claimed page es cs → after claimed at es ≡ set_at at page (page_after s cs)
  after_page at page s [] [] is w = set_same at page s is
  after_page at page s [] (c ∷ cs) is w = absurd w
  after_page at page s (e ∷ es) [] is w = absurd w
  after_page at page s (e ∷ es) (c ∷ cs) is w =
      after_page (changed claimed at e) page (edited s c.0 c.1) es cs (set_here at page (place claimed e.spot) (slots_after claimed at e) w.0.0 ∙ next_is at page s e c is w.0) w.1
      ∙ set_twice at page (place claimed e.spot) (slots_after claimed at e) (page_after (edited s c.0 c.1) cs) w.0.0

  within_page : (n : ℕ) (owns : PageId → Bool) (page : PageId) (es : List Edit) (cs : List (ℕ × List ℕ)) → Write claimed page es cs → also owns claimed n page ≡ true → AreWithin claimed n owns es
  within_page n owns page [] cs w e = tt
  within_page n owns page (x ∷ xs) [] w e = absurd w
  within_page n owns page (x ∷ xs) (c ∷ cs) w e = (ap (also owns claimed n) w.0.0 ∙ e, within_page n owns page xs cs w.1 e)

  slot_is : (spot : Spot) (page : PageId) (es : List Edit) (cs : List (ℕ × List ℕ)) (k : ℕ) (d : Edit) → Write claimed page es cs → k < length es
      → ((get_or es k d).slot ≡ (get_or (map (edit_at spot) cs) k d).slot) × (k < length (map (edit_at spot) cs)) × (place claimed (get_or es k d).spot ≡ page)
  slot_is spot page [] cs k d w h = absurd (omega arith)
  slot_is spot page (e ∷ es) [] k d w h = absurd w
  slot_is spot page (e ∷ es) (c ∷ cs) zero d w h = (w.0.1, omega arith, w.0.0)
  slot_is spot page (e ∷ es) (c ∷ cs) (suc k) d w h = let r = slot_is spot page es cs k d w.1 (omega arith) in (r.0, omega (arith, r.1), r.2)

  once_page : (spot : Spot) (page : PageId) (es : List Edit) (cs : List (ℕ × List ℕ)) → Write claimed page es cs → AllPairs (λ e f. e.slot ≢ f.slot) (map (edit_at spot) cs) → AllPairs (IsOtherSlot claimed) es
  once_page spot page es cs w a i j d h l same =
      let x = slot_is spot page es cs i d w (omega (arith, h, l)) in
      let y = slot_is spot page es cs j d w l in
      a i j d h y.1 (sym x.0 ∙ same.1 ∙ y.0)

  -- ALL PAGES

  go_join : (at : SlotsAt) (es fs : List Edit) → Go claimed at es → Go claimed (after claimed at es) fs → Go claimed at (es ++ fs)
  go_join at [] fs g h = h
  go_join at (e ∷ es) fs g h = (g.0, go_join (changed claimed at e) es fs g.1 h)

  after_join : (at : SlotsAt) (es fs : List Edit) → after claimed at (es ++ fs) ≡ after claimed (after claimed at es) fs
  after_join at [] fs = refl
  after_join at (e ∷ es) fs = after_join (changed claimed at e) es fs

  within_join : (n : ℕ) (owns : PageId → Bool) (es fs : List Edit) → AreWithin claimed n owns es → AreWithin claimed n owns fs → AreWithin claimed n owns (es ++ fs)
  within_join n owns [] fs a b = b
  within_join n owns (e ∷ es) fs a b = (a.0, within_join n owns es fs a.1 b)

  pairs_append : (R : Edit → Edit → Type 0) (xs ys : List Edit) → AllPairs R xs → AllPairs R ys → ((i j : ℕ) (d : Edit) → i < length xs → j < length ys → R (get_or xs i d) (get_or ys j d)) → AllPairs R (xs ++ ys)
  pairs_append R xs ys a b c i j d h l =
      let long : length (xs ++ ys) ≡ length xs + length ys = length-append xs ys in
      elim (cases_lt i (length xs)) as (λ _. R (get_or (xs ++ ys) i d) (get_or (xs ++ ys) j d)) [
        | inl left ↦ elim (cases_lt j (length xs)) as (λ _. R (get_or (xs ++ ys) i d) (get_or (xs ++ ys) j d)) [
          | inl both ↦ subst (λ y. R (get_or (xs ++ ys) i d) y) (sym (get_or_append_left xs ys d j both)) (subst (λ x. R x (get_or xs j d)) (sym (get_or_append_left xs ys d i left)) (a i j d h both))
          | inr ge ↦ subst (λ y. R (get_or (xs ++ ys) i d) y) (sym (get_or-append_right xs ys (length xs) j d refl ge))
              (subst (λ x. R x (get_or ys (j - length xs) d)) (sym (get_or_append_left xs ys d i left)) (c i (j - length xs) d left (omega arith)))
        ]
        | inr right ↦ subst (λ y. R (get_or (xs ++ ys) i d) y) (sym (get_or-append_right xs ys (length xs) j d refl (omega arith)))
            (subst (λ x. R x (get_or ys (j - length xs) d)) (sym (get_or-append_right xs ys (length xs) i d refl right)) (b (i - length xs) (j - length xs) d (omega arith) (omega arith)))
      ]

  -- an edit of these pages lies on one of them
  of_spot : (d : Drafted) (es : List Edit) (k : ℕ) (x : Edit) → AreOf d es → k < length es → (get_or es k x).spot ≡ d.spot
  of_spot d [] k x a h = absurd (omega arith)
  of_spot d (e ∷ es) zero x a h = ap (λ (y : Edit). y.spot) a.0.1
  of_spot d (e ∷ es) (suc k) x a h = of_spot d es k x a.1 (omega arith)

  on_others : (seen : List Looked) (p : PageId) (ds : List Drafted) (k : ℕ) (x : Edit) → AreOthers claimed p ds → k < length (edits_in seen ds) → p ≢ place claimed (get_or (edits_in seen ds) k x).spot
  on_others seen p [] k x o h = absurd (omega arith)
  on_others seen p (d ∷ ds) k x o h = elim (cases_lt k (length (page_edits d (old_of seen d.spot)))) [
    | inl lt ↦ λ e. o.0 (e ∙ ap (λ (y : Edit). place claimed y.spot) (get_or_append_left (page_edits d (old_of seen d.spot)) (edits_in seen ds) x k lt) ∙ ap (place claimed) (of_spot d (page_edits d (old_of seen d.spot)) k x (page_of d (old_of seen d.spot)) lt))
    | inr ge ↦ λ e. on_others seen p ds (k - length (page_edits d (old_of seen d.spot))) x o.1 (omega (arith, length-append (page_edits d (old_of seen d.spot)) (edits_in seen ds)))
        (e ∙ ap (λ (y : Edit). place claimed y.spot) (get_or-append_right (page_edits d (old_of seen d.spot)) (edits_in seen ds) (length (page_edits d (old_of seen d.spot))) k x refl ge))
  ]

  module _ (n : ℕ) (owns : PageId → Bool) (seen : List Looked) where
    -- pages stand as they did where another one was set
    stands_set : (at : SlotsAt) (p : PageId) (x : Slots) (ds : List Drafted) → AreOthers claimed p ds → Stand claimed n at owns seen ds → Stand claimed n (set_at at p x) owns seen ds
    stands_set at p x [] o s = tt
    stands_set at p x (d ∷ ds) o s = (record { were = set_other at p (place claimed d.spot) x o.0 ∙ s.0.were; within = s.0.within; names = s.0.names }, s.1, stands_set at p x ds o.1 s.2)

    pub all_made : (at : SlotsAt) (ds : List Drafted) → HaveRoom seen ds → Stand claimed n at owns seen ds → Make claimed n at owns ds (edits_in seen ds)
    all_made at [] room s = record { go = tt; within = tt; made = refl; once = λ i j d h l. absurd (omega arith) }
    all_made at (d ∷ ds) room s =
        let p : PageId = place claimed d.spot in
        let old : Slots = old_of seen d.spot in
        let new : Slots = slots_of claimed d.cells in
        let es : List Edit = page_edits d (old_of seen d.spot) in
        let fits : FitsPage (slots_of claimed d.cells) = has_room claimed d.cells room.0.0 room.0.1 in
        let w : Write claimed (place claimed d.spot) (page_edits d (old_of seen d.spot)) (page_changes (old_of seen d.spot) (slots_of claimed d.cells)) = page_writes claimed d (old_of seen d.spot) s.0.names in
        let done : after claimed at (page_edits d (old_of seen d.spot)) ≡ set_at at (place claimed d.spot) (slots_of claimed d.cells) =
        after_page at (place claimed d.spot) (old_of seen d.spot) (page_edits d (old_of seen d.spot)) (page_changes (old_of seen d.spot) (slots_of claimed d.cells)) s.0.were w
        ∙ ap (set_at at (place claimed d.spot)) (page_made (old_of seen d.spot) (slots_of claimed d.cells) room.0.2.last fits.last) in
        let r : Make claimed n (set_at at (place claimed d.spot) (slots_of claimed d.cells)) owns ds (edits_in seen ds) =
        all_made (set_at at (place claimed d.spot) (slots_of claimed d.cells)) ds room.1 (stands_set at (place claimed d.spot) (slots_of claimed d.cells) ds s.1 s.2) in
        record {
          go = go_join at (page_edits d (old_of seen d.spot)) (edits_in seen ds)
              (go_page at (place claimed d.spot) (old_of seen d.spot) (page_edits d (old_of seen d.spot)) (page_changes (old_of seen d.spot) (slots_of claimed d.cells)) s.0.were room.0.2.small w
              (page_goes (old_of seen d.spot) (slots_of claimed d.cells) room.0.2.small fits.small room.0.2.last))
              (subst (λ (t : SlotsAt). Go claimed t (edits_in seen ds)) (sym done) r.go);
          within = within_join n owns (page_edits d (old_of seen d.spot)) (edits_in seen ds)
              (within_page n owns (place claimed d.spot) (page_edits d (old_of seen d.spot)) (page_changes (old_of seen d.spot) (slots_of claimed d.cells)) w s.0.within) r.within;
          made = after_join at (page_edits d (old_of seen d.spot)) (edits_in seen ds) ∙ ap (λ (t : SlotsAt). after claimed t (edits_in seen ds)) done ∙ r.made;
          once = pairs_append (IsOtherSlot claimed) (page_edits d (old_of seen d.spot)) (edits_in seen ds)
              (once_page d.spot (place claimed d.spot) (page_edits d (old_of seen d.spot)) (page_changes (old_of seen d.spot) (slots_of claimed d.cells)) w (planned d.spot (old_of seen d.spot) (slots_of claimed d.cells) room.0.2 fits).once) r.once
              (λ i j x h l same. on_others seen (place claimed d.spot) ds j x s.1 l
              (ap (place claimed) (sym (of_spot d (page_edits d (old_of seen d.spot)) i x (page_of d (old_of seen d.spot)) h)) ∙ same.0));
        }

-- WHATEVER STANDS THERE

below_of : (n : ℕ) (d : Drafted) (es : List Edit) → SpeaksBelow n d → AreOf d es → All (IsBelow n) es
below_of n d [] s a = All-nil (IsBelow n)
below_of n d (e ∷ es) s a = All-cons (IsBelow n) e es (subst (IsBelow n) (sym a.0.1) (s.spot, s.names a.0.0)) (below_of n d es s a.1)

pub all_below : (n : ℕ) (seen : List Looked) (ds : List Drafted) → All (SpeaksBelow n) ds → All (IsBelow n) (edits_in seen ds)
all_below n seen [] a = All-nil (IsBelow n)
all_below n seen (d ∷ ds) a =
    All-append (IsBelow n) (page_edits d (old_of seen d.spot)) (edits_in seen ds) (below_of n d (page_edits d (old_of seen d.spot)) (All-head (SpeaksBelow n) d ds a) (page_of d (old_of seen d.spot))) (all_below n seen ds (All-tail (SpeaksBelow n) d ds a))

-- an edit of a row is of a page of rows
abbrev IsOfRows : List Drafted → Edit → Type 0
IsOfRows ds e = e.of_row ≡ true → Any (λ d. (d.spot ≡ e.spot) × (d.rows ≡ true)) ds

first_rows : (d : Drafted) (ds : List Drafted) (es : List Edit) → AreOf d es → All (IsOfRows (d ∷ ds)) es
first_rows d ds [] a = All-nil (IsOfRows (d ∷ ds))
first_rows d ds (e ∷ es) a =
    All-cons (IsOfRows (d ∷ ds)) e es (λ row. (0, d, omega arith, refl, (sym (ap (λ (x : Edit). x.spot) a.0.1), sym (ap (λ (x : Edit). x.of_row) a.0.1) ∙ row))) (first_rows d ds es a.1)

later_rows : (d : Drafted) (ds : List Drafted) (es : List Edit) → All (IsOfRows ds) es → All (IsOfRows (d ∷ ds)) es
later_rows d ds es a k x h row = let y = a k x h row in (suc y.0, y.1, omega (arith, y.2), y.3, y.4)

pub all_rows : (seen : List Looked) (ds : List Drafted) → All (IsOfRows ds) (edits_in seen ds)
all_rows seen [] = All-nil (IsOfRows [])
all_rows seen (d ∷ ds) =
    All-append (IsOfRows (d ∷ ds)) (page_edits d (old_of seen d.spot)) (edits_in seen ds) (first_rows d ds (page_edits d (old_of seen d.spot)) (page_of d (old_of seen d.spot))) (later_rows d ds (edits_in seen ds) (all_rows seen ds))

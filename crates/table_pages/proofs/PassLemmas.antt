-- The edits that lead from a page to another, pass by pass and slot by slot.
use Rattle.std.proofs.Common.{◌≡◌, ◌≢◌, ◌⊎◌, ℕ, ◌+◌, ◌<◌, ◌≤◌, Bool, true, false, ltb, cond, inl, inr, List, [], ◌∷◌, ◌++◌, length, refl, ap, sym, ◌∙◌, subst, arith}
use Rattle.std.specs.List.{AllByRecursion}
use Rattle.std.proofs.lemmas.Bool.{cases_lt, cases_eq, ltb-true, ltb-false, lt-ltb, le-ltb}
use Rattle.page_base.specs.declared.numbers.PageId.{PageId}
use Rattle.page_base.specs.Pages.{is_page, set_at}
use Rattle.page_base.specs.Slots.{Slots, with_slot}
use Rattle.page_base.proofs.PagesLemmas.{is_page-same, cases_page, is_page-other}
use Rattle.page_base.proofs.SlotsLemmas.{with_slot-same, with_slot-slot, with_slot-page}
use Rattle.page_fmt.specs.Spelling.{used, LastIsFull}
use Rattle.page_fmt.specs.Content.{content, IsPage}
use Rattle.page_fmt.specs.Edits.{edited, slot_at}
use Rattle.page_fmt.proofs.SlotLemmas.{row_bytes-slot}
use Rattle.page_fmt.proofs.CallerLemmas.{slot_at-edited_same, slot_at-edited_other}
use Rattle.table_pages.proofs.FullLemmas.{last_edited, used_below}
use Rattle.table_pages.specs.declared.edit.Edit.{Edit}
use Rattle.table_pages.specs.Edits.{done, HasRoom, FitIn, Change}
use Rattle.table_pages.specs.Turns.{grows, Precedes, AreInTurn}
use Rattle.table_pages.specs.Passes.{IsSet, IsUnset, IsPast, IsPass}
use Rattle.table_pages.specs.Drafting.{Adds, Other, Stays, Changes, Differs}
use Rattle.table_pages.proofs.DoneLemmas.{Contents, after, slots_in, slots_after, done_more, after_more, fit_more, change_more, each_more}
use Rattle.table_pages.proofs.PageLemmas.{few_slots, slot_past}

-- the last slot of each page stays full
after_last : (es : List Edit) (c : Contents) (p : PageId) → LastIsFull (c p) → LastIsFull (after es c p)
after_last [] c p last = last
after_last (e ∷ es) c p last = after_last es (set_at c e.page (edited (c e.page) e.slot e.bytes)) p (by (cases_page p e.page))
  where
    by : ◌⊎◌ (p ≡ e.page) (p ≢ e.page) → LastIsFull (set_at c e.page (edited (c e.page) e.slot e.bytes) p)
    by (inl here) =
        let same : is_page e.page p ≡ true = ap (is_page e.page) here ∙ is_page-same e.page in
        subst (λ (b : Bool). LastIsFull (cond b (edited (c e.page) e.slot e.bytes) (c p))) (sym same) (last_edited (c e.page) e.slot e.bytes (subst (λ (q : PageId). LastIsFull (c q)) here last))
    by (inr ne) = subst (λ (b : Bool). LastIsFull (cond b (edited (c e.page) e.slot e.bytes) (c p))) (sym (is_page-other e.page p ne)) last

-- one more edit in turn
turn_more : (p : PageId) (slots : List (List ℕ)) (es : List Edit) (e : Edit) → AreInTurn p slots es → AllByRecursion (λ (d : Edit). Precedes slots d e) es → e.page ≡ p → 0 < e.slot → AreInTurn p slots (es ++ e ∷ [])
turn_more p slots [] e turn before at low = (at, low, tt, tt)
turn_more p slots (d ∷ es) e turn before at low = (turn.0, turn.1, each_more (Precedes slots d) es e turn.2 before.0, turn_more p slots es e turn.3 before.1 at low)

-- what follows for each edit
each_then : (P Q : Edit → Type 0) (es : List Edit) → ((e : Edit) → P e → Q e) → AllByRecursion P es → AllByRecursion Q es
each_then P Q [] f each = tt
each_then P Q (e ∷ es) f each = (f e each.0, each_then P Q es f each.1)

module _ (p : PageId) (slots left : List (List ℕ)) where
  -- WHICH SLOTS ARE SET

  set_later : (g : Bool) (k j : ℕ) → IsSet slots left g k j → IsSet slots left g (k + 1) j
  set_later false k j h = let lt = h.0 in (omega arith, h.1)
  set_later true k j (inl lt) = inl (omega arith)
  set_later true k j (inr le) = inr le

  unset_before : (g : Bool) (k j : ℕ) → IsUnset slots left g (k + 1) j → IsUnset slots left g k j
  unset_before false k j (inl le) = inl (omega arith)
  unset_before false k j (inr lt) = inr lt
  unset_before true k j h = let le = h.0 in (omega arith, h.1)

  set_before : (g : Bool) (k j : ℕ) → j ≢ k → IsSet slots left g (k + 1) j → IsSet slots left g k j
  set_before false k j ne h = let lt = h.0 in (omega arith, h.1)
  set_before true k j ne (inl lt) = inl (omega arith)
  set_before true k j ne (inr le) = inr le

  not_unset : (g : Bool) (k : ℕ) → IsUnset slots left g (k + 1) k → ltb (length (slot_at slots k)) (length (slot_at left k)) ≡ g → ⊥
  not_unset false k (inl le) e = omega arith
  not_unset false k (inr lt) e = let ge = ltb-false (length (slot_at slots k)) (length (slot_at left k)) e in omega arith
  not_unset true k h e = let le = h.0 in omega arith

  -- slot k isn't set before its turn
  unset_here : (g : Bool) (k : ℕ) → ltb (length (slot_at slots k)) (length (slot_at left k)) ≡ g → IsUnset slots left g k k
  unset_here false k e = inl (omega arith)
  unset_here true k e = (omega arith, ltb-true (length (slot_at slots k)) (length (slot_at left k)) e)

  -- slot k of another pass stays as it is
  set_stays : (g : Bool) (k : ℕ) → ltb (length (slot_at slots k)) (length (slot_at left k)) ≢ g → IsSet slots left g (k + 1) k → IsSet slots left g k k
  set_stays false k ne h = absurd (ne (le-ltb (length (slot_at slots k)) (length (slot_at left k)) h.1))
  set_stays true k ne (inr le) = inr le
  set_stays true k ne (inl lt) = elim (cases_lt (length (slot_at slots k)) (length (slot_at left k))) [
    | inl more ↦ absurd (ne (lt-ltb (length (slot_at slots k)) (length (slot_at left k)) more))
    | inr le ↦ inr le
  ]

  set_or_not : (g : Bool) (k j : ℕ) → ◌⊎◌ (IsSet slots left g k j) (IsUnset slots left g k j)
  set_or_not false k j = elim (cases_lt j k) [
    | inl lt ↦ elim (cases_lt (length (slot_at slots j)) (length (slot_at left j))) [ inl more ↦ inr (inr more) | inr le ↦ inl (lt, le) ]
    | inr ge ↦ inr (inl ge)
  ]
  set_or_not true k j = elim (cases_lt j k) [
    | inl lt ↦ inl (inl lt)
    | inr ge ↦ elim (cases_lt (length (slot_at slots j)) (length (slot_at left j))) [ inl more ↦ inr (ge, more) | inr le ↦ inl (inr le) ]
  ]

  -- ONE SLOT MORE

  later : (g : Bool) (k : ℕ) (es : List Edit) → AllByRecursion (IsPast slots left g k) es → AllByRecursion (IsPast slots left g (k + 1)) es
  later g k es each = each_then (IsPast slots left g k) (IsPast slots left g (k + 1)) es (λ e h. record { bytes = h.bytes; set = set_later g k e.slot h.set }) each

  -- a slot that stays
  stays : (g : Bool) (k : ℕ) (es : List Edit) → IsPass p slots left g k es → (IsSet slots left g (k + 1) k → ◌⊎◌ (IsSet slots left g k k) (slot_at left k ≡ slot_at slots k × IsUnset slots left g k k)) → IsPass p slots left g (k + 1) es
  stays g k es h here = record {
    turn = h.turn;
    past = later g k es h.past;
    fits = h.fits;
    changes = h.changes;
    set = λ s at j is. elim (cases_eq j k) [
      | inl same ↦ elim (here (subst (IsSet slots left g (k + 1)) same is)) [
        | inl set ↦ h.set s at j (subst (IsSet slots left g k) (sym same) set)
        | inr both ↦ ap (done es s p) same ∙ h.unset s at k both.1 ∙ sym both.0 ∙ ap (slot_at left) (sym same)
      ]
      | inr ne ↦ h.set s at j (set_before g k j ne is)
    ];
    unset = λ s at j is. h.unset s at j (unset_before g k j is);
    others = h.others;
  }

  module _ (fits_before : used slots ≤ 8192) (last : LastIsFull slots) (fits_after : used left ≤ 8192) (short : (j : ℕ) → length (slot_at left j) ≤ 8094) (g : Bool) (k : ℕ) (low : 0 < k) (high : k < 4048) where
    edit : Edit
    edit = record { page = p; slot = k; bytes = slot_at left k }

    -- a past edit comes before that of slot k
    precedes : ltb (length (slot_at slots k)) (length (slot_at left k)) ≡ g → (d : Edit) → IsPast slots left g k d → Precedes slots d (record { page = p; slot = k; bytes = slot_at left k })
    precedes e d h = by g e h.set
      where
        grown : (b : Bool) → ltb (length (slot_at slots d.slot)) (length (slot_at left d.slot)) ≡ b → grows slots d ≡ b
        grown b e = ap (λ (bs : List ℕ). ltb (length (slot_at slots d.slot)) (length bs)) h.bytes ∙ e

        by : (g : Bool) → ltb (length (slot_at slots k)) (length (slot_at left k)) ≡ g → IsSet slots left g k d.slot → Precedes slots d (record { page = p; slot = k; bytes = slot_at left k })
        by false e h = record { other = λ z. let lt = h.0 in omega arith; turn = inr (grown false (le-ltb (length (slot_at slots d.slot)) (length (slot_at left d.slot)) h.1) ∙ sym e, h.0) }
        by true e (inr le) = record {
          other = λ z. (let more = ltb-true (length (slot_at slots k)) (length (slot_at left k)) e in let less : length (slot_at left k) ≤ length (slot_at slots k) = subst (λ (j : ℕ). length (slot_at left j) ≤ length (slot_at slots j)) z le in omega arith);
          turn = inl (grown false (le-ltb (length (slot_at slots d.slot)) (length (slot_at left d.slot)) le), e);
        }
        by true e (inl lt) = record {
          other = λ z. omega arith;
          turn = elim (cases_lt (length (slot_at slots d.slot)) (length (slot_at left d.slot))) [
            | inl more ↦ inr (grown true (lt-ltb (length (slot_at slots d.slot)) (length (slot_at left d.slot)) more) ∙ sym e, lt)
            | inr le ↦ inl (grown false (le-ltb (length (slot_at slots d.slot)) (length (slot_at left d.slot)) le), e)
          ];
        }

    module _ (es : List Edit) (h : IsPass p slots left g k es) (mine : ltb (length (slot_at slots k)) (length (slot_at left k)) ≡ g) (ne : slot_at left k ≢ slot_at slots k) where
      here_set : IsSet slots left g (k + 1) k
      here_set = by g mine
        where
          by : (g : Bool) → ltb (length (slot_at slots k)) (length (slot_at left k)) ≡ g → IsSet slots left g (k + 1) k
          by false e = (omega arith, ltb-false (length (slot_at slots k)) (length (slot_at left k)) e)
          by true e = inl (omega arith)

      more_is : (s : Slots) → done (es ++ record { page = p; slot = k; bytes = slot_at left k } ∷ []) s ≡ with_slot (done es s) p k (slot_at left k)
      more_is s = done_more es (record { page = p; slot = k; bytes = slot_at left k }) s

      -- how long each slot is, once slot k has its bytes
      long : (s : Slots) → s p ≡ slot_at slots → (j : ℕ) → ◌⊎◌ (done es s p j ≡ slot_at left j × IsSet slots left g k j) (done es s p j ≡ slot_at slots j × IsUnset slots left g k j)
      long s at j = elim (set_or_not g k j) [ inl set ↦ inl (h.set s at j set, set) | inr unset ↦ inr (h.unset s at j unset, unset) ]

      below : (c : Contents) → c p ≡ slots → used (edited (after es c p) k (slot_at left k)) ≤ 8192
      below c at = by g mine long
        where
          now : (j : ℕ) → slot_at (after es c p) j ≡ done es (slots_in c) p j
          now j = λ t. slots_after es c t p j

          full : LastIsFull (edited (after es c p) k (slot_at left k))
          full = last_edited (after es c p) k (slot_at left k) (after_last es c p (subst LastIsFull (sym at) last))

          at_slots : slots_in c p ≡ slot_at slots
          at_slots = ap slot_at at

          by : (g : Bool) → ltb (length (slot_at slots k)) (length (slot_at left k)) ≡ g
              → ((s : Slots) → s p ≡ slot_at slots → (j : ℕ) → ◌⊎◌ (done es s p j ≡ slot_at left j × IsSet slots left g k j) (done es s p j ≡ slot_at slots j × IsUnset slots left g k j)) → used (edited (after es c p) k (slot_at left k)) ≤ 8192
          by false e long =
              let fewer = used_below (edited (after es c p) k (slot_at left k)) slots full (λ j. elim (cases_eq j k) [
                | inl same ↦
                    let mine : length (slot_at (edited (after es c p) k (slot_at left k)) j) ≡ length (slot_at left k) = ap length (ap (slot_at (edited (after es c p) k (slot_at left k))) same ∙ slot_at-edited_same (after es c p) k (slot_at left k)) in
                    let theirs : length (slot_at slots j) ≡ length (slot_at slots k) = ap (λ (i : ℕ). length (slot_at slots i)) same in
                    let less = ltb-false (length (slot_at slots k)) (length (slot_at left k)) e in
                    omega arith
                | inr other ↦
                    let mine : length (slot_at (edited (after es c p) k (slot_at left k)) j) ≡ length (done es (slots_in c) p j) = ap length (slot_at-edited_other (after es c p) k j (slot_at left k) other ∙ now j) in
                    elim (long (slots_in c) at_slots j) [
                      | inl set ↦ let is : length (done es (slots_in c) p j) ≡ length (slot_at left j) = ap length set.0 in let le = set.1.1 in omega arith
                      | inr unset ↦ let is : length (done es (slots_in c) p j) ≡ length (slot_at slots j) = ap length unset.0 in omega arith
                    ]
              ]) in omega arith
          by true e long =
              let fewer = used_below (edited (after es c p) k (slot_at left k)) left full (λ j. elim (cases_eq j k) [
                | inl same ↦
                    let mine : length (slot_at (edited (after es c p) k (slot_at left k)) j) ≡ length (slot_at left k) = ap length (ap (slot_at (edited (after es c p) k (slot_at left k))) same ∙ slot_at-edited_same (after es c p) k (slot_at left k)) in
                    let theirs : length (slot_at left j) ≡ length (slot_at left k) = ap (λ (i : ℕ). length (slot_at left i)) same in
                    omega arith
                | inr other ↦
                    let mine : length (slot_at (edited (after es c p) k (slot_at left k)) j) ≡ length (done es (slots_in c) p j) = ap length (slot_at-edited_other (after es c p) k j (slot_at left k) other ∙ now j) in
                    elim (long (slots_in c) at_slots j) [
                      | inl set ↦ let is : length (done es (slots_in c) p j) ≡ length (slot_at left j) = ap length set.0 in omega arith
                      | inr unset ↦ let is : length (done es (slots_in c) p j) ≡ length (slot_at slots j) = ap length unset.0 in let lt = unset.1.1 in omega arith
                    ]
              ]) in omega arith

      pub changes_one : IsPass p slots left g (k + 1) (es ++ record { page = p; slot = k; bytes = slot_at left k } ∷ [])
      changes_one = record {
        turn = turn_more p slots es (record { page = p; slot = k; bytes = slot_at left k }) h.turn (each_then (IsPast slots left g k) (λ (d : Edit). Precedes slots d (record { page = p; slot = k; bytes = slot_at left k })) es (precedes mine) h.past) refl low;
        past = each_more (IsPast slots left g (k + 1)) es (record { page = p; slot = k; bytes = slot_at left k }) (later g k es h.past) (record { bytes = refl; set = here_set });
        fits = λ c at. fit_more es (record { page = p; slot = k; bytes = slot_at left k }) c (h.fits c at) (record { index = high; short = short k; room = below c at });
        changes = λ s at. change_more es (record { page = p; slot = k; bytes = slot_at left k }) s (h.changes s at) (λ f. ne (f ∙ h.unset s at k (unset_here g k mine)));
        set = λ s at j is. elim (cases_eq j k) [
          | inl same ↦ (λ t. more_is s t p j) ∙ ap (with_slot (done es s) p k (slot_at left k) p) same ∙ with_slot-same (done es s) p k (slot_at left k) ∙ ap (slot_at left) (sym same)
          | inr other ↦ (λ t. more_is s t p j) ∙ with_slot-slot (done es s) p p k j (slot_at left k) other ∙ h.set s at j (set_before g k j other is)
        ];
        unset = λ s at j is. elim (cases_eq j k) [
          | inl same ↦ absurd (not_unset g k (subst (IsUnset slots left g (k + 1)) same is) mine)
          | inr other ↦ (λ t. more_is s t p j) ∙ with_slot-slot (done es s) p p k j (slot_at left k) other ∙ h.unset s at j (unset_before g k j is)
        ];
        others = λ s q apart. (λ t. more_is s t q) ∙ with_slot-page (done es s) p q k (slot_at left k) apart ∙ h.others s q apart;
      }

    -- one slot more, whatever becomes of it
    pub pass_more : (old new : List Edit) → Adds old new (record { page = p; slot = k; bytes = slot_at left k }) (slot_at slots k) g → IsPass p slots left g k old → IsPass p slots left g (k + 1) new
    pass_more old new (Other ne same) h = subst (IsPass p slots left g (k + 1)) (sym same) (stays g k old h (λ is. inl (set_stays g k ne is)))
    pass_more old new (Stays mine at same) h = subst (IsPass p slots left g (k + 1)) (sym same) (stays g k old h (λ is. inr (at, unset_here g k mine)))
    pass_more old new (Changes mine ne is) h = subst (IsPass p slots left g (k + 1)) (sym is) (changes_one old h mine ne)

  -- THE PASSES

  -- no slot has other bytes than before
  pub pass_none : slot_at left 0 ≡ slot_at slots 0 → IsPass p slots left false 1 []
  pass_none front = record {
    turn = tt;
    past = tt;
    fits = λ c at. tt;
    changes = λ s at. tt;
    set = λ s at j is. let first : j ≡ 0 = (let lt = is.0 in omega arith) in (λ t. at t j) ∙ ap (slot_at slots) first ∙ sym front ∙ ap (slot_at left) (sym first);
    unset = λ s at j is. (λ t. at t j);
    others = λ s q apart. refl;
  }

  -- past the last slot
  pub pass_past : (g : Bool) (n k : ℕ) (es : List Edit) → ((j : ℕ) → n ≤ j → slot_at left j ≡ slot_at slots j) → n ≤ k → k ≤ 4096 → IsPass p slots left g k es → IsPass p slots left g 4096 es
  pass_past g n k es past le few h = record {
    turn = h.turn;
    past = each_then (IsPast slots left g k) (IsPast slots left g 4096) es (λ e x. record { bytes = x.bytes; set = up e.slot x.set }) h.past;
    fits = h.fits;
    changes = h.changes;
    set = λ s at j is. elim (set_or_not g k j) [
      | inl set ↦ h.set s at j set
      | inr unset ↦ h.unset s at j unset ∙ sym (past j (behind j is unset))
    ];
    unset = λ s at j is. elim (set_or_not g k j) [
      | inl set ↦ h.set s at j set ∙ past j (over j is set)
      | inr unset ↦ h.unset s at j unset
    ];
    others = h.others;
  }
    where
      up : (j : ℕ) → IsSet slots left g k j → IsSet slots left g 4096 j
      up j set = elim (set_or_not g 4096 j) [
        | inl is ↦ is
        | inr unset ↦ absurd (wrong g unset set)
      ]
        where
          wrong : (g : Bool) → IsUnset slots left g 4096 j → IsSet slots left g k j → ⊥
          wrong false (inl ge) set = let lt = set.0 in omega arith
          wrong false (inr more) set = let le = set.1 in omega arith
          wrong true unset (inl lt) = omega arith
          wrong true unset (inr le) = let more = unset.1 in omega arith

      behind : (j : ℕ) → IsSet slots left g 4096 j → IsUnset slots left g k j → n ≤ j
      behind j = by g
        where
          by : (g : Bool) → IsSet slots left g 4096 j → IsUnset slots left g k j → n ≤ j
          by false set (inl ge) = omega arith
          by false set (inr more) = let le = set.1 in absurd (omega arith)
          by true (inl lt) unset = let ge = unset.0 in omega arith
          by true (inr le) unset = let more = unset.1 in absurd (omega arith)

      over : (j : ℕ) → IsUnset slots left g 4096 j → IsSet slots left g k j → n ≤ j
      over j = by g
        where
          by : (g : Bool) → IsUnset slots left g 4096 j → IsSet slots left g k j → n ≤ j
          by false (inl ge) set = omega arith
          by false (inr more) set = let le = set.1 in absurd (omega arith)
          by true unset (inl lt) = let ge = unset.0 in omega arith
          by true unset (inr le) = let more = unset.1 in absurd (omega arith)

  -- the second pass begins
  pub pass_next : (es : List Edit) → ((j : ℕ) → 4096 ≤ j → slot_at left j ≡ slot_at slots j) → slot_at left 0 ≡ slot_at slots 0 → IsPass p slots left false 4096 es → IsPass p slots left true 1 es
  pass_next es past front h = record {
    turn = h.turn;
    past = each_then (IsPast slots left false 4096) (IsPast slots left true 1) es (λ e x. record { bytes = x.bytes; set = inr x.set.1 }) h.past;
    fits = h.fits;
    changes = h.changes;
    set = λ s at j is. elim (set_or_not false 4096 j) [
      | inl set ↦ h.set s at j set
      | inr unset ↦ h.unset s at j unset ∙ same j is unset
    ];
    unset = λ s at j is. h.unset s at j (inr is.1);
    others = h.others;
  }
    where
      same : (j : ℕ) → IsSet slots left true 1 j → IsUnset slots left false 4096 j → slot_at slots j ≡ slot_at left j
      same j set (inl ge) = sym (past j ge)
      same j (inl lt) (inr more) = let first : j ≡ 0 = omega arith in ap (slot_at slots) first ∙ sym front ∙ ap (slot_at left) (sym first)
      same j (inr le) (inr more) = absurd (omega arith)

  -- both passes are over
  pub pass_end : (es : List Edit) → ((j : ℕ) → 4096 ≤ j → slot_at left j ≡ slot_at slots j) → IsPass p slots left true 4096 es → Differs p slots left es
  pass_end es past h = record {
    turn = h.turn;
    fits = h.fits;
    changes = h.changes;
    leads = λ s at j. elim (set_or_not true 4096 j) [
      | inl set ↦ h.set s at j set
      | inr unset ↦ h.unset s at j unset ∙ sym (past j unset.0)
    ];
    others = h.others;
  }

-- no page has so many slots
pub both_past : (before after : List ℕ) (n j : ℕ) → length (content before) ≤ n → length (content after) ≤ n → n ≤ j → slot_at (content after) j ≡ slot_at (content before) j
both_past before after n j a b le = slot_past after j (omega arith) ∙ sym (slot_past before j (omega arith))

pub far_past : (before after : List ℕ) (j : ℕ) → IsPage before → IsPage after → 4096 ≤ j → slot_at (content after) j ≡ slot_at (content before) j
far_past before after j a b le = let x = few_slots before a in let y = few_slots after b in both_past before after 4096 j (omega arith) (omega arith) le

-- a slot is short enough for a page of its own
pub page_short : (image : List ℕ) → IsPage image → (j : ℕ) → length (slot_at (content image) j) ≤ 8094
page_short image page j =
    let small = page.fits.small in
    let sum = row_bytes-slot (content image) j in
    elim (cases_lt j (length (content image))) [
      | inl lt ↦ omega arith
      | inr past ↦ let none : length (slot_at (content image) j) ≡ 0 = ap length (slot_past image j past) in omega arith
    ]

-- Records that can be taken back, among the owners of pages.
use Rattle.std.proofs.Common.{◌≡◌, ◌≢◌, ℕ, ◌%◌, ◌≤◌, Bool, true, false, cond, ◌==◌, ◌&&◌, ◌||◌, List, [], ◌∷◌, ◌++◌, length, refl, ap, sym, subst, ◌∙◌, eqb-true, inl, inr, arith}
use Rattle.std.specs.Prelude.{◌⊎◌}
use Rattle.std.proofs.lemmas.Bool.{and_parts}
use Rattle.page_base.specs.declared.numbers.PageId.{PageId}
use Rattle.page_base.specs.Pages.{is_page}
use Rattle.page_base.specs.Slots.{Slots, with_slot}
use Rattle.page_base.proofs.PagesLemmas.{is_page-same, is_page-true}
use Rattle.page_base.proofs.SlotsLemmas.{with_slot-same, with_slot-twice, with_slot-itself}
use Rattle.page_fmt.specs.Spelling.{used}
use Rattle.alloc_pages.specs.Owners.{owner_in, page_owner}
use Rattle.alloc_pages.specs.Spots.{spot_of}
use Rattle.alloc_pages.proofs.OwnerLemmas.{spots_apart}
use Rattle.rec_log.specs.Records.{Record}
use Rattle.rec_log.specs.Undone.{undone}
use Rattle.rec_log.proofs.UndoneLemmas.{undone-append}
use Rattle.page_tables.specs.Sheets.{sheets}
use Rattle.page_tables.proofs.OwnerLemmas.{page_cases}
use Rattle.open_tables.specs.Back.{LiesIn, FitsBack, IsLast, Back}
use Rattle.open_tables.specs.Names.{names, AreClaims}

differ : (b : Bool) → b ≡ true → b ≡ false → ⊥
differ true a e = cc
differ false a e = cc

or_cases : (b c : Bool) → (b || c) ≡ true → (b ≡ true) ⊎ (c ≡ true)
or_cases true c e = inl refl
or_cases false c e = inr e

every_spot : (q : PageId) → (spot_of q).page.page % 1280 ≡ 0
every_spot q = omega arith

-- KEPT AND TAKEN BACK

module _ (writes : ℕ → Bool) where
  restored : (s : Slots) (r : Record) → s r.page r.slot ≡ r.before → with_slot (with_slot s r.page r.slot r.after) r.page r.slot r.before ≡ s
  restored s r was = with_slot-twice s r.page r.slot r.before r.after ∙ ap (with_slot s r.page r.slot) (sym was) ∙ with_slot-itself s r.page r.slot

  push_undone : (rs : List Record) (s : Slots) (r : Record) → s r.page r.slot ≡ r.before → undone (rs ++ r ∷ []) (with_slot s r.page r.slot r.after) ≡ undone rs s
  push_undone rs s r was = undone-append rs (r ∷ []) (with_slot s r.page r.slot r.after) ∙ ap (undone rs) (restored s r was)

  fits_again : (s : Slots) (r : Record) → s r.page r.slot ≡ r.before → (length r.before ≡ length r.after) ⊎ (used (sheets s r.page) ≤ 8192) → FitsBack (with_slot s r.page r.slot r.after) r
  fits_again s r was (inl size) = inl size
  fits_again s r was (inr room) = inr (subst (λ (t : Slots). used (sheets t r.page) ≤ 8192) (sym (restored s r was)) room)

  pub pushed : (rs : List Record) (s : Slots) (r : Record) → s r.page r.slot ≡ r.before → (length r.before ≡ length r.after) ⊎ (used (sheets s r.page) ≤ 8192) → LiesIn writes (with_slot s r.page r.slot r.after) r → Back writes rs s → Back writes (rs ++ r ∷ []) (with_slot s r.page r.slot r.after)
  pushed [] s r was fits lies b = (tt, record { stands = with_slot-same s r.page r.slot r.after; fits = fits_again s r was fits; lies = lies })
  pushed (x ∷ rs) s r was fits lies b = (pushed rs s r was fits lies b.0, subst (λ (t : Slots). IsLast writes t x) (sym (push_undone rs s r was)) b.1)

  pub popped : (rs : List Record) (s : Slots) (r : Record) → Back writes (rs ++ r ∷ []) s → Back writes rs (with_slot s r.page r.slot r.before) × IsLast writes s r
  popped [] s r b = (tt, b.1)
  popped (x ∷ rs) s r b =
      let p = popped rs s r b.0 in
      ((p.0, subst (λ (t : Slots). IsLast writes t x) (undone-append rs (r ∷ []) s) b.1), p.1)

  -- WHERE RECORDS LIE

  pub claims : (rs : List Record) (s : Slots) → Back writes rs s → AreClaims rs
  claims [] s b = tt
  claims (r ∷ rs) s b = (
    (λ q at_page at_slot. elim b.1.lies [
      | inl e ↦ absurd (e.0 (ap (λ (p : PageId). p.page % 1280) at_page ∙ every_spot q))
      | inr c ↦ c.4
    ]),
    claims rs s b.0,
  )

  -- an owner is what it was, or the page was claimed and is free
  pub back_one : (rs : List Record) (s : Slots) (q : PageId) → AreClaims rs → (page_owner (undone rs s) q ≡ page_owner s q) ⊎ (page_owner (undone rs s) q ≡ 0)
  back_one [] s q c = inl refl
  back_one (r ∷ rs) s q c = go (is_page r.page (spot_of q).page && r.slot == (spot_of q).slot) refl (back_one rs s q c.1)
    where
      go : (b : Bool) → (is_page r.page (spot_of q).page && r.slot == (spot_of q).slot) ≡ b → (page_owner (undone rs s) q ≡ page_owner s q) ⊎ (page_owner (undone rs s) q ≡ 0)
          → (owner_in (cond b r.before (undone rs s (spot_of q).page (spot_of q).slot)) ≡ page_owner s q) ⊎ (owner_in (cond b r.before (undone rs s (spot_of q).page (spot_of q).slot)) ≡ 0)
      go true e rest = let f = and_parts (is_page r.page (spot_of q).page) (r.slot == (spot_of q).slot) e in inr (c.0 q (is_page-true r.page (spot_of q).page f.0) (eqb-true r.slot (spot_of q).slot f.1))
      go false e rest = rest

  -- what holds of an owner once records are taken back held before
  pub was_written : (rs : List Record) (s : Slots) (q : PageId) → writes 0 ≡ false → Back writes rs s → writes (page_owner (undone rs s) q) ≡ true → writes (page_owner s q) ≡ true
  was_written rs s q none b e = elim (back_one rs s q (claims rs s b)) [
    | inl same ↦ ap writes (sym same) ∙ e
    | inr free ↦ absurd (differ (writes 0) (ap writes (sym free) ∙ e) none)
  ]

  pub claimed : (rs : List Record) (s : Slots) → writes 0 ≡ false → Back writes rs s → (q : PageId) → names rs (spot_of q).page (spot_of q).slot ≡ true → writes (page_owner s q) ≡ true
  claimed [] s none b q e = absurd (differ false e refl)
  claimed (r ∷ rs) s none b q e = pick (or_cases (is_page r.page (spot_of q).page && r.slot == (spot_of q).slot) (names rs (spot_of q).page (spot_of q).slot) e) (claimed rs s none b.0 q)
    where
      pick : ((is_page r.page (spot_of q).page && r.slot == (spot_of q).slot) ≡ true) ⊎ (names rs (spot_of q).page (spot_of q).slot ≡ true) → (names rs (spot_of q).page (spot_of q).slot ≡ true → writes (page_owner s q) ≡ true) → writes (page_owner s q) ≡ true
      pick (inr t) go = go t
      pick (inl t) go =
          let f = and_parts (is_page r.page (spot_of q).page) (r.slot == (spot_of q).slot) t in
          let page : r.page ≡ (spot_of q).page = is_page-true r.page (spot_of q).page f.0 in
          let slot : r.slot ≡ (spot_of q).slot = eqb-true r.slot (spot_of q).slot f.1 in
          elim b.1.lies [
            | inl x ↦ absurd (x.0 (ap (λ (p : PageId). p.page % 1280) page ∙ every_spot q))
            | inr c ↦
                let is : c.0 ≡ q = elim (page_cases c.0 q) [
                  | inl same ↦ same
                  | inr other ↦ absurd (spots_apart c.0 q (λ e. differ (is_page c.0 q) (ap (is_page c.0) (sym e) ∙ is_page-same c.0) other) (c.1 ∙ page) (c.2 ∙ slot))
                ] in
                was_written rs s q none b.0 (ap (λ o. writes (page_owner (undone rs s) o)) (sym is) ∙ c.3)
          ]

  pub edits : (rs : List Record) (s : Slots) → writes 0 ≡ false → Back writes rs s → (p : PageId) (i : ℕ) → names rs p i ≡ true → ((p.page % 1280 ≢ 0) × (writes (page_owner s p) ≡ true)) ⊎ ((q : PageId) × ((spot_of q).page ≡ p) × ((spot_of q).slot ≡ i))
  edits [] s none b p i e = absurd (differ false e refl)
  edits (r ∷ rs) s none b p i e = pick (or_cases (is_page r.page p && r.slot == i) (names rs p i) e) (edits rs s none b.0 p i)
    where
      pick : ((is_page r.page p && r.slot == i) ≡ true) ⊎ (names rs p i ≡ true) → (names rs p i ≡ true → ((p.page % 1280 ≢ 0) × (writes (page_owner s p) ≡ true)) ⊎ ((q : PageId) × ((spot_of q).page ≡ p) × ((spot_of q).slot ≡ i)))
          → ((p.page % 1280 ≢ 0) × (writes (page_owner s p) ≡ true)) ⊎ ((q : PageId) × ((spot_of q).page ≡ p) × ((spot_of q).slot ≡ i))
      pick (inr t) go = go t
      pick (inl t) go =
          let f = and_parts (is_page r.page p) (r.slot == i) t in
          let here : r.page ≡ p = is_page-true r.page p f.0 in
          elim b.1.lies [
            | inl x ↦ inl ((λ e. x.0 (ap (λ (q : PageId). q.page % 1280) here ∙ e)), was_written rs s p none b.0 (ap (λ o. writes (page_owner (undone rs s) o)) (sym here) ∙ x.1))
            | inr c ↦ inr (c.0, c.1 ∙ here, c.2 ∙ eqb-true r.slot i f.1)
          ]

-- Records taken back among those of others.
use Rattle.std.proofs.Common.{◌≡◌, ◌≢◌, ℕ, zero, suc, ◌<◌, ◌≤◌, Bool, true, false, cond, ◌==◌, ◌&&◌, List, [], ◌∷◌, ◌++◌, length, drop, refl, ap, sym, subst, ◌∙◌, eq-eqb, eqb-true, inl, inr, arith}
use Rattle.std.specs.Prelude.{◌⊎◌}
use Rattle.std.proofs.lemmas.Bool.{cases_eq, ne_eqb, and_parts}
use Rattle.page_base.specs.declared.numbers.PageId.{PageId}
use Rattle.page_base.specs.Pages.{is_page}
use Rattle.page_base.specs.Slots.{Slots, with_slot}
use Rattle.page_base.proofs.PagesLemmas.{is_page-true}
use Rattle.page_base.proofs.SlotsLemmas.{with_slot-same, with_slot-twice, with_slot-itself}
use Rattle.rec_log.specs.Records.{Record}
use Rattle.rec_log.specs.Undone.{undone, LacksSlot}
use Rattle.rec_log.proofs.UndoneLemmas.{undone-append, undone-with_slot}
use Rattle.open_work.specs.Moves.{Changes, TakesBack}
use Rattle.open_work.specs.Open.{Parts, all, with_part, settled, alone, before}

-- a slot set that no session's records name
all-aside : (n : ℕ) (part : Parts) (s : Slots) (p : PageId) (i : ℕ) (x : List ℕ) → ((j : ℕ) → LacksSlot (part j) p i) → undone (all n part) (with_slot s p i x) ≡ with_slot (undone (all n part) s) p i x
all-aside zero part s p i x lacks = refl
all-aside (suc n) part s p i x lacks =
    undone-append (all n part) (part n) (with_slot s p i x) ∙ ap (undone (all n part)) (undone-with_slot (part n) s p i x (lacks n))
    ∙ all-aside n part (undone (part n) s) p i x lacks ∙ ap (λ (t : Slots). with_slot t p i x) (sym (undone-append (all n part) (part n) s))

held : (records : List Record) (s : Slots) (p : PageId) (i : ℕ) → LacksSlot records p i → undone records s p i ≡ s p i
held [] s p i lacks = refl
held (r ∷ records) s p i lacks = away (is_page r.page p && r.slot == i) refl ∙ held records s p i lacks.1
  where
    away : (b : Bool) → (is_page r.page p && r.slot == i) ≡ b → cond b r.before (undone records s p i) ≡ undone records s p i
    away true e = let f = and_parts (is_page r.page p) (r.slot == i) e in absurd (lacks.0 (sym (is_page-true r.page p f.0)) (sym (eqb-true r.slot i f.1)))
    away false e = refl

below_same : (m : ℕ) (part other : Parts) → ((j : ℕ) → j < m → other j ≡ part j) → all m other ≡ all m part
below_same zero part other h = refl
below_same (suc m) part other h = ap (λ xs. xs ++ other m) (below_same m part other (λ j l. h j (omega (arith, l)))) ∙ ap (λ xs. all m part ++ xs) (h m (omega arith))

-- one record more of session k, with its change
all-push : (n k : ℕ) (part other : Parts) (r : Record) (s : Slots) → k < n → other k ≡ part k ++ r ∷ [] → ((j : ℕ) → j ≢ k → other j ≡ part j) → ((j : ℕ) → j ≢ k → LacksSlot (part j) r.page r.slot)
    → s r.page r.slot ≡ r.before → undone (all n other) (with_slot s r.page r.slot r.after) ≡ undone (all n part) s
all-push zero k part other r s there own others lacks was = absurd (omega (arith, there))
all-push (suc n) k part other r s there own others lacks was = elim (cases_eq n k) [
  | inl here ↦
      let same : all n other ≡ all n part = below_same n part other (λ j l. others j (λ e. omega (arith, l, e, here))) in
      let is : other n ≡ part n ++ r ∷ [] = ap other here ∙ own ∙ ap (λ o. part o ++ r ∷ []) (sym here) in
      undone-append (all n other) (other n) (with_slot s r.page r.slot r.after)
      ∙ ap (λ xs. undone (all n other) (undone xs (with_slot s r.page r.slot r.after))) is
      ∙ ap (undone (all n other)) (undone-append (part n) (r ∷ []) (with_slot s r.page r.slot r.after) ∙ ap (undone (part n)) (with_slot-twice s r.page r.slot r.before r.after ∙ ap (with_slot s r.page r.slot) (sym was) ∙ with_slot-itself s r.page r.slot))
      ∙ ap (λ xs. undone xs (undone (part n) s)) same
      ∙ sym (undone-append (all n part) (part n) s)
  | inr ne ↦
      let lack : LacksSlot (part n) r.page r.slot = lacks n ne in
      undone-append (all n other) (other n) (with_slot s r.page r.slot r.after)
      ∙ ap (λ xs. undone (all n other) (undone xs (with_slot s r.page r.slot r.after))) (others n ne)
      ∙ ap (undone (all n other)) (undone-with_slot (part n) s r.page r.slot r.after lack)
      ∙ all-push n k part other r (undone (part n) s) (omega (arith, there, ne)) own others lacks (held (part n) s r.page r.slot lack ∙ was)
      ∙ sym (undone-append (all n part) (part n) s)
]

-- PARTS

own_part : (part : Parts) (k : ℕ) (xs : List Record) → with_part part k xs k ≡ xs
own_part part k xs = ap (λ b. cond b xs (part k)) (eq-eqb k k refl)

other_part : (part : Parts) (k j : ℕ) (xs : List Record) → j ≢ k → with_part part k xs j ≡ part j
other_part part k j xs ne = ap (λ b. cond b xs (part j)) (ne_eqb j k ne)

drop_more : (n : ℕ) (xs ys : List Record) → n ≤ length xs → drop n (xs ++ ys) ≡ drop n xs ++ ys
drop_more zero xs ys l = refl
drop_more (suc n) [] ys l = absurd (omega (arith, l))
drop_more (suc n) (x ∷ xs) ys l = drop_more n xs ys (omega (arith, l))

lack_drop : (n : ℕ) (xs : List Record) (p : PageId) (i : ℕ) → LacksSlot xs p i → LacksSlot (drop n xs) p i
lack_drop zero xs p i l = l
lack_drop (suc n) [] p i l = tt
lack_drop (suc n) (x ∷ xs) p i l = lack_drop n xs p i l.1

module _ (n k : ℕ) (work more : Parts) (r : Record) (old new : Slots) (c : Changes n k work more r old new) where
  -- with the same records of another session
  push_aside : (j : ℕ) (xs : List Record) → j ≢ k → LacksSlot xs r.page r.slot → undone (all n (with_part more j xs)) new ≡ undone (all n (with_part work j xs)) old
  push_aside j xs ne lacks =
      ap (undone (all n (with_part more j xs))) c.is
      ∙ all-push n k (with_part work j xs) (with_part more j xs) r old c.has.there
      (other_part more j k xs (λ e. ne (sym e)) ∙ c.has.own ∙ ap (λ zs. zs ++ r ∷ []) (sym (other_part work j k xs (λ e. ne (sym e)))))
      (λ i away. by_other i away (cases_eq i j)) (λ i away. lack_other i away (cases_eq i j)) c.was
    where
      by_other : (i : ℕ) → i ≢ k → (i ≡ j) ⊎ (i ≢ j) → with_part more j xs i ≡ with_part work j xs i
      by_other i away (inl here) = ap (λ b. cond b xs (more i)) (eq-eqb i j here) ∙ sym (ap (λ b. cond b xs (work i)) (eq-eqb i j here))
      by_other i away (inr far) = other_part more j i xs far ∙ c.has.others i away ∙ sym (other_part work j i xs far)

      lack_other : (i : ℕ) → i ≢ k → (i ≡ j) ⊎ (i ≢ j) → LacksSlot (with_part work j xs i) r.page r.slot
      lack_other i away (inl here) = subst (λ (ys : List Record). LacksSlot ys r.page r.slot) (sym (ap (λ b. cond b xs (work i)) (eq-eqb i j here))) lacks
      lack_other i away (inr far) = subst (λ (ys : List Record). LacksSlot ys r.page r.slot) (sym (other_part work j i xs far)) (c.has.apart i away)

  -- with fewer records of its own session in front
  push_own : (xs : List Record) → undone (all n (with_part more k (xs ++ r ∷ []))) new ≡ undone (all n (with_part work k xs)) old
  push_own xs =
      ap (undone (all n (with_part more k (xs ++ r ∷ [])))) c.is
      ∙ all-push n k (with_part work k xs) (with_part more k (xs ++ r ∷ [])) r old c.has.there
      (own_part more k (xs ++ r ∷ []) ∙ ap (λ zs. zs ++ r ∷ []) (sym (own_part work k xs)))
      (λ i away. other_part more k i (xs ++ r ∷ []) away ∙ c.has.others i away ∙ sym (other_part work k i xs away))
      (λ i away. subst (λ (ys : List Record). LacksSlot ys r.page r.slot) (sym (other_part work k i xs away)) (c.has.apart i away)) c.was

  pub settled_same : settled n more new ≡ settled n work old
  settled_same = ap (undone (all n more)) c.is ∙ all-push n k work more r old c.has.there c.has.own c.has.others c.has.apart c.was

  pub alone_other : (j : ℕ) → j ≢ k → alone n more j new ≡ alone n work j old
  alone_other j ne = push_aside j [] ne tt

  pub alone_own : alone n more k new ≡ with_slot (alone n work k old) r.page r.slot r.after
  alone_own =
      ap (λ xs. undone xs new) (below_same n (with_part work k []) (with_part more k []) (λ j lt. by j (cases_eq j k)))
      ∙ ap (undone (all n (with_part work k []))) c.is
      ∙ all-aside n (with_part work k []) old r.page r.slot r.after (λ j. lack j (cases_eq j k))
    where
      by : (j : ℕ) → (j ≡ k) ⊎ (j ≢ k) → with_part more k [] j ≡ with_part work k [] j
      by j (inl here) = ap (λ b. cond b [] (more j)) (eq-eqb j k here) ∙ sym (ap (λ b. cond b [] (work j)) (eq-eqb j k here))
      by j (inr far) = other_part more k j [] far ∙ c.has.others j far ∙ sym (other_part work k j [] far)

      lack : (j : ℕ) → (j ≡ k) ⊎ (j ≢ k) → LacksSlot (with_part work k [] j) r.page r.slot
      lack j (inl here) = subst (λ (ys : List Record). LacksSlot ys r.page r.slot) (sym (ap (λ b. cond b [] (work j)) (eq-eqb j k here))) tt
      lack j (inr far) = subst (λ (ys : List Record). LacksSlot ys r.page r.slot) (sym (other_part work k j [] far)) (c.has.apart j far)

  pub before_same : (j base : ℕ) → base ≤ length (work j) → before n more j base new ≡ before n work j base old
  before_same j base few = elim (cases_eq j k) [
    | inl here ↦
        subst (λ i. before n more i base new ≡ before n work i base old) (sym here)
        (ap (λ xs. undone (all n (with_part more k xs)) new) (ap (drop base) c.has.own ∙ drop_more base (work k) (r ∷ []) (subst (λ i. base ≤ length (work i)) here few)) ∙ push_own (drop base (work k)))
    | inr ne ↦
        ap (λ xs. undone (all n (with_part more j xs)) new) (ap (drop base) (c.has.others j ne)) ∙ push_aside j (drop base (work j)) ne (lack_drop base (work j) r.page r.slot (c.has.apart j ne))
  ]

-- TAKING BACK

turned_round : (n k : ℕ) (work less : Parts) (r : Record) (old new : Slots) → TakesBack n k work less r old new → Changes n k less work r new old
turned_round n k work less r old new t = record {
  has = t.has;
  was = (λ i. t.is i r.page r.slot) ∙ with_slot-same old r.page r.slot r.before;
  is = sym (ap (λ (s : Slots). with_slot s r.page r.slot r.after) t.is ∙ with_slot-twice old r.page r.slot r.after r.before ∙ ap (with_slot old r.page r.slot) (sym t.stood) ∙ with_slot-itself old r.page r.slot);
}

module _ (n k : ℕ) (work less : Parts) (r : Record) (old new : Slots) (t : TakesBack n k work less r old new) where
  pub back_settled : settled n less new ≡ settled n work old
  back_settled = sym (settled_same n k less work r new old (turned_round n k work less r old new t))

  pub back_other : (j : ℕ) → j ≢ k → alone n less j new ≡ alone n work j old
  back_other j ne = sym (alone_other n k less work r new old (turned_round n k work less r old new t) j ne)

  pub back_own : alone n less k new ≡ with_slot (alone n work k old) r.page r.slot r.before
  back_own =
      let c = turned_round n k work less r old new t in
      let was : alone n less k new r.page r.slot ≡ r.before = was_there n (with_part less k []) new r.page r.slot (λ j. lack j (cases_eq j k)) ∙ c.was in
      sym (ap (λ (s : Slots). with_slot s r.page r.slot r.before) (alone_own n k less work r new old c) ∙ with_slot-twice (alone n less k new) r.page r.slot r.before r.after ∙ ap (with_slot (alone n less k new) r.page r.slot) (sym was) ∙ with_slot-itself (alone n less k new) r.page r.slot)
    where
      lack : (j : ℕ) → (j ≡ k) ⊎ (j ≢ k) → LacksSlot (with_part less k [] j) r.page r.slot
      lack j (inl here) = subst (λ (ys : List Record). LacksSlot ys r.page r.slot) (sym (ap (λ b. cond b [] (less j)) (eq-eqb j k here))) tt
      lack j (inr far) = subst (λ (ys : List Record). LacksSlot ys r.page r.slot) (sym (other_part less k j [] far)) (t.has.apart j far)

      was_there : (m : ℕ) (part : Parts) (s : Slots) (p : PageId) (i : ℕ) → ((j : ℕ) → LacksSlot (part j) p i) → undone (all m part) s p i ≡ s p i
      was_there zero part s p i lacks = refl
      was_there (suc m) part s p i lacks = (λ u. undone-append (all m part) (part m) s u p i) ∙ was_there m part (undone (part m) s) p i lacks ∙ held (part m) s p i (lacks m)

  pub back_before : (j base : ℕ) → base ≤ length (less j) → before n less j base new ≡ before n work j base old
  back_before j base few = sym (before_same n k less work r new old (turned_round n k work less r old new t) j base few)

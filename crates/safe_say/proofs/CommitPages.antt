-- The pages that others see once a session's records are records no more.
use Rattle.std.proofs.Common.{◌≡◌, ◌≢◌, ℕ, zero, suc, ◌+◌, true, false, List, [], drop, refl, ap, sym, ◌∙◌, inl, inr}
use Rattle.std.proofs.lemmas.Bool.{cases_Bool, cases_eq}
use Rattle.page_base.specs.declared.numbers.PageId.{PageId}
use Rattle.page_base.specs.Slots.{Slots}
use Rattle.rec_log.specs.Records.{Record}
use Rattle.rec_log.specs.Undone.{undone}
use Rattle.snap_pages.specs.Slots.{slots_of}
use Rattle.open_work.specs.Open.{Parts, all, with_part, settled, alone, before}
use Rattle.open_tables.specs.Names.{names}
use Rattle.open_commits.proofs.WithinLemmas.{differ}
use Rattle.open_commits.proofs.ApartLemmas.{own_part, other_part, AreNamedApart, taken_out}
use Rattle.step_words.specs.Seats.{Seated}
use Rattle.step_state.specs.State.{State, IsSession, seat, works, many, slots_at, settled_of, alone_of, before_of}
use Rattle.step_state.specs.Safe.{Safe}
use Rattle.step_state.proofs.StandingLemmas.{is_many}
use Rattle.safe_say.specs.Committing.{DoesCommit}
use Rattle.safe_say.proofs.CommitWhole.{now, else, as_many}

module _ (e s : State) (k : ℕ) (safe : Safe e) (d : DoesCommit e s k) where
  pub works_k : works s k ≡ []
  works_k = ap (λ (x : Seated). x.work.recs) (now e s k safe d)

  pub works_else : (m : ℕ) → m ≢ k → works s m ≡ works e m
  works_else m ne = ap (λ (x : Seated). x.work.recs) (else e s k safe d m ne)

  same_many : many s ≡ many e
  same_many = ap (λ n. n + 1) (as_many e s k safe d)

  same_slots : slots_at s ≡ slots_at e
  same_slots = ap slots_of d.shown.images

  -- the pages as session j sees them, with these of its records taken back, once k's are none
  abbrev pub seen_then : ℕ → List Record → Slots
  seen_then j xs = undone (all (many e) (with_part (works s) j xs)) (slots_at e)

  pub alone_then : (j : ℕ) → alone_of s j ≡ undone (all (many e) (with_part (works s) j [])) (slots_at e)
  alone_then j = ap (λ n. alone n (works s) j (slots_at s)) same_many ∙ ap (λ (t : Slots). undone (all (many e) (with_part (works s) j [])) t) same_slots

  pub before_then : (j : ℕ) → j ≢ k → before_of s j ≡ undone (all (many e) (with_part (works s) j (drop (seat e j).base (works e j)))) (slots_at e)
  before_then j ne =
      ap (λ n. before n (works s) j (seat s j).base (slots_at s)) same_many ∙ ap (λ (t : Slots). before (many e) (works s) j (seat s j).base t) same_slots
      ∙ ap (λ b. undone (all (many e) (with_part (works s) j (drop b (works s j)))) (slots_at e)) (ap (λ (x : Seated). x.base) (else e s k safe d j ne))
      ∙ ap (λ (xs : List Record). undone (all (many e) (with_part (works s) j (drop (seat e j).base xs))) (slots_at e)) (works_else j ne)

  -- what is committed then is what k saw
  all_now : works s ≡ with_part (works e) k []
  all_now = λ i m. at m i
    where
      at : (m : ℕ) → works s m ≡ with_part (works e) k [] m
      at m = elim (cases_eq m k) [
        | inl here ↦ ap (works s) here ∙ works_k ∙ sym (ap (λ o. with_part (works e) k [] o) here ∙ own_part (works e) k [])
        | inr far ↦ works_else m far ∙ sym (other_part (works e) k m [] far)
      ]

  pub settled_then : settled_of s ≡ alone_of e k
  settled_then = ap (λ n. settled n (works s) (slots_at s)) same_many ∙ ap (λ (w : Parts). settled (many e) w (slots_at s)) all_now ∙ ap (λ (t : Slots). settled (many e) (with_part (works e) k []) t) same_slots

  -- and k itself sees it
  own_now : with_part (works s) k [] ≡ with_part (works e) k []
  own_now = λ i m. at m i
    where
      at : (m : ℕ) → with_part (works s) k [] m ≡ with_part (works e) k [] m
      at m = elim (cases_eq m k) [
        | inl here ↦ ap (λ o. with_part (works s) k [] o) here ∙ own_part (works s) k [] ∙ sym (ap (λ o. with_part (works e) k [] o) here ∙ own_part (works e) k [])
        | inr far ↦ other_part (works s) k m [] far ∙ works_else m far ∙ sym (other_part (works e) k m [] far)
      ]

  pub saw_own : (alone_of s k ≡ alone_of e k) × (before_of s k ≡ alone_of e k)
  saw_own =
      let alone_k : alone_of s k ≡ alone_of e k = alone_then k ∙ ap (λ (w : Parts). undone (all (many e) w) (slots_at e)) own_now in
      (alone_k, ap (λ (xs : List Record). undone (all (many s) (with_part (works s) k xs)) (slots_at s)) (ap (drop (seat s k).base) works_k ∙ none (seat s k).base) ∙ alone_k)
    where
      none : (n : ℕ) → drop {A = Record} n [] ≡ []
      none zero = refl
      none (suc n) = refl

  -- WHERE ITS SESSION HAD NONE

  pub as_it_was : works e k ≡ [] → works s ≡ works e
  as_it_was none = λ i m. at m i
    where
      at : (m : ℕ) → works s m ≡ works e m
      at m = elim (cases_eq m k) [
        | inl here ↦ ap (works s) here ∙ works_k ∙ sym (ap (works e) here ∙ none)
        | inr far ↦ works_else m far
      ]

  pub alone_was : works e k ≡ [] → (j : ℕ) → alone_of s j ≡ alone_of e j
  alone_was none j = ap (λ n. alone n (works s) j (slots_at s)) same_many ∙ ap (λ (w : Parts). alone (many e) w j (slots_at s)) (as_it_was none) ∙ ap (λ (t : Slots). alone (many e) (works e) j t) same_slots

  pub before_was : works e k ≡ [] → (j : ℕ) → j ≢ k → before_of s j ≡ before_of e j
  before_was none j ne = before_then j ne ∙ ap (λ (w : Parts). undone (all (many e) (with_part w j (drop (seat e j).base (works e j)))) (slots_at e)) (as_it_was none)

  -- WHERE NOBODY ELSE HAD ANY

  module _ (only : (m : ℕ) → m ≢ k → works e m ≡ []) (j : ℕ) (ne : j ≢ k) where
    same_part : (xs : List Record) → xs ≡ [] → with_part (works s) j xs ≡ works s
    same_part xs none = λ i m. at m i
      where
        at : (m : ℕ) → with_part (works s) j xs m ≡ works s m
        at m = elim (cases_eq m j) [
          | inl here ↦ ap (λ o. with_part (works s) j xs o) here ∙ own_part (works s) j xs ∙ none ∙ sym (ap (works s) here ∙ works_else j ne ∙ only j ne)
          | inr far ↦ other_part (works s) j m xs far
        ]

    settled_alone : undone (all (many e) (works s)) (slots_at e) ≡ alone_of e k
    settled_alone = ap (λ (w : Parts). undone (all (many e) w) (slots_at e)) all_now

    pub alone_only : alone_of s j ≡ alone_of e k
    alone_only = alone_then j ∙ ap (λ (w : Parts). undone (all (many e) w) (slots_at e)) (same_part [] refl) ∙ settled_alone

    pub before_only : before_of s j ≡ alone_of e k
    before_only = before_then j ne ∙ ap (λ (w : Parts). undone (all (many e) w) (slots_at e)) (same_part (drop (seat e j).base (works e j)) (ap (drop (seat e j).base) (only j ne) ∙ none (seat e j).base)) ∙ settled_alone
      where
        none : (n : ℕ) → drop {A = Record} n [] ≡ []
        none zero = refl
        none (suc n) = refl

  -- WHERE NO TWO SESSIONS NAME ONE SLOT

  module _ (named : (i : ℕ) → AreNamedApart (works e) i) (j : ℕ) (is : IsSession e j) (ne : j ≢ k) where
    k_part : (xs : List Record) → with_part (works e) j xs k ≡ works e k
    k_part xs = other_part (works e) j k xs (λ same. ne (sym same))

    without_k : (xs : List Record) → with_part (with_part (works e) j xs) k [] ≡ with_part (works s) j xs
    without_k xs = λ i m. at m i
      where
        at : (m : ℕ) → with_part (with_part (works e) j xs) k [] m ≡ with_part (works s) j xs m
        at m = elim (cases_eq m k) [
          | inl here ↦ ap (λ o. with_part (with_part (works e) j xs) k [] o) here ∙ own_part (with_part (works e) j xs) k [] ∙ sym (ap (λ o. with_part (works s) j xs o) here ∙ other_part (works s) j k xs (λ same. ne (sym same)) ∙ works_k)
          | inr far ↦ other_part (with_part (works e) j xs) k m [] far ∙ elim (cases_eq m j) [
            | inl here ↦ ap (λ o. with_part (works e) j xs o) here ∙ own_part (works e) j xs ∙ sym (ap (λ o. with_part (works s) j xs o) here ∙ own_part (works s) j xs)
            | inr off ↦ other_part (works e) j m xs off ∙ sym (works_else m far) ∙ sym (other_part (works s) j m xs off)
          ]
        ]

    -- some of j's records
    abbrev pub AreSome : List Record → Type 0
    AreSome xs = (p : PageId) (i : ℕ) → names xs p i ≡ true → names (works e j) p i ≡ true

    not_some : (xs : List Record) → AreSome xs → (p : PageId) (i : ℕ) → names (works e j) p i ≡ false → names xs p i ≡ false
    not_some xs some p i f = elim (cases_Bool (names xs p i)) [ inl t ↦ differ (names (works e j) p i) (some p i t) f | inr g ↦ g ]

    -- k's records stand behind what j sees
    pub k_behind : (xs : List Record) → AreSome xs → undone (all (many e) (with_part (works e) j xs)) (slots_at e) ≡ undone (works e k) (undone (all (many e) (with_part (works s) j xs)) (slots_at e))
    k_behind xs some =
        taken_out (many e) k (with_part (works e) j xs) (slots_at e) (is_many e k d.is) (λ m p i far t. elim (cases_eq m j) [
          | inl here ↦ ap (λ (ys : List Record). names ys p i) (ap (λ o. with_part (works e) j xs o) here ∙ own_part (works e) j xs) ∙ not_some xs some p i (named k j p i ne (sym (ap (λ (ys : List Record). names ys p i) (k_part xs)) ∙ t))
          | inr off ↦ ap (λ (ys : List Record). names ys p i) (other_part (works e) j m xs off) ∙ named k m p i far (sym (ap (λ (ys : List Record). names ys p i) (k_part xs)) ∙ t)
        ])
        ∙ ap (λ (ys : List Record). undone ys (undone (all (many e) (with_part (with_part (works e) j xs) k [])) (slots_at e))) (k_part xs)
        ∙ ap (λ (w : Parts). undone (works e k) (undone (all (many e) w) (slots_at e))) (without_k xs)

    -- and j's in front
    pub j_alone : (xs : List Record) → AreSome xs → undone (all (many e) (with_part (works e) j xs)) (slots_at e) ≡ undone xs (alone_of e j)
    j_alone xs some =
        taken_out (many e) j (with_part (works e) j xs) (slots_at e) (is_many e j is) (λ m p i far t.
        let its : names (works e j) p i ≡ true = some p i (sym (ap (λ (ys : List Record). names ys p i) (own_part (works e) j xs)) ∙ t) in
        ap (λ (ys : List Record). names ys p i) (other_part (works e) j m xs far) ∙ named j m p i far its)
        ∙ ap (λ (ys : List Record). undone ys (undone (all (many e) (with_part (with_part (works e) j xs) j [])) (slots_at e))) (own_part (works e) j xs)
        ∙ ap (λ (w : Parts). undone xs (undone (all (many e) w) (slots_at e))) twice_e
      where
        twice_e : with_part (with_part (works e) j xs) j [] ≡ with_part (works e) j []
        twice_e = λ i m. at m i
          where
            at : (m : ℕ) → with_part (with_part (works e) j xs) j [] m ≡ with_part (works e) j [] m
            at m = elim (cases_eq m j) [
              | inl here ↦ ap (λ o. with_part (with_part (works e) j xs) j [] o) here ∙ own_part (with_part (works e) j xs) j [] ∙ sym (ap (λ o. with_part (works e) j [] o) here ∙ own_part (works e) j [])
              | inr far ↦ other_part (with_part (works e) j xs) j m [] far ∙ other_part (works e) j m xs far ∙ sym (other_part (works e) j m [] far)
            ]

    -- and j's behind what it sees alone
    pub j_behind : (xs : List Record) → AreSome xs → undone (all (many e) (with_part (works s) j xs)) (slots_at e) ≡ undone xs (undone (all (many e) (with_part (works s) j [])) (slots_at e))
    j_behind xs some =
        taken_out (many e) j (with_part (works s) j xs) (slots_at e) (is_many e j is) (λ m p i far t.
        let its : names (works e j) p i ≡ true = some p i (sym (ap (λ (ys : List Record). names ys p i) (own_part (works s) j xs)) ∙ t) in
        ap (λ (ys : List Record). names ys p i) (other_part (works s) j m xs far) ∙ elim (cases_eq m k) [
          | inl here ↦ ap (λ (ys : List Record). names ys p i) (ap (works s) here ∙ works_k)
          | inr off ↦ ap (λ (ys : List Record). names ys p i) (works_else m off) ∙ named j m p i far its
        ])
        ∙ ap (λ (ys : List Record). undone ys (undone (all (many e) (with_part (with_part (works s) j xs) j [])) (slots_at e))) (own_part (works s) j xs)
        ∙ ap (λ (w : Parts). undone xs (undone (all (many e) w) (slots_at e))) (twice xs)
      where
        twice : (xs : List Record) → with_part (with_part (works s) j xs) j [] ≡ with_part (works s) j []
        twice xs = λ i m. at m i
          where
            at : (m : ℕ) → with_part (with_part (works s) j xs) j [] m ≡ with_part (works s) j [] m
            at m = elim (cases_eq m j) [
              | inl here ↦ ap (λ o. with_part (with_part (works s) j xs) j [] o) here ∙ own_part (with_part (works s) j xs) j [] ∙ sym (ap (λ o. with_part (works s) j [] o) here ∙ own_part (works s) j [])
              | inr far ↦ other_part (with_part (works s) j xs) j m [] far ∙ other_part (works s) j m xs far ∙ sym (other_part (works s) j m [] far)
            ]

    -- what k saw is what j sees then, with j's records taken back
    pub k_saw : alone_of e k ≡ undone (works e j) (undone (all (many e) (with_part (works s) j [])) (slots_at e))
    k_saw = ap (λ (w : Parts). undone (all (many e) w) (slots_at e)) (sym all_now) ∙ ap (λ (w : Parts). undone (all (many e) w) (slots_at e)) its_own ∙ j_behind (works e j) (λ p i t. t)
      where
        its_own : works s ≡ with_part (works s) j (works e j)
        its_own = λ i m. at m i
          where
            at : (m : ℕ) → works s m ≡ with_part (works s) j (works e j) m
            at m = elim (cases_eq m j) [
              | inl here ↦ ap (works s) here ∙ works_else j ne ∙ sym (ap (λ o. with_part (works s) j (works e j) o) here ∙ own_part (works s) j (works e j))
              | inr far ↦ sym (other_part (works s) j m (works e j) far)
            ]

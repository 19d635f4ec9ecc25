-- The records of many sessions, of which no two name one slot: one session's taken back last.
use Rattle.std.proofs.Common.{◌≡◌, ◌≢◌, ℕ, zero, suc, ◌<◌, ◌≤◌, Bool, true, false, cond, ◌==◌, ◌&&◌, ◌||◌, List, [], ◌∷◌, ◌++◌, drop, refl, ap, sym, subst, ◌∙◌, eq-eqb, inl, inr, arith}
use Rattle.std.specs.Prelude.{◌⊎◌}
use Rattle.std.proofs.lemmas.Bool.{cases_Bool, cases_eq, cases_lt, ne_eqb}
use Rattle.page_base.specs.declared.numbers.PageId.{PageId}
use Rattle.page_base.specs.Pages.{is_page}
use Rattle.page_base.specs.Slots.{Slots}
use Rattle.rec_log.specs.Records.{Record}
use Rattle.rec_log.specs.Undone.{undone}
use Rattle.rec_log.proofs.UndoneLemmas.{undone-append}
use Rattle.open_work.specs.Open.{Parts, all, with_part}
use Rattle.open_tables.specs.Names.{names, AreClaims}
use Rattle.open_commits.specs.Within.{LieWithin}
use Rattle.open_commits.proofs.WithinLemmas.{differ, unnamed}

-- PARTS

pub own_part : (part : Parts) (k : ℕ) (xs : List Record) → with_part part k xs k ≡ xs
own_part part k xs = ap (λ b. cond b xs (part k)) (eq-eqb k k refl)

pub other_part : (part : Parts) (k j : ℕ) (xs : List Record) → j ≢ k → with_part part k xs j ≡ part j
other_part part k j xs ne = ap (λ b. cond b xs (part j)) (ne_eqb j k ne)

-- NAMES

or_false : (b c : Bool) → b ≡ false → c ≡ false → (b || c) ≡ false
or_false true c e f = differ true refl e
or_false false c e f = f

pub names_both : (xs ys : List Record) (p : PageId) (i : ℕ) → names xs p i ≡ false → names ys p i ≡ false → names (xs ++ ys) p i ≡ false
names_both [] ys p i e f = f
names_both (x ∷ xs) ys p i e f = (let k = parts (is_page x.page p && x.slot == i) (names xs p i) e in or_false (is_page x.page p && x.slot == i) (names (xs ++ ys) p i) k.0 (names_both xs ys p i k.1 f))
  where
    parts : (b c : Bool) → (b || c) ≡ false → (b ≡ false) × (c ≡ false)
    parts true c e = differ true refl e
    parts false c e = (refl, e)

pub lack_all : (n : ℕ) (part : Parts) (p : PageId) (i : ℕ) → ((m : ℕ) → m < n → names (part m) p i ≡ false) → names (all n part) p i ≡ false
lack_all zero part p i h = refl
lack_all (suc n) part p i h = names_both (all n part) (part n) p i (lack_all n part p i (λ m l. h m (omega (arith, l)))) (h n (omega arith))

-- who names a slot that all together name
pub among_all : (n : ℕ) (part : Parts) (p : PageId) (i : ℕ) → names (all n part) p i ≡ true → (m : ℕ) × (m < n) × (names (part m) p i ≡ true)
among_all zero part p i t = differ false t refl
among_all (suc n) part p i t = elim (cases_Bool (names (part n) p i)) [
  | inl u ↦ (n, omega arith, u)
  | inr f ↦ elim (cases_Bool (names (all n part) p i)) [
    | inl u ↦ let m = among_all n part p i u in (m.0, omega (arith, m.1), m.2)
    | inr g ↦ differ (names (all (suc n) part) p i) t (names_both (all n part) (part n) p i g f)
  ]
]

pub names_drop : (n : ℕ) (xs : List Record) (p : PageId) (i : ℕ) → names (drop n xs) p i ≡ true → names xs p i ≡ true
names_drop zero xs p i t = t
names_drop (suc n) [] p i t = t
names_drop (suc n) (x ∷ xs) p i t = late (is_page x.page p && x.slot == i) (names xs p i) (names_drop n xs p i t)
  where
    late : (b c : Bool) → c ≡ true → (b || c) ≡ true
    late true c e = refl
    late false c e = e

pub claims_drop : (n : ℕ) (xs : List Record) → AreClaims xs → AreClaims (drop n xs)
claims_drop zero xs c = c
claims_drop (suc n) [] c = tt
claims_drop (suc n) (x ∷ xs) c = claims_drop n xs c.1

pub claims_both : (xs ys : List Record) → AreClaims xs → AreClaims ys → AreClaims (xs ++ ys)
claims_both [] ys a b = b
claims_both (x ∷ xs) ys a b = (a.0, claims_both xs ys a.1 b)

pub claims_all : (n : ℕ) (part : Parts) → ((m : ℕ) → m < n → AreClaims (part m)) → AreClaims (all n part)
claims_all zero part h = tt
claims_all (suc n) part h = claims_both (all n part) (part n) (claims_all n part (λ m l. h m (omega (arith, l)))) (h n (omega arith))

pub lie_drop : (n : ℕ) (writes : ℕ → Bool) (s : Slots) (xs : List Record) → LieWithin writes s xs → LieWithin writes s (drop n xs)
lie_drop n writes s xs l = record {
  claims = claims_drop n xs l.claims;
  claimed = λ q t. l.claimed q (names_drop n xs _ _ t);
  edits = λ p i t. l.edits p i (names_drop n xs p i t);
}

-- SLOTS

pub same_from : (xs : List Record) (s t : Slots) (p : PageId) (i : ℕ) → s p i ≡ t p i → undone xs s p i ≡ undone xs t p i
same_from [] s t p i e = e
same_from (r ∷ rs) s t p i e = ap (cond (is_page r.page p && r.slot == i) r.before) (same_from rs s t p i e)

-- parts that differ only where they don't name the slot
pub agree : (n : ℕ) (P Q : Parts) (s t : Slots) (p : PageId) (i : ℕ) → s p i ≡ t p i → ((m : ℕ) → m < n → (P m ≡ Q m) ⊎ ((names (P m) p i ≡ false) × (names (Q m) p i ≡ false))) → undone (all n P) s p i ≡ undone (all n Q) t p i
agree zero P Q s t p i e h = e
agree (suc n) P Q s t p i e h =
    (λ u. undone-append (all n P) (P n) s u p i)
    ∙ agree n P Q (undone (P n) s) (undone (Q n) t) p i (elim (h n (omega arith)) [
      | inl q ↦ same_from (P n) s t p i e ∙ ap (λ xs. undone xs t p i) q
      | inr k ↦ unnamed (P n) s p i k.0 ∙ e ∙ sym (unnamed (Q n) t p i k.1)
    ]) (λ m l. h m (omega (arith, l)))
    ∙ sym (λ u. undone-append (all n Q) (Q n) t u p i)

pub untouched : (n : ℕ) (P : Parts) (s : Slots) (p : PageId) (i : ℕ) → ((m : ℕ) → m < n → names (P m) p i ≡ false) → undone (all n P) s p i ≡ s p i
untouched n P s p i h = unnamed (all n P) s p i (lack_all n P p i h)

-- one session's records alone
only_one : (n j : ℕ) (P : Parts) (s : Slots) (p : PageId) (i : ℕ) → j < n → ((m : ℕ) → m ≢ j → names (P m) p i ≡ false) → undone (all n P) s p i ≡ undone (P j) s p i
only_one zero j P s p i l h = absurd (omega (arith, l))
only_one (suc n) j P s p i l h =
    (λ u. undone-append (all n P) (P n) s u p i)
    ∙ elim (cases_eq n j) [
      | inl here ↦ untouched n P (undone (P n) s) p i (λ m lt. h m (λ e. absurd (omega (arith, lt, e, here)))) ∙ ap (λ m. undone (P m) s p i) here
      | inr far ↦ only_one n j P (undone (P n) s) p i (omega (arith, l, far)) h ∙ same_from (P j) (undone (P n) s) s p i (unnamed (P n) s p i (h n far))
    ]

-- no other names a slot that j names
abbrev pub AreNamedApart : Parts → ℕ → Type 0
AreNamedApart P j = (m : ℕ) (p : PageId) (i : ℕ) → m ≢ j → names (P j) p i ≡ true → names (P m) p i ≡ false

-- one session's records taken back behind those of all others
pub taken_out : (n j : ℕ) (P : Parts) (s : Slots) → j < n → AreNamedApart P j → undone (all n P) s ≡ undone (P j) (undone (all n (with_part P j [])) s)
taken_out n j P s there is_apart = λ u p i. at p i u
  where
    without : (p : PageId) (i m : ℕ) → (m ≢ j → names (P m) p i ≡ false) → names (with_part P j [] m) p i ≡ false
    without p i m h = elim (cases_eq m j) [
      | inl here ↦ ap (λ (xs : List Record). names xs p i) (ap (λ b. cond b [] (P m)) (eq-eqb m j here))
      | inr far ↦ ap (λ (xs : List Record). names xs p i) (other_part P j m [] far) ∙ h far
    ]

    at : (p : PageId) (i : ℕ) → undone (all n P) s p i ≡ undone (P j) (undone (all n (with_part P j [])) s) p i
    at p i = elim (cases_Bool (names (P j) p i)) [
      | inl t ↦
          only_one n j P s p i there (λ m far. is_apart m p i far t)
          ∙ same_from (P j) s (undone (all n (with_part P j [])) s) p i (sym (untouched n (with_part P j []) s p i (λ m l. without p i m (λ far. is_apart m p i far t))))
      | inr f ↦
          agree n P (with_part P j []) s s p i refl (λ m l. elim (cases_eq m j) [
            | inl here ↦ inr (ap (λ o. names (P o) p i) here ∙ f, ap (λ (xs : List Record). names xs p i) (ap (λ b. cond b [] (P m)) (eq-eqb m j here)))
            | inr far ↦ inl (sym (other_part P j m [] far))
          ])
          ∙ sym (unnamed (P j) (undone (all n (with_part P j [])) s) p i f)
    ]

-- and before those of all others
pub taken_first : (n j : ℕ) (P : Parts) (s : Slots) → j < n → AreNamedApart P j → undone (all n P) s ≡ undone (all n (with_part P j [])) (undone (P j) s)
taken_first n j P s there is_apart = λ u p i. at p i u
  where
    gone : (m : ℕ) → m ≡ j → with_part P j [] m ≡ []
    gone m here = ap (λ b. cond b [] (P m)) (eq-eqb m j here)

    at : (p : PageId) (i : ℕ) → undone (all n P) s p i ≡ undone (all n (with_part P j [])) (undone (P j) s) p i
    at p i = elim (cases_Bool (names (P j) p i)) [
      | inl t ↦
          only_one n j P s p i there (λ m far. is_apart m p i far t)
          ∙ sym (untouched n (with_part P j []) (undone (P j) s) p i (λ m l. elim (cases_eq m j) [
            | inl here ↦ ap (λ (xs : List Record). names xs p i) (gone m here)
            | inr far ↦ ap (λ (xs : List Record). names xs p i) (other_part P j m [] far) ∙ is_apart m p i far t
          ]))
      | inr f ↦
          agree n P (with_part P j []) s (undone (P j) s) p i (sym (unnamed (P j) s p i f)) (λ m l. elim (cases_eq m j) [
            | inl here ↦ inr (ap (λ o. names (P o) p i) here ∙ f, ap (λ (xs : List Record). names xs p i) (gone m here))
            | inr far ↦ inl (sym (other_part P j m [] far))
          ])
    ]

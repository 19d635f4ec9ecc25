-- All open records, one session's behind another's, can be taken back from the pages as they stand.
use Rattle.std.proofs.Common.{◌≡◌, ◌≢◌, ℕ, zero, suc, ◌%◌, ◌<◌, ◌≤◌, true, false, List, [], ◌∷◌, ◌++◌, refl, ap, sym, subst, ◌∙◌, inl, inr, arith}
use Rattle.std.specs.Prelude.{◌⊎◌}
use Rattle.std.proofs.lemmas.Bool.{cases_Bool, cases_eq}
use Rattle.page_base.specs.declared.numbers.PageId.{PageId}
use Rattle.page_base.specs.Slots.{Slots}
use Rattle.alloc_pages.specs.Owners.{page_owner}
use Rattle.rec_log.specs.Records.{Record}
use Rattle.rec_log.specs.Undone.{undone}
use Rattle.sys_cat.specs.declared.desc.TableDesc.{TableDesc}
use Rattle.page_tables.proofs.MineLemmas.{every_spot}
use Rattle.open_work.specs.Open.{Parts, all, with_part}
use Rattle.open_tables.specs.Names.{names}
use Rattle.open_commits.proofs.WithinLemmas.{unnamed}
use Rattle.open_commits.proofs.ApartLemmas.{own_part, other_part, untouched}
use Rattle.step_state.specs.State.{State, IsSession, works, many, slots_at, alone_of}
use Rattle.step_state.specs.Holding.{holds_all, writes, lock_at}
use Rattle.step_state.specs.Told.{GoBack}
use Rattle.step_state.specs.Safe.{Safe, IsContent}
use Rattle.step_state.proofs.AlongLemmas.{go_both, go_along, AreAlike}
use Rattle.step_state.proofs.StandingLemmas.{session_cases, no_records, nothing_beside, named_apart, page_apart, lie}

all_none : (n : ℕ) (part : Parts) → ((m : ℕ) → m < n → part m ≡ []) → all n part ≡ []
all_none zero part h = refl
all_none (suc n) part h = ap (λ xs. xs ++ part n) (all_none n part (λ m l. h m (omega (arith, l)))) ∙ h n (omega arith)

all_one : (n k : ℕ) (part : Parts) → k < n → ((m : ℕ) → m ≢ k → part m ≡ []) → all n part ≡ part k
all_one zero k part lt h = absurd (omega (arith, lt))
all_one (suc n) k part lt h = elim (cases_eq n k) [
  | inl here ↦ ap (λ xs. xs ++ part n) (all_none n part (λ m l. h m (λ e. absurd (omega (arith, l, e, here))))) ∙ ap part here
  | inr far ↦ ap (λ xs. all n part ++ xs) (h n far) ∙ nil (all n part) ∙ all_one n k part (omega (arith, lt, far)) h
]
  where
    nil : (xs : List Record) → xs ++ [] ≡ xs
    nil [] = refl
    nil (x ∷ xs) = ap (λ ys. x ∷ ys) (nil xs)

module _ (e : State) (safe : Safe e) (ds : List TableDesc) (content : IsContent e ds) where
  -- WHERE ONE HOLDS ALL TABLES

  one_goes : (k : ℕ) → k < many e → holds_all (lock_at e k) ≡ true → GoBack (all (many e) (works e)) (slots_at e)
  one_goes k lt held =
      let others : (m : ℕ) → m ≢ k → works e m ≡ [] = λ m ne. nothing_beside e safe.sessions safe.whole k m ne held in
      subst (λ (xs : List Record). GoBack xs (slots_at e)) (sym (all_one (many e) k (works e) lt others)) (its others)
    where
      its : ((m : ℕ) → m ≢ k → works e m ≡ []) → GoBack (works e k) (slots_at e)
      its others = elim (session_cases e k) [
        | inr none ↦ subst (λ (xs : List Record). GoBack xs (slots_at e)) (sym (no_records e k none)) tt
        | inl is ↦
            let nothing : all (many e) (with_part (works e) k []) ≡ [] = all_none (many e) (with_part (works e) k []) (λ m l. elim (cases_eq m k) [
              | inl here ↦ ap (λ o. with_part (works e) k [] o) here ∙ own_part (works e) k []
              | inr far ↦ other_part (works e) k m [] far ∙ others m far
            ]) in
            subst (GoBack (works e k)) (ap (λ xs. undone xs (slots_at e)) nothing) (content.1 k is).source.goes
      ]

  -- WHERE NOBODY DOES

  module _ (nobody : (j : ℕ) → IsSession e j → holds_all (lock_at e j) ≡ false) where
    part_goes : (n : ℕ) → n ≤ many e → (t : Slots) → ((m : ℕ) → m < n → AreAlike (works e m) t (slots_at e)) → GoBack (all n (works e)) t
    part_goes zero le t alike = tt
    part_goes (suc n) le t alike = go_both (all n (works e)) (works e n) t (here n (alike n (omega arith))) (part_goes n (omega (arith, le)) (undone (works e n) t) (λ m lt p i named. (
      unnamed (works e n) t p i (named_apart e safe.sessions safe.whole ds content nobody m n p i (λ same. absurd (omega (arith, same, lt))) named) ∙ (alike m (omega (arith, lt)) p i named).0,
      (λ off j. unnamed (works e n) t p j (page_apart e safe.sessions safe.whole ds content nobody m n p j (λ same. absurd (omega (arith, same, lt))) off (on_own m p i named off)) ∙ (alike m (omega (arith, lt)) p i named).1 off j),
    )))
      where
        on_own : (m : ℕ) (p : PageId) (i : ℕ) → names (works e m) p i ≡ true → p.page % 1280 ≢ 0 → writes (lock_at e m) (page_owner (slots_at e) p) ≡ true
        on_own m p i named off = elim ((lie e safe.sessions safe.whole ds content nobody m).edits p i named) [
          | inl w ↦ w.1
          | inr q ↦ absurd (off (ap (λ (r : PageId). r.page % 1280) (sym q.1) ∙ every_spot q.0))
        ]

        aside : (m j : ℕ) (p : PageId) (i : ℕ) → (j ≢ m → names (works e j) p i ≡ false) → names (with_part (works e) m [] j) p i ≡ false
        aside m j p i h = elim (cases_eq j m) [
          | inl same ↦ ap (λ (xs : List Record). names xs p i) (ap (λ o. with_part (works e) m [] o) same ∙ own_part (works e) m [])
          | inr far ↦ ap (λ (xs : List Record). names xs p i) (other_part (works e) m j [] far) ∙ h far
        ]

        here : (m : ℕ) → AreAlike (works e m) t (slots_at e) → GoBack (works e m) t
        here m alike_m = elim (session_cases e m) [
          | inr none ↦ subst (λ (xs : List Record). GoBack xs t) (sym (no_records e m none)) tt
          | inl is ↦ go_along (works e m) (alone_of e m) t (content.1 m is).source.sized (λ p i named. (
            untouched (many e) (with_part (works e) m []) (slots_at e) p i (λ j lt. aside m j p i (λ far. named_apart e safe.sessions safe.whole ds content nobody m j p i far named)) ∙ sym (alike_m p i named).0,
            (λ off j. untouched (many e) (with_part (works e) m []) (slots_at e) p j (λ o lt. aside m o p j (λ far. page_apart e safe.sessions safe.whole ds content nobody m o p j far off (on_own m p i named off))) ∙ sym ((alike_m p i named).1 off j)),
          )) (content.1 m is).source.goes
        ]

  -- WHOEVER HOLDS WHAT

  find_all : (n : ℕ) → ((k : ℕ) × (k < n) × (holds_all (lock_at e k) ≡ true)) ⊎ ((j : ℕ) → j < n → holds_all (lock_at e j) ≡ false)
  find_all zero = inr (λ j lt. absurd (omega (arith, lt)))
  find_all (suc n) = elim (cases_Bool (holds_all (lock_at e n))) [
    | inl t ↦ inl (n, omega arith, t)
    | inr f ↦ elim (find_all n) [
      | inl found ↦ inl (found.0, omega (arith, found.1), found.2)
      | inr none ↦ inr (λ j lt. elim (cases_eq j n) [
        | inl same ↦ ap (λ m. holds_all (lock_at e m)) same ∙ f
        | inr ne ↦ none j (omega (arith, lt, ne))
      ])
    ]
  ]

  pub all_go : GoBack (all (many e) (works e)) (slots_at e)
  all_go = elim (find_all (many e)) [
    | inl found ↦ one_goes found.0 found.1 found.2
    | inr none ↦ part_goes (λ j is. none j (omega (arith, is.last))) (many e) (omega arith) (slots_at e) (λ m lt p i named. (refl, (λ off j. refl)))
  ]

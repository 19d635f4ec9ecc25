-- Which locks a statement's level keeps.
use Rattle.std.proofs.Common.{◌≡◌, Bool, true, false, ◌&&◌, ◌||◌, not, cond, List, [], ◌∷◌, filter, refl, ap, sym, ◌∙◌, inl, inr}
use Rattle.std.specs.List.{list_any}
use Rattle.std.proofs.lemmas.Bool.{cases_Bool}
use Rattle.page_base.specs.declared.numbers.Mode.{Mode}
use Rattle.page_base.specs.declared.numbers.Mode.TheVariants.{S, X}
use Rattle.plain_model.specs.declared.event.LockName.{LockName}
use Rattle.plain_model.specs.declared.event.LockName.TheVariants.{All, Table}
use Rattle.plain_model.specs.declared.stmt.Level.{Level}
use Rattle.plain_model.specs.declared.stmt.Level.TheVariants as levels
use Rattle.plain_model.specs.Holding.{same_lock, covers, holds}
use Rattle.plain_model.specs.Keeping.{is_on_table, was_gained, without_tables, without_all, kept_at}

abbrev Lock : Type 0
Lock = LockName × Mode

-- what a filter passes by a test that holds of all who answer a question still answers it
kept_by : (p q : Lock → Bool) (ls : List Lock) → ((l : Lock) → q l ≡ true → p l ≡ true) → list_any q ls ≡ true → list_any q (filter p ls) ≡ true
kept_by p q [] h e = e
kept_by p q (l ∷ ls) h e = elim (cases_Bool (q l)) [
  | inl t ↦ let k = h l t in rw (k, t) refl
  | inr f ↦
      let rest : list_any q ls ≡ true = ap (λ b. b || list_any q ls) (sym f) ∙ e in
      let ih = kept_by p q ls h rest in
      elim (cases_Bool (p l)) [ inl t ↦ rw (t, f) ih | inr g ↦ rw g ih ]
]

-- a lock that covers X is one in X, which was never gained in S
exclusive : (gained : List LockName) (name : LockName) (l : Lock) → (same_lock l.0 name && covers l.1 X) ≡ true → was_gained gained l ≡ false
exclusive gained name (n, X) e = refl
exclusive gained name (n, S) e = absurd (let x : false ≡ true = elim (same_lock n name) as (λ b. (b && false) ≡ true → false ≡ true) [ true ↦ λ h. h | false ↦ λ h. h ] e in cc)

pub keeps_exclusive : (level : Level) (gained : List LockName) (locks : List Lock) (name : LockName) → holds locks name X ≡ true → holds (kept_at level gained locks) name X ≡ true
keeps_exclusive levels.Serial gained locks name h = h
keeps_exclusive levels.Committed gained locks name h =
    let q : Lock → Bool = λ l. same_lock l.0 name && covers l.1 X in
    let first = kept_by (λ l. not (is_on_table l && was_gained gained l)) q locks (λ l e. let g = exclusive gained name l e in rw g (elim (is_on_table l) as (λ b. not (b && false) ≡ true) [ true ↦ refl | false ↦ refl ])) h in
    elim (list_any is_on_table (without_tables gained locks)) as (λ b. list_any q (cond b (without_tables gained locks) (filter (λ l. not (was_gained gained l)) (without_tables gained locks))) ≡ true) [
      | true ↦ first
      | false ↦ kept_by (λ l. not (was_gained gained l)) q (without_tables gained locks) (λ l e. let g = exclusive gained name l e in rw g refl) first
    ]

-- a lock on the table of tables is none on a table
on_all : (l : Lock) → (same_lock l.0 All && covers l.1 S) ≡ true → is_on_table l ≡ false
on_all (All, m) e = refl
on_all (Table n, m) e = absurd (let x : false ≡ true = e in cc)

-- a filter passes no more than there was
passes_less : (p q : Lock → Bool) (ls : List Lock) → list_any q ls ≡ false → list_any q (filter p ls) ≡ false
passes_less p q [] e = e
passes_less p q (l ∷ ls) e = elim (cases_Bool (q l)) [
  | inl t ↦ absurd (let x : true ≡ false = ap (λ b. b || list_any q ls) (sym t) ∙ e in cc)
  | inr f ↦
      let ih = passes_less p q ls (ap (λ b. b || list_any q ls) (sym f) ∙ e) in
      elim (cases_Bool (p l)) [ inl t ↦ rw (t, f) ih | inr g ↦ rw g ih ]
]

pub keeps_all : (level : Level) (gained : List LockName) (locks : List Lock) → holds locks All S ≡ true → list_any is_on_table (kept_at level gained locks) ≡ true → holds (kept_at level gained locks) All S ≡ true
keeps_all levels.Serial gained locks h some = h
keeps_all levels.Committed gained locks h some =
    let q : Lock → Bool = λ l. same_lock l.0 All && covers l.1 S in
    let left = without_tables gained locks in
    let first : list_any q left ≡ true = kept_by (λ l. not (is_on_table l && was_gained gained l)) q locks (λ l e. let o = on_all l e in rw o refl) h in
    elim (cases_Bool (list_any is_on_table left)) [
      | inl t ↦ ap (λ b. list_any q (cond b left (filter (λ l. not (was_gained gained l)) left))) t ∙ first
      | inr f ↦ absurd (let x : false ≡ true = sym (passes_less (λ l. not (was_gained gained l)) is_on_table left f) ∙ sym (ap (λ b. list_any is_on_table (cond b left (filter (λ l. not (was_gained gained l)) left))) f) ∙ some in cc)
    ]

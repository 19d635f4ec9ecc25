-- What READ COMMITTED frees.
use Rattle.std.proofs.Common.{◌≡◌, Bool, true, false, ◌&&◌, ◌||◌, not, cond, ℕ, List, [], ◌∷◌, filter, refl, ap, sym, ◌∙◌, subst, inl, inr}
use Rattle.std.specs.List.{list_any}
use Rattle.std.proofs.lemmas.Bool.{cases_Bool}
use Rattle.page_base.specs.declared.numbers.Mode.{Mode}
use Rattle.page_base.specs.declared.numbers.Mode.TheVariants.{S, X}
use Rattle.plain_model.specs.declared.event.LockName.{LockName}
use Rattle.plain_model.specs.declared.event.LockName.TheVariants.{All, Table}
use Rattle.plain_model.specs.declared.stmt.Level.TheVariants as levels
use Rattle.plain_model.specs.Holding.{same_lock, covers, holds}
use Rattle.plain_model.specs.Keeping.{is_on_table, was_gained, without_tables, kept_at, with_gain}
use Rattle.plain_steps.proofs.LockLemmas.{lock_is, lock_same}

abbrev Lock : Type 0
Lock = LockName × Mode

-- a filter passes no lock that it is to drop, of locks of which none answers another question
dropped_of : (p q r : Lock → Bool) (ls : List Lock) → list_any r ls ≡ false → ((l : Lock) → r l ≡ false → q l ≡ true → p l ≡ true → ⊥) → list_any q (filter p ls) ≡ false
dropped_of p q r [] none h = refl
dropped_of p q r (l ∷ ls) none h =
    let here : r l ≡ false = elim (cases_Bool (r l)) [ inl t ↦ absurd (let x : true ≡ false = ap (λ b. b || list_any r ls) (sym t) ∙ none in cc) | inr f ↦ f ] in
    let rest : list_any r ls ≡ false = ap (λ b. b || list_any r ls) (sym here) ∙ none in
    elim (cases_Bool (p l)) [
      | inl t ↦ elim (cases_Bool (q l)) [
        | inl held ↦ absurd (h l here held t)
        | inr f ↦ rw (t, f) (dropped_of p q r ls rest h)
      ]
      | inr g ↦ rw g (dropped_of p q r ls rest h)
    ]

-- a filter passes no more than there was
passes_less : (p q : Lock → Bool) (ls : List Lock) → list_any q ls ≡ false → list_any q (filter p ls) ≡ false
passes_less p q ls none = dropped_of p q q ls none (λ l lacks held t. let x : false ≡ true = sym lacks ∙ held in cc)

-- a lock of this name that isn't one in X is one in S, of that very name
gone_shared : (gained : List LockName) (name : LockName) (l : Lock) → list_any (same_lock name) gained ≡ true → (same_lock l.0 name && covers l.1 X) ≡ false → (same_lock l.0 name && covers l.1 S) ≡ true → was_gained gained l ≡ true
gone_shared gained name (n, X) g lacks held = absurd (let x : false ≡ true = sym lacks ∙ held in cc)
gone_shared gained name (n, S) g lacks held = elim (cases_Bool (same_lock n name)) [
  | inl t ↦ subst (λ (m : LockName). list_any (same_lock m) gained ≡ true) (sym (lock_is n name t)) g
  | inr f ↦ absurd (let x : false ≡ true = ap (λ b. b && true) (sym f) ∙ held in cc)
]

on_table : (table : List ℕ) (l : Lock) → (same_lock l.0 (Table table) && covers l.1 S) ≡ true → is_on_table l ≡ true
on_table table (All, m) h = absurd (let x : false ≡ true = h in cc)
on_table table (Table n, m) h = refl

-- what was gained on a table goes
pub tables_freed : (gained : List LockName) (locks : List Lock) (table : List ℕ) → list_any (same_lock (Table table)) gained ≡ true → holds locks (Table table) X ≡ false → holds (kept_at levels.Committed gained locks) (Table table) S ≡ false
tables_freed gained locks table g lacks =
    let q : Lock → Bool = λ l. same_lock l.0 (Table table) && covers l.1 S in
    let first : list_any q (without_tables gained locks) ≡ false = dropped_of (λ l. not (is_on_table l && was_gained gained l)) q (λ l. same_lock l.0 (Table table) && covers l.1 X) locks lacks (λ l lacks held t.
    let o = on_table table l held in
    let w = gone_shared gained (Table table) l g lacks held in
    let x : false ≡ true = (rw (o, w) refl) ∙ t in cc) in
    elim (list_any is_on_table (without_tables gained locks)) as (λ b. list_any q (cond b (without_tables gained locks) (filter (λ l. not (was_gained gained l)) (without_tables gained locks))) ≡ false) [
      | true ↦ first
      | false ↦ passes_less (λ l. not (was_gained gained l)) q (without_tables gained locks) first
    ]

-- what was gained on the table of tables goes with the last
pub all_freed : (gained : List LockName) (locks : List Lock) → list_any (same_lock All) gained ≡ true → holds locks All X ≡ false → list_any is_on_table (kept_at levels.Committed gained locks) ≡ false → holds (kept_at levels.Committed gained locks) All S ≡ false
all_freed gained locks g lacks none =
    let left : List Lock = without_tables gained locks in
    let q : Lock → Bool = λ l. same_lock l.0 All && covers l.1 S in
    elim (cases_Bool (list_any is_on_table left)) [
      | inl t ↦ absurd (let x : true ≡ false = sym t ∙ sym (ap (λ b. list_any is_on_table (cond b left (filter (λ l. not (was_gained gained l)) left))) t) ∙ none in cc)
      | inr f ↦
          let still : list_any (λ l. same_lock l.0 All && covers l.1 X) left ≡ false = passes_less (λ l. not (is_on_table l && was_gained gained l)) (λ l. same_lock l.0 All && covers l.1 X) locks lacks in
          ap (λ b. list_any q (cond b left (filter (λ l. not (was_gained gained l)) left))) f
          ∙ dropped_of (λ l. not (was_gained gained l)) q (λ l. same_lock l.0 All && covers l.1 X) left still (λ l lacks held t.
          let w = gone_shared gained All l g lacks held in
          let x : false ≡ true = (rw w refl) ∙ t in cc)
    ]

-- what is gained in S counts as gained
pub gain_counts : (gained : List LockName) (name : LockName) → list_any (same_lock name) (with_gain name S gained) ≡ true
gain_counts gained name = let s = lock_same name in rw s refl

-- The strongest lock under a name tells all that the list of locks tells.
use Rattle.std.proofs.Common.{◌≡◌, ◌≢◌, ◌+◌, ◌-◌, ◌<◌, ◌≤◌, ℕ, zero, suc, Bool, true, false, ◌&&◌, ◌||◌, not, nat_le, nat_eq, cond, IsTrue, List, [], ◌∷◌, filter, length, get_or, refl, ap, sym, ◌∙◌, inl, inr, arith, eq-eqb}
use Rattle.std.specs.Prelude.{Option, None, Some, unwrap_or, ◌⊎◌}
use Rattle.std.specs.List.{list_any}
use Rattle.std.proofs.lemmas.Bool.{cases_Bool, leb-true, and_parts, ne_eqb, cases_eq, cases_lt, le-leb}
use Rattle.page_base.specs.declared.numbers.Mode.{Mode}
use Rattle.page_base.specs.declared.numbers.Mode.TheVariants.{S, X}
use Rattle.plain_model.specs.declared.event.LockName.{LockName}
use Rattle.plain_model.specs.declared.event.LockName.TheVariants.{All, Table}
use Rattle.plain_model.specs.declared.stmt.Level.TheVariants as levels
use Rattle.plain_model.specs.Holding.{same_lock, covers, conflicts, holds, is_in_the_way, holder_from, held}
use Rattle.plain_model.specs.Keeping.{is_shared, is_on_table, was_gained, without_tables, kept_at}
use Rattle.plain_model.specs.State.{Plain, Session, session, is_session, fresh_session}
use Rattle.plain_steps.specs.Modes.{stronger, mode_in, suffices, hinders, unless_gained, IsInWay, IsLowestInWay}
use Rattle.plain_steps.proofs.LockLemmas.{Locks, lock_is, lock_same, from_free}

-- HOLDING

pub holds_mode : (ls : Locks) (name : LockName) (mode : Mode) → holds ls name mode ≡ suffices (mode_in ls name) mode
holds_mode [] name mode = refl
holds_mode (l ∷ ls) name mode = ap (λ b. (same_lock l.0 name && covers l.1 mode) || b) (holds_mode ls name mode) ∙ one (same_lock l.0 name) l.1 (mode_in ls name) mode
  where
    one : (b : Bool) (a : Mode) (o : Option Mode) (m : Mode) → ((b && covers a m) || suffices o m) ≡ suffices (cond b (stronger a o) o) m
    one false a o m = refl
    one true X None S = refl
    one true X None X = refl
    one true X (Some n) S = refl
    one true X (Some n) X = refl
    one true S None S = refl
    one true S None X = refl
    one true S (Some S) S = refl
    one true S (Some S) X = refl
    one true S (Some X) S = refl
    one true S (Some X) X = refl

pub way_mode : (ls : Locks) (name : LockName) (mode : Mode) → is_in_the_way ls name mode ≡ hinders (mode_in ls name) mode
way_mode [] name mode = refl
way_mode (l ∷ ls) name mode = ap (λ b. (same_lock l.0 name && conflicts l.1 mode) || b) (way_mode ls name mode) ∙ one (same_lock l.0 name) l.1 (mode_in ls name) mode
  where
    one : (b : Bool) (a : Mode) (o : Option Mode) (m : Mode) → ((b && conflicts a m) || hinders o m) ≡ hinders (cond b (stronger a o) o) m
    one false a o m = refl
    one true X None S = refl
    one true X None X = refl
    one true X (Some n) S = refl
    one true X (Some n) X = refl
    one true S None S = refl
    one true S None X = refl
    one true S (Some S) S = refl
    one true S (Some S) X = refl
    one true S (Some X) S = refl
    one true S (Some X) X = refl

-- WHAT A REPLY FREES

-- of a lock and others of its name, where the filter takes those in S that were gained
filtered : (g : Bool) (a : Mode) (o : Option Mode) → cond {A = Option Mode} (not (is_shared a && g)) (stronger a (unless_gained g o)) (unless_gained g o) ≡ unless_gained g (stronger a o)
filtered true X None = refl
filtered true X (Some n) = refl
filtered false X None = refl
filtered false X (Some n) = refl
filtered true S None = refl
filtered true S (Some S) = refl
filtered true S (Some X) = refl
filtered false S None = refl
filtered false S (Some n) = refl

passes : (p : LockName × Mode → Bool) (l : LockName × Mode) (ls : Locks) (name : LockName) → mode_in (filter p (l ∷ ls)) name ≡ cond {A = Option Mode} (p l && same_lock l.0 name) (stronger l.1 (mode_in (filter p ls) name)) (mode_in (filter p ls) name)
passes p l ls name = by (p l)
  where
    by : (b : Bool) → mode_in (cond b (l ∷ filter p ls) (filter p ls)) name ≡ cond {A = Option Mode} (b && same_lock l.0 name) (stronger l.1 (mode_in (filter p ls) name)) (mode_in (filter p ls) name)
    by true = refl
    by false = refl

-- a filter that takes of this name what was gained in S
module _ (p : LockName × Mode → Bool) (gained : List LockName) (name : LockName) (takes : (l : LockName × Mode) → same_lock l.0 name ≡ true → p l ≡ not (is_shared l.1 && list_any (same_lock name) gained)) where
  pub mode_filtered : (ls : Locks) → mode_in (filter p ls) name ≡ unless_gained (list_any (same_lock name) gained) (mode_in ls name)
  mode_filtered [] = none (list_any (same_lock name) gained)
    where
      none : (g : Bool) → None ≡ unless_gained g None
      none true = refl
      none false = refl
  mode_filtered (l ∷ ls) = passes p l ls name ∙ by (same_lock l.0 name) refl (mode_filtered ls)
    where
      g : Bool
      g = list_any (same_lock name) gained

      by : (b : Bool) → same_lock l.0 name ≡ b → mode_in (filter p ls) name ≡ unless_gained (list_any (same_lock name) gained) (mode_in ls name)
          → cond {A = Option Mode} (p l && same_lock l.0 name) (stronger l.1 (mode_in (filter p ls) name)) (mode_in (filter p ls) name) ≡ unless_gained (list_any (same_lock name) gained) (cond b (stronger l.1 (mode_in ls name)) (mode_in ls name))
      by true is rest = (λ i. cond {A = Option Mode} (and_true (p l) (same_lock l.0 name) is i) (stronger l.1 (rest i)) (rest i)) ∙ ap (λ b. cond {A = Option Mode} b (stronger l.1 (unless_gained (list_any (same_lock name) gained) (mode_in ls name))) (unless_gained (list_any (same_lock name) gained) (mode_in ls name))) (takes l is)
          ∙ filtered (list_any (same_lock name) gained) l.1 (mode_in ls name)
        where
          and_true : (a b : Bool) → b ≡ true → (a && b) ≡ a
          and_true true b e = e
          and_true false b e = refl
      by false is rest = ap (λ b. cond {A = Option Mode} b (stronger l.1 (mode_in (filter p ls) name)) (mode_in (filter p ls) name)) (and_false (p l) (same_lock l.0 name) is) ∙ rest
        where
          and_false : (a b : Bool) → b ≡ false → (a && b) ≡ false
          and_false true b e = e
          and_false false b e = refl

-- the lock on the table of tables isn't one on a table
mode_all : (gained : List LockName) (ls : Locks) → mode_in (without_tables gained ls) All ≡ mode_in ls All
mode_all gained [] = refl
mode_all gained (l ∷ ls) = passes (λ l. not (is_on_table l && was_gained gained l)) l ls All ∙ by (same_lock l.0 All) refl (mode_all gained ls)
  where
    by : (b : Bool) → same_lock l.0 All ≡ b → mode_in (without_tables gained ls) All ≡ mode_in ls All
        → cond {A = Option Mode} (not (not b && was_gained gained l) && b) (stronger l.1 (mode_in (without_tables gained ls) All)) (mode_in (without_tables gained ls) All) ≡ cond b (stronger l.1 (mode_in ls All)) (mode_in ls All)
    by true is rest = ap (stronger l.1) rest
    by false is rest = ap (λ b. cond {A = Option Mode} b (stronger l.1 (mode_in (without_tables gained ls) All)) (mode_in (without_tables gained ls) All)) (never (not (was_gained gained l))) ∙ rest
      where
        never : (a : Bool) → (a && false) ≡ false
        never true = refl
        never false = refl

mode_table : (gained : List LockName) (ls : Locks) (table : List ℕ) → mode_in (without_tables gained ls) (Table table) ≡ unless_gained (list_any (same_lock (Table table)) gained) (mode_in ls (Table table))
mode_table gained ls table = mode_filtered (λ l. not (is_on_table l && was_gained gained l)) gained (Table table) takes ls
  where
    takes : (l : LockName × Mode) → same_lock l.0 (Table table) ≡ true → not (is_on_table l && was_gained gained l) ≡ not (is_shared l.1 && list_any (same_lock (Table table)) gained)
    takes l is = ap (λ (n : LockName). not (not (same_lock n All) && (is_shared l.1 && list_any (same_lock n) gained))) (lock_is l.0 (Table table) is)

mode_rest : (gained : List LockName) (ls : Locks) (name : LockName) → mode_in (filter (λ l. not (was_gained gained l)) ls) name ≡ unless_gained (list_any (same_lock name) gained) (mode_in ls name)
mode_rest gained ls name = mode_filtered (λ l. not (was_gained gained l)) gained name (λ l is. ap (λ (n : LockName). not (is_shared l.1 && list_any (same_lock n) gained)) (lock_is l.0 name is)) ls

twice : (g : Bool) (o : Option Mode) → unless_gained g (unless_gained g o) ≡ unless_gained g o
twice true None = refl
twice true (Some S) = refl
twice true (Some X) = refl
twice false o = refl

pub kept_table : (gained : List LockName) (ls : Locks) (table : List ℕ) → mode_in (kept_at levels.Committed gained ls) (Table table) ≡ unless_gained (list_any (same_lock (Table table)) gained) (mode_in ls (Table table))
kept_table gained ls table = by (list_any is_on_table (without_tables gained ls))
  where
    by : (b : Bool) → mode_in (cond b (without_tables gained ls) (filter (λ l. not (was_gained gained l)) (without_tables gained ls))) (Table table) ≡ unless_gained (list_any (same_lock (Table table)) gained) (mode_in ls (Table table))
    by true = mode_table gained ls table
    by false = mode_rest gained (without_tables gained ls) (Table table) ∙ ap (unless_gained (list_any (same_lock (Table table)) gained)) (mode_table gained ls table) ∙ twice (list_any (same_lock (Table table)) gained) (mode_in ls (Table table))

-- what is left on tables
pub none_on_tables : (ls : Locks) → list_any is_on_table ls ≡ false → (table : List ℕ) → mode_in ls (Table table) ≡ None
none_on_tables [] e table = refl
none_on_tables ((All, m) ∷ ls) e table = none_on_tables ls e table
none_on_tables ((Table a, m) ∷ ls) e table = absurd (let x : true ≡ false = e in cc)

pub some_on_table : (ls : Locks) → ((table : List ℕ) → mode_in ls (Table table) ≡ None) → list_any is_on_table ls ≡ false
some_on_table [] none = refl
some_on_table ((All, m) ∷ ls) none = some_on_table ls none
some_on_table ((Table a, m) ∷ ls) none = absurd (no m (mode_in ls (Table a)) (ap (λ b. cond b (stronger m (mode_in ls (Table a))) (mode_in ls (Table a))) (sym (lock_same (Table a))) ∙ none a))
  where
    no : (m : Mode) (o : Option Mode) → stronger m o ≡ None → ⊥
    no X o e = cc
    no S None e = cc
    no S (Some n) e = cc

pub kept_all_tables : (gained : List LockName) (ls : Locks) → ((table : List ℕ) → mode_in (kept_at levels.Committed gained ls) (Table table) ≡ None) → mode_in (kept_at levels.Committed gained ls) All ≡ unless_gained (list_any (same_lock All) gained) (mode_in ls All)
kept_all_tables gained ls none =
    let off : list_any is_on_table (without_tables gained ls) ≡ false = some_on_table (without_tables gained ls) (λ table. mode_table gained ls table ∙ sym (kept_table gained ls table) ∙ none table) in
    ap (λ b. mode_in (cond b (without_tables gained ls) (filter (λ l. not (was_gained gained l)) (without_tables gained ls))) All) off
    ∙ mode_rest gained (without_tables gained ls) All ∙ ap (unless_gained (list_any (same_lock All) gained)) (mode_all gained ls)

pub kept_all_table : (gained : List LockName) (ls : Locks) (table : List ℕ) → mode_in (kept_at levels.Committed gained ls) (Table table) ≢ None → mode_in (kept_at levels.Committed gained ls) All ≡ mode_in ls All
kept_all_table gained ls table some = elim (cases_Bool (list_any is_on_table (without_tables gained ls))) [
  | inl t ↦ ap (λ b. mode_in (cond b (without_tables gained ls) (filter (λ l. not (was_gained gained l)) (without_tables gained ls))) All) t ∙ mode_all gained ls
  | inr f ↦ absurd (some (kept_table gained ls table ∙ sym (mode_table gained ls table) ∙ none_on_tables (without_tables gained ls) f table))
]

-- WHO IS IN THE WAY

record Found (j : ℕ) (ss : List Session) (k : ℕ) (name : LockName) (mode : Mode) (o : ℕ) : Type 0 where
  place : ℕ
  is : o ≡ j + place
  there : place < length ss
  other : o ≢ k
  hinders : is_in_the_way (get_or ss place fresh_session).locks name mode ≡ true
  lowest : (i : ℕ) → i < place → j + i ≢ k → is_in_the_way (get_or ss i fresh_session).locks name mode ≡ false

found : (j : ℕ) (ss : List Session) (k : ℕ) (name : LockName) (mode : Mode) (o : ℕ) → holder_from j ss k name mode ≡ Some o → Found j ss k name mode o
found j [] k name mode o e = absurd (cc)
found j (s ∷ ss) k name mode o e = by (not (nat_eq j k)) (is_in_the_way s.locks name mode) refl refl e (λ h. found (j + 1) ss k name mode o h)
  where
    later : Found (j + 1) ss k name mode o → (j ≢ k → is_in_the_way s.locks name mode ≡ false) → Found j (s ∷ ss) k name mode o
    later f first = record {
      place = suc f.place;
      is = omega (arith, f.is);
      there = omega (arith, f.there);
      other = f.other;
      hinders = f.hinders;
      lowest = low f first;
    }
      where
        low : Found (j + 1) ss k name mode o → (j ≢ k → is_in_the_way s.locks name mode ≡ false) → (i : ℕ) → i < suc f.place → j + i ≢ k → is_in_the_way (get_or (s ∷ ss) i fresh_session).locks name mode ≡ false
        low g h zero lt ne = h (λ is. ne (omega (arith, is)))
        low g h (suc i) lt ne = f.lowest i (omega (arith, lt)) (λ is. ne (omega (arith, is)))

    by : (a b : Bool) → not (nat_eq j k) ≡ a → is_in_the_way s.locks name mode ≡ b → cond (a && b) (Some j) (holder_from (j + 1) ss k name mode) ≡ Some o → (holder_from (j + 1) ss k name mode ≡ Some o → Found (j + 1) ss k name mode o) → Found j (s ∷ ss) k name mode o
    by true true ea eb h again = record {
      place = 0;
      is = let same : j ≡ o = ap (λ x. unwrap_or x 0) h in omega (arith, same);
      there = omega arith;
      other = λ is. let same : j ≡ k = ap (λ x. unwrap_or x 0) h ∙ is in absurd (let w : false ≡ true = sym (ap not (eq-eqb j k same)) ∙ ea in cc);
      hinders = eb;
      lowest = λ i lt ne. absurd (omega (arith, lt));
    }
    by true false ea eb h again = later (again h) (λ _. eb)
    by false true ea eb h again = later (again h) (λ ne. absurd (let w : true ≡ false = sym (ap not (ne_eqb j k ne)) ∙ ea in cc))
    by false false ea eb h again = later (again h) (λ _. eb)

no_holder : (j : ℕ) (ss : List Session) (k : ℕ) (name : LockName) (mode : Mode) → ((i : ℕ) → i < length ss → j + i ≢ k → is_in_the_way (get_or ss i fresh_session).locks name mode ≡ false) → holder_from j ss k name mode ≡ None
no_holder j [] k name mode free = refl
no_holder j (s ∷ ss) k name mode free =
    ap (λ b. cond b (Some j) (holder_from (j + 1) ss k name mode)) (by (cases_eq j k)) ∙ no_holder (j + 1) ss k name mode (λ i lt ne. free (suc i) (omega (arith, lt)) (λ is. ne (omega (arith, is))))
  where
    by : (j ≡ k) ⊎ (j ≢ k) → (not (nat_eq j k) && is_in_the_way s.locks name mode) ≡ false
    by (inl same) = ap (λ b. not b && is_in_the_way s.locks name mode) (eq-eqb j k same)
    by (inr ne) = ap (λ b. not (nat_eq j k) && b) (free 0 (omega arith) (λ is. ne (omega (arith, is)))) ∙ never (not (nat_eq j k))
      where
        never : (a : Bool) → (a && false) ≡ false
        never true = refl
        never false = refl

-- a session as its place in the list
placed : (st : Plain) (j : ℕ) → IsTrue (is_session st j) → (1 ≤ j) × (j ≤ length st.sessions)
placed st j there = let h = and_parts (nat_le 1 j) (nat_le j (length st.sessions)) there in (leb-true 1 j h.0, leb-true j (length st.sessions) h.1)

in_place : (st : Plain) (j : ℕ) → 1 ≤ j → j ≤ length st.sessions → IsTrue (is_session st j)
in_place st j low high = both_true (nat_le 1 j) (nat_le j (length st.sessions)) (le-leb 1 j low) (le-leb j (length st.sessions) high)
  where
    both_true : (a b : Bool) → a ≡ true → b ≡ true → (a && b) ≡ true
    both_true a b e f = ap (λ x. x && b) e ∙ f

pub nobody : (st : Plain) (k : ℕ) (name : LockName) (mode : Mode) → held st k name mode ≡ None → (j : ℕ) → ¬ IsInWay st k name mode j
nobody st k name mode e j way =
    let n = placed st j way.there in
    let free : is_in_the_way (session st j).locks name mode ≡ false = from_free 1 st.sessions k name mode e (j - 1) (omega (arith, n.0, n.1)) (λ is. way.other (omega (arith, is, n.0))) in
    absurd (let w : true ≡ false = sym way.hinders ∙ sym (way_mode (session st j).locks name mode) ∙ free in cc)

pub free_where_nobody : (st : Plain) (k : ℕ) (name : LockName) (mode : Mode) → ((j : ℕ) → ¬ IsInWay st k name mode j) → held st k name mode ≡ None
free_where_nobody st k name mode none = no_holder 1 st.sessions k name mode (λ i lt ne. elim (cases_Bool (is_in_the_way (get_or st.sessions i fresh_session).locks name mode)) [
  | inl t ↦ absurd (none (i + 1) (record {
    there = in_place st (i + 1) (omega arith) (omega (arith, lt));
    other = λ is. ne (omega (arith, is));
    hinders = sym (way_mode (session st (i + 1)).locks name mode) ∙ ap (λ n. is_in_the_way (get_or st.sessions n fresh_session).locks name mode) (less i) ∙ t;
  }))
  | inr f ↦ f
])
  where
    less : (i : ℕ) → i + 1 - 1 ≡ i
    less i = omega arith

pub lowest_holds : (st : Plain) (k : ℕ) (name : LockName) (mode : Mode) (j : ℕ) → held st k name mode ≡ Some j → IsLowestInWay st k name mode j
lowest_holds st k name mode j e =
    let f : Found 1 st.sessions k name mode j = found 1 st.sessions k name mode j e in
    let at : j - 1 ≡ f.place = omega (arith, f.is) in
    record {
      is = record {
        there = in_place st j (omega (arith, f.is)) (omega (arith, f.is, f.there));
        other = f.other;
        hinders = sym (way_mode (session st j).locks name mode) ∙ ap (λ n. is_in_the_way (get_or st.sessions n fresh_session).locks name mode) at ∙ f.hinders;
      };
      lowest = λ i lt way.
          let n = placed st i way.there in
          let free : is_in_the_way (session st i).locks name mode ≡ false = f.lowest (i - 1) (omega (arith, lt, f.is, n.0)) (λ is. way.other (omega (arith, is, n.0))) in
          absurd (let w : true ≡ false = sym way.hinders ∙ sym (way_mode (session st i).locks name mode) ∙ free in cc);
    }

pub lowest_is : (st : Plain) (k : ℕ) (name : LockName) (mode : Mode) (j : ℕ) → IsLowestInWay st k name mode j → held st k name mode ≡ Some j
lowest_is st k name mode j low = by (held st k name mode) refl
  where
    by : (o : Option ℕ) → held st k name mode ≡ o → o ≡ Some j
    by None e = absurd (nobody st k name mode e j low.is)
    by (Some i) e =
        let other : IsLowestInWay st k name mode i = lowest_holds st k name mode i e in
        ap Some (elim (cases_lt i j) [
          | inl lt ↦ absurd (low.lowest i lt other.is)
          | inr ge ↦ elim (cases_lt j i) [
            | inl lt ↦ absurd (other.lowest j lt low.is)
            | inr le ↦ omega (arith, ge, le)
          ]
        ])

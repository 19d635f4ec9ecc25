-- The pages of a look-up are pages of the walk over the whole tree, in its order.
use Rattle.std.proofs.Common.{◌≡◌, ◌≢◌, ◌-◌, ◌<◌, ℕ, zero, suc, Bool, true, List, [], ◌∷◌, ◌++◌, length, get_or, refl, ap, sym, ◌∙◌, subst, arith, map, append_assoc, Result, Ok, Err, IsOkAnd, None, Some, ◌⊎◌, inl, inr}
use Rattle.std.specs.List.{AllPairs, Any}
use Rattle.std.proofs.lemmas.List.{get_or_default}
use Rattle.page_base.specs.declared.column.Column.{Column}
use Rattle.page_base.specs.declared.numbers.PageId.{PageId}
use Rattle.page_fmt.specs.Seen.{SlotsAt}
use Rattle.plain_model.specs.Tables.{Rows}
use Rattle.table_walk.specs.declared.visit.Visit.{Visit}
use Rattle.table_walk.specs.Walk.{Walks, IsWalk}
use Rattle.tree_laws.specs.declared.child.Child.{Child}
use Rattle.tree_laws.specs.Keys.{Key}
use Rattle.tree_laws.specs.Kids.{chosen_from, wanted, visit_of, level_of, tree_kids, first}
use Rattle.tree_laws.specs.Order.{RowsAt}
use Rattle.tree_laws.proofs.NodeLemmas.{IsNode, page_is, IsChosen, chosen_is, IsParted, parted, visits-append, no_cons}

-- some visits among others, in their order
abbrev pub AreAmong : List Visit → List Visit → Type 0
AreAmong [] ys = Unit {0}
AreAmong (x ∷ xs) [] = ⊥
AreAmong (x ∷ xs) (y ∷ ys) = ((x ≡ y) × AreAmong xs ys) ⊎ AreAmong (x ∷ xs) ys

among-behind : (zs xs ys : List Visit) → AreAmong xs ys → AreAmong xs (zs ++ ys)
among-behind [] xs ys s = s
among-behind (z ∷ zs) [] ys s = tt
among-behind (z ∷ zs) (x ∷ xs) ys s = inr (among-behind zs (x ∷ xs) ys s)

pub among-each : (P : Visit → Type 0) (xs ys : List Visit) → AreAmong xs ys → ((k : ℕ) (d : Visit) → k < length ys → P (get_or ys k d)) → (k : ℕ) (d : Visit) → k < length xs → P (get_or xs k d)
among-each P [] ys s all k d lt = absurd (omega (arith, lt))
among-each P (x ∷ xs) [] s all k d lt = absurd s
among-each P (x ∷ xs) (y ∷ ys) (inl s) all zero d lt = subst P (sym s.0) (all 0 d (omega arith))
among-each P (x ∷ xs) (y ∷ ys) (inl s) all (suc k) d lt = among-each P xs ys s.1 (λ j e h. all (suc j) e (omega (arith, h))) k d (omega (arith, lt))
among-each P (x ∷ xs) (y ∷ ys) (inr s) all k d lt = among-each P (x ∷ xs) ys s (λ j e h. all (suc j) e (omega (arith, h))) k d lt

-- each of these is one of the others
pub among-there : (xs ys : List Visit) → AreAmong xs ys → (k : ℕ) (d : Visit) → k < length xs → Any (λ w. w ≡ get_or xs k d) ys
among-there [] ys s k d lt = absurd (omega (arith, lt))
among-there (x ∷ xs) [] s k d lt = absurd s
among-there (x ∷ xs) (y ∷ ys) (inl s) zero d lt = (0, y, omega arith, refl, sym s.0)
among-there (x ∷ xs) (y ∷ ys) (inl s) (suc k) d lt = let a = among-there xs ys s.1 k d (omega (arith, lt)) in (suc a.0, a.1, omega (arith, a.2), a.3, a.4)
among-there (x ∷ xs) (y ∷ ys) (inr s) k d lt = let a = among-there (x ∷ xs) ys s k d lt in (suc a.0, a.1, omega (arith, a.2), a.3, a.4)

-- what holds of each two of the others holds of these
among-pairs : (R : Visit → Visit → Type 0) (xs ys : List Visit) → AreAmong xs ys → AllPairs R ys → AllPairs R xs
among-pairs R [] ys s all i j d a b = absurd (omega (arith, b))
among-pairs R (x ∷ xs) [] s all i j d a b = absurd s
among-pairs R (x ∷ xs) (y ∷ ys) (inl s) all zero zero d a b = absurd (omega (arith, a))
among-pairs R (x ∷ xs) (y ∷ ys) (inl s) all zero (suc j) d a b =
    among-each (R x) xs ys s.1 (λ k e h. subst (λ (z : Visit). R z (get_or ys k e)) (sym s.0) (all 0 (suc k) e (omega arith) (omega (arith, h)))) j d (omega (arith, b))
among-pairs R (x ∷ xs) (y ∷ ys) (inl s) all (suc i) zero d a b = absurd (omega (arith, a))
among-pairs R (x ∷ xs) (y ∷ ys) (inl s) all (suc i) (suc j) d a b =
    among-pairs R xs ys s.1 (λ k l e f g. all (suc k) (suc l) e (omega (arith, f)) (omega (arith, g))) i j d (omega (arith, a)) (omega (arith, b))
among-pairs R (x ∷ xs) (y ∷ ys) (inr s) all i j d a b =
    among-pairs R (x ∷ xs) ys s (λ k l e f g. all (suc k) (suc l) e (omega (arith, f)) (omega (arith, g))) i j d a b

module _ (cols : List Column) (at : SlotsAt) (key : Key) where
  -- what the look-up comes to next, in the walk that goes on from here
  abbrev pub GoesOn : List Visit → List Visit → Type 0
  GoesOn [] more = Unit {0}
  GoesOn (v ∷ []) more = (front : List Visit) × (later : List Visit) × (left : List Visit) × (more ≡ front ++ later) × Walks (tree_kids cols None) at (v ∷ left) later []
  GoesOn (v ∷ w ∷ ws) more = ⊥

  pub record IsStep (t : Visit) (more : List Visit) : Type 0 where
    pub next : List Visit
    pub are : tree_kids cols (Some key) t (at t.page) ≡ Ok next
    pub on : GoesOn next more

  step_of : (t : Visit) (todo more : List Visit) → IsOkAnd (tree_kids cols None t (at t.page)) (λ next. Walks (tree_kids cols None) at (next ++ todo) more []) → IsStep t more
  step_of t todo more w = by (tree_kids cols None t (at t.page)) refl w
    where
      node : (ns : List Visit) → Walks (tree_kids cols None) at (ns ++ todo) more [] → IsNode cols t (at t.page) ns → IsStep t more
      node ns w n = record { next = map (visit_of t.page (level_of (at t.page) - 1)) (wanted (Some key) n.cs); are = n.other (Some key); on = some n.cs n.are }
        where
          some : (cs : List Child) → ns ≡ map (visit_of t.page (level_of (at t.page) - 1)) cs → GoesOn (map (visit_of t.page (level_of (at t.page) - 1)) (wanted (Some key) cs)) more
          some [] e = tt
          some (c ∷ cs) e =
              let ch : Child = chosen_from key c cs in
              let o : IsChosen key (c ∷ cs) ch = chosen_is key c cs in
              let l : ℕ = level_of (at t.page) - 1 in
              let front : List Visit = map (visit_of t.page l) o.before in
              let back : List Visit = map (visit_of t.page l) o.after in
              let are : ns ++ todo ≡ front ++ (visit_of t.page l ch ∷ (back ++ todo)) =
              ap (λ (x : List Visit). x ++ todo) (e ∙ ap (map (visit_of t.page l)) o.are ∙ visits-append t.page l o.before (ch ∷ o.after)) ∙ append_assoc front (visit_of t.page l ch ∷ back) todo in
              let p : IsParted (tree_kids cols None) at front (visit_of t.page l ch ∷ (back ++ todo)) more = parted (tree_kids cols None) at front (visit_of t.page l ch ∷ (back ++ todo)) more (subst (λ (x : List Visit). Walks (tree_kids cols None) at x more []) are w) in
              (p.first, p.later, back ++ todo, p.are, p.rest)

      by : (r : Result (List Visit) ℕ) → tree_kids cols None t (at t.page) ≡ r → IsOkAnd r (λ next. Walks (tree_kids cols None) at (next ++ todo) more []) → IsStep t more
      by (Err e) is w = absurd w
      by (Ok ns) is w = elim (page_is cols t (at t.page) ns is) [
        | inl leaf ↦ record { next = []; are = leaf.other (Some key); on = tt }
        | inr n ↦ node ns w n
      ]

  pub within : (t : Visit) (todo all done rest : List Visit) → Walks (tree_kids cols None) at (t ∷ todo) all [] → Walks (tree_kids cols (Some key)) at (t ∷ []) done rest → AreAmong (done ++ rest) all
  within t todo [] done rest a w = absurd (no_cons t todo a)
  within t todo (x ∷ more) [] rest a w = subst (λ (l : List Visit). AreAmong l (x ∷ more)) w (inl (a.0, tt))
  within t todo (x ∷ more) (y ∷ done) rest a w =
      let s : IsStep t more = step_of t todo more a.1 in
      inl (sym w.0 ∙ a.0, by s.next (subst (λ (r : Result (List Visit) ℕ). IsOkAnd r (λ next. Walks (tree_kids cols (Some key)) at (next ++ []) done rest)) s.are w.1) s.on (λ v left later. within v left later done rest))
    where
      none : (done : List Visit) → Walks (tree_kids cols (Some key)) at [] done rest → AreAmong (done ++ rest) more
      none [] w = subst (λ (l : List Visit). AreAmong l more) w tt
      none (z ∷ done) w = absurd w

      by : (next : List Visit) → Walks (tree_kids cols (Some key)) at (next ++ []) done rest → GoesOn next more
          → ((v : Visit) (left later : List Visit) → Walks (tree_kids cols None) at (v ∷ left) later [] → Walks (tree_kids cols (Some key)) at (v ∷ []) done rest → AreAmong (done ++ rest) later) → AreAmong (done ++ rest) more
      by [] w on rec = none done w
      by (v ∷ []) w on rec = subst (AreAmong (done ++ rest)) (sym on.3) (among-behind on.0 (done ++ rest) on.1 (rec v on.2 on.1 on.4 w))
      by (v ∷ u ∷ us) w on rec = absurd on

  -- what a page of the whole walk names for the key, if it is read
  pub names : (todo all : List Visit) (v : Visit) → Walks (tree_kids cols None) at todo all [] → Any (λ w. w ≡ v) all → (more : List Visit) × IsStep v more
  names todo [] v a any = absurd (omega (arith, any.2))
  names [] (x ∷ all) v a any = absurd a
  names (t ∷ todo) (x ∷ all) v a any = by any.0 any.2 any.3 (λ next w rest. names (next ++ todo) all v w rest)
    where
      go : (r : Result (List Visit) ℕ) → IsOkAnd r (λ next. Walks (tree_kids cols None) at (next ++ todo) all []) → ((next : List Visit) → Walks (tree_kids cols None) at (next ++ todo) all [] → (more : List Visit) × IsStep v more) → (more : List Visit) × IsStep v more
      go (Ok next) w f = f next w
      go (Err e) w f = absurd w

      by : (k : ℕ) → k < length (x ∷ all) → get_or (x ∷ all) k any.1 ≡ any.1 → ((next : List Visit) → Walks (tree_kids cols None) at (next ++ todo) all [] → Any (λ w. w ≡ v) all → (more : List Visit) × IsStep v more) → (more : List Visit) × IsStep v more
      by zero lt e rec =
          let same : t ≡ v = a.0 ∙ e ∙ any.4 in
          (all, subst (λ (z : Visit). IsStep z all) same (step_of t todo all a.1))
      by (suc k) lt e rec = go (tree_kids cols None t (at t.page)) a.1 (λ next w. rec next w (k, any.1, omega (arith, lt), e, any.4))

module _ (cols : List Column) (at : SlotsAt) (owns : PageId → Bool) (root : PageId) (rows : Rows) (key : Key) where
  pub stays : (done rest : List Visit) → RowsAt cols at owns root rows → IsWalk (tree_kids cols (Some key)) at (first root) done rest → (k : ℕ) (d : Visit) → k < length (done ++ rest) → owns (get_or (done ++ rest) k d).page ≡ true
  stays done rest t w = among-each (λ (v : Visit). owns v.page ≡ true) (done ++ rest) t.0 (within cols at key (first root) [] t.0 done rest t.1.walk.walks w.walks)
      (λ k d lt. (t.1.owned (get_or t.0 k d).page).1 (k, get_or t.0 k d, lt, get_or_default t.0 k (get_or t.0 k d) d lt, refl))

  -- no page twice
  pub stays_once : (done rest : List Visit) → RowsAt cols at owns root rows → Walks (tree_kids cols (Some key)) at (first root ∷ []) done rest → AllPairs (λ v w. v.page ≢ w.page) (done ++ rest)
  stays_once done rest t w = among-pairs (λ v w. v.page ≢ w.page) (done ++ rest) t.0 (within cols at key (first root) [] t.0 done rest t.1.walk.walks w) t.1.walk.once

-- The look-up of a key comes to one page of each level.
use Rattle.std.proofs.Common.{◌≡◌, ◌<◌, ◌≤◌, ◌+◌, ℕ, zero, suc, Bool, true, false, cond, List, [], ◌∷◌, ◌++◌, length, get_or, refl, ap, sym, subst, arith, Result, Ok, Err, IsOkAnd, Option, None, Some}
use Rattle.std.specs.List.{AllPairs}
use Rattle.std.proofs.lemmas.Bool.{eqb-true}
use Rattle.page_base.specs.declared.column.Column.{Column}
use Rattle.page_base.specs.declared.numbers.PageId.{PageId}
use Rattle.page_fmt.specs.Seen.{SlotsAt}
use Rattle.table_walk.specs.declared.visit.Visit.{Visit}
use Rattle.table_walk.specs.Tables.{is_leaf}
use Rattle.table_walk.specs.Walk.{Walks, IsWalk}
use Rattle.tree_laws.specs.declared.child.Child.{Child}
use Rattle.tree_laws.specs.Keys.{Key, key_columns}
use Rattle.tree_laws.specs.Kids.{children, level_of, may_be, some_below, node, visits, tree_kids, first}
use Rattle.tree_laws.specs.LookUps.{named_or, level_in, IsOnePerLevel}

module _ (at : SlotsAt) where
  -- at most one visit, and of a level below this
  abbrev pub IsOne : ℕ → List Visit → Type 0
  IsOne b [] = Unit {0}
  IsOne b (v ∷ []) = level_in at v < b
  IsOne b (v ∷ w ∷ ws) = ⊥

  abbrev pub Fall : ℕ → List Visit → Type 0
  Fall b [] = Unit {0}
  Fall b (v ∷ vs) = (level_in at v < b) × Fall (level_in at v) vs

  -- what a page of this level may answer
  abbrev pub AnswersOne : ℕ → Result (List Visit) ℕ → Type 0
  AnswersOne b (Ok ws) = IsOne b ws
  AnswersOne b (Err e) = Unit {0}

  one_visit : (key : Key) (from : PageId) (n : ℕ) (r : Result (List Child) ℕ) → AnswersOne (suc n) (visits (Some key) from (suc n) r)
  one_visit key from n (Err e) = tt
  one_visit key from n (Ok []) = tt
  one_visit key from n (Ok (c ∷ cs)) = omega arith

  one_of_node : (key : Key) (cols : List Column) (v : Visit) (l : ℕ) (level : Option ℕ) (r : Result (List Child) ℕ) (b : Bool) → may_be level l ≡ b → AnswersOne (named_or l level) (visits (Some key) v.page l (cond b (some_below l r) (Err 0)))
  one_of_node key cols v l level r false e = tt
  one_of_node key cols v zero None r true e = absurd (let w : false ≡ true = e in cc)
  one_of_node key cols v zero (Some k) r true e = absurd (let w : false ≡ true = e in cc)
  one_of_node key cols v (suc n) None r true e = one_visit key v.page n (some_below (suc n) r)
  one_of_node key cols v (suc n) (Some k) r true e = subst (λ b. AnswersOne b (visits (Some key) v.page (suc n) (some_below (suc n) r))) (sym (eqb-true k (suc n) e)) (one_visit key v.page n (some_below (suc n) r))

  one_kid : (cols : List Column) (key : Key) (v : Visit) → AnswersOne (level_in at v) (tree_kids cols (Some key) v (at v.page))
  one_kid cols key v = by (is_leaf v)
    where
      by : (b : Bool) → AnswersOne (level_in at v) (cond b (Ok []) (visits (Some key) v.page (level_of (at v.page)) (node (key_columns cols) v.level (at v.page))))
      by true = tt
      by false = one_of_node key cols v (level_of (at v.page)) v.level (children (key_columns cols) (at v.page)) (may_be v.level (level_of (at v.page))) refl

  none_more : (xs : List Visit) → xs ++ [] ≡ xs
  none_more [] = refl
  none_more (x ∷ xs) = ap (λ l. x ∷ l) (none_more xs)

  falls_one : (b : ℕ) (ws : List Visit) → IsOne b ws → Fall b ws
  falls_one b [] o = tt
  falls_one b (v ∷ []) o = (o, tt)
  falls_one b (v ∷ w ∷ ws) o = absurd o

  falls : (cols : List Column) (key : Key) (b : ℕ) (todo done rest : List Visit) → Walks (tree_kids cols (Some key)) at todo done rest → IsOne b todo → Fall b (done ++ rest)
  falls cols key b todo [] rest w o = subst (Fall b) w (falls_one b todo o)
  falls cols key b [] (v ∷ done) rest w o = absurd w
  falls cols key b (t ∷ u ∷ todo) (v ∷ done) rest w o = absurd o
  falls cols key b (t ∷ []) (v ∷ done) rest w o =
      let below : Fall (level_in at t) (done ++ rest) = go (tree_kids cols (Some key) t (at t.page)) (one_kid cols key t) w.1 (λ next. falls cols key (level_in at t) next done rest) in
      (subst (λ (x : Visit). level_in at x < b) w.0 o, subst (λ (x : Visit). Fall (level_in at x) (done ++ rest)) w.0 below)
    where
      go : (r : Result (List Visit) ℕ) → AnswersOne (level_in at t) r → IsOkAnd r (λ next. Walks (tree_kids cols (Some key)) at (next ++ []) done rest) → ((next : List Visit) → Walks (tree_kids cols (Some key)) at next done rest → IsOne (level_in at t) next → Fall (level_in at t) (done ++ rest)) → Fall (level_in at t) (done ++ rest)
      go (Ok next) a w f = f next (subst (λ l. Walks (tree_kids cols (Some key)) at l done rest) (none_more next) w) a
      go (Err e) a w f = absurd w

  below : (b : ℕ) (vs : List Visit) → Fall b vs → (j : ℕ) (d : Visit) → j < length vs → level_in at (get_or vs j d) < b
  below b [] f j d h = absurd (omega (arith, h))
  below b (v ∷ vs) f zero d h = f.0
  below b (v ∷ vs) f (suc j) d h = omega (arith, f.0, below (level_in at v) vs f.1 j d (omega (arith, h)))

  pairs : (b : ℕ) (vs : List Visit) → Fall b vs → AllPairs (λ v w. level_in at w < level_in at v) vs
  pairs b [] f i j d lt h = absurd (omega (arith, h))
  pairs b (v ∷ vs) f zero zero d lt h = absurd (omega (arith, lt))
  pairs b (v ∷ vs) f zero (suc j) d lt h = below (level_in at v) vs f.1 j d (omega (arith, h))
  pairs b (v ∷ vs) f (suc i) zero d lt h = absurd (omega (arith, lt))
  pairs b (v ∷ vs) f (suc i) (suc j) d lt h = pairs (level_in at v) vs f.1 i j d (omega (arith, lt)) (omega (arith, h))

  few : (b : ℕ) (vs : List Visit) → Fall b vs → length vs ≤ b
  few b [] f = omega arith
  few b (v ∷ vs) f = omega (arith, f.0, few (level_in at v) vs f.1)

  pub one_per_level : (cols : List Column) (root : PageId) (key : Key) (done rest : List Visit) → IsWalk (tree_kids cols (Some key)) at (first root) done rest → IsOnePerLevel at root (done ++ rest)
  one_per_level cols root key done rest w =
      let f : Fall (level_of (at root) + 1) (done ++ rest) = falls cols key (level_of (at root) + 1) (first root ∷ []) done rest w.walks (omega arith) in
      record { falls = pairs (level_of (at root) + 1) (done ++ rest) f; few = few (level_of (at root) + 1) (done ++ rest) f }

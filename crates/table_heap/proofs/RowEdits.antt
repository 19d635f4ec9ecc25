-- An edit of a row lies on a leaf; those of root pages are edits of no row.
use Rattle.std.proofs.Common.{refl, ◌≡◌, ℕ, zero, suc, ◌+◌, ◌-◌, ◌<◌, ◌≤◌, List, [], ◌∷◌, length, get_or, max, sym, ◌∙◌, subst, arith, Bool, true, false, cond, inl, inr}
use Rattle.std.specs.Prelude.{Option, None, Some}
use Rattle.std.specs.List.{All, Any}
use Rattle.std.proofs.lemmas.Bool.{cases_lt}
use Rattle.std.proofs.lemmas.List.Elements.{All-nil, All-cons, All-append, All-tail, All-head}
use Rattle.page_base.specs.declared.numbers.PageId.{PageId}
use Rattle.table_walk.specs.declared.plan.Edit.{Edit}
use Rattle.table_walk.specs.declared.plan.Spot.{Spot}
use Rattle.table_walk.specs.declared.visit.Visit.{Visit}
use Rattle.table_walk.specs.Differences.{ArePlain}
use Rattle.table_walk.specs.Plans.{place, IsOnLeaf}
use Rattle.table_walk.specs.Tables.{is_leaf}
use Rattle.table_heap.specs.declared.growing.RootPage.{RootPage}
use Rattle.table_heap.specs.Emission.{Makes, MakesAll}
use Rattle.table_heap.specs.Growth.{front_edits, name_edits, root_edits}
use Rattle.table_heap.specs.Shape.{times, leaves_in}
use Rattle.table_heap.proofs.ShapeLemmas.{none_here, page_cases}

-- a leaf that is counted is come to
leaf_there : (vs : List Visit) (q : PageId) → 1 ≤ times q (leaves_in vs) → Any (λ v. (v.page ≡ q) × (is_leaf v ≡ true)) vs
leaf_there [] q h = absurd (omega arith)
leaf_there (v ∷ vs) q h = by (is_leaf v) refl (λ less. leaf_there vs q less)
  where
    further : Any (λ v. (v.page ≡ q) × (is_leaf v ≡ true)) vs → Any (λ v. (v.page ≡ q) × (is_leaf v ≡ true)) (v ∷ vs)
    further x = (suc x.0, x.1, omega (arith, x.2), x.3, x.4)

    by : (b : Bool) → is_leaf v ≡ b → (1 ≤ times q (leaves_in vs) → Any (λ v. (v.page ≡ q) × (is_leaf v ≡ true)) vs) → Any (λ v. (v.page ≡ q) × (is_leaf v ≡ true)) (v ∷ vs)
    by true leaf again = elim (page_cases v.page q) [
      | inl e ↦ (0, v, omega arith, refl, (e, leaf))
      | inr ne ↦
          let here : 1 ≤ times q (v.page ∷ leaves_in vs) = subst (λ b. 1 ≤ times q (cond b (v.page ∷ leaves_in vs) (leaves_in vs))) leaf h in
          further (again (omega (arith, here, none_here v.page q (times q (leaves_in vs)) ne)))
    ]
    by false root again = further (again (subst (λ b. 1 ≤ times q (cond b (v.page ∷ leaves_in vs) (leaves_in vs))) root h))

module _ (claimed : ℕ → PageId) (pages : List PageId) where
  -- an edit of a row is of one of these pages
  abbrev pub IsAmong : Edit → Type 0
  IsAmong e = e.of_row ≡ true → 1 ≤ times (place claimed e.spot) pages

  plain_among : (spot : Spot) (es : List Edit) → 1 ≤ times (place claimed spot) pages → ArePlain spot es → All IsAmong es
  plain_among spot [] h a = All-nil IsAmong
  plain_among spot (e ∷ es) h a = All-cons IsAmong e es (λ _. subst (λ s. 1 ≤ times (place claimed s) pages) (sym a.0.0) h) (plain_among spot es h a.1)

  no_row : (e : Edit) → e.of_row ≡ false → IsAmong e
  no_row e no_one is = (let w : true ≡ false = sym is ∙ no_one in cc)

  front_among : (spot : Spot) (count : ℕ) (next : Option ℕ) → All IsAmong (front_edits spot count next)
  front_among spot count (Some j) = All-cons IsAmong (record { spot = spot; slot = 0; names = Some j; bytes = []; of_row = false }) [] (no_row (record { spot = spot; slot = 0; names = Some j; bytes = []; of_row = false }) refl) (All-nil IsAmong)
  front_among spot zero None = All-cons IsAmong (record { spot = spot; slot = 0; names = None; bytes = 0 ∷ 0 ∷ 0 ∷ 0 ∷ 0 ∷ []; of_row = false }) [] (no_row (record { spot = spot; slot = 0; names = None; bytes = 0 ∷ 0 ∷ 0 ∷ 0 ∷ 0 ∷ []; of_row = false }) refl) (All-nil IsAmong)
  front_among spot (suc k) None = All-nil IsAmong

  names_among : (spot : Spot) (slot : ℕ) (is : List ℕ) → All IsAmong (name_edits spot slot is)
  names_among spot slot [] = All-nil IsAmong
  names_among spot slot (i ∷ is) = All-cons IsAmong (record { spot = spot; slot = slot; names = Some i; bytes = []; of_row = false }) (name_edits spot (slot + 1) is) (no_row (record { spot = spot; slot = slot; names = Some i; bytes = []; of_row = false }) refl) (names_among spot (slot + 1) is)

  root_among : (r : RootPage) → All IsAmong (root_edits r)
  root_among r = All-append IsAmong (front_edits r.spot r.slots r.next) (name_edits r.spot (max r.slots 1) r.names) (front_among r.spot r.slots r.next) (names_among r.spot (max r.slots 1) r.names)

  module _ (spots : List Spot) (olds news : List (List (List ℕ))) (roots : List RootPage) (s : Spot) (r : RootPage) (there : (k : ℕ) → k < length news → 1 ≤ times (place claimed (get_or spots k s)) pages) where
    page_among : (i : ℕ) (es : List Edit) → Makes spots olds news roots i es → All IsAmong es
    page_among i es m = elim (cases_lt i (length news)) [
      | inl lt ↦ plain_among (get_or spots i s) es (there i lt) (m.leaf lt s).are
      | inr ge ↦ subst (All IsAmong) (sym (m.root ge r)) (root_among (get_or roots (i - length news) r))
    ]

    pub pages_among : (is : List ℕ) (es : List Edit) → MakesAll spots olds news roots is es → All IsAmong es
    pages_among [] es m = subst (All IsAmong) (sym m) (All-nil IsAmong)
    pages_among (i ∷ is) es m = subst (All IsAmong) (sym m.4) (All-append IsAmong m.0 m.1 (page_among i m.0 m.2) (pages_among is m.1 m.3))

  pub among_leaves : (done : List Visit) (es : List Edit) → leaves_in done ≡ pages → All IsAmong es → All (IsOnLeaf claimed done) es
  among_leaves done [] is a = All-nil (IsOnLeaf claimed done)
  among_leaves done (e ∷ es) is a =
      All-cons (IsOnLeaf claimed done) e es (λ row. leaf_there done (place claimed e.spot) (subst (λ ps. 1 ≤ times (place claimed e.spot) ps) (sym is) (All-head IsAmong e es a row))) (among_leaves done es is (All-tail IsAmong e es a))

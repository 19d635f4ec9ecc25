-- Tables of pages: what was read of them, and that they depend on no other page.
use Rattle.std.proofs.Common.{refl, ◌≡◌, ◌≢◌, ℕ, zero, suc, ◌<◌, List, [], ◌∷◌, ◌++◌, length, get_or, ap, sym, ◌∙◌, subst, arith, Bool, true, cond}
use Rattle.std.proofs.lemmas.List.{get_or_default}
use Rattle.page_base.specs.declared.column.Column.{Column}
use Rattle.page_base.specs.declared.numbers.PageId.{PageId}
use Rattle.page_fmt.specs.Seen.{SlotsAt, Looked, look, Shows}
use Rattle.plain_model.specs.Tables.{Rows}
use Rattle.table_walk.specs.declared.refusal.SeenRefusal.{SeenRefusal}
use Rattle.table_walk.specs.declared.refusal.SeenRefusal.TheVariants.{Damaged, Memory}
use Rattle.table_walk.specs.declared.find.Wants.{Wants}
use Rattle.table_walk.specs.declared.find.Wants.TheVariants.{Page, Done}
use Rattle.table_walk.specs.declared.visit.Visit.{Visit}
use Rattle.table_walk.specs.Walk.{IsSeenWalk, Lacks, IsBad}
use Rattle.table_walk.specs.Tables.{Shape, shown, Gathers, AreRows, IsNoRowOf, HasRows, IsBadRow, IsSomeRow, full, cells, cells_of, is_leaf}
use Rattle.table_walk.specs.Answers.{IsAt, IsMemory, Tells, OfPage}
use Rattle.table_walk.proofs.GatherLemmas.{gathered_are, gathers_one, AreRows-parts}
use Rattle.table_walk.proofs.WalkLemmas.{is_ahead, is_all, never_bad, walks-same, walks-one}

-- the cells depend only on the pages of the walk
pub cells-same : (at other : SlotsAt) (done : List Visit) → ((k : ℕ) (d : Visit) → k < length done → at (get_or done k d).page ≡ other (get_or done k d).page) → cells at done ≡ cells other done
cells-same at other [] h = refl
cells-same at other (v ∷ vs) h = λ i. cond (is_leaf v) (full (h 0 v (omega arith) i)) [] ++ cells-same at other vs (λ k d lt. h (suc k) d (omega arith)) i

slot_row : (cols : List Column) (xs : List (List ℕ)) (i : ℕ) → i < length xs → get_or xs i [] ≢ [] → AreRows cols (full xs) → IsSomeRow cols (get_or xs i [])
slot_row cols [] i h some a = absurd (omega arith)
slot_row cols ([] ∷ xs) zero h some a = absurd (some refl)
slot_row cols ([] ∷ xs) (suc i) h some a = slot_row cols xs i (omega arith) some a
slot_row cols ((b ∷ bs) ∷ xs) zero h some a = a.0
slot_row cols ((b ∷ bs) ∷ xs) (suc i) h some a = slot_row cols xs i (omega arith) some a.1

pub leaf_row : (cols : List Column) (at : SlotsAt) (done : List Visit) (k : ℕ) (d : Visit) (i : ℕ) → AreRows cols (cells at done) → k < length done → is_leaf (get_or done k d) ≡ true → i < length (at (get_or done k d).page)
    → get_or (at (get_or done k d).page) i [] ≢ [] → IsSomeRow cols (get_or (at (get_or done k d).page) i [])
leaf_row cols at [] k d i a h leaf lt some = absurd (omega arith)
leaf_row cols at (v ∷ vs) zero d i a h leaf lt some =
    let parts = AreRows-parts cols (cells_of at v) (cells at vs) a in
    slot_row cols (at v.page) i lt some (subst (AreRows cols) (ap (λ b. cond b (full (at v.page)) []) leaf) parts.0)
leaf_row cols at (v ∷ vs) (suc k) d i a h leaf lt some =
    let parts = AreRows-parts cols (cells_of at v) (cells at vs) a in leaf_row cols at vs k d i parts.1 (omega arith) leaf lt some

module _ (shape : Shape) (cols : List Column) (at : SlotsAt) (owns : PageId → Bool) (start : Visit) (all : Rows) (seen : List Looked) (t : HasRows shape cols at owns start all) where
  -- the page that comes next is one of the table's
  pub owned_next : (v : Visit) (p : PageId) → Shows seen at → Lacks shape.kids seen start v → v.page ≡ p → owns p ≡ true
  owned_next v p shows lacks e =
      let a = is_ahead shape.kids seen at start v t.0 shows t.1.walk lacks in
      (t.1.owned p).1 (a.0, a.1, a.2, a.3, ap (λ (x : Visit). x.page) a.4 ∙ e)

  pub owned_wants : (w : Wants) → Shows seen at → Tells shape.kids seen start w → OfPage (λ p. owns p ≡ true) w
  owned_wants (Page p rows) shows tells = owned_next tells.visit p shows tells.lacks tells.is
  owned_wants Done shows tells = tt

  pub table_not_bad : (e : SeenRefusal) → Shows seen at → IsAt (IsBad shape.kids seen start) e → IsMemory e
  table_not_bad (Damaged p slot) shows bad = absurd (never_bad shape.kids seen at start t.0 p slot shows t.1.walk bad)
  table_not_bad Memory shows bad = tt

  -- what was read gives the table's rows
  pub table_gathers : (done : List Visit) → Shows seen at → IsSeenWalk shape.kids seen start done [] → Gathers cols (cells (look seen) done) all
  table_gathers done shows w =
      let same : cells (look seen) done ≡ cells at t.0 =
      cells-same (look seen) at done (λ k d lt. shows (get_or done k d).page (w.were k d lt)) ∙ ap (cells at) (is_all shape.kids seen at start done t.0 shows w t.1.walk) in
      subst (λ cs. Gathers cols cs all) (sym same) t.1.gathers

  no_bad_row : (p : PageId) (slot : ℕ) → Shows seen at → ¬ IsBadRow shape.kids cols seen start p slot
  no_bad_row p slot shows bad =
      let done : List Visit = bad.0 in
      let same : done ≡ t.0 = is_all shape.kids seen at start done t.0 shows bad.1 t.1.walk in
      let are : AreRows cols (cells at done) = subst (λ vs. AreRows cols (cells at vs)) (sym same) (gathered_are cols (cells at t.0) all t.1.gathers) in
      let k : ℕ = bad.2.0 in
      let v : Visit = bad.2.1 in
      let lt : k < length done = bad.2.2 in
      let here : get_or done k v ≡ v = bad.2.3 in
      let wrong : IsNoRowOf cols seen p slot v = bad.2.4 in
      let read : look seen p ≡ at (get_or done k v).page = ap (look seen) (sym wrong.at ∙ sym (ap (λ (x : Visit). x.page) here)) ∙ shows (get_or done k v).page (bad.1.were k v lt) in
      wrong.no.wrong (subst (λ (xs : List (List ℕ)). IsSomeRow cols (get_or xs slot [])) (sym read)
      (leaf_row cols at done k v slot are lt (ap is_leaf here ∙ wrong.leaf) (subst (λ (xs : List (List ℕ)). slot < length xs) read wrong.no.there) (subst (λ (xs : List (List ℕ)). get_or xs slot [] ≢ []) read wrong.no.some)))

  pub table_no_bad_row : (e : SeenRefusal) → Shows seen at → IsAt (IsBadRow shape.kids cols seen start) e → IsMemory e
  table_no_bad_row (Damaged p slot) shows bad = absurd (no_bad_row p slot shows bad)
  table_no_bad_row Memory shows bad = tt

pub shown-same : (at other : SlotsAt) (done : List Visit) → ((k : ℕ) (d : Visit) → k < length done → at (get_or done k d).page ≡ other (get_or done k d).page) → shown at done ≡ shown other done
shown-same at other [] same = refl
shown-same at other (v ∷ vs) same = λ i. record { page = v.page; slots = same 0 v (omega arith) i } ∷ shown-same at other vs (λ k d lt. same (suc k) d (omega arith)) i

-- FRAME: a table depends only on the pages that it owns
pub table_same : (shape : Shape) (cols : List Column) (at other : SlotsAt) (owns : PageId → Bool) (start : Visit) (all : Rows) → ((p : PageId) → owns p ≡ true → at p ≡ other p) → HasRows shape cols at owns start all → HasRows shape cols other owns start all
table_same shape cols at other owns start all same t =
    let here : (k : ℕ) (d : Visit) → k < length t.0 → at (get_or t.0 k d).page ≡ other (get_or t.0 k d).page = λ k d lt. same (get_or t.0 k d).page ((t.1.owned (get_or t.0 k d).page).1 (k, get_or t.0 k d, lt, get_or_default t.0 k (get_or t.0 k d) d lt, refl)) in (
      t.0,
      record {
        walk = record { walks = walks-same shape.kids at other (start ∷ []) t.0 [] here t.1.walk.walks; once = t.1.walk.once };
        owned = t.1.owned;
        gathers = subst (λ cs. Gathers cols cs all) (cells-same at other t.0 here) t.1.gathers;
      },
      subst (λ l. shape.keeps cols start (look l) ≡ true) (shown-same at other t.0 here) t.2,
    )

-- its rows are one map
pub table_one : (shape : Shape) (cols : List Column) (at : SlotsAt) (owns also : PageId → Bool) (start : Visit) (all other : Rows) → HasRows shape cols at owns start all → HasRows shape cols at also start other → all ≡ other
table_one shape cols at owns also start all other t u =
    let same : t.0 ≡ u.0 = walks-one shape.kids at (start ∷ []) t.0 u.0 t.1.walk.walks u.1.walk.walks in
    gathers_one cols (cells at u.0) all other (subst (λ vs. Gathers cols (cells at vs) all) same t.1.gathers) u.1.gathers

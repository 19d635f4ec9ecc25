-- A heap after its leaves got other slots, and leaves and root pages were added at its end.
use Rattle.std.proofs.Common.{refl, ◌≡◌, ◌≢◌, ℕ, ◌+◌, ◌<◌, ◌≤◌, List, [], ◌∷◌, ◌++◌, length, map, take, drop, ap, sym, ◌∙◌, subst, arith, Bool, true, append_assoc, length-take, inl, inr}
use Rattle.std.specs.Prelude.{◌↔◌}
use Rattle.std.specs.List.{All}
use Rattle.std.proofs.lemmas.Bool.{cases_lt}
use Rattle.page_base.specs.declared.column.Column.{Column}
use Rattle.page_base.specs.declared.numbers.PageId.{PageId}
use Rattle.page_fmt.specs.Seen.{SlotsAt}
use Rattle.plain_model.specs.Tables.{Rows}
use Rattle.row_fmt.specs.Rows.{row_bytes}
use Rattle.table_walk.specs.declared.plan.Spot.TheVariants.{Old}
use Rattle.table_walk.specs.declared.visit.Visit.{Visit}
use Rattle.table_walk.specs.Addresses.{names_none}
use Rattle.table_walk.specs.Plans.{place, also, AreFree}
use Rattle.table_walk.specs.Tables.{cells, Gathers, MayPut}
use Rattle.table_walk.specs.Walk.{Reaches, IsWalk}
use Rattle.table_heap.specs.Growth.{count_of, IsNumbering, root_made, IsChain, leaf_claims, root_claims}
use Rattle.table_heap.specs.declared.growing.RootPage.{RootPage}
use Rattle.table_heap.specs.Heap.{heap_kids, first, RowsAt}
use Rattle.table_heap.specs.Leaves.{Leaf, slots_of, all_rows, ByKeys}
use Rattle.table_heap.specs.Planning.{HasLeaves}
use Rattle.table_heap.specs.Shape.{IsRootPage, Chain, visits_of, times, leaves_in, roots_in, IsHeapOf}
use Rattle.table_heap.proofs.GrowChain.{named_before, chain_made, chain_grows}
use Rattle.table_heap.proofs.GrowLemmas.{count_append, IsGrown, grown_heap}
use Rattle.table_heap.proofs.GrowRows.{all_cells, leaf_slots-map, cells-leaves, cells_made, gathers_rows}
use Rattle.table_heap.proofs.ShapeLemmas.{IsWalkOf, heap_of, walk_of, leaves_in-visits, roots_in-visits, times_append, one_here, Name-length}

-- what a plan makes of a heap: root pages that name more leaves, and other slots on the leaves
pub record Grows (cols : List Column) (at other : SlotsAt) (claimed : ℕ → PageId) (n : ℕ) (done : List Visit) (made : List Leaf) (rows : Rows) : Type 0 where
  pub front : List PageId
  pub last : PageId
  pub head : RootPage
  pub more : List RootPage
  pub roots : roots_in done ≡ front ++ last ∷ []
  pub begins : head.spot ≡ Old last
  pub counted : head.slots ≡ length (at last)
  pub chain : IsChain (head ∷ more)
  pub numbered : IsNumbering n (leaf_claims (head ∷ more) ++ root_claims (head ∷ more))
  pub changed : All (λ q. other (place claimed q.spot) ≡ root_made claimed (at (place claimed q.spot)) q) (head ∷ more)
  pub kept : (p : PageId) → 1 ≤ times p (roots_in done) → p ≢ last → at p ≡ other p
  pub leaves : map other (leaves_in done ++ map claimed (leaf_claims (head ∷ more))) ≡ map slots_of made
  pub may : All (MayPut cols) (all_rows made)
  pub keys : ByKeys cols (all_rows made) rows

-- the heap afterwards
pub record IsAfter (cols : List Column) (other : SlotsAt) (owns : PageId → Bool) (root : PageId) (before : List Visit) (claimed : ℕ → PageId) (leaves roots : List ℕ) (rows : Rows) (made : List Leaf) : Type 0 where
  pub table : RowsAt cols other owns root rows
  pub has : HasLeaves cols other root made
  pub done : List Visit
  pub walk : IsWalk heap_kids other (first root) done []
  pub leaves_are : leaves_in done ≡ leaves_in before ++ map claimed leaves
  pub roots_are : roots_in done ≡ roots_in before ++ map claimed roots

pub root_length : (s : List (List ℕ)) (ls rs : List PageId) → IsRootPage s ls rs → length s ≡ 1 + length ls
root_length [] ls rs p = absurd p
root_length (x ∷ xs) ls rs p = omega (arith, Name-length xs ls p.1)

-- the rows are these, and the leaves
pub grown : (cols : List Column) (at other : SlotsAt) (owns : PageId → Bool) (root : PageId) (old rows : Rows) (claimed : ℕ → PageId) (n : ℕ) (made : List Leaf) (t : RowsAt cols at owns root old) → AreFree claimed n at owns → (g : Grows cols at other claimed n t.0 made rows)
    → IsAfter cols other (also owns claimed n) root t.0 claimed (leaf_claims (g.head ∷ g.more)) (root_claims (g.head ∷ g.more)) rows made
grown cols at other owns root old rows claimed n made t free g =
    let w : IsWalkOf at root t.0 = heap_of at root t.0 t.1.walk in
    let is_roots : roots_in t.0 ≡ w.roots = ap roots_in w.is ∙ roots_in-visits root w.roots w.leaves in
    let is_leaves : leaves_in t.0 ≡ w.leaves = ap leaves_in w.is ∙ leaves_in-visits at root w.roots w.leaves w.heap.chain in
    whole w.roots w.leaves w.heap w.is is_roots is_leaves
  where
    below : (i : ℕ) → 1 ≤ count_of i (leaf_claims (g.head ∷ g.more)) + count_of i (root_claims (g.head ∷ g.more)) → i < n
    below i h = elim (cases_lt i n) [
      | inl lt ↦ lt
      | inr ge ↦ absurd (omega (arith, g.numbered.below i ge, count_append i (leaf_claims (g.head ∷ g.more)) (root_claims (g.head ∷ g.more))))
    ]

    is_last : place claimed g.head.spot ≡ g.last
    is_last = ap (place claimed) g.begins

    last_grows : (olds : List PageId) → IsRootPage (at g.last) olds [] → Chain other (g.last ∷ map claimed (root_claims (g.head ∷ g.more))) (olds ++ map claimed (leaf_claims (g.head ∷ g.more)))
    last_grows olds p =
        let here : IsRootPage (at (place claimed g.head.spot)) olds [] = subst (λ q. IsRootPage (at q) olds []) (sym is_last) p in
        subst (λ q. Chain other (q ∷ map claimed (root_claims (g.head ∷ g.more))) (olds ++ map claimed (leaf_claims (g.head ∷ g.more)))) is_last
        (chain_made claimed at other g.head g.more olds (named_before (at (place claimed g.head.spot)) olds here) (omega (arith, g.counted, root_length (at g.last) olds [] p)) g.chain
        (λ i h. free.targets i (below i (omega arith))) (λ i h. free.targets i (below i (omega arith))) (λ i h. free.blank i (below i (omega arith))) g.changed)

    whole : (roots leaves : List PageId) → IsHeapOf at root roots leaves → t.0 ≡ visits_of root roots leaves → roots_in t.0 ≡ roots → leaves_in t.0 ≡ leaves
        → IsAfter cols other (also owns claimed n) root t.0 claimed (leaf_claims (g.head ∷ g.more)) (root_claims (g.head ∷ g.more)) rows made
    whole roots leaves h is is_roots is_leaves =
        let rs : List PageId = map claimed (root_claims (g.head ∷ g.more)) in
        let ls : List PageId = map claimed (leaf_claims (g.head ∷ g.more)) in
        let split : roots ≡ g.front ++ g.last ∷ [] = sym is_roots ∙ g.roots in
        let kept : (p : PageId) → 1 ≤ times p g.front → at p ≡ other p =
        λ p some.
        let parts : times p roots ≡ times p g.front + times p (g.last ∷ []) = ap (times p) split ∙ times_append p g.front (g.last ∷ []) in
        g.kept p (subst (λ qs. 1 ≤ times p qs) (sym is_roots) (omega arith)) (λ e. absurd (omega (arith, parts, h.differ p, one_here g.last p 0 (sym e)))) in
        let longer : Chain other (roots ++ rs) (leaves ++ ls) =
        subst (λ qs. Chain other qs (leaves ++ ls)) (sym (ap (λ qs. qs ++ rs) split ∙ append_assoc g.front (g.last ∷ []) rs))
        (chain_grows at other g.front g.last rs leaves ls (subst (λ qs. Chain at qs leaves) split h.chain) kept last_grows) in
        let grows : IsGrown at other owns root claimed n (roots ++ rs) (leaves ++ ls) =
        grown_heap at other owns root claimed n roots leaves (root_claims (g.head ∷ g.more)) (leaf_claims (g.head ∷ g.more)) h (λ p. subst (λ vs. (owns p ≡ true) ↔ Reaches vs p) is (t.1.owned p)) free g.numbered longer in
        let done : List Visit = visits_of root (roots ++ rs) (leaves ++ ls) in
        let slots : map other (leaves_in done) ≡ map slots_of made = ap (map other) (leaves_in-visits other root (roots ++ rs) (leaves ++ ls) longer ∙ ap (λ ps. ps ++ ls) (sym is_leaves)) ∙ g.leaves in
        let walk : IsWalk heap_kids other (first root) done [] = walk_of other root (roots ++ rs) (leaves ++ ls) grows.heap in
        let gathered : cells other done ≡ map row_bytes (all_rows made) = cells-leaves other done ∙ ap all_cells slots ∙ cells_made cols made g.may in
        record {
          table = (done, record { walk = walk; owned = grows.owned; gathers = subst (λ xs. Gathers cols xs rows) (sym gathered) (gathers_rows cols (all_rows made) rows g.may g.keys) }, refl);
          has = record { done = done; walk = walk; slots = leaf_slots-map other done ∙ slots; rows = g.may };
          done = done;
          walk = walk;
          leaves_are = leaves_in-visits other root (roots ++ rs) (leaves ++ ls) longer ∙ ap (λ ps. ps ++ ls) (sym is_leaves);
          roots_are = roots_in-visits root (roots ++ rs) (leaves ++ ls) ∙ ap (λ ps. ps ++ rs) (sym is_roots);
        }

-- THE LAST ROOT PAGE

-- the last root page of a walk: it names no other
pub record LastRoot (at : SlotsAt) (done : List Visit) : Type 0 where
  pub front : List PageId
  pub last : PageId
  pub head : List ℕ
  pub rest : List (List ℕ)
  pub roots : roots_in done ≡ front ++ last ∷ []
  pub slots : at last ≡ head ∷ rest
  pub none : names_none head ≡ true
  pub short : length (at last) ≤ 1001

-- the last of some pages
record Split (r : PageId) (rs : List PageId) : Type 0 where
  front : List PageId
  last : PageId
  is : r ∷ rs ≡ front ++ last ∷ []

split_last : (r : PageId) (rs : List PageId) → Split r rs
split_last r [] = record { front = []; last = r; is = refl }
split_last r (q ∷ qs) = let s : Split q qs = split_last q qs in record { front = r ∷ s.front; last = s.last; is = ap (λ ps. r ∷ ps) s.is }

pub last_page : (at : SlotsAt) (front : List PageId) (last : PageId) (leaves : List PageId) → Chain at (front ++ last ∷ []) leaves → (ls : List PageId) × IsRootPage (at last) (take 1000 ls) []
last_page at [] last leaves c = (leaves, c.0)
last_page at (f ∷ fs) last leaves c = last_page at fs last (drop 1000 leaves) c.1

pub last_root : (at : SlotsAt) (root : PageId) (done : List Visit) → IsWalk heap_kids at (first root) done [] → LastRoot at done
last_root at root done walk =
    let w : IsWalkOf at root done = heap_of at root done walk in
    let s : Split root w.heap.more = split_last root w.heap.more in
    let roots : w.roots ≡ s.front ++ s.last ∷ [] = w.heap.begins ∙ s.is in
    let p = last_page at s.front s.last w.leaves (subst (λ rs. Chain at rs w.leaves) roots w.heap.chain) in
    page s.front s.last (ap roots_in w.is ∙ roots_in-visits root w.roots w.leaves ∙ roots) p.0 (at s.last) refl p.1
  where
    page : (front : List PageId) (last : PageId) → roots_in done ≡ front ++ last ∷ [] → (ls : List PageId) (s : List (List ℕ)) → at last ≡ s → IsRootPage s (take 1000 ls) [] → LastRoot at done
    page front last e ls [] is p = absurd p
    page front last e ls (x ∷ xs) is p =
        record { front = front; last = last; head = x; rest = xs; roots = e; slots = is; none = p.0; short = omega (arith, ap length is, Name-length xs (take 1000 ls) p.1, length-take 1000 ls) }

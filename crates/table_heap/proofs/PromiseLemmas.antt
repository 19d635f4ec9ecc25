-- What was planned is what a plan promises.
use Rattle.std.proofs.Common.{refl, ◌≡◌, ℕ, ◌+◌, ◌*◌, ◌<◌, ◌≤◌, List, [], ◌∷◌, ◌++◌, length, map, drop, get_or, ap, sym, ◌∙◌, subst, arith, Bool, true, false, cond, inl, inr}
use Rattle.std.specs.Prelude.{◌↔◌}
use Rattle.std.specs.List.{All, AllPairs}
use Rattle.std.proofs.lemmas.Bool.{cases_lt}
use Rattle.std.proofs.lemmas.List.Elements.{All-head, All-tail}
use Rattle.page_base.specs.declared.column.Column.{Column}
use Rattle.page_base.specs.declared.numbers.PageId.{PageId}
use Rattle.page_base.specs.declared.value.Value.{Value}
use Rattle.page_fmt.specs.Seen.{SlotsAt, Looked, Shows, Saw, look, place_of}
use Rattle.plain_model.specs.Tables.{Rows}
use Rattle.table_walk.specs.declared.plan.Edit.{Edit}
use Rattle.table_walk.specs.declared.plan.Spot.TheVariants.{Old}
use Rattle.table_walk.specs.declared.visit.Visit.{Visit}
use Rattle.table_walk.specs.Plans.{after, Go, also, AreFree, AreWithin, IsOtherSlot, IsOnLeaf, place, cut_all, put_all}
use Rattle.table_walk.specs.Tables.{is_leaf, MayPut}
use Rattle.table_walk.specs.Walk.{Reaches, IsWalk, IsSeenWalk}
use Rattle.table_walk.proofs.WalkLemmas.{is_all, walks-one}
use Rattle.table_heap.specs.declared.growing.Growth.{Growth}
use Rattle.table_heap.specs.declared.growing.RootPage.{RootPage}
use Rattle.table_heap.specs.Emission.{read_pages, read_slots, leaf_spots, MakesAll, last_or, IsPlanned}
use Rattle.table_heap.specs.Growth.{IsNumbering, IsChain, leaf_claims, root_claims, AreFollowed, pages_in, Begins}
use Rattle.table_heap.specs.Heap.{heap_kids, first, RowsAt}
use Rattle.table_heap.specs.Leaves.{Leaf, slots_of, cut_keys, put_rows}
use Rattle.table_heap.specs.Places.{Index, AreRows, AreApart, IsDraft}
use Rattle.table_heap.specs.Planning.{HasLeaves, AreBehind, AreClaimed, Promises}
use Rattle.table_heap.specs.Shape.{Chain, visits_of, times, leaves_in, roots_in}
use Rattle.table_heap.proofs.ApartLemmas.{rows_are, apart_of}
use Rattle.table_heap.proofs.EmissionLemmas.{map_length}
use Rattle.table_heap.proofs.EmittedLemmas.{Emitted, emitted, spot_there}
use Rattle.table_heap.proofs.GrowChain.{behind_made, behind_grows}
use Rattle.table_heap.proofs.GrowRows.{LeavesOf, leaves_of, has_leaves_one}
use Rattle.table_heap.proofs.GrowTable.{Grows, grown, LastRoot, last_root, root_length}
use Rattle.table_heap.proofs.RowEdits.{pages_among, among_leaves}
use Rattle.table_heap.proofs.LeafLemmas.{planned_rows}
use Rattle.table_heap.proofs.NumberLemmas.{numbers_below}
use Rattle.table_heap.proofs.PlanningLemmas.{look_none, last_or_end, Counted, last_counted, pages_read, slots_are_read}
use Rattle.table_heap.proofs.PutLemmas.{planned_all, planned_length}
use Rattle.table_heap.proofs.ShapeLemmas.{IsWalkOf, heap_of, leaves_in-visits, roots_in-visits}

-- the first of the root pages that change
record FirstRoot (g : Growth) : Type 0 where
  head : RootPage
  more : List RootPage
  is : pages_in g ≡ head ∷ more

first_root : (g : Growth) → FirstRoot g
first_root g = by g.full refl
  where
    by : (full : List RootPage) → g.full ≡ full → FirstRoot g
    by [] e = record { head = g.last; more = []; is = ap (λ rs. rs ++ g.last ∷ []) e }
    by (r ∷ rs) e = record { head = r; more = rs ++ g.last ∷ []; is = ap (λ qs. qs ++ g.last ∷ []) e }

-- what was read of leaves is what stands there
shown_slots : (seen : List Looked) (at : SlotsAt) (vs : List Visit) → Shows seen at → All (λ v. Saw seen v.page) vs → map (look seen) (leaves_in vs) ≡ map at (leaves_in vs)
shown_slots seen at [] shows a = refl
shown_slots seen at (v ∷ vs) shows a =
    let rest : map (look seen) (leaves_in vs) ≡ map at (leaves_in vs) = shown_slots seen at vs shows (All-tail (λ (w : Visit). Saw seen w.page) v vs a) in
    let here : look seen v.page ≡ at v.page = shows v.page (All-head (λ (w : Visit). Saw seen w.page) v vs a) in
    let by : (b : Bool) → map (look seen) (cond b (v.page ∷ leaves_in vs) (leaves_in vs)) ≡ map at (cond b (v.page ∷ leaves_in vs) (leaves_in vs)) =
    elim [
      | true ↦ λ i. here i ∷ rest i
      | false ↦ rest
    ] in
    by (is_leaf v)

-- a page with slots was read
saw_some : (seen : List Looked) (p : PageId) → 0 < length (look seen p) → Saw seen p
saw_some seen p some = elim (cases_lt (place_of seen p) (length seen)) [
  | inl lt ↦ lt
  | inr ge ↦ absurd (omega (arith, ap length (look_none seen p ge)))
]

-- the edits, and the heap after them
record Done (cols : List Column) (at : SlotsAt) (owns : PageId → Bool) (root : PageId) (claimed : ℕ → PageId) (n : ℕ) (edits : List Edit) (rows : Rows) (made : List Leaf) (before : List Visit) : Type 0 where
  go : Go claimed at edits
  within : AreWithin claimed n owns edits
  table : RowsAt cols (after claimed at edits) (also owns claimed n) root rows
  leaves : HasLeaves cols (after claimed at edits) root made
  later : List Visit
  walk : IsWalk heap_kids (after claimed at edits) (first root) later []
  claims : AreClaimed claimed n before later
  once : AllPairs (IsOtherSlot claimed) edits
  on : All (IsOnLeaf claimed later) edits

module _ (cols : List Column) (seen : List Looked) (root : PageId) (cut put : List (List Value)) (done : List Visit) (places : List ℕ) (news : List (List (List ℕ))) (index : Index) (n : ℕ) (edits : List Edit) (w : IsSeenWalk heap_kids seen (first root) done [])
    (read : places ≡ map (place_of seen) (leaves_in done))
    (draft : (d : Looked) (leaves : List Leaf) → read_slots seen d places ≡ map slots_of leaves → AreRows cols leaves → AreApart cols leaves → IsDraft cols (put_rows cols put (cut_keys cols cut leaves)) news index)
    (may_put : All (MayPut cols) put) (p : IsPlanned seen root done places news n edits) where
  abbrev some : Looked
  some = record { page = root; slots = [] }

  abbrev made_of : List Leaf → List Leaf
  made_of leaves = put_rows cols put (cut_keys cols cut leaves)

  module _ (at : SlotsAt) (owns : PageId → Bool) (rows : Rows) (claimed : ℕ → PageId) (t : RowsAt cols at owns root rows) (shows : Shows seen at) (free : AreFree claimed n at owns) where
    same : done ≡ t.0
    same = is_all heap_kids seen at (first root) done t.0 shows w t.1.walk

    old : LeavesOf cols at root t.0 rows
    old = leaves_of cols at owns root rows t

    slots_read : read_slots seen some places ≡ map at (leaves_in t.0)
    slots_read = ap (read_slots seen some) read ∙ slots_are_read seen some done w.were ∙ shown_slots seen at done shows w.were ∙ ap (λ vs. map at (leaves_in vs)) same

    is_draft : IsDraft cols (made_of old.leaves) news index
    is_draft = draft some old.leaves (slots_read ∙ old.slots) (rows_are cols old.leaves old.may) (apart_of cols old.leaves rows old.keys)

    pages_are : read_pages seen some places ≡ leaves_in t.0
    pages_are = ap (read_pages seen some) read ∙ pages_read seen some done w.were ∙ ap leaves_in same

    enough : length (leaves_in t.0) ≤ length news
    enough = omega (arith, map_length at (leaves_in t.0), ap length old.slots, map_length slots_of old.leaves, planned_length cols cut put old.leaves, ap length is_draft.are, map_length slots_of (made_of old.leaves))

    places_many : length places ≡ length (leaves_in t.0)
    places_many = ap length read ∙ map_length (place_of seen) (leaves_in done) ∙ ap (λ vs. length (leaves_in vs)) same

    result : (f : FirstRoot p.growth) (l : LastRoot at t.0) (x : IsWalkOf at root t.0) → Done cols at owns root claimed n edits (put_all cols put (cut_all cut rows)) (made_of old.leaves) t.0
    result f l x =
        let g : Growth = p.growth in
        let roots_are : roots_in t.0 ≡ x.roots = ap roots_in x.is ∙ roots_in-visits root x.roots x.leaves in
        let leaves_are : leaves_in t.0 ≡ x.leaves = ap leaves_in x.is ∙ leaves_in-visits at root x.roots x.leaves x.heap.chain in
        let is_last : last_or root (roots_in done) ≡ l.last = ap (λ vs. last_or root (roots_in vs)) same ∙ ap (last_or root) l.roots ∙ last_or_end root l.last l.front in
        let count : Counted seen l.last = subst (Counted seen) is_last (last_counted seen root done w) in
        let begins : Begins (Old (last_or root (roots_in done))) (length (look seen (last_or root (roots_in done)))) (f.head ∷ f.more) =
        subst (Begins (Old (last_or root (roots_in done))) (length (look seen (last_or root (roots_in done))))) f.is p.grows.begins in
        let spot : f.head.spot ≡ Old l.last = begins.0 ∙ ap Old is_last in
        let counted : f.head.slots ≡ length (at l.last) = begins.1 ∙ ap (λ q. length (look seen q)) is_last ∙ ap length (shows l.last (saw_some seen l.last count.some)) in
        let chain : IsChain (f.head ∷ f.more) = subst IsChain f.is p.grows.chain in
        let claims : leaf_claims (f.head ∷ f.more) ≡ p.growth.leaves = ap leaf_claims (sym f.is) ∙ p.grows.leaves in
        let numbered : IsNumbering n (p.growth.leaves ++ root_claims (f.head ∷ f.more)) = subst (λ k. IsNumbering k (p.growth.leaves ++ root_claims (f.head ∷ f.more))) p.claims (subst (λ rs. IsNumbering p.growth.claims (p.growth.leaves ++ root_claims rs)) f.is p.grows.numbered) in
        let many : length news ≡ length x.leaves + length p.growth.leaves = omega (arith, p.grows.many, places_many, enough, ap length leaves_are) in
        let ordered : IsNumbering (length news + length (f.head ∷ f.more)) p.order = subst (λ rs. IsNumbering (length news + length rs) p.order) f.is p.numbered in
        let makes : MakesAll (leaf_spots x.leaves p.growth.leaves) (map at x.leaves) news (f.head ∷ f.more) p.order edits =
        subst (λ rs. MakesAll (leaf_spots x.leaves p.growth.leaves) (map at x.leaves) news rs p.order edits) f.is
        (subst (λ os. MakesAll (leaf_spots x.leaves p.growth.leaves) os news (pages_in p.growth) p.order edits) (slots_read ∙ ap (map at) leaves_are)
        (subst (λ ps. MakesAll (leaf_spots ps p.growth.leaves) (read_slots seen some places) news (pages_in p.growth) p.order edits) (pages_are ∙ leaves_are) (p.makes some))) in
        let owned : (q : PageId) → (owns q ≡ true) ↔ Reaches (visits_of root x.roots x.leaves) q = λ q. subst (λ vs. (owns q ≡ true) ↔ Reaches vs q) x.is (t.1.owned q) in
        let e : Emitted at owns claimed n x.roots x.leaves l.last (f.head ∷ f.more) p.growth.leaves news edits =
        emitted at owns root claimed n x.roots x.leaves l.front l.last f.head f.more p.growth.leaves news p.order edits x.heap owned free (sym roots_are ∙ l.roots) spot counted chain numbered many ordered makes in
        let grows : Grows cols at (after claimed at edits) claimed n t.0 (made_of old.leaves) (put_all cols put (cut_all cut rows)) =
        record {
          front = l.front;
          last = l.last;
          head = f.head;
          more = f.more;
          roots = l.roots;
          begins = spot;
          counted = counted;
          chain = chain;
          numbered = subst (λ is. IsNumbering n (is ++ root_claims (f.head ∷ f.more))) (sym claims) numbered;
          changed = e.changed;
          kept = λ q there. e.kept q (subst (λ qs. 1 ≤ times q qs) roots_are there);
          leaves = (λ i. map (after claimed at edits) (leaves_are i ++ map claimed (claims i))) ∙ e.slots ∙ is_draft.are;
          may = planned_all (MayPut cols) cols cut put old.leaves old.may may_put;
          keys = planned_rows cols cut put old.leaves rows old.keys;
        } in
        let all = grown cols at (after claimed at edits) owns root rows (put_all cols put (cut_all cut rows)) claimed n (made_of old.leaves) t free grows in
        let leaves_later : leaves_in all.done ≡ x.leaves ++ map claimed p.growth.leaves = all.leaves_are ∙ (λ i. leaves_are i ++ map claimed (claims i)) in
        let there : (k : ℕ) → k < length news → 1 ≤ times (place claimed (get_or (leaf_spots x.leaves p.growth.leaves) k (Old root))) (leaves_in all.done) =
        λ k lt. subst (λ ps. 1 ≤ times (place claimed (get_or (leaf_spots x.leaves p.growth.leaves) k (Old root))) ps) (sym leaves_later) (spot_there claimed x.leaves p.growth.leaves k (Old root) (omega (arith, many))) in
        let new_roots : List ℕ = root_claims (f.head ∷ f.more) in
        let new_leaves : List PageId = map claimed (leaf_claims (f.head ∷ f.more)) in
        let followed : AreFollowed (f.head ∷ f.more) [] = subst (λ rs. AreFollowed rs []) f.is p.grows.follow in
        let behind : AreBehind claimed (drop (1000 * length (l.front ++ l.last ∷ [])) (x.leaves ++ new_leaves)) new_roots =
        behind_grows claimed at l.front l.last new_roots x.leaves new_leaves (subst (λ rs. Chain at rs x.leaves) (sym roots_are ∙ l.roots) x.heap.chain)
        (λ olds page. behind_made claimed f.head f.more olds (omega (arith, counted, root_length (at l.last) olds [] page)) chain followed) in
        record {
          go = e.go;
          within = e.within;
          table = all.table;
          leaves = all.has;
          later = all.done;
          walk = all.walk;
          once = e.once;
          on = among_leaves claimed (leaves_in all.done) all.done edits refl (pages_among claimed (leaves_in all.done) (leaf_spots x.leaves p.growth.leaves) (map at x.leaves) news (f.head ∷ f.more) (Old root) f.head there p.order edits makes);
          claims = record {
            leaves = p.growth.leaves;
            roots = root_claims (f.head ∷ f.more);
            leaves_are = all.leaves_are ∙ ap (λ is. leaves_in t.0 ++ map claimed is) claims;
            roots_are = all.roots_are;
            ascend = p.grows.ascend;
            follow = subst (λ rs. AreBehind claimed (drop (1000 * length rs) (leaves_in all.done)) new_roots) (sym l.roots)
                (subst (λ ls. AreBehind claimed (drop (1000 * length (l.front ++ l.last ∷ [])) ls) new_roots) (sym (all.leaves_are ∙ ap (λ ls. ls ++ new_leaves) leaves_are)) behind);
            numbered = numbered;
          };
        }

    all_done : Done cols at owns root claimed n edits (put_all cols put (cut_all cut rows)) (made_of old.leaves) t.0
    all_done = result (first_root p.growth) (last_root at root t.0 t.1.walk) (heap_of at root t.0 t.1.walk)

  pub promised : Promises cols seen root cut put n edits
  promised = record {
    carries = λ at owns rows claimed t shows free.
        let d = all_done at owns rows claimed t shows free in
        record { go = d.go; within = d.within; table = d.table };
    places = λ at owns rows claimed leaves t shows free has.
        let d = all_done at owns rows claimed t shows free in
        let one : (old at owns rows claimed t shows free).leaves ≡ leaves = has_leaves_one cols at root (old at owns rows claimed t shows free).leaves leaves (old at owns rows claimed t shows free).has has in
        subst (λ ls. HasLeaves cols (after claimed at edits) root (put_rows cols put (cut_keys cols cut ls))) one d.leaves;
    claims = λ at owns rows claimed before later t shows free walk walk_later.
        let d = all_done at owns rows claimed t shows free in
        let was : t.0 ≡ before = walks-one heap_kids at (first root ∷ []) t.0 before t.1.walk.walks walk.walks in
        let is : d.later ≡ later = walks-one heap_kids (after claimed at edits) (first root ∷ []) d.later later d.walk.walks walk_later.walks in
        subst (λ vs. AreClaimed claimed n before vs) is (subst (λ vs. AreClaimed claimed n vs d.later) was d.claims);
    once = λ at owns rows claimed t shows free. (all_done at owns rows claimed t shows free).once;
    rows = λ at owns rows claimed later t shows free walk_later.
        let d = all_done at owns rows claimed t shows free in
        let is : d.later ≡ later = walks-one heap_kids (after claimed at edits) (first root ∷ []) d.later later d.walk.walks walk_later.walks in
        subst (λ vs. All (IsOnLeaf claimed vs) edits) is d.on;
    numbers = numbers_below seen root done places news n edits p;
  }

-- What was read of a tree, key by key: the page that comes next is the tree's, no slot is damaged, and the rows are there.
use Rattle.std.proofs.Common.{◌≡◌, ◌≢◌, ◌<◌, ℕ, Bool, true, List, [], ◌∷◌, ◌++◌, length, get_or, refl, ap, sym, ◌∙◌, subst, arith, Result, Ok, Err, Some, ◌⊎◌, inl, inr, length-append}
use Rattle.std.specs.List.{AllPairs, Any}
use Rattle.std.proofs.lemmas.List.{get_or_default, get_or_append_left}
use Rattle.page_base.specs.declared.column.Column.{Column}
use Rattle.page_base.specs.declared.numbers.PageId.{PageId}
use Rattle.page_fmt.specs.Seen.{SlotsAt, Looked, Shows, Saw, look}
use Rattle.plain_model.specs.Tables.{Rows}
use Rattle.table_walk.specs.declared.visit.Visit.{Visit}
use Rattle.table_walk.specs.declared.refusal.SeenRefusal.{SeenRefusal}
use Rattle.table_walk.specs.declared.refusal.SeenRefusal.TheVariants.{Damaged, Memory}
use Rattle.table_walk.specs.Answers.{IsAt, IsMemory}
use Rattle.table_walk.specs.Tables.{AreRows, IsSomeRow, IsNoRowOf, IsBadRow, is_leaf, cells}
use Rattle.table_walk.specs.Walk.{IsWalk, IsSeenWalk, Lacks, IsBad, Reaches}
use Rattle.table_walk.proofs.GatherLemmas.{gathered_are}
use Rattle.table_walk.proofs.TableLemmas.{cells-same, leaf_row}
use Rattle.table_walk.proofs.WalkLemmas.{walks-same}
use Rattle.tree_laws.specs.Keys.{Key}
use Rattle.tree_laws.specs.Kids.{tree_kids, first}
use Rattle.tree_laws.specs.Order.{RowsAt}
use Rattle.tree_laws.proofs.FindLemmas.{HasRowOf, row_on_path}
use Rattle.tree_laws.proofs.WithinLemmas.{AreAmong, within, names, stays, stays_once, among-there}

mid : (done more : List Visit) (v d : Visit) → get_or (done ++ v ∷ more) (length done) d ≡ v
mid [] more v d = refl
mid (x ∷ done) more v d = mid done more v d

module _ (cols : List Column) (at : SlotsAt) (owns : PageId → Bool) (root : PageId) (rows : Rows) (seen : List Looked) (t : RowsAt cols at owns root rows) (shows : Shows seen at) (key : Key) where
  pub shown_walk : (done rest : List Visit) → IsSeenWalk (tree_kids cols (Some key)) seen (first root) done rest → IsWalk (tree_kids cols (Some key)) at (first root) done rest
  shown_walk done rest w = record {
    walks = walks-same (tree_kids cols (Some key)) (look seen) at (first root ∷ []) done rest (λ k d lt. shows (get_or done k d).page (w.were k d lt)) w.walk.walks;
    once = w.walk.once;
  }

  long : (done rest : List Visit) (v : Visit) → length done < length (done ++ v ∷ rest)
  long done rest v = omega (arith, length-append done (v ∷ rest))

  pub next_owned : (v : Visit) → Lacks (tree_kids cols (Some key)) seen (first root) v → owns v.page ≡ true
  next_owned v lacks =
      let done : List Visit = lacks.0 in
      let rest : List Visit = lacks.1 in
      subst (λ (w : Visit). owns w.page ≡ true) (mid lacks.0 lacks.1 v v)
      (stays cols at owns root rows key lacks.0 (v ∷ lacks.1) t (shown_walk lacks.0 (v ∷ lacks.1) lacks.2) (length lacks.0) v (long lacks.0 lacks.1 v))

  pub path_not_bad : (page : PageId) (slot : ℕ) → ¬ IsBad (tree_kids cols (Some key)) seen (first root) page slot
  path_not_bad page slot bad = by bad.0 bad.1 bad.2 (shown_walk bad.0 (bad.2 ∷ bad.1) bad.3) bad.4 bad.5
    where
      no_Err : {A E : Type 0} (x : A) (e : E) → ◌≡◌ {A = Result A E} (Ok x) (Err e) → ⊥
      no_Err x e h = cc

      by : (done rest : List Visit) (v : Visit) → IsWalk (tree_kids cols (Some key)) at (first root) done (v ∷ rest) → Saw seen v.page
          → ((v.page ≡ page) × (tree_kids cols (Some key) v (look seen v.page) ≡ Err slot)) ⊎ ((v.from ≡ page) × (v.slot ≡ slot) × Reaches done v.page) → ⊥
      by done rest v w saw (inl wrong) =
          let among : AreAmong (done ++ v ∷ rest) t.0 = within cols at key (first root) [] t.0 done (v ∷ rest) t.1.walk.walks w.walks in
          let there : Any (λ (w : Visit). w ≡ v) t.0 = subst (λ (x : Visit). Any (λ (w : Visit). w ≡ x) t.0) (mid done rest v v) (among-there (done ++ v ∷ rest) t.0 among (length done) v (long done rest v)) in
          let step = names cols at key (first root ∷ []) t.0 v t.1.walk.walks there in
          no_Err step.1.next slot (sym step.1.are ∙ ap (tree_kids cols (Some key) v) (sym (shows v.page saw)) ∙ wrong.1)
      by done rest v w saw (inr twice) =
          let once : AllPairs (λ (x : Visit) (y : Visit). x.page ≢ y.page) (done ++ v ∷ rest) = stays_once cols at owns root rows key done (v ∷ rest) t w.walks in
          let k : ℕ = twice.2.0 in
          let lt : k < length done = twice.2.2 in
          let other : (get_or (done ++ v ∷ rest) twice.2.0 v).page ≢ (get_or (done ++ v ∷ rest) (length done) v).page = once twice.2.0 (length done) v twice.2.2 (long done rest v) in
          let here : get_or done twice.2.0 v ≡ twice.2.1 = get_or_default done twice.2.0 v twice.2.1 twice.2.2 ∙ twice.2.3 in
          other (ap (λ (x : Visit). x.page) (get_or_append_left done (v ∷ rest) v twice.2.0 twice.2.2 ∙ here) ∙ twice.2.4 ∙ sym (ap (λ (x : Visit). x.page) (mid done rest v v)))

  pub path_not_bad_at : (e : SeenRefusal) → IsAt (IsBad (tree_kids cols (Some key)) seen (first root)) e → IsMemory e
  path_not_bad_at (Damaged p slot) bad = absurd (path_not_bad p slot bad)
  path_not_bad_at Memory bad = tt

  -- the row of the key on the pages that were read for it
  pub path_row : (done : List Visit) → IsSeenWalk (tree_kids cols (Some key)) seen (first root) done [] → HasRowOf cols at key (cells (look seen) done) rows
  path_row done w = subst (λ (cs : List (List ℕ)). HasRowOf cols at key cs rows) (sym (cells-same (look seen) at done (λ k d lt. shows (get_or done k d).page (w.were k d lt)))) (row_on_path cols at owns root rows key done t (shown_walk done [] w).walks)

  pub path_no_bad_row : (p : PageId) (slot : ℕ) → ¬ IsBadRow (tree_kids cols (Some key)) cols seen (first root) p slot
  path_no_bad_row p slot bad =
      let done : List Visit = bad.0 in
      let r : HasRowOf cols at key (cells (look seen) bad.0) rows = path_row bad.0 bad.1 in
      let are : AreRows cols (cells (look seen) bad.0) = gathered_are cols (cells (look seen) bad.0) r.found r.gathers in
      let v : Visit = bad.2.1 in
      let lt : bad.2.0 < length bad.0 = bad.2.2 in
      let here : get_or bad.0 bad.2.0 bad.2.1 ≡ bad.2.1 = bad.2.3 in
      let wrong : IsNoRowOf cols seen p slot bad.2.1 = bad.2.4 in
      let read : look seen p ≡ look seen (get_or bad.0 bad.2.0 bad.2.1).page = ap (look seen) (sym wrong.at ∙ sym (ap (λ (x : Visit). x.page) here)) in
      wrong.no.wrong (subst (λ (xs : List (List ℕ)). IsSomeRow cols (get_or xs slot [])) (sym read)
      (leaf_row cols (look seen) bad.0 bad.2.0 bad.2.1 slot are lt (ap is_leaf here ∙ wrong.leaf) (subst (λ (xs : List (List ℕ)). slot < length xs) read wrong.no.there) (subst (λ (xs : List (List ℕ)). get_or xs slot [] ≢ []) read wrong.no.some)))

  pub path_no_bad_row_at : (e : SeenRefusal) → IsAt (IsBadRow (tree_kids cols (Some key)) cols seen (first root)) e → IsMemory e
  path_no_bad_row_at (Damaged p slot) bad = absurd (path_no_bad_row p slot bad)
  path_no_bad_row_at Memory bad = tt

-- A root page that names nothing is a heap of no rows.
use Rattle.std.proofs.Common.{Result, Ok, Err, cond, ◌≡◌, ℕ, zero, suc, ◌<◌, Bool, true, List, [], ◌∷◌, ◌++◌, get_or, refl, ap, sym, ◌∙◌, subst, arith}
use Rattle.std.specs.Prelude.{◌↔◌, IsOkAnd}
use Rattle.std.specs.FinMap as finite
use Rattle.page_base.specs.declared.column.Column.{Column}
use Rattle.page_base.specs.declared.numbers.PageId.{PageId}
use Rattle.page_fmt.specs.Seen.{SlotsAt}
use Rattle.table_walk.specs.declared.visit.Visit.{Visit}
use Rattle.table_walk.specs.Walk.{Walks, IsWalk, Reaches}
use Rattle.table_walk.proofs.AddressLemmas.{zeros_name_none}
use Rattle.table_heap.specs.Heap.{join, heap_kids, first, RowsAt}

-- the walk comes to the root page alone
one_page : (root p : PageId) (k : ℕ) (v : Visit) → k < 1 → get_or (first root ∷ []) k v ≡ v → v.page ≡ p → p ≡ root
one_page root p zero v lt is at = sym at ∙ sym (ap (λ (w : Visit). w.page) is)
one_page root p (suc k) v lt is at = absurd (omega arith)

pub new_root_rows : (cols : List Column) (at : SlotsAt) (owns : PageId → Bool) (root : PageId) → at root ≡ (0 ∷ 0 ∷ 0 ∷ 0 ∷ 0 ∷ []) ∷ [] → ((p : PageId) → (owns p ≡ true) ↔ (p ≡ root)) → RowsAt cols at owns root finite.empty
new_root_rows cols at owns root page owned =
    let walk : IsWalk heap_kids at (first root) (first root ∷ []) [] = record {
      walks = (refl, subst (λ slots. IsOkAnd (heap_kids (first root) slots) (λ next. Walks heap_kids at (next ++ []) [] [])) (sym page) none_named);
      once = λ i j d lt within. absurd (omega arith);
    } in
    let reached : (p : PageId) → (owns p ≡ true) ↔ Reaches (first root ∷ []) p = λ p. (
      λ own. (0, first root, omega arith, refl, sym ((owned p).0 own)),
      λ a. (owned p).1 (one_page root p a.0 a.1 a.2 a.3 a.4),
    ) in
    (first root ∷ [], record { walk = walk; owned = reached; gathers = refl }, refl)
  where
    -- five zeros name no next root page
    none_named : IsOkAnd (heap_kids (first root) ((0 ∷ 0 ∷ 0 ∷ 0 ∷ 0 ∷ []) ∷ [])) (λ next. Walks heap_kids at (next ++ []) [] [])
    none_named = subst (λ b. IsOkAnd (join (Ok []) (cond {A = Result (List Visit) ℕ} b (Ok []) (Err 0))) (λ next. Walks heap_kids at (next ++ []) [] [])) (sym zeros_name_none) refl

-- A root page without children is a tree of no rows.
use Rattle.std.proofs.Common.{refl, ◌≡◌, ◌↔◌, ◌<◌, ℕ, zero, suc, Bool, true, cond, List, [], ◌∷◌, ◌++◌, length, get_or, ap, sym, ◌∙◌, arith, ◌&&◌, Ok, None}
use Rattle.std.specs.FinMap as finite
use Rattle.std.specs.List.{flat_map, list_all}
use Rattle.page_base.specs.declared.column.Column.{Column}
use Rattle.page_base.specs.declared.numbers.PageId.{PageId}
use Rattle.page_fmt.specs.Seen.{SlotsAt, look}
use Rattle.page_fmt.proofs.SeenLemmas.{is_page-same}
use Rattle.byte_fields.specs.Numbers.{number_in}
use Rattle.table_walk.specs.declared.visit.Visit.{Visit}
use Rattle.table_walk.specs.Tables.{shown}
use Rattle.table_walk.specs.Walk.{Reaches}
use Rattle.table_walk.proofs.WalkLemmas.{ok_is}
use Rattle.tree_laws.specs.Kids.{level_of, tree_kids, first}
use Rattle.tree_laws.specs.Order.{ascend, children_at, headless, marks_of, inside, are_part, are_parted, in_order, RowsAt}

abbrev New : List (List ℕ)
New = (1 ∷ 0 ∷ 0 ∷ 0 ∷ []) ∷ []

new_level : level_of New ≡ 1
unfolding number_in
new_level = refl

new_kids : (cols : List Column) (root : PageId) → tree_kids cols None (first root) New ≡ Ok []
unfolding number_in
new_kids cols root = refl

new_order : (cols : List Column) (at : SlotsAt) (root : PageId) → at root ≡ New → in_order cols at root ≡ true
new_order cols at root e =
    ap (λ (n : ℕ). ascend (inside cols at n root) && are_parted cols at n None root) (ap level_of e ∙ new_level)
    ∙ ap (λ (s : List (List ℕ)). ascend (flat_map (marks_of (inside cols at 0)) (headless (children_at cols s))) && (are_part None (children_at cols s) && list_all (λ c. are_parted cols at 0 c.least c.page) (children_at cols s))) e

pub new_table : (cols : List Column) (at : SlotsAt) (owns : PageId → Bool) (root : PageId) → at root ≡ New → ((p : PageId) → (owns p ≡ true) ↔ (p ≡ root)) → RowsAt cols at owns root finite.empty
new_table cols at owns root e own = (
  first root ∷ [],
  record {
    walk = record { walks = (refl, ok_is (λ (next : List Visit). next ++ [] ≡ []) (tree_kids cols None (first root) (at root)) [] (ap (tree_kids cols None (first root)) e ∙ new_kids cols root) refl); once = λ i j d a b. absurd (omega (arith, a, b)) };
    owned = λ p. ((λ o. (0, first root, omega arith, refl, sym ((own p).0 o))), (λ r. (own p).1 (to_root p r)));
    gathers = refl;
  },
  new_order cols (look (shown at (first root ∷ []))) root (ap (λ (b : Bool). cond b (at root) []) (is_page-same root) ∙ e),
)
  where
    at_first : (k : ℕ) (d : Visit) → k < length (first root ∷ []) → get_or (first root ∷ []) k d ≡ first root
    at_first zero d lt = refl
    at_first (suc k) d lt = absurd (omega (arith, lt))

    to_root : (p : PageId) → Reaches (first root ∷ []) p → p ≡ root
    to_root p r = sym (ap (λ (v : Visit). v.page) (sym (at_first r.0 r.1 r.2) ∙ r.3) ∙ r.4)

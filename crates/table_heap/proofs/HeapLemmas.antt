-- Reading a root page.
use Rattle.std.proofs.Common.{refl, ◌≡◌, ◌≢◌, ℕ, zero, suc, ◌+◌, ◌<◌, ◌≤◌, List, [], ◌∷◌, ◌++◌, length, get_or, drop, ap, sym, ◌∙◌, arith, cond, Result, Ok, Err, Option, None, Some, append_assoc, nat_lt, eq-eqb}
use Rattle.std.proofs.lemmas.Bool.{ne_eqb, lt-ltb, le-ltb}
use Rattle.std.specs.Prelude.{option_to_list}
use Rattle.std.proofs.lemmas.List.{append-nil}
use Rattle.page_base.specs.declared.numbers.PageId.{PageId}
use Rattle.table_walk.specs.declared.visit.Visit.{Visit}
use Rattle.table_walk.specs.Addresses.{page_at}
use Rattle.table_heap.specs.Heap.{before, leaf_named, leaf_visits, put_before, join, next_visits, root_kids}

drop_more : (xs : List (List ℕ)) (j : ℕ) → j < length xs → drop j xs ≡ get_or xs j [] ∷ drop (j + 1) xs
drop_more [] j h = absurd (omega arith)
drop_more (x ∷ xs) zero h = refl
drop_more (x ∷ xs) (suc j) h =
    let e : suc (j + 1) ≡ suc j + 1 = omega arith in
    drop_more xs j (omega arith) ∙ ap (λ n. get_or xs j [] ∷ drop n (x ∷ xs)) e

drop_past : (xs : List (List ℕ)) (j : ℕ) → length xs ≤ j → drop j xs ≡ []
drop_past [] zero h = refl
drop_past [] (suc j) h = refl
drop_past (x ∷ xs) zero h = absurd (omega arith)
drop_past (x ∷ xs) (suc j) h = drop_past xs j (omega arith)

put_one : (vs : List Visit) (v : Visit) (r : Result (List Visit) ℕ) → put_before (vs ++ v ∷ []) r ≡ put_before vs (before v r)
put_one vs v (Ok ws) = ap Ok (append_assoc vs (v ∷ []) ws)
put_one vs v (Err e) = refl

-- the leaves read so far, and the slots to come
abbrev pub LeavesSoFar : PageId → List (List ℕ) → ℕ → List Visit → Type 0
LeavesSoFar from slots j vs = put_before vs (leaf_visits from j (drop j slots)) ≡ leaf_visits from 1 (drop 1 slots)

put_none : (r : Result (List Visit) ℕ) → put_before [] r ≡ r
put_none (Ok ws) = refl
put_none (Err e) = refl

pub leaves_begin : (from : PageId) (slots : List (List ℕ)) → LeavesSoFar from slots 1 []
leaves_begin from slots = put_none (leaf_visits from 1 (drop 1 slots))

here : (from : PageId) (slots : List (List ℕ)) (j : ℕ) → j < length slots → leaf_visits from j (drop j slots) ≡ leaf_named from j (page_at (get_or slots j [])) (leaf_visits from (j + 1) (drop (j + 1) slots))
here from slots j h = ap (leaf_visits from j) (drop_more slots j h)

pub leaves_more : (from : PageId) (slots : List (List ℕ)) (j : ℕ) (vs more : List Visit) (v : Visit) (p : PageId) → LeavesSoFar from slots j vs → j < length slots → page_at (get_or slots j []) ≡ Some p
    → v ≡ record { page = p; from = from; slot = j; level = Some 0 } → more ≡ vs ++ v ∷ [] → LeavesSoFar from slots (j + 1) more
leaves_more from slots j vs more v p s h e is_v is_more =
    let rest : Result (List Visit) ℕ = leaf_visits from (j + 1) (drop (j + 1) slots) in
    let w : Visit = record { page = p; from = from; slot = j; level = Some 0 } in
    ap (λ xs. put_before xs rest) (is_more ∙ ap (λ x. vs ++ x ∷ []) is_v) ∙ put_one vs w rest
    ∙ ap (λ o. put_before vs (leaf_named from j o rest)) (sym e) ∙ ap (put_before vs) (sym (here from slots j h)) ∙ s

pub leaves_bad : (from : PageId) (slots : List (List ℕ)) (j : ℕ) (vs : List Visit) → LeavesSoFar from slots j vs → j < length slots → page_at (get_or slots j []) ≡ None → leaf_visits from 1 (drop 1 slots) ≡ Err j
leaves_bad from slots j vs s h e =
    sym s ∙ ap (put_before vs) (here from slots j h) ∙ ap (λ o. put_before vs (leaf_named from j o (leaf_visits from (j + 1) (drop (j + 1) slots)))) e

pub leaves_end : (from : PageId) (slots : List (List ℕ)) (j : ℕ) (vs : List Visit) → LeavesSoFar from slots j vs → length slots ≤ j → leaf_visits from 1 (drop 1 slots) ≡ Ok vs
leaves_end from slots j vs s h = sym s ∙ ap (λ xs. put_before vs (leaf_visits from j xs)) (drop_past slots j h) ∙ ap Ok (append-nil vs)

-- THE WHOLE ROOT PAGE

pub root_empty : (from : PageId) (slots : List (List ℕ)) → length slots ≡ 0 → root_kids from slots ≡ Err 0
root_empty from slots e = ap (λ b. cond b (Err 0) (cond (nat_lt 1001 (length slots)) (Err 1001) (join (leaf_visits from 1 (drop 1 slots)) (next_visits from (length slots) (get_or slots 0 []))))) (eq-eqb (length slots) 0 e)

not_empty : (from : PageId) (slots : List (List ℕ)) → length slots ≢ 0 → root_kids from slots ≡ cond (nat_lt 1001 (length slots)) (Err 1001) (join (leaf_visits from 1 (drop 1 slots)) (next_visits from (length slots) (get_or slots 0 [])))
not_empty from slots ne = ap (λ b. cond b (Err 0) (cond (nat_lt 1001 (length slots)) (Err 1001) (join (leaf_visits from 1 (drop 1 slots)) (next_visits from (length slots) (get_or slots 0 []))))) (ne_eqb (length slots) 0 ne)

pub root_long : (from : PageId) (slots : List (List ℕ)) → 1001 < length slots → root_kids from slots ≡ Err 1001
root_long from slots h = not_empty from slots (λ e. absurd (omega arith)) ∙ ap (λ b. cond b (Err 1001) (join (leaf_visits from 1 (drop 1 slots)) (next_visits from (length slots) (get_or slots 0 [])))) (lt-ltb 1001 (length slots) h)

pub root_joined : (from : PageId) (slots : List (List ℕ)) → length slots ≢ 0 → length slots ≤ 1001 → root_kids from slots ≡ join (leaf_visits from 1 (drop 1 slots)) (next_visits from (length slots) (get_or slots 0 []))
root_joined from slots ne h = not_empty from slots ne ∙ ap (λ b. cond b (Err 1001) (join (leaf_visits from 1 (drop 1 slots)) (next_visits from (length slots) (get_or slots 0 [])))) (le-ltb 1001 (length slots) h)

pub root_ok : (from : PageId) (slots : List (List ℕ)) (count : ℕ) (x : List ℕ) (leaves kids : List Visit) (next : Option Visit) → count ≡ length slots → count ≢ 0 → count ≤ 1001 → x ≡ get_or slots 0 [] → leaf_visits from 1 (drop 1 slots) ≡ Ok leaves
    → next_visits from count x ≡ Ok (option_to_list next) → kids ≡ leaves ++ option_to_list next → root_kids from slots ≡ Ok kids
root_ok from slots count x leaves kids next e ne h is_x l n k =
    root_joined from slots (λ f. ne (e ∙ f)) (omega arith)
    ∙ (λ i. join (l i) (next_visits from (sym e i) (sym is_x i))) ∙ ap (join (Ok leaves)) n ∙ ap Ok (sym k)

pub root_bad_leaf : (from : PageId) (slots : List (List ℕ)) (count : ℕ) (slot : ℕ) → count ≡ length slots → count ≢ 0 → count ≤ 1001 → leaf_visits from 1 (drop 1 slots) ≡ Err slot → root_kids from slots ≡ Err slot
root_bad_leaf from slots count slot e ne h l = root_joined from slots (λ f. ne (e ∙ f)) (omega arith) ∙ ap (λ r. join r (next_visits from (length slots) (get_or slots 0 []))) l

pub root_bad_next : (from : PageId) (slots : List (List ℕ)) (count : ℕ) (x : List ℕ) (leaves : List Visit) (slot : ℕ) → count ≡ length slots → count ≢ 0 → count ≤ 1001 → x ≡ get_or slots 0 [] → leaf_visits from 1 (drop 1 slots) ≡ Ok leaves
    → next_visits from count x ≡ Err slot → root_kids from slots ≡ Err slot
root_bad_next from slots count x leaves slot e ne h is_x l n =
    root_joined from slots (λ f. ne (e ∙ f)) (omega arith) ∙ (λ i. join (l i) (next_visits from (sym e i) (sym is_x i))) ∙ ap (join (Ok leaves)) n

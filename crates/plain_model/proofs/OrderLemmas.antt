-- The order of a schedule tells of no session that has no script.
use Rattle.std.proofs.Common.{◌≡◌, ◌+◌, ◌-◌, ◌<◌, ◌≤◌, inl, inr, ℕ, suc, zero, Bool, true, false, ◌&&◌, nat_le, cond, List, [], ◌∷◌, ◌++◌, length, replicate, get_or, refl, ap, sym, ◌∙◌, subst, arith, length-set, All}
use Rattle.std.proofs.Math.ListN.{set}
use Rattle.std.specs.List.{AllByRecursion}
use Rattle.std.proofs.lemmas.Bool.{cases_Bool, cases_lt, leb-true}
use Rattle.std.proofs.lemmas.List.{get_or_past, length-map}
use Rattle.std.proofs.lemmas.List.Elements.{All-from_recursion}
use Rattle.plain_model.specs.declared.stmt.Stmt.{Stmt}
use Rattle.plain_model.specs.declared.pick.Pick.{Pick}
use Rattle.plain_model.specs.declared.event.Event.{Event}
use Rattle.plain_model.specs.Complete.{AreKnown}
use Rattle.plain_model.specs.Order.{in_turn, order, steps, IsInOrder}

-- a session's number, of so many
abbrev IsNumber : ℕ → ℕ → Type 0
IsNumber n k = (1 ≤ k) × (k ≤ n)

replicated : (n m k : ℕ) (ks : List ℕ) → IsNumber n k → AllByRecursion (IsNumber n) ks → AllByRecursion (IsNumber n) (replicate m k ++ ks)
replicated n zero k ks is h = h
replicated n (suc m) k ks is h = (is, replicated n m k ks is h)

turns_known : (n k : ℕ) (left : List ℕ) → 1 ≤ k → k + length left ≤ n + 1 → AllByRecursion (IsNumber n) (in_turn k left)
turns_known n k [] low high = tt
turns_known n k (m ∷ ms) low high = replicated n m k (in_turn (k + 1) ms) (low, omega arith) (turns_known n (k + 1) ms (omega arith) (omega arith))

both : (a b : Bool) → (a && b) ≡ true → (a ≡ true) × (b ≡ true)
both true b e = (refl, e)
both false b e = absurd (cc)

order_known : (n : ℕ) (left : List ℕ) (picks : List Pick) → length left ≡ n → AllByRecursion (IsNumber n) (order left picks)
order_known n left [] len = turns_known n 1 left (omega arith) (omega arith)
order_known n left (pick ∷ picks) len =
    let mine : ℕ = get_or left (pick.who - 1) 0 in
    elim (cases_Bool (nat_le 1 pick.who && nat_le 1 mine)) [
      | inl e ↦
          let h = both (nat_le 1 pick.who) (nat_le 1 mine) e in
          let low = leb-true 1 pick.who h.0 in
          let some = leb-true 1 mine h.1 in
          let high : pick.who - 1 < length left = elim (cases_lt (pick.who - 1) (length left)) [
            | inl lt ↦ lt
            | inr ge ↦ absurd (let past = get_or_past left (pick.who - 1) 0 ge in omega (arith, past, some))
          ] in
          rw e ((low, omega (arith, high, len)), order_known n (set left (pick.who - 1) (mine - 1)) picks (length-set left (pick.who - 1) (mine - 1) ∙ len))
      | inr e ↦ rw e (order_known n left picks len)
    ]

pub orders_known : (scripts : List (List Stmt)) (picks : List Pick) (book : List Event) → IsInOrder scripts picks book → AreKnown scripts book
orders_known scripts picks book is =
    let n = length scripts in
    subst (λ (ks : List ℕ). All (IsNumber n) ks) (sym is) (All-from_recursion (IsNumber n) (order (steps scripts) picks) (order_known n (steps scripts) picks (length-map scripts (λ (script : List Stmt). length script + 1))))

-- Entries read slot by slot: the children so far, and the slots to come.
use Rattle.std.proofs.Common.{◌≡◌, ◌≢◌, ℕ, zero, suc, ◌+◌, ◌<◌, ◌≤◌, List, [], ◌∷◌, ◌++◌, length, get_or, drop, refl, ap, sym, ◌∙◌, arith, append_assoc, append-nil, Result, Ok, Err, Option, None, Some}
use Rattle.page_base.specs.declared.column.Column.{Column}
use Rattle.tree_laws.specs.declared.child.Child.{Child}
use Rattle.tree_laws.specs.Kids.{child_at, with_child, named}

drop_more : (xs : List (List ℕ)) (j : ℕ) → j < length xs → drop j xs ≡ get_or xs j [] ∷ drop (j + 1) xs
drop_more [] j h = absurd (omega (arith, h))
drop_more (x ∷ xs) zero h = refl
drop_more (x ∷ xs) (suc j) h =
    let e : suc (j + 1) ≡ suc j + 1 = omega arith in
    drop_more xs j (omega (arith, h)) ∙ ap (λ (n : ℕ). get_or xs j [] ∷ drop n (x ∷ xs)) e

drop_past : (xs : List (List ℕ)) (j : ℕ) → length xs ≤ j → drop j xs ≡ []
drop_past [] zero h = refl
drop_past [] (suc j) h = refl
drop_past (x ∷ xs) zero h = absurd (omega (arith, h))
drop_past (x ∷ xs) (suc j) h = drop_past xs j (omega (arith, h))

-- children in front of others
abbrev pub in_front : List Child → Result (List Child) ℕ → Result (List Child) ℕ
in_front cs (Ok ds) = Ok (cs ++ ds)
in_front cs (Err e) = Err e

front_none : (r : Result (List Child) ℕ) → in_front [] r ≡ r
front_none (Ok ds) = refl
front_none (Err e) = refl

front_one : (cs : List Child) (c : Child) (slot : ℕ) (r : Result (List Child) ℕ) → in_front (cs ++ c ∷ []) r ≡ in_front cs (with_child slot (Some c) r)
front_one cs c slot (Ok ds) = ap Ok (append_assoc cs (c ∷ []) ds)
front_one cs c slot (Err e) = refl

-- the children so far, and the slots to come
abbrev pub NamedSoFar : List Column → List (List ℕ) → ℕ → List Child → Type 0
NamedSoFar keys slots j cs = in_front cs (named keys j (drop j slots)) ≡ named keys 1 (drop 1 slots)

pub named_begin : (keys : List Column) (slots : List (List ℕ)) → NamedSoFar keys slots 1 []
named_begin keys slots = front_none (named keys 1 (drop 1 slots))

named_full : (keys : List Column) (j : ℕ) (x : List ℕ) (xs : List (List ℕ)) → x ≢ [] → named keys j (x ∷ xs) ≡ with_child j (child_at keys j x) (named keys (j + 1) xs)
named_full keys j [] xs h = absurd (h refl)
named_full keys j (b ∷ bs) xs h = refl

pub named_none : (keys : List Column) (slots : List (List ℕ)) (j : ℕ) (cs : List Child) → NamedSoFar keys slots j cs → j < length slots → get_or slots j [] ≡ [] → NamedSoFar keys slots (j + 1) cs
named_none keys slots j cs s h e = ap (in_front cs) (sym (ap (named keys j) (drop_more slots j h ∙ ap (λ (x : List ℕ). x ∷ drop (j + 1) slots) e))) ∙ s

here : (keys : List Column) (slots : List (List ℕ)) (j : ℕ) → j < length slots → get_or slots j [] ≢ [] → named keys j (drop j slots) ≡ with_child j (child_at keys j (get_or slots j [])) (named keys (j + 1) (drop (j + 1) slots))
here keys slots j h some = ap (named keys j) (drop_more slots j h) ∙ named_full keys j (get_or slots j []) (drop (j + 1) slots) some

pub named_more : (keys : List Column) (slots : List (List ℕ)) (j : ℕ) (cs more : List Child) (c : Child) → NamedSoFar keys slots j cs → j < length slots → get_or slots j [] ≢ [] → child_at keys j (get_or slots j []) ≡ Some c
    → more ≡ cs ++ c ∷ [] → NamedSoFar keys slots (j + 1) more
named_more keys slots j cs more c s h some e is =
    let rest : Result (List Child) ℕ = named keys (j + 1) (drop (j + 1) slots) in
    ap (λ (xs : List Child). in_front xs (named keys (j + 1) (drop (j + 1) slots))) is ∙ front_one cs c j (named keys (j + 1) (drop (j + 1) slots))
    ∙ ap (λ (o : Option Child). in_front cs (with_child j o (named keys (j + 1) (drop (j + 1) slots)))) (sym e) ∙ ap (in_front cs) (sym (here keys slots j h some)) ∙ s

pub named_bad : (keys : List Column) (slots : List (List ℕ)) (j : ℕ) (cs : List Child) → NamedSoFar keys slots j cs → j < length slots → get_or slots j [] ≢ [] → child_at keys j (get_or slots j []) ≡ None → named keys 1 (drop 1 slots) ≡ Err j
named_bad keys slots j cs s h some e =
    sym s ∙ ap (in_front cs) (here keys slots j h some) ∙ ap (λ (o : Option Child). in_front cs (with_child j o (named keys (j + 1) (drop (j + 1) slots)))) e

pub named_end : (keys : List Column) (slots : List (List ℕ)) (j : ℕ) (cs : List Child) → NamedSoFar keys slots j cs → length slots ≤ j → named keys 1 (drop 1 slots) ≡ Ok cs
named_end keys slots j cs s h = sym s ∙ ap (λ (xs : List (List ℕ)). in_front cs (named keys j xs)) (drop_past slots j h) ∙ ap Ok (append-nil cs)

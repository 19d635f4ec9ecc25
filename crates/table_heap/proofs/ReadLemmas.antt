-- The leaves as they were read: their slots, and a slot that is no row.
use Rattle.std.proofs.Common.{◌≡◌, ℕ, ◌+◌, ◌<◌, ◌≤◌, List, [], ◌∷◌, ◌++◌, length, get_or, take, map, ap, sym, ◌∙◌, arith}
use Rattle.std.proofs.lemmas.List.{take_more, take_all, map-append, length-map, get_or-map, get_or_default}
use Rattle.std.specs.List.{Any}
use Rattle.page_base.specs.declared.column.Column.{Column}
use Rattle.page_fmt.specs.Seen.{Looked}
use Rattle.table_walk.specs.declared.refusal.SeenRefusal.{SeenRefusal}
use Rattle.table_walk.specs.declared.refusal.SeenRefusal.TheVariants.{Damaged, Memory}
use Rattle.table_walk.specs.Answers.{IsAt, IsOn}
use Rattle.table_walk.specs.Tables.{IsNoRow}
use Rattle.table_heap.specs.Leaves.{Leaf, slots_of}
use Rattle.table_heap.specs.Places.{AreRows, IsDraft, IsSoFar, Index}
use Rattle.table_heap.proofs.DraftLemmas.{map_at, so_far_all}

-- the slots of a page at a place
abbrev pub slots_read : List Looked → Looked → ℕ → List (List ℕ)
slots_read seen d i = (get_or seen i d).slots

pub read_more : (f : ℕ → List (List ℕ)) (pages : List ℕ) (k : ℕ) (xs more : List (List (List ℕ))) (x : List (List ℕ)) → k < length pages → xs ≡ map f (take k pages) → x ≡ f (get_or pages k 0) → more ≡ xs ++ x ∷ [] → more ≡ map f (take (k + 1) pages)
read_more f pages k xs more x h are is pushed =
    pushed ∙ (λ i. are i ++ is i ∷ []) ∙ sym (map-append f (take k pages) (get_or pages k 0 ∷ [])) ∙ ap (map f) (sym (take_more pages k 0 h))

pub read_one : (f : ℕ → List (List ℕ)) (pages : List ℕ) (leaves : List Leaf) (k : ℕ) → k < length pages → map f pages ≡ map slots_of leaves → slots_of (get_or leaves k []) ≡ f (get_or pages k 0)
read_one f pages leaves k h e = sym (map_at leaves k) ∙ ap (λ (xs : List (List (List ℕ))). get_or xs k []) (sym e) ∙ get_or-map f pages k 0 [] h

pub read_many : (f : ℕ → List (List ℕ)) (pages : List ℕ) (k : ℕ) (xs : List (List (List ℕ))) → length pages ≤ k → xs ≡ map f (take k pages) → xs ≡ map f pages
read_many f pages k xs h are = are ∙ ap (map f) (take_all k pages h)

pub read_draft : (cols : List Column) (f : ℕ → List (List ℕ)) (pages : List ℕ) (leaves : List Leaf) (k : ℕ) (xs : List (List (List ℕ))) (index : Index) → length pages ≤ k → xs ≡ map f (take k pages) → map f pages ≡ map slots_of leaves → AreRows cols leaves
    → IsSoFar cols leaves k 0 index → IsDraft cols leaves xs index
read_draft cols f pages leaves k xs index h are e rows so_far =
    let many : length pages ≡ length leaves = sym (length-map pages f) ∙ ap length e ∙ length-map leaves slots_of in
    record { are = read_many f pages k xs h are ∙ e; rows = rows; index_is = so_far_all cols leaves k index so_far (omega arith) }

pub bad_at : (cols : List Column) (seen : List Looked) (d : Looked) (pages : List ℕ) (k : ℕ) (e : SeenRefusal) → k < length pages → IsOn (get_or seen (get_or pages k 0) d).page (IsNoRow cols (get_or seen (get_or pages k 0) d).slots) e
    → IsAt (λ page slot. Any {X = ℕ} (λ i. ((get_or seen i d).page ≡ page) × IsNoRow cols (get_or seen i d).slots slot) pages) e
bad_at cols seen d pages k (Damaged page slot) h bad = (k, get_or pages k 0, h, get_or_default pages k (get_or pages k 0) 0 h, (bad.0, bad.1))
bad_at cols seen d pages k Memory h bad = tt

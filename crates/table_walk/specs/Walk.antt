-- The pages of a table in the order of a walk: each is followed by those that it names. A layout gives the naming alone.
use Rattle.std.specs.Prelude.{Result, Err, IsOkAnd, ◌≡◌, ◌≢◌, ℕ, List, [], ◌∷◌, ◌++◌, ◌⊎◌}
use Rattle.std.specs.List.{Any, AllPairs, All}
use Rattle.page_base.specs.declared.numbers.PageId.{PageId}
use Rattle.page_fmt.specs.Seen.{SlotsAt, Looked, Saw, look}
use Rattle.table_walk.specs.declared.visit.Visit.{Visit}

-- the pages that a page names, in order, or the slot that names none
abbrev pub Kids : Type 0
Kids = Visit → List (List ℕ) → Result (List Visit) ℕ

-- from `todo` on: the pages `done`, each before those that it names, and then `rest`
abbrev pub Walks : Kids → SlotsAt → List Visit → List Visit → List Visit → Type 0
Walks kids at todo [] rest = todo ≡ rest
Walks kids at [] (v ∷ done) rest = ⊥
Walks kids at (t ∷ todo) (v ∷ done) rest = (t ≡ v) × IsOkAnd (kids t (at t.page)) (λ next. Walks kids at (next ++ todo) done rest)

-- one of these visits is to the page
abbrev pub Reaches : List Visit → PageId → Type 0
Reaches done p = Any (λ v. v.page ≡ p) done

-- a walk from a visit on: what was come to, no page twice, and what is to come
pub record IsWalk (kids : Kids) (at : SlotsAt) (start : Visit) (done rest : List Visit) : Type 0 where
  pub walks : Walks kids at (start ∷ []) done rest
  pub once : AllPairs (λ v w. v.page ≢ w.page) done

-- a walk over what was read
pub record IsSeenWalk (kids : Kids) (seen : List Looked) (start : Visit) (done rest : List Visit) : Type 0 where
  pub walk : IsWalk kids (look seen) start done rest
  pub were : All (λ v. Saw seen v.page) done

-- every page was read
abbrev pub IsDone : Kids → List Looked → Visit → Type 0
IsDone kids seen start = (done : List Visit) × IsSeenWalk kids seen start done []

-- this visit comes next, and its page wasn't read
abbrev pub Lacks : Kids → List Looked → Visit → Visit → Type 0
Lacks kids seen start v = (done : List Visit) × (rest : List Visit) × IsSeenWalk kids seen start done (v ∷ rest) × ¬ Saw seen v.page

-- this slot of this page is no address, or that of a page already come to
abbrev pub IsBad : Kids → List Looked → Visit → PageId → ℕ → Type 0
IsBad kids seen start page slot =
    (done : List Visit) × (rest : List Visit) × (v : Visit) × IsSeenWalk kids seen start done (v ∷ rest) × Saw seen v.page
    × (((v.page ≡ page) × (kids v (look seen v.page) ≡ Err slot)) ⊎ ((v.from ≡ page) × (v.slot ≡ slot) × Reaches done v.page))

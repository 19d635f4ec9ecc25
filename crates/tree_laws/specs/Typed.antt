-- Typed pages that are sound: each is of its level, its least keys are such as may stand, and those that are looked at have room.
use Rattle.std.specs.Prelude.{Bool, true, ◌≡◌, ◌⊎◌, Option, None, Some, is_some, ℕ, zero, suc, List, [], ◌∷◌}
use Rattle.page_base.specs.declared.numbers.PageId.{PageId}
use Rattle.page_base.specs.declared.value.Value.{Value}
use Rattle.page_fmt.specs.Spelling.{FitsPage}
use Rattle.table_walk.specs.Addresses.{IsTarget}
use Rattle.table_walk.specs.Leaves.{rows_in}
use Rattle.tree_laws.specs.Keys.{Key}
use Rattle.tree_laws.specs.Puts.{in_key_order, entry_for}
use Rattle.tree_laws.specs.Sheets.{Entry, Sheet, slots_in, leaf_in, entries_in}
use Rattle.tree_laws.specs.Sheets.Sheet.{Rows, Inner}
use Rattle.tree_laws.specs.Trees.{Each, entries_at}

abbrev pub HasLeast : Entry → Type 0
HasLeast e = is_some e.least ≡ true

-- the first has the least key of the page, or none; each behind it has one
abbrev pub ArePart : Option Key → List Entry → Type 0
ArePart least [] = Unit {0}
ArePart least (e ∷ es) = ((e.least ≡ None) ⊎ (e.least ≡ least)) × Each HasLeast es

-- a page has an entry, but perhaps where leaves stand below it
abbrev pub HasSome : ℕ → List Entry → Type 0
HasSome zero es = Unit {0}
HasSome (suc n) [] = ⊥
HasSome (suc n) (e ∷ es) = Unit {0}

abbrev pub LeastIs : (Key → Type 0) → Option Key → Type 0
LeastIs K None = Unit {0}
LeastIs K (Some k) = K k

-- an entry that may be spelled: its page may be named, and its least key may stand
pub record IsEntry (K : Key → Type 0) (e : Entry) : Type 0 where
  pub target : IsTarget e.page
  pub least : LeastIs K e.least

-- a page of entries, of which each has this; where it is looked at it has room, and its entries may be spelled
abbrev pub IsNode : (Key → Type 0) → Bool → ℕ → Option Key → Sheet → (Entry → Type 0) → Type 0
IsNode K seen n least x Below = (x ≡ Inner (suc n) (entries_in x)) × (seen ≡ true → FitsPage (slots_in x)) × HasSome n (in_key_order (entries_in x)) × ArePart least (in_key_order (entries_in x))
    × (seen ≡ true → Each (IsEntry K) (in_key_order (entries_in x))) × Each Below (in_key_order (entries_in x))

-- a page of rows; where it is looked at it has room
abbrev pub IsLeaf : (List Value → Type 0) → Bool → Sheet → Type 0
IsLeaf P seen x = (x ≡ Rows (leaf_in x)) × (seen ≡ true → FitsPage (slots_in x)) × Each P (rows_in (leaf_in x))

module _ (P : List Value → Type 0) (K : Key → Type 0) (R : PageId → Bool) where
  -- a page of this level, and all below it
  abbrev pub IsSound : (PageId → Sheet) → ℕ → Option Key → PageId → Type 0
  IsSound s zero least p = IsLeaf P (R p) (s p)
  IsSound s (suc n) least p = IsNode K (R p) n least (s p) (λ e. IsSound s n e.least e.page)

-- the pages that are come to for a key, from a page of this level on, are looked at
abbrev pub Via : (PageId → Type 0) → Option Entry → Type 0
Via F None = Unit {0}
Via F (Some e) = F e.page

abbrev pub OnPath : (PageId → Bool) → (PageId → Sheet) → Key → ℕ → PageId → Type 0
OnPath R s key zero p = R p ≡ true
OnPath R s key (suc n) p = (R p ≡ true) × Via (OnPath R s key n) (entry_for key (entries_at s p))

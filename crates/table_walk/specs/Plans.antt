-- A plan: edits of slots, done in turn, of pages that the table owns and of pages that it claims.
use Rattle.std.specs.Prelude.{Bool, false, true, Option, None, Some, ◌≡◌, ◌≢◌, ◌||◌, ℕ, zero, suc, ◌<◌, ◌≤◌, List, [], ◌∷◌, ◌++◌, length}
use Rattle.std.specs.FinMap as finite
use Rattle.std.specs.List.{Any}
use Rattle.page_base.specs.declared.limits.TheConstants.{MAX_SLOTS, MAX_SLOT_BYTES}
use Rattle.page_base.specs.declared.column.Column.{Column}
use Rattle.page_base.specs.declared.numbers.PageId.{PageId}
use Rattle.page_base.specs.declared.value.Value.{Value}
use Rattle.page_base.specs.Pages.{set_at, is_page}
use Rattle.page_fmt.specs.Edits.{edited, slot_at}
use Rattle.page_fmt.specs.Seen.{SlotsAt}
use Rattle.page_fmt.specs.Spelling.{used}
use Rattle.plain_model.specs.Tables.{Rows, key_of}
use Rattle.table_walk.specs.declared.plan.Edit.{Edit}
use Rattle.table_walk.specs.declared.plan.Spot.{Spot}
use Rattle.table_walk.specs.declared.plan.Spot.TheVariants.{Old, New}
use Rattle.table_walk.specs.declared.visit.Visit.{Visit}
use Rattle.table_walk.specs.Addresses.{address, IsTarget}
use Rattle.table_walk.specs.Tables.{is_leaf, Shape, HasRows}

-- the page of an edit, where these pages are claimed
abbrev pub place : (ℕ → PageId) → Spot → PageId
place claimed (Old p) = p
place claimed (New i) = claimed i

-- the address of the claimed page that is named, if one is
abbrev pub named : (ℕ → PageId) → Option ℕ → List ℕ
named claimed None = []
named claimed (Some i) = address (claimed i)

-- the bytes that an edit writes; with none it empties its slot
abbrev pub bytes_of : (ℕ → PageId) → Edit → List ℕ
bytes_of claimed e = named claimed e.names ++ e.bytes

-- the slots of an edit's page after it
abbrev pub slots_after : (ℕ → PageId) → SlotsAt → Edit → List (List ℕ)
slots_after claimed at e = edited (at (place claimed e.spot)) e.slot (bytes_of claimed e)

-- all pages after an edit
abbrev pub changed : (ℕ → PageId) → SlotsAt → Edit → SlotsAt
changed claimed at e = set_at at (place claimed e.spot) (slots_after claimed at e)

-- all pages after edits
abbrev pub after : (ℕ → PageId) → SlotsAt → List Edit → SlotsAt
after claimed at [] = at
after claimed at (e ∷ es) = after claimed (changed claimed at e) es

-- an edit fits on its page, and changes its slot
pub record Fits (claimed : ℕ → PageId) (at : SlotsAt) (e : Edit) : Type 0 where
  pub index : e.slot < MAX_SLOTS
  pub short : length (bytes_of claimed e) ≤ MAX_SLOT_BYTES
  pub room : used (slots_after claimed at e) ≤ 8192
  pub changes : slot_at (at (place claimed e.spot)) e.slot ≢ bytes_of claimed e

-- each edit fits and changes its slot, after those before it
abbrev pub Go : (ℕ → PageId) → SlotsAt → List Edit → Type 0
Go claimed at [] = Unit {0}
Go claimed at (e ∷ es) = Fits claimed at e × Go claimed (changed claimed at e) es

-- whether a page is one of the first n that are claimed
abbrev pub is_claimed : (ℕ → PageId) → ℕ → PageId → Bool
is_claimed claimed zero p = false
is_claimed claimed (suc n) p = is_page (claimed n) p || is_claimed claimed n p

-- whether the table owns a page once these are claimed
abbrev pub also : (PageId → Bool) → (ℕ → PageId) → ℕ → PageId → Bool
also owns claimed n p = owns p || is_claimed claimed n p

-- where an edit is of a claimed page, it is of one of the first n
abbrev pub SpotBelow : ℕ → Spot → Type 0
SpotBelow n (Old p) = Unit {0}
SpotBelow n (New i) = i < n

-- where an edit names a claimed page, it names one of the first n
abbrev pub NameBelow : ℕ → Option ℕ → Type 0
NameBelow n None = Unit {0}
NameBelow n (Some i) = i < n

-- an edit speaks of the first n claimed pages alone
abbrev pub IsBelow : ℕ → Edit → Type 0
IsBelow n e = SpotBelow n e.spot × NameBelow n e.names

-- not edits of one slot
abbrev pub IsOtherSlot : (ℕ → PageId) → Edit → Edit → Type 0
IsOtherSlot claimed e f = ¬ ((place claimed e.spot ≡ place claimed f.spot) × (e.slot ≡ f.slot))

-- an edit of a row is of a page that holds rows in this walk
abbrev pub IsOnLeaf : (ℕ → PageId) → List Visit → Edit → Type 0
IsOnLeaf claimed done e = e.of_row ≡ true → Any (λ v. (v.page ≡ place claimed e.spot) × (is_leaf v ≡ true)) done

-- each edit lies on such a page
abbrev pub AreWithin : (ℕ → PageId) → ℕ → (PageId → Bool) → List Edit → Type 0
AreWithin claimed n owns [] = Unit {0}
AreWithin claimed n owns (e ∷ es) = (also owns claimed n (place claimed e.spot) ≡ true) × AreWithin claimed n owns es

-- the first n pages to be claimed are blank, no table's, different, and may be named
pub record AreFree (claimed : ℕ → PageId) (n : ℕ) (at : SlotsAt) (owns : PageId → Bool) : Type 0 where
  pub blank : (i : ℕ) → i < n → at (claimed i) ≡ []
  pub unowned : (i : ℕ) → i < n → owns (claimed i) ≡ false
  pub differ : (i j : ℕ) → i < j → j < n → claimed i ≢ claimed j
  pub targets : (i : ℕ) → i < n → IsTarget (claimed i)

-- the rows without those of some keys
abbrev pub cut_all : List (List Value) → Rows → Rows
cut_all [] rows = rows
cut_all (k ∷ ks) rows = cut_all ks (finite.remove rows k)

-- the rows with others, each in place of the one of its key
abbrev pub put_all : List Column → List (List Value) → Rows → Rows
put_all cols [] rows = rows
put_all cols (r ∷ rs) rows = put_all cols rs (finite.insert rows (key_of cols r) r)

-- The edits to come go in turn, on pages of the table alone, and then these are its rows. This is all that anyone above
-- the layouts needs to know of a plan.
pub record Carries (shape : Shape) (cols : List Column) (start : Visit) (claimed : ℕ → PageId) (n : ℕ) (at : SlotsAt) (owns : PageId → Bool) (edits : List Edit) (rows : Rows) : Type 0 where
  pub go : Go claimed at edits
  pub within : AreWithin claimed n owns edits
  pub table : HasRows shape cols (after claimed at edits) (also owns claimed n) start rows

-- The look-up of a key comes to one page of each level, and what is asked for lies on the look-ups of its keys.
use Rattle.std.specs.Prelude.{Bool, ◌≡◌, ◌<◌, ◌≤◌, Option, None, Some, ℕ, ◌+◌, List, [], ◌∷◌, ◌++◌, length, All}
use Rattle.std.specs.List.{Any, AllPairs}
use Rattle.page_base.specs.declared.column.Column.{Column}
use Rattle.page_base.specs.declared.numbers.PageId.{PageId}
use Rattle.page_fmt.specs.Seen.{SlotsAt, Looked}
use Rattle.table_walk.specs.declared.visit.Visit.{Visit}
use Rattle.table_walk.specs.declared.find.Find.{Find}
use Rattle.table_walk.specs.declared.find.Find.TheVariants.{All as Whole, Keys}
use Rattle.table_walk.specs.declared.find.Wants.{Wants}
use Rattle.table_walk.specs.declared.find.Wants.TheVariants.{Page, Done}
use Rattle.table_walk.specs.Tables.{IsNoRowOf}
use Rattle.table_walk.specs.Walk.{IsSeenWalk, IsDone, IsBad}
use Rattle.table_walk.specs.Answers.{IsNext, Tells}
use Rattle.tree_laws.specs.Keys.{Key}
use Rattle.tree_laws.specs.Kids.{tree_kids, first, level_of}

-- the level that a visit names, else this
abbrev pub named_or : ℕ → Option ℕ → ℕ
named_or n None = n
named_or n (Some l) = l

-- the level of a visit's page: 0 of a leaf, what its page says of the root
abbrev pub level_in : SlotsAt → Visit → ℕ
level_in at v = named_or (level_of (at v.page)) v.level

-- each page that a look-up comes to lies on a level below those before it, and the root's level bounds how many there are
pub record IsOnePerLevel (at : SlotsAt) (root : PageId) (done : List Visit) : Type 0 where
  pub falls : AllPairs (λ v w. level_in at w < level_in at v) done
  pub few : length done ≤ level_of (at root) + 1

-- this key was looked up in what was read
abbrev pub IsLookedUp : List Column → List Looked → PageId → Key → Type 0
IsLookedUp cols seen root key = IsDone (tree_kids cols (Some key)) seen (first root)

-- all that is asked for was read
abbrev pub IsRead : List Column → List Looked → PageId → Find → Type 0
IsRead cols seen root Whole = IsDone (tree_kids cols None) seen (first root)
IsRead cols seen root (Keys keys) = All (IsLookedUp cols seen root) keys

-- the first key that wasn't looked up asks for this page
pub record AsksFor (cols : List Column) (seen : List Looked) (root : PageId) (keys : List Key) (page : PageId) (rows : Bool) : Type 0 where
  pub before : List Key
  pub key : Key
  pub later : List Key
  pub are : keys ≡ before ++ key ∷ later
  pub looked : All (IsLookedUp cols seen root) before
  pub next : IsNext (tree_kids cols (Some key)) seen (first root) page rows

-- what is to be read next
abbrev pub TellsFor : List Column → List Looked → PageId → Find → Wants → Type 0
TellsFor cols seen root Whole w = Tells (tree_kids cols None) seen (first root) w
TellsFor cols seen root (Keys keys) (Page page rows) = AsksFor cols seen root keys page rows
TellsFor cols seen root (Keys keys) Done = All (IsLookedUp cols seen root) keys

-- this slot is damaged for the walk over all pages, or for the look-up of one of the keys
abbrev pub IsBadFor : List Column → List Looked → PageId → Find → PageId → ℕ → Type 0
IsBadFor cols seen root Whole page slot = IsBad (tree_kids cols None) seen (first root) page slot
IsBadFor cols seen root (Keys keys) page slot = Any (λ key. IsBad (tree_kids cols (Some key)) seen (first root) page slot) keys

-- the walk over all pages, or the look-up of one of the keys
abbrev pub IsWalkFor : List Column → List Looked → PageId → Find → List Visit → Type 0
IsWalkFor cols seen root Whole done = IsSeenWalk (tree_kids cols None) seen (first root) done []
IsWalkFor cols seen root (Keys keys) done = Any (λ key. IsSeenWalk (tree_kids cols (Some key)) seen (first root) done []) keys

-- this slot, on a page that such a walk comes to, is no row
abbrev pub IsNoRowFor : List Column → List Looked → PageId → Find → PageId → ℕ → Type 0
IsNoRowFor cols seen root find page slot = (done : List Visit) × IsWalkFor cols seen root find done × Any (IsNoRowOf cols seen page slot) done

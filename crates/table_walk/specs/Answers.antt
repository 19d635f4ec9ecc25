-- What a walk answers: the page to read next, and which slot is damaged; and which rows were asked for.
use Rattle.std.specs.Prelude.{Bool, true, ⊤, ◌≡◌, ℕ, List}
use Rattle.std.specs.List.{list_any}
use Rattle.std.specs.Ordering.{eq_by_cmp}
use Rattle.std.specs.FinMap as finite
use Rattle.page_base.specs.declared.numbers.PageId.{PageId}
use Rattle.page_base.specs.declared.value.Value.{Value}
use Rattle.page_base.specs.Order.{key_cmp}
use Rattle.page_fmt.specs.Seen.{Looked}
use Rattle.plain_model.specs.Tables.{Rows}
use Rattle.table_walk.specs.declared.visit.Visit.{Visit}
use Rattle.table_walk.specs.declared.find.Find.{Find}
use Rattle.table_walk.specs.declared.find.Find.TheVariants.{All, Keys}
use Rattle.table_walk.specs.declared.find.Wants.{Wants}
use Rattle.table_walk.specs.declared.find.Wants.TheVariants.{Page, Done}
use Rattle.table_walk.specs.declared.refusal.SeenRefusal.{SeenRefusal}
use Rattle.table_walk.specs.declared.refusal.SeenRefusal.TheVariants.{Damaged, Memory}
use Rattle.table_walk.specs.Walk.{Kids, IsDone, Lacks}
use Rattle.table_walk.specs.Tables.{is_leaf}

-- this page comes next, wasn't read, and holds rows or doesn't
pub record IsNext (kids : Kids) (seen : List Looked) (start : Visit) (page : PageId) (rows : Bool) : Type 0 where
  pub visit : Visit
  pub lacks : Lacks kids seen start visit
  pub is : visit.page ≡ page
  pub leaf : is_leaf visit ≡ rows

-- what is to be read next, or that all was read
abbrev pub Tells : Kids → List Looked → Visit → Wants → Type 0
Tells kids seen start (Page page rows) = IsNext kids seen start page rows
Tells kids seen start Done = IsDone kids seen start

-- a damaged slot is one of these
abbrev pub IsAt : (PageId → ℕ → Type 0) → SeenRefusal → Type 0
IsAt P (Damaged page slot) = P page slot
IsAt P Memory = ⊤

-- a damaged slot stands on this page, and is one of these
abbrev pub IsOn : PageId → (ℕ → Type 0) → SeenRefusal → Type 0
IsOn page P (Damaged p slot) = (page ≡ p) × P slot
IsOn page P Memory = ⊤

-- no slot is damaged
abbrev pub IsMemory : SeenRefusal → Type 0
IsMemory (Damaged page slot) = ⊥
IsMemory Memory = ⊤

-- the page to read next, if there is one, is of this kind
abbrev pub OfPage : (PageId → Type 0) → Wants → Type 0
OfPage P (Page page rows) = P page
OfPage P Done = ⊤

-- whether the row of a key is asked for
abbrev pub asks : Find → List Value → Bool
asks All key = true
asks (Keys keys) key = list_any (eq_by_cmp key_cmp key) keys

-- the rows that are asked for, by their keys
abbrev pub asked : Find → Rows → Rows
asked find rows = finite.retain_keys rows (asks find)

-- How a session's point, its course, its records and what it holds fit together.
use Rattle.std.specs.Prelude.{ℕ, ◌≡◌, ◌≢◌, ◌⊎◌, ◌+◌, ◌-◌, ◌<◌, ◌≤◌, Bool, true, false, List, [], ◌∷◌, length, drop, slice_index_or, Option, Some, None}
use Rattle.page_base.specs.declared.numbers.PageId.{PageId}
use Rattle.latch_book.specs.declared.latch.LatchMode.TheVariants.{Sh, Ex}
use Rattle.plain_model.specs.declared.stmt.Stmt.TheVariants.{Commit as CommitTran}
use Rattle.plain_model.specs.Free.{is_of_tables}
use Rattle.rec_log.specs.Records.{Record}
use Rattle.std.specs.List.{AllByRecursion}
use Rattle.table_walk.specs.declared.plan.Spot.{Spot}
use Rattle.table_walk.specs.declared.plan.Spot.TheVariants.{Old, New}
use Rattle.table_walk.specs.Addresses.{IsTarget}
use Rattle.page_tables.specs.Owners.{is_there}
use Rattle.page_tables.specs.Writes.{Write, claim}
use Rattle.step_words.specs.declared.point.Point.{Point}
use Rattle.step_words.specs.declared.point.Point.TheVariants.{Start, Look, Fetch, Take, Claim, Change, Undo, Cut, Heal, Gather, Swap, Commit, Say, Leave, Gone}
use Rattle.step_words.specs.declared.stage.DbKind.{DbKind}
use Rattle.step_words.specs.declared.stage.DbKind.TheVariants.{Master, Source, Snap}
use Rattle.step_words.specs.declared.stage.Stage.TheVariants.{Claim as Claiming, Edit as Editing, End}
use Rattle.step_words.specs.Courses.{Course, Draft, Plain, Root, is_planned, is_past_all, is_past_table}
use Rattle.step_words.specs.Coming.{draft_write, taken_at}
use Rattle.step_words.specs.Sittings.{stmt_at, ends_work}
use Rattle.step_words.specs.Seats.{Seated, Grip, Free, Latched, Fetched, latch_at}

-- what a session may hold at a point: one latch at most, that of the page which the point names
abbrev pub FitsGrip : Point → Bool → Grip → Type 0
FitsGrip (Look p) found hold = hold ≡ Latched p Sh
FitsGrip (Fetch p) found hold = (hold ≡ Latched p Sh) ⊎ (hold ≡ Latched p Ex)
FitsGrip (Take p rows) true hold = (hold ≡ Latched p Sh) ⊎ (hold ≡ Fetched p Sh)
FitsGrip (Take p rows) false hold = hold ≡ Fetched p Sh
FitsGrip (Change p) found hold = hold ≡ Fetched p Ex
FitsGrip (Claim owner) found hold = Unit {0}
FitsGrip (Undo all) found hold = Unit {0}
FitsGrip Heal found hold = Unit {0}
FitsGrip point found hold = hold ≡ Free

-- at these points no statement on tables is under way, and at some no transaction is either
abbrev pub lacks_course : Point → Bool
lacks_course Start = true
lacks_course (Undo all) = true
lacks_course Cut = true
lacks_course Heal = true
lacks_course Gather = true
lacks_course Swap = true
lacks_course Leave = true
lacks_course Gone = true
lacks_course point = false

abbrev pub lacks_work : Point → Bool
lacks_work Cut = true
lacks_work Heal = true
lacks_work Gather = true
lacks_work Swap = true
lacks_work Leave = true
lacks_work Gone = true
lacks_work point = false

-- at these a snapshot may be in the making
abbrev pub is_making : Point → Bool
is_making Heal = true
is_making Say = true
is_making point = false

-- the edit at a point of change is the next one, on the page that the point names
abbrev pub IsNextEdit : Course → PageId → Type 0
IsNextEdit c p = (c.stage ≡ Editing) × ((draft : Draft) × (drafts : List Draft) × (c.edits ≡ draft ∷ drafts) × ((draft_write (taken_at c) draft).page ≡ p))

-- an edit's page is there, or is one of the n pages to claim
abbrev pub IsEditOn : List ℕ → ℕ → Spot → Type 0
IsEditOn files n (Old p) = is_there files p ≡ true
IsEditOn files n (New i) = i < n

-- and it names none but these n pages
abbrev pub NamesBelow : ℕ → Option ℕ → Type 0
NamesBelow n None = Unit {0}
NamesBelow n (Some i) = i < n

abbrev pub IsDraftOn : List ℕ → ℕ → Draft → Type 0
IsDraftOn files n (Plain e) = IsEditOn files n e.spot × NamesBelow n e.names
IsDraftOn files n (Root e d new) = IsEditOn files n e.spot × (new < n)

-- a course in a snapshot is of the one that is the session's database
abbrev pub IsIn : DbKind → Option ℕ → Type 0
IsIn Master within = within ≡ None
IsIn Source within = within ≡ None
IsIn Snap within = (cut : ℕ) × (within ≡ Some cut)

-- the course of a session: of its present statement, which is about tables; what it has read it forgets with the plan; the
-- pages that it has claimed may be named; there is room for the records of what is to come
pub record IsOnCourse (files : List ℕ) (x : Seated) (c : Course) : Type 0 where
  pub lent : stmt_at x.sitting ≡ Some c.stmt
  pub tables : is_of_tables c.stmt ≡ true
  -- in a snapshot the session knows which
  pub database : IsIn c.at x.sitting.within
  pub emptied : is_planned c.stage ≡ true → (c.base ≡ []) × (c.seen ≡ [])
  -- it reads table 0 under the lock on that, and its own table under the lock on this
  pub unasked : is_past_all c.stage ≡ false → (c.base ≡ []) × (c.desc ≡ None)
  pub unread : is_past_table c.stage ≡ false → c.seen ≡ []
  pub fresh : is_planned c.stage ≡ false → (c.taken ≡ []) × (c.owners ≡ []) × (c.edits ≡ []) × (length x.work.recs ≡ x.base)
  pub numbers : AllByRecursion (λ (number : ℕ). number + 1 < 4294967295) c.owners
  pub taken : length c.taken ≤ length c.owners
  pub claimed : (c.stage ≡ Editing) ⊎ (c.stage ≡ End) → length c.taken ≡ length c.owners
  pub targets : (i : ℕ) (d : PageId) → i < length c.taken → IsTarget (slice_index_or c.taken i d)
  pub there : (i : ℕ) (d : PageId) → i < length c.taken → is_there files (slice_index_or c.taken i d) ≡ true
  pub within : AllByRecursion (IsDraftOn files (length c.owners)) c.edits
  pub room : (length c.owners - length c.taken) + length c.edits ≤ x.work.spare
  pub ended : c.stage ≡ End → c.edits ≡ []

-- the record is of this write
pub record IsRecordOf (r : Record) (w : Write) : Type 0 where
  pub page : r.page ≡ w.page
  pub slot : r.slot ≡ w.slot
  pub after : r.after ≡ w.bytes

-- while it claims, the statement's records are those of its claims, for these tables
abbrev pub AreClaimsOf : List Record → List ℕ → List PageId → Type 0
AreClaimsOf [] numbers [] = Unit {0}
AreClaimsOf [] numbers (p ∷ taken) = ⊥
AreClaimsOf (r ∷ records) numbers [] = ⊥
AreClaimsOf (r ∷ records) [] (p ∷ taken) = ⊥
AreClaimsOf (r ∷ records) (number ∷ numbers) (p ∷ taken) = IsRecordOf r (claim number p) × AreClaimsOf records numbers taken

-- what a session takes back: what its statement has written, or all that its transaction has, where that ends
pub record IsUndoing (x : Seated) (all : Bool) : Type 0 where
  pub some : x.base < length x.work.recs
  pub whole : all ≡ true → x.base ≡ 0
  pub ends : ends_work (stmt_at x.sitting) ≡ all

pub record IsPosed (files : List ℕ) (x : Seated) : Type 0 where
  pub grip : FitsGrip x.sitting.point x.sitting.found x.hold
  pub course : (c : Course) → x.sitting.course ≡ Some c → IsOnCourse files x c
  pub changes : (p : PageId) → x.sitting.point ≡ Change p → (c : Course) × (x.sitting.course ≡ Some c) × IsNextEdit c p
  -- what is committed is a transaction, by a COMMIT without records of its own, or a statement that has come to its end
  pub commits : x.sitting.point ≡ Commit → ((x.sitting.course ≡ None) × (stmt_at x.sitting ≡ Some CommitTran) × (length x.work.recs ≡ x.base)) ⊎ ((c : Course) × (x.sitting.course ≡ Some c) × (c.stage ≡ End))
  pub off_course : lacks_course x.sitting.point ≡ true → x.sitting.course ≡ None
  pub based : x.base ≤ length x.work.recs
  pub idle : x.sitting.depth ≡ 0 → x.base ≡ 0
  pub started : x.sitting.point ≡ Start → length x.work.recs ≡ x.base
  pub without : lacks_work x.sitting.point ≡ true → x.work.recs ≡ []
  pub claims : (c : Course) → x.sitting.course ≡ Some c → c.stage ≡ Claiming → AreClaimsOf (drop x.base x.work.recs) c.owners c.taken
  -- at a claim the next table is that of the owner
  pub claiming : (owner : ℕ) → x.sitting.point ≡ Claim owner → (c : Course) × (x.sitting.course ≡ Some c) × (c.stage ≡ Claiming) × ((number : ℕ) × (numbers : List ℕ) × (drop (length c.taken) c.owners ≡ number ∷ numbers) × (owner ≡ number + 1))
  pub undoes : (all : Bool) → x.sitting.point ≡ Undo all → IsUndoing x all
  -- a refusal is said once the statement's records are taken back
  pub says : x.sitting.point ≡ Say → x.sitting.course ≡ None → length x.work.recs ≡ x.base
  pub makes : is_making x.sitting.point ≡ false → x.making ≡ None
  -- between copy and mark it holds the page's latch in EX
  pub unlatched : x.copied ≢ None → (p : PageId) × (latch_at x.hold ≡ Some (record { page = p; mode = Ex }))

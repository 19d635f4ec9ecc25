-- The queue of a plan.
use Rattle.std.specs.Prelude.{ℕ, ◌≡◌, None, List, [], ◌++◌, map, replicate}
use Rattle.page_base.specs.declared.numbers.PageId.{PageId}
use Rattle.page_base.specs.declared.value.Value.{Value}
use Rattle.page_fmt.specs.Seen.{SlotsAt, Looked, look}
use Rattle.sys_cat.specs.declared.desc.TableDesc.{TableDesc}
use Rattle.sys_cat.specs.Changing.{keys_of}
use Rattle.sys_cat.specs.Rows.{table_0, zero_root, rows_of}
use Rattle.table_walk.specs.declared.plan.Edit.{Edit}
use Rattle.table_walk.specs.declared.plan.Spot.{Spot}
use Rattle.table_walk.specs.declared.visit.Visit.{Visit}
use Rattle.table_walk.specs.Walk.{IsSeenWalk}
use Rattle.page_tables.specs.Creating.{IsNewRoot}
use Rattle.page_tables.specs.Dropping.{Empty}
use Rattle.page_tables.specs.Layout.{shape, first, Promises}
use Rattle.page_tables.specs.Rooting.{telling}
use Rattle.stmt_course.specs.Defining.{owners_with, root_edit, creation, release_edit, removal}
use Rattle.stmt_prog.specs.Drafts.{all_drafts}
use Rattle.stmt_prog.specs.declared.queue.Queue.{Queue}

-- nothing was done yet of a plan that cuts these keys from a table and puts these rows
pub record IsPlannedQueue (d : TableDesc) (own : List Looked) (cuts puts : List (List Value)) (q : Queue) : Type 0 where
  pub n : ℕ
  pub owners : q.owners.items ≡ replicate n d.number.0
  pub taken : q.taken.items ≡ []
  pub done : q.done ≡ 0
  pub told : q.told ≡ None
  pub plan : Promises d.cols own d.root cuts puts n q.edits.items

-- nothing was done yet of a plan that creates this table, whose rows it puts into table 0
pub record IsMadeQueue (d : TableDesc) (zero : List Looked) (q : Queue) : Type 0 where
  pub n : ℕ
  pub before : List Edit
  pub later : List Edit
  pub spot : Spot
  pub slot : ℕ
  pub bytes : List ℕ
  pub owners : q.owners.items ≡ owners_with n d.number.0
  pub taken : q.taken.items ≡ []
  pub done : q.done ≡ 0
  pub drafts : all_drafts q.told q.edits.items ≡ creation n before spot slot d later bytes
  pub plan : Promises table_0 zero zero_root [] (rows_of d) n (telling before spot slot d later)
  pub blank : IsNewRoot bytes

-- the edit that gives a new root its first bytes
pub record IsRootEdit (new : ℕ) (e : Edit) : Type 0 where
  pub bytes : List ℕ
  pub is : e ≡ root_edit new bytes
  pub blank : IsNewRoot bytes

-- the queue of these edits and n claims, with one claim more; of the edits one tells the new table, and behind them its root
-- gets its first bytes
pub record IsQueueFor (d : TableDesc) (n : ℕ) (edits : List Edit) (q : Queue) : Type 0 where
  pub before : List Edit
  pub later : List Edit
  pub spot : Spot
  pub slot : ℕ
  pub bytes : List ℕ
  pub are : edits ≡ telling before spot slot d later
  pub owners : q.owners.items ≡ owners_with n d.number.0
  pub taken : q.taken.items ≡ []
  pub done : q.done ≡ 0
  pub drafts : all_drafts q.told q.edits.items ≡ creation n before spot slot d later bytes
  pub blank : IsNewRoot bytes

-- the edits empty these pages, one behind the other, and then give them back
pub record Leaves (at : SlotsAt) (pages : List PageId) (edits : List Edit) : Type 0 where
  pub empties : List Edit
  pub are : edits ≡ empties ++ map release_edit pages
  pub empty : Empty at pages empties

-- nothing was done yet of a plan that drops this table, whose rows it cuts from table 0, and whose pages it empties and gives back
pub record IsGoneQueue (d : TableDesc) (zero own : List Looked) (q : Queue) : Type 0 where
  pub n : ℕ
  pub edits : List Edit
  pub empties : List Edit
  pub walked : List Visit
  pub owners : q.owners.items ≡ replicate n 0
  pub taken : q.taken.items ≡ []
  pub done : q.done ≡ 0
  pub told : q.told ≡ None
  pub are : q.edits.items ≡ removal edits empties (map (λ v. v.page) walked)
  pub plan : Promises table_0 zero zero_root (keys_of d) [] n edits
  pub walk : IsSeenWalk shape.kids own (first d.root) walked []
  pub empty : Empty (look own) (map (λ v. v.page) walked) empties

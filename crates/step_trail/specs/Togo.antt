-- How many steps the programs under way can still take, at most: a number that each step lowers which neither answers, nor plans,
-- nor begins, nor cuts.
use Rattle.std.specs.Prelude.{ℕ, ◌+◌, ◌-◌, ◌*◌, not, if◌then◌else◌, List, ◌++◌, length, sum_by, count_by, Option, Some, None}
use Rattle.sparse_set.specs.Sparse.{Sparse, is_copied}
use Rattle.snap_cat.specs.Catalog.{Snap}
use Rattle.snap_pages.specs.Cuts.{is_open_by, is_sound_by, owed_by}
use Rattle.snap_pages.specs.Dues.{is_sound}
use Rattle.snap_pages.specs.Shown.{Shown, catalog, counts}
use Rattle.step_words.specs.declared.point.Point.{Point}
use Rattle.step_words.specs.declared.point.Point.TheVariants.{Start, Latch, Look, Fetch, Take, Undo, Cut, Heal, Gather, Swap, Commit, Say, Leave}
use Rattle.step_words.specs.declared.stage.Stage.{Stage}
use Rattle.step_words.specs.declared.stage.Stage.TheVariants.{AskAll, ScanZero, AskTable, Scan, Plan, Claim, Edit, End}
use Rattle.step_words.specs.Courses.{Course}
use Rattle.step_words.specs.Seats.{Seated, Grip, Free, Latched, Fetched}
use Rattle.step_trail.specs.Counting.{all_pages, alloc_pages, count_pages, ungathered, unread}

-- how much of a visit is left, and of an edit
abbrev pub visit_left : Point → ℕ
visit_left (Latch page ex) = 4
visit_left (Look page) = 3
visit_left (Fetch page) = 2
visit_left (Take page rows) = 1
visit_left point = 0

abbrev pub edit_left : Point → ℕ
edit_left (Latch page ex) = 2
edit_left (Fetch page) = 1
edit_left point = 0

-- a commit, which may fail, weighs more than what is taken back then
abbrev pub end_left : Point → ℕ
end_left Commit = 2
end_left point = 1

-- what is held of a page: its latch, and its pin
abbrev pub grasp : Grip → ℕ
grasp Free = 0
grasp (Latched page mode) = 1
grasp (Fetched page mode) = 2

-- a claim may have to pass all allocation pages, and leaves a record; an edit leaves one
abbrev pub writes_left : List ℕ → Course → ℕ
writes_left files c = (3 * alloc_pages files + 8) * (length c.owners - length c.taken) + 8 * length c.edits

-- Of a statement on tables, by its stage: five steps for each page that it hasn't read, but for those that are done of the one
-- which it visits; once it is planned, its claims and edits.
abbrev pub stage_left : List ℕ → Seated → Course → Stage → ℕ
stage_left files x c AskAll = 5 * unread files (c.base ++ c.seen) + 4
stage_left files x c (ScanZero page) = 5 * (unread files (c.base ++ c.seen) - 1) + (4 + visit_left x.sitting.point)
stage_left files x c AskTable = 5 * unread files (c.base ++ c.seen) + 3
stage_left files x c (Scan page rows) = 5 * (unread files (c.base ++ c.seen) - 1) + (3 + visit_left x.sitting.point)
stage_left files x c Plan = 2
stage_left files x c Claim = (writes_left files c + 2) - (3 * x.alloc + grasp x.hold)
stage_left files x c Edit = writes_left files c + edit_left x.sitting.point
stage_left files x c End = end_left x.sitting.point

-- three steps for each record that the snapshot in the making owes, unless that is suspect
abbrev pub heals_left : Shown → Option ℕ → Grip → ℕ
heals_left v None hold = 1
heals_left v (Some cut) hold = if is_sound_by v cut then 1 + (3 * length (owed_by v cut) - grasp hold) else 1

-- where no statement on tables is under way, by the point; before a cut all pages count, twice since each is copied and marked
abbrev pub point_left : Shown → Seated → Point → ℕ
point_left v x Start = 5 * all_pages (counts v) + 6
point_left v x (Undo all) = 1 - grasp x.hold
point_left v x Cut = 2 * all_pages (counts v) + 2
point_left v x Heal = heals_left v x.making x.hold
point_left v x Gather = ungathered v x.gathered + 2
point_left v x Swap = 2
point_left v x Commit = 2
point_left v x Say = 1
point_left v x Leave = 1
point_left v x point = 0

abbrev pub course_left : Shown → Seated → Option Course → ℕ
course_left v x None = point_left v x x.sitting.point
course_left v x (Some c) = stage_left (counts v) x c c.stage

-- between copy and mark one less, or one more where the snapshot is gone
abbrev pub mark_left : Shown → Option ℕ → ℕ
mark_left v None = 1
mark_left v (Some cut) = if is_open_by v cut then 0 else 2

-- of a session, with four steps for each record, which may have to be taken back
abbrev pub togo : Shown → Seated → ℕ
togo v x = 4 * length x.work.recs + (mark_left v x.copied + course_left v x x.sitting.course)

-- the pairs of a snapshot and a page that it lacks
abbrev pub unmapped : Shown → ℕ
unmapped v = sum_by (λ (set : Sparse). count_pages (counts v) (λ p. not (is_copied set p))) v.sets

-- the snapshots that aren't suspect: one that turns so is a step, too
abbrev pub sound : Shown → ℕ
sound v = count_by (λ (s : Snap). is_sound s.state) (catalog v).snaps

abbrev pub steps_left : Shown → List Seated → ℕ
steps_left v seats = 2 * unmapped v + (sound v + sum_by (togo v) seats)

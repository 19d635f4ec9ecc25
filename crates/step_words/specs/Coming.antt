-- What a planned statement still writes: claims, and then edits, once the claimed pages are known.
use Rattle.std.specs.Prelude.{ℕ, ◌+◌, List, [], ◌∷◌, ◌++◌, length, drop, map, slice_index_or}
use Rattle.page_base.specs.declared.numbers.PageId.{PageId}
use Rattle.row_fmt.specs.Rows.{row_bytes}
use Rattle.sys_cat.specs.Rows.{table_row}
use Rattle.table_walk.specs.Plans.{place}
use Rattle.page_tables.specs.Writes.{Write, claim, write_of}
use Rattle.step_words.specs.Courses.{Course, Draft, Plain, Root}

-- an edit's write, where these pages are claimed
abbrev pub draft_write : (ℕ → PageId) → Draft → Write
draft_write claimed (Plain e) = write_of claimed e
draft_write claimed (Root e d new) = record { page = place claimed e.spot; slot = e.slot; bytes = row_bytes (table_row (record d { root = claimed new })) }

-- the claims for these tables, the first with this number
abbrev pub claims_of : List ℕ → ℕ → (ℕ → PageId) → List Write
claims_of [] i claimed = []
claims_of (number ∷ numbers) i claimed = claim number (claimed i) ∷ claims_of numbers (i + 1) claimed

-- the claims that are still to come, and the edits
abbrev pub claims_left : Course → (ℕ → PageId) → List Write
claims_left c claimed = claims_of (drop (length c.taken) c.owners) (length c.taken) claimed

abbrev pub edits_left : Course → (ℕ → PageId) → List Write
edits_left c claimed = map (draft_write claimed) c.edits

abbrev pub coming : Course → (ℕ → PageId) → List Write
coming c claimed = claims_left c claimed ++ edits_left c claimed

-- the pages that were claimed; all others are page 0
abbrev pub taken_at : Course → ℕ → PageId
taken_at c i = slice_index_or c.taken i (record { file = 0; page = 0 })

-- The next edit, once all pages are claimed.
use Rattle.std.specs.Prelude.{ℕ, ◌≡◌, List, ◌∷◌, slice_index_or}
use Rattle.page_base.specs.declared.numbers.PageId.{PageId}
use Rattle.step_words.specs.Courses.{Course, Draft}
use Rattle.step_words.specs.Coming.{draft_write, taken_at}
use Rattle.stmt_prog.specs.declared.queue.NextEdit.{NextEdit}

-- the claimed pages by their numbers
abbrev pub taken_in : List PageId → ℕ → PageId
taken_in taken i = slice_index_or taken i (record { file = 0; page = 0 })

-- this is the write of an edit to come
abbrev pub Spells : List PageId → Draft → NextEdit → Type 0
Spells taken draft e = draft_write (taken_in taken) draft ≡ record { page = e.page; slot = e.slot; bytes = e.bytes }

-- this is the write of the first edit
abbrev pub IsNextEdit : Course → NextEdit → Type 0
IsNextEdit c e = (draft : Draft) (drafts : List Draft) → c.edits ≡ draft ∷ drafts → draft_write (taken_at c) draft ≡ record { page = e.page; slot = e.slot; bytes = e.bytes }

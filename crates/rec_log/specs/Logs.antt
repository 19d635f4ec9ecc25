-- What is answered for a log, and for bytes that are none.
use Rattle.std.specs.Prelude.{◌≡◌, ℕ, List, map, Result, Ok, Err}
use Rattle.page_base.specs.Places.{IsFault}
use Rattle.rec_log.specs.declared.entries.LogEntry.{LogEntry}
use Rattle.rec_log.specs.declared.refusal.LogForm.{LogForm}
use Rattle.rec_log.specs.declared.refusal.LogForm.TheVariants as why
use Rattle.rec_log.specs.Entries.{Entry, AreEntries, entry_of, log_fields}

-- the answer is these entries, or want of memory
abbrev pub GivesLog : List Entry → Result (List LogEntry) LogForm → Type 0
GivesLog entries (Ok list) = map entry_of list ≡ entries
GivesLog entries (Err (why.Form at)) = ⊥
GivesLog entries (Err why.Memory) = Unit {0}

-- a refusal for its form says where the first wrong field begins
abbrev pub Refuses : List ℕ → LogForm → Type 0
Refuses bytes (why.Form at) = IsFault AreEntries log_fields bytes at
Refuses bytes why.Memory = Unit {0}

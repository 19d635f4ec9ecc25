-- Pages with the open changes of some sessions taken back: what was committed, and what each session sees.
use Rattle.std.specs.Prelude.{ℕ, zero, suc, ◌==◌, if◌then◌else◌, List, [], ◌++◌, drop}
use Rattle.page_base.specs.Slots.{Slots}
use Rattle.rec_log.specs.Records.{Record}
use Rattle.rec_log.specs.Undone.{undone}

-- the records of each session, by its place
abbrev pub Parts : Type 0
Parts = ℕ → List Record

-- those of the first n sessions, one behind the other
abbrev pub all : ℕ → Parts → List Record
all zero part = []
all (suc n) part = all n part ++ part n

-- those of all sessions, with others of session k
abbrev pub with_part : Parts → ℕ → List Record → Parts
with_part part k records j = if j == k then records else part j

-- what was committed: all open changes taken back
abbrev pub settled : ℕ → Parts → Slots → Slots
settled n work slots = undone (all n work) slots

-- the pages as session k sees them: all open changes of others taken back
abbrev pub alone : ℕ → Parts → ℕ → Slots → Slots
alone n work k slots = undone (all n (with_part work k [])) slots

-- the same before its present statement, whose records are those behind the first `base`
abbrev pub before : ℕ → Parts → ℕ → ℕ → Slots → Slots
before n work k base slots = undone (all n (with_part work k (drop base (work k)))) slots

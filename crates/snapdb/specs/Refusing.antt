-- What a call that made no history answers and writes.
use Rattle.std.specs.Prelude.{ℕ, ◌≡◌, ◌⊎◌, ◌≤◌, ⊤, List, Option}
use Rattle.std.specs.Io.KnownBytes.{Appends, Keeps}
use Rattle.page_dev.specs.Faults.{Rose}
use Rattle.page_dev.specs.Sink.{AppendsFront}
use Rattle.snapdb.specs.declared.top.PlayRefusal.{PlayRefusal}
use Rattle.snapdb.specs.declared.top.PlayRefusal.TheVariants.{Source, Memory, Long, Script}
use Rattle.snapdb.specs.Headline.{long_line, script_line, Exceeds, IsRefused}

-- the cause of each refusal, by what was left of the source, what is left, and its counts of faults
abbrev pub HasReason : PlayRefusal → Option (List ℕ) → Option (List ℕ) → ℕ → ℕ → Type 0
HasReason Source old new before now = Rose before now
HasReason Memory old new before now = ⊤
HasReason Long old new before now = Exceeds old new
HasReason (Script line why) old new before now = IsRefused old new line why

-- the line was written whole with status 2, or a front of it with the sink's refusal
pub record WritesLine (line : List ℕ) (status : ℕ) (old new : Option (List ℕ)) (before now : ℕ) : Type 0 where
  pub known : (status ≡ 2) ⊎ ((status ≡ 3) ⊎ (status ≡ 4))
  pub all : status ≡ 2 → Appends old new line
  pub front : AppendsFront old new line
  pub failed : status ≡ 3 → Rose before now
  pub later : before ≤ now

-- nothing was written
pub record Silent (wanted status : ℕ) (old new : Option (List ℕ)) (before now : ℕ) : Type 0 where
  pub is : status ≡ wanted
  pub kept : Keeps old new
  pub later : before ≤ now

-- what is written of each refusal, and with which status
abbrev pub Answers : PlayRefusal → ℕ → Option (List ℕ) → Option (List ℕ) → ℕ → ℕ → Type 0
Answers Source status old new before now = Silent 5 status old new before now
Answers Memory status old new before now = Silent 4 status old new before now
Answers Long status old new before now = WritesLine long_line status old new before now
Answers (Script line why) status old new before now = WritesLine (script_line line why) status old new before now

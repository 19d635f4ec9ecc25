-- Which line of a script is refused, and why.
use Rattle.std.specs.Prelude.{ℕ, ◌≡◌, ◌≤◌, ◌<◌, List, Option, Some}
use Rattle.plain_model.specs.declared.stmt.Stmt.{Stmt}
use Rattle.plain_model.specs.declared.pick.Pick.{Pick}
use Rattle.script_read.specs.declared.refusal.Why.{Why}
use Rattle.script_read.specs.declared.refusal.Why.TheVariants.{Many}
use Rattle.script_read.specs.declared.refusal.ScriptRefusal.{ScriptRefusal}
use Rattle.script_read.specs.declared.refusal.ScriptRefusal.TheVariants.{Refused, Memory}
use Rattle.script_read.specs.Lines.{lines_of}
use Rattle.script_read.specs.Faults.{Place, InFront, Fault, fault, first_fault}
use Rattle.script_read.specs.Limit.{IsPast, batches}
use Rattle.script_read.specs.Script.{IsScript}

-- The first line that is refused: one that can't stand in its place, where the statement past the limit doesn't begin before it; or the one
-- on which that statement begins, where all lines up to it can stand in their places.
pub data IsFirst (form : Option Fault) (past : ℕ → Type 0) : ℕ → Why → Type 0 where
  by_form : (line : ℕ) (why : Why) → form ≡ Some (fault line why) → ((other : ℕ) → past other → line ≤ other) → IsFirst form past line why
  by_count : (line : ℕ) → past line → ((other : ℕ) → past other → line ≤ other) → ((f : Fault) → form ≡ Some f → line < f.line) → IsFirst form past line Many

-- The first refused one of some lines is this, for this reason. The first of them stands in this place and is numbered so, and so many
-- statements came before.
abbrev pub IsFirstOf : Place → ℕ → ℕ → List (List ℕ) → ℕ → Why → Type 0
IsFirstOf place said number lines line why = IsFirst (first_fault place number lines) (IsPast said (batches place number lines)) line why

-- This line, counted from 1, is the first of the script that is refused, for this reason; so the bytes are no script.
pub record IsRefusedAt (bytes : List ℕ) (line : ℕ) (why : Why) : Type 0 where
  pub first : IsFirstOf InFront 0 1 (lines_of bytes) line why
  pub none : (scripts : List (List Stmt)) (picks : List Pick) → IsScript bytes scripts picks → ⊥

-- a refusal of the first line that is refused, or for want of memory
abbrev pub IsRefusal : List ℕ → ScriptRefusal → Type 0
IsRefusal bytes Memory = Unit {0}
IsRefusal bytes (Refused line why) = IsRefusedAt bytes line why

-- the same of some lines, without those before
abbrev pub Refuses : Place → ℕ → ℕ → List (List ℕ) → ScriptRefusal → Type 0
Refuses place said number lines Memory = Unit {0}
Refuses place said number lines (Refused line why) = IsFirstOf place said number lines line why

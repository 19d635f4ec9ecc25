-- What may stand on a line, by the lines before it.
use Rattle.std.specs.Prelude.{ℕ, ◌+◌, nat_le, nat_lt, ◌==◌, ◌&&◌, if◌then◌else◌, List, [], ◌∷◌, length, Option, Some, None}
use Rattle.plain_model.specs.declared.pick.Pick.{Pick}
use Rattle.script_read.specs.declared.refusal.Why.{Why}
use Rattle.script_read.specs.declared.refusal.Why.TheVariants as why
use Rattle.script_read.specs.Decimal.{number_of}
use Rattle.script_read.specs.Classes.{is_text, is_skipped, begins_with_colon, is_session, number_part, is_schedule}
use Rattle.script_read.specs.Picks.{picks_on}

-- Where in a script a line stands: before the first session, in a session (and how many began so far), or in the schedule (and how many
-- sessions and picks there are).
pub data Place : Type 0 where
  InFront : Place
  Within : (sessions : ℕ) → Place
  Scheduled : (sessions picks : ℕ) → Place

-- how many picks there are
abbrev pub pick_count : Option (List Pick) → ℕ
pick_count None = 0
pick_count (Some picks) = length picks

-- where the next line stands
abbrev pub place_behind : Place → List ℕ → Place
place_behind InFront line = if is_session line then Within 1 else InFront
place_behind (Within n) line = if begins_with_colon line then (if is_session line then Within (n + 1) else Scheduled n 0) else Within n
place_behind (Scheduled n picks) line = Scheduled n (picks + pick_count (picks_on n line))

-- a session's line names the next number, which is 64 at most
abbrev pub session_fault : ℕ → List ℕ → Option Why
session_fault n line = if number_of (number_part line) == n + 1 && nat_lt n 64 then None else Some why.Session

-- a line that begins with a colon begins a session, or the schedule
abbrev pub heading_fault : ℕ → List ℕ → Option Why
heading_fault n line = if is_session line then session_fault n line else (if is_schedule line then None else Some why.Directive)

-- the pick past 1,000,000 may not come
abbrev pub count_fault : ℕ → Option Why
count_fault picks = if nat_le picks 1000000 then None else Some why.Many

-- a line of picks, behind so many others
abbrev pub picks_fault : ℕ → List ℕ → Option (List Pick) → Option Why
picks_fault before line None = if begins_with_colon line then Some why.Directive else Some why.Pick
picks_fault before line (Some picks) = count_fault (before + length picks)

-- why a line of text can't stand in its place, if it can't
abbrev pub form_fault : Place → List ℕ → Option Why
form_fault InFront line = if is_skipped line then None else (if is_session line then session_fault 0 line else Some why.Before)
form_fault (Within n) line = if begins_with_colon line then heading_fault n line else None
form_fault (Scheduled n picks) line = picks_fault picks line (picks_on n line)

-- why a line can't stand in its place, if it can't
abbrev pub fault_of : Place → List ℕ → Option Why
fault_of place line = if is_text line then form_fault place line else Some why.Byte

-- the line numbered so can't stand
pub record Fault : Type 0 where
  pub line : ℕ
  pub why : Why

abbrev pub fault : ℕ → Why → Fault
fault line why = record { line = line; why = why }

-- this fault, or else that of later lines
abbrev pub or_later : ℕ → Option Why → Option Fault → Option Fault
or_later line None later = later
or_later line (Some why) later = Some (fault line why)

-- the first line that can't stand in its place, where the first of these lines is numbered so
abbrev pub first_fault : Place → ℕ → List (List ℕ) → Option Fault
first_fault place number [] = None
first_fault place number (line ∷ lines) = or_later number (fault_of place line) (first_fault (place_behind place line) (number + 1) lines)

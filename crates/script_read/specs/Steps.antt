-- What one step of reading does with the lines that are left.
use Rattle.std.specs.List.{list_all}
use Rattle.std.specs.Prelude.{ℕ, ◌+◌, ◌-◌, ◌≡◌, ◌≤◌, ◌<◌, ◌==◌, nat_le, if◌then◌else◌, MatchOption, sum_by, ◌&&◌, not, Bool, true, false, List, [], ◌∷◌, ◌++◌, length, Option, Some, None}
use Rattle.plain_model.specs.declared.pick.Pick.{Pick}
use Rattle.plain_model.specs.declared.stmt.Stmt.{Stmt}
use Rattle.script_read.specs.declared.refusal.Why.{Why}
use Rattle.script_read.specs.declared.refusal.Why.TheVariants.{Byte, Many}
use Rattle.script_read.specs.declared.refusal.ScriptRefusal.{ScriptRefusal}
use Rattle.script_read.specs.declared.refusal.ScriptRefusal.TheVariants.{Refused, Memory}
use Rattle.script_read.specs.Classes.{is_text, is_skipped, begins_with_colon, is_go, is_schedule, is_session}
use Rattle.script_read.specs.Taking.{is_inner, first_is_inner, first_bad}
use Rattle.script_read.specs.Limit.{Says, Batch, batches, IsPast, Begins}
use Rattle.script_read.specs.Script.{IsBody, ArePickLines, IsSchedule, AreSessions}
use Rattle.script_read.specs.Refusal.{IsFirst}
use Rattle.script_read.specs.Picks.{picks_on}
use Rattle.script_read.specs.Faults.{Place, InFront, Within, Scheduled, place_behind, fault_of, first_fault}

-- the picks were added where they are there
abbrev pub Adds : Bool → List Pick → List Pick → Option (List Pick) → Type 0
Adds true old new picks = (more : List Pick) × (picks ≡ Some more) × (new ≡ old ++ more)
Adds false old new picks = picks ≡ None

-- the picks of a line of the schedule were added, or it can't stand there
pub record AddsLine (fault : Option Why) (sessions : ℕ) (line : List ℕ) (old new : List Pick) : Type 0 where
  pub fault_is : fault ≡ fault_of (Scheduled sessions (length old)) line
  pub adds : fault ≡ None → Adds true old new (picks_on sessions line)

-- lines of the schedule were read to the end
pub record ReadsPicks (sessions number : ℕ) (lines : List (List ℕ)) (picks : List Pick) : Type 0 where
  pub form : first_fault (Scheduled sessions 0) number lines ≡ None
  pub lines_are : ArePickLines sessions lines picks
  pub few : length picks ≤ 1000000

-- the statement past the limit, if a batch behind so many statements has it, begins on this line
abbrev pub PastIn : Option ℕ → List ℕ → ℕ → ℕ → ℕ → Type 0
PastIn past batch first said count = MatchOption past (said + count ≤ 20000) (λ line. (20000 < said + count) × Begins batch first (20000 - said) line)

-- the refusal of a batch by its first bad line and the line of the statement past the limit
abbrev pub refusal_by : Option ℕ → Option ℕ → Option ScriptRefusal
refusal_by None None = None
refusal_by None (Some past) = Some (Refused past Many)
refusal_by (Some bad) None = Some (Refused bad Byte)
refusal_by (Some bad) (Some past) = if nat_le bad past then Some (Refused bad Byte) else Some (Refused past Many)

-- a batch behind so many statements was read
pub record ReadsBatch (said : ℕ) (stmts : List Stmt) (number : ℕ) (old : List (List ℕ)) (next : ℕ) (new : List (List ℕ)) : Type 0 where
  pub lines : List (List ℕ)
  pub split : old ≡ lines ++ new
  pub inner : list_all is_inner lines ≡ true
  pub stops : first_is_inner new ≡ false
  pub says : Says lines stmts
  pub text : first_bad None number lines ≡ None
  pub few : said + length stmts ≤ 20000
  pub next_is : next ≡ number + length lines

-- the batches behind the first of these lines, which ends one
abbrev pub later : Place → ℕ → List (List ℕ) → List Batch
later place number [] = []
later place number (line ∷ lines) = batches (place_behind place line) (number + 1) lines

-- whether no line of a session is left: a line that begins with a colon comes, or none
abbrev pub is_over : List (List ℕ) → Bool
is_over [] = true
is_over (line ∷ lines) = begins_with_colon line

-- whether the first line is there, and is GO
abbrev pub first_goes : List (List ℕ) → Bool
first_goes [] = false
first_goes (line ∷ lines) = is_go line

-- a line that is GO was taken, if it came
abbrev pub PassesGo : Bool → ℕ → List (List ℕ) → ℕ → List (List ℕ) → Type 0
PassesGo true number old next new = (line : List ℕ) × (old ≡ line ∷ new) × (is_go line ≡ true) × (next ≡ number + 1)
PassesGo false number old next new = (first_goes old ≡ false) × (new ≡ old) × (next ≡ number)

-- a session's lines were read, behind so many sessions and statements
pub record ReadsSession (said : ℕ) (stmts : List Stmt) (number : ℕ) (old : List (List ℕ)) (next : ℕ) (new : List (List ℕ)) : Type 0 where
  pub body : List (List ℕ)
  pub split : old ≡ body ++ new
  pub is : IsBody body stmts
  pub over : is_over new ≡ true
  pub few : said + length stmts ≤ 20000
  pub form : (n : ℕ) → first_fault (Within n) number old ≡ first_fault (Within n) next new
  pub past : (n m : ℕ) → IsPast said (batches (Within n) number old) m → IsPast (said + length stmts) (later (Within n) next new) m
  pub back : (n m : ℕ) → IsPast (said + length stmts) (later (Within n) next new) m → IsPast said (batches (Within n) number old) m

-- where lines stand that come behind so many sessions
abbrev pub place_at : ℕ → Place
place_at n = if n == 0 then InFront else Within n

-- a line that may stand before the first session
abbrev pub is_front : List ℕ → Bool
is_front line = is_text line && is_skipped line

-- whether no such line is left in front
abbrev pub is_front_over : List (List ℕ) → Bool
is_front_over [] = true
is_front_over (line ∷ lines) = not (is_front line)

-- the lines before the first session were taken
pub record SkipsFront (number : ℕ) (old : List (List ℕ)) (next : ℕ) (new : List (List ℕ)) : Type 0 where
  pub front : List (List ℕ)
  pub split : old ≡ front ++ new
  pub skipped : list_all is_front front ≡ true
  pub over : is_front_over new ≡ true
  pub next_is : next ≡ number + length front

-- whether behind so many sessions no line of the last one is left
abbrev pub is_behind : ℕ → List (List ℕ) → Bool
is_behind n lines = if n == 0 then is_front_over lines else is_over lines

-- no line is left, or the one that begins the schedule comes
pub data IsLast (n : ℕ) : List (List ℕ) → Type 0 where
  no_line : IsLast n []
  schedule_line : (line : List ℕ) (lines : List (List ℕ)) → is_schedule line ≡ true → fault_of (place_at n) line ≡ None → 1 ≤ n → IsLast n (line ∷ lines)

-- the next session's line was taken, or what is left has none
abbrev pub BeginsSession : Bool → ℕ → ℕ → List (List ℕ) → ℕ → List (List ℕ) → Type 0
BeginsSession true n number old next new =
    (line : List ℕ) × (old ≡ line ∷ new) × (is_session line ≡ true) × (fault_of (place_at n) line ≡ None) × (next ≡ number + 1)
BeginsSession false n number old next new = IsLast n old × (new ≡ old) × (next ≡ number)

-- the first refused one of lines that end the batch before them
abbrev pub RefusesLater : Place → ℕ → ℕ → List (List ℕ) → ScriptRefusal → Type 0
RefusesLater place said number lines Memory = Unit {0}
RefusesLater place said number lines (Refused line why) = IsFirst (first_fault place number lines) (IsPast said (later place number lines)) line why

-- sessions were read behind the lines in front
pub record ReadsSessions (scripts : List (List Stmt)) (number : ℕ) (old : List (List ℕ)) (next : ℕ) (new : List (List ℕ)) : Type 0 where
  pub spelled : (more : List (List Stmt)) (picks : List Pick) → AreSessions (length scripts) new more picks → AreSessions 0 old (scripts ++ more) picks
  pub form : first_fault InFront number old ≡ first_fault (place_at (length scripts)) next new
  pub past : (m : ℕ) → IsPast 0 (later InFront number old) m → IsPast (sum_by length scripts) (later (place_at (length scripts)) next new) m
  pub back : (m : ℕ) → IsPast (sum_by length scripts) (later (place_at (length scripts)) next new) m → IsPast 0 (later InFront number old) m
  pub few : length scripts ≤ 64
  pub short : sum_by length scripts ≤ 20000

-- the schedule behind so many sessions was read, if it is there
pub record ReadsLast (n number : ℕ) (lines : List (List ℕ)) (picks : List Pick) : Type 0 where
  pub form : first_fault (place_at n) number lines ≡ None
  pub is : IsSchedule n lines picks
  pub few : length picks ≤ 1000000

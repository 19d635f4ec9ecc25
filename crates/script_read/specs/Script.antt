-- What is a script, and the statements and picks that it says.
use Rattle.std.specs.Prelude.{ℕ, ◌+◌, ◌≡◌, ◌≤◌, true, List, [], ◌∷◌, ◌++◌, length, sum_by, codes, not}
use Rattle.std.specs.List.{list_all, slice_split}
use Rattle.plain_model.specs.declared.stmt.Stmt.{Stmt}
use Rattle.plain_model.specs.declared.pick.Pick.{Pick}
use Rattle.script_read.specs.Lines.{lines_of}
use Rattle.script_read.specs.Classes.{is_text, is_skipped, begins_with_colon, is_go, IsSession}
use Rattle.script_read.specs.Picks.{HasPicks}
use Rattle.script_read.specs.Limit.{Says}

-- batches say these statements, one behind the other
abbrev pub SayAll : List (List (List ℕ)) → List Stmt → Type 0
SayAll [] stmts = stmts ≡ []
SayAll (batch ∷ batches) stmts = (first : List Stmt) × (rest : List Stmt) × (stmts ≡ first ++ rest) × Says batch first × SayAll batches rest

-- The lines of a session, of which none begins with a colon, say these statements: lines that are GO part its batches.
pub record IsBody (body : List (List ℕ)) (stmts : List Stmt) : Type 0 where
  pub plain : list_all (λ line. not (begins_with_colon line)) body ≡ true
  pub says : SayAll (slice_split is_go body) stmts

-- lines of picks
abbrev pub ArePickLines : ℕ → List (List ℕ) → List Pick → Type 0
ArePickLines sessions [] picks = picks ≡ []
ArePickLines sessions (line ∷ lines) picks = (first : List Pick) × (rest : List Pick) × (picks ≡ first ++ rest) × HasPicks sessions line first × ArePickLines sessions lines rest

-- Behind the sessions stands nothing, or, where there is one, `:schedule` and lines of picks.
pub data IsSchedule (sessions : ℕ) : List (List ℕ) → List Pick → Type 0 where
  none : IsSchedule sessions [] []
  schedule : (lines : List (List ℕ)) (picks : List Pick) → 1 ≤ sessions → ArePickLines sessions lines picks → IsSchedule sessions (codes ":schedule" ∷ lines) picks

-- So many sessions have begun; these lines are further ones and the schedule. Each session is the line with its number, and its lines.
abbrev pub AreSessions : ℕ → List (List ℕ) → List (List Stmt) → List Pick → Type 0
AreSessions n lines [] picks = IsSchedule n lines picks
AreSessions n lines (stmts ∷ scripts) picks =
    (heading : List ℕ) × (body : List (List ℕ)) × (rest : List (List ℕ)) × (lines ≡ heading ∷ body ++ rest) × IsSession (n + 1) heading × IsBody body stmts
    × AreSessions (n + 1) rest scripts picks

-- The bytes are a script: lines of text; some that are skipped, then sessions and perhaps a schedule, within the limits.
pub record IsScript (bytes : List ℕ) (scripts : List (List Stmt)) (picks : List Pick) : Type 0 where
  pub front : List (List ℕ)
  pub rest : List (List ℕ)
  pub split : lines_of bytes ≡ front ++ rest
  pub text : list_all is_text (lines_of bytes) ≡ true
  pub skipped : list_all is_skipped front ≡ true
  pub sessions : AreSessions 0 rest scripts picks
  pub few : length scripts ≤ 64
  pub short : sum_by length scripts ≤ 20000
  pub played : length picks ≤ 1000000

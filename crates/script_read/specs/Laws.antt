-- What the grammar of scripts promises of itself: one reading, one refusal.
use Rattle.std.specs.Prelude.{ℕ, ◌≡◌, List, map}
use Rattle.plain_model.specs.declared.stmt.Stmt.{Stmt}
use Rattle.plain_model.specs.declared.pick.Pick.{Pick}
use Rattle.sql_read.specs.Bare.{bare}
use Rattle.script_read.specs.declared.refusal.Why.{Why}
use Rattle.script_read.specs.Script.{IsScript}
use Rattle.script_read.specs.Refusal.{IsRefusedAt}
use Rattle.script_read.specs.Picks.{IsPick, pick_of}
use Rattle.std.specs.Prelude.{Some}

-- a script says one list of statements for each session, wherever the parts of their expressions lie in memory, and one schedule
abbrev pub HasOneReading : List ℕ → Type 0
HasOneReading bytes = (scripts others : List (List Stmt)) (picks more : List Pick) → IsScript bytes scripts picks → IsScript bytes others more → (map (map bare) scripts ≡ map (map bare) others) × (picks ≡ more)

-- bytes are refused at one line, for one reason
abbrev pub HasOneRefusal : List ℕ → Type 0
HasOneRefusal bytes = (a b : ℕ) (v w : Why) → IsRefusedAt bytes a v → IsRefusedAt bytes b w → (a ≡ b) × (v ≡ w)

-- a word is read as a pick exactly where it is written as one
pub record ReadsAsWritten (sessions : ℕ) (word : List ℕ) (pick : Pick) : Type 0 where
  pub written : pick_of sessions word ≡ Some pick → IsPick sessions word pick
  pub read : IsPick sessions word pick → pick_of sessions word ≡ Some pick

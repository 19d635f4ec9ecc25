-- Snapshots are read without locks.
use Rattle.std.specs.Prelude.{ℕ, ◌≡◌, ◌≢◌, Bool, true, false, ◌&&◌, ◌||◌, List, [], ◌∷◌, ◌++◌, map, Option, Some, None}
use Rattle.std.specs.List.{list_any}
use Rattle.std.specs.Str.{bytes_eq}
use Rattle.plain_model.specs.declared.stmt.Stmt.{Stmt}
use Rattle.plain_model.specs.declared.stmt.Stmt.TheVariants.{Select}
use Rattle.plain_model.specs.declared.event.Event.{Event}
use Rattle.plain_model.specs.declared.event.Event.TheVariants.{Locked, Said}
use Rattle.plain_model.specs.declared.reply.TheConstants.Message.{LOCKED}
use Rattle.plain_model.specs.declared.reply.Reply.TheVariants.{Msg}
use Rattle.plain_model.specs.Journal.{Opening}
use Rattle.plain_model.specs.State.{Plain, session, stmt_of, master, is_snap}
use Rattle.plain_model.specs.Sound.{are_distinct}
use Rattle.plain_model.specs.Legal.{Legal, end}

-- What the names of an opening keep: the source isn't `master`, no snapshot has the name of either or of another, and
-- no two data files have one name.
pub record IsOpening (o : Opening) : Type 0 where
  pub source : bytes_eq o.source master ≡ false
  pub apart : list_any (λ s. bytes_eq s.name o.source || bytes_eq s.name master) o.snaps ≡ false
  pub distinct : are_distinct (map (λ s. s.name) o.snaps) ≡ true
  pub files : are_distinct o.files ≡ true

abbrev pub is_select : Option Stmt → Bool
is_select (Some (Select s)) = true
is_select _ = false

-- the session's statement is a SELECT, and its current database a snapshot
abbrev pub reads_snap : Plain → ℕ → Bool
reads_snap st k = is_select (stmt_of st k) && is_snap st (session st k).current

-- the event is no lock of a SELECT in a snapshot, and no refusal of one for a lock
abbrev pub IsUnlocked : Plain → Event → Type 0
IsUnlocked st (Locked who table mode) = reads_snap st who.0 ≡ false
IsUnlocked st (Said who n began (Msg m)) = reads_snap st who.0 ≡ true → m.number ≢ LOCKED
IsUnlocked st e = Unit {0}

-- no SELECT in a snapshot takes a lock or is refused for one
abbrev pub AreUnlocked : Type 0
AreUnlocked = (opening : Opening) (scripts : List (List Stmt)) (before later : List Event) (e : Event) → IsOpening opening →
    Legal opening scripts (before ++ e ∷ later) → IsUnlocked (end opening scripts before) e

-- The journal of what was committed and of the snapshots, and the whole tables that it leaves.
use Rattle.std.specs.Prelude.{ℕ, Bool, List, [], ◌∷◌, map, unwrap_or}
use Rattle.std.specs.Ordering.{nat_cmp}
use Rattle.std.specs.Cmp.Lexicographic.{slice_cmp}
use Rattle.std.specs.FinMap as finite
use Rattle.plain_model.specs.Tables.{Tables, Change, apply}

-- a snapshot that is there at the opening; the tables of a suspect one are never shown
pub record OpenedSnap : Type 0 where
  pub name : List ℕ
  pub files : List (List ℕ)
  pub cut : ℕ
  pub suspect : Bool
  pub tables : Tables

-- What a run begins with: the source's name, its data files by their logical names, and its tables; the open snapshots
-- in order of their cuts; the number of the next cut; the names of files on the volume.
pub record Opening : Type 0 where
  pub source : List ℕ
  pub files : List (List ℕ)
  pub tables : Tables
  pub snaps : List OpenedSnap
  pub next_cut : ℕ
  pub on_volume : List (List ℕ)

-- one entry of the journal: a session's changes were committed, a snapshot was cut or dropped, or the source was
-- reverted to a snapshot
pub data Entry : Type 0 where
  Committed : (who : ℕ) (changes : List Change) → Entry
  Cut : (snap : List ℕ) → Entry
  Dropped : (snap : List ℕ) → Entry
  Reverted : (snap : List ℕ) → Entry

-- the source's tables, and a whole copy of them for each snapshot
pub record Held : Type 0 where
  pub source : Tables
  pub copies : finite.FinMap (slice_cmp nat_cmp) Tables

abbrev pub copy_in : Held → List ℕ → Tables
copy_in held snap = unwrap_or (finite.get held.copies snap) finite.empty

-- what one entry leaves: a cut keeps a whole copy, a drop forgets it, a revert makes it the source
abbrev pub after_entry : Entry → Held → Held
after_entry (Committed who changes) held = record held { source = apply changes held.source }
after_entry (Cut snap) held = record held { copies = finite.insert held.copies snap held.source }
after_entry (Dropped snap) held = record held { copies = finite.remove held.copies snap }
after_entry (Reverted snap) held = record held { source = copy_in held snap }

-- what the journal leaves, its newest entry standing first
abbrev pub held : Opening → List Entry → Held
held opening [] = record { source = opening.tables; copies = finite.from_entries (map (λ s. (s.name, s.tables)) opening.snaps) }
held opening (entry ∷ before) = after_entry entry (held opening before)

-- the source's tables with all that was committed
abbrev pub source : Opening → List Entry → Tables
source opening journal = (held opening journal).source

-- the static view of a snapshot: the tables as they were committed at its cut
abbrev pub copy : Opening → List Entry → List ℕ → Tables
copy opening journal snap = copy_in (held opening journal) snap

-- Which objects a step names: those whose count of faults rose in it, or stands at its last value.
use Rattle.std.specs.Prelude.{ℕ, ◌≡◌, ◌+◌, ◌-◌, ◌^◌, min, nat_le, Bool, ◌&&◌, List, map, filter}
use Rattle.std.specs.Str.{bytes_eq}
use Rattle.std.specs.List.{Any, list_any}
use Rattle.page_dev.specs.Faults.{Rose}

-- the log, the data files, the volume, and snapshots by their names; a file that the step itself made counts as the volume's
pub record Risen : Type 0 where
  pub log : Bool
  pub files : Bool
  pub volume : Bool
  pub snaps : List (List ℕ)

-- an open snapshot, and how many faults its sparse files met, all in all
pub record SnapCount : Type 0 where
  pub name : List ℕ
  pub faults : ℕ

-- how many faults each object met up to a moment
pub record Counts : Type 0 where
  pub log : ℕ
  pub files : ℕ
  pub volume : ℕ
  pub snaps : List SnapCount

-- whether a count rose, or stands at its last value
abbrev pub has_risen : ℕ → ℕ → Bool
has_risen before now = nat_le (min (before + 1) (2 ^ 64 - 1)) now

-- whether that of a snapshot did
abbrev pub rises_in : List SnapCount → SnapCount → Bool
rises_in now s = list_any (λ (t : SnapCount). bytes_eq t.name s.name && has_risen s.faults t.faults) now

-- what a step names that found these counts and left those
abbrev pub risen : Counts → Counts → Risen
risen before now = record {
  log = has_risen before.log now.log;
  files = has_risen before.files now.files;
  volume = has_risen before.volume now.volume;
  snaps = map (λ (s : SnapCount). s.name) (filter (rises_in now.snaps) before.snaps);
}

-- whether it names a snapshot
abbrev pub names_snap : Risen → List ℕ → Bool
names_snap rose name = list_any (bytes_eq name) rose.snaps

-- the snapshot of a name is there before and behind the step, and its count rose
abbrev pub IsRisen : Counts → Counts → List ℕ → Type 0
IsRisen before now name = Any (λ (s : SnapCount). (s.name ≡ name) × Any (λ (t : SnapCount). (t.name ≡ name) × Rose s.faults t.faults) now.snaps) before.snaps

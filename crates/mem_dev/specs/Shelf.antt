-- What is asked of a file that a volume in memory keeps.
use Rattle.std.specs.Prelude.{◌≡◌, ◌≢◌, ⊤, ℕ, ◌-◌, ◌*◌, ◌++◌, Bool, true, false, List, [], length, take, replicate, Option, Some, unwrap_or}
use Rattle.std.specs.Option.{option_map}
use Rattle.std.specs.FinMap as map
use Rattle.page_dev.specs.declared.volume.VolRefusal.{VolRefusal}
use Rattle.page_dev.specs.declared.volume.VolRefusal.TheVariants.{Exists, Absent, Length, Failed, Memory}
use Rattle.page_dev.specs.Volume.{Kept, Lies, Out, Folder}

-- the file's bytes, none where it is out
abbrev pub kept_bytes : Kept → List ℕ
kept_bytes (Lies bytes) = bytes
kept_bytes Out = []

-- why a file that is there isn't given as so many pages: for its length, or for want of memory
abbrev pub IsWhy : ℕ → Kept → VolRefusal → Type 0
IsWhy pages kept Exists = ⊥
IsWhy pages kept Absent = ⊥
IsWhy pages kept (Length found) = (length (kept_bytes kept) ≡ found) × (found ≢ 8192 * pages)
IsWhy pages kept Failed = ⊥
IsWhy pages kept Memory = ⊤

-- whether a file lies at a place
abbrev pub lies : Option Kept → Bool
lies (Some (Lies bytes)) = true
lies _ = false

-- the bytes of the file at a name, none where there is none
abbrev pub kept_at : Folder → List ℕ → List ℕ
kept_at folder name = unwrap_or (option_map kept_bytes (map.get folder name)) []

-- the first bytes, and zeros where they are fewer
abbrev pub resized : ℕ → List ℕ → List ℕ
resized n bytes = take n bytes ++ replicate (n - length bytes) 0

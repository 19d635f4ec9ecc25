-- A finite map from file name to file, and which names are out.
use Rattle.std.specs.Prelude.{◌≡◌, ◌≢◌, ◌⊎◌, ⊤, ℕ, ◌*◌, Bool, true, false, IsTrue, if◌then◌else◌, List, length, Option, Some, None, is_ok, Result, Ok, Err, OnOk}
use Rattle.std.specs.List.{concat}
use Rattle.std.specs.Ordering.{nat_cmp}
use Rattle.std.specs.Cmp.Lexicographic.{slice_cmp}
use Rattle.std.specs.FinMap.{FinMap}
use Rattle.std.specs.FinMap as map
use Rattle.std.specs.FinSet.{FinSet}
use Rattle.std.specs.FinSet as set
use Rattle.page_dev.specs.PageFile.{FilePages}
use Rattle.page_dev.specs.declared.volume.VolRefusal.{VolRefusal}
use Rattle.page_dev.specs.declared.volume.VolRefusal.TheVariants.{Exists, Absent, Length, Failed, Memory}

abbrev pub Names : Type 0
Names = FinSet (slice_cmp nat_cmp)

-- what has a name's place: a file's bytes, or the mark that the file is out
pub data Kept : Type 0 where
  Lies : (bytes : List ℕ) → Kept
  Out : Kept

abbrev pub Folder : Type 0
Folder = FinMap (slice_cmp nat_cmp) Kept

-- whether the file of this place is out
abbrev pub is_out : Option Kept → Bool
is_out (Some Out) = true
is_out _ = false

-- what is out after a call that may give the file of this name
abbrev pub out_after : {T E : Type 0} → Names → List ℕ → Result T E → Names
out_after out name result = if is_ok result then set.insert out name else out

-- only this name's place may differ
abbrev pub OpensName : List ℕ → Folder → Folder → Type 0
OpensName name old new = map.remove new name ≡ map.remove old name

-- a file is made exactly where the name was free, and is out; a failure leaves the name's place open
abbrev pub Creates : {T : Type 0} → List ℕ → Folder → Folder → Result T VolRefusal → Type 0
Creates name old new (Ok _) = (map.get old name ≡ None) × (new ≡ map.insert old name Out)
Creates name old new (Err Exists) = IsTrue (map.contains_key old name) × (new ≡ old)
Creates name old new (Err Absent) = ⊥
Creates name old new (Err (Length _)) = ⊥
Creates name old new (Err Failed) = OpensName name old new
Creates name old new (Err Memory) = new ≡ old

-- the file with these bytes lay there and is out now
pub record Gives (told : Bool) (bytes name : List ℕ) (old new : Folder) : Type 0 where
  pub tells : IsTrue told
  pub had : map.get old name ≡ Some (Lies bytes)
  pub out : new ≡ map.insert old name Out

-- the file that lay there has another length than so many pages
pub record HasLength (found pages : ℕ) (name : List ℕ) (folder : Folder) : Type 0 where
  pub bytes : List ℕ
  pub had : map.get folder name ≡ Some (Lies bytes)
  pub long : length bytes ≡ found
  pub other : found ≢ 8192 * pages

-- the pages of a file are taken as they lie there; each refusal leaves all as it was
abbrev pub TakesPages : {P : Type 0} → (P → Bool) → (P → FilePages) → List ℕ → ℕ → Folder → Folder → Result P VolRefusal → Type 0
TakesPages tells content name pages old new (Ok file) = Gives (tells file) (concat (content file)) name old new
TakesPages tells content name pages old new (Err Exists) = ⊥
TakesPages tells content name pages old new (Err Absent) = (map.get old name ≡ None) × (new ≡ old)
TakesPages tells content name pages old new (Err (Length found)) = HasLength found pages name old × (new ≡ old)
TakesPages tells content name pages old new (Err Failed) = new ≡ old
TakesPages tells content name pages old new (Err Memory) = new ≡ old

-- the same of a log
abbrev pub TakesLog : {L : Type 0} → (L → Bool) → (L → List ℕ) → List ℕ → Folder → Folder → Result L VolRefusal → Type 0
TakesLog tells content name old new (Ok file) = Gives (tells file) (content file) name old new
TakesLog tells content name old new (Err Exists) = ⊥
TakesLog tells content name old new (Err Absent) = (map.get old name ≡ None) × (new ≡ old)
TakesLog tells content name old new (Err (Length _)) = ⊥
TakesLog tells content name old new (Err Failed) = new ≡ old
TakesLog tells content name old new (Err Memory) = new ≡ old

-- the name's place holds a file again: the one that was put there, or any where the call failed
pub record Puts {T E : Type 0} (told : Bool) (bytes name : List ℕ) (old new : Folder) (result : Result T E) : Type 0 where
  pub left : List ℕ
  pub is : new ≡ map.insert old name (Lies left)
  pub ok : IsTrue told → OnOk result (left ≡ bytes)

-- the name is free; after a failure it may still be as it was
abbrev pub Removes : {T E : Type 0} → List ℕ → Folder → Folder → Result T E → Type 0
Removes name old new (Ok _) = new ≡ map.remove old name
Removes name old new (Err _) = (new ≡ old) ⊎ (new ≡ map.remove old name)

-- the refusals that a call which makes a file may give
abbrev pub IsOfCreate : VolRefusal → Type 0
IsOfCreate Exists = ⊤
IsOfCreate Absent = ⊥
IsOfCreate (Length found) = ⊥
IsOfCreate Failed = ⊤
IsOfCreate Memory = ⊤

-- the refusals that a call which takes so many pages may give
abbrev pub IsOfTakePages : ℕ → VolRefusal → Type 0
IsOfTakePages pages Exists = ⊥
IsOfTakePages pages Absent = ⊤
IsOfTakePages pages (Length found) = found ≢ 8192 * pages
IsOfTakePages pages Failed = ⊤
IsOfTakePages pages Memory = ⊤

-- the refusals that a call which takes a log may give
abbrev pub IsOfTakeLog : VolRefusal → Type 0
IsOfTakeLog Exists = ⊥
IsOfTakeLog Absent = ⊤
IsOfTakeLog (Length found) = ⊥
IsOfTakeLog Failed = ⊤
IsOfTakeLog Memory = ⊤

-- What putting the sparse files back leaves of the volume, and how it ends.
use Rattle.std.specs.Prelude.{ℕ, ◌≡◌, ◌<◌, ◌≤◌, ⊤, Bool, IsTrue, List, [], slice_index_or, Some}
use Rattle.std.specs.List.{concat}
use Rattle.std.specs.FinMap as finite
use Rattle.std.specs.FinSet as finset
use Rattle.page_base.specs.declared.numbers.SnapNo.{SnapNo}
use Rattle.page_dev.specs.Faults.{Rose, added}
use Rattle.page_dev.specs.Volume.{Folder, Lies, Out}
use Rattle.early_pages.specs.Catalog.{snap_at}
use Rattle.early_pages.specs.Shown.{Shown, catalog, IsOpen, set_of}
use Rattle.early_engine.specs.declared.closing.CloseEnd.{CloseEnd}
use Rattle.early_engine.specs.declared.closing.CloseEnd.TheVariants.{Done, Fault}
use Rattle.early_engine.specs.Safe.{Disk}

-- the first snapshot
abbrev pub first : SnapNo
first = record { 0 = 0 }

-- the name of a snapshot's one sparse file
abbrev pub file_of : Shown → SnapNo → List ℕ
file_of v s = slice_index_or (snap_at (catalog v) s).files 0 []

-- the bytes of a snapshot's one sparse file
abbrev pub bytes_of : Shown → SnapNo → List ℕ
bytes_of v s = concat (slice_index_or (set_of v s).files.content 0 [])

-- some file failed
abbrev pub IsFault : CloseEnd → Type 0
IsFault Done = ⊥
IsFault (Fault name) = ⊤

-- the first of two ends that isn't Done
abbrev pub first_fault : CloseEnd → CloseEnd → CloseEnd
first_fault Done later = later
first_fault (Fault name) later = Fault name

-- where a file failed it is the one of this name
abbrev pub Names : List ℕ → CloseEnd → Type 0
Names name Done = ⊤
Names name (Fault failed) = failed ≡ name

-- the name's place holds a file again: the one that was out, or any where the volume failed
pub record Returns (told : Bool) (bytes name : List ℕ) (old new : Folder) (end : CloseEnd) : Type 0 where
  pub left : List ℕ
  pub had : finite.get old name ≡ Some Out
  pub is : new ≡ finite.insert old name (Lies left)
  pub ok : IsTrue told → end ≡ Done → left ≡ bytes

-- One file of this name, these bytes and so many faults was put back: the name is out no more, and the file's faults
-- count.
pub record PutsBack (name : List ℕ) (told : Bool) (bytes : List ℕ) (faults : ℕ) (old new : Disk) (end : CloseEnd) : Type 0 where
  pub out : new.out ≡ finset.remove old.out name
  pub tells : new.told ≡ old.told
  pub later : old.failures ≤ new.failures
  pub fault : IsFault end → Rose old.failures new.failures
  pub named : Names name end
  pub counted : new.file_failures ≡ added old.file_failures faults
  pub folder : IsTrue old.told → Returns told bytes name old.folder new.folder end

-- what lies in a folder that tells lies there afterwards
abbrev pub StillLies : Bool → Folder → Folder → Type 0
StillLies told old new = (name bytes : List ℕ) → IsTrue told → finite.get old name ≡ Some (Lies bytes) → finite.get new name ≡ Some (Lies bytes)

-- each of the first n snapshots' files that tells lies at its name's place, with its bytes
abbrev pub AreBack : Shown → ℕ → Disk → Type 0
AreBack v n disk = (s : SnapNo) → IsOpen v s → s.0 < n → IsTrue disk.told → IsTrue (set_of v s).files.tells → finite.get disk.folder (file_of v s) ≡ Some (Lies (bytes_of v s))

-- the file of this name is that of one of the first n snapshots, and all files before it are back
pub record IsFirstFault (v : Shown) (n : ℕ) (disk : Disk) (name : List ℕ) : Type 0 where
  pub snap : SnapNo
  pub there : IsOpen v snap
  pub among : snap.0 < n
  pub named : file_of v snap ≡ name
  pub before : AreBack v snap.0 disk

-- what the end tells of the first n snapshots' files: all are back, or all before the one that failed first
abbrev pub Ends : Shown → ℕ → Disk → CloseEnd → Type 0
Ends v n disk Done = AreBack v n disk
Ends v n disk (Fault name) = IsFirstFault v n disk name

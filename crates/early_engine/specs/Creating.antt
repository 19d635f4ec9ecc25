-- What CREATE DATABASE leaves of the volume, the pages and the history, and when it is refused.
use Rattle.std.specs.Prelude.{ℕ, ◌≡◌, ◌⊎◌, ◌<◌, ◌≤◌, ◌+◌, ◌^◌, ◌-◌, nat_le, Bool, true, false, ◌==◌, ◌||◌, ◌++◌, List, [], ◌∷◌, Some, IsTrue, slice_get, length}
use Rattle.std.specs.List.{list_any}
use Rattle.std.specs.Str.{bytes_eq}
use Rattle.std.specs.FinMap as finite
use Rattle.std.specs.FinSet as finset
use Rattle.page_dev.specs.Faults.{Rose}
use Rattle.plain_model.specs.declared.stmt.Stmt.{Stmt}
use Rattle.plain_model.specs.declared.event.Event.{Event}
use Rattle.plain_model.specs.declared.event.Event.TheVariants.{CutAt, Said}
use Rattle.plain_model.specs.declared.reply.Reply.{Reply}
use Rattle.plain_model.specs.declared.reply.Reply.TheVariants.{Ok, Msg}
use Rattle.plain_model.specs.declared.reply.TheConstants.Message.{FILE_FAILED, FILE_IS_THERE, NO_MEMORY, NO_ROOM, TOO_MANY_SNAPSHOTS}
use Rattle.plain_model.specs.Messages.{plain}
use Rattle.early_pages.specs.declared.state.SnapState.TheVariants.{Online}
use Rattle.early_pages.specs.Sparse.{Sparse}
use Rattle.early_pages.specs.Catalog.{Snap, Catalog}
use Rattle.early_pages.specs.Shown.{Shown, count, catalog}
use Rattle.early_engine.specs.Ready.{Allowed}
use Rattle.early_engine.specs.Safe.{Run, Disk, Safe, state, seat_at, script_at}
use Rattle.early_engine.specs.Stepping.{number}
use Rattle.early_engine.specs.Entering.{Kept}
use Rattle.early_engine.specs.Causes.{IsNoShortage, IsVolumeReply, is_early}

-- the statement is the next one of session i + 1, over this volume and these pages, whose source has one data file
pub record IsAsked (source file : List ℕ) (disk : Disk) (v : Shown) (stmt : Stmt) (e : Run) (i : ℕ) : Type 0 where
  pub safe : Safe e
  pub there : i < length e.scripts
  pub here : (seat_at e i).gone ≡ false
  pub says : slice_get (script_at e i) (seat_at e i).said ≡ Some stmt
  pub disk_is : e.disk ≡ disk
  pub shown_is : e.shown ≡ v
  pub source_is : e.opening.source ≡ source
  pub files_are : e.opening.files ≡ file ∷ []

-- the statement may be answered so
abbrev pub MayAnswer : List ℕ → List ℕ → Shown → Stmt → Reply → Type 0
MayAnswer source file v stmt reply = (disk : Disk) (e : Run) (i : ℕ) → IsAsked source file disk v stmt e i → Allowed (state e) (i + 1) stmt reply

-- eight snapshots are there, or no cut number is left
abbrev pub has_no_place : Shown → Bool
has_no_place v = nat_le 8 (count v) || nat_le (2 ^ 64 - 1) (catalog v).next_cut

-- why a snapshot whose names are right isn't made: the volume failed; the file's name is taken; there is no place for
-- it in the catalog; no memory was found
pub data Reason (disk disk' : Disk) (v : Shown) (path : List ℕ) (reply : Reply) : Type 0 where
  VolumeFailed : reply ≡ Msg (plain FILE_FAILED) → Rose disk.failures disk'.failures → Reason disk disk' v path reply
  HasFile : reply ≡ Msg (plain FILE_IS_THERE) → (IsTrue disk.told → finite.contains_key disk.folder path ≡ true) → Reason disk disk' v path reply
  HasNoPlace : reply ≡ Msg (plain TOO_MANY_SNAPSHOTS) → (IsTrue disk.told → finite.contains_key disk.folder path ≡ false) → has_no_place v ≡ true → Reason disk disk' v path reply
  HasNoMemory : reply ≡ Msg (plain NO_MEMORY) → Reason disk disk' v path reply

-- A refusal leaves the names as they were, on the volume and out; after a failure it is open whether the new names have
-- files.
pub record Refuses (names : List (List ℕ)) (old new : Disk) (reply : Reply) : Type 0 where
  pub code : ℕ
  pub is : reply ≡ Msg (plain code)
  pub told : new.told ≡ old.told
  pub places : IsTrue old.told → (name : List ℕ) → (((code == FILE_FAILED) ≡ true) × (list_any (bytes_eq name) names ≡ true)) ⊎ (finite.contains_key new.folder name ≡ finite.contains_key old.folder name)
  pub out : new.out ≡ old.out
  pub cause : (code == FILE_FAILED) ≡ true → Rose old.failures new.failures
  -- it never says that there is no room on pages
  pub roomy : (code == NO_ROOM) ≡ false
  -- nor of devices that aren't there yet
  pub early : is_early code ≡ false
  pub failures : old.failures ≤ new.failures
  pub file_failures : old.file_failures ≤ new.file_failures

-- a new file of this name is out, which told volumes had no file of and which wasn't out
pub record Makes (path : List ℕ) (old new : Disk) : Type 0 where
  pub told : new.told ≡ old.told
  pub fresh : IsTrue old.told → finite.contains_key old.folder path ≡ false
  pub places : IsTrue old.told → (name : List ℕ) → finite.contains_key new.folder name ≡ (bytes_eq name path || finite.contains_key old.folder name)
  pub out : (name : List ℕ) → finset.contains new.out name ≡ (bytes_eq name path || finset.contains old.out name)
  pub failures : old.failures ≤ new.failures
  pub file_failures : old.file_failures ≤ new.file_failures

-- A new file was put back and removed: its name is free as before; after a failure it is open whether it has a file.
pub record GivesBack (path : List ℕ) (old new : Disk) (reply : Reply) : Type 0 where
  pub code : ℕ
  pub is : reply ≡ Msg (plain code)
  pub either : (code ≡ NO_MEMORY) ⊎ ((code ≡ FILE_FAILED) × Rose old.failures new.failures)
  pub told : new.told ≡ old.told
  pub freed : IsTrue old.told → code ≡ NO_MEMORY → finite.contains_key new.folder path ≡ false
  pub places : IsTrue old.told → (name : List ℕ) → bytes_eq name path ≡ false → finite.contains_key new.folder name ≡ finite.contains_key old.folder name
  pub out : new.out ≡ finset.remove old.out path
  pub failures : old.failures ≤ new.failures
  pub file_failures : old.file_failures ≤ new.file_failures

-- A new sparse file is out: its name is these names alone, no snapshot's file has it, and where the volume tells it had
-- no file.
pub record IsNew (names used : List (List ℕ)) (old new : Disk) (files : List (List ℕ)) (set : Sparse) : Type 0 where
  pub path : List ℕ
  pub named : names ≡ path ∷ []
  pub listed : files ≡ path ∷ []
  pub unused : list_any (bytes_eq path) used ≡ false
  pub tells : IsTrue old.told → IsTrue set.files.tells
  pub makes : Makes path old new

-- the snapshot that is made
abbrev pub new_snap : Shown → List ℕ → List (List ℕ) → Sparse → Snap
new_snap v name files set = record { name = name; files = files; cut = (catalog v).next_cut; state = Online; set = set }

-- one snapshot more, in use, with the next cut number, which rises by one
abbrev pub with_snap : Shown → List ℕ → List (List ℕ) → Sparse → Catalog
with_snap v name files set = record { snaps = (catalog v).snaps ++ new_snap v name files set ∷ []; next_cut = (catalog v).next_cut + 1 }

-- the events of a cut and of its reply
abbrev pub cut_events : ℕ → ℕ → ℕ → List ℕ → List Event
cut_events k n began snap = CutAt (number k) snap ∷ Said (number k) n began Ok ∷ []

-- The events of CREATE DATABASE as statement n of session k: its reply, which says only where it is so that the volume
-- failed, and before it the cut where one was made.
pub record Adds (k n : ℕ) (disk disk' : Disk) (kept kept' : Kept) : Type 0 where
  pub reply : Reply
  pub amid : List Event
  pub grows : kept'.events ≡ kept.events ++ (amid ++ Said (number k) n (length kept.events) reply ∷ [])
  pub cuts : (amid ≡ []) ⊎ ((snap : List ℕ) × (amid ≡ CutAt (number k) snap ∷ []))
  pub room : IsNoShortage reply
  pub volume : IsVolumeReply disk.failures disk'.failures reply

-- What a log tells, and its bytes: the fields of its entries, one after the other.
use Rattle.std.specs.Prelude.{◌≡◌, ℕ, ◌<◌, ◌^◌, List, [], ◌∷◌, length}
use Rattle.std.specs.List.{concat, flat_map, AllByRecursion}
use Rattle.page_base.specs.Name.{IsLowName}
use Rattle.rec_log.specs.declared.entries.LogEntry.{LogEntry}
use Rattle.rec_log.specs.declared.entries.LogEntry.TheVariants as log
use Rattle.rec_log.specs.Records.{Record, IsRecord}
use Rattle.byte_fields.specs.Fields.{address, sized, short}
use Rattle.byte_fields.specs.Numbers.{number}

-- a transaction that committed with these records, or a revert to the snapshot of this name
pub data Entry : Type 0 where
  Commit : List Record → Entry
  Revert : List ℕ → Entry

-- an entry without where it lies in memory, and without its room for more
abbrev pub entry_of : LogEntry → Entry
entry_of (log.Commit work) = Commit work.recs
entry_of (log.Revert name) = Revert name

-- where the record's slot is, and what stood and stands there
abbrev pub record_fields : Record → List (List ℕ)
record_fields r = address r.page ∷ number 2 r.slot ∷ sized r.before ∷ sized r.after ∷ []

-- 1 and the number of records before a commit's records; 2 before a name, which is its length in one byte and its bytes
abbrev pub entry_fields : Entry → List (List ℕ)
entry_fields (Commit records) = (1 ∷ []) ∷ number 8 (length records) ∷ flat_map record_fields records
entry_fields (Revert name) = (2 ∷ []) ∷ short name ∷ []

-- the fields of all entries, in order
abbrev pub log_fields : List Entry → List (List ℕ)
log_fields = flat_map entry_fields

-- the bytes of one entry, and of a log
unfoldable pub entry_bytes : Entry → List ℕ
entry_bytes entry = concat (entry_fields entry)

unfoldable pub log_bytes : List Entry → List ℕ
log_bytes entries = concat (log_fields entries)

-- a record as the log holds it: the page's number has four bytes
pub record IsLogged (r : Record) : Type 0 where
  pub limits : IsRecord r
  pub number : r.page.page < 2 ^ 32

-- an entry as the log holds it: the number of records has eight bytes, and a name is one in lower case
abbrev pub IsEntry : Entry → Type 0
IsEntry (Commit records) = (length records < 2 ^ 64) × AllByRecursion IsLogged records
IsEntry (Revert name) = IsLowName name

-- each is such an entry
abbrev pub AreEntries : List Entry → Type 0
AreEntries = AllByRecursion IsEntry

-- the bytes are a log of these entries
pub record IsLog (bytes : List ℕ) (entries : List Entry) : Type 0 where
  pub each : AreEntries entries
  pub spelled : bytes ≡ log_bytes entries

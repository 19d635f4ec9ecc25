-- Reading an entry field by field, up to the first wrong one.
use Rattle.std.specs.Prelude.{◌==◌, ℕ, nat_lt, nat_le, if◌then◌else◌, List, length, Option, Some, None, Ok}
use Rattle.page_base.specs.declared.limits.TheConstants.{MAX_SLOTS, MAX_SLOT_BYTES}
use Rattle.page_base.specs.Reading.{Read, ◌>>=◌, times_at}
use Rattle.byte_fields.specs.Reading.{byte_at, number_at, address_at, sized_at, name_at, through}
use Rattle.rec_log.specs.declared.reader.Kind.{Kind}
use Rattle.rec_log.specs.declared.reader.Kind.TheVariants as kinds
use Rattle.rec_log.specs.Records.{Record}
use Rattle.rec_log.specs.Entries.{Entry, Commit, Revert}

-- which kind of entry a byte begins: 1 is a commit, 2 a revert
abbrev pub kind_of : ℕ → Option Kind
kind_of b = if b == 1 then Some kinds.Commit else (if b == 2 then Some kinds.Revert else None)

abbrev pub kind_at : List ℕ → Read Kind
kind_at = through kind_of byte_at

-- how many records a commit has
abbrev pub count_at : List ℕ → Read ℕ
count_at = number_at 8

-- which slot a record is of, below 4,048
abbrev pub slot_of : ℕ → Option ℕ
slot_of n = if nat_le MAX_SLOTS n then None else Some n

abbrev pub slot_at : List ℕ → Read ℕ
slot_at = through slot_of (number_at 2)

-- what a slot held, 8,094 bytes at most
abbrev pub held : List ℕ → Option (List ℕ)
held text = if nat_lt MAX_SLOT_BYTES (length text) then None else Some text

abbrev pub text_at : List ℕ → Read (List ℕ)
text_at = through held sized_at

-- the four fields of a record
unfoldable pub record_at : List ℕ → Read Record
record_at bytes = do
  page ← address_at bytes
  slot ← slot_at page.1
  before ← text_at slot.1
  after ← text_at before.1
  Ok (record { page = page.0; slot = slot.0; before = before.0; after = after.0 }, after.1)

-- a commit behind its kind
unfoldable pub commit_at : List ℕ → Read Entry
commit_at bytes = do
  count ← count_at bytes
  records ← times_at record_at count.0 count.1
  Ok (Commit records.0, records.1)

-- a revert behind its kind
unfoldable pub revert_at : List ℕ → Read Entry
revert_at bytes = do
  name ← name_at bytes
  Ok (Revert name.0, name.1)

-- what stands behind the kind
abbrev pub entry_of_kind : Kind → List ℕ → Read Entry
entry_of_kind kinds.Commit bytes = commit_at bytes
entry_of_kind kinds.Revert bytes = revert_at bytes

-- one entry
unfoldable pub entry_at : List ℕ → Read Entry
entry_at bytes = do
  kind ← kind_at bytes
  entry_of_kind kind.0 kind.1

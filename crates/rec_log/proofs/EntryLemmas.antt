-- Records and entries are formats: fields in a row, so many records, one of two kinds.
use Rattle.std.proofs.Common.{◌≡◌, ℕ, ◌^◌, ◌<◌, ◌≤◌, List, [], ◌∷◌, ◌++◌, length, refl, sym, ap, subst, arith}
use Rattle.std.specs.Prelude.{Ok}
use Rattle.std.specs.List.{concat, flat_map}
use Rattle.std.proofs.lemmas.List.{append-nil}
use Rattle.page_base.specs.declared.numbers.PageId.{PageId}
use Rattle.page_base.specs.Name.{IsLowName}
use Rattle.page_base.specs.Reading.{◌>>=◌, times_at}
use Rattle.page_base.proofs.FormatLemmas.{IsFormat, format_of_field, format_of_sequence, format_of_end}
use Rattle.page_base.proofs.ManyLemmas.{AreMany, format_of_times}
use Rattle.rec_log.specs.declared.reader.Kind.{Kind}
use Rattle.rec_log.specs.declared.reader.Kind.TheVariants as kinds
use Rattle.rec_log.specs.Records.{Record}
use Rattle.byte_fields.specs.Numbers.{number}
use Rattle.byte_fields.specs.Fields.{address, sized, short}
use Rattle.byte_fields.specs.Reading.{address_at, name_at}
use Rattle.byte_fields.proofs.FieldLemmas.{IsField-number, IsField-address, IsField-name}
use Rattle.rec_log.specs.Entries.{Entry, Commit, Revert, IsLogged, IsEntry, record_fields, entry_fields}
use Rattle.rec_log.specs.Reading.{kind_at, count_at, slot_at, text_at, record_at, commit_at, revert_at, entry_of_kind, entry_at}
use Rattle.rec_log.proofs.FieldLemmas.{IsField-kind, IsField-slot, IsField-text, AnyKind, kind_byte}

-- the records with these first parts
abbrev On : PageId → Record → Type 0
On p r = IsLogged r × (r.page ≡ p)

abbrev At : PageId → ℕ → Record → Type 0
At p s r = On p r × (r.slot ≡ s)

abbrev From : PageId → ℕ → List ℕ → Record → Type 0
From p s b r = At p s r × (r.before ≡ b)

module _ (p : PageId) (in_four : p.page < 2 ^ 32) where
  module _ (s : ℕ) (is_slot : s < 4048) where
    module _ (b : List ℕ) (b_short : length b ≤ 8094) where
      whole : (a : List ℕ) → length a ≤ 8094 → IsFormat (λ r. From p s b r × (r.after ≡ a)) (λ r. []) (λ bytes. Ok (record { page = p; slot = s; before = b; after = a }, bytes))
      whole a a_short = format_of_end (λ r. From p s b r × (r.after ≡ a)) (λ r. []) (record { page = p; slot = s; before = b; after = a }) (record {
        fits = ((((record { limits = record { slot = is_slot; before = b_short; after = a_short }; number = in_four }, refl), refl), refl), refl);
        only = λ r h i. record { page = h.0.0.0.1 i; slot = h.0.0.1 i; before = h.0.1 i; after = h.1 i };
        none = refl;
      })

      -- what stands there now
      from_after : IsFormat (From p s b) (λ r. sized r.after ∷ []) (λ bytes. text_at bytes >>= λ after. Ok (record { page = p; slot = s; before = b; after = after.0 }, after.1))
      from_after = format_of_sequence (λ (a : List ℕ). length a ≤ 8094) (λ a. sized a ∷ []) text_at (From p s b) (λ r. sized r.after ∷ []) (λ (r : Record). r.after) (λ r. []) (λ a bytes. Ok (record { page = p; slot = s; before = b; after = a }, bytes)) (record {
        first = format_of_field _ sized text_at IsField-text;
        second = whole;
        fits = λ r h. h.0.0.0.limits.after;
        are = λ r h. refl;
      })

    -- what stood there before
    from_before : IsFormat (At p s) (λ r. sized r.before ∷ sized r.after ∷ []) (λ bytes. text_at bytes >>= λ before. text_at before.1 >>= λ after. Ok (record { page = p; slot = s; before = before.0; after = after.0 }, after.1))
    from_before =
        format_of_sequence (λ (b : List ℕ). length b ≤ 8094) (λ b. sized b ∷ []) text_at (At p s) (λ r. sized r.before ∷ sized r.after ∷ []) (λ (r : Record). r.before) (λ r. sized r.after ∷ [])
        (λ b bytes. text_at bytes >>= λ after. Ok (record { page = p; slot = s; before = b; after = after.0 }, after.1)) (record {
          first = format_of_field _ sized text_at IsField-text;
          second = from_after;
          fits = λ r h. h.0.0.limits.before;
          are = λ r h. refl;
        })

  -- the slot
  from_slot : IsFormat (On p) (λ r. number 2 r.slot ∷ sized r.before ∷ sized r.after ∷ []) (λ bytes. slot_at bytes >>= λ slot. text_at slot.1 >>= λ before. text_at before.1 >>= λ after. Ok (record { page = p; slot = slot.0; before = before.0; after = after.0 }, after.1))
  from_slot =
      format_of_sequence (λ (s : ℕ). s < 4048) (λ s. number 2 s ∷ []) slot_at (On p) (λ r. number 2 r.slot ∷ sized r.before ∷ sized r.after ∷ []) (λ (r : Record). r.slot) (λ r. sized r.before ∷ sized r.after ∷ [])
      (λ s bytes. text_at bytes >>= λ before. text_at before.1 >>= λ after. Ok (record { page = p; slot = s; before = before.0; after = after.0 }, after.1)) (record {
        first = format_of_field _ (number 2) slot_at IsField-slot;
        second = from_before;
        fits = λ r h. h.0.limits.slot;
        are = λ r h. refl;
      })

pub IsFormat-record : IsFormat IsLogged record_fields record_at
unfolding record_at
IsFormat-record =
    format_of_sequence (λ (p : PageId). p.page < 2 ^ 32) (λ p. address p ∷ []) address_at IsLogged record_fields (λ (r : Record). r.page) (λ r. number 2 r.slot ∷ sized r.before ∷ sized r.after ∷ [])
    (λ p bytes. slot_at bytes >>= λ slot. text_at slot.1 >>= λ before. text_at before.1 >>= λ after. Ok (record { page = p; slot = slot.0; before = before.0; after = after.0 }, after.1)) (record {
      first = format_of_field _ address address_at IsField-address;
      second = from_slot;
      fits = λ r h. h.number;
      are = λ r h. refl;
    })

-- ---- one of two kinds

abbrev kind_of : Entry → Kind
kind_of (Commit records) = kinds.Commit
kind_of (Revert name) = kinds.Revert

-- the fields behind the kind
abbrev behind_kind : Entry → List (List ℕ)
behind_kind (Commit records) = number 8 (length records) ∷ flat_map record_fields records
behind_kind (Revert name) = (length name ∷ name) ∷ []

-- the fields behind a commit's number of records
abbrev behind_count : Entry → List (List ℕ)
behind_count (Commit records) = flat_map record_fields records
behind_count (Revert name) = []

abbrev records_of : Entry → List Record
records_of (Commit records) = records
records_of (Revert name) = []

abbrev name_of : Entry → List ℕ
name_of (Commit records) = []
name_of (Revert name) = name

abbrev OfKind : Kind → Entry → Type 0
OfKind kind entry = IsEntry entry × (kind_of entry ≡ kind)

abbrev OfCount : ℕ → Entry → Type 0
OfCount n entry = OfKind kinds.Commit entry × (length (records_of entry) ≡ n)

no_revert : {P : Type 0} (name : List ℕ) → kind_of (Revert name) ≡ kinds.Commit → P
no_revert name e = absurd (let wrong : kinds.Revert ≡ kinds.Commit = e in cc)

no_commit : {P : Type 0} (records : List Record) → kind_of (Commit records) ≡ kinds.Revert → P
no_commit records e = absurd (let wrong : kinds.Commit ≡ kinds.Revert = e in cc)

count_fits : (entry : Entry) → OfKind kinds.Commit entry → length (records_of entry) < 2 ^ 64
count_fits (Commit records) h = h.0.0
count_fits (Revert name) h = no_revert name h.1

count_is : (entry : Entry) → OfKind kinds.Commit entry → behind_kind entry ≡ number 8 (length (records_of entry)) ∷ behind_count entry
count_is (Commit records) h = refl
count_is (Revert name) h = no_revert name h.1

are_many : (n : ℕ) (entry : Entry) → OfCount n entry → AreMany IsLogged record_fields record_at IsFormat-record n (records_of entry)
are_many n (Commit records) h = record { count = h.1; each = h.0.0.1 }
are_many n (Revert name) h = no_revert name h.0.1

behind_is : (n : ℕ) (entry : Entry) → OfCount n entry → behind_count entry ≡ flat_map record_fields (records_of entry) ++ []
behind_is n (Commit records) h = sym (append-nil (flat_map record_fields records))
behind_is n (Revert name) h = no_revert name h.0.1

module _ (n : ℕ) (in_eight : n < 2 ^ 64) where
  commit_of : (records : List Record) → AreMany IsLogged record_fields record_at IsFormat-record n records → IsFormat (λ entry. OfCount n entry × (records_of entry ≡ records)) (λ entry. []) (λ bytes. Ok (Commit records, bytes))
  commit_of records many = format_of_end (λ entry. OfCount n entry × (records_of entry ≡ records)) (λ entry. []) (Commit records) (record {
    fits = ((((subst (λ k. k < 2 ^ 64) (sym many.count) in_eight, many.each), refl), many.count), refl);
    only = only;
    none = refl;
  })
    where
      only : (entry : Entry) → OfCount n entry × (records_of entry ≡ records) → entry ≡ Commit records
      only (Commit others) h = ap Commit h.1
      only (Revert name) h = no_revert name h.0.0.1

  from_records : IsFormat (OfCount n) behind_count (λ bytes. times_at record_at n bytes >>= λ records. Ok (Commit records.0, records.1))
  from_records =
      format_of_sequence (AreMany IsLogged record_fields record_at IsFormat-record n) (flat_map record_fields) (times_at record_at n) (OfCount n) behind_count records_of (λ entry. []) (λ records bytes. Ok (Commit records, bytes)) (record {
        first = format_of_times IsLogged record_fields record_at IsFormat-record n;
        second = commit_of;
        fits = are_many n;
        are = behind_is n;
      })

IsFormat-commit : IsFormat (OfKind kinds.Commit) behind_kind commit_at
unfolding commit_at
IsFormat-commit =
    format_of_sequence (λ (n : ℕ). n < 2 ^ 64) (λ n. number 8 n ∷ []) count_at (OfKind kinds.Commit) behind_kind (λ (entry : Entry). length (records_of entry)) behind_count
    (λ n bytes. times_at record_at n bytes >>= λ records. Ok (Commit records.0, records.1)) (record {
      first = format_of_field _ (number 8) count_at (IsField-number 8);
      second = from_records;
      fits = count_fits;
      are = count_is;
    })

name_fits : (entry : Entry) → OfKind kinds.Revert entry → IsLowName (name_of entry)
name_fits (Commit records) h = no_commit records h.1
name_fits (Revert name) h = h.0

name_is : (entry : Entry) → OfKind kinds.Revert entry → behind_kind entry ≡ short (name_of entry) ∷ []
name_is (Commit records) h = no_commit records h.1
name_is (Revert name) h = refl

revert_of : (name : List ℕ) → IsLowName name → IsFormat (λ entry. OfKind kinds.Revert entry × (name_of entry ≡ name)) (λ entry. []) (λ bytes. Ok (Revert name, bytes))
revert_of name low = format_of_end (λ entry. OfKind kinds.Revert entry × (name_of entry ≡ name)) (λ entry. []) (Revert name) (record {
  fits = ((low, refl), refl);
  only = only;
  none = refl;
})
  where
    only : (entry : Entry) → OfKind kinds.Revert entry × (name_of entry ≡ name) → entry ≡ Revert name
    only (Commit records) h = no_commit records h.0.1
    only (Revert other) h = ap Revert h.1

IsFormat-revert : IsFormat (OfKind kinds.Revert) behind_kind revert_at
unfolding revert_at
IsFormat-revert =
    format_of_sequence IsLowName (λ name. short name ∷ []) name_at (OfKind kinds.Revert) behind_kind name_of (λ entry. []) (λ name bytes. Ok (Revert name, bytes)) (record {
      first = format_of_field IsLowName short name_at IsField-name;
      second = revert_of;
      fits = name_fits;
      are = name_is;
    })

by_kind : (kind : Kind) → AnyKind kind → IsFormat (OfKind kind) behind_kind (entry_of_kind kind)
by_kind kinds.Commit any = IsFormat-commit
by_kind kinds.Revert any = IsFormat-revert

fields_by_kind : (entry : Entry) → IsEntry entry → entry_fields entry ≡ kind_byte (kind_of entry) ∷ behind_kind entry
fields_by_kind (Commit records) h = refl
fields_by_kind (Revert name) h = refl

pub IsFormat-entry : IsFormat IsEntry entry_fields entry_at
unfolding entry_at
IsFormat-entry =
    format_of_sequence AnyKind (λ kind. kind_byte kind ∷ []) kind_at IsEntry entry_fields kind_of behind_kind entry_of_kind (record {
      first = format_of_field AnyKind kind_byte kind_at IsField-kind;
      second = by_kind;
      fits = λ entry h. tt;
      are = fields_by_kind;
    })

-- an entry has bytes
pub entry_some_bytes : (entry : Entry) → IsEntry entry → 0 < length (concat (entry_fields entry))
entry_some_bytes (Commit records) h = omega arith
entry_some_bytes (Revert name) h = omega arith

-- A log read entry by entry: what is read, what is left, and where it stops.
use Rattle.std.proofs.Common.{◌≡◌, ◌≢◌, ℕ, ◌+◌, ◌-◌, ◌<◌, ◌≤◌, ◌↔◌, Bool, true, false, IsTrue, List, [], ◌∷◌, ◌++◌, length, take, get_or, sym, ap, subst, ◌∙◌, arith, append_assoc}
use Rattle.std.specs.Prelude.{Result, Ok, Err, OnOk}
use Rattle.std.specs.List.{concat, flat_map, AllByRecursion}
use Rattle.std.proofs.lemmas.List.{append-nil, length-append, take_more}
use Rattle.std.proofs.lemmas.List.Concat.{flat_map-append}
use Rattle.std.proofs.lemmas.List.Folds.{concat-append}
use Rattle.page_base.specs.Places.{IsFault}
use Rattle.page_base.specs.Reading.{Read, left}
use Rattle.page_base.proofs.FormatLemmas.{IsBytes, IsBytes-rest, shrinks}
use Rattle.page_base.proofs.ManyLemmas.{one_list, fault_of_stop}
use Rattle.rec_log.specs.Records.{Record}
use Rattle.rec_log.specs.Entries.{IsLogged, record_fields, Entry, IsEntry, AreEntries, IsLog, entry_fields, log_fields, entry_bytes, log_bytes}
use Rattle.rec_log.specs.Reading.{entry_at}
use Rattle.rec_log.proofs.EntryLemmas.{IsFormat-entry, entry_some_bytes}

-- the bytes are these entries, and a rest
pub record IsReadSoFar (bytes : List ℕ) (entries : List Entry) (rest : List ℕ) : Type 0 where
  pub each : AreEntries entries
  pub spelled : bytes ≡ concat (log_fields entries) ++ rest

more_entries : (entries : List Entry) (entry : Entry) → AreEntries entries → IsEntry entry → AreEntries (entries ++ entry ∷ [])
more_entries [] entry each fits = (fits, tt)
more_entries (e ∷ entries) entry each fits = (each.0, more_entries entries entry each.1 fits)

module _ (bytes : List ℕ) (h : IsBytes bytes) (entries : List Entry) (rest : List ℕ) (so_far : IsReadSoFar bytes entries rest) where
  rest_bytes : IsBytes rest
  rest_bytes = IsBytes-rest (concat (log_fields entries)) rest (subst IsBytes so_far.spelled h)

  -- one more entry
  pub read_more : (entry : Entry) (after : List ℕ) → entry_at rest ≡ Ok (entry, after) → IsReadSoFar bytes (entries ++ entry ∷ []) after
  read_more entry after e =
      let t = IsFormat-entry.takes rest entry after rest_bytes e in
      record {
        each = more_entries entries entry so_far.each t.0;
        spelled = so_far.spelled ∙ ap (λ (bs : List ℕ). concat (log_fields entries) ++ bs) t.1 ∙ sym (append_assoc (concat (log_fields entries)) (concat (entry_fields entry)) after)
            ∙ ap (λ (bs : List ℕ). bs ++ after) (sym (concat-append (log_fields entries) (entry_fields entry)) ∙ ap (λ (fs : List (List ℕ)). concat (log_fields entries ++ fs)) (sym (append-nil (entry_fields entry))) ∙ ap concat (sym (flat_map-append entry_fields entries (entry ∷ []))));
      }

  -- less is left after it
  pub read_shrinks : (entry : Entry) (after : List ℕ) → entry_at rest ≡ Ok (entry, after) → length after < length rest
  read_shrinks entry after e =
      let t = IsFormat-entry.takes rest entry after rest_bytes e in
      omega (arith, ap length t.1, length-append (concat (entry_fields entry)) after, entry_some_bytes entry t.0)

  -- a field that stops the reading
  pub read_stops : (stopped : List ℕ) → rest ≢ [] → entry_at rest ≡ Err stopped → IsFault AreEntries log_fields bytes (length bytes - length stopped)
  read_stops stopped ne e = fault_of_stop IsEntry entry_fields entry_at IsFormat-entry entry_some_bytes rest stopped e entries bytes h so_far.each so_far.spelled ne

  -- the reading stops within the bytes
  pub read_within : (stopped : List ℕ) → entry_at rest ≡ Err stopped → length stopped ≤ length bytes
  read_within stopped e =
      omega (arith, shrinks IsEntry entry_fields entry_at IsFormat-entry rest rest_bytes, ap (λ (r : Read Entry). length (left r)) e, ap length so_far.spelled, length-append (concat (log_fields entries)) rest)

-- bytes with a fault are no log
pub not_log : (bytes : List ℕ) (at : ℕ) → IsFault AreEntries log_fields bytes at → (entries : List Entry) → IsLog bytes entries → ⊥
unfolding log_bytes
not_log bytes at fault entries log = fault.none entries log.each log.spelled

-- nothing is left: the bytes are a log
pub read_all : (bytes : List ℕ) (entries : List Entry) (rest : List ℕ) → IsReadSoFar bytes entries rest → rest ≡ [] → IsLog bytes entries
unfolding log_bytes
read_all bytes entries rest so_far none =
    record { each = so_far.each; spelled = so_far.spelled ∙ ap (λ (bs : List ℕ). concat (log_fields entries) ++ bs) none ∙ append-nil (concat (log_fields entries)) }

-- one more entry at the end of a log
pub log_bytes-push : (entries : List Entry) (entry : Entry) → log_bytes (entries ++ entry ∷ []) ≡ log_bytes entries ++ entry_bytes entry
unfolding log_bytes entry_bytes
log_bytes-push entries entry =
    ap concat (flat_map-append entry_fields entries (entry ∷ [])) ∙ concat-append (log_fields entries) (entry_fields entry ++ [])
    ∙ ap (λ (fs : List (List ℕ)). concat (log_fields entries) ++ concat fs) (append-nil (entry_fields entry))

pub IsLog-push : (bytes : List ℕ) (entries : List Entry) (entry : Entry) → IsLog bytes entries → IsEntry entry → IsLog (bytes ++ entry_bytes entry) (entries ++ entry ∷ [])
IsLog-push bytes entries entry log fits =
    record { each = more_entries entries entry log.each fits; spelled = ap (λ (bs : List ℕ). bs ++ entry_bytes entry) log.spelled ∙ sym (log_bytes-push entries entry) }

-- bytes are one log at most
pub one_log : (bytes : List ℕ) (a b : List Entry) → IsLog bytes a → IsLog bytes b → a ≡ b
unfolding log_bytes
one_log bytes a b p q = one_list IsEntry entry_fields entry_at IsFormat-entry entry_some_bytes a b p.each q.each (sym p.spelled ∙ q.spelled)

pub on_ok : {T E P : Type 0} → P → (r : Result T E) → OnOk r P
on_ok p (Ok x) = p
on_ok p (Err e) = tt

logged_more : (records : List Record) (r : Record) → AllByRecursion IsLogged records → IsLogged r → AllByRecursion IsLogged (records ++ r ∷ [])
logged_more [] r each fits = (fits, tt)
logged_more (x ∷ records) r each fits = (each.0, logged_more records r each.1 fits)

-- one more record is written, and is as the log holds it
pub more_records : (records : List Record) (i : ℕ) (r : Record) (before old new : List ℕ) → i < length records → r ≡ get_or records i r → old ≡ before ++ concat (flat_map record_fields (take i records)) → AllByRecursion IsLogged (take i records) → new ≡ old ++ concat (record_fields r) → IsLogged r
    → (new ≡ before ++ concat (flat_map record_fields (take (i + 1) records))) × AllByRecursion IsLogged (take (i + 1) records)
more_records records i r before old new lt is written each now fits =
    let longer : take (i + 1) records ≡ take i records ++ r ∷ [] = take_more records i r lt ∙ ap (λ (x : Record). take i records ++ x ∷ []) (sym is) in
    let fields : flat_map record_fields (take (i + 1) records) ≡ flat_map record_fields (take i records) ++ record_fields r =
    ap (flat_map record_fields) longer ∙ flat_map-append record_fields (take i records) (r ∷ []) in (
      now ∙ ap (λ (bs : List ℕ). bs ++ concat (record_fields r)) written ∙ append_assoc before (concat (flat_map record_fields (take i records))) (concat (record_fields r))
          ∙ ap (λ (bs : List ℕ). before ++ bs) (sym (concat-append (flat_map record_fields (take i records)) (record_fields r)) ∙ ap concat (sym fields)),
      subst (AllByRecursion IsLogged) (sym longer) (logged_more (take i records) r each fits),
    )

-- whether the reader has come to its end
pub ended : {P : Type 0} (r : Bool) → (IsTrue r ↔ P) → r ≡ true → P
ended r h e = h.0 e

pub not_ended : {P : Type 0} (r : Bool) → (IsTrue r ↔ P) → r ≡ false → P → ⊥
not_ended r h e p = let wrong : true ≡ false = sym (h.1 p) ∙ e in cc

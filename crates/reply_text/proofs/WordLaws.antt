-- Words of events are read as they are written.
use Rattle.std.proofs.Common.{◌≡◌, ◌≢◌, ◌⊎◌, ℕ, ◌+◌, ◌^◌, ◌≤◌, ◌<◌, Bool, true, false, cond, not, ◌&&◌, ◌||◌, ◌==◌, List, [], ◌∷◌, ◌++◌, length, refl, sym, ap, subst, ◌∙◌, arith, inl, inr, lit≤, lt-ltb}
use Rattle.std.specs.Prelude.{Option, Some, None, option_and_then, nat_le, nat_lt, codes, slice_index}
use Rattle.std.specs.Option.{option_map}
use Rattle.std.specs.List.{list_all}
use Rattle.std.specs.Char.{is_ascii_digit}
use Rattle.std.specs.Str.{bytes_eq}
use Rattle.std.specs.Fmt.{decimal}
use Rattle.std.proofs.lemmas.Bool.{and_parts, cases_Bool, leb-true}
use borrow.Author.Tests.{ltb-true}
use Rattle.page_base.specs.declared.numbers.SessNo.{SessNo}
use Rattle.page_base.specs.declared.numbers.Mode.{Mode}
use Rattle.page_base.specs.declared.numbers.Mode.TheVariants.{S, X}
use Rattle.byte_fields.specs.Names.{low_name, is_low_name, is_low_byte}
use Rattle.plain_model.specs.declared.event.LockName.{LockName}
use Rattle.plain_model.specs.declared.event.LockName.TheVariants.{All, Table}
use Rattle.plain_model.specs.declared.reply.Carried.{Carried}
use Rattle.plain_model.specs.declared.reply.Carried.TheVariants.{Nothing, Number, Named}
use Rattle.plain_model.specs.Printed.{lock_text, mode_text}
use Rattle.reply_text.specs.Told.{is_session, is_small, is_large, is_told_lock, is_told_carried}
use Rattle.reply_text.specs.Numbers.{is_numeral, is_counting, number_on}
use Rattle.reply_text.specs.Pieces.{alone}
use Rattle.reply_text.specs.Headings.{session_of, session_on, small_on, large_on, name_in, large_in, lock_of, lock_on, mode_on, carried_of, carried_in}
use Rattle.reply_text.proofs.Options.{bound, mapped, chosen, guarded, both}
use Rattle.reply_text.proofs.NumberLemmas.{numeral_digits}
use Rattle.reply_text.proofs.NumberLaws.{number_sound, number_back}
use Rattle.reply_text.proofs.PieceLaws.{eq_of, alone_is}

most : 2 ^ 32 ≤ 2 ^ 64
most = lit≤ tt

all : 2 ^ 64 ≤ 2 ^ 64
all = lit≤ tt

pub small_sound : (word : List ℕ) (n : ℕ) → small_on word ≡ Some n → (word ≡ decimal n) × (is_small n ≡ true)
small_sound word n h = number_sound (2 ^ 32) word n most h

pub small_back : (n : ℕ) → is_small n ≡ true → small_on (decimal n) ≡ Some n
small_back n h = number_back (2 ^ 32) n most h

pub large_sound : (word : List ℕ) (n : ℕ) → large_on word ≡ Some n → (word ≡ decimal n) × (is_large n ≡ true)
large_sound word n h = number_sound (2 ^ 64) word n all h

pub large_back : (n : ℕ) → is_large n ≡ true → large_on (decimal n) ≡ Some n
large_back n h = number_back (2 ^ 64) n all h

few : 64 + 1 ≤ 2 ^ 64
few = lit≤ tt

-- a session's number is small
pub session_small : (n : ℕ) → is_session n ≡ true → is_large n ≡ true
session_small n h = let within : n ≤ 64 = leb-true n 64 (and_parts (nat_le 1 n) (nat_le n 64) h).1 in lt_true n (2 ^ 64) (omega (arith, within, few))
  where
    lt_true : (a b : ℕ) → a < b → nat_lt a b ≡ true
    lt_true a b h = lt-ltb a b h

pub session_sound : (word : List ℕ) (who : SessNo) → session_on word ≡ Some who → (word ≡ decimal who.0) × (is_session who.0 ≡ true)
session_sound word who h =
    let n = bound (large_on word) session_of who h in
    let known = guarded (is_session n.0) (record { 0 = n.0 }) who n.2 in
    subst (λ (s : SessNo). (word ≡ decimal s.0) × (is_session s.0 ≡ true)) known.1 ((large_sound word n.0 n.1).0, known.0)

pub session_back : (who : SessNo) → is_session who.0 ≡ true → session_on (decimal who.0) ≡ Some who
session_back who h = rw (large_back who.0 (session_small who.0 h), h) refl

pub name_sound : (word name : List ℕ) → low_name word ≡ Some name → (word ≡ name) × (is_low_name name ≡ true)
name_sound word name h = let known = guarded (is_low_name word) word name h in (known.1, subst (λ (n : List ℕ). is_low_name n ≡ true) known.1 known.0)

pub name_back : (name : List ℕ) → is_low_name name ≡ true → low_name name ≡ Some name
name_back name h = rw h refl

pub name_in_sound : (words : List (List ℕ)) (name : List ℕ) → name_in words ≡ Some name → (words ≡ name ∷ []) × (is_low_name name ≡ true)
name_in_sound words name h =
    let w = bound (alone words) low_name name h in
    let known = name_sound w.0 name w.2 in
    (alone_is words w.0 w.1 ∙ ap (λ (x : List ℕ). x ∷ []) known.0, known.1)

pub large_in_sound : (words : List (List ℕ)) (n : ℕ) → large_in words ≡ Some n → (words ≡ decimal n ∷ []) × (is_large n ≡ true)
large_in_sound words n h =
    let w = bound (alone words) large_on n h in
    let known = large_sound w.0 n w.2 in
    (alone_is words w.0 w.1 ∙ ap (λ (x : List ℕ). x ∷ []) known.0, known.1)

abbrev SaysLock : List ℕ → LockName → Type 0
SaysLock word t = (word ≡ lock_text t) × (is_told_lock t ≡ true)

lock_by : (word : List ℕ) (o : Option (List ℕ)) (t : LockName) → low_name word ≡ o → lock_of word o ≡ Some t → SaysLock word t
lock_by word None t e h = let known = guarded (bytes_eq word (codes "*")) All t h in subst (λ (l : LockName). SaysLock word l) known.1 (eq_of word (codes "*") known.0, refl)
lock_by word (Some name) t e h = let is : Table name ≡ t = cc in subst (λ (l : LockName). SaysLock word l) is (name_sound word name e)

pub lock_sound : (word : List ℕ) (t : LockName) → lock_on word ≡ Some t → (word ≡ lock_text t) × (is_told_lock t ≡ true)
lock_sound word t h = lock_by word (low_name word) t refl h

pub lock_back : (t : LockName) → is_told_lock t ≡ true → lock_on (lock_text t) ≡ Some t
lock_back All h = refl
lock_back (Table name) h = rw h refl

pub mode_sound : (word : List ℕ) (m : Mode) → mode_on word ≡ Some m → word ≡ mode_text m
mode_sound word m h = elim (chosen (bytes_eq word (codes "S")) (Some S) (cond {A = Option Mode} (bytes_eq word (codes "X")) (Some X) None) m h) [
  | inl shared ↦ (let is : S ≡ m = cc (shared.1) in eq_of word (codes "S") shared.0 ∙ ap mode_text is)
  | inr other ↦ (let known = guarded (bytes_eq word (codes "X")) X m other.1 in eq_of word (codes "X") known.0 ∙ ap mode_text known.1)
]

pub mode_back : (m : Mode) → mode_on (mode_text m) ≡ Some m
mode_back S = refl
mode_back X = refl

-- the words of what a message carries
abbrev pub carried_words : Carried → List (List ℕ)
carried_words Nothing = []
carried_words (Number n) = decimal n ∷ []
carried_words (Named name) = name ∷ []

abbrev SaysCarried : List (List ℕ) → Carried → Type 0
SaysCarried words c = (words ≡ carried_words c) × (is_told_carried c ≡ true)

carried_by : (word : List ℕ) (o : Option ℕ) (c : Carried) → large_on word ≡ o → carried_of word o ≡ Some c → SaysCarried (word ∷ []) c
carried_by word None c e h =
    let name = mapped (low_name word) Named c h in
    let known = name_sound word name.0 name.1 in
    subst (λ (x : Carried). SaysCarried (word ∷ []) x) name.2 (ap (λ (w : List ℕ). w ∷ []) known.0, known.1)
carried_by word (Some n) c e h =
    let is : Number n ≡ c = cc in
    let known = large_sound word n e in
    subst (λ (x : Carried). SaysCarried (word ∷ []) x) is (ap (λ (w : List ℕ). w ∷ []) known.0, known.1)

pub carried_sound : (words : List (List ℕ)) (c : Carried) → carried_in words ≡ Some c → (words ≡ carried_words c) × (is_told_carried c ≡ true)
carried_sound [] c h = let is : Nothing ≡ c = cc in subst (λ (x : Carried). SaysCarried [] x) is (refl, refl)
carried_sound (word ∷ []) c h = carried_by word (large_on word) c refl h
carried_sound (word ∷ next ∷ words) c h = cc

not_true : (b : Bool) → not b ≡ true → b ≡ false
not_true true h = cc
not_true false h = refl

-- a name doesn't begin with a digit
pub name_starts : (name : List ℕ) → is_low_name name ≡ true → is_ascii_digit (slice_index name 0) ≡ false
name_starts name h =
    let last = and_parts (nat_lt 0 (length name) && nat_le (length name) 128 && not (is_ascii_digit (slice_index name 0))) (list_all is_low_byte name) h in
    let third = and_parts (nat_lt 0 (length name) && nat_le (length name) 128) (not (is_ascii_digit (slice_index name 0))) last.0 in
    not_true (is_ascii_digit (slice_index name 0)) third.1

numeral_starts : (word : List ℕ) → is_numeral word ≡ true → is_ascii_digit (slice_index word 0) ≡ true
numeral_starts [] h = absurd (omega (arith, (numeral_digits [] h).1))
numeral_starts (d ∷ ds) h = (and_parts (is_ascii_digit d) (list_all is_ascii_digit ds) (numeral_digits (d ∷ ds) h).0).0

-- a name is no number
pub name_no_number : (name : List ℕ) → is_low_name name ≡ true → large_on name ≡ None
name_no_number name h = elim (cases_Bool (is_numeral name)) [
  | inl numeral ↦ (let a : is_ascii_digit (slice_index name 0) ≡ true = numeral_starts name numeral in let b : is_ascii_digit (slice_index name 0) ≡ false = name_starts name h in cc)
  | inr other ↦ rw other refl
]

pub carried_back : (c : Carried) → is_told_carried c ≡ true → carried_in (carried_words c) ≡ Some c
carried_back Nothing h = refl
carried_back (Number n) h = rw (large_back n h) refl
carried_back (Named name) h = rw (name_no_number name h, h) refl

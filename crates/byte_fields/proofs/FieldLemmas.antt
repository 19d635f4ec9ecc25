-- Each field: what is read is spelled so, what is spelled is read, and a wrong one is left as it stands.
use Rattle.std.proofs.Common.{◌≡◌, ℕ, suc, ◌+◌, ◌^◌, ◌<◌, ◌≤◌, inl, inr, Bool, true, false, cond, List, [], ◌∷◌, ◌++◌, length, take, drop, refl, sym, ap, subst, ◌∙◌, arith, append_assoc, lit<}
use Rattle.std.specs.Prelude.{nat_lt, slice_index, Ok, Err, Option, None, Some}
use Rattle.std.specs.Option.{SomeIff}
use Rattle.std.proofs.lemmas.Bool.{ltb-false, le-ltb, cases_Bool}
use Rattle.std.proofs.lemmas.Option.{none-some, same_Some}
use Rattle.std.proofs.lemmas.List.{take-append-drop, length-append, length-take, length-drop, take_at, drop_at}
use Rattle.page_base.specs.declared.numbers.PageId.{PageId}
use Rattle.page_base.specs.Name.{IsLowName}
use Rattle.page_base.specs.Reading.{Read, ◌>>=◌}
use Rattle.page_base.proofs.FormatLemmas.{IsBytes, IsField, ok, read_is, bind_ok, bind_err}
use Rattle.byte_fields.specs.Numbers.{number, number_in}
use Rattle.byte_fields.specs.Fields.{sized, short, address}
use Rattle.byte_fields.specs.Names.{is_low_name, low_name}
use Rattle.byte_fields.specs.Reading.{byte_at, number_at, address_at, sized_at, short_at, text_of, told, through, name_at}
use Rattle.byte_fields.specs.Laws.{IsSpelled}
use Rattle.byte_fields.proofs.Numbers.{number-number_in, number_in-number, number_in-lt, length-number}
use Rattle.byte_fields.proofs.LowNames.{IsLowName-true, IsLowName-back, kept_is}

-- a test that was passed, and one that wasn't
pub passed : {X : Type 0} (b : Bool) (bytes : List ℕ) (x : X) (after : List ℕ) (y : X) (rest : List ℕ) → cond b (Err bytes) (ok x after) ≡ Ok (y, rest) → (b ≡ false) × (x ≡ y) × (after ≡ rest)
passed true bytes x after y rest e = absurd cc
passed false bytes x after y rest e = let p = read_is x y after rest e in (refl, p.0, p.1)

pub refused : {X : Type 0} (b : Bool) (bytes : List ℕ) (x : X) (after rest : List ℕ) → cond b (Err bytes) (ok x after) ≡ Err rest → rest ≡ bytes
refused true bytes x after rest e = let same : bytes ≡ rest = cc in sym same
refused false bytes x after rest e = absurd cc

pub passed_to : {X : Type 0} (b : Bool) (bytes : List ℕ) (next : Read X) (y : X × List ℕ) → cond b (Err bytes) next ≡ Ok y → (b ≡ false) × (next ≡ Ok y)
passed_to true bytes next y e = absurd cc
passed_to false bytes next y e = (refl, e)

abbrev pub err : {X : Type 0} → List ℕ → Read X
err rest = Err rest

pub err_from : {X : Type 0} (bytes rest : List ℕ) → err {X = X} bytes ≡ err rest → bytes ≡ rest
err_from bytes rest e = cc

-- a number at the front
front : (n : ℕ) (bytes : List ℕ) → n ≤ length bytes → IsBytes bytes → bytes ≡ number n (number_in n bytes) ++ drop n bytes
front n bytes le h = sym (take-append-drop n bytes) ∙ ap (λ (f : List ℕ). f ++ drop n bytes) (sym (number-number_in n bytes le h))

long_enough : (n x : ℕ) (rest : List ℕ) → nat_lt (length (number n x ++ rest)) n ≡ false
long_enough n x rest = le-ltb _ n (omega (arith, length-append (number n x) rest, length-number n x))

behind : (n x : ℕ) (rest : List ℕ) → drop n (number n x ++ rest) ≡ rest
behind n x rest = drop_at (number n x) rest n (length-number n x)

-- ---- a byte

abbrev pub byte : ℕ → List ℕ
byte b = b ∷ []

byte_takes : (bytes : List ℕ) (b : ℕ) (rest : List ℕ) → IsBytes bytes → byte_at bytes ≡ Ok (b, rest) → (b < 256) × (bytes ≡ byte b ++ rest)
unfolding byte_at
byte_takes [] b rest h e = absurd cc
byte_takes (c ∷ bytes) b rest h e = let p = read_is c b bytes rest e in (subst (λ (x : ℕ). x < 256) p.0 (h 0), λ i. p.0 i ∷ p.1 i)

byte_again : (b : ℕ) (rest : List ℕ) → byte_at (byte b ++ rest) ≡ Ok (b, rest)
unfolding byte_at
byte_again b rest = refl

byte_stays : (bytes rest : List ℕ) → byte_at bytes ≡ Err rest → rest ≡ bytes
unfolding byte_at
byte_stays [] rest e = sym (err_from [] rest e)
byte_stays (c ∷ bytes) rest e = absurd cc

pub IsField-byte : IsField (λ b. b < 256) byte byte_at
IsField-byte = record { some = 0; some_fits = lit< tt; takes = byte_takes; again = λ b rest fits. byte_again b rest; stays = byte_stays }

-- ---- a number in so many bytes

number_takes : (size : ℕ) (bytes : List ℕ) (n : ℕ) (rest : List ℕ) → IsBytes bytes → number_at size bytes ≡ Ok (n, rest) → (n < 256 ^ size) × (bytes ≡ number size n ++ rest)
unfolding number_at
number_takes size bytes n rest h e =
    let g = passed (nat_lt (length bytes) size) bytes (number_in size bytes) (drop size bytes) n rest e in
    let long : size ≤ length bytes = ltb-false _ _ g.0 in
    (subst (λ (x : ℕ). x < 256 ^ size) g.1 (number_in-lt size bytes h), front size bytes long h ∙ (λ i. number size (g.1 i) ++ g.2 i))

number_again : (size n : ℕ) (rest : List ℕ) → n < 256 ^ size → number_at size (number size n ++ rest) ≡ Ok (n, rest)
unfolding number_at
number_again size n rest lt =
    ap (λ (b : Bool). cond b (Err (number size n ++ rest)) (Ok (number_in size (number size n ++ rest), drop size (number size n ++ rest)))) (long_enough size n rest)
    ∙ (λ i. Ok (number_in-number size n rest lt i, behind size n rest i))

number_stays : (size : ℕ) (bytes rest : List ℕ) → number_at size bytes ≡ Err rest → rest ≡ bytes
unfolding number_at
number_stays size bytes rest e = refused (nat_lt (length bytes) size) bytes (number_in size bytes) (drop size bytes) rest e

none_fits : (size : ℕ) → 0 < 256 ^ size
none_fits size = omega (arith, number_in-lt size [] (λ i. lit< tt))

pub IsField-number : (size : ℕ) → IsField (λ n. n < 256 ^ size) (number size) (number_at size)
IsField-number size = record { some = 0; some_fits = none_fits size; takes = number_takes size; again = number_again size; stays = number_stays size }

-- ---- an address

address_takes : (bytes : List ℕ) (p : PageId) (rest : List ℕ) → IsBytes bytes → address_at bytes ≡ Ok (p, rest) → (p.page < 2 ^ 32) × (bytes ≡ address p ++ rest)
unfolding address_at
address_takes [] p rest h e = absurd cc
address_takes (b ∷ bytes) p rest h e =
    let read : PageId = record { file = b; page = number_in 4 bytes } in
    let g = passed (nat_lt (length (b ∷ bytes)) 5) (b ∷ bytes) read (drop 4 bytes) p rest e in
    let long : 5 ≤ length (b ∷ bytes) = ltb-false _ _ g.0 in
    let later : IsBytes bytes = λ i. h (suc i) in
    let spelled : b ∷ bytes ≡ address read ++ drop 4 bytes = ap (λ (bs : List ℕ). b ∷ bs) (front 4 bytes (omega arith) later) in
    (subst (λ (q : PageId). q.page < 2 ^ 32) g.1 (number_in-lt 4 bytes later), spelled ∙ (λ i. address (g.1 i) ++ g.2 i))

address_again : (p : PageId) (rest : List ℕ) → p.page < 2 ^ 32 → address_at (address p ++ rest) ≡ Ok (p, rest)
unfolding address_at
address_again p rest lt =
    let long : nat_lt (length (p.file ∷ (number 4 p.page ++ rest))) 5 ≡ false = le-ltb _ 5 (omega (arith, length-append (number 4 p.page) rest, length-number 4 p.page)) in
    ap (λ (b : Bool). cond b (Err (p.file ∷ (number 4 p.page ++ rest))) (ok (record { file = p.file; page = number_in 4 (number 4 p.page ++ rest) }) (drop 4 (number 4 p.page ++ rest)))) long
    ∙ (λ i. Ok (record { file = p.file; page = number_in-number 4 p.page rest lt i }, behind 4 p.page rest i))

address_stays : (bytes rest : List ℕ) → address_at bytes ≡ Err rest → rest ≡ bytes
unfolding address_at
address_stays bytes rest e = refused (nat_lt (length bytes) 5) bytes (record { file = slice_index bytes 0; page = number_in 4 (drop 1 bytes) }) (drop 5 bytes) rest e

pub IsField-address : IsField (λ (p : PageId). p.page < 2 ^ 32) address address_at
IsField-address = record { some = record { file = 0; page = 0 }; some_fits = lit< tt; takes = address_takes; again = address_again; stays = address_stays }

-- ---- a text with its length in two bytes

sized_takes : (bytes text rest : List ℕ) → IsBytes bytes → sized_at bytes ≡ Ok (text, rest) → (length text < 2 ^ 16) × (bytes ≡ sized text ++ rest)
unfolding sized_at
sized_takes bytes text rest h e =
    let n : ℕ = number_in 2 bytes in
    let two = passed_to (nat_lt (length bytes) 2) bytes (text_of 2 n bytes) (text, rest) e in
    let long : 2 ≤ length bytes = ltb-false _ _ two.0 in
    let g = passed (nat_lt (length bytes) (2 + n)) bytes (take n (drop 2 bytes)) (drop n (drop 2 bytes)) text rest two.1 in
    let whole : 2 + n ≤ length bytes = ltb-false _ _ g.0 in
    let len : length (take n (drop 2 bytes)) ≡ n = omega (arith, length-take n (drop 2 bytes), length-drop 2 bytes) in
    let small : n < 2 ^ 16 = number_in-lt 2 bytes h in
    let spelled : bytes ≡ sized (take n (drop 2 bytes)) ++ drop n (drop 2 bytes) =
    front 2 bytes long h ∙ ap (λ (bs : List ℕ). number 2 n ++ bs) (sym (take-append-drop n (drop 2 bytes)))
    ∙ ap (λ (m : ℕ). number 2 m ++ (take n (drop 2 bytes) ++ drop n (drop 2 bytes))) (sym len)
    ∙ sym (append_assoc (number 2 (length (take n (drop 2 bytes)))) (take n (drop 2 bytes)) (drop n (drop 2 bytes))) in
    (subst (λ (t : List ℕ). length t < 2 ^ 16) g.1 (omega (arith, len, small)), spelled ∙ (λ i. sized (g.1 i) ++ g.2 i))

read_text : (bytes text rest : List ℕ) → nat_lt (length bytes) 2 ≡ false → number_in 2 bytes ≡ length text → drop 2 bytes ≡ text ++ rest → nat_lt (length bytes) (2 + length text) ≡ false → sized_at bytes ≡ Ok (text, rest)
unfolding sized_at
read_text bytes text rest long is back fits =
    ap (λ (b : Bool). cond b (Err bytes) (text_of 2 (number_in 2 bytes) bytes)) long
    ∙ ap (λ (n : ℕ). text_of 2 n bytes) is
    ∙ ap (λ (b : Bool). cond b (Err bytes) (ok (take (length text) (drop 2 bytes)) (drop (length text) (drop 2 bytes)))) fits
    ∙ (λ i. Ok (take (length text) (back i), drop (length text) (back i)))
    ∙ (λ i. Ok (take_at text rest (length text) refl i, drop_at text rest (length text) refl i))

sized_again : (text rest : List ℕ) → length text < 2 ^ 16 → sized_at (sized text ++ rest) ≡ Ok (text, rest)
sized_again text rest lt =
    let bytes : List ℕ = number 2 (length text) ++ (text ++ rest) in
    let whole : nat_lt (length bytes) (2 + length text) ≡ false =
    le-ltb (length bytes) (2 + length text) (omega (arith, length-append (number 2 (length text)) (text ++ rest), length-number 2 (length text), length-append text rest)) in
    ap sized_at (append_assoc (number 2 (length text)) text rest)
    ∙ read_text bytes text rest (long_enough 2 (length text) (text ++ rest)) (number_in-number 2 (length text) (text ++ rest) lt) (behind 2 (length text) (text ++ rest)) whole

sized_stays : (bytes rest : List ℕ) → sized_at bytes ≡ Err rest → rest ≡ bytes
unfolding sized_at
sized_stays bytes rest e = elim (cases_Bool (nat_lt (length bytes) 2)) [
  | inl cut ↦ sym (err_from bytes rest (sym (ap (λ (b : Bool). cond b (Err bytes) (text_of 2 (number_in 2 bytes) bytes)) cut) ∙ e))
  | inr long ↦
      refused (nat_lt (length bytes) (2 + number_in 2 bytes)) bytes (take (number_in 2 bytes) (drop 2 bytes)) (drop (number_in 2 bytes) (drop 2 bytes)) rest
      (sym (ap (λ (b : Bool). cond b (Err bytes) (text_of 2 (number_in 2 bytes) bytes)) long) ∙ e)
]

pub IsField-sized : IsField (λ (text : List ℕ). length text < 2 ^ 16) sized sized_at
IsField-sized = record { some = []; some_fits = lit< tt; takes = sized_takes; again = sized_again; stays = sized_stays }

-- ---- a text with its length in one byte

short_takes : (bytes text rest : List ℕ) → IsBytes bytes → short_at bytes ≡ Ok (text, rest) → (length text < 256) × (bytes ≡ short text ++ rest)
unfolding short_at
short_takes [] text rest h e = absurd cc
short_takes (n ∷ bytes) text rest h e =
    let g = passed (nat_lt (length (n ∷ bytes)) (1 + n)) (n ∷ bytes) (take n bytes) (drop n bytes) text rest e in
    let whole : 1 + n ≤ length (n ∷ bytes) = ltb-false _ _ g.0 in
    let len : n ≡ length text = omega (arith, length-take n bytes, ap length g.1) in
    let parts : bytes ≡ text ++ rest = sym (take-append-drop n bytes) ∙ (λ i. g.1 i ++ g.2 i) in
    (subst (λ (x : ℕ). x < 256) len (h 0), (λ i. len i ∷ parts i))

short_again : (text rest : List ℕ) → short_at (short text ++ rest) ≡ Ok (text, rest)
unfolding short_at
short_again text rest =
    let whole : nat_lt (length (short text ++ rest)) (1 + length text) ≡ false = le-ltb _ _ (omega (arith, length-append text rest)) in
    ap (λ (b : Bool). cond b (Err (short text ++ rest)) (ok (take (length text) (text ++ rest)) (drop (length text) (text ++ rest)))) whole
    ∙ (λ i. Ok (take_at text rest (length text) refl i, drop_at text rest (length text) refl i))

short_stays : (bytes rest : List ℕ) → short_at bytes ≡ Err rest → rest ≡ bytes
unfolding short_at
short_stays [] rest e = sym (err_from [] rest e)
short_stays (n ∷ bytes) rest e = refused (nat_lt (length (n ∷ bytes)) (1 + n)) (n ∷ bytes) (take n bytes) (drop n bytes) rest e

pub IsField-short : IsField (λ (text : List ℕ). length text < 256) short short_at
IsField-short = record { some = []; some_fits = lit< tt; takes = short_takes; again = λ text rest fits. short_again text rest; stays = short_stays }

-- ---- a field that tells another value

told_ok : {Y : Type 0} (bytes : List ℕ) (o : Option Y) (after : List ℕ) (y : Y) (rest : List ℕ) → told bytes o after ≡ Ok (y, rest) → (o ≡ Some y) × (after ≡ rest)
told_ok bytes None after y rest e = absurd cc
told_ok bytes (Some x) after y rest e = let p = read_is x y after rest e in (ap Some p.0, p.1)

told_err : {Y : Type 0} (bytes : List ℕ) (o : Option Y) (after rest : List ℕ) → told bytes o after ≡ Err rest → rest ≡ bytes
told_err bytes None after rest e = let same : bytes ≡ rest = cc in sym same
told_err bytes (Some x) after rest e = absurd cc

-- a field that was read, and what it tells
pub through_is : {X Y : Type 0} (f : X → Option Y) (read : List ℕ → Read X) (bytes : List ℕ) (x : X) (after : List ℕ) (o : Option Y) → read bytes ≡ ok x after → f x ≡ o → through f read bytes ≡ told bytes o after
unfolding through
through_is {X = X} {Y = Y} f read bytes x after o e is = ap (λ (r : Read X). r >>= λ y. told bytes (f y.0) y.1) e ∙ ap (λ (p : Option Y). told bytes p after) is

module _ {X Y : Type 0} (Fits : X → Type 0) (field : X → List ℕ) (read : List ℕ → Read X) (FitsY : Y → Type 0) (fieldY : Y → List ℕ) (f : X → Option Y) (back : Y → X) where
  -- each value of the field tells one other, and that is told by no other
  pub record Tells : Type 0 where
    pub some : Y
    pub some_fits : FitsY some
    pub takes : (x : X) (y : Y) → Fits x → f x ≡ Some y → FitsY y × (x ≡ back y)
    pub again : (y : Y) → FitsY y → Fits (back y) × (f (back y) ≡ Some y)
    pub field_is : (y : Y) → FitsY y → fieldY y ≡ field (back y)

  through_takes : IsField Fits field read → Tells → (bytes : List ℕ) (y : Y) (rest : List ℕ) → IsBytes bytes → through f read bytes ≡ Ok (y, rest) → FitsY y × (bytes ≡ fieldY y ++ rest)
  unfolding through
  through_takes i t bytes y rest h e =
      let b = bind_ok (read bytes) (λ x. told bytes (f x.0) x.1) (y, rest) e in
      let one = i.takes bytes b.0.0 b.0.1 h b.1 in
      let told = told_ok bytes (f b.0.0) b.0.1 y rest b.2 in
      let two = t.takes b.0.0 y one.0 told.0 in
      (two.0, one.1 ∙ (λ j. field (two.1 j) ++ told.1 j) ∙ ap (λ (fs : List ℕ). fs ++ rest) (sym (t.field_is y two.0)))

  through_again : IsField Fits field read → Tells → (y : Y) (rest : List ℕ) → FitsY y → through f read (fieldY y ++ rest) ≡ Ok (y, rest)
  unfolding through
  through_again i t y rest fits =
      let bytes : List ℕ = fieldY y ++ rest in
      let a = t.again y fits in
      let is : read bytes ≡ Ok (back y, rest) = ap (λ (fs : List ℕ). read (fs ++ rest)) (t.field_is y fits) ∙ i.again (back y) rest a.0 in
      ap (λ (r : Read X). r >>= λ x. told bytes (f x.0) x.1) is ∙ ap (λ (o : Option Y). told bytes o rest) a.1

  through_stays : IsField Fits field read → (bytes rest : List ℕ) → through f read bytes ≡ Err rest → rest ≡ bytes
  unfolding through
  through_stays i bytes rest e = elim (bind_err (read bytes) (λ x. told bytes (f x.0) x.1) rest e) [
    | inl stopped ↦ i.stays bytes rest stopped
    | inr went ↦ told_err bytes (f went.0.0) went.0.1 rest went.2
  ]

  pub field_through : IsField Fits field read → Tells → IsField FitsY fieldY (through f read)
  field_through i t = record { some = t.some; some_fits = t.some_fits; takes = through_takes i t; again = through_again i t; stays = through_stays i }

-- ---- a name

low_is : (bytes name : List ℕ) → low_name bytes ≡ Some name → IsLowName name × (bytes ≡ name)
low_is bytes name e = elim (cases_Bool (is_low_name bytes)) [
  | inl low ↦
      let same : bytes ≡ name = same_Some bytes name (sym (ap (λ (b : Bool). cond b (Some bytes) None) low) ∙ e) in
      (subst IsLowName same (IsLowName-true bytes low), same)
  | inr high ↦ absurd (none-some name (sym (ap (λ (b : Bool). cond b (Some bytes) None) high) ∙ e))
]

-- the name `a`
one_letter : IsLowName (97 ∷ [])
one_letter = IsLowName-true (97 ∷ []) refl

pub IsField-name : IsField IsLowName short name_at
IsField-name = field_through (λ (text : List ℕ). length text < 256) short short_at IsLowName short low_name (λ name. name) IsField-short (record {
  some = 97 ∷ [];
  some_fits = one_letter;
  takes = λ bytes name fits e. low_is bytes name e;
  again = λ name low. (omega (arith, low.name.short), ap (λ (b : Bool). cond b (Some name) None) (IsLowName-back name low));
  field_is = λ name low. refl;
})

-- a text with its length in one byte, taken for a name
pub name_read : (bytes text after : List ℕ) (o : Option (List ℕ)) → short_at bytes ≡ ok text after → SomeIff o (IsLowName text) text → name_at bytes ≡ told bytes o after
name_read bytes text after o e h = through_is low_name short_at bytes text after o e (sym (kept_is text o h))

-- ---- as law.rt says it

pub spelled : {X : Type 0} (Fits : X → Type 0) (field : X → List ℕ) (read : List ℕ → Read X) → IsField Fits field read → IsSpelled Fits field read
spelled Fits field read f = record { takes = f.takes; again = f.again; stays = f.stays }

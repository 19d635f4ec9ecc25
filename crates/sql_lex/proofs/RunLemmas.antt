-- Runs of letters, digits and `_`: numbers and names.
use Rattle.std.proofs.Common.{◌≡◌, ℕ, suc, ◌+◌, ◌*◌, ◌-◌, ◌<◌, ◌≤◌, Bool, true, false, cond, List, [], ◌∷◌, ◌++◌, length, take, drop, get_or, arith, ap, sym, ◌∙◌, refl, add-one}
use Rattle.std.proofs.Math.Seq.{drop-cons}
use Rattle.std.specs.Prelude.{nat_le, not, ◌&&◌, All}
use Rattle.std.specs.List.{list_all, prefix_len}
use Rattle.std.specs.Char.{is_ascii_digit}
use Rattle.std.proofs.lemmas.List.Folds.{list_all_at}
use Rattle.std.proofs.lemmas.Bool.{leb-true, le-leb}
use Rattle.sql_lex.proofs.BoolLemmas.{is_false, is_true, clash, both_hold}
use Rattle.page_base.specs.Name.{IsName, is_name_byte}
use Rattle.sql_lex.specs.Texts.{is_name}
use Rattle.sql_lex.specs.Tokens.{goes_on, starts, number_behind}
use Rattle.sql_lex.specs.Cut.{IsWord, IsRun}

number_grows : (n : ℕ) (ds : List ℕ) → n ≤ number_behind n ds
number_grows n [] = omega arith
number_grows n (d ∷ ds) = omega (arith, number_grows (n * 10 + (d - 48)) ds)

-- a number that is too large at some digit is too large
pub number_exceeds : (n m i most : ℕ) (ds : List ℕ) → i < length ds → number_behind n (drop i ds) ≡ m → most < n * 10 + (get_or ds i 0 - 48) → most < m
number_exceeds n m i most ds within value more =
    let e : number_behind (n * 10 + (get_or ds i 0 - 48)) (drop (suc i) ds) ≡ m = ap (number_behind n) (sym (drop-cons ds i 0 within)) ∙ value in
    omega (arith, e, number_grows (n * 10 + (get_or ds i 0 - 48)) (drop (suc i) ds))

within_one : (v : Bool) (n m : ℕ) → n ≤ m → cond v (1 + n) 0 ≤ suc m
within_one true n m h = omega arith
within_one false n m h = omega arith

-- no more bytes pass a test than there are
pub prefix_within : (test : ℕ → Bool) (bs : List ℕ) → prefix_len test bs ≤ length bs
prefix_within test [] = omega arith
prefix_within test (b ∷ bs) = within_one (test b) (prefix_len test bs) (length bs) (prefix_within test bs)

front_one : (test : ℕ → Bool) (b : ℕ) (bs : List ℕ) (v : Bool) → test b ≡ v → list_all test (take (prefix_len test bs) bs) ≡ true → list_all test (take (cond v (1 + prefix_len test bs) 0) (b ∷ bs)) ≡ true
front_one test b bs false h ih = refl
front_one test b bs true h ih = let e : 1 + prefix_len test bs ≡ suc (prefix_len test bs) = omega arith in rw (e, h) ih

-- those in front pass it
pub front_passes : (test : ℕ → Bool) (bs : List ℕ) → list_all test (take (prefix_len test bs) bs) ≡ true
front_passes test [] = refl
front_passes test (b ∷ bs) = front_one test b bs (test b) refl (front_passes test bs)

stops_one : (test : ℕ → Bool) (b : ℕ) (bs : List ℕ) (v : Bool) → test b ≡ v → starts test (drop (prefix_len test bs) bs) ≡ false → starts test (drop (cond v (1 + prefix_len test bs) 0) (b ∷ bs)) ≡ false
stops_one test b bs false h ih = h
stops_one test b bs true h ih = let e : 1 + prefix_len test bs ≡ suc (prefix_len test bs) = omega arith in rw e ih

-- the one behind them doesn't
pub prefix_stops : (test : ℕ → Bool) (bs : List ℕ) → starts test (drop (prefix_len test bs) bs) ≡ false
prefix_stops test [] = refl
prefix_stops test (b ∷ bs) = stops_one test b bs (test b) refl (prefix_stops test bs)

exact_end : (test : ℕ → Bool) (rest : List ℕ) → starts test rest ≡ false → prefix_len test rest ≡ 0
exact_end test [] stop = refl
exact_end test (b ∷ bs) stop = rw stop refl

-- how many pass, where others stop
pub prefix_exact : (test : ℕ → Bool) (bs rest : List ℕ) → list_all test bs ≡ true → starts test rest ≡ false → prefix_len test (bs ++ rest) ≡ length bs
prefix_exact test [] rest all stop = exact_end test rest stop
prefix_exact test (b ∷ bs) rest all stop =
    let both = both_hold (test b) (list_all test bs) all in
    let e : 1 + length bs ≡ suc (length bs) = omega arith in
    rw (both.0, prefix_exact test bs rest both.1 stop) e

pub all_same : (p q : ℕ → Bool) (bs : List ℕ) → ((c : ℕ) → p c ≡ q c) → list_all p bs ≡ list_all q bs
all_same p q [] same = refl
all_same p q (b ∷ bs) same = rw (same b, all_same p q bs same) refl

pub all_pass : (test : ℕ → Bool) (bs : List ℕ) → ((i d : ℕ) → i < length bs → test (get_or bs i d) ≡ true) → list_all test bs ≡ true
all_pass test [] h = refl
all_pass test (b ∷ bs) h = rw (h 0 0 (omega arith)) (all_pass test bs (λ i d within. h (suc i) d (omega (arith, within))))

pub each_passes : (test : ℕ → Bool) (bs : List ℕ) → list_all test bs ≡ true → All (λ c. test c ≡ true) bs
each_passes test bs h = λ k d within. is_true (test (get_or bs k d)) (λ no. let not_all : list_all test bs ≡ false = list_all_at test bs k d within no in cc)

-- a run that begins with a digit is digits
pub run_of_digits : (bytes : List ℕ) → is_ascii_digit (get_or bytes 0 0) ≡ true → IsRun bytes → list_all is_ascii_digit bytes ≡ true
run_of_digits [] digit h = absurd h
run_of_digits (b ∷ bs) digit h = rw digit (sym (all_same (goes_on b) is_ascii_digit bs (λ c. rw digit refl)) ∙ h.1)

-- another run is a word
pub run_is_word : (bytes : List ℕ) → is_ascii_digit (get_or bytes 0 0) ≡ false → IsRun bytes → IsWord bytes
run_is_word [] digit h = absurd h
run_is_word (b ∷ bs) digit h = (digit, h.0, sym (all_same (goes_on b) is_name_byte bs (λ c. rw (h.0, digit) refl)) ∙ h.1)

-- a word of at most 128 bytes is a name
pub word_is_name : (bytes : List ℕ) → IsWord bytes → length bytes ≤ 128 → IsName bytes
word_is_name [] h short = absurd h
word_is_name (b ∷ bs) h short = record { some = omega arith; short = short; starts = h.0; each = each_passes is_name_byte (b ∷ bs) (rw h.1 h.2) }

-- a word that is no name is too long
pub long_word : (bytes : List ℕ) → IsWord bytes → (IsName bytes → ⊥) → nat_le (length bytes) 128 ≡ false
long_word bytes h unnamed = is_false (nat_le (length bytes) 128) (λ short. unnamed (word_is_name bytes h (leb-true (length bytes) 128 short)))

-- the test of a name is the form of a name
pub is_name_is : (bs : List ℕ) → is_name bs ≡ true → IsName bs
is_name_is bs h =
    let sides = both_hold (nat_le 1 (length bs) && nat_le (length bs) 128) _ h in
    let ends = both_hold (nat_le 1 (length bs)) (nat_le (length bs) 128) sides.0 in
    let rest = both_hold (not (is_ascii_digit (get_or bs 0 0))) (list_all is_name_byte bs) sides.1 in
    record {
      some = omega (arith, leb-true 1 (length bs) ends.0);
      short = leb-true (length bs) 128 ends.1;
      starts = is_false (is_ascii_digit (get_or bs 0 0)) (λ digit. let stops : not (is_ascii_digit (get_or bs 0 0)) ≡ false = rw digit refl in clash _ rest.0 stops);
      each = each_passes is_name_byte bs rest.1;
    }

pub name_passes : (bs : List ℕ) → IsName bs → is_name bs ≡ true
name_passes bs h =
    let some : nat_le 1 (length bs) ≡ true = le-leb 1 (length bs) (omega (arith, h.some)) in
    let short : nat_le (length bs) 128 ≡ true = le-leb (length bs) 128 h.short in
    let each : list_all is_name_byte bs ≡ true = all_pass is_name_byte bs (λ i d within. h.each i d within) in
    rw (some, short, h.starts, each) refl

pub name_fails : (bs : List ℕ) → (IsName bs → ⊥) → is_name bs ≡ false
name_fails bs unnamed = is_false (is_name bs) (λ h. unnamed (is_name_is bs h))

-- a run in front
pub run_in_front : (bytes : List ℕ) (len : ℕ) → is_name_byte (get_or bytes 0 0) ≡ true → 1 ≤ length bytes → len ≡ prefix_len (goes_on (get_or bytes 0 0)) (drop 1 bytes) → IsRun (take (len + 1) bytes)
run_in_front [] len letter some long = absurd (omega (arith, some))
run_in_front (b ∷ bs) len letter some long = rw (add-one, long) (letter, front_passes (goes_on b) bs)

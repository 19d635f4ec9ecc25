-- What a reader of a format owes: it reads what is spelled, nothing else, and stops at the first wrong field.
use Rattle.std.proofs.Common.{◌≡◌, ◌≢◌, ℕ, suc, ◌+◌, ◌-◌, ◌<◌, ◌≤◌, ◌⊎◌, inl, inr, List, [], ◌∷◌, ◌++◌, length, get_or, refl, ap, sym, subst, ◌∙◌, arith, append_assoc}
use Rattle.std.specs.Prelude.{Ok, Err}
use Rattle.std.specs.List.{concat}
use Rattle.std.proofs.lemmas.List.{append-nil, length-append}
use Rattle.std.proofs.lemmas.List.Folds.{concat-append}
use Rattle.page_base.specs.Places.{Reaches, IsFault}
use Rattle.page_base.specs.Reading.{Read, ◌>>=◌, left}

-- each number is a byte
abbrev pub IsBytes : List ℕ → Type 0
IsBytes bytes = (i : ℕ) → get_or bytes i 0 < 256

pub IsBytes-rest : (front rest : List ℕ) → IsBytes (front ++ rest) → IsBytes rest
IsBytes-rest [] rest h = h
IsBytes-rest (b ∷ front) rest h = IsBytes-rest front rest (λ i. h (suc i))

-- the bytes are the first fields of some value, and a rest
pub record Begins {X : Type 0} (Fits : X → Type 0) (fields : X → List (List ℕ)) (bytes rest : List ℕ) : Type 0 where
  pub value : X
  pub fits : Fits value
  pub done : List (List ℕ)
  pub later : List (List ℕ)
  pub first : fields value ≡ done ++ later
  pub spelled : bytes ≡ concat done ++ rest

pub record IsFormat {X : Type 0} (Fits : X → Type 0) (fields : X → List (List ℕ)) (read : List ℕ → Read X) : Type 0 where
  -- there is a value
  pub some : X
  pub some_fits : Fits some
  -- what is read is spelled so
  pub takes : (bytes : List ℕ) (x : X) (rest : List ℕ) → IsBytes bytes → read bytes ≡ Ok (x, rest) → Fits x × (bytes ≡ concat (fields x) ++ rest)
  -- what is spelled is read, whatever follows
  pub again : (x : X) (rest : List ℕ) → Fits x → read (concat (fields x) ++ rest) ≡ Ok (x, rest)
  -- where reading stops, all before are fields of a value
  pub begins : (bytes rest : List ℕ) → IsBytes bytes → read bytes ≡ Err rest → Begins Fits fields bytes rest
  -- the first fields of a value are read, whatever follows them
  pub reaches : (x : X) (done later : List (List ℕ)) (tail : List ℕ) → IsBytes (concat done ++ tail) → Fits x → fields x ≡ done ++ later → length (left (read (concat done ++ tail))) ≤ length tail

-- a reading never leaves more than it was given
pub shrinks : {X : Type 0} (Fits : X → Type 0) (fields : X → List (List ℕ)) (read : List ℕ → Read X) → IsFormat Fits fields read → (bytes : List ℕ) → IsBytes bytes → length (left (read bytes)) ≤ length bytes
shrinks Fits fields read f bytes h = f.reaches f.some [] (fields f.some) bytes h f.some_fits refl

-- one field
module _ {X : Type 0} (Fits : X → Type 0) (field : X → List ℕ) (read : List ℕ → Read X) where
  pub record IsField : Type 0 where
    pub some : X
    pub some_fits : Fits some
    pub takes : (bytes : List ℕ) (x : X) (rest : List ℕ) → IsBytes bytes → read bytes ≡ Ok (x, rest) → Fits x × (bytes ≡ field x ++ rest)
    pub again : (x : X) (rest : List ℕ) → Fits x → read (field x ++ rest) ≡ Ok (x, rest)
    pub stays : (bytes rest : List ℕ) → read bytes ≡ Err rest → rest ≡ bytes

  shrinks_field : IsField → (bytes : List ℕ) → IsBytes bytes → (r : Read X) → read bytes ≡ r → length (left r) ≤ length bytes
  shrinks_field f bytes h (Ok x) e = let t = f.takes bytes x.0 x.1 h e in omega (arith, ap length t.1, length-append (field x.0) x.1)
  shrinks_field f bytes h (Err rest) e = omega (arith, ap length (f.stays bytes rest e))

  one : (x : X) (rest : List ℕ) → concat (field x ∷ []) ++ rest ≡ field x ++ rest
  one x rest = ap (λ (bs : List ℕ). bs ++ rest) (append-nil (field x))

  reaches_field : IsField → (x : X) (done later : List (List ℕ)) (tail : List ℕ) → IsBytes (concat done ++ tail) → Fits x → field x ∷ [] ≡ done ++ later → length (left (read (concat done ++ tail))) ≤ length tail
  reaches_field f x [] later tail h fits e = shrinks_field f tail h (read tail) refl
  reaches_field f x (d ∷ []) later tail h fits e =
      let d-is : field x ≡ d = cc in
      let read-is : read (concat (d ∷ []) ++ tail) ≡ Ok (x, tail) = ap (λ (bs : List ℕ). read (concat (bs ∷ []) ++ tail)) (sym d-is) ∙ ap read (one x tail) ∙ f.again x tail fits in
      omega (arith, ap (λ (r : Read X). length (left r)) read-is)
  reaches_field f x (d ∷ c ∷ done) later tail h fits e = absurd cc

  pub format_of_field : IsField → IsFormat Fits (λ x. field x ∷ []) read
  format_of_field f = record {
    some = f.some;
    some_fits = f.some_fits;
    takes = λ bytes x rest h e. let t = f.takes bytes x rest h e in (t.0, t.1 ∙ sym (one x rest));
    again = λ x rest fits. ap read (one x rest) ∙ f.again x rest fits;
    begins = λ bytes rest h e. record { value = f.some; fits = f.some_fits; done = []; later = field f.some ∷ []; first = refl; spelled = sym (f.stays bytes rest e) };
    reaches = reaches_field f;
  }

-- the value of a step that did not stop
pub bind_ok : {A B : Type 0} (r : Read A) (f : A × List ℕ → Read B) (y : B × List ℕ) → (r >>= f) ≡ Ok y → (x : A × List ℕ) × (r ≡ Ok x) × (f x ≡ Ok y)
bind_ok (Ok x) f y e = (x, refl, e)
bind_ok (Err rest) f y e = absurd cc

-- where a step stopped, or the step after it
pub bind_err : {A B : Type 0} (r : Read A) (f : A × List ℕ → Read B) (rest : List ℕ) → (r >>= f) ≡ Err rest → (r ≡ Err rest) ⊎ ((x : A × List ℕ) × (r ≡ Ok x) × (f x ≡ Err rest))
bind_err (Ok x) f rest e = inr (x, refl, e)
bind_err (Err before) f rest e = inl (let same : before ≡ rest = cc in ap (λ (bs : List ℕ). Err bs) same)

-- a front of two lists in a row is a front of the first, or goes past it
pub split_front : (xs ys done later : List (List ℕ)) → xs ++ ys ≡ done ++ later → ((more : List (List ℕ)) × (xs ≡ done ++ more)) ⊎ ((past : List (List ℕ)) × (done ≡ xs ++ past) × (ys ≡ past ++ later))
split_front [] ys done later e = inr (done, refl, e)
split_front (x ∷ xs) ys [] later e = inl (x ∷ xs, refl)
split_front (x ∷ xs) ys (d ∷ done) later e =
    let head : x ≡ d = cc in
    let tail : xs ++ ys ≡ done ++ later = cc in
    elim (split_front xs ys done later tail) [
      | inl f ↦ inl (f.0, (λ i. head i ∷ f.1 i))
      | inr p ↦ inr (p.0, (λ i. sym head i ∷ p.1 i), p.2)
    ]

-- a value whose first part is read first, and then the rest of it
module _ {A X : Type 0} (FitsA : A → Type 0) (fieldsA : A → List (List ℕ)) (readA : List ℕ → Read A)
    (Fits : X → Type 0) (fields : X → List (List ℕ)) (part : X → A) (rest : X → List (List ℕ)) (readB : A → List ℕ → Read X) where
  pub record IsSequence : Type 0 where
    pub first : IsFormat FitsA fieldsA readA
    pub second : (a : A) → FitsA a → IsFormat (λ x. Fits x × (part x ≡ a)) rest (readB a)
    pub fits : (x : X) → Fits x → FitsA (part x)
    pub are : (x : X) → Fits x → fields x ≡ fieldsA (part x) ++ rest x

  read : List ℕ → Read X
  read bytes = readA bytes >>= λ a. readB a.0 a.1

  spelled : IsSequence → (x : X) (tail : List ℕ) → Fits x → concat (fields x) ++ tail ≡ concat (fieldsA (part x)) ++ (concat (rest x) ++ tail)
  spelled f x tail fits =
      ap (λ (fs : List (List ℕ)). concat fs ++ tail) (f.are x fits) ∙ ap (λ (bs : List ℕ). bs ++ tail) (concat-append (fieldsA (part x)) (rest x))
      ∙ append_assoc (concat (fieldsA (part x))) (concat (rest x)) tail

  takes : IsSequence → (bytes : List ℕ) (x : X) (tail : List ℕ) → IsBytes bytes → (readA bytes >>= λ a. readB a.0 a.1) ≡ Ok (x, tail) → Fits x × (bytes ≡ concat (fields x) ++ tail)
  takes f bytes x tail h e =
      let b = bind_ok (readA bytes) (λ a. readB a.0 a.1) (x, tail) e in
      let one = f.first.takes bytes b.0.0 b.0.1 h b.1 in
      let two = (f.second b.0.0 one.0).takes b.0.1 x tail (IsBytes-rest (concat (fieldsA b.0.0)) b.0.1 (subst IsBytes one.1 h)) b.2 in
      (two.0.0, one.1 ∙ ap (λ (bs : List ℕ). concat (fieldsA b.0.0) ++ bs) two.1 ∙ ap (λ (a : A). concat (fieldsA a) ++ (concat (rest x) ++ tail)) (sym two.0.1) ∙ sym (spelled f x tail two.0.0))

  again : IsSequence → (x : X) (tail : List ℕ) → Fits x → (readA (concat (fields x) ++ tail) >>= λ a. readB a.0 a.1) ≡ Ok (x, tail)
  again f x tail fits =
      ap (λ (bs : List ℕ). readA bs >>= λ a. readB a.0 a.1) (spelled f x tail fits)
      ∙ ap (λ (r : Read A). r >>= λ a. readB a.0 a.1) (f.first.again (part x) (concat (rest x) ++ tail) (f.fits x fits))
      ∙ (f.second (part x) (f.fits x fits)).again x tail (fits, refl)

  begins : IsSequence → (bytes tail : List ℕ) → IsBytes bytes → (readA bytes >>= λ a. readB a.0 a.1) ≡ Err tail → Begins Fits fields bytes tail
  begins f bytes tail h e = elim (bind_err (readA bytes) (λ a. readB a.0 a.1) tail e) [
    | inl stopped ↦
        let b = f.first.begins bytes tail h stopped in
        let second = f.second b.value b.fits in
        record {
          value = second.some;
          fits = second.some_fits.0;
          done = b.done;
          later = b.later ++ rest second.some;
          first = f.are second.some second.some_fits.0 ∙ ap (λ (a : A). fieldsA a ++ rest second.some) second.some_fits.1 ∙ ap (λ (fs : List (List ℕ)). fs ++ rest second.some) b.first ∙ append_assoc b.done b.later (rest second.some);
          spelled = b.spelled;
        }
    | inr went ↦
        let one = f.first.takes bytes went.0.0 went.0.1 h went.1 in
        let b = (f.second went.0.0 one.0).begins went.0.1 tail (IsBytes-rest (concat (fieldsA went.0.0)) went.0.1 (subst IsBytes one.1 h)) went.2 in
        record {
          value = b.value;
          fits = b.fits.0;
          done = fieldsA went.0.0 ++ b.done;
          later = b.later;
          first = f.are b.value b.fits.0 ∙ ap (λ (a : A). fieldsA a ++ rest b.value) b.fits.1 ∙ ap (λ (fs : List (List ℕ)). fieldsA went.0.0 ++ fs) b.first ∙ sym (append_assoc (fieldsA went.0.0) b.done b.later);
          spelled = one.1 ∙ ap (λ (bs : List ℕ). concat (fieldsA went.0.0) ++ bs) b.spelled ∙ sym (append_assoc (concat (fieldsA went.0.0)) (concat b.done) tail) ∙ ap (λ (bs : List ℕ). bs ++ tail) (sym (concat-append (fieldsA went.0.0) b.done));
        }
  ]

  -- the second reading leaves no more than the first
  second_shrinks : IsSequence → (bytes tail : List ℕ) → IsBytes bytes → (r : Read A) → readA bytes ≡ r → length (left r) ≤ length tail → length (left (r >>= λ a. readB a.0 a.1)) ≤ length tail
  second_shrinks f bytes tail h (Err stopped) e le = le
  second_shrinks f bytes tail h (Ok a) e le =
      let one = f.first.takes bytes a.0 a.1 h e in
      let two = shrinks (λ x. Fits x × (part x ≡ a.0)) rest (readB a.0) (f.second a.0 one.0) a.1 (IsBytes-rest (concat (fieldsA a.0)) a.1 (subst IsBytes one.1 h)) in
      omega arith

  reaches : IsSequence → (x : X) (done later : List (List ℕ)) (tail : List ℕ) → IsBytes (concat done ++ tail) → Fits x → fields x ≡ done ++ later → length (left (readA (concat done ++ tail) >>= λ a. readB a.0 a.1)) ≤ length tail
  reaches f x done later tail h fits e = elim (split_front (fieldsA (part x)) (rest x) done later (sym (f.are x fits) ∙ e)) [
    | inl front ↦ second_shrinks f (concat done ++ tail) tail h (readA (concat done ++ tail)) refl (f.first.reaches (part x) done front.0 tail h (f.fits x fits) front.1)
    | inr past ↦
        let bytes-are : concat done ++ tail ≡ concat (fieldsA (part x)) ++ (concat past.0 ++ tail) =
        ap (λ (fs : List (List ℕ)). concat fs ++ tail) past.1 ∙ ap (λ (bs : List ℕ). bs ++ tail) (concat-append (fieldsA (part x)) past.0) ∙ append_assoc (concat (fieldsA (part x))) (concat past.0) tail in
        let read-is : (readA (concat done ++ tail) >>= λ a. readB a.0 a.1) ≡ readB (part x) (concat past.0 ++ tail) =
        ap (λ (bs : List ℕ). readA bs >>= λ a. readB a.0 a.1) bytes-are ∙ ap (λ (r : Read A). r >>= λ a. readB a.0 a.1) (f.first.again (part x) (concat past.0 ++ tail) (f.fits x fits)) in
        let le = (f.second (part x) (f.fits x fits)).reaches x past.0 later tail (IsBytes-rest (concat (fieldsA (part x))) (concat past.0 ++ tail) (subst IsBytes bytes-are h)) (fits, refl) past.2 in
        omega (arith, ap (λ (r : Read X). length (left r)) read-is)
  ]

  pub format_of_sequence : IsSequence → IsFormat Fits fields (λ bytes. readA bytes >>= λ a. readB a.0 a.1)
  format_of_sequence f = record {
    some = (f.second f.first.some f.first.some_fits).some;
    some_fits = (f.second f.first.some f.first.some_fits).some_fits.0;
    takes = takes f;
    again = again f;
    begins = begins f;
    reaches = reaches f;
  }

abbrev pub ok : {X : Type 0} → X → List ℕ → Read X
ok x rest = Ok (x, rest)

pub read_is : {X : Type 0} (x y : X) (bytes rest : List ℕ) → ok x bytes ≡ ok y rest → (x ≡ y) × (bytes ≡ rest)
read_is {X = X} x y bytes rest e = let pair : (x, bytes) ≡ (y, rest) = cc in (ap (λ (p : X × List ℕ). p.0) pair, ap (λ (p : X × List ℕ). p.1) pair)

pub no_front : (done later : List (List ℕ)) → [] ≡ done ++ later → done ≡ []
no_front [] later e = refl
no_front (d ∷ done) later e = absurd cc

-- nothing more to read: the value is made of what was read
module _ {X : Type 0} (Fits : X → Type 0) (fields : X → List (List ℕ)) (x : X) where
  pub record IsEnd : Type 0 where
    pub fits : Fits x
    pub only : (y : X) → Fits y → y ≡ x
    pub none : fields x ≡ []

  empty : IsEnd → (y : X) → Fits y → fields y ≡ []
  empty f y fits = ap fields (f.only y fits) ∙ f.none

  pub format_of_end : IsEnd → IsFormat Fits fields (λ bytes. Ok (x, bytes))
  format_of_end f = record {
    some = x;
    some_fits = f.fits;
    takes = λ bytes y rest h e.
        let same = read_is x y bytes rest e in
        let fits : Fits y = subst Fits same.0 f.fits in
        (fits, same.1 ∙ ap (λ (fs : List (List ℕ)). concat fs ++ rest) (sym (empty f y fits)));
    again = λ y rest fits. (λ i. Ok (sym (f.only y fits) i, ap (λ (fs : List (List ℕ)). concat fs ++ rest) (empty f y fits) i));
    begins = λ bytes rest h e. absurd cc;
    reaches = λ y done later tail h fits e. omega (arith, ap (λ (fs : List (List ℕ)). length (concat fs ++ tail)) (no_front done later (sym (empty f y fits) ∙ e)));
  }

-- bytes that are one value, and nothing behind it
module _ {X : Type 0} (Fits : X → Type 0) (fields : X → List (List ℕ)) (read : List ℕ → Read X) (f : IsFormat Fits fields read) (bytes : List ℕ) (h : IsBytes bytes) where
  -- no value reaches farther than the reading did
  no_farther : (n : ℕ) → Reaches Fits fields bytes n → n + length (left (read bytes)) ≤ length bytes
  no_farther n r =
      let short = f.reaches r.value r.done r.later r.rest (subst IsBytes r.spelled h) r.fits r.first in
      omega (arith, short, r.place, ap (λ (bs : List ℕ). length (left (read bs))) r.spelled, ap length r.spelled, length-append (concat r.done) r.rest)

  again_all : (y : X) → Fits y → bytes ≡ concat (fields y) → read bytes ≡ ok y []
  again_all y fits same = ap read (same ∙ sym (append-nil (concat (fields y)))) ∙ f.again y [] fits

  -- a reading that stopped
  pub fault_of_err : (stopped : List ℕ) → read bytes ≡ Err stopped → IsFault Fits fields bytes (length bytes - length stopped)
  fault_of_err stopped e =
      let b = f.begins bytes stopped h e in
      let len = length-append (concat b.done) stopped in
      record {
        reached = record { value = b.value; fits = b.fits; done = b.done; later = b.later; rest = stopped; first = b.first; spelled = b.spelled; place = omega (arith, ap length b.spelled, len) };
        farthest = λ n r. omega (arith, no_farther n r, ap (λ (r : Read X). length (left r)) e);
        none = λ y fits same. stopped_not y (sym e ∙ again_all y fits same);
      }
    where
      stopped_not : (y : X) → Err stopped ≡ ok y [] → ⊥
      stopped_not y wrong = cc

  -- a value with bytes behind it
  pub fault_of_rest : (x : X) (rest : List ℕ) → read bytes ≡ Ok (x, rest) → rest ≢ [] → IsFault Fits fields bytes (length bytes - length rest)
  fault_of_rest x rest e ne =
      let t = f.takes bytes x rest h e in
      let len = length-append (concat (fields x)) rest in
      record {
        reached = record { value = x; fits = t.0; done = fields x; later = []; rest = rest; first = sym (nothing_later (fields x)); spelled = t.1; place = omega (arith, ap length t.1, len) };
        farthest = λ n r. omega (arith, no_farther n r, ap (λ (r : Read X). length (left r)) e);
        none = λ y fits same. ne (read_is x y rest [] (sym e ∙ again_all y fits same)).1;
      }
    where
      nothing_later : (fs : List (List ℕ)) → fs ++ [] ≡ fs
      nothing_later fs = append-nil fs

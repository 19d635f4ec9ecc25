-- Values of one format one after the other: so many of them, and as many as the bytes hold.
use Rattle.std.proofs.Common.{◌≡◌, ◌≢◌, ℕ, zero, suc, ◌-◌, ◌<◌, ◌≤◌, inl, inr, List, [], ◌∷◌, ◌++◌, length, refl, ap, sym, subst, ◌∙◌, arith, append_assoc}
use Rattle.std.specs.Prelude.{Ok, Err}
use Rattle.std.specs.List.{concat, flat_map, AllByRecursion}
use Rattle.std.proofs.lemmas.List.{append-nil, length-append}
use Rattle.std.proofs.lemmas.List.Folds.{concat-append}
use Rattle.std.proofs.lemmas.List.Concat.{flat_map-append}
use Rattle.page_base.specs.Places.{IsFault}
use Rattle.page_base.specs.Reading.{Read, ◌>>=◌, left, times_at}
use Rattle.page_base.proofs.FormatLemmas.{IsBytes, IsBytes-rest, IsFormat, format_of_sequence, format_of_end, split_front, shrinks, ok, read_is, no_front}

module _ {A : Type 0} (FitsA : A → Type 0) (fieldsA : A → List (List ℕ)) (readA : List ℕ → Read A) (f : IsFormat FitsA fieldsA readA) where
  -- so many values
  pub record AreMany (n : ℕ) (xs : List A) : Type 0 where
    pub count : length xs ≡ n
    pub each : AllByRecursion FitsA xs

  abbrev first_of : List A → A
  first_of [] = f.some
  first_of (x ∷ xs) = x

  abbrev rest_of : List A → List A
  rest_of [] = []
  rest_of (x ∷ xs) = xs

  same_list : (n : ℕ) (x : A) (xs ys : List A) → AreMany (suc n) ys → first_of ys ≡ x → rest_of ys ≡ xs → ys ≡ x ∷ xs
  same_list n x xs [] many first rest = absurd (omega (arith, many.count))
  same_list n x xs (y ∷ ys) many first rest = λ i. first i ∷ rest i

  ends : (n : ℕ) (x : A) (xs : List A) → FitsA x → AreMany n xs → IsFormat (λ ys. (AreMany (suc n) ys × (first_of ys ≡ x)) × (rest_of ys ≡ xs)) (λ ys. []) (λ bytes. Ok (x ∷ xs, bytes))
  ends n x xs fits many = format_of_end (λ ys. (AreMany (suc n) ys × (first_of ys ≡ x)) × (rest_of ys ≡ xs)) (λ ys. []) (x ∷ xs) (record {
    fits = ((record { count = ap suc many.count; each = (fits, many.each) }, refl), refl);
    only = λ ys h. same_list n x xs ys h.0.0 h.0.1 h.1;
    none = refl;
  })

  later_many : (n : ℕ) (ys : List A) → AreMany (suc n) ys → AreMany n (rest_of ys)
  later_many n [] many = absurd (omega (arith, many.count))
  later_many n (y ∷ ys) many = record { count = omega (arith, many.count); each = many.each.1 }

  first_fits : (n : ℕ) (ys : List A) → AreMany (suc n) ys → FitsA (first_of ys)
  first_fits n [] many = f.some_fits
  first_fits n (y ∷ ys) many = many.each.0

  in_two : (n : ℕ) (ys : List A) → AreMany (suc n) ys → flat_map fieldsA ys ≡ fieldsA (first_of ys) ++ flat_map fieldsA (rest_of ys)
  in_two n [] many = absurd (omega (arith, many.count))
  in_two n (y ∷ ys) many = refl

  pub format_of_times : (n : ℕ) → IsFormat (AreMany n) (flat_map fieldsA) (times_at readA n)
  unfolding times_at
  format_of_times zero = format_of_end (AreMany zero) (flat_map fieldsA) [] (record { fits = record { count = refl; each = tt }; only = λ ys many. no_items ys many.count; none = refl })
    where
      no_items : (ys : List A) → length ys ≡ 0 → ys ≡ []
      no_items [] e = refl
      no_items (y ∷ ys) e = absurd (omega (arith, e))
  format_of_times (suc n) =
      format_of_sequence FitsA fieldsA readA (AreMany (suc n)) (flat_map fieldsA) first_of (λ ys. flat_map fieldsA (rest_of ys)) (λ x bytes. times_at readA n bytes >>= λ xs. Ok (x ∷ xs.0, xs.1)) (record {
        first = f;
        second = λ x fits. format_of_sequence (AreMany n) (flat_map fieldsA) (times_at readA n) (λ ys. AreMany (suc n) ys × (first_of ys ≡ x)) (λ ys. flat_map fieldsA (rest_of ys)) rest_of (λ ys. []) (λ xs bytes. Ok (x ∷ xs, bytes)) (record {
          first = format_of_times n;
          second = λ xs many. ends n x xs fits many;
          fits = λ ys h. later_many n ys h.0;
          are = λ ys h. sym (append-nil (flat_map fieldsA (rest_of ys)));
        });
        fits = first_fits n;
        are = in_two n;
      })

  -- all bytes are values one after the other, each of some bytes
  module _ (some_bytes : (x : A) → FitsA x → 0 < length (concat (fieldsA x))) where
    spelled : (x : A) (xs : List A) (rest : List ℕ) → concat (flat_map fieldsA (x ∷ xs)) ++ rest ≡ concat (fieldsA x) ++ (concat (flat_map fieldsA xs) ++ rest)
    spelled x xs rest = ap (λ (bs : List ℕ). bs ++ rest) (concat-append (fieldsA x) (flat_map fieldsA xs)) ∙ append_assoc (concat (fieldsA x)) (concat (flat_map fieldsA xs)) rest

    read_first : (x : A) (xs : List A) (rest : List ℕ) → FitsA x → readA (concat (flat_map fieldsA (x ∷ xs)) ++ rest) ≡ Ok (x, concat (flat_map fieldsA xs) ++ rest)
    read_first x xs rest fits = ap readA (spelled x xs rest) ∙ f.again x (concat (flat_map fieldsA xs) ++ rest) fits

    -- the bytes of a front that goes past the first value
    bytes_past : (y : A) (ys : List A) (past done : List (List ℕ)) (tail : List ℕ) → done ≡ fieldsA y ++ past → concat done ++ tail ≡ concat (fieldsA y) ++ (concat past ++ tail)
    bytes_past y ys past done tail e = ap (λ (fs : List (List ℕ)). concat fs ++ tail) e ∙ ap (λ (bs : List ℕ). bs ++ tail) (concat-append (fieldsA y) past) ∙ append_assoc (concat (fieldsA y)) (concat past) tail

    more_fits : (xs : List A) (v : A) → AllByRecursion FitsA xs → FitsA v → AllByRecursion FitsA (xs ++ v ∷ [])
    more_fits [] v fx fv = (fv, tt)
    more_fits (x ∷ xs) v fx fv = (fx.0, more_fits xs v fx.1 fv)

    -- a list of some values has bytes
    no_bytes : (y : A) (ys : List A) (rest : List ℕ) → FitsA y → concat (flat_map fieldsA (y ∷ ys)) ++ rest ≡ [] → ⊥
    no_bytes y ys rest fits e =
        let n = some_bytes y fits in
        let l : length (concat (fieldsA y) ++ (concat (flat_map fieldsA ys) ++ rest)) ≡ 0 = ap length (sym (spelled y ys rest) ∙ e) in
        absurd (omega (arith, length-append (concat (fieldsA y)) (concat (flat_map fieldsA ys) ++ rest)))

    -- the same bytes, and readings that go on alike
    same_first : (x y : A) (xs ys : List A) (a b : List ℕ) → FitsA x → FitsA y → concat (flat_map fieldsA (x ∷ xs)) ++ a ≡ concat (flat_map fieldsA (y ∷ ys)) ++ b → (x ≡ y) × (concat (flat_map fieldsA xs) ++ a ≡ concat (flat_map fieldsA ys) ++ b)
    same_first x y xs ys a b fx fy e = read_is x y _ _ (sym (read_first x xs a fx) ∙ ap readA e ∙ read_first y ys b fy)

    -- bytes are the values of one list at most
    pub one_list : (xs ys : List A) → AllByRecursion FitsA xs → AllByRecursion FitsA ys → concat (flat_map fieldsA xs) ≡ concat (flat_map fieldsA ys) → xs ≡ ys
    one_list [] [] fx fy e = refl
    one_list [] (y ∷ ys) fx fy e = absurd (no_bytes y ys [] fy.0 (append-nil (concat (flat_map fieldsA (y ∷ ys))) ∙ sym e))
    one_list (x ∷ xs) [] fx fy e = absurd (no_bytes x xs [] fx.0 (append-nil (concat (flat_map fieldsA (x ∷ xs))) ∙ e))
    one_list (x ∷ xs) (y ∷ ys) fx fy e =
        let both = same_first x y xs ys [] [] fx.0 fy.0 (append-nil (concat (flat_map fieldsA (x ∷ xs))) ∙ e ∙ sym (append-nil (concat (flat_map fieldsA (y ∷ ys))))) in
        let later = one_list xs ys fx.1 fy.1 (sym (append-nil (concat (flat_map fieldsA xs))) ∙ both.1 ∙ append-nil (concat (flat_map fieldsA ys))) in
        λ i. both.0 i ∷ later i

    module _ (rest stopped : List ℕ) (stops : readA rest ≡ Err stopped) where
      abbrev stopped_read : Read A
      stopped_read = Err stopped

      stops_not : (x : A) (after : List ℕ) → readA rest ≡ Ok (x, after) → ⊥
      stops_not x after e = let z : stopped_read ≡ ok x after = sym stops ∙ e in cc

      -- what stops in a value's place is no list of values
      no_list : (xs ys : List A) → rest ≢ [] → AllByRecursion FitsA xs → AllByRecursion FitsA ys → concat (flat_map fieldsA xs) ++ rest ≡ concat (flat_map fieldsA ys) → ⊥
      no_list [] [] ne fx fy e = ne e
      no_list [] (y ∷ ys) ne fx fy e = stops_not y (concat (flat_map fieldsA ys) ++ []) (ap readA (e ∙ sym (append-nil (concat (flat_map fieldsA (y ∷ ys))))) ∙ read_first y ys [] fy.0)
      no_list (x ∷ xs) [] ne fx fy e = no_bytes x xs rest fx.0 e
      no_list (x ∷ xs) (y ∷ ys) ne fx fy e =
          let both = same_first x y xs ys rest [] fx.0 fy.0 (e ∙ sym (append-nil (concat (flat_map fieldsA (y ∷ ys))))) in
          no_list xs ys ne fx.1 fy.1 (both.1 ∙ append-nil (concat (flat_map fieldsA ys)))

      -- the reading stopped within what was left
      within : IsBytes rest → length stopped ≤ length rest
      within h = omega (arith, shrinks FitsA fieldsA readA f rest h, ap (λ (r : Read A). length (left r)) stops)

      rest_bytes : (xs : List A) (bytes : List ℕ) → IsBytes bytes → concat (flat_map fieldsA xs) ++ rest ≡ bytes → IsBytes rest
      rest_bytes xs bytes h e = IsBytes-rest (concat (flat_map fieldsA xs)) rest (subst IsBytes (sym e) h)

      -- no list reaches farther than the reading did
      farthest : (xs ys : List A) (done later : List (List ℕ)) (tail : List ℕ) → AllByRecursion FitsA xs → AllByRecursion FitsA ys → flat_map fieldsA ys ≡ done ++ later → concat (flat_map fieldsA xs) ++ rest ≡ concat done ++ tail → IsBytes (concat done ++ tail) → length stopped ≤ length tail
      farthest xs [] done later tail fx fy first e h =
          let none : concat done ++ tail ≡ tail = ap (λ (fs : List (List ℕ)). concat fs ++ tail) (no_front done later first) in
          let all : concat (flat_map fieldsA xs) ++ rest ≡ tail = e ∙ none in
          omega (arith, within (rest_bytes xs (concat done ++ tail) h e), ap length all, length-append (concat (flat_map fieldsA xs)) rest)
      farthest [] (y ∷ ys) done later tail fx fy first e h =
          elim (split_front (fieldsA y) (flat_map fieldsA ys) done later first) [
            | inl front ↦
                let le = f.reaches y done front.0 tail h fy.0 front.1 in
                omega (arith, le, ap (λ (r : Read A). length (left r)) (ap readA (sym e) ∙ stops))
            | inr past ↦
                absurd (stops_not y (concat past.0 ++ tail) (ap readA (e ∙ bytes_past y ys past.0 done tail past.1) ∙ f.again y (concat past.0 ++ tail) fy.0))
          ]
      farthest (x ∷ xs) (y ∷ ys) done later tail fx fy first e h =
          let now = ap readA (sym e) ∙ read_first x xs rest fx.0 in
          elim (split_front (fieldsA y) (flat_map fieldsA ys) done later first) [
            | inl front ↦
                let le = f.reaches y done front.0 tail h fy.0 front.1 in
                omega (arith, le, ap (λ (r : Read A). length (left r)) now, within (rest_bytes (x ∷ xs) (concat done ++ tail) h e), length-append (concat (flat_map fieldsA xs)) rest)
            | inr past ↦
                let are = bytes_past y ys past.0 done tail past.1 in
                let both = read_is x y _ _ (sym now ∙ ap readA are ∙ f.again y (concat past.0 ++ tail) fy.0) in
                farthest xs ys past.0 later tail fx.1 fy.1 past.2 both.1 (IsBytes-rest (concat (fieldsA y)) (concat past.0 ++ tail) (subst IsBytes are h))
          ]

      -- where a value is refused, the bytes are
      pub fault_of_stop : (xs : List A) (bytes : List ℕ) → IsBytes bytes → AllByRecursion FitsA xs → bytes ≡ concat (flat_map fieldsA xs) ++ rest → rest ≢ [] → IsFault (AllByRecursion FitsA) (flat_map fieldsA) bytes (length bytes - length stopped)
      fault_of_stop xs bytes h fx e ne =
          let b = f.begins rest stopped (rest_bytes xs bytes h (sym e)) stops in
          let all : bytes ≡ concat (flat_map fieldsA xs ++ b.done) ++ stopped =
          e ∙ ap (λ (bs : List ℕ). concat (flat_map fieldsA xs) ++ bs) b.spelled ∙ sym (append_assoc (concat (flat_map fieldsA xs)) (concat b.done) stopped)
          ∙ ap (λ (bs : List ℕ). bs ++ stopped) (sym (concat-append (flat_map fieldsA xs) b.done)) in
          record {
            reached = record {
              value = xs ++ b.value ∷ [];
              fits = more_fits xs b.value fx b.fits;
              done = flat_map fieldsA xs ++ b.done;
              later = b.later;
              rest = stopped;
              first = flat_map-append fieldsA xs (b.value ∷ []) ∙ ap (λ (fs : List (List ℕ)). flat_map fieldsA xs ++ fs) (append-nil (fieldsA b.value) ∙ b.first) ∙ sym (append_assoc (flat_map fieldsA xs) b.done b.later);
              spelled = all;
              place = omega (arith, ap length all, length-append (concat (flat_map fieldsA xs ++ b.done)) stopped);
            };
            farthest = λ n r.
                let short = farthest xs r.value r.done r.later r.rest fx r.fits r.first (sym e ∙ r.spelled) (subst IsBytes r.spelled h) in
                omega (arith, short, r.place, ap length r.spelled, length-append (concat r.done) r.rest, ap length all, length-append (concat (flat_map fieldsA xs ++ b.done)) stopped);
            none = λ ys fy same. no_list xs ys ne fx fy (sym e ∙ same);
          }

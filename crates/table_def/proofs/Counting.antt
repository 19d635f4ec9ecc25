-- How many names pass a test, where no name stands twice.
use Rattle.std.proofs.Common.{inl, inr, ◌≡◌, ℕ, ◌+◌, Bool, true, false, cond, not, List, [], ◌∷◌, length, map, refl, sym, ap, ◌∙◌, arith}
use Rattle.std.specs.Prelude.{filter, ◌||◌}
use Rattle.std.specs.List.{list_any}
use Rattle.std.specs.Str.{bytes_eq}
use Rattle.std.proofs.lemmas.Bool.{and_parts, or_parts, not-true, not-false, cases_Bool}
use Rattle.std.proofs.lemmas.Bool.Decides.{same_from_decides}
use Rattle.std.proofs.lemmas.Slice.Eq.{bytes_eq-Decides}
use Rattle.plain_model.specs.Sound.{are_distinct}
use Rattle.table_def.specs.Parts.{is_among}

-- 1 for true
abbrev pub one : Bool → ℕ
one b = cond b 1 0

-- how many elements pass
abbrev pub hits : {X : Type 0} → (X → Bool) → List X → ℕ
hits p [] = 0
hits p (x ∷ xs) = one (p x) + hits p xs

pub length-filter : {X : Type 0} (p : X → Bool) (xs : List X) → length (filter p xs) ≡ hits p xs
length-filter p [] = refl
length-filter p (x ∷ xs) = elim (cases_Bool (p x)) [
  | inl same ↦ rw same (omega (arith, length-filter p xs))
  | inr other ↦ rw other (omega (arith, length-filter p xs))
]

pub hits-map : {X Y : Type 0} (p : Y → Bool) (f : X → Y) (xs : List X) → hits p (map f xs) ≡ hits (λ x. p (f x)) xs
hits-map p f [] = refl
hits-map p f (x ∷ xs) = ap (λ (n : ℕ). one (p (f x)) + n) (hits-map p f xs)

-- tests that answer alike
pub hits_same : {X : Type 0} (p q : X → Bool) → ((x : X) → p x ≡ q x) → (xs : List X) → hits p xs ≡ hits q xs
hits_same p q alike [] = refl
hits_same p q alike (x ∷ xs) = omega (arith, ap one (alike x), hits_same p q alike xs)

-- a test that is one of two, and never both
pub hits_two : {X : Type 0} (p q r : X → Bool) → ((x : X) → one (p x) ≡ one (q x) + one (r x)) → (xs : List X) → hits p xs ≡ hits q xs + hits r xs
hits_two p q r two [] = refl
hits_two p q r two (x ∷ xs) = omega (arith, two x, hits_two p q r two xs)

-- no element passes
pub hits_none : {X : Type 0} (p : X → Bool) (xs : List X) → list_any p xs ≡ false → hits p xs ≡ 0
hits_none p [] none = refl
hits_none p (x ∷ xs) none =
    let parts = or_parts (p x) (list_any p xs) none in
    omega (arith, ap one parts.0, hits_none p xs parts.1)

pub same_bytes : (a b : List ℕ) → bytes_eq a b ≡ true → a ≡ b
same_bytes a b = (bytes_eq-Decides a b).0

pub is_itself : (a : List ℕ) → bytes_eq a a ≡ true
is_itself a = (bytes_eq-Decides a a).1 refl

-- names are compared either way round
pub bytes_eq-swap : (a b : List ℕ) → bytes_eq a b ≡ bytes_eq b a
bytes_eq-swap a b = same_from_decides _ _ (bytes_eq-Decides a b) ((λ e. sym (same_bytes b a e)), λ e. (bytes_eq-Decides b a).1 (sym e))

-- the first of different names doesn't stand among the others, which are different
pub first_differs : (n : List ℕ) (ns : List (List ℕ)) → are_distinct (n ∷ ns) ≡ true → is_among ns n ≡ false
first_differs n ns d = not-true _ (and_parts (not (list_any (bytes_eq n) ns)) (are_distinct ns) d).0

pub others_differ : (n : List ℕ) (ns : List (List ℕ)) → are_distinct (n ∷ ns) ≡ true → are_distinct ns ≡ true
others_differ n ns d = (and_parts (not (list_any (bytes_eq n) ns)) (are_distinct ns) d).1

-- one of different names is a given one, where it stands among them
pub hits_once : (n : List ℕ) (ns : List (List ℕ)) → are_distinct ns ≡ true → is_among ns n ≡ true → hits (bytes_eq n) ns ≡ 1
hits_once n [] d among = cc
hits_once n (m ∷ ns) d among = elim (cases_Bool (bytes_eq n m)) [
  | inl same ↦
      let gone : is_among ns n ≡ false = ap (is_among ns) (same_bytes n m same) ∙ first_differs m ns d in
      omega (arith, ap one same, hits_none (bytes_eq n) ns gone)
  | inr other ↦
      let behind : is_among ns n ≡ true = sym (ap (λ (b : Bool). b || is_among ns n) other) ∙ among in
      omega (arith, ap one other, hits_once n ns (others_differ m ns d) behind)
]

-- a name is one of different ones in one way
pub one_way : (k : List ℕ) (ks : List (List ℕ)) → are_distinct (k ∷ ks) ≡ true → (n : List ℕ) → one (is_among (k ∷ ks) n) ≡ one (bytes_eq k n) + one (is_among ks n)
one_way k ks d n = elim (cases_Bool (bytes_eq k n)) [
  | inl same ↦
      let gone : is_among ks n ≡ false = ap (is_among ks) (sym (same_bytes k n same)) ∙ first_differs k ks d in
      rw (bytes_eq-swap n k, same, gone) refl
  | inr other ↦ rw (bytes_eq-swap n k, other) (omega arith)
]

-- no name stands in an empty key
hits_nothing : (names : List (List ℕ)) → hits (is_among []) names ≡ 0
hits_nothing [] = refl
hits_nothing (n ∷ ns) = omega (arith, hits_nothing ns)

-- as many of different names are those of a key as the key has, where it has no others and none twice
pub hits_of_key : (key names : List (List ℕ)) → are_distinct key ≡ true → are_distinct names ≡ true → list_any (λ k. not (is_among names k)) key ≡ false → hits (is_among key) names ≡ length key
hits_of_key [] names d dn known = hits_nothing names
hits_of_key (k ∷ ks) names d dn known =
    let parts = or_parts (not (is_among names k)) (list_any (λ k. not (is_among names k)) ks) known in
    let first : hits (bytes_eq k) names ≡ 1 = hits_once k names dn (not-false _ parts.0) in
    let others = hits_of_key ks names (others_differ k ks d) dn parts.1 in
    omega (arith, hits_two (is_among (k ∷ ks)) (bytes_eq k) (is_among ks) (one_way k ks d) names, first, others)

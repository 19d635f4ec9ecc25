-- Marks in order, part by part: tests as facts, lists in two.
use Rattle.std.proofs.Common.{◌≡◌, Bool, true, false, ◌&&◌, List, [], ◌∷◌, ◌++◌, refl, ap, sym, ◌∙◌}
use Rattle.std.specs.List.{flat_map, list_all}
use Rattle.tree_laws.specs.Order.{Mark, precedes, ascend}
pub use Rattle.tree_laws.specs.Trees.{Each}

-- a mark may stand before another
abbrev pub Precedes : Mark → Mark → Type 0
Precedes m n = precedes m n ≡ true

-- each mark may stand before all behind it
abbrev pub Ascend : List Mark → Type 0
Ascend [] = Unit {0}
Ascend (m ∷ ms) = Each (Precedes m) ms × Ascend ms

pub and_both : (a b : Bool) → (a && b) ≡ true → (a ≡ true) × (b ≡ true)
and_both true b e = (refl, e)
and_both false b e = absurd (let wrong : false ≡ true = e in cc)

pub and_is : (a b : Bool) → a ≡ true → b ≡ true → (a && b) ≡ true
and_is a b e f = ap (λ (x : Bool). x && b) e ∙ f

pub each_of : {X : Type 0} (p : X → Bool) (xs : List X) → list_all p xs ≡ true → Each (λ x. p x ≡ true) xs
each_of p [] e = tt
each_of p (x ∷ xs) e = let b = and_both (p x) (list_all p xs) e in (b.0, each_of p xs b.1)

pub of_each : {X : Type 0} (p : X → Bool) (xs : List X) → Each (λ x. p x ≡ true) xs → list_all p xs ≡ true
of_each p [] e = refl
of_each p (x ∷ xs) e = and_is (p x) (list_all p xs) e.0 (of_each p xs e.1)

pub ascend_of : (ms : List Mark) → ascend ms ≡ true → Ascend ms
ascend_of [] e = tt
ascend_of (m ∷ ms) e = let b = and_both (list_all (precedes m) ms) (ascend ms) e in (each_of (precedes m) ms b.0, ascend_of ms b.1)

pub of_ascend : (ms : List Mark) → Ascend ms → ascend ms ≡ true
of_ascend [] e = refl
of_ascend (m ∷ ms) e = and_is (list_all (precedes m) ms) (ascend ms) (of_each (precedes m) ms e.0) (of_ascend ms e.1)

pub each-left : {X : Type 0} (P : X → Type 0) (xs ys : List X) → Each P (xs ++ ys) → Each P xs
each-left P [] ys e = tt
each-left P (x ∷ xs) ys e = (e.0, each-left P xs ys e.1)

pub each-right : {X : Type 0} (P : X → Type 0) (xs ys : List X) → Each P (xs ++ ys) → Each P ys
each-right P [] ys e = e
each-right P (x ∷ xs) ys e = each-right P xs ys e.1

pub each-append : {X : Type 0} (P : X → Type 0) (xs ys : List X) → Each P xs → Each P ys → Each P (xs ++ ys)
each-append P [] ys e f = f
each-append P (x ∷ xs) ys e f = (e.0, each-append P xs ys e.1 f)

pub each-map : {X : Type 0} (P Q : X → Type 0) (xs : List X) → ((x : X) → P x → Q x) → Each P xs → Each Q xs
each-map P Q [] f e = tt
each-map P Q (x ∷ xs) f e = (f x e.0, each-map P Q xs f e.1)

pub ascend-left : (xs ys : List Mark) → Ascend (xs ++ ys) → Ascend xs
ascend-left [] ys a = tt
ascend-left (x ∷ xs) ys a = (each-left (Precedes x) xs ys a.0, ascend-left xs ys a.1)

pub ascend-right : (xs ys : List Mark) → Ascend (xs ++ ys) → Ascend ys
ascend-right [] ys a = a
ascend-right (x ∷ xs) ys a = ascend-right xs ys a.1

-- each mark in front may stand before the first one behind
pub ascend-before : (xs : List Mark) (m : Mark) (ys : List Mark) → Ascend (xs ++ m ∷ ys) → Each (λ x. Precedes x m) xs
ascend-before [] m ys a = tt
ascend-before (x ∷ xs) m ys a = ((each-right (Precedes x) xs (m ∷ ys) a.0).0, ascend-before xs m ys a.1)

pub flat-append : {X Y : Type 0} (f : X → List Y) (xs ys : List X) → flat_map f (xs ++ ys) ≡ flat_map f xs ++ flat_map f ys
flat-append f [] ys = refl
flat-append f (x ∷ xs) ys = ap (λ zs. f x ++ zs) (flat-append f xs ys) ∙ sym (assoc (f x) (flat_map f xs) (flat_map f ys))
  where
    assoc : {Y : Type 0} (a b c : List Y) → (a ++ b) ++ c ≡ a ++ (b ++ c)
    assoc [] b c = refl
    assoc (x ∷ a) b c = ap (λ zs. x ∷ zs) (assoc a b c)

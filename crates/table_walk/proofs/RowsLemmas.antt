-- Rows by their keys: inserts that change places, and the rows whose keys are asked for.
use Rattle.std.proofs.Common.{◌≡◌, Bool, true, false, cond, List, refl, ap, sym, ◌∙◌, subst}
use Rattle.std.specs.Prelude.{Option, Some, None}
use Rattle.std.specs.Option.{is_some, unwrap_or}
use Rattle.std.specs.declared.cmp.Ordering.{Ordering}
use Rattle.std.specs.declared.cmp.Ordering.TheVariants.{Less, Equal, Greater}
use Rattle.std.specs.Ordering.{is_eq, eq_by_cmp}
use Rattle.std.specs.Cmp.{eq_by_cmp_equiv}
use Rattle.std.specs.FinMap as finite
use Rattle.std.specs.FinMap.{get-insert, get-empty, get-remove, get-retain_keys, same_map}
use Rattle.page_base.specs.declared.value.Value.{Value}
use Rattle.page_base.specs.Order.{key_cmp}
use Rattle.page_base.proofs.Ordered.{key_cmp_total}
use Rattle.plain_model.specs.Tables.{Rows}
use Rattle.table_walk.specs.Sought.{knows, kept, with_asked}
use Rattle.table_walk.proofs.OrderLemmas.{keys_exact}

abbrev pub Key : Type 0
Key = List Value

abbrev pub same_key : Key → Key → Bool
same_key = eq_by_cmp key_cmp

equal : (r : Ordering) → is_eq r ≡ true → r ≡ Equal
equal Less e = cc
equal Equal e = refl
equal Greater e = cc

pub no_Some : {A P : Type 0} (x : A) → ◌≡◌ {A = Option A} (Some x) None → P
no_Some x e = absurd (subst (λ b. cond b (Unit {0}) ⊥) (ap is_some e) tt)

pub same_Some : {A : Type 0} (x y : A) → ◌≡◌ {A = Option A} (Some x) (Some y) → x ≡ y
same_Some x y e = ap (λ o. unwrap_or o x) e

-- keys that tie are one
pub ties : (q k : Key) → same_key q k ≡ true → q ≡ k
ties q k e = keys_exact q k (equal (key_cmp q k) e)

pub itself : (k : Key) → same_key k k ≡ true
itself k = (eq_by_cmp_equiv key_cmp_total).refl k

pub turned : (q k : Key) → same_key q k ≡ same_key k q
turned q k = (eq_by_cmp_equiv key_cmp_total).symm q k

swapped : {A : Type 0} (a b : Bool) (x y z : A) → (a ≡ true → b ≡ true → ⊥) → cond a x (cond b y z) ≡ cond b y (cond a x z)
swapped true true x y z apart = absurd (apart refl refl)
swapped true false x y z apart = refl
swapped false b x y z apart = refl

pub rows_same : (m n : Rows) → ((q : Key) → finite.get m q ≡ finite.get n q) → m ≡ n
rows_same = same_map key_cmp_total keys_exact

pub get_put : (m : Rows) (k v q : Key) → finite.get (finite.insert m k v) q ≡ cond (same_key q k) (Some v) (finite.get m q)
get_put = get-insert key_cmp_total

pub get_cut : (m : Rows) (k q : Key) → finite.get (finite.remove m k) q ≡ cond (same_key q k) None (finite.get m q)
get_cut = get-remove key_cmp_total

pub get_none : (q : Key) → finite.get {X = Key} {R = key_cmp} finite.empty q ≡ None
get_none = get-empty key_cmp

-- inserts at two keys change places
pub insert_swap : (m : Rows) (q k z y : Key) → same_key q k ≡ false → finite.insert (finite.insert m q z) k y ≡ finite.insert (finite.insert m k y) q z
insert_swap m q k z y ne = rows_same _ _ (λ p.
    get_put (finite.insert m q z) k y p ∙ ap (cond (same_key p k) (Some y)) (get_put m q z p)
    ∙ swapped (same_key p k) (same_key p q) (Some y) (Some z) (finite.get m p) (λ a b. let e : true ≡ false = sym (itself k) ∙ ap (λ r. same_key r k) (sym (ties p k a) ∙ ties p q b) ∙ ne in cc)
    ∙ sym (get_put (finite.insert m k y) q z p ∙ ap (cond (same_key p q) (Some z)) (get_put m k y p)))

-- a key that isn't there once another was put
pub none_apart : (m : Rows) (k q x : Key) → finite.get (finite.insert m k x) q ≡ None → (same_key q k ≡ false) × (finite.get m q ≡ None)
none_apart m k q x e = by (same_key q k) refl (sym (get_put m k x q) ∙ e)
  where
    by : (b : Bool) → same_key q k ≡ b → cond b (Some x) (finite.get m q) ≡ None → (same_key q k ≡ false) × (finite.get m q ≡ None)
    by true is f = no_Some x f
    by false is f = (is, f)

pub none_other : (m : Rows) (k q x : Key) → same_key q k ≡ false → finite.get m q ≡ None → finite.get (finite.insert m k x) q ≡ None
none_other m k q x ne none = get_put m k x q ∙ ap (λ b. cond b (Some x) (finite.get m q)) ne ∙ none

-- WHICH ARE ASKED FOR

pub get_kept : (keys : Option Rows) (m : Rows) (q : Key) → finite.get (kept keys m) q ≡ cond (knows keys q) (finite.get m q) None
get_kept keys m q = get-retain_keys m (knows keys) q (λ x e. sym (ap (knows keys) (keys_exact q x e)))

pub kept-empty : (keys : Option Rows) → finite.empty ≡ kept keys finite.empty
kept-empty keys = rows_same _ _ (λ q. get_none q ∙ sym (get_kept keys finite.empty q ∙ ap (λ o. cond (knows keys q) o None) (get_none q) ∙ both (knows keys q)))
  where
    both : (b : Bool) → ◌≡◌ {A = Option Key} (cond b None None) None
    both true = refl
    both false = refl

pub kept-insert : (keys : Option Rows) (m : Rows) (k row : Key) → with_asked keys k row (kept keys m) ≡ kept keys (finite.insert m k row)
kept-insert keys m k row = rows_same _ _ (λ q. there q ∙ sym (get_kept keys (finite.insert m k row) q ∙ ap (λ o. cond (knows keys q) o None) (get_put m k row q)))
  where
    by : (q : Key) (a b c : Bool) → (c ≡ true → a ≡ b) → (old : Option Key) → cond a (cond c (Some row) (cond b old None)) (cond b old None) ≡ cond b (cond c (Some row) old) None
    by q true true true same old = refl
    by q true true false same old = refl
    by q true false true same old = let e : true ≡ false = same refl in cc
    by q true false false same old = refl
    by q false true true same old = let e : false ≡ true = same refl in cc
    by q false true false same old = refl
    by q false false c same old = refl

    one : (q : Key) → same_key q k ≡ true → knows keys k ≡ knows keys q
    one q e = sym (ap (knows keys) (ties q k e))

    split : (q : Key) (a : Bool) → finite.get (cond a (finite.insert (kept keys m) k row) (kept keys m)) q ≡ cond a (cond (same_key q k) (Some row) (cond (knows keys q) (finite.get m q) None)) (cond (knows keys q) (finite.get m q) None)
    split q true = get_put (kept keys m) k row q ∙ ap (cond (same_key q k) (Some row)) (get_kept keys m q)
    split q false = get_kept keys m q

    there : (q : Key) → finite.get (with_asked keys k row (kept keys m)) q ≡ cond (knows keys q) (cond (same_key q k) (Some row) (finite.get m q)) None
    there q = split q (knows keys k) ∙ by q (knows keys k) (knows keys q) (same_key q k) (one q) (finite.get m q)

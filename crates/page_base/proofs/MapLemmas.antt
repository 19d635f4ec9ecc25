-- An ordered map of std, seen as a finite map.
use Rattle.std.proofs.Common.{◌≡◌, ℕ, List, [], ◌∷◌, length, refl, ap, sym, ◌∙◌, map, cond}
use Rattle.std.specs.Prelude.{None, Some}
use Rattle.std.specs.Map.{lookup}
use Rattle.std.specs.FinMap as finite
use Rattle.std.specs.FinMap.{entries-insert, same_entries_map, len-entries, len-empty, get-from_entries, get-insert, get-remove, get_tied, same_map, find, put, IsAntisymmetric}
use Rattle.std.specs.Ordering.{match_ordering, is_eq}
use Rattle.std.specs.Cmp.{IsTotalOrder, eq_by_cmp_equiv}
use Rattle.std.specs.declared.cmp.Ordering.{Ordering}
use Rattle.std.specs.declared.cmp.Ordering.TheVariants.{Less, Equal, Greater}
use Rattle.std.specs.BTreeMap.{insert_entry}
use Rattle.std.specs.List.{AllByRecursion}
use Rattle.std.specs.List.Sorted.{IsStrictlySortedBy}
use Rattle.std.proofs.lemmas.List.{nil_from_length}

module _ {K X : Type 0} {R : K → K → Ordering} (total : IsTotalOrder R) where
  -- an entry below all others goes in front
  put_front : (e : K × X) (es : List (K × X)) → AllByRecursion (λ y. R e.0 y ≡ Less) (map (λ e. e.0) es) → put R e.0 e.1 es ≡ e ∷ es
  put_front e [] h = refl
  put_front e (x ∷ es) h = rw h.0 refl

  -- entries whose keys ascend are those of the map that they make
  pub entries-from_entries : (es : List (K × X)) → IsStrictlySortedBy R (map (λ e. e.0) es) → finite.entries (finite.from_entries {R = R} es) ≡ es
  unfolding IsStrictlySortedBy
  entries-from_entries [] h = nil_from_length _ (sym (len-entries finite.empty) ∙ len-empty R X)
  entries-from_entries (e ∷ es) h =
      entries-insert total (finite.from_entries es) e.0 e.1
      ∙ ap (put R e.0 e.1) (entries-from_entries es h.1)
      ∙ put_front e es h.0

  pub put-insert_entry : (es : List (K × X)) (k : K) (v : X) → insert_entry R es k v ≡ put R k v es
  put-insert_entry [] k v = refl
  put-insert_entry (e ∷ es) k v = ap (λ rest. match_ordering (R k e.0) ((k, v) ∷ e ∷ es) ((e.0, v) ∷ es) (e ∷ rest)) (put-insert_entry es k v)

  -- an entry that is inserted into the one is inserted into the other
  pub from_entries-insert_entry : (es fs : List (K × X)) (k : K) (v : X) → IsStrictlySortedBy R (map (λ e. e.0) es) → IsStrictlySortedBy R (map (λ e. e.0) fs) →
      fs ≡ insert_entry R es k v → finite.from_entries {R = R} fs ≡ finite.insert (finite.from_entries es) k v
  from_entries-insert_entry es fs k v old new is =
      same_entries_map _ _ (entries-from_entries fs new ∙ is ∙ put-insert_entry es k v ∙ ap (put R k v) (sym (entries-from_entries es old)) ∙ sym (entries-insert total (finite.from_entries es) k v))

  -- both find the same at a key
  pub get-lookup : (es : List (K × X)) (k : K) → finite.get (finite.from_entries {R = R} es) k ≡ lookup (λ x. is_eq (R k x)) es
  get-lookup es k = get-from_entries total es k ∙ same es
    where
      same : (es : List (K × X)) → find R k es ≡ lookup (λ x. is_eq (R k x)) es
      same [] = refl
      same (e ∷ es) = ap (cond (is_eq (R k e.0)) (Some e.1)) (same es)

  -- a value that is written at a key is inserted there
  pub from_entries-written : IsAntisymmetric R → (es fs : List (K × X)) (k : K) (v : X) →
      ((q : K) → lookup (λ x. is_eq (R q x)) fs ≡ cond (is_eq (R k q)) (Some v) (lookup (λ x. is_eq (R q x)) es)) → finite.from_entries {R = R} fs ≡ finite.insert (finite.from_entries es) k v
  from_entries-written exact es fs k v h =
      same_map total exact _ _ (λ q. get-lookup fs q ∙ h q ∙ ap (cond (is_eq (R k q)) (Some v)) (sym (get-lookup es q))
      ∙ ap (λ b. cond b (Some v) (finite.get (finite.from_entries {R = R} es) q)) ((eq_by_cmp_equiv total).symm k q) ∙ sym (get-insert total (finite.from_entries es) k v q))

  -- what is there already changes nothing
  pub insert-same : IsAntisymmetric R → (m : finite.FinMap R X) (k : K) (v : X) → finite.get m k ≡ Some v → finite.insert m k v ≡ m
  insert-same exact m k v there = same_map total exact _ _ (λ q. get-insert total m k v q ∙ at q (R q k) refl)
    where
      at : (q : K) (o : Ordering) → R q k ≡ o → cond (is_eq o) (Some v) (finite.get m q) ≡ finite.get m q
      at q Less e = refl
      at q Equal e = sym there ∙ get_tied total m q k e
      at q Greater e = refl

  -- a key that is taken out of the one is taken out of the other
  pub from_entries-removed : IsAntisymmetric R → (es fs : List (K × X)) (k : K) →
      ((q : K) → lookup (λ x. is_eq (R q x)) fs ≡ cond (is_eq (R k q)) None (lookup (λ x. is_eq (R q x)) es)) → finite.from_entries {R = R} fs ≡ finite.remove (finite.from_entries es) k
  from_entries-removed exact es fs k h =
      same_map total exact _ _ (λ q. get-lookup fs q ∙ h q ∙ ap (cond (is_eq (R k q)) None) (sym (get-lookup es q))
      ∙ ap (λ b. cond b None (finite.get (finite.from_entries {R = R} es) q)) ((eq_by_cmp_equiv total).symm k q) ∙ sym (get-remove total (finite.from_entries es) k q))

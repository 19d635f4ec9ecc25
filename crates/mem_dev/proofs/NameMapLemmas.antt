-- A map of std by the names of files, seen as a finite map.
use Rattle.std.proofs.Common.{◌≡◌, ℕ, List, cond, refl, ap, sym, ◌∙◌, IsTrue}
use Rattle.std.specs.Prelude.{Option, None, Some, is_some, Result, Ok, Err, OnOk, OnErr, IfOk, IsOk}
use Rattle.std.proofs.lemmas.Result.{IfOk-at_ok}
use mathlib.Core.Bool.{true≢false}
use Rattle.std.specs.Map.{lookup}
use Rattle.std.specs.Ordering.{nat_cmp, is_eq}
use Rattle.std.specs.Cmp.Lexicographic.{slice_cmp, nat_list_cmp_total}
use Rattle.std.specs.FinMap.{IsAntisymmetric, nat_cmp-IsAntisymmetric, slice_cmp-IsAntisymmetric}
use Rattle.std.specs.FinMap as map
use Rattle.page_base.proofs.MapLemmas.{from_entries-written, from_entries-removed, get-lookup}

pub names_exact : IsAntisymmetric (slice_cmp nat_cmp)
names_exact = slice_cmp-IsAntisymmetric nat_cmp-IsAntisymmetric

abbrev pub Entries : Type 0 → Type 0
Entries X = List (List ℕ × X)

module _ {X : Type 0} where
  -- what stands at a name
  abbrev pub found : Entries X → List ℕ → Option X
  found es name = lookup (λ x. is_eq (slice_cmp nat_cmp name x)) es

  pub get-found : (es : Entries X) (m : map.FinMap (slice_cmp nat_cmp) X) (name : List ℕ) (o : Option X) → map.from_entries es ≡ m → o ≡ found es name → o ≡ map.get m name
  get-found es m name o is h = h ∙ sym (get-lookup nat_list_cmp_total es name) ∙ ap (λ m. map.get m name) is

  -- the entries after one was set, or taken out
  abbrev pub Sets : Entries X → Entries X → List ℕ → Option X → Type 0
  Sets old new name value = (q : List ℕ) → found new q ≡ cond (is_eq (slice_cmp nat_cmp name q)) value (found old q)

  pub insert-sets : (old new : Entries X) (m : map.FinMap (slice_cmp nat_cmp) X) (name : List ℕ) (value : X) → map.from_entries old ≡ m → Sets old new name (Some value) → map.from_entries new ≡ map.insert m name value
  insert-sets old new m name value is h = from_entries-written nat_list_cmp_total names_exact old new name value h ∙ ap (λ m. map.insert m name value) is

  pub remove-sets : (old new : Entries X) (m : map.FinMap (slice_cmp nat_cmp) X) (name : List ℕ) → map.from_entries old ≡ m → Sets old new name None → map.from_entries new ≡ map.remove m name
  remove-sets old new m name is h = from_entries-removed nat_list_cmp_total names_exact old new name h ∙ ap (λ m. map.remove m name) is

  -- no memory is wanted where the name is there
  pub insert_is_ok : {E : Type 0} (r : Result (Option X) E) (o : Option X) → IsTrue (is_some o) → OnErr r (o ≡ None) → IsOk r
  insert_is_ok (Ok x) o h e = refl
  insert_is_ok (Err x) o h e = absurd (true≢false (sym h ∙ ap is_some e))

  pub insert_had : {E : Type 0} (r : Result (Option X) E) (o x : Option X) → r ≡ Ok x → IfOk r (λ old. old ≡ o) → x ≡ o
  insert_had r o x e h = IfOk-at_ok (λ old. old ≡ o) e h

pub on_ok_at : {T E P : Type 0} (r : Result T E) (x : T) → r ≡ Ok x → OnOk r P → P
on_ok_at {P = P} r x e h = IfOk-at_ok (λ _. P) e h

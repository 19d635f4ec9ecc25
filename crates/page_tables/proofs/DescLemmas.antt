-- Lists of tables with one more and with one less: what holds of each, and which names and numbers are there.
use Rattle.std.proofs.Common.{refl, ◌≡◌, ◌≢◌, ℕ, zero, suc, ◌<◌, ◌==◌, List, [], ◌∷◌, length, get_or, ap, sym, ◌∙◌, arith, Bool, true, false, cond, not, inl, inr, eq-eqb}
use Rattle.std.specs.List.{All, Any}
use Rattle.std.specs.Ordering.{nat_cmp, is_lt}
use Rattle.std.specs.Cmp.Lexicographic.{slice_cmp}
use Rattle.std.specs.Str.{bytes_eq}
use Rattle.std.proofs.lemmas.Bool.{cases_eq, cases_Bool}
use Rattle.std.proofs.lemmas.List.{get_or_default}
use Rattle.std.proofs.lemmas.Slice.Eq.{bytes_eq-Decides}
use Rattle.sys_cat.specs.declared.desc.TableDesc.{TableDesc}
use Rattle.sys_cat.specs.Changing.{has_name, with_desc, without_desc}
use Rattle.sys_cat.specs.Lists.{AreDescs, has_number}
use Rattle.sys_cat.proofs.ChangeLemmas.{neither}
use Rattle.page_tables.proofs.CarriedLemmas.{apart_at, names_apart, numbers_apart}

-- ---- lists

pub all_head : (P : TableDesc → Type 0) (d : TableDesc) (ds : List TableDesc) → All P (d ∷ ds) → P d
all_head P d ds a = a 0 d (omega arith)

pub all_tail : (P : TableDesc → Type 0) (d : TableDesc) (ds : List TableDesc) → All P (d ∷ ds) → All P ds
all_tail P d ds a i x lt = a (suc i) x (omega arith)

pub all_cons : (P : TableDesc → Type 0) (d : TableDesc) (ds : List TableDesc) → P d → All P ds → All P (d ∷ ds)
all_cons P d ds p a zero x lt = p
all_cons P d ds p a (suc i) x lt = a i x (omega arith)

-- ---- one more

pub all_with : (P : TableDesc → Type 0) (ds : List TableDesc) (d : TableDesc) → All P ds → P d → All P (with_desc ds d)
all_with P [] d a p = all_cons P d [] p a
all_with P (e ∷ es) d a p = by (all_with P es d (all_tail P e es a) p) (is_lt (slice_cmp nat_cmp e.name d.name))
  where
    by : All P (with_desc es d) → (b : Bool) → All P (cond b (e ∷ with_desc es d) (d ∷ e ∷ es))
    by later true = all_cons P e (with_desc es d) (all_head P e es a) later
    by later false = all_cons P d (e ∷ es) p a

-- a table that was there is there
pub any_with : (P : TableDesc → Type 0) (ds : List TableDesc) (d : TableDesc) (k : ℕ) (x : TableDesc) → k < length ds → get_or ds k x ≡ x → P x → Any P (with_desc ds d)
any_with P [] d k x lt at p = absurd (omega arith)
any_with P (e ∷ es) d zero x lt at p = by (is_lt (slice_cmp nat_cmp e.name d.name))
  where
    by : (b : Bool) → Any P (cond b (e ∷ with_desc es d) (d ∷ e ∷ es))
    by true = (0, x, omega arith, at, p)
    by false = (1, x, omega arith, at, p)
any_with P (e ∷ es) d (suc k) x lt at p = by (any_with P es d k x (omega arith) at p) (is_lt (slice_cmp nat_cmp e.name d.name))
  where
    by : Any P (with_desc es d) → (b : Bool) → Any P (cond b (e ∷ with_desc es d) (d ∷ e ∷ es))
    by later true = (suc later.0, later.1, omega (arith, later.2), later.3, later.4)
    by later false = (suc (suc k), x, omega arith, at, p)

-- and so is the new one
pub any_new : (P : TableDesc → Type 0) (ds : List TableDesc) (d : TableDesc) → P d → Any P (with_desc ds d)
any_new P [] d p = (0, d, omega arith, refl, p)
any_new P (e ∷ es) d p = by (any_new P es d p) (is_lt (slice_cmp nat_cmp e.name d.name))
  where
    by : Any P (with_desc es d) → (b : Bool) → Any P (cond b (e ∷ with_desc es d) (d ∷ e ∷ es))
    by later true = (suc later.0, later.1, omega (arith, later.2), later.3, later.4)
    by later false = (0, d, omega arith, refl, p)

-- ---- one less

pub all_without : (P : TableDesc → Type 0) (ds : List TableDesc) (name : List ℕ) → ((i : ℕ) (x : TableDesc) → i < length ds → bytes_eq (get_or ds i x).name name ≡ false → P (get_or ds i x)) → All P (without_desc ds name)
all_without P [] name a = λ i x lt. absurd (omega arith)
all_without P (e ∷ es) name a = by (all_without P es name (λ i x lt ne. a (suc i) x (omega arith) ne)) (bytes_eq e.name name) refl
  where
    by : All P (without_desc es name) → (b : Bool) → bytes_eq e.name name ≡ b → All P (cond (not b) (e ∷ without_desc es name) (without_desc es name))
    by later true is = later
    by later false is = all_cons P e (without_desc es name) (a 0 e (omega arith) is) later

-- a table of another name stays
pub any_without : (P : TableDesc → Type 0) (ds : List TableDesc) (name : List ℕ) (k : ℕ) (x : TableDesc) → k < length ds → get_or ds k x ≡ x → bytes_eq x.name name ≡ false → P x → Any P (without_desc ds name)
any_without P [] name k x lt at ne p = absurd (omega arith)
any_without P (e ∷ es) name zero x lt at ne p = by (bytes_eq e.name name) (ap (λ (d : TableDesc). bytes_eq d.name name) at ∙ ne)
  where
    by : (b : Bool) → b ≡ false → Any P (cond (not b) (e ∷ without_desc es name) (without_desc es name))
    by true is = absurd (let w : true ≡ false = is in cc)
    by false is = (0, x, omega arith, at, p)
any_without P (e ∷ es) name (suc k) x lt at ne p = by (any_without P es name k x (omega arith) at ne p) (bytes_eq e.name name)
  where
    by : Any P (without_desc es name) → (b : Bool) → Any P (cond (not b) (e ∷ without_desc es name) (without_desc es name))
    by later true = later
    by later false = (suc later.0, later.1, omega (arith, later.2), later.3, later.4)

-- ---- names and numbers

pub other_number : (ds : List TableDesc) (n k : ℕ) (e : TableDesc) → has_number ds n ≡ false → k < length ds → (get_or ds k e).number.0 ≢ n
other_number [] n k e h lt = absurd (omega arith)
other_number (d ∷ ds) n zero e h lt = λ same. let w : true ≡ false = sym (eq-eqb d.number.0 n same) ∙ (neither (d.number.0 == n) (has_number ds n) h).0 in cc
other_number (d ∷ ds) n (suc k) e h lt = other_number ds n k e (neither (d.number.0 == n) (has_number ds n) h).1 (omega arith)

pub other_name : (ds : List TableDesc) (name : List ℕ) (k : ℕ) (e : TableDesc) → has_name ds name ≡ false → k < length ds → bytes_eq (get_or ds k e).name name ≡ false
other_name [] name k e h lt = absurd (omega arith)
other_name (d ∷ ds) name zero e h lt = (neither (bytes_eq d.name name) (has_name ds name) h).0
other_name (d ∷ ds) name (suc k) e h lt = other_name ds name k e (neither (bytes_eq d.name name) (has_name ds name) h).1 (omega arith)

-- of two tables the names differ just where the numbers do
module _ (ds : List TableDesc) (descs : AreDescs ds) (d : TableDesc) (some : Any (λ (e : TableDesc). e ≡ d) ds) where
  its : (e : TableDesc) → get_or ds some.0 e ≡ d
  its e = get_or_default ds some.0 e some.1 some.2 ∙ some.3 ∙ some.4

  pub number_differs : (j : ℕ) (e : TableDesc) → j < length ds → bytes_eq (get_or ds j e).name d.name ≡ false → (get_or ds j e).number.0 ≢ d.number.0
  number_differs j e lt differ = elim (cases_eq j some.0) as (λ _. (get_or ds j e).number.0 ≢ d.number.0) [
    | inl same ↦ absurd (let w : true ≡ false = sym ((bytes_eq-Decides (get_or ds j e).name d.name).1 (ap (λ i. (get_or ds i e).name) same ∙ ap (λ (x : TableDesc). x.name) (its e))) ∙ differ in cc)
    | inr ne ↦ λ f. apart_at (λ (x : TableDesc). x.number.0) ds (numbers_apart ds descs) j some.0 e ne lt some.2 (f ∙ sym (ap (λ (x : TableDesc). x.number.0) (its e)))
  ]

  pub name_differs : (j : ℕ) (e : TableDesc) → j < length ds → (get_or ds j e).number.0 ≢ d.number.0 → bytes_eq (get_or ds j e).name d.name ≡ false
  name_differs j e lt differ = elim (cases_Bool (bytes_eq (get_or ds j e).name d.name)) [
    | inr f ↦ f
    | inl t ↦ elim (cases_eq j some.0) as (λ _. bytes_eq (get_or ds j e).name d.name ≡ false) [
      | inl same ↦ absurd (differ (ap (λ i. (get_or ds i e).number.0) same ∙ ap (λ (x : TableDesc). x.number.0) (its e)))
      | inr ne ↦ absurd (apart_at (λ (x : TableDesc). x.name) ds (names_apart ds descs) j some.0 e ne lt some.2 ((bytes_eq-Decides (get_or ds j e).name d.name).0 t ∙ sym (ap (λ (x : TableDesc). x.name) (its e))))
    ]
  ]

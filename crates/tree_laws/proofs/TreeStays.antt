-- A tree of typed pages stays one: the record of it and the steps' own, and pages that are claimed for it.
use Rattle.std.proofs.Common.{◌≡◌, ◌≢◌, ◌≤◌, ◌<◌, ◌+◌, ◌||◌, ℕ, zero, suc, Bool, true, false, cond, List, [], ◌∷◌, ◌++◌, length, refl, ap, sym, ◌∙◌, arith, drop, map}
use Rattle.std.specs.Prelude.{Option, None, Some, All}
use Rattle.std.specs.List.{concat, flat_map}
use Rattle.page_base.specs.declared.column.Column.{Column}
use Rattle.page_base.specs.declared.numbers.PageId.{PageId}
use Rattle.page_base.specs.declared.value.Value.{Value}
use Rattle.page_base.specs.Pages.{is_page}
use Rattle.page_fmt.specs.Seen.{SlotsAt}
use Rattle.page_fmt.proofs.SeenLemmas.{is_page-true, is_page-other}
use Rattle.plain_model.specs.Tables.{Rows as Map, key_of}
use Rattle.row_fmt.specs.Rows.{value_field, row_bytes, bit_fields, null_bytes, is_null}
use Rattle.table_walk.specs.Plans.{is_claimed, also, AreFree, cut_all, put_all}
use Rattle.table_walk.specs.Tables.{MayPut}
use Rattle.tree_laws.specs.Keys.{Key}
use Rattle.tree_laws.specs.Puts.{entry_for, put, cut, cut_keys, put_rows, level_in}
use Rattle.tree_laws.specs.Reads.{HasKey, IsKey, IsTree}
use Rattle.tree_laws.specs.Sheets.{Entry, Sheet, Stand}
use Rattle.tree_laws.specs.Trees.{entries_at, inside, pages_of}
use Rattle.tree_laws.proofs.Folds.{CutPaths, PutPaths, cut_keys_claims, IsGrove, IsGrownFrom, joins, many_cut, many_put}
use Rattle.tree_laws.proofs.HandOut.{claimed_from, times_claimed}
use Rattle.tree_laws.proofs.KeyFields.{is_key}
use Rattle.tree_laws.proofs.Lists.{Each, ascend_of, of_ascend}
use Rattle.tree_laws.proofs.Sound.{AreRules, Via, OnPath}
use Rattle.tree_laws.proofs.Times.{times}

-- WHAT ROWS AND KEYS HAVE

-- a row of some values has bytes
pub bytes_some : (row : List Value) → row ≢ [] → row_bytes row ≢ []
unfolding row_bytes bit_fields
bytes_some [] some e = some refl
bytes_some (v ∷ vs) some e = begins (null_bytes (length (v ∷ vs))) (omega arith) e
  where
    begins : (n : ℕ) → 1 ≤ n → concat (bit_fields n (map is_null (v ∷ vs)) ++ flat_map value_field (v ∷ vs)) ≡ [] → ⊥
    begins zero h f = absurd (omega arith)
    begins (suc n) h f = let w : suc (length (concat (bit_fields n (drop 8 (map is_null (v ∷ vs))) ++ flat_map value_field (v ∷ vs)))) ≡ 0 = ap length f in absurd (omega arith)

pub rules_of : (cols : List Column) → HasKey cols → AreRules cols (MayPut cols) (IsKey cols)
rules_of cols h = record {
  small = λ row may. omega (arith, may.small.bytes);
  some = λ row may none. bytes_some row may.some none;
  key = λ row may. is_key cols h row may;
  short = λ key k. k.short;
}

-- ALL PATHS

all_on : (s : PageId → Sheet) (k : Key) (n : ℕ) (p : PageId) → OnPath (λ q. true) s k n p
all_on s k zero p = refl
all_on s k (suc n) p = (refl, via (entry_for k (entries_at s p)) (all_on s k n))
  where
    via : (o : Option Entry) → ((q : PageId) → OnPath (λ q. true) s k n q) → Via (OnPath (λ q. true) s k n) o
    via None f = tt
    via (Some e) f = f e.page

all_cut : (cols : List Column) (root : PageId) (ks : List Key) (s : Stand) → CutPaths cols (λ q. true) root ks s
all_cut cols root [] s = tt
all_cut cols root (k ∷ ks) s = (all_on s.sheets k (level_in (s.sheets root)) root, all_cut cols root ks (cut cols root k s))

all_put : (cols : List Column) (claimed : ℕ → PageId) (root : PageId) (rs : List (List Value)) (s : Stand) → PutPaths cols (λ q. true) claimed root rs s
all_put cols claimed root [] s = tt
all_put cols claimed root (r ∷ rs) s = (all_on s.sheets (key_of cols r) (level_in (s.sheets root)) root, all_put cols claimed root rs (put cols claimed root r s))

-- PAGES THAT ARE CLAIMED

module _ (claimed : ℕ → PageId) (n : ℕ) (at : SlotsAt) (owns : PageId → Bool) (free : AreFree claimed n at owns) where
  apart_from : (p : PageId) (a k : ℕ) → a + k ≤ n → ((i : ℕ) → a ≤ i → i < a + k → p ≢ claimed i) → times p (claimed_from claimed a k) ≡ 0
  apart_from p a zero h ne = refl
  apart_from p a (suc k) h ne =
      let no : is_page (claimed a) p ≡ false = is_page-other (claimed a) p (λ e. ne a (omega arith) (omega arith) (sym e)) in
      let rest = apart_from p (a + 1) k (omega (arith, h)) (λ i low high. ne i (omega (arith, low)) (omega (arith, high))) in
      let z : cond {A = ℕ} (is_page (claimed a) p) 1 0 ≡ 0 = ap (λ (b : Bool). cond {A = ℕ} b 1 0) no in
      omega (arith, z, rest)

  pub owned_apart : (p : PageId) (a k : ℕ) → a + k ≤ n → owns p ≡ true → times p (claimed_from claimed a k) ≡ 0
  owned_apart p a k h own = apart_from p a k h (λ i low high same. let wrong : true ≡ false = sym own ∙ ap owns same ∙ free.unowned i (omega (arith, high, h)) in cc)

  pub claimed_once : (p : PageId) (a k : ℕ) → a + k ≤ n → times p (claimed_from claimed a k) ≤ 1
  claimed_once p a zero h = omega arith
  claimed_once p a (suc k) h = by (is_page (claimed a) p) refl (claimed_once p (a + 1) k (omega (arith, h)))
    where
      by : (b : Bool) → is_page (claimed a) p ≡ b → times p (claimed_from claimed (a + 1) k) ≤ 1 → times p (claimed_from claimed a (suc k)) ≤ 1
      by true e later =
          let same : claimed a ≡ p = is_page-true (claimed a) p e in
          let rest = apart_from p (a + 1) k (omega (arith, h)) (λ i low high is. free.differ a i (omega (arith, low)) (omega (arith, high, h)) (same ∙ is)) in
          let one : cond {A = ℕ} (is_page (claimed a) p) 1 0 ≡ 1 = ap (λ (b : Bool). cond {A = ℕ} b 1 0) e in
          omega (arith, one, rest)
      by false e later =
          let none : cond {A = ℕ} (is_page (claimed a) p) 1 0 ≡ 0 = ap (λ (b : Bool). cond {A = ℕ} b 1 0) e in
          omega (arith, none, later)

  -- how often a page is among the first of them
  pub claimed_times : (p : PageId) (k : ℕ) → k ≤ n → times p (claimed_from claimed 0 k) ≡ cond (is_claimed claimed k p) 1 0
  claimed_times p zero h = refl
  claimed_times p (suc k) h = by (is_page (claimed k) p) refl (claimed_times p k (omega (arith, h)))
    where
      more : times p (claimed_from claimed 0 (suc k)) ≡ times p (claimed_from claimed 0 k) + times p (claimed k ∷ [])
      more =
          let e : k + 1 ≡ suc k = omega arith in
          let z : 0 + k ≡ k = omega arith in
          ap (λ (m : ℕ). times p (claimed_from claimed 0 m)) (sym e) ∙ times_claimed claimed 0 k 1 p ∙ ap (λ (m : ℕ). times p (claimed_from claimed 0 k) + times p (claimed m ∷ [])) z

      by : (b : Bool) → is_page (claimed k) p ≡ b → times p (claimed_from claimed 0 k) ≡ cond (is_claimed claimed k p) 1 0 → times p (claimed_from claimed 0 (suc k)) ≡ cond (is_page (claimed k) p || is_claimed claimed k p) 1 0
      by true e rec =
          let one : times p (claimed k ∷ []) ≡ 1 = ap (λ (b : Bool). cond {A = ℕ} b 1 0 + 0) e in
          let goal : cond {A = ℕ} (is_page (claimed k) p || is_claimed claimed k p) 1 0 ≡ 1 = ap (λ (b : Bool). cond {A = ℕ} (b || is_claimed claimed k p) 1 0) e in
          omega (arith, one, goal, more, claimed_once p 0 (suc k) (omega (arith, h)))
      by false e rec =
          let none : times p (claimed k ∷ []) ≡ 0 = ap (λ (b : Bool). cond {A = ℕ} b 1 0 + 0) e in
          let goal : cond {A = ℕ} (is_page (claimed k) p || is_claimed claimed k p) 1 0 ≡ cond {A = ℕ} (is_claimed claimed k p) 1 0 = ap (λ (b : Bool). cond {A = ℕ} (b || is_claimed claimed k p) 1 0) e in
          omega (arith, none, goal, more, rec)

  pub also_times : (p : PageId) (k : ℕ) → k ≤ n → cond {A = ℕ} (owns p) 1 0 + times p (claimed_from claimed 0 k) ≡ cond (also owns claimed k p) 1 0
  also_times p k h = by (owns p) refl
    where
      by : (b : Bool) → owns p ≡ b → cond {A = ℕ} b 1 0 + times p (claimed_from claimed 0 k) ≡ cond (b || is_claimed claimed k p) 1 0
      by true e = omega (arith, owned_apart p 0 k (omega (arith, h)) e)
      by false e = omega (arith, claimed_times p k h)

-- FROM THE ONE RECORD TO THE OTHER

pub below : (n i : ℕ) → i < 0 + n → i < n
below n i h = omega (arith, h)

module _ (cols : List Column) (has : HasKey cols) (R : PageId → Bool) (claimed : ℕ → PageId) (n : ℕ) (at : SlotsAt) (owns : PageId → Bool) (free : AreFree claimed n at owns) (root : PageId) where
  abbrev pub begun : (PageId → Sheet) → Stand
  begun sheets = record { sheets = sheets; claims = 0 }

  abbrev pub Grove : ℕ → Stand → Map → Type 0
  Grove r s m = IsGrove cols (MayPut cols) (IsKey cols) R (rules_of cols has) claimed root r s m

  abbrev pub GrownFrom : ℕ → Stand → ℕ → Stand → Map → Type 0
  GrownFrom r s g t m = IsGrownFrom cols (MayPut cols) (IsKey cols) R (rules_of cols has) claimed root r s g t m

  pub once : (sheets : PageId → Sheet) (rows : Map) (t : IsTree cols R sheets root owns rows) (q : PageId) → times q (pages_of sheets (suc t.level) root) + times q (claimed_from claimed 0 n) ≤ 1
  once sheets rows t q = by (owns q) refl
    where
      by : (b : Bool) → owns q ≡ b → times q (pages_of sheets (suc t.level) root) + times q (claimed_from claimed 0 n) ≤ 1
      by true e =
          let one : cond {A = ℕ} (owns q) 1 0 ≡ 1 = ap (λ (b : Bool). cond {A = ℕ} b 1 0) e in
          omega (arith, t.owned q, one, owned_apart claimed n at owns free q 0 n (omega arith) e)
      by false e =
          let none : cond {A = ℕ} (owns q) 1 0 ≡ 0 = ap (λ (b : Bool). cond {A = ℕ} b 1 0) e in
          omega (arith, t.owned q, none, claimed_once claimed n at owns free q 0 n (omega arith))

  abbrev pub grove_of : (sheets : PageId → Sheet) (rows : Map) (t : IsTree cols R sheets root owns rows) → Grove n (begun sheets) rows
  grove_of sheets rows t = record {
    level = t.level;
    sound = t.sound;
    order = ascend_of (inside cols sheets (suc t.level) root) t.order;
    rows = t.by_keys;
    free = record { once = once sheets rows t; targets = λ i low high. free.targets i (below n i high) };
  }

  pub tree_of : (sheets : PageId → Sheet) (rows : Map) (t : IsTree cols R sheets root owns rows) (u : Stand) (m : Map) → GrownFrom n (begun sheets) t.level u m → u.claims ≤ n → IsTree cols R u.sheets root (also owns claimed u.claims) m
  tree_of sheets rows t u m g few = record {
    level = g.tree.level;
    sound = g.tree.sound;
    order = of_ascend (inside cols u.sheets (suc g.tree.level) root) g.tree.order;
    by_keys = g.tree.rows;
    owned = λ p.
        let used : g.used ≡ u.claims = omega (arith, g.claims) in
        omega (arith, g.pages p, t.owned p, also_times claimed n at owns free p u.claims few, ap (λ (k : ℕ). times p (claimed_from claimed 0 k)) used);
  }

-- EACH ROW OF SOME, AS A FACT OF EACH

pub each_of_all : {X : Type 0} (P : X → Type 0) (xs : List X) → All P xs → Each P xs
each_of_all P [] a = tt
each_of_all P (x ∷ xs) a = (a 0 x (omega arith), each_of_all P xs (λ k d lt. a (suc k) d (omega (arith, lt))))

-- keys are cut and rows are put, over pages that all have room
pub stays_one : (cols : List Column) (has : HasKey cols) (claimed : ℕ → PageId) (n : ℕ) (at : SlotsAt) (owns : PageId → Bool) (root : PageId) (sheets : PageId → Sheet) (rows : Map) (ks : List Key) (rs : List (List Value))
    → AreFree claimed n at owns → All (MayPut cols) rs → IsTree cols (λ p. true) sheets root owns rows
    → (put_rows cols claimed root rs (cut_keys cols root ks (record { sheets = sheets; claims = 0 }))).claims ≤ n
    → IsTree cols (λ p. true) (put_rows cols claimed root rs (cut_keys cols root ks (record { sheets = sheets; claims = 0 }))).sheets root
    (also owns claimed (put_rows cols claimed root rs (cut_keys cols root ks (record { sheets = sheets; claims = 0 }))).claims) (put_all cols rs (cut_all ks rows))
stays_one cols has claimed n at owns root sheets rows ks rs free may t few =
    let R : PageId → Bool = λ p. true in
    let s : Stand = record { sheets = sheets; claims = 0 } in
    let c : Stand = cut_keys cols root ks s in
    let none : c.claims ≡ 0 = cut_keys_claims cols root ks s in
    let a : GrownFrom cols has (λ p. true) claimed n at owns free root n s t.level (cut_keys cols root ks s) (cut_all ks rows) =
    many_cut cols (MayPut cols) (IsKey cols) (λ p. true) (rules_of cols has) claimed ks root n s rows (grove_of cols has (λ p. true) claimed n at owns free root sheets rows t) (all_cut cols root ks s) in
    let b = many_put cols (MayPut cols) (IsKey cols) (λ p. true) (rules_of cols has) claimed rs root a.left c (cut_all ks rows) a.tree (each_of_all (MayPut cols) rs may) (all_put cols claimed root rs c) (omega (arith, few, none, a.sum, a.claims)) in
    tree_of cols has (λ p. true) claimed n at owns free root sheets rows t (put_rows cols claimed root rs c) (put_all cols rs (cut_all ks rows))
    (joins cols (MayPut cols) (IsKey cols) (λ p. true) (rules_of cols has) claimed root n s t.level c (cut_all ks rows) a (put_rows cols claimed root rs c) (put_all cols rs (cut_all ks rows)) b) few

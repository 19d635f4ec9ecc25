-- Keys are cut and rows are put one at a time, and what is inside the root stays one tree.
use Rattle.std.proofs.Common.{Bool, ◌≡◌, ◌≤◌, ◌+◌, ◌-◌, ℕ, zero, suc, true, false, cond, List, [], ◌∷◌, refl, ap, sym, ◌∙◌, subst, arith, append-nil}
use Rattle.std.specs.Prelude.{Option, None, Some}
use Rattle.page_base.specs.declared.column.Column.{Column}
use Rattle.page_base.specs.declared.numbers.PageId.{PageId}
use Rattle.page_base.specs.declared.value.Value.{Value}
use Rattle.plain_model.specs.Tables.{Rows as Map, key_of}
use Rattle.table_walk.specs.Leaves.{ByKeys}
use Rattle.table_walk.specs.Plans.{cut_all, put_all}
use Rattle.tree_laws.specs.Keys.{Key}
use Rattle.tree_laws.specs.Parts.{fill}
pub use Rattle.tree_laws.specs.Paths.{IsOnPath, CutPaths, PutPaths}
use Rattle.tree_laws.specs.Puts.{rows_in_order, row_size, leaf_of_rows, first_key, with_row, in_key_order, put_entries, entry_for, lay, with_sheet, rise, rise_with, through, put_below, put_under, put, level_in, cut_at, cut_below, cut, cut_keys, put_rows}
use Rattle.tree_laws.specs.Sheets.{Entry, Sheet, Stand, Grown, fits, leaf_in, entries_in}
use Rattle.tree_laws.specs.Sheets.Sheet.{Rows, Inner}
use Rattle.tree_laws.specs.Trees.{inside, rows_of, pages_of}
use Rattle.tree_laws.proofs.CutBelow.{IsCut, root_cut}
use Rattle.tree_laws.proofs.HandOut.{claimed_from, times_claimed, hand_claims}
use Rattle.tree_laws.proofs.InnerLay.{inner_claims}
use Rattle.tree_laws.proofs.Lists.{Each, Ascend}
use Rattle.tree_laws.proofs.PutRoot.{IsPut, is_put, rise_root_claims}
use Rattle.tree_laws.proofs.Sound.{AreRules, IsSound, OnPath, IsFree}
use Rattle.tree_laws.proofs.Times.{times}

abbrev Rs : Type 0
Rs = List (List Value)

cut_below_claims : (cols : List Column) (k : Key) (n : ℕ) (p : PageId) (s : Stand) → (cut_below cols k n p s).claims ≡ s.claims
cut_below_claims cols k zero p s = refl
cut_below_claims cols k (suc n) p s = by (entry_for k (in_key_order (entries_in (s.sheets p)))) (λ q. cut_below_claims cols k n q s)
  where
    by : (o : Option Entry) → ((q : PageId) → (cut_below cols k n q s).claims ≡ s.claims) → (cut_at (cut_below cols k n) o s).claims ≡ s.claims
    by None f = refl
    by (Some e) f = f e.page

pub cut_claims : (cols : List Column) (root : PageId) (k : Key) (s : Stand) → (cut cols root k s).claims ≡ s.claims
cut_claims cols root k s = cut_below_claims cols k (level_in (s.sheets root)) root s

pub cut_keys_claims : (cols : List Column) (root : PageId) (ks : List Key) (s : Stand) → (cut_keys cols root ks s).claims ≡ s.claims
cut_keys_claims cols root [] s = refl
cut_keys_claims cols root (k ∷ ks) s = cut_keys_claims cols root ks (cut cols root k s) ∙ cut_claims cols root k s

module _ (cols : List Column) (P : List Value → Type 0) (K : Key → Type 0) (R : PageId → Bool) (rules : AreRules cols P K) (claimed : ℕ → PageId) where
  -- CLAIMS

  lay_claims : (p : PageId) (ps : List Rs) (s : Stand) → s.claims ≤ (lay leaf_of_rows (first_key cols) claimed p ps s).stand.claims
  lay_claims p [] s = omega arith
  lay_claims p (part ∷ ps) s = omega (arith, hand_claims leaf_of_rows (first_key cols) claimed ps (with_sheet p (leaf_of_rows part) s))

  rise_claims : (p : PageId) (n : ℕ) (es : List (Option Entry)) (g : Grown) → g.stand.claims ≤ (rise claimed p (suc n) es g).stand.claims
  rise_claims p n es g = by g.more
    where
      by : (more : List Entry) → g.stand.claims ≤ (rise_with claimed p (suc n) es more (record { stand = g.stand; more = more })).stand.claims
      by [] = omega arith
      by (e ∷ more) = inner_claims cols P K R rules claimed n None p g.stand [] (put_entries (e ∷ more) es)

  below_claims : (row : List Value) (n : ℕ) (p : PageId) (s : Stand) → s.claims ≤ (put_below cols claimed row n p s).stand.claims
  below_claims row zero p s = by (fits (Rows (with_row cols row (leaf_in (s.sheets p)))))
    where
      by : (b : Bool) → s.claims ≤ (cond b (record { stand = with_sheet p (Rows (with_row cols row (leaf_in (s.sheets p)))) s; more = [] })
          (lay leaf_of_rows (first_key cols) claimed p (fill row_size 8096 8096 (rows_in_order cols (with_row cols row (leaf_in (s.sheets p))))) s)).stand.claims
      by true = omega arith
      by false = lay_claims p (fill row_size 8096 8096 (rows_in_order cols (with_row cols row (leaf_in (s.sheets p))))) s
  below_claims row (suc n) p s =
      omega (
        arith,
        through_claims (entry_for (key_of cols row) (in_key_order (entries_in (s.sheets p)))) (λ q. below_claims row n q s),
        rise_claims p n (entries_in (s.sheets p)) (through claimed row (put_below cols claimed row n) (entry_for (key_of cols row) (in_key_order (entries_in (s.sheets p)))) s),
      )
    where
      through_claims : (o : Option Entry) → ((q : PageId) → s.claims ≤ (put_below cols claimed row n q s).stand.claims) → s.claims ≤ (through claimed row (put_below cols claimed row n) o s).stand.claims
      through_claims None f = omega arith
      through_claims (Some e) f = f e.page

  pub put_claims : (row : List Value) (root : PageId) (s : Stand) → s.claims ≤ (put cols claimed root row s).claims
  put_claims row root s = by (s.sheets root)
    where
      through_claims : (n : ℕ) (o : Option Entry) → s.claims ≤ (through claimed row (put_below cols claimed row n) o s).stand.claims
      through_claims n None = omega arith
      through_claims n (Some e) = below_claims row n e.page s

      by : (x : Sheet) → s.claims ≤ (put_under cols claimed root row x s).claims
      by (Rows leaf) = omega arith
      by (Inner zero es) = omega arith
      by (Inner (suc n) es) =
          let g : Grown = through claimed row (put_below cols claimed row n) (entry_for (key_of cols row) (in_key_order es)) s in
          omega (arith, through_claims n (entry_for (key_of cols row) (in_key_order es)), rise_root_claims claimed root (suc n) es g.more g.stand)

  pub put_rows_claims : (rs : Rs) (root : PageId) (s : Stand) → s.claims ≤ (put_rows cols claimed root rs s).claims
  put_rows_claims [] root s = omega arith
  put_rows_claims (r ∷ rs) root s = omega (arith, put_claims r root s, put_rows_claims rs root (put cols claimed root r s))

  -- TREES

  -- typed pages that are a tree of these rows, with so many free pages to be claimed
  pub record IsGrove (root : PageId) (r : ℕ) (s : Stand) (m : Map) : Type 0 where
    pub level : ℕ
    pub sound : IsSound P K R s.sheets (suc level) None root
    pub order : Ascend (inside cols s.sheets (suc level) root)
    pub rows : ByKeys cols (rows_of cols s.sheets (suc level) root) m
    pub free : IsFree P K R claimed s.claims r (pages_of s.sheets (suc level) root)

  -- another such tree, which has the pages of the first and those that were claimed since
  pub record IsGrownFrom (root : PageId) (r : ℕ) (s : Stand) (g : ℕ) (t : Stand) (m : Map) : Type 0 where
    pub used : ℕ
    pub claims : t.claims ≡ s.claims + used
    pub left : ℕ
    pub sum : used + left ≡ r
    pub tree : IsGrove root left t m
    pub pages : (q : PageId) → times q (pages_of t.sheets (suc tree.level) root) ≡ times q (pages_of s.sheets (suc g) root) + times q (claimed_from claimed s.claims used)
    pub others : (q : PageId) → times q (pages_of s.sheets (suc g) root) ≡ 0 → times q (claimed_from claimed s.claims used) ≡ 0 → t.sheets q ≡ s.sheets q

  -- its level is the root's
  level_is : (root : PageId) (r : ℕ) (s : Stand) (m : Map) (t : IsGrove root r s m) → level_in (s.sheets root) ≡ suc t.level
  level_is root r s m t = ap level_in t.sound.0

  path_of : (root : PageId) (r : ℕ) (s : Stand) (m : Map) (t : IsGrove root r s m) (k : Key) → IsOnPath R root k s → OnPath R s.sheets k (suc t.level) root
  path_of root r s m t k path = subst (λ (n : ℕ). OnPath R s.sheets k n root) (level_is root r s m t) path

  pub one_put : (root : PageId) (r : ℕ) (s : Stand) (m : Map) (row : List Value) (t : IsGrove root r s m) → P row → IsOnPath R root (key_of cols row) s → (put cols claimed root row s).claims ≤ s.claims + r
      → IsGrownFrom root r s t.level (put cols claimed root row s) (put_all cols (row ∷ []) m)
  one_put root r s m row t good path budget =
      let d : IsPut cols P K R rules claimed row good t.level root s (put cols claimed root row s) = is_put cols P K R rules claimed row good t.level root s r t.sound t.order t.free (path_of root r s m t (key_of cols row) path) budget in
      let few : d.used ≤ r = omega (arith, budget, d.claims) in
      let all_of : d.used + (r - d.used) ≡ r = omega arith in
      let count : (q : PageId) → times q (claimed_from claimed s.claims r) ≡ times q (claimed_from claimed s.claims d.used) + times q (claimed_from claimed (put cols claimed root row s).claims (r - d.used)) =
      λ q. ap (λ (c : ℕ). times q (claimed_from claimed s.claims c)) (sym all_of) ∙ times_claimed claimed s.claims d.used (r - d.used) q ∙ ap (λ (c : ℕ). times q (claimed_from claimed s.claims d.used) + times q (claimed_from claimed c (r - d.used))) (sym d.claims) in
      record {
        used = d.used;
        claims = d.claims;
        left = r - d.used;
        sum = all_of;
        tree = record {
          level = d.level;
          sound = d.sound;
          order = d.order;
          rows = d.rows m t.rows;
          free = record { once = λ q. omega (arith, d.pages q, t.free.once q, count q); targets = λ i low high. t.free.targets i (omega (arith, low, d.claims)) (omega (arith, high, d.claims, few)) };
        };
        pages = d.pages;
        others = d.others;
      }

  pub one_cut : (root : PageId) (r : ℕ) (s : Stand) (m : Map) (k : Key) (t : IsGrove root r s m) → IsOnPath R root k s → IsGrownFrom root r s t.level (cut cols root k s) (cut_all (k ∷ []) m)
  one_cut root r s m k t path =
      let once : (q : PageId) → times q (pages_of s.sheets (suc t.level) root) ≤ 1 = λ q. omega (arith, t.free.once q) in
      let d : IsCut cols P K R rules k (suc t.level) s None root (cut cols root k s) = root_cut cols P K R rules k t.level root s t.sound t.order once (path_of root r s m t k path) in
      record {
        used = 0;
        claims = omega (arith, d.claims);
        left = r;
        sum = omega arith;
        tree = record {
          level = t.level;
          sound = d.sound;
          order = subst Ascend (append-nil (inside cols (cut cols root k s).sheets (suc t.level) root)) (d.order [] [] (subst Ascend (sym (append-nil (inside cols s.sheets (suc t.level) root))) t.order));
          rows = subst (λ (l : Rs). ByKeys cols l (cut_all (k ∷ []) m)) (append-nil (rows_of cols (cut cols root k s).sheets (suc t.level) root))
              (d.rows [] [] m (subst (λ (l : Rs). ByKeys cols l m) (sym (append-nil (rows_of cols s.sheets (suc t.level) root))) t.rows) refl refl);
          free = record {
            once = λ q. omega (arith, t.free.once q, ap (times q) d.pages, ap (λ (c : ℕ). times q (claimed_from claimed c r)) d.claims);
            targets = λ i low high. t.free.targets i (omega (arith, low, d.claims)) (omega (arith, high, d.claims));
          };
        };
        pages = λ q. omega (arith, ap (times q) d.pages);
        others = λ q gone claims. d.others q gone;
      }

  -- nothing done
  pub nothing : (root : PageId) (r : ℕ) (s : Stand) (m : Map) (t : IsGrove root r s m) → IsGrownFrom root r s t.level s m
  nothing root r s m t = record { used = 0; claims = omega arith; left = r; sum = omega arith; tree = t; pages = λ q. omega arith; others = λ q gone claims. refl }

  pub joins : (root : PageId) (r : ℕ) (s : Stand) (g : ℕ) (t : Stand) (m : Map) (a : IsGrownFrom root r s g t m) (u : Stand) (n : Map) → IsGrownFrom root a.left t a.tree.level u n → IsGrownFrom root r s g u n
  joins root r s g t m a u n b =
      let sum : (q : PageId) → times q (claimed_from claimed s.claims (a.used + b.used)) ≡ times q (claimed_from claimed s.claims a.used) + times q (claimed_from claimed t.claims b.used) =
      λ q. times_claimed claimed s.claims a.used b.used q ∙ ap (λ (c : ℕ). times q (claimed_from claimed s.claims a.used) + times q (claimed_from claimed c b.used)) (sym a.claims) in
      record {
        used = a.used + b.used;
        claims = omega (arith, a.claims, b.claims);
        left = b.left;
        sum = omega (arith, a.sum, b.sum);
        tree = b.tree;
        pages = λ q. omega (arith, a.pages q, b.pages q, sum q);
        others = λ q gone claims. b.others q (omega (arith, gone, claims, a.pages q, sum q)) (omega (arith, claims, sum q)) ∙ a.others q gone (omega (arith, claims, sum q));
      }

  pub many_cut : (ks : List Key) (root : PageId) (r : ℕ) (s : Stand) (m : Map) (t : IsGrove root r s m) → CutPaths cols R root ks s → IsGrownFrom root r s t.level (cut_keys cols root ks s) (cut_all ks m)
  many_cut [] root r s m t paths = nothing root r s m t
  many_cut (k ∷ ks) root r s m t paths =
      let a : IsGrownFrom root r s t.level (cut cols root k s) (cut_all (k ∷ []) m) = one_cut root r s m k t paths.0 in
      joins root r s t.level (cut cols root k s) (cut_all (k ∷ []) m) a (cut_keys cols root ks (cut cols root k s)) (cut_all (k ∷ ks) m) (many_cut ks root a.left (cut cols root k s) (cut_all (k ∷ []) m) a.tree paths.1)

  pub many_put : (rs : Rs) (root : PageId) (r : ℕ) (s : Stand) (m : Map) (t : IsGrove root r s m) → Each P rs → PutPaths cols R claimed root rs s → (put_rows cols claimed root rs s).claims ≤ s.claims + r
      → IsGrownFrom root r s t.level (put_rows cols claimed root rs s) (put_all cols rs m)
  many_put [] root r s m t good paths budget = nothing root r s m t
  many_put (row ∷ rs) root r s m t good paths budget =
      let next : Stand = put cols claimed root row s in
      let a : IsGrownFrom root r s t.level (put cols claimed root row s) (put_all cols (row ∷ []) m) = one_put root r s m row t good.0 paths.0 (omega (arith, budget, put_rows_claims rs root (put cols claimed root row s))) in
      joins root r s t.level (put cols claimed root row s) (put_all cols (row ∷ []) m) a (put_rows cols claimed root rs (put cols claimed root row s)) (put_all cols (row ∷ rs) m)
      (many_put rs root a.left (put cols claimed root row s) (put_all cols (row ∷ []) m) a.tree good.1 paths.1 (omega (arith, budget, a.claims, a.sum)))

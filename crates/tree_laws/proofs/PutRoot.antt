-- A row is put into a tree: what is then inside its root is sound and in order, with the row and no other change.
use Rattle.std.proofs.Common.{Bool, ◌≡◌, ◌≢◌, ◌⊎◌, inl, inr, ◌≤◌, ◌+◌, ◌-◌, ℕ, suc, true, false, cond, List, [], ◌∷◌, ◌++◌, refl, ap, sym, ◌∙◌, subst, arith, append-nil}
use Rattle.std.specs.Prelude.{Option, None}
use Rattle.std.specs.List.{flat_map}
use Rattle.std.specs.FinMap as finite
use Rattle.page_base.specs.declared.column.Column.{Column}
use Rattle.page_base.specs.declared.numbers.PageId.{PageId}
use Rattle.page_base.specs.declared.value.Value.{Value}
use Rattle.plain_model.specs.Tables.{Rows as Map, key_of}
use Rattle.table_walk.specs.Leaves.{ByKeys}
use Rattle.tree_laws.specs.Keys.{Key}
use Rattle.tree_laws.specs.Parts.{fill}
use Rattle.tree_laws.specs.Puts.{entry_size, in_key_order, put_entries, inner_of, first_least, with_sheet, root_parts, to_root, rise_to_root, put_under, put}
use Rattle.tree_laws.specs.Sheets.{Entry, Sheet, Stand, Grown, fits, entries_in}
use Rattle.tree_laws.specs.Sheets.Sheet.{Inner}
use Rattle.tree_laws.specs.Trees.{headless, marks_of, inside, rows_of, pages_of}
use Rattle.tree_laws.proofs.HandOut.{claimed_from, times_claimed, hand_claims}
use Rattle.tree_laws.proofs.InnerLay.{AreEntries, IsLaid, stays, laid, first_or_none, wider, size_of}
use Rattle.tree_laws.proofs.Lists.{Each, Ascend, each-map}
use Rattle.tree_laws.proofs.PartsFull.{some_part}
use Rattle.tree_laws.proofs.PutBelow.{IsMid, IsRisen, Throughed, risen, grows, stays_as_it_was, entries_to_lay, grown_of}
use Rattle.tree_laws.proofs.Sound.{AreRules, IsEntry, IsSound, OnPath, IsFree, IsGrown}
use Rattle.tree_laws.proofs.Taller.{IsTall, tall}
use Rattle.tree_laws.proofs.Times.{times}

abbrev Es : Type 0
Es = List Entry

-- a root gives no claimed page back
parts_claims : (claimed : ℕ → PageId) (root : PageId) (level : ℕ) (ps : List Es) (s : Stand) → s.claims ≤ (root_parts claimed root level ps s).claims
parts_claims claimed root level [] s = omega arith
parts_claims claimed root level (part ∷ []) s = omega arith
parts_claims claimed root level (part ∷ more ∷ ps) s = omega (arith, hand_claims (inner_of level) first_least claimed (part ∷ more ∷ ps) s)

to_root_claims : (claimed : ℕ → PageId) (root : PageId) (level : ℕ) (es : List (Option Entry)) (s : Stand) → s.claims ≤ (to_root claimed root level es s).claims
to_root_claims claimed root level es s = by (fits (Inner level es))
  where
    by : (b : Bool) → s.claims ≤ (cond b (with_sheet root (Inner level es) s) (root_parts claimed root level (fill entry_size 8090 8090 (in_key_order es)) s)).claims
    by true = omega arith
    by false = parts_claims claimed root level (fill entry_size 8090 8090 (in_key_order es)) s

pub rise_root_claims : (claimed : ℕ → PageId) (root : PageId) (level : ℕ) (es : List (Option Entry)) (more : Es) (s : Stand) → s.claims ≤ (rise_to_root claimed root level es more s).claims
rise_root_claims claimed root level es [] s = omega arith
rise_root_claims claimed root level es (e ∷ more) s = to_root_claims claimed root level (put_entries (e ∷ more) es) s

module _ (cols : List Column) (P : List Value → Type 0) (K : Key → Type 0) (R : PageId → Bool) (rules : AreRules cols P K) (claimed : ℕ → PageId) (row : List Value) (good : P row) where
  -- the tree once a row was put, which may be a level higher
  pub record IsPut (n : ℕ) (root : PageId) (s t : Stand) : Type 0 where
    pub level : ℕ
    pub used : ℕ
    pub claims : t.claims ≡ s.claims + used
    pub sound : IsSound P K R t.sheets (suc level) None root
    pub order : Ascend (inside cols t.sheets (suc level) root)
    pub rows : (m : Map) → ByKeys cols (rows_of cols s.sheets (suc n) root) m → ByKeys cols (rows_of cols t.sheets (suc level) root) (finite.insert m (key_of cols row) row)
    pub pages : (q : PageId) → times q (pages_of t.sheets (suc level) root) ≡ times q (pages_of s.sheets (suc n) root) + times q (claimed_from claimed s.claims used)
    pub others : (q : PageId) → times q (pages_of s.sheets (suc n) root) ≡ 0 → times q (claimed_from claimed s.claims used) ≡ 0 → t.sheets q ≡ s.sheets q

  module _ (n : ℕ) (root : PageId) (s : Stand) (r : ℕ) (sound : IsSound P K R s.sheets (suc n) None root) (asc : Ascend (inside cols s.sheets (suc n) root)) (free : IsFree P K R claimed s.claims r (pages_of s.sheets (suc n) root))
      (path : OnPath R s.sheets (key_of cols row) (suc n) root) where
    -- a root that stays of its level
    same_level : (t : Stand) → IsGrown P K R cols claimed row (suc n) s None root (record { stand = t; more = [] }) → IsPut n root s t
    same_level t G = record {
      level = n;
      used = G.used;
      claims = G.claims;
      sound = G.sound;
      order =
          let old : Ascend (inside cols s.sheets (suc n) root ++ []) = subst Ascend (sym (append-nil (inside cols s.sheets (suc n) root))) asc in
          subst Ascend (append-nil (inside cols t.sheets (suc n) root ++ []) ∙ append-nil (inside cols t.sheets (suc n) root)) (G.order [] [] old tt tt);
      rows = λ m a.
          let old : ByKeys cols (rows_of cols s.sheets (suc n) root ++ []) m = subst (λ (l : List (List Value)). ByKeys cols l m) (sym (append-nil (rows_of cols s.sheets (suc n) root))) a in
          subst (λ (l : List (List Value)). ByKeys cols l (finite.insert m (key_of cols row) row)) (append-nil (rows_of cols t.sheets (suc n) root ++ []) ∙ append-nil (rows_of cols t.sheets (suc n) root)) (G.rows [] [] m old refl refl);
      pages = λ q. omega (arith, G.pages q);
      others = G.others;
    }

    abbrev g : Grown
    g = Throughed cols P K R rules claimed row good n s root (in_key_order (entries_in (s.sheets root)))

    module _ (x : IsRisen cols P K R rules claimed row good n s None root g) (room : g.stand.claims ≤ s.claims + r) where
      abbrev m : IsMid cols P K R rules claimed row good n s None root g.stand x.all
      m = x.mid

      abbrev es : List (Option Entry)
      es = put_entries g.more (entries_in (s.sheets root))

      entries : AreEntries cols P K R rules claimed n None root g.stand x.all (put_entries g.more (entries_in (s.sheets root))) (r - x.mid.used)
      entries = entries_to_lay cols P K R rules claimed row good n s None root r sound asc tt free path.0 g x room

      mid_order : Ascend (flat_map (marks_of (inside cols g.stand.sheets n)) (headless x.all))
      mid_order = subst Ascend (append-nil (flat_map (marks_of (inside cols g.stand.sheets n)) (headless x.all))) (m.order [] [] (subst Ascend (sym (append-nil (inside cols s.sheets (suc n) root))) asc) tt tt)

      of_laid : (h : Grown) → h.more ≡ [] → IsLaid cols P K R rules claimed n None root g.stand x.all (put_entries g.more (entries_in (s.sheets root))) h → IsPut n root s h.stand
      of_laid h none d =
          same_level h.stand (subst (λ (l : Es). IsGrown P K R cols claimed row (suc n) s None root (record { stand = h.stand; more = l })) none
          (grown_of cols P K R rules claimed row good n s None root r sound asc tt free path.0 g x h d))

      of_tall : (t : Stand) → IsTall cols P K R rules claimed n root g.stand x.all (put_entries g.more (entries_in (s.sheets root))) t → IsPut n root s t
      of_tall t d =
          let sum : (q : PageId) → times q (claimed_from claimed s.claims (x.mid.used + d.used)) ≡ times q (claimed_from claimed s.claims x.mid.used) + times q (claimed_from claimed g.stand.claims d.used) =
          λ q. times_claimed claimed s.claims x.mid.used d.used q ∙ ap (λ (c : ℕ). times q (claimed_from claimed s.claims x.mid.used) + times q (claimed_from claimed c d.used)) (sym x.mid.claims) in
          record {
            level = suc n;
            used = x.mid.used + d.used;
            claims = omega (arith, d.claims, x.mid.claims);
            sound = d.sound;
            order = subst Ascend (sym d.marks) mid_order;
            rows = λ map a.
                let old : ByKeys cols (rows_of cols s.sheets (suc n) root ++ []) map = subst (λ (l : List (List Value)). ByKeys cols l map) (sym (append-nil (rows_of cols s.sheets (suc n) root))) a in
                subst (λ (l : List (List Value)). ByKeys cols l (finite.insert map (key_of cols row) row)) (append-nil (flat_map (λ e. rows_of cols g.stand.sheets n e.page) x.all) ∙ sym d.rows) (x.mid.rows [] [] map old refl refl);
            pages = λ q. omega (arith, d.pages q, x.mid.pages q, sum q);
            others = λ q none claims. d.others q (omega (arith, none)) (omega (arith, claims, sum q)) ∙ x.mid.others q (omega (arith, none)) (omega (arith, claims, sum q));
          }

      parts : (ps : List Es) → fill entry_size 8090 8090 (in_key_order (put_entries g.more (entries_in (s.sheets root)))) ≡ ps → (root_parts claimed root (suc n) ps g.stand).claims ≤ s.claims + r → IsPut n root s (root_parts claimed root (suc n) ps g.stand)
      parts [] is b = absurd (some_part entry_size 8090 8090 (in_key_order (put_entries g.more (entries_in (s.sheets root)))) is)
      parts (p0 ∷ []) is b =
          of_laid (record { stand = with_sheet root (inner_of (suc n) p0) g.stand; more = [] }) refl
          (laid cols P K R rules claimed n None root g.stand x.all (put_entries g.more (entries_in (s.sheets root))) (r - x.mid.used) entries p0 [] is (omega arith))
      parts ([] ∷ p1 ∷ ps) is b =
          let sizes : Each (λ e. entry_size e ≤ 8090) x.all = wider x.all (each-map (IsEntry K) (λ e. entry_size e ≤ 907) x.all (size_of cols P K rules) x.mid.each) in
          let whole : fill entry_size 8090 8090 x.all ≡ [] ∷ p1 ∷ ps = ap (fill entry_size 8090 8090) (sym x.are) ∙ is in
          absurd (never (first_or_none x.all [] (p1 ∷ ps) sizes whole).0)
        where
          never : (◌≢◌ {A = Es} [] []) ⊎ (p1 ∷ ps ≡ []) → ⊥
          never (inl some) = some refl
          never (inr none) = cc
      parts ((y ∷ ys) ∷ p1 ∷ ps) is b =
          of_tall (root_parts claimed root (suc n) ((y ∷ ys) ∷ p1 ∷ ps) g.stand)
          (tall cols P K R rules claimed n root g.stand x.all (put_entries g.more (entries_in (s.sheets root))) (r - x.mid.used) entries mid_order y ys (p1 ∷ ps) is (omega (arith, b, x.mid.claims, room)))

      placed : (to_root claimed root (suc n) (put_entries g.more (entries_in (s.sheets root))) g.stand).claims ≤ s.claims + r → IsPut n root s (to_root claimed root (suc n) (put_entries g.more (entries_in (s.sheets root))) g.stand)
      placed b = by (fits (Inner (suc n) (put_entries g.more (entries_in (s.sheets root))))) refl b
        where
          by : (t : Bool) → fits (Inner (suc n) (put_entries g.more (entries_in (s.sheets root)))) ≡ t
              → (cond t (with_sheet root (Inner (suc n) (put_entries g.more (entries_in (s.sheets root)))) g.stand) (root_parts claimed root (suc n) (fill entry_size 8090 8090 (in_key_order (put_entries g.more (entries_in (s.sheets root))))) g.stand)).claims ≤ s.claims + r
              → IsPut n root s (cond t (with_sheet root (Inner (suc n) (put_entries g.more (entries_in (s.sheets root)))) g.stand) (root_parts claimed root (suc n) (fill entry_size 8090 8090 (in_key_order (put_entries g.more (entries_in (s.sheets root))))) g.stand))
          by true fit b =
              of_laid (record { stand = with_sheet root (Inner (suc n) (put_entries g.more (entries_in (s.sheets root)))) g.stand; more = [] }) refl
              (stays cols P K R rules claimed n None root g.stand x.all (put_entries g.more (entries_in (s.sheets root))) (r - x.mid.used) entries fit)
          by false fit b = parts (fill entry_size 8090 8090 (in_key_order (put_entries g.more (entries_in (s.sheets root))))) refl b

      rooted : (more : Es) → more ≡ g.more → (rise_to_root claimed root (suc n) (entries_in (s.sheets root)) more g.stand).claims ≤ s.claims + r → IsPut n root s (rise_to_root claimed root (suc n) (entries_in (s.sheets root)) more g.stand)
      rooted [] are b = same_level g.stand (stays_as_it_was cols P K R rules claimed row good n s None root r sound asc tt free path.0 g x (sym are) room)
      rooted (e ∷ more) are b =
          subst (λ (l : Es). (to_root claimed root (suc n) (put_entries l (entries_in (s.sheets root))) g.stand).claims ≤ s.claims + r → IsPut n root s (to_root claimed root (suc n) (put_entries l (entries_in (s.sheets root))) g.stand)) (sym are) placed b

    -- what putting is, where the root's entries are told
    put_is : put cols claimed root row s ≡ rise_to_root claimed root (suc n) (entries_in (s.sheets root)) g.more g.stand
    put_is = ap (λ (x : Sheet). put_under cols claimed root row x s) sound.0

    pub is_put : (put cols claimed root row s).claims ≤ s.claims + r → IsPut n root s (put cols claimed root row s)
    is_put budget =
        let b : (rise_to_root claimed root (suc n) (entries_in (s.sheets root)) g.more g.stand).claims ≤ s.claims + r = omega (arith, budget, ap (λ (t : Stand). t.claims) put_is) in
        let room : g.stand.claims ≤ s.claims + r = omega (arith, b, rise_root_claims claimed root (suc n) (entries_in (s.sheets root)) g.more g.stand) in
        let x : IsRisen cols P K R rules claimed row good n s None root g = risen cols P K R rules claimed row good n (grows cols P K R rules claimed row good n) s None root r sound asc tt free path room in
        subst (IsPut n root s) (sym put_is) (rooted x room g.more refl b)

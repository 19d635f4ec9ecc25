-- A root whose entries don't fit: they stand on new pages of its level, and it names those, one level higher.
use Rattle.std.proofs.Common.{Bool, ◌≡◌, ◌≢◌, ◌≤◌, ◌+◌, ℕ, suc, List, [], ◌∷◌, ◌++◌, length, map, refl, ap, sym, ◌∙◌, subst, arith, ◌⊎◌, inl, inr}
use Rattle.std.specs.Prelude.{Option, None, Some}
use Rattle.std.specs.List.{flat_map}
use Rattle.page_base.specs.declared.column.Column.{Column}
use Rattle.page_base.specs.declared.numbers.PageId.{PageId}
use Rattle.page_base.specs.declared.value.Value.{Value}
use Rattle.page_base.specs.Pages.{set_at}
use Rattle.table_walk.specs.Addresses.{IsTarget}
use Rattle.tree_laws.specs.Keys.{Key}
use Rattle.tree_laws.specs.Parts.{fill, joined, total, Fit}
use Rattle.tree_laws.specs.Puts.{entry_size, in_key_order, inner_of, first_least, claim, hand_out, taller}
use Rattle.tree_laws.specs.Sheets.{Entry, Sheet, Stand, Grown, entries_in}
use Rattle.tree_laws.specs.Trees.{entries_at, headless, marks_of, inside, rows_of, pages_of}
use Rattle.tree_laws.proofs.EntryOrder.{Rises, risen_is}
use Rattle.tree_laws.proofs.HandOut.{claimed_from, claimed_fewer, targets_of, length_claimed, hand_claims, AreMade, IsHanded, handed}
use Rattle.tree_laws.proofs.InnerLay.{AreEntries, size_of, small_entries, wider, first_or_none, parts_each, parts_rise, parts_fit, part_right, headless-append, fits_entries, has_some, same_marks, same_below, same_rows, apart, made_at, made_marks, made_rows, made_pages, made_new}
use Rattle.tree_laws.proofs.InnerStep.{rises_of}
use Rattle.tree_laws.proofs.Lists.{Each, Ascend, each-left, each-map}
use Rattle.tree_laws.proofs.PartLemmas.{joined-fill, fit-fill, fit-whole, fill-small}
use Rattle.tree_laws.proofs.Sound.{AreRules, HasLeast, ArePart, HasSome, IsEntry, IsNode, IsSound, sounds-same}
use Rattle.tree_laws.proofs.Times.{times, times_here, times_first, set_same, set_other, AgreeOn, Below}

abbrev Es : Type 0
Es = List Entry

-- pages that were made stay so where another one changes
made_set : (n : ℕ) (claimed : ℕ → PageId) (t : PageId → Sheet) (p : PageId) (x : Sheet) (es : Es) (ps : List Es) → times p (map (λ e. e.page) es) ≡ 0 → AreMade (inner_of n) first_least claimed t es ps → AreMade (inner_of n) first_least claimed (set_at t p x) es ps
made_set n claimed t p x [] [] none m = tt
made_set n claimed t p x [] (part ∷ ps) none m = absurd m
made_set n claimed t p x (e ∷ es) [] none m = absurd m
made_set n claimed t p x (e ∷ es) (part ∷ ps) none m =
    let ne : p ≢ e.page = λ same. let there : 1 ≤ times p (e.page ∷ map (λ e. e.page) es) = subst (λ (q : PageId). 1 ≤ times p (q ∷ map (λ e. e.page) es)) same (times_here p (map (λ e. e.page) es)) in absurd (omega (arith, there, none)) in
    (m.0, set_other t p e.page x ne ∙ m.1, made_set n claimed t p x es ps (omega (arith, none)) m.2)

few_fit : (es : Es) → length es ≤ 2 → Each (λ e. entry_size e ≤ 907) es → total entry_size es ≤ 8090
few_fit [] f h = omega arith
few_fit (a ∷ []) f h = omega (arith, h.0)
few_fit (a ∷ b ∷ []) f h = omega (arith, h.0, h.1.0)
few_fit (a ∷ b ∷ c ∷ es) f h = absurd (omega (arith, f))

module _ (cols : List Column) (P : List Value → Type 0) (K : Key → Type 0) (R : PageId → Bool) (rules : AreRules cols P K) (claimed : ℕ → PageId) (n : ℕ) (root : PageId) (t : Stand) (all : List Entry) (es : List (Option Entry)) where
  -- the root, once its level grew
  pub record IsTall (s : Stand) : Type 0 where
    pub used : ℕ
    pub claims : s.claims ≡ t.claims + used
    pub sound : IsSound P K R s.sheets (suc (suc n)) None root
    pub marks : inside cols s.sheets (suc (suc n)) root ≡ flat_map (marks_of (inside cols t.sheets n)) (headless all)
    pub rows : rows_of cols s.sheets (suc (suc n)) root ≡ flat_map (λ e. rows_of cols t.sheets n e.page) all
    pub pages : (q : PageId) → times q (pages_of s.sheets (suc (suc n)) root) ≡ times q (root ∷ []) + times q (Below t.sheets n all) + times q (claimed_from claimed t.claims used)
    pub others : (q : PageId) → times q (root ∷ []) ≡ 0 → times q (claimed_from claimed t.claims used) ≡ 0 → s.sheets q ≡ t.sheets q

  module _ (r : ℕ) (h : AreEntries cols P K R rules claimed n None root t all es r) (asc : Ascend (flat_map (marks_of (inside cols t.sheets n)) (headless all)))
      (x : Entry) (xs : Es) (ps : List Es) (is : fill entry_size 8090 8090 (in_key_order es) ≡ (x ∷ xs) ∷ ps)
      (budget : (hand_out (inner_of (suc n)) first_least claimed ((x ∷ xs) ∷ ps) t).stand.claims ≤ t.claims + r) where
    abbrev parts : List Es
    parts = (x ∷ xs) ∷ ps

    abbrev g : Grown
    g = hand_out (inner_of (suc n)) first_least claimed ((x ∷ xs) ∷ ps) t

    -- the entries of the pages behind the first new one
    abbrev behind : Es
    behind = (hand_out (inner_of (suc n)) first_least claimed ps (claim claimed (inner_of (suc n) (x ∷ xs)) t)).more

    abbrev u : PageId → Sheet
    u = set_at g.stand.sheets root (inner_of (suc n + 1) g.more)

    few : length parts ≤ r
    few = omega (arith, budget, hand_claims (inner_of (suc n)) first_least claimed parts t)

    d : IsHanded (inner_of (suc n)) first_least claimed parts t g
    d = handed (inner_of (suc n)) first_least claimed parts t (λ q. omega (arith, h.once q, claimed_fewer claimed t.claims (length parts) r q few))

    none_root : times root (claimed_from claimed t.claims (length parts)) ≡ 0
    none_root = omega (arith, h.once root, times_first root [], claimed_fewer claimed t.claims (length parts) r root few)

    not_root : (q : PageId) → times q (root ∷ []) ≡ 0 → root ≢ q
    not_root = apart cols P K R rules claimed n None root t all es

    agree : AgreeOn t.sheets u (Below t.sheets n all)
    agree q there =
        sym (set_other g.stand.sheets root q (inner_of (suc n + 1) g.more) (not_root q (omega (arith, h.once q, there))) ∙ d.others q (omega (arith, h.once q, there, claimed_fewer claimed t.claims (length parts) r q few)))

    made : AreMade (inner_of (suc n)) first_least claimed u g.more parts
    made = made_set (suc n) claimed g.stand.sheets root (inner_of (suc n + 1) g.more) g.more parts (ap (times root) d.pages ∙ none_root) d.made

    whole : fill entry_size 8090 8090 all ≡ parts
    whole = ap (fill entry_size 8090 8090) (sym h.are) ∙ is

    join : (x ∷ xs) ++ joined ps ≡ all
    join = ap joined (sym whole) ∙ joined-fill entry_size 8090 8090 all

    sizes7 : Each (λ e. entry_size e ≤ 907) all
    sizes7 = each-map (IsEntry K) (λ e. entry_size e ≤ 907) all (size_of cols P K rules) h.each

    sizes : Each (λ e. entry_size e ≤ 8090) all
    sizes = wider all sizes7

    two : length parts ≤ 2
    two = omega (arith, fill-small entry_size 8090 907 8090 all (omega arith) (small_entries 907 all sizes7) (omega (arith, h.total)), ap (λ (l : List Es). length l) whole)

    fits_all : Each (λ p. total entry_size p ≤ 8090) parts
    fits_all = parts_fit parts (subst (Fit entry_size 8090) whole (fit-whole entry_size 8090 (fill entry_size 8090 8090 all) (fit-fill entry_size 8090 8090 all (small_entries 8090 all sizes))))

    full : Each (λ p. p ≢ []) parts
    full = (some, (first_or_none all (x ∷ xs) ps sizes whole).1)
      where
        some : x ∷ xs ≢ []
        some e = cc

    later : (x ∷ xs ≢ []) ⊎ (joined ps ≡ [])
    later = inl full.0

    rise : Each Rises parts
    rise = parts_rise parts (subst Rises (sym join) h.rises)

    each : Each (Each (IsEntry K)) parts
    each = parts_each (IsEntry K) parts (subst (Each (IsEntry K)) (sym join) h.each)

    part : ArePart None ((x ∷ xs) ++ joined ps)
    part = subst (ArePart None) (sym join) h.part

    has : Each (Each HasLeast) ps
    has = parts_each HasLeast ps (part_right None (x ∷ xs) (joined ps) later part)

    sounds : Each (Each (λ e. IsSound P K R u n e.least e.page)) parts
    sounds = parts_each (λ e. IsSound P K R u n e.least e.page) parts (subst (Each (λ e. IsSound P K R u n e.least e.page)) (sym join) (sounds-same P K R t.sheets u n all agree h.sound))

    targets : Each (λ e. IsTarget e.page) g.more
    targets = targets_of claimed g.more t.claims (length parts) d.pages (λ i low high. h.targets i low (omega (arith, high, few)))

    -- THE NEW PAGES

    mine : entries_at u (claimed t.claims) ≡ x ∷ xs
    mine = made_at cols P K R rules claimed n None root t all es r h u agree (x ∷ xs) (claimed t.claims) made.1 rise.0

    first_sound : IsSound P K R u (suc n) x.least (claimed t.claims)
    first_sound =
        let are : in_key_order (map Some (x ∷ xs)) ≡ x ∷ xs = risen_is (x ∷ xs) rise.0 in
        let first_part : ArePart x.least (x ∷ xs) = (inr refl, each-left HasLeast xs (joined ps) part.1) in
        let node : IsNode K (R (claimed t.claims)) n x.least (inner_of (suc n) (x ∷ xs)) (λ e. IsSound P K R u n e.least e.page) = (
          refl,
          λ s. fits_entries (suc n) (x ∷ xs) fits_all.0,
          subst (HasSome n) (sym are) (has_some n (x ∷ xs) full.0),
          subst (ArePart x.least) (sym are) first_part,
          λ s. subst (Each (IsEntry K)) (sym are) each.0,
          subst (Each (λ e. IsSound P K R u n e.least e.page)) (sym are) sounds.0,
        ) in
        subst (λ (y : Sheet). IsNode K (R (claimed t.claims)) n x.least y (λ e. IsSound P K R u n e.least e.page)) (sym made.1) node

    others_new : Each (λ e. IsEntry K e × HasLeast e × IsSound P K R u (suc n) e.least e.page) behind
    others_new = made_new cols P K R rules claimed n None root t all es r h u agree behind ps made.2 targets.1 rise.1 full.1 fits_all.1 each.1 has sounds.1

    -- THE ROOT

    root_each : Each (IsEntry K) g.more
    root_each = (record { target = targets.0; least = each.0.0.least }, each-map (λ e. IsEntry K e × HasLeast e × IsSound P K R u (suc n) e.least e.page) (IsEntry K) behind (λ e h. h.0) others_new)

    root_part : ArePart None g.more
    root_part = (part.0, each-map (λ e. IsEntry K e × HasLeast e × IsSound P K R u (suc n) e.least e.page) HasLeast behind (λ e h. h.1) others_new)

    root_marks : flat_map (marks_of (inside cols u (suc n))) (headless g.more) ≡ flat_map (marks_of (inside cols t.sheets n)) (headless all)
    root_marks =
        (λ i. flat_map (marks_of (inside cols u n)) (headless (mine i)) ++ made_marks cols P K R rules claimed n None root t all es r h u agree behind ps made.2 rise.1 full.1 i)
        ∙ headless-append (inside cols u n) (x ∷ xs) (joined ps) later ∙ ap (λ (l : Es). flat_map (marks_of (inside cols u n)) (headless l)) join ∙ same_marks cols P K R rules claimed n None root t all es u agree

    root_rises : Rises g.more
    root_rises = rises_of (inside cols u (suc n)) None g.more root_part (subst Ascend (sym root_marks) asc)

    root_are : in_key_order (map Some g.more) ≡ g.more
    root_are = risen_is g.more root_rises

    root_fit : total entry_size g.more ≤ 8090
    root_fit = few_fit g.more (omega (arith, length_claimed claimed g.more t.claims (length parts) d.pages, two)) (each-map (IsEntry K) (λ e. entry_size e ≤ 907) g.more (size_of cols P K rules) root_each)

    at_root : u root ≡ inner_of (suc (suc n)) g.more
    at_root = let level : suc n + 1 ≡ suc (suc n) = omega arith in set_same g.stand.sheets root (inner_of (suc n + 1) g.more) ∙ ap (λ (l : ℕ). inner_of l g.more) level

    entries_root : entries_at u root ≡ g.more
    entries_root = ap (λ (y : Sheet). in_key_order (entries_in y)) at_root ∙ root_are

    root_sound : IsSound P K R u (suc (suc n)) None root
    root_sound =
        let below : Each (λ e. IsSound P K R u (suc n) e.least e.page) g.more =
        (first_sound, each-map (λ e. IsEntry K e × HasLeast e × IsSound P K R u (suc n) e.least e.page) (λ e. IsSound P K R u (suc n) e.least e.page) behind (λ e h. h.2) others_new) in
        let node : IsNode K (R root) (suc n) None (inner_of (suc (suc n)) g.more) (λ e. IsSound P K R u (suc n) e.least e.page) = (
          refl,
          λ s. fits_entries (suc (suc n)) g.more root_fit,
          subst (HasSome (suc n)) (sym root_are) tt,
          subst (ArePart None) (sym root_are) root_part,
          λ s. subst (Each (IsEntry K)) (sym root_are) root_each,
          subst (Each (λ e. IsSound P K R u (suc n) e.least e.page)) (sym root_are) below,
        ) in
        subst (λ (y : Sheet). IsNode K (R root) (suc n) None y (λ e. IsSound P K R u (suc n) e.least e.page)) (sym at_root) node

    pub tall : IsTall (taller root (suc n) g)
    tall = record {
      used = length parts;
      claims = d.claims;
      sound = root_sound;
      marks = ap (λ (l : Es). flat_map (marks_of (inside cols u (suc n))) (headless l)) entries_root ∙ root_marks;
      rows = ap (λ (l : Es). flat_map (λ e. rows_of cols u (suc n) e.page) l) entries_root ∙ made_rows cols P K R rules claimed n None root t all es r h u agree g.more parts made rise
          ∙ ap (λ (l : Es). flat_map (λ e. rows_of cols u n e.page) l) join ∙ same_rows cols P K R rules claimed n None root t all es u agree all agree;
      pages = λ q.
          let one = ap (λ (l : Es). times q (Below u (suc n) l)) entries_root in
          let more = made_pages cols P K R rules claimed n None root t all es r h u agree q g.more parts made rise in
          let same = ap (λ (l : Es). times q (Below u n l)) join in
          let old = ap (times q) (same_below cols P K R rules claimed n None root t all es u agree all agree) in
          let new = ap (times q) d.pages in
          omega (arith, one, more, same, old, new);
      others = λ q none claims. set_other g.stand.sheets root q (inner_of (suc n + 1) g.more) (not_root q none) ∙ d.others q claims;
    }

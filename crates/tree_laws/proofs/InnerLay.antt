-- Entries on a page that has room for them, or laid on it and on new pages: the same marks, rows and pages below.
use Rattle.std.proofs.Common.{◌≡◌, ◌≢◌, ◌≤◌, ◌<◌, ◌+◌, ◌*◌, ℕ, zero, suc, Bool, true, false, cond, List, [], ◌∷◌, ◌++◌, length, map, refl, ap, sym, ◌∙◌, subst, arith, append_assoc, append-nil, length-append, ◌⊎◌, inl, inr}
use Rattle.std.specs.Prelude.{Option, None, Some, is_some}
use Rattle.std.specs.List.{flat_map}
use Rattle.std.proofs.lemmas.Bool.{leb-true}
use Rattle.page_base.specs.declared.column.Column.{Column}
use Rattle.page_base.specs.declared.numbers.PageId.{PageId}
use Rattle.page_base.specs.declared.value.Value.{Value}
use Rattle.page_base.specs.Pages.{set_at}
use Rattle.page_fmt.specs.Spelling.{used, row_bytes as bytes_in, FitsPage, LastIsFull}
use Rattle.byte_fields.specs.Numbers.{number}
use Rattle.byte_fields.proofs.Numbers.{length-number}
use Rattle.table_walk.specs.Addresses.{address, IsTarget}
use Rattle.table_walk.proofs.AddressLemmas.{address_length}
use Rattle.tree_laws.specs.Keys.{Key}
use Rattle.tree_laws.specs.Order.{Mark, own}
use Rattle.tree_laws.specs.Parts.{fill, joined, total, AreSmall, Fit}
use Rattle.tree_laws.specs.Puts.{entry_size, inner_of, first_least, in_key_order, put_entry, put_entries, with_sheet, hand_out, lay, to_inner}
use Rattle.tree_laws.specs.Sheets.{Entry, Sheet, Stand, Grown, slots_in, fits, spelled_key, entry_bytes, entries_in}
use Rattle.tree_laws.specs.Sheets.Sheet.{Inner}
use Rattle.tree_laws.specs.Trees.{entries_at, headless, marks_of, inside, rows_of, pages_of}
use Rattle.tree_laws.proofs.EntryOrder.{Rises, rises-left, rises-right, risen_is}
use Rattle.tree_laws.proofs.HandOut.{claimed_from, claimed_fewer, targets_of, length_claimed, hand_claims, AreMade, IsHanded, handed}
use Rattle.tree_laws.proofs.Lists.{Each, each-left, each-right, each-map, flat-append}
use Rattle.tree_laws.proofs.PartLemmas.{joined-fill, fit-fill, fit-whole, fill-small}
use Rattle.tree_laws.proofs.PartsFull.{all_full, some_part}
use Rattle.tree_laws.proofs.Sound.{AreRules, HasLeast, ArePart, HasSome, IsEntry, LeastIs, IsNode, IsSound, sounds-same}
use Rattle.tree_laws.proofs.Times.{times, times-append, times_here, times_first, set_same, set_other, AgreeOn, Below, marks-same, inside-same, headless-below, pages-same, rows-same}

-- SIZES AND LAST SLOTS

entry_some : (e : Entry) → entry_bytes (Some e) ≢ []
entry_some e none =
    let long : length (address e.page ++ spelled_key e.least) ≡ 0 = ap length none in
    absurd (omega (arith, long, length-append (address e.page) (spelled_key e.least), address_length e.page))

number_some : (n : ℕ) → number 4 n ≢ []
number_some n none = let long : length (number 4 n) ≡ 0 = ap length none in absurd (omega (arith, long, length-number 4 n))

full_cons : (x : List ℕ) (ys : List (List ℕ)) → x ≢ [] → LastIsFull ys → LastIsFull (x ∷ ys)
full_cons x [] h l = h
full_cons x (y ∷ ys) h l = l

pub last_tail : (x : List ℕ) (ys : List (List ℕ)) → LastIsFull (x ∷ ys) → LastIsFull ys
last_tail x [] l = tt
last_tail x (y ∷ ys) l = l

last_put : (e : Entry) (es : List (Option Entry)) → LastIsFull (map entry_bytes es) → LastIsFull (map entry_bytes (put_entry e es))
last_put e [] l = entry_some e
last_put e (None ∷ []) l = entry_some e
last_put e (None ∷ d ∷ ds) l = l
last_put e (Some d ∷ es) l = full_cons (entry_bytes (Some d)) (map entry_bytes (put_entry e es)) (entry_some d) (last_put e es (last_tail (entry_bytes (Some d)) (map entry_bytes es) l))

last_puts : (more : List Entry) (es : List (Option Entry)) → LastIsFull (map entry_bytes es) → LastIsFull (map entry_bytes (put_entries more es))
last_puts [] es l = l
last_puts (e ∷ more) es l = last_puts more (put_entry e es) (last_put e es l)

pub last_inner : (n : ℕ) (more : List Entry) (es : List (Option Entry)) → LastIsFull (slots_in (Inner n es)) → LastIsFull (slots_in (Inner n (put_entries more es)))
last_inner n more es l = full_cons (number 4 n) (map entry_bytes (put_entries more es)) (number_some n) (last_puts more es (last_tail (number 4 n) (map entry_bytes es) l))

last_entries : (es : List Entry) → LastIsFull (map entry_bytes (map Some es))
last_entries [] = tt
last_entries (e ∷ es) = full_cons (entry_bytes (Some e)) (map entry_bytes (map Some es)) (entry_some e) (last_entries es)

used_entries : (es : List Entry) → bytes_in (map entry_bytes (map Some es)) + 2 * length (map entry_bytes (map Some es)) ≡ total entry_size es
used_entries [] = omega arith
used_entries (e ∷ es) = omega (arith, used_entries es)

pub fits_entries : (n : ℕ) (es : List Entry) → total entry_size es ≤ 8090 → FitsPage (slots_in (inner_of n es))
fits_entries n es h = record { small = omega (arith, used_entries es, h, length-number 4 n); last = full_cons (number 4 n) (map entry_bytes (map Some es)) (number_some n) (last_entries es) }

pub size_of : (cols : List Column) (P : List Value → Type 0) (K : Key → Type 0) → AreRules cols P K → (e : Entry) → IsEntry K e → entry_size e ≤ 907
size_of cols P K rules e h = by e.least h.least
  where
    by : (o : Option Key) → LeastIs K o → length (address e.page ++ spelled_key o) + 2 ≤ 907
    by None l = omega (arith, length-append (address e.page) (spelled_key None), address_length e.page)
    by (Some k) l = omega (arith, length-append (address e.page) (spelled_key (Some k)), address_length e.page, rules.short k l)

-- PARTS

pub small_entries : (most : ℕ) (es : List Entry) → Each (λ e. entry_size e ≤ most) es → AreSmall entry_size most es
small_entries most [] h = tt
small_entries most (e ∷ es) h = (h.0, small_entries most es h.1)

pub wider : (es : List Entry) → Each (λ e. entry_size e ≤ 907) es → Each (λ e. entry_size e ≤ 8090) es
wider es h = each-map (λ e. entry_size e ≤ 907) (λ e. entry_size e ≤ 8090) es (λ e s. omega (arith, s)) h

abbrev Es : Type 0
Es = List Entry

pub first_or_none : (xs p : Es) (ps : List Es) → Each (λ e. entry_size e ≤ 8090) xs → fill entry_size 8090 8090 xs ≡ p ∷ ps → ((p ≢ []) ⊎ (ps ≡ [])) × Each (λ p. p ≢ []) ps
first_or_none [] p ps small e = let same : ps ≡ [] = sym (tail_is e) in (inr same, subst (Each (λ p. p ≢ [])) (sym same) tt)
  where
    tail_is : ◌≡◌ {A = List Es} ([] ∷ []) (p ∷ ps) → [] ≡ ps
    tail_is e = cc
first_or_none (x ∷ xs) p ps small e =
    let full : Each (λ p. p ≢ []) (p ∷ ps) = subst (Each (λ p. p ≢ [])) e (all_full entry_size 8090 8090 x xs small.0) in
    (inl full.0, full.1)

pub parts_each : (P : Entry → Type 0) (ps : List Es) → Each P (joined ps) → Each (Each P) ps
parts_each P [] h = tt
parts_each P (p ∷ ps) h = (each-left P p (joined ps) h, parts_each P ps (each-right P p (joined ps) h))

pub parts_rise : (ps : List Es) → Rises (joined ps) → Each Rises ps
parts_rise [] r = tt
parts_rise (p ∷ ps) r = (rises-left p (joined ps) r, parts_rise ps (rises-right p (joined ps) r))

pub parts_fit : (ps : List Es) → Fit entry_size 8090 ps → Each (λ p. total entry_size p ≤ 8090) ps
parts_fit [] f = tt
parts_fit (p ∷ ps) f = (f.0, parts_fit ps f.1)

-- the first part, and those behind it, of entries of which the first alone may lack a least key
pub part_left : (least : Option Key) (xs ys : Es) → ArePart least (xs ++ ys) → ArePart least xs
part_left least [] ys a = tt
part_left least (x ∷ xs) ys a = (a.0, each-left HasLeast xs ys a.1)

pub part_right : (least : Option Key) (xs ys : Es) → (xs ≢ []) ⊎ (ys ≡ []) → ArePart least (xs ++ ys) → Each HasLeast ys
part_right least [] ys (inl some) a = absurd (some refl)
part_right least [] [] (inr none) a = tt
part_right least [] (y ∷ ys) (inr none) a = absurd (cc)
part_right least (x ∷ xs) ys h a = each-right HasLeast xs ys a.1

pub has_some : (n : ℕ) (p : Es) → p ≢ [] → HasSome n p
has_some zero p h = tt
has_some (suc n) [] h = absurd (h refl)
has_some (suc n) (e ∷ es) h = tt

-- MARKS

headed : (w : PageId → List Mark) (x : Entry) (xs : Es) → own x.least ++ flat_map (marks_of w) (headless (x ∷ xs)) ≡ flat_map (marks_of w) (x ∷ xs)
headed w x xs = sym (append_assoc (own x.least) (w x.page) (flat_map (marks_of w) xs))

pub headless-append : (w : PageId → List Mark) (xs ys : Es) → (xs ≢ []) ⊎ (ys ≡ []) → flat_map (marks_of w) (headless xs) ++ flat_map (marks_of w) ys ≡ flat_map (marks_of w) (headless (xs ++ ys))
headless-append w [] ys (inl some) = absurd (some refl)
headless-append w [] [] (inr none) = refl
headless-append w [] (y ∷ ys) (inr none) = absurd (cc)
headless-append w (x ∷ xs) ys h = sym (flat-append (marks_of w) (record x { least = None } ∷ xs) ys)

module _ (cols : List Column) (P : List Value → Type 0) (K : Key → Type 0) (R : PageId → Bool) (rules : AreRules cols P K) (claimed : ℕ → PageId) (n : ℕ) (least : Option Key) (p : PageId) (t : Stand) (all : List Entry) (es : List (Option Entry)) where
  -- entries below which all is sound, to stand on a page and on new ones
  pub record AreEntries (r : ℕ) : Type 0 where
    pub are : in_key_order es ≡ all
    pub rises : Rises all
    pub each : Each (IsEntry K) all
    pub part : ArePart least all
    pub some : HasSome n all
    pub sound : Each (λ e. IsSound P K R t.sheets n e.least e.page) all
    pub last : LastIsFull (slots_in (Inner (suc n) es))
    pub total : total entry_size all ≤ 9904
    pub once : (q : PageId) → times q (p ∷ []) + times q (Below t.sheets n all) + times q (claimed_from claimed t.claims r) ≤ 1
    pub targets : (i : ℕ) → t.claims ≤ i → i < t.claims + r → IsTarget (claimed i)

  -- the page and those beside it
  pub record IsLaid (g : Grown) : Type 0 where
    pub used : ℕ
    pub claims : g.stand.claims ≡ t.claims + used
    pub few : length g.more ≤ 2
    pub sound : IsSound P K R g.stand.sheets (suc n) least p
    pub new : Each (λ e. IsEntry K e × HasLeast e × IsSound P K R g.stand.sheets (suc n) e.least e.page) g.more
    pub marks : inside cols g.stand.sheets (suc n) p ++ flat_map (marks_of (inside cols g.stand.sheets (suc n))) g.more ≡ flat_map (marks_of (inside cols t.sheets n)) (headless all)
    pub rows : rows_of cols g.stand.sheets (suc n) p ++ flat_map (λ e. rows_of cols g.stand.sheets (suc n) e.page) g.more ≡ flat_map (λ e. rows_of cols t.sheets n e.page) all
    pub pages : (q : PageId) → times q (pages_of g.stand.sheets (suc n) p) + times q (Below g.stand.sheets (suc n) g.more) ≡ times q (p ∷ []) + times q (Below t.sheets n all) + times q (claimed_from claimed t.claims used)
    pub others : (q : PageId) → times q (p ∷ []) ≡ 0 → times q (claimed_from claimed t.claims used) ≡ 0 → g.stand.sheets q ≡ t.sheets q

  pub apart : (q : PageId) → times q (p ∷ []) ≡ 0 → p ≢ q
  apart q none e = let there : 1 ≤ times q (p ∷ []) = subst (λ (x : PageId). 1 ≤ times q (x ∷ [])) (sym e) (times_here q []) in absurd (omega (arith, none, there))

  -- pages below the entries, of which none changes
  module _ (u : PageId → Sheet) (agree : AgreeOn t.sheets u (Below t.sheets n all)) where
    pub same_marks : flat_map (marks_of (inside cols u n)) (headless all) ≡ flat_map (marks_of (inside cols t.sheets n)) (headless all)
    same_marks = sym (marks-same cols t.sheets u n (headless all) (subst (AgreeOn t.sheets u) (sym (headless-below t.sheets n all)) agree) (inside-same cols t.sheets u n))

    pub same_below : (xs : List Entry) → AgreeOn t.sheets u (Below t.sheets n xs) → Below u n xs ≡ Below t.sheets n xs
    same_below [] a = refl
    same_below (x ∷ xs) a =
        let one : pages_of t.sheets n x.page ≡ pages_of u n x.page = pages-same t.sheets u n x.page (λ q h. a q (omega (arith, h, times-append q (pages_of t.sheets n x.page) (Below t.sheets n xs)))) in
        let rest = same_below xs (λ q h. a q (omega (arith, h, times-append q (pages_of t.sheets n x.page) (Below t.sheets n xs)))) in
        λ i. sym one i ++ rest i

    pub same_rows : (xs : List Entry) → AgreeOn t.sheets u (Below t.sheets n xs) → flat_map (λ e. rows_of cols u n e.page) xs ≡ flat_map (λ e. rows_of cols t.sheets n e.page) xs
    same_rows [] a = refl
    same_rows (x ∷ xs) a =
        let one : rows_of cols t.sheets n x.page ≡ rows_of cols u n x.page = rows-same cols t.sheets u n x.page (λ q h. a q (omega (arith, h, times-append q (pages_of t.sheets n x.page) (Below t.sheets n xs)))) in
        let rest = same_rows xs (λ q h. a q (omega (arith, h, times-append q (pages_of t.sheets n x.page) (Below t.sheets n xs)))) in
        λ i. sym one i ++ rest i

  module _ (r : ℕ) (h : AreEntries r) where
    pub stays : fits (Inner (suc n) es) ≡ true → IsLaid (record { stand = with_sheet p (Inner (suc n) es) t; more = [] })
    stays fit =
        let u : PageId → Sheet = set_at t.sheets p (Inner (suc n) es) in
        let at : set_at t.sheets p (Inner (suc n) es) p ≡ Inner (suc n) es = set_same t.sheets p (Inner (suc n) es) in
        let small : used (slots_in (Inner (suc n) es)) ≤ 8192 = leb-true (used (slots_in (Inner (suc n) es))) 8192 fit in
        let agree : AgreeOn t.sheets (set_at t.sheets p (Inner (suc n) es)) (Below t.sheets n all) = λ q there. sym (set_other t.sheets p q (Inner (suc n) es) (apart q (omega (arith, h.once q, there)))) in
        let sounds = sounds-same P K R t.sheets (set_at t.sheets p (Inner (suc n) es)) n all agree h.sound in
        let entries : entries_at (set_at t.sheets p (Inner (suc n) es)) p ≡ all = ap (λ (x : Sheet). in_key_order (entries_in x)) at ∙ h.are in
        let node : IsNode K (R p) n least (Inner (suc n) es) (λ e. IsSound P K R (set_at t.sheets p (Inner (suc n) es)) n e.least e.page) = (
          refl,
          λ s. record { small = small; last = h.last },
          subst (HasSome n) (sym h.are) h.some,
          subst (ArePart least) (sym h.are) h.part,
          λ s. subst (Each (IsEntry K)) (sym h.are) h.each,
          subst (Each (λ e. IsSound P K R (set_at t.sheets p (Inner (suc n) es)) n e.least e.page)) (sym h.are) sounds,
        ) in
        record {
          used = 0;
          claims = omega arith;
          few = omega arith;
          sound = subst (λ (x : Sheet). IsNode K (R p) n least x (λ e. IsSound P K R (set_at t.sheets p (Inner (suc n) es)) n e.least e.page)) (sym at) node;
          new = tt;
          marks = append-nil (inside cols (set_at t.sheets p (Inner (suc n) es)) (suc n) p) ∙ ap (λ (l : List Entry). flat_map (marks_of (inside cols (set_at t.sheets p (Inner (suc n) es)) n)) (headless l)) entries ∙ same_marks (set_at t.sheets p (Inner (suc n) es)) agree;
          rows = append-nil (rows_of cols (set_at t.sheets p (Inner (suc n) es)) (suc n) p) ∙ ap (λ (l : List Entry). flat_map (λ e. rows_of cols (set_at t.sheets p (Inner (suc n) es)) n e.page) l) entries ∙ same_rows (set_at t.sheets p (Inner (suc n) es)) agree all agree;
          pages = λ q. omega (arith, ap (λ (l : List Entry). times q (Below (set_at t.sheets p (Inner (suc n) es)) n l)) entries, ap (times q) (same_below (set_at t.sheets p (Inner (suc n) es)) agree all agree));
          others = λ q none claims. set_other t.sheets p q (Inner (suc n) es) (apart q none);
        }

    -- PAGES THAT WERE MADE

    module _ (u : PageId → Sheet) (agree : AgreeOn t.sheets u (Below t.sheets n all)) where
      pub made_at : (part : Es) (page : PageId) → u page ≡ inner_of (suc n) part → Rises part → entries_at u page ≡ part
      made_at part page at rise = ap (λ (x : Sheet). in_key_order (entries_in x)) at ∙ risen_is part rise

      pub made_marks : (es : Es) (ps : List Es) → AreMade (inner_of (suc n)) first_least claimed u es ps → Each Rises ps → Each (λ p. p ≢ []) ps → flat_map (marks_of (inside cols u (suc n))) es ≡ flat_map (marks_of (inside cols u n)) (joined ps)
      made_marks [] [] m r f = refl
      made_marks [] (part ∷ ps) m r f = absurd m
      made_marks (e ∷ es) [] m r f = absurd m
      made_marks (e ∷ es) ([] ∷ ps) m r f = absurd (f.0 refl)
      made_marks (e ∷ es) ((x ∷ xs) ∷ ps) m r f =
          let here : own e.least ++ inside cols u (suc n) e.page ≡ flat_map (marks_of (inside cols u n)) (x ∷ xs) =
          (λ i. own (m.0 i) ++ flat_map (marks_of (inside cols u n)) (headless (made_at (x ∷ xs) e.page m.1 r.0 i))) ∙ headed (inside cols u n) x xs in
          let rest = made_marks es ps m.2 r.1 f.1 in
          (λ i. here i ++ rest i) ∙ sym (flat-append (marks_of (inside cols u n)) (x ∷ xs) (joined ps))

      pub made_rows : (es : Es) (ps : List Es) → AreMade (inner_of (suc n)) first_least claimed u es ps → Each Rises ps → flat_map (λ e. rows_of cols u (suc n) e.page) es ≡ flat_map (λ e. rows_of cols u n e.page) (joined ps)
      made_rows [] [] m r = refl
      made_rows [] (part ∷ ps) m r = absurd m
      made_rows (e ∷ es) [] m r = absurd m
      made_rows (e ∷ es) (part ∷ ps) m r =
          let here : rows_of cols u (suc n) e.page ≡ flat_map (λ e. rows_of cols u n e.page) part = ap (λ (l : Es). flat_map (λ e. rows_of cols u n e.page) l) (made_at part e.page m.1 r.0) in
          let rest = made_rows es ps m.2 r.1 in
          (λ i. here i ++ rest i) ∙ sym (flat-append (λ e. rows_of cols u n e.page) part (joined ps))

      pub made_pages : (q : PageId) (es : Es) (ps : List Es) → AreMade (inner_of (suc n)) first_least claimed u es ps → Each Rises ps → times q (Below u (suc n) es) ≡ times q (map (λ e. e.page) es) + times q (Below u n (joined ps))
      made_pages q [] [] m r = omega arith
      made_pages q [] (part ∷ ps) m r = absurd m
      made_pages q (e ∷ es) [] m r = absurd m
      made_pages q (e ∷ es) (part ∷ ps) m r =
          let here : Below u n (entries_at u e.page) ≡ Below u n part = ap (Below u n) (made_at part e.page m.1 r.0) in
          let rest = made_pages q es ps m.2 r.1 in
          let one = times-append q (pages_of u (suc n) e.page) (Below u (suc n) es) in
          let two = ap (times q) (flat-append (λ e. pages_of u n e.page) part (joined ps)) ∙ times-append q (Below u n part) (Below u n (joined ps)) in
          omega (arith, ap (times q) here, rest, one, two)

      pub made_new : (es : Es) (ps : List Es) → AreMade (inner_of (suc n)) first_least claimed u es ps → Each (λ e. IsTarget e.page) es → Each Rises ps → Each (λ p. p ≢ []) ps → Each (λ p. total entry_size p ≤ 8090) ps → Each (Each (IsEntry K)) ps → Each (Each HasLeast) ps
          → Each (Each (λ e. IsSound P K R u n e.least e.page)) ps → Each (λ e. IsEntry K e × HasLeast e × IsSound P K R u (suc n) e.least e.page) es
      made_new [] [] m targets r f fit each has sound = tt
      made_new [] (part ∷ ps) m targets r f fit each has sound = absurd m
      made_new (e ∷ es) [] m targets r f fit each has sound = absurd m
      made_new (e ∷ es) ([] ∷ ps) m targets r f fit each has sound = absurd (f.0 refl)
      made_new (e ∷ es) ((x ∷ xs) ∷ ps) m targets r f fit each has sound =
          let are : in_key_order (map Some (x ∷ xs)) ≡ x ∷ xs = risen_is (x ∷ xs) r.0 in
          let part : ArePart e.least (x ∷ xs) = (inr (sym m.0), has.0.1) in
          let node : IsNode K (R e.page) n e.least (inner_of (suc n) (x ∷ xs)) (λ e. IsSound P K R u n e.least e.page) =
          (refl, λ s. fits_entries (suc n) (x ∷ xs) fit.0, subst (HasSome n) (sym are) (has_some n (x ∷ xs) f.0), subst (ArePart e.least) (sym are) part, λ s. subst (Each (IsEntry K)) (sym are) each.0, subst (Each (λ e. IsSound P K R u n e.least e.page)) (sym are) sound.0) in (
            (record { target = targets.0; least = subst (LeastIs K) (sym m.0) each.0.0.least }, subst (λ (o : Option Key). is_some o ≡ true) (sym m.0) has.0.0, subst (λ (y : Sheet). IsNode K (R e.page) n e.least y (λ e. IsSound P K R u n e.least e.page)) (sym m.1) node),
            made_new es ps m.2 targets.1 r.1 f.1 fit.1 each.1 has.1 sound.1,
          )

    pub laid : (p0 : Es) (ps : List Es) → fill entry_size 8090 8090 (in_key_order es) ≡ p0 ∷ ps → (hand_out (inner_of (suc n)) first_least claimed ps (with_sheet p (inner_of (suc n) p0) t)).stand.claims ≤ t.claims + r
        → IsLaid (hand_out (inner_of (suc n)) first_least claimed ps (with_sheet p (inner_of (suc n) p0) t))
    laid p0 ps is budget =
        let g : Grown = hand_out (inner_of (suc n)) first_least claimed ps (with_sheet p (inner_of (suc n) p0) t) in
        let few : length ps ≤ r = omega (arith, budget, hand_claims (inner_of (suc n)) first_least claimed ps (with_sheet p (inner_of (suc n) p0) t)) in
        let d : IsHanded (inner_of (suc n)) first_least claimed ps (with_sheet p (inner_of (suc n) p0) t) (hand_out (inner_of (suc n)) first_least claimed ps (with_sheet p (inner_of (suc n) p0) t)) =
        handed (inner_of (suc n)) first_least claimed ps (with_sheet p (inner_of (suc n) p0) t) (λ q. omega (arith, h.once q, claimed_fewer claimed t.claims (length ps) r q few)) in
        let whole : fill entry_size 8090 8090 all ≡ p0 ∷ ps = ap (fill entry_size 8090 8090) (sym h.are) ∙ is in
        let join : p0 ++ joined ps ≡ all = ap joined (sym whole) ∙ joined-fill entry_size 8090 8090 all in
        let sizes7 : Each (λ e. entry_size e ≤ 907) all = each-map (IsEntry K) (λ e. entry_size e ≤ 907) all (size_of cols P K rules) h.each in
        let sizes : Each (λ e. entry_size e ≤ 8090) all = wider all sizes7 in
        let two : length (fill entry_size 8090 8090 all) ≤ 2 = fill-small entry_size 8090 907 8090 all (omega arith) (small_entries 907 all sizes7) (omega (arith, h.total)) in
        let fit : Fit entry_size 8090 (p0 ∷ ps) = subst (Fit entry_size 8090) whole (fit-whole entry_size 8090 (fill entry_size 8090 8090 all) (fit-fill entry_size 8090 8090 all (small_entries 8090 all sizes))) in
        let full = first_or_none all p0 ps sizes whole in
        let rise : Each Rises (p0 ∷ ps) = parts_rise (p0 ∷ ps) (subst Rises (sym join) h.rises) in
        let each : Each (Each (IsEntry K)) (p0 ∷ ps) = parts_each (IsEntry K) (p0 ∷ ps) (subst (Each (IsEntry K)) (sym join) h.each) in
        let fits_all : Each (λ p. total entry_size p ≤ 8090) (p0 ∷ ps) = parts_fit (p0 ∷ ps) fit in
        let later : (p0 ≢ []) ⊎ (joined ps ≡ []) = late p0 ps full.0 in
        let part : ArePart least (p0 ++ joined ps) = subst (ArePart least) (sym join) h.part in
        let has : Each (Each HasLeast) ps = parts_each HasLeast ps (part_right least p0 (joined ps) later part) in
        let none_p : times p (claimed_from claimed t.claims (length ps)) ≡ 0 = omega (arith, h.once p, times_first p [], claimed_fewer claimed t.claims (length ps) r p few) in
        let at : g.stand.sheets p ≡ inner_of (suc n) p0 = d.others p none_p ∙ set_same t.sheets p (inner_of (suc n) p0) in
        let agree : AgreeOn t.sheets g.stand.sheets (Below t.sheets n all) =
        λ q there. sym (d.others q (omega (arith, h.once q, there, claimed_fewer claimed t.claims (length ps) r q few)) ∙ set_other t.sheets p q (inner_of (suc n) p0) (apart q (omega (arith, h.once q, there)))) in
        let sounds : Each (Each (λ e. IsSound P K R g.stand.sheets n e.least e.page)) (p0 ∷ ps) =
        parts_each (λ e. IsSound P K R g.stand.sheets n e.least e.page) (p0 ∷ ps) (subst (Each (λ e. IsSound P K R g.stand.sheets n e.least e.page)) (sym join) (sounds-same P K R t.sheets g.stand.sheets n all agree h.sound)) in
        let mine : entries_at g.stand.sheets p ≡ p0 = made_at g.stand.sheets agree p0 p at rise.0 in
        let are : in_key_order (map Some p0) ≡ p0 = risen_is p0 rise.0 in
        let some0 : HasSome n p0 = first_some p0 ps full.0 (subst (HasSome n) (sym join) h.some) in
        let node : IsNode K (R p) n least (inner_of (suc n) p0) (λ e. IsSound P K R g.stand.sheets n e.least e.page) =
        (refl, λ s. fits_entries (suc n) p0 fits_all.0, subst (HasSome n) (sym are) some0, subst (ArePart least) (sym are) (part_left least p0 (joined ps) part), λ s. subst (Each (IsEntry K)) (sym are) each.0, subst (Each (λ e. IsSound P K R g.stand.sheets n e.least e.page)) (sym are) sounds.0) in
        record {
          used = length ps;
          claims = d.claims;
          few = omega (arith, length_claimed claimed g.more t.claims (length ps) d.pages, two, ap (λ (l : List Es). length l) whole);
          sound = subst (λ (y : Sheet). IsNode K (R p) n least y (λ e. IsSound P K R g.stand.sheets n e.least e.page)) (sym at) node;
          new = made_new g.stand.sheets agree g.more ps d.made (targets_of claimed g.more t.claims (length ps) d.pages (λ i low high. h.targets i low (omega (arith, high, few)))) rise.1 full.1 fits_all.1 each.1 has sounds.1;
          marks = (λ i. flat_map (marks_of (inside cols g.stand.sheets n)) (headless (mine i)) ++ made_marks g.stand.sheets agree g.more ps d.made rise.1 full.1 i)
              ∙ headless-append (inside cols g.stand.sheets n) p0 (joined ps) later ∙ ap (λ (l : Es). flat_map (marks_of (inside cols g.stand.sheets n)) (headless l)) join ∙ same_marks g.stand.sheets agree;
          rows = (λ i. flat_map (λ e. rows_of cols g.stand.sheets n e.page) (mine i) ++ made_rows g.stand.sheets agree g.more ps d.made rise.1 i)
              ∙ sym (flat-append (λ e. rows_of cols g.stand.sheets n e.page) p0 (joined ps)) ∙ ap (λ (l : Es). flat_map (λ e. rows_of cols g.stand.sheets n e.page) l) join ∙ same_rows g.stand.sheets agree all agree;
          pages = λ q. count g q p0 ps join mine (made_pages g.stand.sheets agree q g.more ps d.made rise.1) (ap (times q) d.pages) (ap (times q) (same_below g.stand.sheets agree all agree));
          others = λ q none claims. d.others q claims ∙ set_other t.sheets p q (inner_of (suc n) p0) (apart q none);
        }
      where
        late : (p0 : Es) (ps : List Es) → (p0 ≢ []) ⊎ (ps ≡ []) → (p0 ≢ []) ⊎ (joined ps ≡ [])
        late p0 ps (inl some) = inl some
        late p0 ps (inr none) = inr (ap joined none)

        first_some : (p0 : Es) (ps : List Es) → (p0 ≢ []) ⊎ (ps ≡ []) → HasSome n (p0 ++ joined ps) → HasSome n p0
        first_some p0 ps (inl some) s = has_some n p0 some
        first_some p0 ps (inr none) s = subst (HasSome n) (ap (λ (l : List Es). p0 ++ joined l) none ∙ append-nil p0) s

        count : (g : Grown) (q : PageId) (p0 : Es) (ps : List Es) → p0 ++ joined ps ≡ all → entries_at g.stand.sheets p ≡ p0
            → times q (Below g.stand.sheets (suc n) g.more) ≡ times q (map (λ e. e.page) g.more) + times q (Below g.stand.sheets n (joined ps)) → times q (map (λ e. e.page) g.more) ≡ times q (claimed_from claimed t.claims (length ps))
            → times q (Below g.stand.sheets n all) ≡ times q (Below t.sheets n all)
            → times q (pages_of g.stand.sheets (suc n) p) + times q (Below g.stand.sheets (suc n) g.more) ≡ times q (p ∷ []) + times q (Below t.sheets n all) + times q (claimed_from claimed t.claims (length ps))
        count g q p0 ps join mine below pages same =
            let two = ap (times q) (flat-append (λ e. pages_of g.stand.sheets n e.page) p0 (joined ps)) ∙ times-append q (Below g.stand.sheets n p0) (Below g.stand.sheets n (joined ps)) in
            let three = ap (λ (l : Es). times q (Below g.stand.sheets n l)) join in
            let four = ap (λ (l : Es). times q (Below g.stand.sheets n l)) mine in
            omega (arith, two, three, four, below, pages, same)

    pub inner_laid : (to_inner claimed p (suc n) es t).stand.claims ≤ t.claims + r → IsLaid (to_inner claimed p (suc n) es t)
    inner_laid budget = by (fits (Inner (suc n) es)) refl budget
      where
        parts : (ps : List Es) → fill entry_size 8090 8090 (in_key_order es) ≡ ps → (lay (inner_of (suc n)) first_least claimed p ps t).stand.claims ≤ t.claims + r → IsLaid (lay (inner_of (suc n)) first_least claimed p ps t)
        parts [] is b = absurd (some_part entry_size 8090 8090 (in_key_order es) is)
        parts (p0 ∷ ps) is b = laid p0 ps is b

        by : (b : Bool) → fits (Inner (suc n) es) ≡ b
            → (cond b (record { stand = with_sheet p (Inner (suc n) es) t; more = [] }) (lay (inner_of (suc n)) first_least claimed p (fill entry_size 8090 8090 (in_key_order es)) t)).stand.claims ≤ t.claims + r
            → IsLaid (cond b (record { stand = with_sheet p (Inner (suc n) es) t; more = [] }) (lay (inner_of (suc n)) first_least claimed p (fill entry_size 8090 8090 (in_key_order es)) t))
        by true fit b = stays fit
        by false fit b = parts (fill entry_size 8090 8090 (in_key_order es)) refl b

  -- laying never gives claimed pages back
  pub inner_claims : t.claims ≤ (to_inner claimed p (suc n) es t).stand.claims
  inner_claims = by (fits (Inner (suc n) es))
    where
      parts : (ps : List Es) → t.claims ≤ (lay (inner_of (suc n)) first_least claimed p ps t).stand.claims
      parts [] = omega arith
      parts (p0 ∷ ps) = omega (arith, hand_claims (inner_of (suc n)) first_least claimed ps (with_sheet p (inner_of (suc n) p0) t))

      by : (b : Bool) → t.claims ≤ (cond b (record { stand = with_sheet p (Inner (suc n) es) t; more = [] }) (lay (inner_of (suc n)) first_least claimed p (fill entry_size 8090 8090 (in_key_order es)) t)).stand.claims
      by true = omega arith
      by false = parts (fill entry_size 8090 8090 (in_key_order es))

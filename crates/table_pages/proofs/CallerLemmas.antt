-- What callers know of the pages that they went over in search of a table, and of plans that are carried out edit by edit.
use Rattle.std.proofs.Common.{◌≡◌, ℕ, suc, ◌+◌, ◌-◌, ◌<◌, ◌≤◌, Bool, true, false, cond, inl, inr, List, [], ◌∷◌, All, refl, ap, sym, ◌∙◌, subst, arith}
use Rattle.std.specs.Prelude.{Some, None, slice_index}
use Rattle.std.specs.FinMap as finite
use Rattle.std.specs.Str.{bytes_eq}
use Rattle.std.specs.Cmp.Lexicographic.{nat_list_cmp_total}
use Rattle.std.proofs.lemmas.Bool.{cases_lt, cases_eq}
use Rattle.std.proofs.lemmas.Slice.Eq.{bytes_eq-Decides}
use Rattle.page_base.specs.declared.numbers.PageId.{PageId}
use Rattle.page_base.specs.Pages.{blank, is_page, set_at}
use Rattle.page_base.specs.Slots.{Slots, with_slot}
use Rattle.page_fmt.specs.Content.{content, IsPage}
use Rattle.page_fmt.specs.Edits.{edited, slot_at, LacksRoom}
use Rattle.page_fmt.proofs.CallerLemmas.{content-blank}
use Rattle.plain_model.specs.Tables.{Table, Tables}
use Rattle.plain_model.specs.Sound.{is_definition}
use Rattle.early_pages.specs.Shown.{Shown, img, counts}
use Rattle.early_pages.specs.Slots.{slots_of}
use Rattle.table_pages.specs.declared.edit.Edit.{Edit}
use Rattle.table_pages.specs.Gathered.{Item, Skip, Bad, Has}
use Rattle.table_pages.specs.Layout.{place, table_at, tables_of, IsBlankAt, IsPacked, IsOther, Passed}
use Rattle.table_pages.specs.Edits.{done, FitIn, Change}
use Rattle.table_pages.specs.Carried.{data_pages, decoded, Holds, Carries}
use Rattle.table_pages.proofs.CollectLemmas.{collect_at, collect_good, collect_lacks, collect_none}
use Rattle.table_pages.proofs.OrderLemmas.{names_exact}
use Rattle.table_pages.proofs.PageLemmas.{table_is, skip_is, bare_skips}
use Rattle.table_pages.proofs.HeaderLemmas.{header_is}

-- THE TABLE OF A NAME

-- a name is itself by the test
pub same_bytes : (name : List ℕ) → bytes_eq name name ≡ true
same_bytes name = (bytes_eq-Decides name name).1 refl

no_true : {P : Type 0} → true ≡ false → P
no_true e = absurd (let wrong : ⊥ = cc in wrong)

-- nothing is passed at first
pub passed_none : (slots : Slots) (name : List ℕ) → Passed slots 0 name
passed_none slots name = λ k lt. absurd (omega arith)

-- one page more is passed
pub passed_more : (slots : Slots) (i : ℕ) (name : List ℕ) → Passed slots i name → IsOther slots i name → Passed slots (i + 1) name
passed_more slots i name passed other = λ k lt. elim (cases_lt k i) [
  | inl low ↦ passed k low
  | inr high ↦ let at : k ≡ i = omega arith in subst (λ (n : ℕ). IsOther slots n name) (sym at) other
]

-- a blank page holds no table
pub blank_holds_none : (slots : Slots) (i : ℕ) (name : List ℕ) (t : Table) → IsBlankAt slots i → table_at slots i ≡ Has name t → ⊥
blank_holds_none slots i name t blank e = (table_is (slots (place i)) name t e).full blank

other_holds_none : (slots : Slots) (i : ℕ) (name : List ℕ) (t : Table) → IsOther slots i name → table_at slots i ≡ Has name t → ⊥
other_holds_none slots i name t other e = no_true (sym (same_bytes name) ∙ other.other name t e)

module _ (n : ℕ) (slots : Slots) (tables : Tables) (e : tables_of n slots ≡ Some tables) where
  -- all pages are passed
  pub passed_all : (i : ℕ) (name : List ℕ) → n ≤ i → Passed slots i name → finite.get tables name ≡ None
  unfolding tables_of
  passed_all i name le passed = collect_lacks nat_list_cmp_total names_exact (table_at slots) n tables name e (λ k t lt is. other_holds_none slots k name t (passed k (omega arith)) is)

  -- the pages up to a blank one are passed
  pub passed_to_blank : (i : ℕ) (name : List ℕ) → i < n → IsPacked n slots → IsBlankAt slots i → Passed slots i name → finite.get tables name ≡ None
  unfolding tables_of
  passed_to_blank i name lt packed blank passed = collect_lacks nat_list_cmp_total names_exact (table_at slots) n tables name e (λ k t low is. elim (cases_lt k i) [
    | inl before ↦ other_holds_none slots k name t (passed k before) is
    | inr from ↦ elim (cases_eq k i) [
      | inl here ↦ blank_holds_none slots k name t (subst (IsBlankAt slots) (sym here) blank) is
      | inr ne ↦ blank_holds_none slots k name t (packed.behind i k (omega arith) low blank) is
    ]
  ])

  -- the table of a page is the one of its name
  pub found_there : (i : ℕ) (name : List ℕ) (t : Table) → i < n → table_at slots i ≡ Has name t → finite.get tables name ≡ Some t
  unfolding tables_of
  found_there i name t lt is = collect_at nat_list_cmp_total names_exact (table_at slots) n i tables name t e lt is

  -- a page that isn't blank holds a table
  pub holds_some : (i : ℕ) → i < n → ¬ IsBlankAt slots i → (name : List ℕ) × (t : Table) × (table_at slots i ≡ Has name t)
  unfolding tables_of
  holds_some i lt full = by (table_at slots i) refl
    where
      by : (item : Item (List ℕ) Table) → table_at slots i ≡ item → (name : List ℕ) × (t : Table) × (table_at slots i ≡ Has name t)
      by Skip is = absurd (full (skip_is (slots (place i)) is).0)
      by Bad is = absurd (collect_good nat_list_cmp_total names_exact (table_at slots) n i tables e lt is)
      by (Has name t) is = (name, t, is)

  -- a page that isn't blank, and whose table has this name by the test
  pub found_named : (i : ℕ) (name : List ℕ) → i < n → ¬ IsBlankAt slots i → ((held : List ℕ) (t : Table) → table_at slots i ≡ Has held t → bytes_eq held name ≡ true) →
      (t : Table) × (table_at slots i ≡ Has name t) × (finite.get tables name ≡ Some t)
  found_named i name lt full named =
      let h = holds_some i lt full in
      let same : h.0 ≡ name = (bytes_eq-Decides h.0 name).0 (named h.0 h.1 h.2) in
      let is : table_at slots i ≡ Has name h.1 = h.2 ∙ ap (λ (held : List ℕ). Has held h.1) same in
      (h.1, is, found_there i name h.1 lt is)

-- PLANS

contents : Shown → PageId → List (List ℕ)
contents v p = content (img v p)

later_there : (counts : List ℕ) (e : Edit) (es : List Edit) → All (λ (e : Edit). e.page.page < slice_index counts e.page.file) (e ∷ es) → All (λ (e : Edit). e.page.page < slice_index counts e.page.file) es
later_there counts e es h = λ k d lt. h (suc k) d (omega arith)

-- the first edit of a plan is done
pub carries_on : (v new : Shown) (e : Edit) (es : List Edit) (tables : Tables) → Carries v (e ∷ es) tables
    → slots_of (img new) ≡ with_slot (slots_of (img v)) e.page e.slot e.bytes
    → content (img new e.page) ≡ edited (content (img v e.page)) e.slot e.bytes
    → img new ≡ set_at (img v) e.page (img new e.page)
    → counts new ≡ counts v → Carries new es tables
carries_on v new e es tables plan slots at images same = record {
  there = subst (λ (cs : List ℕ). All (λ (e : Edit). e.page.page < slice_index cs e.page.file) es) (sym same) (later_there (counts v) e es plan.there);
  fits = subst (λ (c : PageId → List (List ℕ)). FitIn c es) (sym contents_are) plan.fits.1;
  changes = subst (λ (s : Slots). Change s es) (sym slots) plan.changes.1;
  says = (λ t. tables_of (pages t) (done es (slots t))) ∙ plan.says;
  packed = subst (λ (n : ℕ). IsPacked n (done es (slots_of (img new)))) (sym pages) (subst (λ (s : Slots). IsPacked (data_pages v) (done es s)) (sym slots) plan.packed);
}
  where
    pages : data_pages new ≡ data_pages v
    pages = ap (λ (cs : List ℕ). slice_index cs 0 - 1) same

    one : (b : Bool) (image old : List ℕ) (slots : List (List ℕ)) → content image ≡ slots → content (cond b image old) ≡ cond b slots (content old)
    one true image old slots is = is
    one false image old slots is = refl

    contents_are : (λ (p : PageId). content (img new p)) ≡ set_at (λ p. content (img v p)) e.page (edited (content (img v e.page)) e.slot e.bytes)
    contents_are = (λ t p. content (images t p)) ∙ (λ t p. one (is_page e.page p) (img new e.page) (img v p) (edited (content (img v e.page)) e.slot e.bytes) at t)

-- a plan of which all edits are done
pub carries_end : (v : Shown) (tables : Tables) → Carries v [] tables → decoded v ≡ Some tables
carries_end v tables plan = plan.says

-- the first edit of a plan has room
pub carries_room : (v : Shown) (e : Edit) (es : List Edit) (tables : Tables) (need free : ℕ) → Carries v (e ∷ es) tables → LacksRoom (content (img v e.page)) (edited (content (img v e.page)) e.slot e.bytes) need free → ⊥
carries_room v e es tables need free plan lacks = let room = plan.fits.0.room in let more = lacks.grows in let left = lacks.left in let less = lacks.lacks in absurd (omega arith)

-- nothing but the snapshots changed
pub carries_same : (v new : Shown) (es : List Edit) (tables : Tables) → img new ≡ img v → counts new ≡ counts v → Carries v es tables → Carries new es tables
carries_same v new es tables images same plan = record {
  there = subst (λ (cs : List ℕ). All (λ (e : Edit). e.page.page < slice_index cs e.page.file) es) (sym same) plan.there;
  fits = subst (λ (im : PageId → List ℕ). FitIn (λ p. content (im p)) es) (sym images) plan.fits;
  changes = subst (λ (im : PageId → List ℕ). Change (slots_of im) es) (sym images) plan.changes;
  says = (λ t. tables_of (slice_index (same t) 0 - 1) (done es (slots_of (images t)))) ∙ plan.says;
  packed = subst (λ (cs : List ℕ). IsPacked (slice_index cs 0 - 1) (done es (slots_of (img new)))) (sym same) (subst (λ (im : PageId → List ℕ). IsPacked (data_pages v) (done es (slots_of im))) (sym images) plan.packed);
}

-- the pages stay pages where one of them changes to a page
pub pages_on : (v new : Shown) (p : PageId) → ((q : PageId) → IsPage (img v q)) → IsPage (img new p) → img new ≡ set_at (img v) p (img new p) → (q : PageId) → IsPage (img new q)
pages_on v new p pages page images q = subst (λ (im : PageId → List ℕ). IsPage (im q)) (sym images) (by (is_page p q))
  where
    by : (b : Bool) → IsPage (cond b (img new p) (img v q))
    by true = page
    by false = pages q

-- PAGES OF ZEROS

-- no slot of a blank page holds bytes
pub blank_slots : (images : PageId → List ℕ) → images ≡ (λ p. blank) → (p : PageId) (j : ℕ) → slots_of images p j ≡ []
blank_slots images e p j = (λ t. slot_at (content (e t p)) j) ∙ ap (λ (s : List (List ℕ)). slot_at s j) content-blank

-- they hold no tables, with no gap between them
pub blank_tables : (n : ℕ) (slots : Slots) → ((p : PageId) (j : ℕ) → slots p j ≡ []) → tables_of n slots ≡ Some finite.empty
unfolding tables_of
blank_tables n slots none = collect_none nat_list_cmp_total names_exact (table_at slots) n (λ i lt. bare_skips (slots (place i)) (none (place i)))

-- there is no gap between pages without tables
pub blank_packed : (n : ℕ) (slots : Slots) → ((p : PageId) (j : ℕ) → slots p j ≡ []) → IsPacked n slots
blank_packed n slots none = record { behind = λ i j lt high blank_at. none (place j) 0 }

-- WHAT A TABLE'S COLUMNS AND ROWS ARE

-- a table's columns are a good definition
pub held_definition : (image name : List ℕ) (t : Table) → Holds image name t → is_definition t.cols ≡ true
held_definition image name t holds = (header_is (slot_at (content image) 0) name t.cols (table_is (slot_at (content image)) name t holds).header).definition

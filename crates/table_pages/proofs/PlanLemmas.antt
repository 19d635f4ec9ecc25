-- What the edit of a new table carries the pages to.
use Rattle.std.proofs.Common.{◌≡◌, ◌≢◌, ℕ, zero, suc, ◌+◌, ◌-◌, ◌*◌, ◌<◌, ◌≤◌, max, true, false, inl, inr, List, [], ◌∷◌, ◌++◌, length, All, refl, ap, sym, ◌∙◌, subst, arith}
use Rattle.std.specs.Prelude.{Option, Some, None}
use Rattle.std.specs.Option.{is_some}
use Rattle.std.specs.FinMap as finite
use Rattle.std.specs.List.{list_all, flat_map}
use Rattle.std.specs.Cmp.Lexicographic.{nat_list_cmp_total}
use Rattle.std.proofs.lemmas.Bool.{cases_lt, cases_eq}
use Rattle.page_base.specs.declared.column.Column.{Column}
use Rattle.page_base.specs.declared.numbers.PageId.{PageId}
use Rattle.page_base.specs.declared.value.Value.{Value}
use Rattle.page_base.specs.Name.{IsLowName}
use Rattle.page_base.specs.Pages.{blank}
use Rattle.page_base.specs.Slots.{Slots, with_slot}
use Rattle.page_base.proofs.Ordered.{key_cmp_total}
use Rattle.page_base.proofs.SlotsLemmas.{with_slot-same, with_slot-slot, with_slot-page}
use Rattle.page_fmt.specs.Spelling as spelling
use Rattle.page_fmt.specs.Content.{content, IsPage}
use Rattle.page_fmt.specs.Edits.{edited, slot_at}
use Rattle.page_fmt.proofs.CallerLemmas.{IsPage-blank, content-blank, same_page}
use Rattle.plain_model.specs.Tables.{Table, Tables, Add, Put, changed, applied, with_row, key_of}
use Rattle.plain_model.specs.Sound.{is_definition}
use Rattle.early_pages.specs.Shown.{Shown, img, IsThere}
use Rattle.early_pages.specs.Slots.{slots_of}
use Rattle.table_pages.specs.declared.edit.Edit.{Edit}
use Rattle.table_pages.specs.Gathered.{Item, Skip, Bad, Has}
use Rattle.table_pages.specs.Headers.{column_bytes, header, header_of}
use Rattle.table_pages.specs.Names.{AreKept}
use Rattle.table_pages.specs.Layout.{row_item, row_at, rows_in, table_item, place, table_at, tables_of, IsPacked}
use Rattle.table_pages.specs.Edits.{HasRoom}
use Rattle.table_pages.specs.Carried.{data_pages, decoded, Carries, IsFirstBlank}
use Rattle.table_pages.proofs.CollectLemmas.{collect_new, collect_set, collect_good}
use Rattle.table_pages.proofs.OrderLemmas.{names_exact, keys_exact}
use Rattle.table_pages.proofs.HeaderLemmas.{header_again}
use Rattle.table_pages.proofs.PageLemmas.{table_is, table_of, skip_is, bare_slots, bare_rows, row_has, row_skip, few_slots, slot_past}
use Rattle.table_pages.proofs.RoomLemmas.{used-edited}
use Rattle.table_pages.proofs.CallerLemmas.{found_there, blank_holds_none}

-- different tables have different pages
pub places_apart : (q j : ℕ) → q ≢ j → place q ≢ place j
places_apart q j ne e = let pages : q + 1 ≡ j + 1 = ap (λ (p : PageId). p.page) e in ne (omega arith)

-- another page than the one that is edited
pub table_at-other : (slots : Slots) (j i : ℕ) (x : List ℕ) (q : ℕ) → q ≢ j → table_at (with_slot slots (place j) i x) q ≡ table_at slots q
table_at-other slots j i x q ne = ap table_item (with_slot-page slots (place j) (place q) i x (places_apart q j ne))

-- a plan of one edit
pub one_edit : (v : Shown) (e : Edit) (tables : Tables) → IsThere v e.page → HasRoom (content (img v e.page)) e → e.bytes ≢ slots_of (img v) e.page e.slot →
    tables_of (data_pages v) (with_slot (slots_of (img v)) e.page e.slot e.bytes) ≡ Some tables → IsPacked (data_pages v) (with_slot (slots_of (img v)) e.page e.slot e.bytes) → Carries v (e ∷ []) tables
one_edit v e tables there room change says packed = record {
  there = only;
  fits = (room, tt);
  changes = (change, tt);
  says = says;
  packed = packed;
}
  where
    only : All (λ (e : Edit). IsThere v e.page) (e ∷ [])
    only zero d lt = there
    only (suc k) d lt = absurd (omega arith)

page_there : (v : Shown) (i : ℕ) → i < data_pages v → IsThere v (place i)
page_there v i lt = omega arith

-- the first blank page gets a slot 0
pub front_packed : (v : Shown) (i : ℕ) (x : List ℕ) → IsPacked (data_pages v) (slots_of (img v)) → IsFirstBlank v i → x ≢ [] → IsPacked (data_pages v) (with_slot (slots_of (img v)) (place i) 0 x)
front_packed v i x packed blank_at full = record {
  behind = λ a b lt high at_a.
      let other : (q : ℕ) → q ≢ i → with_slot (slots_of (img v)) (place i) 0 x (place q) 0 ≡ slots_of (img v) (place q) 0 = λ q ne t. with_slot-page (slots_of (img v)) (place i) (place q) 0 x (places_apart q i ne) t 0 in
      elim (cases_lt i a) [
        | inl above ↦ other b (λ z. omega arith) ∙ packed.behind i b (omega arith) high blank_at.blank
        | inr le ↦ elim (cases_eq a i) [
          | inl here ↦ absurd (full (sym (with_slot-same (slots_of (img v)) (place i) 0 x) ∙ ap (λ (q : ℕ). with_slot (slots_of (img v)) (place i) 0 x (place q) 0) (sym here) ∙ at_a))
          | inr ne ↦ absurd (blank_at.first a (omega arith) (sym (other a ne) ∙ at_a))
        ]
      ];
}

-- another slot than slot 0 is edited
pub row_packed : (n : ℕ) (slots : Slots) (p : PageId) (slot : ℕ) (x : List ℕ) → 0 < slot → IsPacked n slots → IsPacked n (with_slot slots p slot x)
row_packed n slots p slot x low packed = record { behind = λ a b lt high at_a. same b ∙ packed.behind a b lt high (sym (same a) ∙ at_a) }
  where
    same : (q : ℕ) → with_slot slots p slot x (place q) 0 ≡ slots (place q) 0
    same q = with_slot-slot slots p (place q) slot 0 x (λ z. omega arith)

-- A NEW TABLE

-- a header has bytes
pub header_full : (name : List ℕ) (cols : List Column) → (b : ℕ) × (bs : List ℕ) × (header name cols ≡ b ∷ bs)
unfolding header
header_full name cols = (length name, name ++ length cols ∷ flat_map column_bytes cols, refl)

-- a list with an element
pub not_nil : (x : List ℕ) (b : ℕ) (bs : List ℕ) → x ≡ b ∷ bs → x ≢ []
not_nil x b bs e f = let wrong : b ∷ bs ≡ [] = sym e ∙ f in cc

-- a page of which all slots are empty
no_content : (image : List ℕ) → IsPage image → ((j : ℕ) → slot_at (content image) j ≡ []) → content image ≡ []
no_content image page none = ap content (same_page image blank page IsPage-blank (λ j. none j ∙ sym (ap (λ (s : List (List ℕ)). slot_at s j) content-blank))) ∙ content-blank

module _ (v : Shown) (name : List ℕ) (cols : List Column) (i : ℕ) (tables : Tables) (e : decoded v ≡ Some tables) (new : finite.get tables name ≡ None)
    (pages : (p : PageId) → IsPage (img v p)) (packed : IsPacked (data_pages v) (slots_of (img v))) (blank_at : IsFirstBlank v i)
    (low : IsLowName name) (kept : AreKept cols) (definition : is_definition cols ≡ true) (short : length (header name cols) ≤ 8094) where
  full : header name cols ≢ []
  full = let h = header_full name cols in not_nil (header name cols) h.0 h.1 h.2

  skips : table_at (slots_of (img v)) i ≡ Skip
  unfolding tables_of
  skips = by (table_at (slots_of (img v)) i) refl
    where
      by : (item : Item (List ℕ) Table) → table_at (slots_of (img v)) i ≡ item → table_at (slots_of (img v)) i ≡ Skip
      by Skip is = is
      by Bad is = absurd (collect_good nat_list_cmp_total names_exact (table_at (slots_of (img v))) (data_pages v) i tables e blank_at.within is)
      by (Has n t) is = absurd (blank_holds_none (slots_of (img v)) i n t blank_at.blank is)

  empty_slots : (j : ℕ) → slot_at (content (img v (place i))) j ≡ []
  empty_slots zero = blank_at.blank
  empty_slots (suc j) = elim (cases_lt (suc j) 4048) [
    | inl lt ↦ bare_slots (slots_of (img v) (place i)) (suc j) (skip_is (slots_of (img v) (place i)) skips).1 (omega arith) lt
    | inr past ↦ let few = few_slots (img v (place i)) (pages (place i)) in slot_past (img v (place i)) (suc j) (omega arith)
  ]

  room : spelling.used (edited (content (img v (place i))) 0 (header name cols)) ≤ 8192
  room =
      let nothing = no_content (img v (place i)) (pages (place i)) empty_slots in
      let h = header_full name cols in
      let some : 0 < length (header name cols) = let long = ap length h.2 in omega arith in
      let none : spelling.used (edited [] 0 (header name cols)) ≡ 96 + 0 + length (header name cols) + 2 * max 0 (0 + 1) = used-edited [] 0 (header name cols) refl some in
      subst (λ (s : List (List ℕ)). spelling.used (edited s 0 (header name cols)) ≤ 8192) (sym nothing) (omega arith)

  new_item : table_at (with_slot (slots_of (img v)) (place i) 0 (header name cols)) i ≡ Has name (record { cols = cols; rows = finite.empty })
  new_item =
      let page : ℕ → List ℕ = with_slot (slots_of (img v)) (place i) 0 (header name cols) (place i) in
      let front : page 0 ≡ header name cols = with_slot-same (slots_of (img v)) (place i) 0 (header name cols) in
      table_of page name cols finite.empty (λ f. full (sym front ∙ f)) (ap header_of front ∙ header_again name cols low kept definition)
      (bare_rows cols page (λ j pos lt. with_slot-slot (slots_of (img v)) (place i) (place i) 0 j (header name cols) (λ z. omega arith) ∙ empty_slots j))

  create_says : tables_of (data_pages v) (with_slot (slots_of (img v)) (place i) 0 (header name cols)) ≡ Some (applied (Add name cols) tables)
  unfolding tables_of
  create_says = collect_new nat_list_cmp_total names_exact (table_at (slots_of (img v))) (table_at (with_slot (slots_of (img v)) (place i) 0 (header name cols))) (data_pages v) i tables name (record { cols = cols; rows = finite.empty })
      e blank_at.within skips new new_item (λ q ne. table_at-other (slots_of (img v)) i 0 (header name cols) q ne)

  -- the edit of a new table carries the pages to the tables with it
  pub create_carries : Carries v (record { page = place i; slot = 0; bytes = header name cols } ∷ []) (applied (Add name cols) tables)
  create_carries = one_edit v (record { page = place i; slot = 0; bytes = header name cols }) (applied (Add name cols) tables) (page_there v i blank_at.within)
      (record { index = omega arith; short = short; room = room }) (λ same. full (same ∙ blank_at.blank)) create_says (front_packed v i (header name cols) packed blank_at full)

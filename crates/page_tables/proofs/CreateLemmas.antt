-- A page that is claimed for a new table, and gets a root's bytes: the tables that stand stay, and the new one is there.
use Rattle.std.proofs.Common.{refl, ◌≡◌, ◌≢◌, ℕ, ◌+◌, ◌%◌, ◌<◌, ◌≤◌, ◌==◌, ◌&&◌, List, [], ◌∷◌, get_or, ap, sym, ◌∙◌, subst, arith, true, false, cond, inl, inr, eq-eqb, eqb-true}
use Rattle.std.specs.Prelude.{Some}
use Rattle.std.specs.FinMap as finite
use Rattle.std.specs.FinMap.{get-insert}
use Rattle.std.specs.List.{All, Any}
use Rattle.std.specs.Cmp.Lexicographic.{nat_list_cmp_total}
use Rattle.std.specs.Str.{bytes_eq}
use Rattle.std.proofs.lemmas.Bool.{and_parts, ne_eqb, cases_Bool}
use Rattle.std.proofs.lemmas.Map.Text.{is_eq-slice_cmp}
use Rattle.std.proofs.lemmas.Slice.Eq.{bytes_eq-Decides}
use Rattle.page_base.specs.declared.numbers.PageId.{PageId}
use Rattle.page_base.specs.Pages.{is_page}
use Rattle.page_base.specs.Slots.{Slots}
use Rattle.page_base.proofs.PagesLemmas.{is_page-same}
use Rattle.page_fmt.specs.Edits.{edited, slot_at}
use Rattle.page_fmt.specs.Spelling.{used}
use Rattle.plain_model.specs.Tables.{Rows, Table, Tables}
use Rattle.alloc_pages.specs.Owners.{owner_bytes, page_owner}
use Rattle.alloc_pages.specs.Spots.{spot_of}
use Rattle.alloc_pages.proofs.OwnerLemmas.{page_owner-same, page_owner-other, page_owner-page}
use Rattle.sys_cat.specs.declared.desc.TableDesc.{TableDesc}
use Rattle.sys_cat.specs.Changing.{with_desc}
use Rattle.sys_cat.specs.Lists.{AreDescs, AreTables, has_number}
use Rattle.sys_cat.specs.Rows.{table_0, zero_root}
use Rattle.page_tables.specs.Bases.{AreRowsOf, HasTable, AreStanding, IsBase}
use Rattle.page_tables.specs.Creating.{IsNew, IsNewRoot}
use Rattle.page_tables.specs.Mine.{written, AreMine, Moves, is_of}
use Rattle.page_tables.specs.Owners.{is_there, owner, owns, IsOwner}
use Rattle.page_tables.specs.Owners.IsOwner.{Free, Allocation, OfZero, OfTable}
use Rattle.page_tables.specs.Sheets.{sheets}
use Rattle.page_tables.specs.Writes.{Write, claim}
use Rattle.page_tables.proofs.BaseLemmas.{rows_same_pages}
use Rattle.page_tables.proofs.CarriedLemmas.{each_desc}
use Rattle.page_tables.proofs.DescLemmas.{all_with, any_with, any_new, other_number, other_name}
use Rattle.page_tables.proofs.MineLemmas.{every_spot, off_alloc, all_move, same_pages, same_slots_on}
use Rattle.page_tables.proofs.OwnerLemmas.{page_cases}
use Rattle.page_tables.proofs.SheetLemmas.{slot_of_sheet, sheets_edited, sheet_same}
use Rattle.page_tables.proofs.WriteLemmas.{owner_in_sheets}

-- ---- one number as a writer's

pub not_none : (m : ℕ) → is_of m 0 ≡ false
not_none m = ne_eqb 0 (m + 1) (λ e. absurd (omega (arith, e)))

pub not_alloc_page : (m : ℕ) → m + 1 < 4294967295 → is_of m 4294967295 ≡ false
not_alloc_page m small = ne_eqb 4294967295 (m + 1) (λ e. absurd (omega (arith, e, small)))

pub its_own : (m : ℕ) → is_of m (m + 1) ≡ true
its_own m = eq-eqb (m + 1) (m + 1) refl

pub not_other : (m k : ℕ) → k ≢ m → is_of m (k + 1) ≡ false
not_other m k ne = ne_eqb (k + 1) (m + 1) (λ e. ne (omega (arith, e)))

-- no page has the owner of a table that is new
pub not_yet : (ds : List TableDesc) (n : ℕ) → has_number ds n ≡ false → 1 ≤ n → n + 1 < 4294967295 → (o : ℕ) → IsOwner ds o → o ≢ n + 1
not_yet ds n lacks_it some small o is = elim is as (λ (o : ℕ) _. o ≢ n + 1) [
  | Free ↦ λ e. absurd (omega (arith, e))
  | Allocation ↦ λ e. absurd (omega (arith, e, small))
  | OfZero ↦ λ e. absurd (omega (arith, e, some))
  | OfTable d any ↦ λ e. other_number ds n any.0 any.1 lacks_it any.2 (ap (λ (x : TableDesc). x.number.0) (any.3 ∙ any.4) ∙ (let same : d.number.0 ≡ n = omega (arith, e) in same))
]

pub owner_with : (ds : List TableDesc) (d : TableDesc) (o : ℕ) → IsOwner ds o → IsOwner (with_desc ds d) o
owner_with ds d o is = elim is as (λ (o : ℕ) _. IsOwner (with_desc ds d) o) [
  | Free ↦ Free
  | Allocation ↦ Allocation
  | OfZero ↦ OfZero
  | OfTable e any ↦ OfTable e (any_with (λ (f : TableDesc). f ≡ e) ds d any.0 any.1 any.2 any.3 any.4)
]

pub get_put : (tables : Tables) (name other : List ℕ) (t : Table) → finite.get (finite.insert tables name t) other ≡ cond (bytes_eq other name) (Some t) (finite.get tables other)
get_put tables name other t = get-insert nat_list_cmp_total tables name t other ∙ ap (λ b. cond b (Some t) (finite.get tables other)) (is_eq-slice_cmp other name)

-- ---- the two writes

module _ (counts : List ℕ) (x : Slots) (rows : Rows) (ds : List TableDesc) (tables : Tables) (stand : AreStanding counts (sheets x) rows ds tables) (d : TableDesc) (new : IsNew ds d) (root : PageId) (is : d.root ≡ root) (there : is_there counts root ≡ true) (free : page_owner x root ≡ 0) (bytes : List ℕ) (blank : IsNewRoot bytes) where
  number : ℕ
  number = d.number.0

  some : 1 ≤ d.number.0
  some = new.desc.head.some

  pub small : d.number.0 + 1 < 4294967295
  small = omega (arith, new.desc.head.number)

  abbrev c : Write
  c = claim d.number.0 root

  abbrev r : Write
  r = record { page = root; slot = 0; bytes = bytes }

  abbrev y : Slots
  y = written (claim d.number.0 root) x

  abbrev pub z : Slots
  z = written (record { page = root; slot = 0; bytes = bytes }) (written (claim d.number.0 root) x)

  now : page_owner y root ≡ d.number.0 + 1
  now = page_owner-same x root (d.number.0 + 1) (omega (arith, small))

  mine : AreMine counts (is_of d.number.0) x (claim d.number.0 root ∷ record { page = root; slot = 0; bytes = bytes } ∷ [])
  mine = (
    inr (record { page = root; number = d.number.0; is = refl; there = there; free = free; small = small; given = its_own d.number.0 }),
    (inl (there, ap (is_of d.number.0) now ∙ its_own d.number.0), tt),
  )

  moves : Moves counts (is_of d.number.0) x z
  moves = all_move counts (is_of d.number.0) (not_none d.number.0) (not_alloc_page d.number.0 small) x (claim d.number.0 root ∷ record { page = root; slot = 0; bytes = bytes } ∷ []) stand.spread mine

  off : root.page % 1280 ≢ 0
  off = off_alloc counts x root stand.spread there (λ e. absurd (omega (arith, e, free)))

  apart : (q : PageId) → (spot_of q).page ≢ root
  apart q e = off (ap (λ (p : PageId). p.page % 1280) (sym e) ∙ every_spot q)

  -- whose each page is then
  owner_root : page_owner z root ≡ d.number.0 + 1
  owner_root = page_owner-page y root root 0 bytes (apart root) ∙ now

  owner_rest : (q : PageId) → q ≢ root → page_owner z q ≡ page_owner x q
  owner_rest q ne = page_owner-page y root q 0 bytes (apart q) ∙ page_owner-other x root q (owner_bytes (d.number.0 + 1)) ne

  -- the new root was blank, and has these bytes
  blank_root : sheets y root ≡ []
  blank_root = sheet_same y x root (λ i j. cond (other i && (spot_of root).slot == j) (owner_bytes (d.number.0 + 1)) (x root j)) ∙ stand.blank root there (owner_in_sheets x root ∙ free)
    where
      other : is_page (spot_of root).page root ≡ false
      other = elim (page_cases (spot_of root).page root) [
        | inl e ↦ absurd (apart root e)
        | inr f ↦ f
      ]

  pub root_made : sheets z root ≡ bytes ∷ []
  root_made = (λ i. sheets_edited y root 0 bytes (omega arith) i root) ∙ ap (λ b. cond b (edited (sheets y root) 0 bytes) (sheets y root)) (is_page-same root) ∙ ap (λ s. edited s 0 bytes) blank_root ∙ alone bytes blank.some
    where
      alone : (xs : List ℕ) → xs ≢ [] → edited [] 0 xs ≡ xs ∷ []
      alone [] h = absurd (h refl)
      alone (b ∷ bs) h = refl

  pub root_was : y root 0 ≡ []
  root_was = sym (slot_of_sheet y root 0 (omega arith)) ∙ ap (λ s. slot_at s 0) blank_root

  pub root_room : used (sheets z root) ≤ 8192
  root_room = subst (λ s. used s ≤ 8192) (sym root_made) (omega (arith, blank.short))

  -- another table stays
  kept : (m : ℕ) → m ≢ d.number.0 → m + 1 < 4294967295 → (h : TableDesc) (rs : Rows) → AreRowsOf counts (sheets x) h.cols m h.root rs → AreRowsOf counts (sheets z) h.cols m h.root rs
  kept m ne few h rs t = rows_same_pages counts (sheets x) (sheets z) h.cols m h.root rs (same_pages counts (is_of d.number.0) x z moves m (not_other d.number.0 m ne) few) (same_slots_on counts (is_of d.number.0) x z moves m (not_other d.number.0 m ne) few) t

  -- the new one owns its root alone
  owned : (p : PageId) → (owns counts (sheets z) d.number.0 p ≡ true → p ≡ root) × (p ≡ root → owns counts (sheets z) d.number.0 p ≡ true)
  owned p = (
    λ own. elim (page_cases p root) [
      | inl e ↦ e
      | inr f ↦
          let parts = and_parts (is_there counts p) (owner (sheets z) p == d.number.0 + 1) own in
          let was : page_owner x p ≡ d.number.0 + 1 = sym (owner_rest p (λ e. let w : true ≡ false = sym (is_page-same root) ∙ ap (λ (q : PageId). is_page q root) (sym e) ∙ f in cc)) ∙ sym (owner_in_sheets z p) ∙ eqb-true (owner (sheets z) p) (d.number.0 + 1) parts.1 in
          absurd (not_yet ds d.number.0 new.number some small (owner (sheets x) p) (stand.owners p parts.0) (owner_in_sheets x p ∙ was))
    ],
    λ e. subst (λ (q : PageId). owns counts (sheets z) d.number.0 q ≡ true) (sym e) ((λ i. there i && (owner_in_sheets z root ∙ owner_root) i == d.number.0 + 1) ∙ its_own d.number.0),
  )

  abbrev made : Tables
  made = finite.insert tables d.name (record { cols = d.cols; rows = finite.empty })

  its : HasTable counts (sheets z) (finite.insert tables d.name (record { cols = d.cols; rows = finite.empty })) d
  its = record {
    rows = finite.empty;
    pages = subst (λ (p : PageId). AreRowsOf counts (sheets z) d.cols d.number.0 p finite.empty) (sym is) (blank.empty d.cols (sheets z) (owns counts (sheets z) d.number.0) root root_made owned);
    is = get_put tables d.name d.name (record { cols = d.cols; rows = finite.empty }) ∙ ap (λ b. cond b (Some (record { cols = d.cols; rows = finite.empty })) (finite.get tables d.name)) ((bytes_eq-Decides d.name d.name).1 refl);
  }

  pub base_with : AreTables (finite.values rows) (with_desc ds d) → AreDescs ds → IsBase counts (sheets z) (with_desc ds d) (finite.insert tables d.name (record { cols = d.cols; rows = finite.empty }))
  base_with told descs = record {
    spread = moves.spread;
    zero_rows = rows;
    zero_pages = rows_same_pages counts (sheets x) (sheets z) table_0 0 zero_root rows (same_pages counts (is_of d.number.0) x z moves 0 (not_other d.number.0 0 (λ e. absurd (omega (arith, e, some)))) (omega arith))
        (same_slots_on counts (is_of d.number.0) x z moves 0 (not_other d.number.0 0 (λ e. absurd (omega (arith, e, some)))) (omega arith)) stand.zero_pages;
    descs = told;
    each = all_with (HasTable counts (sheets z) (finite.insert tables d.name (record { cols = d.cols; rows = finite.empty }))) ds d others its;
    only = only;
    owners = λ p in_file. elim (page_cases p root) [
      | inl e ↦ subst (IsOwner (with_desc ds d)) (sym (ap (owner (sheets z)) e ∙ owner_in_sheets z root ∙ owner_root)) (OfTable d (any_new (λ (e : TableDesc). e ≡ d) ds d refl))
      | inr f ↦
          subst (IsOwner (with_desc ds d)) (owner_in_sheets x p ∙ sym (owner_rest p (not_root p f)) ∙ sym (owner_in_sheets z p)) (owner_with ds d (owner (sheets x) p) (stand.owners p in_file))
    ];
    blank = λ p in_file none. elim (page_cases p root) [
      | inl e ↦ absurd (let w : d.number.0 + 1 ≡ 0 = sym (ap (owner (sheets z)) e ∙ owner_in_sheets z root ∙ owner_root) ∙ none in omega (arith, w))
      | inr f ↦
          let was : page_owner z p ≡ 0 = sym (owner_in_sheets z p) ∙ none in
          sheet_same z x p (moves.slots p (ap (is_of d.number.0) was ∙ not_none d.number.0) (λ e. absurd (omega (arith, e, was)))) ∙ stand.blank p in_file (owner_in_sheets x p ∙ sym (owner_rest p (not_root p f)) ∙ was)
    ];
  }
    where
      not_root : (p : PageId) → is_page p root ≡ false → p ≢ root
      not_root p f e = let w : true ≡ false = sym (is_page-same root) ∙ ap (λ (q : PageId). is_page q root) (sym e) ∙ f in cc

      others : All (HasTable counts (sheets z) (finite.insert tables d.name (record { cols = d.cols; rows = finite.empty }))) ds
      others j e lt =
          let old : HasTable counts (sheets x) tables (get_or ds j e) = stand.each j e lt in
          let head = (each_desc ds descs.each j e lt).head in
          record {
            rows = old.rows;
            pages = kept (get_or ds j e).number.0 (other_number ds d.number.0 j e new.number lt) (omega (arith, head.number)) (get_or ds j e) old.rows old.pages;
            is = get_put tables d.name (get_or ds j e).name (record { cols = d.cols; rows = finite.empty }) ∙ ap (λ b. cond b (Some (record { cols = d.cols; rows = finite.empty })) (finite.get tables (get_or ds j e).name)) (other_name ds d.name j e new.name lt) ∙ old.is;
          }

      only : (name : List ℕ) (t : Table) → finite.get (finite.insert tables d.name (record { cols = d.cols; rows = finite.empty })) name ≡ Some t → Any (λ (e : TableDesc). e.name ≡ name) (with_desc ds d)
      only name t got = elim (cases_Bool (bytes_eq name d.name)) [
        | inl same ↦ any_new (λ (e : TableDesc). e.name ≡ name) ds d (sym ((bytes_eq-Decides name d.name).0 same))
        | inr other ↦
            let any = stand.only name t (sym (ap (λ b. cond b (Some (record { cols = d.cols; rows = finite.empty })) (finite.get tables name)) other) ∙ sym (get_put tables d.name name (record { cols = d.cols; rows = finite.empty })) ∙ got) in
            any_with (λ (e : TableDesc). e.name ≡ name) ds d any.0 any.1 any.2 any.3 any.4
      ]

-- Pages are one database, and a table depends on the pages that it owns.
use Rattle.std.proofs.Common.{Bool, arith, ◌≢◌, ◌+◌, ◌==◌, ◌&&◌, inl, inr, cond, refl, ◌≡◌, ℕ, List, ap, sym, ◌∙◌, subst, true, false}
use Rattle.std.specs.Prelude.{Option, None, Some}
use Rattle.std.specs.FinMap as finite
use Rattle.std.specs.FinMap.{same_map, nat_cmp-IsAntisymmetric, slice_cmp-IsAntisymmetric}
use Rattle.std.specs.Cmp.Lexicographic.{nat_list_cmp_total}
use Rattle.page_base.specs.declared.column.Column.{Column}
use Rattle.page_base.specs.declared.numbers.PageId.{PageId}
use Rattle.page_base.specs.Pages.{is_page, set_at}
use Rattle.page_fmt.specs.Seen.{SlotsAt}
use Rattle.plain_model.specs.Tables.{Rows, Table, Tables}
use Rattle.sys_cat.specs.declared.desc.TableDesc.{TableDesc}
use Rattle.sys_cat.specs.Rows.{zero_root, table_0}
use Rattle.sys_cat.proofs.ParseLemmas.{rows_determine}
use Rattle.table_walk.specs.Plans.{AreFree}
use Rattle.table_walk.specs.Tables.{HasRows}
use Rattle.table_walk.proofs.TableLemmas.{table_one, table_same}
use Rattle.page_tables.specs.Bases.{AreRowsOf, HasTable, IsBase}
use Rattle.page_tables.specs.Layout.{shape, first}
use Rattle.page_tables.specs.Owners.{is_there, owner, owns, IsAllocPage, IsSpread}
use Rattle.page_tables.specs.Writes.{AreClaimable}
use Rattle.page_tables.proofs.OwnerLemmas.{page_cases, not_alloc, owners_off}
use Rattle.std.proofs.lemmas.Bool.{and_parts, eqb-true, ne_eqb}

module _ (counts : List ℕ) (at : SlotsAt) where
  pub descs_one : (ds es : List TableDesc) (tables others : Tables) → IsBase counts at ds tables → IsBase counts at es others → ds ≡ es
  descs_one ds es tables others a b =
      let same : a.zero_rows ≡ b.zero_rows = table_one shape table_0 at (owns counts at 0) (owns counts at 0) (first zero_root) a.zero_rows b.zero_rows a.zero_pages b.zero_pages in
      rows_determine (finite.values b.zero_rows) ds es (sym (ap finite.values same) ∙ a.descs.spelled) b.descs.spelled

  -- of a name that is there the tables are one
  there_one : (ds : List TableDesc) (tables others : Tables) (name : List ℕ) (t : Table) → IsBase counts at ds tables → IsBase counts at ds others → finite.get tables name ≡ Some t → finite.get others name ≡ Some t
  there_one ds tables others name t a b is =
      let any = a.only name t is in
      let x : HasTable counts at tables any.1 = subst (HasTable counts at tables) any.3 (a.each any.0 any.1 any.2) in
      let y : HasTable counts at others any.1 = subst (HasTable counts at others) any.3 (b.each any.0 any.1 any.2) in
      let same : x.rows ≡ y.rows = table_one shape any.1.cols at (owns counts at any.1.number.0) (owns counts at any.1.number.0) (first any.1.root) x.rows y.rows x.pages y.pages in
      ap (finite.get others) (sym any.4) ∙ y.is ∙ ap (λ (rows : Rows). Some (record { cols = any.1.cols; rows = rows })) (sym same) ∙ sym x.is ∙ ap (finite.get tables) any.4 ∙ is

  pub tables_one : (ds es : List TableDesc) (tables others : Tables) → IsBase counts at ds tables → IsBase counts at es others → tables ≡ others
  tables_one ds es tables others a c =
      let b : IsBase counts at ds others = subst (λ xs. IsBase counts at xs others) (sym (descs_one ds es tables others a c)) c in
      same_map nat_list_cmp_total (slice_cmp-IsAntisymmetric nat_cmp-IsAntisymmetric) tables others (λ name. by name (finite.get tables name) (finite.get others name) refl refl b)
    where
      by : (name : List ℕ) (o p : Option Table) → finite.get tables name ≡ o → finite.get others name ≡ p → IsBase counts at ds others → finite.get tables name ≡ finite.get others name
      by name (Some t) p is _ b = is ∙ sym (there_one ds tables others name t a b is)
      by name None (Some t) is other b = there_one ds others tables name t b a other ∙ sym other
      by name None None is other b = is ∙ sym other

-- what a table is of pages of which it owns the same, with the same slots
pub rows_same_pages : (counts : List ℕ) (at other : SlotsAt) (cols : List Column) (number : ℕ) (root : PageId) (rows : Rows) → owns counts other number ≡ owns counts at number → ((p : PageId) → owns counts at number p ≡ true → at p ≡ other p)
    → AreRowsOf counts at cols number root rows → AreRowsOf counts other cols number root rows
rows_same_pages counts at other cols number root rows owners same t = subst (λ o. HasRows shape cols other o (first root) rows) (sym owners) (table_same shape cols at other (owns counts at number) (first root) rows same t)

-- an edit of a table's page leaves every other table
pub rows_of_others : (counts : List ℕ) (at : SlotsAt) (p : PageId) (slots : List (List ℕ)) (cols : List Column) (number : ℕ) (root : PageId) (rows : Rows) → ((a : PageId) → IsAllocPage counts a → IsSpread counts at a) → is_there counts p ≡ true → owner at p ≢ 4294967295 → owner at p ≢ number + 1
    → AreRowsOf counts at cols number root rows → AreRowsOf counts (set_at at p slots) cols number root rows
rows_of_others counts at p slots cols number root rows spread there table other t =
    let off = not_alloc counts at p spread there table in
    rows_same_pages counts at (set_at at p slots) cols number root rows (λ i q. is_there counts q && owners_off at p q slots off i == number + 1)
    (λ q own. sym (ap (λ b. cond b slots (at q)) (apart q own))) t
  where
    apart : (q : PageId) → owns counts at number q ≡ true → is_page p q ≡ false
    apart q own = elim (page_cases p q) [
      | inl e ↦ absurd (other (ap (owner at) e ∙ eqb-true (owner at q) (number + 1) (and_parts (is_there counts q) (owner at q == number + 1) own).1))
      | inr f ↦ f
    ]

-- pages that may be claimed are such as a plan counts on
pub claimable_free : (counts : List ℕ) (at : SlotsAt) (ds : List TableDesc) (tables : Tables) (claimed : ℕ → PageId) (n number : ℕ) → IsBase counts at ds tables → AreClaimable counts at claimed n → AreFree claimed n at (owns counts at number)
claimable_free counts at ds tables claimed n number b free = record {
  blank = λ i lt. b.blank (claimed i) (free.there i lt) (free.free i lt);
  unowned = λ i lt. none (is_there counts (claimed i)) (owner at (claimed i)) (free.free i lt);
  differ = free.differ;
  targets = free.targets;
}
  where
    both : (b : Bool) → (b && false) ≡ false
    both true = refl
    both false = refl

    none : (there : Bool) (o : ℕ) → o ≡ 0 → (there && o == number + 1) ≡ false
    none there o free = ap (λ b. there && b) (ap (λ m. m == number + 1) free ∙ ne_eqb 0 (number + 1) (λ e. absurd (omega (arith, e)))) ∙ both there

-- What the edits from a page to its draft carry the tables to.
use Rattle.std.proofs.Common.{◌≡◌, ◌≢◌, ℕ, ◌+◌, ◌<◌, true, false, All, inl, inr, List, [], ◌∷◌, ◌++◌, length, map, refl, ap, sym, ◌∙◌, subst, arith}
use Rattle.std.specs.Prelude.{Option, Some}
use Rattle.std.specs.FinMap as finite
use Rattle.std.specs.List.{AllByRecursion}
use Rattle.std.specs.Cmp.Lexicographic.{nat_list_cmp_total}
use Rattle.std.proofs.lemmas.Bool.{cases_eq}
use Rattle.std.proofs.lemmas.List.Elements.{All-from_recursion}
use Rattle.page_base.specs.declared.column.Column.{Column}
use Rattle.page_base.specs.declared.numbers.PageId.{PageId}
use Rattle.page_base.specs.declared.value.Value.{Value}
use Rattle.page_base.specs.Slots.{Slots}
use Rattle.page_base.proofs.MapLemmas.{insert-same}
use Rattle.page_fmt.specs.Content.{content}
use Rattle.page_fmt.specs.Edits.{slot_at}
use Rattle.row_fmt.specs.Rows.{FitsColumns}
use Rattle.plain_model.specs.Sound.{is_definition}
use Rattle.plain_model.specs.Tables.{Rows, Table, Tables, Change, Put, Cut, changed, apply, with_row, without_key, key_of}
use Rattle.early_pages.specs.Shown.{Shown, img, IsThere}
use Rattle.early_pages.specs.Slots.{slots_of}
use Rattle.table_pages.specs.declared.edit.Edit.{Edit}
use Rattle.table_pages.specs.Gathered.{Has}
use Rattle.table_pages.specs.Headers.{header_of}
use Rattle.table_pages.specs.Layout.{rows_in, table_item, place, table_at, tables_of, IsPacked}
use Rattle.table_pages.specs.Edits.{done}
use Rattle.table_pages.specs.Turns.{AreInTurn}
use Rattle.table_pages.specs.Drafts.{Drafts}
use Rattle.table_pages.specs.Drafting.{cut_rows, put_rows, IsDrafted, Differs}
use Rattle.table_pages.specs.Plans.{changes_of, Plans}
use Rattle.table_pages.specs.Carried.{data_pages, decoded, Holds, Carries}
use Rattle.table_pages.proofs.CollectLemmas.{collect_set, insert_twice, get_same}
use Rattle.table_pages.proofs.OrderLemmas.{names_exact}
use Rattle.table_pages.proofs.PageLemmas.{table_is, table_of}
use Rattle.table_pages.proofs.PlanLemmas.{places_apart}
use Rattle.table_pages.proofs.CallerLemmas.{found_there, held_definition}

-- THE CHANGES OF ONE TABLE

-- a table with other rows
abbrev pub rowed : Table → Rows → Table
rowed t rows = record { cols = t.cols; rows = rows }

apply_puts : (name : List ℕ) (put : List (List Value)) (tables : Tables) (t : Table) → finite.get tables name ≡ Some t → apply (map (Put name) put) tables ≡ finite.insert tables name (rowed t (put_rows t.cols put t.rows))
apply_puts name [] tables t e = sym (insert-same nat_list_cmp_total names_exact tables name t e)
apply_puts name (row ∷ put) tables t e =
    let next : Tables = finite.insert tables name (with_row row t) in
    ap (λ (o : Option Table). apply (map (Put name) put) (changed tables name o (with_row row))) e
    ∙ apply_puts name put next (with_row row t) (get_same nat_list_cmp_total names_exact tables name (with_row row t))
    ∙ insert_twice nat_list_cmp_total names_exact tables name (with_row row t) (rowed (with_row row t) (put_rows t.cols put (with_row row t).rows))

apply_both : (name : List ℕ) (cut put : List (List Value)) (tables : Tables) (t : Table) → finite.get tables name ≡ Some t → apply (changes_of name cut put) tables ≡ finite.insert tables name (rowed t (put_rows t.cols put (cut_rows cut t.rows)))
apply_both name [] put tables t e = apply_puts name put tables t e
apply_both name (key ∷ cut) put tables t e =
    let next : Tables = finite.insert tables name (without_key key t) in
    ap (λ (o : Option Table). apply (changes_of name cut put) (changed tables name o (without_key key))) e
    ∙ apply_both name cut put next (without_key key t) (get_same nat_list_cmp_total names_exact tables name (without_key key t))
    ∙ insert_twice nat_list_cmp_total names_exact tables name (without_key key t) (rowed (without_key key t) (put_rows t.cols put (cut_rows cut (without_key key t).rows)))

-- THE PLAN

-- each edit lies on the page
pages_are : (p : PageId) (slots : List (List ℕ)) (es : List Edit) → AreInTurn p slots es → AllByRecursion (λ (e : Edit). e.page ≡ p) es
pages_are p slots [] turn = tt
pages_are p slots (e ∷ es) turn = (turn.0, pages_are p slots es turn.3)

module _ (v : Shown) (i : ℕ) (name : List ℕ) (t : Table) (cut put : List (List Value)) (edits : List Edit) (left : List (List ℕ)) (within : i < data_pages v) (packed : IsPacked (data_pages v) (slots_of (img v))) (holds : Holds (img v (place i)) name t)
    (h : IsDrafted t.cols cut put (content (img v (place i))) t.rows left) (d : Differs (place i) (content (img v (place i))) left edits) where
  all_there : (es : List Edit) → AllByRecursion (λ (e : Edit). e.page ≡ place i) es → AllByRecursion (λ (e : Edit). IsThere v e.page) es
  all_there [] each = tt
  all_there (e ∷ es) each = (subst (IsThere v) (sym each.0) (omega arith), all_there es each.1)

  slots_are : (j : ℕ) → done edits (slots_of (img v)) (place i) j ≡ slot_at left j
  slots_are j = d.leads (slots_of (img v)) refl j

  page_is : done edits (slots_of (img v)) (place i) ≡ slot_at left
  page_is = λ k j. slots_are j k

  front : done edits (slots_of (img v)) (place i) 0 ≡ slots_of (img v) (place i) 0
  front = slots_are 0 ∙ h.front

  new_item : table_at (done edits (slots_of (img v))) i ≡ Has name (rowed t (put_rows t.cols put (cut_rows cut t.rows)))
  new_item =
      let table = table_is (slots_of (img v) (place i)) name t holds in
      table_of (done edits (slots_of (img v)) (place i)) name t.cols (put_rows t.cols put (cut_rows cut t.rows)) (λ f. table.full (sym front ∙ f)) (ap header_of front ∙ table.header)
      (ap (rows_in t.cols) page_is ∙ h.rows_are)

  says : (tables : Tables) → decoded v ≡ Some tables → tables_of (data_pages v) (done edits (slots_of (img v))) ≡ Some (apply (changes_of name cut put) tables)
  unfolding tables_of
  says tables e =
      collect_set nat_list_cmp_total names_exact (table_at (slots_of (img v))) (table_at (done edits (slots_of (img v)))) (data_pages v) i tables name t (rowed t (put_rows t.cols put (cut_rows cut t.rows))) e within holds new_item
      (λ q ne. ap table_item (d.others (slots_of (img v)) (place q) (places_apart q i ne)))
      ∙ ap (λ (ts : Tables). Some ts) (sym (apply_both name cut put tables t (found_there (data_pages v) (slots_of (img v)) tables e i name t within holds)))

  same_front : (q : ℕ) → done edits (slots_of (img v)) (place q) 0 ≡ slots_of (img v) (place q) 0
  same_front q = elim (cases_eq q i) [
    | inl here ↦ subst (λ (n : ℕ). done edits (slots_of (img v)) (place n) 0 ≡ slots_of (img v) (place n) 0) (sym here) front
    | inr ne ↦ λ k. d.others (slots_of (img v)) (place q) (places_apart q i ne) k 0
  ]

  -- the edits from the page to its draft are the plan
  pub plans : Plans v i name t cut put edits
  plans = record {
    turn = d.turn;
    end = left;
    drafts = h.drafts;
    slots = slots_are;
    carries = λ tables e. record {
      there = All-from_recursion (λ (x : Edit). IsThere v x.page) edits (all_there edits (pages_are (place i) (content (img v (place i))) edits d.turn));
      fits = d.fits (λ p. content (img v p)) refl;
      changes = d.changes (slots_of (img v)) refl;
      says = says tables e;
      packed = record { behind = λ a b lt high at_a. same_front b ∙ packed.behind a b lt high (sym (same_front a) ∙ at_a) };
    };
  }

-- THE CALL

some_columns : (cols : List Column) → is_definition cols ≡ true → 0 < length cols
some_columns [] d = absurd (let wrong : false ≡ true = d in cc)
some_columns (c ∷ cols) d = omega arith

module _ (cols : List Column) (image page name : List ℕ) (t : Table) (same : cols ≡ t.cols) (at : image ≡ page) (holds : Holds page name t) where
  pub call_some : 0 < length cols
  call_some = subst (λ (cs : List Column). 0 < length cs) (sym same) (some_columns t.cols (held_definition page name t holds))

  pub call_rows : rows_in cols (slot_at (content image)) ≡ Some t.rows
  call_rows = (λ k. rows_in (same k) (slot_at (content (at k)))) ∙ (table_is (slot_at (content page)) name t holds).rows

  pub call_fits : (put : List (List Value)) → All (FitsColumns t.cols) put → All (FitsColumns cols) put
  call_fits put fits = subst (λ (cs : List Column). All (FitsColumns cs) put) (sym same) fits

  pub call_lacks : (cut put : List (List Value)) (end : Option (List (List ℕ))) → Drafts cols cut put (content image) end → Drafts t.cols cut put (content page) end
  call_lacks cut put end d = subst (λ (x : List ℕ). Drafts t.cols cut put (content x) end) at (subst (λ (cs : List Column). Drafts cs cut put (content image) end) same d)

  pub call_drafted : (cut put : List (List Value)) (left : List (List ℕ)) → IsDrafted cols cut put (content image) t.rows left → IsDrafted t.cols cut put (content page) t.rows left
  call_drafted cut put left d = subst (λ (x : List ℕ). IsDrafted t.cols cut put (content x) t.rows left) at (subst (λ (cs : List Column). IsDrafted cs cut put (content image) t.rows left) same d)

pub call_differs : (p q : PageId) (image page : List ℕ) (left : List (List ℕ)) (edits : List Edit) → p ≡ q → image ≡ page → Differs p (content image) left edits → Differs q (content page) left edits
call_differs p q image page left edits p_is at d = subst (λ (x : List ℕ). Differs q (content x) left edits) at (subst (λ (r : PageId). Differs r (content image) left edits) p_is d)

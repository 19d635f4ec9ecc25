-- A table is dropped: the other tables stay as they stand, and its pages are free.
use Rattle.std.proofs.Common.{refl, ◌≡◌, ◌≢◌, ℕ, zero, suc, ◌+◌, ◌%◌, ◌<◌, ◌==◌, ◌&&◌, ◌||◌, List, [], ◌∷◌, ◌++◌, length, map, get_or, ap, sym, ◌∙◌, subst, arith, Bool, true, false, cond, inl, inr, eqb-true, append_assoc}
use Rattle.std.specs.Prelude.{Option, Some, None}
use Rattle.std.specs.FinMap as finite
use Rattle.std.specs.FinMap.{get-remove}
use Rattle.std.specs.List.{All, Any}
use Rattle.std.specs.Cmp.Lexicographic.{nat_list_cmp_total}
use Rattle.std.specs.Str.{bytes_eq}
use Rattle.std.proofs.lemmas.Bool.{and_parts, ne_eqb, cases_Bool}
use Rattle.std.proofs.lemmas.List.{get_or_default, map-append}
use Rattle.std.proofs.lemmas.Map.Text.{is_eq-slice_cmp}
use Rattle.page_base.specs.declared.column.Column.{Column}
use Rattle.page_base.specs.declared.numbers.PageId.{PageId}
use Rattle.page_base.specs.Slots.{Slots}
use Rattle.page_fmt.specs.Seen.{SlotsAt}
use Rattle.plain_model.specs.Tables.{Rows, Table, Tables}
use Rattle.alloc_pages.specs.Owners.{owner_at, page_owner}
use Rattle.alloc_pages.specs.Spots.{spot_of}
use Rattle.sys_cat.specs.declared.desc.TableDesc.{TableDesc}
use Rattle.sys_cat.specs.Changing.{without_desc, keys_of}
use Rattle.sys_cat.specs.Lists.{IsDesc}
use Rattle.sys_cat.specs.Rows.{table_0, zero_root}
use Rattle.sys_cat.proofs.ChangeLemmas.{tables_cut}
use Rattle.sys_cat.proofs.OrderLemmas.{gathered_keyed}
use Rattle.table_walk.specs.declared.plan.Edit.{Edit}
use Rattle.table_walk.specs.declared.visit.Visit.{Visit}
use Rattle.table_walk.specs.Walk.{IsWalk, Reaches}
use Rattle.table_walk.proofs.WalkLemmas.{walks-one}
use Rattle.table_walk.specs.Plans.{cut_all, Go}
use Rattle.page_tables.specs.Bases.{AreRowsOf, HasTable, AreStanding, IsBase}
use Rattle.page_tables.specs.Dropping.{ArePagesOf, Empty, release, dropping, Drops}
use Rattle.page_tables.specs.Layout as layout
use Rattle.page_tables.specs.Layout.{shape}
use Rattle.page_tables.specs.Mine.{MayWriteAll, AreSpread, Moves, is_of}
use Rattle.page_tables.specs.Owners.{is_there, owner, owns, IsOwner}
use Rattle.page_tables.specs.Owners.IsOwner.{Free, Allocation, OfZero, OfTable}
use Rattle.page_tables.specs.Sheets.{sheets}
use Rattle.page_tables.specs.Writes.{Write, done, claims, write_of}
use Rattle.page_tables.proofs.BaseLemmas.{rows_same_pages}
use Rattle.page_tables.proofs.CarriedLemmas.{zero_desc, each_desc, map_long}
use Rattle.page_tables.proofs.CreateLemmas.{not_none, not_alloc_page, its_own, not_other}
use Rattle.page_tables.proofs.DescLemmas.{all_without, any_without, number_differs, name_differs}
use Rattle.page_tables.proofs.FreeLemmas.{is_among, any_among, among_any, AreOnce, once_of, empty_same, empties_go, empties_done, empties_within, freed_owner, freed_slots, freed_spread, freed_go}
use Rattle.page_tables.proofs.GoLemmas.{go_both, edits_go, AreOwn}
use Rattle.page_tables.proofs.MineLemmas.{every_spot, off_alloc, all_move, same_pages, same_slots_on}
use Rattle.page_tables.proofs.OwnerLemmas.{spread_same}
use Rattle.page_tables.proofs.OwnLemmas.{zero_small, few_number, plan_go, plan_mine, zero_base}
use Rattle.page_tables.proofs.SheetLemmas.{sheet_same}
use Rattle.page_tables.proofs.WriteLemmas.{done_both, edits_done, owner_in_sheets}

get_cut : (tables : Tables) (name other : List ℕ) → finite.get (finite.remove tables name) other ≡ cond (bytes_eq other name) None (finite.get tables other)
get_cut tables name other = get-remove nat_list_cmp_total tables name other ∙ ap (λ b. cond b None (finite.get tables other)) (is_eq-slice_cmp other name)

module _ (counts : List ℕ) (s : Slots) (ds : List TableDesc) (tables : Tables) (d : TableDesc) (claimed : ℕ → PageId) (n : ℕ) (edits empties : List Edit) (pages : List PageId) (c : Drops counts s ds tables d claimed n edits empties pages) where
  abbrev rows : Rows
  rows = cut_all (keys_of d) c.base.zero_rows

  few : d.number.0 + 1 < 4294967295
  few = few_number counts (sheets s) ds tables c.base d c.there

  desc : IsDesc d
  desc = subst IsDesc (get_or_default ds c.there.0 d c.there.1 c.there.2 ∙ c.there.3 ∙ c.there.4) (each_desc ds c.base.descs.descs.each c.there.0 d c.there.2)

  not_zero : d.number.0 ≢ 0
  not_zero e = absurd (omega (arith, e, desc.head.some))

  -- ---- behind the plan of table 0

  abbrev first : List Write
  first = claims 0 claimed n ++ map (write_of claimed) edits

  abbrev x : Slots
  x = done (claims 0 claimed n ++ map (write_of claimed) edits) s

  stand : AreStanding counts (sheets x) rows ds tables
  stand = zero_base counts s ds tables c.base claimed n c.free edits rows c.plan

  moves : Moves counts (is_of 0) s x
  moves = all_move counts (is_of 0) (not_none 0) (not_alloc_page 0 zero_small) s first c.base.spread (plan_mine counts s c.base.spread zero_desc zero_small claimed n c.free edits rows c.plan)

  owned_x : owns counts (sheets x) d.number.0 ≡ owns counts (sheets s) d.number.0
  owned_x = same_pages counts (is_of 0) s x moves d.number.0 (not_other 0 d.number.0 not_zero) few

  -- the pages of the list are the table's
  its_there : (q : PageId) → is_among pages q ≡ true → owns counts (sheets s) d.number.0 q ≡ true
  its_there q t = (c.its.owned q).1 (among_any pages q t)

  its_now : (q : PageId) → is_among pages q ≡ true → (is_there counts q ≡ true) × (page_owner x q ≡ d.number.0 + 1)
  its_now q t =
      let own : owns counts (sheets x) d.number.0 q ≡ true = (λ i. owned_x i q) ∙ its_there q t in
      let parts = and_parts (is_there counts q) (owner (sheets x) q == d.number.0 + 1) own in
      (parts.0, sym (owner_in_sheets x q) ∙ eqb-true (owner (sheets x) q) (d.number.0 + 1) parts.1)

  among_its : (q : PageId) → is_there counts q ≡ true → page_owner x q ≡ d.number.0 + 1 → is_among pages q ≡ true
  among_its q there is =
      any_among pages q ((c.its.owned q).0 (sym (λ i. owned_x i q) ∙ ((λ i. there i && (owner_in_sheets x q ∙ is) i == d.number.0 + 1) ∙ its_own d.number.0)))

  off : (q : PageId) → is_among pages q ≡ true → q.page % 1280 ≢ 0
  off q t = let now = its_now q t in off_alloc counts x q stand.spread now.0 (λ e. absurd (omega (arith, e, now.1, few)))

  no_tells : (a : PageId) → a.page % 1280 ≡ 0 → is_among pages a ≡ false
  no_tells a every = elim (cases_Bool (is_among pages a)) [
    | inl t ↦ absurd (off a t every)
    | inr f ↦ f
  ]

  once : AreOnce pages
  once = once_of pages c.its.once

  -- ---- behind the edits that empty its pages

  its_empty : Empty (sheets x) pages empties
  its_empty = empty_same (sheets s) (sheets x) pages empties (λ q t. same_slots_on counts (is_of 0) s x moves d.number.0 (not_other 0 d.number.0 not_zero) few q (its_there q t)) c.empty

  goes : Go claimed (sheets x) empties
  goes = empties_go claimed (sheets x) pages empties once its_empty

  abbrev y : Slots
  y = done (map (write_of claimed) empties) x

  sheet_y : (q : PageId) → sheets y q ≡ cond (is_among pages q) [] (sheets x q)
  sheet_y q = (λ i. edits_done claimed empties x (sheets x) refl goes i q) ∙ empties_done claimed (sheets x) pages empties once its_empty q

  tells_y : (a : PageId) → a.page % 1280 ≡ 0 → sheets y a ≡ sheets x a
  tells_y a every = sheet_y a ∙ ap (λ b. cond b [] (sheets x a)) (no_tells a every)

  owner_y : (q : PageId) → page_owner y q ≡ page_owner x q
  owner_y q = sym (owner_in_sheets y q) ∙ ap (λ xs. owner_at xs (spot_of q).slot) (tells_y (spot_of q).page (every_spot q)) ∙ owner_in_sheets x q

  spread_at : AreSpread counts (sheets y)
  spread_at a alloc = spread_same counts (sheets x) (sheets y) a (sym (tells_y a alloc.every)) (stand.spread a alloc)

  -- ---- behind all writes

  abbrev z : Slots
  z = done (map release pages) y

  owner_z : (q : PageId) → owner (sheets z) q ≡ cond (is_among pages q) 0 (owner (sheets x) q)
  owner_z q = owner_in_sheets z q ∙ freed_owner pages y q ∙ ap (cond (is_among pages q) 0) (owner_y q ∙ sym (owner_in_sheets x q))

  sheet_z : (q : PageId) → q.page % 1280 ≢ 0 → sheets z q ≡ cond (is_among pages q) [] (sheets x q)
  sheet_z q ne = sheet_same z y q (freed_slots pages y q ne) ∙ sheet_y q

  kept : (m : ℕ) → m ≢ d.number.0 → m + 1 < 4294967295 → (cols : List Column) (root : PageId) (rs : Rows) → AreRowsOf counts (sheets x) cols m root rs → AreRowsOf counts (sheets z) cols m root rs
  kept m ne small cols root rs t = rows_same_pages counts (sheets x) (sheets z) cols m root rs (λ i q. is_there counts q && test q i) same t
    where
      test : (q : PageId) → (owner (sheets z) q == m + 1) ≡ (owner (sheets x) q == m + 1)
      test q = elim (cases_Bool (is_among pages q)) [
        | inl t ↦
            ap (λ o. o == m + 1) (owner_z q ∙ ap (λ b. cond b 0 (owner (sheets x) q)) t) ∙ ne_eqb 0 (m + 1) (λ e. absurd (omega (arith, e)))
            ∙ sym (ap (λ o. o == m + 1) (owner_in_sheets x q ∙ (its_now q t).1) ∙ ne_eqb (d.number.0 + 1) (m + 1) (λ e. ne (omega (arith, e))))
        | inr f ↦ ap (λ o. o == m + 1) (owner_z q ∙ ap (λ b. cond b 0 (owner (sheets x) q)) f)
      ]

      same : (q : PageId) → owns counts (sheets x) m q ≡ true → sheets x q ≡ sheets z q
      same q own =
          let parts = and_parts (is_there counts q) (owner (sheets x) q == m + 1) own in
          let is : page_owner x q ≡ m + 1 = sym (owner_in_sheets x q) ∙ eqb-true (owner (sheets x) q) (m + 1) parts.1 in
          let out : is_among pages q ≡ false = elim (cases_Bool (is_among pages q)) [
            | inl t ↦ absurd (ne (omega (arith, is, (its_now q t).1)))
            | inr f ↦ f
          ] in
          sym (sheet_z q (off_alloc counts x q stand.spread parts.0 (λ e. absurd (omega (arith, e, is, small)))) ∙ ap (λ b. cond b [] (sheets x q)) out)

  owner_without : (o : ℕ) → IsOwner ds o → o ≢ d.number.0 + 1 → IsOwner (without_desc ds d.name) o
  owner_without o is = elim is as (λ (o : ℕ) _. o ≢ d.number.0 + 1 → IsOwner (without_desc ds d.name) o) [
    | Free ↦ λ _. Free
    | Allocation ↦ λ _. Allocation
    | OfZero ↦ λ _. OfZero
    | OfTable e any ↦ λ ne.
        let at : get_or ds any.0 any.1 ≡ e = any.3 ∙ any.4 in
        let differ : bytes_eq (get_or ds any.0 any.1).name d.name ≡ false = name_differs ds c.base.descs.descs d c.there any.0 any.1 any.2 (λ same. ne (ap (λ m. m + 1) (sym (ap (λ (h : TableDesc). h.number.0) at) ∙ same))) in
        OfTable e (any_without (λ (h : TableDesc). h ≡ e) ds d.name any.0 any.1 any.2 any.3 (ap (λ (h : TableDesc). bytes_eq h.name d.name) (sym any.3) ∙ differ) any.4)
  ]

  others : All (HasTable counts (sheets z) (finite.remove tables d.name)) (without_desc ds d.name)
  others = all_without (HasTable counts (sheets z) (finite.remove tables d.name)) ds d.name (λ j e lt differ.
      let old : HasTable counts (sheets x) tables (get_or ds j e) = stand.each j e lt in
      let head = (each_desc ds c.base.descs.descs.each j e lt).head in
      record {
        rows = old.rows;
        pages = kept (get_or ds j e).number.0 (number_differs ds c.base.descs.descs d c.there j e lt differ) (omega (arith, head.number)) (get_or ds j e).cols (get_or ds j e).root old.rows old.pages;
        is = get_cut tables d.name (get_or ds j e).name ∙ ap (λ b. cond b None (finite.get tables (get_or ds j e).name)) differ ∙ old.is;
      })

  only : (name : List ℕ) (t : Table) → finite.get (finite.remove tables d.name) name ≡ Some t → Any (λ (e : TableDesc). e.name ≡ name) (without_desc ds d.name)
  only name t got = by (bytes_eq name d.name) refl (sym (get_cut tables d.name name) ∙ got)
    where
      none : {P : Type 0} → ◌≡◌ {A = Option Table} None (Some t) → P
      none e = cc

      by : (b : Bool) → bytes_eq name d.name ≡ b → cond b None (finite.get tables name) ≡ Some t → Any (λ (e : TableDesc). e.name ≡ name) (without_desc ds d.name)
      by true is e = none e
      by false is e =
          let any = stand.only name t e in
          any_without (λ (e : TableDesc). e.name ≡ name) ds d.name any.0 any.1 any.2 any.3 (ap (λ m. bytes_eq m d.name) any.4 ∙ is) any.4

  base_without : IsBase counts (sheets z) (without_desc ds d.name) (finite.remove tables d.name)
  base_without = record {
    spread = freed_spread counts pages y spread_at (λ q t. ((its_now q t).0, off q t));
    zero_rows = rows;
    zero_pages = kept 0 (λ e. not_zero (sym e)) (omega arith) table_0 zero_root rows stand.zero_pages;
    descs = tables_cut c.base.zero_rows ds d c.base.descs (gathered_keyed _ c.base.zero_rows c.base.zero_pages.1.gathers) c.there;
    each = others;
    only = only;
    owners = λ p in_file. elim (cases_Bool (is_among pages p)) [
      | inl t ↦ subst (IsOwner (without_desc ds d.name)) (sym (owner_z p ∙ ap (λ b. cond b 0 (owner (sheets x) p)) t)) Free
      | inr f ↦
          subst (IsOwner (without_desc ds d.name)) (sym (owner_z p ∙ ap (λ b. cond b 0 (owner (sheets x) p)) f))
          (owner_without (owner (sheets x) p) (stand.owners p in_file) (λ e. let w : true ≡ false = sym (among_its p in_file (sym (owner_in_sheets x p) ∙ e)) ∙ f in cc))
    ];
    blank = λ p in_file none. elim (cases_Bool (is_among pages p)) [
      | inl t ↦ sheet_z p (off p t) ∙ ap (λ b. cond b [] (sheets x p)) t
      | inr f ↦
          let was : owner (sheets x) p ≡ 0 = sym (owner_z p ∙ ap (λ b. cond b 0 (owner (sheets x) p)) f) ∙ none in
          sheet_z p (off_alloc counts x p stand.spread in_file (λ e. absurd (omega (arith, e, sym (owner_in_sheets x p) ∙ was)))) ∙ ap (λ b. cond b [] (sheets x p)) f ∙ stand.blank p in_file was
    ];
  }

  -- ---- the writes

  in_order : dropping claimed n edits empties pages ≡ first ++ (map (write_of claimed) empties ++ map release pages)
  in_order =
      ap (λ ws. claims 0 claimed n ++ (ws ++ map release pages)) (map-append (write_of claimed) edits empties)
      ∙ ap (λ ws. claims 0 claimed n ++ ws) (append_assoc (map (write_of claimed) edits) (map (write_of claimed) empties) (map release pages))
      ∙ sym (append_assoc (claims 0 claimed n) (map (write_of claimed) edits) (map (write_of claimed) empties ++ map release pages))

  all_done : done (dropping claimed n edits empties pages) s ≡ z
  all_done = ap (λ ws. done ws s) in_order ∙ done_both first (map (write_of claimed) empties ++ map release pages) s ∙ done_both (map (write_of claimed) empties) (map release pages) x

  pub dropped : IsBase counts (sheets (done (dropping claimed n edits empties pages) s)) (without_desc ds d.name) (finite.remove tables d.name)
  dropped = subst (λ (t : Slots). IsBase counts (sheets t) (without_desc ds d.name) (finite.remove tables d.name)) (sym all_done) base_without

  pub freed : (p : PageId) → owns counts (sheets s) d.number.0 p ≡ true → page_owner (done (dropping claimed n edits empties pages) s) p ≡ 0
  freed p own = (λ i. page_owner (all_done i) p) ∙ freed_owner pages y p ∙ ap (λ b. cond b 0 (page_owner y p)) (any_among pages p ((c.its.owned p).0 own))

  mine : AreOwn counts (is_of d.number.0) (not_none d.number.0) (not_alloc_page d.number.0 few) claimed 0 (is_among pages) x
  mine q t = let now = its_now q (or_none (is_among pages q) t) in (now.0, ap (is_of d.number.0) now.1 ∙ its_own d.number.0)
    where
      or_none : (b : Bool) → (b || false) ≡ true → b ≡ true
      or_none true e = refl
      or_none false e = e

  pub dropped_go : MayWriteAll counts s (dropping claimed n edits empties pages)
  dropped_go = subst (MayWriteAll counts s) (sym in_order) (go_both counts first (map (write_of claimed) empties ++ map release pages) s (plan_go counts s c.base.spread zero_desc zero_small claimed n c.free edits rows c.plan)
      (go_both counts (map (write_of claimed) empties) (map release pages) x
      (edits_go counts (is_of d.number.0) (not_none d.number.0) (not_alloc_page d.number.0 few) claimed 0 (is_among pages) empties x (sheets x) refl goes mine stand.spread (empties_within claimed (is_among pages) (sheets x) pages empties (λ q t. t) its_empty))
      (freed_go counts pages y spread_at once (λ q t. ((its_now q t).0, off q t, λ e. absurd (omega (arith, e, owner_y q, (its_now q t).1)))))))

-- ---- which pages a table has

page_at : (vs : List Visit) (k : ℕ) (v : Visit) (d : PageId) → k < length vs → get_or (map (λ (u : Visit). u.page) vs) k d ≡ (get_or vs k v).page
page_at [] k v d lt = absurd (omega arith)
page_at (u ∷ vs) zero v d lt = refl
page_at (u ∷ vs) (suc k) v d lt = page_at vs k v d (omega arith)

any_page : (vs : List Visit) (p : PageId) → Reaches vs p → Any (λ (q : PageId). q ≡ p) (map (λ (u : Visit). u.page) vs)
any_page vs p a = (
  a.0,
  p,
  omega (arith, a.2, map_long (λ (u : Visit). u.page) vs),
  page_at vs a.0 a.1 p a.2 ∙ ap (λ (u : Visit). u.page) a.3 ∙ a.4,
  refl,
)

page_any : (vs : List Visit) (p : PageId) → Any (λ (q : PageId). q ≡ p) (map (λ (u : Visit). u.page) vs) → Reaches vs p
page_any vs p a =
    let lt : a.0 < length vs = omega (arith, a.2, map_long (λ (u : Visit). u.page) vs) in
    let v : Visit = record { page = p; from = p; slot = 0; level = None } in
    (a.0, get_or vs a.0 v, lt, get_or_default vs a.0 (get_or vs a.0 v) v lt, sym (page_at vs a.0 v a.1 lt) ∙ a.3 ∙ a.4)

pub walked_pages : (counts : List ℕ) (at : SlotsAt) (cols : List Column) (number : ℕ) (root : PageId) (rows : Rows) (done : List Visit) → AreRowsOf counts at cols number root rows → IsWalk shape.kids at (layout.first root) done [] → ArePagesOf counts at number (map (λ (v : Visit). v.page) done)
walked_pages counts at cols number root rows done t w =
    let same : t.0 ≡ done = walks-one shape.kids at (layout.first root ∷ []) t.0 done t.1.walk.walks w.walks in
    record {
      once = λ i j d lt h e.
          let long : length (map (λ (v : Visit). v.page) done) ≡ length done = map_long (λ (v : Visit). v.page) done in
          let v : Visit = record { page = d; from = d; slot = 0; level = None } in
          w.once i j v lt (omega (arith, h, long)) (sym (page_at done i v d (omega (arith, lt, h, long))) ∙ e ∙ page_at done j v d (omega (arith, h, long)));
      owned = λ p. (
        λ own. any_page done p (subst (λ vs. Reaches vs p) same ((t.1.owned p).0 own)),
        λ a. (t.1.owned p).1 (subst (λ vs. Reaches vs p) (sym same) (page_any done p a)),
      );
    }

-- A draft as keys are cut from it and rows are put into it, one at a time.
use Rattle.std.proofs.Common.{◌≡◌, ◌≢◌, ◌⊎◌, ℕ, ◌+◌, ◌-◌, ◌<◌, ◌≤◌, inl, inr, List, [], ◌∷◌, length, drop, get_or, All, refl, ap, sym, ◌∙◌, subst, arith}
use Rattle.std.specs.Prelude.{Option, Some, None}
use Rattle.std.specs.FinMap as finite
use Rattle.std.proofs.lemmas.Bool.{cases_lt, cases_eq}
use Rattle.std.proofs.lemmas.List.{drop_more, drop_all}
use Rattle.std.proofs.lemmas.Option.{same_Some, none-some}
use Rattle.page_base.specs.declared.column.Column.{Column}
use Rattle.page_base.specs.declared.value.Value.{Value}
use Rattle.page_base.proofs.Ordered.{key_cmp_total}
use Rattle.page_fmt.specs.Content.{content, IsPage}
use Rattle.page_fmt.specs.Edits.{edited, slot_at}
use Rattle.page_fmt.specs.Spelling.{used}
use Rattle.page_fmt.proofs.CallerLemmas.{slot_at-edited_same, slot_at-edited_other}
use Rattle.row_fmt.specs.Rows.{IsRow, FitsColumns, row_bytes}
use Rattle.plain_model.specs.Tables.{Rows, key_of}
use Rattle.table_pages.specs.Gathered.{Item, Skip, Has, collect}
use Rattle.table_pages.specs.Rows.{row_of}
use Rattle.table_pages.specs.Layout.{row_item, row_at, rows_in}
use Rattle.table_pages.specs.Drafts.{IsKeyAt, LacksKey, IsFirstEmpty, Cuts, There, Absent, Goes, Over, Beside, Puts, Drafts}
use Rattle.table_pages.specs.Drafting.{Index, IsIndex, IsDraft, AreFull, cut_rows, put_rows, IsCut, PutsRow, FindsNoRoom, ArePut, IsDrafted}
use Rattle.table_pages.proofs.CollectLemmas.{collect_at, collect_once, collect_cut, collect_set, collect_new, remove_absent}
use Rattle.table_pages.proofs.OrderLemmas.{keys_exact}
use Rattle.table_pages.proofs.PageLemmas.{row_has, row_skip, row_lacks, few_slots, slot_past}
use Rattle.table_pages.proofs.IndexLemmas.{same_key, key_moved, index_cut, index_put}
use Rattle.table_pages.proofs.RowLemmas.{row_is_read, row_full}

-- WHERE KEYS STAND

-- a slot of a page that isn't empty
pub full_low : (image : List ℕ) (i : ℕ) → IsPage image → slot_at (content image) i ≢ [] → i < length (content image)
full_low image i page full = elim (cases_lt i (length (content image))) [
  | inl lt ↦ lt
  | inr past ↦ absurd (full (slot_past image i past))
]

-- a slot of a page that has a key
pub key_few : (cols : List Column) (image : List ℕ) (key : List Value) (i : ℕ) → IsPage image → IsKeyAt cols (content image) key i → i < 4048
key_few cols image key i page a = let few = few_slots image page in let lt = full_low image i page a.full in omega arith

module _ (cols : List Column) where
  at_place : (slots : List (List ℕ)) (i : ℕ) → 0 < i → row_at cols (slot_at slots) (i - 1) ≡ row_item cols (slot_at slots i)
  at_place slots i low = let at : (i - 1) + 1 ≡ i = omega arith in ap (λ (k : ℕ). row_item cols (slot_at slots k)) at

  key_item : (slots : List (List ℕ)) (key : List Value) (i : ℕ) (a : IsKeyAt cols slots key i) → row_at cols (slot_at slots) (i - 1) ≡ Has key a.row
  key_item slots key i a = at_place slots i a.low ∙ row_has cols (slot_at slots i) a.row a.full a.is ∙ ap (λ (k : List Value). Has k a.row) a.keyed

  -- a page and its rows
  module _ (image : List ℕ) (page : IsPage image) (rows : Rows) (whole : rows_in cols (slot_at (content image)) ≡ Some rows) where
    pub key_low : (key : List Value) (i : ℕ) → IsKeyAt cols (content image) key i → i < 4048
    key_low key i a = let few = few_slots image page in let lt = full_low image i page a.full in omega arith

    -- one slot has a key
    pub key_once : (key : List Value) (i j : ℕ) → IsKeyAt cols (content image) key i → IsKeyAt cols (content image) key j → j ≡ i
    unfolding rows_in
    key_once key i j a b =
        let low_i = a.low in
        let low_j = b.low in
        let high_i = key_low key i a in
        let high_j = key_low key j b in
        let same : i - 1 ≡ j - 1 = collect_once key_cmp_total keys_exact (row_at cols (slot_at (content image))) 4047 (i - 1) (j - 1) rows key a.row b.row whole (omega arith) (omega arith) (key_item (content image) key i a) (key_item (content image) key j b) in
        omega arith

    -- a key that no slot has
    pub key_lacks : (key : List Value) → LacksKey cols (content image) key → finite.get rows key ≡ None
    key_lacks key none = row_lacks cols (slot_at (content image)) rows whole key (λ i row low high full is keyed. none i (record { row = row; low = low; full = full; is = is; keyed = keyed }))

    -- the rows once the slot of a key is emptied
    pub rows_cut : (key : List Value) (i : ℕ) (left : ℕ → List ℕ) → IsKeyAt cols (content image) key i → left i ≡ [] → ((j : ℕ) → j ≢ i → left j ≡ slot_at (content image) j) → rows_in cols left ≡ Some (finite.remove rows key)
    unfolding rows_in
    rows_cut key i left a empty others =
        let low = a.low in
        let high = key_low key i a in
        let at : (i - 1) + 1 ≡ i = omega arith in
        collect_cut key_cmp_total keys_exact (row_at cols (slot_at (content image))) (row_at cols left) 4047 (i - 1) rows key a.row whole (omega arith) (key_item (content image) key i a)
        (ap (λ (k : ℕ). row_item cols (left k)) at ∙ row_skip cols (left i) empty) (λ j ne. ap (row_item cols) (others (j + 1) (λ z. ne (omega arith))))

    -- the rows once a row is put where it goes
    pub rows_put : (row : List Value) (i : ℕ) (left : ℕ → List ℕ) → Goes cols (content image) row i → i < 4048 → left i ≢ [] → row_of cols (left i) ≡ Some row → ((j : ℕ) → j ≢ i → left j ≡ slot_at (content image) j) → rows_in cols left ≡ Some (finite.insert rows (key_of cols row) row)
    unfolding rows_in
    rows_put row i left (Over a) high full is others =
        let low = a.low in
        let at : (i - 1) + 1 ≡ i = omega arith in
        collect_set key_cmp_total keys_exact (row_at cols (slot_at (content image))) (row_at cols left) 4047 (i - 1) rows (key_of cols row) a.row row whole (omega arith) (key_item (content image) (key_of cols row) i a)
        (ap (λ (k : ℕ). row_item cols (left k)) at ∙ row_has cols (left i) row full is) (λ j ne. ap (row_item cols) (others (j + 1) (λ z. ne (omega arith))))
    rows_put row i left (Beside none first) high full is others =
        let low = first.low in
        let at : (i - 1) + 1 ≡ i = omega arith in
        collect_new key_cmp_total keys_exact (row_at cols (slot_at (content image))) (row_at cols left) 4047 (i - 1) rows (key_of cols row) row whole (omega arith)
        (at_place (content image) i low ∙ row_skip cols (slot_at (content image) i) first.empty) (key_lacks (key_of cols row) none)
        (ap (λ (k : ℕ). row_item cols (left k)) at ∙ row_has cols (left i) row full is) (λ j ne. ap (row_item cols) (others (j + 1) (λ z. ne (omega arith))))

    -- what is left where a key is cut is one
    pub cuts_once : (key : List Value) (a b : List (List ℕ)) → Cuts cols (content image) key a → Cuts cols (content image) key b → a ≡ b
    cuts_once key a b (There i x e) (There j y f) = e ∙ ap (λ (k : ℕ). edited (content image) k []) (sym (key_once key i j x y)) ∙ sym f
    cuts_once key a b (There i x e) (Absent y f) = absurd (y i x)
    cuts_once key a b (Absent x e) (There j y f) = absurd (x j y)
    cuts_once key a b (Absent x e) (Absent y f) = e ∙ sym f

    -- a row goes to one place
    pub goes_once : (row : List Value) (i j : ℕ) → Goes cols (content image) row i → Goes cols (content image) row j → i ≡ j
    goes_once row i j (Over a) (Over b) = key_once (key_of cols row) j i b a
    goes_once row i j (Over a) (Beside none first) = absurd (none i a)
    goes_once row i j (Beside none first) (Over b) = absurd (none j b)
    goes_once row i j (Beside x a) (Beside y b) = elim (cases_lt i j) [
      | inl lt ↦ absurd (b.first i a.low lt a.empty)
      | inr ge ↦ elim (cases_lt j i) [
        | inl lt ↦ absurd (a.first j b.low lt b.empty)
        | inr le ↦ omega arith
      ]
    ]

    -- the slot that a row goes to has no other key
    pub goes_free : (row : List Value) (i : ℕ) → Goes cols (content image) row i → (q : List Value) → q ≢ key_of cols row → ¬ IsKeyAt cols (content image) q i
    goes_free row i (Over a) q ne b = ne (same_key cols (content image) q (key_of cols row) i b a)
    goes_free row i (Beside none first) q ne b = b.full first.empty

    goes_low : (row : List Value) (i : ℕ) → Goes cols (content image) row i → 0 < i
    goes_low row i (Over a) = a.low
    goes_low row i (Beside none first) = first.low

    -- ONE KEY IS CUT

    module _ (index : Index) (some : 0 < length cols) (h : IsIndex cols (content image) index) (key : List Value) (new : List ℕ) where
      -- the draft once a key is cut
      pub record CutsOne : Type 0 where
        pub draft : IsDraft cols new (finite.remove index key) (finite.remove rows key)
        pub cuts : Cuts cols (content image) key (content new)
        pub front : slot_at (content new) 0 ≡ slot_at (content image) 0

      pub cut_there : (i : ℕ) → finite.get index key ≡ Some i → content new ≡ edited (content image) i [] → CutsOne
      cut_there i e left =
          let a = h.found key i e in
          let low = a.low in
          let empty : slot_at (content new) i ≡ [] = ap (λ (s : List (List ℕ)). slot_at s i) left ∙ slot_at-edited_same (content image) i [] in
          let others : (j : ℕ) → j ≢ i → slot_at (content new) j ≡ slot_at (content image) j = λ j ne. ap (λ (s : List (List ℕ)). slot_at s j) left ∙ slot_at-edited_other (content image) i j [] ne in
          record {
            draft = record {
              some = some;
              rows_are = rows_cut key i (slot_at (content new)) a empty others;
              index_is = index_cut cols (content image) (content new) index i others h key a (λ j b. key_once key i j a b) empty;
            };
            cuts = There i a left;
            front = others 0 (λ z. omega arith);
          }

      pub cut_absent : finite.get index key ≡ None → new ≡ image → CutsOne
      cut_absent e same =
          let none = h.lacks key e in
          let index_same : finite.remove index key ≡ index = remove_absent key_cmp_total keys_exact index key e in
          let rows_same : finite.remove rows key ≡ rows = remove_absent key_cmp_total keys_exact rows key (key_lacks key none) in
          record {
            draft = record {
              some = some;
              rows_are = ap (λ (x : List ℕ). rows_in cols (slot_at (content x))) same ∙ whole ∙ ap (λ (r : Rows). Some r) (sym rows_same);
              index_is = subst (λ (x : List ℕ). IsIndex cols (content x) (finite.remove index key)) (sym same) (subst (IsIndex cols (content image)) (sym index_same) h);
            };
            cuts = Absent none (ap content same);
            front = ap (λ (x : List ℕ). slot_at (content x) 0) same;
          }

    -- ONE ROW IS PUT

    module _ (index : Index) (some : 0 < length cols) (h : IsIndex cols (content image) index) (row : List Value) (new : List ℕ) where
      pub put_there : (i : ℕ) (bytes : List ℕ) → Goes cols (content image) row i → i < 4048 → IsRow cols bytes row → bytes ≢ [] → content new ≡ edited (content image) i bytes → used (edited (content image) i bytes) ≤ 8192 →
          PutsRow cols (content image) row (content new) × IsDraft cols new (finite.insert index (key_of cols row) i) (finite.insert rows (key_of cols row) row)
      put_there i bytes goes high spelled full left room =
          let same : bytes ≡ row_bytes row = spelled.spelled in
          let here : slot_at (content new) i ≡ bytes = ap (λ (s : List (List ℕ)). slot_at s i) left ∙ slot_at-edited_same (content image) i bytes in
          let others : (j : ℕ) → j ≢ i → slot_at (content new) j ≡ slot_at (content image) j = λ j ne. ap (λ (s : List (List ℕ)). slot_at s j) left ∙ slot_at-edited_other (content image) i j bytes ne in
          let is : row_of cols (slot_at (content new) i) ≡ Some row = ap (row_of cols) here ∙ row_is_read cols bytes row spelled in
          let some_bytes : slot_at (content new) i ≢ [] = λ f. full (sym here ∙ f) in (
            record {
              at = i;
              goes = goes;
              room = subst (λ (bs : List ℕ). used (edited (content image) i bs) ≤ 8192) same room;
              is = left ∙ ap (edited (content image) i) same;
            },
            record {
              some = some;
              rows_are = rows_put row i (slot_at (content new)) goes high some_bytes is others;
              index_is = index_put cols (content image) (content new) index i others h row (goes_low row i goes) some_bytes is (goes_free row i goes);
            },
          )

    -- slot 0 stays where a row is put
    pub put_front : (row : List Value) (left : List (List ℕ)) → PutsRow cols (content image) row left → slot_at left 0 ≡ slot_at (content image) 0
    put_front row left p =
        let low = goes_low row p.at p.goes in
        ap (λ (s : List (List ℕ)). slot_at s 0) p.is ∙ slot_at-edited_other (content image) p.at 0 (row_bytes row) (λ z. omega arith)

  -- ALL KEYS ARE CUT

  -- the first k keys are cut
  pub record CutSoFar (cut : List (List Value)) (start : List ℕ) (first : Rows) (page : List ℕ) (index : Index) (k : ℕ) : Type 0 where
    pub now : Rows
    pub draft : IsDraft cols page index now
    pub ends : cut_rows (drop k cut) now ≡ cut_rows cut first
    pub back : (put : List (List Value)) (end : Option (List (List ℕ))) → Drafts cols (drop k cut) put (content page) end → Drafts cols cut put (content start) end
    pub forth : (put : List (List Value)) (end : Option (List (List ℕ))) → Drafts cols cut put (content start) end → Drafts cols (drop k cut) put (content page) end
    pub front : slot_at (content page) 0 ≡ slot_at (content start) 0

  pub cut_none : (cut : List (List Value)) (start : List ℕ) (first : Rows) (index : Index) → IsDraft cols start index first → CutSoFar cut start first start index 0
  cut_none cut start first index h = record { now = first; draft = h; ends = refl; back = λ put end d. d; forth = λ put end d. d; front = refl }

  pub cut_more : (cut : List (List Value)) (start : List ℕ) (first : Rows) (page : List ℕ) (index : Index) (k : ℕ) (key : List Value) (new : List ℕ) (next : Index) → IsPage page → k < length cut → key ≡ get_or cut k key → CutSoFar cut start first page index k
      → ((rows : Rows) → IsDraft cols page index rows → IsDraft cols new next (finite.remove rows key)) → ((rows : Rows) → IsDraft cols page index rows → Cuts cols (content page) key (content new)) → ((rows : Rows) → IsDraft cols page index rows → slot_at (content new) 0 ≡ slot_at (content page) 0)
      → CutSoFar cut start first new next (k + 1)
  cut_more cut start first page index k key new next is_page lt at so_far drafts cuts fronts =
      let h = so_far.draft in
      let rest : drop k cut ≡ key ∷ drop (k + 1) cut = drop_more cut k key lt ∙ ap (λ (x : List Value). x ∷ drop (k + 1) cut) (sym at) in
      let one = cuts so_far.now h in
      record {
        now = finite.remove so_far.now key;
        draft = drafts so_far.now h;
        ends = ap (λ (keys : List (List Value)). cut_rows keys so_far.now) (sym rest) ∙ so_far.ends;
        back = λ put end d. so_far.back put end (subst (λ (keys : List (List Value)). Drafts cols keys put (content page) end) (sym rest) (content new, one, d));
        forth = λ put end d.
            let e = subst (λ (keys : List (List Value)). Drafts cols keys put (content page) end) rest (so_far.forth put end d) in
            subst (λ (s : List (List ℕ)). Drafts cols (drop (k + 1) cut) put s end) (cuts_once page is_page so_far.now h.rows_are key e.0 (content new) e.1 one) e.2;
        front = fronts so_far.now h ∙ so_far.front;
      }

  pub cut_end : (cut : List (List Value)) (start : List ℕ) (first : Rows) (page : List ℕ) (index : Index) (k : ℕ) → length cut ≤ k → CutSoFar cut start first page index k → IsDraft cols page index (cut_rows cut first) × IsCut cols cut (content start) (content page)
  cut_end cut start first page index k past so_far =
      let none : drop k cut ≡ [] = drop_all k cut past in
      let same : so_far.now ≡ cut_rows cut first = ap (λ (keys : List (List Value)). cut_rows keys so_far.now) (sym none) ∙ so_far.ends in (
        subst (IsDraft cols page index) same so_far.draft,
        record {
          back = λ put end d. so_far.back put end (subst (λ (keys : List (List Value)). Drafts cols keys put (content page) end) (sym none) d);
          forth = λ put end d. subst (λ (keys : List (List Value)). Drafts cols keys put (content page) end) none (so_far.forth put end d);
          front = so_far.front;
        },
      )

  -- ALL ROWS ARE PUT

  -- the first k rows are put
  pub record PutSoFar (put : List (List Value)) (start : List ℕ) (first : Rows) (page : List ℕ) (index : Index) (k : ℕ) : Type 0 where
    pub now : Rows
    pub draft : IsDraft cols page index now
    pub ends : put_rows cols (drop k put) now ≡ put_rows cols put first
    pub back : (end : Option (List (List ℕ))) → Puts cols (drop k put) (content page) end → Puts cols put (content start) end
    pub forth : (end : Option (List (List ℕ))) → Puts cols put (content start) end → Puts cols (drop k put) (content page) end
    pub front : slot_at (content page) 0 ≡ slot_at (content start) 0

  pub put_none : (put : List (List Value)) (start : List ℕ) (first : Rows) (index : Index) → IsDraft cols start index first → PutSoFar put start first start index 0
  put_none put start first index h = record { now = first; draft = h; ends = refl; back = λ end d. d; forth = λ end d. d; front = refl }

  pub put_more : (put : List (List Value)) (start : List ℕ) (first : Rows) (page : List ℕ) (index : Index) (k : ℕ) (row : List Value) (new : List ℕ) (next : Index) → IsPage page → k < length put → row ≡ get_or put k row → PutSoFar put start first page index k
      → ((rows : Rows) → IsDraft cols page index rows → PutsRow cols (content page) row (content new) × IsDraft cols new next (finite.insert rows (key_of cols row) row))
      → PutSoFar put start first new next (k + 1)
  put_more put start first page index k row new next is_page lt at so_far puts =
      let h = so_far.draft in
      let rest : drop k put ≡ row ∷ drop (k + 1) put = drop_more put k row lt ∙ ap (λ (x : List Value). x ∷ drop (k + 1) put) (sym at) in
      let both = puts so_far.now h in
      let p = both.0 in
      record {
        now = finite.insert so_far.now (key_of cols row) row;
        draft = both.1;
        ends = ap (λ (rows : List (List Value)). put_rows cols rows so_far.now) (sym rest) ∙ so_far.ends;
        back = λ end d. so_far.back end (subst (λ (rows : List (List Value)). Puts cols rows (content page) end) (sym rest)
            (p.at, p.goes, inr (p.room, subst (λ (s : List (List ℕ)). Puts cols (drop (k + 1) put) s end) p.is d)));
        forth = λ end d.
            let e = subst (λ (rows : List (List Value)). Puts cols rows (content page) end) rest (so_far.forth end d) in
            let same : e.0 ≡ p.at = goes_once page is_page so_far.now h.rows_are row e.0 p.at e.1 p.goes in
            let room = p.room in
            elim e.2 [
              | inl lacks ↦ absurd (let more = subst (λ (i : ℕ). 8192 < used (edited (content page) i (row_bytes row))) same lacks.0 in omega arith)
              | inr later ↦ subst (λ (s : List (List ℕ)). Puts cols (drop (k + 1) put) s end) (ap (λ (i : ℕ). edited (content page) i (row_bytes row)) same ∙ sym p.is) later.1
            ];
        front = put_front page is_page so_far.now h.rows_are row (content new) p ∙ so_far.front;
      }

  pub put_stops : (put : List (List Value)) (start : List ℕ) (first : Rows) (page : List ℕ) (index : Index) (k : ℕ) (row : List Value) → k < length put → row ≡ get_or put k row → PutSoFar put start first page index k
      → ((rows : Rows) → IsDraft cols page index rows → FindsNoRoom cols (content page) row) → Puts cols put (content start) None
  put_stops put start first page index k row lt at so_far finds =
      let rest : drop k put ≡ row ∷ drop (k + 1) put = drop_more put k row lt ∙ ap (λ (x : List Value). x ∷ drop (k + 1) put) (sym at) in
      let f = finds so_far.now so_far.draft in
      so_far.back None (subst (λ (rows : List (List Value)). Puts cols rows (content page) None) (sym rest) (f.at, f.goes, inl (f.lacks, refl)))

  no_slots : (s : List (List ℕ)) → ◌≡◌ {A = Option (List (List ℕ))} None (Some s) → ⊥
  no_slots s e = none-some s e

  pub put_end : (put : List (List Value)) (start : List ℕ) (first : Rows) (page : List ℕ) (index : Index) (k : ℕ) → length put ≤ k → PutSoFar put start first page index k → ArePut cols put (content start) first (content page)
  put_end put start first page index k past so_far =
      let none : drop k put ≡ [] = drop_all k put past in
      let h = so_far.draft in
      record {
        puts = so_far.back (Some (content page)) (subst (λ (rows : List (List Value)). Puts cols rows (content page) (Some (content page))) (sym none) refl);
        only = λ d. no_slots (content page) (subst (λ (rows : List (List Value)). Puts cols rows (content page) None) none (so_far.forth None d));
        front = so_far.front;
        rows_are = h.rows_are ∙ ap (λ (r : Rows). Some r) (ap (λ (rows : List (List Value)). put_rows cols rows so_far.now) (sym none) ∙ so_far.ends);
      }

  -- all keys are cut, and then all rows are put
  pub drafted_both : (cut put : List (List Value)) (slots middle left : List (List ℕ)) (rows : Rows) → IsCut cols cut slots middle → ArePut cols put middle (cut_rows cut rows) left → IsDrafted cols cut put slots rows left
  drafted_both cut put slots middle left rows c p = record {
    drafts = c.back put (Some left) p.puts;
    only = λ d. p.only (c.forth put None d);
    front = p.front ∙ c.front;
    rows_are = p.rows_are;
  }

-- ONE ROW, AS IT IS WRITTEN

module _ (cols : List Column) (page same : List ℕ) (index : Index) where
  -- what was written is put
  pub put_written : (next : Index) (rows : Rows) (row key : List Value) (made bytes : List ℕ) (i : ℕ) (new : List ℕ) → IsDraft cols page index rows → IsPage page → key ≡ key_of cols row → same ≡ page
      → (IsIndex cols (content page) index → key ≡ key_of cols row → Goes cols (content page) row i) → (IsIndex cols (content page) index → i < 4048) → IsRow cols made row → bytes ≡ made
      → content new ≡ edited (content same) i bytes → used (edited (content same) i bytes) ≤ 8192 → bytes ≢ [] → next ≡ finite.insert index key i
      → PutsRow cols (content page) row (content new) × IsDraft cols new next (finite.insert rows (key_of cols row) row)
  put_written next rows row key made bytes i new h is_page keyed stays goes few spelled are left room some next_is =
      let is : IsRow cols bytes row = subst (λ (bs : List ℕ). IsRow cols bs row) (sym are) spelled in
      let left_is : content new ≡ edited (content page) i bytes = left ∙ ap (λ (x : List ℕ). edited (content x) i bytes) stays in
      let room_is : used (edited (content page) i bytes) ≤ 8192 = subst (λ (x : List ℕ). used (edited (content x) i bytes) ≤ 8192) stays room in
      let p = put_there cols page is_page rows h.rows_are index h.some h.index_is row new i bytes (goes h.index_is keyed) (few h.index_is) is some left_is room_is in
      (p.0, subst (λ (m : Index). IsDraft cols new m (finite.insert rows (key_of cols row) row)) (ap (λ (k : List Value). finite.insert index k i) (sym keyed) ∙ sym next_is) p.1)

  -- what couldn't be written finds no room
  pub put_lacks : (rows : Rows) (row key : List Value) (made bytes : List ℕ) (i : ℕ) → IsDraft cols page index rows → key ≡ key_of cols row → same ≡ page
      → (IsIndex cols (content page) index → key ≡ key_of cols row → Goes cols (content page) row i) → (IsIndex cols (content page) index → i < 4048) → FitsColumns cols row → IsRow cols made row → bytes ≡ made
      → (i < 4048 → bytes ≢ [] → 8192 < used (edited (content same) i bytes)) → FindsNoRoom cols (content page) row
  put_lacks rows row key made bytes i h keyed stays goes few fits spelled are lacks =
      let bytes_are : bytes ≡ row_bytes row = are ∙ spelled.spelled in
      record {
        at = i;
        goes = goes h.index_is keyed;
        lacks = subst (λ (bs : List ℕ). 8192 < used (edited (content page) i bs)) bytes_are (subst (λ (x : List ℕ). 8192 < used (edited (content x) i bytes)) stays
            (lacks (few h.index_is) (λ f. row_full cols row fits h.some (sym bytes_are ∙ f))));
      }

-- KEYS AND ROWS IN TURN

module _ (cols : List Column) (cut cut_given put put_given : List (List Value)) (image start : List ℕ) (middle : List (List ℕ)) (cut_is : cut_given ≡ cut) (put_is : put_given ≡ put) (image_is : start ≡ image) (cuts : IsCut cols cut_given (content start) middle) where
  cuts_there : IsCut cols cut (content image) middle
  cuts_there = subst (λ (ks : List (List Value)). IsCut cols ks (content image) middle) cut_is (subst (λ (x : List ℕ). IsCut cols cut_given (content x) middle) image_is cuts)

  pub drafted_lacks : Puts cols put_given middle None → Drafts cols cut put (content image) None
  drafted_lacks p = let c = cuts_there in c.back put None (subst (λ (rs : List (List Value)). Puts cols rs middle None) put_is p)

  pub drafted_left : (rows : Rows) (left : List (List ℕ)) → ArePut cols put_given middle (cut_rows cut_given rows) left → IsDrafted cols cut put (content image) rows left
  drafted_left rows left p =
      drafted_both cols cut put (content image) middle left rows cuts_there (subst (λ (rs : List (List Value)). ArePut cols rs middle (cut_rows cut rows) left) put_is (subst (λ (ks : List (List Value)). ArePut cols put_given middle (cut_rows ks rows) left) cut_is p))

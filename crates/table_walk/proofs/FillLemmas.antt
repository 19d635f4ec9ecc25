-- A row that a plan puts gives way to another of its key and size: the plan goes as before, and the table has that one.
use Rattle.std.proofs.Common.{refl, ◌≡◌, ◌≢◌, ℕ, zero, suc, ◌<◌, ◌≤◌, List, [], ◌∷◌, ◌++◌, length, get_or, set, ap, sym, ◌∙◌, subst, arith, Bool, true, false, cond, inl, inr, Ok, append_assoc}
use Rattle.std.specs.Prelude.{Some, IsOkAnd}
use Rattle.std.specs.FinMap as finite
use Rattle.std.specs.List.{AllPairs}
use Rattle.std.proofs.lemmas.Bool.{cases_eq, cases_lt}
use Rattle.std.proofs.lemmas.List.{get_or_default}
use Rattle.page_base.specs.declared.limits.TheConstants.{MAX_SLOT_BYTES}
use Rattle.page_base.specs.declared.column.Column.{Column}
use Rattle.page_base.specs.declared.numbers.PageId.{PageId}
use Rattle.page_base.specs.declared.value.Value.{Value}
use Rattle.page_base.specs.Pages.{is_page, set_at}
use Rattle.page_base.proofs.PagesLemmas.{is_page-same, is_page-true}
use Rattle.page_fmt.specs.Edits.{edited, slot_at}
use Rattle.page_fmt.specs.Seen.{SlotsAt, look}
use Rattle.page_fmt.specs.Spelling.{used}
use Rattle.page_fmt.proofs.CallerLemmas.{slot_at-edited_other}
use Rattle.plain_model.specs.Tables.{Rows, key_of}
use Rattle.row_fmt.specs.Rows.{row_bytes}
use Rattle.row_fmt.proofs.RowLemmas.{one_row}
use Rattle.table_walk.specs.declared.plan.Edit.{Edit}
use Rattle.table_walk.specs.declared.plan.Spot.{Spot}
use Rattle.table_walk.specs.declared.visit.Visit.{Visit}
use Rattle.table_walk.specs.Differences.{edit_at}
use Rattle.table_walk.specs.Filling.{IsLike, IsLeafOf, KeepsByKeys}
use Rattle.table_walk.specs.Plans.{place, bytes_of, changed, after, Fits, Go, also, IsOtherSlot, AreWithin, Carries}
use Rattle.table_walk.specs.Tables.{is_leaf, Shape, shown, HasRows, Gathers, cells, cells_of, full}
use Rattle.table_walk.specs.Walk.{Kids, Walks, IsWalk}
use Rattle.table_walk.proofs.FillSlots.{IsFilled, filled_edit, filled_used, filled_slot, filled_new, filled_is}
use Rattle.table_walk.proofs.GatherLemmas.{OneOf, gathers_out, gathers_in}
use Rattle.table_walk.proofs.RowsLemmas.{Key, same_key, rows_same, get_put}
use Rattle.table_walk.proofs.TableLemmas.{cells-same}
use Rattle.table_walk.proofs.WalkLemmas.{ok_map}

-- EDITS BEFORE AND BEHIND

go_front : (claimed : ℕ → PageId) (at : SlotsAt) (xs ys : List Edit) → Go claimed at (xs ++ ys) → Go claimed at xs × Go claimed (after claimed at xs) ys
go_front claimed at [] ys g = (tt, g)
go_front claimed at (x ∷ xs) ys g = let r = go_front claimed (changed claimed at x) xs ys g.1 in ((g.0, r.0), r.1)

go_both : (claimed : ℕ → PageId) (at : SlotsAt) (xs ys : List Edit) → Go claimed at xs → Go claimed (after claimed at xs) ys → Go claimed at (xs ++ ys)
go_both claimed at [] ys g h = h
go_both claimed at (x ∷ xs) ys g h = (g.0, go_both claimed (changed claimed at x) xs ys g.1 h)

after_both : (claimed : ℕ → PageId) (at : SlotsAt) (xs ys : List Edit) → after claimed at (xs ++ ys) ≡ after claimed (after claimed at xs) ys
after_both claimed at [] ys = refl
after_both claimed at (x ∷ xs) ys = after_both claimed (changed claimed at x) xs ys

within_other : (claimed : ℕ → PageId) (n : ℕ) (owns : PageId → Bool) (xs : List Edit) (e f : Edit) (ys : List Edit) → f.spot ≡ e.spot → AreWithin claimed n owns (xs ++ e ∷ ys) → AreWithin claimed n owns (xs ++ f ∷ ys)
within_other claimed n owns [] e f ys same w = (subst (λ s. also owns claimed n (place claimed s) ≡ true) (sym same) w.0, w.1)
within_other claimed n owns (x ∷ xs) e f ys same w = (w.0, within_other claimed n owns xs e f ys same w.1)

-- each edit of the list is of another slot than this page's j
abbrev Aside : (ℕ → PageId) → PageId → ℕ → List Edit → Type 0
Aside claimed q j [] = Unit {0}
Aside claimed q j (e ∷ es) = (¬ ((place claimed e.spot ≡ q) × (e.slot ≡ j))) × Aside claimed q j es

aside_later : (claimed : ℕ → PageId) (e : Edit) (ys : List Edit) → ((k : ℕ) (d : Edit) → k < length ys → IsOtherSlot claimed e (get_or ys k d)) → Aside claimed (place claimed e.spot) e.slot ys
aside_later claimed e [] h = tt
aside_later claimed e (y ∷ ys) h = (λ both. h 0 y (omega arith) (sym both.0, sym both.1), aside_later claimed e ys (λ k d lt. h (suc k) d (omega arith)))

mid : {X : Type 0} (xs : List X) (e : X) (ys : List X) (d : X) → get_or (xs ++ e ∷ ys) (length xs) d ≡ e
mid [] e ys d = refl
mid (x ∷ xs) e ys d = mid xs e ys d

length_mid : {X : Type 0} (xs : List X) (e : X) (ys : List X) → length xs < length (xs ++ e ∷ ys)
length_mid [] e ys = omega arith
length_mid (x ∷ xs) e ys = omega (arith, length_mid xs e ys)

pairs_tail : {X : Type 0} (R : X → X → Type 0) (x : X) (xs : List X) → AllPairs R (x ∷ xs) → AllPairs R xs
pairs_tail R x xs a i j d h l = a (suc i) (suc j) d (omega arith) (omega arith)

asides : (claimed : ℕ → PageId) (xs : List Edit) (e : Edit) (ys : List Edit) → AllPairs (IsOtherSlot claimed) (xs ++ e ∷ ys) → Aside claimed (place claimed e.spot) e.slot xs × Aside claimed (place claimed e.spot) e.slot ys
asides claimed [] e ys a = (tt, aside_later claimed e ys (λ k d lt. a 0 (suc k) d (omega arith) (omega arith)))
asides claimed (x ∷ xs) e ys a =
    let r = asides claimed xs e ys (pairs_tail (IsOtherSlot claimed) x (xs ++ e ∷ ys) a) in
    ((subst (IsOtherSlot claimed x) (mid xs e ys x) (a 0 (suc (length xs)) x (omega arith) (omega (arith, length_mid xs e ys))), r.0), r.1)

-- a slot that no edit is of stays
slot_stays : (claimed : ℕ → PageId) (q : PageId) (j : ℕ) (at : SlotsAt) (es : List Edit) → Aside claimed q j es → slot_at (after claimed at es q) j ≡ slot_at (at q) j
slot_stays claimed q j at [] a = refl
slot_stays claimed q j at (e ∷ es) a = slot_stays claimed q j (changed claimed at e) es a.1 ∙ by (is_page (place claimed e.spot) q) refl
  where
    by : (b : Bool) → is_page (place claimed e.spot) q ≡ b → slot_at (cond b (edited (at (place claimed e.spot)) e.slot (bytes_of claimed e)) (at q)) j ≡ slot_at (at q) j
    by true is =
        let same : place claimed e.spot ≡ q = is_page-true (place claimed e.spot) q is in
        slot_at-edited_other (at (place claimed e.spot)) e.slot j (bytes_of claimed e) (λ k. a.0 (same, sym k)) ∙ ap (λ p. slot_at (at p) j) same
    by false is = refl

-- ALL PAGES

-- these pages are those, with another slot on one
record AreFilled (q : PageId) (j : ℕ) (x y : List ℕ) (at other : SlotsAt) : Type 0 where
  rest : (p : PageId) → is_page q p ≡ false → other p ≡ at p
  here : IsFilled j x y (at q) (other q)

module _ (claimed : ℕ → PageId) (q : PageId) (j : ℕ) (x y : List ℕ) (some : 0 < length x) (size : length y ≡ length x) where
  module _ (at other : SlotsAt) (f : AreFilled q j x y at other) (e : Edit) (aside : ¬ ((place claimed e.spot ≡ q) × (e.slot ≡ j))) where
    abbrev p : PageId
    p = place claimed e.spot

    two : {A : Type 0} → (p ≡ q → A) → (is_page q p ≡ false → A) → A
    two {A} same ne = by (is_page q p) refl
      where
        by : (b : Bool) → is_page q p ≡ b → A
        by true is = same (sym (is_page-true q p is))
        by false is = ne is

    fits_filled : Fits claimed at e → Fits claimed other e
    fits_filled fits = two
        (λ same.
        let g : IsFilled j x y (at p) (other p) = subst (λ r. IsFilled j x y (at r) (other r)) (sym same) f.here in
        let ne : e.slot ≢ j = λ k. aside (same, k) in
        let done : IsFilled j x y (edited (at p) e.slot (bytes_of claimed e)) (edited (other p) e.slot (bytes_of claimed e)) = filled_edit j x y some size (at p) (other p) e.slot (bytes_of claimed e) ne g in
        record {
          index = fits.index;
          short = fits.short;
          room = subst (λ n. n ≤ 8192) (sym (filled_used j x y some size (edited (at p) e.slot (bytes_of claimed e)) (edited (other p) e.slot (bytes_of claimed e)) done)) fits.room;
          changes = λ same_bytes. fits.changes (sym (filled_slot j x y some size (at p) (other p) e.slot ne g) ∙ same_bytes);
        })
        (λ ne. record {
          index = fits.index;
          short = fits.short;
          room = subst (λ s. used (edited s e.slot (bytes_of claimed e)) ≤ 8192) (sym (f.rest p ne)) fits.room;
          changes = subst (λ s. slot_at s e.slot ≢ bytes_of claimed e) (sym (f.rest p ne)) fits.changes;
        })

    changed_filled : AreFilled q j x y (changed claimed at e) (changed claimed other e)
    changed_filled = record {
      rest = λ r apart. by (is_page p r) refl (f.rest r apart) apart;
      here = two
          (λ same.
          let g : IsFilled j x y (at p) (other p) = subst (λ r. IsFilled j x y (at r) (other r)) (sym same) f.here in
          let is : is_page p q ≡ true = ap (is_page p) (sym same) ∙ is_page-same p in
          subst (λ b. IsFilled j x y (cond b (edited (at p) e.slot (bytes_of claimed e)) (at q)) (cond b (edited (other p) e.slot (bytes_of claimed e)) (other q))) (sym is)
          (filled_edit j x y some size (at p) (other p) e.slot (bytes_of claimed e) (λ k. aside (same, k)) g))
          (λ ne.
          let is : is_page p q ≡ false = elsewhere ne in
          subst (λ b. IsFilled j x y (cond b (edited (at p) e.slot (bytes_of claimed e)) (at q)) (cond b (edited (other p) e.slot (bytes_of claimed e)) (other q))) (sym is) f.here);
    }
      where
        elsewhere : is_page q p ≡ false → is_page p q ≡ false
        elsewhere ne = other_way (is_page p q) refl
          where
            other_way : (b : Bool) → is_page p q ≡ b → is_page p q ≡ false
            other_way true is = (let w : true ≡ false = sym (ap (is_page q) (is_page-true p q is) ∙ is_page-same q) ∙ ne in cc)
            other_way false is = is

        by : {r : PageId} (b : Bool) → is_page p r ≡ b → other r ≡ at r → is_page q r ≡ false → cond b (edited (other p) e.slot (bytes_of claimed e)) (other r) ≡ cond b (edited (at p) e.slot (bytes_of claimed e)) (at r)
        by {r} true is same apart = ap (λ s. edited s e.slot (bytes_of claimed e)) (ap other (is_page-true p r is) ∙ same ∙ ap at (sym (is_page-true p r is)))
        by false is same apart = same

  later_filled : (at other : SlotsAt) (es : List Edit) → AreFilled q j x y at other → Aside claimed q j es → Go claimed at es → Go claimed other es × AreFilled q j x y (after claimed at es) (after claimed other es)
  later_filled at other [] f a g = (tt, f)
  later_filled at other (e ∷ es) f a g =
      let r = later_filled (changed claimed at e) (changed claimed other e) es (changed_filled at other f e a.0) a.1 g.1 in
      ((fits_filled at other f e a.0 g.0, r.0), r.1)

-- THE TABLE

abbrev Cells : Type 0
Cells = List (List ℕ)

-- the cell stands among others, and the other in its place
record AreCells (x y : List ℕ) (cells other : Cells) : Type 0 where
  front : Cells
  back : Cells
  is : cells ≡ front ++ x ∷ back
  fill : other ≡ front ++ y ∷ back

cells_behind : (x y : List ℕ) (more cells other : Cells) → AreCells x y cells other → AreCells x y (more ++ cells) (more ++ other)
cells_behind x y [] cells other c = c
cells_behind x y (z ∷ more) cells other c =
    let r = cells_behind x y more cells other c in
    record { front = z ∷ r.front; back = r.back; is = ap (λ zs. z ∷ zs) r.is; fill = ap (λ zs. z ∷ zs) r.fill }

cells_before : (x y : List ℕ) (cells other more : Cells) → AreCells x y cells other → AreCells x y (cells ++ more) (other ++ more)
cells_before x y cells other more c = record {
  front = c.front;
  back = c.back ++ more;
  is = ap (λ zs. zs ++ more) c.is ∙ append_assoc c.front (x ∷ c.back) more;
  fill = ap (λ zs. zs ++ more) c.fill ∙ append_assoc c.front (y ∷ c.back) more;
}

full_cons : (z : List ℕ) (s : Cells) → 0 < length z → full (z ∷ s) ≡ z ∷ full s
full_cons [] s h = absurd (omega arith)
full_cons (b ∷ bs) s h = refl

full_filled : (x y : List ℕ) (s : Cells) (j : ℕ) → 0 < length x → 0 < length y → get_or s j [] ≡ x → AreCells x y (full s) (full (set s j y))
full_filled x y [] j some other was = absurd (omega (arith, some, ap length was))
full_filled x y (a ∷ s) zero some other was = record {
  front = [];
  back = full s;
  is = full_cons a s (omega (arith, some, ap length was)) ∙ (λ i. was i ∷ full s);
  fill = full_cons y s other;
}
full_filled x y ([] ∷ s) (suc j) some other was = full_filled x y s j some other was
full_filled x y ((b ∷ bs) ∷ s) (suc j) some other was = cells_behind x y ((b ∷ bs) ∷ []) (full s) (full (set s j y)) (full_filled x y s j some other was)

module _ (q : PageId) (j : ℕ) (x y : List ℕ) (some : 0 < length x) (size : length y ≡ length x) (at other : SlotsAt) (f : AreFilled q j x y at other) where
  same_off : (p : PageId) → p ≢ q → at p ≡ other p
  same_off p ne = by (is_page q p) refl
    where
      by : (b : Bool) → is_page q p ≡ b → at p ≡ other p
      by true is = absurd (ne (sym (is_page-true q p is)))
      by false is = sym (f.rest p is)

  cells_filled : (done : List Visit) (k : ℕ) (d : Visit) → AllPairs (λ v w. v.page ≢ w.page) done → k < length done → (get_or done k d).page ≡ q → is_leaf (get_or done k d) ≡ true → AreCells x y (cells at done) (cells other done)
  cells_filled [] k d once h here leaf = absurd (omega arith)
  cells_filled (v ∷ vs) zero d once h here leaf =
      let mine : AreCells x y (full (at q)) (full (other q)) = subst (λ s. AreCells x y (full (at q)) (full s)) (sym f.here.is) (full_filled x y (at q) j some (omega (arith, some, size)) f.here.was) in
      let whole : AreCells x y (cells_of at v) (cells_of other v) =
      subst (λ b. AreCells x y (cond b (full (at v.page)) []) (cond b (full (other v.page)) [])) (sym leaf) (subst (λ p. AreCells x y (full (at p)) (full (other p))) (sym here) mine) in
      let rest : cells at vs ≡ cells other vs = cells-same at other vs (λ i e lt. same_off (get_or vs i e).page (λ is. once 0 (suc i) e (omega arith) (omega arith) (here ∙ sym is))) in
      subst (λ zs. AreCells x y (cells_of at v ++ cells at vs) (cells_of other v ++ zs)) rest (cells_before x y (cells_of at v) (cells_of other v) (cells at vs) whole)
  cells_filled (v ∷ vs) (suc k) d once h here leaf =
      let r = cells_filled vs k d (λ i l e a b. once (suc i) (suc l) e (omega arith) (omega arith)) (omega arith) here leaf in
      let off : at v.page ≡ other v.page = same_off v.page (λ is. once 0 (suc k) d (omega arith) h (is ∙ sym here)) in
      subst (λ zs. AreCells x y (cells_of at v ++ cells at vs) (zs ++ cells other vs)) (ap (λ (s : Cells). cond (is_leaf v) (full s) []) off) (cells_behind x y (cells_of at v) (cells at vs) (cells other vs) r)

  -- a walk names what it named
  walks_filled : (kids : Kids) → ((v : Visit) (slots : List (List ℕ)) → is_leaf v ≡ true → kids v slots ≡ Ok []) → (todo done rest : List Visit)
      → ((k : ℕ) (d : Visit) → k < length done → (get_or done k d).page ≡ q → is_leaf (get_or done k d) ≡ true) → Walks kids at todo done rest → Walks kids other todo done rest
  walks_filled kids names todo [] rest leaf w = w
  walks_filled kids names [] (v ∷ done) rest leaf w = w
  walks_filled kids names (t ∷ todo) (v ∷ done) rest leaf w =
      let here : kids t (at t.page) ≡ kids t (other t.page) = by (is_page q t.page) refl in (
        w.0,
        subst (λ r. IsOkAnd r (λ n. Walks kids other (n ++ todo) done rest)) here
            (ok_map (kids t (at t.page)) (λ n u. walks_filled kids names (n ++ todo) done rest (λ k d lt. leaf (suc k) d (omega arith)) u) w.1),
      )
    where
      by : (b : Bool) → is_page q t.page ≡ b → kids t (at t.page) ≡ kids t (other t.page)
      by true is =
          let mine : is_leaf t ≡ true = ap is_leaf w.0 ∙ leaf 0 v (omega arith) (sym (ap (λ (u : Visit). u.page) w.0) ∙ sym (is_page-true q t.page is)) in
          names t (at t.page) mine ∙ sym (names t (other t.page) mine)
      by false is = ap (kids t) (sym (f.rest t.page is))

-- a row among others gives way
put_twice : (rest : Rows) (k : Key) (row other : Key) → finite.insert (finite.insert rest k row) k other ≡ finite.insert rest k other
put_twice rest k row other = rows_same _ _ (λ p. get_put (finite.insert rest k row) k other p ∙ ap (cond (same_key p k) (Some other)) (get_put rest k row p) ∙ twice (same_key p k) (Some other) (Some row) (finite.get rest p) ∙ sym (get_put rest k other p))
  where
    twice : {A : Type 0} (b : Bool) (u v w : A) → cond b u (cond b v w) ≡ cond b u w
    twice true u v w = refl
    twice false u v w = refl

gathers_filled : (cols : List Column) (row new : List Value) (xs other : Cells) (rows : Rows) → IsLike cols row new → AreCells (row_bytes row) (row_bytes new) xs other → Gathers cols xs rows → Gathers cols other (finite.insert rows (key_of cols new) new)
gathers_filled cols row new xs other rows like c g =
    let o : OneOf cols c.front (row_bytes row) c.back rows = gathers_out cols c.front (row_bytes row) c.back rows (subst (λ zs. Gathers cols zs rows) c.is g) in
    let same : o.row ≡ row = one_row cols (row_bytes row) o.row row o.is (record { of = like.of; spelled = refl }) in
    let key : key_of cols o.row ≡ key_of cols new = ap (key_of cols) same ∙ sym like.key in
    let all : finite.insert rows (key_of cols new) new ≡ finite.insert o.rest (key_of cols new) new =
    ap (λ (m : Rows). finite.insert m (key_of cols new) new) (o.all ∙ ap (λ k. finite.insert o.rest k o.row) key) ∙ put_twice o.rest (key_of cols new) o.row new in
    subst (λ zs. Gathers cols zs (finite.insert rows (key_of cols new) new)) (sym c.fill)
    (subst (Gathers cols (c.front ++ row_bytes new ∷ c.back)) (sym all)
    (gathers_in cols c.front (row_bytes new) c.back o.rest new (record { of = like.other_of; spelled = refl }) like.small o.others (ap (finite.get o.rest) (sym key) ∙ o.new)))

table_filled : (shape : Shape) (cols : List Column) (at other : SlotsAt) (owns : PageId → Bool) (start : Visit) (rows : Rows) (q : PageId) (j : ℕ) (row new : List Value) → KeepsByKeys shape → IsLike cols row new
    → AreFilled q j (row_bytes row) (row_bytes new) at other → (t : HasRows shape cols at owns start rows) → IsLeafOf t.0 q → HasRows shape cols other owns start (finite.insert rows (key_of cols new) new)
table_filled shape cols at other owns start rows q j row new by_keys like f t leaf =
    let done : List Visit = t.0 in
    let k : ℕ = leaf.0 in
    let here : (get_or done k leaf.1).page ≡ q = ap (λ (v : Visit). v.page) leaf.3 ∙ leaf.4.0 in
    let only : (i : ℕ) (d : Visit) → i < length done → (get_or done i d).page ≡ q → is_leaf (get_or done i d) ≡ true =
    λ i d lt is. elim (cases_eq i k) as (λ _. is_leaf (get_or done i d) ≡ true) [
      | inl same ↦ subst (λ n. is_leaf (get_or done n d) ≡ true) (sym same) (ap is_leaf (get_or_default done k d leaf.1 leaf.2 ∙ leaf.3) ∙ leaf.4.1)
      | inr ne ↦ absurd (twice done k i d leaf.2 lt ne (ap (λ (v : Visit). v.page) (get_or_default done k d leaf.1 leaf.2) ∙ here) is t.1.walk.once)
    ] in
    let filled : other ≡ set_at at q (edited (at q) j (row_bytes new)) = λ i p. page p i in (
      done,
      record {
        walk = record { walks = walks_filled q j (row_bytes row) (row_bytes new) like.some like.size at other f shape.kids by_keys.leaves (start ∷ []) done [] only t.1.walk.walks; once = t.1.walk.once };
        owned = t.1.owned;
        gathers = gathers_filled cols row new (cells at done) (cells other done) rows like
            (cells_filled q j (row_bytes row) (row_bytes new) like.some like.size at other f done k leaf.1 t.1.walk.once leaf.2 here (ap is_leaf leaf.3 ∙ leaf.4.1)) t.1.gathers;
      },
      subst (λ (s : SlotsAt). shape.keeps cols start (look (shown s done)) ≡ true) (sym filled) (by_keys.keeps cols start at done q j row new t.1.walk leaf f.here.was like t.2),
    )
  where
    page : (p : PageId) → other p ≡ set_at at q (edited (at q) j (row_bytes new)) p
    page p = by (is_page q p) refl
      where
        by : (b : Bool) → is_page q p ≡ b → other p ≡ cond b (edited (at q) j (row_bytes new)) (at p)
        by true is = ap other (sym (is_page-true q p is)) ∙ filled_is j (row_bytes row) (row_bytes new) like.some like.size (at q) (other q) f.here
        by false is = f.rest p is

    twice : (done : List Visit) (k i : ℕ) (d : Visit) → k < length done → i < length done → i ≢ k → (get_or done k d).page ≡ q → (get_or done i d).page ≡ q → AllPairs (λ v w. v.page ≢ w.page) done → ⊥
    twice done k i d h l ne a b once = elim (cases_lt i k) [
      | inl lt ↦ once i k d lt h (b ∙ sym a)
      | inr ge ↦ once k i d (other_way ge) l (a ∙ sym b)
    ]
      where
        other_way : k ≤ i → k < i
        other_way ge = elim (cases_lt k i) [
          | inl lt ↦ lt
          | inr le ↦ absurd (ne (omega (arith, ge, le)))
        ]

-- A PLAN

-- the edit of the row gives way to that of the other
pub filled_in : (shape : Shape) (cols : List Column) (start : Visit) (claimed : ℕ → PageId) (n : ℕ) (at : SlotsAt) (owns : PageId → Bool) (before later : List Edit) (spot : Spot) (slot : ℕ) (row new : List Value) (rows : Rows) → KeepsByKeys shape → IsLike cols row new
    → AllPairs (IsOtherSlot claimed) (before ++ edit_at spot (slot, row_bytes row) ∷ later) → slot_at (at (place claimed spot)) slot ≢ row_bytes new
    → ((done : List Visit) → IsWalk shape.kids (after claimed at (before ++ edit_at spot (slot, row_bytes row) ∷ later)) start done [] → IsLeafOf done (place claimed spot))
    → Carries shape cols start claimed n at owns (before ++ edit_at spot (slot, row_bytes row) ∷ later) rows
    → Carries shape cols start claimed n at owns (before ++ edit_at spot (slot, row_bytes new) ∷ later) (finite.insert rows (key_of cols new) new)
filled_in shape cols start claimed n at owns before later spot slot row new rows by_keys like once changes leaf c =
    let q : PageId = place claimed spot in
    let x : List ℕ = row_bytes row in
    let y : List ℕ = row_bytes new in
    let e : Edit = edit_at spot (slot, row_bytes row) in
    let f : Edit = edit_at spot (slot, row_bytes new) in
    let mid : SlotsAt = after claimed at before in
    let parts = go_front claimed at before (edit_at spot (slot, row_bytes row) ∷ later) c.go in
    let apart = asides claimed before (edit_at spot (slot, row_bytes row)) later once in
    let made : IsFilled slot x y (edited (mid q) slot x) (edited (mid q) slot y) = filled_new slot x y like.some like.size (mid q) in
    let first : AreFilled (place claimed spot) slot (row_bytes row) (row_bytes new) (changed claimed mid e) (changed claimed mid f) =
    record {
      rest = λ p ne. ap (λ b. cond b (edited (mid q) slot y) (mid p)) ne ∙ sym (ap (λ b. cond b (edited (mid q) slot x) (mid p)) ne);
      here = subst (λ b. IsFilled slot x y (cond b (edited (mid q) slot x) (mid q)) (cond b (edited (mid q) slot y) (mid q))) (sym (is_page-same q)) made;
    } in
    let rest = later_filled claimed (place claimed spot) slot (row_bytes row) (row_bytes new) like.some like.size (changed claimed mid e) (changed claimed mid f) later first apart.1 parts.1.1 in
    let fits : Fits claimed mid f =
    record {
      index = parts.1.0.index;
      short = subst (λ k. k ≤ MAX_SLOT_BYTES) (sym like.size) parts.1.0.short;
      room = subst (λ k. k ≤ 8192) (sym (filled_used slot x y like.some like.size (edited (mid q) slot x) (edited (mid q) slot y) made)) parts.1.0.room;
      changes = λ is. changes (sym (slot_stays claimed q slot at before apart.0) ∙ is);
    } in
    let both : after claimed at (before ++ e ∷ later) ≡ after claimed (changed claimed mid e) later = after_both claimed at before (e ∷ later) in
    let t : HasRows shape cols (after claimed (changed claimed mid e) later) (also owns claimed n) start rows = subst (λ (s : SlotsAt). HasRows shape cols s (also owns claimed n) start rows) both c.table in
    let then : after claimed at (before ++ f ∷ later) ≡ after claimed (changed claimed mid f) later = after_both claimed at before (f ∷ later) in
    record {
      go = go_both claimed at before (f ∷ later) parts.0 (fits, rest.0);
      within = within_other claimed n owns before e f later refl c.within;
      table = subst (λ (s : SlotsAt). HasRows shape cols s (also owns claimed n) start (finite.insert rows (key_of cols new) new)) (sym then)
          (table_filled shape cols (after claimed (changed claimed mid e) later) (after claimed (changed claimed mid f) later) (also owns claimed n) start rows q slot row new by_keys like rest.1
          t (leaf t.0 (subst (λ (s : SlotsAt). IsWalk shape.kids s start t.0 []) (sym both) t.1.walk)));
    }

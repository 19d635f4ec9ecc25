-- Keys that were looked up so far, and the rows found for them.
use Rattle.std.proofs.Common.{◌≡◌, ◌<◌, ◌≤◌, ◌+◌, ◌||◌, ℕ, zero, suc, Bool, true, false, cond, List, [], ◌∷◌, ◌++◌, length, get_or, take, refl, ap, sym, ◌∙◌, subst, arith, None, Some, inl, inr}
use Rattle.std.specs.Prelude.{Option}
use Rattle.std.specs.FinMap as finite
use Rattle.std.specs.FinMap.{get-retain_keys}
use Rattle.std.specs.List.{list_any}
use Rattle.std.proofs.lemmas.List.{get_or_default, take_more, take_all}
use Rattle.std.proofs.lemmas.List.Folds.{list_any-append}
use Rattle.std.proofs.lemmas.Bool.{cases_lt}
use Rattle.page_base.specs.declared.column.Column.{Column}
use Rattle.page_base.specs.declared.numbers.PageId.{PageId}
use Rattle.page_fmt.specs.Seen.{SlotsAt, Looked, Shows, look}
use Rattle.plain_model.specs.Tables.{Rows}
use Rattle.table_walk.specs.declared.find.Find.TheVariants.{Keys}
use Rattle.table_walk.specs.declared.find.Wants.{Wants}
use Rattle.table_walk.specs.declared.find.Wants.TheVariants.{Page, Done}
use Rattle.table_walk.specs.declared.visit.Visit.{Visit}
use Rattle.table_walk.specs.declared.refusal.SeenRefusal.{SeenRefusal}
use Rattle.table_walk.specs.declared.refusal.SeenRefusal.TheVariants.{Damaged, Memory}
use Rattle.table_walk.specs.Answers.{IsAt, IsMemory, OfPage, IsNext, asks, asked}
use Rattle.table_walk.specs.Tables.{Gathers, AreRows, IsBadRow, cells}
use Rattle.table_walk.specs.Walk.{Kids, IsSeenWalk, IsBad}
use Rattle.table_walk.proofs.OrderLemmas.{keys_exact}
use Rattle.table_walk.proofs.RowsLemmas.{same_key, ties, get_put, get_none, rows_same}
use Rattle.tree_laws.specs.Keys.{Key, key_columns}
use Rattle.tree_laws.specs.Kids.{kids_by, tree_kids, first}
use Rattle.tree_laws.specs.LookUps.{IsLookedUp, AsksFor, TellsFor, IsBadFor, IsWalkFor, IsNoRowFor}
use Rattle.tree_laws.specs.Order.{RowsAt}
use Rattle.tree_laws.proofs.FindLemmas.{HasRowOf}
use Rattle.tree_laws.proofs.SeenLemmas.{next_owned, path_not_bad_at, path_row, path_no_bad_row_at}
use Rattle.key_tree.specs.Seek.{Seek}

-- the layout that looks for a key
pub kids_now : (cols : List Column) (t s : Seek) (key copy : Key) → t ≡ record { keys = s.keys; key = Some copy } → s.keys ≡ key_columns cols → copy ≡ key → kids_by t.keys t.key ≡ tree_kids cols (Some key)
kids_now cols t s key copy is keys same = ap (λ (x : Seek). kids_by x.keys x.key) is ∙ (λ i. kids_by (keys i) (Some (same i)))

pub keys_now : (cols : List Column) (t s : Seek) (copy : Key) → t ≡ record { keys = s.keys; key = Some copy } → s.keys ≡ key_columns cols → t.keys ≡ key_columns cols
keys_now cols t s copy is keys = ap (λ (x : Seek). x.keys) is ∙ keys

-- the layout over all pages
pub kids_all : (cols keys : List Column) (t : Seek) → t ≡ record { keys = keys; key = None } → keys ≡ key_columns cols → kids_by t.keys t.key ≡ tree_kids cols None
kids_all cols keys t is same = ap (λ (x : Seek). kids_by x.keys x.key) is ∙ ap (λ (ks : List Column). kids_by ks None) same

-- a fact on a walk by a layout that is this one, from a visit that is the root's
pub on_tree : (cols : List Column) (key : Option Key) (root : PageId) (kids : Kids) (start : Visit) (P : Kids → Visit → Type 0) → kids ≡ tree_kids cols key → start ≡ first root → P kids start → P (tree_kids cols key) (first root)
on_tree cols key root kids start P k s p = subst (λ (v : Visit). P (tree_kids cols key) v) s (subst (λ (x : Kids). P x start) k p)

pub from_tree : (cols : List Column) (key : Option Key) (root : PageId) (kids : Kids) (start : Visit) (P : Kids → Visit → Type 0) → kids ≡ tree_kids cols key → start ≡ first root → P (tree_kids cols key) (first root) → P kids start
from_tree cols key root kids start P k s p = subst (λ (x : Kids). P x start) (sym k) (subst (λ (v : Visit). P (tree_kids cols key) v) (sym s) p)

module _ (cols : List Column) (seen : List Looked) (root : PageId) where
  -- the first keys of a list were looked up
  abbrev pub LookedSoFar : List Key → ℕ → Type 0
  LookedSoFar keys i = (k : ℕ) (d : Key) → k < i → IsLookedUp cols seen root (get_or keys k d)

  pub looked_begin : (keys : List Key) → LookedSoFar keys 0
  looked_begin keys k d lt = absurd (omega (arith, lt))

  pub looked_more : (keys : List Key) (i : ℕ) (key : Key) → LookedSoFar keys i → i < length keys → key ≡ get_or keys i key → IsLookedUp cols seen root key → LookedSoFar keys (i + 1)
  looked_more keys i key so lt is here k d h = elim (cases_lt k i) [
    | inl less ↦ so k d less
    | inr ge ↦
        let same : k ≡ i = omega arith in
        subst (IsLookedUp cols seen root) (is ∙ get_or_default keys i key d lt ∙ ap (λ (n : ℕ). get_or keys n d) (sym same)) here
  ]

  -- the keys in front of one, and those behind it
  pub asks_for : (keys : List Key) (i : ℕ) (key : Key) (page : PageId) (rows : Bool) → LookedSoFar keys i → i < length keys → key ≡ get_or keys i key → IsNext (tree_kids cols (Some key)) seen (first root) page rows → AsksFor cols seen root keys page rows
  asks_for [] i key page rows so lt is next = absurd (omega (arith, lt))
  asks_for (k ∷ ks) zero key page rows so lt is next = record { before = []; key = key; later = ks; are = ap (λ (z : Key). z ∷ ks) (sym is); looked = λ j d h. absurd (omega (arith, h)); next = next }
  asks_for (k ∷ ks) (suc i) key page rows so lt is next =
      let a : AsksFor cols seen root ks page rows = asks_for ks i key page rows (λ j d h. so (suc j) d (omega (arith, h))) (omega (arith, lt)) is next in
      record { before = k ∷ a.before; key = a.key; later = a.later; are = ap (λ (l : List Key). k ∷ l) a.are; looked = also (so 0 k (omega arith)) a.before a.looked; next = a.next }
    where
      also : IsLookedUp cols seen root k → (before : List Key) → ((j : ℕ) (d : Key) → j < length before → IsLookedUp cols seen root (get_or before j d)) → (j : ℕ) (d : Key) → j < length (k ∷ before) → IsLookedUp cols seen root (get_or (k ∷ before) j d)
      also here before rest zero d h = here
      also here before rest (suc j) d h = rest j d (omega (arith, h))

  pub bad_for : (keys : List Key) (i : ℕ) (key : Key) → i < length keys → key ≡ get_or keys i key → (e : SeenRefusal) → IsAt (IsBad (tree_kids cols (Some key)) seen (first root)) e → IsAt (IsBadFor cols seen root (Keys keys)) e
  bad_for keys i key lt is (Damaged p slot) bad = (i, key, lt, sym is, bad)
  bad_for keys i key lt is Memory bad = tt

  pub no_row_for : (keys : List Key) (i : ℕ) (key : Key) → i < length keys → key ≡ get_or keys i key → (e : SeenRefusal) → IsAt (IsBadRow (tree_kids cols (Some key)) cols seen (first root)) e → IsAt (IsNoRowFor cols seen root (Keys keys)) e
  no_row_for keys i key lt is (Damaged p slot) bad = (bad.0, (i, key, lt, sym is, bad.1), bad.2)
  no_row_for keys i key lt is Memory bad = tt

  pub item_looked : (keys : List Key) (i : ℕ) (key : Key) → ((k : ℕ) (d : Key) → k < length keys → IsLookedUp cols seen root (get_or keys k d)) → i < length keys → key ≡ get_or keys i key → IsLookedUp cols seen root key
  item_looked keys i key all lt is = subst (IsLookedUp cols seen root) (sym is) (all i key lt)

  -- THE ROWS FOUND SO FAR

  pub record FoundSoFar (keys : List Key) (i : ℕ) (rows : Rows) : Type 0 where
    pub found : (at : SlotsAt) (owns : PageId → Bool) (all : Rows) → RowsAt cols at owns root all → Shows seen at → (q : Key) → finite.get rows q ≡ cond (list_any (same_key q) (take i keys)) (finite.get all q) None
    pub are : (k : ℕ) (d : Key) → k < i → (done : List Visit) → IsSeenWalk (tree_kids cols (Some (get_or keys k d))) seen (first root) done [] → AreRows cols (cells (look seen) done)

  pub found_begin : (keys : List Key) (rows : Rows) → rows ≡ finite.empty → FoundSoFar keys 0 rows
  found_begin keys rows e = record { found = λ at owns all t shows q. ap (λ (m : Rows). finite.get m q) e ∙ get_none q; are = λ k d lt. absurd (omega (arith, lt)) }

  -- one key more
  any_more : (keys : List Key) (i : ℕ) (key q : Key) → i < length keys → key ≡ get_or keys i key → list_any (same_key q) (take (i + 1) keys) ≡ (list_any (same_key q) (take i keys) || same_key q key)
  any_more keys i key q lt is =
      ap (list_any (same_key q)) (take_more keys i key lt ∙ ap (λ (x : Key). take i keys ++ x ∷ []) (sym is)) ∙ list_any-append (same_key q) (take i keys) (key ∷ [])
      ∙ ap (λ (b : Bool). list_any (same_key q) (take i keys) || b) (or_false (same_key q key))
    where
      or_false : (b : Bool) → (b || false) ≡ b
      or_false true = refl
      or_false false = refl

  is_more : (old s : Bool) (a o : Option Key) → (s ≡ true → o ≡ a) → cond s o (cond old a None) ≡ cond (old || s) a None
  is_more true true a o e = e refl
  is_more true false a o e = refl
  is_more false true a o e = e refl
  is_more false false a o e = refl

  -- what is put for a key
  abbrev pub with_found : Key → Option Key → Rows → Rows
  with_found key None rows = rows
  with_found key (Some row) rows = finite.insert rows key row

  get_found : (key : Key) (o : Option Key) (rows : Rows) (q : Key) (old : Bool) (a : Option Key) → finite.get rows q ≡ cond old a None → (same_key q key ≡ true → o ≡ a) → finite.get (with_found key o rows) q ≡ cond (same_key q key) o (cond old a None)
  get_found key (Some row) rows q old a e f = get_put rows key row q ∙ ap (cond (same_key q key) (Some row)) e
  get_found key None rows q old a e f = e ∙ by (same_key q key) f old
    where
      by : (s : Bool) → (s ≡ true → None ≡ a) → (old : Bool) → cond old a None ≡ cond s None (cond old a None)
      by false f old = refl
      by true f true = sym (f refl)
      by true f false = refl

  pub found_more : (keys : List Key) (i : ℕ) (key : Key) (o : Option Key) (rows more : Rows) → FoundSoFar keys i rows → i < length keys → key ≡ get_or keys i key → IsLookedUp cols seen root key
      → ((done : List Visit) (all : Rows) → IsSeenWalk (tree_kids cols (Some key)) seen (first root) done [] → Gathers cols (cells (look seen) done) all → o ≡ finite.get all key)
      → ((done : List Visit) → IsSeenWalk (tree_kids cols (Some key)) seen (first root) done [] → AreRows cols (cells (look seen) done))
      → more ≡ with_found key o rows → FoundSoFar keys (i + 1) more
  found_more keys i key o rows more s lt is looked row are put = record {
    found = λ at owns all t shows q.
        let p : HasRowOf cols at key (cells (look seen) looked.0) all = path_row cols at owns root all seen t shows key looked.0 looked.1 in
        let here : o ≡ finite.get all key = row looked.0 p.found looked.1 p.gathers ∙ p.same in
        let tied : same_key q key ≡ true → o ≡ finite.get all q = λ e. here ∙ ap (finite.get all) (sym (ties q key e)) in
        ap (λ (m : Rows). finite.get m q) put ∙ get_found key o rows q (list_any (same_key q) (take i keys)) (finite.get all q) (s.found at owns all t shows q) tied
        ∙ is_more (list_any (same_key q) (take i keys)) (same_key q key) (finite.get all q) o tied
        ∙ ap (λ (b : Bool). cond b (finite.get all q) None) (sym (any_more keys i key q lt is));
    are = λ k d h done w. elim (cases_lt k i) [
      | inl less ↦ s.are k d less done w
      | inr ge ↦
          let same : k ≡ i = omega arith in
          are done (subst (λ (x : Key). IsSeenWalk (tree_kids cols (Some x)) seen (first root) done []) (ap (λ (n : ℕ). get_or keys n d) same ∙ sym (is ∙ get_or_default keys i key d lt)) w)
    ];
  }

  pub found_all : (keys : List Key) (i : ℕ) (rows : Rows) → FoundSoFar keys i rows → length keys ≤ i → (at : SlotsAt) (owns : PageId → Bool) (all : Rows) → RowsAt cols at owns root all → Shows seen at → rows ≡ asked (Keys keys) all
  found_all keys i rows s le at owns all t shows = rows_same rows (asked (Keys keys) all) (λ q.
      s.found at owns all t shows q ∙ ap (λ (ks : List Key). cond (list_any (same_key q) ks) (finite.get all q) None) (take_all i keys le)
      ∙ sym (get-retain_keys all (asks (Keys keys)) q (λ x e. sym (ap (asks (Keys keys)) (keys_exact q x e)))))

  pub found_are : (keys : List Key) (i : ℕ) (rows : Rows) → FoundSoFar keys i rows → length keys ≤ i → (done : List Visit) → IsWalkFor cols seen root (Keys keys) done → AreRows cols (cells (look seen) done)
  found_are keys i rows s le done w =
      s.are w.0 w.1 (omega (arith, w.2)) done (subst (λ (x : Key). IsSeenWalk (tree_kids cols (Some x)) seen (first root) done []) (sym w.3) w.4)

  -- OVER A TABLE

  module _ (at : SlotsAt) (owns : PageId → Bool) (rows : Rows) (t : RowsAt cols at owns root rows) (shows : Shows seen at) where
    pub keys_owned : (keys : List Key) (w : Wants) → TellsFor cols seen root (Keys keys) w → OfPage (λ p. owns p ≡ true) w
    keys_owned keys (Page page leaf) a = subst (λ (p : PageId). owns p ≡ true) a.next.is (next_owned cols at owns root rows seen t shows a.key a.next.visit a.next.lacks)
    keys_owned keys Done a = tt

    pub keys_not_bad : (keys : List Key) (e : SeenRefusal) → IsAt (IsBadFor cols seen root (Keys keys)) e → IsMemory e
    keys_not_bad keys (Damaged p slot) bad = path_not_bad_at cols at owns root rows seen t shows bad.1 (Damaged p slot) bad.4
    keys_not_bad keys Memory bad = tt

    pub keys_no_bad_row : (keys : List Key) (e : SeenRefusal) → IsAt (IsNoRowFor cols seen root (Keys keys)) e → IsMemory e
    keys_no_bad_row keys (Damaged p slot) bad = path_no_bad_row_at cols at owns root rows seen t shows bad.1.1 (Damaged p slot) (bad.0, bad.1.4, bad.2)
    keys_no_bad_row keys Memory bad = tt

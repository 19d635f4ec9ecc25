-- Typed pages that are sound: each is of its level and has room, least keys are such as may stand, and so below.
use Rattle.std.proofs.Common.{Bool, ◌≡◌, ◌≢◌, ◌≤◌, ◌+◌, ℕ, zero, suc, false, List, [], ◌∷◌, ◌++◌, length, subst, ◌<◌}
use Rattle.std.specs.Prelude.{Option, Some}
use Rattle.std.specs.List.{flat_map}
use Rattle.page_base.specs.declared.column.Column.{Column}
use Rattle.page_base.specs.declared.numbers.PageId.{PageId}
use Rattle.page_base.specs.declared.value.Value.{Value}
use Rattle.plain_model.specs.Tables.{Rows as Map, key_of}
use Rattle.row_fmt.specs.Rows.{row_bytes}
use Rattle.table_walk.specs.Addresses.{IsTarget}
use Rattle.table_walk.specs.Leaves.{ByKeys}
use Rattle.table_walk.proofs.LeafLemmas.{is_there}
use Rattle.std.specs.FinMap as finite
use Rattle.tree_laws.specs.Keys.{Key}
use Rattle.tree_laws.specs.Order.{Mark}
use Rattle.tree_laws.specs.Order.Mark.{Row}
use Rattle.tree_laws.specs.Puts.{row_size}
use Rattle.tree_laws.specs.Sheets.{Entry, Sheet, Stand, Grown, spelled_key}
use Rattle.tree_laws.specs.Trees.{entries_at, marks_of, inside, rows_of, pages_of}
pub use Rattle.tree_laws.specs.Typed.{HasLeast, ArePart, HasSome, LeastIs, IsEntry, IsNode, IsLeaf, IsSound, Via, OnPath}
use Rattle.tree_laws.proofs.HandOut.{claimed_from}
use Rattle.tree_laws.proofs.Lists.{Each, Precedes, Ascend}
use Rattle.tree_laws.proofs.Times.{times, AgreeOn, agree-left, agree-right, times_here, Below}

-- what rows that may stand, and keys that may, have
pub record AreRules (cols : List Column) (P : List Value → Type 0) (K : Key → Type 0) : Type 0 where
  pub small : (row : List Value) → P row → row_size row ≤ 8096
  pub some : (row : List Value) → P row → row_bytes row ≢ []
  pub key : (row : List Value) → P row → K (key_of cols row)
  pub short : (k : Key) → K k → length (spelled_key (Some k)) ≤ 900

module _ (P : List Value → Type 0) (K : Key → Type 0) (R : PageId → Bool) where
  sound_many : (s t : PageId → Sheet) (n : ℕ) (es : List Entry) → AgreeOn s t (flat_map (λ e. pages_of s n e.page) es) → ((least : Option Key) (p : PageId) → AgreeOn s t (pages_of s n p) → IsSound P K R s n least p → IsSound P K R t n least p)
      → Each (λ e. IsSound P K R s n e.least e.page) es → Each (λ e. IsSound P K R t n e.least e.page) es
  sound_many s t n [] a f h = tt
  sound_many s t n (e ∷ es) a f h =
      (f e.least e.page (agree-left s t (pages_of s n e.page) (flat_map (λ e. pages_of s n e.page) es) a) h.0, sound_many s t n es (agree-right s t (pages_of s n e.page) (flat_map (λ e. pages_of s n e.page) es) a) f h.1)

  pub sound-same : (s t : PageId → Sheet) (n : ℕ) (least : Option Key) (p : PageId) → AgreeOn s t (pages_of s n p) → IsSound P K R s n least p → IsSound P K R t n least p
  sound-same s t zero least p a h = subst (IsLeaf P (R p)) (a p (times_here p [])) h
  sound-same s t (suc n) least p a h =
      let here : s p ≡ t p = a p (times_here p (Below s n (entries_at s p))) in
      subst (λ (x : Sheet). IsNode K (R p) n least x (λ e. IsSound P K R t n e.least e.page)) here
      (h.0, h.1, h.2, h.3, h.4, sound_many s t n (entries_at s p) (agree-right s t (p ∷ []) (Below s n (entries_at s p)) a) (sound-same s t n) h.5)

  pub sounds-same : (s t : PageId → Sheet) (n : ℕ) (es : List Entry) → AgreeOn s t (Below s n es) → Each (λ e. IsSound P K R s n e.least e.page) es → Each (λ e. IsSound P K R t n e.least e.page) es
  sounds-same s t n es a h = sound_many s t n es a (sound-same s t n) h

  -- WHAT PLACING ONE ROW MAKES OF A PAGE

  pub record IsFree (claimed : ℕ → PageId) (a r : ℕ) (ps : List PageId) : Type 0 where
    pub once : (q : PageId) → times q ps + times q (claimed_from claimed a r) ≤ 1
    pub targets : (i : ℕ) → a ≤ i → i < a + r → IsTarget (claimed i)

  -- a page of this level and the new pages beside it, once a row was put below the page
  pub record IsGrown (cols : List Column) (claimed : ℕ → PageId) (row : List Value) (n : ℕ) (s : Stand) (least : Option Key) (p : PageId) (g : Grown) : Type 0 where
    pub used : ℕ
    pub claims : g.stand.claims ≡ s.claims + used
    pub few : length g.more ≤ 2
    pub sound : IsSound P K R g.stand.sheets n least p
    pub new : Each (λ e. IsEntry K e × HasLeast e × IsSound P K R g.stand.sheets n e.least e.page) g.more
    pub order : (xs ys : List Mark) → Ascend (xs ++ (inside cols s.sheets n p ++ ys)) → Each (λ m. Precedes m (Row (key_of cols row))) xs → Each (Precedes (Row (key_of cols row))) ys
        → Ascend (xs ++ ((inside cols g.stand.sheets n p ++ flat_map (marks_of (inside cols g.stand.sheets n)) g.more) ++ ys))
    pub rows : (cs ds : List (List Value)) (m : Map) → ByKeys cols (cs ++ (rows_of cols s.sheets n p ++ ds)) m → is_there cols (key_of cols row) cs ≡ false → is_there cols (key_of cols row) ds ≡ false
        → ByKeys cols (cs ++ ((rows_of cols g.stand.sheets n p ++ flat_map (λ e. rows_of cols g.stand.sheets n e.page) g.more) ++ ds)) (finite.insert m (key_of cols row) row)
    pub pages : (q : PageId) → times q (pages_of g.stand.sheets n p) + times q (Below g.stand.sheets n g.more) ≡ times q (pages_of s.sheets n p) + times q (claimed_from claimed s.claims used)
    pub others : (q : PageId) → times q (pages_of s.sheets n p) ≡ 0 → times q (claimed_from claimed s.claims used) ≡ 0 → g.stand.sheets q ≡ s.sheets q

-- Drafted pages that show what becomes of a tree give a plan of it.
use Rattle.std.proofs.Common.{◌≡◌, ◌≢◌, ◌≤◌, ◌<◌, ◌-◌, ℕ, zero, suc, Bool, true, false, cond, List, [], ◌∷◌, ◌++◌, length, get_or, refl, ap, sym, ◌∙◌, subst, arith, drop, inl, inr, ◌⊎◌, length-append}
use Rattle.std.specs.Prelude.{Option, Some, All}
use Rattle.page_base.specs.declared.column.Column.{Column}
use Rattle.page_base.specs.declared.numbers.PageId.{PageId}
use Rattle.page_base.specs.declared.value.Value.{Value}
use Rattle.page_base.specs.Pages.{is_page, set_at}
use Rattle.page_fmt.proofs.SeenLemmas.{is_page-true, is_page-same, is_page-other}
use Rattle.page_fmt.specs.Edits.{slot_at}
use Rattle.page_fmt.specs.Seen.{SlotsAt, Looked}
use Rattle.plain_model.specs.Tables.{Rows as Map}
use Rattle.page_draft.specs.Drafts.{Drafted, slots_of, cell_of, cell_at, old_of, edits_in}
use Rattle.page_draft.specs.Made.{HaveRoom, AreOthers, Stand, drawn, Make, SpeaksBelow}
use Rattle.page_draft.proofs.MadeLemmas.{all_made, all_below}
use Rattle.table_walk.specs.declared.plan.Spot.{Spot}
use Rattle.table_walk.specs.declared.plan.Spot.TheVariants.{Old, New}
use Rattle.table_walk.specs.Addresses.{address}
use Rattle.table_walk.specs.Plans.{place, named, after, also, cut_all, put_all}
use Rattle.table_walk.specs.Tables.{MayPut}
use Rattle.table_walk.proofs.AddressLemmas.{address_length, page_at-address}
use Rattle.tree_laws.specs.Keys.{Key, key_columns}
use Rattle.tree_laws.specs.Order.{RowsAt}
use Rattle.tree_laws.specs.Puts.{placed}
use Rattle.tree_laws.specs.Reads.{HasKey, Reads, AreRead, IsTree}
use Rattle.tree_laws.specs.Sheets.{Sheet, slots_in, entries_in}
use Rattle.tree_laws.specs.Sheets.Sheet.{Inner}
use Rattle.tree_laws.specs.Trees.{Each}
use Rattle.tree_laws.specs.Puts.{level_in}
use Rattle.tree_laws.proofs.Looked.{stays_looked, looked_tree, page_seen}
use Rattle.tree_laws.proofs.TableTrees.{IsTypedTable, table_typed, typed_table}
use Rattle.tree_plans.specs.Drawn.{MayName, IsOwned, IsShown, AreApart, IsDrawn, Draws}
use Rattle.tree_plans.specs.Planning.{IsWorld, IsTyped, Promises}
use Rattle.tree_plans.proofs.Closed.{names_owned, not_named}

abbrev Slots : Type 0
Slots = List (List ℕ)

-- PAGES THAT ARE DRAWN

module _ (claimed : ℕ → PageId) where
  drawn_other : (ds : List Drafted) (at : SlotsAt) (q : PageId) → AreOthers claimed q ds → drawn claimed ds at q ≡ at q
  drawn_other [] at q o = refl
  drawn_other (d ∷ ds) at q o =
      drawn_other ds (set_at at (place claimed d.spot) (slots_of claimed d.cells)) q o.1 ∙ ap (λ (b : Bool). cond b (slots_of claimed d.cells) (at q)) (is_page-other (place claimed d.spot) q (λ e. o.0 (sym e)))

  -- a page is drafted, and drawn so, or none of these
  pub record IsOne (P : Drafted → Type 0) (ds : List Drafted) (at : SlotsAt) (q : PageId) : Type 0 where
    pub one : Drafted
    pub has : P one
    pub page : place claimed one.spot ≡ q
    pub slots : drawn claimed ds at q ≡ slots_of claimed one.cells

  find : (P : Drafted → Type 0) (ds : List Drafted) (at : SlotsAt) (q : PageId) → AreApart claimed ds → Each P ds → AreOthers claimed q ds ⊎ IsOne P ds at q
  find P [] at q a h = inl tt
  find P (d ∷ ds) at q a h = by (is_page (place claimed d.spot) q) refl (find P ds (set_at at (place claimed d.spot) (slots_of claimed d.cells)) q a.1 h.1)
    where
      by : (b : Bool) → is_page (place claimed d.spot) q ≡ b → AreOthers claimed q ds ⊎ IsOne P ds (set_at at (place claimed d.spot) (slots_of claimed d.cells)) q → AreOthers claimed q (d ∷ ds) ⊎ IsOne P (d ∷ ds) at q
      by true e rest =
          let same : place claimed d.spot ≡ q = is_page-true (place claimed d.spot) q e in
          inr (record {
            one = d;
            has = h.0;
            page = same;
            slots = drawn_other ds (set_at at (place claimed d.spot) (slots_of claimed d.cells)) q (subst (λ (r : PageId). AreOthers claimed r ds) same a.0) ∙ ap (λ (b : Bool). cond b (slots_of claimed d.cells) (at q)) e;
          })
      by false e (inl o) = inl ((λ same. let w : true ≡ false = sym (ap (λ (r : PageId). is_page r q) (sym same) ∙ is_page-same q) ∙ e in cc), o)
      by false e (inr x) = inr (record { one = x.one; has = x.has; page = x.page; slots = x.slots })

-- ONE WORLD

module _ (cols : List Column) (seen : List Looked) (root : PageId) (cut : List Key) (put : List (List Value)) (n : ℕ) (ds : List Drafted) (has : HasKey cols) (may : All (MayPut cols) put) (room : HaveRoom seen ds)
    (at : SlotsAt) (owns : PageId → Bool) (rows : Map) (claimed : ℕ → PageId) (sheets : PageId → Sheet) (w : IsWorld cols seen root n at owns rows claimed) (t : IsTyped cols root at owns rows sheets) (x : IsDrawn cols seen root cut put n ds at owns claimed sheets) where
  abbrev Later : PageId → Sheet
  Later = (placed cols claimed root cut put sheets).sheets

  -- no slot holds already the address of a page that is claimed
  not_there : (d : Drafted) → IsShown claimed n at owns seen x.looked sheets Later d → (i j : ℕ) → (cell_at d.cells i).names ≡ Some j → slot_at (old_of seen d.spot) i ≢ cell_of claimed (cell_at d.cells i)
  not_there d s i j e same =
      let m = s.names i j e in
      let there : get_or (at (place claimed d.spot)) i [] ≡ address (claimed j) ++ (cell_at d.cells i).bytes = ap (λ (l : Slots). get_or l i []) s.were ∙ same ∙ ap (λ (o : Option ℕ). named claimed o ++ (cell_at d.cells i).bytes) e in
      by d.spot m.1 s.owned there
    where
      by : (spot : Spot) → MayName i spot (sheets (place claimed spot)) → IsOwned owns n spot → get_or (at (place claimed spot)) i [] ≡ address (claimed j) ++ (cell_at d.cells i).bytes → ⊥
      by (New k) m o there =
          let none : [] ≡ address (claimed j) ++ (cell_at d.cells i).bytes = ap (λ (l : Slots). get_or l i []) (sym (w.free.blank k o)) ∙ there in
          absurd (omega (arith, ap length none, length-append (address (claimed j)) (cell_at d.cells i).bytes, address_length (claimed j)))
      by (Old p) m o there =
          let reads : Reads cols (at p) (Inner (level_in (sheets p)) (entries_in (sheets p))) = subst (Reads cols (at p)) m.1 (t.read p o) in
          let lt : j < n = (s.names i j e).0 in
          let behind : get_or (at p) i [] ≡ get_or (drop 1 (at p)) (i - 1) [] = behind_first (at p) i m.0 in
          not_named (key_columns cols) owns (claimed j) (cell_at d.cells i).bytes (w.free.unowned j lt) (page_at-address (claimed j) (w.free.targets j lt)) (drop 1 (at p)) (entries_in (sheets p)) (i - 1) reads.1
          (names_owned cols (λ q. false) sheets root owns rows p t.tree o) (sym behind ∙ there)
        where
          behind_first : (l : Slots) (i : ℕ) → 1 ≤ i → get_or l i [] ≡ get_or (drop 1 l) (i - 1) []
          behind_first [] i h = refl
          behind_first (y ∷ ys) zero h = absurd (omega (arith, h))
          behind_first (y ∷ ys) (suc i) h = let k : suc i - 1 ≡ i = omega arith in ap (λ (m : ℕ). get_or ys m []) (sym k)

  stand : (es : List Drafted) → Each (IsShown claimed n at owns seen x.looked sheets Later) es → AreApart claimed es → Stand claimed n at owns seen es
  stand [] h a = tt
  stand (d ∷ es) h a = (record { were = h.0.were; within = h.0.within; names = not_there d h.0 }, a.0, stand es h.1 a.1)

  make : Make claimed n at owns ds (edits_in seen ds)
  make = all_made claimed n owns seen at ds room (stand ds x.shown x.apart)

  few : (placed cols claimed root cut put sheets).claims ≤ n
  few = omega (arith, x.claims)

  after_tree : IsTree cols x.looked Later root (also owns claimed n) (put_all cols put (cut_all cut rows))
  after_tree =
      subst (λ (k : ℕ). IsTree cols x.looked (placed cols claimed root cut put sheets).sheets root (also owns claimed k) (put_all cols put (cut_all cut rows))) x.claims
      (stays_looked cols has x.looked claimed n at owns root sheets rows cut put w.free may (looked_tree cols x.looked sheets root owns rows x.room t.tree) x.cuts x.puts few)

  after_read : AreRead cols (after claimed at (edits_in seen ds)) (also owns claimed n) Later
  after_read q own =
      let made : after claimed at (edits_in seen ds) q ≡ drawn claimed ds at q = ap (λ (s : SlotsAt). s q) make.made in
      elim (find claimed (IsShown claimed n at owns seen x.looked sheets Later) ds at q x.apart x.shown) as (λ _. Reads cols (after claimed at (edits_in seen ds) q) (Later q)) [
        | inl o ↦
            let other = x.others q own o in
            subst (λ (y : Sheet). Reads cols (after claimed at (edits_in seen ds) q) y) (sym other.1)
            (subst (λ (l : Slots). Reads cols l (sheets q)) (sym (made ∙ drawn_other claimed ds at q o)) (t.read q other.0))
        | inr d ↦
            let is : slots_in (Later q) ≡ after claimed at (edits_in seen ds) q = sym (made ∙ d.slots ∙ d.has.slots ∙ ap (λ (r : PageId). slots_in (Later r)) d.page) in
            let look : x.looked q ≡ true = ap x.looked (sym d.page) ∙ d.has.looks in
            let small : level_in (Later q) < 4294967296 = subst (λ (r : PageId). level_in (Later r) < 4294967296) d.page d.has.level in
            subst (λ (l : Slots). Reads cols l (Later q)) is (page_seen cols x.looked Later root (also owns claimed n) (put_all cols put (cut_all cut rows)) q after_tree look own small).0
      ]

  pub table_after : RowsAt cols (after claimed at (edits_in seen ds)) (also owns claimed n) root (put_all cols put (cut_all cut rows))
  table_after = typed_table cols (after claimed at (edits_in seen ds)) (also owns claimed n) root (put_all cols put (cut_all cut rows)) x.looked Later after_tree after_read

  pub is_made : Make claimed n at owns ds (edits_in seen ds)
  is_made = make

  pub is_read : AreRead cols (after claimed at (edits_in seen ds)) (also owns claimed n) (placed cols claimed root cut put sheets).sheets
  is_read = after_read

pub promised : (cols : List Column) (seen : List Looked) (root : PageId) (cut : List Key) (put : List (List Value)) (n : ℕ) (ds : List Drafted) → HasKey cols → All (MayPut cols) put → HaveRoom seen ds → All (SpeaksBelow n) ds → Draws cols seen root cut put n ds
    → Promises cols seen root cut put n (edits_in seen ds)
promised cols seen root cut put n ds has may room below draws = record {
  carries = λ at owns rows claimed w.
      let y : IsTypedTable cols at owns root rows = table_typed cols at owns root rows w.table in
      let t : IsTyped cols root at owns rows y.pages = record { read = y.read; tree = y.tree } in
      let x = draws at owns rows claimed y.pages w t in
      let m = is_made cols seen root cut put n ds has may room at owns rows claimed y.pages w t x in
      record { go = m.go; within = m.within; table = table_after cols seen root cut put n ds has may room at owns rows claimed y.pages w t x };
  places = λ at owns rows claimed sheets w t. is_read cols seen root cut put n ds has may room at owns rows claimed sheets w t (draws at owns rows claimed sheets w t);
  claims = λ at owns rows claimed sheets w t. (draws at owns rows claimed sheets w t).claims;
  once = λ at owns rows claimed w.
      let y : IsTypedTable cols at owns root rows = table_typed cols at owns root rows w.table in
      let t : IsTyped cols root at owns rows y.pages = record { read = y.read; tree = y.tree } in
      (is_made cols seen root cut put n ds has may room at owns rows claimed y.pages w t (draws at owns rows claimed y.pages w t)).once;
  numbers = all_below n seen ds below;
}

-- A reader of a snapshot goes over its pages.
use Rattle.std.proofs.Common.{◌≡◌, ◌≢◌, ◌+◌, ◌-◌, ◌<◌, ◌≤◌, ℕ, get_or, Bool, true, false, cond, List, [], refl, ap, sym, ◌∙◌, subst}
use Rattle.std.specs.Prelude.{◌↔◌}
use Rattle.std.specs.Str.{bytes_eq}
use Rattle.page_base.specs.declared.numbers.PageId.{PageId}
use Rattle.page_base.specs.declared.numbers.SnapNo.{SnapNo}
use Rattle.page_fmt.specs.Content.{content, IsPage}
use Rattle.page_fmt.specs.Edits.{slot_at}
use Rattle.std.specs.Prelude.{Some}
use Rattle.plain_model.specs.declared.stmt.Stmt.{Stmt}
use Rattle.plain_model.specs.Tables.{Table, Tables}
use Rattle.plain_model.specs.Messages.{plain}
use Rattle.plain_model.specs.declared.reply.Reply.{Reply}
use Rattle.plain_model.specs.declared.reply.Reply.TheVariants.{Msg}
use Rattle.plain_model.specs.declared.reply.TheConstants.Message.{NO_TABLE}
use Rattle.early_pages.specs.declared.state.Place.{Place}
use Rattle.early_pages.specs.declared.state.Place.TheVariants.{Sparse, Through}
use Rattle.early_pages.specs.Sparse as sparse
use Rattle.early_pages.specs.Sparse.{is_copied}
use Rattle.early_pages.specs.Shown.{Shown}
use Rattle.early_pages.specs.Slots.{slots_of}
use Rattle.early_pages.specs.Views.{seen, view, IsKept}
use Rattle.table_pages.specs.Layout.{place, Passed}
use Rattle.table_pages.specs.Carried.{data_pages, Holds}
use Rattle.table_pages.proofs.CallerLemmas.{passed_more, passed_all, passed_to_blank, found_named}
use Rattle.early_engine.specs.Pushing.{Pushes}
use Rattle.early_engine.specs.Safe.{AreTables}
use Rattle.early_engine.specs.Seeing.{Shows, IsSelect, replied, selected}
use Rattle.early_engine.proofs.SelectLemmas.{select_nothing}
use Rattle.early_engine.specs.declared.seeing.Glance.TheVariants.{Blank, Named, Other, Damaged}

not_copied : (b : Bool) (r : Place) → r ≡ Through → (r ≡ Sparse ↔ (b ≡ true)) → b ≡ false
not_copied true r e h = absurd (let x : Through ≡ Sparse = sym e ∙ h.1 refl in cc)
not_copied false r e h = refl

-- a page that isn't copied is seen through to the source
pub seen_through : (images : PageId → List ℕ) (x : sparse.Sparse) (p : PageId) (r : Place) → r ≡ Through → (r ≡ Sparse ↔ (is_copied x p ≡ true)) → seen images x p ≡ images p
unfolding seen
seen_through images x p r e h = ap (λ b. cond b (sparse.sparse_page x p) (images p)) (not_copied (is_copied x p) r e h)

pub pages_same : (old new : Shown) → Pushes old new → data_pages new ≡ data_pages old
pages_same old new p = ap (λ (cs : List ℕ). get_or cs 0 0 - 1) p.counts

module _ (v w : Shown) (s : SnapNo) (i : ℕ) (name image : List ℕ) (pushes : Pushes v w) (passed : IsKept v s → Passed (slots_of (view v s)) i name) (kept : IsKept w s) where
  still : Passed (slots_of (view w s)) i name
  still = let k = pushes.views.each s kept in subst (λ (f : PageId → List ℕ). Passed (slots_of f) i name) (sym k.1) (passed k.0)

  module _ (read : image ≡ view w s (place i)) where
    -- a page of another table is passed
    pub passes_other : Shows image name Other → Passed (slots_of (view w s)) (i + 1) name
    passes_other shows = passed_more (slots_of (view w s)) i name still (record {
      full = subst (λ (x : List ℕ). slot_at (content x) 0 ≢ []) read shows.0;
      other = subst (λ (x : List ℕ). (held : List ℕ) (t : Table) → Holds x held t → bytes_eq held name ≡ false) read shows.1;
    })

    module _ (tables : Tables) (n : ℕ) (n_is : n ≡ data_pages w) (are : AreTables (data_pages w) (view w s) tables) (lt : i < n) where
      below : i < data_pages w
      below = subst (λ m. i < m) n_is lt

      -- a blank page ends the search
      pub blank_ends : (stmt : Stmt) → IsSelect stmt name → Shows image name Blank → Msg (plain NO_TABLE) ≡ selected stmt name tables
      blank_ends stmt select shows =
          let none = passed_to_blank (data_pages w) (slots_of (view w s)) tables are.says i name below are.packed (subst (λ (x : List ℕ). slot_at (content x) 0 ≡ []) read shows) still in
          select_nothing stmt name select ∙ sym (ap (replied stmt) none)

      -- the table's own page
      pub named_ends : (stmt : Stmt) (reply : Reply) → Shows image name Named → ((held : List ℕ) (t : Table) → Holds image held t → reply ≡ replied stmt (Some t)) → reply ≡ selected stmt name tables
      named_ends stmt reply shows rows =
          let full = subst (λ (x : List ℕ). slot_at (content x) 0 ≢ []) read shows.1 in
          let test = subst (λ (x : List ℕ). (held : List ℕ) (t : Table) → Holds x held t → bytes_eq held name ≡ true) read shows.2 in
          let f = found_named (data_pages w) (slots_of (view w s)) tables are.says i name below full test in
          rows name f.0 (subst (λ (x : List ℕ). Holds x name f.0) (sym read) f.1) ∙ sym (ap (replied stmt) f.2)

      pub damaged_never : (at : ℕ) → Shows image name (Damaged at) → ⊥
      damaged_never at shows = shows (subst IsPage (sym read) (are.pages (place i)))

-- all pages were passed
pub all_end : (stmt : Stmt) (w : Shown) (s : SnapNo) (i : ℕ) (name : List ℕ) (tables : Tables) → IsSelect stmt name → AreTables (data_pages w) (view w s) tables → data_pages w ≤ i → Passed (slots_of (view w s)) i name → Msg (plain NO_TABLE) ≡ selected stmt name tables
all_end stmt w s i name tables select are le passed = select_nothing stmt name select ∙ sym (ap (replied stmt) (passed_all (data_pages w) (slots_of (view w s)) tables are.says i name le passed))

-- What a plan promises depends on the table's own pages alone, and is kept edit by edit.
use Rattle.std.proofs.Common.{◌≡◌, ◌≢◌, ℕ, ◌≤◌, Bool, true, false, cond, List, [], ◌∷◌, ap, subst}
use Rattle.page_base.specs.declared.column.Column.{Column}
use Rattle.page_base.specs.declared.numbers.PageId.{PageId}
use Rattle.page_base.specs.Pages.{is_page}
use Rattle.page_fmt.specs.Edits.{edited, slot_at}
use Rattle.page_fmt.specs.Seen.{SlotsAt}
use Rattle.page_fmt.specs.Spelling.{used}
use Rattle.plain_model.specs.Tables.{Rows}
use Rattle.table_walk.specs.declared.plan.Edit.{Edit}
use Rattle.table_walk.specs.declared.visit.Visit.{Visit}
use Rattle.table_walk.specs.Tables.{Shape}
use Rattle.table_walk.specs.Plans.{place, bytes_of, slots_after, changed, after, Fits, Go, also, AreWithin, Carries}
use Rattle.table_walk.proofs.TableLemmas.{table_same}

-- two states that agree on some pages
abbrev pub Agree : (PageId → Bool) → SlotsAt → SlotsAt → Type 0
Agree owns at other = (p : PageId) → owns p ≡ true → at p ≡ other p

module _ (claimed : ℕ → PageId) (n : ℕ) (owns : PageId → Bool) where
  agree_changed : (at other : SlotsAt) (e : Edit) → Agree (also owns claimed n) at other → also owns claimed n (place claimed e.spot) ≡ true → Agree (also owns claimed n) (changed claimed at e) (changed claimed other e)
  agree_changed at other e same within p own = by (is_page (place claimed e.spot) p)
    where
      by : (b : Bool) → cond b (slots_after claimed at e) (at p) ≡ cond b (slots_after claimed other e) (other p)
      by true = ap (λ s. edited s e.slot (bytes_of claimed e)) (same (place claimed e.spot) within)
      by false = same p own

  fits_same : (at other : SlotsAt) (e : Edit) → at (place claimed e.spot) ≡ other (place claimed e.spot) → Fits claimed at e → Fits claimed other e
  fits_same at other e same f = record {
    index = f.index;
    short = f.short;
    room = subst (λ s. used (edited s e.slot (bytes_of claimed e)) ≤ 8192) same f.room;
    changes = subst (λ s. slot_at s e.slot ≢ bytes_of claimed e) same f.changes;
  }

  go_same : (at other : SlotsAt) (es : List Edit) → Agree (also owns claimed n) at other → AreWithin claimed n owns es → Go claimed at es → Go claimed other es
  go_same at other [] same within go = tt
  go_same at other (e ∷ es) same within go =
      (fits_same at other e (same (place claimed e.spot) within.0) go.0, go_same (changed claimed at e) (changed claimed other e) es (agree_changed at other e same within.0) within.1 go.1)

  after_same : (at other : SlotsAt) (es : List Edit) → Agree (also owns claimed n) at other → AreWithin claimed n owns es → Agree (also owns claimed n) (after claimed at es) (after claimed other es)
  after_same at other [] same within = same
  after_same at other (e ∷ es) same within = after_same (changed claimed at e) (changed claimed other e) es (agree_changed at other e same within.0) within.1

pub carries_same : (shape : Shape) (cols : List Column) (start : Visit) (claimed : ℕ → PageId) (n : ℕ) (at other : SlotsAt) (owns : PageId → Bool) (edits : List Edit) (rows : Rows) → ((p : PageId) → also owns claimed n p ≡ true → at p ≡ other p)
    → Carries shape cols start claimed n at owns edits rows → Carries shape cols start claimed n other owns edits rows
carries_same shape cols start claimed n at other owns edits rows same c = record {
  go = go_same claimed n owns at other edits same c.within c.go;
  within = c.within;
  table = table_same shape cols (after claimed at edits) (after claimed other edits) (also owns claimed n) start rows (after_same claimed n owns at other edits same c.within) c.table;
}

pub carries_on : (shape : Shape) (cols : List Column) (start : Visit) (claimed : ℕ → PageId) (n : ℕ) (at : SlotsAt) (owns : PageId → Bool) (e : Edit) (edits : List Edit) (rows : Rows) → Carries shape cols start claimed n at owns (e ∷ edits) rows
    → Carries shape cols start claimed n (changed claimed at e) owns edits rows
carries_on shape cols start claimed n at owns e edits rows c = record { go = c.go.1; within = c.within.1; table = c.table }

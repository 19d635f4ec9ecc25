-- What stays of records, of allocation pages and of a page's room once the last record is taken back.
use Rattle.std.proofs.Common.{◌≡◌, ℕ, zero, suc, ◌+◌, ◌%◌, ◌<◌, ◌≤◌, List, [], ◌∷◌, ◌++◌, length, get_or, refl, ap, subst, ◌∙◌, inl, inr, arith}
use Rattle.std.proofs.lemmas.Bool.{cases_lt}
use Rattle.std.proofs.lemmas.List.{get_or_past}
use Rattle.page_base.specs.Slots.{Slots, with_slot}
use Rattle.page_fmt.specs.Edits.{set_slot, edited, slot_at}
use Rattle.page_fmt.specs.Spelling.{row_bytes, used, LastIsFull}
use Rattle.page_fmt.proofs.CallerLemmas.{edited-same}
use Rattle.rec_log.specs.Records.{Record}
use Rattle.rec_log.proofs.UndoneLemmas.{undone-append}
use Rattle.page_tables.specs.Mine.{AreSpread}
use Rattle.page_tables.specs.Sheets.{sheets}
use Rattle.open_tables.specs.Back.{FitsBack}
use Rattle.step_state.specs.Told.{AreSized, GoBack, SpreadBack}

pub go_popped : (rs : List Record) (s : Slots) (r : Record) → GoBack (rs ++ r ∷ []) s → GoBack rs (with_slot s r.page r.slot r.before) × (s r.page r.slot ≡ r.after) × FitsBack s r
go_popped [] s r b = (tt, b.1, b.2)
go_popped (x ∷ rs) s r b =
    let p = go_popped rs s r b.0 in
    let its = subst (λ (t : Slots). (t x.page x.slot ≡ x.after) × FitsBack t x) (undone-append rs (r ∷ []) s) (b.1, b.2) in
    ((p.0, its.0, its.1), p.1, p.2)

pub spread_popped : (files : List ℕ) (rs : List Record) (s : Slots) (r : Record) → SpreadBack files (rs ++ r ∷ []) s → SpreadBack files rs (with_slot s r.page r.slot r.before)
spread_popped files [] s r b = b.1
spread_popped files (x ∷ rs) s r b = (spread_popped files rs s r b.0, subst (λ (t : Slots). AreSpread files (sheets t)) (undone-append (x ∷ rs) (r ∷ []) s) b.1)

pub spread_at : (files : List ℕ) (rs : List Record) (s : Slots) → SpreadBack files rs s → AreSpread files (sheets s)
spread_at files [] s b = b
spread_at files (x ∷ rs) s b = spread_at files rs s b.0

pub sized_less : (rs : List Record) (r : Record) → AreSized (rs ++ r ∷ []) → AreSized rs × (r.page.page % 1280 ≡ 0 → length r.before ≡ length r.after)
sized_less [] r a = (tt, a.0)
sized_less (x ∷ rs) r a = let p = sized_less rs r a.1 in ((a.0, p.0), p.1)

-- a slot that is there gives way to one with as many bytes
set_rows : (xs : List (List ℕ)) (i : ℕ) (x : List ℕ) → i < length xs → (row_bytes (set_slot xs i x) + length (get_or xs i []) ≡ row_bytes xs + length x) × (length (set_slot xs i x) ≡ length xs)
set_rows [] i x lt = absurd (omega (arith, lt))
set_rows (y ∷ ys) zero x lt = (omega arith, refl)
set_rows (y ∷ ys) (suc i) x lt = let p = set_rows ys i x (omega (arith, lt)) in (omega (arith, p.0), ap suc p.1)

-- a slot with as many bytes takes no more room
pub same_room : (xs : List (List ℕ)) (i : ℕ) (x : List ℕ) → LastIsFull xs → length x ≡ length (slot_at xs i) → used (edited xs i x) ≤ used xs
same_room xs i [] full same = (let is : used (edited xs i []) ≡ used xs = ap (λ y. used (edited xs i y)) (none (slot_at xs i) same) ∙ ap used (edited-same xs i full) in omega (arith, is))
  where
    none : (y : List ℕ) → 0 ≡ length y → [] ≡ y
    none [] e = refl
    none (b ∷ bs) e = cc
same_room xs i (b ∷ bs) full same = elim (cases_lt i (length xs)) [
  | inl lt ↦ (let p = set_rows xs i (b ∷ bs) lt in omega (arith, p.0, p.1, same))
  | inr ge ↦ (let none : length (get_or xs i []) ≡ 0 = ap length (get_or_past xs i [] ge) in absurd (omega (arith, none, same)))
]

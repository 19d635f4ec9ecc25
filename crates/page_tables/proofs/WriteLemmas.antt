-- Writes over slots are claims and edits over pages.
use Rattle.std.proofs.Common.{refl, ◌≡◌, ℕ, zero, suc, ◌+◌, ◌%◌, ◌<◌, List, [], ◌∷◌, ◌++◌, map, ap, ◌∙◌, arith}
use Rattle.page_base.specs.declared.limits.TheConstants.{MAX_SLOTS}
use Rattle.page_base.specs.declared.numbers.PageId.{PageId}
use Rattle.page_base.specs.Pages.{set_at}
use Rattle.page_base.specs.Slots.{Slots, with_slot}
use Rattle.page_fmt.specs.Edits.{edited}
use Rattle.page_fmt.specs.Seen.{SlotsAt}
use Rattle.alloc_pages.specs.Owners.{owner_bytes, owner_in, page_owner}
use Rattle.alloc_pages.specs.Spots.{spot_of}
use Rattle.table_walk.specs.declared.plan.Edit.{Edit}
use Rattle.table_walk.specs.Plans.{place, bytes_of, changed, after, Go}
use Rattle.page_tables.specs.Owners.{owner}
use Rattle.page_tables.specs.Sheets.{sheets}
use Rattle.page_tables.specs.Writes.{Write, done, claim, claims, write_of, with_claims}
use Rattle.page_tables.proofs.SheetLemmas.{slot_of_sheet, sheets_edited}

pub done_both : (xs ys : List Write) (s : Slots) → done (xs ++ ys) s ≡ done ys (done xs s)
done_both [] ys s = refl
done_both (x ∷ xs) ys s = done_both xs ys (with_slot s x.page x.slot x.bytes)

pub few_slots : (p : PageId) → p.page % 1280 < MAX_SLOTS
few_slots p = omega arith

pub claims_done : (number : ℕ) (claimed : ℕ → PageId) (n : ℕ) (s : Slots) → sheets (done (claims number claimed n) s) ≡ with_claims number claimed n (sheets s)
claims_done number claimed zero s = refl
claims_done number claimed (suc n) s =
    ap sheets (done_both (claims number claimed n) (claim number (claimed n) ∷ []) s)
    ∙ sheets_edited (done (claims number claimed n) s) (spot_of (claimed n)).page (spot_of (claimed n)).slot (owner_bytes (number + 1)) (few_slots (claimed n))
    ∙ ap (λ at. set_at at (spot_of (claimed n)).page (edited (at (spot_of (claimed n)).page) (spot_of (claimed n)).slot (owner_bytes (number + 1)))) (claims_done number claimed n s)

pub edits_done : (claimed : ℕ → PageId) (edits : List Edit) (s : Slots) (at : SlotsAt) → sheets s ≡ at → Go claimed at edits → sheets (done (map (write_of claimed) edits) s) ≡ after claimed at edits
edits_done claimed [] s at is go = is
edits_done claimed (e ∷ es) s at is go =
    edits_done claimed es (with_slot s (place claimed e.spot) e.slot (bytes_of claimed e)) (changed claimed at e)
    (sheets_edited s (place claimed e.spot) e.slot (bytes_of claimed e) go.0.index ∙ ap (λ x. set_at x (place claimed e.spot) (edited (x (place claimed e.spot)) e.slot (bytes_of claimed e))) is) go.1

pub owner_in_sheets : (s : Slots) (p : PageId) → owner (sheets s) p ≡ page_owner s p
owner_in_sheets s p = ap owner_in (slot_of_sheet s (spot_of p).page (spot_of p).slot (few_slots p))

-- A place of the array, and the session that it belongs to.
use Rattle.std.proofs.Common.{◌≡◌, ℕ, ◌+◌, ◌<◌, ◌≤◌, List, ◌∷◌, Bool, true, false, ◌&&◌, length, get_or, refl, ap, sym, subst, ◌∙◌, arith, add-one, inl, inr, zero, suc, set, ◌-◌}
use Rattle.std.proofs.lemmas.Bool.{cases_lt, and_parts}
use Rattle.std.proofs.lemmas.List.{get_or_past}
use Rattle.std.specs.Prelude.{Option, None, Some}
use Rattle.page_base.specs.declared.numbers.PageId.{PageId}
use Rattle.page_base.specs.declared.numbers.SessNo.{SessNo}
use Rattle.page_base.specs.Pages.{is_page}
use Rattle.page_base.proofs.PagesLemmas.{is_page-same, is_page-true}
use Rattle.latch_book.specs.declared.latch.Latch.{Latch}
use Rattle.latch_book.specs.declared.latch.LatchMode.{LatchMode}
use Rattle.latch_book.specs.Latches.{IsSession, IsLatchBook, IsFree, IsInTheWay, latch_of}
use Rattle.latch_book.proofs.LatchLemmas.{none_or_some, IsLatchBook-with_latch, IsLatchBook-without_latch}
use Rattle.latch_book.specs.Modes.{conflicts}
use Rattle.latch_book.specs.Inside.{blocks}

-- the latch of the session whose place this is
at_place : (places : List (Option Latch)) (k : SessNo) (i : ℕ) → k.0 ≡ i + 1 → latch_of (None ∷ places) k ≡ get_or places i None
at_place places k i e = ap (λ (n : ℕ). get_or (None ∷ places) n None) (e ∙ add-one i)

-- a place that doesn't block belongs to nobody in the way
pub not_in_the_way : (places : List (Option Latch)) (who k : SessNo) (p : PageId) (mode : LatchMode) (i : ℕ) → blocks (get_or places i None) p mode ≡ false → k.0 ≡ i + 1 → IsInTheWay (None ∷ places) who p mode k → ⊥
not_in_the_way places who k p mode i passes e h =
    let here : get_or places i None ≡ Some (record { page = p; mode = h.held }) = sym (at_place places k i e) ∙ h.holds in
    let stops : blocks (get_or places i None) p mode ≡ true = ap (λ (o : Option Latch). blocks o p mode) here ∙ ap (λ (b : Bool). b && conflicts h.held mode) (is_page-same p) ∙ h.conflict in
    let z : false ≡ true = sym passes ∙ stops in cc

-- a place that blocks belongs to a session in the way
pub in_the_way : (places : List (Option Latch)) (who k : SessNo) (p : PageId) (mode : LatchMode) (i : ℕ) → blocks (get_or places i None) p mode ≡ true → k.0 ≡ i + 1 → latch_of (None ∷ places) who ≡ None → IsInTheWay (None ∷ places) who p mode k
in_the_way places who k p mode i stops e none = by_latch (get_or places i None) refl stops
  where
    by_latch : (o : Option Latch) → get_or places i None ≡ o → blocks o p mode ≡ true → IsInTheWay (None ∷ places) who p mode k
    by_latch None is h = absurd (let z : false ≡ true = h in cc)
    by_latch (Some l) is h =
        let parts = and_parts (is_page l.page p) (conflicts l.mode mode) h in
        let here : latch_of (None ∷ places) k ≡ Some l = at_place places k i e ∙ is in
        record {
          other = λ same. let z : None ≡ Some l = sym none ∙ sym (ap (latch_of (None ∷ places)) same) ∙ here in cc;
          held = l.mode;
          holds = here ∙ ap (λ (r : PageId). Some (record { page = r; mode = l.mode })) (is_page-true l.page p parts.0);
          conflict = parts.1;
        }

-- nobody up to a place is in the way, and then nobody up to the next one
pub one_more : (places : List (Option Latch)) (who : SessNo) (p : PageId) (mode : LatchMode) (i : ℕ) → ((k : SessNo) → k.0 ≤ i → ¬ IsInTheWay (None ∷ places) who p mode k) → blocks (get_or places i None) p mode ≡ false → (k : SessNo) → k.0 ≤ i + 1 → ¬ IsInTheWay (None ∷ places) who p mode k
one_more places who p mode i below passes k le = elim (cases_lt i k.0) [
  | inl past ↦ not_in_the_way places who k p mode i passes (omega arith)
  | inr before ↦ below k before
]

-- place 0 is nobody's
pub none_first : (places : List (Option Latch)) (who k : SessNo) (p : PageId) (mode : LatchMode) → k.0 ≤ 0 → ¬ IsInTheWay (None ∷ places) who p mode k
none_first places who k p mode le h = none_at k.0 (omega arith) h.holds
  where
    none_at : (n : ℕ) → n ≡ 0 → get_or (None ∷ places) n None ≡ Some (record { page = p; mode = h.held }) → ⊥
    none_at zero e holds = cc
    none_at (suc n) e holds = absurd (omega arith)

-- no session is past the last place
pub none_past : (places : List (Option Latch)) (who k : SessNo) (p : PageId) (mode : LatchMode) → length places < k.0 → ¬ IsInTheWay (None ∷ places) who p mode k
none_past places who k p mode past h =
    let gone : latch_of (None ∷ places) k ≡ None = get_or_past (None ∷ places) k.0 None (omega arith) in
    absurd (none_or_some p h.held (sym gone ∙ h.holds))

-- a place of the array written, as the book sees it
pub place_set : (places : List (Option Latch)) (who : SessNo) (x : Option Latch) → IsSession who → None ∷ set places (who.0 - 1) x ≡ set (None ∷ places) who.0 x
place_set places who x there = at who.0 there.first
  where
    at : (n : ℕ) → 1 ≤ n → None ∷ set places (n - 1) x ≡ set (None ∷ places) n x
    at zero le = absurd (omega arith)
    at (suc n) le = let e : suc n - 1 ≡ n = omega arith in ap (λ (m : ℕ). None ∷ set places m x) e

pub book_taken : (places : List (Option Latch)) (who : SessNo) (p : PageId) (mode : LatchMode) → IsSession who → IsLatchBook (None ∷ places) → IsFree (None ∷ places) who p mode → IsLatchBook (None ∷ set places (who.0 - 1) (Some (record { page = p; mode = mode })))
book_taken places who p mode there book free = subst IsLatchBook (sym (place_set places who _ there)) (IsLatchBook-with_latch (None ∷ places) who p mode book there free)

pub book_released : (places : List (Option Latch)) (who : SessNo) → IsSession who → IsLatchBook (None ∷ places) → IsLatchBook (None ∷ set places (who.0 - 1) None)
book_released places who there book = subst IsLatchBook (sym (place_set places who None there)) (IsLatchBook-without_latch (None ∷ places) who book there)

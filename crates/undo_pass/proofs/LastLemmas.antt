-- A list that ends in one element.
use Rattle.std.proofs.Common.{◌≡◌, ◌≢◌, ◌+◌, List, [], ◌∷◌, ◌++◌, length, get_or, ◌≤◌, subst, ap, sym, ◌∙◌, arith}
use Rattle.std.proofs.lemmas.List.{append_cancel_right}
use Rattle.std.proofs.Math.Seq.{get_or-append_seam}
use Rattle.std.proofs.Math.ListN.{length-append}
use Rattle.page_base.specs.declared.numbers.PageId.{PageId}
use Rattle.page_base.specs.declared.numbers.SnapNo.{SnapNo}
use Rattle.page_fmt.specs.Content.{IsPage}
use Rattle.rec_log.specs.Records.{Record}
use Rattle.snap_pages.specs.Shown.{Shown, img, pins, owes_of, IsPinned, IsThere}
use Rattle.snap_pages.specs.Owed.{AreOwed, count_on}
use Rattle.snap_pages.proofs.PinLemmas.{last_pinned}

-- two ways to split off the last record are one
pub last_same : (front other : List Record) (r q : Record) → front ++ r ∷ [] ≡ other ++ q ∷ [] → r ≡ q
last_same front other r q e =
    let one : length (front ++ r ∷ []) ≡ length front + 1 = length-append front (r ∷ []) in
    let two : length (other ++ q ∷ []) ≡ length other + 1 = length-append other (q ∷ []) in
    let whole : length (front ++ r ∷ []) ≡ length (other ++ q ∷ []) = ap (λ (l : List Record). length l) e in
    let same : length front ≡ length other = omega arith in
    sym (get_or-append_seam front r [] r) ∙ ap (λ n. get_or (front ++ r ∷ []) n r) same ∙ ap (λ l. get_or l (length other) r) e ∙ get_or-append_seam other q [] r

pub front_same : (front other : List Record) (r q : Record) → front ++ r ∷ [] ≡ other ++ q ∷ [] → front ≡ other
front_same front other r q e = append_cancel_right front other (r ∷ []) (e ∙ ap (λ (x : Record). other ++ x ∷ []) (sym (last_same front other r q e)))

-- records that end in one are some
pub some_last : (records front : List Record) (r : Record) → records ≡ front ++ r ∷ [] → records ≢ []
some_last records front r e none =
    let one : length (front ++ r ∷ []) ≡ length front + 1 = length-append front (r ∷ []) in
    let same : length (front ++ r ∷ []) ≡ 0 = ap (λ (l : List Record). length l) (sym e ∙ none) in
    absurd (omega arith)

-- the page of a record that is owed is pinned, and so it is there
pub last_there : (v : Shown) (s : SnapNo) (front : List Record) (r : Record) → owes_of v s ≡ front ++ r ∷ [] → AreOwed v s → ((p : PageId) → IsPinned v p → IsThere v p × IsPage (img v p)) → IsThere v r.page
last_there v s front r was owed there = (there r.page (last_pinned (pins v) front r (λ p. subst (λ l. count_on l p ≤ pins v p) was (owed p)))).0

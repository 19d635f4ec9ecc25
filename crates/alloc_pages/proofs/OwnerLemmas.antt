-- Where the owners stand, and whose a page is after one slot was set.
use Rattle.std.proofs.Common.{inl, inr, ◌≡◌, ◌≢◌, ◌==◌, cond, ℕ, ◌+◌, ◌*◌, ◌/◌, ◌%◌, ◌^◌, ◌<◌, ◌≤◌, List, [], length, refl, ap, sym, ◌∙◌, arith}
use Rattle.std.proofs.lemmas.Bool.{cases_lt, cases_Bool, eqb-true}
use Rattle.std.proofs.lemmas.List.{append-nil, get_or_past}
use Rattle.byteorder.specs.Endian.{little_bytes, little_number}
use Rattle.byteorder.specs.Numbers.{little_number-reads_back}
use Rattle.page_base.specs.declared.numbers.PageId.{PageId}
use Rattle.page_base.specs.Slots.{Slots, with_slot}
use Rattle.page_base.proofs.SlotsLemmas.{with_slot-same, with_slot-page, with_slot-other}
use Rattle.alloc_pages.specs.declared.spots.AllocSpot.{AllocSpot}
use Rattle.alloc_pages.specs.Spots.{spot_of, IsSpotOf}
use Rattle.alloc_pages.specs.Owners.{owner_in, owner_at, owner_bytes, page_owner}

-- the slot of a page is on the allocation page that tells of it
pub IsSpotOf-spot_of : (p : PageId) → IsSpotOf p (spot_of p)
IsSpotOf-spot_of p = record { file = refl; every = omega arith; within = omega arith; sum = omega arith }

-- and no other slot does
pub spot_of-only : (p : PageId) (spot : AllocSpot) → IsSpotOf p spot → spot ≡ spot_of p
spot_of-only p spot h =
    let page : spot.page.page ≡ p.page / 1280 * 1280 = omega (arith, h.every, h.within, h.sum) in
    let slot : spot.slot ≡ p.page % 1280 = omega (arith, h.every, h.within, h.sum) in
    λ i. record { page = record { file = h.file i; page = page i }; slot = slot i }

-- the page of a slot of an allocation page
pub page_at_spot : (page : PageId) (slot : ℕ) → page.page % 1280 ≡ 0 → slot < 1280 → spot_of (record { file = page.file; page = page.page + slot }) ≡ record { page = page; slot = slot }
page_at_spot page slot every within = sym (spot_of-only (record { file = page.file; page = page.page + slot }) (record { page = page; slot = slot }) (record { file = refl; every = every; within = within; sum = refl }))

-- two pages have two slots
pub spots_apart : (p q : PageId) → p ≢ q → (spot_of p).page ≡ (spot_of q).page → (spot_of p).slot ≡ (spot_of q).slot → ⊥
spots_apart p q ne pages slots =
    let file : p.file ≡ q.file = ap (λ (r : PageId). r.file) pages in
    let first : p.page / 1280 * 1280 ≡ q.page / 1280 * 1280 = ap (λ (r : PageId). r.page) pages in
    let page : p.page ≡ q.page = omega (arith, first, slots) in
    ne (λ i. record { file = file i; page = page i })

-- what was written is the owner
pub owner_in-owner_bytes : (owner : ℕ) → owner < 2 ^ 32 → owner_in (owner_bytes owner) ≡ owner
unfolding owner_in owner_bytes
owner_in-owner_bytes owner lt =
    ap (λ (bytes : List ℕ). little_number 4 bytes) (sym (append-nil (little_bytes 4 owner))) ∙ little_number-reads_back 4 owner [] lt

-- bytes that are no allocation page's are four
pub owner_in-four : (bytes : List ℕ) → owner_in bytes ≢ 4294967295 → length bytes ≡ 4
unfolding owner_in
owner_in-four bytes ne = elim (cases_Bool (length bytes == 4)) [
  | inl t ↦ eqb-true (length bytes) 4 t
  | inr f ↦ absurd (ne (ap (λ b. cond b (little_number 4 bytes) 4294967295) f))
]

-- an empty slot is nobody's free page
pub owner_in-empty : owner_in [] ≡ 4294967295
unfolding owner_in
owner_in-empty = refl

-- a slot past the last is nobody's free page
pub owner_at-past : (slots : List (List ℕ)) (i : ℕ) → length slots ≤ i → owner_at slots i ≡ 4294967295
owner_at-past slots i le = ap owner_in (get_or_past slots i [] le) ∙ owner_in-empty

not_free : (n : ℕ) → n ≡ 4294967295 → n ≢ 0
not_free n e none = absurd (omega arith)

pub owner_at-past_free : (slots : List (List ℕ)) (i : ℕ) → length slots ≤ i → owner_at slots i ≢ 0
owner_at-past_free slots i le = not_free (owner_at slots i) (owner_at-past slots i le)

-- a slot that says that its page is free is one of the page's slots
pub free_within : (slots : List (List ℕ)) (i : ℕ) → owner_at slots i ≡ 0 → i < length slots
free_within slots i free = elim (cases_lt i (length slots)) [
  | inl within ↦ within
  | inr past ↦ absurd (owner_at-past_free slots i past free)
]

-- the page whose owner was set
pub page_owner-same : (s : Slots) (p : PageId) (owner : ℕ) → owner < 2 ^ 32 → page_owner (with_slot s (spot_of p).page (spot_of p).slot (owner_bytes owner)) p ≡ owner
page_owner-same s p owner lt = ap owner_in (with_slot-same s (spot_of p).page (spot_of p).slot (owner_bytes owner)) ∙ owner_in-owner_bytes owner lt

-- all other pages
pub page_owner-other : (s : Slots) (p q : PageId) (x : List ℕ) → q ≢ p → page_owner (with_slot s (spot_of p).page (spot_of p).slot x) q ≡ page_owner s q
page_owner-other s p q x ne =
    ap owner_in (with_slot-other s (spot_of p).page (spot_of q).page (spot_of p).slot (spot_of q).slot x (λ pages slots. spots_apart q p ne pages slots))

-- a slot of a page that doesn't tell of this one
pub page_owner-page : (s : Slots) (p q : PageId) (i : ℕ) (x : List ℕ) → (spot_of q).page ≢ p → page_owner (with_slot s p i x) q ≡ page_owner s q
page_owner-page s p q i x ne = λ t. owner_in (with_slot-page s p (spot_of q).page i x ne t (spot_of q).slot)

-- The place of the first fault in the bytes of a page.
use Rattle.std.specs.Prelude.{Option, None, Some, Bool, not, ◌==◌, ◌&&◌, ◌||◌, nat_le, nat_lt, if◌then◌else◌, ℕ, zero, suc, ◌+◌, ◌-◌, ◌*◌, List, [], ◌∷◌, length, slice_index}
use Rattle.page_fmt.specs.Content.{le16_at, offsets_at}

-- the first of two places, if there is one
abbrev pub or_else : Option ℕ → Option ℕ → Option ℕ
or_else None later = later
or_else (Some at) later = Some at

-- the first of n bytes from a place that isn't zero
abbrev pub first_nonzero : List ℕ → ℕ → ℕ → Option ℕ
first_nonzero image i zero = None
first_nonzero image i (suc n) = if slice_index image i == 0 then first_nonzero image (i + 1) n else Some i

-- An offset is wrong, behind the last one before it that isn't 0, if there is one (else 0), and before later ones:
-- 0 is wrong in the last slot; another is wrong at or past the rows' end, as the first one where it isn't 96, and where
-- it isn't greater than the one before.
abbrev pub is_wrong : ℕ → ℕ → ℕ → List ℕ → Bool
is_wrong end prev zero later = length later == 0
is_wrong end prev (suc o) later = nat_le end (suc o) || (if prev == 0 then not (suc o == 96) else nat_le (suc o) prev)

-- the last offset that isn't 0, after one more
abbrev pub newer : ℕ → ℕ → ℕ
newer prev zero = prev
newer prev (suc o) = suc o

-- the place of the first offset that is wrong
abbrev pub first_wrong : ℕ → ℕ → ℕ → List ℕ → Option ℕ
first_wrong end prev at [] = None
first_wrong end prev at (o ∷ os) = if is_wrong end prev o os then Some at else first_wrong end (newer prev o) (at - 2) os

-- the header's zeros are tested first, then those between the rows and the offsets, then the offsets
abbrev pub inner_fault : List ℕ → ℕ → ℕ → Option ℕ
inner_fault image n r =
    or_else (first_nonzero image 4 92) (or_else (first_nonzero image (96 + r) (8192 - 2 * n - (96 + r))) (first_wrong (96 + r) 0 8190 (offsets_at image 8190 n)))

-- before them, whether n slots and r row bytes have room in a page, and whether rows stand there without slots
abbrev pub fault_with : List ℕ → ℕ → ℕ → Option ℕ
fault_with image n r = if nat_lt 8192 (96 + r + 2 * n) then Some 0 else (if nat_lt 0 r && n == 0 then Some 2 else inner_fault image n r)

-- the place of the first fault, if there is one
abbrev pub fault_of : List ℕ → Option ℕ
fault_of image = fault_with image (le16_at image 0) (le16_at image 2)

-- Aligned groups of eight pages that hold a marked one.
use Rattle.std.specs.Prelude.{ℕ, zero, suc, ◌+◌, ◌*◌, ◌==◌, Bool, false, ◌||◌, if◌then◌else◌, List, slice_index_or}
use Rattle.std.specs.Int.{bit_at}

-- whether one of n pages from a place on is marked
abbrev pub some_in : (ℕ → Bool) → ℕ → ℕ → Bool
some_in marked from zero = false
some_in marked from (suc n) = some_in marked from n || marked (from + n)

-- whether the group at a place holds a marked page
unfoldable pub has_group : (ℕ → Bool) → ℕ → Bool
has_group marked place = some_in marked (8 * place) 8

-- how many of the first n groups hold a marked page
abbrev pub groups_in : (ℕ → Bool) → ℕ → ℕ
groups_in marked zero = 0
groups_in marked (suc n) = groups_in marked n + (if has_group marked n then 1 else 0)

-- the bits of one word
unfoldable pub bits_in : ℕ → ℕ → Bool
bits_in word i = bit_at word i == 1

-- the pages that a list of marks marks
unfoldable pub marked_in : List Bool → ℕ → Bool
marked_in marks page = slice_index_or marks page false

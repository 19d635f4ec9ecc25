-- What an edit writes: zeros, bytes over others, and offsets that moved.
use Rattle.std.specs.Prelude.{ℕ, ◌+◌, ◌-◌, ◌*◌, ◌^◌, ◌==◌, min, if◌then◌else◌, ◌≡◌, ◌≤◌, List, [], ◌∷◌, ◌++◌, length, take, drop, replicate, slice_index_or}
use Rattle.page_fmt.specs.Spelling.{spell, used, row_bytes}
use Rattle.page_fmt.specs.Content.{content}

-- so many zero bytes
abbrev pub zeros : ℕ → List ℕ
zeros n = replicate n 0

-- these bytes from a place on, and all others as they were
abbrev pub put : ℕ → List ℕ → List ℕ → List ℕ
put at bytes image = take at image ++ (bytes ++ drop (at + length bytes) image)

-- an offset behind a slot that had `old` bytes and has `new`; that of an empty slot stays 0
abbrev pub moved : ℕ → ℕ → ℕ → ℕ
moved old new offset = if offset == 0 then 0 else min (offset + new) (2 ^ 16 - 1) - old

-- the offset of one slot that would begin at a place
abbrev pub offset_of : ℕ → List ℕ → ℕ
offset_of at [] = 0
offset_of at (b ∷ bs) = at

-- where a slot with this offset begins, if the slots behind it begin at `stop`
abbrev pub start_of : ℕ → ℕ → ℕ
start_of offset stop = if offset == 0 then stop else offset

-- a slot lies from `start` to `stop`; the rows end at `end`, and the offsets begin at `limit`
pub record IsPlace (slots : List (List ℕ)) (i start stop end limit : ℕ) : Type 0 where
  pub begins : start ≡ 96 + row_bytes (take i slots)
  pub ends : stop ≡ start + length (slice_index_or slots i [])
  pub rows : end ≡ 96 + row_bytes slots
  pub table : limit + 2 * length slots ≡ 8192
  pub within : stop ≤ end
  pub room : end ≤ limit

-- the bytes are those of their slots, of which the last ones may be empty
pub record IsSpelled (image : List ℕ) : Type 0 where
  pub spelled : image ≡ spell (content image)
  pub small : used (content image) ≤ 8192

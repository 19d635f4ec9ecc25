-- The first line of some bytes.
use Rattle.std.proofs.Common.{◌≡◌, ℕ, suc, ◌+◌, ◌<◌, ◌≤◌, Bool, true, false, cond, ◌==◌, List, [], ◌∷◌, ◌++◌, length, take, drop, refl, sym, ap, ◌∙◌, arith}
use Rattle.std.specs.List.{onto_first}
use Rattle.reply_text.specs.Lines.{lines_of, line_len}

-- the first line stands in front of the others
abbrev Parts : List ℕ → Type 0
Parts bytes = lines_of bytes ≡ take (line_len bytes) bytes ∷ lines_of (drop (line_len bytes) bytes)

parts_one : (v : Bool) (b : ℕ) → (b == 10) ≡ v → Parts (b ∷ [])
parts_one true b e = rw e refl
parts_one false b e = rw e refl

parts_more : (v : Bool) (b : ℕ) (bs : List ℕ) → (b == 10) ≡ v → Parts bs → Parts (b ∷ bs)
parts_more true b bs e h = rw e refl
parts_more false b bs e h = rw (e, h) refl

pub parts : (bytes : List ℕ) → 0 < length bytes → lines_of bytes ≡ take (line_len bytes) bytes ∷ lines_of (drop (line_len bytes) bytes)
parts [] some = absurd (omega (arith, some))
parts (b ∷ []) some = parts_one (b == 10) b refl
parts (b ∷ c ∷ bs) some = parts_more (b == 10) b (c ∷ bs) refl (parts (c ∷ bs) (omega arith))

len_some : (v : Bool) (n : ℕ) → 1 ≤ cond v 1 (suc n)
len_some true n = omega arith
len_some false n = omega arith

-- a line has a byte
pub line_some : (bytes : List ℕ) → 0 < length bytes → 1 ≤ line_len bytes
line_some [] some = absurd (omega (arith, some))
line_some (b ∷ bs) some = len_some (b == 10) (line_len bs)

pub some_of : (bytes : List ℕ) → (length bytes == 0) ≡ false → 0 < length bytes
some_of [] h = cc
some_of (b ∷ bs) h = omega arith

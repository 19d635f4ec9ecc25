-- The draws of a number: each state is made from the one before it, and a draw is the high part of one.
use Rattle.std.specs.Prelude.{ℕ, zero, suc, ◌+◌, ◌*◌, ◌/◌, ◌%◌}

-- the state behind another
abbrev pub next_state : ℕ → ℕ
next_state x = (x * 1103515245 + 12345) % 2147483648

-- the state behind so many others, from a number on
unfoldable pub state_at : ℕ → ℕ → ℕ
state_at seed zero = seed
state_at seed (suc n) = next_state (state_at seed n)

-- the draw of this number, counted from 1
abbrev pub draw_at : ℕ → ℕ → ℕ
draw_at seed n = state_at seed n / 65536

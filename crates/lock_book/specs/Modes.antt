-- Which two locks conflict, and when a session gains a mode.
use Rattle.std.specs.Prelude.{Bool, true, false, Option, None, Some}
use Rattle.page_base.specs.declared.numbers.Mode.{Mode}
use Rattle.page_base.specs.declared.numbers.Mode.TheVariants.{S, X}

-- two sessions can't hold one table in these modes: only S stands beside S
abbrev pub conflicts : Mode → Mode → Bool
conflicts S S = false
conflicts S X = true
conflicts X S = true
conflicts X X = true

-- who holds a table in X holds it in S too, so only a first lock, and X after S, is a gain
abbrev pub gains : Option Mode → Mode → Bool
gains None wanted = true
gains (Some S) S = false
gains (Some S) X = true
gains (Some X) wanted = false

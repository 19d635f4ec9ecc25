use Rattle.std.proofs.Common.{◌≡◌, ◌+◌, ◌*◌, ◌≤◌, List, ◌∷◌, length}
use Rattle.sql_expr.specs.Rules.{strict}
use Rattle.sql_expr.specs.Symbols.{Part, Symbol, Want, May}
use Rattle.sql_expr.specs.Read.{run}
use Rattle.sql_expr.specs.Steps.{part_of}
use Rattle.sql_expr.proofs.Ranks.{rank}
use Rattle.sql_expr.proofs.reader.+reading.Given as goal

abbrev pub decreases-expression : goal.decreases-expression
decreases-expression l = 16 * length l.tokens.now + rank l.level + 1

abbrev pub decreases-chain : goal.decreases-chain
decreases-chain l = 16 * length l.tokens.now + rank l.level

abbrev pub decreases-negation : goal.decreases-negation
decreases-negation l = 16 * length l.tokens.now + 8

abbrev pub decreases-comparison : goal.decreases-comparison
decreases-comparison l = 16 * length l.tokens.now + 7

abbrev pub decreases-related : goal.decreases-related
decreases-related l = 16 * length l.tokens.now + 6

abbrev pub decreases-bounds : goal.decreases-bounds
decreases-bounds l = 16 * length l.tokens.now + 6

abbrev pub decreases-entries : goal.decreases-entries
decreases-entries l = 16 * length l.tokens.now + 14

abbrev pub decreases-unary : goal.decreases-unary
decreases-unary l = 16 * length l.tokens.now

abbrev pub invariant-chain-loop-left : goal.invariant-chain-loop-left
invariant-chain-loop-left l = record {
  passes : (stack : List Symbol) (now : Part) → run l.names strict (Want l.n l.level ∷ stack) now l.fn.spare l.fn.tokens ≡ run l.names strict (May l.n l.level ∷ stack) (part_of l.left) l.left.spare l.tokens;
  shorter : length l.tokens ≤ length l.fn.tokens;
}

abbrev pub decreases-chain-loop-left : goal.decreases-chain-loop-left
decreases-chain-loop-left l = length l.tokens

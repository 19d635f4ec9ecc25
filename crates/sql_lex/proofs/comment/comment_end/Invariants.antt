use Rattle.std.proofs.Common.{◌≡◌, ◌≤◌, drop}
use Rattle.sql_lex.specs.Comments.{comment_end}
use Rattle.sql_lex.proofs.comment.comment_end.Given as goal

abbrev pub invariant-loop-i : goal.invariant-loop-i
invariant-loop-i l = record {
  same : comment_end l.before l.around l.i (drop l.i l.bytes) ≡ comment_end 0 0 0 l.bytes;
  few : l.around ≤ l.i;
}

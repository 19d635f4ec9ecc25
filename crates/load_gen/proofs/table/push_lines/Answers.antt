use Rattle.std.proofs.Common.{◌≡◌, ◌+◌, ◌*◌, ◌++◌, ◌∙◌, refl, ap, sym, arith}
use Rattle.load_gen.specs.Rows.{line_text, lines_text}
use Rattle.load_gen.proofs.MoreLemmas.{grown, not_grown, lines_none, lines_more}
use Rattle.load_gen.proofs.table.push_lines.Goals as goal

pub loop-line-init : goal.loop-line-init
loop-line-init c =
    let seed = c.args.draws.now.seed in
    record { lines = not_grown c.args.text.now.items (lines_text c.args.table seed 0) (lines_none c.args.table seed); seed = refl; taken = omega arith }

pub loop-line-preserved : goal.loop-line-preserved
loop-line-preserved c =
    let seed = c.args.draws.now.seed in
    let t = c.args.table in
    let n = c.loop-line.line in
    let line : c.push_line.new.text.items ≡ c.loop-line.text.items ++ line_text t seed n = rw c.loop-line.invariant.seed at c.in_ok-push_line.ensures.line in
    record {
      lines = grown c.args.text.now.items c.loop-line.text.items c.push_line.new.text.items (lines_text t seed n) (line_text t seed n) (lines_text t seed (n + 1)) c.loop-line.invariant.lines line (lines_more t seed n);
      seed = c.in_ok-push_line.ensures.seed ∙ c.loop-line.invariant.seed;
      taken = omega (arith, c.in_ok-push_line.ensures.taken, c.loop-line.invariant.taken);
    }

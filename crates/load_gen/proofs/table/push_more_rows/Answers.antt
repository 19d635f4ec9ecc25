use Rattle.std.proofs.Common.{◌≡◌, ◌+◌, ◌-◌, ◌++◌, ◌∷◌, ◌∙◌, refl, ap, sym, arith}
use Rattle.load_gen.specs.Rows.{row_text, next_row_text, more_rows}
use Rattle.load_gen.proofs.MoreLemmas.{grown, not_grown, behind_comma, rows_none, rows_more}
use Rattle.load_gen.proofs.table.push_more_rows.Goals as goal

pub loop-id-init : goal.loop-id-init
loop-id-init c =
    let seed = c.args.draws.now.seed in
    let none : c.args.first - c.args.first ≡ 0 = omega arith in
    record {
      rows = not_grown c.args.text.now.items (more_rows c.args.table seed c.args.first (c.args.first - c.args.first)) (ap (more_rows c.args.table seed c.args.first) none ∙ rows_none c.args.table seed c.args.first);
      seed = refl;
      taken = omega arith;
    }

pub loop-id-preserved : goal.loop-id-preserved
loop-id-preserved c =
    let seed = c.args.draws.now.seed in
    let t = c.args.table in
    let id = c.loop-id.id in
    let first = c.args.first in
    let same : id + 1 - first ≡ (id - first) + 1 = omega (arith, c.loop-id.auto.id) in
    let at : first + (id - first) ≡ id = omega (arith, c.loop-id.auto.id) in
    let row : c.push_row.new.text.items ≡ c.extend_from_slice.new.self.items ++ row_text t seed id = rw c.loop-id.invariant.seed at c.in_ok-push_row.ensures.row in
    record {
      rows = grown c.args.text.now.items c.loop-id.text.items c.push_row.new.text.items (more_rows t seed first (id - first)) (next_row_text t seed id) (more_rows t seed first (id + 1 - first)) c.loop-id.invariant.rows
          (behind_comma c.loop-id.text.items c.extend_from_slice.new.self.items c.push_row.new.text.items (row_text t seed id) c.in_ok-extend_from_slice.ensures.items row)
          (ap (more_rows t seed first) same ∙ rows_more t seed first (id - first) id at);
      seed = c.in_ok-push_row.ensures.seed ∙ c.loop-id.invariant.seed;
      taken = omega (arith, c.in_ok-push_row.ensures.taken, c.loop-id.invariant.taken, same);
    }

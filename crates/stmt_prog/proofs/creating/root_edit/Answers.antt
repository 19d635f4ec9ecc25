use Rattle.std.proofs.Common.{rules, ◌≡◌, ap, ◌∙◌, length, arith}
use Rattle.stmt_prog.proofs.MadeLemmas.{is_root_edit}
use Rattle.stmt_prog.proofs.creating.root_edit.Goals as goal

pub returns : goal.returns
returns c =
    let long : length c.new_root.result ≡ 5 = search rules in
    is_root_edit c.args.new c.new_root.result c.from.result (c.from.ensures ∙ c.in_ok-from_slice.ensures.items) (λ e. absurd (let none : length c.new_root.result ≡ 0 = ap length e in omega (arith, long))) (omega (arith, long)) c.new_root.ensures

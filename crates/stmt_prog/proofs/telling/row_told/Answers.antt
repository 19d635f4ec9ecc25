use Rattle.std.proofs.Common.{rules, arith}
use Rattle.stmt_prog.proofs.TellLemmas.{told_fits}
use Rattle.stmt_prog.proofs.telling.row_told.Goals as goal

pub encode-requires : goal.encode-requires
encode-requires c = told_fits c.args.desc.now c.args.root c.in_ok-told.told c.in_ok-rows.rows c.in_ok-cols.cols c.at.result.now c.requires (search rules) (omega (arith, c.if-root-ge2147483648.false)) c.in_ok-told.ensures c.in_ok-rows.ensures c.in_ok-cols.ensures (c.at.ensures.value c.at.result.now)

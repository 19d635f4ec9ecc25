use Rattle.std.proofs.Common.{sym, subst}
use Rattle.early_engine.specs.Causes.{IsNoShortage, IsNoFailure}
use Rattle.early_engine.proofs.SelectLemmas.{harmless_reply}
use Rattle.early_engine.proofs.seeing.shown.Goals as goal

pub returns-clause-room : goal.returns-clause-room
returns-clause-room c =
    let on = c.in_ok-verdict_on.ensures in
    subst IsNoShortage (sym (c.reply_by.ensures c.args.stmt.now on.over on.is)) (harmless_reply c.args.stmt.now c.args.name.now c.requires.select on.over).0

pub returns-clause-volume : goal.returns-clause-volume
returns-clause-volume c =
    let on = c.in_ok-verdict_on.ensures in
    subst IsNoFailure (sym (c.reply_by.ensures c.args.stmt.now on.over on.is)) (harmless_reply c.args.stmt.now c.args.name.now c.requires.select on.over).1

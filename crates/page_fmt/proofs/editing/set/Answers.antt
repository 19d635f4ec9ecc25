use Rattle.std.proofs.Common.{◌≤◌, ap, sym, ◌∙◌, subst}
use Rattle.page_fmt.specs.Spelling.{used, spell}
use Rattle.page_fmt.proofs.SetLemmas.{ready}
use Rattle.page_fmt.proofs.editing.set.Goals as goal

pub replace-requires-clause-page : goal.replace-requires-clause-page
replace-requires-clause-page c =
    (ready c.args.page.now c.write_number.new.page c.args.i c.max-count.result _ c.args.bytes.now c.requires.page c.requires.room c.slot_count.ensures.count c.max-count.ensures c.write_number.ensures).spelled

pub replace-requires-clause-index : goal.replace-requires-clause-index
replace-requires-clause-index c =
    (ready c.args.page.now c.write_number.new.page c.args.i c.max-count.result _ c.args.bytes.now c.requires.page c.requires.room c.slot_count.ensures.count c.max-count.ensures c.write_number.ensures).there

pub replace-requires-clause-room : goal.replace-requires-clause-room
replace-requires-clause-room c =
    let now = ready c.args.page.now c.write_number.new.page c.args.i c.max-count.result _ c.args.bytes.now c.requires.page c.requires.room c.slot_count.ensures.count c.max-count.ensures c.write_number.ensures in
    subst (λ s. used s ≤ 8192) (sym now.set_is) c.requires.room

pub returns : goal.returns
returns c =
    let now = ready c.args.page.now c.write_number.new.page c.args.i c.max-count.result _ c.args.bytes.now c.requires.page c.requires.room c.slot_count.ensures.count c.max-count.ensures c.write_number.ensures in
    c.replace.ensures ∙ ap spell now.set_is

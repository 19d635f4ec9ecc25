use Rattle.std.proofs.Common.{get_or, sym, subst, List, map, take}
use Rattle.std.specs.Prelude.{None}
use Rattle.page_base.specs.declared.numbers.PageId.{PageId}
use Rattle.page_fmt.specs.Seen.{look}
use Rattle.table_walk.specs.declared.visit.Visit.{Visit}
use Rattle.page_tables.specs.Dropping.{Empty}
use Rattle.stmt_prog.proofs.GoneLemmas.{empties_more, pages_more}
use Rattle.stmt_prog.proofs.dropping.empties.Goals as goal

pub loop-visit-preserved : goal.loop-visit-preserved
loop-visit-preserved c =
    let d : Visit = record { page = record { file = 0; page = 0 }; from = record { file = 0; page = 0 }; slot = 0; level = None } in
    let vs = c.args.done.now in
    let i = c.loop-visit.visit-index in
    subst (λ (ps : List PageId). Empty (look c.args.own.now) ps c.empty_page.new.edits) (sym (pages_more vs i d c.loop-visit-test.true))
    (empties_more (look c.args.own.now) (map (λ (v : Visit). v.page) (take i vs)) (get_or vs i d).page c.loop-visit.edits c.empty_page.new.edits c.loop-visit.invariant c.in_ok-empty_page.ensures)

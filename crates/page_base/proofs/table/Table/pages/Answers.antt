use Rattle.std.proofs.Common.{arith, ◌∙◌}
use Rattle.page_base.proofs.PagesLemmas.{shape_row, shape_past}
use Rattle.page_base.proofs.table.Table.pages.Goals as goal

pub returns : goal.returns
returns g c =
    c.len-2.ensures ∙ c.index.result.now.ok.0
    ∙ shape_row (λ row. row.items) c.self.inside.rows.items c.args.self.now c.args.file c.index.result.now c.self.view_is (omega (arith, c.self.inside.rows.ok.0, c.len.ensures)) c.index.ensures

pub returns-then-file-len : goal.returns-then-file-len
returns-then-file-len g c = shape_past (λ row. row.items) c.self.inside.rows.items c.args.self.now c.args.file c.self.view_is (omega (arith, c.self.inside.rows.ok.0, c.len.ensures))

use Rattle.std.proofs.Common.{◌∙◌, []}
use Rattle.std.proofs.lemmas.Result.{IfOk-weaker}
use Rattle.table_pages.proofs.HeldLemmas.{held_name, held_stops}
use Rattle.table_pages.proofs.page.columns.Goals as goal

pub returns-in-Some : goal.returns-in-Some
returns-in-Some c = IfOk-weaker c.columns.result _ _
    (λ cols all held t h. all t.cols [] (held_name c.args.image.now c.new-reader.result held c.in-Some.field-0 c.name.new.self t h (c.new-reader.ensures ∙ c.slot.ensures) c.in-Some.ensures).1) c.columns.ensures

pub returns-in-None : goal.returns-in-None
returns-in-None c = λ held t h. absurd (held_stops c.args.image.now c.new-reader.result held t h (c.new-reader.ensures ∙ c.slot.ensures) c.in-None.ensures)

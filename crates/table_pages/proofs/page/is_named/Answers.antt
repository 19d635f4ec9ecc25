use Rattle.std.proofs.Common.{ap, ◌∙◌, List, ℕ}
use Rattle.std.specs.Str.{bytes_eq}
use Rattle.table_pages.proofs.HeldLemmas.{held_name, held_stops}
use Rattle.table_pages.proofs.page.is_named.Goals as goal

pub returns-in-Some : goal.returns-in-Some
returns-in-Some c = λ held t h.
    c.is_same.ensures.test ∙ ap (λ (n : List ℕ). bytes_eq n c.args.name.now) (held_name c.args.image.now c.new.result held c.in-Some.held c.name.new.self t h (c.new.ensures ∙ c.slot.ensures) c.in-Some.ensures).0

pub returns-in-None : goal.returns-in-None
returns-in-None c = λ held t h. absurd (held_stops c.args.image.now c.new.result held t h (c.new.ensures ∙ c.slot.ensures) c.in-None.ensures)

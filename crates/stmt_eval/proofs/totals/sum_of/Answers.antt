-- Where no row has a number there is nothing to sum up.
use Rattle.std.proofs.Common.{rules, ◌≡◌, Bool, ap, sym, ◌∙◌}
use Rattle.std.proofs.lemmas.Int.{to_z-of_z}
use Rattle.std.specs.Int.{w128}
use Rattle.plain_model.specs.Numbers.{stored}
use Rattle.plain_model.specs.Totals.{sum_of, total, numbers_at}
use Rattle.stmt_eval.proofs.TotalLemmas.{no_numbers, some_numbers}
use Rattle.stmt_eval.proofs.totals.sum_of.Goals as goal

pub returns-then-not-has_number : goal.returns-then-not-has_number
returns-then-not-has_number c =
    sym (ap (sum_of c.args.kind) (no_numbers c.args.place c.args.taken.now (sym c.has_number.ensures ∙ c.if-not-has_number.true)))

pub returns : goal.returns
returns c =
    c.stored_total.ensures
    ∙ ap (stored c.is_wide.result) (to_z-of_z w128 c.total.result (search rules) ∙ c.total.ensures)
    ∙ ap (λ (big : Bool). stored big (total (numbers_at c.args.place c.args.taken.now))) c.is_wide.ensures
    ∙ sym (some_numbers c.args.kind c.args.place c.args.taken.now (sym c.has_number.ensures ∙ c.if-not-has_number.false))

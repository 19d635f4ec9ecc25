use Rattle.std.proofs.Common.{◌∙◌, [], ◌∷◌, ◌++◌, ap}
use Rattle.plain_model.specs.Tree.{Entries, tree_of, entries_of}
use Rattle.sql_expr.specs.Rules.{strict}
use Rattle.sql_expr.specs.Symbols.{Entry, membership}
use Rattle.sql_expr.specs.Read.{run}
use Rattle.sql_expr.specs.Steps.{part_of, listed}
use Rattle.sql_expr.proofs.Lists.{onto_push}
use Rattle.sql_expr.proofs.reader.+reading.Goals as goal

-- a further entry goes behind those before it
pub entries-returns-in_ok-more-in-Some-clause-passes : goal.entries-returns-in_ok-more-in-Some-clause-passes
entries-returns-in_ok-more-in-Some-clause-passes t c = λ negative left before stack now.
    let entry = c.in_ok-entry.entry in
    let rest = c.in_ok-rest-in-Some.rest in
    rw (c.in_ok-more-in-Some.ensures)
    (c.in_ok-entry.ensures.passes (Entry c.args.n negative left before ∷ stack) now
    ∙ c.in_ok-spare.ensures.passes c.args.names c.args.n negative left before stack
    ∙ ap (listed c.args.names c.args.n negative left before stack entry c.entry_end.new.tokens) c.in-Some.is
    ∙ c.in_ok-rest-in-Some.ensures.passes negative left (before ++ tree_of entry.tree ∷ []) stack (part_of entry)
    ∙ ap (λ (es : Entries). run c.args.names strict stack (membership negative left es) rest.spare c.entries.new.tokens) (onto_push before (tree_of entry.tree) (entries_of rest.entries)))

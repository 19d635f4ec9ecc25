use Rattle.std.proofs.Common.{◌≡◌, ◌++◌, [], true, sym, subst, ◌∙◌}
use Rattle.page_fmt.specs.Seen.{Looked}
use Rattle.table_walk.specs.Tables.{is_leaf, AreRows}
use Rattle.table_walk.specs.Sought.{IsSought}
use Rattle.table_walk.proofs.Exits.{on_ok, if_err}
use Rattle.table_walk.proofs.VisitLemmas.{leaf_cells, visit_no_row}
use Rattle.table_walk.proofs.rows.add_visit.Goals as goal

pub returns-in-Some-clause-rows : goal.returns-in-Some-clause-rows
returns-in-Some-clause-rows c =
    let d : Looked = record { page = c.args.visit.page; slots = [] } in
    let leaf : is_leaf c.args.visit ≡ true = sym c.is_leaf.ensures ∙ c.if-not-is_leaf.false in
    on_ok c.add_page.result (λ f old s. subst (λ xs. IsSought c.args.cols.now c.args.keys.now (old ++ xs) c.add_page.new.rows) (leaf_cells c.args.seen.now c.args.visit c.in-Some.i d leaf c.requires.saw c.in-Some.ensures.some) (f d old s)) c.add_page.ensures.rows

pub returns-in-Some-clause-are : goal.returns-in-Some-clause-are
returns-in-Some-clause-are c =
    let d : Looked = record { page = c.args.visit.page; slots = [] } in
    let leaf : is_leaf c.args.visit ≡ true = sym c.is_leaf.ensures ∙ c.if-not-is_leaf.false in
    on_ok c.add_page.result (λ f. subst (AreRows c.args.cols.now) (leaf_cells c.args.seen.now c.args.visit c.in-Some.i d leaf c.requires.saw c.in-Some.ensures.some) (f d)) c.add_page.ensures.are

pub returns-in-Some-clause-bad : goal.returns-in-Some-clause-bad
returns-in-Some-clause-bad c =
    let leaf : is_leaf c.args.visit ≡ true = sym c.is_leaf.ensures ∙ c.if-not-is_leaf.false in
    if_err c.add_page.result (λ e no. visit_no_row c.args.cols.now c.args.seen.now c.args.visit c.in-Some.i e leaf c.requires.saw c.in-Some.ensures.some no) c.add_page.ensures.bad

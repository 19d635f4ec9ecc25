use Rattle.std.proofs.Common.{ℕ, List, ◌∙◌, sym, subst, ap}
use Rattle.std.specs.Prelude.{All}
use Rattle.page_base.specs.declared.value.Value.{Value}
use Rattle.page_fmt.specs.Content.{content}
use Rattle.page_base.specs.declared.column.Column.{Column}
use Rattle.row_fmt.specs.Rows.{FitsColumns}
use Rattle.table_pages.specs.Drafting.{cut_rows, IsDrafted}
use Rattle.table_pages.proofs.DraftLemmas.{drafted_lacks, drafted_left}
use Rattle.table_pages.proofs.draft.drafted.Goals as goal

pub returns-then-not-branch-clause-draft : goal.returns-then-not-branch-clause-draft
returns-then-not-branch-clause-draft c = λ rows some whole fits.
    let cols = c.args.cols.now in
    let start = c.in_ok-draft.ensures.index rows some whole in
    let cut = c.cut_all.ensures.draft cols rows start in
    let puts = rw c.if-not-branch.true at (c.in_ok-put_all.ensures.put (cut_rows c.as_slice.result.now rows) cut (subst (λ (rs : List (List Value)). All (FitsColumns cols) rs) (sym c.as_slice-2.ensures) fits)) in
    drafted_lacks cols c.args.cut.now c.as_slice.result.now c.args.put.now c.as_slice-2.result.now c.args.image.now c.in_ok-draft.draft.page (content c.cut_all.new.self.page) c.as_slice.ensures c.as_slice-2.ensures c.in_ok-draft.ensures.page (c.cut_all.ensures.cuts cols rows start) puts

pub returns-clause-draft : goal.returns-clause-draft
returns-clause-draft c = λ rows some whole fits.
    let cols = c.args.cols.now in
    let start = c.in_ok-draft.ensures.index rows some whole in
    let cut = c.cut_all.ensures.draft cols rows start in
    let puts = rw c.if-not-branch.false at (c.in_ok-put_all.ensures.put (cut_rows c.as_slice.result.now rows) cut (subst (λ (rs : List (List Value)). All (FitsColumns cols) rs) (sym c.as_slice-2.ensures) fits)) in
    subst (λ (s : List (List ℕ)). IsDrafted cols c.args.cut.now c.args.put.now (content c.args.image.now) rows s) (ap content (sym c.into_page.ensures))
    (drafted_left cols c.args.cut.now c.as_slice.result.now c.args.put.now c.as_slice-2.result.now c.args.image.now c.in_ok-draft.draft.page (content c.cut_all.new.self.page) c.as_slice.ensures c.as_slice-2.ensures c.in_ok-draft.ensures.page (c.cut_all.ensures.cuts cols rows start) rows (content c.put_all.new.self.page) puts)

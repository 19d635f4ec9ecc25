use Rattle.std.proofs.Common.{List, ℕ, ◌≡◌, ◌≤◌, false, sym, subst}
use Rattle.page_fmt.specs.Content.{content}
use Rattle.page_fmt.specs.Edits.{slot_at}
use Rattle.table_pages.specs.Passes.{IsPass}
use Rattle.table_pages.proofs.PassLemmas.{pass_none, pass_next, pass_end, far_past}
use Rattle.table_pages.proofs.differing.differences.Goals as goal

pub returns : goal.returns
returns c = λ front.
    let p = c.args.page in
    let slots = content c.args.before.now in
    let left = content c.args.after.now in
    let far : (j : ℕ) → 4096 ≤ j → slot_at left j ≡ slot_at slots j = λ j le. far_past c.args.before.now c.args.after.now j c.requires.before c.requires.after le in
    let first = c.in_ok-add_edits.ensures (subst (IsPass p slots left false 1) (sym c.new-edits.ensures) (pass_none p slots left front)) in
    pass_end p slots left c.add_edits-2.new.edits far (c.in_ok-add_edits-2.ensures (pass_next p slots left c.add_edits.new.edits far front first))

use Rattle.std.proofs.Common.{◌∙◌, ◌≡◌, List, ℕ, ap, sym, subst}
use Rattle.std.specs.Prelude.{None}
use Rattle.page_fmt.specs.Content.{content}
use Rattle.early_pages.specs.Shown.{img}
use Rattle.table_pages.specs.Layout.{place}
use Rattle.table_pages.proofs.ChangeLemmas.{plans, call_some, call_rows, call_fits, call_lacks, call_drafted, call_differs}
use Rattle.table_pages.proofs.changing.plan_change.Goals as goal

pub returns-in_default : goal.returns-in_default
returns-in_default g c = λ name t holds same fits.
    let v = c.args.pages.now in
    let page = img v (place c.args.i) in
    let image = c.image-image.result.now in
    let at : image ≡ page = c.image-image.ensures in
    let cols = c.args.cols.now in
    let lacks = rw c.in_default.is at (c.in_ok-draft.ensures.draft t.rows (call_some cols image page name t same at holds) (call_rows cols image page name t same at holds) (call_fits cols image page name t same at holds c.args.put.now fits)) in
    call_lacks cols image page name t same at holds c.args.cut.now c.args.put.now None lacks

pub returns : goal.returns
returns g c = λ name t holds same fits.
    let v = c.args.pages.now in
    let page = img v (place c.args.i) in
    let image = c.image-image.result.now in
    let at : image ≡ page = c.image-image.ensures in
    let cols = c.args.cols.now in
    let made = rw c.in-Some.is at (c.in_ok-draft.ensures.draft t.rows (call_some cols image page name t same at holds) (call_rows cols image page name t same at holds) (call_fits cols image page name t same at holds c.args.put.now fits)) in
    let d = call_drafted cols image page name t same at holds c.args.cut.now c.args.put.now (content c.in-Some.draft) made in
    let differs = call_differs c.place.result (place c.args.i) image page (content c.in-Some.draft) c.in_ok-edits.edits c.place.ensures at (c.in_ok-edits.ensures made.front) in
    (plans v c.args.i name t c.args.cut.now c.args.put.now c.in_ok-edits.edits (content c.in-Some.draft) c.requires.there c.requires.packed holds d differs, d.only)

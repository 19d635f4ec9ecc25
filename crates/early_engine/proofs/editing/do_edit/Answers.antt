use Rattle.std.proofs.Common.{◌≤◌, ◌∙◌, ℕ, List, ap, sym, subst}
use Rattle.page_base.specs.declared.numbers.PageId.{PageId}
use Rattle.page_base.specs.Slots.{with_slot}
use Rattle.page_fmt.specs.Content.{content, IsPage}
use Rattle.page_fmt.specs.Edits.{edited}
use Rattle.page_fmt.specs.Spelling.{used}
use Rattle.early_pages.specs.Shown.{img}
use Rattle.early_pages.specs.Slots.{slots_of}
use Rattle.early_engine.proofs.EditLemmas.{surely, edits_one, no_lack}
use Rattle.early_engine.proofs.editing.do_edit.Goals as goal

pub change-changed-requires-clause-spelled : goal.change-changed-requires-clause-spelled
change-changed-requires-clause-spelled g c = subst (λ (images : PageId → List ℕ). IsPage (images c.args.edit.now.page)) (sym c.push_all.ensures.pushes.img) (c.requires.spelled c.args.edit.now.page)

pub returns-clause-edits : goal.returns-clause-edits
returns-clause-edits g c = edits_one c.args.pages.now c.push_all.new.pages c.change-changed.new.self c.args.ledger.now c.push_all.new.ledger c.args.edit.now.page c.push_all.ensures.pushes c.push_all.ensures.turns c.requires.spelled
    c.change-changed.ensures.img c.change-changed.ensures.page c.change-changed.ensures.counts c.change-changed.ensures.catalog c.change-changed.ensures.views

pub returns-clause-slots : goal.returns-clause-slots
returns-clause-slots g c =
    let mid = c.push_all.new.pages in
    let images = c.push_all.ensures.pushes.img in
    let bytes = c.as_slice.ensures in
    let fits = subst (λ (bs : List ℕ). used (edited (content (img mid c.args.edit.now.page)) c.args.edit.now.slot bs) ≤ 8192) (sym bytes)
    (subst (λ (f : PageId → List ℕ). used (edited (content (f c.args.edit.now.page)) c.args.edit.now.slot c.args.edit.now.bytes) ≤ 8192) (sym images) c.requires.room.room) in
    surely c.change-changed.result _ _ c.change-changed.ensures.slots c.change-changed.ensures.no_room (λ e lacks. no_lack _ _ e.need e.free fits lacks)
    ∙ ap (λ (f : PageId → List ℕ). with_slot (slots_of f) c.args.edit.now.page c.args.edit.now.slot c.as_slice.result.now) images
    ∙ ap (with_slot (slots_of (img c.args.pages.now)) c.args.edit.now.page c.args.edit.now.slot) bytes

pub returns-clause-content : goal.returns-clause-content
returns-clause-content g c =
    let mid = c.push_all.new.pages in
    let images = c.push_all.ensures.pushes.img in
    let bytes = c.as_slice.ensures in
    let fits = subst (λ (bs : List ℕ). used (edited (content (img mid c.args.edit.now.page)) c.args.edit.now.slot bs) ≤ 8192) (sym bytes)
    (subst (λ (f : PageId → List ℕ). used (edited (content (f c.args.edit.now.page)) c.args.edit.now.slot c.args.edit.now.bytes) ≤ 8192) (sym images) c.requires.room.room) in
    surely c.change-changed.result _ _ c.change-changed.ensures.content c.change-changed.ensures.no_room (λ e lacks. no_lack _ _ e.need e.free fits lacks)
    ∙ ap (λ (f : PageId → List ℕ). edited (content (f c.args.edit.now.page)) c.args.edit.now.slot c.as_slice.result.now) images
    ∙ ap (edited (content (img c.args.pages.now c.args.edit.now.page)) c.args.edit.now.slot) bytes

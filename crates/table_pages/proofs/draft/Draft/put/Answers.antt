use Rattle.std.proofs.Common.{◌∙◌, ◌<◌, ◌≤◌, ◌≢◌, List, ℕ, [], ap, sym, subst, refl}
use Rattle.std.specs.FinMap as finite
use Rattle.page_base.specs.declared.column.Column.{Column}
use Rattle.page_base.specs.declared.value.Value.{Value}
use Rattle.page_fmt.specs.Content.{content}
use Rattle.page_fmt.specs.Edits.{edited}
use Rattle.page_fmt.specs.Spelling.{used}
use Rattle.row_fmt.specs.Rows.{IsRow}
use Rattle.plain_model.specs.Tables.{key_of}
use Rattle.table_pages.specs.Drafts.{Goes}
use Rattle.table_pages.specs.Drafting.{Index, IsDraft, IsIndex, AreFull}
use Rattle.table_pages.proofs.DraftLemmas.{put_written, put_lacks}
use Rattle.table_pages.proofs.RoomLemmas.{full_put}
use Rattle.table_pages.proofs.draft.Draft.put.Goals as goal

pub returns-then-not-write-clause-lacks : goal.returns-then-not-write-clause-lacks
returns-then-not-write-clause-lacks c = λ rows no h.
    put_lacks c.args.cols.now c.args.self.now.page c.slot_for-slot.new.self.page c.args.self.now.index rows c.args.row.now c.in_ok-key.key c.in_ok-bytes.bytes c.as_slice-2.result.now c.slot_for-slot.result h
    (c.in_ok-key.ensures ∙ ap (λ (cs : List Column). key_of cs c.args.row.now) c.as_slice.ensures) c.slot_for-slot.ensures.page (c.slot_for-slot.ensures.goes c.args.cols.now c.args.row.now) (c.slot_for-slot.ensures.few c.args.cols.now) c.requires.fits c.in_ok-bytes.ensures c.as_slice-2.ensures
    (c.write.ensures.lacks c.if-not-write.true)

pub returns-in_err-put-clause-full : goal.returns-in_err-put-clause-full
returns-in_err-put-clause-full c =
    let d = c.write.ensures.done c.if-not-write.false in
    subst (λ (s : List (List ℕ)). AreFull s c.slot_for-slot.new.self.full) (sym d.0)
    (full_put (content c.slot_for-slot.new.self.page) c.slot_for-slot.result c.slot_for-slot.new.self.full c.as_slice-2.result.now d.2 (subst (λ (x : List ℕ). AreFull (content x) c.slot_for-slot.new.self.full) (sym c.slot_for-slot.ensures.page) c.slot_for-slot.ensures.full))

pub returns-clause-full : goal.returns-clause-full
returns-clause-full c =
    let d = c.write.ensures.done c.if-not-write.false in
    subst (λ (s : List (List ℕ)). AreFull s c.slot_for-slot.new.self.full) (sym d.0)
    (full_put (content c.slot_for-slot.new.self.page) c.slot_for-slot.result c.slot_for-slot.new.self.full c.as_slice-2.result.now d.2 (subst (λ (x : List ℕ). AreFull (content x) c.slot_for-slot.new.self.full) (sym c.slot_for-slot.ensures.page) c.slot_for-slot.ensures.full))

pub returns-clause-put : goal.returns-clause-put
returns-clause-put c = λ rows yes h.
    let d = c.write.ensures.done c.if-not-write.false in
    put_written c.args.cols.now c.args.self.now.page c.slot_for-slot.new.self.page c.args.self.now.index c.put.new.self rows c.args.row.now c.in_ok-key.key c.in_ok-bytes.bytes c.as_slice-2.result.now c.slot_for-slot.result c.write.new.page h c.requires.page
    (c.in_ok-key.ensures ∙ ap (λ (cs : List Column). key_of cs c.args.row.now) c.as_slice.ensures) c.slot_for-slot.ensures.page (c.slot_for-slot.ensures.goes c.args.cols.now c.args.row.now) (c.slot_for-slot.ensures.few c.args.cols.now) c.in_ok-bytes.ensures c.as_slice-2.ensures
    d.0 d.1 d.2 (c.in_ok-put.ensures.ok ∙ ap (λ (m : Index). finite.insert m c.in_ok-key.key c.slot_for-slot.result) c.slot_for-slot.ensures.index)

-- One slot of a page is another, or nothing changes.
use Rattle.std.proofs.Common.{◌≡◌, Some, true, refl, sym, ap, ◌∙◌, subst}
use Rattle.std.specs.Option.{option_map_or, option_copied_mut}
use Rattle.std.specs.Map.{lookup}
use Rattle.page_base.specs.Pages.{is_page, set_at, image_at}
use Rattle.page_fmt.specs.Content.{IsPage, content}
use Rattle.page_fmt.specs.Edits.{edited}
use Rattle.buf_pool.specs.declared.frame.Frame.{Frame}
use Rattle.buf_pool.specs.Pool.{Pooled, img}
use Rattle.buf_pool.specs.Steps.{SameHolds}
use Rattle.buf_pool.proofs.FrameLemmas.{no, on_err}
use Rattle.buf_pool.proofs.WrittenLemmas.{written, sound-written, sound-repinned, unchanged, img-here, img-alone, holds-written}
use Rattle.buf_pool.proofs.pool.Pool.set_slot.Goals as goal

pub invariant_of-self : goal.invariant_of-self
invariant_of-self g c =
    let v : Pooled = record { files = c.self.inside.files; entries = c.self.inside.frames.entries; frames = c.self.inside.frames.cap } in
    let old : Frame = c.unwrap-frame.result.now in
    let w : Frame = record { image = c.edit.new.image; dirty = old.dirty; pins = old.pins } in
    let at : lookup (is_page c.args.p) v.entries ≡ Some old = sym c.peek_mut.ensures.value ∙ ap option_copied_mut c.unwrap-frame.ensures in
    let same : w ≡ old = ap (λ image. record old { image = image }) c.in_err-edit.ensures.err in
    sound-repinned v c.args.p old w at c.self.invariant (ap (λ (f : Frame). f.image) same) refl

pub returns-in_err-edit-clause-err : goal.returns-in_err-edit-clause-err
returns-in_err-edit-clause-err g c =
    let v : Pooled = record { files = c.self.inside.files; entries = c.self.inside.frames.entries; frames = c.self.inside.frames.cap } in
    let old : Frame = c.unwrap-frame.result.now in
    let w : Frame = record { image = c.edit.new.image; dirty = old.dirty; pins = old.pins } in
    let at : lookup (is_page c.args.p) v.entries ≡ Some old = sym c.peek_mut.ensures.value ∙ ap option_copied_mut c.unwrap-frame.ensures in
    let same : w ≡ old = ap (λ image. record old { image = image }) c.in_err-edit.ensures.err in
    on_err c.from_residual.result (unchanged v c.args.p old w at same ∙ c.self.view_is)

pub returns-in_err-edit-clause-img : goal.returns-in_err-edit-clause-img
returns-in_err-edit-clause-img g c =
    let v : Pooled = record { files = c.self.inside.files; entries = c.self.inside.frames.entries; frames = c.self.inside.frames.cap } in
    let old : Frame = c.unwrap-frame.result.now in
    let w : Frame = record { image = c.edit.new.image; dirty = old.dirty; pins = old.pins } in
    let at : lookup (is_page c.args.p) v.entries ≡ Some old = sym c.peek_mut.ensures.value ∙ ap option_copied_mut c.unwrap-frame.ensures in
    img-alone v c.args.p old w at ∙ ap (λ (x : Pooled). set_at (img x) c.args.p (img (written v c.args.p old w at) c.args.p)) c.self.view_is

pub returns-in_err-edit-clause-page : goal.returns-in_err-edit-clause-page
returns-in_err-edit-clause-page g c =
    let v : Pooled = record { files = c.self.inside.files; entries = c.self.inside.frames.entries; frames = c.self.inside.frames.cap } in
    let old : Frame = c.unwrap-frame.result.now in
    let w : Frame = record { image = c.edit.new.image; dirty = old.dirty; pins = old.pins } in
    let at : lookup (is_page c.args.p) v.entries ≡ Some old = sym c.peek_mut.ensures.value ∙ ap option_copied_mut c.unwrap-frame.ensures in
    subst IsPage (sym (img-here v c.args.p old w at)) c.edit.ensures.page

pub returns-in_err-edit-clause-holds : goal.returns-in_err-edit-clause-holds
returns-in_err-edit-clause-holds g c =
    let v : Pooled = record { files = c.self.inside.files; entries = c.self.inside.frames.entries; frames = c.self.inside.frames.cap } in
    let old : Frame = c.unwrap-frame.result.now in
    let w : Frame = record { image = c.edit.new.image; dirty = old.dirty; pins = old.pins } in
    let at : lookup (is_page c.args.p) v.entries ≡ Some old = sym c.peek_mut.ensures.value ∙ ap option_copied_mut c.unwrap-frame.ensures in
    subst (λ (x : Pooled). SameHolds x (written v c.args.p old w at)) c.self.view_is (holds-written v c.args.p old w at refl)

pub invariant_of-self-2 : goal.invariant_of-self-2
invariant_of-self-2 g c =
    let v : Pooled = record { files = c.self.inside.files; entries = c.self.inside.frames.entries; frames = c.self.inside.frames.cap } in
    let old : Frame = c.unwrap-frame.result.now in
    let w : Frame = record { image = c.edit.new.image; dirty = true; pins = old.pins } in
    let at : lookup (is_page c.args.p) v.entries ≡ Some old = sym c.peek_mut.ensures.value ∙ ap option_copied_mut c.unwrap-frame.ensures in
    sound-written v c.args.p old w at c.self.invariant c.edit.ensures.page (λ _ clean. no clean)

pub returns-clause-content : goal.returns-clause-content
returns-clause-content g c =
    let v : Pooled = record { files = c.self.inside.files; entries = c.self.inside.frames.entries; frames = c.self.inside.frames.cap } in
    let old : Frame = c.unwrap-frame.result.now in
    let w : Frame = record { image = c.edit.new.image; dirty = true; pins = old.pins } in
    let at : lookup (is_page c.args.p) v.entries ≡ Some old = sym c.peek_mut.ensures.value ∙ ap option_copied_mut c.unwrap-frame.ensures in
    let was : old.image ≡ img v c.args.p = sym (ap (λ o. option_map_or (λ (f : Frame). f.image) o (image_at v.files.content c.args.p)) at) in
    ap content (img-here v c.args.p old w at) ∙ c.in_ok-edit.ensures.ok
    ∙ ap (λ image. edited (content image) c.args.i c.args.bytes.now) (was ∙ ap (λ (x : Pooled). img x c.args.p) c.self.view_is)

pub returns-clause-img : goal.returns-clause-img
returns-clause-img g c =
    let v : Pooled = record { files = c.self.inside.files; entries = c.self.inside.frames.entries; frames = c.self.inside.frames.cap } in
    let old : Frame = c.unwrap-frame.result.now in
    let w : Frame = record { image = c.edit.new.image; dirty = true; pins = old.pins } in
    let at : lookup (is_page c.args.p) v.entries ≡ Some old = sym c.peek_mut.ensures.value ∙ ap option_copied_mut c.unwrap-frame.ensures in
    img-alone v c.args.p old w at ∙ ap (λ (x : Pooled). set_at (img x) c.args.p (img (written v c.args.p old w at) c.args.p)) c.self.view_is

pub returns-clause-page : goal.returns-clause-page
returns-clause-page g c =
    let v : Pooled = record { files = c.self.inside.files; entries = c.self.inside.frames.entries; frames = c.self.inside.frames.cap } in
    let old : Frame = c.unwrap-frame.result.now in
    let w : Frame = record { image = c.edit.new.image; dirty = true; pins = old.pins } in
    let at : lookup (is_page c.args.p) v.entries ≡ Some old = sym c.peek_mut.ensures.value ∙ ap option_copied_mut c.unwrap-frame.ensures in
    subst IsPage (sym (img-here v c.args.p old w at)) c.edit.ensures.page

pub returns-clause-holds : goal.returns-clause-holds
returns-clause-holds g c =
    let v : Pooled = record { files = c.self.inside.files; entries = c.self.inside.frames.entries; frames = c.self.inside.frames.cap } in
    let old : Frame = c.unwrap-frame.result.now in
    let w : Frame = record { image = c.edit.new.image; dirty = true; pins = old.pins } in
    let at : lookup (is_page c.args.p) v.entries ≡ Some old = sym c.peek_mut.ensures.value ∙ ap option_copied_mut c.unwrap-frame.ensures in
    subst (λ (x : Pooled). SameHolds x (written v c.args.p old w at)) c.self.view_is (holds-written v c.args.p old w at refl)

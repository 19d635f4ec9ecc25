-- One frame has another image, and is dirty.
use Rattle.std.proofs.Common.{◌≡◌, Some, true, refl, sym, ap, ◌∙◌, subst}
use Rattle.std.specs.Option.{option_copied_mut}
use Rattle.std.specs.Map.{lookup}
use Rattle.page_base.specs.Pages.{is_page, set_at}
use Rattle.page_fmt.specs.Content.{IsPage}
use Rattle.buf_pool.specs.declared.frame.Frame.{Frame}
use Rattle.buf_pool.specs.Pool.{Pooled, img}
use Rattle.buf_pool.specs.Steps.{SameHolds}
use Rattle.buf_pool.proofs.FrameLemmas.{no}
use Rattle.buf_pool.proofs.WrittenLemmas.{written, sound-written, img-set, holds-written}
use Rattle.buf_pool.proofs.pool.Pool.set_image.Goals as goal

pub invariant_of-self : goal.invariant_of-self
invariant_of-self g c =
    let v : Pooled = record { files = c.self.inside.files; entries = c.self.inside.frames.entries; frames = c.self.inside.frames.cap } in
    let old : Frame = c.unwrap-frame.result.now in
    let w : Frame = record { image = c.set.new.self; dirty = true; pins = old.pins } in
    let at : lookup (is_page c.args.p) v.entries ≡ Some old = sym c.peek_mut.ensures.value ∙ ap option_copied_mut c.unwrap-frame.ensures in
    sound-written v c.args.p old w at c.self.invariant (subst IsPage (sym c.set.ensures) c.requires.page) (λ _ clean. no clean)

pub returns-clause-img : goal.returns-clause-img
returns-clause-img g c =
    let v : Pooled = record { files = c.self.inside.files; entries = c.self.inside.frames.entries; frames = c.self.inside.frames.cap } in
    let old : Frame = c.unwrap-frame.result.now in
    let w : Frame = record { image = c.set.new.self; dirty = true; pins = old.pins } in
    let at : lookup (is_page c.args.p) v.entries ≡ Some old = sym c.peek_mut.ensures.value ∙ ap option_copied_mut c.unwrap-frame.ensures in
    img-set v c.args.p old w at ∙ ap (λ image. set_at (img v) c.args.p image) c.set.ensures ∙ ap (λ (x : Pooled). set_at (img x) c.args.p c.args.from.now) c.self.view_is

pub returns-clause-holds : goal.returns-clause-holds
returns-clause-holds g c =
    let v : Pooled = record { files = c.self.inside.files; entries = c.self.inside.frames.entries; frames = c.self.inside.frames.cap } in
    let old : Frame = c.unwrap-frame.result.now in
    let w : Frame = record { image = c.set.new.self; dirty = true; pins = old.pins } in
    let at : lookup (is_page c.args.p) v.entries ≡ Some old = sym c.peek_mut.ensures.value ∙ ap option_copied_mut c.unwrap-frame.ensures in
    subst (λ (x : Pooled). SameHolds x (written v c.args.p old w at)) c.self.view_is (holds-written v c.args.p old w at refl)

-- One frame has a pin less.
use Rattle.std.proofs.Common.{◌≡◌, ◌-◌, Some, refl, sym, ap, ◌∙◌, subst}
use Rattle.std.specs.Option.{option_copied_mut}
use Rattle.std.specs.Map.{lookup}
use Rattle.page_base.specs.Pages.{is_page}
use Rattle.buf_pool.specs.declared.frame.Frame.{Frame}
use Rattle.buf_pool.specs.Pool.{Pooled, pins, without_pin}
use Rattle.buf_pool.specs.Steps.{SameShown}
use Rattle.buf_pool.proofs.WrittenLemmas.{written, pins-taken, sound-repinned, shown-written}
use Rattle.buf_pool.proofs.pool.Pool.unpin.Goals as goal

pub invariant_of-self : goal.invariant_of-self
invariant_of-self g c =
    let v : Pooled = record { files = c.self.inside.files; entries = c.self.inside.frames.entries; frames = c.self.inside.frames.cap } in
    let old : Frame = c.unwrap-frame.result.now in
    let w : Frame = record { image = old.image; dirty = old.dirty; pins = old.pins - 1 } in
    let at : lookup (is_page c.args.p) v.entries ≡ Some old = sym c.peek_mut.ensures.value ∙ ap option_copied_mut c.unwrap-frame.ensures in
    sound-repinned v c.args.p old w at c.self.invariant refl refl

pub returns-clause-pins : goal.returns-clause-pins
returns-clause-pins g c =
    let v : Pooled = record { files = c.self.inside.files; entries = c.self.inside.frames.entries; frames = c.self.inside.frames.cap } in
    let old : Frame = c.unwrap-frame.result.now in
    let w : Frame = record { image = old.image; dirty = old.dirty; pins = old.pins - 1 } in
    let at : lookup (is_page c.args.p) v.entries ≡ Some old = sym c.peek_mut.ensures.value ∙ ap option_copied_mut c.unwrap-frame.ensures in
    pins-taken v c.args.p old w at refl ∙ ap (λ x. without_pin (pins x) c.args.p) c.self.view_is

pub returns-clause-shown : goal.returns-clause-shown
returns-clause-shown g c =
    let v : Pooled = record { files = c.self.inside.files; entries = c.self.inside.frames.entries; frames = c.self.inside.frames.cap } in
    let old : Frame = c.unwrap-frame.result.now in
    let w : Frame = record { image = old.image; dirty = old.dirty; pins = old.pins - 1 } in
    let at : lookup (is_page c.args.p) v.entries ≡ Some old = sym c.peek_mut.ensures.value ∙ ap option_copied_mut c.unwrap-frame.ensures in
    subst (λ (x : Pooled). SameShown x (written v c.args.p old w at)) c.self.view_is (shown-written v c.args.p old w at refl)

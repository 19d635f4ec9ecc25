-- A page in memory shows its image, whatever its file holds.
use Rattle.std.proofs.Common.{◌≡◌, Some, true, false, is_some, sym, ap, ◌∙◌, subst}
use Rattle.std.specs.Option.{option_map_or, option_copied}
use Rattle.std.specs.Map.{lookup}
use Rattle.page_base.specs.Pages.{is_page}
use Rattle.buf_pool.specs.declared.frame.Frame.{Frame}
use Rattle.buf_pool.specs.Pool.{Pooled, is_dirty}
use Rattle.buf_pool.specs.Steps.{Stays}
use Rattle.buf_pool.proofs.FiledLemmas.{stays-filed, sound-filed}
use Rattle.buf_pool.proofs.pool.Pool.write.Goals as goal

pub write_page-requires : goal.write_page-requires
write_page-requires g c = c.self.invariant.there c.args.p (ap is_some (sym c.peek.ensures ∙ ap option_copied c.unwrap-frame.ensures))

pub invariant_of-self : goal.invariant_of-self
invariant_of-self g c =
    let v : Pooled = record { files = c.self.inside.files; entries = c.self.inside.frames.entries; frames = c.self.inside.frames.cap } in
    let old : Frame = c.unwrap-frame.result.now in
    let at : lookup (is_page c.args.p) v.entries ≡ Some old = sym c.peek.ensures ∙ ap option_copied c.unwrap-frame.ensures in
    let dirty : old.dirty ≡ true = sym (ap (λ o. option_map_or (λ (f : Frame). f.dirty) o false) at) ∙ ap (λ x. is_dirty x c.args.p) c.self.view_is ∙ c.requires.dirty in
    sound-filed v c.write_page.new.self c.args.p old at c.write_page.ensures.tells c.write_page.ensures.counts (λ told. (let w = c.write_page.ensures.written told in (w.left, w.is))) dirty c.self.invariant

pub returns-clause-stays : goal.returns-clause-stays
returns-clause-stays g c =
    let v : Pooled = record { files = c.self.inside.files; entries = c.self.inside.frames.entries; frames = c.self.inside.frames.cap } in
    let old : Frame = c.unwrap-frame.result.now in
    let at : lookup (is_page c.args.p) v.entries ≡ Some old = sym c.peek.ensures ∙ ap option_copied c.unwrap-frame.ensures in
    subst (λ (x : Pooled). Stays x (record v { files = c.write_page.new.self })) c.self.view_is
    (stays-filed v c.write_page.new.self c.args.p old at c.write_page.ensures.tells c.write_page.ensures.counts (λ told. (let w = c.write_page.ensures.written told in (w.left, w.is))) c.write_page.ensures.cause_of_sum.later)

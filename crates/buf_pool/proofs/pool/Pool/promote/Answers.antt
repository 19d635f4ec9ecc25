-- A use changes the order alone.
use Rattle.std.proofs.Common.{◌≡◌, ◌∷◌, is_some, sym, ap, ◌∙◌, subst}
use Rattle.std.specs.Map.{lookup, keys_of}
use Rattle.page_base.specs.Pages.{is_page}
use Rattle.buf_pool.specs.Pool.{Pooled, IsSound, frame_of}
use Rattle.buf_pool.specs.Order.{order, without}
use Rattle.buf_pool.specs.Steps.{Stays}
use Rattle.buf_pool.proofs.OrderLemmas.{lookup-promoted, keys-promoted}
use Rattle.buf_pool.proofs.UsedLemmas.{used_again, stays-used, sound-used}
use Rattle.buf_pool.proofs.pool.Pool.promote.Goals as goal

pub invariant_of-self : goal.invariant_of-self
invariant_of-self g c =
    let v : Pooled = record { files = c.self.inside.files; entries = c.self.inside.frames.entries; frames = c.self.inside.frames.cap } in
    subst (λ f. IsSound (record { files = v.files; entries = f.entries; frames = f.cap })) (sym c.promote.ensures.entries) (sound-used v c.args.p c.self.invariant)

pub returns-clause-stays : goal.returns-clause-stays
returns-clause-stays g c =
    let v : Pooled = record { files = c.self.inside.files; entries = c.self.inside.frames.entries; frames = c.self.inside.frames.cap } in
    subst (λ f. Stays c.args.self.now (record { files = v.files; entries = f.entries; frames = f.cap })) (sym c.promote.ensures.entries)
    (subst (λ (x : Pooled). Stays x (used_again v c.args.p)) c.self.view_is (stays-used v c.args.p))

pub returns-clause-pooled : goal.returns-clause-pooled
returns-clause-pooled g c =
    ap (λ f. is_some (lookup (is_page c.args.p) f.entries)) c.promote.ensures.entries
    ∙ ap is_some (lookup-promoted c.args.p c.self.inside.frames.entries c.args.p) ∙ ap (λ (x : Pooled). is_some (frame_of x c.args.p)) c.self.view_is ∙ c.requires

pub returns-clause-order : goal.returns-clause-order
returns-clause-order g c =
    let v : Pooled = record { files = c.self.inside.files; entries = c.self.inside.frames.entries; frames = c.self.inside.frames.cap } in
    let e : v ≡ c.args.self.now = c.self.view_is in
    ap (λ f. keys_of f.entries) c.promote.ensures.entries
    ∙ keys-promoted c.args.p v.entries (ap (λ (x : Pooled). is_some (frame_of x c.args.p)) e ∙ c.requires) ∙ ap (λ x. c.args.p ∷ without c.args.p (order x)) e

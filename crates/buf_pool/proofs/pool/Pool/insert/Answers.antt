-- A frame that wasn't there stands in front.
use Rattle.std.proofs.Common.{◌≡◌, ◌<◌, ◌∷◌, false, slice_index, None, length, refl, sym, ap, ◌∙◌, subst}
use Rattle.std.specs.Map.{keys_of}
use Rattle.lru.specs.LruCache.{LruCache, lru_cache}
use Rattle.page_base.specs.declared.numbers.PageId.{PageId}
use Rattle.page_base.specs.Pages.{image_at}
use Rattle.buf_pool.specs.declared.frame.Frame.{Frame}
use Rattle.buf_pool.specs.Pool.{Pooled, IsSound, frame_of}
use Rattle.buf_pool.specs.Order.{order}
use Rattle.buf_pool.specs.Steps.{PinsOnce}
use Rattle.buf_pool.proofs.FrameLemmas.{sound-changed}
use Rattle.buf_pool.proofs.LoadedLemmas.{put-new, loaded, changes-loaded, once-loaded}
use Rattle.buf_pool.proofs.pool.Pool.insert.Goals as goal

pub invariant_of-self-2 : goal.invariant_of-self-2
invariant_of-self-2 g c =
    let v : Pooled = record { files = c.self.inside.files; entries = c.self.inside.frames.entries; frames = c.self.inside.frames.cap } in
    let e : v ≡ c.args.self.now = c.self.view_is in
    let w : Frame = record { image = c.args.image; dirty = false; pins = 1 } in
    let absent : frame_of v c.args.p ≡ None = ap (λ x. frame_of x c.args.p) e ∙ c.requires.absent in
    let room : length v.entries < v.frames = subst (λ (x : Pooled). length x.entries < x.frames) (sym e) c.requires.room in
    let is : c.put.new.self ≡ lru_cache ((c.args.p, w) ∷ v.entries) v.frames = c.in_ok-put.ensures.entries ∙ ap (λ es. lru_cache es v.frames) (put-new v c.args.p w absent room) in
    subst (λ (f : LruCache PageId Frame). IsSound (record { files = v.files; entries = f.entries; frames = f.cap })) (sym is)
    (sound-changed v ((c.args.p, w) ∷ v.entries) c.args.p w (changes-loaded v c.args.p w absent room) c.self.invariant
    (subst (λ (x : Pooled). c.args.p.page < slice_index x.files.counts c.args.p.file) (sym e) c.requires.there) c.requires.page
    (λ told _. c.requires.bytes (sym (ap (λ (x : Pooled). x.files.tells) e) ∙ told) ∙ ap (λ (x : Pooled). image_at x.files.content c.args.p) (sym e)))

pub returns-clause-once : goal.returns-clause-once
returns-clause-once g c =
    let v : Pooled = record { files = c.self.inside.files; entries = c.self.inside.frames.entries; frames = c.self.inside.frames.cap } in
    let e : v ≡ c.args.self.now = c.self.view_is in
    let w : Frame = record { image = c.args.image; dirty = false; pins = 1 } in
    let absent : frame_of v c.args.p ≡ None = ap (λ x. frame_of x c.args.p) e ∙ c.requires.absent in
    let room : length v.entries < v.frames = subst (λ (x : Pooled). length x.entries < x.frames) (sym e) c.requires.room in
    let is : c.put.new.self ≡ lru_cache ((c.args.p, w) ∷ v.entries) v.frames = c.in_ok-put.ensures.entries ∙ ap (λ es. lru_cache es v.frames) (put-new v c.args.p w absent room) in
    subst (λ (f : LruCache PageId Frame). PinsOnce c.args.p c.args.self.now (record { files = v.files; entries = f.entries; frames = f.cap })) (sym is)
    (subst (λ (x : Pooled). PinsOnce c.args.p x (loaded v c.args.p w absent room)) e
    (once-loaded v c.args.p w absent room refl c.requires.page (λ told. c.requires.bytes (sym (ap (λ (x : Pooled). x.files.tells) e) ∙ told) ∙ ap (λ (x : Pooled). image_at x.files.content c.args.p) (sym e))))

pub returns-clause-order : goal.returns-clause-order
returns-clause-order g c =
    let v : Pooled = record { files = c.self.inside.files; entries = c.self.inside.frames.entries; frames = c.self.inside.frames.cap } in
    let e : v ≡ c.args.self.now = c.self.view_is in
    let w : Frame = record { image = c.args.image; dirty = false; pins = 1 } in
    let absent : frame_of v c.args.p ≡ None = ap (λ x. frame_of x c.args.p) e ∙ c.requires.absent in
    let room : length v.entries < v.frames = subst (λ (x : Pooled). length x.entries < x.frames) (sym e) c.requires.room in
    let is : c.put.new.self ≡ lru_cache ((c.args.p, w) ∷ v.entries) v.frames = c.in_ok-put.ensures.entries ∙ ap (λ es. lru_cache es v.frames) (put-new v c.args.p w absent room) in
    ap (λ (f : LruCache PageId Frame). keys_of f.entries) is ∙ ap (λ x. c.args.p ∷ order x) e

use Rattle.std.proofs.Common.{◌∙◌, List, ℕ, subst}
use Rattle.std.specs.Io.KnownBytes.{Appends}
use Rattle.page_dev.specs.Sink.{AppendsFront}
use Rattle.snapdb.proofs.top.script_status.Goals as goal

pub returns-in-Ok : goal.returns-in-Ok
returns-in-Ok g c =
    let is = c.deref.ensures.value ∙ c.in-Ok.ensures in
    let w = c.written.ensures in
    record {
      known = w.known;
      all = λ two. subst (λ (t : List ℕ). Appends (g.K.Sink.taken c.args.out.now) (g.K.Sink.taken c.written.new.out) t) is (w.all two);
      front = subst (λ (t : List ℕ). AppendsFront (g.K.Sink.taken c.args.out.now) (g.K.Sink.taken c.written.new.out) t) is w.front;
      failed = w.failed;
      later = w.later;
    }

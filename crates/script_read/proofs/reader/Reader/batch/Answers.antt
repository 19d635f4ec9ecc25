use Rattle.std.proofs.Common.{◌∙◌, ◌-◌, length, arith, length-take, ap, refl}
use Rattle.script_read.specs.Left.{left}
use Rattle.script_read.specs.Lines.{ended}
use Rattle.script_read.proofs.LineLemmas.{lines_whole}
use Rattle.script_read.proofs.Takings.{took_more, took_bytes, no_value}
use Rattle.script_read.proofs.reader.Reader.batch.Goals as goal

pub loop-inner-preserved : goal.loop-inner-preserved
loop-inner-preserved c = rw (c.noted-bad.ensures, c.advance.ensures.left, c.advance.ensures.line) (took_more _ _ _ _ _ _ _ c.loop-inner.invariant c.in-Some.ensures.0 c.in-Some.ensures.1)

pub returns-clause-takes : goal.returns-clause-takes
returns-clause-takes c =
    let h = c.loop-inner.invariant in
    record {
      lines = h.lines;
      split = h.split;
      inner = h.inner;
      stops = no_value _ _ _ c.inner_line.ensures c.in_default.not-Some;
      bytes_are = c.front_of.ensures ∙ took_bytes h.lines (left c.loop-inner.self) _ _ (c.rest-start.ensures.whole ∙ ap ended h.split) c.rest.ensures.whole;
      line_is = refl;
      bad_is = h.bad_is;
      next_is = h.next_is;
    }

pub returns-clause-counted : goal.returns-clause-counted
returns-clause-counted c = omega (arith, ap length c.front_of.ensures, length-take (length c.rest-start.result.now - length c.rest.result.now - 1) c.rest-start.result.now, c.rest-start.ensures.counted, c.rest-start.ensures.numbered)

pub returns-clause-whole : goal.returns-clause-whole
unfolding left
returns-clause-whole c = lines_whole c.args.self.now.rest.now

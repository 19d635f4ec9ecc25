use Rattle.std.proofs.Common.{arith}
use borrow.Author.Count.{below_more}
use Rattle.table_pages.proofs.FoundLemmas.{is_blank, isnt_blank}
use Rattle.table_pages.proofs.finding.blank_page.Goals as goal

pub loop-i-init : goal.loop-i-init
loop-i-init g c = λ k lt. absurd (omega arith)

pub returns-then-is_blank : goal.returns-then-is_blank
returns-then-is_blank g c = record {
  within = let lt = c.loop-i-test.true in let n = c.data_pages-i-end.ensures in omega arith;
  blank = is_blank c.args.pages.now c.loop-i.i c.image.result.now c.image.ensures c.is_blank.result c.is_blank.ensures c.if-is_blank.true;
  first = c.loop-i.invariant;
}

pub loop-i-preserved : goal.loop-i-preserved
loop-i-preserved g c = below_more _ _ c.loop-i.invariant (isnt_blank c.args.pages.now c.loop-i.i c.image.result.now c.image.ensures c.is_blank.result c.is_blank.ensures c.if-is_blank.false)

pub returns : goal.returns
returns g c = λ k lt. c.loop-i.invariant k (let le = c.loop-i-test.false in let n = c.data_pages-i-end.ensures in omega arith)

-- Place by place, the first session in the way is the lowest.
use Rattle.std.proofs.Common.{◌+◌, length, refl, inl, inr, sym, ◌∙◌, arith}
use Rattle.std.proofs.lemmas.Bool.{cases_lt}
use Rattle.latch_book.proofs.InTheWay.{in_the_way, one_more, none_first, none_past}
use Rattle.latch_book.proofs.book.lowest_in_way.Goals as goal

pub loop-i-init : goal.loop-i-init
loop-i-init c = λ k le. none_first c.args.latches.now c.args.who k c.args.page c.args.mode le

pub loop-i-preserved : goal.loop-i-preserved
loop-i-preserved c = one_more c.args.latches.now c.args.who c.args.page c.args.mode c.loop-i.i c.loop-i.invariant (sym c.blocks-in-loop-i.ensures ∙ c.if-blocks.false)

pub returns-then-blocks : goal.returns-then-blocks
returns-then-blocks c = record {
  there = in_the_way c.args.latches.now c.args.who (record { 0 = c.loop-i.i + 1 }) c.args.page c.args.mode c.loop-i.i (sym c.blocks-in-loop-i.ensures ∙ c.if-blocks.true) refl c.requires.none;
  lowest = λ j below. c.loop-i.invariant j (omega arith);
}

pub returns : goal.returns
returns c = λ k. elim (cases_lt (length c.args.latches.now) k.0) [
  | inl past ↦ none_past c.args.latches.now c.args.who k c.args.page c.args.mode past
  | inr within ↦ c.loop-i.invariant k (omega arith)
]

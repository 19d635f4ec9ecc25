use Rattle.std.proofs.Common.{arith}
use Rattle.table_pages.proofs.DraftLemmas.{cut_none, cut_more, cut_end}
use Rattle.table_pages.proofs.draft.Draft.cut_all.Goals as goal

pub loop-key-init : goal.loop-key-init
loop-key-init c = record { page = c.requires.page; full = c.requires.full; so_far = λ cols rows h. cut_none cols c.args.keys.now c.args.self.now.page rows c.args.self.now.index h }

pub loop-key-preserved : goal.loop-key-preserved
loop-key-preserved c = record {
  page = c.cut.ensures.page;
  full = c.cut.ensures.full;
  so_far = λ cols rows h.
      cut_more cols c.args.keys.now c.args.self.now.page rows c.loop-key.self.page c.loop-key.self.index c.loop-key.key-index c.key-item.result c.cut.new.self.page c.cut.new.self.index c.loop-key.invariant.page c.loop-key-test.true c.key-item.is
      (c.loop-key.invariant.so_far cols rows h) (c.cut.ensures.draft cols) (c.cut.ensures.cuts cols) (c.cut.ensures.front cols);
}

pub returns-clause-draft : goal.returns-clause-draft
returns-clause-draft c = λ cols rows h. (cut_end cols c.args.keys.now c.args.self.now.page rows c.loop-key.self.page c.loop-key.self.index c.loop-key.key-index c.loop-key-test.false (c.loop-key.invariant.so_far cols rows h)).0

pub returns-clause-cuts : goal.returns-clause-cuts
returns-clause-cuts c = λ cols rows h. (cut_end cols c.args.keys.now c.args.self.now.page rows c.loop-key.self.page c.loop-key.self.index c.loop-key.key-index c.loop-key-test.false (c.loop-key.invariant.so_far cols rows h)).1

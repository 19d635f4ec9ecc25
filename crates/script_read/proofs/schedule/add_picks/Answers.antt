use Rattle.script_read.proofs.WordLemmas.{added_more, added_wrong}
use Rattle.script_read.proofs.schedule.add_picks.Goals as goal

pub returns-then-not-branch : goal.returns-then-not-branch
returns-then-not-branch c = added_wrong _ _ _ _ _ c.add_word.new.picks c.loop-rest.invariant (rw (c.if-not-branch.true, c.word_len.ensures.value) at c.in_ok-add_word.ensures)

pub loop-rest-preserved : goal.loop-rest-preserved
loop-rest-preserved c = rw c.behind_word-rest.ensures.value (added_more _ _ _ _ _ _ c.loop-rest.invariant (rw (c.if-not-branch.false, c.word_len.ensures.value) at c.in_ok-add_word.ensures))

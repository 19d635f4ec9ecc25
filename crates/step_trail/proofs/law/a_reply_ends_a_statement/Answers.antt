use Rattle.step_trail.proofs.KindLemmas.{behind_reply, none_behind_leave, first_kinds, no_flush}
use Rattle.step_trail.proofs.law.a_reply_ends_a_statement.Goals as goal

pub returns-clause-said : goal.returns-clause-said
returns-clause-said c = behind_reply

pub returns-clause-left : goal.returns-clause-left
returns-clause-left c = none_behind_leave

pub returns-clause-first : goal.returns-clause-first
returns-clause-first c = first_kinds

pub returns-clause-flusher : goal.returns-clause-flusher
returns-clause-flusher c = no_flush

use Rattle.std.proofs.Common.{◌∙◌, ap, sym}
use Rattle.early_engine.specs.Stepping.{is_refusal}
use Rattle.early_engine.specs.Ready.{reply_of}
use Rattle.early_engine.proofs.AnswerLemmas.{refusal_stays, use_enters, other_stays}
use Rattle.early_engine.proofs.answering.current_after.Goals as goal

pub returns-then-is_refusal : goal.returns-then-is_refusal
returns-then-is_refusal c = sym (refusal_stays c.args.stmt.now (reply_of c.args.answer.now) c.args.current (ap is_refusal (sym c.reply_of.ensures) ∙ sym c.is_refusal.ensures ∙ c.if-is_refusal.true))

pub returns-in-UseDb : goal.returns-in-UseDb
returns-in-UseDb c = rw c.in-UseDb.is (sym (use_enters _ (reply_of c.args.answer.now) c.args.current (ap is_refusal (sym c.reply_of.ensures) ∙ sym c.is_refusal.ensures ∙ c.if-is_refusal.false)))

pub returns-in_default : goal.returns-in_default
returns-in_default c = sym (other_stays c.args.stmt.now (reply_of c.args.answer.now) c.args.current c.in_default.not-UseDb)

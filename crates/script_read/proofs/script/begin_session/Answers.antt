use Rattle.std.proofs.Common.{sym, ◌∙◌, refl}
use Rattle.script_read.specs.Steps.{place_at}
use Rattle.script_read.proofs.Takings.{no_value}
use Rattle.script_read.proofs.Whole.{later_refused, last_is, last_none, none_of}
use Rattle.script_read.proofs.script.begin_session.Goals as goal

pub returns-in_default-clause-ok : goal.returns-in_default-clause-ok
returns-in_default-clause-ok c = (last_none c.args.sessions _ (no_value _ _ _ c.peek.ensures c.in_default.not-Some), refl, refl)

pub returns-in-Some-fault_behind-clause-refused : goal.returns-in-Some-fault_behind-clause-refused
returns-in-Some-fault_behind-clause-refused c = λ said.
    rw c.refused.ensures (later_refused (place_at c.args.sessions) said _ _ _ c.in-Some.line.now _ c.in-Some.ensures (sym c.in-Some-fault_behind.is ∙ c.fault_behind.ensures))

pub returns-then-not-is_session-clause-ok : goal.returns-then-not-is_session-clause-ok
returns-then-not-is_session-clause-ok c =
    (last_is c.args.sessions _ _ c.in-Some.line.now c.in-Some.ensures c.requires.behind (sym c.fault_behind.ensures ∙ none_of _ c.in_default-fault_behind.not-Some) (sym c.is_session.ensures ∙ c.if-not-is_session.true), refl, refl)

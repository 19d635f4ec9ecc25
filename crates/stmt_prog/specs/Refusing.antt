-- Why a statement doesn't go on.
use Rattle.std.specs.Prelude.{⊤}
use Rattle.plain_model.specs.declared.reply.Message.{Message}
use Rattle.plain_model.specs.declared.reply.TheConstants.Message.{DAMAGED}
use Rattle.plain_model.specs.Messages.{at_place}
use Rattle.sys_cat.specs.declared.desc.DescRefusal.{DescRefusal}
use Rattle.sys_cat.specs.declared.desc.DescRefusal.TheVariants as descs
use Rattle.table_walk.specs.declared.refusal.SeenRefusal.{SeenRefusal}
use Rattle.table_walk.specs.declared.refusal.SeenRefusal.TheVariants as seen
use Rattle.stmt_prog.specs.declared.refusal.Refusal.{Refusal}
use Rattle.stmt_prog.specs.declared.refusal.Refusal.TheVariants.{Refused, Memory}

-- what is said of the message, if there is one; want of memory is free
abbrev pub IfSaid : (Message → Type 0) → Refusal → Type 0
IfSaid P (Refused m) = P m
IfSaid P Memory = ⊤

-- a damaged slot carries its place
abbrev pub of_seen : SeenRefusal → Refusal
of_seen (seen.Damaged page slot) = Refused (at_place DAMAGED slot)
of_seen seen.Memory = Memory

-- and so does a row of table 0 that is none
abbrev pub of_descs : DescRefusal → Refusal
of_descs (descs.Form row) = Refused (at_place DAMAGED row)
of_descs descs.Memory = Memory

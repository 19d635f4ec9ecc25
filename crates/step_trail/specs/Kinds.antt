-- Which kind of step may stand behind which in a session, by the programs of its statements.
use Rattle.std.specs.Prelude.{ℕ, Bool, ◌==◌, List, [], ◌∷◌, Option, Some, None}
use Rattle.std.specs.List.{list_any}
use Rattle.plain_model.specs.declared.kind.Kind.{Kind}
use Rattle.plain_model.specs.declared.kind.Kind.TheVariants.{Start, Lock, Latch, Look, Fetch, Seek, Read, Plan, Pass, Copy, Mark, Claim, Change, Back, Heal, Cut, Gather, Swap, Commit, Say, Leave, Flush}

-- the kinds by numbers
abbrev pub kind_number : Kind → ℕ
kind_number Start = 0
kind_number Lock = 1
kind_number Latch = 2
kind_number Look = 3
kind_number Fetch = 4
kind_number Seek = 5
kind_number Read = 6
kind_number Plan = 7
kind_number Pass = 8
kind_number Copy = 9
kind_number Mark = 10
kind_number Claim = 11
kind_number Change = 12
kind_number Back = 13
kind_number Heal = 14
kind_number Cut = 15
kind_number Gather = 16
kind_number Swap = 17
kind_number Commit = 18
kind_number Say = 19
kind_number Leave = 20
kind_number Flush = 21

abbrev pub is_kind : Kind → Kind → Bool
is_kind a b = kind_number a == kind_number b

-- a session begins with a statement, or leaves if it has none
abbrev pub at_first : List Kind
at_first = Start ∷ Leave ∷ []

-- behind a statement's last step comes the next statement, or the session's end, which takes an open transaction back first
abbrev pub at_next : List Kind
at_next = Latch ∷ at_first

-- The kinds that may stand behind one. A visit of a page is latch, fetch, and then seek or read; in a snapshot latch, look,
-- fetch, and then seek or read. An edit is latch, fetch, copies with their marks, and change. A claim is latch, fetch and pass for
-- each full allocation page, and then latch, fetch, copies with their marks, and claim. A record is taken back by latch, copies
-- with their marks, and back; one that a new snapshot owes by latch, copies with their marks, and heal. A step that is refused
-- says so itself, but where records are to be taken back first, or where it read a sparse file that failed.
abbrev pub behind : Kind → List Kind
-- all programs begin so; the first step of a rollback, or of a visit in a snapshot, is a latch; what needs no page is said here
behind Start = Lock ∷ Commit ∷ Cut ∷ Gather ∷ Swap ∷ Say ∷ at_next
-- visits of the table that was locked; an INSERT that looks no key up plans at once
behind Lock = Plan ∷ at_next
-- by visit, edit, claim, undo and heal; a heal whose snapshot turned suspect is answered
behind Latch = Look ∷ Fetch ∷ Copy ∷ Back ∷ Heal ∷ Say ∷ []
behind Look = Fetch ∷ []
-- a read of a sparse file that failed is answered by the next step
behind Fetch = Seek ∷ Read ∷ Pass ∷ Copy ∷ Change ∷ Claim ∷ Say ∷ at_next
-- the next visit, the second lock, the plan, or a SELECT's reply
behind Seek = Lock ∷ Plan ∷ Say ∷ at_next
behind Read = Lock ∷ Plan ∷ Say ∷ at_next
-- the first claim or edit, or what ends a write: a commit, or its reply in a transaction
behind Plan = Commit ∷ Say ∷ at_next
-- the next allocation page, or what was written goes back
behind Pass = at_next
-- without a mark where the copy failed; a heal goes on copying until its snapshot has the page or is suspect
behind Copy = Mark ∷ Copy ∷ Change ∷ Claim ∷ Back ∷ Say ∷ []
behind Mark = Copy ∷ Change ∷ Claim ∷ Back ∷ Heal ∷ Say ∷ []
-- a claim is refused where its slot names a page that isn't there, a change where it doesn't fit
behind Claim = Commit ∷ Say ∷ at_next
behind Change = Commit ∷ Say ∷ at_next
-- the next record, or what waits behind the last one
behind Back = Latch ∷ Say ∷ Leave ∷ []
behind Heal = Latch ∷ Say ∷ []
-- the first heal, or the reply
behind Cut = Say ∷ at_next
-- the next page, or the revert once all are gathered
behind Gather = Gather ∷ Swap ∷ Say ∷ at_next
behind Swap = at_next
-- after a failure of the log the whole transaction goes back
behind Commit = at_next
behind Say = at_next
behind Leave = []
behind Flush = []

-- whether a kind may stand behind another
abbrev pub follows : Kind → Kind → Bool
follows a b = list_any (is_kind b) (behind a)

-- or behind none
abbrev pub follows_last : Option Kind → Kind → Bool
follows_last None b = list_any (is_kind b) at_first
follows_last (Some a) b = follows a b

-- whether a statement may be answered by a step of this kind: the next one may stand behind it
abbrev pub may_say : Kind → Bool
may_say kind = follows kind Start

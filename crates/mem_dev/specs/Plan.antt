-- Which of an object's calls to come fail, and how many have failed.
use Rattle.std.specs.Prelude.{ℕ, ◌-◌, ◌==◌, Bool, List, [], map, Option, None, if◌then◌else◌}
use Rattle.std.specs.List.{list_any}
use Rattle.page_dev.specs.Faults.{added}

-- the failing calls, numbered from the next one as 1, and the faults so far
pub record Plan : Type 0 where
  pub due : List ℕ
  pub failures : ℕ

-- a plan for calls that are still to come
abbrev pub planned : List ℕ → Plan
planned calls = record { due = calls; failures = 0 }

-- whether the next call fails
abbrev pub fails_next : List ℕ → Bool
fails_next due = list_any (λ call. call == 1) due

-- the failing calls, numbered anew after one call
abbrev pub one_call_less : List ℕ → List ℕ
one_call_less due = map (λ call. call - 1) due

-- the count after one more fault
abbrev pub one_more : ℕ → ℕ
one_more count = added count 1

-- the plan after one call
abbrev pub after_call : Plan → Plan
after_call plan = record { due = one_call_less plan.due; failures = if fails_next plan.due then one_more plan.failures else plan.failures }

-- the plan after a fault that was not planned
abbrev pub after_fault : Plan → Plan
after_fault plan = record plan { failures = one_more plan.failures }

-- what the files of a name meet: their failing calls, and how many written pages they may have
pub record Rule : Type 0 where
  pub due : List ℕ
  pub limit : Option ℕ

-- files without a rule meet nothing
abbrev pub no_rule : Rule
no_rule = record { due = []; limit = None }

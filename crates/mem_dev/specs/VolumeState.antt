-- What a volume in memory is: its files, what the files of each name meet, and the calls that fail.
use Rattle.std.specs.Prelude.{ℕ, if◌then◌else◌, List, unwrap_or}
use Rattle.std.specs.Ordering.{nat_cmp}
use Rattle.std.specs.Cmp.Lexicographic.{slice_cmp}
use Rattle.std.specs.FinMap.{FinMap}
use Rattle.std.specs.FinMap as map
use Rattle.page_dev.specs.Volume.{Folder}
use Rattle.mem_dev.specs.Plan.{Plan, Rule, no_rule}

abbrev pub Rules : Type 0
Rules = FinMap (slice_cmp nat_cmp) Rule

-- a volume: its files, the rules of names, the calls of its own that fail, and the sum of its files' counts
pub record VolumeState : Type 0 where
  pub folder : Folder
  pub rules : Rules
  pub plan : Plan
  pub file_failures : ℕ

-- what the next file of a name meets
abbrev pub rule_of : Rules → List ℕ → Rule
rule_of rules name = unwrap_or (map.get rules name) no_rule

-- the rules after a file of a name came back with what is left of its rule
abbrev pub rules_after : Rules → List ℕ → Rule → Rules
rules_after rules name rule = if map.contains_key rules name then map.insert rules name rule else rules

-- Which entries the end of a run leaves: rounds, until all sessions have left.
use Rattle.std.specs.Prelude.{ℕ, ◌≡◌, true, false, List, [], ◌∷◌, ◌++◌, map}
use Rattle.std.specs.List.{AllByRecursion}
use Rattle.step_trail.specs.Entries.{Did, Entry, Step, staying}

-- these sessions were tried, none of which went, and those are left to try
pub record AreTried (whos : List ℕ) (busy : List Did) (rest : List ℕ) : Type 0 where
  pub tried : whos ≡ map (λ (d : Did). d.who) busy ++ rest
  pub waited : AllByRecursion (λ (d : Did). d.went ≡ false) busy

-- of these sessions one after the other was tried, up to the first that went
pub record IsRound (whos : List ℕ) (dids : List Did) : Type 0 where
  pub busy : List Did
  pub last : Did
  pub rest : List ℕ
  pub tried : AreTried whos busy (last.who ∷ rest)
  pub went : last.went ≡ true
  pub are : dids ≡ busy ++ last ∷ []

-- each round tries the sessions that haven't left by then, in ascending order
abbrev pub AreRounds : ℕ → List Entry → List (List Did) → Type 0
AreRounds sessions before [] = Unit {0}
AreRounds sessions before (r ∷ rs) = IsRound (staying sessions before) r × AreRounds sessions (before ++ map Step r) rs

-- the entries of rounds
abbrev pub entries_in : List (List Did) → List Entry
entries_in [] = []
entries_in (r ∷ rs) = map Step r ++ entries_in rs

-- behind the entries before, these are rounds, after the last of which all have left
pub record Finished (sessions : ℕ) (before entries : List Entry) : Type 0 where
  pub rounds : List (List Did)
  pub are : entries ≡ entries_in rounds
  pub tried : AreRounds sessions before rounds
  pub left : staying sessions (before ++ entries) ≡ []

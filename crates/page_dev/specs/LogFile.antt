-- What reads and appends of a log file do to its bytes.
use Rattle.std.specs.Prelude.{◌≡◌, ℕ, ◌-◌, ◌++◌, List, length, take, drop, min, Result, IfOk}
use Rattle.page_dev.specs.declared.log_file.LogRefusal.{LogRefusal}
use Rattle.page_dev.specs.declared.log_file.LogRefusal.TheVariants.{Failed, Memory}
use Rattle.std.specs.Prelude.{Ok, Err}

-- as many bytes from a place as the piece holds and the file has
pub record ReadsAt {E : Type 0} (file : List ℕ) (at : ℕ) (piece : List ℕ) (result : Result ℕ E) : Type 0 where
  pub count : IfOk result (λ n. n ≡ min (length piece) (length file - at))
  pub bytes : IfOk result (λ n. take n piece ≡ take n (drop at file))

-- the file is its first bytes up to the end that was given, and then the new bytes; after want of memory it is as
-- before, and after a failure those first bytes stand
abbrev pub Appends : {T : Type 0} → ℕ → List ℕ → List ℕ → List ℕ → Result T LogRefusal → Type 0
Appends end bytes old new (Ok _) = new ≡ take end old ++ bytes
Appends end bytes old new (Err Failed) = take end new ≡ take end old
Appends end bytes old new (Err Memory) = new ≡ old

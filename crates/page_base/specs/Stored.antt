-- How a name lies in its array of 128 bytes: its bytes, and zeros behind them.
use Rattle.std.specs.Prelude.{ℕ, ◌≡◌, ◌≤◌, List, length, take}
use Rattle.std.proofs.Common.{arith, sym, length-take}
use Rattle.page_base.specs.Name.{IsLowName, padded}
use Rattle.page_base.specs.FileName.{IsFileName}

pub record IsStored (bytes : List ℕ) (len : ℕ) : Type 0 where
  pub long : length bytes ≡ 128
  pub within : len ≤ 128
  pub zeros : bytes ≡ padded (take len bytes)

-- the array holds a name in lower case
pub record IsStoredName (bytes : List ℕ) (len : ℕ) : Type 0 where
  pub stored : IsStored bytes len
  pub name : IsLowName (take len bytes)

-- the array holds the name of a file
pub record IsStoredFileName (bytes : List ℕ) (len : ℕ) : Type 0 where
  pub stored : IsStored bytes len
  pub name : IsFileName (take len bytes)

pub bytes_again : (bytes : List ℕ) (len : ℕ) → IsStored bytes len → padded (take len bytes) ≡ bytes
bytes_again bytes len h = sym h.zeros

pub length_again : (bytes : List ℕ) (len : ℕ) → IsStored bytes len → length (take len bytes) ≡ len
length_again bytes len h = grind (arith, length-take {A = ℕ})

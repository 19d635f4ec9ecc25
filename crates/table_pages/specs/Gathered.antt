-- A finite map gathered from places, each of which is empty, holds one entry, or can't be read.
use Rattle.std.specs.Prelude.{ℕ, zero, suc, if◌then◌else◌, Option, Some, None}
use Rattle.std.specs.declared.cmp.Ordering.{Ordering}
use Rattle.std.specs.FinMap as finite

-- what stands at a place: nothing, what can't be read, or an entry
pub data Item (K X : Type 0) : Type 0 where
  Skip : Item K X
  Bad : Item K X
  Has : (key : K) (value : X) → Item K X

-- one place more; none where its key is there already
abbrev pub joined : {K X : Type 0} {R : K → K → Ordering} → Item K X → Option (finite.FinMap R X) → Option (finite.FinMap R X)
joined item None = None
joined Skip (Some m) = Some m
joined Bad (Some m) = None
joined (Has k x) (Some m) = if finite.contains_key m k then None else Some (finite.insert m k x)

-- the entries of the first n places; none where one is bad or a key comes twice
abbrev pub collect : {K X : Type 0} {R : K → K → Ordering} → (ℕ → Item K X) → ℕ → Option (finite.FinMap R X)
collect f zero = Some finite.empty
collect f (suc n) = joined (f n) (collect f n)

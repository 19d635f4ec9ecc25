-- Which database a name means.
use Rattle.std.specs.Prelude.{ℕ, ◌≡◌, Bool, true, false, List}
use Rattle.std.specs.Str.{bytes_eq}
use Rattle.plain_model.specs.State.{master}
use Rattle.early_pages.specs.Catalog.{Catalog, HasSnap, LacksName, IsNamed, snap_at}
use Rattle.early_engine.specs.Pushing.{is_suspect}
use Rattle.early_engine.specs.declared.database.Database.{Database}
use Rattle.early_engine.specs.declared.database.Database.TheVariants.{Source, Master, Snap, Absent}

-- the name is the source's, else `master`, else a snapshot's, else no database's
abbrev pub Means : List ℕ → Catalog → List ℕ → Database → Type 0
Means source cat name Source = bytes_eq name source ≡ true
Means source cat name Master = (bytes_eq name source ≡ false) × (bytes_eq name master ≡ true)
Means source cat name (Snap s) = (bytes_eq name source ≡ false) × (bytes_eq name master ≡ false) × IsNamed cat name s
Means source cat name Absent = (bytes_eq name source ≡ false) × (bytes_eq name master ≡ false) × LacksName cat name

-- a snapshot's place is one that is there
abbrev pub IsPlaced : Catalog → Database → Type 0
IsPlaced cat (Snap s) = HasSnap cat s
IsPlaced cat db = Unit {0}

-- whether the database is a suspect snapshot
abbrev pub is_lost : Catalog → Database → Bool
is_lost cat Source = false
is_lost cat Master = false
is_lost cat (Snap s) = is_suspect (snap_at cat s).state
is_lost cat Absent = false

-- whether there is such a database
abbrev pub is_there : Database → Bool
is_there Source = true
is_there Master = true
is_there (Snap s) = true
is_there Absent = false

abbrev pub is_home : Database → Bool
is_home Source = true
is_home db = false

abbrev pub is_shot : Database → Bool
is_shot (Snap s) = true
is_shot db = false

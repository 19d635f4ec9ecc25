-- What a run begins with.
use Rattle.std.specs.Prelude.{ℕ, List, [], ◌∷◌, map}
use Rattle.std.specs.FinMap as finite
use Rattle.page_dev.specs.Volume.{Folder}
use Rattle.plain_model.specs.Journal.{Opening}

-- the names that have a place on the volume
abbrev pub names_of : Folder → List (List ℕ)
names_of folder = map (λ e. e.0) (finite.entries folder)

-- a new source of this name, with one data file, without tables and without snapshots, beside these names on the volume
abbrev pub new_source : List ℕ → List ℕ → List (List ℕ) → Opening
new_source source file names = record { source = source; files = file ∷ []; tables = finite.empty; snaps = []; next_cut = 1; on_volume = names }

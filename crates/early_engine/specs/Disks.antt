-- A volume, as the engine sees it.
use Rattle.std.specs.Prelude.{ℕ, Bool}
use Rattle.page_dev.specs.Volume.{Names, Folder}
use Rattle.early_engine.specs.Safe.{Disk}

-- what a volume shows
abbrev pub disk_of : {V : Type 0} → (V → Bool) → (V → Folder) → (V → Names) → (V → ℕ) → (V → ℕ) → V → Disk
disk_of tells folder out failures file_failures volume = record { told = tells volume; folder = folder volume; out = out volume; failures = failures volume; file_failures = file_failures volume }

-- The invariant of the engine.
use Rattle.std.specs.Prelude.{ℕ, ◌≡◌, true, List}
use Rattle.sys_cat.specs.declared.desc.TableDesc.{TableDesc}
use Rattle.step_state.specs.State.{State, IsSession}
use Rattle.step_state.specs.Own.{IsSafeSession}
use Rattle.step_state.specs.Whole.{IsWholeSafe}
use Rattle.step_state.specs.Told.{IsTold, IsToldWhole}

-- where all files tell: the whole and each session, over one list of tables
abbrev pub IsContent : State → List TableDesc → Type 0
IsContent e ds = IsToldWhole e ds × ((k : ℕ) → IsSession e k → IsTold e ds k)

pub record Safe (e : State) : Type 0 where
  pub sessions : (k : ℕ) → IsSession e k → IsSafeSession e k
  pub whole : IsWholeSafe e
  pub content : e.fixed.told ≡ true → (ds : List TableDesc) × IsContent e ds

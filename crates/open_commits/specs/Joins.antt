-- What a commit of other tables makes of the tables that a session sees.
use Rattle.std.specs.Prelude.{ℕ, ◌≡◌, ◌+◌, Bool, true, false, List, Some}
use Rattle.std.specs.FinMap as finite
use Rattle.std.specs.List.{Any}
use Rattle.plain_model.specs.Tables.{Table, Tables}
use Rattle.sys_cat.specs.declared.desc.TableDesc.{TableDesc}

-- the tables that are theirs are as in `their_tables`, all others as in `my_tables`, and there are no more
pub record Joins (ds : List TableDesc) (theirs : ℕ → Bool) (their_tables my_tables joined : Tables) : Type 0 where
  pub from : (d : TableDesc) → Any (λ e. e ≡ d) ds → theirs (d.number.0 + 1) ≡ true → finite.get joined d.name ≡ finite.get their_tables d.name
  pub kept : (d : TableDesc) → Any (λ e. e ≡ d) ds → theirs (d.number.0 + 1) ≡ false → finite.get joined d.name ≡ finite.get my_tables d.name
  pub only : (name : List ℕ) (t : Table) → finite.get joined name ≡ Some t → Any (λ d. d.name ≡ name) ds

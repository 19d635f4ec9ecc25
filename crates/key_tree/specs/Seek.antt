-- What a walk over a tree looks for.
use Rattle.std.specs.Prelude.{Option, List}
use Rattle.page_base.specs.declared.column.Column.{Column}
use Rattle.page_base.specs.declared.value.Value.{Value}

-- the columns of the key, and the key that is looked up; none where all is read
pub record Seek : Type 0 where
  pub keys : List Column
  pub key : Option (List Value)

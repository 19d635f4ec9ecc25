-- Children as entries of an ordered map.
use Rattle.std.specs.Prelude.{Option, ℕ, List}
use Rattle.page_base.specs.declared.numbers.PageId.{PageId}
use Rattle.page_base.specs.declared.value.Value.{Value}
use Rattle.tree_laws.specs.declared.child.Child.{Child}

-- the child of an entry: least key and place, page and slot
abbrev pub child_in : (Option (List Value) × ℕ) × (PageId × ℕ) → Child
child_in e = record { least = e.0.0; page = e.1.0; slot = e.1.1 }

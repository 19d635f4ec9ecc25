-- What is answered for the rows of table 0.
use Rattle.std.specs.Prelude.{⊤, ◌≡◌, List, Result, Ok, Err}
use Rattle.page_base.specs.declared.value.Value.{Value}
use Rattle.sys_cat.specs.declared.desc.TableDesc.{TableDesc}
use Rattle.sys_cat.specs.declared.desc.DescRefusal.{DescRefusal}
use Rattle.sys_cat.specs.declared.desc.DescRefusal.TheVariants.{Form, Memory}
use Rattle.sys_cat.specs.Lists.{IsFirstWrong}

-- the answer is these tables, or want of memory
abbrev pub GivesDescs : List TableDesc → Result (List TableDesc) DescRefusal → Type 0
GivesDescs ds (Ok read) = read ≡ ds
GivesDescs ds (Err (Form row)) = ⊥
GivesDescs ds (Err Memory) = ⊤

-- a refusal for its form names the first row that is wrong
abbrev pub Refuses : List (List Value) → DescRefusal → Type 0
Refuses rows (Form row) = IsFirstWrong rows row
Refuses rows Memory = ⊤

-- The bytes of fields: of a text with its length in front, and of the address of a page.
use Rattle.std.specs.Prelude.{ℕ, List, ◌∷◌, ◌++◌, length}
use Rattle.page_base.specs.declared.numbers.PageId.{PageId}
use Rattle.byte_fields.specs.Numbers.{number}

-- a length in two bytes, and that many bytes
abbrev pub sized : List ℕ → List ℕ
sized text = number 2 (length text) ++ text

-- a length in one byte, and that many bytes
abbrev pub short : List ℕ → List ℕ
short text = length text ∷ text

-- the file's number in one byte, the page's in four
abbrev pub address : PageId → List ℕ
address p = p.file ∷ number 4 p.page

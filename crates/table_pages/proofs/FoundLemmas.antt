-- The tests of one page, as the calls that go over the pages make them.
use Rattle.std.proofs.Common.{◌≡◌, ℕ, Bool, true, false, IsTrue, List, [], ap, sym, ◌∙◌, subst}
use Rattle.std.specs.Prelude.{◌↔◌}
use Rattle.std.specs.Str.{bytes_eq}
use Rattle.page_fmt.specs.Content.{content}
use Rattle.page_fmt.specs.Edits.{slot_at}
use Rattle.plain_model.specs.Tables.{Table}
use Rattle.early_pages.specs.Shown.{Shown, img}
use Rattle.early_pages.specs.Slots.{slots_of}
use Rattle.table_pages.specs.Gathered.{Has}
use Rattle.table_pages.specs.Layout.{place, table_at, IsBlankAt, IsOther}
use Rattle.table_pages.specs.Carried.{Holds}

module _ (v : Shown) (i : ℕ) (image : List ℕ) (at : image ≡ img v (place i)) where
  module _ (r : Bool) (test : IsTrue r ↔ (slot_at (content image) 0 ≡ [])) where
    pub is_blank : r ≡ true → IsBlankAt (slots_of (img v)) i
    is_blank is = ap (λ (x : List ℕ). slot_at (content x) 0) (sym at) ∙ test.0 is

    pub isnt_blank : r ≡ false → ¬ IsBlankAt (slots_of (img v)) i
    isnt_blank isnt blank = let is : r ≡ true = test.1 (ap (λ (x : List ℕ). slot_at (content x) 0) at ∙ blank) in absurd (let wrong : false ≡ true = sym isnt ∙ is in cc)

  module _ (name : List ℕ) (r : Bool) (test : (held : List ℕ) (t : Table) → Holds image held t → r ≡ bytes_eq held name) where
    pub named : (b : Bool) → r ≡ b → (held : List ℕ) (t : Table) → table_at (slots_of (img v)) i ≡ Has held t → bytes_eq held name ≡ b
    named b is held t h = sym (test held t (subst (λ (x : List ℕ). Holds x held t) (sym at) h)) ∙ is

    pub is_other : ¬ IsBlankAt (slots_of (img v)) i → r ≡ false → IsOther (slots_of (img v)) i name
    is_other full isnt = record { full = full; other = named false isnt }

-- The plan that cuts keys from a table's page and puts rows into it.
use Rattle.std.specs.Prelude.{◌≡◌, ℕ, List, ◌++◌, map, Some}
use Rattle.page_base.specs.declared.value.Value.{Value}
use Rattle.page_fmt.specs.Content.{content}
use Rattle.page_fmt.specs.Edits.{slot_at}
use Rattle.early_pages.specs.Shown.{Shown, img}
use Rattle.early_pages.specs.Slots.{slots_of}
use Rattle.plain_model.specs.Tables.{Table, Tables, Change, Put, Cut, apply}
use Rattle.table_pages.specs.declared.edit.Edit.{Edit}
use Rattle.table_pages.specs.Layout.{place}
use Rattle.table_pages.specs.Edits.{done}
use Rattle.table_pages.specs.Turns.{AreInTurn}
use Rattle.table_pages.specs.Drafts.{Drafts}
use Rattle.table_pages.specs.Carried.{decoded, Carries}

-- keys are cut from a table, and then rows are put into it
abbrev pub changes_of : List ℕ → List (List Value) → List (List Value) → List Change
changes_of name cut put = map (Cut name) cut ++ map (Put name) put

-- the edits of page i, which holds this table, in turn, lead to the draft's slots, and carry the tables to the changed ones
pub record Plans (v : Shown) (i : ℕ) (name : List ℕ) (t : Table) (cut put : List (List Value)) (edits : List Edit) : Type 0 where
  pub turn : AreInTurn (place i) (content (img v (place i))) edits
  pub end : List (List ℕ)
  pub drafts : Drafts t.cols cut put (content (img v (place i))) (Some end)
  pub slots : (j : ℕ) → done edits (slots_of (img v)) (place i) j ≡ slot_at end j
  pub carries : (tables : Tables) → decoded v ≡ Some tables → Carries v edits (apply (changes_of name cut put) tables)

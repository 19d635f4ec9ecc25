-- Which names of a folder are out.
use Rattle.std.specs.Prelude.{◌≡◌, ℕ, cond, List, Option, None, Some, is_some, refl}
use Rattle.std.proofs.Common.{ap, sym, ◌∙◌}
use Rattle.std.specs.Cmp.Lexicographic.{nat_list_cmp_total}
use Rattle.std.specs.FinMap.{get-retain_keys, contains_key-keys, get_tied}
use Rattle.std.specs.FinMap as map
use Rattle.std.specs.FinSet.{contains-from_list}
use Rattle.std.specs.FinSet as set
use Rattle.page_dev.specs.Volume.{Names, Kept, Lies, Out, Folder, is_out}

-- the places that have the mark
abbrev pub marked_places : Folder → Folder
marked_places folder = map.retain_keys folder (λ name. is_out (map.get folder name))

-- the names of those places
abbrev pub out_of : Folder → Names
out_of folder = set.from_list (map.keys (marked_places folder))

is_kept : (o : Option Kept) → is_some (cond (is_out o) o None) ≡ is_out o
is_kept None = refl
is_kept (Some (Lies bytes)) = refl
is_kept (Some Out) = refl

pub contains-out_of : (folder : Folder) (name : List ℕ) → set.contains (out_of folder) name ≡ is_out (map.get folder name)
contains-out_of folder name =
    contains-from_list nat_list_cmp_total (map.keys (marked_places folder)) name
    ∙ sym (contains_key-keys (marked_places folder) name)
    ∙ ap is_some (get-retain_keys folder (λ name. is_out (map.get folder name)) name (λ x tied. ap is_out (get_tied nat_list_cmp_total folder name x tied)))
    ∙ is_kept (map.get folder name)

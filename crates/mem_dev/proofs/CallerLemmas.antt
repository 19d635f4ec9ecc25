-- What callers of a volume in memory know of the files that they put back.
use Rattle.std.proofs.Common.{◌≡◌, ℕ, Bool, true, false, List, ap, ◌∙◌, cond}
use Rattle.std.specs.Prelude.{Some}
use Rattle.std.specs.Ordering.{nat_cmp, is_eq}
use Rattle.std.specs.Cmp.{tied_itself}
use Rattle.std.specs.Cmp.Lexicographic.{slice_cmp, nat_list_cmp_total}
use Rattle.std.specs.FinMap.{get-insert}
use Rattle.std.specs.FinMap as map
use Rattle.std.specs.FinSet.{contains-empty}
use Rattle.std.specs.FinSet as set
use Rattle.page_dev.specs.Volume.{Names, Lies, Folder}
use Rattle.mem_dev.specs.Shelf.{lies}

-- where none is out, this name isn't
pub none_is_out : (out : Names) (name : List ℕ) → out ≡ set.empty → set.contains out name ≡ false
none_is_out out name e = ap (λ (names : Names). set.contains names name) e ∙ contains-empty (slice_cmp nat_cmp) name

-- a file that was put at a name lies there
pub lies_where_put : (folder : Folder) (name bytes : List ℕ) → lies (map.get (map.insert folder name (Lies bytes)) name) ≡ true
lies_where_put folder name bytes =
    ap lies (get-insert nat_list_cmp_total folder name (Lies bytes) name)
    ∙ ap (λ (b : Bool). lies (cond b (Some (Lies bytes)) (map.get folder name))) (ap is_eq (tied_itself nat_list_cmp_total name))

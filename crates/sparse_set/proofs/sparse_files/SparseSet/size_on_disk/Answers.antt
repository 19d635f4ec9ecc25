use Rattle.std.proofs.Common.{◌≡◌, ◌*◌, get_or, [], ap, ◌∙◌, rules}
use Rattle.sparse_set.specs.Sparse.{Sparse, size_on_disk}
use Rattle.sparse_set.proofs.MapLemmas.{size_is}
use Rattle.sparse_set.proofs.sparse_files.SparseSet.size_on_disk.Goals as goal

pub returns-in-Some : goal.returns-in-Some
returns-in-Some g c =
    let set : Sparse = record { files = c.self.inside.files; map = c.self.inside.maps.items } in
    let e : set ≡ c.args.self.now = c.self.view_is in
    let row : get_or set.map c.args.file [] ≡ c.in-Some.map.now = search rules in
    ap (λ n. n * 65536) c.from.ensures ∙ size_is set c.args.file c.groups.result c.in-Some.map.now c.self.invariant row c.groups.ensures ∙ ap (λ (x : Sparse). size_on_disk x c.args.file) e

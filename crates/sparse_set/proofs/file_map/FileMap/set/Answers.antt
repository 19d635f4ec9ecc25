use Rattle.std.proofs.Common.{◌≡◌, true, length, slice_set, ap, sym, ◌∙◌, arith}
use Rattle.sparse_set.proofs.WordLemmas.{bits_put, map_put, length_bits}
use Rattle.sparse_set.proofs.file_map.FileMap.set.Goals as goal

pub put-requires : goal.put-requires
put-requires c =
    let long = c.self.invariant.long in
    let pages : length c.args.self.now ≡ c.self.inside.pages = ap length (sym c.self.view_is) ∙ length_bits c.self.inside.pages c.self.inside.words.items in
    omega (arith, long, pages, c.requires)

pub invariant_of-self : goal.invariant_of-self
invariant_of-self c =
    let pages : length c.args.self.now ≡ c.self.inside.pages = ap length (sym c.self.view_is) ∙ length_bits c.self.inside.pages c.self.inside.words.items in
    map_put c.self.inside.pages c.self.inside.words.items c.put.new.words.items c.args.page (omega (arith, pages, c.requires)) c.put.ensures.put c.self.invariant c.put.ensures.long

pub returns : goal.returns
returns c =
    let pages : length c.args.self.now ≡ c.self.inside.pages = ap length (sym c.self.view_is) ∙ length_bits c.self.inside.pages c.self.inside.words.items in
    bits_put c.self.inside.pages c.self.inside.words.items c.put.new.words.items c.args.page (omega (arith, pages, c.requires)) c.put.ensures.put c.self.invariant
    ∙ ap (λ marks. slice_set marks c.args.page true) c.self.view_is

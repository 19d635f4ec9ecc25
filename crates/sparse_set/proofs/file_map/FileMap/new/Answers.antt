use Rattle.std.proofs.Common.{◌≡◌, replicate, ap, sym, ◌∙◌, subst, arith}
use Rattle.std.proofs.lemmas.Grind.{common_steps}
use Rattle.sparse_set.specs.Words.{bits_of, IsFileMap}
use Rattle.sparse_set.proofs.WordLemmas.{no_bits, no_map}
use Rattle.sparse_set.proofs.file_map.FileMap.new.Goals as goal

pub invariant_of-result : goal.invariant_of-result
invariant_of-result c =
    let h = c.in_ok-resize.ensures.items in
    let items : c.resize.new.self.items ≡ replicate c.div_ceil.result 0 = grind (arith, common_steps, h) in
    subst (λ words. IsFileMap c.args.pages words) (sym items) (no_map c.args.pages c.div_ceil.result (omega (arith, c.div_ceil.ensures)))

pub returns : goal.returns
returns c =
    let h = c.in_ok-resize.ensures.items in
    let items : c.resize.new.self.items ≡ replicate c.div_ceil.result 0 = grind (arith, common_steps, h) in
    ap (bits_of c.args.pages) items ∙ no_bits c.args.pages c.div_ceil.result

use Rattle.std.proofs.Common.{◌≡◌, ℕ, ◌*◌, ◌/◌, ◌^◌, ◌%◌, ◌<◌, length, slice_set, get_or, ap, ◌∙◌, arith}
use Rattle.std.specs.Int.Bits.{bit_or}
use Rattle.std.proofs.lemmas.List.{get_or_default}
use Rattle.sparse_set.specs.Words.{has}
use Rattle.sparse_set.proofs.WordLemmas.{has_put}
use Rattle.sparse_set.proofs.words.put.Goals as goal

pub returns-clause-put : goal.returns-clause-put
returns-clause-put c = λ q.
    let words = c.args.words.now.items in
    let word = c.index_mut.result.now in
    let within : c.args.page / 64 < length words = omega (arith, c.requires) in
    let read : word ≡ get_or words (c.args.page / 64) 0 = c.index_mut.ensures.value ∙ get_or_default words (c.args.page / 64) word 0 within in
    ap (λ (w : ℕ). has (slice_set words (c.args.page / 64) (bit_or w (1 * 2 ^ (c.args.page % 64) % 2 ^ 64))) q) read
    ∙ has_put words c.args.page q c.requires

use Rattle.std.proofs.Common.{◌<◌, ◌^◌, ℕ, get_or, ap, ◌∙◌, subst}
use Rattle.sparse_set.specs.Words.{words_of}
use Rattle.sparse_set.proofs.WordLemmas.{words_are}
use Rattle.sparse_set.proofs.file_map.FileMap.words.Goals as goal

pub returns : goal.returns
returns c =
    let below : (k : ℕ) → get_or c.self.inside.words.items k 0 < 2 ^ 64 = subst (λ words. (k : ℕ) → get_or words k 0 < 2 ^ 64) c.as_slice-words.ensures.value c.are_words.ensures in
    c.as_slice-words.ensures.value ∙ words_are c.self.inside.pages c.self.inside.words.items c.self.invariant below ∙ ap words_of c.self.view_is

use Rattle.std.proofs.Common.{◌∷◌, [], List, ℕ, ap, sym, ◌∙◌}
use Rattle.snapdb.proofs.OneWord.{items_one, head_is}
use Rattle.snapdb.proofs.words.is_play.Goals as goal

pub returns-in-len1 : goal.returns-in-len1
returns-in-len1 c = rw (items_one c.args.words.now c.word-item.result c.in-len1.len_at_least c.in-len1.len_below c.word-item.is)
    (λ t. ap (λ (w : List ℕ). w ∷ []) (sym c.as_slice.ensures.value ∙ c.is_text.ensures.0 t), λ e. c.is_text.ensures.1 (c.as_slice.ensures.value ∙ head_is _ _ e))

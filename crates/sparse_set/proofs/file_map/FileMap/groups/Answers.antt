use Rattle.std.proofs.Common.{◌≡◌, ◌*◌, ◌+◌, ◌/◌, length, ap, sym, ◌∙◌, arith}
use Rattle.sparse_set.specs.Words.{has}
use Rattle.sparse_set.specs.Groups.{groups_in, marked_in}
use Rattle.sparse_set.proofs.GroupLemmas.{groups_more, groups_are}
use Rattle.sparse_set.proofs.file_map.FileMap.groups.Goals as goal

pub loop-word-preserved : goal.loop-word-preserved
loop-word-preserved c = (
  ap (λ k. k + c.full_bytes-groups.result) c.loop-word.invariant.0
      ∙ sym (groups_more c.as_slice-word-items.result.now c.loop-word.word-index c.full_bytes-groups.result c.full_bytes-groups.ensures.count),
  omega (arith, c.loop-word.invariant.1, c.full_bytes-groups.ensures.few),
)

pub returns : goal.returns
returns c =
    let end : c.loop-word.word-index ≡ length c.as_slice-word-items.result.now = omega arith in
    c.loop-word.invariant.0
    ∙ ap (λ k. groups_in (has c.as_slice-word-items.result.now) (8 * k)) end
    ∙ ap (λ words. groups_in (has words) (8 * length words)) c.as_slice-word-items.ensures.value
    ∙ groups_are c.self.inside.pages c.self.inside.words.items c.self.invariant
    ∙ ap (λ marks. groups_in (marked_in marks) ((length marks + 7) / 8)) c.self.view_is

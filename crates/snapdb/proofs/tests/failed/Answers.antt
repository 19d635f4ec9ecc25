use Rattle.std.proofs.Common.{ap, ◌∙◌}
use Rattle.std.specs.FinSet.{contains, contains-empty}
use Rattle.page_dev.specs.Volume.{Names, Folder}
use Rattle.mem_dev.specs.Out.{out_of}
use Rattle.mem_dev.specs.VolumeState.{VolumeState}
use Rattle.snapdb.proofs.tests.failed.Goals as goal

pub fail-requires : goal.fail-requires
fail-requires c = ap (λ (s : Names). contains s c.in_ok-read.field-0) c.in_ok-volume.ensures.out ∙ contains-empty _ c.in_ok-read.field-0

pub still-ended-requires : goal.still-ended-requires
still-ended-requires c = record {
  out = λ n.
      let same = ap (λ (v : VolumeState). v.folder) c.in_ok-fail_volume-2.ensures.ok ∙ ap (λ (v : VolumeState). v.folder) c.in_ok-fail_volume.ensures.ok ∙ ap (λ (v : VolumeState). v.folder) c.in_ok-fail.ensures.ok in
      ap (λ (f : Folder). contains (out_of f) n) same ∙ ap (λ (s : Names). contains s n) c.in_ok-volume.ensures.out ∙ contains-empty _ n;
}

use Rattle.std.proofs.Common.{sym, subst, arith}
use Rattle.early_engine.specs.declared.closing.CloseEnd.{CloseEnd}
use Rattle.early_engine.specs.Closing.{first}
use Rattle.early_engine.specs.Disks.{disk_of}
use Rattle.early_engine.proofs.CloseLemmas.{Handed, handed_more, some_left, none_left_by, first_out, none_out, all_blamed, all_ended}
use Rattle.early_engine.proofs.closing.put_back.Goals as goal

pub put_first-requires-clause-single : goal.put_first-requires-clause-single
put_first-requires-clause-single g c = c.loop-volume.invariant.single first (some_left c.loop-volume.pages c.cat.result.now c.count.result c.cat.ensures.cat c.count.ensures.count (omega (arith, c.loop-volume-test.true)))

pub put_first-requires-clause-out : goal.put_first-requires-clause-out
put_first-requires-clause-out g c = first_out c.loop-volume.pages c.loop-volume.invariant.single (some_left c.loop-volume.pages c.cat.result.now c.count.result c.cat.ensures.cat c.count.ensures.count (omega (arith, c.loop-volume-test.true)))
    (disk_of g.V.Volume.tells g.V.Volume.folder g.V.Volume.out g.V.Volume.failures g.V.Volume.file_failures c.loop-volume.volume) c.loop-volume.invariant.out

pub loop-volume-preserved : goal.loop-volume-preserved
loop-volume-preserved g c =
    let start = disk_of g.V.Volume.tells g.V.Volume.folder g.V.Volume.out g.V.Volume.failures g.V.Volume.file_failures c.args.volume.now in
    let now = disk_of g.V.Volume.tells g.V.Volume.folder g.V.Volume.out g.V.Volume.failures g.V.Volume.file_failures c.loop-volume.volume in
    let next = disk_of g.V.Volume.tells g.V.Volume.folder g.V.Volume.out g.V.Volume.failures g.V.Volume.file_failures c.put_first.new.volume in
    subst (λ (e : CloseEnd). Handed c.args.pages c.put_first.new.pages start next e) (sym c.or-end.ensures)
    (handed_more c.args.pages c.loop-volume.pages c.put_first.new.pages start now next c.loop-volume.end c.put_first.result c.loop-volume.invariant (some_left c.loop-volume.pages c.cat.result.now c.count.result c.cat.ensures.cat c.count.ensures.count (omega (arith, c.loop-volume-test.true))) c.put_first.ensures.left c.put_first.ensures.counts c.put_first.ensures.puts)

pub returns-clause-out : goal.returns-clause-out
returns-clause-out g c =
    let start = disk_of g.V.Volume.tells g.V.Volume.folder g.V.Volume.out g.V.Volume.failures g.V.Volume.file_failures c.args.volume.now in
    let now = disk_of g.V.Volume.tells g.V.Volume.folder g.V.Volume.out g.V.Volume.failures g.V.Volume.file_failures c.loop-volume.volume in
    none_out c.args.pages c.loop-volume.pages start now c.loop-volume.end c.loop-volume.invariant (none_left_by c.loop-volume.pages c.cat.result.now c.count.result c.cat.ensures.cat c.count.ensures.count (omega (arith, c.loop-volume-test.false)))

pub returns-clause-blame : goal.returns-clause-blame
returns-clause-blame g c =
    let start = disk_of g.V.Volume.tells g.V.Volume.folder g.V.Volume.out g.V.Volume.failures g.V.Volume.file_failures c.args.volume.now in
    let now = disk_of g.V.Volume.tells g.V.Volume.folder g.V.Volume.out g.V.Volume.failures g.V.Volume.file_failures c.loop-volume.volume in
    all_blamed c.args.pages c.loop-volume.pages start now c.loop-volume.end c.loop-volume.invariant (none_left_by c.loop-volume.pages c.cat.result.now c.count.result c.cat.ensures.cat c.count.ensures.count (omega (arith, c.loop-volume-test.false)))

pub returns-clause-ends : goal.returns-clause-ends
returns-clause-ends g c =
    let start = disk_of g.V.Volume.tells g.V.Volume.folder g.V.Volume.out g.V.Volume.failures g.V.Volume.file_failures c.args.volume.now in
    let now = disk_of g.V.Volume.tells g.V.Volume.folder g.V.Volume.out g.V.Volume.failures g.V.Volume.file_failures c.loop-volume.volume in
    all_ended c.args.pages c.loop-volume.pages start now c.loop-volume.end c.loop-volume.invariant (none_left_by c.loop-volume.pages c.cat.result.now c.count.result c.cat.ensures.cat c.count.ensures.count (omega (arith, c.loop-volume-test.false)))

use Rattle.std.proofs.Common.{true, arith}
use Rattle.early_pages.specs.Shown.{img}
use Rattle.early_pages.specs.Slots.{slots_of}
use Rattle.table_pages.specs.Carried.{data_pages}
use Rattle.table_pages.proofs.CallerLemmas.{passed_none, passed_more, passed_all, passed_to_blank, found_named}
use Rattle.table_pages.proofs.FoundLemmas.{is_blank, isnt_blank, named, is_other}
use Rattle.table_pages.proofs.finding.find.Goals as goal

pub loop-i-init : goal.loop-i-init
loop-i-init g c = passed_none (slots_of (img c.args.pages.now)) c.args.name.now

pub returns-then-is_blank-clause-none : goal.returns-then-is_blank-clause-none
returns-then-is_blank-clause-none g c = λ tables e.
    let v = c.args.pages.now in
    passed_to_blank (data_pages v) (slots_of (img v)) tables e c.loop-i.i c.args.name.now (let lt = c.loop-i-test.true in let n = c.data_pages-i-end.ensures in omega arith) c.requires.packed
    (is_blank v c.loop-i.i c.image-image.result.now c.image-image.ensures c.is_blank.result c.is_blank.ensures c.if-is_blank.true) c.loop-i.invariant

pub returns-then-is_named-clause-found : goal.returns-then-is_named-clause-found
returns-then-is_named-clause-found g c = λ tables e.
    let v = c.args.pages.now in
    let image = c.image-image.result.now in
    found_named (data_pages v) (slots_of (img v)) tables e c.loop-i.i c.args.name.now (let lt = c.loop-i-test.true in let n = c.data_pages-i-end.ensures in omega arith)
    (isnt_blank v c.loop-i.i image c.image-image.ensures c.is_blank.result c.is_blank.ensures c.if-is_blank.false)
    (named v c.loop-i.i image c.image-image.ensures c.args.name.now c.is_named.result c.is_named.ensures true c.if-is_named.true)

pub loop-i-preserved : goal.loop-i-preserved
loop-i-preserved g c =
    let v = c.args.pages.now in
    let image = c.image-image.result.now in
    passed_more (slots_of (img v)) c.loop-i.i c.args.name.now c.loop-i.invariant
    (is_other v c.loop-i.i image c.image-image.ensures c.args.name.now c.is_named.result c.is_named.ensures
    (isnt_blank v c.loop-i.i image c.image-image.ensures c.is_blank.result c.is_blank.ensures c.if-is_blank.false) c.if-is_named.false)

pub returns-clause-none : goal.returns-clause-none
returns-clause-none g c = λ tables e.
    let v = c.args.pages.now in
    passed_all (data_pages v) (slots_of (img v)) tables e c.loop-i.i c.args.name.now (let le = c.loop-i-test.false in let n = c.data_pages-i-end.ensures in omega arith) c.loop-i.invariant

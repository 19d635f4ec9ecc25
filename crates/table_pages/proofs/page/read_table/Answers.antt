use Rattle.std.proofs.Common.{List, ℕ, ◌<◌, length, subst, sym, arith}
use Rattle.table_pages.specs.Rows.{HoldsFitting}
use Rattle.table_pages.proofs.PageLemmas.{few_slots}
use Rattle.table_pages.proofs.HeldLemmas.{IsRead, read_none, read_more, read_all, fitting_none}
use Rattle.table_pages.proofs.RowLemmas.{slot_short}
use Rattle.table_pages.proofs.page.read_table.Goals as goal

pub loop-i-init : goal.loop-i-init
loop-i-init c = record {
  table = λ held t h. subst (IsRead c.args.image.now t 1) (sym c.new-table.ensures) (read_none c.args.image.now t c.in_ok-columns.field-0 (c.in_ok-columns.ensures held t h));
  fits = subst HoldsFitting (sym c.new-table.ensures) (fitting_none c.in_ok-columns.field-0);
}

pub take_row-requires : goal.take_row-requires
take_row-requires c = subst (λ (bs : List ℕ). length bs < 4294967295) (sym c.slot.ensures) (slot_short c.args.image.now c.loop-i.i c.requires)

pub loop-i-preserved : goal.loop-i-preserved
loop-i-preserved c = record {
  table = λ held t h.
      let few = few_slots c.args.image.now c.requires in
      read_more c.args.image.now c.slot.result.now held c.loop-i.i t c.loop-i.table c.take_row.new.table h
      (let low = c.loop-i.auto.i in omega arith) (let high = c.loop-i-test.true in omega (arith, c.slots-i-end.ensures)) c.slot.ensures c.in_ok-take_row.ensures.empty c.in_ok-take_row.ensures.row (c.loop-i.invariant.table held t h);
  fits = c.in_ok-take_row.ensures.fits c.loop-i.invariant.fits;
}

pub returns-clause-table : goal.returns-clause-table
returns-clause-table c = λ held t h.
    read_all c.args.image.now held c.loop-i.i t c.loop-i.table h c.requires (let low = c.loop-i.auto.i in omega arith) (let past = c.loop-i-test.false in omega (arith, c.slots-i-end.ensures)) (c.loop-i.invariant.table held t h)

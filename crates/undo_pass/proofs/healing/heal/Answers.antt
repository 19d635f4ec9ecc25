-- The four steps, one after the other.
use Rattle.std.proofs.Common.{◌<◌, ℕ, Bool, false, List, get_or, ap, sym, ◌∙◌, subst}
use Rattle.page_base.specs.Pages.{Pages, page_or}
use Rattle.undo_pass.specs.Heals.{OthersStay}
use Rattle.undo_pass.proofs.StayLemmas.{stay_write, stay_kept}
use Rattle.undo_pass.proofs.HealLemmas.{healed, on_err, unhealed_written}
use Rattle.undo_pass.proofs.healing.heal.Goals as goal

pub write_sparse-requires-clause-page : goal.write_sparse-requires-clause-page
write_sparse-requires-clause-page g c = subst (λ (x : List ℕ). c.last_page-page.result.page < get_or x c.last_page-page.result.file 0) (sym c.read_page.ensures.reads.stay.places.counts) c.last_page-page.ensures.there

pub write_sparse-requires-clause-copied : goal.write_sparse-requires-clause-copied
write_sparse-requires-clause-copied g c = ap (λ (m : Pages Bool). page_or m c.last_page-page.result false) c.read_page.ensures.reads.stay.map ∙ c.last_page-page.ensures.copied

pub returns-in_err-write_sparse-clause-err : goal.returns-in_err-write_sparse-clause-err
returns-in_err-write_sparse-clause-err g c = on_err c.from_residual-in_err-write_sparse.result
    (unhealed_written c.args.s c.last_page-page.result c.args.pages.now c.read_page.new.pages c.write_sparse.new.self
    c.read_page.ensures.reads c.write_sparse.ensures.only.pool c.write_sparse.ensures.only.cat
    (stay_write c.args.s c.read_page.new.pages c.write_sparse.new.self c.write_sparse.ensures.places c.write_sparse.ensures.dues c.last_page-page.result c.mend.new.scratch c.write_sparse.result c.write_sparse.ensures.only c.write_sparse.ensures.views c.write_sparse.ensures.copies.uses.map))

pub returns-clause-ok : goal.returns-clause-ok
returns-clause-ok g c =
    let stays : OthersStay c.args.s c.read_page.new.pages c.write_sparse.new.self =
    stay_write c.args.s c.read_page.new.pages c.write_sparse.new.self c.write_sparse.ensures.places c.write_sparse.ensures.dues c.last_page-page.result c.mend.new.scratch c.write_sparse.result c.write_sparse.ensures.only c.write_sparse.ensures.views c.write_sparse.ensures.copies.uses.map in
    healed c.args.s c.args.pages.now c.read_page.new.pages c.write_sparse.new.self c.drop_owed.new.self c.read_page.new.scratch c.mend.new.scratch c.last_page-page.result
    c.last_page-page.ensures.page
    c.read_page.ensures.reads
    (record { page = c.in_ok-read_page.ensures.page; are = c.in_ok-read_page.ensures.bytes; seen = c.in_ok-read_page.ensures.seen })
    c.in_ok-mend.ensures.ok
    (record {
      pool = c.write_sparse.ensures.only.pool;
      cat = c.write_sparse.ensures.only.cat;
      its = c.in_ok-write_sparse.ensures.views.written;
      calls = c.write_sparse.ensures.calls.here;
      stay = stays;
    })
    (record {
      drops = c.drop_owed.ensures.dropped;
      owed = c.drop_owed.ensures.owed;
      shown = c.drop_owed.ensures.shown;
      views = c.drop_owed.ensures.views;
      sets = c.drop_owed.ensures.sets;
      stay = stay_kept c.args.s c.write_sparse.new.self c.drop_owed.new.self c.drop_owed.ensures.places c.drop_owed.ensures.dues c.drop_owed.ensures.sets c.drop_owed.ensures.views;
    })

-- One more entry, a wrong one, and the end of the bytes.
use Rattle.std.proofs.Common.{◌≡◌, ◌++◌, ◌∷◌, [], map, ap, subst, ◌∙◌, arith}
use Rattle.std.proofs.lemmas.List.{map_push}
use Rattle.byte_fields.specs.declared.stop.Stop.{Stop}
use Rattle.byte_fields.specs.Answers.{Fails}
use Rattle.rec_log.specs.Entries.{entry_of}
use Rattle.rec_log.specs.Reading.{entry_at}
use Rattle.rec_log.proofs.LogLemmas.{read_more, read_shrinks, read_stops, read_all, one_log, not_log, ended, not_ended}
use Rattle.rec_log.proofs.reading.read_log.Goals as goal

pub loop-reader-preserved : goal.loop-reader-preserved
loop-reader-preserved c =
    let entries : map entry_of c.push.new.self.items ≡ map entry_of c.loop-reader.entries.items ++ entry_of c.in-Ok.entry ∷ [] =
    ap (map entry_of) c.in_ok-push-in-Ok.ensures.items ∙ map_push entry_of c.loop-reader.entries.items c.in-Ok.entry in
    rw entries (read_more c.args.bytes.now (λ i. omega (arith, c.type_inv.bytes i)) (map entry_of c.loop-reader.entries.items) c.loop-reader.reader c.loop-reader.invariant (entry_of c.in-Ok.entry) c.read_entry.new.reader c.in-Ok.ensures)

pub loop-reader-smaller : goal.loop-reader-smaller
loop-reader-smaller c = read_shrinks c.args.bytes.now (λ i. omega (arith, c.type_inv.bytes i)) (map entry_of c.loop-reader.entries.items) c.loop-reader.reader c.loop-reader.invariant (entry_of c.in-Ok.entry) c.read_entry.new.reader c.in-Ok.ensures

pub returns-in-Err-Form-clause-only : goal.returns-in-Err-Form-clause-only
returns-in-Err-Form-clause-only c =
    let stops = subst (λ (e : Stop). Fails e c.read_entry.new.reader (entry_at c.loop-reader.reader)) c.in-Err-Form.field-0-is c.in-Err-Form.ensures in
    not_log c.args.bytes.now _
    (read_stops c.args.bytes.now (λ i. omega (arith, c.type_inv.bytes i)) (map entry_of c.loop-reader.entries.items) c.loop-reader.reader c.loop-reader.invariant c.read_entry.new.reader (not_ended c.is_empty.result c.is_empty.ensures c.loop-reader-test.true) stops)

pub returns-in-Err-Form-clause-refused : goal.returns-in-Err-Form-clause-refused
returns-in-Err-Form-clause-refused c =
    let stops = subst (λ (e : Stop). Fails e c.read_entry.new.reader (entry_at c.loop-reader.reader)) c.in-Err-Form.field-0-is c.in-Err-Form.ensures in
    rw c.place.ensures
    (read_stops c.args.bytes.now (λ i. omega (arith, c.type_inv.bytes i)) (map entry_of c.loop-reader.entries.items) c.loop-reader.reader c.loop-reader.invariant c.read_entry.new.reader (not_ended c.is_empty.result c.is_empty.ensures c.loop-reader-test.true) stops)

pub returns-clause-log : goal.returns-clause-log
returns-clause-log c =
    rw c.from.ensures (read_all c.args.bytes.now (map entry_of c.loop-reader.entries.items) c.loop-reader.reader c.loop-reader.invariant (ended c.is_empty.result c.is_empty.ensures c.loop-reader-test.false))

pub returns-clause-only : goal.returns-clause-only
returns-clause-only c = λ entries log.
    rw c.from.ensures
    (one_log c.args.bytes.now (map entry_of c.loop-reader.entries.items) entries
    (read_all c.args.bytes.now (map entry_of c.loop-reader.entries.items) c.loop-reader.reader c.loop-reader.invariant (ended c.is_empty.result c.is_empty.ensures c.loop-reader-test.false)) log)

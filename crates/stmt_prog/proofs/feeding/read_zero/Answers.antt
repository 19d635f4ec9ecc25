use Rattle.std.proofs.Common.{false, true, ◌≡◌, ◌∙◌, List, ℕ, rules}
use Rattle.std.specs.Prelude.{Some, None}
use Rattle.page_fmt.specs.Content.{content}
use Rattle.plain_model.specs.declared.reply.Message.{Message}
use Rattle.plain_model.specs.Meaning.{shape}
use Rattle.plain_model.specs.Tables.{Tables}
use Rattle.table_walk.specs.declared.visit.Visit.{Visit}
use Rattle.table_walk.proofs.Exits.{handed_on}
use Rattle.stmt_prog.specs.Feeding.{read, OverEach}
use Rattle.stmt_prog.specs.Heads.{creates}
use Rattle.stmt_prog.specs.Refusing.{IfSaid, of_seen}
use Rattle.stmt_prog.specs.States.{course_of}
use Rattle.stmt_prog.specs.declared.state.State.TheVariants.{ScanZero}
use Rattle.stmt_prog.proofs.FeedLemmas.{zero_goes_on, zero_finds, zero_bad, zero_refused, zero_lacks, found_in, lacking_in}
use Rattle.stmt_prog.proofs.feeding.read_zero.Goals as goal

pub returns-in_err-now-clause-refused : goal.returns-in_err-now-clause-refused
returns-in_err-now-clause-refused c =
    let h = c.args.head in
    let r = c.requires.reading in
    let slots : List (List ℕ) = content c.args.image.now in
    let P : Message → Tables → Type 0 = λ m tables. shape h.stmt tables ≡ Some m in
    handed_on (IfSaid (λ m. OverEach (read slots (course_of h (ScanZero c.args.zero))) (P m))) c.from_residual.result (of_seen c.in_err-now.field-0.0) c.from_residual.ensures.1
    (zero_bad h c.args.zero r.2.0 r.2.1 slots r.1 c.in_err-now.field-0.0 c.in_err-now.ensures.bad P)

pub returns-then-is_some-clause-takes : goal.returns-then-is_some-clause-takes
returns-then-is_some-clause-takes c =
    let r = c.requires.reading in
    let w : (x : Visit) × (c.in_ok-now.now.next ≡ Some x) = search rules in
    zero_goes_on c.args.head c.args.zero r.2.0 r.2.1 (content c.args.image.now) c.in_ok-now.now w.0 w.1 (c.in_ok-now.ensures.seen r.2.0 r.2.1)

pub returns-in_err-number-clause-refused : goal.returns-in_err-number-clause-refused
returns-in_err-number-clause-refused c =
    let h = c.args.head in
    let r = c.requires.reading in
    let slots : List (List ℕ) = content c.args.image.now in
    handed_on (IfSaid (λ m. OverEach (read slots (course_of h (ScanZero c.args.zero))) (λ tables. shape h.stmt tables ≡ Some m))) c.from_residual-in_err-number.result c.in_err-number.field-0.0 c.from_residual-in_err-number.ensures.1
    (zero_refused h c.args.zero r.2.0 r.2.1 slots c.seen.result.now c.in_err-number.field-0.0 c.args.stmt.now (c.seen.ensures.is ∙ c.in_ok-now.ensures.seen r.2.0 r.2.1) c.requires.lent c.in_err-number.ensures.refused)

pub invariant_of-result-then-creates : goal.invariant_of-result-then-creates
invariant_of-result-then-creates c =
    let none : c.in_ok-now.now.next ≡ None = search rules in
    let makes : creates c.args.stmt.now ≡ true = search rules in
    let n = c.in_ok-number.ensures in
    lacking_in c.args.head c.in_ok-now.now c.seen.result.now c.args.stmt.now c.in_ok-number.number c.in_ok-now.ensures.scan none (c.in_ok-now.ensures.root ∙ c.requires.reading.1) c.seen.ensures.is c.requires.lent n.found n.new makes n.some n.small

pub returns-then-creates-clause-takes : goal.returns-then-creates-clause-takes
returns-then-creates-clause-takes c =
    let r = c.requires.reading in
    zero_lacks c.args.head c.args.zero r.2.0 r.2.1 (content c.args.image.now) c.in_ok-now.now c.in_ok-number.number (c.in_ok-now.ensures.seen r.2.0 r.2.1)

pub returns-in_err-desc-clause-refused : goal.returns-in_err-desc-clause-refused
returns-in_err-desc-clause-refused c =
    let h = c.args.head in
    let r = c.requires.reading in
    let slots : List (List ℕ) = content c.args.image.now in
    handed_on (IfSaid (λ m. OverEach (read slots (course_of h (ScanZero c.args.zero))) (λ tables. shape h.stmt tables ≡ Some m))) c.from_residual-in_err-desc.result c.in_err-desc.field-0.0 c.from_residual-in_err-desc.ensures.1
    (zero_refused h c.args.zero r.2.0 r.2.1 slots c.seen-2.result.now c.in_err-desc.field-0.0 c.args.stmt.now (c.seen-2.ensures.is ∙ c.in_ok-now.ensures.seen r.2.0 r.2.1) c.requires.lent c.in_err-desc.ensures.refused)

pub with_table-requires : goal.with_table-requires
with_table-requires c =
    let none : c.in_ok-now.now.next ≡ None = search rules in
    found_in c.args.head c.in_ok-now.now c.seen-2.result.now c.args.stmt.now c.in_ok-desc.desc c.in_ok-now.ensures.scan none (c.in_ok-now.ensures.root ∙ c.requires.reading.1) c.seen-2.ensures.is c.requires.lent c.in_ok-desc.ensures.found c.in_ok-desc.ensures.table (let not : creates c.args.stmt.now ≡ false = search rules in not)

pub returns-clause-takes : goal.returns-clause-takes
returns-clause-takes c =
    let r = c.requires.reading in
    zero_finds c.args.head c.args.zero r.2.0 r.2.1 (content c.args.image.now) c.in_ok-now.now c.in_ok-desc.desc c.in_ok-with_table.field-0 (c.in_ok-now.ensures.seen r.2.0 r.2.1) c.in_ok-with_table.ensures

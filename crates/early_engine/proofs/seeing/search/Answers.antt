use Rattle.std.proofs.Common.{◌≡◌, inl, inr, refl, sym, ◌∙◌, subst, arith}
use Rattle.early_engine.specs.Seeing.{Shows}
use Rattle.early_engine.specs.declared.seeing.Glance.{Glance}
use Rattle.early_engine.specs.declared.seeing.Glance.TheVariants.{Blank, Named, Other, Damaged, Lost}
use Rattle.early_engine.proofs.PushLemmas.{pushes_refl, pushes_trans, leaves_of, turns_none, turns_trans}
use Rattle.early_engine.proofs.SeeLemmas.{pages_same, passes_other, blank_ends, named_ends, damaged_never, all_end}
use Rattle.early_engine.proofs.seeing.search.Goals as goal

pub loop-i-init : goal.loop-i-init
loop-i-init g c = record { pushes = pushes_refl c.args.pages.now; turns = turns_none c.args.ledger.now c.args.pages.now c.args.pages.now refl refl; room = c.requires.room; sound = c.requires.sound; passed = λ kept k lt. absurd (omega (arith, lt)) }

pub returns-in-Lost-clause-pushes : goal.returns-in-Lost-clause-pushes
returns-in-Lost-clause-pushes g c = pushes_trans c.args.pages.now c.loop-i.pages c.look_for.new.pages c.loop-i.invariant.pushes c.look_for.ensures.pushes

pub returns-in-Lost-clause-turns : goal.returns-in-Lost-clause-turns
returns-in-Lost-clause-turns g c = turns_trans c.args.ledger.now c.loop-i.ledger c.look_for.new.ledger c.args.pages.now c.loop-i.pages c.look_for.new.pages (leaves_of c.args.pages.now c.loop-i.pages c.loop-i.invariant.pushes) (leaves_of c.loop-i.pages c.look_for.new.pages c.look_for.ensures.pushes) c.loop-i.invariant.turns c.look_for.ensures.turns

pub returns-in-Damaged-clause-pushes : goal.returns-in-Damaged-clause-pushes
returns-in-Damaged-clause-pushes g c = pushes_trans c.args.pages.now c.loop-i.pages c.look_for.new.pages c.loop-i.invariant.pushes c.look_for.ensures.pushes

pub returns-in-Damaged-clause-turns : goal.returns-in-Damaged-clause-turns
returns-in-Damaged-clause-turns g c = turns_trans c.args.ledger.now c.loop-i.ledger c.look_for.new.ledger c.args.pages.now c.loop-i.pages c.look_for.new.pages (leaves_of c.args.pages.now c.loop-i.pages c.loop-i.invariant.pushes) (leaves_of c.loop-i.pages c.look_for.new.pages c.look_for.ensures.pushes) c.loop-i.invariant.turns c.look_for.ensures.turns

pub returns-in-Damaged-clause-reply : goal.returns-in-Damaged-clause-reply
returns-in-Damaged-clause-reply g c = λ kept tables are.
    let v = c.loop-i.pages in
    let w = c.look_for.new.pages in
    let shows = subst (λ (r : Glance). Shows c.look_for.new.image c.args.name.now r) c.in-Damaged.is c.look_for.ensures.shows in
    let read = c.look_for.ensures.read (λ e. let x : Damaged c.in-Damaged.at ≡ Lost = sym c.in-Damaged.is ∙ e in cc) in
    let n = c.data_pages-i-end.ensures ∙ sym (pages_same c.args.pages.now w (pushes_trans c.args.pages.now v w c.loop-i.invariant.pushes c.look_for.ensures.pushes)) in
    absurd (damaged_never v w c.args.s c.loop-i.i c.args.name.now c.look_for.new.image c.look_for.ensures.pushes c.loop-i.invariant.passed kept (read kept) tables c.data_pages-i-end.result n are c.loop-i-test.true c.in-Damaged.at shows)

pub returns-in-Blank-clause-pushes : goal.returns-in-Blank-clause-pushes
returns-in-Blank-clause-pushes g c = pushes_trans c.args.pages.now c.loop-i.pages c.look_for.new.pages c.loop-i.invariant.pushes c.look_for.ensures.pushes

pub returns-in-Blank-clause-turns : goal.returns-in-Blank-clause-turns
returns-in-Blank-clause-turns g c = turns_trans c.args.ledger.now c.loop-i.ledger c.look_for.new.ledger c.args.pages.now c.loop-i.pages c.look_for.new.pages (leaves_of c.args.pages.now c.loop-i.pages c.loop-i.invariant.pushes) (leaves_of c.loop-i.pages c.look_for.new.pages c.look_for.ensures.pushes) c.loop-i.invariant.turns c.look_for.ensures.turns

pub returns-in-Blank-clause-reply : goal.returns-in-Blank-clause-reply
returns-in-Blank-clause-reply g c = λ kept tables are.
    let v = c.loop-i.pages in
    let w = c.look_for.new.pages in
    let shows = subst (λ (r : Glance). Shows c.look_for.new.image c.args.name.now r) c.in-Blank.is c.look_for.ensures.shows in
    let read = c.look_for.ensures.read (λ e. let x : Blank ≡ Lost = sym c.in-Blank.is ∙ e in cc) in
    let n = c.data_pages-i-end.ensures ∙ sym (pages_same c.args.pages.now w (pushes_trans c.args.pages.now v w c.loop-i.invariant.pushes c.look_for.ensures.pushes)) in
    inr (c.refused-in-Blank.ensures ∙ blank_ends v w c.args.s c.loop-i.i c.args.name.now c.look_for.new.image c.look_for.ensures.pushes c.loop-i.invariant.passed kept (read kept) tables c.data_pages-i-end.result n are c.loop-i-test.true c.args.stmt.now c.requires.select shows)

pub returns-in-Named-clause-pushes : goal.returns-in-Named-clause-pushes
returns-in-Named-clause-pushes g c = pushes_trans c.args.pages.now c.loop-i.pages c.look_for.new.pages c.loop-i.invariant.pushes c.look_for.ensures.pushes

pub returns-in-Named-clause-turns : goal.returns-in-Named-clause-turns
returns-in-Named-clause-turns g c = turns_trans c.args.ledger.now c.loop-i.ledger c.look_for.new.ledger c.args.pages.now c.loop-i.pages c.look_for.new.pages (leaves_of c.args.pages.now c.loop-i.pages c.loop-i.invariant.pushes) (leaves_of c.loop-i.pages c.look_for.new.pages c.look_for.ensures.pushes) c.loop-i.invariant.turns c.look_for.ensures.turns

pub returns-in-Named-clause-reply : goal.returns-in-Named-clause-reply
returns-in-Named-clause-reply g c = λ kept tables are.
    let v = c.loop-i.pages in
    let w = c.look_for.new.pages in
    let shows = subst (λ (r : Glance). Shows c.look_for.new.image c.args.name.now r) c.in-Named.is c.look_for.ensures.shows in
    let read = c.look_for.ensures.read (λ e. let x : Named ≡ Lost = sym c.in-Named.is ∙ e in cc) in
    let n = c.data_pages-i-end.ensures ∙ sym (pages_same c.args.pages.now w (pushes_trans c.args.pages.now v w c.loop-i.invariant.pushes c.look_for.ensures.pushes)) in
    elim c.shown_or_none.ensures.reply [ inl e ↦ inl e | inr rows ↦ inr (named_ends v w c.args.s c.loop-i.i c.args.name.now c.look_for.new.image c.look_for.ensures.pushes c.loop-i.invariant.passed kept (read kept) tables c.data_pages-i-end.result n are c.loop-i-test.true c.args.stmt.now c.shown_or_none.result shows rows) ]

pub loop-i-preserved : goal.loop-i-preserved
loop-i-preserved g c =
    let v = c.loop-i.pages in
    let w = c.look_for.new.pages in
    let shows = subst (λ (r : Glance). Shows c.look_for.new.image c.args.name.now r) c.in-Other.is c.look_for.ensures.shows in
    let read = c.look_for.ensures.read (λ e. let x : Other ≡ Lost = sym c.in-Other.is ∙ e in cc) in
    record {
      pushes = pushes_trans c.args.pages.now v w c.loop-i.invariant.pushes c.look_for.ensures.pushes;
      turns = turns_trans c.args.ledger.now c.loop-i.ledger c.look_for.new.ledger c.args.pages.now v w (leaves_of c.args.pages.now v c.loop-i.invariant.pushes) (leaves_of v w c.look_for.ensures.pushes) c.loop-i.invariant.turns c.look_for.ensures.turns;
      room = let r = c.look_for.ensures.turns.room in let f = c.look_for.ensures.turns.fewer in let h = c.loop-i.invariant.room in omega (arith, r, f, h);
      sound = c.look_for.ensures.kept (λ e. let x : Other ≡ Lost = sym c.in-Other.is ∙ e in cc);
      passed = λ kept. passes_other v w c.args.s c.loop-i.i c.args.name.now c.look_for.new.image c.look_for.ensures.pushes c.loop-i.invariant.passed kept (read kept) shows;
    }

pub returns-clause-reply : goal.returns-clause-reply
returns-clause-reply g c = λ kept tables are.
    let same = pages_same c.args.pages.now c.loop-i.pages c.loop-i.invariant.pushes in
    let n = c.data_pages-i-end.ensures in
    let f = c.loop-i-test.false in
    inr (c.refused-2.ensures ∙ all_end c.args.stmt.now c.loop-i.pages c.args.s c.loop-i.i c.args.name.now tables c.requires.select are (omega (arith, same, n, f)) (c.loop-i.invariant.passed kept))

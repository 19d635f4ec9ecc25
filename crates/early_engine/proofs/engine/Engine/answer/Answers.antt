use Rattle.std.proofs.Common.{◌≡◌, ◌+◌, ◌∙◌, sym, ap, subst, arith}
use Rattle.plain_model.specs.State.{committed}
use Rattle.plain_model.specs.Tables.{Tables}
use Rattle.early_pages.specs.Shown.{img}
use Rattle.table_pages.specs.Carried.{data_pages, Carries}
use Rattle.early_engine.specs.Opened.{names_of, new_source}
use Rattle.early_engine.specs.Disks.{disk_of}
use Rattle.early_engine.specs.Ready.{reply_of}
use Rattle.early_engine.specs.Stepping.{tables_after}
use Rattle.early_engine.specs.Deciding.{IsDecision}
use Rattle.early_engine.specs.Doing.{Does}
use Rattle.early_engine.specs.declared.seat.Seat.{Seat}
use Rattle.early_engine.specs.Safe.{Run, Safe, AreTables, state, seen_by, seat_at}
use Rattle.early_engine.specs.Steps.{next_stmt, HasNext}
use Rattle.early_engine.proofs.CourseLemmas.{enough, few_events, own_seat, own_stmt, safe_answer}
use Rattle.early_engine.proofs.SayingLemmas.{short_stays, says_answer}
use Rattle.early_engine.proofs.engine.Engine.answer.Goals as goal

pub carry_out-requires : goal.carry_out-requires
carry_out-requires g c κs low =
    let e : Run = record {
      opening = new_source c.self.inside.source c.self.inside.file (names_of (g.V.Volume.folder c.self.inside.opened.value));
      scripts = c.self.inside.scripts;
      disk = disk_of g.V.Volume.tells g.V.Volume.folder g.V.Volume.out g.V.Volume.failures g.V.Volume.file_failures c.self.inside.volume;
      shown = c.self.inside.pages;
      seats = c.self.inside.seats.items;
      kept = c.self.inside.ledger;
    } in
    let is : c.args.self.now ≡ e = sym c.self.view_is in
    let next = subst (λ (r : Run). HasNext r c.args.place) is c.requires.1.1.1.0 in
    let decided = subst (λ (r : Run). IsDecision r.opening (seat_at r c.args.place).current r.shown (seen_by (state r)) (next_stmt r c.args.place) c.args.decision) is c.requires.1.1.1.1.0 in
    let tables = c.requires.1.1.1.1.1 ∙ ap (λ (r : Run). tables_after (next_stmt r c.args.place) (reply_of c.args.decision.answer) (committed (state r))) is in (
      low,
      (
        subst (λ (t : Tables). Carries c.self.inside.pages c.args.decision.edits t) (sym tables) decided.carries,
        (
          c.self.invariant.pages.source.pages,
          (enough e c.self.invariant c.args.place next, few_events e c.self.invariant c.args.place next),
        ),
      ),
    )

pub invariant_of-self : goal.invariant_of-self
invariant_of-self g c =
    let e : Run = record {
      opening = new_source c.self.inside.source c.self.inside.file (names_of (g.V.Volume.folder c.self.inside.opened.value));
      scripts = c.self.inside.scripts;
      disk = disk_of g.V.Volume.tells g.V.Volume.folder g.V.Volume.out g.V.Volume.failures g.V.Volume.file_failures c.self.inside.volume;
      shown = c.self.inside.pages;
      seats = c.self.inside.seats.items;
      kept = c.self.inside.ledger;
    } in
    let is : c.args.self.now ≡ e = sym c.self.view_is in
    let safe : Safe e = c.self.invariant in
    let next = subst (λ (r : Run). HasNext r c.args.place) is c.requires.1.1.1.0 in
    let decided = subst (λ (r : Run). IsDecision r.opening (seat_at r c.args.place).current r.shown (seen_by (state r)) (next_stmt r c.args.place) c.args.decision) is c.requires.1.1.1.1.0 in
    let tables = c.requires.1.1.1.1.1 ∙ ap (λ (r : Run). tables_after (next_stmt r c.args.place) (reply_of c.args.decision.answer) (committed (state r))) is in
    let seat_is = own_seat e safe c.args.place next c.index-seat.result.now c.index-seat.ensures in
    let stmt_is = own_stmt e safe c.args.place next c.index-seat.result.now c.stmt_at-stmt.result.now seat_is c.stmt_at-stmt.ensures.is in
    let does = subst (λ (s : Seat). Does (c.args.place + 1) (s.said + 1) c.args.decision.answer c.self.inside.ledger c.carry_out.new.ledger c.self.inside.pages c.carry_out.new.pages) seat_is c.carry_out.ensures.does in
    safe_answer e safe c.args.place next c.args.decision decided c.carry_out.new.pages c.carry_out.new.ledger does c.carry_out.ensures.still
    (subst (λ (t : Tables). AreTables (data_pages c.carry_out.new.pages) (img c.carry_out.new.pages) t) tables c.carry_out.ensures.tables)
    c.index-seat.result.now c.stmt_at-stmt.result.now c.current_after-current.result seat_is stmt_is c.current_after-current.ensures

pub returns : goal.returns
returns g c =
    let e : Run = record {
      opening = new_source c.self.inside.source c.self.inside.file (names_of (g.V.Volume.folder c.self.inside.opened.value));
      scripts = c.self.inside.scripts;
      disk = disk_of g.V.Volume.tells g.V.Volume.folder g.V.Volume.out g.V.Volume.failures g.V.Volume.file_failures c.self.inside.volume;
      shown = c.self.inside.pages;
      seats = c.self.inside.seats.items;
      kept = c.self.inside.ledger;
    } in
    let is : c.args.self.now ≡ e = sym c.self.view_is in
    let safe : Safe e = c.self.invariant in
    let next = subst (λ (r : Run). HasNext r c.args.place) is c.requires.1.1.1.0 in
    let decided = subst (λ (r : Run). IsDecision r.opening (seat_at r c.args.place).current r.shown (seen_by (state r)) (next_stmt r c.args.place) c.args.decision) is c.requires.1.1.1.1.0 in
    let seat_is = own_seat e safe c.args.place next c.index-seat.result.now c.index-seat.ensures in
    let does = subst (λ (s : Seat). Does (c.args.place + 1) (s.said + 1) c.args.decision.answer c.self.inside.ledger c.carry_out.new.ledger c.self.inside.pages c.carry_out.new.pages) seat_is c.carry_out.ensures.does in
    says_answer e safe c.args.place next c.args.self.now c.self.view_is c.index-seat.result.now seat_is c.args.decision.answer c.carry_out.new.pages c.carry_out.new.ledger does decided.room (short_stays e.shown c.carry_out.new.pages (reply_of c.args.decision.answer) c.args.decision.edits decided.short c.carry_out.ensures.still) decided.fine (omega arith) (omega arith) c.current_after-current.result

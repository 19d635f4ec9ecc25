use Rattle.std.proofs.Common.{◌≡◌, ◌⊎◌, ◌+◌, sym, refl, subst, arith, append-nil}
use Rattle.early_engine.specs.Opened.{names_of, new_source}
use Rattle.early_engine.specs.Disks.{disk_of}
use Rattle.early_engine.specs.Deciding.{IsSeeing}
use Rattle.early_engine.specs.Doing.{Does}
use Rattle.early_engine.specs.declared.seat.Seat.{Seat}
use Rattle.early_engine.specs.declared.answer.Answer.TheVariants.{AtOnce}
use Rattle.early_engine.specs.Safe.{Run, Safe, seat_at}
use Rattle.early_engine.specs.Steps.{next_stmt, HasNext}
use Rattle.early_engine.proofs.AnswerLemmas.{does_one}
use Rattle.early_engine.proofs.PushLemmas.{leaves_of}
use Rattle.early_engine.proofs.CourseLemmas.{enough, own_seat, own_stmt, safe_see}
use Rattle.early_engine.proofs.SayingLemmas.{roomy, roomy_stays, says_seen}
use Rattle.early_engine.specs.Causes.{HasPlace}
use Rattle.plain_model.specs.declared.stmt.Stmt.{Stmt}
use Rattle.plain_model.specs.declared.reply.Reply.TheVariants.{Msg}
use Rattle.plain_model.specs.declared.reply.TheConstants.Message.{NO_MEMORY}
use Rattle.plain_model.specs.Messages.{plain}
use Rattle.plain_model.specs.Tables.{Tables}
use Rattle.early_pages.specs.Views.{view, IsKept}
use Rattle.table_pages.specs.Carried.{data_pages}
use Rattle.early_engine.specs.Safe.{AreTables}
use Rattle.early_engine.specs.Seeing.{IsSelect, selected}
use Rattle.early_engine.proofs.engine.Engine.see.Goals as goal

pub select_in-reply-requires-clause-select : goal.select_in-reply-requires-clause-select
select_in-reply-requires-clause-select g c =
    let e : Run = record {
      opening = new_source c.self.inside.source c.self.inside.file (names_of (g.V.Volume.folder c.self.inside.opened.value));
      scripts = c.self.inside.scripts;
      disk = disk_of g.V.Volume.tells g.V.Volume.folder g.V.Volume.out g.V.Volume.failures g.V.Volume.file_failures c.self.inside.volume;
      shown = c.self.inside.pages;
      seats = c.self.inside.seats.items;
      kept = c.self.inside.ledger;
    } in
    let is : c.args.self.now ≡ e = sym c.self.view_is in
    let safe : Safe e = c.self.invariant in
    let next = subst (λ (r : Run). HasNext r c.args.place) is c.requires.next in
    let seeing = subst (λ (r : Run). IsSeeing r.opening (seat_at r c.args.place).current r.shown (next_stmt r c.args.place) c.args.s c.args.name.now) is c.requires.course in
    let seat_is = own_seat e safe c.args.place next c.index-seat.result.now c.index-seat.ensures in
    let stmt_is = own_stmt e safe c.args.place next c.index-seat.result.now c.stmt_at-stmt.result.now seat_is c.stmt_at-stmt.ensures.is in
    subst (λ (x : Stmt). IsSelect x c.args.name.now) stmt_is (record { select = seeing.select; is = seeing.is; table = seeing.table })

pub enter_reply-requires : goal.enter_reply-requires
enter_reply-requires g c =
    let e : Run = record {
      opening = new_source c.self.inside.source c.self.inside.file (names_of (g.V.Volume.folder c.self.inside.opened.value));
      scripts = c.self.inside.scripts;
      disk = disk_of g.V.Volume.tells g.V.Volume.folder g.V.Volume.out g.V.Volume.failures g.V.Volume.file_failures c.self.inside.volume;
      shown = c.self.inside.pages;
      seats = c.self.inside.seats.items;
      kept = c.self.inside.ledger;
    } in
    let is : c.args.self.now ≡ e = sym c.self.view_is in
    let safe : Safe e = c.self.invariant in
    let next = subst (λ (r : Run). HasNext r c.args.place) is c.requires.next in
    let k = enough e safe c.args.place next in
    let r = c.select_in-reply.ensures.turns.room in
    let f = c.select_in-reply.ensures.turns.fewer in
    omega (arith, k, r, f)

pub invariant_of-self : goal.invariant_of-self
invariant_of-self g c =
    let e : Run = record {
      opening = new_source c.self.inside.source c.self.inside.file (names_of (g.V.Volume.folder c.self.inside.opened.value));
      scripts = c.self.inside.scripts;
      disk = disk_of g.V.Volume.tells g.V.Volume.folder g.V.Volume.out g.V.Volume.failures g.V.Volume.file_failures c.self.inside.volume;
      shown = c.self.inside.pages;
      seats = c.self.inside.seats.items;
      kept = c.self.inside.ledger;
    } in
    let is : c.args.self.now ≡ e = sym c.self.view_is in
    let safe : Safe e = c.self.invariant in
    let next = subst (λ (r : Run). HasNext r c.args.place) is c.requires.next in
    let seeing = subst (λ (r : Run). IsSeeing r.opening (seat_at r c.args.place).current r.shown (next_stmt r c.args.place) c.args.s c.args.name.now) is c.requires.course in
    let seat_is = own_seat e safe c.args.place next c.index-seat.result.now c.index-seat.ensures in
    let stmt_is = own_stmt e safe c.args.place next c.index-seat.result.now c.stmt_at-stmt.result.now seat_is c.stmt_at-stmt.ensures.is in
    let s = c.select_in-reply in
    let does = does_one (c.args.place + 1) (c.index-seat.result.now.said + 1) c.len-began.result (AtOnce s.result) s.result c.self.inside.ledger c.self.inside.ledger s.new.ledger c.enter_reply.new.ledger c.self.inside.pages s.new.pages
    (sym (append-nil c.self.inside.ledger.events)) (omega arith) s.ensures.turns (leaves_of c.self.inside.pages s.new.pages s.ensures.pushes) c.enter_reply.ensures refl c.len-began.ensures (enough e safe c.args.place next) (omega arith) in
    safe_see e safe c.args.place next c.args.s c.args.name.now seeing s.new.pages c.enter_reply.new.ledger s.ensures.pushes c.cat-snaps.ensures.few s.result
    (subst (λ (t : Seat). Does (c.args.place + 1) (t.said + 1) (AtOnce s.result) c.self.inside.ledger c.enter_reply.new.ledger c.self.inside.pages s.new.pages) seat_is does)
    s.ensures.lost (subst (λ (x : Stmt). IsKept s.new.pages c.args.s → (tables : Tables) → AreTables (data_pages s.new.pages) (view s.new.pages c.args.s) tables → (s.result ≡ Msg (plain NO_MEMORY)) ⊎ (s.result ≡ selected x c.args.name.now tables)) (sym stmt_is) s.ensures.reply) c.index-seat.result.now seat_is

pub returns : goal.returns
returns g c =
    let e : Run = record {
      opening = new_source c.self.inside.source c.self.inside.file (names_of (g.V.Volume.folder c.self.inside.opened.value));
      scripts = c.self.inside.scripts;
      disk = disk_of g.V.Volume.tells g.V.Volume.folder g.V.Volume.out g.V.Volume.failures g.V.Volume.file_failures c.self.inside.volume;
      shown = c.self.inside.pages;
      seats = c.self.inside.seats.items;
      kept = c.self.inside.ledger;
    } in
    let is : c.args.self.now ≡ e = sym c.self.view_is in
    let safe : Safe e = c.self.invariant in
    let next = subst (λ (r : Run). HasNext r c.args.place) is c.requires.next in
    let seeing = subst (λ (r : Run). IsSeeing r.opening (seat_at r c.args.place).current r.shown (next_stmt r c.args.place) c.args.s c.args.name.now) is c.requires.course in
    let seat_is = own_seat e safe c.args.place next c.index-seat.result.now c.index-seat.ensures in
    let s = c.select_in-reply in
    let does = does_one (c.args.place + 1) (c.index-seat.result.now.said + 1) c.len-began.result (AtOnce s.result) s.result c.self.inside.ledger c.self.inside.ledger s.new.ledger c.enter_reply.new.ledger c.self.inside.pages s.new.pages
    (sym (append-nil c.self.inside.ledger.events)) (omega arith) s.ensures.turns (leaves_of c.self.inside.pages s.new.pages s.ensures.pushes) c.enter_reply.ensures refl c.len-began.ensures (enough e safe c.args.place next) (omega arith) in
    let there : HasPlace e.shown (next_stmt e c.args.place) = subst (λ (x : Stmt). HasPlace e.shown x) (sym seeing.is) tt in
    says_seen e safe c.args.place next c.args.self.now c.self.view_is c.index-seat.result.now seat_is (AtOnce s.result) s.new.pages c.enter_reply.new.ledger
    (subst (λ (t : Seat). Does (c.args.place + 1) (t.said + 1) (AtOnce s.result) c.self.inside.ledger c.enter_reply.new.ledger c.self.inside.pages s.new.pages) seat_is does)
    (roomy e.shown (next_stmt e c.args.place) s.result there s.ensures.room) (roomy_stays e.shown s.new.pages s.result s.ensures.room) s.ensures.volume (omega arith) (omega arith)

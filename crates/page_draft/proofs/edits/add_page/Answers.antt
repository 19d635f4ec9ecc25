use Rattle.std.proofs.Common.{[], ◌≡◌, true, ap, subst}
use Rattle.page_fmt.specs.Seen.{Looked}
use Rattle.page_fmt.specs.Spelling.{FitsPage}
use Rattle.table_walk.specs.declared.plan.Spot.{Spot}
use Rattle.table_walk.proofs.Exits.{on_ok}
use Rattle.page_draft.specs.Drafts.{Drafted, fits_in, ends_full, old_of}
use Rattle.page_draft.specs.Reading.{IsPlace}
use Rattle.page_draft.proofs.CodeLemmas.{rounds_of}
use Rattle.page_draft.proofs.edits.add_page.Goals as goal

pub returns-clause-edits : goal.returns-clause-edits
returns-clause-edits c =
    let spot : c.page.inside.spot ≡ c.args.page.now.spot = ap (λ (v : Drafted). v.spot) c.page.view_is in
    let at : IsPlace c.args.seen.now c.args.page.now.spot c.read_at-at.result = subst (λ (s : Spot). IsPlace c.args.seen.now s c.read_at-at.result) spot c.read_at-at.ensures in
    on_ok c.add_round-2.result (λ last. rounds_of c.args.seen.now c.args.page.now c.read_at-at.result c.args.edits.now c.add_round.new.edits c.add_round-2.new.edits at c.in_ok-add_round.ensures.edits last) c.add_round-2.ensures.edits

pub returns-clause-room : goal.returns-clause-room
returns-clause-room c =
    let d : Looked = record { page = record { file = 0; page = 0 }; slots = [] } in
    let spot : c.page.inside.spot ≡ c.args.page.now.spot = ap (λ (v : Drafted). v.spot) c.page.view_is in
    let at : IsPlace c.args.seen.now c.args.page.now.spot c.read_at-at.result = subst (λ (s : Spot). IsPlace c.args.seen.now s c.read_at-at.result) spot c.read_at-at.ensures in
    on_ok c.add_round-2.result
    (λ fits.
    subst (λ (v : Drafted). (fits_in 8096 v.cells ≡ true) × (ends_full v.cells ≡ true) × FitsPage (old_of c.args.seen.now c.args.page.now.spot)) c.page.view_is
    (c.page.invariant.0, c.page.invariant.1, subst FitsPage (at.slots d) (fits d))) c.add_round-2.ensures.fits

use Rattle.std.proofs.Common.{◌≡◌, sym, subst}
use Rattle.std.specs.Prelude.{Option, None, IfNone}
use Rattle.table_walk.specs.declared.plan.Spot.{Spot}
use Rattle.page_draft.specs.Reading.{IsPlace}
use Rattle.page_draft.proofs.CodeLemmas.{place_is}
use Rattle.page_draft.proofs.edits.read_at.Goals as goal

none_is : {P : Type 0} {X : Type 0} (o : Option X) → IfNone o P → o ≡ None → P
none_is {P = P} {X = X} o h e = subst (λ (x : Option X). IfNone x P) e h

pub returns-in-Old : goal.returns-in-Old
returns-in-Old c =
    subst (λ (s : Spot). IsPlace c.args.seen.now s c.place.result) (sym c.in-Old.is) (place_is c.args.seen.now c.in-Old.page c.place.result c.place.ensures.some c.place.ensures.there (none_is c.place.result c.place.ensures.none))

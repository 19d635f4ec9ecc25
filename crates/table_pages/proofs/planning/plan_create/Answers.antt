use Rattle.std.proofs.Common.{◌≡◌, ◌≤◌, ◌∙◌, [], ◌∷◌, List, length, ap, sym, subst, arith}
use Rattle.plain_model.specs.Tables.{Add, applied}
use Rattle.table_pages.specs.declared.edit.Edit.{Edit}
use Rattle.table_pages.specs.Headers.{header}
use Rattle.table_pages.specs.Names.{AreKept}
use Rattle.table_pages.specs.Carried.{Carries}
use Rattle.table_pages.proofs.PlanLemmas.{create_carries}
use Rattle.table_pages.proofs.planning.plan_create.Goals as goal

pub returns-clause-some : goal.returns-clause-some
returns-clause-some g c = λ tables e new.
    let v = c.args.pages.now in
    let name = c.args.name.now in
    let cols = c.args.cols.now in
    let bytes_are : c.in_ok-bytes.bytes ≡ header name cols = c.in_ok-bytes.ensures.bytes ∙ ap (header name) c.as_slice.ensures in
    let short : length (header name cols) ≤ 8094 = let long = ap length bytes_are in let test = c.if-len-gt-LONGEST.false in let n = c.len.ensures in omega arith in
    let made = create_carries v name cols c.in-Some.i tables e new c.requires.pages c.requires.packed c.in-Some.ensures c.in_ok-bytes.ensures.name
    (subst AreKept c.as_slice.ensures c.in_ok-bytes.ensures.kept) c.requires.definition short in
    subst (λ (es : List Edit). Carries v es (applied (Add name cols) tables)) (λ t. record { page = sym c.place.ensures t; slot = 0; bytes = sym bytes_are t } ∷ []) made

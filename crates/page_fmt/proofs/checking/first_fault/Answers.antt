use Rattle.std.proofs.Common.{◌≡◌, ◌∙◌, arith}
use Rattle.page_fmt.specs.Faults.{fault_with, fault_of}
use Rattle.page_fmt.proofs.CheckLemmas.{page_if_none, no_page_if_some}
use Rattle.page_fmt.proofs.checking.first_fault.Goals as goal

pub returns-clause-page : goal.returns-clause-page
returns-clause-page c =
    let e : c.fault.result ≡ fault_of c.args.page.now = c.fault.ensures.value ∙ (λ i. fault_with c.args.page.now (c.number.ensures i) (c.number-2.ensures i)) in
    page_if_none c.fault.result c.args.page.now (λ i. omega (arith, c.type_inv.page i)) c.requires e

pub returns-clause-none : goal.returns-clause-none
returns-clause-none c =
    let e : c.fault.result ≡ fault_of c.args.page.now = c.fault.ensures.value ∙ (λ i. fault_with c.args.page.now (c.number.ensures i) (c.number-2.ensures i)) in
    no_page_if_some c.fault.result c.args.page.now e

use Rattle.std.proofs.Common.{rules, refl, ◌≡◌, ℕ, zero, suc, Bool, true, List, ap, sym, ◌∙◌, ◌&&◌, subst}
use Rattle.std.specs.Prelude.{replicate}
use Rattle.std.specs.List.{list_all}
use Rattle.plain_model.specs.declared.expr.Expr.TheVariants.{Text}
use Rattle.plain_model.specs.Shape.{is_printable}
use Rattle.plain_model.specs.Sound.{is_entry}
use Rattle.stmt_prog.proofs.tests.text.Goals as goal

letters : (n : ℕ) → list_all is_printable (replicate n 120) ≡ true
letters zero = refl
letters (suc n) = letters n

entry : (n : ℕ) → is_entry (Text (replicate n 120)) ≡ true
entry n = ap (λ (b : Bool). b && true) (letters n)

pub returns : goal.returns
returns c =
    let is : c.in_ok-vec.field-0.items ≡ replicate c.args.size 120 = search rules in
    subst (λ (bytes : List ℕ). is_entry (Text bytes) ≡ true) (sym (c.from.ensures ∙ is)) (entry c.args.size)

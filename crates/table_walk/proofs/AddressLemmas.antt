-- The address of a page, read again.
use Rattle.std.proofs.Common.{refl, ◌≡◌, ◌≢◌, ◌<◌, [], ◌∷◌, length, ap, sym, ◌∙◌, arith, Bool, true, false, cond, ◌==◌, ◌&&◌, eq-eqb, eqb-true}
use Rattle.std.specs.Prelude.{None, Some}
use Rattle.std.proofs.lemmas.List.{append-nil}
use Rattle.page_base.specs.declared.numbers.PageId.{PageId}
use Rattle.byte_fields.specs.Numbers.{number, number_in}
use Rattle.byte_fields.proofs.Numbers.{number_in-number, length-number}
use Rattle.table_walk.specs.Addresses.{address, target, page_number, page_at, names_none, IsTarget}

target_is : (p : PageId) → IsTarget p → target p.file p.page ≡ Some p
target_is p t = by (p.file == 0) (p.page == 0) refl refl
  where
    by : (a b : Bool) → (p.file == 0) ≡ a → (p.page == 0) ≡ b → cond (a && b) None (Some p) ≡ Some p
    by true true e f = absurd (t.real (eqb-true p.file 0 e, eqb-true p.page 0 f))
    by true false e f = refl
    by false b e f = refl

pub address_length : (p : PageId) → length (address p) ≡ 5
address_length p = omega (arith, length-number 4 p.page)

pub address_some : (p : PageId) → address p ≢ []
address_some p e = absurd (omega (arith, address_length p, ap length e))

number_again : (p : PageId) → p.page < 4294967296 → page_number (address p) ≡ p.page
number_again p small = ap (number_in 4) (sym (append-nil (number 4 p.page))) ∙ number_in-number 4 p.page [] (omega (arith, small))

pub page_at-address : (p : PageId) → IsTarget p → page_at (address p) ≡ Some p
page_at-address p t =
    ap (λ b. cond b (target p.file (page_number (address p))) None) (eq-eqb (length (address p)) 5 (address_length p)) ∙ ap (target p.file) (number_again p t.small) ∙ target_is p t

-- five zeros name no page
pub zeros_name_none : names_none (0 ∷ 0 ∷ 0 ∷ 0 ∷ 0 ∷ []) ≡ true
unfolding number_in
zeros_name_none = refl

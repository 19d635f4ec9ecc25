-- What reading a form tells: once for all forms.
use Rattle.std.specs.Prelude.{Some, None}
use Rattle.std.proofs.Common.{◌≡◌, ℕ, suc, zero, ◌+◌, ◌≤◌, ◌<◌, Bool, true, false, List, [], ◌∷◌, ◌++◌, length, length-append, ap, ◌∙◌, refl, arith}
use Rattle.sql_lex.specs.declared.token.Token.{Token}
use Rattle.sql_expr.specs.Got.{Got, Done}
use Rattle.sql_form.specs.Rules.{strict}
use Rattle.sql_form.specs.Form.{Form, Then, Or, May, Many, Left, Right, Value}
use Rattle.sql_form.specs.Grammar.{is_solid, first, IsPlain, IsForm}
use Rattle.sql_form.specs.Read.{chosen, made, joined, read}
use Rattle.sql_form.specs.Laws.{has_end}
use Rattle.sql_form.proofs.BoolLemmas.{true_not}
use Rattle.sql_form.proofs.Beginning.{none_needed}
use Rattle.sql_form.proofs.Complete.{chosen_left, chosen_right}
use Rattle.sql_form.proofs.Samples.{FreeForm, sample, relaxed}
use Rattle.sql_form.proofs.Shorter.{many_on}
use Rattle.sql_form.proofs.Told.{Told, told_made, told_alike, told_joined, reached_split}

-- what reading this form tells of these tokens
abbrev pub Tells : Form → List Token → Type 0
Tells f ts = Told (Value f) (IsForm strict f) (FreeForm f) (λ r. read r f) ts (read strict f ts)

pub tells_then : (f g : Form) (ts : List Token) → Tells f ts → ((us : List Token) → has_end us ≡ true → Tells g us) → Tells (Then f g) ts
tells_then f g ts h k =
    told_joined (IsForm strict f) (FreeForm f) (IsForm strict g) (FreeForm g) (IsForm strict (Then f g)) (FreeForm (Then f g)) (λ x y. (x, y)) (λ r. read r f) (λ r. read r g) ts (λ x y us vs hf hg. (us, vs, refl, hf, hg)) (λ b x y us vs hf hg. (us, vs, refl, hf, hg))
    (λ b. relaxed b f) (λ b. sample b g) (read strict f ts) h (λ x us reached. k us reached.ends)

pub tells_or : (f g : Form) (t : Token) (ts : List Token) → Tells f (t ∷ ts) → Tells g (t ∷ ts) → (b : Bool) → first f t.kind ≡ b → Told (Value (Or f g)) (IsForm strict (Or f g)) (FreeForm (Or f g)) (λ r. read r (Or f g)) (t ∷ ts) (chosen b (made Left (read strict f (t ∷ ts))) (made Right (read strict g (t ∷ ts))))
tells_or f g t ts hf hg true is =
    told_alike (IsForm strict (Or f g)) (FreeForm (Or f g)) (λ r us. made Left (read r f us)) (λ r. read r (Or f g)) t ts (λ r zs. chosen_left (first f t.kind) (made Left (read r f (t ∷ zs))) (made Right (read r g (t ∷ zs))) (made Left (read r f (t ∷ zs))) is refl) (made Left (read strict f (t ∷ ts)))
    (told_made (IsForm strict f) (FreeForm f) (IsForm strict (Or f g)) (FreeForm (Or f g)) Left (λ r. read r f) (t ∷ ts) (λ x us h. h) (λ b x us h. h) (read strict f (t ∷ ts)) hf)
tells_or f g t ts hf hg false is =
    told_alike (IsForm strict (Or f g)) (FreeForm (Or f g)) (λ r us. made Right (read r g us)) (λ r. read r (Or f g)) t ts (λ r zs. chosen_right (first f t.kind) (made Left (read r f (t ∷ zs))) (made Right (read r g (t ∷ zs))) (made Right (read r g (t ∷ zs))) is refl) (made Right (read strict g (t ∷ ts)))
    (told_made (IsForm strict g) (FreeForm g) (IsForm strict (Or f g)) (FreeForm (Or f g)) Right (λ r. read r g) (t ∷ ts) (λ x us h. h) (λ b x us h. h) (read strict g (t ∷ ts)) hg)

pub tells_may : (f : Form) (t : Token) (ts : List Token) → has_end (t ∷ ts) ≡ true → Tells f (t ∷ ts) → (b : Bool) → first f t.kind ≡ b → Told (Value (May f)) (IsForm strict (May f)) (FreeForm (May f)) (λ r. read r (May f)) (t ∷ ts) (chosen b (made Some (read strict f (t ∷ ts))) (Done None (t ∷ ts)))
tells_may f t ts e hf true is =
    told_alike (IsForm strict (May f)) (FreeForm (May f)) (λ r us. made Some (read r f us)) (λ r. read r (May f)) t ts (λ r zs. chosen_left (first f t.kind) (made Some (read r f (t ∷ zs))) (Done None (t ∷ zs)) (made Some (read r f (t ∷ zs))) is refl) (made Some (read strict f (t ∷ ts)))
    (told_made (IsForm strict f) (FreeForm f) (IsForm strict (May f)) (FreeForm (May f)) Some (λ r. read r f) (t ∷ ts) (λ x us h. h) (λ b x us h. h) (read strict f (t ∷ ts)) hf)
tells_may f t ts e hf false is = record {
  front = [];
  next = t;
  others = ts;
  split = refl;
  rest_is = refl;
  is_front = refl;
  again = λ r more. chosen_right (first f t.kind) (made Some (read r f (t ∷ more))) (Done None (t ∷ more)) (Done None (t ∷ more)) is refl;
  ends = e;
}

-- something that needs a token was read, and fewer are left
pub fewer : (f : Form) → IsPlain f → is_solid f ≡ true → (x : Value f) (front ts us : List Token) → IsForm strict f x front → ts ≡ front ++ us → length us < length ts
fewer f p solid x [] ts us h split = absurd (true_not (is_solid f) solid (none_needed strict f p x [] refl h))
fewer f p solid x (t ∷ front) ts us h split =
    let e : length ts ≡ length ((t ∷ front) ++ us) = ap (λ (zs : List Token). length zs) split in
    let a : length (front ++ us) ≡ length front + length us = length-append front us in
    omega (arith, e, a)

abbrev ManyTold : (f : Form) → List Token → Got (List (Value f)) → Type 0
ManyTold f ts g = Told (List (Value f)) (IsForm strict (Many f)) (FreeForm (Many f)) (λ r. read r (Many f)) ts g

tells_many_case : (f : Form) → IsPlain (Many f) → (t : Token) (ts : List Token) → has_end (t ∷ ts) ≡ true → Tells f (t ∷ ts) → ((us : List Token) → length us < length (t ∷ ts) → has_end us ≡ true → Tells (Many f) us)
    → (b : Bool) → first f t.kind ≡ b → ManyTold f (t ∷ ts) (chosen b (joined (λ x xs. x ∷ xs) (read strict f (t ∷ ts)) (read strict (Many f))) (Done [] (t ∷ ts)))
tells_many_case f p t ts e hf more true is =
    told_alike (IsForm strict (Many f)) (FreeForm (Many f)) (λ r us. joined (λ x xs. x ∷ xs) (read r f us) (read r (Many f))) (λ r. read r (Many f)) t ts
    (λ r zs. many_on r f p (t ∷ zs) ∙ chosen_left (first f t.kind) (joined (λ x xs. x ∷ xs) (read r f (t ∷ zs)) (read r (Many f))) (Done [] (t ∷ zs)) (joined (λ x xs. x ∷ xs) (read r f (t ∷ zs)) (read r (Many f))) is refl)
    (joined (λ x xs. x ∷ xs) (read strict f (t ∷ ts)) (read strict (Many f)))
    (told_joined (IsForm strict f) (FreeForm f) (IsForm strict (Many f)) (FreeForm (Many f)) (IsForm strict (Many f)) (FreeForm (Many f)) (λ x xs. x ∷ xs) (λ r. read r f) (λ r. read r (Many f)) (t ∷ ts)
    (λ x xs us vs h hs. (us, vs, refl, h, hs)) (λ b x xs us vs h hs. (us, vs, refl, h, hs)) (λ b. relaxed b f) (λ b. sample b (Many f)) (read strict f (t ∷ ts)) hf
    (λ x us h. more us (fewer f p.0 p.1 x h.front (t ∷ ts) us h.is_front (reached_split h)) h.ends))
tells_many_case f p t ts e hf more false is = record {
  front = [];
  next = t;
  others = ts;
  split = refl;
  rest_is = refl;
  is_front = refl;
  again = λ r zs. many_on r f p (t ∷ zs) ∙ chosen_right (first f t.kind) (joined (λ x xs. x ∷ xs) (read r f (t ∷ zs)) (read r (Many f))) (Done [] (t ∷ zs)) (Done [] (t ∷ zs)) is refl;
  ends = e;
}

pub tells_many : (f : Form) → IsPlain (Many f) → ((us : List Token) → has_end us ≡ true → Tells f us) → (n : ℕ) (ts : List Token) → length ts ≤ n → has_end ts ≡ true → Tells (Many f) ts
tells_many f p hf n [] le e = cc
tells_many f p hf zero (t ∷ ts) le e = absurd (omega arith)
tells_many f p hf (suc n) (t ∷ ts) le e =
    rw (many_on strict f p (t ∷ ts)) (tells_many_case f p t ts e (hf (t ∷ ts) e) (λ us less ends. tells_many f p hf n us (omega arith) ends) (first f t.kind) refl)

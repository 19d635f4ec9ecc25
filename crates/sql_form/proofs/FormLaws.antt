-- The laws of reading forms.
use Rattle.std.proofs.Common.{◌≡◌, ℕ, Bool, true, false, List, [], ◌∷◌, ◌++◌, length, ap, sym, ◌∙◌, refl, append_assoc, arith}
use Rattle.sql_lex.specs.declared.token.Token.{Token}
use Rattle.sql_expr.specs.Got.{Done, Refused}
use Rattle.sql_expr.proofs.Viable.{end_token}
use Rattle.sql_form.specs.Rules.{Rules, strict, Breach, rules_of}
use Rattle.sql_form.specs.Form.{Form, One, Table, Expr, Then, Or, May, Many, Parts, Value}
use Rattle.sql_form.specs.Grammar.{IsPlain, first, IsForm}
use Rattle.sql_form.specs.Read.{read}
use Rattle.sql_form.specs.Laws.{has_end, Begins, IsFront, IsRefused}
use Rattle.sql_form.proofs.Complete.{complete}
use Rattle.sql_form.proofs.Shorter.{continues_end}
use Rattle.sql_form.proofs.Samples.{Begun, FreeForm, free}
use Rattle.sql_form.proofs.Told.{Reached, Halted, reached_split}
use Rattle.sql_form.proofs.ToldLeaves.{told_one, told_table, told_expr}
use Rattle.sql_form.proofs.ToldForms.{Tells, tells_then, tells_or, tells_may, tells_many}
use Rattle.sql_form.proofs.ToldParts.{counts_first, tells_parts}

-- what reading a form tells of the tokens in front
pub tells : (f : Form) → IsPlain f → (ts : List Token) → has_end ts ≡ true → Tells f ts
tells (One leaf) p ts e = told_one leaf ts e
tells Table p ts e = told_table ts e
tells (Expr names truth) p ts e = told_expr names truth ts e
tells (Then f g) p ts e = tells_then f g ts (tells f p.0 ts e) (tells g p.1)
tells (Or f g) p [] e = cc
tells (Or f g) p (t ∷ ts) e = tells_or f g t ts (tells f p.0 (t ∷ ts) e) (tells g p.1 (t ∷ ts) e) (first f t.kind) refl
tells (May f) p [] e = cc
tells (May f) p (t ∷ ts) e = tells_may f t ts e (tells f p.0 (t ∷ ts) e) (first f t.kind) refl
tells (Many f) p ts e = tells_many f p (tells f p.0) (length ts) ts (omega arith) e
tells (Parts most every part) p ts e = tells_parts every part p.0 p.1 (counts_first every part) (tells part p.0) (length ts) most ts (omega arith) e

-- what was read, and what stands behind it
pub reached : (f : Form) → IsPlain f → (ts rest : List Token) (x : Value f) → has_end ts ≡ true → read strict f ts ≡ Done x rest → Reached (Value f) (IsForm strict f) (λ r. read r f) ts x rest
reached f p ts rest x e h = rw h at (tells f p ts e)

pub halted : (f : Form) → IsPlain f → (ts : List Token) (at : ℕ) → has_end ts ≡ true → read strict f ts ≡ Refused at → Halted (Value f) (FreeForm f) (λ r. read r f) ts at
halted f p ts at e h = rw h at (tells f p ts e)

pub front_is : (f : Form) → IsPlain f → (ts rest : List Token) (x : Value f) → has_end ts ≡ true → read strict f ts ≡ Done x rest → IsFront f ts x rest
front_is f p ts rest x e h = let r = reached f p ts rest x e h in record { front = r.front; split = reached_split r; is = r.is_front }

begins_of : (texts : Bool) (f : Form) (front : List Token) → Begun (Value f) (FreeForm f texts) front → Begins (free texts) f front
begins_of texts f front b = record { more = b.more; value = b.value; is = b.is_so }

done_not_refused : {A : Type 0} (x : A) (rest : List Token) (at : ℕ) → Done x rest ≡ Refused at → ⊥
done_not_refused x rest at h = cc

pub none_begins : (f : Form) → IsPlain f → (r : Rules) (front : List Token) (t : Token) (at : ℕ) → ((more : List Token) → read r f (front ++ t ∷ more) ≡ Refused at) → Begins r f (front ++ t ∷ []) → ⊥
none_begins f p r front t at again b =
    let whole : read r f (((front ++ t ∷ []) ++ b.more) ++ end_token ∷ []) ≡ Done b.value (end_token ∷ []) = complete r f p b.value ((front ++ t ∷ []) ++ b.more) b.is end_token [] (continues_end f) in
    let split : ((front ++ t ∷ []) ++ b.more) ++ end_token ∷ [] ≡ front ++ t ∷ (b.more ++ end_token ∷ []) = append_assoc (front ++ t ∷ []) b.more (end_token ∷ []) ∙ append_assoc front (t ∷ []) (b.more ++ end_token ∷ []) in
    done_not_refused b.value (end_token ∷ []) at (sym whole ∙ ap (read r f) split ∙ again (b.more ++ end_token ∷ []))

pub refused_is : (f : Form) → IsPlain f → (ts : List Token) (at : ℕ) → has_end ts ≡ true → read strict f ts ≡ Refused at → (why : Breach) × IsRefused f ts why at
refused_is f p ts at e h =
    let k = halted f p ts at e h in (
      k.why,
      record {
        front = k.front;
        token = k.token;
        others = k.others;
        split = k.split;
        place = k.place;
        before = begins_of true f k.front k.before;
        none = none_begins f p (rules_of k.why) k.front k.token at k.again;
        freed = λ is_free. begins_of false f (k.front ++ k.token ∷ []) (k.freed is_free);
      },
    )

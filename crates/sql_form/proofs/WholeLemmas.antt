-- The laws of reading all tokens before the end.
use Rattle.std.proofs.Common.{◌≡◌, ℕ, Bool, true, false, List, [], ◌∷◌, ◌++◌, ap, sym, ◌∙◌, refl, append_assoc, append-nil}
use Rattle.sql_lex.specs.declared.token.Token.{Token}
use Rattle.sql_lex.specs.declared.token.TokenKind.{TokenKind}
use Rattle.sql_lex.specs.declared.token.TokenKind.TheVariants as kind
use Rattle.sql_lex.specs.Ahead.{first_of}
use Rattle.sql_lex.specs.Tokens.{is_end}
use Rattle.sql_expr.specs.Got.{Got, Done, Refused}
use Rattle.sql_expr.proofs.Viable.{end_token}
use Rattle.sql_form.specs.Rules.{Rules, strict, loose, Breach, OfForm}
use Rattle.sql_form.specs.Form.{Form, Value}
use Rattle.sql_form.specs.Grammar.{IsPlain, continues, IsForm}
use Rattle.sql_form.specs.Read.{chosen, read, closed, read_whole}
use Rattle.sql_form.specs.Laws.{has_end, Begins, IsRefused, IsAll}
use Rattle.sql_form.proofs.Complete.{complete}
use Rattle.sql_form.proofs.Samples.{relaxed}
use Rattle.sql_form.proofs.Shorter.{continues_end}
use Rattle.sql_form.proofs.Told.{Reached}
use Rattle.sql_form.proofs.FormLaws.{reached, refused_is}

done_values : {A : Type 0} (x y : A) (us vs : List Token) → Done x us ≡ Done y vs → (x ≡ y) × (us ≡ vs)
done_values x y us vs h = (cc, cc)

-- tokens of a form say one thing
pub one_value : (r : Rules) (f : Form) → IsPlain f → (x y : Value f) (ts : List Token) → IsForm r f x ts → IsForm r f y ts → x ≡ y
one_value r f p x y ts h k =
    (done_values x y (end_token ∷ []) (end_token ∷ []) (sym (complete r f p x ts h end_token [] (continues_end f)) ∙ complete r f p y ts k end_token [] (continues_end f))).0

closed_done : {A : Type 0} (g : Got A) (x : A) (t : Token) (ts : List Token) → g ≡ Done x (t ∷ ts) → is_end t.kind ≡ true → closed g ≡ Done x (t ∷ ts)
closed_done g x t ts h e = rw (h, e) refl

end_is : (k : TokenKind) → is_end k ≡ true → k ≡ kind.End
end_is kind.End h = refl
end_is _ h = cc

end_goes_no_on : (f : Form) (t : Token) → is_end t.kind ≡ true → continues f t.kind ≡ false
end_goes_no_on f t h = rw (end_is t.kind h) (continues_end f)

-- what is of the form before the end is read
pub whole_read : (f : Form) → IsPlain f → (x : Value f) (front rest : List Token) (last : Token) → IsForm strict f x front → is_end last.kind ≡ true → read_whole f (front ++ last ∷ rest) ≡ Done x (last ∷ rest)
whole_read f p x front rest last h e = closed_done (read strict f (front ++ last ∷ rest)) x last rest (complete strict f p x front h last rest (end_goes_no_on f last e)) e

all_of : (f : Form) (ts : List Token) (y : Value f) (front : List Token) (last : Token) (others : List Token) → ts ≡ front ++ last ∷ others → is_end last.kind ≡ true → IsForm strict f y front → IsAll f ts y
all_of f ts y front last others split e h = record { front = front; last = last; others = others; split = split; ends = e; is = h }

all_case : (f : Form) (ts : List Token) (y x : Value f) (us rest : List Token) (h : Reached (Value f) (IsForm strict f) (λ r. read r f) ts y us) (b : Bool) → is_end (first_of us).kind ≡ b → chosen b (Done y us) (Refused (first_of us).at) ≡ Done x rest → IsAll f ts x
all_case f ts y x us rest h true e k =
    let same = done_values y x us rest k in
    let next_is : first_of us ≡ h.next = ap first_of h.rest_is in
    rw same.0 at (all_of f ts y h.front h.next h.others h.split (rw next_is at e) h.is_front)
all_case f ts y x us rest h false e k = cc

all_got : (f : Form) → IsPlain f → (ts rest : List Token) (x : Value f) → has_end ts ≡ true → (g : Got (Value f)) → read strict f ts ≡ g → closed g ≡ Done x rest → IsAll f ts x
all_got f p ts rest x e (Done y us) is h = all_case f ts y x us rest (reached f p ts us y e is) (is_end (first_of us).kind) refl h
all_got f p ts rest x e (Refused at) is h = cc

-- all that is read before the end is of the form
pub whole_is : (f : Form) → IsPlain f → (ts rest : List Token) (x : Value f) → has_end ts ≡ true → read_whole f ts ≡ Done x rest → IsAll f ts x
whole_is f p ts rest x e h = all_got f p ts rest x e (read strict f ts) refl h

no_end_there : (v : Token) (more : List Token) → v ∷ (more ++ end_token ∷ []) ≡ end_token ∷ [] → ⊥
no_end_there v [] h = cc
no_end_there v (m ∷ more) h = cc

-- nothing of the form goes on with a token behind all of it
none_longer : (f : Form) → IsPlain f → (r : Rules) (front : List Token) (v : Token) (x : Value f) → ((more : List Token) → read r f (front ++ v ∷ more) ≡ Done x (v ∷ more)) → Begins r f (front ++ v ∷ []) → ⊥
none_longer f p r front v x again b =
    let whole : read r f (((front ++ v ∷ []) ++ b.more) ++ end_token ∷ []) ≡ Done b.value (end_token ∷ []) = complete r f p b.value ((front ++ v ∷ []) ++ b.more) b.is end_token [] (continues_end f) in
    let split : ((front ++ v ∷ []) ++ b.more) ++ end_token ∷ [] ≡ front ++ v ∷ (b.more ++ end_token ∷ []) = append_assoc (front ++ v ∷ []) b.more (end_token ∷ []) ∙ append_assoc front (v ∷ []) (b.more ++ end_token ∷ []) in
    no_end_there v b.more (done_values x b.value (v ∷ (b.more ++ end_token ∷ [])) (end_token ∷ []) (sym (again (b.more ++ end_token ∷ [])) ∙ sym (ap (read r f) split) ∙ whole)).1

refused_case : (f : Form) → IsPlain f → (ts : List Token) (y : Value f) (us : List Token) (at : ℕ) (h : Reached (Value f) (IsForm strict f) (λ r. read r f) ts y us) (b : Bool) → is_end (first_of us).kind ≡ b → chosen b (Done y us) (Refused (first_of us).at) ≡ Refused at → (why : Breach) × IsRefused f ts why at
refused_case f p ts y us at h true e k = cc
refused_case f p ts y us at h false e k =
    let place : (first_of us).at ≡ at = cc in
    let next_is : first_of us ≡ h.next = ap first_of h.rest_is in (
      OfForm,
      record {
        front = h.front;
        token = h.next;
        others = h.others;
        split = h.split;
        place = sym place ∙ ap (λ (t : Token). t.at) next_is;
        before = record { more = []; value = y; is = rw (append-nil h.front) (relaxed true f y h.front h.is_front) };
        none = none_longer f p loose h.front h.next y (h.again loose);
        freed = λ free. cc;
      },
    )

refused_got : (f : Form) → IsPlain f → (ts : List Token) (at : ℕ) → has_end ts ≡ true → (g : Got (Value f)) → read strict f ts ≡ g → closed g ≡ Refused at → (why : Breach) × IsRefused f ts why at
refused_got f p ts at e (Done y us) is h = refused_case f p ts y us at (reached f p ts us y e is) (is_end (first_of us).kind) refl h
refused_got f p ts at e (Refused place) is h = let same : place ≡ at = cc in refused_is f p ts at e (is ∙ ap Refused same)

-- where they are refused, nothing of the form begins with them
pub whole_refused : (f : Form) → IsPlain f → (ts : List Token) (at : ℕ) → has_end ts ≡ true → read_whole f ts ≡ Refused at → (why : Breach) × IsRefused f ts why at
whole_refused f p ts at e h = refused_got f p ts at e (read strict f ts) refl h

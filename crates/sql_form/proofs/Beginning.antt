-- How the tokens of a form begin.
use Rattle.std.specs.Prelude.{Option, Some, None, is_some}
use Rattle.std.proofs.Common.{◌≡◌, ℕ, Bool, true, false, ◌||◌, List, [], ◌∷◌, ◌++◌, sym, ◌∙◌, refl}
use Rattle.sql_lex.specs.declared.token.Token.{Token}
use Rattle.sql_lex.specs.declared.token.TokenKind.{TokenKind}
use Rattle.sql_lex.specs.declared.token.TokenKind.TheVariants as kind
use Rattle.sql_form.specs.Rules.{Rules, loose}
use Rattle.sql_form.specs.Form.{Leaf, Key, Word, Sign, Nought, AnyName, AnyNumber, FileText, NameText, LeafValue, if_name, file_of, text_name_of, said, Form, One, Table, Expr, Then, Or, May, Many, Parts, Left, Right, Value}
use Rattle.sql_form.specs.Grammar.{is_solid, first, or_if, IsPlain, alone, within, IsForm}
use Rattle.sql_form.proofs.BoolLemmas.{or_if_left, or_if_right, either_is, or_is, true_not}
use Rattle.sql_form.proofs.Expressions.{no_expr, expr_begins}

looser_any : (a is : Bool) (name out : List ℕ) → if_name a is name ≡ Some out → if_name false is name ≡ Some out
looser_any false is name out h = h
looser_any true true name out h = h
looser_any true false name out h = cc

-- a rule that the texts keep is kept under fewer
looser_name : (a b is : Bool) (name out : List ℕ) → (b ≡ true → a ≡ true) → if_name a is name ≡ Some out → if_name b is name ≡ Some out
looser_name a false is name out le h = looser_any a is name out h
looser_name true true is name out le h = h
looser_name false true is name out le h = let no : false ≡ true = le refl in cc

pub looser_file : (a b : Bool) (k : TokenKind) (out : List ℕ) → (b ≡ true → a ≡ true) → file_of a k ≡ Some out → file_of b k ≡ Some out
looser_file a b (kind.Text text) out le h = looser_name a b _ _ out le h
looser_file a b _ out le h = cc

pub looser_text : (a b : Bool) (k : TokenKind) (out : List ℕ) → (b ≡ true → a ≡ true) → text_name_of a k ≡ Some out → text_name_of b k ≡ Some out
looser_text a b (kind.Text text) out le h = looser_name a b _ _ out le h
looser_text a b _ out le h = cc

-- what a token says by some rules it says by fewer
pub looser_said : (r q : Rules) (l : Leaf) (k : TokenKind) (x : LeafValue l) → (q.texts ≡ true → r.texts ≡ true) → said r l k ≡ Some x → said q l k ≡ Some x
looser_said r q (Key key) k x le h = h
looser_said r q (Word wanted) k x le h = h
looser_said r q (Sign mark) k x le h = h
looser_said r q Nought k x le h = h
looser_said r q AnyName k x le h = h
looser_said r q AnyNumber k x le h = h
looser_said r q FileText k x le h = looser_file r.texts q.texts k x le h
looser_said r q NameText k x le h = looser_text r.texts q.texts k x le h

is_there : {A : Type 0} (o : Option A) (x : A) → o ≡ Some x → is_some o ≡ true
is_there o x h = rw h refl

said_first : (r : Rules) (l : Leaf) (k : TokenKind) (x : LeafValue l) → said r l k ≡ Some x → first (One l) k ≡ true
said_first r l k x h = is_there (said loose l k) x (looser_said r loose l k x (λ e. cc) h)

then_empty : (f g : Form) (us vs : List Token) → [] ≡ us ++ vs → (us ≡ [] → is_solid f ≡ false) → (vs ≡ [] → is_solid g ≡ false) → (is_solid f || is_solid g) ≡ false
then_empty f g [] vs split h k = rw (h refl, k (sym split)) refl
then_empty f g (u ∷ us) vs split h k = cc

some_part : (us vs : List Token) (c : Token) → [] ≡ us ++ c ∷ vs → ⊥
some_part [] vs c h = cc
some_part (u ∷ us) vs c h = cc

-- a form that is of no token needs none
pub none_needed : (r : Rules) (f : Form) → IsPlain f → (x : Value f) (ts : List Token) → ts ≡ [] → IsForm r f x ts → is_solid f ≡ false
none_needed r (One leaf) p x ts e (t, split, h) = cc
none_needed r Table p x _ e (alone t h) = cc
none_needed r Table p x _ e (within o d t h k m) = cc
none_needed r (Expr names truth) p x ts e h = absurd (no_expr names r.exprs truth x (rw e at h))
none_needed r (Then f g) p x ts e (us, vs, split, hf, hg) = then_empty f g us vs (sym e ∙ split) (λ n. none_needed r f p.0 x.0 us n hf) (λ n. none_needed r g p.1 x.1 vs n hg)
none_needed r (Or f g) p (Left x) ts e h = absurd (true_not (is_solid f) p.2 (none_needed r f p.0 x ts e h))
none_needed r (Or f g) p (Right x) ts e h = absurd (true_not (is_solid g) p.3 (none_needed r g p.1 x ts e h))
none_needed r (May f) p x ts e h = refl
none_needed r (Many f) p x ts e h = refl
none_needed r (Parts most every part) p [] ts e h = absurd h
none_needed r (Parts most every part) p (x ∷ []) ts e h = absurd (true_not (is_solid part) p.1 (none_needed r part p.0 x ts e h.0))
none_needed r (Parts most every part) p (x ∷ (y ∷ ys)) ts e h = absurd (some_part h.0 h.2 h.1 (sym e ∙ h.3))

then_begins : (f g : Form) (t : Token) (ts us vs : List Token) → t ∷ ts ≡ us ++ vs → (us ≡ [] → is_solid f ≡ false) → ((u : Token) (rest : List Token) → us ≡ u ∷ rest → first f u.kind ≡ true) → ((v : Token) (rest : List Token) → vs ≡ v ∷ rest → first g v.kind ≡ true)
    → or_if (is_solid f) (first f t.kind) (first g t.kind) ≡ true
then_begins f g t ts [] vs split h k m = or_if_right (is_solid f) (first f t.kind) (first g t.kind) (h refl) (m t ts (sym split))
then_begins f g t ts (u ∷ us) vs split h k m = let e : t ≡ u = cc in or_if_left (is_solid f) (first f t.kind) (first g t.kind) (rw e (k u us refl))

front_begins : (f : Form) (t : Token) (ts us vs : List Token) → t ∷ ts ≡ us ++ vs → is_solid f ≡ true → (us ≡ [] → is_solid f ≡ false) → ((u : Token) (rest : List Token) → us ≡ u ∷ rest → first f u.kind ≡ true) → first f t.kind ≡ true
front_begins f t ts [] vs split s h k = absurd (true_not (is_solid f) s (h refl))
front_begins f t ts (u ∷ us) vs split s h k = let e : t ≡ u = cc in rw e (k u us refl)

-- the first token of a form is one with which it begins
pub begins : (r : Rules) (f : Form) → IsPlain f → (x : Value f) (ts : List Token) (t : Token) (rest : List Token) → ts ≡ t ∷ rest → IsForm r f x ts → first f t.kind ≡ true
begins r (One leaf) p x ts t rest e (u, split, h) = let same : t ≡ u = cc in rw same (said_first r leaf u.kind x h)
begins r Table p x _ t rest e (alone u h) = let same : t ≡ u = cc in rw (same, h) refl
begins r Table p x _ t rest e (within o d u h k m) = let same : t ≡ o = cc in rw (same, h) refl
begins r (Expr names truth) p x ts t rest e h = expr_begins names r.exprs truth x t rest (rw e at h)
begins r (Then f g) p x ts t rest e (us, vs, split, hf, hg) =
    then_begins f g t rest us vs (sym e ∙ split) (λ n. none_needed r f p.0 x.0 us n hf) (λ u more n. begins r f p.0 x.0 us u more n hf) (λ v more n. begins r g p.1 x.1 vs v more n hg)
begins r (Or f g) p (Left x) ts t rest e h = either_is (first f t.kind) (first g t.kind) (begins r f p.0 x ts t rest e h)
begins r (Or f g) p (Right x) ts t rest e h = or_is (first f t.kind) (first g t.kind) (begins r g p.1 x ts t rest e h)
begins r (May f) p (Some x) ts t rest e h = begins r f p.0 x ts t rest e h
begins r (May f) p None ts t rest e h = cc
begins r (Many f) p [] ts t rest e h = cc
begins r (Many f) p (x ∷ xs) ts t rest e (us, vs, split, h, hs) = front_begins f t rest us vs (sym e ∙ split) p.1 (λ n. none_needed r f p.0 x us n h) (λ u more n. begins r f p.0 x us u more n h)
begins r (Parts most every part) p [] ts t rest e h = absurd h
begins r (Parts most every part) p (x ∷ []) ts t rest e h = begins r part p.0 x ts t rest e h.0
begins r (Parts most every part) p (x ∷ (y ∷ ys)) ts t rest e h =
    front_begins part t rest h.0 (h.1 ∷ h.2) (sym e ∙ h.3) p.1 (λ n. none_needed r part p.0 x h.0 n h.4) (λ u more n. begins r part p.0 x h.0 u more n h.4)

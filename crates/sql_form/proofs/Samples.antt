-- Something is of each form where no rules hold but that on texts, and what keeps all rules is of the form without them.
use Rattle.std.specs.Prelude.{Option, Some, None, is_some, pos, codes}
use Rattle.std.proofs.Common.{◌≡◌, ℕ, Bool, true, false, ◌||◌, List, [], ◌∷◌, ◌++◌, sym, refl, append_assoc, append-nil}
use Rattle.sql_lex.specs.declared.token.Token.{Token}
use Rattle.sql_lex.specs.declared.token.TokenKind.{TokenKind}
use Rattle.sql_lex.specs.declared.token.TokenKind.TheVariants as kind
use Rattle.sql_lex.specs.Ahead.{first_of}
use Rattle.sql_lex.specs.Words.{text_of, letters_of, sign_of}
use Rattle.std.specs.Str.{bytes_eq}
use Rattle.std.proofs.lemmas.Slice.Eq.{bytes_eq-Decides}
use Rattle.sql_expr.specs.Read.{no_part, whole}
use Rattle.sql_expr.specs.Rules as expr
use Rattle.sql_expr.specs.Laws as expr_laws
use Rattle.sql_expr.proofs.LawLemmas.{front_begins}
use Rattle.sql_expr.proofs.Viable.{mark_token}
use Rattle.sql_form.specs.Rules.{Rules, strict, loose}
use Rattle.sql_form.specs.Form.{Leaf, Key, Word, Sign, Nought, AnyName, AnyNumber, FileText, NameText, LeafValue, said, name_of, Form, One, Table, Expr, Then, Or, May, Many, Parts, Left, Right, Value}
use Rattle.sql_form.specs.Grammar.{counts, is_solid, first, or_if, alone, AreMany, AreParts, spared, IsForm}
use Rattle.sql_form.proofs.Expressions.{start_begins, loose_whole}
use Rattle.sql_form.proofs.Beginning.{looser_said}

-- no rules hold, but that texts are names where they must, or not even that one
abbrev pub free : Bool → Rules
free texts = record { exprs = expr.loose; parts = false; texts = texts }

abbrev pub FreeForm : (f : Form) → Bool → Value f → List Token → Type 0
FreeForm f texts x ts = IsForm (free texts) f x ts

-- some such thing begins with these tokens
pub record Begun (A : Type 0) (is : A → List Token → Type 0) (front : List Token) : Type 0 where
  pub more : List Token
  pub value : A
  pub is_so : is value (front ++ more)

same_bytes : (a : List ℕ) → bytes_eq a a ≡ true
same_bytes a = (bytes_eq-Decides a a).1 refl

one_sample : (b : Bool) (l : Leaf) (k : TokenKind) (x : LeafValue l) → said (free b) l k ≡ Some x → Begun (LeafValue l) (FreeForm (One l) b) []
one_sample b l k x h = record { more = mark_token k ∷ []; value = x; is_so = (mark_token k, refl, h) }

sample_leaf : (b : Bool) (l : Leaf) → Begun (LeafValue l) (FreeForm (One l) b) []
sample_leaf b (Key wanted) = one_sample b (Key wanted) (kind.Key wanted) tt (rw (same_bytes (text_of wanted)) refl)
sample_leaf b (Word wanted) = one_sample b (Word wanted) (kind.Named (letters_of wanted)) tt (rw (same_bytes (letters_of wanted)) refl)
sample_leaf b (Sign wanted) = one_sample b (Sign wanted) (kind.Mark wanted) tt (rw (same_bytes (sign_of wanted)) refl)
sample_leaf b Nought = one_sample b Nought (kind.Number (pos 0)) tt refl
sample_leaf b AnyName = one_sample b AnyName (kind.Named (codes "a")) (codes "a") refl
sample_leaf b AnyNumber = one_sample b AnyNumber (kind.Number (pos 0)) (pos 0) refl
sample_leaf true FileText = one_sample true FileText (kind.Text (codes "a")) (codes "a") refl
sample_leaf false FileText = one_sample false FileText (kind.Text (codes "a")) (codes "a") refl
sample_leaf true NameText = one_sample true NameText (kind.Text (codes "a")) (codes "a") refl
sample_leaf false NameText = one_sample false NameText (kind.Text (codes "a")) (codes "a") refl

expr_begun : (texts names truth : Bool) (front : List Token) → expr_laws.Begins names expr.loose truth front → Begun (Value (Expr names truth)) (FreeForm (Expr names truth) texts) front
expr_begun texts names truth front b = record { more = b.more; value = b.tree; is_so = b.whole }

abbrev pub then_begun : (texts : Bool) (f g : Form) (front : List Token) → Begun (Value f) (FreeForm f texts) front → Begun (Value g) (FreeForm g texts) [] → Begun (Value (Then f g)) (FreeForm (Then f g) texts) front
then_begun texts f g front b c = record {
  more = b.more ++ c.more;
  value = (b.value, c.value);
  is_so = (front ++ b.more, c.more, sym (append_assoc front b.more c.more), b.is_so, c.is_so);
}

-- something is of the form
pub sample : (texts : Bool) (f : Form) → Begun (Value f) (FreeForm f texts) []
sample texts (One leaf) = sample_leaf texts leaf
sample texts Table = record { more = mark_token (kind.Named (codes "a")) ∷ []; value = codes "a"; is_so = alone (mark_token (kind.Named (codes "a"))) refl }
sample texts (Expr names truth) = expr_begun texts names truth [] (front_begins names expr.loose truth [] (whole truth) no_part 1000 refl)
sample texts (Then f g) = then_begun texts f g [] (sample texts f) (sample texts g)
sample texts (Or f g) = let b = sample texts f in record { more = b.more; value = Left b.value; is_so = b.is_so }
sample texts (May f) = record { more = []; value = None; is_so = refl }
sample texts (Many f) = record { more = []; value = []; is_so = refl }
sample texts (Parts most every part) = let b = sample texts part in record { more = b.more; value = b.value ∷ []; is_so = (b.is_so, refl) }

-- a form that needs no token is of none
pub record Empty (f : Form) : Type 0 where
  pub value : Value f
  pub is : IsForm loose f value []

either_no : (a b : Bool) → (a || b) ≡ false → (a ≡ false) × (b ≡ false)
either_no true b h = cc
either_no false true h = cc
either_no false false h = (refl, refl)

empty : (f : Form) → is_solid f ≡ false → Empty f
empty (One leaf) h = cc
empty Table h = cc
empty (Expr names truth) h = cc
empty (Then f g) h =
    let both = either_no (is_solid f) (is_solid g) h in
    let a = empty f both.0 in
    let b = empty g both.1 in
    record { value = (a.value, b.value); is = ([], [], refl, a.is, b.is) }
empty (Or f g) h = cc
empty (May f) h = record { value = None; is = refl }
empty (Many f) h = record { value = []; is = refl }
empty (Parts most every part) h = cc

leaf_begun : (l : Leaf) (t : Token) (o : Option (LeafValue l)) → said loose l t.kind ≡ o → is_some o ≡ true → Begun (LeafValue l) (IsForm loose (One l)) (t ∷ [])
leaf_begun l t (Some x) is h = record { more = []; value = x; is_so = (t, refl, is) }
leaf_begun l t None is h = cc

table_begun : (t : Token) (o : Option (List ℕ)) → name_of t.kind ≡ o → is_some o ≡ true → Begun (List ℕ) (IsForm loose Table) (t ∷ [])
table_begun t (Some x) is h = record { more = []; value = x; is_so = alone t is }
table_begun t None is h = cc

then_first : (f g : Form) (t : Token) (s b : Bool) → is_solid f ≡ s → first f t.kind ≡ b → or_if s b (first g t.kind) ≡ true
    → (first f t.kind ≡ true → Begun (Value f) (IsForm loose f) (t ∷ [])) → (first g t.kind ≡ true → Begun (Value g) (IsForm loose g) (t ∷ [])) → Begun (Value (Then f g)) (IsForm loose (Then f g)) (t ∷ [])
then_first f g t s true solid is h kf kg = then_begun false f g (t ∷ []) (kf is) (sample false g)
then_first f g t true false solid is h kf kg = cc
then_first f g t false false solid is h kf kg =
    let a = empty f solid in
    let b = kg h in
    record { more = b.more; value = (a.value, b.value); is_so = ([], (t ∷ []) ++ b.more, refl, a.is, b.is_so) }

or_first : (f g : Form) (t : Token) (b : Bool) → first f t.kind ≡ b → (b || first g t.kind) ≡ true
    → (first f t.kind ≡ true → Begun (Value f) (IsForm loose f) (t ∷ [])) → (first g t.kind ≡ true → Begun (Value g) (IsForm loose g) (t ∷ [])) → Begun (Value (Or f g)) (IsForm loose (Or f g)) (t ∷ [])
or_first f g t true is h kf kg = let b = kf is in record { more = b.more; value = Left b.value; is_so = b.is_so }
or_first f g t false is h kf kg = let b = kg h in record { more = b.more; value = Right b.value; is_so = b.is_so }

-- something of the form begins with a token with which it may
pub begun : (f : Form) (t : Token) → first f t.kind ≡ true → Begun (Value f) (IsForm loose f) (t ∷ [])
begun (One leaf) t h = leaf_begun leaf t (said loose leaf t.kind) refl h
begun Table t h = table_begun t (name_of t.kind) refl h
begun (Expr names truth) t h = expr_begun false names truth (t ∷ []) (start_begins names truth t h)
begun (Then f g) t h = then_first f g t (is_solid f) (first f t.kind) refl refl h (begun f t) (begun g t)
begun (Or f g) t h = or_first f g t (first f t.kind) refl h (begun f t) (begun g t)
begun (May f) t h = let b = begun f t h in record { more = b.more; value = Some b.value; is_so = b.is_so }
begun (Many f) t h = let b = begun f t h in record { more = b.more; value = b.value ∷ []; is_so = ((t ∷ []) ++ b.more, [], sym (append-nil ((t ∷ []) ++ b.more)), b.is_so, refl) }
begun (Parts most every part) t h = let b = begun part t h in record { more = b.more; value = b.value ∷ []; is_so = (b.is_so, refl) }

loose_many : {A : Type 0} (is isl : A → List Token → Type 0) → ((x : A) (ts : List Token) → is x ts → isl x ts) → (xs : List A) (ts : List Token) → AreMany is xs ts → AreMany isl xs ts
loose_many is isl k [] ts h = h
loose_many is isl k (x ∷ xs) ts (us, vs, split, h, hs) = (us, vs, split, k x us h, loose_many is isl k xs vs hs)

loose_parts : {A : Type 0} (is isl : A → List Token → Type 0) → ((x : A) (ts : List Token) → is x ts → isl x ts) → (must : Bool) (counts : TokenKind → Bool) (xs : List A) (n : ℕ) (x : A) (ts : List Token) → AreParts is must counts n x xs ts → AreParts isl false counts n x xs ts
loose_parts is isl k must counts [] n x ts h = (k x ts h.0, refl)
loose_parts is isl k must counts (y ∷ ys) n x ts (us, comma, vs, split, h, room, c, hs) = (us, comma, vs, split, k x us h, refl, c, loose_parts is isl k must counts ys (spared (counts (first_of us).kind) n) y vs hs)

-- what keeps all rules is of the form where none hold, or none but that on texts
pub relaxed : (b : Bool) (f : Form) (x : Value f) (ts : List Token) → IsForm strict f x ts → FreeForm f b x ts
relaxed b (One leaf) x ts (t, split, h) = (t, split, looser_said strict (free b) leaf t.kind x (λ e. refl) h)
relaxed b Table x ts h = h
relaxed b (Expr names truth) x ts h = loose_whole names expr.strict truth x ts h
relaxed b (Then f g) x ts (us, vs, split, hf, hg) = (us, vs, split, relaxed b f x.0 us hf, relaxed b g x.1 vs hg)
relaxed b (Or f g) (Left x) ts h = relaxed b f x ts h
relaxed b (Or f g) (Right x) ts h = relaxed b g x ts h
relaxed b (May f) None ts h = h
relaxed b (May f) (Some x) ts h = relaxed b f x ts h
relaxed b (Many f) xs ts h = loose_many (IsForm strict f) (FreeForm f b) (relaxed b f) xs ts h
relaxed b (Parts most every part) [] ts h = absurd h
relaxed b (Parts most every part) (x ∷ xs) ts h = loose_parts (IsForm strict part) (FreeForm part b) (relaxed b part) true (counts every part) xs most x ts h

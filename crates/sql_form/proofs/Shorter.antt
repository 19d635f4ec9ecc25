-- Reading leaves no more tokens than there were, and so what is read as often as it stands there is read to its end.
use Rattle.std.specs.Prelude.{Option, Some, None, is_some}
use Rattle.std.proofs.Common.{◌≡◌, ℕ, suc, zero, ◌-◌, ◌≤◌, ◌<◌, Bool, true, false, ◌||◌, List, [], ◌∷◌, length, ap, ◌∙◌, refl, arith}
use Rattle.plain_model.specs.Tree.{Tree}
use Rattle.sql_lex.specs.declared.token.Mark.TheVariants as mark
use Rattle.sql_lex.specs.declared.token.Token.{Token}
use Rattle.sql_lex.specs.declared.token.TokenKind.{TokenKind}
use Rattle.sql_lex.specs.declared.token.TokenKind.TheVariants.{End}
use Rattle.sql_lex.specs.Ahead.{first_of, behind_first}
use Rattle.sql_expr.specs.Got.{Got, Done, Refused, and_then}
use Rattle.sql_expr.specs.Read.{reading, got}
use Rattle.sql_form.specs.Rules.{Rules, loose}
use Rattle.sql_form.specs.Form.{Leaf, Key, Word, Sign, Nought, AnyName, AnyNumber, FileText, NameText, LeafValue, said, is_sign, name_of, Form, One, Table, Expr, Then, Or, May, Many, Parts, Left, Right, Value}
use Rattle.sql_form.specs.Grammar.{counts, is_solid, first, continues, IsPlain, is_full, spared}
use Rattle.sql_form.specs.Read.{taken, chosen, made, joined, named, tabled, many, limited, followed, listed, read}
use Rattle.sql_form.proofs.BoolLemmas.{or_if_no}
use Rattle.sql_form.proofs.Expressions.{expr_shorter}

-- what is left is no more than there was, and less where a token must be taken
abbrev pub Within : (A : Type 0) → Bool → List Token → Got A → Type 0
Within A solid ts (Done x rest) = (length rest ≤ length ts) × (solid ≡ true → length rest < length ts)
Within A solid ts (Refused at) = Unit {0}

pub said_end : (r : Rules) (l : Leaf) → said r l End ≡ None
said_end r (Key key) = refl
said_end r (Word wanted) = refl
said_end r (Sign mark) = refl
said_end r Nought = refl
said_end r AnyName = refl
said_end r AnyNumber = refl
said_end r FileText = refl
said_end r NameText = refl

within_taken : {A : Type 0} (o : Option A) (solid : Bool) (t : Token) (ts : List Token) → Within A solid (t ∷ ts) (taken o (t ∷ ts))
within_taken None solid t ts = tt
within_taken (Some x) solid t ts = (omega arith, λ k. omega arith)

within_none : {A : Type 0} (o : Option A) (solid : Bool) → o ≡ None → Within A solid [] (taken o [])
within_none o solid h = rw h tt

within_named : (ts : List Token) (solid : Bool) → Within (List ℕ) solid ts (named ts)
within_named [] solid = tt
within_named (t ∷ ts) solid = within_taken (name_of t.kind) solid t ts

within_chosen : {A : Type 0} (b solid : Bool) (ts : List Token) (g h : Got A) → Within A solid ts g → Within A solid ts h → Within A solid ts (chosen b g h)
within_chosen true solid ts g h x y = x
within_chosen false solid ts g h x y = y

within_made : {A B : Type 0} (make : A → B) (solid : Bool) (ts : List Token) (g : Got A) → Within A solid ts g → Within B solid ts (made make g)
within_made make solid ts (Done x rest) h = h
within_made make solid ts (Refused at) h = tt

within_less : {A : Type 0} (solid : Bool) (ts us : List Token) (g : Got A) → length us ≤ length ts → (solid ≡ true → length us < length ts) → Within A false us g → Within A solid ts g
within_less solid ts us (Done x rest) le lt h = (omega (arith, h.0), λ k. omega (arith, h.0, lt k))
within_less solid ts us (Refused at) le lt h = tt

within_both : {A C : Type 0} (make : A → C) (s s2 : Bool) (ts us : List Token) (g : Got A) → length us ≤ length ts → (s ≡ true → length us < length ts) → Within A s2 us g → Within C (s || s2) ts (made make g)
within_both make true s2 ts us (Done y vs) le lt h = (omega (arith, h.0), λ k. omega (arith, h.0, lt refl))
within_both make false s2 ts us (Done y vs) le lt h = (omega (arith, h.0), λ k. omega (arith, h.1 k))
within_both make s s2 ts us (Refused at) le lt h = tt

within_joined : {A B C : Type 0} (make : A → B → C) (s s2 : Bool) (ts : List Token) (g : Got A) (more : List Token → Got B) → Within A s ts g → ((us : List Token) → Within B s2 us (more us)) → Within C (s || s2) ts (joined make g more)
within_joined make s s2 ts (Done x us) more h k = within_both (make x) s s2 ts us (more us) h.0 h.1 (k us)
within_joined make s s2 ts (Refused at) more h k = tt

within_weak : {A : Type 0} (s : Bool) (ts : List Token) (g : Got A) → Within A s ts g → Within A false ts g
within_weak s ts (Done x rest) h = (h.0, λ k. cc)
within_weak s ts (Refused at) h = tt

within_many : {A : Type 0} (test : TokenKind → Bool) (step : List Token → Got A) → ((ts : List Token) → Within A true ts (step ts)) → (n : ℕ) (ts : List Token) → Within (List A) false ts (many test step n ts)
within_many test step w zero ts = (omega arith, λ k. cc)
within_many test step w (suc n) ts =
    within_chosen (test (first_of ts).kind) false ts (joined (λ x xs. x ∷ xs) (step ts) (many test step n)) (Done [] ts)
    (within_weak true ts (joined (λ x xs. x ∷ xs) (step ts) (many test step n)) (within_joined (λ x xs. x ∷ xs) true false ts (step ts) (many test step n) (w ts) (within_many test step w n))) (omega arith, λ k. cc)

pub behind_less : (ts : List Token) → length (behind_first ts) ≤ length ts
behind_less [] = omega arith
behind_less (t ∷ ts) = omega arith

within_followed : {A : Type 0} (x : A) (more : List Token → Got (List A)) (us : List Token) → ((vs : List Token) → Within (List A) false vs (more vs)) → Within (List A) false us (followed x more us)
within_followed x more us w =
    within_chosen (is_sign mark.Comma (first_of us).kind) false us (made (λ xs. x ∷ xs) (more (behind_first us))) (Done (x ∷ []) us)
    (within_made (λ xs. x ∷ xs) false us (more (behind_first us)) (within_less false us (behind_first us) (more (behind_first us)) (behind_less us) (λ k. cc) (w (behind_first us)))) (omega arith, λ k. cc)

within_limited : {A : Type 0} (b solid : Bool) (at : ℕ) (ts : List Token) (g : Got A) → Within A solid ts g → Within A solid ts (limited b at g)
within_limited true solid at ts g h = tt
within_limited false solid at ts g h = h

within_listed_then : {A B : Type 0} (ts : List Token) (g : Got A) (more : A → List Token → Got B) → Within A true ts g → ((x : A) (us : List Token) → Within B false us (more x us)) → Within B true ts (and_then g more)
within_listed_then ts (Done x us) more h k = within_less true ts us (more x us) h.0 h.1 (k x us)
within_listed_then ts (Refused at) more h k = tt

within_listed : {A : Type 0} (must : Bool) (counts : TokenKind → Bool) (step : List Token → Got A) → ((ts : List Token) → Within A true ts (step ts)) → (often n : ℕ) (ts : List Token) → Within (List A) true ts (listed must counts step often n ts)
within_listed must counts step w zero n ts = tt
within_listed must counts step w (suc often) n ts =
    let more = listed must counts step often (spared (counts (first_of ts).kind) n) in
    within_limited (is_full must (counts (first_of ts).kind) n) true (first_of ts).at ts (and_then (step ts) (λ x us. followed x more us))
    (within_listed_then ts (step ts) (λ x us. followed x more us) (w ts)
    (λ x us. within_followed x more us (λ vs. within_weak true vs (more vs) (within_listed must counts step w often (spared (counts (first_of ts).kind) n) vs))))

within_expr : (names : Bool) (r : Rules) (truth : Bool) (ts : List Token) (g : Got Tree) → got (reading names r.exprs truth ts) ≡ g → Within Tree true ts g
within_expr names r truth ts (Done e rest) h = let s = expr_shorter names r.exprs truth ts (reading names r.exprs truth ts) e rest refl h in (omega (arith, s), λ k. s)
within_expr names r truth ts (Refused at) h = tt

within_tabled : (name : List ℕ) (ts : List Token) → Within (List ℕ) false ts (tabled name ts)
within_tabled name ts = within_chosen _ false ts (named (behind_first ts)) (Done name ts) (within_less false ts (behind_first ts) (named (behind_first ts)) (behind_less ts) (λ k. cc) (within_named (behind_first ts) false)) (omega arith, λ k. cc)

pub is_left : {A : Type 0} (solid : Bool) (ts : List Token) (g : Got A) → (solid ≡ true) → Within A solid ts g → Within A true ts g
is_left solid ts (Done x rest) s h = (h.0, λ k. h.1 s)
is_left solid ts (Refused at) s h = tt

-- reading leaves no more tokens than there were
pub within : (r : Rules) (f : Form) → IsPlain f → (ts : List Token) → Within (Value f) (is_solid f) ts (read r f ts)
within r (One leaf) p [] = within_none (said r leaf End) true (said_end r leaf)
within r (One leaf) p (t ∷ ts) = within_taken (said r leaf t.kind) true t ts
within r Table p ts = within_listed_then ts (named ts) tabled (within_named ts true) within_tabled
within r (Expr names truth) p ts = within_expr names r truth ts (got (reading names r.exprs truth ts)) refl
within r (Then f g) p ts = within_joined (λ x y. (x, y)) (is_solid f) (is_solid g) ts (read r f ts) (read r g) (within r f p.0 ts) (within r g p.1)
within r (Or f g) p ts =
    within_chosen (first f (first_of ts).kind) true ts (made Left (read r f ts)) (made Right (read r g ts))
    (within_made Left true ts (read r f ts) (is_left (is_solid f) ts (read r f ts) p.2 (within r f p.0 ts))) (within_made Right true ts (read r g ts) (is_left (is_solid g) ts (read r g ts) p.3 (within r g p.1 ts)))
within r (May f) p ts = within_chosen (first f (first_of ts).kind) false ts (made Some (read r f ts)) (Done None ts) (within_made Some false ts (read r f ts) (within_weak (is_solid f) ts (read r f ts) (within r f p.0 ts))) (omega arith, λ k. cc)
within r (Many f) p ts = within_many (first f) (read r f) (λ us. is_left (is_solid f) us (read r f us) p.1 (within r f p.0 us)) (length ts) ts
within r (Parts most every part) p ts = within_listed r.parts (counts every part) (read r part) (λ us. is_left (is_solid part) us (read r part us) p.1 (within r part p.0 us)) (suc (length ts)) most ts

-- the end begins nothing, and nothing goes on with it
pub first_end : (f : Form) → first f End ≡ false
first_end (One leaf) = ap (λ (o : Option (LeafValue leaf)). is_some o) (said_end loose leaf)
first_end Table = refl
first_end (Expr names truth) = refl
first_end (Then f g) = rw (first_end f, first_end g) (or_if_no (is_solid f))
first_end (Or f g) = rw (first_end f, first_end g) refl
first_end (May f) = first_end f
first_end (Many f) = first_end f
first_end (Parts most every part) = first_end part

pub continues_end : (f : Form) → continues f End ≡ false
continues_end (One leaf) = refl
continues_end Table = refl
continues_end (Expr names truth) = refl
continues_end (Then f g) = rw (continues_end f, continues_end g) (or_if_no (is_solid g))
continues_end (Or f g) = rw (continues_end f, continues_end g) refl
continues_end (May f) = rw (first_end f, continues_end f) refl
continues_end (Many f) = rw (first_end f, continues_end f) refl
continues_end (Parts most every part) = continues_end part

-- a list of things that each take a token is the same read, however often more may come than tokens are left
joined_same : {A B C : Type 0} (make : A → B → C) (ts : List Token) (g : Got A) (more others : List Token → Got B) → Within A true ts g → ((us : List Token) → length us < length ts → more us ≡ others us) → joined make g more ≡ joined make g others
joined_same make ts (Done x us) more others h same = ap (made (make x)) (same us (h.1 refl))
joined_same make ts (Refused at) more others h same = refl

pub many_same : {A : Type 0} (test : TokenKind → Bool) (step : List Token → Got A) → test End ≡ false → ((ts : List Token) → Within A true ts (step ts)) → (n m : ℕ) (ts : List Token) → length ts ≤ n → length ts ≤ m → many test step n ts ≡ many test step m ts
many_same test step e w zero zero ts le ge = refl
many_same test step e w zero (suc m) [] le ge = rw e refl
many_same test step e w zero (suc m) (t ∷ ts) le ge = absurd (omega arith)
many_same test step e w (suc n) zero [] le ge = rw e refl
many_same test step e w (suc n) zero (t ∷ ts) le ge = absurd (omega arith)
many_same test step e w (suc n) (suc m) ts le ge =
    ap (λ g. chosen (test (first_of ts).kind) g (Done [] ts))
    (joined_same (λ x xs. x ∷ xs) ts (step ts) (many test step n) (many test step m) (w ts) (λ us less. many_same test step e w n m us (omega arith) (omega arith)))

-- so often as it stands there: once and again, or no more
pub many_on : (r : Rules) (f : Form) → IsPlain (Many f) → (ts : List Token) → read r (Many f) ts ≡ chosen (first f (first_of ts).kind) (joined (λ x xs. x ∷ xs) (read r f ts) (read r (Many f))) (Done [] ts)
many_on r f p ts =
    let w = λ (us : List Token). is_left (is_solid f) us (read r f us) p.1 (within r f p.0 us) in
    many_same (first f) (read r f) (first_end f) w (length ts) (suc (length ts)) ts (omega arith) (omega arith)
    ∙ ap (λ g. chosen (first f (first_of ts).kind) g (Done [] ts))
    (joined_same (λ x xs. x ∷ xs) ts (read r f ts) (many (first f) (read r f) (length ts)) (read r (Many f)) (w ts)
    (λ us less. many_same (first f) (read r f) (first_end f) w (length ts) (length us) us (omega arith) (omega arith)))

then_same : {A B : Type 0} (ts : List Token) (g : Got A) (more others : A → List Token → Got B) → Within A true ts g → ((x : A) (us : List Token) → length us < length ts → more x us ≡ others x us) → and_then g more ≡ and_then g others
then_same ts (Done x us) more others h same = same x us (h.1 refl)
then_same ts (Refused at) more others h same = refl

behind_comma : (us : List Token) (n : ℕ) → is_sign mark.Comma (first_of us).kind ≡ true → length us ≤ suc n → length (behind_first us) ≤ n
behind_comma [] n h le = cc
behind_comma (t ∷ us) n h le = omega arith

followed_case : {A : Type 0} (b : Bool) (x : A) (us : List Token) (more others : List Token → Got (List A)) → (b ≡ true → more (behind_first us) ≡ others (behind_first us))
    → chosen b (made (λ xs. x ∷ xs) (more (behind_first us))) (Done (x ∷ []) us) ≡ chosen b (made (λ xs. x ∷ xs) (others (behind_first us))) (Done (x ∷ []) us)
followed_case true x us more others h = ap (made (λ xs. x ∷ xs)) (h refl)
followed_case false x us more others h = refl

followed_same : {A : Type 0} (n : ℕ) (x : A) (us : List Token) (more others : List Token → Got (List A)) → length us ≤ suc n → ((vs : List Token) → length vs ≤ n → more vs ≡ others vs) → followed x more us ≡ followed x others us
followed_same n x us more others le same = followed_case (is_sign mark.Comma (first_of us).kind) x us more others (λ c. same (behind_first us) (behind_comma us n c le))

pub listed_same : {A : Type 0} (must : Bool) (counts : TokenKind → Bool) (step : List Token → Got A) → ((ts : List Token) → Within A true ts (step ts)) → (often again n : ℕ) (ts : List Token) → length ts < often → length ts < again
    → listed must counts step often n ts ≡ listed must counts step again n ts
listed_same must counts step w zero again n ts lt gt = absurd (omega arith)
listed_same must counts step w (suc often) zero n ts lt gt = absurd (omega arith)
listed_same must counts step w (suc often) (suc again) n ts lt gt =
    let left = spared (counts (first_of ts).kind) n in
    ap (λ g. limited (is_full must (counts (first_of ts).kind) n) (first_of ts).at g)
    (then_same ts (step ts) (λ x us. followed x (listed must counts step often left) us) (λ x us. followed x (listed must counts step again left) us) (w ts)
    (λ x us less. followed_same (length us - 1) x us (listed must counts step often left) (listed must counts step again left) (omega arith) (λ vs le. listed_same must counts step w often again left vs (omega arith) (omega arith))))

-- the parts of a list, of which so many may be counted
abbrev pub parts_from : (r : Rules) (every : Bool) (part : Form) → ℕ → List Token → Got (List (Value part))
parts_from r every part n ts = listed r.parts (counts every part) (read r part) (suc (length ts)) n ts

-- a part, and further ones behind a comma
pub parts_on : (r : Rules) (every : Bool) (part : Form) → IsPlain part → is_solid part ≡ true → (n : ℕ) (ts : List Token)
    → parts_from r every part n ts ≡ limited (is_full r.parts (counts every part (first_of ts).kind) n) (first_of ts).at (and_then (read r part ts) (λ x us. followed x (parts_from r every part (spared (counts every part (first_of ts).kind) n)) us))
parts_on r every part p solid n ts =
    let w = λ (us : List Token). is_left (is_solid part) us (read r part us) solid (within r part p us) in
    let left = spared (counts every part (first_of ts).kind) n in
    ap (λ g. limited (is_full r.parts (counts every part (first_of ts).kind) n) (first_of ts).at g)
    (then_same ts (read r part ts) (λ x us. followed x (listed r.parts (counts every part) (read r part) (length ts) left) us) (λ x us. followed x (parts_from r every part left) us) (w ts)
    (λ x us less. followed_same (length us - 1) x us (listed r.parts (counts every part) (read r part) (length ts) left) (parts_from r every part left) (omega arith)
    (λ vs le. listed_same r.parts (counts every part) (read r part) w (length ts) (suc (length vs)) left vs (omega arith) (omega arith))))

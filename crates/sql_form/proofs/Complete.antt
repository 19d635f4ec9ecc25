-- What is of a form is read, whatever stands behind it that doesn't go on with it.
use Rattle.std.specs.Prelude.{Some, None, ◌&&◌}
use Rattle.std.proofs.Common.{◌≡◌, ℕ, Bool, true, false, ◌||◌, List, [], ◌∷◌, ◌++◌, ap, ◌∙◌, refl, append_assoc}
use Rattle.sql_lex.specs.declared.token.Mark.TheVariants as mark
use Rattle.sql_lex.specs.declared.token.Token.{Token}
use Rattle.sql_lex.specs.declared.token.TokenKind.{TokenKind}
use Rattle.sql_expr.specs.Got.{Got, Done, and_then}
use Rattle.sql_expr.specs.Read.{got}
use Rattle.sql_expr.proofs.LawLemmas.{completely}
use Rattle.sql_form.specs.Rules.{Rules}
use Rattle.sql_form.specs.Form.{is_sign, Form, One, Table, Expr, Then, Or, May, Many, Parts, Left, Right, Value}
use Rattle.sql_form.specs.Grammar.{counts, is_solid, first, continues, IsPlain, alone, within, AreMany, AreParts, is_full, spared, IsForm}
use Rattle.sql_form.specs.Read.{chosen, made, joined, limited, followed, read}
use Rattle.sql_form.proofs.BoolLemmas.{or_if_not, or_if_other, either_left, either_right, not_true, true_not}
use Rattle.sql_form.proofs.Beginning.{none_needed, begins}
use Rattle.sql_form.proofs.Shorter.{many_on, parts_from, parts_on}

and_no : (a b : Bool) → b ≡ false → (a && b) ≡ false
and_no true b h = h
and_no false b h = refl

pub joined_done : {A B C : Type 0} (make : A → B → C) (g : Got A) (more : List Token → Got B) (x : A) (us : List Token) (y : B) (vs : List Token) → g ≡ Done x us → more us ≡ Done y vs → joined make g more ≡ Done (make x y) vs
joined_done make g more x us y vs h k = rw (h, k) refl

pub chosen_left : {A : Type 0} (b : Bool) (g h out : Got A) → b ≡ true → g ≡ out → chosen b g h ≡ out
chosen_left b g h out e k = rw e k

pub chosen_right : {A : Type 0} (b : Bool) (g h out : Got A) → b ≡ false → h ≡ out → chosen b g h ≡ out
chosen_right b g h out e k = rw e k

pub made_done : {A B : Type 0} (make : A → B) (g : Got A) (x : A) (us : List Token) → g ≡ Done x us → made make g ≡ Done (make x) us
made_done make g x us h = rw h refl

pub part_on : {A B : Type 0} (b : Bool) (at : ℕ) (g : Got A) (more : A → List Token → Got B) (x : A) (us : List Token) (out : Got B) → b ≡ false → g ≡ Done x us → more x us ≡ out → limited b at (and_then g more) ≡ out
part_on b at g more x us out h k m = rw (h, k) m

-- whatever stands behind what was read, if its first token doesn't go on with it
behind : {A : Type 0} (f : Form) (step : List Token → Got A) (x : A) (us vs : List Token) (r : Token) (rest : List Token) → ((s : Token) (ss : List Token) → continues f s.kind ≡ false → step (us ++ s ∷ ss) ≡ Done x (s ∷ ss))
    → (vs ≡ [] → continues f r.kind ≡ false) → ((v : Token) (more : List Token) → vs ≡ v ∷ more → continues f v.kind ≡ false) → step (us ++ (vs ++ r ∷ rest)) ≡ Done x (vs ++ r ∷ rest)
behind f step x us [] r rest c none some = c r rest (none refl)
behind f step x us (v ∷ vs) r rest c none some = c v (vs ++ r ∷ rest) (some v vs refl)

apart : (r : Rules) (f g : Form) → IsPlain g → ((k : TokenKind) → continues f k ≡ true → first g k ≡ true → ⊥) → (y : Value g) (vs : List Token) → IsForm r g y vs → (v : Token) (more : List Token) → vs ≡ v ∷ more → continues f v.kind ≡ false
apart r f g p clash y vs h v more e = not_true (continues f v.kind) (λ c. clash v.kind c (begins r g p y vs v more e h))

first_many : (r : Rules) (f : Form) → IsPlain (Many f) → (xs : List (Value f)) (vs : List Token) → AreMany (IsForm r f) xs vs → (v : Token) (more : List Token) → vs ≡ v ∷ more → continues f v.kind ≡ false
first_many r f p xs vs h v more e = not_true (continues f v.kind) (λ c. p.2 v.kind c (begins r (Many f) p xs vs v more e h))

-- reading takes what is of the form
abbrev Completes : (A : Type 0) → (A → List Token → Type 0) → (List Token → Got A) → (TokenKind → Bool) → Type 0
Completes A is step goes = (x : A) (us : List Token) → is x us → (v : Token) (rest : List Token) → goes v.kind ≡ false → step (us ++ v ∷ rest) ≡ Done x (v ∷ rest)

many_complete : (r : Rules) (f : Form) → IsPlain (Many f) → Completes (Value f) (IsForm r f) (read r f) (continues f) → Completes (List (Value f)) (AreMany (IsForm r f)) (read r (Many f)) (λ k. first f k || continues f k)
many_complete r f p c [] us h v rest k =
    ap (λ (zs : List Token). read r (Many f) (zs ++ v ∷ rest)) h ∙ many_on r f p (v ∷ rest) ∙ chosen_right (first f v.kind) (joined (λ x xs. x ∷ xs) (read r f (v ∷ rest)) (read r (Many f))) (Done [] (v ∷ rest)) (Done [] (v ∷ rest)) (either_left (first f v.kind) (continues f v.kind) k) refl
many_complete r f p c (x ∷ xs) us ([], bs, split, h, hs) v rest k = absurd (true_not (is_solid f) p.1 (none_needed r f p.0 x [] refl h))
many_complete r f p c (x ∷ xs) us (a ∷ qs, bs, split, h, hs) v rest k =
    ap (read r (Many f)) (ap (λ (zs : List Token). zs ++ v ∷ rest) split ∙ append_assoc (a ∷ qs) bs (v ∷ rest))
    ∙ many_on r f p ((a ∷ qs) ++ (bs ++ v ∷ rest))
    ∙ chosen_left (first f a.kind) (joined (λ y ys. y ∷ ys) (read r f ((a ∷ qs) ++ (bs ++ v ∷ rest))) (read r (Many f))) (Done [] ((a ∷ qs) ++ (bs ++ v ∷ rest))) (Done (x ∷ xs) (v ∷ rest)) (begins r f p.0 x (a ∷ qs) a qs refl h)
    (joined_done (λ y ys. y ∷ ys) (read r f ((a ∷ qs) ++ (bs ++ v ∷ rest))) (read r (Many f)) x (bs ++ v ∷ rest) xs (v ∷ rest)
    (behind f (read r f) x (a ∷ qs) bs v rest (c x (a ∷ qs) h) (λ e. either_right (first f v.kind) (continues f v.kind) k) (first_many r f p xs bs hs)) (many_complete r f p c xs bs hs v rest k))

comma_next : (r : Rules) (part : Form) → ((k : TokenKind) → continues part k ≡ true → is_sign mark.Comma k ≡ true → ⊥) → (t : Token) → is_sign mark.Comma t.kind ≡ true → continues part t.kind ≡ false
comma_next r part clash t h = not_true (continues part t.kind) (λ c. clash t.kind c h)

parts_complete : (r : Rules) (every : Bool) (part : Form) → IsPlain part → is_solid part ≡ true → ((k : TokenKind) → continues part k ≡ true → is_sign mark.Comma k ≡ true → ⊥) → Completes (Value part) (IsForm r part) (read r part) (continues part)
    → (xs : List (Value part)) (n : ℕ) (x : Value part) (us : List Token) → AreParts (IsForm r part) r.parts (counts every part) n x xs us → (v : Token) (rest : List Token) → (is_sign mark.Comma v.kind || continues part v.kind) ≡ false → parts_from r every part n (us ++ v ∷ rest) ≡ Done (x ∷ xs) (v ∷ rest)
parts_complete r every part p solid clash c [] n x [] h v rest k = absurd (true_not (is_solid part) solid (none_needed r part p x [] refl h.0))
parts_complete r every part p solid clash c [] n x (u ∷ us) h v rest k =
    parts_on r every part p solid n ((u ∷ us) ++ v ∷ rest)
    ∙ part_on (is_full r.parts (counts every part u.kind) n) u.at (read r part ((u ∷ us) ++ v ∷ rest)) (λ y ys. followed y (parts_from r every part (spared (counts every part u.kind) n)) ys) x (v ∷ rest) (Done (x ∷ []) (v ∷ rest)) h.1
    (c x (u ∷ us) h.0 v rest (either_right (is_sign mark.Comma v.kind) (continues part v.kind) k))
    (chosen_right (is_sign mark.Comma v.kind) (made (λ ys. x ∷ ys) (parts_from r every part (spared (counts every part u.kind) n) rest)) (Done (x ∷ []) (v ∷ rest)) (Done (x ∷ []) (v ∷ rest)) (either_left (is_sign mark.Comma v.kind) (continues part v.kind) k) refl)
parts_complete r every part p solid clash c (y ∷ ys) n x us ([], comma, bs, split, h, room, is, hs) v rest k = absurd (true_not (is_solid part) solid (none_needed r part p x [] refl h))
parts_complete r every part p solid clash c (y ∷ ys) n x us (a ∷ qs, comma, bs, split, h, room, is, hs) v rest k =
    ap (parts_from r every part n) (ap (λ (zs : List Token). zs ++ v ∷ rest) split ∙ append_assoc (a ∷ qs) (comma ∷ bs) (v ∷ rest))
    ∙ parts_on r every part p solid n ((a ∷ qs) ++ comma ∷ (bs ++ v ∷ rest))
    ∙ part_on (is_full r.parts (counts every part a.kind) n) a.at (read r part ((a ∷ qs) ++ comma ∷ (bs ++ v ∷ rest))) (λ z zs. followed z (parts_from r every part (spared (counts every part a.kind) n)) zs) x (comma ∷ (bs ++ v ∷ rest)) (Done (x ∷ (y ∷ ys)) (v ∷ rest)) room
    (c x (a ∷ qs) h comma (bs ++ v ∷ rest) (comma_next r part clash comma is))
    (chosen_left (is_sign mark.Comma comma.kind) (made (λ zs. x ∷ zs) (parts_from r every part (spared (counts every part a.kind) n) (bs ++ v ∷ rest))) (Done (x ∷ []) (comma ∷ (bs ++ v ∷ rest))) (Done (x ∷ (y ∷ ys)) (v ∷ rest)) is
    (made_done (λ zs. x ∷ zs) (parts_from r every part (spared (counts every part a.kind) n) (bs ++ v ∷ rest)) (y ∷ ys) (v ∷ rest) (parts_complete r every part p solid clash c ys (spared (counts every part a.kind) n) y bs hs v rest k)))

or_right : (f g : Form) → ((k : TokenKind) → first f k ≡ true → first g k ≡ true → ⊥) → (k : TokenKind) → first g k ≡ true → first f k ≡ false
or_right f g clash k h = not_true (first f k) (λ e. clash k e h)

pub complete : (r : Rules) (f : Form) → IsPlain f → (x : Value f) (us : List Token) → IsForm r f x us → (v : Token) (rest : List Token) → continues f v.kind ≡ false → read r f (us ++ v ∷ rest) ≡ Done x (v ∷ rest)
complete r (One leaf) p x us (t, split, h) v rest k = rw (split, h) refl
complete r Table p x _ (alone t h) v rest k = rw (h, and_no _ (is_sign mark.Dot v.kind) k) refl
complete r Table p x _ (within o d t h i m) v rest k = rw (h, i, m) refl
complete r (Expr names truth) p x us h v rest k = ap got (completely names r.exprs truth x us (v ∷ rest) h k)
complete r (Then f g) p x us (qs, bs, split, hf, hg) v rest k =
    ap (read r (Then f g)) (ap (λ (zs : List Token). zs ++ v ∷ rest) split ∙ append_assoc qs bs (v ∷ rest))
    ∙ joined_done (λ y z. (y, z)) (read r f (qs ++ (bs ++ v ∷ rest))) (read r g) x.0 (bs ++ v ∷ rest) x.1 (v ∷ rest)
    (behind f (read r f) x.0 qs bs v rest (complete r f p.0 x.0 qs hf) (λ e. or_if_other (is_solid g) (continues g v.kind) (continues f v.kind) k (none_needed r g p.1 x.1 bs e hg)) (apart r f g p.1 p.2 x.1 bs hg))
    (complete r g p.1 x.1 bs hg v rest (or_if_not (is_solid g) (continues g v.kind) (continues f v.kind) k))
complete r (Or f g) p (Left x) [] h v rest k = absurd (true_not (is_solid f) p.2 (none_needed r f p.0 x [] refl h))
complete r (Or f g) p (Left x) (u ∷ us) h v rest k =
    chosen_left (first f u.kind) (made Left (read r f ((u ∷ us) ++ v ∷ rest))) (made Right (read r g ((u ∷ us) ++ v ∷ rest))) (Done (Left x) (v ∷ rest)) (begins r f p.0 x (u ∷ us) u us refl h)
    (made_done Left (read r f ((u ∷ us) ++ v ∷ rest)) x (v ∷ rest) (complete r f p.0 x (u ∷ us) h v rest (either_left (continues f v.kind) (continues g v.kind) k)))
complete r (Or f g) p (Right x) [] h v rest k = absurd (true_not (is_solid g) p.3 (none_needed r g p.1 x [] refl h))
complete r (Or f g) p (Right x) (u ∷ us) h v rest k =
    chosen_right (first f u.kind) (made Left (read r f ((u ∷ us) ++ v ∷ rest))) (made Right (read r g ((u ∷ us) ++ v ∷ rest))) (Done (Right x) (v ∷ rest)) (or_right f g p.4 u.kind (begins r g p.1 x (u ∷ us) u us refl h))
    (made_done Right (read r g ((u ∷ us) ++ v ∷ rest)) x (v ∷ rest) (complete r g p.1 x (u ∷ us) h v rest (either_right (continues f v.kind) (continues g v.kind) k)))
complete r (May f) p None us h v rest k =
    ap (λ (zs : List Token). read r (May f) (zs ++ v ∷ rest)) h ∙ chosen_right (first f v.kind) (made Some (read r f (v ∷ rest))) (Done None (v ∷ rest)) (Done None (v ∷ rest)) (either_left (first f v.kind) (continues f v.kind) k) refl
complete r (May f) p (Some x) [] h v rest k = absurd (true_not (is_solid f) p.1 (none_needed r f p.0 x [] refl h))
complete r (May f) p (Some x) (u ∷ us) h v rest k =
    chosen_left (first f u.kind) (made Some (read r f ((u ∷ us) ++ v ∷ rest))) (Done None ((u ∷ us) ++ v ∷ rest)) (Done (Some x) (v ∷ rest)) (begins r f p.0 x (u ∷ us) u us refl h)
    (made_done Some (read r f ((u ∷ us) ++ v ∷ rest)) x (v ∷ rest) (complete r f p.0 x (u ∷ us) h v rest (either_right (first f v.kind) (continues f v.kind) k)))
complete r (Many f) p xs us h v rest k = many_complete r f p (complete r f p.0) xs us h v rest k
complete r (Parts most every part) p [] us h v rest k = absurd h
complete r (Parts most every part) p (x ∷ xs) us h v rest k = parts_complete r every part p.0 p.1 p.2 (complete r part p.0) xs most x us h v rest k

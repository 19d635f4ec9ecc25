-- Lists parted by commas, read part by part.
use Rattle.std.proofs.Common.{◌≡◌, ◌<◌, ◌≤◌, arith, length, subst, ℕ, Bool, true, false, List, [], ◌∷◌, ◌++◌, ap, sym, ◌∙◌, refl, append_assoc, append-nil}
use Rattle.sql_lex.specs.declared.token.Token.{Token}
use Rattle.std.specs.Prelude.{is_some}
use Rattle.sql_lex.specs.declared.token.Mark.{Mark}
use Rattle.sql_lex.specs.declared.token.Mark.TheVariants as mark
use Rattle.sql_lex.specs.Ahead.{first_of, behind_first}
use Rattle.sql_expr.specs.Got.{Got, Done, Refused, and_then}
use Rattle.sql_form.specs.Form.{Form, Value, One, Sign, Many, Parts, is_sign, if_so}
use Rattle.sql_form.specs.Grammar.{IsPlain, is_solid, first, counts, is_full, spared}
use Rattle.sql_form.specs.Read.{read, made, chosen, joined, limited, followed}
use Rattle.sql_form.specs.Rules.{strict}
use Rattle.sql_form.proofs.Shorter.{Within, within, many_on, parts_on}
use Rattle.sql_form.proofs.Complete.{chosen_left, chosen_right}
use Rattle.sql_form.proofs.PlainLemmas.{plain_is}
use Rattle.sql_form.specs.Plain.{is_plain}
use Rattle.sql_lex.specs.declared.refusal.ParseRefusal.{ParseRefusal}
use Rattle.sql_lex.specs.declared.refusal.ParseRefusal.TheVariants.{Syntax, Memory}
use Rattle.sql_stmt.specs.Answers.{Fails, IsRead}
use Rattle.sql_stmt.specs.Saying.{SaysNothing, SayEach}

-- parts that were read stand before those that come
abbrev pub behind : {V : Type 0} → List V → Got (List V) → Got (List V)
behind vs g = made (λ ws. vs ++ ws) g

-- what was said so far says the values so far
pub say_more : {R V : Type 0} (says : R → V → Type 0) (rs : List R) (vs : List V) (r : R) (v : V) → SayEach says rs vs → says r v → SayEach says (rs ++ r ∷ []) (vs ++ v ∷ [])
say_more says [] [] r v h s = (s, tt)
say_more says [] (w ∷ ws) r v h s = absurd h
say_more says (q ∷ qs) [] r v h s = absurd h
say_more says (q ∷ qs) (w ∷ ws) r v h s = (h.0, say_more says qs ws r v h.1 s)

pub behind_more : {V : Type 0} (vs : List V) (v : V) (g : Got (List V)) → behind vs (made (λ ws. v ∷ ws) g) ≡ behind (vs ++ v ∷ []) g
behind_more vs v (Done ws rest) = ap (λ xs. Done xs rest) (sym (append_assoc vs (v ∷ []) ws))
behind_more vs v (Refused at) = refl

pub behind_none : {V : Type 0} (g : Got (List V)) → behind [] g ≡ g
behind_none (Done ws rest) = refl
behind_none (Refused at) = refl

-- the place of a refusal
abbrev pub place_of : {V : Type 0} → Got V → ℕ
place_of (Done v us) = 0
place_of (Refused at) = at

-- a part was read where the limit allows it
pub limited_done : {V : Type 0} (b : Bool) (at : ℕ) (g : Got V) (v : V) (us : List Token) → limited b at g ≡ Done v us → (b ≡ false) × (g ≡ Done v us)
limited_done true at g v us h = cc
limited_done false at g v us h = (refl, h)

pub limited_refused : {V W : Type 0} (b : Bool) (at place : ℕ) (g : Got V) (more : V → List Token → Got W) → limited b at g ≡ Refused place → limited b at (and_then g more) ≡ Refused place
limited_refused {V} {W} true at place g more h = let p : Got V → ℕ = place_of in ap (λ n. Refused n) (ap p h)
limited_refused false at place g more h = rw h refl

-- a part and what follows, where the limit allows it
then_part : {V W : Type 0} (b : Bool) (at : ℕ) (g : Got V) (v : V) (us : List Token) (more : V → List Token → Got W) → limited b at g ≡ Done v us → limited b at (and_then g more) ≡ more v us
then_part true at g v us more h = cc
then_part false at g v us more h = rw h refl

followed_some : {V : Type 0} (v : V) (more : List Token → Got (List V)) (us : List Token) → is_sign mark.Comma (first_of us).kind ≡ true → followed v more us ≡ made (λ xs. v ∷ xs) (more (behind_first us))
followed_some v more us h = rw h refl

followed_none : {V : Type 0} (v : V) (more : List Token → Got (List V)) (us : List Token) → is_sign mark.Comma (first_of us).kind ≡ false → followed v more us ≡ Done (v ∷ []) us
followed_none v more us h = rw h refl

-- one part more
pub one_more : (every : Bool) (part : Form) → IsPlain part → is_solid part ≡ true → (n : ℕ) (ts us : List Token) (v : Value part) → limited (is_full true (counts every part (first_of ts).kind) n) (first_of ts).at (read strict part ts) ≡ Done v us
    → read strict (Parts n every part) ts ≡ followed v (read strict (Parts (spared (counts every part (first_of ts).kind) n) every part)) us
one_more every part p solid n ts us v h =
    let more : Value part → List Token → Got (List (Value part)) = λ x vs. followed x (read strict (Parts (spared (counts every part (first_of ts).kind) n) every part)) vs in
    parts_on strict every part p solid n ts ∙ then_part (is_full true (counts every part (first_of ts).kind) n) (first_of ts).at (read strict part ts) v us more h

pub part_refused : (every : Bool) (part : Form) → IsPlain part → is_solid part ≡ true → (n : ℕ) (ts : List Token) (at : ℕ) → limited (is_full true (counts every part (first_of ts).kind) n) (first_of ts).at (read strict part ts) ≡ Refused at
    → read strict (Parts n every part) ts ≡ Refused at
part_refused every part p solid n ts at h =
    let more : Value part → List Token → Got (List (Value part)) = λ x vs. followed x (read strict (Parts (spared (counts every part (first_of ts).kind) n) every part)) vs in
    parts_on strict every part p solid n ts ∙ limited_refused (is_full true (counts every part (first_of ts).kind) n) (first_of ts).at at (read strict part ts) more h

-- Parts were read that say these values, and what comes is read behind them.
pub record Listed {R : Type 0} (every : Bool) (part : Form) (says : R → Value part → Type 0) (rs : List R) (n : ℕ) (ts : List Token) (got : Got (List (Value part))) : Type 0 where
  pub values : List (Value part)
  pub means : SayEach says rs values
  pub is : got ≡ behind values (read strict (Parts n every part) ts)

pub listed_start : {R : Type 0} (every : Bool) (part : Form) (says : R → Value part → Type 0) (n : ℕ) (ts : List Token) → Listed every part says [] n ts (read strict (Parts n every part) ts)
listed_start every part says n ts = record { values = []; means = tt; is = sym (behind_none (read strict (Parts n every part) ts)) }

-- a comma stands behind the part
pub listed_on : {R : Type 0} (every : Bool) (part : Form) (says : R → Value part → Type 0) → IsPlain part → is_solid part ≡ true → (rs : List R) (r : R) (n : ℕ) (ts us : List Token) (got : Got (List (Value part)))
    → Listed every part says rs n ts got → IsRead says r (limited (is_full true (counts every part (first_of ts).kind) n) (first_of ts).at (read strict part ts)) us → is_sign mark.Comma (first_of us).kind ≡ true
    → Listed every part says (rs ++ r ∷ []) (spared (counts every part (first_of ts).kind) n) (behind_first us) got
listed_on every part says p solid rs r n ts us got l h comma = record {
  values = l.values ++ h.value ∷ [];
  means = say_more says rs l.values r h.value l.means h.means;
  is = l.is ∙ ap (behind l.values) (one_more every part p solid n ts us h.value h.is ∙ followed_some h.value (read strict (Parts (spared (counts every part (first_of ts).kind) n) every part)) us comma) ∙ behind_more l.values h.value (read strict (Parts (spared (counts every part (first_of ts).kind) n) every part) (behind_first us));
}

-- none stands behind it
pub listed_end : {R : Type 0} (every : Bool) (part : Form) (says : R → Value part → Type 0) → IsPlain part → is_solid part ≡ true → (rs : List R) (r : R) (n : ℕ) (ts us : List Token) (got : Got (List (Value part)))
    → Listed every part says rs n ts got → IsRead says r (limited (is_full true (counts every part (first_of ts).kind) n) (first_of ts).at (read strict part ts)) us → is_sign mark.Comma (first_of us).kind ≡ false
    → IsRead (SayEach says) (rs ++ r ∷ []) got us
listed_end every part says p solid rs r n ts us got l h none = record {
  value = l.values ++ h.value ∷ [];
  means = say_more says rs l.values r h.value l.means h.means;
  is = l.is ∙ ap (behind l.values) (one_more every part p solid n ts us h.value h.is ∙ followed_none h.value (read strict (Parts (spared (counts every part (first_of ts).kind) n) every part)) us none);
}

-- the part is refused, and so is the list
pub listed_refused : {R : Type 0} (every : Bool) (part : Form) (says : R → Value part → Type 0) → IsPlain part → is_solid part ≡ true → (rs : List R) (n : ℕ) (ts : List Token) (got : Got (List (Value part))) (e : ParseRefusal)
    → Listed every part says rs n ts got → Fails e (limited (is_full true (counts every part (first_of ts).kind) n) (first_of ts).at (read strict part ts)) → Fails e got
listed_refused every part says p solid rs n ts got (Syntax at) l h = l.is ∙ ap (behind l.values) (part_refused every part p solid n ts at h)
listed_refused every part says p solid rs n ts got Memory l h = tt

-- what is left behind a comma is less than there was
pub listed_less : {R : Type 0} (every : Bool) (part : Form) (says : R → Value part → Type 0) → IsPlain part → (r : R) (n : ℕ) (ts us vs : List Token)
    → IsRead says r (limited (is_full true (counts every part (first_of ts).kind) n) (first_of ts).at (read strict part ts)) us → us ≡ first_of us ∷ vs → length vs < length ts
listed_less every part says p r n ts us vs h split =
    let e = limited_done (is_full true (counts every part (first_of ts).kind) n) (first_of ts).at (read strict part ts) h.value us h.is in
    let P : Got (Value part) → Type 0 = λ g. Within (Value part) (is_solid part) ts g in
    let w = subst P e.1 (within strict part p ts) in
    omega (arith, w.0, ap length split)

-- Some were read that say these values, and what comes is read behind them.
pub record Several {R : Type 0} (f : Form) (says : R → Value f → Type 0) (rs : List R) (ts : List Token) (got : Got (List (Value f))) : Type 0 where
  pub values : List (Value f)
  pub means : SayEach says rs values
  pub is : got ≡ behind values (read strict (Many f) ts)

pub several_start : {R : Type 0} (f : Form) (says : R → Value f → Type 0) (ts : List Token) → Several f says [] ts (read strict (Many f) ts)
several_start f says ts = record { values = []; means = tt; is = sym (behind_none (read strict (Many f) ts)) }

joined_on : {A B C : Type 0} (make : A → B → C) (g : Got A) (more : List Token → Got B) (x : A) (us : List Token) → g ≡ Done x us → joined make g more ≡ made (make x) (more us)
joined_on make g more x us h = rw h refl

joined_refused : {A B C : Type 0} (make : A → B → C) (g : Got A) (more : List Token → Got B) (at : ℕ) → g ≡ Refused at → joined make g more ≡ Refused at
joined_refused make g more at h = rw h refl

-- behind one that was read
pub one_of_many : (f : Form) → IsPlain (Many f) → (ts us : List Token) (v : Value f) → first f (first_of ts).kind ≡ true → read strict f ts ≡ Done v us → read strict (Many f) ts ≡ made (λ xs. v ∷ xs) (read strict (Many f) us)
one_of_many f p ts us v ahead h = many_on strict f p ts ∙ chosen_left (first f (first_of ts).kind) _ _ _ ahead (joined_on (λ x xs. x ∷ xs) (read strict f ts) (read strict (Many f)) v us h)

pub several_on : {R : Type 0} (f : Form) (says : R → Value f → Type 0) → is_plain (Many f) ≡ true → (rs : List R) (r : R) (ts us : List Token) (got : Got (List (Value f)))
    → Several f says rs ts got → first f (first_of ts).kind ≡ true → IsRead says r (read strict f ts) us → Several f says (rs ++ r ∷ []) us got
several_on f says p rs r ts us got l ahead h = record {
  values = l.values ++ h.value ∷ [];
  means = say_more says rs l.values r h.value l.means h.means;
  is = l.is ∙ ap (behind l.values) (one_of_many f (plain_is (Many f) p) ts us h.value ahead h.is) ∙ behind_more l.values h.value (read strict (Many f) us);
}

pub several_end : {R : Type 0} (f : Form) (says : R → Value f → Type 0) → is_plain (Many f) ≡ true → (rs : List R) (ts : List Token) (got : Got (List (Value f)))
    → Several f says rs ts got → first f (first_of ts).kind ≡ false → IsRead (SayEach says) rs got ts
several_end f says p rs ts got l none = record {
  value = l.values;
  means = l.means;
  is = l.is ∙ ap (behind l.values) (many_on strict f (plain_is (Many f) p) ts ∙ chosen_right (first f (first_of ts).kind) _ _ _ none refl) ∙ ap (λ xs. Done xs ts) (append-nil l.values);
}

pub several_refused : {R : Type 0} (f : Form) (says : R → Value f → Type 0) → is_plain (Many f) ≡ true → (rs : List R) (ts : List Token) (got : Got (List (Value f))) (e : ParseRefusal)
    → Several f says rs ts got → first f (first_of ts).kind ≡ true → Fails e (read strict f ts) → Fails e got
several_refused f says p rs ts got (Syntax at) l ahead h = l.is ∙ ap (behind l.values) (many_on strict f (plain_is (Many f) p) ts ∙ chosen_left (first f (first_of ts).kind) _ _ _ ahead (joined_refused (λ x xs. x ∷ xs) (read strict f ts) (read strict (Many f)) at h))
several_refused f says p rs ts got Memory l ahead h = tt

-- one that was read takes a token
pub several_less : {R : Type 0} (f : Form) (says : R → Value f → Type 0) → is_plain f ≡ true → is_solid f ≡ true → (r : R) (ts us : List Token) → IsRead says r (read strict f ts) us → length us < length ts
several_less f says p solid r ts us h =
    let P : Got (Value f) → Type 0 = λ g. Within (Value f) (is_solid f) ts g in
    let w = subst P h.is (within strict f (plain_is f p) ts) in
    w.1 solid

-- Some were passed over, and what comes is read behind them.
pub record Run (f : Form) (ts : List Token) (got : Got (List (Value f))) : Type 0 where
  pub values : List (Value f)
  pub is : got ≡ behind values (read strict (Many f) ts)

pub run_start : (f : Form) (ts : List Token) → Run f ts (read strict (Many f) ts)
run_start f ts = record { values = []; is = sym (behind_none (read strict (Many f) ts)) }

mark_taken : (m : Mark) (ts us : List Token) → is_sign m (first_of ts).kind ≡ true → ts ≡ first_of ts ∷ us → read strict (One (Sign m)) ts ≡ Done tt us
mark_taken m ts us h split = rw h (ap (λ vs. Done tt vs) (ap behind_first split))

mark_ahead : (b : Bool) → b ≡ true → is_some (if_so b) ≡ true
mark_ahead true h = refl
mark_ahead false h = cc

mark_behind : (b : Bool) → b ≡ false → is_some (if_so b) ≡ false
mark_behind true h = cc
mark_behind false h = refl

-- one mark more
pub run_on : (m : Mark) (ts us : List Token) (got : Got (List (Unit {0}))) → Run (One (Sign m)) ts got → is_sign m (first_of ts).kind ≡ true → ts ≡ first_of ts ∷ us → Run (One (Sign m)) us got
run_on m ts us got l h split = record {
  values = l.values ++ tt ∷ [];
  is = l.is ∙ ap (behind l.values) (one_of_many (One (Sign m)) (plain_is (Many (One (Sign m))) refl) ts us tt (mark_ahead (is_sign m (first_of ts).kind) h) (mark_taken m ts us h split)) ∙ behind_more l.values tt (read strict (Many (One (Sign m))) us);
}

-- none is left
pub run_end : {R : Type 0} (m : Mark) (r : R) (ts : List Token) (got : Got (List (Unit {0}))) → Run (One (Sign m)) ts got → is_sign m (first_of ts).kind ≡ false → IsRead SaysNothing r got ts
run_end m r ts got l none = record {
  value = l.values;
  means = tt;
  is = l.is ∙ ap (behind l.values) (many_on strict (One (Sign m)) (plain_is (Many (One (Sign m))) refl) ts ∙ chosen_right (first (One (Sign m)) (first_of ts).kind) _ _ _ (mark_behind (is_sign m (first_of ts).kind) none) refl) ∙ ap (λ xs. Done xs ts) (append-nil l.values);
}

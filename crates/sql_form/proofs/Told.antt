-- What a reading tells of the tokens that it looked at, whatever stands behind them.
use Rattle.std.proofs.Common.{◌≡◌, ℕ, Bool, true, false, List, [], ◌∷◌, ◌++◌, ap, sym, ◌∙◌, refl, append_assoc}
use Rattle.sql_lex.specs.declared.token.Token.{Token}
use Rattle.sql_expr.specs.Got.{Got, Done, Refused}
use Rattle.sql_expr.specs.Machine.{CantStand, WrongKind, TooDeep, TooMany}
use Rattle.sql_form.specs.Rules.{Rules, strict, Breach, OfForm, OfExpr, OfParts, OfText, rules_of, is_freed}
use Rattle.sql_form.specs.Read.{made, joined}
use Rattle.sql_form.specs.Laws.{has_end, IsPlace}
use Rattle.sql_form.proofs.Complete.{joined_done, made_done}
use Rattle.sql_form.proofs.Samples.{Begun}

-- something was read: other rules, and other tokens behind the next one, change nothing
pub record Reached (A : Type 0) (is : A → List Token → Type 0) (step : Rules → List Token → Got A) (ts : List Token) (x : A) (rest : List Token) : Type 0 where
  pub front : List Token
  pub next : Token
  pub others : List Token
  pub split : ts ≡ front ++ next ∷ others
  pub rest_is : rest ≡ next ∷ others
  pub is_front : is x front
  pub again : (r : Rules) (more : List Token) → step r (front ++ next ∷ more) ≡ Done x (next ∷ more)
  pub ends : has_end rest ≡ true

-- it was refused: it is so under the broken rule alone, whatever stands behind the token; something begins with the front that keeps
-- the rule on texts, or not even that one
pub record Halted (A : Type 0) (isl : Bool → A → List Token → Type 0) (step : Rules → List Token → Got A) (ts : List Token) (at : ℕ) : Type 0 where
  pub why : Breach
  pub front : List Token
  pub token : Token
  pub others : List Token
  pub split : ts ≡ front ++ token ∷ others
  pub place : IsPlace why at front token
  pub again : (more : List Token) → step (rules_of why) (front ++ token ∷ more) ≡ Refused at
  pub before : Begun A (isl true) front
  pub freed : is_freed why ≡ true → Begun A (isl false) (front ++ token ∷ [])

abbrev pub Told : (A : Type 0) → (A → List Token → Type 0) → (Bool → A → List Token → Type 0) → (Rules → List Token → Got A) → List Token → Got A → Type 0
Told A is isl step ts (Done x rest) = Reached A is step ts x rest
Told A is isl step ts (Refused at) = Halted A isl step ts at

-- tokens that go on in another way begin in the same
pub same_start : (u n : Token) (os fs ms more : List Token) → u ∷ os ≡ fs ++ n ∷ ms → (zs : List Token) × (fs ++ n ∷ more ≡ u ∷ zs)
same_start u n os [] ms more h = let e : n ≡ u = cc in (more, rw e refl)
same_start u n os (f ∷ fs) ms more h = let e : f ≡ u = cc in (fs ++ n ∷ more, rw e refl)

pub same_begin : {A : Type 0} (step1 step2 : List Token → Got A) (u n : Token) (os fs ms more : List Token) (out : Got A) → u ∷ os ≡ fs ++ n ∷ ms → ((zs : List Token) → step2 (u ∷ zs) ≡ step1 (u ∷ zs)) → step1 (fs ++ n ∷ more) ≡ out → step2 (fs ++ n ∷ more) ≡ out
same_begin step1 step2 u n os fs ms more out split alike h =
    let s = same_start u n os fs ms more split in
    ap step2 s.1 ∙ alike s.0 ∙ sym (ap step1 s.1) ∙ h

-- a part in the front of a longer front
pub further : (why : Breach) (at : ℕ) (before front : List Token) (t : Token) → IsPlace why at front t → IsPlace why at (before ++ front) t
further (OfExpr WrongKind) at before front t (names, p) = (
  names,
  record {
    before = before ++ p.before;
    tokens = p.tokens;
    level = p.level;
    tree = p.tree;
    split = ap (λ (zs : List Token). before ++ zs) p.split ∙ sym (append_assoc before p.before p.tokens);
    place_is = p.place_is;
    is = p.is;
  },
)
further (OfExpr CantStand) at before front t h = h
further (OfExpr TooDeep) at before front t h = h
further (OfExpr TooMany) at before front t h = h
further OfForm at before front t h = h
further OfParts at before front t h = h
further OfText at before front t h = h

-- a begun thing, of which something is made
abbrev pub begun_made : {A B : Type 0} (isl : A → List Token → Type 0) (isl2 : B → List Token → Type 0) (make : A → B) → ((x : A) (ts : List Token) → isl x ts → isl2 (make x) ts) → (front : List Token) → Begun A isl front → Begun B isl2 front
begun_made isl isl2 make kept front b = record { more = b.more; value = make b.value; is_so = kept b.value (front ++ b.more) b.is_so }

made_refused : {A B : Type 0} (make : A → B) (g : Got A) (at : ℕ) → g ≡ Refused at → made make g ≡ Refused at
made_refused make g at h = rw h refl

pub told_made : {A B : Type 0} (is : A → List Token → Type 0) (isl : Bool → A → List Token → Type 0) (is2 : B → List Token → Type 0) (isl2 : Bool → B → List Token → Type 0) (make : A → B) (step : Rules → List Token → Got A) (ts : List Token) → ((x : A) (us : List Token) → is x us → is2 (make x) us) → ((b : Bool) (x : A) (us : List Token) → isl b x us → isl2 b (make x) us)
    → (g : Got A) → Told A is isl step ts g → Told B is2 isl2 (λ r us. made make (step r us)) ts (made make g)
told_made is isl is2 isl2 make step ts kept keptl (Done x rest) h = record {
  front = h.front;
  next = h.next;
  others = h.others;
  split = h.split;
  rest_is = h.rest_is;
  is_front = kept x h.front h.is_front;
  again = λ r more. made_done make (step r (h.front ++ h.next ∷ more)) x (h.next ∷ more) (h.again r more);
  ends = h.ends;
}
told_made is isl is2 isl2 make step ts kept keptl (Refused at) h = record {
  why = h.why;
  front = h.front;
  token = h.token;
  others = h.others;
  split = h.split;
  place = h.place;
  again = λ more. made_refused make (step (rules_of h.why) (h.front ++ h.token ∷ more)) at (h.again more);
  before = begun_made (isl true) (isl2 true) make (keptl true) h.front h.before;
  freed = λ e. begun_made (isl false) (isl2 false) make (keptl false) (h.front ++ h.token ∷ []) (h.freed e);
}

-- another reading that does the same of tokens with the same first one
pub told_alike : {A : Type 0} (is : A → List Token → Type 0) (isl : Bool → A → List Token → Type 0) (step1 step2 : Rules → List Token → Got A) (t : Token) (ts : List Token) → ((r : Rules) (zs : List Token) → step2 r (t ∷ zs) ≡ step1 r (t ∷ zs)) → (g : Got A) → Told A is isl step1 (t ∷ ts) g → Told A is isl step2 (t ∷ ts) g
told_alike is isl step1 step2 t ts alike (Done x rest) h = record {
  front = h.front;
  next = h.next;
  others = h.others;
  split = h.split;
  rest_is = h.rest_is;
  is_front = h.is_front;
  again = λ r more. same_begin (step1 r) (step2 r) t h.next ts h.front h.others more (Done x (h.next ∷ more)) h.split (alike r) (h.again r more);
  ends = h.ends;
}
told_alike is isl step1 step2 t ts alike (Refused at) h = record {
  why = h.why;
  front = h.front;
  token = h.token;
  others = h.others;
  split = h.split;
  place = h.place;
  again = λ more. same_begin (step1 (rules_of h.why)) (step2 (rules_of h.why)) t h.token ts h.front h.others more (Refused at) h.split (alike (rules_of h.why)) (h.again more);
  before = h.before;
  freed = h.freed;
}

joined_first : {A B C : Type 0} (make : A → B → C) (g : Got A) (more : List Token → Got B) (at : ℕ) → g ≡ Refused at → joined make g more ≡ Refused at
joined_first make g more at h = rw h refl

joined_second : {A B C : Type 0} (make : A → B → C) (g : Got A) (more : List Token → Got B) (x : A) (us : List Token) (at : ℕ) → g ≡ Done x us → more us ≡ Refused at → joined make g more ≡ Refused at
joined_second make g more x us at h k = rw (h, k) refl

-- what was read is read as well where the tokens behind begin in the same way
pub reached_again : {A : Type 0} {is : A → List Token → Type 0} (step : Rules → List Token → Got A) (ts : List Token) (x : A) (us : List Token) (h : Reached A is step ts x us) (r : Rules) (fs : List Token) (n : Token) (ms more : List Token) → us ≡ fs ++ n ∷ ms
    → step r (h.front ++ (fs ++ n ∷ more)) ≡ Done x (fs ++ n ∷ more)
reached_again step ts x us h r fs n ms more split =
    let s = same_start h.next n h.others fs ms more (sym h.rest_is ∙ split) in
    ap (λ (zs : List Token). step r (h.front ++ zs)) s.1 ∙ h.again r s.0 ∙ ap (Done x) (sym s.1)

abbrev pub joins_split : (ts front us fs : List Token) (n : Token) (ms : List Token) → ts ≡ front ++ us → us ≡ fs ++ n ∷ ms → ts ≡ (front ++ fs) ++ n ∷ ms
joins_split ts front us fs n ms h k = h ∙ ap (λ (zs : List Token). front ++ zs) k ∙ sym (append_assoc front fs (n ∷ ms))

abbrev pub reached_split : {A : Type 0} {is : A → List Token → Type 0} {step : Rules → List Token → Got A} {ts : List Token} {x : A} {us : List Token} (h : Reached A is step ts x us) → ts ≡ h.front ++ us
reached_split h = h.split ∙ ap (λ (zs : List Token). h.front ++ zs) (sym h.rest_is)

-- one and then the other
told_both : {A B C : Type 0} (is_a : A → List Token → Type 0) (isl_a : Bool → A → List Token → Type 0) (is_b : B → List Token → Type 0) (isl_b : Bool → B → List Token → Type 0) (is_c : C → List Token → Type 0) (isl_c : Bool → C → List Token → Type 0) (make : A → B → C) (step_a : Rules → List Token → Got A) (step_b : Rules → List Token → Got B) (ts : List Token)
    → ((x : A) (y : B) (us vs : List Token) → is_a x us → is_b y vs → is_c (make x y) (us ++ vs))
    → ((b : Bool) (x : A) (y : B) (us vs : List Token) → isl_a b x us → isl_b b y vs → isl_c b (make x y) (us ++ vs))
    → ((b : Bool) (x : A) (us : List Token) → is_a x us → isl_a b x us) → (x : A) (us : List Token) (h : Reached A is_a step_a ts x us) (g : Got B) → Told B is_b isl_b step_b us g
    → Told C is_c isl_c (λ r zs. joined make (step_a r zs) (step_b r)) ts (made (make x) g)
told_both is_a isl_a is_b isl_b is_c isl_c make step_a step_b ts glue gluel loosen x us h (Done y vs) k = record {
  front = h.front ++ k.front;
  next = k.next;
  others = k.others;
  split = joins_split ts h.front us k.front k.next k.others (reached_split h) k.split;
  rest_is = k.rest_is;
  is_front = glue x y h.front k.front h.is_front k.is_front;
  again = λ r more. ap (λ (zs : List Token). joined make (step_a r zs) (step_b r)) (append_assoc h.front k.front (k.next ∷ more)) ∙ joined_done make (step_a r (h.front ++ (k.front ++ k.next ∷ more))) (step_b r) x (k.front ++ k.next ∷ more) y (k.next ∷ more)
      (reached_again step_a ts x us h r k.front k.next k.others more k.split) (k.again r more);
  ends = k.ends;
}
told_both is_a isl_a is_b isl_b is_c isl_c make step_a step_b ts glue gluel loosen x us h (Refused at) k =
    record {
      why = k.why;
      front = h.front ++ k.front;
      token = k.token;
      others = k.others;
      split = joins_split ts h.front us k.front k.token k.others (reached_split h) k.split;
      place = further k.why at h.front k.front k.token k.place;
      again = λ more. ap (λ (zs : List Token). joined make (step_a (rules_of k.why) zs) (step_b (rules_of k.why))) (append_assoc h.front k.front (k.token ∷ more)) ∙ joined_second make (step_a (rules_of k.why) (h.front ++ (k.front ++ k.token ∷ more))) (step_b (rules_of k.why)) x (k.front ++ k.token ∷ more) at
          (reached_again step_a ts x us h (rules_of k.why) k.front k.token k.others more k.split) (k.again more);
      before = record { more = k.before.more; value = make x k.before.value; is_so = rw (append_assoc h.front k.front k.before.more) (gluel true x k.before.value h.front (k.front ++ k.before.more) (loosen true x h.front h.is_front) k.before.is_so) };
      freed = λ e. let b = k.freed e in record {
        more = b.more;
        value = make x b.value;
        is_so = rw (append_assoc h.front k.front (k.token ∷ []), append_assoc h.front (k.front ++ k.token ∷ []) b.more) (gluel false x b.value h.front ((k.front ++ k.token ∷ []) ++ b.more) (loosen false x h.front h.is_front) b.is_so);
      };
    }

pub told_joined : {A B C : Type 0} (is_a : A → List Token → Type 0) (isl_a : Bool → A → List Token → Type 0) (is_b : B → List Token → Type 0) (isl_b : Bool → B → List Token → Type 0) (is_c : C → List Token → Type 0) (isl_c : Bool → C → List Token → Type 0) (make : A → B → C) (step_a : Rules → List Token → Got A) (step_b : Rules → List Token → Got B) (ts : List Token)
    → ((x : A) (y : B) (us vs : List Token) → is_a x us → is_b y vs → is_c (make x y) (us ++ vs))
    → ((b : Bool) (x : A) (y : B) (us vs : List Token) → isl_a b x us → isl_b b y vs → isl_c b (make x y) (us ++ vs))
    → ((b : Bool) (x : A) (us : List Token) → is_a x us → isl_a b x us) → ((b : Bool) → Begun B (isl_b b) []) → (g : Got A) → Told A is_a isl_a step_a ts g → ((x : A) (us : List Token) → Reached A is_a step_a ts x us → Told B is_b isl_b step_b us (step_b strict us))
    → Told C is_c isl_c (λ r zs. joined make (step_a r zs) (step_b r)) ts (joined make g (step_b strict))
told_joined is_a isl_a is_b isl_b is_c isl_c make step_a step_b ts glue gluel loosen other (Done x us) h k = told_both is_a isl_a is_b isl_b is_c isl_c make step_a step_b ts glue gluel loosen x us h (step_b strict us) (k x us h)
told_joined is_a isl_a is_b isl_b is_c isl_c make step_a step_b ts glue gluel loosen other (Refused at) h k = record {
  why = h.why;
  front = h.front;
  token = h.token;
  others = h.others;
  split = h.split;
  place = h.place;
  again = λ more. joined_first make (step_a (rules_of h.why) (h.front ++ h.token ∷ more)) (step_b (rules_of h.why)) at (h.again more);
  before = let o = other true in record { more = h.before.more ++ o.more; value = make h.before.value o.value; is_so = rw (← append_assoc h.front h.before.more o.more) (gluel true h.before.value o.value (h.front ++ h.before.more) o.more h.before.is_so o.is_so) };
  freed = λ e. let b = h.freed e in let o = other false in record {
    more = b.more ++ o.more;
    value = make b.value o.value;
    is_so = rw (← append_assoc (h.front ++ h.token ∷ []) b.more o.more) (gluel false b.value o.value ((h.front ++ h.token ∷ []) ++ b.more) o.more b.is_so o.is_so);
  };
}

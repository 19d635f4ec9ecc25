-- What reading a list parted by commas tells.
use Rattle.std.specs.Prelude.{is_some, ◌&&◌}
use Rattle.std.proofs.Common.{◌≡◌, ℕ, suc, zero, ◌≤◌, ◌<◌, Bool, true, false, ◌||◌, List, [], ◌∷◌, ◌++◌, length, ap, ◌∙◌, refl, append_assoc, arith}
use Rattle.sql_lex.specs.declared.token.Mark.TheVariants as mark
use Rattle.sql_lex.specs.declared.token.Token.{Token}
use Rattle.sql_lex.specs.declared.token.TokenKind.{TokenKind}
use Rattle.sql_lex.specs.declared.token.TokenKind.TheVariants as kind
use Rattle.sql_lex.specs.Ahead.{first_of}
use Rattle.sql_lex.specs.Tokens.{is_end}
use Rattle.sql_expr.specs.Got.{Got, Done, Refused, and_then}
use Rattle.sql_form.specs.Rules.{Rules, strict, OfParts, rules_of}
use Rattle.sql_form.specs.Form.{is_sign, name_of, Form, Value}
use Rattle.sql_form.specs.Grammar.{counts, is_solid, first, IsPlain, is_full, spared, IsList, IsForm}
use Rattle.sql_form.specs.Read.{chosen, made, limited, followed, read}
use Rattle.sql_form.specs.Laws.{has_end}
use Rattle.sql_form.proofs.BoolLemmas.{true_not}
use Rattle.sql_form.proofs.Beginning.{none_needed}
use Rattle.sql_form.proofs.Samples.{FreeForm, sample, begun, relaxed}
use Rattle.sql_form.proofs.Shorter.{parts_from, parts_on}
use Rattle.sql_form.proofs.Told.{Reached, Told, told_alike, further, joins_split, reached_split, reached_again}
use Rattle.sql_form.proofs.ToldLeaves.{some_first, end_behind}
use Rattle.sql_form.proofs.ToldForms.{Tells, fewer}

full_less : (b c : Bool) (n : ℕ) → is_full true c n ≡ false → is_full b c n ≡ false
full_less true c n h = h
full_less false c n h = refl

both_first : (a b : Bool) → (a && b) ≡ true → a ≡ true
both_first true b h = refl
both_first false b h = cc

-- a part that is counted begins as parts do
pub counts_first : (every : Bool) (part : Form) (k : TokenKind) → counts every part k ≡ true → first part k ≡ true
counts_first every part k h = both_first (first part k) (every || is_some (name_of k)) h

full_counted : (c : Bool) (n : ℕ) → is_full true c n ≡ true → c ≡ true
full_counted true n h = refl
full_counted false n h = cc

limited_full : {A : Type 0} (b : Bool) (at : ℕ) (g : Got A) → b ≡ true → limited b at g ≡ Refused at
limited_full b at g h = rw h refl

limited_free : {A : Type 0} (b : Bool) (at : ℕ) (g : Got A) → b ≡ false → limited b at g ≡ g
limited_free b at g h = rw h refl

comma_no_end : (k : TokenKind) → is_sign mark.Comma k ≡ true → is_end k ≡ false
comma_no_end kind.End h = cc
comma_no_end _ h = refl

-- a part and further ones, of which so many may be counted
abbrev list_from : (r : Rules) (every : Bool) (part : Form) → ℕ → List Token → Got (List (Value part))
list_from r every part n ts = and_then (read r part ts) (λ x us. followed x (parts_from r every part n) us)

abbrev ListTold : (every : Bool) (part : Form) → ℕ → (Rules → List Token → Got (List (Value part))) → List Token → Got (List (Value part)) → Type 0
ListTold every part n step ts g = Told (List (Value part)) (IsList (IsForm strict part) true (counts every part) n) (λ b. IsList (FreeForm part b) false (counts every part) n) step ts g

followed_done : {A : Type 0} (g : Got A) (more : List Token → Got (List A)) (x : A) (d : Token) (zs : List Token) (ys : List A) (vs : List Token) → g ≡ Done x (d ∷ zs) → is_sign mark.Comma d.kind ≡ true → more zs ≡ Done ys vs
    → and_then g (λ y us. followed y more us) ≡ Done (x ∷ ys) vs
followed_done g more x d zs ys vs h c k = rw (h, c, k) refl

followed_refused : {A : Type 0} (g : Got A) (more : List Token → Got (List A)) (x : A) (d : Token) (zs : List Token) (at : ℕ) → g ≡ Done x (d ∷ zs) → is_sign mark.Comma d.kind ≡ true → more zs ≡ Refused at → and_then g (λ y us. followed y more us) ≡ Refused at
followed_refused g more x d zs at h c k = rw (h, c, k) refl

followed_over : {A : Type 0} (g : Got A) (more : List Token → Got (List A)) (x : A) (d : Token) (zs : List Token) → g ≡ Done x (d ∷ zs) → is_sign mark.Comma d.kind ≡ false → and_then g (λ y us. followed y more us) ≡ Done (x ∷ []) (d ∷ zs)
followed_over g more x d zs h c = rw (h, c) refl

then_refused : {A B : Type 0} (g : Got A) (more : A → List Token → Got B) (at : ℕ) → g ≡ Refused at → and_then g more ≡ Refused at
then_refused g more at h = rw h refl

-- a part and those behind a comma are a list
more_parts : {A : Type 0} (is : A → List Token → Type 0) (must : Bool) (counts : TokenKind → Bool) (n : ℕ) (t d : Token) (x : A) (ys : List A) (us vs : List Token) → is x us → first_of us ≡ t → is_full must (counts t.kind) n ≡ false → is_sign mark.Comma d.kind ≡ true
    → IsList is must counts (spared (counts t.kind) n) ys vs → IsList is must counts n (x ∷ ys) (us ++ d ∷ vs)
more_parts is must counts n t d x [] us vs h e room c hs = absurd hs
more_parts is must counts n t d x (y ∷ ys) us vs h e room c hs = (us, d, vs, refl, h, rw e room, c, rw e hs)

first_is : (t : Token) (ts front rest : List Token) → t ∷ ts ≡ front ++ rest → (front ≡ [] → ⊥) → first_of front ≡ t
first_is t ts [] rest split some = absurd (some refl)
first_is t ts (f ∷ front) rest split some = cc

-- the part that was read has a token
part_some : (part : Form) → IsPlain part → is_solid part ≡ true → (x : Value part) (front : List Token) → IsForm strict part x front → front ≡ [] → ⊥
part_some part p solid x front h e = true_not (is_solid part) solid (none_needed strict part p x front e h)

tells_more : (every : Bool) (part : Form) → IsPlain part → is_solid part ≡ true → (n : ℕ) (t : Token) (ts : List Token) → is_full true (counts every part t.kind) n ≡ false → (x : Value part) (us : List Token) (h : Reached (Value part) (IsForm strict part) (λ r. read r part) (t ∷ ts) x us)
    → (d : Token) (ws : List Token) → us ≡ d ∷ ws → is_sign mark.Comma d.kind ≡ true → (g : Got (List (Value part))) → ListTold every part (spared (counts every part t.kind) n) (λ r. parts_from r every part (spared (counts every part t.kind) n)) ws g
    → ListTold every part n (λ r. list_from r every part (spared (counts every part t.kind) n)) (t ∷ ts) (made (λ ys. x ∷ ys) g)
tells_more every part p solid n t ts room x us h d ws us_is c (Done ys vs) k =
    let m = spared (counts every part t.kind) n in
    let starts : first_of h.front ≡ t = first_is t ts h.front us (reached_split h) (part_some part p solid x h.front h.is_front) in
    let us_split : us ≡ (d ∷ k.front) ++ k.next ∷ k.others = us_is ∙ ap (λ (zs : List Token). d ∷ zs) k.split in
    record {
      front = h.front ++ d ∷ k.front;
      next = k.next;
      others = k.others;
      split = joins_split (t ∷ ts) h.front us (d ∷ k.front) k.next k.others (reached_split h) us_split;
      rest_is = k.rest_is;
      is_front = more_parts (IsForm strict part) true (counts every part) n t d x ys h.front k.front h.is_front starts room c k.is_front;
      again = λ r more. ap (list_from r every part m) (append_assoc h.front (d ∷ k.front) (k.next ∷ more))
          ∙ followed_done (read r part (h.front ++ ((d ∷ k.front) ++ k.next ∷ more))) (parts_from r every part m) x d (k.front ++ k.next ∷ more) ys (k.next ∷ more)
          (reached_again (λ q. read q part) (t ∷ ts) x us h r (d ∷ k.front) k.next k.others more us_split) c (k.again r more);
      ends = k.ends;
    }
tells_more every part p solid n t ts room x us h d ws us_is c (Refused at) k =
    let m = spared (counts every part t.kind) n in
    let starts : first_of h.front ≡ t = first_is t ts h.front us (reached_split h) (part_some part p solid x h.front h.is_front) in
    let us_split : us ≡ (d ∷ k.front) ++ k.token ∷ k.others = us_is ∙ ap (λ (zs : List Token). d ∷ zs) k.split in
    record {
      why = k.why;
      front = h.front ++ d ∷ k.front;
      token = k.token;
      others = k.others;
      split = joins_split (t ∷ ts) h.front us (d ∷ k.front) k.token k.others (reached_split h) us_split;
      place = further k.why at h.front (d ∷ k.front) k.token (further k.why at (d ∷ []) k.front k.token k.place);
      again = λ more. ap (list_from (rules_of k.why) every part m) (append_assoc h.front (d ∷ k.front) (k.token ∷ more))
          ∙ followed_refused (read (rules_of k.why) part (h.front ++ ((d ∷ k.front) ++ k.token ∷ more))) (parts_from (rules_of k.why) every part m) x d (k.front ++ k.token ∷ more) at
          (reached_again (λ q. read q part) (t ∷ ts) x us h (rules_of k.why) (d ∷ k.front) k.token k.others more us_split) c (k.again more);
      before = record {
        more = k.before.more;
        value = x ∷ k.before.value;
        is_so = rw (append_assoc h.front (d ∷ k.front) k.before.more)
            (more_parts (FreeForm part true) false (counts every part) n t d x k.before.value h.front (k.front ++ k.before.more) (relaxed true part x h.front h.is_front) starts refl c k.before.is_so);
      };
      freed = λ e. let b = k.freed e in record {
        more = b.more;
        value = x ∷ b.value;
        is_so = rw (append_assoc h.front (d ∷ k.front) (k.token ∷ []), append_assoc h.front ((d ∷ k.front) ++ k.token ∷ []) b.more)
            (more_parts (FreeForm part false) false (counts every part) n t d x b.value h.front ((k.front ++ k.token ∷ []) ++ b.more) (relaxed false part x h.front h.is_front) starts refl c b.is_so);
      };
    }

tells_last : (every : Bool) (part : Form) → IsPlain part → is_solid part ≡ true → (n : ℕ) (t : Token) (ts : List Token) → is_full true (counts every part t.kind) n ≡ false → (x : Value part) (us : List Token) (h : Reached (Value part) (IsForm strict part) (λ r. read r part) (t ∷ ts) x us)
    → (d : Token) (ws : List Token) → us ≡ d ∷ ws → (b : Bool) → is_sign mark.Comma d.kind ≡ b → ((vs : List Token) → length vs < length (t ∷ ts) → has_end vs ≡ true → ListTold every part (spared (counts every part t.kind) n) (λ r. parts_from r every part (spared (counts every part t.kind) n)) vs (parts_from strict every part (spared (counts every part t.kind) n) vs))
    → ListTold every part n (λ r. list_from r every part (spared (counts every part t.kind) n)) (t ∷ ts) (chosen b (made (λ ys. x ∷ ys) (parts_from strict every part (spared (counts every part t.kind) n) ws)) (Done (x ∷ []) us))
tells_last every part p solid n t ts room x us h d ws us_is true c more =
    let few : length us < length (t ∷ ts) = fewer part p solid x h.front (t ∷ ts) us h.is_front (reached_split h) in
    let size : length us ≡ length (d ∷ ws) = ap (λ (zs : List Token). length zs) us_is in
    let ends : has_end (d ∷ ws) ≡ true = rw us_is at h.ends in
    tells_more every part p solid n t ts room x us h d ws us_is c (parts_from strict every part (spared (counts every part t.kind) n) ws) (more ws (omega (arith, few, size)) (end_behind d ws (comma_no_end d.kind c) ends))
tells_last every part p solid n t ts room x us h d ws us_is false c more =
    let starts : first_of h.front ≡ t = first_is t ts h.front us (reached_split h) (part_some part p solid x h.front h.is_front) in
    let next_is : h.next ≡ d = cc (h.rest_is, us_is) in
    record {
      front = h.front;
      next = h.next;
      others = h.others;
      split = h.split;
      rest_is = h.rest_is;
      is_front = (h.is_front, rw starts room);
      again = λ r zs. followed_over (read r part (h.front ++ h.next ∷ zs)) (parts_from r every part (spared (counts every part t.kind) n)) x h.next zs (h.again r zs) (rw next_is c);
      ends = h.ends;
    }

tells_followed : (every : Bool) (part : Form) → IsPlain part → is_solid part ≡ true → (n : ℕ) (t : Token) (ts : List Token) → is_full true (counts every part t.kind) n ≡ false
    → ((vs : List Token) → length vs < length (t ∷ ts) → has_end vs ≡ true → ListTold every part (spared (counts every part t.kind) n) (λ r. parts_from r every part (spared (counts every part t.kind) n)) vs (parts_from strict every part (spared (counts every part t.kind) n) vs))
    → (g : Got (Value part)) → Told (Value part) (IsForm strict part) (FreeForm part) (λ r. read r part) (t ∷ ts) g
    → ListTold every part n (λ r. list_from r every part (spared (counts every part t.kind) n)) (t ∷ ts) (and_then g (λ x us. followed x (parts_from strict every part (spared (counts every part t.kind) n)) us))
tells_followed every part p solid n t ts room more (Done x us) h =
    let s = some_first us h.ends in
    rw s.is (tells_last every part p solid n t ts room x (s.next ∷ s.others) (rw s.is at h) s.next s.others refl (is_sign mark.Comma s.next.kind) refl more)
tells_followed every part p solid n t ts room more (Refused at) h = record {
  why = h.why;
  front = h.front;
  token = h.token;
  others = h.others;
  split = h.split;
  place = h.place;
  again = λ zs. then_refused (read (rules_of h.why) part (h.front ++ h.token ∷ zs)) (λ x us. followed x (parts_from (rules_of h.why) every part (spared (counts every part t.kind) n)) us) at (h.again zs);
  before = record { more = h.before.more; value = h.before.value ∷ []; is_so = (h.before.is_so, refl) };
  freed = λ e. let b = h.freed e in record { more = b.more; value = b.value ∷ []; is_so = (b.is_so, refl) };
}

tells_limited : (every : Bool) (part : Form) → IsPlain part → is_solid part ≡ true → ((k : TokenKind) → counts every part k ≡ true → first part k ≡ true) → (n : ℕ) (t : Token) (ts : List Token)
    → ((vs : List Token) → length vs < length (t ∷ ts) → has_end vs ≡ true → ListTold every part (spared (counts every part t.kind) n) (λ r. parts_from r every part (spared (counts every part t.kind) n)) vs (parts_from strict every part (spared (counts every part t.kind) n) vs))
    → Tells part (t ∷ ts) → (b : Bool) → is_full true (counts every part t.kind) n ≡ b
    → ListTold every part n (λ r. parts_from r every part n) (t ∷ ts) (limited b t.at (and_then (read strict part (t ∷ ts)) (λ x us. followed x (parts_from strict every part (spared (counts every part t.kind) n)) us)))
tells_limited every part p solid begins n t ts more h true full = record {
  why = OfParts;
  front = [];
  token = t;
  others = ts;
  split = refl;
  place = refl;
  again = λ zs. parts_on (rules_of OfParts) every part p solid n (t ∷ zs) ∙ limited_full (is_full true (counts every part t.kind) n) t.at (list_from (rules_of OfParts) every part (spared (counts every part t.kind) n) (t ∷ zs)) full;
  before = let b = sample true part in record { more = b.more; value = b.value ∷ []; is_so = (b.is_so, refl) };
  freed = λ e. let b = begun part t (begins t.kind (full_counted (counts every part t.kind) n full)) in record { more = b.more; value = b.value ∷ []; is_so = (b.is_so, refl) };
}
tells_limited every part p solid begins n t ts more h false room =
    told_alike (IsList (IsForm strict part) true (counts every part) n) (λ b. IsList (FreeForm part b) false (counts every part) n) (λ r. list_from r every part (spared (counts every part t.kind) n)) (λ r. parts_from r every part n) t ts
    (λ r zs. parts_on r every part p solid n (t ∷ zs) ∙ limited_free (is_full r.parts (counts every part t.kind) n) t.at (list_from r every part (spared (counts every part t.kind) n) (t ∷ zs)) (full_less r.parts (counts every part t.kind) n room))
    (list_from strict every part (spared (counts every part t.kind) n) (t ∷ ts)) (tells_followed every part p solid n t ts room more (read strict part (t ∷ ts)) h)

pub tells_parts : (every : Bool) (part : Form) → IsPlain part → is_solid part ≡ true → ((k : TokenKind) → counts every part k ≡ true → first part k ≡ true) → ((us : List Token) → has_end us ≡ true → Tells part us)
    → (size n : ℕ) (ts : List Token) → length ts ≤ size → has_end ts ≡ true → ListTold every part n (λ r. parts_from r every part n) ts (parts_from strict every part n ts)
tells_parts every part p solid begins h size n [] le e = cc
tells_parts every part p solid begins h zero n (t ∷ ts) le e = absurd (omega arith)
tells_parts every part p solid begins h (suc size) n (t ∷ ts) le e =
    rw (parts_on strict every part p solid n (t ∷ ts))
    (tells_limited every part p solid begins n t ts (λ vs less ends. tells_parts every part p solid begins h size (spared (counts every part t.kind) n) vs (omega arith) ends) (h (t ∷ ts) e) (is_full true (counts every part t.kind) n) refl)

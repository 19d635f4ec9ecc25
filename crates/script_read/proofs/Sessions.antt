-- How the batches of a session follow one another.
use Rattle.std.proofs.Common.{◌≡◌, ℕ, suc, ◌+◌, ◌≤◌, Bool, true, false, cond, List, [], ◌∷◌, ◌++◌, length, take, drop, arith, ap, sym, ◌∙◌, refl, subst, append_assoc, append-nil, length-append, Option, inl, inr, Err, Result}
use Rattle.std.specs.Prelude.{IfErr, not, ◌&&◌, ◌||◌, ◌==◌, nat_le, nat_lt}
use Rattle.std.specs.List.{list_all, prefix_len, slice_split, onto_first}
use Rattle.std.specs.Char.{to_ascii_lowercase}
use Rattle.std.proofs.lemmas.Bool.{le-leb, eqb-true}
use Rattle.std.proofs.lemmas.List.{take-append-drop}
use Rattle.std.proofs.lemmas.List.Folds.{list_all-append}
use Rattle.plain_model.specs.declared.stmt.Stmt.{Stmt}
use Rattle.script_read.specs.declared.refusal.ScriptRefusal.{ScriptRefusal}
use Rattle.script_read.specs.declared.refusal.ScriptRefusal.TheVariants.{Refused, Memory}
use Rattle.script_read.specs.Classes.{is_text_byte, is_text, is_blank_byte, is_blank, begins_with_colon, goes, is_go}
use Rattle.script_read.specs.Taking.{is_inner, first_is_inner}
use Rattle.script_read.specs.Faults.{Within, Fault, first_fault}
use Rattle.script_read.specs.Limit.{Batch, batches, IsPast}
use Rattle.script_read.specs.Refusal.{IsFirst, by_form, by_count, Refuses}
use Rattle.script_read.specs.Script.{SayAll}
use Rattle.script_read.specs.Steps.{ReadsBatch, PassesGo, later}
use Rattle.script_read.proofs.BoolLemmas.{clash, both_hold, both, neither}
use Rattle.script_read.proofs.Batches.{or_bad, batch_form, Facts, past_split, past_join}

-- what is first refused of some lines is first refused of those before, where these lead to them
pub first_on : (old new : Option Fault) (before behind : ℕ → Type 0) (line : ℕ) (why : _) → old ≡ new → ((m : ℕ) → before m → behind m) → ((m : ℕ) → behind m → before m)
    → IsFirst new behind line why → IsFirst old before line why
first_on old new before behind line why e to back (by_form l w form least) = by_form l w (e ∙ form) (λ m p. least m (to m p))
first_on old new before behind line why e to back (by_count l past least form) = by_count l (back l past) (λ m p. least m (to m p)) (λ f g. form f (sym e ∙ g))

-- blanks are text
blank_by : (v w : Bool) (b : ℕ) → (b == 9) ≡ v → (b == 32) ≡ w → (w || v) ≡ true → is_text_byte b ≡ true
blank_by true w b e f h = rw e refl
blank_by false true b e f h = let same : b ≡ 32 = eqb-true b 32 f in rw same refl
blank_by false false b e f h = cc

blanks_text : (bytes : List ℕ) → is_blank bytes ≡ true → is_text bytes ≡ true
blanks_text [] h = refl
blanks_text (b ∷ bs) h =
    let parts = both_hold (is_blank_byte b) (is_blank bs) h in
    both (is_text_byte b) (is_text bs) (blank_by (b == 9) (b == 32) b refl refl parts.0) (blanks_text bs parts.1)

printable_by : (v : Bool) (b : ℕ) → (b == 9) ≡ v → 32 ≤ b → b ≤ 126 → is_text_byte b ≡ true
printable_by true b e low high = rw e refl
printable_by false b e low high = let lower : nat_le 32 b ≡ true = le-leb 32 b low in let upper : nat_le b 126 ≡ true = le-leb b 126 high in rw (e, lower, upper) refl

printable : (b : ℕ) → 32 ≤ b → b ≤ 126 → is_text_byte b ≡ true
printable b low high = printable_by (b == 9) b refl low high

-- a letter is text
letter_by : (v w : Bool) (b letter : ℕ) → nat_lt b 65 ≡ v → nat_lt b 91 ≡ w → 97 ≤ letter → letter ≤ 122 → cond v b (cond w (b + 32) b) ≡ letter → is_text_byte b ≡ true
letter_by true w b letter e f low high g = printable b (omega (arith, g)) (omega (arith, g))
letter_by false true b letter e f low high g = printable b (omega (arith, g)) (omega (arith, g))
letter_by false false b letter e f low high g = printable b (omega (arith, g)) (omega (arith, g))

-- a letter in any case is text
pub letter_text : (b letter : ℕ) → 97 ≤ letter → letter ≤ 122 → to_ascii_lowercase b ≡ letter → is_text_byte b ≡ true
letter_text b letter low high e = letter_by (nat_lt b 65) (nat_lt b 91) b letter refl refl low high e

goes_text : (bytes : List ℕ) → goes bytes ≡ true → is_text bytes ≡ true
goes_text [] h = refl
goes_text (g ∷ []) h = cc
goes_text (g ∷ o ∷ rest) h =
    let parts = both_hold (to_ascii_lowercase g == 103 && to_ascii_lowercase o == 111) (is_blank rest) h in
    let letters = both_hold (to_ascii_lowercase g == 103) (to_ascii_lowercase o == 111) parts.0 in
    both (is_text_byte g) (is_text_byte o && is_text rest) (letter_text g 103 (omega arith) (omega arith) (eqb-true _ 103 letters.0))
    (both (is_text_byte o) (is_text rest) (letter_text o 111 (omega arith) (omega arith) (eqb-true _ 111 letters.1)) (blanks_text rest parts.1))

front_one : (v : Bool) (b : ℕ) (bs : List ℕ) → is_blank_byte b ≡ v → is_blank (take (prefix_len is_blank_byte bs) bs) ≡ true → is_blank (take (cond v (1 + prefix_len is_blank_byte bs) 0) (b ∷ bs)) ≡ true
front_one true b bs e h = let one : 1 + prefix_len is_blank_byte bs ≡ suc (prefix_len is_blank_byte bs) = omega arith in rw (one, e) h
front_one false b bs e h = refl

front_blank : (bytes : List ℕ) → is_blank (take (prefix_len is_blank_byte bytes) bytes) ≡ true
front_blank [] = refl
front_blank (b ∷ bs) = front_one (is_blank_byte b) b bs refl (front_blank bs)

-- a line that is GO is text
pub go_text : (line : List ℕ) → is_go line ≡ true → is_text line ≡ true
go_text line h =
    let n : ℕ = prefix_len is_blank_byte line in
    let parts : is_text (take n line ++ drop n line) ≡ true
    = list_all-append is_text_byte (take n line) (drop n line) ∙ both (is_text (take n line)) (is_text (drop n line)) (blanks_text (take n line) (front_blank line)) (goes_text (drop n line) h) in
    rw (take-append-drop n line) at parts

no_go : (bs : List ℕ) → is_go (58 ∷ bs) ≡ false
no_go [] = refl
no_go (b ∷ bs) = refl

go_by : (v : Bool) (line : List ℕ) → begins_with_colon line ≡ v → is_go line ≡ true → begins_with_colon line ≡ false
go_by false line e h = e
go_by true [] e h = cc
go_by true (b ∷ bs) e h = let same : b ≡ 58 = eqb-true b 58 e in absurd (clash (is_go (b ∷ bs)) h (ap (λ c. is_go (c ∷ bs)) same ∙ no_go bs))

-- a line that is GO doesn't begin with a colon
pub go_plain : (line : List ℕ) → is_go line ≡ true → begins_with_colon line ≡ false
go_plain line h = go_by (begins_with_colon line) line refl h

abbrev pub is_plain : List ℕ → Bool
is_plain line = not (begins_with_colon line)

inner_plain : (lines : List (List ℕ)) → list_all is_inner lines ≡ true → list_all is_plain lines ≡ true
inner_plain [] h = refl
inner_plain (line ∷ lines) h =
    let parts = both_hold (is_inner line) (list_all is_inner lines) h in
    both (is_plain line) (list_all is_plain lines) (rw (neither (begins_with_colon line) (is_go line) parts.0).0 refl) (inner_plain lines parts.1)

inner_one : (lines : List (List ℕ)) → list_all is_inner lines ≡ true → slice_split is_go lines ≡ lines ∷ []
inner_one [] h = refl
inner_one (line ∷ lines) h =
    let parts = both_hold (is_inner line) (list_all is_inner lines) h in
    rw ((neither (begins_with_colon line) (is_go line) parts.0).1, inner_one lines parts.1) refl

-- the parts of a list are never none
pub record HasFirst (parts : List (List (List ℕ))) : Type 0 where
  pub first : List (List ℕ)
  pub others : List (List (List ℕ))
  pub is : parts ≡ first ∷ others

first_by : (v : Bool) (line : List ℕ) (parts : List (List (List ℕ))) → HasFirst parts → HasFirst (cond v ([] ∷ parts) (onto_first line parts))
first_by true line parts h = record { first = []; others = parts; is = refl }
first_by false line parts h = record { first = line ∷ h.first; others = h.others; is = rw h.is refl }

-- a list has a first part
pub has_first : (lines : List (List ℕ)) → HasFirst (slice_split is_go lines)
has_first [] = record { first = []; others = []; is = refl }
has_first (line ∷ lines) = first_by (is_go line) line (slice_split is_go lines) (has_first lines)

split_by : (v : Bool) (line : List ℕ) (parts more : List (List (List ℕ))) → HasFirst parts → cond v ([] ∷ (parts ++ more)) (onto_first line (parts ++ more)) ≡ cond v ([] ∷ parts) (onto_first line parts) ++ more
split_by true line parts more h = refl
split_by false line parts more h = rw h.is refl

-- a line that is GO parts the batches before it from those behind it
split_at_go : (lines more : List (List ℕ)) (go : List ℕ) → is_go go ≡ true → slice_split is_go (lines ++ go ∷ more) ≡ slice_split is_go lines ++ slice_split is_go more
split_at_go [] more go h = rw h refl
split_at_go (line ∷ lines) more go h =
    ap (λ (ps : List (List (List ℕ))). cond (is_go line) ([] ∷ ps) (onto_first line ps)) (split_at_go lines more go h) ∙ split_by (is_go line) line (slice_split is_go lines) (slice_split is_go more) (has_first lines)

say_append : (parts more : List (List (List ℕ))) (s t : List Stmt) → SayAll parts s → SayAll more t → SayAll (parts ++ more) (s ++ t)
say_append [] more s t h i = rw h i
say_append (part ∷ parts) more s t (first, rest, split, says, others) i = (first, rest ++ t, ap (λ (u : List Stmt). u ++ t) split ∙ append_assoc first rest t, says, say_append parts more rest t others i)

-- batches of a session were read, and a line that ends one comes, or none
pub record Reading (said : ℕ) (stmts : List Stmt) (number : ℕ) (old : List (List ℕ)) (next : ℕ) (new : List (List ℕ)) : Type 0 where
  pub body : List (List ℕ)
  pub split : old ≡ body ++ new
  pub plain : list_all is_plain body ≡ true
  pub says : SayAll (slice_split is_go body) stmts
  pub stops : first_is_inner new ≡ false
  pub few : said + length stmts ≤ 20000
  pub form : (n : ℕ) → first_fault (Within n) number old ≡ first_fault (Within n) next new
  pub past : (n m : ℕ) → IsPast said (batches (Within n) number old) m → IsPast (said + length stmts) (later (Within n) next new) m
  pub back : (n m : ℕ) → IsPast (said + length stmts) (later (Within n) next new) m → IsPast said (batches (Within n) number old) m

batch_facts : (said : ℕ) (stmts : List Stmt) (number : ℕ) (old : List (List ℕ)) (next : ℕ) (new : List (List ℕ)) (h : ReadsBatch said stmts number old next new) → Facts said number next h.lines new stmts
batch_facts said stmts number old next new h = record { inner = h.inner; stops = h.stops; says = h.says; next_is = h.next_is }

past_one : (n m said : ℕ) (stmts : List Stmt) (number : ℕ) (old : List (List ℕ)) (next : ℕ) (new : List (List ℕ)) → ReadsBatch said stmts number old next new
    → IsPast said (batches (Within n) number old) m → IsPast (said + length stmts) (later (Within n) next new) m
past_one n m said stmts number old next new h p =
    let q : IsPast said (batches (Within n) number (h.lines ++ new)) m = subst (λ (ls : List (List ℕ)). IsPast said (batches (Within n) number ls) m) h.split p in
    elim (past_split n said number next m h.lines new stmts (batch_facts said stmts number old next new h) q) [
      | inl r ↦ r.1
      | inr r ↦ absurd (omega (arith, r.0, h.few))
    ]

back_one : (n m said : ℕ) (stmts : List Stmt) (number : ℕ) (old : List (List ℕ)) (next : ℕ) (new : List (List ℕ)) → ReadsBatch said stmts number old next new
    → IsPast (said + length stmts) (later (Within n) next new) m → IsPast said (batches (Within n) number old) m
back_one n m said stmts number old next new h p =
    subst (λ (ls : List (List ℕ)). IsPast said (batches (Within n) number ls) m) (sym h.split) (past_join n said number next m h.lines new stmts (batch_facts said stmts number old next new h) (inl (h.few, p)))

-- one batch was read
pub reading_one : (said : ℕ) (stmts : List Stmt) (number : ℕ) (old : List (List ℕ)) (next : ℕ) (new : List (List ℕ)) → ReadsBatch said stmts number old next new → Reading said stmts number old next new
reading_one said stmts number old next new h = record {
  body = h.lines;
  split = h.split;
  plain = inner_plain h.lines h.inner;
  stops = h.stops;
  few = h.few;
  says = rw (inner_one h.lines h.inner) (stmts, [], sym (append-nil stmts), h.says, refl);
  form = λ n. ap (first_fault (Within n) number) h.split ∙ batch_form n number h.lines new h.inner ∙ ap (λ (o : Option ℕ). or_bad o (first_fault (Within n) (number + length h.lines) new)) h.text ∙ ap (λ k. first_fault (Within n) k new) (sym h.next_is);
  past = λ n m p. past_one n m said stmts number old next new h p;
  back = λ n m p. back_one n m said stmts number old next new h p;
}

go_form : (n number : ℕ) (go : List ℕ) (lines : List (List ℕ)) → is_go go ≡ true → first_fault (Within n) number (go ∷ lines) ≡ first_fault (Within n) (number + 1) lines
go_form n number go lines h = rw (go_text go h, go_plain go h) refl

go_later : (n number : ℕ) (go : List ℕ) (lines : List (List ℕ)) → is_go go ≡ true → later (Within n) number (go ∷ lines) ≡ batches (Within n) (number + 1) lines
go_later n number go lines h = rw (go_plain go h) refl

-- behind GO more were read
pub reading_more : (said : ℕ) (stmts more : List Stmt) (number mid next : ℕ) (old rest new : List (List ℕ)) (go : List ℕ) → Reading said stmts number old mid (go ∷ rest) → is_go go ≡ true
    → Reading (said + length stmts) more (mid + 1) rest next new → Reading said (stmts ++ more) number old next new
reading_more said stmts more number mid next old rest new go h is i =
    let long : said + length stmts + length more ≡ said + length (stmts ++ more) = simp length-append (omega arith) in
    record {
      body = h.body ++ go ∷ i.body;
      split = h.split ∙ ap (λ (ls : List (List ℕ)). h.body ++ go ∷ ls) i.split ∙ sym (append_assoc h.body (go ∷ i.body) new);
      plain = list_all-append is_plain h.body (go ∷ i.body) ∙ both (list_all is_plain h.body) (list_all is_plain (go ∷ i.body)) h.plain (both (is_plain go) (list_all is_plain i.body) (rw (go_plain go is) refl) i.plain);
      says = rw (split_at_go h.body i.body go is) (say_append (slice_split is_go h.body) (slice_split is_go i.body) stmts more h.says i.says);
      stops = i.stops;
      few = omega (arith, long, i.few);
      form = λ n. h.form n ∙ go_form n mid go rest is ∙ i.form n;
      past = λ n m p. subst (λ k. IsPast k (later (Within n) next new) m) long (i.past n m (subst (λ (bs : List Batch). IsPast (said + length stmts) bs m) (go_later n mid go rest is) (h.past n m p)));
      back = λ n m p. h.back n m (subst (λ (bs : List Batch). IsPast (said + length stmts) bs m) (sym (go_later n mid go rest is)) (i.back n m (subst (λ k. IsPast k (later (Within n) next new) m) (sym long) p)));
    }

-- what is refused behind batches of a session is refused of it
pub session_refused : (n said number mid : ℕ) (stmts : List Stmt) (old rest : List (List ℕ)) (go : List ℕ) (e : ScriptRefusal) → Reading said stmts number old mid (go ∷ rest) → is_go go ≡ true
    → Refuses (Within n) (said + length stmts) (mid + 1) rest e → Refuses (Within n) said number old e
session_refused n said number mid stmts old rest go Memory h is r = tt
session_refused n said number mid stmts old rest go (Refused line why) h is r =
    first_on (first_fault (Within n) number old) (first_fault (Within n) (mid + 1) rest) _ _ line why (h.form n ∙ go_form n mid go rest is)
    (λ m p. subst (λ (bs : List Batch). IsPast (said + length stmts) bs m) (go_later n mid go rest is) (h.past n m p))
    (λ m p. h.back n m (subst (λ (bs : List Batch). IsPast (said + length stmts) bs m) (sym (go_later n mid go rest is)) p)) r

-- the exit of a refusal
pub refused_exit : {Y : Type 0} (P : ScriptRefusal → Type 0) (r : Result Y ScriptRefusal) (y e : ScriptRefusal) → r ≡ Err y → y ≡ e → P e → IfErr r P
refused_exit {Y} P r y e h i p = subst (λ (x : Result Y ScriptRefusal). IfErr x P) (sym h) (subst P (sym i) p)

-- the same where the line that is GO was taken
pub more_refused : (n said count number mid next : ℕ) (stmts : List Stmt) (old here rest : List (List ℕ)) (e : ScriptRefusal) → Reading said stmts number old mid here → PassesGo true mid here next rest
    → count ≡ length stmts → Refuses (Within n) (said + count) next rest e → Refuses (Within n) said number old e
more_refused n said count number mid next stmts old here rest e h (go, split, is, at) long r =
    let reading : Reading said stmts number old mid (go ∷ rest) = subst (λ (ls : List (List ℕ)). Reading said stmts number old mid ls) split h in
    session_refused n said number mid stmts old rest go e reading is (rw (← long, ← at) r)

-- a batch more was read
pub more_read : (said count number mid next last : ℕ) (stmts more : List Stmt) (old here rest new : List (List ℕ)) → Reading said stmts number old mid here → PassesGo true mid here next rest
    → count ≡ length stmts → ReadsBatch (said + count) more next rest last new → Reading said (stmts ++ more) number old last new
more_read said count number mid next last stmts more old here rest new h (go, split, is, at) long r =
    let reading : Reading said stmts number old mid (go ∷ rest) = subst (λ (ls : List (List ℕ)). Reading said stmts number old mid ls) split h in
    reading_more said stmts more number mid last old rest new go reading is (rw (← long, ← at) (reading_one (said + count) more next rest last new r))

-- How a script is made of what stands in front, sessions, and a schedule.
use Rattle.std.proofs.Common.{◌≡◌, ℕ, zero, suc, ◌+◌, ◌<◌, ◌≤◌, Bool, true, false, List, [], ◌∷◌, ◌++◌, length, arith, ap, sym, ◌∙◌, refl, subst, add-zero, append_assoc, length-append, Option}
use Rattle.std.specs.Prelude.{Some, None, ◌==◌, nat_eq, nat_lt, sum_by, codes}
use Rattle.std.specs.List.{list_all, starts_with}
use Rattle.std.proofs.lemmas.Bool.{ltb-true, eqb-true}
use Rattle.std.proofs.lemmas.Bool.Decides.{Decides-eqb}
use Rattle.std.proofs.lemmas.List.Sums.{sum_by-append, sum_by-cons}
use Rattle.std.proofs.lemmas.Slice.Eq.{bytes_eq-Decides, starts_is}
use Rattle.plain_model.specs.declared.stmt.Stmt.{Stmt}
use Rattle.plain_model.specs.declared.pick.Pick.{Pick}
use Rattle.script_read.specs.declared.refusal.Why.{Why}
use Rattle.script_read.specs.declared.refusal.ScriptRefusal.{ScriptRefusal}
use Rattle.script_read.specs.declared.refusal.ScriptRefusal.TheVariants.{Refused, Memory}
use Rattle.script_read.specs.Decimal.{is_decimal, number_of}
use Rattle.script_read.specs.Classes.{is_text, is_skipped, begins_with_colon, session_word, number_part, is_session, IsSession, is_schedule}
use Rattle.script_read.specs.Faults.{Place, InFront, Within, Scheduled, place_behind, session_fault, form_fault, fault_of, or_later, first_fault}
use Rattle.script_read.specs.Limit.{Batch, batches, IsPast}
use Rattle.script_read.specs.Refusal.{IsFirst, by_form, IsFirstOf, Refuses}
use Rattle.script_read.specs.Script.{none, schedule, AreSessions}
use Rattle.script_read.specs.Steps.{later, is_over, ReadsSession, ReadsPicks, place_at, is_front, is_front_over, is_behind, IsLast, no_line, schedule_line, BeginsSession, RefusesLater, ReadsSessions, ReadsLast}
use Rattle.script_read.proofs.BoolLemmas.{clash, both_hold, both, is_false}
use Rattle.script_read.proofs.Batches.{later_from, past_from}
use Rattle.script_read.proofs.Sessions.{first_on}
use Rattle.script_read.proofs.Takings.{all_push}

-- lines in front were taken
pub record Skipping (number : ℕ) (old : List (List ℕ)) (next : ℕ) (new : List (List ℕ)) : Type 0 where
  pub front : List (List ℕ)
  pub split : old ≡ front ++ new
  pub skipped : list_all is_front front ≡ true
  pub next_is : next ≡ number + length front

-- one line more was taken
pub skip_more : (number next : ℕ) (old here rest : List (List ℕ)) (line : List ℕ) → Skipping number old next here → here ≡ line ∷ rest → is_front line ≡ true → Skipping number old (next + 1) rest
skip_more number next old here rest line h e is = record {
  front = h.front ++ line ∷ [];
  split = h.split ∙ ap (λ (ls : List (List ℕ)). h.front ++ ls) e ∙ sym (append_assoc h.front (line ∷ []) rest);
  skipped = all_push is_front h.front line h.skipped is;
  next_is = rw h.next_is (simp length-append (omega arith));
}

front_by : (v : Bool) (b : ℕ) (bs : List ℕ) → (58 == b) ≡ v → is_skipped (b ∷ bs) ≡ true → is_session (b ∷ bs) ≡ false
front_by true b bs e h = let same : 58 ≡ b = eqb-true 58 b e in absurd (clash (is_skipped (b ∷ bs)) h (ap (λ c. is_skipped (c ∷ bs)) (sym same)))
front_by false b bs e h = rw e refl

-- a line in front begins no session
pub front_plain : (line : List ℕ) → is_skipped line ≡ true → is_session line ≡ false
front_plain [] h = refl
front_plain (b ∷ bs) h = front_by (58 == b) b bs refl h

-- what stands in front can stand there, and leads on
pub front_form : (number : ℕ) (front rest : List (List ℕ)) → list_all is_front front ≡ true → first_fault InFront number (front ++ rest) ≡ first_fault InFront (number + length front) rest
front_form number [] rest h = rw add-zero refl
front_form number (line ∷ front) rest h =
    let parts = both_hold (is_front line) (list_all is_front front) h in
    let here = both_hold (is_text line) (is_skipped line) parts.0 in
    let same : number + suc (length front) ≡ number + 1 + length front = omega arith in
    rw (here.0, here.1, front_plain line here.1, same) (front_form (number + 1) front rest parts.1)

-- what stands in front has no batches
pub front_batches : (number : ℕ) (front rest : List (List ℕ)) → list_all is_front front ≡ true → batches InFront number (front ++ rest) ≡ batches InFront (number + length front) rest
front_batches number [] rest h = rw add-zero refl
front_batches number (line ∷ front) rest h =
    let parts = both_hold (is_front line) (list_all is_front front) h in
    let here = both_hold (is_text line) (is_skipped line) parts.0 in
    let same : number + suc (length front) ≡ number + 1 + length front = omega arith in
    rw (front_plain line here.1, same) (front_batches (number + 1) front rest parts.1)

-- before the first session no batch is open
pub front_later : (number : ℕ) (lines : List (List ℕ)) → batches InFront number lines ≡ later InFront number lines
front_later number [] = refl
front_later number (line ∷ lines) = refl

-- a line that can't stand behind a batch is refused
pub later_refused : (place : Place) (said number : ℕ) (lines rest : List (List ℕ)) (line : List ℕ) (w : Why) → lines ≡ line ∷ rest → Some w ≡ fault_of place line → RefusesLater place said number lines (Refused number w)
later_refused place said number lines rest line w e f =
    by_form number w (ap (first_fault place number) e ∙ ap (λ (o : Option Why). or_later number o (first_fault (place_behind place line) (number + 1) rest)) (sym f))
    (λ m p. past_from said number m (later place number lines) (later_from place number lines) p)

text_by : (v : Bool) (place : Place) (line : List ℕ) → is_text line ≡ v → fault_of place line ≡ None → (is_text line ≡ true) × (form_fault place line ≡ None)
text_by true place line e h = (e, rw e at h)
text_by false place line e h = cc (rw e at h)

-- a line without a fault is text
pub text_of : (place : Place) (line : List ℕ) → fault_of place line ≡ None → (is_text line ≡ true) × (form_fault place line ≡ None)
text_of place line h = text_by (is_text line) place line refl h

front_last : (v w : Bool) (line : List ℕ) → is_skipped line ≡ v → is_session line ≡ w → form_fault InFront line ≡ None → is_session line ≡ false → is_skipped line ≡ true
front_last true w line e f h i = e
front_last false true line e f h i = absurd (clash (is_session line) f i)
front_last false false line e f h i = cc (rw (e, f) at h)

directive_by : (v : Bool) (n : ℕ) (line : List ℕ) → is_schedule line ≡ v → begins_with_colon line ≡ true → is_session line ≡ false → form_fault (Within n) line ≡ None → is_schedule line ≡ true
directive_by true n line e f g h = e
directive_by false n line e f g h = cc (rw (f, g, e) at h)

some_by : (n : ℕ) → (n == 0) ≡ false → 1 ≤ n
some_by zero e = cc
some_by (suc n) e = omega arith

last_by : (v : Bool) (n : ℕ) (line : List ℕ) (rest : List (List ℕ)) → (n == 0) ≡ v → is_behind n (line ∷ rest) ≡ true → fault_of (place_at n) line ≡ None → is_session line ≡ false → IsLast n (line ∷ rest)
last_by true n line rest e h f g =
    let parts = text_of InFront line (rw e at f) in
    let skipped : is_skipped line ≡ true = front_last (is_skipped line) (is_session line) line refl refl parts.1 g in
    let front : is_front line ≡ true = both (is_text line) (is_skipped line) parts.0 skipped in
    cc (rw (e, front) at h)
last_by false n line rest e h f g =
    let parts = text_of (Within n) line (rw e at f) in
    let colon : begins_with_colon line ≡ true = rw e at h in
    let some : 1 ≤ n = some_by n e in
    schedule_line line rest (directive_by (is_schedule line) n line refl colon g parts.1) f some

-- where no session begins, the schedule does, or nothing
pub last_is : (n : ℕ) (lines rest : List (List ℕ)) (line : List ℕ) → lines ≡ line ∷ rest → is_behind n lines ≡ true → fault_of (place_at n) line ≡ None → is_session line ≡ false → IsLast n lines
last_is n lines rest line e h f g =
    subst (λ (ls : List (List ℕ)). IsLast n ls) (sym e) (last_by (n == 0) n line rest refl (subst (λ (ls : List (List ℕ)). is_behind n ls ≡ true) e h) f g)

-- where no line is left nothing comes
pub last_none : (n : ℕ) (lines : List (List ℕ)) → lines ≡ [] → IsLast n lines
last_none n lines e = subst (λ (ls : List (List ℕ)). IsLast n ls) (sym e) no_line

-- no session was read
pub sessions_none : (number : ℕ) (old : List (List ℕ)) → ReadsSessions [] number old number old
sessions_none number old = record { spelled = λ more picks h. h; form = refl; past = λ m p. p; back = λ m p. p; few = omega arith; short = omega arith }

-- one more than a number is not 0
pub not_zero : (n : ℕ) → (n + 1 == 0) ≡ false
not_zero n = is_false (n + 1 == 0) (λ e. let same : n + 1 ≡ 0 = eqb-true (n + 1) 0 e in absurd (omega (arith, same)))

-- behind a session that begins, lines stand in it
pub place_more : (n : ℕ) → place_at (n + 1) ≡ Within (n + 1)
place_more n = rw not_zero refl

-- the number of a session's line
number_by : (v w : Bool) (n : ℕ) (line : List ℕ) → (number_of (number_part line) == n + 1) ≡ v → nat_lt n 64 ≡ w → session_fault n line ≡ None → (number_of (number_part line) ≡ n + 1) × (n + 1 ≤ 64)
number_by true true n line e f h = (eqb-true _ _ e, omega (arith, ltb-true n 64 f))
number_by true false n line e f h = cc (rw (e, f) at h)
number_by false w n line e f h = cc (rw e at h)

colon_by : (v : Bool) (b : ℕ) (bs : List ℕ) → (58 == b) ≡ v → is_session (b ∷ bs) ≡ true → (b == 58) ≡ true
colon_by true b bs e h = let same : 58 ≡ b = eqb-true 58 b e in rw (← same) refl
colon_by false b bs e h = cc (rw e at h)

-- a session begins with a colon
pub session_colon : (line : List ℕ) → is_session line ≡ true → begins_with_colon line ≡ true
session_colon [] h = cc
session_colon (b ∷ bs) h = colon_by (58 == b) b bs refl h

skipped_by : (v : Bool) (line : List ℕ) → is_skipped line ≡ v → is_session line ≡ true → is_skipped line ≡ false
skipped_by true line e h = absurd (clash (is_session line) h (front_plain line e))
skipped_by false line e h = e

form_by : (v : Bool) (n : ℕ) (line : List ℕ) → (n == 0) ≡ v → is_session line ≡ true → fault_of (place_at n) line ≡ None → session_fault n line ≡ None
form_by true n line e h f =
    let parts = text_of InFront line (rw e at f) in
    let zero : n ≡ 0 = eqb-true n 0 e in
    rw zero (rw (skipped_by (is_skipped line) line refl h, h) at parts.1)
form_by false n line e h f =
    let parts = text_of (Within n) line (rw e at f) in
    rw (session_colon line h, h) at parts.1

-- a session that can begin has the next number
pub heading_number : (n : ℕ) (line : List ℕ) → is_session line ≡ true → fault_of (place_at n) line ≡ None → (number_of (number_part line) ≡ n + 1) × (n + 1 ≤ 64)
heading_number n line h f = number_by (number_of (number_part line) == n + 1) (nat_lt n 64) n line refl refl (form_by (n == 0) n line refl h f)

behind_by : (v : Bool) (n : ℕ) (line : List ℕ) → (n == 0) ≡ v → is_session line ≡ true → place_behind (place_at n) line ≡ Within (n + 1)
behind_by true n line e h = let zero : n ≡ 0 = eqb-true n 0 e in rw (zero, h) refl
behind_by false n line e h = rw (e, session_colon line h, h) refl

-- behind a session's line the session stands
pub behind_heading : (n : ℕ) (line : List ℕ) → is_session line ≡ true → place_behind (place_at n) line ≡ Within (n + 1)
behind_heading n line h = behind_by (n == 0) n line refl h

-- a session's line is written so
pub heading_is : (n : ℕ) (line : List ℕ) → is_session line ≡ true → number_of (number_part line) ≡ n → IsSession n line
heading_is n line h e =
    let parts = both_hold (starts_with nat_eq line session_word) (is_decimal (number_part line)) h in
    record { digits = number_part line; line_is = (starts_is Decides-eqb line session_word (starts_with nat_eq line session_word) refl).0 parts.0; number = record { form = parts.1; value = e } }

-- behind a session's line its lines come
pub place_form : (n number : ℕ) (line : List ℕ) (rest : List (List ℕ)) → is_session line ≡ true → fault_of (place_at n) line ≡ None
    → first_fault (place_at n) number (line ∷ rest) ≡ first_fault (Within (n + 1)) (number + 1) rest
place_form n number line rest h f =
    ap (λ (o : Option Why). or_later number o (first_fault (place_behind (place_at n) line) (number + 1) rest)) f ∙ ap (λ (p : Place). first_fault p (number + 1) rest) (behind_heading n line h)

-- behind a session's line its batches come
pub place_later : (n number : ℕ) (line : List ℕ) (rest : List (List ℕ)) → is_session line ≡ true → later (place_at n) number (line ∷ rest) ≡ batches (Within (n + 1)) (number + 1) rest
place_later n number line rest h = ap (λ (p : Place). batches p (number + 1) rest) (behind_heading n line h)

-- what is refused of a session is refused where its line begins
pub heading_refused : (n said number next : ℕ) (lines rest : List (List ℕ)) (e : ScriptRefusal) → BeginsSession true n number lines next rest → Refuses (Within (n + 1)) said next rest e
    → RefusesLater (place_at n) said number lines e
heading_refused n said number next lines rest Memory b r = tt
heading_refused n said number next lines rest (Refused line w) (heading, split, is, f, at) r =
    let there : IsFirst (first_fault (place_at n) number (heading ∷ rest)) (IsPast said (later (place_at n) number (heading ∷ rest))) line w
    = first_on (first_fault (place_at n) number (heading ∷ rest)) (first_fault (Within (n + 1)) (number + 1) rest) _ _ line w (place_form n number heading rest is f)
    (λ m p. subst (λ (bs : List Batch). IsPast said bs m) (place_later n number heading rest is) p)
    (λ m p. subst (λ (bs : List Batch). IsPast said bs m) (sym (place_later n number heading rest is)) p)
    (subst (λ k. IsFirstOf (Within (n + 1)) said k rest line w) at r) in
    subst (λ (ls : List (List ℕ)). IsFirst (first_fault (place_at n) number ls) (IsPast said (later (place_at n) number ls)) line w) (sym split) there

-- what is refused behind sessions is refused of the script
pub sessions_refused : (scripts : List (List Stmt)) (number next : ℕ) (old here : List (List ℕ)) (e : ScriptRefusal) → ReadsSessions scripts number old next here
    → RefusesLater (place_at (length scripts)) (sum_by length scripts) next here e → RefusesLater InFront 0 number old e
sessions_refused scripts number next old here Memory h r = tt
sessions_refused scripts number next old here (Refused line w) h r = first_on _ _ _ _ line w h.form h.past h.back r

over_behind : (n : ℕ) (lines : List (List ℕ)) → is_over lines ≡ true → is_behind (n + 1) lines ≡ true
over_behind n lines h = rw not_zero h

-- a session more was read
pub sessions_more : (scripts : List (List Stmt)) (stmts : List Stmt) (said number mid next last : ℕ) (old here rest new : List (List ℕ)) → ReadsSessions scripts number old mid here
    → BeginsSession true (length scripts) mid here next rest → said ≡ sum_by length scripts → ReadsSession said stmts next rest last new
    → ReadsSessions (scripts ++ stmts ∷ []) number old last new
sessions_more scripts stmts said number mid next last old here rest new h (heading, split, is, f, at) e r =
    let n : ℕ = length scripts in
    let number_is = heading_number n heading is f in
    let long : length (scripts ++ stmts ∷ []) ≡ n + 1 = simp length-append refl in
    let sum : sum_by length (scripts ++ stmts ∷ []) ≡ said + length stmts = omega (arith, sum_by-append length scripts (stmts ∷ []), sum_by-cons length stmts [], e) in
    let place : place_at (length (scripts ++ stmts ∷ [])) ≡ Within (n + 1) = ap place_at long ∙ place_more n in
    let session : IsSession (n + 1) heading = heading_is (n + 1) heading is number_is.0 in
    record {
      spelled = λ more picks k. subst (λ (ss : List (List Stmt)). AreSessions 0 old ss picks) (sym (append_assoc scripts (stmts ∷ []) more))
          (h.spelled (stmts ∷ more) picks (heading, r.body, new, split ∙ ap (λ (ls : List (List ℕ)). heading ∷ ls) r.split, session, r.is, subst (λ j. AreSessions j new more picks) long k));
      form = h.form ∙ ap (first_fault (place_at n) mid) split ∙ place_form n mid heading rest is f ∙ ap (λ k. first_fault (Within (n + 1)) k rest) (sym at) ∙ r.form (n + 1) ∙ ap (λ (p : Place). first_fault p last new) (sym place);
      past = λ m p.
          let one : IsPast said (later (place_at n) mid (heading ∷ rest)) m = rw e (subst (λ (ls : List (List ℕ)). IsPast (sum_by length scripts) (later (place_at n) mid ls) m) split (h.past m p)) in
          let two : IsPast said (batches (Within (n + 1)) next rest) m = rw at (subst (λ (bs : List Batch). IsPast said bs m) (place_later n mid heading rest is) one) in
          rw (sum, place) (r.past (n + 1) m two);
      back = λ m p.
          let two : IsPast said (batches (Within (n + 1)) next rest) m = r.back (n + 1) m (rw (sum, place) at p) in
          let one : IsPast said (later (place_at n) mid (heading ∷ rest)) m = subst (λ (bs : List Batch). IsPast said bs m) (sym (place_later n mid heading rest is)) (rw at at two) in
          h.back m (subst (λ (ls : List (List ℕ)). IsPast (sum_by length scripts) (later (place_at n) mid ls) m) (sym split) (rw e at one));
      few = rw long number_is.1;
      short = rw sum r.few;
    }

-- the line that begins the schedule
pub schedule_place : (n : ℕ) (line : List ℕ) → is_schedule line ≡ true → 1 ≤ n → place_behind (place_at n) line ≡ Scheduled n 0
schedule_place n line h some =
    let plain : (n == 0) ≡ false = is_false (n == 0) (λ e. let zero : n ≡ 0 = eqb-true n 0 e in absurd (omega (arith, zero, some))) in
    let same : line ≡ codes ":schedule" = (bytes_eq-Decides line (codes ":schedule")).0 h in
    rw (plain, same) refl

-- behind the schedule's line its lines come
pub schedule_form : (n number : ℕ) (line : List ℕ) (rest : List (List ℕ)) → is_schedule line ≡ true → 1 ≤ n → fault_of (place_at n) line ≡ None
    → first_fault (place_at n) number (line ∷ rest) ≡ first_fault (Scheduled n 0) (number + 1) rest
schedule_form n number line rest h some f =
    ap (λ (o : Option Why). or_later number o (first_fault (place_behind (place_at n) line) (number + 1) rest)) f ∙ ap (λ (p : Place). first_fault p (number + 1) rest) (schedule_place n line h some)

-- where no line is left there are no picks
pub last_read_none : (n number : ℕ) (lines : List (List ℕ)) (picks : List Pick) → lines ≡ [] → picks ≡ [] → ReadsLast n number lines picks
last_read_none n number lines picks e f = rw (e, f) (record { form = refl; is = none; few = omega arith })

-- behind its line the schedule was read
pub last_read : (n number : ℕ) (lines rest : List (List ℕ)) (line : List ℕ) (picks : List Pick) → IsLast n lines → lines ≡ line ∷ rest → ReadsPicks n (number + 1) rest picks → ReadsLast n number lines picks
last_read n number lines rest line picks no_line e r = cc
last_read n number lines rest line picks (schedule_line l ls h f some) e r =
    let tail : ls ≡ rest = cc in
    let same : l ≡ codes ":schedule" = (bytes_eq-Decides l (codes ":schedule")).0 h in
    let there : ReadsPicks n (number + 1) ls picks = rw tail r in
    record {
      form = schedule_form n number l ls h some f ∙ there.form;
      is = rw same (schedule ls picks some there.lines_are);
      few = there.few;
    }

-- what is refused of the schedule is refused where its line stands
pub last_refused : (n said number : ℕ) (lines rest : List (List ℕ)) (line : List ℕ) (e : ScriptRefusal) → IsLast n lines → lines ≡ line ∷ rest → Refuses (Scheduled n 0) 0 (number + 1) rest e
    → RefusesLater (place_at n) said number lines e
last_refused n said number lines rest line Memory k e r = tt
last_refused n said number lines rest line (Refused at w) no_line e r = cc
last_refused n said number lines rest line (Refused at w) (schedule_line l ls h f some) e r =
    let tail : ls ≡ rest = cc in
    let there : IsFirstOf (Scheduled n 0) 0 (number + 1) ls at w = rw tail r in
    let bs : later (place_at n) number (l ∷ ls) ≡ [] = ap (λ (p : Place). batches p (number + 1) ls) (schedule_place n l h some) in
    first_on (first_fault (place_at n) number (l ∷ ls)) (first_fault (Scheduled n 0) (number + 1) ls) _ _ at w (schedule_form n number l ls h some f)
    (λ m p. subst (λ (cs : List Batch). IsPast said cs m) bs p) (λ m p. absurd p) there

-- the value of an option that is no value
pub none_of : {X : Type 0} (o : Option X) → ((x : X) → o ≡ Some x → ⊥) → o ≡ None
none_of None h = refl
none_of (Some x) h = absurd (h x refl)

-- so many sessions and statements were read, and no line of the last session is left
pub record AtHeading (scripts : List (List Stmt)) (said number : ℕ) (old : List (List ℕ)) (next : ℕ) (new : List (List ℕ)) : Type 0 where
  pub sessions : ReadsSessions scripts number old next new
  pub behind : is_behind (length scripts) new ≡ true
  pub counted : said ≡ sum_by length scripts

-- before the first session none was read
pub heading_none : (number : ℕ) (old : List (List ℕ)) → is_front_over old ≡ true → AtHeading [] 0 number old number old
heading_none number old h = record { sessions = sessions_none number old; behind = h; counted = refl }

heading_few : (n number next : ℕ) (lines rest : List (List ℕ)) → BeginsSession true n number lines next rest → n + 1 ≤ 64
heading_few n number next lines rest (heading, split, is, f, at) = (heading_number n heading is f).1

-- a session that begins has room
pub heading_room : (scripts : List (List Stmt)) (began : Bool) (count number next : ℕ) (lines rest : List (List ℕ)) → began ≡ true → count ≡ length scripts → BeginsSession began count number lines next rest → length scripts < 64
heading_room scripts began count number next lines rest e f b = omega (arith, heading_few (length scripts) number next lines rest (rw (e, f) at b))

-- one session more was read
pub heading_more : (scripts : List (List Stmt)) (stmts : List Stmt) (began : Bool) (count len said number mid next last : ℕ) (old here rest new : List (List ℕ)) → AtHeading scripts said number old mid here
    → began ≡ true → count ≡ length scripts → BeginsSession began count mid here next rest → ReadsSession said stmts next rest last new → len ≡ length stmts
    → AtHeading (scripts ++ stmts ∷ []) (said + len) number old last new
heading_more scripts stmts began count len said number mid next last old here rest new h e f b r g =
    let begins : BeginsSession true (length scripts) mid here next rest = rw (e, f) at b in
    let long : length (scripts ++ stmts ∷ []) ≡ length scripts + 1 = simp length-append refl in
    record {
      sessions = sessions_more scripts stmts said number mid next last old here rest new h.sessions begins h.counted r;
      behind = rw long (over_behind (length scripts) new r.over);
      counted = omega (arith, sum_by-append length scripts (stmts ∷ []), sum_by-cons length stmts [], h.counted, g);
    }

-- a refusal of the line that begins a session, or of the session behind it
pub heading_refuses : (scripts : List (List Stmt)) (count said number mid : ℕ) (old here : List (List ℕ)) (e : ScriptRefusal) → AtHeading scripts said number old mid here → count ≡ length scripts
    → ((all : ℕ) → RefusesLater (place_at count) all mid here e) → RefusesLater InFront 0 number old e
heading_refuses scripts count said number mid old here e h f r = sessions_refused scripts number mid old here e h.sessions (rw f at (r (sum_by length scripts)))

-- what is refused of a session is refused of the script
pub session_refuses : (scripts : List (List Stmt)) (began : Bool) (count said number mid next : ℕ) (old here rest : List (List ℕ)) (e : ScriptRefusal) → AtHeading scripts said number old mid here
    → began ≡ true → count ≡ length scripts → BeginsSession began count mid here next rest → ((n : ℕ) → Refuses (Within n) said next rest e) → RefusesLater InFront 0 number old e
session_refuses scripts began count said number mid next old here rest e h g f b r =
    let n : ℕ = length scripts in
    let begins : BeginsSession true n mid here next rest = rw (g, f) at b in
    sessions_refused scripts number mid old here e h.sessions (subst (λ k. RefusesLater (place_at n) k mid here e) h.counted (heading_refused n said mid next here rest e begins (r (n + 1))))

-- a session's line isn't skipped
pub skipped_no : (line : List ℕ) → is_session line ≡ true → is_skipped line ≡ false
skipped_no line h = skipped_by (is_skipped line) line refl h

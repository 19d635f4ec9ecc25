-- No line of a script is refused.
use Rattle.std.proofs.Common.{◌≡◌, ℕ, suc, ◌+◌, ◌-◌, ◌<◌, ◌≤◌, Bool, true, false, List, [], ◌∷◌, ◌++◌, length, map, arith, ap, sym, ◌∙◌, refl, subst, add-zero, length-append, inl, inr, ◌⊎◌, Option, eq-eqb, append-nil}
use Rattle.std.specs.Prelude.{Some, None, ◌==◌, nat_le, nat_lt, sum_by, codes}
use Rattle.std.specs.List.{list_all, slice_split}
use Rattle.std.proofs.lemmas.Bool.{le-leb, lt-ltb, eqb-true}
use Rattle.std.proofs.lemmas.List.Folds.{list_all-append}
use Rattle.std.proofs.lemmas.List.Sums.{sum_by-cons}
use Rattle.plain_model.specs.declared.stmt.Stmt.{Stmt}
use Rattle.plain_model.specs.declared.pick.Pick.{Pick}
use Rattle.script_read.specs.declared.refusal.Why.{Why}
use Rattle.script_read.specs.declared.refusal.ScriptRefusal.{ScriptRefusal}
use Rattle.script_read.specs.declared.refusal.ScriptRefusal.TheVariants.{Refused, Memory}
use Rattle.script_read.specs.Lines.{lines_of, joined}
use Rattle.script_read.specs.Decimal.{number_of}
use Rattle.script_read.specs.Classes.{is_text, is_skipped, begins_with_colon, is_go, number_part, is_session, IsSession}
use Rattle.script_read.specs.Picks.{picks_on}
use Rattle.script_read.specs.Taking.{first_is_inner}
use Rattle.script_read.specs.Faults.{Place, InFront, Within, Scheduled, place_behind, session_fault, fault_of, Fault, fault, or_later, first_fault}
use Rattle.script_read.specs.Limit.{Batch, batch_at, grown, batches, Begins, IsPast}
use Rattle.script_read.specs.Refusal.{IsFirst, by_form, by_count, IsFirstOf, IsRefusal}
use Rattle.script_read.specs.Script.{SayAll, ArePickLines, IsSchedule, none, schedule, AreSessions, IsScript}
use Rattle.script_read.specs.Steps.{later, is_over, place_at, is_front, SkipsFront, RefusesLater, ReadsSessions, ReadsLast}
use Rattle.script_read.proofs.BoolLemmas.{both_hold, both, is_false, not_true}
use Rattle.script_read.proofs.Batches.{batches_split, says_as_many}
use Rattle.script_read.proofs.Sessions.{is_plain, HasFirst, has_first, first_on}
use Rattle.script_read.proofs.Written.{on_found}
use Rattle.script_read.proofs.Whole.{place_more, place_form, place_later, schedule_form, schedule_place, front_form, front_batches, front_later, session_colon, skipped_no, text_of, sessions_refused}

-- lines of picks can stand in the schedule
pick_lines_form : (n before number : ℕ) (lines : List (List ℕ)) (picks : List Pick) → ArePickLines n lines picks → list_all is_text lines ≡ true → before + length picks ≤ 1000000
    → first_fault (Scheduled n before) number lines ≡ None
pick_lines_form n before number [] picks h text few = refl
pick_lines_form n before number (line ∷ lines) picks (first, rest, split, has, others) text few =
    let parts = both_hold (is_text line) (list_all is_text lines) text in
    let on : picks_on n line ≡ Some first = on_found n line first has in
    let long : length picks ≡ length first + length rest = ap length split ∙ length-append first rest in
    let fits : nat_le (before + length first) 1000000 ≡ true = le-leb _ _ (omega (arith, few, long)) in
    rw (parts.0, on, fits) (pick_lines_form n (before + length first) (number + 1) lines rest others parts.1 (omega (arith, few, long)))

-- a session's line has its form, and can stand
pub heading_found : (n : ℕ) (line : List ℕ) → IsSession n line → (is_session line ≡ true) × (number_of (number_part line) ≡ n)
heading_found n line h = rw h.line_is (h.number.form, h.number.value)

session_ok : (n : ℕ) (line : List ℕ) → number_of (number_part line) ≡ n + 1 → n + 1 ≤ 64 → session_fault n line ≡ None
session_ok n line e few =
    let same : (number_of (number_part line) == n + 1) ≡ true = eq-eqb (number_of (number_part line)) (n + 1) e in
    let below : nat_lt n 64 ≡ true = lt-ltb n 64 (omega (arith, few)) in
    rw (same, below) refl

heading_by : (v : Bool) (n : ℕ) (line : List ℕ) → (n == 0) ≡ v → is_session line ≡ true → is_text line ≡ true → session_fault n line ≡ None → fault_of (place_at n) line ≡ None
heading_by true n line e h text ok = let zero : n ≡ 0 = eqb-true n 0 e in let first : session_fault 0 line ≡ None = subst (λ k. session_fault k line ≡ None) zero ok in rw (e, text, skipped_no line h, h) first
heading_by false n line e h text ok = rw (e, text, session_colon line h, h) ok

-- lines of a session can stand in it
body_form : (n number : ℕ) (body rest : List (List ℕ)) → list_all is_plain body ≡ true → list_all is_text body ≡ true → first_fault (Within n) number (body ++ rest) ≡ first_fault (Within n) (number + length body) rest
body_form n number [] rest plain text = rw add-zero refl
body_form n number (line ∷ body) rest plain text =
    let parts = both_hold (is_plain line) (list_all is_plain body) plain in
    let texts = both_hold (is_text line) (list_all is_text body) text in
    let same : number + suc (length body) ≡ number + 1 + length body = omega arith in
    rw (texts.0, not_true (begins_with_colon line) parts.0, same) (body_form n (number + 1) body rest parts.1 texts.1)

text_parts : (front rest : List (List ℕ)) → list_all is_text (front ++ rest) ≡ true → (list_all is_text front ≡ true) × (list_all is_text rest ≡ true)
text_parts front rest h = both_hold (list_all is_text front) (list_all is_text rest) (sym (list_all-append is_text front rest) ∙ h)

schedule_ok : (n : ℕ) → 1 ≤ n → fault_of (place_at n) (codes ":schedule") ≡ None
schedule_ok n some =
    let plain : (n == 0) ≡ false = is_false (n == 0) (λ e. let zero : n ≡ 0 = eqb-true n 0 e in absurd (omega (arith, zero, some))) in
    rw plain refl

last_form : (n number : ℕ) (lines : List (List ℕ)) (picks : List Pick) → IsSchedule n lines picks → list_all is_text lines ≡ true → length picks ≤ 1000000 → first_fault (place_at n) number lines ≡ None
last_form n number lines picks none text few = refl
last_form n number lines picks (schedule ls ps some are) text few =
    schedule_form n number (codes ":schedule") ls refl some (schedule_ok n some)
    ∙ pick_lines_form n 0 (number + 1) ls ps are (both_hold (is_text (codes ":schedule")) (list_all is_text ls) text).1 (omega (arith, few))

sessions_form : (n number : ℕ) (lines : List (List ℕ)) (scripts : List (List Stmt)) (picks : List Pick) → AreSessions n lines scripts picks → list_all is_text lines ≡ true → n + length scripts ≤ 64
    → length picks ≤ 1000000 → first_fault (place_at n) number lines ≡ None
sessions_form n number lines [] picks h text few played = last_form n number lines picks h text played
sessions_form n number lines (stmts ∷ scripts) picks (heading, body, rest, split, session, is, others) text few played =
    let whole : list_all is_text (heading ∷ body ++ rest) ≡ true = ap (list_all is_text) (sym split) ∙ text in
    let one = both_hold (is_text heading) (list_all is_text (body ++ rest)) whole in
    let two = text_parts body rest one.1 in
    let found = heading_found (n + 1) heading session in
    let ok : fault_of (place_at n) heading ≡ None = heading_by (n == 0) n heading refl found.0 one.0 (session_ok n heading found.1 (omega (arith, few))) in
    ap (first_fault (place_at n) number) split ∙ place_form n number heading (body ++ rest) found.0 ok ∙ body_form (n + 1) (number + 1) body rest is.plain two.0
    ∙ ap (λ (p : Place). first_fault p (number + 1 + length body) rest) (sym (place_more n))
    ∙ sessions_form (n + 1) (number + 1 + length body) rest scripts picks others two.1 (omega (arith, few)) played

-- the batches of a session's lines
pub record Parted (n number : ℕ) (body rest : List (List ℕ)) : Type 0 where
  pub parts : List Batch
  pub is : batches (Within n) number (body ++ rest) ≡ parts ++ later (Within n) (number + length body) rest
  pub lines : map (λ b. b.lines) parts ≡ slice_split is_go body

over_stops : (lines : List (List ℕ)) → is_over lines ≡ true → first_is_inner lines ≡ false
over_stops [] h = refl
over_stops (line ∷ lines) h = rw h refl

grown_parts : (number : ℕ) (line : List ℕ) (parts more : List Batch) (first : List (List ℕ)) (others : List (List (List ℕ))) → map (λ b. b.lines) parts ≡ first ∷ others
    → (grown number line (parts ++ more) ≡ grown number line parts ++ more) × (map (λ b. b.lines) (grown number line parts) ≡ (line ∷ first) ∷ others)
grown_parts number line [] more first others e = cc
grown_parts number line (part ∷ parts) more first others e =
    let here : part.lines ≡ first = cc in
    let behind : map (λ b. b.lines) parts ≡ others = cc in
    (refl, rw (here, behind) refl)

parted_by : (v : Bool) (n number : ℕ) (line : List ℕ) (body rest : List (List ℕ)) → is_go line ≡ v → begins_with_colon line ≡ false → Parted n (number + 1) body rest → Parted n number (line ∷ body) rest
parted_by true n number line body rest e plain h =
    let same : number + suc (length body) ≡ number + 1 + length body = omega arith in
    record { parts = batch_at number [] ∷ h.parts; is = rw (plain, e, h.is, same) refl; lines = rw (e, h.lines) refl }
parted_by false n number line body rest e plain h =
    let same : number + suc (length body) ≡ number + 1 + length body = omega arith in
    let f : HasFirst (slice_split is_go body) = has_first body in
    let g = grown_parts number line h.parts (later (Within n) (number + 1 + length body) rest) f.first f.others (h.lines ∙ f.is) in
    record { parts = grown number line h.parts; is = rw (plain, e, h.is, same) g.0; lines = rw (e, f.is) g.1 }

parted : (n number : ℕ) (body rest : List (List ℕ)) → list_all is_plain body ≡ true → is_over rest ≡ true → Parted n number body rest
parted n number [] rest plain over = record { parts = batch_at number [] ∷ []; is = batches_split n number [] rest refl (over_stops rest over); lines = refl }
parted n number (line ∷ body) rest plain over =
    let parts = both_hold (is_plain line) (list_all is_plain body) plain in
    parted_by (is_go line) n number line body rest refl (not_true (begins_with_colon line) parts.0) (parted n (number + 1) body rest parts.1 over)

past_by : (said m : ℕ) (part : Batch) (more : List Batch) (us first : List Stmt) → length us ≡ length first → said + length first ≤ 20000
    → ((said + length us ≤ 20000) × IsPast (said + length us) more m) ⊎ ((20000 < said + length us) × Begins (joined part.lines) part.line (20000 - said) m) → IsPast (said + length first) more m
past_by said m part more us first e few (inl p) = subst (λ (k : ℕ). IsPast (said + k) more m) e p.1
past_by said m part more us first e few (inr p) = absurd (omega (arith, p.0, few, e))

-- batches that stay within the limit
past_over : (said m : ℕ) (parts more : List Batch) (stmts : List Stmt) → SayAll (map (λ b. b.lines) parts) stmts → said + length stmts ≤ 20000 → IsPast said (parts ++ more) m → IsPast (said + length stmts) more m
past_over said m [] more stmts h few p = rw (h, add-zero) p
past_over said m (part ∷ parts) more stmts (first, rest, split, says, others) few (us, says2, p) =
    let long : length stmts ≡ length first + length rest = ap length split ∙ length-append first rest in
    let same : length us ≡ length first = says_as_many (joined part.lines) us first says2 says in
    let sum : said + length first + length rest ≡ said + length stmts = omega (arith, long) in
    let on : IsPast (said + length first) (parts ++ more) m = past_by said m part (parts ++ more) us first same (omega (arith, few, long)) p in
    subst (λ k. IsPast k more m) sum (past_over (said + length first) m parts more rest others (omega (arith, few, long)) on)

-- sessions and a schedule begin with a colon, or there are none
pub sessions_over : (n : ℕ) (lines : List (List ℕ)) (scripts : List (List Stmt)) (picks : List Pick) → AreSessions n lines scripts picks → is_over lines ≡ true
sessions_over n lines [] picks none = refl
sessions_over n lines [] picks (schedule ls ps some are) = refl
sessions_over n lines (stmts ∷ scripts) picks (heading, body, rest, split, session, is, others) = rw split (session_colon heading (heading_found (n + 1) heading session).0)

last_past : (n said number m : ℕ) (lines : List (List ℕ)) (picks : List Pick) → IsSchedule n lines picks → IsPast said (later (place_at n) number lines) m → ⊥
last_past n said number m lines picks none p = absurd p
last_past n said number m lines picks (schedule ls ps some are) p =
    absurd (subst (λ (q : Place). IsPast said (batches q (number + 1) ls) m) (schedule_place n (codes ":schedule") refl some) p)

sessions_past : (n said number m : ℕ) (lines : List (List ℕ)) (scripts : List (List Stmt)) (picks : List Pick) → AreSessions n lines scripts picks → said + sum_by length scripts ≤ 20000
    → IsPast said (later (place_at n) number lines) m → ⊥
sessions_past n said number m lines [] picks h few p = last_past n said number m lines picks h p
sessions_past n said number m lines (stmts ∷ scripts) picks (heading, body, rest, split, session, is, others) few p =
    let sum : sum_by length (stmts ∷ scripts) ≡ length stmts + sum_by length scripts = sum_by-cons length stmts scripts in
    let found = heading_found (n + 1) heading session in
    let one : IsPast said (later (place_at n) number (heading ∷ body ++ rest)) m = subst (λ (ls : List (List ℕ)). IsPast said (later (place_at n) number ls) m) split p in
    let two : IsPast said (batches (Within (n + 1)) (number + 1) (body ++ rest)) m = subst (λ (bs : List Batch). IsPast said bs m) (place_later n number heading (body ++ rest) found.0) one in
    let h : Parted (n + 1) (number + 1) body rest = parted (n + 1) (number + 1) body rest is.plain (sessions_over (n + 1) rest scripts picks others) in
    let three : IsPast (said + length stmts) (later (Within (n + 1)) (number + 1 + length body) rest) m
    = past_over said m h.parts (later (Within (n + 1)) (number + 1 + length body) rest) stmts (subst (λ (ps : List (List (List ℕ))). SayAll ps stmts) (sym h.lines) is.says) (omega (arith, few, sum))
    (subst (λ (bs : List Batch). IsPast said bs m) h.is two) in
    sessions_past (n + 1) (said + length stmts) (number + 1 + length body) m rest scripts picks others (omega (arith, few, sum)) (subst (λ (q : Place). IsPast (said + length stmts) (later q (number + 1 + length body) rest) m) (sym (place_more n)) three)

fronts : (lines : List (List ℕ)) → list_all is_text lines ≡ true → list_all is_skipped lines ≡ true → list_all is_front lines ≡ true
fronts [] text skipped = refl
fronts (line ∷ lines) text skipped =
    let texts = both_hold (is_text line) (list_all is_text lines) text in
    let skips = both_hold (is_skipped line) (list_all is_skipped lines) skipped in
    both (is_front line) (list_all is_front lines) (both (is_text line) (is_skipped line) texts.0 skips.0) (fronts lines texts.1 skips.1)

-- no line of a script has a fault, and no statement passes the limit
pub script_form : (bytes : List ℕ) (scripts : List (List Stmt)) (picks : List Pick) → IsScript bytes scripts picks → first_fault InFront 1 (lines_of bytes) ≡ None
script_form bytes scripts picks h =
    let texts = text_parts h.front h.rest (ap (list_all is_text) (sym h.split) ∙ h.text) in
    ap (first_fault InFront 1) h.split ∙ front_form 1 h.front h.rest (fronts h.front texts.0 h.skipped)
    ∙ sessions_form 0 (1 + length h.front) h.rest scripts picks h.sessions texts.1 (omega (arith, h.few)) h.played

-- no statement of a script passes the limit
pub script_past : (bytes : List ℕ) (scripts : List (List Stmt)) (picks : List Pick) (m : ℕ) → IsScript bytes scripts picks → IsPast 0 (batches InFront 1 (lines_of bytes)) m → ⊥
script_past bytes scripts picks m h p =
    let texts = text_parts h.front h.rest (ap (list_all is_text) (sym h.split) ∙ h.text) in
    let bs : batches InFront 1 (lines_of bytes) ≡ later InFront (1 + length h.front) h.rest
    = ap (batches InFront 1) h.split ∙ front_batches 1 h.front h.rest (fronts h.front texts.0 h.skipped) ∙ front_later (1 + length h.front) h.rest in
    sessions_past 0 0 (1 + length h.front) m h.rest scripts picks h.sessions (omega (arith, h.short)) (subst (λ (cs : List Batch). IsPast 0 cs m) bs p)

-- a script has no line that is refused
pub no_script : (bytes : List ℕ) (line : ℕ) (why : Why) (scripts : List (List Stmt)) (picks : List Pick) → IsScript bytes scripts picks → IsFirstOf InFront 0 1 (lines_of bytes) line why → ⊥
no_script bytes line why scripts picks h (by_form l w form least) = let none : Some (fault l w) ≡ None = sym form ∙ script_form bytes scripts picks h in cc
no_script bytes line why scripts picks h (by_count l past least form) = script_past bytes scripts picks l h past

skips_form : (number next : ℕ) (lines new : List (List ℕ)) (h : SkipsFront number lines next new) → first_fault InFront number lines ≡ first_fault InFront next new
skips_form number next lines new h = ap (first_fault InFront number) h.split ∙ front_form number h.front new h.skipped ∙ ap (λ k. first_fault InFront k new) (sym h.next_is)

skips_later : (number next : ℕ) (lines new : List (List ℕ)) (h : SkipsFront number lines next new) → batches InFront number lines ≡ later InFront next new
skips_later number next lines new h =
    ap (batches InFront number) h.split ∙ front_batches number h.front new h.skipped ∙ ap (λ k. batches InFront k new) (sym h.next_is) ∙ front_later next new

first_of : (bytes : List ℕ) (number next at : ℕ) (lines new : List (List ℕ)) (why : Why) → lines ≡ lines_of bytes → number ≡ 1 → SkipsFront number lines next new
    → IsFirst (first_fault InFront next new) (IsPast 0 (later InFront next new)) at why → IsFirstOf InFront 0 1 (lines_of bytes) at why
first_of bytes number next at lines new why e f h r =
    let there : IsFirstOf InFront 0 number lines at why
    = first_on (first_fault InFront number lines) (first_fault InFront next new) _ _ at why (skips_form number next lines new h)
    (λ m p. subst (λ (bs : List Batch). IsPast 0 bs m) (skips_later number next lines new h) p)
    (λ m p. subst (λ (bs : List Batch). IsPast 0 bs m) (sym (skips_later number next lines new h)) p) r in
    subst (λ (ls : List (List ℕ)). IsFirstOf InFront 0 1 ls at why) e (subst (λ k. IsFirstOf InFront 0 k lines at why) f there)

-- what is refused behind the lines in front is refused of the bytes
pub script_refused : (bytes : List ℕ) (number next : ℕ) (lines new : List (List ℕ)) (e : ScriptRefusal) → lines ≡ lines_of bytes → number ≡ 1 → SkipsFront number lines next new → RefusesLater InFront 0 next new e → IsRefusal bytes e
script_refused bytes number next lines new Memory same one h r = tt
script_refused bytes number next lines new (Refused at why) same one h r =
    let first : IsFirstOf InFront 0 1 (lines_of bytes) at why = first_of bytes number next at lines new why same one h r in
    record { first = first; none = λ scripts picks is. no_script bytes at why scripts picks is first }

-- so it is of what is refused behind sessions
pub last_refuses : (bytes : List ℕ) (number next mid count : ℕ) (lines new here : List (List ℕ)) (scripts : List (List Stmt)) (e : ScriptRefusal) → lines ≡ lines_of bytes → number ≡ 1 → SkipsFront number lines next new
    → ReadsSessions scripts next new mid here → count ≡ length scripts → ((said : ℕ) → RefusesLater (place_at count) said mid here e) → IsRefusal bytes e
last_refuses bytes number next mid count lines new here scripts e same one h i long r =
    script_refused bytes number next lines new e same one h (sessions_refused scripts next mid new here e i (rw long at (r (sum_by length scripts))))

or_none : (number : ℕ) (o : Option Why) (rest : Option Fault) → or_later number o rest ≡ None → (o ≡ None) × (rest ≡ None)
or_none number None rest h = (refl, h)
or_none number (Some w) rest h = cc

-- where no line has a fault all are text
form_text : (place : Place) (number : ℕ) (lines : List (List ℕ)) → first_fault place number lines ≡ None → list_all is_text lines ≡ true
form_text place number [] h = refl
form_text place number (line ∷ lines) h =
    let parts = or_none number (fault_of place line) (first_fault (place_behind place line) (number + 1) lines) h in
    both (is_text line) (list_all is_text lines) (text_of place line parts.0).0 (form_text (place_behind place line) (number + 1) lines parts.1)

front_skipped : (lines : List (List ℕ)) → list_all is_front lines ≡ true → list_all is_skipped lines ≡ true
front_skipped [] h = refl
front_skipped (line ∷ lines) h =
    let parts = both_hold (is_front line) (list_all is_front lines) h in
    both (is_skipped line) (list_all is_skipped lines) (both_hold (is_text line) (is_skipped line) parts.0).1 (front_skipped lines parts.1)

-- what was read is a script
pub script_read : (bytes : List ℕ) (number next mid count : ℕ) (lines new here : List (List ℕ)) (scripts : List (List Stmt)) (picks : List Pick) → lines ≡ lines_of bytes → number ≡ 1 → SkipsFront number lines next new
    → ReadsSessions scripts next new mid here → count ≡ length scripts → ReadsLast count mid here picks → IsScript bytes scripts picks
script_read bytes number next mid count lines new here scripts picks same one h i long last =
    let last_is : ReadsLast (length scripts) mid here picks = rw long at last in
    let form : first_fault InFront number lines ≡ None = skips_form number next lines new h ∙ i.form ∙ last_is.form in
    record {
      front = h.front;
      rest = new;
      split = sym same ∙ h.split;
      text = ap (list_all is_text) (sym same) ∙ form_text InFront number lines form;
      skipped = front_skipped h.front h.skipped;
      sessions = subst (λ (ss : List (List Stmt)). AreSessions 0 new ss picks) (append-nil scripts) (i.spelled [] picks last_is.is);
      few = i.few;
      short = i.short;
      played = last_is.few;
    }

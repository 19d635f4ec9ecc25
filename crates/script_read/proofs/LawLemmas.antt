-- One reading, one refusal.
use Rattle.std.proofs.Common.{◌≡◌, ℕ, ◌+◌, Bool, true, List, [], ◌∷◌, ◌++◌, arith, ap, sym, ◌∙◌, refl, subst, Option}
use Rattle.std.specs.Prelude.{Some, not, codes, map}
use Rattle.sql_read.specs.Bare.{bare}
use Rattle.std.specs.List.{list_all, slice_split}
use Rattle.plain_model.specs.declared.stmt.Stmt.{Stmt}
use Rattle.plain_model.specs.declared.pick.Pick.{Pick}
use Rattle.script_read.specs.declared.refusal.Why.{Why}
use Rattle.script_read.specs.Lines.{joined}
use Rattle.script_read.specs.Classes.{is_skipped, is_go, is_session, IsSession}
use Rattle.script_read.specs.Faults.{Fault, fault}
use Rattle.script_read.specs.Refusal.{IsFirst, by_form, by_count}
use Rattle.script_read.specs.Script.{SayAll, ArePickLines, IsSchedule, none, schedule, AreSessions}
use Rattle.script_read.specs.Steps.{is_over}
use Rattle.script_read.specs.Laws.{HasOneReading, HasOneRefusal, ReadsAsWritten}
use Rattle.script_read.proofs.BoolLemmas.{clash, both_hold}
use Rattle.std.proofs.lemmas.List.{map-append}
use Rattle.script_read.proofs.Batches.{says_same}
use Rattle.script_read.proofs.Sessions.{is_plain}
use Rattle.script_read.proofs.Picking.{pick_is}
use Rattle.script_read.proofs.Written.{pick_found, on_found}
use Rattle.script_read.proofs.Whole.{skipped_no}
use Rattle.script_read.proofs.Exclusive.{heading_found, sessions_over}

first_one : (form : Option Fault) (past : ℕ → Type 0) (a b : ℕ) (v w : Why) → IsFirst form past a v → IsFirst form past b w → (a ≡ b) × (v ≡ w)
first_one form past a b v w (by_form l x e least) (by_form m y f least2) = let same : Some (fault l x) ≡ Some (fault m y) = sym e ∙ f in
    let fs : fault l x ≡ fault m y = cc in (ap (λ (g : Fault). g.line) fs, ap (λ (g : Fault). g.why) fs)
first_one form past a b v w (by_form l x e least) (by_count m p least2 before) = absurd (omega (arith, least m p, before (fault l x) e))
first_one form past a b v w (by_count l p least before) (by_form m y f least2) = absurd (omega (arith, least2 l p, before (fault m y) f))
first_one form past a b v w (by_count l p least before) (by_count m q least2 before2) = (omega (arith, least m q, least2 l p), refl)

-- bytes have one refusal
pub one_refusal : (bytes : List ℕ) → HasOneRefusal bytes
one_refusal bytes = λ a b v w h i. first_one _ _ a b v w h.first i.first

-- whether a list ends, or goes on with what fails the test
abbrev pub stops : (List ℕ → Bool) → List (List ℕ) → Bool
stops test [] = true
stops test (line ∷ lines) = not (test line)

-- lists that part where a test fails for the first time part in one way
seam : (test : List ℕ → Bool) (a b x y : List (List ℕ)) → list_all test a ≡ true → list_all test b ≡ true → stops test x ≡ true → stops test y ≡ true → a ++ x ≡ b ++ y → (a ≡ b) × (x ≡ y)
seam test [] [] x y h i j k e = (refl, e)
seam test [] (l ∷ b) x y h i j k e =
    let parts = both_hold (test l) (list_all test b) i in
    let here : stops test (l ∷ b ++ y) ≡ true = ap (stops test) (sym e) ∙ j in
    cc (rw parts.0 at here)
seam test (l ∷ a) [] x y h i j k e =
    let parts = both_hold (test l) (list_all test a) h in
    let here : stops test (l ∷ a ++ x) ≡ true = ap (stops test) e ∙ k in
    cc (rw parts.0 at here)
seam test (l ∷ a) (m ∷ b) x y h i j k e =
    let head : l ≡ m = cc in
    let tail : a ++ x ≡ b ++ y = cc in
    let rest = seam test a b x y (both_hold (test l) (list_all test a) h).1 (both_hold (test m) (list_all test b) i).1 j k tail in
    (rw (head, rest.0) refl, rest.1)

say_one : (parts : List (List (List ℕ))) (s t : List Stmt) → SayAll parts s → SayAll parts t → map bare s ≡ map bare t
say_one [] s t h i = ap (map bare) (h ∙ sym i)
say_one (part ∷ parts) s t (first, rest, split, says, others) (first2, rest2, split2, says2, others2) =
    let one : map bare first ≡ map bare first2 = says_same (joined part) first first2 says says2 in
    let more : map bare rest ≡ map bare rest2 = say_one parts rest rest2 others others2 in
    ap (map bare) split ∙ map-append bare first rest ∙ ap (λ us. us ++ map bare rest) one ∙ ap (λ us. map bare first2 ++ us) more ∙ sym (map-append bare first2 rest2) ∙ ap (map bare) (sym split2)

pick_lines_one : (n : ℕ) (lines : List (List ℕ)) (p q : List Pick) → ArePickLines n lines p → ArePickLines n lines q → p ≡ q
pick_lines_one n [] p q h i = h ∙ sym i
pick_lines_one n (line ∷ lines) p q (first, rest, split, has, others) (first2, rest2, split2, has2, others2) =
    let same : Some first ≡ Some first2 = sym (on_found n line first has) ∙ on_found n line first2 has2 in
    let one : first ≡ first2 = cc in
    let more : rest ≡ rest2 = pick_lines_one n lines rest rest2 others others2 in
    split ∙ ap (λ (u : List Pick). u ++ rest) one ∙ ap (λ (u : List Pick). first2 ++ u) more ∙ sym split2

schedule_one : (n : ℕ) (lines more : List (List ℕ)) (p q : List Pick) → lines ≡ more → IsSchedule n lines p → IsSchedule n more q → p ≡ q
schedule_one n lines more p q e none none = refl
schedule_one n lines more p q e none (schedule ls ps some are) = cc
schedule_one n lines more p q e (schedule ls ps some are) none = cc
schedule_one n lines more p q e (schedule ls ps some are) (schedule ks qs some2 are2) =
    let same : ls ≡ ks = cc in pick_lines_one n ks ps qs (subst (λ (x : List (List ℕ)). ArePickLines n x ps) same are) are2

-- the schedule's line begins no session
not_both : (n m : ℕ) (lines rest : List (List ℕ)) (heading : List ℕ) (picks : List Pick) → IsSchedule n lines picks → lines ≡ heading ∷ rest → IsSession m heading → ⊥
not_both n m lines rest heading picks none e h = cc
not_both n m lines rest heading picks (schedule ls ps some are) e h =
    let same : codes ":schedule" ≡ heading = cc in
    clash (is_session heading) (heading_found m heading h).0 (ap is_session (sym same))

over_plain : (lines : List (List ℕ)) → is_over lines ≡ true → stops is_plain lines ≡ true
over_plain [] h = refl
over_plain (line ∷ lines) h = rw h refl

-- what sessions say
pub record SameSessions (s t : List (List Stmt)) (p q : List Pick) : Type 0 where
  pub scripts : map (map bare) s ≡ map (map bare) t
  pub picks : p ≡ q

sessions_one : (n : ℕ) (lines : List (List ℕ)) (s t : List (List Stmt)) (p q : List Pick) → AreSessions n lines s p → AreSessions n lines t q → SameSessions s t p q
sessions_one n lines [] [] p q h i = record { scripts = refl; picks = schedule_one n lines lines p q refl h i }
sessions_one n lines [] (t ∷ ts) p q h (heading, body, rest, split, session, is, others) = absurd (not_both n (n + 1) lines (body ++ rest) heading p h split session)
sessions_one n lines (s ∷ ss) [] p q (heading, body, rest, split, session, is, others) i = absurd (not_both n (n + 1) lines (body ++ rest) heading q i split session)
sessions_one n lines (s ∷ ss) (t ∷ ts) p q (heading, body, rest, split, session, is, others) (heading2, body2, rest2, split2, session2, is2, others2) =
    let whole : heading ∷ body ++ rest ≡ heading2 ∷ body2 ++ rest2 = sym split ∙ split2 in
    let tail : body ++ rest ≡ body2 ++ rest2 = cc in
    let parts = seam is_plain body body2 rest rest2 is.plain is2.plain (over_plain rest (sessions_over (n + 1) rest ss p others)) (over_plain rest2 (sessions_over (n + 1) rest2 ts q others2)) tail in
    let one : map bare s ≡ map bare t = say_one (slice_split is_go body) s t is.says (subst (λ (b : List (List ℕ)). SayAll (slice_split is_go b) t) (sym parts.0) is2.says) in
    let more : SameSessions ss ts p q = sessions_one (n + 1) rest ss ts p q others (subst (λ (ls : List (List ℕ)). AreSessions (n + 1) ls ts q) (sym parts.1) others2) in
    record { scripts = rw (one, more.scripts) refl; picks = more.picks }

schedule_stops : (lines : List (List ℕ)) (picks : List Pick) → IsSchedule 0 lines picks → stops is_skipped lines ≡ true
schedule_stops lines picks none = refl
schedule_stops lines picks (schedule ls ps some are) = absurd (omega (arith, some))

rest_stops : (lines : List (List ℕ)) (scripts : List (List Stmt)) (picks : List Pick) → AreSessions 0 lines scripts picks → stops is_skipped lines ≡ true
rest_stops lines [] picks h = schedule_stops lines picks h
rest_stops lines (s ∷ ss) picks (heading, body, rest, split, session, is, others) = rw (split, skipped_no heading (heading_found 1 heading session).0) refl

-- bytes say one thing
pub one_reading : (bytes : List ℕ) → HasOneReading bytes
one_reading bytes = λ scripts others picks more h i.
    let parts = seam is_skipped h.front i.front h.rest i.rest h.skipped i.skipped (rest_stops h.rest scripts picks h.sessions) (rest_stops i.rest others more i.sessions) (sym h.split ∙ i.split) in
    let same : SameSessions scripts others picks more = sessions_one 0 h.rest scripts others picks more h.sessions (subst (λ (ls : List (List ℕ)). AreSessions 0 ls others more) (sym parts.1) i.sessions) in
    (same.scripts, same.picks)

-- a pick is read as it is written
pub as_written : (sessions : ℕ) (word : List ℕ) (pick : Pick) → ReadsAsWritten sessions word pick
as_written sessions word pick = record { written = pick_is sessions word pick; read = pick_found sessions word pick }

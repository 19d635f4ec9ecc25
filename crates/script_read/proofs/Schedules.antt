-- How the lines of a schedule follow one another.
use Rattle.std.proofs.Common.{◌≡◌, ℕ, ◌+◌, ◌≤◌, Bool, true, false, List, [], ◌∷◌, ◌++◌, length, arith, ap, sym, ◌∙◌, refl, subst, append_assoc, append-nil, length-append, Option}
use Rattle.std.specs.Prelude.{Some, None, nat_le}
use Rattle.std.proofs.lemmas.Bool.{leb-true}
use Rattle.plain_model.specs.declared.pick.Pick.{Pick}
use Rattle.script_read.specs.declared.refusal.Why.{Why}
use Rattle.script_read.specs.declared.refusal.ScriptRefusal.TheVariants.{Refused}
use Rattle.script_read.specs.Classes.{is_text}
use Rattle.script_read.specs.Picks.{picks_on}
use Rattle.script_read.specs.Faults.{Scheduled, pick_count, count_fault, fault_of, or_later, first_fault}
use Rattle.script_read.specs.Refusal.{by_form, Refuses}
use Rattle.script_read.specs.Script.{ArePickLines}
use Rattle.script_read.specs.Steps.{AddsLine, ReadsPicks}
use Rattle.script_read.proofs.Picking.{has_picks}

-- lines of the schedule were read
pub record Played (n number : ℕ) (old : List (List ℕ)) (picks : List Pick) (next : ℕ) (new : List (List ℕ)) : Type 0 where
  pub form : first_fault (Scheduled n 0) number old ≡ first_fault (Scheduled n (length picks)) next new
  pub lines : (more : List Pick) → ArePickLines n new more → ArePickLines n old (picks ++ more)
  pub few : length picks ≤ 1000000

count_by : (v : Bool) (n : ℕ) → nat_le n 1000000 ≡ v → count_fault n ≡ None → n ≤ 1000000
count_by true n e h = leb-true n 1000000 e
count_by false n e h = cc (rw e at h)

few_by : (v : Bool) (n before : ℕ) (line : List ℕ) (more : List Pick) → is_text line ≡ v → picks_on n line ≡ Some more → fault_of (Scheduled n before) line ≡ None → before + length more ≤ 1000000
few_by true n before line more e on h = count_by (nat_le (before + length more) 1000000) (before + length more) refl (rw (e, on) at h)
few_by false n before line more e on h = cc (rw e at h)

form_more : (n before next : ℕ) (line : List ℕ) (rest : List (List ℕ)) (more : List Pick) → picks_on n line ≡ Some more → fault_of (Scheduled n before) line ≡ None
    → first_fault (Scheduled n before) next (line ∷ rest) ≡ first_fault (Scheduled n (before + length more)) (next + 1) rest
form_more n before next line rest more on h =
    ap (λ (o : Option Why). or_later next o (first_fault (Scheduled n (before + pick_count (picks_on n line))) (next + 1) rest)) h
    ∙ ap (λ (o : Option (List Pick)). first_fault (Scheduled n (before + pick_count o)) (next + 1) rest) on

-- a line more was read
pub played_more : (n number next : ℕ) (old here rest : List (List ℕ)) (line : List ℕ) (picks new : List Pick) → Played n number old picks next here → here ≡ line ∷ rest → AddsLine None n line picks new
    → Played n number old new (next + 1) rest
played_more n number next old here rest line picks new h e a =
    let (more, on, is) = a.adds refl in
    let long : length picks + length more ≡ length new = sym (ap length is ∙ length-append picks more) in
    record {
      form = h.form ∙ ap (first_fault (Scheduled n (length picks)) next) e ∙ form_more n (length picks) next line rest more on (sym a.fault_is) ∙ ap (λ k. first_fault (Scheduled n k) (next + 1) rest) long;
      lines = λ others r. subst (λ (ps : List Pick). ArePickLines n old ps) (sym (append_assoc picks more others) ∙ ap (λ (ps : List Pick). ps ++ others) (sym is))
          (h.lines (more ++ others) (subst (λ (ls : List (List ℕ)). ArePickLines n ls (more ++ others)) (sym e) (more, others, refl, has_picks n line more on, r)));
      few = omega (arith, long, few_by (is_text line) n (length picks) line more refl on (sym a.fault_is));
    }

-- a line that can't stand is refused
pub played_refused : (n number next : ℕ) (old here rest : List (List ℕ)) (line : List ℕ) (picks new : List Pick) (w : Why) → Played n number old picks next here → here ≡ line ∷ rest → AddsLine (Some w) n line picks new
    → Refuses (Scheduled n 0) 0 number old (Refused next w)
played_refused n number next old here rest line picks new w h e a =
    by_form next w (h.form ∙ ap (first_fault (Scheduled n (length picks)) next) e
    ∙ ap (λ (o : Option Why). or_later next o (first_fault (Scheduled n (length picks + pick_count (picks_on n line))) (next + 1) rest)) (sym a.fault_is)) (λ m p. absurd p)

-- at the end all are read
pub played_all : (n number next : ℕ) (old here : List (List ℕ)) (picks : List Pick) → Played n number old picks next here → here ≡ [] → ReadsPicks n number old picks
played_all n number next old here picks h e = record {
  form = h.form ∙ ap (first_fault (Scheduled n (length picks)) next) e;
  lines_are = subst (λ (ps : List Pick). ArePickLines n old ps) (append-nil picks) (h.lines [] (subst (λ (ls : List (List ℕ)). ArePickLines n ls []) (sym e) refl));
  few = h.few;
}

-- the same where no fault was answered
pub played_on : (n number next : ℕ) (old here rest : List (List ℕ)) (line : List ℕ) (picks new : List Pick) (o : Option Why) → ((w : Why) → o ≡ Some w → ⊥) → Played n number old picks next here → here ≡ line ∷ rest
    → AddsLine o n line picks new → Played n number old new (next + 1) rest
played_on n number next old here rest line picks new None none h e a = played_more n number next old here rest line picks new h e a
played_on n number next old here rest line picks new (Some w) none h e a = absurd (none w refl)

-- the same where a fault was answered
pub played_stop : (n number next : ℕ) (old here rest : List (List ℕ)) (line : List ℕ) (picks new : List Pick) (o : Option Why) (w : Why) → o ≡ Some w → Played n number old picks next here → here ≡ line ∷ rest
    → AddsLine o n line picks new → Refuses (Scheduled n 0) 0 number old (Refused next w)
played_stop n number next old here rest line picks new o w f h e a =
    played_refused n number next old here rest line picks new w h e (subst (λ (x : Option Why). AddsLine x n line picks new) f a)

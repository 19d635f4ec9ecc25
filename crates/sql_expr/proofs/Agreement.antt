-- Where all rules let tokens pass, fewer rules do too, and the rule that refuses them refuses them alone.
use Rattle.std.specs.Prelude.{Option, Some, None}
use Rattle.std.proofs.Common.{◌≡◌, ℕ, suc, zero, Bool, true, false, List, [], ◌∷◌, refl}
use Rattle.sql_lex.specs.declared.token.Token.{Token}
use Rattle.sql_expr.specs.Rules.{Rules, strict, has_truth}
use Rattle.sql_expr.specs.Symbols.{Part, Symbol}
use Rattle.sql_expr.specs.Machine.{Fault, CantStand, WrongKind, TooDeep, TooMany, Next, Go, Over, Refuse, only_if, same, judged, opened, counted, stepped, feed}
use Rattle.sql_expr.specs.Table.{Step, Stuck, Take, Leave, act}
use Rattle.sql_expr.specs.Read.{Outcome, Open, Ended, Stopped, go_on, run}

-- the rule that a fault is against holds
abbrev pub Holds : Rules → Fault → Type 0
Holds r CantStand = Unit {0}
Holds r WrongKind = r.kinds ≡ true
Holds r TooDeep = r.levels ≡ true
Holds r TooMany = r.operators ≡ true

abbrev pub Agrees : Rules → Next → Next → Type 0
Agrees r (Go stack now spare) next = next ≡ Go stack now spare
Agrees r (Over now spare) next = next ≡ Over now spare
Agrees r (Refuse why at) next = Holds r why → next ≡ Refuse why at

agree_if : (r : Rules) (kinds found wanted : Bool) (at : ℕ) (next other : Next) → r.kinds ≡ kinds → Agrees r next other → Agrees r (only_if (same true found wanted) WrongKind at next) (only_if (same kinds found wanted) WrongKind at other)
agree_if r true true true at next other is h = h
agree_if r true true false at next other is h = λ _. refl
agree_if r true false true at next other is h = λ _. refl
agree_if r true false false at next other is h = h
agree_if r false true true at next other is h = h
agree_if r false true false at next other is h = λ k. cc
agree_if r false false true at next other is h = λ k. cc
agree_if r false false false at next other is h = h

agree_judged : (r : Rules) (o : Option Bool) (now : Part) (next other : Next) → Agrees r next other → Agrees r (judged strict o now next) (judged r o now other)
agree_judged r None now next other h = h
agree_judged r (Some truth) now next other h = agree_if r r.kinds (has_truth now.tree) truth now.at next other refl h

agree_opened : (r : Rules) (o : Option ℕ) (at : ℕ) (next other : Next) → Agrees r next other → Agrees r (opened strict o at next) (opened r o at other)
agree_opened r None at next other h = h
agree_opened r (Some zero) at next other h = λ k. rw k refl
agree_opened r (Some (suc n)) at next other h = h

agree_counted : (r : Rules) (b : Bool) (spare at : ℕ) (next other : ℕ → Next) → ((m : ℕ) → Agrees r (next m) (other m)) → Agrees r (counted strict b spare at next) (counted r b spare at other)
agree_counted r false spare at next other h = h spare
agree_counted r true zero at next other h = λ k. rw k refl
agree_counted r true (suc m) at next other h = h m

agree_stepped : (r : Rules) (step : Step) (stack : List Symbol) (at : ℕ) (behind others : Part → Next) → ((p : Part) → Agrees r (behind p) (others p)) → (spare : ℕ) → Agrees r (stepped step stack at behind spare) (stepped step stack at others spare)
agree_stepped r Stuck stack at behind others h spare = λ _. refl
agree_stepped r (Take symbols now) stack at behind others h spare = refl
agree_stepped r (Leave now) stack at behind others h spare = h now

pub agree_feed : (names : Bool) (r : Rules) (stack : List Symbol) (now : Part) (spare : ℕ) (t : Token) → Agrees r (feed names strict stack now spare t) (feed names r stack now spare t)
agree_feed names r [] now spare t = refl
agree_feed names r (s ∷ stack) now spare t =
    let a = act names s now t in
    let f : Part → Next = λ p. feed names strict stack p spare t in
    let g : Part → Next = λ p. feed names r stack p spare t in
    agree_judged r a.judged now (opened strict a.opens t.at (counted strict a.counts spare t.at (stepped a.step stack t.at f))) (opened r a.opens t.at (counted r a.counts spare t.at (stepped a.step stack t.at g)))
    (agree_opened r a.opens t.at (counted strict a.counts spare t.at (stepped a.step stack t.at f)) (counted r a.counts spare t.at (stepped a.step stack t.at g))
    (agree_counted r a.counts spare t.at (stepped a.step stack t.at f) (stepped a.step stack t.at g)
    (agree_stepped r a.step stack t.at f g (λ p. agree_feed names r stack p spare t))))

abbrev pub AgreesOut : Rules → Outcome → Outcome → Type 0
AgreesOut r (Open stack now spare) out = out ≡ Open stack now spare
AgreesOut r (Ended now spare rest) out = out ≡ Ended now spare rest
AgreesOut r (Stopped why at) out = Holds r why → out ≡ Stopped why at

agree_next : (r : Rules) (next other : Next) (t : Token) (ts : List Token) (f g : List Symbol → Part → ℕ → Outcome) → Agrees r next other → ((s : List Symbol) (p : Part) (m : ℕ) → AgreesOut r (f s p m) (g s p m)) → AgreesOut r (go_on t ts f next) (go_on t ts g other)
agree_next r (Go s p m) other t ts f g h ih = rw h (ih s p m)
agree_next r (Over p m) other t ts f g h ih = rw h refl
agree_next r (Refuse why at) other t ts f g h ih = λ k. rw (h k) refl

pub agree_run : (names : Bool) (r : Rules) (ts : List Token) (stack : List Symbol) (now : Part) (spare : ℕ) → AgreesOut r (run names strict stack now spare ts) (run names r stack now spare ts)
agree_run names r [] stack now spare = refl
agree_run names r (t ∷ ts) stack now spare =
    agree_next r (feed names strict stack now spare t) (feed names r stack now spare t) t ts (λ s p m. run names strict s p m ts) (λ s p m. run names r s p m ts) (agree_feed names r stack now spare t) (λ s p m. agree_run names r ts s p m)

-- The laws of reading, from what the machine does.
use Rattle.std.specs.Prelude.{Option, Some, None, not}
use Rattle.std.proofs.Common.{◌≡◌, ℕ, suc, zero, ◌+◌, ◌-◌, ◌≤◌, Bool, true, false, List, [], ◌∷◌, ◌++◌, ap, sym, ◌∙◌, refl, append_assoc, append-nil, arith}
use Rattle.std.proofs.lemmas.List.{append_cancel_right}
use Rattle.plain_model.specs.Tree.{Tree}
use Rattle.plain_model.specs.Shape.{operators}
use Rattle.sql_lex.specs.declared.token.Token.{Token}
use Rattle.sql_expr.specs.declared.role.Role.{Role}
use Rattle.sql_expr.specs.declared.role.Role.TheVariants as role
use Rattle.sql_expr.specs.declared.role.Level.TheVariants.{Ors}
use Rattle.sql_expr.specs.Rules.{Rules, strict, loose, has_truth, Fits, IsWithin}
use Rattle.sql_expr.specs.Grammar.{IsExpr, IsWhole}
use Rattle.sql_expr.specs.Roles.{role_of}
use Rattle.sql_expr.specs.Symbols.{Part, part, Whole, Symbol, Judge}
use Rattle.sql_expr.specs.Machine.{Fault, CantStand, WrongKind, TooDeep, TooMany, Next, Go, Over, Refuse, only_if, same, judged, opened, counted, stepped, feed}
use Rattle.sql_expr.specs.Table.{Step, Stuck, Take, Leave, act}
use Rattle.sql_expr.specs.Read.{Outcome, Open, Ended, Stopped, go_on, run, no_part, whole, reading}
use Rattle.sql_expr.specs.Laws.{goes_on, IsBehind, Begins, IsFront, broken, is_limit, IsPlace, IsRefused, place}
use Rattle.sql_expr.proofs.Lists.{has}
use Rattle.sql_expr.proofs.Sound.{Ends, IsLooser, run_back}
use Rattle.sql_expr.proofs.Complete.{bound, binds, reads, judge}
use Rattle.sql_expr.proofs.Agreement.{Holds, agree_feed, agree_run}
use Rattle.sql_expr.proofs.Viable.{end_token, completes}
use Rattle.sql_expr.proofs.Parts.{wrong_part}
use Rattle.sql_expr.proofs.Limits.{IsGone, Frees, frees_feed}

-- a token that doesn't go on with an expression binds none of its levels
pub not_bound : (k : Role) → goes_on k ≡ false → binds Ors k ≡ false
not_bound role.Or h = cc
not_bound role.And h = cc
not_bound role.Not h = cc
not_bound role.Is h = cc
not_bound role.Between h = cc
not_bound role.In h = cc
not_bound (role.Math op) h = cc
not_bound (role.Compare op) h = cc
not_bound _ h = refl

behind_bound : (rest : List Token) → IsBehind rest → bound Ors rest ≡ false
behind_bound [] h = absurd h
behind_bound (t ∷ ts) h = not_bound (role_of t) h

behind_has : (rest : List Token) → IsBehind rest → has rest ≡ true
behind_has [] h = absurd h
behind_has (t ∷ ts) h = refl

over : (names : Bool) (r : Rules) (now : Part) (spare : ℕ) (rest : List Token) → has rest ≡ true → run names r [] now spare rest ≡ Ended now spare rest
over names r now spare [] h = cc
over names r now spare (t ∷ ts) h = refl

-- what is a whole expression is read, by the rules that it keeps, whatever does not go on with it
pub completely : (names : Bool) (r : Rules) (truth : Bool) (e : Tree) (front rest : List Token) → IsWhole names r truth e front → IsBehind rest → reading names r truth (front ++ rest) ≡ Ended (part e (place front)) (1000 - operators e) rest
completely names r truth e front rest w h =
    (reads w.spelled).by (Judge truth Whole ∷ []) no_part 1000 rest w.few (behind_bound rest h)
    ∙ judge names r truth Whole (part e (place front)) [] (1000 - operators e) rest (behind_has rest h) w.kind
    ∙ over names r (part e (place front)) (1000 - operators e) rest (behind_has rest h)

ended_tree : (p q : Part) (m k : ℕ) (us vs : List Token) → Ended p m us ≡ Ended q k vs → (p ≡ q) × (m ≡ k) × (us ≡ vs)
ended_tree p q m k us vs h = (cc, cc, cc)

-- tokens have one tree
pub one_tree : (names : Bool) (r : Rules) (truth : Bool) (e f : Tree) (ts : List Token) → IsWhole names r truth e ts → IsWhole names r truth f ts → e ≡ f
one_tree names r truth e f ts x y =
    ap (λ (p : Part). p.tree) (ended_tree (part e (place ts)) (part f (place ts)) (1000 - operators e) (1000 - operators f) (end_token ∷ []) (end_token ∷ [])
    (sym (completely names r truth e ts (end_token ∷ []) x refl) ∙ completely names r truth f ts (end_token ∷ []) y refl)).0

next_append : (names : Bool) (r : Rules) (next : Next) (t : Token) (front ts : List Token) (s2 : List Symbol) (p2 : Part) (m2 : ℕ)
    → ((s : List Symbol) (p : Part) (m : ℕ) → run names r s p m front ≡ Open s2 p2 m2 → run names r s p m (front ++ ts) ≡ run names r s2 p2 m2 ts)
    → go_on t front (λ s p m. run names r s p m front) next ≡ Open s2 p2 m2 → go_on t (front ++ ts) (λ s p m. run names r s p m (front ++ ts)) next ≡ run names r s2 p2 m2 ts
next_append names r (Go s p m) t front ts s2 p2 m2 ih h = ih s p m h
next_append names r (Over p m) t front ts s2 p2 m2 ih h = cc
next_append names r (Refuse why at) t front ts s2 p2 m2 ih h = cc

-- tokens that lead to symbols lead on from them
pub run_append : (names : Bool) (r : Rules) (front ts : List Token) (s s2 : List Symbol) (p p2 : Part) (m m2 : ℕ) → run names r s p m front ≡ Open s2 p2 m2 → run names r s p m (front ++ ts) ≡ run names r s2 p2 m2 ts
run_append names r [] ts s s2 p p2 m m2 h = let a : s ≡ s2 = cc in let b : p ≡ p2 = cc in let c : m ≡ m2 = cc in rw (a, b, c) refl
run_append names r (t ∷ front) ts s s2 p p2 m m2 h = next_append names r (feed names r s p m t) t front ts s2 p2 m2 (λ s3 p3 m3 k. run_append names r front ts s3 s2 p3 p2 m3 m2 k) h

-- the token at which reading stops, and what was read before it
pub record Halt (names : Bool) (r : Rules) (s : List Symbol) (p : Part) (m : ℕ) (ts : List Token) : Type 0 where
  pub front : List Token
  pub token : Token
  pub others : List Token
  pub stack : List Symbol
  pub now : Part
  pub spare : ℕ
  pub split : ts ≡ front ++ token ∷ others
  pub leads : run names r s p m front ≡ Open stack now spare

pub record Halts (names : Bool) (r : Rules) (s : List Symbol) (p : Part) (m : ℕ) (ts : List Token) (last : Next) : Type 0 where
  pub halt : Halt names r s p m ts
  pub stops : feed names r halt.stack halt.now halt.spare halt.token ≡ last

-- the same with a token in front that was taken
abbrev later : {names : Bool} {r : Rules} {s s2 : List Symbol} {p p2 : Part} {m m2 : ℕ} {ts : List Token} {last : Next} (t : Token) → feed names r s p m t ≡ Go s2 p2 m2 → Halts names r s2 p2 m2 ts last → Halts names r s p m (t ∷ ts) last
later {names} {r} t goes h = record {
  halt = record {
    front = t ∷ h.halt.front;
    token = h.halt.token;
    others = h.halt.others;
    stack = h.halt.stack;
    now = h.halt.now;
    spare = h.halt.spare;
    split = ap (λ (zs : List Token). t ∷ zs) h.halt.split;
    leads = ap (go_on t h.halt.front (λ s p m. run names r s p m h.halt.front)) goes ∙ h.halt.leads;
  };
  stops = h.stops;
}

abbrev halt_here : (names : Bool) (r : Rules) (s : List Symbol) (p : Part) (m : ℕ) (t : Token) (ts : List Token) (last : Next) → feed names r s p m t ≡ last → Halts names r s p m (t ∷ ts) last
halt_here names r s p m t ts last h = record {
  halt = record { front = []; token = t; others = ts; stack = s; now = p; spare = m; split = refl; leads = refl };
  stops = h;
}

stopped_next : (names : Bool) (r : Rules) (next : Next) (s : List Symbol) (p : Part) (m : ℕ) (t : Token) (ts : List Token) (why : Fault) (at : ℕ) → feed names r s p m t ≡ next
    → ((s2 : List Symbol) (p2 : Part) (m2 : ℕ) → run names r s2 p2 m2 ts ≡ Stopped why at → Halts names r s2 p2 m2 ts (Refuse why at))
    → go_on t ts (λ s2 p2 m2. run names r s2 p2 m2 ts) next ≡ Stopped why at → Halts names r s p m (t ∷ ts) (Refuse why at)
stopped_next names r (Go s2 p2 m2) s p m t ts why at is ih h = later t is (ih s2 p2 m2 h)
stopped_next names r (Over p2 m2) s p m t ts why at is ih h = cc
stopped_next names r (Refuse why2 at2) s p m t ts why at is ih h = let a : why2 ≡ why = cc in let b : at2 ≡ at = cc in halt_here names r s p m t ts (Refuse why at) (is ∙ rw (a, b) refl)

pub stopped : (names : Bool) (r : Rules) (ts : List Token) (s : List Symbol) (p : Part) (m : ℕ) (why : Fault) (at : ℕ) → run names r s p m ts ≡ Stopped why at → Halts names r s p m ts (Refuse why at)
stopped names r [] s p m why at h = cc
stopped names r (t ∷ ts) s p m why at h = stopped_next names r (feed names r s p m t) s p m t ts why at refl (λ s2 p2 m2 k. stopped names r ts s2 p2 m2 why at k) h

pub record Finishes (names : Bool) (r : Rules) (s : List Symbol) (p : Part) (m : ℕ) (ts : List Token) (out : Part) (left : ℕ) (rest : List Token) : Type 0 where
  pub halts : Halts names r s p m ts (Over out left)
  pub rest_is : rest ≡ halts.halt.token ∷ halts.halt.others

later_finish : {names : Bool} {r : Rules} {s s2 : List Symbol} {p p2 : Part} {m m2 : ℕ} {ts : List Token} {out : Part} {left : ℕ} {rest : List Token} (t : Token) → feed names r s p m t ≡ Go s2 p2 m2 → Finishes names r s2 p2 m2 ts out left rest
    → Finishes names r s p m (t ∷ ts) out left rest
later_finish t goes h = record { halts = later t goes h.halts; rest_is = h.rest_is }

ended_next : (names : Bool) (r : Rules) (next : Next) (s : List Symbol) (p : Part) (m : ℕ) (t : Token) (ts : List Token) (out : Part) (left : ℕ) (rest : List Token) → feed names r s p m t ≡ next
    → ((s2 : List Symbol) (p2 : Part) (m2 : ℕ) → run names r s2 p2 m2 ts ≡ Ended out left rest → Finishes names r s2 p2 m2 ts out left rest)
    → go_on t ts (λ s2 p2 m2. run names r s2 p2 m2 ts) next ≡ Ended out left rest → Finishes names r s p m (t ∷ ts) out left rest
ended_next names r (Go s2 p2 m2) s p m t ts out left rest is ih h = later_finish t is (ih s2 p2 m2 h)
ended_next names r (Over p2 m2) s p m t ts out left rest is ih h =
    let both = ended_tree p2 out m2 left (t ∷ ts) rest h in record { halts = halt_here names r s p m t ts (Over out left) (is ∙ rw (both.0, both.1) refl); rest_is = sym both.2 }
ended_next names r (Refuse why2 at2) s p m t ts out left rest is ih h = cc

pub ended : (names : Bool) (r : Rules) (ts : List Token) (s : List Symbol) (p : Part) (m : ℕ) (out : Part) (left : ℕ) (rest : List Token) → run names r s p m ts ≡ Ended out left rest → Finishes names r s p m ts out left rest
ended names r [] s p m out left rest h = cc
ended names r (t ∷ ts) s p m out left rest h = ended_next names r (feed names r s p m t) s p m t ts out left rest refl (λ s2 p2 m2 k. ended names r ts s2 p2 m2 out left rest k) h

-- a run by all rules that passes tokens is a run by any of them
pub same_run : (names : Bool) (r : Rules) (front : List Token) (s s2 : List Symbol) (p p2 : Part) (m m2 : ℕ) → run names strict s p m front ≡ Open s2 p2 m2 → run names r s p m front ≡ Open s2 p2 m2
same_run names r front s s2 p p2 m m2 h = rw h at (agree_run names r front s p m)

-- an expression by some rules is read to its end by them
to_end : (names : Bool) (r : Rules) (truth : Bool) (front : List Token) (b : Begins names r truth front) → reading names r truth (front ++ (b.more ++ end_token ∷ [])) ≡ Ended (part b.tree (place (front ++ b.more))) (1000 - operators b.tree) (end_token ∷ [])
to_end names r truth front b = ap (reading names r truth) (sym (append_assoc front b.more (end_token ∷ []))) ∙ completely names r truth b.tree (front ++ b.more) (end_token ∷ []) b.whole refl

ended_not_stopped : (p : Part) (m : ℕ) (rest : List Token) (why : Fault) (at : ℕ) → Ended p m rest ≡ Stopped why at → ⊥
ended_not_stopped p m rest why at h = cc

no_token : (x y : Token) (us : List Token) → x ∷ (us ++ y ∷ []) ≡ y ∷ [] → ⊥
no_token x y [] h = cc
no_token x y (u ∷ us) h = cc

-- no expression that keeps the broken rule begins with a front and the token behind it that is refused
pub none_begins : (names : Bool) (r : Rules) (truth : Bool) (front : List Token) (t : Token) (s : List Symbol) (p : Part) (m : ℕ) (why : Fault) (at : ℕ) → reading names strict truth front ≡ Open s p m → feed names strict s p m t ≡ Refuse why at → Holds r why
    → Begins names r truth (front ++ t ∷ []) → ⊥
none_begins names r truth front t s p m why at leads stops holds b =
    let refused : feed names r s p m t ≡ Refuse why at = (rw stops at (agree_feed names r s p m t)) holds in
    let whole_run : reading names r truth ((front ++ t ∷ []) ++ (b.more ++ end_token ∷ [])) ≡ Stopped why at =
    ap (reading names r truth) (append_assoc front (t ∷ []) (b.more ++ end_token ∷ []))
    ∙ run_append names r front (t ∷ (b.more ++ end_token ∷ [])) (whole truth) s no_part p 1000 m (same_run names r front (whole truth) s no_part p 1000 m leads)
    ∙ ap (go_on t (b.more ++ end_token ∷ []) (λ s2 p2 m2. run names r s2 p2 m2 (b.more ++ end_token ∷ []))) refused in
    ended_not_stopped (part b.tree (place ((front ++ t ∷ []) ++ b.more))) (1000 - operators b.tree) (end_token ∷ []) why at (sym (to_end names r truth (front ++ t ∷ []) b) ∙ whole_run)

-- nor with a front that is over and the token behind it, whatever its kinds and limits
pub none_longer : (names : Bool) (r : Rules) (truth : Bool) (front : List Token) (t : Token) (s : List Symbol) (p out : Part) (m left : ℕ) → reading names strict truth front ≡ Open s p m → feed names strict s p m t ≡ Over out left
    → Begins names r truth (front ++ t ∷ []) → ⊥
none_longer names r truth front t s p out m left leads over_here b =
    let here : feed names r s p m t ≡ Over out left = rw over_here at (agree_feed names r s p m t) in
    let whole_run : reading names r truth ((front ++ t ∷ []) ++ (b.more ++ end_token ∷ [])) ≡ Ended out left (t ∷ (b.more ++ end_token ∷ [])) =
    ap (reading names r truth) (append_assoc front (t ∷ []) (b.more ++ end_token ∷ []))
    ∙ run_append names r front (t ∷ (b.more ++ end_token ∷ [])) (whole truth) s no_part p 1000 m (same_run names r front (whole truth) s no_part p 1000 m leads)
    ∙ ap (go_on t (b.more ++ end_token ∷ []) (λ s2 p2 m2. run names r s2 p2 m2 (b.more ++ end_token ∷ []))) here in
    no_token t end_token b.more
    (sym (ended_tree (part b.tree (place ((front ++ t ∷ []) ++ b.more))) out (1000 - operators b.tree) left (end_token ∷ []) (t ∷ (b.more ++ end_token ∷ [])) (sym (to_end names r truth (front ++ t ∷ []) b) ∙ whole_run)).2)

-- an expression that ends at its symbols' end
whole_ends : (names : Bool) (r : Rules) (truth : Bool) (ts : List Token) (out : Part) (rest : List Token) → Ends names r (whole truth) no_part ts out rest → (us : List Token) × (ts ≡ us ++ rest) × IsExpr names r 100 Ors out.tree us × Fits r out.tree truth
whole_ends names r truth ts out rest (e, us, vs, x, split, (fits, (same, vs_is))) =
    let tree : e ≡ out.tree = ap (λ (q : Part). q.tree) same in
    (us, rw vs_is at split, rw tree at x, rw tree at fits)

few_loose : (e : Tree) → IsWithin loose e 1000
few_loose e = λ k. cc

loose_looser : (q : Rules) → IsLooser loose q
loose_looser q = record { kinds = λ k. cc; levels = λ k. cc }

strict_looser : IsLooser strict strict
strict_looser = record { kinds = λ k. refl; levels = λ k. refl }

-- what was read begins an expression, whatever its kinds and limits
pub front_begins : (names : Bool) (q : Rules) (truth : Bool) (front : List Token) (s : List Symbol) (p : Part) (m : ℕ) → reading names q truth front ≡ Open s p m → Begins names loose truth front
front_begins names q truth front s p m h =
    let c = completes names s p in
    let ends : Ends names loose (whole truth) no_part (front ++ (c.more ++ end_token ∷ [])) c.out (end_token ∷ []) =
    run_back names loose q (loose_looser q) front (c.more ++ end_token ∷ []) c.out (end_token ∷ []) (whole truth) no_part 1000 (rw h c.ends) in
    let w = whole_ends names loose truth (front ++ (c.more ++ end_token ∷ [])) c.out (end_token ∷ []) ends in
    let same : front ++ c.more ≡ w.0 = append_cancel_right (front ++ c.more) w.0 (end_token ∷ []) (append_assoc front c.more (end_token ∷ []) ∙ w.1) in
    record { more = c.more; tree = c.out.tree; whole = record { spelled = rw same w.2; kind = w.3; few = few_loose c.out.tree } }

pub gone_on : (names truth : Bool) (front : List Token) (t : Token) (next : Next) → IsGone next → reading names loose truth (front ++ t ∷ []) ≡ go_on t [] (λ s p m. Open s p m) next → Begins names loose truth (front ++ t ∷ [])
gone_on names truth front t (Go s p m) g h = front_begins names loose truth (front ++ t ∷ []) s p m h
gone_on names truth front t (Over p m) g h = absurd g
gone_on names truth front t (Refuse why at) g h = absurd g

freed : (why : Fault) (at : ℕ) (next other : Next) → next ≡ Refuse why at → is_limit why ≡ true → Frees next other → IsGone other
freed TooDeep at next other is k h = rw is at h
freed TooMany at next other is k h = rw is at h
freed CantStand at next other is k h = cc
freed WrongKind at next other is k h = cc

-- a token that a limit refuses could stand but for the limits
pub unlimited_begins : (names truth : Bool) (front : List Token) (t : Token) (s : List Symbol) (p : Part) (m : ℕ) (why : Fault) (at : ℕ) → reading names strict truth front ≡ Open s p m → feed names strict s p m t ≡ Refuse why at → is_limit why ≡ true
    → Begins names loose truth (front ++ t ∷ [])
unlimited_begins names truth front t s p m why at leads stops limit =
    gone_on names truth front t (feed names loose s p m t) (freed why at (feed names strict s p m t) (feed names loose s p m t) stops limit (frees_feed names s p m t))
    (run_append names loose front (t ∷ []) (whole truth) s no_part p 1000 m (same_run names loose front (whole truth) s no_part p 1000 m leads))

pub holds_broken : (why : Fault) → Holds (broken why) why
holds_broken CantStand = tt
holds_broken WrongKind = refl
holds_broken TooDeep = refl
holds_broken TooMany = refl

-- the place of a refusal is the token's, but for a wrong kind
abbrev pub Placed : Token → Next → Type 0
Placed t (Go s p m) = Unit {0}
Placed t (Over p m) = Unit {0}
Placed t (Refuse WrongKind at) = Unit {0}
Placed t (Refuse why at) = at ≡ t.at

placed_kind : (b : Bool) (at : ℕ) (t : Token) (next : Next) → Placed t next → Placed t (only_if b WrongKind at next)
placed_kind true at t next h = h
placed_kind false at t next h = tt

placed_deep : (b : Bool) (t : Token) (next : Next) → Placed t next → Placed t (only_if b TooDeep t.at next)
placed_deep true t next h = h
placed_deep false t next h = refl

placed_many : (b : Bool) (t : Token) (next : Next) → Placed t next → Placed t (only_if b TooMany t.at next)
placed_many true t next h = h
placed_many false t next h = refl

placed_judged : (r : Rules) (o : Option Bool) (now : Part) (t : Token) (next : Next) → Placed t next → Placed t (judged r o now next)
placed_judged r None now t next h = h
placed_judged r (Some truth) now t next h = placed_kind (same r.kinds (has_truth now.tree) truth) now.at t next h

placed_opened : (r : Rules) (o : Option ℕ) (t : Token) (next : Next) → Placed t next → Placed t (opened r o t.at next)
placed_opened r None t next h = h
placed_opened r (Some zero) t next h = placed_deep (not r.levels) t next h
placed_opened r (Some (suc n)) t next h = h

placed_counted : (r : Rules) (b : Bool) (spare : ℕ) (t : Token) (f : ℕ → Next) → ((m : ℕ) → Placed t (f m)) → Placed t (counted r b spare t.at f)
placed_counted r false spare t f h = h spare
placed_counted r true zero t f h = placed_many (not r.operators) t (f 0) (h 0)
placed_counted r true (suc m) t f h = h m

placed_stepped : (step : Step) (stack : List Symbol) (t : Token) (behind : Part → Next) → ((p : Part) → Placed t (behind p)) → (m : ℕ) → Placed t (stepped step stack t.at behind m)
placed_stepped Stuck stack t behind h m = refl
placed_stepped (Take symbols now) stack t behind h m = tt
placed_stepped (Leave now) stack t behind h m = h now

pub placed_feed : (names : Bool) (r : Rules) (stack : List Symbol) (now : Part) (spare : ℕ) (t : Token) → Placed t (feed names r stack now spare t)
placed_feed names r [] now spare t = tt
placed_feed names r (s ∷ stack) now spare t =
    let a = act names s now t in
    let f : Part → Next = λ p. feed names r stack p spare t in
    placed_judged r a.judged now t (opened r a.opens t.at (counted r a.counts spare t.at (stepped a.step stack t.at f)))
    (placed_opened r a.opens t (counted r a.counts spare t.at (stepped a.step stack t.at f))
    (placed_counted r a.counts spare t (stepped a.step stack t.at f) (placed_stepped a.step stack t f (λ p. placed_feed names r stack p spare t))))

pub place_of : (names truth : Bool) (why : Fault) (at : ℕ) (front : List Token) (t : Token) (s : List Symbol) (p : Part) (m : ℕ) → reading names strict truth front ≡ Open s p m → feed names strict s p m t ≡ Refuse why at → Placed t (Refuse why at) → IsPlace names why at front t
place_of names truth WrongKind at front t s p m leads stops h = wrong_part names truth front t s p m at leads stops
place_of names truth CantStand at front t s p m leads stops h = h
place_of names truth TooDeep at front t s p m leads stops h = h
place_of names truth TooMany at front t s p m leads stops h = h

-- what is refused
pub refused_is : (names truth : Bool) (ts : List Token) (why : Fault) (at : ℕ) → reading names strict truth ts ≡ Stopped why at → IsRefused names truth ts why at
refused_is names truth ts why at h =
    let s = stopped names strict ts (whole truth) no_part 1000 why at h in
    let t = s.halt in
    record {
      front = t.front;
      token = t.token;
      others = t.others;
      split = t.split;
      before = front_begins names strict truth t.front t.stack t.now t.spare t.leads;
      place_is = place_of names truth why at t.front t.token t.stack t.now t.spare t.leads s.stops (rw s.stops at (placed_feed names strict t.stack t.now t.spare t.token));
      none = none_begins names (broken why) truth t.front t.token t.stack t.now t.spare why at t.leads s.stops (holds_broken why);
      unlimited = λ k. unlimited_begins names truth t.front t.token t.stack t.now t.spare why at t.leads s.stops k;
    }

-- the same with so many more spare operators, where it isn't a refusal
abbrev pub IsMore : ℕ → Next → Next → Type 0
IsMore k (Go s p m) other = other ≡ Go s p (m + k)
IsMore k (Over p m) other = other ≡ Over p (m + k)
IsMore k (Refuse why at) other = Unit {0}

more_if : (b : Bool) (why : Fault) (at k : ℕ) (next other : Next) → IsMore k next other → IsMore k (only_if b why at next) (only_if b why at other)
more_if true why at k next other h = h
more_if false why at k next other h = tt

more_judged : (o : Option Bool) (now : Part) (k : ℕ) (next other : Next) → IsMore k next other → IsMore k (judged strict o now next) (judged strict o now other)
more_judged None now k next other h = h
more_judged (Some truth) now k next other h = more_if (same true (has_truth now.tree) truth) WrongKind now.at k next other h

more_opened : (o : Option ℕ) (at k : ℕ) (next other : Next) → IsMore k next other → IsMore k (opened strict o at next) (opened strict o at other)
more_opened None at k next other h = h
more_opened (Some zero) at k next other h = tt
more_opened (Some (suc n)) at k next other h = h

more_counted : (b : Bool) (spare at k : ℕ) (f g : ℕ → Next) → ((m : ℕ) → IsMore k (f m) (g (m + k))) → IsMore k (counted strict b spare at f) (counted strict b (spare + k) at g)
more_counted false spare at k f g h = h spare
more_counted true zero at k f g h = tt
more_counted true (suc m) at k f g h = let e : suc m + k ≡ suc (m + k) = omega arith in rw e (h m)

more_stepped : (step : Step) (stack : List Symbol) (at k : ℕ) (behind others : Part → Next) → ((p : Part) → IsMore k (behind p) (others p)) → (spare : ℕ) → IsMore k (stepped step stack at behind spare) (stepped step stack at others (spare + k))
more_stepped Stuck stack at k behind others h spare = tt
more_stepped (Take symbols now) stack at k behind others h spare = refl
more_stepped (Leave now) stack at k behind others h spare = h now

more_feed : (names : Bool) (k : ℕ) (stack : List Symbol) (now : Part) (spare : ℕ) (t : Token) → IsMore k (feed names strict stack now spare t) (feed names strict stack now (spare + k) t)
more_feed names k [] now spare t = refl
more_feed names k (s ∷ stack) now spare t =
    let a = act names s now t in
    let f : Part → Next = λ p. feed names strict stack p spare t in
    let g : Part → Next = λ p. feed names strict stack p (spare + k) t in
    more_judged a.judged now k (opened strict a.opens t.at (counted strict a.counts spare t.at (stepped a.step stack t.at f))) (opened strict a.opens t.at (counted strict a.counts (spare + k) t.at (stepped a.step stack t.at g)))
    (more_opened a.opens t.at k (counted strict a.counts spare t.at (stepped a.step stack t.at f)) (counted strict a.counts (spare + k) t.at (stepped a.step stack t.at g))
    (more_counted a.counts spare t.at k (stepped a.step stack t.at f) (stepped a.step stack t.at g)
    (more_stepped a.step stack t.at k f g (λ p. more_feed names k stack p spare t))))

more_next : (names : Bool) (k : ℕ) (next other : Next) (t : Token) (ts : List Token) (s2 : List Symbol) (p2 : Part) (m2 : ℕ) → IsMore k next other
    → ((s : List Symbol) (p : Part) (m : ℕ) → run names strict s p m ts ≡ Open s2 p2 m2 → run names strict s p (m + k) ts ≡ Open s2 p2 (m2 + k))
    → go_on t ts (λ s p m. run names strict s p m ts) next ≡ Open s2 p2 m2 → go_on t ts (λ s p m. run names strict s p m ts) other ≡ Open s2 p2 (m2 + k)
more_next names k (Go s p m) other t ts s2 p2 m2 is ih h = rw is (ih s p m h)
more_next names k (Over p m) other t ts s2 p2 m2 is ih h = cc
more_next names k (Refuse why at) other t ts s2 p2 m2 is ih h = cc

-- with more spare operators the same is read, and as many more are left
more_run : (names : Bool) (k : ℕ) (ts : List Token) (s2 : List Symbol) (p2 : Part) (m2 : ℕ) (s : List Symbol) (p : Part) (m : ℕ) → run names strict s p m ts ≡ Open s2 p2 m2 → run names strict s p (m + k) ts ≡ Open s2 p2 (m2 + k)
more_run names k [] s2 p2 m2 s p m h = let a : s ≡ s2 = cc in let b : p ≡ p2 = cc in let c : m ≡ m2 = cc in rw (a, b, c) refl
more_run names k (t ∷ ts) s2 p2 m2 s p m h =
    more_next names k (feed names strict s p m t) (feed names strict s p (m + k) t) t ts s2 p2 m2 (more_feed names k s p m t) (λ s3 p3 m3. more_run names k ts s2 p2 m2 s3 p3 m3) h

-- an expression that is over leaves as many operators as there were
abbrev Spares : ℕ → Next → Type 0
Spares spare (Go s p m) = Unit {0}
Spares spare (Over p m) = m ≡ spare
Spares spare (Refuse why at) = Unit {0}

spares_if : (b : Bool) (why : Fault) (at spare : ℕ) (next : Next) → Spares spare next → Spares spare (only_if b why at next)
spares_if true why at spare next h = h
spares_if false why at spare next h = tt

spares_judged : (r : Rules) (o : Option Bool) (now : Part) (spare : ℕ) (next : Next) → Spares spare next → Spares spare (judged r o now next)
spares_judged r None now spare next h = h
spares_judged r (Some truth) now spare next h = spares_if (same r.kinds (has_truth now.tree) truth) WrongKind now.at spare next h

spares_opened : (r : Rules) (o : Option ℕ) (at spare : ℕ) (next : Next) → Spares spare next → Spares spare (opened r o at next)
spares_opened r None at spare next h = h
spares_opened r (Some zero) at spare next h = spares_if (not r.levels) TooDeep at spare next h
spares_opened r (Some (suc n)) at spare next h = h

spares_counted : (r : Rules) (b : Bool) (from at spare : ℕ) (f : ℕ → Next) → ((m : ℕ) → Spares spare (f m)) → Spares spare (counted r b from at f)
spares_counted r false from at spare f h = h from
spares_counted r true zero at spare f h = spares_if (not r.operators) TooMany at spare (f 0) (h 0)
spares_counted r true (suc m) at spare f h = h m

spares_stepped : (step : Step) (stack : List Symbol) (at spare : ℕ) (behind : Part → Next) → ((p : Part) → Spares spare (behind p)) → (m : ℕ) → Spares spare (stepped step stack at behind m)
spares_stepped Stuck stack at spare behind h m = tt
spares_stepped (Take symbols now) stack at spare behind h m = tt
spares_stepped (Leave now) stack at spare behind h m = h now

spares_feed : (names : Bool) (r : Rules) (stack : List Symbol) (now : Part) (spare : ℕ) (t : Token) → Spares spare (feed names r stack now spare t)
spares_feed names r [] now spare t = refl
spares_feed names r (s ∷ stack) now spare t =
    let a = act names s now t in
    let f : Part → Next = λ p. feed names r stack p spare t in
    spares_judged r a.judged now spare (opened r a.opens t.at (counted r a.counts spare t.at (stepped a.step stack t.at f)))
    (spares_opened r a.opens t.at spare (counted r a.counts spare t.at (stepped a.step stack t.at f))
    (spares_counted r a.counts spare t.at spare (stepped a.step stack t.at f) (spares_stepped a.step stack t.at spare f (λ p. spares_feed names r stack p spare t))))

spares_end : (next : Next) (spare : ℕ) (t : Token) (f : List Symbol → Part → ℕ → Outcome) (out : Part) (left : ℕ) (rest : List Token) → ((s : List Symbol) (p : Part) (m : ℕ) → f s p m ≡ Open s p m) → Spares spare next → go_on t [] f next ≡ Ended out left rest → left ≡ spare
spares_end (Go s p m) spare t f out left rest stays h k = let e = stays s p m in cc
spares_end (Over p m) spare t f out left rest stays h k = sym (ended_tree p out m left (t ∷ []) rest k).1 ∙ h
spares_end (Refuse why at) spare t f out left rest stays h k = cc

-- an expression that was read has no more than 1,000 operators
few_operators : (names truth : Bool) (e : Tree) (front : List Token) (s : List Symbol) (p : Part) (m : ℕ) → IsExpr names strict 100 Ors e front → Fits strict e truth → reading names strict truth front ≡ Open s p m → operators e ≤ 1000
few_operators names truth e front s p m x fits h =
    let whole_run : run names strict (whole truth) no_part (1000 + operators e) (front ++ end_token ∷ []) ≡ Ended (part e (place front)) (1000 + operators e - operators e) (end_token ∷ []) =
    (reads x).by (Judge truth Whole ∷ []) no_part (1000 + operators e) (end_token ∷ []) (λ k. omega arith) refl
    ∙ judge names strict truth Whole (part e (place front)) [] (1000 + operators e - operators e) (end_token ∷ []) refl fits in
    let split : run names strict (whole truth) no_part (1000 + operators e) (front ++ end_token ∷ []) ≡ run names strict s p (m + operators e) (end_token ∷ []) =
    run_append names strict front (end_token ∷ []) (whole truth) s no_part p (1000 + operators e) (m + operators e) (more_run names (operators e) front s p m (whole truth) no_part 1000 h) in
    let kept : 1000 + operators e - operators e ≡ m + operators e =
    spares_end (feed names strict s p (m + operators e) end_token) (m + operators e) end_token (λ s2 p2 m2. run names strict s2 p2 m2 []) (part e (place front)) (1000 + operators e - operators e) (end_token ∷ []) (λ s2 p2 m2. refl)
    (spares_feed names strict s p (m + operators e) end_token) (sym split ∙ whole_run) in
    omega (arith, kept)

-- what is read is the expression in front
pub front_is : (names truth : Bool) (ts : List Token) (out : Part) (left : ℕ) (rest : List Token) → reading names strict truth ts ≡ Ended out left rest → IsFront names truth ts out.tree rest
front_is names truth ts out left rest h =
    let f = ended names strict ts (whole truth) no_part 1000 out left rest h in
    let t = f.halts.halt in
    let ends : Ends names strict (whole truth) no_part (ts ++ []) out rest = run_back names strict strict strict_looser ts [] out rest (whole truth) no_part 1000 (rw h (refl, append-nil rest)) in
    let w = whole_ends names strict truth (ts ++ []) out rest ends in
    let same : w.0 ≡ t.front = append_cancel_right w.0 t.front rest (sym w.1 ∙ append-nil ts ∙ t.split ∙ ap (λ (zs : List Token). t.front ++ zs) (sym f.rest_is)) in
    let spelled : IsExpr names strict 100 Ors out.tree t.front = rw same at w.2 in
    record {
      front = t.front;
      split = t.split ∙ ap (λ (zs : List Token). t.front ++ zs) (sym f.rest_is);
      whole = record { spelled = spelled; kind = w.3; few = λ k. few_operators names truth out.tree t.front t.stack t.now t.spare spelled w.3 t.leads };
      next = t.token;
      others = t.others;
      rest_is = f.rest_is;
      longest = none_longer names loose truth t.front t.token t.stack t.now out t.spare left t.leads f.halts.stops;
    }

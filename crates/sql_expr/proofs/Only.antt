-- The front that no token makes longer is what is read.
use Rattle.std.specs.Prelude.{Option, Some, None}
use Rattle.std.proofs.Common.{◌≡◌, ◌⊎◌, inl, inr, ℕ, suc, zero, ◌-◌, Bool, true, false, List, [], ◌∷◌, ◌++◌, ap, sym, ◌∙◌, refl}
use Rattle.std.proofs.lemmas.List.{append_cancel_right}
use Rattle.plain_model.specs.Tree.{Tree}
use Rattle.plain_model.specs.Shape.{operators}
use Rattle.sql_lex.specs.declared.token.Token.{Token}
use Rattle.sql_expr.specs.declared.role.Role.{Role}
use Rattle.sql_expr.specs.declared.role.Role.TheVariants as role
use Rattle.sql_expr.specs.declared.role.Level.{Level}
use Rattle.sql_expr.specs.declared.role.Level.TheVariants.{Ors, Ands, Nots, Comps, Sums, Prods, Unaries}
use Rattle.sql_expr.specs.Rules.{strict, loose, has_truth}
use Rattle.sql_expr.specs.Roles.{role_of}
use Rattle.sql_expr.specs.Grammar.{joins}
use Rattle.sql_expr.specs.Got.{Done}
use Rattle.sql_expr.specs.Symbols.{Part, part, Symbol, Want, May, Judge, Shut, Nullness, NullAfterNot, AfterNot, Low, Opens, Entry, framed}
use Rattle.sql_expr.specs.Table.{Leave, Action, plainly, follow, comparing}
use Rattle.sql_expr.specs.Machine.{Fault, CantStand, WrongKind, Next, Over, Refuse, only_if, same, judged, opened, counted, stepped, carried_out, feed}
use Rattle.sql_expr.specs.Read.{Open, Ended, go_on, run, no_part, whole, reading, got, read_front}
use Rattle.sql_expr.specs.Laws.{place, IsFront}
use Rattle.sql_expr.proofs.Viable.{end_token}
use Rattle.sql_expr.proofs.Limits.{IsTake, IsGone, gone_counted}
use Rattle.sql_expr.proofs.LawLemmas.{completely, ended, run_append, same_run, gone_on}

-- an operator that may come is left to the symbols behind, or taken
comparing_leaves : (k : Role) (n : ℕ) (now : Part) → (comparing k n now ≡ plainly (Leave now)) ⊎ IsTake (comparing k n now).step
comparing_leaves (role.Compare op) n now = inr tt
comparing_leaves role.Is n now = inr tt
comparing_leaves role.Not n now = inr tt
comparing_leaves role.Between n now = inr tt
comparing_leaves role.In n now = inr tt
comparing_leaves _ n now = inl refl

follow_leaves : (j : Bool) (l : Level) (k : Role) (n : ℕ) (now : Part) → (follow j l k n now ≡ plainly (Leave now)) ⊎ IsTake (follow j l k n now).step
follow_leaves true l k n now = inr tt
follow_leaves false Comps k n now = comparing_leaves k n now
follow_leaves false _ k n now = inl refl

gone_opened : (o : Option ℕ) (at : ℕ) (next : Next) → IsGone next → IsGone (opened loose o at next)
gone_opened None at next h = h
gone_opened (Some zero) at next h = h
gone_opened (Some (suc n)) at next h = h

gone_judged : (o : Option Bool) (now : Part) (next : Next) → IsGone next → IsGone (judged loose o now next)
gone_judged None now next h = h
gone_judged (Some truth) now next h = h

-- with no rules a token that is taken goes on
gone_carried : (a : Action) (stack : List Symbol) (now : Part) (spare at : ℕ) (behind : Part → Next) → IsTake a.step → IsGone (carried_out loose a stack now spare at behind)
gone_carried a stack now spare at behind h =
    gone_judged a.judged now (opened loose a.opens at (counted loose a.counts spare at (stepped a.step stack at behind)))
    (gone_opened a.opens at (counted loose a.counts spare at (stepped a.step stack at behind)) (gone_counted a.counts a.step stack spare at behind h))

may_end : (names : Bool) (n : ℕ) (l : Level) (stack : List Symbol) (now : Part) (spare : ℕ) → feed names strict (May n l ∷ stack) now spare end_token ≡ feed names strict stack now spare end_token
may_end names n Ors stack now spare = refl
may_end names n Ands stack now spare = refl
may_end names n Nots stack now spare = refl
may_end names n Comps stack now spare = refl
may_end names n Sums stack now spare = refl
may_end names n Prods stack now spare = refl
may_end names n Unaries stack now spare = refl

want_end : (names : Bool) (n : ℕ) (l : Level) (stack : List Symbol) (now : Part) (spare : ℕ) → feed names strict (Want n l ∷ stack) now spare end_token ≡ Refuse CantStand 0
want_end names n Ors stack now spare = refl
want_end names n Ands stack now spare = refl
want_end names n Nots stack now spare = refl
want_end names n Comps stack now spare = refl
want_end names n Sums stack now spare = refl
want_end names n Prods stack now spare = refl
want_end names n Unaries stack now spare = refl

refused_over : (why : Fault) (at : ℕ) (out : Part) (k : ℕ) → Refuse why at ≡ Over out k → ⊥
refused_over why at out k h = cc

refused_either : (b : Bool) (why : Fault) (at place_of : ℕ) (out : Part) (k : ℕ) → only_if b WrongKind at (Refuse why place_of) ≡ Over out k → ⊥
refused_either true why at place_of out k h = cc
refused_either false why at place_of out k h = cc

judge_either : (b : Bool) (at : ℕ) (x y z : Next) (out : Part) (k : ℕ) → only_if b WrongKind at x ≡ Over out k → (x ≡ Over out k → (y ≡ Over out k) ⊎ IsGone z) → (only_if b WrongKind at y ≡ Over out k) ⊎ IsGone z
judge_either true at x y z out k h ih = ih h
judge_either false at x y z out k h ih = absurd (refused_over WrongKind at out k h)

may_either : (names : Bool) (a : Action) (stack : List Symbol) (now : Part) (spare : ℕ) (t : Token) (out : Part) (k : ℕ) → (a ≡ plainly (Leave now)) ⊎ IsTake a.step
    → (feed names strict stack now spare t ≡ Over out k) ⊎ IsGone (feed names loose stack now spare t)
    → (carried_out strict a stack now spare t.at (λ p. feed names strict stack p spare t) ≡ Over out k) ⊎ IsGone (carried_out loose a stack now spare t.at (λ p. feed names loose stack p spare t))
may_either names a stack now spare t out k (inl e) h = rw e h
may_either names a stack now spare t out k (inr take) h = inr (gone_carried a stack now spare t.at (λ p. feed names loose stack p spare t) take)

-- where an expression is over at the end, it is over at any token, or goes on with it where there are no rules
over_or_on : (names : Bool) (stack : List Symbol) (now : Part) (spare : ℕ) (t : Token) (out : Part) (k : ℕ) → feed names strict stack now spare end_token ≡ Over out k → (feed names strict stack now spare t ≡ Over out k) ⊎ IsGone (feed names loose stack now spare t)
over_or_on names [] now spare t out k h = inl h
over_or_on names (Want n l ∷ stack) now spare t out k h = absurd (refused_over CantStand 0 out k (sym (want_end names n l stack now spare) ∙ h))
over_or_on names (May n l ∷ stack) now spare t out k h =
    may_either names (follow (joins l (role_of t)) l (role_of t) n now) stack now spare t out k (follow_leaves (joins l (role_of t)) l (role_of t) n now) (over_or_on names stack now spare t out k (sym (may_end names n l stack now spare) ∙ h))
over_or_on names (Judge truth frame ∷ stack) now spare t out k h =
    judge_either (same true (has_truth now.tree) truth) now.at (feed names strict stack (framed frame now) spare end_token) (feed names strict stack (framed frame now) spare t) (feed names loose stack (framed frame now) spare t) out k h (over_or_on names stack (framed frame now) spare t out k)
over_or_on names (Shut at ∷ stack) now spare t out k h = absurd (refused_over CantStand 0 out k h)
over_or_on names (Nullness of ∷ stack) now spare t out k h = absurd (refused_over CantStand 0 out k h)
over_or_on names (NullAfterNot of ∷ stack) now spare t out k h = absurd (refused_over CantStand 0 out k h)
over_or_on names (AfterNot n of ∷ stack) now spare t out k h = absurd (refused_over CantStand 0 out k h)
over_or_on names (Low n negative of ∷ stack) now spare t out k h = absurd (refused_either (same true (has_truth now.tree) false) CantStand now.at 0 out k h)
over_or_on names (Opens n negative of ∷ stack) now spare t out k h = absurd (refused_over CantStand 0 out k h)
over_or_on names (Entry n negative of before ∷ stack) now spare t out k h = absurd (refused_either (same true (has_truth now.tree) false) CantStand now.at 0 out k h)

-- where a front leads, and that it is over at the end
record Leads (names truth : Bool) (front : List Token) (out : Part) (k : ℕ) : Type 0 where
  stack : List Symbol
  now : Part
  spare : ℕ
  leads : reading names strict truth front ≡ Open stack now spare
  over : feed names strict stack now spare end_token ≡ Over out k

first_same : (x y : Token) (us : List Token) → x ∷ [] ≡ y ∷ us → y ≡ x
first_same x y us h = cc

front_leads : (names truth : Bool) (front : List Token) (out : Part) (k : ℕ) → reading names strict truth (front ++ end_token ∷ []) ≡ Ended out k (end_token ∷ []) → Leads names truth front out k
front_leads names truth front out k h =
    let f = ended names strict (front ++ end_token ∷ []) (whole truth) no_part 1000 out k (end_token ∷ []) h in
    let t = f.halts.halt in
    let token_is : t.token ≡ end_token = first_same end_token t.token t.others f.rest_is in
    let same_front : t.front ≡ front = append_cancel_right t.front front (end_token ∷ []) (ap (λ (zs : List Token). t.front ++ zs) f.rest_is ∙ sym t.split) in
    record { stack = t.stack; now = t.now; spare = t.spare; leads = rw same_front at t.leads; over = rw token_is at f.halts.stops }

-- what is behind the front
behind_front : (names truth : Bool) (front : List Token) (t : Token) (others : List Token) (out : Part) (k : ℕ) (l : Leads names truth front out k) → feed names strict l.stack l.now l.spare t ≡ Over out k → reading names strict truth (front ++ t ∷ others) ≡ Ended out k (t ∷ others)
behind_front names truth front t others out k l h =
    run_append names strict front (t ∷ others) (whole truth) l.stack no_part l.now 1000 l.spare l.leads ∙ ap (go_on t others (λ s p m. run names strict s p m others)) h

read_either : (names truth : Bool) (ts : List Token) (e : Tree) (rest : List Token) (f : IsFront names truth ts e rest) (at k : ℕ) (l : Leads names truth f.front (part e at) k)
    → (feed names strict l.stack l.now l.spare f.next ≡ Over (part e at) k) ⊎ IsGone (feed names loose l.stack l.now l.spare f.next) → got (reading names strict truth ts) ≡ Done e rest
read_either names truth ts e rest f at k l (inl h) =
    ap (λ (zs : List Token). got (reading names strict truth zs)) (f.split ∙ ap (λ (zs : List Token). f.front ++ zs) f.rest_is)
    ∙ ap got (behind_front names truth f.front f.next f.others (part e at) k l h) ∙ ap (λ (zs : List Token). Done e zs) (sym f.rest_is)
read_either names truth ts e rest f at k l (inr g) =
    absurd (f.longest (gone_on names truth f.front f.next (feed names loose l.stack l.now l.spare f.next) g
    (run_append names loose f.front (f.next ∷ []) (whole truth) l.stack no_part l.now 1000 l.spare (same_run names loose f.front (whole truth) l.stack no_part l.now 1000 l.spare l.leads))))

pub front_is_read : (names truth : Bool) (ts rest : List Token) (e : Tree) → IsFront names truth ts e rest → read_front names truth ts ≡ Done e rest
unfolding read_front
front_is_read names truth ts rest e f =
    let l = front_leads names truth f.front (part e (place f.front)) (1000 - operators e) (completely names strict truth e f.front (end_token ∷ []) f.whole refl) in
    read_either names truth ts e rest f (place f.front) (1000 - operators e) l (over_or_on names l.stack l.now l.spare f.next (part e (place f.front)) (1000 - operators e) l.over)

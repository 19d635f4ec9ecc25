-- How expressions begin, and that reading one takes a token.
use Rattle.std.specs.Prelude.{Option, Some, None, not}
use Rattle.std.proofs.Common.{◌≡◌, ℕ, suc, zero, ◌+◌, ◌-◌, ◌<◌, Bool, true, false, List, [], ◌∷◌, ◌++◌, length, length-append, ap, sym, ◌∙◌, refl, arith}
use Rattle.plain_model.specs.Tree.{Tree, Entries}
use Rattle.plain_model.specs.Shape.{operators}
use Rattle.plain_model.specs.declared.expr.MathOp.TheVariants.{Sub}
use Rattle.plain_model.specs.declared.expr.MathOp.{MathOp}
use Rattle.sql_lex.specs.declared.keyword.Keyword.{Keyword}
use Rattle.sql_lex.specs.declared.keyword.Keyword.TheVariants as word
use Rattle.sql_lex.specs.declared.token.Mark.TheVariants as mark
use Rattle.sql_lex.specs.declared.token.Mark.{Mark}
use Rattle.sql_lex.specs.declared.token.Token.{Token}
use Rattle.sql_lex.specs.declared.token.TokenKind.{TokenKind}
use Rattle.sql_lex.specs.declared.token.TokenKind.TheVariants as kind
use Rattle.sql_expr.specs.declared.role.Role.{Role}
use Rattle.sql_expr.specs.declared.role.Role.TheVariants as role
use Rattle.sql_expr.specs.declared.role.Level.{Level}
use Rattle.sql_expr.specs.declared.role.Level.TheVariants.{Ors, Ands, Nots, Comps, Sums, Prods}
use Rattle.sql_expr.specs.Rules.{Rules, loose}
use Rattle.sql_expr.specs.Got.{Done}
use Rattle.sql_expr.specs.Grammar.{IsExpr, one, brackets, minus, negation, onward, Follows, nothing, chain, compare, is_null, between, within, AreEntries, last, more, IsWhole}
use Rattle.sql_expr.specs.Roles.{word_role, mark_role, kind_role, role_of, null_of, leaf}
use Rattle.sql_expr.specs.Symbols.{Part, part, Symbol, Whole, May, Judge}
use Rattle.sql_expr.specs.Table.{Step, Stuck, Take, Leave, Action, at_leaf, start_unary, start_not, start}
use Rattle.sql_expr.specs.Machine.{Fault, CantStand, TooDeep, TooMany, Next, Go, Over, Refuse, only_if, judged, opened, counted, stepped, carried_out, feed}
use Rattle.sql_expr.specs.Read.{Outcome, Open, Ended, Stopped, no_part, whole, reading, got}
use Rattle.sql_expr.specs.Laws.{place, Begins}
use Rattle.sql_expr.proofs.Lists.{has, has_some}
use Rattle.sql_expr.proofs.Viable.{end_token, no_kinds, no_levels}
use Rattle.sql_expr.proofs.LawLemmas.{completely, Finishes, ended, front_begins}
use Rattle.sql_form.specs.Grammar.{word_starts, mark_starts, starts}
use Rattle.sql_form.proofs.BoolLemmas.{not_false}

no_null : (k : Role) → word_starts k ≡ false → null_of k ≡ None
no_null role.Null h = cc
no_null _ h = refl

no_leaf : (names : Bool) (k : TokenKind) → starts names k ≡ false → leaf names k ≡ None
no_leaf names (kind.Key word) h = no_null (kind_role (kind.Key word)) h
no_leaf names (kind.Named name) h = rw h refl
no_leaf names (kind.Bracketed name) h = rw h refl
no_leaf names (kind.Number n) h = cc
no_leaf names (kind.Text text) h = cc
no_leaf names (kind.Mark mark) h = refl
no_leaf names kind.Bad h = refl
no_leaf names kind.End h = refl

-- a word or a mark that no expression begins with
abbrev NoStart : Role → Type 0
NoStart role.Open = ⊥
NoStart (role.Math Sub) = ⊥
NoStart role.Not = ⊥
NoStart _ = Unit {0}

never_open : (w : Keyword) → word_role w ≡ role.Open → ⊥
never_open word.And h = cc
never_open word.Or h = cc
never_open word.Not h = cc
never_open word.Is h = cc
never_open word.Null h = cc
never_open word.Between h = cc
never_open word.In h = cc
never_open _ h = cc

never_math : (w : Keyword) (op : MathOp) → word_role w ≡ role.Math op → ⊥
never_math word.And op h = cc
never_math word.Or op h = cc
never_math word.Not op h = cc
never_math word.Is op h = cc
never_math word.Null op h = cc
never_math word.Between op h = cc
never_math word.In op h = cc
never_math _ op h = cc

never_not : (m : Mark) → mark_role m ≡ role.Not → ⊥
never_not mark.Open h = cc
never_not mark.Close h = cc
never_not mark.Comma h = cc
never_not mark.Star h = cc
never_not mark.Plus h = cc
never_not mark.Minus h = cc
never_not mark.Equal h = cc
never_not mark.NotEqual h = cc
never_not mark.Less h = cc
never_not mark.AtMost h = cc
never_not mark.Greater h = cc
never_not mark.AtLeast h = cc
never_not _ h = cc

no_word : (w : Keyword) (k : Role) → word_role w ≡ k → word_starts k ≡ false → NoStart k
no_word w role.Open is h = absurd (never_open w is)
no_word w (role.Math op) is h = absurd (never_math w op is)
no_word w role.Not is h = cc
no_word w _ is h = tt

no_mark : (m : Mark) (k : Role) → mark_role m ≡ k → mark_starts k ≡ false → NoStart k
no_mark m role.Open is h = cc
no_mark m (role.Math Sub) is h = cc
no_mark m role.Not is h = absurd (never_not m is)
no_mark m _ is h = tt

no_start : (names : Bool) (k : TokenKind) → starts names k ≡ false → NoStart (kind_role k)
no_start names (kind.Key word) h = no_word word (word_role word) refl h
no_start names (kind.Named name) h = tt
no_start names (kind.Bracketed name) h = tt
no_start names (kind.Number n) h = tt
no_start names (kind.Text text) h = tt
no_start names (kind.Mark mark) h = no_mark mark (mark_role mark) refl h
no_start names kind.Bad h = tt
no_start names kind.End h = tt

cant_feed : (names : Bool) (r : Rules) (truth : Bool) (t : Token) (k : Role) → role_of t ≡ k → NoStart k → leaf names t.kind ≡ None → feed names r (whole truth) no_part 1000 t ≡ Refuse CantStand t.at
cant_feed names r truth t role.Open is h l = absurd h
cant_feed names r truth t (role.Math Sub) is h l = absurd h
cant_feed names r truth t role.Not is h l = absurd h
cant_feed names r truth t _ is h l = rw (is, l) refl

-- no expression begins with another token
pub cant_start : (names : Bool) (r : Rules) (truth : Bool) (t : Token) (ts : List Token) → starts names t.kind ≡ false → reading names r truth (t ∷ ts) ≡ Stopped CantStand t.at
cant_start names r truth t ts h = rw (cant_feed names r truth t (role_of t) refl (no_start names t.kind h) (no_leaf names t.kind h)) refl

-- the first token leads on, where no rules hold
abbrev IsReady : Role → Option Tree → Type 0
IsReady role.Open o = Unit {0}
IsReady (role.Math Sub) o = Unit {0}
IsReady role.Not o = Unit {0}
IsReady _ (Some e) = Unit {0}
IsReady _ None = ⊥

ready_word : (k : Role) → word_starts k ≡ true → IsReady k (null_of k)
ready_word role.Not h = tt
ready_word role.Null h = tt
ready_word _ h = cc

ready_mark : (k : Role) → mark_starts k ≡ true → IsReady k None
ready_mark role.Open h = tt
ready_mark (role.Math Sub) h = tt
ready_mark _ h = cc

ready : (names : Bool) (k : TokenKind) → starts names k ≡ true → IsReady (kind_role k) (leaf names k)
ready names (kind.Key word) h = ready_word (word_role word) h
ready names (kind.Named name) h = rw h tt
ready names (kind.Bracketed name) h = rw h tt
ready names (kind.Number n) h = tt
ready names (kind.Text text) h = tt
ready names (kind.Mark mark) h = ready_mark (mark_role mark) h
ready names kind.Bad h = cc
ready names kind.End h = cc

abbrev Goes : Next → Type 0
Goes (Go s p m) = Unit {0}
Goes (Over p m) = ⊥
Goes (Refuse why at) = ⊥

go_first : (names truth : Bool) (t : Token) (k : Role) (o : Option Tree) → role_of t ≡ k → leaf names t.kind ≡ o → IsReady k o → Goes (feed names loose (whole truth) no_part 1000 t)
go_first names truth t role.Open o is l h = rw is tt
go_first names truth t (role.Math Sub) o is l h = rw is tt
go_first names truth t role.Not o is l h = rw is tt
go_first names truth t k (Some e) is l h = rw (is, l) tt
go_first names truth t k None is l h = absurd h

gone_first : (names truth : Bool) (t : Token) (next : Next) → feed names loose (whole truth) no_part 1000 t ≡ next → Goes next → Begins names loose truth (t ∷ [])
gone_first names truth t (Go s p m) is h = front_begins names loose truth (t ∷ []) s p m (rw is refl)
gone_first names truth t (Over p m) is h = absurd h
gone_first names truth t (Refuse why at) is h = absurd h

-- an expression begins with such a token
pub start_begins : (names truth : Bool) (t : Token) → starts names t.kind ≡ true → Begins names loose truth (t ∷ [])
start_begins names truth t h = gone_first names truth t (feed names loose (whole truth) no_part 1000 t) refl (go_first names truth t (role_of t) (leaf names t.kind) refl refl (ready names t.kind h))

-- an expression has a token
pub no_expr : (names : Bool) (r : Rules) (truth : Bool) (e : Tree) → IsWhole names r truth e [] → ⊥
no_expr names r truth e w = let h : has [] ≡ true = has_some w.spelled in cc

ended_stopped : (o : Outcome) (p : Part) (m : ℕ) (rest : List Token) (why : Fault) (at : ℕ) → o ≡ Ended p m rest → o ≡ Stopped why at → ⊥
ended_stopped o p m rest why at h k = cc

-- and begins as expressions do
pub expr_begins : (names : Bool) (r : Rules) (truth : Bool) (e : Tree) (t : Token) (ts : List Token) → IsWhole names r truth e (t ∷ ts) → starts names t.kind ≡ true
expr_begins names r truth e t ts w = not_false (starts names t.kind) (λ h. ended_stopped (reading names r truth (t ∷ (ts ++ end_token ∷ []))) (part e (place (t ∷ ts))) (1000 - operators e) (end_token ∷ []) CantStand t.at
    (completely names r truth e (t ∷ ts) (end_token ∷ []) w refl) (cant_start names r truth t (ts ++ end_token ∷ []) h))

-- an expression isn't over before its first token
abbrev NotOver : Next → Type 0
NotOver (Go s p m) = Unit {0}
NotOver (Over p m) = ⊥
NotOver (Refuse why at) = Unit {0}

abbrev NotLeft : Step → Type 0
NotLeft (Leave now) = ⊥
NotLeft _ = Unit {0}

over_if : (b : Bool) (why : Fault) (at : ℕ) (next : Next) → NotOver next → NotOver (only_if b why at next)
over_if true why at next h = h
over_if false why at next h = tt

over_opened : (r : Rules) (o : Option ℕ) (at : ℕ) (next : Next) → NotOver next → NotOver (opened r o at next)
over_opened r None at next h = h
over_opened r (Some zero) at next h = over_if (not r.levels) TooDeep at next h
over_opened r (Some (suc n)) at next h = h

over_counted : (r : Rules) (b : Bool) (spare at : ℕ) (f : ℕ → Next) → ((m : ℕ) → NotOver (f m)) → NotOver (counted r b spare at f)
over_counted r false spare at f h = h spare
over_counted r true zero at f h = over_if (not r.operators) TooMany at (f 0) (h 0)
over_counted r true (suc m) at f h = h m

over_stepped : (step : Step) (stack : List Symbol) (at : ℕ) (behind : Part → Next) → NotLeft step → (m : ℕ) → NotOver (stepped step stack at behind m)
over_stepped Stuck stack at behind n m = tt
over_stepped (Take symbols now) stack at behind n m = tt
over_stepped (Leave now) stack at behind n m = absurd n

-- a step that judges nothing and takes a token, or none can stand
record Begun (a : Action) : Type 0 where
  pub unjudged : a.judged ≡ None
  pub taken : NotLeft a.step

begun_leaf : (o : Option Tree) (at : ℕ) (symbols : List Symbol) → Begun (at_leaf o at symbols)
begun_leaf None at symbols = record { unjudged = refl; taken = tt }
begun_leaf (Some e) at symbols = record { unjudged = refl; taken = tt }

begun_unary : (k : Role) (n : ℕ) (o : Option Tree) (at : ℕ) (now : Part) (symbols : List Symbol) → Begun (start_unary k n o at now symbols)
begun_unary role.Open n o at now symbols = record { unjudged = refl; taken = tt }
begun_unary (role.Math Sub) n o at now symbols = record { unjudged = refl; taken = tt }
begun_unary k n o at now symbols = begun_leaf o at symbols

begun_not : (k : Role) (n : ℕ) (o : Option Tree) (at : ℕ) (now : Part) (symbols : List Symbol) → Begun (start_not k n o at now symbols)
begun_not role.Not n o at now symbols = record { unjudged = refl; taken = tt }
begun_not k n o at now symbols = begun_unary k n o at now (May n Prods ∷ May n Sums ∷ May n Comps ∷ May n Nots ∷ symbols)

unjudged_on : (r : Rules) (o : Option Bool) (now : Part) (next : Next) → o ≡ None → NotOver next → NotOver (judged r o now next)
unjudged_on r o now next is h = rw is h

begun_feed : (r : Rules) (a : Action) (stack : List Symbol) (now : Part) (spare at : ℕ) (behind : Part → Next) → Begun a → NotOver (carried_out r a stack now spare at behind)
begun_feed r a stack now spare at behind b =
    unjudged_on r a.judged now (opened r a.opens at (counted r a.counts spare at (stepped a.step stack at behind))) b.unjudged
    (over_opened r a.opens at (counted r a.counts spare at (stepped a.step stack at behind)) (over_counted r a.counts spare at (stepped a.step stack at behind) (over_stepped a.step stack at behind b.taken)))

not_over : (names : Bool) (r : Rules) (truth : Bool) (t : Token) → NotOver (feed names r (whole truth) no_part 1000 t)
not_over names r truth t = begun_feed r (start Ors (role_of t) 100 (leaf names t.kind) t.at no_part) (Judge truth Whole ∷ []) no_part 1000 t.at (λ p. feed names r (Judge truth Whole ∷ []) p 1000 t)
    (begun_not (role_of t) 100 (leaf names t.kind) t.at no_part (May 100 Ands ∷ May 100 Ors ∷ []))

over_at_once : (names : Bool) (r : Rules) (truth : Bool) (t : Token) (s : List Symbol) (p out : Part) (m left : ℕ) → Open (whole truth) no_part 1000 ≡ Open s p m → feed names r s p m t ≡ Over out left → ⊥
over_at_once names r truth t s p out m left same h =
    let a : s ≡ whole truth = cc in
    let b : p ≡ no_part = cc in
    let c : m ≡ 1000 = cc in
    let f : feed names r (whole truth) no_part 1000 t ≡ Over out left = rw (a, b, c) at h in
    rw f at (not_over names r truth t)

shorter_front : (names : Bool) (r : Rules) (truth : Bool) (ts : List Token) (out : Part) (left : ℕ) (rest : List Token) (f : Finishes names r (whole truth) no_part 1000 ts out left rest) (front : List Token) → f.halts.halt.front ≡ front → length rest < length ts
shorter_front names r truth ts out left rest f [] is = absurd (over_at_once names r truth f.halts.halt.token f.halts.halt.stack f.halts.halt.now out f.halts.halt.spare left (rw is at f.halts.halt.leads) f.halts.stops)
shorter_front names r truth ts out left rest f (t ∷ front) is =
    let split : ts ≡ (t ∷ front) ++ rest = f.halts.halt.split ∙ ap (λ (zs : List Token). zs ++ f.halts.halt.token ∷ f.halts.halt.others) is ∙ ap (λ (zs : List Token). (t ∷ front) ++ zs) (sym f.rest_is) in
    let e : length ts ≡ length ((t ∷ front) ++ rest) = ap (λ (zs : List Token). length zs) split in
    let a : length (front ++ rest) ≡ length front + length rest = length-append front rest in
    omega (arith, e, a)

-- reading an expression takes a token
pub ended_shorter : (names : Bool) (r : Rules) (truth : Bool) (ts : List Token) (out : Part) (left : ℕ) (rest : List Token) → reading names r truth ts ≡ Ended out left rest → length rest < length ts
ended_shorter names r truth ts out left rest h =
    let f = ended names r ts (whole truth) no_part 1000 out left rest h in
    shorter_front names r truth ts out left rest f f.halts.halt.front refl

pub expr_shorter : (names : Bool) (r : Rules) (truth : Bool) (ts : List Token) (o : Outcome) (e : Tree) (rest : List Token) → reading names r truth ts ≡ o → got o ≡ Done e rest → length rest < length ts
expr_shorter names r truth ts (Open s p m) e rest is h = cc
expr_shorter names r truth ts (Ended out left others) e rest is h = let same : others ≡ rest = cc in rw (← same) (ended_shorter names r truth ts out left others is)
expr_shorter names r truth ts (Stopped why at) e rest is h = cc

mutual
  loose_expr : {names : Bool} {r : Rules} {n : ℕ} {l : Level} {e : Tree} {ts : List Token} → IsExpr names r n l e ts → IsExpr names loose n l e ts
  loose_expr (one n t e h) = one n t e h
  loose_expr (brackets n e left right ts o c room h) = brackets n e left right ts o c (no_levels n) (loose_expr h)
  loose_expr (minus n e t ts k room h v) = minus n e t ts k (no_levels n) (loose_expr h) (no_kinds e false)
  loose_expr (negation n e t ts k room h v) = negation n e t ts k (no_levels n) (loose_expr h) (no_kinds e true)
  loose_expr (onward n l a e ts us ha hf) = onward n l a e ts us (loose_expr ha) (loose_follows hf)

  loose_follows : {names : Bool} {r : Rules} {n : ℕ} {l : Level} {a e : Tree} {us : List Token} → Follows names r n l a e us → Follows names loose n l a e us
  loose_follows (nothing n l a) = nothing n l a
  loose_follows (chain n l a b e t ts us j ka hb kb hf) = chain n l a b e t ts us j (no_kinds a _) (loose_expr hb) (no_kinds b _) (loose_follows hf)
  loose_follows (compare n op a b t ts k ka hb kb) = compare n op a b t ts k (no_kinds a false) (loose_expr hb) (no_kinds b false)
  loose_follows (is_null n negative a t u nots k m v ka) = is_null n negative a t u nots k m v (no_kinds a false)
  loose_follows (between n negative a b c t u nots ts us m k v ka hb kb hc kc) = between n negative a b c t u nots ts us m k v (no_kinds a false) (loose_expr hb) (no_kinds b false) (loose_expr hc) (no_kinds c false)
  loose_follows (within n negative a es t left right nots ts m k o c ka room hes) = within n negative a es t left right nots ts m k o c (no_kinds a false) (no_levels n) (loose_entries hes)

  loose_entries : {names : Bool} {r : Rules} {n : ℕ} {es : Entries} {ts : List Token} → AreEntries names r n es ts → AreEntries names loose n es ts
  loose_entries (last n e ts h k) = last n e ts (loose_expr h) (no_kinds e false)
  loose_entries (more n e es t ts us h k c hs) = more n e es t ts us (loose_expr h) (no_kinds e false) c (loose_entries hs)

-- what is an expression by some rules is one without
pub loose_whole : (names : Bool) (r : Rules) (truth : Bool) (e : Tree) (ts : List Token) → IsWhole names r truth e ts → IsWhole names loose truth e ts
loose_whole names r truth e ts w = record { spelled = loose_expr w.spelled; kind = no_kinds e truth; few = λ k. cc }

-- What reading one token, a table or an expression tells.
use Rattle.std.specs.Prelude.{Option, Some, None, ◌&&◌, codes}
use Rattle.std.specs.Str.{bytes_eq}
use Rattle.std.proofs.Common.{◌≡◌, ℕ, Bool, true, false, ◌||◌, List, [], ◌∷◌, ◌++◌, ap, sym, ◌∙◌, refl}
use Rattle.std.proofs.lemmas.List.{append_cancel_right}
use Rattle.std.proofs.lemmas.Slice.Eq.{bytes_eq-Decides}
use Rattle.plain_model.specs.Tree.{Tree}
use Rattle.sql_lex.specs.declared.context_word.ContextWord.TheVariants as place
use Rattle.sql_lex.specs.declared.token.Mark.TheVariants as mark
use Rattle.sql_lex.specs.declared.token.Token.{Token}
use Rattle.sql_lex.specs.declared.token.TokenKind.{TokenKind}
use Rattle.sql_lex.specs.declared.token.TokenKind.TheVariants as kind
use Rattle.sql_lex.specs.Tokens.{is_end}
use Rattle.sql_lex.specs.Words.{letters_of}
use Rattle.sql_expr.specs.declared.role.Role.TheVariants as role
use Rattle.sql_expr.specs.Got.{Got, Done, Refused, and_then}
use Rattle.sql_expr.specs.Read.{Outcome, Open, Ended, Stopped, go_on, run, no_part, whole, reading, got}
use Rattle.sql_expr.specs.Symbols.{Part, Symbol}
use Rattle.sql_expr.specs.Machine.{Fault, CantStand, WrongKind, TooDeep, TooMany}
use Rattle.sql_expr.specs.Roles.{kind_role, role_of}
use Rattle.sql_expr.specs.Laws as expr
use Rattle.sql_expr.specs.Rules as expr_rules
use Rattle.sql_expr.proofs.Agreement.{agree_feed}
use Rattle.sql_expr.proofs.Answering.{NotOpen, not_open}
use Rattle.sql_expr.proofs.Viable.{mark_token}
use Rattle.sql_expr.proofs.LawLemmas.{stopped, ended, run_append, same_run, front_begins, unlimited_begins, placed_feed, place_of, holds_broken, front_is}
use Rattle.sql_form.specs.Rules.{Rules, strict, loose, OfForm, OfExpr, OfText, rules_of}
use Rattle.sql_form.specs.Form.{Leaf, Key, Word, Sign, Nought, AnyName, AnyNumber, FileText, NameText, LeafValue, file_of, text_name_of, said, is_sign, name_of, One, Table, Expr}
use Rattle.sql_form.specs.Grammar.{alone, within, IsForm}
use Rattle.sql_form.specs.Read.{taken, chosen, named, tabled, read}
use Rattle.sql_form.specs.Laws.{has_end, IsPlace}
use Rattle.sql_form.proofs.Shorter.{said_end}
use Rattle.sql_form.proofs.Beginning.{looser_said}
use Rattle.sql_form.proofs.Samples.{Begun, FreeForm, sample}
use Rattle.sql_form.proofs.Told.{Halted, Told}

-- tokens with an end have a first one
pub record HasFirst (ts : List Token) : Type 0 where
  pub next : Token
  pub others : List Token
  pub is : ts ≡ next ∷ others

pub some_first : (ts : List Token) → has_end ts ≡ true → HasFirst ts
some_first [] h = cc
some_first (t ∷ ts) h = record { next = t; others = ts; is = refl }

pub end_behind : (t : Token) (ts : List Token) → is_end t.kind ≡ false → has_end (t ∷ ts) ≡ true → has_end ts ≡ true
end_behind t ts h k = rw h at k

-- the end says nothing
pub no_end : (r : Rules) (l : Leaf) (k : TokenKind) (x : LeafValue l) → said r l k ≡ Some x → is_end k ≡ false
no_end r l kind.End x h = let e = said_end r l in cc
no_end r l _ x h = refl

said_same : (r q : Rules) (l : Leaf) (k : TokenKind) → r.texts ≡ q.texts → said r l k ≡ said q l k
said_same r q (Key wanted) k e = refl
said_same r q (Word wanted) k e = refl
said_same r q (Sign wanted) k e = refl
said_same r q Nought k e = refl
said_same r q AnyName k e = refl
said_same r q AnyNumber k e = refl
said_same r q FileText k e = ap (λ (b : Bool). file_of b k) e
said_same r q NameText k e = ap (λ (b : Bool). text_name_of b k) e

looser_none : (r : Rules) (l : Leaf) (k : TokenKind) (o : Option (LeafValue l)) → said loose l k ≡ None → said r l k ≡ o → o ≡ None
looser_none r l k None h is = refl
looser_none r l k (Some x) h is = let e = looser_said r loose l k x (λ e. cc) is in cc

halted_leaf : (l : Leaf) (t : Token) (ts : List Token) (o : Option (LeafValue l)) → said strict l t.kind ≡ None → said loose l t.kind ≡ o → Halted (LeafValue l) (FreeForm (One l)) (λ r. read r (One l)) (t ∷ ts) t.at
halted_leaf l t ts None h k = record {
  why = OfForm;
  front = [];
  token = t;
  others = ts;
  split = refl;
  place = refl;
  again = λ more. rw k refl;
  before = sample true (One l);
  freed = λ e. cc;
}
halted_leaf l t ts (Some x) h k = record {
  why = OfText;
  front = [];
  token = t;
  others = ts;
  split = refl;
  place = refl;
  again = λ more. let e : said (rules_of OfText) l t.kind ≡ None = said_same (rules_of OfText) strict l t.kind refl ∙ h in rw e refl;
  before = sample true (One l);
  freed = λ e. record { more = []; value = x; is_so = (t, refl, k) };
}

told_said : (l : Leaf) (t : Token) (ts : List Token) → has_end (t ∷ ts) ≡ true → (o : Option (LeafValue l)) → said strict l t.kind ≡ o → Told (LeafValue l) (IsForm strict (One l)) (FreeForm (One l)) (λ r. read r (One l)) (t ∷ ts) (taken o (t ∷ ts))
told_said l t ts e None is = halted_leaf l t ts (said loose l t.kind) is refl
told_said l t ts e (Some x) is =
    let ends = end_behind t ts (no_end strict l t.kind x is) e in
    let s = some_first ts ends in
    record {
      front = t ∷ [];
      next = s.next;
      others = s.others;
      split = ap (λ (zs : List Token). t ∷ zs) s.is;
      rest_is = s.is;
      is_front = (t, refl, is);
      again = λ r more. rw (looser_said strict r l t.kind x (λ k. refl) is) refl;
      ends = ends;
    }

pub told_one : (l : Leaf) (ts : List Token) → has_end ts ≡ true → Told (LeafValue l) (IsForm strict (One l)) (FreeForm (One l)) (λ r. read r (One l)) ts (read strict (One l) ts)
told_one l [] e = cc
told_one l (t ∷ ts) e = told_said l t ts e (said strict l t.kind) refl

named_no_end : (k : TokenKind) (x : List ℕ) → name_of k ≡ Some x → is_end k ≡ false
named_no_end kind.End x h = cc
named_no_end _ x h = refl

dot_no_end : (k : TokenKind) → is_sign mark.Dot k ≡ true → is_end k ≡ false
dot_no_end kind.End h = cc
dot_no_end _ h = refl

and_both : (a b : Bool) → (a && b) ≡ true → (a ≡ true) × (b ≡ true)
and_both true b h = (refl, h)
and_both false b h = cc

abbrev TableTold : List Token → Got (List ℕ) → Type 0
TableTold ts g = Told (List ℕ) (IsForm strict Table) (FreeForm Table) (λ r. read r Table) ts g

named_dbo : (t : Token) (name : List ℕ) → name_of t.kind ≡ Some name → bytes_eq name (letters_of place.Dbo) ≡ true → name_of t.kind ≡ Some (letters_of place.Dbo)
named_dbo t name is h = is ∙ ap (λ (n : List ℕ). Some n) ((bytes_eq-Decides name (letters_of place.Dbo)).0 h)

told_within : (t d : Token) (name : List ℕ) → name_of t.kind ≡ Some name → (bytes_eq name (letters_of place.Dbo) && is_sign mark.Dot d.kind) ≡ true → (us : List Token) → has_end us ≡ true → (u : Token) (ws : List Token) → us ≡ u ∷ ws → (o : Option (List ℕ)) → name_of u.kind ≡ o
    → TableTold (t ∷ d ∷ (u ∷ ws)) (taken o (u ∷ ws))
told_within t d name is dot us e u ws us_is None none = record {
  why = OfForm;
  front = t ∷ d ∷ [];
  token = u;
  others = ws;
  split = refl;
  place = refl;
  again = λ more. rw (is, dot, none) refl;
  before = let both = and_both (bytes_eq name (letters_of place.Dbo)) (is_sign mark.Dot d.kind) dot in record {
    more = mark_token (kind.Named (codes "a")) ∷ [];
    value = codes "a";
    is_so = within t d (mark_token (kind.Named (codes "a"))) (named_dbo t name is both.0) both.1 refl;
  };
  freed = λ e. cc;
}
told_within t d name is dot us e u ws us_is (Some x) so =
    let both = and_both (bytes_eq name (letters_of place.Dbo)) (is_sign mark.Dot d.kind) dot in
    let ends = end_behind u ws (named_no_end u.kind x so) (rw us_is at e) in
    let s = some_first ws ends in
    record {
      front = t ∷ d ∷ u ∷ [];
      next = s.next;
      others = s.others;
      split = ap (λ (zs : List Token). t ∷ d ∷ u ∷ zs) s.is;
      rest_is = s.is;
      is_front = within t d u (named_dbo t name is both.0) both.1 so;
      again = λ r more. rw (is, dot, so) refl;
      ends = ends;
    }

told_dotted : (t d : Token) (us : List Token) (name : List ℕ) → name_of t.kind ≡ Some name → has_end (d ∷ us) ≡ true → (b : Bool) → (bytes_eq name (letters_of place.Dbo) && is_sign mark.Dot d.kind) ≡ b → TableTold (t ∷ d ∷ us) (chosen b (named us) (Done name (d ∷ us)))
told_dotted t d us name is e false not_so = record {
  front = t ∷ [];
  next = d;
  others = us;
  split = refl;
  rest_is = refl;
  is_front = alone t is;
  again = λ r more. rw (is, not_so) refl;
  ends = e;
}
told_dotted t d us name is e true so =
    let both = and_both (bytes_eq name (letters_of place.Dbo)) (is_sign mark.Dot d.kind) so in
    let ends = end_behind d us (dot_no_end d.kind both.1) e in
    let s = some_first us ends in
    rw s.is (told_within t d name is so us ends s.next s.others s.is (name_of s.next.kind) refl)

told_named : (t : Token) (ts : List Token) → has_end (t ∷ ts) ≡ true → (o : Option (List ℕ)) → name_of t.kind ≡ o → TableTold (t ∷ ts) (and_then (taken o (t ∷ ts)) tabled)
told_named t ts e None is = record {
  why = OfForm;
  front = [];
  token = t;
  others = ts;
  split = refl;
  place = refl;
  again = λ more. rw is refl;
  before = sample true Table;
  freed = λ k. cc;
}
told_named t ts e (Some name) is =
    let ends = end_behind t ts (named_no_end t.kind name is) e in
    let s = some_first ts ends in
    rw s.is (told_dotted t s.next s.others name is (rw s.is at ends) (bytes_eq name (letters_of place.Dbo) && is_sign mark.Dot s.next.kind) refl)

pub told_table : (ts : List Token) → has_end ts ≡ true → TableTold ts (read strict Table ts)
told_table [] e = cc
told_table (t ∷ ts) e = told_named t ts e (name_of t.kind) refl

-- where the end stands among tokens
record EndIn (ts : List Token) : Type 0 where
  pub front : List Token
  pub token : Token
  pub others : List Token
  pub split : ts ≡ front ++ token ∷ others
  pub other : role_of token ≡ role.Other

end_kind : (k : TokenKind) → is_end k ≡ true → kind_role k ≡ role.Other
end_kind kind.End h = refl
end_kind _ h = cc

end_role : (t : Token) → is_end t.kind ≡ true → role_of t ≡ role.Other
end_role t h = end_kind t.kind h

end_case : (b : Bool) (t : Token) (ts : List Token) → is_end t.kind ≡ b → (b || has_end ts) ≡ true → (has_end ts ≡ true → EndIn ts) → EndIn (t ∷ ts)
end_case true t ts is h k = record { front = []; token = t; others = ts; split = refl; other = end_role t is }
end_case false t ts is h k = let e = k h in record { front = t ∷ e.front; token = e.token; others = e.others; split = ap (λ (zs : List Token). t ∷ zs) e.split; other = e.other }

end_in : (ts : List Token) → has_end ts ≡ true → EndIn ts
end_in [] h = cc
end_in (t ∷ ts) h = end_case (is_end t.kind) t ts refl h (end_in ts)

-- tokens that lead on have no end
open_no_end : (names : Bool) (truth : Bool) (front : List Token) (s : List Symbol) (p : Part) (m : ℕ) → reading names expr_rules.strict truth front ≡ Open s p m → has_end front ≡ true → ⊥
open_no_end names truth front s p m h e =
    let i = end_in front e in
    let n : NotOpen (reading names expr_rules.strict truth (i.front ++ i.token ∷ i.others)) = not_open names expr_rules.strict i.front i.token i.others i.other (whole truth) no_part 1000 in
    let k : reading names expr_rules.strict truth (i.front ++ i.token ∷ i.others) ≡ Open s p m = ap (reading names expr_rules.strict truth) (sym i.split) ∙ h in
    rw k at n

later_end : (a b : Bool) → b ≡ true → (a || b) ≡ true
later_end true b h = refl
later_end false b h = h

other_end : (a b c : Bool) → ((a || b) ≡ true → ⊥) → (a || c) ≡ true → c ≡ true
other_end true b c never h = absurd (never refl)
other_end false b c never h = h

end_front : (us vs : List Token) → (has_end us ≡ true → ⊥) → has_end (us ++ vs) ≡ true → has_end vs ≡ true
end_front [] vs never h = h
end_front (u ∷ us) vs never h = end_front us vs (λ e. never (later_end (is_end u.kind) (has_end us) e)) (other_end (is_end u.kind) (has_end us) (has_end (us ++ vs)) never h)

abbrev ExprTold : Bool → Bool → List Token → Got Tree → Type 0
ExprTold names truth ts g = Told Tree (IsForm strict (Expr names truth)) (FreeForm (Expr names truth)) (λ r. read r (Expr names truth)) ts g

told_ended : (names truth : Bool) (ts : List Token) (out : Part) (left : ℕ) (rest : List Token) → has_end ts ≡ true → reading names expr_rules.strict truth ts ≡ Ended out left rest → ExprTold names truth ts (Done out.tree rest)
told_ended names truth ts out left rest e h =
    let f = ended names expr_rules.strict ts (whole truth) no_part 1000 out left rest h in
    let t = f.halts.halt in
    let i = front_is names truth ts out left rest h in
    let split : ts ≡ t.front ++ rest = t.split ∙ ap (λ (zs : List Token). t.front ++ zs) (sym f.rest_is) in
    let same : i.front ≡ t.front = append_cancel_right i.front t.front rest (sym i.split ∙ split) in
    record {
      front = t.front;
      next = t.token;
      others = t.others;
      split = t.split;
      rest_is = f.rest_is;
      is_front = rw same at i.whole;
      again = λ r more. ap got (run_append names r.exprs t.front (t.token ∷ more) (whole truth) t.stack no_part t.now 1000 t.spare (same_run names r.exprs t.front (whole truth) t.stack no_part t.now 1000 t.spare t.leads)
          ∙ ap (go_on t.token more (λ s2 p2 m2. run names r.exprs s2 p2 m2 more)) (rw f.halts.stops at (agree_feed names r.exprs t.stack t.now t.spare t.token)));
      ends = end_front t.front rest (open_no_end names truth t.front t.stack t.now t.spare t.leads) (rw split at e);
    }

expr_place : (names : Bool) (why : Fault) (at : ℕ) (front : List Token) (t : Token) → expr.IsPlace names why at front t → IsPlace (OfExpr why) at front t
expr_place names WrongKind at front t h = (names, h)
expr_place names CantStand at front t h = h
expr_place names TooDeep at front t h = h
expr_place names TooMany at front t h = h

abbrev expr_begun : (texts names truth : Bool) (front : List Token) → expr.Begins names expr_rules.loose truth front → Begun Tree (FreeForm (Expr names truth) texts) front
expr_begun texts names truth front b = record { more = b.more; value = b.tree; is_so = b.whole }

told_stopped : (names truth : Bool) (ts : List Token) (why : Fault) (at : ℕ) → reading names expr_rules.strict truth ts ≡ Stopped why at → ExprTold names truth ts (Refused at)
told_stopped names truth ts why at h =
    let s = stopped names expr_rules.strict ts (whole truth) no_part 1000 why at h in
    let t = s.halt in
    record {
      why = OfExpr why;
      front = t.front;
      token = t.token;
      others = t.others;
      split = t.split;
      place = expr_place names why at t.front t.token (place_of names truth why at t.front t.token t.stack t.now t.spare t.leads s.stops (rw s.stops at (placed_feed names expr_rules.strict t.stack t.now t.spare t.token)));
      again = λ more. ap got (run_append names (expr.broken why) t.front (t.token ∷ more) (whole truth) t.stack no_part t.now 1000 t.spare (same_run names (expr.broken why) t.front (whole truth) t.stack no_part t.now 1000 t.spare t.leads)
          ∙ ap (go_on t.token more (λ s2 p2 m2. run names (expr.broken why) s2 p2 m2 more)) ((rw s.stops at (agree_feed names (expr.broken why) t.stack t.now t.spare t.token)) (holds_broken why)));
      before = expr_begun true names truth t.front (front_begins names expr_rules.strict truth t.front t.stack t.now t.spare t.leads);
      freed = λ e. expr_begun false names truth (t.front ++ t.token ∷ []) (unlimited_begins names truth t.front t.token t.stack t.now t.spare why at t.leads s.stops e);
    }

told_outcome : (names truth : Bool) (ts : List Token) → has_end ts ≡ true → (o : Outcome) → reading names expr_rules.strict truth ts ≡ o → ExprTold names truth ts (got o)
told_outcome names truth ts e (Open s p m) h = absurd (open_no_end names truth ts s p m h e)
told_outcome names truth ts e (Ended out left rest) h = told_ended names truth ts out left rest e h
told_outcome names truth ts e (Stopped why at) h = told_stopped names truth ts why at h

pub told_expr : (names truth : Bool) (ts : List Token) → has_end ts ≡ true → ExprTold names truth ts (read strict (Expr names truth) ts)
told_expr names truth ts e = told_outcome names truth ts e (reading names expr_rules.strict truth ts) refl

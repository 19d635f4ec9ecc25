-- Whatever was read begins an expression, kinds and limits left aside: the shortest tokens that complete it.
use Rattle.std.proofs.Common.{ℕ, ◌-◌, Bool, true, false, List, [], ◌∷◌, ◌++◌, refl}
use Rattle.plain_model.specs.Tree.{Tree, Null, Not, Between, Last}
use Rattle.sql_lex.specs.declared.keyword.Keyword.TheVariants as word
use Rattle.sql_lex.specs.declared.token.Mark.TheVariants as mark
use Rattle.sql_lex.specs.declared.token.Token.{Token}
use Rattle.sql_lex.specs.declared.token.TokenKind.{TokenKind}
use Rattle.sql_lex.specs.declared.token.TokenKind.TheVariants as kind
use Rattle.sql_expr.specs.declared.role.Level.{Level}
use Rattle.sql_expr.specs.declared.role.Level.TheVariants.{Ors, Ands, Nots, Comps, Sums, Prods, Unaries}
use Rattle.sql_expr.specs.Rules.{loose, Fits, HasRoom}
use Rattle.sql_expr.specs.Grammar.{inner, negated, IsExpr, one, onward, nothing, last}
use Rattle.sql_expr.specs.Symbols.{Part, part, framed, Symbol, Want, May, Judge, Shut, Nullness, NullAfterNot, AfterNot, Low, Opens, Entry, onto, null_test, membership}
use Rattle.sql_expr.proofs.Sound.{Ends, bounded, list, no_more_entries}

abbrev pub mark_token : TokenKind → Token
mark_token k = record { at = 0; kind = k }

abbrev null_token : Token
null_token = mark_token (kind.Key word.Null)

abbrev pub end_token : Token
end_token = mark_token kind.End

pub no_kinds : (e : Tree) (truth : Bool) → Fits loose e truth
no_kinds e truth = λ k. cc

pub no_levels : (n : ℕ) → HasRoom loose n
no_levels n = λ k. cc

null_inner : (names : Bool) (n : ℕ) (l : Level) → IsExpr names loose n (inner l) Null (null_token ∷ []) → IsExpr names loose n l Null (null_token ∷ [])
null_inner names n l x = onward n l Null Null (null_token ∷ []) [] x (nothing n l Null)

null_unary : (names : Bool) (n : ℕ) → IsExpr names loose n Unaries Null (null_token ∷ [])
null_unary names n = one n null_token Null refl

null_comp : (names : Bool) (n : ℕ) → IsExpr names loose n Comps Null (null_token ∷ [])
null_comp names n = null_inner names n Comps (null_inner names n Sums (null_inner names n Prods (null_unary names n)))

null_expr : (names : Bool) (n : ℕ) (l : Level) → IsExpr names loose n l Null (null_token ∷ [])
null_expr names n Unaries = null_unary names n
null_expr names n Prods = null_inner names n Prods (null_unary names n)
null_expr names n Sums = null_inner names n Sums (null_inner names n Prods (null_unary names n))
null_expr names n Comps = null_comp names n
null_expr names n Nots = null_inner names n Nots (null_comp names n)
null_expr names n Ands = null_inner names n Ands (null_inner names n Nots (null_comp names n))
null_expr names n Ors = null_inner names n Ors (null_inner names n Ands (null_inner names n Nots (null_comp names n)))

-- tokens with which all that may still come is over
pub record Completes (names : Bool) (stack : List Symbol) (now : Part) : Type 0 where
  pub more : List Token
  pub out : Part
  pub ends : Ends names loose stack now (more ++ end_token ∷ []) out (end_token ∷ [])

pub completes : (names : Bool) (stack : List Symbol) (now : Part) → Completes names stack now
completes names [] now = record { more = []; out = now; ends = (refl, refl) }
completes names (Want n l ∷ stack) now =
    let c = completes names stack (part Null 0) in
    record { more = null_token ∷ c.more; out = c.out; ends = (Null, null_token ∷ [], c.more ++ end_token ∷ [], null_expr names n l, refl, c.ends) }
completes names (May n l ∷ stack) now = let c = completes names stack now in record { more = c.more; out = c.out; ends = (now.tree, [], c.more ++ end_token ∷ [], nothing n l now.tree, refl, c.ends) }
completes names (Judge truth frame ∷ stack) now = let c = completes names stack (framed frame now) in record { more = c.more; out = c.out; ends = (no_kinds now.tree truth, c.ends) }
completes names (Shut at ∷ stack) now =
    let c = completes names stack (part now.tree at) in
    record { more = mark_token (kind.Mark mark.Close) ∷ c.more; out = c.out; ends = (mark_token (kind.Mark mark.Close), c.more ++ end_token ∷ [], refl, refl, c.ends) }
completes names (Nullness left ∷ stack) now =
    let c = completes names stack (null_test false left) in record { more = null_token ∷ c.more; out = c.out; ends = (false, [], null_token, c.more ++ end_token ∷ [], tt, refl, refl, c.ends) }
completes names (NullAfterNot left ∷ stack) now =
    let c = completes names stack (null_test true left) in record { more = null_token ∷ c.more; out = c.out; ends = (null_token, c.more ++ end_token ∷ [], refl, refl, c.ends) }
completes names (AfterNot n left ∷ stack) now =
    let c = completes names stack (part (Not (Between left.tree Null Null)) left.at) in
    record {
      more = mark_token (kind.Key word.Between) ∷ null_token ∷ mark_token (kind.Key word.And) ∷ null_token ∷ c.more;
      out = c.out;
      ends = (
        Not (Between left.tree Null Null),
        mark_token (kind.Key word.Between),
        null_token ∷ mark_token (kind.Key word.And) ∷ null_token ∷ [],
        c.more ++ end_token ∷ [],
        bounded n true left.tree Null Null (mark_token (kind.Key word.Between)) (mark_token (kind.Key word.And)) (null_token ∷ []) (null_token ∷ []) refl refl (null_expr names n Sums) (no_kinds Null false) (null_expr names n Sums) (no_kinds Null false),
        refl,
        c.ends,
      );
    }
completes names (Low n negative left ∷ stack) now =
    let c = completes names stack (part (negated negative (Between left.tree now.tree Null)) left.at) in
    record {
      more = mark_token (kind.Key word.And) ∷ null_token ∷ c.more;
      out = c.out;
      ends = (no_kinds now.tree false, (mark_token (kind.Key word.And), null_token ∷ [], c.more ++ end_token ∷ [], Null, refl, null_expr names n Sums, no_kinds Null false, refl, c.ends));
    }
completes names (Opens n negative left ∷ stack) now =
    let c = completes names stack (membership negative left (Last Null)) in
    record {
      more = mark_token (kind.Mark mark.Open) ∷ null_token ∷ mark_token (kind.Mark mark.Close) ∷ c.more;
      out = c.out;
      ends = (
        Last Null,
        mark_token (kind.Mark mark.Open) ∷ null_token ∷ mark_token (kind.Mark mark.Close) ∷ [],
        c.more ++ end_token ∷ [],
        list n (Last Null) (mark_token (kind.Mark mark.Open)) (mark_token (kind.Mark mark.Close)) (null_token ∷ []) refl refl (no_levels n) (last (n - 1) Null (null_token ∷ []) (null_expr names (n - 1) Ors) (no_kinds Null false)),
        refl,
        c.ends,
      );
    }
completes names (Entry n negative left before ∷ stack) now =
    let c = completes names stack (membership negative left (onto before (Last now.tree))) in
    record {
      more = mark_token (kind.Mark mark.Close) ∷ c.more;
      out = c.out;
      ends = (no_kinds now.tree false, (Last now.tree, [], mark_token (kind.Mark mark.Close), c.more ++ end_token ∷ [], no_more_entries n now.tree, refl, refl, c.ends));
    }

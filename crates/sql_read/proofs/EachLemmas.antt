-- Each statement of a batch has a place.
use Rattle.std.proofs.Common.{◌≡◌, ◌<◌, ◌+◌, ℕ, suc, zero, true, List, [], ◌∷◌, ◌++◌, length, ap, sym, ◌∙◌, refl, arith, inl, inr, append_assoc}
use Rattle.plain_model.specs.declared.stmt.Stmt.{Stmt}
use Rattle.sql_lex.specs.declared.token.Token.{Token}
use Rattle.sql_lex.specs.Ahead.{first_of}
use Rattle.sql_form.specs.Form.{Value}
use Rattle.sql_form.specs.Grammar.{IsForm, AreMany, first}
use Rattle.sql_form.specs.Rules.{strict}
use Rattle.sql_stmt.specs.Saying.{SayEach}
use Rattle.sql_stmt.specs.Statements.{statement, ended}
use Rattle.sql_read.specs.Grammar.{IsBatch}
use Rattle.sql_read.specs.Place.{IsRefusedAt}
use Rattle.sql_read.specs.StmtPlace.{IsStmtPlace}
use Rattle.sql_read.proofs.PlaceLemmas.{Stands, stands_form}

-- so many values stand in front of these tokens, and one begins behind them
record Reaches (n : ℕ) (vs : List Token) : Type 0 where
  pub front : List Token
  pub rest : List Token
  pub split : vs ≡ front ++ rest
  pub values : List (Value ended)
  pub so_many : length values ≡ n
  pub are : AreMany (IsForm strict ended) values front
  pub stands : (more : List Token) → Stands (rest ++ more)

reaches : (n : ℕ) (xs : List (Value ended)) (vs : List Token) → AreMany (IsForm strict ended) xs vs → n < length xs → Reaches n vs
reaches n [] vs h lt = absurd (omega (arith, lt))
reaches zero (x ∷ xs) vs (us, ws, split, one, more) lt = record {
  front = [];
  rest = vs;
  split = refl;
  values = [];
  so_many = refl;
  are = refl;
  stands = λ others. rw (split, append_assoc us ws others) (stands_form x us (ws ++ others) one);
}
reaches (suc n) (x ∷ xs) vs (us, ws, split, one, more) lt =
    let r = reaches n xs ws more (omega (arith, lt)) in
    record {
      front = us ++ r.front;
      rest = r.rest;
      split = split ∙ ap (λ ts. us ++ ts) r.split ∙ sym (append_assoc us r.front r.rest);
      values = x ∷ r.values;
      so_many = let m = r.so_many in omega (arith, m);
      are = (us, r.front, refl, one, r.are);
      stands = r.stands;
    }

begins_first : (ts : List Token) → Stands ts → first statement (first_of ts).kind ≡ true
begins_first ts s = rw s.split s.begins_one

said_each : {R V : Type 0} (says : R → V → Type 0) (rs : List R) (vs : List V) → SayEach says rs vs → length rs ≡ length vs
said_each says [] [] h = refl
said_each says [] (v ∷ vs) h = absurd h
said_each says (r ∷ rs) [] h = absurd h
said_each says (r ∷ rs) (v ∷ vs) h = let e = said_each says rs vs h.1 in omega (arith, e)

-- a batch of the grammar has a place for each of its statements
pub each_place : (bytes : List ℕ) (stmts : List Stmt) (n : ℕ) → IsBatch bytes stmts → n < length stmts → (at : ℕ) × IsStmtPlace bytes n at
each_place bytes stmts n b lt =
    let same = said_each _ stmts b.value b.says in
    let r = reaches n b.value b.is.front b.is.is (omega (arith, lt, same)) in
    let rest : List Token = r.rest ++ b.is.last ∷ b.is.others in (
      (first_of rest).at,
      record {
        tokens = b.tokens;
        lexes = b.lexes;
        front = r.front;
        rest = rest;
        split = b.is.split ∙ ap (λ ts. ts ++ b.is.last ∷ b.is.others) r.split ∙ append_assoc r.front r.rest (b.is.last ∷ b.is.others);
        values = r.values;
        so_many = r.so_many;
        are = r.are;
        begins = inr (begins_first rest (r.stands (b.is.last ∷ b.is.others)));
        place = refl;
      },
    )

-- any batch that is refused has a first token
pub first_place : (bytes : List ℕ) (at : ℕ) → IsRefusedAt bytes at → (place : ℕ) × IsStmtPlace bytes 0 place
first_place bytes at r = (
  (first_of r.tokens).at,
  record {
    tokens = r.tokens;
    lexes = r.lexes;
    front = [];
    rest = r.tokens;
    split = refl;
    values = [];
    so_many = refl;
    are = refl;
    begins = inl refl;
    place = refl;
  },
)

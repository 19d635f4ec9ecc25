-- The laws of batches, from those of forms.
use Rattle.std.proofs.Common.{◌≡◌, ℕ, List, ◌∷◌, ap, sym, ◌∙◌, refl}
use Rattle.sql_lex.specs.declared.token.Token.{Token}
use Rattle.sql_lex.specs.Tokens.{Lexes}
use Rattle.sql_lex.proofs.Cutting.{one_cutting}
use Rattle.sql_expr.specs.Got.{Done}
use Rattle.sql_form.specs.Form.{Value}
use Rattle.sql_form.specs.Grammar.{IsPlain}
use Rattle.sql_form.specs.Laws.{IsAll}
use Rattle.sql_form.specs.Read.{read_whole}
use Rattle.sql_form.proofs.Batches.{batch_ends}
use Rattle.sql_form.proofs.PlainLemmas.{plain_is}
use Rattle.sql_form.proofs.WholeLemmas.{whole_is, whole_read, whole_refused}
use Rattle.sql_stmt.specs.Laws.{IsBatch, IsTold}
use Rattle.sql_stmt.specs.Statements.{batch}

pub batch_plain : IsPlain batch
batch_plain = plain_is batch refl

-- all that is of the grammar before the end is read
record Read (ts : List Token) (x : Value batch) : Type 0 where
  pub rest : List Token
  pub is : read_whole batch ts ≡ Done x rest

all_read : (ts : List Token) (x : Value batch) → IsAll batch ts x → Read ts x
all_read ts x a = record { rest = a.last ∷ a.others; is = ap (read_whole batch) a.split ∙ whole_read batch batch_plain x a.front a.others a.last a.is a.ends }

done_values : {A : Type 0} (x y : A) (us vs : List Token) → Done x us ≡ Done y vs → x ≡ y
done_values x y us vs h = cc

same_cut : (bytes : List ℕ) (ts us : List Token) → Lexes 0 bytes ts → Lexes 0 bytes us → ts ≡ us
same_cut bytes ts us h k = let cut = one_cutting bytes in cut.2 ts h ∙ sym (cut.2 us k)

batch_read : (bytes : List ℕ) (ts : List Token) (x : Value batch) → Lexes 0 bytes ts → IsBatch bytes x → Read ts x
batch_read bytes ts x h b = all_read ts x (rw (same_cut bytes b.tokens ts b.lexes h) at b.is)

pub one_thing : (bytes : List ℕ) (x y : Value batch) → IsBatch bytes x → IsBatch bytes y → x ≡ y
one_thing bytes x y a b =
    let r = batch_read bytes a.tokens x a.lexes a in
    let s = batch_read bytes a.tokens y a.lexes b in
    done_values x y r.rest s.rest (sym r.is ∙ s.is)

pub told : (bytes : List ℕ) (ts : List Token) → Lexes 0 bytes ts → IsTold bytes ts
told bytes ts h = record {
  read = λ rest x k. record { tokens = ts; lexes = h; is = whole_is batch batch_plain ts rest x (batch_ends 0 bytes ts h) k };
  whole = λ x b. let r = batch_read bytes ts x h b in (r.rest, r.is);
  refused = λ at k. whole_refused batch batch_plain ts at (batch_ends 0 bytes ts h) k;
}

-- How many parts of a list can be counted.
use Rattle.std.specs.Prelude.{cond, Option, Some, None, is_some, ◌&&◌, ◌||◌}
use Rattle.std.proofs.Common.{◌≡◌, ℕ, zero, suc, ◌+◌, ◌-◌, ◌≤◌, Bool, true, false, List, [], ◌∷◌, ◌++◌, length, ap, sym, ◌∙◌, refl, arith, subst}
use Rattle.sql_lex.specs.declared.token.Token.{Token}
use Rattle.sql_lex.specs.declared.token.TokenKind.{TokenKind}
use Rattle.sql_lex.specs.declared.token.TokenKind.TheVariants.{End}
use Rattle.sql_lex.specs.declared.token.Mark.TheVariants as mark
use Rattle.sql_lex.specs.Ahead.{first_of, behind_first}
use Rattle.sql_lex.specs.Tokens.{token}
use Rattle.sql_expr.specs.Got.{Got, Done, Refused, and_then}
use Rattle.sql_form.specs.Form.{Form, Value, Parts, Either, Left, Right, is_sign, if_so, name_of}
use Rattle.sql_form.specs.Grammar.{IsPlain, IsForm, continues, first, counts, is_full, spared}
use Rattle.sql_form.specs.Read.{read, made, chosen, joined, taken, limited, followed, listed}
use Rattle.sql_form.specs.Rules.{strict}
use Rattle.sql_form.proofs.Complete.{complete}
use Rattle.sql_form.proofs.Shorter.{continues_end}
use Rattle.sql_form.proofs.PlainLemmas.{plain_is}
use Rattle.std.specs.Prelude.{Result, Ok, Err, IfOk}
use Rattle.sql_lex.specs.declared.refusal.ParseRefusal.{ParseRefusal}
use Rattle.table_def.specs.declared.parts.TablePart.{TablePart}
use Rattle.table_def.specs.declared.parts.TablePart.TheVariants.{Column, Key}
use Rattle.table_def.specs.Parts.{written}
use Rattle.sql_stmt.specs.Answers.{Gives}
use Rattle.sql_stmt.specs.Defining.{SaysPart}
use Rattle.sql_stmt.specs.Saying.{SayEach}
use Rattle.sql_stmt.specs.ChangeForms.{row, rows}
use Rattle.sql_stmt.specs.TableForms.{column_part, key_part, table_part, table_parts}
use Rattle.sql_stmt.proofs.ListLemmas.{limited_done}

-- how many pass a test
abbrev pub how_many : {A : Type 0} → (A → Bool) → List A → ℕ
how_many q [] = 0
how_many q (x ∷ xs) = cond (q x) 1 0 + how_many q xs

-- what was made of what was read
record Made {A B : Type 0} (make : A → B) (g : Got A) (y : B) (us : List Token) : Type 0 where
  pub value : A
  pub is : g ≡ Done value us
  pub made_is : make value ≡ y

made_of : {A B : Type 0} (make : A → B) (g : Got A) (y : B) (us : List Token) → made make g ≡ Done y us → Made make g y us
made_of make (Done x vs) y us h = let e : make x ≡ y = cc in let f : vs ≡ us = cc in record { value = x; is = ap (Done x) f; made_is = e }
made_of make (Refused at) y us h = cc

-- a part in front of what follows
record Parted {A : Type 0} (g : Got A) (more : A → List Token → Got (List A)) (xs : List A) (rest : List Token) : Type 0 where
  pub value : A
  pub left : List Token
  pub is : g ≡ Done value left
  pub more_is : more value left ≡ Done xs rest

parted : {A : Type 0} (g : Got A) (more : A → List Token → Got (List A)) (xs : List A) (rest : List Token) → and_then g more ≡ Done xs rest → Parted g more xs rest
parted (Done x us) more xs rest h = record { value = x; left = us; is = refl; more_is = h }
parted (Refused at) more xs rest h = cc

count_more : {A : Type 0} (q : A → Bool) (x : A) (xs : List A) (b : Bool) (n : ℕ) → (q x ≡ true → b ≡ true) → is_full true b n ≡ false → how_many q xs ≤ spared b n → how_many q (x ∷ xs) ≤ n
count_more q x xs true zero h full few = cc
count_more q x xs true (suc n) h full few = count_true (q x) (how_many q xs) n few
  where
    count_true : (b : Bool) (c n : ℕ) → c ≤ suc n - 1 → cond b 1 0 + c ≤ suc n
    count_true true c n few = omega arith
    count_true false c n few = omega arith
count_more q x xs false n h full few = count_false (q x) (how_many q xs) n refl h few
  where
    count_false : (b : Bool) (c n : ℕ) → b ≡ q x → (q x ≡ true → false ≡ true) → c ≤ n → cond b 1 0 + c ≤ n
    count_false true c n e h few = let k = h (sym e) in cc
    count_false false c n e h few = omega arith

behind_part : {A : Type 0} (q : A → Bool) (b : Bool) (x : A) (us : List Token) (more : List Token → Got (List A)) (xs : List A) (rest : List Token) (n : ℕ)
    → chosen b (made (λ ys. x ∷ ys) (more (behind_first us))) (Done (x ∷ []) us) ≡ Done xs rest
    → ((ys : List A) (vs : List Token) → more (behind_first us) ≡ Done ys vs → how_many q ys ≤ n) → (ys : List A) × (xs ≡ x ∷ ys) × (how_many q ys ≤ n)
behind_part q true x us more xs rest n h few =
    let m = made_of (λ ys. x ∷ ys) (more (behind_first us)) xs rest h in
    (m.value, sym m.made_is, few m.value rest m.is)
behind_part q false x us more xs rest n h few = let e : x ∷ [] ≡ xs = cc in ([], sym e, omega arith)

-- of the parts that were read no more pass a test that only counted parts pass than may be counted
pub few_listed : {A : Type 0} (q : A → Bool) (counted : TokenKind → Bool) (step : List Token → Got A) → ((ts us : List Token) (x : A) → step ts ≡ Done x us → q x ≡ true → counted (first_of ts).kind ≡ true)
    → (often n : ℕ) (ts : List Token) (xs : List A) (rest : List Token) → listed true counted step often n ts ≡ Done xs rest → how_many q xs ≤ n
few_listed q counted step pass zero n ts xs rest h = cc
few_listed q counted step pass (suc often) n ts xs rest h =
    let b = counted (first_of ts).kind in
    let l = limited_done (is_full true b n) (first_of ts).at (and_then (step ts) (λ x us. followed x (listed true counted step often (spared b n)) us)) xs rest h in
    let p = parted (step ts) (λ x us. followed x (listed true counted step often (spared b n)) us) xs rest l.1 in
    let f = behind_part q (is_sign mark.Comma (first_of p.left).kind) p.value p.left (listed true counted step often (spared b n)) xs rest (spared b n) p.more_is
    (λ ys vs e. few_listed q counted step pass often (spared b n) (behind_first p.left) ys vs e) in
    rw f.1 (count_more q p.value f.0 b n (pass ts p.left p.value p.is) l.0 f.2)

-- the number of columns among parts
abbrev pub is_column_value : Value table_part → Bool
is_column_value (Left v) = true
is_column_value (Right v) = false

column_made : (b : Bool) (g : Got (Value column_part)) (h : Got (Value key_part)) (x : Value table_part) (us : List Token) → chosen b (made Left g) (made Right h) ≡ Done x us → is_column_value x ≡ true → b ≡ true
column_made true g h x us e k = refl
column_made false g h x us e k = let m = made_of Right h x us e in absurd (true_false (ap is_column_value m.made_is ∙ k))
  where
    true_false : false ≡ true → ⊥
    true_false e = cc

counted_column : (b c d : Bool) → b ≡ true → ((b || c) && (false || b)) ≡ true
counted_column true c d h = refl
counted_column false c d h = cc

-- a part that is a column begins with a name
column_counted : (ts us : List Token) (x : Value table_part) → read strict table_part ts ≡ Done x us → is_column_value x ≡ true → counts false table_part (first_of ts).kind ≡ true
column_counted ts us x h k =
    let named : is_some (name_of (first_of ts).kind) ≡ true = column_made (is_some (name_of (first_of ts).kind)) (read strict column_part ts) (read strict key_part ts) x us h k in
    rw named refl

-- at most 64 parts of a table's definition are columns
pub few_columns : (ts : List Token) (xs : List (Value table_part)) (rest : List Token) → read strict table_parts ts ≡ Done xs rest → how_many is_column_value xs ≤ 64
few_columns ts xs rest h = few_listed is_column_value (counts false table_part) (read strict table_part) column_counted (suc (length ts)) 64 ts xs rest h

row_counted : (ts us : List Token) (x : Value row) → read strict row ts ≡ Done x us → true ≡ true → counts true row (first_of ts).kind ≡ true
row_counted ts us x h k = open_first (is_sign mark.Open (first_of ts).kind) ts us x _ h
  where
    open_first : {B : Type 0} (b : Bool) (ts us : List Token) (x : Unit {0} × B) (more : List Token → Got B) → joined (λ p q. (p, q)) (taken (if_so b) ts) more ≡ Done x us → (is_some (if_so b) && true) ≡ true
    open_first true ts us x more h = refl
    open_first false ts us x more h = cc

count_all : {A : Type 0} (xs : List A) → how_many (λ x. true) xs ≡ length xs
count_all [] = refl
count_all (x ∷ xs) = let e = count_all xs in omega (arith, e)

-- an INSERT has at most 1,000 rows
pub few_rows : (ts : List Token) (xs : List (Value row)) (rest : List Token) → read strict rows ts ≡ Done xs rest → length xs ≤ 1000
few_rows ts xs rest h = rw (← count_all xs) (few_listed (λ x. true) (counts true row) (read strict row) row_counted (suc (length ts)) 1000 ts xs rest h)

-- as many parts are columns as their values say
pub written_columns : (parts : List TablePart) (vs : List (Value table_part)) → SayEach SaysPart parts vs → length (written parts) ≡ how_many is_column_value vs
written_columns [] [] h = refl
written_columns [] (v ∷ vs) h = absurd h
written_columns (p ∷ ps) [] h = absurd h
written_columns (Column c ∷ ps) (Left v ∷ vs) h = let e = written_columns ps vs h.1 in omega (arith, e)
written_columns (Column c ∷ ps) (Right v ∷ vs) h = absurd h.0
written_columns (Key names ∷ ps) (Left v ∷ vs) h = absurd h.0
written_columns (Key names ∷ ps) (Right v ∷ vs) h = let e = written_columns ps vs h.1 in omega (arith, e)

-- the parts that were read have no more columns
pub few_written : (r : Result (List TablePart) ParseRefusal) (ts left : List Token) → Gives (SayEach SaysPart) r (read strict table_parts ts) left → IfOk r (λ parts. length (written parts) ≤ 64)
few_written (Ok parts) ts left h = rw (written_columns parts h.value h.means) (few_columns ts h.value left h.is)
few_written (Err e) ts left h = tt

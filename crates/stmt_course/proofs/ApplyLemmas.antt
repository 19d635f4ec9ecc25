-- Rows that are put into one table, and keys that are cut from it, among all tables.
use Rattle.std.proofs.Common.{refl, ◌≡◌, ℕ, Bool, true, false, cond, List, [], ◌∷◌, ◌++◌, length, map, ap, sym, ◌∙◌, arith, suc}
use Rattle.std.specs.Prelude.{Option, Some}
use Rattle.std.specs.FinMap as finite
use Rattle.std.specs.FinMap.{same_map, nat_cmp-IsAntisymmetric, slice_cmp-IsAntisymmetric}
use Rattle.std.specs.Cmp.Lexicographic.{nat_list_cmp_total}
use Rattle.std.specs.Str.{bytes_eq}
use Rattle.std.specs.declared.result.Result.{Result}
use Rattle.std.specs.declared.result.Result.TheVariants as result
use Rattle.page_base.specs.declared.value.Value.{Value}
use Rattle.plain_model.specs.declared.reply.Message.{Message}
use Rattle.plain_model.specs.declared.stmt.Stmt.{Stmt}
use Rattle.plain_model.specs.declared.stmt.Stmt.TheVariants.{Insert, Select, Update, Delete}
use Rattle.plain_model.specs.Statements.{data_over, table_named, changes_of, is_of_rows}
use Rattle.plain_model.specs.Outcomes.{taken_from}
use Rattle.plain_model.specs.Inserting.{target_names, new_row, inserted_from}
use Rattle.plain_model.specs.Changing.{updated_row, deleted_row}
use Rattle.plain_model.specs.Tables.{Table, Tables, Change, Put, Cut, with_row, without_key, changed, apply, rows_of}
use Rattle.table_walk.specs.Plans.{cut_all, put_all}
use Rattle.page_tables.proofs.CreateLemmas.{get_put}
use Rattle.plain_steps.proofs.LockLemmas.{same_bytes, bytes_same}
use Rattle.stmt_eval.specs.declared.effect.Effect.{Effect}
use Rattle.stmt_eval.specs.Verdicts.{changes_in, IsEffect}

pub tables_same : (m n : Tables) → ((q : List ℕ) → finite.get m q ≡ finite.get n q) → m ≡ n
tables_same = same_map nat_list_cmp_total (slice_cmp-IsAntisymmetric nat_cmp-IsAntisymmetric)

-- a table that stands already
put_same : (tables : Tables) (name : List ℕ) (t : Table) → finite.get tables name ≡ Some t → finite.insert tables name t ≡ tables
put_same tables name t is = tables_same (finite.insert tables name t) tables (λ q. get_put tables name q t ∙ by q (bytes_eq q name) refl)
  where
    by : (q : List ℕ) (b : Bool) → bytes_eq q name ≡ b → cond b (Some t) (finite.get tables q) ≡ finite.get tables q
    by q true e = sym is ∙ ap (finite.get tables) (sym (same_bytes q name e))
    by q false e = refl

-- and one that is put twice
put_twice : (tables : Tables) (name : List ℕ) (t u : Table) → finite.insert (finite.insert tables name t) name u ≡ finite.insert tables name u
put_twice tables name t u = tables_same (finite.insert (finite.insert tables name t) name u) (finite.insert tables name u) (λ q. get_put (finite.insert tables name t) name q u ∙ ap (cond (bytes_eq q name) (Some u)) (get_put tables name q t) ∙ over (bytes_eq q name) (finite.get tables q) ∙ sym (get_put tables name q u))
  where
    over : (b : Bool) (o : Option Table) → cond b (Some u) (cond b (Some t) o) ≡ cond b (Some u) o
    over true o = refl
    over false o = refl

get_here : (tables : Tables) (name : List ℕ) (t : Table) → finite.get (finite.insert tables name t) name ≡ Some t
get_here tables name t = get_put tables name name t ∙ ap (λ b. cond b (Some t) (finite.get tables name)) (bytes_same name)

put_rows : (name : List ℕ) (rows : List (List Value)) (tables : Tables) (t : Table) → finite.get tables name ≡ Some t → apply (map (Put name) rows) tables ≡ finite.insert tables name (record { cols = t.cols; rows = put_all t.cols rows t.rows })
put_rows name [] tables t is = sym (put_same tables name t is)
put_rows name (r ∷ rs) tables t is =
    let u : Table = with_row r t in
    ap (λ o. apply (map (Put name) rs) (changed tables name o (with_row r))) is
    ∙ put_rows name rs (finite.insert tables name u) u (get_here tables name u)
    ∙ put_twice tables name u (record { cols = t.cols; rows = put_all t.cols rs u.rows })

cut_rows : (name : List ℕ) (keys : List (List Value)) (tables : Tables) (t : Table) → finite.get tables name ≡ Some t → apply (map (Cut name) keys) tables ≡ finite.insert tables name (record { cols = t.cols; rows = cut_all keys t.rows })
cut_rows name [] tables t is = sym (put_same tables name t is)
cut_rows name (k ∷ ks) tables t is =
    let u : Table = without_key k t in
    ap (λ o. apply (map (Cut name) ks) (changed tables name o (without_key k))) is
    ∙ cut_rows name ks (finite.insert tables name u) u (get_here tables name u)
    ∙ put_twice tables name u (record { cols = t.cols; rows = cut_all ks u.rows })

-- ---- an effect has rows to put, or keys to cut

abbrev is_put : Change → Bool
is_put (Put name row) = true
is_put c = false

abbrev first_of : Change → List Change → Change
first_of c [] = c
first_of c (x ∷ xs) = x

abbrev rest_of : List Change → List Change
rest_of [] = []
rest_of (x ∷ xs) = xs

head_same : (x y : Change) (xs ys : List Change) → x ∷ xs ≡ y ∷ ys → x ≡ y
head_same x y xs ys e = ap (first_of x) e

tail_same : (x y : Change) (xs ys : List Change) → x ∷ xs ≡ y ∷ ys → xs ≡ ys
tail_same x y xs ys e = ap rest_of e

no_cuts : (name other : List ℕ) (puts cuts rows : List (List Value)) → map (Put name) rows ≡ map (Put other) puts ++ map (Cut other) cuts → cuts ≡ []
no_cuts name other [] [] rows e = refl
no_cuts name other [] (k ∷ ks) [] e = absurd (let n : 0 ≡ suc (length (map (Cut other) ks)) = ap length e in omega arith)
no_cuts name other [] (k ∷ ks) (r ∷ rs) e = absurd (let wrong : true ≡ false = ap is_put (head_same (Put name r) (Cut other k) _ _ e) in cc)
no_cuts name other (p ∷ ps) cuts [] e = absurd (let n : 0 ≡ suc (length (map (Put other) ps ++ map (Cut other) cuts)) = ap length e in omega arith)
no_cuts name other (p ∷ ps) cuts (r ∷ rs) e = no_cuts name other ps cuts rs (tail_same (Put name r) (Put other p) _ _ e)

no_puts : (name other : List ℕ) (puts cuts keys : List (List Value)) → map (Cut name) keys ≡ map (Put other) puts ++ map (Cut other) cuts → puts ≡ []
no_puts name other [] cuts keys e = refl
no_puts name other (p ∷ ps) cuts [] e = absurd (let n : 0 ≡ suc (length (map (Put other) ps ++ map (Cut other) cuts)) = ap length e in omega arith)
no_puts name other (p ∷ ps) cuts (k ∷ ks) e = absurd (let wrong : false ≡ true = ap is_put (head_same (Cut name k) (Put other p) _ _ e) in cc)

abbrev Is : List ℕ → Effect → Tables → Table → List Change → Type 0
Is name effect tables t changes = apply changes tables ≡ finite.insert tables name (record { cols = t.cols; rows = put_all t.cols effect.puts (cut_all effect.cuts t.rows) })

of_puts : (name : List ℕ) (effect : Effect) (tables : Tables) (t : Table) (rows : List (List Value)) → finite.get tables name ≡ Some t → map (Put name) rows ≡ changes_in name effect → Is name effect tables t (changes_in name effect)
of_puts name effect tables t rows is e =
    let none : effect.cuts ≡ [] = no_cuts name name effect.puts effect.cuts rows e in
    ap (λ cs. apply (map (Put name) effect.puts ++ map (Cut name) cs) tables) none ∙ ap (λ cs. apply cs tables) (behind (map (Put name) effect.puts)) ∙ put_rows name effect.puts tables t is
    ∙ ap (λ cs. finite.insert tables name (record { cols = t.cols; rows = put_all t.cols effect.puts (cut_all cs t.rows) })) (sym none)
  where
    behind : (cs : List Change) → cs ++ [] ≡ cs
    behind [] = refl
    behind (c ∷ cs) = ap (λ xs. c ∷ xs) (behind cs)

of_cuts : (name : List ℕ) (effect : Effect) (tables : Tables) (t : Table) (keys : List (List Value)) → finite.get tables name ≡ Some t → map (Cut name) keys ≡ changes_in name effect → Is name effect tables t (changes_in name effect)
of_cuts name effect tables t keys is e =
    let none : effect.puts ≡ [] = no_puts name name effect.puts effect.cuts keys e in
    ap (λ ps. apply (map (Put name) ps ++ map (Cut name) effect.cuts) tables) none ∙ cut_rows name effect.cuts tables t is
    ∙ ap (λ ps. finite.insert tables name (record { cols = t.cols; rows = put_all t.cols ps (cut_all effect.cuts t.rows) })) (sym none)

-- what a statement about rows changes is rows of its table that are cut, and then rows that are put
pub effect_applied : (stmt : Stmt) (effect : Effect) (tables : Tables) (t : Table) → is_of_rows stmt ≡ true → finite.get tables (table_named stmt) ≡ Some t → IsEffect stmt t effect
    → apply (data_over stmt t).0 tables ≡ finite.insert tables (table_named stmt) (record { cols = t.cols; rows = put_all t.cols effect.puts (cut_all effect.cuts t.rows) })
effect_applied stmt effect tables t rows is e = ap (λ x. apply x.0 tables) e ∙ by stmt rows is (ap (λ x. x.0) e)
  where
    given_puts : (name : List ℕ) (g : Result (List (List Value)) Message) → finite.get tables name ≡ Some t → (changes_of (Put name) g).0 ≡ changes_in name effect → Is name effect tables t (changes_in name effect)
    given_puts name (result.Ok taken) at f = of_puts name effect tables t taken at f
    given_puts name (result.Err m) at f = of_puts name effect tables t [] at f

    given_cuts : (name : List ℕ) (g : Result (List (List Value)) Message) → finite.get tables name ≡ Some t → (changes_of (Cut name) g).0 ≡ changes_in name effect → Is name effect tables t (changes_in name effect)
    given_cuts name (result.Ok taken) at f = of_cuts name effect tables t taken at f
    given_cuts name (result.Err m) at f = of_cuts name effect tables t [] at f

    by : (s : Stmt) → is_of_rows s ≡ true → finite.get tables (table_named s) ≡ Some t → (data_over s t).0 ≡ changes_in (table_named s) effect → Is (table_named s) effect tables t (changes_in (table_named s) effect)
    by (Insert i) r at f = given_puts i.table (inserted_from t.cols (finite.keys t.rows) 1 (map (new_row (target_names i.cols t.cols) t.cols) i.rows)) at f
    by (Select s) r at f = of_puts s.table effect tables t [] at f
    by (Update u) r at f = given_puts u.table (taken_from 1 (map (updated_row u.sets u.filter t.cols) (rows_of t))) at f
    by (Delete d) r at f = given_cuts d.table (taken_from 1 (map (deleted_row d.filter t.cols) (rows_of t))) at f
    by s r at f = absurd (let wrong : false ≡ true = r in cc)

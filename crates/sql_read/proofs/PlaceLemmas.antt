-- Where the statements of a batch begin.
use Rattle.std.specs.Prelude.{◌⊎◌}
use Rattle.std.proofs.Common.{◌≡◌, ℕ, ◌+◌, true, false, List, [], ◌∷◌, ◌++◌, length, ap, sym, ◌∙◌, refl, arith, inl, inr, append_assoc, append-nil}
use Rattle.sql_lex.specs.declared.token.Token.{Token}
use Rattle.sql_lex.specs.Ahead.{first_of}
use Rattle.sql_lex.specs.Tokens.{Lexes}
use Rattle.sql_lex.proofs.Cutting.{one_cutting}
use Rattle.sql_expr.specs.Got.{Got, Done, Refused}
use Rattle.sql_form.specs.Form.{Value}
use Rattle.sql_form.specs.Grammar.{IsForm, AreMany, first, continues}
use Rattle.sql_form.specs.Laws.{has_end}
use Rattle.sql_form.specs.Read.{read, made, joined}
use Rattle.sql_form.specs.Rules.{strict}
use Rattle.sql_form.proofs.Batches.{batch_ends}
use Rattle.sql_form.proofs.Beginning.{begins, none_needed}
use Rattle.sql_form.proofs.BoolLemmas.{not_true}
use Rattle.sql_form.proofs.Complete.{complete, chosen_left}
use Rattle.sql_form.proofs.FormLaws.{reached}
use Rattle.sql_form.proofs.Shorter.{many_on}
use Rattle.sql_form.proofs.Told.{reached_split}
use Rattle.sql_stmt.specs.Statements.{statement, ended, batch}
use Rattle.sql_stmt.proofs.Batches.{batch_plain}
use Rattle.sql_read.specs.StmtPlace.{Passes, IsStmtPlace}

-- one more behind some
many_more : {A : Type 0} (is : A → List Token → Type 0) (xs : List A) (x : A) (ts us : List Token) → AreMany is xs ts → is x us → AreMany is (xs ++ x ∷ []) (ts ++ us)
many_more is [] x ts us h k = (us, [], rw (h, append-nil us) refl, k, refl)
many_more is (y ∷ ys) x ts us (vs, ws, split, a, more) k = (vs, ws ++ us, ap (λ zs. zs ++ us) split ∙ append_assoc vs ws us, a, many_more is ys x ws us more k)

-- a statement begins in front
pub record Stands (ts : List Token) : Type 0 where
  pub next : Token
  pub others : List Token
  pub split : ts ≡ next ∷ others
  pub begins_one : first statement next.kind ≡ true

stands_first : (ts : List Token) → first statement (first_of ts).kind ≡ true → Stands ts
stands_first [] h = cc
stands_first (t ∷ ts) h = record { next = t; others = ts; split = refl; begins_one = h }

pub stands_form : (x : Value ended) (us rest : List Token) → IsForm strict ended x us → Stands (us ++ rest)
stands_form x [] rest h = absurd (solid_not (none_needed strict ended batch_plain.0 x [] refl h))
  where
    solid_not : true ≡ false → ⊥
    solid_not h = cc
stands_form x (u ∷ us) rest h = record { next = u; others = us ++ rest; split = refl; begins_one = begins strict ended batch_plain.0 x (u ∷ us) u us refl h }

-- behind a statement stands the next one, or what is left
pub stands_behind : (n : ℕ) (xs : List (Value ended)) (vs rest : List Token) → AreMany (IsForm strict ended) xs vs → first statement (first_of rest).kind ≡ true → Stands (vs ++ rest)
stands_behind n [] vs rest h begins_one = rw h (stands_first rest begins_one)
stands_behind n (x ∷ xs) vs rest (us, ws, split, a, more) begins_one = rw (split, append_assoc us ws rest) (stands_form x us (ws ++ rest) a)

-- a statement behind which another begins is read
pub read_one : (x : Value ended) (us rest : List Token) → IsForm strict ended x us → Stands rest → read strict ended (us ++ rest) ≡ Done x rest
read_one x us rest h s =
    let stop : continues ended s.next.kind ≡ false = not_true (continues ended s.next.kind) (λ k. batch_plain.2 s.next.kind k s.begins_one) in
    rw s.split (complete strict ended batch_plain.0 x us h s.next s.others stop)

done_left : {A : Type 0} (x y : A) (us vs : List Token) → Done x us ≡ Done y vs → us ≡ vs
done_left x y us vs h = cc

-- so many statements stand in front of the last tokens
pub record Stand (ts : List Token) (n : ℕ) (rest : List Token) : Type 0 where
  pub front : List Token
  pub split : ts ≡ front ++ rest
  pub values : List (Value ended)
  pub so_many : length values ≡ n
  pub are : AreMany (IsForm strict ended) values front

-- What holds once so many were passed over: they stand there; all is read as these and what is read behind them; and where more
-- of them stand in front of another statement, so many less stand here.
pub record Passed (ts : List Token) (n : ℕ) (left : List Token) : Type 0 where
  pub stand : Stand ts n left
  pub ends : has_end left ≡ true
  pub reads : read strict batch ts ≡ made (λ ys. stand.values ++ ys) (read strict batch left)
  pub fewer : (k m : ℕ) (s : List Token) → k ≡ n + m → first statement (first_of s).kind ≡ true → Stand ts k s → Stand left m s

made_none : {A : Type 0} (g : Got (List A)) → g ≡ made (λ ys. [] ++ ys) g
made_none (Done ys rest) = refl
made_none (Refused at) = refl

so_many : (ts s : List Token) (k m : ℕ) → k ≡ 0 + m → Stand ts k s → Stand ts m s
so_many ts s k m e h = let same : k ≡ m = omega (arith, e) in rw same at h

pub passed_none : (bytes : List ℕ) (ts : List Token) → Lexes 0 bytes ts → Passed ts 0 ts
passed_none bytes ts lexes = record {
  stand = record { front = []; split = refl; values = []; so_many = refl; are = refl };
  ends = batch_ends 0 bytes ts lexes;
  reads = made_none (read strict batch ts);
  fewer = λ k m s e b h. so_many ts s k m e h;
}

made_on : {A : Type 0} (xs : List A) (x : A) (g : Got (List A)) → made (λ ys. xs ++ ys) (made (λ ys. x ∷ ys) g) ≡ made (λ ys. (xs ++ x ∷ []) ++ ys) g
made_on {A = A} xs x (Done ys rest) = ap (λ (zs : List A). Done zs rest) (sym (append_assoc xs (x ∷ []) ys))
made_on xs x (Refused at) = refl

joined_on : {A B C : Type 0} (make : A → B → C) (g : Got A) (more : List Token → Got B) (x : A) (us : List Token) → g ≡ Done x us → joined make g more ≡ made (make x) (more us)
joined_on make g more x us h = rw h refl

-- where a statement begins, it is read first
pub first_read : (left : List Token) → first statement (first_of left).kind ≡ true → read strict batch left ≡ joined (λ x xs. x ∷ xs) (read strict ended left) (read strict batch)
first_read left h =
    let g : Got (Value batch) = joined (λ x xs. x ∷ xs) (read strict ended left) (read strict batch) in
    many_on strict ended batch_plain left ∙ chosen_left (first statement (first_of left).kind) g (Done [] left) g h refl

-- all that stands behind it is read behind it
read_on : (left new : List Token) (h : Passes left new) → read strict batch left ≡ made (λ ys. h.value ∷ ys) (read strict batch new)
read_on left new h = first_read left h.begins ∙ joined_on (λ x xs. x ∷ xs) (read strict ended left) (read strict batch) h.value new h.is

-- one less stands behind the first
behind_one : (left new s : List Token) (m : ℕ) (xs : List (Value ended)) (us : List Token) → Passes left new → first statement (first_of s).kind ≡ true → left ≡ us ++ s → length xs ≡ m + 1 → AreMany (IsForm strict ended) xs us → Stand new m s
behind_one left new s m [] us h b split e are = absurd (omega (arith, e))
behind_one left new s m (x ∷ xs) us h b split e (vs, ws, cut, a, more) =
    let whole : left ≡ vs ++ (ws ++ s) = split ∙ ap (λ (zs : List Token). zs ++ s) cut ∙ append_assoc vs ws s in
    let r : read strict ended left ≡ Done x (ws ++ s) = ap (read strict ended) whole ∙ read_one x vs (ws ++ s) a (stands_behind 0 xs ws s more b) in
    record {
      front = ws;
      split = done_left h.value x new (ws ++ s) (sym h.is ∙ r);
      values = xs;
      so_many = omega (arith, e);
      are = more;
    }

pub passed_more : (ts : List Token) (n : ℕ) (left new : List Token) → Passed ts n left → Passes left new → Passed ts (n + 1) new
passed_more ts n left new p h =
    let r = reached ended batch_plain.0 left new h.value p.ends h.is in
    record {
      stand = record {
        front = p.stand.front ++ r.front;
        split = p.stand.split ∙ ap (λ us. p.stand.front ++ us) (reached_split r) ∙ sym (append_assoc p.stand.front r.front new);
        values = p.stand.values ++ h.value ∷ [];
        so_many = let e = length_more p.stand.values h.value in omega (arith, e, p.stand.so_many);
        are = many_more (IsForm strict ended) p.stand.values h.value p.stand.front r.front p.stand.are r.is_front;
      };
      ends = r.ends;
      reads = p.reads ∙ ap (λ (g : Got (Value batch)). made (λ ys. p.stand.values ++ ys) g) (read_on left new h) ∙ made_on p.stand.values h.value (read strict batch new);
      fewer = λ k m s e b st. let f = p.fewer k (m + 1) s (omega (arith, e)) b st in behind_one left new s m f.values f.front h b f.split f.so_many f.are;
    }
  where
    length_more : {A : Type 0} (xs : List A) (x : A) → length (xs ++ x ∷ []) ≡ length xs + 1
    length_more [] x = refl
    length_more (y ∷ ys) x = let e = length_more ys x in omega (arith, e)

pub stmt_place : (bytes : List ℕ) (ts : List Token) (n : ℕ) (left : List Token) → Lexes 0 bytes ts → Passed ts n left → (n ≡ 0) ⊎ (first statement (first_of left).kind ≡ true) → IsStmtPlace bytes n (first_of left).at
stmt_place bytes ts n left lexes p begins_one = record {
  tokens = ts;
  lexes = lexes;
  front = p.stand.front;
  rest = left;
  split = p.stand.split;
  values = p.stand.values;
  so_many = p.stand.so_many;
  are = p.stand.are;
  begins = begins_one;
  place = refl;
}

-- so many statements leave the same tokens
one_rest : (xs ys : List (Value ended)) (us vs r s : List Token) → length xs ≡ length ys → AreMany (IsForm strict ended) xs us → AreMany (IsForm strict ended) ys vs
    → us ++ r ≡ vs ++ s → (length xs ≡ 0) ⊎ (first statement (first_of r).kind ≡ true) → (length ys ≡ 0) ⊎ (first statement (first_of s).kind ≡ true) → r ≡ s
one_rest [] [] us vs r s e h k same b c = rw (h, k) at same
one_rest [] (y ∷ ys) us vs r s e h k same b c = absurd (omega (arith, e))
one_rest (x ∷ xs) [] us vs r s e h k same b c = absurd (omega (arith, e))
one_rest (x ∷ xs) (y ∷ ys) us vs r s e (a1, a2, sa, fa, ma) (b1, b2, sb, fb, mb) same (inl b) c = absurd (omega (arith, b))
one_rest (x ∷ xs) (y ∷ ys) us vs r s e (a1, a2, sa, fa, ma) (b1, b2, sb, fb, mb) same (inr b) (inl c) = absurd (omega (arith, c))
one_rest (x ∷ xs) (y ∷ ys) us vs r s e (a1, a2, sa, fa, ma) (b1, b2, sb, fb, mb) same (inr b) (inr c) =
    let left : read strict ended (us ++ r) ≡ Done x (a2 ++ r) = rw (sa, append_assoc a1 a2 r) (read_one x a1 (a2 ++ r) fa (stands_behind 0 xs a2 r ma b)) in
    let right : read strict ended (vs ++ s) ≡ Done y (b2 ++ s) = rw (sb, append_assoc b1 b2 s) (read_one y b1 (b2 ++ s) fb (stands_behind 0 ys b2 s mb c)) in
    let next : a2 ++ r ≡ b2 ++ s = done_left x y (a2 ++ r) (b2 ++ s) (sym left ∙ ap (read strict ended) same ∙ right) in
    one_rest xs ys a2 b2 r s (omega (arith, e)) ma mb next (inr b) (inr c)

pub same_cut : (bytes : List ℕ) (ts us : List Token) → Lexes 0 bytes ts → Lexes 0 bytes us → ts ≡ us
same_cut bytes ts us h k = let cut = one_cutting bytes in cut.2 ts h ∙ sym (cut.2 us k)

begun : (n : ℕ) (xs : List (Value ended)) (rest : List Token) → length xs ≡ n → (n ≡ 0) ⊎ (first statement (first_of rest).kind ≡ true) → (length xs ≡ 0) ⊎ (first statement (first_of rest).kind ≡ true)
begun n xs rest e (inl z) = inl (e ∙ z)
begun n xs rest e (inr b) = inr b

-- a statement has one place
pub one_stmt_place : (bytes : List ℕ) (n a b : ℕ) → IsStmtPlace bytes n a → IsStmtPlace bytes n b → a ≡ b
one_stmt_place bytes n a b h k =
    let same : h.front ++ h.rest ≡ k.front ++ k.rest = sym h.split ∙ same_cut bytes h.tokens k.tokens h.lexes k.lexes ∙ k.split in
    let rest : h.rest ≡ k.rest = one_rest h.values k.values h.front k.front h.rest k.rest (h.so_many ∙ sym k.so_many) h.are k.are same (begun n h.values h.rest h.so_many h.begins) (begun n k.values k.rest k.so_many k.begins) in
    sym h.place ∙ ap (λ ts. (first_of ts).at) rest ∙ k.place

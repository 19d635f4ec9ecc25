-- Where a batch has no such statement.
use Rattle.std.specs.Prelude.{◌⊎◌, ◌&&◌, not}
use Rattle.std.specs.List.{list_all}
use Rattle.std.proofs.Common.{◌≡◌, ℕ, ◌+◌, ◌-◌, ◌<◌, ◌≤◌, Bool, true, false, List, [], ◌∷◌, ◌++◌, length, ap, sym, ◌∙◌, refl, arith, inl, inr, append_assoc, zero-add}
use Rattle.sql_lex.specs.declared.refusal.ParseRefusal.{ParseRefusal}
use Rattle.sql_lex.specs.declared.refusal.ParseRefusal.TheVariants.{Syntax, Memory}
use Rattle.sql_lex.specs.declared.token.Token.{Token}
use Rattle.sql_lex.specs.declared.token.TokenKind.TheVariants.{End}
use Rattle.sql_lex.specs.Ahead.{first_of, is_over}
use Rattle.sql_lex.specs.Tokens.{Lexes, token, is_end}
use Rattle.sql_lex.proofs.Ending.{ends_once}
use Rattle.sql_expr.specs.Got.{Got, Done, Refused}
use Rattle.sql_form.specs.Form.{Value}
use Rattle.sql_form.specs.Grammar.{IsForm, AreMany, first}
use Rattle.sql_form.specs.Laws.{has_end}
use Rattle.sql_form.specs.Read.{read, made, joined, read_whole}
use Rattle.sql_form.specs.Rules.{strict}
use Rattle.sql_form.proofs.Batches.{batch_ends}
use Rattle.sql_form.proofs.BoolLemmas.{true_not}
use Rattle.sql_form.proofs.Complete.{chosen_right}
use Rattle.sql_form.proofs.Shorter.{many_on}
use Rattle.sql_form.proofs.WholeLemmas.{whole_is}
use Rattle.sql_stmt.specs.Statements.{statement, ended, batch}
use Rattle.sql_stmt.proofs.Batches.{batch_plain}
use Rattle.sql_read.specs.Place.{IsRefusedAt}
use Rattle.sql_read.specs.StmtPlace.{IsStmtPlace, BeginsNone, BreaksOff, Stays, EndsAt, LacksStmt, Lacks}
use Rattle.sql_read.proofs.BatchLemmas.{closed_done, closed_stops, closed_refused, batch_refused, all_read, done_stopped, one_place}
use Rattle.sql_read.proofs.PlaceLemmas.{Stand, Stands, Passed, first_read, stands_behind, read_one, same_cut}

-- a statement of the batch stands where others were passed over
place_behind : (bytes : List ℕ) (ts left : List Token) (n k m at : ℕ) → Lexes 0 bytes ts → Passed ts n left → k ≡ n + m → (h : IsStmtPlace bytes k at) → first statement (first_of h.rest).kind ≡ true → Stand left m h.rest
place_behind bytes ts left n k m at lexes p e h b =
    p.fewer k m h.rest e b (record { front = h.front; split = same_cut bytes ts h.tokens lexes h.lexes ∙ h.split; values = h.values; so_many = h.so_many; are = h.are })

begun : (ts : List Token) → Stands ts → first statement (first_of ts).kind ≡ true
begun ts s = ap (λ (us : List Token). first statement (first_of us).kind) s.split ∙ s.begins_one

-- then one begins there
begins_there : (left s : List Token) (m : ℕ) → Stand left m s → first statement (first_of s).kind ≡ true → first statement (first_of left).kind ≡ true
begins_there left s m h b = ap (λ (us : List Token). first statement (first_of us).kind) h.split ∙ (begun (h.front ++ s) (stands_behind 0 h.values h.front s h.are b))

-- and is read, if it isn't the one that is sought
read_there : (left s : List Token) (m at : ℕ) (xs : List (Value ended)) (us : List Token) → left ≡ us ++ s → length xs ≡ m + 1 → AreMany (IsForm strict ended) xs us → first statement (first_of s).kind ≡ true → read strict ended left ≡ Refused at → ⊥
read_there left s m at [] us split e are b refused = absurd (omega (arith, e))
read_there left s m at (x ∷ xs) us split e (vs, ws, cut, a, more) b refused =
    let whole : left ≡ vs ++ (ws ++ s) = split ∙ ap (λ (zs : List Token). zs ++ s) cut ∙ append_assoc vs ws s in
    done_stopped (read strict ended left) x (ws ++ s) at (ap (read strict ended) whole ∙ read_one x vs (ws ++ s) a (stands_behind 0 xs ws s more b)) refused

-- the end of a batch is its last token
end_is : (front : List Token) (last t : Token) (before others : List Token) → front ++ last ∷ [] ≡ before ++ t ∷ others → list_all (λ u. not (is_end u.kind)) front ≡ true → is_end t.kind ≡ true → t ≡ last
end_is [] last t [] others e h k = cc
end_is [] last t (u ∷ []) others e h k = cc
end_is [] last t (u ∷ v ∷ before) others e h k = cc
end_is (f ∷ front) last t [] others e h k =
    let same : f ≡ t = cc in
    let ends : is_end f.kind ≡ true = rw same k in
    absurd (none_ends (is_end f.kind) (list_all (λ u. not (is_end u.kind)) front) ends h)
  where
    none_ends : (a b : Bool) → a ≡ true → (not a && b) ≡ true → ⊥
    none_ends true b e h = cc
    none_ends false b e h = cc
end_is (f ∷ front) last t (u ∷ before) others e h k =
    let same : front ++ last ∷ [] ≡ before ++ t ∷ others = cc in
    end_is front last t before others same (and_behind (not (is_end f.kind)) (list_all (λ u. not (is_end u.kind)) front) h) k
  where
    and_behind : (a b : Bool) → (a && b) ≡ true → b ≡ true
    and_behind true b h = h
    and_behind false b h = cc

-- it stands behind all bytes
end_place : (bytes : List ℕ) (ts front left : List Token) → Lexes 0 bytes ts → ts ≡ front ++ left → has_end left ≡ true → is_over left ≡ true → (first_of left).at ≡ length bytes
end_place bytes ts front [] lexes split ends over = cc
end_place bytes ts front (t ∷ others) lexes split ends over =
    let e = ends_once 0 bytes ts lexes in
    let last : t ≡ token (0 + length bytes) End = end_is e.front (token (0 + length bytes) End) t front others (sym e.split ∙ split) e.others over in
    ap (λ (u : Token). u.at) last ∙ zero-add (length bytes)

-- nothing more is read behind the statements that were passed over
read_all : (ts left : List Token) (n : ℕ) (p : Passed ts n left) → first statement (first_of left).kind ≡ false → read strict batch ts ≡ Done (p.stand.values ++ []) left
read_all ts left n p b =
    p.reads
    ∙ ap (λ (g : Got (Value batch)). made (λ ys. p.stand.values ++ ys) g)
    (many_on strict ended batch_plain left ∙ chosen_right (first statement (first_of left).kind) (joined (λ x xs. x ∷ xs) (read strict ended left) (read strict batch)) (Done [] left) (Done [] left) b refl)

-- where none begins, the batch ends or is refused
stops_here : (bytes : List ℕ) (ts left : List Token) (n : ℕ) (over : Bool) → Lexes 0 bytes ts → (p : Passed ts n left) → first statement (first_of left).kind ≡ false → is_over left ≡ over → IsRefusedAt bytes (first_of left).at ⊎ EndsAt bytes (first_of left).at
stops_here bytes ts left n true lexes p b o =
    inr (record {
      value = p.stand.values ++ [];
      is = record {
        tokens = ts;
        lexes = lexes;
        is = whole_is batch batch_plain ts left (p.stand.values ++ []) (batch_ends 0 bytes ts lexes) (closed_done (read strict batch ts) (p.stand.values ++ []) left (read_all ts left n p b) o);
      };
      place = end_place bytes ts p.stand.front left lexes p.stand.split p.ends o;
    })
stops_here bytes ts left n false lexes p b o =
    inl (batch_refused bytes ts (first_of left).at lexes (closed_stops (read strict batch ts) (p.stand.values ++ []) left (read_all ts left n p b) o))

-- where one is refused, the batch is
stops_amid : (bytes : List ℕ) (ts left : List Token) (n at : ℕ) → Lexes 0 bytes ts → Passed ts n left → BreaksOff left at → IsRefusedAt bytes at
stops_amid bytes ts left n at lexes p h =
    let here : read strict batch left ≡ Refused at = first_read left h.begins ∙ joined_refused (λ x xs. x ∷ xs) (read strict ended left) (read strict batch) at h.is in
    batch_refused bytes ts at lexes (closed_refused (read strict batch ts) at (p.reads ∙ ap (λ (g : Got (Value batch)). made (λ ys. p.stand.values ++ ys) g) here))
  where
    joined_refused : {A B C : Type 0} (make : A → B → C) (g : Got A) (more : List Token → Got B) (at : ℕ) → g ≡ Refused at → joined make g more ≡ Refused at
    joined_refused make g more at h = rw h refl

-- a statement further on would begin, and be read, here
not_begun : (bytes : List ℕ) (ts left : List Token) (n k at : ℕ) → Lexes 0 bytes ts → Passed ts n left → n ≤ k → first statement (first_of left).kind ≡ false → (h : IsStmtPlace bytes k at) → (k ≡ 0) ⊎ (first statement (first_of h.rest).kind ≡ true) → (k ≡ 0 → ⊥) → ⊥
not_begun bytes ts left n k at lexes p le b h (inl z) some = some z
not_begun bytes ts left n k at lexes p le b h (inr c) some =
    true_not (first statement (first_of left).kind) (begins_there left h.rest (k - n) (place_behind bytes ts left n k (k - n) at lexes p (omega (arith, le)) h c) c) b

not_read : (bytes : List ℕ) (ts left : List Token) (n k at place : ℕ) → Lexes 0 bytes ts → Passed ts n left → n < k → read strict ended left ≡ Refused place → (h : IsStmtPlace bytes k at) → (k ≡ 0) ⊎ (first statement (first_of h.rest).kind ≡ true) → ⊥
not_read bytes ts left n k at place lexes p less r h (inl z) = absurd (omega (arith, less, z))
not_read bytes ts left n k at place lexes p less r h (inr c) =
    let s = place_behind bytes ts left n k (k - n) at lexes p (omega (arith, less)) h c in
    read_there left h.rest (k - n - 1) place s.values s.front s.split (omega (arith, less, s.so_many)) s.are c r

-- none begins where statement k would
pub lacks_here : (bytes : List ℕ) (ts left : List Token) (n k at : ℕ) → Lexes 0 bytes ts → Passed ts n left → n ≤ k → (k ≡ 0 → ⊥) → BeginsNone left at → LacksStmt bytes k at
lacks_here bytes ts left n k at lexes p le some h = rw (sym h.place) (record {
  none = λ q s. not_begun bytes ts left n k q lexes p le h.begins s s.begins some;
  stops = stops_here bytes ts left n (is_over left) lexes p h.begins refl;
})

-- no further one can be passed over
pub lacks_on : (bytes : List ℕ) (ts left : List Token) (n k : ℕ) (e : ParseRefusal) → Lexes 0 bytes ts → Passed ts n left → n < k → Stays left e → Lacks bytes k e
lacks_on bytes ts left n k (Syntax at) lexes p less (inl h) = lacks_here bytes ts left n k at lexes p (omega (arith, less)) (λ z. omega (arith, less, z)) h
lacks_on bytes ts left n k (Syntax at) lexes p less (inr h) = record {
  none = λ q s. not_read bytes ts left n k q at lexes p less h.is s s.begins;
  stops = inl (stops_amid bytes ts left n at lexes p h);
}
lacks_on bytes ts left n k Memory lexes p less h = tt

-- a batch that is refused isn't one of the grammar
refused_ends : (bytes : List ℕ) (a b : ℕ) → IsRefusedAt bytes a → EndsAt bytes b → ⊥
refused_ends bytes a b h k =
    let r = all_read h.tokens k.value (rw (same_cut bytes k.is.tokens h.tokens k.is.lexes h.lexes) at k.is.is) in
    done_stopped (read_whole batch h.tokens) k.value r.rest a r.is h.stops

one_stop : (bytes : List ℕ) (a b : ℕ) → IsRefusedAt bytes a ⊎ EndsAt bytes a → IsRefusedAt bytes b ⊎ EndsAt bytes b → a ≡ b
one_stop bytes a b (inl h) (inl k) = one_place bytes a b h k
one_stop bytes a b (inl h) (inr k) = absurd (refused_ends bytes a b h k)
one_stop bytes a b (inr h) (inl k) = absurd (refused_ends bytes b a k h)
one_stop bytes a b (inr h) (inr k) = h.place ∙ sym k.place

-- the statements of a batch stop at one place, whichever is sought
pub one_lack : (bytes : List ℕ) (n m a b : ℕ) → LacksStmt bytes n a → LacksStmt bytes m b → a ≡ b
one_lack bytes n m a b h k = one_stop bytes a b h.stops k.stops

-- Batches that are read whole, and those that are refused.
use Rattle.std.proofs.Common.{◌≡◌, ℕ, true, false, List, ◌∷◌, ◌++◌, ap, sym, ◌∙◌, refl, subst}
use Rattle.plain_model.specs.declared.stmt.Stmt.{Stmt}
use Rattle.plain_model.specs.Sound.{are_sound}
use Rattle.sql_lex.specs.declared.refusal.ParseRefusal.{ParseRefusal}
use Rattle.sql_lex.specs.declared.refusal.ParseRefusal.TheVariants.{Syntax, Memory}
use Rattle.sql_lex.specs.declared.token.Token.{Token}
use Rattle.sql_lex.specs.Ahead.{first_of, is_over}
use Rattle.sql_lex.specs.Tokens.{Lexes}
use Rattle.sql_lex.proofs.Cutting.{one_cutting}
use Rattle.sql_expr.specs.Got.{Got, Done, Refused}
use Rattle.sql_expr.specs.Laws.{are_printed}
use Rattle.sql_expr.specs.Laws.{is_printed}
use Rattle.sql_expr.proofs.Batches.{batch_printed}
use Rattle.std.proofs.lemmas.List.Folds.{list_all-append}
use Rattle.sql_form.specs.Form.{Value}
use Rattle.sql_form.specs.Laws.{IsAll}
use Rattle.sql_form.specs.Read.{read, read_whole, closed}
use Rattle.sql_form.specs.Rules.{strict}
use Rattle.sql_form.proofs.Batches.{batch_ends}
use Rattle.sql_form.proofs.WholeLemmas.{whole_is, whole_read, whole_refused}
use Rattle.sql_stmt.specs.Answers.{Fails, IsRead}
use Rattle.sql_stmt.specs.Saying.{SayEach}
use Rattle.sql_stmt.specs.Statements.{batch}
use Rattle.sql_stmt.specs.Stmts.{SaysEnded}
use Rattle.sql_stmt.proofs.Batches.{batch_plain}
use Rattle.sql_stmt.proofs.MeantLemmas.{batch_sound}
use Rattle.sql_stmt.proofs.SoundLemmas.{and_left}
use Rattle.sql_read.specs.Grammar.{IsBatch}
use Rattle.sql_read.specs.Place.{IsRefusedAt, IsRefusal}

-- what was read up to the end is read whole
pub closed_done : {A : Type 0} (g : Got A) (x : A) (left : List Token) → g ≡ Done x left → is_over left ≡ true → closed g ≡ Done x left
closed_done g x left h over = rw (h, over) refl

-- what was read up to another token is refused there
pub closed_stops : {A : Type 0} (g : Got A) (x : A) (left : List Token) → g ≡ Done x left → is_over left ≡ false → closed g ≡ Refused (first_of left).at
closed_stops g x left h over = rw (h, over) refl

pub closed_refused : {A : Type 0} (g : Got A) (at : ℕ) → g ≡ Refused at → closed g ≡ Refused at
closed_refused g at h = rw h refl

-- all tokens of the batch are statements
pub batch_all : (bytes : List ℕ) (ts left : List Token) (stmts : List Stmt) → Lexes 0 bytes ts → IsRead (SayEach SaysEnded) stmts (read strict batch ts) left → is_over left ≡ true → IsBatch bytes stmts
batch_all bytes ts left stmts lexes r over = record {
  tokens = ts;
  lexes = lexes;
  value = r.value;
  is = whole_is batch batch_plain ts left r.value (batch_ends 0 bytes ts lexes) (closed_done (read strict batch ts) r.value left r.is over);
  says = r.means;
}

same_cut : (bytes : List ℕ) (ts us : List Token) → Lexes 0 bytes ts → Lexes 0 bytes us → ts ≡ us
same_cut bytes ts us h k = let cut = one_cutting bytes in cut.2 ts h ∙ sym (cut.2 us k)

-- the tokens of a batch of the grammar are read whole
pub record ReadWhole (ts : List Token) (x : Value batch) : Type 0 where
  pub rest : List Token
  pub is : read_whole batch ts ≡ Done x rest

pub all_read : (ts : List Token) (x : Value batch) → IsAll batch ts x → ReadWhole ts x
all_read ts x a = record { rest = a.last ∷ a.others; is = ap (read_whole batch) a.split ∙ whole_read batch batch_plain x a.front a.others a.last a.is a.ends }

batch_read : (bytes : List ℕ) (ts : List Token) (stmts : List Stmt) → Lexes 0 bytes ts → (b : IsBatch bytes stmts) → ReadWhole ts b.value
batch_read bytes ts stmts lexes b = all_read ts b.value (rw (same_cut bytes b.tokens ts b.lexes lexes) at b.is)

pub done_stopped : {A : Type 0} (g : Got A) (x : A) (us : List Token) (at : ℕ) → g ≡ Done x us → g ≡ Refused at → ⊥
done_stopped g x us at h k = cc

-- a batch whose tokens are refused is refused there
pub batch_refused : (bytes : List ℕ) (ts : List Token) (at : ℕ) → Lexes 0 bytes ts → read_whole batch ts ≡ Refused at → IsRefusedAt bytes at
batch_refused bytes ts at lexes stops =
    let w = whole_refused batch batch_plain ts at (batch_ends 0 bytes ts lexes) stops in
    record {
      tokens = ts;
      lexes = lexes;
      why = w.0;
      is = w.1;
      stops = stops;
      none = λ stmts b. let r = batch_read bytes ts stmts lexes b in done_stopped (read_whole batch ts) b.value r.rest at r.is stops;
    }

-- behind the statements that were read another token stands
pub left_refused : (bytes : List ℕ) (ts left : List Token) (stmts : List Stmt) → Lexes 0 bytes ts → IsRead (SayEach SaysEnded) stmts (read strict batch ts) left → is_over left ≡ false → IsRefusedAt bytes (first_of left).at
left_refused bytes ts left stmts lexes r over = batch_refused bytes ts (first_of left).at lexes (closed_stops (read strict batch ts) r.value left r.is over)

-- a statement is refused
pub stmt_refused : (bytes : List ℕ) (ts : List Token) (e : ParseRefusal) → Lexes 0 bytes ts → Fails e (read strict batch ts) → IsRefusal bytes e
stmt_refused bytes ts (Syntax at) lexes h = batch_refused bytes ts at lexes (closed_refused (read strict batch ts) at h)
stmt_refused bytes ts Memory lexes h = tt

printed_front : (front others : List Token) → are_printed (front ++ others) ≡ true → are_printed front ≡ true
printed_front front others h = and_left (are_printed front) (are_printed others) (sym (list_all-append (λ t. is_printed t.kind) front others) ∙ h)

done_values : {A : Type 0} (x y : A) (us vs : List Token) → Done x us ≡ Done y vs → x ≡ y
done_values x y us vs h = cc

abbrev place_of : Got (Value batch) → ℕ
place_of (Done v us) = 0
place_of (Refused at) = at

refused_places : (a b : ℕ) (g h : Got (Value batch)) → g ≡ Refused a → h ≡ Refused b → g ≡ h → a ≡ b
refused_places a b g h ga hb same = sym (ap place_of ga) ∙ ap place_of same ∙ ap place_of hb

-- the statements that were read are sound ones
pub batch_is_sound : (bytes : List ℕ) (ts left : List Token) (stmts : List Stmt) → Lexes 0 bytes ts → IsRead (SayEach SaysEnded) stmts (read strict batch ts) left → is_over left ≡ true → are_sound stmts ≡ true
batch_is_sound bytes ts left stmts lexes r over =
    let a : IsAll batch ts r.value = whole_is batch batch_plain ts left r.value (batch_ends 0 bytes ts lexes) (closed_done (read strict batch ts) r.value left r.is over) in
    let P : List Token → Type 0 = λ us. are_printed us ≡ true in
    batch_sound stmts r.value a.front r.means a.is (printed_front a.front (a.last ∷ a.others) (subst P a.split (batch_printed 0 bytes ts lexes)))

-- a batch is read as one value
pub same_value : (bytes : List ℕ) (ss us : List Stmt) → (a : IsBatch bytes ss) → (b : IsBatch bytes us) → a.value ≡ b.value
same_value bytes ss us a b =
    let r = batch_read bytes a.tokens ss a.lexes a in
    let s = batch_read bytes a.tokens us a.lexes b in
    done_values a.value b.value r.rest s.rest (sym r.is ∙ s.is)

-- a refusal has one place
pub one_place : (bytes : List ℕ) (a b : ℕ) → IsRefusedAt bytes a → IsRefusedAt bytes b → a ≡ b
one_place bytes a b h k = refused_places a b (read_whole batch h.tokens) (read_whole batch k.tokens) h.stops k.stops (ap (read_whole batch) (same_cut bytes h.tokens k.tokens h.lexes k.lexes))

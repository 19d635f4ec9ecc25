-- What was read is the history of the bytes, and where reading stops they are refused.
use Rattle.std.proofs.Common.{◌≡◌, ℕ, ◌+◌, ◌-◌, ◌<◌, ◌≤◌, true, List, [], ◌∷◌, ◌++◌, length, take, drop, refl, sym, ap, subst, ◌∙◌, arith, append_assoc, length-append, append-nil}
use Rattle.std.specs.Prelude.{Ok, Err, Some, Result, IfErr}
use Rattle.page_base.specs.declared.value.Value.{Value}
use Rattle.std.specs.List.{flat_map, concat}
use Rattle.std.proofs.Math.Seq.{take-append_seam, take-add}
use Rattle.plain_model.specs.declared.event.Event.{Event}
use Rattle.plain_model.specs.Printed.{printed}
use Rattle.reply_text.specs.declared.refusal.BookRefusal.{BookRefusal}
use Rattle.reply_text.specs.declared.refusal.BookRefusal.TheVariants.{Line, Memory}
use Rattle.reply_text.specs.Told.{AreTold}
use Rattle.reply_text.specs.Lines.{lines_of}
use Rattle.reply_text.specs.Steps.{event_lines, Fronts, Stops, StopsAt, Lacks, LacksAt, LacksFirst, first_row, count_of, TakesRows}
use Rattle.reply_text.specs.Headings.{heading_on}
use Rattle.reply_text.specs.declared.heading.Heading.{Heading}
use Rattle.reply_text.specs.Books.{IsBookOf, Begins, IsRefusedAt, Refuses, GivesBook}
use Rattle.reply_text.proofs.BookLaws.{lines-printed, concat-lines_of, lines_are_one, stops_behind_all, stops_rows}
use Rattle.reply_text.proofs.Reading.{TookEvents, TookRows}

begins_of : (front : List (List ℕ)) → Fronts front → Begins front
begins_of front f = record { book = f.book; more = f.more; told = f.told; spelled = lines-printed f.book f.told ∙ f.spelled }

fronts_of : (front : List (List ℕ)) → Begins front → Fronts front
fronts_of front b = record { book = b.book; more = b.more; told = b.told; spelled = sym (lines-printed b.book b.told) ∙ b.spelled }

-- the lines up to the one at which they stop
ends_at : (lines front rest : List (List ℕ)) (n line : ℕ) → lines ≡ front ++ rest → n ≡ length front → line ≡ 1 + n → ((l : List ℕ) (more : List (List ℕ)) → rest ≡ l ∷ more → Fronts (front ++ l ∷ []) → ⊥) → line ≤ length lines → Begins (take line lines) → ⊥
ends_at lines front [] n line split count at ends within b = omega (arith, within, at, count, ap length split, length-append front [])
ends_at lines front (l ∷ more) n line split count at ends within b =
    let long : line ≡ length (front ++ l ∷ []) = at ∙ ap (λ (k : ℕ). 1 + k) count ∙ simp length-append (omega arith) in
    let cut : take line lines ≡ front ++ l ∷ [] = (λ i. take (long i) (split i)) ∙ ap (take (length (front ++ l ∷ []))) (sym (append_assoc front (l ∷ []) more)) ∙ take-append_seam (front ++ l ∷ []) more in
    ends l more refl (fronts_of (front ++ l ∷ []) (subst Begins cut b))

refused_where : (bytes : List ℕ) (n line : ℕ) → line ≡ 1 + n → Stops (lines_of bytes) n → IsRefusedAt bytes line
refused_where bytes n line at s =
    let lines : List (List ℕ) = lines_of bytes in
    let before : line - 1 ≡ length s.front = omega (arith, at, s.count) in
    let cut : take (line - 1) lines ≡ s.front = (λ i. take (before i) (s.split i)) ∙ take-append_seam s.front s.rest in
    record {
      first = omega (arith, at);
      last = omega (arith, at, s.count, ap length s.split, length-append s.front s.rest);
      begins = subst Begins (sym cut) (begins_of s.front s.begins);
      ends = ends_at lines s.front s.rest n line s.split s.count at s.ends;
      none = λ book h. s.none book h.told (sym (lines-printed book h.told) ∙ ap lines_of (sym h.spelled));
    }

-- bytes are refused where what is left of their lines stops
refused : (bytes : List ℕ) (book : List Event) (new : List (List ℕ)) (now n line : ℕ) → TookEvents (lines_of bytes) book new now → line ≡ now + n → Stops new n → IsRefusedAt bytes line
refused bytes book new now n line h at s =
    let all : Stops (lines_of bytes) (length (flat_map event_lines book) + n) = subst (λ (ls : List (List ℕ)). Stops ls (length (flat_map event_lines book) + n)) (sym h.split) (stops_behind_all book new n h.told s) in
    refused_where bytes (length (flat_map event_lines book) + n) line (omega (arith, at, h.number)) all

pub refuses_at : (why : BookRefusal) (bytes : List ℕ) (book : List Event) (new : List (List ℕ)) (now : ℕ) → TookEvents (lines_of bytes) book new now → StopsAt new now why → Refuses bytes why
refuses_at Memory bytes book new now h s = tt
refuses_at (Line line) bytes book new now h s = refused bytes book new now s.0 line h s.1 s.2

pub refuses_no_book : (why : BookRefusal) (bytes : List ℕ) (book : List Event) → Refuses bytes why → IsBookOf bytes book → GivesBook book (Err why)
refuses_no_book Memory bytes book r h = tt
refuses_no_book (Line line) bytes book r h = r.none book h

-- where no line is left the bytes are the history's text
pub book_done : (bytes : List ℕ) (book : List Event) (new : List (List ℕ)) (now : ℕ) → TookEvents (lines_of bytes) book new now → new ≡ [] → IsBookOf bytes book
book_done bytes book new now h none =
    let lines : lines_of bytes ≡ lines_of (printed book) = h.split ∙ ap (λ (ls : List (List ℕ)). flat_map event_lines book ++ ls) none ∙ append-nil (flat_map event_lines book) ∙ sym (lines-printed book h.told) in
    record { told = h.told; spelled = sym (concat-lines_of bytes) ∙ ap concat lines ∙ concat-lines_of (printed book) }

-- bytes are the text of one history
pub books_are_one : (bytes : List ℕ) (a b : List Event) → IsBookOf bytes a → IsBookOf bytes b → a ≡ b
books_are_one bytes a b p q = lines_are_one a b p.told q.told (sym (lines-printed a p.told) ∙ ap lines_of (sym p.spelled ∙ q.spelled) ∙ lines-printed b q.told)

-- a missing row behind those that were taken
pub lacks_at : (why : BookRefusal) (count : ℕ) (old : List (List ℕ)) (rows : List (List Value)) (mid : List (List ℕ)) (first now : ℕ) → TookRows count old rows mid first now → length rows < count → LacksFirst mid now why → LacksAt count old first why
lacks_at Memory count old rows mid first now h few l = tt
lacks_at (Line line) count old rows mid first now h few l = (length rows, l.0 ∙ h.number, record { rows = rows; rest = mid; told = h.told; few = few; split = h.split; lacks = l.1; place = refl })

-- a missing row behind a line that tells of rows
pub stops_at : (why : BookRefusal) (line : List ℕ) (lines : List (List ℕ)) (h : Heading) (number next : ℕ) → heading_on line ≡ Some h → next ≡ number + 1 → LacksAt (count_of h) lines next why → StopsAt (line ∷ lines) number why
stops_at Memory line lines h number next e n l = tt
stops_at (Line at) line lines h number next e n l = (1 + l.0, omega (arith, n, l.1), stops_rows line lines h l.0 e l.2)

-- what is known of a refusal is known where it is handed on
pub exit_at : {T : Type 0} (P : BookRefusal → Type 0) (r : Result T BookRefusal) (e y : BookRefusal) → r ≡ Err y → y ≡ e → P e → IfErr r P
exit_at {T} P r e y is same h = subst (λ (x : Result T BookRefusal). IfErr x P) (sym is) (subst P (sym same) h)

pub exit_no_book : (bytes : List ℕ) (r : Result (List Event) BookRefusal) (e y : BookRefusal) → r ≡ Err y → y ≡ e → Refuses bytes e → (book : List Event) → IsBookOf bytes book → GivesBook book r
exit_no_book bytes r e y is same h book b = subst (GivesBook book) (sym is) (subst (λ (x : BookRefusal). GivesBook book (Err x)) (sym same) (refuses_no_book e bytes book h b))

-- fewer lines begin what more begin
begins_fewer : (a b : List (List ℕ)) → Begins (a ++ b) → Begins a
begins_fewer a b h = record { book = h.book; more = b ++ h.more; told = h.told; spelled = h.spelled ∙ append_assoc a b h.more }

-- of two first lines neither comes before the other
not_before : (bytes : List ℕ) (a b : ℕ) → IsRefusedAt bytes a → IsRefusedAt bytes b → a < b → ⊥
not_before bytes a b p q less =
    let lines : List (List ℕ) = lines_of bytes in
    let within : a ≤ length lines = omega (arith, q.last, less) in
    let more : b - 1 ≡ a + ((b - 1) - a) = omega (arith, less) in
    let cut : take (b - 1) lines ≡ take a lines ++ take ((b - 1) - a) (drop a lines) = ap (λ (k : ℕ). take k lines) more ∙ take-add a ((b - 1) - a) lines in
    p.ends within (begins_fewer (take a lines) (take ((b - 1) - a) (drop a lines)) (subst Begins cut q.begins))

-- bytes are refused at one line
pub refusals_are_one : (bytes : List ℕ) (a b : ℕ) → IsRefusedAt bytes a → IsRefusedAt bytes b → a ≡ b
refusals_are_one bytes a b p q =
    let one : (a < b) → ⊥ = not_before bytes a b p q in
    let other : (b < a) → ⊥ = not_before bytes b a q p in
    same a b one other
  where
    same : (a b : ℕ) → ((a < b) → ⊥) → ((b < a) → ⊥) → a ≡ b
    same a b p q = omega (arith, p, q)

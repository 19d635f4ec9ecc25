-- How far the reading of a history has come.
use Rattle.std.proofs.Common.{◌≡◌, ℕ, ◌+◌, ◌<◌, ◌≤◌, true, List, [], ◌∷◌, ◌++◌, length, map, refl, sym, ap, ◌∙◌, arith, append_assoc, length-append, append-nil}
use Rattle.std.specs.List.{list_all, flat_map}
use Rattle.std.proofs.lemmas.List.Folds.{list_all-append}
use Rattle.std.proofs.lemmas.List.{length-map, map-append, length-replicate}
use Rattle.std.proofs.lemmas.Grind.{flat_map-append}
use Rattle.page_base.specs.declared.value.Value.{Value}
use Rattle.plain_model.specs.declared.event.Event.{Event}
use Rattle.plain_model.specs.Printed.{row_text, printed}
use Rattle.reply_text.specs.Told.{is_told_row, is_told, AreTold}
use Rattle.reply_text.specs.Lines.{lines_of}
use Rattle.reply_text.specs.Steps.{event_lines, TakesRow, TakesEvent}
use Rattle.reply_text.proofs.Options.{both}
use Rattle.reply_text.proofs.ValueLaws.{row_sound}

-- so many rows were taken so far
pub record TookRows (count : ℕ) (old : List (List ℕ)) (rows : List (List Value)) (new : List (List ℕ)) (first now : ℕ) : Type 0 where
  pub few : length rows ≤ count
  pub told : list_all is_told_row rows ≡ true
  pub split : old ≡ map row_text rows ++ new
  pub number : now ≡ first + length rows

-- one row more
pub took_row : (count : ℕ) (old : List (List ℕ)) (rows longer : List (List Value)) (mid new : List (List ℕ)) (row : List Value) (first now next : ℕ) → TookRows count old rows mid first now → length rows < count → TakesRow mid row new → next ≡ now + 1 → longer ≡ rows ++ row ∷ []
    → TookRows count old longer new first next
took_row count old rows longer mid new row first now next h more t n e =
    let known = row_sound t.line row t.is in
    let long : length longer ≡ length rows + 1 = ap length e ∙ simp length-append (omega arith) in
    let mid_is : mid ≡ row_text row ∷ new = t.split ∙ ap (λ (l : List ℕ). l ∷ new) known.0 in
    let lines : map row_text longer ≡ map row_text rows ++ row_text row ∷ [] = ap (map row_text) e ∙ map-append row_text rows (row ∷ []) in
    record {
      few = omega (arith, long, more);
      told = ap (list_all is_told_row) e ∙ list_all-append is_told_row rows (row ∷ []) ∙ both (list_all is_told_row rows) (list_all is_told_row (row ∷ [])) h.told (both (is_told_row row) true known.1 refl);
      split = h.split ∙ ap (λ (ls : List (List ℕ)). map row_text rows ++ ls) mid_is ∙ sym (append_assoc (map row_text rows) (row_text row ∷ []) new) ∙ ap (λ (ls : List (List ℕ)). ls ++ new) (sym lines);
      number = omega (arith, n, h.number, long);
    }

-- so many events were taken so far
pub record TookEvents (all : List (List ℕ)) (book : List Event) (new : List (List ℕ)) (now : ℕ) : Type 0 where
  pub told : AreTold book
  pub split : all ≡ flat_map event_lines book ++ new
  pub number : now ≡ 1 + length (flat_map event_lines book)

-- one event more
pub took_event : (all : List (List ℕ)) (book longer : List Event) (mid new : List (List ℕ)) (event : Event) (now next : ℕ) → TookEvents all book mid now → TakesEvent mid event new → next ≡ now + length (event_lines event) → longer ≡ book ++ event ∷ [] → TookEvents all longer new next
took_event all book longer mid new event now next h t n e =
    let lines : flat_map event_lines longer ≡ flat_map event_lines book ++ event_lines event = ap (flat_map event_lines) e ∙ flat_map-append event_lines book (event ∷ []) ∙ ap (λ (ls : List (List ℕ)). flat_map event_lines book ++ ls) (append-nil (event_lines event)) in
    let long : length (flat_map event_lines longer) ≡ length (flat_map event_lines book) + length (event_lines event) = ap length lines ∙ length-append (flat_map event_lines book) (event_lines event) in
    record {
      told = ap (list_all is_told) e ∙ list_all-append is_told book (event ∷ []) ∙ both (list_all is_told book) (list_all is_told (event ∷ [])) h.told (both (is_told event) true t.told refl);
      split = h.split ∙ ap (λ (ls : List (List ℕ)). flat_map event_lines book ++ ls) t.split ∙ sym (append_assoc (flat_map event_lines book) (event_lines event) new) ∙ ap (λ (ls : List (List ℕ)). ls ++ new) (sym lines);
      number = omega (arith, n, h.number, long);
    }

pub took_none : (count : ℕ) (old : List (List ℕ)) (rows : List (List Value)) (first : ℕ) → rows ≡ [] → TookRows count old rows old first first
took_none count old rows first e = rw e (record { few = omega arith; told = refl; split = refl; number = omega arith })

pub took_nothing : (bytes : List ℕ) (book : List Event) (new : List (List ℕ)) (now : ℕ) → book ≡ [] → new ≡ lines_of bytes → now ≡ 1 → TookEvents (lines_of bytes) book new now
took_nothing bytes book new now e l n = rw (e, l, n) (record { told = refl; split = refl; number = refl })

-- an event has a line
pub fewer_lines : (old new : List (List ℕ)) (event : Event) → TakesEvent old event new → length new < length old
fewer_lines old new event t = omega (arith, ap length t.split, length-append (event_lines event) new)

-- The lines of a history's text are its events' lines.
use Rattle.std.proofs.Common.{◌≡◌, ◌≢◌, ℕ, ◌+◌, ◌<◌, Bool, true, false, cond, not, ◌&&◌, ◌||◌, ◌==◌, List, [], ◌∷◌, ◌++◌, length, map, refl, sym, ap, subst, ◌∙◌, arith, append_assoc, append-nil, eqb-true, inl, inr}
use Rattle.std.specs.Prelude.{Option, Some, None, option_and_then, codes, ℤ, pos, negsuc}
use Rattle.std.specs.Fmt.{decimal, signed_decimal}
use Rattle.std.specs.List.{list_all, flat_map, concat, onto_first}
use Rattle.std.proofs.lemmas.Bool.{and_parts, cases_Bool}
use Rattle.std.proofs.lemmas.List.Folds.{list_all-append}
use Rattle.page_base.specs.declared.value.Value.{Value}
use Rattle.page_base.specs.declared.value.Value.TheVariants.{Null, Int, Big, Text}
use Rattle.plain_model.specs.declared.reply.Reply.{Reply}
use Rattle.plain_model.specs.declared.reply.Reply.TheVariants.{Ok, Count, Rows, Msg}
use Rattle.plain_model.specs.declared.event.Event.{Event}
use Rattle.plain_model.specs.declared.event.Event.TheVariants.{Locked, CutAt, RestoreAt, Turned, Said, Left}
use Rattle.plain_model.specs.Printed.{quoted, value_text, next_value_text, values_text, row_text, event_text, printed}
use Rattle.reply_text.specs.declared.heading.Heading.{Heading}
use Rattle.reply_text.specs.declared.heading.Heading.TheVariants as heading
use Rattle.reply_text.specs.Told.{is_printable, is_told_value, is_told_row, is_told, AreTold}
use Rattle.reply_text.specs.Pieces.{pieces, parted, behind_separator, before}
use Rattle.reply_text.specs.Headings.{heading_in, heading_on, heading_text}
use Rattle.reply_text.specs.Lines.{lines_of}
use Rattle.reply_text.specs.Steps.{heading_of, rows_of, event_lines}
use Rattle.reply_text.proofs.Options.{bound, both}
use Rattle.reply_text.proofs.PieceLaws.{closes, is_plain, is_plain_byte, plain_closes, plain_other, pieces-parted, parted-pieces, before_is, before_end}
use Rattle.reply_text.proofs.PlainLaws.{signed_plain}
use Rattle.reply_text.proofs.HeadingLaws.{is_told_heading, heading_words, heading_sound, heading_back}
use Rattle.reply_text.proofs.TextLaws.{text_parted, words_plain}

all_close : (words : List (List ℕ)) → list_all is_plain words ≡ true → list_all (closes 32 false) words ≡ true
all_close [] h = refl
all_close (word ∷ words) h =
    let here = and_parts (is_plain word) (list_all is_plain words) h in
    both (closes 32 false word) (list_all (closes 32 false) words) (plain_closes 32 (λ b p. plain_other b 32 p refl) (λ b p. plain_other b 39 p refl) word here.0) (all_close words here.1)

words_parted : (words : List (List ℕ)) → words ≢ [] → list_all is_plain words ≡ true → pieces 32 false (parted 32 words) ≡ words
words_parted [] some h = absurd (some refl)
words_parted (word ∷ words) some h = pieces-parted 32 word words (all_close (word ∷ words) h)

words_some : (h : Heading) → heading_words h ≢ []
words_some (heading.Whole (Locked who table mode)) h = cc
words_some (heading.Whole (CutAt who snap)) h = cc
words_some (heading.Whole (RestoreAt who snap)) h = cc
words_some (heading.Whole (Turned snap)) h = cc
words_some (heading.Whole (Said who number began reply)) h = cc
words_some (heading.Whole (Left who)) h = cc
words_some (heading.Rows who number began count) h = cc

-- a line that is written is read
pub heading_on_back : (h : Heading) → is_told_heading h ≡ true → heading_on (heading_text h) ≡ Some h
heading_on_back h told =
    let front : List ℕ = parted 32 (heading_words h) in
    let cut : before (codes "\n") (heading_text h) ≡ Some front = ap (before (codes "\n")) (text_parted h told) ∙ before_end (codes "\n") front in
    ap (option_and_then (λ (bytes : List ℕ). heading_in (pieces 32 false bytes))) cut
    ∙ ap heading_in (words_parted (heading_words h) (words_some h) (words_plain h told)) ∙ heading_back h told

-- a line that was read is written so
pub heading_on_sound : (line : List ℕ) (h : Heading) → heading_on line ≡ Some h → (line ≡ heading_text h) × (is_told_heading h ≡ true)
heading_on_sound line h e =
    let body = bound (before (codes "\n") line) (λ (bytes : List ℕ). heading_in (pieces 32 false bytes)) h e in
    let known = heading_sound (pieces 32 false body.0) h body.2 in
    let body_is : body.0 ≡ parted 32 (heading_words h) = sym (parted-pieces 32 false body.0) ∙ ap (parted 32) known.0 in
    (before_is (codes "\n") line body.0 body.1 ∙ ap (λ (xs : List ℕ). xs ++ codes "\n") body_is ∙ sym (text_parted h known.1), known.1)

-- bytes in which no line ends
abbrev pub is_inside : ℕ → Bool
is_inside b = not (b == 10)

abbrev pub is_whole : List ℕ → Bool
is_whole bytes = list_all is_inside bytes

-- a line with its end
pub record IsLine (line : List ℕ) : Type 0 where
  pub body : List ℕ
  pub is : line ≡ body ++ 10 ∷ []
  pub whole : is_whole body ≡ true

whole_more : (xs ys : List ℕ) → is_whole xs ≡ true → is_whole ys ≡ true → is_whole (xs ++ ys) ≡ true
whole_more xs ys p q = list_all-append is_inside xs ys ∙ both (is_whole xs) (is_whole ys) p q

plain_whole : (word : List ℕ) → is_plain word ≡ true → is_whole word ≡ true
plain_whole [] h = refl
plain_whole (b ∷ bs) h = let here = and_parts (is_plain_byte b) (is_plain bs) h in both (is_inside b) (is_whole bs) (ap not (plain_other b 10 here.0 refl)) (plain_whole bs here.1)

behind_whole : (sep : ℕ) (words : List (List ℕ)) → is_inside sep ≡ true → list_all is_whole words ≡ true → is_whole (flat_map (behind_separator sep) words) ≡ true
behind_whole sep [] s h = refl
behind_whole sep (word ∷ words) s h =
    let here = and_parts (is_whole word) (list_all is_whole words) h in
    whole_more (sep ∷ word) (flat_map (behind_separator sep) words) (both (is_inside sep) (is_whole word) s here.0) (behind_whole sep words s here.1)

parted_whole : (sep : ℕ) (words : List (List ℕ)) → is_inside sep ≡ true → list_all is_whole words ≡ true → is_whole (parted sep words) ≡ true
parted_whole sep [] s h = refl
parted_whole sep (word ∷ words) s h = let here = and_parts (is_whole word) (list_all is_whole words) h in whole_more word (flat_map (behind_separator sep) words) here.0 (behind_whole sep words s here.1)

plain_all_whole : (words : List (List ℕ)) → list_all is_plain words ≡ true → list_all is_whole words ≡ true
plain_all_whole [] h = refl
plain_all_whole (word ∷ words) h = let here = and_parts (is_plain word) (list_all is_plain words) h in both (is_whole word) (list_all is_whole words) (plain_whole word here.0) (plain_all_whole words here.1)

pub heading_line : (h : Heading) → is_told_heading h ≡ true → IsLine (heading_text h)
heading_line h told = record { body = parted 32 (heading_words h); is = text_parted h told; whole = parted_whole 32 (heading_words h) refl (plain_all_whole (heading_words h) (words_plain h told)) }

printable_inside : (b : ℕ) → is_printable b ≡ true → is_inside b ≡ true
printable_inside b h = elim (cases_Bool (b == 10)) [
  | inl same ↦ (let there : is_printable 10 ≡ true = subst (λ (c : ℕ). is_printable c ≡ true) (eqb-true b 10 same) h in cc)
  | inr isnt ↦ ap not isnt
]

quoted_whole_by : (v : Bool) (b : ℕ) → (b == 39) ≡ v → is_inside b ≡ true → is_whole (quoted b) ≡ true
quoted_whole_by true b e h = rw (e, h) refl
quoted_whole_by false b e h = rw (e, h) refl

quoted_whole : (bs : List ℕ) → list_all is_printable bs ≡ true → is_whole (flat_map quoted bs) ≡ true
quoted_whole [] h = refl
quoted_whole (b ∷ bs) h =
    let here = and_parts (is_printable b) (list_all is_printable bs) h in
    whole_more (quoted b) (flat_map quoted bs) (quoted_whole_by (b == 39) b refl (printable_inside b here.0)) (quoted_whole bs here.1)

value_whole : (v : Value) → is_told_value v ≡ true → is_whole (value_text v) ≡ true
value_whole Null h = refl
value_whole (Int n) h = cc
value_whole (Big n) h = plain_whole (signed_decimal n) (signed_plain n h)
value_whole (Text bytes) h = whole_more (39 ∷ flat_map quoted bytes) (39 ∷ []) (quoted_whole bytes h) refl

next_whole : (vs : List Value) → list_all is_told_value vs ≡ true → is_whole (flat_map next_value_text vs) ≡ true
next_whole [] h = refl
next_whole (v ∷ vs) h = let here = and_parts (is_told_value v) (list_all is_told_value vs) h in whole_more (44 ∷ value_text v) (flat_map next_value_text vs) (value_whole v here.0) (next_whole vs here.1)

row_line : (row : List Value) → is_told_row row ≡ true → IsLine (row_text row)
row_line [] h = cc
row_line (v ∷ vs) h =
    let here = and_parts (is_told_value v) (list_all is_told_value vs) h in
    let values : is_whole (values_text (v ∷ vs)) ≡ true = whole_more (value_text v) (flat_map next_value_text vs) (value_whole v here.0) (next_whole vs here.1) in
    record {
      body = codes " (" ++ values_text (v ∷ vs) ++ codes ")";
      is = sym (append_assoc (codes " (" ++ values_text (v ∷ vs)) (codes ")") (10 ∷ []));
      whole = whole_more (codes " (" ++ values_text (v ∷ vs)) (codes ")") (whole_more (codes " (") (values_text (v ∷ vs)) refl values) refl;
    }

not_true : (b : Bool) → not b ≡ true → b ≡ false
not_true true h = cc
not_true false h = refl

-- the first line, where it is known
line_first : (body rest : List ℕ) → is_whole body ≡ true → lines_of (body ++ 10 ∷ rest) ≡ (body ++ 10 ∷ []) ∷ lines_of rest
line_first [] rest h = refl
line_first (b ∷ bs) rest h =
    let here = and_parts (is_inside b) (is_whole bs) h in
    rw (not_true (b == 10) here.0, line_first bs rest here.1) refl

pub lines_more : (line rest : List ℕ) → IsLine line → lines_of (line ++ rest) ≡ line ∷ lines_of rest
lines_more line rest h =
    ap (λ (xs : List ℕ). lines_of (xs ++ rest)) h.is ∙ ap lines_of (append_assoc h.body (10 ∷ []) rest) ∙ line_first h.body rest h.whole ∙ ap (λ (xs : List ℕ). xs ∷ lines_of rest) (sym h.is)

pub rows_lines : (rows : List (List Value)) (rest : List ℕ) → list_all is_told_row rows ≡ true → lines_of (flat_map row_text rows ++ rest) ≡ map row_text rows ++ lines_of rest
rows_lines [] rest h = refl
rows_lines (row ∷ rows) rest h =
    let here = and_parts (is_told_row row) (list_all is_told_row rows) h in
    ap lines_of (append_assoc (row_text row) (flat_map row_text rows) rest) ∙ lines_more (row_text row) (flat_map row_text rows ++ rest) (row_line row here.0) ∙ ap (λ (ls : List (List ℕ)). row_text row ∷ ls) (rows_lines rows rest here.1)

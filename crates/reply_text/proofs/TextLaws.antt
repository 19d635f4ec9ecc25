-- The line of a heading is its words with spaces between them, and an end.
use Rattle.std.proofs.Common.{◌≡◌, ℕ, ◌+◌, ◌^◌, ◌<◌, ◌≤◌, Bool, true, false, not, ◌&&◌, ◌||◌, ◌==◌, List, [], ◌∷◌, ◌++◌, length, refl, sym, ap, subst, ◌∙◌, arith, inl, inr, append_assoc, append-nil, lit≤}
use Rattle.std.specs.Prelude.{Option, Some, None, option_and_then, codes, nat_le, nat_lt, slice_index}
use Rattle.std.specs.List.{list_all, flat_map}
use Rattle.std.specs.Char.{is_ascii_digit, is_ascii_alphanumeric, to_ascii_lowercase}
use Rattle.std.specs.Fmt.{decimal}
use Rattle.std.proofs.lemmas.Bool.{and_parts, eqb-true}
use borrow.Author.Tests.{ltb-true}
use Rattle.page_base.specs.Name.{is_name_byte}
use Rattle.byte_fields.specs.Names.{is_low_name, is_low_byte}
use Rattle.page_base.specs.declared.numbers.SessNo.{SessNo}
use Rattle.page_base.specs.declared.numbers.Mode.{Mode}
use Rattle.page_base.specs.declared.numbers.Mode.TheVariants.{S, X}
use Rattle.plain_model.specs.declared.event.LockName.{LockName}
use Rattle.plain_model.specs.declared.event.LockName.TheVariants.{All, Table}
use Rattle.plain_model.specs.declared.reply.Reply.{Reply}
use Rattle.plain_model.specs.declared.reply.Reply.TheVariants.{Ok, Count, Rows, Msg}
use Rattle.plain_model.specs.declared.reply.Message.{Message}
use Rattle.plain_model.specs.declared.reply.Carried.{Carried}
use Rattle.plain_model.specs.declared.reply.Carried.TheVariants.{Nothing, Number, Named}
use Rattle.plain_model.specs.declared.event.Event.{Event}
use Rattle.plain_model.specs.declared.event.Event.TheVariants.{Locked, CutAt, RestoreAt, Turned, Said, Left}
use Rattle.plain_model.specs.Printed.{lock_text, mode_text, carried_text, reply_text}
use Rattle.reply_text.specs.declared.heading.Answer.{Answer}
use Rattle.reply_text.specs.declared.heading.Answer.TheVariants as answer
use Rattle.reply_text.specs.declared.heading.Heading.{Heading}
use Rattle.reply_text.specs.declared.heading.Heading.TheVariants as heading
use Rattle.reply_text.specs.Told.{is_session, is_small, is_large, is_told_lock, is_told_carried}
use Rattle.reply_text.specs.Pieces.{pieces, parted, behind_separator, before}
use Rattle.reply_text.specs.Headings.{heading_in, heading_on, heading_text}
use Rattle.reply_text.proofs.Options.{bound, both}
use Rattle.reply_text.proofs.PieceLaws.{closes, is_plain, is_plain_byte, plain_closes, plain_other, pieces-parted, parted-pieces, before_is, before_end}
use Rattle.reply_text.proofs.PlainLaws.{decimal_plain, name_plain}
use Rattle.reply_text.proofs.WordLaws.{carried_words, session_small}
use Rattle.reply_text.proofs.HeadingLaws.{is_told_answer, answer_words, is_told_heading, heading_words, heading_sound, heading_back, said_parts, SaidParts}

-- the text of an answer
abbrev answer_text : Answer → List ℕ
answer_text (answer.Whole reply) = reply_text reply
answer_text (answer.Rows n) = codes "rows " ++ decimal n ++ codes "\n"

-- words behind spaces, and what stands behind them
abbrev spelled : List (List ℕ) → List ℕ → List ℕ
spelled [] end = end
spelled (word ∷ words) end = 32 ∷ (word ++ spelled words end)

behind_spelled : (words : List (List ℕ)) (end : List ℕ) → flat_map (behind_separator 32) words ++ end ≡ spelled words end
behind_spelled [] end = refl
behind_spelled (word ∷ words) end = ap (λ (xs : List ℕ). 32 ∷ xs) (append_assoc word (flat_map (behind_separator 32) words) end ∙ ap (λ (xs : List ℕ). word ++ xs) (behind_spelled words end))

parted_spelled : (word : List ℕ) (words : List (List ℕ)) (end : List ℕ) → word ++ spelled words end ≡ parted 32 (word ∷ words) ++ end
parted_spelled word words end = sym (append_assoc word (flat_map (behind_separator 32) words) end ∙ ap (λ (xs : List ℕ). word ++ xs) (behind_spelled words end))

carried_spelled : (n : ℕ) (c : Carried) → codes "msg " ++ decimal n ++ carried_text c ++ codes "\n" ≡ codes "msg" ++ spelled (decimal n ∷ carried_words c) (codes "\n")
carried_spelled n Nothing = simp append_assoc
carried_spelled n (Number m) = simp append_assoc
carried_spelled n (Named name) = simp append_assoc

answer_spelled : (a : Answer) → is_told_answer a ≡ true → codes " " ++ answer_text a ≡ spelled (answer_words a) (codes "\n")
answer_spelled (answer.Whole Ok) h = refl
answer_spelled (answer.Whole (Count n)) h = simp append_assoc
answer_spelled (answer.Whole (Rows rows)) h = cc
answer_spelled (answer.Whole (Msg m)) h = ap (λ (xs : List ℕ). 32 ∷ xs) (carried_spelled m.number m.carried)
answer_spelled (answer.Rows n) h = simp append_assoc

said_spelled : (who number began : List ℕ) (a : Answer) → is_told_answer a ≡ true → who ++ codes " said " ++ number ++ codes " " ++ began ++ codes " " ++ answer_text a ≡ who ++ spelled (codes "said" ∷ number ∷ began ∷ answer_words a) (codes "\n")
said_spelled who number began a h =
    append_assoc (who ++ codes " said " ++ number ++ codes " " ++ began) (codes " ") (answer_text a) ∙ ap (λ (xs : List ℕ). (who ++ codes " said " ++ number ++ codes " " ++ began) ++ xs) (answer_spelled a h) ∙ simp append_assoc

-- the first word of a heading, and those behind it
abbrev HasSpelling : Heading → List ℕ → List (List ℕ) → Type 0
HasSpelling h word words = heading_text h ≡ word ++ spelled words (codes "\n")

locked_spelled : (who : SessNo) (table : LockName) (mode : Mode) → HasSpelling (heading.Whole (Locked who table mode)) (decimal who.0) (codes "lock" ∷ lock_text table ∷ mode_text mode ∷ [])
locked_spelled who table mode = simp append_assoc

cut_spelled : (who : SessNo) (snap : List ℕ) → HasSpelling (heading.Whole (CutAt who snap)) (decimal who.0) (codes "cut" ∷ snap ∷ [])
cut_spelled who snap = simp append_assoc

restore_spelled : (who : SessNo) (snap : List ℕ) → HasSpelling (heading.Whole (RestoreAt who snap)) (decimal who.0) (codes "restore" ∷ snap ∷ [])
restore_spelled who snap = simp append_assoc

left_spelled : (who : SessNo) → HasSpelling (heading.Whole (Left who)) (decimal who.0) (codes "left" ∷ [])
left_spelled who = refl

rows_spelled : (who : SessNo) (number began count : ℕ) → HasSpelling (heading.Rows who number began count) (decimal who.0) (codes "said" ∷ decimal number ∷ decimal began ∷ codes "rows" ∷ decimal count ∷ [])
rows_spelled who number began count = simp append_assoc

pub text_parted : (h : Heading) → is_told_heading h ≡ true → heading_text h ≡ parted 32 (heading_words h) ++ codes "\n"
text_parted (heading.Whole (Locked who table mode)) h = locked_spelled who table mode ∙ parted_spelled (decimal who.0) (codes "lock" ∷ lock_text table ∷ mode_text mode ∷ []) (codes "\n")
text_parted (heading.Whole (CutAt who snap)) h = cut_spelled who snap ∙ parted_spelled (decimal who.0) (codes "cut" ∷ snap ∷ []) (codes "\n")
text_parted (heading.Whole (RestoreAt who snap)) h = restore_spelled who snap ∙ parted_spelled (decimal who.0) (codes "restore" ∷ snap ∷ []) (codes "\n")
text_parted (heading.Whole (Turned snap)) h = parted_spelled (codes "turned") (snap ∷ []) (codes "\n")
text_parted (heading.Whole (Said who number began reply)) h =
    said_spelled (decimal who.0) (decimal number) (decimal began) (answer.Whole reply) (said_parts who number began (is_told_answer (answer.Whole reply)) h).told
    ∙ parted_spelled (decimal who.0) (codes "said" ∷ decimal number ∷ decimal began ∷ answer_words (answer.Whole reply)) (codes "\n")
text_parted (heading.Whole (Left who)) h = left_spelled who ∙ parted_spelled (decimal who.0) (codes "left" ∷ []) (codes "\n")
text_parted (heading.Rows who number began count) h = rows_spelled who number began count ∙ parted_spelled (decimal who.0) (codes "said" ∷ decimal number ∷ decimal began ∷ codes "rows" ∷ decimal count ∷ []) (codes "\n")

session_plain : (who : SessNo) → is_session who.0 ≡ true → is_plain (decimal who.0) ≡ true
session_plain who h = decimal_plain who.0 (ltb-true who.0 (2 ^ 64) (session_small who.0 h))

small_plain : (n : ℕ) → is_small n ≡ true → is_plain (decimal n) ≡ true
small_plain n h = decimal_plain n (omega (arith, ltb-true n (2 ^ 32) h, most))
  where
    most : 2 ^ 32 ≤ 2 ^ 64
    most = lit≤ tt

large_plain : (n : ℕ) → is_large n ≡ true → is_plain (decimal n) ≡ true
large_plain n h = decimal_plain n (ltb-true n (2 ^ 64) h)

lock_plain : (t : LockName) → is_told_lock t ≡ true → is_plain (lock_text t) ≡ true
lock_plain All h = refl
lock_plain (Table name) h = name_plain name h

mode_plain : (m : Mode) → is_plain (mode_text m) ≡ true
mode_plain S = refl
mode_plain X = refl

carried_plain : (c : Carried) → is_told_carried c ≡ true → list_all is_plain (carried_words c) ≡ true
carried_plain Nothing h = refl
carried_plain (Number n) h = rw (large_plain n h) refl
carried_plain (Named name) h = rw (name_plain name h) refl

answer_plain : (a : Answer) → is_told_answer a ≡ true → list_all is_plain (answer_words a) ≡ true
answer_plain (answer.Whole Ok) h = refl
answer_plain (answer.Whole (Count n)) h = rw (large_plain n h) refl
answer_plain (answer.Whole (Rows rows)) h = cc
answer_plain (answer.Whole (Msg m)) h = let parts = and_parts (is_small m.number) (is_told_carried m.carried) h in rw (small_plain m.number parts.0, carried_plain m.carried parts.1) refl
answer_plain (answer.Rows n) h = rw (large_plain n h) refl

said_plain : (who : SessNo) (number began : ℕ) (a : Answer) → SaidParts who number began (is_told_answer a) → list_all is_plain (decimal who.0 ∷ codes "said" ∷ decimal number ∷ decimal began ∷ answer_words a) ≡ true
said_plain who number began a h = rw (session_plain who h.session, small_plain number h.numbered, small_plain began h.begun, answer_plain a h.told) refl

pub words_plain : (h : Heading) → is_told_heading h ≡ true → list_all is_plain (heading_words h) ≡ true
words_plain (heading.Whole (Locked who table mode)) h = let parts = and_parts (is_session who.0) (is_told_lock table) h in rw (session_plain who parts.0, lock_plain table parts.1, mode_plain mode) refl
words_plain (heading.Whole (CutAt who snap)) h = let parts = and_parts (is_session who.0) (is_low_name snap) h in rw (session_plain who parts.0, name_plain snap parts.1) refl
words_plain (heading.Whole (RestoreAt who snap)) h = let parts = and_parts (is_session who.0) (is_low_name snap) h in rw (session_plain who parts.0, name_plain snap parts.1) refl
words_plain (heading.Whole (Turned snap)) h = rw (name_plain snap h) refl
words_plain (heading.Whole (Said who number began reply)) h = said_plain who number began (answer.Whole reply) (said_parts who number began (is_told_answer (answer.Whole reply)) h)
words_plain (heading.Whole (Left who)) h = rw (session_plain who h) refl
words_plain (heading.Rows who number began count) h = said_plain who number began (answer.Rows count) (said_parts who number began (is_large count) h)

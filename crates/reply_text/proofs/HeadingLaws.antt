-- A line of an event is read as it is written.
use Rattle.std.proofs.Common.{◌≡◌, ◌≢◌, ◌⊎◌, ℕ, ◌+◌, ◌^◌, ◌≤◌, ◌<◌, Bool, true, false, cond, not, ◌&&◌, ◌||◌, ◌==◌, List, [], ◌∷◌, ◌++◌, length, refl, sym, ap, subst, ◌∙◌, arith, inl, inr, append_assoc, append-nil}
use Rattle.std.specs.Prelude.{Option, Some, None, option_and_then, codes}
use Rattle.std.specs.Option.{option_map}
use Rattle.std.specs.List.{list_all}
use Rattle.std.specs.Str.{bytes_eq}
use Rattle.std.specs.Fmt.{decimal}
use Rattle.std.proofs.lemmas.Bool.{and_parts}
use borrow.Author.Tests.{ltb-true}
use Rattle.page_base.specs.declared.numbers.SessNo.{SessNo}
use Rattle.page_base.specs.declared.numbers.Mode.{Mode}
use Rattle.page_base.specs.declared.numbers.Mode.TheVariants.{S, X}
use Rattle.byte_fields.specs.Names.{is_low_name}
use Rattle.plain_model.specs.declared.event.LockName.{LockName}
use Rattle.plain_model.specs.declared.event.LockName.TheVariants.{All, Table}
use Rattle.plain_model.specs.declared.reply.Reply.{Reply}
use Rattle.plain_model.specs.declared.reply.Reply.TheVariants.{Ok, Count, Rows, Msg}
use Rattle.plain_model.specs.declared.reply.Message.{Message}
use Rattle.plain_model.specs.declared.reply.Carried.{Carried}
use Rattle.plain_model.specs.declared.reply.Carried.TheVariants.{Nothing, Number, Named}
use Rattle.plain_model.specs.declared.event.Event.{Event}
use Rattle.plain_model.specs.declared.event.Event.TheVariants.{Locked, CutAt, RestoreAt, Turned, Said, Left}
use Rattle.plain_model.specs.Printed.{lock_text, mode_text}
use Rattle.reply_text.specs.declared.heading.Answer.{Answer}
use Rattle.reply_text.specs.declared.heading.Answer.TheVariants as answer
use Rattle.reply_text.specs.declared.heading.Heading.{Heading}
use Rattle.reply_text.specs.declared.heading.Heading.TheVariants as heading
use Rattle.reply_text.specs.Told.{is_session, is_small, is_large, is_told_lock, is_told_carried, is_told_reply}
use Rattle.reply_text.specs.Pieces.{alone}
use Rattle.reply_text.specs.Headings.{session_on, small_on, large_in, lock_on, mode_on, locked_in, carried_in, message_in, done_in, answer_by, answer_in, said_as, said_in, left_in, deed_by, session_in, turned_in, heading_by, heading_in, name_in}
use Rattle.reply_text.proofs.Options.{bound, mapped, chosen, both}
use Rattle.reply_text.proofs.PieceLaws.{eq_of, alone_is}
use Rattle.reply_text.proofs.WordLaws.{small_sound, small_back, large_in_sound, large_back, session_sound, session_back, name_in_sound, name_back, lock_sound, lock_back, mode_sound, mode_back, carried_words, carried_sound, carried_back}

-- a reply of one line
abbrev pub is_told_answer : Answer → Bool
is_told_answer (answer.Whole Ok) = true
is_told_answer (answer.Whole (Count n)) = is_large n
is_told_answer (answer.Whole (Rows rows)) = false
is_told_answer (answer.Whole (Msg m)) = is_small m.number && is_told_carried m.carried
is_told_answer (answer.Rows n) = is_large n

abbrev pub answer_words : Answer → List (List ℕ)
answer_words (answer.Whole Ok) = codes "ok" ∷ []
answer_words (answer.Whole (Count n)) = codes "count" ∷ decimal n ∷ []
answer_words (answer.Whole (Rows rows)) = []
answer_words (answer.Whole (Msg m)) = codes "msg" ∷ decimal m.number ∷ carried_words m.carried
answer_words (answer.Rows n) = codes "rows" ∷ decimal n ∷ []

abbrev pub is_told_heading : Heading → Bool
is_told_heading (heading.Whole (Locked who table mode)) = is_session who.0 && is_told_lock table
is_told_heading (heading.Whole (CutAt who snap)) = is_session who.0 && is_low_name snap
is_told_heading (heading.Whole (RestoreAt who snap)) = is_session who.0 && is_low_name snap
is_told_heading (heading.Whole (Turned snap)) = is_low_name snap
is_told_heading (heading.Whole (Said who number began reply)) = is_session who.0 && is_small number && is_small began && is_told_answer (answer.Whole reply)
is_told_heading (heading.Whole (Left who)) = is_session who.0
is_told_heading (heading.Rows who number began count) = is_session who.0 && is_small number && is_small began && is_large count

abbrev pub heading_words : Heading → List (List ℕ)
heading_words (heading.Whole (Locked who table mode)) = decimal who.0 ∷ codes "lock" ∷ lock_text table ∷ mode_text mode ∷ []
heading_words (heading.Whole (CutAt who snap)) = decimal who.0 ∷ codes "cut" ∷ snap ∷ []
heading_words (heading.Whole (RestoreAt who snap)) = decimal who.0 ∷ codes "restore" ∷ snap ∷ []
heading_words (heading.Whole (Turned snap)) = codes "turned" ∷ snap ∷ []
heading_words (heading.Whole (Said who number began reply)) = decimal who.0 ∷ codes "said" ∷ decimal number ∷ decimal began ∷ answer_words (answer.Whole reply)
heading_words (heading.Whole (Left who)) = decimal who.0 ∷ codes "left" ∷ []
heading_words (heading.Rows who number began count) = decimal who.0 ∷ codes "said" ∷ decimal number ∷ decimal began ∷ answer_words (answer.Rows count)

abbrev SaysAnswer : List (List ℕ) → Answer → Type 0
SaysAnswer words a = (words ≡ answer_words a) × (is_told_answer a ≡ true)

message_sound : (words : List (List ℕ)) (a : Answer) → message_in words ≡ Some a → SaysAnswer (codes "msg" ∷ words) a
message_sound [] a h = cc
message_sound (number ∷ words) a h =
    let n = bound (small_on number) (λ (n : ℕ). option_map (λ (c : Carried). answer.Whole (Msg (record { number = n; carried = c }))) (carried_in words)) a h in
    let c = mapped (carried_in words) (λ (c : Carried). answer.Whole (Msg (record { number = n.0; carried = c }))) a n.2 in
    let first = small_sound number n.0 n.1 in
    let more = carried_sound words c.0 c.1 in
    subst (λ (x : Answer). SaysAnswer (codes "msg" ∷ number ∷ words) x) c.2 (λ i. codes "msg" ∷ first.0 i ∷ more.0 i, both (is_small n.0) (is_told_carried c.0) first.1 more.1)

done_sound : (words : List (List ℕ)) (a : Answer) → done_in words ≡ Some a → SaysAnswer (codes "ok" ∷ words) a
done_sound [] a h = let is : answer.Whole Ok ≡ a = cc in subst (λ (x : Answer). SaysAnswer (codes "ok" ∷ []) x) is (refl, refl)
done_sound (word ∷ words) a h = cc

count_sound : (words : List (List ℕ)) (a : Answer) → option_map (λ (n : ℕ). answer.Whole (Count n)) (large_in words) ≡ Some a → SaysAnswer (codes "count" ∷ words) a
count_sound words a h =
    let n = mapped (large_in words) (λ (n : ℕ). answer.Whole (Count n)) a h in
    let known = large_in_sound words n.0 n.1 in
    subst (λ (x : Answer). SaysAnswer (codes "count" ∷ words) x) n.2 (λ i. codes "count" ∷ known.0 i, known.1)

rows_sound : (words : List (List ℕ)) (a : Answer) → option_map (λ (n : ℕ). answer.Rows n) (large_in words) ≡ Some a → SaysAnswer (codes "rows" ∷ words) a
rows_sound words a h =
    let n = mapped (large_in words) (λ (n : ℕ). answer.Rows n) a h in
    let known = large_in_sound words n.0 n.1 in
    subst (λ (x : Answer). SaysAnswer (codes "rows" ∷ words) x) n.2 (λ i. codes "rows" ∷ known.0 i, known.1)

abbrev as_count : List (List ℕ) → Option Answer
as_count words = option_map (λ (n : ℕ). answer.Whole (Count n)) (large_in words)

abbrev as_rows : List (List ℕ) → Option Answer
as_rows words = option_map (λ (n : ℕ). answer.Rows n) (large_in words)

-- what is known of words behind the one that is named
named_answer : (word given : List ℕ) (words : List (List ℕ)) (a : Answer) → bytes_eq word given ≡ true → SaysAnswer (given ∷ words) a → SaysAnswer (word ∷ words) a
named_answer word given words a e h = (ap (λ (w : List ℕ). w ∷ words) (eq_of word given e) ∙ h.0, h.1)

pub answer_sound : (words : List (List ℕ)) (a : Answer) → answer_in words ≡ Some a → (words ≡ answer_words a) × (is_told_answer a ≡ true)
answer_sound [] a h = cc
answer_sound (word ∷ words) a h = elim (chosen (bytes_eq word (codes "ok")) (done_in words) (cond (bytes_eq word (codes "count")) (as_count words) (cond (bytes_eq word (codes "rows")) (as_rows words) (cond (bytes_eq word (codes "msg")) (message_in words) None))) a h) [
  | inl ok ↦ named_answer word (codes "ok") words a ok.0 (done_sound words a ok.1)
  | inr not_ok ↦ elim (chosen (bytes_eq word (codes "count")) (as_count words) (cond (bytes_eq word (codes "rows")) (as_rows words) (cond (bytes_eq word (codes "msg")) (message_in words) None)) a not_ok.1) [
    | inl count ↦ named_answer word (codes "count") words a count.0 (count_sound words a count.1)
    | inr not_count ↦ elim (chosen (bytes_eq word (codes "rows")) (as_rows words) (cond (bytes_eq word (codes "msg")) (message_in words) None) a not_count.1) [
      | inl rows ↦ named_answer word (codes "rows") words a rows.0 (rows_sound words a rows.1)
      | inr not_rows ↦ elim (chosen (bytes_eq word (codes "msg")) (message_in words) None a not_rows.1) [
        | inl msg ↦ named_answer word (codes "msg") words a msg.0 (message_sound words a msg.1)
        | inr none ↦ cc (none.1)
      ]
    ]
  ]
]

abbrev SaysDeed : SessNo → List (List ℕ) → Heading → Type 0
SaysDeed who words h = (decimal who.0 ∷ words ≡ heading_words h) × (is_told_heading h ≡ true)

three : (a b c : Bool) → a ≡ true → b ≡ true → c ≡ true → (a && b && c) ≡ true
three a b c p q r = both (a && b) c (both a b p q) r

said_by : (who : SessNo) (number began : ℕ) (words : List (List ℕ)) (a : Answer) → is_session who.0 ≡ true → is_small number ≡ true → is_small began ≡ true → SaysAnswer words a → SaysDeed who (codes "said" ∷ decimal number ∷ decimal began ∷ words) (said_as who number began a)
said_by who number began words (answer.Whole reply) s n b h = (rw h.0 refl, both (is_session who.0 && is_small number && is_small began) (is_told_answer (answer.Whole reply)) (three (is_session who.0) (is_small number) (is_small began) s n b) h.1)
said_by who number began words (answer.Rows count) s n b h = (rw h.0 refl, both (is_session who.0 && is_small number && is_small began) (is_large count) (three (is_session who.0) (is_small number) (is_small began) s n b) h.1)

said_sound : (who : SessNo) (words : List (List ℕ)) (h : Heading) → is_session who.0 ≡ true → said_in who words ≡ Some h → SaysDeed who (codes "said" ∷ words) h
said_sound who [] h s e = cc
said_sound who (number ∷ []) h s e = cc
said_sound who (number ∷ began ∷ words) h s e =
    let n = bound (small_on number) (λ (n : ℕ). option_and_then (λ (b : ℕ). option_map (said_as who n b) (answer_in words)) (small_on began)) h e in
    let b = bound (small_on began) (λ (b : ℕ). option_map (said_as who n.0 b) (answer_in words)) h n.2 in
    let a = mapped (answer_in words) (said_as who n.0 b.0) h b.2 in
    let first = small_sound number n.0 n.1 in
    let second = small_sound began b.0 b.1 in
    let known = said_by who n.0 b.0 words a.0 s first.1 second.1 (answer_sound words a.0 a.1) in
    subst (λ (x : Heading). SaysDeed who (codes "said" ∷ number ∷ began ∷ words) x) a.2 ((λ i. decimal who.0 ∷ codes "said" ∷ first.0 i ∷ second.0 i ∷ words) ∙ known.0, known.1)

abbrev SaysEvent : SessNo → List (List ℕ) → Event → Type 0
SaysEvent who words e = SaysDeed who words (heading.Whole e)

locked_sound : (who : SessNo) (words : List (List ℕ)) (e : Event) → is_session who.0 ≡ true → locked_in who words ≡ Some e → SaysEvent who (codes "lock" ∷ words) e
locked_sound who [] e s h = cc
locked_sound who (table ∷ words) e s h =
    let t = bound (lock_on table) (λ (t : LockName). option_map (λ (m : Mode). Locked who t m) (option_and_then mode_on (alone words))) e h in
    let m = mapped (option_and_then mode_on (alone words)) (λ (m : Mode). Locked who t.0 m) e t.2 in
    let w = bound (alone words) mode_on m.0 m.1 in
    let first = lock_sound table t.0 t.1 in
    let words_are : words ≡ mode_text m.0 ∷ [] = alone_is words w.0 w.1 ∙ ap (λ (x : List ℕ). x ∷ []) (mode_sound w.0 m.0 w.2) in
    subst (λ (x : Event). SaysEvent who (codes "lock" ∷ table ∷ words) x) m.2 (λ i. decimal who.0 ∷ codes "lock" ∷ first.0 i ∷ words_are i, both (is_session who.0) (is_told_lock t.0) s first.1)

cut_sound : (who : SessNo) (words : List (List ℕ)) (e : Event) → is_session who.0 ≡ true → option_map (λ (n : List ℕ). CutAt who n) (name_in words) ≡ Some e → SaysEvent who (codes "cut" ∷ words) e
cut_sound who words e s h =
    let n = mapped (name_in words) (λ (n : List ℕ). CutAt who n) e h in
    let known = name_in_sound words n.0 n.1 in
    subst (λ (x : Event). SaysEvent who (codes "cut" ∷ words) x) n.2 (λ i. decimal who.0 ∷ codes "cut" ∷ known.0 i, both (is_session who.0) (is_low_name n.0) s known.1)

restore_sound : (who : SessNo) (words : List (List ℕ)) (e : Event) → is_session who.0 ≡ true → option_map (λ (n : List ℕ). RestoreAt who n) (name_in words) ≡ Some e → SaysEvent who (codes "restore" ∷ words) e
restore_sound who words e s h =
    let n = mapped (name_in words) (λ (n : List ℕ). RestoreAt who n) e h in
    let known = name_in_sound words n.0 n.1 in
    subst (λ (x : Event). SaysEvent who (codes "restore" ∷ words) x) n.2 (λ i. decimal who.0 ∷ codes "restore" ∷ known.0 i, both (is_session who.0) (is_low_name n.0) s known.1)

left_sound : (who : SessNo) (words : List (List ℕ)) (e : Event) → is_session who.0 ≡ true → left_in who words ≡ Some e → SaysEvent who (codes "left" ∷ words) e
left_sound who [] e s h = let is : Left who ≡ e = cc in subst (λ (x : Event). SaysEvent who (codes "left" ∷ []) x) is (refl, s)
left_sound who (word ∷ words) e s h = cc

named_deed : (who : SessNo) (word given : List ℕ) (words : List (List ℕ)) (h : Heading) → bytes_eq word given ≡ true → SaysDeed who (given ∷ words) h → SaysDeed who (word ∷ words) h
named_deed who word given words h e known = (ap (λ (w : List ℕ). decimal who.0 ∷ w ∷ words) (eq_of word given e) ∙ known.0, known.1)

abbrev as_cut : SessNo → List (List ℕ) → Option Event
as_cut who words = option_map (λ (n : List ℕ). CutAt who n) (name_in words)

abbrev as_restore : SessNo → List (List ℕ) → Option Event
as_restore who words = option_map (λ (n : List ℕ). RestoreAt who n) (name_in words)

deed_sound : (who : SessNo) (word : List ℕ) (words : List (List ℕ)) (e : Event) → is_session who.0 ≡ true → deed_by who word words ≡ Some e → SaysEvent who (word ∷ words) e
deed_sound who word words e s h = elim (chosen (bytes_eq word (codes "lock")) (locked_in who words) (cond (bytes_eq word (codes "cut")) (as_cut who words) (cond (bytes_eq word (codes "restore")) (as_restore who words) (cond (bytes_eq word (codes "left")) (left_in who words) None))) e h) [
  | inl lock ↦ named_deed who word (codes "lock") words (heading.Whole e) lock.0 (locked_sound who words e s lock.1)
  | inr not_lock ↦ elim (chosen (bytes_eq word (codes "cut")) (as_cut who words) (cond (bytes_eq word (codes "restore")) (as_restore who words) (cond (bytes_eq word (codes "left")) (left_in who words) None)) e not_lock.1) [
    | inl cut ↦ named_deed who word (codes "cut") words (heading.Whole e) cut.0 (cut_sound who words e s cut.1)
    | inr not_cut ↦ elim (chosen (bytes_eq word (codes "restore")) (as_restore who words) (cond (bytes_eq word (codes "left")) (left_in who words) None) e not_cut.1) [
      | inl restore ↦ named_deed who word (codes "restore") words (heading.Whole e) restore.0 (restore_sound who words e s restore.1)
      | inr not_restore ↦ elim (chosen (bytes_eq word (codes "left")) (left_in who words) None e not_restore.1) [
        | inl left ↦ named_deed who word (codes "left") words (heading.Whole e) left.0 (left_sound who words e s left.1)
        | inr none ↦ cc (none.1)
      ]
    ]
  ]
]

session_deed : (who : SessNo) (words : List (List ℕ)) (h : Heading) → is_session who.0 ≡ true → session_in who words ≡ Some h → SaysDeed who words h
session_deed who [] h s e = cc
session_deed who (word ∷ words) h s e = elim (chosen (bytes_eq word (codes "said")) (said_in who words) (option_map heading.Whole (deed_by who word words)) h e) [
  | inl said ↦ named_deed who word (codes "said") words h said.0 (said_sound who words h s said.1)
  | inr other ↦ (let event = mapped (deed_by who word words) heading.Whole h other.1 in subst (λ (x : Heading). SaysDeed who (word ∷ words) x) event.2 (deed_sound who word words event.0 s event.1))
]

abbrev SaysHeading : List (List ℕ) → Heading → Type 0
SaysHeading words h = (words ≡ heading_words h) × (is_told_heading h ≡ true)

turned_sound : (word : List ℕ) (words : List (List ℕ)) (h : Heading) → turned_in word words ≡ Some h → SaysHeading (word ∷ words) h
turned_sound word words h e = elim (chosen (bytes_eq word (codes "turned")) (option_map (λ (n : List ℕ). heading.Whole (Turned n)) (name_in words)) None h e) [
  | inl turned ↦ (let n = mapped (name_in words) (λ (n : List ℕ). heading.Whole (Turned n)) h turned.1 in let known = name_in_sound words n.0 n.1 in subst (λ (x : Heading). SaysHeading (word ∷ words) x) n.2 (λ i. eq_of word (codes "turned") turned.0 i ∷ known.0 i, known.1))
  | inr none ↦ cc (none.1)
]

heading_by_sound : (word : List ℕ) (words : List (List ℕ)) (o : Option SessNo) (h : Heading) → session_on word ≡ o → heading_by word words o ≡ Some h → SaysHeading (word ∷ words) h
heading_by_sound word words None h s e = turned_sound word words h e
heading_by_sound word words (Some who) h s e =
    let first = session_sound word who s in
    let known = session_deed who words h first.1 e in
    (ap (λ (w : List ℕ). w ∷ words) first.0 ∙ known.0, known.1)

-- words that were read as a heading are its words
pub heading_sound : (words : List (List ℕ)) (h : Heading) → heading_in words ≡ Some h → (words ≡ heading_words h) × (is_told_heading h ≡ true)
heading_sound [] h e = cc
heading_sound (word ∷ words) h e = heading_by_sound word words (session_on word) h refl e

answer_back : (a : Answer) → is_told_answer a ≡ true → answer_in (answer_words a) ≡ Some a
answer_back (answer.Whole Ok) h = refl
answer_back (answer.Whole (Count n)) h = rw (large_back n h) refl
answer_back (answer.Whole (Rows rows)) h = cc
answer_back (answer.Whole (Msg m)) h = let parts = and_parts (is_small m.number) (is_told_carried m.carried) h in rw (small_back m.number parts.0, carried_back m.carried parts.1) refl
answer_back (answer.Rows n) h = rw (large_back n h) refl

-- what is said of a reply in its parts
pub record SaidParts (who : SessNo) (number began : ℕ) (last : Bool) : Type 0 where
  pub session : is_session who.0 ≡ true
  pub numbered : is_small number ≡ true
  pub begun : is_small began ≡ true
  pub told : last ≡ true

pub said_parts : (who : SessNo) (number began : ℕ) (last : Bool) → (is_session who.0 && is_small number && is_small began && last) ≡ true → SaidParts who number began last
said_parts who number began last h =
    let three = and_parts (is_session who.0 && is_small number && is_small began) last h in
    let two = and_parts (is_session who.0 && is_small number) (is_small began) three.0 in
    let one = and_parts (is_session who.0) (is_small number) two.0 in
    record { session = one.0; numbered = one.1; begun = two.1; told = three.1 }

said_back : (who : SessNo) (number began : ℕ) (a : Answer) → SaidParts who number began (is_told_answer a) → heading_in (decimal who.0 ∷ codes "said" ∷ decimal number ∷ decimal began ∷ answer_words a) ≡ Some (said_as who number began a)
said_back who number began a h = rw (session_back who h.session, small_back number h.numbered, small_back began h.begun, answer_back a h.told) refl

-- the words of a heading are read as it
pub heading_back : (h : Heading) → is_told_heading h ≡ true → heading_in (heading_words h) ≡ Some h
heading_back (heading.Whole (Locked who table mode)) h = let parts = and_parts (is_session who.0) (is_told_lock table) h in rw (session_back who parts.0, lock_back table parts.1, mode_back mode) refl
heading_back (heading.Whole (CutAt who snap)) h = let parts = and_parts (is_session who.0) (is_low_name snap) h in rw (session_back who parts.0, parts.1) refl
heading_back (heading.Whole (RestoreAt who snap)) h = let parts = and_parts (is_session who.0) (is_low_name snap) h in rw (session_back who parts.0, parts.1) refl
heading_back (heading.Whole (Turned snap)) h = rw h refl
heading_back (heading.Whole (Said who number began reply)) h = said_back who number began (answer.Whole reply) (said_parts who number began (is_told_answer (answer.Whole reply)) h)
heading_back (heading.Whole (Left who)) h = rw (session_back who h) refl
heading_back (heading.Rows who number began count) h = said_back who number began (answer.Rows count) (said_parts who number began (is_large count) h)

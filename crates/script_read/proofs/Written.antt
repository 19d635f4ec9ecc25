-- What is written as a script is read as one.
use Rattle.std.proofs.Common.{◌≡◌, ℕ, Bool, true, false, List, [], ◌∷◌, ◌++◌, length, take, drop, arith, ap, sym, ◌∙◌, refl}
use Rattle.std.specs.Prelude.{Some, not, ◌==◌, nat_le}
use Rattle.std.specs.List.{list_all, prefix_len}
use Rattle.std.specs.Char.{is_ascii_digit}
use Rattle.std.proofs.lemmas.Bool.{le-leb, eqb-true}
use Rattle.std.proofs.Math.Seq.{take-append_seam, drop-append_seam}
use Rattle.plain_model.specs.declared.kind.Kind.{Kind}
use Rattle.plain_model.specs.declared.kind.Kind.TheVariants.{Start, Lock, Latch, Look, Fetch, Seek, Read, Plan, Pass, Copy, Mark, Claim, Change, Back, Heal, Cut, Gather, Swap, Commit, Say, Leave, Flush}
use Rattle.plain_model.specs.declared.pick.Until.{Until}
use Rattle.plain_model.specs.declared.pick.Until.TheVariants.{One, Reply, At}
use Rattle.plain_model.specs.declared.pick.Pick.{Pick}
use Rattle.script_read.specs.Decimal.{is_decimal}
use Rattle.script_read.specs.Picks.{IsUntil, IsPick, words, ArePicks, HasPicks, until_of, digits_len, picked, pick_by, pick_of, picks_of, picks_on}
use Rattle.script_read.specs.Classes.{is_blank}
use Rattle.script_read.proofs.BoolLemmas.{both_hold}

-- the digits of a number are digits
decimal_digits : (ds : List ℕ) → is_decimal ds ≡ true → list_all is_ascii_digit ds ≡ true
decimal_digits [] h = cc
decimal_digits (d ∷ []) h = rw h refl
decimal_digits (d ∷ e ∷ ds) h = (both_hold (not (d == 48)) (list_all is_ascii_digit (d ∷ e ∷ ds)) h).1

-- digits before what isn't a digit
digits_before : (ds rest : List ℕ) → list_all is_ascii_digit ds ≡ true → prefix_len is_ascii_digit rest ≡ 0 → prefix_len is_ascii_digit (ds ++ rest) ≡ length ds
digits_before [] rest h e = e
digits_before (d ∷ ds) rest h e =
    let parts = both_hold (is_ascii_digit d) (list_all is_ascii_digit ds) h in
    rw (parts.0, digits_before ds rest parts.1 e) (omega arith)

kind_found : (kind : Kind) (rest : List ℕ) → IsUntil (At kind) rest → (until_of rest ≡ Some (At kind)) × (prefix_len is_ascii_digit rest ≡ 0)
kind_found Start rest h = rw h (refl, refl)
kind_found Lock rest h = rw h (refl, refl)
kind_found Latch rest h = rw h (refl, refl)
kind_found Look rest h = rw h (refl, refl)
kind_found Fetch rest h = rw h (refl, refl)
kind_found Seek rest h = rw h (refl, refl)
kind_found Read rest h = rw h (refl, refl)
kind_found Plan rest h = rw h (refl, refl)
kind_found Pass rest h = rw h (refl, refl)
kind_found Copy rest h = rw h (refl, refl)
kind_found Mark rest h = rw h (refl, refl)
kind_found Claim rest h = rw h (refl, refl)
kind_found Change rest h = rw h (refl, refl)
kind_found Back rest h = rw h (refl, refl)
kind_found Heal rest h = rw h (refl, refl)
kind_found Cut rest h = rw h (refl, refl)
kind_found Gather rest h = rw h (refl, refl)
kind_found Swap rest h = rw h (refl, refl)
kind_found Commit rest h = rw h (refl, refl)
kind_found Say rest h = rw h (refl, refl)
kind_found Leave rest h = rw h (refl, refl)
kind_found Flush rest h = absurd h

until_found : (until : Until) (rest : List ℕ) → IsUntil until rest → (until_of rest ≡ Some until) × (prefix_len is_ascii_digit rest ≡ 0)
until_found One rest h = rw h (refl, refl)
until_found Reply rest h = rw h (refl, refl)
until_found (At kind) rest h = kind_found kind rest h

by_found : (v : Bool) (pick : Pick) → (pick.who == 0) ≡ v → (pick.who ≡ 0 → pick.until ≡ One) → pick_by pick.who (Some pick.until) ≡ Some pick
by_found true pick e h =
    let zero : pick.who ≡ 0 = eqb-true pick.who 0 e in
    let one : pick.until ≡ One = h zero in
    rw (e, one) (ap (λ k. Some (picked k One)) (sym zero))
by_found false pick e h = rw e refl

-- a pick that is written so is read
pub pick_found : (sessions : ℕ) (word : List ℕ) (pick : Pick) → IsPick sessions word pick → pick_of sessions word ≡ Some pick
pick_found sessions word pick h =
    let far = until_found pick.until h.rest h.far in
    let len : digits_len word ≡ length h.digits = ap (prefix_len is_ascii_digit) h.word_is ∙ digits_before h.digits h.rest (decimal_digits h.digits h.number.form) far.1 in
    let front : take (digits_len word) word ≡ h.digits = ap (λ k. take k word) len ∙ ap (take (length h.digits)) h.word_is ∙ take-append_seam h.digits h.rest in
    let back : drop (digits_len word) word ≡ h.rest = ap (λ k. drop k word) len ∙ ap (drop (length h.digits)) h.word_is ∙ drop-append_seam h.digits h.rest in
    let there : nat_le pick.who sessions ≡ true = le-leb pick.who sessions h.there in
    rw (front, back, h.number.form, h.number.value, there, far.0) (by_found (pick.who == 0) pick refl h.flusher)

picks_found : (sessions : ℕ) (line : List (List ℕ)) (picks : List Pick) → ArePicks sessions line picks → picks_of sessions line ≡ Some picks
picks_found sessions [] [] h = refl
picks_found sessions [] (pick ∷ picks) h = absurd h
picks_found sessions (word ∷ rest) [] h = absurd h
picks_found sessions (word ∷ rest) (pick ∷ picks) h = rw (pick_found sessions word pick h.0, picks_found sessions rest picks h.1) refl

on_by : (v : Bool) (sessions : ℕ) (line : List ℕ) (picks : List Pick) → is_blank line ≡ v → HasPicks sessions line picks → picks_on sessions line ≡ Some picks
on_by true sessions line picks e h = let empty : picks ≡ [] = h.0 e in rw (e, empty) refl
on_by false sessions line picks e h = rw e (picks_found sessions (words line) picks (h.1 e))

-- a line's picks that are written so are read
pub on_found : (sessions : ℕ) (line : List ℕ) (picks : List Pick) → HasPicks sessions line picks → picks_on sessions line ≡ Some picks
on_found sessions line picks h = on_by (is_blank line) sessions line picks refl h

-- How the lines of a batch are taken one by one.
use Rattle.std.proofs.Common.{◌≡◌, ℕ, suc, ◌+◌, ◌-◌, Bool, true, false, List, [], ◌∷◌, ◌++◌, length, take, arith, ap, sym, ◌∙◌, refl, add-zero, append_assoc, length-append, Option}
use Rattle.std.specs.Prelude.{Some, None, ◌&&◌, MatchOption}
use Rattle.std.specs.List.{list_all}
use Rattle.std.proofs.lemmas.List.{take-append-le}
use Rattle.script_read.specs.Lines.{ended, joined}
use Rattle.script_read.specs.Classes.{ends_batch}
use Rattle.script_read.specs.Taking.{is_inner, noted, first_bad}
use Rattle.script_read.proofs.LineLemmas.{ended-append, joined_front}

-- so far these lines were taken
pub record Took (bad : Option ℕ) (number : ℕ) (old : List (List ℕ)) (next : ℕ) (new : List (List ℕ)) : Type 0 where
  pub lines : List (List ℕ)
  pub split : old ≡ lines ++ new
  pub inner : list_all is_inner lines ≡ true
  pub bad_is : bad ≡ first_bad None number lines
  pub next_is : next ≡ number + length lines

-- the first bad line of one line more
pub first_bad-push : (bad : Option ℕ) (number : ℕ) (lines : List (List ℕ)) (line : List ℕ) → first_bad bad number (lines ++ line ∷ []) ≡ noted (first_bad bad number lines) (number + length lines) line
first_bad-push bad number [] line = rw add-zero refl
first_bad-push bad number (l ∷ lines) line =
    let e : number + 1 + length lines ≡ number + suc (length lines) = omega arith in
    first_bad-push (noted bad number l) (number + 1) lines line ∙ ap (λ n. noted (first_bad (noted bad number l) (number + 1) lines) n line) e

all_push_by : (v : Bool) (test : List ℕ → Bool) (lines : List (List ℕ)) (line : List ℕ) → (v && list_all test lines) ≡ true
    → (list_all test lines ≡ true → list_all test (lines ++ line ∷ []) ≡ true) → (v && list_all test (lines ++ line ∷ [])) ≡ true
all_push_by true test lines line h next = next h
all_push_by false test lines line h next = cc

-- all pass, and one more
pub all_push : (test : List ℕ → Bool) (lines : List (List ℕ)) (line : List ℕ) → list_all test lines ≡ true → test line ≡ true → list_all test (lines ++ line ∷ []) ≡ true
all_push test [] line h i = rw i refl
all_push test (l ∷ lines) line h i = all_push_by (test l) test lines line h (λ rest. all_push test lines line rest i)

-- one line more was taken
pub took_more : (bad : Option ℕ) (number next : ℕ) (old new rest : List (List ℕ)) (line : List ℕ) → Took bad number old next new → new ≡ line ∷ rest → ends_batch line ≡ false
    → Took (noted bad next line) number old (next + 1) rest
took_more bad number next old new rest line h e inner = record {
  lines = h.lines ++ line ∷ [];
  split = h.split ∙ ap (λ (ls : List (List ℕ)). h.lines ++ ls) e ∙ sym (append_assoc h.lines (line ∷ []) rest);
  inner = all_push is_inner h.lines line h.inner (rw inner refl);
  bad_is = rw (h.bad_is, h.next_is) (sym (first_bad-push None number h.lines line));
  next_is = rw h.next_is (simp length-append (omega arith));
}

-- the bytes of what was taken
pub took_bytes : (lines new : List (List ℕ)) (start rest : List ℕ) → start ≡ ended (lines ++ new) → rest ≡ ended new → take (length start - length rest - 1) start ≡ joined lines
took_bytes lines new start rest e f =
    let split : start ≡ ended lines ++ rest = e ∙ ended-append lines new ∙ ap (λ (bytes : List ℕ). ended lines ++ bytes) (sym f) in
    let long : length start - length rest ≡ length (ended lines) = omega (arith, ap length split, length-append (ended lines) rest) in
    let n : ℕ = length (ended lines) - 1 in
    rw (long, split) (take-append-le n (ended lines) rest (omega arith) ∙ joined_front lines)

-- what holds where there is no value
pub no_value : {X : Type 0} (o : Option X) (P : Type 0) (Q : X → Type 0) → MatchOption o P Q → ((x : X) → o ≡ Some x → ⊥) → P
no_value None P Q h none = h
no_value (Some x) P Q h none = absurd (none x refl)

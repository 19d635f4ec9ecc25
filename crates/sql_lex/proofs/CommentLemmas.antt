-- Where comments end.
use Rattle.std.proofs.Common.{◌≡◌, ℕ, zero, suc, ◌+◌, Bool, true, false, cond, List, [], ◌∷◌, ◌++◌, length, arith, ap, sym, ◌∙◌, refl, inl, inr, ◌⊎◌, Option}
use Rattle.std.specs.Prelude.{Some, None, ◌==◌, ◌&&◌}
use Rattle.std.proofs.lemmas.Bool.{eqb-true}
use Rattle.sql_lex.proofs.BoolLemmas.{both_hold, none_holds}
use Rattle.sql_lex.specs.Comments.{turns, Closes, over, opens, closes, stays, IsOpen, comment_end}

-- the first of the bytes ends no `/*` or `*/`
abbrev pub IsApart : ℕ → List ℕ → Type 0
IsApart before [] = Unit {0}
IsApart before (b ∷ bs) = turns before b ≡ false

apart : (bs : List ℕ) → IsApart 0 bs
apart [] = tt
apart (b ∷ bs) = refl

goes_on : (before depth n b : ℕ) (bs : List ℕ) → turns before b ≡ false → comment_end before depth n (b ∷ bs) ≡ comment_end b depth (n + 1) bs
goes_on before depth n b bs plain = let both = none_holds (before == 47 && b == 42) (before == 42 && b == 47) plain in rw (both.0, both.1) refl

-- what closes all that is open ends there
pub closed_end : (depth before n : ℕ) (front rest : List ℕ) → Closes (suc depth) front → IsApart before front → comment_end before depth n (front ++ rest) ≡ Some (n + length front)
closed_end depth before n front rest (opens inner more h) plain =
    let long : n + 1 + 1 + length more ≡ n + suc (suc (length more)) = omega arith in
    goes_on before inner n 47 (42 ∷ (more ++ rest)) plain ∙ closed_end (suc inner) 0 (n + 1 + 1) more rest h (apart more) ∙ ap Some long
closed_end depth before n front rest (closes zero more over) plain =
    let long : n + 1 + 1 ≡ n + 2 = omega arith in
    goes_on before 0 n 42 (47 ∷ rest) plain ∙ ap Some long
closed_end depth before n front rest (closes (suc outer) more h) plain =
    let long : n + 1 + 1 + length more ≡ n + suc (suc (length more)) = omega arith in
    goes_on before (suc outer) n 42 (47 ∷ (more ++ rest)) plain ∙ closed_end outer 0 (n + 1 + 1) more rest h (apart more) ∙ ap Some long
closed_end depth before n front rest (stays inner b c more turn h) plain =
    let long : n + 1 + suc (length more) ≡ n + suc (suc (length more)) = omega arith in
    goes_on before inner n b (c ∷ (more ++ rest)) plain ∙ closed_end inner b (n + 1) (c ∷ more) rest h turn ∙ ap Some long

-- bytes in front close all that is open, with the byte before them
pub record EndsAt (before depth n m : ℕ) (bs : List ℕ) : Type 0 where
  pub front : List ℕ
  pub rest : List ℕ
  pub split : bs ≡ front ++ rest
  pub closes : Closes (suc depth) (before ∷ front)
  pub long : m ≡ n + length front

-- a byte that turns nothing may be left out
without : (depth : ℕ) (front : List ℕ) → Closes (suc depth) (0 ∷ front) → Closes (suc depth) front
without depth front (stays inner b c more turn h) = h

opened : (depth n m before b : ℕ) (bs : List ℕ) → before ≡ 47 → b ≡ 42 → EndsAt 0 (suc depth) (n + 1) m bs → EndsAt before depth n m (b ∷ bs)
opened depth n m before b bs slash star h = record {
  front = 42 ∷ h.front;
  rest = h.rest;
  split = rw star (ap (λ (cs : List ℕ). 42 ∷ cs) h.split);
  closes = rw slash (opens depth h.front (without (suc depth) h.front h.closes));
  long = omega (arith, h.long);
}

closed : (depth n m before b : ℕ) (bs : List ℕ) → before ≡ 42 → b ≡ 47 → EndsAt 0 depth (n + 1) m bs → EndsAt before (suc depth) n m (b ∷ bs)
closed depth n m before b bs star slash h = record {
  front = 47 ∷ h.front;
  rest = h.rest;
  split = rw slash (ap (λ (cs : List ℕ). 47 ∷ cs) h.split);
  closes = rw star (closes (suc depth) h.front (without depth h.front h.closes));
  long = omega (arith, h.long);
}

stayed : (depth n m before b : ℕ) (bs : List ℕ) → turns before b ≡ false → EndsAt b depth (n + 1) m bs → EndsAt before depth n m (b ∷ bs)
stayed depth n m before b bs plain h = record {
  front = b ∷ h.front;
  rest = h.rest;
  split = ap (λ (cs : List ℕ). b ∷ cs) h.split;
  closes = stays depth before b h.front plain h.closes;
  long = omega (arith, h.long);
}

last_closed : (n m before b : ℕ) (bs : List ℕ) → before ≡ 42 → b ≡ 47 → Some (n + 1) ≡ Some m → EndsAt before 0 n m (b ∷ bs)
last_closed n m before b bs star slash e = let same : n + 1 ≡ m = cc in record {
  front = 47 ∷ [];
  rest = bs;
  split = rw slash refl;
  closes = rw star (closes 0 [] over);
  long = sym same;
}

-- which of two answers was given
pub pick : {X : Type 0} (v : Bool) (x y : Option X) (m : X) → cond v x y ≡ Some m → ((v ≡ true) × (x ≡ Some m)) ⊎ ((v ≡ false) × (y ≡ Some m))
pick true x y m e = inl (refl, e)
pick false x y m e = inr (refl, e)

bytes_are : (before b c d : ℕ) → (before == c && b == d) ≡ true → (before ≡ c) × (b ≡ d)
bytes_are before b c d h = let both = both_hold (before == c) (b == d) h in (eqb-true before c both.0, eqb-true b d both.1)

-- where an end is found bytes in front close all that is open
pub ends_at : (bs : List ℕ) (before depth n m : ℕ) → comment_end before depth n bs ≡ Some m → EndsAt before depth n m bs
ends_at [] before depth n m e = cc
ends_at (b ∷ bs) before zero n m e = elim (pick (before == 47 && b == 42) _ _ m e) [
  | inl p ↦ (let same = bytes_are before b 47 42 p.0 in opened 0 n m before b bs same.0 same.1 (ends_at bs 0 1 (n + 1) m p.1))
  | inr p ↦ elim (pick (before == 42 && b == 47) _ _ m p.1) [
    | inl q ↦ (let same = bytes_are before b 42 47 q.0 in last_closed n m before b bs same.0 same.1 q.1)
    | inr q ↦ (let plain : turns before b ≡ false = rw (p.0, q.0) refl in stayed 0 n m before b bs plain (ends_at bs b 0 (n + 1) m q.1))
  ]
]
ends_at (b ∷ bs) before (suc depth) n m e = elim (pick (before == 47 && b == 42) _ _ m e) [
  | inl p ↦ (let same = bytes_are before b 47 42 p.0 in opened (suc depth) n m before b bs same.0 same.1 (ends_at bs 0 (suc (suc depth)) (n + 1) m p.1))
  | inr p ↦ elim (pick (before == 42 && b == 47) _ _ m p.1) [
    | inl q ↦ (let same = bytes_are before b 42 47 q.0 in closed depth n m before b bs same.0 same.1 (ends_at bs 0 depth (n + 1) m q.1))
    | inr q ↦ (let plain : turns before b ≡ false = rw (p.0, q.0) refl in stayed (suc depth) n m before b bs plain (ends_at bs b (suc depth) (n + 1) m q.1))
  ]
]

-- bytes in front close the one comment that is open
pub record HasComment (bs : List ℕ) (n : ℕ) : Type 0 where
  pub inside : List ℕ
  pub rest : List ℕ
  pub split : bs ≡ inside ++ rest
  pub closes : Closes 1 inside
  pub long : n ≡ length inside

pub comment_in_front : (bs : List ℕ) (n : ℕ) → comment_end 0 0 0 bs ≡ Some n → HasComment bs n
comment_in_front bs n e = let h = ends_at bs 0 0 0 n e in record { inside = h.front; rest = h.rest; split = h.split; closes = without 0 h.front h.closes; long = omega (arith, h.long) }

-- a comment ends behind the bytes that close it
pub comment_ends : (inside rest : List ℕ) → Closes 1 inside → comment_end 0 0 0 (inside ++ rest) ≡ Some (length inside)
comment_ends inside rest h = closed_end 0 0 0 inside rest h (apart inside) ∙ ap Some (omega arith)

-- where no end is found none is there, and the other way round
pub none_open : (bs : List ℕ) → comment_end 0 0 0 bs ≡ None → IsOpen bs
none_open bs none = λ front rest h split. let found : comment_end 0 0 0 bs ≡ Some (length front) = ap (comment_end 0 0 0) split ∙ comment_ends front rest h in cc

open_one : (bs : List ℕ) (o : Option ℕ) → IsOpen bs → comment_end 0 0 0 bs ≡ o → o ≡ None
open_one bs None unended e = refl
open_one bs (Some n) unended e = let h = comment_in_front bs n e in absurd (unended h.inside h.rest h.closes h.split)

pub open_none : (bs : List ℕ) → IsOpen bs → comment_end 0 0 0 bs ≡ None
open_none bs unended = open_one bs (comment_end 0 0 0 bs) unended refl

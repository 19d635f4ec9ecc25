-- So many values read one after the other, as a loop reads them.
use Rattle.std.proofs.Common.{◌≡◌, ℕ, suc, ◌+◌, ◌-◌, ◌<◌, ◌≤◌, List, [], ◌∷◌, ◌++◌, refl, sym, ap, ◌∙◌, arith, append_assoc}
use Rattle.std.specs.Prelude.{Ok, Err}
use Rattle.std.proofs.lemmas.List.{append-nil}
use Rattle.page_base.specs.Reading.{Read, ◌>>=◌, times_at}

-- what was read before, in front of what is still read
abbrev pub with_front : {X : Type 0} → List X → Read (List X) → Read (List X)
with_front front read = read >>= λ xs. Ok (front ++ xs.0, xs.1)

module _ {X : Type 0} (read : List ℕ → Read X) (front : List X) (count i : ℕ) (bytes : List ℕ) (total : Read (List X)) (so_far : with_front front (times_at read (count - i) bytes) ≡ total) where
  regroup : (x : X) (others : Read (List X)) → with_front front (others >>= λ xs. Ok (x ∷ xs.0, xs.1)) ≡ with_front (front ++ x ∷ []) others
  regroup x (Ok xs) = ap (λ (ys : List X). Ok (ys, xs.1)) (sym (append_assoc front (x ∷ []) xs.0))
  regroup x (Err rest) = refl

  -- one more value was read
  pub times_more : (x : X) (after : List ℕ) → i < count → read bytes ≡ Ok (x, after) → with_front (front ++ x ∷ []) (times_at read (count - (i + 1)) after) ≡ total
  unfolding times_at
  times_more x after lt h =
      let k : count - i ≡ suc (count - (i + 1)) = omega arith in
      let one : with_front front (times_at read (count - i) bytes) ≡ with_front (front ++ x ∷ []) (times_at read (count - (i + 1)) after) = rw (k, h) (regroup x (times_at read (count - (i + 1)) after)) in
      sym one ∙ so_far

  -- a value was refused
  pub times_stop : (rest : List ℕ) → i < count → read bytes ≡ Err rest → total ≡ Err rest
  unfolding times_at
  times_stop rest lt h =
      let k : count - i ≡ suc (count - (i + 1)) = omega arith in
      let one : with_front front (times_at read (count - i) bytes) ≡ Err rest = rw (k, h) refl in
      sym so_far ∙ one

  -- all were read
  pub times_end : count ≤ i → total ≡ Ok (front, bytes)
  unfolding times_at
  times_end le =
      let k : count - i ≡ 0 = omega arith in
      let one : with_front front (times_at read (count - i) bytes) ≡ Ok (front, bytes) = rw k (ap (λ (xs : List X). Ok (xs, bytes)) (append-nil front)) in
      sym so_far ∙ one

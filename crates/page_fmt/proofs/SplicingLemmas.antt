-- Zeros that a rotation brings before a tail, or takes from there.
use Rattle.std.proofs.Common.{◌≡◌, ℕ, ◌+◌, ◌-◌, ◌≤◌, List, ◌++◌, length, take, drop, ap, sym, ◌∙◌, arith, append_assoc, length-append}
use Rattle.std.proofs.lemmas.List.{take_at, drop_at, length-replicate, replicate-append-replicate, drop-append-le, drop-replicate, take-append-le, take-replicate}
use Rattle.page_fmt.specs.Places.{zeros}

-- the area is `old` zeros and a tail up to `end`, and zeros behind them
record Lies (area tail : List ℕ) (old end : ℕ) : Type 0 where
  whole : area ≡ (zeros old ++ tail) ++ zeros (length area - end)
  long : length (zeros old ++ tail) ≡ end

lies : (area tail : List ℕ) (old end : ℕ) → end ≤ length area → area ≡ zeros old ++ (tail ++ zeros (length area - end)) → Lies area tail old end
lies area tail old end within e =
    let front : length (zeros old) ≡ old = length-replicate {A = ℕ} old 0 in
    let back : length (zeros (length area - end)) ≡ length area - end = length-replicate {A = ℕ} (length area - end) 0 in
    record {
      whole = e ∙ sym (append_assoc (zeros old) tail (zeros (length area - end)));
      long = omega (arith, ap length e, length-append (zeros old) (tail ++ zeros (length area - end)), length-append tail (zeros (length area - end)), length-append (zeros old) tail);
    }

pub moved_back : (area after tail : List ℕ) (old by end : ℕ) → end + by ≤ length area → after ≡ (drop end (take (end + by) area) ++ take end area) ++ drop (end + by) area →
    area ≡ zeros old ++ (tail ++ zeros (length area - end)) → after ≡ zeros (old + by) ++ (tail ++ zeros (length area - end - by))
moved_back area after tail old by end room is e =
    let l : Lies area tail old end = lies area tail old end (omega arith) e in
    let front : List ℕ = zeros old ++ tail in
    let rest : List ℕ = zeros (length area - end) in
    let split : rest ≡ zeros by ++ zeros (length area - end - by) =
    ap (λ n. zeros n) (parts (length area - end) by (omega arith)) ∙ sym (replicate-append-replicate by (length area - end - by) 0) in
    let whole : area ≡ (front ++ zeros by) ++ zeros (length area - end - by) =
    l.whole ∙ ap (λ z. front ++ z) split ∙ sym (append_assoc front (zeros by) (zeros (length area - end - by))) in
    let long : length (front ++ zeros by) ≡ end + by = length-append front (zeros by) ∙ (λ i. l.long i + length-replicate {A = ℕ} by 0 i) in
    let near : take (end + by) area ≡ front ++ zeros by = ap (take (end + by)) whole ∙ take_at (front ++ zeros by) (zeros (length area - end - by)) (end + by) long in
    let behind : drop (end + by) area ≡ zeros (length area - end - by) = ap (drop (end + by)) whole ∙ drop_at (front ++ zeros by) (zeros (length area - end - by)) (end + by) long in
    let new : drop end (take (end + by) area) ≡ zeros by = ap (drop end) near ∙ drop_at front (zeros by) end l.long in
    let kept : take end area ≡ front = ap (take end) l.whole ∙ take_at front rest end l.long in
    is ∙ (λ i. (new i ++ kept i) ++ behind i)
    ∙ append_assoc (zeros by) front (zeros (length area - end - by))
    ∙ ap (λ z. zeros by ++ z) (append_assoc (zeros old) tail (zeros (length area - end - by)))
    ∙ sym (append_assoc (zeros by) (zeros old) (tail ++ zeros (length area - end - by)))
    ∙ ap (λ z. z ++ (tail ++ zeros (length area - end - by))) (joined by old)
  where
    parts : (n k : ℕ) → k ≤ n → n ≡ k + (n - k)
    parts n k h = omega arith

    swapped : (a b : ℕ) → a + b ≡ b + a
    swapped a b = omega arith

    joined : (a b : ℕ) → zeros a ++ zeros b ≡ zeros (b + a)
    joined a b = replicate-append-replicate a b 0 ∙ ap (λ n. zeros n) (swapped a b)

pub moved_front : (area after tail : List ℕ) (old by end : ℕ) → by ≤ old → old ≤ end → end ≤ length area → after ≡ (drop by (take end area) ++ take by area) ++ drop end area →
    area ≡ zeros old ++ (tail ++ zeros (length area - end)) → after ≡ zeros (old - by) ++ (tail ++ zeros (by + (length area - end)))
moved_front area after tail old by end less order within is e =
    let l : Lies area tail old end = lies area tail old end within e in
    let front : List ℕ = zeros old ++ tail in
    let rest : List ℕ = zeros (length area - end) in
    let zlong : length (zeros old) ≡ old = length-replicate {A = ℕ} old 0 in
    let near : take end area ≡ front = ap (take end) l.whole ∙ take_at front rest end l.long in
    let behind : drop end area ≡ rest = ap (drop end) l.whole ∙ drop_at front rest end l.long in
    let kept : drop by (take end area) ≡ zeros (old - by) ++ tail =
    ap (drop by) near ∙ drop-append-le by (zeros old) tail (omega arith) ∙ ap (λ z. z ++ tail) (drop-replicate by old 0) in
    let gone : take by area ≡ zeros by =
    ap (take by) e ∙ take-append-le by (zeros old) (tail ++ rest) (omega arith) ∙ take-replicate by old 0 less in
    is ∙ (λ i. (kept i ++ gone i) ++ behind i)
    ∙ append_assoc (zeros (old - by) ++ tail) (zeros by) rest
    ∙ append_assoc (zeros (old - by)) tail (zeros by ++ rest)
    ∙ ap (λ z. zeros (old - by) ++ (tail ++ z)) (replicate-append-replicate by (length area - end) 0)

-- Bytes written over some in the middle.
use Rattle.std.proofs.Common.{◌≡◌, ℕ, ◌+◌, List, ◌++◌, length, take, drop, ap, sym, ◌∙◌, arith, append_assoc, length-append}
use Rattle.std.proofs.lemmas.List.{take_at, drop_at}
use Rattle.page_fmt.specs.Places.{put}

pub put_mid : (pre old post new : List ℕ) (at : ℕ) → length pre ≡ at → length new ≡ length old → put at new (pre ++ (old ++ post)) ≡ pre ++ (new ++ post)
put_mid pre old post new at e f =
    let front : take at (pre ++ (old ++ post)) ≡ pre = take_at pre (old ++ post) at e in
    let back : drop (at + length new) (pre ++ (old ++ post)) ≡ post =
    ap (drop (at + length new)) (sym (append_assoc pre old post)) ∙ drop_at (pre ++ old) post (at + length new) (omega (arith, length-append pre old)) in
    λ i. front i ++ (new ++ back i)

-- a piece in the middle
pub mid_read : (page front piece back : List ℕ) (a k : ℕ) → page ≡ front ++ (piece ++ back) → length front ≡ a → length piece ≡ k → take k (drop a page) ≡ piece
mid_read page front piece back a k e f g = ap (λ p. take k (drop a p)) e ∙ ap (take k) (drop_at front (piece ++ back) a f) ∙ take_at piece back k g

-- another one in its place
pub mid_written : (page front piece back new : List ℕ) (a k : ℕ) → page ≡ front ++ (piece ++ back) → length front ≡ a → length piece ≡ k → take a page ++ (new ++ drop k (drop a page)) ≡ front ++ (new ++ back)
mid_written page front piece back new a k e f g =
    let before : take a page ≡ front = ap (take a) e ∙ take_at front (piece ++ back) a f in
    let behind : drop k (drop a page) ≡ back = ap (λ p. drop k (drop a p)) e ∙ ap (drop k) (drop_at front (piece ++ back) a f) ∙ drop_at piece back k g in
    λ i. before i ++ (new ++ behind i)

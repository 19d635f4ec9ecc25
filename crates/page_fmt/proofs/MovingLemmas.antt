-- Offsets that move one after the other, the last one first.
use Rattle.std.proofs.Common.{◌≡◌, ℕ, ◌+◌, ◌-◌, ◌*◌, ◌<◌, ◌≤◌, List, [], ◌∷◌, ◌++◌, length, get_or, take, drop, map, refl, ap, sym, ◌∙◌, arith, append_assoc}
use Rattle.std.proofs.lemmas.List.{take_more, drop_more, length-map, length-drop, take_all, drop_all, append-nil}
use Rattle.page_fmt.specs.Spelling.{le16, table}
use Rattle.page_fmt.specs.Content.{le16_at}
use Rattle.page_fmt.specs.Places.{put}
use Rattle.page_fmt.proofs.SpellingLemmas.{length-table, le16_at-mid}
use Rattle.page_fmt.proofs.PutLemmas.{put_mid}

pub table-append : (xs ys : List ℕ) → table (xs ++ ys) ≡ table ys ++ table xs
table-append [] ys = sym (append-nil (table ys))
table-append (x ∷ xs) ys = ap (λ t. t ++ le16 x) (table-append xs ys) ∙ append_assoc (table ys) (table xs) (le16 x)

-- the last i offsets moved
pub last_moved : (ℕ → ℕ) → List ℕ → ℕ → List ℕ
last_moved f os i = take (length os - i) os ++ map f (drop (length os - i) os)

pub moved_none : (f : ℕ → ℕ) (os : List ℕ) → last_moved f os 0 ≡ os
unfolding last_moved
moved_none f os =
    (λ i. take_all (length os - 0) os (omega arith) i ++ map f (drop_all (length os - 0) os (omega arith) i)) ∙ append-nil os

pub moved_all : (f : ℕ → ℕ) (os : List ℕ) (i : ℕ) → length os ≤ i → last_moved f os i ≡ map f os
unfolding last_moved
moved_all f os i h = let none : length os - i ≡ 0 = omega arith in ap (λ k. take k os ++ map f (drop k os)) none

pub moved_more : (f : ℕ → ℕ) (os bytes after : List ℕ) (i offset : ℕ) → i < length os → bytes ≡ table (last_moved f os i) → offset ≡ le16_at bytes (2 * i) → after ≡ put (2 * i) (le16 (f offset)) bytes → after ≡ table (last_moved f os (i + 1))
unfolding last_moved
moved_more f os bytes after i offset lt is read wrote =
    let k : ℕ = length os - (i + 1) in
    let here : length os - i ≡ k + 1 = omega arith in
    let o : ℕ = get_or os k 0 in
    let front : List ℕ = take k os in
    let back : List ℕ = map f (drop (k + 1) os) in
    let old : take (length os - i) os ++ map f (drop (length os - i) os) ≡ (front ++ o ∷ []) ++ back =
    ap (λ j. take j os ++ map f (drop j os)) here ∙ ap (λ t. t ++ back) (take_more os k 0 (omega arith)) in
    let new : take k os ++ map f (drop k os) ≡ front ++ (f o ∷ back) = ap (λ t. front ++ map f t) (drop_more os k 0 (omega arith)) in
    let spelled : bytes ≡ table back ++ (le16 o ++ table front) =
    is ∙ ap table old ∙ table-append (front ++ o ∷ []) back ∙ ap (λ t. table back ++ t) (table-append front (o ∷ [])) in
    let long : length (table back) ≡ 2 * i = omega (arith, length-table back, length-map (drop (k + 1) os) f, length-drop (k + 1) os) in
    let offset_is : offset ≡ o = read ∙ ap (λ b. le16_at b (2 * i)) spelled ∙ le16_at-mid (table back) (table front) o (2 * i) long in
    wrote ∙ (λ j. put (2 * i) (le16 (f (offset_is j))) (spelled j))
    ∙ put_mid (table back) (le16 o) (table front) (le16 (f o)) (2 * i) long refl
    ∙ sym (ap table new ∙ table-append front (f o ∷ back) ∙ append_assoc (table back) (le16 (f o)) (table front))

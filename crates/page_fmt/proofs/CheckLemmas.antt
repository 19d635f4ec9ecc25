-- A page without a fault is the spelling of its content, and the other way round.
use Rattle.std.specs.Prelude.{IfNone, OnSome}
use Rattle.std.proofs.Common.{Option, Some, None, Bool, true, false, cond, not, ◌&&◌, ◌||◌, nat_le, nat_lt, ◌==◌, inl, inr, ◌≡◌, ◌≢◌, ℕ, zero, suc, ◌+◌, ◌-◌, ◌*◌, ◌/◌, ◌%◌, ◌<◌, ◌≤◌, List, [], ◌∷◌, ◌++◌, length, replicate, get_or, take, drop, refl, ap, sym, ◌∙◌, subst, arith, append_assoc, length-append, length-drop, length-take}
use Rattle.std.proofs.lemmas.Bool.{ltb-false, leb-false, eqb-true, eqb-false, le-ltb, lt-leb, eq-eqb, ne_eqb, cases_eq}
use Rattle.std.proofs.lemmas.List.{take-append-drop, drop-drop, take_all, get_or_at}
use Rattle.std.proofs.Math.Seq.{drop-cons, take-add}
use Rattle.page_fmt.specs.Spelling.{le16, rows, row_bytes, offsets, table, used, header, spell, FitsPage, LastIsFull}
use Rattle.page_fmt.specs.Content.{le16_at, offsets_at, next_start, slots_at, content, IsPage}
use Rattle.page_fmt.specs.Faults.{first_nonzero, first_wrong, is_wrong, newer, inner_fault, fault_with, fault_of, or_else}
use Rattle.page_fmt.proofs.SpellingLemmas.{length-offsets, length-rows, spelled_count, spelled_bytes, offsets_at-spelled, length-header}
use Rattle.page_fmt.proofs.ReadingLemmas.{length-slots_at, length-offsets_at}

guard_none : (b : Bool) (x : ℕ) (r : Option ℕ) → cond b (Some x) r ≡ None → (b ≡ false) × (r ≡ None)
guard_none true x r e = cc
guard_none false x r e = (refl, e)

go_none : (b : Bool) (x : ℕ) (r : Option ℕ) → cond b r (Some x) ≡ None → (b ≡ true) × (r ≡ None)
go_none true x r e = (refl, e)
go_none false x r e = cc

or_none : (a b : Option ℕ) → or_else a b ≡ None → (a ≡ None) × (b ≡ None)
or_none None b e = (refl, e)
or_none (Some x) b e = cc

or_false : (a b : Bool) → (a || b) ≡ false → (a ≡ false) × (b ≡ false)
or_false true b e = cc
or_false false b e = (refl, e)

-- each byte of a list is below 256
abbrev pub IsBytes : List ℕ → Type 0
IsBytes image = (i : ℕ) → get_or image i 0 < 256

zeros_of : (image : List ℕ) (i n : ℕ) → i + n ≤ length image → first_nonzero image i n ≡ None → take n (drop i image) ≡ replicate n 0
zeros_of image i zero h e = refl
zeros_of image i (suc n) h e =
    let g = go_none (get_or image i 0 == 0) i (first_nonzero image (i + 1) n) e in
    let here : get_or image i 0 ≡ 0 = eqb-true (get_or image i 0) 0 g.0 in
    let next : i + 1 ≡ suc i = omega arith in
    ap (take (suc n)) (drop-cons image i 0 (omega arith))
    ∙ (λ j. here j ∷ take n (drop (suc i) image))
    ∙ ap (λ k. 0 ∷ take n (drop k image)) (sym next)
    ∙ ap (λ l. 0 ∷ l) (zeros_of image (i + 1) n (omega arith) g.1)

two_bytes : (a b : ℕ) → a < 256 → le16 (a + 256 * b) ≡ a ∷ b ∷ []
two_bytes a b h =
    let low : (a + 256 * b) % 256 ≡ a = omega arith in
    let high : (a + 256 * b) / 256 ≡ b = omega arith in
    λ i. low i ∷ high i ∷ []

take_two : (image : List ℕ) (at : ℕ) → at + 1 < length image → take 2 (drop at image) ≡ get_or image at 0 ∷ get_or image (at + 1) 0 ∷ []
take_two image at h =
    let next : at + 1 ≡ suc at = omega arith in
    ap (take 2) (drop-cons image at 0 (omega arith))
    ∙ ap (λ l. get_or image at 0 ∷ take 1 l) (drop-cons image (suc at) 0 (omega arith))
    ∙ ap (λ k. get_or image at 0 ∷ get_or image k 0 ∷ []) (sym next)

bytes16 : (image : List ℕ) (at : ℕ) → IsBytes image → at + 1 < length image → le16 (le16_at image at) ≡ take 2 (drop at image)
bytes16 image at bytes h = two_bytes (get_or image at 0) (get_or image (at + 1) 0) (bytes at) ∙ sym (take_two image at h)

table_of : (image : List ℕ) (k n : ℕ) → IsBytes image → k + 2 * n ≤ length image → table (offsets_at image (k + 2 * n - 2) n) ≡ take (2 * n) (drop k image)
table_of image k zero bytes h = refl
table_of image k (suc n) bytes h =
    let at : k + 2 * suc n - 2 ≡ k + 2 * n = omega arith in
    let size : 2 * n + 2 ≡ 2 * suc n = omega arith in
    ap (λ p. table (offsets_at image (p - 2) n) ++ le16 (le16_at image p)) at
    ∙ (λ j. table_of image k n bytes (omega arith) j ++ bytes16 image (k + 2 * n) bytes (omega arith) j)
    ∙ ap (λ l. take (2 * n) (drop k image) ++ take 2 l) (sym (drop-drop (2 * n) k image))
    ∙ sym (take-add (2 * n) 2 (drop k image))
    ∙ ap (λ m. take m (drop k image)) size

not_wrong : (end prev o : ℕ) (os : List ℕ) → is_wrong end prev (suc o) os ≡ false → (suc o < end) × (prev ≡ 0 → suc o ≡ 96) × (prev ≢ 0 → prev < suc o)
not_wrong end prev o os e =
    let f = or_false (nat_le end (suc o)) (cond (prev == 0) (not (suc o == 96)) (nat_le (suc o) prev)) e in (
      leb-false end (suc o) f.0,
      λ z. eqb-true (suc o) 96 (not_false (suc o == 96) (sym (ap (λ b. cond b (not (suc o == 96)) (nat_le (suc o) prev)) (eq-eqb prev 0 z)) ∙ f.1)),
      λ nz. leb-false (suc o) prev (sym (ap (λ b. cond b (not (suc o == 96)) (nat_le (suc o) prev)) (ne_eqb prev 0 nz)) ∙ f.1),
    )
  where
    not_false : (b : Bool) → not b ≡ false → b ≡ true
    not_false true e = refl
    not_false false e = cc

pub record Walk (image : List ℕ) (end start : ℕ) (os : List ℕ) : Type 0 where
  pub starts : next_start end os ≡ start
  pub within : start ≤ end
  pub bytes : rows (slots_at image end os) ≡ take (end - start) (drop start image)
  pub table : offsets start (slots_at image end os) ≡ os
  pub last : LastIsFull (slots_at image end os)

-- behind no slot, an empty slot, and one that isn't empty
walk_nil : (image : List ℕ) (end : ℕ) → Walk image end end []
walk_nil image end = let none : end - end ≡ 0 = omega arith in record { starts = refl; within = omega arith; bytes = sym (ap (λ n. take n (drop end image)) none); table = refl; last = tt }

full_cons : (x : List ℕ) (xs : List (List ℕ)) → x ≢ [] → LastIsFull xs → LastIsFull (x ∷ xs)
full_cons x [] h l = h
full_cons x (y ∷ ys) h l = l

empty_cons : (xs : List (List ℕ)) → 0 < length xs → LastIsFull xs → LastIsFull ([] ∷ xs)
empty_cons [] h l = absurd (omega arith)
empty_cons (y ∷ ys) h l = l

walk_empty : (image : List ℕ) (end start : ℕ) (os : List ℕ) → 0 < length os → Walk image end start os → Walk image end start (0 ∷ os)
walk_empty image end start os some w =
    record { starts = w.starts; within = w.within; bytes = w.bytes; table = ap (λ l. 0 ∷ l) w.table; last = empty_cons (slots_at image end os) (omega (arith, length-slots_at image end os)) w.last }

offsets-cons : (x : List ℕ) (xs : List (List ℕ)) (at : ℕ) → x ≢ [] → offsets at (x ∷ xs) ≡ at ∷ offsets (at + length x) xs
offsets-cons [] xs at h = absurd (h refl)
offsets-cons (b ∷ bs) xs at h = refl

walk_full : (image : List ℕ) (end next o : ℕ) (os : List ℕ) → suc o < next → end ≤ length image → Walk image end next os → Walk image end (suc o) (suc o ∷ os)
walk_full image end next o os lt size w =
    let within : next ≤ end = w.within in
    let x : List ℕ = take (next - suc o) (drop (suc o) image) in
    let same : take (next_start end os - suc o) (drop (suc o) image) ≡ x = ap (λ s. take (s - suc o) (drop (suc o) image)) w.starts in
    let long : length x ≡ next - suc o = omega (arith, length-take (next - suc o) (drop (suc o) image), length-drop (suc o) image) in
    let full : x ≢ [] = λ e. (let none : length x ≡ 0 = ap length e in absurd (omega arith)) in
    let behind : suc o + length x ≡ next = omega arith in
    let rest : List (List ℕ) = slots_at image end os in
    let sum : next - suc o + (end - next) ≡ end - suc o = omega arith in
    let there : suc o + (next - suc o) ≡ next = omega arith in
    record {
      starts = refl;
      within = omega arith;
      bytes = ap (λ y. y ++ rows rest) same ∙ ap (λ y. x ++ y) w.bytes
          ∙ ap (λ k. x ++ take (end - next) (drop k image)) (sym there)
          ∙ ap (λ l. x ++ take (end - next) l) (sym (drop-drop (next - suc o) (suc o) image))
          ∙ sym (take-add (next - suc o) (end - next) (drop (suc o) image)) ∙ ap (λ n. take n (drop (suc o) image)) sum;
      table = ap (λ y. offsets (suc o) (y ∷ rest)) same ∙ offsets-cons x rest (suc o) full ∙ ap (λ k. suc o ∷ offsets k rest) behind ∙ ap (λ l. suc o ∷ l) w.table;
      last = subst (λ y. LastIsFull (y ∷ rest)) (sym same) (full_cons x rest full w.last);
    }

-- the offsets behind one that isn't 0
pub walk : (image : List ℕ) (end : ℕ) (os : List ℕ) (prev at : ℕ) → prev ≢ 0 → prev < end → end ≤ length image → first_wrong end prev at os ≡ None → (start : ℕ) × (prev < start) × Walk image end start os
walk image end [] prev at nz lt size e = (end, lt, walk_nil image end)
walk image end (zero ∷ os) prev at nz lt size e =
    let g = guard_none (length os == 0) at (first_wrong end prev (at - 2) os) e in
    let w = walk image end os prev (at - 2) nz lt size g.1 in
    let some : length os ≢ 0 = eqb-false (length os) 0 g.0 in
    (w.0, w.1, walk_empty image end w.0 os (omega arith) w.2)
walk image end (suc o ∷ os) prev at nz lt size e =
    let g = guard_none (is_wrong end prev (suc o) os) at (first_wrong end (suc o) (at - 2) os) e in
    let f = not_wrong end prev o os g.0 in
    let w = walk image end os (suc o) (at - 2) (omega arith) f.0 size g.1 in
    (suc o, f.2 nz, walk_full image end w.0 o os w.1 size w.2)

-- all offsets
pub walk_all : (image : List ℕ) (end : ℕ) (os : List ℕ) (at : ℕ) → (length os ≡ 0 → end ≡ 96) → end ≤ length image → first_wrong end 0 at os ≡ None → Walk image end 96 os
walk_all image end [] at none size e = subst (λ s. Walk image end s []) (none refl) (walk_nil image end)
walk_all image end (zero ∷ os) at none size e =
    let g = guard_none (length os == 0) at (first_wrong end 0 (at - 2) os) e in
    let some : length os ≢ 0 = eqb-false (length os) 0 g.0 in
    walk_empty image end 96 os (omega arith) (walk_all image end os (at - 2) (λ z. absurd (some z)) size g.1)
walk_all image end (suc o ∷ os) at none size e =
    let g = guard_none (is_wrong end 0 (suc o) os) at (first_wrong end (suc o) (at - 2) os) e in
    let f = not_wrong end 0 o os g.0 in
    let w = walk image end os (suc o) (at - 2) (omega arith) f.0 size g.1 in
    subst (λ s. Walk image end s (suc o ∷ os)) (f.1 refl) (walk_full image end w.0 o os w.1 size w.2)

-- NO FAULT, SO A PAGE

and_false_right : (a b : Bool) → (a && b) ≡ false → b ≡ true → a ≡ false
and_false_right true b e t = sym t ∙ e
and_false_right false b e t = refl

drop_split : (image : List ℕ) (k m : ℕ) → drop k image ≡ take m (drop k image) ++ drop (k + m) image
drop_split image k m = sym (take-append-drop m (drop k image)) ∙ ap (λ l. take m (drop k image) ++ l) (drop-drop m k image)

pub no_fault : (image : List ℕ) → IsBytes image → length image ≡ 8192 → fault_of image ≡ None → IsPage image
unfolding content spell header
no_fault image bytes size e =
    let n : ℕ = le16_at image 0 in
    let r : ℕ = le16_at image 2 in
    let os : List ℕ = offsets_at image 8190 n in
    let gap : ℕ = 8192 - 2 * n - (96 + r) in
    let g1 = guard_none (nat_lt 8192 (96 + r + 2 * n)) 0 (cond (nat_lt 0 r && n == 0) (Some 2) (inner_fault image n r)) e in
    let small : 96 + r + 2 * n ≤ 8192 = ltb-false 8192 (96 + r + 2 * n) g1.0 in
    let g2 = guard_none (nat_lt 0 r && n == 0) 2 (inner_fault image n r) g1.1 in
    let o1 = or_none (first_nonzero image 4 92) (or_else (first_nonzero image (96 + r) gap) (first_wrong (96 + r) 0 8190 os)) g2.1 in
    let o2 = or_none (first_nonzero image (96 + r) gap) (first_wrong (96 + r) 0 8190 os) o1.1 in
    let z1 : take 92 (drop 4 image) ≡ replicate 92 0 = zeros_of image 4 92 (omega arith) o1.0 in
    let z2 : take gap (drop (96 + r) image) ≡ replicate gap 0 = zeros_of image (96 + r) gap (omega arith) o2.0 in
    let count : length os ≡ n = length-offsets_at image 8190 n in
    let empty : length os ≡ 0 → 96 + r ≡ 96 = λ z. (let none : n ≡ 0 = sym count ∙ z in let small_r : r ≤ 0 = ltb-false 0 r (and_false_right (nat_lt 0 r) (n == 0) g2.0 (eq-eqb n 0 none)) in omega arith) in
    let w : Walk image (96 + r) 96 os = walk_all image (96 + r) os 8190 empty (omega arith) o2.1 in
    let slots : List (List ℕ) = slots_at image (96 + r) os in
    let long : length slots ≡ n = length-slots_at image (96 + r) os ∙ count in
    let plain : 96 + r - 96 ≡ r = omega arith in
    let rows_are : rows slots ≡ take r (drop 96 image) = w.bytes ∙ ap (λ k. take k (drop 96 image)) plain in
    let row_count : row_bytes slots ≡ r = omega (arith, length-rows slots, ap length rows_are, length-take r (drop 96 image), length-drop 96 image) in
    let uses : 8192 - used slots ≡ gap = omega arith in
    let low : le16 n ≡ take 2 image = bytes16 image 0 bytes (omega arith) in
    let high : le16 r ≡ take 2 (drop 2 image) = bytes16 image 2 bytes (omega arith) in
    let at : 8190 ≡ 8192 - 2 * n + 2 * n - 2 = omega arith in
    let the_table : table os ≡ take (2 * n) (drop (8192 - 2 * n) image) = ap (λ p. table (offsets_at image p n)) at ∙ table_of image (8192 - 2 * n) n bytes (omega arith) in
    let tail : drop (8192 - 2 * n) image ≡ take (2 * n) (drop (8192 - 2 * n) image) = sym (take_all (2 * n) (drop (8192 - 2 * n) image) (omega (arith, length-drop (8192 - 2 * n) image))) in
    let to_table : 96 + r + gap ≡ 8192 - 2 * n = omega arith in
    let part3 : drop (96 + r) image ≡ replicate gap 0 ++ table os =
    drop_split image (96 + r) gap ∙ (λ i. z2 i ++ drop (to_table i) image) ∙ ap (λ l. replicate gap 0 ++ l) (tail ∙ sym the_table) in
    let part2 : drop 96 image ≡ rows slots ++ (replicate gap 0 ++ table os) = drop_split image 96 r ∙ (λ i. sym rows_are i ++ part3 i) in
    let part1 : drop 4 image ≡ replicate 92 0 ++ (rows slots ++ (replicate gap 0 ++ table os)) = drop_split image 4 92 ∙ (λ i. z1 i ++ part2 i) in
    let part0 : drop 2 image ≡ le16 r ++ (replicate 92 0 ++ (rows slots ++ (replicate gap 0 ++ table os))) = drop_split image 2 2 ∙ (λ i. sym high i ++ part1 i) in
    let whole : image ≡ le16 n ++ (le16 r ++ (replicate 92 0 ++ (rows slots ++ (replicate gap 0 ++ table os)))) = drop_split image 0 2 ∙ (λ i. sym low i ++ part0 i) in
    let spelled : le16 n ++ (le16 r ++ (replicate 92 0 ++ (rows slots ++ (replicate gap 0 ++ table os)))) ≡ spell slots =
    λ i. le16 (sym long i) ++ (le16 (sym row_count i) ++ (replicate 92 0 ++ (rows slots ++ (replicate (sym uses i) 0 ++ table (sym w.table i))))) in
    record { spelled = whole ∙ spelled; fits = record { small = omega arith; last = w.last } }

-- A PAGE, SO NO FAULT

zeros_none : (m i : ℕ) (pre post : List ℕ) → length pre ≡ i → first_nonzero (pre ++ (replicate m 0 ++ post)) i m ≡ None
zeros_none zero i pre post e = refl
zeros_none (suc m) i pre post e =
    let image : List ℕ = pre ++ (0 ∷ (replicate m 0 ++ post)) in
    let here : get_or image i 0 ≡ 0 = get_or_at pre 0 (replicate m 0 ++ post) 0 i e in
    let one : List ℕ = 0 ∷ [] in
    ap (λ b. cond b (first_nonzero image (i + 1) m) (Some i)) (eq-eqb (get_or image i 0) 0 here)
    ∙ ap (λ l. first_nonzero l (i + 1) m) (sym (append_assoc pre one (replicate m 0 ++ post)))
    ∙ zeros_none m (i + 1) (pre ++ one) post (omega (arith, length-append pre one))

right_place : (end prev o : ℕ) (os : List ℕ) → suc o < end → (prev ≡ 0 → suc o ≡ 96) → (prev ≢ 0 → prev < suc o) → is_wrong end prev (suc o) os ≡ false
right_place end prev o os lt first later =
    ap (λ b. b || cond (prev == 0) (not (suc o == 96)) (nat_le (suc o) prev)) (lt-leb end (suc o) lt)
    ∙ elim (cases_eq prev 0) [
      | inl z ↦ ap (λ b. cond b (not (suc o == 96)) (nat_le (suc o) prev)) (eq-eqb prev 0 z) ∙ ap not (eq-eqb (suc o) 96 (first z))
      | inr nz ↦ ap (λ b. cond b (not (suc o == 96)) (nat_le (suc o) prev)) (ne_eqb prev 0 nz) ∙ lt-leb (suc o) prev (later nz)
    ]

wrong_none : (xs : List (List ℕ)) (prev at end place : ℕ) → 0 < at → end ≡ at + row_bytes xs → LastIsFull xs → (prev ≡ 0 → at ≡ 96) → prev < at → first_wrong end prev place (offsets at xs) ≡ None
wrong_none [] prev at end place h e l first lt = refl
wrong_none ([] ∷ []) prev at end place h e l first lt = absurd (l refl)
wrong_none ([] ∷ y ∷ ys) prev at end place h e l first lt =
    let some : length (offsets at (y ∷ ys)) ≢ 0 = λ z. absurd (omega (arith, length-offsets (y ∷ ys) at)) in
    ap (λ b. cond b (Some place) (first_wrong end prev (place - 2) (offsets at (y ∷ ys)))) (ne_eqb (length (offsets at (y ∷ ys))) 0 some)
    ∙ wrong_none (y ∷ ys) prev at end (place - 2) h (omega arith) l first lt
wrong_none ((b ∷ bs) ∷ xs) prev zero end place h e l first lt = absurd (omega arith)
wrong_none ((b ∷ bs) ∷ xs) prev (suc a) end place h e l first lt =
    let x : List ℕ = b ∷ bs in
    let os : List ℕ = offsets (suc a + length x) xs in
    let fine : is_wrong end prev (suc a) os ≡ false = right_place end prev a os (omega arith) first (λ nz. lt) in
    ap (λ t. cond t (Some place) (first_wrong end (suc a) (place - 2) os)) fine
    ∙ wrong_none xs (suc a) (suc a + length x) end (place - 2) (omega arith) (omega arith) (last_tail x xs l) (λ z. absurd (omega arith)) (omega arith)
  where
    last_tail : (y : List ℕ) (ys : List (List ℕ)) → LastIsFull (y ∷ ys) → LastIsFull ys
    last_tail y [] l = tt
    last_tail y (z ∷ zs) l = l

header_zeros : (n r : ℕ) (rest : List ℕ) → first_nonzero (header n r ++ rest) 4 92 ≡ None
unfolding header
header_zeros n r rest = zeros_none 92 4 (le16 n ++ le16 r) rest refl

gap_zeros : (slots : List (List ℕ)) → used slots ≤ 8192 → first_nonzero (spell slots) (96 + row_bytes slots) (8192 - 2 * length slots - (96 + row_bytes slots)) ≡ None
unfolding spell
gap_zeros slots small =
    let head : List ℕ = header (length slots) (row_bytes slots) in
    let t : List ℕ = table (offsets 96 slots) in
    let gap : 8192 - 2 * length slots - (96 + row_bytes slots) ≡ 8192 - used slots = omega arith in
    ap (λ m. first_nonzero (head ++ (rows slots ++ (replicate (8192 - used slots) 0 ++ t))) (96 + row_bytes slots) m) gap
    ∙ ap (λ l. first_nonzero l (96 + row_bytes slots) (8192 - used slots)) (sym (append_assoc head (rows slots) (replicate (8192 - used slots) 0 ++ t)))
    ∙ zeros_none (8192 - used slots) (96 + row_bytes slots) (head ++ rows slots) t (omega (arith, length-append head (rows slots), length-header (length slots) (row_bytes slots), length-rows slots))

top_zeros : (slots : List (List ℕ)) → first_nonzero (spell slots) 4 92 ≡ None
unfolding spell
top_zeros slots = header_zeros (length slots) (row_bytes slots) _

no_rows : (slots : List (List ℕ)) → (nat_lt 0 (row_bytes slots) && length slots == 0) ≡ false
no_rows [] = refl
no_rows (x ∷ xs) = ap (λ b. nat_lt 0 (row_bytes (x ∷ xs)) && b) (ne_eqb (length (x ∷ xs)) 0 (λ z. absurd (omega arith))) ∙ and_no (nat_lt 0 (row_bytes (x ∷ xs)))
  where
    and_no : (b : Bool) → (b && false) ≡ false
    and_no true = refl
    and_no false = refl

pub spelled_sound : (slots : List (List ℕ)) → FitsPage slots → fault_of (spell slots) ≡ None
spelled_sound slots fits =
    let n : ℕ = length slots in
    let r : ℕ = row_bytes slots in
    (λ i. fault_with (spell slots) (spelled_count slots i) (spelled_bytes slots i))
    ∙ ap (λ b. cond b (Some 0) (cond (nat_lt 0 r && n == 0) (Some 2) (inner_fault (spell slots) n r))) (le-ltb 8192 (96 + r + 2 * n) fits.small)
    ∙ ap (λ b. cond b (Some 2) (inner_fault (spell slots) n r)) (no_rows slots)
    ∙ ap (λ o. or_else o (or_else (first_nonzero (spell slots) (96 + r) (8192 - 2 * n - (96 + r))) (first_wrong (96 + r) 0 8190 (offsets_at (spell slots) 8190 n)))) (top_zeros slots)
    ∙ ap (λ o. or_else o (first_wrong (96 + r) 0 8190 (offsets_at (spell slots) 8190 n))) (gap_zeros slots fits.small)
    ∙ ap (first_wrong (96 + r) 0 8190) (offsets_at-spelled slots fits.small)
    ∙ wrong_none slots 0 96 (96 + r) 8190 (omega arith) refl fits.last (λ z. refl) (omega arith)

pub page_sound : (image : List ℕ) → IsPage image → fault_of image ≡ None
page_sound image page = ap fault_of page.spelled ∙ spelled_sound (content image) page.fits

pub page_if_none : (r : Option ℕ) (image : List ℕ) → IsBytes image → length image ≡ 8192 → r ≡ fault_of image → IfNone r (IsPage image)
page_if_none None image bytes size e = no_fault image bytes size (sym e)
page_if_none (Some at) image bytes size e = tt

some_none : (at : ℕ) → Some at ≡ None → ⊥
some_none at e = cc

pub no_page_if_some : (r : Option ℕ) (image : List ℕ) → r ≡ fault_of image → OnSome r (¬ IsPage image)
no_page_if_some None image e = tt
no_page_if_some (Some at) image e = λ page. some_none at (e ∙ page_sound image page)

-- STEPS OF THE LOOPS

pub first_nonzero-step : (page : List ℕ) (i to : ℕ) → i < to → get_or page i 0 ≡ 0 → first_nonzero page (i + 1) (to - (i + 1)) ≡ first_nonzero page i (to - i)
first_nonzero-step page i to h none =
    let m : to - i ≡ suc (to - (i + 1)) = omega arith in
    sym (ap (first_nonzero page i) m ∙ ap (λ b. cond b (first_nonzero page (i + 1) (to - (i + 1))) (Some i)) (eq-eqb (get_or page i 0) 0 none))

-- the walk at one offset
pub first_wrong-step : (page : List ℕ) (end before i count : ℕ) (b : Bool) → i < count
    → ((os : List ℕ) → length os ≡ count - i - 1 → b ≡ is_wrong end before (le16_at page (8190 - 2 * i)) os)
    → first_wrong end before (8190 - 2 * i) (offsets_at page (8190 - 2 * i) (count - i))
    ≡ cond b (Some (8190 - 2 * i)) (first_wrong end (newer before (le16_at page (8190 - 2 * i))) (8190 - 2 * (i + 1)) (offsets_at page (8190 - 2 * (i + 1)) (count - (i + 1))))
first_wrong-step page end before i count b h test =
    let m : count - i ≡ suc (count - (i + 1)) = omega arith in
    let at : 8190 - 2 * i - 2 ≡ 8190 - 2 * (i + 1) = omega arith in
    ap (λ n. first_wrong end before (8190 - 2 * i) (offsets_at page (8190 - 2 * i) n)) m
    ∙ ap (λ t. cond t (Some (8190 - 2 * i)) (first_wrong end (newer before (le16_at page (8190 - 2 * i))) (8190 - 2 * i - 2) (offsets_at page (8190 - 2 * i - 2) (count - (i + 1)))))
    (sym (test (offsets_at page (8190 - 2 * i - 2) (count - (i + 1))) (length-offsets_at page (8190 - 2 * i - 2) (count - (i + 1)) ∙ minus count i)))
    ∙ (λ j. cond b (Some (8190 - 2 * i)) (first_wrong end (newer before (le16_at page (8190 - 2 * i))) (at j) (offsets_at page (at j) (count - (i + 1)))))
  where
    minus : (a k : ℕ) → a - (k + 1) ≡ a - k - 1
    minus a k = omega arith

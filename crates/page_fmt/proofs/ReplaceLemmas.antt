-- A slot of a spelled page gives way to other bytes, part by part.
use Rattle.std.proofs.Common.{◌≡◌, ℕ, zero, suc, ◌+◌, ◌-◌, ◌*◌, ◌<◌, ◌≤◌, List, [], ◌∷◌, ◌++◌, length, get_or, take, drop, set, map, refl, ap, sym, ◌∙◌, arith, append_assoc, length-append, length-set}
use Rattle.std.proofs.Math.Seq.{split_at}
use Rattle.std.proofs.lemmas.List.{set_at, length-replicate, length-take, length-drop}
use Rattle.page_fmt.specs.Spelling.{le16, rows, row_bytes, offsets, table, used, header, spell}
use Rattle.page_fmt.specs.Places.{zeros, put, moved, offset_of, IsPlace}
use Rattle.page_fmt.proofs.SpellingLemmas.{length-header, length-rows, length-table, length-offsets}
use Rattle.page_fmt.proofs.PutLemmas.{put_mid}
use Rattle.page_fmt.proofs.MovingLemmas.{table-append}
use Rattle.page_fmt.proofs.OffsetLemmas.{row_bytes-append, offsets-cons, offsets-append, map-moved}

pub rows-append : (xs ys : List (List ℕ)) → rows (xs ++ ys) ≡ rows xs ++ rows ys
rows-append [] ys = refl
rows-append (x ∷ xs) ys = ap (λ s. x ++ s) (rows-append xs ys) ∙ sym (append_assoc x (rows xs) (rows ys))

-- the parts of a page round one slot: head, rows in front, the slot, rows behind, zeros, and the offsets in turn
abbrev pub laid : List ℕ → List ℕ → List ℕ → List ℕ → ℕ → List ℕ → ℕ → List ℕ → List ℕ
laid head front row tail free behind offset before = (head ++ front) ++ ((row ++ (tail ++ zeros free)) ++ (table behind ++ (le16 offset ++ table before)))

pub spell-parts : (ys zs : List (List ℕ)) (y : List ℕ) → spell (ys ++ y ∷ zs) ≡ laid (header (length (ys ++ y ∷ zs)) (row_bytes (ys ++ y ∷ zs))) (rows ys) y (rows zs) (8192 - used (ys ++ y ∷ zs))
    (offsets (96 + row_bytes ys + length y) zs) (offset_of (96 + row_bytes ys) y) (offsets 96 ys)
unfolding spell
spell-parts ys zs y =
    let xs : List (List ℕ) = ys ++ y ∷ zs in
    let head : List ℕ = header (length xs) (row_bytes xs) in
    let free : List ℕ = zeros (8192 - used xs) in
    let at : ℕ = 96 + row_bytes ys in
    let behind : List ℕ = offsets (at + length y) zs in
    let t : List ℕ = table behind ++ (le16 (offset_of at y) ++ table (offsets 96 ys)) in
    let os : offsets 96 xs ≡ offsets 96 ys ++ (offset_of at y ∷ behind) = offsets-append 96 ys (y ∷ zs) ∙ ap (λ l. offsets 96 ys ++ l) (offsets-cons at y zs) in
    let the_table : table (offsets 96 xs) ≡ t = ap table os ∙ table-append (offsets 96 ys) (offset_of at y ∷ behind) ∙ append_assoc (table behind) (le16 (offset_of at y)) (table (offsets 96 ys)) in
    (λ i. head ++ (rows-append ys (y ∷ zs) i ++ (free ++ the_table i)))
    ∙ ap (λ l. head ++ l) (append_assoc (rows ys) (y ++ rows zs) (free ++ t))
    ∙ sym (append_assoc head (rows ys) ((y ++ rows zs) ++ (free ++ t)))
    ∙ ap (λ l. (head ++ rows ys) ++ l) (append_assoc y (rows zs) (free ++ t) ∙ ap (λ l. y ++ l) (sym (append_assoc (rows zs) free t)) ∙ sym (append_assoc y (rows zs ++ free) t))

pub put-bytes : (n r q : ℕ) (rest : List ℕ) → put 2 (le16 q) (header n r ++ rest) ≡ header n q ++ rest
unfolding header
put-bytes n r q rest = refl

pub row_bytes-set : (xs : List (List ℕ)) (i : ℕ) (x : List ℕ) → i < length xs → row_bytes (set xs i x) + length (get_or xs i []) ≡ row_bytes xs + length x
row_bytes-set [] i x h = absurd (omega arith)
row_bytes-set (y ∷ ys) zero x h = omega arith
row_bytes-set (y ∷ ys) (suc i) x h = omega (arith, row_bytes-set ys i x (omega arith))

pub parts_at : (ws ys zs : List (List ℕ)) (y : List ℕ) → ws ≡ ys ++ y ∷ zs → spell ws ≡ laid (header (length ws) (row_bytes ws)) (rows ys) y (rows zs) (8192 - used ws)
    (offsets (96 + row_bytes ys + length y) zs) (offset_of (96 + row_bytes ys) y) (offsets 96 ys)
parts_at ws ys zs y e =
    ap spell e ∙ spell-parts ys zs y
    ∙ (λ j. laid (header (length (sym e j)) (row_bytes (sym e j))) (rows ys) y (rows zs) (8192 - used (sym e j)) (offsets (96 + row_bytes ys + length y) zs) (offset_of (96 + row_bytes ys) y) (offsets 96 ys))

-- another row, after which the offsets stand as they stood
abbrev pub RowGoes : List ℕ → List ℕ → List ℕ → ℕ → ℕ → ℕ → ℕ → Type 0
RowGoes old new x start stop end limit = (front row tail back : List ℕ) → old ≡ front ++ ((row ++ (tail ++ zeros (limit - end))) ++ back) → length front ≡ start → length row ≡ stop - start → length tail ≡ end - stop →
    new ≡ front ++ ((x ++ (tail ++ zeros (limit + (stop - start) - end - length x))) ++ back)

-- the offsets behind it move
abbrev pub TableGoes : List ℕ → List ℕ → ℕ → ℕ → ℕ → ℕ → Type 0
TableGoes old new from to less more = (front os back : List ℕ) → old ≡ front ++ (table os ++ back) → length front ≡ from → 2 * length os ≡ to - from → new ≡ front ++ (table (map (moved less more) os) ++ back)

-- the two moves
pub rows_gone : (head front row x tail behind before old new : List ℕ) (free offset start stop end limit : ℕ) → old ≡ laid head front row tail free behind offset before → free ≡ limit - end →
    length (head ++ front) ≡ start → length row ≡ stop - start → length tail ≡ end - stop → RowGoes old new x start stop end limit →
    new ≡ laid head front x tail (limit + (stop - start) - end - length x) behind offset before
rows_gone head front row x tail behind before old new free offset start stop end limit is free_is at long rest goes =
    goes (head ++ front) row tail (table behind ++ (le16 offset ++ table before)) (is ∙ ap (λ n. laid head front row tail n behind offset before) free_is) at long rest

pub table_gone : (head front row tail behind before old new : List ℕ) (free offset from to less more : ℕ) → old ≡ laid head front row tail free behind offset before →
    length ((head ++ front) ++ (row ++ (tail ++ zeros free))) ≡ from → 2 * length behind ≡ to - from → TableGoes old new from to less more →
    new ≡ laid head front row tail free (map (moved less more) behind) offset before
table_gone head front row tail behind before old new free offset from to less more is at long goes =
    let near : List ℕ = head ++ front in
    let mid : List ℕ = row ++ (tail ++ zeros free) in
    let back : List ℕ = le16 offset ++ table before in
    goes (near ++ mid) behind back (is ∙ sym (append_assoc near mid (table behind ++ back))) at long ∙ append_assoc near mid (table (map (moved less more) behind) ++ back)

-- the two numbers
pub offset_gone : (head front row tail behind before old : List ℕ) (free offset new at : ℕ) → old ≡ laid head front row tail free behind offset before →
    length ((head ++ front) ++ ((row ++ (tail ++ zeros free)) ++ table behind)) ≡ at → put at (le16 new) old ≡ laid head front row tail free behind new before
offset_gone head front row tail behind before old free offset new at is long =
    let near : List ℕ = head ++ front in
    let mid : List ℕ = row ++ (tail ++ zeros free) in
    let regroup : (o : ℕ) → near ++ (mid ++ (table behind ++ (le16 o ++ table before))) ≡ (near ++ (mid ++ table behind)) ++ (le16 o ++ table before) =
    λ o. ap (λ l. near ++ l) (sym (append_assoc mid (table behind) (le16 o ++ table before))) ∙ sym (append_assoc near (mid ++ table behind) (le16 o ++ table before)) in
    ap (put at (le16 new)) (is ∙ regroup offset)
    ∙ put_mid (near ++ (mid ++ table behind)) (le16 offset) (table before) (le16 new) at long refl
    ∙ sym (regroup new)

pub bytes_gone : (n r q : ℕ) (front row tail behind before old : List ℕ) (free offset : ℕ) → old ≡ laid (header n r) front row tail free behind offset before →
    put 2 (le16 q) old ≡ laid (header n q) front row tail free behind offset before
bytes_gone n r q front row tail behind before old free offset is =
    let rest : List ℕ = (row ++ (tail ++ zeros free)) ++ (table behind ++ (le16 offset ++ table before)) in
    ap (put 2 (le16 q)) (is ∙ append_assoc (header n r) front rest) ∙ put-bytes n r q (front ++ rest) ∙ sym (append_assoc (header n q) front rest)

-- all of them set the slot
pub replaced : (page p1 p2 p3 p4 : List ℕ) (xs : List (List ℕ)) (i offset start stop end limit : ℕ) (x : List ℕ) → page ≡ spell xs → i < length xs → IsPlace xs i start stop end limit → used (set xs i x) ≤ 8192 →
    RowGoes page p1 x start stop end limit → TableGoes p1 p2 limit (8190 - 2 * i) (stop - start) (length x) → offset ≡ offset_of start x → p3 ≡ put (8190 - 2 * i) (le16 offset) p2 →
    p4 ≡ put 2 (le16 (end + length x - (stop - start) - 96)) p3 → p4 ≡ spell (set xs i x)
replaced page p1 p2 p3 p4 xs i offset start stop end limit x is lt place small row_goes table_goes offset_is wrote3 wrote4 =
    let ys : List (List ℕ) = take i xs in
    let y : List ℕ = get_or xs i [] in
    let zs : List (List ℕ) = drop (suc i) xs in
    let split : xs ≡ ys ++ y ∷ zs = split_at xs i [] lt in
    let first : length ys ≡ i = omega (arith, length-take i xs) in
    let after : set xs i x ≡ ys ++ x ∷ zs = ap (λ l. set l i x) split ∙ set_at ys y zs x i first in
    let behind : length zs + suc i ≡ length xs = omega (arith, length-drop (suc i) xs) in
    let head : List ℕ = header (length xs) (row_bytes xs) in
    let begins : start ≡ 96 + row_bytes ys = place.begins in
    let ends : stop ≡ start + length y = place.ends in
    let parts : row_bytes xs ≡ row_bytes ys + (length y + row_bytes zs) = ap row_bytes split ∙ row_bytes-append ys (y ∷ zs) in
    let new_rows : row_bytes (set xs i x) ≡ row_bytes ys + (length x + row_bytes zs) = ap row_bytes after ∙ row_bytes-append ys (x ∷ zs) in
    let count : length (set xs i x) ≡ length xs = length-set xs i x in
    let rows_is : end ≡ 96 + row_bytes xs = place.rows in
    let table_is : limit + 2 * length xs ≡ 8192 = place.table in
    let within : end ≤ limit = place.room in
    let at1 : length (head ++ rows ys) ≡ start = omega (arith, length-append head (rows ys), length-header (length xs) (row_bytes xs), length-rows ys) in
    let free_is : 8192 - used xs ≡ limit - end = omega arith in
    let e0 = is ∙ parts_at xs ys zs y split in
    let left : ℕ = limit + (stop - start) - end - length x in
    let e1 = rows_gone head (rows ys) y x (rows zs) (offsets (96 + row_bytes ys + length y) zs) (offsets 96 ys) page p1 (8192 - used xs) (offset_of (96 + row_bytes ys) y) start stop end limit
    e0 free_is at1 (omega arith) (omega (arith, length-rows zs)) row_goes in
    let zlong : length (zeros left) ≡ left = length-replicate {A = ℕ} left 0 in
    let at2 : length ((head ++ rows ys) ++ (x ++ (rows zs ++ zeros left))) ≡ limit = omega (arith, length-append (head ++ rows ys) (x ++ (rows zs ++ zeros left)), length-append x (rows zs ++ zeros left), length-append (rows zs) (zeros left), length-rows zs) in
    let os : List ℕ = offsets (96 + row_bytes ys + length y) zs in
    let long2 : 2 * length os ≡ 8190 - 2 * i - limit = omega (arith, length-offsets zs (96 + row_bytes ys + length y)) in
    let e2 = table_gone head (rows ys) x (rows zs) os (offsets 96 ys) p1 p2 left (offset_of (96 + row_bytes ys) y) limit (8190 - 2 * i) (stop - start) (length x) e1 at2 long2 table_goes in
    let new_os : List ℕ = offsets (96 + row_bytes ys + length x) zs in
    let less : stop - start ≡ length y = omega arith in
    let moved_to : 96 + row_bytes ys + length y + length x - length y ≡ 96 + row_bytes ys + length x = omega arith in
    let moved_os : map (moved (stop - start) (length x)) os ≡ new_os =
    ap (λ l. map (moved l (length x)) os) less ∙ map-moved zs (96 + row_bytes ys + length y) (length y) (length x) (omega arith) (omega arith) (omega arith) ∙ ap (λ n. offsets n zs) moved_to in
    let e2' = e2 ∙ ap (λ l. laid head (rows ys) x (rows zs) left l (offset_of (96 + row_bytes ys) y) (offsets 96 ys)) moved_os in
    let at3 : length ((head ++ rows ys) ++ ((x ++ (rows zs ++ zeros left)) ++ table new_os)) ≡ 8190 - 2 * i =
    omega (arith, length-append (head ++ rows ys) ((x ++ (rows zs ++ zeros left)) ++ table new_os), length-append (x ++ (rows zs ++ zeros left)) (table new_os), length-append (head ++ rows ys) (x ++ (rows zs ++ zeros left)), length-table new_os, length-offsets zs (96 + row_bytes ys + length x)) in
    let e3 = wrote3 ∙ offset_gone head (rows ys) x (rows zs) new_os (offsets 96 ys) p2 left (offset_of (96 + row_bytes ys) y) offset (8190 - 2 * i) e2' at3 in
    let q : ℕ = end + length x - (stop - start) - 96 in
    let e4 = wrote4 ∙ bytes_gone (length xs) (row_bytes xs) q (rows ys) x (rows zs) new_os (offsets 96 ys) p3 left offset e3 in
    let q_is : q ≡ row_bytes (set xs i x) = omega arith in
    let left_is : left ≡ 8192 - used (set xs i x) = omega arith in
    let o_is : offset ≡ offset_of (96 + row_bytes ys) x = offset_is ∙ ap (λ n. offset_of n x) begins in
    e4 ∙ (λ j. laid (header (sym count j) (q_is j)) (rows ys) x (rows zs) (left_is j) new_os (o_is j) (offsets 96 ys))
    ∙ sym (parts_at (set xs i x) ys zs x after)

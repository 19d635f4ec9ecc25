-- A key among marks that ascend, and a least key in front of a row.
use Rattle.std.proofs.Common.{List, [], ◌∷◌, ◌++◌}
use Rattle.tree_laws.specs.Keys.{Key}
use Rattle.tree_laws.specs.Order.{Mark}
use Rattle.tree_laws.specs.Order.Mark.{Least, Row}
use Rattle.tree_laws.proofs.KeyOrder.{Below, upto_of, upto_self, upto_below, below_trans}
use Rattle.tree_laws.proofs.Lists.{Each, Precedes, Ascend, each-left, each-right, each-append, each-map, ascend-right}

-- a row of a key between marks before it and marks behind it
pub ascend-put : (k : Key) (xs ys : List Mark) → Ascend (xs ++ ys) → Each (λ m. Precedes m (Row k)) xs → Each (Precedes (Row k)) ys → Ascend (xs ++ Row k ∷ ys)
ascend-put k [] ys a before behind = (behind, a)
ascend-put k (x ∷ xs) ys a before behind =
    (each-append (Precedes x) xs (Row k ∷ ys) (each-left (Precedes x) xs ys a.0) (before.0, each-right (Precedes x) xs ys a.0), ascend-put k xs ys a.1 before.1 behind)

-- what precedes a row's key precedes the same least key, where it isn't a least key itself
row_least : (r k : Key) → Precedes (Row r) (Row k) → Precedes (Row r) (Least k)
row_least r k p = p

-- what may stand before a row before a row may stand before a least key between them
over : (m : Mark) (r k : Key) → Precedes m (Row r) → Below r k → Precedes m (Least k)
over (Least l) r k p b = upto_below l r k p b
over (Row l) r k p b = below_trans l r k p b

-- what a row may precede its least key may
least_first : (k : Key) (m : Mark) → Precedes (Row k) m → Precedes (Least k) m
least_first k (Least l) p = p
least_first k (Row l) p = upto_of k l p

-- a least key in front of its row, behind another row
pub ascend-part : (xs : List Mark) (r k : Key) (ys : List Mark) → Ascend (xs ++ Row r ∷ Row k ∷ ys) → Ascend (xs ++ Row r ∷ Least k ∷ Row k ∷ ys)
ascend-part [] r k ys a = ((a.0.0, a.0), ((upto_self k, each-map (Precedes (Row k)) (Precedes (Least k)) ys (least_first k) a.1.0), a.1))
ascend-part (x ∷ xs) r k ys a =
    let front = each-left (Precedes x) xs (Row r ∷ Row k ∷ ys) a.0 in
    let back = each-right (Precedes x) xs (Row r ∷ Row k ∷ ys) a.0 in
    let later = ascend-right xs (Row r ∷ Row k ∷ ys) a.1 in
    (each-append (Precedes x) xs (Row r ∷ Least k ∷ Row k ∷ ys) front (back.0, (over x r k back.0 later.0.0, back.1)), ascend-part xs r k ys a.1)

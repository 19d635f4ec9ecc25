-- The first PRIMARY KEY, taken part by part.
use Rattle.std.proofs.Common.{◌≡◌, ℕ, suc, ◌<◌, List, [], ◌∷◌, ◌++◌, length, get_or, drop, map, refl, sym, ap, ◌∙◌, arith, drop-cons}
use Rattle.std.specs.Prelude.{filter}
use Rattle.table_def.specs.declared.parts.ColumnPart.{ColumnPart}
use Rattle.table_def.specs.declared.parts.TablePart.{TablePart}
use Rattle.table_def.specs.declared.parts.TablePart.TheVariants.{Column}
use Rattle.table_def.specs.Options.{is_primary_key}
use Rattle.table_def.specs.Keys.{keys_in, keys_of, key_of}

-- the first of some that are all the same
first_same : {X Y : Type 0} (x d : Y) (xs : List X) (rest : List Y) → 0 < length xs → get_or (map (λ _. x) xs ++ rest) 0 d ≡ x
first_same x d [] rest some = absurd (omega (arith, some))
first_same x d (y ∷ ys) rest some = refl

-- the key is a column's own, where PRIMARY KEY stands behind its type
pub own_key : (parts : List TablePart) (i : ℕ) (d : TablePart) (c : ColumnPart) → i < length parts → d ≡ get_or parts i d → d ≡ Column c
    → 0 < length (filter is_primary_key c.options) → key_of (drop i parts) ≡ c.name ∷ []
own_key parts i d c within at is some =
    ap key_of (drop-cons parts i d within)
    ∙ ap (λ (part : TablePart). get_or (keys_in part ++ keys_of (drop (suc i) parts)) 0 []) (sym at ∙ is)
    ∙ first_same (c.name ∷ []) [] (filter is_primary_key c.options) (keys_of (drop (suc i) parts)) some

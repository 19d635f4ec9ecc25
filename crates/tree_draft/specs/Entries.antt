-- Which entry of a page is for a key, found slot by slot.
use Rattle.std.specs.Prelude.{not, ◌&&◌, ◌||◌, if◌then◌else◌, Option, None, Some, List, [], ◌∷◌}
use Rattle.tree_laws.specs.Keys.{Key}
use Rattle.tree_laws.specs.Kids.{is_upto}
use Rattle.tree_laws.specs.Sheets.{Entry}

-- of an entry and the one that is for the key among those of later slots, the one that is for it
abbrev pub better : Key → Entry → Option Entry → Option Entry
better key e None = Some e
better key e (Some d) =
    if is_upto d.least (Some key) then (if is_upto e.least (Some key) && not (is_upto e.least d.least) then Some e else Some d) else (if is_upto e.least (Some key) || is_upto e.least d.least then Some e else Some d)

-- the one that is for the key among those of these slots
abbrev pub scanned : Key → List (Option Entry) → Option Entry
scanned key [] = None
scanned key (None ∷ es) = scanned key es
scanned key (Some e ∷ es) = better key e (scanned key es)

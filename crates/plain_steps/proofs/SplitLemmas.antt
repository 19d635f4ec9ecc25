-- A legal history is cut in two, and what each event keeps holds all along it.
use Rattle.std.proofs.Common.{List, [], ◌∷◌, ◌++◌}
use Rattle.plain_model.specs.declared.event.Event.{Event}
use Rattle.plain_model.specs.State.{Plain}
use Rattle.plain_model.specs.Legal.{LegalFrom, MayCome, end_from, after}

-- the events before the cut are legal
pub legal_before : (st : Plain) (es fs : List Event) → LegalFrom st (es ++ fs) → LegalFrom st es
legal_before st [] fs h = tt
legal_before st (e ∷ es) fs h = (h.0, legal_before (after st e) es fs h.1)

-- those behind it are legal from where the others lead
pub legal_behind : (st : Plain) (es fs : List Event) → LegalFrom st (es ++ fs) → LegalFrom (end_from st es) fs
legal_behind st [] fs h = h
legal_behind st (e ∷ es) fs h = legal_behind (after st e) es fs h.1

-- what holds at first, and is kept by each event that may come, holds where a legal history leads
pub along : (P : Plain → Type 0) → ((st : Plain) (e : Event) → P st → MayCome st e → P (after st e)) → (st : Plain) (es : List Event) → P st → LegalFrom st es → P (end_from st es)
along P step st [] h legal = h
along P step st (e ∷ es) h legal = along P step (after st e) es (step st e h legal.0) legal.1

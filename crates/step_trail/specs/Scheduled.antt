-- Which entries a schedule leaves: for each of its picks the steps that it takes, and its end.
use Rattle.std.specs.Prelude.{◌≡◌, ◌≢◌, ◌⊎◌, Bool, true, false, not, ◌||◌, List, [], ◌∷◌, ◌++◌, map, Option, Some, None, is_some}
use Rattle.std.specs.List.{AllByRecursion, list_any}
use Rattle.plain_model.specs.declared.event.Event.{Event}
use Rattle.plain_model.specs.declared.kind.Kind.{Kind}
use Rattle.plain_model.specs.declared.pick.Pick.{Pick}
use Rattle.plain_model.specs.declared.pick.Until.{Until}
use Rattle.plain_model.specs.declared.pick.Until.TheVariants.{One, Reply, At}
use Rattle.plain_model.specs.Complete.{closer}
use Rattle.step_trail.specs.Entries.{Did, Entry, Step, End}

-- whether a pick goes no further than this step: it answered, left, or didn't go
abbrev pub closes : Did → Bool
closes d = not d.went || list_any (λ (e : Event). is_some (closer e)) d.events

-- one step, or none where the session has none
abbrev pub IsOne : List Did → Option Kind → Type 0
IsOne [] next = next ≡ None
IsOne (d ∷ []) next = Unit {0}
IsOne (d ∷ f ∷ ds) next = ⊥

-- no step but the last closes, and that does, or is stopped behind
abbrev pub Stops : Type 0 → List Did → Type 0
Stops Stopped [] = Stopped
Stops Stopped (d ∷ []) = (closes d ≡ true) ⊎ Stopped
Stops Stopped (d ∷ f ∷ ds) = (closes d ≡ false) × Stops Stopped (f ∷ ds)

-- the steps up to the first that closes; none where the session has none
abbrev pub IsToReply : List Did → Option Kind → Type 0
IsToReply [] next = next ≡ None
IsToReply (d ∷ ds) next = Stops ⊥ (d ∷ ds)

-- the steps up to the first that closes, or to where the next one is of this kind or there is none
abbrev pub IsStopped : Kind → Option Kind → Type 0
IsStopped kind next = (next ≡ None) ⊎ (next ≡ Some kind)

abbrev pub IsUntil : Until → List Did → Option Kind → Type 0
IsUntil One dids next = IsOne dids next
IsUntil Reply dids next = IsToReply dids next
IsUntil (At kind) dids next = AllByRecursion (λ (d : Did). d.kind ≢ kind) dids × Stops (IsStopped kind next) dids

-- a pick takes these steps, behind which the next one is of this kind
pub record Takes (pick : Pick) (dids : List Did) (next : Option Kind) : Type 0 where
  pub by : AllByRecursion (λ (d : Did). d.who ≡ pick.who) dids
  pub until : IsUntil pick.until dids next

-- the steps of a pick, and its end
abbrev pub entries_of : Pick → List Did → Option Kind → List Entry
entries_of pick dids next = map Step dids ++ End pick.who next ∷ []

-- the first entries are those of a pick
pub record Begins (pick : Pick) (entries rest : List Entry) : Type 0 where
  pub dids : List Did
  pub next : Option Kind
  pub takes : Takes pick dids next
  pub are : entries ≡ entries_of pick dids next ++ rest

abbrev pub Scheduled : List Pick → List Entry → Type 0
Scheduled [] entries = entries ≡ []
Scheduled (pick ∷ picks) entries = (rest : List Entry) × Begins pick entries rest × Scheduled picks rest

-- a pick that has taken these steps may take one more
abbrev pub GoesOn : Until → List Did → Type 0
GoesOn One dids = dids ≡ []
GoesOn Reply dids = AllByRecursion (λ (d : Did). closes d ≡ false) dids
GoesOn (At kind) dids = AllByRecursion (λ (d : Did). (closes d ≡ false) × (d.kind ≢ kind)) dids

pub record IsAmid (pick : Pick) (dids : List Did) : Type 0 where
  pub by : AllByRecursion (λ (d : Did). d.who ≡ pick.who) dids
  pub going : GoesOn pick.until dids

-- with this step it may take another
abbrev pub IsBetween : Until → Did → Type 0
IsBetween One d = ⊥
IsBetween Reply d = closes d ≡ false
IsBetween (At kind) d = (closes d ≡ false) × (d.kind ≢ kind)

-- this step is its last
abbrev pub IsLast : Until → Did → Type 0
IsLast One d = Unit {0}
IsLast Reply d = closes d ≡ true
IsLast (At kind) d = (closes d ≡ true) × (d.kind ≢ kind)

-- it ends behind these steps, since the next one is of its kind, or there is none
abbrev pub IsOver : Until → List Did → Option Kind → Type 0
IsOver One dids next = next ≡ None
IsOver Reply dids next = (dids ≡ []) × (next ≡ None)
IsOver (At kind) dids next = IsStopped kind next

-- Records taken back, alone and among others.
use Rattle.std.proofs.Common.{◌≡◌, ℕ, List, [], ◌∷◌, ◌++◌, refl, ap, sym, ◌∙◌}
use Rattle.page_base.specs.declared.numbers.PageId.{PageId}
use Rattle.page_base.specs.Slots.{Slots, with_slot}
use Rattle.page_base.proofs.SlotsLemmas.{with_slot-twice, with_slot-itself, with_slot-swap}
use Rattle.rec_log.specs.Records.{Record}
use Rattle.rec_log.specs.Undone.{undone, LacksSlot}

-- the later records are taken back first
pub undone-append : (older newer : List Record) (s : Slots) → undone (older ++ newer) s ≡ undone older (undone newer s)
undone-append [] newer s = refl
undone-append (r ∷ older) newer s = ap (λ (t : Slots). with_slot t r.page r.slot r.before) (undone-append older newer s)

-- a change with its record leaves what is undone as it was
pub undone-push : (records : List Record) (s : Slots) (p : PageId) (i : ℕ) (x : List ℕ) → undone (records ++ record { page = p; slot = i; before = s p i; after = x } ∷ []) (with_slot s p i x) ≡ undone records s
undone-push records s p i x = undone-append records _ (with_slot s p i x) ∙ ap (undone records) (with_slot-twice s p i (s p i) x ∙ with_slot-itself s p i)

-- the last record taken back
pub undone-pop : (records : List Record) (r : Record) (s : Slots) → undone (records ++ r ∷ []) s ≡ undone records (with_slot s r.page r.slot r.before)
undone-pop records r s = undone-append records (r ∷ []) s

-- a slot that no record is of, set before or after
pub undone-with_slot : (records : List Record) (s : Slots) (p : PageId) (i : ℕ) (x : List ℕ) → LacksSlot records p i → undone records (with_slot s p i x) ≡ with_slot (undone records s) p i x
undone-with_slot [] s p i x lacks = refl
undone-with_slot (r ∷ records) s p i x lacks =
    ap (λ (t : Slots). with_slot t r.page r.slot r.before) (undone-with_slot records s p i x lacks.1)
    ∙ sym (with_slot-swap (undone records s) p r.page i r.slot x r.before lacks.0)

-- a record taken back among others, none of the later ones of its slot
pub undone-pull : (older newer : List Record) (r : Record) (s : Slots) → LacksSlot newer r.page r.slot → undone (older ++ newer) (with_slot s r.page r.slot r.before) ≡ undone (older ++ r ∷ newer) s
undone-pull older newer r s lacks =
    undone-append older newer (with_slot s r.page r.slot r.before) ∙ ap (undone older) (undone-with_slot newer s r.page r.slot r.before lacks) ∙ sym (undone-append older (r ∷ newer) s)

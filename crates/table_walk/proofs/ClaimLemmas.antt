-- A plan speaks of the first claimed pages alone, so it is one plan over all that agree on these.
use Rattle.std.proofs.Common.{◌≡◌, ℕ, zero, suc, ◌<◌, ◌≤◌, Bool, ◌||◌, List, [], ◌∷◌, ◌++◌, length, refl, ap, sym, ◌∙◌, subst, arith}
use Rattle.std.specs.Prelude.{Option, None, Some}
use Rattle.std.specs.List.{All}
use Rattle.std.proofs.lemmas.List.Elements.{All-head, All-tail}
use Rattle.page_base.specs.declared.column.Column.{Column}
use Rattle.page_base.specs.declared.numbers.PageId.{PageId}
use Rattle.page_base.specs.Pages.{is_page, set_at}
use Rattle.page_fmt.specs.Edits.{edited, slot_at}
use Rattle.page_fmt.specs.Seen.{SlotsAt}
use Rattle.page_fmt.specs.Spelling.{used}
use Rattle.plain_model.specs.Tables.{Rows}
use Rattle.table_walk.specs.declared.plan.Edit.{Edit}
use Rattle.table_walk.specs.declared.plan.Spot.{Spot}
use Rattle.table_walk.specs.declared.plan.Spot.TheVariants.{Old, New}
use Rattle.table_walk.specs.declared.visit.Visit.{Visit}
use Rattle.table_walk.specs.Addresses.{address}
use Rattle.table_walk.specs.Tables.{Shape, HasRows}
use Rattle.table_walk.specs.Plans.{place, named, bytes_of, slots_after, changed, after, Fits, Go, is_claimed, also, SpotBelow, NameBelow, IsBelow, AreWithin, Carries}

-- two numberings of claimed pages that agree on the first n
abbrev pub AgreeBelow : (ℕ → PageId) → (ℕ → PageId) → ℕ → Type 0
AgreeBelow claimed other n = (i : ℕ) → i < n → claimed i ≡ other i

place_same : (claimed other : ℕ → PageId) (n : ℕ) (s : Spot) → AgreeBelow claimed other n → SpotBelow n s → place claimed s ≡ place other s
place_same claimed other n (Old p) same below = refl
place_same claimed other n (New i) same below = same i below

named_same : (claimed other : ℕ → PageId) (n : ℕ) (o : Option ℕ) → AgreeBelow claimed other n → NameBelow n o → named claimed o ≡ named other o
named_same claimed other n None same below = refl
named_same claimed other n (Some i) same below = ap address (same i below)

is_claimed_same : (claimed other : ℕ → PageId) (n : ℕ) (p : PageId) → AgreeBelow claimed other n → is_claimed claimed n p ≡ is_claimed other n p
is_claimed_same claimed other zero p same = refl
is_claimed_same claimed other (suc n) p same =
    let here : claimed n ≡ other n = same n (omega arith) in
    let rest : is_claimed claimed n p ≡ is_claimed other n p = is_claimed_same claimed other n p (λ i lt. same i (omega arith)) in
    λ t. is_page (here t) p || rest t

also_same : (owns : PageId → Bool) (claimed other : ℕ → PageId) (n : ℕ) → AgreeBelow claimed other n → also owns claimed n ≡ also owns other n
also_same owns claimed other n same = λ t p. owns p || is_claimed_same claimed other n p same t

module _ (claimed other : ℕ → PageId) (n : ℕ) (same : AgreeBelow claimed other n) where
  bytes_same : (e : Edit) → IsBelow n e → bytes_of claimed e ≡ bytes_of other e
  bytes_same e below = ap (λ xs. xs ++ e.bytes) (named_same claimed other n e.names same below.1)

  slots_same : (at : SlotsAt) (e : Edit) → IsBelow n e → slots_after claimed at e ≡ slots_after other at e
  slots_same at e below =
      let page : place claimed e.spot ≡ place other e.spot = place_same claimed other n e.spot same below.0 in
      let bytes : bytes_of claimed e ≡ bytes_of other e = bytes_same e below in
      λ t. edited (at (page t)) e.slot (bytes t)

  changed_same : (at : SlotsAt) (e : Edit) → IsBelow n e → changed claimed at e ≡ changed other at e
  changed_same at e below =
      let page : place claimed e.spot ≡ place other e.spot = place_same claimed other n e.spot same below.0 in
      let slots : slots_after claimed at e ≡ slots_after other at e = slots_same at e below in
      λ t. set_at at (page t) (slots t)

  fits_claimed : (at : SlotsAt) (e : Edit) → IsBelow n e → Fits claimed at e → Fits other at e
  fits_claimed at e below f =
      let page : place claimed e.spot ≡ place other e.spot = place_same claimed other n e.spot same below.0 in
      let bytes : bytes_of claimed e ≡ bytes_of other e = bytes_same e below in
      record {
        index = f.index;
        short = subst (λ (xs : List ℕ). length xs ≤ 8094) bytes f.short;
        room = subst (λ (s : List (List ℕ)). used s ≤ 8192) (slots_same at e below) f.room;
        changes = λ is. f.changes (ap (λ p. slot_at (at p) e.slot) page ∙ is ∙ sym bytes);
      }

  go_claimed : (at : SlotsAt) (es : List Edit) → All (IsBelow n) es → Go claimed at es → Go other at es
  go_claimed at [] below go = tt
  go_claimed at (e ∷ es) below go =
      let first : IsBelow n e = All-head (IsBelow n) e es below in
      (fits_claimed at e first go.0, go_claimed (changed other at e) es (All-tail (IsBelow n) e es below) (subst (λ (s : SlotsAt). Go claimed s es) (changed_same at e first) go.1))

  after_claimed : (at : SlotsAt) (es : List Edit) → All (IsBelow n) es → after claimed at es ≡ after other at es
  after_claimed at [] below = refl
  after_claimed at (e ∷ es) below =
      after_claimed (changed claimed at e) es (All-tail (IsBelow n) e es below) ∙ ap (λ (s : SlotsAt). after other s es) (changed_same at e (All-head (IsBelow n) e es below))

  within_claimed : (owns : PageId → Bool) (es : List Edit) → All (IsBelow n) es → AreWithin claimed n owns es → AreWithin other n owns es
  within_claimed owns [] below within = tt
  within_claimed owns (e ∷ es) below within =
      let page : place claimed e.spot ≡ place other e.spot = place_same claimed other n e.spot same (All-head (IsBelow n) e es below).0 in
      let owned : also owns claimed n (place claimed e.spot) ≡ also owns other n (place other e.spot) = λ t. also_same owns claimed other n same t (page t) in
      (sym owned ∙ within.0, within_claimed owns es (All-tail (IsBelow n) e es below) within.1)

pub carries_claimed : (shape : Shape) (cols : List Column) (start : Visit) (claimed other : ℕ → PageId) (n : ℕ) (at : SlotsAt) (owns : PageId → Bool) (edits : List Edit) (rows : Rows) → ((i : ℕ) → i < n → claimed i ≡ other i) → All (IsBelow n) edits
    → Carries shape cols start claimed n at owns edits rows → Carries shape cols start other n at owns edits rows
carries_claimed shape cols start claimed other n at owns edits rows same below c = record {
  go = go_claimed claimed other n same at edits below c.go;
  within = within_claimed claimed other n same owns edits below c.within;
  table = subst (λ (o : PageId → Bool). HasRows shape cols (after other at edits) o start rows) (also_same owns claimed other n same)
      (subst (λ (s : SlotsAt). HasRows shape cols s (also owns claimed n) start rows) (after_claimed claimed other n same at edits below) c.table);
}

-- Edits of one page, and of several: they go in turn, in whatever order the pages come.
use Rattle.std.proofs.Common.{refl, ◌≡◌, ◌≢◌, ℕ, ◌<◌, ◌≤◌, List, [], ◌∷◌, ◌++◌, length, ap, sym, ◌∙◌, subst, Bool, true, false, cond}
use Rattle.std.specs.Prelude.{None}
use Rattle.page_base.specs.declared.numbers.PageId.{PageId}
use Rattle.page_base.specs.Pages.{set_at, is_page}
use Rattle.page_fmt.specs.Edits.{edited, slot_at}
use Rattle.page_fmt.specs.Seen.{SlotsAt}
use Rattle.page_fmt.specs.Spelling.{used}
use Rattle.page_fmt.proofs.SeenLemmas.{is_page-same, is_page-true, is_page-other}
use Rattle.table_walk.specs.declared.plan.Edit.{Edit}
use Rattle.table_walk.specs.declared.plan.Spot.{Spot}
use Rattle.table_walk.specs.Differences.{ArePlain, PageGo, made_of, MakesPage}
use Rattle.table_walk.specs.Plans.{place, named, bytes_of, slots_after, changed, after, Go, also, AreWithin}

abbrev Slots : Type 0
Slots = List (List ℕ)

-- ONE PAGE

module _ (claimed : ℕ → PageId) where
  -- each edit lies on this page
  abbrev pub AreOn : PageId → List Edit → Type 0
  AreOn page [] = Unit {0}
  AreOn page (e ∷ es) = (place claimed e.spot ≡ page) × AreOn page es

  -- an edit fits on a page of these slots, and changes its slot
  pub record FitsOn (slots : Slots) (e : Edit) : Type 0 where
    pub index : e.slot < 4048
    pub short : length (bytes_of claimed e) ≤ 8094
    pub room : used (edited slots e.slot (bytes_of claimed e)) ≤ 8192
    pub changes : slot_at slots e.slot ≢ bytes_of claimed e

  -- each edit does, after those before it
  abbrev pub GoOn : Slots → List Edit → Type 0
  GoOn slots [] = Unit {0}
  GoOn slots (e ∷ es) = FitsOn slots e × GoOn (edited slots e.slot (bytes_of claimed e)) es

  -- the slots after all edits
  abbrev pub made_on : Slots → List Edit → Slots
  made_on slots [] = slots
  made_on slots (e ∷ es) = made_on (edited slots e.slot (bytes_of claimed e)) es

  -- edits that go in turn on this page, and make the new slots of the old ones
  pub record Turns (page : PageId) (old new : Slots) (edits : List Edit) : Type 0 where
    pub on : AreOn page edits
    pub go : GoOn old edits
    pub made : made_on old edits ≡ new

  pub on_append : (page : PageId) (es fs : List Edit) → AreOn page es → AreOn page fs → AreOn page (es ++ fs)
  on_append page [] fs a b = b
  on_append page (e ∷ es) fs a b = (a.0, on_append page es fs a.1 b)

  pub go_append : (slots : Slots) (es fs : List Edit) → GoOn slots es → GoOn (made_on slots es) fs → GoOn slots (es ++ fs)
  go_append slots [] fs a b = b
  go_append slots (e ∷ es) fs a b = (a.0, go_append (edited slots e.slot (bytes_of claimed e)) es fs a.1 b)

  pub made_append : (slots : Slots) (es fs : List Edit) → made_on slots (es ++ fs) ≡ made_on (made_on slots es) fs
  made_append slots [] fs = refl
  made_append slots (e ∷ es) fs = made_append (edited slots e.slot (bytes_of claimed e)) es fs

  -- some edits and then others
  pub turns_append : (page : PageId) (old mid new : Slots) (es fs : List Edit) → Turns page old mid es → Turns page mid new fs → Turns page old new (es ++ fs)
  turns_append page old mid new es fs a b = record {
    on = on_append page es fs a.on b.on;
    go = go_append old es fs a.go (subst (λ s. GoOn s fs) (sym a.made) b.go);
    made = made_append old es fs ∙ ap (λ s. made_on s fs) a.made ∙ b.made;
  }

  -- edits that name no claimed page
  plain_bytes : (e : Edit) → e.names ≡ None → bytes_of claimed e ≡ e.bytes
  plain_bytes e none = ap (λ o. named claimed o ++ e.bytes) none

  plain_on : (spot : Spot) (es : List Edit) → ArePlain spot es → AreOn (place claimed spot) es
  plain_on spot [] a = tt
  plain_on spot (e ∷ es) a = (ap (place claimed) a.0.0, plain_on spot es a.1)

  plain_go : (spot : Spot) (slots : Slots) (es : List Edit) → ArePlain spot es → PageGo slots es → GoOn slots es
  plain_go spot slots [] a g = tt
  plain_go spot slots (e ∷ es) a g =
      let same : e.bytes ≡ bytes_of claimed e = sym (plain_bytes e a.0.1) in (
        record {
          index = g.0.index;
          short = subst (λ bs. length bs ≤ 8094) same g.0.short;
          room = subst (λ bs. used (edited slots e.slot bs) ≤ 8192) same g.0.room;
          changes = subst (λ bs. slot_at slots e.slot ≢ bs) same g.0.changes;
        },
        subst (λ bs. GoOn (edited slots e.slot bs) es) same (plain_go spot (edited slots e.slot e.bytes) es a.1 g.1),
      )

  plain_made : (spot : Spot) (slots : Slots) (es : List Edit) → ArePlain spot es → made_on slots es ≡ made_of slots es
  plain_made spot slots [] a = refl
  plain_made spot slots (e ∷ es) a = ap (λ bs. made_on (edited slots e.slot bs) es) (plain_bytes e a.0.1) ∙ plain_made spot (edited slots e.slot e.bytes) es a.1

  pub turns_plain : (spot : Spot) (old new : Slots) (es : List Edit) → MakesPage spot old new es → Turns (place claimed spot) old new es
  turns_plain spot old new es m = record { on = plain_on spot es m.are; go = plain_go spot old es m.are m.go; made = plain_made spot old es m.are ∙ m.made }

  -- ALL PAGES

  -- a page that is set to what it is
  set_same : (at : SlotsAt) (page : PageId) (s : Slots) → at page ≡ s → at ≡ set_at at page s
  set_same at page s e = λ i q. point q i
    where
      point : (q : PageId) → at q ≡ cond (is_page page q) s (at q)
      point q =
          let by : (b : Bool) → is_page page q ≡ b → at q ≡ cond b s (at q) =
          elim [
            | true ↦ λ f. ap at (sym (is_page-true page q f)) ∙ e
            | false ↦ λ f. refl
          ] in
          by (is_page page q) refl

  -- a page that is set twice
  set_twice : (at : SlotsAt) (page other : PageId) (x y : Slots) → other ≡ page → set_at (set_at at other x) page y ≡ set_at at page y
  set_twice at page other x y e = λ i q. point q i
    where
      point : (q : PageId) → cond (is_page page q) y (cond (is_page other q) x (at q)) ≡ cond (is_page page q) y (at q)
      point q =
          let by : (b : Bool) → is_page page q ≡ b → cond b y (cond (is_page other q) x (at q)) ≡ cond b y (at q) =
          elim [
            | true ↦ λ f. refl
            | false ↦ λ f. ap (λ c. cond c x (at q)) (ap (λ p. is_page p q) e ∙ f)
          ] in
          by (is_page page q) refl

  pub set_here : (at : SlotsAt) (page other : PageId) (x : Slots) → other ≡ page → set_at at other x page ≡ x
  set_here at page other x e = ap (λ b. cond b x (at page)) (ap (λ p. is_page p page) e ∙ is_page-same page)

  pub set_other : (at : SlotsAt) (page q : PageId) (x : Slots) → page ≢ q → set_at at page x q ≡ at q
  set_other at page q x ne = ap (λ b. cond b x (at q)) (is_page-other page q ne)

  go_all : (at : SlotsAt) (page : PageId) (s : Slots) (es : List Edit) → at page ≡ s → AreOn page es → GoOn s es → Go claimed at es
  go_all at page s [] e on go = tt
  go_all at page s (x ∷ xs) e on go =
      let here : at (place claimed x.spot) ≡ s = ap at on.0 ∙ e in
      let next : changed claimed at x page ≡ edited s x.slot (bytes_of claimed x) = set_here at page (place claimed x.spot) (slots_after claimed at x) on.0 ∙ ap (λ t. edited t x.slot (bytes_of claimed x)) here in (
        record {
          index = go.0.index;
          short = go.0.short;
          room = subst (λ t. used (edited t x.slot (bytes_of claimed x)) ≤ 8192) (sym here) go.0.room;
          changes = subst (λ t. slot_at t x.slot ≢ bytes_of claimed x) (sym here) go.0.changes;
        },
        go_all (changed claimed at x) page (edited s x.slot (bytes_of claimed x)) xs next on.1 go.1,
      )

  after_all : (at : SlotsAt) (page : PageId) (s : Slots) (es : List Edit) → at page ≡ s → AreOn page es → after claimed at es ≡ set_at at page (made_on s es)
  after_all at page s [] e on = set_same at page s e
  after_all at page s (x ∷ xs) e on =
      let next : changed claimed at x page ≡ edited s x.slot (bytes_of claimed x) = set_here at page (place claimed x.spot) (slots_after claimed at x) on.0 ∙ ap (λ t. edited t x.slot (bytes_of claimed x)) (ap at on.0 ∙ e) in
      after_all (changed claimed at x) page (edited s x.slot (bytes_of claimed x)) xs next on.1
      ∙ set_twice at page (place claimed x.spot) (slots_after claimed at x) (made_on (edited s x.slot (bytes_of claimed x)) xs) on.0

  pub go_join : (at : SlotsAt) (es fs : List Edit) → Go claimed at es → Go claimed (after claimed at es) fs → Go claimed at (es ++ fs)
  go_join at [] fs g h = h
  go_join at (e ∷ es) fs g h = (g.0, go_join (changed claimed at e) es fs g.1 h)

  pub after_join : (at : SlotsAt) (es fs : List Edit) → after claimed at (es ++ fs) ≡ after claimed (after claimed at es) fs
  after_join at [] fs = refl
  after_join at (e ∷ es) fs = after_join (changed claimed at e) es fs

  -- edits of one page, where it has the old slots
  pub go_page : (at : SlotsAt) (page : PageId) (old new : Slots) (es : List Edit) → Turns page old new es → at page ≡ old → Go claimed at es
  go_page at page old new es t e = go_all at page old es e t.on t.go

  pub after_page : (at : SlotsAt) (page : PageId) (old new : Slots) (es : List Edit) → Turns page old new es → at page ≡ old → after claimed at es ≡ set_at at page new
  after_page at page old new es t e = after_all at page old es e t.on ∙ ap (set_at at page) t.made

  pub within_page : (n : ℕ) (owns : PageId → Bool) (page : PageId) (es : List Edit) → AreOn page es → also owns claimed n page ≡ true → AreWithin claimed n owns es
  within_page n owns page [] on e = tt
  within_page n owns page (x ∷ xs) on e = (ap (also owns claimed n) on.0 ∙ e, within_page n owns page xs on.1 e)

  pub within_join : (n : ℕ) (owns : PageId → Bool) (es fs : List Edit) → AreWithin claimed n owns es → AreWithin claimed n owns fs → AreWithin claimed n owns (es ++ fs)
  within_join n owns [] fs a b = b
  within_join n owns (e ∷ es) fs a b = (a.0, within_join n owns es fs a.1 b)

-- One page's edits, those that don't grow first, go in turn and make the new page.
use Rattle.std.proofs.Common.{refl, ◌≡◌, ◌≢◌, ℕ, zero, suc, ◌+◌, ◌-◌, ◌*◌, ◌<◌, ◌≤◌, List, [], ◌∷◌, ◌++◌, length, get_or, set, map, ap, sym, ◌∙◌, subst, arith, Bool, true, false, not, cond, nat_lt, inl, inr, ◌⊎◌, append_assoc}
use Rattle.std.proofs.lemmas.Bool.{cases_eq, cases_lt, lt-ltb, le-ltb}
use Rattle.std.proofs.lemmas.List.{get_or_past, append-nil}
use Rattle.page_fmt.specs.Edits.{edited, set_slot, trimmed, before}
use Rattle.page_fmt.specs.Spelling.{used, row_bytes, LastIsFull, FitsPage}
use Rattle.page_fmt.proofs.CallerLemmas.{slot_at-edited_same, slot_at-edited_other}
use Rattle.page_fmt.proofs.SlotLemmas.{LastIsFull-set_slot, length-set_slot, row_bytes-slot, get_or-set_slot_same}
use Rattle.table_walk.specs.declared.plan.Edit.{Edit}
use Rattle.table_walk.specs.declared.plan.Spot.{Spot}
use Rattle.std.specs.List.{AllPairs}
use Rattle.std.specs.Str.{bytes_eq}
use Rattle.std.proofs.lemmas.Slice.Eq.{bytes_eq-Decides}
use Rattle.table_walk.specs.Differences.{is_wanted, changes_at, page_changes, page_after, PageGoes, edit_at, ArePlain, PageGo, made_of, MakesPage, AddsPage}

abbrev Slots : Type 0
Slots = List (List ℕ)

full_cons : (x : List ℕ) (ys : Slots) → x ≢ [] → LastIsFull ys → LastIsFull (x ∷ ys)
full_cons x [] h l = h
full_cons x (y ∷ ys) h l = l

pub LastIsFull-trimmed : (xs : Slots) → LastIsFull (trimmed xs)
LastIsFull-trimmed [] = tt
LastIsFull-trimmed (x ∷ xs) = in_front x (trimmed xs) (LastIsFull-trimmed xs)
  where
    in_front : (x : List ℕ) (ys : Slots) → LastIsFull ys → LastIsFull (before x ys)
    in_front [] [] l = l
    in_front [] (y ∷ ys) l = l
    in_front (b ∷ bs) ys l = full_cons (b ∷ bs) ys (λ e. let n : suc (length bs) ≡ 0 = ap length e in absurd (omega arith)) l

LastIsFull-edited : (s : Slots) (i : ℕ) (x : List ℕ) → LastIsFull s → LastIsFull (edited s i x)
LastIsFull-edited s i [] l = LastIsFull-trimmed (set s i [])
LastIsFull-edited s i (b ∷ bs) l = LastIsFull-set_slot s i (b ∷ bs) (λ e. let n : suc (length bs) ≡ 0 = ap length e in absurd (omega arith)) l

last_tail : (y : List ℕ) (ys : Slots) → LastIsFull (y ∷ ys) → LastIsFull ys
last_tail y [] l = tt
last_tail y (z ∷ zs) l = l

-- a trimmed page is no longer than one whose slots are all at least as long
pub used-mono : (s t : Slots) → LastIsFull s → ((i : ℕ) → length (get_or s i []) ≤ length (get_or t i [])) → row_bytes s + 2 * length s ≤ row_bytes t + 2 * length t
used-mono [] t l h = omega arith
used-mono (x ∷ xs) [] l h = absurd (no x xs l (λ i. omega (arith, h i)))
  where
    empty : (x : List ℕ) → length x ≤ 0 → x ≡ []
    empty [] e = refl
    empty (b ∷ bs) e = absurd (omega arith)

    no : (x : List ℕ) (xs : Slots) → LastIsFull (x ∷ xs) → ((i : ℕ) → length (get_or (x ∷ xs) i []) ≤ 0) → ⊥
    no x [] l h = l (empty x (h 0))
    no x (y ∷ ys) l h = no y ys l (λ i. h (suc i))
used-mono (x ∷ xs) (y ∷ ys) l h = omega (arith, h 0, used-mono xs ys (last_tail x xs l) (λ i. h (suc i)))

-- trimmed pages with the same slots
pub same_slots : (s t : Slots) → LastIsFull s → LastIsFull t → ((i : ℕ) → get_or s i [] ≡ get_or t i []) → s ≡ t
same_slots [] [] l m h = refl
same_slots [] (y ∷ ys) l m h = absurd (no y ys m (λ i. sym (h i)))
  where
    no : (x : List ℕ) (xs : Slots) → LastIsFull (x ∷ xs) → ((i : ℕ) → get_or (x ∷ xs) i [] ≡ []) → ⊥
    no x [] l h = l (h 0)
    no x (y ∷ ys) l h = no y ys l (λ i. h (suc i))
same_slots (x ∷ xs) [] l m h = absurd (no x xs l h)
  where
    no : (x : List ℕ) (xs : Slots) → LastIsFull (x ∷ xs) → ((i : ℕ) → get_or (x ∷ xs) i [] ≡ []) → ⊥
    no x [] l h = l (h 0)
    no x (y ∷ ys) l h = no y ys l (λ i. h (suc i))
same_slots (x ∷ xs) (y ∷ ys) l m h = λ i. h 0 i ∷ same_slots xs ys (last_tail x xs l) (last_tail y ys m) (λ j. h (suc j)) i

-- EDITS UNDER A BOUND

-- no edit names this slot
abbrev pub NoSlot : ℕ → List (ℕ × List ℕ) → Type 0
NoSlot i [] = Unit {0}
NoSlot i (c ∷ cs) = (c.0 ≢ i) × NoSlot i cs

-- each edit is of its own slot, changes it, and is within t
abbrev pub Under : Slots → Slots → List (ℕ × List ℕ) → Type 0
Under t s [] = Unit {0}
Under t s (c ∷ cs) = (length c.1 ≤ length (get_or t c.0 [])) × (get_or s c.0 [] ≢ c.1) × NoSlot c.0 cs × Under t s cs

under-other : (t s : Slots) (i : ℕ) (x : List ℕ) (cs : List (ℕ × List ℕ)) → NoSlot i cs → Under t s cs → Under t (edited s i x) cs
under-other t s i x [] n u = tt
under-other t s i x (c ∷ cs) n u = (u.0, (λ e. u.1 (sym (slot_at-edited_other s i c.0 x n.0) ∙ e)), u.2, under-other t s i x cs n.1 u.3)

pub goes_under : (t s : Slots) (cs : List (ℕ × List ℕ)) → used t ≤ 8192 → LastIsFull s → ((i : ℕ) → length (get_or s i []) ≤ length (get_or t i [])) → Under t s cs → PageGoes s cs
goes_under t s [] small l h u = tt
goes_under t s (c ∷ cs) small l h u =
    let within : (i : ℕ) → length (get_or (edited s c.0 c.1) i []) ≤ length (get_or t i []) =
    λ i. elim (cases_eq i c.0) [
      | inl e ↦ subst (λ j. length (get_or (edited s c.0 c.1) j []) ≤ length (get_or t j [])) (sym e) (subst (λ x. length x ≤ length (get_or t c.0 [])) (sym (slot_at-edited_same s c.0 c.1)) u.0)
      | inr ne ↦ subst (λ x. length x ≤ length (get_or t i [])) (sym (slot_at-edited_other s c.0 i c.1 ne)) (h i)
    ] in
    (omega (arith, used-mono (edited s c.0 c.1) t (LastIsFull-edited s c.0 c.1 l) within), u.1, goes_under t (edited s c.0 c.1) cs small (LastIsFull-edited s c.0 c.1 l) within (under-other t s c.0 c.1 cs u.2 u.3))

pub page_goes-append : (s : Slots) (cs ds : List (ℕ × List ℕ)) → PageGoes s cs → PageGoes (page_after s cs) ds → PageGoes s (cs ++ ds)
page_goes-append s [] ds g h = h
page_goes-append s (c ∷ cs) ds g h = (g.0, g.1, page_goes-append (edited s c.0 c.1) cs ds g.2 h)

pub page_after-append : (s : Slots) (cs ds : List (ℕ × List ℕ)) → page_after s (cs ++ ds) ≡ page_after (page_after s cs) ds
page_after-append s [] ds = refl
page_after-append s (c ∷ cs) ds = page_after-append (edited s c.0 c.1) cs ds

pub trimmed_after : (s : Slots) (cs : List (ℕ × List ℕ)) → LastIsFull s → LastIsFull (page_after s cs)
trimmed_after s [] l = l
trimmed_after s (c ∷ cs) l = trimmed_after (edited s c.0 c.1) cs (LastIsFull-edited s c.0 c.1 l)

-- a slot that no edit names stays
pub stays : (s : Slots) (cs : List (ℕ × List ℕ)) (i : ℕ) → NoSlot i cs → get_or (page_after s cs) i [] ≡ get_or s i []
stays s [] i n = refl
stays s (c ∷ cs) i n = stays (edited s c.0 c.1) cs i n.1 ∙ slot_at-edited_other s c.0 i c.1 (λ e. n.0 (sym e))

-- WHAT BECOMES OF EACH SLOT

same_true : (xs ys : List ℕ) → bytes_eq xs ys ≡ true → xs ≡ ys
same_true xs ys e = (bytes_eq-Decides xs ys).0 e

same_self : (xs : List ℕ) → bytes_eq xs xs ≡ true
same_self xs = (bytes_eq-Decides xs xs).1 refl

pub record Kept (x y : List ℕ) : Type 0 where
  pub same : x ≡ y
  pub first : is_wanted false x y ≡ false
  pub later : is_wanted true x y ≡ false

pub record Shrinks (x y : List ℕ) : Type 0 where
  pub differ : x ≢ y
  pub long : length y ≤ length x
  pub first : is_wanted false x y ≡ true
  pub later : is_wanted true x y ≡ false

pub record Grows (x y : List ℕ) : Type 0 where
  pub differ : x ≢ y
  pub long : length x < length y
  pub first : is_wanted false x y ≡ false
  pub later : is_wanted true x y ≡ true

pub fate : (x y : List ℕ) → Kept x y ⊎ Shrinks x y ⊎ Grows x y
fate x y =
    let by : (b : Bool) → bytes_eq x y ≡ b → Kept x y ⊎ Shrinks x y ⊎ Grows x y =
    elim [
      | true ↦ λ e. inl (record { same = same_true x y e; first = at e false; later = at e true })
      | false ↦ λ e.
          let ne : x ≢ y = λ f. let t : true ≡ false = sym (ap (bytes_eq x) (sym f) ∙ same_self x) ∙ e in cc in
          elim (cases_lt (length x) (length y)) as (λ _. Kept x y ⊎ Shrinks x y ⊎ Grows x y) [
            | inl lt ↦ inr (inr (record { differ = ne; long = lt; first = off e false lt; later = off e true lt }))
            | inr ge ↦ inr (inl (record { differ = ne; long = ge; first = less e false ge; later = less e true ge }))
          ]
    ] in
    by (bytes_eq x y) refl
  where
    at : bytes_eq x y ≡ true → (g : Bool) → is_wanted g x y ≡ false
    at e g = ap (λ b. cond b false (cond (nat_lt (length x) (length y)) g (not g))) e

    off : bytes_eq x y ≡ false → (g : Bool) → length x < length y → is_wanted g x y ≡ g
    off e g h = ap (λ b. cond b false (cond (nat_lt (length x) (length y)) g (not g))) e ∙ ap (λ b. cond b g (not g)) (lt-ltb (length x) (length y) h)

    less : bytes_eq x y ≡ false → (g : Bool) → length y ≤ length x → is_wanted g x y ≡ not g
    less e g h = ap (λ b. cond b false (cond (nat_lt (length x) (length y)) g (not g))) e ∙ ap (λ b. cond b g (not g)) (le-ltb (length x) (length y) h)

-- THE EDITS OF ONE KIND

take_it : (g : Bool) (old new : Slots) (i n : ℕ) → is_wanted g (get_or old i []) (get_or new i []) ≡ true → changes_at g old new i (suc n) ≡ (i, get_or new i []) ∷ changes_at g old new (i + 1) n
take_it g old new i n e = ap (λ b. cond b ((i, get_or new i []) ∷ changes_at g old new (i + 1) n) (changes_at g old new (i + 1) n)) e

leave_it : (g : Bool) (old new : Slots) (i n : ℕ) → is_wanted g (get_or old i []) (get_or new i []) ≡ false → changes_at g old new i (suc n) ≡ changes_at g old new (i + 1) n
leave_it g old new i n e = ap (λ b. cond b ((i, get_or new i []) ∷ changes_at g old new (i + 1) n) (changes_at g old new (i + 1) n)) e

either : (b : Bool) → (b ≡ true) ⊎ (b ≡ false)
either true = inl refl
either false = inr refl

no_slot_below : (g : Bool) (old new : Slots) (k i n : ℕ) → k < i → NoSlot k (changes_at g old new i n)
no_slot_below g old new k i zero h = tt
no_slot_below g old new k i (suc n) h =
    elim (either (is_wanted g (get_or old i []) (get_or new i []))) [
      | inl e ↦ subst (NoSlot k) (sym (take_it g old new i n e)) ((λ f. absurd (omega arith)), no_slot_below g old new k (i + 1) n (omega arith))
      | inr e ↦ subst (NoSlot k) (sym (leave_it g old new i n e)) (no_slot_below g old new k (i + 1) n (omega arith))
    ]

no_slot_unwanted : (g : Bool) (old new : Slots) (k i n : ℕ) → is_wanted g (get_or old k []) (get_or new k []) ≡ false → NoSlot k (changes_at g old new i n)
no_slot_unwanted g old new k i zero w = tt
no_slot_unwanted g old new k i (suc n) w =
    elim (either (is_wanted g (get_or old i []) (get_or new i []))) [
      | inl e ↦ subst (NoSlot k) (sym (take_it g old new i n e))
          ((λ f. let t : true ≡ false = sym e ∙ ap (λ j. is_wanted g (get_or old j []) (get_or new j [])) f ∙ w in cc), no_slot_unwanted g old new k (i + 1) n w)
      | inr e ↦ subst (NoSlot k) (sym (leave_it g old new i n e)) (no_slot_unwanted g old new k (i + 1) n w)
    ]

under_kind : (g : Bool) (old new t s : Slots) (i n : ℕ)
    → ((k : ℕ) → is_wanted g (get_or old k []) (get_or new k []) ≡ true → (length (get_or new k []) ≤ length (get_or t k [])) × (get_or s k [] ≢ get_or new k []))
    → Under t s (changes_at g old new i n)
under_kind g old new t s i zero h = tt
under_kind g old new t s i (suc n) h =
    elim (either (is_wanted g (get_or old i []) (get_or new i []))) [
      | inl e ↦ subst (Under t s) (sym (take_it g old new i n e)) ((h i e).0, (h i e).1, no_slot_below g old new i (i + 1) n (omega arith), under_kind g old new t s (i + 1) n h)
      | inr e ↦ subst (Under t s) (sym (leave_it g old new i n e)) (under_kind g old new t s (i + 1) n h)
    ]

made : (g : Bool) (old new s : Slots) (k i n : ℕ) → is_wanted g (get_or old k []) (get_or new k []) ≡ true → i ≤ k → k < i + n → get_or (page_after s (changes_at g old new i n)) k [] ≡ get_or new k []
made g old new s k i zero w h l = absurd (omega arith)
made g old new s k i (suc n) w h l =
    elim (cases_eq k i) [
      | inl same ↦
          let e : is_wanted g (get_or old i []) (get_or new i []) ≡ true = ap (λ j. is_wanted g (get_or old j []) (get_or new j [])) (sym same) ∙ w in
          ap (λ cs. get_or (page_after s cs) k []) (take_it g old new i n e)
          ∙ stays (edited s i (get_or new i [])) (changes_at g old new (i + 1) n) k (no_slot_below g old new k (i + 1) n (omega arith))
          ∙ ap (λ j. get_or (edited s i (get_or new i [])) j []) same ∙ slot_at-edited_same s i (get_or new i []) ∙ ap (λ j. get_or new j []) (sym same)
      | inr ne ↦ elim (either (is_wanted g (get_or old i []) (get_or new i []))) [
        | inl e ↦ ap (λ cs. get_or (page_after s cs) k []) (take_it g old new i n e) ∙ made g old new (edited s i (get_or new i [])) k (i + 1) n w (after k i h ne) (omega arith)
        | inr e ↦ ap (λ cs. get_or (page_after s cs) k []) (leave_it g old new i n e) ∙ made g old new s k (i + 1) n w (after k i h ne) (omega arith)
      ]
    ]
  where
    after : (k i : ℕ) → i ≤ k → k ≢ i → i + 1 ≤ k
    after k i h ne = omega arith

-- THE PAGE

-- where no more slots stand, nothing is wanted
past_kept : (g : Bool) (old new : Slots) (k : ℕ) → length old + length new ≤ k → is_wanted g (get_or old k []) (get_or new k []) ≡ false
past_kept g old new k h =
    (λ i. is_wanted g (get_or_past old k [] (omega arith) i) (get_or_past new k [] (omega arith) i))

pub first_done : (old new : Slots) (k : ℕ) → is_wanted false (get_or old k []) (get_or new k []) ≡ true → get_or (page_after old (changes_at false old new 0 (length old + length new))) k [] ≡ get_or new k []
first_done old new k w =
    elim (cases_lt k (length old + length new)) [
      | inl lt ↦ made false old new old k 0 (length old + length new) w (omega arith) (omega arith)
      | inr ge ↦ let f : true ≡ false = sym w ∙ past_kept false old new k ge in cc
    ]

pub first_left : (old new : Slots) (k : ℕ) → is_wanted false (get_or old k []) (get_or new k []) ≡ false → get_or (page_after old (changes_at false old new 0 (length old + length new))) k [] ≡ get_or old k []
first_left old new k w = stays old (changes_at false old new 0 (length old + length new)) k (no_slot_unwanted false old new k 0 (length old + length new) w)

-- the edits of a page go in turn
pub page_goes : (old new : Slots) → used old ≤ 8192 → used new ≤ 8192 → LastIsFull old → PageGoes old (page_changes old new)
page_goes old new so sn lo =
    let n : ℕ = length old + length new in
    let mid : Slots = page_after old (changes_at false old new 0 n) in
    page_goes-append old (changes_at false old new 0 n) (changes_at true old new 0 n)
    (goes_under old old (changes_at false old new 0 n) so lo (λ i. omega arith) (under_kind false old new old old 0 n (λ k w. shrinking k w)))
    (goes_under new mid (changes_at true old new 0 n) sn (trimmed_after old (changes_at false old new 0 n) lo) within (under_kind true old new new mid 0 n (λ k w. growing k w)))
  where
    shrinking : (k : ℕ) → is_wanted false (get_or old k []) (get_or new k []) ≡ true → (length (get_or new k []) ≤ length (get_or old k [])) × (get_or old k [] ≢ get_or new k [])
    shrinking k w =
        elim (fate (get_or old k []) (get_or new k [])) [
          | inl f ↦ let t : true ≡ false = sym w ∙ f.first in cc
          | inr (inl f) ↦ (f.long, f.differ)
          | inr (inr f) ↦ let t : true ≡ false = sym w ∙ f.first in cc
        ]

    growing : (k : ℕ) → is_wanted true (get_or old k []) (get_or new k []) ≡ true → (length (get_or new k []) ≤ length (get_or new k [])) × (get_or (page_after old (changes_at false old new 0 (length old + length new))) k [] ≢ get_or new k [])
    growing k w =
        elim (fate (get_or old k []) (get_or new k [])) [
          | inl f ↦ let t : true ≡ false = sym w ∙ f.later in cc
          | inr (inl f) ↦ let t : true ≡ false = sym w ∙ f.later in cc
          | inr (inr f) ↦ (omega arith, λ e. f.differ (sym (first_left old new k f.first) ∙ e))
        ]

    within : (k : ℕ) → length (get_or (page_after old (changes_at false old new 0 (length old + length new))) k []) ≤ length (get_or new k [])
    within k =
        elim (fate (get_or old k []) (get_or new k [])) [
          | inl f ↦ let e = ap length (first_left old new k f.first) in let g = ap length f.same in omega arith
          | inr (inl f) ↦ let e = ap length (first_done old new k f.first) in omega arith
          | inr (inr f) ↦ let e = ap length (first_left old new k f.first) in let l = f.long in omega arith
        ]

-- and make the new page of the old one
pub page_made : (old new : Slots) → LastIsFull old → LastIsFull new → page_after old (page_changes old new) ≡ new
page_made old new lo ln =
    page_after-append old (changes_at false old new 0 (length old + length new)) (changes_at true old new 0 (length old + length new))
    ∙ same_slots (page_after mid (changes_at true old new 0 n)) new (trimmed_after mid (changes_at true old new 0 n) (trimmed_after old (changes_at false old new 0 n) lo)) ln slots
  where
    n : ℕ
    n = length old + length new

    mid : Slots
    mid = page_after old (changes_at false old new 0 (length old + length new))

    slots : (k : ℕ) → get_or (page_after (page_after old (changes_at false old new 0 (length old + length new))) (changes_at true old new 0 (length old + length new))) k [] ≡ get_or new k []
    slots k =
        elim (fate (get_or old k []) (get_or new k [])) [
          | inl f ↦ stays _ (changes_at true old new 0 (length old + length new)) k (no_slot_unwanted true old new k 0 (length old + length new) f.later) ∙ first_left old new k f.first ∙ f.same
          | inr (inl f) ↦ stays _ (changes_at true old new 0 (length old + length new)) k (no_slot_unwanted true old new k 0 (length old + length new) f.later) ∙ first_done old new k f.first
          | inr (inr f) ↦ elim (cases_lt k (length old + length new)) [
            | inl lt ↦ made true old new _ k 0 (length old + length new) f.later (omega arith) (omega arith)
            | inr ge ↦ let t : true ≡ false = sym f.later ∙ past_kept true old new k ge in cc
          ]
        ]

-- THE LOOP OVER THE SLOTS

abbrev pub EditsSoFar : Bool → Slots → Slots → ℕ → ℕ → List (ℕ × List ℕ) → List (ℕ × List ℕ) → Type 0
EditsSoFar grows old new i count first edits = edits ++ changes_at grows old new i (count - i) ≡ first ++ changes_at grows old new 0 count

pub edits_begin : (g : Bool) (old new : Slots) (count : ℕ) (first : List (ℕ × List ℕ)) → EditsSoFar g old new 0 count first first
edits_begin g old new count first = let e : count - 0 ≡ count = omega arith in ap (λ n. first ++ changes_at g old new 0 n) e

pub edits_take : (g : Bool) (old new : Slots) (i count : ℕ) (first edits more : List (ℕ × List ℕ)) (c : ℕ × List ℕ) → EditsSoFar g old new i count first edits → i < count → is_wanted g (get_or old i []) (get_or new i []) ≡ true
    → c ≡ (i, get_or new i []) → more ≡ edits ++ c ∷ [] → EditsSoFar g old new (i + 1) count first more
edits_take g old new i count first edits more c s h w is_c is_more =
    let n : count - i ≡ suc (count - (i + 1)) = omega arith in
    ap (λ es. es ++ changes_at g old new (i + 1) (count - (i + 1))) (is_more ∙ ap (λ x. edits ++ x ∷ []) is_c) ∙ append_assoc edits ((i, get_or new i []) ∷ []) (changes_at g old new (i + 1) (count - (i + 1)))
    ∙ ap (λ es. edits ++ es) (sym (take_it g old new i (count - (i + 1)) w) ∙ ap (changes_at g old new i) (sym n)) ∙ s

pub edits_leave : (g : Bool) (old new : Slots) (i count : ℕ) (first edits : List (ℕ × List ℕ)) → EditsSoFar g old new i count first edits → i < count → is_wanted g (get_or old i []) (get_or new i []) ≡ false → EditsSoFar g old new (i + 1) count first edits
edits_leave g old new i count first edits s h w =
    let n : count - i ≡ suc (count - (i + 1)) = omega arith in
    ap (λ es. edits ++ es) (sym (leave_it g old new i (count - (i + 1)) w) ∙ ap (changes_at g old new i) (sym n)) ∙ s

pub edits_end : (g : Bool) (old new : Slots) (i count : ℕ) (first edits : List (ℕ × List ℕ)) → EditsSoFar g old new i count first edits → count ≤ i → edits ≡ first ++ changes_at g old new 0 count
edits_end g old new i count first edits s h = let n : count - i ≡ 0 = omega arith in sym (append-nil edits) ∙ ap (λ m. edits ++ changes_at g old new i m) (sym n) ∙ s

-- THE EDITS THEMSELVES

-- room for an edit leaves a slot and bytes that a page can have
pub edit_fits : (s : Slots) (i : ℕ) (x : List ℕ) → used s ≤ 8192 → used (edited s i x) ≤ 8192 → get_or s i [] ≢ x → (i < 4048) × (length x ≤ 8094)
edit_fits s i [] old new ne = elim (cases_lt i (length s)) [
  | inl lt ↦ (omega arith, omega arith)
  | inr past ↦ absurd (ne (get_or_past s i [] past))
]
edit_fits s i (b ∷ bs) old new ne =
    let long = length-set_slot s i (b ∷ bs) in
    let rows = row_bytes-slot (set_slot s i (b ∷ bs)) i in
    let same = ap length (get_or-set_slot_same s i (b ∷ bs)) in
    (omega arith, omega arith)

-- each change is of another slot
abbrev Distinct : List (ℕ × List ℕ) → Type 0
Distinct [] = Unit {0}
Distinct (c ∷ cs) = NoSlot c.0 cs × Distinct cs

abbrev EachLacks : List (ℕ × List ℕ) → List (ℕ × List ℕ) → Type 0
EachLacks [] ds = Unit {0}
EachLacks (c ∷ cs) ds = NoSlot c.0 ds × EachLacks cs ds

no_slot_append : (i : ℕ) (cs ds : List (ℕ × List ℕ)) → NoSlot i cs → NoSlot i ds → NoSlot i (cs ++ ds)
no_slot_append i [] ds a b = b
no_slot_append i (c ∷ cs) ds a b = (a.0, no_slot_append i cs ds a.1 b)

distinct_append : (cs ds : List (ℕ × List ℕ)) → Distinct cs → Distinct ds → EachLacks cs ds → Distinct (cs ++ ds)
distinct_append [] ds a b e = b
distinct_append (c ∷ cs) ds a b e = (no_slot_append c.0 cs ds a.0 e.0, distinct_append cs ds a.1 b e.1)

distinct_kind : (g : Bool) (old new : Slots) (i n : ℕ) → Distinct (changes_at g old new i n)
distinct_kind g old new i zero = tt
distinct_kind g old new i (suc n) =
    elim (either (is_wanted g (get_or old i []) (get_or new i []))) [
      | inl e ↦ subst Distinct (sym (take_it g old new i n e)) (no_slot_below g old new i (i + 1) n (omega arith), distinct_kind g old new (i + 1) n)
      | inr e ↦ subst Distinct (sym (leave_it g old new i n e)) (distinct_kind g old new (i + 1) n)
    ]

not_later : (x y : List ℕ) → is_wanted false x y ≡ true → is_wanted true x y ≡ false
not_later x y w =
    elim (fate x y) [
      | inl f ↦ f.later
      | inr (inl f) ↦ f.later
      | inr (inr f) ↦ let t : true ≡ false = sym w ∙ f.first in cc
    ]

lacks_kind : (old new : Slots) (i n k m : ℕ) → EachLacks (changes_at false old new i n) (changes_at true old new k m)
lacks_kind old new i zero k m = tt
lacks_kind old new i (suc n) k m =
    elim (either (is_wanted false (get_or old i []) (get_or new i []))) [
      | inl e ↦ subst (λ cs. EachLacks cs (changes_at true old new k m)) (sym (take_it false old new i n e)) (no_slot_unwanted true old new i k m (not_later (get_or old i []) (get_or new i []) e), lacks_kind old new (i + 1) n k m)
      | inr e ↦ subst (λ cs. EachLacks cs (changes_at true old new k m)) (sym (leave_it false old new i n e)) (lacks_kind old new (i + 1) n k m)
    ]

distinct_page : (old new : Slots) → Distinct (page_changes old new)
distinct_page old new =
    distinct_append (changes_at false old new 0 (length old + length new)) (changes_at true old new 0 (length old + length new)) (distinct_kind false old new 0 (length old + length new)) (distinct_kind true old new 0 (length old + length new))
    (lacks_kind old new 0 (length old + length new) 0 (length old + length new))

slot_other : (spot : Spot) (i : ℕ) (cs : List (ℕ × List ℕ)) (j : ℕ) (d : Edit) → NoSlot i cs → j < length (map (edit_at spot) cs) → i ≢ (get_or (map (edit_at spot) cs) j d).slot
slot_other spot i [] j d a h = absurd (omega arith)
slot_other spot i (c ∷ cs) zero d a h = λ e. a.0 (sym e)
slot_other spot i (c ∷ cs) (suc j) d a h = slot_other spot i cs j d a.1 (omega arith)

distinct_edits : (spot : Spot) (cs : List (ℕ × List ℕ)) → Distinct cs → AllPairs (λ e f. e.slot ≢ f.slot) (map (edit_at spot) cs)
distinct_edits spot [] a i j d h l = absurd (omega arith)
distinct_edits spot (c ∷ cs) a i zero d h l = absurd (omega arith)
distinct_edits spot (c ∷ cs) a zero (suc j) d h l = slot_other spot c.0 cs j d a.0 (omega arith)
distinct_edits spot (c ∷ cs) a (suc i) (suc j) d h l = distinct_edits spot cs a.1 i j d (omega arith) (omega arith)

pub planned : (spot : Spot) (old new : Slots) → FitsPage old → FitsPage new → MakesPage spot old new (map (edit_at spot) (page_changes old new))
planned spot old new fo fn = record {
  are = all (page_changes old new);
  go = goes old (page_changes old new) fo.small (page_goes old new fo.small fn.small fo.last);
  made = after old (page_changes old new) ∙ page_made old new fo.last fn.last;
  once = distinct_edits spot (page_changes old new) (distinct_page old new);
}
  where
    all : (cs : List (ℕ × List ℕ)) → ArePlain spot (map (edit_at spot) cs)
    all [] = tt
    all (c ∷ cs) = ((refl, refl, refl), all cs)

    goes : (s : Slots) (cs : List (ℕ × List ℕ)) → used s ≤ 8192 → PageGoes s cs → PageGo s (map (edit_at spot) cs)
    goes s [] small g = tt
    goes s (c ∷ cs) small g =
        let f = edit_fits s c.0 c.1 small g.0 g.1 in
        (record { index = f.0; short = f.1; room = g.0; changes = g.1 }, goes (edited s c.0 c.1) cs g.0 g.2)

    after : (s : Slots) (cs : List (ℕ × List ℕ)) → made_of s (map (edit_at spot) cs) ≡ page_after s cs
    after s [] = refl
    after s (c ∷ cs) = after (edited s c.0 c.1) cs

pub map_more : (spot : Spot) (xs ys : List (ℕ × List ℕ)) → map (edit_at spot) (xs ++ ys) ≡ map (edit_at spot) xs ++ map (edit_at spot) ys
map_more spot [] ys = refl
map_more spot (x ∷ xs) ys = ap (λ es. edit_at spot x ∷ es) (map_more spot xs ys)

-- the edits of one kind so far, behind others
pub record Adds (spot : Spot) (g : Bool) (old new : Slots) (i count : ℕ) (first edits : List Edit) : Type 0 where
  pub more : List (ℕ × List ℕ)
  pub are : edits ≡ first ++ map (edit_at spot) more
  pub so_far : EditsSoFar g old new i count [] more

pub adds_begin : (spot : Spot) (g : Bool) (old new : Slots) (count : ℕ) (first : List Edit) → Adds spot g old new 0 count first first
adds_begin spot g old new count first = record { more = []; are = sym (append-nil first); so_far = edits_begin g old new count [] }

pub adds_take : (spot : Spot) (g : Bool) (old new : Slots) (i count : ℕ) (first edits after : List Edit) (e : Edit) (x y : List ℕ) → Adds spot g old new i count first edits → i < count → x ≡ get_or old i [] → y ≡ get_or new i [] → is_wanted g x y ≡ true
    → e ≡ edit_at spot (i, y) → after ≡ edits ++ e ∷ [] → Adds spot g old new (i + 1) count first after
adds_take spot g old new i count first edits after e x y a lt is_x is_y w is_e is_after =
    let c : ℕ × List ℕ = (i, get_or new i []) in
    let wanted : is_wanted g (get_or old i []) (get_or new i []) ≡ true = (λ j. is_wanted g (sym is_x j) (sym is_y j)) ∙ w in
    record {
      more = a.more ++ c ∷ [];
      are = is_after ∙ (λ j. a.are j ++ is_e j ∷ []) ∙ append_assoc first (map (edit_at spot) a.more) (edit_at spot (i, y) ∷ [])
          ∙ ap (λ es. first ++ es) (ap (λ b. map (edit_at spot) a.more ++ edit_at spot (i, b) ∷ []) is_y ∙ sym (map_more spot a.more (c ∷ [])));
      so_far = edits_take g old new i count [] a.more (a.more ++ c ∷ []) c a.so_far lt wanted refl refl;
    }

pub adds_leave : (spot : Spot) (g : Bool) (old new : Slots) (i count : ℕ) (first edits : List Edit) (x y : List ℕ) → Adds spot g old new i count first edits → i < count → x ≡ get_or old i [] → y ≡ get_or new i [] → is_wanted g x y ≡ false
    → Adds spot g old new (i + 1) count first edits
adds_leave spot g old new i count first edits x y a lt is_x is_y w =
    let unwanted : is_wanted g (get_or old i []) (get_or new i []) ≡ false = (λ j. is_wanted g (sym is_x j) (sym is_y j)) ∙ w in
    record { more = a.more; are = a.are; so_far = edits_leave g old new i count [] a.more a.so_far lt unwanted }

pub adds_end : (spot : Spot) (g : Bool) (old new : Slots) (i count : ℕ) (first edits : List Edit) → Adds spot g old new i count first edits → count ≤ i → edits ≡ first ++ map (edit_at spot) (changes_at g old new 0 count)
adds_end spot g old new i count first edits a past = a.are ∙ ap (λ cs. first ++ map (edit_at spot) cs) (edits_end g old new i count [] a.more a.so_far past)

-- both kinds
pub adds_page : (spot : Spot) (old new : Slots) (first mid last : List Edit) → FitsPage old → FitsPage new → mid ≡ first ++ map (edit_at spot) (changes_at false old new 0 (length old + length new))
    → last ≡ mid ++ map (edit_at spot) (changes_at true old new 0 (length old + length new)) → AddsPage spot old new first last
adds_page spot old new first mid last fo fn m l =
    let n : ℕ = length old + length new in
    record {
      edits = map (edit_at spot) (page_changes old new);
      are = l ∙ ap (λ es. es ++ map (edit_at spot) (changes_at true old new 0 n)) m ∙ append_assoc first (map (edit_at spot) (changes_at false old new 0 n)) (map (edit_at spot) (changes_at true old new 0 n))
          ∙ ap (λ es. first ++ es) (sym (map_more spot (changes_at false old new 0 n) (changes_at true old new 0 n)));
      make = planned spot old new fo fn;
    }

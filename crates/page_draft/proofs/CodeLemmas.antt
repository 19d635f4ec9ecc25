-- What the code finds out of drafted pages, slot by slot.
use Rattle.std.proofs.Common.{refl, ◌≡◌, ℕ, zero, suc, ◌+◌, ◌-◌, ◌*◌, ◌<◌, ◌≤◌, List, [], ◌∷◌, ◌++◌, length, get_or, drop, take, ap, sym, ◌∙◌, subst, arith, Bool, true, false, cond, nat_le, ◌&&◌, ◌==◌, append_assoc, append-nil}
use Rattle.std.specs.Prelude.{Option, None, Some, IfSome}
use Rattle.std.proofs.lemmas.Bool.{leb-true}
use Rattle.page_base.specs.declared.numbers.PageId.{PageId}
use Rattle.page_base.specs.Pages.{is_page}
use Rattle.page_fmt.specs.Seen.{Looked, look, place_of}
use Rattle.page_fmt.specs.Spelling.{FitsPage}
use Rattle.page_fmt.proofs.SeenLemmas.{look-place}
use Rattle.table_walk.specs.declared.plan.Edit.{Edit}
use Rattle.table_walk.specs.declared.plan.Spot.TheVariants.{Old}
use Rattle.page_draft.specs.declared.page.Cell.{Cell}
use Rattle.page_draft.specs.Drafts.{Drafted, extra, is_within, fits_in, is_full, ends_full, cell_at, is_due, edit_of, dues, old_of, page_edits, edits_in}
use Rattle.page_draft.specs.Made.{HaveRoom}
use Rattle.page_draft.specs.Reading.{read_slots, IsPlace}

pub none_long : {X : Type 0} (cs : List X) (b : Bool) → b ≡ (length cs == 0) → b ≡ false → 0 < length cs
none_long [] b e f = absurd (let t : true ≡ false = sym e ∙ f in cc)
none_long (c ∷ cs) b e f = omega arith

pub ends_last : (cs : List Cell) (c : Cell) → 0 < length cs → c ≡ get_or cs (length cs - 1) c → ends_full cs ≡ is_full c
ends_last [] c h e = absurd (omega arith)
ends_last (x ∷ []) c h e = ap is_full (sym e)
ends_last (x ∷ y ∷ cs) c h e =
    let n : length (x ∷ y ∷ cs) - 1 ≡ suc (length (y ∷ cs) - 1) = omega arith in
    ends_last (y ∷ cs) c (omega arith) (e ∙ ap (λ (k : ℕ). get_or (x ∷ y ∷ cs) k c) n)

fits_long : (left : ℕ) (cs : List Cell) → fits_in left cs ≡ true → 2 * length cs ≤ left
fits_long left [] e = omega arith
fits_long left (c ∷ cs) e = by (is_within c left) refl e (fits_long (left - extra c.names - length c.bytes) cs)
  where
    two : (o : Option ℕ) → 2 ≤ extra o
    two None = omega arith
    two (Some i) = omega arith

    front : (a b : Bool) → (a && b) ≡ true → a ≡ true
    front true b e = refl
    front false b e = e

    by : (b : Bool) → is_within c left ≡ b → cond b (fits_in (left - extra c.names - length c.bytes) cs) false ≡ true
        → (fits_in (left - extra c.names - length c.bytes) cs ≡ true → 2 * length cs ≤ left - extra c.names - length c.bytes) → 2 * length (c ∷ cs) ≤ left
    by true w f later = omega (arith, later f, two c.names, leb-true (extra c.names) left (front (nat_le (extra c.names) left) (nat_le (length c.bytes) (left - extra c.names)) w))
    by false w f later = absurd (let t : false ≡ true = f in cc)

pub few : (cs : List Cell) → fits_in 8096 cs ≡ true → length cs ≤ 4048
few cs e = omega (arith, fits_long 8096 cs e)

pub few_slots : (slots : List (List ℕ)) → FitsPage slots → length slots ≤ 4048
few_slots slots f = omega (arith, f.small)

-- ONE ROUND

-- so far these edits were put behind the first
abbrev pub RoundSoFar : Bool → Drafted → List (List ℕ) → ℕ → ℕ → List Edit → List Edit → Type 0
RoundSoFar g d old count i first edits = first ++ dues g d old 0 count ≡ edits ++ dues g d old i (count - i)

pub round_begin : (g : Bool) (d : Drafted) (old : List (List ℕ)) (count : ℕ) (first : List Edit) → RoundSoFar g d old count 0 first first
round_begin g d old count first = ap (λ (n : ℕ). first ++ dues g d old 0 n) (omega arith)

pub round_take : (g : Bool) (d : Drafted) (old : List (List ℕ)) (count i : ℕ) (first edits more : List Edit) (e : Edit) (x y : List ℕ) (names : Option ℕ) → RoundSoFar g d old count i first edits → i < count
    → x ≡ get_or old i [] → names ≡ (cell_at d.cells i).names → y ≡ (cell_at d.cells i).bytes → is_due g x names y ≡ true → e ≡ edit_of d i → more ≡ edits ++ e ∷ [] → RoundSoFar g d old count (i + 1) first more
round_take g d old count i first edits more e x y names s lt is_x is_n is_y due is are =
    let k : count - i ≡ suc (count - (i + 1)) = omega arith in
    let w : is_due g (get_or old i []) (cell_at d.cells i).names (cell_at d.cells i).bytes ≡ true = (λ j. is_due g (sym is_x j) (sym is_n j) (sym is_y j)) ∙ due in
    s ∙ ap (λ (n : ℕ). edits ++ dues g d old i n) k ∙ ap (λ (b : Bool). edits ++ cond b (edit_of d i ∷ dues g d old (i + 1) (count - (i + 1))) (dues g d old (i + 1) (count - (i + 1)))) w
    ∙ ap (λ (z : Edit). edits ++ z ∷ dues g d old (i + 1) (count - (i + 1))) (sym is) ∙ sym (append_assoc edits (e ∷ []) (dues g d old (i + 1) (count - (i + 1)))) ∙ ap (λ (es : List Edit). es ++ dues g d old (i + 1) (count - (i + 1))) (sym are)

pub round_leave : (g : Bool) (d : Drafted) (old : List (List ℕ)) (count i : ℕ) (first edits : List Edit) (x y : List ℕ) (names : Option ℕ) → RoundSoFar g d old count i first edits → i < count
    → x ≡ get_or old i [] → names ≡ (cell_at d.cells i).names → y ≡ (cell_at d.cells i).bytes → is_due g x names y ≡ false → RoundSoFar g d old count (i + 1) first edits
round_leave g d old count i first edits x y names s lt is_x is_n is_y due =
    let k : count - i ≡ suc (count - (i + 1)) = omega arith in
    let w : is_due g (get_or old i []) (cell_at d.cells i).names (cell_at d.cells i).bytes ≡ false = (λ j. is_due g (sym is_x j) (sym is_n j) (sym is_y j)) ∙ due in
    s ∙ ap (λ (n : ℕ). edits ++ dues g d old i n) k ∙ ap (λ (b : Bool). edits ++ cond b (edit_of d i ∷ dues g d old (i + 1) (count - (i + 1))) (dues g d old (i + 1) (count - (i + 1)))) w

pub round_end : (g : Bool) (d : Drafted) (old : List (List ℕ)) (count i : ℕ) (first edits : List Edit) → RoundSoFar g d old count i first edits → count ≤ i → edits ≡ first ++ dues g d old 0 count
round_end g d old count i first edits s le =
    let z : count - i ≡ 0 = omega arith in
    sym (append-nil edits) ∙ ap (λ (n : ℕ). edits ++ dues g d old i n) (sym z) ∙ sym s

-- WHERE A PAGE WAS READ

look_none : (seen : List Looked) (p : PageId) → length seen ≤ place_of seen p → look seen p ≡ []
look_none [] p h = refl
look_none (l ∷ ls) p h = by (is_page l.page p) h (look_none ls p)
  where
    by : (b : Bool) → length (l ∷ ls) ≤ cond {A = ℕ} b 0 (place_of ls p + 1) → (length ls ≤ place_of ls p → look ls p ≡ []) → cond b l.slots (look ls p) ≡ []
    by true k later = absurd (omega (arith, k))
    by false k later = later (omega (arith, k))

pub place_is : (seen : List Looked) (p : PageId) (o : Option ℕ) → IfSome o (λ i. i ≡ place_of seen p) → IfSome o (λ i. i < length seen) → (o ≡ None → place_of seen p ≡ length seen) → IsPlace seen (Old p) o
place_is seen p None is there none = record { there = there; slots = λ d. sym (look_none seen p (omega (arith, none refl))) }
place_is seen p (Some i) is there none = record {
  there = there;
  slots = λ d. let saw : place_of seen p < length seen = omega (arith, is, there) in ap (λ (n : ℕ). (get_or seen n d).slots) is ∙ sym (look-place seen p d saw);
}

pub rounds_of : (seen : List Looked) (page : Drafted) (o : Option ℕ) (first mid last : List Edit) → IsPlace seen page.spot o
    → ((d : Looked) → mid ≡ first ++ dues false page (read_slots seen o d) 0 (length (read_slots seen o d) + length page.cells)) → ((d : Looked) → last ≡ mid ++ dues true page (read_slots seen o d) 0 (length (read_slots seen o d) + length page.cells))
    → last ≡ first ++ page_edits page (old_of seen page.spot)
rounds_of seen page o first mid last at a b =
    let d : Looked = record { page = record { file = 0; page = 0 }; slots = [] } in
    b (record { page = record { file = 0; page = 0 }; slots = [] })
    ∙ ap (λ (es : List Edit). es ++ dues true page (read_slots seen o d) 0 (length (read_slots seen o d) + length page.cells)) (a d)
    ∙ append_assoc first (dues false page (read_slots seen o d) 0 (length (read_slots seen o d) + length page.cells)) (dues true page (read_slots seen o d) 0 (length (read_slots seen o d) + length page.cells))
    ∙ ap (λ (old : List (List ℕ)). first ++ page_edits page old) (at.slots d)

-- ALL PAGES

pub record PagesSoFar (seen : List Looked) (ds : List Drafted) (i : ℕ) (edits : List Edit) : Type 0 where
  pub are : edits_in seen ds ≡ edits ++ edits_in seen (drop i ds)
  pub room : HaveRoom seen (take i ds)

pub pages_begin : (seen : List Looked) (ds : List Drafted) → PagesSoFar seen ds 0 []
pages_begin seen ds = record { are = refl; room = tt }

room_more : (seen : List Looked) (ds : List Drafted) (i : ℕ) (d : Drafted) → HaveRoom seen (take i ds) → i < length ds → d ≡ get_or ds i d → (fits_in 8096 d.cells ≡ true) × (ends_full d.cells ≡ true) × FitsPage (old_of seen d.spot) → HaveRoom seen (take (i + 1) ds)
room_more seen ds i d h lt is f = let n : suc i ≡ i + 1 = omega arith in subst (λ (n : ℕ). HaveRoom seen (take n ds)) n (by ds i h lt is)
  where
    by : (ds : List Drafted) (i : ℕ) → HaveRoom seen (take i ds) → i < length ds → d ≡ get_or ds i d → HaveRoom seen (take (suc i) ds)
    by [] i h lt is = absurd (omega arith)
    by (e ∷ es) zero h lt is = (subst (λ (x : Drafted). (fits_in 8096 x.cells ≡ true) × (ends_full x.cells ≡ true) × FitsPage (old_of seen x.spot)) is f, tt)
    by (e ∷ es) (suc i) h lt is = (h.0, by es i h.1 (omega arith) is)

drop_more : (ds : List Drafted) (i : ℕ) (d : Drafted) → i < length ds → d ≡ get_or ds i d → drop i ds ≡ d ∷ drop (i + 1) ds
drop_more ds i d lt is = let n : suc i ≡ i + 1 = omega arith in by ds i lt is ∙ ap (λ (n : ℕ). d ∷ drop n ds) n
  where
    by : (ds : List Drafted) (i : ℕ) → i < length ds → d ≡ get_or ds i d → drop i ds ≡ d ∷ drop (suc i) ds
    by [] i lt is = absurd (omega arith)
    by (e ∷ es) zero lt is = ap (λ (x : Drafted). x ∷ es) (sym is)
    by (e ∷ es) (suc i) lt is = by es i (omega arith) is

pub pages_more : (seen : List Looked) (ds : List Drafted) (i : ℕ) (edits more : List Edit) (d : Drafted) → PagesSoFar seen ds i edits → i < length ds → d ≡ get_or ds i d → (fits_in 8096 d.cells ≡ true) × (ends_full d.cells ≡ true) × FitsPage (old_of seen d.spot)
    → more ≡ edits ++ page_edits d (old_of seen d.spot) → PagesSoFar seen ds (i + 1) more
pages_more seen ds i edits more d s lt is room are = record {
  are = s.are ∙ ap (λ (xs : List Drafted). edits ++ edits_in seen xs) (drop_more ds i d lt is) ∙ sym (append_assoc edits (page_edits d (old_of seen d.spot)) (edits_in seen (drop (i + 1) ds))) ∙ ap (λ (es : List Edit). es ++ edits_in seen (drop (i + 1) ds)) (sym are);
  room = room_more seen ds i d s.room lt is room;
}

pub pages_end : (seen : List Looked) (ds : List Drafted) (i : ℕ) (edits : List Edit) → PagesSoFar seen ds i edits → length ds ≤ i → (edits ≡ edits_in seen ds) × HaveRoom seen ds
pages_end seen ds i edits s le = (sym (s.are ∙ ap (λ (xs : List Drafted). edits ++ edits_in seen xs) (gone ds i le) ∙ append-nil edits), subst (HaveRoom seen) (all ds i le) s.room)
  where
    gone : (ds : List Drafted) (i : ℕ) → length ds ≤ i → drop i ds ≡ []
    gone [] zero le = refl
    gone [] (suc i) le = refl
    gone (e ∷ es) zero le = absurd (omega (arith, le))
    gone (e ∷ es) (suc i) le = gone es i (omega (arith, le))

    all : (ds : List Drafted) (i : ℕ) → length ds ≤ i → take i ds ≡ ds
    all [] zero le = refl
    all [] (suc i) le = refl
    all (e ∷ es) zero le = absurd (omega (arith, le))
    all (e ∷ es) (suc i) le = ap (λ (xs : List Drafted). e ∷ xs) (all es i (omega (arith, le)))

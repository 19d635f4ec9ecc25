-- Whether a page is due, as a test and as a fact.
use Rattle.std.proofs.Common.{◌≡◌, ◌≢◌, ◌<◌, ◌≤◌, ◌⊎◌, inl, inr, Bool, true, false, not, ◌&&◌, List, Some, None, refl, ap, sym, ◌∙◌, arith, subst}
use Rattle.std.proofs.lemmas.Bool.{cases_eq, cases_lt, and_parts, false≢true}
use Rattle.std.proofs.lemmas.List.{get_or_past}
use Rattle.page_base.specs.declared.numbers.PageId.{PageId}
use Rattle.page_base.specs.declared.numbers.SnapNo.{SnapNo}
use Rattle.sparse_set.specs.Sparse.{Sparse, is_copied}
use Rattle.snap_cat.specs.Catalog.{Catalog, no_snap, snap_at}
use Rattle.snap_cat.specs.declared.snapshot.SnapState.{SnapState}
use Rattle.snap_cat.specs.declared.snapshot.SnapState.TheVariants.{Making, Online, Suspect}
use Rattle.snap_pages.specs.Shown.{Shown, IsOpen, count, catalog, set_of, state_of}
use Rattle.snap_pages.specs.Dues.{IsDue, IsPushed, IsFirstDue, NoneNewDue, is_sound, is_due, next_due}
use Rattle.snap_pages.specs.Steps.{ChangesSet}
use Rattle.snap_pages.proofs.PlaceLemmas.{first_from_is, first_from_none}

-- a place that no snapshot has counts as suspect
pub suspect_past : (v : Shown) (s : SnapNo) → count v ≤ s.0 → state_of v s ≡ Suspect
suspect_past v s past = ap (λ x. x.state) (get_or_past (catalog v).snaps s.0 no_snap past)

sound_test : (x : SnapState) → is_sound x ≡ true → x ≢ Suspect
sound_test Making e = λ same. cc
sound_test Online e = λ same. cc
sound_test Suspect e = cc

test_sound : (x : SnapState) → x ≢ Suspect → is_sound x ≡ true
test_sound Making ne = refl
test_sound Online ne = refl
test_sound Suspect ne = absurd (ne refl)

not_true : (b : Bool) → not b ≡ true → b ≡ false
not_true true e = sym e
not_true false e = refl

pub due_is : (v : Shown) (p : PageId) (s : SnapNo) → is_due v p s ≡ true → IsDue v p s
due_is v p s e =
    let parts = and_parts (is_sound (state_of v s)) (not (is_copied (set_of v s) p)) e in
    record { sound = sound_test (state_of v s) parts.0; uncopied = not_true (is_copied (set_of v s) p) parts.1 }

pub is_due-due : (v : Shown) (p : PageId) (s : SnapNo) → IsDue v p s → is_due v p s ≡ true
is_due-due v p s due = ap (λ b. b && not (is_copied (set_of v s) p)) (test_sound (state_of v s) due.sound) ∙ ap not due.uncopied

not_due : (v : Shown) (p : PageId) (s : SnapNo) → is_due v p s ≡ false → ¬ IsDue v p s
not_due v p s fails due = false≢true (sym fails ∙ is_due-due v p s due)

-- a snapshot that isn't due is suspect or has the page
has_page : (v : Shown) (p : PageId) (s : SnapNo) → is_due v p s ≡ false → state_of v s ≢ Suspect → is_copied (set_of v s) p ≡ true
has_page v p s fails sound = by_mark (is_copied (set_of v s) p) refl
  where
    by_mark : (b : Bool) → is_copied (set_of v s) p ≡ b → b ≡ true
    by_mark true e = refl
    by_mark false e = absurd (not_due v p s fails (record { sound = sound; uncopied = e }))

-- the first that is due
pub next_is : (v : Shown) (p : PageId) (s : SnapNo) → IsOpen v s → is_due v p s ≡ true → ((k : SnapNo) → k.0 < s.0 → is_due v p k ≡ false) → Some s ≡ next_due v p
unfolding next_due
next_is v p s there due before = sym (first_from_is (is_due v p) 0 (count v) s (record { above = omega arith; below = omega arith; passes = due; before = λ k ge lt. before k lt }))

pub first_due : (v : Shown) (p : PageId) (s : SnapNo) → is_due v p s ≡ true → ((k : SnapNo) → k.0 < s.0 → is_due v p k ≡ false) → IsFirstDue v p s
first_due v p s due before = record { due = due_is v p s due; first = λ k lt. not_due v p k (before k lt) }

-- none is
pub next_none : (v : Shown) (p : PageId) → ((k : SnapNo) → k.0 < count v → is_due v p k ≡ false) → None ≡ next_due v p
unfolding next_due
next_none v p fails = sym (first_from_none (is_due v p) 0 (count v) (λ k ge lt. fails k (omega arith)))

pub pushed_all : (v : Shown) (p : PageId) → ((k : SnapNo) → k.0 < count v → is_due v p k ≡ false) → IsPushed v p
pushed_all v p fails s sound = elim (cases_lt s.0 (count v)) [
  | inl lt ↦ has_page v p s (fails s lt) sound
  | inr past ↦ absurd (sound (suspect_past v s past))
]

-- a set that changes, and names all that it named
pub none_new : (old new : Shown) (s : SnapNo) (q : PageId) → ChangesSet s old new → (is_copied (set_of new s) q ≡ false → is_copied (set_of old s) q ≡ false) → NoneNewDue old new q
none_new old new s q only lacks = record {
  each = λ k due. record {
    sound = subst (λ (c : Catalog). (snap_at c k).state ≢ Suspect) only.cat due.sound;
    uncopied = elim (same_place k) [
      | inl e ↦ subst (λ (j : SnapNo). is_copied (set_of new j) q ≡ false → is_copied (set_of old j) q ≡ false) e lacks due.uncopied
      | inr ne ↦ subst (λ (x : Sparse). is_copied x q ≡ false) (only.others k ne) due.uncopied
    ];
  };
}
  where
    same_place : (k : SnapNo) → (s ≡ k) ⊎ (k ≢ s)
    same_place k = elim (cases_eq k.0 s.0) [
      | inl e ↦ inl (λ i. record { 0 = sym e i })
      | inr ne ↦ inr (λ same. ne (ap (λ (j : SnapNo). j.0) same))
    ]

-- snapshots that keep their sparse files, and become suspect or stay what they are
pub none_new_stays : (old new : Shown) (q : PageId) → new.sets ≡ old.sets → ((k : SnapNo) → state_of new k ≢ Suspect → state_of old k ≢ Suspect) → NoneNewDue old new q
none_new_stays old new q sets sound = record {
  each = λ k due. record {
    sound = sound k due.sound;
    uncopied = subst (λ (x : List Sparse). is_copied (set_of (record old { sets = x }) k) q ≡ false) sets due.uncopied;
  };
}

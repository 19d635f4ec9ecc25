-- What keeps the views of snapshots.
use Rattle.std.proofs.Common.{get_or-set_same, get_or-set_other, ◌≡◌, ◌≢◌, ℕ, inl, inr, Bool, true, false, cond, IsTrue, List, length, get_or, refl, ap, sym, ◌∙◌, subst, Result}
use Rattle.std.proofs.Math.ListN.{set}
use Rattle.std.proofs.lemmas.Bool.{cases_eq, cases_lt}
use Rattle.std.proofs.lemmas.List.{get_or_past}
use Rattle.page_base.specs.declared.numbers.PageId.{PageId}
use Rattle.page_base.specs.declared.numbers.SnapNo.{SnapNo}
use Rattle.page_base.specs.Pages.{image_at, page_or, with_page, blank, set_at}
use Rattle.page_base.proofs.PagesLemmas.{page_or-with_page_other, cases_page, is_page-other}
use Rattle.early_pages.specs.declared.state.SnapState.TheVariants.{Suspect}
use Rattle.early_pages.specs.Sparse.{Sparse, is_copied, sparse_page, marked, IsEmptyMap, Copies, Reads}
use Rattle.early_pages.specs.Catalog.{Snap, Catalog, no_snap, snap_at, HasSnap, with_new, without, former, with_set}
use Rattle.early_pages.specs.Shown.{Shown, img, counts, catalog, IsOpen, set_of, state_of, with_catalog, IsWhole}
use Rattle.early_pages.specs.Views.{seen, view, IsKept, KeepsViews, CutsView, ClosesUp, IsPushed}
use Rattle.early_pages.proofs.CatalogLemmas.{older, newest, cases_new, snap_at-without, HasSnap-former}

true_not_false : true ≡ false → ⊥
true_not_false e = cc

-- ONE SNAPSHOT WITH ANOTHER SET, OR IN ANOTHER STATE

module _ (cat : Catalog) (s : SnapNo) (x : Snap) (has : HasSnap cat s) where
  here : (k : SnapNo) → k.0 ≡ s.0 → snap_at (record cat { snaps = set cat.snaps s.0 x }) k ≡ x
  here k e = ap (λ n. get_or (set cat.snaps s.0 x) n no_snap) e ∙ get_or-set_same cat.snaps s.0 x no_snap has

  elsewhere : (k : SnapNo) → k.0 ≢ s.0 → snap_at (record cat { snaps = set cat.snaps s.0 x }) k ≡ snap_at cat k
  elsewhere k ne = get_or-set_other cat.snaps s.0 k.0 x no_snap ne

-- what holds of the changed snapshot and of all others holds of each
each : (P : SnapNo → Snap → Type 0) (cat : Catalog) (s : SnapNo) (x : Snap) → HasSnap cat s → ((k : SnapNo) → snap_at cat k ≡ snap_at cat s → P k x) → ((k : SnapNo) → P k (snap_at cat k)) → (k : SnapNo) → P k (snap_at (record cat { snaps = set cat.snaps s.0 x }) k)
each P cat s x has at others k =
    elim (cases_eq k.0 s.0) [
      | inl e ↦ subst (P k) (sym (here cat s x has k e)) (at k (ap (λ n. get_or cat.snaps n no_snap) e))
      | inr ne ↦ subst (P k) (sym (elsewhere cat s x has k ne)) (others k)
    ]

-- one set changes, and shows the same where it tells
abbrev Keeps : Shown → SnapNo → Snap → Type 0
Keeps v k x = (x.state ≢ Suspect) → IsTrue x.set.files.tells → IsKept v k × (seen (img v) x.set ≡ view v k)

keeps_each : (v : Shown) (s : SnapNo) (x : Snap) → IsOpen v s → ((k : SnapNo) → snap_at v.cat k ≡ snap_at v.cat s → Keeps v k x) → KeepsViews v (with_catalog v (record v.cat { snaps = set v.cat.snaps s.0 x }))
keeps_each v s x has at =
    record { each = λ k kept. each (Keeps v) v.cat s x has at (λ j sound tells. (record { sound = sound; tells = tells }, refl)) k kept.sound kept.tells }

pub keeps_set : (v : Shown) (s : SnapNo) (new : Sparse) → IsOpen v s → new.files.tells ≡ (set_of v s).files.tells
    → (IsKept v s → (q : PageId) → seen (img v) new q ≡ seen (img v) (set_of v s) q) → KeepsViews v (with_catalog v (with_set v.cat s new))
keeps_set v s new has tells same =
    keeps_each v s (record (snap_at v.cat s) { set = new }) has (λ k e sound told.
    let told_old : IsTrue (set_of v s).files.tells = sym tells ∙ told in (
      record { sound = subst (λ (x : Snap). x.state ≢ Suspect) (sym e) sound; tells = subst (λ (x : Snap). IsTrue x.set.files.tells) (sym e) told_old },
      (λ i q. same (record { sound = sound; tells = told_old }) q i) ∙ ap (λ (x : Snap). seen (img v) x.set) (sym e),
    ))

-- A COPY, A MARK, A READ

-- a sparse page that no map names
copied_alike : (images : PageId → List ℕ) (old new : Sparse) (p : PageId) (left : List ℕ) → is_copied old p ≡ false → new.map ≡ old.map → new.files.content ≡ with_page old.files.content p left → (q : PageId) → seen images new q ≡ seen images old q
unfolding seen
copied_alike images old new p left lacks map_same content q =
    let alike : (b : Bool) → is_copied old q ≡ b → cond b (sparse_page new q) (images q) ≡ cond b (sparse_page old q) (images q) =
    elim [
      | true ↦ λ e.
          let ne : q ≢ p = λ same. true_not_false (sym e ∙ ap (is_copied old) same ∙ lacks) in
          ap (λ c. image_at c q) content ∙ page_or-with_page_other old.files.content p q left blank ne
      | false ↦ λ e. refl
    ] in
    ap (λ m. cond (page_or m q false) (sparse_page new q) (images q)) map_same ∙ alike (is_copied old q) refl

-- a page that was copied, and then marked
marked_alike : (images : PageId → List ℕ) (old : Sparse) (p : PageId) → is_copied (marked old p) p ≡ true → sparse_page old p ≡ images p → (q : PageId) → seen images (marked old p) q ≡ seen images old q
unfolding seen
marked_alike images old p now copied q =
    let either : (b : Bool) → cond b (sparse_page old p) (images p) ≡ sparse_page old p = elim [ true ↦ refl | false ↦ sym copied ] in
    elim (cases_page q p) [
      | inl e ↦ subst (λ r. cond (is_copied (marked old p) r) (sparse_page old r) (images r) ≡ cond (is_copied old r) (sparse_page old r) (images r)) (sym e)
          (ap (λ b. cond b (sparse_page old p) (images p)) now ∙ sym (either (is_copied old p)))
      | inr ne ↦ ap (λ b. cond b (sparse_page old q) (images q)) (page_or-with_page_other old.map p q true false ne)
    ]

read_alike : (images : PageId → List ℕ) (old new : Sparse) → new.map ≡ old.map → new.files.content ≡ old.files.content → (q : PageId) → seen images new q ≡ seen images old q
unfolding seen
read_alike images old new map_same content q i = cond (page_or (map_same i) q false) (image_at (content i) q) (images q)

-- a copied page, as its reader sees it
pub seen_copied : (images : PageId → List ℕ) (x : Sparse) (p : PageId) → is_copied x p ≡ true → sparse_page x p ≡ seen images x p
unfolding seen
seen_copied images x p e = ap (λ b. cond b (sparse_page x p) (images p)) (sym e)

pub copy_keeps : {T E : Type 0} (v : Shown) (s : SnapNo) (p : PageId) (bytes : List ℕ) (new : Sparse) (result : Result T E) → IsOpen v s → is_copied (set_of v s) p ≡ false → Copies p bytes (set_of v s) new result → KeepsViews v (with_catalog v (with_set v.cat s new))
copy_keeps v s p bytes new result has lacks c =
    keeps_set v s new has c.uses.tells (λ kept. let w = c.written kept.tells in copied_alike (img v) (set_of v s) new p w.left lacks c.uses.map w.is)

pub read_keeps : {T E : Type 0} (v : Shown) (s : SnapNo) (p : PageId) (into : List ℕ) (new : Sparse) (result : Result T E) → IsOpen v s → Reads p into (set_of v s) new result → KeepsViews v (with_catalog v (with_set v.cat s new))
read_keeps v s p into new result has r =
    keeps_set v s new has r.uses.tells (λ kept. read_alike (img v) (set_of v s) new r.uses.map (r.content kept.tells))

pub mark_keeps : (v : Shown) (s : SnapNo) (p : PageId) → IsOpen v s → is_copied (marked (set_of v s) p) p ≡ true → (IsKept v s → sparse_page (set_of v s) p ≡ img v p) → KeepsViews v (with_catalog v (with_set v.cat s (marked (set_of v s) p)))
mark_keeps v s p has now copied = keeps_set v s (marked (set_of v s) p) has refl (λ kept. marked_alike (img v) (set_of v s) p now (copied kept))

-- ANOTHER IMAGE

-- a page that every snapshot has
changed_alike : (images : PageId → List ℕ) (x : Sparse) (p : PageId) (new : List ℕ) → is_copied x p ≡ true → (q : PageId) → seen (set_at images p new) x q ≡ seen images x q
unfolding seen
changed_alike images x p new marked q =
    let alike : (b : Bool) → is_copied x q ≡ b → cond b (sparse_page x q) (set_at images p new q) ≡ cond b (sparse_page x q) (images q) =
    elim [
      | true ↦ λ e. refl
      | false ↦ λ e.
          let ne : q ≢ p = λ same. true_not_false (sym marked ∙ ap (is_copied x) (sym same) ∙ e) in
          ap (λ b. cond b new (images q)) (is_page-other p q ne)
    ] in
    alike (is_copied x q) refl

pub keeps_image : (old new : Shown) (p : PageId) (image : List ℕ) → IsPushed old p → img new ≡ set_at (img old) p image → catalog new ≡ catalog old → KeepsViews old new
keeps_image old new p image pushed images same =
    record {
      each = λ s kept.
          let sound : state_of old s ≢ Suspect = subst (λ (c : Catalog). (snap_at c s).state ≢ Suspect) same kept.sound in (
            record { sound = sound; tells = subst (λ (c : Catalog). IsTrue (snap_at c s).set.files.tells) same kept.tells },
            (λ i. seen (images i) (snap_at (same i) s).set) ∙ (λ i q. changed_alike (img old) (set_of old s) p image (pushed s sound) q i),
          );
    }

-- ONE SNAPSHOT MORE, AND ONE LESS

see_empty : (images : PageId → List ℕ) (x : Sparse) → IsEmptyMap x → seen images x ≡ images
unfolding seen
see_empty images x empty = λ i q. cond (empty q i) (sparse_page x q) (images q)

pub cut_views : (v : Shown) (name : List ℕ) (files : List (List ℕ)) (new : Sparse) → IsEmptyMap new → CutsView v (with_catalog v (with_new v.cat name files new))
cut_views v name files new empty s kept =
    elim (cases_lt s.0 (length (with_new v.cat name files new).snaps)) [
      | inl there ↦ elim (cases_new v.cat name files new s there) [
        | inl old ↦
            let is : snap_at (with_new v.cat name files new) s ≡ snap_at v.cat s = older v.cat name files new s old in
            inl (
              record { sound = subst (λ (x : Snap). x.state ≢ Suspect) is kept.sound; tells = subst (λ (x : Snap). IsTrue x.set.files.tells) is kept.tells },
              ap (λ (x : Snap). seen (img v) x.set) is,
            )
        | inr e ↦ inr (e, ap (λ (x : Snap). seen (img v) x.set) (newest v.cat name files new s e) ∙ see_empty (img v) new empty)
      ]
      | inr past ↦ absurd (kept.sound (ap (λ (x : Snap). x.state) (get_or_past (with_new v.cat name files new).snaps s.0 no_snap past)))
    ]

pub closes_up : (v : Shown) (gone : SnapNo) → IsOpen v gone → ClosesUp gone v (with_catalog v (without v.cat gone))
closes_up v gone has s kept =
    let is : snap_at (without v.cat gone) s ≡ snap_at v.cat (former gone s) = snap_at-without v.cat gone has s in (
      record { sound = subst (λ (x : Snap). x.state ≢ Suspect) is kept.sound; tells = subst (λ (x : Snap). IsTrue x.set.files.tells) is kept.tells },
      ap (λ (x : Snap). seen (img v) x.set) is,
      ap (λ (x : Snap). x.cut) is,
    )

-- THE FILES OF EACH SNAPSHOT ARE LIKE THE SOURCE'S

pub whole_without : (v : Shown) (gone : SnapNo) → IsWhole v → IsOpen v gone → IsWhole (with_catalog v (without v.cat gone))
whole_without v gone whole has = record { alike = λ k h. ap (λ (x : Snap). x.set.files.counts) (snap_at-without v.cat gone has k) ∙ whole.alike (former gone k) (HasSnap-former v.cat gone has k h) }

pub whole_image : (old new : Shown) → counts new ≡ counts old → catalog new ≡ catalog old → IsWhole old → IsWhole new
whole_image old new same_counts same whole =
    record { alike = λ k h. subst (λ (c : Catalog). (snap_at c k).set.files.counts ≡ counts new) (sym same) (whole.alike k (subst (λ (c : Catalog). HasSnap c k) same h) ∙ sym same_counts) }

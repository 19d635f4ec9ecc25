-- What a catalog is after a snapshot came, went, or changed.
use Rattle.std.proofs.Common.{◌≡◌, ℕ, ◌+◌, ◌<◌, ◌≤◌, ◌∷◌, ◌++◌, [], inl, inr, ◌⊎◌, cond, List, length, get_or, ap, sym, ◌∙◌, subst, arith}
use Rattle.std.proofs.Math.ListN.{length-append}
use Rattle.std.proofs.Math.Seq.{get_or-append_seam}
use Rattle.std.proofs.lemmas.Bool.{cases_lt, lt-ltb, le-ltb}
use Rattle.std.proofs.lemmas.List.{get_or_append_left}
use Rattle.std.proofs.lemmas.List.Edits.{length-remove, get_or-remove_below, get_or-remove_above}
use Rattle.page_base.specs.declared.numbers.SnapNo.{SnapNo}
use Rattle.rec_log.specs.Records.{WorkOf}
use Rattle.snap_cat.specs.declared.snapshot.SnapState.TheVariants.{Making}
use Rattle.snap_cat.specs.Catalog.{Snap, Catalog, no_snap, snap_at, HasSnap, IsCatalog, LacksName, with_new, without, former}

module _ (cat : Catalog) (s : Snap) (next : ℕ) where
  -- the catalog with a snapshot more at the end, and another next cut
  abbrev pub more : Catalog
  more = record { snaps = cat.snaps ++ s ∷ []; next_cut = next }

  pub older : (k : SnapNo) → HasSnap cat k → snap_at more k ≡ snap_at cat k
  older k lt = get_or_append_left cat.snaps _ no_snap k.0 lt

  pub newest : (k : SnapNo) → k.0 ≡ length cat.snaps → snap_at more k ≡ s
  newest k e = ap (λ n. get_or more.snaps n no_snap) e ∙ get_or-append_seam cat.snaps _ [] no_snap

  pub cases_new : (k : SnapNo) → HasSnap more k → HasSnap cat k ⊎ (k.0 ≡ length cat.snaps)
  cases_new k h =
      elim (cases_lt k.0 (length cat.snaps)) [
        | inl lt ↦ inl lt
        | inr ge ↦ inr (omega (arith, length-append cat.snaps (s ∷ [])))
      ]

  -- it is a catalog where the snapshot's name is new and its cut behind all others, before the next one
  pub catalog_more : IsCatalog cat → length cat.snaps < 8 → LacksName cat s.name → ((k : SnapNo) → HasSnap cat k → (snap_at cat k).cut < s.cut) → s.cut < next → cat.next_cut ≤ next → IsCatalog more
  catalog_more is few lacks above below further = record {
    few = omega (arith, length-append cat.snaps (s ∷ []));
    ordered = λ j k lt h. elim (cases_new k h) [
      | inl old ↦
          let ej : (snap_at more j).cut ≡ (snap_at cat j).cut = ap (λ (x : Snap). x.cut) (older j (omega arith)) in
          let ek : (snap_at more k).cut ≡ (snap_at cat k).cut = ap (λ (x : Snap). x.cut) (older k old) in
          let less : (snap_at cat j).cut < (snap_at cat k).cut = is.ordered j k lt old in
          subst (λ n. n < (snap_at more k).cut) (sym ej) (subst (λ n. (snap_at cat j).cut < n) (sym ek) less)
      | inr new ↦
          let ej : (snap_at more j).cut ≡ (snap_at cat j).cut = ap (λ (x : Snap). x.cut) (older j (omega arith)) in
          let ek : (snap_at more k).cut ≡ s.cut = ap (λ (x : Snap). x.cut) (newest k new) in
          let less : (snap_at cat j).cut < s.cut = above j (omega arith) in
          subst (λ n. n < (snap_at more k).cut) (sym ej) (subst (λ n. (snap_at cat j).cut < n) (sym ek) less)
    ];
    below = λ k h. elim (cases_new k h) [
      | inl old ↦
          let less : (snap_at cat k).cut < cat.next_cut = is.below k old in
          subst (λ n. n < next) (sym (ap (λ (x : Snap). x.cut) (older k old))) (omega (arith, less, further))
      | inr new ↦ subst (λ n. n < next) (sym (ap (λ (x : Snap). x.cut) (newest k new))) below
    ];
    apart = λ j k lt h. elim (cases_new k h) [
      | inl old ↦ λ same. is.apart j k lt old (sym (ap (λ (x : Snap). x.name) (older j (omega arith))) ∙ same ∙ ap (λ (x : Snap). x.name) (older k old))
      | inr new ↦ λ same. lacks j (omega arith) (sym (ap (λ (x : Snap). x.name) (older j (omega arith))) ∙ same ∙ ap (λ (x : Snap). x.name) (newest k new))
    ];
  }

-- a new snapshot has the next cut, and the next one is behind it
pub catalog_new : (cat : Catalog) (name : List ℕ) (files : List (List ℕ)) (owed : WorkOf) → IsCatalog cat → length cat.snaps < 8 → LacksName cat name → IsCatalog (with_new cat name files owed)
catalog_new cat name files owed is few lacks = catalog_more cat (record { name = name; files = files; cut = cat.next_cut; state = Making; owed = owed }) (cat.next_cut + 1) is few lacks is.below (omega arith) (omega arith)

-- where a snapshot stood before another was taken out
pub data Former (gone k : SnapNo) : Type 0 where
  Before : (lt : k.0 < gone.0) → (is : (former gone k).0 ≡ k.0) → Former gone k
  Behind : (ge : gone.0 ≤ k.0) → (is : (former gone k).0 ≡ k.0 + 1) → Former gone k

pub former_of : (gone k : SnapNo) → Former gone k
former_of gone k =
    elim (cases_lt k.0 gone.0) [
      | inl lt ↦ Before lt (ap (λ b. cond b k.0 (k.0 + 1)) (lt-ltb k.0 gone.0 lt))
      | inr ge ↦ Behind ge (ap (λ b. cond b k.0 (k.0 + 1)) (le-ltb k.0 gone.0 ge))
    ]

module _ (cat : Catalog) (s : SnapNo) (there : HasSnap cat s) where
  pub snap_at-without : (k : SnapNo) → snap_at (without cat s) k ≡ snap_at cat (former s k)
  snap_at-without k =
      elim (former_of s k) [
        | Before lt is ↦ get_or-remove_below cat.snaps s.0 no_snap k.0 lt there ∙ ap (λ n. get_or cat.snaps n no_snap) (sym is)
        | Behind ge is ↦ get_or-remove_above cat.snaps s.0 no_snap k.0 ge there ∙ ap (λ n. get_or cat.snaps n no_snap) (sym is)
      ]

  pub HasSnap-former : (k : SnapNo) → HasSnap (without cat s) k → HasSnap cat (former s k)
  HasSnap-former k h =
      let len = length-remove cat.snaps s.0 there in
      elim (former_of s k) [
        | Before lt is ↦ omega arith
        | Behind ge is ↦ omega arith
      ]

  former_rises : (j k : SnapNo) → j.0 < k.0 → (former s j).0 < (former s k).0
  former_rises j k lt =
      elim (former_of s j) [
        | Before lt1 is1 ↦ elim (former_of s k) [
          | Before lt2 is2 ↦ omega arith
          | Behind ge2 is2 ↦ omega arith
        ]
        | Behind ge1 is1 ↦ elim (former_of s k) [
          | Before lt2 is2 ↦ absurd (omega arith)
          | Behind ge2 is2 ↦ omega arith
        ]
      ]

  pub catalog_without : IsCatalog cat → IsCatalog (without cat s)
  catalog_without is = record {
    few = let len = length-remove cat.snaps s.0 there in let few : length cat.snaps ≤ 8 = is.few in omega arith;
    ordered = λ j k lt h.
        subst (λ (x : Snap). x.cut < (snap_at (without cat s) k).cut) (sym (snap_at-without j))
        (subst (λ (x : Snap). (snap_at cat (former s j)).cut < x.cut) (sym (snap_at-without k)) (is.ordered (former s j) (former s k) (former_rises j k lt) (HasSnap-former k h)));
    below = λ k h. subst (λ (x : Snap). x.cut < cat.next_cut) (sym (snap_at-without k)) (is.below (former s k) (HasSnap-former k h));
    apart = λ j k lt h same. is.apart (former s j) (former s k) (former_rises j k lt) (HasSnap-former k h) (sym (ap (λ (x : Snap). x.name) (snap_at-without j)) ∙ same ∙ ap (λ (x : Snap). x.name) (snap_at-without k));
  }

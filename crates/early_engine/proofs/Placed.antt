-- What the plain machine says of a database's name, by where the catalog finds it.
use Rattle.std.proofs.Common.{◌≡◌, ◌≢◌, ◌<◌, inl, inr, ℕ, Bool, true, false, ◌&&◌, ◌||◌, List, [], ◌∷◌, length, map, get_or, refl, ap, sym, ◌∙◌, arith}
use Rattle.std.specs.Prelude.{is_some}
use Rattle.std.specs.List.{find, list_any}
use Rattle.std.specs.Str.{bytes_eq}
use Rattle.std.proofs.lemmas.Bool.{cases_eq, cases_lt}
use Rattle.std.proofs.lemmas.List.{get_or-map, length-map}
use Rattle.std.proofs.lemmas.List.Folds.{list_any_none, list_any_at}
use Rattle.page_base.specs.declared.numbers.SnapNo.{SnapNo}
use Rattle.plain_model.specs.State as plain
use Rattle.plain_model.specs.State.{Plain, is_snap, is_suspect}
use Rattle.early_pages.specs.Catalog.{Catalog, no_snap, snap_at, IsCatalog, LacksName, IsNamed}
use Rattle.early_engine.specs.Pushing as pushing
use Rattle.early_engine.specs.Pushing.{plainly}
use Rattle.early_engine.proofs.PushLemmas.{bytes_same, bytes_ne, is_some_found}

neither : (a b : Bool) → (a || b) ≡ false → (a ≡ false) × (b ≡ false)
neither true b e = cc
neither false b e = (refl, e)

find_none : {A : Type 0} → (p : A → Bool) (xs : List A) → list_any p xs ≡ false → is_some (find p xs) ≡ false
find_none p [] h = refl
find_none p (x ∷ xs) h = let n = neither (p x) (list_any p xs) h in let e = n.0 in rw e (find_none p xs n.1)

module _ (cat : Catalog) (name : List ℕ) where
  abbrev pub snaps : List plain.Snap
  snaps = map plainly cat.snaps

  -- no snapshot has the name
  unnamed : LacksName cat name → list_any (λ s. bytes_eq s.name name) snaps ≡ false
  unnamed lacks = list_any_none (λ s. bytes_eq s.name name) snaps (λ j d l.
      let lt : j < length cat.snaps = simp length-map at l in
      rw (get_or-map plainly cat.snaps j no_snap d lt) (bytes_ne (get_or cat.snaps j no_snap).name name (lacks (record { 0 = j }) lt)))

  pub lacks_snap : LacksName cat name → (st : Plain) → st.snaps ≡ snaps → is_snap st name ≡ false
  lacks_snap lacks st is = ap (λ ss. is_some (find (λ s. bytes_eq s.name name) ss)) is ∙ find_none (λ s. bytes_eq s.name name) snaps (unnamed lacks)

  pub lacks_lost : LacksName cat name → (st : Plain) → st.snaps ≡ snaps → is_suspect st name ≡ false
  lacks_lost lacks st is = ap (list_any (λ s. bytes_eq s.name name && s.suspect)) is ∙ list_any_none (λ s. bytes_eq s.name name && s.suspect) snaps (λ j d l.
      let lt : j < length cat.snaps = simp length-map at l in
      rw (get_or-map plainly cat.snaps j no_snap d lt, bytes_ne (get_or cat.snaps j no_snap).name name (lacks (record { 0 = j }) lt)) refl)

  module _ (wf : IsCatalog cat) (s : SnapNo) (named : IsNamed cat name s) where
    at_place : (d : plain.Snap) → get_or snaps s.0 d ≡ plainly (snap_at cat s)
    at_place d = get_or-map plainly cat.snaps s.0 no_snap d named.there

    in_list : s.0 < length snaps
    in_list = simp length-map named.there

    pub has_snap : (st : Plain) → st.snaps ≡ snaps → is_snap st name ≡ true
    has_snap st is = ap (λ ss. is_some (find (λ s. bytes_eq s.name name) ss)) is
        ∙ is_some_found (λ s. bytes_eq s.name name) snaps s.0 (plainly no_snap) in_list (rw (at_place (plainly no_snap), named.named) (bytes_same name))

    other : (j : ℕ) → j < length cat.snaps → j ≢ s.0 → bytes_eq (get_or cat.snaps j no_snap).name name ≡ false
    other j lt ne = bytes_ne (get_or cat.snaps j no_snap).name name (λ same. elim (cases_lt j s.0) [
      | inl less ↦ wf.apart (record { 0 = j }) s less named.there (same ∙ sym named.named)
      | inr more ↦ wf.apart s (record { 0 = j }) (omega (arith, more, ne)) lt (named.named ∙ sym same)
    ])

    lost_by : (b : Bool) → pushing.is_suspect (snap_at cat s).state ≡ b → list_any (λ s. bytes_eq s.name name && s.suspect) snaps ≡ b
    lost_by true e = list_any_at (λ s. bytes_eq s.name name && s.suspect) snaps s.0 (plainly no_snap) in_list (rw (at_place (plainly no_snap), named.named, bytes_same name) e)
    lost_by false e = list_any_none (λ s. bytes_eq s.name name && s.suspect) snaps (λ j d l.
        let lt : j < length cat.snaps = simp length-map at l in
        elim (cases_eq j s.0) [
          | inl same ↦ ap (λ n. bytes_eq (get_or snaps n d).name name && (get_or snaps n d).suspect) same ∙ (rw (at_place d, named.named, bytes_same name) e)
          | inr ne ↦ rw (get_or-map plainly cat.snaps j no_snap d lt, other j lt ne) refl
        ])

    pub has_state : (st : Plain) → st.snaps ≡ snaps → is_suspect st name ≡ pushing.is_suspect (snap_at cat s).state
    has_state st is = ap (list_any (λ s. bytes_eq s.name name && s.suspect)) is ∙ lost_by (pushing.is_suspect (snap_at cat s).state) refl

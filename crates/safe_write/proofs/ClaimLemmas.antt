-- Pages that were claimed are owned, and a free page isn't one of them.
use Rattle.std.proofs.Common.{◌≡◌, ◌≢◌, ℕ, zero, suc, ◌+◌, ◌<◌, false, ◌==◌, ◌&&◌, List, [], ◌∷◌, length, drop, refl, ap, sym, ◌∙◌, inl, inr, arith}
use Rattle.std.specs.Prelude.{slice_index_or}
use Rattle.std.specs.List.{AllByRecursion}
use Rattle.std.proofs.lemmas.Bool.{cases_Bool, and_parts, eqb-true, or_cases}
use Rattle.page_base.specs.declared.numbers.PageId.{PageId}
use Rattle.page_base.specs.Pages.{is_page}
use Rattle.page_base.specs.Slots.{Slots}
use Rattle.page_base.proofs.PagesLemmas.{is_page-true}
use Rattle.alloc_pages.specs.Owners.{owner_in, page_owner}
use Rattle.alloc_pages.specs.Spots.{spot_of}
use Rattle.alloc_pages.proofs.OwnerLemmas.{owner_in-owner_bytes, spots_apart}
use Rattle.rec_log.specs.Records.{Record}
use Rattle.rec_log.specs.Undone.{undone}
use Rattle.open_tables.specs.Names.{names}
use Rattle.open_commits.proofs.WithinLemmas.{differ, unnamed}
use Rattle.step_state.specs.Posed.{AreClaimsOf}
use Rattle.step_state.specs.Told.{GoBack, DifferAll}

-- no record of claims names the spot of a page that isn't claimed
pub unclaimed : (rs : List Record) (owners : List ℕ) (taken : List PageId) (p : PageId) → AreClaimsOf rs owners taken → ((i : ℕ) (d : PageId) → i < length taken → slice_index_or taken i d ≢ p) → names rs (spot_of p).page (spot_of p).slot ≡ false
unclaimed [] owners taken p a other = refl
unclaimed (r ∷ rs) owners [] p a other = absurd a
unclaimed (r ∷ rs) [] (q ∷ taken) p a other = absurd a
unclaimed (r ∷ rs) (n ∷ ns) (q ∷ taken) p a other = elim (cases_Bool (names (r ∷ rs) (spot_of p).page (spot_of p).slot)) [
  | inr f ↦ f
  | inl t ↦ elim (or_cases (is_page r.page (spot_of p).page && r.slot == (spot_of p).slot) (names rs (spot_of p).page (spot_of p).slot) t) [
    | inr later ↦ differ (names rs (spot_of p).page (spot_of p).slot) later (unclaimed rs ns taken p a.1 (λ i d lt. other (suc i) d (omega (arith, lt))))
    | inl here ↦
        let f = and_parts (is_page r.page (spot_of p).page) (r.slot == (spot_of p).slot) here in
        absurd (spots_apart q p (other 0 q (omega arith)) (sym a.0.page ∙ is_page-true r.page (spot_of p).page f.0) (sym a.0.slot ∙ eqb-true r.slot (spot_of p).slot f.1))
  ]
]

-- a page that was claimed has its owner
pub claimed_is_owned : (rs : List Record) (owners : List ℕ) (taken : List PageId) (s : Slots) → AreClaimsOf rs owners taken → AllByRecursion (λ (number : ℕ). number + 1 < 4294967295) owners → DifferAll taken → GoBack rs s → (i : ℕ) (d : PageId) → i < length taken → page_owner s (slice_index_or taken i d) ≢ 0
claimed_is_owned [] owners [] s a small apart go i d lt = absurd (omega (arith, lt))
claimed_is_owned [] owners (q ∷ taken) s a small apart go i d lt = absurd a
claimed_is_owned (r ∷ rs) owners [] s a small apart go i d lt = absurd a
claimed_is_owned (r ∷ rs) [] (q ∷ taken) s a small apart go i d lt = absurd a
claimed_is_owned (r ∷ rs) (n ∷ ns) (q ∷ taken) s a small apart go zero d lt = λ free.
    let others : names rs (spot_of q).page (spot_of q).slot ≡ false = unclaimed rs ns taken q a.1 (λ i e l same. apart 0 (suc i) e (omega arith) (omega (arith, l)) (sym same)) in
    let stays : undone rs s (spot_of q).page (spot_of q).slot ≡ s (spot_of q).page (spot_of q).slot = unnamed rs s (spot_of q).page (spot_of q).slot others in
    let at : undone rs s (spot_of q).page (spot_of q).slot ≡ r.after = ap (λ (p : PageId). undone rs s p (spot_of q).slot) (sym a.0.page) ∙ ap (undone rs s r.page) (sym a.0.slot) ∙ go.1 in
    let owned : page_owner s q ≡ n + 1 = ap owner_in (sym stays ∙ at ∙ a.0.after) ∙ owner_in-owner_bytes (n + 1) (omega (arith, small.0)) in
    omega (arith, free, owned)
claimed_is_owned (r ∷ rs) (n ∷ ns) (q ∷ taken) s a small apart go (suc i) d lt = claimed_is_owned rs ns taken s a.1 small.1 (λ j m e less l. apart (suc j) (suc m) e (omega (arith, less)) (omega (arith, l))) go.0 i d (omega (arith, lt))

pub go_drop : (n : ℕ) (rs : List Record) (s : Slots) → GoBack rs s → GoBack (drop n rs) s
go_drop zero rs s g = g
go_drop (suc n) [] s g = g
go_drop (suc n) (r ∷ rs) s g = go_drop n rs s g.0

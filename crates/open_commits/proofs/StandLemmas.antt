-- Records of one session stand beside those of others.
use Rattle.std.proofs.Common.{◌≡◌, ◌≢◌, ℕ, ◌%◌, Bool, true, false, List, refl, ap, sym, ◌∙◌, inl, inr}
use Rattle.std.specs.Prelude.{◌⊎◌}
use Rattle.std.proofs.lemmas.Bool.{cases_Bool}
use Rattle.page_base.specs.declared.numbers.PageId.{PageId}
use Rattle.page_base.specs.Slots.{Slots}
use Rattle.alloc_pages.specs.Owners.{owner_in, page_owner}
use Rattle.alloc_pages.specs.Spots.{spot_of}
use Rattle.rec_log.specs.Records.{Record}
use Rattle.rec_log.specs.Undone.{undone}
use Rattle.page_tables.proofs.MineLemmas.{every_spot}
use Rattle.open_tables.specs.Names.{names, AreClaims}
use Rattle.open_tables.proofs.BackLemmas.{back_one}
use Rattle.open_commits.specs.Within.{LieWithin, AreApart}
use Rattle.open_commits.proofs.WithinLemmas.{differ, unnamed}

-- an owner that the session writes once others' records are taken back is the page's now
pub written_now : (writes : ℕ → Bool) (s : Slots) (others : List Record) (q : PageId) → writes 0 ≡ false → AreClaims others → writes (page_owner (undone others s) q) ≡ true → writes (page_owner s q) ≡ true
written_now writes s others q none c e = elim (back_one writes others s q c) [
  | inl same ↦ ap writes (sym same) ∙ e
  | inr free ↦ differ (writes 0) (ap writes (sym free) ∙ e) none
]

pub stand_beside : (writes : ℕ → Bool) (s : Slots) (others records : List Record) → writes 0 ≡ false → AreClaims others → LieWithin writes (undone others s) records → LieWithin writes s records
stand_beside writes s others records none c l = record {
  claims = l.claims;
  claimed = λ q t. written_now writes s others q none c (l.claimed q t);
  edits = λ p i t. elim (l.edits p i t) [
    | inl w ↦ inl (w.0, written_now writes s others p none c w.1)
    | inr q ↦ inr q
  ];
}

module _ (mine theirs : ℕ → Bool) (s : Slots) (is_apart : AreApart mine theirs) (records others : List Record) (own : LieWithin mine s records) (their : LieWithin theirs s others) where
  -- they name no slot of a page of another's
  pub not_named : (q : PageId) → theirs (page_owner s q) ≡ true → names records (spot_of q).page (spot_of q).slot ≡ false
  not_named q w = elim (cases_Bool (names records (spot_of q).page (spot_of q).slot)) [
    | inr f ↦ f
    | inl t ↦ differ (theirs (page_owner s q)) w (is_apart.apart (page_owner s q) (own.claimed q t))
  ]

  -- and no slot that others name
  pub names_part : (p : PageId) (i : ℕ) → names others p i ≡ true → names records p i ≡ false
  names_part p i t = elim (cases_Bool (names records p i)) [
    | inr f ↦ f
    | inl u ↦ both u (own.edits p i u) (their.edits p i t)
  ]
    where
      both : names records p i ≡ true → ((p.page % 1280 ≢ 0) × (mine (page_owner s p) ≡ true)) ⊎ ((q : PageId) × ((spot_of q).page ≡ p) × ((spot_of q).slot ≡ i)) → ((p.page % 1280 ≢ 0) × (theirs (page_owner s p) ≡ true)) ⊎ ((q : PageId) × ((spot_of q).page ≡ p) × ((spot_of q).slot ≡ i)) → names records p i ≡ false
      both u (inl a) (inl b) = differ (theirs (page_owner s p)) b.1 (is_apart.apart (page_owner s p) a.1)
      both u (inl a) (inr q) = absurd (a.0 (ap (λ (r : PageId). r.page % 1280) (sym q.1) ∙ every_spot q.0))
      both u (inr q) b =
          let named : names others (spot_of q.0).page (spot_of q.0).slot ≡ true = ap (λ (r : PageId). names others r (spot_of q.0).slot) q.1 ∙ ap (names others p) q.2 ∙ t in
          let f : names records (spot_of q.0).page (spot_of q.0).slot ≡ false = not_named q.0 (their.claimed q.0 named) in
          sym (ap (λ (r : PageId). names records r (spot_of q.0).slot) q.1 ∙ ap (names records p) q.2) ∙ f

  owner_kept : (q : PageId) → theirs (page_owner s q) ≡ true → page_owner (undone records s) q ≡ page_owner s q
  owner_kept q w = ap owner_in (unnamed records s (spot_of q).page (spot_of q).slot (not_named q w))

  -- others' records lie where they lay, once these are taken back
  pub stand_without : LieWithin theirs (undone records s) others
  stand_without = record {
    claims = their.claims;
    claimed = λ q t. ap theirs (owner_kept q (their.claimed q t)) ∙ their.claimed q t;
    edits = λ p i t. elim (their.edits p i t) [
      | inl w ↦ inl (w.0, ap theirs (owner_kept p w.1) ∙ w.1)
      | inr q ↦ inr q
    ];
  }

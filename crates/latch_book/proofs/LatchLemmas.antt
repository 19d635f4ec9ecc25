-- Who holds what after a latch is taken or released, and that the book stays one.
use Rattle.std.proofs.Common.{◌≡◌, ◌≢◌, ◌⊎◌, inl, inr, true, refl, ap, sym, subst, ◌∙◌, arith, lit<, get_or-set_other, get_or-set_same}
use Rattle.std.specs.Prelude.{Option, None, Some, replicate}
use Rattle.std.proofs.lemmas.Bool.{cases_eq, cases_lt}
use Rattle.std.proofs.lemmas.List.{length-set, get_or-replicate, length-replicate, get_or_past}
use Rattle.page_base.specs.declared.numbers.PageId.{PageId}
use Rattle.page_base.specs.declared.numbers.SessNo.{SessNo}
use Rattle.latch_book.specs.declared.latch.Latch.{Latch}
use Rattle.latch_book.specs.declared.latch.LatchMode.{LatchMode}
use Rattle.latch_book.specs.declared.latch.LatchMode.TheVariants.{Sh, Ex}
use Rattle.latch_book.specs.Latches.{Latches, IsSession, IsLatchBook, IsFree, IsLowestInTheWay, Holds, latch_of, with_latch, without_latch, no_latches}
use Rattle.latch_book.specs.Modes.{conflicts}

-- two sessions are one or two
pub cases_session : (j k : SessNo) → (j ≡ k) ⊎ (j ≢ k)
cases_session j k =
    elim (cases_eq j.0 k.0) [
      | inl e ↦ inl (λ i. record { 0 = e i })
      | inr ne ↦ inr (λ same. ne (ap (λ (s : SessNo). s.0) same))
    ]

-- two numbers, two sessions
pub apart : (j k : SessNo) → j.0 ≢ k.0 → j ≢ k
apart j k ne same = ne (ap (λ (s : SessNo). s.0) same)

differ : (j k : SessNo) → j ≢ k → j.0 ≢ k.0
differ j k ne e = ne (λ i. record { 0 = e i })

abbrev pub some_latch : PageId → LatchMode → Option Latch
some_latch p mode = Some (record { page = p; mode = mode })

abbrev pub no_latch : Option Latch
no_latch = None

page_or : PageId → Option Latch → PageId
page_or p None = p
page_or p (Some latch) = latch.page

mode_or : LatchMode → Option Latch → LatchMode
mode_or mode None = mode
mode_or mode (Some latch) = latch.mode

same_latch : (p q : PageId) (a b : LatchMode) → some_latch p a ≡ some_latch q b → (p ≡ q) × (a ≡ b)
unfolding page_or mode_or
same_latch p q a b e = (ap (page_or p) e, ap (mode_or a) e)

pub none_or_some : (p : PageId) (mode : LatchMode) → no_latch ≡ some_latch p mode → ⊥
none_or_some p mode e = cc

-- in the empty book nobody holds a page
pub latch_of-no_latches : (k : SessNo) → latch_of no_latches k ≡ None
unfolding no_latches
latch_of-no_latches k =
    elim (cases_lt k.0 65) [
      | inl within ↦ get_or-replicate 65 k.0 no_latch None within
      | inr past ↦ get_or_past (replicate 65 no_latch) k.0 None (omega (arith, length-replicate 65 no_latch))
    ]

-- who has taken a latch holds it
pub Holds-with_latch : (latches : Latches) (who : SessNo) (p : PageId) (mode : LatchMode) → IsLatchBook latches → IsSession who → Holds (with_latch latches who p mode) who p mode
Holds-with_latch latches who p mode book there = get_or-set_same latches who.0 _ None (omega (arith, book.places, there.last))

-- what the others hold is as before
pub latch_of-with_latch : (latches : Latches) (who k : SessNo) (p : PageId) (mode : LatchMode) → k ≢ who → latch_of (with_latch latches who p mode) k ≡ latch_of latches k
latch_of-with_latch latches who k p mode ne = get_or-set_other latches who.0 k.0 _ None (differ k who ne)

-- who has released its latch holds nothing
pub latch_of-without_latch_same : (latches : Latches) (who : SessNo) → IsLatchBook latches → IsSession who → latch_of (without_latch latches who) who ≡ None
latch_of-without_latch_same latches who book there = get_or-set_same latches who.0 None None (omega (arith, book.places, there.last))

-- what the others hold is as before
pub latch_of-without_latch : (latches : Latches) (who k : SessNo) → k ≢ who → latch_of (without_latch latches who) k ≡ latch_of latches k
latch_of-without_latch latches who k ne = get_or-set_other latches who.0 k.0 None None (differ k who ne)

-- who holds a page in EX afterwards is alone, since nobody was in the way
module _ (latches : Latches) (who : SessNo) (p : PageId) (mode : LatchMode) (book : IsLatchBook latches) (there : IsSession who) (free : IsFree latches who p mode) where
  -- the one latch that was taken
  taken : (q : PageId) (held : LatchMode) → Holds (with_latch latches who p mode) who q held → (p ≡ q) × (mode ≡ held)
  taken q held h = same_latch p q mode held (sym (Holds-with_latch latches who p mode book there) ∙ h)

  before : (k : SessNo) (q : PageId) (held : LatchMode) → k ≢ who → Holds (with_latch latches who p mode) k q held → Holds latches k q held
  before k q held ne h = sym (latch_of-with_latch latches who k p mode ne) ∙ h

  first_conflicts : (held : LatchMode) → conflicts Ex held ≡ true
  first_conflicts Sh = refl
  first_conflicts Ex = refl

  second_conflicts : (held : LatchMode) → conflicts held Ex ≡ true
  second_conflicts Sh = refl
  second_conflicts Ex = refl

  alone : (j k : SessNo) (q : PageId) (held : LatchMode) → Holds (with_latch latches who p mode) j q Ex → Holds (with_latch latches who p mode) k q held → j ≡ k
  alone j k q held a b =
      elim (cases_session j who) [
        | inl is_j ↦ elim (cases_session k who) [
          | inl is_k ↦ is_j ∙ sym is_k
          | inr not_k ↦
              let own = taken q Ex (subst (λ (s : SessNo). Holds (with_latch latches who p mode) s q Ex) is_j a) in
              absurd (free k (record { other = not_k; held = held; holds = subst (λ (r : PageId). Holds latches k r held) (sym own.0) (before k q held not_k b); conflict = subst (λ (m : LatchMode). conflicts held m ≡ true) (sym own.1) (second_conflicts held) }))
        ]
        | inr not_j ↦ elim (cases_session k who) [
          | inl is_k ↦
              let own = taken q held (subst (λ (s : SessNo). Holds (with_latch latches who p mode) s q held) is_k b) in
              absurd (free j (record { other = not_j; held = Ex; holds = subst (λ (r : PageId). Holds latches j r Ex) (sym own.0) (before j q Ex not_j a); conflict = first_conflicts mode }))
          | inr not_k ↦ book.alone j k q held (before j q Ex not_j a) (before k q held not_k b)
        ]
      ]

  pub IsLatchBook-with_latch : IsLatchBook (with_latch latches who p mode)
  IsLatchBook-with_latch = record {
    places = length-set latches who.0 _ ∙ book.places;
    nobody = get_or-set_other latches who.0 0 _ None (omega (arith, there.first)) ∙ book.nobody;
    alone = alone;
  }

pub IsLatchBook-no_latches : IsLatchBook no_latches
unfolding no_latches
IsLatchBook-no_latches = record {
  places = length-replicate 65 no_latch;
  nobody = get_or-replicate 65 0 no_latch None (lit< tt);
  alone = λ j k p mode a b. absurd (none_or_some p Ex (sym (latch_of-no_latches j) ∙ a));
}

pub IsLatchBook-without_latch : (latches : Latches) (who : SessNo) → IsLatchBook latches → IsSession who → IsLatchBook (without_latch latches who)
IsLatchBook-without_latch latches who book there =
    record {
      places = length-set latches who.0 None ∙ book.places;
      nobody = get_or-set_other latches who.0 0 None None (omega (arith, there.first)) ∙ book.nobody;
      alone = λ j k p mode a b. book.alone j k p mode (before j p Ex a) (before k p mode b);
    }
  where
    before : (k : SessNo) (q : PageId) (held : LatchMode) → Holds (without_latch latches who) k q held → Holds latches k q held
    before k q held h = elim (cases_session k who) [
      | inl is ↦
          let gone : latch_of (without_latch latches who) k ≡ None = ap (latch_of (without_latch latches who)) is ∙ latch_of-without_latch_same latches who book there in
          absurd (none_or_some q held (sym gone ∙ h))
      | inr ne ↦ sym (latch_of-without_latch latches who k ne) ∙ h
    ]

-- there is one lowest session in the way
pub one_lowest : (latches : Latches) (who : SessNo) (p : PageId) (mode : LatchMode) (j k : SessNo) → IsLowestInTheWay latches who p mode j → IsLowestInTheWay latches who p mode k → j ≡ k
one_lowest latches who p mode j k a b =
    elim (cases_lt j.0 k.0) [
      | inl lt ↦ absurd (b.lowest j lt a.there)
      | inr le ↦ elim (cases_lt k.0 j.0) [
        | inl lt ↦ absurd (a.lowest k lt b.there)
        | inr ge ↦ let e : j.0 ≡ k.0 = omega arith in λ i. record { 0 = e i }
      ]
    ]

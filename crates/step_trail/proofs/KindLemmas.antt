-- Kinds are told apart by their numbers; what stands behind which.
use Rattle.std.proofs.Common.{◌≡◌, ◌⊎◌, inl, inr, ℕ, true, false, List, [], ◌∷◌, refl, ap, sym, ◌∙◌}
use Rattle.std.specs.Prelude.{Some, None, slice_get}
use Rattle.std.proofs.lemmas.Bool.{eqb-true}
use Rattle.plain_model.specs.declared.kind.Kind.{Kind}
use Rattle.plain_model.specs.declared.kind.Kind.TheVariants.{Start, Lock, Latch, Look, Fetch, Seek, Read, Plan, Pass, Copy, Mark, Claim, Change, Back, Heal, Cut, Gather, Swap, Commit, Say, Leave, Flush}
use Rattle.step_trail.specs.Kinds.{kind_number, is_kind, follows, follows_last}

all_kinds : List Kind
all_kinds = Start ∷ Lock ∷ Latch ∷ Look ∷ Fetch ∷ Seek ∷ Read ∷ Plan ∷ Pass ∷ Copy ∷ Mark ∷ Claim ∷ Change ∷ Back ∷ Heal ∷ Cut ∷ Gather ∷ Swap ∷ Commit ∷ Say ∷ Leave ∷ Flush ∷ []

kind_by_number : (a : Kind) → slice_get all_kinds (kind_number a) ≡ Some a
unfolding all_kinds
kind_by_number = elim [
  | Start ↦ refl
  | Lock ↦ refl
  | Latch ↦ refl
  | Look ↦ refl
  | Fetch ↦ refl
  | Seek ↦ refl
  | Read ↦ refl
  | Plan ↦ refl
  | Pass ↦ refl
  | Copy ↦ refl
  | Mark ↦ refl
  | Claim ↦ refl
  | Change ↦ refl
  | Back ↦ refl
  | Heal ↦ refl
  | Cut ↦ refl
  | Gather ↦ refl
  | Swap ↦ refl
  | Commit ↦ refl
  | Say ↦ refl
  | Leave ↦ refl
  | Flush ↦ refl
]

pub kinds_apart : (a b : Kind) → is_kind a b ≡ true → a ≡ b
kinds_apart a b e =
    let same : kind_number a ≡ kind_number b = eqb-true (kind_number a) (kind_number b) e in
    let both : Some a ≡ Some b = sym (kind_by_number a) ∙ ap (λ (n : ℕ). slice_get all_kinds n) same ∙ kind_by_number b in
    cc

pub behind_reply : (kind : Kind) → follows Say kind ≡ true → (kind ≡ Latch) ⊎ ((kind ≡ Start) ⊎ (kind ≡ Leave))
behind_reply Latch e = inl refl
behind_reply Start e = inr (inl refl)
behind_reply Leave e = inr (inr refl)
behind_reply kind e = absurd (cc)

pub none_behind_leave : (kind : Kind) → follows Leave kind ≡ false
none_behind_leave kind = refl

pub no_flush : (kind : Kind) → follows kind Flush ≡ false
no_flush = elim [
  | Start ↦ refl
  | other ↦ refl
]

pub first_kinds : (kind : Kind) → follows_last None kind ≡ true → (kind ≡ Start) ⊎ (kind ≡ Leave)
first_kinds Start e = inl refl
first_kinds Leave e = inr refl
first_kinds kind e = absurd (cc)

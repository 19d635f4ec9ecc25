-- Which session has no next step, and which one's next step takes a latch.
use Rattle.std.proofs.Common.{◌≡◌, ◌≢◌, ◌⊎◌, inl, inr, ◌↔◌, ℕ, zero, suc, Bool, true, false, List, [], length, get_or, refl, ap, sym, ◌∙◌, arith}
use Rattle.std.specs.Prelude.{◌==◌, Option, Some, None, is_some}
use Rattle.std.proofs.lemmas.Bool.{cases_Bool, cases_lt, eqb-true, eq-eqb}
use Rattle.std.proofs.lemmas.List.{get_or_default, get_or_past}
use Rattle.std.proofs.lemmas.List.Folds.{Any-from_list_any, list_any-from_Any}
use Rattle.page_base.specs.declared.numbers.PageId.{PageId}
use Rattle.alloc_pages.specs.Owners.{owner_at, owner_in}
use Rattle.alloc_pages.proofs.OwnerLemmas.{owner_in-empty}
use Rattle.page_fmt.specs.Content.{content}
use Rattle.latch_book.specs.Latches.{latch_of}
use Rattle.plain_model.specs.declared.kind.Kind.{Kind}
use Rattle.plain_model.specs.declared.kind.Kind.TheVariants as step
use Rattle.snap_pages.specs.Cuts.{marked_by, is_sound_by}
use Rattle.snap_pages.specs.Dues.{next_due}
use Rattle.snap_pages.specs.Shown.{Shown, img}
use Rattle.step_words.specs.declared.point.Point.{Point}
use Rattle.step_words.specs.declared.point.Point.TheVariants.{Start, Latch, Take, Claim, Change, Undo, Heal, Gone, Gather}
use Rattle.step_words.specs.Sittings.{stmt_at}
use Rattle.step_words.specs.Seats.{Seated, Grip, Free, Latched, Fetched, latch_at}
use Rattle.step_state.specs.Own.{is_gone}
use Rattle.step_state.specs.Posed.{FitsGrip}
use Rattle.step_state.specs.Safe.{Safe}
use Rattle.step_state.specs.State.{State, IsSession, sess, seat}
use Rattle.step_trail.specs.Counting.{ungathered}
use Rattle.step_trail.specs.Next.{once_pushed, has_free, kind_claiming, kind_undoing, healed, kind_healing, kind_making, kind_at, kind_of}

-- once a statement is left, or not
start_has_kind : (v : Shown) (x : Seated) → kind_at v x Start ≢ None
start_has_kind v x e = elim (cases_Bool (is_some (stmt_at x.sitting))) [
  | inl some ↦ (let h = rw some at e in cc)
  | inr none ↦ (let h = rw none at e in cc)
]

gather_has_kind : (v : Shown) (x : Seated) → kind_at v x Gather ≢ None
gather_has_kind v x e = elim (cases_Bool (ungathered v x.gathered == 0)) [
  | inl done ↦ (let h = rw done at e in cc)
  | inr more ↦ (let h = rw more at e in cc)
]

pub none_only_gone : (v : Shown) (x : Seated) (p : Point) → kind_at v x p ≡ None → is_gone p ≡ true
none_only_gone v x Start e = absurd (start_has_kind v x e)
none_only_gone v x (Take page true) e = absurd (cc)
none_only_gone v x (Take page false) e = absurd (cc)
none_only_gone v x Gather e = absurd (gather_has_kind v x e)
none_only_gone v x Gone e = refl
none_only_gone v x p e = absurd (cc)

pub gone_has_none : (v : Shown) (x : Seated) (p : Point) → is_gone p ≡ true → kind_at v x p ≡ None
gone_has_none v x Gone e = refl
gone_has_none v x p e = absurd (cc)

-- what is pushed and done takes no latch
pushed_no_latch : (v : Shown) (copied : Option ℕ) (p : PageId) (last : Kind) → last ≢ step.Latch → once_pushed v copied p last ≢ step.Latch
pushed_no_latch v (Some cut) p last ne e = cc
pushed_no_latch v None p last ne e = elim (cases_Bool (is_some (next_due v p))) [
  | inl some ↦ (let h = rw some at e in cc)
  | inr none ↦ ne (rw none at e)
]

claim_free : (v : Shown) (copied : Option ℕ) (hold : Grip) → kind_claiming v copied hold ≡ step.Latch → hold ≡ Free
claim_free v copied Free e = refl
claim_free v copied (Latched p mode) e = absurd (cc)
claim_free v copied (Fetched p mode) e = elim (cases_Bool (has_free (content (img v p)))) [
  | inl some ↦ absurd (pushed_no_latch v copied p step.Claim (λ (is : step.Claim ≡ step.Latch). cc) (rw some at e))
  | inr none ↦ (let h = rw none at e in absurd (cc))
]

undo_free : (v : Shown) (copied : Option ℕ) (hold : Grip) → kind_undoing v copied hold ≡ step.Latch → hold ≡ Free
undo_free v copied Free e = refl
undo_free v copied (Latched p mode) e = absurd (pushed_no_latch v copied p step.Back (λ (is : step.Back ≡ step.Latch). cc) e)
undo_free v copied (Fetched p mode) e = absurd (pushed_no_latch v copied p step.Back (λ (is : step.Back ≡ step.Latch). cc) e)

healed_no_latch : (copied : Option ℕ) (has : Bool) → healed copied has ≢ step.Latch
healed_no_latch (Some cut) has e = cc
healed_no_latch None true e = cc
healed_no_latch None false e = cc

heal_free : (v : Shown) (copied : Option ℕ) (cut : ℕ) (hold : Grip) → kind_healing v copied cut hold ≡ step.Latch → hold ≡ Free
heal_free v copied cut Free e = refl
heal_free v copied cut (Latched p mode) e = absurd (healed_no_latch copied (marked_by v cut p) e)
heal_free v copied cut (Fetched p mode) e = absurd (healed_no_latch copied (marked_by v cut p) e)

make_free : (v : Shown) (x : Seated) (making : Option ℕ) → kind_making v x making ≡ step.Latch → x.hold ≡ Free
make_free v x None e = absurd (cc)
make_free v x (Some cut) e = elim (cases_Bool (is_sound_by v cut)) [
  | inl sound ↦ heal_free v x.copied cut x.hold (rw sound at e)
  | inr not ↦ (let h = rw not at e in absurd (cc))
]

pub of_some : (a b : Kind) → Some a ≡ Some b → a ≡ b
of_some a b e = cc

pub latch_free : (v : Shown) (x : Seated) (p : Point) (found : Bool) → FitsGrip p found x.hold → kind_at v x p ≡ Some step.Latch → x.hold ≡ Free
latch_free v x Start found fits e = fits
latch_free v x (Latch page ex) found fits e = fits
latch_free v x (Take page true) found fits e = absurd (cc)
latch_free v x (Take page false) found fits e = absurd (cc)
latch_free v x (Claim owner) found fits e = claim_free v x.copied x.hold (of_some (kind_claiming v x.copied x.hold) step.Latch e)
latch_free v x (Change page) found fits e = absurd (pushed_no_latch v x.copied page step.Change (λ (is : step.Change ≡ step.Latch). cc) (of_some (once_pushed v x.copied page step.Change) step.Latch e))
latch_free v x (Undo all) found fits e = undo_free v x.copied x.hold (of_some (kind_undoing v x.copied x.hold) step.Latch e)
latch_free v x Heal found fits e = make_free v x x.making (of_some (kind_making v x x.making) step.Latch e)
latch_free v x Gather found fits e = fits
latch_free v x p found fits e = absurd (cc)

pub latch_holds_none : (e : State) (k : ℕ) → Safe e → IsSession e k → kind_of e k ≡ Some step.Latch → (seat e k).hold ≡ Free
latch_holds_none e zero safe is latch = absurd (let first = is.first in omega (arith, first))
latch_holds_none e (suc k) safe is latch =
    latch_free e.pages (seat e (suc k)) (seat e (suc k)).sitting.point (seat e (suc k)).sitting.found (safe.sessions (suc k) is).seated.posed.grip latch

pub none_is_gone : (e : State) (k : ℕ) → IsSession e k → kind_of e k ≡ None ↔ is_gone (seat e k).sitting.point ≡ true
none_is_gone e zero is = absurd (let first = is.first in omega (arith, first))
none_is_gone e (suc k) is = (none_only_gone e.pages (seat e (suc k)) (seat e (suc k)).sitting.point, gone_has_none e.pages (seat e (suc k)) (seat e (suc k)).sitting.point)

pub stays_has : (v : Shown) (x : Seated) (p : Point) → is_gone p ≡ false → is_some (kind_at v x p) ≡ true
stays_has v x p stays = go (kind_at v x p) refl
  where
    go : (k : Option Kind) → kind_at v x p ≡ k → is_some k ≡ true
    go None e = absurd (let gone = none_only_gone v x p e in cc)
    go (Some b) e = refl

-- where each session that hasn't left needs a latch next, no latch is held
pub none_held : (e : State) → Safe e → ((k : ℕ) → IsSession e k → (kind_of e k ≡ None) ⊎ (kind_of e k ≡ Some step.Latch)) → (k : ℕ) → IsSession e k → latch_of e.latches (sess k) ≡ None
none_held e safe waits k is = (safe.sessions k is).seated.latched ∙ ap latch_at (holds_none (waits k is))
  where
    gone_free : (p : Point) (found : Bool) (hold : Grip) → is_gone p ≡ true → FitsGrip p found hold → hold ≡ Free
    gone_free Gone found hold gone fits = fits
    gone_free p found hold gone fits = absurd (cc)

    holds_none : (kind_of e k ≡ None) ⊎ (kind_of e k ≡ Some step.Latch) → (seat e k).hold ≡ Free
    holds_none (inl none) = gone_free (seat e k).sitting.point (seat e k).sitting.found (seat e k).hold ((none_is_gone e k is).0 none) (safe.sessions k is).seated.posed.grip
    holds_none (inr latch) = latch_holds_none e k safe is latch

-- a free slot is one whose owner is 0
pub free_there : (slots : List (List ℕ)) → has_free slots ≡ true → (i : ℕ) × (owner_at slots i ≡ 0)
free_there slots e =
    let a = Any-from_list_any (λ (bytes : List ℕ). owner_in bytes == 0) slots e in
    (a.0, ap owner_in (get_or_default slots a.0 [] a.1 a.2 ∙ a.3) ∙ eqb-true (owner_in a.1) 0 a.4)

pub there_free : (slots : List (List ℕ)) → (i : ℕ) × (owner_at slots i ≡ 0) → has_free slots ≡ true
there_free slots a = elim (cases_lt a.0 (length slots)) [
  | inl lt ↦ list_any-from_Any (λ (bytes : List ℕ). owner_in bytes == 0) slots (a.0, get_or slots a.0 [], lt, get_or_default slots a.0 (get_or slots a.0 []) [] lt, eq-eqb (owner_in (get_or slots a.0 [])) 0 a.1)
  | inr ge ↦ absurd (let past = ap owner_in (get_or_past slots a.0 [] ge) in let none = owner_in-empty in let zero_is : 0 ≡ 4294967295 = sym a.1 ∙ past ∙ none in omega (arith, zero_is))
]

-- An answer ends a statement that has begun.
use Rattle.std.proofs.Common.{◌≡◌, ◌≢◌, ◌⊎◌, inl, inr, ℕ, true, List, ◌∷◌, ◌++◌, refl}
use Rattle.std.specs.Prelude.{◌==◌}
use Rattle.std.proofs.lemmas.Bool.{cases_Bool, and_parts, eqb-true}
use Rattle.std.proofs.lemmas.List.Folds.{Any-from_list_any}
use Rattle.plain_model.specs.declared.event.Event.{Event}
use Rattle.plain_model.specs.declared.event.Event.TheVariants.{Said}
use Rattle.plain_model.specs.declared.kind.Kind.{Kind}
use Rattle.plain_model.specs.declared.kind.Kind.TheVariants as kind
use Rattle.step_trail.specs.Kinds.{may_say, follows_last}
use Rattle.step_trail.specs.Entries.{Did, Entry, Step, Sizes, Phase, Between, Amid, Ending, is_reply, last_kind, phase_of, says}
use Rattle.step_trail.specs.Walked.{IsEntered, IsStep, Walked, enters, fits_phase, may_come}
use Rattle.step_trail.proofs.EachLemmas.{walked_at}
use Rattle.step_trail.proofs.MoveLemmas.{all_at}

reply_said : (k : Kind) (event : Event) → is_reply event ≡ true → enters k event ≡ true → may_say k ≡ true
reply_said k (Said who number began reply) is may = may
reply_said k event is may = absurd (cc)

-- between statements it is the first step of one, and at a session's end there is none
fits_answer : (phase : Phase) (k : Kind) → fits_phase phase k ≡ true → may_say k ≡ true → (k ≡ kind.Start) ⊎ (phase ≡ Amid)
fits_answer Amid k fits may = inr refl
fits_answer Between kind.Start fits may = inl refl
fits_answer Between k fits may = absurd (cc)
fits_answer Ending kind.Start fits may = absurd (cc)
fits_answer Ending k fits may = absurd (cc)

come_fits : (before : List Entry) (who : ℕ) (k : Kind) → who ≢ 0 → may_come before who k ≡ true → fits_phase (phase_of who before) k ≡ true
come_fits before who k ne e = elim (cases_Bool (who == 0)) [
  | inl is ↦ absurd (ne (eqb-true who 0 is))
  | inr not ↦ (and_parts (follows_last (last_kind who before) k) (fits_phase (phase_of who before) k) (rw not at e)).1
]

pub answer_begun : (z : Sizes) (es : List Entry) (d : Did) (fs : List Entry) (book : List Event) → Walked z (es ++ Step d ∷ fs) book → d.who ≢ 0 → says d ≡ true → (d.kind ≡ kind.Start) ⊎ (phase_of d.who es ≡ Amid)
answer_begun z es d fs book w ne s =
    let is : IsStep z es d = walked_at z es (Step d) fs book w in
    let a = Any-from_list_any is_reply d.events s in
    let entered : IsEntered d a.1 = all_at (IsEntered d) d.events a.0 a.1 is.entered a.2 a.3 in
    fits_answer (phase_of d.who es) d.kind (come_fits es d.who d.kind ne is.kind) (reply_said d.kind a.1 a.4 entered.kind)

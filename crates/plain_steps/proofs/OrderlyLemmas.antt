-- The states of legal histories are orderly: the facts that the laws keep, told by the strongest lock of each name.
use Rattle.std.proofs.Common.{inl, inr, ◌≡◌, ◌≢◌, ◌-◌, true, false, List, [], ◌∷◌, refl, ap, sym, ◌∙◌, arith}
use Rattle.std.specs.Prelude.{Option, None, Some}
use Rattle.std.specs.List.{AllByRecursion}
use Rattle.std.proofs.lemmas.Bool.{cases_Bool}
use Rattle.page_base.specs.declared.numbers.Mode.{Mode}
use Rattle.page_base.specs.declared.numbers.Mode.TheVariants.{S, X}
use Rattle.plain_model.specs.declared.event.Event.{Event}
use Rattle.plain_model.specs.declared.event.LockName.TheVariants.{All, Table}
use Rattle.plain_model.specs.declared.stmt.Stmt.{Stmt}
use Rattle.plain_model.specs.Holding.{holds}
use Rattle.plain_model.specs.Journal.{Opening}
use Rattle.plain_model.specs.Legal.{Legal, end}
use Rattle.plain_model.specs.State.{Plain, session}
use Rattle.plain_model.specs.Tables.{Change}
use Rattle.plain_steps.specs.Modes.{mode_in, suffices}
use Rattle.plain_steps.specs.Orderly.{IsHeldChange, IsOrderly}
use Rattle.plain_steps.proofs.HoldLemmas.{IsUnder}
use Rattle.plain_steps.proofs.LockLemmas.{Locks}
use Rattle.plain_steps.proofs.ModeLemmas.{holds_mode}
use Rattle.plain_steps.proofs.SaneLemmas.{Sane, sane_end}

written : (o : Option Mode) → o ≡ Some X → suffices o X ≡ true
written o e = ap (λ p. suffices p X) e

is_written : (o : Option Mode) → suffices o X ≡ true → o ≡ Some X
is_written None e = cc
is_written (Some S) e = cc
is_written (Some X) e = refl

is_held : (o : Option Mode) → o ≢ None → suffices o S ≡ true
is_held None ne = absurd (ne refl)
is_held (Some S) ne = refl
is_held (Some X) ne = refl

isnt_held : (o : Option Mode) → suffices o S ≡ false → o ≡ None
isnt_held None e = refl
isnt_held (Some S) e = cc
isnt_held (Some X) e = cc

changes_held : (ls : Locks) (cs : List Change) → AllByRecursion (IsUnder ls) cs → AllByRecursion (IsHeldChange ls) cs
changes_held ls [] a = tt
changes_held ls (c ∷ cs) a = ((a.0.0, is_written _ (sym (holds_mode ls _ X) ∙ a.0.1)), changes_held ls cs a.1)

pub orderly : (st : Plain) → Sane st → IsOrderly st
orderly st s = record {
  exclusive = λ i j name low high ne e. elim (cases_Bool (suffices (mode_in (session st j).locks name) S)) [
    | inl t ↦
        absurd (s.exclusive (i - 1) (j - 1) name (λ is. ne (omega (arith, is, low, high))) (holds_mode (session st i).locks name X ∙ written (mode_in (session st i).locks name) e) (holds_mode (session st j).locks name S ∙ t))
    | inr f ↦ isnt_held (mode_in (session st j).locks name) f
  ];
  idle = λ k e. s.idle (k - 1) e;
  covered = λ k. changes_held (session st k).locks (session st k).work (s.covered (k - 1));
  tabled = λ k table some none.
      let on : holds (session st k).locks (Table table) S ≡ true = holds_mode (session st k).locks (Table table) S ∙ is_held (mode_in (session st k).locks (Table table)) some in
      let all : holds (session st k).locks All S ≡ true = s.tabled (k - 1) table on in
      absurd (let w : true ≡ false = sym all ∙ holds_mode (session st k).locks All S ∙ ap (λ o. suffices o S) none in cc);
}

pub orderly_end : (opening : Opening) (scripts : List (List Stmt)) (book : List Event) → Legal opening scripts book → IsOrderly (end opening scripts book)
orderly_end opening scripts book legal = orderly (end opening scripts book) (sane_end opening scripts book legal)

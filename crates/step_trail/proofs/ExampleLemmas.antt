-- That the example is a trail, and that the others are none.
use Rattle.std.proofs.Common.{◌≡◌, true, false, List, [], ◌∷◌, ◌++◌, refl, arith}
use Rattle.std.specs.List.{AllByRecursion}
use Rattle.plain_model.specs.declared.event.Event.{Event}
use Rattle.plain_model.specs.declared.kind.Kind.{Kind}
use Rattle.step_trail.specs.Entries.{Did, Entry, book_of, present}
use Rattle.step_trail.specs.Walked.{IsEntered, IsCaused, IsStep, Walked, may_come, ends_well}
use Rattle.step_trail.specs.Example.{small, none_rose, reading, unlatched, unended, unfailed}

abbrev did : Kind → List Event → Did
did kind events = record { who = 1; kind = kind; went = true; events = events; rose = none_rose }

step_is : (before : List Entry) (kind : Kind) (events : List Event) → may_come before 1 kind ≡ true → AllByRecursion (IsEntered (did kind events)) events → ends_well events ≡ true
    → AllByRecursion (IsCaused small (present 1 before ++ did kind events ∷ [])) events → IsStep small before (did kind events)
step_is before kind events comes entered last causes = record {
  known = omega arith;
  kind = comes;
  busy = λ (e : true ≡ false). absurd (cc);
  entered = entered;
  last = last;
  causes = causes;
}

quiet : (before : List Entry) (kind : Kind) → may_come before 1 kind ≡ true → IsStep small before (did kind [])
quiet before kind comes = step_is before kind [] comes tt refl tt

one_event : (before : List Entry) (kind : Kind) (event : Event) → may_come before 1 kind ≡ true → IsEntered (did kind (event ∷ [])) event
    → IsCaused small (present 1 before ++ did kind (event ∷ []) ∷ []) event → IsStep small before (did kind (event ∷ []))
one_event before kind event comes entered caused = step_is before kind (event ∷ []) comes (entered, tt) refl (caused, tt)

pub reading_walks : Walked small reading (book_of reading)
reading_walks = record {
  joined = refl;
  each = (
    quiet _ _ refl,
    (
      one_event _ _ _ refl (record { went = refl; kind = refl; own = refl }) tt,
      (
        quiet _ _ refl,
        (
          quiet _ _ refl,
          (
            quiet _ _ refl,
            (
              one_event _ _ _ refl (record { went = refl; kind = refl; own = refl }) tt,
              (
                quiet _ _ refl,
                (
                  quiet _ _ refl,
                  (
                    quiet _ _ refl,
                    (
                      one_event _ _ _ refl (record { went = refl; kind = refl; own = refl }) tt,
                      (
                        one_event _ _ _ refl (record { went = refl; kind = refl; own = refl }) tt,
                        tt,
                      ),
                    ),
                  ),
                ),
              ),
            ),
          ),
        ),
      ),
    ),
  );
}

pub unlatched_not : (book : List Event) → Walked small unlatched book → ⊥
unlatched_not book w = (let bad : false ≡ true = w.each.1.1.0.kind in cc)

pub unfailed_not : (book : List Event) → Walked small unfailed book → ⊥
unfailed_not book w = (let bad : false ≡ true = w.each.1.0.causes.0.log refl in cc)

pub unended_not : (book : List Event) → Walked small unended book → ⊥
unended_not book w = (let bad : false ≡ true = w.each.1.1.1.0.kind in cc)

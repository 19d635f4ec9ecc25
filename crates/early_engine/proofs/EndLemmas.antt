-- Where all sessions have left, all that they had to say is told.
use Rattle.std.proofs.Common.{◌≡◌, ◌<◌, ◌≤◌, ℕ, Bool, true, false, inl, inr, cond, List, [], ◌∷◌, ◌++◌, length, map, get_or, ap, ◌∙◌, arith, append_assoc, append-nil, refl, sym}
use Rattle.std.proofs.lemmas.List.{get_or-set_same, get_or-set_other}
use Rattle.std.proofs.lemmas.List.Sums.{get_or-le-sum_by}
use Rattle.std.specs.List.{range_with_len, list_any}
use Rattle.std.proofs.lemmas.List.Folds.{list_any-append}
use Rattle.plain_model.specs.declared.stmt.Stmt.{Stmt}
use Rattle.plain_model.specs.declared.event.Event.{Event}
use Rattle.plain_model.specs.Sound.{AreScripts}
use Rattle.plain_model.specs.Complete.{Answered, Gone, Complete}
use Rattle.early_engine.specs.declared.seat.Seat.{Seat}
use Rattle.early_engine.specs.Safe.{Run, seat_at, no_seat, AreSeated}
use Rattle.early_engine.specs.Causes.{is_failure}
use Rattle.early_engine.specs.Steps.{Goes, Steps, AreOthersSame}
use Rattle.early_engine.proofs.SafeLemmas.{either}
use Rattle.early_engine.proofs.NameLemmas.{rose_later, later_rose}

pub complete : (e : Run) → AreSeated e → ((i : ℕ) → i < length e.scripts → (seat_at e i).gone ≡ true) → Complete e.scripts e.kept.events
complete e seated gone i lt =
    seated.marks i lt
    ∙ ap (λ (b : Bool). map Answered (range_with_len 1 (seat_at e i).said) ++ cond b (Gone ∷ []) []) (gone i lt)
    ∙ ap (λ n. map Answered (range_with_len 1 n) ++ Gone ∷ []) (seated.gone i lt (gone i lt))

pub script_short : (scripts : List (List Stmt)) (i : ℕ) → AreScripts scripts → i < length scripts → length (get_or scripts i []) ≤ 20000
script_short scripts i are lt = let h = get_or-le-sum_by length scripts i [] lt in let s = are.short in omega (arith, h, s)

-- the seat of the session that moved
pub seat_now : (old new : Run) (i : ℕ) (seat : Seat) → Steps old new i seat → seat_at new i ≡ seat
seat_now old new i seat steps = ap (λ (ss : List Seat). get_or ss i no_seat) steps.seats ∙ get_or-set_same old.seats i seat no_seat steps.within

-- and of each other one
pub seats_stay : (old new : Run) (i : ℕ) (seat : Seat) → Steps old new i seat → AreOthersSame old new i
seats_stay old new i seat steps j ne = ap (λ (ss : List Seat). get_or ss j no_seat) steps.seats ∙ get_or-set_other old.seats i j seat no_seat ne

pub goes_still : (e : Run) → Goes e e
goes_still e = record { opening = refl; scripts = refl; told = refl; came = []; grows = sym (append-nil e.kept.events); failures = omega arith; file_failures = omega arith; blame = λ h. absurd (let x : false ≡ true = h in cc) }

pub goes_on : (a b c : Run) → Goes a b → Goes b c → Goes a c
goes_on a b c x y = record {
  opening = y.opening ∙ x.opening;
  scripts = y.scripts ∙ x.scripts;
  told = y.told ∙ x.told;
  came = x.came ++ y.came;
  grows = y.grows ∙ ap (λ (es : List Event). es ++ y.came) x.grows ∙ append_assoc a.kept.events x.came y.came;
  failures = let f = x.failures in let g = y.failures in omega (arith, f, g);
  file_failures = let f = x.file_failures in let g = y.file_failures in omega (arith, f, g);
  blame = λ h. elim (either (list_any is_failure x.came) (list_any is_failure y.came) (sym (list_any-append is_failure x.came y.came) ∙ h)) [
    | inl e ↦ rose_later a.disk.failures b.disk.failures c.disk.failures (x.blame e) y.failures
    | inr e ↦ later_rose a.disk.failures b.disk.failures c.disk.failures x.failures (y.blame e)
  ];
}

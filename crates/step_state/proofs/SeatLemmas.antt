-- One seat among others, and one session's pins among all.
use Rattle.std.proofs.Common.{◌≡◌, ◌≢◌, ℕ, zero, suc, ◌+◌, ◌<◌, ◌≤◌, List, [], ◌∷◌, length, get_or, refl, ap, arith}
use Rattle.std.specs.Prelude.{slice_set}
use Rattle.std.proofs.lemmas.List.{length-set, get_or-set_same, get_or-set_other}
use Rattle.page_base.specs.declared.numbers.PageId.{PageId}
use Rattle.step_words.specs.Seats.{Seated, no_seat, seat_in, with_seat}
use Rattle.step_state.specs.Whole.{seat_pins, seats_pins}

pub seats_long : (seats : List Seated) (k : ℕ) (x : Seated) → length (with_seat seats k x) ≡ length seats
seats_long seats zero x = refl
seats_long seats (suc k) x = length-set seats k x

pub seat_here : (seats : List Seated) (k : ℕ) (x : Seated) → 1 ≤ k → k ≤ length seats → seat_in (with_seat seats k x) k ≡ x
seat_here seats zero x first last = absurd (omega (arith, first))
seat_here seats (suc k) x first last = get_or-set_same seats k x no_seat (omega (arith, last))

pub seat_there : (seats : List Seated) (k j : ℕ) (x : Seated) → j ≢ k → seat_in (with_seat seats k x) j ≡ seat_in seats j
seat_there seats zero j x ne = refl
seat_there seats (suc k) zero x ne = refl
seat_there seats (suc k) (suc j) x ne = get_or-set_other seats k j x no_seat (λ e. ne (ap (λ n. suc n) e))

set_pins : (seats : List Seated) (k : ℕ) (x : Seated) (p : PageId) → k < length seats → seats_pins (slice_set seats k x) p + seat_pins (get_or seats k no_seat) p ≡ seats_pins seats p + seat_pins x p
set_pins [] k x p lt = absurd (omega (arith, lt))
set_pins (y ∷ seats) zero x p lt = (let e : seat_pins x p + seats_pins seats p + seat_pins y p ≡ seat_pins y p + seats_pins seats p + seat_pins x p = omega arith in e)
set_pins (y ∷ seats) (suc k) x p lt =
    let later = set_pins seats k x p (omega (arith, lt)) in
    (let e : (seat_pins y p + seats_pins (slice_set seats k x) p) + seat_pins (get_or seats k no_seat) p ≡ (seat_pins y p + seats_pins seats p) + seat_pins x p = omega (arith, later) in e)

-- with another seat of session k the pins are by so many more or fewer as that seat's
pub seat_pins_moved : (seats : List Seated) (k : ℕ) (x : Seated) (p : PageId) → 1 ≤ k → k ≤ length seats → seats_pins (with_seat seats k x) p + seat_pins (seat_in seats k) p ≡ seats_pins seats p + seat_pins x p
seat_pins_moved seats zero x p first last = absurd (omega (arith, first))
seat_pins_moved seats (suc k) x p first last = set_pins seats k x p (omega (arith, last))

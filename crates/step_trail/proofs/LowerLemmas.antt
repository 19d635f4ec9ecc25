-- A step that changes one seat, and what it has to show of it to leave less to do.
use Rattle.std.proofs.Common.{◌≡◌, ◌≢◌, ℕ, zero, suc, ◌+◌, ◌*◌, ◌<◌, ◌≤◌, List, [], ◌∷◌, length, get_or, sym, subst, arith}
use Rattle.std.specs.Prelude.{sum_by, slice_set}
use Rattle.std.proofs.lemmas.List.Sums.{sum_by-set, sum_by-cons}
use Rattle.step_words.specs.Seats.{Seated, no_seat, seat_in, with_seat}
use Rattle.step_state.specs.State.{State, IsSession, seat}
use Rattle.step_trail.specs.Left.{BySaying, ByPlanning, ByStepping, Lowers, left, left_said, left_planned}
use Rattle.step_trail.specs.Togo.{sound, togo, unmapped}

-- a sum over the seats moves as its term at one seat does
pub sum_moves : (f : Seated → ℕ) (seats : List Seated) (k : ℕ) (x : Seated) → 1 ≤ k → k ≤ length seats → sum_by f (with_seat seats k x) + f (seat_in seats k) ≡ sum_by f seats + f x
sum_moves f seats zero x first last = absurd (omega (arith, first))
sum_moves f seats (suc k) x first last = sum_by-set f seats k x no_seat (omega (arith, last))

-- a sum of no greater terms is no greater
sum_no_more : (f g : Seated → ℕ) (seats : List Seated) → ((j : ℕ) → j < length seats → f (get_or seats j no_seat) ≤ g (get_or seats j no_seat)) → sum_by f seats ≤ sum_by g seats
sum_no_more f g [] less = omega arith
sum_no_more f g (y ∷ ys) less =
    let here : f y ≤ g y = less 0 (omega arith) in
    let later : sum_by f ys ≤ sum_by g ys = sum_no_more f g ys (λ j lt. less (suc j) (omega (arith, lt))) in
    let mine = sum_by-cons f y ys in
    let its = sum_by-cons g y ys in
    omega (arith, here, later, mine, its)

-- nor is it where one term is another
sum_but_one : (f g : Seated → ℕ) (seats : List Seated) (i : ℕ) (x : Seated) → i < length seats → ((j : ℕ) → j < length seats → j ≢ i → f (get_or seats j no_seat) ≤ g (get_or seats j no_seat))
    → sum_by f (slice_set seats i x) + g (get_or seats i no_seat) ≤ sum_by g seats + f x
sum_but_one f g [] i x lt less = absurd (omega (arith, lt))
sum_but_one f g (y ∷ ys) zero x lt less =
    let later : sum_by f ys ≤ sum_by g ys = sum_no_more f g ys (λ j below. less (suc j) (omega (arith, below)) (λ is. omega (arith, is))) in
    let mine = sum_by-cons f x ys in
    let its = sum_by-cons g y ys in
    omega (arith, later, mine, its)
sum_but_one f g (y ∷ ys) (suc i) x lt less =
    let here : f y ≤ g y = less 0 (omega arith) (λ is. omega (arith, is)) in
    let later = sum_but_one f g ys i x (omega (arith, lt)) (λ j below ne. less (suc j) (omega (arith, below)) (λ is. ne (omega (arith, is)))) in
    let mine = sum_by-cons f y (slice_set ys i x) in
    let its = sum_by-cons g y ys in
    omega (arith, here, later, mine, its)

seats_but_one : (f g : Seated → ℕ) (seats : List Seated) (k : ℕ) (x : Seated) → 1 ≤ k → k ≤ length seats → ((j : ℕ) → 1 ≤ j → j ≤ length seats → j ≢ k → f (seat_in seats j) ≤ g (seat_in seats j))
    → sum_by f (with_seat seats k x) + g (seat_in seats k) ≤ sum_by g seats + f x
seats_but_one f g seats zero x first last less = absurd (omega (arith, first))
seats_but_one f g seats (suc i) x first last less = sum_but_one f g seats i x (omega (arith, last)) (λ j lt ne. less (suc j) (omega arith) (omega (arith, lt)) (λ is. ne (omega (arith, is))))

module _ (e s : State) (k : ℕ) (x : Seated) (is : IsSession e k) (seats : s.seats ≡ with_seat e.seats k x) where
  total : (f : Seated → ℕ) → sum_by f s.seats + f (seat e k) ≡ sum_by f e.seats + f x
  total f = subst (λ (xs : List Seated). sum_by f xs + f (seat e k) ≡ sum_by f e.seats + f x) (sym seats) (sum_moves f e.seats k x is.first is.last)

  pub lowers_by_saying : left_said x.sitting < left_said (seat e k).sitting → Lowers e s
  lowers_by_saying lt = BySaying (let t = total (λ (y : Seated). left_said y.sitting) in omega (arith, t, lt))

  same_said : left_said x.sitting ≡ left_said (seat e k).sitting → (left s).said ≡ (left e).said
  same_said same = (let t = total (λ (y : Seated). left_said y.sitting) in omega (arith, t, same))

  pub lowers_by_planning : left_said x.sitting ≡ left_said (seat e k).sitting → left_planned x.sitting < left_planned (seat e k).sitting → Lowers e s
  lowers_by_planning same lt = ByPlanning (same_said same) (let t = total (λ (y : Seated). left_planned y.sitting) in omega (arith, t, lt))

  -- the others' terms are no greater
  others : ((j : ℕ) → IsSession e j → j ≢ k → togo s.pages (seat e j) ≤ togo e.pages (seat e j)) → sum_by (togo s.pages) s.seats + togo e.pages (seat e k) ≤ sum_by (togo e.pages) e.seats + togo s.pages x
  others less = subst (λ (xs : List Seated). sum_by (togo s.pages) xs + togo e.pages (seat e k) ≤ sum_by (togo e.pages) e.seats + togo s.pages x) (sym seats)
      (seats_but_one (togo s.pages) (togo e.pages) e.seats k x is.first is.last (λ j first last ne. less j (record { first = first; last = last }) ne))

  pub lowers_by_stepping : left_said x.sitting ≡ left_said (seat e k).sitting → left_planned x.sitting ≡ left_planned (seat e k).sitting
      → ((j : ℕ) → IsSession e j → j ≢ k → togo s.pages (seat e j) ≤ togo e.pages (seat e j))
      → 2 * unmapped s.pages + (sound s.pages + togo s.pages x) < 2 * unmapped e.pages + (sound e.pages + togo e.pages (seat e k)) → Lowers e s
  lowers_by_stepping said planned less lt = ByStepping (same_said said)
      (let t = total (λ (y : Seated). left_planned y.sitting) in omega (arith, t, planned))
      (let h = others less in omega (arith, h, lt))

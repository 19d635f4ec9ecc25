-- Each step takes one off what its session owes, and enters one event that ends a step.
use Rattle.std.proofs.Common.{◌≡◌, ◌+◌, ◌-◌, ◌<◌, ◌≤◌, ◌⊎◌, inl, inr, ℕ, suc, zero, Bool, true, false, ◌&&◌, nat_le, cond, List, [], ◌∷◌, ◌++◌, length, get_or, refl, ap, sym, ◌∙◌, arith, append_assoc}
use Rattle.std.proofs.Math.ListN.{set, replicate}
use Rattle.std.specs.Prelude.{None}
use Rattle.std.specs.List.{AllByRecursion}
use Rattle.std.proofs.lemmas.Bool.{le-leb}
use Rattle.std.proofs.lemmas.List.Elements.{filter_map-append}
use Rattle.plain_model.specs.declared.stmt.Stmt.{Stmt}
use Rattle.plain_model.specs.declared.pick.Pick.{Pick}
use Rattle.plain_model.specs.declared.event.Event.{Event}
use Rattle.plain_model.specs.declared.event.Event.TheVariants.{Locked, CutAt, RestoreAt, Turned, Said, Left}
use Rattle.plain_model.specs.Order.{closer, closers, steps, in_turn, order}
use Rattle.early_pages.specs.Shown.{Shown}
use Rattle.early_engine.specs.declared.seat.Seat.{Seat}
use Rattle.early_engine.specs.Pushing.{IsTurn}
use Rattle.early_engine.specs.Stepping.{number}
use Rattle.early_engine.specs.Safe.{Run, seat_at, no_seat, script_at}
use Rattle.early_engine.specs.Steps.{IsOwn, Says, Leaves, Moves, HaveLeft}
use Rattle.early_engine.specs.Schedules.{IsIdle, Takes, IsLowest, Rounds, none, more, steps_left, owed, due_order}

-- WHAT IS OWED

owed_set : (scripts : List (List Stmt)) (seats : List Seat) (i : ℕ) (seat : Seat) → owed scripts (set seats i seat) ≡ set (owed scripts seats) i (steps_left (get_or scripts i []) seat)
owed_set [] seats i seat = refl
owed_set (s ∷ ss) [] i seat = refl
owed_set (s ∷ ss) (t ∷ ts) zero seat = refl
owed_set (s ∷ ss) (t ∷ ts) (suc i) seat = ap (λ (ns : List ℕ). steps_left s t ∷ ns) (owed_set ss ts i seat)

owed_at : (scripts : List (List Stmt)) (seats : List Seat) (i : ℕ) → i < length scripts → i < length seats → get_or (owed scripts seats) i 0 ≡ steps_left (get_or scripts i []) (get_or seats i no_seat)
owed_at [] seats i lt lt' = absurd (omega (arith, lt))
owed_at (s ∷ ss) [] i lt lt' = absurd (omega (arith, lt'))
owed_at (s ∷ ss) (t ∷ ts) zero lt lt' = refl
owed_at (s ∷ ss) (t ∷ ts) (suc i) lt lt' = owed_at ss ts i (omega (arith, lt)) (omega (arith, lt'))

-- who has left owes nothing
owed_gone : (scripts : List (List Stmt)) (seats : List Seat) (i : ℕ) → (get_or seats i no_seat).gone ≡ true → get_or (owed scripts seats) i 0 ≡ 0
owed_gone [] seats i h = refl
owed_gone (s ∷ ss) [] i h = refl
owed_gone (s ∷ ss) (t ∷ ts) zero h = ap (λ (b : Bool). cond b 0 (length s - t.said + 1)) h
owed_gone (s ∷ ss) (t ∷ ts) (suc i) h = owed_gone ss ts i h

-- at the beginning each session owes all its steps
pub owed_fresh : (scripts : List (List Stmt)) (seat : Seat) → seat.said ≡ 0 → seat.gone ≡ false → owed scripts (replicate (length scripts) seat) ≡ steps scripts
owed_fresh [] seat said gone = refl
owed_fresh (s ∷ ss) seat said gone =
    let one : steps_left s seat ≡ length s + 1 = ap (λ (b : Bool). cond b 0 (length s - seat.said + 1)) gone ∙ (let e : length s - seat.said + 1 ≡ length s + 1 = omega (arith, said) in e) in
    ap (λ (n : ℕ). n ∷ owed ss (replicate (length ss) seat)) one ∙ ap (λ (ns : List ℕ). (length s + 1) ∷ ns) (owed_fresh ss seat said gone)

-- WHO ENDS A STEP

no_closer : (k : ℕ) (old new : Shown) (x : Event) → IsOwn k x ⊎ IsTurn old new x → closer x ≡ None
no_closer k old new (Locked who t m) h = refl
no_closer k old new (CutAt who s) h = refl
no_closer k old new (RestoreAt who s) h = refl
no_closer k old new (Turned s) h = refl
no_closer k old new (Said w n b r) (inl h) = absurd h
no_closer k old new (Said w n b r) (inr t) = absurd (let e = t.is in cc)
no_closer k old new (Left w) (inl h) = absurd h
no_closer k old new (Left w) (inr t) = absurd (let e = t.is in cc)

none_close : (k : ℕ) (old new : Shown) (amid : List Event) → AllByRecursion (λ x. IsOwn k x ⊎ IsTurn old new x) amid → closers amid ≡ []
none_close k old new [] h = refl
none_close k old new (x ∷ xs) h = rw (no_closer k old new x h.0) (none_close k old new xs h.1)

-- a step enters one event that ends it
module _ (old new : Run) (i : ℕ) where
  says_closes : Says old new i → closers new.kept.events ≡ closers old.kept.events ++ (i + 1) ∷ []
  says_closes s =
      let last : Event = Said (number (i + 1)) ((seat_at old i).said + 1) (length old.kept.events) s.reply in
      ap closers s.enters.grows
      ∙ filter_map-append closer old.kept.events (s.enters.amid ++ last ∷ [])
      ∙ ap (λ (ks : List ℕ). closers old.kept.events ++ ks) (filter_map-append closer s.enters.amid (last ∷ []) ∙ ap (λ (ks : List ℕ). ks ++ (i + 1) ∷ []) (none_close (i + 1) old.shown new.shown s.enters.amid s.enters.each))

  leaves_closes : Leaves old new i → closers new.kept.events ≡ closers old.kept.events ++ (i + 1) ∷ []
  leaves_closes l = ap closers l.enters ∙ filter_map-append closer old.kept.events (Left (number (i + 1)) ∷ [])

  pub closes : Moves old new i → closers new.kept.events ≡ closers old.kept.events ++ (i + 1) ∷ []
  closes (inl s) = says_closes s
  closes (inr l) = leaves_closes l

  -- what the session owed before, and owes now
  abbrev mine : ℕ
  mine = get_or (owed old.scripts old.seats) i 0

  says_owes : Says old new i → (1 ≤ mine) × (owed new.scripts new.seats ≡ set (owed old.scripts old.seats) i (mine - 1))
  says_owes s =
      let at : mine ≡ steps_left (script_at old i) (seat_at old i) = owed_at old.scripts old.seats i s.next.there s.steps.within in
      let before : steps_left (script_at old i) (seat_at old i) ≡ length (script_at old i) - (seat_at old i).said + 1 = ap (λ (b : Bool). cond b 0 (length (script_at old i) - (seat_at old i).said + 1)) s.here in
      let m = s.next.more in
      let left : length (script_at old i) - ((seat_at old i).said + 1) + 1 ≡ mine - 1 = omega (arith, at, before, m) in (
        omega (arith, at, before),
        ap (λ (ss : List (List Stmt)). owed ss new.seats) s.steps.goes.scripts
            ∙ ap (owed old.scripts) s.steps.seats
            ∙ owed_set old.scripts old.seats i (record { current = s.current; said = (seat_at old i).said + 1; gone = false })
            ∙ ap (set (owed old.scripts old.seats) i) left,
      )

  leaves_owes : Leaves old new i → (1 ≤ mine) × (owed new.scripts new.seats ≡ set (owed old.scripts old.seats) i (mine - 1))
  leaves_owes l =
      let at : mine ≡ steps_left (script_at old i) (seat_at old i) = owed_at old.scripts old.seats i l.there l.steps.within in
      let before : steps_left (script_at old i) (seat_at old i) ≡ length (script_at old i) - (seat_at old i).said + 1 = ap (λ (b : Bool). cond b 0 (length (script_at old i) - (seat_at old i).said + 1)) l.here in
      let all = l.all in
      let left : 0 ≡ mine - 1 = omega (arith, at, before, all) in (
        omega (arith, at, before),
        ap (λ (ss : List (List Stmt)). owed ss new.seats) l.steps.goes.scripts
            ∙ ap (owed old.scripts) l.steps.seats
            ∙ owed_set old.scripts old.seats i _
            ∙ ap (set (owed old.scripts old.seats) i) left,
      )

  pub owes : Moves old new i → (1 ≤ mine) × (owed new.scripts new.seats ≡ set (owed old.scripts old.seats) i (mine - 1))
  owes (inl s) = says_owes s
  owes (inr l) = leaves_owes l

-- BY A SCHEDULE

order_takes : (left : List ℕ) (p : Pick) (ps : List Pick) → 1 ≤ p.who → 1 ≤ get_or left (p.who - 1) 0 → order left (p ∷ ps) ≡ p.who ∷ order (set left (p.who - 1) (get_or left (p.who - 1) 0 - 1)) ps
order_takes left p ps a b = ap (λ (c : Bool). cond c (p.who ∷ order (set left (p.who - 1) (get_or left (p.who - 1) 0 - 1)) ps) (order left ps)) (ap (λ (c : Bool). c && nat_le 1 (get_or left (p.who - 1) 0)) (le-leb 1 p.who a) ∙ le-leb 1 (get_or left (p.who - 1) 0) b)

order_idle : (left : List ℕ) (p : Pick) (ps : List Pick) → (p.who ≡ 0) ⊎ (get_or left (p.who - 1) 0 ≡ 0) → order left (p ∷ ps) ≡ order left ps
order_idle left p ps (inl e) = ap (λ (c : Bool). cond c (p.who ∷ order (set left (p.who - 1) (get_or left (p.who - 1) 0 - 1)) ps) (order left ps)) (ap (λ (n : ℕ). nat_le 1 n && nat_le 1 (get_or left (p.who - 1) 0)) e)
order_idle left p ps (inr e) = ap (λ (c : Bool). cond c (p.who ∷ order (set left (p.who - 1) (get_or left (p.who - 1) 0 - 1)) ps) (order left ps)) (ap (λ (n : ℕ). nat_le 1 p.who && nat_le 1 n) e ∙ and_false (nat_le 1 p.who))
  where
    and_false : (c : Bool) → (c && false) ≡ false
    and_false true = refl
    and_false false = refl

-- one entry of a schedule was played
pub takes_one : (old new : Run) (p : Pick) (ps : List Pick) → Takes old new p.who → due_order new ps ≡ due_order old (p ∷ ps)
takes_one old new p ps (inl idle) = ap (λ (e : Run). due_order e ps) idle.1 ∙ ap (λ (ks : List ℕ). closers old.kept.events ++ ks) (sym (order_idle (owed old.scripts old.seats) p ps (owes_none idle.0)))
  where
    owes_none : IsIdle old p.who → (p.who ≡ 0) ⊎ (get_or (owed old.scripts old.seats) (p.who - 1) 0 ≡ 0)
    owes_none (inl e) = inl e
    owes_none (inr g) = inr (owed_gone old.scripts old.seats (p.who - 1) g.1)
takes_one old new p ps (inr m) =
    let i : ℕ = p.who - 1 in
    let who : i + 1 ≡ p.who = let h = m.0 in omega (arith, h) in
    let o = owes old new i m.1 in
    ap (λ (ks : List ℕ). ks ++ order (owed new.scripts new.seats) ps) (closes old new i m.1)
    ∙ ap (λ (left : List ℕ). (closers old.kept.events ++ (i + 1) ∷ []) ++ order left ps) o.1
    ∙ append_assoc (closers old.kept.events) ((i + 1) ∷ []) (order (set (owed old.scripts old.seats) i (mine old new i - 1)) ps)
    ∙ ap (λ (n : ℕ). closers old.kept.events ++ n ∷ order (set (owed old.scripts old.seats) i (mine old new i - 1)) ps) who
    ∙ ap (λ (ks : List ℕ). closers old.kept.events ++ ks) (sym (order_takes (owed old.scripts old.seats) p ps m.0 o.0))

-- BY TURNS OF THE LOWEST

in_turn_step : (k : ℕ) (ns : List ℕ) (i : ℕ) → ((j : ℕ) → j < i → get_or ns j 0 ≡ 0) → 1 ≤ get_or ns i 0 → in_turn k ns ≡ (k + i) ∷ in_turn k (set ns i (get_or ns i 0 - 1))
in_turn_step k [] i before some = absurd (omega (arith, some))
in_turn_step k (zero ∷ ns) zero before some = absurd (omega (arith, some))
in_turn_step k (suc n ∷ ns) zero before some =
    let at : k ≡ k + 0 = omega arith in
    let less : n ≡ suc n - 1 = omega arith in
    ap (λ (x : ℕ). x ∷ (replicate n k ++ in_turn (k + 1) ns)) at ∙ ap (λ (m : ℕ). (k + 0) ∷ (replicate m k ++ in_turn (k + 1) ns)) less
in_turn_step k (n ∷ ns) (suc i) before some =
    let none : n ≡ 0 = before 0 (omega arith) in
    let at : k + 1 + i ≡ k + suc i = omega arith in
    ap (λ (m : ℕ). replicate m k ++ in_turn (k + 1) ns) none
    ∙ in_turn_step (k + 1) ns i (λ j lt. before (suc j) (omega (arith, lt))) some
    ∙ ap (λ (x : ℕ). x ∷ in_turn (k + 1) (set ns i (get_or ns i 0 - 1))) at
    ∙ ap (λ (m : ℕ). (k + suc i) ∷ (replicate m k ++ in_turn (k + 1) (set ns i (get_or ns i 0 - 1)))) (sym none)

pub lowest_one : (old new : Run) (i : ℕ) → IsLowest old i → Moves old new i → due_order new [] ≡ due_order old []
lowest_one old new i low m =
    let o = owes old new i m in
    let one : 1 + i ≡ i + 1 = omega arith in
    ap (λ (ks : List ℕ). ks ++ in_turn 1 (owed new.scripts new.seats)) (closes old new i m)
    ∙ ap (λ (left : List ℕ). (closers old.kept.events ++ (i + 1) ∷ []) ++ in_turn 1 left) o.1
    ∙ append_assoc (closers old.kept.events) ((i + 1) ∷ []) (in_turn 1 (set (owed old.scripts old.seats) i (mine old new i - 1)))
    ∙ ap (λ (n : ℕ). closers old.kept.events ++ n ∷ in_turn 1 (set (owed old.scripts old.seats) i (mine old new i - 1))) (sym one)
    ∙ ap (λ (ks : List ℕ). closers old.kept.events ++ ks) (sym (in_turn_step 1 (owed old.scripts old.seats) i (λ j lt. owed_gone old.scripts old.seats j (low.before j lt)) o.0))

-- where all have left nothing is due
in_turn_none : (k : ℕ) (ns : List ℕ) → ((j : ℕ) → j < length ns → get_or ns j 0 ≡ 0) → in_turn k ns ≡ []
in_turn_none k [] h = refl
in_turn_none k (n ∷ ns) h = ap (λ (m : ℕ). replicate m k ++ in_turn (k + 1) ns) (h 0 (omega arith)) ∙ in_turn_none (k + 1) ns (λ j lt. h (suc j) (omega (arith, lt)))

owed_short : (scripts : List (List Stmt)) (seats : List Seat) → length (owed scripts seats) ≤ length scripts
owed_short [] seats = omega arith
owed_short (s ∷ ss) [] = omega arith
owed_short (s ∷ ss) (t ∷ ts) = let h = owed_short ss ts in omega (arith, h)

append-none : (ks : List ℕ) → ks ++ [] ≡ ks
append-none [] = refl
append-none (k ∷ ks) = ap (λ (x : List ℕ). k ∷ x) (append-none ks)

pub all_done : (e : Run) → HaveLeft e → due_order e [] ≡ closers e.kept.events
all_done e left =
    ap (λ (ks : List ℕ). closers e.kept.events ++ ks) (in_turn_none 1 (owed e.scripts e.seats) (λ j lt. owed_gone e.scripts e.seats j (left j (let h = owed_short e.scripts e.seats in omega (arith, h, lt)))))
    ∙ append-none (closers e.kept.events)

-- rounds behind rounds
pub rounds_on : (a b c : Run) → Rounds a b → Rounds b c → Rounds a c
rounds_on a b c x y = go a b c x y
  where
    go : (a b c : Run) → Rounds a b → Rounds b c → Rounds a c
    go a b c x (none e) = x
    go a b c x (more old mid new i y low m) = more a mid new i (go a old mid x y) low m

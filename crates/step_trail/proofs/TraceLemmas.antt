-- One more step of a trail that tells of its engine.
use Rattle.std.proofs.Common.{◌≡◌, ◌≢◌, ◌⊎◌, inl, inr, ℕ, zero, suc, ◌+◌, ◌<◌, ◌≤◌, Bool, true, false, ◌&&◌, ◌||◌, List, [], ◌∷◌, ◌++◌, length, get_or, refl, ap, sym, subst, ◌∙◌, arith}
use Rattle.std.specs.Prelude.{Option, Some, None, is_some, not}
use Rattle.std.specs.List.{AllByRecursion, list_any, list_all, range_with_len}
use Rattle.std.proofs.lemmas.List.{append-nil}
use Rattle.std.proofs.lemmas.Bool.{cases_Bool, cases_eq, eqb-true, eq-eqb, ne_eqb}
use Rattle.std.proofs.lemmas.List.Folds.{list_any-append}
use Rattle.plain_model.specs.declared.event.Event.{Event}
use Rattle.plain_model.specs.declared.event.Event.TheVariants.{Said, Left}
use Rattle.plain_model.specs.declared.kind.Kind.{Kind}
use Rattle.plain_model.specs.declared.kind.Kind.TheVariants as step
use Rattle.plain_model.specs.declared.reply.Message.{Message}
use Rattle.plain_model.specs.declared.reply.Reply.{Reply}
use Rattle.plain_model.specs.declared.reply.Reply.TheVariants.{Msg}
use Rattle.snap_pages.specs.Shown.{Shown}
use Rattle.step_words.specs.declared.point.Point.{Point}
use Rattle.step_words.specs.declared.point.Point.TheVariants.{Claim, Heal}
use Rattle.step_words.specs.Sittings.{stmt_at}
use Rattle.step_words.specs.Seats.{Seated, Grip, Free, Latched, Fetched, no_seat, seat_in}
use Rattle.step_state.specs.Own.{is_gone}
use Rattle.step_state.specs.State.{State, IsSession, seat}
use Rattle.step_trail.specs.Kinds.{is_kind, follows_last}
use Rattle.step_trail.specs.Entries.{Did, Entry, Step, End, Sizes, Phase, Between, has_left, is_leaving, is_over, kind_after, last_kind, next_phase, phase_after, phase_of, present, present_after, says}
use Rattle.step_trail.specs.Next.{kind_at, kind_of}
use Rattle.step_trail.specs.Walked.{IsCaused, IsCausedBy, IsEntered, IsExplained, IsStep, Walked, ends_well, fits_phase, has_cut, is_cut, may_come}
use Rattle.step_trail.specs.Reached.{IsReached, LeavesHeld, StaysFree, StaysLacking, is_start, stands_in}
use Rattle.step_trail.specs.Traced.{AreFresh, Flushes, IsSaid, IsSaidBy, IsTraced, Traced, Traces, sizes_of}
use Rattle.step_trail.proofs.EachLemmas.{walked_more}
use Rattle.step_trail.proofs.MoveLemmas.{kind_more, left_more, phase_more, present_more, walked_end}
use Rattle.step_trail.proofs.NextLemmas.{gone_has_none, of_some, stays_has}
use Rattle.step_trail.proofs.ReachLemmas.{reached_next}

-- a cause among some steps is one among more
or_left : (a b : Bool) → a ≡ true → (a || b) ≡ true
or_left a b e = rw e refl

or_right : (a b : Bool) → b ≡ true → (a || b) ≡ true
or_right true b e = refl
or_right false b e = e

or_false : (a : Bool) → (a || false) ≡ a
or_false true = refl
or_false false = refl

any_left : (test : Did → Bool) (xs ys : List Did) → list_any test xs ≡ true → list_any test (xs ++ ys) ≡ true
any_left test xs ys e = list_any-append test xs ys ∙ or_left (list_any test xs) (list_any test ys) e

any_right : (test : Did → Bool) (xs ys : List Did) → list_any test ys ≡ true → list_any test (xs ++ ys) ≡ true
any_right test xs ys e = list_any-append test xs ys ∙ or_right (list_any test xs) (list_any test ys) e

none_left : (a b : Bool) → (a || b) ≡ false → (a ≡ false) × (b ≡ false)
none_left false b e = (refl, e)
none_left true b e = absurd (cc)

uncut : (xs ys : List Did) → has_cut (xs ++ ys) ≡ false → (has_cut xs ≡ false) × (has_cut ys ≡ false)
uncut xs ys e = none_left (has_cut xs) (has_cut ys) (sym (list_any-append (λ (d : Did). list_any is_cut d.events) xs ys) ∙ e)

pub explained_left : (z : Sizes) (xs ys : List Did) (n : ℕ) → IsExplained z xs n → IsExplained z (xs ++ ys) n
explained_left z xs ys n is = record {
  log = λ e. any_left (λ (d : Did). d.rose.log) xs ys (is.log e);
  files = λ e. any_left (λ (d : Did). d.rose.files) xs ys (is.files e);
  removed = λ e. any_left (λ (d : Did). d.rose.volume) xs ys (is.removed e);
  made = λ e cut. any_left (λ (d : Did). d.rose.volume) xs ys (is.made e (uncut xs ys cut).0);
  full = λ e. any_left (λ (d : Did). is_kind step.Pass d.kind) xs ys (is.full e);
  frames = is.frames;
}

pub explained_right : (z : Sizes) (xs ys : List Did) (n : ℕ) → IsExplained z ys n → IsExplained z (xs ++ ys) n
explained_right z xs ys n is = record {
  log = λ e. any_right (λ (d : Did). d.rose.log) xs ys (is.log e);
  files = λ e. any_right (λ (d : Did). d.rose.files) xs ys (is.files e);
  removed = λ e. any_right (λ (d : Did). d.rose.volume) xs ys (is.removed e);
  made = λ e cut. any_right (λ (d : Did). d.rose.volume) xs ys (is.made e (uncut xs ys cut).1);
  full = λ e. any_right (λ (d : Did). is_kind step.Pass d.kind) xs ys (is.full e);
  frames = is.frames;
}

sessions_are : (z : Sizes) (e : State) → z ≡ sizes_of e → z.sessions ≡ length e.seats
sessions_are z e same = ap (λ (y : Sizes). y.sessions) same

-- what an entry tells of its own session, and of others
module _ (k : ℕ) (d : Did) where
  and_false : (a : Bool) → (a && false) ≡ false
  and_false true = refl
  and_false false = refl

  pub else_kind : (last : Option Kind) → d.who ≢ k → kind_after k last (Step d) ≡ last
  else_kind last ne = rw (ne_eqb d.who k ne, and_false d.went) refl

  pub else_phase : (phase : Phase) → d.who ≢ k → phase_after k phase (Step d) ≡ phase
  else_phase phase ne = rw (ne_eqb d.who k ne, and_false d.went) refl

  pub else_present : (dids : List Did) → d.who ≢ k → present_after k dids (Step d) ≡ dids
  else_present dids ne = rw (ne_eqb d.who k ne) refl

  pub vain_kind : (last : Option Kind) → d.went ≡ false → kind_after k last (Step d) ≡ last
  vain_kind last e = rw e refl

  pub vain_phase : (phase : Phase) → d.went ≡ false → phase_after k phase (Step d) ≡ phase
  vain_phase phase e = rw e refl

  pub own_kind : (last : Option Kind) → d.who ≡ k → d.went ≡ true → kind_after k last (Step d) ≡ Some d.kind
  own_kind last who e = rw (e, eq-eqb d.who k who) refl

  pub own_phase : (phase : Phase) → d.who ≡ k → d.went ≡ true → phase_after k phase (Step d) ≡ next_phase phase d
  own_phase phase who e = rw (e, eq-eqb d.who k who) refl

  pub own_present : (dids : List Did) → d.who ≡ k → says d ≡ false → present_after k dids (Step d) ≡ dids ++ d ∷ []
  own_present dids who e = rw (eq-eqb d.who k who, e) refl

-- what stays of a session whose page and map stay
free_kept : (v w : Shown) (x : Seated) (p : Point) (hold : Grip) (a : Kind) → x.hold ≡ hold → LeavesHeld v w x → StaysFree v p hold a → StaysFree w p hold a
free_kept v w x (Claim owner) (Fetched q mode) a is same free = λ ne. rw (same.image q mode is) (free ne)
free_kept v w x (Claim owner) (Latched q mode) a is same free = tt
free_kept v w x (Claim owner) Free a is same free = tt
free_kept v w x p hold a is same free = tt

lacks_kept : (v w : Shown) (x : Seated) (p : Point) (making : Option ℕ) (hold : Grip) (a : Kind) → x.hold ≡ hold → x.making ≡ making → LeavesHeld v w x → StaysLacking v p making hold a → StaysLacking w p making hold a
lacks_kept v w x Heal (Some cut) (Latched q mode) a is of same lacks = λ copy. same.map q mode cut (inl is) of ∙ lacks copy
lacks_kept v w x Heal (Some cut) (Fetched q mode) a is of same lacks = λ copy. same.map q mode cut (inr is) of ∙ lacks copy
lacks_kept v w x Heal (Some cut) Free a is of same lacks = tt
lacks_kept v w x Heal None hold a is of same lacks = tt
lacks_kept v w x p making hold a is of same lacks = tt

pub reached_kept : (v w : Shown) (last : Option Kind) (phase : Phase) (x : Seated) → LeavesHeld v w x → IsReached v last phase x → IsReached w last phase x
reached_kept v w last phase x same is = record {
  came = is.came;
  stands = is.stands;
  fresh = is.fresh;
  free = λ a at. free_kept v w x x.sitting.point x.hold a refl same (is.free a at);
  lacks = λ a at none. lacks_kept v w x x.sitting.point x.making x.hold a refl refl same (is.lacks a at none);
}

-- only the session of a step leaves in it
leaving_own : (j : ℕ) (d : Did) (event : Event) → d.who ≢ j → IsEntered d event → is_leaving j event ≡ false
leaving_own j d (Left who) ne is = ne_eqb who.0 j (λ same. ne (sym (eqb-true who.0 d.who is.own) ∙ same))
leaving_own j d event ne is = refl

pub others_stay : (j : ℕ) (d : Did) (events : List Event) → d.who ≢ j → AllByRecursion (IsEntered d) events → list_any (is_leaving j) events ≡ false
others_stay j d [] ne h = refl
others_stay j d (event ∷ events) ne h = rw (leaving_own j d event ne h.0, others_stay j d events ne h.1) refl

module _ (z : Sizes) (e s : State) (k : ℕ) (d : Did) (entries : List Entry) (t : Traced z e entries) (d_is : Traces z e s k d) where
  own : IsTraced z e entries k
  own = t.each k d_is.is

  -- the step may stand behind the entries
  positive : k ≢ 0
  positive same = (let first = d_is.is.first in omega (arith, first, same))

  session_kind : (n : ℕ) → n ≢ 0 → (b : Kind) → kind_of e n ≡ Some b → kind_at e.pages (seat e n) (seat e n).sitting.point ≡ Some b
  session_kind zero ne b at = absurd (ne refl)
  session_kind (suc n) ne b at = at

  both : (a b : Bool) → a ≡ true → b ≡ true → (a && b) ≡ true
  both a b at bt = rw (at, bt) refl

  comes : (n : ℕ) → n ≢ 0 → (b : Kind) → IsReached e.pages (last_kind n entries) (phase_of n entries) (seat e n) → kind_of e n ≡ Some b → may_come entries n b ≡ true
  comes n ne b reached at =
      let next = reached_next e.pages (last_kind n entries) (phase_of n entries) (seat e n) b reached (session_kind n ne b at) in
      rw (ne_eqb n 0 ne) (both (follows_last (last_kind n entries) b) (fits_phase (phase_of n entries) b) next.0 next.1)

  -- a refusal that is said here, or waited, has its cause among the steps of the statement
  cause : (m : Message) → IsExplained z (d ∷ []) m.number ⊎ ((seat e k).sitting.waiting ≡ Some (Msg m)) → IsExplained z (present k entries ++ d ∷ []) m.number
  cause m (inl here) = explained_right z (present k entries) (d ∷ []) m.number here
  cause m (inr before) = explained_left z (present k entries) (d ∷ []) m.number (own.met m before)

  caused_reply : (reply : Reply) → IsSaidBy z d (seat e k).sitting.waiting reply → IsCausedBy z (present k entries ++ d ∷ []) reply
  caused_reply (Msg m) said = cause m said
  caused_reply reply said = tt

  caused : (event : Event) → IsSaid z d (seat e k).sitting.waiting event → IsCaused z (present k entries ++ d ∷ []) event
  caused (Said who number began reply) said = caused_reply reply said
  caused event said = tt

  all_caused : (events : List Event) → AllByRecursion (IsSaid z d (seat e k).sitting.waiting) events → AllByRecursion (IsCaused z (present k entries ++ d ∷ [])) events
  all_caused [] h = tt
  all_caused (event ∷ events) h = (caused event h.0, all_caused events h.1)

  step_may_come : IsStep z entries d
  step_may_come = record {
    known = (let who = d_is.who in let last = d_is.is.last in let many = sessions_are z e t.sized in omega (arith, who, last, many));
    kind = subst (λ (n : ℕ). may_come entries n d.kind ≡ true) (sym d_is.who) (comes k positive d.kind own.reached d_is.kind);
    busy = λ vain. (d_is.vain vain).0;
    entered = d_is.entered;
    last = d_is.last;
    causes = subst (λ (n : ℕ). AllByRecursion (IsCaused z (present n entries ++ d ∷ [])) d.events) (sym d_is.who) (all_caused d.events d_is.said);
  }

  -- no other session is touched
  module _ (j : ℕ) (is : IsSession e j) (ne : j ≢ k) where
    other : d.who ≢ j
    other same = ne (sym same ∙ d_is.who)

    old : IsTraced z e entries j
    old = t.each j is

    same_seat : seat s j ≡ seat e j
    same_seat = (d_is.others j ne).0

    other_traced : IsTraced z s (entries ++ Step d ∷ []) j
    other_traced = record {
      left = left_more j entries (Step d) ∙ ap (λ (b : Bool). has_left j entries || b) (others_stay j d d.events other d_is.entered) ∙ or_false (has_left j entries) ∙ old.left ∙ sym (ap (λ (x : Seated). is_gone x.sitting.point) same_seat);
      reached = subst (λ (x : Seated). IsReached s.pages (last_kind j (entries ++ Step d ∷ [])) (phase_of j (entries ++ Step d ∷ [])) x) (sym same_seat)
          (subst (λ (last : Option Kind). IsReached s.pages last (phase_of j (entries ++ Step d ∷ [])) (seat e j)) (sym (kind_more j entries (Step d) ∙ else_kind j d (last_kind j entries) other))
          (subst (λ (phase : Phase). IsReached s.pages (last_kind j entries) phase (seat e j)) (sym (phase_more j entries (Step d) ∙ else_phase j d (phase_of j entries) other))
          (reached_kept e.pages s.pages (last_kind j entries) (phase_of j entries) (seat e j) (d_is.others j ne).1 old.reached)));
      met = λ m waits. subst (λ (dids : List Did). IsExplained z dids m.number) (sym (present_more j entries (Step d) ∙ else_present j d (present j entries) other))
          (old.met m (sym (ap (λ (x : Seated). x.sitting.waiting) same_seat) ∙ waits));
    }

  -- the session of the step
  not_gone : is_gone (seat e k).sitting.point ≡ false
  not_gone = elim (cases_Bool (is_gone (seat e k).sitting.point)) [
    | inl gone ↦ absurd (let none = gone_has_none e.pages (seat e k) (seat e k).sitting.point gone in let some = session_kind k positive d.kind d_is.kind in let both_are : Some d.kind ≡ None = sym some ∙ none in cc)
    | inr stays ↦ stays
  ]

  own_left : has_left k (entries ++ Step d ∷ []) ≡ is_gone (seat s k).sitting.point
  own_left = left_more k entries (Step d) ∙ ap (λ (b : Bool). b || list_any (is_leaving k) d.events) (own.left ∙ not_gone) ∙ sym d_is.left

  own_reached : IsReached s.pages (last_kind k (entries ++ Step d ∷ [])) (phase_of k (entries ++ Step d ∷ [])) (seat s k)
  own_reached = elim (cases_Bool d.went) [
    | inl went ↦
        subst (λ (last : Option Kind). IsReached s.pages last (phase_of k (entries ++ Step d ∷ [])) (seat s k)) (sym (kind_more k entries (Step d) ∙ own_kind k d (last_kind k entries) d_is.who went))
        (subst (λ (phase : Phase). IsReached s.pages (Some d.kind) phase (seat s k)) (sym (phase_more k entries (Step d) ∙ own_phase k d (phase_of k entries) d_is.who went))
        (d_is.reached went (phase_of k entries) own.reached.stands))
    | inr vain ↦
        subst (λ (last : Option Kind). IsReached s.pages last (phase_of k (entries ++ Step d ∷ [])) (seat s k)) (sym (kind_more k entries (Step d) ∙ vain_kind k d (last_kind k entries) vain))
        (subst (λ (phase : Phase). IsReached s.pages (last_kind k entries) phase (seat s k)) (sym (phase_more k entries (Step d) ∙ vain_phase k d (phase_of k entries) vain))
        (subst (λ (v : Shown). IsReached v (last_kind k entries) (phase_of k entries) (seat s k)) (sym (d_is.vain vain).2)
        (subst (λ (xs : List Seated). IsReached e.pages (last_kind k entries) (phase_of k entries) (seat_in xs k)) (sym (d_is.vain vain).1) own.reached)))
  ]

  own_met : (m : Message) → (seat s k).sitting.waiting ≡ Some (Msg m) → IsExplained z (present k (entries ++ Step d ∷ [])) m.number
  own_met m waits = (let h = d_is.waits m waits in
      subst (λ (dids : List Did). IsExplained z dids m.number) (sym (present_more k entries (Step d) ∙ own_present k d (present k entries) d_is.who h.0)) (cause m h.1))

  pub traced_more : Traced z s (entries ++ Step d ∷ [])
  traced_more = record {
    sized = t.sized ∙ sym d_is.sized;
    walked = subst (λ (b : List Event). Walked z (entries ++ Step d ∷ []) b) (sym d_is.events) (walked_more z entries (Step d) e.events t.walked step_may_come);
    each = λ j is. elim (cases_eq j k) [
      | inl here ↦ subst (λ (n : ℕ). IsTraced z s (entries ++ Step d ∷ []) n) (sym here) (record { left = own_left; reached = own_reached; met = own_met })
      | inr ne ↦ other_traced j (record { first = is.first; last = (let last = is.last in let many = ap (λ (y : Sizes). y.sessions) d_is.sized in omega (arith, last, many)) }) ne
    ];
  }

-- the flusher's step touches no session
module _ (z : Sizes) (e s : State) (d : Did) (entries : List Entry) (t : Traced z e entries) (f : Flushes e s d) where
  flush_may_come : IsStep z entries d
  flush_may_come = record {
    known = (let who = f.who in omega (arith, who));
    kind = subst (λ (n : ℕ). may_come entries n d.kind ≡ true) (sym f.who) (subst (λ (b : Kind). is_kind step.Flush b ≡ true) (sym f.kind) refl);
    busy = λ vain. absurd (let went = f.went in cc);
    entered = subst (λ (es : List Event). AllByRecursion (IsEntered d) es) (sym f.quiet) tt;
    last = subst (λ (es : List Event). ends_well es ≡ true) (sym f.quiet) refl;
    causes = subst (λ (es : List Event). AllByRecursion (IsCaused z (present d.who entries ++ d ∷ [])) es) (sym f.quiet) tt;
  }

  module _ (j : ℕ) (is : IsSession e j) where
    apart : d.who ≢ j
    apart same = (let first = is.first in let who = f.who in omega (arith, first, who, same))

    same_at : seat s j ≡ seat e j
    same_at = ap (λ (xs : List Seated). seat_in xs j) f.seats

    before : IsTraced z e entries j
    before = t.each j is

    still_traced : IsTraced z s (entries ++ Step d ∷ []) j
    still_traced = record {
      left = left_more j entries (Step d) ∙ ap (λ (es : List Event). has_left j entries || list_any (is_leaving j) es) f.quiet ∙ or_false (has_left j entries) ∙ before.left ∙ sym (ap (λ (x : Seated). is_gone x.sitting.point) same_at);
      reached = subst (λ (x : Seated). IsReached s.pages (last_kind j (entries ++ Step d ∷ [])) (phase_of j (entries ++ Step d ∷ [])) x) (sym same_at)
          (subst (λ (last : Option Kind). IsReached s.pages last (phase_of j (entries ++ Step d ∷ [])) (seat e j)) (sym (kind_more j entries (Step d) ∙ else_kind j d (last_kind j entries) apart))
          (subst (λ (phase : Phase). IsReached s.pages (last_kind j entries) phase (seat e j)) (sym (phase_more j entries (Step d) ∙ else_phase j d (phase_of j entries) apart))
          (reached_kept e.pages s.pages (last_kind j entries) (phase_of j entries) (seat e j) (f.held j) before.reached)));
      met = λ m waits. subst (λ (dids : List Did). IsExplained z dids m.number) (sym (present_more j entries (Step d) ∙ else_present j d (present j entries) apart))
          (before.met m (sym (ap (λ (x : Seated). x.sitting.waiting) same_at) ∙ waits));
    }

  many_still : length s.seats ≡ length e.seats
  many_still = ap (λ (xs : List Seated). length xs) f.seats

  pub traced_flush : Traced z s (entries ++ Step d ∷ [])
  traced_flush = record {
    sized = t.sized ∙ sym f.sized;
    walked = subst (λ (b : List Event). Walked z (entries ++ Step d ∷ []) b) (sym f.events)
        (subst (λ (b : List Event). Walked z (entries ++ Step d ∷ []) b) (ap (λ (es : List Event). e.events ++ es) f.quiet ∙ append-nil e.events) (walked_more z entries (Step d) e.events t.walked flush_may_come));
    each = λ j is. still_traced j (record { first = is.first; last = (let last = is.last in let many = many_still in omega (arith, last, many)) });
  }

-- the end of a pick tells the kind of the next step
all_gone : (f : ℕ → Bool) (a : ℕ) (seats : List Seated) → ((i : ℕ) → i < length seats → f (a + i) ≡ is_gone (get_or seats i no_seat).sitting.point) → list_all f (range_with_len a (length seats)) ≡ list_all (λ (x : Seated). is_gone x.sitting.point) seats
all_gone f a [] same = refl
all_gone f a (x ∷ xs) same =
    let here : f a ≡ is_gone x.sitting.point = (let at : a + 0 ≡ a = omega arith in subst (λ (n : ℕ). f n ≡ is_gone x.sitting.point) at (same 0 (omega arith))) in
    let later : list_all f (range_with_len (a + 1) (length xs)) ≡ list_all (λ (y : Seated). is_gone y.sitting.point) xs = all_gone f (a + 1) xs (λ i lt. (let at : a + suc i ≡ a + 1 + i = omega arith in subst (λ (n : ℕ). f n ≡ is_gone (get_or xs i no_seat).sitting.point) at (same (suc i) (omega (arith, lt))))) in
    rw (here, later) refl

module _ (z : Sizes) (e : State) (entries : List Entry) (t : Traced z e entries) where
  gone_all : list_all (λ (k : ℕ). has_left k entries) (range_with_len 1 z.sessions) ≡ list_all (λ (x : Seated). is_gone x.sitting.point) e.seats
  gone_all = ap (λ (n : ℕ). list_all (λ (k : ℕ). has_left k entries) (range_with_len 1 n)) (sessions_are z e t.sized)
      ∙ all_gone (λ (k : ℕ). has_left k entries) 1 e.seats (λ i lt. (let at : 1 + i ≡ suc i = omega arith in subst (λ (n : ℕ). has_left n entries ≡ is_gone (get_or e.seats i no_seat).sitting.point) (sym at) (t.each (suc i) (record { first = omega arith; last = omega (arith, lt) })).left))

  end_left : (who : ℕ) → who ≤ length e.seats → is_some (kind_of e who) ≡ not (is_over z.sessions who entries)
  end_left zero le = elim (cases_Bool (list_all (λ (x : Seated). is_gone x.sitting.point) e.seats)) [
    | inl gone ↦ rw (gone_all, gone) refl
    | inr some ↦ rw (gone_all, some) refl
  ]
  end_left (suc k) le =
      let its = (t.each (suc k) (record { first = omega arith; last = le })).left in
      let over : is_over z.sessions (suc k) entries ≡ is_gone (seat e (suc k)).sitting.point = not_flusher (suc k) (λ same. omega (arith, same)) ∙ its in
      subst (λ (b : Bool). is_some (kind_of e (suc k)) ≡ not b) (sym over) (elim (cases_Bool (is_gone (seat e (suc k)).sitting.point)) [
        | inl gone ↦ rw (gone, gone_has_none e.pages (seat e (suc k)) (seat e (suc k)).sitting.point gone) refl
        | inr stays ↦ rw stays (stays_has e.pages (seat e (suc k)) (seat e (suc k)).sitting.point stays)
      ])
    where
      not_flusher : (n : ℕ) → n ≢ 0 → is_over z.sessions n entries ≡ has_left n entries
      not_flusher n ne = rw (ne_eqb n 0 ne) refl

  end_kind : (who : ℕ) → who ≤ length e.seats → (b : Kind) → kind_of e who ≡ Some b → may_come entries who b ≡ true
  end_kind zero le b at = elim (cases_Bool (list_all (λ (x : Seated). is_gone x.sitting.point) e.seats)) [
    | inl gone ↦ absurd (let none = rw gone at at in cc)
    | inr some ↦ (let is : Some step.Flush ≡ Some b = rw some at at in subst (λ (c : Kind). is_kind step.Flush c ≡ true) (of_some step.Flush b is) refl)
  ]
  end_kind (suc k) le b at =
      let next = reached_next e.pages (last_kind (suc k) entries) (phase_of (suc k) entries) (seat e (suc k)) b (t.each (suc k) (record { first = omega arith; last = le })).reached at in
      may_be (suc k) b (λ same. omega (arith, same)) next.0 next.1
    where
      may_be : (n : ℕ) (c : Kind) → n ≢ 0 → follows_last (last_kind n entries) c ≡ true → fits_phase (phase_of n entries) c ≡ true → may_come entries n c ≡ true
      may_be n c ne f g = rw (ne_eqb n 0 ne, f, g) refl

  pub traced_end : (who : ℕ) → who ≤ length e.seats → Traced z e (entries ++ End who (kind_of e who) ∷ [])
  traced_end who le = record {
    sized = t.sized;
    walked = walked_end z entries who (kind_of e who) e.events t.walked (record { known = (let many = sessions_are z e t.sized in omega (arith, many, le)); left = end_left who le; kind = end_kind who le });
    each = λ k is. (let old = t.each k is in record {
      left = left_more k entries (End who (kind_of e who)) ∙ or_false (has_left k entries) ∙ old.left;
      reached = subst (λ (last : Option Kind). IsReached e.pages last (phase_of k (entries ++ End who (kind_of e who) ∷ [])) (seat e k)) (sym (kind_more k entries (End who (kind_of e who))))
          (subst (λ (phase : Phase). IsReached e.pages (last_kind k entries) phase (seat e k)) (sym (phase_more k entries (End who (kind_of e who)))) old.reached);
      met = λ m waits. subst (λ (dids : List Did). IsExplained z dids m.number) (sym (present_more k entries (End who (kind_of e who)))) (old.met m waits);
    });
  }

-- and before the first step there is no entry
pub traced_none : (e : State) → AreFresh e → Traced (sizes_of e) e []
traced_none e fresh = record {
  sized = refl;
  walked = record { joined = sym fresh.events; each = tt };
  each = λ k is. record {
    left = sym (ap is_gone (fresh.starts k is));
    reached = record {
      came = ap (λ (p : Point). is_start p) (fresh.starts k is);
      stands = subst (λ (p : Point). stands_in p (is_some (stmt_at (seat e k).sitting)) (seat e k).hold Between ≡ true) (sym (fresh.starts k is)) refl;
      fresh = λ none. fresh.empty k is;
      free = λ a none. absurd (cc);
      lacks = λ a none copied. absurd (cc);
    };
    met = λ m waits. absurd (let calm = fresh.calm k is in let both_are : Some (Msg m) ≡ None = sym waits ∙ calm in cc);
  };
}

-- One more pick of a schedule, and one more step of a pick.
use Rattle.std.proofs.Common.{◌≡◌, ◌≢◌, inl, inr, true, false, List, [], ◌∷◌, ◌++◌, refl, ap, sym, subst, ◌∙◌, append_assoc}
use Rattle.std.specs.Prelude.{Option}
use Rattle.std.specs.List.{AllByRecursion}
use Rattle.std.proofs.lemmas.List.{append-nil}
use Rattle.plain_model.specs.declared.kind.Kind.{Kind}
use Rattle.plain_model.specs.declared.pick.Pick.{Pick}
use Rattle.plain_model.specs.declared.pick.Until.{Until}
use Rattle.plain_model.specs.declared.pick.Until.TheVariants.{One, Reply, At}
use Rattle.step_trail.specs.Entries.{Did, Entry}
use Rattle.step_trail.specs.Scheduled.{closes, IsOne, Stops, IsToReply, IsStopped, IsUntil, Takes, entries_of, Scheduled, GoesOn, IsAmid, IsBetween, IsLast, IsOver}

pub all_more : {X : Type 0} (P : X → Type 0) (xs : List X) (x : X) → AllByRecursion P xs → P x → AllByRecursion P (xs ++ x ∷ [])
all_more P [] x h p = (p, tt)
all_more P (y ∷ ys) x h p = (h.0, all_more P ys x h.1 p)

pub schedules_join : (ps qs : List Pick) (a b : List Entry) → Scheduled ps a → Scheduled qs b → Scheduled (ps ++ qs) (a ++ b)
schedules_join [] qs a b s t = subst (λ (es : List Entry). Scheduled qs (es ++ b)) (sym s) t
schedules_join (p ∷ ps) qs a b s t = (
  s.0 ++ b,
  record { dids = s.1.dids; next = s.1.next; takes = s.1.takes; are = ap (λ (es : List Entry). es ++ b) s.1.are ∙ append_assoc (entries_of p s.1.dids s.1.next) s.0 b },
  schedules_join ps qs s.0 b s.2 t,
)

pub schedule_more : (ps : List Pick) (a : List Entry) (pick : Pick) (dids : List Did) (next : Option Kind) → Scheduled ps a → Takes pick dids next → Scheduled (ps ++ pick ∷ []) (a ++ entries_of pick dids next)
schedule_more ps a pick dids next s takes = schedules_join ps (pick ∷ []) a (entries_of pick dids next) s
    ([], record { dids = dids; next = next; takes = takes; are = sym (append-nil (entries_of pick dids next)) }, refl)

going_first : (u : Until) → GoesOn u []
going_first One = refl
going_first Reply = tt
going_first (At kind) = tt

pub pick_begins : (pick : Pick) → IsAmid pick []
pick_begins pick = record { by = tt; going = going_first pick.until }

going_more : (u : Until) (dids : List Did) (d : Did) → GoesOn u dids → IsBetween u d → GoesOn u (dids ++ d ∷ [])
going_more One dids d going is = absurd is
going_more Reply dids d going is = all_more (λ (x : Did). closes x ≡ false) dids d going is
going_more (At kind) dids d going is = all_more (λ (x : Did). (closes x ≡ false) × (x.kind ≢ kind)) dids d going is

pub pick_goes_on : (pick : Pick) (dids : List Did) (d : Did) → IsAmid pick dids → d.who ≡ pick.who → IsBetween pick.until d → IsAmid pick (dids ++ d ∷ [])
pick_goes_on pick dids d amid who is = record { by = all_more (λ (x : Did). x.who ≡ pick.who) dids d amid.by who; going = going_more pick.until dids d amid.going is }

stops_last : (S : Type 0) (dids : List Did) (d : Did) → AllByRecursion (λ (x : Did). closes x ≡ false) dids → closes d ≡ true → Stops S (dids ++ d ∷ [])
stops_last S [] d h c = inl c
stops_last S (x ∷ []) d h c = (h.0, inl c)
stops_last S (x ∷ y ∷ ys) d h c = (h.0, stops_last S (y ∷ ys) d h.1 c)

to_reply : (dids : List Did) (d : Did) (next : Option Kind) → AllByRecursion (λ (x : Did). closes x ≡ false) dids → closes d ≡ true → IsToReply (dids ++ d ∷ []) next
to_reply [] d next h c = inl c
to_reply (x ∷ xs) d next h c = stops_last ⊥ (x ∷ xs) d h c

firsts : (kind : Kind) (dids : List Did) → AllByRecursion (λ (x : Did). (closes x ≡ false) × (x.kind ≢ kind)) dids → AllByRecursion (λ (x : Did). closes x ≡ false) dids
firsts kind [] h = tt
firsts kind (x ∷ xs) h = (h.0.0, firsts kind xs h.1)

seconds : (kind : Kind) (dids : List Did) → AllByRecursion (λ (x : Did). (closes x ≡ false) × (x.kind ≢ kind)) dids → AllByRecursion (λ (x : Did). x.kind ≢ kind) dids
seconds kind [] h = tt
seconds kind (x ∷ xs) h = (h.0.1, seconds kind xs h.1)

until_last : (u : Until) (dids : List Did) (d : Did) (next : Option Kind) → GoesOn u dids → IsLast u d → IsUntil u (dids ++ d ∷ []) next
until_last One dids d next going is = subst (λ (ds : List Did). IsOne (ds ++ d ∷ []) next) (sym going) tt
until_last Reply dids d next going is = to_reply dids d next going is
until_last (At kind) dids d next going is =
    (all_more (λ (x : Did). x.kind ≢ kind) dids d (seconds kind dids going) is.1, stops_last (IsStopped kind next) dids d (firsts kind dids going) is.0)

pub pick_ends : (pick : Pick) (dids : List Did) (d : Did) (next : Option Kind) → IsAmid pick dids → d.who ≡ pick.who → IsLast pick.until d → Takes pick (dids ++ d ∷ []) next
pick_ends pick dids d next amid who is = record { by = all_more (λ (x : Did). x.who ≡ pick.who) dids d amid.by who; until = until_last pick.until dids d next amid.going is }

stops_here : (S : Type 0) (dids : List Did) → AllByRecursion (λ (x : Did). closes x ≡ false) dids → S → Stops S dids
stops_here S [] h s = s
stops_here S (x ∷ []) h s = inr s
stops_here S (x ∷ y ∷ ys) h s = (h.0, stops_here S (y ∷ ys) h.1 s)

until_over : (u : Until) (dids : List Did) (next : Option Kind) → GoesOn u dids → IsOver u dids next → IsUntil u dids next
until_over One dids next going is = subst (λ (ds : List Did). IsOne ds next) (sym going) is
until_over Reply dids next going is = subst (λ (ds : List Did). IsToReply ds next) (sym is.0) is.1
until_over (At kind) dids next going is = (seconds kind dids going, stops_here (IsStopped kind next) dids (firsts kind dids going) is)

pub pick_stops : (pick : Pick) (dids : List Did) (next : Option Kind) → IsAmid pick dids → IsOver pick.until dids next → Takes pick dids next
pick_stops pick dids next amid is = record { by = amid.by; until = until_over pick.until dids next amid.going is }

-- Whichever kind the next step of a session is, it may stand behind its last one.
use Rattle.std.proofs.Common.{◌≡◌, ◌≢◌, ◌⊎◌, inl, inr, ℕ, Bool, true, false, ◌||◌, List, [], ◌∷◌, refl, ap, sym, subst}
use Rattle.std.specs.Prelude.{Option, Some, None, is_some, not, ◌==◌}
use Rattle.std.specs.List.{list_all}
use Rattle.std.proofs.lemmas.Bool.{cases_Bool, and_parts}
use Rattle.page_base.specs.declared.numbers.PageId.{PageId}
use Rattle.page_fmt.specs.Content.{content}
use Rattle.plain_model.specs.declared.kind.Kind.{Kind}
use Rattle.plain_model.specs.declared.kind.Kind.TheVariants as step
use Rattle.snap_pages.specs.Cuts.{marked_by, is_sound_by}
use Rattle.snap_pages.specs.Dues.{next_due}
use Rattle.snap_pages.specs.Shown.{Shown, img}
use Rattle.rec_log.specs.Records.{Record}
use Rattle.step_words.specs.declared.point.Point.{Point}
use Rattle.step_words.specs.declared.point.Point.TheVariants.{Start, Lock, Latch, Look, Fetch, Take, Plan, Claim, Change, Undo, Cut, Heal, Gather, Swap, Commit, Say, Leave, Gone}
use Rattle.step_words.specs.Sittings.{stmt_at}
use Rattle.step_words.specs.Seats.{Seated, Grip, Free, Latched, Fetched}
use Rattle.step_trail.specs.Kinds.{is_kind, follows, follows_last, may_say}
use Rattle.step_trail.specs.Entries.{Phase, Between, Amid, Ending}
use Rattle.step_trail.specs.Counting.{ungathered}
use Rattle.step_trail.specs.Next.{once_pushed, has_free, kind_claiming, kind_undoing, healed, kind_healing, kind_making, kind_at, kind_ending}
use Rattle.step_trail.specs.Reached.{among, came_pushing, came_claiming, came_undoing, came_healing, came_to, is_between, is_amid, is_ending, is_start, stands_in, undoes_in, StaysFree, StaysLacking, IsReached}
use Rattle.step_trail.specs.Walked.{fits_phase}
use Rattle.step_trail.proofs.KindLemmas.{kinds_apart}
use Rattle.step_trail.proofs.NextLemmas.{of_some}

-- behind each kind of a list this kind may stand
listed : (b : Kind) (kinds : List Kind) → list_all (λ (a : Kind). follows a b) kinds ≡ true → (a : Kind) → among kinds a ≡ true → follows a b ≡ true
listed b [] all a is = absurd (cc)
listed b (x ∷ xs) all a is = elim (cases_Bool (is_kind a x)) [
  | inl same ↦ subst (λ (y : Kind). follows y b ≡ true) (sym (kinds_apart a x same)) (and_parts (follows x b) (list_all (λ (y : Kind). follows y b) xs) all).0
  | inr other ↦ listed b xs (and_parts (follows x b) (list_all (λ (y : Kind). follows y b) xs) all).1 a (rw other at is)
]

-- where a statement may begin the session may leave
leave_too : (a : Kind) → (not (follows a step.Start) || follows a step.Leave) ≡ true
leave_too = elim [
  | step.Start ↦ refl
  | other ↦ refl
]

-- and what it has written may go back
latch_too : (a : Kind) → (not (follows a step.Start) || follows a step.Latch) ≡ true
latch_too = elim [
  | step.Start ↦ refl
  | other ↦ refl
]

implied : (p q : Bool) → (not p || q) ≡ true → p ≡ true → q ≡ true
implied true q e is = e
implied false q e is = absurd (cc)

-- a page is marked, copied, or done with
data IsPushing (copied : Option ℕ) (last b : Kind) : Type 0 where
  Marks : (cut : ℕ) → copied ≡ Some cut → b ≡ step.Mark → IsPushing copied last b
  Copies : copied ≡ None → b ≡ step.Copy → IsPushing copied last b
  Lasts : copied ≡ None → b ≡ last → IsPushing copied last b

pushing : (v : Shown) (copied : Option ℕ) (p : PageId) (last b : Kind) → once_pushed v copied p last ≡ b → IsPushing copied last b
pushing v (Some cut) p last b e = Marks cut refl (sym e)
pushing v None p last b e = elim (cases_Bool (is_some (next_due v p))) [
  | inl due ↦ Copies refl (sym (rw due at e))
  | inr none ↦ Lasts refl (sym (rw none at e))
]

-- what pushes stands behind what came before a push
push_follows : (first last : Kind) (copied : Option ℕ) (a b : Kind) → follows first step.Copy ≡ true → follows first last ≡ true → follows step.Copy last ≡ true → follows step.Mark last ≡ true
    → came_pushing first copied a ≡ true → IsPushing copied last b → follows a b ≡ true
push_follows first last copied a b fc fl cl ml came (Marks cut is same) =
    subst (λ (x : Kind). follows a x ≡ true) (sym same) (listed step.Mark (step.Copy ∷ []) refl a (subst (λ (c : Option ℕ). came_pushing first c a ≡ true) is came))
push_follows first last copied a b fc fl cl ml came (Copies is same) =
    subst (λ (x : Kind). follows a x ≡ true) (sym same) (listed step.Copy (first ∷ step.Copy ∷ step.Mark ∷ []) (rw fc refl) a (subst (λ (c : Option ℕ). came_pushing first c a ≡ true) is came))
push_follows first last copied a b fc fl cl ml came (Lasts is same) =
    subst (λ (x : Kind). follows a x ≡ true) (sym same) (listed last (first ∷ step.Copy ∷ step.Mark ∷ []) (rw (fl, cl, ml) refl) a (subst (λ (c : Option ℕ). came_pushing first c a ≡ true) is came))

claim_follows : (v : Shown) (owner : ℕ) (copied : Option ℕ) (hold : Grip) (a b : Kind) → came_claiming hold copied a ≡ true → StaysFree v (Claim owner) hold a → kind_claiming v copied hold ≡ b → follows a b ≡ true
claim_follows v owner copied Free a b came free e = subst (λ (x : Kind). follows a x ≡ true) e (listed step.Latch (step.Plan ∷ step.Claim ∷ step.Pass ∷ []) refl a came)
claim_follows v owner copied (Latched p mode) a b came free e = subst (λ (x : Kind). follows a x ≡ true) e (listed step.Fetch (step.Latch ∷ []) refl a came)
claim_follows v owner copied (Fetched p mode) a b came free e = elim (cases_Bool (has_free (content (img v p)))) [
  | inl some ↦ push_follows step.Fetch step.Claim copied a b refl refl refl refl came (pushing v copied p step.Claim b (rw some at e))
  | inr full ↦ elim (cases_Bool (is_kind a step.Fetch)) [
    | inl fetched ↦ subst (λ (x : Kind). follows a x ≡ true) (rw full at e) (subst (λ (x : Kind). follows x step.Pass ≡ true) (sym (kinds_apart a step.Fetch fetched)) refl)
    | inr pushed ↦ absurd (let ne : a ≢ step.Fetch = λ (is : a ≡ step.Fetch). (let same : is_kind a step.Fetch ≡ true = ap (λ (x : Kind). is_kind x step.Fetch) is in cc) in let some = free ne in cc)
  ]
]

undo_follows : (v : Shown) (copied : Option ℕ) (hold : Grip) (a b : Kind) → came_undoing hold copied a ≡ true → kind_undoing v copied hold ≡ b → follows a b ≡ true
undo_follows v copied Free a b came e = subst (λ (x : Kind). follows a x ≡ true) e came
undo_follows v copied (Latched p mode) a b came e = push_follows step.Latch step.Back copied a b refl refl refl refl came (pushing v copied p step.Back b e)
undo_follows v copied (Fetched p mode) a b came e = push_follows step.Latch step.Back copied a b refl refl refl refl came (pushing v copied p step.Back b e)

push_said : (copied : Option ℕ) (a : Kind) → came_pushing step.Latch copied a ≡ true → follows a step.Say ≡ true
push_said None a came = listed step.Say (step.Latch ∷ step.Copy ∷ step.Mark ∷ []) refl a came
push_said (Some cut) a came = listed step.Say (step.Copy ∷ []) refl a came

heal_said : (hold : Grip) (copied : Option ℕ) (a : Kind) → came_healing hold copied a ≡ true → follows a step.Say ≡ true
heal_said Free copied a came = listed step.Say (step.Cut ∷ step.Heal ∷ []) refl a came
heal_said (Latched p mode) copied a came = push_said copied a came
heal_said (Fetched p mode) copied a came = push_said copied a came

-- a page that the new snapshot has is healed, and one that it lacks is copied
healed_follows : (copied : Option ℕ) (has : Bool) (a b : Kind) → came_pushing step.Latch copied a ≡ true → (copied ≡ None → a ≡ step.Copy → has ≡ false) → healed copied has ≡ b → follows a b ≡ true
healed_follows (Some cut) has a b came lacks e = subst (λ (x : Kind). follows a x ≡ true) e (listed step.Mark (step.Copy ∷ []) refl a came)
healed_follows None false a b came lacks e = subst (λ (x : Kind). follows a x ≡ true) e (listed step.Copy (step.Latch ∷ step.Copy ∷ step.Mark ∷ []) refl a came)
healed_follows None true a b came lacks e = subst (λ (x : Kind). follows a x ≡ true) e (elim (cases_Bool (is_kind a step.Copy)) [
  | inl copy ↦ absurd (let lacked = lacks refl (kinds_apart a step.Copy copy) in cc)
  | inr other ↦ listed step.Heal (step.Latch ∷ step.Mark ∷ []) refl a (without a came other)
])
  where
    without : (x : Kind) → among (step.Latch ∷ step.Copy ∷ step.Mark ∷ []) x ≡ true → is_kind x step.Copy ≡ false → among (step.Latch ∷ step.Mark ∷ []) x ≡ true
    without x is uncopied = elim (cases_Bool (is_kind x step.Latch)) [
      | inl latch ↦ rw latch refl
      | inr else ↦ rw else (rw uncopied at (rw else at is))
    ]

heal_follows : (v : Shown) (copied : Option ℕ) (cut : ℕ) (hold : Grip) (a b : Kind) → came_healing hold copied a ≡ true → (copied ≡ None → StaysLacking v Heal (Some cut) hold a) → kind_healing v copied cut hold ≡ b → follows a b ≡ true
heal_follows v copied cut Free a b came lacks e = subst (λ (x : Kind). follows a x ≡ true) e (listed step.Latch (step.Cut ∷ step.Heal ∷ []) refl a came)
heal_follows v copied cut (Latched p mode) a b came lacks e = healed_follows copied (marked_by v cut p) a b came lacks e
heal_follows v copied cut (Fetched p mode) a b came lacks e = healed_follows copied (marked_by v cut p) a b came lacks e

make_follows : (v : Shown) (x : Seated) (making : Option ℕ) (a b : Kind) → came_healing x.hold x.copied a ≡ true → (x.copied ≡ None → StaysLacking v Heal making x.hold a) → kind_making v x making ≡ b → follows a b ≡ true
make_follows v x None a b came lacks e = subst (λ (k : Kind). follows a k ≡ true) e (heal_said x.hold x.copied a came)
make_follows v x (Some cut) a b came lacks e = elim (cases_Bool (is_sound_by v cut)) [
  | inl sound ↦ heal_follows v x.copied cut x.hold a b came lacks (rw sound at e)
  | inr suspect ↦ subst (λ (k : Kind). follows a k ≡ true) (rw suspect at e) (heal_said x.hold x.copied a came)
]

-- at a point with one kind of step
just : (a c b : Kind) → follows a c ≡ true → Some c ≡ Some b → follows a b ≡ true
just a c b is e = subst (λ (k : Kind). follows a k ≡ true) (of_some c b e) is

end_follows : (records : List Record) (a b : Kind) → may_say a ≡ true → Some (kind_ending records) ≡ Some b → follows a b ≡ true
end_follows [] a b came e = just a step.Leave b (implied (follows a step.Start) (follows a step.Leave) (leave_too a) came) e
end_follows (r ∷ rs) a b came e = just a step.Latch b (implied (follows a step.Start) (follows a step.Latch) (latch_too a) came) e

pub next_follows : (v : Shown) (x : Seated) (p : Point) (a b : Kind) → came_to p x.hold x.copied a ≡ true → StaysFree v p x.hold a → (x.copied ≡ None → StaysLacking v p x.making x.hold a) → kind_at v x p ≡ Some b → follows a b ≡ true
next_follows v x Start a b came free lacks e = elim (cases_Bool (is_some (stmt_at x.sitting))) [
  | inl more ↦ just a step.Start b came (rw more at e)
  | inr none ↦ end_follows x.work.recs a b came (rw none at e)
]
next_follows v x (Lock table number mode) a b came free lacks e = just a step.Lock b (listed step.Lock (step.Start ∷ step.Seek ∷ step.Read ∷ []) refl a came) e
next_follows v x (Latch page false) a b came free lacks e = just a step.Latch b (listed step.Latch (step.Start ∷ step.Lock ∷ step.Seek ∷ step.Read ∷ []) refl a came) e
next_follows v x (Latch page true) a b came free lacks e = just a step.Latch b (listed step.Latch (step.Plan ∷ step.Claim ∷ step.Change ∷ []) refl a came) e
next_follows v x (Look page) a b came free lacks e = just a step.Look b (listed step.Look (step.Latch ∷ []) refl a came) e
next_follows v x (Fetch page) a b came free lacks e = just a step.Fetch b (listed step.Fetch (step.Latch ∷ step.Look ∷ []) refl a came) e
next_follows v x (Take page true) a b came free lacks e = just a step.Read b (listed step.Read (step.Fetch ∷ []) refl a came) e
next_follows v x (Take page false) a b came free lacks e = just a step.Seek b (listed step.Seek (step.Fetch ∷ []) refl a came) e
next_follows v x Plan a b came free lacks e = just a step.Plan b (listed step.Plan (step.Lock ∷ step.Seek ∷ step.Read ∷ []) refl a came) e
next_follows v x (Claim owner) a b came free lacks e = claim_follows v owner x.copied x.hold a b came free (of_some (kind_claiming v x.copied x.hold) b e)
next_follows v x (Change page) a b came free lacks e = push_follows step.Fetch step.Change x.copied a b refl refl refl refl came (pushing v x.copied page step.Change b (of_some (once_pushed v x.copied page step.Change) b e))
next_follows v x (Undo all) a b came free lacks e = undo_follows v x.copied x.hold a b came (of_some (kind_undoing v x.copied x.hold) b e)
next_follows v x Cut a b came free lacks e = just a step.Cut b (listed step.Cut (step.Start ∷ []) refl a came) e
next_follows v x Heal a b came free lacks e = make_follows v x x.making a b came lacks (of_some (kind_making v x x.making) b e)
next_follows v x Gather a b came free lacks e = elim (cases_Bool (ungathered v x.gathered == 0)) [
  | inl done ↦ just a step.Swap b (listed step.Swap (step.Start ∷ step.Gather ∷ []) refl a came) (rw done at e)
  | inr more ↦ just a step.Gather b (listed step.Gather (step.Start ∷ step.Gather ∷ []) refl a came) (rw more at e)
]
next_follows v x Swap a b came free lacks e = just a step.Swap b (listed step.Swap (step.Start ∷ step.Gather ∷ []) refl a came) e
next_follows v x Commit a b came free lacks e = just a step.Commit b (listed step.Commit (step.Start ∷ step.Plan ∷ step.Claim ∷ step.Change ∷ []) refl a came) e
next_follows v x Say a b came free lacks e = just a step.Say b came e
next_follows v x Leave a b came free lacks e = just a step.Leave b came e
next_follows v x Gone a b came free lacks e = absurd (cc)

-- amid a statement none begins, and the session doesn't leave
abbrev is_inner : Kind → Bool
is_inner b = fits_phase Amid b

-- at the end it only takes back, and leaves
abbrev is_outer : Kind → Bool
is_outer b = fits_phase Ending b

amid_is : (phase : Phase) → is_amid phase ≡ true → phase ≡ Amid
amid_is Amid e = refl
amid_is Between e = absurd (cc)
amid_is Ending e = absurd (cc)

ending_is : (phase : Phase) → is_ending phase ≡ true → phase ≡ Ending
ending_is Ending e = refl
ending_is Between e = absurd (cc)
ending_is Amid e = absurd (cc)

push_fits : (phase : Phase) (copied : Option ℕ) (last b : Kind) → fits_phase phase step.Mark ≡ true → fits_phase phase step.Copy ≡ true → fits_phase phase last ≡ true → IsPushing copied last b → fits_phase phase b ≡ true
push_fits phase copied last b m c l (Marks cut is same) = subst (λ (k : Kind). fits_phase phase k ≡ true) (sym same) m
push_fits phase copied last b m c l (Copies is same) = subst (λ (k : Kind). fits_phase phase k ≡ true) (sym same) c
push_fits phase copied last b m c l (Lasts is same) = subst (λ (k : Kind). fits_phase phase k ≡ true) (sym same) l

claim_inner : (v : Shown) (copied : Option ℕ) (hold : Grip) (b : Kind) → kind_claiming v copied hold ≡ b → is_inner b ≡ true
claim_inner v copied Free b e = subst (λ (k : Kind). is_inner k ≡ true) e refl
claim_inner v copied (Latched p mode) b e = subst (λ (k : Kind). is_inner k ≡ true) e refl
claim_inner v copied (Fetched p mode) b e = elim (cases_Bool (has_free (content (img v p)))) [
  | inl some ↦ push_fits Amid copied step.Claim b refl refl refl (pushing v copied p step.Claim b (rw some at e))
  | inr full ↦ subst (λ (k : Kind). is_inner k ≡ true) (rw full at e) refl
]

undo_fits : (v : Shown) (more : Bool) (copied : Option ℕ) (hold : Grip) (phase : Phase) (b : Kind) → undoes_in more hold phase ≡ true → kind_undoing v copied hold ≡ b → fits_phase phase b ≡ true
undo_fits v true copied Free phase b fits e = subst (λ (k : Kind). fits_phase phase k ≡ true) e (subst (λ (f : Phase). fits_phase f step.Latch ≡ true) (sym (amid_is phase fits)) refl)
undo_fits v true copied (Latched p mode) phase b fits e = subst (λ (f : Phase). fits_phase f b ≡ true) (sym (amid_is phase fits)) (push_fits Amid copied step.Back b refl refl refl (pushing v copied p step.Back b e))
undo_fits v true copied (Fetched p mode) phase b fits e = subst (λ (f : Phase). fits_phase f b ≡ true) (sym (amid_is phase fits)) (push_fits Amid copied step.Back b refl refl refl (pushing v copied p step.Back b e))
undo_fits v false copied Free Between b fits e = subst (λ (k : Kind). fits_phase Between k ≡ true) e refl
undo_fits v false copied Free Ending b fits e = subst (λ (k : Kind). fits_phase Ending k ≡ true) e refl
undo_fits v false copied Free Amid b fits e = absurd (cc)
undo_fits v false copied (Latched p mode) phase b fits e = subst (λ (f : Phase). fits_phase f b ≡ true) (sym (ending_is phase fits)) (push_fits Ending copied step.Back b refl refl refl (pushing v copied p step.Back b e))
undo_fits v false copied (Fetched p mode) phase b fits e = subst (λ (f : Phase). fits_phase f b ≡ true) (sym (ending_is phase fits)) (push_fits Ending copied step.Back b refl refl refl (pushing v copied p step.Back b e))

healed_inner : (copied : Option ℕ) (has : Bool) → is_inner (healed copied has) ≡ true
healed_inner (Some cut) has = refl
healed_inner None true = refl
healed_inner None false = refl

heal_inner : (v : Shown) (copied : Option ℕ) (cut : ℕ) (hold : Grip) → is_inner (kind_healing v copied cut hold) ≡ true
heal_inner v copied cut Free = refl
heal_inner v copied cut (Latched p mode) = healed_inner copied (marked_by v cut p)
heal_inner v copied cut (Fetched p mode) = healed_inner copied (marked_by v cut p)

make_inner : (v : Shown) (x : Seated) (making : Option ℕ) → is_inner (kind_making v x making) ≡ true
make_inner v x None = refl
make_inner v x (Some cut) = elim (cases_Bool (is_sound_by v cut)) [
  | inl sound ↦ rw sound (heal_inner v x.copied cut x.hold)
  | inr suspect ↦ rw suspect refl
]

-- at a point amid a statement
inner : (phase : Phase) (c b : Kind) → is_amid phase ≡ true → is_inner c ≡ true → Some c ≡ Some b → fits_phase phase b ≡ true
inner phase c b fits is e = subst (λ (f : Phase). fits_phase f b ≡ true) (sym (amid_is phase fits)) (subst (λ (k : Kind). is_inner k ≡ true) (of_some c b e) is)

leave_fits : (phase : Phase) → not (is_amid phase) ≡ true → fits_phase phase step.Leave ≡ true
leave_fits Between e = refl
leave_fits Ending e = refl
leave_fits Amid e = absurd (cc)

start_fits : (phase : Phase) (b : Kind) → is_between phase ≡ true → (b ≡ step.Start) ⊎ ((b ≡ step.Leave) ⊎ (b ≡ step.Latch)) → fits_phase phase b ≡ true
start_fits Between b e (inl is) = subst (λ (k : Kind). fits_phase Between k ≡ true) (sym is) refl
start_fits Between b e (inr (inl is)) = subst (λ (k : Kind). fits_phase Between k ≡ true) (sym is) refl
start_fits Between b e (inr (inr is)) = subst (λ (k : Kind). fits_phase Between k ≡ true) (sym is) refl
start_fits Amid b e is = absurd (cc)
start_fits Ending b e is = absurd (cc)

end_step : (records : List Record) (b : Kind) → Some (kind_ending records) ≡ Some b → (b ≡ step.Start) ⊎ ((b ≡ step.Leave) ⊎ (b ≡ step.Latch))
end_step [] b e = inr (inl (sym (of_some step.Leave b e)))
end_step (r ∷ rs) b e = inr (inr (sym (of_some step.Latch b e)))

-- at its start a session takes a statement, or ends
first_step : (v : Shown) (x : Seated) (b : Kind) → kind_at v x Start ≡ Some b → (b ≡ step.Start) ⊎ ((b ≡ step.Leave) ⊎ (b ≡ step.Latch))
first_step v x b e = elim (cases_Bool (is_some (stmt_at x.sitting))) [
  | inl more ↦ inl (sym (of_some step.Start b (rw more at e)))
  | inr none ↦ end_step x.work.recs b (rw none at e)
]

-- and where it has written nothing it takes one, or leaves
fresh_end : (records : List Record) (b : Kind) → records ≡ [] → Some (kind_ending records) ≡ Some b → (b ≡ step.Start) ⊎ (b ≡ step.Leave)
fresh_end [] b none e = inr (sym (of_some step.Leave b e))
fresh_end (r ∷ rs) b none e = absurd (cc)

fresh_step : (v : Shown) (x : Seated) (b : Kind) → x.work.recs ≡ [] → kind_at v x Start ≡ Some b → (b ≡ step.Start) ⊎ (b ≡ step.Leave)
fresh_step v x b empty e = elim (cases_Bool (is_some (stmt_at x.sitting))) [
  | inl more ↦ inl (sym (of_some step.Start b (rw more at e)))
  | inr none ↦ fresh_end x.work.recs b empty (rw none at e)
]

pub next_fits : (v : Shown) (x : Seated) (p : Point) (phase : Phase) (b : Kind) → stands_in p (is_some (stmt_at x.sitting)) x.hold phase ≡ true → kind_at v x p ≡ Some b → fits_phase phase b ≡ true
next_fits v x Start phase b fits e = start_fits phase b fits (first_step v x b e)
next_fits v x (Lock table number mode) phase b fits e = inner phase step.Lock b fits refl e
next_fits v x (Latch page ex) phase b fits e = inner phase step.Latch b fits refl e
next_fits v x (Look page) phase b fits e = inner phase step.Look b fits refl e
next_fits v x (Fetch page) phase b fits e = inner phase step.Fetch b fits refl e
next_fits v x (Take page true) phase b fits e = inner phase step.Read b fits refl e
next_fits v x (Take page false) phase b fits e = inner phase step.Seek b fits refl e
next_fits v x Plan phase b fits e = inner phase step.Plan b fits refl e
next_fits v x (Claim owner) phase b fits e = inner phase (kind_claiming v x.copied x.hold) b fits (claim_inner v x.copied x.hold (kind_claiming v x.copied x.hold) refl) e
next_fits v x (Change page) phase b fits e = inner phase (once_pushed v x.copied page step.Change) b fits (push_fits Amid x.copied step.Change (once_pushed v x.copied page step.Change) refl refl refl (pushing v x.copied page step.Change (once_pushed v x.copied page step.Change) refl)) e
next_fits v x (Undo all) phase b fits e = undo_fits v (is_some (stmt_at x.sitting)) x.copied x.hold phase b fits (of_some (kind_undoing v x.copied x.hold) b e)
next_fits v x Cut phase b fits e = inner phase step.Cut b fits refl e
next_fits v x Heal phase b fits e = inner phase (kind_making v x x.making) b fits (make_inner v x x.making) e
next_fits v x Gather phase b fits e = elim (cases_Bool (ungathered v x.gathered == 0)) [
  | inl done ↦ inner phase step.Swap b fits refl (rw done at e)
  | inr more ↦ inner phase step.Gather b fits refl (rw more at e)
]
next_fits v x Swap phase b fits e = inner phase step.Swap b fits refl e
next_fits v x Commit phase b fits e = inner phase step.Commit b fits refl e
next_fits v x Say phase b fits e = inner phase step.Say b fits refl e
next_fits v x Leave phase b fits e = subst (λ (k : Kind). fits_phase phase k ≡ true) (of_some step.Leave b e) (leave_fits phase fits)
next_fits v x Gone phase b fits e = absurd (cc)

-- a session that has reached its point takes a step there that may come
pub reached_next : (v : Shown) (last : Option Kind) (phase : Phase) (x : Seated) (b : Kind) → IsReached v last phase x → kind_at v x x.sitting.point ≡ Some b → (follows_last last b ≡ true) × (fits_phase phase b ≡ true)
reached_next v None phase x b is e = (first is.came e, next_fits v x x.sitting.point phase b is.stands e)
  where
    begins : (k : Kind) → (k ≡ step.Start) ⊎ (k ≡ step.Leave) → follows_last None k ≡ true
    begins k (inl same) = subst (λ (c : Kind). follows_last None c ≡ true) (sym same) refl
    begins k (inr same) = subst (λ (c : Kind). follows_last None c ≡ true) (sym same) refl

    only : (p : Point) → is_start p ≡ true → kind_at v x p ≡ Some b → follows_last None b ≡ true
    only Start yes_start at = begins b (fresh_step v x b (is.fresh refl) at)
    only p other at = absurd (cc)

    first : is_start x.sitting.point ≡ true → kind_at v x x.sitting.point ≡ Some b → follows_last None b ≡ true
    first = only x.sitting.point
reached_next v (Some a) phase x b is e = (next_follows v x x.sitting.point a b is.came (is.free a refl) (is.lacks a refl) e, next_fits v x x.sitting.point phase b is.stands e)

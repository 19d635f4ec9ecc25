-- What a session's statement enters in the history, whichever course it takes.
use Rattle.std.proofs.Common.{◌≡◌, ◌+◌, ◌≤◌, ◌⊎◌, inl, inr, ℕ, Bool, true, false, ◌||◌, List, [], ◌∷◌, ◌++◌, length, refl, append_assoc, ap, sym, ◌∙◌, subst}
use Rattle.std.proofs.Math.ListN.{set}
use Rattle.std.specs.List.{AllByRecursion, list_any}
use Rattle.std.specs.Prelude.{◌==◌}
use Rattle.std.proofs.lemmas.Bool.{eqb-true}
use Rattle.page_base.specs.declared.numbers.SessNo.{SessNo}
use Rattle.page_dev.specs.Faults.{Rose}
use Rattle.plain_model.specs.declared.stmt.Stmt.{Stmt}
use Rattle.plain_model.specs.declared.event.Event.{Event}
use Rattle.plain_model.specs.declared.event.Event.TheVariants.{Locked, CutAt, RestoreAt, Turned, Said, Left}
use Rattle.plain_model.specs.declared.reply.Reply.{Reply}
use Rattle.plain_model.specs.declared.reply.Reply.TheVariants.{Ok, Count, Rows, Msg}
use Rattle.plain_model.specs.declared.reply.TheConstants.Message.{FILE_FAILED}
use Rattle.early_pages.specs.Shown.{Shown}
use Rattle.early_engine.specs.declared.seat.Seat.{Seat}
use Rattle.early_engine.specs.declared.answer.Answer.{Answer}
use Rattle.early_engine.specs.declared.answer.Answer.TheVariants.{AtOnce, UnderAll, UnderTable}
use Rattle.early_engine.specs.Entering.{Kept}
use Rattle.early_engine.specs.Pushing.{IsTurn}
use Rattle.early_engine.specs.Ready.{reply_of}
use Rattle.early_engine.specs.Stepping.{number, lock_events}
use Rattle.early_engine.specs.Safe.{Run, Disk, seat_at, Safe}
use Rattle.early_engine.specs.Doing.{Does}
use Rattle.early_engine.specs.Causes.{HasPlace, IsRoomReply, StaysShort, IsVolumeReply, IsNoShortage, IsNoFailure, is_failure}
use Rattle.table_pages.specs.declared.edit.Edit.{Edit}
use Rattle.early_engine.specs.Deciding.{IsShort}
use Rattle.early_engine.specs.Creating.{Adds}
use Rattle.early_engine.specs.Steps.{next_stmt, HasNext, IsOwn, Says}
use Rattle.early_engine.proofs.SafeLemmas.{either}
use Rattle.early_engine.proofs.CourseLemmas.{here, within}

-- a reply that doesn't say that there is no room, over pages that have it
pub roomy : (v : Shown) (stmt : Stmt) (r : Reply) → HasPlace v stmt → IsNoShortage r → IsRoomReply v stmt r
roomy v stmt (Msg m) place h = λ is. absurd (h is)
roomy v stmt Ok place h = place
roomy v stmt (Count n) place h = place
roomy v stmt (Rows rs) place h = place

-- then it says nothing of what stays
pub roomy_stays : (old new : Shown) (r : Reply) → IsNoShortage r → StaysShort old new r
roomy_stays old new (Msg m) h = λ is. absurd (h is)
roomy_stays old new Ok h = tt
roomy_stays old new (Count n) h = tt
roomy_stays old new (Rows rs) h = tt

-- what edits nothing where there is no room leaves all as it was
pub short_stays : (old new : Shown) (r : Reply) (edits : List Edit) → IsShort r edits → (edits ≡ [] → new ≡ old) → StaysShort old new r
short_stays old new (Msg m) edits h still = λ is. still (h is)
short_stays old new Ok edits h still = tt
short_stays old new (Count n) edits h still = tt
short_stays old new (Rows rs) edits h still = tt

-- a reply that doesn't say that the volume failed
pub unfailing : (before now : ℕ) (r : Reply) → IsNoFailure r → IsVolumeReply before now r
unfailing before now (Msg m) h = (h.0, λ is. absurd (h.1 is))
unfailing before now Ok h = tt
unfailing before now (Count n) h = tt
unfailing before now (Rows rs) h = tt

-- an event of session k's own, or a turn
abbrev pub Amid : ℕ → Shown → Shown → Event → Type 0
Amid k old new event = IsOwn k event ⊎ IsTurn old new event

turns_amid : (k : ℕ) (old new : Shown) (es : List Event) → AllByRecursion (IsTurn old new) es → AllByRecursion (Amid k old new) es
turns_amid k old new [] h = tt
turns_amid k old new (x ∷ xs) h = (inr h.0, turns_amid k old new xs h.1)

locks_amid : (k : ℕ) (old new : Shown) (a : Answer) (es : List Event) → AllByRecursion (Amid k old new) es → AllByRecursion (Amid k old new) (lock_events k a ++ es)
locks_amid k old new (AtOnce r) es h = h
locks_amid k old new (UnderAll m r) es h = (inl refl, h)
locks_amid k old new (UnderTable t m r) es h = (inl refl, (inl refl, h))

-- the cut's own event
cut_amid : (k : ℕ) (old new : Shown) (es : List Event) → (es ≡ []) ⊎ ((snap : List ℕ) × (es ≡ CutAt (number k) snap ∷ [])) → AllByRecursion (Amid k old new) es
cut_amid k old new es (inl is) = subst (λ (x : List Event). AllByRecursion (Amid k old new) x) (sym is) tt
cut_amid k old new es (inr is) = subst (λ (x : List Event). AllByRecursion (Amid k old new) x) (sym is.1) (inl refl, tt)

no_reply : (k : ℕ) (old new : Shown) (x : Event) → Amid k old new x → is_failure x ≡ false
no_reply k old new (Locked who t m) h = refl
no_reply k old new (CutAt who s) h = refl
no_reply k old new (RestoreAt who s) h = refl
no_reply k old new (Turned s) h = refl
no_reply k old new (Said w n b r) (inl h) = absurd h
no_reply k old new (Said w n b r) (inr t) = absurd (let e = t.is in cc)
no_reply k old new (Left w) h = refl

-- where the reply says that the volume failed its count rose
blamed_last : (before now : ℕ) (w : SessNo) (n b : ℕ) (r : Reply) → IsVolumeReply before now r → list_any is_failure (Said w n b r ∷ []) ≡ true → Rose before now
blamed_last before now w n b (Msg m) h t = elim (either (m.number == FILE_FAILED) false t) [ inl e ↦ h.1 (eqb-true m.number FILE_FAILED e) | inr e ↦ absurd (let x : false ≡ true = e in cc) ]
blamed_last before now w n b Ok h t = absurd (let x : false ≡ true = t in cc)
blamed_last before now w n b (Count c) h t = absurd (let x : false ≡ true = t in cc)
blamed_last before now w n b (Rows rs) h t = absurd (let x : false ≡ true = t in cc)

blamed : (before now k : ℕ) (old new : Shown) (amid : List Event) (w : SessNo) (n b : ℕ) (r : Reply) → AllByRecursion (Amid k old new) amid → IsVolumeReply before now r → list_any is_failure (amid ++ Said w n b r ∷ []) ≡ true → Rose before now
blamed before now k old new [] w n b r each h t = blamed_last before now w n b r h t
blamed before now k old new (x ∷ xs) w n b r each h t =
    blamed before now k old new xs w n b r each.1 h (sym (ap (λ (c : Bool). c || list_any is_failure (xs ++ Said w n b r ∷ [])) (no_reply k old new x each.0)) ∙ t)

module _ (e : Run) (safe : Safe e) (i : ℕ) (next : HasNext e i) (old : Run) (is : e ≡ old) (seat : Seat) (seat_is : seat ≡ seat_at e i) where
  -- the session alone moved, and its reply stands last behind events of its own and turns
  module _ (disk : Disk) (told : disk.told ≡ e.disk.told) (failures : e.disk.failures ≤ disk.failures) (file_failures : e.disk.file_failures ≤ disk.file_failures) (v : Shown) (kept : Kept)
      (reply : Reply) (amid : List Event) (grows : kept.events ≡ e.kept.events ++ (amid ++ Said (number (i + 1)) ((seat_at e i).said + 1) (length e.kept.events) reply ∷ []))
      (each : AllByRecursion (Amid (i + 1) e.shown v) amid) (room : IsRoomReply e.shown (next_stmt e i) reply) (short : StaysShort e.shown v reply) (volume : IsVolumeReply e.disk.failures disk.failures reply) where
    abbrev after : Seat → Run
    after s = record e { disk = disk; shown = v; seats = set e.seats i s; kept = kept }

    says_with : (current : List ℕ) → Says old (after (record { current = current; said = (seat_at e i).said + 1; gone = false })) i
    says_with current =
        subst (λ (r : Run). Says r (after (record { current = current; said = (seat_at e i).said + 1; gone = false })) i) is (record {
          next = next;
          here = here e safe i next;
          current = current;
          steps = record {
            within = within e safe i next;
            goes = record { opening = refl; scripts = refl; told = told; came = amid ++ Said (number (i + 1)) ((seat_at e i).said + 1) (length e.kept.events) reply ∷ []; grows = grows; failures = failures; file_failures = file_failures; blame = blamed e.disk.failures disk.failures (i + 1) e.shown v amid (number (i + 1)) ((seat_at e i).said + 1) (length e.kept.events) reply each volume };
            seats = refl;
          };
          reply = reply;
          enters = record { amid = amid; grows = grows; each = each };
          room = room;
          short = short;
          volume = volume;
        })

    says_at : (current : List ℕ) → Says old (after (record { current = current; said = seat.said + 1; gone = false })) i
    says_at current = subst (λ (s : Seat). Says old (after (record { current = current; said = s.said + 1; gone = false })) i) (sym seat_is) (says_with current)

    says_here : Says old (after (record { current = seat.current; said = seat.said + 1; gone = seat.gone })) i
    says_here = subst (λ (b : Bool). Says old (after (record { current = seat.current; said = seat.said + 1; gone = b })) i) (sym (ap (λ (s : Seat). s.gone) seat_is ∙ here e safe i next)) (says_at seat.current)

  -- a statement whose answer was carried out
  module _ (answer : Answer) (v : Shown) (kept : Kept) (does : Does (i + 1) ((seat_at e i).said + 1) answer e.kept kept e.shown v) (room : IsRoomReply e.shown (next_stmt e i) (reply_of answer)) (short : StaysShort e.shown v (reply_of answer)) (fine : IsNoFailure (reply_of answer)) where
    abbrev amid_of : List Event
    amid_of = lock_events (i + 1) answer ++ does.turned

    grows_of : kept.events ≡ e.kept.events ++ (amid_of ++ Said (number (i + 1)) ((seat_at e i).said + 1) (length e.kept.events) (reply_of answer) ∷ [])
    grows_of = does.events ∙ ap (λ (es : List Event). e.kept.events ++ es) (sym (append_assoc (lock_events (i + 1) answer) does.turned (Said (number (i + 1)) ((seat_at e i).said + 1) (length e.kept.events) (reply_of answer) ∷ [])))

    each_of : AllByRecursion (Amid (i + 1) e.shown v) amid_of
    each_of = locks_amid (i + 1) e.shown v answer does.turned (turns_amid (i + 1) e.shown v does.turned does.each)

    pub says_answer : (e.disk.failures ≤ e.disk.failures) → (e.disk.file_failures ≤ e.disk.file_failures) → (current : List ℕ) → Says old (record e { shown = v; seats = set e.seats i (record { current = current; said = seat.said + 1; gone = false }); kept = kept }) i
    says_answer f g current = says_at e.disk refl f g v kept (reply_of answer) amid_of grows_of each_of room short (unfailing e.disk.failures e.disk.failures (reply_of answer) fine) current

    pub says_seen : (e.disk.failures ≤ e.disk.failures) → (e.disk.file_failures ≤ e.disk.file_failures) → Says old (record e { shown = v; seats = set e.seats i (record { current = seat.current; said = seat.said + 1; gone = seat.gone }); kept = kept }) i
    says_seen f g = says_here e.disk refl f g v kept (reply_of answer) amid_of grows_of each_of room short (unfailing e.disk.failures e.disk.failures (reply_of answer) fine)

  -- CREATE DATABASE
  pub says_cut : (disk : Disk) → disk.told ≡ e.disk.told → e.disk.failures ≤ disk.failures → e.disk.file_failures ≤ disk.file_failures → (v : Shown) (kept : Kept) → HasPlace e.shown (next_stmt e i) → Adds (i + 1) (seat.said + 1) e.disk disk e.kept kept →
      Says old (record e { disk = disk; shown = v; seats = set e.seats i (record { current = seat.current; said = seat.said + 1; gone = seat.gone }); kept = kept }) i
  says_cut disk told failures file_failures v kept place adds =
      says_here disk told failures file_failures v kept adds.reply adds.amid
      (adds.grows ∙ ap (λ (s : Seat). e.kept.events ++ (adds.amid ++ Said (number (i + 1)) (s.said + 1) (length e.kept.events) adds.reply ∷ [])) seat_is)
      (cut_amid (i + 1) e.shown v adds.amid adds.cuts) (roomy e.shown (next_stmt e i) adds.reply place adds.room) (roomy_stays e.shown v adds.reply adds.room) adds.volume

-- Which kind the next step of a session is: by its point, by what it holds, and by the snapshots that lack its page.
use Rattle.std.specs.Prelude.{ℕ, zero, suc, Bool, true, false, ◌==◌, if◌then◌else◌, List, Option, Some, None, is_some, [], ◌∷◌}
use Rattle.std.specs.List.{list_any, list_all}
use Rattle.page_base.specs.declared.numbers.PageId.{PageId}
use Rattle.page_fmt.specs.Content.{content}
use Rattle.alloc_pages.specs.Owners.{owner_in}
use Rattle.plain_model.specs.declared.kind.Kind.{Kind}
use Rattle.plain_model.specs.declared.kind.Kind.TheVariants as step
use Rattle.snap_pages.specs.Cuts.{marked_by, is_sound_by}
use Rattle.snap_pages.specs.Dues.{next_due}
use Rattle.snap_pages.specs.Shown.{Shown, img}
use Rattle.rec_log.specs.Records.{Record}
use Rattle.step_words.specs.declared.point.Point.{Point}
use Rattle.step_words.specs.declared.point.Point.TheVariants.{Start, Lock, Latch, Look, Fetch, Take, Plan, Claim, Change, Undo, Cut, Heal, Gather, Swap, Commit, Say, Leave, Gone}
use Rattle.step_words.specs.Sittings.{stmt_at}
use Rattle.step_words.specs.Seats.{Seated, Grip, Free, Latched, Fetched}
use Rattle.step_state.specs.Own.{is_gone}
use Rattle.step_state.specs.State.{State, seat}
use Rattle.step_trail.specs.Counting.{ungathered}

-- a step of this kind on the page, once the page was copied to each snapshot that needs it
abbrev pub once_pushed : Shown → Option ℕ → PageId → Kind → Kind
once_pushed v (Some cut) p last = step.Mark
once_pushed v None p last = if is_some (next_due v p) then step.Copy else last

-- whether an allocation page has a free slot
abbrev pub has_free : List (List ℕ) → Bool
has_free slots = list_any (λ bytes. owner_in bytes == 0) slots

-- a claim: the allocation page is latched, brought in, and passed where it has no free slot
abbrev pub kind_claiming : Shown → Option ℕ → Grip → Kind
kind_claiming v copied Free = step.Latch
kind_claiming v copied (Latched p mode) = step.Fetch
kind_claiming v copied (Fetched p mode) = if has_free (content (img v p)) then once_pushed v copied p step.Claim else step.Pass

-- a record that is taken back, whose page is pinned
abbrev pub kind_undoing : Shown → Option ℕ → Grip → Kind
kind_undoing v copied Free = step.Latch
kind_undoing v copied (Latched p mode) = once_pushed v copied p step.Back
kind_undoing v copied (Fetched p mode) = once_pushed v copied p step.Back

-- a page that the new snapshot lacks is copied, to others first where they come first
abbrev pub healed : Option ℕ → Bool → Kind
healed (Some cut) has = step.Mark
healed None false = step.Copy
healed None true = step.Heal

-- a record that the new snapshot owes, unless that is suspect
abbrev pub kind_healing : Shown → Option ℕ → ℕ → Grip → Kind
kind_healing v copied cut Free = step.Latch
kind_healing v copied cut (Latched p mode) = healed copied (marked_by v cut p)
kind_healing v copied cut (Fetched p mode) = healed copied (marked_by v cut p)

abbrev pub kind_making : Shown → Seated → Option ℕ → Kind
kind_making v x None = step.Say
kind_making v x (Some cut) = if is_sound_by v cut then kind_healing v x.copied cut x.hold else step.Say

-- where no statement is left: what the session has written goes back, and then it leaves
abbrev pub kind_ending : List Record → Kind
kind_ending [] = step.Leave
kind_ending (r ∷ rs) = step.Latch

abbrev pub kind_at : Shown → Seated → Point → Option Kind
kind_at v x Start = if is_some (stmt_at x.sitting) then Some step.Start else Some (kind_ending x.work.recs)
kind_at v x (Lock table number mode) = Some step.Lock
kind_at v x (Latch page ex) = Some step.Latch
kind_at v x (Look page) = Some step.Look
kind_at v x (Fetch page) = Some step.Fetch
kind_at v x (Take page true) = Some step.Read
kind_at v x (Take page false) = Some step.Seek
kind_at v x Plan = Some step.Plan
kind_at v x (Claim owner) = Some (kind_claiming v x.copied x.hold)
kind_at v x (Change page) = Some (once_pushed v x.copied page step.Change)
kind_at v x (Undo all) = Some (kind_undoing v x.copied x.hold)
kind_at v x Cut = Some step.Cut
kind_at v x Heal = Some (kind_making v x x.making)
kind_at v x Gather = if ungathered v x.gathered == 0 then Some step.Swap else Some step.Gather
kind_at v x Swap = Some step.Swap
kind_at v x Commit = Some step.Commit
kind_at v x Say = Some step.Say
kind_at v x Leave = Some step.Leave
kind_at v x Gone = None

-- the kind of a session's next step, none once it has left; the flusher, 0, goes on until all have
abbrev pub kind_of : State → ℕ → Option Kind
kind_of e zero = if list_all (λ (x : Seated). is_gone x.sitting.point) e.seats then None else Some step.Flush
kind_of e (suc k) = kind_at e.pages (seat e (suc k)) (seat e (suc k)).sitting.point

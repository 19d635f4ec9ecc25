-- At which points a session may stand behind which step.
use Rattle.std.specs.Prelude.{ℕ, ◌≡◌, ◌≢◌, ◌⊎◌, Bool, true, false, not, List, [], ◌∷◌, Option, Some, None, is_some}
use Rattle.std.specs.List.{list_any}
use Rattle.page_base.specs.declared.numbers.PageId.{PageId}
use Rattle.page_fmt.specs.Content.{content}
use Rattle.latch_book.specs.declared.latch.LatchMode.{LatchMode}
use Rattle.plain_model.specs.declared.kind.Kind.{Kind}
use Rattle.plain_model.specs.declared.kind.Kind.TheVariants as step
use Rattle.snap_pages.specs.Cuts.{marked_by}
use Rattle.snap_pages.specs.Shown.{Shown, img}
use Rattle.step_words.specs.declared.point.Point.{Point}
use Rattle.step_words.specs.declared.point.Point.TheVariants.{Start, Lock, Latch, Look, Fetch, Take, Plan, Claim, Change, Undo, Cut, Heal, Gather, Swap, Commit, Say, Leave, Gone}
use Rattle.step_words.specs.Sittings.{stmt_at}
use Rattle.step_words.specs.Seats.{Seated, Grip, Free, Latched, Fetched}
use Rattle.step_trail.specs.Kinds.{is_kind, follows, may_say}
use Rattle.step_trail.specs.Entries.{Phase, Between, Amid, Ending}
use Rattle.step_trail.specs.Next.{has_free}

abbrev pub among : List Kind → Kind → Bool
among kinds a = list_any (is_kind a) kinds

-- the last step before a page is pushed, or done with: the one that brought it in or latched it, or another push
abbrev pub came_pushing : Kind → Option ℕ → Kind → Bool
came_pushing first None = among (first ∷ step.Copy ∷ step.Mark ∷ [])
came_pushing first (Some cut) = among (step.Copy ∷ [])

abbrev pub came_claiming : Grip → Option ℕ → Kind → Bool
came_claiming Free copied = among (step.Plan ∷ step.Claim ∷ step.Pass ∷ [])
came_claiming (Latched p mode) copied = among (step.Latch ∷ [])
came_claiming (Fetched p mode) copied = came_pushing step.Fetch copied

abbrev pub came_undoing : Grip → Option ℕ → Kind → Bool
came_undoing Free copied a = follows a step.Latch
came_undoing (Latched p mode) copied a = came_pushing step.Latch copied a
came_undoing (Fetched p mode) copied a = came_pushing step.Latch copied a

abbrev pub came_healing : Grip → Option ℕ → Kind → Bool
came_healing Free copied = among (step.Cut ∷ step.Heal ∷ [])
came_healing (Latched p mode) copied = came_pushing step.Latch copied
came_healing (Fetched p mode) copied = came_pushing step.Latch copied

-- whether a step of this kind may have been the last of a session that stands at a point
abbrev pub came_to : Point → Grip → Option ℕ → Kind → Bool
came_to Start hold copied = may_say
came_to (Lock table number mode) hold copied = among (step.Start ∷ step.Seek ∷ step.Read ∷ [])
came_to (Latch page false) hold copied = among (step.Start ∷ step.Lock ∷ step.Seek ∷ step.Read ∷ [])
came_to (Latch page true) hold copied = among (step.Plan ∷ step.Claim ∷ step.Change ∷ [])
came_to (Look page) hold copied = among (step.Latch ∷ [])
came_to (Fetch page) hold copied = among (step.Latch ∷ step.Look ∷ [])
came_to (Take page rows) hold copied = among (step.Fetch ∷ [])
came_to Plan hold copied = among (step.Lock ∷ step.Seek ∷ step.Read ∷ [])
came_to (Claim owner) hold copied = came_claiming hold copied
came_to (Change page) hold copied = came_pushing step.Fetch copied
came_to (Undo all) hold copied = came_undoing hold copied
came_to Cut hold copied = among (step.Start ∷ [])
came_to Heal hold copied = came_healing hold copied
came_to Gather hold copied = among (step.Start ∷ step.Gather ∷ [])
came_to Swap hold copied = among (step.Start ∷ step.Gather ∷ [])
came_to Commit hold copied = among (step.Start ∷ step.Plan ∷ step.Claim ∷ step.Change ∷ [])
came_to Say hold copied = λ a. follows a step.Say
came_to Leave hold copied = λ a. follows a step.Leave
came_to Gone hold copied = among (step.Leave ∷ [])

-- before its first step a session stands at its start
abbrev pub is_start : Point → Bool
is_start Start = true
is_start point = false

abbrev pub came_by : Option Kind → Point → Grip → Option ℕ → Bool
came_by None point hold copied = is_start point
came_by (Some a) point hold copied = came_to point hold copied a

abbrev pub is_between : Phase → Bool
is_between Between = true
is_between Amid = false
is_between Ending = false

abbrev pub is_amid : Phase → Bool
is_amid Between = false
is_amid Amid = true
is_amid Ending = false

abbrev pub is_ending : Phase → Bool
is_ending Between = false
is_ending Amid = false
is_ending Ending = true

-- Whether a session that stands at a point is in this phase. Where no statement is left it takes back what is open, from the first
-- latch on, and leaves.
abbrev pub undoes_in : Bool → Grip → Phase → Bool
undoes_in true hold phase = is_amid phase
undoes_in false Free phase = not (is_amid phase)
undoes_in false (Latched p mode) phase = is_ending phase
undoes_in false (Fetched p mode) phase = is_ending phase

abbrev pub stands_in : Point → Bool → Grip → Phase → Bool
stands_in Start more hold phase = is_between phase
stands_in (Undo all) more hold phase = undoes_in more hold phase
stands_in Leave more hold phase = not (is_amid phase)
stands_in Gone more hold phase = true
stands_in point more hold phase = is_amid phase

-- an allocation page on which pages are pushed has a free slot
abbrev pub StaysFree : Shown → Point → Grip → Kind → Type 0
StaysFree v (Claim owner) (Fetched p mode) a = a ≢ step.Fetch → has_free (content (img v p)) ≡ true
StaysFree v point hold a = Unit {0}

-- a snapshot in the making lacks the page while it is pushed to others in vain
abbrev pub StaysLacking : Shown → Point → Option ℕ → Grip → Kind → Type 0
StaysLacking v Heal (Some cut) (Latched p mode) a = a ≡ step.Copy → marked_by v cut p ≡ false
StaysLacking v Heal (Some cut) (Fetched p mode) a = a ≡ step.Copy → marked_by v cut p ≡ false
StaysLacking v point making hold a = Unit {0}

-- a session whose last step was of this kind, in this phase, may stand there
pub record IsReached (v : Shown) (last : Option Kind) (phase : Phase) (x : Seated) : Type 0 where
  pub came : came_by last x.sitting.point x.hold x.copied ≡ true
  pub stands : stands_in x.sitting.point (is_some (stmt_at x.sitting)) x.hold phase ≡ true
  -- before its first step it has written nothing
  pub fresh : last ≡ None → x.work.recs ≡ []
  pub free : (a : Kind) → last ≡ Some a → StaysFree v x.sitting.point x.hold a
  pub lacks : (a : Kind) → last ≡ Some a → x.copied ≡ None → StaysLacking v x.sitting.point x.making x.hold a

-- the page that a session has brought in stays the same, and the map of the snapshot that it makes does at the page of its latch
pub record LeavesHeld (v w : Shown) (x : Seated) : Type 0 where
  pub image : (p : PageId) (mode : LatchMode) → x.hold ≡ Fetched p mode → img w p ≡ img v p
  pub map : (p : PageId) (mode : LatchMode) (cut : ℕ) → (x.hold ≡ Latched p mode) ⊎ (x.hold ≡ Fetched p mode) → x.making ≡ Some cut → marked_by w cut p ≡ marked_by v cut p

-- What always holds of an engine between two statements: it is the plain machine, in pages and files.
use Rattle.std.specs.Prelude.{ℕ, ◌≡◌, ◌≢◌, ◌⊎◌, ◌+◌, ◌*◌, ◌-◌, ◌<◌, ◌≤◌, Bool, true, false, if◌then◌else◌, List, [], ◌∷◌, ◌++◌, length, map, slice_index, slice_index_or, Some, None, IsTrue}
use Rattle.std.specs.List.{filter_map, range_with_len, list_any, flat_map}
use Rattle.std.specs.Str.{bytes_eq}
use Rattle.std.specs.FinMap as finite
use Rattle.std.specs.FinSet as finset
use Rattle.page_base.specs.declared.numbers.PageId.{PageId}
use Rattle.page_base.specs.declared.numbers.SnapNo.{SnapNo}
use Rattle.page_dev.specs.Volume.{Names, Folder}
use Rattle.page_fmt.specs.Content.{IsPage}
use Rattle.plain_model.specs.declared.stmt.Stmt.{Stmt}
use Rattle.plain_model.specs.declared.event.Event.{Event}
use Rattle.plain_model.specs.declared.event.Event.TheVariants.{Turned}
use Rattle.plain_model.specs.Journal.{Opening}
use Rattle.plain_model.specs.State as plain
use Rattle.plain_model.specs.State.{Plain, fresh_session, committed, copy, master}
use Rattle.plain_model.specs.Legal.{Legal, end}
use Rattle.plain_model.specs.Complete.{Mark, Answered, Gone, mark_of}
use Rattle.plain_model.specs.Tables.{Tables}
use Rattle.plain_model.specs.Sound.{are_distinct, AreScripts}
use Rattle.early_pages.specs.declared.state.SnapState.TheVariants.{Suspect}
use Rattle.early_pages.specs.Shown.{Shown, img, counts, catalog, IsOpen, set_of, state_of}
use Rattle.early_pages.specs.Catalog.{snap_at}
use Rattle.early_pages.specs.Slots.{slots_of}
use Rattle.early_pages.specs.Views.{view, IsKept}
use Rattle.table_pages.specs.Layout.{tables_of, IsPacked}
use Rattle.table_pages.specs.Carried.{data_pages}
use Rattle.early_engine.specs.declared.seat.Seat.{Seat}
use Rattle.early_engine.specs.Entering.{Kept}
use Rattle.early_engine.specs.Pushing.{snaps_of, sound, name_of, faults_of}
use Rattle.early_engine.specs.Ready.{Seen}
use Rattle.early_engine.specs.Stepping.{idle}

-- the volume: whether it tells, what has each name's place, which names are out, and its two counts of faults
pub record Disk : Type 0 where
  pub told : Bool
  pub folder : Folder
  pub out : Names
  pub failures : ℕ
  pub file_failures : ℕ

-- the engine, as contracts see it
pub record Run : Type 0 where
  pub opening : Opening
  pub scripts : List (List Stmt)
  pub disk : Disk
  pub shown : Shown
  pub seats : List Seat
  pub kept : Kept

-- the plain machine's state after the history
abbrev pub state : Run → Plain
state e = end e.opening e.scripts e.kept.events

-- the tables and copies of a state
abbrev pub seen_by : Plain → Seen
seen_by st = record { source = committed st; copies = copy st }

abbrev pub no_seat : Seat
no_seat = record { current = []; said = 0; gone = false }

abbrev pub seat_at : Run → ℕ → Seat
seat_at e i = slice_index_or e.seats i no_seat

abbrev pub script_at : Run → ℕ → List Stmt
script_at e i = slice_index_or e.scripts i []

-- the history is legal where the volume tells; nothing is being reverted; the machine has these snapshots
pub record InStep (e : Run) : Type 0 where
  pub legal : IsTrue e.disk.told → Legal e.opening e.scripts e.kept.events
  pub moment : (state e).moment ≡ length e.kept.events
  pub opened : (state e).opening ≡ e.opening
  pub scripts : (state e).scripts ≡ e.scripts
  pub settled : (state e).restoring ≡ None
  pub snaps : (state e).snaps ≡ snaps_of e.shown
  pub next_cut : (state e).next_cut ≡ (catalog e.shown).next_cut
  -- no snapshot has the name of the source or of `master`
  pub apart : (s : SnapNo) → IsOpen e.shown s → (name_of e.shown s ≢ e.opening.source) × (name_of e.shown s ≢ master)

-- a session is between two statements, as its seat tells
pub record IsSeated (seat : Seat) (session : plain.Session) (moment : ℕ) : Type 0 where
  pub since : ℕ
  pub is : session ≡ idle seat.said seat.current seat.gone since
  pub old : since ≤ moment

-- what the history tells of a session: its statements so far, and whether it left
abbrev pub marks_of : Seat → List Mark
marks_of seat = map Answered (range_with_len 1 seat.said) ++ (if seat.gone then Gone ∷ [] else [])

-- each session's seat says how far it is
pub record AreSeated (e : Run) : Type 0 where
  pub scripts : AreScripts e.scripts
  pub seats : length e.seats ≡ length e.scripts
  pub sessions : length (state e).sessions ≡ length e.scripts
  pub each : (i : ℕ) → i < length e.scripts → IsSeated (seat_at e i) (slice_index_or (state e).sessions i fresh_session) (length e.kept.events)
  pub said : (i : ℕ) → i < length e.scripts → (seat_at e i).said ≤ length (script_at e i)
  pub gone : (i : ℕ) → i < length e.scripts → (seat_at e i).gone ≡ true → (seat_at e i).said ≡ length (script_at e i)
  pub marks : (i : ℕ) → i < length e.scripts → filter_map (mark_of (i + 1)) e.kept.events ≡ marks_of (seat_at e i)

-- pages that are these tables, one behind the other
pub record AreTables (n : ℕ) (images : PageId → List ℕ) (tables : Tables) : Type 0 where
  pub pages : (p : PageId) → IsPage (images p)
  pub says : tables_of n (slots_of images) ≡ Some tables
  pub packed : IsPacked n (slots_of images)

-- the source's pages are the committed tables, and those of each snapshot that isn't suspect its copy
pub record AreCopies (e : Run) : Type 0 where
  -- one data file, of at most 32,768 pages
  pub file : counts e.shown ≡ slice_index (counts e.shown) 0 ∷ []
  pub few : slice_index (counts e.shown) 0 ≤ 32768
  pub source : AreTables (data_pages e.shown) (img e.shown) (committed (state e))
  pub copies : (s : SnapNo) → IsKept e.shown s → AreTables (data_pages e.shown) (view e.shown s) (copy (state e) (name_of e.shown s))

-- the names of all snapshots' sparse files
abbrev pub sparse_names : Shown → List (List ℕ)
sparse_names v = flat_map (λ s. s.files) (catalog v).snaps

-- each snapshot has one sparse file, which is out, and the machine knows the names on the volume
pub record AreOut (e : Run) : Type 0 where
  pub tells : IsTrue e.disk.told → (s : SnapNo) → IsOpen e.shown s → IsTrue (set_of e.shown s).files.tells
  pub names : IsTrue e.disk.told → (name : List ℕ) → (list_any (bytes_eq name) (state e).in_doubt ≡ true) ⊎ (finite.contains_key e.disk.folder name ≡ list_any (bytes_eq name) (state e).on_volume)
  pub out : (name : List ℕ) → finset.contains e.disk.out name ≡ list_any (bytes_eq name) (sparse_names e.shown)
  pub distinct : are_distinct (sparse_names e.shown) ≡ true
  pub single : (s : SnapNo) → IsOpen e.shown s → length (snap_at (catalog e.shown) s).files ≡ 1

abbrev pub is_turn : Event → Bool
is_turn (Turned snap) = true
is_turn _ = false

-- a suspect snapshot's files met a fault, and where the history has a turn there is one
pub record AreBlamed (e : Run) : Type 0 where
  pub faults : (s : SnapNo) → IsOpen e.shown s → state_of e.shown s ≡ Suspect → 1 ≤ faults_of e.shown s
  pub turned : list_any is_turn e.kept.events ≡ true → (s : SnapNo) × IsOpen e.shown s × (state_of e.shown s ≡ Suspect)

-- how many events may still come of sessions: three of each statement, and the leaving
abbrev pub dues : List (List Stmt) → List Seat → ℕ
dues [] seats = 0
dues (script ∷ scripts) [] = 0
dues (script ∷ scripts) (seat ∷ seats) = 3 * (length script - seat.said) + (if seat.gone then 0 else 1) + dues scripts seats

-- there is room for all events to come: those of sessions, and a turn of each snapshot
pub record HasRoom (e : Run) : Type 0 where
  pub room : dues e.scripts e.seats + sound e.shown ≤ e.kept.room
  pub few : length e.kept.events + e.kept.room ≤ 100000

pub record Safe (e : Run) : Type 0 where
  pub machine : InStep e
  pub sessions : AreSeated e
  pub pages : AreCopies e
  pub files : AreOut e
  pub blame : AreBlamed e
  pub room : HasRoom e

-- How the picks of a schedule are written.
use Rattle.std.specs.Prelude.{ℕ, ◌≡◌, ◌≤◌, nat_le, Bool, true, false, ◌==◌, ◌&&◌, not, if◌then◌else◌, List, [], ◌∷◌, ◌++◌, find, filter, drop, take, codes, Option, Some, None}
use Rattle.std.specs.Option.{option_map}
use Rattle.std.specs.List.{prefix_len, slice_split}
use Rattle.std.specs.Str.{bytes_eq}
use Rattle.std.specs.Char.{is_ascii_digit}
use Rattle.plain_model.specs.declared.kind.Kind.{Kind}
use Rattle.plain_model.specs.declared.kind.Kind.TheVariants.{Start, Lock, Latch, Look, Fetch, Seek, Read, Plan, Pass, Copy, Mark, Claim, Change, Back, Heal, Cut, Gather, Swap, Commit, Say, Leave, Flush}
use Rattle.plain_model.specs.declared.pick.Until.{Until}
use Rattle.plain_model.specs.declared.pick.Until.TheVariants.{One, Reply, At}
use Rattle.plain_model.specs.declared.pick.Pick.{Pick}
use Rattle.script_read.specs.Decimal.{is_decimal, number_of, IsDecimal}
use Rattle.script_read.specs.Classes.{is_blank}

-- the word of a kind of step
abbrev pub word_of : Kind → List ℕ
word_of Start = codes "start"
word_of Lock = codes "lock"
word_of Latch = codes "latch"
word_of Look = codes "look"
word_of Fetch = codes "fetch"
word_of Seek = codes "seek"
word_of Read = codes "read"
word_of Plan = codes "plan"
word_of Pass = codes "pass"
word_of Copy = codes "copy"
word_of Mark = codes "mark"
word_of Claim = codes "claim"
word_of Change = codes "change"
word_of Back = codes "back"
word_of Heal = codes "heal"
word_of Cut = codes "cut"
word_of Gather = codes "gather"
word_of Swap = codes "swap"
word_of Commit = codes "commit"
word_of Say = codes "say"
word_of Leave = codes "leave"
word_of Flush = codes "flush"

-- the kinds that a pick may name: all but the flusher's
abbrev pub kinds : List Kind
kinds = Start ∷ Lock ∷ Latch ∷ Look ∷ Fetch ∷ Seek ∷ Read ∷ Plan ∷ Pass ∷ Copy ∷ Mark ∷ Claim ∷ Change ∷ Back ∷ Heal ∷ Cut ∷ Gather ∷ Swap ∷ Commit ∷ Say ∷ Leave ∷ []

-- what a session's pick has behind the number: nothing, `!`, or `@` and a kind
abbrev pub IsUntil : Until → List ℕ → Type 0
IsUntil One rest = rest ≡ []
IsUntil Reply rest = rest ≡ 33 ∷ []
IsUntil (At Flush) rest = ⊥
IsUntil (At kind) rest = rest ≡ 64 ∷ word_of kind

-- The word is this pick, where there are so many sessions: a number without zeros in front, and how far it goes. The flusher, 0, takes
-- single steps alone.
pub record IsPick (sessions : ℕ) (word : List ℕ) (pick : Pick) : Type 0 where
  pub digits : List ℕ
  pub rest : List ℕ
  pub word_is : word ≡ digits ++ rest
  pub number : IsDecimal digits pick.who
  pub there : pick.who ≤ sessions
  pub far : IsUntil pick.until rest
  pub flusher : pick.who ≡ 0 → pick.until ≡ One

abbrev pub is_space : ℕ → Bool
is_space b = b == 32

-- a byte that doesn't end a word
abbrev pub is_inside_word : ℕ → Bool
is_inside_word b = not (b == 32)

abbrev pub is_word : List ℕ → Bool
is_word [] = false
is_word (b ∷ bs) = true

-- what stands between the spaces of a line
abbrev pub words : List ℕ → List (List ℕ)
words line = filter is_word (slice_split is_space line)

-- the words are these picks, one by one
abbrev pub ArePicks : ℕ → List (List ℕ) → List Pick → Type 0
ArePicks sessions [] [] = Unit {0}
ArePicks sessions (word ∷ rest) (pick ∷ picks) = IsPick sessions word pick × ArePicks sessions rest picks
ArePicks sessions _ _ = ⊥

-- a line of a schedule has these picks; a blank one has none
abbrev pub HasPicks : ℕ → List ℕ → List Pick → Type 0
HasPicks sessions line picks = (is_blank line ≡ true → picks ≡ []) × (is_blank line ≡ false → ArePicks sessions (words line) picks)

-- the kind that a word names
abbrev pub kind_of : List ℕ → Option Kind
kind_of word = find (λ kind. bytes_eq word (word_of kind)) kinds

-- how far a pick goes that has this behind its number
abbrev pub until_of : List ℕ → Option Until
until_of [] = Some One
until_of (b ∷ bs) = if b == 64 then option_map At (kind_of bs) else (if bytes_eq (b ∷ bs) (33 ∷ []) then Some Reply else None)

-- how many digits a word begins with
abbrev pub digits_len : List ℕ → ℕ
digits_len word = prefix_len is_ascii_digit word

-- a pick of this session, where that session may have it
abbrev pub picked : ℕ → Until → Pick
picked who until = record { who = who; until = until }

-- of the flusher a single step alone
abbrev pub of_flusher : Until → Option Pick
of_flusher One = Some (picked 0 One)
of_flusher _ = None

abbrev pub pick_by : ℕ → Option Until → Option Pick
pick_by who None = None
pick_by who (Some until) = if who == 0 then of_flusher until else Some (picked who until)

-- the pick that a word is, if it is one
abbrev pub pick_of : ℕ → List ℕ → Option Pick
pick_of sessions word =
    if is_decimal (take (digits_len word) word) && nat_le (number_of (take (digits_len word) word)) sessions
    then pick_by (number_of (take (digits_len word) word)) (until_of (drop (digits_len word) word)) else None

-- one pick in front of others, where both are there
abbrev pub with_pick : Option Pick → Option (List Pick) → Option (List Pick)
with_pick None _ = None
with_pick (Some pick) None = None
with_pick (Some pick) (Some picks) = Some (pick ∷ picks)

-- the picks that words are, if all are
abbrev pub picks_of : ℕ → List (List ℕ) → Option (List Pick)
picks_of sessions [] = Some []
picks_of sessions (word ∷ rest) = with_pick (pick_of sessions word) (picks_of sessions rest)

-- the picks of a line of a schedule, if it is one
abbrev pub picks_on : ℕ → List ℕ → Option (List Pick)
picks_on sessions line = if is_blank line then Some [] else picks_of sessions (words line)

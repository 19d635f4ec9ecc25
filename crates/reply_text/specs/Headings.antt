-- The event that a line tells, or its reply's first line where rows follow.
use Rattle.std.specs.Prelude.{ℕ, ◌^◌, ◌&&◌, if◌then◌else◌, Bool, false, List, [], ◌∷◌, ◌++◌, length, Option, Some, None, option_and_then, codes}
use Rattle.std.specs.Option.{option_map}
use Rattle.std.specs.Str.{bytes_eq}
use Rattle.std.specs.Fmt.{decimal}
use Rattle.page_base.specs.declared.numbers.SessNo.{SessNo}
use Rattle.page_base.specs.declared.numbers.Mode.{Mode}
use Rattle.page_base.specs.declared.numbers.Mode.TheVariants.{S, X}
use Rattle.byte_fields.specs.Names.{low_name}
use Rattle.plain_model.specs.declared.event.LockName.{LockName}
use Rattle.plain_model.specs.declared.event.LockName.TheVariants.{All, Table}
use Rattle.plain_model.specs.declared.reply.Reply.{Reply}
use Rattle.plain_model.specs.declared.reply.Reply.TheVariants.{Ok, Count, Msg}
use Rattle.plain_model.specs.declared.reply.Carried.{Carried}
use Rattle.plain_model.specs.declared.reply.Carried.TheVariants.{Nothing, Number, Named}
use Rattle.plain_model.specs.declared.event.Event.{Event}
use Rattle.plain_model.specs.declared.event.Event.TheVariants.{Locked, CutAt, RestoreAt, Turned, Said, Left}
use Rattle.plain_model.specs.Printed.{event_text}
use Rattle.reply_text.specs.declared.heading.Answer.{Answer}
use Rattle.reply_text.specs.declared.heading.Answer.TheVariants as answer
use Rattle.reply_text.specs.declared.heading.Heading.{Heading}
use Rattle.reply_text.specs.declared.heading.Heading.TheVariants as heading
use Rattle.reply_text.specs.Told.{is_session}
use Rattle.reply_text.specs.Numbers.{number_on}
use Rattle.reply_text.specs.Pieces.{pieces, alone, before}

-- the session of a number
abbrev pub session_of : ℕ → Option SessNo
session_of n = if is_session n then Some (record { 0 = n }) else None

abbrev pub session_on : List ℕ → Option SessNo
session_on word = option_and_then session_of (number_on (2 ^ 64) word)

abbrev pub small_on : List ℕ → Option ℕ
small_on word = number_on (2 ^ 32) word

abbrev pub large_on : List ℕ → Option ℕ
large_on word = number_on (2 ^ 64) word

-- the name that is the only word
abbrev pub name_in : List (List ℕ) → Option (List ℕ)
name_in words = option_and_then low_name (alone words)

-- the number that is the only word
abbrev pub large_in : List (List ℕ) → Option ℕ
large_in words = option_and_then large_on (alone words)

-- a table's name, or `*`
abbrev pub lock_of : List ℕ → Option (List ℕ) → Option LockName
lock_of word None = if bytes_eq word (codes "*") then Some All else None
lock_of word (Some name) = Some (Table name)

abbrev pub lock_on : List ℕ → Option LockName
lock_on word = lock_of word (low_name word)

abbrev pub mode_on : List ℕ → Option Mode
mode_on word = if bytes_eq word (codes "S") then Some S else (if bytes_eq word (codes "X") then Some X else None)

abbrev pub locked_in : SessNo → List (List ℕ) → Option Event
locked_in who [] = None
locked_in who (table ∷ words) = option_and_then (λ (t : LockName). option_map (λ (m : Mode). Locked who t m) (option_and_then mode_on (alone words))) (lock_on table)

-- what a message carries: a number or a name
abbrev pub carried_of : List ℕ → Option ℕ → Option Carried
carried_of word None = option_map Named (low_name word)
carried_of word (Some n) = Some (Number n)

-- what a message carries, if anything
abbrev pub carried_in : List (List ℕ) → Option Carried
carried_in [] = Some Nothing
carried_in (word ∷ []) = carried_of word (large_on word)
carried_in (word ∷ next ∷ words) = None

abbrev pub message_in : List (List ℕ) → Option Answer
message_in [] = None
message_in (number ∷ words) = option_and_then (λ (n : ℕ). option_map (λ (c : Carried). answer.Whole (Msg (record { number = n; carried = c }))) (carried_in words)) (small_on number)

abbrev pub done_in : List (List ℕ) → Option Answer
done_in [] = Some (answer.Whole Ok)
done_in (word ∷ words) = None

-- a reply, or how many rows follow
abbrev pub answer_by : List ℕ → List (List ℕ) → Option Answer
answer_by word words =
    if bytes_eq word (codes "ok") then done_in words
    else (if bytes_eq word (codes "count") then option_map (λ (n : ℕ). answer.Whole (Count n)) (large_in words)
    else (if bytes_eq word (codes "rows") then option_map (λ (n : ℕ). answer.Rows n) (large_in words)
    else (if bytes_eq word (codes "msg") then message_in words else None)))

abbrev pub answer_in : List (List ℕ) → Option Answer
answer_in [] = None
answer_in (word ∷ words) = answer_by word words

-- a reply as an event, or as the line before its rows
abbrev pub said_as : SessNo → ℕ → ℕ → Answer → Heading
said_as who number began (answer.Whole reply) = heading.Whole (Said who number began reply)
said_as who number began (answer.Rows count) = heading.Rows who number began count

abbrev pub said_in : SessNo → List (List ℕ) → Option Heading
said_in who [] = None
said_in who (number ∷ []) = None
said_in who (number ∷ began ∷ words) =
    option_and_then (λ (n : ℕ). option_and_then (λ (b : ℕ). option_map (said_as who n b) (answer_in words)) (small_on began)) (small_on number)

abbrev pub left_in : SessNo → List (List ℕ) → Option Event
left_in who [] = Some (Left who)
left_in who (word ∷ words) = None

-- what a session did, but for a reply
abbrev pub deed_by : SessNo → List ℕ → List (List ℕ) → Option Event
deed_by who word words =
    if bytes_eq word (codes "lock") then locked_in who words
    else (if bytes_eq word (codes "cut") then option_map (λ (n : List ℕ). CutAt who n) (name_in words)
    else (if bytes_eq word (codes "restore") then option_map (λ (n : List ℕ). RestoreAt who n) (name_in words)
    else (if bytes_eq word (codes "left") then left_in who words else None)))

abbrev pub session_in : SessNo → List (List ℕ) → Option Heading
session_in who [] = None
session_in who (word ∷ words) = if bytes_eq word (codes "said") then said_in who words else option_map heading.Whole (deed_by who word words)

abbrev pub turned_in : List ℕ → List (List ℕ) → Option Heading
turned_in word words = if bytes_eq word (codes "turned") then option_map (λ (n : List ℕ). heading.Whole (Turned n)) (name_in words) else None

-- by the session that the first word names, if it names one
abbrev pub heading_by : List ℕ → List (List ℕ) → Option SessNo → Option Heading
heading_by word words None = turned_in word words
heading_by word words (Some who) = session_in who words

abbrev pub heading_in : List (List ℕ) → Option Heading
heading_in [] = None
heading_in (word ∷ words) = heading_by word words (session_on word)

-- what a line with its end tells
abbrev pub heading_on : List ℕ → Option Heading
heading_on line = option_and_then (λ (bytes : List ℕ). heading_in (pieces 32 false bytes)) (before (codes "\n") line)

-- the line of a heading, with its end
abbrev pub heading_text : Heading → List ℕ
heading_text (heading.Whole event) = event_text event
heading_text (heading.Rows who number began count) = decimal who.0 ++ codes " said " ++ decimal number ++ codes " " ++ decimal began ++ codes " rows " ++ decimal count ++ codes "\n"

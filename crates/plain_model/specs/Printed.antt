-- The text of a history.
use Rattle.std.specs.Prelude.{ℕ, List, [], ◌∷◌, ◌++◌, length, codes, ◌==◌, if◌then◌else◌}
use Rattle.std.specs.List.{flat_map}
use Rattle.std.specs.Fmt.{decimal, signed_decimal}
use Rattle.page_base.specs.declared.numbers.Mode.{Mode}
use Rattle.page_base.specs.declared.numbers.Mode.TheVariants.{S, X}
use Rattle.page_base.specs.declared.value.Value.{Value}
use Rattle.page_base.specs.declared.value.Value.TheVariants.{Null, Int, Big, Text}
use Rattle.plain_model.specs.declared.event.LockName.{LockName}
use Rattle.plain_model.specs.declared.event.LockName.TheVariants.{All, Table}
use Rattle.plain_model.specs.declared.reply.Reply.{Reply}
use Rattle.plain_model.specs.declared.reply.Reply.TheVariants.{Ok, Count, Rows, Msg}
use Rattle.plain_model.specs.declared.reply.Carried.{Carried}
use Rattle.plain_model.specs.declared.reply.Carried.TheVariants.{Nothing, Number, Named}
use Rattle.plain_model.specs.declared.event.Event.{Event}
use Rattle.plain_model.specs.declared.event.Event.TheVariants.{Locked, CutAt, RestoreAt, Turned, Said, Left}

abbrev pub mode_text : Mode → List ℕ
mode_text S = codes "S"
mode_text X = codes "X"

abbrev pub lock_text : LockName → List ℕ
lock_text All = codes "*"
lock_text (Table name) = name

-- a text in single quotes, a quote doubled
abbrev pub quoted : ℕ → List ℕ
quoted b = if b == 39 then b ∷ b ∷ [] else b ∷ []

abbrev pub value_text : Value → List ℕ
value_text Null = codes "NULL"
value_text (Int n) = signed_decimal n
value_text (Big n) = signed_decimal n
value_text (Text bytes) = 39 ∷ [] ++ flat_map quoted bytes ++ 39 ∷ []

abbrev pub next_value_text : Value → List ℕ
next_value_text v = 44 ∷ value_text v

-- parted by commas
abbrev pub values_text : List Value → List ℕ
values_text [] = []
values_text (v ∷ vs) = value_text v ++ flat_map next_value_text vs

-- a space, and the values in brackets parted by commas
abbrev pub row_text : List Value → List ℕ
row_text row = codes " (" ++ values_text row ++ codes ")\n"

abbrev pub carried_text : Carried → List ℕ
carried_text Nothing = []
carried_text (Number n) = codes " " ++ decimal n
carried_text (Named name) = codes " " ++ name

abbrev pub reply_text : Reply → List ℕ
reply_text Ok = codes "ok\n"
reply_text (Count n) = codes "count " ++ decimal n ++ codes "\n"
reply_text (Rows rows) = codes "rows " ++ decimal (length rows) ++ codes "\n" ++ flat_map row_text rows
reply_text (Msg m) = codes "msg " ++ decimal m.number ++ carried_text m.carried ++ codes "\n"

abbrev pub event_text : Event → List ℕ
event_text (Locked who table mode) = decimal who.0 ++ codes " lock " ++ lock_text table ++ codes " " ++ mode_text mode ++ codes "\n"
event_text (CutAt who snap) = decimal who.0 ++ codes " cut " ++ snap ++ codes "\n"
event_text (RestoreAt who snap) = decimal who.0 ++ codes " restore " ++ snap ++ codes "\n"
event_text (Turned snap) = codes "turned " ++ snap ++ codes "\n"
event_text (Said who number began reply) = decimal who.0 ++ codes " said " ++ decimal number ++ codes " " ++ decimal began ++ codes " " ++ reply_text reply
event_text (Left who) = decimal who.0 ++ codes " left\n"

abbrev pub printed : List Event → List ℕ
printed book = flat_map event_text book

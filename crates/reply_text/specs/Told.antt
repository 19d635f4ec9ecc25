-- What the text of a history can tell: sessions from 1 to 64, names as they are kept, numbers in their widths, rows of at least one value.
use Rattle.std.specs.Prelude.{ℕ, ◌≡◌, ◌^◌, ◌&&◌, not, nat_le, nat_lt, Bool, true, false, List, [], ◌∷◌, length}
use Rattle.std.specs.List.{list_all}
use Rattle.page_base.specs.declared.numbers.SessNo.{SessNo}
use Rattle.page_base.specs.declared.value.Value.{Value}
use Rattle.page_base.specs.declared.value.Value.TheVariants.{Null, Int, Big, Text}
use Rattle.byte_fields.specs.Names.{is_low_name}
use Rattle.plain_model.specs.Numbers.{fits_big}
use Rattle.plain_model.specs.declared.event.LockName.{LockName}
use Rattle.plain_model.specs.declared.event.LockName.TheVariants.{All, Table}
use Rattle.plain_model.specs.declared.reply.Reply.{Reply}
use Rattle.plain_model.specs.declared.reply.Reply.TheVariants.{Ok, Count, Rows, Msg}
use Rattle.plain_model.specs.declared.reply.Carried.{Carried}
use Rattle.plain_model.specs.declared.reply.Carried.TheVariants.{Nothing, Number, Named}
use Rattle.plain_model.specs.declared.event.Event.{Event}
use Rattle.plain_model.specs.declared.event.Event.TheVariants.{Locked, CutAt, RestoreAt, Turned, Said, Left}

-- a byte of a text
abbrev pub is_printable : ℕ → Bool
is_printable b = nat_le 32 b && nat_le b 126

-- a value of a reply's row: of numbers a BIGINT, as each is read back
abbrev pub is_told_value : Value → Bool
is_told_value Null = true
is_told_value (Int n) = false
is_told_value (Big n) = fits_big n
is_told_value (Text bytes) = list_all is_printable bytes

abbrev pub is_told_row : List Value → Bool
is_told_row [] = false
is_told_row (v ∷ vs) = list_all is_told_value (v ∷ vs)

abbrev pub is_session : ℕ → Bool
is_session n = nat_le 1 n && nat_le n 64

-- a number that 32 bits hold, and one that 64 bits hold
abbrev pub is_small : ℕ → Bool
is_small n = nat_lt n (2 ^ 32)

abbrev pub is_large : ℕ → Bool
is_large n = nat_lt n (2 ^ 64)

abbrev pub is_told_lock : LockName → Bool
is_told_lock All = true
is_told_lock (Table name) = is_low_name name

abbrev pub is_told_carried : Carried → Bool
is_told_carried Nothing = true
is_told_carried (Number n) = is_large n
is_told_carried (Named name) = is_low_name name

abbrev pub is_told_reply : Reply → Bool
is_told_reply Ok = true
is_told_reply (Count n) = is_large n
is_told_reply (Rows rows) = is_large (length rows) && list_all is_told_row rows
is_told_reply (Msg m) = is_small m.number && is_told_carried m.carried

abbrev pub is_told : Event → Bool
is_told (Locked who table mode) = is_session who.0 && is_told_lock table
is_told (CutAt who snap) = is_session who.0 && is_low_name snap
is_told (RestoreAt who snap) = is_session who.0 && is_low_name snap
is_told (Turned snap) = is_low_name snap
is_told (Said who number began reply) = is_session who.0 && is_small number && is_small began && is_told_reply reply
is_told (Left who) = is_session who.0

-- each event can be told
abbrev pub AreTold : List Event → Type 0
AreTold book = list_all is_told book ≡ true

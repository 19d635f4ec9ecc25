-- What a history comes to: how many events it has, and how many replies of each kind.
use Rattle.std.specs.Prelude.{ℕ, Bool, true, false, List, ◌++◌, length, codes, count_by}
use Rattle.std.specs.Fmt.{decimal}
use Rattle.plain_model.specs.declared.reply.Reply.TheVariants.{Ok, Count, Rows, Msg}
use Rattle.plain_model.specs.declared.event.Event.{Event}
use Rattle.plain_model.specs.declared.event.Event.TheVariants.{Said}

abbrev pub is_ok : Event → Bool
is_ok (Said who number began Ok) = true
is_ok _ = false

abbrev pub is_count : Event → Bool
is_count (Said who number began (Count n)) = true
is_count _ = false

abbrev pub is_rows : Event → Bool
is_rows (Said who number began (Rows rows)) = true
is_rows _ = false

abbrev pub is_message : Event → Bool
is_message (Said who number began (Msg m)) = true
is_message _ = false

-- a word and a number
abbrev pub part_text : List ℕ → ℕ → List ℕ
part_text word n = word ++ decimal n

-- how many replies of each kind there are
abbrev pub replies_text : List Event → List ℕ
replies_text book =
    part_text (codes " ok ") (count_by is_ok book) ++ part_text (codes " counts ") (count_by is_count book) ++ part_text (codes " rows ") (count_by is_rows book)
    ++ part_text (codes " messages ") (count_by is_message book)

abbrev pub summary_text : List Event → List ℕ
summary_text book = part_text (codes "events ") (length book) ++ replies_text book ++ codes "\n"

-- A call that made no history writes the line that is due.
use Rattle.std.proofs.Common.{◌≡◌, ◌⊎◌, inl, inr, ℕ, List, [], Bool, arith}
use Rattle.std.specs.Prelude.{Option}
use Rattle.std.specs.Io.KnownBytes.{Appends, Keeps}
use Rattle.page_dev.specs.Faults.{Rose}
use Rattle.page_dev.specs.Sink.{AppendsFront}
use Rattle.plain_model.specs.declared.event.Event.{Event}
use Rattle.snapdb.specs.declared.top.PlayRefusal.{PlayRefusal}
use Rattle.snapdb.specs.declared.top.PlayRefusal.TheVariants.{Source, Memory, Long, Script}
use Rattle.snapdb.specs.Headline.{IsPlay, Refuses, TooLong, long_line, script_line}
use Rattle.snapdb.specs.Headline as headline
use Rattle.early_engine.specs.Safe.{Disk}
use Rattle.snapdb.specs.Closed.{IsDue}
use Rattle.snapdb.specs.Refusing.{Answers, HasReason}

module _ (words : List (List ℕ)) (old new : Option (List ℕ)) (s s' : ℕ) (book : List Event) (status : ℕ) (taken taken' : Option (List ℕ)) (f f' : ℕ)
    (play : IsPlay words) (empty : book ≡ []) where
  -- at status 2 the line says why
  pub writes_line : (r : PlayRefusal) → HasReason r old new s s' → Answers r status taken taken' f f' → status ≡ 2 → (line : List ℕ) × Refuses words old new line × Appends taken taken' line
  writes_line Source why h two = absurd (omega (arith, h.is))
  writes_line Memory why h two = absurd (omega (arith, h.is))
  writes_line Long why h two = (long_line, TooLong play why, h.all two)
  writes_line (Script line reason) why h two = (script_line line reason, headline.Script line reason play why, h.all two)

  -- nothing was written, or a front of the line
  pub writes_front : (told : Bool) (names : List (List ℕ)) (v v' : Disk) (r : PlayRefusal) → HasReason r old new s s' → Answers r status taken taken' f f' → Keeps taken taken' ⊎ ((text : List ℕ) × IsDue told names v v' words old new book text × AppendsFront taken taken' text)
  writes_front told names v v' Source why h = inl h.kept
  writes_front told names v v' Memory why h = inl h.kept
  writes_front told names v v' Long why h = inr (long_line, inl (TooLong play why, empty), h.front)
  writes_front told names v v' (Script line reason) why h = inr (script_line line reason, inl (headline.Script line reason play why, empty), h.front)

  -- status 5 comes of the source's failure alone, and nothing was written
  pub writes_nothing : (r : PlayRefusal) → HasReason r old new s s' → Answers r status taken taken' f f' → status ≡ 5 → Rose s s' × Keeps taken taken'
  writes_nothing Source why h five = (why, h.kept)
  writes_nothing Memory why h five = absurd (omega (arith, h.is))
  writes_nothing Long why h five = absurd (search (arith, h.known, five))
  writes_nothing (Script line reason) why h five = absurd (search (arith, h.known, five))

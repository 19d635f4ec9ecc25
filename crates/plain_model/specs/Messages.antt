-- Messages by their numbers, and which of several refusals comes.
use Rattle.std.specs.Prelude.{ℕ, Bool, if◌then◌else◌, List, [], ◌∷◌, Option, Some, None}
use Rattle.plain_model.specs.declared.reply.Message.{Message}
use Rattle.plain_model.specs.declared.reply.Carried.TheVariants.{Nothing, Number, Named}

-- a message that carries nothing
abbrev pub plain : ℕ → Message
plain number = record { number = number; carried = Nothing }

-- a message that carries a number: a place, a session or a count
abbrev pub at_place : ℕ → ℕ → Message
at_place number place = record { number = number; carried = Number place }

-- a message that carries the name of a database
abbrev pub of_name : ℕ → List ℕ → Message
of_name number name = record { number = number; carried = Named name }

-- the first of these that applies, if any
abbrev pub first_that : {X : Type 0} → List (Bool × X) → Option X
first_that [] = None
first_that (r ∷ rs) = if r.0 then Some r.1 else first_that rs

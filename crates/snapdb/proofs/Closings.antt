-- What the call tells of a run that was closed.
use Rattle.std.proofs.Common.{◌≡◌, ◌⊎◌, inl, inr, ℕ, List, ◌++◌, ◌∙◌, append_assoc, arith}
use Rattle.std.specs.Prelude.{Option}
use Rattle.std.specs.Io.KnownBytes.{Appends}
use Rattle.page_dev.specs.Faults.{Rose}
use Rattle.plain_model.specs.declared.event.Event.{Event}
use Rattle.plain_model.specs.Printed.{printed}
use Rattle.early_engine.specs.declared.closing.CloseEnd.{CloseEnd}
use Rattle.early_engine.specs.declared.closing.CloseEnd.TheVariants.{Done, Fault}
use Rattle.early_engine.specs.Closing.{IsFault}
use Rattle.snapdb.specs.Headline.{close_line}
use Rattle.snapdb.specs.Closed.{told_text, status_of}

-- three pieces, written one behind the other
pub three_pieces : (t a b c : List ℕ) → ((t ++ a) ++ b) ++ c ≡ t ++ (a ++ (b ++ c))
three_pieces t a b c = append_assoc (t ++ a) b c ∙ append_assoc t a (b ++ c)

module _ (book : List Event) (status : ℕ) (taken taken' : Option (List ℕ)) (f f' : ℕ) where
  -- one of these numbers is neither of the others
  one_of : (a b c d : ℕ) → (a ≡ b) ⊎ ((a ≡ c) ⊎ (a ≡ d)) → (b ≡ a → ⊥) → (c ≡ a → ⊥) → (d ≡ a → ⊥) → ⊥
  one_of a b c d (inl e) x y z = x (cc e)
  one_of a b c d (inr (inl e)) x y z = y (cc e)
  one_of a b c d (inr (inr e)) x y z = z (cc e)

  -- at status 0 all files are back, and the text of the history was written
  pub tells_done : (is : CloseEnd → Type 0) (end : CloseEnd) → is end → (status ≡ status_of end) ⊎ ((status ≡ 3) ⊎ (status ≡ 4)) → (status ≡ status_of end → Appends taken taken' (told_text book end)) → status ≡ 0
      → is Done × Appends taken taken' (printed book)
  tells_done is Done so known all zero = (so, all zero)
  tells_done is (Fault name) so known all zero = absurd (one_of status 7 3 4 known (λ e. omega (arith, e, zero)) (λ e. omega (arith, e, zero)) (λ e. omega (arith, e, zero)))

  -- at status 7 the line of a file that wasn't put back was written behind it
  pub tells_close : (is : CloseEnd → Type 0) (end : CloseEnd) → is end → (IsFault end → Rose f f') → (status ≡ status_of end) ⊎ ((status ≡ 3) ⊎ (status ≡ 4)) → (status ≡ status_of end → Appends taken taken' (told_text book end)) → status ≡ 7
      → (name : List ℕ) × Rose f f' × is (Fault name) × Appends taken taken' (printed book ++ close_line name)
  tells_close is Done so fault known all seven = absurd (one_of status 0 3 4 known (λ e. omega (arith, e, seven)) (λ e. omega (arith, e, seven)) (λ e. omega (arith, e, seven)))
  tells_close is (Fault name) so fault known all seven = (name, fault tt, so, all seven)

-- A text that is a name, and one that isn't.
use Rattle.std.proofs.Common.{◌≡◌, List, ℕ, ap, sym, ◌∙◌}
use Rattle.std.specs.Prelude.{Option}
use Rattle.page_base.proofs.FormatLemmas.{ok}
use Rattle.byte_fields.specs.Reading.{short_at, told}
use Rattle.byte_fields.proofs.FieldLemmas.{name_read}
use Rattle.byte_fields.proofs.reader.Reader.name.Goals as goal

pub returns-in_default-clause-read : goal.returns-in_default-clause-read
returns-in_default-clause-read c =
    let read : short_at c.args.self.now ≡ ok c.in_ok-short_text.field-0.now c.short_text.new.self = ap short_at (sym c.again-next.ensures) ∙ c.in_ok-short_text.ensures.read in
    name_read c.args.self.now c.in_ok-short_text.field-0.now c.short_text.new.self c.kept.result read c.kept.ensures
    ∙ ap (λ (o : Option (List ℕ)). told c.args.self.now o c.short_text.new.self) c.in_default.is

pub returns-clause-read : goal.returns-clause-read
returns-clause-read c =
    let read : short_at c.args.self.now ≡ ok c.in_ok-short_text.field-0.now c.short_text.new.self = ap short_at (sym c.again-next.ensures) ∙ c.in_ok-short_text.ensures.read in
    name_read c.args.self.now c.in_ok-short_text.field-0.now c.short_text.new.self c.kept.result read c.kept.ensures
    ∙ ap (λ (o : Option (List ℕ)). told c.args.self.now o c.short_text.new.self) c.in-Some.is

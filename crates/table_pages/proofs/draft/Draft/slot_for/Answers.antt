use Rattle.std.proofs.Common.{◌∙◌, List, sym, subst}
use Rattle.page_base.specs.declared.value.Value.{Value}
use Rattle.page_fmt.specs.Content.{content}
use Rattle.table_pages.specs.Drafts.{LacksKey, Beside}
use Rattle.table_pages.proofs.DraftLemmas.{key_few}
use Rattle.table_pages.proofs.draft.Draft.slot_for.Goals as goal

pub returns-in-Some-clause-few : goal.returns-in-Some-clause-few
returns-in-Some-clause-few c = λ cols h. key_few cols c.args.self.now.page c.args.key.now c.in-Some.slot c.requires.page (h.found c.args.key.now c.in-Some.slot (sym c.slot.ensures ∙ c.in-Some.is))

pub returns-in-None-clause-goes : goal.returns-in-None-clause-goes
returns-in-None-clause-goes c = λ cols row h at.
    Beside (subst (λ (k : List Value). LacksKey cols (content c.args.self.now.page) k) at (h.lacks c.args.key.now (sym c.slot.ensures ∙ c.in-None.is))) c.empty_slot.ensures.slot

use Rattle.std.proofs.Common.{◌∙◌, ◌≡◌, ◌≢◌, ℕ, List, [], ap, sym, subst, refl, arith}
use Rattle.std.specs.FinMap as finite
use Rattle.page_base.specs.declared.column.Column.{Column}
use Rattle.page_fmt.specs.Content.{content}
use Rattle.page_fmt.specs.Edits.{slot_at}
use Rattle.page_fmt.proofs.CallerLemmas.{slot_at-edited_other}
use Rattle.plain_model.specs.Tables.{Rows}
use Rattle.table_pages.specs.Drafting.{Index, IsDraft}
use Rattle.table_pages.proofs.DraftLemmas.{CutsOne, cut_there, cut_absent}
use Rattle.table_pages.proofs.RoomLemmas.{full_cut}
use Rattle.table_pages.proofs.draft.Draft.cut.Goals as goal

pub returns-in-Some-clause-full : goal.returns-in-Some-clause-full
returns-in-Some-clause-full c =
    full_cut (content c.args.self.now.page) (content c.clear_slot.new.image) c.in-Some.slot c.args.self.now.full c.min-self.result
    (λ j ne. ap (λ (s : List (List ℕ)). slot_at s j) c.clear_slot.ensures.cleared ∙ slot_at-edited_other (content c.args.self.now.page) c.in-Some.slot j [] ne)
    (let m = c.min-self.ensures in omega arith) (λ pos. let m = c.min-self.ensures in let s = c.saturating_sub.ensures in omega arith) c.requires.full

pub returns-in-Some-clause-draft : goal.returns-in-Some-clause-draft
returns-in-Some-clause-draft c = λ cols rows h.
    subst (λ (m : Index). IsDraft cols c.clear_slot.new.image m (finite.remove rows c.args.key.now)) (sym c.take.ensures.new)
    (cut_there cols c.args.self.now.page c.requires.page rows h.rows_are c.args.self.now.index h.some h.index_is c.args.key.now c.clear_slot.new.image c.in-Some.slot (sym c.take.ensures.slot ∙ c.in-Some.is) c.clear_slot.ensures.cleared).draft

pub returns-in-Some-clause-cuts : goal.returns-in-Some-clause-cuts
returns-in-Some-clause-cuts c = λ cols rows h.
    (cut_there cols c.args.self.now.page c.requires.page rows h.rows_are c.args.self.now.index h.some h.index_is c.args.key.now c.clear_slot.new.image c.in-Some.slot (sym c.take.ensures.slot ∙ c.in-Some.is) c.clear_slot.ensures.cleared).cuts

pub returns-in-Some-clause-front : goal.returns-in-Some-clause-front
returns-in-Some-clause-front c = λ cols rows h.
    (cut_there cols c.args.self.now.page c.requires.page rows h.rows_are c.args.self.now.index h.some h.index_is c.args.key.now c.clear_slot.new.image c.in-Some.slot (sym c.take.ensures.slot ∙ c.in-Some.is) c.clear_slot.ensures.cleared).front

pub returns-in_default-clause-draft : goal.returns-in_default-clause-draft
returns-in_default-clause-draft c = λ cols rows h.
    subst (λ (m : Index). IsDraft cols c.args.self.now.page m (finite.remove rows c.args.key.now)) (sym c.take.ensures.new)
    (cut_absent cols c.args.self.now.page c.requires.page rows h.rows_are c.args.self.now.index h.some h.index_is c.args.key.now c.args.self.now.page (sym c.take.ensures.slot ∙ c.in_default.is) refl).draft

pub returns-in_default-clause-cuts : goal.returns-in_default-clause-cuts
returns-in_default-clause-cuts c = λ cols rows h.
    (cut_absent cols c.args.self.now.page c.requires.page rows h.rows_are c.args.self.now.index h.some h.index_is c.args.key.now c.args.self.now.page (sym c.take.ensures.slot ∙ c.in_default.is) refl).cuts

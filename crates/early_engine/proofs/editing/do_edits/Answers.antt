use Rattle.std.proofs.Common.{◌≡◌, ◌∷◌, ◌∙◌, ◌+◌, ◌<◌, ℕ, length, get_or, List, drop, refl, ap, sym, subst, arith}
use Rattle.std.proofs.lemmas.List.{drop_more}
use Rattle.table_pages.specs.declared.edit.Edit.{Edit}
use Rattle.table_pages.specs.Carried.{Carries}
use Rattle.table_pages.proofs.CallerLemmas.{carries_on}
use Rattle.early_engine.proofs.PushLemmas.{leaves_refl, leaves_trans, turns_none, turns_trans}
use Rattle.early_engine.proofs.editing.do_edits.Goals as goal

-- the edit is the first of those that are left
first_left : (edits : List Edit) (i : ℕ) (e : Edit) → i < length edits → e ≡ get_or edits i e → drop i edits ≡ e ∷ drop (i + 1) edits
first_left edits i e lt is = drop_more edits i e lt ∙ ap (λ (x : Edit). x ∷ drop (i + 1) edits) (sym is)

pub do_edit-requires-clause-there : goal.do_edit-requires-clause-there
do_edit-requires-clause-there g c =
    let left = first_left c.as_slice-edit-items.result.now c.loop-edit.edit-index c.edit-item.result c.loop-edit-test.true c.edit-item.is in
    let plan = subst (λ (es : List Edit). Carries c.loop-edit.pages es g.tables) left c.loop-edit.invariant.plan in
    plan.there 0 c.edit-item.result (omega arith)

pub do_edit-requires-clause-room : goal.do_edit-requires-clause-room
do_edit-requires-clause-room g c =
    let left = first_left c.as_slice-edit-items.result.now c.loop-edit.edit-index c.edit-item.result c.loop-edit-test.true c.edit-item.is in
    let plan = subst (λ (es : List Edit). Carries c.loop-edit.pages es g.tables) left c.loop-edit.invariant.plan in
    plan.fits.0

pub loop-edit-init : goal.loop-edit-init
loop-edit-init g c = record {
  edits = record { leaves = leaves_refl c.args.pages.now; turns = turns_none c.args.ledger.now c.args.pages.now c.args.pages.now refl refl; pages = c.requires.1.1.0 };
  plan = subst (λ (es : List Edit). Carries c.args.pages.now es g.tables) (sym c.as_slice-edit-items.ensures) c.requires.1.0;
  still = λ none. refl;
  room = c.requires.1.1.1;
}

pub loop-edit-preserved : goal.loop-edit-preserved
loop-edit-preserved g c =
    let inv = c.loop-edit.invariant in
    let e = c.do_edit.ensures in
    let left = first_left c.as_slice-edit-items.result.now c.loop-edit.edit-index c.edit-item.result c.loop-edit-test.true c.edit-item.is in
    record {
      edits = record {
        leaves = leaves_trans c.args.pages.now c.loop-edit.pages c.do_edit.new.pages inv.edits.leaves e.edits.leaves;
        turns = turns_trans c.args.ledger.now c.loop-edit.ledger c.do_edit.new.ledger c.args.pages.now c.loop-edit.pages c.do_edit.new.pages inv.edits.leaves e.edits.leaves inv.edits.turns e.edits.turns;
        pages = e.edits.pages;
      };
      plan = carries_on c.loop-edit.pages c.do_edit.new.pages c.edit-item.result (drop (c.loop-edit.edit-index + 1) c.as_slice-edit-items.result.now) g.tables
          (subst (λ (es : List Edit). Carries c.loop-edit.pages es g.tables) left inv.plan) e.slots e.content e.img e.edits.leaves.counts;
      still = λ none.
          let lt : c.loop-edit.edit-index < length c.as_slice-edit-items.result.now = c.loop-edit-test.true in
          let l : length c.as_slice-edit-items.result.now ≡ 0 = ap length (c.as_slice-edit-items.ensures ∙ none) in
          absurd (omega (arith, lt, l));
      room = let r = e.edits.turns.room in let f = e.edits.turns.fewer in let h = inv.room in omega (arith, r, f, h);
    }

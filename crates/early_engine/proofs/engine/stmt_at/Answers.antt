use Rattle.std.proofs.Common.{◌≡◌, ◌<◌, ◌∙◌, ℕ, true, false, Bool, List, [], length, get_or, sym, ap, refl, subst}
use Rattle.std.proofs.lemmas.List.Folds.{list_all_at}
use Rattle.std.proofs.lemmas.Option.{get_or_from_slice_get}
use Rattle.std.specs.List.{list_all}
use Rattle.plain_model.specs.declared.stmt.Stmt.{Stmt}
use Rattle.plain_model.specs.Sound.{is_sound, are_sound}
use Rattle.early_engine.proofs.engine.stmt_at.Goals as goal

-- each statement of a sound script is sound
at_place : (stmts : List Stmt) (i : ℕ) (x : Stmt) → list_all is_sound stmts ≡ true → i < length stmts → x ≡ get_or stmts i x → is_sound x ≡ true
at_place stmts i x all lt is = go (is_sound x) refl
  where
    go : (b : Bool) → is_sound x ≡ b → is_sound x ≡ true
    go true e = e
    go false e = absurd (let y : true ≡ false = sym all ∙ list_all_at is_sound stmts i x lt (ap is_sound (sym is) ∙ e) in cc)

pub returns-clause-sound : goal.returns-clause-sound
returns-clause-sound c =
    let script : get_or c.args.scripts.now c.args.place [] ≡ c.as_slice.result.now = get_or_from_slice_get c.args.scripts.now c.args.place c.at-script.result.now [] c.at-script.ensures ∙ sym c.as_slice.ensures.value in
    at_place c.as_slice.result.now c.args.said c.index-as_slice-said.result (ap are_sound c.as_slice.ensures.value ∙ c.as_slice.ensures.sound)
    (subst (λ (ss : List Stmt). c.args.said < length ss) script c.requires.more) c.index-as_slice-said.is

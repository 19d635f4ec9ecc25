-- An edit of a source page behind its pushes.
use Rattle.std.proofs.Common.{◌≡◌, ◌≤◌, ℕ, List, arith, cond, inl, inr, ap, sym, ◌∙◌, subst, Result, Ok, Err}
use Rattle.std.specs.Prelude.{OnOk, IfErr}
use Rattle.page_base.specs.declared.numbers.PageId.{PageId}
use Rattle.page_base.specs.Pages.{set_at}
use Rattle.page_base.proofs.PagesLemmas.{is_page-other, cases_page}
use Rattle.page_fmt.specs.Content.{IsPage}
use Rattle.page_fmt.specs.Spelling.{used}
use Rattle.page_fmt.specs.Edits.{LacksRoom}
use Rattle.early_pages.specs.Shown.{Shown, img, counts, catalog}
use Rattle.early_pages.specs.Views.{KeepsViews}
use Rattle.early_engine.specs.Entering.{Kept}
use Rattle.early_engine.specs.Pushing.{Pushes, Turns}
use Rattle.early_engine.specs.Doing.{Edits}
use Rattle.early_engine.proofs.PushLemmas.{leaves_of, leaves_trans, leaves_changed, turns_trans, turns_changed}

-- a call that can't be refused is done
pub surely : {T E : Type 0} (r : Result T E) (P : Type 0) (Q : E → Type 0) → OnOk r P → IfErr r Q → ((e : E) → Q e → ⊥) → P
surely (Ok x) P Q ok err never = ok
surely (Err e) P Q ok err never = absurd (never e err)

pub edits_one : (v mid w : Shown) (a b : Kept) (p : PageId) → Pushes v mid → Turns a b v mid → ((q : PageId) → IsPage (img v q)) → img w ≡ set_at (img mid) p (img w p) → IsPage (img w p) → counts w ≡ counts mid → catalog w ≡ catalog mid → KeepsViews mid w → Edits v w a b
edits_one v mid w a b p pushes turns pages only page same cat views =
    let l = leaves_changed mid w same cat views in
    record {
      leaves = leaves_trans v mid w (leaves_of v mid pushes) l;
      turns = turns_trans a b b v mid w (leaves_of v mid pushes) l turns (turns_changed b mid w cat);
      pages = λ q. elim (cases_page q p) [
        | inl e ↦ subst (λ r. IsPage (img w r)) (sym e) page
        | inr ne ↦ subst IsPage (sym (ap (λ f. f q) only ∙ ap (λ b. cond b (img w p) (img mid q)) (is_page-other p q ne) ∙ ap (λ f. f q) pushes.img)) (pages q)
      ];
    }

pub no_lack : (old new : List (List ℕ)) (need free : ℕ) → used new ≤ 8192 → LacksRoom old new need free → ⊥
no_lack old new need free fits l = let g = l.grows in let h = l.left in let k = l.lacks in absurd (omega (arith, fits, g, h, k))

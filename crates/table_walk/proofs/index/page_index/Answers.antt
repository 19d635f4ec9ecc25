use Rattle.std.proofs.Common.{◌≡◌, ◌<◌, ◌∙◌, [], List, length, take, get_or, ap, sym, arith, true, false, cond}
use Rattle.std.specs.Prelude.{Some}
use Rattle.std.specs.Option.{is_some}
use Rattle.std.specs.Ordering.{is_eq}
use Rattle.std.proofs.lemmas.List.{take_more, length-take-le}
use Rattle.page_fmt.specs.Seen.{Looked}
use Rattle.table_walk.specs.Index.{place_in, page_cmp}
use Rattle.table_walk.proofs.IndexLemmas.{index_old, index_new}
use Rattle.table_walk.proofs.index.page_index.Goals as goal

pub loop-i-preserved-then-contains_key : goal.loop-i-preserved-then-contains_key
loop-i-preserved-then-contains_key c = λ q.
    let lt : c.loop-i.i < length c.args.seen.now = omega (arith, c.len-i-end.ensures) in
    let d : Looked = record { page = c.page-page.result; slots = [] } in
    let before : List Looked = take c.loop-i.i c.args.seen.now in
    let x : Looked = get_or c.args.seen.now c.loop-i.i d in
    let old : is_some (place_in before x.page) ≡ true = ap (λ p. is_some (place_in before p)) (sym (c.page-page.ensures d)) ∙ ap is_some (sym (c.loop-i.invariant c.page-page.result)) ∙ sym c.contains_key.ensures ∙ c.if-contains_key.true in
    c.loop-i.invariant q ∙ index_old before x q old ∙ ap (λ xs. place_in xs q) (sym (take_more c.args.seen.now c.loop-i.i d lt))

pub loop-i-preserved : goal.loop-i-preserved
loop-i-preserved c = λ q.
    let lt : c.loop-i.i < length c.args.seen.now = omega (arith, c.len-i-end.ensures) in
    let d : Looked = record { page = c.page-page.result; slots = [] } in
    let before : List Looked = take c.loop-i.i c.args.seen.now in
    let x : Looked = get_or c.args.seen.now c.loop-i.i d in
    let long : c.loop-i.i ≡ length before = sym (length-take-le c.loop-i.i c.args.seen.now (omega arith)) in
    let new : is_some (place_in before x.page) ≡ false = ap (λ p. is_some (place_in before p)) (sym (c.page-page.ensures d)) ∙ ap is_some (sym (c.loop-i.invariant c.page-page.result)) ∙ sym c.contains_key.ensures ∙ c.if-contains_key.false in
    c.in_ok-insert.ensures.updates.0 q ∙ (λ i. cond (is_eq (page_cmp (c.page-page.ensures d i) q)) (Some (long i)) (c.loop-i.invariant q i)) ∙ index_new before x q new ∙ ap (λ xs. place_in xs q) (sym (take_more c.args.seen.now c.loop-i.i d lt))

use Rattle.std.proofs.Common.{◌≡◌, ◌<◌, ◌≤◌, ◌+◌, ◌∙◌, List, sym, ap, subst, length, refl, arith, true, false}
use Rattle.sys_cat.specs.declared.desc.TableDesc.{TableDesc}
use Rattle.sys_cat.specs.Growing.{is_whole}
use Rattle.sys_cat.specs.Lists.{IsFirstWrong}
use Rattle.sys_cat.specs.Reading.{may_follow}
use Rattle.sys_cat.proofs.ParseLemmas.{rows_determine}
use Rattle.sys_cat.proofs.ReadLemmas.{State, Took, state_begin, wrong_head, took_from, state_more, wrong_end, state_end}
use Rattle.sys_cat.proofs.reading.descs.Goals as goal

pub loop-i-init : goal.loop-i-init
loop-i-init c = state_begin c.args.rows.now c.new-descs.result.items c.new-descs.ensures.items

head_wrong : (c : goal.After-drop-descs) → IsFirstWrong c.args.rows.now c.loop-i.i
head_wrong c =
    let lt : c.loop-i.i < length c.args.rows.now = omega (arith, c.len.ensures, c.loop-i-test.true) in
    wrong_head c.args.rows.now c.loop-i.descs.items c.loop-i.i c.at.result.now c.loop-i.invariant lt (sym (c.at.ensures.value c.at.result.now))
    (λ d head follows. c.in_default.ensures d head (ap (λ (ds : List TableDesc). may_follow ds d) c.as_slice.ensures.value ∙ follows))

pub returns-in_default-clause-only : goal.returns-in_default-clause-only
returns-in_default-clause-only c = (head_wrong c).none

pub returns-in_default-clause-refused : goal.returns-in_default-clause-refused
returns-in_default-clause-refused c = head_wrong c

pub loop-i-preserved : goal.loop-i-preserved
loop-i-preserved c =
    let lt : c.loop-i.i < length c.args.rows.now = omega (arith, c.len.ensures, c.loop-i-test.true) in
    let t : Took c.args.rows.now c.loop-i.descs.items c.loop-i.i c.in-Some.desc c.in_ok-cols.cols =
    took_from c.args.rows.now c.as_slice-in-loop-i.result.now c.loop-i.descs.items c.as_slice.result.now c.loop-i.i c.at.result.now c.in-Some.desc c.in_ok-cols.cols c.loop-i.invariant lt (sym (c.at.ensures.value c.at.result.now)) c.as_slice.ensures.value
    c.in-Some.ensures c.as_slice-in-loop-i.ensures c.in_ok-cols.ensures in
    let whole : is_whole c.in_ok-cols.cols ≡ true = ap is_whole (sym c.as_slice-in-loop-i-2.ensures) ∙ sym c.is_whole.ensures ∙ c.if-not-is_whole.false in
    subst (λ n. State c.args.rows.now c.push.new.self.items (c.loop-i.i + (1 + n))) (sym c.len-in-loop-i.ensures)
    (state_more c.args.rows.now c.loop-i.descs.items c.push.new.self.items c.loop-i.i c.in-Some.desc _ c.in_ok-cols.cols c.loop-i.invariant t whole refl c.in_ok-push.ensures.items)

pub overflow_cast-result-then-not-is_whole : goal.overflow_cast-result-then-not-is_whole
overflow_cast-result-then-not-is_whole c =
    let lt : c.loop-i.i < length c.args.rows.now = omega (arith, c.len.ensures, c.loop-i-test.true) in
    let t : Took c.args.rows.now c.loop-i.descs.items c.loop-i.i c.in-Some.desc c.in_ok-cols.cols =
    took_from c.args.rows.now c.as_slice-in-loop-i.result.now c.loop-i.descs.items c.as_slice.result.now c.loop-i.i c.at.result.now c.in-Some.desc c.in_ok-cols.cols c.loop-i.invariant lt (sym (c.at.ensures.value c.at.result.now)) c.as_slice.ensures.value
    c.in-Some.ensures c.as_slice-in-loop-i.ensures c.in_ok-cols.ensures in
    let w = t.within in
    omega (arith, c.len-in-loop-i.ensures, c.requires)

part_wrong : (c : goal.After-drop-descs-then-not-is_whole) → IsFirstWrong c.args.rows.now (c.loop-i.i + (1 + c.len-in-loop-i.result))
part_wrong c =
    let lt : c.loop-i.i < length c.args.rows.now = omega (arith, c.len.ensures, c.loop-i-test.true) in
    let t : Took c.args.rows.now c.loop-i.descs.items c.loop-i.i c.in-Some.desc c.in_ok-cols.cols =
    took_from c.args.rows.now c.as_slice-in-loop-i.result.now c.loop-i.descs.items c.as_slice.result.now c.loop-i.i c.at.result.now c.in-Some.desc c.in_ok-cols.cols c.loop-i.invariant lt (sym (c.at.ensures.value c.at.result.now)) c.as_slice.ensures.value
    c.in-Some.ensures c.as_slice-in-loop-i.ensures c.in_ok-cols.ensures in
    let part : is_whole c.in_ok-cols.cols ≡ false = ap is_whole (sym c.as_slice-in-loop-i-2.ensures) ∙ sym c.is_whole.ensures ∙ c.if-not-is_whole.true in
    wrong_end c.args.rows.now c.loop-i.descs.items c.loop-i.i c.in-Some.desc c.in_ok-cols.cols (c.loop-i.i + (1 + c.len-in-loop-i.result)) c.loop-i.invariant t part (ap (λ n. c.loop-i.i + (1 + n)) c.len-in-loop-i.ensures)

pub returns-then-not-is_whole-clause-only : goal.returns-then-not-is_whole-clause-only
returns-then-not-is_whole-clause-only c = (part_wrong c).none

pub returns-then-not-is_whole-clause-refused : goal.returns-then-not-is_whole-clause-refused
returns-then-not-is_whole-clause-refused c = part_wrong c

pub returns-clause-only : goal.returns-clause-only
returns-clause-only c = λ ds t.
    let past : length c.args.rows.now ≤ c.loop-i.i = omega (arith, c.len.ensures, c.loop-i-test.false) in
    let all = state_end c.args.rows.now c.loop-i.descs.items c.loop-i.i c.loop-i.invariant past in
    c.from.ensures ∙ rows_determine c.args.rows.now c.loop-i.descs.items ds all.spelled t.spelled

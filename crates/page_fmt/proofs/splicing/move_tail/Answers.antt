use Rattle.std.proofs.Common.{◌≡◌, ◌+◌, ◌-◌, ◌++◌, length, ◌∙◌, arith}
use Rattle.page_fmt.proofs.SplicingLemmas.{moved_back, moved_front}
use Rattle.page_fmt.proofs.splicing.move_tail.Goals as goal
use Rattle.page_fmt.specs.Places.{zeros}

pub returns-then-new-old : goal.returns-then-new-old
returns-then-new-old c = λ tail e.
    let front : c.args.old + (c.args.new - c.args.old) ≡ c.args.new = omega arith in
    let back : length c.args.area.now - c.args.end - (c.args.new - c.args.old) ≡ length c.args.area.now + c.args.old - c.args.end - c.args.new = omega arith in
    moved_back c.args.area.now c.move_back.new.area tail c.args.old (c.args.new - c.args.old) c.args.end (omega arith) c.move_back.ensures e
    ∙ (λ i. zeros (front i) ++ (tail ++ zeros (back i)))

pub returns-else-new-old : goal.returns-else-new-old
returns-else-new-old c = λ tail e.
    let front : c.args.old - (c.args.old - c.args.new) ≡ c.args.new = omega arith in
    let back : c.args.old - c.args.new + (length c.args.area.now - c.args.end) ≡ length c.args.area.now + c.args.old - c.args.end - c.args.new = omega arith in
    moved_front c.args.area.now c.move_front.new.area tail c.args.old (c.args.old - c.args.new) c.args.end (omega arith) (omega arith) (omega arith) c.move_front.ensures e
    ∙ (λ i. zeros (front i) ++ (tail ++ zeros (back i)))

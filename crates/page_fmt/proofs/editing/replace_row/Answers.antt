use Rattle.std.proofs.Common.{◌≡◌, ◌+◌, ◌-◌, ◌++◌, List, ℕ, length, take, drop, ap, ◌∙◌, arith, length-append}
use Rattle.std.proofs.lemmas.List.{length-replicate, length-take, length-drop}
use Rattle.page_fmt.specs.Places.{zeros}
use Rattle.page_fmt.proofs.PutLemmas.{mid_read, mid_written}
use Rattle.page_fmt.proofs.editing.replace_row.Goals as goal

pub returns : goal.returns
returns c = λ front row tail back e f g h.
    let free : ℕ = c.args.limit - c.args.end in
    let piece : List ℕ = row ++ (tail ++ zeros free) in
    let part : List ℕ = take (c.args.limit - c.args.start) (drop c.args.start c.args.page.now) in
    let long : length (zeros free) ≡ free = length-replicate {A = ℕ} free 0 in
    let k : length piece ≡ c.args.limit - c.args.start = omega (arith, length-append row (tail ++ zeros free), length-append tail (zeros free)) in
    let size : length part ≡ c.args.limit - c.args.start = omega (arith, length-take (c.args.limit - c.args.start) (drop c.args.start c.args.page.now), length-drop c.args.start c.args.page.now) in
    let read : part ≡ piece = mid_read c.args.page.now front piece back c.args.start (c.args.limit - c.args.start) e f k in
    let free_is : free ≡ length part - (c.args.end - c.args.start) = omega arith in
    let left : length part + (c.args.stop - c.args.start) - (c.args.end - c.args.start) - length c.args.bytes.now ≡ c.args.limit + (c.args.stop - c.args.start) - c.args.end - length c.args.bytes.now = omega arith in
    mid_written c.args.page.now front piece back c.replace_front.new.area c.args.start (c.args.limit - c.args.start) e f k
    ∙ ap (λ t. front ++ (t ++ back)) (c.replace_front.ensures row tail (read ∙ ap (λ n. row ++ (tail ++ zeros n)) free_is) g ∙ ap (λ n. c.args.bytes.now ++ (tail ++ zeros n)) left)

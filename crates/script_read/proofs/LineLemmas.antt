-- The lines of a text, and the text of lines.
use Rattle.std.proofs.Common.{◌≡◌, ℕ, zero, suc, ◌+◌, ◌-◌, ◌<◌, ◌≤◌, Bool, true, false, cond, List, [], ◌∷◌, ◌++◌, length, take, drop, arith, ap, sym, ◌∙◌, refl, append_assoc, length-append, append-nil}
use Rattle.std.proofs.lemmas.List.{length-take-le}
use Rattle.std.proofs.lemmas.List.Sums.{prefix_len-le-length, sum_by-append, sum_by-cons}
use Rattle.std.proofs.lemmas.Bool.{eqb-true}
use Rattle.std.proofs.Math.Seq.{take-append_seam, drop-append_seam}
use Rattle.std.specs.Prelude.{◌==◌, ◌&&◌, not, flat_map}
use Rattle.std.specs.List.{prefix_len, list_all, count_by}
use Rattle.script_read.specs.Limit.{ends_before}
use Rattle.script_read.proofs.BoolLemmas.{both_hold}
use Rattle.script_read.specs.Lines.{is_at_end, without_returns, is_inside, is_whole, before_first, lines_in, with_end, ended, behind_end, joined}

-- how many bytes the first line has
abbrev pub line_len : List ℕ → ℕ
line_len text = prefix_len is_inside text

-- the first line, and those behind it
abbrev pub Parts : List ℕ → Type 0
Parts text = lines_in text ≡ take (line_len text) text ∷ lines_in (drop (line_len text + 1) text)

parts_on : (n b : ℕ) (bs : List ℕ) → before_first b (take n bs ∷ lines_in (drop (n + 1) bs)) ≡ take (1 + n) (b ∷ bs) ∷ lines_in (drop (1 + n + 1) (b ∷ bs))
parts_on n b bs =
    let two : 1 + n + 1 ≡ suc (n + 1) = omega arith in
    let one : 1 + n ≡ suc n = omega arith in
    rw (two, one) refl

parts_one : (v : Bool) (b c : ℕ) (bs : List ℕ) → (b == 10) ≡ v → Parts (c ∷ bs) → Parts (b ∷ c ∷ bs)
parts_one true b c bs e h = rw e refl
parts_one false b c bs e h = rw (e, h) (parts_on (line_len (c ∷ bs)) b (c ∷ bs))

parts_end : (v : Bool) (b : ℕ) → (b == 10) ≡ v → Parts (b ∷ [])
parts_end true b e = rw e refl
parts_end false b e = rw e refl

-- the first line of bytes, and those behind it
pub parts : (text : List ℕ) → 0 < length text → Parts text
parts [] some = absurd (omega (arith, some))
parts (b ∷ []) some = parts_end (b == 10) b refl
parts (b ∷ c ∷ bs) some = parts_one (b == 10) b c bs refl (parts (c ∷ bs) (omega arith))

-- the first line of a text of whole lines, and its end, stand in front
pub record Fits (text : List ℕ) : Type 0 where
  pub within : line_len text < length text
  pub whole : drop (line_len text + 1) text ≡ ended (lines_in (drop (line_len text + 1) text))

-- the first line of whole lines fits, with its end
pub fits : (text : List ℕ) → text ≡ ended (lines_in text) → 0 < length text → Fits text
fits text whole some =
    let n : ℕ = line_len text in
    let line : List ℕ = take n text in
    let rest : List ℕ = drop (n + 1) text in
    let long : length line ≡ n = length-take-le n text (prefix_len-le-length is_inside text) in
    let split : text ≡ (line ++ 10 ∷ []) ++ ended (lines_in rest) = whole ∙ ap ended (parts text some) in
    let front : length (line ++ 10 ∷ []) ≡ n + 1 = simp length-append (omega (arith, long)) in
    record {
      within = omega (arith, ap length split, length-append (line ++ 10 ∷ []) (ended (lines_in rest)), front);
      whole = ap (drop (n + 1)) split ∙ ap (λ k. drop k ((line ++ 10 ∷ []) ++ ended (lines_in rest))) (sym front) ∙ drop-append_seam (line ++ 10 ∷ []) (ended (lines_in rest));
    }

-- lines with their ends are the lines joined, and an end
end_last : (line : List ℕ) (lines : List (List ℕ)) → ended (line ∷ lines) ≡ joined (line ∷ lines) ++ 10 ∷ []
end_last line [] = rw (append-nil line, append-nil (line ++ 10 ∷ [])) refl
end_last line (next ∷ lines) = ap (λ (text : List ℕ). with_end line ++ text) (end_last next lines) ∙ simp append_assoc

-- without the last byte they are the lines joined
pub joined_front : (lines : List (List ℕ)) → take (length (ended lines) - 1) (ended lines) ≡ joined lines
joined_front [] = refl
joined_front (line ∷ lines) =
    let text : List ℕ = joined (line ∷ lines) in
    let long : length (text ++ 10 ∷ []) - 1 ≡ length text = simp length-append (omega arith) in
    rw (end_last line lines, long) (take-append_seam text (10 ∷ []))

-- the text of lines behind lines
pub ended-append : (lines more : List (List ℕ)) → ended (lines ++ more) ≡ ended lines ++ ended more
ended-append [] more = refl
ended-append (line ∷ lines) more = ap (λ (text : List ℕ). with_end line ++ text) (ended-append lines more) ∙ sym (append_assoc (with_end line) (ended lines) (ended more))

-- where there are lines there are bytes
pub some_bytes : (text : List ℕ) → 0 < length (lines_in text) → 0 < length text
some_bytes [] some = absurd (omega (arith, some))
some_bytes (b ∷ bs) some = omega arith

-- the text behind the first line has the other lines
pub record Behind (text : List ℕ) (n : ℕ) : Type 0 where
  pub within : n + 1 ≤ length text
  pub lines : lines_in (drop (n + 1) text) ≡ drop 1 (lines_in text)
  pub whole : drop (n + 1) text ≡ ended (lines_in (drop (n + 1) text))

-- what stands behind the first line of whole lines
pub behind : (text : List ℕ) (n : ℕ) → n ≡ line_len text → text ≡ ended (lines_in text) → 0 < length (lines_in text) → Behind text n
behind text n e whole some =
    let bytes : 0 < length text = some_bytes text some in
    let h : Fits text = fits text whole bytes in
    rw e (record { within = omega (arith, h.within); lines = sym (ap (drop 1) (parts text bytes)); whole = h.whole })

-- whether the last line lacks its end, by the last byte
closed_one : (v : Bool) (b : ℕ) → (b == 10) ≡ v → ended (lines_in (b ∷ [])) ≡ b ∷ cond (not v) (10 ∷ []) []
closed_one true b e = let same : b ≡ 10 = eqb-true b 10 e in rw (e, same) refl
closed_one false b e = rw e refl

closed_more : (v : Bool) (b c : ℕ) (bs : List ℕ) → (b == 10) ≡ v → ended (lines_in (b ∷ c ∷ bs)) ≡ b ∷ ended (lines_in (c ∷ bs))
closed_more true b c bs e = let same : b ≡ 10 = eqb-true b 10 e in rw (e, same) refl
closed_more false b c bs e = rw (e, parts (c ∷ bs) (omega arith)) refl

-- a text of which the last line may lack its end
pub closed : (text : List ℕ) (b : ℕ) → ended (lines_in (text ++ b ∷ [])) ≡ (text ++ b ∷ []) ++ cond (not (b == 10)) (10 ∷ []) []
closed [] b = closed_one (b == 10) b refl
closed (c ∷ []) b = closed_more (c == 10) c b [] refl ∙ ap (λ (xs : List ℕ). c ∷ xs) (closed [] b)
closed (c ∷ d ∷ text) b = closed_more (c == 10) c d (text ++ b ∷ []) refl ∙ ap (λ (xs : List ℕ). c ∷ xs) (closed (d ∷ text) b)

kept_short : (v : Bool) (b most : ℕ) (bs : List ℕ) → length bs ≤ most → length (cond v bs (b ∷ bs)) ≤ suc most
kept_short true b most bs h = omega arith
kept_short false b most bs h = omega arith

-- dropping returns adds no bytes
pub length-without_returns : (bytes : List ℕ) → length (without_returns bytes) ≤ length bytes
length-without_returns [] = omega arith
length-without_returns (b ∷ bs) = kept_short (b == 13 && is_at_end bs) b (length bs) (without_returns bs) (length-without_returns bs)

before_first_few : (b n : ℕ) (lines : List (List ℕ)) → length lines ≤ n → length (before_first b lines) ≤ suc n
before_first_few b n [] h = omega arith
before_first_few b n (line ∷ lines) h = omega arith

lines_few_by : (v : Bool) (b n : ℕ) (lines : List (List ℕ)) → length lines ≤ n → length (cond v ([] ∷ lines) (before_first b lines)) ≤ suc n
lines_few_by true b n lines h = omega arith
lines_few_by false b n lines h = before_first_few b n lines h

-- there are no more lines than bytes
pub lines_few : (text : List ℕ) → length (lines_in text) ≤ length text
lines_few [] = omega arith
lines_few (b ∷ bs) = lines_few_by (b == 10) b (length bs) (lines_in bs) (lines_few bs)

last_one : (v : Bool) (b : ℕ) → (b == 10) ≡ v → lines_in (b ∷ cond (not v) (10 ∷ []) []) ≡ lines_in (b ∷ [])
last_one true b e = refl
last_one false b e = rw e refl

-- an end that the last line lacks adds no line
pub closed_lines : (text : List ℕ) (b : ℕ) → lines_in ((text ++ b ∷ []) ++ cond (not (b == 10)) (10 ∷ []) []) ≡ lines_in (text ++ b ∷ [])
closed_lines [] b = last_one (b == 10) b refl
closed_lines (c ∷ text) b = ap (λ (ls : List (List ℕ)). cond (c == 10) ([] ∷ ls) (before_first c ls)) (closed_lines text b)

whole_by : (v : Bool) (b : ℕ) (lines : List (List ℕ)) → (b == 10) ≡ v → list_all is_whole lines ≡ true → list_all is_whole (cond v ([] ∷ lines) (before_first b lines)) ≡ true
whole_by true b lines e h = h
whole_by false b [] e h = rw e refl
whole_by false b (line ∷ lines) e h = rw e h

-- no line has an end within
pub lines_whole : (text : List ℕ) → list_all is_whole (lines_in text) ≡ true
lines_whole [] = refl
lines_whole (b ∷ bs) = whole_by (b == 10) b (lines_in bs) refl (lines_whole bs)

count_one : (b : ℕ) (bs : List ℕ) → count_by (λ c. c == 10) (b ∷ bs) ≡ cond (b == 10) 1 0 + count_by (λ c. c == 10) bs
count_one b bs = sum_by-cons (λ (c : ℕ). cond (c == 10) 1 0) b bs

no_ends_by : (v : Bool) (b : ℕ) (n : ℕ) → (b == 10) ≡ v → not (b == 10) ≡ true → n ≡ 0 → cond (b == 10) 1 0 + n ≡ 0
no_ends_by true b n e h i = cc (rw e at h)
no_ends_by false b n e h i = rw (e, i) refl

no_ends : (line : List ℕ) → is_whole line ≡ true → count_by (λ b. b == 10) line ≡ 0
no_ends [] h = refl
no_ends (b ∷ bs) h = let parts = both_hold (is_inside b) (is_whole bs) h in count_one b bs ∙ no_ends_by (b == 10) b (count_by (λ c. c == 10) bs) refl parts.0 (no_ends bs parts.1)

-- the ends in lines that are joined
ends_behind : (lines : List (List ℕ)) → list_all is_whole lines ≡ true → count_by (λ b. b == 10) (flat_map behind_end lines) ≡ length lines
ends_behind [] h = refl
ends_behind (line ∷ lines) h =
    let parts = both_hold (is_whole line) (list_all is_whole lines) h in
    let here : count_by (λ b. b == 10) (behind_end line ++ flat_map behind_end lines) ≡ count_by (λ b. b == 10) (behind_end line) + count_by (λ b. b == 10) (flat_map behind_end lines)
    = sum_by-append (λ (b : ℕ). cond (b == 10) 1 0) (behind_end line) (flat_map behind_end lines) in
    omega (arith, here, count_one 10 line, no_ends line parts.0, ends_behind lines parts.1)

take_fewer : (at : ℕ) (bytes : List ℕ) → ends_before at bytes ≤ count_by (λ b. b == 10) bytes
take_fewer zero bytes = omega arith
take_fewer (suc at) [] = omega arith
take_fewer (suc at) (b ∷ bs) = omega (arith, count_one b bs, count_one b (take at bs), take_fewer at bs)

-- fewer lines end before a place in lines that are joined than there are
pub ends_few : (at : ℕ) (line : List ℕ) (lines : List (List ℕ)) → list_all is_whole (line ∷ lines) ≡ true → ends_before at (joined (line ∷ lines)) ≤ length lines
ends_few at line lines h =
    let parts = both_hold (is_whole line) (list_all is_whole lines) h in
    let all : count_by (λ b. b == 10) (line ++ flat_map behind_end lines) ≡ count_by (λ b. b == 10) line + count_by (λ b. b == 10) (flat_map behind_end lines)
    = sum_by-append (λ (b : ℕ). cond (b == 10) 1 0) line (flat_map behind_end lines) in
    omega (arith, all, no_ends line parts.0, ends_behind lines parts.1, take_fewer at (joined (line ∷ lines)))

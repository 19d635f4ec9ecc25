-- Pins that are put on the pages of records, or taken from them, one record after the other.
use Rattle.std.proofs.Common.{◌≡◌, ℕ, ◌+◌, ◌-◌, ◌^◌, ◌<◌, ◌≤◌, Bool, true, false, cond, List, [], ◌∷◌, ◌++◌, length, take, get_or, ap, sym, ◌∙◌, subst, arith, add-zero, refl, Option, Some, None, is_some}
use Rattle.std.proofs.lemmas.Bool.{false≢true}
use Rattle.std.proofs.lemmas.List.Sums.{sum_by_more, sum_by_more_le, sum_by-append}
use Rattle.page_base.specs.declared.numbers.PageId.{PageId}
use Rattle.page_base.specs.Pages.{is_page}
use Rattle.page_base.proofs.PagesLemmas.{is_page-same}
use Rattle.rec_log.specs.Records.{Record}
use Rattle.std.specs.Option.{option_map_or}
use Rattle.buf_pool.specs.declared.frame.Frame.{Frame}
use Rattle.buf_pool.specs.Pool.{Pooled, IsPinned, IsPooled, frame_of, pins as pool_pins, with_pin, without_pin}
use Rattle.buf_pool.specs.Steps.{PinsOnce, SameShown}
use Rattle.snap_pages.specs.Owed.{count_on, with_pins_of, without_pins_of}

-- whether a record is of a page, as a number
abbrev one_on : PageId → Record → ℕ
one_on p r = cond (is_page r.page p) 1 0

-- records up to one of them, and that one
pub count_on_more : (records : List Record) (i : ℕ) (r : Record) (p : PageId) → i < length records → r ≡ get_or records i r → count_on (take (i + 1) records) p ≡ count_on (take i records) p + one_on p r
count_on_more records i r p lt is = sum_by_more (one_on p) records i r lt ∙ ap (λ x. count_on (take i records) p + one_on p x) (sym is)

-- they are no more than all
pub count_on_below : (records : List Record) (i : ℕ) (r : Record) → i < length records → r ≡ get_or records i r → count_on (take i records) r.page + 1 ≤ count_on records r.page
count_on_below records i r lt is =
    let here : one_on r.page (get_or records i r) ≡ 1 = ap (one_on r.page) (sym is) ∙ ap (λ b. cond b 1 0) (is_page-same r.page) in
    omega (arith, sum_by_more_le (one_on r.page) records i r lt, here)

pin_step : (b : Bool) (a c d : ℕ) → d ≡ c + cond b 1 0 → cond b (a + c + 1) (a + c) ≡ a + d
pin_step true a c d e = omega arith
pin_step false a c d e = omega arith

unpin_step : (b : Bool) (a c d : ℕ) → d ≡ c + cond b 1 0 → cond b (a - c - 1) (a - c) ≡ a - d
unpin_step true a c d e = omega arith
unpin_step false a c d e = omega arith

module _ (f : PageId → ℕ) (records : List Record) (i : ℕ) (r : Record) (lt : i < length records) (is : r ≡ get_or records i r) where
  pub with_pins_more : with_pin (with_pins_of (take i records) f) r.page ≡ with_pins_of (take (i + 1) records) f
  with_pins_more = λ t p. pin_step (is_page r.page p) (f p) (count_on (take i records) p) (count_on (take (i + 1) records) p) (count_on_more records i r p lt is) t

  pub without_pins_more : without_pin (without_pins_of (take i records) f) r.page ≡ without_pins_of (take (i + 1) records) f
  without_pins_more = λ t p. unpin_step (is_page r.page p) (f p) (count_on (take i records) p) (count_on (take (i + 1) records) p) (count_on_more records i r p lt is) t

  -- a record's page is pinned once less than all records together pin it
  pub room_for_pin : ((p : PageId) → f p + count_on records p ≤ 2 ^ 100) → with_pins_of (take i records) f r.page < 2 ^ 100
  room_for_pin bound = let below = count_on_below records i r lt is in let all = bound r.page in omega arith

  pub pinned_before : ((p : PageId) → 0 < count_on records p → 0 < f p) → 0 < with_pins_of (take i records) f r.page
  pinned_before held = let below = count_on_below records i r lt is in let all = held r.page (omega arith) in omega arith

  pub pinned_still : ((p : PageId) → count_on records p ≤ f p) → 0 < without_pins_of (take i records) f r.page
  pinned_still owed = let below = count_on_below records i r lt is in let all = owed r.page in omega arith

-- a page that is pinned and then let go
pin_there : (b : Bool) (n : ℕ) → cond b (cond b (n + 1) n - 1) (cond b (n + 1) n) ≡ n
pin_there true n = omega arith
pin_there false n = refl

pub pin_unpin : (f : PageId → ℕ) (p : PageId) → without_pin (with_pin f p) p ≡ f
pin_unpin f p = λ t q. pin_there (is_page p q) (f q) t

-- THE LAST RECORD IS DROPPED

pub count_on_push : (front : List Record) (r : Record) (p : PageId) → count_on (front ++ r ∷ []) p ≡ count_on front p + one_on p r
count_on_push front r p = sum_by-append (one_on p) front (r ∷ []) ∙ (let one = add-zero (one_on p r) in omega arith)

pub last_pinned : (f : PageId → ℕ) (front : List Record) (r : Record) → ((p : PageId) → count_on (front ++ r ∷ []) p ≤ f p) → 0 < f r.page
last_pinned f front r owed =
    let all = owed r.page in
    let more = count_on_push front r r.page in
    let here : one_on r.page r ≡ 1 = ap (λ b. cond b 1 0) (is_page-same r.page) in
    omega arith

less_one : (b : Bool) (a n : ℕ) → n + cond b 1 0 ≤ a → n ≤ cond b (a - 1) a
less_one true a n h = omega arith
less_one false a n h = omega arith

pub owed_still : (f : PageId → ℕ) (front : List Record) (r : Record) → ((p : PageId) → count_on (front ++ r ∷ []) p ≤ f p) → (p : PageId) → count_on front p ≤ without_pin f r.page p
owed_still f front r owed p = less_one (is_page r.page p) (f p) (count_on front p) (let all = owed p in let more = count_on_push front r p in omega arith)

pub shown_trans : (a b c : Pooled) → SameShown a b → SameShown b c → SameShown a c
shown_trans a b c x y = record { images = y.images ∙ x.images; order = y.order ∙ x.order; files = y.files ∙ x.files; frames = y.frames ∙ x.frames }

-- a pinned page is in memory
pub pinned_pooled : (v : Pooled) (p : PageId) → IsPinned v p → IsPooled v p
pinned_pooled v p pinned = by_frame (frame_of v p) pinned
  where
    by_frame : (f : Option Frame) → 0 < option_map_or (λ (x : Frame). x.pins) f 0 → is_some f ≡ true
    by_frame None lt = absurd (omega arith)
    by_frame (Some x) lt = refl

more_there : (b : Bool) (n : ℕ) → b ≡ true → 0 < cond b (n + 1) n
more_there true n e = omega arith
more_there false n e = absurd (false≢true e)

-- a page that was fetched is pinned
pub once_pinned : (old new : Pooled) (p : PageId) → PinsOnce p old new → IsPinned new p
once_pinned old new p once = subst (λ n. 0 < n) (sym (λ i. once.pinned i p)) (more_there (is_page p p) (pool_pins old p) (is_page-same p))

one_more : (b : Bool) (n : ℕ) → 0 < n → 0 < cond b (n + 1) n
one_more true n h = omega arith
one_more false n h = h

-- a pin more leaves what is pinned
pub pinned_more : (f h : PageId → ℕ) (p : PageId) → h ≡ with_pin f p → (q : PageId) → 0 < f q → 0 < h q
pinned_more f h p is q lt = subst (λ n. 0 < n) (sym (λ i. is i q)) (one_more (is_page p q) (f q) lt)

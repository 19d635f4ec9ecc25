-- Calls one after the other.
use Rattle.std.proofs.Common.{◌≡◌, ◌≤◌, ℕ, ◌<◌, arith, None, refl, sym, ap, ◌∙◌, subst}
use Rattle.page_base.specs.declared.numbers.PageId.{PageId}
use Rattle.page_fmt.specs.Content.{IsPage}
use Rattle.page_dev.specs.Files.{Files}
use Rattle.page_dev.specs.Faults.{Rose, total}
use Rattle.buf_pool.specs.declared.refusal.FetchRefusal.{FetchRefusal}
use Rattle.buf_pool.specs.declared.refusal.FetchRefusal.TheVariants.{AllPinned, DataFault, Damaged, Memory}
use Rattle.buf_pool.specs.Refusing.{Refuses, IsReading, IsRefusedRoom, IsBlocked}
use Rattle.buf_pool.specs.Pool.{Pooled, IsPooled, frame_of, img, pins, with_pin}
use Rattle.buf_pool.specs.Order.{IsUnpinned}
use Rattle.buf_pool.specs.Steps.{Stays, PinsOnce, SameShown}

pub pins_stay : (old new : Pooled) (p : PageId) → Stays old new → IsUnpinned old p → pins new p ≡ 0
pins_stay old new p stays free = (λ i. stays.pinned i p) ∙ free.none

pub stays_trans : (a b c : Pooled) → Stays a b → Stays b c → Stays a c
stays_trans a b c x y = record {
  images = λ told. y.images (x.tells ∙ told) ∙ x.images told;
  held = λ q h. y.held q (subst (λ (f : PageId → ℕ). 0 < f q) (sym x.pinned) h) ∙ x.held q h;
  pinned = y.pinned ∙ x.pinned;
  absent = λ q h. y.absent q (x.absent q h);
  later = omega (arith, x.later, y.later);
  frames = y.frames ∙ x.frames;
  tells = y.tells ∙ x.tells;
  counts = y.counts ∙ x.counts;
}

pub once_trans : (p : PageId) (a b c : Pooled) → Stays a b → PinsOnce p b c → PinsOnce p a c
once_trans p a b c x y = record {
  images = λ told. y.images (x.tells ∙ told) ∙ x.images told;
  held = λ q h. y.held q (subst (λ (f : PageId → ℕ). 0 < f q) (sym x.pinned) h) ∙ x.held q h;
  pinned = y.pinned ∙ ap (λ f. with_pin f p) x.pinned;
  there = y.there;
  page = y.page;
  later = omega (arith, x.later, y.later);
  frames = y.frames ∙ x.frames;
  tells = y.tells ∙ x.tells;
  counts = y.counts ∙ x.counts;
}

pub pins_below : (old new : Pooled) (p : PageId) (n : ℕ) → Stays old new → pins old p < n → pins new p < n
pins_below old new p n stays h = subst (λ (f : PageId → ℕ). f p < n) (sym stays.pinned) h

-- a page that was moved alone, and then pinned
pub pinned_once : (p : PageId) (a b c : Pooled) → Stays a b → pins c ≡ with_pin (pins b) p → SameShown b c → IsPooled c p → IsPage (img c p) → PinsOnce p a c
pinned_once p a b c stays pinned shown there page = record {
  images = λ told. shown.images ∙ stays.images told;
  held = λ q h. (λ i. shown.images i q) ∙ stays.held q h;
  pinned = pinned ∙ ap (λ f. with_pin f p) stays.pinned;
  there = there;
  page = page;
  later = subst (λ (f : Files). total a.files.failures ≤ total f.failures) (sym shown.files) stays.later;
  frames = shown.frames ∙ stays.frames;
  tells = ap (λ (f : Files). f.tells) shown.files ∙ stays.tells;
  counts = ap (λ (f : Files). f.counts) shown.files ∙ stays.counts;
}

pub stays_self : (v : Pooled) → Stays v v
stays_self v = record { images = λ _. refl; held = λ q h. refl; pinned = refl; absent = λ q h. h; later = omega arith; frames = refl; tells = refl; counts = refl }

rose_later : (a b c : ℕ) → a ≤ b → Rose b c → Rose a c
rose_later a b c h r = omega (arith, h, r)

pub refused_room : (p : PageId) (a b : Pooled) (e : FetchRefusal) → frame_of a p ≡ None → IsRefusedRoom a b e → Refuses a b p e
refused_room p a b (AllPinned pins) absent r = (record { absent = absent; blocked = r.0 }, r.1)
refused_room p a b (DataFault count) absent r = (λ stuck. r.0 stuck.blocked, r.1)
refused_room p a b (Damaged at) absent r = absurd r
refused_room p a b Memory absent r = absurd r

pub refused_reading : (p : PageId) (a b c : Pooled) (e : FetchRefusal) → Stays a b → ¬ IsBlocked a → IsReading b c p e → Refuses a c p e
refused_reading p a b c (AllPinned pins) stays free r = absurd r
refused_reading p a b c (DataFault count) stays free r = (λ stuck. free stuck.blocked, record { rose = rose_later (total a.files.failures) (total b.files.failures) (total c.files.failures) stays.later r.rose; sum = r.sum })
refused_reading p a b c (Damaged at) stays free r = (λ stuck. free stuck.blocked, record { bytes = r.bytes; are = λ told. r.are (stays.tells ∙ told) ∙ (λ i. stays.images told i p); fault = r.fault })
refused_reading p a b c Memory stays free r = λ stuck. free stuck.blocked

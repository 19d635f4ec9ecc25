-- A statement's events, entered one after the other.
use Rattle.std.proofs.Common.{◌≡◌, ◌+◌, ◌-◌, ◌≤◌, ℕ, true, false, List, [], ◌∷◌, ◌++◌, length, refl, ap, ◌∙◌, arith, length-append, append_assoc}
use Rattle.plain_model.specs.declared.stmt.Stmt.{Stmt}
use Rattle.plain_model.specs.declared.stmt.Stmt.TheVariants.{UseDb}
use Rattle.plain_model.specs.declared.event.Event.{Event}
use Rattle.plain_model.specs.declared.event.Event.TheVariants.{Said}
use Rattle.plain_model.specs.declared.reply.Reply.{Reply}
use Rattle.plain_model.specs.declared.reply.Reply.TheVariants.{Ok, Count, Rows, Msg}
use Rattle.early_pages.specs.Shown.{Shown}
use Rattle.early_engine.specs.declared.answer.Answer.{Answer}
use Rattle.early_engine.specs.declared.answer.Answer.TheVariants.{AtOnce, UnderAll, UnderTable}
use Rattle.early_engine.specs.Entering.{Kept, entered}
use Rattle.early_engine.specs.Pushing.{Leaves, Turns, sound}
use Rattle.early_engine.specs.Ready.{reply_of}
use Rattle.early_engine.specs.Stepping.{number, lock_events, current_after, is_refusal}
use Rattle.early_engine.specs.Doing.{Does}

pub does_one : (k n began : ℕ) (answer : Answer) (reply : Reply) (a b c d : Kept) (v w : Shown) → b.events ≡ a.events ++ lock_events k answer → b.room + length (lock_events k answer) ≡ a.room → Turns b c v w → Leaves v w →
    d ≡ entered c (Said (number k) n began reply) → reply ≡ reply_of answer → began ≡ length a.events → 3 + sound v ≤ a.room → length (lock_events k answer) ≤ 2 → Does k n answer a d v w
does_one k n began answer reply a b c d v w locks room turns leaves said is at enough few = record {
  leaves = leaves;
  turned = turns.events;
  moves = record { legal = turns.legal; leads = turns.leads };
  each = turns.each;
  events =
      ap (λ (x : Kept). x.events) said
      ∙ ap (λ (es : List Event). es ++ Said (number k) n began reply ∷ []) (turns.more ∙ ap (λ (es : List Event). es ++ turns.events) locks)
      ∙ ap (λ (r : Reply). (a.events ++ lock_events k answer ++ turns.events) ++ Said (number k) n began r ∷ []) is
      ∙ ap (λ m. (a.events ++ lock_events k answer ++ turns.events) ++ Said (number k) n m (reply_of answer) ∷ []) at
      ∙ append_assoc (a.events ++ lock_events k answer) turns.events (Said (number k) n (length a.events) (reply_of answer) ∷ [])
      ∙ append_assoc a.events (lock_events k answer) (turns.events ++ Said (number k) n (length a.events) (reply_of answer) ∷ []);
  room =
      let r = turns.room in
      let f = turns.fewer in
      let d_is : d.room ≡ c.room - 1 = ap (λ (x : Kept). x.room) said in
      let l = length-append (lock_events k answer) (turns.events ++ Said (number k) n (length a.events) (reply_of answer) ∷ []) in
      let m = length-append turns.events (Said (number k) n (length a.events) (reply_of answer) ∷ []) in
      omega (arith, room, r, f, d_is, l, m, enough, few);
  fewer = turns.fewer;
}

pub refusal_stays : (stmt : Stmt) (r : Reply) (c : List ℕ) → is_refusal r ≡ true → current_after stmt r c ≡ c
refusal_stays stmt (Msg m) c e = refl
refusal_stays stmt Ok c e = absurd (let x : false ≡ true = e in cc)
refusal_stays stmt (Count n) c e = absurd (let x : false ≡ true = e in cc)
refusal_stays stmt (Rows rs) c e = absurd (let x : false ≡ true = e in cc)

pub use_enters : (name : List ℕ) (r : Reply) (c : List ℕ) → is_refusal r ≡ false → current_after (UseDb name) r c ≡ name
use_enters name (Msg m) c e = absurd (let x : true ≡ false = e in cc)
use_enters name Ok c e = refl
use_enters name (Count n) c e = refl
use_enters name (Rows rs) c e = refl

pub other_stays : (stmt : Stmt) (r : Reply) (c : List ℕ) → ((d : List ℕ) → stmt ≡ UseDb d → ⊥) → current_after stmt r c ≡ c
other_stays (UseDb d) r c no_use = absurd (no_use d refl)
other_stays stmt (Msg m) c no_use = refl
other_stays stmt Ok c no_use = refl
other_stays stmt (Count n) c no_use = refl
other_stays stmt (Rows rs) c no_use = refl

pub locks_few : (k : ℕ) (answer : Answer) → length (lock_events k answer) ≤ 2
locks_few k (AtOnce r) = omega arith
locks_few k (UnderAll m r) = omega arith
locks_few k (UnderTable n m r) = omega arith

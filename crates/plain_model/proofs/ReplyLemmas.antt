-- What a reply leaves of its own session, of the source and of names.
use Rattle.std.proofs.Common.{◌≡◌, ◌≤◌, ◌+◌, ◌-◌, ◌<◌, ℕ, Bool, true, false, ◌&&◌, ◌||◌, not, nat_le, nat_eq, cond, IsTrue, List, [], ◌∷◌, ◌++◌, length, length-set, get_or, refl, ap, sym, ◌∙◌, inl, inr, suc, zero, arith}
use Rattle.std.specs.Prelude.{Option, Some, None, is_some, ◌==◌}
use Rattle.std.specs.List.{list_any}
use Rattle.std.specs.Str.{bytes_eq}
use Rattle.std.proofs.lemmas.Bool.{cases_Bool, leb-true}
use Rattle.std.proofs.lemmas.List.{get_or-set_same}
use Rattle.std.proofs.lemmas.List.Folds.{list_any-append}
use Rattle.std.proofs.lemmas.Slice.Eq.{bytes_eq-Decides}
use Rattle.plain_model.specs.State.{Plain, Session, session, is_session, fresh_session}
use Rattle.plain_model.specs.declared.reply.Message.{Message}
use Rattle.plain_model.specs.declared.reply.Reply.TheVariants.{Msg}
use Rattle.plain_model.specs.Messages.{first_that}
use Rattle.plain_model.specs.Coming.{Next, Replies, unless}
use Rattle.plain_model.specs.Effects.{with_session}
use Rattle.plain_model.specs.Users.{first_session, user_of}

both : (a b : Bool) → (a && b) ≡ true → (a ≡ true) × (b ≡ true)
both true b e = (refl, e)
both false b e = cc

-- a session that is there has a place in the list
pub within : (st : Plain) (k : ℕ) → IsTrue (is_session st k) → k - 1 < length st.sessions
within st k there =
    let h = both (nat_le 1 k) (nat_le k (length st.sessions)) there in
    let low = leb-true 1 k h.0 in
    let high = leb-true k (length st.sessions) h.1 in
    omega (arith, low, high)

-- it is then the one that was put there
pub put_there : (st : Plain) (k : ℕ) (s : Session) → IsTrue (is_session st k) → session (with_session st k s) k ≡ s
put_there st k s there = get_or-set_same st.sessions (k - 1) s fresh_session (within st k there)

bytes_same : (d : List ℕ) → bytes_eq d d ≡ true
bytes_same d = (bytes_eq-Decides d d).1 refl

-- a session that passes a test is found, or one before it
some_session : (test : Session → Bool) (j i : ℕ) (ss : List Session) → i < length ss → test (get_or ss i fresh_session) ≡ true → is_some (first_session (λ j s. test s) j ss) ≡ true
some_session test j i [] lt h = absurd (omega (arith, lt))
some_session test j zero (s ∷ ss) lt h = ap (λ b. is_some (cond b (Some j) (first_session (λ j s. test s) (j + 1) ss))) h
some_session test j (suc i) (s ∷ ss) lt h = elim (cases_Bool (test s)) [
  | inl t ↦ ap (λ b. is_some (cond b (Some j) (first_session (λ j s. test s) (j + 1) ss))) t
  | inr f ↦ ap (λ b. is_some (cond b (Some j) (first_session (λ j s. test s) (j + 1) ss))) f ∙ some_session test (j + 1) i ss (omega (arith, lt)) h
]

-- the asking session is in its current database
pub own_user : (st : Plain) (k : ℕ) → IsTrue (is_session st k) → is_some (user_of st (session st k).current) ≡ true
own_user st k there = some_session (λ s. bytes_eq s.current (session st k).current) 1 (k - 1) st.sessions (within st k there) (bytes_same (session st k).current)

-- names that are put in front of others are among them
pub among : (name : List ℕ) (names others : List (List ℕ)) → list_any (bytes_eq name) names ≡ true → list_any (bytes_eq name) (names ++ others) ≡ true
among name names others h = list_any-append (bytes_eq name) names others ∙ ap (λ b. b || list_any (bytes_eq name) others) h

-- and is there still
pub still_there : (st : Plain) (k : ℕ) (s : Session) → IsTrue (is_session st k) → IsTrue (is_session (with_session st k s) k)
still_there st k s there = simp length-set there

-- where no refusal applies the rest comes
pub all_pass : (rs : List (Bool × Message)) (n : Next) → first_that rs ≡ None → unless rs n ≡ n
all_pass [] n h = refl
all_pass (r ∷ rs) n h = elim (cases_Bool r.0) [
  | inl t ↦ absurd (let x : Some r.1 ≡ None = ap (λ b. cond b (Some r.1) (first_that rs)) (sym t) ∙ h in cc)
  | inr f ↦
      let rest : first_that rs ≡ None = ap (λ b. cond b (Some r.1) (first_that rs)) (sym f) ∙ h in
      ap (λ b. cond b (Replies (Msg r.1)) (unless rs n)) f ∙ all_pass rs n rest
]

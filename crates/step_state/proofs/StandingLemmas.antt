-- Where nobody holds all tables: whose records lie where, and that no two sessions' records name one slot.
use Rattle.std.proofs.Common.{◌≡◌, ◌≢◌, ℕ, zero, suc, ◌-◌, ◌%◌, ◌<◌, Bool, true, false, ◌==◌, ◌&&◌, List, [], length, refl, ap, sym, subst, ◌∙◌, inl, inr, arith}
use Rattle.std.specs.Prelude.{◌⊎◌, not, Option, Some, None}
use Rattle.std.proofs.lemmas.Bool.{cases_Bool, cases_eq, cases_lt, and_parts}
use Rattle.std.proofs.lemmas.List.{get_or_past}
use Rattle.page_base.specs.declared.numbers.Mode.{Mode}
use Rattle.page_base.specs.declared.numbers.Mode.TheVariants.{S, X}
use Rattle.page_base.specs.declared.numbers.PageId.{PageId}
use Rattle.page_base.specs.declared.numbers.SessNo.{SessNo}
use Rattle.lock_book.specs.Locks.{IsLockBook}
use Rattle.rec_log.specs.Records.{Record}
use Rattle.snap_pages.specs.Shown.{counts}
use Rattle.sys_cat.specs.declared.desc.TableDesc.{TableDesc}
use Rattle.alloc_pages.specs.Owners.{page_owner}
use Rattle.page_tables.proofs.MineLemmas.{every_spot}
use Rattle.open_work.specs.Open.{all, with_part}
use Rattle.open_tables.specs.Back.{Back}
use Rattle.open_tables.specs.Names.{names, AreClaims}
use Rattle.open_tables.proofs.BackLemmas.{claims}
use Rattle.open_commits.specs.Within.{LieWithin, AreApart, TellOwners}
use Rattle.open_commits.proofs.WithinLemmas.{differ, lie_back, spread_tells, tells_over}
use Rattle.open_commits.proofs.StandLemmas.{stand_beside, names_part}
use Rattle.open_commits.proofs.ApartLemmas.{own_part, other_part, claims_all, AreNamedApart}
use Rattle.step_words.specs.Seats.{Seated, no_seat}
use Rattle.step_state.specs.State.{State, IsSession, sess, seat, works, many, slots_at, settled_of, alone_of}
use Rattle.step_state.specs.Holding.{is_x, holds_all, writes, lock_at}
use Rattle.step_state.specs.Own.{IsSafeSession}
use Rattle.step_state.specs.Whole.{IsWholeSafe}
use Rattle.step_state.specs.Safe.{IsContent}

-- LOCKS

pub is_exclusive : (o : Option Mode) → is_x o ≡ true → o ≡ Some X
is_exclusive None e = cc
is_exclusive (Some S) e = cc
is_exclusive (Some X) e = refl

-- what one session holds in X no other holds
pub none_beside : (e : State) → IsLockBook e.locks → (j k n : ℕ) → j ≢ k → is_x (lock_at e k n) ≡ true → lock_at e j n ≡ None
none_beside e book j k n ne held = by (lock_at e j n) refl
  where
    by : (o : Option Mode) → lock_at e j n ≡ o → o ≡ None
    by None at = refl
    by (Some mode) at = absurd (ne (ap (λ (w : SessNo). w.0) (sym (book.alone (sess k) (sess j) (record { 0 = n }) mode (is_exclusive (lock_at e k n) held) at))))

-- SESSIONS

-- a number is a session's, or nobody's
pub session_cases : (e : State) (m : ℕ) → IsSession e m ⊎ (seat e m ≡ no_seat)
session_cases e zero = inr refl
session_cases e (suc m) = elim (cases_lt m (length e.seats)) [
  | inl lt ↦ inl (record { first = omega arith; last = omega (arith, lt) })
  | inr ge ↦ inr (get_or_past e.seats m no_seat ge)
]

pub no_records : (e : State) (m : ℕ) → seat e m ≡ no_seat → works e m ≡ []
no_records e m at = ap (λ (x : Seated). x.work.recs) at

pub is_many : (e : State) (k : ℕ) → IsSession e k → k < many e
is_many e k is = omega (arith, is.last)

-- WHERE ONE HOLDS ALL, THE OTHERS HAVE NOTHING

module _ (e : State) (safe : (k : ℕ) → IsSession e k → IsSafeSession e k) (whole : IsWholeSafe e) where
  pub nothing_beside : (k j : ℕ) → j ≢ k → holds_all (lock_at e k) ≡ true → works e j ≡ []
  nothing_beside k j ne held = elim (session_cases e j) [
    | inl is ↦ (safe j is).seated.nowhere (none_beside e whole.locks j k 0 ne held)
    | inr nobody ↦ no_records e j nobody
  ]

  -- who holds the table of tables not in X stands beside nobody who does
  pub nobody_all : (k j : ℕ) → lock_at e k 0 ≢ None → holds_all (lock_at e k) ≡ false → holds_all (lock_at e j) ≡ false
  nobody_all k j some not_all = elim (cases_Bool (holds_all (lock_at e j))) [
    | inr f ↦ f
    | inl t ↦ elim (cases_eq k j) [
      | inl same ↦ sym (ap (λ m. holds_all (lock_at e m)) same) ∙ not_all
      | inr ne ↦ absurd (some (none_beside e whole.locks k j 0 ne t))
    ]
  ]

  module _ (ds : List TableDesc) (content : IsContent e ds) (nobody : (j : ℕ) → IsSession e j → holds_all (lock_at e j) ≡ false) where
    pub back_of : (j : ℕ) → IsSession e j → Back (writes (lock_at e j)) (works e j) (alone_of e j)
    back_of j is = (content.1 j is).source.back (nobody j is)

    pub claims_of : (m : ℕ) → AreClaims (works e m)
    claims_of m = elim (session_cases e m) [
      | inl is ↦ claims (writes (lock_at e m)) (works e m) (alone_of e m) (back_of m is)
      | inr none ↦ subst AreClaims (sym (no_records e m none)) tt
    ]

    pub claims_beside : (k m : ℕ) → AreClaims (with_part (works e) k [] m)
    claims_beside k m = elim (cases_eq m k) [
      | inl here ↦ subst AreClaims (sym (ap (λ o. with_part (works e) k [] o) here ∙ own_part (works e) k [])) tt
      | inr far ↦ subst AreClaims (sym (other_part (works e) k m [] far)) (claims_of m)
    ]

    pub lie : (m : ℕ) → LieWithin (writes (lock_at e m)) (slots_at e) (works e m)
    lie m = elim (session_cases e m) [
      | inl is ↦ stand_beside (writes (lock_at e m)) (slots_at e) (all (many e) (with_part (works e) m [])) (works e m) refl (claims_all (many e) (with_part (works e) m []) (λ o lt. claims_beside m o)) (lie_back (writes (lock_at e m)) (works e m) (alone_of e m) refl (back_of m is))
      | inr none ↦ subst (LieWithin (writes (lock_at e m)) (slots_at e)) (sym (no_records e m none)) (record { claims = tt; claimed = λ q t. differ false t refl; edits = λ p i t. differ false t refl })
    ]

    pub owners_apart : (i j : ℕ) → IsSession e j → i ≢ j → AreApart (writes (lock_at e i)) (writes (lock_at e j))
    owners_apart i j is ne = record {
      apart = λ o t.
          let held : is_x (lock_at e i (o - 1)) ≡ true = (and_parts (not (o == 0) && not (o == 4294967295)) (is_x (lock_at e i (o - 1))) t).1 in
          last (not (o == 0) && not (o == 4294967295)) (is_x (lock_at e j (o - 1))) (ap is_x (none_beside e whole.locks j i (o - 1) (λ s. ne (sym s)) held));
      free = (refl, refl);
      allocation = (refl, refl);
      zero_table = nobody j is;
    }
      where
        last : (b c : Bool) → c ≡ false → (b && c) ≡ false
        last true c f = f
        last false c f = refl

    pub named_apart : (j : ℕ) → AreNamedApart (works e) j
    named_apart j m p i ne t = elim (session_cases e j) [
      | inl is ↦ names_part (writes (lock_at e m)) (writes (lock_at e j)) (slots_at e) (owners_apart m j is ne) (works e m) (works e j) (lie m) (lie j) p i t
      | inr none ↦ differ (names (works e j) p i) t (ap (λ (xs : List Record). names xs p i) (no_records e j none))
    ]

    -- on a page of one session's, that tells of no others, nobody else has a record
    pub page_apart : (k j : ℕ) (p : PageId) (i : ℕ) → j ≢ k → p.page % 1280 ≢ 0 → writes (lock_at e k) (page_owner (slots_at e) p) ≡ true → names (works e j) p i ≡ false
    page_apart k j p i ne off mine = elim (session_cases e j) [
      | inr none ↦ ap (λ (xs : List Record). names xs p i) (no_records e j none)
      | inl is ↦ elim (cases_Bool (names (works e j) p i)) [
        | inr g ↦ g
        | inl t ↦ elim ((lie j).edits p i t) [
          | inl v ↦ differ (writes (lock_at e j) (page_owner (slots_at e) p)) v.1 ((owners_apart k j is (λ same. ne (sym same))).apart (page_owner (slots_at e) p) mine)
          | inr q ↦ absurd (off (ap (λ (r : PageId). r.page % 1280) (sym q.1) ∙ every_spot q.0))
        ]
      ]
    ]

    pub tells_all : TellOwners (counts e.pages) (slots_at e)
    tells_all = tells_over (counts e.pages) (slots_at e) (all (many e) (works e)) (claims_all (many e) (works e) (λ m lt. claims_of m)) (spread_tells (counts e.pages) (settled_of e) content.0.source.spread)

-- Walks: one visit more, frames, and that there is one walk.
use Rattle.std.proofs.Common.{reverse, refl, ◌≡◌, ◌≢◌, ℕ, zero, suc, ◌+◌, ◌<◌, List, [], ◌∷◌, ◌++◌, length, get_or, ap, sym, ◌∙◌, subst, arith, Bool, true, false, cond, Result, Ok, Err, IsOkAnd, Option, None, Some, MatchOption, inl, inr, set, length-append, replicate, length-set, get_or-set_same, get_or-set_other}
use Rattle.std.proofs.lemmas.List.{get_or_append_left, length-replicate, get_or_default, reverse-append, reverse-reverse}
use Rattle.std.specs.List.{Any, AllPairs, All}
use Rattle.std.proofs.lemmas.List.Quantifiers.{Any-push, all_pairs_push}
use Rattle.std.proofs.lemmas.Bool.{cases_eq}
use Rattle.page_base.specs.Pages.{is_page}
use Rattle.page_fmt.proofs.SeenLemmas.{is_page-true, look-place}
use Rattle.page_base.specs.declared.numbers.PageId.{PageId}
use Rattle.table_walk.specs.declared.visit.Visit.{Visit}
use Rattle.page_fmt.specs.Seen.{SlotsAt, Looked, place_of, look, Saw, Shows}
use Rattle.table_walk.specs.declared.refusal.SeenRefusal.{SeenRefusal}
use Rattle.table_walk.specs.declared.refusal.SeenRefusal.TheVariants.{Damaged, Memory}
use Rattle.table_walk.specs.Answers.{IsAt, IsOn}
use Rattle.table_walk.specs.Walk.{Kids, Walks, Reaches, IsWalk, IsSeenWalk, IsDone, Lacks, IsBad}

pub ok_map : {A E : Type 0} {P Q : A → Type 0} (r : Result A E) → ((x : A) → P x → Q x) → IsOkAnd r P → IsOkAnd r Q
ok_map (Ok x) f p = f x p
ok_map (Err e) f p = p

pub ok_both : {A E : Type 0} {P Q : A → Type 0} {R : Type 0} (r : Result A E) → ((x : A) → P x → Q x → R) → IsOkAnd r P → IsOkAnd r Q → R
ok_both (Ok x) f p q = f x p q
ok_both (Err e) f p q = absurd p

pub ok_is : {A E : Type 0} (P : A → Type 0) (r : Result A E) (x : A) → r ≡ Ok x → P x → IsOkAnd r P
ok_is P r x e p = subst (λ s. IsOkAnd s P) (sym e) p

no_cons : {A : Type 0} (x : A) (xs : List A) → x ∷ xs ≢ []
no_cons x xs e = let n : suc (length xs) ≡ 0 = ap length e in absurd (omega arith)

head_is : {A : Type 0} {x y : A} {xs ys : List A} → x ∷ xs ≡ y ∷ ys → x ≡ y
head_is {x} e = ap (λ l. get_or l 0 x) e

module _ (kids : Kids) where
  pub walks-snoc : (at : SlotsAt) (todo done rest next : List Visit) (v : Visit) → Walks kids at todo done (v ∷ rest) → kids v (at v.page) ≡ Ok next → Walks kids at todo (done ++ v ∷ []) (next ++ rest)
  walks-snoc at todo [] rest next v w e =
      subst (λ t. Walks kids at t (v ∷ []) (next ++ rest)) (sym w) (refl, ok_is (λ n. n ++ rest ≡ next ++ rest) (kids v (at v.page)) next e refl)
  walks-snoc at [] (d ∷ done) rest next v w e = absurd w
  walks-snoc at (t ∷ todo) (d ∷ done) rest next v w e =
      (w.0, ok_map (kids t (at t.page)) (λ n x. walks-snoc at (n ++ todo) done rest next v x e) w.1)

  -- a walk depends only on the pages that it came to
  pub walks-same : (at other : SlotsAt) (todo done rest : List Visit) → ((k : ℕ) (d : Visit) → k < length done → at (get_or done k d).page ≡ other (get_or done k d).page) → Walks kids at todo done rest → Walks kids other todo done rest
  walks-same at other todo [] rest same w = w
  walks-same at other [] (v ∷ done) rest same w = w
  walks-same at other (t ∷ todo) (v ∷ done) rest same w =
      let here : at t.page ≡ other t.page = ap (λ (x : Visit). at x.page) w.0 ∙ same 0 v (omega arith) ∙ sym (ap (λ (x : Visit). other x.page) w.0) in (
        w.0,
        subst (λ s. IsOkAnd (kids t s) (λ n. Walks kids other (n ++ todo) done rest)) here
            (ok_map (kids t (at t.page)) (λ n x. walks-same at other (n ++ todo) done rest (λ k d lt. same (suc k) d (omega arith)) x) w.1),
      )

  -- what comes next in a walk is in each whole walk
  pub walks-prefix : (at : SlotsAt) (todo done rest all : List Visit) (v : Visit) → Walks kids at todo done (v ∷ rest) → Walks kids at todo all []
      → (more : List Visit) × (all ≡ done ++ v ∷ more) × IsOkAnd (kids v (at v.page)) (λ n. Walks kids at (n ++ rest) more [])
  walks-prefix at todo [] rest [] v w a = absurd (no_cons v rest (sym w ∙ a))
  walks-prefix at todo [] rest (x ∷ more) v w a =
      let b : Walks kids at (v ∷ rest) (x ∷ more) [] = subst (λ t. Walks kids at t (x ∷ more) []) w a in
      (more, ap (λ y. y ∷ more) (sym b.0), b.1)
  walks-prefix at [] (d ∷ done) rest all v w a = absurd w
  walks-prefix at (t ∷ todo) (d ∷ done) rest [] v w a = absurd (no_cons t todo a)
  walks-prefix at (t ∷ todo) (d ∷ done) rest (x ∷ all) v w a =
      let same : x ≡ d = sym a.0 ∙ w.0 in
      let tail : (more : List Visit) × (all ≡ done ++ v ∷ more) × IsOkAnd (kids v (at v.page)) (λ n. Walks kids at (n ++ rest) more []) =
      ok_both (kids t (at t.page)) (λ n p q. walks-prefix at (n ++ todo) done rest all v p q) w.1 a.1 in
      (tail.0, (λ i. same i ∷ tail.1 i), tail.2)

  -- there is one whole walk
  pub walks-one : (at : SlotsAt) (todo one other : List Visit) → Walks kids at todo one [] → Walks kids at todo other [] → one ≡ other
  walks-one at todo [] [] a b = refl
  walks-one at todo [] (x ∷ other) a b = absurd (subst (λ t. Walks kids at t (x ∷ other) []) a b)
  walks-one at todo (x ∷ one) [] a b = absurd (subst (λ t. Walks kids at t (x ∷ one) []) b a)
  walks-one at [] (x ∷ one) (y ∷ other) a b = absurd a
  walks-one at (t ∷ todo) (x ∷ one) (y ∷ other) a b =
      let same : x ≡ y = sym a.0 ∙ b.0 in
      let tail : one ≡ other = ok_both (kids t (at t.page)) (λ n p q. walks-one at (n ++ todo) one other p q) a.1 b.1 in
      λ i. same i ∷ tail i

pub page_at-place : (seen : List Looked) (p : PageId) (d : Looked) → Saw seen p → (get_or seen (place_of seen p) d).page ≡ p
page_at-place [] p d h = absurd (omega arith)
page_at-place (x ∷ xs) p d h =
    let by : (b : Bool) → is_page x.page p ≡ b → (get_or (x ∷ xs) (cond b 0 (place_of xs p + 1)) d).page ≡ p =
    elim [
      | true ↦ λ e. is_page-true x.page p e
      | false ↦ λ e.
          let one : place_of xs p + 1 ≡ suc (place_of xs p) = omega arith in
          let far : place_of (x ∷ xs) p ≡ place_of xs p + 1 = ap (λ b. cond b 0 (place_of xs p + 1)) e in
          ap (λ n. (get_or (x ∷ xs) n d).page) one ∙ page_at-place xs p d (omega arith)
    ] in
    by (is_page x.page p) refl

-- two pages at one place
pub same_place : (seen : List Looked) (p q : PageId) → Saw seen p → place_of seen q ≡ place_of seen p → q ≡ p
same_place [] p q h e = absurd (omega arith)
same_place (x ∷ xs) p q h e =
    let there : Saw (x ∷ xs) q = omega arith in
    sym (page_at-place (x ∷ xs) q x there) ∙ ap (λ n. (get_or (x ∷ xs) n x).page) e ∙ page_at-place (x ∷ xs) p x h

-- MARKS

abbrev pub unmarked : List Bool → ℕ
unmarked [] = 0
unmarked (b ∷ bs) = cond b 0 1 + unmarked bs

pub unmarked-set : (bs : List Bool) (i : ℕ) → i < length bs → get_or bs i false ≡ false → unmarked (set bs i true) < unmarked bs
unmarked-set [] i h e = absurd (omega arith)
unmarked-set (b ∷ bs) zero h e =
    let one : cond {A = ℕ} b 0 1 ≡ 1 = ap (λ c. cond {A = ℕ} c 0 1) e in
    let new : unmarked (set (b ∷ bs) 0 true) ≡ unmarked bs = none_more (unmarked bs) in
    omega arith
  where
    none_more : (n : ℕ) → 0 + n ≡ n
    none_more n = omega arith
unmarked-set (b ∷ bs) (suc i) h e = omega (arith, unmarked-set bs i (omega arith) e)

-- a walk over what was read, with a mark for each page reached
pub record UnderWay (kids : Kids) (seen : List Looked) (start : Visit) (done todo : List Visit) (marked : List Bool) : Type 0 where
  pub walk : IsSeenWalk kids seen start done todo
  pub size : length marked ≡ length seen
  pub kept : All (λ v. get_or marked (place_of seen v.page) false ≡ true) done
  pub reached : (p : PageId) → Saw seen p → get_or marked (place_of seen p) false ≡ true → Reaches done p

pub begin : (kids : Kids) (seen : List Looked) (start : Visit) (marked : List Bool) → marked ≡ replicate (length seen) false → UnderWay kids seen start [] (start ∷ []) marked
begin kids seen start marked e =
    record {
      walk = record { walk = record { walks = refl; once = λ i j d a b. absurd (omega arith) }; were = λ k d h. absurd (omega arith) };
      size = ap length e ∙ length-replicate (length seen) false;
      kept = λ k d h. absurd (omega arith);
      reached = λ p h m. absurd (no_mark (place_of seen p) m);
    }
  where
    no_mark : (i : ℕ) → get_or marked i false ≢ true
    no_mark i m = let f : false ≡ true = sym (replicate_false (length seen) i) ∙ sym (ap (λ xs. get_or xs i false) e) ∙ m in cc
      where
        replicate_false : (n i : ℕ) → get_or (replicate n false) i false ≡ false
        replicate_false zero i = refl
        replicate_false (suc n) zero = refl
        replicate_false (suc n) (suc i) = replicate_false n i

pub go_on : (kids : Kids) (seen : List Looked) (start : Visit) (done todo next : List Visit) (v : Visit) (marked : List Bool) → UnderWay kids seen start done (v ∷ todo) marked → Saw seen v.page → get_or marked (place_of seen v.page) false ≡ false
    → kids v (look seen v.page) ≡ Ok next → UnderWay kids seen start (done ++ v ∷ []) (next ++ todo) (set marked (place_of seen v.page) true)
go_on kids seen start done todo next v marked u saw new e =
    let place : ℕ = place_of seen v.page in
    let within : place < length marked = omega (arith, u.size) in
    let still : (k : ℕ) → get_or marked k false ≡ true → get_or (set marked place true) k false ≡ true =
    λ k m. elim (cases_eq k place) [
      | inl same ↦ ap (λ n. get_or (set marked place true) n false) same ∙ get_or-set_same marked place true false within
      | inr other ↦ get_or-set_other marked place k true false other ∙ m
    ] in
    let apart : (k : ℕ) (d : Visit) → k < length done → (get_or done k d).page ≢ v.page =
    λ k d lt same. let f : false ≡ true = sym new ∙ sym (ap (λ q. get_or marked (place_of seen q) false) same) ∙ u.kept k d lt in cc in
    record {
      walk = record {
        walk = record { walks = walks-snoc kids (look seen) (start ∷ []) done todo next v u.walk.walk.walks e; once = all_pairs_push (λ a b. a.page ≢ b.page) done v u.walk.walk.once apart };
        were = all_push (λ w. Saw seen w.page) done v u.walk.were saw;
      };
      size = length-set marked place true ∙ u.size;
      kept = all_push (λ w. get_or (set marked place true) (place_of seen w.page) false ≡ true) done v (λ k d lt. still (place_of seen (get_or done k d).page) (u.kept k d lt)) (get_or-set_same marked place true false within);
      reached = λ p h m. elim (cases_eq (place_of seen p) place) as (λ _. Reaches (done ++ v ∷ []) p) [
        | inl same ↦ Any-push (λ w. w.page ≡ p) done v (sym (same_place seen v.page p saw same))
        | inr other ↦
            let old : Reaches done p = u.reached p h (sym (get_or-set_other marked place (place_of seen p) true false other) ∙ m) in
            (old.0, old.1, omega (arith, old.2, length-append done (v ∷ [])), get_or_append_left done (v ∷ []) old.1 old.0 old.2 ∙ old.3, old.4)
      ];
    }
  where
    all_push : (P : Visit → Type 0) (xs : List Visit) (v : Visit) → All P xs → P v → All P (xs ++ v ∷ [])
    all_push P [] v a p zero d h = p
    all_push P [] v a p (suc k) d h = absurd (omega arith)
    all_push P (x ∷ xs) v a p zero d h = a 0 d (omega arith)
    all_push P (x ∷ xs) v a p (suc k) d h = all_push P xs v (λ j e lt. a (suc j) e (omega arith)) p k d (omega arith)

-- what is to come stands in a stack, the next one last
pub stack_next : (stack left : List Visit) (v : Visit) → stack ≡ left ++ v ∷ [] → reverse stack ≡ v ∷ reverse left
stack_next stack left v e = ap reverse e ∙ reverse-append left (v ∷ [])

pub stack_more : (stack left next turned : List Visit) → stack ≡ left ++ turned → turned ≡ reverse next → reverse stack ≡ next ++ reverse left
stack_more stack left next turned e f = ap reverse (e ∙ ap (λ xs. left ++ xs) f) ∙ reverse-append left (reverse next) ∙ ap (λ xs. xs ++ reverse left) (reverse-reverse next)

pub step : (kids : Kids) (seen : List Looked) (start : Visit) (done todo left next done2 todo2 : List Visit) (v : Visit) (marked : List Bool) (i : ℕ) (d : Looked)
    → UnderWay kids seen start done todo marked → todo ≡ v ∷ left → i ≡ place_of seen v.page → i < length seen → get_or marked i false ≡ false
    → kids v (get_or seen i d).slots ≡ Ok next → done2 ≡ done ++ v ∷ [] → todo2 ≡ next ++ left → UnderWay kids seen start done2 todo2 (set marked i true)
step kids seen start done todo left next done2 todo2 v marked i d u is at h new e is_done is_todo =
    let saw : Saw seen v.page = omega arith in
    let read : look seen v.page ≡ (get_or seen i d).slots = look-place seen v.page d saw ∙ ap (λ n. (get_or seen n d).slots) (sym at) in
    let made : UnderWay kids seen start (done ++ v ∷ []) (next ++ left) (set marked i true) = subst (λ n. UnderWay kids seen start (done ++ v ∷ []) (next ++ left) (set marked n true)) (sym at)
    (go_on kids seen start done left next v marked (subst (λ t. UnderWay kids seen start done t marked) is u) saw (ap (λ n. get_or marked n false) (sym at) ∙ new) (ap (kids v) read ∙ e)) in
    subst (λ t. UnderWay kids seen start done2 t (set marked i true)) (sym is_todo) (subst (λ t. UnderWay kids seen start t (next ++ left) (set marked i true)) (sym is_done) made)

pub bad_kids : (kids : Kids) (seen : List Looked) (start : Visit) (done todo left : List Visit) (v : Visit) (marked : List Bool) (i : ℕ) (d : Looked) (page : PageId) (slot : ℕ)
    → UnderWay kids seen start done todo marked → todo ≡ v ∷ left → i ≡ place_of seen v.page → i < length seen
    → v.page ≡ page → kids v (get_or seen i d).slots ≡ Err slot → IsBad kids seen start page slot
bad_kids kids seen start done todo left v marked i d page slot u is at h same e =
    let saw : Saw seen v.page = omega arith in
    let read : look seen v.page ≡ (get_or seen i d).slots = look-place seen v.page d saw ∙ ap (λ n. (get_or seen n d).slots) (sym at) in
    (done, left, v, subst (λ t. IsSeenWalk kids seen start done t) is u.walk, saw, inl (same, ap (kids v) read ∙ e))

-- the same as a refusal
pub on_bad : (kids : Kids) (seen : List Looked) (start : Visit) (done todo left : List Visit) (v : Visit) (marked : List Bool) (i : ℕ)
    → UnderWay kids seen start done todo marked → todo ≡ v ∷ left → i ≡ place_of seen v.page → i < length seen
    → (e : SeenRefusal) → IsOn v.page (λ slot. (d : Looked) → kids v (get_or seen i d).slots ≡ Err slot) e → IsAt (IsBad kids seen start) e
on_bad kids seen start done todo left v marked i u is at h (Damaged page slot) b =
    let d : Looked = record { page = v.page; slots = [] } in
    bad_kids kids seen start done todo left v marked i d page slot u is at h b.0 (b.1 d)
on_bad kids seen start done todo left v marked i u is at h Memory b = tt

pub bad_twice : (kids : Kids) (seen : List Looked) (start : Visit) (done todo left : List Visit) (v : Visit) (marked : List Bool) (i : ℕ)
    → UnderWay kids seen start done todo marked → todo ≡ v ∷ left → i ≡ place_of seen v.page → i < length seen
    → get_or marked i false ≡ true → IsBad kids seen start v.from v.slot
bad_twice kids seen start done todo left v marked i u is at h old =
    let saw : Saw seen v.page = omega arith in
    (done, left, v, subst (λ t. IsSeenWalk kids seen start done t) is u.walk, saw, inr (refl, refl, u.reached v.page saw (ap (λ n. get_or marked n false) (sym at) ∙ old)))

-- LAWS

same_seen : (kids : Kids) (seen : List Looked) (at : SlotsAt) (start : Visit) (done rest : List Visit) → Shows seen at → IsSeenWalk kids seen start done rest → Walks kids at (start ∷ []) done rest
same_seen kids seen at start done rest shows w =
    walks-same kids (look seen) at (start ∷ []) done rest (λ k d lt. shows (get_or done k d).page (w.were k d lt)) w.walk.walks

pub ahead : (kids : Kids) (seen : List Looked) (at : SlotsAt) (start v : Visit) (done rest all : List Visit) → Shows seen at → IsSeenWalk kids seen start done (v ∷ rest) → IsWalk kids at start all []
    → (more : List Visit) × (all ≡ done ++ v ∷ more) × IsOkAnd (kids v (at v.page)) (λ n. Walks kids at (n ++ rest) more [])
ahead kids seen at start v done rest all shows w a = walks-prefix kids at (start ∷ []) done rest all v (same_seen kids seen at start done (v ∷ rest) shows w) a.walks

mid : (done more : List Visit) (v d : Visit) → get_or (done ++ v ∷ more) (length done) d ≡ v
mid [] more v d = refl
mid (x ∷ done) more v d = mid done more v d

-- over a whole walk no slot is bad
pub never_bad : (kids : Kids) (seen : List Looked) (at : SlotsAt) (start : Visit) (all : List Visit) (page : PageId) (slot : ℕ) → Shows seen at → IsWalk kids at start all [] → ¬ IsBad kids seen start page slot
never_bad kids seen at start all page slot shows a bad =
    let done : List Visit = bad.0 in
    let v : Visit = bad.2 in
    let next = ahead kids seen at start v done bad.1 all shows bad.3 a in
    let once : AllPairs (λ (x : Visit) (y : Visit). x.page ≢ y.page) (done ++ v ∷ next.0) = subst (AllPairs (λ (x : Visit) (y : Visit). x.page ≢ y.page)) next.1 a.once in
    elim bad.5 [
      | inl wrong ↦ not_ok (λ n. Walks kids at (n ++ bad.1) next.0 []) (kids v (at v.page)) slot next.2 (ap (kids v) (sym (shows v.page bad.4)) ∙ wrong.1)
      | inr twice ↦
          let k : ℕ = twice.2.0 in
          let lt : k < length done = twice.2.2 in
          let other : (get_or (done ++ v ∷ next.0) k v).page ≢ (get_or (done ++ v ∷ next.0) (length done) v).page = once k (length done) v lt (omega (arith, length-append done (v ∷ next.0))) in
          let here : get_or done k v ≡ twice.2.1 = get_or_default done k v twice.2.1 lt ∙ twice.2.3 in
          other (ap (λ (x : Visit). x.page) (get_or_append_left done (v ∷ next.0) v k lt ∙ here) ∙ twice.2.4 ∙ sym (ap (λ (x : Visit). x.page) (mid done next.0 v v)))
    ]
  where
    not_ok : {A : Type 0} (P : A → Type 0) (r : Result A ℕ) (slot : ℕ) → IsOkAnd r P → r ≡ Err slot → ⊥
    not_ok P r slot p e = subst (λ x. IsOkAnd x P) e p

-- the page that comes next is one of the whole walk's
pub is_ahead : (kids : Kids) (seen : List Looked) (at : SlotsAt) (start v : Visit) (all : List Visit) → Shows seen at → IsWalk kids at start all [] → Lacks kids seen start v → Any (λ w. w ≡ v) all
is_ahead kids seen at start v all shows a lacks =
    let next = ahead kids seen at start v lacks.0 lacks.1 all shows lacks.2 a in
    subst (Any (λ w. w ≡ v)) (sym next.1) (length lacks.0, v, omega (arith, length-append lacks.0 (v ∷ next.0)), mid lacks.0 next.0 v v, refl)

-- a walk that was read whole is the whole walk
pub is_all : (kids : Kids) (seen : List Looked) (at : SlotsAt) (start : Visit) (done all : List Visit) → Shows seen at → IsSeenWalk kids seen start done [] → IsWalk kids at start all [] → done ≡ all
is_all kids seen at start done all shows w a = walks-one kids at (start ∷ []) done all (same_seen kids seen at start done [] shows w) a.walks

self_shown : (seen : List Looked) → Shows seen (look seen)
self_shown seen p h = refl

pub lacks_not : (kids : Kids) (seen : List Looked) (start v : Visit) → IsDone kids seen start → ¬ Lacks kids seen start v
lacks_not kids seen start v whole lacks =
    let all : List Visit = whole.0 in
    let next = ahead kids seen (look seen) start v lacks.0 lacks.1 all (self_shown seen) lacks.2 whole.1.walk in
    let long : length lacks.0 < length all = omega (arith, ap length next.1, length-append lacks.0 (v ∷ next.0)) in
    lacks.3 (subst (λ (w : Visit). Saw seen w.page) (ap (λ xs. get_or xs (length lacks.0) v) next.1 ∙ mid lacks.0 next.0 v v) (whole.1.were (length lacks.0) v long))

-- where the walk answered that nothing is lacking
pub whole_walk : (kids : Kids) (seen : List Looked) (start : Visit) (done : List Visit) (lacks : Option Visit) → IsDone kids seen start → MatchOption lacks (IsSeenWalk kids seen start done []) (λ v. Lacks kids seen start v) → IsSeenWalk kids seen start done []
whole_walk kids seen start done None whole w = w
whole_walk kids seen start done (Some v) whole w = absurd (lacks_not kids seen start v whole w)

pub done_not_bad : (kids : Kids) (seen : List Looked) (start : Visit) (page : PageId) (slot : ℕ) → IsDone kids seen start → ¬ IsBad kids seen start page slot
done_not_bad kids seen start page slot whole = never_bad kids seen (look seen) start whole.0 page slot (self_shown seen) whole.1.walk

pub one_walk : (kids : Kids) (seen : List Looked) (start : Visit) (done other : List Visit) → IsSeenWalk kids seen start done [] → IsSeenWalk kids seen start other [] → done ≡ other
one_walk kids seen start done other a b = is_all kids seen (look seen) start done other (self_shown seen) a b.walk

pub done_not_bad_at : (kids : Kids) (seen : List Looked) (start : Visit) (Q : PageId → ℕ → Type 0) → IsDone kids seen start → (e : SeenRefusal) → IsAt (IsBad kids seen start) e → IsAt Q e
done_not_bad_at kids seen start Q whole (Damaged page slot) bad = absurd (done_not_bad kids seen start page slot whole bad)
done_not_bad_at kids seen start Q whole Memory bad = tt

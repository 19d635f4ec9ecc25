-- A walk of a heap is the chain of its root pages and leaves, and each chain of different pages is walked so.
use Rattle.std.proofs.Common.{refl, ◌≡◌, ◌≢◌, ℕ, zero, suc, ◌+◌, ◌<◌, ◌≤◌, List, [], ◌∷◌, ◌++◌, length, get_or, map, take, drop, ap, sym, ◌∙◌, subst, arith, Bool, true, false, cond, ◌==◌, ◌&&◌, Result, Ok, Err, IsOkAnd, Option, None, Some, length-append, length-take, eq-eqb, eqb-true}
use Rattle.std.specs.Prelude.{option_to_list, slice_index}
use Rattle.std.specs.List.{AllPairs}
use Rattle.std.proofs.lemmas.List.{append-nil, take_all, drop_all, take_at, drop_at, take-append-drop}
use Rattle.page_base.specs.declared.numbers.PageId.{PageId}
use Rattle.page_base.specs.Pages.{is_page}
use Rattle.page_fmt.specs.Seen.{SlotsAt}
use Rattle.page_fmt.proofs.SeenLemmas.{is_page-same, is_page-true, is_page-other}
use Rattle.table_walk.specs.declared.visit.Visit.{Visit}
use Rattle.table_walk.specs.Addresses.{page_at, page_number, names_none}
use Rattle.table_walk.specs.Tables.{is_leaf}
use Rattle.table_walk.specs.Walk.{Walks, Reaches, IsWalk}
use Rattle.table_heap.specs.Heap.{before, leaf_named, leaf_visits, join, next_visits, root_named, root_kids, heap_kids, first}
use Rattle.table_heap.specs.Shape.{Name, NamesNext, IsRootPage, Chain, leaf_visits_of, root_visit, visits_of, times, leaves_in, roots_in, IsHeapOf}
use Rattle.table_heap.proofs.HeapLemmas.{root_joined, root_empty, root_long}
use Rattle.std.proofs.lemmas.Bool.{cases_lt}
use Rattle.std.specs.Prelude.{◌⊎◌}
use Rattle.std.proofs.Common.{inl, inr}

-- WHAT A ROOT PAGE NAMES

abbrev get_ok : List Visit → Result (List Visit) ℕ → List Visit
get_ok d (Ok x) = x
get_ok d (Err e) = d

not_ok : (e : ℕ) (a : List Visit) → Err e ≢ Ok a
not_ok e a f = subst (λ (r : Result (List Visit) ℕ). IsOkAnd r (λ _. Unit {0})) (sym f) tt

-- leaves that were read of slots, and the pages that these name
record LeavesNamed (from : PageId) (i : ℕ) (xs : List (List ℕ)) (vs : List Visit) : Type 0 where
  leaves : List PageId
  name : Name xs leaves
  is : vs ≡ leaf_visits_of from i leaves

leaves_named : (from : PageId) (i : ℕ) (xs : List (List ℕ)) (vs : List Visit) → leaf_visits from i xs ≡ Ok vs → LeavesNamed from i xs vs
leaves_named from i [] vs e = record { leaves = []; name = tt; is = sym (ap (get_ok []) e) }
leaves_named from i (x ∷ xs) vs e = by (page_at x) (leaf_visits from (i + 1) xs) refl e (λ ws f. leaves_named from (i + 1) xs ws f) refl
  where
    by : (o : Option PageId) (r : Result (List Visit) ℕ) → page_at x ≡ o → leaf_named from i o r ≡ Ok vs → ((ws : List Visit) → leaf_visits from (i + 1) xs ≡ Ok ws → LeavesNamed from (i + 1) xs ws) → leaf_visits from (i + 1) xs ≡ r
        → LeavesNamed from i (x ∷ xs) vs
    by None r a f again g = absurd (not_ok i vs f)
    by (Some p) (Err j) a f again g = absurd (not_ok j vs f)
    by (Some p) (Ok ws) a f again g =
        let l : LeavesNamed from (i + 1) xs ws = again ws g in
        record {
          leaves = p ∷ l.leaves;
          name = (a, l.name);
          is = sym (ap (get_ok []) f) ∙ ap (λ us. record { page = p; from = from; slot = i; level = Some 0 } ∷ us) l.is;
        }

pub named_leaves : (from : PageId) (i : ℕ) (xs : List (List ℕ)) (ps : List PageId) → Name xs ps → leaf_visits from i xs ≡ Ok (leaf_visits_of from i ps)
named_leaves from i [] [] n = refl
named_leaves from i [] (p ∷ ps) n = absurd n
named_leaves from i (x ∷ xs) [] n = absurd n
named_leaves from i (x ∷ xs) (p ∷ ps) n =
    ap (λ o. leaf_named from i o (leaf_visits from (i + 1) xs)) n.0 ∙ ap (before (record { page = p; from = from; slot = i; level = Some 0 })) (named_leaves from (i + 1) xs ps n.1)

pub Name-length : (xs : List (List ℕ)) (ps : List PageId) → Name xs ps → length xs ≡ length ps
Name-length [] [] n = refl
Name-length [] (p ∷ ps) n = absurd n
Name-length (x ∷ xs) [] n = absurd n
Name-length (x ∷ xs) (p ∷ ps) n = ap (λ k. suc k) (Name-length xs ps n.1)

-- what names a page doesn't name none
pub named_not_none : (x : List ℕ) (q : PageId) → page_at x ≡ Some q → names_none x ≡ false
named_not_none x q e = by (length x == 5) (slice_index x 0 == 0) (page_number x == 0) (record { file = slice_index x 0; page = page_number x }) e
  where
    by : (a b c : Bool) (p : PageId) → cond a (cond (b && c) None (Some p)) None ≡ Some q → (a && b && c) ≡ false
    by true true true p e = absurd (let w : None ≡ Some q = e in cc)
    by true true false p e = refl
    by true false c p e = refl
    by false b c p e = refl

-- a root page that was read: the leaves that it names, and the next root page
pub record RootNames (from : PageId) (slots : List (List ℕ)) (n : List Visit) : Type 0 where
  pub leaves : List PageId
  pub next : Option PageId
  pub page : IsRootPage slots leaves (option_to_list next)
  pub short : length leaves ≤ 1000
  pub is : n ≡ leaf_visits_of from 1 leaves ++ map (root_visit from) (option_to_list next)

pub root_names : (from : PageId) (slots : List (List ℕ)) (n : List Visit) → root_kids from slots ≡ Ok n → RootNames from slots n
root_names from [] n e = absurd (not_ok 0 n (sym (root_empty from [] refl) ∙ e))
root_names from (x ∷ xs) n e =
    elim (cases_lt 1001 (length (x ∷ xs))) as (λ _. RootNames from (x ∷ xs) n) [
      | inl long ↦ absurd (not_ok 1001 n (sym (root_long from (x ∷ xs) long) ∙ e))
      | inr fits ↦ go (leaf_visits from 1 xs) (names_none x) (length (x ∷ xs) == 1001) (page_at x) fits refl refl refl refl (sym (root_joined from (x ∷ xs) (λ f. absurd (omega arith)) fits) ∙ e)
    ]
  where
    go : (r : Result (List Visit) ℕ) (a b : Bool) (o : Option PageId) → length (x ∷ xs) ≤ 1001 → leaf_visits from 1 xs ≡ r → names_none x ≡ a → (length (x ∷ xs) == 1001) ≡ b → page_at x ≡ o
        → join r (cond a (Ok []) (cond b (root_named from o) (Err 0))) ≡ Ok n → RootNames from (x ∷ xs) n
    go (Err j) a b o fits f g c d h = absurd (not_ok j n h)
    go (Ok ws) true b o fits f g c d h =
        let l : LeavesNamed from 1 xs ws = leaves_named from 1 xs ws f in
        record { leaves = l.leaves; next = None; page = (g, l.name); short = omega (arith, Name-length xs l.leaves l.name); is = sym (ap (get_ok []) h) ∙ ap (λ us. us ++ []) l.is }
    go (Ok ws) false false o fits f g c d h = absurd (not_ok 0 n h)
    go (Ok ws) false true None fits f g c d h = absurd (not_ok 0 n h)
    go (Ok ws) false true (Some p) fits f g c d h =
        let l : LeavesNamed from 1 xs ws = leaves_named from 1 xs ws f in
        let many : length (x ∷ xs) ≡ 1001 = eqb-true (length (x ∷ xs)) 1001 c in
        record {
          leaves = l.leaves;
          next = Some p;
          page = ((d, omega (arith, many, Name-length xs l.leaves l.name)), l.name);
          short = omega (arith, Name-length xs l.leaves l.name);
          is = sym (ap (get_ok []) h) ∙ ap (λ us. us ++ root_visit from p ∷ []) l.is;
        }

-- the root pages that stand next to a root page
abbrev pub next_of : List PageId → Option PageId
next_of [] = None
next_of (r ∷ rs) = Some r

pub names_root : (from : PageId) (slots : List (List ℕ)) (leaves rs : List PageId) → IsRootPage slots leaves rs → length leaves ≤ 1000 → root_kids from slots ≡ Ok (leaf_visits_of from 1 leaves ++ map (root_visit from) (option_to_list (next_of rs)))
names_root from [] leaves rs p short = absurd p
names_root from (x ∷ xs) leaves rs p short =
    let n : length xs ≡ length leaves = Name-length xs leaves p.1 in
    root_joined from (x ∷ xs) (λ f. absurd (omega arith)) (omega arith) ∙ ap (λ r. join r (next_visits from (length (x ∷ xs)) x)) (named_leaves from 1 xs leaves p.1) ∙ ap (join (Ok (leaf_visits_of from 1 leaves))) (next rs p.0 n)
  where
    next : (rs : List PageId) → NamesNext x leaves rs → length xs ≡ length leaves → next_visits from (length (x ∷ xs)) x ≡ Ok (map (root_visit from) (option_to_list (next_of rs)))
    next [] e n = ap (λ b. cond b (Ok []) (cond (length (x ∷ xs) == 1001) (root_named from (page_at x)) (Err 0))) e
    next (q ∷ rs) e n =
        let many : length (x ∷ xs) ≡ 1001 = omega (arith, e.1, n) in
        ap (λ b. cond b (Ok []) (cond (length (x ∷ xs) == 1001) (root_named from (page_at x)) (Err 0))) (named_not_none x q e.0)
        ∙ ap (λ b. cond b (root_named from (page_at x)) (Err 0)) (eq-eqb (length (x ∷ xs)) 1001 many) ∙ ap (root_named from) e.0

pub next_more : (slots : List (List ℕ)) (leaves : List PageId) (q : PageId) (rs : List PageId) → IsRootPage slots leaves (q ∷ []) → IsRootPage slots leaves (q ∷ rs)
next_more [] leaves q rs p = absurd p
next_more (x ∷ xs) leaves q rs p = p

-- THE WALK

no_cons : (x : Visit) (xs : List Visit) → x ∷ xs ≢ []
no_cons x xs e = let n : suc (length xs) ≡ 0 = ap length e in absurd (omega arith)

-- leaves to come are come to
record LeavesWalked (at : SlotsAt) (from : PageId) (i : ℕ) (ls : List PageId) (todo done : List Visit) : Type 0 where
  rest : List Visit
  is : done ≡ leaf_visits_of from i ls ++ rest
  walks : Walks heap_kids at todo rest []

leaves_walked : (at : SlotsAt) (from : PageId) (i : ℕ) (ls : List PageId) (todo done : List Visit) → Walks heap_kids at (leaf_visits_of from i ls ++ todo) done [] → LeavesWalked at from i ls todo done
leaves_walked at from i [] todo done w = record { rest = done; is = refl; walks = w }
leaves_walked at from i (l ∷ ls) todo [] w = absurd (no_cons (record { page = l; from = from; slot = i; level = Some 0 }) (leaf_visits_of from (i + 1) ls ++ todo) w)
leaves_walked at from i (l ∷ ls) todo (d ∷ ds) w =
    let r : LeavesWalked at from (i + 1) ls todo ds = leaves_walked at from (i + 1) ls todo ds w.1 in
    record { rest = r.rest; is = λ k. sym w.0 k ∷ r.is k; walks = r.walks }

walked_leaves : (at : SlotsAt) (from : PageId) (i : ℕ) (ls : List PageId) (todo rest : List Visit) → Walks heap_kids at todo rest [] → Walks heap_kids at (leaf_visits_of from i ls ++ todo) (leaf_visits_of from i ls ++ rest) []
walked_leaves at from i [] todo rest w = w
walked_leaves at from i (l ∷ ls) todo rest w = (refl, walked_leaves at from (i + 1) ls todo rest w)

-- the root pages and leaves of a walk from a root page on
pub record ChainFrom (at : SlotsAt) (from r : PageId) (done : List Visit) : Type 0 where
  pub more : List PageId
  pub leaves : List PageId
  pub chain : Chain at (r ∷ more) leaves
  pub is : done ≡ visits_of from (r ∷ more) leaves

chain_of : (at : SlotsAt) (n : ℕ) (from r : PageId) (done : List Visit) → length done ≤ n → Walks heap_kids at (root_visit from r ∷ []) done [] → ChainFrom at from r done
chain_of at n from r [] h w = absurd (no_cons (root_visit from r) [] w)
chain_of at zero from r (d ∷ ds) h w = absurd (omega arith)
chain_of at (suc n) from r (d ∷ ds) h w = go (root_kids r (at r)) refl w.1 (λ q rest short x. chain_of at n r q rest short x)
  where
    ends : (ls : List PageId) → IsRootPage (at r) ls [] → length ls ≤ 1000 → (rest : List Visit) → ds ≡ leaf_visits_of r 1 ls ++ rest → Walks heap_kids at [] rest [] → ChainFrom at from r (d ∷ ds)
    ends ls p short [] is x =
        record {
          more = [];
          leaves = ls;
          chain = (subst (λ us. IsRootPage (at r) us []) (sym (take_all 1000 ls short)) p, drop_all 1000 ls short);
          is = (λ k. sym w.0 k ∷ is k) ∙ ap (λ us. root_visit from r ∷ (leaf_visits_of r 1 us ++ [])) (sym (take_all 1000 ls short));
        }
    ends ls p short (v ∷ vs) is x = absurd x

    goes_on : (ls : List PageId) (q : PageId) → IsRootPage (at r) ls (q ∷ []) → length ls ≡ 1000 → (rest : List Visit) → ds ≡ leaf_visits_of r 1 ls ++ rest → ChainFrom at r q rest → ChainFrom at from r (d ∷ ds)
    goes_on ls q p many rest is c =
        record {
          more = q ∷ c.more;
          leaves = ls ++ c.leaves;
          chain = (
            subst (λ us. IsRootPage (at r) us (q ∷ c.more)) (sym (take_at ls c.leaves 1000 many)) (next_more (at r) ls q c.more p),
            subst (Chain at (q ∷ c.more)) (sym (drop_at ls c.leaves 1000 many)) c.chain,
          );
          is = (λ k. sym w.0 k ∷ is k) ∙ (λ k. root_visit from r ∷ (leaf_visits_of r 1 (sym (take_at ls c.leaves 1000 many) k) ++ c.is k))
              ∙ ap (λ us. root_visit from r ∷ (leaf_visits_of r 1 (take 1000 (ls ++ c.leaves)) ++ visits_of r (q ∷ c.more) us)) (sym (drop_at ls c.leaves 1000 many));
        }

    full : (s : List (List ℕ)) (ls : List PageId) (q : PageId) → IsRootPage s ls (q ∷ []) → length ls ≡ 1000
    full [] ls q p = absurd p
    full (x ∷ xs) ls q p = p.0.1

    named : (ls : List PageId) (o : Option PageId) → IsRootPage (at r) ls (option_to_list o) → length ls ≤ 1000 → Walks heap_kids at ((leaf_visits_of r 1 ls ++ map (root_visit r) (option_to_list o)) ++ []) ds []
        → ((q : PageId) (rest : List Visit) → length rest ≤ n → Walks heap_kids at (root_visit r q ∷ []) rest [] → ChainFrom at r q rest) → ChainFrom at from r (d ∷ ds)
    named ls None p short x again =
        let l : LeavesWalked at r 1 ls [] ds = leaves_walked at r 1 ls [] ds (subst (λ t. Walks heap_kids at t ds []) (append-nil (leaf_visits_of r 1 ls ++ [])) x) in
        ends ls p short l.rest l.is l.walks
    named ls (Some q) p short x again =
        let l : LeavesWalked at r 1 ls (root_visit r q ∷ []) ds = leaves_walked at r 1 ls (root_visit r q ∷ []) ds (subst (λ t. Walks heap_kids at t ds []) (append-nil (leaf_visits_of r 1 ls ++ root_visit r q ∷ [])) x) in
        let long : length ds ≡ length (leaf_visits_of r 1 ls) + length l.rest = ap length l.is ∙ length-append (leaf_visits_of r 1 ls) l.rest in
        goes_on ls q p (full (at r) ls q p) l.rest l.is (again q l.rest (omega arith) l.walks)

    go : (k : Result (List Visit) ℕ) → root_kids r (at r) ≡ k → IsOkAnd k (λ m. Walks heap_kids at (m ++ []) ds [])
        → ((q : PageId) (rest : List Visit) → length rest ≤ n → Walks heap_kids at (root_visit r q ∷ []) rest [] → ChainFrom at r q rest) → ChainFrom at from r (d ∷ ds)
    go (Err j) f x again = absurd x
    go (Ok m) f x again =
        let names : RootNames r (at r) m = root_names r (at r) m f in
        named names.leaves names.next names.page names.short (subst (λ us. Walks heap_kids at (us ++ []) ds []) names.is x) again

short_take : (ls : List PageId) → length (take 1000 ls) ≤ 1000
short_take ls = omega (arith, length-take 1000 ls)

-- a root page and its leaves are come to before the next root page
chain_step : (at : SlotsAt) (from r : PageId) (rs leaves : List PageId) (rest : List Visit) → IsRootPage (at r) (take 1000 leaves) rs → Walks heap_kids at (map (root_visit r) (option_to_list (next_of rs))) rest []
    → Walks heap_kids at (root_visit from r ∷ []) (root_visit from r ∷ (leaf_visits_of r 1 (take 1000 leaves) ++ rest)) []
chain_step at from r rs leaves rest p w = (
  refl,
  subst (λ k. IsOkAnd k (λ m. Walks heap_kids at (m ++ []) (leaf_visits_of r 1 (take 1000 leaves) ++ rest) [])) (sym (names_root r (at r) (take 1000 leaves) rs p (short_take leaves)))
      (subst (λ t. Walks heap_kids at t (leaf_visits_of r 1 (take 1000 leaves) ++ rest) []) (sym (append-nil (leaf_visits_of r 1 (take 1000 leaves) ++ map (root_visit r) (option_to_list (next_of rs)))))
      (walked_leaves at r 1 (take 1000 leaves) (map (root_visit r) (option_to_list (next_of rs))) rest w)),
)

pub chain_walks : (at : SlotsAt) (from r : PageId) (rs leaves : List PageId) → Chain at (r ∷ rs) leaves → Walks heap_kids at (root_visit from r ∷ []) (visits_of from (r ∷ rs) leaves) []
chain_walks at from r [] leaves c = chain_step at from r [] leaves [] c.0 refl
chain_walks at from r (q ∷ qs) leaves c = chain_step at from r (q ∷ qs) leaves (visits_of r (q ∷ qs) (drop 1000 leaves)) c.0 (chain_walks at r q qs (drop 1000 leaves) c.1)

-- PAGES, COUNTED

pub times_append : (p : PageId) (xs ys : List PageId) → times p (xs ++ ys) ≡ times p xs + times p ys
times_append p [] ys = omega arith
times_append p (x ∷ xs) ys = omega (arith, times_append p xs ys)

-- the pages of visits
abbrev pub pages_of : List Visit → List PageId
pages_of [] = []
pages_of (v ∷ vs) = v.page ∷ pages_of vs

pages_append : (xs ys : List Visit) → pages_of (xs ++ ys) ≡ pages_of xs ++ pages_of ys
pages_append [] ys = refl
pages_append (x ∷ xs) ys = ap (λ ps. x.page ∷ ps) (pages_append xs ys)

leaf_pages : (from : PageId) (i : ℕ) (ps : List PageId) → pages_of (leaf_visits_of from i ps) ≡ ps
leaf_pages from i [] = refl
leaf_pages from i (p ∷ ps) = ap (λ qs. p ∷ qs) (leaf_pages from (i + 1) ps)

-- a visit for each root page and each leaf
pub times_visits : (at : SlotsAt) (p from : PageId) (roots leaves : List PageId) → Chain at roots leaves → times p (pages_of (visits_of from roots leaves)) ≡ times p roots + times p leaves
times_visits at p from [] leaves c = let none : times p leaves ≡ 0 = ap (times p) c in omega arith
times_visits at p from (r ∷ rs) leaves c =
    let parts : times p (pages_of (leaf_visits_of r 1 (take 1000 leaves) ++ visits_of r rs (drop 1000 leaves))) ≡ times p (take 1000 leaves) + times p (pages_of (visits_of r rs (drop 1000 leaves))) =
    ap (times p) (pages_append (leaf_visits_of r 1 (take 1000 leaves)) (visits_of r rs (drop 1000 leaves)) ∙ ap (λ ps. ps ++ pages_of (visits_of r rs (drop 1000 leaves))) (leaf_pages r 1 (take 1000 leaves)))
    ∙ times_append p (take 1000 leaves) (pages_of (visits_of r rs (drop 1000 leaves))) in
    let whole : times p (take 1000 leaves) + times p (drop 1000 leaves) ≡ times p leaves = sym (times_append p (take 1000 leaves) (drop 1000 leaves)) ∙ ap (times p) (take-append-drop 1000 leaves) in
    omega (arith, times_visits at p r rs (drop 1000 leaves) c.1)

pub one_here : (q p : PageId) (n : ℕ) → q ≡ p → cond {A = ℕ} (is_page q p) 1 0 + n ≡ 1 + n
one_here q p n e = ap (λ b. cond {A = ℕ} b 1 0 + n) (ap (λ x. is_page x p) e ∙ is_page-same p)

pub none_here : (q p : PageId) (n : ℕ) → q ≢ p → cond {A = ℕ} (is_page q p) 1 0 + n ≡ n
none_here q p n ne = ap (λ b. cond {A = ℕ} b 1 0 + n) (is_page-other q p ne) ∙ zero_more n
  where
    zero_more : (n : ℕ) → 0 + n ≡ n
    zero_more n = omega arith

-- a page that is there, or isn't
pub page_cases : (q p : PageId) → (q ≡ p) ⊎ (q ≢ p)
page_cases q p = by (is_page q p) refl
  where
    by : (b : Bool) → is_page q p ≡ b → (q ≡ p) ⊎ (q ≢ p)
    by true e = inl (is_page-true q p e)
    by false e = inr (λ f. let w : true ≡ false = sym (ap (λ x. is_page x p) f ∙ is_page-same p) ∙ e in cc)

-- a page that is reached is counted
pub times_at : (vs : List Visit) (p : PageId) (k : ℕ) (d : Visit) → k < length vs → (get_or vs k d).page ≡ p → 1 ≤ times p (pages_of vs)
times_at [] p k d h e = absurd (omega arith)
times_at (v ∷ vs) p zero d h e = omega (arith, one_here v.page p (times p (pages_of vs)) e)
times_at (v ∷ vs) p (suc k) d h e = omega (arith, times_at vs p k d (omega arith) e)

times_two : (vs : List Visit) (p : PageId) (i j : ℕ) (d : Visit) → i < j → j < length vs → (get_or vs i d).page ≡ p → (get_or vs j d).page ≡ p → 2 ≤ times p (pages_of vs)
times_two [] p i j d h l e f = absurd (omega arith)
times_two (v ∷ vs) p i zero d h l e f = absurd (omega arith)
times_two (v ∷ vs) p zero (suc j) d h l e f = omega (arith, one_here v.page p (times p (pages_of vs)) e, times_at vs p j d (omega arith) f)
times_two (v ∷ vs) p (suc i) (suc j) d h l e f = omega (arith, times_two vs p i j d (omega arith) (omega arith) e f)

-- and the other way round
pub times_there : (vs : List Visit) (p : PageId) → 1 ≤ times p (pages_of vs) → Reaches vs p
times_there [] p h = absurd (omega arith)
times_there (v ∷ vs) p h =
    elim (page_cases v.page p) [
      | inl e ↦ (0, v, omega arith, refl, e)
      | inr ne ↦
          let x : Reaches vs p = times_there vs p (omega (arith, none_here v.page p (times p (pages_of vs)) ne)) in
          (suc x.0, x.1, omega (arith, x.2), x.3, x.4)
    ]

pub there_times : (vs : List Visit) (p : PageId) → Reaches vs p → 1 ≤ times p (pages_of vs)
there_times vs p x = times_at vs p x.0 x.1 x.2 (ap (λ (v : Visit). v.page) x.3 ∙ x.4)

once_of : (vs : List Visit) → ((p : PageId) → times p (pages_of vs) ≤ 1) → AllPairs (λ v w. v.page ≢ w.page) vs
once_of vs h i j d lt l e = absurd (omega (arith, h (get_or vs j d).page, times_two vs (get_or vs j d).page i j d lt l e refl))

times_of : (vs : List Visit) → AllPairs (λ v w. v.page ≢ w.page) vs → (p : PageId) → times p (pages_of vs) ≤ 1
times_of [] a p = omega arith
times_of (v ∷ vs) a p =
    let tail : times p (pages_of vs) ≤ 1 = times_of vs (λ i j d lt l. a (suc i) (suc j) d (omega arith) (omega arith)) p in
    elim (page_cases v.page p) [
      | inl e ↦ elim (cases_lt 0 (times p (pages_of vs))) [
        | inl some ↦
            let x : Reaches vs p = times_there vs p (omega arith) in
            absurd (a 0 (suc x.0) x.1 (omega arith) (omega (arith, x.2)) (e ∙ sym (ap (λ (w : Visit). w.page) x.3 ∙ x.4)))
        | inr none ↦ omega (arith, one_here v.page p (times p (pages_of vs)) e)
      ]
      | inr ne ↦ omega (arith, none_here v.page p (times p (pages_of vs)) ne)
    ]

-- THE WHOLE HEAP

-- a walk's root pages and leaves
pub record IsWalkOf (at : SlotsAt) (root : PageId) (done : List Visit) : Type 0 where
  pub roots : List PageId
  pub leaves : List PageId
  pub heap : IsHeapOf at root roots leaves
  pub is : done ≡ visits_of root roots leaves

pub heap_of : (at : SlotsAt) (root : PageId) (done : List Visit) → IsWalk heap_kids at (first root) done [] → IsWalkOf at root done
heap_of at root done w =
    let c : ChainFrom at root root done = chain_of at (length done) root root done (omega arith) w.walks in
    record {
      roots = root ∷ c.more;
      leaves = c.leaves;
      heap = record {
        more = c.more;
        begins = refl;
        chain = c.chain;
        differ = λ p. subst (λ n. n ≤ 1) (times_visits at p root (root ∷ c.more) c.leaves c.chain) (subst (λ vs. times p (pages_of vs) ≤ 1) c.is (times_of done w.once p));
      };
      is = c.is;
    }

pub walk_of : (at : SlotsAt) (root : PageId) (roots leaves : List PageId) → IsHeapOf at root roots leaves → IsWalk heap_kids at (first root) (visits_of root roots leaves) []
walk_of at root roots leaves h = record {
  walks = subst (λ rs. Walks heap_kids at (first root ∷ []) (visits_of root rs leaves) []) (sym h.begins) (chain_walks at root root h.more leaves (subst (λ rs. Chain at rs leaves) h.begins h.chain));
  once = once_of (visits_of root roots leaves) (λ p. subst (λ n. n ≤ 1) (sym (times_visits at p root roots leaves h.chain)) (h.differ p));
}

-- a walk reaches the root pages and leaves
pub reaches_of : (at : SlotsAt) (root p : PageId) (roots leaves : List PageId) → IsHeapOf at root roots leaves → 1 ≤ times p roots + times p leaves → Reaches (visits_of root roots leaves) p
reaches_of at root p roots leaves h some = times_there (visits_of root roots leaves) p (subst (λ n. 1 ≤ n) (sym (times_visits at p root roots leaves h.chain)) some)

pub of_reaches : (at : SlotsAt) (root p : PageId) (roots leaves : List PageId) → IsHeapOf at root roots leaves → Reaches (visits_of root roots leaves) p → 1 ≤ times p roots + times p leaves
of_reaches at root p roots leaves h x = subst (λ n. 1 ≤ n) (times_visits at p root roots leaves h.chain) (there_times (visits_of root roots leaves) p x)

-- ROOT PAGES AND LEAVES OF A WALK

pub leaves_in-append : (xs ys : List Visit) → leaves_in (xs ++ ys) ≡ leaves_in xs ++ leaves_in ys
leaves_in-append [] ys = refl
leaves_in-append (x ∷ xs) ys =
    let by : (b : Bool) → cond b (x.page ∷ leaves_in (xs ++ ys)) (leaves_in (xs ++ ys)) ≡ cond b (x.page ∷ leaves_in xs) (leaves_in xs) ++ leaves_in ys =
    elim [
      | true ↦ ap (λ ps. x.page ∷ ps) (leaves_in-append xs ys)
      | false ↦ leaves_in-append xs ys
    ] in
    by (is_leaf x)

pub roots_in-append : (xs ys : List Visit) → roots_in (xs ++ ys) ≡ roots_in xs ++ roots_in ys
roots_in-append [] ys = refl
roots_in-append (x ∷ xs) ys =
    let by : (b : Bool) → cond b (roots_in (xs ++ ys)) (x.page ∷ roots_in (xs ++ ys)) ≡ cond b (roots_in xs) (x.page ∷ roots_in xs) ++ roots_in ys =
    elim [
      | true ↦ roots_in-append xs ys
      | false ↦ ap (λ ps. x.page ∷ ps) (roots_in-append xs ys)
    ] in
    by (is_leaf x)

leaves_in-leaves : (from : PageId) (i : ℕ) (ps : List PageId) → leaves_in (leaf_visits_of from i ps) ≡ ps
leaves_in-leaves from i [] = refl
leaves_in-leaves from i (p ∷ ps) = ap (λ qs. p ∷ qs) (leaves_in-leaves from (i + 1) ps)

roots_in-leaves : (from : PageId) (i : ℕ) (ps : List PageId) → roots_in (leaf_visits_of from i ps) ≡ []
roots_in-leaves from i [] = refl
roots_in-leaves from i (p ∷ ps) = roots_in-leaves from (i + 1) ps

pub leaves_in-visits : (at : SlotsAt) (from : PageId) (roots leaves : List PageId) → Chain at roots leaves → leaves_in (visits_of from roots leaves) ≡ leaves
leaves_in-visits at from [] leaves c = sym c
leaves_in-visits at from (r ∷ rs) leaves c =
    leaves_in-append (leaf_visits_of r 1 (take 1000 leaves)) (visits_of r rs (drop 1000 leaves))
    ∙ (λ i. leaves_in-leaves r 1 (take 1000 leaves) i ++ leaves_in-visits at r rs (drop 1000 leaves) c.1 i) ∙ take-append-drop 1000 leaves

pub roots_in-visits : (from : PageId) (roots leaves : List PageId) → roots_in (visits_of from roots leaves) ≡ roots
roots_in-visits from [] leaves = refl
roots_in-visits from (r ∷ rs) leaves =
    ap (λ ps. r ∷ ps) (roots_in-append (leaf_visits_of r 1 (take 1000 leaves)) (visits_of r rs (drop 1000 leaves))
    ∙ (λ i. roots_in-leaves r 1 (take 1000 leaves) i ++ roots_in-visits r rs (drop 1000 leaves) i))

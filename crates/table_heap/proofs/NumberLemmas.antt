-- The edits of a plan speak only of pages that it claims.
use Rattle.std.proofs.Common.{false, ℕ, zero, suc, ◌+◌, ◌-◌, ◌<◌, List, [], ◌∷◌, ◌++◌, length, get_or, map, sym, subst, max, inl, inr}
use Rattle.std.specs.Prelude.{Option, None, Some}
use Rattle.std.specs.List.{All}
use Rattle.std.specs.Option.{option_to_list}
use Rattle.std.proofs.lemmas.Bool.{cases_lt}
use Rattle.std.proofs.lemmas.List.{get_or_past}
use Rattle.std.proofs.lemmas.List.Elements.{All-nil, All-cons, All-head, All-tail, All-get_or, All-append}
use Rattle.page_base.specs.declared.numbers.PageId.{PageId}
use Rattle.page_fmt.specs.Seen.{Looked, look}
use Rattle.table_walk.specs.declared.plan.Edit.{Edit}
use Rattle.table_walk.specs.declared.plan.Spot.{Spot}
use Rattle.table_walk.specs.declared.plan.Spot.TheVariants.{Old, New}
use Rattle.table_walk.specs.declared.visit.Visit.{Visit}
use Rattle.table_walk.specs.Differences.{ArePlain}
use Rattle.table_walk.specs.Plans.{SpotBelow, NameBelow, IsBelow}
use Rattle.table_heap.specs.declared.growing.RootPage.{RootPage}
use Rattle.table_heap.specs.declared.growing.Growth.{Growth}
use Rattle.table_heap.specs.Emission.{read_pages, read_slots, leaf_spots, Makes, MakesAll, last_or, IsPlanned}
use Rattle.table_heap.specs.Growth.{IsChain, Begins, front_edits, name_edits, root_edits, leaf_claims, root_claims, pages_in}
use Rattle.table_heap.specs.Shape.{roots_in}
use Rattle.table_heap.proofs.GrowLemmas.{numbered_all}

-- TWO LISTS

all_left : {X : Type 0} (P : X → Type 0) (xs ys : List X) → All P (xs ++ ys) → All P xs
all_left P [] ys a = All-nil P
all_left P (x ∷ xs) ys a = All-cons P x xs (All-head P x (xs ++ ys) a) (all_left P xs ys (All-tail P x (xs ++ ys) a))

all_right : {X : Type 0} (P : X → Type 0) (xs ys : List X) → All P (xs ++ ys) → All P ys
all_right P [] ys a = a
all_right P (x ∷ xs) ys a = all_right P xs ys (All-tail P x (xs ++ ys) a)

one_of : {X : Type 0} (P : X → Type 0) (xs : List X) (i : ℕ) (d : X) → All P xs → P d → P (get_or xs i d)
one_of P xs i d a h = elim (cases_lt i (length xs)) [
  | inl lt ↦ All-get_or P xs i d lt a
  | inr past ↦ subst P (sym (get_or_past xs i d past)) h
]

module _ (n : ℕ) where
  abbrev Below : ℕ → Type 0
  Below i = i < n

  -- THE EDITS OF A LEAF

  plain_below : (spot : Spot) (es : List Edit) → SpotBelow n spot → ArePlain spot es → All (IsBelow n) es
  plain_below spot [] b a = All-nil (IsBelow n)
  plain_below spot (e ∷ es) b a =
      All-cons (IsBelow n) e es (subst (SpotBelow n) (sym a.0.0) b, subst (NameBelow n) (sym a.0.1) tt) (plain_below spot es b a.1)

  -- THE EDITS OF A ROOT PAGE

  front_below : (spot : Spot) (count : ℕ) (next : Option ℕ) → SpotBelow n spot → NameBelow n next → All (IsBelow n) (front_edits spot count next)
  front_below spot count (Some j) b m = All-cons (IsBelow n) (record { spot = spot; slot = 0; names = Some j; bytes = []; of_row = false }) [] (b, m) (All-nil (IsBelow n))
  front_below spot zero None b m = All-cons (IsBelow n) (record { spot = spot; slot = 0; names = None; bytes = 0 ∷ 0 ∷ 0 ∷ 0 ∷ 0 ∷ []; of_row = false }) [] (b, tt) (All-nil (IsBelow n))
  front_below spot (suc k) None b m = All-nil (IsBelow n)

  names_below : (spot : Spot) (slot : ℕ) (is : List ℕ) → SpotBelow n spot → All Below is → All (IsBelow n) (name_edits spot slot is)
  names_below spot slot [] b a = All-nil (IsBelow n)
  names_below spot slot (i ∷ is) b a =
      All-cons (IsBelow n) (record { spot = spot; slot = slot; names = Some i; bytes = []; of_row = false }) (name_edits spot (slot + 1) is) (b, All-head Below i is a) (names_below spot (slot + 1) is b (All-tail Below i is a))

  record RootBelow (r : RootPage) : Type 0 where
    spot : SpotBelow n r.spot
    next : NameBelow n r.next
    names : All Below r.names

  root_below : (r : RootPage) → RootBelow r → All (IsBelow n) (root_edits r)
  root_below r b =
      All-append (IsBelow n) (front_edits r.spot r.slots r.next) (name_edits r.spot (max r.slots 1) r.names) (front_below r.spot r.slots r.next b.spot b.next) (names_below r.spot (max r.slots 1) r.names b.spot b.names)

  chain_below : (r : RootPage) (rest : List RootPage) → SpotBelow n r.spot → IsChain (r ∷ rest) → All Below (leaf_claims (r ∷ rest)) → All Below (root_claims (r ∷ rest)) → All RootBelow (r ∷ rest)
  chain_below r [] s c l k = All-cons RootBelow r [] (record { spot = s; next = subst (NameBelow n) (sym c.0) tt; names = all_left Below r.names [] l }) (All-nil RootBelow)
  chain_below r (t ∷ rest) s c l k =
      let mine : All Below (c.0 ∷ root_claims (t ∷ rest)) = subst (λ o. All Below (option_to_list o ++ root_claims (t ∷ rest))) c.1 k in
      let lt : c.0 < n = All-head Below c.0 (root_claims (t ∷ rest)) mine in
      All-cons RootBelow r (t ∷ rest)
      (record { spot = s; next = subst (NameBelow n) (sym c.1) lt; names = all_left Below r.names (leaf_claims (t ∷ rest)) l })
      (chain_below t rest (subst (SpotBelow n) (sym c.2) lt) c.5 (all_right Below r.names (leaf_claims (t ∷ rest)) l) (All-tail Below c.0 (root_claims (t ∷ rest)) mine))

  roots_below : (page : PageId) (count : ℕ) (rs : List RootPage) → Begins (Old page) count rs → IsChain rs → All Below (leaf_claims rs) → All Below (root_claims rs) → All RootBelow rs
  roots_below page count [] b c l k = absurd b
  roots_below page count (r ∷ rest) b c l k = chain_below r rest (subst (SpotBelow n) (sym b.0) tt) c l k

  -- ALL PAGES

  news_below : (claims : List ℕ) → All Below claims → All (SpotBelow n) (map New claims)
  news_below [] a = All-nil (SpotBelow n)
  news_below (i ∷ is) a = All-cons (SpotBelow n) (New i) (map New is) (All-head Below i is a) (news_below is (All-tail Below i is a))

  spots_below : (pages : List PageId) (claims : List ℕ) → All Below claims → All (SpotBelow n) (leaf_spots pages claims)
  spots_below [] claims a = news_below claims a
  spots_below (p ∷ ps) claims a = All-cons (SpotBelow n) (Old p) (leaf_spots ps claims) tt (spots_below ps claims a)

  module _ (spots : List Spot) (olds news : List (List (List ℕ))) (roots : List RootPage) (s : Spot) (r : RootPage) (are_spots : All (SpotBelow n) spots) (are_roots : All RootBelow roots) (is_spot : SpotBelow n s) (is_root : RootBelow r) where
    page_below : (i : ℕ) (es : List Edit) → Makes spots olds news roots i es → All (IsBelow n) es
    page_below i es m = elim (cases_lt i (length news)) [
      | inl lt ↦ plain_below (get_or spots i s) es (one_of (SpotBelow n) spots i s are_spots is_spot) (m.leaf lt s).are
      | inr ge ↦ subst (All (IsBelow n)) (sym (m.root ge r)) (root_below (get_or roots (i - length news) r) (one_of RootBelow roots (i - length news) r are_roots is_root))
    ]

    pages_below : (is : List ℕ) (es : List Edit) → MakesAll spots olds news roots is es → All (IsBelow n) es
    pages_below [] es m = subst (All (IsBelow n)) (sym m) (All-nil (IsBelow n))
    pages_below (i ∷ is) es m = subst (All (IsBelow n)) (sym m.4) (All-append (IsBelow n) m.0 m.1 (page_below i m.0 m.2) (pages_below is m.1 m.3))

pub numbers_below : (seen : List Looked) (root : PageId) (done : List Visit) (places : List ℕ) (news : List (List (List ℕ))) (n : ℕ) (edits : List Edit) → IsPlanned seen root done places news n edits → All (IsBelow n) edits
numbers_below seen root done places news n edits p =
    let g : Growth = p.growth in
    let some : Looked = record { page = root; slots = [] } in
    let all : All (λ i. i < n) (g.leaves ++ root_claims (pages_in g)) = subst (λ k. All (λ i. i < k) (g.leaves ++ root_claims (pages_in g))) p.claims (numbered_all g.claims (g.leaves ++ root_claims (pages_in g)) p.grows.numbered) in
    let leaves : All (λ i. i < n) g.leaves = all_left (λ i. i < n) g.leaves (root_claims (pages_in g)) all in
    let roots : All (RootBelow n) (pages_in g) =
    roots_below n (last_or root (roots_in done)) (length (look seen (last_or root (roots_in done)))) (pages_in g) p.grows.begins p.grows.chain (subst (All (λ i. i < n)) (sym p.grows.leaves) leaves) (all_right (λ i. i < n) g.leaves (root_claims (pages_in g)) all) in
    pages_below n (leaf_spots (read_pages seen some places) g.leaves) (read_slots seen some places) news (pages_in g) (Old root) g.last (spots_below n (read_pages seen some places) g.leaves leaves) roots tt
    (All-head (RootBelow n) g.last [] (all_right (RootBelow n) g.full (g.last ∷ []) roots)) p.order edits (p.makes some)

-- The chain of root pages after they name more leaves.
use Rattle.std.proofs.Common.{refl, ◌≡◌, ℕ, suc, ◌+◌, ◌*◌, ◌≤◌, List, [], ◌∷◌, ◌++◌, length, map, take, drop, max, ap, sym, ◌∙◌, subst, arith, true, None, Some, append_assoc, length-append, length-take}
use Rattle.std.specs.List.{All}
use Rattle.std.specs.Option.{option_to_list}
use Rattle.std.proofs.lemmas.List.{append-nil, take_all, drop_all, take-append-drop, take-append-le, drop-append-le, take_at, drop_at, drop-drop}
use Rattle.std.proofs.lemmas.List.Elements.{All-head, All-tail}
use Rattle.page_base.specs.declared.numbers.PageId.{PageId}
use Rattle.page_fmt.specs.Seen.{SlotsAt}
use Rattle.table_walk.specs.Addresses.{address, page_at, names_none, IsTarget}
use Rattle.table_walk.specs.Plans.{place}
use Rattle.table_walk.proofs.AddressLemmas.{page_at-address, zeros_name_none}
use Rattle.table_heap.specs.Growth.{count_of, slot_0, root_made, IsChain, leaf_claims, root_claims, AreFollowed}
use Rattle.table_heap.specs.declared.growing.RootPage.{RootPage}
use Rattle.table_heap.specs.Planning.{AreBehind}
use Rattle.table_heap.specs.Shape.{Name, IsRootPage, Chain, times}
use Rattle.table_heap.proofs.GrowLemmas.{count_append, count_here}
use Rattle.table_heap.proofs.ShapeLemmas.{one_here}

Name_append : (xs ys : List (List ℕ)) (ps qs : List PageId) → Name xs ps → Name ys qs → Name (xs ++ ys) (ps ++ qs)
Name_append [] ys [] qs n m = m
Name_append [] ys (p ∷ ps) qs n m = absurd n
Name_append (x ∷ xs) ys [] qs n m = absurd n
Name_append (x ∷ xs) ys (p ∷ ps) qs n m = (n.0, Name_append xs ys ps qs n.1 m)

-- what a root page named before: nothing on a blank page
abbrev pub NamedBefore : List (List ℕ) → List PageId → Type 0
NamedBefore [] olds = olds ≡ []
NamedBefore (x ∷ xs) olds = (names_none x ≡ true) × Name xs olds

pub named_before : (slots : List (List ℕ)) (olds : List PageId) → IsRootPage slots olds [] → NamedBefore slots olds
named_before [] olds p = absurd p
named_before (x ∷ xs) olds p = p

-- the pages of these claims may be named
abbrev pub AreTargets : (ℕ → PageId) → List ℕ → Type 0
AreTargets claimed claims = (i : ℕ) → 1 ≤ count_of i claims → IsTarget (claimed i)

targets_front : (claimed : ℕ → PageId) (xs ys : List ℕ) → AreTargets claimed (xs ++ ys) → AreTargets claimed xs
targets_front claimed xs ys t i h = t i (omega (arith, count_append i xs ys))

targets_back : (claimed : ℕ → PageId) (xs ys : List ℕ) → AreTargets claimed (xs ++ ys) → AreTargets claimed ys
targets_back claimed xs ys t i h = t i (omega (arith, count_append i xs ys))

module _ (claimed : ℕ → PageId) where
  target_head : (i : ℕ) (is : List ℕ) → AreTargets claimed (i ∷ is) → IsTarget (claimed i)
  target_head i is t = t i (omega (arith, count_here i i (count_of i is) refl))

  target_tail : (i : ℕ) (is : List ℕ) → AreTargets claimed (i ∷ is) → AreTargets claimed is
  target_tail i is t j h = t j (omega arith)

  names_claimed : (is : List ℕ) → AreTargets claimed is → Name (map (λ i. address (claimed i)) is) (map claimed is)
  names_claimed [] t = tt
  names_claimed (i ∷ is) t = (page_at-address (claimed i) (target_head i is t), names_claimed is (target_tail i is t))

  names_all : (old : List (List ℕ)) (olds : List PageId) (is : List ℕ) → AreTargets claimed is → NamedBefore old olds → Name (drop 1 old ++ map (λ i. address (claimed i)) is) (olds ++ map claimed is)
  names_all [] olds is t n = subst (λ ps. Name (map (λ i. address (claimed i)) is) (ps ++ map claimed is)) (sym n) (names_claimed is t)
  names_all (x ∷ xs) olds is t n = Name_append xs (map (λ i. address (claimed i)) is) olds (map claimed is) n.1 (names_claimed is t)

  -- the last root page
  made_last : (old : List (List ℕ)) (olds : List PageId) (r : RootPage) → AreTargets claimed r.names → NamedBefore old olds → r.next ≡ None → IsRootPage (root_made claimed old r) (olds ++ map claimed r.names) []
  made_last old olds r t n e = (subst (λ o. names_none (slot_0 claimed o old) ≡ true) (sym e) (slot old n), names_all old olds r.names t n)
    where
      slot : (old : List (List ℕ)) → NamedBefore old olds → names_none (slot_0 claimed None old) ≡ true
      slot [] n = zeros_name_none
      slot (x ∷ xs) n = n.0

  -- and one before another
  made_full : (old : List (List ℕ)) (olds : List PageId) (r : RootPage) (j : ℕ) (rest : List PageId) → AreTargets claimed r.names → IsTarget (claimed j) → NamedBefore old olds → r.next ≡ Some j → length (olds ++ map claimed r.names) ≡ 1000
      → IsRootPage (root_made claimed old r) (olds ++ map claimed r.names) (claimed j ∷ rest)
  made_full old olds r j rest t u n e many = ((subst (λ o. page_at (slot_0 claimed o old) ≡ Some (claimed j)) (sym e) (page_at-address (claimed j) u), many), names_all old olds r.names t n)

  map_append : (xs ys : List ℕ) → map claimed (xs ++ ys) ≡ map claimed xs ++ map claimed ys
  map_append [] ys = refl
  map_append (x ∷ xs) ys = ap (λ ps. claimed x ∷ ps) (map_append xs ys)

  map_length : (xs : List ℕ) → length (map claimed xs) ≡ length xs
  map_length [] = refl
  map_length (x ∷ xs) = ap (λ n. suc n) (map_length xs)

  -- the pages that a plan changes, from one on that names `olds` already
  pub chain_made : (at other : SlotsAt) (r : RootPage) (rest : List RootPage) (olds : List PageId) → NamedBefore (at (place claimed r.spot)) olds → 1 + length olds ≡ max r.slots 1 → IsChain (r ∷ rest)
      → AreTargets claimed (leaf_claims (r ∷ rest)) → AreTargets claimed (root_claims (r ∷ rest)) → ((j : ℕ) → 1 ≤ count_of j (root_claims (r ∷ rest)) → at (claimed j) ≡ [])
      → All (λ q. other (place claimed q.spot) ≡ root_made claimed (at (place claimed q.spot)) q) (r ∷ rest)
      → Chain other (place claimed r.spot ∷ map claimed (root_claims (r ∷ rest))) (olds ++ map claimed (leaf_claims (r ∷ rest)))
  chain_made at other r [] olds n has c tl tr blank made =
      let names : List PageId = olds ++ map claimed r.names in
      let all : olds ++ map claimed (r.names ++ []) ≡ names = ap (λ is. olds ++ map claimed is) (append-nil r.names) in
      let none : option_to_list r.next ++ [] ≡ [] = ap (λ o. option_to_list o ++ []) c.0 in
      let short : length (olds ++ map claimed r.names) ≤ 1000 = omega (arith, has, c.1, length-append olds (map claimed r.names), map_length r.names) in
      let page : IsRootPage (other (place claimed r.spot)) (olds ++ map claimed r.names) [] =
      subst (λ s. IsRootPage s (olds ++ map claimed r.names) []) (sym (All-head (λ (q : RootPage). other (place claimed q.spot) ≡ root_made claimed (at (place claimed q.spot)) q) r [] made))
      (made_last (at (place claimed r.spot)) olds r (targets_front claimed r.names [] tl) n c.0) in
      let whole : Chain other (place claimed r.spot ∷ []) names = (subst (λ ps. IsRootPage (other (place claimed r.spot)) ps []) (sym (take_all 1000 names short)) page, drop_all 1000 names short) in
      subst (λ ps. Chain other (place claimed r.spot ∷ map claimed (root_claims (r ∷ []))) ps) (sym all) (subst (λ js. Chain other (place claimed r.spot ∷ map claimed js) names) (sym none) whole)
  chain_made at other r (s ∷ rest) olds n has c tl tr blank made =
      let j : ℕ = c.0 in
      let first : List PageId = olds ++ map claimed r.names in
      let later : List PageId = map claimed (leaf_claims (s ∷ rest)) in
      let all : olds ++ map claimed (r.names ++ leaf_claims (s ∷ rest)) ≡ first ++ later = ap (λ ps. olds ++ ps) (map_append r.names (leaf_claims (s ∷ rest))) ∙ sym (append_assoc olds (map claimed r.names) later) in
      let roots : root_claims (r ∷ s ∷ rest) ≡ j ∷ root_claims (s ∷ rest) = ap (λ o. option_to_list o ++ root_claims (s ∷ rest)) c.1 in
      let is_new : place claimed s.spot ≡ claimed j = ap (place claimed) c.2 in
      let tr2 : AreTargets claimed (j ∷ root_claims (s ∷ rest)) = subst (AreTargets claimed) roots tr in
      let empty : at (place claimed s.spot) ≡ [] = ap at is_new ∙ blank j (subst (λ js. 1 ≤ count_of j js) (sym roots) (omega (arith, count_here j j (count_of j (root_claims (s ∷ rest))) refl))) in
      let many : length (olds ++ map claimed r.names) ≡ 1000 = omega (arith, has, c.4, length-append olds (map claimed r.names), map_length r.names) in
      let P : RootPage → Type 0 = λ (q : RootPage). other (place claimed q.spot) ≡ root_made claimed (at (place claimed q.spot)) q in
      let page : IsRootPage (other (place claimed r.spot)) first (claimed j ∷ map claimed (root_claims (s ∷ rest))) =
      subst (λ t. IsRootPage t first (claimed j ∷ map claimed (root_claims (s ∷ rest)))) (sym (All-head P r (s ∷ rest) made))
      (made_full (at (place claimed r.spot)) olds r j (map claimed (root_claims (s ∷ rest))) (targets_front claimed r.names (leaf_claims (s ∷ rest)) tl) (target_head j (root_claims (s ∷ rest)) tr2) n c.1 many) in
      let tail : Chain other (place claimed s.spot ∷ map claimed (root_claims (s ∷ rest))) later =
      chain_made at other s rest [] (subst (λ t. NamedBefore t []) (sym empty) refl) (omega (arith, c.3)) c.5 (targets_back claimed r.names (leaf_claims (s ∷ rest)) tl) (target_tail j (root_claims (s ∷ rest)) tr2)
      (λ i h. blank i (subst (λ js. 1 ≤ count_of i js) (sym roots) (omega arith))) (All-tail P r (s ∷ rest) made) in
      let whole : Chain other (place claimed r.spot ∷ claimed j ∷ map claimed (root_claims (s ∷ rest))) (first ++ later) = (
        subst (λ ps. IsRootPage (other (place claimed r.spot)) ps (claimed j ∷ map claimed (root_claims (s ∷ rest)))) (sym (take_at first later 1000 many)) page,
        subst (Chain other (claimed j ∷ map claimed (root_claims (s ∷ rest)))) (sym (drop_at first later 1000 many)) (subst (λ q. Chain other (q ∷ map claimed (root_claims (s ∷ rest))) later) is_new tail),
      ) in
      subst (λ ps. Chain other (place claimed r.spot ∷ map claimed (root_claims (r ∷ s ∷ rest))) ps) (sym all) (subst (λ js. Chain other (place claimed r.spot ∷ map claimed js) (first ++ later)) (sym roots) whole)

  first_claimed : (xs : List ℕ) (c : ℕ) → take 1 xs ≡ c ∷ [] → take 1 (map claimed xs) ≡ claimed c ∷ []
  first_claimed [] c e = absurd (omega (arith, ap length e))
  first_claimed (x ∷ xs) c e = ap (map claimed) e

  -- the root pages that it claims are behind the leaves that these name first
  pub behind_made : (r : RootPage) (rest : List RootPage) (olds : List PageId) → 1 + length olds ≡ max r.slots 1 → IsChain (r ∷ rest) → AreFollowed (r ∷ rest) []
      → AreBehind claimed (drop 1000 (olds ++ map claimed (leaf_claims (r ∷ rest)))) (root_claims (r ∷ rest))
  behind_made r [] olds has c f =
      let none : option_to_list r.next ++ [] ≡ [] = ap (λ o. option_to_list o ++ []) c.0 in
      subst (AreBehind claimed (drop 1000 (olds ++ map claimed (leaf_claims (r ∷ []))))) (sym none) tt
  behind_made r (s ∷ rest) olds has c f =
      let first : List PageId = olds ++ map claimed r.names in
      let later : List PageId = map claimed (leaf_claims (s ∷ rest)) in
      let all : olds ++ map claimed (r.names ++ leaf_claims (s ∷ rest)) ≡ first ++ later = ap (λ ps. olds ++ ps) (map_append r.names (leaf_claims (s ∷ rest))) ∙ sym (append_assoc olds (map claimed r.names) later) in
      let roots : root_claims (r ∷ s ∷ rest) ≡ (f.0 + 1) ∷ root_claims (s ∷ rest) = ap (λ o. option_to_list o ++ root_claims (s ∷ rest)) f.1 in
      let many : length (olds ++ map claimed r.names) ≡ 1000 = omega (arith, has, c.4, length-append olds (map claimed r.names), map_length r.names) in
      let tail : AreBehind claimed (drop 1000 later) (root_claims (s ∷ rest)) = behind_made s rest [] (omega (arith, c.3)) c.5 f.3 in
      let here : AreBehind claimed later ((f.0 + 1) ∷ root_claims (s ∷ rest)) =
      (f.0, refl, first_claimed (leaf_claims (s ∷ rest)) f.0 (subst (λ is. take 1 is ≡ f.0 ∷ []) (append-nil (leaf_claims (s ∷ rest))) f.2), tail) in
      subst (λ ls. AreBehind claimed ls (root_claims (r ∷ s ∷ rest))) (sym (ap (drop 1000) all ∙ drop_at first later 1000 many)) (subst (AreBehind claimed later) (sym roots) here)

-- the pages before stay as they are
pub last_leaves : (at : SlotsAt) (last : PageId) (leaves : List PageId) → Chain at (last ∷ []) leaves → IsRootPage (at last) leaves []
last_leaves at last leaves c = subst (λ ps. IsRootPage (at last) ps []) (sym (append-nil (take 1000 leaves)) ∙ ap (λ ps. take 1000 leaves ++ ps) (sym c.1) ∙ take-append-drop 1000 leaves) c.0

full_page : (s : List (List ℕ)) (ls : List PageId) (q : PageId) (rs : List PageId) → IsRootPage s ls (q ∷ rs) → length ls ≡ 1000
full_page [] ls q rs p = absurd p
full_page (x ∷ xs) ls q rs p = p.0.1

next_other : (s : List (List ℕ)) (ls : List PageId) (front : List PageId) (last : PageId) (rs : List PageId) → IsRootPage s ls (front ++ last ∷ []) → IsRootPage s ls (front ++ last ∷ rs)
next_other [] ls front last rs p = absurd p
next_other (x ∷ xs) ls [] last rs p = p
next_other (x ∷ xs) ls (f ∷ fs) last rs p = p

-- a root page before the last one is full
full_front : (s : List (List ℕ)) (ls : List PageId) (front : List PageId) (last : PageId) → IsRootPage s ls (front ++ last ∷ []) → length ls ≡ 1000
full_front s ls [] last p = full_page s ls last [] p
full_front s ls (f ∷ fs) last p = full_page s ls f (fs ++ last ∷ []) p

pub chain_grows : (at other : SlotsAt) (front : List PageId) (last : PageId) (rs leaves more : List PageId) → Chain at (front ++ last ∷ []) leaves → ((p : PageId) → 1 ≤ times p front → at p ≡ other p)
    → ((olds : List PageId) → IsRootPage (at last) olds [] → Chain other (last ∷ rs) (olds ++ more)) → Chain other (front ++ last ∷ rs) (leaves ++ more)
chain_grows at other [] last rs leaves more c same grows = grows leaves (last_leaves at last leaves c)
chain_grows at other (f ∷ fs) last rs leaves more c same grows =
    let many : length (take 1000 leaves) ≡ 1000 = full_front (at f) (take 1000 leaves) fs last c.0 in
    let long : 1000 ≤ length leaves = omega (arith, length-take 1000 leaves) in (
      subst (λ ps. IsRootPage (other f) ps (fs ++ last ∷ rs)) (sym (take-append-le 1000 leaves more long))
          (subst (λ s. IsRootPage s (take 1000 leaves) (fs ++ last ∷ rs)) (same f (omega (arith, one_here f f (times f fs) refl))) (next_other (at f) (take 1000 leaves) fs last rs c.0)),
      subst (Chain other (fs ++ last ∷ rs)) (sym (drop-append-le 1000 leaves more long)) (chain_grows at other fs last rs (drop 1000 leaves) more c.1 (λ p h. same p (omega arith)) grows),
    )

-- and the leaves that those name stand before the others
pub behind_grows : (claimed : ℕ → PageId) (at : SlotsAt) (front : List PageId) (last : PageId) (rs : List ℕ) (leaves more : List PageId) → Chain at (front ++ last ∷ []) leaves
    → ((olds : List PageId) → IsRootPage (at last) olds [] → AreBehind claimed (drop 1000 (olds ++ more)) rs) → AreBehind claimed (drop (1000 * length (front ++ last ∷ [])) (leaves ++ more)) rs
behind_grows claimed at [] last rs leaves more c grows = grows leaves (last_leaves at last leaves c)
behind_grows claimed at (f ∷ fs) last rs leaves more c grows =
    let many : length (take 1000 leaves) ≡ 1000 = full_front (at f) (take 1000 leaves) fs last c.0 in
    let long : 1000 ≤ length leaves = omega (arith, length-take 1000 leaves) in
    let k : ℕ = length (fs ++ last ∷ []) in
    let whole : 1000 + 1000 * k ≡ 1000 * suc k = omega arith in
    let cut : drop (1000 * k) (drop 1000 leaves ++ more) ≡ drop (1000 * suc k) (leaves ++ more) =
    ap (drop (1000 * k)) (sym (drop-append-le 1000 leaves more long)) ∙ drop-drop (1000 * k) 1000 (leaves ++ more) ∙ ap (λ m. drop m (leaves ++ more)) whole in
    subst (λ ls. AreBehind claimed ls rs) cut (behind_grows claimed at fs last rs (drop 1000 leaves) more c.1 grows)

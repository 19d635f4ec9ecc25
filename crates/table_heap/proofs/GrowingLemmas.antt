-- What is claimed stays in order as leaves and root pages are claimed.
use Rattle.std.proofs.Common.{false, inl, inr, refl, ◌≡◌, ℕ, suc, ◌+◌, ◌-◌, ◌<◌, ◌≤◌, List, [], ◌∷◌, ◌++◌, length, get_or, take, ap, sym, ◌∙◌, subst, arith, append_assoc, length-append}
use Rattle.std.specs.Prelude.{None, Some}
use Rattle.std.specs.List.{All, AllPairs}
use Rattle.std.proofs.lemmas.Bool.{cases_eq}
use Rattle.std.proofs.lemmas.List.Quantifiers.{all_pairs_push}
use Rattle.std.specs.Option.{option_to_list}
use Rattle.std.proofs.lemmas.List.{append-nil, take_more, length-take-le}
use Rattle.std.proofs.lemmas.List.Elements.{All-nil, All-cons}
use Rattle.table_walk.specs.declared.plan.Edit.{Edit}
use Rattle.table_walk.specs.declared.plan.Spot.{Spot}
use Rattle.table_walk.specs.declared.plan.Spot.TheVariants.{New}
use Rattle.table_heap.specs.declared.growing.Growth.{Growth}
use Rattle.table_heap.specs.declared.growing.RootPage.{RootPage}
use Rattle.table_heap.specs.Growth.{count_of, IsNumbering, slots_made, IsChain, leaf_claims, root_claims, AreFollowed, name_edits, pages_in, Begins, IsGrowing}
use Rattle.table_heap.proofs.GrowLemmas.{count_append, count_here, count_other, count_at, numbered_below, numbering_more}

-- CLAIMS

numbering_same : (n : ℕ) (xs ys : List ℕ) → ((i : ℕ) → count_of i ys ≡ count_of i xs) → IsNumbering n xs → IsNumbering n ys
numbering_same n xs ys same h = record { each = λ i lt. same i ∙ h.each i lt; below = λ i ge. same i ∙ h.below i ge }

leaf_claims_append : (rs ss : List RootPage) → leaf_claims (rs ++ ss) ≡ leaf_claims rs ++ leaf_claims ss
leaf_claims_append [] ss = refl
leaf_claims_append (r ∷ rs) ss = ap (λ is. r.names ++ is) (leaf_claims_append rs ss) ∙ sym (append_assoc r.names (leaf_claims rs) (leaf_claims ss))

root_claims_append : (rs ss : List RootPage) → root_claims (rs ++ ss) ≡ root_claims rs ++ root_claims ss
root_claims_append [] ss = refl
root_claims_append (r ∷ rs) ss = ap (λ is. option_to_list r.next ++ is) (root_claims_append rs ss) ∙ sym (append_assoc (option_to_list r.next) (root_claims rs) (root_claims ss))

-- THE CHAIN

chain_next : (full : List RootPage) (last : RootPage) → IsChain (full ++ last ∷ []) → last.next ≡ None
chain_next [] last c = c.0
chain_next (r ∷ []) last c = c.5.0
chain_next (r ∷ s ∷ rest) last c = chain_next (s ∷ rest) last c.5

-- the last page names more
chain_last : (full : List RootPage) (last made : RootPage) → made.spot ≡ last.spot → made.slots ≡ last.slots → made.next ≡ last.next → slots_made made ≤ 1001 → IsChain (full ++ last ∷ []) → IsChain (full ++ made ∷ [])
chain_last [] last made spot slots next short c = (next ∙ c.0, short)
chain_last (r ∷ []) last made spot slots next short c = (c.0, c.1, spot ∙ c.2, slots ∙ c.3, c.4, (next ∙ c.5.0, short))
chain_last (r ∷ s ∷ rest) last made spot slots next short c = (c.0, c.1, c.2, c.3, c.4, chain_last (s ∷ rest) last made spot slots next short c.5)

-- another page stands behind it
chain_more : (full : List RootPage) (last made new : RootPage) (j : ℕ) → made.spot ≡ last.spot → made.slots ≡ last.slots → made.next ≡ Some j → slots_made made ≡ 1001 → new.spot ≡ New j → new.slots ≡ 0 → new.next ≡ None → slots_made new ≤ 1001
    → IsChain (full ++ last ∷ []) → IsChain ((full ++ made ∷ []) ++ new ∷ [])
chain_more [] last made new j spot slots next many is_new empty none short c = (j, next, is_new, empty, many, (none, short))
chain_more (r ∷ []) last made new j spot slots next many is_new empty none short c = (c.0, c.1, spot ∙ c.2, slots ∙ c.3, c.4, (j, next, is_new, empty, many, (none, short)))
chain_more (r ∷ s ∷ rest) last made new j spot slots next many is_new empty none short c = (c.0, c.1, c.2, c.3, c.4, chain_more (s ∷ rest) last made new j spot slots next many is_new empty none short c.5)

begins_last : (spot : Spot) (count : ℕ) (full : List RootPage) (last made : RootPage) (more : List RootPage) → made.spot ≡ last.spot → made.slots ≡ last.slots → Begins spot count (full ++ last ∷ []) → Begins spot count (full ++ made ∷ more)
begins_last spot count [] last made more s k b = (s ∙ b.0, k ∙ b.1)
begins_last spot count (r ∷ rest) last made more s k b = b

pub chain_short : (rs : List RootPage) → IsChain rs → All (λ r. slots_made r ≤ 1001) rs
chain_short [] c = absurd c
chain_short (r ∷ []) c = All-cons (λ (q : RootPage). slots_made q ≤ 1001) r [] c.1 (All-nil (λ (q : RootPage). slots_made q ≤ 1001))
chain_short (r ∷ s ∷ rest) c = All-cons (λ (q : RootPage). slots_made q ≤ 1001) r (s ∷ rest) (omega (arith, c.4)) (chain_short (s ∷ rest) c.5)

-- ROOT PAGES BEHIND LEAVES

take_more_claims : (xs ys : List ℕ) (c : ℕ) → take 1 (xs ++ []) ≡ c ∷ [] → take 1 (xs ++ ys) ≡ c ∷ []
take_more_claims [] ys c e = absurd (omega (arith, ap length e))
take_more_claims (x ∷ xs) ys c e = e

-- a claim that is still to be used comes last
followed_claim : (rs : List RootPage) (ys : List ℕ) → AreFollowed rs [] → AreFollowed rs ys
followed_claim [] ys f = tt
followed_claim (r ∷ []) ys f = tt
followed_claim (r ∷ s ∷ rest) ys f = (f.0, f.1, take_more_claims (leaf_claims (s ∷ rest)) ys f.0 f.2, followed_claim (s ∷ rest) ys f.3)

claims_leaf : (full : List RootPage) (last made : RootPage) (leaf : ℕ) → made.names ≡ last.names ++ leaf ∷ [] → leaf_claims (full ++ last ∷ []) ++ leaf ∷ [] ≡ leaf_claims (full ++ made ∷ []) ++ []
claims_leaf [] last made leaf e = ap (λ is. is ++ leaf ∷ []) (append-nil last.names) ∙ sym e ∙ sym (append-nil made.names) ∙ sym (append-nil (made.names ++ []))
claims_leaf (r ∷ rs) last made leaf e =
    append_assoc r.names (leaf_claims (rs ++ last ∷ [])) (leaf ∷ []) ∙ ap (λ is. r.names ++ is) (claims_leaf rs last made leaf e) ∙ sym (append_assoc r.names (leaf_claims (rs ++ made ∷ [])) [])

-- the last page names the leaf that was still to be named
followed_leaf : (full : List RootPage) (last made : RootPage) (leaf : ℕ) → made.names ≡ last.names ++ leaf ∷ [] → AreFollowed (full ++ last ∷ []) (leaf ∷ []) → AreFollowed (full ++ made ∷ []) []
followed_leaf [] last made leaf e f = tt
followed_leaf (r ∷ []) last made leaf e f = (f.0, f.1, subst (λ is. take 1 is ≡ f.0 ∷ []) (claims_leaf [] last made leaf e) f.2, tt)
followed_leaf (r ∷ s ∷ rest) last made leaf e f = (f.0, f.1, subst (λ is. take 1 is ≡ f.0 ∷ []) (claims_leaf (s ∷ rest) last made leaf e) f.2, followed_leaf (s ∷ rest) last made leaf e f.3)

claims_root : (full : List RootPage) (last made new : RootPage) → made.names ≡ last.names → new.names ≡ [] → leaf_claims (full ++ last ∷ []) ≡ leaf_claims ((full ++ made ∷ []) ++ new ∷ [])
claims_root [] last made new names empty = λ k. sym names k ++ (sym empty k ++ [])
claims_root (r ∷ rs) last made new names empty = ap (λ is. r.names ++ is) (claims_root rs last made new names empty)

-- a page stands behind the last one, claimed right behind the leaf that is still to be named
followed_root : (full : List RootPage) (last made new : RootPage) (pending : List ℕ) (leaf : ℕ) → made.names ≡ last.names → made.next ≡ Some (leaf + 1) → new.names ≡ [] → take 1 pending ≡ leaf ∷ [] → AreFollowed (full ++ last ∷ []) pending
    → AreFollowed ((full ++ made ∷ []) ++ new ∷ []) pending
followed_root [] last made new pending leaf names next empty first f = (leaf, next, subst (λ (is : List ℕ). take 1 ((is ++ []) ++ pending) ≡ leaf ∷ []) (sym empty) first, tt)
followed_root (r ∷ []) last made new pending leaf names next empty first f =
    (f.0, f.1, subst (λ is. take 1 (is ++ pending) ≡ f.0 ∷ []) (claims_root [] last made new names empty) f.2, followed_root [] last made new pending leaf names next empty first tt)
followed_root (r ∷ s ∷ rest) last made new pending leaf names next empty first f =
    (f.0, f.1, subst (λ is. take 1 (is ++ pending) ≡ f.0 ∷ []) (claims_root (s ∷ rest) last made new names empty) f.2, followed_root (s ∷ rest) last made new pending leaf names next empty first f.3)

-- WHAT IS CLAIMED

-- a claim that is still to be used
pub growing_claim : (spot : Spot) (count n : ℕ) (g h : Growth) → IsGrowing spot count n [] g → h ≡ record g { claims = g.claims + 1 } → IsGrowing spot count n (g.claims ∷ []) h
growing_claim spot count n g h i e =
    let made : IsGrowing spot count n (g.claims ∷ []) (record g { claims = g.claims + 1 }) =
    record {
      chain = i.chain;
      begins = i.begins;
      leaves = i.leaves;
      many = i.many;
      numbered = numbering_more g.claims [] (g.leaves ++ root_claims (pages_in g)) (g.claims ∷ (g.leaves ++ root_claims (pages_in g))) i.numbered refl;
      room = i.room;
      ascend = i.ascend;
      above = λ p c here there. elim (cases_eq g.claims p) [
        | inl same ↦ omega (arith, same, numbered_below g.claims c (g.leaves ++ root_claims (pages_in g)) i.numbered (omega (arith, there, count_append c g.leaves (root_claims (pages_in g)))))
        | inr ne ↦ absurd (omega (arith, here, count_other g.claims p 0 ne))
      ];
      follow = followed_claim (pages_in g) (g.claims ∷ []) i.follow;
    } in
    subst (IsGrowing spot count n (g.claims ∷ [])) (sym e) made

-- the last root page names a leaf
pub growing_leaf : (spot : Spot) (count n leaf : ℕ) (g : Growth) (leaves names : List ℕ) → IsGrowing spot count n (leaf ∷ []) g → 0 < g.room → leaves ≡ g.leaves ++ leaf ∷ [] → names ≡ g.last.names ++ leaf ∷ []
    → IsGrowing spot count (n + 1) [] (record { claims = g.claims; leaves = leaves; full = g.full; last = record { spot = g.last.spot; slots = g.last.slots; names = names; next = g.last.next }; room = g.room - 1 })
growing_leaf spot count n leaf g leaves names i some is_leaves is_names =
    record {
      chain = chain_last g.full g.last made refl refl refl (omega (arith, long, i.room)) i.chain;
      begins = begins_last spot count g.full g.last made [] refl refl i.begins;
      leaves = claims_made;
      many = ap length is_leaves ∙ length-append g.leaves (leaf ∷ []) ∙ ap (λ k. k + 1) i.many;
      numbered = numbering_same g.claims (leaf ∷ (g.leaves ++ root_claims (g.full ++ g.last ∷ []))) (leaves ++ root_claims (g.full ++ made ∷ [])) same i.numbered;
      room = omega (arith, long, i.room);
      ascend = subst (AllPairs (λ j k. j < k)) (sym is_leaves) (all_pairs_push (λ j k. j < k) g.leaves leaf i.ascend (λ k d lt. i.above leaf (get_or g.leaves k d) (omega (arith, count_here leaf leaf 0 refl)) (count_at g.leaves k d lt)));
      above = λ p c here there. absurd (omega arith);
      follow = followed_leaf g.full g.last made leaf is_names i.follow;
    }
  where
    made : RootPage
    made = record { spot = g.last.spot; slots = g.last.slots; names = names; next = g.last.next }

    long : length names ≡ length g.last.names + 1
    long = ap length is_names ∙ length-append g.last.names (leaf ∷ [])

    claims_made : leaf_claims (g.full ++ record { spot = g.last.spot; slots = g.last.slots; names = names; next = g.last.next } ∷ []) ≡ leaves
    claims_made =
        leaf_claims_append g.full (record { spot = g.last.spot; slots = g.last.slots; names = names; next = g.last.next } ∷ []) ∙ ap (λ is. leaf_claims g.full ++ is) (append-nil names ∙ is_names)
        ∙ sym (append_assoc (leaf_claims g.full) g.last.names (leaf ∷ [])) ∙ ap (λ is. is ++ leaf ∷ []) (ap (λ is. leaf_claims g.full ++ is) (sym (append-nil g.last.names)) ∙ sym (leaf_claims_append g.full (g.last ∷ [])) ∙ i.leaves)
        ∙ sym is_leaves

    same : (k : ℕ) → count_of k (leaves ++ root_claims (g.full ++ record { spot = g.last.spot; slots = g.last.slots; names = names; next = g.last.next } ∷ [])) ≡ count_of k (leaf ∷ (g.leaves ++ root_claims (g.full ++ g.last ∷ [])))
    same k =
        let roots : count_of k (root_claims (g.full ++ record { spot = g.last.spot; slots = g.last.slots; names = names; next = g.last.next } ∷ [])) ≡ count_of k (root_claims (g.full ++ g.last ∷ [])) =
        ap (count_of k) (root_claims_append g.full (record { spot = g.last.spot; slots = g.last.slots; names = names; next = g.last.next } ∷ []) ∙ sym (root_claims_append g.full (g.last ∷ []))) in
        omega (arith, roots, count_append k leaves (root_claims (g.full ++ record { spot = g.last.spot; slots = g.last.slots; names = names; next = g.last.next } ∷ [])), ap (count_of k) is_leaves, count_append k g.leaves (leaf ∷ []), count_append k g.leaves (root_claims (g.full ++ g.last ∷ [])))

-- the last root page names the next one
pub growing_root : (spot : Spot) (count n : ℕ) (pending : List ℕ) (g : Growth) (claims : ℕ) (leaves : List ℕ) (full : List RootPage) (last : RootPage) (leaf : ℕ) → g.claims ≡ leaf + 1 → take 1 pending ≡ leaf ∷ [] → IsGrowing spot count n pending g → g.room ≡ 0 → claims ≡ g.claims + 1 → leaves ≡ g.leaves
    → full ≡ g.full ++ record g.last { next = Some g.claims } ∷ [] → last ≡ record { spot = New g.claims; slots = 0; names = []; next = None }
    → IsGrowing spot count n pending (record { claims = claims; leaves = leaves; full = full; last = last; room = 1000 })
growing_root spot count n pending g claims leaves full last leaf recent there i none is_claims is_leaves is_full is_last =
    let whole : IsGrowing spot count n pending (record { claims = g.claims + 1; leaves = g.leaves; full = g.full ++ made ∷ []; last = new; room = 1000 }) =
    record {
      chain = chain_more g.full g.last made new g.claims refl refl refl (omega (arith, none, i.room)) refl refl refl (omega arith) i.chain;
      begins = subst (Begins spot count) (sym (append_assoc g.full (made ∷ []) (new ∷ []))) (begins_last spot count g.full g.last made (new ∷ []) refl refl i.begins);
      leaves = claims_made;
      many = i.many;
      numbered = numbering_same (g.claims + 1) (g.claims ∷ (pending ++ (g.leaves ++ root_claims (g.full ++ g.last ∷ [])))) (pending ++ (g.leaves ++ root_claims ((g.full ++ made ∷ []) ++ new ∷ []))) same
          (numbering_more g.claims [] (pending ++ (g.leaves ++ root_claims (g.full ++ g.last ∷ []))) (g.claims ∷ (pending ++ (g.leaves ++ root_claims (g.full ++ g.last ∷ [])))) i.numbered refl);
      room = refl;
      ascend = i.ascend;
      above = i.above;
      follow = followed_root g.full g.last made new pending leaf refl (ap Some recent) refl there i.follow;
    } in
    subst (IsGrowing spot count n pending) (λ k. record { claims = sym is_claims k; leaves = sym is_leaves k; full = sym is_full k; last = sym is_last k; room = 1000 }) whole
  where
    made : RootPage
    made = record g.last { next = Some g.claims }

    new : RootPage
    new = record { spot = New g.claims; slots = 0; names = []; next = None }

    claims_made : leaf_claims ((g.full ++ record g.last { next = Some g.claims } ∷ []) ++ record { spot = New g.claims; slots = 0; names = []; next = None } ∷ []) ≡ g.leaves
    claims_made =
        leaf_claims_append (g.full ++ record g.last { next = Some g.claims } ∷ []) (record { spot = New g.claims; slots = 0; names = []; next = None } ∷ [])
        ∙ append-nil (leaf_claims (g.full ++ record g.last { next = Some g.claims } ∷ [])) ∙ leaf_claims_append g.full (record g.last { next = Some g.claims } ∷ []) ∙ sym (leaf_claims_append g.full (g.last ∷ [])) ∙ i.leaves

    roots : root_claims ((g.full ++ record g.last { next = Some g.claims } ∷ []) ++ record { spot = New g.claims; slots = 0; names = []; next = None } ∷ []) ≡ root_claims (g.full ++ g.last ∷ []) ++ g.claims ∷ []
    roots =
        root_claims_append (g.full ++ record g.last { next = Some g.claims } ∷ []) (record { spot = New g.claims; slots = 0; names = []; next = None } ∷ [])
        ∙ append-nil (root_claims (g.full ++ record g.last { next = Some g.claims } ∷ [])) ∙ root_claims_append g.full (record g.last { next = Some g.claims } ∷ [])
        ∙ ap (λ is. is ++ g.claims ∷ []) (sym (append-nil (root_claims g.full)) ∙ ap (λ o. root_claims g.full ++ (option_to_list o ++ [])) (sym (chain_next g.full g.last i.chain)) ∙ sym (root_claims_append g.full (g.last ∷ [])))

    same : (k : ℕ) → count_of k (pending ++ (g.leaves ++ root_claims ((g.full ++ record g.last { next = Some g.claims } ∷ []) ++ record { spot = New g.claims; slots = 0; names = []; next = None } ∷ []))) ≡ count_of k (g.claims ∷ (pending ++ (g.leaves ++ root_claims (g.full ++ g.last ∷ []))))
    same k =
        let more : count_of k (root_claims ((g.full ++ record g.last { next = Some g.claims } ∷ []) ++ record { spot = New g.claims; slots = 0; names = []; next = None } ∷ [])) ≡ count_of k (root_claims (g.full ++ g.last ∷ [])) + count_of k (g.claims ∷ []) =
        ap (count_of k) roots ∙ count_append k (root_claims (g.full ++ g.last ∷ [])) (g.claims ∷ []) in
        omega (
          arith,
          more,
          count_append k pending (g.leaves ++ root_claims ((g.full ++ record g.last { next = Some g.claims } ∷ []) ++ record { spot = New g.claims; slots = 0; names = []; next = None } ∷ [])),
          count_append k g.leaves (root_claims ((g.full ++ record g.last { next = Some g.claims } ∷ []) ++ record { spot = New g.claims; slots = 0; names = []; next = None } ∷ [])),
          count_append k pending (g.leaves ++ root_claims (g.full ++ g.last ∷ [])),
          count_append k g.leaves (root_claims (g.full ++ g.last ∷ [])),
        )

-- EDITS

name_edits_append : (spot : Spot) (slot : ℕ) (xs : List ℕ) (x : ℕ) → name_edits spot slot (xs ++ x ∷ []) ≡ name_edits spot slot xs ++ record { spot = spot; slot = slot + length xs; names = Some x; bytes = []; of_row = false } ∷ []
name_edits_append spot slot [] x = let at : slot ≡ slot + 0 = omega arith in λ i. record { spot = spot; slot = at i; names = Some x; bytes = []; of_row = false } ∷ []
name_edits_append spot slot (y ∷ ys) x =
    let at : slot + 1 + length ys ≡ slot + suc (length ys) = omega arith in
    ap (λ es. record { spot = spot; slot = slot; names = Some y; bytes = []; of_row = false } ∷ es) (name_edits_append spot (slot + 1) ys x ∙ (λ i. name_edits spot (slot + 1) ys ++ record { spot = spot; slot = at i; names = Some x; bytes = []; of_row = false } ∷ []))

-- one leaf more is named
pub names_more : (spot : Spot) (first : ℕ) (names : List ℕ) (i : ℕ) (before edits after : List Edit) (e : Edit) → edits ≡ before ++ name_edits spot first (take i names) → i < length names
    → e ≡ record { spot = spot; slot = first + i; names = Some (get_or names i 0); bytes = []; of_row = false } → after ≡ edits ++ e ∷ [] → after ≡ before ++ name_edits spot first (take (i + 1) names)
names_more spot first names i before edits after e so_far lt is more =
    let long : length (take i names) ≡ i = length-take-le i names (omega arith) in
    more ∙ (λ k. so_far k ++ is k ∷ []) ∙ append_assoc before (name_edits spot first (take i names)) (record { spot = spot; slot = first + i; names = Some (get_or names i 0); bytes = []; of_row = false } ∷ [])
    ∙ (λ k. before ++ (name_edits spot first (take i names) ++ record { spot = spot; slot = first + sym long k; names = Some (get_or names i 0); bytes = []; of_row = false } ∷ []))
    ∙ ap (λ es. before ++ es) (sym (name_edits_append spot first (take i names) (get_or names i 0)) ∙ ap (name_edits spot first) (sym (take_more names i 0 lt)))

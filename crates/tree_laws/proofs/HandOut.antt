-- Parts that go to claimed pages: each page has its part, and no other page changes.
use Rattle.std.proofs.Common.{◌≡◌, ◌≢◌, ◌<◌, ◌≤◌, ◌+◌, ◌-◌, ℕ, zero, suc, List, [], ◌∷◌, ◌++◌, length, refl, ap, sym, ◌∙◌, subst, arith, map}
use Rattle.std.specs.Prelude.{Option}
use Rattle.page_base.specs.declared.numbers.PageId.{PageId}
use Rattle.table_walk.specs.Addresses.{IsTarget}
use Rattle.tree_laws.specs.Keys.{Key}
use Rattle.tree_laws.specs.Puts.{claim, hand_out}
use Rattle.tree_laws.specs.Sheets.{Entry, Sheet, Stand, Grown}
use Rattle.tree_laws.proofs.Lists.{Each}
use Rattle.tree_laws.proofs.Times.{times, times-append, times_here, times_first, set_same, set_other}

-- so many claimed pages from one on
abbrev pub claimed_from : (ℕ → PageId) → ℕ → ℕ → List PageId
claimed_from claimed a zero = []
claimed_from claimed a (suc k) = claimed a ∷ claimed_from claimed (a + 1) k

pub claimed_more : (claimed : ℕ → PageId) (a k l : ℕ) → claimed_from claimed a (k + l) ≡ claimed_from claimed a k ++ claimed_from claimed (a + k) l
claimed_more claimed a zero l =
    let z : 0 + l ≡ l = omega arith in
    let e : a ≡ a + 0 = omega arith in
    ap (claimed_from claimed a) z ∙ ap (λ (b : ℕ). claimed_from claimed b l) e
claimed_more claimed a (suc k) l =
    let z : suc k + l ≡ suc (k + l) = omega arith in
    let e : (a + 1) + k ≡ a + suc k = omega arith in
    ap (claimed_from claimed a) z ∙ ap (λ (xs : List PageId). claimed a ∷ xs) (claimed_more claimed (a + 1) k l ∙ ap (λ (b : ℕ). claimed_from claimed (a + 1) k ++ claimed_from claimed b l) e)

-- how often a page is among the first of those, and among the others
pub times_claimed : (claimed : ℕ → PageId) (a k l : ℕ) (q : PageId) → times q (claimed_from claimed a (k + l)) ≡ times q (claimed_from claimed a k) + times q (claimed_from claimed (a + k) l)
times_claimed claimed a k l q = ap (times q) (claimed_more claimed a k l) ∙ times-append q (claimed_from claimed a k) (claimed_from claimed (a + k) l)

-- fewer of them
pub claimed_fewer : (claimed : ℕ → PageId) (a k r : ℕ) (q : PageId) → k ≤ r → times q (claimed_from claimed a k) ≤ times q (claimed_from claimed a r)
claimed_fewer claimed a k r q le =
    let sum : k + (r - k) ≡ r = omega arith in
    omega (arith, times_claimed claimed a k (r - k) q, ap (λ (n : ℕ). times q (claimed_from claimed a n)) sum)

pub targets_of : (claimed : ℕ → PageId) (es : List Entry) (a k : ℕ) → map (λ e. e.page) es ≡ claimed_from claimed a k → ((i : ℕ) → a ≤ i → i < a + k → IsTarget (claimed i)) → Each (λ e. IsTarget e.page) es
targets_of claimed [] a k e t = tt
targets_of claimed (x ∷ es) a zero e t = absurd (cc)
targets_of claimed (x ∷ es) a (suc k) e t =
    let here : x.page ≡ claimed a = cc in
    let rest : map (λ e. e.page) es ≡ claimed_from claimed (a + 1) k = cc in
    (subst IsTarget (sym here) (t a (omega arith) (omega arith)), targets_of claimed es (a + 1) k rest (λ i low high. t i (omega (arith, low)) (omega (arith, high))))

pub length_claimed : (claimed : ℕ → PageId) (es : List Entry) (a k : ℕ) → map (λ e. e.page) es ≡ claimed_from claimed a k → length es ≡ k
length_claimed claimed [] a zero e = refl
length_claimed claimed [] a (suc k) e = absurd (cc)
length_claimed claimed (x ∷ es) a zero e = absurd (cc)
length_claimed claimed (x ∷ es) a (suc k) e = let rest : map (λ e. e.page) es ≡ claimed_from claimed (a + 1) k = cc in ap suc (length_claimed claimed es (a + 1) k rest)

pub hand_claims : {X : Type 0} (make : List X → Sheet) (least : List X → Option Key) (claimed : ℕ → PageId) (parts : List (List X)) (s : Stand) → (hand_out make least claimed parts s).stand.claims ≡ s.claims + length parts
hand_claims make least claimed [] s = omega arith
hand_claims make least claimed (part ∷ parts) s = let next : (s.claims + 1) + length parts ≡ s.claims + suc (length parts) = omega arith in hand_claims make least claimed parts (claim claimed (make part) s) ∙ next

module _ {X : Type 0} (make : List X → Sheet) (least : List X → Option Key) (claimed : ℕ → PageId) where
  -- each entry names a page with its part
  abbrev pub AreMade : (PageId → Sheet) → List Entry → List (List X) → Type 0
  AreMade t [] [] = Unit {0}
  AreMade t [] (part ∷ parts) = ⊥
  AreMade t (e ∷ es) [] = ⊥
  AreMade t (e ∷ es) (part ∷ parts) = (e.least ≡ least part) × (t e.page ≡ make part) × AreMade t es parts

  pub record IsHanded (parts : List (List X)) (s : Stand) (g : Grown) : Type 0 where
    pub claims : g.stand.claims ≡ s.claims + length parts
    pub made : AreMade g.stand.sheets g.more parts
    pub pages : map (λ e. e.page) g.more ≡ claimed_from claimed s.claims (length parts)
    pub others : (q : PageId) → times q (claimed_from claimed s.claims (length parts)) ≡ 0 → g.stand.sheets q ≡ s.sheets q

  pub handed : (parts : List (List X)) (s : Stand) → ((q : PageId) → times q (claimed_from claimed s.claims (length parts)) ≤ 1) → IsHanded parts s (hand_out make least claimed parts s)
  handed [] s once = record { claims = omega arith; made = tt; pages = refl; others = λ q none. refl }
  handed (part ∷ parts) s once =
      let h : IsHanded parts (claim claimed (make part) s) (hand_out make least claimed parts (claim claimed (make part) s)) = handed parts (claim claimed (make part) s) (λ q. omega (arith, once q)) in
      let apart : times (claimed s.claims) (claimed_from claimed (s.claims + 1) (length parts)) ≡ 0 = omega (arith, once (claimed s.claims), times_first (claimed s.claims) (claimed_from claimed (s.claims + 1) (length parts))) in
      record {
        claims = h.claims ∙ next;
        made = (refl, h.others (claimed s.claims) apart ∙ set_same s.sheets (claimed s.claims) (make part), h.made);
        pages = ap (λ (l : List PageId). claimed s.claims ∷ l) h.pages;
        others = λ q none. h.others q (omega (arith, none)) ∙ set_other s.sheets (claimed s.claims) q (make part) (differ q none);
      }
    where
      next : (s.claims + 1) + length parts ≡ s.claims + suc (length parts)
      next = omega arith

      differ : (q : PageId) → times q (claimed s.claims ∷ claimed_from claimed (s.claims + 1) (length parts)) ≡ 0 → claimed s.claims ≢ q
      differ q none e =
          let there : 1 ≤ times q (claimed s.claims ∷ claimed_from claimed (s.claims + 1) (length parts)) = subst (λ (p : PageId). 1 ≤ times q (p ∷ claimed_from claimed (s.claims + 1) (length parts))) (sym e) (times_here q (claimed_from claimed (s.claims + 1) (length parts))) in
          absurd (omega (arith, none, there))

-- The pages that a tree's pages name are the tree's.
use Rattle.std.proofs.Common.{◌≡◌, ◌≢◌, ◌≤◌, ◌+◌, ℕ, zero, suc, Bool, true, false, cond, List, [], ◌∷◌, ◌++◌, length, get_or, refl, ap, sym, ◌∙◌, subst, arith, take, inl, inr, ◌⊎◌, length-append}
use Rattle.std.specs.Prelude.{Option, None, Some}
use Rattle.page_base.specs.declared.column.Column.{Column}
use Rattle.page_base.specs.declared.numbers.PageId.{PageId}
use Rattle.page_base.specs.declared.value.Value.{Value}
use Rattle.page_base.specs.Pages.{is_page}
use Rattle.page_fmt.proofs.SeenLemmas.{is_page-true}
use Rattle.plain_model.specs.Tables.{Rows as Map}
use Rattle.table_walk.specs.Addresses.{address, page_at}
use Rattle.table_walk.specs.Tables.{MayPut}
use Rattle.table_walk.proofs.AddressLemmas.{address_length}
use Rattle.table_walk.proofs.RowsLemmas.{same_Some}
use Rattle.tree_laws.specs.Keys.{Key}
use Rattle.tree_laws.specs.Kids.{is_upto}
use Rattle.tree_laws.specs.Puts.{in_key_order, placed_entry}
use Rattle.tree_laws.specs.Reads.{IsKey, AreIn, IsTree}
use Rattle.tree_laws.specs.Sheets.{Entry, Sheet, entries_in, leaf_in}
use Rattle.tree_laws.specs.Sheets.Sheet.{Rows}
use Rattle.tree_laws.specs.Trees.{Each, entries_at, pages_of, times}
use Rattle.tree_laws.specs.Typed.{IsSound}
use Rattle.tree_laws.proofs.Times.{times-append, times_here, Below}

some_of : (a b : ℕ) → 1 ≤ a + b → (1 ≤ a) ⊎ (1 ≤ b)
some_of zero b h = inr (omega (arith, h))
some_of (suc a) b h = inl (omega arith)

here_or : (p q : PageId) (ps : List PageId) → 1 ≤ times q (p ∷ ps) → (p ≡ q) ⊎ (1 ≤ times q ps)
here_or p q ps h = by (is_page p q) refl
  where
    by : (b : Bool) → is_page p q ≡ b → (p ≡ q) ⊎ (1 ≤ times q ps)
    by true e = inl (is_page-true p q e)
    by false e = let none : cond {A = ℕ} (is_page p q) 1 0 ≡ 0 = ap (λ (b : Bool). cond {A = ℕ} b 1 0) e in inr (omega (arith, h, none))

-- each entry's page is among the pages below
below_each : (s : PageId → Sheet) (n : ℕ) (es : List Entry) → Each (λ e. 1 ≤ times e.page (Below s n es)) es
below_each s n [] = tt
below_each s n (e ∷ es) = (
  omega (arith, own n e.page, times-append e.page (pages_of s n e.page) (Below s n es)),
  each (λ f. 1 ≤ times f.page (Below s n es)) (λ f. 1 ≤ times f.page (Below s n (e ∷ es))) es (λ f h. omega (arith, h, times-append f.page (pages_of s n e.page) (Below s n es))) (below_each s n es),
)
  where
    own : (n : ℕ) (p : PageId) → 1 ≤ times p (pages_of s n p)
    own zero p = times_here p []
    own (suc n) p = times_here p (Below s n (entries_at s p))

    each : (P Q : Entry → Type 0) (es : List Entry) → ((e : Entry) → P e → Q e) → Each P es → Each Q es
    each P Q [] f h = tt
    each P Q (e ∷ es) f h = (f e h.0, each P Q es f h.1)

each_map : (P Q : Entry → Type 0) (es : List Entry) → ((e : Entry) → P e → Q e) → Each P es → Each Q es
each_map P Q [] f h = tt
each_map P Q (e ∷ es) f h = (f e h.0, each_map P Q es f h.1)

module _ (P : List Value → Type 0) (K : Key → Type 0) (R : PageId → Bool) (s : PageId → Sheet) where
  -- what a page of the tree names lies in the tree
  named_in : (n : ℕ) (least : Option Key) (p q : PageId) → 1 ≤ times q (pages_of s n p) → IsSound P K R s n least p → Each (λ e. 1 ≤ times e.page (pages_of s n p)) (entries_at s q)
  named_in zero least p q there h = elim (here_or p q [] there) [
    | inl same ↦ subst (λ (r : PageId). Each (λ e. 1 ≤ times e.page (p ∷ [])) (entries_at s r)) same (none (s p) h.0)
    | inr gone ↦ absurd (omega (arith, gone))
  ]
    where
      none : (x : Sheet) → x ≡ Rows (leaf_in x) → Each (λ e. 1 ≤ times e.page (p ∷ [])) (in_key_order (entries_in x))
      none x e = subst (λ (y : Sheet). Each (λ e. 1 ≤ times e.page (p ∷ [])) (in_key_order (entries_in y))) (sym e) tt
  named_in (suc n) least p q there h = elim (here_or p q (Below s n (entries_at s p)) there) [
    | inl same ↦ subst (λ (r : PageId). Each (λ e. 1 ≤ times e.page (pages_of s (suc n) p)) (entries_at s r)) same
        (each_map (λ e. 1 ≤ times e.page (Below s n (entries_at s p))) (λ e. 1 ≤ times e.page (pages_of s (suc n) p)) (entries_at s p) (λ e m. omega (arith, m)) (below_each s n (entries_at s p)))
    | inr below ↦ each_map (λ e. 1 ≤ times e.page (Below s n (entries_at s p))) (λ e. 1 ≤ times e.page (pages_of s (suc n) p)) (entries_at s q) (λ e m. omega (arith, m)) (many (entries_at s p) below (λ least r t. named_in n least r q t) h.5)
  ]
    where
      many : (es : List Entry) → 1 ≤ times q (Below s n es) → ((least : Option Key) (r : PageId) → 1 ≤ times q (pages_of s n r) → IsSound P K R s n least r → Each (λ e. 1 ≤ times e.page (pages_of s n r)) (entries_at s q))
          → Each (λ e. IsSound P K R s n e.least e.page) es → Each (λ e. 1 ≤ times e.page (Below s n es)) (entries_at s q)
      many [] t f h = absurd (omega (arith, t))
      many (x ∷ es) t f h = elim (some_of (times q (pages_of s n x.page)) (times q (Below s n es)) (omega (arith, t, times-append q (pages_of s n x.page) (Below s n es)))) [
        | inl a ↦ each_map (λ e. 1 ≤ times e.page (pages_of s n x.page)) (λ e. 1 ≤ times e.page (Below s n (x ∷ es))) (entries_at s q) (λ e m. omega (arith, m, times-append e.page (pages_of s n x.page) (Below s n es))) (f x.least x.page a h.0)
        | inr b ↦ each_map (λ e. 1 ≤ times e.page (Below s n es)) (λ e. 1 ≤ times e.page (Below s n (x ∷ es))) (entries_at s q) (λ e m. omega (arith, m, times-append e.page (pages_of s n x.page) (Below s n es))) (many es b f h.1)
      ]

owned_of : (owns : PageId → Bool) (q : PageId) (k : ℕ) → k ≡ cond {A = ℕ} (owns q) 1 0 → 1 ≤ k → owns q ≡ true
owned_of owns q k e h = by (owns q) refl
  where
    by : (b : Bool) → owns q ≡ b → b ≡ true
    by true f = refl
    by false f = let none : cond {A = ℕ} (owns q) 1 0 ≡ 0 = ap (λ (b : Bool). cond {A = ℕ} b 1 0) f in absurd (omega (arith, e, h, none))

there_of : (owns : PageId → Bool) (q : PageId) (k : ℕ) → k ≡ cond {A = ℕ} (owns q) 1 0 → owns q ≡ true → 1 ≤ k
there_of owns q k e f = let one : cond {A = ℕ} (owns q) 1 0 ≡ 1 = ap (λ (b : Bool). cond {A = ℕ} b 1 0) f in omega (arith, e, one)

pub names_owned : (cols : List Column) (R : PageId → Bool) (s : PageId → Sheet) (root : PageId) (owns : PageId → Bool) (rows : Map) (q : PageId) → IsTree cols R s root owns rows → owns q ≡ true → Each (λ e. owns e.page ≡ true) (entries_at s q)
names_owned cols R s root owns rows q t own =
    each_map (λ e. 1 ≤ times e.page (pages_of s (suc t.level) root)) (λ e. owns e.page ≡ true) (entries_at s q) (λ e there. owned_of owns e.page (times e.page (pages_of s (suc t.level) root)) (t.owned e.page) there)
    (named_in (MayPut cols) (IsKey cols) R s (suc t.level) None root q (there_of owns q (times q (pages_of s (suc t.level) root)) (t.owned q) own) t.sound)

-- SLOTS THAT NAME

each_placed : (P : Entry → Type 0) (e : Entry) (ds : List Entry) → Each P (placed_entry e ds) → P e × Each P ds
each_placed P e [] h = (h.0, tt)
each_placed P e (d ∷ ds) h = by (is_upto e.least d.least) h (each_placed P e ds)
  where
    by : (b : Bool) → Each P (cond b (e ∷ d ∷ ds) (d ∷ placed_entry e ds)) → (Each P (placed_entry e ds) → P e × Each P ds) → P e × Each P (d ∷ ds)
    by true h later = (h.0, h.1)
    by false h later = let r = later h.1 in (r.0, (h.0, r.1))

take_front : (xs ys : List ℕ) → take (length xs) (xs ++ ys) ≡ xs
take_front [] ys = refl
take_front (x ∷ xs) ys = ap (λ (l : List ℕ). x ∷ l) (take_front xs ys)

-- the address of a page that isn't owned stands in no slot of owned entries
pub not_named : (keys : List Column) (owns : PageId → Bool) (c : PageId) (bytes : List ℕ) → owns c ≡ false → page_at (address c) ≡ Some c → (xs : List (List ℕ)) (es : List (Option Entry)) (i : ℕ) → AreIn keys xs es → Each (λ e. owns e.page ≡ true) (in_key_order es)
    → get_or xs i [] ≢ address c ++ bytes
not_named keys owns c bytes un reads = go
  where
    nothing : [] ≢ address c ++ bytes
    nothing e = absurd (omega (arith, ap length e, length-append (address c) bytes, address_length c))

    front : page_at (take 5 (address c ++ bytes)) ≡ Some c
    front = ap (λ (n : ℕ). page_at (take n (address c ++ bytes))) (sym (address_length c)) ∙ ap page_at (take_front (address c) bytes) ∙ reads

    go : (xs : List (List ℕ)) (es : List (Option Entry)) (i : ℕ) → AreIn keys xs es → Each (λ e. owns e.page ≡ true) (in_key_order es) → get_or xs i [] ≢ address c ++ bytes
    go [] es i a h = nothing
    go (x ∷ xs) [] i a h = absurd a
    go (x ∷ xs) (None ∷ es) zero a h = λ e. nothing (sym a.0 ∙ e)
    go (x ∷ xs) (Some d ∷ es) zero a h = λ e.
        let same : d.page ≡ c = same_Some d.page c (sym a.0.1 ∙ ap (λ (y : List ℕ). page_at (take 5 y)) e ∙ front) in
        let wrong : true ≡ false = sym (each_placed (λ e. owns e.page ≡ true) d (in_key_order es) h).0 ∙ ap owns same ∙ un in
        cc
    go (x ∷ xs) (None ∷ es) (suc i) a h = go xs es i a.1 h
    go (x ∷ xs) (Some d ∷ es) (suc i) a h = go xs es i a.1 (each_placed (λ e. owns e.page ≡ true) d (in_key_order es) h).1

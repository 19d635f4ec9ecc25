-- Pages of a tree that are looked at have room, stay so, and are read as they are spelled.
use Rattle.std.proofs.Common.{◌≡◌, ◌≢◌, ◌≤◌, ◌<◌, ◌+◌, ℕ, zero, suc, Bool, true, false, cond, nat_le, List, [], ◌∷◌, ◌++◌, length, refl, ap, sym, ◌∙◌, subst, arith, take, drop, map, inl, inr, ◌⊎◌, length-append, append-nil, ◌==◌}
use Rattle.std.specs.Prelude.{Option, None, Some, All}
use Rattle.std.proofs.lemmas.Bool.{le-leb}
use Rattle.page_base.specs.declared.column.Column.{Column}
use Rattle.page_base.specs.declared.numbers.PageId.{PageId}
use Rattle.page_base.specs.declared.value.Value.{Value}
use Rattle.page_base.specs.Pages.{is_page}
use Rattle.page_fmt.specs.Seen.{SlotsAt}
use Rattle.page_fmt.proofs.SeenLemmas.{is_page-true}
use Rattle.byte_fields.specs.Numbers.{number, number_in}
use Rattle.byte_fields.proofs.Numbers.{number_in-number, length-number}
use Rattle.plain_model.specs.Tables.{Rows as Map}
use Rattle.table_walk.specs.Addresses.{address, page_at}
use Rattle.table_walk.specs.Plans.{also, AreFree, cut_all, put_all}
use Rattle.table_walk.specs.Tables.{MayPut}
use Rattle.table_walk.proofs.AddressLemmas.{address_length, page_at-address}
use Rattle.tree_laws.specs.Keys.{Key, key_columns, key_at}
use Rattle.tree_laws.specs.Kids.{least_at, level_of}
use Rattle.tree_laws.specs.Paths.{CutPaths, PutPaths, HasRoom}
use Rattle.tree_laws.specs.Puts.{in_key_order, placed_entry, cut_keys, put_rows, level_in}
use Rattle.tree_laws.specs.Kids.{is_upto}
use Rattle.tree_laws.specs.Reads.{HasKey, IsKey, IsIn, AreIn, Reads, IsTree}
use Rattle.tree_laws.specs.Sheets.{Entry, Sheet, Stand, entry_bytes, slots_in, spelled_key, leaf_in, entries_in}
use Rattle.tree_laws.specs.Sheets.Sheet.{Rows, Inner}
use Rattle.tree_laws.specs.Trees.{Each, entries_at, pages_of, times}
use Rattle.tree_laws.proofs.Folds.{joins, many_cut, many_put, cut_keys_claims}
use Rattle.tree_laws.proofs.Sound.{IsSound, IsEntry, LeastIs}
use Rattle.tree_laws.proofs.Times.{times-append, times_here, Below}
use Rattle.tree_laws.proofs.TreeStays.{rules_of, grove_of, tree_of, each_of_all, GrownFrom}

-- COUNTS

some_of : (a b : ℕ) → 1 ≤ a + b → (1 ≤ a) ⊎ (1 ≤ b)
some_of zero b h = inr (omega (arith, h))
some_of (suc a) b h = inl (omega arith)

here_or : (p q : PageId) (ps : List PageId) → 1 ≤ times q (p ∷ ps) → (p ≡ q) ⊎ (1 ≤ times q ps)
here_or p q ps h = by (is_page p q) refl
  where
    by : (b : Bool) → is_page p q ≡ b → (p ≡ q) ⊎ (1 ≤ times q ps)
    by true e = inl (is_page-true p q e)
    by false e = let none : cond {A = ℕ} (is_page p q) 1 0 ≡ 0 = ap (λ (b : Bool). cond {A = ℕ} b 1 0) e in inr (omega (arith, h, none))

one_is : (p q : PageId) → 1 ≤ times q (p ∷ []) → p ≡ q
one_is p q h = elim (here_or p q [] h) [
  | inl e ↦ e
  | inr none ↦ absurd (omega (arith, none))
]

-- A TREE WHOSE PAGES ARE LOOKED AT

module _ (cols : List Column) (P : List Value → Type 0) (R : PageId → Bool) where
  -- what is known of the pages that are looked at
  pub looked_sound : (s : PageId → Sheet) (n : ℕ) (least : Option Key) (p : PageId) → ((q : PageId) → 1 ≤ times q (pages_of s n p) → R q ≡ true → HasRoom cols (s q)) → IsSound P (IsKey cols) (λ q. false) s n least p → IsSound P (IsKey cols) R s n least p
  looked_sound s zero least p room h = (h.0, λ e. (room p (times_here p []) e).fits, h.2)
  looked_sound s (suc n) least p room h = (
    h.0,
    λ e. (room p (times_here p (Below s n (entries_at s p))) e).fits,
    h.2,
    h.3,
    λ e. (room p (times_here p (Below s n (entries_at s p))) e).entries,
    many (entries_at s p) (λ q there e. room q (omega (arith, there)) e) (looked_sound s n) h.5,
  )
    where
      many : (es : List Entry) → ((q : PageId) → 1 ≤ times q (Below s n es) → R q ≡ true → HasRoom cols (s q))
          → ((least : Option Key) (q : PageId) → ((r : PageId) → 1 ≤ times r (pages_of s n q) → R r ≡ true → HasRoom cols (s r)) → IsSound P (IsKey cols) (λ r. false) s n least q → IsSound P (IsKey cols) R s n least q)
          → Each (λ e. IsSound P (IsKey cols) (λ q. false) s n e.least e.page) es → Each (λ e. IsSound P (IsKey cols) R s n e.least e.page) es
      many [] room f h = tt
      many (e ∷ es) room f h = (
        f e.least e.page (λ q there look. room q (omega (arith, there, times-append q (pages_of s n e.page) (Below s n es))) look) h.0,
        many es (λ q there look. room q (omega (arith, there, times-append q (pages_of s n e.page) (Below s n es))) look) f h.1,
      )

  -- what a page of it has
  pub record IsSeen (x : Sheet) : Type 0 where
    pub kind : (x ≡ Rows (leaf_in x)) ⊎ ((n : ℕ) × (x ≡ Inner (suc n) (entries_in x)))
    pub room : HasRoom cols x

  none_there : (x : Sheet) → x ≡ Rows (leaf_in x) → Each (IsEntry (IsKey cols)) (in_key_order (entries_in x))
  none_there x e = subst (λ (y : Sheet). Each (IsEntry (IsKey cols)) (in_key_order (entries_in y))) (sym e) tt

  pub seen_in : (s : PageId → Sheet) (n : ℕ) (least : Option Key) (p q : PageId) → R q ≡ true → 1 ≤ times q (pages_of s n p) → IsSound P (IsKey cols) R s n least p → IsSeen (s q)
  seen_in s zero least p q look there h =
      let same : p ≡ q = one_is p q there in
      subst (λ (r : PageId). IsSeen (s r)) same (record { kind = inl h.0; room = record { fits = h.1 (ap R same ∙ look); entries = none_there (s p) h.0 } })
  seen_in s (suc n) least p q look there h = elim (here_or p q (Below s n (entries_at s p)) there) [
    | inl same ↦ subst (λ (r : PageId). IsSeen (s r)) same (record { kind = inr (n, h.0); room = record { fits = h.1 (ap R same ∙ look); entries = h.4 (ap R same ∙ look) } })
    | inr below ↦ many (entries_at s p) below (λ least r t. seen_in s n least r q look t) h.5
  ]
    where
      many : (es : List Entry) → 1 ≤ times q (Below s n es) → ((least : Option Key) (r : PageId) → 1 ≤ times q (pages_of s n r) → IsSound P (IsKey cols) R s n least r → IsSeen (s q)) → Each (λ e. IsSound P (IsKey cols) R s n e.least e.page) es → IsSeen (s q)
      many [] t f h = absurd (omega (arith, t))
      many (e ∷ es) t f h = elim (some_of (times q (pages_of s n e.page)) (times q (Below s n es)) (omega (arith, t, times-append q (pages_of s n e.page) (Below s n es)))) [
        | inl a ↦ f e.least e.page a h.0
        | inr b ↦ many es b f h.1
      ]

-- A PAGE IS READ AS IT IS SPELLED

take_front : (xs ys : List ℕ) → take (length xs) (xs ++ ys) ≡ xs
take_front [] ys = refl
take_front (x ∷ xs) ys = ap (λ (l : List ℕ). x ∷ l) (take_front xs ys)

drop_front : (xs ys : List ℕ) → drop (length xs) (xs ++ ys) ≡ ys
drop_front [] ys = refl
drop_front (x ∷ xs) ys = drop_front xs ys

least_is : (keys : List Column) (xs : List ℕ) (k : Key) → xs ≢ [] → length xs ≤ 900 → key_at keys xs ≡ Some k → least_at keys xs ≡ Some (Some k)
least_is keys [] k some short reads = absurd (some refl)
least_is keys (b ∷ bs) k some short reads = let le : nat_le (length (b ∷ bs)) 900 ≡ true = le-leb (length (b ∷ bs)) 900 short in rw (le, reads) refl

module _ (cols : List Column) where
  entry_in : (e : Entry) → IsEntry (IsKey cols) e → IsIn (key_columns cols) (entry_bytes (Some e)) (Some e)
  entry_in e h = (
    λ none. absurd (omega (arith, ap length none, length-append (address e.page) (spelled_key e.least), address_length e.page)),
    ap (λ (n : ℕ). page_at (take n (address e.page ++ spelled_key e.least))) (sym (address_length e.page)) ∙ ap page_at (take_front (address e.page) (spelled_key e.least)) ∙ page_at-address e.page h.target,
    ap (λ (n : ℕ). least_at (key_columns cols) (drop n (address e.page ++ spelled_key e.least))) (sym (address_length e.page)) ∙ ap (least_at (key_columns cols)) (drop_front (address e.page) (spelled_key e.least)) ∙ of_least e.least h.least,
  )
    where
      of_least : (o : Option Key) → LeastIs (IsKey cols) o → least_at (key_columns cols) (spelled_key o) ≡ Some o
      of_least None h = refl
      of_least (Some k) h = least_is (key_columns cols) (spelled_key (Some k)) k h.some h.short h.reads

  one_placed : (e : Entry) (ds : List Entry) → Each (IsEntry (IsKey cols)) (placed_entry e ds) → IsEntry (IsKey cols) e × Each (IsEntry (IsKey cols)) ds
  one_placed e [] h = (h.0, tt)
  one_placed e (d ∷ ds) h = by (is_upto e.least d.least) h (one_placed e ds)
    where
      by : (b : Bool) → Each (IsEntry (IsKey cols)) (cond b (e ∷ d ∷ ds) (d ∷ placed_entry e ds)) → (Each (IsEntry (IsKey cols)) (placed_entry e ds) → IsEntry (IsKey cols) e × Each (IsEntry (IsKey cols)) ds)
          → IsEntry (IsKey cols) e × Each (IsEntry (IsKey cols)) (d ∷ ds)
      by true h later = (h.0, h.1)
      by false h later = let r = later h.1 in (r.0, (h.0, r.1))

  entries_in_slots : (es : List (Option Entry)) → Each (IsEntry (IsKey cols)) (in_key_order es) → AreIn (key_columns cols) (map entry_bytes es) es
  entries_in_slots [] h = tt
  entries_in_slots (None ∷ es) h = (refl, entries_in_slots es h)
  entries_in_slots (Some e ∷ es) h = let r = one_placed e (in_key_order es) h in (entry_in e r.0, entries_in_slots es r.1)

  level_read : (n : ℕ) (rest : List (List ℕ)) → n < 4294967296 → level_of (number 4 n ∷ rest) ≡ n
  level_read n rest small =
      let four : length (number 4 n) ≡ 4 = length-number 4 n in
      let is : number_in 4 (number 4 n) ≡ n = ap (number_in 4) (sym (append-nil (number 4 n))) ∙ number_in-number 4 n [] small in
      ap (λ (l : ℕ). cond {A = ℕ} (l == 4) (number_in 4 (number 4 n)) 0) four ∙ is

  pub read_again : (P : List Value → Type 0) (R : PageId → Bool) (x : Sheet) → IsSeen cols P R x → level_in x < 4294967296 → Reads cols (slots_in x) x
  read_again P R (Rows leaf) h small = refl
  read_again P R (Inner level es) h small = (level_read level (map entry_bytes es) small, entries_in_slots es h.room.entries)

-- ONE TREE, WHERE IT IS LOOKED AT

owned_of : (owns : PageId → Bool) (q : PageId) (k : ℕ) → k ≡ cond {A = ℕ} (owns q) 1 0 → 1 ≤ k → owns q ≡ true
owned_of owns q k e h = by (owns q) refl
  where
    by : (b : Bool) → owns q ≡ b → b ≡ true
    by true f = refl
    by false f = let none : cond {A = ℕ} (owns q) 1 0 ≡ 0 = ap (λ (b : Bool). cond {A = ℕ} b 1 0) f in absurd (omega (arith, e, h, none))

there_of : (owns : PageId → Bool) (q : PageId) (k : ℕ) → k ≡ cond {A = ℕ} (owns q) 1 0 → owns q ≡ true → 1 ≤ k
there_of owns q k e f = let one : cond {A = ℕ} (owns q) 1 0 ≡ 1 = ap (λ (b : Bool). cond {A = ℕ} b 1 0) f in omega (arith, e, one)

pub looked_tree : (cols : List Column) (R : PageId → Bool) (sheets : PageId → Sheet) (root : PageId) (owns : PageId → Bool) (rows : Map) → ((q : PageId) → owns q ≡ true → R q ≡ true → HasRoom cols (sheets q)) → IsTree cols (λ q. false) sheets root owns rows → IsTree cols R sheets root owns rows
looked_tree cols R sheets root owns rows room t = record {
  level = t.level;
  sound = looked_sound cols (MayPut cols) R sheets (suc t.level) None root (λ q there look. room q (owned_of owns q (times q (pages_of sheets (suc t.level) root)) (t.owned q) there) look) t.sound;
  order = t.order;
  by_keys = t.by_keys;
  owned = t.owned;
}

pub page_seen : (cols : List Column) (R : PageId → Bool) (sheets : PageId → Sheet) (root : PageId) (owns : PageId → Bool) (rows : Map) (q : PageId) → IsTree cols R sheets root owns rows → R q ≡ true → owns q ≡ true → level_in (sheets q) < 4294967296 → Reads cols (slots_in (sheets q)) (sheets q) × HasRoom cols (sheets q)
page_seen cols R sheets root owns rows q t look own small =
    let h : IsSeen cols (MayPut cols) R (sheets q) = seen_in cols (MayPut cols) R sheets (suc t.level) None root q look (there_of owns q (times q (pages_of sheets (suc t.level) root)) (t.owned q) own) t.sound in
    (read_again cols (MayPut cols) R (sheets q) h small, h.room)

pub stays_looked : (cols : List Column) (has : HasKey cols) (R : PageId → Bool) (claimed : ℕ → PageId) (n : ℕ) (at : SlotsAt) (owns : PageId → Bool) (root : PageId) (sheets : PageId → Sheet) (rows : Map) (ks : List Key) (rs : List (List Value))
    → AreFree claimed n at owns → All (MayPut cols) rs → IsTree cols R sheets root owns rows → CutPaths cols R root ks (record { sheets = sheets; claims = 0 }) → PutPaths cols R claimed root rs (cut_keys cols root ks (record { sheets = sheets; claims = 0 }))
    → (put_rows cols claimed root rs (cut_keys cols root ks (record { sheets = sheets; claims = 0 }))).claims ≤ n
    → IsTree cols R (put_rows cols claimed root rs (cut_keys cols root ks (record { sheets = sheets; claims = 0 }))).sheets root
    (also owns claimed (put_rows cols claimed root rs (cut_keys cols root ks (record { sheets = sheets; claims = 0 }))).claims) (put_all cols rs (cut_all ks rows))
stays_looked cols has R claimed n at owns root sheets rows ks rs free may t cuts puts few =
    let s : Stand = record { sheets = sheets; claims = 0 } in
    let c : Stand = cut_keys cols root ks s in
    let none : c.claims ≡ 0 = cut_keys_claims cols root ks s in
    let a : GrownFrom cols has R claimed n at owns free root n s t.level (cut_keys cols root ks s) (cut_all ks rows) =
    many_cut cols (MayPut cols) (IsKey cols) R (rules_of cols has) claimed ks root n s rows (grove_of cols has R claimed n at owns free root sheets rows t) cuts in
    let b = many_put cols (MayPut cols) (IsKey cols) R (rules_of cols has) claimed rs root a.left c (cut_all ks rows) a.tree (each_of_all (MayPut cols) rs may) puts (omega (arith, few, none, a.sum, a.claims)) in
    tree_of cols has R claimed n at owns free root sheets rows t (put_rows cols claimed root rs c) (put_all cols rs (cut_all ks rows))
    (joins cols (MayPut cols) (IsKey cols) R (rules_of cols has) claimed root n s t.level c (cut_all ks rows) a (put_rows cols claimed root rs c) (put_all cols rs (cut_all ks rows)) b) few

-- What a page names: a leaf nothing; another page its children, or the one chosen for a key, and its walk in parts.
use Rattle.std.proofs.Common.{◌≡◌, ◌≢◌, ◌-◌, ◌==◌, ℕ, Bool, true, false, cond, List, [], ◌∷◌, ◌++◌, refl, ap, sym, ◌∙◌, subst, map, append_assoc, Result, Ok, Err, IsOkAnd, Option, None, ◌⊎◌, inl, inr}
use Rattle.page_base.specs.declared.column.Column.{Column}
use Rattle.page_base.specs.declared.numbers.PageId.{PageId}
use Rattle.page_fmt.specs.Seen.{SlotsAt}
use Rattle.table_walk.specs.declared.visit.Visit.{Visit}
use Rattle.table_walk.specs.Tables.{is_leaf}
use Rattle.table_walk.specs.Walk.{Kids, Walks}
use Rattle.table_walk.proofs.WalkLemmas.{ok_is}
use Rattle.tree_laws.specs.declared.child.Child.{Child}
use Rattle.tree_laws.specs.Keys.{Key, key_columns}
use Rattle.tree_laws.specs.Kids.{children, level_of, may_be, some_below, node, may_hold, chosen_from, wanted, visit_of, visits, tree_kids}

-- a leaf names none
pub record IsLeaf (cols : List Column) (t : Visit) (slots : List (List ℕ)) (ns : List Visit) : Type 0 where
  pub leaf : is_leaf t ≡ true
  pub none : ns ≡ []
  pub other : (key : Option Key) → tree_kids cols key t slots ≡ Ok []

-- another page names its children
pub record IsNode (cols : List Column) (t : Visit) (slots : List (List ℕ)) (ns : List Visit) : Type 0 where
  pub cs : List Child
  pub inner : is_leaf t ≡ false
  pub level : may_be t.level (level_of slots) ≡ true
  pub read : children (key_columns cols) slots ≡ Ok cs
  pub are : ns ≡ map (visit_of t.page (level_of slots - 1)) cs
  pub other : (key : Option Key) → tree_kids cols key t slots ≡ Ok (map (visit_of t.page (level_of slots - 1)) (wanted key cs))

same_Ok : {A E : Type 0} (x y : A) → ◌≡◌ {A = Result A E} (Ok x) (Ok y) → x ≡ y
same_Ok x y e = cc

no_Err : {A E P : Type 0} (e : E) (x : A) → ◌≡◌ {A = Result A E} (Err e) (Ok x) → P
no_Err e x h = absurd (cc)

some_is : (level : ℕ) (r : Result (List Child) ℕ) (cs : List Child) → some_below level r ≡ Ok cs → r ≡ Ok cs
some_is level (Err e) cs h = h
some_is level (Ok (c ∷ ds)) cs h = h
some_is level (Ok []) cs h = by (level == 1) h
  where
    by : (b : Bool) → cond {A = Result (List Child) ℕ} b (Ok []) (Err 0) ≡ Ok cs → ◌≡◌ {A = Result (List Child) ℕ} (Ok []) (Ok cs)
    by true e = e
    by false e = no_Err 0 cs e

pub page_is : (cols : List Column) (t : Visit) (slots : List (List ℕ)) (ns : List Visit) → tree_kids cols None t slots ≡ Ok ns → IsLeaf cols t slots ns ⊎ IsNode cols t slots ns
page_is cols t slots ns h = by (is_leaf t) refl h
  where
    by : (b : Bool) → is_leaf t ≡ b → cond b (Ok []) (visits None t.page (level_of slots) (node (key_columns cols) t.level slots)) ≡ Ok ns → IsLeaf cols t slots ns ⊎ IsNode cols t slots ns
    by true leaf e = inl (record {
      leaf = leaf;
      none = sym (same_Ok [] ns e);
      other = λ key. ap (λ (b : Bool). cond b (Ok []) (visits key t.page (level_of slots) (node (key_columns cols) t.level slots))) leaf;
    })
    by false inner e = inr (at_level (may_be t.level (level_of slots)) refl e)
      where
        at_node : (r : Result (List Child) ℕ) → node (key_columns cols) t.level slots ≡ r → may_be t.level (level_of slots) ≡ true → some_below (level_of slots) (children (key_columns cols) slots) ≡ r → visits None t.page (level_of slots) r ≡ Ok ns → IsNode cols t slots ns
        at_node (Err x) is level below e = no_Err x ns e
        at_node (Ok cs) is level below e = record {
          cs = cs;
          inner = inner;
          level = level;
          read = some_is (level_of slots) (children (key_columns cols) slots) cs below;
          are = sym (same_Ok (map (visit_of t.page (level_of slots - 1)) cs) ns e);
          other = λ key. ap (λ (b : Bool). cond b (Ok []) (visits key t.page (level_of slots) (node (key_columns cols) t.level slots))) inner ∙ ap (visits key t.page (level_of slots)) is;
        }

        at_level : (b : Bool) → may_be t.level (level_of slots) ≡ b → visits None t.page (level_of slots) (cond b (some_below (level_of slots) (children (key_columns cols) slots)) (Err 0)) ≡ Ok ns → IsNode cols t slots ns
        at_level false level e = no_Err 0 ns e
        at_level true level e =
            at_node (some_below (level_of slots) (children (key_columns cols) slots)) (ap (λ (b : Bool). cond b (some_below (level_of slots) (children (key_columns cols) slots)) (Err 0)) level) level refl e

-- CHOSEN

-- the first of these children may not hold the key
abbrev pub IsBehind : Key → List Child → Type 0
IsBehind key [] = Unit {0}
IsBehind key (d ∷ ds) = may_hold key d ≡ false

-- the child that is chosen for a key: it may hold it, or it is the first; the next one may not
pub record IsChosen (key : Key) (cs : List Child) (ch : Child) : Type 0 where
  pub before : List Child
  pub after : List Child
  pub are : cs ≡ before ++ ch ∷ after
  pub low : (before ≡ []) ⊎ (may_hold key ch ≡ true)
  pub high : IsBehind key after

pub chosen_is : (key : Key) (c : Child) (cs : List Child) → IsChosen key (c ∷ cs) (chosen_from key c cs)
chosen_is key c [] = record { before = []; after = []; are = refl; low = inl refl; high = tt }
chosen_is key c (d ∷ ds) = by (may_hold key d) refl (chosen_is key d ds)
  where
    held : (ch : Child) (before after : List Child) → d ∷ ds ≡ before ++ ch ∷ after → (before ≡ []) ⊎ (may_hold key ch ≡ true) → may_hold key d ≡ true → may_hold key ch ≡ true
    held ch before after are (inr h) e = h
    held ch [] after are (inl h) e = let same : d ≡ ch = cc in subst (λ (x : Child). may_hold key x ≡ true) same e
    held ch (b ∷ before) after are (inl h) e = absurd (cc)

    by : (b : Bool) → may_hold key d ≡ b → IsChosen key (d ∷ ds) (chosen_from key d ds) → IsChosen key (c ∷ d ∷ ds) (cond b (chosen_from key d ds) c)
    by true e o = record {
      before = c ∷ o.before;
      after = o.after;
      are = ap (λ (l : List Child). c ∷ l) o.are;
      low = inr (held (chosen_from key d ds) o.before o.after o.are o.low e);
      high = o.high;
    }
    by false e o = record { before = []; after = d ∷ ds; are = refl; low = inl refl; high = e }

-- WALKS IN PARTS

pub no_cons : {A : Type 0} (x : A) (xs : List A) → x ∷ xs ≢ []
no_cons x xs e = cc

-- a walk of the first visits, and then one of the others
pub record IsParted (kids : Kids) (at : SlotsAt) (a b done : List Visit) : Type 0 where
  pub first : List Visit
  pub later : List Visit
  pub are : done ≡ first ++ later
  pub walks : Walks kids at a first []
  pub rest : Walks kids at b later []

pub parted : (kids : Kids) (at : SlotsAt) (a b done : List Visit) → Walks kids at (a ++ b) done [] → IsParted kids at a b done
parted kids at [] b done w = record { first = []; later = done; are = refl; walks = refl; rest = w }
parted kids at (t ∷ a) b [] w = absurd (no_cons t (a ++ b) w)
parted kids at (t ∷ a) b (v ∷ done) w = by (kids t (at t.page)) refl w.1 (λ next. parted kids at (next ++ a) b done)
  where
    by : (r : Result (List Visit) ℕ) → kids t (at t.page) ≡ r → IsOkAnd r (λ next. Walks kids at (next ++ (a ++ b)) done []) → ((next : List Visit) → Walks kids at ((next ++ a) ++ b) done [] → IsParted kids at (next ++ a) b done) → IsParted kids at (t ∷ a) b (v ∷ done)
    by (Err e) eq h rec = absurd h
    by (Ok next) eq h rec =
        let s : IsParted kids at (next ++ a) b done = rec next (subst (λ (l : List Visit). Walks kids at l done []) (sym (append_assoc next a b)) h) in
        record { first = v ∷ s.first; later = s.later; are = ap (λ (l : List Visit). v ∷ l) s.are; walks = (w.0, ok_is (λ (n : List Visit). Walks kids at (n ++ a) s.first []) (kids t (at t.page)) next eq s.walks); rest = s.rest }

pub visits-append : (from : PageId) (n : ℕ) (cs ds : List Child) → map (visit_of from n) (cs ++ ds) ≡ map (visit_of from n) cs ++ map (visit_of from n) ds
visits-append from n [] ds = refl
visits-append from n (c ∷ cs) ds = ap (λ (l : List Visit). visit_of from n c ∷ l) (visits-append from n cs ds)

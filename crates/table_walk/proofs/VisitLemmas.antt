-- The rows of visits, page by page, and slots that are no rows.
use Rattle.std.proofs.Common.{refl, ◌≡◌, ◌≢◌, ℕ, zero, suc, ◌+◌, ◌<◌, ◌≤◌, List, [], ◌∷◌, ◌++◌, length, get_or, take, ap, sym, ◌∙◌, subst, arith, Bool, true, false, cond, append_assoc, eqb-true, eq-eqb, ◌==◌, ◌||◌}
use Rattle.std.specs.Prelude.{Option, Some, None}
use Rattle.std.specs.FinMap as finite
use Rattle.std.specs.List.{Any, list_any}
use Rattle.std.proofs.lemmas.List.{take_more, take_all, append-nil, get_or_default}
use Rattle.std.proofs.lemmas.List.Folds.{list_any-append}
use Rattle.page_base.specs.declared.column.Column.{Column}
use Rattle.page_base.specs.declared.numbers.PageId.{PageId}
use Rattle.page_fmt.specs.Spelling.{row_bytes, FitsPage}
use Rattle.page_fmt.specs.Seen.{SlotsAt, Looked, look, Saw, place_of}
use Rattle.page_fmt.proofs.SeenLemmas.{look-place}
use Rattle.plain_model.specs.Tables.{Rows}
use Rattle.table_walk.specs.declared.find.Find.{Find}
use Rattle.table_walk.specs.declared.refusal.SeenRefusal.{SeenRefusal}
use Rattle.table_walk.specs.declared.refusal.SeenRefusal.TheVariants.{Damaged, Memory}
use Rattle.table_walk.specs.declared.visit.Visit.{Visit}
use Rattle.table_walk.specs.Answers.{IsAt, IsOn, asks, asked}
use Rattle.table_walk.specs.Sought.{knows, kept, IsSought}
use Rattle.table_walk.specs.Walk.{Kids, IsSeenWalk}
use Rattle.table_walk.specs.Tables.{IsBadRow, Gathers, AreRows, IsSomeRow, IsNoRow, IsNoRowOf, full, cells, cells_of, is_leaf}
use Rattle.table_walk.proofs.RowsLemmas.{Key, same_key, itself, get_put, get_none, get_kept, kept-empty}
use Rattle.table_walk.proofs.GatherLemmas.{AreRows-append}
use Rattle.table_walk.proofs.WalkLemmas.{page_at-place, one_walk}

-- KEYS

-- no key is in an empty set
pub no_key : (set : Rows) (q : Key) → set ≡ finite.empty → finite.contains_key set q ≡ false
no_key set q e = ap (λ (m : Rows). finite.contains_key m q) e ∙ ap is_there (get_none q)
  where
    is_there : Option Key → Bool
    is_there None = false
    is_there (Some x) = true

-- one key more
pub key_more : (set new : Rows) (keys : List Key) (i : ℕ) (k v q : Key) → finite.contains_key set q ≡ list_any (same_key q) (take i keys) → i < length keys → k ≡ get_or keys i k → new ≡ finite.insert set k v
    → finite.contains_key new q ≡ list_any (same_key q) (take (i + 1) keys)
key_more set new keys i k v q so lt is e =
    ap (λ (m : Rows). finite.contains_key m q) e ∙ ap is_there (get_put set k v q) ∙ by (same_key q k) (finite.get set q)
    ∙ (λ j. so j || last j) ∙ sym (list_any-append (same_key q) (take i keys) (k ∷ [])) ∙ ap (list_any (same_key q)) (sym (take_more keys i k lt ∙ ap (λ x. take i keys ++ x ∷ []) (sym is)))
  where
    is_there : Option Key → Bool
    is_there None = false
    is_there (Some x) = true

    by : (b : Bool) (o : Option Key) → is_there (cond b (Some v) o) ≡ (is_there o || b)
    by true None = refl
    by true (Some x) = refl
    by false None = refl
    by false (Some x) = refl

    last : same_key q k ≡ list_any (same_key q) (k ∷ [])
    last = sym (or_false (same_key q k))
      where
        or_false : (b : Bool) → (b || false) ≡ b
        or_false true = refl
        or_false false = refl

-- a key that was put is known
pub one_known : (set old : Rows) (q k v : Key) → set ≡ finite.insert old k v → k ≡ q → knows (Some set) q ≡ true
one_known set old q k v e f =
    ap (λ (m : Rows). finite.contains_key m q) e ∙ ap is_there (get_put old k v q) ∙ ap (λ (b : Bool). is_there (cond b (Some v) (finite.get old q))) (ap (same_key q) f ∙ itself q)
  where
    is_there : Option Key → Bool
    is_there None = false
    is_there (Some x) = true

-- what is asked for, told by either
pub asked_is : (keys : Option Rows) (find : Find) (all : Rows) → ((q : Key) → knows keys q ≡ asks find q) → kept keys all ≡ asked find all
asked_is keys find all h = ap (finite.retain_keys all) (λ i q. h q i)

-- SLOTS

pub slot_short : (slots : List (List ℕ)) (j : ℕ) → FitsPage slots → length (get_or slots j []) ≤ 8192
slot_short slots j fits = omega (arith, short slots j, fits.small)
  where
    short : (xs : List (List ℕ)) (j : ℕ) → length (get_or xs j []) ≤ row_bytes xs
    short [] j = omega arith
    short (x ∷ xs) zero = omega arith
    short (x ∷ xs) (suc j) = omega (arith, short xs j)

pub is_nothing : (xs : List ℕ) (b : Bool) → b ≡ (length xs == 0) → b ≡ true → xs ≡ []
is_nothing [] b e t = refl
is_nothing (x ∷ xs) b e t = let n : suc (length xs) ≡ 0 = eqb-true (suc (length xs)) 0 (sym e ∙ t) in absurd (omega arith)

pub is_something : (xs : List ℕ) (b : Bool) → b ≡ (length xs == 0) → b ≡ false → xs ≢ []
is_something xs b e t none = let f : true ≡ false = sym (eq-eqb (length xs) 0 (ap length none)) ∙ sym e ∙ t in cc

-- a slot that was read and is no row
pub slot_no_row : (cols : List Column) (seen : List Looked) (i : ℕ) (d : Looked) (page : PageId) (slot : ℕ) (bytes : List ℕ) (e : SeenRefusal) → page ≡ (get_or seen i d).page → slot < length (get_or seen i d).slots
    → bytes ≡ get_or (get_or seen i d).slots slot [] → bytes ≢ [] → IsOn page (λ s. (s ≡ slot) × (¬ IsSomeRow cols bytes)) e → IsOn (get_or seen i d).page (IsNoRow cols (get_or seen i d).slots) e
slot_no_row cols seen i d page slot bytes (Damaged p s) is lt read some h =
    let no : IsNoRow cols (get_or seen i d).slots slot = record {
      there = lt;
      some = λ none. some (read ∙ none);
      wrong = subst (λ x. ¬ IsSomeRow cols x) read h.1.1;
    } in
    (sym is ∙ h.0, subst (IsNoRow cols (get_or seen i d).slots) (sym h.1.0) no)
slot_no_row cols seen i d page slot bytes Memory is lt read some h = tt

-- VISITS

pub leaf_read : (seen : List Looked) (v : Visit) (i : ℕ) (d : Looked) → Saw seen v.page → i ≡ place_of seen v.page → look seen v.page ≡ (get_or seen i d).slots
leaf_read seen v i d h at = look-place seen v.page d h ∙ ap (λ n. (get_or seen n d).slots) (sym at)

pub leaf_cells : (seen : List Looked) (v : Visit) (i : ℕ) (d : Looked) → is_leaf v ≡ true → Saw seen v.page → i ≡ place_of seen v.page → full (get_or seen i d).slots ≡ cells_of (look seen) v
leaf_cells seen v i d leaf h at = ap full (sym (leaf_read seen v i d h at)) ∙ sym (ap (λ b. cond b (full (look seen v.page)) []) leaf)

pub other_cells : (at : SlotsAt) (v : Visit) → is_leaf v ≡ false → cells_of at v ≡ []
other_cells at v e = ap (λ b. cond b (full (at v.page)) []) e

pub visit_no_row : (cols : List Column) (seen : List Looked) (v : Visit) (i : ℕ) (e : SeenRefusal) → is_leaf v ≡ true → Saw seen v.page → i ≡ place_of seen v.page
    → ((d : Looked) → IsOn (get_or seen i d).page (IsNoRow cols (get_or seen i d).slots) e) → IsAt (λ page slot. IsNoRowOf cols seen page slot v) e
visit_no_row cols seen v i (Damaged p s) leaf h at bad =
    let d : Looked = record { page = v.page; slots = [] } in
    let same : v.page ≡ p = sym (page_at-place seen v.page d h) ∙ ap (λ n. (get_or seen n d).page) (sym at) ∙ (bad d).0 in
    record {
      at = same;
      leaf = leaf;
      no = subst (λ xs. IsNoRow cols xs s) (sym (leaf_read seen v i d h at) ∙ ap (look seen) same) (bad d).1;
    }
visit_no_row cols seen v i Memory leaf h at bad = tt

pub cells-append : (at : SlotsAt) (vs ws : List Visit) → cells at (vs ++ ws) ≡ cells at vs ++ cells at ws
cells-append at [] ws = refl
cells-append at (v ∷ vs) ws = ap (λ zs. cells_of at v ++ zs) (cells-append at vs ws) ∙ sym (append_assoc (cells_of at v) (cells at vs) (cells at ws))

pub cells-more : (at : SlotsAt) (done : List Visit) (k : ℕ) (v : Visit) → k < length done → v ≡ get_or done k v → cells at (take (k + 1) done) ≡ cells at (take k done) ++ cells_of at v
cells-more at done k v h is =
    ap (cells at) (take_more done k v h) ∙ cells-append at (take k done) (get_or done k v ∷ []) ∙ ap (λ w. cells at (take k done) ++ (cells_of at w ++ [])) (sym is) ∙ ap (λ zs. cells at (take k done) ++ zs) (append-nil (cells_of at v))

-- the rows of the visits so far
pub visits_begin : (cols : List Column) (keys : Option Rows) (rows : Rows) → rows ≡ finite.empty → (all : Rows) → all ≡ finite.empty → rows ≡ kept keys all
visits_begin cols keys rows e all f = e ∙ kept-empty keys ∙ ap (kept keys) (sym f)

pub visits_more : (cols : List Column) (keys : Option Rows) (at : SlotsAt) (done : List Visit) (k : ℕ) (d : Visit) (old rows : Rows) → k < length done → IsSought cols keys (cells at (take k done)) old × AreRows cols (cells at (take k done))
    → ((before : List (List ℕ)) → IsSought cols keys before old → IsSought cols keys (before ++ cells_of at (get_or done k d)) rows) → AreRows cols (cells_of at (get_or done k d))
    → IsSought cols keys (cells at (take (k + 1) done)) rows × AreRows cols (cells at (take (k + 1) done))
visits_more cols keys at done k d old rows h s sought new =
    let v : Visit = get_or done k d in
    let same = sym (cells-more at done k v h (get_or_default done k d v h)) in
    (subst (λ cs. IsSought cols keys cs rows) same (sought (cells at (take k done)) s.0), subst (AreRows cols) same (AreRows-append cols (cells at (take k done)) (cells_of at v) s.1 new))

pub visits_end : (cols : List Column) (keys : Option Rows) (at : SlotsAt) (done : List Visit) (k : ℕ) (rows : Rows) → length done ≤ k
    → IsSought cols keys (cells at (take k done)) rows × AreRows cols (cells at (take k done)) → IsSought cols keys (cells at done) rows × AreRows cols (cells at done)
visits_end cols keys at done k rows h s = let all : take k done ≡ done = take_all k done h in subst (λ vs. IsSought cols keys (cells at vs) rows × AreRows cols (cells at vs)) all s

pub walk_bad_row : (kids : Kids) (cols : List Column) (seen : List Looked) (start : Visit) (done same : List Visit) (e : SeenRefusal) → IsSeenWalk kids seen start done [] → same ≡ done
    → IsAt (λ page slot. Any (IsNoRowOf cols seen page slot) same) e → IsAt (IsBadRow kids cols seen start) e
walk_bad_row kids cols seen start done same (Damaged p s) w is bad = (done, w, subst (Any (IsNoRowOf cols seen p s)) is bad)
walk_bad_row kids cols seen start done same Memory w is bad = tt

pub walk_rows : (kids : Kids) (cols : List Column) (keys : Option Rows) (find : Find) (seen : List Looked) (start : Visit) (done same other : List Visit) (rows all : Rows) (list : List Key) → IsSeenWalk kids seen start done [] → IsSeenWalk kids seen start other []
    → same ≡ done → ((q : Key) → knows keys q ≡ asks find q) → IsSought cols keys (cells (look seen) same) rows → list ≡ finite.values rows → Gathers cols (cells (look seen) other) all → list ≡ finite.values (asked find all)
walk_rows kids cols keys find seen start done same other rows all list w v is h sought e g =
    e ∙ ap (λ (m : Rows). finite.values m) (sought all (subst (λ vs. Gathers cols (cells (look seen) vs) all) (sym (is ∙ one_walk kids seen start done other w v)) g) ∙ asked_is keys find all h)

-- the row of one key
pub walk_row : (kids : Kids) (cols : List Column) (keys : Option Rows) (key : Key) (seen : List Looked) (start : Visit) (done same other : List Visit) (rows all : Rows) (found : Option Key) → IsSeenWalk kids seen start done [] → IsSeenWalk kids seen start other []
    → same ≡ done → knows keys key ≡ true → IsSought cols keys (cells (look seen) same) rows → found ≡ finite.get rows key → Gathers cols (cells (look seen) other) all → found ≡ finite.get all key
walk_row kids cols keys key seen start done same other rows all found w v is known sought e g =
    e ∙ ap (λ (m : Rows). finite.get m key) (sought all (subst (λ vs. Gathers cols (cells (look seen) vs) all) (sym (is ∙ one_walk kids seen start done other w v)) g))
    ∙ get_kept keys all key ∙ ap (λ (b : Bool). cond b (finite.get all key) None) known

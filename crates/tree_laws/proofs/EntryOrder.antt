-- Entries in key order: new ones take their places among the others, wherever their slots are.
use Rattle.std.proofs.Common.{◌≡◌, Bool, true, false, cond, List, [], ◌∷◌, ◌++◌, map, refl, ap, sym, ◌∙◌, subst, ◌⊎◌, inl, inr, append_assoc}
use Rattle.std.specs.Prelude.{Option, None, Some}
use Rattle.tree_laws.specs.Keys.{Key}
use Rattle.tree_laws.specs.Kids.{is_upto}
use Rattle.tree_laws.specs.Puts.{put_entry, put_entries, placed_entry, in_key_order}
use Rattle.tree_laws.specs.Sheets.{Entry}
use Rattle.tree_laws.proofs.KeyOrder.{Upto, upto_cases, below_upto, upto_of}
use Rattle.tree_laws.proofs.Lists.{Each, each-left, each-right, each-append, each-map}

abbrev pub Le : Entry → Entry → Type 0
Le d e = is_upto d.least e.least ≡ true

abbrev pub NotLe : Entry → Entry → Type 0
NotLe d e = is_upto d.least e.least ≡ false

-- an entry stands before another and not behind it
abbrev pub Before : Entry → Entry → Type 0
Before d e = Le d e × NotLe e d

-- each entry stands before all behind it
abbrev pub Rises : List Entry → Type 0
Rises [] = Unit {0}
Rises (e ∷ es) = Each (Before e) es × Rises es

pub rises-left : (xs ys : List Entry) → Rises (xs ++ ys) → Rises xs
rises-left [] ys r = tt
rises-left (x ∷ xs) ys r = (each-left (Before x) xs ys r.0, rises-left xs ys r.1)

pub rises-right : (xs ys : List Entry) → Rises (xs ++ ys) → Rises ys
rises-right [] ys r = r
rises-right (x ∷ xs) ys r = rises-right xs ys r.1

-- each of some stands before one that is behind them all
pub rises-front : (xs : List Entry) (e : Entry) (ys : List Entry) → Rises (xs ++ e ∷ ys) → Each (λ x. Before x e) xs
rises-front [] e ys r = tt
rises-front (x ∷ xs) e ys r = ((each-right (Before x) xs (e ∷ ys) r.0).0, rises-front xs e ys r.1)

upto_trans : (a b c : Option Key) → is_upto a b ≡ true → is_upto b c ≡ true → is_upto a c ≡ true
upto_trans None b c p q = refl
upto_trans (Some k) None c p q = absurd (let wrong : false ≡ true = p in cc)
upto_trans (Some k) (Some l) None p q = absurd (let wrong : false ≡ true = q in cc)
upto_trans (Some k) (Some l) (Some m) p q = elim (upto_cases k l p) [
  | inl less ↦ upto_of k m (below_upto k l m less q)
  | inr same ↦ subst (λ (z : Key). Upto z m) (sym same) q
]

-- entries that differ in their least keys
abbrev pub Differ : Entry → Entry → Type 0
Differ d e = Before d e ⊎ Before e d

-- such entries may take their places in either order
swap_placed : (d e : Entry) (xs : List Entry) → Differ d e → placed_entry d (placed_entry e xs) ≡ placed_entry e (placed_entry d xs)
swap_placed d e [] (inl b) = ap (λ (t : Bool). cond t (d ∷ e ∷ []) (e ∷ d ∷ [])) b.0 ∙ sym (ap (λ (t : Bool). cond t (e ∷ d ∷ []) (d ∷ e ∷ [])) b.1)
swap_placed d e [] (inr b) = ap (λ (t : Bool). cond t (d ∷ e ∷ []) (e ∷ d ∷ [])) b.1 ∙ sym (ap (λ (t : Bool). cond t (e ∷ d ∷ []) (d ∷ e ∷ [])) b.0)
swap_placed d e (x ∷ xs) differ = by (is_upto e.least x.least) (is_upto d.least x.least) refl refl differ (swap_placed d e xs differ)
  where
    at_e : (t : Bool) → is_upto e.least x.least ≡ t → placed_entry e (x ∷ xs) ≡ cond t (e ∷ x ∷ xs) (x ∷ placed_entry e xs)
    at_e t h = ap (λ (b : Bool). cond b (e ∷ x ∷ xs) (x ∷ placed_entry e xs)) h

    at_d : (t : Bool) → is_upto d.least x.least ≡ t → placed_entry d (x ∷ xs) ≡ cond t (d ∷ x ∷ xs) (x ∷ placed_entry d xs)
    at_d t h = ap (λ (b : Bool). cond b (d ∷ x ∷ xs) (x ∷ placed_entry d xs)) h

    wrong : (t : Bool) → t ≡ true → t ≡ false → ⊥
    wrong t p q = let w : true ≡ false = sym p ∙ q in cc

    by : (te td : Bool) → is_upto e.least x.least ≡ te → is_upto d.least x.least ≡ td → Differ d e → placed_entry d (placed_entry e xs) ≡ placed_entry e (placed_entry d xs)
        → placed_entry d (placed_entry e (x ∷ xs)) ≡ placed_entry e (placed_entry d (x ∷ xs))
    by true true he hd (inl b) rec =
        ap (placed_entry d) (at_e true he) ∙ ap (λ (t : Bool). cond t (d ∷ e ∷ x ∷ xs) (e ∷ placed_entry d (x ∷ xs))) b.0
        ∙ sym (ap (placed_entry e) (at_d true hd) ∙ ap (λ (t : Bool). cond t (e ∷ d ∷ x ∷ xs) (d ∷ placed_entry e (x ∷ xs))) b.1 ∙ ap (λ (l : List Entry). d ∷ l) (at_e true he))
    by true true he hd (inr b) rec =
        ap (placed_entry d) (at_e true he) ∙ ap (λ (t : Bool). cond t (d ∷ e ∷ x ∷ xs) (e ∷ placed_entry d (x ∷ xs))) b.1 ∙ ap (λ (l : List Entry). e ∷ l) (at_d true hd)
        ∙ sym (ap (placed_entry e) (at_d true hd) ∙ ap (λ (t : Bool). cond t (e ∷ d ∷ x ∷ xs) (d ∷ placed_entry e (x ∷ xs))) b.0)
    by true false he hd (inl b) rec = absurd (wrong (is_upto d.least x.least) (upto_trans d.least e.least x.least b.0 he) hd)
    by true false he hd (inr b) rec =
        ap (placed_entry d) (at_e true he) ∙ ap (λ (t : Bool). cond t (d ∷ e ∷ x ∷ xs) (e ∷ placed_entry d (x ∷ xs))) b.1 ∙ ap (λ (l : List Entry). e ∷ l) (at_d false hd)
        ∙ sym (ap (placed_entry e) (at_d false hd) ∙ ap (λ (t : Bool). cond t (e ∷ x ∷ placed_entry d xs) (x ∷ placed_entry e (placed_entry d xs))) he)
    by false true he hd (inr b) rec = absurd (wrong (is_upto e.least x.least) (upto_trans e.least d.least x.least b.0 hd) he)
    by false true he hd (inl b) rec =
        ap (placed_entry d) (at_e false he) ∙ ap (λ (t : Bool). cond t (d ∷ x ∷ placed_entry e xs) (x ∷ placed_entry d (placed_entry e xs))) hd
        ∙ sym (ap (placed_entry e) (at_d true hd) ∙ ap (λ (t : Bool). cond t (e ∷ d ∷ x ∷ xs) (d ∷ placed_entry e (x ∷ xs))) b.1 ∙ ap (λ (l : List Entry). d ∷ l) (at_e false he))
    by false false he hd differ rec =
        ap (placed_entry d) (at_e false he) ∙ ap (λ (t : Bool). cond t (d ∷ x ∷ placed_entry e xs) (x ∷ placed_entry d (placed_entry e xs))) hd ∙ ap (λ (l : List Entry). x ∷ l) rec
        ∙ sym (ap (placed_entry e) (at_d false hd) ∙ ap (λ (t : Bool). cond t (e ∷ x ∷ placed_entry d xs) (x ∷ placed_entry e (placed_entry d xs))) he)

-- each entry in a slot
abbrev pub EachSome : (Entry → Type 0) → List (Option Entry) → Type 0
EachSome P [] = Unit {0}
EachSome P (None ∷ es) = EachSome P es
EachSome P (Some e ∷ es) = P e × EachSome P es

pub placed-each : (P : Entry → Type 0) (e : Entry) (xs : List Entry) → Each P (placed_entry e xs) → P e × Each P xs
placed-each P e [] h = (h.0, tt)
placed-each P e (x ∷ xs) h = by (is_upto e.least x.least) h (placed-each P e xs)
  where
    by : (b : Bool) → Each P (cond b (e ∷ x ∷ xs) (x ∷ placed_entry e xs)) → (Each P (placed_entry e xs) → P e × Each P xs) → P e × Each P (x ∷ xs)
    by true h rec = (h.0, h.1)
    by false h rec = let r = rec h.1 in (r.0, (h.0, r.1))

pub each-placed : (P : Entry → Type 0) (e : Entry) (xs : List Entry) → P e → Each P xs → Each P (placed_entry e xs)
each-placed P e [] p h = (p, tt)
each-placed P e (x ∷ xs) p h = by (is_upto e.least x.least) (each-placed P e xs p h.1)
  where
    by : (b : Bool) → Each P (placed_entry e xs) → Each P (cond b (e ∷ x ∷ xs) (x ∷ placed_entry e xs))
    by true rec = (p, h)
    by false rec = (h.0, rec)

pub slots-each : (P : Entry → Type 0) (es : List (Option Entry)) → Each P (in_key_order es) → EachSome P es
slots-each P [] h = tt
slots-each P (None ∷ es) h = slots-each P es h
slots-each P (Some e ∷ es) h = let r = placed-each P e (in_key_order es) h in (r.0, slots-each P es r.1)

pub each-slots : (P : Entry → Type 0) (es : List (Option Entry)) → EachSome P es → Each P (in_key_order es)
each-slots P [] h = tt
each-slots P (None ∷ es) h = each-slots P es h
each-slots P (Some e ∷ es) h = each-placed P e (in_key_order es) h.0 (each-slots P es h.1)

-- one more entry, in the first empty slot
put_is_placed : (e : Entry) (es : List (Option Entry)) → EachSome (λ d. Differ d e) es → in_key_order (put_entry e es) ≡ placed_entry e (in_key_order es)
put_is_placed e [] h = refl
put_is_placed e (None ∷ es) h = refl
put_is_placed e (Some d ∷ es) h = ap (placed_entry d) (put_is_placed e es h.1) ∙ swap_placed d e (in_key_order es) h.0

-- it takes its place between those before it and those behind it
placed_between : (e : Entry) (xs ys : List Entry) → Each (λ x. Before x e) xs → Each (Before e) ys → placed_entry e (xs ++ ys) ≡ xs ++ e ∷ ys
placed_between e [] [] before behind = refl
placed_between e [] (y ∷ ys) before behind = ap (λ (t : Bool). cond t (e ∷ y ∷ ys) (y ∷ placed_entry e ys)) behind.0.0
placed_between e (x ∷ xs) ys before behind = ap (λ (t : Bool). cond t (e ∷ x ∷ (xs ++ ys)) (x ∷ placed_entry e (xs ++ ys))) before.0.1 ∙ ap (λ (l : List Entry). x ∷ l) (placed_between e xs ys before.1 behind)

-- new entries stand between those before them and those behind them
pub put_between : (es : List (Option Entry)) (xs more ys : List Entry) → in_key_order es ≡ xs ++ ys → Rises (xs ++ (more ++ ys)) → in_key_order (put_entries more es) ≡ xs ++ (more ++ ys)
put_between es xs [] ys is r = is
put_between es xs (m ∷ more) ys is r =
    let before : Each (λ x. Before x m) xs = rises-front xs m (more ++ ys) r in
    let tail : Rises (m ∷ (more ++ ys)) = rises-right xs (m ∷ (more ++ ys)) r in
    let behind : Each (Before m) ys = each-right (Before m) more ys tail.0 in
    let differ : Each (λ d. Differ d m) (xs ++ ys) = each-append (λ d. Differ d m) xs ys (each-map (λ x. Before x m) (λ d. Differ d m) xs (λ x b. inl b) before) (each-map (Before m) (λ d. Differ d m) ys (λ y b. inr b) behind) in
    let one : in_key_order (put_entry m es) ≡ (xs ++ m ∷ []) ++ ys =
    put_is_placed m es (slots-each (λ d. Differ d m) es (subst (Each (λ d. Differ d m)) (sym is) differ)) ∙ ap (placed_entry m) is ∙ placed_between m xs ys before behind ∙ sym (append_assoc xs (m ∷ []) ys) in
    put_between (put_entry m es) (xs ++ m ∷ []) more ys one (subst Rises (sym (append_assoc xs (m ∷ []) (more ++ ys))) r) ∙ append_assoc xs (m ∷ []) (more ++ ys)

-- entries that rise stand in key order as they are
pub risen_is : (es : List Entry) → Rises es → in_key_order (map Some es) ≡ es
risen_is [] r = refl
risen_is (e ∷ es) r = ap (placed_entry e) (risen_is es r.1) ∙ placed_between e [] es tt r.0

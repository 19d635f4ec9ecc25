-- Columns that can grow are the first ones of a table definition, and only those.
use Rattle.std.proofs.Common.{◌≡◌, ℕ, zero, suc, ◌+◌, ◌-◌, ◌<◌, ◌≤◌, Bool, true, false, cond, ◌==◌, ◌&&◌, ◌||◌, not, List, [], ◌∷◌, ◌++◌, length, map, get_or, refl, ap, sym, ◌∙◌, arith, inl, inr, append_assoc, length-append, eq-eqb, eqb-true}
use Rattle.std.specs.Prelude.{nat_le}
use Rattle.std.specs.List.{list_all, list_any, range_with_len}
use Rattle.std.specs.Str.{bytes_eq}
use Rattle.std.proofs.lemmas.Bool.{and_parts, cases_lt}
use Rattle.std.proofs.lemmas.List.{append-nil, map-append, length-map}
use Rattle.std.proofs.lemmas.List.Folds.{list_all-append, list_any-append}
use Rattle.page_base.specs.declared.column.Column.{Column}
use Rattle.page_base.specs.declared.column.ColType.TheVariants as types
use Rattle.plain_model.specs.Sound.{are_distinct, is_column, has_place, is_definition}
use Rattle.sys_cat.specs.Growing.{count_at, key_size, top, span, are_once, names_fit, places_fit, can_grow, is_whole}
use Rattle.sys_cat.specs.Lists.{AreNamed}
use Rattle.sys_cat.proofs.CountLemmas.{total, above_next, size_is, none_behind, top_within, total_ones, total_within, ones, missing, in_range, of_range, le_is, is_le, once_each, each_once, count-append, size-append, top-append, few_keys}
use Rattle.sys_cat.proofs.FreshLemmas.{fresh, fresh_name, none_fresh}

pub both : (a b : Bool) → a ≡ true → b ≡ true → (a && b) ≡ true
both a b e f = ap (λ (x : Bool). x && b) e ∙ f

-- what a definition says
pub record Defined (cols : List Column) : Type 0 where
  pub few : length cols ≤ 64
  pub names : are_distinct (map (λ c. c.name) cols) ≡ true
  pub columns : list_all is_column cols ≡ true
  pub some : 1 ≤ key_size cols
  pub most : key_size cols ≤ 16
  pub places : (p : ℕ) → 1 ≤ p → p ≤ key_size cols → count_at cols p ≡ 1

pub defined : (cols : List Column) → is_definition cols ≡ true → Defined cols
defined cols h =
    let n = key_size cols in
    let a = and_parts (nat_le (length cols) 64) (are_distinct (map (λ c. c.name) cols) && (list_all is_column cols && (nat_le 1 n && (nat_le n 16 && list_all (has_place cols) (range_with_len 1 n))))) h in
    let b = and_parts (are_distinct (map (λ c. c.name) cols)) (list_all is_column cols && (nat_le 1 n && (nat_le n 16 && list_all (has_place cols) (range_with_len 1 n)))) a.1 in
    let c = and_parts (list_all is_column cols) (nat_le 1 n && (nat_le n 16 && list_all (has_place cols) (range_with_len 1 n))) b.1 in
    let d = and_parts (nat_le 1 n) (nat_le n 16 && list_all (has_place cols) (range_with_len 1 n)) c.1 in
    let e = and_parts (nat_le n 16) (list_all (has_place cols) (range_with_len 1 n)) d.1 in
    record {
      few = le_is (length cols) 64 a.0;
      names = b.0;
      columns = c.0;
      some = le_is 1 n d.0;
      most = le_is n 16 e.0;
      places = λ p l m. eqb-true (count_at cols p) 1 (in_range (has_place cols) 1 n e.1 p l (omega arith));
    }

pub definition : (cols : List Column) → Defined cols → is_definition cols ≡ true
definition cols d =
    let n = key_size cols in
    both (nat_le (length cols) 64) _ (is_le (length cols) 64 d.few) (both (are_distinct (map (λ c. c.name) cols)) _ d.names (both (list_all is_column cols) _ d.columns (both (nat_le 1 n) _ (is_le 1 n d.some) (both (nat_le n 16) _ (is_le n 16 d.most)
    (of_range (has_place cols) 1 n (λ p l m. eq-eqb (count_at cols p) 1 (d.places p l (omega arith))))))))

-- what can grow
pub record Grows (cols : List Column) : Type 0 where
  pub names : are_distinct (map (λ c. c.name) cols) ≡ true
  pub columns : list_all is_column cols ≡ true
  pub most : span cols ≤ 16
  pub once : (p : ℕ) → 1 ≤ p → p ≤ span cols → count_at cols p ≤ 1
  pub room : length cols + span cols ≤ 64 + key_size cols

pub grows : (cols : List Column) → can_grow cols ≡ true → Grows cols
grows cols h =
    let a = and_parts (names_fit cols) (places_fit cols) h in
    let b = and_parts (are_distinct (map (λ c. c.name) cols)) (list_all is_column cols) a.0 in
    let c = and_parts (nat_le (span cols) 16) (are_once cols (span cols) && nat_le (length cols + span cols) (64 + key_size cols)) a.1 in
    let d = and_parts (are_once cols (span cols)) (nat_le (length cols + span cols) (64 + key_size cols)) c.1 in
    record { names = b.0; columns = b.1; most = le_is (span cols) 16 c.0; once = once_each cols (span cols) d.0; room = le_is (length cols + span cols) (64 + key_size cols) d.1 }

pub can : (cols : List Column) → Grows cols → can_grow cols ≡ true
can cols g =
    both (names_fit cols) (places_fit cols) (both (are_distinct (map (λ c. c.name) cols)) (list_all is_column cols) g.names g.columns)
    (both (nat_le (span cols) 16) _ (is_le (span cols) 16 g.most) (both (are_once cols (span cols)) _ (each_once cols (span cols) g.once) (is_le (length cols + span cols) (64 + key_size cols) g.room)))

-- the key's places, and how many columns have them
pub size_within : (cols : List Column) → Grows cols → total cols (span cols) ≡ key_size cols
size_within cols g =
    let a = size_is (span cols) cols in
    let b = none_behind (span cols) cols (omega arith) in
    omega arith

-- WHOLE

pub whole_is : (cols : List Column) → can_grow cols ≡ true → is_whole cols ≡ true → is_definition cols ≡ true
whole_is cols h w =
    let g = grows cols h in
    let same : key_size cols ≡ span cols = eqb-true (key_size cols) (span cols) w in
    let t : total cols (span cols) ≡ span cols = size_within cols g ∙ same in
    definition cols (record {
      few = let r = g.room in omega arith;
      names = g.names;
      columns = g.columns;
      some = omega arith;
      most = let r = g.most in omega arith;
      places = λ p l m. ones cols (span cols) g.once t p l (omega arith);
    })

-- no place is behind the last one
keys_end : (cols : List Column) → Defined cols → top cols ≤ key_size cols
keys_end cols d =
    let n = key_size cols in
    let a = size_is n cols in
    let b = total_ones cols n d.places in
    top_within n cols (omega arith)

pub is_whole_definition : (cols : List Column) → is_definition cols ≡ true → is_whole cols ≡ true
is_whole_definition cols h =
    let d = defined cols h in
    let n = key_size cols in
    let some = d.some in
    let within = keys_end cols d in
    let r = nat_at n some in
    let last : count_at cols (suc r.0) ≡ 1 = ap (count_at cols) (sym r.1) ∙ d.places n some (omega arith) in
    let more = above_next r.0 cols in
    let reaches : n ≤ top cols = elim (cases_lt r.0 (top cols)) [
      | inl lt ↦ omega (arith, r.1)
      | inr past ↦ let none = none_behind r.0 cols past in absurd (omega arith)
    ] in
    eq-eqb n (span cols) (omega arith)
  where
    nat_at : (n : ℕ) → 1 ≤ n → (m : ℕ) × (n ≡ suc m)
    nat_at zero h = absurd (omega arith)
    nat_at (suc m) h = (m, refl)

-- FRONTS

distinct_front : (xs ys : List (List ℕ)) → are_distinct (xs ++ ys) ≡ true → are_distinct xs ≡ true
distinct_front [] ys h = refl
distinct_front (x ∷ xs) ys h =
    let parts = and_parts (not (list_any (bytes_eq x) (xs ++ ys))) (are_distinct (xs ++ ys)) h in
    both (not (list_any (bytes_eq x) xs)) (are_distinct xs) (by (list_any (bytes_eq x) xs) (list_any (bytes_eq x) ys) (ap not (sym (list_any-append (bytes_eq x) xs ys)) ∙ parts.0)) (distinct_front xs ys parts.1)
  where
    by : (a b : Bool) → not (a || b) ≡ true → not a ≡ true
    by true b e = e
    by false b e = refl

pub front_grows : (xs ys : List Column) → is_definition (xs ++ ys) ≡ true → can_grow xs ≡ true
front_grows xs ys h =
    let d = defined (xs ++ ys) h in
    let n = key_size (xs ++ ys) in
    let sizes = size-append xs ys in
    let lengths = length-append xs ys in
    let ends = keys_end (xs ++ ys) d in
    let tops = top-append xs ys in
    let few = few_keys ys in
    let some = d.some in
    let most = d.most in
    let short = d.few in
    let within : span xs ≤ n = omega arith in
    can xs (record {
      names = distinct_front (map (λ c. c.name) xs) (map (λ c. c.name) ys) (ap are_distinct (sym (map-append (λ (c : Column). c.name) xs ys)) ∙ d.names);
      columns = (and_parts (list_all is_column xs) (list_all is_column ys) (sym (list_all-append is_column xs ys) ∙ d.columns)).0;
      most = omega arith;
      once = λ p l m. let c = d.places p l (omega arith) in let e = count-append xs ys p in omega arith;
      room = omega arith;
    })

-- WITH MORE

distinct_more : (xs : List (List ℕ)) (y : List ℕ) → are_distinct xs ≡ true → ((j : ℕ) → j < length xs → bytes_eq (get_or xs j []) y ≡ false) → are_distinct (xs ++ y ∷ []) ≡ true
distinct_more [] y h apart = refl
distinct_more (x ∷ xs) y h apart =
    let parts = and_parts (not (list_any (bytes_eq x) xs)) (are_distinct xs) h in
    both (not (list_any (bytes_eq x) (xs ++ y ∷ []))) (are_distinct (xs ++ y ∷ []))
    (ap not (list_any-append (bytes_eq x) xs (y ∷ [])) ∙ by (list_any (bytes_eq x) xs) (bytes_eq x y) parts.0 (apart 0 (omega arith)))
    (distinct_more xs y parts.1 (λ j lt. apart (suc j) (omega arith)))
  where
    by : (a b : Bool) → not a ≡ true → b ≡ false → not (a || (b || false)) ≡ true
    by true b e f = e
    by false true e f = let g : true ≡ false = f in cc
    by false false e f = refl

pub named_append : (xs ys : List Column) → AreNamed xs → AreNamed ys → AreNamed (xs ++ ys)
named_append [] ys a b = b
named_append (x ∷ xs) ys a b = (a.0, named_append xs ys a.1 b)

-- the columns that make them whole
pub record Rest (cols : List Column) : Type 0 where
  pub more : List Column
  pub named : AreNamed more
  pub sound : is_definition (cols ++ more) ≡ true

key_column : List Column → ℕ → Column
key_column cols p = record { name = fresh (map (λ c. c.name) cols); kind = types.Int; nullable = false; key = p }

-- one more column, of a place that was missing
once_with : (cols : List Column) (c : Column) (q : ℕ) → count_at cols c.key ≡ 0 → count_at cols q ≤ 1 → count_at (cols ++ c ∷ []) q ≤ 1
once_with cols c q none few = by (c.key == q) refl
  where
    by : (b : Bool) → (c.key == q) ≡ b → count_at (cols ++ c ∷ []) q ≤ 1
    by true e =
        let s = count-append cols (c ∷ []) q in
        let one : count_at (c ∷ []) q ≡ 1 = ap (λ (t : Bool). length (cond t (c ∷ []) [])) e in
        let same : count_at cols q ≡ 0 = ap (count_at cols) (sym (eqb-true c.key q e)) ∙ none in
        omega arith
    by false e =
        let s = count-append cols (c ∷ []) q in
        let one : count_at (c ∷ []) q ≡ 0 = ap (λ (t : Bool). length (cond t (c ∷ []) [])) e in
        omega arith

rest_by : (m : ℕ) (cols : List Column) → span cols ≡ key_size cols + m → can_grow cols ≡ true → Rest cols
unfolding key_column
rest_by zero cols e h =
    let w : is_whole cols ≡ true = eq-eqb (key_size cols) (span cols) (omega arith) in
    record { more = []; named = tt; sound = ap is_definition (append-nil cols) ∙ whole_is cols h w }
rest_by (suc m) cols e h =
    let g = grows cols h in
    let p = missing cols (span cols) (let t = size_within cols g in omega arith) in
    let c : Column = key_column cols p.0 in
    let low = p.1 in
    let high = p.2 in
    let none = p.3 in
    let tops = top-append cols (c ∷ []) in
    let sizes = size-append cols (c ∷ []) in
    let one : key_size (c ∷ []) ≡ 1 = one_key p.0 low in
    let lengths = length-append cols (c ∷ []) in
    let same : span (cols ++ c ∷ []) ≡ span cols = omega arith in
    let room = g.room in
    let short : length cols < 64 = omega arith in
    let names = map (λ (d : Column). d.name) cols in
    let r = rest_by m (cols ++ c ∷ []) (omega arith) (can (cols ++ c ∷ []) (record {
      names = ap are_distinct (map-append (λ (d : Column). d.name) cols (c ∷ [])) ∙ distinct_more names c.name g.names (λ j lt. none_fresh names j lt);
      columns = list_all-append is_column cols (c ∷ []) ∙ ap (λ b. b && true) g.columns;
      most = let most = g.most in omega arith;
      once = λ q l k. once_with cols c q none (g.once q l (omega arith));
      room = omega arith;
    })) in
    record {
      more = c ∷ r.more;
      named = (fresh_name names (let long = length-map cols (λ (d : Column). d.name) in omega arith), r.named);
      sound = ap is_definition (sym (append_assoc cols (c ∷ []) r.more)) ∙ r.sound;
    }
  where
    one_key : (p : ℕ) → 1 ≤ p → key_size (record { name = fresh (map (λ c. c.name) cols); kind = types.Int; nullable = false; key = p } ∷ []) ≡ 1
    one_key p h = ap (λ (t : Bool). length (cond t (key_column cols p ∷ []) [])) (is_le 1 p h)

pub rest_of : (cols : List Column) → can_grow cols ≡ true → Rest cols
rest_of cols h =
    let g = grows cols h in
    let t = size_within cols g in
    let within : total cols (span cols) ≤ span cols = total_within cols (span cols) g.once in
    rest_by (span cols - key_size cols) cols (omega arith) h

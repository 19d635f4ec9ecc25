-- A call on one file of several, seen on all of them.
use Rattle.std.proofs.Common.{suc, zero, get_or-set_same, ◌≡◌, ℕ, ◌+◌, ◌-◌, ◌^◌, ◌<◌, ◌≤◌, min, take, inl, inr, Bool, true, false, ◌&&◌, IsTrue, zero-add, List, [], ◌∷◌, ◌++◌, length, map, get_or, refl, ap, sym, ◌∙◌, subst, arith, Result, OnErr}
use Rattle.std.proofs.Math.ListN.{set, length-map}
use Rattle.std.proofs.Math.Seq.{map-set_same}
use Rattle.std.proofs.lemmas.Bool.{cases_lt}
use Rattle.std.proofs.lemmas.List.{get_or_past, get_or-map, map-set, map_more, take_all}
use Rattle.std.specs.Prelude.{sum}
use Rattle.std.proofs.lemmas.List.Sums.{sum_by-set, sum_by-append}
use Rattle.std.proofs.lemmas.Result.{on_err_weaker}
use Rattle.page_base.specs.declared.numbers.PageId.{PageId}
use Rattle.page_base.specs.Pages.{Pages, image_at, page_or, with_page, shape, blank}
use Rattle.page_base.proofs.PagesLemmas.{page_or-with_page_same}
use Rattle.page_dev.specs.Faults.{HasCause, HasCauseAt, Rose, total}
use Rattle.page_dev.specs.PageFile.{FilePages, file_page, WritesPage}
use Rattle.page_dev.specs.Files.{all_true, called, Writes}

-- a number below what stands at a place, so the place is there
pub place_there : (xs : List ℕ) (i n : ℕ) → n < get_or xs i 0 → i < length xs
place_there xs i n h =
    elim (cases_lt i (length xs)) [
      | inl lt ↦ lt
      | inr past ↦ let e : get_or xs i 0 ≡ 0 = get_or_past xs i 0 past in absurd (omega arith)
    ]

pub place_there_by : (xs ys : List ℕ) (i n : ℕ) → n < get_or xs i 0 → length ys ≡ length xs → i < length ys
place_there_by xs ys i n h e = omega (arith, place_there xs i n h)

and_left : (a b : Bool) → IsTrue (a && b) → IsTrue a
and_left true b h = refl
and_left false b h = h

and_right : (a b : Bool) → IsTrue (a && b) → IsTrue b
and_right true b h = h
and_right false b h = cc

pub all_true_at : {F : Type 0} (tells : F → Bool) (files : List F) (i : ℕ) (d : F) → i < length files → IsTrue (all_true (map tells files)) → IsTrue (tells (get_or files i d))
all_true_at tells [] i d h t = absurd (omega arith)
all_true_at tells (f ∷ fs) zero d h t = and_left (tells f) (all_true (map tells fs)) t
all_true_at tells (f ∷ fs) (suc i) d h t = all_true_at tells fs i d (omega arith) (and_right (tells f) (all_true (map tells fs)) t)

module _ {F X : Type 0} (f : F → X) (files : List F) (i : ℕ) (old new : F) (at : old ≡ get_or files i old) where
  -- what the call keeps
  pub kept : (xs : List X) → map f files ≡ xs → f new ≡ f old → map f (set files i new) ≡ xs
  kept xs e same = map-set_same f files i new old (same ∙ ap f at) ∙ e

  -- what it changes
  pub moved : (xs : List X) → map f files ≡ xs → map f (set files i new) ≡ set xs i (f new)
  moved xs e = map-set f files i new ∙ ap (λ l. set l i (f new)) e

  pub here : (xs : List X) (d : X) → i < length files → map f files ≡ xs → get_or xs i d ≡ f old
  here xs d h e = ap (λ l. get_or l i d) (sym e) ∙ get_or-map f files i old d h ∙ ap f (sym at)

-- one call more on a file
pub one_call : {F : Type 0} (calls : F → ℕ) (files : List F) (i : ℕ) (old new : F) (xs : List ℕ) → old ≡ get_or files i old → i < length files → map calls files ≡ xs → calls new ≡ calls old + 1 → map calls (set files i new) ≡ called xs i
one_call calls files i old new xs at lt e more = moved calls files i old new at xs e ∙ ap (set xs i) (more ∙ ap (λ n. n + 1) (sym (here calls files i old new at xs 0 lt e)))

-- faults
pub faulted : {F T E : Type 0} (faults : F → ℕ) (files : List F) (i : ℕ) (old new : F) (xs : List ℕ) (result : Result T E) → old ≡ get_or files i old → i < length files → map faults files ≡ xs → HasCause (faults old) (faults new) result → HasCauseAt i xs (map faults (set files i new)) result
faulted faults files i old new xs result at lt e cause =
    let is : map faults (set files i new) ≡ set xs i (faults new) = moved faults files i old new at xs e in
    let before : get_or xs i 0 ≡ faults old = here faults files i old new at xs 0 lt e in
    let within : i < length xs = omega (arith, ap length e, length-map files faults) in
    let after : get_or (map faults (set files i new)) i 0 ≡ faults new = ap (λ l. get_or l i 0) is ∙ get_or-set_same xs i (faults new) 0 within in
    record {
      others = is ∙ ap (set xs i) (sym after);
      later = omega (arith, cause.later);
      failed = subst (λ n. OnErr result (Rose n (get_or (map faults (set files i new)) i 0))) (sym before) (subst (λ n. OnErr result (Rose (faults old) n)) (sym after) cause.failed);
    }

-- a page that was written
pub writes : {F T E : Type 0} (content : F → FilePages) (files : List F) (p : PageId) (old new : F) (pages : Pages (List ℕ)) (bytes : List ℕ) (result : Result T E) → old ≡ get_or files p.file old → p.file < length files → map content files ≡ pages → p.page < length (content old) → WritesPage p.page bytes (content old) (content new) result → Writes p bytes pages (map content (set files p.file new)) result
unfolding with_page
writes content files p old new pages bytes result at lt e has w =
    let row : get_or pages p.file [] ≡ content old = here content files p.file old new at pages [] lt e in
    let is : map content (set files p.file new) ≡ with_page pages p w.left = moved content files p.file old new at pages e ∙ ap (set pages p.file) (w.is ∙ ap (λ file. set file p.page w.left) (sym row)) in
    record {
      left = w.left;
      is = is;
      here = ap (λ x. image_at x p) is ∙ page_or-with_page_same pages p w.left blank (subst (λ file. p.page < length file) (sym row) has);
      ok = w.ok;
    }

-- a page that was read
pub reads : {F : Type 0} (content : F → FilePages) (files : List F) (p : PageId) (old : F) (pages : Pages (List ℕ)) → old ≡ get_or files p.file old → p.file < length files → map content files ≡ pages → file_page (content old) p.page ≡ image_at pages p
unfolding page_or
reads content files p old pages at lt e = ap (λ file. get_or file p.page blank) (sym (here content files p.file old old at pages [] lt e))

-- counts and their sum
risen : (b y s t m : ℕ) → t + b ≡ s + y → b ≤ s → min (b + 1) m ≤ y → min (min s m + 1) m ≤ min t m
risen b y s t m e le h = omega arith

pub caused_sum : {T E : Type 0} (place : ℕ) (before now : List ℕ) (result : Result T E) → place < length before → HasCauseAt place before now result → HasCause (total before) (total now) result
caused_sum place before now result lt cause =
    let b : ℕ = get_or before place 0 in
    let y : ℕ = get_or now place 0 in
    let moved : sum now + b ≡ sum before + y = ap (λ counts. sum counts + b) cause.others ∙ sum_by-set (λ x. x) before place y 0 lt in
    let part : sum (set before place 0) + b ≡ sum before + 0 = sum_by-set (λ x. x) before place 0 0 lt in
    let within : b ≤ sum before = omega arith in
    let later : b ≤ y = cause.later in
    let less : sum before ≤ sum now = omega arith in
    record {
      later = omega arith;
      failed = on_err_weaker result (risen b y (sum before) (sum now) (2 ^ 64 - 1) moved within) cause.failed;
    }

-- one file more
pub total_more : {F : Type 0} (faults : F → ℕ) (files : List F) (i count new : ℕ) (file : F) → i < length files → file ≡ get_or files i file → new ≡ min (count + faults file) (2 ^ 64 - 1) → count ≡ total (map faults (take i files)) → new ≡ total (map faults (take (i + 1) files))
total_more faults files i count new file lt at is e =
    let more : sum (map faults (take (i + 1) files)) ≡ sum (map faults (take i files)) + faults file =
    ap sum (map_more faults files i file lt ∙ ap (λ f. map faults (take i files) ++ faults f ∷ []) (sym at))
    ∙ sum_by-append (λ x. x) (map faults (take i files)) (faults file ∷ [])
    ∙ ap (λ n. sum (map faults (take i files)) + n) (zero-add (faults file)) in
    omega arith

pub total_all : {F : Type 0} (faults : F → ℕ) (files items : List F) (counts : List ℕ) (i count : ℕ) → length items ≤ i → items ≡ files → map faults files ≡ counts → count ≡ total (map faults (take i items)) → count ≡ total counts
total_all faults files items counts i count past same e h = h ∙ ap (λ fs. total (map faults fs)) (take_all i items past ∙ same) ∙ ap total e

-- two counts of the same files
pub alike : {F : Type 0} (f g : F → ℕ) (files : List F) (xs ys : List ℕ) → map f files ≡ xs → map g files ≡ ys → length ys ≡ length xs
alike f g files xs ys e h = ap length (sym h) ∙ length-map files g ∙ sym (length-map files f) ∙ ap length e

-- where all tell, each has as many pages as it counts
pub counted : {F : Type 0} (tells : F → Bool) (content : F → FilePages) (count : F → ℕ) → ((f : F) → IsTrue (tells f) → length (content f) ≡ count f) → (files : List F) → IsTrue (all_true (map tells files)) → shape (map content files) ≡ map count files
counted tells content count law [] t = refl
counted tells content count law (f ∷ fs) t = λ i. law f (and_left (tells f) (all_true (map tells fs)) t) i ∷ counted tells content count law fs (and_right (tells f) (all_true (map tells fs)) t) i

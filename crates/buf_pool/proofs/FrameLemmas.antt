-- What a change of one page's frame leaves.
use Rattle.std.proofs.Common.{◌≡◌, ◌<◌, arith, true, false, cond, Bool, IsTrue, List, Option, None, Some, is_some, refl, sym, ap, ◌∙◌, subst, slice_index, [], ◌∷◌}
use Rattle.std.specs.Prelude.{Result, Ok, Err, OnErr}
use Rattle.std.specs.Cmp.{IsEquivalence}
use Rattle.std.specs.Option.{option_map_or}
use Rattle.std.specs.Map.{lookup, keys_of, remove_entry, set_value}
use Rattle.std.specs.List.{IsDistinct}
use Rattle.std.proofs.lemmas.Map.{lookup-set_value, lookup-remove_entry}
use Rattle.page_base.specs.declared.numbers.PageId.{PageId}
use Rattle.page_base.specs.Pages.{image_at, is_page}
use Rattle.page_base.proofs.PagesLemmas.{is_page-same, is_page-true, is_page-other}
use Rattle.page_fmt.specs.Content.{IsPage}
use Rattle.buf_pool.specs.declared.frame.Frame.{Frame}
use Rattle.buf_pool.specs.Pool.{Pooled, IsPooled, IsSound, IsPinned, frame_of}
use Rattle.buf_pool.specs.Steps.{Changes}

pub by_bool : {P : Type 0} (b : Bool) → (b ≡ true → P) → (b ≡ false → P) → P
by_bool true t f = t refl
by_bool false t f = f refl

pub no : {P : Type 0} → true ≡ false → P
no e = cc

pub symm : (p q : PageId) → is_page p q ≡ is_page q p
symm p q = by_bool (is_page p q)
    (λ t. t ∙ sym (ap (λ r. is_page r p) (sym (is_page-true p q t)) ∙ is_page-same p))
    (λ f. f ∙ sym (is_page-other q p (λ e. no (sym (ap (λ r. is_page p r) (sym e) ∙ is_page-same p) ∙ f))))

pub is_page-equivalence : IsEquivalence is_page
is_page-equivalence = record { refl = is_page-same; symm = symm; congr = λ x y z h. ap (λ r. is_page r z) (is_page-true x y h) }

one : (p x y : PageId) → is_page p x ≡ true → is_page p y ≡ is_page x y
one p x y h = ap (λ r. is_page r y) (is_page-true p x h)

module _ (es : List (PageId × Frame)) (p : PageId) where
  -- a frame that is written
  pub Changes-set : (w : Frame) → is_some (lookup (is_page p) es) ≡ true → Changes p (Some w) es (set_value (is_page p) es w)
  Changes-set w h q = lookup-set_value is_page-equivalence (is_page p) (one p) q w es h

  -- a frame that is taken out
  pub Changes-remove : IsDistinct is_page (keys_of es) → Changes p None es (remove_entry (is_page p) es)
  Changes-remove d q = lookup-remove_entry is_page-equivalence (is_page p) (one p) q es d

module _ (p : PageId) (f : Option Frame) (old new : List (PageId × Frame)) (changes : Changes p f old new) where
  -- what is read of a frame changes at the page alone
  pub read-changed : {X : Type 0} (r : Frame → X) (d : PageId → X) (x : X) → option_map_or r f (d p) ≡ x
      → (q : PageId) → option_map_or r (lookup (is_page q) new) (d q) ≡ cond (is_page p q) x (option_map_or r (lookup (is_page q) old) (d q))
  read-changed r d x is q = ap (λ o. option_map_or r o (d q)) (changes q) ∙ by_bool (is_page p q)
      (λ t. ap (λ b. option_map_or r (cond b f (lookup (is_page q) old)) (d q)) t ∙ ap (λ s. option_map_or r f (d s)) (sym (is_page-true p q t)) ∙ is ∙ sym (ap (λ b. cond b x (option_map_or r (lookup (is_page q) old) (d q))) t))
      (λ n. ap (λ b. option_map_or r (cond b f (lookup (is_page q) old)) (d q)) n ∙ sym (ap (λ b. cond b x (option_map_or r (lookup (is_page q) old) (d q))) n))

  -- and not there either, where the new frame shows the same
  pub read-kept : {X : Type 0} (r : Frame → X) (d : PageId → X) → option_map_or r f (d p) ≡ option_map_or r (lookup (is_page p) old) (d p)
      → (q : PageId) → option_map_or r (lookup (is_page q) new) (d q) ≡ option_map_or r (lookup (is_page q) old) (d q)
  read-kept r d is q = read-changed r d (option_map_or r (lookup (is_page p) old) (d p)) is q ∙ by_bool (is_page p q)
      (λ t. ap (λ b. cond b (option_map_or r (lookup (is_page p) old) (d p)) (option_map_or r (lookup (is_page q) old) (d q))) t ∙ ap (λ s. option_map_or r (lookup (is_page s) old) (d s)) (is_page-true p q t))
      (λ n. ap (λ b. cond b (option_map_or r (lookup (is_page p) old) (d p)) (option_map_or r (lookup (is_page q) old) (d q))) n)

-- what holds of each frame holds still
module _ (v : Pooled) (es : List (PageId × Frame)) where
  pub sound-changed : (p : PageId) (f : Frame) → Changes p (Some f) v.entries es → IsSound v → p.page < slice_index v.files.counts p.file → IsPage f.image
      → (IsTrue v.files.tells → f.dirty ≡ false → f.image ≡ image_at v.files.content p) → IsSound (record v { entries = es })
  sound-changed p f changes sound there page clean = record {
    few = sound.few;
    there = λ q h. by_bool (is_page p q)
        (λ t. subst (λ (r : PageId). r.page < slice_index v.files.counts r.file) (is_page-true p q t) there)
        (λ n. sound.there q (sym (ap is_some (changes q ∙ ap (λ b. cond b (Some f) (lookup (is_page q) v.entries)) n)) ∙ h));
    spelled = λ q h. by_bool (is_page p q)
        (λ t. subst IsPage (sym (ap (λ o. option_map_or (λ (g : Frame). g.image) o (image_at v.files.content q)) (changes q ∙ ap (λ b. cond b (Some f) (lookup (is_page q) v.entries)) t))) page)
        (λ n. let same = changes q ∙ ap (λ b. cond b (Some f) (lookup (is_page q) v.entries)) n in
        subst IsPage (sym (ap (λ o. option_map_or (λ (g : Frame). g.image) o (image_at v.files.content q)) same)) (sound.spelled q (sym (ap is_some same) ∙ h)));
    clean = λ told q h. by_bool (is_page p q)
        (λ t. let same = changes q ∙ ap (λ b. cond b (Some f) (lookup (is_page q) v.entries)) t in
        ap (λ o. option_map_or (λ (g : Frame). g.image) o (image_at v.files.content q)) same
        ∙ clean told (sym (ap (λ o. option_map_or (λ (g : Frame). g.dirty) o false) same) ∙ h) ∙ ap (image_at v.files.content) (is_page-true p q t))
        (λ n. let same = changes q ∙ ap (λ b. cond b (Some f) (lookup (is_page q) v.entries)) n in
        ap (λ o. option_map_or (λ (g : Frame). g.image) o (image_at v.files.content q)) same
        ∙ sound.clean told q (sym (ap (λ o. option_map_or (λ (g : Frame). g.dirty) o false) same) ∙ h));
  }

-- a change of a page that is in memory brings none in
pub absent_stays : (p : PageId) (f : Option Frame) (old new : List (PageId × Frame)) → Changes p f old new → is_some (lookup (is_page p) old) ≡ true → (q : PageId) → lookup (is_page q) old ≡ None → lookup (is_page q) new ≡ None
absent_stays p f old new changes there q h = by_bool (is_page p q)
    (λ t. no (sym (sym (ap is_some h) ∙ ap (λ r. is_some (lookup (is_page r) old)) (sym (is_page-true p q t)) ∙ there)))
    (λ n. changes q ∙ ap (λ b. cond b f (lookup (is_page q) old)) n ∙ h)

-- a pinned page is in memory
pub pinned_there : (v : Pooled) (p : PageId) → IsPinned v p → IsPooled v p
pinned_there v p h = by_option (frame_of v p) h
  where
    by_option : (o : Option Frame) → 0 < option_map_or (λ (f : Frame). f.pins) o 0 → is_some o ≡ true
    by_option None h = absurd (omega (arith, h))
    by_option (Some f) h = refl

-- a frame that is written as it was
pub set-same : (p : PageId) (es : List (PageId × Frame)) (f : Frame) → lookup (is_page p) es ≡ Some f → set_value (is_page p) es f ≡ es
set-same p [] f h = no (sym (ap is_some h))
set-same p (e ∷ es) f h = by_bool (is_page p e.0)
    (λ t. let same : f ≡ e.1 = sym (ap (λ o. option_map_or (λ (x : Frame). x) o f) (sym (ap (λ b. cond b (Some e.1) (lookup (is_page p) es)) t) ∙ h)) in
    ap (λ b. cond b ((e.0, f) ∷ es) (e ∷ set_value (is_page p) es f)) t ∙ ap (λ x. (e.0, x) ∷ es) same)
    (λ n. ap (λ b. cond b ((e.0, f) ∷ es) (e ∷ set_value (is_page p) es f)) n ∙ ap (λ l. e ∷ l) (set-same p es f (sym (ap (λ b. cond b (Some e.1) (lookup (is_page p) es)) n) ∙ h)))

-- what is known anyway is known of a refusal
pub on_err : {T E P : Type 0} (r : Result T E) → P → OnErr r P
on_err (Ok x) known = tt
on_err (Err e) known = known

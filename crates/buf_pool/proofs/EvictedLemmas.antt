-- A page is taken out of memory.
use Rattle.std.proofs.Common.{◌≡◌, ◌<◌, arith, true, false, cond, IsTrue, None, is_some, refl, sym, ap, ◌∙◌, subst}
use Rattle.std.specs.Option.{option_map_or}
use Rattle.std.specs.Map.{lookup, keys_of, remove_entry}
use Rattle.std.specs.List.{IsDistinct}
use Rattle.page_base.specs.declared.numbers.PageId.{PageId}
use Rattle.page_base.specs.Pages.{image_at, is_page}
use Rattle.page_base.proofs.PagesLemmas.{is_page-same, is_page-true}
use Rattle.page_fmt.specs.Content.{IsPage}
use Rattle.buf_pool.specs.declared.frame.Frame.{Frame}
use Rattle.buf_pool.specs.Pool.{Pooled, IsSound, IsPinned, img, pins}
use Rattle.buf_pool.specs.Steps.{Changes, Stays}
use Rattle.buf_pool.proofs.FrameLemmas.{read-kept, by_bool, Changes-remove, absent_stays, no}

-- a page that is taken out: it isn't pinned, and its file has what it shows
module _ (v : Pooled) (p : PageId) (distinct : IsDistinct is_page (keys_of v.entries)) where
  abbrev pub evicted : Pooled
  evicted = record v { entries = remove_entry (is_page p) v.entries }

  pub changes-evicted : Changes p None v.entries evicted.entries
  changes-evicted = Changes-remove v.entries p distinct

  pub gone : lookup (is_page p) evicted.entries ≡ None
  gone = changes-evicted p ∙ ap (λ b. cond b None (lookup (is_page p) v.entries)) (is_page-same p)

  pub img-evicted : img v p ≡ image_at v.files.content p → img evicted ≡ img v
  img-evicted e = λ i q. read-kept p None v.entries evicted.entries changes-evicted (λ (f : Frame). f.image) (image_at v.files.content) (sym e) q i

  pub pins-evicted : pins v p ≡ 0 → pins evicted ≡ pins v
  pins-evicted e = λ i q. read-kept p None v.entries evicted.entries changes-evicted (λ (f : Frame). f.pins) (λ _. 0) (sym e) q i

  pub sound-evicted : IsSound v → IsSound evicted
  sound-evicted sound = record {
    few = sound.few;
    there = λ q h. by_bool (is_page p q)
        (λ t. no (sym (sym (ap is_some (changes-evicted q ∙ ap (λ b. cond b None (lookup (is_page q) v.entries)) t)) ∙ h)))
        (λ n. sound.there q (sym (ap is_some (changes-evicted q ∙ ap (λ b. cond b None (lookup (is_page q) v.entries)) n)) ∙ h));
    spelled = λ q h. by_bool (is_page p q)
        (λ t. no (sym (sym (ap is_some (changes-evicted q ∙ ap (λ b. cond b None (lookup (is_page q) v.entries)) t)) ∙ h)))
        (λ n. let same = changes-evicted q ∙ ap (λ b. cond b None (lookup (is_page q) v.entries)) n in
        subst IsPage (sym (ap (λ o. option_map_or (λ (g : Frame). g.image) o (image_at v.files.content q)) same)) (sound.spelled q (sym (ap is_some same) ∙ h)));
    clean = λ told q h. by_bool (is_page p q)
        (λ t. ap (λ o. option_map_or (λ (g : Frame). g.image) o (image_at v.files.content q)) (changes-evicted q ∙ ap (λ b. cond b None (lookup (is_page q) v.entries)) t))
        (λ n. let same = changes-evicted q ∙ ap (λ b. cond b None (lookup (is_page q) v.entries)) n in
        ap (λ o. option_map_or (λ (g : Frame). g.image) o (image_at v.files.content q)) same
        ∙ sound.clean told q (sym (ap (λ o. option_map_or (λ (g : Frame). g.dirty) o false) same) ∙ h));
  }

  pub held-evicted : pins v p ≡ 0 → (q : PageId) → IsPinned v q → img evicted q ≡ img v q
  held-evicted none q pinned = by_bool (is_page p q)
      (λ t. let nothing : 0 < 0 = subst (λ n. 0 < n) (ap (pins v) (sym (is_page-true p q t)) ∙ none) pinned in absurd (omega (arith, nothing)))
      (λ n. ap (λ o. option_map_or (λ (f : Frame). f.image) o (image_at v.files.content q)) (changes-evicted q ∙ ap (λ b. cond b None (lookup (is_page q) v.entries)) n))

  pub stays-evicted : is_some (lookup (is_page p) v.entries) ≡ true → (IsTrue v.files.tells → img v p ≡ image_at v.files.content p) → pins v p ≡ 0 → Stays v evicted
  stays-evicted there clean none = record {
    images = λ told. img-evicted (clean told);
    held = held-evicted none;
    pinned = pins-evicted none;
    absent = absent_stays p None v.entries evicted.entries changes-evicted there;
    later = omega arith;
    frames = refl;
    tells = refl;
    counts = refl;
  }

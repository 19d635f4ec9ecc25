-- A page that is used goes in front, and shows the same.
use Rattle.std.proofs.Common.{◌≡◌, arith, false, is_some, refl, sym, ap, ◌∙◌, subst}
use Rattle.std.specs.Option.{option_map_or}
use Rattle.lru.specs.LruCache.{promoted}
use Rattle.page_base.specs.declared.numbers.PageId.{PageId}
use Rattle.page_base.specs.Pages.{image_at, is_page}
use Rattle.page_fmt.specs.Content.{IsPage}
use Rattle.buf_pool.specs.declared.frame.Frame.{Frame}
use Rattle.buf_pool.specs.Pool.{Pooled, IsSound, img, pins}
use Rattle.buf_pool.specs.Steps.{Stays}
use Rattle.buf_pool.proofs.OrderLemmas.{lookup-promoted}

module _ (v : Pooled) (p : PageId) where
  abbrev pub used_again : Pooled
  used_again = record v { entries = promoted (is_page p) v.entries }

  pub img-used : img used_again ≡ img v
  img-used = λ i q. option_map_or (λ (f : Frame). f.image) (lookup-promoted p v.entries q i) (image_at v.files.content q)

  pub pins-used : pins used_again ≡ pins v
  pins-used = λ i q. option_map_or (λ (f : Frame). f.pins) (lookup-promoted p v.entries q i) 0

  pub sound-used : IsSound v → IsSound used_again
  sound-used sound = record {
    few = sound.few;
    there = λ q h. sound.there q (sym (ap is_some (lookup-promoted p v.entries q)) ∙ h);
    spelled = λ q h. subst IsPage (sym (λ i. img-used i q)) (sound.spelled q (sym (ap is_some (lookup-promoted p v.entries q)) ∙ h));
    clean = λ told q h. (λ i. img-used i q) ∙ sound.clean told q (sym (ap (λ o. option_map_or (λ (f : Frame). f.dirty) o false) (lookup-promoted p v.entries q)) ∙ h);
  }

  pub stays-used : Stays v used_again
  stays-used = record {
    images = λ _. img-used;
    held = λ q _ i. img-used i q;
    pinned = pins-used;
    absent = λ q h. lookup-promoted p v.entries q ∙ h;
    later = omega arith;
    frames = refl;
    tells = refl;
    counts = refl;
  }

-- The files are read or written, and each page shows what it showed.
use Rattle.std.proofs.Common.{◌≡◌, ◌≤◌, ℕ, ◌<◌, true, false, IsTrue, List, Option, None, Some, is_some, refl, sym, ap, ◌∙◌, subst, slice_index}
use Rattle.std.specs.Option.{option_map_or}
use Rattle.std.specs.Map.{lookup}
use Rattle.page_base.specs.declared.numbers.PageId.{PageId}
use Rattle.page_base.specs.Pages.{image_at, is_page, with_page, blank}
use Rattle.page_base.proofs.PagesLemmas.{is_page-same, is_page-true, page_or-with_page_other}
use Rattle.page_fmt.specs.Content.{IsPage}
use Rattle.page_dev.specs.Files.{Files}
use Rattle.page_dev.specs.Faults.{total}
use Rattle.buf_pool.specs.declared.frame.Frame.{Frame}
use Rattle.buf_pool.specs.Pool.{Pooled, IsPooled, IsSound, img}
use Rattle.buf_pool.specs.Steps.{Stays}
use Rattle.buf_pool.proofs.FrameLemmas.{pinned_there, by_bool, no}

-- files that hold the same
module _ (v : Pooled) (files : Files) (tells : files.tells ≡ v.files.tells) (counts : files.counts ≡ v.files.counts) (content : IsTrue v.files.tells → files.content ≡ v.files.content) where
  abbrev pub reread : Pooled
  reread = record v { files = files }

  pub img-reread : IsTrue v.files.tells → img reread ≡ img v
  img-reread told = λ i q. option_map_or (λ (f : Frame). f.image) (lookup (is_page q) v.entries) (image_at (content told i) q)

  -- a page in memory shows its image, whatever its file holds
  pooled : (q : PageId) → IsPooled v q → img reread q ≡ img v q
  pooled q h = by_option (lookup (is_page q) v.entries) h
    where
      by_option : (o : Option Frame) → is_some o ≡ true → option_map_or (λ (f : Frame). f.image) o (image_at files.content q) ≡ option_map_or (λ (f : Frame). f.image) o (image_at v.files.content q)
      by_option None e = no (sym e)
      by_option (Some f) e = refl

  pub sound-reread : IsSound v → IsSound reread
  sound-reread sound = record {
    few = sound.few;
    there = λ q h. subst (λ c. q.page < slice_index c q.file) (sym counts) (sound.there q h);
    spelled = λ q h. subst IsPage (sym (pooled q h)) (sound.spelled q h);
    clean = λ told q h. (let t : IsTrue v.files.tells = sym tells ∙ told in
        (λ i. img-reread t i q) ∙ sound.clean t q h ∙ ap (λ c. image_at c q) (sym (content t)));
  }

  pub stays-reread : total v.files.failures ≤ total files.failures → Stays v reread
  stays-reread later = record {
    images = img-reread;
    held = λ q h. pooled q (pinned_there v q h);
    pinned = refl;
    absent = λ q h. h;
    later = later;
    frames = refl;
    tells = tells;
    counts = counts;
  }

-- a page that its file gets written: every page shows what it showed
module _ (v : Pooled) (files : Files) (p : PageId) (old : Frame) (at : lookup (is_page p) v.entries ≡ Some old) (tells : files.tells ≡ v.files.tells) (counts : files.counts ≡ v.files.counts)
    (content : IsTrue v.files.tells → (left : List ℕ) × (files.content ≡ with_page v.files.content p left)) where
  abbrev pub filed : Pooled
  filed = record v { files = files }

  apart_from : (q : PageId) → is_page p q ≡ false → IsTrue v.files.tells → image_at files.content q ≡ image_at v.files.content q
  apart_from q n told = ap (λ c. image_at c q) (content told).1 ∙ page_or-with_page_other v.files.content p q (content told).0 blank (λ e. no (sym (ap (is_page p) e ∙ is_page-same p) ∙ n))

  pub img-filed : IsTrue v.files.tells → img filed ≡ img v
  img-filed told = λ i q. at_page q i
    where
      at_page : (q : PageId) → img filed q ≡ img v q
      at_page q = by_option (lookup (is_page q) v.entries) refl
        where
          by_option : (o : Option Frame) → lookup (is_page q) v.entries ≡ o → option_map_or (λ (f : Frame). f.image) o (image_at files.content q) ≡ option_map_or (λ (f : Frame). f.image) o (image_at v.files.content q)
          by_option (Some f) e = refl
          by_option None e = by_bool (is_page p q)
              (λ t. no (sym (sym (ap is_some e) ∙ ap (λ r. is_some (lookup (is_page r) v.entries)) (sym (is_page-true p q t)) ∙ ap is_some at)))
              (λ n. apart_from q n told)

  pooled_shows : (q : PageId) → IsPooled v q → img filed q ≡ img v q
  pooled_shows q h = by_option (lookup (is_page q) v.entries) h
    where
      by_option : (o : Option Frame) → is_some o ≡ true → option_map_or (λ (f : Frame). f.image) o (image_at files.content q) ≡ option_map_or (λ (f : Frame). f.image) o (image_at v.files.content q)
      by_option None e = no (sym e)
      by_option (Some f) e = refl

  pub sound-filed : old.dirty ≡ true → IsSound v → IsSound filed
  sound-filed dirty sound = record {
    few = sound.few;
    there = λ q h. subst (λ c. q.page < slice_index c q.file) (sym counts) (sound.there q h);
    spelled = λ q h. subst IsPage (sym (pooled_shows q h)) (sound.spelled q h);
    clean = λ told q h. (let t : IsTrue v.files.tells = sym tells ∙ told in by_bool (is_page p q)
        (λ s. no (sym (sym h ∙ ap (λ r. option_map_or (λ (f : Frame). f.dirty) (lookup (is_page r) v.entries) false) (sym (is_page-true p q s)) ∙ ap (λ o. option_map_or (λ (f : Frame). f.dirty) o false) at ∙ dirty)))
        (λ n. (λ i. img-filed t i q) ∙ sound.clean t q h ∙ sym (apart_from q n t)));
  }

  pub stays-filed : total v.files.failures ≤ total files.failures → Stays v filed
  stays-filed later = record {
    images = img-filed;
    held = λ q h. pooled_shows q (pinned_there v q h);
    pinned = refl;
    absent = λ q h. h;
    later = later;
    frames = refl;
    tells = tells;
    counts = counts;
  }

-- A page is brought into a frame that is free.
use Rattle.std.proofs.lemmas.List.{take_all}
use Rattle.std.proofs.Common.{◌≡◌, ◌+◌, ◌-◌, ◌<◌, take, arith, cond, IsTrue, ◌∷◌, Option, None, Some, is_some, option_map, refl, sym, ap, ◌∙◌, subst, length}
use Rattle.std.specs.Option.{option_map_or}
use Rattle.std.specs.Map.{lookup, lookup_entry, remove_entry}
use Rattle.lru.specs.LruCache.{put_entries, lru_cache}
use Rattle.lru.proofs.Pairs.{lookup-lookup_entry}
use Rattle.page_base.specs.declared.numbers.PageId.{PageId}
use Rattle.page_base.specs.Pages.{image_at, is_page}
use Rattle.page_base.proofs.PagesLemmas.{is_page-same, is_page-true}
use Rattle.page_fmt.specs.Content.{IsPage}
use Rattle.buf_pool.specs.declared.frame.Frame.{Frame}
use Rattle.buf_pool.specs.Pool.{Pooled, IsPinned, img, pins, with_pin}
use Rattle.buf_pool.specs.Steps.{Changes, PinsOnce}
use Rattle.buf_pool.proofs.FrameLemmas.{pinned_there, read-kept, by_bool, symm, no, read-changed}

-- a page that is brought in where a frame is free
module _ (v : Pooled) (p : PageId) (w : Frame) (absent : lookup (is_page p) v.entries ≡ None) (room : length v.entries < v.frames) where
  abbrev pub loaded : Pooled
  loaded = record v { entries = (p, w) ∷ v.entries }

  pub put-new : put_entries is_page (lru_cache v.entries v.frames) p w ≡ (p, w) ∷ v.entries
  put-new = fresh (lookup_entry (is_page p) v.entries) refl
    where
      fresh : (o : Option (PageId × Frame)) → lookup_entry (is_page p) v.entries ≡ o → option_map_or (λ e. (e.0, w) ∷ remove_entry (is_page p) v.entries) o ((p, w) ∷ take (v.frames - 1) v.entries) ≡ (p, w) ∷ v.entries
      fresh None h = ap (λ l. (p, w) ∷ l) (take_all (v.frames - 1) v.entries (omega (arith, room)))
      fresh (Some e) h = no (sym (sym (ap is_some absent) ∙ ap is_some (sym (lookup-lookup_entry (is_page p) v.entries) ∙ ap (option_map (λ (x : PageId × Frame). x.1)) h)))

  pub changes-loaded : Changes p (Some w) v.entries loaded.entries
  changes-loaded q = ap (λ b. cond b (Some w) (lookup (is_page q) v.entries)) (symm q p)

  pub img-loaded : w.image ≡ image_at v.files.content p → img loaded ≡ img v
  img-loaded e = λ i q. read-kept p (Some w) v.entries loaded.entries changes-loaded (λ (f : Frame). f.image) (image_at v.files.content) (e ∙ sym (ap (λ o. option_map_or (λ (f : Frame). f.image) o (image_at v.files.content p)) absent)) q i

  pub pins-loaded : w.pins ≡ 1 → pins loaded ≡ with_pin (pins v) p
  pins-loaded e = λ i q. (read-changed p (Some w) v.entries loaded.entries changes-loaded (λ (f : Frame). f.pins) (λ _. 0) w.pins refl q
      ∙ by_bool (is_page p q)
      (λ t. let here : option_map_or (λ (f : Frame). f.pins) (lookup (is_page q) v.entries) 0 ≡ 0 = ap (λ (r : PageId). option_map_or (λ (f : Frame). f.pins) (lookup (is_page r) v.entries) 0) (sym (is_page-true p q t)) ∙ ap (λ o. option_map_or (λ (f : Frame). f.pins) o 0) absent in
      ap (λ b. cond b w.pins (pins v q)) t ∙ e ∙ ap (λ n. n + 1) (sym here) ∙ sym (ap (λ b. cond b (pins v q + 1) (pins v q)) t))
      (λ n. ap (λ b. cond b w.pins (pins v q)) n ∙ sym (ap (λ b. cond b (pins v q + 1) (pins v q)) n))) i

  held-loaded : (q : PageId) → IsPinned v q → img loaded q ≡ img v q
  held-loaded q pinned = by_bool (is_page p q)
      (λ t. no (sym (pinned_there v q pinned) ∙ ap (λ r. is_some (lookup (is_page r) v.entries)) (sym (is_page-true p q t)) ∙ ap is_some absent))
      (λ n. ap (λ o. option_map_or (λ (f : Frame). f.image) o (image_at v.files.content q)) (changes-loaded q ∙ ap (λ b. cond b (Some w) (lookup (is_page q) v.entries)) n))

  here-loaded : lookup (is_page p) loaded.entries ≡ Some w
  here-loaded = changes-loaded p ∙ ap (λ b. cond b (Some w) (lookup (is_page p) v.entries)) (is_page-same p)

  pub once-loaded : w.pins ≡ 1 → IsPage w.image → (IsTrue v.files.tells → w.image ≡ image_at v.files.content p) → PinsOnce p v loaded
  once-loaded one page bytes = record {
    images = λ told. img-loaded (bytes told);
    held = held-loaded;
    pinned = pins-loaded one;
    there = ap is_some here-loaded;
    page = subst IsPage (sym (ap (λ o. option_map_or (λ (f : Frame). f.image) o (image_at v.files.content p)) here-loaded)) page;
    later = omega arith;
    frames = refl;
    tells = refl;
    counts = refl;
  }

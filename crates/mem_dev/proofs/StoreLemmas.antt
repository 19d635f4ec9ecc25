-- Pages in memory, and what they read as.
use Rattle.std.proofs.Common.{◌≡◌, ℕ, zero, suc, ◌+◌, ◌*◌, ◌^◌, ◌<◌, ◌==◌, ◌&&◌, true, false, IsTrue, take, drop, List, [], ◌∷◌, ◌++◌, length, get_or, set, replicate, refl, ap, sym, ◌∙◌, arith, eq-eqb, length-set}
use Rattle.std.specs.Prelude.{Option, None, Some, is_some, Result, Ok, Err, OnOk, OnErr}
use Rattle.std.specs.List.{concat}
use Rattle.std.proofs.lemmas.List.{length-replicate, map-set, map-append, map_more, drop-drop, take_more, append-nil, set-get_or}
use Rattle.std.proofs.lemmas.List.Folds.{list_all-append, concat-append}
use Rattle.std.proofs.lemmas.List.Sums.{AllPass-from_list_all, list_all-from_AllPass}
use Rattle.std.proofs.lemmas.List.Elements.{All-set, All-replicate}
use Rattle.page_base.specs.Pages.{blank}
use Rattle.page_dev.specs.PageFile.{FilePages, WritesPage, file_page, new_pages, pages_of}
use Rattle.mem_dev.specs.Store.{Stored, bytes_of, content_of, are_sized, are_images, is_full, IsStore}

pub length-blank : length blank ≡ 8192
unfolding blank
length-blank = length-replicate {A = ℕ} 8192 0

pub content-set : (pages : Stored) (n : ℕ) (bytes : List ℕ) → content_of (set pages n (Some bytes)) ≡ set (content_of pages) n bytes
content-set pages n bytes = map-set bytes_of pages n (Some bytes)

pub content-none : (n : ℕ) → content_of (replicate n None) ≡ new_pages n
content-none zero = refl
content-none (suc n) = ap (λ l. blank ∷ l) (content-none n)

pub content-push : (pages : Stored) (bytes : List ℕ) → content_of (pages ++ Some bytes ∷ []) ≡ content_of pages ++ bytes ∷ []
content-push pages bytes = map-append bytes_of pages (Some bytes ∷ [])

pub sized-new : (n : ℕ) → IsTrue (are_sized (new_pages n))
sized-new n = list_all-from_AllPass (λ page. length page == 8192) (new_pages n) (All-replicate (λ page. IsTrue (length page == 8192)) n blank (eq-eqb (length blank) 8192 length-blank))

pub sized-set : (pages : FilePages) (n : ℕ) (bytes : List ℕ) → length bytes ≡ 8192 → IsTrue (are_sized pages) → IsTrue (are_sized (set pages n bytes))
sized-set pages n bytes long h =
    list_all-from_AllPass (λ page. length page == 8192) (set pages n bytes)
    (All-set (λ page. IsTrue (length page == 8192)) pages n bytes (eq-eqb (length bytes) 8192 long) (AllPass-from_list_all (λ page. length page == 8192) pages h))

pub images-none : (n : ℕ) → IsTrue (are_images (replicate n None))
images-none n = ap are_sized (content-none n) ∙ sized-new n

pub images-set : (pages : Stored) (n : ℕ) (bytes : List ℕ) → length bytes ≡ 8192 → IsTrue (are_images pages) → IsTrue (are_images (set pages n (Some bytes)))
images-set pages n bytes long h = ap are_sized (content-set pages n bytes) ∙ sized-set (content_of pages) n bytes long h

pub images-push : (pages : Stored) (bytes : List ℕ) → length bytes ≡ 8192 → IsTrue (are_images pages) → IsTrue (are_images (pages ++ Some bytes ∷ []))
images-push pages bytes long h =
    ap are_sized (content-push pages bytes) ∙ list_all-append (λ page. length page == 8192) (content_of pages) (bytes ∷ [])
    ∙ ap (λ b. b && (length bytes == 8192 && true)) h ∙ ap (λ b. b && true) (eq-eqb (length bytes) 8192 long)

pub store-none : (n : ℕ) → n < 2 ^ 32 → IsStore (replicate n None)
store-none n small =
    let long : length (replicate {A = Option (List ℕ)} n None) ≡ n = length-replicate n None in
    record { images = images-none n; few = omega (arith, long) }

pub store-set : (pages : Stored) (n : ℕ) (bytes : List ℕ) → length bytes ≡ 8192 → IsStore pages → IsStore (set pages n (Some bytes))
store-set pages n bytes long h = record { images = images-set pages n bytes long h.images; few = omega (arith, length-set pages n (Some bytes), h.few) }

pub set_again : {X : Type 0} (xs : List X) (n : ℕ) (a b : X) → set (set xs n a) n b ≡ set xs n b
set_again [] n a b = refl
set_again (x ∷ xs) zero a b = refl
set_again (x ∷ xs) (suc n) a b = ap (λ l. x ∷ l) (set_again xs n a b)

-- ONE PAGE MORE

pub pages_of-push : (n : ℕ) (bytes : List ℕ) → pages_of (n + 1) bytes ≡ pages_of n bytes ++ take 8192 (drop (8192 * n) bytes) ∷ []
pages_of-push zero bytes = refl
pages_of-push (suc n) bytes =
    let next : suc n + 1 ≡ suc (n + 1) = omega arith in
    let at : drop (8192 * n) (drop 8192 bytes) ≡ drop (8192 * suc n) bytes = drop-drop (8192 * n) 8192 bytes ∙ ap (λ k. drop k bytes) (more n) in
    ap (λ k. pages_of k bytes) next
    ∙ ap (λ l. take 8192 bytes ∷ l) (pages_of-push n (drop 8192 bytes) ∙ ap (λ r. pages_of n (drop 8192 bytes) ++ take 8192 r ∷ []) at)
  where
    more : (n : ℕ) → 8192 + 8192 * n ≡ 8192 * suc n
    more n = omega arith

pub full-push : (pages : Stored) (bytes : List ℕ) → IsTrue (is_full pages) → IsTrue (is_full (pages ++ Some bytes ∷ []))
full-push pages bytes h = list_all-append is_some pages (Some bytes ∷ []) ∙ ap (λ b. b && true) h

-- a page that reads as zeros, written as zeros
pub content-zeros : (pages : Stored) (n : ℕ) → get_or pages n None ≡ None → content_of (set pages n (Some blank)) ≡ content_of pages
content-zeros pages n none = content-set pages n blank ∙ map-same pages n none
  where
    map-same : (pages : Stored) (n : ℕ) → get_or pages n None ≡ None → set (content_of pages) n blank ≡ content_of pages
    map-same [] n none = refl
    map-same (p ∷ pages) zero none = ap (λ q. bytes_of q ∷ content_of pages) (sym none)
    map-same (p ∷ pages) (suc n) none = ap (λ l. bytes_of p ∷ l) (map-same pages n none)

pub full-more : (pages : Stored) (n : ℕ) → n < length pages → IsTrue (is_some (get_or pages n None)) → IsTrue (is_full (take n pages)) → IsTrue (is_full (take (n + 1) pages))
full-more pages n lt here h =
    ap is_full (take_more pages n None lt) ∙ list_all-append is_some (take n pages) (get_or pages n None ∷ []) ∙ (λ i. h i && (here i && true))

pub concat-more : (pages : Stored) (n : ℕ) (page : Option (List ℕ)) (bytes after : List ℕ) → n < length pages → page ≡ get_or pages n page → bytes ≡ concat (content_of (take n pages)) → after ≡ bytes ++ bytes_of page → after ≡ concat (content_of (take (n + 1) pages))
concat-more pages n page bytes after lt at h is =
    is ∙ (λ i. h i ++ bytes_of page)
    ∙ sym (ap concat (map_more bytes_of pages n page lt) ∙ concat-append (content_of (take n pages)) (bytes_of (get_or pages n page) ∷ []) ∙ ap (λ l. concat (content_of (take n pages)) ++ l) (append-nil (bytes_of (get_or pages n page)) ∙ ap bytes_of (sym at)))

none_of : {X : Type 0} (o : Option X) → is_some o ≡ false → o ≡ None
none_of None e = refl
none_of (Some x) e = cc

pub made : {T E : Type 0} (r : Result T E) (old new : Stored) (n : ℕ) (zeros : List ℕ) → OnOk r (new ≡ set old n (Some zeros)) → OnErr r (new ≡ old) → zeros ≡ blank → is_some (get_or old n None) ≡ false → content_of new ≡ content_of old
made (Ok x) old new n zeros ok err z none = ap content_of (ok ∙ ap (λ b. set old n (Some b)) z) ∙ content-zeros old n (none_of (get_or old n None) none)
made (Err x) old new n zeros ok err z none = ap content_of err

-- a write that either set the page or changed nothing
pub wrote : {T E : Type 0} (r : Result T E) (old new shown : Stored) (n : ℕ) (bytes : List ℕ) → old ≡ shown → OnOk r (new ≡ set old n (Some bytes)) → OnErr r (new ≡ old) → WritesPage n bytes (content_of shown) (content_of new) r
wrote (Ok x) old new shown n bytes same ok err = record { left = bytes; is = ap content_of (ok ∙ ap (λ s. set s n (Some bytes)) same) ∙ content-set shown n bytes; ok = refl }
wrote (Err x) old new shown n bytes same ok err = record { left = file_page (content_of shown) n; is = ap content_of (err ∙ same) ∙ sym (set-get_or (content_of shown) n blank); ok = tt }

pub full-set : (pages : Stored) (n : ℕ) (bytes : List ℕ) → IsTrue (is_full pages) → IsTrue (is_full (set pages n (Some bytes)))
full-set pages n bytes h = list_all-from_AllPass is_some (set pages n (Some bytes)) (All-set (λ page. IsTrue (is_some page)) pages n (Some bytes) refl (AllPass-from_list_all is_some pages h))

pub full-at : (pages : Stored) (n : ℕ) → n < length pages → IsTrue (is_full pages) → IsTrue (is_some (get_or pages n None))
full-at pages n lt h = AllPass-from_list_all is_some pages h n None lt

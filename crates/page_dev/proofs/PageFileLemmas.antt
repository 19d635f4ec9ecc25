-- The pages of a file and its bytes, one page after the other.
use Rattle.std.proofs.Common.{◌≡◌, ℕ, zero, suc, ◌*◌, ◌≤◌, List, [], ◌∷◌, ◌++◌, length, take, drop, refl, ap, sym, ◌∙◌, arith, length-append}
use Rattle.std.specs.List.{concat}
use Rattle.std.proofs.lemmas.List.{take-append-drop, length-take, length-drop, nil_from_length}
use Rattle.std.proofs.lemmas.List.Elements.{All-nil, All-cons}
use Rattle.std.proofs.Math.Seq.{take-append_seam, drop-append_seam}
use Rattle.page_dev.specs.PageFile.{FilePages, AreImages, pages_of}

head : (page : List ℕ) (pages : FilePages) → AreImages (page ∷ pages) → length page ≡ 8192
head page pages h = h 0 [] (omega arith)

tail : (page : List ℕ) (pages : FilePages) → AreImages (page ∷ pages) → AreImages pages
tail page pages h = λ k d lt. h (suc k) d (omega arith)

-- the bytes of images, read as pages
pub pages_of-concat : (pages : FilePages) → AreImages pages → pages_of (length pages) (concat pages) ≡ pages
pages_of-concat [] h = refl
pages_of-concat (page ∷ pages) h =
    let long : 8192 ≡ length page = sym (head page pages h) in
    let first : take 8192 (page ++ concat pages) ≡ page = ap (λ n. take n (page ++ concat pages)) long ∙ take-append_seam page (concat pages) in
    let rest : drop 8192 (page ++ concat pages) ≡ concat pages = ap (λ n. drop n (page ++ concat pages)) long ∙ drop-append_seam page (concat pages) in
    λ i. first i ∷ (ap (pages_of (length pages)) rest ∙ pages_of-concat pages (tail page pages h)) i

pub length-concat : (pages : FilePages) → AreImages pages → length (concat pages) ≡ 8192 * length pages
length-concat [] h = refl
length-concat (page ∷ pages) h = omega (arith, length-append page (concat pages), head page pages h, length-concat pages (tail page pages h))

pub length-pages_of : (n : ℕ) (bytes : List ℕ) → length (pages_of n bytes) ≡ n
length-pages_of zero bytes = refl
length-pages_of (suc n) bytes = ap suc (length-pages_of n (drop 8192 bytes))

-- as many bytes as so many pages have, cut into pages
pub concat-pages_of : (n : ℕ) (bytes : List ℕ) → length bytes ≡ 8192 * n → concat (pages_of n bytes) ≡ bytes
concat-pages_of zero bytes e = sym (nil_from_length bytes (omega arith))
concat-pages_of (suc n) bytes e =
    ap (λ rest. take 8192 bytes ++ rest) (concat-pages_of n (drop 8192 bytes) (omega (arith, length-drop 8192 bytes)))
    ∙ take-append-drop 8192 bytes

pub AreImages-pages_of : (n : ℕ) (bytes : List ℕ) → 8192 * n ≤ length bytes → AreImages (pages_of n bytes)
AreImages-pages_of zero bytes h = All-nil (λ page. length page ≡ 8192)
AreImages-pages_of (suc n) bytes h =
    All-cons (λ page. length page ≡ 8192) (take 8192 bytes) (pages_of n (drop 8192 bytes))
    (omega (arith, length-take 8192 bytes)) (AreImages-pages_of n (drop 8192 bytes) (omega (arith, length-drop 8192 bytes)))

-- files of as many images with the same bytes are the same
pub same_pages : (a b : FilePages) → AreImages a → AreImages b → concat a ≡ concat b → a ≡ b
same_pages a b ha hb e =
    let long : length a ≡ length b = omega (arith, length-concat a ha, length-concat b hb, ap length e) in
    sym (pages_of-concat a ha) ∙ ap (pages_of (length a)) e ∙ ap (λ n. pages_of n (concat b)) long ∙ pages_of-concat b hb

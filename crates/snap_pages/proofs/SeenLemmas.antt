-- What a page of sparse files over images shows, after a copy, a mark, a read or another image.
use Rattle.std.proofs.Common.{◌≡◌, ◌≢◌, inl, inr, Bool, true, false, cond, List, ℕ, refl, ap, sym, ◌∙◌, subst}
use Rattle.std.proofs.lemmas.Bool.{false≢true}
use Rattle.page_base.specs.declared.numbers.PageId.{PageId}
use Rattle.page_base.specs.Pages.{image_at, page_or, with_page, blank, is_page, set_at}
use Rattle.page_base.proofs.PagesLemmas.{page_or-with_page_other, cases_page, is_page-same, is_page-other}
use Rattle.sparse_set.specs.Sparse.{Sparse, is_copied, sparse_page, marked, IsEmptyMap}
use Rattle.snap_pages.specs.Views.{seen}

-- a copied page, as its reader sees it
pub seen_copied : (images : PageId → List ℕ) (x : Sparse) (p : PageId) → is_copied x p ≡ true → sparse_page x p ≡ seen images x p
unfolding seen
seen_copied images x p e = ap (λ b. cond b (sparse_page x p) (images p)) (sym e)

-- files of which no page that the map names has changed
named_alike : (images : PageId → List ℕ) (old new : Sparse) (q : PageId) → new.map ≡ old.map → (is_copied old q ≡ true → sparse_page new q ≡ sparse_page old q) → seen images new q ≡ seen images old q
unfolding seen
named_alike images old new q map_same same =
    let alike : (b : Bool) → is_copied old q ≡ b → cond b (sparse_page new q) (images q) ≡ cond b (sparse_page old q) (images q) =
    elim [ true ↦ λ e. same e | false ↦ λ e. refl ] in
    ap (λ m. cond (page_or m q false) (sparse_page new q) (images q)) map_same ∙ alike (is_copied old q) refl

-- a sparse page that the map doesn't name
pub copied_alike : (images : PageId → List ℕ) (old new : Sparse) (p : PageId) (left : List ℕ) → is_copied old p ≡ false → new.map ≡ old.map → new.files.content ≡ with_page old.files.content p left → (q : PageId) → seen images new q ≡ seen images old q
copied_alike images old new p left lacks map_same content q =
    named_alike images old new q map_same (λ e.
    let ne : q ≢ p = λ same. false≢true (sym lacks ∙ sym (ap (is_copied old) same) ∙ e) in
    ap (λ c. image_at c q) content ∙ page_or-with_page_other old.files.content p q left blank ne)

-- another page than the one that was written
pub written_alike : (images : PageId → List ℕ) (old new : Sparse) (p q : PageId) (left : List ℕ) → new.map ≡ old.map → new.files.content ≡ with_page old.files.content p left → q ≢ p → seen images new q ≡ seen images old q
written_alike images old new p q left map_same content ne =
    named_alike images old new q map_same (λ e. ap (λ c. image_at c q) content ∙ page_or-with_page_other old.files.content p q left blank ne)

-- a page that the map names was written
pub written_set : (images : PageId → List ℕ) (old new : Sparse) (p : PageId) (left : List ℕ) → is_copied old p ≡ true → new.map ≡ old.map → new.files.content ≡ with_page old.files.content p left → sparse_page new p ≡ left
    → seen images new ≡ set_at (seen images old) p left
written_set images old new p left named map_same content here = λ i q. (elim (cases_page q p) as (λ c. seen images new q ≡ set_at (seen images old) p left q) [
  | inl e ↦
      ap (seen images new) e
      ∙ sym (seen_copied images new p (ap (λ m. page_or m p false) map_same ∙ named))
      ∙ here
      ∙ sym (ap (λ b. cond b left (seen images old q)) (ap (is_page p) e ∙ is_page-same p))
  | inr ne ↦
      written_alike images old new p q left map_same content ne
      ∙ sym (ap (λ b. cond b left (seen images old q)) (is_page-other p q ne))
]) i

-- a page that was copied, and then marked
pub marked_alike : (images : PageId → List ℕ) (old : Sparse) (p : PageId) → is_copied (marked old p) p ≡ true → sparse_page old p ≡ images p → (q : PageId) → seen images (marked old p) q ≡ seen images old q
unfolding seen
marked_alike images old p now copied q =
    let either : (b : Bool) → cond b (sparse_page old p) (images p) ≡ sparse_page old p = elim [ true ↦ refl | false ↦ sym copied ] in
    elim (cases_page q p) [
      | inl e ↦ subst (λ r. cond (is_copied (marked old p) r) (sparse_page old r) (images r) ≡ cond (is_copied old r) (sparse_page old r) (images r)) (sym e)
          (ap (λ b. cond b (sparse_page old p) (images p)) now ∙ sym (either (is_copied old p)))
      | inr ne ↦ ap (λ b. cond b (sparse_page old q) (images q)) (page_or-with_page_other old.map p q true false ne)
    ]

pub read_alike : (images : PageId → List ℕ) (old new : Sparse) → new.map ≡ old.map → new.files.content ≡ old.files.content → (q : PageId) → seen images new q ≡ seen images old q
unfolding seen
read_alike images old new map_same content q i = cond (page_or (map_same i) q false) (image_at (content i) q) (images q)

-- another image of a page that the map names
pub changed_alike : (images : PageId → List ℕ) (x : Sparse) (p : PageId) (new : List ℕ) → is_copied x p ≡ true → (q : PageId) → seen (set_at images p new) x q ≡ seen images x q
unfolding seen
changed_alike images x p new named q =
    let alike : (b : Bool) → is_copied x q ≡ b → cond b (sparse_page x q) (set_at images p new q) ≡ cond b (sparse_page x q) (images q) =
    elim [
      | true ↦ λ e. refl
      | false ↦ λ e.
          let ne : q ≢ p = λ same. false≢true (sym e ∙ ap (is_copied x) same ∙ named) in
          ap (λ b. cond b new (images q)) (is_page-other p q ne)
    ] in
    alike (is_copied x q) refl

-- a map without a page
pub see_empty : (images : PageId → List ℕ) (x : Sparse) → IsEmptyMap x → seen images x ≡ images
unfolding seen
see_empty images x empty = λ i q. cond (empty q i) (sparse_page x q) (images q)

-- What is to come where a table is created or dropped, as the writes of which the laws of tables speak.
use Rattle.std.proofs.Common.{refl, ◌≡◌, ℕ, suc, ◌+◌, List, [], ◌∷◌, ◌++◌, length, map, ap, sym, ◌∙◌, arith, append_assoc}
use Rattle.std.specs.Prelude.{replicate}
use Rattle.std.proofs.lemmas.List.{length-replicate, length-append, map-append}
use Rattle.page_base.specs.declared.numbers.PageId.{PageId}
use Rattle.row_fmt.specs.Rows.{row_bytes}
use Rattle.sys_cat.specs.declared.desc.TableDesc.{TableDesc}
use Rattle.sys_cat.specs.Rows.{table_row}
use Rattle.table_walk.specs.declared.plan.Edit.{Edit}
use Rattle.table_walk.specs.declared.plan.Spot.{Spot}
use Rattle.table_walk.specs.Differences.{edit_at}
use Rattle.page_tables.specs.Creating.{creating}
use Rattle.page_tables.specs.Dropping.{release, dropping}
use Rattle.page_tables.specs.Rooting.{rooted, telling}
use Rattle.page_tables.specs.Writes.{claim, claims, write_of}
use Rattle.page_tables.proofs.GoLemmas.{claims_are}
use Rattle.step_words.specs.Courses.{Plain}
use Rattle.step_words.specs.Coming.{claims_of, draft_write}
use Rattle.stmt_course.specs.Defining.{owners_with, root_edit, creation, release_edit, removal}
use Rattle.stmt_course.proofs.BringLemmas.{claims_same, drafts_same}

claims_both : (xs ys : List ℕ) (i : ℕ) (claimed : ℕ → PageId) → claims_of (xs ++ ys) i claimed ≡ claims_of xs i claimed ++ claims_of ys (i + length xs) claimed
claims_both [] ys i claimed = ap (λ j. claims_of ys j claimed) (let e : i ≡ i + 0 = omega arith in e)
claims_both (x ∷ xs) ys i claimed = ap (λ ws. claim x (claimed i) ∷ ws) (claims_both xs ys (i + 1) claimed ∙ ap (λ j. claims_of xs (i + 1) claimed ++ claims_of ys j claimed) (let e : i + 1 + length xs ≡ i + suc (length xs) = omega arith in e))

pub claims_with : (n number : ℕ) (claimed : ℕ → PageId) → claims_of (owners_with n number) 0 claimed ≡ claims 0 claimed n ++ claim number (claimed n) ∷ []
claims_with n number claimed =
    claims_both (replicate n 0) (number ∷ []) 0 claimed
    ∙ (λ i. (claims_same 0 claimed n 0 ∙ claims_are 0 claimed n) i ++ claim number (claimed (at i)) ∷ [])
  where
    at : 0 + length (replicate {A = ℕ} n 0) ≡ n
    at = let long : length (replicate {A = ℕ} n 0) ≡ n = length-replicate {A = ℕ} n 0 in omega (arith, long)

pub many_with : (n number : ℕ) → length (owners_with n number) ≡ n + 1
many_with n number = length-append (replicate n 0) (number ∷ []) ∙ ap (λ m. m + 1) (length-replicate {A = ℕ} n 0)

drafts_last : (claimed : ℕ → PageId) (later : List Edit) (last : Edit) → map (draft_write claimed) (map Plain later ++ Plain last ∷ []) ≡ map (write_of claimed) later ++ write_of claimed last ∷ []
drafts_last claimed [] last = refl
drafts_last claimed (e ∷ es) last = ap (λ ws. write_of claimed e ∷ ws) (drafts_last claimed es last)

-- the row that tells the new table is written with the root that is claimed then
pub drafts_with : (claimed : ℕ → PageId) (n : ℕ) (before : List Edit) (spot : Spot) (slot : ℕ) (d : TableDesc) (later : List Edit) (bytes : List ℕ)
    → map (draft_write claimed) (creation n before spot slot d later bytes) ≡ map (write_of claimed) (telling before spot slot (rooted d (claimed n)) later) ++ record { page = claimed n; slot = 0; bytes = bytes } ∷ []
drafts_with claimed n [] spot slot d later bytes = ap (λ ws. write_of claimed (edit_at spot (slot, row_bytes (table_row (rooted d (claimed n))))) ∷ ws) (drafts_last claimed later (root_edit n bytes))
drafts_with claimed n (e ∷ es) spot slot d later bytes = ap (λ ws. write_of claimed e ∷ ws) (drafts_with claimed n es spot slot d later bytes)

pub creation_writes : (claimed : ℕ → PageId) (n : ℕ) (before : List Edit) (spot : Spot) (slot : ℕ) (d : TableDesc) (later : List Edit) (bytes : List ℕ)
    → claims_of (owners_with n d.number.0) 0 claimed ++ map (draft_write claimed) (creation n before spot slot d later bytes) ≡ creating (rooted d (claimed n)) bytes claimed n (telling before spot slot (rooted d (claimed n)) later)
creation_writes claimed n before spot slot d later bytes =
    (λ i. claims_with n d.number.0 claimed i ++ drafts_with claimed n before spot slot d later bytes i)
    ∙ append_assoc (claims 0 claimed n) (claim d.number.0 (claimed n) ∷ []) (map (write_of claimed) (telling before spot slot (rooted d (claimed n)) later) ++ record { page = claimed n; slot = 0; bytes = bytes } ∷ [])

releases_are : (claimed : ℕ → PageId) (pages : List PageId) → map (write_of claimed) (map release_edit pages) ≡ map release pages
releases_are claimed [] = refl
releases_are claimed (p ∷ ps) = ap (λ ws. release p ∷ ws) (releases_are claimed ps)

pub removal_drafts : (claimed : ℕ → PageId) (edits empties : List Edit) (pages : List PageId)
    → map (draft_write claimed) (map Plain (removal edits empties pages)) ≡ map (write_of claimed) edits ++ (map (write_of claimed) empties ++ map release pages)
removal_drafts claimed edits empties pages =
    drafts_same claimed (removal edits empties pages)
    ∙ map-append (write_of claimed) edits (empties ++ map release_edit pages)
    ∙ ap (λ ws. map (write_of claimed) edits ++ ws) (map-append (write_of claimed) empties (map release_edit pages) ∙ ap (λ ws. map (write_of claimed) empties ++ ws) (releases_are claimed pages))

pub removal_writes : (claimed : ℕ → PageId) (n : ℕ) (edits empties : List Edit) (pages : List PageId)
    → claims_of (replicate n 0) 0 claimed ++ map (draft_write claimed) (map Plain (removal edits empties pages)) ≡ dropping claimed n edits empties pages
removal_writes claimed n edits empties pages =
    (λ i. (claims_same 0 claimed n 0 ∙ claims_are 0 claimed n) i ++ removal_drafts claimed edits empties pages i)
    ∙ ap (λ ws. claims 0 claimed n ++ ws)
    (sym (append_assoc (map (write_of claimed) edits) (map (write_of claimed) empties) (map release pages)) ∙ ap (λ ws. ws ++ map release pages) (sym (map-append (write_of claimed) edits empties)))

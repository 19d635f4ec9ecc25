-- What comes, move by move; and seats among others.
use Rattle.std.proofs.Common.{◌≡◌, ◌≢◌, ℕ, zero, suc, ◌+◌, ◌<◌, ◌≤◌, List, [], ◌∷◌, ◌++◌, length, drop, map, get_or, refl, ap, sym, subst, ◌∙◌, arith}
use Rattle.std.proofs.lemmas.List.{length-append}
use Rattle.page_base.specs.declared.numbers.PageId.{PageId}
use Rattle.page_tables.specs.Writes.{Write, claim}
use Rattle.step_words.specs.Courses.{Course, Draft}
use Rattle.step_words.specs.Coming.{coming, claims_of, draft_write}

pub drop_next : (xs : List ℕ) (n x : ℕ) (ys : List ℕ) → drop n xs ≡ x ∷ ys → drop (n + 1) xs ≡ ys
drop_next xs zero x ys e = ap (drop 1) e
drop_next [] (suc n) x ys e = cc
drop_next (z ∷ xs) (suc n) x ys e = (let same : suc n + 1 ≡ suc (n + 1) = omega arith in ap (λ m. drop m (z ∷ xs)) same) ∙ drop_next xs n x ys e

drop_none : (xs : List ℕ) (n : ℕ) → length xs ≤ n → drop n xs ≡ []
drop_none [] zero le = refl
drop_none [] (suc n) le = refl
drop_none (x ∷ xs) zero le = absurd (omega (arith, le))
drop_none (x ∷ xs) (suc n) le = drop_none xs n (omega (arith, le))

pub claim_moves : (c : Course) (number : ℕ) (numbers : List ℕ) (p : PageId) (claimed : ℕ → PageId) → drop (length c.taken) c.owners ≡ number ∷ numbers → claimed (length c.taken) ≡ p → coming c claimed ≡ claim number p ∷ coming (record c { taken = c.taken ++ p ∷ [] }) claimed
claim_moves c number numbers p claimed left is =
    let long : length (c.taken ++ p ∷ []) ≡ length c.taken + 1 = length-append c.taken (p ∷ []) in
    let later : drop (length (c.taken ++ p ∷ [])) c.owners ≡ numbers = ap (λ n. drop n c.owners) long ∙ drop_next c.owners (length c.taken) number numbers left in
    ap (λ ns. claims_of ns (length c.taken) claimed ++ map (draft_write claimed) c.edits) left
    ∙ ap (λ q. claim number q ∷ (claims_of numbers (length c.taken + 1) claimed ++ map (draft_write claimed) c.edits)) is
    ∙ ap (λ n. claim number p ∷ (claims_of numbers n claimed ++ map (draft_write claimed) c.edits)) (sym long)
    ∙ ap (λ ns. claim number p ∷ (claims_of ns (length (c.taken ++ p ∷ [])) claimed ++ map (draft_write claimed) c.edits)) (sym later)

-- no claim is left
pub none_left : (c : Course) (claimed : ℕ → PageId) → length c.owners ≤ length c.taken → claims_of (drop (length c.taken) c.owners) (length c.taken) claimed ≡ []
none_left c claimed le = ap (λ ns. claims_of ns (length c.taken) claimed) (drop_none c.owners (length c.taken) le)

pub edit_moves : (c : Course) (draft : Draft) (drafts : List Draft) (claimed : ℕ → PageId) → length c.owners ≤ length c.taken → c.edits ≡ draft ∷ drafts → coming c claimed ≡ draft_write claimed draft ∷ coming (record c { edits = drafts }) claimed
edit_moves c draft drafts claimed le is =
    ap (λ ws. ws ++ map (draft_write claimed) c.edits) (none_left c claimed le)
    ∙ ap (map (draft_write claimed)) is
    ∙ sym (ap (λ ws. draft_write claimed draft ∷ (ws ++ map (draft_write claimed) drafts)) (none_left c claimed le))

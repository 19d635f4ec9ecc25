-- What an edit leaves is spelled again.
use Rattle.std.proofs.Common.{◌≡◌, ◌≢◌, ℕ, ◌+◌, ◌-◌, ◌*◌, ◌<◌, ◌≤◌, max, List, [], ◌∷◌, ◌++◌, length, get_or, set, refl, ap, sym, ◌∙◌, subst, arith, length-append, length-set, inl, inr, ◌==◌, IsTrue, eq-eqb}
use Rattle.std.specs.Prelude.{◌↔◌}
use Rattle.std.proofs.lemmas.Bool.{cases_lt, eqb-true}
use Rattle.std.proofs.lemmas.List.{get_or_past, set_past, length-replicate}
use Rattle.page_fmt.specs.Spelling.{le16, row_bytes, used, spell, LastIsFull, FitsPage}
use Rattle.page_fmt.specs.Content.{content, IsPage}
use Rattle.page_fmt.specs.Edits.{set_slot, trimmed, cleared}
use Rattle.page_fmt.specs.Places.{put, IsSpelled, offset_of}
use Rattle.page_fmt.proofs.SpellingLemmas.{content-spell}
use Rattle.page_fmt.proofs.ReplaceLemmas.{row_bytes-set}
use Rattle.page_fmt.proofs.PaddingLemmas.{empties, used-empties, counted_more, counted_less, set-empties, trimmed-parts, trimmed-full, used-trimmed, LastIsFull-trimmed}
use Rattle.page_fmt.proofs.SlotLemmas.{length-set_slot, row_bytes-set_slot, LastIsFull-set_slot}

pub spelled_of : (page : List ℕ) (slots : List (List ℕ)) → page ≡ spell slots → used slots ≤ 8192 → IsSpelled page
spelled_of page slots e small =
    let is : content page ≡ slots = ap content e ∙ content-spell slots small in
    record { spelled = e ∙ ap spell (sym is); small = subst (λ s. used s ≤ 8192) (sym is) small }

pub content_of : (page : List ℕ) (slots : List (List ℕ)) → page ≡ spell slots → used slots ≤ 8192 → content page ≡ slots
content_of page slots e small = ap content e ∙ content-spell slots small

pub used-set : (xs : List (List ℕ)) (i : ℕ) (x : List ℕ) → i < length xs → used (set xs i x) + length (get_or xs i []) ≡ used xs + length x
used-set xs i x lt = omega (arith, row_bytes-set xs i x lt, length-set xs i x)

-- a page with as many slots as an edit needs
pub record IsReady (page : List ℕ) (slots : List (List ℕ)) (i : ℕ) (x : List ℕ) : Type 0 where
  pub spelled : IsSpelled page
  pub there : i < length (content page)
  pub set_is : set (content page) i x ≡ set_slot slots i x

pub ready : (page after : List ℕ) (i n count : ℕ) (x : List ℕ) → IsSpelled page → used (set_slot (content page) i x) ≤ 8192 → count ≡ length (content page) → n ≡ max count (i + 1) → after ≡ put 0 (le16 n) page → IsReady after (content page) i x
ready page after i n count x h room count_is n_is wrote =
    let xs : List (List ℕ) = content page in
    let k : ℕ = i + 1 - length xs in
    let many : n ≡ length xs + k = omega arith in
    let sum : row_bytes (set_slot xs i x) + length (get_or xs i []) ≡ row_bytes xs + length x = row_bytes-set_slot xs i x in
    let long : length (set_slot xs i x) ≡ max (length xs) (i + 1) = length-set_slot xs i x in
    let small : used xs ≤ 8192 = h.small in
    let fits : used xs + 2 * k ≤ 8192 = elim (cases_lt i (length xs)) [
      | inl lt ↦ omega arith
      | inr past ↦ let none : length (get_or xs i []) ≡ 0 = ap length (get_or_past xs i [] past) in omega arith
    ] in
    let is : after ≡ spell (xs ++ empties k) = wrote ∙ ap (put 0 (le16 n)) h.spelled ∙ counted_more xs k n fits many in
    let grown : used (xs ++ empties k) ≤ 8192 = omega (arith, used-empties xs k) in
    let content_is : content after ≡ xs ++ empties k = content_of after (xs ++ empties k) is grown in
    record {
      spelled = spelled_of after (xs ++ empties k) is grown;
      there = omega (arith, ap length content_is, length-append xs (empties k), length-replicate {A = List ℕ} k []);
      set_is = ap (λ s. set s i x) content_is ∙ set-empties xs i x;
    }

-- the page with the empty slots at its end cut
pub cut_page : (page after : List ℕ) (ws : List (List ℕ)) (n : ℕ) → page ≡ spell ws → used ws ≤ 8192 → n ≡ length (trimmed ws) → after ≡ put 0 (le16 n) page → after ≡ spell (trimmed ws)
cut_page page after ws n is small count wrote =
    wrote ∙ (λ i. put 0 (le16 (count i)) (is i)) ∙ ap (λ s. put 0 (le16 (length (trimmed ws))) (spell s)) (sym (trimmed-parts ws))
    ∙ counted_less (trimmed ws) (length ws - length (trimmed ws)) (omega (arith, used-trimmed ws))

-- a slot is empty where its offset is 0
pub empty_is : (at offset : ℕ) (x : List ℕ) → 0 < at → offset ≡ offset_of at x → (IsTrue (offset == 0) ↔ (x ≡ []))
empty_is at offset [] h e = (λ t. refl, λ t. eq-eqb offset 0 e)
empty_is at offset (b ∷ bs) h e = (λ t. (let z : offset ≡ 0 = eqb-true offset 0 t in absurd (omega arith)), λ f. cc)

pub page_of : (new : List ℕ) (slots : List (List ℕ)) → new ≡ spell slots → FitsPage slots → IsPage new
page_of new slots e fits =
    let is : content new ≡ slots = content_of new slots e fits.small in
    record { spelled = e ∙ ap spell (sym is); fits = subst FitsPage (sym is) fits }

full : (x : List ℕ) → 0 < length x → x ≢ []
full x h e = let none : length x ≡ 0 = ap length e in absurd (omega arith)

pub FitsPage-set_slot : (slots : List (List ℕ)) (i : ℕ) (x : List ℕ) → FitsPage slots → 0 < length x → used (set_slot slots i x) ≤ 8192 → FitsPage (set_slot slots i x)
FitsPage-set_slot slots i x fits some small = record { small = small; last = LastIsFull-set_slot slots i x (full x some) fits.last }

pub FitsPage-cleared : (slots : List (List ℕ)) (i : ℕ) → i < length slots → FitsPage slots → FitsPage (cleared slots i)
FitsPage-cleared slots i lt fits =
    let small : used slots ≤ 8192 = fits.small in
    record { small = omega (arith, used-set slots i [] lt, used-trimmed (set slots i [])); last = LastIsFull-trimmed (set slots i []) }

-- past the last slot there is nothing to clear
pub cleared-past : (slots : List (List ℕ)) (i : ℕ) → length slots ≤ i → LastIsFull slots → cleared slots i ≡ slots
cleared-past slots i past last = ap trimmed (set_past slots i [] past) ∙ trimmed-full slots last

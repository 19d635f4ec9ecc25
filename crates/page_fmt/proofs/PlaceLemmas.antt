-- Where a slot of a spelled page lies.
use Rattle.std.proofs.Common.{◌≡◌, ℕ, ◌+◌, ◌-◌, ◌*◌, ◌<◌, ◌≤◌, List, [], length, get_or, take, drop, ap, sym, ◌∙◌, arith}
use Rattle.page_fmt.specs.Spelling.{row_bytes, offsets, used}
use Rattle.page_fmt.specs.Content.{le16_at, offsets_at, next_start, row_end, content}
use Rattle.page_fmt.specs.Places.{IsSpelled, IsPlace, start_of, offset_of}
use Rattle.page_fmt.proofs.SpellingLemmas.{length-spell, spelled_count, spelled_bytes, offsets_at-spelled, next_start-offsets}
use Rattle.page_fmt.proofs.OffsetLemmas.{get_or-offsets_at, drop-offsets_at, get_or-offsets, drop-offsets, row_bytes-take, row_bytes-parts, begin_of}

module _ (page : List ℕ) (h : IsSpelled page) where
  slots : List (List ℕ)
  slots = content page

  pub page_size : length page ≡ 8192
  page_size = ap length h.spelled ∙ length-spell (content page) h.small

  pub page_count : le16_at page 0 ≡ length (content page)
  page_count = ap (λ p. le16_at p 0) h.spelled ∙ spelled_count (content page)

  pub page_rows : le16_at page 2 ≡ row_bytes (content page)
  page_rows = ap (λ p. le16_at p 2) h.spelled ∙ spelled_bytes (content page)

  pub page_offsets : offsets_at page 8190 (length (content page)) ≡ offsets 96 (content page)
  page_offsets = ap (λ p. offsets_at p 8190 (length (content page))) h.spelled ∙ offsets_at-spelled (content page) h.small

  -- the offset of a slot
  pub page_offset : (i : ℕ) → i < length (content page) → le16_at page (8190 - 2 * i) ≡ offset_of (96 + row_bytes (take i (content page))) (get_or (content page) i [])
  page_offset i lt =
      sym (get_or-offsets_at page 8190 (length (content page)) i lt) ∙ ap (λ os. get_or os i 0) page_offsets ∙ get_or-offsets (content page) 96 i lt

  -- where the next slot behind it begins
  pub page_next : (i : ℕ) → i < length (content page) → next_start (row_end page) (offsets_at page (8190 - 2 * (i + 1)) (length (content page) - (i + 1))) ≡ 96 + row_bytes (take (i + 1) (content page))
  page_next i lt =
      let end : row_end page ≡ 96 + row_bytes (content page) = ap (λ n. 96 + n) page_rows in
      let rest : offsets_at page (8190 - 2 * (i + 1)) (length (content page) - (i + 1)) ≡ offsets (96 + row_bytes (take (i + 1) (content page))) (drop (i + 1) (content page)) =
      sym (drop-offsets_at page 8190 (length (content page)) (i + 1) (omega arith)) ∙ ap (drop (i + 1)) page_offsets ∙ drop-offsets (content page) 96 (i + 1) (omega arith) in
      (λ j. next_start (end j) (rest j))
      ∙ next_start-offsets (drop (i + 1) (content page)) (96 + row_bytes (take (i + 1) (content page))) (96 + row_bytes (content page)) (omega arith) (omega (arith, row_bytes-parts (content page) (i + 1)))

  pub found : (i offset stop start end limit : ℕ) → i < length (content page) → offset ≡ le16_at page (8190 - 2 * i) → stop ≡ next_start (row_end page) (offsets_at page (8190 - 2 * (i + 1)) (length (content page) - (i + 1))) →
      start ≡ start_of offset stop → end ≡ 96 + row_bytes (content page) → limit ≡ 8192 - 2 * length (content page) → IsPlace (content page) i start stop end limit
  found i offset stop start end limit lt offset_is stop_is start_is end_is limit_is =
      let front : ℕ = 96 + row_bytes (take i (content page)) in
      let row : List ℕ = get_or (content page) i [] in
      let at : offset ≡ offset_of front row = offset_is ∙ page_offset i lt in
      let behind : stop ≡ front + length row = stop_is ∙ page_next i lt ∙ omega (arith, row_bytes-take (content page) i lt) in
      let begins : start ≡ front = start_is ∙ (λ j. start_of (at j) (behind j)) ∙ begin_of front row (omega arith) in
      let small : used (content page) ≤ 8192 = h.small in
      record {
        begins = begins;
        ends = omega arith;
        rows = end_is;
        table = omega arith;
        within = omega (arith, row_bytes-take (content page) i lt, row_bytes-parts (content page) (i + 1));
        room = omega arith;
      }

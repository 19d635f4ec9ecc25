-- A session's writes to come, from pages on which another's records stand that were taken back before.
use Rattle.std.proofs.Common.{◌≡◌, ◌≢◌, ℕ, ◌+◌, ◌%◌, ◌<◌, ◌≤◌, Bool, true, cond, ◌==◌, ◌&&◌, List, [], ◌∷◌, ◌++◌, length, refl, ap, sym, subst, ◌∙◌, inl, inr, arith}
use Rattle.std.specs.List.{AllByRecursion}
use Rattle.std.proofs.lemmas.Bool.{cases_Bool}
use Rattle.page_base.specs.declared.numbers.PageId.{PageId}
use Rattle.page_base.specs.Pages.{is_page}
use Rattle.page_base.specs.Slots.{Slots}
use Rattle.page_fmt.specs.Spelling.{used}
use Rattle.alloc_pages.specs.Owners.{owner_bytes, page_owner}
use Rattle.alloc_pages.proofs.OwnerLemmas.{page_owner-other}
use Rattle.rec_log.specs.Records.{Record}
use Rattle.rec_log.specs.Undone.{undone}
use Rattle.rec_log.proofs.UndoneLemmas.{undone-with_slot}
use Rattle.page_tables.specs.Mine.{written, MayWrite, MayWriteAll, IsMine, AreMine, AreSpread}
use Rattle.page_tables.specs.Owners.{is_there}
use Rattle.page_tables.specs.Sheets.{sheets}
use Rattle.page_tables.specs.Writes.{Write, done, claim}
use Rattle.page_tables.proofs.GoLemmas.{claim_may}
use Rattle.page_tables.proofs.MineLemmas.{every_spot, one_moves}
use Rattle.page_tables.proofs.SheetLemmas.{sheet_same}
use Rattle.open_tables.specs.Names.{names}
use Rattle.open_commits.specs.Within.{LieWithin, AreApart, TellOwners}
use Rattle.open_commits.proofs.WithinLemmas.{differ, unnamed}
use Rattle.open_commits.proofs.StandLemmas.{written_now}
use Rattle.open_commits.proofs.AheadLemmas.{lacking, record_of, write_own, write_others, write_lacks, write_tells}
use Rattle.step_words.specs.Coming.{claims_of}
use Rattle.stmt_course.specs.Bringing.{AreOnOwn, IsGiven}

-- CLAIMS

pub claims_mine_from : (files : List ℕ) (mine : ℕ → Bool) (claimed : ℕ → PageId) (numbers : List ℕ) (i : ℕ) (s : Slots) → AllByRecursion (IsGiven mine) numbers
    → ((m : ℕ) → i ≤ m → m < i + length numbers → (is_there files (claimed m) ≡ true) × (page_owner s (claimed m) ≡ 0)) → ((m n : ℕ) → m < n → n < i + length numbers → claimed m ≢ claimed n) → AreMine files mine s (claims_of numbers i claimed)
claims_mine_from files mine claimed [] i s given free differ = tt
claims_mine_from files mine claimed (number ∷ numbers) i s given free differ =
    let here = free i (omega arith) (omega arith) in (
      inr (record { page = claimed i; number = number; is = refl; there = here.0; free = here.1; small = given.0.0; given = given.0.1 }),
      claims_mine_from files mine claimed numbers (i + 1) (written (claim number (claimed i)) s) given.1
          (λ m le lt. let old = free m (omega (arith, le)) (omega (arith, lt)) in (old.0, page_owner-other s (claimed i) (claimed m) (owner_bytes (number + 1)) (λ e. differ i m (omega (arith, le)) (omega (arith, lt)) (sym e)) ∙ old.1))
          (λ m n lt l. differ m n lt (omega (arith, l))),
    )

pub edits_mine_all : (files : List ℕ) (mine : ℕ → Bool) (ws : List Write) (s : Slots) → AreOnOwn files mine s ws → AreMine files mine s ws
edits_mine_all files mine [] s own = tt
edits_mine_all files mine (w ∷ ws) s own = (inl own.0, edits_mine_all files mine ws (written w s) own.1)

-- PAGES ON WHICH BOTH STAND

pub record Stands (files : List ℕ) (mine theirs : ℕ → Bool) (others : List Record) (y : Slots) : Type 0 where
  pub own : List Record
  pub lie_own : LieWithin mine y own
  pub lie_others : LieWithin theirs y others
  pub tell : TellOwners files y
  pub spread : AreSpread files (sheets y)

module _ (files : List ℕ) (mine theirs : ℕ → Bool) (others : List Record) (is_apart : AreApart mine theirs) where
  -- after a write of one's own
  stands_on : (y : Slots) (w : Write) → Stands files mine theirs others y → IsMine files mine y w → Stands files mine theirs others (written w y)
  stands_on y w st its = record {
    own = st.own ++ record_of y w ∷ [];
    lie_own = write_own files y mine theirs st.own others is_apart st.tell st.lie_own st.lie_others w its;
    lie_others = write_others files y mine theirs st.own others is_apart st.tell st.lie_own st.lie_others w its;
    tell = write_tells files y mine theirs st.own others is_apart st.tell st.lie_own st.lie_others w its;
    spread = (one_moves files mine is_apart.free.0 is_apart.allocation.0 y st.spread w its).spread;
  }

  aside : (y : Slots) (w : Write) → Stands files mine theirs others y → IsMine files mine y w → undone others (written w y) ≡ written w (undone others y)
  aside y w st its = undone-with_slot others y w.page w.slot w.bytes (lacking others w.page w.slot (write_lacks files y mine theirs st.own others is_apart st.tell st.lie_own st.lie_others w its))

  -- on a page of one's own others have no records
  page_same : (y : Slots) (p : PageId) → Stands files mine theirs others y → is_there files p ≡ true → mine (page_owner y p) ≡ true → (i : ℕ) → undone others y p i ≡ y p i
  page_same y p st there own i = elim (cases_Bool (names others p i)) [
    | inr f ↦ unnamed others y p i f
    | inl t ↦ elim (st.lie_others.edits p i t) [
      | inl v ↦ differ (theirs (page_owner y p)) v.1 (is_apart.apart (page_owner y p) own)
      | inr q ↦ differ (mine (page_owner y p)) own (ap mine (st.tell p there (ap (λ (r : PageId). r.page % 1280) (sym q.1) ∙ every_spot q.0)) ∙ is_apart.allocation.0)
    ]
  ]

  may_one : (y : Slots) (w : Write) → Stands files mine theirs others y → IsMine files mine y w → MayWrite files (undone others y) w → MayWrite files y w
  may_one y w st its may = elim its [
    | inl e ↦
        let same : (i : ℕ) → undone others y w.page i ≡ y w.page i = page_same y w.page st e.0 e.1 in
        let page : written w (undone others y) w.page ≡ written w y w.page = λ k i. cond (is_page w.page w.page && w.slot == i) w.bytes (same i k) in
        record {
          there = may.there;
          index = may.index;
          short = may.short;
          room = subst (λ slots. used slots ≤ 8192) (sheet_same (written w (undone others y)) (written w y) w.page page) may.room;
          changes = λ e. may.changes (same w.slot ∙ e);
        }
    | inr c ↦ subst (MayWrite files y) (sym c.is) (claim_may files y c.page c.number (subst (λ (v : Write). AreSpread files (sheets (written v y))) c.is (one_moves files mine is_apart.free.0 is_apart.allocation.0 y st.spread w (inr c)).spread) c.there c.free c.small)
  ]

  pub go_along : (ws : List Write) (y : Slots) → Stands files mine theirs others y → AreMine files mine y ws → MayWriteAll files (undone others y) ws → MayWriteAll files y ws
  go_along [] y st own go = tt
  go_along (w ∷ ws) y st own go = (
    may_one y w st own.0 go.0,
    go_along ws (written w y) (stands_on y w st own.0) own.1 (subst (λ (t : Slots). MayWriteAll files t ws) (sym (aside y w st own.0)) go.1),
  )

  pub own_along : (ws : List Write) (y : Slots) → Stands files mine theirs others y → AreOnOwn files mine (undone others y) ws → AreOnOwn files mine y ws
  own_along [] y st own = tt
  own_along (w ∷ ws) y st own =
      let its : mine (page_owner y w.page) ≡ true = written_now mine y others w.page is_apart.free.0 st.lie_others.claims own.0.1 in
      let one : IsMine files mine y w = inl (own.0.0, its) in
      ((own.0.0, its), own_along ws (written w y) (stands_on y w st one) (subst (λ (t : Slots). AreOnOwn files mine t ws) (sym (aside y w st one)) own.1))

  -- after many writes of one's own
  pub done_along : (ws : List Write) (y : Slots) → Stands files mine theirs others y → AreMine files mine y ws → Stands files mine theirs others (done ws y) × (undone others (done ws y) ≡ done ws (undone others y))
  done_along [] y st own = (st, refl)
  done_along (w ∷ ws) y st own =
      let later = done_along ws (written w y) (stands_on y w st own.0) own.1 in
      (later.0, later.1 ∙ ap (done ws) (aside y w st own.0))

-- What a step that writes one page leaves where the files tell.
use Rattle.std.proofs.Common.{◌≡◌, ◌≢◌, ℕ, ◌+◌, true, List, ap, sym, subst, ◌∙◌, inl, inr}
use Rattle.std.specs.Prelude.{IsTrue}
use Rattle.page_base.specs.declared.numbers.PageId.{PageId}
use Rattle.page_base.specs.Slots.{Slots}
use Rattle.page_base.proofs.PagesLemmas.{cases_page}
use Rattle.page_fmt.specs.Content.{IsPage}
use Rattle.page_dev.specs.Files.{Files}
use Rattle.plain_model.specs.Legal.{Legal}
use Rattle.plain_model.specs.State.{Plain, session, committed, see, copy}
use Rattle.snap_pages.specs.Shown.{counts, img}
use Rattle.sys_cat.specs.declared.desc.TableDesc.{TableDesc}
use Rattle.page_tables.specs.Bases.{IsBase}
use Rattle.page_tables.specs.Owners.{is_there}
use Rattle.page_tables.specs.Sheets.{sheets}
use Rattle.open_work.specs.Open.{settled, alone, before}
use Rattle.step_words.specs.Seats.{Seated}
use Rattle.step_state.specs.State.{State, Fixed, IsSession, seat, works, many, machine, slots_at, settled_of, alone_of, before_of}
use Rattle.step_state.specs.Holding.{lock_at}
use Rattle.step_state.specs.Told.{IsToldSource, IsToldReading, IsTold, IsToldWhole}
use Rattle.step_state.specs.Safe.{Safe, IsContent}
use Rattle.step_state.specs.Steps.{LeavesQuiet}
use Rattle.step_state.proofs.KeptLemmas.{source_same}
use Rattle.step_state.proofs.SameLemmas.{mapped_same, copies_same, owing_same, gathered_same}
use Rattle.safe_write.specs.Setting.{SetsPage}
use Rattle.safe_write.proofs.SetWhole.{now, as_many, history, restores_same, held_same, image_else}

module _ (e s : State) (k : ℕ) (page : PageId) (y : Seated) (safe : Safe e) (d : SetsPage e s k page y) (ds : List TableDesc) (content : IsContent e ds) where
  same_many : many s ≡ many e
  same_many = ap (λ n. n + 1) (as_many e s k page y safe d)

  -- WHAT EACH SEES, BY WHAT THE WRITE LEAVES OF OPEN WORK

  pub settled_over : settled (many e) (works s) (slots_at s) ≡ settled_of e → settled_of s ≡ settled_of e
  settled_over same = ap (λ n. settled n (works s) (slots_at s)) same_many ∙ same

  pub alone_over : (j : ℕ) (t : Slots) → alone (many e) (works s) j (slots_at s) ≡ t → alone_of s j ≡ t
  alone_over j t same = ap (λ n. alone n (works s) j (slots_at s)) same_many ∙ same

  pub before_over : (j base : ℕ) → base ≡ (seat e j).base → before (many e) (works s) j (seat e j).base (slots_at s) ≡ before_of e j → before (many s) (works s) j base (slots_at s) ≡ before_of e j
  before_over j base at same =
      ap (λ b. before (many s) (works s) j b (slots_at s)) at ∙ ap (λ n. before n (works s) j (seat e j).base (slots_at s)) same_many ∙ same

  pub source_over : (x : Seated) (own before : Slots) → alone_of s k ≡ own → before_of s k ≡ before → seat s k ≡ x
      → IsToldSource (counts e.pages) ds x (lock_at e k) (session (machine e) k) own before (see (machine e) k) → IsToldReading s.pages (machine s) x → IsTold s ds k
  source_over x own before own_is before_is now told reading = record {
    source = subst (λ z. IsToldSource (counts s.pages) ds z (lock_at s k) (session (machine s) k) (alone_of s k) (before_of s k) (see (machine s) k)) (sym now)
        (source_same (counts e.pages) (counts s.pages) ds x (lock_at e k) (lock_at s k) (session (machine e) k) (session (machine s) k) own (alone_of s k) before (before_of s k) (see (machine e) k) (see (machine s) k)
        d.places.counts (held_same e s k page y safe d k) (ap (λ (m : Plain). session m k) (history e s k page y safe d)) own_is before_is (ap (λ (m : Plain). see m k) (history e s k page y safe d)) told);
    reading = subst (λ z. IsToldReading s.pages (machine s) z) (sym now) reading;
  }

  -- THE OTHERS, AND THE WHOLE

  pub quiet : ((j : ℕ) → j ≢ k → alone_of s j ≡ alone_of e j) → ((j : ℕ) → IsSession e j → j ≢ k → before_of s j ≡ before_of e j) → LeavesQuiet e s k
  quiet own before = record {
    alone = λ j is ne. own j ne;
    before = before;
    see = λ j is ne. ap (λ (m : Plain). see m j) (history e s k page y safe d);
    views = λ j c n is ne within place kept. (n, (λ i. sym d.places.places i c) ∙ place, (d.views.each n kept).0, (d.views.each n kept).1);
    copies = λ j c is ne within. ap (λ (m : Plain). copy m (seat e j).sitting.current) (history e s k page y safe d);
  }

  images_now : (p : PageId) → is_there (counts s.pages) p ≡ true → IsPage (img s.pages p)
  images_now p there = elim (cases_page p page) [
    | inl here ↦ subst (λ q. IsPage (img s.pages q)) (sym here) d.whole
    | inr ne ↦ subst IsPage (sym (image_else e s k page y safe d p ne)) (content.0.images p (sym (ap (λ f. is_there f p) d.places.counts) ∙ there))
  ]

  legal_now : Legal s.fixed.opening s.fixed.scripts s.events
  legal_now = subst (λ (f : Fixed). Legal f.opening f.scripts s.events) (sym d.fixed) (subst (λ es. Legal e.fixed.opening e.fixed.scripts es) (sym d.events) content.0.legal)

  source_now : settled_of s ≡ settled_of e → IsBase (counts s.pages) (sheets (settled_of s)) ds (committed (machine s))
  source_now same =
      subst (λ f. IsBase f (sheets (settled_of s)) ds (committed (machine s))) (sym d.places.counts)
      (subst (λ (t : Slots). IsBase (counts e.pages) (sheets t) ds (committed (machine s))) (sym same)
      (subst (λ (m : Plain). IsBase (counts e.pages) (sheets (settled_of e)) ds (committed m)) (sym (history e s k page y safe d)) content.0.source))

  pub whole_told : settled_of s ≡ settled_of e → y.gathered ≡ (seat e k).gathered → IsToldWhole s ds
  whole_told same gathered = record {
    tells = subst (λ (f : Files). IsTrue f.tells) (sym d.files) content.0.tells;
    legal = legal_now;
    images = images_now;
    mapped = mapped_same e s k safe.sessions d.snaps d.places d.views d.places.counts (λ name. ap (λ (m : Plain). copy m name) (history e s k page y safe d)) ds content.0;
    copies = copies_same e s k safe.sessions d.snaps d.places d.views d.places.counts (λ name. ap (λ (m : Plain). copy m name) (history e s k page y safe d)) ds content.0;
    owing = owing_same e s k safe.sessions d.snaps d.places d.views d.places.counts (λ name. ap (λ (m : Plain). copy m name) (history e s k page y safe d)) ds content.0;
    source = source_now same;
    gathered = gathered_same e s k d.is y safe.whole d.snaps d.places d.fixed (restores_same e s k page y safe d) d.seats ds content.0 d.views gathered;
  }

-- An engine at its beginning.
use Rattle.std.proofs.Common.{◌≡◌, ◌+◌, ◌*◌, ◌<◌, ◌≤◌, inr, ℕ, suc, zero, true, false, List, [], ◌∷◌, length, map, get_or, replicate, refl, ap, sym, ◌∙◌, subst, arith}
use Rattle.std.specs.Prelude.{sum_by}
use Rattle.std.specs.List.{list_any, filter_map, flat_map}
use Rattle.std.specs.Str.{bytes_eq}
use Rattle.std.specs.FinMap as finite
use Rattle.std.specs.FinSet as finset
use Rattle.std.proofs.lemmas.List.Sums.{sum_by-cons}
use Rattle.std.proofs.lemmas.Map.Text.{is_eq-slice_cmp}
use Rattle.std.proofs.lemmas.List.{get_or-map, length-map}
use Rattle.page_base.specs.declared.numbers.SnapNo.{SnapNo}
use Rattle.page_base.specs.Pages.{blank}
use Rattle.page_dev.specs.Volume.{Folder}
use Rattle.page_fmt.specs.Content.{IsPage}
use Rattle.page_fmt.proofs.CallerLemmas.{IsPage-blank}
use Rattle.plain_model.specs.declared.stmt.Stmt.{Stmt}
use Rattle.plain_model.specs.Tables.{Tables}
use Rattle.plain_model.specs.State.{fresh_session, master, start, opened_snap, committed}
use Rattle.plain_model.specs.Journal.{Opening}
use Rattle.plain_model.specs.Legal.{Legal, end}
use Rattle.plain_model.specs.Complete.{mark_of}
use Rattle.plain_model.specs.Sound.{AreScripts, are_distinct}
use Rattle.early_pages.specs.Catalog.{empty, Catalog, snap_at}
use Rattle.early_pages.specs.Shown.{img, counts, catalog, IsOpen}
use Rattle.early_pages.specs.Slots.{slots_of}
use Rattle.early_pages.specs.Views.{IsKept}
use Rattle.table_pages.specs.Carried.{data_pages}
use Rattle.table_pages.proofs.CallerLemmas.{blank_slots, blank_tables, blank_packed}
use Rattle.early_engine.specs.declared.seat.Seat.{Seat}
use Rattle.early_engine.specs.Opened.{names_of, new_source}
use Rattle.early_engine.specs.Pushing.{plainly, sound, weight}
use Rattle.early_engine.specs.Stepping.{idle}
use Rattle.early_engine.specs.Safe.{Run, state, seat_at, no_seat, InStep, AreSeated, AreCopies, AreOut, AreBlamed, marks_of, is_turn, HasRoom, AreTables, dues, Safe}

-- the names of a folder are those that have a place there
pub names_there : (folder : Folder) (name : List ℕ) → finite.contains_key folder name ≡ list_any (bytes_eq name) (names_of folder)
names_there folder name = finite.contains_key-keys folder name ∙ (λ i. list_any (λ x. is_eq-slice_cmp name x i) (finite.keys folder))

get_replicate : (n i : ℕ) (x d : Seat) → i < n → get_or (replicate n x) i d ≡ x
get_replicate zero i x d lt = absurd (omega (arith, lt))
get_replicate (suc n) zero x d lt = refl
get_replicate (suc n) (suc i) x d lt = get_replicate n i x d (omega (arith, lt))

length_replicate : (n : ℕ) (x : Seat) → length (replicate n x) ≡ n
length_replicate zero x = refl
length_replicate (suc n) x = let h = length_replicate n x in omega (arith, h)

abbrev pub first : Seat
first = record { current = master; said = 0; gone = false }

first_dues : (scripts : List (List Stmt)) → dues scripts (replicate (length scripts) first) ≡ 3 * sum_by length scripts + length scripts
first_dues [] = refl
first_dues (s ∷ ss) = let h = first_dues ss in let k : sum_by length (s ∷ ss) ≡ length s + sum_by length ss = sum_by-cons length s ss in omega (arith, h, k)

module _ (e : Run) (source file : List ℕ) (folder : Folder) (opening : e.opening ≡ new_source source file (names_of folder)) (scripts : AreScripts e.scripts) (pages : ℕ) (few : pages ≤ 32768)
    (images : img e.shown ≡ (λ p. blank)) (counted : counts e.shown ≡ pages ∷ []) (cat : catalog e.shown ≡ empty 1) (seats : e.seats ≡ replicate (length e.scripts) first)
    (events : e.kept.events ≡ []) (room : e.kept.room ≡ 3 * sum_by length e.scripts + length e.scripts)
    (there : e.disk.folder ≡ folder) (out : (name : List ℕ) → finset.contains e.disk.out name ≡ false) where
  no_snaps : (s : SnapNo) → IsOpen e.shown s → ⊥
  no_snaps s has = let h : s.0 < 0 = subst (λ (c : Catalog). s.0 < length c.snaps) cat has in absurd (omega (arith, h))

  none_kept : (s : SnapNo) → IsKept e.shown s → ⊥
  none_kept s kept = kept.sound (ap (λ (c : Catalog). (snap_at c s).state) cat)

  started : state e ≡ start e.opening e.scripts
  started = ap (λ es. end e.opening e.scripts es) events

  is_seated : (i : ℕ) → i < length e.scripts → seat_at e i ≡ first
  is_seated i lt = ap (λ (ss : List Seat). get_or ss i no_seat) seats ∙ get_replicate (length e.scripts) i first no_seat lt

  machine : InStep e
  machine = record {
    legal = λ told. subst (λ es. Legal e.opening e.scripts es) (sym events) tt;
    moment = ap (λ st. st.moment) started ∙ ap length (sym events);
    opened = ap (λ st. st.opening) started;
    scripts = ap (λ st. st.scripts) started;
    settled = ap (λ st. st.restoring) started;
    snaps = ap (λ st. st.snaps) started ∙ ap (λ (o : Opening). map opened_snap o.snaps) opening ∙ ap (λ (c : Catalog). map plainly c.snaps) (sym cat);
    next_cut = ap (λ st. st.next_cut) started ∙ ap (λ (o : Opening). o.next_cut) opening ∙ ap (λ (c : Catalog). c.next_cut) (sym cat);
    apart = λ s has. absurd (no_snaps s has);
  }

  sessions : AreSeated e
  sessions = record {
    scripts = scripts;
    seats = ap length seats ∙ length_replicate (length e.scripts) first;
    sessions = ap (λ st. length st.sessions) started ∙ length-map e.scripts (λ _. fresh_session);
    each = λ i lt. record {
      since = 0;
      is = ap (λ st. get_or st.sessions i fresh_session) started ∙ get_or-map (λ _. fresh_session) e.scripts i [] fresh_session lt ∙ ap (λ (t : Seat). idle t.said t.current t.gone 0) (sym (is_seated i lt));
      old = omega arith;
    };
    said = λ i lt. let s : (seat_at e i).said ≡ 0 = ap (λ (t : Seat). t.said) (is_seated i lt) in omega (arith, s);
    gone = λ i lt h. absurd (let x : false ≡ true = sym (ap (λ (t : Seat). t.gone) (is_seated i lt)) ∙ h in cc);
    marks = λ i lt. ap (filter_map (mark_of (i + 1))) events ∙ ap marks_of (sym (is_seated i lt));
  }

  no_tables : committed (state e) ≡ finite.empty
  no_tables = ap committed started ∙ ap (λ (o : Opening). o.tables) opening

  held : AreCopies e
  held = record {
    file = counted ∙ ap (λ (cs : List ℕ). get_or cs 0 0 ∷ []) (sym counted);
    few = let c : get_or (counts e.shown) 0 0 ≡ pages = ap (λ (cs : List ℕ). get_or cs 0 0) counted in omega (arith, few, c);
    source = subst (λ (t : Tables). AreTables (data_pages e.shown) (img e.shown) t) (sym no_tables) (record {
      pages = λ p. subst IsPage (sym (ap (λ f. f p) images)) IsPage-blank;
      says = blank_tables (data_pages e.shown) (slots_of (img e.shown)) (blank_slots (img e.shown) images);
      packed = blank_packed (data_pages e.shown) (slots_of (img e.shown)) (blank_slots (img e.shown) images);
    });
    copies = λ s kept. absurd (none_kept s kept);
  }

  files : AreOut e
  files = record {
    tells = λ told s has. absurd (no_snaps s has);
    names = λ told name. inr (ap (λ f. finite.contains_key f name) there ∙ names_there folder name ∙ sym (ap (λ st. list_any (bytes_eq name) st.on_volume) started ∙ ap (λ (o : Opening). list_any (bytes_eq name) o.on_volume) opening));
    out = λ name. out name ∙ ap (λ (c : Catalog). list_any (bytes_eq name) (flat_map (λ s. s.files) c.snaps)) (sym cat);
    distinct = ap (λ (c : Catalog). are_distinct (flat_map (λ s. s.files) c.snaps)) cat;
    single = λ s has. absurd (no_snaps s has);
  }

  blame : AreBlamed e
  blame = record {
    faults = λ s has. absurd (no_snaps s has);
    turned = λ h. absurd (let x : false ≡ true = sym (ap (list_any is_turn) events) ∙ h in cc);
  }

  enough : HasRoom e
  unfolding sound
  enough =
      let d : dues e.scripts e.seats ≡ 3 * sum_by length e.scripts + length e.scripts = ap (dues e.scripts) seats ∙ first_dues e.scripts in
      let s : sound e.shown ≡ 0 = ap (λ (c : Catalog). sum_by weight c.snaps) cat in
      let l : length e.kept.events ≡ 0 = ap length events in
      let f = scripts.few in
      let h = scripts.short in
      record { room = omega (arith, d, s, room); few = omega (arith, l, room, f, h) }

  pub safe_fresh : Safe e
  safe_fresh = record { machine = machine; sessions = sessions; pages = held; files = files; blame = blame; room = enough }

-- One sparse file after the other goes back to the volume.
use Rattle.std.proofs.Common.{◌≡◌, ◌+◌, ◌<◌, ◌≤◌, inl, inr, ℕ, Bool, true, false, ◌&&◌, ◌||◌, not, cond, IsTrue, List, [], ◌∷◌, ◌++◌, length, get_or, drop, refl, ap, sym, ◌∙◌, subst, arith}
use Rattle.std.specs.Prelude.{Some, is_some}
use Rattle.std.specs.List.{list_any, flat_map, concat}
use Rattle.std.specs.Str.{bytes_eq}
use Rattle.std.specs.Cmp.Lexicographic.{nat_list_cmp_total}
use Rattle.std.specs.FinMap as finite
use Rattle.std.specs.FinSet as finset
use Rattle.std.proofs.lemmas.Bool.{cases_Bool, cases_eq}
use Rattle.std.proofs.lemmas.List.{drop-drop, get_or-drop, length-drop, length-map}
use Rattle.std.proofs.lemmas.Grind.{get_or_after_one}
use Rattle.std.proofs.Math.Seq.{drop-cons}
use Rattle.std.proofs.lemmas.Map.Text.{is_eq-slice_cmp}
use Rattle.std.proofs.lemmas.Slice.Eq.{bytes_eq-Decides}
use Rattle.page_base.specs.declared.numbers.SnapNo.{SnapNo}
use Rattle.page_dev.specs.Faults.{Rose, total}
use Rattle.page_dev.specs.Files.{Files, files_of}
use Rattle.page_dev.specs.PageFile.{FilePages}
use Rattle.page_dev.specs.Volume.{Folder, Lies, Out}
use Rattle.plain_model.specs.Sound.{are_distinct}
use Rattle.early_pages.specs.Sparse.{faults}
use Rattle.early_pages.specs.Catalog.{Snap, Catalog, snap_at, no_snap, without}
use Rattle.early_pages.specs.Shown.{Shown, catalog, count, counts, IsOpen, set_of}
use Rattle.early_engine.specs.declared.closing.CloseEnd.{CloseEnd}
use Rattle.early_engine.specs.declared.closing.CloseEnd.TheVariants.{Done, Fault}
use Rattle.early_engine.specs.Closing.{first, file_of, bytes_of, IsFault, first_fault, Names, PutsBack, AreBack, Ends, StillLies}
use Rattle.early_engine.specs.Pushing.{faults_of}
use Rattle.early_engine.specs.Safe.{Disk, sparse_names}

and_true : (a : Bool) → IsTrue (a && true) → IsTrue a
and_true true h = refl
and_true false h = h

-- the one file of a set
module _ {F : Type 0} (tells : F → Bool) (content : F → FilePages) (size failures calls : F → ℕ) (files : List F) (set : Files) (shown : files_of tells content size failures calls files ≡ set) (n : ℕ) (one : set.counts ≡ n ∷ []) where
  pub one_long : length files ≡ 1
  one_long = sym (length-map files size) ∙ ap (λ (fs : Files). length fs.counts) shown ∙ ap length one

  module _ (file : F) (at : file ≡ get_or files 0 file) where
    alone : (fs : List F) → length fs ≡ 1 → file ≡ get_or fs 0 file → fs ≡ file ∷ []
    alone [] long is = absurd (omega (arith, long))
    alone (f ∷ []) long is = ap (λ (x : F). x ∷ []) (sym is)
    alone (f ∷ g ∷ fs) long is = absurd (omega (arith, long))

    shows : files_of tells content size failures calls (file ∷ []) ≡ set
    shows = ap (files_of tells content size failures calls) (sym (alone files one_long at)) ∙ shown

    pub puts_set : (name given : List ℕ) → given ≡ name → (old new : Disk) (end : CloseEnd) → PutsBack given (tells file) (concat (content file)) (failures file) old new end → PutsBack name set.tells (concat (get_or set.content 0 [])) (total set.failures) old new end
    puts_set name given is old new end puts' = let puts = subst (λ (n : List ℕ). PutsBack n (tells file) (concat (content file)) (failures file) old new end) is puts' in subst (λ (fs : Files). PutsBack name fs.tells (concat (get_or fs.content 0 [])) (total fs.failures) old new end) shows (record {
      out = puts.out;
      tells = puts.tells;
      later = puts.later;
      fault = puts.fault;
      named = puts.named;
      counted = let c = puts.counted in omega (arith, c);
      folder = λ told. let f = puts.folder told in record { left = f.left; had = f.had; is = f.is; ok = λ t done. f.ok (and_true (tells file) t) done };
    })

-- What is left of the snapshots, where the first ones' files were put back.
pub record Handed (v w : Shown) (start now : Disk) (end : CloseEnd) : Type 0 where
  pub done : ℕ
  pub left : (catalog w).snaps ≡ drop done (catalog v).snaps
  pub counts : counts w ≡ counts v
  pub out : (name : List ℕ) → finset.contains now.out name ≡ list_any (bytes_eq name) (sparse_names w)
  pub distinct : are_distinct (sparse_names w) ≡ true
  pub single : (s : SnapNo) → IsOpen w s → length (snap_at (catalog w) s).files ≡ 1
  pub tells : now.told ≡ start.told
  pub later : start.failures ≤ now.failures
  pub file_later : start.file_failures ≤ now.file_failures
  pub fault : IsFault end → Rose start.failures now.failures
  pub blame : (s : SnapNo) → IsOpen v s → s.0 < done → 1 ≤ faults_of v s → Rose start.file_failures now.file_failures
  pub folder : (name : List ℕ) → IsTrue start.told → finite.contains_key now.folder name ≡ finite.contains_key start.folder name
  pub lies : StillLies start.told start.folder now.folder
  pub aside : (s : SnapNo) → IsOpen v s → s.0 < done → finset.contains now.out (file_of v s) ≡ false
  pub ends : Ends v done now end

-- nothing was put back yet
pub handed_none : (v : Shown) (start : Disk) → ((name : List ℕ) → finset.contains start.out name ≡ list_any (bytes_eq name) (sparse_names v)) → are_distinct (sparse_names v) ≡ true → ((s : SnapNo) → IsOpen v s → length (snap_at (catalog v) s).files ≡ 1) → Handed v v start start Done
handed_none v start out distinct single = record {
  done = 0;
  left = refl;
  counts = refl;
  out = out;
  distinct = distinct;
  single = single;
  tells = refl;
  later = omega arith;
  file_later = omega arith;
  fault = λ fault. absurd fault;
  blame = λ s there lt. absurd (omega (arith, lt));
  folder = λ name told. refl;
  lies = λ name bytes told is. is;
  aside = λ s there lt. absurd (omega (arith, lt));
  ends = λ s there lt. absurd (omega (arith, lt));
}

alone_name : (names : List (List ℕ)) → length names ≡ 1 → names ≡ get_or names 0 [] ∷ []
alone_name [] long = absurd (omega (arith, long))
alone_name (n ∷ []) long = refl
alone_name (n ∷ m ∷ ns) long = absurd (omega (arith, long))

off : (b r : Bool) → (b ≡ true → r ≡ false) → (not b && (b || r)) ≡ r
off true r h = sym (h refl)
off false r h = refl

apart_left : (b c : Bool) → (not b && c) ≡ true → b ≡ false
apart_left true c h = sym h
apart_left false c h = refl

apart_right : (b c : Bool) → (not b && c) ≡ true → c ≡ true
apart_right true c h = cc
apart_right false c h = h

same_name : (a : List ℕ) → bytes_eq a a ≡ true
same_name a = (bytes_eq-Decides a a).1 refl

out_still : (b c : Bool) → c ≡ false → (not b && c) ≡ false
out_still true c h = refl
out_still false c h = h

-- the first snapshot's file is one of those that are out
module _ (w : Shown) (single : (s : SnapNo) → IsOpen w s → length (snap_at (catalog w) s).files ≡ 1) (some : IsOpen w first) where
  first_names : sparse_names w ≡ file_of w first ∷ flat_map (λ (s : Snap). s.files) (drop 1 (catalog w).snaps)
  first_names =
      ap (flat_map (λ (s : Snap). s.files)) (drop-cons (catalog w).snaps 0 no_snap some)
      ∙ ap (λ (names : List (List ℕ)). names ++ flat_map (λ (s : Snap). s.files) (drop 1 (catalog w).snaps)) (alone_name (snap_at (catalog w) first).files (single first some))

  pub first_out : (disk : Disk) → ((name : List ℕ) → finset.contains disk.out name ≡ list_any (bytes_eq name) (sparse_names w)) → finset.contains disk.out (file_of w first) ≡ true
  first_out disk out = out (file_of w first) ∙ ap (list_any (bytes_eq (file_of w first))) first_names ∙ ap (λ b. b || list_any (bytes_eq (file_of w first)) (flat_map (λ (s : Snap). s.files) (drop 1 (catalog w).snaps))) (same_name (file_of w first))

-- the first snapshot that is left goes, and its file is put back
module _ (v w w' : Shown) (start now now' : Disk) (end end' : CloseEnd) (handed : Handed v w start now end) (some : IsOpen w first) (gone : catalog w' ≡ without (catalog w) first) (same : counts w' ≡ counts w)
    (puts : PutsBack (file_of w first) (set_of w first).files.tells (bytes_of w first) (faults_of w first) now now' end') where
  snaps_left : (catalog w').snaps ≡ drop 1 (catalog w).snaps
  snaps_left = ap (λ (c : Catalog). c.snaps) gone

  -- this snapshot, as it stood in the beginning
  here : (s : SnapNo) → s.0 ≡ handed.done → snap_at (catalog v) s ≡ snap_at (catalog w) first
  here s is = ap (λ (i : ℕ). get_or (catalog v).snaps i no_snap) (let at : s.0 ≡ handed.done + 0 = omega (arith, is) in at) ∙ sym (get_or-drop handed.done (catalog v).snaps 0 no_snap) ∙ ap (λ (ss : List Snap). get_or ss 0 no_snap) (sym handed.left)

  next : (s : SnapNo) → snap_at (catalog w') s ≡ snap_at (catalog w) (record { 0 = 1 + s.0 })
  next s = ap (λ (ss : List Snap). get_or ss s.0 no_snap) snaps_left ∙ get_or_after_one (catalog w).snaps s.0 no_snap

  longer : count w ≡ count w' + 1
  longer = let l = ap length snaps_left ∙ length-drop 1 (catalog w).snaps in let s : 0 < length (catalog w).snaps = some in omega (arith, l, s)

  names_are : sparse_names w ≡ file_of w first ∷ sparse_names w'
  names_are = first_names w handed.single some ∙ ap (λ (ss : List Snap). file_of w first ∷ flat_map (λ (s : Snap). s.files) ss) (sym snaps_left)

  distinct_names : (not (list_any (bytes_eq (file_of w first)) (sparse_names w')) && are_distinct (sparse_names w')) ≡ true
  distinct_names = ap are_distinct (sym names_are) ∙ handed.distinct

  -- which names are out
  was_out : finset.contains now.out (file_of w first) ≡ true
  was_out = first_out w handed.single some now handed.out

  out_now : (q : List ℕ) → finset.contains now'.out q ≡ (not (bytes_eq q (file_of w first)) && finset.contains now.out q)
  out_now q = ap (λ o. finset.contains o q) puts.out ∙ finset.contains-remove nat_list_cmp_total now.out (file_of w first) q ∙ ap (λ b. not b && finset.contains now.out q) (is_eq-slice_cmp q (file_of w first))

  out_left : (q : List ℕ) → finset.contains now'.out q ≡ list_any (bytes_eq q) (sparse_names w')
  out_left q =
      out_now q
      ∙ ap (λ b. not (bytes_eq q (file_of w first)) && b) (handed.out q ∙ ap (list_any (bytes_eq q)) names_are)
      ∙ off (bytes_eq q (file_of w first)) (list_any (bytes_eq q) (sparse_names w')) (λ t.
      ap (λ (n : List ℕ). list_any (bytes_eq n) (sparse_names w')) ((bytes_eq-Decides q (file_of w first)).0 t) ∙ apart_left (list_any (bytes_eq (file_of w first)) (sparse_names w')) (are_distinct (sparse_names w')) distinct_names)

  aside_now : (s : SnapNo) → IsOpen v s → s.0 < handed.done + 1 → finset.contains now'.out (file_of v s) ≡ false
  aside_now s there lt = out_now (file_of v s) ∙ elim (cases_eq s.0 handed.done) [
    | inl is ↦
        let e : file_of v s ≡ file_of w first = ap (λ (x : Snap). get_or x.files 0 []) (here s is) in
        let t : bytes_eq (file_of v s) (file_of w first) ≡ true = ap (λ (n : List ℕ). bytes_eq n (file_of w first)) e ∙ same_name (file_of w first) in
        ap (λ b. not b && finset.contains now.out (file_of v s)) t
    | inr other ↦ out_still (bytes_eq (file_of v s) (file_of w first)) (finset.contains now.out (file_of v s)) (handed.aside s there (omega (arith, lt, other)))
  ]

  -- the folder
  module _ (told : IsTrue now.told) where
    placed : (q : List ℕ) → finite.get now'.folder q ≡ cond (bytes_eq q (file_of w first)) (Some (Lies (puts.folder told).left)) (finite.get now.folder q)
    placed q = ap (λ (f : Folder). finite.get f q) (puts.folder told).is ∙ finite.get-insert nat_list_cmp_total now.folder (file_of w first) (Lies (puts.folder told).left) q ∙ ap (λ b. cond b (Some (Lies (puts.folder told).left)) (finite.get now.folder q)) (is_eq-slice_cmp q (file_of w first))

    keys : (q : List ℕ) → finite.contains_key now'.folder q ≡ finite.contains_key now.folder q
    keys q = elim (cases_Bool (bytes_eq q (file_of w first))) [
      | inl t ↦
          ap is_some (placed q ∙ ap (λ b. cond b (Some (Lies (puts.folder told).left)) (finite.get now.folder q)) t)
          ∙ sym (ap (finite.contains_key now.folder) ((bytes_eq-Decides q (file_of w first)).0 t) ∙ ap is_some (puts.folder told).had)
      | inr f ↦ ap is_some (placed q ∙ ap (λ b. cond b (Some (Lies (puts.folder told).left)) (finite.get now.folder q)) f)
    ]

    stays : (q : List ℕ) → finset.contains now.out q ≡ false → finite.get now'.folder q ≡ finite.get now.folder q
    stays q in_place = elim (cases_Bool (bytes_eq q (file_of w first))) [
      | inl t ↦ absurd (let x : true ≡ false = sym was_out ∙ ap (finset.contains now.out) (sym ((bytes_eq-Decides q (file_of w first)).0 t)) ∙ in_place in cc)
      | inr f ↦ placed q ∙ ap (λ b. cond b (Some (Lies (puts.folder told).left)) (finite.get now.folder q)) f
    ]

    lies_still : (q bytes : List ℕ) → finite.get now.folder q ≡ Some (Lies bytes) → finite.get now'.folder q ≡ Some (Lies bytes)
    lies_still q bytes is = elim (cases_Bool (bytes_eq q (file_of w first))) [
      | inl t ↦ absurd (let x : Some Out ≡ Some (Lies bytes) = sym (puts.folder told).had ∙ ap (finite.get now.folder) (sym ((bytes_eq-Decides q (file_of w first)).0 t)) ∙ is in cc)
      | inr f ↦ placed q ∙ ap (λ b. cond b (Some (Lies (puts.folder told).left)) (finite.get now.folder q)) f ∙ is
    ]

  told_before : IsTrue now'.told → IsTrue now.told
  told_before told = sym puts.tells ∙ told

  -- files that are back stay so
  back_still : (n : ℕ) → n ≤ handed.done → AreBack v n now → AreBack v n now'
  back_still n le back s there lt told tells = stays (told_before told) (file_of v s) (handed.aside s there (omega (arith, lt, le))) ∙ back s there lt (told_before told) tells

  -- and this one is back where nothing failed
  back_more : end' ≡ Done → AreBack v handed.done now → AreBack v (handed.done + 1) now'
  back_more done back s there lt told tells = elim (cases_eq s.0 handed.done) [
    | inl is ↦
        let t = told_before told in
        let e : file_of v s ≡ file_of w first = ap (λ (x : Snap). get_or x.files 0 []) (here s is) in
        let b : bytes_of v s ≡ bytes_of w first = ap (λ (x : Snap). concat (get_or x.set.files.content 0 [])) (here s is) in
        let it : IsTrue (set_of w first).files.tells = subst (λ (x : Snap). IsTrue x.set.files.tells) (here s is) tells in
        ap (finite.get now'.folder) e ∙ placed t (file_of w first)
        ∙ ap (λ b. cond b (Some (Lies (puts.folder t).left)) (finite.get now.folder (file_of w first))) (same_name (file_of w first))
        ∙ ap (λ (x : List ℕ). Some (Lies x)) ((puts.folder t).ok it done ∙ sym b)
    | inr other ↦ back_still handed.done (omega arith) back s there (omega (arith, lt, other)) told tells
  ]

  there_now : (k : ℕ) → k ≡ handed.done → k < count v
  there_now k is = let l = ap length handed.left ∙ length-drop handed.done (catalog v).snaps in let s : 0 < length (catalog w).snaps = some in omega (arith, l, s, is)

  ends_now : (a b : CloseEnd) → Ends v handed.done now a → end' ≡ b → Names (file_of w first) b → Ends v (handed.done + 1) now' (first_fault a b)
  ends_now Done Done back is named = back_more is back
  ends_now Done (Fault failed) back is named = record {
    snap = record { 0 = handed.done };
    there = there_now handed.done refl;
    among = omega arith;
    named = ap (λ (x : Snap). get_or x.files 0 []) (here (record { 0 = handed.done }) refl) ∙ sym named;
    before = back_still handed.done (omega arith) back;
  }
  ends_now (Fault failed) b fault is named = record {
    snap = fault.snap;
    there = fault.there;
    among = let a = fault.among in omega (arith, a);
    named = fault.named;
    before = let a = fault.among in back_still fault.snap.0 (omega (arith, a)) fault.before;
  }

  faulty : (a b : CloseEnd) → (IsFault a → Rose start.failures now'.failures) → (IsFault b → Rose start.failures now'.failures) → IsFault (first_fault a b) → Rose start.failures now'.failures
  faulty Done b old new fault = new fault
  faulty (Fault failed) b old new fault = old fault

  pub handed_more : Handed v w' start now' (first_fault end end')
  handed_more = record {
    done = handed.done + 1;
    left = snaps_left ∙ ap (drop 1) handed.left ∙ drop-drop 1 handed.done (catalog v).snaps;
    counts = same ∙ handed.counts;
    out = out_left;
    distinct = apart_right (list_any (bytes_eq (file_of w first)) (sparse_names w')) (are_distinct (sparse_names w')) distinct_names;
    single = λ s there. ap (λ (x : Snap). length x.files) (next s) ∙ handed.single (record { 0 = 1 + s.0 }) (let l = longer in let t : s.0 < count w' = there in omega (arith, l, t));
    tells = puts.tells ∙ handed.tells;
    later = let a = handed.later in let b = puts.later in omega (arith, a, b);
    file_later = let a = handed.file_later in let b = puts.counted in omega (arith, a, b);
    fault = faulty end end' (λ fault. let a = handed.fault fault in let b = puts.later in omega (arith, a, b)) (λ fault. let a = puts.fault fault in let b = handed.later in omega (arith, a, b));
    blame = λ s there lt faulted. elim (cases_eq s.0 handed.done) [
      | inl is ↦
          let f : faults_of v s ≡ faults_of w first = ap (λ (x : Snap). faults x.set) (here s is) in
          let a = handed.file_later in let b = puts.counted in omega (arith, a, b, f, faulted)
      | inr other ↦ let a = handed.blame s there (omega (arith, lt, other)) faulted in let b = puts.counted in omega (arith, a, b)
    ];
    folder = λ q told. keys (handed.tells ∙ told) q ∙ handed.folder q told;
    lies = λ q bytes told is. lies_still (handed.tells ∙ told) q bytes (handed.lies q bytes told is);
    aside = aside_now;
    ends = ends_now end end' handed.ends refl puts.named;
  }

-- whether a snapshot is left
pub some_left : (w : Shown) (cat : Catalog) (n : ℕ) → cat ≡ catalog w → n ≡ length cat.snaps → 0 < n → IsOpen w first
some_left w cat n is counted lt = let l = ap (λ (x : Catalog). length x.snaps) is in omega (arith, l, counted, lt)

pub none_left_by : (w : Shown) (cat : Catalog) (n : ℕ) → cat ≡ catalog w → n ≡ length cat.snaps → n ≤ 0 → ¬ IsOpen w first
none_left_by w cat n is counted le some = let l = ap (λ (x : Catalog). length x.snaps) is in let s : 0 < length (catalog w).snaps = some in omega (arith, l, counted, le, s)

-- all were put back
module _ (v w : Shown) (start now : Disk) (end : CloseEnd) (handed : Handed v w start now end) (none : ¬ IsOpen w first) where
  none_left : (catalog w).snaps ≡ []
  none_left = empty (catalog w).snaps none where
    empty : (ss : List Snap) → ¬ (0 < length ss) → ss ≡ []
    empty [] h = refl
    empty (s ∷ ss) h = absurd (h (omega arith))

  all_done : count v ≤ handed.done
  all_done = let l = ap length (sym none_left) in let m = ap length handed.left ∙ length-drop handed.done (catalog v).snaps in omega (arith, l, m)

  pub none_out : (name : List ℕ) → finset.contains now.out name ≡ false
  none_out name = handed.out name ∙ ap (λ (ss : List Snap). list_any (bytes_eq name) (flat_map (λ (s : Snap). s.files) ss)) none_left

  pub all_blamed : (s : SnapNo) → IsOpen v s → 1 ≤ faults_of v s → Rose start.file_failures now.file_failures
  all_blamed s there faulted = let t : s.0 < count v = there in let a = all_done in handed.blame s there (omega (arith, t, a)) faulted

  back_all : (n m : ℕ) → count v ≤ m → AreBack v m now → AreBack v n now
  back_all n m le back s there lt = let t : s.0 < count v = there in back s there (omega (arith, t, le))

  ends_all : (e : CloseEnd) → Ends v handed.done now e → Ends v (count v) now e
  ends_all Done back = back_all (count v) handed.done all_done back
  ends_all (Fault failed) fault = record { snap = fault.snap; there = fault.there; among = fault.there; named = fault.named; before = fault.before }

  pub all_ended : Ends v (count v) now end
  all_ended = ends_all end handed.ends

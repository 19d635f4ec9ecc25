-- What of a folder is out after a name's place was set or freed.
use Rattle.std.proofs.Common.{◌≡◌, ◌≢◌, ℕ, Bool, true, false, not, ◌&&◌, ◌||◌, IsTrue, List, cond, refl, ap, sym, ◌∙◌}
use Rattle.std.specs.Prelude.{Option, None, Some, is_some, Result, Ok, Err, OnErr}
use Rattle.std.specs.Ordering.{nat_cmp, eq_by_cmp}
use Rattle.std.specs.Cmp.Lexicographic.{slice_cmp, nat_list_cmp_total}
use Rattle.std.specs.FinMap.{get-empty, get-insert, get-remove}
use Rattle.std.specs.FinMap as map
use Rattle.std.specs.FinSet.{contains-empty, contains-insert, contains-remove, same_set}
use Rattle.std.specs.FinSet as set
use mathlib.Core.Bool.{false≢true}
use Rattle.page_dev.specs.PageFile.{FilePages}
use Rattle.page_dev.specs.declared.volume.VolRefusal.{VolRefusal}
use Rattle.page_dev.specs.declared.volume.VolRefusal.TheVariants.{Exists, Absent, Length, Failed, Memory}
use Rattle.page_dev.specs.Volume.{Kept, Lies, Out, Folder, is_out, out_after, Creates, TakesPages, TakesLog}
use Rattle.mem_dev.specs.Out.{out_of, contains-out_of}
use Rattle.mem_dev.specs.Shelf.{lies}
use Rattle.mem_dev.proofs.NameMapLemmas.{names_exact}
use Rattle.mem_dev.proofs.FolderLemmas.{same_name}

pub none_out : out_of map.empty ≡ set.empty
none_out = same_set nat_list_cmp_total names_exact _ _ (λ q.
    contains-out_of map.empty q ∙ ap is_out (get-empty (slice_cmp nat_cmp) q) ∙ sym (contains-empty (slice_cmp nat_cmp) q))

either : (b : Bool) (x : Kept) (o : Option Kept) → is_out (cond b (Some x) o) ≡ cond b (is_out (Some x)) (is_out o)
either true x o = refl
either false x o = refl

at-inserted : (folder : Folder) (name : List ℕ) (file : Kept) (q : List ℕ) →
    set.contains (out_of (map.insert folder name file)) q ≡ cond (eq_by_cmp (slice_cmp nat_cmp) q name) (is_out (Some file)) (set.contains (out_of folder) q)
at-inserted folder name file q =
    contains-out_of (map.insert folder name file) q ∙ ap is_out (get-insert nat_list_cmp_total folder name file q)
    ∙ either (eq_by_cmp (slice_cmp nat_cmp) q name) file (map.get folder q)
    ∙ ap (cond (eq_by_cmp (slice_cmp nat_cmp) q name) (is_out (Some file))) (sym (contains-out_of folder q))

as_or : (b c : Bool) → cond b true c ≡ (b || c)
as_or true c = refl
as_or false c = refl

pub marked_out : (folder : Folder) (name : List ℕ) → out_of (map.insert folder name Out) ≡ set.insert (out_of folder) name
marked_out folder name = same_set nat_list_cmp_total names_exact _ _ (λ q.
    at-inserted folder name Out q ∙ as_or (eq_by_cmp (slice_cmp nat_cmp) q name) (set.contains (out_of folder) q)
    ∙ sym (contains-insert nat_list_cmp_total (out_of folder) name q))

as_and : (b c : Bool) → cond b false c ≡ (not b && c)
as_and true c = refl
as_and false c = refl

is_in : (file : Kept) → file ≢ Out → is_out (Some file) ≡ false
is_in (Lies bytes) h = refl
is_in Out h = absurd (h refl)

pub put_out : (folder : Folder) (name : List ℕ) (file : Kept) → file ≢ Out → out_of (map.insert folder name file) ≡ set.remove (out_of folder) name
put_out folder name file h = same_set nat_list_cmp_total names_exact _ _ (λ q.
    at-inserted folder name file q ∙ ap (λ b. cond (eq_by_cmp (slice_cmp nat_cmp) q name) b (set.contains (out_of folder) q)) (is_in file h)
    ∙ as_and (eq_by_cmp (slice_cmp nat_cmp) q name) (set.contains (out_of folder) q)
    ∙ sym (contains-remove nat_list_cmp_total (out_of folder) name q))

pub removed_out : (folder : Folder) (name : List ℕ) → set.contains (out_of folder) name ≡ false → out_of (map.remove folder name) ≡ out_of folder
removed_out folder name there = same_set nat_list_cmp_total names_exact _ _ (λ q.
    contains-out_of (map.remove folder name) q ∙ ap is_out (get-remove nat_list_cmp_total folder name q)
    ∙ at q (eq_by_cmp (slice_cmp nat_cmp) q name) refl ∙ sym (contains-out_of folder q))
  where
    at : (q : List ℕ) (b : Bool) → eq_by_cmp (slice_cmp nat_cmp) q name ≡ b → is_out (cond b None (map.get folder q)) ≡ is_out (map.get folder q)
    at q true e = sym there ∙ contains-out_of folder name ∙ ap (λ n. is_out (map.get folder n)) (sym (same_name q name e))
    at q false e = refl

-- another file at a place where one lies
pub resized_out : (folder : Folder) (name bytes : List ℕ) → lies (map.get folder name) ≡ true → out_of (map.insert folder name (Lies bytes)) ≡ out_of folder
resized_out folder name bytes there = same_set nat_list_cmp_total names_exact _ _ (λ q.
    at-inserted folder name (Lies bytes) q ∙ at q (eq_by_cmp (slice_cmp nat_cmp) q name) refl)
  where
    is_in_place : (o : Option Kept) → lies o ≡ true → is_out o ≡ false
    is_in_place None e = refl
    is_in_place (Some (Lies bs)) e = refl
    is_in_place (Some Out) e = absurd (false≢true e)

    at : (q : List ℕ) (b : Bool) → eq_by_cmp (slice_cmp nat_cmp) q name ≡ b → cond b false (set.contains (out_of folder) q) ≡ set.contains (out_of folder) q
    at q true e =
        sym (is_in_place (map.get folder name) there) ∙ sym (contains-out_of folder name)
        ∙ ap (λ n. set.contains (out_of folder) n) (sym (same_name q name e))
    at q false e = refl

-- AFTER CALLS

pub created_out : {T : Type 0} (r : Result T VolRefusal) (name : List ℕ) (old new : Folder) → Creates name old new r → OnErr r (new ≡ old) → out_of new ≡ out_after (out_of old) name r
created_out (Ok x) name old new h same = ap out_of h.1 ∙ marked_out old name
created_out (Err e) name old new h same = ap out_of same

pub pages_taken_out : {P : Type 0} (tells : P → Bool) (content : P → FilePages) (r : Result P VolRefusal) (name : List ℕ) (pages : ℕ) (old new : Folder) →
    TakesPages tells content name pages old new r → out_of new ≡ out_after (out_of old) name r
pages_taken_out tells content (Ok x) name pages old new h = ap out_of h.out ∙ marked_out old name
pages_taken_out tells content (Err Exists) name pages old new h = absurd h
pages_taken_out tells content (Err Absent) name pages old new h = ap out_of h.1
pages_taken_out tells content (Err (Length found)) name pages old new h = ap out_of h.1
pages_taken_out tells content (Err Failed) name pages old new h = ap out_of h
pages_taken_out tells content (Err Memory) name pages old new h = ap out_of h

pub log_taken_out : {L : Type 0} (tells : L → Bool) (content : L → List ℕ) (r : Result L VolRefusal) (name : List ℕ) (old new : Folder) →
    TakesLog tells content name old new r → out_of new ≡ out_after (out_of old) name r
log_taken_out tells content (Ok x) name old new h = ap out_of h.out ∙ marked_out old name
log_taken_out tells content (Err Exists) name old new h = absurd h
log_taken_out tells content (Err Absent) name old new h = ap out_of h.1
log_taken_out tells content (Err (Length found)) name old new h = absurd h
log_taken_out tells content (Err Failed) name old new h = ap out_of h
log_taken_out tells content (Err Memory) name old new h = ap out_of h

-- a file that is out has its name's place
pub place_of_out : (folder : Folder) (name : List ℕ) → set.contains (out_of folder) name ≡ true → IsTrue (map.contains_key folder name)
place_of_out folder name h = place (map.get folder name) (sym (contains-out_of folder name) ∙ h)
  where
    place : (o : Option Kept) → is_out o ≡ true → IsTrue (is_some o)
    place None e = absurd (false≢true e)
    place (Some file) e = refl

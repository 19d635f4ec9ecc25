-- Files that leave their names' places and come back.
use Rattle.std.proofs.Common.{◌≡◌, ◌≢◌, ℕ, Bool, true, false, IsTrue, List, cond, refl, ap, sym, ◌∙◌}
use Rattle.std.specs.Prelude.{Some, is_some, Err}
use Rattle.std.specs.Ordering.{nat_cmp, is_eq, eq_by_cmp}
use Rattle.std.specs.Cmp.{Equal-is, tied_itself}
use Rattle.std.specs.Cmp.Lexicographic.{slice_cmp, nat_list_cmp_total}
use Rattle.std.specs.FinMap.{get-insert, same_map}
use Rattle.std.specs.FinMap as map
use Rattle.std.specs.FinSet as set
use mathlib.Core.Bool.{false≢true}
use Rattle.page_dev.specs.PageFile.{FilePages}
use Rattle.page_dev.specs.declared.volume.VolRefusal.{VolRefusal}
use Rattle.page_dev.specs.declared.volume.VolRefusal.TheVariants.{Exists, Absent, Length, Failed, Memory}
use Rattle.page_dev.specs.Volume.{Kept, Lies, Out, Folder, is_out, TakesPages}
use Rattle.mem_dev.specs.Out.{out_of, contains-out_of}
use Rattle.mem_dev.specs.Shelf.{IsWhy}
use Rattle.mem_dev.proofs.NameMapLemmas.{names_exact}

pub tied : (name : List ℕ) → eq_by_cmp (slice_cmp nat_cmp) name name ≡ true
tied name = ap is_eq (tied_itself nat_list_cmp_total name)

pub same_name : (q name : List ℕ) → eq_by_cmp (slice_cmp nat_cmp) q name ≡ true → q ≡ name
same_name q name t = names_exact q name ((Equal-is (slice_cmp nat_cmp q name)).0 t)

module _ {X : Type 0} where
  -- what was inserted is there
  pub get-inserted : (m : map.FinMap (slice_cmp nat_cmp) X) (name : List ℕ) (x : X) → map.get (map.insert m name x) name ≡ Some x
  get-inserted m name x = get-insert nat_list_cmp_total m name x name ∙ ap (λ b. cond b (Some x) (map.get m name)) (tied name)

  pub there-inserted : (m : map.FinMap (slice_cmp nat_cmp) X) (name : List ℕ) (x : X) → IsTrue (map.contains_key (map.insert m name x) name)
  there-inserted m name x = ap is_some (get-inserted m name x)

  -- a value that is put back
  pub restored : (m : map.FinMap (slice_cmp nat_cmp) X) (name : List ℕ) (x y : X) → map.get m name ≡ Some y → map.insert (map.insert m name x) name y ≡ m
  restored m name x y there = same_map nat_list_cmp_total names_exact _ _ (λ q.
      get-insert nat_list_cmp_total (map.insert m name x) name y q ∙ ap (cond (eq_by_cmp (slice_cmp nat_cmp) q name) (Some y)) (get-insert nat_list_cmp_total m name x q)
      ∙ at q (eq_by_cmp (slice_cmp nat_cmp) q name) refl)
    where
      at : (q : List ℕ) (b : Bool) → eq_by_cmp (slice_cmp nat_cmp) q name ≡ b → cond b (Some y) (cond b (Some x) (map.get m q)) ≡ map.get m q
      at q true e = sym there ∙ ap (map.get m) (sym (same_name q name e))
      at q false e = refl

-- a file that is there and isn't out lies there
pub not_out : (folder : Folder) (name : List ℕ) (file : Kept) → map.get folder name ≡ Some file → set.contains (out_of folder) name ≡ false → file ≢ Out
not_out folder name file there h e = false≢true (sym h ∙ contains-out_of folder name ∙ ap is_out (there ∙ ap Some e))

pub refused_pages : {P : Type 0} (tells : P → Bool) (content : P → FilePages) (name : List ℕ) (pages : ℕ) (old new : Folder) (file : Kept) (why : VolRefusal) →
    map.get old name ≡ Some file → file ≢ Out → IsWhy pages file why → new ≡ old → TakesPages tells content name pages old new (Err why)
refused_pages tells content name pages old new file Exists there lies h same = h
refused_pages tells content name pages old new file Absent there lies h same = absurd h
refused_pages tells content name pages old new (Lies bytes) (Length found) there lies h same = (record { bytes = bytes; had = there; long = h.0; other = h.1 }, same)
refused_pages tells content name pages old new Out (Length found) there lies h same = absurd (lies refl)
refused_pages tells content name pages old new file Failed there lies h same = absurd h
refused_pages tells content name pages old new file Memory there lies h same = same

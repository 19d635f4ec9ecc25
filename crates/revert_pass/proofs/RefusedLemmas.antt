-- A copy that wasn't read, once its page was fetched, and before the pin was taken back.
use Rattle.std.proofs.Common.{◌≡◌, ℕ, IsTrue, List, Result, Ok, Err, None, inr, ap, sym, ◌∙◌, subst}
use Rattle.std.specs.Prelude.{IfErr, slice_index_or}
use Rattle.page_base.specs.declared.numbers.PageId.{PageId}
use Rattle.page_base.specs.declared.numbers.SnapNo.{SnapNo}
use Rattle.page_dev.specs.Faults.{Rose}
use Rattle.page_dev.specs.Files.{Files, called}
use Rattle.buf_pool.specs.Pool.{IsPooled, frame_of}
use Rattle.buf_pool.specs.Calls.{read_calls}
use Rattle.sparse_set.specs.Sparse.{Sparse, no_set, sparse_page, faults}
use Rattle.snap_pages.specs.Shown.{Shown}
use Rattle.revert_pass.specs.declared.refusal.RevertRefusal.{RevertRefusal}
use Rattle.revert_pass.specs.declared.refusal.RevertRefusal.TheVariants.{Fetch, Sparse as SparseFailed, Memory}
use Rattle.revert_pass.specs.Gathers.{CopyRefused, GatherRefused, IsOneCall, IsOneFetch, IsSparseDamage}

-- no file of the source was called behind the fetch
pub fetched_on : (p : PageId) (old mid new : Shown)
    → (IsPooled old.pool p → mid.pool.files ≡ old.pool.files)
    → (frame_of old.pool p ≡ None → mid.pool.files.calls ≡ read_calls old.pool p)
    → new.pool.files ≡ mid.pool.files
    → IsOneFetch p old new
fetched_on p old mid new pooled read files = record {
  pooled = λ h. ap (λ (x : Files). x.calls) (files ∙ pooled h);
  read = λ h. ap (λ (x : Files). x.calls) files ∙ read h;
}

module _ (s : SnapNo) (p : PageId) (old mid read new : Shown) (before : mid.sets ≡ old.sets) (behind : new.sets ≡ read.sets) (fetched : IsOneFetch p old new) where
  abbrev set_in : List Sparse → Sparse
  set_in sets = slice_index_or sets s.0 no_set

  called_on : IsOneCall s p mid read → IsOneCall s p old new
  called_on once = ap (λ (x : List Sparse). (set_in x).files.calls) behind ∙ once ∙ ap (λ (x : List Sparse). called (set_in x).files.calls p.file) before

  damage_on : (at : ℕ) → IsSparseDamage s p mid read at → IsSparseDamage s p old new at
  damage_on at d = record {
    once = called_on d.once;
    bytes = d.bytes;
    are = λ told. d.are (subst (λ (x : List Sparse). IsTrue (set_in x).files.tells) (sym before) told) ∙ ap (λ (x : List Sparse). sparse_page (set_in x) p) before;
    fault = d.fault;
  }

  rose_on : Rose (faults (set_in mid.sets)) (faults (set_in read.sets)) → Rose (faults (set_in old.sets)) (faults (set_in new.sets))
  rose_on rose = subst (λ (x : List Sparse). Rose (faults (set_in x)) (faults (set_in new.sets))) before (subst (λ (x : List Sparse). Rose (faults (set_in mid.sets)) (faults (set_in x))) (sym behind) rose)

  refused_on : (e : RevertRefusal) → CopyRefused s p mid read e → GatherRefused s p old new e
  refused_on (Fetch e) r = inr (record { at = r.0; is = r.1; fetched = fetched; damage = damage_on r.0 r.2 })
  refused_on SparseFailed r = record { rose = rose_on r.0; once = called_on r.1; fetched = fetched }
  refused_on Memory r = absurd r

  pub unread_on : {T : Type 0} (result : Result T RevertRefusal) → IfErr result (CopyRefused s p mid read) → IfErr result (GatherRefused s p old new)
  unread_on (Ok x) r = tt
  unread_on (Err e) r = refused_on e r

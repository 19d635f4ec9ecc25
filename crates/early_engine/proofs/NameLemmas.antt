-- Names on a volume, in lists and under snapshots, and what calls on the volume make of them.
use Rattle.std.proofs.Common.{◌≡◌, ◌<◌, ◌≤◌, inl, inr, ℕ, suc, zero, Bool, true, false, ◌&&◌, ◌||◌, not, cond, IsTrue, List, [], ◌∷◌, ◌++◌, length, get_or, refl, ap, sym, ◌∙◌, subst, arith, append_assoc}
use Rattle.std.specs.Prelude.{Option, Some, None, is_some, is_ok, OnOk, OnErr, IfOk, IfErr, Result, Ok, Err, ◌==◌}
use Rattle.std.specs.Result.{IsErrAnd}
use Rattle.std.proofs.lemmas.Result.{err_from_is_err_and}
use Rattle.std.specs.List.{list_any, flat_map}
use Rattle.std.specs.Str.{bytes_eq}
use Rattle.std.specs.FinMap as finite
use Rattle.std.specs.FinSet as finset
use Rattle.std.specs.Ordering.{nat_cmp, eq_by_cmp, is_eq}
use Rattle.std.specs.Cmp.{Equal-is, tied_itself}
use Rattle.std.specs.Cmp.Lexicographic.{slice_cmp, nat_list_cmp_total}
use Rattle.std.proofs.lemmas.Bool.{cases_Bool}
use Rattle.std.proofs.lemmas.Slice.Eq.{bytes_eq-Decides}
use Rattle.page_dev.specs.Faults.{Rose}
use Rattle.page_dev.specs.Volume.{Names, Folder, Kept, Out, is_out, Removes}
use Rattle.plain_model.specs.declared.stmt.SnapFile.{SnapFile}
use Rattle.plain_model.specs.Next.{is_each_once, logical_names, sparse_names}
use Rattle.plain_model.specs.declared.event.Event.TheVariants.{CutAt, Said}
use Rattle.plain_model.specs.declared.reply.Reply.{Reply}
use Rattle.plain_model.specs.declared.reply.Reply.TheVariants.{Msg}
use Rattle.plain_model.specs.declared.reply.Reply.TheVariants as reply
use Rattle.plain_model.specs.declared.reply.TheConstants.Message.{FILE_FAILED, NO_ROOM}
use Rattle.plain_model.specs.Messages.{plain}
use Rattle.page_base.specs.declared.numbers.SessNo.{SessNo}
use Rattle.page_dev.proofs.OutLemmas.{put_back}
use Rattle.early_pages.specs.Catalog.{Snap, no_snap}
use Rattle.early_pages.specs.Shown.{Shown}
use Rattle.std.proofs.lemmas.List.Folds.{list_any-append}
use Rattle.early_engine.specs.Causes.{is_early}
use Rattle.early_engine.specs.Entering as kept
use Rattle.early_engine.specs.Safe.{Disk}
use Rattle.early_engine.specs.Creating.{Reason, VolumeFailed, HasFile, HasNoPlace, HasNoMemory, Refuses, GivesBack, Makes, cut_events}
use Rattle.early_engine.proofs.PushLemmas.{bytes_same}

-- two names are tied exactly where they are the same bytes
pub tie : (a b : List ℕ) → eq_by_cmp (slice_cmp nat_cmp) a b ≡ bytes_eq a b
tie a b = elim (cases_Bool (bytes_eq a b)) [
  | inl t ↦ ap (λ n. eq_by_cmp (slice_cmp nat_cmp) a n) (sym ((bytes_eq-Decides a b).0 t)) ∙ ap is_eq (tied_itself nat_list_cmp_total a) ∙ sym t
  | inr f ↦ elim (cases_Bool (eq_by_cmp (slice_cmp nat_cmp) a b)) [
    | inl u ↦ let same : a ≡ b = finite.slice_cmp-IsAntisymmetric finite.nat_cmp-IsAntisymmetric a b ((Equal-is (slice_cmp nat_cmp a b)).0 u) in absurd (let x : false ≡ true = sym f ∙ (bytes_eq-Decides a b).1 same in cc)
    | inr u ↦ u ∙ sym f
  ]
]

pub key-insert : (m : Folder) (k : List ℕ) (x : Kept) (q : List ℕ) → finite.contains_key (finite.insert m k x) q ≡ (bytes_eq q k || finite.contains_key m q)
key-insert m k x q =
    ap is_some (finite.get-insert nat_list_cmp_total m k x q) ∙ ap (λ b. is_some (cond b (Some x) (finite.get m q))) (tie q k)
    ∙ elim (bytes_eq q k) as (λ b. is_some (cond b (Some x) (finite.get m q)) ≡ (b || is_some (finite.get m q))) [ true ↦ refl | false ↦ refl ]

pub key-remove : (m : Folder) (k q : List ℕ) → finite.contains_key (finite.remove m k) q ≡ (not (bytes_eq q k) && finite.contains_key m q)
key-remove m k q =
    ap is_some (finite.get-remove nat_list_cmp_total m k q) ∙ ap (λ b. is_some (cond b None (finite.get m q))) (tie q k)
    ∙ elim (bytes_eq q k) as (λ b. is_some (cond b None (finite.get m q)) ≡ (not b && is_some (finite.get m q))) [ true ↦ refl | false ↦ refl ]

pub in-insert : (s : Names) (k q : List ℕ) → finset.contains (finset.insert s k) q ≡ (bytes_eq q k || finset.contains s q)
in-insert s k q = finset.contains-insert nat_list_cmp_total s k q ∙ ap (λ b. b || finset.contains s q) (tie q k)

pub in-remove : (s : Names) (k q : List ℕ) → finset.contains (finset.remove s k) q ≡ (not (bytes_eq q k) && finset.contains s q)
in-remove s k q = finset.contains-remove nat_list_cmp_total s k q ∙ ap (λ b. not b && finset.contains s q) (tie q k)

-- what was removed isn't there
pub removed_key : (m : Folder) (k : List ℕ) → finite.contains_key (finite.remove m k) k ≡ false
removed_key m k = key-remove m k k ∙ ap (λ b. not b && finite.contains_key m k) (bytes_same k)

pub removed_out : (s : Names) (k : List ℕ) → finset.contains (finset.remove s k) k ≡ false
removed_out s k = in-remove s k k ∙ ap (λ b. not b && finset.contains s k) (bytes_same k)

-- other names' places stay
pub key-insert_other : (m : Folder) (k : List ℕ) (x : Kept) (q : List ℕ) → bytes_eq q k ≡ false → finite.contains_key (finite.insert m k x) q ≡ finite.contains_key m q
key-insert_other m k x q f = key-insert m k x q ∙ ap (λ b. b || finite.contains_key m q) f

pub key-remove_other : (m : Folder) (k q : List ℕ) → bytes_eq q k ≡ false → finite.contains_key (finite.remove m k) q ≡ finite.contains_key m q
key-remove_other m k q f = key-remove m k q ∙ ap (λ b. not b && finite.contains_key m q) f

pub opened_other : (old new : Folder) (k q : List ℕ) → finite.remove new k ≡ finite.remove old k → bytes_eq q k ≡ false → finite.contains_key new q ≡ finite.contains_key old q
opened_other old new k q same f = sym (key-remove_other new k q f) ∙ ap (λ m. finite.contains_key m q) same ∙ key-remove_other old k q f

-- a name that is out has a place
pub out_has_key : (o : Option Kept) → is_out o ≡ true → is_some o ≡ true
out_has_key None h = absurd (let x : false ≡ true = h in cc)
out_has_key (Some k) h = refl

-- CALLS THAT MAY FAIL

pub rose_of : {T E : Type 0} (r : Result T E) (P : Type 0) → is_ok r ≡ false → OnErr r P → P
rose_of (Ok x) P f p = absurd (let y : true ≡ false = f in cc)
rose_of (Err x) P f p = p

pub rose_later : (a b c : ℕ) → Rose a b → b ≤ c → Rose a c
rose_later a b c r le = omega (arith, r, le)

pub later_rose : (a b c : ℕ) → a ≤ b → Rose b c → Rose a c
later_rose a b c le r = omega (arith, r, le)

-- a removal that didn't fail
pub removed_well : {T E : Type 0} (r : Result T E) (name : List ℕ) (old new : Folder) → is_ok r ≡ true → Removes name old new r → new ≡ finite.remove old name
removed_well (Ok x) name old new t h = h
removed_well (Err x) name old new t h = absurd (let y : false ≡ true = t in cc)

-- a removal leaves all other names' places
pub removed_others : {T E : Type 0} (r : Result T E) (name : List ℕ) (old new : Folder) → Removes name old new r → (q : List ℕ) → bytes_eq q name ≡ false → finite.contains_key new q ≡ finite.contains_key old q
removed_others (Ok x) name old new h q f = ap (λ m. finite.contains_key m q) h ∙ key-remove_other old name q f
removed_others (Err x) name old new h q f = elim h [
  | inl same ↦ ap (λ m. finite.contains_key m q) same
  | inr gone ↦ ap (λ m. finite.contains_key m q) gone ∙ key-remove_other old name q f
]

-- LISTS OF ONE

-- one file
pub one_path : (files : List SnapFile) (f : SnapFile) → length files ≡ 1 → get_or files 0 f ≡ f → sparse_names files ≡ f.path ∷ []
one_path [] f l g = absurd (omega (arith, l))
one_path (x ∷ []) f l g = ap (λ (y : SnapFile). y.path ∷ []) g
one_path (x ∷ y ∷ ys) f l g = absurd (omega (arith, l))

pub once_is : (files : List SnapFile) (f : SnapFile) (file : List ℕ) → length files ≡ 1 → get_or files 0 f ≡ f → is_each_once (logical_names files) (file ∷ []) ≡ bytes_eq file f.logical
once_is [] f file l g = absurd (omega (arith, l))
once_is (x ∷ []) f file l g = ap (λ (y : SnapFile). ((bytes_eq file y.logical || false) && true)) g ∙ plainly (bytes_eq file f.logical)
  where
    plainly : (b : Bool) → ((b || false) && true) ≡ b
    plainly true = refl
    plainly false = refl
once_is (x ∷ y ∷ ys) f file l g = absurd (omega (arith, l))

-- A FILE THAT IS MADE, OR NOT

any_first : (p : List ℕ → Bool) (fs gs : List (List ℕ)) → list_any p fs ≡ true → list_any p (fs ++ gs) ≡ true
any_first p fs gs t = list_any-append p fs gs ∙ ap (λ b. b || list_any p gs) t

any_last : (p : List ℕ → Bool) (fs gs : List (List ℕ)) → list_any p gs ≡ true → list_any p (fs ++ gs) ≡ true
any_last p fs gs t = list_any-append p fs gs ∙ ap (λ b. list_any p fs || b) t ∙ or_true (list_any p fs)
  where
    or_true : (b : Bool) → (b || true) ≡ true
    or_true true = refl
    or_true false = refl

-- one of the snapshots has the name
pub any_at : (p : List ℕ → Bool) (xs : List Snap) (i : ℕ) → i < length xs → list_any p (get_or xs i no_snap).files ≡ true → list_any p (flat_map (λ s. s.files) xs) ≡ true
any_at p [] i lt t = absurd (omega (arith, lt))
any_at p (x ∷ xs) zero lt t = any_first p x.files (flat_map (λ s. s.files) xs) t
any_at p (x ∷ xs) (suc i) lt t = any_last p x.files (flat_map (λ s. s.files) xs) (any_at p xs i (omega (arith, lt)) t)

-- a file that was made, put back and removed
pub refused_back : (path : List ℕ) (old mid new : Disk) (reply : Reply) → mid.told ≡ old.told → (IsTrue old.told → finite.contains_key old.folder path ≡ false) → (IsTrue old.told → mid.folder ≡ finite.insert old.folder path Out) →
    mid.out ≡ finset.insert old.out path → finset.contains old.out path ≡ false → old.failures ≤ mid.failures → old.file_failures ≤ mid.file_failures → GivesBack path mid new reply → Refuses (path ∷ []) old new reply
refused_back path old mid new reply told fresh made out unused later file_later back =
    let told_mid : IsTrue old.told → IsTrue mid.told = λ t. told ∙ t in
    record {
      code = back.code;
      is = back.is;
      told = back.told ∙ told;
      places = λ t name. elim (cases_Bool (bytes_eq name path)) [
        | inl same ↦
            let is : name ≡ path = (bytes_eq-Decides name path).0 same in
            elim back.either [
              | inl seven ↦ inr (ap (finite.contains_key new.folder) is ∙ back.freed (told_mid t) seven ∙ sym (fresh t) ∙ ap (finite.contains_key old.folder) (sym is))
              | inr f ↦ inl (ap (λ n. n == FILE_FAILED) f.0, ap (λ b. b || false) same)
            ]
        | inr other ↦ inr (back.places (told_mid t) name other ∙ ap (λ m. finite.contains_key m name) (made t) ∙ key-insert_other old.folder path Out name other)
      ];
      out = back.out ∙ ap (λ o. finset.remove o path) out ∙ put_back old.out path unused;
      cause = λ y. elim back.either [
        | inl seven ↦ absurd (let z : false ≡ true = sym (ap (λ n. n == FILE_FAILED) seven) ∙ y in cc)
        | inr f ↦ later_rose old.failures mid.failures new.failures later f.1
      ];
      roomy = elim back.either [ inl seven ↦ ap (λ n. n == NO_ROOM) seven | inr f ↦ ap (λ n. n == NO_ROOM) f.0 ];
      early = elim back.either [ inl seven ↦ ap is_early seven | inr f ↦ ap is_early f.0 ];
      failures = let a = back.failures in omega (arith, a, later);
      file_failures = let a = back.file_failures in omega (arith, a, file_later);
    }

-- a file that couldn't be made, and whose name was removed
pub refused_failed : (path : List ℕ) (old mid new : Disk) (reply : Reply) → reply ≡ Msg (plain FILE_FAILED) → mid.told ≡ old.told → new.told ≡ mid.told →
    (IsTrue old.told → finite.remove mid.folder path ≡ finite.remove old.folder path) → (IsTrue mid.told → (q : List ℕ) → bytes_eq q path ≡ false → finite.contains_key new.folder q ≡ finite.contains_key mid.folder q) →
    mid.out ≡ old.out → new.out ≡ mid.out → Rose old.failures mid.failures → old.failures ≤ mid.failures → mid.failures ≤ new.failures → old.file_failures ≤ mid.file_failures → mid.file_failures ≤ new.file_failures → Refuses (path ∷ []) old new reply
refused_failed path old mid new reply is told told' opens others out out' rose later later' file_later file_later' = record {
  code = FILE_FAILED;
  is = is;
  told = told' ∙ told;
  places = λ t name. elim (cases_Bool (bytes_eq name path)) [
    | inl same ↦ inl (refl, ap (λ b. b || false) same)
    | inr other ↦ inr (others (told ∙ t) name other ∙ opened_other old.folder mid.folder path name (opens t) other)
  ];
  out = out' ∙ out;
  cause = λ y. rose_later old.failures mid.failures new.failures rose later';
  roomy = refl;
  early = refl;
  failures = omega (arith, later, later');
  file_failures = omega (arith, file_later, file_later');
}

-- no name comes in doubt, whatever the statement's names are
pub refuses_none : (names : List (List ℕ)) (old new : Disk) (reply : Reply) → Refuses [] old new reply → Refuses names old new reply
refuses_none names old new reply r = record {
  code = r.code;
  is = r.is;
  told = r.told;
  places = λ t name. elim (r.places t name) [ inl p ↦ absurd (let x : false ≡ true = p.1 in cc) | inr same ↦ inr same ];
  out = r.out;
  cause = r.cause;
  roomy = r.roomy;
  early = r.early;
  failures = r.failures;
  file_failures = r.file_failures;
}

-- a look at the volume came before
module _ (old mid : Disk) (told : mid.told ≡ old.told) (folder : IsTrue old.told → mid.folder ≡ old.folder) (out : mid.out ≡ old.out) (later : old.failures ≤ mid.failures) (file_later : old.file_failures ≤ mid.file_failures) where
  pub refuses_before : (names : List (List ℕ)) (new : Disk) (reply : Reply) → Refuses names mid new reply → Refuses names old new reply
  refuses_before names new reply r = record {
    code = r.code;
    is = r.is;
    told = r.told ∙ told;
    places = λ t name. elim (r.places (told ∙ t) name) [ inl p ↦ inl p | inr same ↦ inr (same ∙ ap (λ m. finite.contains_key m name) (folder t)) ];
    out = r.out ∙ out;
    cause = λ y. later_rose old.failures mid.failures new.failures later (r.cause y);
    roomy = r.roomy;
    early = r.early;
    failures = let a = r.failures in omega (arith, a, later);
    file_failures = let a = r.file_failures in omega (arith, a, file_later);
  }

  pub reason_before : (new : Disk) (v : Shown) (path : List ℕ) (reply : Reply) → Reason mid new v path reply → Reason old new v path reply
  reason_before new v path reply (VolumeFailed is rose) = VolumeFailed is (later_rose old.failures mid.failures new.failures later rose)
  reason_before new v path reply (HasFile is there) = HasFile is (λ t. ap (λ m. finite.contains_key m path) (sym (folder t)) ∙ there (told ∙ t))
  reason_before new v path reply (HasNoPlace is lacks full) = HasNoPlace is (λ t. ap (λ m. finite.contains_key m path) (sym (folder t)) ∙ lacks (told ∙ t)) full
  reason_before new v path reply (HasNoMemory is) = HasNoMemory is

  pub makes_before : (path : List ℕ) (new : Disk) → Makes path mid new → Makes path old new
  makes_before path new m = record {
    told = m.told ∙ told;
    fresh = λ t. ap (λ f. finite.contains_key f path) (sym (folder t)) ∙ m.fresh (told ∙ t);
    places = λ t name. m.places (told ∙ t) name ∙ ap (λ f. bytes_eq name path || finite.contains_key f name) (folder t);
    out = λ name. m.out name ∙ ap (λ o. bytes_eq name path || finset.contains o name) out;
    failures = let a = m.failures in omega (arith, a, later);
    file_failures = let a = m.file_failures in omega (arith, a, file_later);
  }

-- RESULTS

pub on_ok : {T E : Type 0} (r : Result T E) (A : Type 0) → A → OnOk r A
on_ok (Ok x) A a = a
on_ok (Err x) A a = tt

pub if_err : {T E : Type 0} (r : Result T E) (P Q : E → Type 0) → IfErr r P → ((x : E) → P x → Q x) → IfErr r Q
if_err (Ok x) P Q h f = tt
if_err (Err x) P Q h f = f x h

pub err_as : {T E : Type 0} (r : Result T E) (Q P : E → Type 0) → IsErrAnd r Q → ((y : E) → Q y → P y) → IfErr r P
err_as {T} {E} r Q P h f = let p = err_from_is_err_and {T = T} {E = E} {Q = Q} r h in subst (λ (x : Result T E). IfErr x P) (sym p.1) (f p.0 p.2)

pub all_ok : {T E : Type 0} (r : Result T E) (A : Type 0) (P Q S : T → Type 0) → OnOk r A → IfOk r P → IfOk r Q → ((x : T) → A → P x → Q x → S x) → IfOk r S
all_ok (Ok x) A P Q S a p q f = f x a p q
all_ok (Err x) A P Q S a p q f = tt

-- TWO EVENTS

pub two_events : (a b d : kept.Kept) (who : SessNo) (n began : ℕ) (snap : List ℕ) → b ≡ kept.entered a (CutAt who snap) → d ≡ kept.entered b (Said who n began reply.Ok) → began ≡ length a.events → d.events ≡ a.events ++ cut_events who.0 n (length a.events) snap
two_events a b d who n began snap first then at =
    ap (λ (k : kept.Kept). k.events) then ∙ ap (λ (k : kept.Kept). k.events ++ Said who n began reply.Ok ∷ []) first
    ∙ append_assoc a.events (CutAt who snap ∷ []) (Said who n began reply.Ok ∷ [])
    ∙ ap (λ m. a.events ++ CutAt who snap ∷ Said who n m reply.Ok ∷ []) at

-- What a commit makes of the tables that another session sees: theirs where they were written, and its own.
use Rattle.std.proofs.Common.{◌≡◌, ℕ, suc, ◌+◌, ◌-◌, ◌<◌, Bool, true, false, cond, ◌==◌, ◌&&◌, List, [], ◌∷◌, get_or, refl, ap, sym, subst, ◌∙◌, inl, inr, arith}
use Rattle.std.specs.Prelude.{not, Option, Some, None, option_map}
use Rattle.std.specs.Option.{option_map_or}
use Rattle.std.specs.FinMap as finite
use Rattle.std.specs.List.{AllByRecursion, Any}
use Rattle.std.specs.Str.{bytes_eq}
use Rattle.std.proofs.lemmas.Bool.{cases_Bool, cases_eq, ne_eqb}
use Rattle.std.proofs.lemmas.List.{get_or_default}
use Rattle.page_base.specs.declared.numbers.Mode.{Mode}
use Rattle.page_base.specs.declared.numbers.Mode.TheVariants.{S, X}
use Rattle.plain_model.specs.declared.event.LockName.{LockName}
use Rattle.plain_model.specs.declared.event.LockName.TheVariants.{All, Table}
use Rattle.plain_model.specs.Tables.{Change, Tables, Table as PlainTable, apply}
use Rattle.plain_steps.specs.Changes.{named_by, IsOfRow, AreOf}
use Rattle.plain_steps.specs.Modes.{mode_in}
use Rattle.plain_steps.specs.Orderly.{IsHeldChange}
use Rattle.plain_steps.proofs.ApplyLemmas.{get_apply, cols_stay, rows_stay}
use Rattle.plain_steps.proofs.LockLemmas.{same_bytes}
use Rattle.sys_cat.specs.declared.desc.TableDesc.{TableDesc}
use Rattle.sys_cat.specs.Lists.{AreDescs, IsDesc}
use Rattle.page_tables.proofs.CarriedLemmas.{apart_at, names_apart, each_desc}
use Rattle.open_commits.specs.Joins.{Joins}
use Rattle.step_state.specs.Holding.{is_x, writes, desc_named, lock_named}

pub differ : {P : Type 0} (b : Bool) → b ≡ true → b ≡ false → P
differ b t f = absurd (let wrong : true ≡ false = sym t ∙ f in cc)

pub exclusive : (o : Option Mode) → is_x o ≡ true → o ≡ Some X
exclusive None e = cc
exclusive (Some S) e = cc
exclusive (Some X) e = refl

-- DESCRIPTIONS BY NAME

-- a description that is found is one of these, and has the name
pub found_in : (ds : List TableDesc) (name : List ℕ) (d : TableDesc) → desc_named ds name ≡ Some d → Any (λ e. e ≡ d) ds × (d.name ≡ name)
found_in [] name d e = cc
found_in (x ∷ ds) name d e = by (bytes_eq x.name name) refl e (found_in ds name d)
  where
    some_same : (a b : TableDesc) → Some a ≡ Some b → a ≡ b
    some_same a b e = ap pick e
      where
        pick : Option TableDesc → TableDesc
        pick None = a
        pick (Some c) = c

    by : (b : Bool) → bytes_eq x.name name ≡ b → cond b (Some x) (desc_named ds name) ≡ Some d → (desc_named ds name ≡ Some d → Any (λ e. e ≡ d) ds × (d.name ≡ name)) → Any (λ e. e ≡ d) (x ∷ ds) × (d.name ≡ name)
    by true t e later = let is : x ≡ d = some_same x d e in ((0, x, omega arith, refl, is), ap (λ (c : TableDesc). c.name) (sym is) ∙ same_bytes x.name name t)
    by false t e later = let r = later e in ((suc r.0.0, r.0.1, omega (arith, r.0.2), r.0.3, r.0.4), r.1)

-- two of one name are one
pub one_named : (ds : List TableDesc) → AreDescs ds → (a b : TableDesc) → Any (λ e. e ≡ a) ds → Any (λ e. e ≡ b) ds → a.name ≡ b.name → a ≡ b
one_named ds descs a b ia ib same = elim (cases_eq ia.0 ib.0) [
  | inl e ↦ sym (place ds a ia) ∙ ap (λ i. get_or ds i a) e ∙ get_or_default ds ib.0 a b ib.2 ∙ place ds b ib
  | inr ne ↦ absurd (apart_at (λ (x : TableDesc). x.name) ds (names_apart ds descs) ia.0 ib.0 a ne ia.2 ib.2 (ap (λ (x : TableDesc). x.name) (place ds a ia) ∙ same ∙ sym (ap (λ (x : TableDesc). x.name) (get_or_default ds ib.0 a b ib.2 ∙ place ds b ib))))
]
  where
    place : (ds : List TableDesc) (d : TableDesc) (i : Any (λ e. e ≡ d) ds) → get_or ds i.0 d ≡ d
    place ds d i = get_or_default ds i.0 d i.1 i.2 ∙ i.3 ∙ i.4

-- the table of a lock that is held by name
pub record IsHeldTable (ds : List TableDesc) (held : ℕ → Option Mode) (name : List ℕ) (mode : Mode) : Type 0 where
  pub desc : TableDesc
  pub one : Any (λ e. e ≡ desc) ds
  pub named : desc.name ≡ name
  pub holds : held desc.number.0 ≡ Some mode

pub named_lock : (ds : List TableDesc) (held : ℕ → Option Mode) (name : List ℕ) (mode : Mode) → lock_named held ds (Table name) ≡ Some mode → IsHeldTable ds held name mode
named_lock ds held name mode e = by (desc_named ds name) refl e
  where
    by : (o : Option TableDesc) → desc_named ds name ≡ o → option_map_or (λ (d : TableDesc). held d.number.0) o None ≡ Some mode → IsHeldTable ds held name mode
    by None at e = cc
    by (Some d) at e = let f = found_in ds name d at in record { desc = d; one = f.0; named = f.1; holds = e }

-- where nothing is held no lock by name is
pub no_lock_named : (ds : List TableDesc) (held : ℕ → Option Mode) → ((n : ℕ) → held n ≡ None) → (name : LockName) → lock_named held ds name ≡ None
no_lock_named ds held none All = none 0
no_lock_named ds held none (Table name) = by (desc_named ds name)
  where
    by : (o : Option TableDesc) → option_map_or (λ (d : TableDesc). held d.number.0) o None ≡ None
    by None = refl
    by (Some d) = none d.number.0

-- so no change waits
pub no_work : (ds : List TableDesc) (held : ℕ → Option Mode) (locks : List (LockName × Mode)) → ((n : ℕ) → held n ≡ None) → ((name : LockName) → mode_in locks name ≡ lock_named held ds name) → (work : List Change) → AllByRecursion (IsHeldChange locks) work → work ≡ []
no_work ds held locks none agree [] covered = refl
no_work ds held locks none agree (c ∷ cs) covered = (let wrong : None ≡ Some X = sym (no_lock_named ds held none (Table (named_by c))) ∙ sym (agree (Table (named_by c))) ∙ covered.0.1 in cc)

-- WHO WRITES A TABLE

pub writes_is : (held : ℕ → Option Mode) (n : ℕ) → n + 1 < 4294967295 → writes held (n + 1) ≡ is_x (held n)
writes_is held n small =
    let some : (n + 1 == 0) ≡ false = ne_eqb (n + 1) 0 (λ e. absurd (omega (arith, e))) in
    let real : (n + 1 == 4294967295) ≡ false = ne_eqb (n + 1) 4294967295 (λ e. absurd (omega (arith, e, small))) in
    let back : n + 1 - 1 ≡ n = omega arith in
    (λ i. (not (some i) && not (real i)) && is_x (held (back i)))

module _ (ds : List TableDesc) (descs : AreDescs ds) where
  small : (d : TableDesc) → Any (λ e. e ≡ d) ds → d.number.0 + 1 < 4294967295
  small d i =
      let desc : IsDesc (get_or ds i.0 d) = each_desc ds descs.each i.0 d i.2 in
      let at : get_or ds i.0 d ≡ d = get_or_default ds i.0 d i.1 i.2 ∙ i.3 ∙ i.4 in
      let number = (subst IsDesc at desc).head.number in
      omega (arith, number)

  -- a session's waiting changes are of tables that it holds
  others_named : (held : ℕ → Option Mode) (locks : List (LockName × Mode)) → ((name : LockName) → mode_in locks name ≡ lock_named held ds name) → (d : TableDesc) → Any (λ e. e ≡ d) ds → is_x (held d.number.0) ≡ false → (work : List Change) → AllByRecursion (IsHeldChange locks) work → AllByRecursion (λ c. bytes_eq d.name (named_by c) ≡ false) work
  others_named held locks agree d one out [] covered = tt
  others_named held locks agree d one out (c ∷ cs) covered = (
    elim (cases_Bool (bytes_eq d.name (named_by c))) [
      | inr f ↦ f
      | inl t ↦
          let its = named_lock ds held (named_by c) X (sym (agree (Table (named_by c))) ∙ covered.0.1) in
          let same : its.desc ≡ d = one_named ds descs its.desc d its.one one (its.named ∙ sym (same_bytes d.name (named_by c) t)) in
          differ (is_x (held d.number.0)) (ap (λ (e : TableDesc). is_x (held e.number.0)) (sym same) ∙ ap is_x its.holds) out
    ],
    others_named held locks agree d one out cs covered.1,
  )

  rows_only : (locks : List (LockName × Mode)) (work : List Change) → AllByRecursion (IsHeldChange locks) work → AllByRecursion IsOfRow work
  rows_only locks [] covered = tt
  rows_only locks (c ∷ cs) covered = (covered.0.0, rows_only locks cs covered.1)

  -- changes of one table leave another
  pub of_other : (table : List ℕ) (cs : List Change) (name : List ℕ) → AreOf table cs → bytes_eq name table ≡ false → AllByRecursion (λ c. bytes_eq name (named_by c) ≡ false) cs
  of_other table [] name are f = tt
  of_other table (c ∷ cs) name are f = (ap (bytes_eq name) are.0 ∙ f, of_other table cs name are.1 f)

  -- a table of one's own stays where waiting changes of another session come
  pub stays : (held : ℕ → Option Mode) (locks : List (LockName × Mode)) → ((name : LockName) → mode_in locks name ≡ lock_named held ds name) → (d : TableDesc) → Any (λ e. e ≡ d) ds → is_x (held d.number.0) ≡ false → (work : List Change) → AllByRecursion (IsHeldChange locks) work → (tables : Tables) → finite.get (apply work tables) d.name ≡ finite.get tables d.name
  stays held locks agree d one out work covered tables = rows_stay work tables d.name (others_named held locks agree d one out work covered)

  is_there : (a : Option PlainTable) (t : PlainTable) → a ≡ Some t → (b : Option PlainTable) → option_map (λ (x : PlainTable). x.cols) a ≡ option_map (λ (x : PlainTable). x.cols) b → (u : PlainTable) × (b ≡ Some u)
  is_there a t at None same = (let wrong : Some t.cols ≡ None = sym (ap (λ o. option_map (λ (x : PlainTable). x.cols) o) at) ∙ same in cc)
  is_there a t at (Some u) same = (u, refl)

  module _ (mine theirs : ℕ → Option Mode) (locks : List (LockName × Mode)) (agree : (name : LockName) → mode_in locks name ≡ lock_named mine ds name) (beside : (n : ℕ) → is_x (theirs n) ≡ true → mine n ≡ None)
      (work : List Change) (covered : AllByRecursion (IsHeldChange locks) work) (old new : Tables) (kept : (d : TableDesc) → Any (λ e. e ≡ d) ds → is_x (theirs d.number.0) ≡ false → finite.get new d.name ≡ finite.get old d.name)
      (only : (name : List ℕ) (t : PlainTable) → finite.get new name ≡ Some t → Any (λ d. d.name ≡ name) ds) where
    -- what the session sees of the source that was, and of the source as it is committed now
    pub seen_joined : Joins ds (writes theirs) new (apply work old) (apply work new)
    seen_joined = record {
      from = λ d one t.
          let held : is_x (theirs d.number.0) ≡ true = sym (writes_is theirs d.number.0 (small d one)) ∙ t in
          stays mine locks agree d one (ap is_x (beside d.number.0 held)) work covered new;
      kept = λ d one f. get_apply work new old d.name (kept d one (sym (writes_is theirs d.number.0 (small d one)) ∙ f));
      only = λ name t got.
          let was = is_there (finite.get (apply work new) name) t got (finite.get new name) (cols_stay work new name (rows_only locks work covered)) in
          only name was.0 was.1;
    }

    -- and where changes of one more table, which others don't write, come behind
    pub plan_joined : (t : TableDesc) → Any (λ e. e ≡ t) ds → is_x (theirs t.number.0) ≡ false → (cs : List Change) → AreOf t.name cs → Joins ds (writes theirs) new (apply cs (apply work old)) (apply cs (apply work new))
    plan_joined t its out cs are = record {
      from = λ d one w. rows_stay cs (apply work new) d.name (of_other t.name cs d.name are (elim (cases_Bool (bytes_eq d.name t.name)) [
        | inr f ↦ f
        | inl same ↦ differ (is_x (theirs d.number.0)) (sym (writes_is theirs d.number.0 (small d one)) ∙ w) (ap (λ (e : TableDesc). is_x (theirs e.number.0)) (one_named ds descs d t one its (same_bytes d.name t.name same)) ∙ out)
      ])) ∙ seen_joined.from d one w;
      kept = λ d one f. get_apply cs (apply work new) (apply work old) d.name (seen_joined.kept d one f);
      only = λ name u got. elim (cases_Bool (bytes_eq name t.name)) [
        | inl same ↦ (its.0, t, its.2, place its, sym (same_bytes name t.name same))
        | inr f ↦ seen_joined.only name u (sym (rows_stay cs (apply work new) name (of_other t.name cs name are f)) ∙ got)
      ];
    }
      where
        place : (i : Any (λ e. e ≡ t) ds) → get_or ds i.0 t ≡ t
        place i = get_or_default ds i.0 t i.1 i.2 ∙ i.3 ∙ i.4

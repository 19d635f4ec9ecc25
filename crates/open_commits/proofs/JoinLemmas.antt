-- What a commit leaves of the tables that another session sees: two sessions' records over pages on which no others are open.
use Rattle.std.proofs.Common.{◌≡◌, ◌≢◌, ℕ, zero, suc, ◌+◌, ◌%◌, ◌<◌, ◌≤◌, Bool, true, false, cond, ◌==◌, List, [], ◌∷◌, length, get_or, refl, ap, sym, subst, ◌∙◌, inl, inr, arith}
use Rattle.std.specs.Prelude.{◌⊎◌, ◌-◌, Some, nat_lt, slice_index_or}
use Rattle.std.specs.FinMap as finite
use Rattle.std.specs.List.{Any}
use Rattle.std.proofs.lemmas.Bool.{cases_Bool, cases_lt, ltb-false}
use Rattle.std.proofs.lemmas.List.{get_or_default, get_or_past}
use Rattle.page_base.specs.declared.limits.TheConstants.{MAX_SLOTS}
use Rattle.page_base.specs.declared.numbers.PageId.{PageId}
use Rattle.page_base.specs.Slots.{Slots}
use Rattle.page_fmt.specs.Edits.{slot_at}
use Rattle.page_fmt.specs.Spelling.{LastIsFull}
use Rattle.alloc_pages.specs.Owners.{owner_in, owner_at, page_owner}
use Rattle.alloc_pages.specs.Spots.{spot_of}
use Rattle.plain_model.specs.Tables.{Rows, Tables}
use Rattle.rec_log.specs.Records.{Record}
use Rattle.rec_log.specs.Undone.{undone}
use Rattle.sys_cat.specs.declared.desc.TableDesc.{TableDesc}
use Rattle.sys_cat.specs.Lists.{IsDesc}
use Rattle.sys_cat.specs.Rows.{table_0, zero_root}
use Rattle.page_tables.specs.Bases.{AreRowsOf, HasTable, IsBase}
use Rattle.page_tables.specs.Mine.{AreSpread}
use Rattle.page_tables.specs.Owners.{is_there, owner, span, IsAllocPage, IsSpread, IsOwner}
use Rattle.page_tables.specs.Sheets.{sheets}
use Rattle.page_tables.proofs.CarriedLemmas.{each_desc}
use Rattle.page_tables.proofs.SheetLemmas.{sheet_same, sheets_are_full, slot_of_sheet, past_sheet}
use Rattle.page_tables.proofs.WriteLemmas.{owner_in_sheets}
use Rattle.open_tables.specs.Names.{names}
use Rattle.open_commits.specs.Joins.{Joins}
use Rattle.open_commits.specs.Within.{LieWithin, AreApart, TellOwners}
use Rattle.open_commits.proofs.WithinLemmas.{differ, unnamed, spread_tells, tells_over, owner_stays, slot_stays, table_back, table_on}
use Rattle.open_commits.proofs.StandLemmas.{names_part, stand_without}

-- slots of which all from one on are empty
few_slots_by : (xs : List (List ℕ)) (n : ℕ) → LastIsFull xs → ((i : ℕ) → n ≤ i → slot_at xs i ≡ []) → length xs ≤ n
few_slots_by [] n full h = omega arith
few_slots_by (x ∷ []) zero full h = absurd (full (h 0 (omega arith)))
few_slots_by (x ∷ []) (suc n) full h = omega arith
few_slots_by (x ∷ y ∷ ys) zero full h = absurd (let l = few_slots_by (y ∷ ys) 0 full (λ i le. h (suc i) (omega arith)) in omega (arith, l))
few_slots_by (x ∷ y ∷ ys) (suc n) full h = let l = few_slots_by (y ∷ ys) n full (λ i le. h (suc i) (omega (arith, le))) in omega (arith, l)

-- THE PAGES THAT TELL OF OTHERS

module _ (counts : List ℕ) (x : Slots) (mine theirs : ℕ → Bool) (own part others : List Record) (is_apart : AreApart mine theirs) (lie_own : LieWithin mine x own) (lie_part : LieWithin mine x part) (lie_others : LieWithin theirs x others)
    (spread_a : AreSpread counts (sheets (undone own x))) (spread_b : AreSpread counts (sheets (undone others (undone part x)))) where
  abbrev y : Slots
  y = undone part x

  abbrev at_y : PageId → List (List ℕ)
  at_y = sheets (undone part x)

  pub lie_y : LieWithin theirs (undone part x) others
  lie_y = stand_without mine theirs x is_apart part others lie_part lie_others

  -- a slot is as in the one or in the other
  pub as_a : (p : PageId) (i : ℕ) → names others p i ≡ true → undone part x p i ≡ undone own x p i
  as_a p i t =
      unnamed part x p i (names_part mine theirs x is_apart part others lie_part lie_others p i t)
      ∙ sym (unnamed own x p i (names_part mine theirs x is_apart own others lie_own lie_others p i t))

  pub as_b : (p : PageId) (i : ℕ) → names others p i ≡ false → undone part x p i ≡ undone others (undone part x) p i
  as_b p i f = sym (unnamed others (undone part x) p i f)

  slot_cases : (p : PageId) (i : ℕ) → i < MAX_SLOTS → (slot_at (at_y p) i ≡ slot_at (sheets (undone own x) p) i) ⊎ (slot_at (at_y p) i ≡ slot_at (sheets (undone others (undone part x)) p) i)
  slot_cases p i lt = elim (cases_Bool (names others p i)) [
    | inl t ↦ inl (slot_of_sheet (undone part x) p i lt ∙ as_a p i t ∙ sym (slot_of_sheet (undone own x) p i lt))
    | inr f ↦ inr (slot_of_sheet (undone part x) p i lt ∙ as_b p i f ∙ sym (slot_of_sheet (undone others (undone part x)) p i lt))
  ]

  span_few : (p : PageId) → span counts p ≤ 1280
  span_few p = by (nat_lt 1280 (slice_index_or counts p.file 0 - p.page)) refl
    where
      by : (t : Bool) → nat_lt 1280 (slice_index_or counts p.file 0 - p.page) ≡ t → cond t 1280 (slice_index_or counts p.file 0 - p.page) ≤ 1280
      by true e = omega arith
      by false e = ltb-false 1280 (slice_index_or counts p.file 0 - p.page) e

  empty_past : (p : PageId) → IsSpread counts (sheets (undone own x)) p → IsSpread counts (sheets (undone others (undone part x))) p → (i : ℕ) → span counts p ≤ i → slot_at (at_y p) i ≡ []
  empty_past p sa sb i le = elim (cases_lt i MAX_SLOTS) [
    | inr ge ↦ past_sheet (undone part x) p i ge
    | inl lt ↦ elim (slot_cases p i lt) [
      | inl e ↦ e ∙ get_or_past (sheets (undone own x) p) i [] (omega (arith, sa.long, le))
      | inr e ↦ e ∙ get_or_past (sheets (undone others (undone part x)) p) i [] (omega (arith, sb.long, le))
    ]
  ]

  pub spread_y : AreSpread counts (sheets (undone part x))
  spread_y p alloc =
      let sa = spread_a p alloc in
      let sb = spread_b p alloc in
      let few = span_few p in
      record {
        long = few_slots_by (sheets (undone part x) p) (span counts p) (sheets_are_full (undone part x) p) (empty_past p sa sb);
        four = λ j lt. elim (slot_cases p j (omega (arith, few, lt))) [
          | inl e ↦ ap length e ∙ sa.four j lt
          | inr e ↦ ap length e ∙ sb.four j lt
        ];
        own = elim (slot_cases p 0 (omega arith)) [
          | inl e ↦ ap owner_in e ∙ sa.own
          | inr e ↦ ap owner_in e ∙ sb.own
        ];
        only = λ j some lt. elim (slot_cases p j (omega (arith, few, lt))) [
          | inl e ↦ λ f. sa.only j some lt (sym (ap owner_in e) ∙ f)
          | inr e ↦ λ f. sb.only j some lt (sym (ap owner_in e) ∙ f)
        ];
      }

-- TABLES

module _ (counts : List ℕ) (ds : List TableDesc) (x : Slots) (mine theirs : ℕ → Bool) (own part others : List Record) (a b c : Tables)
    (is_apart : AreApart mine theirs) (lie_own : LieWithin mine x own) (lie_part : LieWithin mine x part) (lie_others : LieWithin theirs x others)
    (at_a : IsBase counts (sheets (undone own x)) ds a) (at_b : IsBase counts (sheets (undone others (undone part x))) ds b) (join : Joins ds theirs a b c) where
  lie_b : LieWithin theirs (undone part x) others
  lie_b = stand_without mine theirs x is_apart part others lie_part lie_others

  tell_x : TellOwners counts x
  tell_x = tells_over counts x own lie_own.claims (spread_tells counts (undone own x) at_a.spread)

  tell_y : TellOwners counts (undone part x)
  tell_y = tells_over counts (undone part x) others lie_others.claims (spread_tells counts (undone others (undone part x)) at_b.spread)

  -- OWNERS

  owners_y : (p : PageId) → is_there counts p ≡ true → IsOwner ds (owner (sheets (undone part x)) p)
  owners_y p there = elim (cases_Bool (names others (spot_of p).page (spot_of p).slot)) [
    | inl t ↦ subst (IsOwner ds) (owner_in_sheets (undone own x) p ∙ sym (ap owner_in (as_a counts x mine theirs own part others is_apart lie_own lie_part lie_others at_a.spread at_b.spread (spot_of p).page (spot_of p).slot t)) ∙ sym (owner_in_sheets (undone part x) p)) (at_a.owners p there)
    | inr f ↦ subst (IsOwner ds) (owner_in_sheets (undone others (undone part x)) p ∙ sym (ap owner_in (as_b counts x mine theirs own part others is_apart lie_own lie_part lie_others at_a.spread at_b.spread (spot_of p).page (spot_of p).slot f)) ∙ sym (owner_in_sheets (undone part x) p)) (at_b.owners p there)
  ]

  blank_y : (p : PageId) → is_there counts p ≡ true → owner (sheets (undone part x)) p ≡ 0 → sheets (undone part x) p ≡ []
  blank_y p there free =
      let nobody : page_owner (undone part x) p ≡ 0 = sym (owner_in_sheets (undone part x) p) ∙ free in
      let not_theirs : theirs (page_owner (undone part x) p) ≡ false = ap theirs nobody ∙ is_apart.free.1 in
      let same : page_owner (undone others (undone part x)) p ≡ page_owner (undone part x) p = owner_stays counts theirs (undone part x) others lie_b p not_theirs in
      let whole : undone part x p ≡ undone others (undone part x) p = λ t i. sym (slot_stays counts theirs (undone part x) others lie_b tell_y p i there not_theirs (λ e. absurd (omega (arith, e, nobody)))) t in
      sheet_same (undone part x) (undone others (undone part x)) p whole ∙ at_b.blank p there (owner_in_sheets (undone others (undone part x)) p ∙ same ∙ nobody)

  -- TABLES

  each_y : (j : ℕ) (e : TableDesc) → j < length ds → HasTable counts (sheets (undone part x)) c (get_or ds j e)
  each_y j e lt =
      let d : TableDesc = get_or ds j e in
      let few = (each_desc ds at_b.descs.descs.each j e lt).head in
      let any : Any (λ f. f ≡ get_or ds j e) ds = (j, get_or ds j e, lt, get_or_default ds j (get_or ds j e) e lt, refl) in
      elim (cases_Bool (theirs ((get_or ds j e).number.0 + 1))) [
        | inl t ↦
            let old : HasTable counts (sheets (undone own x)) a (get_or ds j e) = at_a.each j e lt in
            let out : mine ((get_or ds j e).number.0 + 1) ≡ false = not_mine ((get_or ds j e).number.0 + 1) t in
            let small : (get_or ds j e).number.0 + 1 < 4294967295 = omega (arith, few.number) in
            record {
              rows = old.rows;
              pages = table_back counts mine x part lie_part tell_x (get_or ds j e).number.0 out small (get_or ds j e).cols (get_or ds j e).root old.rows
                  (table_on counts mine x own lie_own tell_x (get_or ds j e).number.0 out small (get_or ds j e).cols (get_or ds j e).root old.rows old.pages);
              is = join.from (get_or ds j e) any t ∙ old.is;
            }
        | inr f ↦
            let old : HasTable counts (sheets (undone others (undone part x))) b (get_or ds j e) = at_b.each j e lt in
            record {
              rows = old.rows;
              pages = table_on counts theirs (undone part x) others lie_b tell_y (get_or ds j e).number.0 f (omega (arith, few.number)) (get_or ds j e).cols (get_or ds j e).root old.rows old.pages;
              is = join.kept (get_or ds j e) any f ∙ old.is;
            }
      ]
    where
      not_mine : (o : ℕ) → theirs o ≡ true → mine o ≡ false
      not_mine o t = elim (cases_Bool (mine o)) [ inl u ↦ differ (theirs o) t (is_apart.apart o u) | inr f ↦ f ]

  pub joined : IsBase counts (sheets (undone part x)) ds c
  joined = record {
    spread = spread_y counts x mine theirs own part others is_apart lie_own lie_part lie_others at_a.spread at_b.spread;
    zero_rows = at_b.zero_rows;
    zero_pages = table_on counts theirs (undone part x) others lie_b tell_y 0 is_apart.zero_table (omega arith) table_0 zero_root at_b.zero_rows at_b.zero_pages;
    descs = at_b.descs;
    each = each_y;
    only = join.only;
    owners = owners_y;
    blank = blank_y;
  }

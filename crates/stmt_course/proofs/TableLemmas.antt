-- What brings a new table, and what brings the tables without one, for who holds all.
use Rattle.std.proofs.Common.{refl, ◌≡◌, ℕ, zero, suc, ◌+◌, ◌<◌, ◌==◌, ◌||◌, Bool, true, false, List, [], ◌∷◌, ◌++◌, length, map, ap, sym, ◌∙◌, subst, arith, eqb-true, inl}
use Rattle.std.specs.Prelude.{Option, replicate}
use Rattle.std.specs.FinMap as finite
use Rattle.std.specs.List.{Any, AllByRecursion}
use Rattle.std.proofs.lemmas.Bool.{and_parts}
use Rattle.std.proofs.lemmas.List.{length-replicate}
use Rattle.page_base.specs.declared.numbers.PageId.{PageId}
use Rattle.page_base.specs.Slots.{Slots}
use Rattle.page_fmt.specs.Seen.{Looked, Shows}
use Rattle.plain_model.specs.declared.reply.Reply.{Reply}
use Rattle.plain_model.specs.Tables.{Tables}
use Rattle.row_fmt.specs.Rows.{row_bytes}
use Rattle.sys_cat.specs.declared.desc.TableDesc.{TableDesc}
use Rattle.sys_cat.specs.Changing.{keys_of, with_desc, without_desc}
use Rattle.sys_cat.specs.Lists.{IsDesc}
use Rattle.sys_cat.specs.Rows.{table_0, zero_root, table_row, rows_of}
use Rattle.table_walk.specs.declared.plan.Edit.{Edit}
use Rattle.table_walk.specs.declared.plan.Spot.{Spot}
use Rattle.table_walk.specs.Differences.{edit_at}
use Rattle.table_walk.specs.Plans.{place, cut_all, put_all, Carries}
use Rattle.page_tables.specs.Bases.{IsBase}
use Rattle.page_tables.specs.Claims.{Claimable}
use Rattle.page_tables.specs.Creating.{IsNew, IsNewRoot, creating, Creates}
use Rattle.page_tables.specs.Dropping.{ArePagesOf, Empty, release, dropping, Drops}
use Rattle.page_tables.specs.Layout as layout
use Rattle.page_tables.specs.Mine.{MayWriteAll}
use Rattle.page_tables.specs.Owners.{is_there, owner, owns}
use Rattle.page_tables.specs.Rooting.{rooted, telling, IsOnRows}
use Rattle.page_tables.specs.Sheets.{sheets}
use Rattle.page_tables.specs.Writes.{done, write_of, AreClaimable}
use Rattle.page_tables.proofs.BaseLemmas.{claimable_free}
use Rattle.page_tables.proofs.CarriedLemmas.{zero_desc, mine_off}
use Rattle.page_tables.proofs.CreatedLemmas.{created, created_go}
use Rattle.page_tables.proofs.DropLemmas.{dropped, dropped_go}
use Rattle.page_tables.proofs.FreeLemmas.{is_among, among_any, empties_within}
use Rattle.page_tables.proofs.GoLemmas.{claimable_first}
use Rattle.page_tables.proofs.LayoutLemmas.{on_rows}
use Rattle.page_tables.proofs.MineLemmas.{off_alloc}
use Rattle.page_tables.proofs.OwnLemmas.{few_number, zero_small}
use Rattle.page_tables.proofs.RootLemmas.{told_later}
use Rattle.page_tables.proofs.WriteLemmas.{owner_in_sheets}
use Rattle.step_words.specs.declared.stage.Stage.{Stage}
use Rattle.step_words.specs.Courses.{Course, Plain}
use Rattle.step_words.specs.Coming.{coming, claims_of}
use Rattle.stmt_course.specs.Bringing.{Brings, SpreadAll}
use Rattle.stmt_course.specs.Defining.{owners_with, creation, removal}
use Rattle.stmt_course.specs.Planning.{CanBeTold}
use Rattle.stmt_course.proofs.ComingLemmas.{many_with, drafts_with, creation_writes, removal_drafts, removal_writes}
use Rattle.stmt_course.proofs.SpreadLemmas.{IsOff, Keeps, all_keep, both_keep, claims_keep, edits_keep, releases_keep}

not_hidden : {P : Type 0} → true ≡ false → P
not_hidden e = absurd (let wrong : true ≡ false = e in cc)

all_small : (n number : ℕ) → number + 1 < 4294967295 → AllByRecursion (λ (m : ℕ). m + 1 < 4294967295) (replicate n number)
all_small zero number small = tt
all_small (suc n) number small = (small, all_small n number small)

with_small : (n number : ℕ) → number + 1 < 4294967295 → AllByRecursion (λ (m : ℕ). m + 1 < 4294967295) (owners_with n number)
with_small zero number small = (small, tt)
with_small (suc n) number small = (omega arith, with_small n number small)

-- pages that may be claimed tell of no others
free_off : (files : List ℕ) (s : Slots) (ds : List TableDesc) (tables : Tables) → IsBase files (sheets s) ds tables → (claimed : ℕ → PageId) (n : ℕ) → AreClaimable files (sheets s) claimed n → (k : ℕ) → k < n → IsOff files (claimed k)
free_off files s ds tables b claimed n all k lt =
    (all.there k lt, off_alloc files s (claimed k) b.spread (all.there k lt) (λ e. absurd (omega (arith, e, sym (owner_in_sheets s (claimed k)) ∙ all.free k lt))))

fewer : (files : List ℕ) (s : Slots) (claimed : ℕ → PageId) (n : ℕ) → AreClaimable files (sheets s) claimed (n + 1) → AreClaimable files (sheets s) claimed n
fewer files s claimed n all = record { there = λ i h. all.there i (omega arith); free = λ i h. all.free i (omega arith); differ = λ i j h l. all.differ i j h (omega arith); targets = λ i h. all.targets i (omega arith) }

in_middle : (before later : List Edit) (e : Edit) → Any (λ (f : Edit). f ≡ e) (before ++ e ∷ later)
in_middle [] later e = (0, e, omega arith, refl, refl)
in_middle (x ∷ xs) later e = let a = in_middle xs later e in (suc a.0, a.1, omega (arith, a.2), a.3, a.4)

-- ---- a table that is created

module _ (files : List ℕ) (s : Slots) (ds : List TableDesc) (tables : Tables) (b : IsBase files (sheets s) ds tables) (few : CanBeTold files) (d : TableDesc) (new : IsNew ds d) (seen : List Looked) (shows : Shows seen (sheets s)) (n : ℕ)
    (before later : List Edit) (spot : Spot) (slot : ℕ) (p : layout.Promises table_0 seen zero_root [] (rows_of d) n (telling before spot slot d later)) (bytes : List ℕ) (blank : IsNewRoot bytes) (old : Course) (stage : Stage) (reply : Option Reply) where
  abbrev course : Course
  course = record old { stage = stage; base = []; seen = []; owners = owners_with n d.number.0; taken = []; edits = creation n before spot slot d later bytes; reply = reply }

  small : d.number.0 + 1 < 4294967295
  small = omega (arith, new.desc.head.number)

  module _ (claimed : ℕ → PageId) (may : Claimable files s [] (length (owners_with n d.number.0)) claimed) where
    all : AreClaimable files (sheets s) claimed (n + 1)
    all = claimable_first files s (n + 1) claimed (subst (λ m. Claimable files s [] m claimed) (many_with n d.number.0) may)

    first_n : AreClaimable files (sheets s) claimed n
    first_n = fewer files s claimed n all

    abbrev true_d : TableDesc
    true_d = rooted d (claimed n)

    described : IsDesc (rooted d (claimed n))
    described =
        let told = few (claimed n) (all.there n (omega arith)) in
        record {
          head = record { name = new.desc.head.name; some = new.desc.head.some; number = new.desc.head.number; file = told.0; page = told.1 };
          named = new.desc.named;
          sound = new.desc.sound;
        }

    plan : Carries layout.shape table_0 (layout.first zero_root) claimed n (sheets s) (owns files (sheets s) 0) (telling before spot slot d later) (put_all table_0 (rows_of d) b.zero_rows)
    plan = p.carries (sheets s) (owns files (sheets s) 0) b.zero_rows claimed b.zero_pages shows (claimable_free files (sheets s) ds tables claimed n 0 b first_n)

    on : IsOnRows claimed (sheets s) (telling before spot slot d later) (place claimed spot)
    on = on_rows files (sheets s) ds tables seen [] (rows_of d) claimed n (telling before spot slot d later) (edit_at spot (slot, row_bytes (table_row d))) b shows first_n p (in_middle before later (edit_at spot (slot, row_bytes (table_row d)))) refl

    told : Carries layout.shape table_0 (layout.first zero_root) claimed n (sheets s) (owns files (sheets s) 0) (telling before spot slot (rooted d (claimed n)) later) (put_all table_0 (rows_of (rooted d (claimed n))) b.zero_rows)
    told = told_later files (sheets s) ds tables d (claimed n) claimed n before later spot slot b new described first_n on plan

    creates : Creates files s ds tables (rooted d (claimed n)) bytes claimed n (telling before spot slot (rooted d (claimed n)) later)
    creates = record { base = b; new = record { desc = described; name = new.name; number = new.number }; free = all; root = refl; blank = blank; plan = told }

    writes_are : coming course claimed ≡ creating (rooted d (claimed n)) bytes claimed n (telling before spot slot (rooted d (claimed n)) later)
    writes_are = creation_writes claimed n before spot slot d later bytes

    goes : MayWriteAll files s (coming course claimed)
    goes = subst (MayWriteAll files s) (sym writes_are) (created_go files s ds tables (rooted d (claimed n)) bytes claimed n (telling before spot slot (rooted d (claimed n)) later) creates)

    leads : IsBase files (sheets (done (coming course claimed) s)) (with_desc ds (rooted d (claimed n))) (finite.insert tables d.name (record { cols = d.cols; rows = finite.empty }))
    leads = subst (λ ws. IsBase files (sheets (done ws s)) (with_desc ds (rooted d (claimed n))) (finite.insert tables d.name (record { cols = d.cols; rows = finite.empty }))) (sym writes_are)
        (created files s ds tables (rooted d (claimed n)) bytes claimed n (telling before spot slot (rooted d (claimed n)) later) creates)

    claims_stay : AllByRecursion (Keeps files) (claims_of (owners_with n d.number.0) 0 claimed)
    claims_stay = claims_keep files (owners_with n d.number.0) 0 claimed (λ k h l. free_off files s ds tables b claimed (n + 1) all k (omega (arith, l, many_with n d.number.0))) (with_small n d.number.0 small)

    edits_stay : AllByRecursion (Keeps files) (map (write_of claimed) (telling before spot slot (rooted d (claimed n)) later))
    edits_stay = edits_keep files claimed n (owns files (sheets s) 0) (telling before spot slot (rooted d (claimed n)) later)
        (mine_off files (sheets s) b.spread zero_desc zero_small claimed n first_n (telling before spot slot (rooted d (claimed n)) later) (put_all table_0 (rows_of (rooted d (claimed n))) b.zero_rows) told) told.within

    spreads : SpreadAll files s (coming course claimed)
    spreads = subst (SpreadAll files s) (ap (λ ws. claims_of (owners_with n d.number.0) 0 claimed ++ ws) (sym (drafts_with claimed n before spot slot d later bytes)))
        (all_keep files (claims_of (owners_with n d.number.0) 0 claimed ++ (map (write_of claimed) (telling before spot slot (rooted d (claimed n)) later) ++ record { page = claimed n; slot = 0; bytes = bytes } ∷ [])) s
        (both_keep files (claims_of (owners_with n d.number.0) 0 claimed) (map (write_of claimed) (telling before spot slot (rooted d (claimed n)) later) ++ record { page = claimed n; slot = 0; bytes = bytes } ∷ []) claims_stay
        (both_keep files (map (write_of claimed) (telling before spot slot (rooted d (claimed n)) later)) (record { page = claimed n; slot = 0; bytes = bytes } ∷ []) edits_stay (inl (free_off files s ds tables b claimed (n + 1) all n (omega arith)).1, tt))) b.spread)

  pub table_brought : (mine : ℕ → Bool) → Brings files true mine s (record old { stage = stage; base = []; seen = []; owners = owners_with n d.number.0; taken = []; edits = creation n before spot slot d later bytes; reply = reply })
      (λ claimed. with_desc ds (rooted d (claimed n))) (finite.insert tables d.name (record { cols = d.cols; rows = finite.empty }))
  table_brought mine = record { go = goes; given = λ e. not_hidden e; own = λ e. not_hidden e; spread = λ e. spreads; base = leads }

-- ---- a table that is dropped

module _ (files : List ℕ) (s : Slots) (ds : List TableDesc) (tables : Tables) (b : IsBase files (sheets s) ds tables) (d : TableDesc) (there : Any (λ e. e ≡ d) ds) (seen : List Looked) (shows : Shows seen (sheets s)) (n : ℕ)
    (edits empties : List Edit) (p : layout.Promises table_0 seen zero_root (keys_of d) [] n edits) (pages : List PageId) (its : ArePagesOf files (sheets s) d.number.0 pages) (empty : Empty (sheets s) pages empties) (old : Course) (stage : Stage) (reply : Option Reply) where
  abbrev less : Course
  less = record old { stage = stage; base = []; seen = []; owners = replicate n 0; taken = []; edits = map Plain (removal edits empties pages); reply = reply }

  its_off : (q : PageId) → is_among pages q ≡ true → IsOff files q
  its_off q t =
      let parts = and_parts (is_there files q) (owner (sheets s) q == d.number.0 + 1) ((its.owned q).1 (among_any pages q t)) in
      let is : owner (sheets s) q ≡ d.number.0 + 1 = eqb-true (owner (sheets s) q) (d.number.0 + 1) parts.1 in
      (parts.0, off_alloc files s q b.spread parts.0 (λ e. absurd (omega (arith, e, sym (owner_in_sheets s q) ∙ is, few_number files (sheets s) ds tables b d there))))

  module _ (claimed : ℕ → PageId) (may : Claimable files s [] (length (replicate {A = ℕ} n 0)) claimed) where
    may_n : AreClaimable files (sheets s) claimed n
    may_n = claimable_first files s n claimed (subst (λ m. Claimable files s [] m claimed) (length-replicate n 0) may)

    cut_plan : Carries layout.shape table_0 (layout.first zero_root) claimed n (sheets s) (owns files (sheets s) 0) edits (cut_all (keys_of d) b.zero_rows)
    cut_plan = p.carries (sheets s) (owns files (sheets s) 0) b.zero_rows claimed b.zero_pages shows (claimable_free files (sheets s) ds tables claimed n 0 b may_n)

    drops : Drops files s ds tables d claimed n edits empties pages
    drops = record { base = b; there = there; free = may_n; plan = cut_plan; its = its; empty = empty }

    drop_writes : coming less claimed ≡ dropping claimed n edits empties pages
    drop_writes = removal_writes claimed n edits empties pages

    drop_goes : MayWriteAll files s (coming less claimed)
    drop_goes = subst (MayWriteAll files s) (sym drop_writes) (dropped_go files s ds tables d claimed n edits empties pages drops)

    drop_leads : IsBase files (sheets (done (coming less claimed) s)) (without_desc ds d.name) (finite.remove tables d.name)
    drop_leads = subst (λ ws. IsBase files (sheets (done ws s)) (without_desc ds d.name) (finite.remove tables d.name)) (sym drop_writes) (dropped files s ds tables d claimed n edits empties pages drops)

    drop_spreads : SpreadAll files s (coming less claimed)
    drop_spreads = subst (SpreadAll files s) (sym (ap (λ ws. claims_of (replicate n 0) 0 claimed ++ ws) (removal_drafts claimed edits empties pages)))
        (all_keep files (claims_of (replicate n 0) 0 claimed ++ (map (write_of claimed) edits ++ (map (write_of claimed) empties ++ map release pages))) s
        (both_keep files (claims_of (replicate n 0) 0 claimed) (map (write_of claimed) edits ++ (map (write_of claimed) empties ++ map release pages))
        (claims_keep files (replicate n 0) 0 claimed (λ k h l. free_off files s ds tables b claimed n may_n k (omega (arith, l, length-replicate {A = ℕ} n 0))) (all_small n 0 (omega arith)))
        (both_keep files (map (write_of claimed) edits) (map (write_of claimed) empties ++ map release pages)
        (edits_keep files claimed n (owns files (sheets s) 0) edits (mine_off files (sheets s) b.spread zero_desc zero_small claimed n may_n edits (cut_all (keys_of d) b.zero_rows) cut_plan) cut_plan.within)
        (both_keep files (map (write_of claimed) empties) (map release pages)
        (edits_keep files claimed 0 (is_among pages) empties (λ q t. (its_off q (or_none (is_among pages q) t)).1) (empties_within claimed (is_among pages) (sheets s) pages empties (λ q t. t) empty))
        (releases_keep files pages its_off)))) b.spread)
      where
        or_none : (x : Bool) → (x || false) ≡ true → x ≡ true
        or_none true e = refl
        or_none false e = e

  pub table_gone : (mine : ℕ → Bool) → Brings files true mine s (record old { stage = stage; base = []; seen = []; owners = replicate n 0; taken = []; edits = map Plain (removal edits empties pages); reply = reply })
      (λ claimed. without_desc ds d.name) (finite.remove tables d.name)
  table_gone mine = record { go = drop_goes; given = λ e. not_hidden e; own = λ e. not_hidden e; spread = λ e. drop_spreads; base = drop_leads }

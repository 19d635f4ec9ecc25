-- A plan of one table as what is to come, for who may carry it out.
use Rattle.std.proofs.Common.{refl, ◌≡◌, ℕ, zero, suc, ◌+◌, ◌<◌, Bool, true, false, List, [], ◌∷◌, ◌++◌, length, map, replicate, ap, sym, ◌∙◌, subst, inl, inr}
use Rattle.std.specs.Prelude.{Option}
use Rattle.std.specs.FinMap as finite
use Rattle.std.specs.List.{Any, AllByRecursion}
use Rattle.std.proofs.lemmas.List.{length-replicate}
use Rattle.std.proofs.lemmas.Bool.{eqb-true}
use Rattle.page_base.specs.declared.numbers.PageId.{PageId}
use Rattle.page_base.specs.declared.value.Value.{Value}
use Rattle.page_base.specs.Slots.{Slots}
use Rattle.page_fmt.specs.Seen.{Looked, Shows}
use Rattle.alloc_pages.specs.Owners.{page_owner}
use Rattle.plain_model.specs.declared.reply.Reply.{Reply}
use Rattle.plain_model.specs.Tables.{Rows, Tables}
use Rattle.sys_cat.specs.declared.desc.TableDesc.{TableDesc}
use Rattle.table_walk.specs.declared.plan.Edit.{Edit}
use Rattle.table_walk.specs.Plans.{place, cut_all, put_all, AreWithin, Carries}
use Rattle.page_tables.specs.Bases.{IsBase, AreRowsOf}
use Rattle.page_tables.specs.Claims.{claims_from, Claimable}
use Rattle.page_tables.specs.Layout as layout
use Rattle.page_tables.specs.Mine.{written, is_of, MayWriteAll, AreMine, AreSpread, Moves}
use Rattle.page_tables.specs.Owners.{owns}
use Rattle.page_tables.specs.Sheets.{sheets}
use Rattle.page_tables.specs.Writes.{Write, claim, claims, done, write_of, AreClaimable}
use Rattle.page_tables.proofs.BaseLemmas.{claimable_free}
use Rattle.page_tables.proofs.GoLemmas.{claims_are, claimable_first, AreOwn}
use Rattle.page_tables.proofs.MineLemmas.{one_moves}
use Rattle.page_tables.proofs.OwnLemmas.{few_number, none, no_alloc, own, spread_y, plan_go, plan_mine, plan_base}
use Rattle.step_words.specs.declared.stage.Stage.{Stage}
use Rattle.step_words.specs.Courses.{Course, Plain}
use Rattle.step_words.specs.Coming.{coming, claims_of, claims_left, edits_left, draft_write}
use Rattle.stmt_course.specs.Bringing.{AreOnOwn, SpreadAll, IsGiven, Brings}

pub claims_same : (number : ℕ) (claimed : ℕ → PageId) (n i : ℕ) → claims_of (replicate n number) i claimed ≡ claims_from number claimed i n
claims_same number claimed zero i = refl
claims_same number claimed (suc n) i = ap (λ ws. claim number (claimed i) ∷ ws) (claims_same number claimed n (i + 1))

pub drafts_same : (claimed : ℕ → PageId) (edits : List Edit) → map (draft_write claimed) (map Plain edits) ≡ map (write_of claimed) edits
drafts_same claimed [] = refl
drafts_same claimed (e ∷ es) = ap (λ ws. write_of claimed e ∷ ws) (drafts_same claimed es)

-- writes of a writer's own leave the allocation pages such
pub mine_spread : (files : List ℕ) (mine : ℕ → Bool) → mine 0 ≡ false → mine 4294967295 ≡ false → (ws : List Write) (s : Slots) → AreSpread files (sheets s) → AreMine files mine s ws → SpreadAll files s ws
mine_spread files mine zeros alloc [] s spread m = spread
mine_spread files mine zeros alloc (w ∷ ws) s spread m = (spread, mine_spread files mine zeros alloc ws (written w s) (one_moves files mine zeros alloc s spread w m.0).spread m.1)

-- edits on pages of an owner that is one's own
module _ (files : List ℕ) (mine writes : ℕ → Bool) (zeros : writes 0 ≡ false) (alloc : writes 4294967295 ≡ false) (its : (o : ℕ) → writes o ≡ true → mine o ≡ true) (claimed : ℕ → PageId) (n : ℕ) (of : PageId → Bool) where
  own_after : (y : Slots) (w : Write) → AreOwn files writes zeros alloc claimed n of y → Moves files writes y (written w y) → AreOwn files writes zeros alloc claimed n of (written w y)
  own_after y w held m q t = (
    (held q t).0,
    elim (m.owners q) [
      | inl e ↦ ap writes e ∙ (held q t).1
      | inr g ↦ g.2
    ],
  )

  edits_own : (es : List Edit) (y : Slots) → AreSpread files (sheets y) → AreOwn files writes zeros alloc claimed n of y → AreWithin claimed n of es → AreOnOwn files mine y (map (write_of claimed) es)
  edits_own [] y spread held within = tt
  edits_own (e ∷ es) y spread held within =
      let w : Write = write_of claimed e in
      let here = held (place claimed e.spot) within.0 in
      let m = one_moves files writes zeros alloc y spread w (inl here) in
      ((here.0, its (page_owner y (place claimed e.spot)) here.1), edits_own es (written w y) m.spread (own_after y w held m) within.1)

given_all : (mine : ℕ → Bool) (number : ℕ) (n : ℕ) → IsGiven mine number → AllByRecursion (IsGiven mine) (replicate n number)
given_all mine number zero g = tt
given_all mine number (suc n) g = (g, given_all mine number n g)

-- a plan of a table that is described
module _ (files : List ℕ) (s : Slots) (ds : List TableDesc) (tables : Tables) (b : IsBase files (sheets s) ds tables) (d : TableDesc) (some : Any (λ e. e ≡ d) ds) (rows : Rows) (pages : AreRowsOf files (sheets s) d.cols d.number.0 d.root rows)
    (seen : List Looked) (shows : Shows seen (sheets s)) (cut put : List (List Value)) (n : ℕ) (edits : List Edit) (p : layout.Promises d.cols seen d.root cut put n edits)
    (old : Course) (stage : Stage) (reply : Option Reply) where
  abbrev new : Course
  new = record old { stage = stage; base = []; seen = []; owners = replicate n d.number.0; taken = []; edits = map Plain edits; reply = reply }

  abbrev then_rows : Rows
  then_rows = put_all d.cols put (cut_all cut rows)

  few : d.number.0 + 1 < 4294967295
  few = few_number files (sheets s) ds tables b d some

  module _ (claimed : ℕ → PageId) (may : Claimable files s [] (length (replicate n d.number.0)) claimed) where
    may_n : AreClaimable files (sheets s) claimed n
    may_n = claimable_first files s n claimed (subst (λ m. Claimable files s [] m claimed) (length-replicate n d.number.0) may)

    plan : Carries layout.shape d.cols (layout.first d.root) claimed n (sheets s) (owns files (sheets s) d.number.0) edits then_rows
    plan = p.carries (sheets s) (owns files (sheets s) d.number.0) rows claimed pages shows (claimable_free files (sheets s) ds tables claimed n d.number.0 b may_n)

    claims_are_left : claims_left new claimed ≡ claims d.number.0 claimed n
    claims_are_left = claims_same d.number.0 claimed n 0 ∙ claims_are d.number.0 claimed n

    writes_are : coming new claimed ≡ claims d.number.0 claimed n ++ map (write_of claimed) edits
    writes_are = λ i. claims_are_left i ++ drafts_same claimed edits i

    goes : MayWriteAll files s (coming new claimed)
    goes = subst (MayWriteAll files s) (sym writes_are) (plan_go files s b.spread d few claimed n may_n edits then_rows plan)

    spreads : SpreadAll files s (coming new claimed)
    spreads = subst (SpreadAll files s) (sym writes_are)
        (mine_spread files (is_of d.number.0) (none files s b.spread d few claimed n may_n edits then_rows plan) (no_alloc files s b.spread d few claimed n may_n edits then_rows plan) (claims d.number.0 claimed n ++ map (write_of claimed) edits) s b.spread
        (plan_mine files s b.spread d few claimed n may_n edits then_rows plan))

    leads : IsBase files (sheets (done (coming new claimed) s)) ds (finite.insert tables d.name (record { cols = d.cols; rows = then_rows }))
    leads = subst (λ ws. IsBase files (sheets (done ws s)) ds (finite.insert tables d.name (record { cols = d.cols; rows = then_rows }))) (sym writes_are) (plan_base files s ds tables b d some claimed n may_n edits then_rows plan)

    owns_edits : (mine : ℕ → Bool) → mine (d.number.0 + 1) ≡ true → AreOnOwn files mine (done (claims_left new claimed) s) (edits_left new claimed)
    owns_edits mine given =
        let zeros = none files s b.spread d few claimed n may_n edits then_rows plan in
        let alloc = no_alloc files s b.spread d few claimed n may_n edits then_rows plan in
        let at : AreOnOwn files mine (done (claims d.number.0 claimed n) s) (map (write_of claimed) edits) =
        edits_own files mine (is_of d.number.0) zeros alloc (λ o t. ap mine (eqb-true o (d.number.0 + 1) t) ∙ given) claimed n (owns files (sheets s) d.number.0) edits (done (claims d.number.0 claimed n) s)
        (spread_y files s b.spread d few claimed n may_n edits then_rows plan) (own files s b.spread d few claimed n may_n edits then_rows plan) plan.within in
        subst (λ ws. AreOnOwn files mine (done ws s) (edits_left new claimed)) (sym claims_are_left) (subst (AreOnOwn files mine (done (claims d.number.0 claimed n) s)) (sym (drafts_same claimed edits)) at)

  pub rows_brought : (all : Bool) (mine : ℕ → Bool) → (all ≡ false → mine (d.number.0 + 1) ≡ true) → (after : Tables) → after ≡ finite.insert tables d.name (record { cols = d.cols; rows = put_all d.cols put (cut_all cut rows) }) → Brings files all mine s new (λ claimed. ds) after
  rows_brought all mine its after is = record {
    go = goes;
    given = λ e. given_all mine d.number.0 n (few, its e);
    own = λ e claimed may. owns_edits claimed may mine (its e);
    spread = λ e claimed may. spreads claimed may;
    base = λ claimed may. subst (IsBase files (sheets (done (coming new claimed) s)) ds) (sym is) (leads claimed may);
  }

-- what claims and edits nothing
pub nothing_brought : (files : List ℕ) (all : Bool) (mine : ℕ → Bool) (s : Slots) (ds : List TableDesc) (tables : Tables) (c : Course) → IsBase files (sheets s) ds tables → Brings files all mine s (record c { owners = []; taken = []; edits = [] }) (λ claimed. ds) tables
nothing_brought files all mine s ds tables c b = record { go = λ claimed may. tt; given = λ e. tt; own = λ e claimed may. tt; spread = λ e claimed may. b.spread; base = λ claimed may. b }

-- The row that tells a table, and the edit that writes it among others.
use Rattle.std.proofs.Common.{refl, ◌≡◌, ℕ, zero, suc, ◌<◌, ◌^◌, List, [], ◌∷◌, length, get_or, ap, sym, ◌∙◌, subst, arith}
use Rattle.page_base.specs.declared.column.Column.{Column}
use Rattle.page_base.specs.declared.numbers.PageId.{PageId}
use Rattle.page_base.specs.declared.value.Value.{Value}
use Rattle.row_fmt.specs.Rows.{FitsColumns}
use Rattle.sys_cat.specs.declared.desc.TableDesc.{TableDesc}
use Rattle.sys_cat.specs.Lists.{IsDesc}
use Rattle.sys_cat.specs.Rows.{table_0, rows_of}
use Rattle.sys_cat.proofs.PutLemmas.{rows_put, good}
use Rattle.table_walk.specs.declared.plan.Edit.{Edit}
use Rattle.table_walk.specs.Differences.{edit_at}
use Rattle.stmt_prog.specs.Placing.{IsPlacedAt}

-- with a root that table 0 can tell the table may be described
rooted_desc : (d : TableDesc) (root : PageId) → IsDesc d → root.file < 256 → root.page < 2 ^ 31 → IsDesc (record d { root = root })
rooted_desc d root desc file page = record { head = record { name = desc.head.name; some = desc.head.some; number = desc.head.number; file = file; page = page }; named = desc.named; sound = desc.sound }

-- its first row is one of table 0
pub told_fits : (d : TableDesc) (root : PageId) (told : TableDesc) (rows : List (List Value)) (cols : List Column) (row : List Value) → IsDesc d → root.file < 256 → root.page < 2 ^ 31 → told ≡ record d { root = root } → rows ≡ rows_of told → cols ≡ table_0 → get_or rows 0 row ≡ row → FitsColumns cols row
told_fits d root told rows cols row desc file page is are zero_cols at =
    let its : IsDesc told = subst IsDesc (sym is) (rooted_desc d root desc file page) in
    subst (λ cs. FitsColumns cs row) (sym zero_cols) (subst (FitsColumns table_0) (ap (λ xs. get_or xs 0 row) (sym are) ∙ at) (rows_put told its.head its.named (good told.cols its.sound) 0 row (omega arith)).of.fits)

-- an edit at a place that is of a row and writes these bytes alone
pub placed : (bytes : List ℕ) (es : List Edit) (i : ℕ) (d : Edit) → i < length es → get_or es i d ≡ edit_at (get_or es i d).spot ((get_or es i d).slot, bytes) → IsPlacedAt es bytes i
placed bytes [] i d lt is = absurd (omega arith)
placed bytes (e ∷ es) zero d lt is = record { before = []; later = es; spot = e.spot; slot = e.slot; are = ap (λ (x : Edit). x ∷ es) is; place = refl }
placed bytes (e ∷ es) (suc i) d lt is =
    let p = placed bytes es i d (omega (arith, lt)) is in
    record { before = e ∷ p.before; later = p.later; spot = p.spot; slot = p.slot; are = ap (λ (xs : List Edit). e ∷ xs) p.are; place = ap suc p.place }

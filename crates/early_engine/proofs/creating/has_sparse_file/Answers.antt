use Rattle.std.proofs.Common.{◌≡◌, ◌∙◌, ◌<◌, true, ap, sym, subst, length, arith}
use Rattle.std.specs.List.{list_any}
use Rattle.std.specs.Str.{bytes_eq}
use Rattle.early_pages.specs.Shown.{catalog}
use Rattle.early_pages.specs.Catalog.{Catalog, snap_at}
use Rattle.early_engine.proofs.NameLemmas.{any_at}
use Rattle.early_engine.proofs.creating.has_sparse_file.Goals as goal

pub returns-then-has_name : goal.returns-then-has_name
returns-then-has_name g c =
    let at = c.loop-s.s in
    let few : at < length (catalog c.args.pages.now).snaps = subst (λ (cat : Catalog). at < length cat.snaps) c.cat.ensures.cat (let l = c.loop-s-test.true in let n = c.count-s-end.ensures.count in omega (arith, l, n)) in
    let there : list_any (bytes_eq c.args.path.now) (snap_at (catalog c.args.pages.now) (record { 0 = at })).files ≡ true =
    ap (λ (cat : Catalog). list_any (bytes_eq c.args.path.now) (snap_at cat (record { 0 = at })).files) (sym c.cat-in-loop-s.ensures.cat) ∙ ap (list_any (bytes_eq c.args.path.now)) (sym c.files.ensures) ∙ sym c.has_name.ensures ∙ c.if-has_name.true in
    sym (any_at (bytes_eq c.args.path.now) (catalog c.args.pages.now).snaps at few there)

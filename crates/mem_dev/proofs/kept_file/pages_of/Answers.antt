use Rattle.std.proofs.Common.{◌≡◌, ◌*◌, length, ap, ◌∙◌, sym, arith}
use Rattle.std.specs.List.{concat}
use Rattle.page_dev.specs.PageFile.{pages_of}
use Rattle.page_dev.proofs.PageFileLemmas.{concat-pages_of, length-pages_of}
use Rattle.mem_dev.specs.StoreLaws.{length-content}
use Rattle.mem_dev.proofs.kept_file.pages_of.Goals as goal

pub returns-in-Ok-clause-ok : goal.returns-in-Ok-clause-ok
returns-in-Ok-clause-ok c =
    let long : length c.args.bytes.items ≡ 8192 * c.args.pages = omega (arith, ap length c.deref.ensures.value, c.deref.ensures.len) in
    ap concat (c.in-Ok.ensures.content ∙ ap (pages_of c.args.pages) c.deref.ensures.value) ∙ concat-pages_of c.args.pages c.args.bytes.items long

pub returns-in-Ok-clause-count : goal.returns-in-Ok-clause-count
returns-in-Ok-clause-count c = sym (length-content c.in-Ok.store) ∙ ap length c.in-Ok.ensures.content ∙ length-pages_of c.args.pages _

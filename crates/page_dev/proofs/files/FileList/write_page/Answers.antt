use Rattle.std.proofs.Common.{◌≡◌, ℕ, ◌<◌, IsTrue, List, length, get_or, refl, ap, sym, ◌∙◌, subst, arith}
use Rattle.std.proofs.Math.ListN.{length-map}
use Rattle.page_dev.specs.Files.{Files, all_true}
use Rattle.page_dev.proofs.FilesLemmas.{place_there, place_there_by, alike, caused_sum, all_true_at, kept, one_call, faulted, writes, here}
use Rattle.page_dev.proofs.files.FileList.write_page.Goals as goal

pub returns-clause-tells : goal.returns-clause-tells
returns-clause-tells g c = ap all_true (kept g.P.PageFile.tells c.self.inside.files.items c.args.p.file c.index_mut.result.now c.write_page.new.self c.index_mut.ensures.value _ refl c.write_page.ensures.tells) ∙ ap (λ (v : Files). v.tells) c.self.view_is

pub returns-clause-counts : goal.returns-clause-counts
returns-clause-counts g c = kept g.P.PageFile.count c.self.inside.files.items c.args.p.file c.index_mut.result.now c.write_page.new.self c.index_mut.ensures.value _ (ap (λ (v : Files). v.counts) c.self.view_is) c.write_page.ensures.count

within : (counts : List ℕ) (n i p : ℕ) → p < get_or counts i 0 → length counts ≡ n → i < n
within counts n i p h e = omega (arith, place_there counts i p h)

pub returns-clause-cause : goal.returns-clause-cause
returns-clause-cause g c =
    let lt : c.args.p.file < length c.self.inside.files.items = within c.args.self.now.counts _ _ _ c.requires (ap length (sym (ap (λ (v : Files). v.counts) c.self.view_is)) ∙ length-map c.self.inside.files.items g.P.PageFile.count) in
    faulted g.P.PageFile.failures c.self.inside.files.items c.args.p.file c.index_mut.result.now c.write_page.new.self c.args.self.now.failures c.write_page.result c.index_mut.ensures.value lt (ap (λ (v : Files). v.failures) c.self.view_is) c.write_page.ensures.cause

pub returns-clause-written : goal.returns-clause-written
returns-clause-written g c t =
    let lt : c.args.p.file < length c.self.inside.files.items = within c.args.self.now.counts _ _ _ c.requires (ap length (sym (ap (λ (v : Files). v.counts) c.self.view_is)) ∙ length-map c.self.inside.files.items g.P.PageFile.count) in
    let told : IsTrue (g.P.PageFile.tells c.index_mut.result.now) = subst (λ f. IsTrue (g.P.PageFile.tells f)) (sym c.index_mut.ensures.value) (all_true_at g.P.PageFile.tells c.self.inside.files.items c.args.p.file c.index_mut.result.now lt (subst IsTrue (sym (ap (λ (v : Files). v.tells) c.self.view_is)) t)) in
    let count : get_or c.args.self.now.counts c.args.p.file 0 ≡ g.P.PageFile.count c.index_mut.result.now = here g.P.PageFile.count c.self.inside.files.items c.args.p.file c.index_mut.result.now c.index_mut.result.now c.index_mut.ensures.value _ 0 lt (ap (λ (v : Files). v.counts) c.self.view_is) in
    let has : c.args.p.page < length (g.P.PageFile.content c.index_mut.result.now) = omega (arith, g.met.P.PageFile.counted c.index_mut.result.now told, count, c.requires) in
    writes g.P.PageFile.content c.self.inside.files.items c.args.p c.index_mut.result.now c.write_page.new.self c.args.self.now.content c.args.from.now c.write_page.result c.index_mut.ensures.value lt (ap (λ (v : Files). v.content) c.self.view_is) has (c.write_page.ensures.written told)

pub returns-clause-calls : goal.returns-clause-calls
returns-clause-calls g c =
    let lt : c.args.p.file < length c.self.inside.files.items = within c.args.self.now.counts _ _ _ c.requires (ap length (sym (ap (λ (v : Files). v.counts) c.self.view_is)) ∙ length-map c.self.inside.files.items g.P.PageFile.count) in
    one_call g.P.PageFile.calls c.self.inside.files.items c.args.p.file c.index_mut.result.now c.write_page.new.self c.args.self.now.calls c.index_mut.ensures.value lt (ap (λ (v : Files). v.calls) c.self.view_is) c.write_page.ensures.calls

pub returns-clause-cause_of_sum : goal.returns-clause-cause_of_sum
returns-clause-cause_of_sum g c = caused_sum c.args.p.file c.args.self.now.failures _ c.write_page.result (place_there_by c.args.self.now.counts c.args.self.now.failures _ _ c.requires (alike g.P.PageFile.count g.P.PageFile.failures c.self.inside.files.items _ _ (ap (λ (v : Files). v.counts) c.self.view_is) (ap (λ (v : Files). v.failures) c.self.view_is))) (returns-clause-cause g c)

-- What pages in memory read as: as many pages, each of 8,192 bytes.
use Rattle.std.specs.Prelude.{◌≡◌, ◌==◌, IsTrue, length}
use Rattle.std.proofs.lemmas.Bool.{eqb-true}
use Rattle.std.proofs.lemmas.List.{length-map}
use Rattle.std.proofs.lemmas.List.Sums.{AllPass-from_list_all}
use Rattle.std.proofs.lemmas.List.Elements.{All-weaker}
use Rattle.page_dev.specs.PageFile.{FilePages, AreImages}
use Rattle.mem_dev.specs.Store.{Stored, bytes_of, content_of, are_sized}

pub length-content : (pages : Stored) → length (content_of pages) ≡ length pages
length-content pages = length-map pages bytes_of

pub AreImages-sized : (pages : FilePages) → IsTrue (are_sized pages) → AreImages pages
AreImages-sized pages h =
    All-weaker (λ page. IsTrue (length page == 8192)) (λ page. length page ≡ 8192) (λ page. eqb-true (length page) 8192) pages (AllPass-from_list_all (λ page. length page == 8192) pages h)

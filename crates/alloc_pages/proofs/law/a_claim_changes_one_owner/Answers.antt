use Rattle.alloc_pages.proofs.OwnerLemmas.{owner_in-owner_bytes, page_owner-same, page_owner-other, page_owner-page}
use Rattle.alloc_pages.proofs.law.a_claim_changes_one_owner.Goals as goal

pub returns : goal.returns
returns c = record { read = owner_in-owner_bytes; here = page_owner-same; others = page_owner-other; elsewhere = page_owner-page }

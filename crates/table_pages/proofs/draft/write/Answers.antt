use Rattle.std.proofs.Common.{arith}
use Rattle.table_pages.proofs.RoomLemmas.{long_lacks}
use Rattle.table_pages.proofs.draft.write.Goals as goal

pub returns-then-bytes-gt-LONGEST-clause-lacks : goal.returns-then-bytes-gt-LONGEST-clause-lacks
returns-then-bytes-gt-LONGEST-clause-lacks c = λ no low some. long_lacks _ c.args.slot c.args.bytes.now (let long = c.if-bytes-gt-LONGEST.true in omega arith)

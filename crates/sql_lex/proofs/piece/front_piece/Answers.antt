use Rattle.std.proofs.Common.{List, ℕ, ap, sym, ◌∙◌, get_or}
use Rattle.std.proofs.lemmas.List.{take_rest}
use Rattle.std.specs.List.{prefix_len}
use Rattle.sql_lex.specs.Tokens.{goes_on}
use Rattle.sql_lex.proofs.RunLemmas.{run_in_front}
use Rattle.sql_lex.proofs.piece.front_piece.Goals as goal

pub run_piece-requires-clause-run : goal.run_piece-requires-clause-run
run_piece-requires-clause-run c =
    let more = ap (λ (bs : List ℕ). prefix_len (goes_on (get_or c.args.bytes.now 0 0)) bs) (take_rest c.args.bytes.now 1) in
    run_in_front c.args.bytes.now c.run_len.result (sym c.is_name_byte.ensures ∙ c.if-is_name_byte.true) c.in-len1-up.len_at_least (c.run_len.ensures.value ∙ more)

-- The pins that are counted are those before the use.
use Rattle.std.proofs.Common.{◌^◌}
use Rattle.buf_pool.proofs.StepLemmas.{pins_below}
use Rattle.buf_pool.proofs.pool.Pool.use_again.Goals as goal

pub add_pin-requires-clause-few : goal.add_pin-requires-clause-few
add_pin-requires-clause-few g c = pins_below c.args.self.now c.promote.new.self c.args.p (2 ^ 100) c.promote.ensures.stays c.requires.few

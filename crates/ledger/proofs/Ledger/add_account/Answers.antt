use Rattle.std.proofs.Common.{arith}
use Rattle.ledger.specs.Meaning.{bank}
use Rattle.ledger.proofs.Effect.{bare_length, bare_rates, made_added}
use Rattle.ledger.proofs.Ledger.add_account.Goals as goal

pub add_rate-requires-clause-account : goal.add_rate-requires-clause-account
add_rate-requires-clause-account c = grind (arith, bare_length)

pub add_rate-requires-clause-rate : goal.add_rate-requires-clause-rate
add_rate-requires-clause-rate c = grind (arith, bare_rates)

pub returns-clause-made : goal.returns-clause-made
unfolding bank
returns-clause-made c = made_added _ _ _ _ _ _ _ c.account_count-account.ensures c.restore_account.ensures c.add_rate.ensures

use Rattle.std.proofs.Common.{[], arith}
use Rattle.pb_normal.proofs.MergeLemmas.{merges_none}
use Rattle.pb_normal.proofs.merging.PositiveSum.clear.Goals as goal

pub returns-clause-value : goal.returns-clause-value
returns-clause-value c = (merges_none [] _ c.clear.ensures.items).value

pub returns-clause-positive : goal.returns-clause-positive
returns-clause-positive c = λ n. (merges_none [] _ c.clear.ensures.items).positive n (λ i d h. absurd (omega arith))

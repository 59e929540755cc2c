use Rattle.std.proofs.Common.{subst}
use Rattle.pb_workers.specs.Parts.{PartView, IsSettled}
use Rattle.pb_workers.proofs.part.Part.is_settled.Goals as goal

pub returns : goal.returns
returns c settled = subst (λ (p : PartView). IsSettled p.pieces p.best) c.self.view_is (c.self.invariant.1 settled)

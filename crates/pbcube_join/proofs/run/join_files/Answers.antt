use Rattle.std.proofs.Common.{◌≡◌, ◌⊎◌, Err, ap, inl, inr, refl}
use Rattle.std.specs.Prelude.{◌≢◌}
use Rattle.pb_join.specs.declared.faults.JoinFault.{JoinFault}
use Rattle.pb_join.specs.declared.faults.JoinFault.TheVariants.{Memory, Report, Write}
use Rattle.pbcube_join.proofs.run.join_files.Goals as goal

pub returns-clause-unwritten : goal.returns-clause-unwritten
returns-clause-unwritten g c = λ other. c.in-Err.ensures.unwritten (λ is. other (c.fault_of.ensures is))

-- what holds after each fault but one, or what holds after that
after : {P Q : Type 0} (fault : JoinFault) → (fault ≢ Write → P) → (fault ≡ Write → Q) → P ⊎ Q
after Write others own = inr (own refl)
after Memory others own = inl (others (λ is. cc))
after (Report place why) others own = inl (others (λ is. cc))

pub returns-clause-kept : goal.returns-clause-kept
returns-clause-kept g c = after c.in-Err.fault c.in-Err.ensures.unwritten (λ is. c.in-Err.ensures.write.1 (ap Err is))

use Rattle.std.proofs.Common.{◌≡◌, ◌≢◌, ◌↔◌, ◌∷◌, [], IsTrue, map, take}
use Rattle.std.specs.Prelude.{All, Any}
use Rattle.pb_workers.specs.Parts.{PartView, AreDone, AreSolutions, IsFirst}
use Rattle.pb_workers.proofs.gathering.gather.Given as goal

-- what is held is the first so far, all so far are solutions, the pieces of the parts so far are done, and whether one of them
-- has a cut piece is known
abbrev pub invariant-loop-part : goal.invariant-loop-part
invariant-loop-part l = record {
  same_instance : l.into.problem ≡ l.initial.into.problem;
  solutions : AreSolutions l.initial.into.problem (l.initial.into.held ∷ map (λ part. part.best.held) (take l.part-index l.parts));
  first : IsFirst (l.initial.into.held ∷ map (λ part. part.best.held) (take l.part-index l.parts)) l.into.held;
  done : All AreDone (take l.part-index l.parts);
  cut : IsTrue l.cut ↔ Any (λ (part : PartView). part.cut ≢ []) (take l.part-index l.parts);
}

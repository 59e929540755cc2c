-- The answer of a task that claims no pieces, as that of one that may.
use Rattle.std.proofs.Common.{◌≡◌, ℕ, List, Bool, true, false, Option, Err, IfOk, Ok, Result, refl, subst, sym}
use Rattle.pb_cubes.specs.Pieces.{CubeList}
use Rattle.pb_inst.specs.Incumbent.{Solution}
use Rattle.pb_inst.specs.Problem.{Problem}
use Rattle.pb_workers.specs.Dealing.{TaskView, IsAnswerOfTask}

pub may_claim : (p : Problem) (pieces : CubeList) (number tasks : ℕ) (claims : Bool) (done cut : List ℕ) (held : Option Solution)
    → IsAnswerOfTask p pieces (record { number = number; tasks = tasks; claims = false }) done cut held
    → IsAnswerOfTask p pieces (record { number = number; tasks = tasks; claims = claims }) done cut held
may_claim p pieces number tasks claims done cut held answer = record {
  named = record { at_most_once = answer.named.at_most_once; dealt = λ _. answer.named.dealt refl };
  solution = answer.solution;
  are_done = answer.are_done;
}

pub claims_as : (p : Problem) (pieces : CubeList) (number tasks : ℕ) (claims : Bool) (done cut : List ℕ) (held : Option Solution) → claims ≡ true
    → IsAnswerOfTask p pieces (record { number = number; tasks = tasks; claims = true }) done cut held
    → IsAnswerOfTask p pieces (record { number = number; tasks = tasks; claims = claims }) done cut held
claims_as p pieces number tasks claims done cut held is answer =
    subst (λ (b : Bool). IsAnswerOfTask p pieces (record { number = number; tasks = tasks; claims = b }) done cut held) (sym is) answer

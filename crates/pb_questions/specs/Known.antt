-- Answers that are known from earlier questions.
use Rattle.std.specs.Prelude.{◌≡◌, Bool, List, length, ⊤}
use Rattle.pb_inst.specs.Literal.{Literal}
use Rattle.pb_inst.specs.Problem.{Problem}
use Rattle.pb_questions.specs.declared.known.Kind.{Kind}
use Rattle.pb_questions.specs.declared.known.KnownAnswer.{KnownAnswer}
use Rattle.pb_questions.specs.declared.known.KnownAnswers.{KnownAnswers}
use Rattle.pb_questions.specs.Under.{IsInfeasibleUnder, IsLeastUnder}

-- what is told of assumptions: the values are the least assignment under them, or nothing is feasible under them
abbrev pub Tells : Problem → List Literal → List Bool → Kind → Type 0
Tells p assumed values Kind.Open = ⊤
Tells p assumed values Kind.Least = IsLeastUnder p assumed values
Tells p assumed values Kind.Infeasible = IsInfeasibleUnder p assumed

-- the answer is one to a question on the instance
pub record IsAnswerOf (p : Problem) (known : KnownAnswer) : Type 0 where
  pub for_all_variables : length known.values ≡ p.vars
  pub tells : Tells p known.literals.items known.values known.kind

-- both answers are
pub record AreAnswersOf (p : Problem) (known : KnownAnswers) : Type 0 where
  pub first : IsAnswerOf p known.first
  pub last : IsAnswerOf p known.last

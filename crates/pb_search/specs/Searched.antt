-- What a search asks for, and what it leaves.
use Rattle.std.specs.Prelude.{◌≡◌, ◌⊎◌, ◌≤◌, ℕ, Bool, false, List, [], ◌∷◌, All, Option, None, Some, IsSomeAnd}
use Rattle.pb_inst.specs.Literal.{Literal}
use Rattle.pb_inst.specs.Problem.{Problem}
use Rattle.pb_inst.specs.Incumbent.{Incumbent}
use Rattle.pb_inst.specs.Cubes.{MakesTrue}
use Rattle.pb_inst.specs.declared.limits.TheConstants.{MAX_VARS}
use Rattle.pb_normal.specs.NormalForm.{NormalForm}
use Rattle.pb_cubes.specs.Pieces.{LiesIn}
use Rattle.pb_cubes.specs.Done.{Division, IsDone}
use Rattle.pb_control.specs.declared.goal.Goal.{Goal}
use Rattle.pb_subtree.specs.declared.outcome.Outcome.{Outcome}
use Rattle.pb_subtree.specs.declared.outcome.Outcome.TheVariants.{Whole, Cut}
use Rattle.pb_control.specs.Goal.{IsMet}
use Rattle.pb_subtree.specs.Held.{IsNotAfter}
use Rattle.pb_control.specs.Budget.{IsLeftOf}
use Rattle.pb_search.specs.Form.{IsFormOf}

-- a search over the form may go below the cube: it is a form of the instance, which has as few variables as one may have, and the
-- cube's literals are of these
pub record MaySearchUnder (p : Problem) (form : NormalForm) (cube : List Literal) : Type 0 where
  pub form_of : IsFormOf p form
  pub few : form.vars ≤ MAX_VARS
  pub variables : All (λ l. l.var ≤ form.vars) cube

-- How a search below the cube ended, beside a share that lends or not. With what is held at the end the cube's piece is done, or it was
-- cut: nothing is left of the decisions that were allowed, or the goal is met.
pub record IsSearchedUnder (cube : List Literal) (goal : Goal) (lends : Bool) (old new : Incumbent) (allowed left : Option ℕ) (outcome : Outcome) : Type 0 where
  pub done : outcome ≡ Whole → IsDone (record { problem = old.problem; cubes = cube ∷ [] }) 0 new.held
  pub cut : outcome ≡ Cut → (left ≡ Some 0) ⊎ IsMet goal new.held
  pub budget : IsLeftOf allowed left
  pub not_after : IsNotAfter old.problem old.held new.held
  pub own : lends ≡ false → (new ≡ old) ⊎ IsSomeAnd new.held (λ s. MakesTrue s.assignment cube)
  pub same_instance : new.problem ≡ old.problem

-- The same of a search of a piece for the least assignment, which is cut by its budget alone where no turns are counted.
pub record IsPieceSearched (d : Division) (piece : ℕ) (lends : Bool) (turns : Option ℕ) (old new : Incumbent) (allowed left : Option ℕ) (outcome : Outcome) : Type 0 where
  pub done : outcome ≡ Whole → IsDone d piece new.held
  pub used_up : turns ≡ None → outcome ≡ Cut → left ≡ Some 0
  pub budget : IsLeftOf allowed left
  pub not_after : IsNotAfter d.problem old.held new.held
  pub own : lends ≡ false → (new ≡ old) ⊎ IsSomeAnd new.held (λ s. LiesIn d.cubes piece s.assignment)
  pub same_instance : new.problem ≡ old.problem

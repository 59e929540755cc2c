-- Clauses of two literals, cliques among them, and instances that say the same.
use Rattle.std.specs.Prelude.{◌≡◌, ◌↔◌, ◌+◌, ◌≤◌, Bool, List, length, map, All, AllPairs, pos, ◌-ℤ◌}
use Rattle.pb_inst.specs.Constraints.{unit_term}
use Rattle.pb_inst.specs.Literal.{Literal}
use Rattle.pb_inst.specs.Meaning.{literal_value, IsFeasible, Meets}
use Rattle.pb_inst.specs.Problem.{LinearConstraint, Problem}
use Rattle.pb_inst.specs.declared.constraints.Relation.TheVariants.{AtLeast}

-- one of the two literals is true
abbrev pub IsOneTrue : List Bool → Literal → Literal → Type 0
IsOneTrue a l m = 1 ≤ literal_value a l + literal_value a m

-- the constraint says that one of the two literals is true, and no more
unfoldable pub IsClauseOf : Literal → Literal → LinearConstraint → Type 0
IsClauseOf l m c = (a : List Bool) → Meets a c ↔ IsOneTrue a l m

-- each feasible assignment makes one of the two literals true
unfoldable pub Covers : Problem → Literal → Literal → Type 0
Covers p l m = (a : List Bool) → IsFeasible p a → IsOneTrue a l m

-- a clique: of any two of the literals each feasible assignment makes one true
abbrev pub IsClique : Problem → List Literal → Type 0
IsClique p lits = AllPairs (Covers p) lits

-- all of the literals but one are true
abbrev pub all_but_one : List Literal → LinearConstraint
all_but_one lits = record { terms = map unit_term lits; relation = AtLeast; bound = pos (length lits) -ℤ pos 1 }

-- the assignment meets what the cliques say
abbrev pub MeetsCliques : List Bool → List (List Literal) → Type 0
MeetsCliques a cliques = All (λ lits. Meets a (all_but_one lits)) cliques

-- whoever meets what the cliques say meets the constraint
unfoldable pub FollowsFrom : List (List Literal) → LinearConstraint → Type 0
FollowsFrom cliques c = (a : List Bool) → MeetsCliques a cliques → Meets a c

-- The kept ones of the constraints say the same as all of them, where the cliques' say is met.
pub record Keeps (cliques : List (List Literal)) (all kept : List LinearConstraint) : Type 0 where
  pub sound : (a : List Bool) → All (Meets a) all → All (Meets a) kept
  pub whole : (a : List Bool) → All (Meets a) kept → MeetsCliques a cliques → All (Meets a) all

-- both have the same variables, the same objective and the same feasible assignments
pub record SaysTheSame (p q : Problem) : Type 0 where
  pub vars : q.vars ≡ p.vars
  pub objective : q.objective ≡ p.objective
  pub feasible : (a : List Bool) → IsFeasible q a ↔ IsFeasible p a

-- What the builder of OPB has made of the statements so far.
use Rattle.std.specs.Prelude.{ℕ, ◌≡◌, ◌==◌, Bool, List, [], ◌∷◌, ◌++◌, Option, None, Some, length, map, flat_map, unwrap_or, pos, neg_ℤ, ℤ, if◌then◌else◌}
use Rattle.pb_inst.specs.declared.constraints.Term.{Term}
use Rattle.pb_inst.specs.Problem.{LinearConstraint, Statements}
use Rattle.pb_read.specs.Terms.{greatest_index}
use Rattle.pb_read.specs.Opb.{Token, objective_tokens, constraint_tokens}
use Rattle.pb_inst.specs.declared.faults.InstFault.{InstFault}
use Rattle.pb_inst.specs.declared.faults.InstFault.TheVariants as faults
use Rattle.pb_read.specs.declared.fault.ReadKind.{ReadKind}
use Rattle.pb_read.specs.declared.fault.ReadKind.TheVariants.{BadVariable, TooLarge, TooMany}
use Rattle.pb_read.specs.declared.opb.builder.StatementError.{StatementError}
use Rattle.pb_read.specs.declared.opb.builder.StatementError.TheVariants.{Memory, Fault}
use Rattle.pb_read.specs.Refusal.{first_kind}

abbrev pub objective_part : Option (List Term) → List (List Token)
objective_part None = []
objective_part (Some ts) = objective_tokens ts ∷ []

-- the statements that spell an objective and constraints
abbrev pub statements_of : Option (List Term) → List LinearConstraint → List (List Token)
statements_of o cs = objective_part o ++ map constraint_tokens cs

abbrev pub terms_of : Option (List Term) → List LinearConstraint → List Term
terms_of o cs = unwrap_or o [] ++ flat_map (λ (c : LinearConstraint). c.terms) cs

-- The builder has the statements, knows the greatest index in them, and whether there are any.
pub record HasBuilt (built : Statements) (greatest : ℕ) (is_empty : Bool) (earlier : List (List Token)) : Type 0 where
  pub same : earlier ≡ statements_of built.objective built.constraints
  pub index : greatest ≡ greatest_index (terms_of built.objective built.constraints)
  pub empty : is_empty ≡ (length earlier == 0)

-- a number of this size with or without a minus sign
abbrev pub signed : Bool → ℕ → ℤ
signed negative size = if negative then neg_ℤ (pos size) else pos size

-- the first of the two faults of amount
abbrev pub amount_kind : Bool → Bool → Option ReadKind
amount_kind large many = first_kind ((TooLarge, large) ∷ (TooMany, many) ∷ [])

abbrev pub statement_error : InstFault → StatementError
statement_error faults.BadVariable = Fault BadVariable
statement_error faults.TooLarge = Fault TooLarge
statement_error faults.TooMany = Fault TooMany
statement_error faults.Memory = Memory

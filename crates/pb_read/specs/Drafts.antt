-- What a reader keeps of the tokens of a statement that has begun.
use Rattle.std.specs.Prelude.{ℕ, ℤ, pos, unsigned_abs, ◌+◌, Bool, false, not, ◌&&◌, ◌||◌, nat_lt, if◌then◌else◌, List, [], ◌∷◌, ◌++◌, Option, None, Some, fold}
use Rattle.pb_inst.specs.Literal.{Literal}
use Rattle.pb_inst.specs.declared.constraints.Term.{Term}
use Rattle.pb_inst.specs.declared.constraints.Relation.{Relation}
use Rattle.pb_inst.specs.declared.constraints.Relation.TheVariants.{Equal}
use Rattle.pb_inst.specs.declared.limits.TheConstants.{SUM_BOUND}
use Rattle.pb_read.specs.declared.fault.ReadKind.TheVariants.{LateObjective, Syntax, NonLinear, BadVariable}
use Rattle.pb_read.specs.declared.opb.form.Place.{Place}
use Rattle.pb_read.specs.declared.opb.form.Place.TheVariants.{Start}
use Rattle.pb_read.specs.Refusal.{Faults}
use Rattle.pb_read.specs.Opb.{Token, Number, Lit, Related, is_min, is_literal, has_bad_index, size}
use Rattle.pb_read.specs.Capped.{cap}
use Rattle.pb_read.specs.Places.{next_place, is_whole, is_start}

-- Where its tokens lead, whether `min:` comes first, whether the last token is a literal, whether two literals are neighbours
-- and whether an index is out of range; the sum of its numbers, its last number and relation, and its terms.
pub record Gathered : Type 0 where
  pub place : Place
  pub is_objective : Bool
  pub after_literal : Bool
  pub has_product : Bool
  pub has_bad_index : Bool
  pub sum : ℕ
  pub number : ℤ
  pub relation : Relation
  pub terms : List Term

-- the number, or 0 where it is over the bound on sums
abbrev pub within_bound : ℤ → ℤ
within_bound n = if nat_lt SUM_BOUND (unsigned_abs n) then pos 0 else n

abbrev pub number_after : ℤ → Token → ℤ
number_after before (Number n) = within_bound n
number_after before t = before

abbrev pub relation_after : Relation → Token → Relation
relation_after before (Related r) = r
relation_after before t = before

-- the literal of a token, where its index is in range
abbrev pub good_literal : Token → Option Literal
good_literal (Lit l) = if has_bad_index (Lit l) then None else Some l
good_literal t = None

-- a term of the number for the literal
abbrev pub with_literal : ℤ → List Term → Option Literal → List Term
with_literal n ts None = ts
with_literal n ts (Some l) = ts ++ record { coef = n; lit = l } ∷ []

abbrev pub gather : Gathered → Token → Gathered
gather d t = record {
  place = next_place d.place t;
  is_objective = d.is_objective || (is_start d.place && is_min t);
  after_literal = is_literal t;
  has_product = d.has_product || (d.after_literal && is_literal t);
  has_bad_index = d.has_bad_index || has_bad_index t;
  sum = cap (d.sum + size t);
  number = number_after d.number t;
  relation = relation_after d.relation t;
  terms = with_literal d.number d.terms (good_literal t);
}

-- nothing was gathered
abbrev pub blank_draft : Gathered
blank_draft = record { place = Start; is_objective = false; after_literal = false; has_product = false; has_bad_index = false; sum = 0; number = pos 0; relation = Equal; terms = [] }

-- what is gathered of the tokens
unfoldable pub gathered : List Token → Gathered
gathered ts = fold gather blank_draft ts

-- the faults of form, in order
abbrev pub draft_faults : Bool → Gathered → Faults
draft_faults first d =
    (LateObjective, d.is_objective && not first)
    ∷ (Syntax, not (is_whole d.place))
    ∷ (NonLinear, d.has_product)
    ∷ (BadVariable, d.has_bad_index)
    ∷ []

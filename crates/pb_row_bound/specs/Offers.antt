-- The costly literals of a row.
use Rattle.std.specs.Prelude.{ℕ, ◌+◌, ◌*◌, Bool, not, ◌&&◌, List, Option, Some, None, max, min, nat_lt, if◌then◌else◌}
use Rattle.std.specs.Int.{div_ceil}
use Rattle.pb_inst.specs.Literal.{Literal}
use Rattle.pb_normal.specs.declared.terms.PositiveTerm.{PositiveTerm}
use Rattle.pb_normal.specs.NormalForm.{total_coefficient}
use Rattle.pb_row_bound.specs.DisjointRows.{has_cost, is_free, costly, greatest, cheapest, is_marked}
use Rattle.pb_normal.specs.Literals.{weight_of}

-- the sum and the greatest of the coefficients of costly literals, and the least cost of one of them, or `start` where no cost
-- is less
pub record Offer : Type 0 where
  pub total : ℕ
  pub greatest : ℕ
  pub cheapest : ℕ

abbrev pub no_offer : ℕ → Offer
no_offer start = record { total = 0; greatest = 0; cheapest = start }

abbrev pub offer_with : Offer → ℕ → ℕ → Offer
offer_with offer coef cost = record { total = offer.total + coef; greatest = max offer.greatest coef; cheapest = min offer.cheapest cost }

-- what these costly literals are
abbrev pub offer_by : ℕ → List PositiveTerm → List PositiveTerm → Offer
offer_by start objective terms = record { total = total_coefficient terms; greatest = greatest terms; cheapest = cheapest objective start terms }

-- what the costly literals of the terms are
abbrev pub offer_of : ℕ → List PositiveTerm → List Literal → List PositiveTerm → Offer
offer_of start objective trail terms = offer_by start objective (costly objective trail terms)

-- with one more term, or none where its variable has no value and is marked
abbrev pub offer_joined : List PositiveTerm → List Literal → List Bool → Offer → PositiveTerm → Option Offer
offer_joined objective trail marks offer t =
    if is_free trail t.lit then (if is_marked marks t.lit then None else (if has_cost objective t.lit then Some (offer_with offer t.coef (weight_of t.lit objective)) else Some offer)) else Some offer

abbrev pub contribution_in : Offer → ℕ → ℕ
contribution_in offer needed = if nat_lt 0 needed && not (nat_lt offer.total needed) then div_ceil needed offer.greatest * offer.cheapest else 0

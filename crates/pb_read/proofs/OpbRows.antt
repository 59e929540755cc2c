-- What the definitions say of worked texts.
use Rattle.std.proofs.Common.{◌≡◌, ℕ, refl, List, [], ◌∷◌, ◌++◌, Option, Some, None, codes, map, true, pos, ℤ, replicate}
use Rattle.pb_read.specs.declared.fault.ReadKind.TheVariants.{NonLinear, TooLarge, TooMany}
use Rattle.pb_read.specs.declared.fault.ReadKind.{ReadKind}
use Rattle.pb_read.specs.declared.fault.ReadFault.{ReadFault}
use Rattle.pb_inst.specs.declared.constraints.Relation.TheVariants.{AtLeast}
use Rattle.pb_read.specs.Text.{Placed}
use Rattle.pb_inst.specs.declared.constraints.Term.{Term}
use Rattle.pb_inst.specs.Problem.{Problem}
use Rattle.pb_read.specs.Terms.{greatest_index, all_terms}
use Rattle.pb_read.specs.Opb.{Token, opb_refusal, tokens, token_of, statement_faults, header, instance_tokens}
use Rattle.std.specs.Prelude.{max}

abbrev at : ReadKind → ℕ → Option ReadFault
at kind n = Some (record { kind = kind; line = n })

abbrev lf : List ℕ
lf = 10 ∷ []

-- a term of a variable
abbrev t : ℤ → ℕ → Term
t c v = record { coef = c; lit = record { positive = true; var = v } }

-- not refused, and spells the instance
abbrev Reads : List ℕ → Problem → Type 0
Reads text i = (opb_refusal text ≡ None) × (map (λ (x : Placed Token). x.item) (tokens text) ≡ instance_tokens i) × (i.vars ≡ max (header text) (greatest_index (all_terms i)))

two_rows_with_header : Reads (codes "* #variable= 3 #constraint= 2" ++ lf ++ codes "min: 2 x1 3 x2 1 x3 ;" ++ lf ++ codes "1 x1 1 x2 >= 1 ;" ++ lf ++ codes "1 x2 1 x3 >= 1 ;" ++ lf)
    (record {
      vars = 3;
      objective = Some (t (pos 2) 1 ∷ t (pos 3) 2 ∷ t (pos 1) 3 ∷ []);
      constraints =
          record { terms = t (pos 1) 1 ∷ t (pos 1) 2 ∷ []; relation = AtLeast; bound = pos 1 }
          ∷ record { terms = t (pos 1) 2 ∷ t (pos 1) 3 ∷ []; relation = AtLeast; bound = pos 1 } ∷ [];
    })
unfolding opb_refusal tokens token_of statement_faults
two_rows_with_header = (refl, refl, refl)

comment_inside : Reads (codes "1 x1" ++ lf ++ codes "* a note" ++ lf ++ codes "1 x2 >= 2 ;" ++ lf) (record { vars = 2; objective = None; constraints = record { terms = t (pos 1) 1 ∷ t (pos 1) 2 ∷ []; relation = AtLeast; bound = pos 2 } ∷ [] })
unfolding opb_refusal tokens token_of statement_faults
comment_inside = (refl, refl, refl)

header_over : opb_refusal (codes "* #variable= 1048577 #constraint= 0" ++ lf) ≡ at TooMany 1
unfolding opb_refusal tokens token_of statement_faults
header_over = refl

carriage_returns : Reads (codes "min: +1 x1 +2 x2 ;" ++ 13 ∷ lf ++ codes "+1 x1 +1 x2 >= +1 ;" ++ 13 ∷ lf)
    (record { vars = 2; objective = Some (t (pos 1) 1 ∷ t (pos 2) 2 ∷ []); constraints = record { terms = t (pos 1) 1 ∷ t (pos 1) 2 ∷ []; relation = AtLeast; bound = pos 1 } ∷ [] })
unfolding opb_refusal tokens token_of statement_faults
carriage_returns = (refl, refl, refl)

product_before_unfinished : opb_refusal (codes "1 x1 >= 1 ;" ++ lf ++ codes "1 x1 x2 >= 1 ; 1 x0" ++ lf) ≡ at NonLinear 2
unfolding opb_refusal tokens token_of statement_faults
product_before_unfinished = refl

forty_nines : opb_refusal (codes "1 x1 >= " ++ replicate 40 57 ++ codes " ;" ++ lf) ≡ at TooLarge 1
unfolding opb_refusal tokens token_of statement_faults
forty_nines = refl

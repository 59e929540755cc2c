-- The texts that are written: one spelling of each statement of OPB, and of each clause of CNF.
-- Source: [OPB], [DIMACS]
use Rattle.std.specs.Prelude.{ℕ, List, [], ◌++◌, length, flat_map, Option, codes, decimal, if◌then◌else◌}
use Rattle.std.specs.Option.{option_map_or}
use Rattle.std.specs.Fmt.{signed_decimal}
use Rattle.pb_inst.specs.declared.constraints.Term.{Term}
use Rattle.pb_inst.specs.declared.constraints.Relation.{Relation}
use Rattle.pb_inst.specs.declared.constraints.Relation.TheVariants.{AtLeast, AtMost, Equal}
use Rattle.pb_inst.specs.Constraints.{unit_term}
use Rattle.pb_inst.specs.Literal.{Literal}
use Rattle.pb_inst.specs.Problem.{LinearConstraint, Problem}
use Rattle.pb_read.specs.declared.format.Format.{Format}
use Rattle.pb_read.specs.Format.{is_clausal}
use Rattle.pb_write.specs.Written.{literals_of}
use Rattle.pb_write.specs.Pieces.{with_clauses}
use Rattle.pb_write.specs.Turned.{written_constraint}

-- ---- OPB

-- `x3` or `~x3`
abbrev pub opb_literal : Literal → List ℕ
opb_literal l = (if l.positive then codes "x" else codes "~x") ++ decimal l.var

-- the coefficient and the literal, each with a space behind it
abbrev pub term_text : Term → List ℕ
term_text t = signed_decimal t.coef ++ codes " " ++ opb_literal t.lit ++ codes " "

abbrev pub terms_text : List Term → List ℕ
terms_text ts = flat_map term_text ts

-- `<=` comes into no text, since a constraint with `<=` is turned
abbrev pub relation_text : Relation → List ℕ
relation_text AtLeast = codes ">="
relation_text AtMost = codes "<="
relation_text Equal = codes "="

-- terms, relation, bound and `;`
abbrev pub constraint_line : LinearConstraint → List ℕ
constraint_line c = terms_text c.terms ++ relation_text c.relation ++ codes " " ++ signed_decimal c.bound ++ codes " ;\n"

-- `min:` terms `;`
abbrev pub objective_line : List Term → List ℕ
objective_line ts = codes "min: " ++ terms_text ts ++ codes ";\n"

-- ---- CNF

-- `3` or `-3`, with a space behind it
abbrev pub cnf_literal : Literal → List ℕ
cnf_literal l = (if l.positive then [] else codes "-") ++ decimal l.var ++ codes " "

-- ---- both

-- a clause as the format writes it: in OPB each literal once, with the coefficient 1
abbrev pub clause_literal : Format → Literal → List ℕ
clause_literal format l = if is_clausal format then cnf_literal l else term_text (unit_term l)

abbrev pub clause_end : Format → List ℕ
clause_end format = if is_clausal format then codes "0\n" else codes ">= 1 ;\n"

abbrev pub clause_text : Format → List Literal → List ℕ
clause_text format lits = flat_map (clause_literal format) lits ++ clause_end format

abbrev pub constraint_text : Format → LinearConstraint → List ℕ
constraint_text format c = if is_clausal format then clause_text format (literals_of c) else constraint_line (written_constraint c)

-- `* #variable= N #constraint= M`, or `p cnf N M`
abbrev pub header_start : Format → List ℕ
header_start format = if is_clausal format then codes "p cnf " else codes "* #variable= "

abbrev pub header_middle : Format → List ℕ
header_middle format = if is_clausal format then codes " " else codes " #constraint= "

abbrev pub header_text : Format → ℕ → ℕ → List ℕ
header_text format vars constraints = header_start format ++ decimal vars ++ header_middle format ++ decimal constraints ++ codes "\n"

abbrev pub objective_text : Option (List Term) → List ℕ
objective_text objective = option_map_or objective_line objective []

-- the instance, under a header that counts the clauses behind it too, and these clauses
abbrev pub text_with_clauses : Format → Problem → List (List Literal) → List ℕ
text_with_clauses format p clauses =
    header_text format p.vars (length (with_clauses p clauses).constraints) ++ objective_text p.objective ++ flat_map (constraint_text format) p.constraints ++ flat_map (clause_text format) clauses

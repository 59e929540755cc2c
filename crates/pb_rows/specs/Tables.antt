-- Rows of a normal form and clauses of cubes as one list of rows.
use Rattle.std.specs.Prelude.{◌≡◌, ◌++◌, List, length, map}
use Rattle.pb_normal.specs.declared.terms.PositiveTerm.{PositiveTerm}
use Rattle.pb_rows.specs.Clauses.{unit_term}
use Rattle.pb_rows.specs.declared.tables.RowTerms.{RowTerms}
use Rattle.pb_rows.specs.declared.tables.RowTerms.TheVariants.{Weighted, Units}
use Rattle.pb_rows.specs.Constraints.{Constraints}
use Rattle.pb_rows.specs.Table.{FormRows, ClauseRows}

-- the rows of the form, and the clauses after them
abbrev pub constraints_of : FormRows → ClauseRows → Constraints
constraints_of rows clauses = record {
  form = rows.form;
  vars = rows.form.vars;
  rows = rows.form.rows ++ clauses.rows;
  occurrences = rows.occurrences;
  starts = rows.starts;
  units = clauses.occurrences;
  unit_starts = clauses.starts;
}

-- the clauses are over the form's variables and are numbered on from its rows
pub record AreBeside (rows : FormRows) (clauses : ClauseRows) : Type 0 where
  pub variables : clauses.vars ≡ rows.form.vars
  pub numbers : clauses.first ≡ length rows.form.rows

-- the terms of a row, and those of a clause's literals
abbrev pub terms_in : {C : Type 0} → RowTerms C → List PositiveTerm
terms_in (Weighted terms) = terms.now
terms_in (Units lits) = map unit_term lits.now

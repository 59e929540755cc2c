-- The text that is written spells the instance with the piece's clauses.
use Rattle.std.proofs.Common.{◌≡◌, ℕ, List, [], ◌∷◌, ◌++◌, map, length, codes, append_assoc, refl, sym, ap, subst, ◌∙◌, arith, All}
use Rattle.std.specs.Prelude.{flat_map}
use Rattle.std.proofs.lemmas.Fmt.{decimal_digit}
use Rattle.std.proofs.lemmas.Grind.{flat_map-append}
use Rattle.std.proofs.lemmas.List.{length-map}
use Rattle.std.proofs.lemmas.List.Elements.{All-append, All-map}
use Rattle.std.proofs.lemmas.List.Folds.{flat_map-map}
use Rattle.pb_inst.specs.Constraints.{unit_term, clause_constraint}
use Rattle.pb_inst.specs.Limits.{IsProper}
use Rattle.pb_inst.specs.Literal.{Literal}
use Rattle.pb_inst.specs.Problem.{Problem}
use Rattle.pb_read.specs.declared.format.Format.{Format}
use Rattle.pb_read.specs.declared.format.Format.TheVariants.{Opb, Cnf, Icnf}
use Rattle.pb_cubes.specs.Pieces.{AreWithin}
use Rattle.pb_read.specs.Opb.{OpbText}
use Rattle.pb_read.specs.Cnf.{CnfText}
use Rattle.pb_read.specs.Format.{Spells}
use Rattle.pb_write.specs.Pieces.{with_clauses, KeepsCounts}
use Rattle.pb_write.specs.Text.{term_text, constraint_line, header_text, objective_text, constraint_text, clause_text, text_with_clauses}
use Rattle.pb_write.specs.Turned.{written_constraint, written_problem}
use Rattle.pb_write.specs.Written.{literals_of, IsClause, AreClauses, HasText, HaveVariables, written_format}
use Rattle.pb_write.proofs.Limits.{with_clauses_proper}
use Rattle.pb_write.proofs.OpbSpelled.{opb_text, opb_spelled}
use Rattle.pb_write.proofs.CnfSpelled.{cnf_spelled}
use Rattle.pb_write.proofs.Turned.{written_proper, clausal_kept}

-- ---- clauses are constraints

literals_back : (lits : List Literal) → literals_of (clause_constraint lits) ≡ lits
literals_back [] = refl
literals_back (l ∷ lits) = ap (λ (x : List Literal). l ∷ x) (literals_back lits)

end_regrouped : (ts : List ℕ) → (((ts ++ codes ">=") ++ codes " ") ++ codes "1") ++ codes " ;\n" ≡ ts ++ codes ">= 1 ;\n"
end_regrouped ts = simp append_assoc

clause_as_constraint : (f : Format) (lits : List Literal) → clause_text f lits ≡ constraint_text f (clause_constraint lits)
clause_as_constraint Opb lits =
    ap (λ (ts : List ℕ). ts ++ codes ">= 1 ;\n") (sym (flat_map-map term_text unit_term lits))
    ∙ sym (end_regrouped (flat_map term_text (map unit_term lits)))
    ∙ ap (λ (one : List ℕ). (((flat_map term_text (map unit_term lits) ++ codes ">=") ++ codes " ") ++ one) ++ codes " ;\n") (sym (decimal_digit 1 (omega arith)))
clause_as_constraint Cnf lits = ap (clause_text Cnf) (sym (literals_back lits))
clause_as_constraint Icnf lits = ap (clause_text Cnf) (sym (literals_back lits))

clauses_as_constraints : (f : Format) (clauses : List (List Literal)) → flat_map (clause_text f) clauses ≡ flat_map (constraint_text f) (map clause_constraint clauses)
clauses_as_constraints f [] = refl
clauses_as_constraints f (lits ∷ clauses) =
    ap (λ (x : List ℕ). x ++ flat_map (clause_text f) clauses) (clause_as_constraint f lits)
    ∙ ap (λ (x : List ℕ). constraint_text f (clause_constraint lits) ++ x) (clauses_as_constraints f clauses)

-- the text of an instance
abbrev problem_text : Format → Problem → List ℕ
problem_text f p = header_text f p.vars (length p.constraints) ++ objective_text p.objective ++ flat_map (constraint_text f) p.constraints

text_of_whole : (f : Format) (p : Problem) (clauses : List (List Literal)) → text_with_clauses f p clauses ≡ problem_text f (with_clauses p clauses)
text_of_whole f p clauses =
    let front = header_text f p.vars (length (with_clauses p clauses).constraints) ++ objective_text p.objective in
    append_assoc front (flat_map (constraint_text f) p.constraints) (flat_map (clause_text f) clauses)
    ∙ ap (λ (x : List ℕ). front ++ x) (ap (λ (x : List ℕ). flat_map (constraint_text f) p.constraints ++ x) (clauses_as_constraints f clauses) ∙ sym (flat_map-append (constraint_text f) p.constraints (map clause_constraint clauses)))

-- in OPB it is that of the instance as it is written
text_as_written : (p : Problem) → problem_text Opb p ≡ opb_text (written_problem p)
text_as_written p =
    ap (λ (rows : List ℕ). header_text Opb p.vars (length p.constraints) ++ objective_text p.objective ++ rows) (sym (flat_map-map constraint_line written_constraint p.constraints))
    ∙ ap (λ (n : ℕ). header_text Opb p.vars n ++ objective_text p.objective ++ flat_map constraint_line (map written_constraint p.constraints)) (sym (length-map p.constraints written_constraint))

-- ---- the whole

all_clauses : (clauses : List (List Literal)) → All IsClause (map clause_constraint clauses)
all_clauses clauses = All-map IsClause clause_constraint clauses (λ k d within. ap clause_constraint (sym (literals_back _)))

still_clauses : (p : Problem) (clauses : List (List Literal)) → AreClauses p → AreClauses (with_clauses p clauses)
still_clauses p clauses h = record {
  no_objective = h.no_objective;
  clauses = All-append IsClause p.constraints (map clause_constraint clauses) h.clauses (all_clauses clauses);
}

pub spelled : (f : Format) (p : Problem) (clauses : List (List Literal)) → HasText f p → IsProper p → KeepsCounts (with_clauses p clauses) → HaveVariables clauses → AreWithin p.vars clauses
    → Spells (written_format f) (text_with_clauses f p clauses) (written_problem (with_clauses p clauses)) []
spelled f p clauses form proper counts variables within =
    by f form (with_clauses_proper p clauses proper counts variables within)
  where
    clausal : AreClauses p → IsProper (with_clauses p clauses) → CnfText (problem_text Cnf (with_clauses p clauses)) (written_problem (with_clauses p clauses))
    clausal are proper =
        let still = still_clauses p clauses are in
        subst (λ q. CnfText (problem_text Cnf (with_clauses p clauses)) q) (sym (clausal_kept (with_clauses p clauses) still.clauses)) (cnf_spelled (with_clauses p clauses) proper still)

    by : (f : Format) → HasText f p → IsProper (with_clauses p clauses) → Spells (written_format f) (text_with_clauses f p clauses) (written_problem (with_clauses p clauses)) []
    by Opb form proper = (
      subst (λ t. OpbText t (written_problem (with_clauses p clauses))) (sym (text_of_whole Opb p clauses ∙ text_as_written (with_clauses p clauses)))
          (opb_spelled (written_problem (with_clauses p clauses)) (written_proper (with_clauses p clauses) proper)),
      refl,
    )
    by Cnf form proper = (subst (λ t. CnfText t (written_problem (with_clauses p clauses))) (sym (text_of_whole Cnf p clauses)) (clausal (form refl) proper), refl)
    by Icnf form proper = (subst (λ t. CnfText t (written_problem (with_clauses p clauses))) (sym (text_of_whole Icnf p clauses)) (clausal (form refl) proper), refl)

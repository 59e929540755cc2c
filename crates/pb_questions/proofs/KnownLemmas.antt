-- What answers to earlier questions tell of further ones.
use Rattle.std.proofs.Common.{◌≡◌, ◌≤◌, List, Bool, refl}
use Rattle.std.specs.Prelude.{All, Contains, slice_index_or}
use Rattle.std.proofs.lemmas.List.Elements.{All-contains}
use Rattle.pb_inst.specs.Literal.{Literal}
use Rattle.pb_inst.specs.Problem.{Problem}
use Rattle.pb_inst.specs.Meaning.{literal_value}
use Rattle.pb_inst.specs.Cubes.{MakesTrue}
use Rattle.pb_questions.specs.declared.known.Kind.{Kind}
use Rattle.pb_questions.specs.declared.known.Kind.TheVariants.{Open, Least, Infeasible}
use Rattle.pb_questions.specs.Known.{Tells}
use Rattle.pb_questions.specs.Under.{IsFeasibleUnder}

-- what is feasible under more assumptions is feasible under some of them
under_fewer : (p : Problem) (assumed cube : List Literal) (a : List Bool) → All (λ l. Contains cube l) assumed → IsFeasibleUnder p cube a → IsFeasibleUnder p assumed a
under_fewer p assumed cube a among h = record {
  for_all_variables = h.for_all_variables;
  feasible = h.feasible;
  meets = λ k d lt within. All-contains (λ l. l.var ≤ p.vars → literal_value a l ≡ 1) cube (slice_index_or assumed k d) h.meets (among k d lt) within;
}

-- so what is told under some is told under more, where the values make these true
pub tells_more : (p : Problem) (assumed cube : List Literal) (values : List Bool) (kind : Kind) → All (λ l. Contains cube l) assumed → (kind ≡ Least → MakesTrue values cube) → Tells p assumed values kind → Tells p cube values kind
tells_more p assumed cube values Open among meets h = tt
tells_more p assumed cube values Least among meets h = record {
  feasible = record {
    for_all_variables = h.feasible.for_all_variables;
    feasible = h.feasible.feasible;
    meets = λ k d lt within. meets refl k d lt;
  };
  first = λ b is. h.first b (under_fewer p assumed cube b among is);
}
tells_more p assumed cube values Infeasible among meets h = λ a is. h a (under_fewer p assumed cube a among is)

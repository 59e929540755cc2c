-- A text spells one instance with its cubes or has a refusal, by its format, and the cubes are of the instance's variables.
use Rattle.std.proofs.Common.{◌≡◌, ℕ, ◌≤◌, List, [], ◌∷◌, flat_map, max, All, None, sym, ap, subst, ◌∙◌, arith}
use Rattle.std.proofs.lemmas.List.Elements.{All-nil, All-cons}
use Rattle.pb_inst.specs.Literal.{Literal}
use Rattle.pb_inst.specs.Problem.{Problem}
use Rattle.pb_read.specs.declared.format.Format.{Format}
use Rattle.pb_read.specs.declared.format.Format.TheVariants.{Opb, Cnf, Icnf}
use Rattle.pb_read.specs.Clauses.{VarsUpTo, greatest_var}
use Rattle.pb_read.specs.Icnf.{IcnfText}
use Rattle.pb_read.specs.Format.{Spells, text_refusal}
use Rattle.pb_read.proofs.Limits.{all_front, all_back, all_of}
use Rattle.pb_read.proofs.IcnfReading.{up_to_greatest}
use Rattle.pb_read.proofs.OpbLaws as opb
use Rattle.pb_read.proofs.CnfLaws as cnf
use Rattle.pb_read.proofs.IcnfLaws as icnf

pub not_refused : (format : Format) (text : List ℕ) (p : Problem) (own : List (List Literal)) → Spells format text p own → text_refusal format text ≡ None
not_refused Opb text p own h = opb.not_refused text p h.0
not_refused Cnf text p own h = cnf.not_refused text p h.0
not_refused Icnf text p own h = icnf.not_refused text p own h

pub one_spelling : (format : Format) (text : List ℕ) (p q : Problem) (own own' : List (List Literal)) → Spells format text p own → Spells format text q own' → (p ≡ q) × (own ≡ own')
one_spelling Opb text p q own own' h k = (opb.one_instance text p q h.0 k.0, h.1 ∙ sym k.1)
one_spelling Cnf text p q own own' h k = (cnf.one text p q h.0 k.0, h.1 ∙ sym k.1)
one_spelling Icnf text p q own own' h k = icnf.one text p q own own' h k

-- what was read in a format is all that the text spells in it
pub only_one : (format format' : Format) (text : List ℕ) (p : Problem) (own : List (List Literal)) → format ≡ format' → Spells format' text p own
    → (i : Problem) (cubes : List (List Literal)) → Spells format text i cubes → (p ≡ i) × (own ≡ cubes)
only_one format format' text p own e h i cubes k = one_spelling format' text p i own cubes h (subst (λ f. Spells f text i cubes) e k)

abbrev IsUpTo : ℕ → Literal → Type 0
IsUpTo n l = l.var ≤ n

pub within_up_to : (n : ℕ) (cubes : List (List Literal)) → VarsUpTo n cubes → All (λ (cube : List Literal). All (IsUpTo n) cube) cubes
within_up_to n [] h = All-nil (λ (cube : List Literal). All (IsUpTo n) cube)
within_up_to n (cube ∷ cubes) h =
    All-cons (λ (cube : List Literal). All (IsUpTo n) cube) cube cubes
    (all_of (IsUpTo n) cube (all_front (IsUpTo n) cube (flat_map (λ c. c) cubes) h))
    (within_up_to n cubes (all_back (IsUpTo n) cube (flat_map (λ c. c) cubes) h))

-- the cubes of a text are of the instance's variables
pub own_within : (text : List ℕ) (p : Problem) (own : List (List Literal)) → IcnfText text p own → All (λ (cube : List Literal). All (IsUpTo p.vars) cube) own
own_within text p own h =
    let vars : p.vars ≡ max (greatest_var h.clauses) (greatest_var own) = ap (λ (q : Problem). q.vars) h.instance in
    within_up_to p.vars own (up_to_greatest p.vars own (omega (arith, vars)))

-- A text spells one instance or has a refusal, by its format; and a cube file likewise.
use Rattle.std.proofs.Common.{◌≡◌, ℕ, List, Option, None, Some, Result, Err, ap, sym, ◌∙◌}
use Rattle.std.specs.Prelude.{IfSome}
use Rattle.pb_inst.specs.Literal.{Literal}
use Rattle.pb_inst.specs.Problem.{Problem}
use Rattle.pb_read.specs.declared.fault.ReadFault.{ReadFault}
use Rattle.pb_read.proofs.OpbLaws as opb
use Rattle.pb_read.proofs.CnfLaws as cnf
use Rattle.pb_read.proofs.IcnfLaws as icnf
use Rattle.pb_read.proofs.CubeLaws as cube
use Rattle.pb_read.specs.declared.format.Format.{Format}
use Rattle.pb_read.specs.declared.format.Format.TheVariants.{Opb, Cnf, Icnf}
use Rattle.pb_read.specs.Format.{Spells, text_refusal}
use Rattle.pb_report.specs.declared.ends.Refusal.TheVariants as refusal
use Rattle.pb_solve.specs.declared.prepare.PrepareError.{PrepareError}
use Rattle.pb_solve.specs.declared.prepare.PrepareError.TheVariants.{ReadInput, ReadCubes, Memory, Refused}
use Rattle.pb_solve.specs.declared.prepare.Prepared.{Prepared}
use Rattle.pb_solve.specs.Run.{IsInputError, StopsAtFault}
use Rattle.pb_solve.specs.Texts.{SpellsCubes, cube_text_refusal}

not_refused : (format : Format) (text : List ℕ) (p : Problem) (input_cubes : List (List Literal)) → Spells format text p input_cubes → text_refusal format text ≡ None
not_refused Opb text p input_cubes h = opb.not_refused text p h.0
not_refused Cnf text p input_cubes h = cnf.not_refused text p h.0
not_refused Icnf text p input_cubes h = icnf.not_refused text p input_cubes h

-- what has a refusal spells nothing
pub not_both : (format : Format) (text : List ℕ) (p : Problem) (input_cubes : List (List Literal)) (fault : ReadFault) → Spells format text p input_cubes → text_refusal format text ≡ Some fault → ⊥
not_both format text p input_cubes fault h refused =
    let both : None ≡ Some fault = sym (not_refused format text p input_cubes h) ∙ refused in cc

-- the same where it is known what was read
pub spelled_not_refused : (X : ReadFault → Type 0) (format : Format) (input : Option (List ℕ)) (p : Problem) (input_cubes : List (List Literal)) → IfSome input (λ t. Spells format t p input_cubes) → IfSome input (λ t. (fault : ReadFault) → text_refusal format t ≡ Some fault → X fault)
spelled_not_refused X format None p input_cubes spells = tt
spelled_not_refused X format (Some ts) p input_cubes spells = λ fault refused. absurd (not_both format ts p input_cubes fault spells refused)

pub one_spelling : (format : Format) (text : List ℕ) (p q : Problem) (input_cubes input_cubes' : List (List Literal)) → Spells format text p input_cubes → Spells format text q input_cubes' → (p ≡ q) × (input_cubes ≡ input_cubes')
one_spelling Opb text p q input_cubes input_cubes' h k = (opb.one_instance text p q h.0 k.0, h.1 ∙ sym k.1)
one_spelling Cnf text p q input_cubes input_cubes' h k = (cnf.one text p q h.0 k.0, h.1 ∙ sym k.1)
one_spelling Icnf text p q input_cubes input_cubes' h k = icnf.one text p q input_cubes input_cubes' h k

pub same_fault : (o : Option ReadFault) (f g : ReadFault) → o ≡ Some f → o ≡ Some g → f ≡ g
same_fault o f g h k = let both : Some f ≡ Some g = sym h ∙ k in cc

-- what stops at an input that is refused stops at its fault
pub stops_at_fault : (format : Format) (input : Option (List ℕ)) (error : PrepareError) → IsInputError format input error → IfSome input (λ t. (fault : ReadFault) → text_refusal format t ≡ Some fault → StopsAtFault fault (Err error))
stops_at_fault format None error is = tt
stops_at_fault format (Some ts) ReadInput is = λ fault refused. tt
stops_at_fault format (Some ts) ReadCubes is = absurd is
stops_at_fault format (Some ts) Memory is = λ fault refused. tt
stops_at_fault format (Some ts) (Refused (refusal.Input found)) is = λ fault refused. ap refusal.Input (same_fault (text_refusal format ts) found fault is refused)
stops_at_fault format (Some ts) (Refused (refusal.Cubes found)) is = absurd is
stops_at_fault format (Some ts) (Refused refusal.Split) is = absurd is
stops_at_fault format (Some ts) (Refused refusal.TooManyCubes) is = absurd is

-- what holds where a run stops at the fault holds where the input is refused for it
pub where_refused : (X : ReadFault → Type 0) (format : Format) (input : Option (List ℕ)) (found : Result Prepared PrepareError) → IfSome input (λ t. (fault : ReadFault) → text_refusal format t ≡ Some fault → StopsAtFault fault found) → ((fault : ReadFault) → StopsAtFault fault found → X fault)
    → IfSome input (λ t. (fault : ReadFault) → text_refusal format t ≡ Some fault → X fault)
where_refused X format None found stops h = tt
where_refused X format (Some ts) found stops h = λ fault refused. h fault (stops fault refused)

-- the same of a cube file
pub cubes_not_both : (vars : ℕ) (text : List ℕ) (cubes : List (List Literal)) (fault : ReadFault) → SpellsCubes vars text cubes → cube_text_refusal vars text ≡ Some fault → ⊥
cubes_not_both vars text cubes fault h refused =
    let both : None ≡ Some fault = sym (cube.not_refused text vars cubes h) ∙ refused in cc

pub one_cube_list : (vars : ℕ) (text : List ℕ) (cubes cubes' : List (List Literal)) → SpellsCubes vars text cubes → SpellsCubes vars text cubes' → cubes ≡ cubes'
one_cube_list vars text cubes cubes' h k = cube.one text vars cubes cubes' h k

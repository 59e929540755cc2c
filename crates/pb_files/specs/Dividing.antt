-- What is read and divided, and what is refused of it.
use Rattle.std.specs.Prelude.{◌≡◌, ◌⊎◌, ℕ, ◌<◌, zero, suc, List, [], ◌++◌, length, Option, None, Some, ⊤}
use Rattle.sha2.specs.Sha256.{sha256}
use Rattle.pb_inst.specs.Literal.{Literal}
use Rattle.pb_inst.specs.Problem.{Problem}
use Rattle.pb_inst.specs.declared.limits.TheConstants.{MAX_CUBES, MAX_SPLIT}
use Rattle.pb_cubes.specs.Split.{IsSplit}
use Rattle.pb_read.specs.Cubes.{CubeText, cube_refusal}
use Rattle.pb_read.specs.Format.{Spells}
use Rattle.pb_read.specs.declared.fault.ReadFault.{ReadFault}
use Rattle.pb_read.specs.declared.format.Format.{Format}
use Rattle.pb_report.specs.declared.ends.Refusal.{Refusal}
use Rattle.pb_report.specs.declared.ends.Refusal.TheVariants.{Input, Cubes, Split, TooManyCubes}
use Rattle.pb_files.specs.Reading.{ReadsFaulty}
use Rattle.pb_files.specs.Texts.{Text}
use Rattle.pb_files.specs.declared.dividing_fault.DivisionFault.{DivisionFault}
use Rattle.pb_files.specs.declared.dividing_fault.DivisionFault.TheVariants.{CannotRead, Refused, Memory}

-- the cubes are those of the file of this name, with the digest of its text, and none where there is no name
abbrev pub ReadsCubes : {F : Type 0} → (F → Text → List ℕ → F → Type 0) → Option Text → ℕ → List (List Literal) → Option (List ℕ) → F → F → Type 0
ReadsCubes reads None vars cubes digest old new = (cubes ≡ []) × (digest ≡ None) × (new ≡ old)
ReadsCubes reads (Some name) vars cubes digest old new = (text : List ℕ) × reads old name text new × CubeText text vars cubes × (digest ≡ Some (sha256 text))

-- the cubes are those of the split over the given number of variables, and none where that is 0
abbrev pub AreOfSplit : Problem → ℕ → List (List Literal) → Type 0
AreOfSplit p zero cubes = cubes ≡ []
AreOfSplit p (suc k) cubes = IsSplit p (suc k) cubes

-- The instance is read in this format from the file of this name, and then the cubes from theirs, where they have one. Given are
-- its own cubes and those of the file, in this order. The digests are those of the texts that are read.
pub record ReadsGiven {F : Type 0} (reads : F → Text → List ℕ → F → Type 0) (format : Format) (file : Text) (cubes_name : Option Text) (p : Problem) (given : List (List Literal)) (digest : List ℕ) (cubes_digest : Option (List ℕ)) (old new : F) : Type 0 where
  pub text : List ℕ
  pub own : List (List Literal)
  pub of_file : List (List Literal)
  pub after_instance : F
  pub read : reads old file text after_instance
  pub spelled : Spells format text p own
  pub cubes_read : ReadsCubes reads cubes_name p.vars of_file cubes_digest after_instance new
  pub together : given ≡ own ++ of_file
  pub digest_is : digest ≡ sha256 text

-- what is given is read, and the instance is divided by that and by the cubes of the split over `variables` variables, in this
-- order
pub record ReadsDivided {F : Type 0} (reads : F → Text → List ℕ → F → Type 0) (format : Format) (file : Text) (cubes_name : Option Text) (variables : ℕ) (p : Problem) (cubes : List (List Literal)) (digest : List ℕ) (cubes_digest : Option (List ℕ)) (old new : F) : Type 0 where
  pub given : List (List Literal)
  pub of_split : List (List Literal)
  pub reading : ReadsGiven reads format file cubes_name p given digest cubes_digest old new
  pub split : AreOfSplit p variables of_split
  pub together : cubes ≡ given ++ of_split

-- ---- what is refused

-- the text of the file of this name, which is that of cubes over `vars` variables, has this fault
abbrev pub ReadsFaultyCubes : {F : Type 0} → (F → Text → List ℕ → F → Type 0) → Option Text → ℕ → ReadFault → F → F → Type 0
ReadsFaultyCubes reads None vars fault old new = ⊥
ReadsFaultyCubes reads (Some name) vars fault old new = (text : List ℕ) × reads old name text new × (cube_refusal text vars ≡ Some fault)

-- `variables` variables are more than can be split, or than the instance has
abbrev pub AreTooManyToSplit : ℕ → Problem → Type 0
AreTooManyToSplit variables p = (MAX_SPLIT < variables) ⊎ (p.vars < variables)

-- Of what is read this is refused: the text of the instance, with its fault; or that of its cubes, with its fault, where the
-- instance's has none; or the split over `variables` variables, where the cubes' has none; or, where the split can be made, the
-- number of all cubes.
abbrev pub ReadsRefused : {F : Type 0} → (F → Text → List ℕ → F → Type 0) → Format → Text → Option Text → ℕ → F → F → Refusal → Type 0
ReadsRefused reads format file cubes_name variables old new (Input fault) = ReadsFaulty reads format file fault old new
ReadsRefused {F} reads format file cubes_name variables old new (Cubes fault) =
    (text : List ℕ) × (p : Problem) × (own : List (List Literal)) × (between : F)
    × reads old file text between × Spells format text p own × ReadsFaultyCubes reads cubes_name p.vars fault between new
ReadsRefused reads format file cubes_name variables old new Split =
    (p : Problem) × (given : List (List Literal)) × (digest : List ℕ) × (cubes_digest : Option (List ℕ))
    × ReadsGiven reads format file cubes_name p given digest cubes_digest old new × AreTooManyToSplit variables p
ReadsRefused reads format file cubes_name variables old new TooManyCubes =
    (p : Problem) × (given : List (List Literal)) × (digest : List ℕ) × (cubes_digest : Option (List ℕ)) × (of_split : List (List Literal))
    × ReadsGiven reads format file cubes_name p given digest cubes_digest old new × (¬ AreTooManyToSplit variables p)
    × AreOfSplit p variables of_split × (MAX_CUBES < length (given ++ of_split))

-- where the fault is a refusal, this holds of it
abbrev pub IfRefused : DivisionFault → (Refusal → Type 0) → Type 0
IfRefused (CannotRead name reason) Holds = ⊤
IfRefused (Refused name refusal hint) Holds = Holds refusal
IfRefused Memory Holds = ⊤

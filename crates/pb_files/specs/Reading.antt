-- What is read, and from which files.
use Rattle.std.specs.Prelude.{◌≡◌, ◌≢◌, ⊤, ℕ, ◌-◌, List, [], ◌∷◌, ◌++◌, length, drop, filter, codes, nat_eq, option_to_list, Bool, Option, None, Some, IfSome, IsNone, IsPermutation, IsSomeAnd, Ok}
use Rattle.std.specs.Char.{is_ascii_digit}
use Rattle.std.specs.List.{ends_with, suffix_len}
use Rattle.std.specs.Path.{path_file_stem}
use Rattle.std.specs.Str.Parse.{ParsesUnsigned}
use Rattle.std.specs.declared.num.ParseIntError.{ParseIntError}
use Rattle.hex.specs.Hex.{encode_lower}
use Rattle.sha2.specs.Sha256.{sha256}
use Rattle.pb_files.specs.Texts.{Text}
use Rattle.pb_files.specs.Writing.{index_lines}
use Rattle.pb_files.specs.declared.reports_fault.ReportsFault.{ReportsFault}
use Rattle.pb_files.specs.declared.reports_fault.ReportsFault.TheVariants.{Refused}
use Rattle.pb_inst.specs.Literal.{Literal}
use Rattle.pb_inst.specs.Problem.{Problem}
use Rattle.pb_read.specs.Format.{Spells, text_refusal}
use Rattle.pb_read.specs.declared.fault.ReadFault.{ReadFault}
use Rattle.pb_read.specs.declared.format.Format.{Format}
use Rattle.pb_report.specs.Report.{Claims}
use Rattle.pb_parts.specs.Parts.{IsPartReport}
use Rattle.pb_parts.specs.declared.parts.PartReport.{PartReport}
use Rattle.pb_join.specs.declared.reports.PieceReport.{PieceReport}

-- the digits that end the text
abbrev pub last_digits : Text → Text
last_digits text = drop (length text - suffix_len is_ascii_digit text) text

-- the piece has the number that ends the file's name before its last dot
abbrev pub IsNumberOf : Text → ℕ → Type 0
IsNumberOf name number = IsSomeAnd (path_file_stem name) (λ stem. ParsesUnsigned {E = ParseIntError} 32 10 (last_digits stem) (Ok number))

-- the report is of the piece that the file's name tells, and claims what its text says of `vars` variables
pub record IsReportOf (format : Format) (vars : ℕ) (name text : Text) (report : PieceReport) : Type 0 where
  pub number : IsNumberOf name report.number
  pub claim : Claims format vars text report.claim

-- the text has this report, or is empty and has none
abbrev pub HasIfAny : {R : Type 0} → (Text → R → Type 0) → Text → Option R → Type 0
HasIfAny Has text None = text ≡ []
HasIfAny Has text (Some report) = (text ≢ []) × Has text report

-- The files of these names are read one after the other, and these are their reports. An empty file has no report, and each other
-- one has one, which a file of this name and this text has.
abbrev pub ReadsEach : {F : Type 0} {R : Type 0} → (F → Text → List ℕ → F → Type 0) → (Text → Text → R → Type 0) → List Text → List R → F → F → Type 0
ReadsEach reads Has [] reports old new = (reports ≡ []) × (new ≡ old)
ReadsEach {F} {R} reads Has (name ∷ names) reports old new =
    (text : List ℕ) × (found : Option R) × (rest : List R) × (between : F) × reads old name text between
    × HasIfAny (Has name) text found × (reports ≡ option_to_list found ++ rest) × ReadsEach reads Has names rest between new

-- the reports of pieces are those of these files
abbrev pub ReadsReports : {F : Type 0} → (F → Text → List ℕ → F → Type 0) → Format → ℕ → List Text → List PieceReport → F → F → Type 0
ReadsReports reads format vars = ReadsEach reads (IsReportOf format vars)

-- the reports of parts are those of these files, whatever the names are
abbrev pub ReadsParts : {F : Type 0} → (F → Text → List ℕ → F → Type 0) → Format → ℕ → List Text → List PartReport → F → F → Type 0
ReadsParts reads format vars = ReadsEach reads (λ name. IsPartReport format vars)

abbrev pub is_report_name : Text → Bool
is_report_name name = ends_with nat_eq name (codes ".report")

-- the file of this name in a folder is its index
abbrev pub is_index_name : Text → Bool
is_index_name name = ends_with nat_eq name (codes "/index")

-- An operand that is no folder is the file of a report, and there is no index. Of a folder those files are reports that end in
-- `.report`, and its index is there where it has one.
abbrev pub AreNamedBy : Text → Option (List Text) → List Text → List Text → Type 0
AreNamedBy operand None reports indexes = (reports ≡ operand ∷ []) × (indexes ≡ [])
AreNamedBy operand (Some found) reports indexes = IsPermutation (filter is_report_name found) reports × (indexes ≡ filter is_index_name found)

-- the operands are looked at one after the other, and these files of reports and these indexes are those that they name
abbrev pub ListsFiles : {F : Type 0} → (F → Text → Option (List Text) → F → Type 0) → List Text → List Text → List Text → F → F → Type 0
ListsFiles lists [] reports indexes old new = (reports ≡ []) × (indexes ≡ []) × (new ≡ old)
ListsFiles {F} lists (operand ∷ operands) reports indexes old new =
    (found : Option (List Text)) × (first : List Text) × (rest : List Text) × (first_index : List Text) × (rest_indexes : List Text) × (between : F)
    × lists old operand found between × AreNamedBy operand found first first_index
    × (reports ≡ first ++ rest) × (indexes ≡ first_index ++ rest_indexes) × ListsFiles lists operands rest rest_indexes between new

-- the file of this name is read, and its text, which has this digest, is that of the instance
pub record ReadsInstance {F : Type 0} (reads : F → Text → List ℕ → F → Type 0) (format : Format) (name : Text) (p : Problem) (digest : List ℕ) (old new : F) : Type 0 where
  pub text : List ℕ
  pub read : reads old name text new
  pub cubes : List (List Literal)
  pub spelled : Spells format text p cubes
  pub digest_is : digest ≡ sha256 text

-- the file of this name is read, and its text has this fault, and so spells no instance
abbrev pub ReadsFaulty : {F : Type 0} → (F → Text → List ℕ → F → Type 0) → Format → Text → ReadFault → F → F → Type 0
ReadsFaulty reads format name fault old new = (text : List ℕ) × reads old name text new × (text_refusal format text ≡ Some fault)

-- where the text of the instance has a fault, this holds of it
abbrev pub IfFaulty : ReportsFault → (ReadFault → Type 0) → Type 0
IfFaulty (Refused name fault hint) Holds = Holds fault
IfFaulty _ Holds = ⊤

-- the files of these names are read one after the other, and each of them has this text
abbrev pub ReadsSame : {F : Type 0} → (F → Text → List ℕ → F → Type 0) → Text → List Text → F → F → Type 0
ReadsSame reads text [] old new = new ≡ old
ReadsSame {F} reads text (name ∷ names) old new = (between : F) × reads old name text between × ReadsSame reads text names between new

-- There are as many pieces as are asked for, where a number is; else there is an index. Each index is read, and is that of
-- `pieces` pieces of an instance in this format, of `vars` variables, whose text has this digest.
pub record CountsPieces {F : Type 0} (reads : F → Text → List ℕ → F → Type 0) (format : Format) (vars : ℕ) (digest : List ℕ) (asked : Option ℕ) (indexes : List Text) (pieces : ℕ) (old new : F) : Type 0 where
  pub asked_for : IfSome asked (λ n. pieces ≡ n)
  pub told : IsNone asked → indexes ≢ []
  pub read : ReadsSame reads (index_lines format pieces vars (encode_lower digest)) indexes old new

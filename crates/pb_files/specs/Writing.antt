-- What is written, and to which files.
use Rattle.std.specs.Prelude.{◌≡◌, ℕ, zero, suc, ◌+◌, ◌-◌, Bool, false, List, [], ◌++◌, length, codes, decimal}
use Rattle.pb_files.specs.Texts.{Text}
use Rattle.hex.specs.Hex.{encode_lower}
use Rattle.pb_inst.specs.Literal.{Literal}
use Rattle.pb_inst.specs.Problem.{Problem}
use Rattle.pb_read.specs.Format.{Spells}
use Rattle.pb_read.specs.declared.format.Format.{Format}
use Rattle.pb_write.specs.Pieces.{piece_problem}
use Rattle.pb_write.specs.Turned.{written_problem}
use Rattle.pb_write.specs.Written.{written_format}
use Rattle.pb_files.specs.Names.{path, piece_name, written_name}

-- the pieces below this number are written one after the other, each to the file of its number in the folder, which has its text
abbrev pub WritesPieces : {F : Type 0} → (F → Text → List ℕ → F → Type 0) → Format → Text → Problem → List (List Literal) → ℕ → F → F → Type 0
WritesPieces writes format folder p cubes zero old new = new ≡ old
WritesPieces {F} writes format folder p cubes (suc i) old new =
    (between : F) × (text : List ℕ) × WritesPieces writes format folder p cubes i old between
    × Spells (written_format format) text (written_problem (piece_problem p cubes i)) []
    × writes between (path folder (piece_name format i (length cubes))) text new

-- the names of the pieces below this number, each on a line
abbrev pub name_lines : Format → ℕ → ℕ → Text
name_lines format last zero = []
name_lines format last (suc i) = name_lines format last i ++ (piece_name format i last ++ codes "\n")

-- a word and its value, on a line
abbrev pub told_line : Text → Text → Text
told_line word value = word ++ codes " " ++ value ++ codes "\n"

-- how many pieces there are, the format in which they are written, the number of variables, the digits of a digest, and the
-- pieces' names in order
abbrev pub index_lines : Format → ℕ → ℕ → Text → Text
index_lines format pieces vars digits =
    told_line (codes "pieces") (decimal pieces)
    ++ told_line (codes "format") (written_name format)
    ++ told_line (codes "variables") (decimal vars)
    ++ told_line (codes "sha256") digits
    ++ name_lines format (pieces - 1) pieces

-- the index of the pieces of these cubes and the remainder
abbrev pub index_text : Format → List (List Literal) → ℕ → List ℕ → Text
index_text format cubes vars digest = index_lines format (length cubes + 1) vars (encode_lower digest)

-- the folder is made where it is missing, and nothing has the index's name
pub record MakesRoom {F : Type 0} (makes : F → Text → F → Type 0) (looks : F → Text → Bool → F → Type 0) (folder index : Text) (old new : F) : Type 0 where
  pub after_folder : F
  pub made : makes old folder after_folder
  pub free : looks after_folder index false new

-- There is room in the folder. Then each piece is written to the file of its number, and last the index.
pub record WritesDivided {F : Type 0} (makes : F → Text → F → Type 0) (looks : F → Text → Bool → F → Type 0) (writes : F → Text → List ℕ → F → Type 0) (format : Format) (folder : Text) (p : Problem) (cubes : List (List Literal)) (digest : List ℕ) (old new : F) : Type 0 where
  pub before_pieces : F
  pub after_pieces : F
  pub room : MakesRoom makes looks folder (path folder (codes "index")) old before_pieces
  pub pieces : WritesPieces writes format folder p cubes (length cubes + 1) before_pieces after_pieces
  pub index : writes after_pieces (path folder (codes "index")) (index_text format cubes p.vars digest) new

-- What is read, and what is written, and to which files.
use Rattle.std.specs.Prelude.{◌≡◌, ℕ, ◌+◌, Bool, List, Option, codes, decimal, length, option_map}
use Rattle.std.specs.Io.KnownBytes.{Appends}
use Rattle.clap.specs.Words.{Text, matches_of}
use Rattle.pb_files.specs.Dividing.{ReadsDivided}
use Rattle.pb_files.specs.Writing.{WritesDivided, told_line}
use Rattle.pb_inst.specs.Literal.{Literal}
use Rattle.pb_inst.specs.Problem.{Problem}
use Rattle.pb_line.specs.Dividing.{IsLineOf, pbcube_pieces}
use Rattle.pb_line.specs.declared.dividing.args.Line.{Line}

-- the files of a line are read, and what they make, this number of pieces, is written to the files of its folder
pub record Divides {F : Type 0} (reads : F → Text → List ℕ → F → Type 0) (makes : F → Text → F → Type 0) (looks : F → Text → Bool → F → Type 0) (writes : F → Text → List ℕ → F → Type 0) (line : Line) (pieces : ℕ) (old new : F) : Type 0 where
  pub problem : Problem
  pub cubes : List (List Literal)
  pub digest : List ℕ
  pub cubes_digest : Option (List ℕ)
  pub between : F
  pub reading : ReadsDivided reads line.format line.file.now (option_map (λ name. name.now) line.cubes) line.split problem cubes digest cubes_digest old between
  pub writing : WritesDivided makes looks writes line.format line.out.now problem cubes digest between new
  pub counted : pieces ≡ length cubes + 1

-- the same of a line that has the values of the words' matches, and what was written to the output tells how many pieces there
-- are
pub record DividesAsAsked {F : Type 0} (reads : F → Text → List ℕ → F → Type 0) (makes : F → Text → F → Type 0) (looks : F → Text → Bool → F → Type 0) (writes : F → Text → List ℕ → F → Type 0) (words : List Text) (old new : F) (old_out new_out : Option (List ℕ)) : Type 0 where
  pub line : Line
  pub asked : IsLineOf (matches_of pbcube_pieces words) line
  pub pieces : ℕ
  pub divides : Divides reads makes looks writes line pieces old new
  pub told : Appends old_out new_out (told_line (codes "pieces") (decimal pieces))

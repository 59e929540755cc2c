-- Which files the program fetches, in which order, and what they hold.
use Rattle.std.specs.Prelude.{◌≡◌, ◌⊎◌, ℕ, Bool, true, false, List, Option, None, Some}
use Rattle.clap.specs.Words.{Text, matches_of}
use Rattle.pb_program.specs.declared.args.Line.{Line}
use Rattle.pb_program.specs.Line.{IsLineOf, pbcube}

-- the cube file is fetched, where the line names one
abbrev pub FetchesCubes : {F : Type 0} → (F → Text → Bool → F → Type 0) → Line → F → F → Type 0
FetchesCubes {F} fetches line old new =
    ((line.cubes ≡ None) × (new ≡ old)) ⊎ ((name : _) × (line.cubes ≡ Some name) × (opened : Bool) × fetches old name.now opened new)

-- the input is fetched, and where it can be opened the cube file after it
abbrev pub FetchesFor : {F : Type 0} → (F → Text → Bool → F → Type 0) → Line → F → F → Type 0
FetchesFor {F} fetches line old new =
    fetches old line.file.now false new ⊎ ((between : F) × fetches old line.file.now true between × FetchesCubes fetches line between new)

-- nothing is fetched, or the files of a line that has the values of the words' matches
abbrev pub FetchesInOrder : {F : Type 0} → (F → Text → Bool → F → Type 0) → List Text → F → F → Type 0
FetchesInOrder {F} fetches words old new =
    (new ≡ old) ⊎ ((line : Line) × IsLineOf (matches_of pbcube words) line × FetchesFor fetches line old new)

-- the cube file has this text, as far as its reader tells it, or the line names none
abbrev pub HasCubes : {F : Type 0} → (F → Text → Option (List ℕ) → Type 0) → Line → F → Option (Option (List ℕ)) → Type 0
HasCubes {F} has line files cubes =
    ((line.cubes ≡ None) × (cubes ≡ None)) ⊎ ((name : _) × (line.cubes ≡ Some name) × (text : Option (List ℕ)) × has files name.now text × (cubes ≡ Some text))

-- the files that the line names have these texts, as far as their readers tell them: the input, and after it the cube file
abbrev pub HaveTexts : {F : Type 0} → (F → Text → Bool → F → Type 0) → (F → Text → Option (List ℕ) → Type 0) → Line → F → Option (List ℕ) → Option (Option (List ℕ)) → Type 0
HaveTexts {F} fetches has line files input cubes =
    has files line.file.now input × ((between : F) × fetches files line.file.now true between × HasCubes has line between cubes)

-- What a reader of tokens promises.
use Rattle.std.specs.Prelude.{ℕ, ◌≡◌, ◌⊎◌, List, [], ◌++◌, Some, None, Bool, false}
use Rattle.std.specs.List.{list_any}
use Rattle.pb_read.specs.Drafts.{Gathered, gathered}
use Rattle.pb_read.specs.declared.fault.ReadFault.{ReadFault}
use Rattle.pb_read.specs.declared.fault.ReadKind.TheVariants.{Memory}
use Rattle.pb_read.specs.Text.{Placed, items}
use Rattle.pb_read.specs.Refusal.{first_fault}
use Rattle.pb_read.specs.Opb.{Token, is_end, line_of, statements_in, statement_faults}

abbrev pub IsMemory : ReadFault → Type 0
IsMemory f = (f.kind ≡ Memory) × (f.line ≡ 0)

-- each text that begins with these tokens has this fault
abbrev pub Refuses : List (Placed Token) → ReadFault → Type 0
Refuses ts f = (more : List (Placed Token)) → first_fault statement_faults [] (statements_in (ts ++ more)) ≡ Some f

-- memory ran out, or each text that begins with these tokens has this fault
abbrev pub Fails : List (Placed Token) → ReadFault → Type 0
Fails ts f = IsMemory f ⊎ Refuses ts f

abbrev pub ends : Placed Token → Bool
ends t = is_end t.item

-- the tokens are whole statements
abbrev pub IsWhole : List (Placed Token) → Type 0
IsWhole done = (more : List (Placed Token)) → statements_in (done ++ more) ≡ statements_in done ++ statements_in more

-- whole statements without a fault, and the tokens of one that has begun
pub record IsAt (done begun : List (Placed Token)) : Type 0 where
  pub whole : IsWhole done
  pub clear : first_fault statement_faults [] (statements_in done) ≡ None
  pub unended : list_any ends begun ≡ false

-- A reader has these whole statements, and keeps what was gathered of one that has begun on the line.
pub record Holds (built : List (List Token) → Type 0) (draft : Gathered) (line : ℕ) (taken : List (Placed Token)) : Type 0 where
  pub done : List (Placed Token)
  pub begun : List (Placed Token)
  pub split : taken ≡ done ++ begun
  pub here : IsAt done begun
  pub held : draft ≡ gathered (items begun)
  pub line_is : (begun ≡ []) ⊎ (line ≡ line_of begun)
  pub statements : built (items (statements_in done))

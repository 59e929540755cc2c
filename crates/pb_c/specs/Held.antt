-- What a handle owns.
use Rattle.std.specs.Prelude.{Option, None, Some}
use base.Fml.{Fml, ftrue}
use denote.RattleType.{RattleType}
use denote.RawPtr.{Ptr}
use Rattle.std.specs.contracts.impls.GlobalAllocator.TheImpl.{ghosts}
use Rattle.std_alloc.specs.Box.Ownership.{box_owns}

-- nothing, or the value at the pointer and the right to free its block
abbrev pub holds : (R : RattleType) → Ptr → Option R.Denot → Fml
holds R p None = ftrue
holds R p (Some x) = box_owns (λ ty at. ghosts.dealloc_token (record { memory = record { seal = tt } }) ty at) R p x

-- What a check of the bounds against the best cost says.
use Rattle.std.specs.Prelude.{◌≡◌, ℕ, Option}
use Rattle.pb_inst.specs.Problem.{Problem}
use Rattle.pb_inst.specs.Incumbent.{Solution}
use Rattle.pb_engine.specs.EngineState.{EngineState}
use Rattle.pb_prune.specs.declared.agreed_prefix.AgreedPrefix.{AgreedPrefix}
use Rattle.pb_control.specs.declared.pruning.Pruning.{Pruning}
use Rattle.pb_control.specs.declared.pruning.Pruning.TheVariants.{Tied, Closed}
use Rattle.pb_prune.specs.AgreedPrefix.{KnowsHeldPrefix}
use Rattle.pb_prune.specs.Subtree.{IsClosed, IsTied}

-- what is said of the subtree below the trail is so; the engine stays, and so does what is known of the agreed prefix
pub record Checks (p : Problem) (held : Option Solution) (old new : EngineState) (agreed : AgreedPrefix) (pruning : Pruning) : Type 0 where
  pub closed : pruning ≡ Closed → IsClosed p old held
  pub tied : (var : ℕ) → pruning ≡ Tied var → IsTied p old held var
  pub unchanged : new ≡ old
  pub known : KnowsHeldPrefix old.trail held agreed

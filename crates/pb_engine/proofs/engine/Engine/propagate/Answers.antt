use Rattle.std.proofs.Common.{◌≡◌, refl, sym, subst}
use Rattle.pb_normal.specs.Widths.{either}
use Rattle.pb_trail.specs.declared.propagation.Step.{Step}
use Rattle.pb_trail.specs.EngineState.{EngineState}
use Rattle.pb_trail.specs.Steps.{Propagates}
use Rattle.pb_engine.proofs.engine.Engine.propagate.Goals as goal
use Rattle.pb_engine.proofs.engine.Engine.propagate.Goals.{in-Narrow, in-Wide}

-- what `Propagates` says carries over to equal engines and steps
carried : {old old' new new' : EngineState} {step step' : Step} → old ≡ old' → new' ≡ new → step' ≡ step → Propagates old new step → Propagates old' new' step'
carried {old} {old'} {new} {new'} {step} {step'} before after result told =
    subst (λ (e : EngineState). Propagates e new' step') before (subst (λ (e : EngineState). Propagates old e step') (sym after) (subst (λ (s : Step). Propagates old new s) (sym result) told))

pub returns : goal.returns
returns c =
    elim c.match-self.branch [
      | in-Narrow w ↦
          let before : w.in-Narrow.engine ≡ c.args.self.now = cc in
          let after : either c.match-self.self-inside.at_width ≡ w.propagate.new.self = rw (w.self-inside-is) refl in
          carried before after w.result-is w.propagate.ensures
      | in-Wide w ↦
          let before : w.in-Wide.engine ≡ c.args.self.now = cc in
          let after : either c.match-self.self-inside.at_width ≡ w.propagate-in-Wide.new.self = rw (w.self-inside-is) refl in
          carried before after w.result-is w.propagate-in-Wide.ensures
    ]

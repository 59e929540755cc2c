use Rattle.std.proofs.Common.{◌≡◌, refl, sym, subst}
use Rattle.pb_inst.specs.Literal.{Literal}
use Rattle.pb_normal.specs.Widths.{either}
use Rattle.pb_trail.specs.declared.propagation.Step.{Step}
use Rattle.pb_trail.specs.EngineState.{EngineState}
use Rattle.pb_trail.specs.Steps.{Assumes}
use Rattle.pb_engine.proofs.engine.Engine.assume.Goals as goal
use Rattle.pb_engine.proofs.engine.Engine.assume.Goals.{in-Narrow, in-Wide}

-- what `Assumes` says carries over to equal engines and steps
carried : {old old' new new' : EngineState} {step step' : Step} → (lit : Literal) → old ≡ old' → new' ≡ new → step' ≡ step → Assumes old lit new step → Assumes old' lit new' step'
carried {old} {old'} {new} {new'} {step} {step'} lit before after result told =
    subst (λ (e : EngineState). Assumes e lit new' step') before (subst (λ (e : EngineState). Assumes old lit e step') (sym after) (subst (λ (s : Step). Assumes old lit new s) (sym result) told))

pub returns : goal.returns
returns c =
    elim c.match-self.branch [
      | in-Narrow w ↦
          let before : w.in-Narrow.engine ≡ c.args.self.now = cc in
          let after : either c.match-self.self-inside.at_width ≡ w.assume.new.self = rw (w.self-inside-is) refl in
          carried c.args.lit before after w.result-is w.assume.ensures
      | in-Wide w ↦
          let before : w.in-Wide.engine ≡ c.args.self.now = cc in
          let after : either c.match-self.self-inside.at_width ≡ w.assume-in-Wide.new.self = rw (w.self-inside-is) refl in
          carried c.args.lit before after w.result-is w.assume-in-Wide.ensures
    ]

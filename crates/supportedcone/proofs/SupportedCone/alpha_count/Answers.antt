use mathlib.Core.Path.{◌≡◌, refl}
use lib.Ieee.{Float}
use Prim.Native.Nat.{ℕ}
use Rattle.layout.specs.Problems.Cones.{alpha_count}
use Rattle.supportedcone.specs.declared.SupportedCone.{SupportedCone}
use Rattle.supportedcone.specs.declared.SupportedCone.TheVariants.{ZeroConeT, NonnegativeConeT, SecondOrderConeT, ExponentialConeT, PowerConeT, GenPowerConeT, PSDTriangleConeT}
use Rattle.supportedcone.specs.Cases.{record_of}
use Rattle.supportedcone.proofs.SupportedCone.alpha_count.Goals as goal

-- the cases without α values
without : (s : SupportedCone) → ((x : Float) → s ≡ PowerConeT x → ⊥) → ((x y : ℕ) → s ≡ GenPowerConeT x y → ⊥) → 0 ≡ alpha_count (record_of s)
without (ZeroConeT a) p g = refl
without (NonnegativeConeT a) p g = refl
without (SecondOrderConeT a) p g = refl
without ExponentialConeT p g = refl
without (PowerConeT α) p g = absurd (p α refl)
without (GenPowerConeT a c) p g = absurd (g a c refl)
without (PSDTriangleConeT a) p g = refl

pub returns-in_default : goal.returns-in_default
returns-in_default c = without c.args.self c.in_default.not-PowerConeT c.in_default.not-GenPowerConeT

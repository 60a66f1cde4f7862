use Rattle.std.proofs.Common.{List, ℕ, sym, subst}
use Rattle.kms_sealing.specs.Opening.{IsOpen}
use Rattle.kms_core.proofs.SealedLaws.{keys_same}
use Rattle.kms_core.proofs.engine.Engine.sealed.Goals as goal

pub invariant_of-self : goal.invariant_of-self
invariant_of-self c = record {
  short = c.self.invariant.short;
  keys = keys_same c.self.inside.keys c.seal.new.self c.self.inside.store.kept.keys c.seal.ensures.masters c.seal.ensures.same c.self.invariant.keys;
  opens = subst (λ (m : List (List ℕ)). IsOpen m c.self.inside.store.kept) (sym c.seal.ensures.masters) c.self.invariant.opens;
  rising = c.self.invariant.rising;
}
